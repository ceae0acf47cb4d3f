-- A text is read line by line.
use Rattle.std.proofs.Common.{◌≡◌, ℕ, ◌+◌, ◌<◌, List, [], ◌∷◌, length, get_or, drop, take, zero, suc, Bool, true, false, cond, not, refl, ap, ◌∙◌, sym, subst, arith, drop-cons, drop-drop}
use Rattle.std.specs.Prelude.{◌==◌}
use Rattle.std.specs.List.{take_while, prefix_len}
use Rattle.std.proofs.lemmas.List.Sums.{take_while-cons}
use Rattle.wdf_tokens.specs.Tokens.{is_inside, lines_of, with_byte}

-- the first line of the bytes, and the lines after its end
abbrev BeginsWith : List ℕ → List ℕ → Type 0
BeginsWith bytes line = lines_of bytes ≡ line ∷ lines_of (drop (length line + 1) bytes)

begins_with_end : (b : ℕ) (rest : List ℕ) → (b == 10) ≡ true → BeginsWith (b ∷ rest) []
begins_with_end b rest is_end = rw is_end refl

begins_with_last : (b : ℕ) → (b == 10) ≡ false → BeginsWith (b ∷ []) (b ∷ [])
begins_with_last b inside = rw inside refl

begins_with_byte : (b c : ℕ) (rest line : List ℕ) → (b == 10) ≡ false → BeginsWith (c ∷ rest) line → BeginsWith (b ∷ c ∷ rest) (b ∷ line)
begins_with_byte b c rest line inside behind =
    let further : suc (length line) + 1 ≡ suc (length line + 1) = omega arith in
    rw inside (ap (with_byte b) behind ∙ ap (λ n. (b ∷ line) ∷ lines_of (drop n (b ∷ c ∷ rest))) (sym further))

begins_by_test : (b : ℕ) (line : List ℕ) (rest : List ℕ) (test : Bool) → (b == 10) ≡ test → ((b == 10) ≡ false → BeginsWith (b ∷ rest) (b ∷ line)) → BeginsWith (b ∷ rest) (cond (not (b == 10)) (b ∷ line) [])
begins_by_test b line rest true is inside = let P : Bool → Type 0 = λ t. BeginsWith (b ∷ rest) (cond (not t) (b ∷ line) []) in subst P (sym is) (begins_with_end b rest is)
begins_by_test b line rest false is inside = let P : Bool → Type 0 = λ t. BeginsWith (b ∷ rest) (cond (not t) (b ∷ line) []) in subst P (sym is) (inside is)

-- the first line goes to the first LF
first_line : (b : ℕ) (rest : List ℕ) → BeginsWith (b ∷ rest) (take_while is_inside (b ∷ rest))
first_line b [] = subst (BeginsWith (b ∷ [])) (sym (take_while-cons is_inside b [])) (begins_by_test b [] [] (b == 10) refl (begins_with_last b))
first_line b (c ∷ rest) =
    subst (BeginsWith (b ∷ c ∷ rest)) (sym (take_while-cons is_inside b (c ∷ rest)))
    (begins_by_test b (take_while is_inside (c ∷ rest)) (c ∷ rest) (b == 10) refl (λ inside. begins_with_byte b c rest (take_while is_inside (c ∷ rest)) inside (first_line c rest)))

-- the line at a place, and the lines after it
pub lines_from : (text : List ℕ) (at : ℕ) → at < length text → lines_of (drop at text) ≡ take_while is_inside (drop at text) ∷ lines_of (drop (at + (length (take_while is_inside (drop at text)) + 1)) text)
lines_from text at inside =
    let cut : drop at text ≡ get_or text at 0 ∷ drop (suc at) text = drop-cons text at 0 inside in
    let P : List ℕ → Type 0 = λ bytes. BeginsWith bytes (take_while is_inside bytes) in
    let begins : BeginsWith (drop at text) (take_while is_inside (drop at text)) = subst P (sym cut) (first_line (get_or text at 0) (drop (suc at) text)) in
    begins ∙ ap (λ bytes. take_while is_inside (drop at text) ∷ lines_of bytes) (drop-drop (length (take_while is_inside (drop at text)) + 1) at text)

-- a line as the code cuts it out
pub cut_line : (rest : List ℕ) (n : ℕ) → n ≡ length (take_while is_inside rest) → take n rest ≡ take_while is_inside rest
cut_line rest n is = rw is (take_whole (prefix_len is_inside rest) rest)
  where
    take_whole : (k : ℕ) (xs : List ℕ) → take (length (take k xs)) xs ≡ take k xs
    take_whole zero xs = refl
    take_whole (suc k) [] = refl
    take_whole (suc k) (x ∷ xs) = ap (λ l. x ∷ l) (take_whole k xs)
