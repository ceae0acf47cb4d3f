-- The first word of a text ends at its first blank, and the others are the words of what comes after.
use Rattle.std.proofs.Common.{◌≡◌, ◌∙◌, ◌+◌, ◌-◌, ◌<◌, ◌≤◌, ◌==◌, ℕ, zero, suc, Bool, true, false, cond, Some, None, List, [], ◌∷◌, length, map, take, drop, position, nat_lt, slice_get, option_map, refl, sym, ap, subst, arith}
use Rattle.std.specs.List.{position_or_len}
use Rattle.std.proofs.lemmas.Bool.{ltb-true, ltb-false}
use Rattle.std.proofs.lemmas.List.{take_all, length-drop}
use Rattle.std.proofs.lemmas.List.Sums.{fails_before_first}
use Rattle.std.proofs.lemmas.List.Splits.{slice_split_none, slice_split_first}
use Rattle.std.proofs.lemmas.Option.{slice_get-map}
use Rattle.wdf_trace.specs.Reading.{word, words}

is_blank : ℕ → Bool
is_blank b = b == 32

-- ---- a text with a blank

split_at : (text : List ℕ) (k n : ℕ) (b : Bool) → nat_lt n (length text) ≡ b → position_or_len (λ x. x == 32) text ≡ n → cond b (Some n) None ≡ Some k → words text ≡ take k text ∷ words (drop (k + 1) text)
split_at text k n true l e s =
    let same : n ≡ k = cc in
    let here : position_or_len (λ x. x == 32) text < length text = subst (λ m. m < length text) (sym e) (ltb-true n (length text) l) in
    slice_split_first (λ x. x == 32) text 0 here ∙ ap (λ m. take m text ∷ words (drop (m + 1) text)) (e ∙ same)
split_at text k n false l e s = absurd (let z : ⊥ = cc in z)

pub words_cut : (text : List ℕ) (k : ℕ) → position (λ x. x == 32) text ≡ Some k → words text ≡ take k text ∷ words (drop (k + 1) text)
words_cut text k e = split_at text k _ _ refl refl e

-- ---- a text without one

one_word : (text : List ℕ) (n : ℕ) (b : Bool) → nat_lt n (length text) ≡ b → position_or_len (λ x. x == 32) text ≡ n → cond b (Some n) None ≡ None → words text ≡ text ∷ []
one_word text n true l e s = absurd (let z : ⊥ = cc in z)
one_word text n false l e s =
    let all : length text ≤ position_or_len (λ x. x == 32) text = subst (λ m. length text ≤ m) (sym e) (ltb-false n (length text) l) in
    slice_split_none (λ x. x == 32) text (λ k d m. fails_before_first (λ x. x == 32) text k d (omega (arith, all, m)))

pub words_whole : (text : List ℕ) → position (λ x. x == 32) text ≡ None → words text ≡ text ∷ []
words_whole text e = one_word text _ _ refl refl e

-- ---- the rest of a text, and words by place

pub rest_from : (n : ℕ) (text : List ℕ) → take (length text - n) (drop n text) ≡ drop n text
rest_from n text = take_all (length text - n) (drop n text) (omega (arith, length-drop n text))

pub no_word : (k : ℕ) → word k ([] ∷ []) ≡ []
no_word zero = refl
no_word (suc k) = refl

-- a word after the first is one of the rest
pub later_word : (k : ℕ) (w : List ℕ) (ws : List (List ℕ)) → word k ws ≡ word (k + 1) (w ∷ ws)
later_word k w ws = let e : k + 1 ≡ suc k = omega arith in rw e refl

-- ---- the nine words that are kept

abbrev kept : List (List ℕ) → List (List ℕ)
kept ws = word 0 ws ∷ word 1 ws ∷ word 2 ws ∷ word 3 ws ∷ word 4 ws ∷ word 5 ws ∷ word 6 ws ∷ word 7 ws ∷ word 8 ws ∷ []

kept_word : (k : ℕ) (w : List ℕ) (ws : List (List ℕ)) → slice_get (kept ws) k ≡ Some w → w ≡ word k ws
kept_word zero w ws e = let x : word 0 ws ≡ w = cc in sym x
kept_word (suc zero) w ws e = let x : word 1 ws ≡ w = cc in sym x
kept_word (suc (suc zero)) w ws e = let x : word 2 ws ≡ w = cc in sym x
kept_word (suc (suc (suc zero))) w ws e = let x : word 3 ws ≡ w = cc in sym x
kept_word (suc (suc (suc (suc zero)))) w ws e = let x : word 4 ws ≡ w = cc in sym x
kept_word (suc (suc (suc (suc (suc zero))))) w ws e = let x : word 5 ws ≡ w = cc in sym x
kept_word (suc (suc (suc (suc (suc (suc zero)))))) w ws e = let x : word 6 ws ≡ w = cc in sym x
kept_word (suc (suc (suc (suc (suc (suc (suc zero))))))) w ws e = let x : word 7 ws ≡ w = cc in sym x
kept_word (suc (suc (suc (suc (suc (suc (suc (suc zero)))))))) w ws e = let x : word 8 ws ≡ w = cc in sym x
kept_word (suc (suc (suc (suc (suc (suc (suc (suc (suc k))))))))) w ws e = absurd (let z : ⊥ = cc in z)

-- what the kept slices show is the word at their place
pub kept_at : {B : Type 0} (shown : B → List ℕ) (xs : List B) (k : ℕ) (x : B) (ws : List (List ℕ)) → map shown xs ≡ word 0 ws ∷ word 1 ws ∷ word 2 ws ∷ word 3 ws ∷ word 4 ws ∷ word 5 ws ∷ word 6 ws ∷ word 7 ws ∷ word 8 ws ∷ [] → slice_get xs k ≡ Some x → shown x ≡ word k ws
kept_at shown xs k x ws e s =
    let found : slice_get (kept ws) k ≡ Some (shown x) = ap (λ l. slice_get l k) (sym e) ∙ slice_get-map shown xs k ∙ ap (option_map shown) s in
    kept_word k (shown x) ws found

pub cons : {A : Type 0} {x y : A} {xs ys : List A} → x ≡ y → xs ≡ ys → x ∷ xs ≡ y ∷ ys
cons e f = cc
