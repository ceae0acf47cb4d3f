-- A pattern and the words of a line, word by word.
use Rattle.std.proofs.Common.{ℕ, zero, suc, ◌≡◌, ◌+◌, ◌<◌, ◌&&◌, Bool, true, false, List, [], ◌∷◌, Option, Some, None, drop, get_or, length, slice_get, refl, sym, ap, ◌∙◌}
use Rattle.std.proofs.lemmas.List.{drop_more}
use Rattle.std.proofs.lemmas.Option.{slice_get_within, get_or_from_slice_get}
use Rattle.wdf_expect.specs.Patterns.{is_there, is_begun_by}

-- what is left of a list at a place that has an element
left_at : (xs : List (List ℕ)) (k : ℕ) (x : List ℕ) → k < length xs → x ≡ get_or xs k x → drop k xs ≡ x ∷ drop (k + 1) xs
left_at xs k x inside is = drop_more xs k x inside ∙ ap (λ y. y ∷ drop (k + 1) xs) (sym is)

none_at : (xs : List (List ℕ)) (k : ℕ) → slice_get xs k ≡ None → drop k xs ≡ []
none_at [] zero none = refl
none_at [] (suc k) none = refl
none_at (x ∷ xs) zero none = absurd (let no : ⊥ = cc in no)
none_at (x ∷ xs) (suc k) none = none_at xs k none

by_word : (p : List ℕ) (ps ws : List (List ℕ)) (place : ℕ) (found : Option (List ℕ)) → slice_get ws place ≡ found
    → is_begun_by (p ∷ ps) (drop place ws) ≡ (is_there found p && is_begun_by ps (drop (place + 1) ws))
by_word p ps ws place None is = ap (is_begun_by (p ∷ ps)) (none_at ws place is)
by_word p ps ws place (Some w) is =
    ap (is_begun_by (p ∷ ps)) (left_at ws place w (slice_get_within ws place w is) (sym (get_or_from_slice_get ws place w w is)))

-- the word at a place, and those after it
pub begun_at : (ps ws : List (List ℕ)) (i place : ℕ) (p : List ℕ) → i < length ps → p ≡ get_or ps i p
    → is_begun_by (drop i ps) (drop place ws) ≡ (is_there (slice_get ws place) p && is_begun_by (drop (i + 1) ps) (drop (place + 1) ws))
begun_at ps ws i place p inside is =
    ap (λ qs. is_begun_by qs (drop place ws)) (left_at ps i p inside is) ∙ by_word p (drop (i + 1) ps) ws place (slice_get ws place) refl

-- one word that isn't there is enough
pub stops : (all here there rest said : Bool) → all ≡ here → here ≡ (there && rest) → said ≡ there → said ≡ false → false ≡ all
stops all here there rest said is by same said_not = sym (is ∙ by ∙ ap (λ b. b && rest) (sym same ∙ said_not))

-- else the others decide
pub goes_on : (all here there rest said : Bool) → all ≡ here → here ≡ (there && rest) → said ≡ there → said ≡ true → all ≡ rest
goes_on all here there rest said is by same said_so = is ∙ by ∙ ap (λ b. b && rest) (sym same ∙ said_so)
