-- The words that ask for a table name a range of seeds.
use Rattle.std.proofs.Common.{if◌then◌else◌, ℕ, ◌≡◌, ◌+◌, ◌^◌, ◌<◌, ◌≤◌, ◌&&◌, Bool, true, false, List, [], ◌∷◌, Option, Some, None, bytes_eq, codes, nat_lt, nat_le, refl, arith}
use Rattle.std.specs.Option.{option_and_then}
use Rattle.std.proofs.lemmas.Bool.Decides.{nat_tests}
use Rattle.wdf_top.specs.Words.{number_word}
use Rattle.wdf_hunt.specs.declared.words.Form.{Form}
use Rattle.wdf_hunt.specs.declared.words.Form.TheVariants.{Seeds, Shrink, Sum, Explain}
use Rattle.wdf_hunt.specs.Words.{seeds_form, form_with_number, form_with_numbers, form_of_words, jitter_in}

-- a range of seeds
pub record IsRange (from count : ℕ) : Type 0 where
  pub some : 0 < count
  pub fits : from + count ≤ 2 ^ 64

-- a form that asks for a table names a range
abbrev NamesRange : Option Form → Type 0
NamesRange form = (from count jitter : ℕ) → form ≡ Some (Seeds from count jitter) → IsRange from count

no_form : NamesRange None
no_form from count jitter same = absurd (let no : ⊥ = cc in no)

tested : (n m : ℕ) → (nat_lt 0 m && nat_lt m (2 ^ 32) && nat_le (n + m) (2 ^ 64)) ≡ true → IsRange n m
tested n m h = record { some = grind (arith, nat_tests); fits = grind (arith, nat_tests) }

by_test : (t : Bool) (n m j from count jitter : ℕ) → (if t then Some (Seeds n m j) else None) ≡ Some (Seeds from count jitter) → (t ≡ true) × (n ≡ from) × (m ≡ count)
by_test true n m j from count jitter same = (refl, (let e : n ≡ from = cc in e), (let e : m ≡ count = cc in e))
by_test false n m j from count jitter same = absurd (let no : ⊥ = cc in no)

by_numbers : (n m j : ℕ) → NamesRange (seeds_form n m j)
by_numbers n m j from count jitter same =
    let h = by_test (nat_lt 0 m && nat_lt m (2 ^ 32) && nat_le (n + m) (2 ^ 64)) n m j from count jitter same in
    rw (← h.1, ← h.2) (tested n m h.0)

-- the word `seeds` and two numbers
by_word : (b : Bool) (n m j : ℕ) → NamesRange (if b then seeds_form n m j else None)
by_word true n m j = by_numbers n m j
by_word false n m j = no_form

-- the word `shrink` and a number ask for no table
no_shrink : (b : Bool) (n j : ℕ) → NamesRange (if b then Some (Shrink n j) else None)
no_shrink true n j = λ from count jitter same. absurd (let no : ⊥ = cc in no)
no_shrink false n j = no_form

-- ---- where words are numbers

by_some : {X : Type 0} (f : X → Option Form) (x : Option X) → ((y : X) → NamesRange (f y)) → NamesRange (option_and_then f x)
by_some f (Some x) each = each x
by_some f None each = no_form

with_numbers : (word : List ℕ) (n m j : ℕ) → NamesRange (form_with_numbers word n m j)
with_numbers word n m j = by_word (bytes_eq word (codes "seeds")) n m j

with_number : (word : List ℕ) (n j : ℕ) → NamesRange (form_with_number word n j)
with_number word n j = no_shrink (bytes_eq word (codes "shrink")) n j

-- one word alone asks for no table
no_word : (a b : Bool) → NamesRange (if a then Some Sum else (if b then Some Explain else None))
no_word true b = λ from count jitter same. absurd (let z : ⊥ = cc in z)
no_word false true = λ from count jitter same. absurd (let z : ⊥ = cc in z)
no_word false false = no_form

pub range_of_form : (words : List (List ℕ)) → NamesRange (form_of_words words)
range_of_form [] = no_form
range_of_form (word ∷ []) = no_word (bytes_eq word (codes "sum")) (bytes_eq word (codes "explain"))
range_of_form (word ∷ a ∷ []) = by_some (λ n. form_with_number word n 0) (number_word a) (λ n. with_number word n 0)
range_of_form (word ∷ a ∷ b ∷ []) =
    by_some (λ n. option_and_then (λ m. form_with_numbers word n m 0) (number_word b)) (number_word a)
    (λ n. by_some (λ m. form_with_numbers word n m 0) (number_word b) (λ m. with_numbers word n m 0))
range_of_form (word ∷ a ∷ jitter ∷ most ∷ []) =
    by_some (λ n. option_and_then (form_with_number word n) (jitter_in jitter most)) (number_word a)
    (λ n. by_some (form_with_number word n) (jitter_in jitter most) (with_number word n))
range_of_form (word ∷ a ∷ b ∷ jitter ∷ most ∷ []) =
    by_some (λ n. option_and_then (λ m. option_and_then (form_with_numbers word n m) (jitter_in jitter most)) (number_word b)) (number_word a)
    (λ n. by_some (λ m. option_and_then (form_with_numbers word n m) (jitter_in jitter most)) (number_word b)
    (λ m. by_some (form_with_numbers word n m) (jitter_in jitter most) (with_numbers word n m)))
range_of_form (word ∷ a ∷ b ∷ c ∷ d ∷ e ∷ more) = no_form
