-- The least of the items of a list that pass a test, one item after the other.
use Rattle.std.proofs.Common.{if◌then◌else◌, ◌≡◌, ◌⊎◌, inl, inr, ℕ, ◌<◌, ◌≤◌, nat_le, Bool, true, false, ◌==◌, List, [], ◌∷◌, ◌++◌, Option, Some, None, filter, refl, sym, ap, ◌∙◌, arith, leb-true, leb-false}
use Rattle.std.specs.List.{range_with_len}
use Rattle.std.proofs.lemmas.Bool.{cases_Bool, eqb-true, or_cases}
use Rattle.wdf_model.specs.Tables.{least, lesser}
use Rattle.wdf_ilist.specs.Family.{is_on}
use Rattle.wdf_ilist.proofs.Items.{on_pushed}
use Rattle.wdf_power.proofs.Least.{first_is_least, least_of_none}

-- what was found is the least of the items that pass
abbrev pub IsLow : (ℕ → Bool) → List ℕ → Option ℕ → Type 0
IsLow p xs None = (x : ℕ) → is_on x xs ≡ true → p x ≡ false
IsLow p xs (Some m) = (p m ≡ true) × ((x : ℕ) → is_on x xs ≡ true → p x ≡ true → m ≤ x)

pub low_none : (p : ℕ → Bool) → IsLow p [] None
low_none p = λ x h. absurd (let z : ⊥ = cc in z)

-- an item of a longer list
pub one_of : (x r : ℕ) (xs : List ℕ) → is_on x (xs ++ r ∷ []) ≡ true → (is_on x xs ≡ true) ⊎ (x ≡ r)
one_of x r xs h =
    elim (or_cases (is_on x xs) (r == x) (sym (on_pushed r x xs) ∙ h)) [ inl a ↦ inl a | inr b ↦ inr (sym (eqb-true r x b)) ]

pub low_fails : (p : ℕ → Bool) (xs : List ℕ) (r : ℕ) (found : Option ℕ) → p r ≡ false → IsLow p xs found → IsLow p (xs ++ r ∷ []) found
low_fails p xs r None e low = λ x h. elim (one_of x r xs h) [ inl a ↦ low x a | inr b ↦ ap p b ∙ e ]
low_fails p xs r (Some m) e low =
    (low.0, λ x h passes. elim (one_of x r xs h) [ inl a ↦ low.1 x a passes | inr b ↦ absurd (let f : p x ≡ false = ap p b ∙ e in let z : ⊥ = cc in z) ])

lower : (p : ℕ → Bool) (xs : List ℕ) (r m : ℕ) (b : Bool) → nat_le m r ≡ b → p r ≡ true → IsLow p xs (Some m) → IsLow p (xs ++ r ∷ []) (if b then Some m else Some r)
lower p xs r m true is e low = (low.0, λ x h passes. elim (one_of x r xs h) [ inl a ↦ low.1 x a passes | inr b ↦ omega (arith, leb-true m r is, b) ])
lower p xs r m false is e low =
    (e, λ x h passes. elim (one_of x r xs h) [ inl a ↦ omega (arith, leb-false m r is, low.1 x a passes) | inr b ↦ omega (arith, b) ])

pub low_passes : (p : ℕ → Bool) (xs : List ℕ) (r : ℕ) (found : Option ℕ) → p r ≡ true → IsLow p xs found → IsLow p (xs ++ r ∷ []) (lesser found r)
low_passes p xs r None e low =
    (e, λ x h passes. elim (one_of x r xs h) [ inl a ↦ absurd (let f : p x ≡ false = low x a in let z : ⊥ = cc in z) | inr b ↦ omega (arith, b) ])
low_passes p xs r (Some m) e low = lower p xs r m (nat_le m r) refl e low

-- one item more
pub low_more : (p : ℕ → Bool) (xs : List ℕ) (r : ℕ) (found : Option ℕ) (b : Bool) → p r ≡ b → IsLow p xs found → IsLow p (xs ++ r ∷ []) (if b then lesser found r else found)
low_more p xs r found true e low = low_passes p xs r found e low
low_more p xs r found false e low = low_fails p xs r found e low

-- where all that pass are on the list, it is the least of the ids that pass
before : (p : ℕ → Bool) (xs : List ℕ) (m j : ℕ) → ((x : ℕ) → p x ≡ true → is_on x xs ≡ true) → IsLow p xs (Some m) → j < m → (p j ≡ true) ⊎ (p j ≡ false) → p j ≡ false
before p xs m j all low h (inl passes) = absurd (let l : m ≤ j = low.1 j (all j passes) passes in omega (arith, l))
before p xs m j all low h (inr fails) = fails

missing : (p : ℕ → Bool) (xs : List ℕ) (j : ℕ) → ((x : ℕ) → p x ≡ true → is_on x xs ≡ true) → IsLow p xs None → (p j ≡ true) ⊎ (p j ≡ false) → p j ≡ false
missing p xs j all low (inl passes) = low j (all j passes)
missing p xs j all low (inr fails) = fails

pub low_is_least : (p : ℕ → Bool) (xs : List ℕ) (n : ℕ) (found : Option ℕ) → ((x : ℕ) → p x ≡ true → is_on x xs ≡ true) → ((x : ℕ) → p x ≡ true → x < n) → IsLow p xs found
    → found ≡ least (filter p (range_with_len 0 n))
low_is_least p xs n None all within low = least_of_none p n (λ j h. missing p xs j all low (cases_Bool (p j)))
low_is_least p xs n (Some m) all within low = first_is_least p n m (within m low.0) (λ j h. before p xs m j all low h (cases_Bool (p j))) low.0
