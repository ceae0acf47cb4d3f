-- Which of two paths comes first: an order that lines more at the ends keep.
use Rattle.std.proofs.Common.{◌≡◌, ℕ, ◌+◌, ◌==◌, ◌<◌, nat_lt, Bool, true, false, ◌&&◌, ◌||◌, ◌⊎◌, inl, inr, List, [], ◌∷◌, ◌++◌, length, refl, sym, ap, subst, ◌∙◌, arith}
use Rattle.std.proofs.lemmas.Bool.Decides.{nat_tests}
use Rattle.std.proofs.lemmas.List.{length-append}
use Rattle.wdf_lint.specs.Findings.{is_less}
use Rattle.wdf_lint.specs.Paths.{NoLater, goes_before}

-- ---- a number, and then a test

pub first_parts : (a b : ℕ) (t : Bool) → (nat_lt a b || (a == b && t)) ≡ true → (a < b) ⊎ ((a ≡ b) × (t ≡ true))
first_parts a b true h = by (nat_lt a b) refl
  where
    by : (c : Bool) → nat_lt a b ≡ c → (a < b) ⊎ ((a ≡ b) × (true ≡ true))
    by true e = inl (grind (arith, nat_tests))
    by false e = inr (grind (arith, nat_tests), refl)
first_parts a b false h = inl (grind (arith, nat_tests))

pub first_less : (a b : ℕ) (t : Bool) → a < b → (nat_lt a b || (a == b && t)) ≡ true
first_less a b t h = let e : nat_lt a b ≡ true = grind (arith, nat_tests) in rw e refl

pub first_same : (a b : ℕ) (t : Bool) → a ≡ b → t ≡ true → (nat_lt a b || (a == b && t)) ≡ true
first_same a b t e h = let same : (a == b) ≡ true = grind (arith, nat_tests) in let no : nat_lt a b ≡ false = grind (arith, nat_tests) in rw (no, same) h

first_more : (a b : ℕ) (t : Bool) → b < a → (nat_lt a b || (a == b && t)) ≡ false
first_more a b t h = let no : nat_lt a b ≡ false = grind (arith, nat_tests) in let other : (a == b) ≡ false = grind (arith, nat_tests) in rw (no, other) refl

first_none : (a b : ℕ) (t : Bool) → a ≡ b → t ≡ false → (nat_lt a b || (a == b && t)) ≡ false
first_none a b t e h = let same : (a == b) ≡ true = grind (arith, nat_tests) in let no : nat_lt a b ≡ false = grind (arith, nat_tests) in rw (no, same) h

-- ---- lists of one length

less_more : (p q : List ℕ) (x y : ℕ) → is_less p q ≡ true → is_less (p ++ x ∷ []) (q ++ y ∷ []) ≡ true
less_more [] q x y h = absurd (let z : ⊥ = cc in z)
less_more (a ∷ p) [] x y h = absurd (let z : ⊥ = cc in z)
less_more (a ∷ p) (b ∷ q) x y h = elim (first_parts a b (is_less p q) h) [
  | inl less ↦ first_less a b (is_less (p ++ x ∷ []) (q ++ y ∷ [])) less
  | inr same ↦ first_same a b (is_less (p ++ x ∷ []) (q ++ y ∷ [])) same.0 (less_more p q x y same.1)
]

less_last : (p : List ℕ) (x y : ℕ) → x < y → is_less (p ++ x ∷ []) (p ++ y ∷ []) ≡ true
less_last [] x y h = first_less x y false h
less_last (a ∷ p) x y h = first_same a a (is_less (p ++ x ∷ []) (p ++ y ∷ [])) refl (less_last p x y h)

less_then : (p q r : List ℕ) → is_less p q ≡ true → is_less q r ≡ true → is_less p r ≡ true
less_then [] q r h k = absurd (let z : ⊥ = cc in z)
less_then (a ∷ p) [] r h k = absurd (let z : ⊥ = cc in z)
less_then (a ∷ p) (b ∷ q) [] h k = absurd (let z : ⊥ = cc in z)
less_then (a ∷ p) (b ∷ q) (c ∷ r) h k = elim (first_parts a b (is_less p q) h) [
  | inl less ↦ elim (first_parts b c (is_less q r) k) [
    | inl more ↦ first_less a c (is_less p r) (omega arith)
    | inr same ↦ first_less a c (is_less p r) (let e = same.0 in omega arith)
  ]
  | inr same ↦ elim (first_parts b c (is_less q r) k) [
    | inl more ↦ first_less a c (is_less p r) (let e = same.0 in omega arith)
    | inr alike ↦ first_same a c (is_less p r) (same.0 ∙ alike.0) (less_then p q r same.1 alike.1)
  ]
]

less_not : (p q : List ℕ) → is_less p q ≡ true → is_less q p ≡ false
less_not [] q h = absurd (let z : ⊥ = cc in z)
less_not (a ∷ p) [] h = absurd (let z : ⊥ = cc in z)
less_not (a ∷ p) (b ∷ q) h = elim (first_parts a b (is_less p q) h) [
  | inl less ↦ first_more b a (is_less q p) less
  | inr same ↦ first_none b a (is_less q p) (sym same.0) (less_not p q same.1)
]

less_itself : (p : List ℕ) → is_less p p ≡ false
less_itself [] = refl
less_itself (a ∷ p) = first_none a a (is_less p p) refl (less_itself p)

-- ---- paths

pub parts : (p q : List ℕ) → goes_before p q ≡ true → (length p < length q) ⊎ ((length p ≡ length q) × (is_less p q ≡ true))
parts p q h = first_parts (length p) (length q) (is_less p q) h

pub shorter : (p q : List ℕ) → length p < length q → goes_before p q ≡ true
shorter p q h = first_less (length p) (length q) (is_less p q) h

as_long : (p q : List ℕ) → length p ≡ length q → is_less p q ≡ true → goes_before p q ≡ true
as_long p q e h = first_same (length p) (length q) (is_less p q) e h

-- a line more at each end
pub before_more : (p q : List ℕ) (x y : ℕ) → goes_before p q ≡ true → goes_before (p ++ x ∷ []) (q ++ y ∷ []) ≡ true
before_more p q x y h =
    let m = length-append p (x ∷ []) in
    let n = length-append q (y ∷ []) in
    elim (parts p q h) [
      | inl less ↦ shorter (p ++ x ∷ []) (q ++ y ∷ []) (omega arith)
      | inr same ↦ as_long (p ++ x ∷ []) (q ++ y ∷ []) (m ∙ ap (λ l. l + 1) same.0 ∙ sym n) (less_more p q x y same.1)
    ]

-- the lesser of two lines more
pub before_last : (p : List ℕ) (x y : ℕ) → x < y → goes_before (p ++ x ∷ []) (p ++ y ∷ []) ≡ true
before_last p x y h = as_long (p ++ x ∷ []) (p ++ y ∷ []) (length-append p (x ∷ []) ∙ sym (length-append p (y ∷ []))) (less_last p x y h)

pub before_then : (p q r : List ℕ) → goes_before p q ≡ true → goes_before q r ≡ true → goes_before p r ≡ true
before_then p q r h k = elim (parts p q h) [
  | inl less ↦ elim (parts q r k) [
    | inl more ↦ shorter p r (omega arith)
    | inr same ↦ shorter p r (let e = same.0 in omega arith)
  ]
  | inr same ↦ elim (parts q r k) [
    | inl more ↦ shorter p r (let e = same.0 in omega arith)
    | inr alike ↦ as_long p r (same.0 ∙ alike.0) (less_then p q r same.1 alike.1)
  ]
]

-- ---- a path that isn't later

pub later_then : (p q r : List ℕ) → NoLater p q → NoLater q r → NoLater p r
later_then p q r (inl e) k = subst (λ x. NoLater x r) (sym e) k
later_then p q r (inr h) (inl e) = inr (subst (λ x. goes_before p x ≡ true) e h)
later_then p q r (inr h) (inr k) = inr (before_then p q r h k)

pub later_more : (p q : List ℕ) (x : ℕ) → NoLater p q → NoLater (p ++ x ∷ []) (q ++ x ∷ [])
later_more p q x (inl e) = inl (ap (λ l. l ++ x ∷ []) e)
later_more p q x (inr h) = inr (before_more p q x x h)

-- the other isn't shorter
pub no_shorter : (p q : List ℕ) → NoLater p q → nat_lt (length q) (length p) ≡ false
no_shorter p q (inl e) = let same : length p ≡ length q = ap length e in grind (arith, nat_tests)
no_shorter p q (inr h) = elim (parts p q h) [
  | inl less ↦ grind (arith, nat_tests)
  | inr same ↦ let e = same.0 in grind (arith, nat_tests)
]

-- nor, where it is as long, less
pub no_less : (p q : List ℕ) → NoLater p q → length q ≡ length p → is_less q p ≡ false
no_less p q (inl e) same = subst (λ x. is_less x p ≡ false) e (less_itself p)
no_less p q (inr h) same = elim (parts p q h) [
  | inl less ↦ absurd (omega arith)
  | inr alike ↦ less_not p q alike.1
]
