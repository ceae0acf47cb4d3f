-- The first id that passes a test, over ids that rise.
use Rattle.std.proofs.Common.{if◌then◌else◌, ℕ, zero, suc, ◌≡◌, ◌+◌, ◌-◌, ◌<◌, ◌≤◌, Bool, true, false, Option, Some, None, refl, ap, sym, ◌∙◌, arith}
use Rattle.std.specs.List.{find, range_with_len}

find_first : (p : ℕ → Bool) (a n m : ℕ) → n ≡ suc m → find p (range_with_len a n) ≡ (if p a then Some a else find p (range_with_len (a + 1) m))
find_first p a n m e = rw e refl

-- one that doesn't is passed over
pub find_further : (p : ℕ → Bool) (a n : ℕ) → a < n → p a ≡ false
    → find p (range_with_len (a + 1) (n - (a + 1))) ≡ find p (range_with_len a (n - a))
find_further p a n h e = sym (find_first p a (n - a) (n - (a + 1)) (omega arith) ∙ rw e refl)

-- past the end there is none
pub find_past : (p : ℕ → Bool) (a n : ℕ) → n ≤ a → find p (range_with_len a (n - a)) ≡ None
find_past p a n h = let none : n - a ≡ 0 = omega arith in rw none refl

only_here : (p : ℕ → Bool) (a n s : ℕ) (b : Bool) → p s ≡ b → (p s ≡ true → (a ≤ s) × (s < a + n)) → n ≡ 0 → None ≡ (if b then Some s else None)
only_here p a n s true e within none = absurd (let w = within e in omega (arith, w.0, w.1))
only_here p a n s false e within none = refl

only_by : (p : ℕ → Bool) (a n s : ℕ) (b : Bool) (rest : Option ℕ) → p a ≡ b → (b ≡ true → a ≡ s) → (b ≡ false → rest ≡ (if p s then Some s else None))
    → (if b then Some a else rest) ≡ (if p s then Some s else None)
only_by p a n s true rest e same others =
    let it : a ≡ s = same refl in
    let passes : p s ≡ true = ap p (sym it) ∙ e in
    rw (passes, it) refl
only_by p a n s false rest e same others = others refl

-- the only id that may pass
pub find_only : (p : ℕ → Bool) (a n s : ℕ) → ((r : ℕ) → a ≤ r → r < a + n → p r ≡ true → r ≡ s) → (p s ≡ true → (a ≤ s) × (s < a + n))
    → find p (range_with_len a n) ≡ (if p s then Some s else None)
find_only p a zero s only within = only_here p a zero s (p s) refl within refl
find_only p a (suc n) s only within =
    only_by p a (suc n) s (p a) (find p (range_with_len (a + 1) n)) refl
    (λ e. only a (omega arith) (omega arith) e)
    (λ e. find_only p (a + 1) n s (λ r h k e2. only r (omega arith) (omega arith) e2)
    (λ e2. let w = within e2 in
    let low : a ≤ s = w.0 in
    let high : s < a + suc n = w.1 in
    let other : a ≡ s → ⊥ = λ same. (let clash : p a ≡ true = ap p same ∙ e2 in let z : ⊥ = cc in z) in
    (omega arith, omega arith)))
