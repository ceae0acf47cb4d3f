-- What one event more makes of a word that holds.
use Rattle.std.proofs.Common.{◌≡◌, Bool, true, false, not, ◌&&◌, ◌||◌, refl}

-- an event that shows neither sign
pub stays_standing : (p q s : Bool) → p ≡ false → q ≡ false → (p || (s && not q)) ≡ s
stays_standing true q s h k = absurd (let z : ⊥ = cc in z)
stays_standing false true s h k = absurd (let z : ⊥ = cc in z)
stays_standing false false true h k = refl
stays_standing false false false h k = refl

-- an event that shows the second sign alone
pub stands_no_more : (p q s : Bool) → p ≡ false → q ≡ true → (p || (s && not q)) ≡ false
stands_no_more true q s h k = absurd (let z : ⊥ = cc in z)
stands_no_more false false s h k = absurd (let z : ⊥ = cc in z)
stands_no_more false true true h k = refl
stands_no_more false true false h k = refl
