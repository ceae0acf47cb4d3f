-- Two tests of which both together decide something.
use Rattle.std.proofs.Common.{◌≡◌, ◌↔◌, Bool, true, false, ◌&&◌}
use Rattle.std.specs.Prelude.{IsTrue}
use Rattle.wdf_model.proofs.Tests.{both, both_left, both_right}

pub second_decides : {P : Type 0} (a b : Bool) → (((a && b) ≡ true) ↔ P) → a ≡ true → (IsTrue b ↔ P)
second_decides a b k h = (λ yes. k.0 (both a b h yes), λ p. both_right a b (k.1 p))

pub first_decides : {P : Type 0} (a b : Bool) → (((a && b) ≡ true) ↔ P) → a ≡ false → (IsTrue a ↔ P)
first_decides a b k h = (λ yes. absurd (let z : ⊥ = cc in z), λ p. both_left a b (k.1 p))
