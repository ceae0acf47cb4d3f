-- Facts of tests joined by "or" and "and".
use Rattle.std.proofs.Common.{◌≡◌, Bool, true, false, ◌||◌, refl, inl, inr, ◌&&◌, not}
use Rattle.std.proofs.lemmas.Bool.{or_cases}
use Rattle.wdf_model.proofs.Tests.{first, second}

pub left_of : (a b : Bool) → b ≡ false → (a || b) ≡ true → a ≡ true
left_of true b e h = refl
left_of false b e h = absurd (let z : ⊥ = cc in z)

pub or_still : (a b c : Bool) → (a ≡ true → b ≡ true) → (a || c) ≡ true → (b || c) ≡ true
or_still a b c h k = elim (or_cases a c k) [
  | inl e ↦ first b c (h e)
  | inr e ↦ second b c e
]

pub or_not : (a b : Bool) → a ≡ false → b ≡ false → (a || b) ≡ false
or_not false b h k = k
or_not true b h k = absurd (let z : ⊥ = cc in z)

pub and_not : (a b : Bool) → a ≡ true → b ≡ false → (a && not b) ≡ true
and_not a b h k = rw h (rw k refl)
