-- Where another comes before an item of a list, something is ahead of it.
use Rattle.std.proofs.Common.{◌≡◌, ℕ, ◌≤◌, ◌==◌, Bool, true, false, not, List, [], ◌∷◌, count_by, take_while, refl, sym, ◌∙◌, arith}
use Rattle.wdf_model.specs.Tables.{contains}
use Rattle.wdf_model.proofs.Counts.{count_yes}
use Rattle.wdf_model.proofs.FrameCounts.{contained}
use Rattle.law_stuck_causes.specs.Causes.{is_before}
use Rattle.law_stuck_causes.proofs.Forms.{while_on}

later_by : (x z r : ℕ) (zs : List ℕ) (b : Bool) → (z == x) ≡ b → is_before x r (z ∷ zs) ≡ true → (is_before x r zs ≡ true → contains r zs ≡ true) → contains r zs ≡ true
later_by x z r zs true e h rest = rw e at h
later_by x z r zs false e h rest = rest (rw e at h)

contains_by : (z r : ℕ) (zs : List ℕ) (b : Bool) → (z == r) ≡ b → contains r zs ≡ true → contains r (z ∷ zs) ≡ true
contains_by z r zs true e h = rw e refl
contains_by z r zs false e h = rw e h

-- what another comes before is in the list
pub later : (x r : ℕ) (zs : List ℕ) → is_before x r zs ≡ true → contains r zs ≡ true
later x r [] h = absurd (let z : ⊥ = cc in z)
later x r (z ∷ zs) h = contains_by z r zs (z == r) refl (later_by x z r zs (z == x) refl h (later x r zs))

later_in_rest : (x z r : ℕ) (zs : List ℕ) → is_before x r (z ∷ zs) ≡ true → contains r zs ≡ true
later_in_rest x z r zs h = later_by x z r zs (z == x) refl h (later x r zs)

-- where another comes before a request that is there once, something is ahead of it
pub some_ahead : (x r : ℕ) (zs : List ℕ) → count_by (λ y. y == r) zs ≤ 1 → is_before x r zs ≡ true → take_while (λ y. not (y == r)) zs ≡ [] → ⊥
some_ahead x r [] once h none = let z : ⊥ = cc in z
some_ahead x r (z ∷ zs) once h none = by (z == r) refl
  where
    by : (b : Bool) → (z == r) ≡ b → ⊥
    by true e =
        let again : 1 ≤ count_by (λ y. y == r) zs = contained r zs (later_in_rest x z r zs h) in
        absurd (omega (arith, once, again, count_yes (λ y. y == r) z zs e))
    by false e = let z : ⊥ = cc (sym (while_on r z zs e) ∙ none) in z
