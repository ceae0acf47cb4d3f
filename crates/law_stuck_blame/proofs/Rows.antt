-- A search for the first cause passes over none that there is.
use Rattle.std.proofs.Common.{◌≡◌, inl, inr, ℕ, zero, suc, ◌+◌, ◌<◌, ◌≤◌, Bool, true, false, nat_lt, List, [], ◌∷◌, slice_get, Option, Some, None, is_some, refl, sym, ap, ◌∙◌, arith}
use Rattle.std.specs.Prelude.{⊤, option_map}
use Rattle.std.proofs.lemmas.Bool.{cases_Bool, ltb-true}
use Rattle.std.proofs.lemmas.Option.{same_Some}
use Rattle.wdf_base.specs.declared.wait.Cause.{Cause}
use Rattle.wdf_model.specs.Tables.{least}
use Rattle.wdf_model.specs.rules.Waits.{cause_if, first_cause}
use Rattle.law_stuck_causes.proofs.Needs.{none_least}

-- each cause of a row has a place of at most its own, counted from n
abbrev pub InPlace : (Cause → ℕ) → ℕ → List (Option Cause) → Type 0
InPlace place n [] = ⊤
InPlace place n (o ∷ os) = ((c : Cause) → o ≡ Some c → place c ≡ n) × InPlace place (suc n) os

-- the first cause has no later place than any that there is
pub no_later : (place : Cause → ℕ) (n : ℕ) (os : List (Option Cause)) (x : Cause) → InPlace place n os → first_cause os ≡ Some x → (k : ℕ) (o : Option Cause) → slice_get os k ≡ Some o → is_some o ≡ true → place x ≤ n + k
no_later place n [] x row found k o at there = absurd (let z : ⊥ = cc in z)
no_later place n (Some c ∷ os) x row found k o at there =
    let here : place x ≡ n = row.0 x (ap Some (same_Some c x found)) in
    omega (arith, here)
no_later place n (None ∷ os) x row found zero o at there =
    let same : None ≡ o = same_Some None o at in
    let z : ⊥ = cc (sym there ∙ ap is_some (sym same)) in absurd z
no_later place n (None ∷ os) x row found (suc k) o at there =
    let rest : place x ≤ suc n + k = no_later place (suc n) os x row.1 found k o at there in
    omega (arith, rest)

-- what a test gives has its place
pub placed_if : (place : Cause → ℕ) (n : ℕ) (b : Bool) (c : Cause) → place c ≡ n → (d : Cause) → cause_if b c ≡ Some d → place d ≡ n
placed_if place n true c h d e = ap place (sym (same_Some c d e)) ∙ h
placed_if place n false c h d e = absurd (let z : ⊥ = cc in z)

pub placed_map : (place : Cause → ℕ) (n : ℕ) (g : ℕ → Cause) (o : Option ℕ) → ((k : ℕ) → place (g k) ≡ n) → (d : Cause) → option_map g o ≡ Some d → place d ≡ n
placed_map place n g (Some k) h d e = ap place (sym (same_Some (g k) d e)) ∙ h k
placed_map place n g None h d e = absurd (let z : ⊥ = cc in z)

-- a test that holds gives its cause
pub there_if : (b : Bool) (c : Cause) → b ≡ true → is_some (cause_if b c) ≡ true
there_if true c h = refl
there_if false c h = absurd (let z : ⊥ = cc in z)

some_or_none : {T : Type 0} (o : Option T) → (o ≡ None → ⊥) → is_some o ≡ true
some_or_none (Some x) h = refl
some_or_none None h = absurd (h refl)

-- of a list that isn't empty there is a least number
pub there_least : (g : ℕ → Cause) (ns : List ℕ) → (ns ≡ [] → ⊥) → is_some (option_map g (least ns)) ≡ true
there_least g ns h = some_or_none (option_map g (least ns)) (λ e. h (none_least g ns e))

-- ---- the first cause of a row

-- no cause that comes before the one that is found is so
abbrev pub IsFirstOf : (Cause → Bool) → (Cause → ℕ) → Option Cause → Type 0
IsFirstOf so place o = (x y : Cause) → o ≡ Some x → nat_lt (place y) (place x) ≡ true → so y ≡ false

-- a cause is there at its place of the row
abbrev pub IsThere : (Cause → ℕ) → List (Option Cause) → Cause → Type 0
IsThere place os y = (o : Option Cause) × (k : ℕ) × (place y ≡ k) × (slice_get os k ≡ Some o) × (is_some o ≡ true)

-- where each cause that is so is there at its place, the first one is the first that is so
pub first_in : (so : Cause → Bool) (place : Cause → ℕ) (os : List (Option Cause)) → InPlace place 0 os → ((y : Cause) → so y ≡ true → IsThere place os y) → IsFirstOf so place (first_cause os)
first_in so place os row there x y found before =
    elim (cases_Bool (so y)) [
      | inl there_so ↦
          let at = there y there_so in
          let late : place x ≤ 0 + at.1 = no_later place 0 os x row found at.1 at.0 at.3 at.4 in
          let early : place y < place x = ltb-true (place y) (place x) before in
          absurd (omega (arith, late, early, at.2))
      | inr off ↦ off
    ]

-- nothing comes before the first place
pub none_before : (m n : ℕ) → n ≡ 0 → nat_lt m n ≡ true → ⊥
none_before m n e h = let low : m < n = ltb-true m n h in omega (arith, low, e)

-- where the first cause of a row is there, it is the one that is found
pub front_found : (u : Option Cause) (os : List (Option Cause)) (x : Cause) → is_some u ≡ true → first_cause (u ∷ os) ≡ Some x → u ≡ Some x
front_found (Some c) os x some found = found
front_found None os x some found = absurd (let z : ⊥ = cc in z)
