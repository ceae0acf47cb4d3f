-- The findings of the callbacks that were searched so far, as `lint` keeps them. (own)
use Rattle.std.specs.Prelude.{◌≡◌, ℕ, List, Some, slice_get}
use Rattle.wdf_base.specs.declared.plan.Plan.{Plan}
use Rattle.wdf_base.specs.declared.event.Fault.{Fault}
use Rattle.wdf_lint.specs.declared.state.Abstract.{Abstract}
use Rattle.wdf_lint.specs.declared.findings.Found.{Found}
use Rattle.wdf_lint.specs.Steps.{breaks}
use Rattle.wdf_lint.specs.Walks.{IsReached}
use Rattle.wdf_lint.specs.Findings.{Finding, IsBig, IsFinding, Spot, rule_number}

-- where it is
abbrev pub spot_of : Found → Spot
spot_of f = record { script = f.script; at = f.at; rule = f.rule }

-- what is seen of it
abbrev pub finding_of : Found → Finding
finding_of f = record { line = f.line; rule = f.rule; path = f.path }

-- one of a list is at this spot
abbrev pub IsNoted : List Found → Spot → Type 0
IsNoted found s = (n : ℕ) × (f : Found) × (slice_get found n ≡ Some f) × (spot_of f ≡ s)

-- all findings of some scripts, each once
pub record IsAllOf (plan : Plan) (Scripts : ℕ → Type 0) (found : List Found) : Type 0 where
  pub each : (n : ℕ) (f : Found) → slice_get found n ≡ Some f → Scripts f.script × IsFinding plan (spot_of f) (finding_of f)
  pub size : (k : ℕ) → Scripts k → IsBig plan k → IsNoted found (record { script = k; at = 0; rule = 0 })
  pub statement : (k : ℕ) → Scripts k → (IsBig plan k → ⊥) → (a : Abstract) → IsReached plan k a → (x : Fault) → breaks plan k a ≡ Some x → IsNoted found (record { script = k; at = a.at; rule = rule_number x })
  pub once : (m n : ℕ) (f g : Found) → slice_get found m ≡ Some f → slice_get found n ≡ Some g → spot_of f ≡ spot_of g → m ≡ n
