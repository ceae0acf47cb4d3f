-- What is cleaned up from an object upwards.
use Rattle.std.proofs.Common.{◌≡◌, ℕ, zero, suc, ◌-◌, ◌<◌, ◌==◌, not, ◌&&◌, ◌||◌, List, refl, arith}
use Rattle.wdf_base.specs.declared.plan.Plan.{Plan}
use Rattle.wdf_base.specs.declared.event.Event.{Event}
use Rattle.wdf_laws.specs.declared.sign.Sign.TheVariants as sign
use Rattle.wdf_laws.specs.Words.{ever}
use Rattle.wdf_laws.specs.Family.{cleaned_above, parent_of}

-- one object more
pub above_next : (plan : Plan) (all before : List Event) (n o : ℕ) → 0 < n
    → cleaned_above plan all before n o ≡ (ever (sign.Cleaned o) before || (not (parent_of plan all o == 0) && cleaned_above plan all before (n - 1) (parent_of plan all o)))
above_next plan all before zero o h = absurd (omega arith)
above_next plan all before (suc n) o h = let e : suc n - 1 ≡ n = omega arith in rw e refl
