-- The agent of a device or of a target.
use Rattle.std.proofs.Common.{◌≡◌, ℕ, ◌+◌, ◌-◌, ◌<◌, ◌≤◌, ◌==◌, nat_lt, true, false, Option, Some, None, length, slice_get, refl, sym, ap, ◌∙◌, arith}
use Rattle.std.proofs.lemmas.Bool.{le-ltb, lt-ltb}
use Rattle.std.proofs.lemmas.Bool.Decides.{nat_tests}
use Rattle.wdf_base.specs.declared.plan.Plan.{Plan}
use Rattle.wdf_model.specs.Plans.{device_of_agent, devices_of, first_device_agent, target_of_agent, targets_of}
use Rattle.wdf_dev.proofs.Owning.{none_past}
use Rattle.wdf_stack.specs.Agents.{agent_at, device_or_target}

owned_by : (plan : Plan) (k past : ℕ) (d : Option ℕ) → slice_get (devices_of plan) past ≡ d → first_device_agent plan ≤ k → past ≡ k - first_device_agent plan
    → device_or_target plan k (slice_get (devices_of plan) past) (slice_get (targets_of plan) (past - length (devices_of plan))) ≡ device_or_target plan k (device_of_agent plan k) (target_of_agent plan k)
owned_by plan k past (Some d) it from is =
    let late : nat_lt k (first_device_agent plan) ≡ false = le-ltb k (first_device_agent plan) from in
    let same : slice_get (devices_of plan) (k - first_device_agent plan) ≡ Some d = ap (slice_get (devices_of plan)) (sym is) ∙ it in
    rw (it, late, same) refl
owned_by plan k past None it from is =
    let late : nat_lt k (first_device_agent plan) ≡ false = le-ltb k (first_device_agent plan) from in
    let same : slice_get (devices_of plan) (k - first_device_agent plan) ≡ None = ap (slice_get (devices_of plan)) (sym is) ∙ it in
    let long = none_past (devices_of plan) past it in
    let later : nat_lt k (first_device_agent plan + length (devices_of plan)) ≡ false = le-ltb k (first_device_agent plan + length (devices_of plan)) (omega arith) in
    let place : past - length (devices_of plan) ≡ k - (first_device_agent plan + length (devices_of plan)) = omega arith in
    rw (it, late, same, later, place) refl

pub owned : (plan : Plan) (k past : ℕ) → 0 < k → first_device_agent plan ≤ k → past ≡ k - first_device_agent plan
    → device_or_target plan k (slice_get (devices_of plan) past) (slice_get (targets_of plan) (past - length (devices_of plan))) ≡ agent_at plan k
owned plan k past some from is =
    let other : (k == 0) ≡ false = grind (arith, nat_tests) in
    let late : nat_lt k (first_device_agent plan) ≡ false = le-ltb k (first_device_agent plan) from in
    let positive : nat_lt 0 k ≡ true = lt-ltb 0 k some in
    owned_by plan k past (slice_get (devices_of plan) past) refl from is ∙ sym (rw (other, positive, late) refl)
