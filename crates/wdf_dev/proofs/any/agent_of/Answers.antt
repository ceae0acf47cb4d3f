-- The agent of a device or of a target.
use Rattle.std.proofs.Common.{◌≡◌, ◌+◌, ◌-◌, ◌<◌, ◌≤◌, length, slice_get, subst, arith}
use Rattle.std.specs.Result.{IfOk}
use Rattle.wdf_model.specs.Plans.{devices_of, first_device_agent, targets_of}
use Rattle.wdf_dev.specs.Agents.{device_or_target}
use Rattle.wdf_plan_index.proofs.Owning.{apps_are}
use Rattle.wdf_dev.proofs.Owning.{owned}
use Rattle.wdf_dev.proofs.any.agent_of.Goals as goal

pub returns-else-number-first : goal.returns-else-number-first
returns-else-number-first c =
    let plan = c.args.plan.now in
    let k = c.args.agent in
    let apps = apps_are plan (length c.args.devices.now) (length c.args.targets.now) c.requires.device_names c.requires.target_names in
    let first : 1 + c.saturating_sub-first.result ≡ first_device_agent plan = omega (arith, apps, c.saturating_sub-first.ensures, c.from.ensures, c.agent_len.ensures) in
    let from : first_device_agent plan ≤ k = omega (arith, first, c.if-number-first.false, c.from-number.ensures) in
    let past : c.from-number.result - (1 + c.saturating_sub-first.result) ≡ k - first_device_agent plan = omega (arith, first, c.from-number.ensures) in
    let some : 0 < k = omega (arith, c.if-agent-eq0.false) in
    let is = owned plan k (c.from-number.result - (1 + c.saturating_sub-first.result)) some from past in
    let now : IfOk c.owned_agent.result (λ found. found ≡ device_or_target plan k (slice_get (devices_of plan) (c.from-number.result - (1 + c.saturating_sub-first.result))) (slice_get (targets_of plan) (c.from-number.result - (1 + c.saturating_sub-first.result) - length (devices_of plan)))) =
    subst (λ ts. IfOk c.owned_agent.result (λ found. found ≡ device_or_target plan k (slice_get (devices_of plan) (c.from-number.result - (1 + c.saturating_sub-first.result))) (slice_get ts (c.from-number.result - (1 + c.saturating_sub-first.result) - length (devices_of plan))))) c.requires.targets
    (subst (λ ds. IfOk c.owned_agent.result (λ found. found ≡ device_or_target plan k (slice_get ds (c.from-number.result - (1 + c.saturating_sub-first.result))) (slice_get c.args.targets.now (c.from-number.result - (1 + c.saturating_sub-first.result) - length ds)))) c.requires.devices c.owned_agent.ensures) in
    subst (λ x. IfOk c.owned_agent.result (λ found. found ≡ x)) is now
