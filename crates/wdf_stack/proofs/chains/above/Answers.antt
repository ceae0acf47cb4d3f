-- The first device that names this one.
use Rattle.std.proofs.Common.{sym, ap, ◌∙◌, find, ℕ, Bool}
use Rattle.wdf_model.specs.Tables.{same_id}
use Rattle.wdf_model.specs.agents.Chains.{device_named_by}
use Rattle.wdf_stack.proofs.Finding.{find_first, find_none, none_before_next}
use Rattle.wdf_stack.proofs.chains.above.Goals as goal

pub returns-then-is_number : goal.returns-then-is_number
returns-then-is_number c =
    let p : ℕ → Bool = λ d. same_id (device_named_by c.args.plan.now d) c.args.device in
    find_first p c.args.devices.now c.loop-upper.upper-index _ c.loop-upper-test.true c.loop-upper.invariant
    (ap (λ o. same_id o c.args.device) (sym c.device_named_by.ensures) ∙ sym c.is_number.ensures ∙ c.if-is_number.true)
    ∙ ap (find p) c.requires.devices

pub loop-upper-preserved : goal.loop-upper-preserved
loop-upper-preserved c =
    let p : ℕ → Bool = λ d. same_id (device_named_by c.args.plan.now d) c.args.device in
    none_before_next p c.args.devices.now c.loop-upper.upper-index _ c.loop-upper-test.true c.loop-upper.invariant
    (ap (λ o. same_id o c.args.device) (sym c.device_named_by.ensures) ∙ sym c.is_number.ensures ∙ c.if-is_number.false)

pub returns : goal.returns
returns c =
    let p : ℕ → Bool = λ d. same_id (device_named_by c.args.plan.now d) c.args.device in
    find_none p c.args.devices.now c.loop-upper.upper-index c.loop-upper-test.false c.loop-upper.invariant ∙ ap (find p) c.requires.devices
