-- The parts have the sizes that they are asked for.
use Rattle.std.proofs.Common.{length, sym, ap, ◌∙◌, arith}
use Rattle.wdf_base.specs.declared.plan.Plan.{Plan}
use Rattle.wdf_model.specs.Plans.{device_of}
use Rattle.wdf_model.specs.State.{State}
use Rattle.wdf_model.specs.parts.Pnp.{opening_sequence, sequence_of}
use Rattle.wdf_model.specs.parts.Targets.{opening_targets, the_target}
use Rattle.wdf_parts.proofs.parts.Parts.begin_again.Goals as goal

pub begin_again-requires : goal.begin_again-requires
begin_again-requires g c = let many = ap (λ (P : Plan). length P.declared) c.plan-plan.ensures in omega (arith, c.requires.objects)

pub begin_again-requires-2 : goal.begin_again-requires-2
begin_again-requires-2 g c = ap (λ (S : State _). length S.cpus.stacks) c.self.view_is ∙ c.requires.sized.stacks ∙ sym (ap (λ (P : Plan). P.cpus) c.plan-plan.ensures)

pub begin_again-requires-5 : goal.begin_again-requires-5
begin_again-requires-5 g c =
    let many = ap (λ (P : Plan). length P.declared) c.plan-plan.ensures in
    let long = ap (λ (S : State _). length S.queues.dispatch) c.self.view_is in
    omega (arith, c.requires.sized.dispatch)

pub begin_again-requires-6 : goal.begin_again-requires-6
begin_again-requires-6 g c =
    let many = ap (λ (P : Plan). length P.declared) c.plan-plan.ensures in
    let long = ap (λ (S : State _). length S.control.controls) c.self.view_is in
    omega (arith, c.requires.sized.controls)

pub begin_again-requires-7 : goal.begin_again-requires-7
begin_again-requires-7 g c =
    let many = ap (λ (P : Plan). length P.declared) c.plan-plan.ensures in
    let long = ap (λ (S : State _). length S.power.devices) c.self.view_is in
    omega (arith, c.requires.sized.powers)

pub begin_again-requires-8-clause-ids : goal.begin_again-requires-8-clause-ids
begin_again-requires-8-clause-ids g c =
    let many = ap (λ (P : Plan). length P.declared) c.plan-plan.ensures in
    let long = ap (λ (S : State _). length S.pnp.devices) c.self.view_is in
    omega (arith, c.requires.sized.sequences)

pub begin_again-requires-8-clause-steps : goal.begin_again-requires-8-clause-steps
begin_again-requires-8-clause-steps g c = λ d.
    ap (λ (S : State _). (sequence_of S.pnp d).steps) c.self.view_is ∙ c.requires.sized.steps d ∙ sym (ap (λ (P : Plan). (opening_sequence P d (device_of P d)).steps) c.plan-plan.ensures)

pub begin_again-requires-10 : goal.begin_again-requires-10
begin_again-requires-10 g c = ap (λ (S : State _). length S.dpcs.lists) c.self.view_is ∙ c.requires.sized.dpcs ∙ sym (ap (λ (P : Plan). P.cpus) c.plan-plan.ensures)

pub begin_again-requires-13-clause-ids : goal.begin_again-requires-13-clause-ids
begin_again-requires-13-clause-ids g c =
    let many = ap (λ (P : Plan). length P.declared) c.plan-plan.ensures in
    let long = ap (λ (S : State _). length S.targets.targets) c.self.view_is in
    omega (arith, c.requires.sized.targets)

pub begin_again-requires-13-clause-depths : goal.begin_again-requires-13-clause-depths
begin_again-requires-13-clause-depths g c = λ t.
    ap (λ (S : State _). (the_target S.targets t).depth) c.self.view_is ∙ c.requires.sized.depths t ∙ sym (ap (λ (P : Plan). (the_target (opening_targets P) t).depth) c.plan-plan.ensures)
