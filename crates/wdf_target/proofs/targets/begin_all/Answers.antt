-- One target more begins anew, and all.
use Rattle.std.proofs.Common.{suc, ◌<◌, length, ap, ◌∙◌, sym, arith}
use Rattle.std.proofs.lemmas.List.{get_or_default}
use Rattle.std.proofs.lemmas.List.FromFn.{get_or-map-range_with_len}
use Rattle.wdf_declared.proofs.Ids.{anew_all, anew_more, anew_none}
use Rattle.wdf_model.specs.Plans.{target_of}
use Rattle.wdf_model.specs.parts.Targets.{Target, no_target, opening_target}
use Rattle.wdf_target.proofs.targets.begin_all.Goals as goal

pub loop-id-init : goal.loop-id-init
loop-id-init c = anew_none (λ t. opening_target (target_of c.args.plan.now t)) c.args.all.now.items

pub index_mut-target-requires : goal.index_mut-target-requires
index_mut-target-requires c = let many = c.loop-id.invariant.as_many in omega (arith, c.requires.ids)

pub begin_again-requires : goal.begin_again-requires
begin_again-requires c =
    let many = c.loop-id.invariant.as_many in
    let plan = c.args.plan.now in
    let id = c.loop-id.id in
    let within : id < length c.loop-id.all.items = omega (arith, c.requires.ids) in
    ap (λ (t : Target). t.depth) (c.index_mut-target.ensures.value ∙ get_or_default c.loop-id.all.items id c.index_mut-target.result.now no_target within ∙ c.loop-id.invariant.left no_target id (omega arith))
    ∙ c.requires.depths id
    ∙ ap (λ (t : Target). t.depth) (get_or-map-range_with_len (λ t. opening_target (target_of plan t)) 0 (suc (length plan.declared)) id id no_target (omega arith) (omega arith))
    ∙ ap (λ i. (opening_target i).depth) (sym c.target_of.ensures)

pub loop-id-preserved : goal.loop-id-preserved
loop-id-preserved c =
    anew_more (λ t. opening_target (target_of c.args.plan.now t)) c.args.all.now.items c.loop-id.all.items c.loop-id.id c.begin_again.new.self (omega (arith, c.requires.ids)) (c.begin_again.ensures ∙ ap opening_target c.target_of.ensures) c.loop-id.invariant

pub returns : goal.returns
returns c = anew_all no_target (λ t. opening_target (target_of c.args.plan.now t)) c.args.all.now.items _ c.loop-id.id _ c.loop-id.invariant (omega (arith, c.requires.ids)) (omega arith)
