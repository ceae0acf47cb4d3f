-- The first of the name's scripts that is the one, or none.
use Rattle.std.proofs.Common.{sym, ◌∙◌, ap, arith}
use Rattle.wdf_plan_index.specs.Places.{places_of}
use Rattle.wdf_plan_index.proofs.Walking.{leads}
use Rattle.wdf_plan_index.proofs.callbacks.script_among.Goals as goal

pub walk-init : goal.walk-init
walk-init c =
    leads c.args.plan.now c.args.callback c.args.owner.now c.args.names.now c.requires _ (c.into_iter-script-iterator.ensures.into_iter_gives ∙ c.of-script-items.ensures ∙ ap (places_of c.args.names.now) c.owner_name.ensures)

pub item-requires : goal.item-requires
item-requires c = let here = rw c.in-Some.ensures.steps.0 at c.walk.invariant in (omega arith, here.0)

pub returns-then-is_of : goal.returns-then-is_of
returns-then-is_of c =
    let here = rw c.in-Some.ensures.steps.0 at c.walk.invariant in
    sym (here.1 c.item.result.now c.item.ensures (sym c.is_of.ensures ∙ c.if-is_of.true))

pub walk-preserved : goal.walk-preserved
walk-preserved c =
    let here = rw c.in-Some.ensures.steps.0 at c.walk.invariant in
    here.2 c.item.result.now c.item.ensures (sym c.is_of.ensures ∙ c.if-is_of.false)

pub returns : goal.returns
returns c = let none = rw c.in-None.ensures.steps.0 at c.walk.invariant in sym none
