use Rattle.std.proofs.Common.{◌∙◌, sym}
use Rattle.wdf_refusals.proofs.Lookups.{first_none, first_some}
use Rattle.wdf_refusals.proofs.names.Names.first.Goals as goal

pub returns-in-Some : goal.returns-in-Some
returns-in-Some c =
    rw (← c.self.view_is, c.item.ensures, c.as_slice.ensures.value) (first_some c.args.name.now c.self.inside.declarations.items c.in-Some.at.now (sym (c.self.invariant.0.first c.args.name.now) ∙ sym c.in-Some.ensures.value))

pub returns-in-None : goal.returns-in-None
returns-in-None c =
    rw (← c.self.view_is) (first_none c.args.name.now c.self.inside.declarations.items (sym (c.self.invariant.0.first c.args.name.now) ∙ sym c.in-None.ensures.value))
