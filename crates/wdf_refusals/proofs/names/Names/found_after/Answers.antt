use Rattle.std.proofs.Common.{◌≡◌, ◌∙◌, sym}
use Rattle.wdf_blocks.specs.Declarations.{found}
use Rattle.wdf_refusals.proofs.Fitting.{found_small}
use Rattle.wdf_refusals.proofs.Lookups.{found_none, found_some}
use Rattle.wdf_refusals.proofs.names.Names.found_after.Goals as goal

pub returns-in-Some-clause-value : goal.returns-in-Some-clause-value
returns-in-Some-clause-value c =
    rw (← c.self.view_is) (found_some _ _ _ _ _ (rw (← c.self.view_is) at (sym c.requires ∙ c.in-Some.is)) (rw (← c.as_slice.ensures.value) c.found_from.ensures))

pub returns-in-Some-clause-small : goal.returns-in-Some-clause-small
returns-in-Some-clause-small c =
    let e : c.found_from.result ≡ found c.self.inside.declarations.items c.args.name.now c.args.wanted = found_some _ _ _ _ _ (rw (← c.self.view_is) at (sym c.requires ∙ c.in-Some.is)) (rw (← c.as_slice.ensures.value) c.found_from.ensures) in
    found_small c.self.inside.declarations.items c.args.name.now c.args.wanted c.found_from.result c.self.invariant.1 e

pub returns-in-None-clause-value : goal.returns-in-None-clause-value
returns-in-None-clause-value c =
    found_none _ _ _ (sym c.requires ∙ c.in-None.is)
