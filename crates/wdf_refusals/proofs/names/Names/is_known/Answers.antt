use Rattle.std.proofs.Common.{sym, ◌∙◌}
use Rattle.wdf_refusals.proofs.Lookups.{known_stands}
use Rattle.wdf_refusals.proofs.names.Names.is_known.Goals as goal

pub returns-in-Some : goal.returns-in-Some
returns-in-Some c = λ h.
    rw (← c.self.view_is) (known_stands c.args.name.now c.args.wanted c.self.inside.declarations.items c.in-Some.at.now (rw (← c.as_slice.ensures.value) (sym c.is_wanted_at.ensures ∙ h)))
