-- An id that has no place.
use Rattle.std.proofs.Common.{length, sym, ap, ◌∙◌}
use Rattle.wdf_plan_index.proofs.Finding.{place_is}
use Rattle.wdf_plan_index.proofs.agents.place_in.Goals as goal

pub returns-in-None-clause-value : goal.returns-in-None-clause-value
returns-in-None-clause-value c = ap length c.as_slice.ensures.value ∙ sym (place_is c.args.ids.now c.args.id _ c.in-None.ensures.first)
