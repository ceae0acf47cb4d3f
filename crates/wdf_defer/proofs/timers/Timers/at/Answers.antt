-- The member at the place, with its tick.
use Rattle.std.proofs.Common.{◌≡◌, Some, slice_get, sym, ap, ◌∙◌, subst}
use Rattle.wdf_model.specs.parts.Deferred.Timers.{Timers}
use Rattle.wdf_sets.specs.Members.{members}
use Rattle.wdf_defer.proofs.TimersOfSet.{map_at}
use Rattle.wdf_defer.proofs.timers.Timers.at.Goals as goal

pub returns : goal.returns
returns c =
    let P : Timers → Type 0 = λ T. slice_get T.queued c.args.k ≡ Some c.timed_at.result in
    subst P c.self.view_is
    (map_at c.self.inside.ticks (members c.self.inside.queued) c.args.k c.unwrap.result (sym c.at.ensures ∙ c.unwrap.ensures) ∙ ap Some (sym c.timed_at.ensures))
