-- The timer, where it is a member.
use Rattle.std.proofs.Common.{◌≡◌, subst, sym, ap, ◌∙◌, Some, true}
use Rattle.wdf_model.specs.declared.room.TheConstants.{OBJECTS}
use Rattle.wdf_model.specs.parts.Deferred.Timers.{Timers, timed_of}
use Rattle.wdf_maps.specs.Places.{rises}
use Rattle.wdf_defer.specs.Ticks.{timer_id}
use Rattle.wdf_defer.proofs.TimersOfSet.{they_rise, timed_none, timed_there}
use Rattle.wdf_defer.proofs.timers.Timers.timed_of.Goals as goal

pub returns-then-contains-clause-timed : goal.returns-then-contains-clause-timed
returns-then-contains-clause-timed c =
    ap Some c.timed_at.ensures ∙ sym (timed_there c.self.inside.queued c.self.inside.ticks c.args.o.0 (sym c.contains.ensures ∙ c.if-contains.true)) ∙ ap (λ (T : Timers). timed_of T c.args.o.0) c.self.view_is

pub returns-then-contains-clause-object : goal.returns-then-contains-clause-object
returns-then-contains-clause-object c = rw c.timed_at.ensures (c.self.invariant.room.objects c.args.o.0 (sym c.contains.ensures ∙ c.if-contains.true))

pub returns-then-contains-clause-rising : goal.returns-then-contains-clause-rising
returns-then-contains-clause-rising c =
    let P : Timers → Type 0 = λ T. rises timer_id 0 OBJECTS T.queued ≡ true in
    subst P c.self.view_is (they_rise c.self.inside.queued c.self.inside.ticks OBJECTS c.self.invariant.room.objects)

pub returns-else-contains-clause-timed : goal.returns-else-contains-clause-timed
returns-else-contains-clause-timed c =
    sym (timed_none c.self.inside.queued c.self.inside.ticks c.args.o.0 (sym c.contains.ensures ∙ c.if-contains.false)) ∙ ap (λ (T : Timers). timed_of T c.args.o.0) c.self.view_is

pub returns-else-contains-clause-rising : goal.returns-else-contains-clause-rising
returns-else-contains-clause-rising c =
    let P : Timers → Type 0 = λ T. rises timer_id 0 OBJECTS T.queued ≡ true in
    subst P c.self.view_is (they_rise c.self.inside.queued c.self.inside.ticks OBJECTS c.self.invariant.room.objects)
