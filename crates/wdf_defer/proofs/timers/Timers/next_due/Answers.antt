-- The place of the next reached timer.
use Rattle.std.proofs.Common.{◌≡◌, ◌≤◌, ℕ, length, map, sym, ◌∙◌, subst, arith}
use Rattle.wdf_model.specs.declared.room.TheConstants.{OBJECTS}
use Rattle.wdf_model.specs.parts.Deferred.Timers.{Timers}
use Rattle.wdf_sets.specs.Members.{members}
use Rattle.wdf_sets.specs.Nexts.{IsNext, NoneFrom}
use Rattle.wdf_defer.specs.Reached.{AreReached}
use Rattle.wdf_defer.specs.Timers.{AreApart, is_due_at, timed_at}
use Rattle.wdf_defer.proofs.TimersOfSet.{apart, map_past, next_place, no_place, none_after, they_rise}
use Rattle.wdf_defer.proofs.timers.Timers.next_due.Goals as goal

pub returns-then-self-now-clause-apart : goal.returns-then-self-now-clause-apart
returns-then-self-now-clause-apart c =
    subst (λ (T : Timers). AreApart T) c.self.view_is (apart _ (they_rise c.self.inside.queued c.self.inside.ticks OBJECTS c.self.invariant.room.objects))

pub returns-in-None-clause-apart : goal.returns-in-None-clause-apart
returns-in-None-clause-apart c =
    subst (λ (T : Timers). AreApart T) c.self.view_is (apart _ (they_rise c.self.inside.queued c.self.inside.ticks OBJECTS c.self.invariant.room.objects))

pub returns-in-Some-next-clause-apart : goal.returns-in-Some-next-clause-apart
returns-in-Some-next-clause-apart c =
    subst (λ (T : Timers). AreApart T) c.self.view_is (apart _ (they_rise c.self.inside.queued c.self.inside.ticks OBJECTS c.self.invariant.room.objects))

pub returns-in-None-next-clause-apart : goal.returns-in-None-next-clause-apart
returns-in-None-next-clause-apart c =
    subst (λ (T : Timers). AreApart T) c.self.view_is (apart _ (they_rise c.self.inside.queued c.self.inside.ticks OBJECTS c.self.invariant.room.objects))

pub returns-in-None-clause-next : goal.returns-in-None-clause-next
returns-in-None-clause-next c =
    let past : length (map (timed_at c.self.inside.ticks) (members c.self.inside.queued)) ≤ c.args.from = map_past c.self.inside.ticks (members c.self.inside.queued) c.args.from (sym c.at.ensures ∙ c.in-None.is) in
    let P : Timers → Type 0 = λ T. NoneFrom (is_due_at T c.args.now) c.args.from (length T.queued) in
    subst P c.self.view_is (none_after (is_due_at _ c.args.now) c.args.from _ past)

pub returns-in-Some-next-clause-next : goal.returns-in-Some-next-clause-next
returns-in-Some-next-clause-next c =
    let i = c.self.inside in
    let same : i.seen ≡ c.args.now = omega (arith, c.if-self-now.false) in
    let P : Timers → Type 0 = λ T. IsNext (is_due_at T c.args.now) c.args.from (length T.queued) c.before-in-Some-next.result in
    let a : AreReached i.queued i.ticks i.reached i.floors (λ o. c.args.now) = subst (λ (n : ℕ). AreReached i.queued i.ticks i.reached i.floors (λ o. n)) same c.self.invariant.reached in
    subst P c.self.view_is
    (rw c.before-in-Some-next.ensures (next_place i.queued i.reached i.ticks i.floors c.args.now c.args.from c.in-Some.start c.self.invariant.room a (sym c.at.ensures ∙ c.in-Some.is) c.in-Some-next.o c.in-Some-next.ensures))

pub returns-in-None-next-clause-next : goal.returns-in-None-next-clause-next
returns-in-None-next-clause-next c =
    let i = c.self.inside in
    let same : i.seen ≡ c.args.now = omega (arith, c.if-self-now.false) in
    let P : Timers → Type 0 = λ T. NoneFrom (is_due_at T c.args.now) c.args.from (length T.queued) in
    let a : AreReached i.queued i.ticks i.reached i.floors (λ o. c.args.now) = subst (λ (n : ℕ). AreReached i.queued i.ticks i.reached i.floors (λ o. n)) same c.self.invariant.reached in
    subst P c.self.view_is
    (no_place i.queued i.reached i.ticks i.floors c.args.now c.args.from c.in-Some.start c.self.invariant.room a (sym c.at.ensures ∙ c.in-Some.is) _ c.in-None-next.ensures)
