-- One timer more isn't due later, or is.
use Rattle.std.proofs.Common.{◌+◌, ◌||◌, drop, sym, ap, ◌∙◌, arith, lt-ltb}
use Rattle.wdf_model.specs.parts.Deferred.Timers.{any_later_timer}
use Rattle.wdf_defer.proofs.TimersOfSet.{drop_all, drop_at, not_later}
use Rattle.wdf_defer.proofs.timers.Timers.some_later.Goals as goal

pub returns-then-now-at : goal.returns-then-now-at
returns-then-now-at c =
    let ts = c.args.self.now.queued in
    let k = c.loop-place.place in
    sym (sym c.loop-place.invariant
    ∙ ap (λ xs. any_later_timer (record { queued = xs }) c.args.now) (drop_at ts k c.at.result c.at.ensures)
    ∙ ap (λ b. b || any_later_timer (record { queued = drop (k + 1) ts }) c.args.now) (lt-ltb c.args.now c.at.result.tick c.if-now-at.true))

pub loop-place-preserved : goal.loop-place-preserved
loop-place-preserved c =
    let ts = c.args.self.now.queued in
    let k = c.loop-place.place in
    sym (ap (λ xs. any_later_timer (record { queued = xs }) c.args.now) (drop_at ts k c.at.result c.at.ensures)
    ∙ ap (λ b. b || any_later_timer (record { queued = drop (k + 1) ts }) c.args.now) (not_later c.args.now c.at.result.tick c.if-now-at.false))
    ∙ c.loop-place.invariant

pub returns : goal.returns
returns c =
    let ts = c.args.self.now.queued in
    let len = c.len-place-end.ensures in
    let past = c.loop-place-test.false in
    sym (ap (λ xs. any_later_timer (record { queued = xs }) c.args.now) (drop_all ts c.loop-place.place (omega arith))) ∙ c.loop-place.invariant
