-- One timer more is looked at, or all are.
use Rattle.std.proofs.Common.{◌≡◌, ◌+◌, Some, [], drop, sym, ap, ◌∙◌, arith}
use Rattle.wdf_defer.specs.Ticks.{earlier, earliest_of}
use Rattle.wdf_defer.proofs.LeastTick.{in_turn, least_is, none_later}
use Rattle.wdf_defer.proofs.TimersOfSet.{drop_all, drop_at}
use Rattle.wdf_defer.proofs.timers.Timers.next_timer.Goals as goal

pub loop-place-preserved : goal.loop-place-preserved
loop-place-preserved c =
    let ts = c.args.self.now.queued in
    let k = c.loop-place.place in
    ap (λ t. earlier t (earliest_of (drop (k + 1) ts))) c.earlier-least.ensures
    ∙ in_turn c.loop-place.least (Some c.at.result.tick) (earliest_of (drop (k + 1) ts))
    ∙ ap (λ xs. earlier c.loop-place.least (earliest_of xs)) (sym (drop_at ts k c.at.result c.at.ensures))
    ∙ c.loop-place.invariant

pub returns : goal.returns
returns c =
    let ts = c.args.self.now.queued in
    let len = c.len-place-end.ensures in
    let past = c.loop-place-test.false in
    let end : drop c.loop-place.place ts ≡ [] = drop_all ts c.loop-place.place (omega arith) in
    sym (none_later c.loop-place.least) ∙ sym (ap (λ xs. earlier c.loop-place.least (earliest_of xs)) end) ∙ c.loop-place.invariant ∙ least_is ts
