-- Fewer are reached than are queued.
use Rattle.std.proofs.Common.{◌≡◌, ◌∙◌, ap, length, nat_lt, arith}
use Rattle.wdf_model.specs.parts.Deferred.Timers.{Timers, any_later_timer}
use Rattle.wdf_sets.specs.Members.{members}
use Rattle.wdf_defer.proofs.TimersOfSet.{later_counted}
use Rattle.wdf_defer.proofs.timers.Timers.any_later_timer.Goals as goal

pub returns : goal.returns
returns c =
    let i = c.self.inside in
    let same : i.seen ≡ c.args.now = omega (arith, c.if-self-now.false) in
    ap (λ n. nat_lt n c.len-2.result) c.len.ensures ∙ ap (nat_lt (length (members i.reached))) c.len-2.ensures
    ∙ later_counted i.queued i.reached i.ticks i.floors i.seen c.self.invariant.room c.self.invariant.reached
    ∙ ap (λ (T : Timers). any_later_timer T i.seen) c.self.view_is ∙ ap (any_later_timer c.args.self.now) same
