-- What may come, or the next tick where something waits for it.
use Rattle.std.proofs.Common.{◌≡◌, true, false, sym, ◌∙◌, arith, length}
use Rattle.wdf_model.specs.rules.Ready.{allowed, state_after, waits_for_time}
use Rattle.wdf_core.proofs.Journal.{none_waits, one_waits, some_allowed}
use Rattle.wdf_core.proofs.machine.Core.or_tick_len.Goals as goal

pub returns-then-count-gt0-clause-length : goal.returns-then-count-gt0-clause-length
returns-then-count-gt0-clause-length g c =
    let going = rw (← c.self.view_is) at c.requires.going in
    rw (← c.self.view_is) (some_allowed g.A.Agent.meaning c.self.inside.plan c.self.inside.journal.items c.self.inside.parts _ _ c.self.invariant.way c.args.count going (rw (← c.self.view_is) at c.requires.counted) (omega (arith, c.if-count-gt0.true)))

pub returns-then-waits_for_time-clause-length : goal.returns-then-waits_for_time-clause-length
returns-then-waits_for_time-clause-length g c =
    let going = rw (← c.self.view_is) at c.requires.going in
    let counted = rw (← c.self.view_is) at c.requires.counted in
    let none : length (allowed c.self.inside.plan g.A.Agent.meaning (state_after c.self.inside.plan g.A.Agent.meaning c.self.inside.journal.items)) ≡ 0 = omega (arith, c.if-count-gt0.false) in
    let waits : waits_for_time g.A.Agent.meaning (state_after c.self.inside.plan g.A.Agent.meaning c.self.inside.journal.items) ≡ true = (sym (rw (← c.self.view_is) at c.waits_for_time.ensures)) ∙ c.if-waits_for_time.true in
    rw (← c.self.view_is) (one_waits g.A.Agent.meaning c.self.inside.plan c.self.inside.journal.items c.self.inside.parts _ _ c.self.invariant.way going none waits)

pub returns-else-waits_for_time-clause-length : goal.returns-else-waits_for_time-clause-length
returns-else-waits_for_time-clause-length g c =
    let going = rw (← c.self.view_is) at c.requires.going in
    let counted = rw (← c.self.view_is) at c.requires.counted in
    let none : length (allowed c.self.inside.plan g.A.Agent.meaning (state_after c.self.inside.plan g.A.Agent.meaning c.self.inside.journal.items)) ≡ 0 = omega (arith, c.if-count-gt0.false) in
    let waits : waits_for_time g.A.Agent.meaning (state_after c.self.inside.plan g.A.Agent.meaning c.self.inside.journal.items) ≡ false = (sym (rw (← c.self.view_is) at c.waits_for_time.ensures)) ∙ c.if-waits_for_time.false in
    rw (← c.self.view_is) (none_waits g.A.Agent.meaning c.self.inside.plan c.self.inside.journal.items c.self.inside.parts _ _ c.self.invariant.way going none waits)
