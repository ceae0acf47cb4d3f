-- The next tick comes only where nothing else may, and is the clock's.
use Rattle.std.proofs.Common.{◌≡◌, true, false, ap, sym, ◌∙◌, arith, length, ◌+◌}
use Rattle.wdf_base.specs.declared.event.Event.TheVariants as event
use Rattle.wdf_model.specs.rules.Ready.{allowed, state_after, waits_for_time}
use Rattle.wdf_ready.specs.Actors.{is_by}
use Rattle.wdf_core.proofs.Journal.{first_allowed, first_by_tick, none_by_tick, none_there}
use Rattle.wdf_core.proofs.machine.Core.tick_for.Goals as goal
use Rattle.wdf_core.proofs.machine.Core.tick_for.Goals.{then-allowed_len-gt0-via-then-allowed_len-gt0, then-allowed_len-gt0-via-else-allowed_len-gt0+then-not-waits_for_time}

pub returns-then-not-is_by : goal.returns-then-not-is_by
returns-then-not-is_by g c =
    let going = rw (← c.self.view_is) at c.requires.going in
    let none = rw (← c.self.view_is) at c.requires.none in
    let other : is_by c.args.actor (event.Tick ((state_after c.self.inside.plan g.A.Agent.meaning c.self.inside.journal.items).clock + 1)) ≡ false = ap (is_by c.args.actor) (sym (rw (← c.self.view_is) at c.tick.ensures)) ∙ sym c.is_by.ensures ∙ c.if-not-is_by.true in
    rw (← c.self.view_is) (none_there g.A.Agent.meaning c.self.inside.plan c.self.inside.journal.items c.self.inside.parts _ _ c.self.invariant.way (is_by c.args.actor) going none other)

pub returns-then-allowed_len-gt0 : goal.returns-then-allowed_len-gt0
returns-then-allowed_len-gt0 g c =
    let m = g.A.Agent.meaning in
    let going = rw (← c.self.view_is) at c.requires.going in
    let none = rw (← c.self.view_is) at c.requires.none in
    let counted = rw (← c.self.view_is) at c.allowed_len.ensures.length in
    rw (← c.self.view_is) (elim c.then-allowed_len-gt0.branch [
      | then-allowed_len-gt0-via-then-allowed_len-gt0 w ↦
          sym none ∙ first_allowed m c.self.inside.plan c.self.inside.journal.items c.self.inside.parts _ _ c.self.invariant.way (is_by c.args.actor) going (omega (arith, w.if-allowed_len-gt0.true))
      | then-allowed_len-gt0-via-else-allowed_len-gt0+then-not-waits_for_time w ↦
          let empty : length (allowed c.self.inside.plan m (state_after c.self.inside.plan m c.self.inside.journal.items)) ≡ 0 = omega (arith, w.if-allowed_len-gt0.false) in
          let waits : waits_for_time m (state_after c.self.inside.plan m c.self.inside.journal.items) ≡ false = (sym (rw (← c.self.view_is) at w.waits_for_time.ensures)) ∙ w.if-not-waits_for_time.true in
          none_by_tick m c.self.inside.plan c.self.inside.journal.items c.self.inside.parts _ _ c.self.invariant.way (is_by c.args.actor) going empty waits
    ])

pub returns : goal.returns
returns g c =
    let m = g.A.Agent.meaning in
    let going = rw (← c.self.view_is) at c.requires.going in
    let counted = rw (← c.self.view_is) at c.allowed_len.ensures.length in
    let empty : length (allowed c.self.inside.plan m (state_after c.self.inside.plan m c.self.inside.journal.items)) ≡ 0 = omega (arith, c.if-allowed_len-gt0.false) in
    let waits : waits_for_time m (state_after c.self.inside.plan m c.self.inside.journal.items) ≡ true = (sym (rw (← c.self.view_is) at c.waits_for_time.ensures)) ∙ c.if-not-waits_for_time.false in
    let by : is_by c.args.actor (event.Tick ((state_after c.self.inside.plan m c.self.inside.journal.items).clock + 1)) ≡ true = ap (is_by c.args.actor) (sym (rw (← c.self.view_is) at c.tick.ensures)) ∙ sym c.is_by.ensures ∙ c.if-not-is_by.false in
    rw (← c.self.view_is) (first_by_tick m c.self.inside.plan c.self.inside.journal.items c.self.inside.parts _ _ c.self.invariant.way (is_by c.args.actor) true going empty waits by)
