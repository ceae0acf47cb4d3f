-- A lock that isn't held is one for which a parked frame waits; or each lock is held for which one waits.
use Rattle.std.proofs.Common.{sym, ap, ◌∙◌}
use Rattle.wdf_offers.specs.Parked.{is_held}
use Rattle.wdf_offers.proofs.ComingBack.{each_held, free_unheld, some_unblocked}
use Rattle.wdf_offers.proofs.parked.all_blocked.Goals as goal
use Rattle.wdf_offers.proofs.parked.all_blocked.Goals.{then-o-eq0-via-then-o-eq0, then-o-eq0-via-else-o-eq0+then-is_free_lock}

pub returns-then-o-eq0 : goal.returns-then-o-eq0
returns-then-o-eq0 g c =
    let S = c.args.parts.now in
    let next = rw c.cpus.ensures at c.in-Some.ensures in
    elim c.then-o-eq0.branch [
      | then-o-eq0-via-then-o-eq0 w ↦ sym (some_unblocked S c.in-Some.o.0 (ap (is_held S) w.if-o-eq0.true) next.passes)
      | then-o-eq0-via-else-o-eq0+then-is_free_lock w ↦
          sym (some_unblocked S c.in-Some.o.0 (free_unheld S c.in-Some.o.0 (sym (rw w.locks.ensures at w.is_free_lock.ensures) ∙ w.if-is_free_lock.true)) next.passes)
    ]

pub returns : goal.returns
returns g c = sym (each_held c.args.parts.now c.search.at c.search.invariant.held (rw c.cpus.ensures at c.in_default.ensures))
