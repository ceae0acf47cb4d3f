-- What a part names is the first, or the last number is.
use Rattle.std.proofs.Common.{◌≡◌, ◌<◌, false, sym, ◌∙◌, arith}
use Rattle.wdf_offers.specs.Idle.{can_start_at}
use Rattle.wdf_offers.proofs.LastPlace.{found_before, found_last, none_at_all}
use Rattle.wdf_offers.proofs.due.next_startable.Goals.{else-to-end-via-then-to-end+else-can_start_at, else-to-end-via-else-to-end}
use Rattle.wdf_offers.proofs.due.next_startable.Goals as goal

pub returns-in-Some : goal.returns-in-Some
returns-in-Some g c =
    found_before (can_start_at c.args.parts.now c.args.rank) c.args.from c.args.end c.min-to.result c.requires.small c.min-to.ensures c.in-Some.place c.in-Some.ensures

pub returns-then-can_start_at : goal.returns-then-can_start_at
returns-then-can_start_at g c =
    found_last (can_start_at c.args.parts.now c.args.rank) c.args.from c.args.end c.min-to.result c.requires.small c.min-to.ensures c.in_default.ensures c.if-from-end.false c.if-to-end.true (sym c.can_start_at.ensures ∙ c.if-can_start_at.true)

pub returns-else-to-end : goal.returns-else-to-end
returns-else-to-end g c =
    let last : c.min-to.result < c.args.end → can_start_at c.args.parts.now c.args.rank c.min-to.result ≡ false
    = elim c.else-to-end.branch [
      | else-to-end-via-then-to-end+else-can_start_at w ↦ λ below. sym w.can_start_at.ensures ∙ w.if-can_start_at.false
      | else-to-end-via-else-to-end w ↦ λ below. absurd (omega (arith, w.if-to-end.false))
    ] in
    none_at_all (can_start_at c.args.parts.now c.args.rank) c.args.from c.args.end c.min-to.result c.requires.small c.min-to.ensures c.in_default.ensures last
