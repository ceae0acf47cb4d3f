-- The seat that is split off is another, and the first counts it; at the end the first is put after them.
use Rattle.std.proofs.Common.{ap, sym, ◌∙◌, ◌-◌, arith, length}
use Rattle.wdf_turn.specs.Turns.{token}
use Rattle.wdf_crew.proofs.Rows.{one_longer, others_more, row_made, split_counts, split_is_other}
use Rattle.wdf_crew.proofs.seats.seat_workers.Goals as goal

pub loop-made-init : goal.loop-made-init
loop-made-init g c = let e = c.requires.first in let none = ap length c.requires.empty in record {
  others = λ k d h. absurd (omega arith);
  count = omega arith;
  room = c.requires.room;
  idle = (c.requires.own, ap (λ v. v.hold) e);
  first = (ap (λ v. v.number) e, ap (λ v. v.unjoined) e ∙ sym none);
  made = ap (λ v. v.made) e;
  seats = ap (λ v. v.seats) e;
}

pub split-seat-requires-clause-left : goal.split-seat-requires-clause-left
split-seat-requires-clause-left g c =
    let inv = c.loop-made.invariant in
    let made = inv.made in
    let seats = inv.seats in
    let more = c.loop-made-test.true in
    omega arith

pub loop-made-preserved : goal.loop-made-preserved
loop-made-preserved g c =
    let inv = c.loop-made.invariant in
    let own = c.split-seat.ensures.own in
    let e = c.split-seat.ensures.old in
    let xs = c.loop-made.seats.items in
    let ys = c.push_reserved.new.self.items in
    let seat = c.split-seat.result in
    let grown = c.push_reserved.ensures.items in
    let longer = one_longer xs ys seat grown in
    let count = inv.count in
    let room = inv.room in
    let cap = c.push_reserved.ensures.capacity in
    record {
      others = others_more c.args.turn.now xs ys seat grown inv.others (split_is_other c.args.turn.now seat (token c.loop-made.first) own.1 c.split-seat.ensures.new (let made = inv.made in omega arith));
      count = omega arith;
      room = omega arith;
      idle = (own.0, ap (λ v. v.hold) e ∙ inv.idle.1);
      first = split_counts c.args.turn.now c.loop-made.first c.split-seat.new.seat xs ys seat e inv.first grown;
      made = let was = inv.made in let more = ap (λ v. v.made) e in omega arith;
      seats = ap (λ v. v.seats) e ∙ inv.seats;
    }

pub returns : goal.returns
returns g c =
    let inv = c.loop-made.invariant in
    let count = inv.count in
    let over = c.loop-made-test.false in
    let end = c.loop-made.auto._made-end in
    let some = c.requires.some in
    row_made c.args.turn.now (c.args.workers - 1) c.loop-made.seats.items c.push_reserved-2.new.self.items c.loop-made.first c.push_reserved-2.ensures.items (omega arith) inv.others inv.idle inv.first
