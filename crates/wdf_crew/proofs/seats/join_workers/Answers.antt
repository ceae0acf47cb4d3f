-- The row's last seat is the first one; each other is joined into it.
use Rattle.wdf_turn.specs.Turns.{token}
use Rattle.wdf_crew.proofs.Rows.{first_joins, others_less, row_opened}
use Rattle.wdf_crew.proofs.seats.join_workers.Goals as goal

pub join-init : goal.join-init
join-init g c =
    let cut = rw c.unwrap-first.ensures at c.pop.ensures.items in
    let parts = row_opened c.args.turn.now c.requires.0 c.args.seats.items c.pop.new.self.items c.unwrap-first.result c.requires.1 cut in
    record { others = parts.0; idle = parts.1; first = parts.2 }

pub join-preserved : goal.join-preserved
join-preserved g c =
    let inv = c.join.invariant in
    let cut = c.in-Some.ensures.items in
    let less = others_less c.args.turn.now c.join.seats.items c.pop-in-join.new.self.items c.in-Some.seat cut inv.others in
    let went = c.join-in-Some.ensures in
    let now = first_joins c.args.turn.now c.join.first c.join-in-Some.new.into (token c.in-Some.seat) went.joined.0 c.join.seats.items c.pop-in-join.new.self.items c.in-Some.seat went.own went.joined.2 inv.idle inv.first cut in
    record { others = less.0; idle = now.0; first = now.1 }
