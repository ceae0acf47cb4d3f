use Rattle.std.proofs.Common.{◌≡◌, None, sym, ap, subst, ◌∙◌, arith}
use Rattle.wdf_model.specs.parts.Targets.{Target, new_sending, sending_in_order}
use Rattle.wdf_maps.specs.Places.{entry_of}
use Rattle.wdf_target.specs.Target.{request_id}
use Rattle.wdf_target.proofs.Kept.{kept_moved, no_target_has}
use Rattle.wdf_target.proofs.Noting.{noted_moved}
use Rattle.wdf_target.proofs.Acts.{read_as, nothing_kept, send_moves, taker_within, target_written}
use Rattle.wdf_target.proofs.targets.Targets.send.Goals as goal

pub add-requires-clause-free : goal.add-requires-clause-free
add-requires-clause-free c =
    let none = nothing_kept c.args.self.now c.self.inside.targets.items c.self.inside.holders.items c.args.r.0 c.self.view_is c.self.invariant.kept c.requires.free in
    let within = taker_within c.args.self.now c.self.inside.targets.items c.args.t.0 c.self.view_is (sym c.takes_more.ensures) c.if-not-takes_more.false in
    let read = read_as c.self.inside.targets.items c.args.t.0 c.index_mut-target.result.now within c.index_mut-target.ensures.value in
    let has = no_target_has c.self.inside.targets.items c.self.inside.holders.items c.args.r.0 c.args.t.0 c.self.invariant.kept none in
    let P : Target → Type 0 = λ x. entry_of request_id x.sent c.args.r.0 ≡ None in
    subst P read has

pub invariant_of-self : goal.invariant_of-self
invariant_of-self c =
    let none = nothing_kept c.args.self.now c.self.inside.targets.items c.self.inside.holders.items c.args.r.0 c.self.view_is c.self.invariant.kept c.requires.free in
    let within = taker_within c.args.self.now c.self.inside.targets.items c.args.t.0 c.self.view_is (sym c.takes_more.ensures) c.if-not-takes_more.false in
    let read = read_as c.self.inside.targets.items c.args.t.0 c.index_mut-target.result.now within c.index_mut-target.ensures.value in
    let f : Target → Target = λ x. record x { sent = sending_in_order (new_sending c.args.r.0 c.args.forget) x.sent } in
    let moves = send_moves c.self.inside.targets.items c.self.inside.holders.items c.args.t c.args.r.0 c.args.forget c.add.new.self c.self.invariant.kept within none (c.add.ensures ∙ ap f (sym read)) in
    record {
      kept = rw c.put_at.ensures.entries (kept_moved c.self.inside.targets.items c.self.inside.holders.items _ c.args.t.0 c.args.r.0 c.add.new.self _ c.self.invariant.kept moves);
      room = omega (arith, c.put_at.ensures.room, c.self.invariant.room);
      noted = rw c.note.ensures (noted_moved c.self.inside.targets.items c.self.inside.with_done c.args.t.0 c.add.new.self c.self.invariant.noted within);
    }

pub returns-clause-done : goal.returns-clause-done
returns-clause-done c =
    let within = taker_within c.args.self.now c.self.inside.targets.items c.args.t.0 c.self.view_is (sym c.takes_more.ensures) c.if-not-takes_more.false in
    let read = read_as c.self.inside.targets.items c.args.t.0 c.index_mut-target.result.now within c.index_mut-target.ensures.value in
    let f : Target → Target = λ x. record x { sent = sending_in_order (new_sending c.args.r.0 c.args.forget) x.sent } in
    target_written c.args.self.now c.self.inside.targets.items c.args.t.0 f c.add.new.self c.self.view_is within (c.add.ensures ∙ ap f (sym read))
