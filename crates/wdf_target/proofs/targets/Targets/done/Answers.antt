use Rattle.std.proofs.Common.{rules, arith}
use Rattle.wdf_model.specs.parts.Targets.{target_done}
use Rattle.wdf_target.proofs.Kept.{target_within, kept_moved}
use Rattle.wdf_target.proofs.Noting.{noted_moved}
use Rattle.wdf_target.proofs.Acts.{changed_as_read, holder_read, done_none, done_moves, done_done}
use Rattle.wdf_target.proofs.targets.Targets.done.Goals as goal

pub returns-in_default-clause-done : goal.returns-in_default-clause-done
returns-in_default-clause-done c =
    let none = holder_read c.self.inside.holders.items _ c.args.r.0 c.entry_at.result _ c.entry_at.ensures c.as_slice.ensures.value c.in_default.is in
    done_none c.args.self.now c.self.inside.targets.items c.self.inside.holders.items c.args.r.0 c.args.status c.self.view_is c.self.invariant.kept none

pub index_mut-target-requires : goal.index_mut-target-requires
index_mut-target-requires c =
    let there = holder_read c.self.inside.holders.items _ c.args.r.0 c.entry_at.result _ c.entry_at.ensures c.as_slice.ensures.value c.in-Some.is in
    let within = target_within c.self.inside.targets.items c.self.inside.holders.items c.args.r.0 c.in-Some.t c.self.invariant.kept there in
    search rules

pub invariant_of-self : goal.invariant_of-self
invariant_of-self c =
    let there = holder_read c.self.inside.holders.items _ c.args.r.0 c.entry_at.result _ c.entry_at.ensures c.as_slice.ensures.value c.in-Some.is in
    let is = changed_as_read c.self.inside.targets.items c.self.inside.holders.items c.args.r.0 c.in-Some.t (target_done c.args.r.0 c.args.status) c.index_mut-target.result.now c.finish-keeps.new.self c.self.invariant.kept there c.index_mut-target.ensures.value c.finish-keeps.ensures.done in
    let moves = done_moves c.self.inside.targets.items c.self.inside.holders.items c.args.r.0 c.args.status c.in-Some.t c.finish-keeps.new.self c.finish-keeps.result c.self.invariant.kept there is c.finish-keeps.ensures.it in
    record {
      kept = rw c.then_some.ensures (kept_moved c.self.inside.targets.items c.self.inside.holders.items _ c.in-Some.t.0 c.args.r.0 c.finish-keeps.new.self _ c.self.invariant.kept moves);
      room = c.self.invariant.room;
      noted = rw c.note.ensures (noted_moved c.self.inside.targets.items c.self.inside.with_done c.in-Some.t.0 c.finish-keeps.new.self c.self.invariant.noted (target_within c.self.inside.targets.items c.self.inside.holders.items c.args.r.0 c.in-Some.t c.self.invariant.kept there));
    }

pub returns-clause-done : goal.returns-clause-done
returns-clause-done c =
    let there = holder_read c.self.inside.holders.items _ c.args.r.0 c.entry_at.result _ c.entry_at.ensures c.as_slice.ensures.value c.in-Some.is in
    let is = changed_as_read c.self.inside.targets.items c.self.inside.holders.items c.args.r.0 c.in-Some.t (target_done c.args.r.0 c.args.status) c.index_mut-target.result.now c.finish-keeps.new.self c.self.invariant.kept there c.index_mut-target.ensures.value c.finish-keeps.ensures.done in
    done_done c.args.self.now c.self.inside.targets.items c.self.inside.holders.items c.args.r.0 c.args.status c.in-Some.t c.finish-keeps.new.self c.self.view_is c.self.invariant.kept there is

pub note-requires : goal.note-requires
note-requires c =
    let there = holder_read c.self.inside.holders.items _ c.args.r.0 c.entry_at.result _ c.entry_at.ensures c.as_slice.ensures.value c.in-Some.is in
    let within = target_within c.self.inside.targets.items c.self.inside.holders.items c.args.r.0 c.in-Some.t c.self.invariant.kept there in
    let room = c.self.invariant.noted.room in
    omega arith
