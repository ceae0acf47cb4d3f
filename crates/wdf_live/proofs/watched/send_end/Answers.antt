-- The pipe has a place for each event that the run may have, and one more.
use Rattle.std.proofs.Common.{arith}
use Rattle.crossbeam_queue.specs.Passes.{ruled_capacity, view}
use Rattle.wdf_live.proofs.Sent.{has_room}
use Rattle.wdf_live.proofs.watched.send_end.Goals as goal

pub send-requires-clause-room : goal.send-requires-clause-room
send-requires-clause-room g c =
    let counted = c.journal_len-events.ensures.length in
    let within = c.journal_len-events.ensures.within in
    has_room (view c.args.pass.now) c.args.core.now.journal c.args.core.now.plan.limit (ruled_capacity c.args.desk.now.pipe.now) c.requires.sent (omega arith) c.requires.room
