-- The event that was added is sent with its number.
use Rattle.std.proofs.Common.{ap, arith}
use Rattle.crossbeam_queue.specs.Passes.{ruled_capacity, view}
use Rattle.wdf_live.proofs.Sent.{has_room, sent_none, sent_one}
use Rattle.wdf_live.proofs.watched.send_new.Goals as goal

pub send-requires-clause-sends : goal.send-requires-clause-sends
send-requires-clause-sends g c = ap (λ v. v.sends) c.requires.grown.1

pub send-requires-clause-room : goal.send-requires-clause-room
send-requires-clause-room g c =
    let at = c.requires.grown.2 in
    let within = c.journal_len.ensures.within in
    let more = c.if-before-journal_len.true in
    has_room (view c.args.pass.now) c.requires.grown.0 c.args.core.now.plan.limit (ruled_capacity c.args.desk.now.pipe.now) c.requires.grown.1 (omega arith) c.requires.room

pub returns-then-before-journal_len-clause-sent : goal.returns-then-before-journal_len-clause-sent
returns-then-before-journal_len-clause-sent g c =
    let more = c.if-before-journal_len.true in
    let counted = c.journal_len.ensures.length in
    sent_one _ _ _ _ _ c.args.before c.requires.grown.1 c.requires.grown.2 c.requires.grown.3 (omega arith) c.journal_at-event.ensures c.send.ensures.sent

pub returns-else-before-journal_len-clause-sent : goal.returns-else-before-journal_len-clause-sent
returns-else-before-journal_len-clause-sent g c =
    let none = c.if-before-journal_len.false in
    let counted = c.journal_len.ensures.length in
    sent_none _ _ _ c.args.before c.requires.grown.1 c.requires.grown.2 c.requires.grown.3 (omega arith)
