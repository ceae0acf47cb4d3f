-- The text is an event's that was taken, or it is tried as the next of the lines after the events.
use Rattle.std.proofs.Common.{sym, subst, ◌∙◌}
use Rattle.wdf_base.specs.Resolved.{IsResolved}
use Rattle.wdf_replay.proofs.Taken.{taken_event, taken_not_ready, taken_no_event}
use Rattle.wdf_replay.proofs.step.take_text.Goals as goal

pub why_no_event-requires : goal.why_no_event-requires
why_no_event-requires g c = subst IsResolved (sym (c.plan.ensures ∙ c.read_text.ensures.plan)) c.requires.resolved

pub returns-in-Taken-clause-taken : goal.returns-in-Taken-clause-taken
returns-in-Taken-clause-taken g c =
    taken_event c.args.core.now.plan g.A.Agent.meaning c.args.core.now.journal c.read_text.new.core.journal c.args.told c.args.text.now c.read_text.result
    c.in-Taken.is c.requires.within c.read_text.ensures.read

pub returns-in-NotReady-clause-taken : goal.returns-in-NotReady-clause-taken
returns-in-NotReady-clause-taken g c =
    taken_not_ready c.args.core.now.plan g.A.Agent.meaning c.args.core.now.journal c.read_text.new.core.journal c.args.told c.args.text.now c.read_text.result c.take_end.result
    c.in-NotReady.is c.read_text.ensures.read (rw c.read_text.ensures.plan at c.take_end.ensures)

pub returns-in-NoEvent-clause-taken : goal.returns-in-NoEvent-clause-taken
returns-in-NoEvent-clause-taken g c =
    taken_no_event c.args.core.now.plan g.A.Agent.meaning c.args.core.now.journal c.read_text.new.core.journal c.args.told c.args.text.now c.read_text.result
    c.why_no_event.result c.take_end-in-NoEvent.result c.plan.result.now
    c.in-NoEvent.is c.read_text.ensures.read (c.plan.ensures ∙ c.read_text.ensures.plan) c.why_no_event.ensures (rw c.read_text.ensures.plan at c.take_end-in-NoEvent.ensures)
