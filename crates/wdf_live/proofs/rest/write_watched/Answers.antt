-- What the printer wrote and what came after it is the text of the one run.
use Rattle.wdf_live.proofs.Exits.{printed_quiet, watched_cut, watched_whole}
use Rattle.wdf_live.proofs.rest.write_watched.Goals as goal
use Rattle.wdf_output.proofs.Sinks.{ends_later}

pub returns-then-printed-clause-watched : goal.returns-then-printed-clause-watched
returns-then-printed-clause-watched g c =
    let w = c.in_ok-core.ensures in
    watched_cut c.args.core.plan g.A.Agent.meaning c.in_ok-core.core.journal _ _ _ _ c.in_ok-core.printed w.run w.ended c.if-printed.true w.printed

pub returns-clause-watched : goal.returns-clause-watched
returns-clause-watched g c =
    let w = c.in_ok-core.ensures in
    watched_whole c.args.core.plan c.in_ok-core.core.plan g.A.Agent.meaning c.in_ok-core.core.journal _ _ _ _ _ _ _ c.in_ok-core.printed w.run w.ended c.if-printed.false w.printed w.plan
    c.write_rest.ensures.never_falls c.write_rest.ensures.said

pub returns-then-printed-clause-not_again : goal.returns-then-printed-clause-not_again
returns-then-printed-clause-not_again g c = λ is. c.in_ok-core.ensures.not_again c.if-printed.true

pub returns-clause-not_again : goal.returns-clause-not_again
returns-clause-not_again g c =
    let quiet = printed_quiet c.args.core.plan c.in_ok-core.core.journal _ _ _ _ c.in_ok-core.printed c.if-printed.false c.in_ok-core.ensures.printed in
    λ is. ends_later g.K.Sink.refused g.K.Sink.faults c.args.sink.now c.watch.new.sink c.write_rest.new.sink quiet (c.write_rest.ensures.not_again is)
