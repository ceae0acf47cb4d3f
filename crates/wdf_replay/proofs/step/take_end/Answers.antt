-- The line is there, so one more has come.
use Rattle.std.proofs.lemmas.Option.{slice_get_within}
use Rattle.wdf_run_text.specs.Texts.{end_lines}
use Rattle.wdf_replay.proofs.step.take_end.Goals as goal

pub one_told-requires-clause-there : goal.one_told-requires-clause-there
one_told-requires-clause-there g c =
    slice_get_within (end_lines c.args.core.now.plan g.A.Agent.meaning c.args.core.now.journal) c.args.told.lines _ (c.is_end_line.ensures.0 c.if-is_end_line.true)
