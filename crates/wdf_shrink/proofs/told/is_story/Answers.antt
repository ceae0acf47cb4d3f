-- The kinds are compared, and the numbers of events.
use Rattle.std.proofs.Common.{sym, ◌∙◌}
use Rattle.wdf_shrink.proofs.Stories.{ends_story}
use Rattle.wdf_shrink.proofs.told.is_story.Goals as goal

pub returns : goal.returns
returns c = λ yes. ends_story c.args.case.now c.args.picks.now c.in_ok-told.told c.args.goal.now c.in_ok-told.ensures (sym c.ends_as.ensures ∙ yes)
