-- The best picks so far are a story.
use Rattle.wdf_shrink.specs.Stories.{IsStory}
use Rattle.wdf_shrink.proofs.search.cut_tail.Given as goal

abbrev pub invariant-loop-step : goal.invariant-loop-step
invariant-loop-step l = IsStory l.case l.goal.kind l.goal.events l.best.items
