-- The story is of the scene that the seed runs.
use Rattle.wdf_hunt.proofs.Stories.{story_due}
use Rattle.wdf_hunt.proofs.story.story_of.Goals as goal

pub returns : goal.returns
returns c =
    story_due (λ text. text.items) c.args.case c.in_ok-moved.moved c.args.seed c.in_ok-picks.picks.items c.story_text.result c.in_ok-moved.ensures.moved c.in_ok-picks.ensures
    (rw c.as_slice.ensures.value at c.story_text.ensures)
