-- The words of the seed are the first story, the search leaves one, and its picks up to the run's last event are one too.
use Rattle.std.proofs.Common.{◌≡◌, Global, Vec, ℕ, ap, ◌∙◌}
use Rattle.wdf_plan.specs.Plans.{plan_of}
use Rattle.wdf_run.specs.Seeds.{seed_words}
use Rattle.wdf_shrink.proofs.Stories.{own_story, story_if}
use Rattle.wdf_shrink.proofs.story.story_of_seed.Goals as goal

pub shrink-requires-clause-story : goal.shrink-requires-clause-story
shrink-requires-clause-story c = own_story c.args.case.now c.in_ok-picks.picks.items c.in_ok-goal.goal (rw c.as_slice.ensures.value at c.in_ok-goal.ensures)

pub returns : goal.returns
returns c =
    let words : c.in_ok-picks.picks.items ≡ seed_words c.args.seed (plan_of c.args.case.now.scene).limit = c.in_ok-picks.ensures.words ∙ ap (λ n. seed_words c.args.seed n) (c.from.ensures ∙ c.in_ok-limit.ensures) in
    story_if (λ (v : Vec ℕ Global). v.items) c.args.case.now c.args.seed c.in_ok-picks.picks.items c.shrink.new.best.items c.in_ok-goal.goal c.in_ok-told.told c.first_picks.result words
    (rw c.as_slice.ensures.value at c.in_ok-goal.ensures) c.in_ok-shrink.ensures (rw c.as_slice-2.ensures.value at c.in_ok-told.ensures) (rw c.as_slice-3.ensures.value at c.first_picks.ensures.first) c.first_picks.ensures.short
