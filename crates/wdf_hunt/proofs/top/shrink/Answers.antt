-- What is said of the case that was read, and of what is none.
use Rattle.wdf_parse.proofs.ProperNames.{stands_scene, stands_properly}
use Rattle.wdf_hunt.specs.Answers.{IsStoryText, with_jitter}
use Rattle.wdf_hunt.proofs.Told.{case_refusal_told, due_told}
use Rattle.wdf_hunt.proofs.top.shrink.Goals as goal

pub tell_story-requires-clause-scene : goal.tell_story-requires-clause-scene
tell_story-requires-clause-scene g c = rw c.with_jitter.ensures (stands_scene c.in-Ok.ensures.case.0 c.in-Ok.case.scene c.in-Ok.ensures.case.1.1)

pub tell_story-requires-clause-names : goal.tell_story-requires-clause-names
tell_story-requires-clause-names g c = rw c.with_jitter.ensures (stands_properly c.in-Ok.ensures.case.0 c.in-Ok.case.scene c.in-Ok.ensures.case.1.1)

pub returns-in-Ok : goal.returns-in-Ok
returns-in-Ok g c = record {
  told = due_told (λ tried text status. IsStoryText (with_jitter c.args.jitter tried) c.args.seed text status) _ _ c.in-Ok.case _ c.in-Ok.ensures.case (rw c.with_jitter.ensures at c.tell_story.ensures.told);
  not_again = c.tell_story.ensures.not_again;
}

pub returns-in-Err : goal.returns-in-Err
returns-in-Err g c = record {
  told = case_refusal_told (λ tried text status. IsStoryText (with_jitter c.args.jitter tried) c.args.seed text status) _ _ c.in-Err.refusal _ c.in-Err.ensures.refused c.tell_refusal.ensures.said;
  not_again = c.tell_refusal.ensures.not_again;
}
