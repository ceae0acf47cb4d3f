-- The clause is the lemma on posts.
use Rattle.law_lines.proofs.Posting.{posts_of_plan}
use Rattle.law_lines.proofs.plan_events.posts_are_of_plan.Goals as goal

pub returns : goal.returns
returns g c = posts_of_plan
