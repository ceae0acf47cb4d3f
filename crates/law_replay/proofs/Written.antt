-- What a run writes is accepted after its scenario.
use Rattle.std.proofs.Common.{ℕ, List, refl, subst}
use Rattle.wdf_base.specs.declared.plan.Plan.{Plan}
use Rattle.wdf_model.specs.rules.Ready.{ending_of}
use Rattle.wdf_dev.specs.Agents.{agent_meaning}
use Rattle.wdf_run_text.specs.Texts.{text_of}
use Rattle.wdf_replay.specs.Verdicts.{GivesVerdict}
use Rattle.law_text.specs.Marks.{EndsInFeed, IsParted}
use Rattle.law_text.proofs.Parted.{parted_scene}
use Rattle.law_replay.specs.Claims.{IsAcceptedAgain, IsPlanOf}
use Rattle.law_replay.proofs.Exactly.{accepts_texts_of_plan}

pub accepted_again : (scenario : List ℕ) (plan : Plan) → IsPlanOf scenario plan → EndsInFeed scenario → IsAcceptedAgain scenario plan agent_meaning
accepted_again scenario plan p ends run ended =
    let text : List ℕ = text_of plan agent_meaning run in
    let parts : IsParted scenario text = parted_scene scenario text p.1.0 p.1.1 ends in (
      parts,
      λ v gives. (accepts_texts_of_plan scenario plan p text v (subst (λ t. GivesVerdict plan agent_meaning t v) parts.1 gives) (ending_of plan agent_meaning run)).1 (run, ended, refl, refl),
    )
