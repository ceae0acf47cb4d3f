-- The text of a story tells of the seed.
use Rattle.std.proofs.Common.{◌≡◌, ℕ, List, None, sym, subst}
use Rattle.wdf_parse.specs.StandsFor.{StandsFor}
use Rattle.wdf_refusals.specs.First.{first_refusal}
use Rattle.wdf_tries.specs.declared.tried.Case.{Case}
use Rattle.wdf_hunt.specs.Answers.{IsStoryText}
use Rattle.law_story.specs.Seeds.{TellsSeed}
use Rattle.law_story.proofs.Seeds.{tells_seed}
use Rattle.law_story.proofs.Stories.{spelled_text}

pub text_tells : (input : List ℕ) (tried : Case) → StandsFor input tried.scene → first_refusal tried.scene ≡ None → (seed : ℕ) (text : List ℕ) (status : ℕ) → IsStoryText tried seed text status → TellsSeed tried seed text
text_tells input tried stands none' seed text status s = subst (TellsSeed tried seed) (sym s.text_is) (tells_seed tried (spelled_text input tried.scene stands) none' seed s.picks s.story)
