-- The text of a story.
use Rattle.std.proofs.Common.{ℕ, ◌≡◌, List, Result, Ok, Err, IfOk, refl, subst, ap, ◌∙◌}
use Rattle.wdf_base.specs.declared.memory.Memory.{Memory}
use Rattle.wdf_tries.specs.declared.tried.Case.{Case}
use Rattle.wdf_tries.specs.Tries.{moved_case}
use Rattle.wdf_shrink.specs.Stories.{IsStoryOfSeed}
use Rattle.wdf_shrink.specs.Texts.{story_text}
use Rattle.wdf_hunt.specs.Answers.{IsStoryText}

-- a story of the moved case is one of the seed
pub story_due : {V : Type 0} (items : V → List ℕ) (tried moved : Case) (seed : ℕ) (picks : List ℕ) (told : Result V Memory) → moved ≡ moved_case tried seed → IsStoryOfSeed moved seed picks
    → IfOk told (λ text. items text ≡ story_text moved.scene picks) → IfOk told (λ text. IsStoryText tried seed (items text) 0)
story_due items tried moved seed picks (Ok text) same story is = record {
  picks = picks;
  story = subst (λ (t : Case). IsStoryOfSeed t seed picks) same story;
  text_is = is ∙ ap (λ (t : Case). story_text t.scene picks) same;
  status_is = refl;
}
story_due items tried moved seed picks (Err memory) same story is = tt
