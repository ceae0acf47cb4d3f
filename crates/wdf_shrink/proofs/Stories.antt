-- A run that is told is a story of its own picks; and a story of a seed's run is one of the seed.
use Rattle.std.proofs.Common.{ℕ, zero, suc, ◌≡◌, ◌+◌, ◌%◌, ◌<◌, ◌≤◌, ◌^◌, ◌&&◌, All, Bool, true, false, List, [], ◌∷◌, bytes_eq, length, length-take, nat_le, IfOk, Result, Ok, Err, slice_get, slice_index, take, refl, sym, ap, ◌∙◌, subst, arith}
use Rattle.std.proofs.lemmas.Bool.{false≢true}
use Rattle.std.proofs.lemmas.Bool.Decides.{nat_tests}
use Rattle.std.proofs.lemmas.Option.{slice_get_within}
use Rattle.std.proofs.lemmas.Slice.Eq.{bytes_eq-Decides}
use Rattle.wdf_base.specs.declared.event.Event.{Event}
use Rattle.wdf_base.specs.declared.memory.Memory.{Memory}
use Rattle.wdf_model.specs.Runs.{IsPickedFrom, Picked}
use Rattle.wdf_model.specs.rules.Ready.{IsPickedRun, ready}
use Rattle.wdf_model.proofs.Runs.{picked_once}
use Rattle.wdf_dev.specs.Agents.{agent_meaning}
use Rattle.wdf_run.specs.Seeds.{seed_words}
use Rattle.wdf_plan.specs.Plans.{plan_of}
use Rattle.wdf_tries.specs.declared.tried.Case.{Case}
use Rattle.wdf_tries.specs.Tries.{kind_of}
use Rattle.wdf_shrink.specs.declared.told.Told.{Told}
use Rattle.wdf_shrink.specs.Stories.{IsToldOf, IsStory, IsStoryOfSeed, ends_as}

-- a run that ends in the kind of the goal, with no more events
pub told_story : (tried : Case) (picks : List ℕ) (told goal : Told) → IsToldOf tried picks told → told.kind ≡ goal.kind → told.events ≤ goal.events → IsStory tried goal.kind goal.events picks
told_story tried picks told goal is same few = record {
  run = is.run;
  picked = is.picked;
  kind_is = subst (λ k. k ≡ goal.kind) is.kind_is same;
  few = omega (arith, is.events_is, few);
}

both_hold : (a b : Bool) → (a && b) ≡ true → (a ≡ true) × (b ≡ true)
both_hold true b h = (refl, h)
both_hold false b h = absurd (false≢true h)

-- so it is where that was tested
pub ends_story : (tried : Case) (picks : List ℕ) (told goal : Told) → IsToldOf tried picks told → ends_as told goal ≡ true → IsStory tried goal.kind goal.events picks
ends_story tried picks told goal is h =
    let both = both_hold (bytes_eq told.kind goal.kind) (nat_le told.events goal.events) h in
    let few : told.events ≤ goal.events = grind (arith, nat_tests, both.1) in
    told_story tried picks told goal is ((bytes_eq-Decides told.kind goal.kind).0 both.0) few

-- a run is a story of the picks that made it
pub own_story : (tried : Case) (picks : List ℕ) (goal : Told) → IsToldOf tried picks goal → IsStory tried goal.kind goal.events picks
own_story tried picks goal is = told_story tried picks goal goal is refl (omega arith)

-- ---- picks after the last event pick nothing

index_kept : (n : ℕ) (picks : List ℕ) (turn : ℕ) → turn < n → slice_index (take n picks) turn ≡ slice_index picks turn
index_kept zero picks turn h = absurd (omega (arith, h))
index_kept (suc n) [] turn h = refl
index_kept (suc n) (pick ∷ picks) zero h = refl
index_kept (suc n) (pick ∷ picks) (suc turn) h = index_kept n picks turn (omega (arith, h))

from_kept : {E : Type 0} (ready : List E → List E) (picks : List ℕ) (run : List E) → IsPickedFrom ready picks [] run → IsPickedFrom ready (take (length run) picks) [] run
unfolding IsPickedFrom
from_kept ready picks run p turn event h =
    let zeroth : 0 + turn ≡ turn = omega arith in
    let within : 0 + turn < length run = slice_get_within run (0 + turn) event h in
    let count = length (ready (take (0 + turn) run)) in
    ap (λ pick. slice_get (ready (take (0 + turn) run)) (pick % count)) (index_kept (length run) picks turn (omega (arith, within))) ∙ p turn event h

pub picked_kept : {E : Type 0} (ready : List E → List E) (picks : List ℕ) (run : List E) → Picked ready picks [] run → Picked ready (take (length run) picks) [] run
picked_kept ready picks run p = record { begins = p.begins; picked = from_kept ready picks run p.picked; ends = p.ends }

-- a story of some picks is one of those of them that pick
record IsKept (tried : Case) (kind : List ℕ) (most : ℕ) (picks : List ℕ) : Type 0 where
  story : IsStory tried kind most picks
  few : length picks ≤ length story.run

kept_story : (tried : Case) (kind : List ℕ) (most : ℕ) (picks first : List ℕ) (told : Told) → IsStory tried kind most picks → IsToldOf tried picks told → first ≡ take told.events picks → IsKept tried kind most first
kept_story tried kind most picks first told story is same =
    let once : is.run ≡ story.run = picked_once (ready (plan_of tried.scene) agent_meaning) picks [] is.run story.run is.picked story.picked in
    let events : told.events ≡ length story.run = is.events_is ∙ ap (λ (es : List Event). length es) once in
    let taken : take (length story.run) picks ≡ first = ap (λ n. take n picks) (sym events) ∙ sym same in
    subst (IsKept tried kind most) taken
    (record {
      story = record { run = story.run; picked = picked_kept (ready (plan_of tried.scene) agent_meaning) picks story.run story.picked; kind_is = story.kind_is; few = story.few };
      few = omega (arith, length-take (length story.run) picks);
    })

pub seed_story : (tried : Case) (seed : ℕ) (words picks first : List ℕ) (goal told : Told) → words ≡ seed_words seed (plan_of tried.scene).limit → IsToldOf tried words goal → IsStory tried goal.kind goal.events picks
    → IsToldOf tried picks told → first ≡ take told.events picks → All (λ pick. pick < 2 ^ 64) first → IsStoryOfSeed tried seed first
seed_story tried seed words picks first goal told same is story last taken short =
    let whole : IsStory tried (kind_of tried.expectations (plan_of tried.scene) agent_meaning is.run) (length is.run) picks =
    subst (λ k. IsStory tried k (length is.run) picks) is.kind_is (subst (λ n. IsStory tried goal.kind n picks) is.events_is story) in
    let kept = kept_story tried (kind_of tried.expectations (plan_of tried.scene) agent_meaning is.run) (length is.run) picks first told whole last taken in
    record {
      run = is.run;
      picked = subst (λ ws. IsPickedRun (plan_of tried.scene) agent_meaning ws is.run) same is.picked;
      story = kept.story;
      few_picks = kept.few;
      short = short;
    }

-- so of what was cut, where there was memory
pub story_if : {V : Type 0} (items : V → List ℕ) (tried : Case) (seed : ℕ) (words picks : List ℕ) (goal told : Told) (r : Result V Memory) → words ≡ seed_words seed (plan_of tried.scene).limit → IsToldOf tried words goal → IsStory tried goal.kind goal.events picks
    → IsToldOf tried picks told → IfOk r (λ first. items first ≡ take told.events picks) → IfOk r (λ first. All (λ pick. pick < 2 ^ 64) (items first)) → IfOk r (λ first. IsStoryOfSeed tried seed (items first))
story_if items tried seed words picks goal told (Ok first) same is story last taken short = seed_story tried seed words picks (items first) goal told same is story last taken short
story_if items tried seed words picks goal told (Err memory) same is story last taken short = tt
