-- What is so of requests, and of what is being deleted, in the states of runs.
use Rattle.std.specs.Prelude.{◌≡◌, ℕ, Bool, true, false, not, ◌&&◌, ◌||◌, is_some}
use Rattle.wdf_base.specs.declared.plan.Plan.{Plan}
use Rattle.wdf_base.specs.declared.call.Callback.{Callback}
use Rattle.wdf_base.specs.declared.call.Callback.TheVariants as callback
use Rattle.wdf_base.specs.declared.object.Kind.TheVariants as kind
use Rattle.wdf_base.specs.Same.{same_kind}
use Rattle.wdf_base.specs.Lives.{is_live}
use Rattle.wdf_base.specs.Places.{is_done, is_sent_to}
use Rattle.wdf_model.specs.Plans.{target_of}
use Rattle.wdf_model.specs.parts.Tree.{kind_of, life_of, started}
use Rattle.wdf_model.specs.parts.Requests.{place_of}
use Rattle.wdf_model.specs.parts.Targets.{routine_due}
use Rattle.wdf_model.specs.State.{State, declares_in}
use Rattle.wdf_model.specs.rules.Starts.{clean_ready, destroy_ready}
use Rattle.law_stuck_causes.specs.Causes.{all_taken}

-- a request that is sent is at a target of the plan, which is live
pub record SentToTargets {A : Type 0} (plan : Plan) (S : State A) : Type 0 where
  pub targets : (r t : ℕ) → is_sent_to t (place_of S.requests r) ≡ true → (is_some (target_of plan t) && is_live (life_of S.tree t)) ≡ true

-- a request that arrived and whose deletion was asked is done
pub record ArrivedEnd {A : Type 0} (S : State A) : Type 0 where
  pub done : (r : ℕ) → same_kind (kind_of S.tree r) kind.Request ≡ true → is_live (life_of S.tree r) ≡ false → is_done (place_of S.requests r) ≡ true

-- a callback of an object's end is the next to come for it: its conditions hold, and it is declared and hasn't started
abbrev pub comes_next : {A : Type 0} → Plan → State A → Bool → Callback → ℕ → Bool
comes_next plan S ready c o = ready && declares_in plan S c o && not (started S.tree o c)

-- An object finds no processor in two cases. Its cleanup callback or its destroy callback is the next to come for it,
-- and each processor has a frame. Or it is a request with which its target is done, and each processor has a level at
-- which no completion routine starts.
abbrev pub finds_no_cpu : {A : Type 0} → Plan → State A → ℕ → Bool
finds_no_cpu plan S o =
    ((comes_next plan S (clean_ready S o) callback.EvtCleanupCallback o || comes_next plan S (destroy_ready S o) callback.EvtDestroyCallback o) && all_taken plan S 0)
    || (is_some (routine_due S.targets o) && all_taken plan S 2)
