-- What the events of a run do to the steps of devices, place by place.
use Rattle.std.proofs.Common.{◌≡◌, ℕ, true, List, ◌⊎◌, inl, inr, Some, slice_get, take, refl, sym, subst}
use Rattle.wdf_base.specs.Meaning.{Meaning}
use Rattle.wdf_base.specs.Resolved.{IsResolved}
use Rattle.wdf_base.specs.declared.plan.Plan.{Plan}
use Rattle.wdf_base.specs.declared.event.Event.{Event}
use Rattle.wdf_model.specs.State.{State}
use Rattle.wdf_model.specs.rules.Deeds.{do_deeds}
use Rattle.wdf_model.specs.rules.Steps.{after, deeds, may}
use Rattle.wdf_model.specs.rules.Ready.{IsRunOf, ready, state_after}
use Rattle.wdf_model.proofs.Runs.{run_front}
use Rattle.law_machine_base.specs.FactsOfEvents.{IsTick}
use Rattle.law_machine_lives.proofs.SoundRuns.{all_known}
use Rattle.law_trace_power.proofs.Laws.{comes_by}
use Rattle.law_trace_power.proofs.Runs.{kept_at_each}
use Rattle.law_trace_turns.specs.Turned.{Still, Turned}
use Rattle.law_trace_turns.proofs.Turns.{counted_too, turns}

module _ {A : Type 0} (plan : Plan) (m : Meaning A) (run : List Event) (resolved : IsResolved plan) (is_run : IsRunOf plan m run) (n : ℕ) where
  abbrev at_place : State A
  at_place = state_after plan m (take n run)

  turned_by : (e : Event) → (may plan m at_place e ≡ true) ⊎ IsTick m at_place (ready plan m (take n run)) e → Turned at_place (after plan m at_place e) e
  turned_by e (inl h) =
      counted_too m e at_place (do_deeds plan (deeds plan at_place e) at_place) e (turns plan m at_place (take n run) resolved (all_known plan m (take n run) (run_front (ready plan m) run n is_run)) (kept_at_each plan m run resolved is_run n) e h)
  turned_by e (inr t) = subst (λ x. Turned at_place (after plan m at_place x) x) (sym t.tick) (Still refl refl)

  pub turned_at : (e : Event) → slice_get run n ≡ Some e → Turned at_place (after plan m at_place e) e
  turned_at e at = turned_by e (comes_by plan m run n e is_run at)
