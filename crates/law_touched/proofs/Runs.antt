-- What an event of a run doesn't touch stays.
use Rattle.std.proofs.Common.{◌≡◌, ◌<◌, ◌+◌, ℕ, true, false, List, [], ◌∷◌, ◌++◌, length, slice_get, ◌⊎◌, inl, inr, Some, ap, sym, subst, ◌∙◌}
use Rattle.std.proofs.Math.Seq.{take-length}
use Rattle.wdf_base.specs.Meaning.{Meaning}
use Rattle.wdf_base.specs.declared.plan.Plan.{Plan}
use Rattle.wdf_base.specs.declared.event.Event.{Event}
use Rattle.wdf_base.specs.declared.event.Event.TheVariants as event
use Rattle.wdf_model.specs.State.{State}
use Rattle.wdf_model.specs.rules.Ready.{IsRunOf, allowed, ready, state_after}
use Rattle.wdf_model.specs.rules.Steps.{after, may}
use Rattle.law_machine_base.specs.FactsOfEvents.{IsTick}
use Rattle.law_machine_base.specs.OverRuns.{FramesAgree}
use Rattle.law_machine_base.proofs.Follows.{follows, state_goes_on}
use Rattle.law_machine_counts.proofs.StepsOverRuns.{frames_agree_at_each}
use Rattle.law_machine_once.specs.Owned.{StepsOwned}
use Rattle.law_machine_once.proofs.Steps.{steps_owned_at_each}
use Rattle.wdf_model.specs.declared.enums.Group.{Group}
use Rattle.wdf_model.specs.declared.enums.Group.TheVariants as group
use Rattle.wdf_base.specs.declared.ids.Cpu.{Cpu}
use Rattle.wdf_base.specs.declared.value.Value.{Value}
use Rattle.law_touched.specs.Touched.{is_own_of, offers, touches}
use Rattle.law_touched.proofs.Totals.{one_group_counts}
use Rattle.law_touched.proofs.Law.{local_touches, log_touches, untouched, untouched_by_tick}

module _ {A : Type 0} (plan : Plan) (m : Meaning A) (run : List Event) (is_run : IsRunOf plan m run) where
  agree : FramesAgree (state_after plan m run)
  agree = subst (λ es. FramesAgree (state_after plan m es)) (take-length run) (frames_agree_at_each plan m run is_run (length run))

  owned : StepsOwned plan (state_after plan m run)
  owned = subst (λ es. StepsOwned plan (state_after plan m es)) (take-length run) (steps_owned_at_each plan m run is_run (length run))

  module _ (k : ℕ) (e : Event) (g : Group) (off : touches plan (state_after plan m run) e g ≡ false) where
    by_following : (may plan m (state_after plan m run) e ≡ true) ⊎ IsTick m (state_after plan m run) (ready plan m run) e → offers plan m (state_after plan m run) g ≡ offers plan m (after plan m (state_after plan m run) e) g
    by_following (inl comes) = untouched plan m (state_after plan m run) agree owned e comes g off
    by_following (inr tick) = untouched_by_tick plan m (state_after plan m run) agree owned e _ tick.tick g off

    pub untouched_in_run : slice_get (ready plan m run) k ≡ Some e → offers plan m (state_after plan m run) g ≡ offers plan m (state_after plan m (run ++ e ∷ [])) g
    untouched_in_run at = by_following (follows plan m run k e at) ∙ ap (λ (T : State A). offers plan m T g) (sym (state_goes_on plan m run e))

  -- an event inside a frame leaves the counts of the other groups
  pub local_counts : (k : ℕ) (cpu : Cpu) (line : ℕ) (g : Group) → slice_get (ready plan m run) k ≡ Some (event.Local cpu line) → is_own_of cpu.0 g ≡ false
      → length (offers plan m (state_after plan m run) g) ≡ length (offers plan m (state_after plan m (run ++ event.Local cpu line ∷ [])) g)
  local_counts k cpu line g at other = ap length (untouched_in_run k (event.Local cpu line) g (local_touches plan (state_after plan m run) cpu line g ∙ other) at)

  pub log_counts : (k : ℕ) (cpu : Cpu) (v : Value) (g : Group) → slice_get (ready plan m run) k ≡ Some (event.Log cpu v) → is_own_of cpu.0 g ≡ false
      → length (offers plan m (state_after plan m run) g) ≡ length (offers plan m (state_after plan m (run ++ event.Log cpu v ∷ [])) g)
  log_counts k cpu v g at other = ap length (untouched_in_run k (event.Log cpu v) g (log_touches plan (state_after plan m run) cpu v g ∙ other) at)

  -- and what may come changes in number by its own event alone
  pub local_total : (k : ℕ) (cpu : Cpu) (line : ℕ) → slice_get (ready plan m run) k ≡ Some (event.Local cpu line) → cpu.0 < plan.cpus
      → length (allowed plan m (state_after plan m run)) + length (offers plan m (state_after plan m (run ++ event.Local cpu line ∷ [])) (group.OwnEvent cpu.0))
      ≡ length (allowed plan m (state_after plan m (run ++ event.Local cpu line ∷ []))) + length (offers plan m (state_after plan m run) (group.OwnEvent cpu.0))
  local_total k cpu line at below =
      one_group_counts plan m (state_after plan m run) (state_after plan m (run ++ event.Local cpu line ∷ [])) cpu.0 below
      (λ g other. untouched_in_run k (event.Local cpu line) g (local_touches plan (state_after plan m run) cpu line g ∙ other) at)

  pub log_total : (k : ℕ) (cpu : Cpu) (v : Value) → slice_get (ready plan m run) k ≡ Some (event.Log cpu v) → cpu.0 < plan.cpus
      → length (allowed plan m (state_after plan m run)) + length (offers plan m (state_after plan m (run ++ event.Log cpu v ∷ [])) (group.OwnEvent cpu.0))
      ≡ length (allowed plan m (state_after plan m (run ++ event.Log cpu v ∷ []))) + length (offers plan m (state_after plan m run) (group.OwnEvent cpu.0))
  log_total k cpu v at below =
      one_group_counts plan m (state_after plan m run) (state_after plan m (run ++ event.Log cpu v ∷ [])) cpu.0 below
      (λ g other. untouched_in_run k (event.Log cpu v) g (log_touches plan (state_after plan m run) cpu v g ∙ other) at)
