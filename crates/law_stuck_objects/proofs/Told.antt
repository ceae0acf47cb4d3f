-- What the lines on objects and devices name, exactly.
use Rattle.std.proofs.Common.{if◌then◌else◌, ◌≡◌, ℕ, Bool, true, false, ◌&&◌, ◌||◌, List, [], ◌∷◌, Option, Some, None, is_some, slice_get, refl, sym}
use Rattle.std.specs.Prelude.{option_map}
use Rattle.wdf_base.specs.Meaning.{Meaning}
use Rattle.wdf_base.specs.Resolved.{IsResolved}
use Rattle.wdf_base.specs.declared.plan.Plan.{Plan}
use Rattle.wdf_base.specs.declared.ids.Handle.{Handle}
use Rattle.wdf_base.specs.declared.event.Event.{Event}
use Rattle.wdf_base.specs.declared.event.Ending.TheVariants as ending
use Rattle.wdf_base.specs.declared.event.Stage.{Stage}
use Rattle.wdf_base.specs.declared.event.Stage.TheVariants as stage
use Rattle.wdf_base.specs.declared.event.Step.{Step}
use Rattle.wdf_base.specs.declared.event.Step.TheVariants as step
use Rattle.wdf_base.specs.declared.wait.Cause.{Cause}
use Rattle.wdf_base.specs.declared.wait.Cause.TheVariants as cause
use Rattle.wdf_base.specs.declared.wait.OpenThing.{OpenThing}
use Rattle.wdf_base.specs.declared.wait.OpenThing.TheVariants as thing
use Rattle.wdf_model.specs.Tables.{least}
use Rattle.wdf_model.specs.parts.Pnp.{follows_queues_up, is_running_step}
use Rattle.wdf_model.specs.State.{State, handle_in}
use Rattle.wdf_model.specs.rules.Ready.{IsRunOf, ending_of, state_after}
use Rattle.wdf_model.specs.rules.Waits.{at_target, by_frame, cause_if, children_first, object_cause, object_cpus, references_cause, users_that_keep, wait_list}
use Rattle.law_stuck_causes.specs.Caused.{has_no_cause}
use Rattle.law_stuck_causes.specs.Causes.{keeps_next, keeps_resumes, keeps_running}
use Rattle.law_stuck_causes.proofs.Forms.{none_left}
use Rattle.law_stuck_causes.proofs.Gives.{Gives, gives_first, gives_frame, gives_if, gives_map}
use Rattle.law_stuck_named.proofs.Closed.{waits_for_others}
use Rattle.law_stuck_named.proofs.Lines.{line_tells}
use Rattle.law_stuck_named.proofs.Whole.{line_is_named}
use Rattle.law_stuck_objects.specs.Deleted.{finds_no_cpu}
use Rattle.law_stuck_objects.specs.Spinning.{is_waiting_stage, is_waiting_step}
use Rattle.law_stuck_objects.proofs.Asked.{leaving_named}

-- ---- `cpus` of an object

-- so for `cpus` alone
abbrev so_of_cpu : Bool → Cause → Bool
so_of_cpu b cause.NoCpu = b
so_of_cpu b _ = true

gives_when : (b c : Bool) (o : Option Cause) → Gives (so_of_cpu b) o → Gives (so_of_cpu b) (if c then o else None)
gives_when b true o g = g
gives_when b false o g = λ x e. absurd (let z : ⊥ = cc in z)

module _ {A : Type 0} (plan : Plan) (S : State A) (o : ℕ) where
  object_gives : Gives (so_of_cpu (object_cpus plan S o)) (object_cause plan S o)
  object_gives =
      gives_first (so_of_cpu (object_cpus plan S o))
      (references_cause S o ∷ option_map (λ x. cause.ByChild (handle_in plan S x)) (least (children_first S o)) ∷ by_frame (users_that_keep S o) ∷ cause_if (object_cpus plan S o) cause.NoCpu ∷ at_target plan S o ∷ []) (
        gives_if (so_of_cpu (object_cpus plan S o)) _ (cause.References _) (λ h. refl),
        (
          gives_map (so_of_cpu (object_cpus plan S o)) (λ x. cause.ByChild (handle_in plan S x)) (least (children_first S o)) (λ n e. refl),
          (
            gives_frame (so_of_cpu (object_cpus plan S o)) (users_that_keep S o) (λ f h. refl),
            (
              gives_if (so_of_cpu (object_cpus plan S o)) (object_cpus plan S o) cause.NoCpu (λ h. h),
              (
                gives_when (object_cpus plan S o) _ _ (gives_map (so_of_cpu (object_cpus plan S o)) (λ t. cause.AtTarget (handle_in plan S t)) _ (λ n e. refl)),
                tt,
              ),
            ),
          ),
        ),
      )

pub objects_find_no_processor : {A : Type 0} (plan : Plan) (m : Meaning A) (run : List Event) → IsRunOf plan m run → ending_of plan m run ≡ ending.Stuck → (k : ℕ) (o : Handle)
    → slice_get (wait_list plan m run) k ≡ Some (record { thing = thing.Leaving o; cause = Some cause.NoCpu }) → finds_no_cpu plan (state_after plan m run) o.id.0 ≡ true
objects_find_no_processor {A} plan m run is_run ends k o h =
    let S : State A = state_after plan m run in
    let l = line_tells plan m run ends k (thing.Leaving o) (Some cause.NoCpu) h in
    let cpus : object_cpus plan S o.id.0 ≡ true = object_gives plan S o.id.0 cause.NoCpu (sym l.cause) in
    rw (← none_left plan S 0, ← none_left plan S 2) cpus

-- ---- the steps that wait

stage_waits : {A : Type 0} (plan : Plan) (S : State A) (d : ℕ) (s : Stage) (i : Option Handle) (x : Cause) → keeps_next plan S d (step.Pass s i) x ≡ true → is_waiting_stage s ≡ true
stage_waits plan S d stage.Settled i x h = refl
stage_waits plan S d stage.Disabled i x h = refl
stage_waits plan S d stage.Quiet i x h = refl
stage_waits plan S d stage.Removed i x h = refl
stage_waits plan S d s i cause.NoCpu h = absurd (let z : ⊥ = cc in z)
stage_waits plan S d s i _ h = absurd (let z : ⊥ = cc in z)

step_waits : {A : Type 0} (plan : Plan) (S : State A) (d : ℕ) (s : Step) (x : Cause) → keeps_next plan S d s x ≡ true → is_waiting_step s ≡ true
step_waits plan S d (step.Run c i) x h = refl
step_waits plan S d (step.Pass s i) x h = stage_waits plan S d s i x h

kept_next : (running follows : Bool) (a b c : Bool) → running ≡ false → follows ≡ false → (if running then a else ((follows && b) || c)) ≡ true → c ≡ true
kept_next true f a b c e k h = absurd (let z : ⊥ = cc in z)
kept_next false true a b c e k h = absurd (let z : ⊥ = cc in z)
kept_next false false a b c e k h = h

pub devices_wait_at_steps : {A : Type 0} (plan : Plan) (m : Meaning A) (run : List Event) → IsResolved plan → IsRunOf plan m run → ending_of plan m run ≡ ending.Stuck → (k : ℕ) (d : Handle) (s : Step) (x : Option Cause)
    → slice_get (wait_list plan m run) k ≡ Some (record { thing = thing.Sequence d s; cause = x }) → is_running_step (state_after plan m run).pnp d.id.0 ≡ false → follows_queues_up (state_after plan m run).pnp d.id.0 ≡ false → is_waiting_step s ≡ true
devices_wait_at_steps {A} plan m run resolved is_run ends k d s x h idle early =
    let S : State A = state_after plan m run in
    let w = waits_for_others plan m run resolved is_run ends k d s x h in
    step_waits plan S d.id.0 s w.what (kept_next (is_running_step S.pnp d.id.0) (follows_queues_up S.pnp d.id.0) (keeps_running S d.id.0 s w.what) (keeps_resumes plan S d.id.0 w.what) (keeps_next plan S d.id.0 s w.what) idle early w.keeps)

-- ---- each line

pub each_line_named : {A : Type 0} (plan : Plan) (m : Meaning A) (run : List Event) → IsResolved plan → IsRunOf plan m run → ending_of plan m run ≡ ending.Stuck → (k : ℕ) (t : OpenThing) (x : Option Cause)
    → slice_get (wait_list plan m run) k ≡ Some (record { thing = t; cause = x }) → has_no_cause t ≡ false → is_some x ≡ true
each_line_named plan m run resolved is_run ends k (thing.Leaving o) x h has = leaving_named plan m run resolved is_run ends k o x h
each_line_named plan m run resolved is_run ends k (thing.Waiting f c o) x h has = line_is_named plan m run resolved is_run ends k (thing.Waiting f c o) x h refl
each_line_named plan m run resolved is_run ends k (thing.Queued r q) x h has = line_is_named plan m run resolved is_run ends k (thing.Queued r q) x h refl
each_line_named plan m run resolved is_run ends k (thing.Returning r q) x h has = line_is_named plan m run resolved is_run ends k (thing.Returning r q) x h refl
each_line_named plan m run resolved is_run ends k (thing.Sequence d s) x h has = line_is_named plan m run resolved is_run ends k (thing.Sequence d s) x h refl
each_line_named plan m run resolved is_run ends k (thing.Deferred o) x h has = line_is_named plan m run resolved is_run ends k (thing.Deferred o) x h refl
each_line_named plan m run resolved is_run ends k _ x h has = absurd (let z : ⊥ = cc in z)
