-- The line of a device always names a cause.
use Rattle.std.proofs.Common.{if◌then◌else◌, ◌≡◌, ℕ, ◌==◌, ◌<◌, ◌≤◌, Bool, true, false, not, ◌&&◌, List, [], ◌∷◌, ◌⊎◌, inl, inr, Option, Some, None, is_some, count_by, filter, length, slice_get, refl, sym, ap, subst, ◌∙◌, arith}
use Rattle.std.proofs.lemmas.Bool.{cases_Bool, eqb-true}
use Rattle.wdf_base.specs.Meaning.{Meaning}
use Rattle.wdf_base.specs.Callbacks.{row_of}
use Rattle.wdf_base.specs.Plan.{declared_of}
use Rattle.wdf_base.specs.Resolved.{IsResolved}
use Rattle.wdf_base.specs.Same.{same_callback}
use Rattle.wdf_base.specs.declared.plan.Plan.{Plan}
use Rattle.wdf_base.specs.declared.ids.Handle.{Handle}
use Rattle.wdf_base.specs.declared.declared.Declared.{Declared}
use Rattle.wdf_base.specs.declared.event.Event.{Event}
use Rattle.wdf_base.specs.declared.event.Ending.TheVariants as ending
use Rattle.wdf_base.specs.declared.event.Stage.{Stage}
use Rattle.wdf_base.specs.declared.event.Stage.TheVariants as stage
use Rattle.wdf_base.specs.declared.event.Step.{Step}
use Rattle.wdf_base.specs.declared.event.Step.TheVariants as step
use Rattle.wdf_base.specs.declared.wait.Cause.{Cause}
use Rattle.wdf_base.specs.declared.wait.Cause.TheVariants as cause
use Rattle.wdf_base.specs.declared.wait.OpenThing.TheVariants as thing
use Rattle.wdf_base.specs.Lives.{is_live}
use Rattle.wdf_model.specs.Ids.{frame_id}
use Rattle.wdf_model.specs.Plans.{as_device, device_of}
use Rattle.wdf_model.specs.parts.Tree.{life_of}
use Rattle.wdf_model.specs.parts.Cpus.{all_frames, frame_of}
use Rattle.wdf_model.specs.parts.Pnp.{follows_queues_up, is_running_step, next_step, running_step, sequence_of}
use Rattle.wdf_model.specs.State.{State}
use Rattle.law_machine_base.specs.Agreement.{is_sequence, is_step_frame, steps_agree}
use Rattle.wdf_model.specs.rules.Groups.{declared_end}
use Rattle.wdf_model.specs.rules.Ready.{IsRunOf, ending_of, state_after}
use Rattle.wdf_model.specs.rules.Waits.{by_frame, first_cause, frames_where, resumes_cause, running_cause, runs_step, step_cause, wait_list}
use Rattle.wdf_model.proofs.Counts.{at_head, count_no, count_yes, equal}
use Rattle.wdf_model.proofs.Tests.{both, both_left, both_right}
use Rattle.wdf_model.proofs.Sames.{callback_decides}
use Rattle.law_machine_counts.proofs.Holding.{HoldsIn}
use Rattle.law_machine_counts.proofs.HeldOverRuns.{holds_at_each}
use Rattle.law_machine_counts.proofs.StepsOverRuns.{steps_agree_at_each}
use Rattle.law_machine_lives.proofs.Keeping.{at_the_end}
use Rattle.law_machine_lives.proofs.Lists.{all_of_kept}
use Rattle.law_stuck_causes.proofs.Endings.{at_rest}
use Rattle.law_stuck_causes.specs.Caused.{is_stage}
use Rattle.law_stuck_causes.proofs.Members.{Has}
use Rattle.law_stuck_causes.proofs.Needs.{none_least, some_or}
use Rattle.law_stuck_causes.proofs.Stages.{line_named}
use Rattle.law_stuck_named_if.proofs.Lines.{line_names}
use Rattle.law_stuck_named_if.proofs.Presents.{declared_within}
use Rattle.law_trace_power.proofs.Frames.{Runs, is_step}
use Rattle.law_stuck_named.specs.Standing.{IsOver, is_live_device}
use Rattle.law_stuck_named.proofs.AfterUp.{after_up_waits}
use Rattle.law_stuck_named.proofs.Deferred.{dpcs_may_run}
use Rattle.law_stuck_named.proofs.Lines.{DeviceLine, Runs_it, Waits_at, line_tells}
use Rattle.law_stuck_named.proofs.Resumes.{Resumable, resumable_at_each}
use Rattle.law_stuck_named.proofs.Runs.{Known, known_now, stands_now}
use Rattle.law_stuck_named.proofs.Stepped.{steps_may_run}

-- ---- the frame of a step that runs

kept_one_by : (p : ℕ → Bool) (x : ℕ) (xs : List ℕ) (b : Bool) → p x ≡ b → 1 ≤ count_by p (x ∷ xs) → (1 ≤ count_by p xs → (f : ℕ) × (Has f xs) × (p f ≡ true)) → (f : ℕ) × (Has f (x ∷ xs)) × (p f ≡ true)
kept_one_by p x xs true e h rest = (x, inl refl, e)
kept_one_by p x xs false e h rest = let same = count_no p x xs e in let more = rest (omega arith) in (more.0, inr more.1, more.2)

-- one that is counted
kept_one : (p : ℕ → Bool) (xs : List ℕ) → 1 ≤ count_by p xs → (f : ℕ) × (Has f xs) × (p f ≡ true)
kept_one p [] h = absurd (omega arith)
kept_one p (x ∷ xs) h = kept_one_by p x xs (p x) refl h (kept_one p xs)

counts_it : (f : ℕ) (xs : List ℕ) → Has f xs → 1 ≤ count_by (λ x. x == f) xs
counts_it f [] h = absurd h
counts_it f (x ∷ xs) (inl e) = let yes_ = count_yes (λ y. y == f) x xs (equal x f (sym e)) in omega arith
counts_it f (x ∷ xs) (inr h) = let more = counts_it f xs h in let one = at_head f x xs in omega arith

none_passes_by : (p : ℕ → Bool) (f x : ℕ) (xs : List ℕ) (b : Bool) → p x ≡ b → filter p (x ∷ xs) ≡ [] → Has f (x ∷ xs) → p f ≡ true → (Has f xs → filter p xs ≡ [] → ⊥) → ⊥
none_passes_by p f x xs true y e h k rest = let z : x ∷ filter p xs ≡ [] = rw y at e in let w : ⊥ = cc in w
none_passes_by p f x xs false y e (inl s) k rest = let t : p x ≡ true = sym (ap p s) ∙ k in let w : ⊥ = cc in w
none_passes_by p f x xs false y e (inr h) k rest = rest h (rw y at e)

none_passes : (p : ℕ → Bool) (f : ℕ) (xs : List ℕ) → Has f xs → p f ≡ true → filter p xs ≡ [] → ⊥
none_passes p f [] h k e = absurd h
none_passes p f (x ∷ xs) h k e = none_passes_by p f x xs (p x) refl e h k (λ more none. none_passes p f xs more k none)

-- each stage but `quiet`
abbrev StageSort : Stage → Option Handle → Type 0
StageSort s i = (s ≡ stage.Quiet) ⊎ (is_stage (step.Pass s i) ≡ true)

sort_of : (s : Stage) (i : Option Handle) → StageSort s i
sort_of stage.Quiet i = inl refl
sort_of _ i = inr refl

module _ {A : Type 0} (plan : Plan) (m : Meaning A) (run : List Event) (resolved : IsResolved plan) (is_run : IsRunOf plan m run) where
  abbrev S : State A
  S = state_after plan m run

  device_by : (d : ℕ) → (is_live_device plan S d ≡ false → ⊥) → is_live_device plan S d ≡ true
  device_by d h = elim (cases_Bool (is_live_device plan S d)) [
    | inl e ↦ e
    | inr off ↦ absurd (h off)
  ]

  running_live : (d : ℕ) (s : Step) → running_step S.pnp d ≡ Some s → is_live_device plan S d ≡ true
  running_live d s now = device_by d (λ off. let over : IsOver (sequence_of S.pnp d) = (stands_now plan m run resolved is_run).over d off in let none : running_step S.pnp d ≡ None = over.running in let z : ⊥ = cc in z)

  within : (d : ℕ) → is_live_device plan S d ≡ true → d < declared_end plan
  within d dev = declared_within plan d (some_device (declared_of plan d) (both_left (is_some (device_of plan d)) (is_live (life_of S.tree d)) dev))
    where
      some_device : (o : Option Declared) → is_some (as_device o) ≡ true → is_some o ≡ true
      some_device None h = absurd (let z : ⊥ = cc in z)
      some_device (Some x) h = refl

  -- the frame of a step that runs is there
  step_frame : (d : ℕ) (s : Step) → running_step S.pnp d ≡ Some s → (f : ℕ) × (Has f (all_frames S.cpus)) × (is_step_frame d (frame_of S.cpus f) ≡ true)
  step_frame d s now =
      let dev = running_live d s now in
      let low : d < declared_end plan = within d dev in
      let agree : steps_agree plan S ≡ true = at_the_end plan m (λ (S : State A). steps_agree plan S ≡ true) run (steps_agree_at_each plan m run is_run (length run)) in
      let one : (count_by (λ f. is_step_frame d (frame_of S.cpus f)) (all_frames S.cpus) == (if is_running_step S.pnp d then 1 else 0)) ≡ true =
      all_of_kept (λ x. count_by (λ f. is_step_frame x (frame_of S.cpus f)) (all_frames S.cpus) == (if is_running_step S.pnp x then 1 else 0)) (λ x. is_some (device_of plan x)) d 0 (declared_end plan) (omega arith) (omega arith) agree
      (both_left (is_some (device_of plan d)) (is_live (life_of S.tree d)) dev) in
      let count : count_by (λ f. is_step_frame d (frame_of S.cpus f)) (all_frames S.cpus) ≡ 1 = eqb-true _ _ one ∙ ap (λ b. if b then 1 else 0) (ap is_some now) in
      kept_one (λ f. is_step_frame d (frame_of S.cpus f)) (all_frames S.cpus) (omega arith)

  running_named : (d : ℕ) (s : Step) → running_step S.pnp d ≡ Some s → running_cause S d s ≡ None → ⊥
  running_named d s now none =
      let f = step_frame d s now in
      let n : Known plan S = known_now plan m resolved run is_run in
      let a = frame_of S.cpus f.0 in
      let ranked : is_step a ≡ true = both_left (is_sequence (row_of a.callback).rank) (a.device.id.0 == d) f.2 in
      let at : a.device.id.0 ≡ d = eqb-true a.device.id.0 d (both_right (is_sequence (row_of a.callback).rank) (a.device.id.0 == d) f.2) in
      let runs : Runs S.pnp a = n.facts.frames.steps f.0 (counts_it f.0 (all_frames S.cpus) f.1) ranked in
      let same : Some s ≡ Some (step.Run a.callback runs.0) = sym now ∙ sym (ap (running_step S.pnp) at) ∙ runs.1 in
      let it : s ≡ step.Run a.callback runs.0 = cc in
      let none_ : by_frame (frames_where S (runs_step d a.callback)) ≡ None = subst (λ y. running_cause S d y ≡ None) it none in
      let empty : frames_where S (runs_step d a.callback) ≡ [] = none_least (λ x. cause.ByFrame (frame_id x)) (frames_where S (runs_step d a.callback)) none_ in
      none_passes (λ x. runs_step d a.callback (frame_of S.cpus x)) f.0 (all_frames S.cpus) f.1
      (both (same_callback a.callback a.callback) (a.device.id.0 == d) ((callback_decides a.callback a.callback).1 refl) (both_right (is_sequence (row_of a.callback).rank) (a.device.id.0 == d) f.2)) empty

  -- ---- the line of a device

  module _ (ends : ending_of plan m run ≡ ending.Stuck) (k : ℕ) (d : Handle) where
    abbrev Line : Step → Option Cause → Type 0
    Line s x = slice_get (wait_list plan m run) k ≡ Some (record { thing = thing.Sequence d s; cause = x })

    stage_named : (s : Stage) (i : Option Handle) (x : Option Cause) → Line (step.Pass s i) x → is_running_step S.pnp d.id.0 ≡ false → follows_queues_up S.pnp d.id.0 ≡ false → StageSort s i → is_some x ≡ true
    stage_named s i x h calm early (inl e) =
        line_names plan m run resolved is_run ends k (record { thing = thing.Sequence d (step.Pass stage.Quiet i); cause = x }) (subst (λ y. Line (step.Pass y i) x) e h) calm early (dpcs_may_run plan m run resolved is_run)
    stage_named s i x h calm early (inr e) =
        line_named plan m run is_run ends k (record { thing = thing.Sequence d (step.Pass s i); cause = x }) h
        (both (is_stage (step.Pass s i) && not (is_running_step S.pnp d.id.0)) (not (follows_queues_up S.pnp d.id.0)) (both (is_stage (step.Pass s i)) (not (is_running_step S.pnp d.id.0)) e (ap not calm)) (ap not early))

    early_named : (s : Step) (x : Option Cause) → Line s x → is_running_step S.pnp d.id.0 ≡ false → follows_queues_up S.pnp d.id.0 ≡ false → next_step S.pnp d.id.0 ≡ Some s → is_some x ≡ true
    early_named (step.Run c i) x h calm early next =
        line_names plan m run resolved is_run ends k (record { thing = thing.Sequence d (step.Run c i); cause = x }) h calm early ((steps_may_run plan m run resolved is_run).next d.id.0 (step.Run c i) next).1
    early_named (step.Pass s i) x h calm early next = stage_named s i x h calm early (sort_of s i)

    late_named : (s : Step) (x : Option Cause) → is_running_step S.pnp d.id.0 ≡ false → follows_queues_up S.pnp d.id.0 ≡ true → next_step S.pnp d.id.0 ≡ Some s → x ≡ first_cause (resumes_cause plan S d.id.0 ∷ step_cause plan S d.id.0 s ∷ []) → is_some x ≡ true
    late_named s x calm after next is =
        let n : Known plan S = known_now plan m resolved run is_run in
        let may_ = (steps_may_run plan m run resolved is_run).next d.id.0 s next in
        let holds : HoldsIn plan S = at_the_end plan m (λ (S : State A). HoldsIn plan S) run (holds_at_each plan m run is_run (length run)) in
        let resumable : Resumable plan S = at_the_end plan m (λ (S : State A). Resumable plan S) run (resumable_at_each plan m run is_run (length run)) in
        some_or x (λ none. after_up_waits plan m S (at_rest plan m run true ends) n.facts (stands_now plan m run resolved is_run) resumable holds d.id.0 may_.0 (within d.id.0 may_.0) (ap not calm) s next after may_.1 (sym is ∙ none))

    by_place : (s : Step) (x : Option Cause) → Line s x → is_running_step S.pnp d.id.0 ≡ false → next_step S.pnp d.id.0 ≡ Some s → x ≡ first_cause (resumes_cause plan S d.id.0 ∷ step_cause plan S d.id.0 s ∷ []) → (b : Bool) → follows_queues_up S.pnp d.id.0 ≡ b → is_some x ≡ true
    by_place s x h calm next is true e = late_named s x calm e next is
    by_place s x h calm next is false e = early_named s x h calm e next

    by_line : (s : Step) (x : Option Cause) → Line s x → DeviceLine plan S d.id.0 s x → is_some x ≡ true
    by_line s x h (Runs_it now is) = some_or x (λ none. running_named d.id.0 s now (sym is ∙ none))
    by_line s x h (Waits_at idle next is) = by_place s x h (ap is_some idle) next is (follows_queues_up S.pnp d.id.0) refl

    pub device_named : (s : Step) (x : Option Cause) → Line s x → is_some x ≡ true
    device_named s x h = by_line s x h (line_tells plan m run ends k (thing.Sequence d s) x h)
