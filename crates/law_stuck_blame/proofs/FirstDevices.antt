-- No earlier cause of the row of a device's step is so.
use Rattle.std.proofs.Common.{if◌then◌else◌, ◌≡◌, inl, inr, ℕ, ◌==◌, Bool, true, false, not, ◌&&◌, ◌||◌, nat_lt, List, [], ◌∷◌, Option, Some, None, is_some, filter, refl, sym, ap, ◌∙◌, subst, eqb-true}
use Rattle.std.specs.Prelude.{⊤}
use Rattle.std.specs.List.{flat_map, list_any}
use Rattle.std.proofs.lemmas.Bool.{and_parts, or_cases}
use Rattle.std.proofs.lemmas.Option.{same_Some}
use Rattle.wdf_base.specs.declared.plan.Plan.{Plan}
use Rattle.wdf_base.specs.declared.ids.Handle.{Handle}
use Rattle.wdf_base.specs.declared.call.Callback.{Callback}
use Rattle.wdf_base.specs.declared.call.Callback.TheVariants as callback
use Rattle.wdf_base.specs.declared.event.Stage.{Stage}
use Rattle.wdf_base.specs.declared.event.Stage.TheVariants as stage
use Rattle.wdf_base.specs.declared.event.Step.{Step}
use Rattle.wdf_base.specs.declared.event.Step.TheVariants as step
use Rattle.wdf_base.specs.declared.wait.Cause.{Cause}
use Rattle.wdf_base.specs.declared.wait.Cause.TheVariants as cause
use Rattle.wdf_base.specs.declared.wait.OpenThing.TheVariants as thing
use Rattle.wdf_base.specs.Places.{is_sent_to}
use Rattle.wdf_base.specs.Same.{same_callback}
use Rattle.wdf_model.specs.Ids.{frame_id}
use Rattle.wdf_model.specs.Tables.{least}
use Rattle.wdf_model.specs.Plans.{callback_irql, managed_queues, queue_level}
use Rattle.wdf_model.specs.parts.Cpus.{all_frames, frame_of, is_on}
use Rattle.wdf_model.specs.parts.Locks.{lock_of_callback, object_lock, scope_of}
use Rattle.wdf_model.specs.declared.entries.Request.{Request}
use Rattle.wdf_model.specs.declared.entries.Holding.{Holding}
use Rattle.wdf_model.specs.parts.Requests.{no_request, place_of, request_of}
use Rattle.wdf_model.specs.parts.Power.{holding_of, is_unsettled_at, no_holding}
use Rattle.wdf_model.specs.parts.Pnp.{follows_queues_up, is_running_step, running_step}
use Rattle.wdf_model.specs.State.{State, declared_in, handle_in}
use Rattle.wdf_model.specs.rules.Starts.{handle_id, is_unfinished_at, level_fits, targets_at}
use Rattle.wdf_model.specs.rules.Waits.{by_frame, by_request, cause_if, cpus_with_dpc, first_cause, frames_where, head_lock, holders_of, next_step_line, no_cpu, object_of_step, queues_to_resume, quiet_frames, resume_cpus, resume_frames, resumes_cause, running_line, runs_step, scope_holders, stage_cpus, stage_frames, stage_requests, step_cause}
use Rattle.wdf_model.proofs.Maps.{entry_past}
use Rattle.law_stuck_causes.specs.Causes.{all_taken, awaits_cpu, awaits_frame, awaits_request, has_lock_if_any, is_taken, is_there, keeps_next, keeps_resumes, keeps_running, runs_callback, runs_on}
use Rattle.law_stuck_causes.proofs.Members.{Has, has_back, has_flat, has_front, has_id, has_kept}
use Rattle.law_stuck_causes.proofs.Gives.{Gives, any_alike, gives_frame, it_contains}
use Rattle.law_stuck_causes.proofs.Forms.{none_left, not_fits}
use Rattle.law_stuck_blame.specs.Blame.{comes_before, is_blamed, place_of_next}
use Rattle.law_stuck_blame.proofs.Rows.{IsFirstOf, IsThere, first_in, none_before, placed_if, placed_map, there_if}
use Rattle.law_stuck_blame.proofs.There.{frame_on, in_table, lock_by, lock_by_any, some_least, some_passes}

module _ {A : Type 0} (plan : Plan) (S : State A) (d : ℕ) where
  -- ---- frames that keep the resumes, or the step

  step_frame : (c : Callback) (f : ℕ) → runs_callback S d c f ≡ true → Has f (frames_where S (runs_step d c))
  step_frame c f h =
      let outer = and_parts (is_there S f && same_callback (frame_of S.cpus f).callback c) ((frame_of S.cpus f).device.id.0 == d) h in
      let inner = and_parts (is_there S f) (same_callback (frame_of S.cpus f).callback c) outer.0 in
      has_kept (λ g. runs_step d c (frame_of S.cpus g)) f (all_frames S.cpus) (has_id f (all_frames S.cpus) inner.0) (let both_so : runs_step d c (frame_of S.cpus f) ≡ true = rw (inner.1, outer.1) refl in both_so)

  resume_there : (f : ℕ) → keeps_resumes plan S d (cause.ByFrame (frame_id f)) ≡ true → Has f (resume_frames plan S d)
  resume_there f h =
      let at : ℕ → Bool = λ q. has_lock_if_any S (scope_of plan callback.EvtIoResume q (declared_in plan S q)) f in
      elim (or_cases (runs_callback S d callback.EvtIoResume f) (list_any at (queues_to_resume plan S d)) h) as (λ _. Has f (resume_frames plan S d)) [
        | inl k ↦ has_front f (frames_where S (runs_step d callback.EvtIoResume)) (scope_holders plan S (queues_to_resume plan S d)) (step_frame callback.EvtIoResume f k)
        | inr k ↦
            let one = some_passes at (queues_to_resume plan S d) k in
            has_back f (frames_where S (runs_step d callback.EvtIoResume)) (scope_holders plan S (queues_to_resume plan S d))
            (has_flat (λ q. holders_of S (scope_of plan callback.EvtIoResume q (declared_in plan S q))) one.it f (queues_to_resume plan S d) one.there
            (lock_by_any S (scope_of plan callback.EvtIoResume one.it (declared_in plan S one.it)) f one.so))
      ]

  resumes_are : resume_cpus plan S d ≡ keeps_resumes plan S d cause.NoCpu
  resumes_are = any_alike (λ q. no_cpu plan S (queue_level plan q)) (λ q. all_taken plan S (queue_level plan q)) (λ q. none_left plan S (queue_level plan q)) (queues_to_resume plan S d)

  -- where nothing is in the lists of what keeps the resumes, nothing keeps them
  resumes_off : resume_frames plan S d ≡ [] → resume_cpus plan S d ≡ false → (y : Cause) → keeps_resumes plan S d y ≡ true → ⊥
  resumes_off none free (cause.ByFrame f) h = rw none at (resume_there f.0 h)
  resumes_off none free cause.NoCpu h = let z : ⊥ = cc (sym h ∙ sym resumes_are ∙ free) in z
  resumes_off none free y h = let z : ⊥ = cc in z

  -- ---- what a stage waits for

  request_there : (s : Stage) (r : ℕ) → awaits_request plan S d s r ≡ true → Has r (stage_requests plan S d s)
  request_there stage.Settled r h =
      in_table S.power.holdings (λ x. is_unsettled_at S.power d (holding_of S.power x)) r (λ late. ap (λ (x : Holding). is_unsettled_at S.power d x) (entry_past no_holding S.power.holdings r late)) h
  request_there stage.Removed r h =
      in_table S.requests.all (λ x. is_unfinished_at d (request_of S.requests x) || list_any (λ t. is_sent_to t (place_of S.requests x)) (targets_at plan d)) r
      (λ late. ap (λ (x : Request). is_unfinished_at d x || list_any (λ t. is_sent_to t x.place) (targets_at plan d)) (entry_past no_request S.requests.all r late) ∙ none_sent (targets_at plan d)) h
    where
      none_sent : (ts : List ℕ) → (is_unfinished_at d no_request || list_any (λ t. is_sent_to t no_request.place) ts) ≡ false
      none_sent [] = refl
      none_sent (t ∷ ts) = none_sent ts
  request_there s r h = absurd (let z : ⊥ = cc in z)

  frame_there : (s : Stage) (i : Option Handle) (f : ℕ) → awaits_frame plan S d s i f ≡ true → Has f (stage_frames plan S d s i)
  frame_there stage.Settled i f h =
      let one = some_passes (λ q. runs_on S q f) (managed_queues plan d) h in
      has_flat (λ q. filter (is_on S.cpus q) (all_frames S.cpus)) one.it f (managed_queues plan d) one.there (frame_on S one.it f one.so)
  frame_there stage.Disabled i f h = lock_by S (object_lock (handle_id i)) f h
  frame_there stage.Quiet i f h =
      let at : ℕ → Bool = λ cpu. has_lock_if_any S (head_lock plan S cpu) f in
      let rest : List ℕ = flat_map (λ cpu. holders_of S (head_lock plan S cpu)) (cpus_with_dpc plan S d) in
      elim (or_cases (runs_callback S d callback.EvtInterruptDpc f) (list_any at (cpus_with_dpc plan S d)) h) as (λ _. Has f (quiet_frames plan S d)) [
        | inl k ↦ has_front f (frames_where S (runs_step d callback.EvtInterruptDpc)) rest (step_frame callback.EvtInterruptDpc f k)
        | inr k ↦
            let one = some_passes at (cpus_with_dpc plan S d) k in
            has_back f (frames_where S (runs_step d callback.EvtInterruptDpc)) rest
            (has_flat (λ cpu. holders_of S (head_lock plan S cpu)) one.it f (cpus_with_dpc plan S d) one.there (lock_by_any S (head_lock plan S one.it) f one.so))
      ]
  frame_there s i f h = absurd (let z : ⊥ = cc in z)

  cpus_are : (s : Stage) → stage_cpus plan S d s ≡ awaits_cpu plan S d s
  cpus_are stage.Quiet = any_alike (λ cpu. not (level_fits S cpu 2)) (is_taken S 2) (λ cpu. not_fits S 2 cpu) (cpus_with_dpc plan S d)
  cpus_are s = refl

  -- ---- what keeps the step itself, in three columns

  abbrev lock_of : Callback → Option Handle → List ℕ
  lock_of c i = holders_of S (lock_of_callback plan c (object_of_step d i) (declared_in plan S (object_of_step d i)))

  abbrev by_one : ℕ → Cause
  by_one r = cause.ByRequest (handle_in plan S r)

  abbrev requests_of : Step → Option Cause
  requests_of (step.Run c i) = None
  requests_of (step.Pass s i) = by_request plan S (stage_requests plan S d s)

  abbrev frames_of : Step → List ℕ
  frames_of (step.Run c i) = lock_of c i
  frames_of (step.Pass s i) = stage_frames plan S d s i

  abbrev cpus_of : Step → Bool
  cpus_of (step.Run c i) = no_cpu plan S (callback_irql plan c (object_of_step d i))
  cpus_of (step.Pass s i) = stage_cpus plan S d s

  step_parts : (s : Step) → step_cause plan S d s ≡ first_cause (requests_of s ∷ by_frame (frames_of s) ∷ cause_if (cpus_of s) cause.NoCpu ∷ [])
  step_parts (step.Run c i) = refl
  step_parts (step.Pass s i) = refl

  -- what keeps a next step is of three kinds
  abbrev OfKinds : Cause → Type 0
  OfKinds (cause.ByRequest r) = ⊤
  OfKinds (cause.ByFrame f) = ⊤
  OfKinds cause.NoCpu = ⊤
  OfKinds _ = ⊥

  of_kinds : (t : Step) (y : Cause) → keeps_next plan S d t y ≡ true → OfKinds y
  of_kinds (step.Run c i) (cause.ByFrame f) h = tt
  of_kinds (step.Run c i) cause.NoCpu h = tt
  of_kinds (step.Pass s i) (cause.ByRequest r) h = tt
  of_kinds (step.Pass s i) (cause.ByFrame f) h = tt
  of_kinds (step.Pass s i) cause.NoCpu h = tt
  of_kinds (step.Run c i) y h = absurd (let z : ⊥ = cc in z)
  of_kinds (step.Pass s i) y h = absurd (let z : ⊥ = cc in z)

  -- ---- the row of a next step

  abbrev follows : Bool
  follows = follows_queues_up S.pnp d

  abbrev so_next : Step → Cause → Bool
  so_next s y = (follows && keeps_resumes plan S d y) || keeps_next plan S d s y

  abbrev place_next : Cause → ℕ
  place_next y = place_of_next plan S d y

  abbrev cause_next : Step → Option Cause
  cause_next s = first_cause (resumes_cause plan S d ∷ step_cause plan S d s ∷ [])

  front_of_two : (u v w : Option Cause) (x : Cause) → is_some u ≡ true → first_cause (first_cause (u ∷ v ∷ []) ∷ w ∷ []) ≡ Some x → u ≡ Some x
  front_of_two (Some c) v w x some found = found
  front_of_two None v w x some found = absurd (let z : ⊥ = cc in z)

  second_of_two : (v w : Option Cause) (x : Cause) → is_some v ≡ true → first_cause (first_cause (None ∷ v ∷ []) ∷ w ∷ []) ≡ Some x → v ≡ Some x
  second_of_two (Some c) w x some found = found
  second_of_two None w x some found = absurd (let z : ⊥ = cc in z)

  -- a frame keeps the resumes
  by_resume_frame : (s : Step) (g : ℕ) (gs : List ℕ) → follows ≡ true → resume_frames plan S d ≡ g ∷ gs → IsFirstOf (so_next s) place_next (cause_next s)
  by_resume_frame s g gs up e x y found before =
      let some : is_some (by_frame (resume_frames plan S d)) ≡ true = rw e (some_least (λ h. cause.ByFrame (frame_id h)) g (g ∷ gs) (inl refl)) in
      let is : by_frame (resume_frames plan S d) ≡ Some x =
      front_of_two (by_frame (resume_frames plan S d)) (cause_if (resume_cpus plan S d) cause.NoCpu) (step_cause plan S d s) x some (rw up at found) in
      let gives : Gives (λ c. place_next c == 0) (by_frame (resume_frames plan S d)) =
      gives_frame (λ c. place_next c == 0) (resume_frames plan S d) (λ h there. let k = it_contains h (resume_frames plan S d) there in rw (up, k) refl) in
      absurd (none_before (place_next y) (place_next x) (eqb-true (place_next x) 0 (gives x is)) before)

  later_place : (y : Cause) → resume_frames plan S d ≡ [] → follows ≡ true → resume_cpus plan S d ≡ true → nat_lt (place_next y) 1 ≡ true → ⊥
  later_place (cause.ByFrame f) none up taken h = absurd (let never : nat_lt 3 1 ≡ true = rw (none, up) at h in let z : ⊥ = cc in z)
  later_place cause.NoCpu none up taken h = absurd (let never : nat_lt 1 1 ≡ true = rw (up, taken) at h in let z : ⊥ = cc in z)
  later_place y none up taken h = let z : ⊥ = cc in z

  -- no frame does, and no processor can take one
  by_resume_cpus : (s : Step) → follows ≡ true → resume_frames plan S d ≡ [] → resume_cpus plan S d ≡ true → IsFirstOf (so_next s) place_next (cause_next s)
  by_resume_cpus s up none taken x y found before =
      let is : cause_if true cause.NoCpu ≡ Some x = second_of_two (cause_if true cause.NoCpu) (step_cause plan S d s) x refl (rw (up, none, taken) at found) in
      let at_one : place_next x ≡ 1 = subst (λ c. place_next c ≡ 1) (same_Some cause.NoCpu x is) (rw (up, taken) refl) in
      absurd (later_place y none up taken (rw at_one at before))

  -- nothing keeps the resumes
  module _ (s : Step) (none : resumes_cause plan S d ≡ None) (off : (y : Cause) → (follows && keeps_resumes plan S d y) ≡ true → ⊥) (frames : (g : ℕ) → place_next (cause.ByFrame (frame_id g)) ≡ 3) (cpus : place_next cause.NoCpu ≡ 4) where
    abbrev row_next : List (Option Cause)
    row_next = None ∷ None ∷ requests_of s ∷ by_frame (frames_of s) ∷ cause_if (cpus_of s) cause.NoCpu ∷ []

    row_is : cause_next s ≡ first_cause row_next
    row_is = rw (none, step_parts s) (front_none_of (first_cause (requests_of s ∷ by_frame (frames_of s) ∷ cause_if (cpus_of s) cause.NoCpu ∷ [])))
      where
        front_none_of : (o : Option Cause) → first_cause (None ∷ o ∷ []) ≡ o
        front_none_of None = refl
        front_none_of (Some c) = refl

    requests_placed : (t : Step) (c : Cause) → requests_of t ≡ Some c → place_next c ≡ 2
    requests_placed (step.Run k i) c e = absurd (let z : ⊥ = cc in z)
    requests_placed (step.Pass t i) c e = placed_map place_next 2 by_one (least (stage_requests plan S d t)) (λ r. refl) c e

    request_column : (t : Step) (r : Handle) → keeps_next plan S d t (cause.ByRequest r) ≡ true → is_some (requests_of t) ≡ true
    request_column (step.Run k i) r h = absurd (let z : ⊥ = cc in z)
    request_column (step.Pass t i) r h = some_least by_one r.id.0 (stage_requests plan S d t) (request_there t r.id.0 h)

    frame_column : (t : Step) (f : ℕ) → keeps_next plan S d t (cause.ByFrame (frame_id f)) ≡ true → is_some (by_frame (frames_of t)) ≡ true
    frame_column (step.Run k i) f h = some_least (λ g. cause.ByFrame (frame_id g)) f (lock_of k i) (lock_by_any S (lock_of_callback plan k (object_of_step d i) (declared_in plan S (object_of_step d i))) f h)
    frame_column (step.Pass t i) f h = some_least (λ g. cause.ByFrame (frame_id g)) f (stage_frames plan S d t i) (frame_there t i f h)

    cpu_column : (t : Step) → keeps_next plan S d t cause.NoCpu ≡ true → cpus_of t ≡ true
    cpu_column (step.Run k i) h = none_left plan S (callback_irql plan k (object_of_step d i)) ∙ h
    cpu_column (step.Pass t i) h = cpus_are t ∙ h

    next_there : (y : Cause) → keeps_next plan S d s y ≡ true → IsThere place_next row_next y
    next_there (cause.ByRequest r) h = (requests_of s, 2, refl, refl, request_column s r h)
    next_there (cause.ByFrame f) h = (by_frame (frames_of s), 3, frames f.0, refl, frame_column s f.0 h)
    next_there cause.NoCpu h = (cause_if (cpus_of s) cause.NoCpu, 4, cpus, refl, there_if (cpus_of s) cause.NoCpu (cpu_column s h))
    next_there y h = absurd (of_kinds s y h)

    there_next : (y : Cause) → so_next s y ≡ true → IsThere place_next row_next y
    there_next y h = elim (or_cases (follows && keeps_resumes plan S d y) (keeps_next plan S d s y) h) as (λ _. IsThere place_next row_next y) [
      | inl k ↦ absurd (off y k)
      | inr k ↦ next_there y k
    ]

    by_the_step : IsFirstOf (so_next s) place_next (cause_next s)
    by_the_step =
        subst (IsFirstOf (so_next s) place_next) (sym row_is)
        (first_in (so_next s) place_next row_next (
          λ c e. absurd (let z : ⊥ = cc in z),
          (
            λ c e. absurd (let z : ⊥ = cc in z),
            (
              requests_placed s,
              (
                λ c e. placed_map place_next 3 (λ g. cause.ByFrame (frame_id g)) (least (frames_of s)) frames c e,
                (
                  λ c e. placed_if place_next 4 (cpus_of s) cause.NoCpu cpus c e,
                  tt,
                ),
              ),
            ),
          ),
        ) there_next)

  next_by : (s : Step) (up : Bool) → follows ≡ up → (fs : List ℕ) → resume_frames plan S d ≡ fs → (taken : Bool) → resume_cpus plan S d ≡ taken → IsFirstOf (so_next s) place_next (cause_next s)
  next_by s true e (g ∷ gs) k taken t = by_resume_frame s g gs e k
  next_by s true e [] k true t = by_resume_cpus s e k t
  next_by s true e [] k false t =
      by_the_step s (rw (e, k, t) refl) (λ y h. resumes_off k t y (and_parts follows (keeps_resumes plan S d y) h).1) (λ g. rw (e, k) refl) (rw (e, t) refl)
  next_by s false e fs k taken t =
      by_the_step s (rw e refl) (λ y h. let never : false ≡ true = sym e ∙ (and_parts follows (keeps_resumes plan S d y) h).0 in let z : ⊥ = cc in z) (λ g. rw e refl) (rw e refl)

  -- ---- the lines

  abbrev place_by : Bool → Cause → ℕ
  place_by running y = if running then 0 else place_next y

  pub next_first : (s : Step) → running_step S.pnp d ≡ None → (x y : Cause) → (next_step_line plan S d s).cause ≡ Some x → comes_before plan S (thing.Sequence (handle_in plan S d) s) y x ≡ true → is_blamed plan S (thing.Sequence (handle_in plan S d) s) y ≡ false
  next_first s calm x y found before =
      let off : is_running_step S.pnp d ≡ false = ap is_some calm in
      let here : nat_lt (place_next y) (place_next x) ≡ true = ap (λ b. nat_lt (place_by b y) (place_by b x)) (sym off) ∙ before in
      ap (λ b. if b then keeps_running S d s y else so_next s y) off ∙ next_by s follows refl (resume_frames plan S d) refl (resume_cpus plan S d) refl x y found here

  pub running_first : (s : Step) → running_step S.pnp d ≡ Some s → (x y : Cause) → (running_line plan S d s).cause ≡ Some x → comes_before plan S (thing.Sequence (handle_in plan S d) s) y x ≡ true → is_blamed plan S (thing.Sequence (handle_in plan S d) s) y ≡ false
  running_first s running x y found before =
      let on : is_running_step S.pnp d ≡ true = ap is_some running in
      let never : nat_lt 0 0 ≡ true = ap (λ b. nat_lt (place_by b y) (place_by b x)) (sym on) ∙ before in
      absurd (let z : ⊥ = cc in z)
