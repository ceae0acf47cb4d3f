-- No earlier cause of a frame's row is so.
use Rattle.std.proofs.Common.{◌≡◌, ◌⊎◌, inl, inr, ℕ, ◌≤◌, ◌==◌, Bool, true, not, ◌&&◌, ◌||◌, List, [], ◌∷◌, ◌++◌, Option, Some, None, is_some, count_by, filter, refl, sym, ap, ◌∙◌, subst, arith, eqb-true}
use Rattle.std.specs.List.{flat_map, list_all, list_any}
use Rattle.std.proofs.lemmas.Bool.{or_cases}
use Rattle.wdf_base.specs.declared.plan.Plan.{Plan}
use Rattle.wdf_base.specs.declared.call.Arg.{Arg}
use Rattle.wdf_base.specs.declared.call.CallKind.{CallKind}
use Rattle.wdf_base.specs.declared.call.CallKind.TheVariants as call
use Rattle.wdf_base.specs.declared.frame.Pending.{Pending}
use Rattle.wdf_base.specs.declared.wait.Cause.{Cause}
use Rattle.wdf_base.specs.declared.wait.Cause.TheVariants as cause
use Rattle.wdf_base.specs.Places.{is_returning_to, is_sent_to}
use Rattle.wdf_base.specs.Calls.{is_acquire}
use Rattle.wdf_model.specs.Ids.{frame_id}
use Rattle.wdf_model.specs.Tables.{contains, least}
use Rattle.wdf_model.specs.parts.Cpus.{all_frames, frame_of, is_empty_cpu, is_on}
use Rattle.wdf_model.specs.parts.Locks.{holder, object_lock}
use Rattle.wdf_model.specs.parts.Requests.{place_of}
use Rattle.wdf_model.specs.parts.Queues.{waiting_in}
use Rattle.wdf_model.specs.parts.Deferred.WorkItems.{is_work_queued}
use Rattle.wdf_model.specs.State.{State, handle_in, held_from, is_held_from, object_in}
use Rattle.wdf_model.specs.rules.Steps.{wait_is_over}
use Rattle.wdf_model.specs.rules.Waits.{above_in, all_cpus, by_frame, by_frame_on, call_cause, cause_if, first_cause, frame_cause, frames_above, parked_for_cpu, pending_cause, requests_where}
use Rattle.wdf_model.proofs.Counts.{count_behind}
use Rattle.law_machine_base.specs.OverRuns.{FramesAgree}
use Rattle.law_stuck_causes.specs.Causes.{all_taken, has_lock, is_above, is_awaited, is_before, is_taken, keeps_below, keeps_frame, keeps_parked, keeps_pending, runs_on, waits_for_frames, waits_for_item}
use Rattle.law_stuck_causes.proofs.Members.{Has, has_back, has_front, has_id}
use Rattle.law_stuck_causes.proofs.Gives.{Gives, all_alike, gives_frame, it_contains}
use Rattle.law_stuck_causes.proofs.Needs.{front_none}
use Rattle.law_stuck_blame.specs.Blame.{place_of_frame}
use Rattle.law_stuck_blame.proofs.Ahead.{later, some_ahead}
use Rattle.law_stuck_blame.proofs.Rows.{IsFirstOf, IsThere, first_in, front_found, none_before, placed_if, placed_map, there_if}
use Rattle.law_stuck_blame.proofs.There.{frame_on, held_there, placed_there, some_holder, some_least}

-- ---- frames above

above_by : (g f : ℕ) (stack : List ℕ) → count_by (λ x. x == f) stack ≤ 1 → is_before g f stack ≡ true → above_in f stack ≡ [] → ⊥
above_by g f stack once h none = let there = later g f stack h in some_ahead g f stack once h (rw there at none)

-- where a frame is above another on a processor, the list of those above isn't empty
none_above : (g f : ℕ) (stacks : List (List ℕ)) → count_by (λ x. x == f) (flat_map (λ fs. fs) stacks) ≤ 1 → list_any (is_before g f) stacks ≡ true → flat_map (above_in f) stacks ≡ [] → ⊥
none_above g f [] once h none = let z : ⊥ = cc in z
none_above g f (s ∷ ss) once h none =
    let parts = front_none (above_in f s) (flat_map (above_in f) ss) none in
    let all = count_behind (λ x. x == f) s (flat_map (λ (fs : List ℕ). fs) ss) in
    let here : count_by (λ x. x == f) s ≤ 1 = omega (arith, once, all) in
    let after : count_by (λ x. x == f) (flat_map (λ (fs : List ℕ). fs) ss) ≤ 1 = omega (arith, once, all) in
    elim (or_cases (is_before g f s) (list_any (is_before g f) ss) h) as (λ _. ⊥) [
      | inl now ↦ above_by g f s here now parts.0
      | inr rest ↦ none_above g f ss after rest parts.1
    ]

-- ---- what a call waits for, in two columns

module _ {A : Type 0} (plan : Plan) (S : State A) where
  -- the frame, the lock or the request
  abbrev first_part : CallKind → ℕ → Arg → Arg → Arg → Option Cause
  first_part call.WdfWorkItemFlush n a b d = by_frame_on S (object_in a)
  first_part k n a b d = call_cause plan S (record { kind = k; count = n; a = a; b = b; c = d })

  -- the work item
  abbrev then_part : CallKind → Arg → Option Cause
  then_part call.WdfWorkItemFlush a = cause_if (is_work_queued S.work_items (object_in a)) (cause.ByWork (handle_in plan S (object_in a)))
  then_part k a = None

  one_alone : (o : Option Cause) → o ≡ first_cause (o ∷ None ∷ [])
  one_alone None = refl
  one_alone (Some c) = refl

  call_parts : (k : CallKind) (n : ℕ) (a b d : Arg) → call_cause plan S (record { kind = k; count = n; a = a; b = b; c = d }) ≡ first_cause (first_part k n a b d ∷ then_part k a ∷ [])
  call_parts call.WdfWorkItemFlush n a b d = refl
  call_parts k n a b d = one_alone (call_cause plan S (record { kind = k; count = n; a = a; b = b; c = d }))

  lock_there : (k : CallKind) (n : ℕ) (a b d : Arg) (t : Bool) (g : ℕ) → (is_acquire k && t && has_lock S (object_lock (object_in a)) g) ≡ true → is_some (first_part k n a b d) ≡ true
  lock_there call.WdfSpinLockAcquire n a b d true g h = some_holder (λ x. cause.ByLock (handle_in plan S (object_in a)) (frame_id x)) (holder S.locks (object_lock (object_in a))) g h
  lock_there call.WdfWaitLockAcquire n a b d true g h = some_holder (λ x. cause.ByLock (handle_in plan S (object_in a)) (frame_id x)) (holder S.locks (object_lock (object_in a))) g h
  lock_there call.WdfInterruptAcquireLock n a b d true g h = some_holder (λ x. cause.ByLock (handle_in plan S (object_in a)) (frame_id x)) (holder S.locks (object_lock (object_in a))) g h
  lock_there k n a b d t g h = absurd (let z : ⊥ = cc in z)

  abbrev by_one : ℕ → Cause
  by_one r = cause.ByRequest (handle_in plan S r)

  request_there : (k : CallKind) (n : ℕ) (a b d : Arg) (r : ℕ) → is_awaited S k (object_in a) r ≡ true → is_some (first_part k n a b d) ≡ true
  request_there call.WdfIoQueueStopSynchronously n a b d r h = some_least by_one r (held_from S (object_in a)) (held_there S (object_in a) r h)
  request_there call.WdfIoQueueDrainSynchronously n a b d r h =
      some_least by_one r (held_from S (object_in a) ++ waiting_in S.queues (object_in a))
      (elim (or_cases (is_held_from S (object_in a) r) (contains r (waiting_in S.queues (object_in a))) h) as (λ _. Has r (held_from S (object_in a) ++ waiting_in S.queues (object_in a))) [
        | inl k ↦ has_front r (held_from S (object_in a)) (waiting_in S.queues (object_in a)) (held_there S (object_in a) r k)
        | inr k ↦ has_back r (held_from S (object_in a)) (waiting_in S.queues (object_in a)) (has_id r (waiting_in S.queues (object_in a)) k)
      ])
  request_there call.WdfIoQueuePurgeSynchronously n a b d r h =
      some_least by_one r (held_from S (object_in a) ++ requests_where S (is_returning_to (object_in a)))
      (elim (or_cases (is_held_from S (object_in a) r) (is_returning_to (object_in a) (place_of S.requests r)) h) as (λ _. Has r (held_from S (object_in a) ++ requests_where S (is_returning_to (object_in a)))) [
        | inl k ↦ has_front r (held_from S (object_in a)) (requests_where S (is_returning_to (object_in a))) (held_there S (object_in a) r k)
        | inr k ↦ has_back r (held_from S (object_in a)) (requests_where S (is_returning_to (object_in a))) (placed_there S (is_returning_to (object_in a)) r refl k)
      ])
  request_there call.WdfIoTargetStop n a b d r h = some_least by_one r (requests_where S (is_sent_to (object_in a))) (placed_there S (is_sent_to (object_in a)) r refl h)
  request_there k n a b d r h = absurd (let z : ⊥ = cc in z)

  on_object : (o g : ℕ) → runs_on S o g ≡ true → is_some (by_frame_on S o) ≡ true
  on_object o g h = some_least (λ f. cause.ByFrame (frame_id f)) g (filter (is_on S.cpus o) (all_frames S.cpus)) (frame_on S o g h)

  frame_there : (k : CallKind) (n : ℕ) (a b d : Arg) (g : ℕ) → (waits_for_frames k && runs_on S (object_in a) g) ≡ true → is_some (first_part k n a b d) ≡ true
  frame_there call.WdfDpcCancel n a b d g h = on_object (object_in a) g h
  frame_there call.WdfTimerStop n a b d g h = on_object (object_in a) g h
  frame_there call.WdfWorkItemFlush n a b d g h = on_object (object_in a) g h
  frame_there k n a b d g h = absurd (let z : ⊥ = cc in z)

  work_there : (k : CallKind) (a : Arg) (t : Bool) → (waits_for_item k && t && is_work_queued S.work_items (object_in a)) ≡ true → is_some (then_part k a) ≡ true
  work_there call.WdfWorkItemFlush a true h = there_if (is_work_queued S.work_items (object_in a)) (cause.ByWork (handle_in plan S (object_in a))) h
  work_there k a t h = absurd (let z : ⊥ = cc in z)

  -- ---- what a frame waits for

  abbrev first_of : Option Pending → Option Cause
  first_of None = None
  first_of (Some p) = first_part p.call.kind p.call.count p.call.a p.call.b p.call.c

  abbrev then_of : Option Pending → Option Cause
  then_of None = None
  then_of (Some p) = then_part p.call.kind p.call.a

  pending_parts : (p : Option Pending) → pending_cause plan S p ≡ first_cause (first_of p ∷ then_of p ∷ [])
  pending_parts None = refl
  pending_parts (Some p) = call_parts p.call.kind p.call.count p.call.a p.call.b p.call.c

  in_one_row : (a b c d : Option Cause) → first_cause (a ∷ first_cause (b ∷ c ∷ []) ∷ d ∷ []) ≡ first_cause (a ∷ b ∷ c ∷ d ∷ [])
  in_one_row None None None d = refl
  in_one_row None None (Some x) d = refl
  in_one_row None (Some x) c d = refl
  in_one_row (Some x) b c d = refl

  module _ (f : ℕ) where
    abbrev place : Cause → ℕ
    place y = place_of_frame S f y

    abbrev call_of : Option Pending
    call_of = (frame_of S.cpus f).pending

    abbrev row : List (Option Cause)
    row = by_frame (frames_above S f) ∷ first_of call_of ∷ then_of call_of ∷ cause_if (parked_for_cpu plan S f) cause.NoCpu ∷ []

    row_is : frame_cause plan S f ≡ first_cause row
    row_is =
        ap (λ o. first_cause (by_frame (frames_above S f) ∷ o ∷ cause_if (parked_for_cpu plan S f) cause.NoCpu ∷ [])) (pending_parts call_of)
        ∙ in_one_row (by_frame (frames_above S f)) (first_of call_of) (then_of call_of) (cause_if (parked_for_cpu plan S f) cause.NoCpu)

    -- ---- where frames are above it

    above_first : (g : ℕ) (gs : List ℕ) → frames_above S f ≡ g ∷ gs → IsFirstOf (keeps_frame plan S f) place (frame_cause plan S f)
    above_first g gs e x y found before =
        let some : is_some (by_frame (frames_above S f)) ≡ true = rw e (some_least (λ h. cause.ByFrame (frame_id h)) g (g ∷ gs) (inl refl)) in
        let is : by_frame (frames_above S f) ≡ Some x = front_found (by_frame (frames_above S f)) (first_of call_of ∷ then_of call_of ∷ cause_if (parked_for_cpu plan S f) cause.NoCpu ∷ []) x some (sym row_is ∙ found) in
        let gives : Gives (λ c. place c == 0) (by_frame (frames_above S f)) =
        gives_frame (λ c. place c == 0) (frames_above S f) (λ h there. let k = it_contains h (frames_above S f) there in rw k refl) in
        absurd (none_before (place y) (place x) (eqb-true (place x) 0 (gives x is)) before)

    -- ---- where none is

    module _ (agree : FramesAgree S) (none : frames_above S f ≡ []) where
      part_placed : (k : CallKind) (n : ℕ) (a b d : Arg) (c : Cause) → first_part k n a b d ≡ Some c → place c ≡ 1
      part_placed call.WdfSpinLockAcquire n a b d c e = placed_map place 1 (λ x. cause.ByLock (handle_in plan S (object_in a)) (frame_id x)) (holder S.locks (object_lock (object_in a))) (λ x. refl) c e
      part_placed call.WdfWaitLockAcquire n a b d c e = placed_map place 1 (λ x. cause.ByLock (handle_in plan S (object_in a)) (frame_id x)) (holder S.locks (object_lock (object_in a))) (λ x. refl) c e
      part_placed call.WdfInterruptAcquireLock n a b d c e = placed_map place 1 (λ x. cause.ByLock (handle_in plan S (object_in a)) (frame_id x)) (holder S.locks (object_lock (object_in a))) (λ x. refl) c e
      part_placed call.WdfIoQueueStopSynchronously n a b d c e = placed_map place 1 by_one (least (held_from S (object_in a))) (λ x. refl) c e
      part_placed call.WdfIoQueueDrainSynchronously n a b d c e = placed_map place 1 by_one (least (held_from S (object_in a) ++ waiting_in S.queues (object_in a))) (λ x. refl) c e
      part_placed call.WdfIoQueuePurgeSynchronously n a b d c e = placed_map place 1 by_one (least (held_from S (object_in a) ++ requests_where S (is_returning_to (object_in a)))) (λ x. refl) c e
      part_placed call.WdfIoTargetStop n a b d c e = placed_map place 1 by_one (least (requests_where S (is_sent_to (object_in a)))) (λ x. refl) c e
      part_placed call.WdfDpcCancel n a b d c e = placed_map place 1 (λ g. cause.ByFrame (frame_id g)) (least (filter (is_on S.cpus (object_in a)) (all_frames S.cpus))) (λ x. rw none refl) c e
      part_placed call.WdfTimerStop n a b d c e = placed_map place 1 (λ g. cause.ByFrame (frame_id g)) (least (filter (is_on S.cpus (object_in a)) (all_frames S.cpus))) (λ x. rw none refl) c e
      part_placed call.WdfWorkItemFlush n a b d c e = placed_map place 1 (λ g. cause.ByFrame (frame_id g)) (least (filter (is_on S.cpus (object_in a)) (all_frames S.cpus))) (λ x. rw none refl) c e
      part_placed k n a b d c e = absurd (let z : ⊥ = cc in z)

      work_placed : (k : CallKind) (a : Arg) (c : Cause) → then_part k a ≡ Some c → place c ≡ 2
      work_placed call.WdfWorkItemFlush a c e = placed_if place 2 (is_work_queued S.work_items (object_in a)) (cause.ByWork (handle_in plan S (object_in a))) refl c e
      work_placed k a c e = absurd (let z : ⊥ = cc in z)

      first_placed : (p : Option Pending) (c : Cause) → first_of p ≡ Some c → place c ≡ 1
      first_placed None c e = absurd (let z : ⊥ = cc in z)
      first_placed (Some p) c e = part_placed p.call.kind p.call.count p.call.a p.call.b p.call.c c e

      then_placed : (p : Option Pending) (c : Cause) → then_of p ≡ Some c → place c ≡ 2
      then_placed None c e = absurd (let z : ⊥ = cc in z)
      then_placed (Some p) c e = work_placed p.call.kind p.call.a c e

      not_above : (g : ℕ) → is_above S g f ≡ true → ⊥
      not_above g h =
          let all = count_behind (λ x. x == f) (flat_map (λ (fs : List ℕ). fs) S.cpus.stacks) S.cpus.parked in
          none_above g f S.cpus.stacks (omega (arith, agree.once f, all)) h none

      empty_taken : list_all (λ cpu. not (is_empty_cpu S.cpus cpu)) (all_cpus plan) ≡ all_taken plan S 0
      empty_taken = all_alike (λ cpu. not (is_empty_cpu S.cpus cpu)) (is_taken S 0) (λ cpu. refl) (all_cpus plan)

      pending_there : (p : Option Pending) (y : Cause) → keeps_pending S p y ≡ true → ((place y ≡ 1) × (is_some (first_of p) ≡ true)) ⊎ ((place y ≡ 2) × (is_some (then_of p) ≡ true))
      pending_there None y h = absurd (let z : ⊥ = cc in z)
      pending_there (Some p) (cause.ByLock l g) h = inl (refl, lock_there p.call.kind p.call.count p.call.a p.call.b p.call.c (l.id.0 == object_in p.call.a) g.0 h)
      pending_there (Some p) (cause.ByRequest r) h = inl (refl, request_there p.call.kind p.call.count p.call.a p.call.b p.call.c r.id.0 h)
      pending_there (Some p) (cause.ByFrame g) h = inl (rw none refl, frame_there p.call.kind p.call.count p.call.a p.call.b p.call.c g.0 h)
      pending_there (Some p) (cause.ByWork w) h = inr (refl, work_there p.call.kind p.call.a (w.id.0 == object_in p.call.a) h)
      pending_there (Some p) y h = absurd (let z : ⊥ = cc in z)

      below_off : (y : Cause) → keeps_below S f y ≡ true → ⊥
      below_off (cause.ByFrame g) h = not_above g.0 h
      below_off y h = let z : ⊥ = cc in z

      parked_there : (y : Cause) → keeps_parked plan S f y ≡ true → (place y ≡ 3) × (parked_for_cpu plan S f ≡ true)
      parked_there cause.NoCpu h = (refl, ap (λ b. contains f S.cpus.parked && wait_is_over S call_of && b) empty_taken ∙ h)
      parked_there y h = absurd (let z : ⊥ = cc in z)

      there : (y : Cause) → keeps_frame plan S f y ≡ true → IsThere place row y
      there y h = elim (or_cases (keeps_below S f y || keeps_pending S call_of y) (keeps_parked plan S f y) h) as (λ _. IsThere place row y) [
        | inl k ↦ elim (or_cases (keeps_below S f y) (keeps_pending S call_of y) k) as (λ _. IsThere place row y) [
          | inl below ↦ absurd (below_off y below)
          | inr pending ↦ elim (pending_there call_of y pending) as (λ _. IsThere place row y) [
            | inl one ↦ (first_of call_of, 1, one.0, refl, one.1)
            | inr two ↦ (then_of call_of, 2, two.0, refl, two.1)
          ]
        ]
        | inr k ↦ let parked = parked_there y k in (cause_if (parked_for_cpu plan S f) cause.NoCpu, 3, parked.0, refl, there_if (parked_for_cpu plan S f) cause.NoCpu parked.1)
      ]

      nothing_above : (c : Cause) → by_frame (frames_above S f) ≡ Some c → place c ≡ 0
      nothing_above c e = absurd (let never : None ≡ Some c = rw none at e in let z : ⊥ = cc in z)

      none_first : IsFirstOf (keeps_frame plan S f) place (frame_cause plan S f)
      none_first =
          subst (IsFirstOf (keeps_frame plan S f) place) (sym row_is)
          (first_in (keeps_frame plan S f) place row (nothing_above, (first_placed call_of, (then_placed call_of, (λ c e. placed_if place 3 (parked_for_cpu plan S f) cause.NoCpu refl c e, tt)))) there)

    frame_by : FramesAgree S → (fs : List ℕ) → frames_above S f ≡ fs → IsFirstOf (keeps_frame plan S f) place (frame_cause plan S f)
    frame_by agree [] e = none_first agree e
    frame_by agree (g ∷ gs) e = above_first g gs e

    pub frame_first : FramesAgree S → IsFirstOf (keeps_frame plan S f) (λ y. place_of_frame S f y) (frame_cause plan S f)
    frame_first agree = frame_by agree (frames_above S f) refl
