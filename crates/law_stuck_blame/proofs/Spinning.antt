-- Where a line names `cpus`, the processors that could take the start spin.
use Rattle.std.proofs.Common.{if◌then◌else◌, ◌≡◌, ◌⊎◌, inl, inr, ℕ, zero, suc, ◌+◌, ◌<◌, Bool, true, false, ◌&&◌, ◌||◌, List, [], ◌∷◌, Option, Some, None, is_some, find, unwrap_or, refl, ap, ◌∙◌, arith}
use Rattle.std.specs.List.{list_all, list_any, range_with_len}
use Rattle.std.proofs.lemmas.Bool.{and_parts}
use Rattle.wdf_base.specs.declared.plan.Plan.{Plan}
use Rattle.wdf_base.specs.declared.ids.Handle.{Handle}
use Rattle.wdf_base.specs.declared.event.Stage.TheVariants as stage
use Rattle.wdf_base.specs.declared.event.Step.{Step}
use Rattle.wdf_base.specs.declared.event.Step.TheVariants as step
use Rattle.wdf_base.specs.declared.call.Callback.TheVariants as callback
use Rattle.wdf_base.specs.declared.wait.Cause.TheVariants as cause
use Rattle.wdf_base.specs.declared.wait.OpenThing.{OpenThing}
use Rattle.wdf_base.specs.declared.wait.OpenThing.TheVariants as thing
use Rattle.wdf_model.specs.Tables.{contains}
use Rattle.wdf_model.specs.Plans.{callback_irql, queue_level}
use Rattle.wdf_base.specs.declared.frame.Pending.{Pending}
use Rattle.std.proofs.lemmas.Option.{same_Some}
use Rattle.wdf_model.specs.parts.Cpus.{frame_of}
use Rattle.wdf_model.specs.parts.Pnp.{follows_queues_up, is_running_step}
use Rattle.wdf_model.specs.parts.Targets.{routine_due}
use Rattle.wdf_model.specs.rules.Starts.{clean_ready, destroy_ready}
use Rattle.wdf_model.specs.rules.Steps.{wait_is_over}
use Rattle.wdf_model.specs.parts.Deferred.Dpcs.{dpcs_of, is_dpc_queued}
use Rattle.wdf_model.specs.parts.Deferred.WorkItems.{is_work_queued}
use Rattle.wdf_model.specs.State.{State}
use Rattle.wdf_model.specs.rules.Waits.{all_cpus, cpu_of_dpc, cpus_with_dpc, has_dpc_of, object_of_step, queues_to_resume}
use Rattle.law_stuck_causes.specs.Causes.{all_taken, is_taken, keeps_deferred, keeps_frame, keeps_next, keeps_parked, keeps_pending, keeps_resumes, keeps_running, keeps_work}
use Rattle.law_stuck_causes.proofs.Gives.{has_kept, it_contains}
use Rattle.law_stuck_causes.proofs.Members.{Has, below_range, has_range}
use Rattle.law_stuck_objects.specs.Deleted.{comes_next, finds_no_cpu}
use Rattle.law_stuck_objects.specs.Spinning.{Spins}
use Rattle.law_stuck_blame.specs.Blame.{AllSpin, MeansSpinning, OneSpins, is_blamed}

all_at : (p : ℕ → Bool) (xs : List ℕ) (x : ℕ) → list_all p xs ≡ true → Has x xs → p x ≡ true
all_at p [] x h k = absurd k
all_at p (y ∷ ys) x h (inl e) = ap p e ∙ (and_parts (p y) (list_all p ys) h).0
all_at p (y ∷ ys) x h (inr k) = all_at p ys x (and_parts (p y) (list_all p ys) h).1 k

record One (p : ℕ → Bool) (xs : List ℕ) : Type 0 where
  it : ℕ
  there : Has it xs
  passes : p it ≡ true

one_by : (p : ℕ → Bool) (y : ℕ) (ys : List ℕ) (b : Bool) → p y ≡ b → (b || list_any p ys) ≡ true → (list_any p ys ≡ true → One p ys) → One p (y ∷ ys)
one_by p y ys true e h rest = record { it = y; there = inl refl; passes = e }
one_by p y ys false e h rest = let o = rest h in record { it = o.it; there = inr o.there; passes = o.passes }

one_of : (p : ℕ → Bool) (xs : List ℕ) → list_any p xs ≡ true → One p xs
one_of p [] h = absurd (let z : ⊥ = cc in z)
one_of p (y ∷ ys) h = one_by p y ys (p y) refl h (one_of p ys)

either : (a b : Bool) → (a || b) ≡ true → (a ≡ true) ⊎ (b ≡ true)
either true b h = inl refl
either false b h = inr h

module _ {A : Type 0} (plan : Plan) (S : State A) (spins : (level cpu : ℕ) → cpu < plan.cpus → is_taken S level cpu ≡ true → Spins S cpu) where
  all_spin : (level : ℕ) → all_taken plan S level ≡ true → AllSpin plan S
  all_spin level h cpu low = spins level cpu low (all_at (is_taken S level) (range_with_len 0 plan.cpus) cpu h (has_range cpu 0 plan.cpus (omega arith) (omega (arith, low))))

  cpu_low : (cpu : ℕ) → Has cpu (all_cpus plan) → cpu < plan.cpus
  cpu_low cpu h = let low : cpu < 0 + plan.cpus = below_range cpu 0 plan.cpus h in omega arith

  -- ---- frames

  pending_off : (o : Option Pending) → keeps_pending S o cause.NoCpu ≡ true → ⊥
  pending_off None k = let z : ⊥ = cc in z
  pending_off (Some p) k = let z : ⊥ = cc in z

  frame_spins : (f : ℕ) → keeps_frame plan S f cause.NoCpu ≡ true → AllSpin plan S
  frame_spins f h = elim (either (keeps_pending S (frame_of S.cpus f).pending cause.NoCpu) (keeps_parked plan S f cause.NoCpu) h) [
    | inl k ↦ absurd (pending_off (frame_of S.cpus f).pending k)
    | inr k ↦ all_spin 0 (and_parts (contains f S.cpus.parked && wait_is_over S (frame_of S.cpus f).pending) (all_taken plan S 0) k).1
  ]

  -- ---- objects

  object_spins : (o : ℕ) → finds_no_cpu plan S o ≡ true → AllSpin plan S
  object_spins o h = elim (either ((comes_next plan S (clean_ready S o) callback.EvtCleanupCallback o || comes_next plan S (destroy_ready S o) callback.EvtDestroyCallback o) && all_taken plan S 0) (is_some (routine_due S.targets o) && all_taken plan S 2) h) [
    | inl k ↦ all_spin 0 (and_parts (comes_next plan S (clean_ready S o) callback.EvtCleanupCallback o || comes_next plan S (destroy_ready S o) callback.EvtDestroyCallback o) (all_taken plan S 0) k).1
    | inr k ↦ all_spin 2 (and_parts (is_some (routine_due S.targets o)) (all_taken plan S 2) k).1
  ]

  -- ---- queued work

  found_low : (n : ℕ) (o : Option ℕ) → 0 < n → ((k : ℕ) → o ≡ Some k → k < n) → unwrap_or o 0 < n
  found_low n (Some k) some below = below k refl
  found_low n None some below = some

  find_low : (p : ℕ → Bool) (a n : ℕ) (k : ℕ) → find p (range_with_len a n) ≡ Some k → k < a + n
  find_low p a zero k h = absurd (let z : ⊥ = cc in z)
  find_low p a (suc n) k h = by (p a) refl (find_low p (a + 1) n k)
    where
      by : (b : Bool) → p a ≡ b → (find p (range_with_len (a + 1) n) ≡ Some k → k < a + 1 + n) → k < a + suc n
      by true e rest = let same : a ≡ k = same_Some a k (rw e at h) in omega (arith, same)
      by false e rest = let low : k < a + 1 + n = rest (rw e at h) in omega (arith, low)

  dpc_low : 0 < plan.cpus → (o : ℕ) → cpu_of_dpc plan S o < plan.cpus
  dpc_low some o = found_low plan.cpus (find (λ cpu. contains o (dpcs_of S.dpcs cpu)) (all_cpus plan)) some (λ k e. let low : k < 0 + plan.cpus = find_low (λ cpu. contains o (dpcs_of S.dpcs cpu)) 0 plan.cpus k e in omega (arith, low))

  work_by : (o : ℕ) (b : Bool) → is_work_queued S.work_items o ≡ b → (if b then keeps_work plan S callback.EvtWorkItem 0 o cause.NoCpu else keeps_work plan S callback.EvtTimerFunc 2 o cause.NoCpu) ≡ true → AllSpin plan S
  work_by o true e h = all_spin 0 h
  work_by o false e h = all_spin 2 h

  work_spins : 0 < plan.cpus → (o : ℕ) → keeps_deferred plan S o cause.NoCpu ≡ true → (is_dpc_queued S.dpcs o ≡ true → Spins S (cpu_of_dpc plan S o)) × (is_dpc_queued S.dpcs o ≡ false → AllSpin plan S)
  work_spins some o h = (
    λ yes. spins 2 (cpu_of_dpc plan S o) (dpc_low some o) (rw yes at h),
    λ no. work_by o (is_work_queued S.work_items o) refl (rw no at h),
  )

  -- ---- devices

  resumes_spin : (d : ℕ) → keeps_resumes plan S d cause.NoCpu ≡ true → AllSpin plan S
  resumes_spin d h = let one = one_of (λ q. all_taken plan S (queue_level plan q)) (queues_to_resume plan S d) h in all_spin (queue_level plan one.it) one.passes

  dpc_spins : (d : ℕ) → list_any (is_taken S 2) (cpus_with_dpc plan S d) ≡ true → OneSpins plan S d
  dpc_spins d h =
      let one = one_of (is_taken S 2) (cpus_with_dpc plan S d) h in
      (one.it, it_contains one.it (cpus_with_dpc plan S d) one.there, spins 2 one.it (cpu_low one.it (has_kept (has_dpc_of plan S d) one.it (all_cpus plan) one.there).1) one.passes)

  running_off : (d : ℕ) (s : Step) → keeps_running S d s cause.NoCpu ≡ true → ⊥
  running_off d (step.Run c i) h = let z : ⊥ = cc in z
  running_off d (step.Pass s i) h = let z : ⊥ = cc in z

  next_spins : (d : Handle) (s : Step) → keeps_next plan S d.id.0 s cause.NoCpu ≡ true → MeansSpinning plan S (thing.Sequence d s)
  next_spins d (step.Run c i) h = all_spin (callback_irql plan c (object_of_step d.id.0 i)) h
  next_spins d (step.Pass stage.Quiet i) h = inr (dpc_spins d.id.0 h)
  next_spins d (step.Pass s i) h = absurd (let z : ⊥ = cc in z)

  any_step : (d : Handle) (s : Step) → AllSpin plan S → MeansSpinning plan S (thing.Sequence d s)
  any_step d (step.Run c i) h = h
  any_step d (step.Pass stage.Quiet i) h = inl h
  any_step d (step.Pass s i) h = h

  step_by : (d : Handle) (s : Step) (running : Bool) → is_running_step S.pnp d.id.0 ≡ running
      → (if running then keeps_running S d.id.0 s cause.NoCpu else ((follows_queues_up S.pnp d.id.0 && keeps_resumes plan S d.id.0 cause.NoCpu) || keeps_next plan S d.id.0 s cause.NoCpu)) ≡ true
      → MeansSpinning plan S (thing.Sequence d s)
  step_by d s true e h = absurd (running_off d.id.0 s h)
  step_by d s false e h = elim (either (follows_queues_up S.pnp d.id.0 && keeps_resumes plan S d.id.0 cause.NoCpu) (keeps_next plan S d.id.0 s cause.NoCpu) h) [
    | inl k ↦ any_step d s (resumes_spin d.id.0 (and_parts (follows_queues_up S.pnp d.id.0) (keeps_resumes plan S d.id.0 cause.NoCpu) k).1)
    | inr k ↦ next_spins d s k
  ]

  -- ---- each form

  pub means_spinning : 0 < plan.cpus → (t : OpenThing) → is_blamed plan S t cause.NoCpu ≡ true → MeansSpinning plan S t
  means_spinning some (thing.Waiting f c o) h = frame_spins f.0 h
  means_spinning some (thing.Owned r) h = absurd (let z : ⊥ = cc in z)
  means_spinning some (thing.Sent r t) h = absurd (let z : ⊥ = cc in z)
  means_spinning some (thing.Queued r q) h = all_spin (queue_level plan q.id.0) h
  means_spinning some (thing.Returning r q) h = all_spin (queue_level plan q.id.0) h
  means_spinning some (thing.Sequence d s) h = step_by d s (is_running_step S.pnp d.id.0) refl h
  means_spinning some (thing.Leaving o) h = object_spins o.id.0 h
  means_spinning some (thing.Deferred o) h = work_spins some o.id.0 h
  means_spinning some (thing.Asking d) h = absurd (let z : ⊥ = cc in z)
