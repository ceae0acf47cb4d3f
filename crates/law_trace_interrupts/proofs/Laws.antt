-- The law on the callbacks of interrupts, at each place of every run.
use Rattle.std.proofs.Common.{◌≡◌, ℕ, zero, suc, ◌+◌, ◌==◌, true, false, ◌&&◌, ◌||◌, List, [], ◌∷◌, ◌++◌, ◌⊎◌, inl, inr, Option, Some, None, replicate, slice_get, take, refl, sym, subst}
use Rattle.std.specs.List.{list_any}
use Rattle.wdf_base.specs.Meaning.{Meaning}
use Rattle.wdf_base.specs.Resolved.{IsResolved}
use Rattle.wdf_base.specs.declared.plan.Plan.{Plan}
use Rattle.wdf_base.specs.declared.ids.Cpu.{Cpu}
use Rattle.wdf_base.specs.declared.ids.Handle.{Handle}
use Rattle.wdf_base.specs.declared.declared.InterruptInfo.{InterruptInfo}
use Rattle.wdf_base.specs.declared.call.Callback.{Callback}
use Rattle.wdf_base.specs.declared.call.Callback.TheVariants as callback
use Rattle.wdf_base.specs.declared.event.Event.{Event}
use Rattle.wdf_base.specs.declared.event.Event.TheVariants as event
use Rattle.wdf_model.specs.Tables.{contains, entry, first_of_list, same_id}
use Rattle.wdf_model.specs.Plans.{interrupt_of}
use Rattle.wdf_model.specs.parts.Deferred.Dpcs.{Dpcs, dpc_head, dpcs_of, is_dpc_queued}
use Rattle.wdf_model.specs.State.{State}
use Rattle.wdf_model.specs.rules.Ready.{IsRunOf, ready, state_after}
use Rattle.wdf_model.specs.rules.Starts.{is_ready_for}
use Rattle.wdf_model.specs.rules.Steps.{after, deeds, may}
use Rattle.wdf_model.specs.rules.Deeds.{counted, do_deeds}
use Rattle.law_machine_base.specs.FactsOfEvents.{IsTick}
use Rattle.law_machine_base.proofs.Follows.{state_goes_on}
use Rattle.wdf_model.proofs.Runs.{run_front, take_ended, take_next}
use Rattle.wdf_model.proofs.Tests.{both, first}
use Rattle.law_machine_lives.proofs.Queued.{any_entry}
use Rattle.law_machine_lives.proofs.SoundRuns.{KnownAll, all_known}
use Rattle.wdf_laws.specs.Frames.{frames_after}
use Rattle.wdf_laws.specs.Laws.{alone_row, enable_row, enabled_row, interrupt_rows, is_enabled_in_power, law_4}
use Rattle.law_trace_families.proofs.Families.{family_at_each}
use Rattle.law_trace_power.proofs.Isrs.{serves_at_each}
use Rattle.law_trace_power.proofs.Laws.{comes_by, disables_at_each, enables_at_each, ready_at}
use Rattle.law_trace_power.proofs.Runs.{kept_at_each}
use Rattle.law_trace_power.proofs.Tellings.{enabled_stays}
use Rattle.law_machine_lives.proofs.Deferring.{none_queued}
use Rattle.law_trace_interrupts.proofs.Alone.{alone_at_each}
use Rattle.law_trace_interrupts.proofs.Served.{Serves, keeps}

-- ---- the opening

none_active : (plan : Plan) (i : ℕ) → (entry false [] i || list_any (contains i) (replicate plan.cpus [])) ≡ true → ⊥
none_active plan i h = none_queued i plan.cpus h

serves_first : {A : Type 0} (plan : Plan) (m : Meaning A) → Serves plan (state_after plan m []) []
unfolding state_after
serves_first plan m = record {
  quieted = λ d i w a. absurd (none_active plan i a);
  queued = λ i x at q. absurd (none_queued i plan.cpus q);
}

-- ---- each place

counted_too : {A : Type 0} (plan : Plan) (m : Meaning A) (e : Event) (S : State A) (es : List Event) → Serves plan S es → Serves plan (counted m e S) es
counted_too plan m e S es k = record { quieted = k.quieted; queued = k.queued }

module _ {A : Type 0} (plan : Plan) (m : Meaning A) (run : List Event) (resolved : IsResolved plan) (is_run : IsRunOf plan m run) where
  known_at : (n : ℕ) → KnownAll plan (state_after plan m (take n run))
  known_at n = all_known plan m (take n run) (run_front (ready plan m) run n is_run)

  ticks : (n time : ℕ) → Serves plan (state_after plan m (take n run)) (take n run) → Serves plan (after plan m (state_after plan m (take n run)) (event.Tick time)) (take n run ++ event.Tick time ∷ [])
  ticks n time k = record {
    quieted = k.quieted;
    queued = λ i x at q. enabled_stays plan x.device.0 (take n run) (event.Tick time) i refl refl (k.queued i x at q);
  }

  goes_on : (n : ℕ) (e : Event) → (may plan m (state_after plan m (take n run)) e ≡ true) ⊎ IsTick m (state_after plan m (take n run)) (ready plan m (take n run)) e
      → Serves plan (state_after plan m (take n run)) (take n run) → Serves plan (after plan m (state_after plan m (take n run)) e) (take n run ++ e ∷ [])
  goes_on n e (inl h) k =
      let S : State A = state_after plan m (take n run) in
      counted_too plan m e (do_deeds plan (deeds plan S e) S) (take n run ++ e ∷ [])
      (keeps plan m S (take n run) resolved (known_at n) (kept_at_each plan m run resolved is_run n) (family_at_each plan m run is_run n) k e h)
  goes_on n e (inr t) k =
      let S : State A = state_after plan m (take n run) in
      subst (λ x. Serves plan (after plan m S x) (take n run ++ x ∷ [])) (sym t.tick) (ticks n (S.clock + 1) k)

  next_place : (n : ℕ) (found : Option Event) → slice_get run n ≡ found → Serves plan (state_after plan m (take n run)) (take n run) → Serves plan (state_after plan m (take (suc n) run)) (take (suc n) run)
  next_place n None at k = subst (λ es. Serves plan (state_after plan m es) es) (sym (take_ended run n at)) k
  next_place n (Some e) at k =
      subst (λ es. Serves plan (state_after plan m es) es) (sym (take_next run n e at))
      (subst (λ (U : State A). Serves plan U (take n run ++ e ∷ [])) (sym (state_goes_on plan m (take n run) e)) (goes_on n e (comes_by plan m run n e is_run at) k))

  pub serves_at : (n : ℕ) → Serves plan (state_after plan m (take n run)) (take n run)
  serves_at zero = serves_first plan m
  serves_at (suc n) = next_place n (slice_get run n) refl (serves_at n)

-- ---- EvtInterruptDpc

head_queued : (D : Dpcs) (cpu o : ℕ) → same_id (dpc_head D cpu) o ≡ true → is_dpc_queued D o ≡ true
head_queued D cpu o h = any_entry [] (contains o) D.lists cpu refl (by (dpcs_of D cpu) h)
  where
    by : (xs : List ℕ) → same_id (first_of_list xs) o ≡ true → contains o xs ≡ true
    by [] e = absurd (let z : ⊥ = cc in z)
    by (x ∷ xs) e = first (x == o) (contains o xs) e

dpc_ready : {A : Type 0} (plan : Plan) (m : Meaning A) (S : State A) (cpu o : ℕ) (r : Option Handle) → is_ready_for plan m S cpu callback.EvtInterruptDpc o r ≡ true → same_id (dpc_head S.dpcs cpu) o ≡ true
dpc_ready plan m S cpu o None h = h
dpc_ready plan m S cpu o (Some r) h = absurd (let z : ⊥ = cc in z)

pub defers_at_each : {A : Type 0} (plan : Plan) (m : Meaning A) (run : List Event) (k : ℕ) (cpu : Cpu) (o : Handle) (r : Option Handle) (x : InterruptInfo) → IsResolved plan → IsRunOf plan m run
    → slice_get run k ≡ Some (event.Start cpu callback.EvtInterruptDpc o r) → interrupt_of plan o.id.0 ≡ Some x → is_enabled_in_power plan (take k run) o.id.0 x.device.0 ≡ true
defers_at_each {A} plan m run k cpu o r x resolved is_run at info =
    let S : State A = state_after plan m (take k run) in
    (serves_at plan m run resolved is_run k).queued o.id.0 x info (head_queued S.dpcs cpu.0 o.id.0 (dpc_ready plan m S cpu.0 o.id.0 r (ready_at plan m run k cpu callback.EvtInterruptDpc o r is_run at)))

-- ---- the law

module _ {A : Type 0} (plan : Plan) (m : Meaning A) (run : List Event) (k : ℕ) (resolved : IsResolved plan) (is_run : IsRunOf plan m run) (cpu : Cpu) (o : Handle) (r : Option Handle) (x : InterruptInfo) (info : interrupt_of plan o.id.0 ≡ Some x) where
  enabled_row_is : (c : Callback) → slice_get run k ≡ Some (event.Start cpu c o r) → enabled_row plan (take k run) c o.id.0 x.device.0 ≡ true
  enabled_row_is callback.EvtInterruptIsr at = serves_at_each plan m run k cpu o r x resolved is_run at info
  enabled_row_is callback.EvtInterruptDpc at = defers_at_each plan m run k cpu o r x resolved is_run at info
  enabled_row_is callback.EvtInterruptDisable at = disables_at_each plan m run k cpu o r x resolved is_run at info
  enabled_row_is _ at = refl

  enable_row_is : (c : Callback) → slice_get run k ≡ Some (event.Start cpu c o r) → enable_row plan (take k run) c x.device.0 ≡ true
  enable_row_is callback.EvtInterruptEnable at = enables_at_each plan m run k cpu o r x resolved is_run at info
  enable_row_is _ at = refl

starts_by : {A : Type 0} (plan : Plan) (m : Meaning A) (run : List Event) (k : ℕ) → IsResolved plan → IsRunOf plan m run → (cpu : Cpu) (c : Callback) (o : Handle) (r : Option Handle) (x : Option InterruptInfo) → interrupt_of plan o.id.0 ≡ x
    → slice_get run k ≡ Some (event.Start cpu c o r) → interrupt_rows plan (take k run) (frames_after (take k run)) c cpu.0 o.id.0 x ≡ true
starts_by plan m run k resolved is_run cpu c o r None info at = refl
starts_by plan m run k resolved is_run cpu c o r (Some x) info at =
    both (enabled_row plan (take k run) c o.id.0 x.device.0 && enable_row plan (take k run) c x.device.0) (alone_row (frames_after (take k run)) c x.level.0 cpu.0 o.id.0)
    (both (enabled_row plan (take k run) c o.id.0 x.device.0) (enable_row plan (take k run) c x.device.0) (enabled_row_is plan m run k resolved is_run cpu o r x info c at) (enable_row_is plan m run k resolved is_run cpu o r x info c at))
    (alone_at_each plan m run k cpu c o r x resolved is_run at info)

pub law_4_at_each : {A : Type 0} (plan : Plan) (m : Meaning A) (run : List Event) (k : ℕ) (e : Event) → IsResolved plan → IsRunOf plan m run → slice_get run k ≡ Some e → law_4 plan (take k run) (frames_after (take k run)) e ≡ true
law_4_at_each plan m run k (event.Start cpu c o r) resolved is_run at = starts_by plan m run k resolved is_run cpu c o r (interrupt_of plan o.id.0) refl at
law_4_at_each plan m run k _ resolved is_run at = refl
