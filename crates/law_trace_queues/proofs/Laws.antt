-- A power-managed queue presents, and its callbacks of certain ranks begin, only while its device has power.
use Rattle.std.proofs.Common.{◌≡◌, ℕ, zero, suc, ◌==◌, nat_lt, Bool, true, false, not, ◌||◌, List, [], ◌∷◌, Option, Some, None, is_some, length, map, slice_get, take, refl, sym, ap, ◌∙◌, arith}
use Rattle.std.proofs.lemmas.Bool.{eqb-true}
use Rattle.wdf_base.specs.Meaning.{Meaning}
use Rattle.wdf_base.specs.Resolved.{IsResolved}
use Rattle.wdf_base.specs.declared.plan.Plan.{Plan}
use Rattle.wdf_base.specs.declared.ids.Cpu.{Cpu}
use Rattle.wdf_base.specs.declared.ids.Handle.{Handle}
use Rattle.wdf_base.specs.declared.declared.DeviceInfo.{DeviceInfo}
use Rattle.wdf_base.specs.declared.rank.Rank.{Rank}
use Rattle.wdf_base.specs.declared.rank.Rank.TheVariants as rank
use Rattle.wdf_base.specs.declared.call.Callback.{Callback}
use Rattle.wdf_base.specs.declared.call.Callback.TheVariants as callback
use Rattle.wdf_base.specs.declared.event.Event.{Event}
use Rattle.wdf_base.specs.declared.event.Event.TheVariants as event
use Rattle.wdf_base.specs.declared.event.Step.{Step}
use Rattle.wdf_base.specs.Callbacks.{row_of}
use Rattle.wdf_model.specs.Tables.{entry, same_id}
use Rattle.wdf_model.specs.Plans.{declared_ids, device_of, device_of_queue, is_managed, queue_of}
use Rattle.wdf_model.specs.parts.Control.{notify_due}
use Rattle.wdf_model.specs.parts.Requests.{origin_of}
use Rattle.wdf_model.specs.parts.Power.{holding_of, is_held, is_held_at, opening_power, queue_power, resume_due}
use Rattle.wdf_model.specs.parts.Pnp.{no_sequence, opening_sequence}
use Rattle.wdf_model.specs.State.{State, is_held_from, is_powered, is_with_driver, opening, queue_delivers}
use Rattle.wdf_model.specs.rules.Ready.{IsRunOf, state_after}
use Rattle.wdf_model.specs.rules.Starts.{is_ready_for, rank_ready, rank_ready_for}
use Rattle.law_machine_base.specs.Agreement.{managed_origin}
use Rattle.wdf_model.proofs.Tests.{both, both_left, both_right, positive}
use Rattle.wdf_model.proofs.Counts.{not_equal}
use Rattle.law_machine_counts.proofs.Holding.{HoldsIn, holder}
use Rattle.law_machine_counts.proofs.HeldOverRuns.{from_by, holds_at_each}
use Rattle.law_machine_counts.proofs.PowerQueues.{queues_at_each}
use Rattle.law_machine_lives.proofs.Keeping.{at_the_end, each_place_by}
use Rattle.law_machine_lives.proofs.SoundRuns.{all_known}
use Rattle.wdf_laws.specs.Laws.{begun_with_power, has_power, is_power_rank, law_5, presented_with_power}
use Rattle.wdf_laws.specs.Events.{presented}
use Rattle.law_trace_power.proofs.Frames.{StepFrames}
use Rattle.law_trace_power.proofs.Events.{Kept}
use Rattle.law_trace_power.proofs.Laws.{power_of, presents_at_each, queue_has_power, ready_at}
use Rattle.law_trace_power.proofs.Runs.{kept_at_each}
use Rattle.law_trace_queues.specs.Agreement.{RequestsAndPowerAgree}
use Rattle.law_trace_queues.proofs.Ups.{Fits}
use Rattle.law_trace_queues.proofs.Resuming.{device_noted, noted}
use Rattle.law_trace_queues.proofs.Dues.{IsDue}
use Rattle.law_trace_queues.proofs.Steps.{Knows, WithPower, keeps}

-- ---- each place of a run

opening_fits : (plan : Plan) (d : ℕ) (x : Option DeviceInfo) → Fits (opening_sequence plan d x)
opening_fits plan d None = tt
opening_fits plan d (Some i) = tt

opening_all : (plan : Plan) (ids : List ℕ) (d : ℕ) → Fits (entry no_sequence (map (λ i. opening_sequence plan i (device_of plan i)) ids) d)
opening_all plan [] d = tt
opening_all plan (i ∷ ids) zero = opening_fits plan i (device_of plan i)
opening_all plan (i ∷ ids) (suc d) = opening_all plan ids d

opens : {A : Type 0} (plan : Plan) (m : Meaning A) → WithPower plan (opening plan m)
opens plan m = record {
  backed = λ x q h. absurd (let z : ⊥ = cc in z);
  steps = opening_all plan (declared_ids plan);
  dues = λ d due. absurd (let h = due.1 in let z : ⊥ = cc in z);
}

knows : {A : Type 0} (plan : Plan) (m : Meaning A) → IsResolved plan → (run : List Event) → IsRunOf plan m run → Knows plan (state_after plan m run)
knows {A} plan m resolved run is_run = record {
  known = all_known plan m run is_run;
  frames = at_the_end plan m (λ (S : State A). StepFrames S.cpus S.pnp) run (kept_at_each plan m run resolved is_run (length run)).frames;
  queues = at_the_end plan m (λ (S : State A). S.power.queues ≡ (opening_power plan).queues) run (queues_at_each plan m run is_run (length run));
}

pub with_power_at_each : {A : Type 0} (plan : Plan) (m : Meaning A) (run : List Event) → IsResolved plan → IsRunOf plan m run → (n : ℕ) → WithPower plan (state_after plan m (take n run))
with_power_at_each {A} plan m run resolved is_run n = each_place_by plan m (λ (S : State A). Knows plan S) (λ (S : State A). WithPower plan S) (knows plan m resolved) (opens plan m)
    (λ S e known h k. let u = keeps plan m S known k e h in record { backed = u.backed; steps = u.steps; dues = u.dues })
    (λ S time k. record { backed = k.backed; steps = k.steps; dues = k.dues })
    run is_run n

-- a resume that is due at a device is due for what is held from a queue of it
due_there : {A : Type 0} (plan : Plan) (S : State A) (d r : ℕ) → S.power.queues ≡ (opening_power plan).queues → is_held_at S.power d (holding_of S.power r) ≡ true → resume_due S.power r ≡ true → IsDue plan S.power d
due_there plan S d r same held due =
    let there : is_held (holding_of S.power r) ≡ true = both_left (is_held (holding_of S.power r)) ((queue_power S.power (noted S.power r)).device.0 == d) held in
    let at : (queue_power S.power (noted S.power r)).device.0 ≡ d = eqb-true (queue_power S.power (noted S.power r)).device.0 d (both_right (is_held (holding_of S.power r)) ((queue_power S.power (noted S.power r)).device.0 == d) held) in
    (r, both (is_held (holding_of S.power r)) (resume_due S.power r) there due, sym (device_noted plan S.power (noted S.power r) same) ∙ at)

pub agrees_at_each : {A : Type 0} (plan : Plan) (m : Meaning A) (run : List Event) → IsResolved plan → IsRunOf plan m run → (n : ℕ) → RequestsAndPowerAgree plan (state_after plan m (take n run))
agrees_at_each {A} plan m run resolved is_run n =
    let S : State A = state_after plan m (take n run) in
    let k = with_power_at_each plan m run resolved is_run n in
    record {
      returning = k.backed;
      resuming = λ d r held due. let w = k.dues d (due_there plan S d r (queues_at_each plan m run is_run n) held due) in record { up = w.up; after = w.after; idle = ap (λ (s : Option Step). is_some s) w.idle };
    }

-- ---- a queue that has power

-- ---- EvtIoResume

-- what is held from a power-managed queue is noted for it
noted_from : {A : Type 0} (plan : Plan) (S : State A) (q r : ℕ) → HoldsIn plan S → is_managed plan q ≡ true → is_held_from S q r ≡ true → noted S.power r ≡ q
noted_from plan S q r hold managed held = hold.holdings r ∙ by_holder (holder S.requests S.targets r) (sym (from_by (is_with_driver S r) (origin_of S.requests r) q) ∙ held)
  where
    by_holder : (o : Option ℕ) → same_id o q ≡ true → managed_origin plan o ≡ q
    by_holder None h = absurd (let z : ⊥ = cc in z)
    by_holder (Some p) h = let e : p ≡ q = eqb-true p q h in rw e (rw managed refl)

no_zero : (plan : Plan) (q : ℕ) → is_managed plan q ≡ true → nat_lt 0 q ≡ true
no_zero plan zero h = absurd (let z : ⊥ = cc in z)
no_zero plan (suc q) h = positive (suc q) (not_equal (suc q) 0 (λ e. let z : ⊥ = omega arith in z))

-- a queue has power while a resume is due for what is held from it
resumes_powered : {A : Type 0} (plan : Plan) (S : State A) (q r : ℕ) → HoldsIn plan S → WithPower plan S → resume_due S.power r ≡ true → is_held_from S q r ≡ true → is_powered plan S q ≡ true
resumes_powered plan S q r hold k due held = by_managed (is_managed plan q) refl
  where
    by_managed : (b : Bool) → is_managed plan q ≡ b → is_powered plan S q ≡ true
    by_managed false e = rw e refl
    by_managed true e =
        let at : noted S.power r ≡ q = noted_from plan S q r hold e held in
        let there : is_held (holding_of S.power r) ≡ true = rw at (no_zero plan q e) in
        let w = k.dues (device_of_queue plan q) (r, both (is_held (holding_of S.power r)) (resume_due S.power r) there due, ap (device_of_queue plan) at) in
        rw (e, w.up) refl

-- ---- the callbacks

module _ {A : Type 0} (plan : Plan) (m : Meaning A) (S : State A) (es : List Event) (kept : Kept plan S es) (hold : HoldsIn plan S) (k : WithPower plan S) where
  begins_for : (x : Rank) (c : Callback) (o r : ℕ) → is_power_rank x ≡ true → rank_ready_for plan S x c o r ≡ true → has_power plan es (queue_of plan o) ≡ true
  begins_for rank.CanceledOnQueue c o r is h = power_of plan S es kept o (queue_of plan o) refl (k.backed r o h)
  begins_for rank.Resume c o r is h =
      power_of plan S es kept o (queue_of plan o) refl
      (resumes_powered plan S o r hold k (both_left (resume_due S.power r) (is_held_from S o r) h) (both_right (resume_due S.power r) (is_held_from S o r) h))
  begins_for _ c o r is h = absurd (let z : ⊥ = cc in z)

  begins_alone : (x : Rank) (cpu : ℕ) (c : Callback) (o : ℕ) → is_power_rank x ≡ true → rank_ready plan m S x cpu c o ≡ true → has_power plan es (queue_of plan o) ≡ true
  begins_alone rank.QueueState cpu c o is h = queue_has_power plan S es kept o (both_right (notify_due S.control o) (queue_delivers plan S o) h)
  begins_alone _ cpu c o is h = absurd (let z : ⊥ = cc in z)

  pub begins : (cpu : ℕ) (c : Callback) (o : ℕ) (r : Option Handle) → is_power_rank (row_of c).rank ≡ true → is_ready_for plan m S cpu c o r ≡ true → has_power plan es (queue_of plan o) ≡ true
  begins cpu c o None is h = begins_alone (row_of c).rank cpu c o is h
  begins cpu c o (Some r) is h = begins_for (row_of c).rank c o r.id.0 is h

-- ---- the laws

module _ {A : Type 0} (plan : Plan) (m : Meaning A) (run : List Event) (k : ℕ) (resolved : IsResolved plan) (is_run : IsRunOf plan m run) where
  begins_at : (cpu : Cpu) (c : Callback) (o : Handle) (r : Option Handle) → is_power_rank (row_of c).rank ≡ true → slice_get run k ≡ Some (event.Start cpu c o r) → has_power plan (take k run) (queue_of plan o.id.0) ≡ true
  begins_at cpu c o r is at =
      begins plan m (state_after plan m (take k run)) (take k run) (kept_at_each plan m run resolved is_run k) (holds_at_each plan m run is_run k) (with_power_at_each plan m run resolved is_run k)
      cpu.0 c o.id.0 r is (ready_at plan m run k cpu c o r is_run at)

  begun : (e : Event) → slice_get run k ≡ Some e → begun_with_power plan (take k run) e ≡ true
  begun (event.Start cpu c o r) at = by_rank (is_power_rank (row_of c).rank) refl
    where
      by_rank : (b : Bool) → is_power_rank (row_of c).rank ≡ b → (not (is_power_rank (row_of c).rank) || has_power plan (take k run) (queue_of plan o.id.0)) ≡ true
      by_rank false is = rw is refl
      by_rank true is = rw is (begins_at cpu c o r is at)
  begun _ at = refl

pub returns_at_each : {A : Type 0} (plan : Plan) (m : Meaning A) (run : List Event) (k : ℕ) (cpu : Cpu) (o : Handle) (r : Option Handle) → IsResolved plan → IsRunOf plan m run
    → slice_get run k ≡ Some (event.Start cpu callback.EvtIoCanceledOnQueue o r) → has_power plan (take k run) (queue_of plan o.id.0) ≡ true
returns_at_each plan m run k cpu o r resolved is_run at = begins_at plan m run k resolved is_run cpu callback.EvtIoCanceledOnQueue o r refl at

pub resumes_at_each : {A : Type 0} (plan : Plan) (m : Meaning A) (run : List Event) (k : ℕ) (cpu : Cpu) (o : Handle) (r : Option Handle) → IsResolved plan → IsRunOf plan m run
    → slice_get run k ≡ Some (event.Start cpu callback.EvtIoResume o r) → has_power plan (take k run) (queue_of plan o.id.0) ≡ true
resumes_at_each plan m run k cpu o r resolved is_run at = begins_at plan m run k resolved is_run cpu callback.EvtIoResume o r refl at

pub law_5_at_each : {A : Type 0} (plan : Plan) (m : Meaning A) (run : List Event) (k : ℕ) (e : Event) → IsResolved plan → IsRunOf plan m run → slice_get run k ≡ Some e → law_5 plan (take k run) e ≡ true
law_5_at_each plan m run k e resolved is_run at =
    both (presented_with_power plan (take k run) (presented e)) (begun_with_power plan (take k run) e) (presents_at_each plan m run k e resolved is_run at) (begun plan m run k resolved is_run e at)
