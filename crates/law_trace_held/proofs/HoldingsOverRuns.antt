-- At each place of every run, a taking of a request from a power-managed queue came, with no giving up since, exactly
-- where the driver holds the request from that queue.
use Rattle.std.proofs.Common.{◌≡◌, ℕ, ◌+◌, ◌==◌, Bool, true, false, not, List, [], ◌∷◌, ◌++◌, ◌⊎◌, inl, inr, Option, Some, None, length, take, refl, sym, ap, subst, ◌∙◌}
use Rattle.std.proofs.lemmas.Bool.{cases_Bool}
use Rattle.wdf_base.specs.Meaning.{Meaning}
use Rattle.wdf_base.specs.declared.ids.Cpu.{Cpu}
use Rattle.wdf_base.specs.declared.plan.Plan.{Plan}
use Rattle.wdf_base.specs.declared.value.Value.{Value}
use Rattle.wdf_base.specs.declared.call.Arg.{Arg}
use Rattle.wdf_base.specs.declared.call.Call.{Call}
use Rattle.wdf_base.specs.declared.call.CallKind.{CallKind}
use Rattle.wdf_base.specs.declared.call.CallKind.TheVariants as call
use Rattle.wdf_base.specs.declared.event.Event.{Event}
use Rattle.wdf_base.specs.declared.event.Event.TheVariants as event
use Rattle.wdf_model.specs.Tables.{same_id}
use Rattle.wdf_model.specs.Plans.{is_managed}
use Rattle.wdf_model.specs.State.{State}
use Rattle.wdf_model.specs.declared.deed.Deed.{Deed}
use Rattle.wdf_model.specs.rules.Deeds.{do_deeds}
use Rattle.wdf_model.specs.rules.Calls.{is_met_then, outcome}
use Rattle.wdf_model.specs.rules.Steps.{after, deeds, may}
use Rattle.wdf_model.proofs.Counts.{not_equal}
use Rattle.law_machine_base.proofs.OwnEvents.{IsDid, IsWaiting, IsWoke, did_tells, waiting_tells, woke_tells}
use Rattle.law_machine_base.proofs.KeptByDeeds.{KeptIn}
use Rattle.law_machine_base.specs.Agreement.{managed_origin}
use Rattle.law_machine_counts.proofs.Holding.{HoldsIn}
use Rattle.wdf_laws.specs.declared.sign.Sign.TheVariants as sign
use Rattle.wdf_laws.specs.Events.{given_up, taken}
use Rattle.wdf_laws.specs.Words.{stands}
use Rattle.wdf_model.specs.parts.Requests.{origin_of}
use Rattle.wdf_model.specs.State.{is_held_from, is_with_driver}
use Rattle.wdf_model.specs.declared.deed.Deed.TheVariants.{Present}
use Rattle.wdf_model.specs.rules.Ready.{IsRunOf, ready, state_after}
use Rattle.law_machine_base.specs.FactsOfEvents.{IsTick}
use Rattle.wdf_model.proofs.Runs.{along_run}
use Rattle.law_machine_base.proofs.Follows.{follows, state_goes_on}
use Rattle.law_machine_base.proofs.LawsOverRuns.{history_now}
use Rattle.law_machine_counts.proofs.Holding.{holder}
use Rattle.law_machine_counts.proofs.HeldOverRuns.{from_by, holds_at_each}
use Rattle.law_machine_deeds.specs.MayDo.{may_do}
use Rattle.law_machine_deeds.proofs.Passing.{event_passes}
use Rattle.law_trace_requests.proofs.FirstParts.{did_after, waiting_after, woke_after}
use Rattle.law_machine_lives.proofs.ReasonsOfCalls.{call_of}
use Rattle.law_trace_held.proofs.Holdings.{completed_notes, deeds_note, is_holding, none_holds}
use Rattle.law_trace_held.proofs.HeldAsTold.{HeldAsTold, give_step, managed_some, silent_step, start_holds}
use Rattle.law_trace_held.proofs.HeldByCalls.{call_notes, did_notes, is_holding_call}
use Rattle.law_machine_lives.proofs.Keeping.{at_the_end}

-- ---- events that take and give up nothing

pub waits_holding : {A : Type 0} (plan : Plan) (S : State A) (k : CallKind) (n : ℕ) (a b x : Arg) → is_met_then plan S (call_of k n a b x) ≡ false → is_holding_call k ≡ false
waits_holding plan S call.WdfRequestComplete n a b x h = absurd (let z : ⊥ = cc in z)
waits_holding plan S call.WdfRequestRequeue n a b x h = absurd (let z : ⊥ = cc in z)
waits_holding plan S call.WdfRequestForwardToIoQueue n a b x h = absurd (let z : ⊥ = cc in z)
waits_holding plan S call.WdfRequestStopAcknowledge n a b x h = absurd (let z : ⊥ = cc in z)
waits_holding plan S call.WdfRequestSend n a b x h = absurd (let z : ⊥ = cc in z)
waits_holding plan S call.WdfIoQueueRetrieveNextRequest n a b x h = absurd (let z : ⊥ = cc in z)
waits_holding plan S _ n a b x h = refl

-- an event that neither begins a callback, nor is a call, nor a completion
abbrev pub is_plain : Event → Bool
is_plain (event.Start cpu c o r) = false
is_plain (event.Did cpu c v) = false
is_plain (event.Waiting cpu c) = false
is_plain (event.Woke cpu c v) = false
is_plain (event.Complete r s) = false
is_plain _ = true

event_still : (e : Event) → is_plain e ≡ true → (d : Deed) → may_do e d ≡ true → not (is_holding d) ≡ true
event_still (event.Start cpu c o r) plain d h = absurd (let z : ⊥ = cc in z)
event_still (event.Did cpu c v) plain d h = absurd (let z : ⊥ = cc in z)
event_still (event.Waiting cpu c) plain d h = absurd (let z : ⊥ = cc in z)
event_still (event.Woke cpu c v) plain d h = absurd (let z : ⊥ = cc in z)
event_still (event.Complete r s) plain d h = absurd (let z : ⊥ = cc in z)
event_still e plain (Present q r) h = h
event_still e plain _ h = cc

pub event_none : {A : Type 0} (plan : Plan) (S : State A) (e : Event) → is_plain e ≡ true → none_holds (deeds plan S e) ≡ true
event_none plan S e plain = event_passes (λ d. not (is_holding d)) plan S e (event_still e plain)

-- ---- every event

module _ {A : Type 0} {F B : ℕ → Bool} (plan : Plan) (m : Meaning A) (es : List Event) (S : State A) (kept : KeptIn F B S) (hold : HoldsIn plan S) (held : HeldAsTold plan es S.power) where
  abbrev Held : Event → Type 0
  Held e = HeldAsTold plan (es ++ e ∷ []) (after plan m S e).power

  silent : (e : Event) → taken e ≡ None → given_up e ≡ None → none_holds (deeds plan S e) ≡ true → Held e
  silent e t g none = silent_step plan es e S.power (after plan m S e).power t g (deeds_note plan (deeds plan S e) S none) held

  did_held : (cpu : Cpu) (c : Call) (v : Value) → may plan m S (event.Did cpu c v) ≡ true → Held (event.Did cpu c v)
  did_held cpu c v h =
      let d : IsDid plan S cpu.0 c v = did_tells plan m S cpu c v h in
      subst (HeldAsTold plan (es ++ event.Did cpu c v ∷ []))
      (sym (did_after (λ (T : State A). T.power) (λ T L C. refl) plan S cpu.0 c v d))
      (did_notes plan es S kept hold held cpu d.frame c.kind c.count c.a c.b c.c v d.about.clean d.answer)

  waiting_held : (cpu : Cpu) (c : Call) → may plan m S (event.Waiting cpu c) ≡ true → Held (event.Waiting cpu c)
  waiting_held cpu c h =
      let d : IsWaiting plan S cpu.0 c = waiting_tells plan m S cpu c h in
      subst (HeldAsTold plan (es ++ event.Waiting cpu c ∷ []))
      (sym (waiting_after (λ (T : State A). T.power) (λ T L C. refl) plan S cpu.0 c d))
      (silent_step plan es (event.Waiting cpu c) S.power (do_deeds plan (outcome plan S cpu.0 d.frame c).deeds S).power refl refl
      (call_notes plan S cpu.0 d.frame c.kind c.count c.a c.b c.c (waits_holding plan S c.kind c.count c.a c.b c.c d.unmet)) held)

  woke_held : (cpu : Cpu) (c : Call) (v : Value) → may plan m S (event.Woke cpu c v) ≡ true → Held (event.Woke cpu c v)
  woke_held cpu c v h =
      let d : IsWoke S cpu.0 c v = woke_tells plan m S cpu c v h in
      subst (HeldAsTold plan (es ++ event.Woke cpu c v ∷ []))
      (sym (woke_after (λ (T : State A). T.power) (λ T L C. refl) plan S cpu.0 c v d))
      (silent_step plan es (event.Woke cpu c v) S.power S.power refl refl (λ x. refl) held)

  event_held : (e : Event) → may plan m S e ≡ true → Held e
  event_held (event.Start cpu c o r) h = start_holds plan m es S kept hold held cpu c o r h
  event_held (event.Did cpu c v) h = did_held cpu c v h
  event_held (event.Waiting cpu c) h = waiting_held cpu c h
  event_held (event.Woke cpu c v) h = woke_held cpu c v h
  event_held (event.Complete r s) h = give_step plan es (event.Complete r s) S.power (after plan m S (event.Complete r s)).power r.id.0 refl refl (completed_notes plan S r.id.0 hold) held
  event_held (event.Posted agent p answer) h = silent (event.Posted agent p answer) refl refl (event_none plan S (event.Posted agent p answer) refl)
  event_held (event.Local cpu line) h = silent (event.Local cpu line) refl refl (event_none plan S (event.Local cpu line) refl)
  event_held (event.Log cpu v) h = silent (event.Log cpu v) refl refl (event_none plan S (event.Log cpu v) refl)
  event_held (event.Spend cpu n) h = silent (event.Spend cpu n) refl refl (event_none plan S (event.Spend cpu n) refl)
  event_held (event.Register cpu a r v) h = silent (event.Register cpu a r v) refl refl (event_none plan S (event.Register cpu a r v) refl)
  event_held (event.Park cpu f) h = silent (event.Park cpu f) refl refl (event_none plan S (event.Park cpu f) refl)
  event_held (event.Unpark cpu f) h = silent (event.Unpark cpu f) refl refl (event_none plan S (event.Unpark cpu f) refl)
  event_held (event.End cpu c o v) h = silent (event.End cpu c o v) refl refl (event_none plan S (event.End cpu c o v) refl)
  event_held (event.Fault cpu x line) h = silent (event.Fault cpu x line) refl refl (event_none plan S (event.Fault cpu x line) refl)
  event_held (event.Stage d s i) h = silent (event.Stage d s i) refl refl (event_none plan S (event.Stage d s i) refl)
  event_held (event.Cleanup o) h = silent (event.Cleanup o) refl refl (event_none plan S (event.Cleanup o) refl)
  event_held (event.Destroy o) h = silent (event.Destroy o) refl refl (event_none plan S (event.Destroy o) refl)
  event_held (event.Tick time) h = silent (event.Tick time) refl refl (event_none plan S (event.Tick time) refl)

  pub either_held : (offered : List Event) (e : Event) → (may plan m S e ≡ true) ⊎ IsTick m S offered e → Held e
  either_held offered e (inl h) = event_held e h
  either_held offered e (inr t) = subst Held (sym t.tick) (silent (event.Tick (S.clock + 1)) refl refl refl)

-- ---- each place of a run

pub holds_now : {A : Type 0} (plan : Plan) (m : Meaning A) (run : List Event) → IsRunOf plan m run → HoldsIn plan (state_after plan m run)
holds_now plan m run is_run = at_the_end plan m (λ S. HoldsIn plan S) run (holds_at_each plan m run is_run (length run))

pub held_opens : {A : Type 0} (plan : Plan) (m : Meaning A) → HeldAsTold plan [] (state_after plan m []).power
unfolding state_after stands
held_opens plan m r q h = sym (managed_some plan q h)

pub held_at_each : {A : Type 0} (plan : Plan) (m : Meaning A) (run : List Event) → IsRunOf plan m run → (n : ℕ) → HeldAsTold plan (take n run) (state_after plan m (take n run)).power
held_at_each {A} plan m run is_run n = along_run (λ es. HeldAsTold plan es (state_after plan m es).power) (ready plan m) run (held_opens plan m)
    (λ before e place so_far held at. subst (λ (T : State A). HeldAsTold plan (before ++ e ∷ []) T.power) (sym (state_goes_on plan m before e))
    (either_held plan m before (state_after plan m before) (history_now plan m before so_far).kept (holds_now plan m before so_far) held (ready plan m before) e (follows plan m before place e at)))
    is_run n

-- ---- the law

noted_from : (plan : Plan) (o : Option ℕ) (q : ℕ) → is_managed plan q ≡ true → (managed_origin plan o == q) ≡ same_id o q
noted_from plan None q h = managed_some plan q h
noted_from plan (Some p) q h = elim (cases_Bool (is_managed plan p)) [
  | inl e ↦ rw e refl
  | inr e ↦ rw e (managed_some plan q h ∙ sym (not_equal p q (λ y. let same : is_managed plan p ≡ true = subst (λ (i : ℕ). is_managed plan i ≡ true) (sym y) h in let z : ⊥ = cc in z)))
]

pub held_as_told_at_each : {A : Type 0} (plan : Plan) (m : Meaning A) (run : List Event) (n r q : ℕ) → IsRunOf plan m run → is_managed plan q ≡ true
    → stands (sign.TakingFrom r q) (sign.GivingUp r) (take n run) ≡ is_held_from (state_after plan m (take n run)) q r
held_as_told_at_each {A} plan m run n r q is_run h =
    let S : State A = state_after plan m (take n run) in
    held_at_each plan m run is_run n r q h ∙ ap (λ i. i == q) ((holds_at_each plan m run is_run n).holdings r) ∙ noted_from plan (holder S.requests S.targets r) q h
    ∙ sym (from_by (is_with_driver S r) (origin_of S.requests r) q)
