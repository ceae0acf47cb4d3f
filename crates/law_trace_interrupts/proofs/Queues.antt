-- What is queued as a DPC: of the deeds of an event, the only ones that queue an interrupt's DPC are those of a call on an
-- enabled interrupt.
use Rattle.std.proofs.Common.{if◌then◌else◌, ◌≡◌, ℕ, Bool, true, false, not, ◌&&◌, ◌||◌, List, [], ◌∷◌, ◌++◌, refl}
use Rattle.std.specs.List.{list_all}
use Rattle.wdf_base.specs.declared.plan.Plan.{Plan}
use Rattle.wdf_base.specs.declared.object.Kind.TheVariants as kind
use Rattle.wdf_base.specs.declared.object.Place.{Place}
use Rattle.wdf_base.specs.declared.object.Place.TheVariants as place
use Rattle.wdf_base.specs.declared.call.Arg.{Arg}
use Rattle.wdf_base.specs.declared.call.CallKind.{CallKind}
use Rattle.wdf_base.specs.declared.call.CallKind.TheVariants as call
use Rattle.wdf_base.specs.declared.event.Event.{Event}
use Rattle.wdf_base.specs.declared.event.Event.TheVariants as event
use Rattle.wdf_base.specs.Same.{same_call_kind}
use Rattle.wdf_base.specs.declared.call.Callback.TheVariants as callback
use Rattle.wdf_model.specs.Ids.{cpu_of, frame_id, object_id}
use Rattle.wdf_model.specs.parts.Tree.{life_of}
use Rattle.wdf_model.specs.parts.Interrupts.{is_enabled}
use Rattle.wdf_model.specs.parts.Deferred.Dpcs.{is_dpc_queued}
use Rattle.wdf_model.specs.Plans.{declares}
use Rattle.wdf_model.specs.parts.Cpus.{frame_of}
use Rattle.wdf_model.specs.State.{State, object_in}
use Rattle.wdf_model.specs.declared.deed.Deed.{Deed}
use Rattle.wdf_model.specs.declared.deed.Deed.TheVariants.{Arrive, CompleteRequest, EnqueueDpc, Forward, GiveBack, GoOn, Requeue, SendRequest}
use Rattle.wdf_model.specs.rules.Calls.{number, outcome, second_deeds}
use Rattle.wdf_model.specs.rules.Steps.{answered, deeds, did_deeds, waiting, waiting_deeds}
use Rattle.wdf_model.proofs.Tests.{alone, both_left, both_right}
use Rattle.wdf_base.specs.Meaning.{Meaning}
use Rattle.wdf_base.specs.declared.event.Fault.TheVariants as fault
use Rattle.wdf_base.specs.Same.{same_kind}
use Rattle.wdf_model.specs.parts.Tree.{kind_of}
use Rattle.wdf_model.specs.rules.Steps.{may}
use Rattle.law_machine_base.proofs.Fits.{first_kind, wrong_kind_of_first}
use Rattle.law_machine_base.proofs.FitsOfEvents.{by_its_top}
use Rattle.law_machine_base.proofs.OwnEvents.{did_tells, waiting_tells}
use Rattle.law_machine_base.proofs.FitsOfCalls.{Clean}
use Rattle.std.proofs.Common.{◌≡◌, inl, inr, fold, sym, ap, subst, ◌∙◌}
use Rattle.std.proofs.lemmas.Bool.{or_cases}
use Rattle.wdf_base.specs.declared.call.Call.{Call}
use Rattle.wdf_base.specs.declared.object.RequestInfo.{RequestInfo}
use Rattle.wdf_base.specs.Lives.{is_live}
use Rattle.wdf_model.specs.declared.enums.Mode.TheVariants as mode
use Rattle.wdf_model.specs.Plans.{managed_queues, queues_of}
use Rattle.wdf_model.specs.parts.Tree.{subtree}
use Rattle.wdf_model.specs.parts.Requests as requests
use Rattle.wdf_model.specs.parts.Queues.{waiting_in}
use Rattle.wdf_model.specs.parts.Control as control
use Rattle.wdf_model.specs.parts.Deferred.Dpcs.{Dpcs}
use Rattle.wdf_model.specs.rules.Steps.{view_of}
use Rattle.wdf_model.specs.declared.deed.Deed.TheVariants.{AskDeletion, PurgeQueue, CloseReturning, CloseDevice, CancelDpc, TakeDpc}
use Rattle.wdf_model.specs.rules.Deeds.{arrive_at, ask_object, do_deed, do_deeds, give_up}
use Rattle.wdf_model.proofs.Tests.{first, second}
use Rattle.law_machine_base.proofs.Deletion.{object_live, object_off}
use Rattle.law_machine_deeds.specs.MayDo.{first_part, may_do, queues_dpcs}
use Rattle.law_machine_deeds.proofs.Walk.{all_after, plain_frame}
use Rattle.law_machine_deeds.proofs.Passing.{PassesBeside, event_passes, first_of, outcome_passes, second_of, second_passes}
use Rattle.law_machine_lives.proofs.Stays.{gives_up, gives_up_if, queues_closed, returns_closed, withdraws}
use Rattle.law_machine_lives.proofs.Queued.{dpc_cancelled, dpc_enqueued, dpc_taken}

-- a deed that queues as a DPC only what may be queued
abbrev pub is_fine : (ℕ → Bool) → Deed → Bool
is_fine may_queue (EnqueueDpc cpu o) = may_queue o.0
is_fine may_queue _ = true

module _ (may_queue : ℕ → Bool) where
  abbrev pub all_fine : List Deed → Bool
  all_fine ds = list_all (is_fine may_queue) ds

  enabled_fine : (a b c : Bool) (cpu o : ℕ) → (a ≡ true → may_queue o ≡ true) → all_fine (if a && b && c then number 1 (EnqueueDpc (cpu_of cpu) (object_id o) ∷ []) else number 0 []).deeds ≡ true
  enabled_fine true true true cpu o h = alone (may_queue o) (h refl)
  enabled_fine true true false cpu o h = refl
  enabled_fine true false c cpu o h = refl
  enabled_fine false b c cpu o h = refl

  live_fine : (a b : Bool) (cpu o : ℕ) → (a ≡ true → may_queue o ≡ true) → all_fine (if a && b then number 1 (EnqueueDpc (cpu_of cpu) (object_id o) ∷ []) else number 0 []).deeds ≡ true
  live_fine true true cpu o h = alone (may_queue o) (h refl)
  live_fine true false cpu o h = refl
  live_fine false b cpu o h = refl

  call_still : (c : Call) → queues_dpcs c.kind ≡ false → PassesBeside (is_fine may_queue) plain_frame (first_of c)
  call_still c off (EnqueueDpc cpu o) h n = absurd (let z : ⊥ = cc in z)
  call_still c off _ h n = refl

  outcome_fine : {A : Type 0} (plan : Plan) (S : State A) (cpu f : ℕ) (k : CallKind) (n : ℕ) (a b x : Arg) → ((o : ℕ) → is_enabled S.interrupts o ≡ true → may_queue o ≡ true) → (same_call_kind k call.WdfDpcEnqueue ≡ true → is_live (life_of S.tree (object_in a)) ≡ true → may_queue (object_in a) ≡ true) → all_fine (outcome plan S cpu f (record { kind = k; count = n; a = a; b = b; c = x })).deeds ≡ true
  outcome_fine plan S cpu f call.WdfInterruptQueueDpcForIsr n a b x c r =
      enabled_fine (is_enabled S.interrupts (object_in a)) (declares plan callback.EvtInterruptDpc (object_in a)) (not (is_dpc_queued S.dpcs (object_in a))) cpu (object_in a) (c (object_in a))
  outcome_fine plan S cpu f call.WdfDpcEnqueue n a b x c r =
      live_fine (is_live (life_of S.tree (object_in a))) (not (is_dpc_queued S.dpcs (object_in a))) cpu (object_in a) (r refl)
  outcome_fine plan S cpu f k n a b x c r = outcome_passes (is_fine may_queue) plan S cpu f (record { kind = k; count = n; a = a; b = b; c = x }) (call_still (record { kind = k; count = n; a = a; b = b; c = x }) refl)

  second_still : (c : Call) → PassesBeside (is_fine may_queue) plain_frame (second_of c)
  second_still c (EnqueueDpc cpu o) h n = absurd (let z : ⊥ = cc in z)
  second_still c _ h n = refl

  second_fine : (f : ℕ) (c : Call) → all_fine (second_deeds f c) ≡ true
  second_fine f c = second_passes (is_fine may_queue) f c (second_still c)

  event_still : (e : Event) → first_part queues_dpcs e ≡ false → (d : Deed) → may_do e d ≡ true → is_fine may_queue d ≡ true
  event_still e off (EnqueueDpc cpu o) h = absurd (let z : ⊥ = cc in z)
  event_still e off _ h = refl

module _ {A : Type 0} (plan : Plan) (m : Meaning A) (S : State A) (p : ℕ → Bool) (enabled : (o : ℕ) → is_enabled S.interrupts o ≡ true → p o ≡ true)
    (object : (o : ℕ) → same_kind (kind_of S.tree o) kind.Dpc ≡ true → is_live (life_of S.tree o) ≡ true → p o ≡ true) where
  dpc_of : (cpu f : ℕ) (k : CallKind) (n : ℕ) (a b x : Arg) → Clean plan S cpu f (record { kind = k; count = n; a = a; b = b; c = x }) → same_call_kind k call.WdfDpcEnqueue ≡ true → is_live (life_of S.tree (object_in a)) ≡ true → p (object_in a) ≡ true
  dpc_of cpu f call.WdfDpcEnqueue n a b x clean h live =
      object (object_in a) (first_kind (view_of plan S cpu f) kind.Dpc a (wrong_kind_of_first (view_of plan S cpu f) (record { kind = call.WdfDpcEnqueue; count = n; a = a; b = b; c = x }) (clean fault.WrongKind))) live
  dpc_of cpu f _ n a b x clean h live = absurd (let z : ⊥ = cc in z)

  call_fine : (cpu f : ℕ) (c : Call) → Clean plan S cpu f c → all_fine p (outcome plan S cpu f c).deeds ≡ true
  call_fine cpu f c clean = outcome_fine p plan S cpu f c.kind c.count c.a c.b c.c enabled (dpc_of cpu f c.kind c.count c.a c.b c.c clean)

  pub event_fine : (e : Event) → may plan m S e ≡ true → all_fine p (deeds plan S e) ≡ true
  event_fine (event.Did k c v) h =
      let d = did_tells plan m S k c v h in
      let f : ℕ = d.frame in
      subst (λ ds. all_fine p ds ≡ true) (sym (by_its_top S k.0 f (did_deeds plan S k.0 c v) d.about.top))
      (all_after (is_fine p) ((outcome plan S k.0 f c).deeds ++ second_deeds f c) (GoOn (frame_id f) (answered plan (frame_of S.cpus f) v) ∷ [])
      (all_after (is_fine p) (outcome plan S k.0 f c).deeds (second_deeds f c) (call_fine k.0 f c d.about.clean) (second_fine p f c)) refl)
  event_fine (event.Waiting k c) h =
      let d = waiting_tells plan m S k c h in
      let f : ℕ = d.frame in
      subst (λ ds. all_fine p ds ≡ true) (sym (by_its_top S k.0 f (waiting_deeds plan S k.0 c) d.about.top))
      (all_after (is_fine p) (outcome plan S k.0 f c).deeds (GoOn (frame_id f) (waiting (frame_of S.cpus f) c (outcome plan S k.0 f c).answer) ∷ []) (call_fine k.0 f c d.about.clean) refl)
  event_fine e h = event_passes (is_fine p) plan S e (event_still p e refl)

-- ---- what is queued after some deeds

-- what is queued was queued, or may be
abbrev pub From : (ℕ → Bool) → Dpcs → Dpcs → Type 0
From p D E = (x : ℕ) → is_dpc_queued E x ≡ true → (is_dpc_queued D x || p x) ≡ true

module _ (p : ℕ → Bool) where
  from_same : (D E : Dpcs) → E ≡ D → From p D E
  from_same D E e x h = first (is_dpc_queued D x) (p x) (sym (ap (λ y. is_dpc_queued y x) e) ∙ h)

  from_then : (D E F : Dpcs) → From p D E → From p E F → From p D F
  from_then D E F a b x h = elim (or_cases (is_dpc_queued E x) (p x) (b x h)) [
    | inl e ↦ a x e
    | inr e ↦ second (is_dpc_queued D x) (p x) e
  ]

  asked_one : {A : Type 0} (S : State A) (o : ℕ) (b : Bool) → is_live (life_of S.tree o) ≡ b → From p S.dpcs (ask_object S o).dpcs
  asked_one {A} S o true e = subst (λ (U : State A). From p S.dpcs U.dpcs) (sym (object_live S o e)) (λ x h. first (is_dpc_queued S.dpcs x) (p x) (dpc_cancelled S.dpcs o x h).0)
  asked_one {A} S o false e = subst (λ (U : State A). From p S.dpcs U.dpcs) (sym (object_off S o e)) (from_same S.dpcs S.dpcs refl)

  asked_all : {A : Type 0} (os : List ℕ) (S : State A) → From p S.dpcs (fold ask_object S os).dpcs
  asked_all [] S = from_same S.dpcs S.dpcs refl
  asked_all (o ∷ os) S = from_then S.dpcs (ask_object S o).dpcs (fold ask_object (ask_object S o) os).dpcs (asked_one S o (is_live (life_of S.tree o)) refl) (asked_all os (ask_object S o))

  arrived : {A : Type 0} (S : State A) (device : ℕ) (info : RequestInfo) (q : Place) → (arrive_at S device info q).dpcs ≡ S.dpcs
  arrived S device info (place.Queued q) = refl
  arrived S device info _ = refl

  abbrev dpcs_in : {A : Type 0} → State A → Dpcs
  dpcs_in S = S.dpcs

  from_by : {A : Type 0} (plan : Plan) (d : Deed) (S : State A) → is_fine p d ≡ true → From p S.dpcs (do_deed plan d S).dpcs
  from_by plan (Arrive device info q) S h = from_same S.dpcs _ (arrived S device.0 info q)
  from_by plan (AskDeletion o) S h = asked_all (subtree S.tree o.0) S
  from_by plan (Requeue r q) S h = from_same S.dpcs _ (gives_up dpcs_in (λ S Q R P. refl) S r.0)
  from_by plan (Forward r q) S h = from_same S.dpcs _ (gives_up dpcs_in (λ S Q R P. refl) S r.0)
  from_by plan (GiveBack r q) S h = from_same S.dpcs _ (gives_up dpcs_in (λ S Q R P. refl) S r.0)
  from_by plan (SendRequest r t forget) S h = from_same S.dpcs _ (gives_up_if dpcs_in (λ S Q R P. refl) S forget r.0)
  from_by plan (CompleteRequest r) S h =
      let U = record (give_up S r.0) { requests = requests.complete S.requests r.0 } in
      from_then S.dpcs U.dpcs (fold ask_object U (subtree (give_up S r.0).tree r.0)).dpcs (from_same S.dpcs U.dpcs (gives_up dpcs_in (λ S Q R P. refl) S r.0)) (asked_all (subtree (give_up S r.0).tree r.0) U)
  from_by plan (PurgeQueue q) S h = from_same S.dpcs _ (withdraws dpcs_in (λ S Q R P. refl) plan q.0 (waiting_in S.queues q.0) (record S { control = control.set_mode S.control q.0 mode.Purged }))
  from_by plan (CloseReturning d) S h = from_same S.dpcs _ (returns_closed dpcs_in (λ S Q R P. refl) (managed_queues plan d.0) S)
  from_by plan (CloseDevice d) S h = from_same S.dpcs _ (queues_closed dpcs_in (λ S Q R P. refl) (queues_of plan d.0) (record S { control = control.shut S.control d.0 }))
  from_by plan (EnqueueDpc cpu o) S h = λ x e. elim (dpc_enqueued S.dpcs cpu.0 o.0 x e) [
    | inl y ↦ first (is_dpc_queued S.dpcs x) (p x) y
    | inr y ↦ second (is_dpc_queued S.dpcs x) (p x) (ap p y ∙ h)
  ]
  from_by plan (CancelDpc o) S h = λ x e. first (is_dpc_queued S.dpcs x) (p x) (dpc_cancelled S.dpcs o.0 x e).0
  from_by plan (TakeDpc cpu) S h = λ x e. first (is_dpc_queued S.dpcs x) (p x) (dpc_taken S.dpcs cpu.0 x e)
  from_by plan _ S h = from_same S.dpcs S.dpcs refl

  pub deeds_from : {A : Type 0} (plan : Plan) (ds : List Deed) (S : State A) → all_fine p ds ≡ true → From p S.dpcs (do_deeds plan ds S).dpcs
  deeds_from plan [] S h = from_same S.dpcs S.dpcs refl
  deeds_from plan (d ∷ ds) S h =
      from_then S.dpcs (do_deed plan d S).dpcs (do_deeds plan ds (do_deed plan d S)).dpcs (from_by plan d S (both_left (is_fine p d) (all_fine p ds) h))
      (deeds_from plan ds (do_deed plan d S) (both_right (is_fine p d) (all_fine p ds) h))
