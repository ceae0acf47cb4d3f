-- What each event does to the modes of the queues: nothing, or it sets one, or it closes a device.
use Rattle.std.proofs.Common.{if◌then◌else◌, ◌≡◌, ℕ, ◌==◌, true, false, [], ◌∷◌, Option, Some, None, refl, ap, ◌∙◌}
use Rattle.wdf_base.specs.Meaning.{Meaning}
use Rattle.wdf_base.specs.declared.plan.Plan.{Plan}
use Rattle.wdf_base.specs.declared.ids.Cpu.{Cpu}
use Rattle.wdf_base.specs.declared.value.Value.{Value}
use Rattle.wdf_base.specs.declared.call.Arg.{Arg}
use Rattle.wdf_base.specs.declared.call.CallKind.{CallKind}
use Rattle.wdf_base.specs.declared.call.CallKind.TheVariants as call
use Rattle.wdf_base.specs.declared.event.Event.{Event}
use Rattle.wdf_base.specs.declared.event.Event.TheVariants as event
use Rattle.wdf_base.specs.declared.event.Stage.TheVariants as stage
use Rattle.wdf_base.specs.declared.event.Step.TheVariants as step
use Rattle.wdf_model.specs.declared.enums.Mode.{Mode}
use Rattle.wdf_model.specs.parts.Control.{Control, set_mode, shut}
use Rattle.wdf_model.specs.State.{State, object_in}
use Rattle.wdf_model.specs.Ids.{object_id}
use Rattle.wdf_model.specs.declared.deed.Deed.TheVariants.{AdvancePower, CloseDevice, PurgeQueue, SetMode, TakeStep}
use Rattle.wdf_model.specs.rules.Deeds.{do_deeds}
use Rattle.wdf_model.specs.rules.Calls.{outcome}
use Rattle.wdf_model.specs.rules.Steps.{deeds, may}
use Rattle.law_machine_base.proofs.OwnEvents.{did_tells, waiting_tells}
use Rattle.law_machine_deeds.specs.MayDo.{first_part, passes, purges, sets_modes}
use Rattle.law_machine_deeds.proofs.Passing.{Passes, event_passes}
use Rattle.law_machine_lives.proofs.ReasonsOfCalls.{call_of}
use Rattle.law_trace_requests.proofs.FirstParts.{did_after, waiting_after}
use Rattle.law_queue_modes.specs.Modes.{closes, mode_by, mode_given, or_before}
use Rattle.law_queue_modes.proofs.Stays.{SameModes, closed_control, control_in, deeds_modes, leaves_modes, purged_control}

-- the controls before and after an event, which says the same
pub data Moved (C D : Control) (e : Event) : Type 0 where
  -- no mode changes
  Kept : SameModes C D → ((q : ℕ) (before : Mode) → mode_by q before e ≡ before) → ((d : ℕ) → closes d e ≡ false) → Moved C D e
  -- a control call to queue p
  Set : (p : ℕ) (m : Mode) → D ≡ set_mode C p m → ((q : ℕ) (before : Mode) → mode_by q before e ≡ (if p == q then m else before)) → ((d : ℕ) → closes d e ≡ false) → Moved C D e
  -- device p is closed
  Closed : (p : ℕ) → D ≡ shut C p → ((q : ℕ) (before : Mode) → mode_by q before e ≡ before) → ((d : ℕ) → closes d e ≡ (p == d)) → Moved C D e

-- ---- events that set no mode

-- no deed of theirs sets one
quiet : (e : Event) → first_part sets_modes e ≡ false → first_part purges e ≡ false → passes stage.Closed e ≡ false → Passes leaves_modes e
quiet e sets purges_ closes_ (SetMode q m) h = absurd (let z : ⊥ = cc in z)
quiet e sets purges_ closes_ (PurgeQueue q) h = absurd (let z : ⊥ = cc in z)
quiet e sets purges_ closes_ (CloseDevice d) h = absurd (let z : ⊥ = cc in z)
quiet e sets purges_ closes_ _ h = refl

quiet_modes : {A : Type 0} (plan : Plan) (S : State A) (e : Event) → first_part sets_modes e ≡ false → first_part purges e ≡ false → passes stage.Closed e ≡ false → SameModes S.control (do_deeds plan (deeds plan S e) S).control
quiet_modes plan S e sets purges_ closes_ = deeds_modes plan (deeds plan S e) S (event_passes leaves_modes plan S e (quiet e sets purges_ closes_))

-- ---- calls

module _ {A : Type 0} (plan : Plan) (m : Meaning A) (S : State A) (cpu : Cpu) (n : ℕ) (a b x : Arg) where
  abbrev control_after : Event → Control
  control_after e = (do_deeds plan (deeds plan S e) S).control

  -- what a call of kind k does first, where it gives a mode, and where it gives none
  abbrev Does : CallKind → Option Mode → Type 0
  Does k None = (sets_modes k ≡ false) × (purges k ≡ false)
  Does k (Some mode) = (f : ℕ) → control_in (do_deeds plan (outcome plan S cpu.0 f (call_of k n a b x)).deeds S) ≡ set_mode S.control (object_in a) mode

  does : (k : CallKind) → Does k (mode_given k)
  does call.WdfIoQueueStart = λ f. refl
  does call.WdfIoQueueStop = λ f. refl
  does call.WdfIoQueueStopSynchronously = λ f. refl
  does call.WdfIoQueueDrain = λ f. refl
  does call.WdfIoQueueDrainSynchronously = λ f. refl
  does call.WdfIoQueuePurge = λ f. purged_control plan S (object_in a)
  does call.WdfIoQueuePurgeSynchronously = λ f. purged_control plan S (object_in a)
  does _ = (refl, refl)

  gives : (k : CallKind) (o : Option Mode) → mode_given k ≡ o → (q : ℕ) (before : Mode) → or_before (mode_given k) (object_in a == q) before ≡ or_before o (object_in a == q) before
  gives k o e q before = ap (λ x. or_before x (object_in a == q) before) e

  did_moves : (v : Value) (k : CallKind) (o : Option Mode) → mode_given k ≡ o → Does k o → may plan m S (event.Did cpu (call_of k n a b x) v) ≡ true
      → Moved S.control (control_after (event.Did cpu (call_of k n a b x) v)) (event.Did cpu (call_of k n a b x) v)
  did_moves v k None e d h = Kept (quiet_modes plan S (event.Did cpu (call_of k n a b x) v) d.0 d.1 refl) (gives k None e) (λ d. refl)
  did_moves v k (Some mode) e d h =
      let t = did_tells plan m S cpu (call_of k n a b x) v h in
      Set (object_in a) mode (did_after control_in (λ T L C. refl) plan S cpu.0 (call_of k n a b x) v t ∙ d t.frame) (gives k (Some mode) e) (λ d. refl)

  waiting_moves : (k : CallKind) (o : Option Mode) → mode_given k ≡ o → Does k o → may plan m S (event.Waiting cpu (call_of k n a b x)) ≡ true
      → Moved S.control (control_after (event.Waiting cpu (call_of k n a b x))) (event.Waiting cpu (call_of k n a b x))
  waiting_moves k None e d h = Kept (quiet_modes plan S (event.Waiting cpu (call_of k n a b x)) d.0 d.1 refl) (gives k None e) (λ d. refl)
  waiting_moves k (Some mode) e d h =
      let t = waiting_tells plan m S cpu (call_of k n a b x) h in
      Set (object_in a) mode (waiting_after control_in (λ T L C. refl) plan S cpu.0 (call_of k n a b x) t ∙ d t.frame) (gives k (Some mode) e) (λ d. refl)

-- ---- all events

pub moves : {A : Type 0} (plan : Plan) (m : Meaning A) (S : State A) (e : Event) → may plan m S e ≡ true → Moved S.control (do_deeds plan (deeds plan S e) S).control e
moves plan m S (event.Did cpu c v) h = did_moves plan m S cpu c.count c.a c.b c.c v c.kind (mode_given c.kind) refl (does plan m S cpu c.count c.a c.b c.c c.kind) h
moves plan m S (event.Waiting cpu c) h = waiting_moves plan m S cpu c.count c.a c.b c.c c.kind (mode_given c.kind) refl (does plan m S cpu c.count c.a c.b c.c c.kind) h
moves plan m S (event.Stage d stage.Closed i) h =
    Closed d.id.0 (closed_control plan (do_deeds plan (TakeStep (object_id d.id.0) ∷ AdvancePower (object_id d.id.0) (step.Pass stage.Closed i) ∷ []) S) d.id.0) (λ q o. refl) (λ x. refl)
moves plan m S (event.Stage d s i) h = Kept (quiet_modes plan S (event.Stage d s i) refl refl refl) (λ q o. refl) (λ x. refl)
moves plan m S e h = Kept (quiet_modes plan S e refl refl refl) (λ q o. refl) (λ x. refl)
