-- In a free run of a resolved clean plan no fault comes that a rule is named for.
use Rattle.std.proofs.Common.{◌≡◌, ℕ, Bool, true, false, not, ◌&&◌, ◌||◌, List, Some, slice_get, refl, sym, ap, subst, ◌∙◌}
use Rattle.wdf_base.specs.Meaning.{Meaning}
use Rattle.wdf_base.specs.Places.{is_owned}
use Rattle.wdf_base.specs.Resolved.{IsResolved}
use Rattle.wdf_base.specs.Same.{same_call_kind, same_callback}
use Rattle.wdf_base.specs.declared.call.Arg.{Arg}
use Rattle.wdf_base.specs.declared.call.Call.{Call}
use Rattle.wdf_base.specs.declared.call.CallKind.TheVariants as call
use Rattle.wdf_base.specs.declared.call.Callback.TheVariants as callback
use Rattle.wdf_base.specs.declared.event.Event.{Event}
use Rattle.wdf_base.specs.declared.event.Event.TheVariants as event
use Rattle.wdf_base.specs.declared.event.Fault.{Fault}
use Rattle.wdf_base.specs.declared.event.Fault.TheVariants as fault
use Rattle.wdf_base.specs.declared.frame.Frame.{Frame}
use Rattle.wdf_base.specs.declared.frame.Intent.{Intent}
use Rattle.wdf_base.specs.declared.frame.Intent.TheVariants as intent
use Rattle.wdf_base.specs.declared.ids.Cpu.{Cpu}
use Rattle.wdf_base.specs.declared.plan.Plan.{Plan}
use Rattle.wdf_model.specs.Tables.{same_id}
use Rattle.wdf_model.specs.parts.Cpus.{frame_of}
use Rattle.wdf_model.specs.parts.Power.{acknowledged}
use Rattle.wdf_model.specs.parts.Requests.{origin_of, place_of}
use Rattle.wdf_model.specs.parts.Targets.{is_forgotten}
use Rattle.wdf_model.specs.State.{State, is_with_driver, object_in}
use Rattle.wdf_model.specs.rules.Faults.{View, call_faults, holds_of, is_handle_of, is_script_fault, is_stop_of}
use Rattle.wdf_base.specs.Values.{arg_is}
use Rattle.wdf_model.specs.rules.Script.{intent_of}
use Rattle.wdf_model.specs.rules.Steps.{view_of}
use Rattle.wdf_model.proofs.Counts.{equal}
use Rattle.wdf_model.proofs.Tests.{both, both_left}
use Rattle.wdf_lint.specs.declared.state.Abstract.{Abstract}
use Rattle.wdf_lint.specs.Walks.{IsClean}
use Rattle.wdf_model.specs.rules.Ready.{IsRunOf}
use Rattle.law_free_runs.specs.FreeRuns.{IsFreeRun}
use Rattle.law_free_runs.proofs.FreeRuns.{runs_are_free}
use Rattle.law_lint.specs.Faults.{is_of_scripts}
use Rattle.law_lint.proofs.Acknowledging.{StopCall, is_kind, stop_call}
use Rattle.law_lint.proofs.Acting.{calling, held_owned}
use Rattle.law_lint.proofs.LockFaults.{locks_are_kept}
use Rattle.law_lint.proofs.Owning.{Stopping}
use Rattle.law_lint.proofs.Sound.{Acknowledges, NotOwned, fault_at, holds_off, marks_are_kept}
use Rattle.law_lint.proofs.Stands.{FrameStands}

-- ---- a frame that acknowledges

-- its request is the driver's, and it is that request's EvtIoStop, for the first time
module _ {A : Type 0} (plan : Plan) (S : State A) (cpu f n : ℕ) (x y z : Arg) where
  abbrev seen : View
  seen = view_of plan S cpu f

  acknowledge_owned : arg_is y 0 ≡ true → is_with_driver S (object_in x) ≡ true → call_faults seen (calling call.WdfRequestStopAcknowledge n x y z) fault.NotOwned ≡ false
  acknowledge_owned keeps held = ap (λ b. not b || (not (arg_is y 0) && not (is_owned (place_of S.requests (object_in x))))) held ∙ ap (λ b. not b && not (is_owned (place_of S.requests (object_in x)))) keeps

  acknowledge_inside : is_stop_of seen (object_in x) ≡ true → acknowledged S.power (object_in x) ≡ false → call_faults seen (calling call.WdfRequestStopAcknowledge n x y z) fault.AckOutsideStop ≡ false
  acknowledge_inside inside first = ap (λ b. not b || acknowledged S.power (object_in x)) inside ∙ first

-- it is the EvtIoStop of its request
is_its_stop : {A : Type 0} (plan : Plan) (S : State A) (cpu f : ℕ) (done : Bool) (w : Stopping S.requests S.power (frame_of S.cpus f) done) → is_stop_of (view_of plan S cpu f) w.request.id.0 ≡ true
is_its_stop plan S cpu f done w =
    let frame : Frame = frame_of S.cpus f in
    let r : ℕ = w.request.id.0 in
    let one : same_callback frame.callback callback.EvtIoStop ≡ true = ap (λ c. same_callback c callback.EvtIoStop) w.calls in
    let two : is_handle_of frame.request r ≡ true = ap (λ q. is_handle_of q r) w.has ∙ equal r r refl in
    let three : same_id (origin_of S.requests r) frame.object.id.0 ≡ true = ap (λ o. same_id o frame.object.id.0) w.origin ∙ equal frame.object.id.0 frame.object.id.0 refl in
    both (same_callback frame.callback callback.EvtIoStop && is_handle_of frame.request r) (same_id (origin_of S.requests r) frame.object.id.0) (both (same_callback frame.callback callback.EvtIoStop) (is_handle_of frame.request r) one two) three

-- the two faults that an acknowledgement may have
data IsOfStops : Fault → Type 0 where
  Unowned : IsOfStops fault.NotOwned
  Outside : IsOfStops fault.AckOutsideStop

stop_off : {A : Type 0} (plan : Plan) (S : State A) (cpu f : ℕ) (a : Abstract) (c : Call) → IsResolved plan → same_call_kind c.kind call.WdfRequestStopAcknowledge ≡ true → StopCall plan S f a c → (x : Fault) → IsOfStops x → call_faults (view_of plan S cpu f) c x ≡ false
stop_off plan S cpu f a c resolved stops s x is =
    let w = s.stopping resolved in
    let at : object_in c.a ≡ w.request.id.0 = s.own w.request w.has in
    let held : is_with_driver S (object_in c.a) ≡ true = ap (is_with_driver S) at ∙ held_owned (is_forgotten S.targets w.request.id.0) (place_of S.requests w.request.id.0) w.owned in
    let inside : is_stop_of (view_of plan S cpu f) (object_in c.a) ≡ true = ap (is_stop_of (view_of plan S cpu f)) at ∙ is_its_stop plan S cpu f a.acknowledged w in
    let first : acknowledged S.power (object_in c.a) ≡ false = ap (acknowledged S.power) at ∙ w.fresh s.first in
    subst (λ k. call_faults (view_of plan S cpu f) (calling k c.count c.a c.b c.c) x ≡ false) (sym (is_kind c.kind stops)) (elim is as (λ q _. call_faults (view_of plan S cpu f) (calling call.WdfRequestStopAcknowledge c.count c.a c.b c.c) q ≡ false) [
      | Unowned ↦ acknowledge_owned plan S cpu f c.count c.a c.b c.c s.keeps held
      | Outside ↦ acknowledge_inside plan S cpu f c.count c.a c.b c.c inside first
    ])

intent_off : {A : Type 0} (plan : Plan) (S : State A) (cpu f : ℕ) (a : Abstract) → IsResolved plan → IsClean plan → FrameStands plan S f a → (i : Intent) → intent_of plan (frame_of S.cpus f) ≡ i → Acknowledges i → (x : Fault) → IsOfStops x → holds_of (view_of plan S cpu f) i x ≡ true → ⊥
intent_off plan S cpu f a resolved clean fs (intent.Do c) does stops x is h = let off = stop_off plan S cpu f a c resolved stops (stop_call plan S cpu f a c clean fs does stops) x is in let z : ⊥ = cc in z
intent_off plan S cpu f a resolved clean fs (intent.Return u) does stops x is h = stops
intent_off plan S cpu f a resolved clean fs (intent.Get r) does stops x is h = stops
intent_off plan S cpu f a resolved clean fs (intent.Put r u) does stops x is h = stops
intent_off plan S cpu f a resolved clean fs intent.Broken does stops x is h = stops
intent_off plan S cpu f a resolved clean fs (intent.Local c next) does stops x is h = stops
intent_off plan S cpu f a resolved clean fs (intent.Log u) does stops x is h = stops
intent_off plan S cpu f a resolved clean fs (intent.Spend u) does stops x is h = stops

-- ---- both come of an acknowledgement alone

of_acknowledging : (v : View) (i : Intent) → holds_of v i fault.AckOutsideStop ≡ true → Acknowledges i
of_acknowledging v (intent.Do c) h = both_left (same_call_kind c.kind call.WdfRequestStopAcknowledge) _ h
of_acknowledging v (intent.Return u) h = absurd (let z : ⊥ = cc in z)
of_acknowledging v (intent.Get r) h = absurd (let z : ⊥ = cc in z)
of_acknowledging v (intent.Put r u) h = absurd (let z : ⊥ = cc in z)
of_acknowledging v intent.Broken h = absurd (let z : ⊥ = cc in z)
of_acknowledging v (intent.Local c next) h = absurd (let z : ⊥ = cc in z)
of_acknowledging v (intent.Log u) h = absurd (let z : ⊥ = cc in z)
of_acknowledging v (intent.Spend n) h = absurd (let z : ⊥ = cc in z)

acknowledges : {A : Type 0} (plan : Plan) (S : State A) (cpu f : ℕ) (a : Abstract) → IsClean plan → FrameStands plan S f a → (i : Intent) → intent_of plan (frame_of S.cpus f) ≡ i → (x : Fault) → IsOfStops x → holds_of (view_of plan S cpu f) i x ≡ true → Acknowledges i
acknowledges plan S cpu f a clean fs i does x is h = (elim is as (λ q _. holds_of (view_of plan S cpu f) i q ≡ true → Acknowledges i) [
  | Unowned ↦ (λ g. (holds_off plan S cpu f a clean fs i does fault.NotOwned NotOwned g).0)
  | Outside ↦ (λ g. of_acknowledging (view_of plan S cpu f) i g)
]) h

no_script : (x : Fault) → IsOfStops x → is_script_fault x ≡ false
no_script x is = elim is as (λ q _. is_script_fault q ≡ false) [
  | Unowned ↦ refl
  | Outside ↦ refl
]

none_of_stops : {A : Type 0} (plan : Plan) → IsResolved plan → IsClean plan → (run : List Event) (free : IsFreeRun A plan run) (n : ℕ) (k : Cpu) (x : Fault) (line : ℕ) → slice_get run n ≡ Some (event.Fault k x line) → IsOfStops x → ⊥
none_of_stops plan resolved clean run free n k x line at is =
    let w = fault_at plan clean run free n k x line at (no_script x is) in
    let f = w.fault in
    intent_off plan (free.states n) k.0 f.acts.frame (w.standing.stands.states f.acts.frame) resolved clean w.stands f.intent f.acts.about
    (acknowledges plan (free.states n) k.0 f.acts.frame (w.standing.stands.states f.acts.frame) clean w.stands f.intent f.acts.about x is f.holds) x is f.holds

-- ---- all eight

pub scripts_are_kept : {A : Type 0} (plan : Plan) (run : List Event) (n : ℕ) (k : Cpu) (x : Fault) (line : ℕ) → IsResolved plan → IsClean plan → IsFreeRun A plan run → slice_get run n ≡ Some (event.Fault k x line) → is_of_scripts x ≡ false
scripts_are_kept plan run n k fault.NotOwned line resolved clean free at = absurd (none_of_stops plan resolved clean run free n k fault.NotOwned line at Unowned)
scripts_are_kept plan run n k fault.AckOutsideStop line resolved clean free at = absurd (none_of_stops plan resolved clean run free n k fault.AckOutsideStop line at Outside)
scripts_are_kept plan run n k fault.CompleteWhileMarked line resolved clean free at = marks_are_kept plan run n k fault.CompleteWhileMarked line clean free at
scripts_are_kept plan run n k fault.CompleteBeforeCancelCallback line resolved clean free at = marks_are_kept plan run n k fault.CompleteBeforeCancelCallback line clean free at
scripts_are_kept plan run n k fault.MarkedTwice line resolved clean free at = marks_are_kept plan run n k fault.MarkedTwice line clean free at
scripts_are_kept plan run n k fault.LockHeldAlready line resolved clean free at = locks_are_kept plan run n k fault.LockHeldAlready line resolved clean free at
scripts_are_kept plan run n k fault.LockNotHeld line resolved clean free at = locks_are_kept plan run n k fault.LockNotHeld line resolved clean free at
scripts_are_kept plan run n k fault.ReturnHoldingLock line resolved clean free at = locks_are_kept plan run n k fault.ReturnHoldingLock line resolved clean free at
scripts_are_kept plan run n k _ line resolved clean free at = refl

-- and so in a run, whatever the agents are
pub runs_keep_scripts : {A : Type 0} (plan : Plan) (m : Meaning A) (run : List Event) (n : ℕ) (k : Cpu) (x : Fault) (line : ℕ) → IsResolved plan → IsClean plan → IsRunOf plan m run → slice_get run n ≡ Some (event.Fault k x line) → is_of_scripts x ≡ false
runs_keep_scripts plan m run n k x line resolved clean is_run at = scripts_are_kept plan run n k x line resolved clean (runs_are_free plan m run is_run) at
