-- Of each EvtIoStop that may acknowledge its request: what an event leaves of what power knows of that; and it is alone on its queue.
use Rattle.std.proofs.Common.{◌≡◌, ℕ, ◌<◌, ◌≤◌, Bool, true, false, Some, length, refl, sym, ap, subst, ◌∙◌}
use Rattle.wdf_base.specs.Callbacks.{row_of}
use Rattle.wdf_base.specs.Lives.{is_gone}
use Rattle.wdf_base.specs.Plan.{declared_of}
use Rattle.wdf_base.specs.declared.declared.Declared.TheVariants as declared
use Rattle.wdf_base.specs.declared.declared.QueueInfo.{QueueInfo}
use Rattle.wdf_base.specs.declared.declared.Scope.{Scope}
use Rattle.wdf_base.specs.declared.declared.Scope.TheVariants as scope
use Rattle.wdf_base.specs.declared.event.Event.{Event}
use Rattle.wdf_base.specs.declared.ids.Handle.{Handle}
use Rattle.wdf_base.specs.declared.object.LockRef.{LockRef}
use Rattle.wdf_base.specs.declared.object.LockRef.TheVariants as lock
use Rattle.wdf_base.specs.declared.plan.Plan.{Plan}
use Rattle.wdf_base.specs.declared.rank.CallbackLock.{CallbackLock}
use Rattle.wdf_base.specs.declared.rank.CallbackLock.TheVariants as callback_lock
use Rattle.wdf_model.specs.parts.Cpus.{frame_of}
use Rattle.wdf_model.specs.parts.Locks.{lock_of_callback, own_lock, scope_needed}
use Rattle.wdf_model.specs.parts.Power.{Power}
use Rattle.wdf_model.specs.parts.Requests.{request_of}
use Rattle.wdf_model.specs.parts.Tree.{life_of, made_as, node_of}
use Rattle.wdf_model.specs.Plans.{scope_lock, scope_lock_of_queue}
use Rattle.wdf_model.specs.State.{State, declared_in}
use Rattle.wdf_model.specs.rules.Deeds.{do_deeds}
use Rattle.wdf_model.specs.rules.Steps.{deeds}
use Rattle.wdf_model.proofs.FrameCounts.{on}
use Rattle.law_machine_base.specs.Fits.{all_fit}
use Rattle.law_machine_deeds.specs.MayDo.{is_stage}
use Rattle.law_machine_lives.proofs.Sound.{lock_of_frame}
use Rattle.law_free_runs.proofs.FreeStates.{FreeState}
use Rattle.law_free_stops.proofs.Alone.{one_frame}
use Rattle.wdf_lint.specs.declared.state.Abstract.{Abstract}
use Rattle.wdf_lint.specs.Steps.{is_scoped}
use Rattle.law_lint.proofs.Began.{Scoped}
use Rattle.law_lint.proofs.Flags.{FlagsKept}
use Rattle.law_lint.proofs.Others.{Places, is_owners_event}
use Rattle.law_lint.proofs.Owning.{Calms, Guarded, Stopping, has_origin}
use Rattle.law_lint.proofs.Resting.{event_flags}
use Rattle.law_lint.proofs.Stands.{FrameStands, Stands}

-- ---- flags

one_handle : {r q : Handle} → Some r ≡ Some q → r ≡ q
one_handle {r} {q} e = cc

-- what is so of the request that it is for
pub calms_by : {A : Type 0} (plan : Plan) (S : State A) (O : Power) (g : ℕ) (a : Abstract) (fresh : Bool) → FrameStands plan S g a
    → (Guarded plan (frame_of S.cpus g).script → (s : Stopping S.requests S.power (frame_of S.cpus g) a.acknowledged) → s.request.id.0 < length S.requests.all → FlagsKept fresh S.power O s.request.id.0)
    → Calms plan (frame_of S.cpus g) a fresh S.power O
calms_by plan S O g a fresh fs keeps r has guard is =
    let s = fs.own.stopping guard is in
    subst (λ (q : Handle). FlagsKept fresh S.power O q.id.0) (one_handle (sym s.has ∙ has)) (keeps guard s (fs.grips s.request s.has).1)

-- an event that is no owner's, and no stage
pub event_calms : {A : Type 0} (plan : Plan) (S : State A) (e : Event) (st : Stands plan S) → is_owners_event e ≡ false → is_stage e ≡ false → all_fit plan (deeds plan S e) S ≡ true → Places S
    → (g : ℕ) → 1 ≤ on S.cpus g → Calms plan (frame_of S.cpus g) (st.states g) true S.power (do_deeds plan (deeds plan S e) S).power
event_calms plan S e st off n f k g more =
    calms_by plan S (do_deeds plan (deeds plan S e) S).power g (st.states g) true (st.stands g more)
    (λ guard s old. event_flags plan S e s.request.id.0 off n f k old s.owned (has_origin (request_of S.requests s.request.id.0).info.origin (frame_of S.cpus g).object.id.0 s.origin))

-- ---- one callback of a queue with a scope

scope_some : (o : ℕ) (q : QueueInfo) (s : Scope) → is_scoped s ≡ true → (l : LockRef) × (scope_lock_of_queue o q s ≡ Some l)
scope_some o q scope.PerDevice h = (lock.DeviceScope q.device, refl)
scope_some o q scope.PerQueue h = (lock.QueueScope (record { 0 = o }), refl)
scope_some o q scope.Unscoped h = absurd (let z : ⊥ = cc in z)

queue_locked : {A : Type 0} (plan : Plan) (S : State A) → FreeState plan S → (f o : ℕ) (q : QueueInfo) → 1 ≤ on S.cpus f → (frame_of S.cpus f).object.id.0 ≡ o → declared_of plan o ≡ Some (declared.Queue q) → (row_of (frame_of S.cpus f).callback).lock ≡ callback_lock.QueueLock
    → lock_of_frame plan S f ≡ scope_lock_of_queue o q q.scope
queue_locked plan S free f o q there at is takes =
    let up : is_gone (life_of S.tree o) ≡ false = ap (λ x. is_gone (life_of S.tree x)) (sym at) ∙ free.framing.there f there in
    let now : declared_in plan S o ≡ Some (declared.Queue q) = ap (made_as plan (node_of S.tree o) o) (free.family.declared o (declared.Queue q) is up).1 ∙ is in
    ap (λ x. lock_of_callback plan (frame_of S.cpus f).callback x (declared_in plan S x)) at
    ∙ ap (λ (x : CallbackLock). own_lock x o (scope_needed plan x o (declared_in plan S o))) takes ∙ ap (scope_lock o) now

-- two frames of it are one
pub one_on_queue : {A : Type 0} (plan : Plan) (S : State A) → FreeState plan S → (f g : ℕ) → 1 ≤ on S.cpus f → 1 ≤ on S.cpus g → Scoped plan (frame_of S.cpus f).object.id.0
    → (row_of (frame_of S.cpus f).callback).lock ≡ callback_lock.QueueLock → (row_of (frame_of S.cpus g).callback).lock ≡ callback_lock.QueueLock
    → (frame_of S.cpus g).object.id.0 ≡ (frame_of S.cpus f).object.id.0 → f ≡ g
one_on_queue plan S free f g f_there g_there k f_takes g_takes same =
    let o : ℕ = (frame_of S.cpus f).object.id.0 in
    let l = scope_some o k.queue k.queue.scope k.scoped in
    one_frame plan S free f g l.0 f_there g_there
    (queue_locked plan S free f o k.queue f_there refl k.there f_takes ∙ l.1)
    (queue_locked plan S free g o k.queue g_there same k.there g_takes ∙ l.1)
