-- What a frame's own event says: which frame is on top, what it is about to do, and that no fault
-- is in its way.
use Rattle.std.proofs.Common.{if◌then◌else◌, ◌≡◌, ℕ, zero, suc, Bool, true, false, List, [], ◌∷◌, Option, Some, None, find, slice_get, refl, subst}
use Rattle.wdf_base.specs.Meaning.{Meaning}
use Rattle.wdf_base.specs.declared.ids.Cpu.{Cpu}
use Rattle.wdf_base.specs.declared.ids.Handle.{Handle}
use Rattle.wdf_base.specs.declared.value.Value.{Value}
use Rattle.wdf_base.specs.declared.call.Call.{Call}
use Rattle.wdf_base.specs.declared.call.Callback.{Callback}
use Rattle.wdf_base.specs.declared.plan.Plan.{Plan}
use Rattle.wdf_base.specs.declared.event.Event.{Event}
use Rattle.wdf_base.specs.declared.event.Event.TheVariants as event
use Rattle.wdf_base.specs.declared.event.Fault.{Fault}
use Rattle.wdf_base.specs.declared.event.Fault.TheVariants as fault
use Rattle.wdf_base.specs.declared.frame.Pending.{Pending}
use Rattle.wdf_base.specs.declared.frame.Intent.{Intent}
use Rattle.wdf_base.specs.declared.frame.Intent.TheVariants as intent
use Rattle.wdf_base.specs.declared.words.TheConstants.{FAULTS}
use Rattle.wdf_base.specs.Same.{same_event, same_option}
use Rattle.wdf_model.specs.Ids.{cpu_of}
use Rattle.wdf_model.specs.parts.Cpus.{frame_of, top}
use Rattle.wdf_model.specs.State.{State}
use Rattle.wdf_model.specs.rules.Script.{intent_of}
use Rattle.wdf_model.specs.rules.Faults.{View, fault_of, holds_of}
use Rattle.wdf_model.specs.rules.Calls.{is_met, outcome, is_met_then}
use Rattle.wdf_model.specs.rules.Steps.{event_of_frame, event_of_top, fault_event, intent_event, is_own_event, own_event, spends, view_of}
use Rattle.wdf_model.proofs.Sames.{did_same, end_same, waiting_same, woke_same}

-- ---- no fault

not_found_in : {T : Type 0} (p : T → Bool) (y : T) (ys : List T) (b : Bool) → p y ≡ b → (if b then Some y else find p ys) ≡ None
    → (find p ys ≡ None → (k : ℕ) (x : T) → slice_get ys k ≡ Some x → p x ≡ false) → (k : ℕ) (x : T) → slice_get (y ∷ ys) k ≡ Some x → p x ≡ false
not_found_in p y ys true e h rest k x at = absurd (let z : ⊥ = cc in z)
not_found_in p y ys false e h rest zero x at = let same : y ≡ x = cc in rw (← same) e
not_found_in p y ys false e h rest (suc k) x at = rest h k x at

pub not_found : {T : Type 0} (p : T → Bool) (xs : List T) → find p xs ≡ None → (k : ℕ) (x : T) → slice_get xs k ≡ Some x → p x ≡ false
not_found p [] h k x at = absurd (let z : ⊥ = cc in z)
not_found p (y ∷ ys) h k x at = not_found_in p y ys (p y) refl h (not_found p ys) k x at

pub no_fault : (v : View) (i : Intent) → fault_of v i ≡ None → (x : Fault) → holds_of v i x ≡ false
no_fault v i h fault.StaleHandle = not_found (holds_of v i) FAULTS h 0 fault.StaleHandle refl
no_fault v i h fault.WrongKind = not_found (holds_of v i) FAULTS h 1 fault.WrongKind refl
no_fault v i h fault.IrqlTooHigh = not_found (holds_of v i) FAULTS h 2 fault.IrqlTooHigh refl
no_fault v i h fault.NotOwned = not_found (holds_of v i) FAULTS h 3 fault.NotOwned refl
no_fault v i h fault.CompleteWhileMarked = not_found (holds_of v i) FAULTS h 4 fault.CompleteWhileMarked refl
no_fault v i h fault.CompleteBeforeCancelCallback = not_found (holds_of v i) FAULTS h 5 fault.CompleteBeforeCancelCallback refl
no_fault v i h fault.MarkedTwice = not_found (holds_of v i) FAULTS h 6 fault.MarkedTwice refl
no_fault v i h fault.AckOutsideStop = not_found (holds_of v i) FAULTS h 7 fault.AckOutsideStop refl
no_fault v i h fault.NoReferenceHeld = not_found (holds_of v i) FAULTS h 8 fault.NoReferenceHeld refl
no_fault v i h fault.DeleteNotAllowed = not_found (holds_of v i) FAULTS h 9 fault.DeleteNotAllowed refl
no_fault v i h fault.LockHeldAlready = not_found (holds_of v i) FAULTS h 10 fault.LockHeldAlready refl
no_fault v i h fault.LockNotHeld = not_found (holds_of v i) FAULTS h 11 fault.LockNotHeld refl
no_fault v i h fault.ReturnHoldingLock = not_found (holds_of v i) FAULTS h 12 fault.ReturnHoldingLock refl
no_fault v i h fault.HardwareReleased = not_found (holds_of v i) FAULTS h 13 fault.HardwareReleased refl
no_fault v i h fault.SyncInOwnScope = not_found (holds_of v i) FAULTS h 14 fault.SyncInOwnScope refl
no_fault v i h fault.ScriptError = not_found (holds_of v i) FAULTS h 15 fault.ScriptError refl

-- ---- what an own event says

-- frame f is on top of the processor, doesn't wait or spend, is about to do this, and may
pub record IsAbout {A : Type 0} (plan : Plan) (S : State A) (cpu f : ℕ) (i : Intent) : Type 0 where
  pub top : top S.cpus cpu ≡ Some f
  pub runs : spends S (frame_of S.cpus f) ≡ false
  pub idle : (frame_of S.cpus f).pending ≡ None
  pub about : intent_of plan (frame_of S.cpus f) ≡ i
  pub clean : (x : Fault) → holds_of (view_of plan S cpu f) i x ≡ false

pub record IsDid {A : Type 0} (plan : Plan) (S : State A) (cpu : ℕ) (c : Call) (v : Value) : Type 0 where
  pub frame : ℕ
  pub about : IsAbout plan S cpu frame (intent.Do c)
  pub answer : v ≡ (outcome plan S cpu frame c).answer
  pub met : is_met_then plan S c ≡ true

pub record IsWaiting {A : Type 0} (plan : Plan) (S : State A) (cpu : ℕ) (c : Call) : Type 0 where
  pub frame : ℕ
  pub about : IsAbout plan S cpu frame (intent.Do c)
  pub unmet : is_met_then plan S c ≡ false

pub record IsWoke {A : Type 0} (S : State A) (cpu : ℕ) (c : Call) (v : Value) : Type 0 where
  pub frame : ℕ
  pub top : top S.cpus cpu ≡ Some frame
  pub runs : spends S (frame_of S.cpus frame) ≡ false
  pub waits : (frame_of S.cpus frame).pending ≡ Some (record { call = c; answer = v })
  pub met : is_met S c ≡ true

pub record IsEnd {A : Type 0} (plan : Plan) (S : State A) (cpu : ℕ) (c : Callback) (o : Handle) (v : Value) : Type 0 where
  pub frame : ℕ
  pub about : IsAbout plan S cpu frame (intent.Return v)
  pub callback : c ≡ (frame_of S.cpus frame).callback
  pub object : o ≡ (frame_of S.cpus frame).object

-- of the other events nothing is told here
abbrev pub Told : {A : Type 0} → Plan → State A → ℕ → Event → Type 0
Told plan S cpu (event.Did k c v) = IsDid plan S cpu c v
Told plan S cpu (event.Waiting k c) = IsWaiting plan S cpu c
Told plan S cpu (event.Woke k c v) = IsWoke S cpu c v
Told plan S cpu (event.End k c o v) = IsEnd plan S cpu c o v
Told plan S cpu _ = Unit

told_if : {A : Type 0} (plan : Plan) (S : State A) (cpu : ℕ) (e x : Event) → Told plan S cpu x → Some x ≡ Some e → Told plan S cpu e
told_if plan S cpu e x t h = let same : x ≡ e = cc in subst (λ y. Told plan S cpu y) same t

told_by_call : {A : Type 0} (plan : Plan) (S : State A) (cpu f : ℕ) (e : Event) (c : Call) (b : Bool)
    → IsAbout plan S cpu f (intent.Do c) → is_met_then plan S c ≡ b
    → Some (if b then event.Did (cpu_of cpu) c (outcome plan S cpu f c).answer else event.Waiting (cpu_of cpu) c) ≡ Some e → Told plan S cpu e
told_by_call plan S cpu f e c true a m h =
    told_if plan S cpu e (event.Did (cpu_of cpu) c (outcome plan S cpu f c).answer) (record { frame = f; about = a; answer = refl; met = m }) h
told_by_call plan S cpu f e c false a m h =
    told_if plan S cpu e (event.Waiting (cpu_of cpu) c) (record { frame = f; about = a; unmet = m }) h

told_by_intent : {A : Type 0} (plan : Plan) (m : Meaning A) (S : State A) (cpu f : ℕ) (e : Event) (i : Intent) → IsAbout plan S cpu f i
    → Some (intent_event plan m S cpu f (frame_of S.cpus f) i) ≡ Some e → Told plan S cpu e
told_by_intent plan m S cpu f e (intent.Local change next) a h = told_if plan S cpu e _ tt h
told_by_intent plan m S cpu f e (intent.Log v) a h = told_if plan S cpu e _ tt h
told_by_intent plan m S cpu f e (intent.Spend n) a h = told_if plan S cpu e _ tt h
told_by_intent plan m S cpu f e (intent.Get k) a h = told_if plan S cpu e _ tt h
told_by_intent plan m S cpu f e (intent.Put k v) a h = told_if plan S cpu e _ tt h
told_by_intent plan m S cpu f e (intent.Do c) a h = told_by_call plan S cpu f e c (is_met_then plan S c) a refl h
told_by_intent plan m S cpu f e (intent.Return v) a h =
    told_if plan S cpu e (event.End (cpu_of cpu) (frame_of S.cpus f).callback (frame_of S.cpus f).object v) (record { frame = f; about = a; callback = refl; object = refl }) h
told_by_intent plan m S cpu f e intent.Broken a h = told_if plan S cpu e _ tt h

told_by_fault : {A : Type 0} (plan : Plan) (m : Meaning A) (S : State A) (cpu f : ℕ) (e : Event) (i : Intent) (x : Option Fault)
    → top S.cpus cpu ≡ Some f → spends S (frame_of S.cpus f) ≡ false → (frame_of S.cpus f).pending ≡ None → intent_of plan (frame_of S.cpus f) ≡ i
    → fault_of (view_of plan S cpu f) i ≡ x → Some (fault_event plan m S cpu f (frame_of S.cpus f) i x) ≡ Some e → Told plan S cpu e
told_by_fault plan m S cpu f e i (Some x) t r p about w h = told_if plan S cpu e _ tt h
told_by_fault plan m S cpu f e i None t r p about w h =
    told_by_intent plan m S cpu f e i (record { top = t; runs = r; idle = p; about = about; clean = no_fault (view_of plan S cpu f) i w }) h

told_by_waking : {A : Type 0} (plan : Plan) (S : State A) (cpu f : ℕ) (e : Event) (p : Pending) (b : Bool)
    → top S.cpus cpu ≡ Some f → spends S (frame_of S.cpus f) ≡ false → (frame_of S.cpus f).pending ≡ Some p → is_met S p.call ≡ b
    → (if b then Some (event.Woke (cpu_of cpu) p.call p.answer) else None) ≡ Some e → Told plan S cpu e
told_by_waking plan S cpu f e p true t r w m h =
    told_if plan S cpu e (event.Woke (cpu_of cpu) p.call p.answer) (record { frame = f; top = t; runs = r; waits = w; met = m }) h
told_by_waking plan S cpu f e p false t r w m h = absurd (let z : ⊥ = cc in z)

told_by_frame : {A : Type 0} (plan : Plan) (m : Meaning A) (S : State A) (cpu f : ℕ) (e : Event) (p : Option Pending)
    → top S.cpus cpu ≡ Some f → spends S (frame_of S.cpus f) ≡ false → (frame_of S.cpus f).pending ≡ p
    → event_of_frame plan m S cpu f (frame_of S.cpus f) p ≡ Some e → Told plan S cpu e
told_by_frame plan m S cpu f e (Some p) t r w h = told_by_waking plan S cpu f e p (is_met S p.call) t r w refl h
told_by_frame plan m S cpu f e None t r w h =
    told_by_fault plan m S cpu f e (intent_of plan (frame_of S.cpus f)) (fault_of (view_of plan S cpu f) (intent_of plan (frame_of S.cpus f))) t r w refl refl h

told_by_spending : {A : Type 0} (plan : Plan) (m : Meaning A) (S : State A) (cpu f : ℕ) (e : Event) (b : Bool)
    → top S.cpus cpu ≡ Some f → spends S (frame_of S.cpus f) ≡ b
    → (if b then None else event_of_frame plan m S cpu f (frame_of S.cpus f) (frame_of S.cpus f).pending) ≡ Some e → Told plan S cpu e
told_by_spending plan m S cpu f e true t r h = absurd (let z : ⊥ = cc in z)
told_by_spending plan m S cpu f e false t r h = told_by_frame plan m S cpu f e (frame_of S.cpus f).pending t r refl h

told_by_top : {A : Type 0} (plan : Plan) (m : Meaning A) (S : State A) (cpu : ℕ) (e : Event) (there : Option ℕ) → top S.cpus cpu ≡ there
    → event_of_top plan m S cpu there ≡ Some e → Told plan S cpu e
told_by_top plan m S cpu e None t h = absurd (let z : ⊥ = cc in z)
told_by_top plan m S cpu e (Some f) t h = told_by_spending plan m S cpu f e (spends S (frame_of S.cpus f)) t refl h

pub told : {A : Type 0} (plan : Plan) (m : Meaning A) (S : State A) (cpu : ℕ) (e : Event) → own_event plan m S cpu ≡ Some e → Told plan S cpu e
told plan m S cpu e h = told_by_top plan m S cpu e (top S.cpus cpu) refl h

-- ---- the events that May allows

some_same : (found : Option Event) (e : Event) → same_option same_event found (Some e) ≡ true → (x : Event) × (found ≡ Some x) × (same_event x e ≡ true)
some_same None e h = absurd (let z : ⊥ = cc in z)
some_same (Some x) e h = (x, refl, h)

pub did_tells : {A : Type 0} (plan : Plan) (m : Meaning A) (S : State A) (k : Cpu) (c : Call) (v : Value)
    → is_own_event plan m S k (event.Did k c v) ≡ true → IsDid plan S k.0 c v
did_tells plan m S k c v h =
    let found : (x : Event) × (own_event plan m S k.0 ≡ Some x) × (same_event x (event.Did k c v) ≡ true) = some_same (own_event plan m S k.0) (event.Did k c v) h in
    subst (λ e. Told plan S k.0 e) (did_same found.0 k c v found.2) (told plan m S k.0 found.0 found.1)

pub waiting_tells : {A : Type 0} (plan : Plan) (m : Meaning A) (S : State A) (k : Cpu) (c : Call)
    → is_own_event plan m S k (event.Waiting k c) ≡ true → IsWaiting plan S k.0 c
waiting_tells plan m S k c h =
    let found : (x : Event) × (own_event plan m S k.0 ≡ Some x) × (same_event x (event.Waiting k c) ≡ true) = some_same (own_event plan m S k.0) (event.Waiting k c) h in
    subst (λ e. Told plan S k.0 e) (waiting_same found.0 k c found.2) (told plan m S k.0 found.0 found.1)

pub woke_tells : {A : Type 0} (plan : Plan) (m : Meaning A) (S : State A) (k : Cpu) (c : Call) (v : Value)
    → is_own_event plan m S k (event.Woke k c v) ≡ true → IsWoke S k.0 c v
woke_tells plan m S k c v h =
    let found : (x : Event) × (own_event plan m S k.0 ≡ Some x) × (same_event x (event.Woke k c v) ≡ true) = some_same (own_event plan m S k.0) (event.Woke k c v) h in
    subst (λ e. Told plan S k.0 e) (woke_same found.0 k c v found.2) (told plan m S k.0 found.0 found.1)

pub end_tells : {A : Type 0} (plan : Plan) (m : Meaning A) (S : State A) (k : Cpu) (c : Callback) (o : Handle) (v : Value)
    → is_own_event plan m S k (event.End k c o v) ≡ true → IsEnd plan S k.0 c o v
end_tells plan m S k c o v h =
    let found : (x : Event) × (own_event plan m S k.0 ≡ Some x) × (same_event x (event.End k c o v) ≡ true) = some_same (own_event plan m S k.0) (event.End k c o v) h in
    subst (λ e. Told plan S k.0 e) (end_same found.0 k c o v found.2) (told plan m S k.0 found.0 found.1)
