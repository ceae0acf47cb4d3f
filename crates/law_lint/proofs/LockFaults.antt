-- In a free run of a resolved clean plan no frame acquires a lock that it holds, gives back one that it didn't acquire, or
-- ends with one.
use Rattle.std.proofs.Common.{if◌then◌else◌, ◌≡◌, ℕ, ◌==◌, Bool, true, false, not, ◌&&◌, ◌||◌, List, ◌∷◌, [], ◌⊎◌, inl, inr, Option, Some, None, find, option_map, slice_get, refl, sym, ap, subst, ◌∙◌}
use Rattle.std.specs.List.{list_any}
use Rattle.std.proofs.lemmas.Bool.{eqb-true}
use Rattle.wdf_base.specs.Resolved.{IsResolved}
use Rattle.wdf_base.specs.declared.plan.Plan.{Plan}
use Rattle.wdf_base.specs.declared.ids.Cpu.{Cpu}
use Rattle.wdf_base.specs.declared.call.Call.{Call}
use Rattle.wdf_base.specs.declared.call.CallKind.{CallKind}
use Rattle.wdf_base.specs.declared.call.CallKind.TheVariants as call
use Rattle.wdf_base.specs.declared.call.Callback.{Callback}
use Rattle.wdf_base.specs.declared.call.Callback.TheVariants as callback
use Rattle.wdf_base.specs.declared.declared.Declared.{Declared}
use Rattle.wdf_base.specs.declared.event.Event.{Event}
use Rattle.wdf_base.specs.declared.event.Event.TheVariants as event
use Rattle.wdf_base.specs.declared.event.Fault.{Fault}
use Rattle.wdf_base.specs.declared.event.Fault.TheVariants as fault
use Rattle.wdf_base.specs.declared.frame.Frame.{Frame}
use Rattle.wdf_base.specs.declared.frame.Intent.{Intent}
use Rattle.wdf_base.specs.declared.frame.Intent.TheVariants as intent
use Rattle.wdf_base.specs.declared.rank.CallbackLock.{CallbackLock}
use Rattle.wdf_base.specs.declared.rank.CallbackLock.TheVariants as callback_lock
use Rattle.wdf_base.specs.Callbacks.{row_of, takes_interrupt_lock}
use Rattle.wdf_base.specs.Same.{same_lock}
use Rattle.wdf_model.specs.declared.entries.Held.{Held}
use Rattle.wdf_model.specs.Tables.{contains}
use Rattle.wdf_model.specs.Plans.{scope_lock, serial_lock, scope_lock_of_device, scope_lock_of_queue}
use Rattle.wdf_model.specs.parts.Cpus.{frame_of}
use Rattle.wdf_model.specs.parts.Locks.{holder, object_lock, own_lock, parent_lock, scope_needed}
use Rattle.wdf_model.specs.State.{State, declared_in, object_in}
use Rattle.wdf_model.specs.rules.Faults.{View, call_faults, fault_of, holds_lock, holds_of, is_fault_of_access, is_fault_of_return, is_script_fault}
use Rattle.wdf_model.specs.rules.Script.{intent_of, statement_at}
use Rattle.wdf_model.specs.rules.Steps.{view_of}
use Rattle.wdf_model.proofs.Counts.{equal}
use Rattle.wdf_model.proofs.Tests.{both, both_left, both_right, not_true}
use Rattle.law_machine_lives.proofs.Framing.{IsHeld}
use Rattle.law_machine_lives.proofs.Lists.{Each}
use Rattle.wdf_model.proofs.Sames.{one_lock}
use Rattle.law_machine_lives.proofs.Sound.{lock_of_frame}
use Rattle.law_machine_lives.proofs.Leveled.{is_interrupt_lock}
use Rattle.wdf_lint.specs.declared.state.Abstract.{Abstract}
use Rattle.wdf_lint.specs.declared.state.HeldLock.{HeldLock}
use Rattle.wdf_lint.specs.declared.state.HeldLock.TheVariants as lock
use Rattle.wdf_lint.specs.Abstracts.{callback_of, id_of, owner_of}
use Rattle.wdf_lint.specs.Steps.{interrupt_in, is_free, is_in, is_of_interrupt, is_own_lock, node_of, rule_of_acquiring, rule_of_acquiring_at, rule_of_call, rule_of_releasing, rule_of_releasing_at, variable_in}
use Rattle.wdf_lint.specs.Walks.{IsClean}
use Rattle.law_free_runs.specs.FreeRuns.{IsFreeRun}
use Rattle.law_free_runs.proofs.FreeStates.{FreeState}
use Rattle.law_lint.proofs.Dids.{call_names}
use Rattle.law_lint.proofs.Faults.{Calls, calls, rule_off}
use Rattle.law_lint.proofs.Holdings.{HasLock}
use Rattle.law_lint.proofs.HeldAs.{HasPlain, is_interrupt, none_of_interrupt, none_plain, object_at, HasIn}
use Rattle.law_lint.proofs.Locking.{Names, of_kind}
use Rattle.law_lint.proofs.Sound.{fault_at, returns_free}
use Rattle.law_lint.proofs.Stands.{FrameStands}
use Rattle.law_lint.proofs.Weights.{free_weight, given_by, kept_by}
use Rattle.wdf_base.specs.declared.declared.ClassInfo.{ClassInfo}
use Rattle.wdf_base.specs.declared.script.ExprNode.{ExprNode}
use Rattle.wdf_base.specs.declared.declared.QueueInfo.{QueueInfo}
use Rattle.wdf_base.specs.declared.declared.ClassInfo.TheVariants as class
use Rattle.wdf_base.specs.declared.declared.Declared.TheVariants as declared
use Rattle.wdf_base.specs.declared.declared.Scope.TheVariants as scope
use Rattle.wdf_base.specs.declared.object.LockRef.{LockRef}
use Rattle.wdf_base.specs.declared.object.LockRef.TheVariants as lock_of
use Rattle.wdf_base.specs.declared.declared.Scope.{Scope}
use Rattle.wdf_base.specs.Plan.{declared_of}
use Rattle.wdf_base.specs.Calls.{is_acquire, is_release}
use Rattle.law_machine_counts.proofs.StepTable.{top_is}

-- ---- the first fault of a call

first_of : (b : Bool) (y x : Fault) (rest : Option Fault) → (y ≡ x → ⊥) → (if b then Some y else rest) ≡ Some x → (b ≡ false) × (rest ≡ Some x)
first_of true y x rest n h = absurd (n (let same : y ≡ x = cc in same))
first_of false y x rest n h = (refl, h)

-- the handles of a call on a lock are good where another fault comes first
good_first : (v : View) (i : Intent) (x : Fault) → (fault.StaleHandle ≡ x → ⊥) → (fault.WrongKind ≡ x → ⊥) → fault_of v i ≡ Some x → (holds_of v i fault.StaleHandle ≡ false) × (holds_of v i fault.WrongKind ≡ false)
good_first v i x a b h =
    let one = first_of (holds_of v i fault.StaleHandle) fault.StaleHandle x _ a h in
    (one.0, (first_of (holds_of v i fault.WrongKind) fault.WrongKind x _ b one.1).0)

-- ---- who holds a lock

-- one that is found is the frame's, by a call of it or since its start
abbrev HeldIn : (Held → Type 0) → (Held → Bool) → List Held → ℕ → Type 0
HeldIn P p hs f = (h : Held) × (p h ≡ true) × (h.frame.0 ≡ f) × P h × ((list_any (λ x. p x && x.frame.0 == f && x.by_call) hs ≡ true) ⊎ (h.by_call ≡ false))

held_in : (P : Held → Type 0) (p : Held → Bool) (hs : List Held) (f : ℕ) → Each P hs → option_map (λ (h : Held). h.frame.0) (find p hs) ≡ Some f → HeldIn P p hs f
held_in P p [] f each e = absurd (let z : ⊥ = cc in z)
held_in P p (h ∷ hs) f each e = by (p h) refl e (λ k. held_in P p hs f each.1 k)
  where
    here : p h ≡ true → h.frame.0 ≡ f → (b : Bool) → h.by_call ≡ b → (list_any (λ x. p x && x.frame.0 == f && x.by_call) (h ∷ hs) ≡ true) ⊎ (h.by_call ≡ false)
    here passes at true called = inl (rw (passes, equal h.frame.0 f at, called) refl)
    here passes at false called = inr called

    later_so : (b : Bool) → (list_any (λ x. p x && x.frame.0 == f && x.by_call) hs ≡ true) → (b || list_any (λ x. p x && x.frame.0 == f && x.by_call) hs) ≡ true
    later_so true r = refl
    later_so false r = r

    by : (b : Bool) → p h ≡ b → option_map (λ (x : Held). x.frame.0) (if b then Some h else find p hs) ≡ Some f → (option_map (λ (x : Held). x.frame.0) (find p hs) ≡ Some f → HeldIn P p hs f) → HeldIn P p (h ∷ hs) f
    by true passes k rest = let at : h.frame.0 ≡ f = cc in (h, passes, at, each.0, here passes at h.by_call refl)
    by false passes k rest =
        let r = rest k in (
          r.0,
          r.1,
          r.2,
          r.3,
          elim r.4 [
            | inl called ↦ inl (later_so (p h && h.frame.0 == f && h.by_call) called)
            | inr off ↦ inr off
          ],
        )

-- the lock of an object is no scope's
scope_other : (plan : Plan) (id : ℕ) (d : Option Declared) (x : ℕ) → scope_lock id d ≡ Some (object_lock x) → ⊥
scope_other plan id d x h = by_scope d h
  where
    by_device : (s : Scope) → scope_lock_of_device id s ≡ Some (object_lock x) → ⊥
    by_device scope.PerDevice h = let z : ⊥ = cc in z
    by_device scope.PerQueue h = let z : ⊥ = cc in z
    by_device scope.Unscoped h = let z : ⊥ = cc in z

    by_queue : (q : QueueInfo) (s : Scope) → scope_lock_of_queue id q s ≡ Some (object_lock x) → ⊥
    by_queue q scope.PerDevice h = let z : ⊥ = cc in z
    by_queue q scope.PerQueue h = let z : ⊥ = cc in z
    by_queue q scope.Unscoped h = let z : ⊥ = cc in z

    by_scope : (d : Option Declared) → scope_lock id d ≡ Some (object_lock x) → ⊥
    by_scope None h = let z : ⊥ = cc in z
    by_scope (Some declared.Driver) h = let z : ⊥ = cc in z
    by_scope (Some (declared.Device d)) h = by_device d.scope h
    by_scope (Some (declared.Queue q)) h = by_queue q q.scope h
    by_scope (Some (declared.Interrupt i)) h = let z : ⊥ = cc in z
    by_scope (Some (declared.Target t)) h = let z : ⊥ = cc in z
    by_scope (Some (declared.OfClass c)) h = let z : ⊥ = cc in z

serial_other : (plan : Plan) (o : Option ClassInfo) (x : ℕ) → serial_lock plan o ≡ Some (object_lock x) → ⊥
serial_other plan None x h = let z : ⊥ = cc in z
serial_other plan (Some (class.Plain n k)) x h = let z : ⊥ = cc in z
serial_other plan (Some (class.Deferred n k parent true p)) x h = scope_other plan parent.0 (declared_of plan parent.0) x h
serial_other plan (Some (class.Deferred n k parent false p)) x h = let z : ⊥ = cc in z

parent_other : (plan : Plan) (d : Option Declared) (x : ℕ) → parent_lock plan d ≡ Some (object_lock x) → ⊥
parent_other plan None x h = let z : ⊥ = cc in z
parent_other plan (Some (declared.OfClass c)) x h = serial_other plan (slice_get plan.classes c) x h
parent_other plan (Some declared.Driver) x h = let z : ⊥ = cc in z
parent_other plan (Some (declared.Device d)) x h = let z : ⊥ = cc in z
parent_other plan (Some (declared.Queue d)) x h = let z : ⊥ = cc in z
parent_other plan (Some (declared.Interrupt d)) x h = let z : ⊥ = cc in z
parent_other plan (Some (declared.Target d)) x h = let z : ⊥ = cc in z

-- the object of an object's lock
abbrev object_of : Option LockRef → ℕ
object_of (Some (lock_of.Object i)) = i.0
object_of _ = 0

-- a callback whose own lock is an object's is one of that interrupt
own_of : (plan : Plan) (k : CallbackLock) (o x : ℕ) (d : Option Declared) → own_lock k o (scope_needed plan k o d) ≡ Some (object_lock x) → (is_interrupt_lock k ≡ true) × (o ≡ x)
own_of plan callback_lock.InterruptLock o x d h = (refl, ap object_of h)
own_of plan callback_lock.NoLock o x d h = absurd (let z : ⊥ = cc in z)
own_of plan callback_lock.ParentScope o x d h = absurd (parent_other plan d x h)
own_of plan callback_lock.QueueLock o x d h = absurd (scope_other plan o d x h)

takes_it : (c : Callback) → is_interrupt_lock (row_of c).lock ≡ true → (takes_interrupt_lock c ≡ true) × (is_of_interrupt (row_of c).owner ≡ true)
takes_it callback.EvtInterruptIsr h = (refl, refl)
takes_it callback.EvtInterruptEnable h = (refl, refl)
takes_it callback.EvtInterruptDisable h = (refl, refl)
takes_it _ h = absurd (let z : ⊥ = cc in z)

-- ---- a frame of a clean plan

rule_some : (o : Option ℕ) (a : Abstract) → rule_of_releasing a o ≡ None → (v : ℕ) × (o ≡ Some v) × (is_in a.lock v ≡ true)
rule_some None a h = absurd (let z : ⊥ = cc in z)
rule_some (Some v) a h = (v, refl, given_by (is_in a.lock v) h)

rule_some_at : (o : Option ℕ) (a : Abstract) → rule_of_releasing_at a o ≡ None → (i : ℕ) × (o ≡ Some i) × (contains i a.interrupts ≡ true)
rule_some_at None a h = absurd (let z : ⊥ = cc in z)
rule_some_at (Some i) a h = (i, refl, given_by (contains i a.interrupts) h)

is_in_same : (l : HeldLock) (v : ℕ) → is_in l v ≡ true → l ≡ lock.In v
is_in_same (lock.In w) v h = ap lock.In (eqb-true w v h)
is_in_same lock.Free v h = absurd (let z : ⊥ = cc in z)
is_in_same lock.Lost v h = absurd (let z : ⊥ = cc in z)

rule_free : (o : Option ℕ) (a : Abstract) → rule_of_acquiring a o ≡ None → is_free a.lock ≡ true
rule_free None a h = absurd (let z : ⊥ = cc in z)
rule_free (Some v) a h = kept_by (is_free a.lock) h

rule_free_at : (plan : Plan) (k : ℕ) (o : Option ℕ) (a : Abstract) → rule_of_acquiring_at plan k a o ≡ None → (i : ℕ) × (o ≡ Some i) × (contains i a.interrupts ≡ false) × (is_own_lock plan k i ≡ false)
rule_free_at plan k None a h = absurd (let z : ⊥ = cc in z)
rule_free_at plan k (Some i) a h =
    let all = kept_by (not (contains i a.interrupts) && not (is_own_lock plan k i)) h in
    (i, refl, not_true (contains i a.interrupts) (both_left (not (contains i a.interrupts)) (not (is_own_lock plan k i)) all), not_true (is_own_lock plan k i) (both_right (not (contains i a.interrupts)) (not (is_own_lock plan k i)) all))

module _ {A : Type 0} (plan : Plan) (S : State A) (cpu f : ℕ) (a : Abstract) (resolved : IsResolved plan) (clean : IsClean plan) (free : FreeState plan S) (fs : FrameStands plan S f a) where
  abbrev frame : Frame
  frame = frame_of S.cpus f

  abbrev sees : View
  sees = view_of plan S cpu f

  -- what it gives back it has
  plain_has : (x : ℕ) (px : Option ExprNode) → rule_of_releasing a (variable_in px) ≡ None → ((v : ℕ) → variable_in px ≡ Some v → x ≡ object_at frame.variables v) → HasLock S.locks f x
  plain_has x px rule says =
      let r = rule_some (variable_in px) a rule in
      let at : a.lock ≡ lock.In r.0 = is_in_same a.lock r.0 r.2 in
      let has : HasPlain plan S.locks f (object_at frame.variables r.0) = subst (HasIn plan S.locks f frame.variables) at (fs.locks.plain resolved) in
      subst (HasLock S.locks f) (sym (says r.0 r.1)) has.has

  interrupt_has : (x : ℕ) (px : Option ExprNode) → rule_of_releasing_at a (interrupt_in plan frame.script px) ≡ None → ((i : ℕ) → interrupt_in plan frame.script px ≡ Some i → x ≡ i) → HasLock S.locks f x
  interrupt_has x px rule says =
      let r = rule_some_at (interrupt_in plan frame.script px) a rule in
      subst (HasLock S.locks f) (sym (says r.0 r.1)) (fs.locks.interrupts resolved r.0 r.2).0

  -- a release is of a lock that it has
  released : (k : CallKind) (x : ℕ) (px py : Option ExprNode) → rule_of_call plan frame.script a k px py ≡ None → Names plan frame k x px → is_release k ≡ true → HasLock S.locks f x
  released call.WdfSpinLockRelease x px py rule says is = plain_has x px rule says.variable
  released call.WdfWaitLockRelease x px py rule says is = plain_has x px rule says.variable
  released call.WdfInterruptReleaseLock x px py rule says is = interrupt_has x px rule (says.interrupt resolved)
  released _ x px py rule says is = absurd (let z : ⊥ = cc in z)

  -- its callback's own lock is that of an interrupt
  own_lock_of : (x : ℕ) → lock_of_frame plan S f ≡ Some (object_lock x) → (is_interrupt plan x ≡ true) × (is_own_lock plan frame.script x ≡ true)
  own_lock_of x e =
      let o = own_of plan (row_of frame.callback).lock frame.object.id.0 x (declared_in plan S frame.object.id.0) e in
      let t = takes_it frame.callback o.0 in
      let b = fs.began.interrupt resolved t.1 in
      let id : id_of plan (owner_of plan frame.script) ≡ x = sym b.0 ∙ o.1 in (
        subst (λ y. is_interrupt plan y ≡ true) o.1 b.1,
        both (takes_interrupt_lock (callback_of plan frame.script)) (id_of plan (owner_of plan frame.script) == x) (ap takes_interrupt_lock fs.began.callback ∙ t.0) (equal (id_of plan (owner_of plan frame.script)) x id),
      )

  -- where it is the holder, it has the lock by a call or since its start
  holder_of : (x : ℕ) → holds_lock sees (object_lock x) ≡ true → HasLock S.locks f x ⊎ (lock_of_frame plan S f ≡ Some (object_lock x))
  holder_of x h =
      let r = held_in (IsHeld plan S) (λ y. same_lock y.lock (object_lock x)) S.locks.held f free.framing.held (top_is (holder S.locks (object_lock x)) f h) in
      elim r.4 [
        | inl called ↦ inl called
        | inr start ↦ inr (subst (λ y. lock_of_frame plan S y ≡ Some (object_lock x)) r.2 (r.3.1 start ∙ ap Some (one_lock r.0.lock (object_lock x) r.1)))
      ]

  spin_free : (x : ℕ) (px : Option ExprNode) → rule_of_acquiring a (variable_in px) ≡ None → is_interrupt plan x ≡ false → holds_lock sees (object_lock x) ≡ true → ⊥
  spin_free x px rule off h = elim (holder_of x h) [
    | inl has ↦ none_plain plan resolved S.locks f x frame.variables a fs.locks (free_weight a.lock (rule_free (variable_in px) a rule)) off has
    | inr own ↦ let on = (own_lock_of x own).0 in let z : ⊥ = cc in z
  ]

  interrupt_free : (x : ℕ) (px : Option ExprNode) → rule_of_acquiring_at plan frame.script a (interrupt_in plan frame.script px) ≡ None → ((i : ℕ) → interrupt_in plan frame.script px ≡ Some i → x ≡ i) → is_interrupt plan x ≡ true → holds_lock sees (object_lock x) ≡ true → ⊥
  interrupt_free x px rule says on h =
      let r = rule_free_at plan frame.script (interrupt_in plan frame.script px) a rule in
      let same : x ≡ r.0 = says r.0 r.1 in
      elim (holder_of x h) [
        | inl has ↦ none_of_interrupt plan resolved S.locks f x frame.variables a fs.locks (subst (λ y. contains y a.interrupts ≡ false) (sym same) r.2) on has
        | inr own ↦ let is = (own_lock_of x own).1 in let off : is_own_lock plan frame.script x ≡ false = subst (λ y. is_own_lock plan frame.script y ≡ false) (sym same) r.3 in let z : ⊥ = cc in z
      ]

  -- what it acquires it doesn't hold
  acquired_free : (k : CallKind) (x : ℕ) (px py : Option ExprNode) → rule_of_call plan frame.script a k px py ≡ None → Names plan frame k x px → is_acquire k ≡ true → holds_lock sees (object_lock x) ≡ true → ⊥
  acquired_free call.WdfSpinLockAcquire x px py rule says is h = spin_free x px rule (says.kind.plain refl) h
  acquired_free call.WdfWaitLockAcquire x px py rule says is h = spin_free x px rule (says.kind.plain refl) h
  acquired_free call.WdfInterruptAcquireLock x px py rule says is h = interrupt_free x px rule (says.interrupt resolved) (says.kind.interrupt refl) h
  acquired_free _ x px py rule says is h = absurd (let z : ⊥ = cc in z)

  -- the rule of its call, and what the call names
  module _ (c : Call) (does : intent_of plan frame ≡ intent.Do c) (stale : call_faults sees c fault.StaleHandle ≡ false) (wrong : call_faults sees c fault.WrongKind ≡ false) where
    abbrev says_of : Calls plan frame (statement_at plan frame) c
    says_of = calls plan frame c does

    rule_of : rule_of_call plan frame.script a c.kind (node_of plan says_of.x) (node_of plan says_of.y) ≡ None
    rule_of = subst (λ q. rule_of_call plan frame.script a q (node_of plan says_of.x) (node_of plan says_of.y) ≡ None) (sym (ap (λ (q : Call). q.kind) says_of.call)) (rule_off plan S cpu f a clean fs c says_of)

    named : Names plan frame c.kind (object_in c.a) (node_of plan says_of.x)
    named = call_names plan frame c says_of fs.began (of_kind plan S free cpu f c stale wrong)

    pub not_twice : call_faults sees c fault.LockHeldAlready ≡ true → ⊥
    not_twice h = acquired_free c.kind (object_in c.a) (node_of plan says_of.x) (node_of plan says_of.y) rule_of named (both_left (is_acquire c.kind) (holds_lock sees (object_lock (object_in c.a))) h) (both_right (is_acquire c.kind) (holds_lock sees (object_lock (object_in c.a))) h)

    pub not_unheld : call_faults sees c fault.LockNotHeld ≡ true → ⊥
    not_unheld h =
        let has : HasLock S.locks f (object_in c.a) = released c.kind (object_in c.a) (node_of plan says_of.x) (node_of plan says_of.y) rule_of named (both_left (is_release c.kind) (not (sees.by_call (object_lock (object_in c.a)))) h) in
        let off : not (sees.by_call (object_lock (object_in c.a))) ≡ false = ap not has in
        let on = both_right (is_release c.kind) (not (sees.by_call (object_lock (object_in c.a)))) h in
        let z : ⊥ = cc in z

-- ---- a fault of a free run

-- a fault of a call on a lock
pub data IsOfCalls : Fault → Type 0 where
  Twice : IsOfCalls fault.LockHeldAlready
  Unheld : IsOfCalls fault.LockNotHeld

other_stale : (x : Fault) → IsOfCalls x → fault.StaleHandle ≡ x → ⊥
other_stale x is = elim is as (λ y _. fault.StaleHandle ≡ y → ⊥) [
  | Twice ↦ (λ e. let z : ⊥ = cc in z)
  | Unheld ↦ (λ e. let z : ⊥ = cc in z)
]

other_wrong : (x : Fault) → IsOfCalls x → fault.WrongKind ≡ x → ⊥
other_wrong x is = elim is as (λ y _. fault.WrongKind ≡ y → ⊥) [
  | Twice ↦ (λ e. let z : ⊥ = cc in z)
  | Unheld ↦ (λ e. let z : ⊥ = cc in z)
]

of_call : (x : Fault) → IsOfCalls x → (is_fault_of_return x ≡ false) × (is_fault_of_access x ≡ false) × (is_script_fault x ≡ false)
of_call x is = elim is as (λ y _. (is_fault_of_return y ≡ false) × (is_fault_of_access y ≡ false) × (is_script_fault y ≡ false)) [
  | Twice ↦ (refl, refl, refl)
  | Unheld ↦ (refl, refl, refl)
]

lock_off : {A : Type 0} (plan : Plan) (S : State A) (cpu f : ℕ) (a : Abstract) → IsResolved plan → IsClean plan → FreeState plan S → FrameStands plan S f a → (i : Intent) → intent_of plan (frame_of S.cpus f) ≡ i → (x : Fault) → IsOfCalls x → fault_of (view_of plan S cpu f) i ≡ Some x → holds_of (view_of plan S cpu f) i x ≡ true → ⊥
lock_off plan S cpu f a resolved clean free fs (intent.Do c) does x is first h =
    let good = good_first (view_of plan S cpu f) (intent.Do c) x (other_stale x is) (other_wrong x is) first in
    by x is h good.0 good.1
  where
    by : (y : Fault) → IsOfCalls y → call_faults (view_of plan S cpu f) c y ≡ true → call_faults (view_of plan S cpu f) c fault.StaleHandle ≡ false → call_faults (view_of plan S cpu f) c fault.WrongKind ≡ false → ⊥
    by y is h stale wrong = (elim is as (λ y _. call_faults (view_of plan S cpu f) c y ≡ true → ⊥) [
      | Twice ↦ (λ g. not_twice plan S cpu f a resolved clean free fs c does stale wrong g)
      | Unheld ↦ (λ g. not_unheld plan S cpu f a resolved clean free fs c does stale wrong g)
    ]) h
lock_off plan S cpu f a resolved clean free fs (intent.Return v) does x is first h = let off = (of_call x is).0 in let on = both_left (is_fault_of_return x) _ h in let z : ⊥ = cc in z
lock_off plan S cpu f a resolved clean free fs (intent.Get r) does x is first h = let off = (of_call x is).1 in let on = both_left (is_fault_of_access x) _ h in let z : ⊥ = cc in z
lock_off plan S cpu f a resolved clean free fs (intent.Put r v) does x is first h = let off = (of_call x is).1 in let on = both_left (is_fault_of_access x) _ h in let z : ⊥ = cc in z
lock_off plan S cpu f a resolved clean free fs intent.Broken does x is first h = let off = (of_call x is).2 in let z : ⊥ = cc in z
lock_off plan S cpu f a resolved clean free fs (intent.Local c next) does x is first h = let z : ⊥ = cc in z
lock_off plan S cpu f a resolved clean free fs (intent.Log v) does x is first h = let z : ⊥ = cc in z
lock_off plan S cpu f a resolved clean free fs (intent.Spend n) does x is first h = let z : ⊥ = cc in z

pub calls_free : {A : Type 0} (plan : Plan) → IsResolved plan → IsClean plan → (run : List Event) (free : IsFreeRun A plan run) (n : ℕ) (k : Cpu) (x : Fault) (line : ℕ) → slice_get run n ≡ Some (event.Fault k x line) → IsOfCalls x → ⊥
calls_free plan resolved clean run free n k x line at is =
    let w = fault_at plan clean run free n k x line at (of_call x is).2 in
    let f = w.fault in
    lock_off plan (free.states n) k.0 f.acts.frame (w.standing.stands.states f.acts.frame) resolved clean w.standing.state w.stands f.intent f.acts.about x is f.first f.holds

-- a fault of locks: 11, 12 and 13
abbrev pub is_of_locks : Fault → Bool
is_of_locks fault.LockHeldAlready = true
is_of_locks fault.LockNotHeld = true
is_of_locks fault.ReturnHoldingLock = true
is_of_locks _ = false

pub locks_are_kept : {A : Type 0} (plan : Plan) (run : List Event) (n : ℕ) (k : Cpu) (x : Fault) (line : ℕ) → IsResolved plan → IsClean plan → IsFreeRun A plan run → slice_get run n ≡ Some (event.Fault k x line) → is_of_locks x ≡ false
locks_are_kept plan run n k fault.LockHeldAlready line resolved clean free at = absurd (calls_free plan resolved clean run free n k fault.LockHeldAlready line at Twice)
locks_are_kept plan run n k fault.LockNotHeld line resolved clean free at = absurd (calls_free plan resolved clean run free n k fault.LockNotHeld line at Unheld)
locks_are_kept plan run n k fault.ReturnHoldingLock line resolved clean free at = absurd (returns_free plan clean run free n k line at)
locks_are_kept plan run n k _ line resolved clean free at = refl
