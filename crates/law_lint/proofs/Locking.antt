-- A call that is answered, and the locks that its frame holds by calls: those that the state after it says.
use Rattle.std.proofs.Common.{◌≡◌, ◌≢◌, ℕ, true, false, Option, None, refl, sym, subst, arith, Bool, List, Some, ap, is_some, length, slice_get, unwrap_or, if◌then◌else◌, ◌∙◌, inl, inr}
use Rattle.wdf_base.specs.declared.plan.Plan.{Plan}
use Rattle.wdf_base.specs.declared.ids.Cpu.{Cpu}
use Rattle.wdf_base.specs.declared.value.Value.{Value}
use Rattle.wdf_base.specs.declared.call.Arg.{Arg}
use Rattle.wdf_base.specs.declared.call.CallKind.{CallKind}
use Rattle.wdf_base.specs.declared.call.CallKind.TheVariants as call
use Rattle.wdf_base.specs.declared.event.Fault.TheVariants as fault
use Rattle.wdf_base.specs.declared.frame.Frame.{Frame}
use Rattle.wdf_base.specs.declared.object.LockRef.{LockRef}
use Rattle.wdf_base.specs.declared.script.ExprNode.{ExprNode}
use Rattle.wdf_model.specs.parts.Locks.{Locks, holds_by_call, object_lock}
use Rattle.wdf_model.specs.parts.Locks as locks
use Rattle.wdf_model.specs.State.{State, object_in}
use Rattle.wdf_model.specs.rules.Deeds.{do_deeds}
use Rattle.wdf_model.specs.rules.Faults.{call_faults}
use Rattle.wdf_model.specs.rules.Steps.{did_deeds, view_of, woke_deeds}
use Rattle.wdf_model.proofs.Tests.{not_false}
use Rattle.wdf_lint.specs.declared.state.Abstract.{Abstract}
use Rattle.wdf_lint.specs.declared.state.HeldLock.TheVariants as lock
use Rattle.wdf_lint.specs.Steps.{called, interrupt_in, rule_of_call, variable_in}
use Rattle.law_lint.proofs.Acting.{calling}
use Rattle.law_lint.proofs.Weights.{Single, acquired_at_single, acquired_at_weight, acquired_weight, released_at_single, released_at_weight, released_weight, joined_contains, lock_weight}
use Rattle.law_lint.proofs.Holdings.{release_less, take_more, take_other, HasLock, Left, left_same, release_left, release_other, take_has, take_keeps}
use Rattle.std.proofs.lemmas.Bool.{cases_Bool}
use Rattle.wdf_base.specs.declared.call.Call.{Call}
use Rattle.wdf_base.specs.declared.call.Arg.TheVariants.{Val}
use Rattle.wdf_base.specs.declared.declared.Declared.{Declared}
use Rattle.wdf_base.specs.declared.declared.Declared.TheVariants as declared
use Rattle.wdf_base.specs.declared.object.Kind.{Kind}
use Rattle.wdf_base.specs.declared.object.Kind.TheVariants as kind
use Rattle.wdf_base.specs.declared.script.ArgNode.{ArgNode}
use Rattle.wdf_base.specs.declared.script.ArgNode.TheVariants as arg
use Rattle.wdf_base.specs.declared.script.ContextWord.TheVariants as context
use Rattle.wdf_base.specs.declared.script.ExprNode.TheVariants as node
use Rattle.wdf_base.specs.declared.signature.Sort.TheVariants as sort
use Rattle.wdf_base.specs.declared.value.Value.TheVariants.{Num}
use Rattle.wdf_base.specs.Callbacks.{row_of}
use Rattle.wdf_base.specs.Calls.{is_acquire, is_release, signature_of}
use Rattle.wdf_base.specs.Lives.{is_past_cleanup}
use Rattle.wdf_base.specs.Plan.{declared_of}
use Rattle.wdf_base.specs.Resolved.{IsResolved}
use Rattle.wdf_base.specs.Same.{same_kind}
use Rattle.wdf_model.specs.Tables.{contains}
use Rattle.wdf_model.specs.Plans.{as_interrupt}
use Rattle.wdf_model.specs.parts.Tree.{kind_of, life_of}
use Rattle.wdf_model.specs.rules.Faults.{View, is_stale, is_wrong_kind}
use Rattle.wdf_model.specs.rules.Script.{arg_of, node_value, value_of, value_to}
use Rattle.wdf_model.proofs.Sames.{kind_decides}
use Rattle.law_machine_base.specs.OverRuns.{is_declared_kind}
use Rattle.law_machine_base.proofs.Fits.{first_kind, wrong_kind_of_first}
use Rattle.law_machine_lives.proofs.LevelEvents.{first_early, stale_first}
use Rattle.law_machine_lives.proofs.Lives.{early_there}
use Rattle.law_machine_lives.proofs.LocksOnce.{Once}
use Rattle.law_machine_lives.proofs.Queued.{left_in}
use Rattle.law_free_runs.proofs.FreeStates.{FreeState}
use Rattle.wdf_lint.specs.Abstracts.{callback_of, id_of, owner_of}
use Rattle.wdf_lint.specs.Steps.{acquired, acquired_at, is_of_interrupt, node_of, released_at, rule_of_acquiring, rule_of_acquiring_at, rule_of_releasing, rule_of_releasing_at}
use Rattle.law_lint.proofs.Began.{Began}
use Rattle.law_lint.proofs.HeldAs.{HasIn, HasPlain, HeldAs, has_kept, held_later, is_interrupt, object_at}
use Rattle.wdf_base.specs.declared.declared.InterruptInfo.{InterruptInfo}
use Rattle.law_machine_lives.proofs.ReasonsOfCalls.{interrupt_by}

-- what a frame holds by calls after a step to this state, and what others keep of theirs
pub record Locked (plan : Plan) (K L : Locks) (f : ℕ) (vars : List Value) (b : Abstract) : Type 0 where
  pub now : HeldAs plan L f vars b
  pub others : (g : ℕ) → g ≢ f → Left K L g

-- ---- what the arguments of calls on locks say

-- the calls on spin and wait locks
abbrev pub is_on_plain : CallKind → Bool
is_on_plain call.WdfSpinLockAcquire = true
is_on_plain call.WdfWaitLockAcquire = true
is_on_plain call.WdfSpinLockRelease = true
is_on_plain call.WdfWaitLockRelease = true
is_on_plain _ = false

-- the calls on interrupts' locks
abbrev pub is_on_interrupt : CallKind → Bool
is_on_interrupt call.WdfInterruptAcquireLock = true
is_on_interrupt call.WdfInterruptReleaseLock = true
is_on_interrupt _ = false

-- a call on a lock is on one of its kind
pub record OfKind (plan : Plan) (k : CallKind) (x : ℕ) : Type 0 where
  pub plain : is_on_plain k ≡ true → is_interrupt plan x ≡ false
  pub interrupt : is_on_interrupt k ≡ true → is_interrupt plan x ≡ true

-- what a call's first argument names
pub record Names (plan : Plan) (frame : Frame) (k : CallKind) (x : ℕ) (px : Option ExprNode) : Type 0 where
  pub variable : (v : ℕ) → variable_in px ≡ Some v → x ≡ object_at frame.variables v
  pub interrupt : IsResolved plan → (i : ℕ) → interrupt_in plan frame.script px ≡ Some i → x ≡ i
  pub kind : OfKind plan k x

node_names : (f : Frame) (operand : ℕ → Option Value) (e : ℕ) (n : Option ExprNode) (v : ℕ) → variable_in n ≡ Some v → object_in (Val (unwrap_or (node_value f operand e n) (Num 0))) ≡ object_at f.variables v
node_names f operand e (Some (node.Variable x)) v h = let same : x ≡ v = cc in ap (object_at f.variables) same
node_names f operand e _ v h = absurd (let z : ⊥ = cc in z)

expression_names : (plan : Plan) (f : Frame) (e v : ℕ) → variable_in (slice_get plan.exprs e) ≡ Some v → object_in (Val (unwrap_or (value_of plan f e) (Num 0))) ≡ object_at f.variables v
unfolding value_of
expression_names plan f e v h = node_names f (value_to e plan f) e (slice_get plan.exprs e) v h

argument_names : (plan : Plan) (f : Frame) (x : ArgNode) (v : ℕ) → variable_in (node_of plan x) ≡ Some v → object_in (arg_of plan f x) ≡ object_at f.variables v
argument_names plan f (arg.Expression e) v h = expression_names plan f e v h
argument_names plan f arg.NoArgument v h = absurd (let z : ⊥ = cc in z)
argument_names plan f (arg.OfClass c) v h = absurd (let z : ⊥ = cc in z)

if_some : (b : Bool) (x i : ℕ) → (if b then Some x else None) ≡ Some i → (b ≡ true) × (x ≡ i)
if_some true x i h = let same : x ≡ i = cc in (refl, same)
if_some false x i h = absurd (let z : ⊥ = cc in z)

node_interrupt : (plan : Plan) (f : Frame) → Began plan f → IsResolved plan → (operand : ℕ → Option Value) (e : ℕ) (n : Option ExprNode) (i : ℕ) → interrupt_in plan f.script n ≡ Some i → object_in (Val (unwrap_or (node_value f operand e n) (Num 0))) ≡ i
node_interrupt plan f b res operand e (Some (node.Object h)) i is = let same : h.id.0 ≡ i = cc in same
node_interrupt plan f b res operand e (Some (node.Context context.OwnObject)) i is =
    let own = if_some (is_of_interrupt (row_of (callback_of plan f.script)).owner) (id_of plan (owner_of plan f.script)) i is in
    (b.interrupt res (ap (λ c. is_of_interrupt (row_of c).owner) (sym b.callback) ∙ own.0)).0 ∙ own.1
node_interrupt plan f b res operand e _ i is = absurd (let z : ⊥ = cc in z)

expression_interrupt : (plan : Plan) (f : Frame) → Began plan f → IsResolved plan → (e i : ℕ) → interrupt_in plan f.script (slice_get plan.exprs e) ≡ Some i → object_in (Val (unwrap_or (value_of plan f e) (Num 0))) ≡ i
unfolding value_of
expression_interrupt plan f b res e i h = node_interrupt plan f b res (value_to e plan f) e (slice_get plan.exprs e) i h

argument_interrupt : (plan : Plan) (f : Frame) → Began plan f → IsResolved plan → (x : ArgNode) (i : ℕ) → interrupt_in plan f.script (node_of plan x) ≡ Some i → object_in (arg_of plan f x) ≡ i
argument_interrupt plan f b res (arg.Expression e) i h = expression_interrupt plan f b res e i h
argument_interrupt plan f b res arg.NoArgument i h = absurd (let z : ⊥ = cc in z)
argument_interrupt plan f b res (arg.OfClass c) i h = absurd (let z : ⊥ = cc in z)

pub names : (plan : Plan) (f : Frame) (k : CallKind) (x : ArgNode) → Began plan f → OfKind plan k (object_in (arg_of plan f x)) → Names plan f k (object_in (arg_of plan f x)) (node_of plan x)
names plan f k x b of = record { variable = argument_names plan f x; interrupt = λ res. argument_interrupt plan f b res x; kind = of }

-- ---- kinds

declared_interrupt : (x : Option Declared) → is_some (as_interrupt x) ≡ true → (i : InterruptInfo) × (x ≡ Some (declared.Interrupt i))
declared_interrupt (Some (declared.Interrupt i)) h = (i, refl)
declared_interrupt None h = absurd (let z : ⊥ = cc in z)
declared_interrupt (Some declared.Driver) h = absurd (let z : ⊥ = cc in z)
declared_interrupt (Some (declared.Device d)) h = absurd (let z : ⊥ = cc in z)
declared_interrupt (Some (declared.Queue d)) h = absurd (let z : ⊥ = cc in z)
declared_interrupt (Some (declared.Target d)) h = absurd (let z : ⊥ = cc in z)
declared_interrupt (Some (declared.OfClass d)) h = absurd (let z : ⊥ = cc in z)

module _ {A : Type 0} (plan : Plan) (S : State A) (free : FreeState plan S) (cpu f : ℕ) where
  abbrev view : View
  view = view_of plan S cpu f

  -- an object of the kind of interrupts is declared as one
  interrupt_there : (x : ℕ) → same_kind (kind_of S.tree x) kind.Interrupt ≡ true → is_interrupt plan x ≡ true
  interrupt_there x h =
      let k : kind_of S.tree x ≡ kind.Interrupt = (kind_decides (kind_of S.tree x) kind.Interrupt).0 h in
      interrupt_by (declared_of plan x) (free.declared.declared x (ap is_declared_kind k) ∙ ap Some k)

  -- one that is there and of another kind isn't
  no_interrupt : (x : ℕ) (k : Kind) → same_kind k kind.Interrupt ≡ false → same_kind (kind_of S.tree x) k ≡ true → is_past_cleanup (life_of S.tree x) ≡ false → is_interrupt plan x ≡ false
  no_interrupt x k other h early = elim (cases_Bool (is_interrupt plan x)) [
    | inr e ↦ e
    | inl e ↦ absurd (
        let i = declared_interrupt (declared_of plan x) e in
        let is : kind_of S.tree x ≡ kind.Interrupt = (free.family.declared x (declared.Interrupt i.0) i.1 (early_there (life_of S.tree x) early)).1 in
        let k_is : kind_of S.tree x ≡ k = (kind_decides (kind_of S.tree x) k).0 h in
        let same : same_kind k kind.Interrupt ≡ true = ap (λ y. same_kind y kind.Interrupt) (sym k_is ∙ is) in
        let z : ⊥ = cc in z)
  ]

  plain_by : (c : Call) (k : Kind) → same_kind k kind.Interrupt ≡ false → (signature_of c.kind).a ≡ sort.ObjectOf k → (signature_of c.kind).cleaned ≡ false → call_faults view c fault.StaleHandle ≡ false → call_faults view c fault.WrongKind ≡ false
      → is_interrupt plan (object_in c.a) ≡ false
  plain_by c k other sort_ cleaned stale wrong =
      let w : is_wrong_kind view (sort.ObjectOf k) c.a ≡ false = subst (λ s. is_wrong_kind view s c.a ≡ false) sort_ (wrong_kind_of_first view c wrong) in
      let s : is_stale view false (sort.ObjectOf k) c.a ≡ false = subst (λ b. is_stale view b (sort.ObjectOf k) c.a ≡ false) cleaned (subst (λ t. is_stale view (signature_of c.kind).cleaned t c.a ≡ false) sort_ (stale_first view c stale)) in
      no_interrupt (object_in c.a) k other (first_kind view k c.a w) (first_early view k c.a s w)

  plain_call : (c : Call) → is_on_plain c.kind ≡ true → call_faults view c fault.StaleHandle ≡ false → call_faults view c fault.WrongKind ≡ false → is_interrupt plan (object_in c.a) ≡ false
  plain_call c is stale wrong = by c.kind refl is
    where
      by : (k : CallKind) → c.kind ≡ k → is_on_plain k ≡ true → is_interrupt plan (object_in c.a) ≡ false
      by call.WdfSpinLockAcquire e h = plain_by c kind.SpinLock refl (ap (λ k. (signature_of k).a) e) (ap (λ k. (signature_of k).cleaned) e) stale wrong
      by call.WdfSpinLockRelease e h = plain_by c kind.SpinLock refl (ap (λ k. (signature_of k).a) e) (ap (λ k. (signature_of k).cleaned) e) stale wrong
      by call.WdfWaitLockAcquire e h = plain_by c kind.WaitLock refl (ap (λ k. (signature_of k).a) e) (ap (λ k. (signature_of k).cleaned) e) stale wrong
      by call.WdfWaitLockRelease e h = plain_by c kind.WaitLock refl (ap (λ k. (signature_of k).a) e) (ap (λ k. (signature_of k).cleaned) e) stale wrong
      by _ e h = absurd (let z : ⊥ = cc in z)

  interrupt_call : (c : Call) → is_on_interrupt c.kind ≡ true → call_faults view c fault.WrongKind ≡ false → is_interrupt plan (object_in c.a) ≡ true
  interrupt_call c is wrong = by c.kind refl is
    where
      on_it : (signature_of c.kind).a ≡ sort.ObjectOf kind.Interrupt → is_interrupt plan (object_in c.a) ≡ true
      on_it e = interrupt_there (object_in c.a) (first_kind view kind.Interrupt c.a (subst (λ s. is_wrong_kind view s c.a ≡ false) e (wrong_kind_of_first view c wrong)))

      by : (k : CallKind) → c.kind ≡ k → is_on_interrupt k ≡ true → is_interrupt plan (object_in c.a) ≡ true
      by call.WdfInterruptAcquireLock e h = on_it (ap (λ k. (signature_of k).a) e)
      by call.WdfInterruptReleaseLock e h = on_it (ap (λ k. (signature_of k).a) e)
      by _ e h = absurd (let z : ⊥ = cc in z)

  -- a call without a fault is on a lock of its kind
  pub of_kind : (c : Call) → call_faults view c fault.StaleHandle ≡ false → call_faults view c fault.WrongKind ≡ false → OfKind plan c.kind (object_in c.a)
  of_kind c stale wrong = record { plain = λ is. plain_call c is stale wrong; interrupt = λ is. interrupt_call c is wrong }

-- ---- a lock is acquired, or given back

spin_taken : (plan : Plan) (L : Locks) (f x : ℕ) (vars : List Value) (a : Abstract) (o : Option ℕ) → HeldAs plan L f vars a → rule_of_acquiring a o ≡ None → ((v : ℕ) → o ≡ Some v → x ≡ object_at vars v) → is_interrupt plan x ≡ false
    → HeldAs plan (locks.take L (object_lock x) f true) f vars (acquired a o)
spin_taken plan L f x vars a None h rule says off = absurd (let z : ⊥ = cc in z)
spin_taken plan L f x vars a (Some v) h rule says off = record {
  few = let more = take_more L (object_lock x) f in let w = acquired_weight a (Some v) rule in let old = h.few in omega arith;
  single = h.single;
  plain = λ res. subst (HasPlain plan (locks.take L (object_lock x) f true) f) (says v refl) (record { has = take_has L x f; plain = off });
  interrupts = λ res i is. let old = h.interrupts res i is in (take_keeps L (object_lock x) f true f i old.0, old.1);
}

spin_given : (plan : Plan) (L : Locks) (f x : ℕ) (vars : List Value) (a : Abstract) (o : Option ℕ) → HeldAs plan L f vars a → rule_of_releasing a o ≡ None → HasLock L f x → is_interrupt plan x ≡ false
    → HeldAs plan (locks.release L (object_lock x)) f vars (record a { lock = lock.Free })
spin_given plan L f x vars a o h rule has off = record {
  few = let less = release_less L (object_lock x) f has in let w = released_weight a o rule in let old = h.few in omega arith;
  single = h.single;
  plain = λ res. tt;
  interrupts = λ res i is.
      let old = h.interrupts res i is in
      (release_other L x f i (λ e. let on : is_interrupt plan x ≡ true = ap (is_interrupt plan) (sym e) ∙ old.1 in let z : ⊥ = cc in z) old.0, old.1);
}

interrupt_taken : (plan : Plan) (L : Locks) (k f x : ℕ) (vars : List Value) (a : Abstract) (o : Option ℕ) → HeldAs plan L f vars a → rule_of_acquiring_at plan k a o ≡ None → (IsResolved plan → (i : ℕ) → o ≡ Some i → x ≡ i) → is_interrupt plan x ≡ true
    → HeldAs plan (locks.take L (object_lock x) f true) f vars (acquired_at a o)
interrupt_taken plan L k f x vars a None h rule says on = absurd (let z : ⊥ = cc in z)
interrupt_taken plan L k f x vars a (Some i) h rule says on = record {
  few = let more = take_more L (object_lock x) f in let w = acquired_at_weight plan k a (Some i) rule in let old = h.few in omega arith;
  single = acquired_at_single plan k a (Some i) rule h.single;
  plain = λ res. has_kept plan L (locks.take L (object_lock x) f true) f vars a.lock (λ y off. take_keeps L (object_lock x) f true f y) (h.plain res);
  interrupts = λ res j is. elim (joined_contains i j a.interrupts is) [
    | inl e ↦ let same : x ≡ j = says res i refl ∙ e in (subst (HasLock (locks.take L (object_lock x) f true) f) same (take_has L x f), subst (λ y. is_interrupt plan y ≡ true) same on)
    | inr old_ ↦ let old = h.interrupts res j old_ in (take_keeps L (object_lock x) f true f j old.0, old.1)
  ];
}

interrupt_given : (plan : Plan) (L : Locks) (f x : ℕ) (vars : List Value) (a : Abstract) (o : Option ℕ) → HeldAs plan L f vars a → rule_of_releasing_at a o ≡ None → (IsResolved plan → (i : ℕ) → o ≡ Some i → x ≡ i) → HasLock L f x → is_interrupt plan x ≡ true
    → HeldAs plan (locks.release L (object_lock x)) f vars (released_at a o)
interrupt_given plan L f x vars a None h rule says has on = absurd (let z : ⊥ = cc in z)
interrupt_given plan L f x vars a (Some i) h rule says has on = record {
  few = let less = release_less L (object_lock x) f has in let w = released_at_weight a (Some i) rule h.single in let old = h.few in omega arith;
  single = released_at_single a (Some i) h.single;
  plain = λ res. has_kept plan L (locks.release L (object_lock x)) f vars a.lock (λ y off held. release_other L x f y (λ e. let z_ : is_interrupt plan x ≡ false = ap (is_interrupt plan) (sym e) ∙ off in let z : ⊥ = cc in z) held) (h.plain res);
  interrupts = λ res j is.
      let l = left_in j i a.interrupts is in
      let old = h.interrupts res j l.0 in
      (release_other L x f j (λ e. l.1 (e ∙ says res i refl)) old.0, old.1);
}

-- nothing of locks changes
held_alike : (plan : Plan) (L : Locks) (f : ℕ) (vars : List Value) (a b : Abstract) → b.lock ≡ a.lock → b.interrupts ≡ a.interrupts → HeldAs plan L f vars a → HeldAs plan L f vars b
held_alike plan L f vars a b l i h = record {
  few = let n : length b.interrupts ≡ length a.interrupts = ap length i in let w : lock_weight b.lock ≡ lock_weight a.lock = ap lock_weight l in let old = h.few in omega arith;
  single = subst Single (sym i) h.single;
  plain = λ res. subst (HasIn plan L f vars) (sym l) (h.plain res);
  interrupts = λ res j is. h.interrupts res j (ap (contains j) (sym i) ∙ is);
}

taken_left : (L : Locks) (l : LockRef) (f g : ℕ) → g ≢ f → Left L (locks.take L l f true) g
taken_left L l f g n = record { fewer = let same = take_other L l f g n in omega arith; keeps = λ x h. take_keeps L l f true g x h }

-- ---- a call that is answered

module _ {A : Type 0} (plan : Plan) (S : State A) (k : Cpu) (f : ℕ) (frame : Frame) (a : Abstract) (once : Once S.locks) (h : HeldAs plan S.locks f frame.variables a) where
  abbrev after_did : CallKind → ℕ → Arg → Arg → Arg → Value → Locks
  after_did K n x y z v = (do_deeds plan (did_deeds plan S k.0 (calling K n x y z) v f frame) S).locks

  abbrev Did : CallKind → Type 0
  Did K = (n : ℕ) (x y z : Arg) (px py : Option ExprNode) (v : Value) → rule_of_call plan frame.script a K px py ≡ None → call_faults (view_of plan S k.0 f) (calling K n x y z) fault.LockNotHeld ≡ false → Names plan frame K (object_in x) px
      → (is_acquire K ≡ false → is_release K ≡ false → (g : ℕ) → Left S.locks (after_did K n x y z v) g)
      → Locked plan S.locks (after_did K n x y z v) f frame.variables (called plan frame.script a K px)

  -- a release without a fault is of a lock that the frame has
  pub did_locks : (K : CallKind) → Did K
  did_locks call.WdfSpinLockAcquire = λ n x y z px py v rule clean says left. record { now = spin_taken plan S.locks f (object_in x) frame.variables a (variable_in px) h rule says.variable (says.kind.plain refl); others = λ g other. taken_left S.locks (object_lock (object_in x)) f g other }
  did_locks call.WdfWaitLockAcquire = λ n x y z px py v rule clean says left. record { now = spin_taken plan S.locks f (object_in x) frame.variables a (variable_in px) h rule says.variable (says.kind.plain refl); others = λ g other. taken_left S.locks (object_lock (object_in x)) f g other }
  did_locks call.WdfInterruptAcquireLock = λ n x y z px py v rule clean says left. record {
    now = interrupt_taken plan S.locks frame.script f (object_in x) frame.variables a (interrupt_in plan frame.script px) h rule says.interrupt (says.kind.interrupt refl);
    others = λ g other. taken_left S.locks (object_lock (object_in x)) f g other;
  }
  did_locks call.WdfSpinLockRelease = λ n x y z px py v rule clean says left.
      let has : HasLock S.locks f (object_in x) = not_false (holds_by_call S.locks f (object_lock (object_in x))) clean in
      record { now = spin_given plan S.locks f (object_in x) frame.variables a (variable_in px) h rule has (says.kind.plain refl); others = λ g other. release_left S.locks (object_in x) f g once has other }
  did_locks call.WdfWaitLockRelease = λ n x y z px py v rule clean says left.
      let has : HasLock S.locks f (object_in x) = not_false (holds_by_call S.locks f (object_lock (object_in x))) clean in
      record { now = spin_given plan S.locks f (object_in x) frame.variables a (variable_in px) h rule has (says.kind.plain refl); others = λ g other. release_left S.locks (object_in x) f g once has other }
  did_locks call.WdfInterruptReleaseLock = λ n x y z px py v rule clean says left.
      let has : HasLock S.locks f (object_in x) = not_false (holds_by_call S.locks f (object_lock (object_in x))) clean in
      record {
        now = interrupt_given plan S.locks f (object_in x) frame.variables a (interrupt_in plan frame.script px) h rule says.interrupt has (says.kind.interrupt refl);
        others = λ g other. release_left S.locks (object_in x) f g once has other;
      }
  did_locks call.WdfRequestStopAcknowledge = λ n x y z px py v rule clean says left. record {
    now = held_later plan S.locks (after_did call.WdfRequestStopAcknowledge n x y z v) f frame.variables (record a { acknowledged = true }) (left refl refl f) (held_alike plan S.locks f frame.variables a (record a { acknowledged = true }) refl refl h);
    others = λ g other. left refl refl g;
  }
  did_locks K = λ n x y z px py v rule clean says left. record { now = held_later plan S.locks (after_did K n x y z v) f frame.variables a (left refl refl f) h; others = λ g other. left refl refl g }

  abbrev after_woke : CallKind → ℕ → Arg → Arg → Arg → Value → Locks
  after_woke K n x y z v = (do_deeds plan (woke_deeds plan (calling K n x y z) v f frame) S).locks

  abbrev Woke : CallKind → Type 0
  Woke K = (n : ℕ) (x y z : Arg) (px py : Option ExprNode) (v : Value) → rule_of_call plan frame.script a K px py ≡ None → is_release K ≡ false → Names plan frame K (object_in x) px
      → Locked plan S.locks (after_woke K n x y z v) f frame.variables (called plan frame.script a K px)

  pub woke_locks : (K : CallKind) → Woke K
  woke_locks call.WdfSpinLockAcquire = λ n x y z px py v rule off says. record { now = spin_taken plan S.locks f (object_in x) frame.variables a (variable_in px) h rule says.variable (says.kind.plain refl); others = λ g other. taken_left S.locks (object_lock (object_in x)) f g other }
  woke_locks call.WdfWaitLockAcquire = λ n x y z px py v rule off says. record { now = spin_taken plan S.locks f (object_in x) frame.variables a (variable_in px) h rule says.variable (says.kind.plain refl); others = λ g other. taken_left S.locks (object_lock (object_in x)) f g other }
  woke_locks call.WdfInterruptAcquireLock = λ n x y z px py v rule off says. record {
    now = interrupt_taken plan S.locks frame.script f (object_in x) frame.variables a (interrupt_in plan frame.script px) h rule says.interrupt (says.kind.interrupt refl);
    others = λ g other. taken_left S.locks (object_lock (object_in x)) f g other;
  }
  woke_locks call.WdfSpinLockRelease = λ n x y z px py v rule off says. absurd (let z_ : ⊥ = cc in z_)
  woke_locks call.WdfWaitLockRelease = λ n x y z px py v rule off says. absurd (let z_ : ⊥ = cc in z_)
  woke_locks call.WdfInterruptReleaseLock = λ n x y z px py v rule off says. absurd (let z_ : ⊥ = cc in z_)
  woke_locks call.WdfRequestStopAcknowledge = λ n x y z px py v rule off says. record { now = held_alike plan S.locks f frame.variables a (record a { acknowledged = true }) refl refl h; others = λ g other. left_same S.locks S.locks g refl }
  woke_locks _ = λ n x y z px py v rule off says. record { now = h; others = λ g other. left_same S.locks S.locks g refl }
