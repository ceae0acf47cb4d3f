-- What each statement asks of an abstract state, and the states after it. (own)
use Rattle.std.specs.Prelude.{if◌then◌else◌, ℕ, Bool, true, false, ◌==◌, not, ◌&&◌, ◌||◌, List, [], ◌∷◌, ◌++◌, filter, nat_lt, map, Option, Some, None, slice_get, slice_index_or}
use Rattle.wdf_base.specs.declared.plan.Plan.{Plan}
use Rattle.wdf_base.specs.declared.value.Status.TheVariants as status
use Rattle.wdf_base.specs.declared.object.Kind.TheVariants as kind
use Rattle.wdf_base.specs.declared.call.CallKind.{CallKind}
use Rattle.wdf_base.specs.declared.call.CallKind.TheVariants as call
use Rattle.wdf_base.specs.declared.declared.Declared.{Declared}
use Rattle.wdf_base.specs.declared.declared.Declared.TheVariants as declared
use Rattle.wdf_base.specs.declared.declared.Scope.{Scope}
use Rattle.wdf_base.specs.declared.declared.Scope.TheVariants as scope
use Rattle.wdf_base.specs.declared.event.Fault.{Fault}
use Rattle.wdf_base.specs.declared.event.Fault.TheVariants as fault
use Rattle.wdf_base.specs.declared.script.Act.TheVariants as act
use Rattle.wdf_base.specs.declared.script.ArgNode.{ArgNode}
use Rattle.wdf_base.specs.declared.script.ArgNode.TheVariants as arg
use Rattle.wdf_base.specs.declared.script.ExprNode.{ExprNode}
use Rattle.wdf_base.specs.declared.script.ExprNode.TheVariants as node
use Rattle.wdf_base.specs.declared.script.ContextWord.TheVariants as context
use Rattle.wdf_base.specs.declared.script.Operator.TheVariants as operator
use Rattle.wdf_base.specs.declared.script.Statement.{Statement}
use Rattle.wdf_base.specs.declared.rank.Owner.{Owner}
use Rattle.wdf_base.specs.declared.rank.Owner.TheVariants as owner
use Rattle.wdf_base.specs.Callbacks.{row_of, takes_interrupt_lock}
use Rattle.wdf_base.specs.Plan.{statements_of}
use Rattle.wdf_base.specs.Same.{same_kind, same_status}
use Rattle.wdf_model.specs.Tables.{contains, without}
use Rattle.wdf_lint.specs.declared.state.Known.{Known}
use Rattle.wdf_lint.specs.declared.state.Known.TheVariants as known
use Rattle.wdf_lint.specs.declared.state.Hold.{Hold}
use Rattle.wdf_lint.specs.declared.state.Hold.TheVariants as hold
use Rattle.wdf_lint.specs.declared.state.HeldLock.{HeldLock}
use Rattle.wdf_lint.specs.declared.state.HeldLock.TheVariants as lock
use Rattle.wdf_lint.specs.declared.state.Abstract.{Abstract}
use Rattle.wdf_lint.specs.Abstracts.{answer, assign, callback_of, go, id_of, owner_of, plan_sends}

-- ---- expressions

-- 0 and 1 are kept, other numbers are not
abbrev pub known_number : ℕ → Known
known_number n = if n == 0 then known.Zero else if n == 1 then known.One else known.Unknown

-- what is known of an expression's value
abbrev pub known_node : Abstract → Option ExprNode → Known
known_node a (Some (node.Number n)) = known_number n
known_node a (Some (node.Variable v)) = slice_index_or a.variables v known.Zero
known_node a (Some (node.Literal s)) = known.Stat s
known_node a _ = known.Unknown

-- what is known of an expression
abbrev pub known_of : Plan → Abstract → ℕ → Known
known_of plan a e = known_node a (slice_get plan.exprs e)

-- whether two values that are known are one
abbrev pub equal_known : Known → Known → Option Bool
equal_known known.Unknown y = None
equal_known x known.Unknown = None
equal_known known.Zero known.Zero = Some true
equal_known known.One known.One = Some true
equal_known (known.Stat s) (known.Stat t) = Some (same_status s t)
equal_known x y = Some false

-- the other way round, where it is decided
abbrev pub opposite : Option Bool → Option Bool
opposite None = None
opposite (Some b) = Some (not b)

-- a status, 0 or 1 as it is written
abbrev pub written : Option ExprNode → Known
written (Some (node.Number n)) = known_number n
written (Some (node.Literal s)) = known.Stat s
written _ = known.Unknown

-- what is known of a variable, where the expression is one
abbrev pub known_variable : Abstract → Option ExprNode → Known
known_variable a (Some (node.Variable v)) = slice_index_or a.variables v known.Zero
known_variable a _ = known.Unknown

-- whether a test holds: a variable of known value is compared with a status, 0 or 1
abbrev pub decided_by : Plan → Abstract → Option ExprNode → Option Bool
decided_by plan a (Some (node.Binary operator.Equals left right)) = equal_known (known_variable a (slice_get plan.exprs left)) (written (slice_get plan.exprs right))
decided_by plan a (Some (node.Binary operator.Differs left right)) = opposite (equal_known (known_variable a (slice_get plan.exprs left)) (written (slice_get plan.exprs right)))
decided_by plan a _ = None

-- whether the test of an `if` holds, where that is known
abbrev pub decided : Plan → Abstract → ℕ → Option Bool
decided plan a e = decided_by plan a (slice_get plan.exprs e)

-- ---- arguments

-- the expression of an argument
abbrev pub node_of : Plan → ArgNode → Option ExprNode
node_of plan (arg.Expression e) = slice_get plan.exprs e
node_of plan _ = None

-- an argument that is written as `request`
abbrev pub is_request_word : Option ExprNode → Bool
is_request_word (Some (node.Context context.OwnRequest)) = true
is_request_word _ = false

-- an argument that is written as the number 0
abbrev pub is_zero : Option ExprNode → Bool
is_zero (Some (node.Number n)) = n == 0
is_zero _ = false

-- the variable that an argument is
abbrev pub variable_in : Option ExprNode → Option ℕ
variable_in (Some (node.Variable v)) = Some v
variable_in _ = None

-- an interrupt's callback
abbrev pub is_of_interrupt : Owner → Bool
is_of_interrupt (owner.Of k) = same_kind k kind.Interrupt
is_of_interrupt _ = false

-- the interrupt that an argument names: a declared name, or `self` in an interrupt's callback
abbrev pub interrupt_in : Plan → ℕ → Option ExprNode → Option ℕ
interrupt_in plan k (Some (node.Object h)) = Some h.id.0
interrupt_in plan k (Some (node.Context context.OwnObject)) = if is_of_interrupt (row_of (callback_of plan k)).owner then Some (id_of plan (owner_of plan k)) else None
interrupt_in plan k _ = None

-- the lock that the callback took at its start
abbrev pub is_own_lock : Plan → ℕ → ℕ → Bool
is_own_lock plan k i = takes_interrupt_lock (callback_of plan k) && id_of plan (owner_of plan k) == i

-- a scope that keeps callbacks apart
abbrev pub is_scoped : Scope → Bool
is_scoped scope.Unscoped = false
is_scoped _ = true

-- a queue whose callbacks never run at one time
abbrev pub is_scoped_queue : Declared → Bool
is_scoped_queue (declared.Queue q) = is_scoped q.scope
is_scoped_queue _ = false

-- ---- the rule that a call breaks

-- a rule, where its condition does not hold
abbrev pub unless : Bool → Fault → Option Fault
unless true x = None
unless false x = Some x

-- to give the request up
abbrev pub rule_of_giving : Hold → Option Fault
rule_of_giving hold.Own = None
rule_of_giving hold.Marked = Some fault.CompleteWhileMarked
rule_of_giving _ = Some fault.NotOwned

-- to mark it
abbrev pub rule_of_marking : Hold → Option Fault
rule_of_marking hold.Own = None
rule_of_marking hold.Marked = Some fault.MarkedTwice
rule_of_marking _ = Some fault.NotOwned

-- the callback has the request, unmarked
abbrev pub is_own : Hold → Bool
is_own hold.Own = true
is_own _ = false

-- marked or not
abbrev pub is_own_or_marked : Hold → Bool
is_own_or_marked hold.Own = true
is_own_or_marked hold.Marked = true
is_own_or_marked _ = false

-- the request is one to be acknowledged
abbrev pub is_stop : Hold → Bool
is_stop hold.Stop = true
is_stop _ = false

-- KMDF: once, in EvtIoStop. own: under a scope, and in a plan that sends nothing
abbrev pub rule_of_acknowledging : Plan → ℕ → Abstract → Option Fault
rule_of_acknowledging plan k a =
    if not (is_stop a.hold) || a.acknowledged then Some fault.AckOutsideStop
    else if is_scoped_queue (owner_of plan k) && not (plan_sends plan) then None
    else Some fault.NotOwned

-- a call on the callback's own request
abbrev pub on_request : Bool → Option Fault → Option Fault
on_request true rule = rule
on_request false rule = Some fault.NotOwned

-- no spin or wait lock is held
abbrev pub is_free : HeldLock → Bool
is_free lock.Free = true
is_free _ = false

-- the lock that is held is in this variable
abbrev pub is_in : HeldLock → ℕ → Bool
is_in (lock.In v) x = v == x
is_in _ x = false

-- own: a spin or wait lock, named by a variable, while none is held
abbrev pub rule_of_acquiring : Abstract → Option ℕ → Option Fault
rule_of_acquiring a None = Some fault.LockHeldAlready
rule_of_acquiring a (Some v) = unless (is_free a.lock) fault.LockHeldAlready

-- own: by the variable by which it was acquired
abbrev pub rule_of_releasing : Abstract → Option ℕ → Option Fault
rule_of_releasing a None = Some fault.LockNotHeld
rule_of_releasing a (Some v) = unless (is_in a.lock v) fault.LockNotHeld

-- KMDF: an interrupt's lock that this callback doesn't hold
abbrev pub rule_of_acquiring_at : Plan → ℕ → Abstract → Option ℕ → Option Fault
rule_of_acquiring_at plan k a None = Some fault.LockHeldAlready
rule_of_acquiring_at plan k a (Some i) = unless (not (contains i a.interrupts) && not (is_own_lock plan k i)) fault.LockHeldAlready

-- KMDF: one that it holds by a call
abbrev pub rule_of_releasing_at : Abstract → Option ℕ → Option Fault
rule_of_releasing_at a None = Some fault.LockNotHeld
rule_of_releasing_at a (Some i) = unless (contains i a.interrupts) fault.LockNotHeld

-- the rule that a call breaks with these arguments
abbrev pub rule_of_call : Plan → ℕ → Abstract → CallKind → Option ExprNode → Option ExprNode → Option Fault
rule_of_call plan k a call.WdfRequestComplete x y = on_request (is_request_word x) (rule_of_giving a.hold)
rule_of_call plan k a call.WdfRequestRequeue x y = on_request (is_request_word x) (rule_of_giving a.hold)
rule_of_call plan k a call.WdfRequestForwardToIoQueue x y = on_request (is_request_word x) (rule_of_giving a.hold)
rule_of_call plan k a call.WdfRequestSend x y = on_request (is_request_word x) (rule_of_giving a.hold)
rule_of_call plan k a call.WdfRequestMarkCancelableEx x y = on_request (is_request_word x) (rule_of_marking a.hold)
rule_of_call plan k a call.WdfRequestUnmarkCancelable x y = on_request (is_request_word x) (unless (is_own_or_marked a.hold) fault.NotOwned)
rule_of_call plan k a call.WdfRequestIsCanceled x y = on_request (is_request_word x) (unless (is_own a.hold) fault.NotOwned)
rule_of_call plan k a call.WdfRequestStopAcknowledge x y = on_request (is_request_word x && is_zero y) (rule_of_acknowledging plan k a)
rule_of_call plan k a call.WdfSpinLockAcquire x y = rule_of_acquiring a (variable_in x)
rule_of_call plan k a call.WdfWaitLockAcquire x y = rule_of_acquiring a (variable_in x)
rule_of_call plan k a call.WdfSpinLockRelease x y = rule_of_releasing a (variable_in x)
rule_of_call plan k a call.WdfWaitLockRelease x y = rule_of_releasing a (variable_in x)
rule_of_call plan k a call.WdfInterruptAcquireLock x y = rule_of_acquiring_at plan k a (interrupt_in plan k x)
rule_of_call plan k a call.WdfInterruptReleaseLock x y = rule_of_releasing_at a (interrupt_in plan k x)
rule_of_call plan k a _ x y = None

-- ---- the ways that a call goes on where it breaks no rule

-- what a call leaves of the callback's hold, with its answer
pub record Way : Type 0 where
  pub hold : Hold
  pub answer : Known

-- a way with these two
abbrev pub way : Hold → Known → Way
way h v = record { hold = h; answer = v }

-- the three statuses that a walk may learn of a request
abbrev pub success : Known
success = known.Stat status.Success

-- it could not be done
abbrev pub invalid : Known
invalid = known.Stat status.InvalidDeviceRequest

-- it was cancelled
abbrev pub cancelled : Known
cancelled = known.Stat status.Cancelled

-- KMDF: a request that was marked is the callback's again, or EvtRequestCancel has it
abbrev pub ways_of_unmarking : Hold → List Way
ways_of_unmarking hold.Marked = way hold.Own success ∷ way hold.Away cancelled ∷ way hold.Away invalid ∷ []
ways_of_unmarking h = way h cancelled ∷ way h invalid ∷ []

-- KMDF: what each call on a request answers, and who has the request then
abbrev pub ways : CallKind → Hold → List Way
ways call.WdfRequestComplete h = way hold.Away known.Unknown ∷ []
ways call.WdfRequestRequeue h = way hold.Away known.Unknown ∷ []
ways call.WdfRequestForwardToIoQueue h = way hold.Away success ∷ way hold.Own invalid ∷ way hold.Own (known.Stat status.WdfBusy) ∷ []
ways call.WdfRequestSend h = way hold.Away known.One ∷ way hold.Own known.Zero ∷ []
ways call.WdfRequestMarkCancelableEx h = way hold.Marked success ∷ way hold.Own cancelled ∷ way hold.Own invalid ∷ []
ways call.WdfRequestUnmarkCancelable h = ways_of_unmarking h
ways _ h = way h known.Unknown ∷ []

-- rising ids with one more
abbrev pub joined : ℕ → List ℕ → List ℕ
joined i ids = filter (λ other. not (nat_lt i other)) ids ++ i ∷ filter (λ other. nat_lt i other) ids

-- what a call changes beside that
abbrev pub acquired_at : Abstract → Option ℕ → Abstract
acquired_at a None = a
acquired_at a (Some i) = record a { interrupts = joined i a.interrupts }

-- an interrupt's lock is given back
abbrev pub released_at : Abstract → Option ℕ → Abstract
released_at a None = a
released_at a (Some i) = record a { interrupts = without i a.interrupts }

-- a spin or wait lock is taken by a variable
abbrev pub acquired : Abstract → Option ℕ → Abstract
acquired a None = a
acquired a (Some v) = record a { lock = lock.In v }

-- all that a call changes beside the hold and the answer
abbrev pub called : Plan → ℕ → Abstract → CallKind → Option ExprNode → Abstract
called plan k a call.WdfRequestStopAcknowledge x = record a { acknowledged = true }
called plan k a call.WdfSpinLockAcquire x = acquired a (variable_in x)
called plan k a call.WdfWaitLockAcquire x = acquired a (variable_in x)
called plan k a call.WdfSpinLockRelease x = record a { lock = lock.Free }
called plan k a call.WdfWaitLockRelease x = record a { lock = lock.Free }
called plan k a call.WdfInterruptAcquireLock x = acquired_at a (interrupt_in plan k x)
called plan k a call.WdfInterruptReleaseLock x = released_at a (interrupt_in plan k x)
called plan k a _ x = a

-- ---- a statement

-- the rule that a state breaks at its statement, if it does
abbrev pub rule_of_leaving : Abstract → Option Fault
rule_of_leaving a = elim a.interrupts as (λ _. Option Fault) [
  | [] ↦ unless (is_free a.lock) fault.ReturnHoldingLock
  | i ∷ is ↦ Some fault.ReturnHoldingLock
]

-- the same at a statement that is there, or at the callback's end
abbrev pub rule_at : Plan → ℕ → Abstract → Option Statement → Option Fault
rule_at plan k a None = rule_of_leaving a
rule_at plan k a (Some s) = elim s.act as (λ _. Option Fault) [
  | act.Call c into x y z ↦ rule_of_call plan k a c (node_of plan x) (node_of plan y)
  | act.Return e ↦ rule_of_leaving a
  | _ ↦ None
]

-- the statement of a state, none at the end
abbrev pub statement_of : Plan → ℕ → Abstract → Option Statement
statement_of plan k a = slice_get (statements_of plan k) a.at

-- the rule that a state breaks, if it does
abbrev pub breaks : Plan → ℕ → Abstract → Option Fault
breaks plan k a = rule_at plan k a (statement_of plan k a)

-- the states after a call; one that breaks a rule goes on unchanged
abbrev pub by_way : Abstract → ℕ → Option ℕ → Way → Abstract
by_way a next into w = go (answer (record a { hold = w.hold }) into w.answer) next

-- the ways of the call, or one state more where it breaks a rule
abbrev pub after_call : Plan → ℕ → Abstract → ℕ → CallKind → Option ℕ → Option ExprNode → Option Fault → List Abstract
after_call plan k a next c into x None = map (by_way (called plan k a c x) next into) (ways c a.hold)
after_call plan k a next c into x (Some rule) = go (answer a into known.Unknown) next ∷ []

-- one branch where the test is decided, else both
abbrev pub branches : Abstract → ℕ → ℕ → Option Bool → List Abstract
branches a next otherwise None = go a next ∷ go a otherwise ∷ []
branches a next otherwise (Some true) = go a next ∷ []
branches a next otherwise (Some false) = go a otherwise ∷ []

-- the states after one at a statement; after a return, and at the end, none
abbrev pub steps_at : Plan → ℕ → Abstract → Option Statement → List Abstract
steps_at plan k a None = []
steps_at plan k a (Some s) = elim s.act as (λ _. List Abstract) [
  | act.Let v e ↦ go (assign a v (known_of plan a e)) s.next ∷ []
  | act.Call c into x y z ↦ after_call plan k a s.next c into (node_of plan x) (rule_of_call plan k a c (node_of plan x) (node_of plan y))
  | act.Get v register ↦ go (assign a v known.Unknown) s.next ∷ []
  | act.Put register e ↦ go a s.next ∷ []
  | act.If e otherwise ↦ branches a s.next otherwise (decided plan a e)
  | act.Repeat e depth past ↦ go a s.next ∷ go a past ∷ []
  | act.Again depth body ↦ go a body ∷ go a s.next ∷ []
  | act.Spend e ↦ go a s.next ∷ []
  | act.Log e ↦ go a s.next ∷ []
  | act.Return e ↦ []
]

-- the states after a state
abbrev pub steps : Plan → ℕ → Abstract → List Abstract
steps plan k a = steps_at plan k a (statement_of plan k a)
