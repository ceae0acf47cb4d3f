-- Where the invariant holds and the plan is clean, no frame has a fault that is about who owns a request; StopAcknowledge is for itself.
use Rattle.std.proofs.Common.{if◌then◌else◌, ◌≡◌, ℕ, ◌==◌, Bool, true, false, ◌&&◌, nat_le, List, [], ◌∷◌, Option, Some, None, find, refl, sym, ap, subst, ◌∙◌}
use Rattle.wdf_base.specs.declared.plan.Plan.{Plan}
use Rattle.wdf_base.specs.declared.value.Value.{Value}
use Rattle.wdf_base.specs.declared.value.Value.TheVariants.{Num, Obj, Stat}
use Rattle.wdf_base.specs.declared.call.Call.{Call}
use Rattle.wdf_base.specs.declared.call.CallKind.{CallKind}
use Rattle.wdf_base.specs.declared.call.CallKind.TheVariants as call
use Rattle.wdf_base.specs.declared.event.Fault.{Fault}
use Rattle.wdf_base.specs.declared.event.Fault.TheVariants as fault
use Rattle.wdf_base.specs.declared.frame.Frame.{Frame}
use Rattle.wdf_base.specs.declared.frame.Change.TheVariants as change
use Rattle.wdf_base.specs.declared.frame.Intent.{Intent}
use Rattle.wdf_base.specs.declared.frame.Intent.TheVariants as intent
use Rattle.wdf_base.specs.declared.script.Act.{Act}
use Rattle.wdf_base.specs.declared.script.Act.TheVariants as act
use Rattle.wdf_base.specs.declared.script.ArgNode.{ArgNode}
use Rattle.wdf_base.specs.declared.script.Statement.{Statement}
use Rattle.wdf_base.specs.declared.words.TheConstants.{FAULTS}
use Rattle.wdf_base.specs.Calls.{signature_of, argument_count}
use Rattle.wdf_base.specs.Same.{same_call_kind}
use Rattle.wdf_model.specs.parts.Cpus.{frame_of}
use Rattle.wdf_model.specs.parts.Requests.{request_of}
use Rattle.wdf_model.specs.State.{State, object_in}
use Rattle.wdf_model.specs.rules.Faults.{View, call_faults, fault_of, holds_of}
use Rattle.wdf_model.specs.rules.Script.{REPEAT_LIMIT, SPEND_LIMIT, act_intent, arg_of, call_of, if_intent, intent_at, intent_of, let_intent, log_intent, put_intent, repeat_intent, return_intent, spend_intent, statement_at, value_of}
use Rattle.wdf_model.specs.rules.Steps.{view_of}
use Rattle.wdf_model.proofs.Tests.{both_right}
use Rattle.wdf_lint.specs.declared.state.Abstract.{Abstract}
use Rattle.wdf_lint.specs.declared.state.Hold.{Hold}
use Rattle.wdf_lint.specs.declared.state.Hold.TheVariants as hold
use Rattle.wdf_lint.specs.Steps.{breaks, is_own_or_marked, is_request_word, is_zero, node_of, rule_at, rule_of_call, statement_of}
use Rattle.wdf_lint.specs.Walks.{IsClean}
use Rattle.law_lint.proofs.Calls.{GripOf}
use Rattle.law_lint.proofs.Acting.{Quiet, on_it, own_argument, quiet, stop_keeps, zero_argument}
use Rattle.law_lint.proofs.Stands.{FrameStands}

-- ---- a call comes from a statement that calls

pub record Calls (plan : Plan) (f : Frame) (s : Option Statement) (c : Call) : Type 0 where
  pub line : ℕ
  pub next : ℕ
  pub kind : CallKind
  pub into : Option ℕ
  pub x : ArgNode
  pub y : ArgNode
  pub z : ArgNode
  pub statement : s ≡ Some (record { line = line; next = next; act = act.Call kind into x y z })
  pub call : c ≡ call_of plan f kind x y z

same_do : {c d : Call} → intent.Do d ≡ intent.Do c → c ≡ d
same_do {c} {d} e = cc

abbrev IsDo : Intent → Type 0
IsDo (intent.Do c) = Unit {0}
IsDo _ = ⊥

let_none : (v n : ℕ) (o : Option Value) → IsDo (let_intent v n o) → ⊥
let_none v n None h = h
let_none v n (Some w) h = h

put_none : (r : ℕ) (o : Option Value) → IsDo (put_intent r o) → ⊥
put_none r None h = h
put_none r (Some (Num n)) h = h
put_none r (Some (Obj n)) h = h
put_none r (Some (Stat n)) h = h

if_none : (n m : ℕ) (o : Option Value) → IsDo (if_intent n m o) → ⊥
if_none n m None h = h
if_none n m (Some (Num v)) h = h
if_none n m (Some (Obj v)) h = h
if_none n m (Some (Stat v)) h = h

within_none : (b : Bool) (i : Intent) → (IsDo i → ⊥) → IsDo (if b then i else intent.Broken) → ⊥
within_none true i off h = off h
within_none false i off h = h

repeat_none : (n d p : ℕ) (o : Option Value) → IsDo (repeat_intent n d p o) → ⊥
repeat_none n d p None h = h
repeat_none n d p (Some (Num v)) h = within_none (nat_le v REPEAT_LIMIT) (intent.Local (change.Count d v) (if v == 0 then p else n)) (λ k. k) h
repeat_none n d p (Some (Obj v)) h = h
repeat_none n d p (Some (Stat v)) h = h

spend_none : (o : Option Value) → IsDo (spend_intent o) → ⊥
spend_none None h = h
spend_none (Some (Num v)) h = within_none (nat_le v SPEND_LIMIT) (intent.Spend v) (λ k. k) h
spend_none (Some (Obj v)) h = h
spend_none (Some (Stat v)) h = h

log_none : (o : Option Value) → IsDo (log_intent o) → ⊥
log_none None h = h
log_none (Some v) h = h

return_none : (o : Option Value) → IsDo (return_intent o) → ⊥
return_none None h = h
return_none (Some v) h = h

is_do : (i : Intent) (c : Call) → i ≡ intent.Do c → IsDo i
is_do i c e = subst IsDo (sym e) tt

call_at : (plan : Plan) (f : Frame) (l n : ℕ) (a : Act) (c : Call) → act_intent plan f n a ≡ intent.Do c → Calls plan f (Some (record { line = l; next = n; act = a })) c
call_at plan f l n (act.Call k into x y z) c e = record { line = l; next = n; kind = k; into = into; x = x; y = y; z = z; statement = refl; call = same_do e }
call_at plan f l n (act.Let v x) c e = absurd (let_none v n (value_of plan f x) (is_do _ c e))
call_at plan f l n (act.Get v r) c e = absurd (is_do (intent.Get r) c e)
call_at plan f l n (act.Put r x) c e = absurd (put_none r (value_of plan f x) (is_do _ c e))
call_at plan f l n (act.If x otherwise) c e = absurd (if_none n otherwise (value_of plan f x) (is_do _ c e))
call_at plan f l n (act.Repeat x depth past) c e = absurd (repeat_none n depth past (value_of plan f x) (is_do _ c e))
call_at plan f l n (act.Again depth body) c e = absurd (is_do (act_intent plan f n (act.Again depth body)) c e)
call_at plan f l n (act.Spend x) c e = absurd (spend_none (value_of plan f x) (is_do _ c e))
call_at plan f l n (act.Log x) c e = absurd (log_none (value_of plan f x) (is_do _ c e))
call_at plan f l n (act.Return x) c e = absurd (return_none (value_of plan f x) (is_do _ c e))

calls_by : (plan : Plan) (f : Frame) (s : Option Statement) (c : Call) → intent_at plan f s ≡ intent.Do c → Calls plan f s c
calls_by plan f None c e = absurd (is_do (intent_at plan f None) c e)
calls_by plan f (Some s) c e = call_at plan f s.line s.next s.act c e

pub calls : (plan : Plan) (f : Frame) (c : Call) → intent_of plan f ≡ intent.Do c → Calls plan f (statement_at plan f) c
calls plan f c e = calls_by plan f (statement_at plan f) c e

-- ---- what is found holds

found_by : {T : Type 0} (p : T → Bool) (x y : T) (ys : List T) (b : Bool) → p y ≡ b → (find p ys ≡ Some x → p x ≡ true) → (if b then Some y else find p ys) ≡ Some x → p x ≡ true
found_by p x y ys true e rest h = let same : y ≡ x = cc in subst (λ z. p z ≡ true) same e
found_by p x y ys false e rest h = rest h

found : {T : Type 0} (p : T → Bool) (x : T) (ys : List T) → find p ys ≡ Some x → p x ≡ true
found p x [] h = absurd (let z : ⊥ = cc in z)
found p x (y ∷ ys) h = found_by p x y ys (p y) refl (found p x ys) h

pub fault_holds : (v : View) (i : Intent) (x : Fault) → fault_of v i ≡ Some x → holds_of v i x ≡ true
fault_holds v i x h = found (holds_of v i) x FAULTS h

-- ---- no fault of owning

own_hold : (h : Hold) → is_own_or_marked h ≡ true → is_own_or_marked h ≡ true
own_hold h e = e

-- what a state asks of a call is so of the frame's request
module _ {A : Type 0} (plan : Plan) (S : State A) (cpu f : ℕ) (a : Abstract) (clean : IsClean plan) (st : FrameStands plan S f a) where
  abbrev frame : Frame
  frame = frame_of S.cpus f

  pub rule_off : (c : Call) (k : Calls plan frame (statement_at plan frame) c) → rule_of_call plan frame.script a k.kind (node_of plan k.x) (node_of plan k.y) ≡ None
  rule_off c k =
      let off : breaks plan frame.script a ≡ None = clean frame.script a st.reached in
      let here : statement_of plan frame.script a ≡ Some (record { line = k.line; next = k.next; act = act.Call k.kind k.into k.x k.y k.z }) = rw st.simulates.at k.statement in
      ap (rule_at plan frame.script a) (sym here) ∙ off

  pub holds_so : (x : ArgNode) → is_request_word (node_of plan x) ≡ true → GripOf a.hold (request_of S.requests (object_in (arg_of plan frame x)))
  holds_so x is = by a.hold refl
    where
      by : (h : Hold) → a.hold ≡ h → GripOf a.hold (request_of S.requests (object_in (arg_of plan frame x)))
      by hold.Away e = subst (λ h. GripOf h (request_of S.requests (object_in (arg_of plan frame x)))) (sym e) tt
      by hold.Stop e = subst (λ h. GripOf h (request_of S.requests (object_in (arg_of plan frame x)))) (sym e) tt
      by hold.Own e =
          let r = st.has (rw e refl) in
          subst (λ n. GripOf a.hold (request_of S.requests n)) (sym (own_argument plan frame x r.0 is r.1)) (st.grips r.0 r.1).0
      by hold.Marked e =
          let r = st.has (rw e refl) in
          subst (λ n. GripOf a.hold (request_of S.requests n)) (sym (own_argument plan frame x r.0 is r.1)) (st.grips r.0 r.1).0

  pub call_quiet : (c : Call) → intent_of plan frame ≡ intent.Do c → same_call_kind c.kind call.WdfRequestStopAcknowledge ≡ false → Quiet (view_of plan S cpu f) c
  call_quiet c does off =
      let k : Calls plan frame (statement_at plan frame) c = calls plan frame c does in
      let kind : c.kind ≡ k.kind = ap (λ (d : Call). d.kind) k.call in
      subst (Quiet (view_of plan S cpu f)) (sym k.call)
      (quiet plan S cpu f _ (arg_of plan frame k.x) (arg_of plan frame k.y) (arg_of plan frame k.z) a k.kind (node_of plan k.x) (node_of plan k.y) frame.script
      (rule_off c k) (sym (ap (λ n. same_call_kind n call.WdfRequestStopAcknowledge) kind) ∙ off) (holds_so k.x))

  -- an acknowledgement's only faults are that it is for a request not held, and that it is a second one
  pub record Keeps (c : Call) : Type 0 where
    pub marked : call_faults (view_of plan S cpu f) c fault.CompleteWhileMarked ≡ false
    pub due : call_faults (view_of plan S cpu f) c fault.CompleteBeforeCancelCallback ≡ false
    pub once : call_faults (view_of plan S cpu f) c fault.MarkedTwice ≡ false

  stop_of : (x y z : ArgNode) (k : CallKind) → same_call_kind k call.WdfRequestStopAcknowledge ≡ true → rule_of_call plan frame.script a k (node_of plan x) (node_of plan y) ≡ None → Keeps (call_of plan frame k x y z)
  stop_of x y z call.WdfRequestStopAcknowledge same off =
      let g = on_it (is_request_word (node_of plan x) && is_zero (node_of plan y)) _ off in
      let q = stop_keeps plan S cpu f (argument_count (signature_of call.WdfRequestStopAcknowledge)) (arg_of plan frame x) (arg_of plan frame y) (arg_of plan frame z) (zero_argument plan frame y (both_right (is_request_word (node_of plan x)) (is_zero (node_of plan y)) g.0)) in
      record { marked = q.0; due = q.1; once = q.2 }
  stop_of x y z _ same off = absurd (let z : ⊥ = cc in z)

  pub stop_quiet : (c : Call) → intent_of plan frame ≡ intent.Do c → same_call_kind c.kind call.WdfRequestStopAcknowledge ≡ true → Keeps c
  stop_quiet c does same =
      let k : Calls plan frame (statement_at plan frame) c = calls plan frame c does in
      let kind : c.kind ≡ k.kind = ap (λ (d : Call). d.kind) k.call in
      subst Keeps (sym k.call) (stop_of k.x k.y k.z k.kind (sym (ap (λ n. same_call_kind n call.WdfRequestStopAcknowledge) kind) ∙ same) (rule_off c k))
