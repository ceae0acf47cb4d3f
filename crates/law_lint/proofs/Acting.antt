-- What a frame is about to do, where a walk's state goes with it and breaks no rule: no fault of requests, and a step of the walk.
use Rattle.std.proofs.Common.{◌≡◌, ℕ, Bool, true, false, not, Option, Some, None, unwrap_or, slice_get, refl, ap, subst, ◌∙◌}
use Rattle.wdf_base.specs.declared.plan.Plan.{Plan}
use Rattle.wdf_base.specs.declared.ids.Handle.{Handle}
use Rattle.wdf_base.specs.declared.value.Value.{Value}
use Rattle.wdf_base.specs.declared.value.Value.TheVariants.{Num}
use Rattle.wdf_base.specs.declared.object.Place.{Place}
use Rattle.wdf_base.specs.declared.object.Place.TheVariants as place
use Rattle.wdf_base.specs.declared.call.Arg.{Arg}
use Rattle.wdf_base.specs.declared.call.Arg.TheVariants.{Val}
use Rattle.wdf_base.specs.declared.call.Call.{Call}
use Rattle.wdf_base.specs.declared.call.CallKind.{CallKind}
use Rattle.wdf_base.specs.declared.call.CallKind.TheVariants as call
use Rattle.wdf_base.specs.declared.event.Fault.{Fault}
use Rattle.wdf_base.specs.declared.event.Fault.TheVariants as fault
use Rattle.wdf_base.specs.declared.frame.Frame.{Frame}
use Rattle.wdf_base.specs.declared.script.ArgNode.{ArgNode}
use Rattle.wdf_base.specs.declared.script.ArgNode.TheVariants as arg
use Rattle.wdf_base.specs.declared.script.ExprNode.{ExprNode}
use Rattle.wdf_base.specs.declared.script.ExprNode.TheVariants as node
use Rattle.wdf_base.specs.declared.script.ContextWord.TheVariants as context
use Rattle.wdf_base.specs.Same.{same_call_kind}
use Rattle.wdf_base.specs.Places.{is_due, is_marked, is_owned}
use Rattle.wdf_model.specs.parts.Requests.{mark_of, place_of, request_of}
use Rattle.wdf_model.specs.parts.Targets.{is_forgotten}
use Rattle.wdf_model.specs.State.{State, held_at, object_in}
use Rattle.wdf_model.specs.rules.Faults.{View, call_faults, gives_up, is_not_owned}
use Rattle.wdf_base.specs.Values.{arg_is}
use Rattle.wdf_model.specs.rules.Script.{arg_of, node_value, request_value, value_of, value_to}
use Rattle.wdf_model.specs.rules.Steps.{view_of}
use Rattle.wdf_model.proofs.Tests.{either_false, right_fails}
use Rattle.wdf_lint.specs.declared.state.Hold.{Hold}
use Rattle.wdf_lint.specs.declared.state.Hold.TheVariants as hold
use Rattle.wdf_lint.specs.declared.state.Abstract.{Abstract}
use Rattle.wdf_lint.specs.Steps.{is_own, is_request_word, is_zero, node_of, on_request, rule_of_call, rule_of_giving, rule_of_marking, unless}
use Rattle.law_lint.proofs.Grips.{Owned}
use Rattle.law_lint.proofs.Calls.{GripOf}

-- ---- the argument

request_node : (f : Frame) (operand : ℕ → Option Value) (e : ℕ) (n : Option ExprNode) → is_request_word n ≡ true → node_value f operand e n ≡ Some (request_value f.request)
request_node f operand e (Some (node.Context context.OwnRequest)) h = refl
request_node f operand e _ h = absurd (let z : ⊥ = cc in z)

request_of_expression : (plan : Plan) (f : Frame) (e : ℕ) → is_request_word (slice_get plan.exprs e) ≡ true → value_of plan f e ≡ Some (request_value f.request)
unfolding value_of
request_of_expression plan f e h = request_node f (value_to e plan f) e (slice_get plan.exprs e) h

-- the argument that is the word `request` is the frame's request
pub own_argument : (plan : Plan) (f : Frame) (x : ArgNode) (r : Handle) → is_request_word (node_of plan x) ≡ true → f.request ≡ Some r → object_in (arg_of plan f x) ≡ r.id.0
own_argument plan f (arg.Expression e) r h is =
    ap (λ (o : Option Value). object_in (Val (unwrap_or o (Num 0)))) (request_of_expression plan f e h) ∙ ap (λ o. object_in (Val (request_value o))) is
own_argument plan f arg.NoArgument r h is = absurd (let z : ⊥ = cc in z)
own_argument plan f (arg.OfClass c) r h is = absurd (let z : ⊥ = cc in z)

-- the argument that is the number 0 is 0
zero_node : (f : Frame) (operand : ℕ → Option Value) (e : ℕ) (n : Option ExprNode) → is_zero n ≡ true → arg_is (Val (unwrap_or (node_value f operand e n) (Num 0))) 0 ≡ true
zero_node f operand e (Some (node.Number n)) h = h
zero_node f operand e _ h = absurd (let z : ⊥ = cc in z)

zero_of_expression : (plan : Plan) (f : Frame) (e : ℕ) → is_zero (slice_get plan.exprs e) ≡ true → arg_is (Val (unwrap_or (value_of plan f e) (Num 0))) 0 ≡ true
unfolding value_of
zero_of_expression plan f e h = zero_node f (value_to e plan f) e (slice_get plan.exprs e) h

pub zero_argument : (plan : Plan) (f : Frame) (y : ArgNode) → is_zero (node_of plan y) ≡ true → arg_is (arg_of plan f y) 0 ≡ true
zero_argument plan f (arg.Expression e) h = zero_of_expression plan f e h
zero_argument plan f arg.NoArgument h = absurd (let z : ⊥ = cc in z)
zero_argument plan f (arg.OfClass c) h = absurd (let z : ⊥ = cc in z)

-- ---- rules that aren't broken

pub on_it : (b : Bool) (x : Option Fault) → on_request b x ≡ None → (b ≡ true) × (x ≡ None)
on_it true x h = (refl, h)
on_it false x h = absurd (let z : ⊥ = cc in z)

pub giving_owns : (h : Hold) → rule_of_giving h ≡ None → h ≡ hold.Own
giving_owns hold.Own e = refl
giving_owns hold.Marked e = absurd (let z : ⊥ = cc in z)
giving_owns hold.Away e = absurd (let z : ⊥ = cc in z)
giving_owns hold.Stop e = absurd (let z : ⊥ = cc in z)

pub marking_owns : (h : Hold) → rule_of_marking h ≡ None → h ≡ hold.Own
marking_owns hold.Own e = refl
marking_owns hold.Marked e = absurd (let z : ⊥ = cc in z)
marking_owns hold.Away e = absurd (let z : ⊥ = cc in z)
marking_owns hold.Stop e = absurd (let z : ⊥ = cc in z)

asking_owns : (h : Hold) → unless (is_own h) fault.NotOwned ≡ None → h ≡ hold.Own
asking_owns hold.Own e = refl
asking_owns hold.Marked e = absurd (let z : ⊥ = cc in z)
asking_owns hold.Away e = absurd (let z : ⊥ = cc in z)
asking_owns hold.Stop e = absurd (let z : ⊥ = cc in z)

-- ---- no fault

pub held_owned : (b : Bool) (p : Place) → is_owned p ≡ true → held_at b p ≡ true
held_owned b place.Owned h = refl
held_owned b (place.Queued q) h = absurd (let z : ⊥ = cc in z)
held_owned b (place.Returning q) h = absurd (let z : ⊥ = cc in z)
held_owned b (place.Closing s) h = absurd (let z : ⊥ = cc in z)
held_owned b (place.Sent t) h = absurd (let z : ⊥ = cc in z)
held_owned b place.Done h = absurd (let z : ⊥ = cc in z)

-- what a call asks of a request that its callback owns is so
abbrev pub calling : CallKind → ℕ → Arg → Arg → Arg → Call
calling k n x y z = record { kind = k; count = n; a = x; b = y; c = z }

-- no fault that is about who owns a request
pub record Quiet (v : View) (c : Call) : Type 0 where
  pub owned : call_faults v c fault.NotOwned ≡ false
  pub marked : call_faults v c fault.CompleteWhileMarked ≡ false
  pub due : call_faults v c fault.CompleteBeforeCancelCallback ≡ false
  pub once : call_faults v c fault.MarkedTwice ≡ false

module _ {A : Type 0} (plan : Plan) (S : State A) (cpu f n : ℕ) (x y z : Arg) where
  abbrev seen : View
  seen = view_of plan S cpu f

  -- a call that gives up an owned request
  owned_gives : (k : CallKind) → is_not_owned seen (calling k n x y z) (object_in x) ≡ not (is_owned (place_of S.requests (object_in x))) → call_faults seen (calling k n x y z) fault.MarkedTwice ≡ false
      → Owned (request_of S.requests (object_in x)) → Quiet seen (calling k n x y z)
  owned_gives k asks twice own = record {
    owned = asks ∙ ap not own.owned;
    marked = right_fails (gives_up (calling k n x y z)) (is_marked (mark_of S.requests (object_in x))) (either_false (is_marked (mark_of S.requests (object_in x))) (is_due (mark_of S.requests (object_in x))) own.off).0;
    due = right_fails (gives_up (calling k n x y z)) (is_due (mark_of S.requests (object_in x))) (either_false (is_marked (mark_of S.requests (object_in x))) (is_due (mark_of S.requests (object_in x))) own.off).1;
    once = twice;
  }

  owned_marks : Owned (request_of S.requests (object_in x)) → Quiet seen (calling call.WdfRequestMarkCancelableEx n x y z)
  owned_marks own = record { owned = ap not own.owned; marked = refl; due = refl; once = own.off }

  owned_asks : Owned (request_of S.requests (object_in x)) → Quiet seen (calling call.WdfRequestIsCanceled n x y z)
  owned_asks own = record { owned = ap not (held_owned (is_forgotten S.targets (object_in x)) (place_of S.requests (object_in x)) own.owned); marked = refl; due = refl; once = refl }

  no_call : (k : CallKind) → call_faults seen (calling k n x y z) fault.NotOwned ≡ false → gives_up (calling k n x y z) ≡ false → same_call_kind k call.WdfRequestMarkCancelableEx ≡ false → Quiet seen (calling k n x y z)
  no_call k owned gives marks = record { owned = owned; marked = rw gives refl; due = rw gives refl; once = rw marks refl }

  -- where the walk's state breaks no rule and the callback has what it says of its request, no call has one of these faults; StopAcknowledge is for itself
  pub quiet : (a : Abstract) (k : CallKind) (px py : Option ExprNode) (script : ℕ) → rule_of_call plan script a k px py ≡ None → same_call_kind k call.WdfRequestStopAcknowledge ≡ false
      → (is_request_word px ≡ true → GripOf a.hold (request_of S.requests (object_in x))) → Quiet seen (calling k n x y z)
  quiet a call.WdfRequestComplete px py script rule off grips = let g = on_it (is_request_word px) (rule_of_giving a.hold) rule in owned_gives call.WdfRequestComplete refl refl (subst (λ h. GripOf h (request_of S.requests (object_in x))) (giving_owns a.hold g.1) (grips g.0))
  quiet a call.WdfRequestRequeue px py script rule off grips = let g = on_it (is_request_word px) (rule_of_giving a.hold) rule in owned_gives call.WdfRequestRequeue refl refl (subst (λ h. GripOf h (request_of S.requests (object_in x))) (giving_owns a.hold g.1) (grips g.0))
  quiet a call.WdfRequestForwardToIoQueue px py script rule off grips = let g = on_it (is_request_word px) (rule_of_giving a.hold) rule in owned_gives call.WdfRequestForwardToIoQueue refl refl (subst (λ h. GripOf h (request_of S.requests (object_in x))) (giving_owns a.hold g.1) (grips g.0))
  quiet a call.WdfRequestSend px py script rule off grips = let g = on_it (is_request_word px) (rule_of_giving a.hold) rule in owned_gives call.WdfRequestSend refl refl (subst (λ h. GripOf h (request_of S.requests (object_in x))) (giving_owns a.hold g.1) (grips g.0))
  quiet a call.WdfRequestMarkCancelableEx px py script rule off grips = let g = on_it (is_request_word px) (rule_of_marking a.hold) rule in owned_marks (subst (λ h. GripOf h (request_of S.requests (object_in x))) (marking_owns a.hold g.1) (grips g.0))
  quiet a call.WdfRequestIsCanceled px py script rule off grips = let g = on_it (is_request_word px) (unless (is_own a.hold) fault.NotOwned) rule in owned_asks (subst (λ h. GripOf h (request_of S.requests (object_in x))) (asking_owns a.hold g.1) (grips g.0))
  quiet a call.WdfRequestStopAcknowledge px py script rule off grips = absurd (let z : ⊥ = cc in z)
  quiet a _ px py script rule off grips = record { owned = refl; marked = refl; due = refl; once = refl }

  -- StopAcknowledge that keeps the request has no fault of marks
  pub stop_keeps : arg_is y 0 ≡ true → (call_faults seen (calling call.WdfRequestStopAcknowledge n x y z) fault.CompleteWhileMarked ≡ false) × (call_faults seen (calling call.WdfRequestStopAcknowledge n x y z) fault.CompleteBeforeCancelCallback ≡ false)
      × (call_faults seen (calling call.WdfRequestStopAcknowledge n x y z) fault.MarkedTwice ≡ false)
  stop_keeps zero = (rw zero refl, rw zero refl, refl)
