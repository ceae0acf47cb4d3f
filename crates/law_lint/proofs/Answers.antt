-- A call that is answered is a step of the walk, by one of its ways.
use Rattle.std.proofs.Common.{◌≡◌, ℕ, zero, suc, List, [], ◌∷◌, map, Option, Some, None, slice_get, refl, sym, ap, subst, ◌∙◌}
use Rattle.wdf_base.specs.declared.plan.Plan.{Plan}
use Rattle.wdf_base.specs.declared.value.Value.{Value}
use Rattle.wdf_base.specs.declared.call.Call.{Call}
use Rattle.wdf_base.specs.declared.call.CallKind.{CallKind}
use Rattle.wdf_base.specs.declared.call.CallKind.TheVariants as call
use Rattle.wdf_base.specs.declared.frame.Frame.{Frame}
use Rattle.wdf_base.specs.declared.script.Act.TheVariants as act
use Rattle.wdf_base.specs.declared.script.ExprNode.{ExprNode}
use Rattle.wdf_base.specs.declared.script.Statement.{Statement}
use Rattle.wdf_model.specs.rules.Script.{statement_at}
use Rattle.wdf_model.specs.rules.Steps.{answered, with_answer}
use Rattle.wdf_lint.specs.declared.state.Abstract.{Abstract}
use Rattle.wdf_lint.specs.declared.state.Hold.{Hold}
use Rattle.wdf_lint.specs.declared.state.Known.{Known}
use Rattle.wdf_lint.specs.Abstracts.{answer, go}
use Rattle.wdf_lint.specs.Steps.{Way, acquired, acquired_at, after_call, by_way, called, interrupt_in, node_of, released_at, rule_of_call, statement_of, steps, steps_at, variable_in, ways}
use Rattle.wdf_lint.specs.Walks.{IsIn}
use Rattle.law_lint.proofs.Known.{AllKnown, KnownIs, known_set}
use Rattle.law_lint.proofs.Frames.{Assigned, One, Same, Simulates}
use Rattle.law_lint.proofs.Faults.{Calls}

in_map : {T U : Type 0} (f : T → U) (x : T) (xs : List T) (place : ℕ) → slice_get xs place ≡ Some x → slice_get (map f xs) place ≡ Some (f x)
in_map f x [] place h = absurd (let z : ⊥ = cc in z)
in_map f x (y ∷ ys) zero h = let same : y ≡ x = cc in ap (λ z. Some (f z)) same
in_map f x (y ∷ ys) (suc place) h = in_map f x ys place h

-- what a call changes of locks and acknowledgement leaves the variables
acquired_variables : (a : Abstract) (v : Option ℕ) → (acquired a v).variables ≡ a.variables
acquired_variables a None = refl
acquired_variables a (Some v) = refl

acquired_at_variables : (a : Abstract) (i : Option ℕ) → (acquired_at a i).variables ≡ a.variables
acquired_at_variables a None = refl
acquired_at_variables a (Some i) = refl

released_at_variables : (a : Abstract) (i : Option ℕ) → (released_at a i).variables ≡ a.variables
released_at_variables a None = refl
released_at_variables a (Some i) = refl

called_variables : (plan : Plan) (k : ℕ) (a : Abstract) (c : CallKind) (x : Option ExprNode) → (called plan k a c x).variables ≡ a.variables
called_variables plan k a call.WdfSpinLockAcquire x = acquired_variables a (variable_in x)
called_variables plan k a call.WdfWaitLockAcquire x = acquired_variables a (variable_in x)
called_variables plan k a call.WdfInterruptAcquireLock x = acquired_at_variables a (interrupt_in plan k x)
called_variables plan k a call.WdfInterruptReleaseLock x = released_at_variables a (interrupt_in plan k x)
called_variables plan k a _ x = refl

pub record CallWent (plan : Plan) (a : Abstract) (f : Frame) (h : Hold) (v : Value) (c : CallKind) (x : Option ExprNode) : Type 0 where
  pub state : Abstract
  pub is_in : IsIn state (steps plan f.script a)
  pub simulates : Simulates state (answered plan f v)
  pub hold : state.hold ≡ h
  -- of the rest it says what the call does, and then its answer
  pub assigned : Assigned (called plan f.script a c x) f state (answered plan f v)
  pub interrupts : state.interrupts ≡ (called plan f.script a c x).interrupts
  pub acknowledged : state.acknowledged ≡ (called plan f.script a c x).acknowledged

answer_known : (b : Abstract) (f : Frame) (into : Option ℕ) (k : Known) (v : Value) → KnownIs k v → AllKnown b.variables f.variables → AllKnown (answer b into k).variables (with_answer f into v).variables
answer_known b f None k v is h = h
answer_known b f (Some x) k v is h = known_set b.variables f.variables x k v is h

answer_hold : (b : Abstract) (into : Option ℕ) (k : Known) → (answer b into k).hold ≡ b.hold
answer_hold b None k = refl
answer_hold b (Some x) k = refl

answer_assigned : (b : Abstract) (f : Frame) (into : Option ℕ) (k : Known) (v : Value) (h : Hold) (n : ℕ) → KnownIs k v → Assigned b f (go (answer (record b { hold = h }) into k) n) (record (with_answer (record f { at = n }) into v) { pending = None })
answer_assigned b f None k v h n is = Same refl refl refl
answer_assigned b f (Some x) k v h n is = One x k v is refl refl refl

answer_acknowledged : (b : Abstract) (into : Option ℕ) (k : Known) → (answer b into k).acknowledged ≡ b.acknowledged
answer_acknowledged b None k = refl
answer_acknowledged b (Some x) k = refl

answer_interrupts : (b : Abstract) (into : Option ℕ) (k : Known) → (answer b into k).interrupts ≡ b.interrupts
answer_interrupts b None k = refl
answer_interrupts b (Some x) k = refl

answer_at : (f : Frame) (into : Option ℕ) (v : Value) → (with_answer f into v).at ≡ f.at
answer_at f None v = refl
answer_at f (Some x) v = refl

-- the states after a call that breaks no rule
pub call_went : (plan : Plan) (a : Abstract) (f : Frame) (c : Call) (k : Calls plan f (statement_at plan f) c) (w : Way) (v : Value) → Simulates a f → rule_of_call plan f.script a k.kind (node_of plan k.x) (node_of plan k.y) ≡ None
    → IsIn w (ways k.kind a.hold) → KnownIs w.answer v → CallWent plan a f w.hold v k.kind (node_of plan k.x)
call_went plan a f c k w v s off is knows =
    let st : Statement = record { line = k.line; next = k.next; act = act.Call k.kind k.into k.x k.y k.z } in
    let b : Abstract = called plan f.script a k.kind (node_of plan k.x) in
    let here : statement_of plan f.script a ≡ Some st = rw s.at k.statement in
    let after : steps plan f.script a ≡ map (by_way b k.next k.into) (ways k.kind a.hold) =
    ap (steps_at plan f.script a) here ∙ ap (after_call plan f.script a k.next k.kind k.into (node_of plan k.x)) off in
    let vars : AllKnown b.variables f.variables = subst (λ ks. AllKnown ks f.variables) (sym (called_variables plan f.script a k.kind (node_of plan k.x))) s.known in
    let next : answered plan f v ≡ record (with_answer (record f { at = k.next }) k.into v) { pending = None } = rw k.statement refl in
    record {
      state = by_way b k.next k.into w;
      is_in = (is.0, subst (λ xs. slice_get xs is.0 ≡ Some (by_way b k.next k.into w)) (sym after) (in_map (by_way b k.next k.into) w (ways k.kind a.hold) is.0 is.1));
      simulates = subst (Simulates (by_way b k.next k.into w)) (sym next) (record {
        at = sym (answer_at (record f { at = k.next }) k.into v);
        known = answer_known (record b { hold = w.hold }) (record f { at = k.next }) k.into w.answer v knows vars;
      });
      hold = answer_hold (record b { hold = w.hold }) k.into w.answer;
      assigned = subst (Assigned b f (by_way b k.next k.into w)) (sym next) (answer_assigned b f k.into w.answer v w.hold k.next knows);
      interrupts = answer_interrupts (record b { hold = w.hold }) k.into w.answer;
      acknowledged = answer_acknowledged (record b { hold = w.hold }) k.into w.answer;
    }
