-- The value of an expression, by the values of its operands.
use Rattle.std.proofs.Common.{if◌then◌else◌, ◌≡◌, ℕ, zero, suc, ◌<◌, ◌≤◌, nat_lt, Bool, true, false, ◌&&◌, length, Option, Some, None, slice_get, IsTrue, IsSome, refl, ap, ◌∙◌, arith}
use Rattle.std.proofs.lemmas.Bool.Decides.{nat_tests}
use Rattle.std.proofs.lemmas.Option.{slice_get_past}
use Rattle.wdf_base.specs.declared.plan.Plan.{Plan}
use Rattle.wdf_base.specs.declared.frame.Frame.{Frame}
use Rattle.wdf_base.specs.declared.value.Value.{Value}
use Rattle.wdf_base.specs.declared.script.ExprNode.{ExprNode}
use Rattle.wdf_base.specs.declared.script.ExprNode.TheVariants as node
use Rattle.wdf_base.specs.declared.script.Operator.{Operator}
use Rattle.wdf_model.specs.rules.Script.{value_of, value_to, node_value, operands_by}
use Rattle.wdf_script.specs.Errors.{is_atom}

-- ---- what is below

below : (a b : ℕ) → a < b → nat_lt a b ≡ true
below a b h = grind (arith, nat_tests)

not_below : (a b : ℕ) → b ≤ a → nat_lt a b ≡ false
not_below a b h = grind (arith, nat_tests)

is_below : (a b : ℕ) → nat_lt a b ≡ true → a < b
is_below a b h = grind (arith, nat_tests)

-- ---- deep enough is deep enough

both_same : (of other : ℕ → Option Value) (op : Operator) (e left right : ℕ) (a b : Bool) → nat_lt left e ≡ a → nat_lt right e ≡ b → ((k : ℕ) → k < e → of k ≡ other k)
    → (if a && b then operands_by op (of left) (of right) else None) ≡ (if a && b then operands_by op (other left) (other right) else None)
both_same of other op e left right true true h k same = rw (same left (is_below left e h), same right (is_below right e k)) refl
both_same of other op e left right true false h k same = refl
both_same of other op e left right false b h k same = refl

same_node : (f : Frame) (of other : ℕ → Option Value) (e : ℕ) (n : Option ExprNode) → ((k : ℕ) → k < e → of k ≡ other k) → node_value f of e n ≡ node_value f other e n
same_node f of other e None same = refl
same_node f of other e (Some (node.Number n)) same = refl
same_node f of other e (Some (node.Variable v)) same = refl
same_node f of other e (Some (node.Object h)) same = refl
same_node f of other e (Some (node.Literal s)) same = refl
same_node f of other e (Some (node.Context word)) same = refl
same_node f of other e (Some (node.Binary op left right)) same = both_same of other op e left right (nat_lt left e) (nat_lt right e) refl refl same

enough : (n m : ℕ) (plan : Plan) (f : Frame) (e : ℕ) → e < n → e < m → value_to n plan f e ≡ value_to m plan f e
enough zero m plan f e h k = absurd (omega arith)
enough (suc n) zero plan f e h k = absurd (omega arith)
enough (suc n) (suc m) plan f e h k = same_node f (value_to n plan f) (value_to m plan f) e (slice_get plan.exprs e) (λ x less. enough n m plan f x (omega arith) (omega arith))

-- ---- one node

-- the value of a node, by the values of expressions
pub value-node : (plan : Plan) (f : Frame) (e : ℕ) (n : ExprNode) → slice_get plan.exprs e ≡ Some n → value_of plan f e ≡ node_value f (value_of plan f) e (Some n)
unfolding value_of
value-node plan f e n here =
    ap (node_value f (value_to e plan f) e) here
    ∙ same_node f (value_to e plan f) (λ k. value_to (suc k) plan f k) e (Some n) (λ k less. enough e (suc k) plan f k less (omega arith))

-- a node that is not there has no value
pub value-past : (plan : Plan) (f : Frame) (e : ℕ) → length plan.exprs ≤ e → value_of plan f e ≡ None
unfolding value_of
value-past plan f e h = ap (node_value f (value_to e plan f) e) (slice_get_past plan.exprs e h)

-- the value of an operator's node, by the values of its operands
pub operator_of_operands : (plan : Plan) (f : Frame) (e left right : ℕ) (op : Operator)
    → slice_get plan.exprs e ≡ Some (node.Binary op left right) → left < e → right < e
    → value_of plan f e ≡ operands_by op (value_of plan f left) (value_of plan f right)
operator_of_operands plan f e left right op here before before' = rw (value-node plan f e (node.Binary op left right) here, below left e before, below right e before') refl

-- an operand that isn't before its operator leaves no value
no_left : (a b : Bool) (v : Option Value) → a ≡ false → (if a && b then v else None) ≡ None
no_left a b v h = rw h refl

no_right : (a b : Bool) (v : Option Value) → b ≡ false → (if a && b then v else None) ≡ None
no_right true b v h = rw h refl
no_right false b v h = refl

pub value-left-late : (plan : Plan) (f : Frame) (e left right : ℕ) (op : Operator)
    → slice_get plan.exprs e ≡ Some (node.Binary op left right) → e ≤ left → value_of plan f e ≡ None
value-left-late plan f e left right op here late = value-node plan f e (node.Binary op left right) here ∙ no_left (nat_lt left e) (nat_lt right e) _ (not_below left e late)

pub value-right-late : (plan : Plan) (f : Frame) (e left right : ℕ) (op : Operator)
    → slice_get plan.exprs e ≡ Some (node.Binary op left right) → e ≤ right → value_of plan f e ≡ None
value-right-late plan f e left right op here late = value-node plan f e (node.Binary op left right) here ∙ no_right (nat_lt left e) (nat_lt right e) _ (not_below right e late)

-- an atom has a value
atom-value : (f : Frame) (of : ℕ → Option Value) (e : ℕ) (n : ExprNode) → IsTrue (is_atom n) → IsSome (node_value f of e (Some n))
atom-value f of e (node.Binary op left right) atom = absurd (let z : ⊥ = cc in z)
atom-value f of e _ atom = refl

pub atom_has_value : (plan : Plan) (f : Frame) (e : ℕ) (n : ExprNode) → slice_get plan.exprs e ≡ Some n → IsTrue (is_atom n)
    → IsSome (value_of plan f e)
atom_has_value plan f e n here atom = rw (value-node plan f e n here) (atom-value f (value_of plan f) e n atom)
