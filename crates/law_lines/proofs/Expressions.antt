-- The values of expressions are values of the plan.
use Rattle.std.proofs.Common.{if◌then◌else◌, ◌≡◌, ℕ, zero, suc, ◌+◌, ◌-◌, ◌*◌, ◌/◌, ◌%◌, ◌==◌, ◌<◌, ◌≤◌, ◌^◌, Bool, true, false, not, ◌&&◌, ◌||◌, nat_lt, nat_le, List, [], ◌∷◌, Option, Some, None, option_map, slice_get, refl, subst, inl, inr, arith}
use Rattle.std.proofs.lemmas.Bool.{or_cases}
use Rattle.std.proofs.lemmas.Nat.{and_le_l, mod_below, or_lt, xor_lt}
use Rattle.std.proofs.Math.Nat.{div-le_self, mod-le}
use Rattle.wdf_base.specs.Resolved.{IsResolved, is_handle, node_fits, nodes_fit}
use Rattle.wdf_base.specs.declared.plan.Plan.{Plan}
use Rattle.wdf_base.specs.declared.ids.Handle.{Handle}
use Rattle.wdf_base.specs.declared.object.Kind.TheVariants as kind
use Rattle.wdf_base.specs.declared.value.Value.{Value}
use Rattle.wdf_base.specs.declared.value.Value.TheVariants.{Num, Obj, Stat}
use Rattle.wdf_base.specs.declared.frame.Frame.{Frame}
use Rattle.wdf_base.specs.declared.script.Operator.{Operator}
use Rattle.wdf_base.specs.declared.script.Operator.TheVariants as operator
use Rattle.wdf_base.specs.declared.script.ContextWord.{ContextWord}
use Rattle.wdf_base.specs.declared.script.ContextWord.TheVariants as context
use Rattle.wdf_base.specs.declared.script.ExprNode.{ExprNode}
use Rattle.wdf_base.specs.declared.script.ExprNode.TheVariants as node
use Rattle.wdf_base.specs.Same.{same_value}
use Rattle.wdf_model.specs.Tables.{flag}
use Rattle.wdf_model.specs.rules.Script.{WORD, context_value, node_value, number_by, numbers_by, operands_by, request_value, value_by, value_of, value_to}
use Rattle.wdf_model.proofs.Tests.{both_left, both_right}
use Rattle.wdf_trace.specs.Events.{IsHandleOf, IsOptionalOf, IsValueOf}
use Rattle.law_lines.proofs.Posting.{handle_of_plan}
use Rattle.law_lines.specs.Fitting.{HasFittingNumbers}
use Rattle.law_lines.specs.Values.{HasFrameValues}

-- ---- numbers

pub flag_small : (b : Bool) → flag b < 2 ^ 64
flag_small true = omega arith
flag_small false = omega arith

-- a number, where there is one, fits 64 bits
abbrev pub FitsIfAny : Option ℕ → Type 0
FitsIfAny None = Unit {0}
FitsIfAny (Some n) = n < 2 ^ 64

either_fits : (b : Bool) (n : ℕ) → n < 2 ^ 64 → FitsIfAny (if b then None else Some n)
either_fits true n h = tt
either_fits false n h = h

number_fits : (op : Operator) (a b : ℕ) → a < 2 ^ 64 → b < 2 ^ 64 → FitsIfAny (number_by op a b)
number_fits operator.Add a b h k = mod_below (a + b) (2 ^ 64) (omega arith)
number_fits operator.Subtract a b h k = mod_below (a + WORD - b) (2 ^ 64) (omega arith)
number_fits operator.Multiply a b h k = mod_below (a * b) (2 ^ 64) (omega arith)
number_fits operator.Divide a b h k = either_fits (b == 0) (a / b) (let less : a / b ≤ a = div-le_self a b in omega (arith, less, h))
number_fits operator.Remainder a b h k = either_fits (b == 0) (a % b) (let less : a % b ≤ a = mod-le a b in omega (arith, less, h))
number_fits operator.BitAnd a b h k = let less = and_le_l a b in omega (arith, less, h)
number_fits operator.BitOr a b h k = or_lt 64 a b h k
number_fits operator.BitXor a b h k = xor_lt 64 a b h k
number_fits operator.Equals a b h k = flag_small (a == b)
number_fits operator.Differs a b h k = flag_small (not (a == b))
number_fits operator.Below a b h k = flag_small (nat_lt a b)
number_fits operator.AtMost a b h k = flag_small (nat_le a b)

-- ---- values

-- a value, where there is one, is a value of the plan
abbrev pub IsResultOf : Plan → Option Value → Type 0
IsResultOf plan None = Unit {0}
IsResultOf plan (Some v) = IsValueOf plan v

as_number : (plan : Plan) (o : Option ℕ) → FitsIfAny o → IsResultOf plan (option_map Num o)
as_number plan None h = tt
as_number plan (Some n) h = h

numbers_of : (plan : Plan) (op : Operator) (a b : Value) → IsValueOf plan a → IsValueOf plan b → IsResultOf plan (numbers_by op a b)
numbers_of plan op (Num a) (Num b) h k = as_number plan (number_by op a b) (number_fits op a b h k)
numbers_of plan op (Num a) (Obj b) h k = tt
numbers_of plan op (Num a) (Stat b) h k = tt
numbers_of plan op (Obj a) b h k = tt
numbers_of plan op (Stat a) b h k = tt

value_by_of : (plan : Plan) (op : Operator) (a b : Value) → IsValueOf plan a → IsValueOf plan b → IsResultOf plan (value_by op a b)
value_by_of plan operator.Equals a b h k = flag_small (same_value a b)
value_by_of plan operator.Differs a b h k = flag_small (not (same_value a b))
value_by_of plan operator.Add a b h k = numbers_of plan operator.Add a b h k
value_by_of plan operator.Subtract a b h k = numbers_of plan operator.Subtract a b h k
value_by_of plan operator.Multiply a b h k = numbers_of plan operator.Multiply a b h k
value_by_of plan operator.Divide a b h k = numbers_of plan operator.Divide a b h k
value_by_of plan operator.Remainder a b h k = numbers_of plan operator.Remainder a b h k
value_by_of plan operator.BitAnd a b h k = numbers_of plan operator.BitAnd a b h k
value_by_of plan operator.BitOr a b h k = numbers_of plan operator.BitOr a b h k
value_by_of plan operator.BitXor a b h k = numbers_of plan operator.BitXor a b h k
value_by_of plan operator.Below a b h k = numbers_of plan operator.Below a b h k
value_by_of plan operator.AtMost a b h k = numbers_of plan operator.AtMost a b h k

operands_of : (plan : Plan) (op : Operator) (a b : Option Value) → IsResultOf plan a → IsResultOf plan b → IsResultOf plan (operands_by op a b)
operands_of plan op None b h k = tt
operands_of plan op (Some a) None h k = tt
operands_of plan op (Some a) (Some b) h k = value_by_of plan op a b h k

result_if : (plan : Plan) (b : Bool) (x : Option Value) → IsResultOf plan x → IsResultOf plan (if b then x else None)
result_if plan true x h = h
result_if plan false x h = tt

carried_of : (plan : Plan) (r : Option Handle) → IsOptionalOf plan r → IsValueOf plan (request_value r)
carried_of plan None h = omega arith
carried_of plan (Some r) h = h

context_of : (plan : Plan) (f : Frame) → HasFrameValues plan f → (word : ContextWord) → IsValueOf plan (context_value f word)
context_of plan f k context.OwnObject = k.own
context_of plan f k context.NearestDevice = k.nearest
context_of plan f k context.OwnRequest = carried_of plan f.request k.carried
context_of plan f k context.RequestLength = k.size
context_of plan f k context.RequestCode = k.control
context_of plan f k context.CompletionStatus = tt

-- ---- nodes

node_at : (plan : Plan) (from : ℕ) (ns : List ExprNode) (k : ℕ) (n : ExprNode) → nodes_fit plan from ns ≡ true → slice_get ns k ≡ Some n → (place : ℕ) × (node_fits plan place n ≡ true)
node_at plan from [] k n h at = absurd (let z : ⊥ = cc in z)
node_at plan from (x ∷ xs) zero n h at =
    let same : x ≡ n = cc in
    (from, subst (λ y. node_fits plan from y ≡ true) same (both_left (node_fits plan from x) (nodes_fit plan (suc from) xs) h))
node_at plan from (x ∷ xs) (suc k) n h at = node_at plan (suc from) xs k n (both_right (node_fits plan from x) (nodes_fit plan (suc from) xs) h) at

object_by : (plan : Plan) → IsResolved plan → (o : Handle) → (is_handle plan kind.Device o || is_handle plan kind.Queue o || is_handle plan kind.Interrupt o || is_handle plan kind.Target o) ≡ true → IsHandleOf plan o
object_by plan h o is = elim (or_cases (is_handle plan kind.Device o || is_handle plan kind.Queue o || is_handle plan kind.Interrupt o) (is_handle plan kind.Target o) is) [
  | inr target ↦ handle_of_plan plan h kind.Target o target
  | inl three ↦ elim (or_cases (is_handle plan kind.Device o || is_handle plan kind.Queue o) (is_handle plan kind.Interrupt o) three) [
    | inr interrupt ↦ handle_of_plan plan h kind.Interrupt o interrupt
    | inl two ↦ elim (or_cases (is_handle plan kind.Device o) (is_handle plan kind.Queue o) two) [
      | inl device ↦ handle_of_plan plan h kind.Device o device
      | inr queue ↦ handle_of_plan plan h kind.Queue o queue
    ]
  ]
]

module _ (plan : Plan) (h : IsResolved plan) (fit : HasFittingNumbers plan) (f : Frame) (k : HasFrameValues plan f) where
  node_of : (operand : ℕ → Option Value) → ((x : ℕ) → IsResultOf plan (operand x)) → (e : ℕ) (n : Option ExprNode) → slice_get plan.exprs e ≡ n → IsResultOf plan (node_value f operand e n)
  node_of operand each e None at = tt
  node_of operand each e (Some (node.Number n)) at = fit.literals e n at
  node_of operand each e (Some (node.Variable v)) at = k.variable v
  node_of operand each e (Some (node.Object o)) at = object_by plan h o (node_at plan 0 plan.exprs e (node.Object o) h.exprs_fit at).1
  node_of operand each e (Some (node.Literal s)) at = tt
  node_of operand each e (Some (node.Context word)) at = context_of plan f k word
  node_of operand each e (Some (node.Binary op left right)) at =
      result_if plan (nat_lt left e && nat_lt right e) (operands_by op (operand left) (operand right)) (operands_of plan op (operand left) (operand right) (each left) (each right))

  value_to_of : (depth e : ℕ) → IsResultOf plan (value_to depth plan f e)
  value_to_of zero e = tt
  value_to_of (suc depth) e = node_of (value_to depth plan f) (value_to_of depth) e (slice_get plan.exprs e) refl

  -- the value of an expression is one of the plan
  pub result_of : (e : ℕ) → IsResultOf plan (value_of plan f e)
  unfolding value_of
  result_of e = value_to_of (suc e) e
