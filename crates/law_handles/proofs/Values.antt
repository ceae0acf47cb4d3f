-- The handles that a frame comes to know by its own steps are among those that it knows, those of the plan and those that it is told.
use Rattle.std.proofs.Common.{if◌then◌else◌, ◌≡◌, ℕ, zero, suc, ◌==◌, Bool, true, false, ◌&&◌, nat_le, nat_lt, List, [], ◌∷◌, replicate, slice_set, slice_index_or, Option, Some, None, option_map, unwrap_or, slice_get, refl}
use Rattle.std.specs.Prelude.{⊤}
use Rattle.wdf_base.specs.declared.plan.Plan.{Plan}
use Rattle.wdf_base.specs.declared.ids.Handle.{Handle}
use Rattle.wdf_base.specs.declared.call.Arg.{Arg}
use Rattle.wdf_base.specs.declared.call.Arg.TheVariants.{Class, Val}
use Rattle.wdf_base.specs.declared.call.Call.{Call}
use Rattle.wdf_base.specs.declared.frame.Change.{Change}
use Rattle.wdf_base.specs.declared.frame.Change.TheVariants as change
use Rattle.wdf_base.specs.declared.frame.Frame.{Frame}
use Rattle.wdf_base.specs.declared.frame.Intent.{Intent}
use Rattle.wdf_base.specs.declared.frame.Intent.TheVariants as intent
use Rattle.wdf_base.specs.declared.frame.Pending.{Pending}
use Rattle.wdf_base.specs.declared.script.Act.{Act}
use Rattle.wdf_base.specs.declared.script.Act.TheVariants as act
use Rattle.wdf_base.specs.declared.script.ArgNode.{ArgNode}
use Rattle.wdf_base.specs.declared.script.ArgNode.TheVariants as arg
use Rattle.wdf_base.specs.declared.script.ContextWord.{ContextWord}
use Rattle.wdf_base.specs.declared.script.ContextWord.TheVariants as context
use Rattle.wdf_base.specs.declared.script.ExprNode.{ExprNode}
use Rattle.wdf_base.specs.declared.script.ExprNode.TheVariants as node
use Rattle.wdf_base.specs.declared.script.Operator.{Operator}
use Rattle.wdf_base.specs.declared.script.Operator.TheVariants as operator
use Rattle.wdf_base.specs.declared.script.Statement.{Statement}
use Rattle.wdf_base.specs.declared.value.Value.{Value}
use Rattle.wdf_base.specs.declared.value.Value.TheVariants.{Num, Obj, Stat}
use Rattle.wdf_model.specs.State.{State}
use Rattle.wdf_model.specs.rules.Script.{act_intent, arg_of, context_value, if_intent, intent_at, intent_of, let_intent, log_intent, node_value, number_by, numbers_by, operands_by, put_intent, repeat_intent, request_value, return_intent, spend_intent, statement_at, value_by, value_of, value_to}
use Rattle.wdf_model.specs.rules.Steps.{answered, at_next, goes_on, result_of, spending, stepped, waiting, with_answer}
use Rattle.law_handles.specs.Handles.{InArg, InCall, InFrame, InOption, InPending, InValue}

-- ---- what is so of more handles

module _ (P Q : Handle → Type 0) (more : (h : Handle) → P h → Q h) where
  pub value_more : (v : Value) → InValue P v → InValue Q v
  value_more (Num n) k = tt
  value_more (Stat s) k = tt
  value_more (Obj h) k = more h k

  arg_more : (a : Arg) → InArg P a → InArg Q a
  arg_more (Val v) k = value_more v k
  arg_more (Class c) k = tt

  pending_more : (p : Option Pending) → InPending P p → InPending Q p
  pending_more None k = tt
  pending_more (Some p) k = ((arg_more p.call.a k.0.0, arg_more p.call.b k.0.1, arg_more p.call.c k.0.2), value_more p.answer k.1)

  option_more : (o : Option Handle) → InOption P o → InOption Q o
  option_more None k = tt
  option_more (Some h) k = more h k

  pub frame_more : (f : Frame) → InFrame P f → InFrame Q f
  frame_more f k = record {
    own = more f.object k.own;
    nearest = more f.device k.nearest;
    carried = option_more f.request k.carried;
    variable = λ v. value_more (slice_index_or f.variables v (Num 0)) (k.variable v);
    waits = pending_more f.pending k.waits;
  }

module _ (P : Handle → Type 0) where
  -- ---- lists of values

  -- what is read is such a value, in the list or past it
  abbrev pub InValues : List Value → Type 0
  InValues vs = (k : ℕ) → InValue P (slice_index_or vs k (Num 0))

  pub value_set : (vs : List Value) (i : ℕ) (v : Value) → InValue P v → InValues vs → InValues (slice_set vs i v)
  value_set [] i v h each k = each k
  value_set (x ∷ xs) zero v h each zero = h
  value_set (x ∷ xs) zero v h each (suc k) = each (suc k)
  value_set (x ∷ xs) (suc i) v h each zero = each zero
  value_set (x ∷ xs) (suc i) v h each (suc k) = value_set xs i v h (λ j. each (suc j)) k

  pub zeros : (n : ℕ) → InValues (replicate n (Num 0))
  zeros zero k = tt
  zeros (suc n) zero = tt
  zeros (suc n) (suc k) = zeros n k

  -- ---- values of expressions

  abbrev pub InResult : Option Value → Type 0
  InResult None = ⊤
  InResult (Some v) = InValue P v

  as_number : (o : Option ℕ) → InResult (option_map Num o)
  as_number None = tt
  as_number (Some n) = tt

  numbers_in : (op : Operator) (a b : Value) → InResult (numbers_by op a b)
  numbers_in op (Num a) (Num b) = as_number (number_by op a b)
  numbers_in op (Num a) (Obj b) = tt
  numbers_in op (Num a) (Stat b) = tt
  numbers_in op (Obj a) b = tt
  numbers_in op (Stat a) b = tt

  value_in : (op : Operator) (a b : Value) → InResult (value_by op a b)
  value_in operator.Equals a b = tt
  value_in operator.Differs a b = tt
  value_in operator.Add a b = numbers_in operator.Add a b
  value_in operator.Subtract a b = numbers_in operator.Subtract a b
  value_in operator.Multiply a b = numbers_in operator.Multiply a b
  value_in operator.Divide a b = numbers_in operator.Divide a b
  value_in operator.Remainder a b = numbers_in operator.Remainder a b
  value_in operator.BitAnd a b = numbers_in operator.BitAnd a b
  value_in operator.BitOr a b = numbers_in operator.BitOr a b
  value_in operator.BitXor a b = numbers_in operator.BitXor a b
  value_in operator.Below a b = numbers_in operator.Below a b
  value_in operator.AtMost a b = numbers_in operator.AtMost a b

  operands_in : (op : Operator) (a b : Option Value) → InResult (operands_by op a b)
  operands_in op None b = tt
  operands_in op (Some a) None = tt
  operands_in op (Some a) (Some b) = value_in op a b

  result_if : (b : Bool) (x : Option Value) → InResult x → InResult (if b then x else None)
  result_if true x h = h
  result_if false x h = tt

  carried_in : (r : Option Handle) → InOption P r → InValue P (request_value r)
  carried_in None h = tt
  carried_in (Some r) h = h

  context_in : (f : Frame) → InFrame P f → (word : ContextWord) → InValue P (context_value f word)
  context_in f k context.OwnObject = k.own
  context_in f k context.NearestDevice = k.nearest
  context_in f k context.OwnRequest = carried_in f.request k.carried
  context_in f k context.RequestLength = tt
  context_in f k context.RequestCode = tt
  context_in f k context.CompletionStatus = tt

  module _ (plan : Plan) (literals : (e : ℕ) (o : Handle) → slice_get plan.exprs e ≡ Some (node.Object o) → P o) (f : Frame) (k : InFrame P f) where
    node_in : (operand : ℕ → Option Value) (e : ℕ) (n : Option ExprNode) → slice_get plan.exprs e ≡ n → InResult (node_value f operand e n)
    node_in operand e None at = tt
    node_in operand e (Some (node.Number n)) at = tt
    node_in operand e (Some (node.Variable v)) at = k.variable v
    node_in operand e (Some (node.Object o)) at = literals e o at
    node_in operand e (Some (node.Literal s)) at = tt
    node_in operand e (Some (node.Context word)) at = context_in f k word
    node_in operand e (Some (node.Binary op left right)) at = result_if (nat_lt left e && nat_lt right e) (operands_by op (operand left) (operand right)) (operands_in op (operand left) (operand right))

    result_in : (e : ℕ) → InResult (value_of plan f e)
    unfolding value_of
    result_in e = node_in (value_to e plan f) e (slice_get plan.exprs e) refl

    -- ---- what a frame is about to do

    abbrev InChange : Change → Type 0
    InChange (change.Assign variable v) = InValue P v
    InChange change.Branch = ⊤
    InChange (change.Count depth left) = ⊤

    abbrev pub InIntent : Intent → Type 0
    InIntent (intent.Local c next) = InChange c
    InIntent (intent.Log v) = ⊤
    InIntent (intent.Spend n) = ⊤
    InIntent (intent.Get r) = ⊤
    InIntent (intent.Put r n) = ⊤
    InIntent (intent.Do c) = InCall P c
    InIntent (intent.Return v) = ⊤
    InIntent intent.Broken = ⊤

    either_intent : (b : Bool) (i : Intent) → InIntent i → InIntent (if b then i else intent.Broken)
    either_intent true i h = h
    either_intent false i h = tt

    let_in : (variable next : ℕ) (o : Option Value) → InResult o → InIntent (let_intent variable next o)
    let_in variable next None h = tt
    let_in variable next (Some v) h = h

    put_in : (r : ℕ) (o : Option Value) → InIntent (put_intent r o)
    put_in r None = tt
    put_in r (Some (Num n)) = tt
    put_in r (Some (Obj h)) = tt
    put_in r (Some (Stat s)) = tt

    if_in : (next otherwise : ℕ) (o : Option Value) → InIntent (if_intent next otherwise o)
    if_in next otherwise None = tt
    if_in next otherwise (Some (Num n)) = tt
    if_in next otherwise (Some (Obj h)) = tt
    if_in next otherwise (Some (Stat s)) = tt

    repeat_in : (next depth past : ℕ) (o : Option Value) → InIntent (repeat_intent next depth past o)
    repeat_in next depth past (Some (Num n)) = either_intent (nat_le n 1000) (intent.Local (change.Count depth n) (if n == 0 then past else next)) tt
    repeat_in next depth past None = tt
    repeat_in next depth past (Some (Obj h)) = tt
    repeat_in next depth past (Some (Stat s)) = tt

    spend_in : (o : Option Value) → InIntent (spend_intent o)
    spend_in (Some (Num n)) = either_intent (nat_le n 1000000) (intent.Spend n) tt
    spend_in None = tt
    spend_in (Some (Obj h)) = tt
    spend_in (Some (Stat s)) = tt

    log_in : (o : Option Value) → InIntent (log_intent o)
    log_in None = tt
    log_in (Some v) = tt

    return_in : (o : Option Value) → InIntent (return_intent o)
    return_in None = tt
    return_in (Some v) = tt

    or_zero : (o : Option Value) → InResult o → InValue P (unwrap_or o (Num 0))
    or_zero None h = tt
    or_zero (Some v) h = h

    argument_in : (a : ArgNode) → InArg P (arg_of plan f a)
    argument_in arg.NoArgument = tt
    argument_in (arg.Expression e) = or_zero (value_of plan f e) (result_in e)
    argument_in (arg.OfClass c) = tt

    act_in : (next : ℕ) (a : Act) → InIntent (act_intent plan f next a)
    act_in next (act.Let variable e) = let_in variable next (value_of plan f e) (result_in e)
    act_in next (act.Call kind into a b c) = (argument_in a, argument_in b, argument_in c)
    act_in next (act.Get variable r) = tt
    act_in next (act.Put r e) = put_in r (value_of plan f e)
    act_in next (act.If e otherwise) = if_in next otherwise (value_of plan f e)
    act_in next (act.Repeat e depth past) = repeat_in next depth past (value_of plan f e)
    act_in next (act.Again depth body) = tt
    act_in next (act.Spend e) = spend_in (value_of plan f e)
    act_in next (act.Log e) = log_in (value_of plan f e)
    act_in next (act.Return e) = return_in (value_of plan f e)

    statement_in : (o : Option Statement) → InIntent (intent_at plan f o)
    statement_in None = tt
    statement_in (Some s) = act_in s.next s.act

    pub intent_in : InIntent (intent_of plan f)
    intent_in = statement_in (statement_at plan f)

    -- ---- a frame after a step of its own

    at_next_in : (o : Option Statement) → InFrame P (at_next f o)
    at_next_in None = k
    at_next_in (Some s) = record { own = k.own; nearest = k.nearest; carried = k.carried; variable = k.variable; waits = k.waits }

    pub goes_on_in : InFrame P (goes_on plan f)
    goes_on_in = at_next_in (statement_at plan f)

    pub spending_in : {A : Type 0} (S : State A) (n : ℕ) → InFrame P (spending plan S f n)
    spending_in S n = record { own = goes_on_in.own; nearest = goes_on_in.nearest; carried = goes_on_in.carried; variable = goes_on_in.variable; waits = goes_on_in.waits }

    with_answer_in : (g : Frame) (o : Option ℕ) (v : Value) → InValue P v → InFrame P g → InFrame P (with_answer g o v)
    with_answer_in g None v h j = j
    with_answer_in g (Some variable) v h j = record { own = j.own; nearest = j.nearest; carried = j.carried; variable = value_set g.variables variable v h j.variable; waits = j.waits }

    pub answered_in : (v : Value) → InValue P v → InFrame P (answered plan f v)
    answered_in v h =
        let g = with_answer_in (goes_on plan f) (result_of (statement_at plan f)) v h goes_on_in in
        record { own = g.own; nearest = g.nearest; carried = g.carried; variable = g.variable; waits = tt }

    pub waits_in : (c : Call) (v : Value) → InCall P c → InValue P v → InFrame P (waiting f c v)
    waits_in c v is h = record { own = k.own; nearest = k.nearest; carried = k.carried; variable = k.variable; waits = (is, h) }

    pub stepped_in : (i : Intent) → InIntent i → InFrame P (stepped f i)
    stepped_in (intent.Local (change.Assign variable v) next) is = record { own = k.own; nearest = k.nearest; carried = k.carried; variable = value_set f.variables variable v is k.variable; waits = k.waits }
    stepped_in (intent.Local change.Branch next) is = record { own = k.own; nearest = k.nearest; carried = k.carried; variable = k.variable; waits = k.waits }
    stepped_in (intent.Local (change.Count depth left) next) is = record { own = k.own; nearest = k.nearest; carried = k.carried; variable = k.variable; waits = k.waits }
    stepped_in (intent.Log v) is = k
    stepped_in (intent.Spend n) is = k
    stepped_in (intent.Get r) is = k
    stepped_in (intent.Put r n) is = k
    stepped_in (intent.Do c) is = k
    stepped_in (intent.Return v) is = k
    stepped_in intent.Broken is = k
