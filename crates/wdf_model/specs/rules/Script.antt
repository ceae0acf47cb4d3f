-- Scripts: what the next statement of a frame does, with its expressions evaluated.
-- The statements, the expressions and their limits are this project's. (own)
use Rattle.std.specs.Prelude.{if◌then◌else◌, ℕ, ◌+◌, ◌-◌, ◌*◌, ◌/◌, ◌%◌, ◌^◌, ◌==◌, nat_lt, nat_le, not, Option, Some, None, unwrap_or, option_map, slice_get, slice_index_or, bit_and, bit_or, bit_xor, zero, suc, ◌&&◌}
use Rattle.wdf_base.specs.declared.plan.Plan.{Plan}
use Rattle.wdf_base.specs.declared.ids.Handle.{Handle}
use Rattle.wdf_base.specs.declared.value.Value.{Value}
use Rattle.wdf_base.specs.declared.value.Value.TheVariants.{Num, Obj, Stat}
use Rattle.wdf_base.specs.declared.value.Status.TheVariants as status
use Rattle.wdf_base.specs.declared.call.Arg.{Arg}
use Rattle.wdf_base.specs.declared.call.Arg.TheVariants.{Val, Class}
use Rattle.wdf_base.specs.declared.call.Call.{Call}
use Rattle.wdf_base.specs.declared.call.CallKind.{CallKind}
use Rattle.wdf_base.specs.declared.frame.Frame.{Frame}
use Rattle.wdf_base.specs.declared.frame.Intent.{Intent}
use Rattle.wdf_base.specs.declared.frame.Intent.TheVariants as intent
use Rattle.wdf_base.specs.declared.frame.Change.TheVariants as change
use Rattle.wdf_base.specs.declared.script.Operator.{Operator}
use Rattle.wdf_base.specs.declared.script.Operator.TheVariants as operator
use Rattle.wdf_base.specs.declared.script.ContextWord.{ContextWord}
use Rattle.wdf_base.specs.declared.script.ContextWord.TheVariants as context
use Rattle.wdf_base.specs.declared.script.ExprNode.{ExprNode}
use Rattle.wdf_base.specs.declared.script.ExprNode.TheVariants as node
use Rattle.wdf_base.specs.declared.script.ArgNode.{ArgNode}
use Rattle.wdf_base.specs.declared.script.ArgNode.TheVariants as arg
use Rattle.wdf_base.specs.declared.script.Act.{Act}
use Rattle.wdf_base.specs.declared.script.Act.TheVariants as act
use Rattle.wdf_base.specs.declared.script.Statement.{Statement}
use Rattle.wdf_base.specs.Calls.{signature_of, argument_count}
use Rattle.wdf_base.specs.Plan.{statements_of}
use Rattle.wdf_base.specs.Same.{same_value}
use Rattle.wdf_model.specs.Tables.{flag}

-- ---- expressions

-- numbers have 64 bits and wrap
abbrev pub WORD : ℕ
WORD = 2 ^ 64

-- a quotient, none where the divisor is zero
abbrev pub quotient : ℕ → ℕ → Option ℕ
quotient a b = if b == 0 then None else Some (a / b)

-- a remainder, none where the divisor is zero
abbrev pub remainder : ℕ → ℕ → Option ℕ
remainder a b = if b == 0 then None else Some (a % b)

-- the operators on the numbers a and b. Sums, differences and products wrap; a comparison gives 1 or 0; only a zero
-- divisor gives none.
abbrev pub number_by : Operator → ℕ → ℕ → Option ℕ
number_by operator.Add a b = Some ((a + b) % WORD)
number_by operator.Subtract a b = Some ((a + WORD - b) % WORD)
number_by operator.Multiply a b = Some ((a * b) % WORD)
number_by operator.Divide a b = quotient a b
number_by operator.Remainder a b = remainder a b
number_by operator.BitAnd a b = Some (bit_and a b)
number_by operator.BitOr a b = Some (bit_or a b)
number_by operator.BitXor a b = Some (bit_xor a b)
number_by operator.Equals a b = Some (flag (a == b))
number_by operator.Differs a b = Some (flag (not (a == b)))
number_by operator.Below a b = Some (flag (nat_lt a b))
number_by operator.AtMost a b = Some (flag (nat_le a b))

-- an operator on two values that have to be numbers; none, which is a script error, for statuses and handles
abbrev pub numbers_by : Operator → Value → Value → Option Value
numbers_by op (Num a) (Num b) = option_map Num (number_by op a b)
numbers_by op _ _ = None

-- equality takes any two values, and values of different kinds differ; the other operators take numbers
abbrev pub value_by : Operator → Value → Value → Option Value
value_by operator.Equals a b = Some (Num (flag (same_value a b)))
value_by operator.Differs a b = Some (Num (flag (not (same_value a b))))
value_by op a b = numbers_by op a b

-- an operator on two operands; none where one of them has no value
abbrev pub operands_by : Operator → Option Value → Option Value → Option Value
operands_by op (Some a) (Some b) = value_by op a b
operands_by op _ _ = None

-- the word `request`: the callback's request, or the number 0 where it has none
abbrev pub request_value : Option Handle → Value
request_value None = Num 0
request_value (Some r) = Obj r

-- the words of the running callback, in this order: `self`, `device`, `request`, `length`, `code`, `status`
abbrev pub context_value : Frame → ContextWord → Value
context_value f context.OwnObject = Obj f.object
context_value f context.NearestDevice = Obj f.device
context_value f context.OwnRequest = request_value f.request
context_value f context.RequestLength = Num f.length
context_value f context.RequestCode = Num f.code
context_value f context.CompletionStatus = Stat f.status

-- the value of node e of an expression, by those of its operands, whose numbers are less; none where there is a
-- script error
abbrev pub node_value : Frame → (ℕ → Option Value) → ℕ → Option ExprNode → Option Value
-- a number that no node has
node_value f operand e None = None
node_value f operand e (Some (node.Number n)) = Some (Num n)
node_value f operand e (Some (node.Variable v)) = Some (slice_index_or f.variables v (Num 0))
node_value f operand e (Some (node.Object h)) = Some (Obj h)
node_value f operand e (Some (node.Literal s)) = Some (Stat s)
node_value f operand e (Some (node.Context word)) = Some (context_value f word)
node_value f operand e (Some (node.Binary op left right)) = if nat_lt left e && nat_lt right e then operands_by op (operand left) (operand right) else None

-- the value of node e, if its operands go no deeper than this
abbrev pub value_to : ℕ → Plan → Frame → ℕ → Option Value
value_to zero plan f e = None
value_to (suc depth) plan f e = node_value f (value_to depth plan f) e (slice_get plan.exprs e)

-- the value of expression e in frame f, none where it has a zero divisor or a value of the wrong kind
unfoldable pub value_of : Plan → Frame → ℕ → Option Value
value_of plan f e = value_to (suc e) plan f e

-- ---- statements

-- the greatest number of turns of a `repeat`; a greater one is a script error
abbrev pub REPEAT_LIMIT : ℕ
REPEAT_LIMIT = 1000

-- the greatest number of ticks of a `spend`; a greater one is a script error
abbrev pub SPEND_LIMIT : ℕ
SPEND_LIMIT = 1000000

-- a `let`: the variable takes the value, and the frame goes on at statement `next`; broken where there is no value
abbrev pub let_intent : ℕ → ℕ → Option Value → Intent
let_intent variable next None = intent.Broken
let_intent variable next (Some v) = intent.Local (change.Assign variable v) next

-- a `put`: the register takes the value, which has to be a number
abbrev pub put_intent : ℕ → Option Value → Intent
put_intent register (Some (Num n)) = intent.Put register n
put_intent register _ = intent.Broken

-- an `if`: a number other than 0 takes the first branch, at statement `next`, and 0 takes the other; broken where
-- the value is no number
abbrev pub if_intent : ℕ → ℕ → Option Value → Intent
if_intent next otherwise (Some (Num n)) = intent.Local change.Branch (if n == 0 then otherwise else next)
if_intent next otherwise _ = intent.Broken

-- a `repeat` whose number is n: n turns of the body, which begins at `next`, are left, or for 0 it is passed.
-- Broken where n is no number, or over the limit.
abbrev pub repeat_intent : ℕ → ℕ → ℕ → Option Value → Intent
repeat_intent next depth past (Some (Num n)) =
    if nat_le n REPEAT_LIMIT then intent.Local (change.Count depth n) (if n == 0 then past else next) else intent.Broken
repeat_intent next depth past _ = intent.Broken

-- at the body's end, with so many turns left, that one included: back to the body's start, or on to `next` where
-- all turns are done
abbrev pub again_intent : ℕ → ℕ → ℕ → ℕ → Intent
again_intent next depth body left = intent.Local (change.Count depth (left - 1)) (if left - 1 == 0 then next else body)

-- a `spend`: so many ticks, a number up to the limit
abbrev pub spend_intent : Option Value → Intent
spend_intent (Some (Num n)) = if nat_le n SPEND_LIMIT then intent.Spend n else intent.Broken
spend_intent _ = intent.Broken

-- a `log` of any value
abbrev pub log_intent : Option Value → Intent
log_intent None = intent.Broken
log_intent (Some v) = intent.Log v

-- a `return` of any value
abbrev pub return_intent : Option Value → Intent
return_intent None = intent.Broken
return_intent (Some v) = intent.Return v

-- an argument of a call: an atom, which always has a value, or a class; 0 where the call has no such argument
abbrev pub arg_of : Plan → Frame → ArgNode → Arg
arg_of plan f arg.NoArgument = Val (Num 0)
arg_of plan f (arg.Expression e) = Val (unwrap_or (value_of plan f e) (Num 0))
arg_of plan f (arg.OfClass c) = Class c

-- call k with its three arguments as frame f has them; `count` says how many of the three it has
abbrev pub call_of : Plan → Frame → CallKind → ArgNode → ArgNode → ArgNode → Call
call_of plan f k a b c = record {
  kind = k;
  count = argument_count (signature_of k);
  a = arg_of plan f a;
  b = arg_of plan f b;
  c = arg_of plan f c;
}

-- how many turns of the `repeat` at this depth are left, depths counted from 0
abbrev pub runs_left : Frame → ℕ → ℕ
runs_left f depth = slice_index_or f.counters depth 0

-- what an act of frame f does, where the statement after it is `next`; in an `if`, a `repeat` or the end of its
-- body the other statement is the act's own
abbrev pub act_intent : Plan → Frame → ℕ → Act → Intent
act_intent plan f next (act.Let variable e) = let_intent variable next (value_of plan f e)
act_intent plan f next (act.Call k into a b c) = intent.Do (call_of plan f k a b c)
act_intent plan f next (act.Get variable register) = intent.Get register
act_intent plan f next (act.Put register e) = put_intent register (value_of plan f e)
act_intent plan f next (act.If e otherwise) = if_intent next otherwise (value_of plan f e)
act_intent plan f next (act.Repeat e depth past) = repeat_intent next depth past (value_of plan f e)
act_intent plan f next (act.Again depth body) = again_intent next depth body (runs_left f depth)
act_intent plan f next (act.Spend e) = spend_intent (value_of plan f e)
act_intent plan f next (act.Log e) = log_intent (value_of plan f e)
act_intent plan f next (act.Return e) = return_intent (value_of plan f e)

-- what the next statement of frame f does; falling off the end gives SUCCESS
abbrev pub intent_at : Plan → Frame → Option Statement → Intent
intent_at plan f None = intent.Return (Stat status.Success)
intent_at plan f (Some s) = act_intent plan f s.next s.act

-- the next statement of frame f, none at the callback's end
abbrev pub statement_at : Plan → Frame → Option Statement
statement_at plan f = slice_get (statements_of plan f.script) f.at

-- what frame f is about to do
abbrev pub intent_of : Plan → Frame → Intent
intent_of plan f = intent_at plan f (statement_at plan f)

-- the line of a statement, or the line `end` where there is none
abbrev pub line_of_statement : ℕ → Option Statement → ℕ
line_of_statement end None = end
line_of_statement end (Some s) = s.line

-- the line of text of frame f's next statement; after the last one the line of the callback's `on`
abbrev pub line_of : Plan → Frame → ℕ
line_of plan f = line_of_statement (unwrap_or (option_map (λ s. s.line) (slice_get plan.scripts f.script)) 0) (statement_at plan f)
