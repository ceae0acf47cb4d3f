-- What is wrong with a statement: what it asks of the value of its expression. A call has no script
-- error of its own; what is wrong with its arguments is a fault of the call.
use Rattle.std.specs.Prelude.{ℕ, Bool, true, false, not, nat_le, Option, Some, None, is_some}
use Rattle.wdf_base.specs.declared.plan.Plan.{Plan}
use Rattle.wdf_base.specs.declared.frame.Frame.{Frame}
use Rattle.wdf_base.specs.declared.value.Value.{Value}
use Rattle.wdf_base.specs.declared.value.Value.TheVariants.{Num}
use Rattle.wdf_base.specs.declared.script.ExprNode.{ExprNode}
use Rattle.wdf_base.specs.declared.script.ExprNode.TheVariants as node
use Rattle.wdf_base.specs.declared.script.Act.{Act}
use Rattle.wdf_base.specs.declared.script.Act.TheVariants as act
use Rattle.wdf_base.specs.declared.script.Statement.{Statement}
use Rattle.wdf_model.specs.rules.Script.{value_of}

-- what is alone in an expression
abbrev pub is_atom : ExprNode → Bool
is_atom (node.Binary op left right) = false
is_atom _ = true

-- a number
abbrev pub is_number : Option Value → Bool
is_number (Some (Num n)) = true
is_number _ = false

-- a number that isn't above this one
abbrev pub is_number_to : ℕ → Option Value → Bool
is_number_to most (Some (Num n)) = nat_le n most
is_number_to most _ = false

-- own: whether the value of an act's expression is missing, or isn't as the act asks
abbrev pub act_error : Plan → Frame → Act → Bool
act_error plan f (act.Let variable e) = not (is_some (value_of plan f e))
act_error plan f (act.Call k into a b c) = false
act_error plan f (act.Get variable register) = false
act_error plan f (act.Put register e) = not (is_number (value_of plan f e))
act_error plan f (act.If e otherwise) = not (is_number (value_of plan f e))
act_error plan f (act.Repeat e depth past) = not (is_number_to 1000 (value_of plan f e))
act_error plan f (act.Again depth body) = false
act_error plan f (act.Spend e) = not (is_number_to 1000000 (value_of plan f e))
act_error plan f (act.Log e) = not (is_some (value_of plan f e))
act_error plan f (act.Return e) = not (is_some (value_of plan f e))

-- whether a statement has a script error; the callback's end has none
abbrev pub script_error : Plan → Frame → Option Statement → Bool
script_error plan f None = false
script_error plan f (Some s) = act_error plan f s.act
