use Rattle.std.proofs.Common.{◌≤◌, length, refl, sym, arith}
use Rattle.wdf_base.specs.declared.script.ExprNode.TheVariants as node
use Rattle.wdf_script.proofs.Values.{value-past, value-node, operator_of_operands, value-left-late, value-right-late}
use Rattle.wdf_script.proofs.expressions.+value_of.Goals as goal
use Rattle.wdf_script.proofs.expressions.+value_of.Goals.{else-left-e-via-then-left-e+else-right-e, else-left-e-via-else-left-e}

pub returns-then-e-expr_len : goal.returns-then-e-expr_len
returns-then-e-expr_len t c =
    let past : length c.args.plan.now.exprs ≤ c.args.e = omega arith in
    sym (value-past c.args.plan.now c.args.frame.now c.args.e past)

pub returns-in-Number : goal.returns-in-Number
returns-in-Number t c =
    sym (value-node c.args.plan.now c.args.frame.now c.args.e (node.Number c.in-Number.number) c.in-Number.ensures)

pub returns-in-Variable : goal.returns-in-Variable
returns-in-Variable t c =
    rw (value-node c.args.plan.now c.args.frame.now c.args.e (node.Variable c.in-Variable.variable) c.in-Variable.ensures, c.variable_value.ensures) refl

pub returns-in-Object : goal.returns-in-Object
returns-in-Object t c =
    sym (value-node c.args.plan.now c.args.frame.now c.args.e (node.Object c.in-Object.handle) c.in-Object.ensures)

pub returns-in-Literal : goal.returns-in-Literal
returns-in-Literal t c =
    sym (value-node c.args.plan.now c.args.frame.now c.args.e (node.Literal c.in-Literal.status) c.in-Literal.ensures)

pub returns-in-Context : goal.returns-in-Context
returns-in-Context t c =
    rw (value-node c.args.plan.now c.args.frame.now c.args.e (node.Context c.in-Context.word) c.in-Context.ensures, c.context_value.ensures) refl

pub returns-then-right-e : goal.returns-then-right-e
returns-then-right-e t c =
    rw (operator_of_operands c.args.plan.now c.args.frame.now c.args.e c.in-Binary.left c.in-Binary.right c.in-Binary.operator c.in-Binary.ensures c.if-left-e.true c.if-right-e.true, c.operands_by.ensures, c.value_of-left.ensures, c.value_of-right.ensures) refl

pub returns-else-left-e : goal.returns-else-left-e
returns-else-left-e t c =
    elim c.else-left-e.branch [
      | else-left-e-via-then-left-e+else-right-e w ↦
          sym (value-right-late c.args.plan.now c.args.frame.now c.args.e c.in-Binary.left c.in-Binary.right c.in-Binary.operator c.in-Binary.ensures w.if-right-e.false)
      | else-left-e-via-else-left-e w ↦
          sym (value-left-late c.args.plan.now c.args.frame.now c.args.e c.in-Binary.left c.in-Binary.right c.in-Binary.operator c.in-Binary.ensures w.if-left-e.false)
    ]
