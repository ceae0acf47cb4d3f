-- What a plan of a text has beside what is resolved: the numbers that its text writes fit their types.
use Rattle.std.specs.Prelude.{◌≡◌, ℕ, ◌^◌, ◌<◌, Some, slice_get}
use Rattle.wdf_base.specs.declared.plan.Plan.{Plan}
use Rattle.wdf_base.specs.declared.declared.PostLine.{PostLine}
use Rattle.wdf_base.specs.declared.declared.RegisterInfo.{RegisterInfo}
use Rattle.wdf_base.specs.declared.declared.WhenLine.{WhenLine}
use Rattle.wdf_base.specs.declared.script.ExprNode.TheVariants as node
use Rattle.wdf_base.specs.declared.script.Script.{Script}
use Rattle.wdf_base.specs.declared.script.Statement.{Statement}
use Rattle.wdf_base.specs.Plan.{posts_of}
use Rattle.law_lines.specs.PostNumbers.{ActionNumbersFit, PostNumbersFit}

-- the line of a callback, and those of its statements, fit 32 bits
pub record HasFittingLines (s : Script) : Type 0 where
  pub start : s.line < 2 ^ 32
  pub statements : (k : ℕ) (x : Statement) → slice_get s.statements k ≡ Some x → x.line < 2 ^ 32

-- The numbers of the text fit 64 bits, and its lines 32 bits.
pub record HasFittingNumbers (plan : Plan) : Type 0 where
  -- the numbers of expressions
  pub literals : (k n : ℕ) → slice_get plan.exprs k ≡ Some (node.Number n) → n < 2 ^ 64
  pub lines : (k : ℕ) (s : Script) → slice_get plan.scripts k ≡ Some s → HasFittingLines s
  -- the first values of registers
  pub registers : (k : ℕ) (r : RegisterInfo) → slice_get plan.registers k ≡ Some r → r.value < 2 ^ 64
  -- what devices do where a register is accessed
  pub whens : (k : ℕ) (w : WhenLine) → slice_get plan.whens k ≡ Some w → ActionNumbersFit w.action
  -- what agents post
  pub posts : (agent k : ℕ) (p : PostLine) → slice_get (posts_of plan agent) k ≡ Some p → PostNumbersFit p.post
