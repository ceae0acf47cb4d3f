-- What an agent is, apart from its code.
use Rattle.std.specs.Prelude.{ℕ, Option}
use Rattle.wdf_base.specs.declared.event.Event.{Event}
use Rattle.wdf_base.specs.declared.event.Post.{Post}
use Rattle.wdf_base.specs.declared.plan.Plan.{Plan}

-- The five definitions of an agent whose states are of the type A. (own)
pub record Meaning (A : Type 0) : Type 0 where
  -- the state of the agent with this number at the opening of the plan's run
  pub begin : Plan → ℕ → A
  -- the state after an event
  pub fold : A → Event → A
  -- the post that is due
  pub due : A → Option Post
  -- the least later tick of a post
  pub next : A → Option ℕ
  -- a register, or the level line of an interrupt
  pub value : A → ℕ → ℕ
