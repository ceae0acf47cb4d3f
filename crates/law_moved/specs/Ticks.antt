-- A plan without the ticks of its posts. (own)
use Rattle.std.specs.Prelude.{map}
use Rattle.wdf_base.specs.declared.declared.PostLine.{PostLine}
use Rattle.wdf_base.specs.declared.plan.Plan.{Plan}
use Rattle.wdf_base.specs.declared.script.AgentInfo.{AgentInfo}

-- a post at tick 0, and an agent whose posts are
abbrev pub early_post : PostLine → PostLine
early_post l = record l { tick = 0 }

abbrev pub early_agent : AgentInfo → AgentInfo
early_agent a = record a { posts = map early_post a.posts }

-- the plan with the tick 0 for each post; nothing else is changed
abbrev pub without_ticks : Plan → Plan
without_ticks plan =
    record plan {
      pnp = map early_post plan.pnp;
      agents = map early_agent plan.agents;
    }
