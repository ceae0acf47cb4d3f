-- How a post and a statement are added to a plan.
use Rattle.std.specs.Prelude.{ℕ, zero, suc, [], ◌∷◌, ◌++◌}
use Rattle.wdf_base.specs.declared.declared.PostLine.{PostLine}
use Rattle.wdf_base.specs.declared.script.AgentInfo.{AgentInfo}
use Rattle.wdf_base.specs.declared.script.Script.{Script}
use Rattle.wdf_base.specs.declared.script.Statement.{Statement}
use Rattle.wdf_base.specs.declared.plan.Plan.{Plan}
use Rattle.wdf_scene.specs.Change.{changed_at}

-- the agent with one post more
abbrev pub agent_with_post : PostLine → AgentInfo → AgentInfo
agent_with_post p a = record a { posts = a.posts ++ p ∷ [] }

-- the plan with one post more of this agent
abbrev pub with_post : Plan → ℕ → PostLine → Plan
with_post plan zero p = record plan { pnp = plan.pnp ++ p ∷ [] }
with_post plan (suc k) p = record plan { agents = changed_at (agent_with_post p) k plan.agents }

-- the script with one statement more
abbrev pub script_with : Statement → Script → Script
script_with s t = record t { statements = t.statements ++ s ∷ [] }

-- the plan with one statement more in script k
abbrev pub with_statement : Plan → ℕ → Statement → Plan
with_statement plan k s = record plan { scripts = changed_at (script_with s) k plan.scripts }
