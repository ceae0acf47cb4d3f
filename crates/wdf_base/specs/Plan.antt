-- What a plan says, by number.
use Rattle.std.specs.Prelude.{ℕ, zero, suc, Bool, ◌&&◌, List, [], Option, Some, None, position, slice_get, option_map}
use Rattle.wdf_base.specs.declared.call.Callback.{Callback}
use Rattle.wdf_base.specs.declared.declared.Declared.{Declared}
use Rattle.wdf_base.specs.declared.declared.PostLine.{PostLine}
use Rattle.wdf_base.specs.declared.script.AgentInfo.{AgentInfo}
use Rattle.wdf_base.specs.declared.script.Script.{Script}
use Rattle.wdf_base.specs.declared.script.Statement.{Statement}
use Rattle.wdf_base.specs.declared.plan.Plan.{Plan}
use Rattle.wdf_base.specs.Kinds.{has_name}
use Rattle.wdf_base.specs.Same.{same_callback}
use Rattle.wdf_base.specs.SamePlan.{same_declared}

-- the driver object or the declared object with this id, from 1
abbrev pub declared_of : Plan → ℕ → Option Declared
declared_of plan zero = None
declared_of plan (suc k) = slice_get plan.declared k

-- the agent with this number, from 1
abbrev pub agent_of : Plan → ℕ → Option AgentInfo
agent_of plan zero = None
agent_of plan (suc k) = slice_get plan.agents k

-- the posts of an agent that is there
abbrev pub agent_posts : Option AgentInfo → List PostLine
agent_posts None = []
agent_posts (Some a) = a.posts

-- the posts that the lines of an agent give; agent 0 is the Plug and Play manager
abbrev pub posts_of : Plan → ℕ → List PostLine
posts_of plan zero = plan.pnp
posts_of plan (suc k) = agent_posts (slice_get plan.agents k)

-- the statements of a script that is there
abbrev pub script_statements : Option Script → List Statement
script_statements None = []
script_statements (Some s) = s.statements

-- the statements of script k
abbrev pub statements_of : Plan → ℕ → List Statement
statements_of plan k = script_statements (slice_get plan.scripts k)

-- whether a script is that of this callback on this object
abbrev pub is_script_of : Callback → Declared → Script → Bool
is_script_of callback owner s = same_callback s.callback callback && same_declared s.owner owner

-- the number of the script of this callback on this object
abbrev pub script_of : Plan → Callback → Declared → Option ℕ
script_of plan callback owner = position (is_script_of callback owner) plan.scripts

-- the id of the declared object with this name
abbrev pub object_named : Plan → ℕ → Option ℕ
object_named plan n = option_map suc (position (has_name n) plan.declared)
