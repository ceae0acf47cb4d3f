-- A plan without the numbers of its lines in the text. (own)
use Rattle.std.specs.Prelude.{[], map}
use Rattle.wdf_base.specs.declared.declared.PostLine.{PostLine}
use Rattle.wdf_base.specs.declared.declared.WhenLine.{WhenLine}
use Rattle.wdf_base.specs.declared.plan.Plan.{Plan}
use Rattle.wdf_base.specs.declared.script.AgentInfo.{AgentInfo}
use Rattle.wdf_base.specs.declared.script.Script.{Script}
use Rattle.wdf_base.specs.declared.script.Statement.{Statement}

-- a post, a `when` line and a statement with the number 0
abbrev pub bare_post : PostLine → PostLine
bare_post l = record l { line = 0 }

abbrev pub bare_when : WhenLine → WhenLine
bare_when l = record l { line = 0 }

abbrev pub bare_statement : Statement → Statement
bare_statement s = record s { line = 0 }

-- a script, and the posts of an agent, likewise
abbrev pub bare_script : Script → Script
bare_script s = record s { line = 0; statements = map bare_statement s.statements }

abbrev pub bare_agent : AgentInfo → AgentInfo
bare_agent a = record a { posts = map bare_post a.posts }

-- the plan with the number 0 for each line; nothing else is changed
abbrev pub without_lines : Plan → Plan
without_lines plan =
    record plan {
      whens = map bare_when plan.whens;
      pnp = map bare_post plan.pnp;
      agents = map bare_agent plan.agents;
      scripts = map bare_script plan.scripts;
    }

-- the same without its picks too
abbrev pub bare_plan : Plan → Plan
bare_plan plan = record (without_lines plan) { picks = [] }
