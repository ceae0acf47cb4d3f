-- The room so far is what the first agents leave.
use Rattle.std.proofs.Common.{◌≡◌, ◌-◌, count_by, take, sum_by}
use Rattle.wdf_base.specs.declared.declared.PostLine.{PostLine}
use Rattle.wdf_base.specs.declared.script.AgentInfo.{AgentInfo}
use Rattle.wdf_base.specs.Posts.{is_request}
use Rattle.wdf_stack.proofs.connector.room_beside.Given as goal

abbrev pub invariant-loop-agent : goal.invariant-loop-agent
invariant-loop-agent l = l.room ≡ 4096 - sum_by (λ (a : AgentInfo). count_by (λ (p : PostLine). is_request p.post) a.posts) (take l.agent-index l.agents)
