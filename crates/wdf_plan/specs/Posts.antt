-- The posts of all lines, gathered once, and what an agent takes of them: how the code makes the agents' lists.
use Rattle.std.specs.Prelude.{ℕ, ◌==◌, cond, List, Option, Some, None, option_map}
use Rattle.std.specs.List.{filter_map}
use Rattle.wdf_base.specs.declared.declared.PostLine.{PostLine}
use Rattle.wdf_base.specs.declared.script.AgentInfo.{AgentInfo}
use Rattle.wdf_base.specs.Same.{same_option}
use Rattle.wdf_scene.specs.declared.line.SceneLine.{SceneLine}
use Rattle.wdf_scene.specs.declared.line.SceneLine.TheVariants as line
use Rattle.wdf_blocks.specs.declared.declaration.Declaration.{Declaration}
use Rattle.wdf_blocks.specs.declared.placed.Placed.{Placed}
use Rattle.wdf_plan.specs.declared.agents.AgentSort.{AgentSort}
use Rattle.wdf_plan.specs.declared.agents.AgentSort.TheVariants as sort
use Rattle.wdf_plan.specs.declared.posts.Posted.{Posted}
use Rattle.wdf_refusals.specs.Numbers.{name_number}
use Rattle.wdf_plan.specs.Parts.{agent, app_post, device_post}

-- a post with the block of its line
unfoldable pub posted : Option ℕ → Option PostLine → Option Posted
posted block post = option_map (λ x. record { block = block; post = x }) post

abbrev pub app_posted : List Declaration → Placed → Option Posted
app_posted names p = posted p.stand.block (app_post names p.number p.form)

abbrev pub device_posted : List Declaration → Placed → Option Posted
device_posted names p = posted p.stand.block (device_post names p.number p.stand.device p.form)

-- what the block of line b has of a post
unfoldable pub post_in : ℕ → Posted → Option PostLine
post_in b x = cond (same_option ◌==◌ x.block (Some b)) (Some x.post) None

-- the name that a line declares for an agent of a sort
unfoldable pub agent_name : AgentSort → SceneLine → Option (List ℕ)
agent_name sort.App (line.App n) = Some n
agent_name sort.App _ = None
agent_name sort.Device (line.Device n working) = Some n
agent_name sort.Device _ = None

-- an agent of a sort, with what its block has of all posts of that sort
unfoldable pub agent_with : AgentSort → List Declaration → List Posted → Placed → Option AgentInfo
agent_with s names all p =
    option_map (λ n. agent (name_number names n) (filter_map (post_in p.at) all)) (agent_name s p.form)
