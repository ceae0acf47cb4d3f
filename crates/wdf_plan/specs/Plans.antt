-- The plan of a scene.
use Rattle.std.specs.Prelude.{ℕ, List, ◌∷◌, ◌++◌, map, Option, Some, None, codes}
use Rattle.std.specs.List.{filter_map, flat_map}
use Rattle.wdf_base.specs.declared.declared.Declared.{Declared}
use Rattle.wdf_base.specs.declared.declared.Declared.TheVariants as declared
use Rattle.wdf_base.specs.declared.script.AgentInfo.{AgentInfo}
use Rattle.wdf_base.specs.declared.plan.Plan.{Plan}
use Rattle.wdf_scene.specs.declared.line.SceneLine.{SceneLine}
use Rattle.wdf_scene.specs.declared.line.SceneLine.TheVariants as line
use Rattle.wdf_scene.specs.declared.scene.Scene.{Scene}
use Rattle.wdf_blocks.specs.declared.declaration.Declaration.{Declaration}
use Rattle.wdf_blocks.specs.Blocks.{form_at}
use Rattle.wdf_blocks.specs.Declarations.{declarations}
use Rattle.wdf_plan.specs.Parts.{object_on, class_on, register_on, when_on, pnp_post, app_agent, device_agent, target_agent, line_picks}
use Rattle.wdf_blocks.specs.Placed.{placed}
use Rattle.wdf_plan.specs.Scripts.{nodes_on, script_on}

-- the number of a line `cpus N`, `limit N` or `objects N`
unfoldable pub header_in : SceneLine → ℕ
header_in (line.Cpus n) = n
header_in (line.Limit n) = n
header_in (line.Objects n) = n
header_in _ = 0

abbrev pub header_of : Option SceneLine → ℕ
header_of None = 0
header_of (Some form) = header_in form

-- the name of a declaration
abbrev pub name_in : Declaration → List ℕ
name_in d = d.name

-- the driver object and the declared objects
unfoldable pub all_objects : Scene → List Declaration → List Declared
all_objects scene names = declared.Driver ∷ filter_map (object_on scene names) (placed scene)

-- the apps, the devices and the targets as those that post
unfoldable pub all_agents : Scene → List Declaration → List AgentInfo
all_agents scene names =
    filter_map (λ p. app_agent scene names p p.form) (placed scene) ++ filter_map (λ p. device_agent scene names p p.form) (placed scene)
    ++ filter_map (λ p. target_agent names p.form) (placed scene)

-- the scene with the numbers of names in place of names
unfoldable pub plan_with : Scene → List Declaration → Plan
plan_with scene names =
    record {
      cpus = header_of (form_at scene 0);
      limit = header_of (form_at scene 1);
      objects = header_of (form_at scene 2);
      names = codes "driver" ∷ codes "req" ∷ map name_in names;
      declared = all_objects scene names;
      classes = filter_map (λ p. class_on scene names p p.form) (placed scene);
      registers = filter_map (λ p. register_on names p p.form) (placed scene);
      whens = filter_map (λ p. when_on names p.number p.stand.device p.form) (placed scene);
      pnp = filter_map (λ p. pnp_post names p.number p.form) (placed scene);
      agents = all_agents scene names;
      exprs = flat_map (nodes_on scene names) (placed scene);
      scripts = filter_map (λ p. script_on scene names p p.form) (placed scene);
      picks = flat_map line_picks scene.lines;
    }

-- the plan of a scene in which nothing is refused
unfoldable pub plan_of : Scene → Plan
plan_of scene = plan_with scene (declarations scene)
