-- A plan is the plan of its scene where each of its lists is.
use Rattle.std.proofs.Common.{◌≡◌, ℕ, List, ◌∷◌, map, codes}
use Rattle.std.specs.List.{filter_map, flat_map}
use Rattle.wdf_base.specs.declared.declared.ClassInfo.{ClassInfo}
use Rattle.wdf_base.specs.declared.declared.Declared.{Declared}
use Rattle.wdf_base.specs.declared.declared.PostLine.{PostLine}
use Rattle.wdf_base.specs.declared.declared.RegisterInfo.{RegisterInfo}
use Rattle.wdf_base.specs.declared.declared.WhenLine.{WhenLine}
use Rattle.wdf_base.specs.declared.script.AgentInfo.{AgentInfo}
use Rattle.wdf_base.specs.declared.script.ExprNode.{ExprNode}
use Rattle.wdf_base.specs.declared.script.Script.{Script}
use Rattle.wdf_scene.specs.declared.scene.Scene.{Scene}
use Rattle.wdf_blocks.specs.declared.declaration.Declaration.{Declaration}
use Rattle.wdf_blocks.specs.Blocks.{form_at}
use Rattle.wdf_plan.specs.Parts.{class_on, register_on, when_on, pnp_post, line_picks}
use Rattle.wdf_blocks.specs.Placed.{placed}
use Rattle.wdf_plan.specs.Plans.{header_of, name_in, all_objects, all_agents, plan_with}
use Rattle.wdf_plan.specs.Scripts.{nodes_on, script_on}

-- the plan, by its lists
pub plan_made : (scene : Scene) (names : List Declaration) (cpus limit objects : ℕ) (all : List (List ℕ)) (declared : List Declared) (classes : List ClassInfo) (registers : List RegisterInfo) (whens : List WhenLine) (pnp : List PostLine) (agents : List AgentInfo) (exprs : List ExprNode) (scripts : List Script) (picks : List ℕ) → cpus ≡ header_of (form_at scene 0) → limit ≡ header_of (form_at scene 1) → objects ≡ header_of (form_at scene 2) → all ≡ codes "driver" ∷ codes "req" ∷ map name_in names → declared ≡ all_objects scene names → classes ≡ filter_map (λ p. class_on scene names p p.form) (placed scene) → registers ≡ filter_map (λ p. register_on names p p.form) (placed scene) → whens ≡ filter_map (λ p. when_on names p.number p.stand.device p.form) (placed scene) → pnp ≡ filter_map (λ p. pnp_post names p.number p.form) (placed scene) → agents ≡ all_agents scene names → exprs ≡ flat_map (nodes_on scene names) (placed scene) → scripts ≡ filter_map (λ p. script_on scene names p p.form) (placed scene) → picks ≡ flat_map line_picks scene.lines → record { cpus = cpus; limit = limit; objects = objects; names = all; declared = declared; classes = classes; registers = registers; whens = whens; pnp = pnp; agents = agents; exprs = exprs; scripts = scripts; picks = picks } ≡ plan_with scene names
unfolding plan_with
plan_made scene names cpus limit objects all declared classes registers whens pnp agents exprs scripts picks a b c d e f g h i j k l m = cc
