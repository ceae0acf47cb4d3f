-- The numbers that a plan keeps in 8, 16 or 32 bits, with their bounds.
use Rattle.std.specs.Prelude.{◌+◌, ◌≤◌, length}
use Rattle.wdf_base.specs.Resolved.{statement_count}
use Rattle.wdf_scene.specs.declared.line.InterruptLevel.TheVariants as level
use Rattle.wdf_scene.specs.declared.line.SceneLine.{SceneLine}
use Rattle.wdf_scene.specs.declared.line.SceneLine.TheVariants as line
use Rattle.wdf_scene.specs.declared.scene.Scene.{Scene}
use Rattle.wdf_blocks.specs.declared.declaration.Declaration.{Declaration}
use Rattle.wdf_blocks.specs.Blocks.{form_at}
use Rattle.wdf_blocks.specs.Declarations.{declarations}
use Rattle.wdf_blocks.specs.Placed.{placed}
use Rattle.wdf_plan.specs.Plans.{header_of, plan_of}
use Rattle.wdf_blocks.specs.Variables.{variables_at}
use Rattle.law_plan.specs.Told.{Each}

-- the level of an interrupt is at most 12
abbrev pub HasFitLevel : SceneLine → Type 0
HasFitLevel (line.Interrupt n (level.Numbered l)) = l ≤ 12
HasFitLevel _ = Unit {0}

-- the id of the object of this order, or the number of a class or a register, is at most the number of lines
abbrev pub IsOrderFit : Scene → Declaration → Type 0
IsOrderFit scene d = d.order + 2 ≤ length scene.lines

-- the numbers of a scene's plan are within the limits, or at most the number of its lines (below 2 ^ 32, as their type says)
pub record NumbersFit (scene : Scene) : Type 0 where
  pub cpus : header_of (form_at scene 0) ≤ 8
  pub limit : header_of (form_at scene 1) ≤ 200000
  pub objects : header_of (form_at scene 2) ≤ 4096
  pub levels : Each (λ p. HasFitLevel p.form) (placed scene)
  pub variables : Each (λ p. length (variables_at scene p) ≤ 16) (placed scene)
  -- the number of a name is its place and 2
  pub names : length (declarations scene) + 1 ≤ length scene.lines
  pub orders : Each (IsOrderFit scene) (declarations scene)
  pub classes : length (plan_of scene).classes ≤ 256
  pub registers : length (plan_of scene).registers ≤ 64
  pub statements : statement_count (plan_of scene) ≤ 4096
