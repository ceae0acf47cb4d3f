-- What devices, queues and the `driver` block are given, as it is kept for all lines.
use Rattle.std.specs.Prelude.{◌≡◌, ℕ, Bool, true, false, cond, List, Option, Some, None, option_and_then}
use Rattle.std.specs.List.{filter_map}
use Rattle.wdf_scene.specs.declared.line.SceneLine.{SceneLine}
use Rattle.wdf_scene.specs.declared.line.SceneLine.TheVariants as line
use Rattle.wdf_scene.specs.declared.scene.Scene.{Scene}
use Rattle.wdf_refusals.specs.declared.heritage.Given.{Given}
use Rattle.wdf_refusals.specs.declared.heritage.Effective.{Effective}
use Rattle.wdf_blocks.specs.declared.placed.Placed.{Placed}
use Rattle.wdf_blocks.specs.Blocks.{given_level, given_scope, driver_line, effective_level, effective_scope}
use Rattle.wdf_blocks.specs.Placed.{placed}

-- what the lines of block b give it
unfoldable pub given_in : Scene → ℕ → Given
given_in scene b = record { level = given_level scene b; scope = given_scope scene b }

-- what the `driver` block gives
unfoldable pub driver_given : Scene → Given
driver_given scene =
    record {
      level = option_and_then (given_level scene) (driver_line scene);
      scope = option_and_then (given_scope scene) (driver_line scene);
    }

-- a line declares what has a level and a scope
unfoldable pub has_level : SceneLine → Bool
has_level (line.Device n working) = true
has_level (line.Queue n dispatch) = true
has_level _ = false

-- what is kept of a line: of a device or a queue what its block gives
unfoldable pub kept_of : Scene → Placed → Option (Option Given)
kept_of scene p = Some (cond (has_level p.form) (Some (given_in scene p.at)) None)

-- the level and the scope that count for the device or the queue of line b
unfoldable pub effective : Scene → ℕ → Option ℕ → Effective
effective scene b device =
    record { level = effective_level scene b device; scope = effective_scope scene b device }

-- what is kept is right
pub record IsKept (scene : Scene) (blocks : List (Option Given)) (driver : Given) : Type 0 where
  pub of_blocks : blocks ≡ filter_map (kept_of scene) (placed scene)
  pub of_driver : driver ≡ driver_given scene
