-- The targets at the opening, as far as an id.
use Rattle.std.specs.Prelude.{ℕ, List, map}
use Rattle.std.specs.List.{range_with_len}
use Rattle.wdf_base.specs.declared.plan.Plan.{Plan}
use Rattle.wdf_model.specs.Plans.{target_of}
use Rattle.wdf_model.specs.parts.Targets.{Target, opening_target}

unfoldable pub opened : Plan → ℕ → List Target
opened plan n = map (λ id. opening_target (target_of plan id)) (range_with_len 0 n)
