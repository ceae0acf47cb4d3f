-- In a scene in which nothing is refused the numbers fit the types that the plan has for them.
use Rattle.std.proofs.Common.{◌≡◌, ℕ, ◌≤◌, true, false, nat_le, length, None, arith}
use Rattle.std.proofs.lemmas.Bool.{and_parts, not-false, leb-true}
use Rattle.wdf_base.specs.Resolved.{is_from}
use Rattle.wdf_scene.specs.declared.line.InterruptLevel.TheVariants as level
use Rattle.wdf_scene.specs.declared.line.SceneLine.{SceneLine}
use Rattle.wdf_scene.specs.declared.line.SceneLine.TheVariants as line
use Rattle.wdf_scene.specs.declared.scene.Scene.{Scene}
use Rattle.wdf_scene.specs.Written.{IsScene}
use Rattle.wdf_blocks.specs.Blocks.{form_at}
use Rattle.wdf_blocks.specs.Declarations.{declarations}
use Rattle.wdf_refusals.specs.First.{first_refusal}
use Rattle.wdf_refusals.specs.Limits.{over_level}
use Rattle.wdf_blocks.specs.Placed.{placed}
use Rattle.wdf_plan.specs.Plans.{header_of, plan_with, plan_of}
use Rattle.wdf_blocks.specs.Variables.{variables_at}
use Rattle.wdf_plan.proofs.Accepted.{IsAccepted, each_accepted}
use Rattle.wdf_plan.proofs.Bounds.{plan_bounded}
use Rattle.wdf_refusals.proofs.Every.{every_map}
use Rattle.wdf_refusals.proofs.Fitting.{declarations_few, orders_few}
use Rattle.wdf_plan.proofs.StatementCounts.{statements_bound}
use Rattle.wdf_plan.proofs.VariableFacts.{line_variables}
use Rattle.wdf_plan.proofs.Within.{level_within}
use Rattle.law_plan.specs.Fitting.{HasFitLevel, IsOrderFit, NumbersFit}
use Rattle.law_plan.proofs.Pairs.{each_of}

-- ---- ranges

below : (low high n : ℕ) → is_from low high n ≡ true → n ≤ high
below low high n h = leb-true n high (and_parts (nat_le low n) (nat_le n high) h).1

level_fits : (form : SceneLine) → over_level form ≡ false → HasFitLevel form
unfolding over_level
level_fits (line.Interrupt n (level.Numbered l)) h = below 3 12 l (not-false (is_from 3 12 l) h)
level_fits _ h = tt

-- ---- the first three lines

bounds_of : (scene : Scene) → IsScene scene → first_refusal scene ≡ None → (header_of (form_at scene 0) ≤ 8) × (header_of (form_at scene 1) ≤ 200000) × (header_of (form_at scene 2) ≤ 4096)
unfolding plan_of plan_with
bounds_of scene s e =
    let b = plan_bounded scene s e in
    (below 1 8 (header_of (form_at scene 0)) b.cpus, below 1 200000 (header_of (form_at scene 1)) b.limit, below 1 4096 (header_of (form_at scene 2)) b.objects)

-- ---- the whole

pub numbers_fit : (scene : Scene) → IsScene scene → first_refusal scene ≡ None → NumbersFit scene
numbers_fit scene s e =
    let each = each_accepted scene e in
    let bounded = bounds_of scene s e in
    record {
      cpus = bounded.0;
      limit = bounded.1;
      objects = bounded.2;
      levels = each_of (λ p. HasFitLevel p.form) (placed scene) (every_map (IsAccepted scene) (λ p. HasFitLevel p.form) (λ p h. level_fits p.form (level_within scene p h)) (placed scene) each);
      variables = each_of (λ p. length (variables_at scene p) ≤ 16) (placed scene) (line_variables scene s each);
      names = (let few = declarations_few scene s in omega (arith, few));
      orders = each_of (IsOrderFit scene) (declarations scene) (orders_few scene s);
      classes = leb-true (length (plan_of scene).classes) 256 (plan_bounded scene s e).classes;
      registers = leb-true (length (plan_of scene).registers) 64 (plan_bounded scene s e).registers;
      statements = statements_bound scene s each;
    }
