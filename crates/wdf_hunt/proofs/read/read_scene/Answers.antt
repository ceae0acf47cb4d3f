-- The scene that was read stands for what was read, and has a plan.
use Rattle.std.proofs.Common.{arith}
use Rattle.wdf_hunt.proofs.read.read_scene.Goals as goal

pub returns-clause-scene : goal.returns-clause-scene
returns-clause-scene g c =
    let stands = rw c.deref.ensures.value at c.in_ok-scene.ensures.stands in (
      (c.in_ok-text.ensures.text, omega (arith, c.in_ok-text.ensures.small, c.in_ok-text.text.ok), c.in_ok-text.ensures.quiet (λ h. cc)),
      stands,
      c.in_ok-_plan.ensures.accepted,
    )
