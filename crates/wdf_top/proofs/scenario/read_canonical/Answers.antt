-- The scene that was read stands for what was read, and so its printed text is the canonical one.
use Rattle.std.proofs.Common.{arith}
use Rattle.wdf_top.proofs.scenario.read_canonical.Goals as goal

pub returns-clause-text : goal.returns-clause-text
returns-clause-text g c =
    let stands = rw c.deref.ensures.value at c.in_ok-scene.ensures.stands in (
      c.in_ok-text.text.items,
      c.in_ok-scene.scene,
      stands,
      (c.in_ok-text.ensures.text, omega (arith, c.in_ok-text.ensures.small, c.in_ok-text.text.ok), c.in_ok-text.ensures.quiet (λ h. cc)),
      c.in_ok-_plan.ensures.accepted,
      c.in_ok-canonical.ensures.canonical c.in_ok-text.text.items stands,
    )
