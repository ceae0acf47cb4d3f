use Rattle.std.proofs.Common.{◌∙◌, sym}
use Rattle.wdf_plan.proofs.resolution.plan_or_refusal.Goals as goal

pub plan_with-requires : goal.plan_with-requires
plan_with-requires c = record {
  text = c.requires.scene;
  own = c.requires.own;
  accepted = sym c.in_ok-refusal.ensures ∙ c.in-None.is;
  few_lines = rw (c.scene-scene.ensures) at (rw (c.as_slice-lines.ensures.value) at c.as_slice-lines.ensures.fits);
  few_nodes = rw (c.scene-scene.ensures) at (rw (c.as_slice-nodes.ensures.value) at c.as_slice-nodes.ensures.fits);
}
