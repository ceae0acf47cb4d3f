-- The numbers of a plan's head are those of the first three lines.
use Rattle.std.proofs.Common.{◌≡◌, refl}
use Rattle.wdf_scene.specs.declared.scene.Scene.{Scene}
use Rattle.wdf_blocks.specs.Blocks.{form_at}
use Rattle.wdf_plan.specs.Plans.{header_in, header_of}
use Rattle.wdf_refusals.proofs.Heads.{HasHead}

pub first_header : (scene : Scene) (h : HasHead scene.version scene.lines) → header_of (form_at scene 0) ≡ h.cpus
unfolding form_at header_in
first_header scene h = rw (h.are, h.is_cpus) refl

pub second_header : (scene : Scene) (h : HasHead scene.version scene.lines) → header_of (form_at scene 1) ≡ h.limit
unfolding form_at header_in
second_header scene h = rw (h.are, h.is_limit) refl

pub third_header : (scene : Scene) (h : HasHead scene.version scene.lines) → header_of (form_at scene 2) ≡ h.objects
unfolding form_at header_in
third_header scene h = rw (h.are, h.is_objects) refl
