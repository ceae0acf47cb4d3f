-- An accepted line keeps each limit.
use Rattle.std.proofs.Common.{◌≡◌, false}
use Rattle.wdf_scene.specs.declared.scene.Scene.{Scene}
use Rattle.wdf_blocks.specs.declared.placed.Placed.{Placed}
use Rattle.wdf_blocks.specs.Declarations.{declarations}
use Rattle.wdf_blocks.specs.Forms.{is_app, is_class, is_device, is_post, is_register}
use Rattle.wdf_refusals.specs.Limits.{exceeds, is_one_too_many, over_cpus, over_depth, over_level, over_limit, over_objects, over_parallel, over_picks, over_ticks}
use Rattle.wdf_plan.proofs.Accepted.{IsAccepted}

pub cpus_within : (scene : Scene) (p : Placed) → IsAccepted scene p → over_cpus p.form ≡ false
unfolding exceeds
cpus_within scene p a = a.within.0

pub limit_within : (scene : Scene) (p : Placed) → IsAccepted scene p → over_limit p.form ≡ false
unfolding exceeds
limit_within scene p a = a.within.1.0

pub objects_within : (scene : Scene) (p : Placed) → IsAccepted scene p → over_objects (declarations scene) p.form ≡ false
unfolding exceeds
objects_within scene p a = a.within.1.1.0

pub devices_within : (scene : Scene) (p : Placed) → IsAccepted scene p → is_one_too_many (is_device p.form) 8 p.counts.devices ≡ false
unfolding exceeds
devices_within scene p a = a.within.1.1.1.0

pub apps_within : (scene : Scene) (p : Placed) → IsAccepted scene p → is_one_too_many (is_app p.form) 256 p.counts.apps ≡ false
unfolding exceeds
apps_within scene p a = a.within.1.1.1.1.0

pub registers_within : (scene : Scene) (p : Placed) → IsAccepted scene p → is_one_too_many (is_register p.form) 64 p.counts.registers ≡ false
unfolding exceeds
registers_within scene p a = a.within.1.1.1.1.1.0

pub classes_within : (scene : Scene) (p : Placed) → IsAccepted scene p → is_one_too_many (is_class p.form) 256 p.counts.classes ≡ false
unfolding exceeds
classes_within scene p a = a.within.1.1.1.1.1.1.0

pub posts_within : (scene : Scene) (p : Placed) → IsAccepted scene p → is_one_too_many (is_post p.form) 4096 p.counts.posts ≡ false
unfolding exceeds
posts_within scene p a = a.within.1.1.1.1.1.1.1.1.0

pub picks_within : (scene : Scene) (p : Placed) → IsAccepted scene p → over_picks p ≡ false
unfolding exceeds
picks_within scene p a = a.within.1.1.1.1.1.1.1.1.1.0

pub level_within : (scene : Scene) (p : Placed) → IsAccepted scene p → over_level p.form ≡ false
unfolding exceeds
level_within scene p a = a.within.1.1.1.1.1.1.1.1.1.1.1.0

pub parallel_within : (scene : Scene) (p : Placed) → IsAccepted scene p → over_parallel p.form ≡ false
unfolding exceeds
parallel_within scene p a = a.within.1.1.1.1.1.1.1.1.1.1.1.1.0

pub depth_within : (scene : Scene) (p : Placed) → IsAccepted scene p → over_depth p.form ≡ false
unfolding exceeds
depth_within scene p a = a.within.1.1.1.1.1.1.1.1.1.1.1.1.1.0

pub ticks_within : (scene : Scene) (p : Placed) → IsAccepted scene p → over_ticks p.form ≡ false
unfolding exceeds
ticks_within scene p a = a.within.1.1.1.1.1.1.1.1.1.1.1.1.1.1.0
