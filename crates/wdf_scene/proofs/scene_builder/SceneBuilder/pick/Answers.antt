use Rattle.std.proofs.Common.{◌≡◌, ◌-◌, length, is_ok, ap}
use Rattle.wdf_scene.proofs.ChangeLaws.{pick_done}
use Rattle.wdf_scene.proofs.scene_builder.SceneBuilder.pick.Goals as goal

pub returns : goal.returns
returns c =
    let is : c.len-last.result - 1 ≡ length c.self.inside.scene.lines - 1 = ap (λ n. n - 1) c.len-last.ensures.value in
    rw (← c.self.view_is) (pick_done c.self.inside.scene (c.len-last.result - 1) c.args.n c.item_mut.result.now (is_ok c.push.result) c.push.new.self is c.item_mut.ensures.value c.push.ensures)
