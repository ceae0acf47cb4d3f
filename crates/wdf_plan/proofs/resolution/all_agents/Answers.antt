use Rattle.std.proofs.Common.{arith, refl}
use Rattle.wdf_plan.specs.Plans.{all_agents}
use Rattle.wdf_plan.specs.Posts.{app_posted, device_posted}
use Rattle.wdf_refusals.proofs.Every.{every_any}
use Rattle.wdf_refusals.proofs.Fitting.{lines_room}
use Rattle.wdf_plan.proofs.SceneFits.{agents_room, both_rooms}
use Rattle.wdf_plan.proofs.Shares.{apps_same, devices_same}
use Rattle.wdf_plan.proofs.resolution.all_agents.Goals as goal

pub gather-requires : goal.gather-requires
gather-requires c =
    let room = lines_room c.args.scene.now (app_posted c.args.names.now) c.requires.few_lines in
    (omega arith, (every_any _ (λ p. tt) _, (room, room)))

pub gather_after-requires : goal.gather_after-requires
gather_after-requires c =
    let room = both_rooms _ (agents_room c.args.scene.now c.args.names.now c.requires).apps in
    rw (c.new-agents.ensures, c.in_ok-posts.ensures, apps_same c.args.scene.now c.args.names.now) (omega arith, (every_any _ (λ p. tt) _, room))

pub gather-requires-2 : goal.gather-requires-2
gather-requires-2 c =
    let room = lines_room c.args.scene.now (device_posted c.args.names.now) c.requires.few_lines in
    (omega arith, (every_any _ (λ p. tt) _, (room, room)))

pub gather_after-requires-2 : goal.gather_after-requires-2
gather_after-requires-2 c =
    let room = both_rooms _ (agents_room c.args.scene.now c.args.names.now c.requires).devices in
    rw (c.in_ok-gather_after.ensures, c.new-agents.ensures, c.in_ok-posts.ensures, c.in_ok-posts-2.ensures, apps_same c.args.scene.now c.args.names.now, devices_same c.args.scene.now c.args.names.now) (omega arith, (every_any _ (λ p. tt) _, room))

pub gather_after-requires-3 : goal.gather_after-requires-3
gather_after-requires-3 c =
    let room = both_rooms _ (agents_room c.args.scene.now c.args.names.now c.requires).targets in
    rw (c.in_ok-gather_after-2.ensures, c.in_ok-gather_after.ensures, c.new-agents.ensures, c.in_ok-posts.ensures, c.in_ok-posts-2.ensures, apps_same c.args.scene.now c.args.names.now, devices_same c.args.scene.now c.args.names.now) (omega arith, (every_any _ (λ p. tt) _, room))

pub returns : goal.returns
unfolding all_agents
returns c =
    rw (c.in_ok-gather_after-3.ensures, c.in_ok-gather_after-2.ensures, c.in_ok-gather_after.ensures, c.new-agents.ensures, c.in_ok-posts.ensures, c.in_ok-posts-2.ensures, apps_same c.args.scene.now c.args.names.now, devices_same c.args.scene.now c.args.names.now) refl
