use Rattle.std.proofs.Common.{arith, rules, ◌<◌, ◌^◌}
use Rattle.wdf_plan.specs.Parts.{pnp_post, register_on, when_on}
use Rattle.wdf_plan.specs.Scripts.{script_on}
use Rattle.wdf_refusals.proofs.Every.{every_any}
use Rattle.wdf_refusals.proofs.Fitting.{lines_room}
use Rattle.wdf_plan.proofs.Making.{plan_made}
use Rattle.wdf_plan.proofs.SceneFits.{classes_room, cpus_small, devices_fit, limit_small, nodes_fit, nodes_few, objects_small, picks_few, scripts_small}
use Rattle.wdf_plan.proofs.resolution.plan_with.Goals as goal

pub overflow_cast-cpus : goal.overflow_cast-cpus
overflow_cast-cpus c =
    let small : c.header_at-cpus.result < 2 ^ 8 = rw (c.header_at-cpus.ensures, c.scene-scene.ensures) (cpus_small c.args.heritage.now c.args.names.now c.requires) in
    omega (arith, small)

pub overflow_cast-limit : goal.overflow_cast-limit
overflow_cast-limit c =
    let small : c.header_at-limit.result < 2 ^ 32 = rw (c.header_at-limit.ensures, c.scene-scene.ensures) (limit_small c.args.heritage.now c.args.names.now c.requires) in
    search rules

pub overflow_cast-objects : goal.overflow_cast-objects
overflow_cast-objects c =
    let small : c.header_at-objects.result < 2 ^ 32 = rw (c.header_at-objects.ensures, c.scene-scene.ensures) (objects_small c.args.heritage.now c.args.names.now c.requires) in
    search rules

pub all_objects-requires : goal.all_objects-requires
all_objects-requires c = c.requires

pub gather-requires : goal.gather-requires
gather-requires c =
    rw (c.lines-lines.ensures, c.scene-scene.ensures) (omega arith, (every_any _ (λ p. tt) _, classes_room c.args.heritage.now c.args.names.now c.requires))

pub gather-requires-2 : goal.gather-requires-2
gather-requires-2 c =
    let names = c.args.names.now in
    let room = lines_room c.args.heritage.now (λ p. register_on names p p.form) c.requires.few_lines in
    rw c.lines-lines.ensures (omega arith, (devices_fit c.args.heritage.now names c.requires, (room, room)))

pub gather-requires-3 : goal.gather-requires-3
gather-requires-3 c =
    let room = lines_room c.args.heritage.now (λ p. when_on c.args.names.now p.number p.stand.device p.form) c.requires.few_lines in
    rw c.lines-lines.ensures (omega arith, (every_any _ (λ p. tt) _, (room, room)))

pub gather-requires-4 : goal.gather-requires-4
gather-requires-4 c =
    let room = lines_room c.args.heritage.now (λ p. pnp_post c.args.names.now p.number p.form) c.requires.few_lines in
    rw c.lines-lines.ensures (omega arith, (every_any _ (λ p. tt) _, (room, room)))

pub all_agents-requires : goal.all_agents-requires
all_agents-requires c = rw c.lines-lines.ensures c.requires

pub all_nodes-requires-clause-fit : goal.all_nodes-requires-clause-fit
all_nodes-requires-clause-fit c = rw c.lines-lines.ensures (nodes_fit c.args.heritage.now c.args.names.now c.requires)

pub all_nodes-requires-clause-room : goal.all_nodes-requires-clause-room
all_nodes-requires-clause-room c = rw c.lines-lines.ensures (nodes_few c.args.heritage.now c.args.names.now c.requires)

pub gather-requires-5 : goal.gather-requires-5
gather-requires-5 c =
    let names = c.args.names.now in
    let room = lines_room c.args.heritage.now (λ p. script_on c.args.heritage.now names p p.form) c.requires.few_lines in
    rw c.lines-lines.ensures (omega arith, (scripts_small c.args.heritage.now names c.requires, (room, room)))

pub all_picks-requires : goal.all_picks-requires
all_picks-requires c =
    rw (c.as_slice-2.ensures.value, c.scene-scene.ensures) (picks_few c.args.heritage.now c.args.names.now c.requires)

pub returns : goal.returns
returns c =
    plan_made c.args.heritage.now c.args.names.now _ _ _ _ _ _ _ _ _ _ _ _ _ (rw c.scene-scene.ensures at c.header_at-cpus.ensures) (rw c.scene-scene.ensures at c.header_at-limit.ensures) (rw c.scene-scene.ensures at c.header_at-objects.ensures) (rw c.as_slice.ensures.value at c.in_ok-all.ensures) c.in_ok-declared.ensures (rw (c.lines-lines.ensures, c.scene-scene.ensures) at c.in_ok-classes.ensures) (rw c.lines-lines.ensures at c.in_ok-registers.ensures) (rw c.lines-lines.ensures at c.in_ok-whens.ensures) (rw c.lines-lines.ensures at c.in_ok-pnp.ensures) (rw c.lines-lines.ensures at c.in_ok-agents.ensures) (rw c.lines-lines.ensures at c.in_ok-exprs.ensures) (rw c.lines-lines.ensures at c.in_ok-scripts.ensures) (rw (c.as_slice-2.ensures.value, c.scene-scene.ensures) at c.in_ok-picks.ensures)
