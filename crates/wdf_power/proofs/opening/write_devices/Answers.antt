-- One device more, and all.
use Rattle.std.proofs.Common.{arith}
use Rattle.wdf_power.specs.Power.{opening_device_at}
use Rattle.wdf_declared.proofs.Ids.{ids_all, ids_more}
use Rattle.wdf_power.proofs.opening.write_devices.Goals as goal

pub loop-id-init : goal.loop-id-init
loop-id-init c = record { those = c.clear.ensures.items; as_many = c.clear.ensures.len; room = omega (arith, c.clear.ensures.capacity) }

pub push_reserved-requires : goal.push_reserved-requires
push_reserved-requires c = omega (arith, c.loop-id.invariant.as_many, c.loop-id.invariant.room)

pub loop-id-preserved : goal.loop-id-preserved
loop-id-preserved c = record {
  those = ids_more (opening_device_at c.args.plan.now) _ _ c.device_power.result c.loop-id.id c.loop-id.invariant.those c.device_power.ensures c.push_reserved.ensures.items;
  as_many = omega (arith, c.push_reserved.ensures.len, c.loop-id.invariant.as_many);
  room = omega (arith, c.push_reserved.ensures.capacity, c.loop-id.invariant.room);
}

pub returns : goal.returns
returns c = ids_all (opening_device_at c.args.plan.now) _ c.loop-id.id _ c.loop-id.invariant.those (omega arith)
