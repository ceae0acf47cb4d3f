-- Each table is that of its definition.
use Rattle.std.proofs.Common.{◌≡◌, length, ap, ◌∙◌, arith}
use Rattle.std.proofs.lemmas.List.{length-map}
use Rattle.wdf_plan_index.specs.Keys.{script_name}
use Rattle.wdf_plan_index.specs.Owners.{name_of}
use Rattle.wdf_plan_index.specs.Serving.{serving_of}
use Rattle.wdf_plan_index.specs.declared.owners.Owner.TheVariants as owner
use Rattle.wdf_plan_index.proofs.Gathering.{kept_few}
use Rattle.wdf_plan_index.proofs.Owning.{device_ids, target_ids}
use Rattle.wdf_plan_index.proofs.tables.tables_of.Goals as goal

pub make-requires : goal.make-requires
make-requires c = omega (arith, kept_few (name_of owner.Device) c.args.plan.now.declared, c.in_ok-ids.ensures.names)

pub make-requires-2 : goal.make-requires-2
make-requires-2 c =
    let long : length c.in_ok-names.names.items ≡ length c.args.plan.now.scripts = ap length c.in_ok-names.ensures ∙ length-map c.args.plan.now.scripts (script_name c.args.plan.now) in
    omega arith

pub returns : goal.returns
returns c = record {
  devices = c.in_ok-devices.ensures ∙ c.in_ok-ids.ensures.ids ∙ device_ids c.args.plan.now;
  targets = c.in_ok-targets.ensures.ids ∙ target_ids c.args.plan.now;
  device_names = ap length c.in_ok-devices.ensures ∙ c.in_ok-ids.ensures.names;
  target_names = c.in_ok-targets.ensures.names;
  scripts = c.in_ok-script_names.ensures ∙ c.in_ok-names.ensures;
  belongings = c.in_ok-belongings.ensures ∙ c.in_ok-over.ensures;
  handlers = c.in_ok-handlers.ensures;
  serving = c.in_ok-serving.ensures ∙ ap (serving_of c.args.plan.now) (c.in_ok-devices.ensures ∙ c.in_ok-ids.ensures.ids ∙ device_ids c.args.plan.now);
  cleanup_callback = c.is_declared_somewhere-cleanup_callback.ensures;
  destroy_callback = c.is_declared_somewhere-destroy_callback.ensures;
}
