-- What the tables of a plan say.
use Rattle.std.specs.Prelude.{◌≡◌, length}
use Rattle.wdf_base.specs.declared.call.Callback.TheVariants as callback
use Rattle.wdf_base.specs.declared.plan.Plan.{Plan}
use Rattle.wdf_model.specs.Plans.{devices_of, targets_of}
use Rattle.wdf_model.specs.rules.Groups.{is_declared_somewhere}
use Rattle.wdf_plan_index.specs.Handlers.{handlers_of}
use Rattle.wdf_plan_index.specs.Keys.{devices_over, script_names}
use Rattle.wdf_plan_index.specs.Owners.{names_of}
use Rattle.wdf_plan_index.specs.Serving.{serving_of}
use Rattle.wdf_plan_index.specs.declared.owners.Owner.TheVariants as owner
use Rattle.wdf_plan_index.specs.declared.tables.Tables.{Tables}

pub record AreTables (plan : Plan) (tables : Tables) : Type 0 where
  pub devices : tables.devices ≡ devices_of plan
  pub targets : tables.targets.items ≡ targets_of plan
  -- the devices and the targets are as many as their names
  pub device_names : length tables.devices ≡ length (names_of owner.Device plan)
  pub target_names : length tables.targets.items ≡ length (names_of owner.Target plan)
  pub scripts : tables.script_names ≡ script_names plan
  pub belongings : tables.belongings ≡ devices_over plan
  pub handlers : tables.handlers.items ≡ handlers_of plan
  pub serving : tables.serving.items ≡ serving_of plan (devices_of plan)
  pub cleanup_callback : tables.cleanup_callback ≡ is_declared_somewhere plan callback.EvtCleanupCallback
  pub destroy_callback : tables.destroy_callback ≡ is_declared_somewhere plan callback.EvtDestroyCallback
