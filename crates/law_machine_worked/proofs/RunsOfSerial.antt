-- Worked runs, computed from the definitions. Made by tools/scene_to_plan.py.
use Rattle.std.proofs.Common.{[], refl}
use Rattle.wdf_base.specs.declared.event.Ending.TheVariants as ending
use Rattle.law_machine_base.specs.Course.{run_by}
use Rattle.wdf_model.specs.rules.Script.{value_of}
use Rattle.law_machine_base.proofs.Course.{worked_of}
use Rattle.law_machine_worked.specs.Shown.{IsShown, is_kept}
use Rattle.law_machine_worked.proofs.Ended.{over}
use Rattle.law_machine_worked.specs.RunsOfSerial.{serial_port_plan, serial_port_events}

pub serial_port : IsShown serial_port_plan serial_port_events ending.Finished []
unfolding run_by value_of is_kept
serial_port = record {
  worked = worked_of serial_port_plan 161 serial_port_events ending.Finished refl refl (over ending.Finished refl);
  agree = refl;
  stuck = refl;
}
