-- Worked runs, computed from the definitions. Made by tools/scene_to_plan.py.
use Rattle.std.proofs.Common.{[], refl}
use Rattle.wdf_base.specs.declared.event.Ending.TheVariants as ending
use Rattle.law_machine_base.specs.Course.{run_by}
use Rattle.wdf_model.specs.rules.Script.{value_of}
use Rattle.law_machine_base.proofs.Course.{worked_of}
use Rattle.law_machine_worked.specs.Shown.{IsShown, is_kept}
use Rattle.law_machine_worked.proofs.Ended.{over}
use Rattle.law_machine_worked.specs.RunsOfPower.{deleted_timer_plan, deleted_timer_events, failed_start_plan, failed_start_events, leaked_reference_plan, leaked_reference_events, leaked_reference_waits, never_acknowledged_plan, never_acknowledged_events, never_acknowledged_waits, removed_plan, removed_events, sleep_and_wake_plan, sleep_and_wake_events}

pub deleted_timer : IsShown deleted_timer_plan deleted_timer_events ending.Finished []
unfolding run_by value_of is_kept
deleted_timer = record {
  worked = worked_of deleted_timer_plan 20 deleted_timer_events ending.Finished refl refl (over ending.Finished refl);
  agree = refl;
  stuck = refl;
}

pub failed_start : IsShown failed_start_plan failed_start_events ending.Finished []
unfolding run_by value_of is_kept
failed_start = record {
  worked = worked_of failed_start_plan 13 failed_start_events ending.Finished refl refl (over ending.Finished refl);
  agree = refl;
  stuck = refl;
}

pub leaked_reference : IsShown leaked_reference_plan leaked_reference_events ending.Stuck leaked_reference_waits
unfolding run_by value_of is_kept
leaked_reference = record {
  worked = worked_of leaked_reference_plan 10 leaked_reference_events ending.Stuck refl refl (over ending.Stuck refl);
  agree = refl;
  stuck = refl;
}

pub never_acknowledged : IsShown never_acknowledged_plan never_acknowledged_events ending.Stuck never_acknowledged_waits
unfolding run_by value_of is_kept
never_acknowledged = record {
  worked = worked_of never_acknowledged_plan 6 never_acknowledged_events ending.Stuck refl refl (over ending.Stuck refl);
  agree = refl;
  stuck = refl;
}

pub removed : IsShown removed_plan removed_events ending.Finished []
unfolding run_by value_of is_kept
removed = record {
  worked = worked_of removed_plan 38 removed_events ending.Finished refl refl (over ending.Finished refl);
  agree = refl;
  stuck = refl;
}

pub sleep_and_wake : IsShown sleep_and_wake_plan sleep_and_wake_events ending.Finished []
unfolding run_by value_of is_kept
sleep_and_wake = record {
  worked = worked_of sleep_and_wake_plan 61 sleep_and_wake_events ending.Finished refl refl (over ending.Finished refl);
  agree = refl;
  stuck = refl;
}
