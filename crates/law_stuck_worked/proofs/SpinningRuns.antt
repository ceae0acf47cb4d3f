-- Worked runs, computed from the definitions. Made by tools/scene_to_plan.py.
use Rattle.std.proofs.Common.{refl}
use Rattle.wdf_base.specs.declared.event.Ending.TheVariants as ending
use Rattle.law_machine_base.specs.Course.{run_by}
use Rattle.wdf_model.specs.rules.Script.{value_of}
use Rattle.law_machine_base.proofs.Course.{worked_of}
use Rattle.law_machine_worked.specs.Shown.{IsShown, is_kept}
use Rattle.law_stuck_worked.proofs.Over.{stuck_is_over}
use Rattle.law_stuck_worked.specs.SpinningRuns.{interrupted_plan, interrupted_events, interrupted_waits, no_processor_for_a_step_plan, no_processor_for_a_step_events, no_processor_for_a_step_waits, no_processor_for_cleanup_plan, no_processor_for_cleanup_events, no_processor_for_cleanup_waits, no_processor_for_quiet_plan, no_processor_for_quiet_events, no_processor_for_quiet_waits, no_processor_for_resume_plan, no_processor_for_resume_events, no_processor_for_resume_waits, no_processor_for_work_plan, no_processor_for_work_events, no_processor_for_work_waits, target_never_stops_plan, target_never_stops_events, target_never_stops_waits}

pub interrupted : IsShown interrupted_plan interrupted_events ending.Stuck interrupted_waits
unfolding run_by value_of is_kept
interrupted = record {
  worked = worked_of interrupted_plan 24 interrupted_events ending.Stuck refl refl stuck_is_over;
  agree = refl;
  stuck = refl;
}

pub no_processor_for_a_step : IsShown no_processor_for_a_step_plan no_processor_for_a_step_events ending.Stuck no_processor_for_a_step_waits
unfolding run_by value_of is_kept
no_processor_for_a_step = record {
  worked = worked_of no_processor_for_a_step_plan 31 no_processor_for_a_step_events ending.Stuck refl refl stuck_is_over;
  agree = refl;
  stuck = refl;
}

pub no_processor_for_cleanup : IsShown no_processor_for_cleanup_plan no_processor_for_cleanup_events ending.Stuck no_processor_for_cleanup_waits
unfolding run_by value_of is_kept
no_processor_for_cleanup = record {
  worked = worked_of no_processor_for_cleanup_plan 27 no_processor_for_cleanup_events ending.Stuck refl refl stuck_is_over;
  agree = refl;
  stuck = refl;
}

pub no_processor_for_quiet : IsShown no_processor_for_quiet_plan no_processor_for_quiet_events ending.Stuck no_processor_for_quiet_waits
unfolding run_by value_of is_kept
no_processor_for_quiet = record {
  worked = worked_of no_processor_for_quiet_plan 28 no_processor_for_quiet_events ending.Stuck refl refl stuck_is_over;
  agree = refl;
  stuck = refl;
}

pub no_processor_for_resume : IsShown no_processor_for_resume_plan no_processor_for_resume_events ending.Stuck no_processor_for_resume_waits
unfolding run_by value_of is_kept
no_processor_for_resume = record {
  worked = worked_of no_processor_for_resume_plan 31 no_processor_for_resume_events ending.Stuck refl refl stuck_is_over;
  agree = refl;
  stuck = refl;
}

pub no_processor_for_work : IsShown no_processor_for_work_plan no_processor_for_work_events ending.Stuck no_processor_for_work_waits
unfolding run_by value_of is_kept
no_processor_for_work = record {
  worked = worked_of no_processor_for_work_plan 27 no_processor_for_work_events ending.Stuck refl refl stuck_is_over;
  agree = refl;
  stuck = refl;
}

pub target_never_stops : IsShown target_never_stops_plan target_never_stops_events ending.Stuck target_never_stops_waits
unfolding run_by value_of is_kept
target_never_stops = record {
  worked = worked_of target_never_stops_plan 24 target_never_stops_events ending.Stuck refl refl stuck_is_over;
  agree = refl;
  stuck = refl;
}
