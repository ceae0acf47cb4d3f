-- Worked runs, computed from the definitions. Made by tools/scene_to_plan.py.
use Rattle.std.proofs.Common.{refl}
use Rattle.wdf_base.specs.declared.event.Ending.TheVariants as ending
use Rattle.law_machine_base.specs.Course.{run_by}
use Rattle.wdf_model.specs.rules.Script.{value_of}
use Rattle.law_machine_base.proofs.Course.{worked_of}
use Rattle.law_machine_worked.specs.Shown.{IsShown, is_kept}
use Rattle.law_stuck_worked.proofs.Over.{stuck_is_over}
use Rattle.law_stuck_worked.specs.StuckObjects.{child_with_a_reference_plan, child_with_a_reference_events, child_with_a_reference_waits, deleted_while_it_is_held_plan, deleted_while_it_is_held_events, deleted_while_it_is_held_waits, deleted_while_it_runs_plan, deleted_while_it_runs_events, deleted_while_it_runs_waits, destroyed_never_plan, destroyed_never_events, destroyed_never_waits, queued_while_it_runs_plan, queued_while_it_runs_events, queued_while_it_runs_waits}
use Rattle.law_stuck_worked.specs.StuckRequests.{cannot_return_plan, cannot_return_events, cannot_return_waits, full_and_behind_plan, full_and_behind_events, full_and_behind_waits, stopped_plan, stopped_events, stopped_waits, unpowered_and_manual_plan, unpowered_and_manual_events, unpowered_and_manual_waits}
use Rattle.law_stuck_worked.specs.StuckSequences.{callback_of_a_step_plan, callback_of_a_step_events, callback_of_a_step_waits, disabled_waits_for_a_frame_plan, disabled_waits_for_a_frame_events, disabled_waits_for_a_frame_waits, enable_waits_for_a_frame_plan, enable_waits_for_a_frame_events, enable_waits_for_a_frame_waits, flush_of_what_is_kept_plan, flush_of_what_is_kept_events, flush_of_what_is_kept_waits, flush_of_what_runs_plan, flush_of_what_runs_events, flush_of_what_runs_waits, quiet_waits_for_a_frame_plan, quiet_waits_for_a_frame_events, quiet_waits_for_a_frame_waits, removed_waits_for_a_request_plan, removed_waits_for_a_request_events, removed_waits_for_a_request_waits, resume_never_ends_plan, resume_never_ends_events, resume_never_ends_waits, settled_waits_for_a_frame_plan, settled_waits_for_a_frame_events, settled_waits_for_a_frame_waits}

pub callback_of_a_step : IsShown callback_of_a_step_plan callback_of_a_step_events ending.Stuck callback_of_a_step_waits
unfolding run_by value_of is_kept
callback_of_a_step = record {
  worked = worked_of callback_of_a_step_plan 7 callback_of_a_step_events ending.Stuck refl refl stuck_is_over;
  agree = refl;
  stuck = refl;
}

pub cannot_return : IsShown cannot_return_plan cannot_return_events ending.Stuck cannot_return_waits
unfolding run_by value_of is_kept
cannot_return = record {
  worked = worked_of cannot_return_plan 19 cannot_return_events ending.Stuck refl refl stuck_is_over;
  agree = refl;
  stuck = refl;
}

pub child_with_a_reference : IsShown child_with_a_reference_plan child_with_a_reference_events ending.Stuck child_with_a_reference_waits
unfolding run_by value_of is_kept
child_with_a_reference = record {
  worked = worked_of child_with_a_reference_plan 12 child_with_a_reference_events ending.Stuck refl refl stuck_is_over;
  agree = refl;
  stuck = refl;
}

pub deleted_while_it_is_held : IsShown deleted_while_it_is_held_plan deleted_while_it_is_held_events ending.Stuck deleted_while_it_is_held_waits
unfolding run_by value_of is_kept
deleted_while_it_is_held = record {
  worked = worked_of deleted_while_it_is_held_plan 18 deleted_while_it_is_held_events ending.Stuck refl refl stuck_is_over;
  agree = refl;
  stuck = refl;
}

pub deleted_while_it_runs : IsShown deleted_while_it_runs_plan deleted_while_it_runs_events ending.Stuck deleted_while_it_runs_waits
unfolding run_by value_of is_kept
deleted_while_it_runs = record {
  worked = worked_of deleted_while_it_runs_plan 13 deleted_while_it_runs_events ending.Stuck refl refl stuck_is_over;
  agree = refl;
  stuck = refl;
}

pub destroyed_never : IsShown destroyed_never_plan destroyed_never_events ending.Stuck destroyed_never_waits
unfolding run_by value_of is_kept
destroyed_never = record {
  worked = worked_of destroyed_never_plan 13 destroyed_never_events ending.Stuck refl refl stuck_is_over;
  agree = refl;
  stuck = refl;
}

pub disabled_waits_for_a_frame : IsShown disabled_waits_for_a_frame_plan disabled_waits_for_a_frame_events ending.Stuck disabled_waits_for_a_frame_waits
unfolding run_by value_of is_kept
disabled_waits_for_a_frame = record {
  worked = worked_of disabled_waits_for_a_frame_plan 19 disabled_waits_for_a_frame_events ending.Stuck refl refl stuck_is_over;
  agree = refl;
  stuck = refl;
}

pub enable_waits_for_a_frame : IsShown enable_waits_for_a_frame_plan enable_waits_for_a_frame_events ending.Stuck enable_waits_for_a_frame_waits
unfolding run_by value_of is_kept
enable_waits_for_a_frame = record {
  worked = worked_of enable_waits_for_a_frame_plan 9 enable_waits_for_a_frame_events ending.Stuck refl refl stuck_is_over;
  agree = refl;
  stuck = refl;
}

pub flush_of_what_is_kept : IsShown flush_of_what_is_kept_plan flush_of_what_is_kept_events ending.Stuck flush_of_what_is_kept_waits
unfolding run_by value_of is_kept
flush_of_what_is_kept = record {
  worked = worked_of flush_of_what_is_kept_plan 11 flush_of_what_is_kept_events ending.Stuck refl refl stuck_is_over;
  agree = refl;
  stuck = refl;
}

pub flush_of_what_runs : IsShown flush_of_what_runs_plan flush_of_what_runs_events ending.Stuck flush_of_what_runs_waits
unfolding run_by value_of is_kept
flush_of_what_runs = record {
  worked = worked_of flush_of_what_runs_plan 10 flush_of_what_runs_events ending.Stuck refl refl stuck_is_over;
  agree = refl;
  stuck = refl;
}

pub full_and_behind : IsShown full_and_behind_plan full_and_behind_events ending.Stuck full_and_behind_waits
unfolding run_by value_of is_kept
full_and_behind = record {
  worked = worked_of full_and_behind_plan 5 full_and_behind_events ending.Stuck refl refl stuck_is_over;
  agree = refl;
  stuck = refl;
}

pub queued_while_it_runs : IsShown queued_while_it_runs_plan queued_while_it_runs_events ending.Stuck queued_while_it_runs_waits
unfolding run_by value_of is_kept
queued_while_it_runs = record {
  worked = worked_of queued_while_it_runs_plan 13 queued_while_it_runs_events ending.Stuck refl refl stuck_is_over;
  agree = refl;
  stuck = refl;
}

pub quiet_waits_for_a_frame : IsShown quiet_waits_for_a_frame_plan quiet_waits_for_a_frame_events ending.Stuck quiet_waits_for_a_frame_waits
unfolding run_by value_of is_kept
quiet_waits_for_a_frame = record {
  worked = worked_of quiet_waits_for_a_frame_plan 21 quiet_waits_for_a_frame_events ending.Stuck refl refl stuck_is_over;
  agree = refl;
  stuck = refl;
}

pub removed_waits_for_a_request : IsShown removed_waits_for_a_request_plan removed_waits_for_a_request_events ending.Stuck removed_waits_for_a_request_waits
unfolding run_by value_of is_kept
removed_waits_for_a_request = record {
  worked = worked_of removed_waits_for_a_request_plan 6 removed_waits_for_a_request_events ending.Stuck refl refl stuck_is_over;
  agree = refl;
  stuck = refl;
}

pub resume_never_ends : IsShown resume_never_ends_plan resume_never_ends_events ending.Stuck resume_never_ends_waits
unfolding run_by value_of is_kept
resume_never_ends = record {
  worked = worked_of resume_never_ends_plan 18 resume_never_ends_events ending.Stuck refl refl stuck_is_over;
  agree = refl;
  stuck = refl;
}

pub settled_waits_for_a_frame : IsShown settled_waits_for_a_frame_plan settled_waits_for_a_frame_events ending.Stuck settled_waits_for_a_frame_waits
unfolding run_by value_of is_kept
settled_waits_for_a_frame = record {
  worked = worked_of settled_waits_for_a_frame_plan 11 settled_waits_for_a_frame_events ending.Stuck refl refl stuck_is_over;
  agree = refl;
  stuck = refl;
}

pub stopped : IsShown stopped_plan stopped_events ending.Stuck stopped_waits
unfolding run_by value_of is_kept
stopped = record {
  worked = worked_of stopped_plan 9 stopped_events ending.Stuck refl refl stuck_is_over;
  agree = refl;
  stuck = refl;
}

pub unpowered_and_manual : IsShown unpowered_and_manual_plan unpowered_and_manual_events ending.Stuck unpowered_and_manual_waits
unfolding run_by value_of is_kept
unpowered_and_manual = record {
  worked = worked_of unpowered_and_manual_plan 2 unpowered_and_manual_events ending.Stuck refl refl stuck_is_over;
  agree = refl;
  stuck = refl;
}
