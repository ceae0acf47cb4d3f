-- Worked runs, computed from the definitions. Made by tools/scene_to_plan.py.
use Rattle.std.proofs.Common.{[], refl}
use Rattle.wdf_base.specs.declared.event.Ending.TheVariants as ending
use Rattle.wdf_base.specs.declared.event.Fault.TheVariants as fault
use Rattle.law_machine_base.specs.Course.{run_by}
use Rattle.wdf_model.specs.rules.Script.{value_of}
use Rattle.law_machine_base.proofs.Course.{worked_of}
use Rattle.law_machine_worked.specs.Shown.{IsShown, is_kept}
use Rattle.law_machine_worked.proofs.Ended.{over}
use Rattle.law_machine_worked.specs.RunsOfRequests.{cancel_comes_first_plan, cancel_comes_first_events, completed_too_early_plan, completed_too_early_events, notified_plan, notified_events, one_read_plan, one_read_events, purged_plan, purged_events, returned_by_cancel_plan, returned_by_cancel_events, unmark_comes_first_plan, unmark_comes_first_events}

pub cancel_comes_first : IsShown cancel_comes_first_plan cancel_comes_first_events ending.Finished []
unfolding run_by value_of is_kept
cancel_comes_first = record {
  worked = worked_of cancel_comes_first_plan 12 cancel_comes_first_events ending.Finished refl refl (over ending.Finished refl);
  agree = refl;
  stuck = refl;
}

pub completed_too_early : IsShown completed_too_early_plan completed_too_early_events (ending.Fault fault.CompleteBeforeCancelCallback) []
unfolding run_by value_of is_kept
completed_too_early = record {
  worked = worked_of completed_too_early_plan 6 completed_too_early_events (ending.Fault fault.CompleteBeforeCancelCallback) refl refl (over (ending.Fault fault.CompleteBeforeCancelCallback) refl);
  agree = refl;
  stuck = refl;
}

pub notified : IsShown notified_plan notified_events ending.Finished []
unfolding run_by value_of is_kept
notified = record {
  worked = worked_of notified_plan 12 notified_events ending.Finished refl refl (over ending.Finished refl);
  agree = refl;
  stuck = refl;
}

pub one_read : IsShown one_read_plan one_read_events ending.Finished []
unfolding run_by value_of is_kept
one_read = record {
  worked = worked_of one_read_plan 6 one_read_events ending.Finished refl refl (over ending.Finished refl);
  agree = refl;
  stuck = refl;
}

pub purged : IsShown purged_plan purged_events ending.Finished []
unfolding run_by value_of is_kept
purged = record {
  worked = worked_of purged_plan 41 purged_events ending.Finished refl refl (over ending.Finished refl);
  agree = refl;
  stuck = refl;
}

pub returned_by_cancel : IsShown returned_by_cancel_plan returned_by_cancel_events ending.Finished []
unfolding run_by value_of is_kept
returned_by_cancel = record {
  worked = worked_of returned_by_cancel_plan 11 returned_by_cancel_events ending.Finished refl refl (over ending.Finished refl);
  agree = refl;
  stuck = refl;
}

pub unmark_comes_first : IsShown unmark_comes_first_plan unmark_comes_first_events ending.Finished []
unfolding run_by value_of is_kept
unmark_comes_first = record {
  worked = worked_of unmark_comes_first_plan 10 unmark_comes_first_events ending.Finished refl refl (over ending.Finished refl);
  agree = refl;
  stuck = refl;
}
