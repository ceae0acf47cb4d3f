-- Worked runs, computed from the definitions. Made by tools/scene_to_plan.py.
use Rattle.std.proofs.Common.{[], refl}
use Rattle.wdf_base.specs.declared.event.Ending.TheVariants as ending
use Rattle.wdf_base.specs.declared.event.Fault.TheVariants as fault
use Rattle.law_machine_base.specs.Course.{run_by}
use Rattle.wdf_model.specs.rules.Script.{value_of}
use Rattle.law_machine_base.proofs.Course.{worked_of}
use Rattle.law_machine_worked.specs.Shown.{IsShown, is_kept}
use Rattle.law_machine_worked.proofs.Ended.{over}
use Rattle.law_machine_worked.specs.RunsOfTargets.{drained_plan, drained_events, every_statement_plan, every_statement_events, sent_and_cancelled_plan, sent_and_cancelled_events, stopped_while_sent_plan, stopped_while_sent_events, target_stopped_plan, target_stopped_events}

pub drained : IsShown drained_plan drained_events ending.Finished []
unfolding run_by value_of is_kept
drained = record {
  worked = worked_of drained_plan 30 drained_events ending.Finished refl refl (over ending.Finished refl);
  agree = refl;
  stuck = refl;
}

pub every_statement : IsShown every_statement_plan every_statement_events (ending.Fault fault.ScriptError) []
unfolding run_by value_of is_kept
every_statement = record {
  worked = worked_of every_statement_plan 25 every_statement_events (ending.Fault fault.ScriptError) refl refl (over (ending.Fault fault.ScriptError) refl);
  agree = refl;
  stuck = refl;
}

pub sent_and_cancelled : IsShown sent_and_cancelled_plan sent_and_cancelled_events ending.Finished []
unfolding run_by value_of is_kept
sent_and_cancelled = record {
  worked = worked_of sent_and_cancelled_plan 43 sent_and_cancelled_events ending.Finished refl refl (over ending.Finished refl);
  agree = refl;
  stuck = refl;
}

pub stopped_while_sent : IsShown stopped_while_sent_plan stopped_while_sent_events ending.Finished []
unfolding run_by value_of is_kept
stopped_while_sent = record {
  worked = worked_of stopped_while_sent_plan 26 stopped_while_sent_events ending.Finished refl refl (over ending.Finished refl);
  agree = refl;
  stuck = refl;
}

pub target_stopped : IsShown target_stopped_plan target_stopped_events ending.Finished []
unfolding run_by value_of is_kept
target_stopped = record {
  worked = worked_of target_stopped_plan 31 target_stopped_events ending.Finished refl refl (over ending.Finished refl);
  agree = refl;
  stuck = refl;
}
