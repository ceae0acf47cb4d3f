-- Worked runs with stacks of devices, computed from the definitions. Made by tools/scene_to_plan.py.
use Rattle.std.proofs.Common.{[], refl}
use Rattle.wdf_base.specs.declared.event.Ending.TheVariants as ending
use Rattle.wdf_model.specs.agents.StackAgent.{stack_agents}
use Rattle.wdf_model.specs.rules.Script.{value_of}
use Rattle.law_machine_base.specs.Course.{run_with}
use Rattle.law_machine_base.proofs.Course.{worked_with}
use Rattle.law_stack.specs.Laws.{keeps_stack_laws}
use Rattle.law_stack.specs.Words.{passings, works}
use Rattle.law_stack_worked.specs.Shown.{IsStackRun}
use Rattle.law_machine_worked.proofs.Ended.{over}
use Rattle.law_stack_worked.specs.StackOrders.{a_query_is_refused_plan, a_query_is_refused_events, sleeps_and_wakes_plan, sleeps_and_wakes_events, starts_from_the_bottom_plan, starts_from_the_bottom_events, the_bottom_fails_to_start_plan, the_bottom_fails_to_start_events, the_lower_device_is_gone_plan, the_lower_device_is_gone_events, the_lower_queue_is_stopped_plan, the_lower_queue_is_stopped_events, the_lower_queue_is_stopped_waits, the_middle_device_is_removed_plan, the_middle_device_is_removed_events}
use Rattle.law_stack_worked.specs.StackRequests.{a_cancel_goes_down_plan, a_cancel_goes_down_events, a_made_request_goes_down_plan, a_made_request_goes_down_events, a_sent_request_is_cancelled_plan, a_sent_request_is_cancelled_events, a_stopped_target_cancels_plan, a_stopped_target_cancels_events, depth_is_reached_plan, depth_is_reached_events, one_target_is_connected_plan, one_target_is_connected_events, status_comes_up_plan, status_comes_up_events}

pub a_cancel_goes_down : IsStackRun a_cancel_goes_down_plan a_cancel_goes_down_events ending.Finished []
unfolding run_with value_of keeps_stack_laws passings works
a_cancel_goes_down = record {
  worked = worked_with a_cancel_goes_down_plan stack_agents 35 a_cancel_goes_down_events ending.Finished refl refl (over ending.Finished refl);
  stuck = refl;
  keeps = refl;
}

pub a_made_request_goes_down : IsStackRun a_made_request_goes_down_plan a_made_request_goes_down_events ending.Finished []
unfolding run_with value_of keeps_stack_laws passings works
a_made_request_goes_down = record {
  worked = worked_with a_made_request_goes_down_plan stack_agents 19 a_made_request_goes_down_events ending.Finished refl refl (over ending.Finished refl);
  stuck = refl;
  keeps = refl;
}

pub a_query_is_refused : IsStackRun a_query_is_refused_plan a_query_is_refused_events ending.Finished []
unfolding run_with value_of keeps_stack_laws passings works
a_query_is_refused = record {
  worked = worked_with a_query_is_refused_plan stack_agents 36 a_query_is_refused_events ending.Finished refl refl (over ending.Finished refl);
  stuck = refl;
  keeps = refl;
}

pub a_sent_request_is_cancelled : IsStackRun a_sent_request_is_cancelled_plan a_sent_request_is_cancelled_events ending.Finished []
unfolding run_with value_of keeps_stack_laws passings works
a_sent_request_is_cancelled = record {
  worked = worked_with a_sent_request_is_cancelled_plan stack_agents 30 a_sent_request_is_cancelled_events ending.Finished refl refl (over ending.Finished refl);
  stuck = refl;
  keeps = refl;
}

pub a_stopped_target_cancels : IsStackRun a_stopped_target_cancels_plan a_stopped_target_cancels_events ending.Finished []
unfolding run_with value_of keeps_stack_laws passings works
a_stopped_target_cancels = record {
  worked = worked_with a_stopped_target_cancels_plan stack_agents 31 a_stopped_target_cancels_events ending.Finished refl refl (over ending.Finished refl);
  stuck = refl;
  keeps = refl;
}

pub depth_is_reached : IsStackRun depth_is_reached_plan depth_is_reached_events ending.Finished []
unfolding run_with value_of keeps_stack_laws passings works
depth_is_reached = record {
  worked = worked_with depth_is_reached_plan stack_agents 27 depth_is_reached_events ending.Finished refl refl (over ending.Finished refl);
  stuck = refl;
  keeps = refl;
}

pub one_target_is_connected : IsStackRun one_target_is_connected_plan one_target_is_connected_events ending.Finished []
unfolding run_with value_of keeps_stack_laws passings works
one_target_is_connected = record {
  worked = worked_with one_target_is_connected_plan stack_agents 29 one_target_is_connected_events ending.Finished refl refl (over ending.Finished refl);
  stuck = refl;
  keeps = refl;
}

pub sleeps_and_wakes : IsStackRun sleeps_and_wakes_plan sleeps_and_wakes_events ending.Finished []
unfolding run_with value_of keeps_stack_laws passings works
sleeps_and_wakes = record {
  worked = worked_with sleeps_and_wakes_plan stack_agents 62 sleeps_and_wakes_events ending.Finished refl refl (over ending.Finished refl);
  stuck = refl;
  keeps = refl;
}

pub starts_from_the_bottom : IsStackRun starts_from_the_bottom_plan starts_from_the_bottom_events ending.Finished []
unfolding run_with value_of keeps_stack_laws passings works
starts_from_the_bottom = record {
  worked = worked_with starts_from_the_bottom_plan stack_agents 8 starts_from_the_bottom_events ending.Finished refl refl (over ending.Finished refl);
  stuck = refl;
  keeps = refl;
}

pub status_comes_up : IsStackRun status_comes_up_plan status_comes_up_events ending.Finished []
unfolding run_with value_of keeps_stack_laws passings works
status_comes_up = record {
  worked = worked_with status_comes_up_plan stack_agents 16 status_comes_up_events ending.Finished refl refl (over ending.Finished refl);
  stuck = refl;
  keeps = refl;
}

pub the_bottom_fails_to_start : IsStackRun the_bottom_fails_to_start_plan the_bottom_fails_to_start_events ending.Finished []
unfolding run_with value_of keeps_stack_laws passings works
the_bottom_fails_to_start = record {
  worked = worked_with the_bottom_fails_to_start_plan stack_agents 30 the_bottom_fails_to_start_events ending.Finished refl refl (over ending.Finished refl);
  stuck = refl;
  keeps = refl;
}

pub the_lower_device_is_gone : IsStackRun the_lower_device_is_gone_plan the_lower_device_is_gone_events ending.Finished []
unfolding run_with value_of keeps_stack_laws passings works
the_lower_device_is_gone = record {
  worked = worked_with the_lower_device_is_gone_plan stack_agents 40 the_lower_device_is_gone_events ending.Finished refl refl (over ending.Finished refl);
  stuck = refl;
  keeps = refl;
}

pub the_lower_queue_is_stopped : IsStackRun the_lower_queue_is_stopped_plan the_lower_queue_is_stopped_events ending.Stuck the_lower_queue_is_stopped_waits
unfolding run_with value_of keeps_stack_laws passings works
the_lower_queue_is_stopped = record {
  worked = worked_with the_lower_queue_is_stopped_plan stack_agents 14 the_lower_queue_is_stopped_events ending.Stuck refl refl (over ending.Stuck refl);
  stuck = refl;
  keeps = refl;
}

pub the_middle_device_is_removed : IsStackRun the_middle_device_is_removed_plan the_middle_device_is_removed_events ending.Finished []
unfolding run_with value_of keeps_stack_laws passings works
the_middle_device_is_removed = record {
  worked = worked_with the_middle_device_is_removed_plan stack_agents 47 the_middle_device_is_removed_events ending.Finished refl refl (over ending.Finished refl);
  stuck = refl;
  keeps = refl;
}
