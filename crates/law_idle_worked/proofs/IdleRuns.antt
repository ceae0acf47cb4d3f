-- Worked runs in which idle devices sleep, computed from the definitions. Made by tools/scene_to_plan.py.
use Rattle.std.proofs.Common.{refl}
use Rattle.wdf_base.specs.declared.event.Ending.TheVariants as ending
use Rattle.wdf_model.specs.agents.IdleAgent.{idle_agents}
use Rattle.wdf_model.specs.rules.Script.{value_of}
use Rattle.law_machine_base.specs.Course.{run_with}
use Rattle.law_machine_base.proofs.Course.{worked_with}
use Rattle.law_machine_worked.proofs.Ended.{over}
use Rattle.wdf_laws.specs.Words.{ever}
use Rattle.law_idle.specs.Idling.{time_after, awake_rest, asleep_rest, is_held}
use Rattle.law_idle_worked.specs.Shown.{IsIdleRun}
use Rattle.law_idle_worked.specs.IdleRequests.{arrival_after_sleep_plan, arrival_after_sleep_events, arrival_before_sleep_plan, arrival_before_sleep_events, arrival_within_sleep_plan, arrival_within_sleep_events, cancelled_in_sleep_plan, cancelled_in_sleep_events, held_awake_plan, held_awake_events, hold_by_device_plan, hold_by_device_events, hold_by_driver_plan, hold_by_driver_events, sleeps_when_unused_plan, sleeps_when_unused_events, two_timeouts_plan, two_timeouts_events, used_for_a_while_plan, used_for_a_while_events}
use Rattle.law_idle_worked.specs.IdleSequences.{both_at_one_tick_plan, both_at_one_tick_events, rebalanced_plan, rebalanced_events, refused_removal_plan, refused_removal_events, refused_stop_plan, refused_stop_events, removed_in_sleep_plan, removed_in_sleep_events, started_plan, started_events, surprised_plan, surprised_events}

pub arrival_after_sleep : IsIdleRun arrival_after_sleep_plan arrival_after_sleep_events ending.Finished
unfolding run_with value_of time_after awake_rest asleep_rest is_held ever
arrival_after_sleep = record {
  worked = worked_with arrival_after_sleep_plan idle_agents 21 arrival_after_sleep_events ending.Finished refl refl (over ending.Finished refl);
  kept = refl;
}

pub arrival_before_sleep : IsIdleRun arrival_before_sleep_plan arrival_before_sleep_events ending.Finished
unfolding run_with value_of time_after awake_rest asleep_rest is_held ever
arrival_before_sleep = record {
  worked = worked_with arrival_before_sleep_plan idle_agents 14 arrival_before_sleep_events ending.Finished refl refl (over ending.Finished refl);
  kept = refl;
}

pub arrival_within_sleep : IsIdleRun arrival_within_sleep_plan arrival_within_sleep_events ending.Finished
unfolding run_with value_of time_after awake_rest asleep_rest is_held ever
arrival_within_sleep = record {
  worked = worked_with arrival_within_sleep_plan idle_agents 21 arrival_within_sleep_events ending.Finished refl refl (over ending.Finished refl);
  kept = refl;
}

pub both_at_one_tick : IsIdleRun both_at_one_tick_plan both_at_one_tick_events ending.Finished
unfolding run_with value_of time_after awake_rest asleep_rest is_held ever
both_at_one_tick = record {
  worked = worked_with both_at_one_tick_plan idle_agents 11 both_at_one_tick_events ending.Finished refl refl (over ending.Finished refl);
  kept = refl;
}

pub cancelled_in_sleep : IsIdleRun cancelled_in_sleep_plan cancelled_in_sleep_events ending.Finished
unfolding run_with value_of time_after awake_rest asleep_rest is_held ever
cancelled_in_sleep = record {
  worked = worked_with cancelled_in_sleep_plan idle_agents 12 cancelled_in_sleep_events ending.Finished refl refl (over ending.Finished refl);
  kept = refl;
}

pub held_awake : IsIdleRun held_awake_plan held_awake_events ending.Finished
unfolding run_with value_of time_after awake_rest asleep_rest is_held ever
held_awake = record {
  worked = worked_with held_awake_plan idle_agents 19 held_awake_events ending.Finished refl refl (over ending.Finished refl);
  kept = refl;
}

pub hold_by_device : IsIdleRun hold_by_device_plan hold_by_device_events ending.Finished
unfolding run_with value_of time_after awake_rest asleep_rest is_held ever
hold_by_device = record {
  worked = worked_with hold_by_device_plan idle_agents 13 hold_by_device_events ending.Finished refl refl (over ending.Finished refl);
  kept = refl;
}

pub hold_by_driver : IsIdleRun hold_by_driver_plan hold_by_driver_events ending.Finished
unfolding run_with value_of time_after awake_rest asleep_rest is_held ever
hold_by_driver = record {
  worked = worked_with hold_by_driver_plan idle_agents 40 hold_by_driver_events ending.Finished refl refl (over ending.Finished refl);
  kept = refl;
}

pub rebalanced : IsIdleRun rebalanced_plan rebalanced_events ending.Finished
unfolding run_with value_of time_after awake_rest asleep_rest is_held ever
rebalanced = record {
  worked = worked_with rebalanced_plan idle_agents 14 rebalanced_events ending.Finished refl refl (over ending.Finished refl);
  kept = refl;
}

pub refused_removal : IsIdleRun refused_removal_plan refused_removal_events ending.Finished
unfolding run_with value_of time_after awake_rest asleep_rest is_held ever
refused_removal = record {
  worked = worked_with refused_removal_plan idle_agents 26 refused_removal_events ending.Finished refl refl (over ending.Finished refl);
  kept = refl;
}

pub refused_stop : IsIdleRun refused_stop_plan refused_stop_events ending.Finished
unfolding run_with value_of time_after awake_rest asleep_rest is_held ever
refused_stop = record {
  worked = worked_with refused_stop_plan idle_agents 14 refused_stop_events ending.Finished refl refl (over ending.Finished refl);
  kept = refl;
}

pub removed_in_sleep : IsIdleRun removed_in_sleep_plan removed_in_sleep_events ending.Finished
unfolding run_with value_of time_after awake_rest asleep_rest is_held ever
removed_in_sleep = record {
  worked = worked_with removed_in_sleep_plan idle_agents 17 removed_in_sleep_events ending.Finished refl refl (over ending.Finished refl);
  kept = refl;
}

pub sleeps_when_unused : IsIdleRun sleeps_when_unused_plan sleeps_when_unused_events ending.Finished
unfolding run_with value_of time_after awake_rest asleep_rest is_held ever
sleeps_when_unused = record {
  worked = worked_with sleeps_when_unused_plan idle_agents 30 sleeps_when_unused_events ending.Finished refl refl (over ending.Finished refl);
  kept = refl;
}

pub started : IsIdleRun started_plan started_events ending.Finished
unfolding run_with value_of time_after awake_rest asleep_rest is_held ever
started = record {
  worked = worked_with started_plan idle_agents 11 started_events ending.Finished refl refl (over ending.Finished refl);
  kept = refl;
}

pub surprised : IsIdleRun surprised_plan surprised_events ending.Finished
unfolding run_with value_of time_after awake_rest asleep_rest is_held ever
surprised = record {
  worked = worked_with surprised_plan idle_agents 19 surprised_events ending.Finished refl refl (over ending.Finished refl);
  kept = refl;
}

pub two_timeouts : IsIdleRun two_timeouts_plan two_timeouts_events ending.Finished
unfolding run_with value_of time_after awake_rest asleep_rest is_held ever
two_timeouts = record {
  worked = worked_with two_timeouts_plan idle_agents 25 two_timeouts_events ending.Finished refl refl (over ending.Finished refl);
  kept = refl;
}

pub used_for_a_while : IsIdleRun used_for_a_while_plan used_for_a_while_events ending.Finished
unfolding run_with value_of time_after awake_rest asleep_rest is_held ever
used_for_a_while = record {
  worked = worked_with used_for_a_while_plan idle_agents 16 used_for_a_while_events ending.Finished refl refl (over ending.Finished refl);
  kept = refl;
}
