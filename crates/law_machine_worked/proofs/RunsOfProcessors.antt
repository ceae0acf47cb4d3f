-- Worked runs, computed from the definitions. Made by tools/scene_to_plan.py.
use Rattle.std.proofs.Common.{[], refl}
use Rattle.wdf_base.specs.declared.event.Ending.TheVariants as ending
use Rattle.law_machine_base.specs.Course.{run_by}
use Rattle.wdf_model.specs.rules.Script.{value_of}
use Rattle.law_machine_base.proofs.Course.{worked_of}
use Rattle.law_machine_worked.specs.Shown.{IsShown, is_kept}
use Rattle.law_machine_worked.proofs.Ended.{over}
use Rattle.law_machine_worked.specs.RunsOfProcessors.{blocked_dpc_plan, blocked_dpc_events, blocked_dpc_waits, deadlock_plan, deadlock_events, deadlock_waits, device_scope_plan, device_scope_events, isr_and_dpc_plan, isr_and_dpc_events, passive_interrupt_plan, passive_interrupt_events, periodic_timer_plan, periodic_timer_events}

pub blocked_dpc : IsShown blocked_dpc_plan blocked_dpc_events ending.Stuck blocked_dpc_waits
unfolding run_by value_of is_kept
blocked_dpc = record {
  worked = worked_of blocked_dpc_plan 21 blocked_dpc_events ending.Stuck refl refl (over ending.Stuck refl);
  agree = refl;
  stuck = refl;
}

pub deadlock : IsShown deadlock_plan deadlock_events ending.Stuck deadlock_waits
unfolding run_by value_of is_kept
deadlock = record {
  worked = worked_of deadlock_plan 29 deadlock_events ending.Stuck refl refl (over ending.Stuck refl);
  agree = refl;
  stuck = refl;
}

pub device_scope : IsShown device_scope_plan device_scope_events ending.Finished []
unfolding run_by value_of is_kept
device_scope = record {
  worked = worked_of device_scope_plan 14 device_scope_events ending.Finished refl refl (over ending.Finished refl);
  agree = refl;
  stuck = refl;
}

pub isr_and_dpc : IsShown isr_and_dpc_plan isr_and_dpc_events ending.Finished []
unfolding run_by value_of is_kept
isr_and_dpc = record {
  worked = worked_of isr_and_dpc_plan 19 isr_and_dpc_events ending.Finished refl refl (over ending.Finished refl);
  agree = refl;
  stuck = refl;
}

pub passive_interrupt : IsShown passive_interrupt_plan passive_interrupt_events ending.Finished []
unfolding run_by value_of is_kept
passive_interrupt = record {
  worked = worked_of passive_interrupt_plan 41 passive_interrupt_events ending.Finished refl refl (over ending.Finished refl);
  agree = refl;
  stuck = refl;
}

pub periodic_timer : IsShown periodic_timer_plan periodic_timer_events ending.Finished []
unfolding run_by value_of is_kept
periodic_timer = record {
  worked = worked_of periodic_timer_plan 36 periodic_timer_events ending.Finished refl refl (over ending.Finished refl);
  agree = refl;
  stuck = refl;
}
