-- What may start once what a line names is out of the way: a test for each form of line.
use Rattle.std.specs.Prelude.{ℕ, Bool, true, ◌==◌, ◌&&◌, Option, Some, None}
use Rattle.wdf_base.specs.declared.plan.Plan.{Plan}
use Rattle.wdf_base.specs.declared.object.Kind.TheVariants as kind
use Rattle.wdf_base.specs.declared.call.Callback.{Callback}
use Rattle.wdf_base.specs.declared.event.Step.{Step}
use Rattle.wdf_base.specs.declared.event.Step.TheVariants as step
use Rattle.wdf_base.specs.Callbacks.{row_of, dpc_function}
use Rattle.wdf_base.specs.Same.{same_handle, same_kind, same_option}
use Rattle.wdf_base.specs.Lives.{is_live}
use Rattle.wdf_model.specs.parts.Tree.{kind_of, life_of, nearest_device}
use Rattle.wdf_model.specs.parts.Deferred.Dpcs.{dpc_head}
use Rattle.wdf_model.specs.State.{State, declares_in}
use Rattle.law_machine_base.specs.Agreement.{is_sequence}
use Rattle.wdf_model.specs.rules.Starts.{interrupt_of_step}
use Rattle.wdf_model.specs.rules.Waits.{object_of_step}

-- an object is live and has this callback
abbrev pub has_callback : {A : Type 0} → Plan → State A → Callback → ℕ → Bool
has_callback plan S c o = is_live (life_of S.tree o) && declares_in plan S c o

-- a queue that is live
abbrev pub is_live_queue : {A : Type 0} → State A → ℕ → Bool
is_live_queue S q = is_live (life_of S.tree q) && same_kind (kind_of S.tree q) kind.Queue

abbrev pub first_may_run : {A : Type 0} → Plan → State A → Option ℕ → Bool
first_may_run plan S None = true
first_may_run plan S (Some o) = has_callback plan S (dpc_function (kind_of S.tree o)) o

-- the first in a processor's DPC list, if any, is live and has its function
abbrev pub dpc_may_run : {A : Type 0} → Plan → State A → ℕ → Bool
dpc_may_run plan S cpu = first_may_run plan S (dpc_head S.dpcs cpu)

-- the callback of a device's step is that of a live object of the device, which has it
abbrev pub step_may_run : {A : Type 0} → Plan → State A → ℕ → Step → Bool
step_may_run plan S d (step.Pass s i) = true
step_may_run plan S d (step.Run c i) =
    has_callback plan S c (object_of_step d i) && is_sequence (row_of c).rank && nearest_device S.tree (object_of_step d i) == d
    && same_option same_handle (interrupt_of_step plan S (object_of_step d i)) i
