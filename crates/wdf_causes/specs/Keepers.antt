-- The queues of a device by id, and the frames that keep a step of it.
use Rattle.std.specs.Prelude.{if◌then◌else◌, ℕ, Bool, nat_lt, ◌&&◌, List, [], length, filter}
use Rattle.wdf_base.specs.declared.plan.Plan.{Plan}
use Rattle.wdf_base.specs.declared.call.Callback.TheVariants as callback
use Rattle.wdf_model.specs.Plans.{is_managed, is_queue_of, queue_of}
use Rattle.wdf_model.specs.parts.Cpus.{all_frames, is_on}
use Rattle.wdf_model.specs.parts.Locks.{scope_of}
use Rattle.wdf_model.specs.State.{State, declared_in}
use Rattle.wdf_model.specs.rules.Waits.{has_dpc_of, head_lock, holders_of, resumes_at}

-- a power-managed queue of a device
abbrev pub is_managed_at : Plan → ℕ → ℕ → Bool
is_managed_at plan d q = is_queue_of d (queue_of plan q) && is_managed plan q

-- a resume is due from a queue
abbrev pub some_resume : {A : Type 0} → Plan → State A → ℕ → Bool
some_resume plan S q = nat_lt 0 (length (resumes_at plan S q))

-- a power-managed queue of a device from which a resume is due
abbrev pub is_to_resume : {A : Type 0} → Plan → State A → ℕ → ℕ → Bool
is_to_resume plan S d q = is_managed_at plan d q && some_resume plan S q

-- the frame that holds the lock that the first DPC of a processor needs, where one of the device is in its list
abbrev pub head_holders : {A : Type 0} → Plan → State A → ℕ → ℕ → List ℕ
head_holders plan S d cpu = if has_dpc_of plan S d cpu then holders_of S (head_lock plan S cpu) else []

-- the frame that holds the scope lock that EvtIoResume of a queue needs, where a resume is due from it
abbrev pub resume_holders : {A : Type 0} → Plan → State A → ℕ → ℕ → List ℕ
resume_holders plan S d q = if is_to_resume plan S d q then holders_of S (scope_of plan callback.EvtIoResume q (declared_in plan S q)) else []

-- the frames that run on a queue, where it is a power-managed one of the device
abbrev pub frames_on_queue : {A : Type 0} → Plan → State A → ℕ → ℕ → List ℕ
frames_on_queue plan S d q = if is_managed_at plan d q then filter (is_on S.cpus q) (all_frames S.cpus) else []
