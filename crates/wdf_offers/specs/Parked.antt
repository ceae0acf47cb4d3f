-- Which parked frames may come back, as the locks say for which they wait. (own)
use Rattle.std.specs.Prelude.{ℕ, Bool, not, ◌&&◌, nat_lt}
use Rattle.std.specs.List.{list_all}
use Rattle.wdf_base.specs.declared.plan.Plan.{Plan}
use Rattle.wdf_model.specs.Ids.{cpu_of}
use Rattle.wdf_model.specs.State.{State, is_locked}
use Rattle.wdf_model.specs.parts.Cpus.{frame_of, is_empty_cpu}
use Rattle.wdf_model.specs.parts.Locks.{is_free_lock, object_lock}
use Rattle.wdf_model.specs.rules.Steps.{is_cpu}
use Rattle.wdf_cpu.specs.ParkedFor.{lock_key, some_parked_for}

-- a wait lock is held; 0 is none
abbrev pub is_held : {A : Type 0} → State A → ℕ → Bool
is_held S o = nat_lt 0 o && is_locked S o

-- frame f waits for a wait lock that is held
abbrev pub is_blocked : {A : Type 0} → State A → ℕ → Bool
is_blocked S f = is_held S (lock_key (frame_of S.cpus f))

-- each parked frame waits for a wait lock that is held
abbrev pub all_blocked : {A : Type 0} → State A → Bool
all_blocked S = list_all (is_blocked S) S.cpus.parked

-- a wait lock is free; 0 is none
abbrev pub is_open : {A : Type 0} → State A → ℕ → Bool
is_open S o = nat_lt 0 o && is_free_lock S.locks (object_lock o)

-- frame f waits for a wait lock that is free
abbrev pub is_freed : {A : Type 0} → State A → ℕ → Bool
is_freed S f = is_open S (lock_key (frame_of S.cpus f))

-- a processor of the plan is empty, and each parked frame waits for a wait lock
abbrev pub is_counted : {A : Type 0} → Plan → State A → ℕ → Bool
is_counted plan S cpu = is_cpu plan (cpu_of cpu) && is_empty_cpu S.cpus cpu && not (some_parked_for S.cpus 0)
