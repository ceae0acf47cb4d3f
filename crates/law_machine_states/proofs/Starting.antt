-- What a start of a run was allowed by.
use Rattle.std.proofs.Common.{◌≡◌, ℕ, true, List, Option, Some, slice_get, take}
use Rattle.wdf_base.specs.Meaning.{Meaning}
use Rattle.wdf_base.specs.declared.plan.Plan.{Plan}
use Rattle.wdf_base.specs.declared.ids.Cpu.{Cpu}
use Rattle.wdf_base.specs.declared.ids.Handle.{Handle}
use Rattle.wdf_base.specs.declared.call.Callback.{Callback}
use Rattle.wdf_base.specs.declared.event.Event.{Event}
use Rattle.wdf_base.specs.declared.event.Event.TheVariants as event
use Rattle.wdf_model.specs.Plans.{callback_irql}
use Rattle.wdf_model.specs.parts.Locks.{is_free_if_any, lock_of_callback}
use Rattle.wdf_model.specs.State.{State, declared_in, declares_in}
use Rattle.wdf_model.specs.rules.Starts.{is_ready_for, level_fits, life_fits}
use Rattle.wdf_model.specs.rules.Steps.{may}
use Rattle.wdf_model.specs.rules.Ready.{IsRunOf, state_after}
use Rattle.wdf_model.proofs.Tests.{both_left, both_right}
use Rattle.law_machine_lives.proofs.Keeping.{comes}

pub record Allowed {A : Type 0} (plan : Plan) (m : Meaning A) (S : State A) (cpu o : ℕ) (c : Callback) (r : Option Handle) : Type 0 where
  pub declared : declares_in plan S c o ≡ true
  pub due : is_ready_for plan m S cpu c o r ≡ true
  pub life : life_fits S c o ≡ true
  pub level : level_fits S cpu (callback_irql plan c o) ≡ true
  pub lock : is_free_if_any S.locks (lock_of_callback plan c o (declared_in plan S o)) ≡ true

by_may : {A : Type 0} (plan : Plan) (m : Meaning A) (S : State A) (cpu : Cpu) (c : Callback) (o : Handle) (r : Option Handle) → may plan m S (event.Start cpu c o r) ≡ true → Allowed plan m S cpu.0 o.id.0 c r
by_may plan m S cpu c o r h = record { declared = search (both_left, both_right); due = search (both_left, both_right); life = search (both_left, both_right); level = search (both_left, both_right); lock = search (both_left, both_right) }

pub allowed_at : {A : Type 0} (plan : Plan) (m : Meaning A) (run : List Event) → IsRunOf plan m run → (n : ℕ) (cpu : Cpu) (c : Callback) (o : Handle) (r : Option Handle) → slice_get run n ≡ Some (event.Start cpu c o r) → Allowed plan m (state_after plan m (take n run)) cpu.0 o.id.0 c r
allowed_at plan m run is_run n cpu c o r at =
    by_may plan m (state_after plan m (take n run)) cpu c o r (comes plan m run n (event.Start cpu c o r) is_run at (λ time e. let z : ⊥ = cc in z))
