-- What a sequence has left, and whether it runs a step.
use Rattle.std.proofs.Common.{◌≡◌, ℕ, ◌==◌, true, false, not, ◌||◌, List, [], length, Option, Some, None, is_some, refl}
use Rattle.wdf_base.specs.Callbacks.{is_query}
use Rattle.wdf_base.specs.declared.call.Callback.{Callback}
use Rattle.wdf_base.specs.declared.call.Callback.TheVariants as callback
use Rattle.wdf_base.specs.declared.event.Stage.{Stage}
use Rattle.wdf_base.specs.declared.event.Stage.TheVariants as stage
use Rattle.wdf_base.specs.declared.event.Step.{Step}
use Rattle.wdf_model.specs.parts.Pnp.{Pnp, Sequence, busy, left_after_failure, passed, running_step, steps_left}

free_by : (r : Option Step) (xs : List Step) → (is_some r || not (length xs == 0)) ≡ false → r ≡ None
free_by None xs h = refl
free_by (Some x) xs h = absurd (let z : ⊥ = cc in z)

pub free_runs_none : (Q : Pnp) (d : ℕ) → busy Q d ≡ false → running_step Q d ≡ None
free_runs_none Q d h = free_by (running_step Q d) (steps_left Q d) h

-- a refused query leaves nothing
pub refused_query : (q : Sequence) (c : Callback) → is_query c ≡ true → left_after_failure q c ≡ []
refused_query q callback.EvtDeviceQueryStop h = refl
refused_query q callback.EvtDeviceQueryRemove h = refl
refused_query q _ h = absurd (let z : ⊥ = cc in z)

pub passed_left : (s : Stage) (q : Sequence) → (passed s q).left ≡ q.left
passed_left stage.Removed q = refl
passed_left _ q = refl
