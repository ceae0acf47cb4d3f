-- What a line of a stuck run's wait list says. (own)
use Rattle.std.specs.Prelude.{if◌then◌else◌, ◌≡◌, ◌⊎◌, ◌<◌, ℕ, Bool, true, false, not, ◌&&◌, ◌||◌, nat_lt, List, Option, Some, is_some, slice_get}
use Rattle.wdf_base.specs.Meaning.{Meaning}
use Rattle.wdf_base.specs.declared.plan.Plan.{Plan}
use Rattle.wdf_base.specs.declared.event.Event.{Event}
use Rattle.wdf_base.specs.declared.event.Stage.TheVariants as stage
use Rattle.wdf_base.specs.declared.event.Step.TheVariants as step
use Rattle.wdf_base.specs.declared.wait.Cause.{Cause}
use Rattle.wdf_base.specs.declared.wait.Cause.TheVariants as cause
use Rattle.wdf_base.specs.declared.wait.OpenThing.{OpenThing}
use Rattle.wdf_base.specs.declared.wait.OpenThing.TheVariants as thing
use Rattle.wdf_base.specs.Lives.{is_asked, is_cleaned, is_past_cleanup}
use Rattle.wdf_model.specs.Tables.{contains}
use Rattle.wdf_model.specs.parts.Tree.{is_child, life_of, parent_of}
use Rattle.wdf_model.specs.parts.Pnp.{follows_queues_up, is_running_step}
use Rattle.wdf_model.specs.parts.Deferred.Dpcs.{is_dpc_queued}
use Rattle.wdf_model.specs.State.{State}
use Rattle.wdf_model.specs.rules.Ready.{state_after}
use Rattle.wdf_model.specs.rules.Waits.{cpu_of_dpc, cpus_with_dpc, frames_above, resume_cpus, resume_frames, wait_list}
use Rattle.law_stuck_causes.specs.Caused.{has_no_cause}
use Rattle.law_stuck_causes.specs.Causes.{keeps}
use Rattle.law_stuck_objects.specs.Deleted.{finds_no_cpu}
use Rattle.law_stuck_objects.specs.Spinning.{Spins}

-- ---- what is so

-- An object goes before this one, which is being deleted. Once this one is cleaned up it is a child that isn't gone. Before
-- that it is one that isn't cleaned up: a child, or, where the deletion of the parent was asked too, a younger sibling.
abbrev pub goes_first : {A : Type 0} → State A → ℕ → ℕ → Bool
goes_first S o x =
    if is_cleaned (life_of S.tree o) then is_child S.tree o x
    else (is_child S.tree o x || (is_asked (life_of S.tree (parent_of S.tree o)) && is_child S.tree (parent_of S.tree o) x && nat_lt o x)) && not (is_past_cleanup (life_of S.tree x))

-- What a line names is so, by the test of its form. Of an object that is being deleted a child is so that goes before it.
-- And `cpus` is so where its callback, or the completion routine of the request that it is, comes next and no processor can
-- take it.
abbrev pub is_blamed : {A : Type 0} → Plan → State A → OpenThing → Cause → Bool
is_blamed plan S (thing.Leaving o) (cause.ByChild x) = goes_first S o.id.0 x.id.0
is_blamed plan S (thing.Leaving o) cause.NoCpu = finds_no_cpu plan S o.id.0
is_blamed plan S t x = keeps plan S t x

-- ---- the order of a row's causes

-- Of a frame: a frame above it on its processor, then the frame, the lock or the request that its call waits for, then a
-- work item, then the processors.
abbrev pub place_of_frame : {A : Type 0} → State A → ℕ → Cause → ℕ
place_of_frame S f (cause.ByFrame g) = if contains g.0 (frames_above S f) then 0 else 1
place_of_frame S f (cause.ByLock l g) = 1
place_of_frame S f (cause.ByRequest r) = 1
place_of_frame S f (cause.ByWork w) = 2
place_of_frame S f cause.NoCpu = 3
place_of_frame S f _ = 9

-- Of a device's next step: where it follows `queues_up`, what keeps the resumes, a frame before the processors. Then what
-- keeps the step itself: a request, a frame, the processors.
abbrev pub place_of_next : {A : Type 0} → Plan → State A → ℕ → Cause → ℕ
place_of_next plan S d (cause.ByFrame g) = if follows_queues_up S.pnp d && contains g.0 (resume_frames plan S d) then 0 else 3
place_of_next plan S d (cause.ByRequest r) = 2
place_of_next plan S d cause.NoCpu = if follows_queues_up S.pnp d && resume_cpus plan S d then 1 else 4
place_of_next plan S d _ = 9

-- the place of a cause in the row of its form, from 0; what is no cause of the form is at the end. The callback of a step
-- that runs is the step's only cause.
abbrev pub place_in_row : {A : Type 0} → Plan → State A → OpenThing → Cause → ℕ
place_in_row plan S (thing.Waiting f c o) x = place_of_frame S f.0 x
place_in_row plan S (thing.Queued r q) cause.Stopped = 0
place_in_row plan S (thing.Queued r q) cause.Unpowered = 1
place_in_row plan S (thing.Queued r q) cause.Manual = 2
place_in_row plan S (thing.Queued r q) (cause.Behind x) = 3
place_in_row plan S (thing.Queued r q) cause.Full = 4
place_in_row plan S (thing.Queued r q) cause.ScopeHeld = 5
place_in_row plan S (thing.Queued r q) cause.NoCpu = 6
place_in_row plan S (thing.Returning r q) cause.ScopeHeld = 0
place_in_row plan S (thing.Returning r q) cause.NoCpu = 1
place_in_row plan S (thing.Sequence d s) x = if is_running_step S.pnp d.id.0 then 0 else place_of_next plan S d.id.0 x
place_in_row plan S (thing.Leaving o) (cause.References n) = 0
place_in_row plan S (thing.Leaving o) (cause.ByChild x) = 1
place_in_row plan S (thing.Leaving o) (cause.ByFrame f) = 2
place_in_row plan S (thing.Leaving o) cause.NoCpu = 3
place_in_row plan S (thing.Leaving o) (cause.AtTarget t) = 4
place_in_row plan S (thing.Deferred o) cause.ScopeHeld = 0
place_in_row plan S (thing.Deferred o) (cause.ByFrame f) = 1
place_in_row plan S (thing.Deferred o) cause.NoCpu = 2
place_in_row plan S _ _ = 9

-- a cause of the form comes before another in its row
abbrev pub comes_before : {A : Type 0} → Plan → State A → OpenThing → Cause → Cause → Bool
comes_before plan S t y x = nat_lt (place_in_row plan S t y) (place_in_row plan S t x)

-- ---- processors

-- each processor of the plan spins
abbrev pub AllSpin : {A : Type 0} → Plan → State A → Type 0
AllSpin plan S = (cpu : ℕ) → cpu < plan.cpus → Spins S cpu

-- a processor spins in whose list a DPC of this device is
abbrev pub OneSpins : {A : Type 0} → Plan → State A → ℕ → Type 0
OneSpins plan S d = (cpu : ℕ) × (contains cpu (cpus_with_dpc plan S d) ≡ true) × Spins S cpu

-- What `cpus` means: each processor that could take the start spins. A queued DPC starts on its own processor alone, and
-- `quiet` waits for the DPCs of the device on theirs. Any other start could be on each processor of the plan.
abbrev pub MeansSpinning : {A : Type 0} → Plan → State A → OpenThing → Type 0
MeansSpinning plan S (thing.Deferred o) = (is_dpc_queued S.dpcs o.id.0 ≡ true → Spins S (cpu_of_dpc plan S o.id.0)) × (is_dpc_queued S.dpcs o.id.0 ≡ false → AllSpin plan S)
MeansSpinning plan S (thing.Sequence d (step.Pass stage.Quiet i)) = AllSpin plan S ⊎ OneSpins plan S d.id.0
MeansSpinning plan S _ = AllSpin plan S

-- ---- the lines

-- What a line says of the open thing that it is about.
pub record Explains {A : Type 0} (plan : Plan) (S : State A) (t : OpenThing) (o : Option Cause) : Type 0 where
  -- where its form has causes, it names one
  pub named : has_no_cause t ≡ false → is_some o ≡ true
  -- what it names is so
  pub so : (x : Cause) → o ≡ Some x → is_blamed plan S t x ≡ true
  -- no cause that comes before it in the row of its form is so
  pub first : (x y : Cause) → o ≡ Some x → comes_before plan S t y x ≡ true → is_blamed plan S t y ≡ false
  -- where it names `cpus`, the processors that could take the start spin
  pub spins : o ≡ Some cause.NoCpu → MeansSpinning plan S t

-- Each line of the wait list explains why what it is about doesn't go on.
abbrev pub IsExplained : {A : Type 0} → Plan → Meaning A → List Event → Type 0
IsExplained plan m run = (k : ℕ) (t : OpenThing) (o : Option Cause) → slice_get (wait_list plan m run) k ≡ Some (record { thing = t; cause = o })
    → Explains plan (state_after plan m run) t o
