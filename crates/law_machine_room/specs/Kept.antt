-- What is so at each place of every run, and gives each deed its room. The tables keep their sizes, what
-- grows does so by one an event at most, and what is named is there. (own)
use Rattle.std.specs.Prelude.{◌≡◌, ℕ, ◌+◌, ◌<◌, ◌≤◌, true, ⊤, length, Option, Some, None, All}
use Rattle.wdf_base.specs.declared.plan.Plan.{Plan}
use Rattle.wdf_base.specs.declared.ids.Handle.{Handle}
use Rattle.wdf_base.specs.declared.event.Step.{Step}
use Rattle.wdf_base.specs.declared.event.Step.TheVariants as step
use Rattle.wdf_model.specs.Tables.{contains, entry}
use Rattle.wdf_model.specs.Plans.{agent_count, device_of}
use Rattle.wdf_model.specs.parts.Tree.{references_in}
use Rattle.wdf_model.specs.parts.Cpus.{all_frames}
use Rattle.wdf_model.specs.parts.Requests.{is_in, origin_of, place_of}
use Rattle.wdf_model.specs.parts.Queues.{held_in}
use Rattle.wdf_model.specs.parts.Pnp.{opening_sequence, sequence_of, steps_left}
use Rattle.wdf_model.specs.parts.Targets.{Targets, opening_targets, the_target}
use Rattle.wdf_model.specs.State.{State}
use Rattle.wdf_model.specs.rules.Groups.{declared_end}

-- The table of targets keeps its size, and each target its depth.
pub record TargetsKept (plan : Plan) (T : Targets) : Type 0 where
  pub many : length T.targets ≡ declared_end plan
  pub depths : (t : ℕ) → (the_target T t).depth ≡ (the_target (opening_targets plan) t).depth

-- The tables by declared object, by processor and by agent keep their sizes.
pub record SizesKept {A : Type 0} (plan : Plan) (S : State A) : Type 0 where
  pub dispatch : length S.queues.dispatch ≡ declared_end plan
  pub waiting : length S.queues.waiting ≡ declared_end plan
  pub held : length S.queues.held ≡ declared_end plan
  pub controls : length S.control.controls ≡ declared_end plan
  pub powers : length S.power.devices ≡ declared_end plan
  pub sequences : length S.pnp.devices ≡ declared_end plan
  pub targets : TargetsKept plan S.targets
  pub stacks : length S.cpus.stacks ≡ plan.cpus
  pub dpcs : length S.dpcs.lists ≡ plan.cpus
  pub agents : length S.agents ≡ agent_count plan

-- What grows has at most one item for each event.
pub record GrowthKept {A : Type 0} (plan : Plan) (S : State A) : Type 0 where
  pub objects : length S.tree.nodes ≤ declared_end plan + S.number
  pub declared : declared_end plan ≤ length S.tree.nodes
  -- a request has the id of its object
  pub requests : length S.requests.all ≤ length S.tree.nodes
  pub arrived : S.requests.arrived ≤ S.number
  pub references : references_in S.tree ≤ S.number
  pub held : held_in S.queues ≤ S.number
  pub levels : length S.cpus.levels ≤ S.number
  pub locks : length S.locks.held ≤ S.number
  pub arrivals : (agent : ℕ) → entry 0 S.arrivals agent ≤ S.number
  pub clock : S.clock ≤ S.number

-- the interrupt that a step names is there
abbrev pub IsHandleThere : Plan → Option Handle → Type 0
IsHandleThere plan None = ⊤
IsHandleThere plan (Some h) = h.id.0 < declared_end plan

abbrev pub IsStepThere : Plan → Step → Type 0
IsStepThere plan (step.Run c i) = IsHandleThere plan i
IsStepThere plan (step.Pass s i) = IsHandleThere plan i

-- What is named is there: queues of requests, frames, interrupts of steps.
pub record NamesKept {A : Type 0} (plan : Plan) (S : State A) : Type 0 where
  -- a request waits in a queue, or returns from one
  pub places : (r q : ℕ) → is_in q (place_of S.requests r) ≡ true → q < declared_end plan
  pub origins : (r q : ℕ) → origin_of S.requests r ≡ Some q → q < declared_end plan
  pub frames : (f : ℕ) → contains f (all_frames S.cpus) ≡ true → f < length S.cpus.frames
  pub steps : (d : ℕ) → All (IsStepThere plan) (steps_left S.pnp d)
  -- the steps of a device are made of what the plan says
  pub made_of : (d : ℕ) → (sequence_of S.pnp d).steps ≡ (opening_sequence plan d (device_of plan d)).steps

-- all of it
pub record RoomKept {A : Type 0} (plan : Plan) (S : State A) : Type 0 where
  pub sizes : SizesKept plan S
  pub growth : GrowthKept plan S
  pub names : NamesKept plan S
