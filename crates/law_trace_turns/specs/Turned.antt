-- What an event does to the steps of devices: nothing, or one of four things to one device. (own)
use Rattle.std.specs.Prelude.{ℕ, ◌≡◌, Bool, true, false, ◌∷◌, drop, Option, Some, None}
use Rattle.wdf_base.specs.declared.ids.Cpu.{Cpu}
use Rattle.wdf_base.specs.declared.ids.Handle.{Handle}
use Rattle.wdf_base.specs.declared.value.Value.{Value}
use Rattle.wdf_base.specs.declared.call.Callback.{Callback}
use Rattle.wdf_base.specs.declared.event.Ask.{Ask}
use Rattle.wdf_base.specs.declared.event.Event.{Event}
use Rattle.wdf_base.specs.declared.event.Event.TheVariants as event
use Rattle.wdf_base.specs.declared.event.Post.{Post}
use Rattle.wdf_base.specs.declared.event.Post.TheVariants as post
use Rattle.wdf_base.specs.declared.event.Stage.{Stage}
use Rattle.wdf_base.specs.declared.event.Step.TheVariants as step
use Rattle.wdf_base.specs.Callbacks.{row_of}
use Rattle.wdf_base.specs.Lives.{is_gone}
use Rattle.wdf_model.specs.parts.Tree.{life_of, nearest_device}
use Rattle.wdf_model.specs.parts.Pnp.{busy, running_step, steps_left}
use Rattle.wdf_model.specs.parts.Pnp as pnp
use Rattle.wdf_model.specs.State.{State}
use Rattle.law_machine_base.specs.Agreement.{is_sequence}

-- a post asks something of a device
abbrev pub is_asking : Post → Bool
is_asking (post.Ask a n) = true
is_asking _ = false

-- an event that tells of a device's steps: a stage, something that is asked, the end of a step's callback
abbrev pub is_turning : Event → Bool
is_turning (event.Stage n s j) = true
is_turning (event.Posted agent p answer) = is_asking p
is_turning (event.End cpu c o v) = is_sequence (row_of c).rank
is_turning _ = false

-- what an event does to the steps of devices
pub data Turned {A : Type 0} (S U : State A) (e : Event) : Type 0 where
  -- nothing of devices
  Still : is_turning e ≡ false → U.pnp ≡ S.pnp → Turned S U e
  -- a step's callback begins
  Begun : (n : ℕ) (c : Callback) (j : Option Handle) → is_turning e ≡ false → running_step S.pnp n ≡ None → steps_left S.pnp n ≡ step.Run c j ∷ drop 1 (steps_left S.pnp n) → U.pnp ≡ pnp.taken S.pnp n → Turned S U e
  -- or ends
  Ended : (cpu : Cpu) (c : Callback) (o : Handle) (v : Value) (j l : Option Handle) → e ≡ event.End cpu c o v → is_gone (life_of S.tree o.id.0) ≡ false
      → running_step S.pnp (nearest_device S.tree o.id.0) ≡ Some (step.Run c j) → U.pnp ≡ pnp.ended S.pnp (nearest_device S.tree o.id.0) (step.Run c l) v → Turned S U e
  -- a stage is passed
  Passed : (n : Handle) (s : Stage) (j : Option Handle) → e ≡ event.Stage n s j → running_step S.pnp n.id.0 ≡ None → steps_left S.pnp n.id.0 ≡ step.Pass s j ∷ drop 1 (steps_left S.pnp n.id.0)
      → U.pnp ≡ pnp.taken S.pnp n.id.0 → Turned S U e
  -- something is asked of a device
  Asked : (agent : ℕ) (a : Ask) (n : Handle) (answer : Option Handle) → e ≡ event.Posted agent (post.Ask a n) answer → busy S.pnp n.id.0 ≡ false → U.pnp ≡ pnp.ask S.pnp n.id.0 a → Turned S U e
