-- What is so of a state in which nothing may come before the limit of events. (own)
use Rattle.std.specs.Prelude.{◌≡◌, ◌⊎◌, ◌≤◌, ℕ, true, false, [], length, None, Some, slice_get}
use Rattle.wdf_base.specs.Meaning.{Meaning}
use Rattle.wdf_base.specs.Plan.{posts_of}
use Rattle.wdf_base.specs.declared.plan.Plan.{Plan}
use Rattle.wdf_base.specs.declared.declared.PostLine.{PostLine}
use Rattle.wdf_base.specs.declared.event.Ask.{Ask}
use Rattle.wdf_base.specs.declared.event.Post.{Post}
use Rattle.wdf_base.specs.declared.event.Post.TheVariants as post
use Rattle.wdf_base.specs.declared.ids.Handle.{Handle}
use Rattle.wdf_model.specs.declared.entries.DeviceAction.{DeviceAction}
use Rattle.wdf_model.specs.agents.App as app
use Rattle.wdf_model.specs.agents.Device.{Device}
use Rattle.wdf_model.specs.agents.LowerTarget.{LowerTarget}
use Rattle.wdf_model.specs.parts.Deferred.Timers.{any_later_timer}
use Rattle.wdf_model.specs.parts.Pnp.{busy}
use Rattle.wdf_model.specs.State.{State}
use Rattle.wdf_model.specs.rules.Posts.{due_of, post_fits}
use Rattle.wdf_model.specs.rules.Ready.{any_spends}
use Rattle.wdf_dev.specs.Agents.{agent_meaning}
use Rattle.wdf_dev.specs.declared.any.AnyAgent.{AnyAgent}
use Rattle.wdf_dev.specs.declared.any.AnyAgent.TheVariants as agent

-- nothing waits for time, and what is due can't come
pub record NothingComes {A : Type 0} (plan : Plan) (m : Meaning A) (S : State A) : Type 0 where
  -- no frame spends time
  pub spends : any_spends S ≡ false
  -- no timer waits for a later tick
  pub timers : any_later_timer S.timers S.clock ≡ false
  -- no agent waits for a later tick
  pub later : (k : ℕ) (a : A) → slice_get S.agents k ≡ Some a → m.next a ≡ None
  -- what an agent has due doesn't fit the machine's table of posts
  pub posts : (k : ℕ) (p : Post) → due_of m S k ≡ Some p → post_fits plan S k p ≡ false

-- an app, whose agent has this number, has posted all its lines
abbrev pub HasPosted : Plan → ℕ → app.App → Type 0
HasPosted plan k p = length (posts_of plan k) ≤ p.posted

-- a post asks a device for a sequence while one of that device is under way: a step is left, or its callback runs
abbrev pub IsAskedOfBusy : {A : Type 0} → State A → Post → Type 0
IsAskedOfBusy S q = (a : Ask) × (d : Handle) × (q ≡ post.Ask a d) × (busy S.pnp d.id.0 ≡ true)

-- the Plug and Play manager has posted all its lines, or the next of them is for a device that isn't done
abbrev pub HasAsked : {A : Type 0} → Plan → State A → app.App → Type 0
HasAsked plan S p = HasPosted plan 0 p ⊎ ((l : PostLine) × (slice_get (posts_of plan 0) p.posted ≡ Some l) × IsAskedOfBusy S l.post)

-- a device has no action left: none of its lines has a tick at which it is to act
abbrev pub HasActed : Device → Type 0
HasActed d = (j : ℕ) (l : DeviceAction) → slice_get d.actions j ≡ Some l → l.tick ≡ None

-- a target is done with all that was sent to it
abbrev pub HasFinished : LowerTarget → Type 0
HasFinished t = t.sent ≡ []

-- The agent with this number has nothing left to post, but for the Plug and Play manager where a device isn't done.
abbrev pub IsOver : {A : Type 0} → Plan → State A → ℕ → AnyAgent → Type 0
IsOver plan S k (agent.PnpManager p) = HasAsked plan S p
IsOver plan S k (agent.App p) = HasPosted plan k p
IsOver plan S k (agent.Device d) = HasActed d
IsOver plan S k (agent.LowerTarget t) = HasFinished t

-- Each agent has nothing left to post, but for the Plug and Play manager where a device isn't done.
abbrev pub AllOver : Plan → State AnyAgent → Type 0
AllOver plan S = (k : ℕ) (a : AnyAgent) → slice_get S.agents k ≡ Some a → IsOver plan S k a

-- Nothing is due, but a post of the Plug and Play manager that asks a device for a sequence while one of it is under way.
abbrev pub AsksAreDue : State AnyAgent → Type 0
AsksAreDue S = (k : ℕ) (p : Post) → due_of agent_meaning S k ≡ Some p → (k ≡ 0) × IsAskedOfBusy S p

-- the agent with this number has nothing left to post
abbrev pub HasPlayed : Plan → ℕ → AnyAgent → Type 0
HasPlayed plan k (agent.PnpManager p) = HasPosted plan 0 p
HasPlayed plan k (agent.App p) = HasPosted plan k p
HasPlayed plan k (agent.Device d) = HasActed d
HasPlayed plan k (agent.LowerTarget t) = HasFinished t

-- The whole scenario was played: each agent has nothing left to post, and none has a post due.
pub record AllPlayed (plan : Plan) (S : State AnyAgent) : Type 0 where
  pub played : (k : ℕ) (a : AnyAgent) → slice_get S.agents k ≡ Some a → HasPlayed plan k a
  pub due : (k : ℕ) → due_of agent_meaning S k ≡ None
