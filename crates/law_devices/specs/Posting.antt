-- What a device posts: which of its actions, and when it is due, read off the events of a run alone.
use Rattle.std.specs.Prelude.{◌≡◌, ◌≢◌, ◌<◌, ◌≤◌, ℕ, zero, suc, ◌==◌, Bool, true, false, ◌&&◌, List, Option, Some, None, slice_get, take}
use Rattle.wdf_base.specs.declared.plan.Plan.{Plan}
use Rattle.wdf_base.specs.declared.ids.Handle.{Handle}
use Rattle.wdf_base.specs.declared.declared.WhenLine.{WhenLine}
use Rattle.wdf_base.specs.declared.event.Event.{Event}
use Rattle.wdf_base.specs.declared.event.Event.TheVariants as event
use Rattle.wdf_base.specs.declared.event.Post.{Post}
use Rattle.wdf_base.specs.declared.event.Post.TheVariants as post
use Rattle.wdf_base.specs.Same.{same_access}
use Rattle.wdf_model.specs.declared.entries.DeviceAction.{DeviceAction}
use Rattle.wdf_model.specs.Tables.{tick_after}
use Rattle.wdf_model.specs.agents.Device.{device_actions}
use Rattle.law_idle.specs.Idling.{time_after}

-- ---- what one event says

-- event e is an access that a `when` line waits for
abbrev pub triggers_line : WhenLine → Event → Bool
triggers_line w (event.Register cpu a r v) = same_access w.access a && w.register == r
triggers_line w _ = false

-- event e is a post of this agent
abbrev pub is_post_of : ℕ → Event → Bool
is_post_of agent (event.Posted by p answer) = by == agent
is_post_of agent _ = false

-- ---- what the events of a run say

-- From place `from` on, up to place n, the agent doesn't post its action j. `number` says which of its actions it posts at a
-- place.
abbrev pub NotPosted : List Event → ℕ → (ℕ → ℕ) → ℕ → ℕ → ℕ → Type 0
NotPosted run agent number j from n = (i : ℕ) (e : Event) → from ≤ i → i < n → slice_get run i ≡ Some e → is_post_of agent e ≡ true → number i ≢ j

-- Action j, of `when` line w with a delay, has tick t at place n. (own)
pub record IsSetOff (run : List Event) (agent : ℕ) (number : ℕ → ℕ) (j n : ℕ) (w : WhenLine) (t : ℕ) : Type 0 where
  pub delayed : 0 < w.after
  -- an access before n triggered it
  pub place : ℕ
  pub before : place < n
  pub access : Event
  pub at : slice_get run place ≡ Some access
  pub triggers : triggers_line w access ≡ true
  -- its tick is the delay later
  pub tick : t ≡ tick_after (time_after (take place run)) w.after
  -- no later access moved it
  pub last : (i : ℕ) (e : Event) → place < i → i < n → slice_get run i ≡ Some e → triggers_line w e ≡ false
  -- it wasn't posted since
  pub since : NotPosted run agent number j (suc place) n

-- An action, by its `when` line and its `at` tick, has tick t at place n. One with `at` has its tick until it is posted. (own)
abbrev pub HasTick : List Event → ℕ → (ℕ → ℕ) → ℕ → ℕ → Option WhenLine → Option ℕ → ℕ → Type 0
HasTick run agent number j n None at t = (at ≡ Some t) × NotPosted run agent number j zero n
HasTick run agent number j n (Some w) at t = IsSetOff run agent number j n w t

-- What a device posts at place n: one of its actions whose tick is reached, of these the first in the text. (own)
pub record IsActionPosted (plan : Plan) (d agent : ℕ) (run : List Event) (number : ℕ → ℕ) (n : ℕ) (p : Post) : Type 0 where
  -- the action, of the device's lines
  pub action : DeviceAction
  pub at : slice_get (device_actions plan d agent) (number n) ≡ Some action
  pub posts : p ≡ post.Act action.action
  -- its tick is reached
  pub tick : ℕ
  pub has : HasTick run agent number (number n) n action.trigger action.tick tick
  pub reached : tick ≤ time_after (take n run)
  -- that of no action before it in the text is
  pub first : (j : ℕ) (l : DeviceAction) (t : ℕ) → j < number n → slice_get (device_actions plan d agent) j ≡ Some l → HasTick run agent number j n l.trigger l.tick t
      → time_after (take n run) < t

-- What the agent of device d posts in a run are actions of the device, each when it is due. (own)
pub record PostsItsActions (plan : Plan) (d agent : ℕ) (run : List Event) : Type 0 where
  -- which of the device's actions it posts at a place
  pub number : ℕ → ℕ
  pub each : (n : ℕ) (p : Post) (answer : Option Handle) → slice_get run n ≡ Some (event.Posted agent p answer) → IsActionPosted plan d agent run number n p
