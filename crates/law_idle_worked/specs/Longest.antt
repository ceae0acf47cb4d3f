-- A timeout above the longest.
use Rattle.std.specs.Prelude.{◌≡◌, [], ◌∷◌, Some, None, List, fold}
use Rattle.wdf_base.specs.declared.event.Ask.TheVariants as ask
use Rattle.wdf_base.specs.declared.event.Post.TheVariants as post
use Rattle.wdf_base.specs.declared.event.Event.{Event}
use Rattle.wdf_base.specs.declared.event.Event.TheVariants as event
use Rattle.wdf_base.specs.declared.plan.Plan.{Plan}
use Rattle.wdf_model.specs.agents.IdlePolicy.{IdlePolicy, policy_at, policy_after, policy_due, policy_next}
use Rattle.law_machine_worked.specs.Writing.{h}
use Rattle.law_idle_worked.specs.IdleRequests.{hold_by_device_plan}

-- own: a plan whose device's timeout is 2000000
abbrev pub long_plan : Plan
long_plan = record hold_by_device_plan { registers = (record { name = 3; device = record { 0 = 2 }; value = 2000000 }) ∷ [] }

-- own: the policy after these events
abbrev pub policy_of : List Event → IdlePolicy
policy_of events = fold policy_after (policy_at long_plan) events

-- Its next post is at 1000000: not before it, and there it puts the device to sleep.
pub record IsLongest : Type 0 where
  pub ahead : policy_next (policy_of []) ≡ Some 1000000
  pub before : policy_due (policy_of (event.Tick 999999 ∷ [])) ≡ None
  pub then : policy_due (policy_of (event.Tick 1000000 ∷ [])) ≡ Some (post.Ask ask.Sleep (h 2 2))
