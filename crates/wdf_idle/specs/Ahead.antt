-- What the policy has before it, and which events may change it.
use Rattle.std.specs.Prelude.{ℕ, ◌≡◌, Bool, true, false, List, Option}
use Rattle.wdf_base.specs.declared.call.CallKind.{CallKind}
use Rattle.wdf_base.specs.declared.call.CallKind.TheVariants as call
use Rattle.wdf_base.specs.declared.event.Event.{Event}
use Rattle.wdf_base.specs.declared.event.Event.TheVariants as event
use Rattle.wdf_base.specs.declared.event.Post.{Post}
use Rattle.wdf_base.specs.Callbacks.{is_query}
use Rattle.wdf_model.specs.agents.App.{App}
use Rattle.wdf_model.specs.agents.IdlePolicy.{IdleDevice, first_post, policy_next}

-- own: its clock is the manager's; the first due post and the least later tick are those of the definitions
pub record IsAhead (manager : App) (devices : List IdleDevice) (clock : ℕ) (first : Option Post) (next : Option ℕ) : Type 0 where
  pub clock_is : clock ≡ manager.clock
  pub first_is : first ≡ first_post (record { manager = manager; devices = devices })
  pub next_is : next ≡ policy_next (record { manager = manager; devices = devices })

-- own: a call that completes a request
abbrev pub is_completion : CallKind → Bool
is_completion call.WdfRequestComplete = true
is_completion _ = false

-- own: an event that may change what the policy knows
abbrev pub concerns : Event → Bool
concerns (event.Stage d s i) = true
concerns (event.Posted agent p answer) = true
concerns (event.Register cpu a k v) = true
concerns (event.Complete r s) = true
concerns (event.Tick time) = true
concerns (event.End cpu c o v) = is_query c
concerns (event.Did cpu c answer) = is_completion c.kind
concerns _ = false
