-- How an event changes what is known of a device, for each kind of event.
use Rattle.std.proofs.Common.{if◌then◌else◌, ℕ, ◌≡◌, Bool, true, false, not, ◌&&◌, Option, Some, None, refl}
use Rattle.std.proofs.Math.Bool.{and-true}
use Rattle.wdf_base.specs.declared.ids.Handle.{Handle}
use Rattle.wdf_base.specs.declared.event.Ask.{Ask}
use Rattle.wdf_base.specs.declared.event.Action.{Action}
use Rattle.wdf_base.specs.declared.event.Action.TheVariants as action
use Rattle.wdf_base.specs.declared.event.Stage.{Stage}
use Rattle.wdf_base.specs.declared.event.Stage.TheVariants as stage
use Rattle.wdf_base.specs.declared.event.Post.{Post}
use Rattle.wdf_base.specs.declared.event.Post.TheVariants as post
use Rattle.wdf_base.specs.declared.event.Event.TheVariants as event
use Rattle.wdf_model.specs.agents.IdlePolicy.{IdleDevice, changed, ends_asleep, ends_awake, is_of, with_arrival}
use Rattle.wdf_idle.specs.Parts.{acted, asked, posted, staged}

pub by_stage : (x : IdleDevice) (d : Handle) (s : Stage) (i : Option Handle) → changed x (event.Stage d s i) ≡ staged x d s
by_stage x d stage.Hardware i = refl
by_stage x d stage.NoHardware i = refl
by_stage x d stage.Enabled i = refl
by_stage x d stage.Disabled i = refl
by_stage x d stage.QueuesUp i = refl
by_stage x d stage.QueuesDown i = refl
by_stage x d stage.Settled i = refl
by_stage x d stage.Quiet i = refl
by_stage x d stage.Closed i = refl
by_stage x d stage.Working i = refl
by_stage x d stage.Sleeping i = refl
by_stage x d stage.Removed i = refl

asked_as : (x : IdleDevice) (d : Handle) (a : Ask) (b : Bool) → is_of x d ≡ b
    → record x {
      awake = x.awake && not (is_of x d && ends_awake a);
      asleep = x.asleep && not (is_of x d && ends_asleep a);
      was_awake = if is_of x d then x.awake else x.was_awake;
      was_asleep = if is_of x d then x.asleep else x.was_asleep;
    } ≡ asked x d a
asked_as x d a true h = rw h refl
asked_as x d a false h = rw (h, and-true x.awake, and-true x.asleep) refl

by_ask : (x : IdleDevice) (agent : ℕ) (d : Handle) (a : Ask) (answer : Option Handle) → changed x (event.Posted agent (post.Ask a d) answer) ≡ asked x d a
by_ask x agent d a (Some r) = asked_as x d a (is_of x d) refl
by_ask x agent d a None = asked_as x d a (is_of x d) refl

by_action : (x : IdleDevice) (agent : ℕ) (a : Action) (answer : Option Handle) → changed x (event.Posted agent (post.Act a) answer) ≡ acted x a
by_action x agent (action.Set k v) (Some r) = refl
by_action x agent (action.Set k v) None = refl
by_action x agent (action.Raise i) (Some r) = refl
by_action x agent (action.Raise i) None = refl
by_action x agent (action.Lower i) (Some r) = refl
by_action x agent (action.Lower i) None = refl

arrived_as : (x : IdleDevice) (d r : Handle) (b : Bool) → is_of x d ≡ b
    → record x { pending = if is_of x d then with_arrival x r.id.0 else x.pending } ≡ (if is_of x d then record x { pending = with_arrival x r.id.0 } else x)
arrived_as x d r true h = rw h refl
arrived_as x d r false h = rw h refl

pub by_post : (x : IdleDevice) (agent : ℕ) (p : Post) (answer : Option Handle) → changed x (event.Posted agent p answer) ≡ posted x p answer
by_post x agent (post.Read d n) (Some r) = arrived_as x d r (is_of x d) refl
by_post x agent (post.Read d n) None = refl
by_post x agent (post.Write d n) (Some r) = arrived_as x d r (is_of x d) refl
by_post x agent (post.Write d n) None = refl
by_post x agent (post.Control d c n) (Some r) = arrived_as x d r (is_of x d) refl
by_post x agent (post.Control d c n) None = refl
by_post x agent (post.Cancel k) (Some r) = refl
by_post x agent (post.Cancel k) None = refl
by_post x agent (post.Ask a d) answer = by_ask x agent d a answer
by_post x agent (post.Act a) answer = by_action x agent a answer
by_post x agent (post.Done r s) (Some q) = refl
by_post x agent (post.Done r s) None = refl
