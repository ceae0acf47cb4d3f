-- Who takes the step of an event.
use Rattle.std.specs.Prelude.{Bool}
use Rattle.wdf_base.specs.declared.event.Event.{Event}
use Rattle.wdf_base.specs.declared.event.Event.TheVariants as event
use Rattle.wdf_base.specs.declared.event.Actor.{Actor}
use Rattle.wdf_base.specs.declared.event.Actor.TheVariants as actor
use Rattle.wdf_base.specs.Same.{same_actor}

-- who takes the step, a row for each kind of event
abbrev pub actor_of : Event → Actor
actor_of (event.Start cpu callback object request) = actor.Cpu cpu.0
actor_of (event.Local cpu line) = actor.Cpu cpu.0
actor_of (event.Log cpu value) = actor.Cpu cpu.0
actor_of (event.Spend cpu ticks) = actor.Cpu cpu.0
actor_of (event.Register cpu access register value) = actor.Cpu cpu.0
actor_of (event.Did cpu call answer) = actor.Cpu cpu.0
actor_of (event.Waiting cpu call) = actor.Cpu cpu.0
actor_of (event.Woke cpu call answer) = actor.Cpu cpu.0
actor_of (event.Park cpu frame) = actor.Cpu cpu.0
actor_of (event.Unpark cpu frame) = actor.Cpu cpu.0
actor_of (event.End cpu callback object value) = actor.Cpu cpu.0
actor_of (event.Fault cpu fault line) = actor.Cpu cpu.0
actor_of (event.Stage device stage interrupt) = actor.Framework
actor_of (event.Complete request status) = actor.Framework
actor_of (event.Cleanup object) = actor.Framework
actor_of (event.Destroy object) = actor.Framework
actor_of (event.Posted agent post answer) = actor.Agent agent
actor_of (event.Tick time) = actor.Clock

-- whether an event is a step of this actor
abbrev pub is_by : Actor → Event → Bool
is_by who e = same_actor (actor_of e) who
