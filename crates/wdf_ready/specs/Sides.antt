-- Whose events they are: a processor's, the framework's and the clock's, or those of the agents. All events that a group has
-- are of one side.
use Rattle.std.specs.Prelude.{◌==◌, Bool, true, false}
use Rattle.wdf_base.specs.declared.event.Event.{Event}
use Rattle.wdf_base.specs.declared.event.Actor.{Actor}
use Rattle.wdf_base.specs.declared.event.Actor.TheVariants as actor
use Rattle.wdf_model.specs.declared.enums.Group.{Group}
use Rattle.wdf_model.specs.declared.enums.Group.TheVariants as group
use Rattle.wdf_ready.specs.Actors.{actor_of}
use Rattle.wdf_ready.specs.declared.blocks.Block.{Block}
use Rattle.wdf_ready.specs.declared.blocks.Block.TheVariants as block
use Rattle.wdf_ready.specs.declared.sides.Side.{Side}
use Rattle.wdf_ready.specs.declared.sides.Side.TheVariants as side

-- the side of an actor
abbrev pub side_of : Actor → Side
side_of (actor.Cpu cpu) = side.Processor cpu
side_of actor.Framework = side.Framework
side_of (actor.Agent agent) = side.Agents
side_of actor.Clock = side.Framework

-- two sides are one
abbrev pub same_side : Side → Side → Bool
same_side (side.Processor a) (side.Processor b) = a == b
same_side side.Framework side.Framework = true
same_side side.Agents side.Agents = true
same_side _ _ = false

-- an event is of a side
abbrev pub is_of : Side → Event → Bool
is_of s e = same_side (side_of (actor_of e)) s

-- the side of all events that a group has
abbrev pub side_of_group : Group → Side
side_of_group (group.OwnEvent cpu) = side.Processor cpu
side_of_group (group.Parks cpu) = side.Processor cpu
side_of_group (group.Unparks cpu) = side.Processor cpu
side_of_group (group.Starts cpu rank) = side.Processor cpu
side_of_group (group.StartsFor cpu rank object) = side.Processor cpu
side_of_group group.Stages = side.Framework
side_of_group group.Completions = side.Framework
side_of_group group.Cleanups = side.Framework
side_of_group group.Destroys = side.Framework
side_of_group group.Posts = side.Agents

-- and that of all events of a block
abbrev pub side_of_block : Block → Side
side_of_block (block.One g) = side_of_group g
side_of_block (block.ForEach cpu r) = side.Processor cpu
