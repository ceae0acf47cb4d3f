-- A device after one kind of event, as the code looks at it.
use Rattle.std.specs.Prelude.{if◌then◌else◌, ℕ, ◌==◌, not, ◌&&◌, ◌||◌, Option, Some, None}
use Rattle.wdf_base.specs.declared.ids.Handle.{Handle}
use Rattle.wdf_base.specs.declared.event.Action.{Action}
use Rattle.wdf_base.specs.declared.event.Action.TheVariants as action
use Rattle.wdf_base.specs.declared.event.Ask.{Ask}
use Rattle.wdf_base.specs.declared.event.Post.{Post}
use Rattle.wdf_base.specs.declared.event.Post.TheVariants as post
use Rattle.wdf_base.specs.declared.event.Stage.{Stage}
use Rattle.wdf_base.specs.declared.event.Stage.TheVariants as stage
use Rattle.wdf_model.specs.Tables.{same_id}
use Rattle.wdf_model.specs.agents.IdlePolicy.{IdleDevice, ends_asleep, ends_awake, is_of, with_arrival}

-- own: a device passes a stage
abbrev pub staged : IdleDevice → Handle → Stage → IdleDevice
staged x d stage.Working = record x { awake = x.awake || is_of x d }
staged x d stage.Sleeping = record x { asleep = x.asleep || is_of x d }
staged x d _ = x

-- own: something is asked of a device
abbrev pub asked : IdleDevice → Handle → Ask → IdleDevice
asked x d a =
    if is_of x d then record x { awake = x.awake && not (ends_awake a); asleep = x.asleep && not (ends_asleep a); was_awake = x.awake; was_asleep = x.asleep }
    else x

-- own: a register takes a number
abbrev pub numbered : IdleDevice → ℕ → ℕ → IdleDevice
numbered x k v = record x { hold = if same_id x.hold_register k then not (v == 0) else x.hold }

-- own: a device does something
abbrev pub acted : IdleDevice → Action → IdleDevice
acted x (action.Set k v) = numbered x k v
acted x _ = x

-- own: a request arrives for a device
abbrev pub arrived : IdleDevice → Handle → Option Handle → IdleDevice
arrived x d None = x
arrived x d (Some r) = if is_of x d then record x { pending = with_arrival x r.id.0 } else x

-- own: something is posted
abbrev pub posted : IdleDevice → Post → Option Handle → IdleDevice
posted x (post.Read d n) answer = arrived x d answer
posted x (post.Write d n) answer = arrived x d answer
posted x (post.Control d c n) answer = arrived x d answer
posted x (post.Ask a d) answer = asked x d a
posted x (post.Act a) answer = acted x a
posted x _ answer = x
