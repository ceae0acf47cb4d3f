-- The numbers that stand for names in a plan.
use Rattle.std.specs.Prelude.{ℕ, ◌+◌, List, Option, Some, None}
use Rattle.wdf_base.specs.declared.ids.Handle.{Handle}
use Rattle.wdf_base.specs.declared.ids.ObjectId.{ObjectId}
use Rattle.wdf_base.specs.declared.event.Action.{Action}
use Rattle.wdf_base.specs.declared.event.Action.TheVariants as action
use Rattle.wdf_scene.specs.declared.line.SceneAction.{SceneAction}
use Rattle.wdf_scene.specs.declared.line.SceneAction.TheVariants as scene_action
use Rattle.wdf_blocks.specs.declared.declaration.Declaration.{Declaration}
use Rattle.wdf_blocks.specs.declared.declaration.Wanted.{Wanted}
use Rattle.wdf_blocks.specs.declared.declaration.Wanted.TheVariants as wanted
use Rattle.wdf_blocks.specs.Declarations.{found, has_name}
use Rattle.wdf_refusals.specs.Names.{place_from}

-- the id of the object before which so many were declared: the driver object has 1
abbrev pub id_of : ℕ → ObjectId
id_of order = record { 0 = order + 2 }

-- after `driver` and `req`; 0 for a name that isn't declared
abbrev pub numbered : Option ℕ → ℕ
numbered None = 0
numbered (Some k) = k + 2

-- the number of a declared name
unfoldable pub name_number : List Declaration → List ℕ → ℕ
name_number names n = numbered (place_from (has_name n) 0 names)

-- how many of its sort were declared before; 0 for nothing
abbrev pub order_of : Option Declaration → ℕ
order_of None = 0
order_of (Some d) = d.order

-- the number among the registers, the classes or the objects of what a name stands for
unfoldable pub number_of : List Declaration → List ℕ → Wanted → ℕ
number_of names n w = order_of (found names n w)

-- the object that a name stands for
unfoldable pub handle_of : List Declaration → List ℕ → Wanted → Handle
handle_of names n w = record { id = id_of (number_of names n w); name = name_number names n }

-- what the device with this line does
unfoldable pub action_of : List Declaration → Option ℕ → SceneAction → Action
action_of names device (scene_action.Set r v) =
    action.Set (number_of names r (wanted.RegisterOf device)) v
action_of names device (scene_action.Raise i) =
    action.Raise (handle_of names i (wanted.InterruptOf device))
action_of names device (scene_action.Lower i) =
    action.Lower (handle_of names i (wanted.InterruptOf device))
