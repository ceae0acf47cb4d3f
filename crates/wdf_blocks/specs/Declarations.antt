-- What a scene declares, and what a name stands for.
use Rattle.std.specs.Prelude.{Bool, true, false, ℕ, ◌&&◌, ◌==◌, List, Option, Some, None, find}
use Rattle.std.specs.Option.{is_some}
use Rattle.std.specs.List.{filter_map, count_by}
use Rattle.std.specs.Str.{bytes_eq}
use Rattle.wdf_base.specs.declared.declared.ExecutionLevel.{ExecutionLevel}
use Rattle.wdf_base.specs.declared.object.Kind.{Kind}
use Rattle.wdf_base.specs.Kinds.{plain_kind, deferred_kind}
use Rattle.wdf_base.specs.Same.{same_option, same_kind}
use Rattle.wdf_base.specs.SamePlan.{same_execution_level}
use Rattle.wdf_scene.specs.declared.line.SceneLine.{SceneLine}
use Rattle.wdf_scene.specs.declared.line.SceneLine.TheVariants as line
use Rattle.wdf_scene.specs.declared.scene.Scene.{Scene}
use Rattle.wdf_blocks.specs.declared.declaration.Declaration.{Declaration}
use Rattle.wdf_blocks.specs.declared.declaration.Thing.{Thing}
use Rattle.wdf_blocks.specs.declared.declaration.Thing.TheVariants as thing
use Rattle.wdf_blocks.specs.declared.declaration.Wanted.{Wanted}
use Rattle.wdf_blocks.specs.declared.declaration.Wanted.TheVariants as wanted
use Rattle.wdf_blocks.specs.declared.placed.Placed.{Placed}
use Rattle.wdf_blocks.specs.Blocks.{effective_level}
use Rattle.wdf_blocks.specs.Placed.{placed}

-- a line declares this name for a thing that is the k-th of its sort, from 0
abbrev pub declaration : Placed → List ℕ → Thing → ℕ → Declaration
declaration p n t k =
    record { name = n; number = p.number; at = p.at; device = p.stand.device; thing = t; order = k }

-- what a line declares
unfoldable pub declared_by : Placed → SceneLine → Option Declaration
declared_by p (line.Class n k) =
    Some (declaration p n (thing.Class (plain_kind k)) p.counts.classes)
declared_by p (line.DeferredClass n k parent) =
    Some (declaration p n (thing.Class (deferred_kind k)) p.counts.classes)
declared_by p (line.Device n working) = Some (declaration p n thing.Device p.counts.objects)
declared_by p (line.Queue n dispatch) = Some (declaration p n thing.Queue p.counts.objects)
declared_by p (line.Interrupt n level) = Some (declaration p n thing.Interrupt p.counts.objects)
declared_by p (line.Target n delay status depth) =
    Some (declaration p n thing.Target p.counts.objects)
declared_by p (line.Register n v) = Some (declaration p n thing.Register p.counts.registers)
declared_by p (line.App n) = Some (declaration p n thing.App p.counts.apps)
declared_by p _ = None

abbrev pub declared_on : Placed → Option Declaration
declared_on p = declared_by p p.form

-- the declarations of a scene, in the order of their lines
unfoldable pub declarations : Scene → List Declaration
declarations scene = filter_map declared_on (placed scene)

-- a declaration of this name
abbrev pub has_name : List ℕ → Declaration → Bool
has_name n d = bytes_eq d.name n

abbrev pub is_object : Thing → Bool
is_object thing.Device = true
is_object thing.Queue = true
is_object thing.Interrupt = true
is_object thing.Target = true
is_object _ = false

abbrev pub is_device : Thing → Bool
is_device thing.Device = true
is_device _ = false

abbrev pub is_interrupt : Thing → Bool
is_interrupt thing.Interrupt = true
is_interrupt _ = false

abbrev pub is_register : Thing → Bool
is_register thing.Register = true
is_register _ = false

-- what a dpc, a timer or a work item may have as its parent
abbrev pub is_parent : Thing → Bool
is_parent thing.Device = true
is_parent thing.Queue = true
is_parent _ = false

-- a class of objects of this kind
abbrev pub is_class_of : Kind → Thing → Bool
is_class_of k (thing.Class c) = same_kind c k
is_class_of k _ = false

-- a declaration is what a place in the text needs
abbrev pub suits : Wanted → Declaration → Bool
suits wanted.Anything d = true
suits wanted.Device d = is_device d.thing
suits wanted.Object d = is_object d.thing
suits wanted.Parent d = is_parent d.thing
suits wanted.Register d = is_register d.thing
suits (wanted.RegisterOf v) d = is_register d.thing && same_option ◌==◌ d.device v
suits (wanted.InterruptOf v) d = is_interrupt d.thing && same_option ◌==◌ d.device v
suits (wanted.ClassOf k) d = is_class_of k d.thing

-- a declaration of this name that is what a place needs
abbrev pub is_wanted : List ℕ → Wanted → Declaration → Bool
is_wanted n w d = has_name n d && suits w d

-- the first declaration of this name that is what a place needs
unfoldable pub found : List Declaration → List ℕ → Wanted → Option Declaration
found names n w = find (is_wanted n w) names

-- the name stands for something there
unfoldable pub stands : List Declaration → List ℕ → Wanted → Bool
stands names n w = is_some (found names n w)

-- a declaration of this name as a device or a queue of this effective level
abbrev pub is_parent_at : Scene → ExecutionLevel → List ℕ → Declaration → Bool
is_parent_at scene l n d =
    is_wanted n wanted.Parent d && same_execution_level (effective_level scene d.at d.device) l

-- the declarations of objects
abbrev pub declares_object : Declaration → Bool
declares_object d = is_object d.thing

-- how many objects are declared
unfoldable pub object_count : List Declaration → ℕ
object_count names = count_by declares_object names
