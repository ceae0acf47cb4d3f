-- The kinds and the names of what a plan declares.
use Rattle.std.specs.Prelude.{ℕ, Bool, ◌==◌, Option, Some, None}
use Rattle.wdf_base.specs.declared.object.Kind.{Kind}
use Rattle.wdf_base.specs.declared.object.Kind.TheVariants as kind
use Rattle.wdf_base.specs.declared.declared.Declared.{Declared}
use Rattle.wdf_base.specs.declared.declared.Declared.TheVariants as declared
use Rattle.wdf_base.specs.declared.declared.PlainKind.{PlainKind}
use Rattle.wdf_base.specs.declared.declared.PlainKind.TheVariants as plain
use Rattle.wdf_base.specs.declared.declared.DeferredKind.{DeferredKind}
use Rattle.wdf_base.specs.declared.declared.DeferredKind.TheVariants as deferred
use Rattle.wdf_base.specs.declared.declared.ClassInfo.{ClassInfo}
use Rattle.wdf_base.specs.declared.declared.ClassInfo.TheVariants as class
use Rattle.wdf_base.specs.Same.{same_option}

-- the kind of a declared object; a class says its own
abbrev pub declared_kind : Declared → Option Kind
declared_kind declared.Driver = Some kind.Driver
declared_kind (declared.Device d) = Some kind.Device
declared_kind (declared.Queue q) = Some kind.Queue
declared_kind (declared.Interrupt i) = Some kind.Interrupt
declared_kind (declared.Target t) = Some kind.Target
declared_kind (declared.OfClass c) = None

-- the number of the name of a declared object; a class says its own
abbrev pub declared_name : Declared → Option ℕ
declared_name declared.Driver = Some 0
declared_name (declared.Device d) = Some d.name
declared_name (declared.Queue q) = Some q.name
declared_name (declared.Interrupt i) = Some i.name
declared_name (declared.Target t) = Some t.name
declared_name (declared.OfClass c) = None

-- a declared object has this name
abbrev pub has_name : ℕ → Declared → Bool
has_name n d = same_option ◌==◌ (declared_name d) (Some n)

-- the kind of the objects of a class that has no parent
abbrev pub plain_kind : PlainKind → Kind
plain_kind plain.Object = kind.General
plain_kind plain.SpinLock = kind.SpinLock
plain_kind plain.WaitLock = kind.WaitLock
plain_kind plain.Request = kind.Made

-- the kind of the objects of a class that has a parent
abbrev pub deferred_kind : DeferredKind → Kind
deferred_kind deferred.Dpc = kind.Dpc
deferred_kind deferred.Timer = kind.Timer
deferred_kind deferred.WorkItem = kind.WorkItem

-- the kind of the objects of a class
abbrev pub class_kind : ClassInfo → Kind
class_kind (class.Plain name k) = plain_kind k
class_kind (class.Deferred name k parent serialize period) = deferred_kind k

-- the number of the name of a class
abbrev pub class_name : ClassInfo → ℕ
class_name (class.Plain name k) = name
class_name (class.Deferred name k parent serialize period) = name
