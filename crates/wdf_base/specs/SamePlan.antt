-- When two parts of a plan are one: exactly where their variants and fields are.
use Rattle.std.specs.Prelude.{Bool, true, false, ◌==◌, ◌&&◌}
use Rattle.std.specs.Bool.{beq}
use denote.Enum.Bare.{sameb}
use Rattle.wdf_base.specs.declared.declared.Scope.{Scope}
use Rattle.wdf_base.specs.declared.declared.ExecutionLevel.{ExecutionLevel}
use Rattle.wdf_base.specs.declared.declared.DispatchKind.{DispatchKind}
use Rattle.wdf_base.specs.declared.declared.DispatchKind.TheVariants as dispatch
use Rattle.wdf_base.specs.declared.declared.Serves.{Serves}
use Rattle.wdf_base.specs.declared.declared.DeviceInfo.{DeviceInfo}
use Rattle.wdf_base.specs.declared.declared.QueueInfo.{QueueInfo}
use Rattle.wdf_base.specs.declared.declared.InterruptInfo.{InterruptInfo}
use Rattle.wdf_base.specs.declared.declared.TargetInfo.{TargetInfo}
use Rattle.wdf_base.specs.declared.declared.Declared.{Declared}
use Rattle.wdf_base.specs.declared.declared.Declared.TheVariants as declared
use Rattle.wdf_base.specs.contracts.declared.Scope as scope
use Rattle.wdf_base.specs.contracts.declared.ExecutionLevel as level
use Rattle.wdf_base.specs.Same.{same_object_id, same_irql, same_status}

-- equal scopes
abbrev pub same_scope : Scope → Scope → Bool
same_scope a b = sameb scope.the_type a b

-- equal execution levels
abbrev pub same_execution_level : ExecutionLevel → ExecutionLevel → Bool
same_execution_level a b = sameb level.the_type a b

-- equal ways of presenting: a parallel queue with equal numbers at a time
abbrev pub same_dispatch : DispatchKind → DispatchKind → Bool
same_dispatch dispatch.Sequential dispatch.Sequential = true
same_dispatch (dispatch.Parallel a) (dispatch.Parallel b) = a == b
same_dispatch dispatch.Manual dispatch.Manual = true
same_dispatch _ _ = false

-- equal sorts of requests that a queue serves
abbrev pub same_serves : Serves → Serves → Bool
same_serves a b =
    beq a.rest b.rest && beq a.read b.read && beq a.write b.write && beq a.control b.control

-- equal declared devices
abbrev pub same_device : DeviceInfo → DeviceInfo → Bool
same_device a b =
    (a.name == b.name) && beq a.working b.working && same_scope a.scope b.scope && same_execution_level a.level b.level

-- equal declared queues
abbrev pub same_queue : QueueInfo → QueueInfo → Bool
same_queue a b =
    (a.name == b.name) && same_object_id a.device b.device && same_dispatch a.dispatch b.dispatch && same_serves a.serves b.serves
    && beq a.powered b.powered && beq a.zero b.zero && same_scope a.scope b.scope && same_execution_level a.level b.level

-- equal declared interrupts
abbrev pub same_interrupt : InterruptInfo → InterruptInfo → Bool
same_interrupt a b =
    (a.name == b.name) && same_object_id a.device b.device && same_irql a.level b.level

-- equal declared targets
abbrev pub same_target : TargetInfo → TargetInfo → Bool
same_target a b =
    (a.name == b.name) && same_object_id a.device b.device && (a.delay == b.delay) && same_status a.status b.status && (a.depth == b.depth)

-- equal declared objects: of one kind, and equal in each field
abbrev pub same_declared : Declared → Declared → Bool
same_declared declared.Driver declared.Driver = true
same_declared (declared.Device a) (declared.Device b) = same_device a b
same_declared (declared.Queue a) (declared.Queue b) = same_queue a b
same_declared (declared.Interrupt a) (declared.Interrupt b) = same_interrupt a b
same_declared (declared.Target a) (declared.Target b) = same_target a b
same_declared (declared.OfClass a) (declared.OfClass b) = a == b
same_declared _ _ = false
