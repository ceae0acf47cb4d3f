-- Each object is the same as itself by the test of two objects.
use Rattle.std.proofs.Common.{◌≡◌, ℕ, Bool, true, false, refl}
use Rattle.std.proofs.lemmas.Bool.{eq-eqb}
use Rattle.std.specs.Prelude.{◌==◌}
use Rattle.std.specs.Bool.{beq}
use denote.Enum.Bare.{true_same}
use Rattle.wdf_base.specs.declared.declared.Declared.{Declared}
use Rattle.wdf_base.specs.declared.declared.Declared.TheVariants as declared
use Rattle.wdf_base.specs.declared.declared.DispatchKind.{DispatchKind}
use Rattle.wdf_base.specs.declared.declared.DispatchKind.TheVariants as dispatch
use Rattle.wdf_base.specs.declared.declared.ExecutionLevel.{ExecutionLevel}
use Rattle.wdf_base.specs.declared.declared.Scope.{Scope}
use Rattle.wdf_base.specs.declared.value.Status.{Status}
use Rattle.wdf_base.specs.contracts.declared.ExecutionLevel as level
use Rattle.wdf_base.specs.contracts.declared.Scope as scope
use Rattle.wdf_base.specs.contracts.value.Status as status
use Rattle.wdf_base.specs.Same.{same_status}
use Rattle.wdf_base.specs.SamePlan.{same_dispatch, same_scope, same_execution_level, same_declared}

number_is : (n : ℕ) → (n == n) ≡ true
number_is n = eq-eqb n n refl

bool_is : (b : Bool) → beq b b ≡ true
bool_is true = refl
bool_is false = refl

dispatch_is : (d : DispatchKind) → same_dispatch d d ≡ true
dispatch_is dispatch.Sequential = refl
dispatch_is (dispatch.Parallel n) = number_is n
dispatch_is dispatch.Manual = refl

scope_is : (s : Scope) → same_scope s s ≡ true
scope_is s = true_same scope.the_type s s refl

level_is : (l : ExecutionLevel) → same_execution_level l l ≡ true
level_is l = true_same level.the_type l l refl

status_is : (s : Status) → same_status s s ≡ true
status_is s = true_same status.the_type s s refl

-- an object or a class is the same as itself
pub object_is : (d : Declared) → same_declared d d ≡ true
object_is declared.Driver = refl
object_is (declared.Device d) =
    rw (number_is d.name, bool_is d.working, scope_is d.scope, level_is d.level) refl
object_is (declared.Queue q) =
    rw (number_is q.name, number_is q.device.0, dispatch_is q.dispatch, bool_is q.serves.rest, bool_is q.serves.read, bool_is q.serves.write, bool_is q.serves.control, bool_is q.powered, bool_is q.zero, scope_is q.scope, level_is q.level) refl
object_is (declared.Interrupt i) =
    rw (number_is i.name, number_is i.device.0, number_is i.level.0) refl
object_is (declared.Target t) =
    rw (number_is t.name, number_is t.device.0, number_is t.delay, status_is t.status, number_is t.depth) refl
object_is (declared.OfClass c) = number_is c
