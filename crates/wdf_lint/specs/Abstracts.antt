-- The abstract states of a callback: what a walk of its statements knows. (own)
use Rattle.std.specs.Prelude.{if◌then◌else◌, ℕ, ◌+◌, Bool, false, ◌==◌, [], replicate, Option, Some, None, option_map, unwrap_or, position, slice_get, slice_set}
use Rattle.std.specs.List.{list_any}
use Rattle.wdf_base.specs.declared.plan.Plan.{Plan}
use Rattle.wdf_base.specs.declared.call.Callback.{Callback}
use Rattle.wdf_base.specs.declared.call.Callback.TheVariants as callback
use Rattle.wdf_base.specs.declared.call.CallKind.TheVariants as call
use Rattle.wdf_base.specs.declared.declared.Declared.{Declared}
use Rattle.wdf_base.specs.declared.declared.Declared.TheVariants as declared
use Rattle.wdf_base.specs.declared.script.Script.{Script}
use Rattle.wdf_base.specs.declared.script.Act.{Act}
use Rattle.wdf_base.specs.declared.script.Act.TheVariants as act
use Rattle.wdf_base.specs.declared.script.Statement.{Statement}
use Rattle.wdf_base.specs.Same.{same_call_kind}
use Rattle.wdf_base.specs.SamePlan.{same_declared}
use Rattle.wdf_lint.specs.declared.state.Abstract.{Abstract}
use Rattle.wdf_lint.specs.declared.state.Known.{Known}
use Rattle.wdf_lint.specs.declared.state.Known.TheVariants as known
use Rattle.wdf_lint.specs.declared.state.Hold.{Hold}
use Rattle.wdf_lint.specs.declared.state.Hold.TheVariants as hold
use Rattle.wdf_lint.specs.declared.state.HeldLock.{HeldLock}
use Rattle.wdf_lint.specs.declared.state.HeldLock.TheVariants as lock

-- ---- the callback that is walked

-- the callback of script k, and what it is declared on
abbrev pub callback_of : Plan → ℕ → Callback
callback_of plan k = unwrap_or (option_map (λ (s : Script). s.callback) (slice_get plan.scripts k)) callback.EvtDestroyCallback

-- what that callback is declared on
abbrev pub owner_of : Plan → ℕ → Declared
owner_of plan k = unwrap_or (option_map (λ (s : Script). s.owner) (slice_get plan.scripts k)) declared.Driver

-- the id of a declared object
abbrev pub id_of : Plan → Declared → ℕ
id_of plan d = unwrap_or (option_map (λ n. n + 1) (position (same_declared d) plan.declared)) 0

-- a call of WdfRequestSend
abbrev pub is_send : Act → Bool
is_send (act.Call k into a b c) = same_call_kind k call.WdfRequestSend
is_send _ = false

-- some callback of the plan sends
abbrev pub plan_sends : Plan → Bool
plan_sends plan = list_any (λ (s : Script). list_any (λ (x : Statement). is_send x.act) s.statements) plan.scripts

-- ---- the beginning

-- KMDF: the callbacks that are started with a request have it from the beginning; EvtIoStop may acknowledge it
abbrev pub hold_at_start : Callback → Hold
hold_at_start callback.EvtIoRead = hold.Own
hold_at_start callback.EvtIoWrite = hold.Own
hold_at_start callback.EvtIoDeviceControl = hold.Own
hold_at_start callback.EvtIoDefault = hold.Own
hold_at_start callback.EvtRequestCancel = hold.Own
hold_at_start callback.EvtIoCanceledOnQueue = hold.Own
hold_at_start callback.EvtRequestCompletion = hold.Own
hold_at_start callback.EvtIoStop = hold.Stop
hold_at_start _ = hold.Away

-- a variable starts as 0
abbrev pub start : Plan → ℕ → Abstract
start plan k = record {
  at = 0;
  variables = replicate 16 known.Zero;
  hold = hold_at_start (callback_of plan k);
  acknowledged = false;
  lock = lock.Free;
  interrupts = [];
}

-- ---- changes

-- at another statement
abbrev pub go : Abstract → ℕ → Abstract
go a at = record a { at = at }

-- the lock of a variable that is assigned is held by no variable
abbrev pub lock_after : HeldLock → ℕ → HeldLock
lock_after (lock.In v) x = if v == x then lock.Lost else lock.In v
lock_after l x = l

-- a variable is assigned; the lock that it named is in no variable then
abbrev pub assign : Abstract → ℕ → Known → Abstract
assign a x v = record a { variables = slice_set a.variables x v; lock = lock_after a.lock x }

-- the answer of a call goes to its variable, if it has one
abbrev pub answer : Abstract → Option ℕ → Known → Abstract
answer a None v = a
answer a (Some x) v = assign a x v
