-- The words of the tables are no longer than names.
use Rattle.std.proofs.Common.{◌≤◌, length, lit≤}
use Rattle.wdf_base.specs.declared.call.CallKind.{CallKind}
use Rattle.wdf_base.specs.declared.call.CallKind.TheVariants as call
use Rattle.wdf_base.specs.declared.value.Status.{Status}
use Rattle.wdf_base.specs.declared.value.Status.TheVariants as status
use Rattle.wdf_base.specs.declared.event.Ask.{Ask}
use Rattle.wdf_base.specs.declared.event.Ask.TheVariants as ask
use Rattle.wdf_base.specs.declared.script.ContextWord.{ContextWord}
use Rattle.wdf_base.specs.declared.script.ContextWord.TheVariants as context
use Rattle.wdf_base.specs.declared.event.Access.{Access}
use Rattle.wdf_base.specs.declared.event.Access.TheVariants as access
use Rattle.wdf_base.specs.declared.declared.PlainKind.{PlainKind}
use Rattle.wdf_base.specs.declared.declared.PlainKind.TheVariants as plain_kind
use Rattle.wdf_base.specs.declared.declared.DeferredKind.{DeferredKind}
use Rattle.wdf_base.specs.declared.declared.DeferredKind.TheVariants as deferred_kind
use Rattle.wdf_base.specs.declared.declared.Scope.{Scope}
use Rattle.wdf_base.specs.declared.declared.Scope.TheVariants as scope
use Rattle.wdf_base.specs.declared.declared.ExecutionLevel.{ExecutionLevel}
use Rattle.wdf_base.specs.declared.declared.ExecutionLevel.TheVariants as level
use Rattle.wdf_base.specs.declared.object.RequestForm.{RequestForm}
use Rattle.wdf_base.specs.declared.object.RequestForm.TheVariants as form
use Rattle.wdf_base.specs.Words.{call_word, status_word, ask_word}
use Rattle.wdf_scene.specs.Words.{context_word, access_word, plain_kind_word, deferred_kind_word, scope_word, level_word, form_word}

pub call_short : (x : CallKind) → length (call_word x) ≤ 32
call_short call.WdfObjectCreate = lit≤ tt
call_short _ = lit≤ tt

pub status_short : (x : Status) → length (status_word x) ≤ 32
status_short status.Success = lit≤ tt
status_short _ = lit≤ tt

pub ask_short : (x : Ask) → length (ask_word x) ≤ 32
ask_short ask.Start = lit≤ tt
ask_short _ = lit≤ tt

pub context_short : (x : ContextWord) → length (context_word x) ≤ 32
context_short context.OwnObject = lit≤ tt
context_short _ = lit≤ tt

pub access_short : (x : Access) → length (access_word x) ≤ 32
access_short access.Read = lit≤ tt
access_short access.Write = lit≤ tt

pub plain_kind_short : (x : PlainKind) → length (plain_kind_word x) ≤ 32
plain_kind_short plain_kind.Object = lit≤ tt
plain_kind_short _ = lit≤ tt

pub deferred_kind_short : (x : DeferredKind) → length (deferred_kind_word x) ≤ 32
deferred_kind_short deferred_kind.Dpc = lit≤ tt
deferred_kind_short _ = lit≤ tt

pub scope_short : (x : Scope) → length (scope_word x) ≤ 32
scope_short scope.PerDevice = lit≤ tt
scope_short _ = lit≤ tt

pub level_short : (x : ExecutionLevel) → length (level_word x) ≤ 32
level_short level.Passive = lit≤ tt
level_short level.Dispatch = lit≤ tt

pub form_short : (x : RequestForm) → length (form_word x) ≤ 32
form_short form.Read = lit≤ tt
form_short _ = lit≤ tt
