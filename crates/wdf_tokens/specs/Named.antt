-- What a word names. Proofs see only here how it is looked up.
use Rattle.std.specs.Prelude.{List, ℕ, Option}
use Rattle.wdf_base.specs.declared.call.Callback.{Callback}
use Rattle.wdf_base.specs.declared.call.CallKind.{CallKind}
use Rattle.wdf_base.specs.declared.value.Status.{Status}
use Rattle.wdf_base.specs.declared.event.Ask.{Ask}
use Rattle.wdf_base.specs.declared.script.ContextWord.{ContextWord}
use Rattle.wdf_base.specs.declared.event.Access.{Access}
use Rattle.wdf_base.specs.declared.declared.PlainKind.{PlainKind}
use Rattle.wdf_base.specs.declared.declared.DeferredKind.{DeferredKind}
use Rattle.wdf_base.specs.declared.declared.Scope.{Scope}
use Rattle.wdf_base.specs.declared.declared.ExecutionLevel.{ExecutionLevel}
use Rattle.wdf_base.specs.declared.object.RequestForm.{RequestForm}
use Rattle.wdf_base.specs.Words.{callback_of, call_of, status_of, ask_of}
use Rattle.wdf_scene.specs.Words.{context_of, access_of, plain_kind_of, deferred_kind_of, scope_of, level_of, form_of}

-- the callback with this word
unfoldable pub callback_named : List ℕ → Option Callback
callback_named word = callback_of word

-- the framework call with this word
unfoldable pub call_named : List ℕ → Option CallKind
call_named word = call_of word

-- the status with this word
unfoldable pub status_named : List ℕ → Option Status
status_named word = status_of word

-- the request to the Plug and Play manager with this word
unfoldable pub ask_named : List ℕ → Option Ask
ask_named word = ask_of word

-- the part of the running callback with this word
unfoldable pub context_named : List ℕ → Option ContextWord
context_named word = context_of word

-- the access to a register with this word
unfoldable pub access_named : List ℕ → Option Access
access_named word = access_of word

-- the kind of class without a parent with this word
unfoldable pub plain_kind_named : List ℕ → Option PlainKind
plain_kind_named word = plain_kind_of word

-- the kind of class with a parent with this word
unfoldable pub deferred_kind_named : List ℕ → Option DeferredKind
deferred_kind_named word = deferred_kind_of word

-- the scope with this word
unfoldable pub scope_named : List ℕ → Option Scope
scope_named word = scope_of word

-- the execution level with this word
unfoldable pub level_named : List ℕ → Option ExecutionLevel
level_named word = level_of word

-- the form of requests with this word
unfoldable pub form_named : List ℕ → Option RequestForm
form_named word = form_of word
