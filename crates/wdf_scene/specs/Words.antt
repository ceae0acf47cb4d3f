-- The words of the text for enums.
use Rattle.std.specs.Prelude.{List, ℕ, Option, find, codes}
use Rattle.std.specs.Str.{bytes_eq}
use Rattle.wdf_base.specs.declared.declared.PlainKind.{PlainKind}
use Rattle.wdf_base.specs.declared.declared.PlainKind.TheVariants as plain_kind
use Rattle.wdf_base.specs.declared.declared.DeferredKind.{DeferredKind}
use Rattle.wdf_base.specs.declared.declared.DeferredKind.TheVariants as deferred_kind
use Rattle.wdf_base.specs.declared.declared.Scope.{Scope}
use Rattle.wdf_base.specs.declared.declared.Scope.TheVariants as scope
use Rattle.wdf_base.specs.declared.declared.ExecutionLevel.{ExecutionLevel}
use Rattle.wdf_base.specs.declared.declared.ExecutionLevel.TheVariants as level
use Rattle.wdf_base.specs.declared.object.RequestForm.{RequestForm}
use Rattle.wdf_base.specs.declared.object.RequestForm.TheVariants as form
use Rattle.wdf_base.specs.declared.event.Access.{Access}
use Rattle.wdf_base.specs.declared.event.Access.TheVariants as access
use Rattle.wdf_base.specs.declared.script.Operator.{Operator}
use Rattle.wdf_base.specs.declared.script.Operator.TheVariants as operator
use Rattle.wdf_base.specs.declared.script.ContextWord.{ContextWord}
use Rattle.wdf_base.specs.declared.script.ContextWord.TheVariants as context
use Rattle.wdf_scene.specs.declared.words.TheConstants.{PLAIN_KINDS, DEFERRED_KINDS, SCOPES, EXECUTION_LEVELS, REQUEST_FORMS, ACCESSES, OPERATORS, CONTEXT_WORDS}

-- the word of a kind of class without a parent
abbrev pub plain_kind_word : PlainKind → List ℕ
plain_kind_word plain_kind.Object = codes "object"
plain_kind_word plain_kind.SpinLock = codes "spinlock"
plain_kind_word plain_kind.WaitLock = codes "waitlock"
plain_kind_word plain_kind.Request = codes "request"

-- the kind of class without a parent that has this word
abbrev pub plain_kind_of : List ℕ → Option PlainKind
plain_kind_of word = find (λ x. bytes_eq (plain_kind_word x) word) PLAIN_KINDS

-- the word of a kind of class with a parent
abbrev pub deferred_kind_word : DeferredKind → List ℕ
deferred_kind_word deferred_kind.Dpc = codes "dpc"
deferred_kind_word deferred_kind.Timer = codes "timer"
deferred_kind_word deferred_kind.WorkItem = codes "workitem"

-- the kind of class with a parent that has this word
abbrev pub deferred_kind_of : List ℕ → Option DeferredKind
deferred_kind_of word = find (λ x. bytes_eq (deferred_kind_word x) word) DEFERRED_KINDS

-- the word of a scope
abbrev pub scope_word : Scope → List ℕ
scope_word scope.PerDevice = codes "device"
scope_word scope.PerQueue = codes "queue"
scope_word scope.Unscoped = codes "none"

-- the scope that has this word
abbrev pub scope_of : List ℕ → Option Scope
scope_of word = find (λ x. bytes_eq (scope_word x) word) SCOPES

-- the word of an execution level
abbrev pub level_word : ExecutionLevel → List ℕ
level_word level.Passive = codes "passive"
level_word level.Dispatch = codes "dispatch"

-- the execution level that has this word
abbrev pub level_of : List ℕ → Option ExecutionLevel
level_of word = find (λ x. bytes_eq (level_word x) word) EXECUTION_LEVELS

-- the word of a form of requests
abbrev pub form_word : RequestForm → List ℕ
form_word form.Read = codes "read"
form_word form.Write = codes "write"
form_word form.Control = codes "control"

-- the form of requests that has this word
abbrev pub form_of : List ℕ → Option RequestForm
form_of word = find (λ x. bytes_eq (form_word x) word) REQUEST_FORMS

-- the word of an access
abbrev pub access_word : Access → List ℕ
access_word access.Read = codes "read"
access_word access.Write = codes "write"

-- the access that has this word
abbrev pub access_of : List ℕ → Option Access
access_of word = find (λ x. bytes_eq (access_word x) word) ACCESSES

-- the word of an operator
abbrev pub operator_word : Operator → List ℕ
operator_word operator.Add = codes "+"
operator_word operator.Subtract = codes "-"
operator_word operator.Multiply = codes "*"
operator_word operator.Divide = codes "/"
operator_word operator.Remainder = codes "%"
operator_word operator.BitAnd = codes "&"
operator_word operator.BitOr = codes "|"
operator_word operator.BitXor = codes "^"
operator_word operator.Equals = codes "=="
operator_word operator.Differs = codes "!="
operator_word operator.Below = codes "<"
operator_word operator.AtMost = codes "<="

-- the operator that has this word
abbrev pub operator_of : List ℕ → Option Operator
operator_of word = find (λ x. bytes_eq (operator_word x) word) OPERATORS

-- the word of a part of the running callback
abbrev pub context_word : ContextWord → List ℕ
context_word context.OwnObject = codes "self"
context_word context.NearestDevice = codes "device"
context_word context.OwnRequest = codes "request"
context_word context.RequestLength = codes "length"
context_word context.RequestCode = codes "code"
context_word context.CompletionStatus = codes "status"

-- the part of the running callback that has this word
abbrev pub context_of : List ℕ → Option ContextWord
context_of word = find (λ x. bytes_eq (context_word x) word) CONTEXT_WORDS
