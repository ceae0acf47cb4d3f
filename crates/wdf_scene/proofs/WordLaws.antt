-- Each word is read back, and nothing else is read so.
use Rattle.std.proofs.Common.{◌≡◌, Some, List, ℕ, refl}
use Rattle.std.proofs.lemmas.Slice.Eq.{bytes_eq-Decides}
use Rattle.std.specs.Str.{bytes_eq}
use Rattle.wdf_base.proofs.WordLaws.{find_passes}
use Rattle.wdf_base.specs.declared.declared.PlainKind.{PlainKind}
use Rattle.wdf_base.specs.declared.declared.PlainKind.TheVariants as plain_kind
use Rattle.wdf_base.specs.declared.declared.DeferredKind.{DeferredKind}
use Rattle.wdf_base.specs.declared.declared.DeferredKind.TheVariants as deferred_kind
use Rattle.wdf_base.specs.declared.declared.Scope.{Scope}
use Rattle.wdf_base.specs.declared.declared.Scope.TheVariants as scope
use Rattle.wdf_base.specs.declared.declared.ExecutionLevel.{ExecutionLevel}
use Rattle.wdf_base.specs.declared.declared.ExecutionLevel.TheVariants as level
use Rattle.wdf_base.specs.declared.object.RequestForm.{RequestForm}
use Rattle.wdf_base.specs.declared.object.RequestForm.TheVariants as form
use Rattle.wdf_base.specs.declared.event.Access.{Access}
use Rattle.wdf_base.specs.declared.event.Access.TheVariants as access
use Rattle.wdf_base.specs.declared.script.Operator.{Operator}
use Rattle.wdf_base.specs.declared.script.Operator.TheVariants as operator
use Rattle.wdf_base.specs.declared.script.ContextWord.{ContextWord}
use Rattle.wdf_base.specs.declared.script.ContextWord.TheVariants as context
use Rattle.wdf_scene.specs.declared.words.TheConstants.{PLAIN_KINDS, DEFERRED_KINDS, SCOPES, EXECUTION_LEVELS, REQUEST_FORMS, ACCESSES, OPERATORS, CONTEXT_WORDS}
use Rattle.wdf_scene.specs.Words.{plain_kind_word, plain_kind_of, deferred_kind_word, deferred_kind_of, scope_word, scope_of, level_word, level_of, form_word, form_of, access_word, access_of, operator_word, operator_of, context_word, context_of}

pub plain_kind-back : (x : PlainKind) → plain_kind_of (plain_kind_word x) ≡ Some x
plain_kind-back plain_kind.Object = refl
plain_kind-back _ = refl

pub plain_kind-only : (x : PlainKind) (word : List ℕ) → plain_kind_of word ≡ Some x → plain_kind_word x ≡ word
plain_kind-only x word e = (bytes_eq-Decides (plain_kind_word x) word).0 (find_passes (λ y. bytes_eq (plain_kind_word y) word) PLAIN_KINDS x e)

pub deferred_kind-back : (x : DeferredKind) → deferred_kind_of (deferred_kind_word x) ≡ Some x
deferred_kind-back deferred_kind.Dpc = refl
deferred_kind-back _ = refl

pub deferred_kind-only : (x : DeferredKind) (word : List ℕ) → deferred_kind_of word ≡ Some x → deferred_kind_word x ≡ word
deferred_kind-only x word e = (bytes_eq-Decides (deferred_kind_word x) word).0 (find_passes (λ y. bytes_eq (deferred_kind_word y) word) DEFERRED_KINDS x e)

pub scope-back : (x : Scope) → scope_of (scope_word x) ≡ Some x
scope-back scope.PerDevice = refl
scope-back _ = refl

pub scope-only : (x : Scope) (word : List ℕ) → scope_of word ≡ Some x → scope_word x ≡ word
scope-only x word e = (bytes_eq-Decides (scope_word x) word).0 (find_passes (λ y. bytes_eq (scope_word y) word) SCOPES x e)

pub level-back : (x : ExecutionLevel) → level_of (level_word x) ≡ Some x
level-back level.Passive = refl
level-back level.Dispatch = refl

pub level-only : (x : ExecutionLevel) (word : List ℕ) → level_of word ≡ Some x → level_word x ≡ word
level-only x word e = (bytes_eq-Decides (level_word x) word).0 (find_passes (λ y. bytes_eq (level_word y) word) EXECUTION_LEVELS x e)

pub form-back : (x : RequestForm) → form_of (form_word x) ≡ Some x
form-back form.Read = refl
form-back _ = refl

pub form-only : (x : RequestForm) (word : List ℕ) → form_of word ≡ Some x → form_word x ≡ word
form-only x word e = (bytes_eq-Decides (form_word x) word).0 (find_passes (λ y. bytes_eq (form_word y) word) REQUEST_FORMS x e)

pub access-back : (x : Access) → access_of (access_word x) ≡ Some x
access-back access.Read = refl
access-back access.Write = refl

pub access-only : (x : Access) (word : List ℕ) → access_of word ≡ Some x → access_word x ≡ word
access-only x word e = (bytes_eq-Decides (access_word x) word).0 (find_passes (λ y. bytes_eq (access_word y) word) ACCESSES x e)

pub operator-back : (x : Operator) → operator_of (operator_word x) ≡ Some x
operator-back operator.Add = refl
operator-back _ = refl

pub operator-only : (x : Operator) (word : List ℕ) → operator_of word ≡ Some x → operator_word x ≡ word
operator-only x word e = (bytes_eq-Decides (operator_word x) word).0 (find_passes (λ y. bytes_eq (operator_word y) word) OPERATORS x e)

pub context-back : (x : ContextWord) → context_of (context_word x) ≡ Some x
context-back context.OwnObject = refl
context-back _ = refl

pub context-only : (x : ContextWord) (word : List ℕ) → context_of word ≡ Some x → context_word x ≡ word
context-only x word e = (bytes_eq-Decides (context_word x) word).0 (find_passes (λ y. bytes_eq (context_word y) word) CONTEXT_WORDS x e)
