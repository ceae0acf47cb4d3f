-- A form that is read is spelled by its tokens.
use Rattle.std.proofs.Common.{◌≡◌, ℕ, true, false, nat_le, nat_lt, List, [], ◌∷◌, length, Option, Some, None, option_map, refl, ap, ◌∙◌, sym, subst}
use Rattle.std.specs.Prelude.{if◌then◌else◌}
use Rattle.std.proofs.lemmas.Bool.{ltb-true, lt-leb}
use Rattle.std.specs.List.{list_all}
use Rattle.wdf_base.specs.declared.call.Callback.{Callback}
use Rattle.wdf_base.specs.declared.value.Status.{Status}
use Rattle.wdf_base.specs.declared.declared.DeferredKind.{DeferredKind}
use Rattle.wdf_base.specs.declared.declared.DispatchKind.TheVariants as dispatch
use Rattle.wdf_base.specs.declared.declared.ExecutionLevel.{ExecutionLevel}
use Rattle.wdf_base.specs.declared.declared.PlainKind.{PlainKind}
use Rattle.wdf_base.specs.declared.declared.Scope.{Scope}
use Rattle.wdf_base.specs.declared.event.Access.{Access}
use Rattle.wdf_base.specs.declared.event.Ask.{Ask}
use Rattle.wdf_base.specs.declared.object.RequestForm.{RequestForm}
use Rattle.wdf_base.specs.Words.{callback_word}
use Rattle.wdf_base.proofs.WordLaws.{status-only, callback-only, ask-only}
use Rattle.wdf_base.proofs.Tests.{both_left, both_right}
use Rattle.wdf_scene.proofs.WordLaws.{access-only, plain_kind-only, deferred_kind-only, scope-only, level-only, form-only}
use Rattle.wdf_scene.specs.declared.line.InterruptLevel.TheVariants as level
use Rattle.wdf_scene.specs.declared.line.SceneAction.{SceneAction}
use Rattle.wdf_scene.specs.declared.line.SceneAction.TheVariants as action
use Rattle.wdf_scene.specs.declared.line.SceneLine.{SceneLine}
use Rattle.wdf_scene.specs.declared.line.SceneLine.TheVariants as line
use Rattle.wdf_scene.specs.Words.{access_word, plain_kind_word, deferred_kind_word, scope_word, level_word, form_word}
use Rattle.wdf_base.specs.Words.{status_word, ask_word}
use Rattle.wdf_scene.specs.Written.{is_plain_form}
use Rattle.wdf_tokens.specs.declared.keyword.Keyword.{Keyword}
use Rattle.wdf_tokens.specs.declared.keyword.Keyword.TheVariants as keyword
use Rattle.wdf_tokens.specs.declared.token.Token.{Token}
use Rattle.wdf_tokens.specs.declared.token.Token.TheVariants as token
use Rattle.wdf_tokens.specs.Keywords.{keyword_of}
use Rattle.wdf_tokens.specs.Named.{callback_named, status_named, ask_named, access_named, plain_kind_named, deferred_kind_named, scope_named, level_named, form_named}
use Rattle.wdf_tokens.specs.WordTokens.{word, callback_token}
use Rattle.wdf_tokens.specs.WellFormed.{is_word, is_token}
use Rattle.wdf_tokens.proofs.KeywordLaws.{keyword_only}
use Rattle.wdf_scene_lines.specs.Forms.{bare, one_number, one_name, class_of, child_class_of, class_line, working_device, device_line, passive_interrupt, interrupt_line, plain_queue, parallel_queue, queue_line, target_line, callback_line, scope_by, scope_line, level_by, level_line, register_line, set_action, wire_action, when_of, when_line, valued_at, named_at, control_at, cancel_at, at_line, for_line, power_by, power_line, get_line, plain_line}
use Rattle.wdf_scene_lines.specs.Spelling.{plain_tokens, action_then}

-- the words of the tables are read as what they name, and as nothing else
status_only : (x : Status) (w : List ℕ) → status_named w ≡ Some x → status_word x ≡ w
unfolding status_named
status_only x w e = status-only x w e

callback_only : (x : Callback) (w : List ℕ) → callback_named w ≡ Some x → callback_word x ≡ w
unfolding callback_named
callback_only x w e = callback-only x w e

ask_only : (x : Ask) (w : List ℕ) → ask_named w ≡ Some x → ask_word x ≡ w
unfolding ask_named
ask_only x w e = ask-only x w e

access_only : (x : Access) (w : List ℕ) → access_named w ≡ Some x → access_word x ≡ w
unfolding access_named
access_only x w e = access-only x w e

plain_kind_only : (x : PlainKind) (w : List ℕ) → plain_kind_named w ≡ Some x → plain_kind_word x ≡ w
unfolding plain_kind_named
plain_kind_only x w e = plain_kind-only x w e

deferred_kind_only : (x : DeferredKind) (w : List ℕ) → deferred_kind_named w ≡ Some x → deferred_kind_word x ≡ w
unfolding deferred_kind_named
deferred_kind_only x w e = deferred_kind-only x w e

scope_only : (x : Scope) (w : List ℕ) → scope_named w ≡ Some x → scope_word x ≡ w
unfolding scope_named
scope_only x w e = scope-only x w e

level_only : (x : ExecutionLevel) (w : List ℕ) → level_named w ≡ Some x → level_word x ≡ w
unfolding level_named
level_only x w e = level-only x w e

form_only : (x : RequestForm) (w : List ℕ) → form_named w ≡ Some x → form_word x ≡ w
unfolding form_named
form_only x w e = form-only x w e

-- a form is spelled by its first word and the tokens after it
pub record Spells (k : Keyword) (ts : List Token) (f : SceneLine) : Type 0 where
  pub tokens : plain_tokens f ≡ word k ∷ ts
  pub plain : is_plain_form f ≡ true

moved_to : (k : Keyword) (ts : List Token) (g f : SceneLine) → Some g ≡ Some f → Spells k ts g → Spells k ts f
moved_to k ts g f e s = let same : g ≡ f = cc in subst (Spells k ts) same s

bare_spelled : (k : Keyword) (g f : SceneLine) (ts : List Token) → Spells k [] g → bare g ts ≡ Some f → Spells k ts f
bare_spelled k g f [] s e = moved_to k [] g f e s
bare_spelled k g f (t ∷ ts) s e = absurd (let z : ⊥ = cc in z)

-- a form with one part is read where the part is
part_spelled : {X : Type 0} (k : Keyword) (make : X → SceneLine) (part : Option X) (ts : List Token) (f : SceneLine) → ((x : X) → part ≡ Some x → Spells k ts (make x)) → option_map make part ≡ Some f → Spells k ts f
part_spelled k make None ts f s e = absurd (let z : ⊥ = cc in z)
part_spelled k make (Some x) ts f s e = moved_to k ts (make x) f e (s x refl)

number_only : (ts : List Token) (n : ℕ) → one_number ts ≡ Some n → token.Number n ∷ [] ≡ ts
number_only (token.Number m ∷ []) n e = let same : m ≡ n = cc in ap (λ x. token.Number x ∷ []) (sym same)
number_only _ n e = absurd (let z : ⊥ = cc in z)

name_only : (ts : List Token) (n : List ℕ) → one_name ts ≡ Some n → token.Word n ∷ [] ≡ ts
name_only (token.Word m ∷ []) n e = let same : m ≡ n = cc in ap (λ x. token.Word x ∷ []) (sym same)
name_only _ n e = absurd (let z : ⊥ = cc in z)

class_of_spelled : (n k : List ℕ) (p : Option PlainKind) (d : Option DeferredKind) (f : SceneLine) → plain_kind_named k ≡ p → deferred_kind_named k ≡ d → class_of n p d ≡ Some f → Spells keyword.Class (token.Word n ∷ token.Word k ∷ []) f
class_of_spelled n k (Some x) d f is_p is_d e = moved_to keyword.Class _ (line.Class n x) f e (record { tokens = ap (λ w. word keyword.Class ∷ token.Word n ∷ token.Word w ∷ []) (plain_kind_only x k is_p); plain = refl })
class_of_spelled n k None (Some x) f is_p is_d e = moved_to keyword.Class _ (line.DeferredClass n x None) f e (record { tokens = ap (λ w. word keyword.Class ∷ token.Word n ∷ token.Word w ∷ []) (deferred_kind_only x k is_d); plain = refl })
class_of_spelled n k None None f is_p is_d e = absurd (let z : ⊥ = cc in z)

child_class_spelled : (n k p : List ℕ) (d : Option DeferredKind) (f : SceneLine) → deferred_kind_named k ≡ d → child_class_of n d p ≡ Some f → Spells keyword.Class (token.Word n ∷ token.Word k ∷ token.Word p ∷ []) f
child_class_spelled n k p (Some x) f is_d e = moved_to keyword.Class _ (line.DeferredClass n x (Some p)) f e (record { tokens = ap (λ w. word keyword.Class ∷ token.Word n ∷ token.Word w ∷ token.Word p ∷ []) (deferred_kind_only x k is_d); plain = refl })
child_class_spelled n k p None f is_d e = absurd (let z : ⊥ = cc in z)

class_spelled : (ts : List Token) (f : SceneLine) → class_line ts ≡ Some f → Spells keyword.Class ts f
class_spelled (token.Word n ∷ token.Word k ∷ []) f e = class_of_spelled n k (plain_kind_named k) (deferred_kind_named k) f refl refl e
class_spelled (token.Word n ∷ token.Word k ∷ token.Word p ∷ []) f e = child_class_spelled n k p (deferred_kind_named k) f refl e
class_spelled _ f e = absurd (let z : ⊥ = cc in z)

working_spelled : (n w : List ℕ) (k : Option Keyword) (f : SceneLine) → keyword_of w ≡ k → working_device n k ≡ Some f → Spells keyword.Device (token.Word n ∷ token.Word w ∷ []) f
working_spelled n w (Some keyword.Working) f is e = moved_to keyword.Device _ (line.Device n true) f e (record { tokens = ap (λ x. word keyword.Device ∷ token.Word n ∷ token.Word x ∷ []) (keyword_only keyword.Working w is); plain = refl })
working_spelled n w _ f is e = absurd (let z : ⊥ = cc in z)

device_spelled : (ts : List Token) (f : SceneLine) → device_line ts ≡ Some f → Spells keyword.Device ts f
device_spelled (token.Word n ∷ []) f e = moved_to keyword.Device _ (line.Device n false) f e (record { tokens = refl; plain = refl })
device_spelled (token.Word n ∷ token.Word w ∷ []) f e = working_spelled n w (keyword_of w) f refl e
device_spelled _ f e = absurd (let z : ⊥ = cc in z)

passive_spelled : (n w : List ℕ) (k : Option Keyword) (f : SceneLine) → keyword_of w ≡ k → passive_interrupt n k ≡ Some f → Spells keyword.Interrupt (token.Word n ∷ token.Word w ∷ []) f
passive_spelled n w (Some keyword.Passive) f is e = moved_to keyword.Interrupt _ (line.Interrupt n level.AtPassive) f e (record { tokens = ap (λ x. word keyword.Interrupt ∷ token.Word n ∷ token.Word x ∷ []) (keyword_only keyword.Passive w is); plain = refl })
passive_spelled n w _ f is e = absurd (let z : ⊥ = cc in z)

interrupt_spelled : (ts : List Token) (f : SceneLine) → interrupt_line ts ≡ Some f → Spells keyword.Interrupt ts f
interrupt_spelled (token.Word n ∷ token.Number l ∷ []) f e = moved_to keyword.Interrupt _ (line.Interrupt n (level.Numbered l)) f e (record { tokens = refl; plain = refl })
interrupt_spelled (token.Word n ∷ token.Word w ∷ []) f e = passive_spelled n w (keyword_of w) f refl e
interrupt_spelled _ f e = absurd (let z : ⊥ = cc in z)

plain_queue_spelled : (n w : List ℕ) (k : Option Keyword) (f : SceneLine) → keyword_of w ≡ k → plain_queue n k ≡ Some f → Spells keyword.Queue (token.Word n ∷ token.Word w ∷ []) f
plain_queue_spelled n w (Some keyword.Sequential) f is e = moved_to keyword.Queue _ (line.Queue n dispatch.Sequential) f e (record { tokens = ap (λ x. word keyword.Queue ∷ token.Word n ∷ token.Word x ∷ []) (keyword_only keyword.Sequential w is); plain = refl })
plain_queue_spelled n w (Some keyword.Manual) f is e = moved_to keyword.Queue _ (line.Queue n dispatch.Manual) f e (record { tokens = ap (λ x. word keyword.Queue ∷ token.Word n ∷ token.Word x ∷ []) (keyword_only keyword.Manual w is); plain = refl })
plain_queue_spelled n w _ f is e = absurd (let z : ⊥ = cc in z)

parallel_queue_spelled : (n w : List ℕ) (k : Option Keyword) (m : ℕ) (f : SceneLine) → keyword_of w ≡ k → parallel_queue n k m ≡ Some f → Spells keyword.Queue (token.Word n ∷ token.Word w ∷ token.Number m ∷ []) f
parallel_queue_spelled n w (Some keyword.Parallel) m f is e = moved_to keyword.Queue _ (line.Queue n (dispatch.Parallel m)) f e (record { tokens = ap (λ x. word keyword.Queue ∷ token.Word n ∷ token.Word x ∷ token.Number m ∷ []) (keyword_only keyword.Parallel w is); plain = refl })
parallel_queue_spelled n w _ m f is e = absurd (let z : ⊥ = cc in z)

queue_spelled : (ts : List Token) (f : SceneLine) → queue_line ts ≡ Some f → Spells keyword.Queue ts f
queue_spelled (token.Word n ∷ token.Word w ∷ []) f e = plain_queue_spelled n w (keyword_of w) f refl e
queue_spelled (token.Word n ∷ token.Word w ∷ token.Number m ∷ []) f e = parallel_queue_spelled n w (keyword_of w) m f refl e
queue_spelled _ f e = absurd (let z : ⊥ = cc in z)

target_spelled : (ts : List Token) (f : SceneLine) → target_line ts ≡ Some f → Spells keyword.Target ts f
target_spelled (token.Word n ∷ token.Number delay ∷ token.Word s ∷ token.Number depth ∷ []) f e =
    part_spelled keyword.Target (λ status. line.Target n delay status depth) (status_named s) _ f
    (λ x is. record { tokens = ap (λ w. word keyword.Target ∷ token.Word n ∷ token.Number delay ∷ token.Word w ∷ token.Number depth ∷ []) (status_only x s is); plain = refl }) e
target_spelled _ f e = absurd (let z : ⊥ = cc in z)

scope_by_spelled : (w : List ℕ) (k : Option Keyword) (s : Option Scope) (f : SceneLine) → keyword_of w ≡ k → scope_named w ≡ s → scope_by k s ≡ Some f → Spells keyword.Scope (token.Word w ∷ []) f
scope_by_spelled w (Some keyword.Inherit) s f is_k is_s e = moved_to keyword.Scope _ (line.Scope None) f e (record { tokens = ap (λ x. word keyword.Scope ∷ token.Word x ∷ []) (keyword_only keyword.Inherit w is_k); plain = refl })
scope_by_spelled w _ (Some s) f is_k is_s e = moved_to keyword.Scope _ (line.Scope (Some s)) f e (record { tokens = ap (λ x. word keyword.Scope ∷ token.Word x ∷ []) (scope_only s w is_s); plain = refl })
scope_by_spelled w _ None f is_k is_s e = absurd (let z : ⊥ = cc in z)

scope_spelled : (ts : List Token) (f : SceneLine) → scope_line ts ≡ Some f → Spells keyword.Scope ts f
scope_spelled (token.Word w ∷ []) f e = scope_by_spelled w (keyword_of w) (scope_named w) f refl refl e
scope_spelled _ f e = absurd (let z : ⊥ = cc in z)

level_by_spelled : (w : List ℕ) (k : Option Keyword) (s : Option ExecutionLevel) (f : SceneLine) → keyword_of w ≡ k → level_named w ≡ s → level_by k s ≡ Some f → Spells keyword.Level (token.Word w ∷ []) f
level_by_spelled w (Some keyword.Inherit) s f is_k is_s e = moved_to keyword.Level _ (line.Level None) f e (record { tokens = ap (λ x. word keyword.Level ∷ token.Word x ∷ []) (keyword_only keyword.Inherit w is_k); plain = refl })
level_by_spelled w _ (Some s) f is_k is_s e = moved_to keyword.Level _ (line.Level (Some s)) f e (record { tokens = ap (λ x. word keyword.Level ∷ token.Word x ∷ []) (level_only s w is_s); plain = refl })
level_by_spelled w _ None f is_k is_s e = absurd (let z : ⊥ = cc in z)

level_spelled : (ts : List Token) (f : SceneLine) → level_line ts ≡ Some f → Spells keyword.Level ts f
level_spelled (token.Word w ∷ []) f e = level_by_spelled w (keyword_of w) (level_named w) f refl refl e
level_spelled _ f e = absurd (let z : ⊥ = cc in z)

register_spelled : (ts : List Token) (f : SceneLine) → register_line ts ≡ Some f → Spells keyword.Register ts f
register_spelled (token.Word n ∷ token.Number v ∷ []) f e = moved_to keyword.Register _ (line.Register n v) f e (record { tokens = refl; plain = refl })
register_spelled _ f e = absurd (let z : ⊥ = cc in z)

-- an action in front of other tokens
set_spelled : (verb r : List ℕ) (k : Option Keyword) (v : ℕ) (act : SceneAction) (rest : List Token) → keyword_of verb ≡ k → set_action k r v ≡ Some act → action_then act rest ≡ token.Word verb ∷ token.Word r ∷ token.Number v ∷ rest
set_spelled verb r (Some keyword.Set) v act rest is e =
    let same : action.Set r v ≡ act = cc in
    ap (λ a. action_then a rest) (sym same) ∙ ap (λ x. token.Word x ∷ token.Word r ∷ token.Number v ∷ rest) (keyword_only keyword.Set verb is)
set_spelled verb r _ v act rest is e = absurd (let z : ⊥ = cc in z)

wire_spelled : (verb i : List ℕ) (k : Option Keyword) (act : SceneAction) (rest : List Token) → keyword_of verb ≡ k → wire_action k i ≡ Some act → action_then act rest ≡ token.Word verb ∷ token.Word i ∷ rest
wire_spelled verb i (Some keyword.Raise) act rest is e =
    let same : action.Raise i ≡ act = cc in
    ap (λ a. action_then a rest) (sym same) ∙ ap (λ x. token.Word x ∷ token.Word i ∷ rest) (keyword_only keyword.Raise verb is)
wire_spelled verb i (Some keyword.Lower) act rest is e =
    let same : action.Lower i ≡ act = cc in
    ap (λ a. action_then a rest) (sym same) ∙ ap (λ x. token.Word x ∷ token.Word i ∷ rest) (keyword_only keyword.Lower verb is)
wire_spelled verb i _ act rest is e = absurd (let z : ⊥ = cc in z)

when_of_spelled : (a r w : List ℕ) (n : ℕ) (acc : Option Access) (act : Option SceneAction) (k : Option Keyword) (middle : List Token → List Token) (f : SceneLine)
    → access_named a ≡ acc → ((x : SceneAction) (rest : List Token) → act ≡ Some x → action_then x rest ≡ middle rest) → keyword_of w ≡ k → when_of acc r act k n ≡ Some f
    → Spells keyword.When (token.Word a ∷ token.Word r ∷ middle (token.Word w ∷ token.Number n ∷ [])) f
when_of_spelled a r w n (Some acc) (Some act) (Some keyword.After) middle f is_a is_act is_k e =
    moved_to keyword.When _ (line.When acc r act n) f e (record {
      tokens = ap (λ x. word keyword.When ∷ token.Word x ∷ token.Word r ∷ action_then act (word keyword.After ∷ token.Number n ∷ [])) (access_only acc a is_a)
          ∙ ap (λ x. word keyword.When ∷ token.Word a ∷ token.Word r ∷ action_then act (token.Word x ∷ token.Number n ∷ [])) (keyword_only keyword.After w is_k)
          ∙ ap (λ xs. word keyword.When ∷ token.Word a ∷ token.Word r ∷ xs) (is_act act (token.Word w ∷ token.Number n ∷ []) refl);
      plain = refl;
    })
when_of_spelled a r w n _ _ _ middle f is_a is_act is_k e = absurd (let z : ⊥ = cc in z)

when_spelled : (ts : List Token) (f : SceneLine) → when_line ts ≡ Some f → Spells keyword.When ts f
when_spelled (token.Word a ∷ token.Word r ∷ token.Word verb ∷ token.Word i ∷ token.Word w ∷ token.Number n ∷ []) f e =
    when_of_spelled a r w n (access_named a) (wire_action (keyword_of verb) i) (keyword_of w) (λ rest. token.Word verb ∷ token.Word i ∷ rest) f refl
    (λ x rest is. wire_spelled verb i (keyword_of verb) x rest refl is) refl e
when_spelled (token.Word a ∷ token.Word r ∷ token.Word verb ∷ token.Word t ∷ token.Number v ∷ token.Word w ∷ token.Number n ∷ []) f e =
    when_of_spelled a r w n (access_named a) (set_action (keyword_of verb) t v) (keyword_of w) (λ rest. token.Word verb ∷ token.Word t ∷ token.Number v ∷ rest) f refl
    (λ x rest is. set_spelled verb t (keyword_of verb) v x rest refl is) refl e
when_spelled _ f e = absurd (let z : ⊥ = cc in z)

valued_at_spelled : (tick : ℕ) (verb n : List ℕ) (v : ℕ) (k : Option Keyword) (f : SceneLine) → keyword_of verb ≡ k → valued_at tick k n v ≡ Some f → Spells keyword.At (token.Number tick ∷ token.Word verb ∷ token.Word n ∷ token.Number v ∷ []) f
valued_at_spelled tick verb n v (Some keyword.Set) f is e = moved_to keyword.At _ (line.At tick (action.Set n v)) f e (record { tokens = ap (λ x. word keyword.At ∷ token.Number tick ∷ token.Word x ∷ token.Word n ∷ token.Number v ∷ []) (keyword_only keyword.Set verb is); plain = refl })
valued_at_spelled tick verb n v (Some keyword.Read) f is e = moved_to keyword.At _ (line.AtRead tick n v) f e (record { tokens = ap (λ x. word keyword.At ∷ token.Number tick ∷ token.Word x ∷ token.Word n ∷ token.Number v ∷ []) (keyword_only keyword.Read verb is); plain = refl })
valued_at_spelled tick verb n v (Some keyword.Write) f is e = moved_to keyword.At _ (line.AtWrite tick n v) f e (record { tokens = ap (λ x. word keyword.At ∷ token.Number tick ∷ token.Word x ∷ token.Word n ∷ token.Number v ∷ []) (keyword_only keyword.Write verb is); plain = refl })
valued_at_spelled tick verb n v _ f is e = absurd (let z : ⊥ = cc in z)

named_at_spelled : (tick : ℕ) (verb n : List ℕ) (k : Option Keyword) (a : Option Ask) (f : SceneLine) → keyword_of verb ≡ k → ask_named verb ≡ a → named_at tick k a n ≡ Some f → Spells keyword.At (token.Number tick ∷ token.Word verb ∷ token.Word n ∷ []) f
named_at_spelled tick verb n (Some keyword.Raise) a f is_k is_a e = moved_to keyword.At _ (line.At tick (action.Raise n)) f e (record { tokens = ap (λ x. word keyword.At ∷ token.Number tick ∷ token.Word x ∷ token.Word n ∷ []) (keyword_only keyword.Raise verb is_k); plain = refl })
named_at_spelled tick verb n (Some keyword.Lower) a f is_k is_a e = moved_to keyword.At _ (line.At tick (action.Lower n)) f e (record { tokens = ap (λ x. word keyword.At ∷ token.Number tick ∷ token.Word x ∷ token.Word n ∷ []) (keyword_only keyword.Lower verb is_k); plain = refl })
named_at_spelled tick verb n _ (Some a) f is_k is_a e = moved_to keyword.At _ (line.AtAsk tick a n) f e (record { tokens = ap (λ x. word keyword.At ∷ token.Number tick ∷ token.Word x ∷ token.Word n ∷ []) (ask_only a verb is_a); plain = refl })
named_at_spelled tick verb n _ None f is_k is_a e = absurd (let z : ⊥ = cc in z)

control_spelled : (tick : ℕ) (verb d : List ℕ) (code n : ℕ) (k : Option Keyword) (f : SceneLine) → keyword_of verb ≡ k → control_at tick k d code n ≡ Some f → Spells keyword.At (token.Number tick ∷ token.Word verb ∷ token.Word d ∷ token.Number code ∷ token.Number n ∷ []) f
control_spelled tick verb d code n (Some keyword.Control) f is e = moved_to keyword.At _ (line.AtControl tick d code n) f e (record { tokens = ap (λ x. word keyword.At ∷ token.Number tick ∷ token.Word x ∷ token.Word d ∷ token.Number code ∷ token.Number n ∷ []) (keyword_only keyword.Control verb is); plain = refl })
control_spelled tick verb d code n _ f is e = absurd (let z : ⊥ = cc in z)

cancel_spelled : (tick : ℕ) (verb : List ℕ) (m : ℕ) (k : Option Keyword) (f : SceneLine) → keyword_of verb ≡ k → cancel_at tick k m ≡ Some f → Spells keyword.At (token.Number tick ∷ token.Word verb ∷ token.Number m ∷ []) f
cancel_spelled tick verb m (Some keyword.Cancel) f is e = moved_to keyword.At _ (line.AtCancel tick m) f e (record { tokens = ap (λ x. word keyword.At ∷ token.Number tick ∷ token.Word x ∷ token.Number m ∷ []) (keyword_only keyword.Cancel verb is); plain = refl })
cancel_spelled tick verb m _ f is e = absurd (let z : ⊥ = cc in z)

at_spelled : (ts : List Token) (f : SceneLine) → at_line ts ≡ Some f → Spells keyword.At ts f
at_spelled (token.Number tick ∷ token.Word verb ∷ token.Word n ∷ []) f e = named_at_spelled tick verb n (keyword_of verb) (ask_named verb) f refl refl e
at_spelled (token.Number tick ∷ token.Word verb ∷ token.Word n ∷ token.Number v ∷ []) f e = valued_at_spelled tick verb n v (keyword_of verb) f refl e
at_spelled (token.Number tick ∷ token.Word verb ∷ token.Word d ∷ token.Number code ∷ token.Number n ∷ []) f e = control_spelled tick verb d code n (keyword_of verb) f refl e
at_spelled (token.Number tick ∷ token.Word verb ∷ token.Number m ∷ []) f e = cancel_spelled tick verb m (keyword_of verb) f refl e
at_spelled _ f e = absurd (let z : ⊥ = cc in z)

for_spelled : (ts : List Token) (f : SceneLine) → for_line ts ≡ Some f → Spells keyword.For ts f
for_spelled (token.Word w ∷ []) f e =
    part_spelled keyword.For (λ x. line.For x) (form_named w) _ f
    (λ x is. record { tokens = ap (λ v. word keyword.For ∷ token.Word v ∷ []) (form_only x w is); plain = refl }) e
for_spelled _ f e = absurd (let z : ⊥ = cc in z)

power_by_spelled : (w : List ℕ) (k : Option Keyword) (f : SceneLine) → keyword_of w ≡ k → power_by k ≡ Some f → Spells keyword.Power (token.Word w ∷ []) f
power_by_spelled w (Some keyword.Off) f is e = moved_to keyword.Power _ line.PowerOff f e (record { tokens = ap (λ x. word keyword.Power ∷ token.Word x ∷ []) (keyword_only keyword.Off w is); plain = refl })
power_by_spelled w _ f is e = absurd (let z : ⊥ = cc in z)

power_spelled : (ts : List Token) (f : SceneLine) → power_line ts ≡ Some f → Spells keyword.Power ts f
power_spelled (token.Word w ∷ []) f e = power_by_spelled w (keyword_of w) f refl e
power_spelled _ f e = absurd (let z : ⊥ = cc in z)

get_spelled : (ts : List Token) (f : SceneLine) → get_line ts ≡ Some f → Spells keyword.Get ts f
get_spelled (token.Word x ∷ token.Assign ∷ token.Word r ∷ []) f e = moved_to keyword.Get _ (line.Get x r) f e (record { tokens = refl; plain = refl })
get_spelled _ f e = absurd (let z : ⊥ = cc in z)

-- the name of a callback is a word, or too long for one
callback_token_word : (c : Callback) (n : List ℕ) → callback_word c ≡ n → nat_le (length n) 32 ≡ true → callback_token c ≡ token.Word n
callback_token_word c n is short =
    let small : nat_le (length (callback_word c)) 32 ≡ true = ap (λ w. nat_le (length w) 32) is ∙ short in
    ap (λ b. if b then token.Word (callback_word c) else token.LongName c) small ∙ ap (λ w. token.Word w) is

callback_token_long : (c : Callback) → nat_lt 32 (length (callback_word c)) ≡ true → callback_token c ≡ token.LongName c
callback_token_long c long =
    let large : nat_le (length (callback_word c)) 32 ≡ false = lt-leb (length (callback_word c)) 32 (ltb-true 32 (length (callback_word c)) long) in
    ap (λ b. if b then token.Word (callback_word c) else token.LongName c) large

callback_spelled : (ts : List Token) (c : Callback) → list_all is_token ts ≡ true → callback_line ts ≡ Some c → word keyword.On ∷ callback_token c ∷ [] ≡ word keyword.On ∷ ts
callback_spelled (token.Word n ∷ []) c fit e =
    let short = both_right (is_word n) (nat_le (length n) 32) (both_left (is_token (token.Word n)) true fit) in
    ap (λ t. word keyword.On ∷ t ∷ []) (callback_token_word c n (callback_only c n e) short)
callback_spelled (token.LongName d ∷ []) c fit e =
    let same : d ≡ c = cc in
    let long = both_right (is_word (callback_word d)) (nat_lt 32 (length (callback_word d))) (both_left (is_token (token.LongName d)) true fit) in
    ap (λ x. word keyword.On ∷ callback_token x ∷ []) (sym same) ∙ ap (λ t. word keyword.On ∷ t ∷ []) (callback_token_long d long)
callback_spelled _ c fit e = absurd (let z : ⊥ = cc in z)

number_spelled : (k : Keyword) (make : ℕ → SceneLine) (ts : List Token) (f : SceneLine) → ((n : ℕ) → Spells k (token.Number n ∷ []) (make n)) → option_map make (one_number ts) ≡ Some f → Spells k ts f
number_spelled k make ts f s e = part_spelled k make (one_number ts) ts f (λ n is. subst (λ xs. Spells k xs (make n)) (number_only ts n is) (s n)) e

-- a form that is read is spelled by its tokens
pub plain_line_spelled : (k : Keyword) (ts : List Token) (f : SceneLine) → list_all is_token ts ≡ true → plain_line k ts ≡ Some f → Spells k ts f
plain_line_spelled keyword.Cpus ts f fit e = number_spelled keyword.Cpus (λ n. line.Cpus n) ts f (λ n. record { tokens = refl; plain = refl }) e
plain_line_spelled keyword.Limit ts f fit e = number_spelled keyword.Limit (λ n. line.Limit n) ts f (λ n. record { tokens = refl; plain = refl }) e
plain_line_spelled keyword.Objects ts f fit e = number_spelled keyword.Objects (λ n. line.Objects n) ts f (λ n. record { tokens = refl; plain = refl }) e
plain_line_spelled keyword.Driver ts f fit e = bare_spelled keyword.Driver line.Driver f ts (record { tokens = refl; plain = refl }) e
plain_line_spelled keyword.Class ts f fit e = class_spelled ts f e
plain_line_spelled keyword.Device ts f fit e = device_spelled ts f e
plain_line_spelled keyword.Interrupt ts f fit e = interrupt_spelled ts f e
plain_line_spelled keyword.Queue ts f fit e = queue_spelled ts f e
plain_line_spelled keyword.Target ts f fit e = target_spelled ts f e
plain_line_spelled keyword.App ts f fit e =
    part_spelled keyword.App (λ n. line.App n) (one_name ts) ts f (λ n is. record { tokens = ap (λ xs. word keyword.App ∷ xs) (name_only ts n is); plain = refl }) e
plain_line_spelled keyword.Pnp ts f fit e = bare_spelled keyword.Pnp line.Pnp f ts (record { tokens = refl; plain = refl }) e
plain_line_spelled keyword.Order ts f fit e = bare_spelled keyword.Order line.Order f ts (record { tokens = refl; plain = refl }) e
plain_line_spelled keyword.On ts f fit e =
    part_spelled keyword.On (λ c. line.On c) (callback_line ts) ts f (λ c is. record { tokens = callback_spelled ts c fit is; plain = refl }) e
plain_line_spelled keyword.End ts f fit e = bare_spelled keyword.End line.End f ts (record { tokens = refl; plain = refl }) e
plain_line_spelled keyword.Scope ts f fit e = scope_spelled ts f e
plain_line_spelled keyword.Level ts f fit e = level_spelled ts f e
plain_line_spelled keyword.Serialize ts f fit e = bare_spelled keyword.Serialize line.Serialize f ts (record { tokens = refl; plain = refl }) e
plain_line_spelled keyword.Period ts f fit e = number_spelled keyword.Period (λ n. line.Period n) ts f (λ n. record { tokens = refl; plain = refl }) e
plain_line_spelled keyword.Register ts f fit e = register_spelled ts f e
plain_line_spelled keyword.When ts f fit e = when_spelled ts f e
plain_line_spelled keyword.At ts f fit e = at_spelled ts f e
plain_line_spelled keyword.Default ts f fit e = bare_spelled keyword.Default line.Default f ts (record { tokens = refl; plain = refl }) e
plain_line_spelled keyword.For ts f fit e = for_spelled ts f e
plain_line_spelled keyword.Power ts f fit e = power_spelled ts f e
plain_line_spelled keyword.Zero ts f fit e = bare_spelled keyword.Zero line.Zero f ts (record { tokens = refl; plain = refl }) e
plain_line_spelled keyword.Get ts f fit e = get_spelled ts f e
plain_line_spelled keyword.Else ts f fit e = bare_spelled keyword.Else line.Else f ts (record { tokens = refl; plain = refl }) e
plain_line_spelled _ ts f fit e = absurd (let z : ⊥ = cc in z)
