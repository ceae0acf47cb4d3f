-- The line forms without expressions: what the tokens after the first word are.
use Rattle.std.specs.Prelude.{ℕ, List, [], ◌∷◌, true, false, Option, Some, None, option_map}
use Rattle.wdf_base.specs.declared.call.Callback.{Callback}
use Rattle.wdf_base.specs.declared.declared.DeferredKind.{DeferredKind}
use Rattle.wdf_base.specs.declared.declared.DispatchKind.TheVariants as dispatch
use Rattle.wdf_base.specs.declared.declared.ExecutionLevel.{ExecutionLevel}
use Rattle.wdf_base.specs.declared.declared.PlainKind.{PlainKind}
use Rattle.wdf_base.specs.declared.declared.Scope.{Scope}
use Rattle.wdf_base.specs.declared.event.Access.{Access}
use Rattle.wdf_base.specs.declared.event.Ask.{Ask}
use Rattle.wdf_scene.specs.declared.line.InterruptLevel.TheVariants as level
use Rattle.wdf_scene.specs.declared.line.SceneAction.{SceneAction}
use Rattle.wdf_scene.specs.declared.line.SceneAction.TheVariants as action
use Rattle.wdf_scene.specs.declared.line.SceneLine.{SceneLine}
use Rattle.wdf_scene.specs.declared.line.SceneLine.TheVariants as line
use Rattle.wdf_tokens.specs.declared.keyword.Keyword.{Keyword}
use Rattle.wdf_tokens.specs.declared.keyword.Keyword.TheVariants as keyword
use Rattle.wdf_tokens.specs.declared.token.Token.{Token}
use Rattle.wdf_tokens.specs.declared.token.Token.TheVariants as token
use Rattle.wdf_tokens.specs.Keywords.{keyword_of}
use Rattle.wdf_tokens.specs.Named.{callback_named, status_named, ask_named, access_named, plain_kind_named, deferred_kind_named, scope_named, level_named, form_named}

-- nothing follows
abbrev pub bare : SceneLine → List Token → Option SceneLine
bare form [] = Some form
bare form (t ∷ ts) = None

-- a number and nothing else
abbrev pub one_number : List Token → Option ℕ
one_number (token.Number n ∷ []) = Some n
one_number _ = None

-- a name and nothing else
abbrev pub one_name : List Token → Option (List ℕ)
one_name (token.Word n ∷ []) = Some n
one_name _ = None

-- `class NAME KIND`
abbrev pub class_of : List ℕ → Option PlainKind → Option DeferredKind → Option SceneLine
class_of n (Some k) d = Some (line.Class n k)
class_of n None (Some k) = Some (line.DeferredClass n k None)
class_of n None None = None

-- `class NAME KIND PARENT`
abbrev pub child_class_of : List ℕ → Option DeferredKind → List ℕ → Option SceneLine
child_class_of n (Some k) parent = Some (line.DeferredClass n k (Some parent))
child_class_of n None parent = None

abbrev pub class_line : List Token → Option SceneLine
class_line (token.Word n ∷ token.Word k ∷ []) = class_of n (plain_kind_named k) (deferred_kind_named k)
class_line (token.Word n ∷ token.Word k ∷ token.Word parent ∷ []) = child_class_of n (deferred_kind_named k) parent
class_line _ = None

abbrev pub working_device : List ℕ → Option Keyword → Option SceneLine
working_device n (Some keyword.Working) = Some (line.Device n true)
working_device n _ = None

abbrev pub device_line : List Token → Option SceneLine
device_line (token.Word n ∷ []) = Some (line.Device n false)
device_line (token.Word n ∷ token.Word w ∷ []) = working_device n (keyword_of w)
device_line _ = None

abbrev pub passive_interrupt : List ℕ → Option Keyword → Option SceneLine
passive_interrupt n (Some keyword.Passive) = Some (line.Interrupt n level.AtPassive)
passive_interrupt n _ = None

abbrev pub interrupt_line : List Token → Option SceneLine
interrupt_line (token.Word n ∷ token.Number l ∷ []) = Some (line.Interrupt n (level.Numbered l))
interrupt_line (token.Word n ∷ token.Word w ∷ []) = passive_interrupt n (keyword_of w)
interrupt_line _ = None

abbrev pub plain_queue : List ℕ → Option Keyword → Option SceneLine
plain_queue n (Some keyword.Sequential) = Some (line.Queue n dispatch.Sequential)
plain_queue n (Some keyword.Manual) = Some (line.Queue n dispatch.Manual)
plain_queue n _ = None

abbrev pub parallel_queue : List ℕ → Option Keyword → ℕ → Option SceneLine
parallel_queue n (Some keyword.Parallel) k = Some (line.Queue n (dispatch.Parallel k))
parallel_queue n _ k = None

abbrev pub queue_line : List Token → Option SceneLine
queue_line (token.Word n ∷ token.Word w ∷ []) = plain_queue n (keyword_of w)
queue_line (token.Word n ∷ token.Word w ∷ token.Number k ∷ []) = parallel_queue n (keyword_of w) k
queue_line _ = None

abbrev pub target_line : List Token → Option SceneLine
target_line (token.Word n ∷ token.Number delay ∷ token.Word s ∷ token.Number depth ∷ []) =
    option_map (λ status. line.Target n delay status depth) (status_named s)
target_line _ = None

-- the name of a callback
abbrev pub callback_line : List Token → Option Callback
callback_line (token.Word n ∷ []) = callback_named n
callback_line (token.LongName c ∷ []) = Some c
callback_line _ = None

abbrev pub scope_by : Option Keyword → Option Scope → Option SceneLine
scope_by (Some keyword.Inherit) s = Some (line.Scope None)
scope_by _ (Some s) = Some (line.Scope (Some s))
scope_by _ None = None

abbrev pub scope_line : List Token → Option SceneLine
scope_line (token.Word w ∷ []) = scope_by (keyword_of w) (scope_named w)
scope_line _ = None

abbrev pub level_by : Option Keyword → Option ExecutionLevel → Option SceneLine
level_by (Some keyword.Inherit) l = Some (line.Level None)
level_by _ (Some l) = Some (line.Level (Some l))
level_by _ None = None

abbrev pub level_line : List Token → Option SceneLine
level_line (token.Word w ∷ []) = level_by (keyword_of w) (level_named w)
level_line _ = None

abbrev pub register_line : List Token → Option SceneLine
register_line (token.Word n ∷ token.Number v ∷ []) = Some (line.Register n v)
register_line _ = None

-- `set REG N`
abbrev pub set_action : Option Keyword → List ℕ → ℕ → Option SceneAction
set_action (Some keyword.Set) r v = Some (action.Set r v)
set_action _ r v = None

-- `raise INT` or `lower INT`
abbrev pub wire_action : Option Keyword → List ℕ → Option SceneAction
wire_action (Some keyword.Raise) i = Some (action.Raise i)
wire_action (Some keyword.Lower) i = Some (action.Lower i)
wire_action _ i = None

abbrev pub when_of : Option Access → List ℕ → Option SceneAction → Option Keyword → ℕ → Option SceneLine
when_of (Some access) r (Some act) (Some keyword.After) n = Some (line.When access r act n)
when_of _ r act w n = None

abbrev pub when_line : List Token → Option SceneLine
when_line (token.Word a ∷ token.Word r ∷ token.Word verb ∷ token.Word i ∷ token.Word w ∷ token.Number n ∷ []) =
    when_of (access_named a) r (wire_action (keyword_of verb) i) (keyword_of w) n
when_line (token.Word a ∷ token.Word r ∷ token.Word verb ∷ token.Word t ∷ token.Number v ∷ token.Word w ∷ token.Number n ∷ []) =
    when_of (access_named a) r (set_action (keyword_of verb) t v) (keyword_of w) n
when_line _ = None

-- `at T VERB NAME N`
abbrev pub valued_at : ℕ → Option Keyword → List ℕ → ℕ → Option SceneLine
valued_at tick (Some keyword.Set) n v = Some (line.At tick (action.Set n v))
valued_at tick (Some keyword.Read) n v = Some (line.AtRead tick n v)
valued_at tick (Some keyword.Write) n v = Some (line.AtWrite tick n v)
valued_at tick _ n v = None

-- `at T VERB NAME`
abbrev pub named_at : ℕ → Option Keyword → Option Ask → List ℕ → Option SceneLine
named_at tick (Some keyword.Raise) ask n = Some (line.At tick (action.Raise n))
named_at tick (Some keyword.Lower) ask n = Some (line.At tick (action.Lower n))
named_at tick _ (Some ask) n = Some (line.AtAsk tick ask n)
named_at tick _ None n = None

-- `at T control D CODE LEN`
abbrev pub control_at : ℕ → Option Keyword → List ℕ → ℕ → ℕ → Option SceneLine
control_at tick (Some keyword.Control) d code length = Some (line.AtControl tick d code length)
control_at tick _ d code length = None

-- `at T cancel K`
abbrev pub cancel_at : ℕ → Option Keyword → ℕ → Option SceneLine
cancel_at tick (Some keyword.Cancel) k = Some (line.AtCancel tick k)
cancel_at tick _ k = None

abbrev pub at_line : List Token → Option SceneLine
at_line (token.Number tick ∷ token.Word verb ∷ token.Word n ∷ []) = named_at tick (keyword_of verb) (ask_named verb) n
at_line (token.Number tick ∷ token.Word verb ∷ token.Word n ∷ token.Number v ∷ []) = valued_at tick (keyword_of verb) n v
at_line (token.Number tick ∷ token.Word verb ∷ token.Word d ∷ token.Number code ∷ token.Number length ∷ []) =
    control_at tick (keyword_of verb) d code length
at_line (token.Number tick ∷ token.Word verb ∷ token.Number k ∷ []) = cancel_at tick (keyword_of verb) k
at_line _ = None

abbrev pub for_line : List Token → Option SceneLine
for_line (token.Word w ∷ []) = option_map (λ form. line.For form) (form_named w)
for_line _ = None

abbrev pub power_by : Option Keyword → Option SceneLine
power_by (Some keyword.Off) = Some line.PowerOff
power_by _ = None

abbrev pub power_line : List Token → Option SceneLine
power_line (token.Word w ∷ []) = power_by (keyword_of w)
power_line _ = None

abbrev pub get_line : List Token → Option SceneLine
get_line (token.Word x ∷ token.Assign ∷ token.Word r ∷ []) = Some (line.Get x r)
get_line _ = None

-- the line with this first word and these tokens after it
abbrev pub plain_line : Keyword → List Token → Option SceneLine
plain_line keyword.Cpus ts = option_map (λ n. line.Cpus n) (one_number ts)
plain_line keyword.Limit ts = option_map (λ n. line.Limit n) (one_number ts)
plain_line keyword.Objects ts = option_map (λ n. line.Objects n) (one_number ts)
plain_line keyword.Driver ts = bare line.Driver ts
plain_line keyword.Class ts = class_line ts
plain_line keyword.Device ts = device_line ts
plain_line keyword.Interrupt ts = interrupt_line ts
plain_line keyword.Queue ts = queue_line ts
plain_line keyword.Target ts = target_line ts
plain_line keyword.App ts = option_map (λ n. line.App n) (one_name ts)
plain_line keyword.Pnp ts = bare line.Pnp ts
plain_line keyword.Order ts = bare line.Order ts
plain_line keyword.On ts = option_map (λ c. line.On c) (callback_line ts)
plain_line keyword.End ts = bare line.End ts
plain_line keyword.Scope ts = scope_line ts
plain_line keyword.Level ts = level_line ts
plain_line keyword.Serialize ts = bare line.Serialize ts
plain_line keyword.Period ts = option_map (λ n. line.Period n) (one_number ts)
plain_line keyword.Register ts = register_line ts
plain_line keyword.When ts = when_line ts
plain_line keyword.At ts = at_line ts
plain_line keyword.Default ts = bare line.Default ts
plain_line keyword.For ts = for_line ts
plain_line keyword.Power ts = power_line ts
plain_line keyword.Zero ts = bare line.Zero ts
plain_line keyword.Get ts = get_line ts
plain_line keyword.Else ts = bare line.Else ts
plain_line _ ts = None
