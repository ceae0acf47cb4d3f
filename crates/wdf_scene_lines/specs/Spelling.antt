-- The grammar: the tokens of each line of the language.
use Rattle.std.specs.Prelude.{ℕ, Bool, true, false, List, [], ◌∷◌, map, Option, Some, None}
use Rattle.wdf_base.specs.declared.declared.DispatchKind.{DispatchKind}
use Rattle.wdf_base.specs.declared.declared.DispatchKind.TheVariants as dispatch
use Rattle.wdf_base.specs.declared.declared.ExecutionLevel.{ExecutionLevel}
use Rattle.wdf_base.specs.declared.declared.Scope.{Scope}
use Rattle.wdf_base.specs.Words.{call_word, status_word, ask_word}
use Rattle.wdf_scene.specs.declared.line.InterruptLevel.{InterruptLevel}
use Rattle.wdf_scene.specs.declared.line.InterruptLevel.TheVariants as level
use Rattle.wdf_scene.specs.declared.line.SceneAction.{SceneAction}
use Rattle.wdf_scene.specs.declared.line.SceneAction.TheVariants as action
use Rattle.wdf_scene.specs.declared.line.SceneLine.{SceneLine}
use Rattle.wdf_scene.specs.declared.line.SceneLine.TheVariants as line
use Rattle.wdf_scene.specs.declared.line.StatementHead.{StatementHead}
use Rattle.wdf_scene.specs.declared.line.StatementHead.TheVariants as head
use Rattle.wdf_scene.specs.Words.{plain_kind_word, deferred_kind_word, scope_word, level_word, form_word, access_word, context_word}
use Rattle.wdf_scene.specs.Written.{Atom, Number, Named, Literal, Context, Tree, Leaf, Node, Argument, Missing, Valued, OfClass, Written, Plain, Picked, Single, Calling}
use Rattle.wdf_tokens.specs.declared.keyword.Keyword.TheVariants as keyword
use Rattle.wdf_tokens.specs.declared.token.Token.{Token}
use Rattle.wdf_tokens.specs.declared.token.Token.TheVariants as token
use Rattle.wdf_tokens.specs.WordTokens.{word, callback_token}

abbrev pub atom_token : Atom → Token
atom_token (Number n) = token.Number n
atom_token (Named n) = token.Word n
atom_token (Literal s) = token.Word (status_word s)
atom_token (Context w) = token.Word (context_word w)

-- an expression in front of other tokens: an atom, or `( EXPR OP EXPR )`
abbrev pub tree_then : Tree → List Token → List Token
tree_then (Leaf a) rest = atom_token a ∷ rest
tree_then (Node op l r) rest = token.Open ∷ tree_then l (token.Infix op ∷ tree_then r (token.Close ∷ rest))

abbrev pub argument_then : Argument → List Token → List Token
argument_then Missing rest = rest
argument_then (Valued a) rest = atom_token a ∷ rest
argument_then (OfClass n) rest = token.Word n ∷ rest

-- `X =`, where a variable gets the answer
abbrev pub into_then : Option (List ℕ) → List Token → List Token
into_then None rest = rest
into_then (Some x) rest = token.Word x ∷ token.Assign ∷ rest

abbrev pub head_then : StatementHead → List Token → List Token
head_then (head.Let x) rest = word keyword.Let ∷ token.Word x ∷ token.Assign ∷ rest
head_then (head.Put r) rest = word keyword.Put ∷ token.Word r ∷ rest
head_then head.If rest = word keyword.If ∷ rest
head_then head.Repeat rest = word keyword.Repeat ∷ rest
head_then head.Spend rest = word keyword.Spend ∷ rest
head_then head.Log rest = word keyword.Log ∷ rest
head_then head.Return rest = word keyword.Return ∷ rest

abbrev pub parent_tokens : Option (List ℕ) → List Token
parent_tokens None = []
parent_tokens (Some n) = token.Word n ∷ []

abbrev pub working_tokens : Bool → List Token
working_tokens false = []
working_tokens true = word keyword.Working ∷ []

abbrev pub level_token : InterruptLevel → Token
level_token (level.Numbered n) = token.Number n
level_token level.AtPassive = word keyword.Passive

abbrev pub dispatch_tokens : DispatchKind → List Token
dispatch_tokens dispatch.Sequential = word keyword.Sequential ∷ []
dispatch_tokens (dispatch.Parallel n) = word keyword.Parallel ∷ token.Number n ∷ []
dispatch_tokens dispatch.Manual = word keyword.Manual ∷ []

abbrev pub scope_token : Option Scope → Token
scope_token None = word keyword.Inherit
scope_token (Some s) = token.Word (scope_word s)

abbrev pub execution_token : Option ExecutionLevel → Token
execution_token None = word keyword.Inherit
execution_token (Some l) = token.Word (level_word l)

-- what a device does, in front of other tokens
abbrev pub action_then : SceneAction → List Token → List Token
action_then (action.Set r v) rest = word keyword.Set ∷ token.Word r ∷ token.Number v ∷ rest
action_then (action.Raise i) rest = word keyword.Raise ∷ token.Word i ∷ rest
action_then (action.Lower i) rest = word keyword.Lower ∷ token.Word i ∷ rest

-- the tokens of a form without expressions and picks
abbrev pub plain_tokens : SceneLine → List Token
plain_tokens (line.Cpus n) = word keyword.Cpus ∷ token.Number n ∷ []
plain_tokens (line.Limit n) = word keyword.Limit ∷ token.Number n ∷ []
plain_tokens (line.Objects n) = word keyword.Objects ∷ token.Number n ∷ []
plain_tokens line.Driver = word keyword.Driver ∷ []
plain_tokens (line.Class n k) = word keyword.Class ∷ token.Word n ∷ token.Word (plain_kind_word k) ∷ []
plain_tokens (line.DeferredClass n k parent) = word keyword.Class ∷ token.Word n ∷ token.Word (deferred_kind_word k) ∷ parent_tokens parent
plain_tokens (line.Device n working) = word keyword.Device ∷ token.Word n ∷ working_tokens working
plain_tokens (line.Interrupt n l) = word keyword.Interrupt ∷ token.Word n ∷ level_token l ∷ []
plain_tokens (line.Queue n d) = word keyword.Queue ∷ token.Word n ∷ dispatch_tokens d
plain_tokens (line.Target n delay status depth) =
    word keyword.Target ∷ token.Word n ∷ token.Number delay ∷ token.Word (status_word status) ∷ token.Number depth ∷ []
plain_tokens (line.App n) = word keyword.App ∷ token.Word n ∷ []
plain_tokens line.Pnp = word keyword.Pnp ∷ []
plain_tokens line.Order = word keyword.Order ∷ []
plain_tokens (line.On callback) = word keyword.On ∷ callback_token callback ∷ []
plain_tokens line.End = word keyword.End ∷ []
plain_tokens (line.Scope s) = word keyword.Scope ∷ scope_token s ∷ []
plain_tokens (line.Level l) = word keyword.Level ∷ execution_token l ∷ []
plain_tokens line.Serialize = word keyword.Serialize ∷ []
plain_tokens (line.Period n) = word keyword.Period ∷ token.Number n ∷ []
plain_tokens (line.Register n v) = word keyword.Register ∷ token.Word n ∷ token.Number v ∷ []
plain_tokens (line.When access r act n) =
    word keyword.When ∷ token.Word (access_word access) ∷ token.Word r ∷ action_then act (word keyword.After ∷ token.Number n ∷ [])
plain_tokens (line.At tick act) = word keyword.At ∷ token.Number tick ∷ action_then act []
plain_tokens line.Default = word keyword.Default ∷ []
plain_tokens (line.For form) = word keyword.For ∷ token.Word (form_word form) ∷ []
plain_tokens line.PowerOff = word keyword.Power ∷ word keyword.Off ∷ []
plain_tokens line.Zero = word keyword.Zero ∷ []
plain_tokens (line.AtRead tick d n) = word keyword.At ∷ token.Number tick ∷ word keyword.Read ∷ token.Word d ∷ token.Number n ∷ []
plain_tokens (line.AtWrite tick d n) = word keyword.At ∷ token.Number tick ∷ word keyword.Write ∷ token.Word d ∷ token.Number n ∷ []
plain_tokens (line.AtControl tick d code n) =
    word keyword.At ∷ token.Number tick ∷ word keyword.Control ∷ token.Word d ∷ token.Number code ∷ token.Number n ∷ []
plain_tokens (line.AtCancel tick k) = word keyword.At ∷ token.Number tick ∷ word keyword.Cancel ∷ token.Number k ∷ []
plain_tokens (line.AtAsk tick ask d) = word keyword.At ∷ token.Number tick ∷ token.Word (ask_word ask) ∷ token.Word d ∷ []
plain_tokens (line.Get x r) = word keyword.Get ∷ token.Word x ∷ token.Assign ∷ token.Word r ∷ []
plain_tokens line.Else = word keyword.Else ∷ []
plain_tokens _ = []

-- the tokens of a line
abbrev pub written_tokens : Written → List Token
written_tokens (Plain form) = plain_tokens form
written_tokens (Picked ns) = word keyword.Picks ∷ map (λ n. token.Number n) ns
written_tokens (Single h t) = head_then h (tree_then t [])
written_tokens (Calling kind into a b c) =
    word keyword.Call ∷ into_then into (token.Word (call_word kind) ∷ argument_then a (argument_then b (argument_then c [])))
