-- How the tokens of a line are read.
use Rattle.std.specs.Prelude.{ℕ, zero, suc, Bool, true, false, List, [], ◌∷◌, map, Option, Some, None, option_map, drop, if◌then◌else◌}
use Rattle.std.specs.List.{list_all}
use Rattle.wdf_base.specs.declared.call.CallKind.{CallKind}
use Rattle.wdf_base.specs.declared.script.ContextWord.{ContextWord}
use Rattle.wdf_base.specs.declared.signature.Sort.{Sort}
use Rattle.wdf_base.specs.declared.signature.Sort.TheVariants as sort
use Rattle.wdf_base.specs.declared.script.Operator.{Operator}
use Rattle.wdf_base.specs.declared.value.Status.{Status}
use Rattle.wdf_base.specs.Calls.{signature_of}
use Rattle.wdf_scene.specs.declared.line.StatementHead.{StatementHead}
use Rattle.wdf_scene.specs.declared.line.StatementHead.TheVariants as head
use Rattle.wdf_scene.specs.Written.{Atom, Number, Named, Literal, Context, Tree, Leaf, Node, Argument, Missing, Valued, OfClass, Written, Plain, Picked, Single, Calling}
use Rattle.wdf_tokens.specs.declared.keyword.Keyword.{Keyword}
use Rattle.wdf_tokens.specs.declared.keyword.Keyword.TheVariants as keyword
use Rattle.wdf_tokens.specs.declared.token.Token.{Token}
use Rattle.wdf_tokens.specs.declared.token.Token.TheVariants as token
use Rattle.wdf_tokens.specs.Keywords.{keyword_of}
use Rattle.wdf_tokens.specs.Named.{call_named, status_named, context_named}
use Rattle.wdf_scene_lines.specs.declared.statements.Front.{Front}
use Rattle.wdf_scene_lines.specs.declared.statements.CallFront.{CallFront}
use Rattle.wdf_scene_lines.specs.Forms.{plain_line}

-- a word of an expression: a status, a part of the running callback, or else a name
abbrev pub word_atom : List ℕ → Option Status → Option ContextWord → Atom
word_atom n (Some s) c = Literal s
word_atom n None (Some c) = Context c
word_atom n None None = Named n

-- the atom that a token is
abbrev pub atom_of : Token → Option Atom
atom_of (token.Number n) = Some (Number n)
atom_of (token.Word n) = Some (word_atom n (status_named n) (context_named n))
atom_of _ = None

-- the token in front
abbrev pub first_token : List Token → Option Token
first_token [] = None
first_token (t ∷ ts) = Some t

abbrev pub atom_in : Option Token → Option Atom
atom_in None = None
atom_in (Some t) = atom_of t

abbrev pub operator_in : Option Token → Option Operator
operator_in (Some (token.Infix op)) = Some op
operator_in _ = None

abbrev pub name_in : Option Token → Option (List ℕ)
name_in (Some (token.Word n)) = Some n
name_in _ = None

abbrev pub is_open : Option Token → Bool
is_open (Some token.Open) = true
is_open _ = false

abbrev pub is_close : Option Token → Bool
is_close (Some token.Close) = true
is_close _ = false

-- an expression at the front of some tokens, and the tokens after it
pub data TreeReading : Type 0 where
  NoTree : TreeReading
  TreeBefore : Tree → List Token → TreeReading

abbrev pub leaf_read : Option Atom → List Token → TreeReading
leaf_read None ts = NoTree
leaf_read (Some a) ts = TreeBefore (Leaf a) ts

-- the parenthesis that closes
abbrev pub closed_read : Tree → Bool → List Token → TreeReading
closed_read t false ts = NoTree
closed_read t true ts = TreeBefore t ts

-- what is read after the operator
abbrev pub right_read : Tree → Operator → TreeReading → TreeReading
right_read l op NoTree = NoTree
right_read l op (TreeBefore r ts) = closed_read (Node op l r) (is_close (first_token ts)) (drop 1 ts)

abbrev pub operator_read : (List Token → TreeReading) → Tree → Option Operator → List Token → TreeReading
operator_read read l None ts = NoTree
operator_read read l (Some op) ts = right_read l op (read ts)

-- what is read after the parenthesis that opens
abbrev pub left_read : (List Token → TreeReading) → TreeReading → TreeReading
left_read read NoTree = NoTree
left_read read (TreeBefore l ts) = operator_read read l (operator_in (first_token ts)) (drop 1 ts)

-- an expression whose parentheses nest at most so deep
unfoldable pub read_tree : ℕ → List Token → TreeReading
read_tree zero ts = leaf_read (atom_in (first_token ts)) (drop 1 ts)
read_tree (suc d) ts =
    if is_open (first_token ts) then left_read (read_tree d) (read_tree d (drop 1 ts))
    else leaf_read (atom_in (first_token ts)) (drop 1 ts)

-- an expression that is all of the tokens
abbrev pub whole_tree : TreeReading → Option Tree
whole_tree (TreeBefore t []) = Some t
whole_tree _ = None

-- the front of a statement with one expression, and how many tokens it has
abbrev pub front : StatementHead → ℕ → Front
front h n = record { head = h; used = n }

abbrev pub let_front : List Token → Option Front
let_front (token.Word x ∷ token.Assign ∷ ts) = Some (front (head.Let x) 2)
let_front _ = None

abbrev pub put_front : List Token → Option Front
put_front (token.Word r ∷ ts) = Some (front (head.Put r) 1)
put_front _ = None

abbrev pub read_front : Keyword → List Token → Option Front
read_front keyword.Let ts = let_front ts
read_front keyword.Put ts = put_front ts
read_front keyword.If ts = Some (front head.If 0)
read_front keyword.Repeat ts = Some (front head.Repeat 0)
read_front keyword.Spend ts = Some (front head.Spend 0)
read_front keyword.Log ts = Some (front head.Log 0)
read_front keyword.Return ts = Some (front head.Return 0)
read_front _ ts = None

-- a statement of this front
abbrev pub single_of : StatementHead → Option Tree → Option Written
single_of h None = None
single_of h (Some t) = Some (Single h t)

abbrev pub single_after : Option Front → List Token → Option Written
single_after None ts = None
single_after (Some f) ts = single_of f.head (whole_tree (read_tree 16 (drop f.used ts)))

-- an argument of a call, and the tokens after it
pub data ArgumentReading : Type 0 where
  NoArgument : ArgumentReading
  ArgumentBefore : Argument → List Token → ArgumentReading

abbrev pub valued_read : Option Atom → List Token → ArgumentReading
valued_read None ts = NoArgument
valued_read (Some a) ts = ArgumentBefore (Valued a) ts

abbrev pub class_read : Option (List ℕ) → List Token → ArgumentReading
class_read None ts = NoArgument
class_read (Some n) ts = ArgumentBefore (OfClass n) ts

-- an argument is what the table of calls asks for
abbrev pub read_argument : Sort → List Token → ArgumentReading
read_argument sort.Absent ts = ArgumentBefore Missing ts
read_argument (sort.Class k) ts = class_read (name_in (first_token ts)) (drop 1 ts)
read_argument _ ts = valued_read (atom_in (first_token ts)) (drop 1 ts)

abbrev pub third_read : CallKind → Option (List ℕ) → Argument → Argument → ArgumentReading → Option Written
third_read kind into a b (ArgumentBefore c []) = Some (Calling kind into a b c)
third_read kind into a b _ = None

abbrev pub second_read : CallKind → Option (List ℕ) → Argument → ArgumentReading → Option Written
second_read kind into a (ArgumentBefore b ts) = third_read kind into a b (read_argument (signature_of kind).c ts)
second_read kind into a NoArgument = None

abbrev pub first_read : CallKind → Option (List ℕ) → ArgumentReading → Option Written
first_read kind into (ArgumentBefore a ts) = second_read kind into a (read_argument (signature_of kind).b ts)
first_read kind into NoArgument = None

-- the front of a call, and how many tokens it has
abbrev pub call_front_of : Option CallKind → Option (List ℕ) → ℕ → Option CallFront
call_front_of None into n = None
call_front_of (Some kind) into n = Some (record { kind = kind; into = into; used = n })

abbrev pub call_front : List Token → Option CallFront
call_front (token.Word x ∷ token.Assign ∷ token.Word f ∷ ts) = call_front_of (call_named f) (Some x) 3
call_front (token.Word f ∷ ts) = call_front_of (call_named f) None 1
call_front _ = None

abbrev pub call_after : Option CallFront → List Token → Option Written
call_after None ts = None
call_after (Some f) ts = first_read f.kind f.into (read_argument (signature_of f.kind).a (drop f.used ts))

abbrev pub is_number : Token → Bool
is_number (token.Number n) = true
is_number _ = false

-- the number that a token is
abbrev pub number_in : Token → ℕ
number_in (token.Number n) = n
number_in _ = 0

abbrev pub picks_written : List Token → Option Written
picks_written [] = None
picks_written (t ∷ ts) = if list_all is_number (t ∷ ts) then Some (Picked (map number_in (t ∷ ts))) else None

-- the line without picks with this first word and these tokens after it
abbrev pub read_unpicked : Keyword → List Token → Option Written
read_unpicked keyword.Call ts = call_after (call_front ts) ts
read_unpicked keyword.Let ts = single_after (read_front keyword.Let ts) ts
read_unpicked keyword.Put ts = single_after (read_front keyword.Put ts) ts
read_unpicked keyword.If ts = single_after (read_front keyword.If ts) ts
read_unpicked keyword.Repeat ts = single_after (read_front keyword.Repeat ts) ts
read_unpicked keyword.Spend ts = single_after (read_front keyword.Spend ts) ts
read_unpicked keyword.Log ts = single_after (read_front keyword.Log ts) ts
read_unpicked keyword.Return ts = single_after (read_front keyword.Return ts) ts
read_unpicked k ts = option_map (λ form. Plain form) (plain_line k ts)

-- the line with this first word and these tokens after it
abbrev pub read_by : Keyword → List Token → Option Written
read_by keyword.Picks ts = picks_written ts
read_by k ts = read_unpicked k ts

abbrev pub read_known : Option Keyword → List Token → Option Written
read_known None ts = None
read_known (Some k) ts = read_by k ts

-- the line that some tokens are
unfoldable pub read_written : List Token → Option Written
read_written (token.Word n ∷ ts) = read_known (keyword_of n) ts
read_written _ = None
