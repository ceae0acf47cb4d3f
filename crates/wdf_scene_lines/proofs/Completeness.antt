-- A line of the language is read from the tokens that spell it.
use Rattle.std.proofs.Common.{◌≡◌, ℕ, zero, suc, ◌≤◌, Bool, true, false, cond, ◌&&◌, nat_le, List, [], ◌∷◌, map, length, Option, Some, None, option_map, refl, ap, ◌∙◌, arith}
use Rattle.std.specs.Option.{is_none}
use Rattle.std.specs.List.{list_all}
use Rattle.std.proofs.lemmas.Bool.{leb-true}
use Rattle.wdf_base.specs.declared.call.Callback.{Callback}
use Rattle.wdf_base.specs.declared.call.CallKind.{CallKind}
use Rattle.wdf_base.specs.declared.declared.DeferredKind.{DeferredKind}
use Rattle.wdf_base.specs.declared.declared.DeferredKind.TheVariants as deferred_kind
use Rattle.wdf_base.specs.declared.declared.DispatchKind.TheVariants as dispatch
use Rattle.wdf_base.specs.declared.declared.ExecutionLevel.{ExecutionLevel}
use Rattle.wdf_base.specs.declared.declared.ExecutionLevel.TheVariants as execution
use Rattle.wdf_base.specs.declared.declared.PlainKind.{PlainKind}
use Rattle.wdf_base.specs.declared.declared.Scope.{Scope}
use Rattle.wdf_base.specs.declared.declared.Scope.TheVariants as scope
use Rattle.wdf_base.specs.declared.event.Access.{Access}
use Rattle.wdf_base.specs.declared.event.Ask.{Ask}
use Rattle.wdf_base.specs.declared.event.Ask.TheVariants as ask
use Rattle.wdf_base.specs.declared.object.RequestForm.{RequestForm}
use Rattle.wdf_base.specs.declared.script.ContextWord.{ContextWord}
use Rattle.wdf_base.specs.declared.script.ContextWord.TheVariants as context
use Rattle.wdf_base.specs.declared.signature.Sort.{Sort}
use Rattle.wdf_base.specs.declared.signature.Sort.TheVariants as sort
use Rattle.wdf_base.specs.declared.value.Status.{Status}
use Rattle.wdf_base.specs.Calls.{signature_of}
use Rattle.wdf_base.specs.Words.{callback_word, call_word, status_word, ask_word, status_of}
use Rattle.wdf_base.proofs.WordLaws.{status-back, callback-back, call-back, ask-back}
use Rattle.wdf_base.proofs.Tests.{both_left, both_right}
use Rattle.wdf_scene.proofs.WordLaws.{access-back, plain_kind-back, deferred_kind-back, scope-back, level-back, form-back, context-back}
use Rattle.wdf_scene.specs.Words.{access_word, plain_kind_word, deferred_kind_word, scope_word, level_word, form_word, context_word, context_of}
use Rattle.wdf_scene.specs.declared.line.InterruptLevel.TheVariants as level
use Rattle.wdf_scene.specs.declared.line.SceneAction.{SceneAction}
use Rattle.wdf_scene.specs.declared.line.SceneAction.TheVariants as action
use Rattle.wdf_scene.specs.declared.line.SceneLine.{SceneLine}
use Rattle.wdf_scene.specs.declared.line.SceneLine.TheVariants as line
use Rattle.wdf_scene.specs.declared.line.StatementHead.{StatementHead}
use Rattle.wdf_scene.specs.declared.line.StatementHead.TheVariants as head
use Rattle.wdf_scene.specs.Written.{Atom, Number, Named, Literal, Context, Tree, Leaf, Node, Argument, Missing, Valued, OfClass, Written, Plain, Picked, Single, Calling, depth, is_proper_atom, is_proper, is_argument, is_filled, is_plain_form, is_written}
use Rattle.wdf_tokens.specs.declared.keyword.Keyword.{Keyword}
use Rattle.wdf_tokens.specs.declared.keyword.Keyword.TheVariants as keyword
use Rattle.wdf_tokens.specs.declared.token.Token.{Token}
use Rattle.wdf_tokens.specs.declared.token.Token.TheVariants as token
use Rattle.wdf_tokens.specs.Keywords.{keyword_word, keyword_of}
use Rattle.wdf_tokens.specs.Named.{callback_named, call_named, status_named, context_named, ask_named, access_named, plain_kind_named, deferred_kind_named, scope_named, level_named, form_named}
use Rattle.wdf_tokens.specs.WordTokens.{word, callback_token}
use Rattle.wdf_tokens.proofs.KeywordLaws.{keyword_back}
use Rattle.wdf_scene_lines.specs.Forms as forms
use Rattle.wdf_scene_lines.specs.Reading.{word_atom, atom_of, first_token, is_open, TreeBefore, leaf_read, right_read, left_read, read_tree, whole_tree, single_of, ArgumentBefore, valued_read, read_argument, third_read, second_read, first_read, call_front_of, call_front, call_after, is_number, number_in, picks_written, read_by, read_known, read_written}
use Rattle.wdf_scene_lines.specs.Spelling.{atom_token, tree_then, argument_then, head_then, action_then, plain_tokens, written_tokens}

status_back : (x : Status) → status_named (status_word x) ≡ Some x
unfolding status_named
status_back x = status-back x

callback_back : (x : Callback) → callback_named (callback_word x) ≡ Some x
unfolding callback_named
callback_back x = callback-back x

call_back : (x : CallKind) → call_named (call_word x) ≡ Some x
unfolding call_named
call_back x = call-back x

ask_back : (x : Ask) → ask_named (ask_word x) ≡ Some x
unfolding ask_named
ask_back x = ask-back x

access_back : (x : Access) → access_named (access_word x) ≡ Some x
unfolding access_named
access_back x = access-back x

plain_kind_back : (x : PlainKind) → plain_kind_named (plain_kind_word x) ≡ Some x
unfolding plain_kind_named
plain_kind_back x = plain_kind-back x

deferred_kind_back : (x : DeferredKind) → deferred_kind_named (deferred_kind_word x) ≡ Some x
unfolding deferred_kind_named
deferred_kind_back x = deferred_kind-back x

scope_back : (x : Scope) → scope_named (scope_word x) ≡ Some x
unfolding scope_named
scope_back x = scope-back x

level_back : (x : ExecutionLevel) → level_named (level_word x) ≡ Some x
unfolding level_named
level_back x = level-back x

form_back : (x : RequestForm) → form_named (form_word x) ≡ Some x
unfolding form_named
form_back x = form-back x

context_back : (x : ContextWord) → context_named (context_word x) ≡ Some x
unfolding context_named
context_back x = context-back x

-- words of one table that are none of another
deferred_is_not_plain : (x : DeferredKind) → plain_kind_named (deferred_kind_word x) ≡ None
unfolding plain_kind_named
deferred_is_not_plain deferred_kind.Dpc = refl
deferred_is_not_plain _ = refl

context_is_no_status : (x : ContextWord) → status_named (context_word x) ≡ None
unfolding status_named
context_is_no_status context.OwnObject = refl
context_is_no_status _ = refl

ask_is_no_keyword : (x : Ask) → keyword_of (ask_word x) ≡ None
unfolding keyword_of
ask_is_no_keyword ask.Start = refl
ask_is_no_keyword _ = refl

scope_read : (x : Scope) (s : Option Scope) → s ≡ Some x → forms.scope_by (keyword_of (scope_word x)) s ≡ Some (line.Scope (Some x))
unfolding keyword_of
scope_read scope.PerDevice s is = ap (forms.scope_by (keyword_of (scope_word scope.PerDevice))) is
scope_read scope.PerQueue s is = ap (forms.scope_by (keyword_of (scope_word scope.PerQueue))) is
scope_read scope.Unscoped s is = ap (forms.scope_by (keyword_of (scope_word scope.Unscoped))) is

level_read : (x : ExecutionLevel) (s : Option ExecutionLevel) → s ≡ Some x → forms.level_by (keyword_of (level_word x)) s ≡ Some (line.Level (Some x))
unfolding keyword_of
level_read execution.Passive s is = ap (forms.level_by (keyword_of (level_word execution.Passive))) is
level_read execution.Dispatch s is = ap (forms.level_by (keyword_of (level_word execution.Dispatch))) is

-- a line is read by its first word
by_first : (k : Keyword) (ts : List Token) → read_written (word k ∷ ts) ≡ read_by k ts
unfolding read_written
by_first k ts = ap (λ o. read_known o ts) (keyword_back k)

-- a form that is read is a line
abbrev as_plain : Option SceneLine → Option Written
as_plain form = option_map (λ f. Plain f) form

callback_by : (c : Callback) (b : Bool) → forms.callback_line (cond b (token.Word (callback_word c)) (token.LongName c) ∷ []) ≡ Some c
callback_by c true = callback_back c
callback_by c false = refl

when_read : (access : Access) (r : List ℕ) (act : SceneAction) (n : ℕ) → forms.when_line (token.Word (access_word access) ∷ token.Word r ∷ action_then act (word keyword.After ∷ token.Number n ∷ [])) ≡ Some (line.When access r act n)
when_read access r (action.Set t v) n =
    ap (λ a. forms.when_of a r (forms.set_action (keyword_of (keyword_word keyword.Set)) t v) (keyword_of (keyword_word keyword.After)) n) (access_back access)
    ∙ ap (λ k. forms.when_of (Some access) r (forms.set_action k t v) (keyword_of (keyword_word keyword.After)) n) (keyword_back keyword.Set)
    ∙ ap (λ k. forms.when_of (Some access) r (Some (action.Set t v)) k n) (keyword_back keyword.After)
when_read access r (action.Raise i) n =
    ap (λ a. forms.when_of a r (forms.wire_action (keyword_of (keyword_word keyword.Raise)) i) (keyword_of (keyword_word keyword.After)) n) (access_back access)
    ∙ ap (λ k. forms.when_of (Some access) r (forms.wire_action k i) (keyword_of (keyword_word keyword.After)) n) (keyword_back keyword.Raise)
    ∙ ap (λ k. forms.when_of (Some access) r (Some (action.Raise i)) k n) (keyword_back keyword.After)
when_read access r (action.Lower i) n =
    ap (λ a. forms.when_of a r (forms.wire_action (keyword_of (keyword_word keyword.Lower)) i) (keyword_of (keyword_word keyword.After)) n) (access_back access)
    ∙ ap (λ k. forms.when_of (Some access) r (forms.wire_action k i) (keyword_of (keyword_word keyword.After)) n) (keyword_back keyword.Lower)
    ∙ ap (λ k. forms.when_of (Some access) r (Some (action.Lower i)) k n) (keyword_back keyword.After)

at_read : (tick : ℕ) (act : SceneAction) → forms.at_line (token.Number tick ∷ action_then act []) ≡ Some (line.At tick act)
at_read tick (action.Set r v) = ap (λ k. forms.valued_at tick k r v) (keyword_back keyword.Set)
at_read tick (action.Raise i) = ap (λ k. forms.named_at tick k (ask_named (keyword_word keyword.Raise)) i) (keyword_back keyword.Raise)
at_read tick (action.Lower i) = ap (λ k. forms.named_at tick k (ask_named (keyword_word keyword.Lower)) i) (keyword_back keyword.Lower)

-- a form without expressions and picks is read
plain_read : (form : SceneLine) → is_plain_form form ≡ true → read_written (plain_tokens form) ≡ Some (Plain form)
plain_read (line.Cpus n) h = by_first keyword.Cpus (token.Number n ∷ [])
plain_read (line.Limit n) h = by_first keyword.Limit (token.Number n ∷ [])
plain_read (line.Objects n) h = by_first keyword.Objects (token.Number n ∷ [])
plain_read line.Driver h = by_first keyword.Driver []
plain_read (line.Class n k) h =
    by_first keyword.Class (token.Word n ∷ token.Word (plain_kind_word k) ∷ [])
    ∙ ap (λ p. as_plain (forms.class_of n p (deferred_kind_named (plain_kind_word k)))) (plain_kind_back k)
plain_read (line.DeferredClass n k None) h =
    by_first keyword.Class (token.Word n ∷ token.Word (deferred_kind_word k) ∷ [])
    ∙ ap (λ p. as_plain (forms.class_of n p (deferred_kind_named (deferred_kind_word k)))) (deferred_is_not_plain k)
    ∙ ap (λ d. as_plain (forms.class_of n None d)) (deferred_kind_back k)
plain_read (line.DeferredClass n k (Some p)) h =
    by_first keyword.Class (token.Word n ∷ token.Word (deferred_kind_word k) ∷ token.Word p ∷ [])
    ∙ ap (λ d. as_plain (forms.child_class_of n d p)) (deferred_kind_back k)
plain_read (line.Device n false) h = by_first keyword.Device (token.Word n ∷ [])
plain_read (line.Device n true) h =
    by_first keyword.Device (token.Word n ∷ word keyword.Working ∷ []) ∙ ap (λ k. as_plain (forms.working_device n k)) (keyword_back keyword.Working)
plain_read (line.Interrupt n (level.Numbered l)) h = by_first keyword.Interrupt (token.Word n ∷ token.Number l ∷ [])
plain_read (line.Interrupt n level.AtPassive) h =
    by_first keyword.Interrupt (token.Word n ∷ word keyword.Passive ∷ []) ∙ ap (λ k. as_plain (forms.passive_interrupt n k)) (keyword_back keyword.Passive)
plain_read (line.Queue n dispatch.Sequential) h =
    by_first keyword.Queue (token.Word n ∷ word keyword.Sequential ∷ []) ∙ ap (λ k. as_plain (forms.plain_queue n k)) (keyword_back keyword.Sequential)
plain_read (line.Queue n dispatch.Manual) h =
    by_first keyword.Queue (token.Word n ∷ word keyword.Manual ∷ []) ∙ ap (λ k. as_plain (forms.plain_queue n k)) (keyword_back keyword.Manual)
plain_read (line.Queue n (dispatch.Parallel m)) h =
    by_first keyword.Queue (token.Word n ∷ word keyword.Parallel ∷ token.Number m ∷ []) ∙ ap (λ k. as_plain (forms.parallel_queue n k m)) (keyword_back keyword.Parallel)
plain_read (line.Target n delay status depth) h =
    by_first keyword.Target (token.Word n ∷ token.Number delay ∷ token.Word (status_word status) ∷ token.Number depth ∷ [])
    ∙ ap (λ s. as_plain (option_map (λ x. line.Target n delay x depth) s)) (status_back status)
plain_read (line.App n) h = by_first keyword.App (token.Word n ∷ [])
plain_read line.Pnp h = by_first keyword.Pnp []
plain_read line.Order h = by_first keyword.Order []
plain_read (line.On c) h =
    by_first keyword.On (callback_token c ∷ []) ∙ ap (λ x. as_plain (option_map (λ y. line.On y) x)) (callback_by c (nat_le (length (callback_word c)) 32))
plain_read line.End h = by_first keyword.End []
plain_read (line.Scope None) h =
    by_first keyword.Scope (word keyword.Inherit ∷ []) ∙ ap (λ k. as_plain (forms.scope_by k (scope_named (keyword_word keyword.Inherit)))) (keyword_back keyword.Inherit)
plain_read (line.Scope (Some s)) h =
    by_first keyword.Scope (token.Word (scope_word s) ∷ []) ∙ ap as_plain (scope_read s (scope_named (scope_word s)) (scope_back s))
plain_read (line.Level None) h =
    by_first keyword.Level (word keyword.Inherit ∷ []) ∙ ap (λ k. as_plain (forms.level_by k (level_named (keyword_word keyword.Inherit)))) (keyword_back keyword.Inherit)
plain_read (line.Level (Some l)) h =
    by_first keyword.Level (token.Word (level_word l) ∷ []) ∙ ap as_plain (level_read l (level_named (level_word l)) (level_back l))
plain_read line.Serialize h = by_first keyword.Serialize []
plain_read (line.Period n) h = by_first keyword.Period (token.Number n ∷ [])
plain_read (line.Register n v) h = by_first keyword.Register (token.Word n ∷ token.Number v ∷ [])
plain_read (line.When access r act n) h =
    by_first keyword.When (token.Word (access_word access) ∷ token.Word r ∷ action_then act (word keyword.After ∷ token.Number n ∷ []))
    ∙ ap as_plain (when_read access r act n)
plain_read (line.At tick act) h = by_first keyword.At (token.Number tick ∷ action_then act []) ∙ ap as_plain (at_read tick act)
plain_read line.Default h = by_first keyword.Default []
plain_read (line.For form) h = by_first keyword.For (token.Word (form_word form) ∷ []) ∙ ap (λ x. as_plain (option_map (λ y. line.For y) x)) (form_back form)
plain_read line.PowerOff h = by_first keyword.Power (word keyword.Off ∷ []) ∙ ap (λ k. as_plain (forms.power_by k)) (keyword_back keyword.Off)
plain_read line.Zero h = by_first keyword.Zero []
plain_read (line.AtRead tick d n) h =
    by_first keyword.At (token.Number tick ∷ word keyword.Read ∷ token.Word d ∷ token.Number n ∷ []) ∙ ap (λ k. as_plain (forms.valued_at tick k d n)) (keyword_back keyword.Read)
plain_read (line.AtWrite tick d n) h =
    by_first keyword.At (token.Number tick ∷ word keyword.Write ∷ token.Word d ∷ token.Number n ∷ []) ∙ ap (λ k. as_plain (forms.valued_at tick k d n)) (keyword_back keyword.Write)
plain_read (line.AtControl tick d code n) h =
    by_first keyword.At (token.Number tick ∷ word keyword.Control ∷ token.Word d ∷ token.Number code ∷ token.Number n ∷ [])
    ∙ ap (λ k. as_plain (forms.control_at tick k d code n)) (keyword_back keyword.Control)
plain_read (line.AtCancel tick m) h =
    by_first keyword.At (token.Number tick ∷ word keyword.Cancel ∷ token.Number m ∷ []) ∙ ap (λ k. as_plain (forms.cancel_at tick k m)) (keyword_back keyword.Cancel)
plain_read (line.AtAsk tick a d) h =
    by_first keyword.At (token.Number tick ∷ token.Word (ask_word a) ∷ token.Word d ∷ [])
    ∙ ap (λ k. as_plain (forms.named_at tick k (ask_named (ask_word a)) d)) (ask_is_no_keyword a)
    ∙ ap (λ x. as_plain (forms.named_at tick None x d)) (ask_back a)
plain_read (line.Get x r) h = by_first keyword.Get (token.Word x ∷ token.Assign ∷ token.Word r ∷ [])
plain_read line.Else h = by_first keyword.Else []
plain_read _ h = absurd (let z : ⊥ = cc in z)

-- an atom is read from its token
none_is : {X : Type 0} (o : Option X) → is_none o ≡ true → o ≡ None
none_is None h = refl
none_is (Some x) h = absurd (let z : ⊥ = cc in z)

named_read : (n : List ℕ) → is_proper_atom (Named n) ≡ true → word_atom n (status_named n) (context_named n) ≡ Named n
unfolding status_named context_named
named_read n h =
    ap (λ s. word_atom n s (context_of n)) (none_is (status_of n) (both_left (is_none (status_of n)) (is_none (context_of n)) h))
    ∙ ap (word_atom n None) (none_is (context_of n) (both_right (is_none (status_of n)) (is_none (context_of n)) h))

atom_read : (a : Atom) → is_proper_atom a ≡ true → atom_of (atom_token a) ≡ Some a
atom_read (Number n) h = refl
atom_read (Named n) h = ap (λ x. Some x) (named_read n h)
atom_read (Literal s) h = ap (λ x. Some (word_atom (status_word s) x (context_named (status_word s)))) (status_back s)
atom_read (Context w) h =
    ap (λ x. Some (word_atom (context_word w) x (context_named (context_word w)))) (context_is_no_status w)
    ∙ ap (λ x. Some (word_atom (context_word w) None x)) (context_back w)

atom_is_not_open : (a : Atom) → is_open (Some (atom_token a)) ≡ false
atom_is_not_open (Number n) = refl
atom_is_not_open _ = refl

-- an expression is read from its tokens
tree_read : (d : ℕ) (t : Tree) (rest : List Token) → depth t ≤ d → is_proper t ≡ true → read_tree d (tree_then t rest) ≡ TreeBefore t rest
unfolding read_tree
tree_read zero (Leaf a) rest shallow proper = ap (λ o. leaf_read o rest) (atom_read a proper)
tree_read (suc d) (Leaf a) rest shallow proper =
    ap (λ b. cond b (left_read (read_tree d) (read_tree d rest)) (leaf_read (atom_of (atom_token a)) rest)) (atom_is_not_open a)
    ∙ ap (λ o. leaf_read o rest) (atom_read a proper)
tree_read zero (Node op l r) rest shallow proper = absurd (omega arith)
tree_read (suc d) (Node op l r) rest shallow proper =
    let left = tree_read d l (token.Infix op ∷ tree_then r (token.Close ∷ rest)) (omega arith) (both_left (is_proper l) (is_proper r) proper) in
    let right = tree_read d r (token.Close ∷ rest) (omega arith) (both_right (is_proper l) (is_proper r) proper) in
    ap (left_read (read_tree d)) left ∙ ap (right_read l op) right

single_read : (h : StatementHead) (t : Tree) → is_written (Single h t) ≡ true → single_of h (whole_tree (read_tree 16 (tree_then t []))) ≡ Some (Single h t)
single_read h t fits =
    ap (λ r. single_of h (whole_tree r))
    (tree_read 16 t [] (leb-true (depth t) 16 (both_right (is_proper t) (nat_le (depth t) 16) fits)) (both_left (is_proper t) (nat_le (depth t) 16) fits))

head_read : (h : StatementHead) (t : Tree) → is_written (Single h t) ≡ true → read_written (head_then h (tree_then t [])) ≡ Some (Single h t)
head_read (head.Let x) t fits = by_first keyword.Let (token.Word x ∷ token.Assign ∷ tree_then t []) ∙ single_read (head.Let x) t fits
head_read (head.Put r) t fits = by_first keyword.Put (token.Word r ∷ tree_then t []) ∙ single_read (head.Put r) t fits
head_read head.If t fits = by_first keyword.If (tree_then t []) ∙ single_read head.If t fits
head_read head.Repeat t fits = by_first keyword.Repeat (tree_then t []) ∙ single_read head.Repeat t fits
head_read head.Spend t fits = by_first keyword.Spend (tree_then t []) ∙ single_read head.Spend t fits
head_read head.Log t fits = by_first keyword.Log (tree_then t []) ∙ single_read head.Log t fits
head_read head.Return t fits = by_first keyword.Return (tree_then t []) ∙ single_read head.Return t fits

-- an argument is read from its token
valued_back : (v : Atom) (rest : List Token) → is_proper_atom v ≡ true → valued_read (atom_of (atom_token v)) rest ≡ ArgumentBefore (Valued v) rest
valued_back v rest h = ap (λ o. valued_read o rest) (atom_read v h)

argument_read : (k : Sort) (a : Argument) (rest : List Token) → is_argument k a ≡ true → read_argument k (argument_then a rest) ≡ ArgumentBefore a rest
argument_read sort.Absent Missing rest h = refl
argument_read sort.Absent (Valued v) rest h = absurd (let z : ⊥ = cc in z)
argument_read sort.Absent (OfClass n) rest h = absurd (let z : ⊥ = cc in z)
argument_read (sort.Class k) Missing rest h = absurd (let z : ⊥ = cc in z)
argument_read (sort.Class k) (Valued v) rest h = absurd (let z : ⊥ = cc in z)
argument_read (sort.Class k) (OfClass n) rest h = refl
argument_read _ Missing rest h = absurd (let z : ⊥ = cc in z)
argument_read _ (Valued v) rest h = valued_back v rest h
argument_read _ (OfClass n) rest h = absurd (let z : ⊥ = cc in z)

-- no argument begins with `=`
abbrev is_assign : Option Token → Bool
is_assign (Some token.Assign) = true
is_assign _ = false

atom_not_assign : (a : Atom) → is_assign (Some (atom_token a)) ≡ false
atom_not_assign (Number n) = refl
atom_not_assign _ = refl

argument_not_assign : (a : Argument) (rest : List Token) → is_assign (first_token rest) ≡ false → is_assign (first_token (argument_then a rest)) ≡ false
argument_not_assign Missing rest h = h
argument_not_assign (Valued v) rest h = atom_not_assign v
argument_not_assign (OfClass n) rest h = refl

bare_front : (f : List ℕ) (rest : List Token) → is_assign (first_token rest) ≡ false → call_front (token.Word f ∷ rest) ≡ call_front_of (call_named f) None 1
bare_front f [] h = refl
bare_front f (token.Assign ∷ rest) h = absurd (let z : ⊥ = cc in z)
bare_front f (t ∷ rest) h = refl

arguments_read : (kind : CallKind) (into : Option (List ℕ)) (a b c : Argument) → is_written (Calling kind into a b c) ≡ true → first_read kind into (read_argument (signature_of kind).a (argument_then a (argument_then b (argument_then c [])))) ≡ Some (Calling kind into a b c)
arguments_read kind into a b c h =
    let ha = both_left (is_argument (signature_of kind).a a) (is_argument (signature_of kind).b b && is_argument (signature_of kind).c c) h in
    let hbc = both_right (is_argument (signature_of kind).a a) (is_argument (signature_of kind).b b && is_argument (signature_of kind).c c) h in
    let hb = both_left (is_argument (signature_of kind).b b) (is_argument (signature_of kind).c c) hbc in
    let hc = both_right (is_argument (signature_of kind).b b) (is_argument (signature_of kind).c c) hbc in
    ap (first_read kind into) (argument_read (signature_of kind).a a (argument_then b (argument_then c [])) ha)
    ∙ ap (second_read kind into a) (argument_read (signature_of kind).b b (argument_then c []) hb)
    ∙ ap (third_read kind into a b) (argument_read (signature_of kind).c c [] hc)

call_read : (kind : CallKind) (into : Option (List ℕ)) (a b c : Argument) → is_written (Calling kind into a b c) ≡ true → read_written (written_tokens (Calling kind into a b c)) ≡ Some (Calling kind into a b c)
call_read kind None a b c h =
    let rest = argument_then a (argument_then b (argument_then c [])) in
    by_first keyword.Call (token.Word (call_word kind) ∷ rest)
    ∙ ap (λ f. call_after f (token.Word (call_word kind) ∷ rest)) (bare_front (call_word kind) rest (argument_not_assign a (argument_then b (argument_then c [])) (argument_not_assign b (argument_then c []) (argument_not_assign c [] refl))))
    ∙ ap (λ k. call_after (call_front_of k None 1) (token.Word (call_word kind) ∷ rest)) (call_back kind)
    ∙ arguments_read kind None a b c h
call_read kind (Some x) a b c h =
    let rest = argument_then a (argument_then b (argument_then c [])) in
    by_first keyword.Call (token.Word x ∷ token.Assign ∷ token.Word (call_word kind) ∷ rest)
    ∙ ap (λ k. call_after (call_front_of k (Some x) 3) (token.Word x ∷ token.Assign ∷ token.Word (call_word kind) ∷ rest)) (call_back kind)
    ∙ arguments_read kind (Some x) a b c h

numbers_pass : (ns : List ℕ) → list_all is_number (map (λ n. token.Number n) ns) ≡ true
numbers_pass [] = refl
numbers_pass (n ∷ ns) = numbers_pass ns

numbers_back : (ns : List ℕ) → map number_in (map (λ n. token.Number n) ns) ≡ ns
numbers_back [] = refl
numbers_back (n ∷ ns) = ap (λ (xs : List ℕ). n ∷ xs) (numbers_back ns)

picks_read : (ns : List ℕ) → is_filled ns ≡ true → picks_written (map (λ n. token.Number n) ns) ≡ Some (Picked ns)
picks_read [] h = absurd (let z : ⊥ = cc in z)
picks_read (n ∷ ns) h =
    ap (λ b. cond b (Some (Picked (n ∷ map number_in (map (λ m. token.Number m) ns)))) None) (numbers_pass ns)
    ∙ ap (λ (xs : List ℕ). Some (Picked (n ∷ xs))) (numbers_back ns)

-- a line of the language is read from the tokens that spell it
pub written_read : (w : Written) → is_written w ≡ true → read_written (written_tokens w) ≡ Some w
written_read (Plain form) h = plain_read form h
written_read (Picked ns) h = by_first keyword.Picks (map (λ n. token.Number n) ns) ∙ picks_read ns h
written_read (Single k t) h = head_read k t h
written_read (Calling kind into a b c) h = call_read kind into a b c h
