-- A line that is read is spelled by its tokens.
use Rattle.std.proofs.Common.{◌≡◌, ℕ, zero, suc, ◌≤◌, Bool, true, false, ◌&&◌, nat_le, List, [], ◌∷◌, drop, map, Option, Some, None, option_map, cond, refl, ap, ◌∙◌, subst, arith}
use Rattle.std.proofs.lemmas.Bool.{le-leb}
use Rattle.std.specs.Option.{is_none}
use Rattle.std.specs.List.{list_all}
use Rattle.wdf_base.specs.declared.call.CallKind.{CallKind}
use Rattle.wdf_base.specs.declared.script.ContextWord.{ContextWord}
use Rattle.wdf_base.specs.declared.script.Operator.{Operator}
use Rattle.wdf_base.specs.declared.signature.Sort.{Sort}
use Rattle.wdf_base.specs.declared.signature.Sort.TheVariants as sort
use Rattle.wdf_base.specs.declared.value.Status.{Status}
use Rattle.wdf_base.specs.Calls.{signature_of}
use Rattle.wdf_base.specs.Words.{status_word, call_word}
use Rattle.wdf_base.proofs.WordLaws.{status-only, call-only}
use Rattle.wdf_base.proofs.Tests.{both, both_right}
use Rattle.wdf_scene.proofs.WordLaws.{context-only}
use Rattle.wdf_scene.specs.Words.{context_word, context_of}
use Rattle.wdf_scene.specs.declared.line.SceneLine.{SceneLine}
use Rattle.wdf_scene.specs.declared.line.StatementHead.{StatementHead}
use Rattle.wdf_scene.specs.declared.line.StatementHead.TheVariants as head
use Rattle.wdf_scene.specs.Written.{Atom, Number, Named, Tree, Leaf, Node, Argument, Missing, Valued, OfClass, Written, Plain, Picked, Single, Calling, depth, is_proper_atom, is_proper, is_argument, is_written}
use Rattle.wdf_tokens.specs.declared.keyword.Keyword.{Keyword}
use Rattle.wdf_tokens.specs.declared.keyword.Keyword.TheVariants as keyword
use Rattle.wdf_tokens.specs.declared.token.Token.{Token}
use Rattle.wdf_tokens.specs.declared.token.Token.TheVariants as token
use Rattle.wdf_tokens.specs.Keywords.{keyword_of}
use Rattle.wdf_tokens.specs.Named.{call_named, status_named, context_named}
use Rattle.wdf_tokens.specs.WordTokens.{word}
use Rattle.wdf_tokens.specs.WellFormed.{is_token}
use Rattle.wdf_tokens.proofs.KeywordLaws.{keyword_only}
use Rattle.wdf_scene_lines.specs.Forms.{plain_line}
use Rattle.wdf_scene_lines.specs.Reading.{word_atom, atom_of, first_token, atom_in, operator_in, name_in, is_close, TreeReading, NoTree, TreeBefore, leaf_read, closed_read, right_read, operator_read, left_read, read_tree, whole_tree, let_front, put_front, single_of, single_after, ArgumentReading, NoArgument, ArgumentBefore, valued_read, class_read, read_argument, third_read, second_read, first_read, call_front_of, call_front, call_after, is_number, number_in, picks_written, read_by, read_known, read_written}
use Rattle.wdf_scene_lines.specs.Spelling.{atom_token, tree_then, argument_then, into_then, head_then, written_tokens}
use Rattle.wdf_scene_lines.proofs.FormSoundness.{plain_line_spelled}

status_only : (x : Status) (w : List ℕ) → status_named w ≡ Some x → status_word x ≡ w
unfolding status_named
status_only x w e = status-only x w e

context_only : (x : ContextWord) (w : List ℕ) → context_named w ≡ Some x → context_word x ≡ w
unfolding context_named
context_only x w e = context-only x w e

call_only : (x : CallKind) (w : List ℕ) → call_named w ≡ Some x → call_word x ≡ w
unfolding call_named
call_only x w e = call-only x w e

-- an atom that is read is spelled by its token
record SpellsAtom (t : Token) (a : Atom) : Type 0 where
  token : atom_token a ≡ t
  proper : is_proper_atom a ≡ true

atom_moved : (t : Token) (a b : Atom) → Some a ≡ Some b → SpellsAtom t a → SpellsAtom t b
atom_moved t a b e s = let same : a ≡ b = cc in subst (SpellsAtom t) same s

proper_name : (n : List ℕ) → status_named n ≡ None → context_named n ≡ None → is_proper_atom (Named n) ≡ true
unfolding status_named context_named
proper_name n s c = ap (λ x. is_none x && is_none (context_of n)) s ∙ ap (λ x. is_none x) c

word_atom_spelled : (n : List ℕ) (s : Option Status) (c : Option ContextWord) → status_named n ≡ s → context_named n ≡ c → SpellsAtom (token.Word n) (word_atom n s c)
word_atom_spelled n (Some s) c is_s is_c = record { token = ap (λ w. token.Word w) (status_only s n is_s); proper = refl }
word_atom_spelled n None (Some c) is_s is_c = record { token = ap (λ w. token.Word w) (context_only c n is_c); proper = refl }
word_atom_spelled n None None is_s is_c = record { token = refl; proper = proper_name n is_s is_c }

atom_spelled : (t : Token) (a : Atom) → atom_of t ≡ Some a → SpellsAtom t a
atom_spelled (token.Number n) a e = atom_moved (token.Number n) (Number n) a e (record { token = refl; proper = refl })
atom_spelled (token.Word n) a e = atom_moved (token.Word n) (word_atom n (status_named n) (context_named n)) a e (word_atom_spelled n (status_named n) (context_named n) refl refl)
atom_spelled _ a e = absurd (let z : ⊥ = cc in z)

-- an expression that is read is spelled by its tokens
record SpellsTree (d : ℕ) (ts : List Token) (t : Tree) (rest : List Token) : Type 0 where
  tokens : tree_then t rest ≡ ts
  shallow : depth t ≤ d
  proper : is_proper t ≡ true

tree_moved : (d : ℕ) (ts : List Token) (t u : Tree) (r s : List Token) → TreeBefore t r ≡ TreeBefore u s → SpellsTree d ts t r → SpellsTree d ts u s
tree_moved d ts t u r s e h =
    let same : t ≡ u = cc in
    let same_rest : r ≡ s = cc in
    subst (λ x. SpellsTree d ts u x) same_rest (subst (λ x. SpellsTree d ts x r) same h)

leaf_spelled : (d : ℕ) (ts : List Token) (a : Option Atom) (t : Tree) (rest : List Token) → atom_in (first_token ts) ≡ a → leaf_read a (drop 1 ts) ≡ TreeBefore t rest → SpellsTree d ts t rest
leaf_spelled d ts None t rest is e = absurd (let z : ⊥ = cc in z)
leaf_spelled d [] (Some a) t rest is e = absurd (let z : ⊥ = cc in z)
leaf_spelled d (x ∷ xs) (Some a) t rest is e =
    let s = atom_spelled x a is in
    tree_moved d (x ∷ xs) (Leaf a) t xs rest e (record { tokens = ap (λ y. y ∷ xs) s.token; shallow = omega arith; proper = s.proper })

-- each expression that is read, where parentheses nest at most so deep, is spelled by its tokens
abbrev AllSpelled : ℕ → Type 0
AllSpelled d = (ts : List Token) (t : Tree) (rest : List Token) → read_tree d ts ≡ TreeBefore t rest → SpellsTree d ts t rest

closed_spelled : (d : ℕ) (op : Operator) (l r t : Tree) (ls rs qs rest : List Token) → SpellsTree d ls l (token.Infix op ∷ rs) → SpellsTree d rs r qs → closed_read (Node op l r) (is_close (first_token qs)) (drop 1 qs) ≡ TreeBefore t rest → SpellsTree (suc d) (token.Open ∷ ls) t rest
closed_spelled d op l r t ls rs (token.Close ∷ qs) rest sl sr e =
    tree_moved (suc d) (token.Open ∷ ls) (Node op l r) t qs rest e (record {
      tokens = ap (λ xs. token.Open ∷ tree_then l (token.Infix op ∷ xs)) sr.tokens ∙ ap (λ xs. token.Open ∷ xs) sl.tokens;
      shallow = omega (arith, sl.shallow, sr.shallow);
      proper = both (is_proper l) (is_proper r) sl.proper sr.proper;
    })
closed_spelled d op l r t ls rs _ rest sl sr e = absurd (let z : ⊥ = cc in z)

right_spelled : (d : ℕ) (op : Operator) (l t : Tree) (ls rs rest : List Token) (reading : TreeReading) → AllSpelled d → read_tree d rs ≡ reading → SpellsTree d ls l (token.Infix op ∷ rs) → right_read l op reading ≡ TreeBefore t rest → SpellsTree (suc d) (token.Open ∷ ls) t rest
right_spelled d op l t ls rs rest NoTree all is sl e = absurd (let z : ⊥ = cc in z)
right_spelled d op l t ls rs rest (TreeBefore r qs) all is sl e = closed_spelled d op l r t ls rs qs rest sl (all rs r qs is) e

operator_spelled : (d : ℕ) (l t : Tree) (ls qs rest : List Token) → AllSpelled d → SpellsTree d ls l qs → operator_read (read_tree d) l (operator_in (first_token qs)) (drop 1 qs) ≡ TreeBefore t rest → SpellsTree (suc d) (token.Open ∷ ls) t rest
operator_spelled d l t ls (token.Infix op ∷ qs) rest all sl e = right_spelled d op l t ls qs rest (read_tree d qs) all refl sl e
operator_spelled d l t ls _ rest all sl e = absurd (let z : ⊥ = cc in z)

left_spelled : (d : ℕ) (t : Tree) (ls rest : List Token) (reading : TreeReading) → AllSpelled d → read_tree d ls ≡ reading → left_read (read_tree d) reading ≡ TreeBefore t rest → SpellsTree (suc d) (token.Open ∷ ls) t rest
left_spelled d t ls rest NoTree all is e = absurd (let z : ⊥ = cc in z)
left_spelled d t ls rest (TreeBefore l qs) all is e = operator_spelled d l t ls qs rest all (all ls l qs is) e

tree_spelled : (d : ℕ) → AllSpelled d
unfolding read_tree
tree_spelled zero ts t rest e = leaf_spelled zero ts (atom_in (first_token ts)) t rest refl e
tree_spelled (suc d) [] t rest e = absurd (let z : ⊥ = cc in z)
tree_spelled (suc d) (token.Open ∷ ls) t rest e = left_spelled d t ls rest (read_tree d ls) (tree_spelled d) refl e
tree_spelled (suc d) (x ∷ ts) t rest e = leaf_spelled (suc d) (x ∷ ts) (atom_in (first_token (x ∷ ts))) t rest refl e

-- a line is spelled by its first word and the tokens after it
pub record SpellsLine (ts : List Token) (w : Written) : Type 0 where
  pub tokens : written_tokens w ≡ ts
  pub written : is_written w ≡ true

line_moved : (ts : List Token) (v w : Written) → Some v ≡ Some w → SpellsLine ts v → SpellsLine ts w
line_moved ts v w e s = let same : v ≡ w = cc in subst (SpellsLine ts) same s

single_spelled : (h : StatementHead) (front ts : List Token) (reading : TreeReading) (w : Written) → head_then h ts ≡ front → read_tree 16 ts ≡ reading → single_of h (whole_tree reading) ≡ Some w → SpellsLine front w
single_spelled h front ts (TreeBefore t []) w is_front is e =
    let s : SpellsTree 16 ts t [] = tree_spelled 16 ts t [] is in
    line_moved front (Single h t) w e (record {
      tokens = ap (head_then h) s.tokens ∙ is_front;
      written = both (is_proper t) (nat_le (depth t) 16) s.proper (le-leb (depth t) 16 s.shallow);
    })
single_spelled h front ts _ w is_front is e = absurd (let z : ⊥ = cc in z)

let_spelled : (ts : List Token) (w : Written) → single_after (let_front ts) ts ≡ Some w → SpellsLine (word keyword.Let ∷ ts) w
let_spelled (token.Word x ∷ token.Assign ∷ ts) w e = single_spelled (head.Let x) (word keyword.Let ∷ token.Word x ∷ token.Assign ∷ ts) ts (read_tree 16 ts) w refl refl e
let_spelled _ w e = absurd (let z : ⊥ = cc in z)

put_spelled : (ts : List Token) (w : Written) → single_after (put_front ts) ts ≡ Some w → SpellsLine (word keyword.Put ∷ ts) w
put_spelled (token.Word r ∷ ts) w e = single_spelled (head.Put r) (word keyword.Put ∷ token.Word r ∷ ts) ts (read_tree 16 ts) w refl refl e
put_spelled _ w e = absurd (let z : ⊥ = cc in z)

-- an argument that is read is spelled by its tokens
record SpellsArgument (s : Sort) (ts : List Token) (a : Argument) (rest : List Token) : Type 0 where
  tokens : argument_then a rest ≡ ts
  fits : is_argument s a ≡ true

argument_moved : (s : Sort) (ts : List Token) (a b : Argument) (q r : List Token) → ArgumentBefore a q ≡ ArgumentBefore b r → SpellsArgument s ts a q → SpellsArgument s ts b r
argument_moved s ts a b q r e h =
    let same : a ≡ b = cc in
    let same_rest : q ≡ r = cc in
    subst (λ x. SpellsArgument s ts b x) same_rest (subst (λ x. SpellsArgument s ts x q) same h)

class_spelled : (k : Sort) (ts : List Token) (a : Argument) (rest : List Token) → ((n : List ℕ) → is_argument k (OfClass n) ≡ true) → class_read (name_in (first_token ts)) (drop 1 ts) ≡ ArgumentBefore a rest → SpellsArgument k ts a rest
class_spelled k (token.Word n ∷ ts) a rest fits e = argument_moved k (token.Word n ∷ ts) (OfClass n) a ts rest e (record { tokens = refl; fits = fits n })
class_spelled k _ a rest fits e = absurd (let z : ⊥ = cc in z)

valued_spelled : (k : Sort) (ts : List Token) (v : Option Atom) (a : Argument) (rest : List Token) → ((x : Atom) → is_argument k (Valued x) ≡ is_proper_atom x) → atom_in (first_token ts) ≡ v → valued_read v (drop 1 ts) ≡ ArgumentBefore a rest → SpellsArgument k ts a rest
valued_spelled k ts None a rest fits is e = absurd (let z : ⊥ = cc in z)
valued_spelled k [] (Some v) a rest fits is e = absurd (let z : ⊥ = cc in z)
valued_spelled k (x ∷ xs) (Some v) a rest fits is e =
    let s = atom_spelled x v is in
    argument_moved k (x ∷ xs) (Valued v) a xs rest e (record { tokens = ap (λ y. y ∷ xs) s.token; fits = fits v ∙ s.proper })

argument_spelled : (k : Sort) (ts : List Token) (a : Argument) (rest : List Token) → read_argument k ts ≡ ArgumentBefore a rest → SpellsArgument k ts a rest
argument_spelled sort.Absent ts a rest e = argument_moved sort.Absent ts Missing a ts rest e (record { tokens = refl; fits = refl })
argument_spelled (sort.Class k) ts a rest e = class_spelled (sort.Class k) ts a rest (λ n. refl) e
argument_spelled sort.AnyObject ts a rest e = valued_spelled sort.AnyObject ts (atom_in (first_token ts)) a rest (λ x. refl) refl e
argument_spelled (sort.ObjectOf k) ts a rest e = valued_spelled (sort.ObjectOf k) ts (atom_in (first_token ts)) a rest (λ x. refl) refl e
argument_spelled sort.AnyRequest ts a rest e = valued_spelled sort.AnyRequest ts (atom_in (first_token ts)) a rest (λ x. refl) refl e
argument_spelled sort.AnyStatus ts a rest e = valued_spelled sort.AnyStatus ts (atom_in (first_token ts)) a rest (λ x. refl) refl e
argument_spelled sort.AnyNumber ts a rest e = valued_spelled sort.AnyNumber ts (atom_in (first_token ts)) a rest (λ x. refl) refl e
argument_spelled (sort.UpTo n) ts a rest e = valued_spelled (sort.UpTo n) ts (atom_in (first_token ts)) a rest (λ x. refl) refl e
argument_spelled sort.AnyValue ts a rest e = valued_spelled sort.AnyValue ts (atom_in (first_token ts)) a rest (λ x. refl) refl e

third_spelled : (kind : CallKind) (into : Option (List ℕ)) (front ts us vs : List Token) (a b : Argument) (reading : ArgumentReading) (w : Written)
    → word keyword.Call ∷ into_then into (token.Word (call_word kind) ∷ ts) ≡ front
    → SpellsArgument (signature_of kind).a ts a us → SpellsArgument (signature_of kind).b us b vs
    → read_argument (signature_of kind).c vs ≡ reading → third_read kind into a b reading ≡ Some w → SpellsLine front w
third_spelled kind into front ts us vs a b (ArgumentBefore c []) w is_front sa sb is e =
    let sc = argument_spelled (signature_of kind).c vs c [] is in
    line_moved front (Calling kind into a b c) w e (record {
      tokens = ap (λ xs. word keyword.Call ∷ into_then into (token.Word (call_word kind) ∷ xs))
          (ap (argument_then a) (ap (argument_then b) sc.tokens ∙ sb.tokens) ∙ sa.tokens) ∙ is_front;
      written = both (is_argument (signature_of kind).a a) (is_argument (signature_of kind).b b && is_argument (signature_of kind).c c) sa.fits
          (both (is_argument (signature_of kind).b b) (is_argument (signature_of kind).c c) sb.fits sc.fits);
    })
third_spelled kind into front ts us vs a b _ w is_front sa sb is e = absurd (let z : ⊥ = cc in z)

second_spelled : (kind : CallKind) (into : Option (List ℕ)) (front ts us : List Token) (a : Argument) (reading : ArgumentReading) (w : Written)
    → word keyword.Call ∷ into_then into (token.Word (call_word kind) ∷ ts) ≡ front
    → SpellsArgument (signature_of kind).a ts a us
    → read_argument (signature_of kind).b us ≡ reading → second_read kind into a reading ≡ Some w → SpellsLine front w
second_spelled kind into front ts us a NoArgument w is_front sa is e = absurd (let z : ⊥ = cc in z)
second_spelled kind into front ts us a (ArgumentBefore b vs) w is_front sa is e =
    third_spelled kind into front ts us vs a b (read_argument (signature_of kind).c vs) w is_front sa (argument_spelled (signature_of kind).b us b vs is) refl e

first_spelled : (kind : CallKind) (into : Option (List ℕ)) (front ts : List Token) (reading : ArgumentReading) (w : Written)
    → word keyword.Call ∷ into_then into (token.Word (call_word kind) ∷ ts) ≡ front
    → read_argument (signature_of kind).a ts ≡ reading → first_read kind into reading ≡ Some w → SpellsLine front w
first_spelled kind into front ts NoArgument w is_front is e = absurd (let z : ⊥ = cc in z)
first_spelled kind into front ts (ArgumentBefore a us) w is_front is e =
    second_spelled kind into front ts us a (read_argument (signature_of kind).b us) w is_front (argument_spelled (signature_of kind).a ts a us is) refl e

fronted_spelled : (name : List ℕ) (kind : Option CallKind) (into : Option (List ℕ)) (n : ℕ) (ts rest : List Token) (w : Written) → call_named name ≡ kind → drop n ts ≡ rest → into_then into (token.Word name ∷ rest) ≡ ts → call_after (call_front_of kind into n) ts ≡ Some w → SpellsLine (word keyword.Call ∷ ts) w
fronted_spelled name None into n ts rest w is behind front e = absurd (let z : ⊥ = cc in z)
fronted_spelled name (Some kind) into n ts rest w is behind front e =
    first_spelled kind into (word keyword.Call ∷ ts) (drop n ts) (read_argument (signature_of kind).a (drop n ts)) w
    (ap (λ xs. word keyword.Call ∷ into_then into (token.Word (call_word kind) ∷ xs)) behind
    ∙ ap (λ x. word keyword.Call ∷ into_then into (token.Word x ∷ rest)) (call_only kind name is)
    ∙ ap (λ xs. word keyword.Call ∷ xs) front)
    refl e

call_spelled : (ts : List Token) (w : Written) → call_after (call_front ts) ts ≡ Some w → SpellsLine (word keyword.Call ∷ ts) w
call_spelled (token.Word x ∷ token.Assign ∷ token.Word f ∷ ts) w e = fronted_spelled f (call_named f) (Some x) 3 (token.Word x ∷ token.Assign ∷ token.Word f ∷ ts) ts w refl refl refl e
call_spelled (token.Word f ∷ ts) w e = fronted_spelled f (call_named f) None 1 (token.Word f ∷ ts) ts w refl refl refl e
call_spelled _ w e = absurd (let z : ⊥ = cc in z)

numbers_spelled : (ts : List Token) → list_all is_number ts ≡ true → map (λ n. token.Number n) (map number_in ts) ≡ ts
numbers_spelled [] h = refl
numbers_spelled (token.Number n ∷ ts) h = ap (λ (xs : List Token). token.Number n ∷ xs) (numbers_spelled ts h)
numbers_spelled (t ∷ ts) h = absurd (let z : ⊥ = cc in z)

picks_by_spelled : (t : Token) (ts : List Token) (b : Bool) (w : Written) → list_all is_number (t ∷ ts) ≡ b → cond b (Some (Picked (map number_in (t ∷ ts)))) None ≡ Some w → SpellsLine (word keyword.Picks ∷ t ∷ ts) w
picks_by_spelled t ts true w is e =
    line_moved (word keyword.Picks ∷ t ∷ ts) (Picked (map number_in (t ∷ ts))) w e (record { tokens = ap (λ xs. word keyword.Picks ∷ xs) (numbers_spelled (t ∷ ts) is); written = refl })
picks_by_spelled t ts false w is e = absurd (let z : ⊥ = cc in z)

picks_spelled : (ts : List Token) (w : Written) → picks_written ts ≡ Some w → SpellsLine (word keyword.Picks ∷ ts) w
picks_spelled [] w e = absurd (let z : ⊥ = cc in z)
picks_spelled (t ∷ ts) w e = picks_by_spelled t ts (list_all is_number (t ∷ ts)) w refl e

plain_spelled : (k : Keyword) (ts : List Token) (form : Option SceneLine) (w : Written) → list_all is_token ts ≡ true → plain_line k ts ≡ form → option_map (λ f. Plain f) form ≡ Some w → SpellsLine (word k ∷ ts) w
plain_spelled k ts None w fit is e = absurd (let z : ⊥ = cc in z)
plain_spelled k ts (Some f) w fit is e =
    let s = plain_line_spelled k ts f fit is in
    line_moved (word k ∷ ts) (Plain f) w e (record { tokens = s.tokens; written = s.plain })

by_spelled : (k : Keyword) (ts : List Token) (w : Written) → list_all is_token ts ≡ true → read_by k ts ≡ Some w → SpellsLine (word k ∷ ts) w
by_spelled keyword.Picks ts w fit e = picks_spelled ts w e
by_spelled keyword.Call ts w fit e = call_spelled ts w e
by_spelled keyword.Let ts w fit e = let_spelled ts w e
by_spelled keyword.Put ts w fit e = put_spelled ts w e
by_spelled keyword.If ts w fit e = single_spelled head.If (word keyword.If ∷ ts) ts (read_tree 16 ts) w refl refl e
by_spelled keyword.Repeat ts w fit e = single_spelled head.Repeat (word keyword.Repeat ∷ ts) ts (read_tree 16 ts) w refl refl e
by_spelled keyword.Spend ts w fit e = single_spelled head.Spend (word keyword.Spend ∷ ts) ts (read_tree 16 ts) w refl refl e
by_spelled keyword.Log ts w fit e = single_spelled head.Log (word keyword.Log ∷ ts) ts (read_tree 16 ts) w refl refl e
by_spelled keyword.Return ts w fit e = single_spelled head.Return (word keyword.Return ∷ ts) ts (read_tree 16 ts) w refl refl e
by_spelled k ts w fit e = plain_spelled k ts (plain_line k ts) w fit refl e

known_spelled : (n : List ℕ) (k : Option Keyword) (ts : List Token) (w : Written) → list_all is_token ts ≡ true → keyword_of n ≡ k → read_known k ts ≡ Some w → SpellsLine (token.Word n ∷ ts) w
known_spelled n None ts w fit is e = absurd (let z : ⊥ = cc in z)
known_spelled n (Some k) ts w fit is e = subst (λ x. SpellsLine (token.Word x ∷ ts) w) (keyword_only k n is) (by_spelled k ts w fit e)

-- a line that is read is spelled by its tokens
pub read_spelled : (ts : List Token) (w : Written) → list_all is_token ts ≡ true → read_written ts ≡ Some w → SpellsLine ts w
unfolding read_written
read_spelled [] w fit e = absurd (let z : ⊥ = cc in z)
read_spelled (token.Word n ∷ ts) w fit e = known_spelled n (keyword_of n) ts w (both_right (is_token (token.Word n)) (list_all is_token ts) fit) refl e
read_spelled (t ∷ ts) w fit e = absurd (let z : ⊥ = cc in z)
