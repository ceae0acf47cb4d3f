-- The lines of a callback spell a tree.
use Rattle.std.proofs.Common.{◌≡◌, ◌⊎◌, inl, inr, ℕ, zero, suc, ◌+◌, Bool, true, List, [], ◌∷◌, ◌++◌, map, drop, Some, None, slice_get, refl, ap, sym, subst, ◌∙◌, append_assoc}
use Rattle.std.specs.Prelude.{◌==◌}
use Rattle.std.specs.Option.{is_none}
use Rattle.std.proofs.lemmas.Bool.{and_parts}
use Rattle.wdf_base.specs.declared.call.Callback.{Callback}
use Rattle.wdf_scene.specs.declared.block.Block.{Block}
use Rattle.wdf_scene.specs.declared.block.Block.TheVariants as block
use Rattle.wdf_scene.specs.declared.line.NumberedLine.{NumberedLine}
use Rattle.wdf_scene.specs.declared.line.SceneLine.{SceneLine}
use Rattle.wdf_scene.specs.declared.line.SceneLine.TheVariants as line
use Rattle.wdf_scene.specs.declared.scene.Scene.{Scene}
use Rattle.wdf_scene.specs.Blocks.{Position, front, moved, is_outside, innermost, in_callback, in_if, blocks_after, may_stand}
use Rattle.wdf_scene.specs.Written.{IsScene, Written, Plain, Picked, WrittenLine, lines_at, line_at, picks_in, written_size}
use Rattle.wdf_blocks.specs.Forms.{opens, is_end, is_statement}
use Rattle.wdf_plan.specs.Scripts.{statements_from, statements_of}
use Rattle.wdf_blocks.specs.Variables.{variables}
use Rattle.wdf_refusals.proofs.Every.{Every}
use Rattle.wdf_refusals.proofs.Heads.{form_of, Ends, stood, HasHead, scene_head}
use Rattle.wdf_plan.specs.Flow as tree
use Rattle.wdf_plan.specs.Flow.{Body, Empty, If, IfElse, Repeat, HasTree, is_plain, lines_of, numbered}
use Rattle.wdf_plan.proofs.Flows.{statements_flow}

-- ---- only `picks` picks

-- a line that picks nothing where it isn't `picks`
abbrev PicksNothing : NumberedLine → Type 0
PicksNothing l = (l.form ≡ line.Picks → ⊥) → l.picks ≡ []

nothing_picked : (base : ℕ) (w : Written) → (line_at base w ≡ line.Picks → ⊥) → picks_in w ≡ []
nothing_picked base (Picked ns) h = absurd (h refl)
nothing_picked base _ h = refl

picks_nothing : (base : ℕ) (ws : List WrittenLine) → Every PicksNothing (lines_at base ws)
picks_nothing base [] = tt
picks_nothing base (w ∷ ws) = (nothing_picked base w.written, picks_nothing (base + written_size w.written) ws)

-- a line is all that its number and its form say
is_numbered : (l : NumberedLine) (form : SceneLine) → l.form ≡ form → (form ≡ line.Picks → ⊥) → PicksNothing l → l ≡ numbered l.number form
is_numbered l form e other h =
    let none' : l.picks ≡ [] = h (λ z. other (sym e ∙ z)) in
    ap (λ (f : SceneLine). record { number = l.number; form = f; picks = l.picks }) e ∙ ap (λ ps. record { number = l.number; form = form; picks = ps }) none'

-- ---- trees from one line on

-- a body, its `end`, and lines of which something is known
record IsEnded (ls : List NumberedLine) (Behind : List NumberedLine → Type 0) : Type 0 where
  body : Body
  closing : ℕ
  rest : List NumberedLine
  is : ls ≡ lines_of body ++ numbered closing line.End ∷ rest
  behind : Behind rest

-- a first branch, its `else`, and lines of which something is known
record IsParted (ls : List NumberedLine) (Behind : List NumberedLine → Type 0) : Type 0 where
  body : Body
  middle : ℕ
  rest : List NumberedLine
  is : ls ≡ lines_of body ++ numbered middle line.Else ∷ rest
  behind : Behind rest

-- the lines from one on, where these blocks are open, innermost first: a body and the `end` or `else` for each, up to the callback
abbrev AreBodies : List Block → List NumberedLine → Type 0
AreBodies [] ls = ⊥
AreBodies (block.On ∷ bs) ls = IsEnded ls (λ rest. Unit {0})
AreBodies (block.If ∷ bs) ls = IsEnded ls (AreBodies bs) ⊎ IsParted ls (λ rest. IsEnded rest (AreBodies bs))
AreBodies (block.Else ∷ bs) ls = IsEnded ls (AreBodies bs)
AreBodies (block.Repeat ∷ bs) ls = IsEnded ls (AreBodies bs)
AreBodies (b ∷ bs) ls = ⊥

-- these blocks are open, innermost first: some of a callback's, and the callback
abbrev AreInside : List Block → Type 0
AreInside [] = ⊥
AreInside (block.On ∷ bs) = Unit {0}
AreInside (block.If ∷ bs) = AreInside bs
AreInside (block.Else ∷ bs) = AreInside bs
AreInside (block.Repeat ∷ bs) = AreInside bs
AreInside (b ∷ bs) = ⊥

-- ---- a statement more

-- one callback's lines: the body gets a statement in front, which stands for the lines from `ls` to `rest`
ended_before : (f : Body → Body) (ls rest : List NumberedLine) → ((body : Body) (more : List NumberedLine) → rest ≡ lines_of body ++ more → ls ≡ lines_of (f body) ++ more) → (P : List NumberedLine → Type 0) → IsEnded rest P → IsEnded ls P
ended_before f ls rest spelled P h =
    record { body = f h.body; closing = h.closing; rest = h.rest; is = spelled h.body _ h.is; behind = h.behind }

-- the innermost body gets this statement in front
before : (f : Body → Body) (ls rest : List NumberedLine) → ((body : Body) (more : List NumberedLine) → rest ≡ lines_of body ++ more → ls ≡ lines_of (f body) ++ more) → (bs : List Block) → AreBodies bs rest → AreBodies bs ls
before f ls rest spelled [] h = absurd h
before f ls rest spelled (block.On ∷ bs) h = ended_before f ls rest spelled _ h
before f ls rest spelled (block.If ∷ bs) (inl h) = inl (ended_before f ls rest spelled _ h)
before f ls rest spelled (block.If ∷ bs) (inr h) =
    inr (record { body = f h.body; middle = h.middle; rest = h.rest; is = spelled h.body _ h.is; behind = h.behind })
before f ls rest spelled (block.Else ∷ bs) h = ended_before f ls rest spelled _ h
before f ls rest spelled (block.Repeat ∷ bs) h = ended_before f ls rest spelled _ h
before f ls rest spelled (_ ∷ bs) h = absurd h

-- a block's body, the line after it, and then the lines of a body
joined : (xs zs more ls rest : List NumberedLine) (l : NumberedLine) → ls ≡ xs ++ l ∷ rest → rest ≡ zs ++ more → ls ≡ (xs ++ l ∷ zs) ++ more
joined xs zs more ls rest l e f = e ∙ (ap (λ ys. xs ++ l ∷ ys) f ∙ sym (append_assoc xs (l ∷ zs) more))

in_front : (l m : NumberedLine) (ls rest : List NumberedLine) → l ≡ m → ls ≡ rest → l ∷ ls ≡ m ∷ rest
in_front l m ls rest e f = rw (e, f) refl

plain_line : (bs : List Block) (l : NumberedLine) (ls : List NumberedLine) → is_plain l.form ≡ true → AreBodies bs ls → AreBodies bs (l ∷ ls)
unfolding lines_of
plain_line bs l ls e h = before (tree.Plain l e) (l ∷ ls) ls (λ body more is. ap (λ xs. l ∷ xs) is) bs h

repeat_line : (bs : List Block) (l : NumberedLine) (e : ℕ) (ls : List NumberedLine) → l ≡ numbered l.number (line.Repeat e) → AreBodies (block.Repeat ∷ bs) ls → AreBodies bs (l ∷ ls)
unfolding lines_of
repeat_line bs l e ls own h =
    before (Repeat (record { line = l.number; expression = e }) h.body h.closing) (l ∷ ls) h.rest (λ body more is. in_front l (numbered l.number (line.Repeat e)) ls _ own (joined (lines_of h.body) (lines_of body) more ls h.rest (numbered h.closing line.End) h.is is)) bs h.behind

if_line : (bs : List Block) (l : NumberedLine) (e : ℕ) (ls : List NumberedLine) → l ≡ numbered l.number (line.If e) → AreBodies (block.If ∷ bs) ls → AreBodies bs (l ∷ ls)
unfolding lines_of
if_line bs l e ls own (inl h) =
    before (If (record { line = l.number; expression = e }) h.body h.closing) (l ∷ ls) h.rest (λ body more is. in_front l (numbered l.number (line.If e)) ls _ own (joined (lines_of h.body) (lines_of body) more ls h.rest (numbered h.closing line.End) h.is is)) bs h.behind
if_line bs l e ls own (inr h) =
    let second = h.behind in
    before (IfElse (record { line = l.number; expression = e }) h.body h.middle second.body second.closing) (l ∷ ls) second.rest (λ body more is. in_front l (numbered l.number (line.If e)) ls _ own (joined (lines_of h.body) (lines_of second.body ++ numbered second.closing line.End ∷ lines_of body) more ls h.rest (numbered h.middle line.Else) h.is (joined (lines_of second.body) (lines_of body) more h.rest second.rest (numbered second.closing line.End) second.is is))) bs second.behind

-- ---- an `end` or an `else`

ended : (l : NumberedLine) (ls : List NumberedLine) (P : List NumberedLine → Type 0) → l ≡ numbered l.number line.End → P ls → IsEnded (l ∷ ls) P
unfolding lines_of
ended l ls P own h =
    record { body = Empty; closing = l.number; rest = ls; is = ap (λ x. x ∷ ls) own; behind = h }

end_line : (bs : List Block) (l : NumberedLine) (ls : List NumberedLine) → l ≡ numbered l.number line.End → AreInside bs → (AreInside (drop 1 bs) → AreBodies (drop 1 bs) ls) → AreBodies bs (l ∷ ls)
end_line [] l ls own inside h = absurd inside
end_line (block.On ∷ bs) l ls own inside h = ended l ls _ own tt
end_line (block.If ∷ bs) l ls own inside h = inl (ended l ls _ own (h inside))
end_line (block.Else ∷ bs) l ls own inside h = ended l ls _ own (h inside)
end_line (block.Repeat ∷ bs) l ls own inside h = ended l ls _ own (h inside)
end_line (_ ∷ bs) l ls own inside h = absurd inside

else_line : (bs : List Block) (l : NumberedLine) (ls : List NumberedLine) → l ≡ numbered l.number line.Else → AreInside bs → in_if (innermost bs) ≡ true → (AreInside (block.Else ∷ drop 1 bs) → AreBodies (block.Else ∷ drop 1 bs) ls) → AreBodies bs (l ∷ ls)
unfolding lines_of
else_line [] l ls own inside e h = absurd inside
else_line (block.If ∷ bs) l ls own inside e h =
    inr (record { body = Empty; middle = l.number; rest = ls; is = ap (λ x. x ∷ ls) own; behind = h inside })
else_line (_ ∷ bs) l ls own inside e h = absurd (let z : ⊥ = cc in z)

-- ---- a line of a callback

-- the line may be where these blocks of a callback are open
abbrev may_be : List Block → SceneLine → Bool
may_be bs line.End = true
may_be bs line.Else = in_if (innermost bs)
may_be bs form = is_statement form

tree_line : (bs : List Block) (l : NumberedLine) (form : SceneLine) (ls : List NumberedLine) → l.form ≡ form → AreInside bs → PicksNothing l → may_be bs form ≡ true → (AreInside (blocks_after bs form) → AreBodies (blocks_after bs form) ls) → AreBodies bs (l ∷ ls)
unfolding is_statement opens
tree_line bs l line.End ls e inside picks may h =
    end_line bs l ls (is_numbered l line.End e (λ z. cc) picks) inside h
tree_line bs l line.Else ls e inside picks may h =
    else_line bs l ls (is_numbered l line.Else e (λ z. cc) picks) inside may h
tree_line bs l (line.If x) ls e inside picks may h =
    if_line bs l x ls (is_numbered l (line.If x) e (λ z. cc) picks) (h inside)
tree_line bs l (line.Repeat x) ls e inside picks may h =
    repeat_line bs l x ls (is_numbered l (line.Repeat x) e (λ z. cc) picks) (h inside)
tree_line bs l (line.Let x y) ls e inside picks may h = plain_line bs l ls (rw e refl) (h inside)
tree_line bs l (line.Call k into a b c) ls e inside picks may h = plain_line bs l ls (rw e refl) (h inside)
tree_line bs l (line.Get x r) ls e inside picks may h = plain_line bs l ls (rw e refl) (h inside)
tree_line bs l (line.Put r y) ls e inside picks may h = plain_line bs l ls (rw e refl) (h inside)
tree_line bs l (line.Spend y) ls e inside picks may h = plain_line bs l ls (rw e refl) (h inside)
tree_line bs l (line.Log y) ls e inside picks may h = plain_line bs l ls (rw e refl) (h inside)
tree_line bs l (line.Return y) ls e inside picks may h = plain_line bs l ls (rw e refl) (h inside)
tree_line bs l _ ls e inside picks may h = absurd (let z : ⊥ = cc in z)

-- after the first three lines a callback's lines are statements, `else` and `end`
form_in : (v : ℕ) (d p o : Bool) (b : Block) (bs : List Block) (form : SceneLine) → in_callback (Some b) ≡ true → may_stand (record { version = v; headers = 3; blocks = b ∷ bs; driver = d; pnp = p; order = o }) form ≡ true → may_be (b ∷ bs) form ≡ true
unfolding is_statement
form_in v d p o b bs line.End h e = refl
form_in v d p o b bs line.Else h e = e
form_in v d p o b bs (line.If x) h e = refl
form_in v d p o b bs (line.Repeat x) h e = refl
form_in v d p o b bs (line.Let x y) h e = refl
form_in v d p o b bs (line.Call k into x y z) h e = refl
form_in v d p o b bs (line.Get x r) h e = refl
form_in v d p o b bs (line.Put r y) h e = refl
form_in v d p o b bs (line.Spend y) h e = refl
form_in v d p o b bs (line.Log y) h e = refl
form_in v d p o b bs (line.Return y) h e = refl
form_in v d p o block.On bs (line.Scope None) h e = absurd (let z : ⊥ = cc in z)
form_in v d p o block.On bs (line.Scope (Some s)) h e = absurd (let z : ⊥ = cc in z)
form_in v d p o block.On bs (line.Level None) h e = absurd (let z : ⊥ = cc in z)
form_in v d p o block.On bs (line.Level (Some s)) h e = absurd (let z : ⊥ = cc in z)
form_in v d p o block.On bs _ h e = absurd (let z : ⊥ = cc in z)
form_in v d p o block.If bs (line.Scope None) h e = absurd (let z : ⊥ = cc in z)
form_in v d p o block.If bs (line.Scope (Some s)) h e = absurd (let z : ⊥ = cc in z)
form_in v d p o block.If bs (line.Level None) h e = absurd (let z : ⊥ = cc in z)
form_in v d p o block.If bs (line.Level (Some s)) h e = absurd (let z : ⊥ = cc in z)
form_in v d p o block.If bs _ h e = absurd (let z : ⊥ = cc in z)
form_in v d p o block.Else bs (line.Scope None) h e = absurd (let z : ⊥ = cc in z)
form_in v d p o block.Else bs (line.Scope (Some s)) h e = absurd (let z : ⊥ = cc in z)
form_in v d p o block.Else bs (line.Level None) h e = absurd (let z : ⊥ = cc in z)
form_in v d p o block.Else bs (line.Level (Some s)) h e = absurd (let z : ⊥ = cc in z)
form_in v d p o block.Else bs _ h e = absurd (let z : ⊥ = cc in z)
form_in v d p o block.Repeat bs (line.Scope None) h e = absurd (let z : ⊥ = cc in z)
form_in v d p o block.Repeat bs (line.Scope (Some s)) h e = absurd (let z : ⊥ = cc in z)
form_in v d p o block.Repeat bs (line.Level None) h e = absurd (let z : ⊥ = cc in z)
form_in v d p o block.Repeat bs (line.Level (Some s)) h e = absurd (let z : ⊥ = cc in z)
form_in v d p o block.Repeat bs _ h e = absurd (let z : ⊥ = cc in z)
form_in v d p o _ bs form h e = absurd (let z : ⊥ = cc in z)

-- ---- the callbacks of a scene

inside_callback : (b : Block) (bs : List Block) → AreInside (b ∷ bs) → in_callback (Some b) ≡ true
inside_callback block.On bs h = refl
inside_callback block.If bs h = refl
inside_callback block.Else bs h = refl
inside_callback block.Repeat bs h = refl
inside_callback _ bs h = absurd h

form_of_callback : (q : Position) (bs : List Block) (form : SceneLine) → q.blocks ≡ bs → q.headers ≡ 3 → AreInside bs → may_stand q form ≡ true → may_be bs form ≡ true
form_of_callback q [] form is seen inside may = absurd inside
form_of_callback q (b ∷ bs) form is seen inside may =
    let same : q ≡ record { version = q.version; headers = 3; blocks = b ∷ bs; driver = q.driver; pnp = q.pnp; order = q.order } =
    ap (λ (n : ℕ). record q { headers = n }) seen ∙ ap (λ (xs : List Block). record q { headers = 3; blocks = xs }) is in
    form_in q.version q.driver q.pnp q.order b bs form (inside_callback b bs inside) (subst (λ r. may_stand r form ≡ true) same may)

-- the first three lines stay after
still_after : (q : Position) (form : SceneLine) → q.headers ≡ 3 → may_stand q form ≡ true → (moved q form).headers ≡ 3
still_after q (line.Cpus n) seen may = absurd (let no' : (3 == 0) ≡ true = subst (λ h. (h == 0) ≡ true) seen may in let z : ⊥ = cc in z)
still_after q (line.Limit n) seen may = absurd (let no' : (3 == 1) ≡ true = subst (λ h. (h == 1) ≡ true) seen may in let z : ⊥ = cc in z)
still_after q (line.Objects n) seen may = absurd (let no' : (3 == 2) ≡ true = subst (λ h. (h == 2) ≡ true) seen may in let z : ⊥ = cc in z)
still_after q _ seen may = seen

not_outside : (q : Position) (bs : List Block) → q.blocks ≡ bs → AreInside bs → is_outside q ≡ true → ⊥
not_outside q [] is inside e = inside
not_outside q (b ∷ bs) is inside e =
    let none' : is_none (innermost q.blocks) ≡ true = (and_parts (q.headers == 3) (is_none (innermost q.blocks)) e).1 in
    let no' : is_none (Some b) ≡ true = subst (λ xs. is_none (innermost xs) ≡ true) is none' in
    let z : ⊥ = cc in z

bodies_from : (q : Position) (ls : List NumberedLine) → q.headers ≡ 3 → AreInside q.blocks → Every PicksNothing ls → Ends q (map form_of ls) → AreBodies q.blocks ls
bodies_from q [] seen inside picks ends = absurd (not_outside q q.blocks refl inside ends)
bodies_from q (l ∷ ls) seen inside picks ends =
    let st = stood q l.form (map form_of ls) (may_stand q l.form) refl ends in
    tree_line q.blocks l l.form ls refl inside picks.0 (form_of_callback q q.blocks l.form refl seen inside st.0) (λ h. bodies_from (moved q l.form) ls (still_after q l.form seen st.0) h picks.1 st.1)

begun : (q : Position) (form : SceneLine) (c : Callback) (ls : List NumberedLine) → q.headers ≡ 3 → form ≡ line.On c → Every PicksNothing ls → Ends (moved q form) (map form_of ls) → IsEnded ls (λ rest. Unit {0})
begun q form c ls seen e picks ends =
    let on : Ends (moved q (line.On c)) (map form_of ls) = rw e at ends in
    bodies_from (moved q (line.On c)) ls seen tt picks on

callback_tree : (q : Position) (ls : List NumberedLine) (k : ℕ) (l : NumberedLine) (c : Callback) → q.headers ≡ 3 → Every PicksNothing ls → Ends q (map form_of ls) → slice_get ls k ≡ Some l → l.form ≡ line.On c → IsEnded (drop (suc k) ls) (λ rest. Unit {0})
callback_tree q [] k l c seen picks ends is on = absurd (let z : ⊥ = cc in z)
callback_tree q (x ∷ ls) zero l c seen picks ends is on =
    let st = stood q x.form (map form_of ls) (may_stand q x.form) refl ends in
    let same : x ≡ l = cc in
    begun q x.form c ls seen (ap form_of same ∙ on) picks.1 st.1
callback_tree q (x ∷ ls) (suc k) l c seen picks ends is on =
    let st = stood q x.form (map form_of ls) (may_stand q x.form) refl ends in
    callback_tree (moved q x.form) ls k l c (still_after q x.form seen st.0) picks.1 st.1 is on

-- one of the first three lines begins no callback
no_header : (l m : NumberedLine) (form : SceneLine) (c : Callback) → Some m ≡ Some l → m.form ≡ form → (form ≡ line.On c → ⊥) → l.form ≡ line.On c → ⊥
no_header l m form c e is other on = let same : m ≡ l = cc in other (sym is ∙ (ap form_of same ∙ on))

scene_tree : (v : ℕ) (lines : List NumberedLine) (h : HasHead v lines) (k : ℕ) (l : NumberedLine) (c : Callback) → Every PicksNothing (h.first ∷ h.second ∷ h.third ∷ h.rest) → slice_get (h.first ∷ h.second ∷ h.third ∷ h.rest) k ≡ Some l → l.form ≡ line.On c → IsEnded (drop (suc k) (h.first ∷ h.second ∷ h.third ∷ h.rest)) (λ rest. Unit {0})
scene_tree v lines h zero l c picks is on = absurd (no_header l h.first (line.Cpus h.cpus) c is h.is_cpus (λ z. cc) on)
scene_tree v lines h (suc zero) l c picks is on = absurd (no_header l h.second (line.Limit h.limit) c is h.is_limit (λ z. cc) on)
scene_tree v lines h (suc (suc zero)) l c picks is on = absurd (no_header l h.third (line.Objects h.objects) c is h.is_objects (λ z. cc) on)
scene_tree v lines h (suc (suc (suc k))) l c picks is on =
    callback_tree (moved (moved (moved (front v) (line.Cpus h.cpus)) (line.Limit h.limit)) (line.Objects h.objects)) h.rest k l c refl picks.1.1.1 h.then is on

pub has_tree : (scene : Scene) → IsScene scene → (k : ℕ) (l : NumberedLine) (c : Callback) → slice_get scene.lines k ≡ Some l → l.form ≡ line.On c → HasTree scene k
unfolding statements_of is_end
has_tree scene s k l c is on =
    let h = scene_head scene s in
    let lines : lines_at 0 s.ws ≡ scene.lines = ap (λ (x : Scene). x.lines) (sym s.is) in
    let picks = subst (Every PicksNothing) (lines ∙ h.are) (picks_nothing 0 s.ws) in
    let tree = subst (λ ls. IsEnded (drop (suc k) ls) (λ rest. Unit {0})) (sym h.are) (scene_tree scene.version scene.lines h k l c picks (subst (λ ls. slice_get ls k ≡ Some l) h.are is) on) in
    record {
      body = tree.body;
      closing = tree.closing;
      lines_after = tree.rest;
      spelled = tree.is;
      statements = λ names. ap (λ ls. statements_from names (variables scene k) [] 0 ls) tree.is ∙ statements_flow names (variables scene k) tree.body (numbered tree.closing line.End) tree.rest refl;
    }
