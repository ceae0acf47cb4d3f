-- What is below an object, by its parent.
use Rattle.std.proofs.Common.{◌==◌, ◌&&◌, ◌||◌, Bool, true, false, sym, ◌≡◌, ◌≢◌, ℕ, zero, suc, ◌+◌, ◌<◌, ◌≤◌, List, [], ◌∷◌, ◌++◌, length, refl, ap, ◌∙◌, arith}
use Rattle.std.specs.Prelude.{nat_lt}
use Rattle.std.proofs.lemmas.Bool.{lt-ltb, ltb-true, ltb-false, ne_eqb}
use Rattle.std.proofs.lemmas.List.{length_push}
use Rattle.wdf_model.specs.Tables.{entry}
use Rattle.wdf_model.specs.declared.entries.Node.{Node}
use Rattle.wdf_model.specs.parts.Tree.{Tree, below_marks, gone, is_below, parent_of}
use Rattle.wdf_model.proofs.Maps.{entry_before, entry_last, entry_past}

-- what was marked stays
front_marks : (o : ℕ) (before : List Bool) (ns : List Node) (x : ℕ) → x < length before → entry false (below_marks o before ns) x ≡ entry false before x
front_marks o before [] x h = refl
front_marks o before (n ∷ ns) x h =
    let one = n.parent.0 == o || entry false before n.parent.0 in
    let more = length_push before one in
    front_marks o (before ++ one ∷ []) ns x (omega arith) ∙ entry_before false before one x (omega arith)

-- what is marked before a place, read from all marks
marks_before : (o : ℕ) (before : List Bool) (ns : List Node) (p : ℕ)
    → entry false before p ≡ (nat_lt p (length before) && entry false (below_marks o before ns) p)
marks_before o before ns p = by_place (nat_lt p (length before)) refl
  where
    by_place : (b : Bool) → nat_lt p (length before) ≡ b → entry false before p ≡ (nat_lt p (length before) && entry false (below_marks o before ns) p)
    by_place true e = rw e (sym (front_marks o before ns p (ltb-true p (length before) e)))
    by_place false e = rw e (entry_past false before p (ltb-false p (length before) e))

mark_at : (o : ℕ) (before : List Bool) (ns : List Node) (j x : ℕ) → x ≡ length before + j → j < length ns
    → entry false (below_marks o before ns) x ≡ ((entry gone ns j).parent.0 == o || (nat_lt (entry gone ns j).parent.0 x && entry false (below_marks o before ns) (entry gone ns j).parent.0))
mark_at o before [] j x e h = absurd (omega arith)
mark_at o before (n ∷ ns) zero x e h =
    let one = n.parent.0 == o || entry false before n.parent.0 in
    let more = length_push before one in
    let place : x ≡ length before = omega arith in
    rw place (
    front_marks o (before ++ one ∷ []) ns (length before) (omega arith)
    ∙ entry_last false before one
    ∙ ap (λ b. n.parent.0 == o || b) (marks_before o before (n ∷ ns) n.parent.0))
mark_at o before (n ∷ ns) (suc j) x e h =
    let one = n.parent.0 == o || entry false before n.parent.0 in
    let more = length_push before one in
    mark_at o (before ++ one ∷ []) ns j x (omega arith) (omega arith)

-- what is below an object: its child, or what has a parent below it that came before
pub below_by_parent : (T : Tree) (o x : ℕ) → x < length T.nodes
    → is_below T o x ≡ (parent_of T x == o || (nat_lt (parent_of T x) x && is_below T o (parent_of T x)))
below_by_parent T o x h = mark_at o [] T.nodes x x (omega arith) h

marks_length : (o : ℕ) (before : List Bool) (ns : List Node) → length (below_marks o before ns) ≡ length before + length ns
marks_length o before [] = omega arith
marks_length o before (n ∷ ns) =
    let one = n.parent.0 == o || entry false before n.parent.0 in
    let rest = marks_length o (before ++ one ∷ []) ns in
    let more = length_push before one in
    omega arith

-- what was never made is below nothing
pub none_below_past : (T : Tree) (o x : ℕ) → length T.nodes ≤ x → is_below T o x ≡ false
none_below_past T o x h = entry_past false (below_marks o [] T.nodes) x (let e = marks_length o [] T.nodes in omega arith)

-- one step up
pub below_goes_up : (T : Tree) (o x p : ℕ) → x < length T.nodes → p ≡ parent_of T x → p ≢ o → p < x → is_below T o p ≡ is_below T o x
below_goes_up T o x p h e other before =
    sym (below_by_parent T o x h ∙ rw (← e) (rw (ne_eqb p o other, lt-ltb p x before) refl))
