-- What is below an object, and what a deletion leaves alone.
use Rattle.std.proofs.Common.{if◌then◌else◌, ◌≡◌, ◌≢◌, ℕ, zero, suc, ◌+◌, ◌==◌, ◌<◌, ◌≤◌, Bool, true, false, ◌&&◌, ◌||◌, List, [], ◌∷◌, ◌++◌, ◌⊎◌, inl, inr, length, filter, fold, refl, sym, ap, ◌∙◌, arith, length-append}
use Rattle.std.specs.List.{range_with_len}
use Rattle.std.proofs.lemmas.Bool.{cases_Bool, eqb-true, or_cases}
use Rattle.wdf_model.specs.declared.entries.Node.{Node}
use Rattle.wdf_model.specs.Tables.{contains, entry}
use Rattle.wdf_base.specs.declared.object.Life.TheVariants as life
use Rattle.wdf_base.specs.Lives.{is_live}
use Rattle.wdf_model.specs.parts.Tree.{Tree, below_marks, gone, life_of, node_of, parent_of, subtree, with_life}
use Rattle.wdf_model.specs.State.{State}
use Rattle.wdf_model.specs.rules.Deeds.{ask_object}
use Rattle.wdf_model.proofs.Tests.{both_left, both_right, first, second}
use Rattle.wdf_model.proofs.Maps.{entry_before, entry_last, entry_put_other, entry_put_same}
use Rattle.wdf_model.proofs.Counts.{equal, not_equal, one_or_two}
use Rattle.law_machine_base.proofs.Deletion.{object_live, object_off}
use Rattle.law_machine_lives.proofs.Queued.{any_filtered, any_none}
use Rattle.law_machine_lives.proofs.Choices.{or_not}

-- ---- the marks of what is below an object

marks_stay : (o : ℕ) (before : List Bool) (ns : List Node) (j : ℕ) → j < length before → entry false (below_marks o before ns) j ≡ entry false before j
marks_stay o before [] j h = refl
marks_stay o before (n ∷ ns) j h =
    let b : Bool = n.parent.0 == o || entry false before n.parent.0 in
    let more = length-append before (b ∷ []) in
    marks_stay o (before ++ b ∷ []) ns j (omega arith) ∙ entry_before false before b j (λ e. let z : ⊥ = omega arith in z)

marks_at : (o : ℕ) (before : List Bool) (ns : List Node) (i : ℕ) → i < length ns → (entry gone ns i).parent.0 < length before + i
    → entry false (below_marks o before ns) (length before + i) ≡ ((entry gone ns i).parent.0 == o || entry false (below_marks o before ns) (entry gone ns i).parent.0)
marks_at o before [] i within h = absurd (omega arith)
marks_at o before (n ∷ ns) zero within h =
    let b : Bool = n.parent.0 == o || entry false before n.parent.0 in
    let more = length-append before (b ∷ []) in
    let at : length before + 0 ≡ length before = omega arith in
    let stays : entry false (below_marks o before (n ∷ ns)) n.parent.0 ≡ entry false before n.parent.0 = marks_stay o before (n ∷ ns) n.parent.0 (omega arith) in
    rw at (marks_stay o (before ++ b ∷ []) ns (length before) (omega arith) ∙ entry_last false before b ∙ ap (λ c. n.parent.0 == o || c) (sym stays))
marks_at o before (n ∷ ns) (suc i) within h =
    let b : Bool = n.parent.0 == o || entry false before n.parent.0 in
    let more = length-append before (b ∷ []) in
    let at : length before + suc i ≡ length (before ++ b ∷ []) + i = omega arith in
    rw at (marks_at o (before ++ b ∷ []) ns i (omega arith) (omega arith))

abbrev pub is_asked_with : Tree → ℕ → ℕ → Bool
is_asked_with T o x = x == o || entry false (below_marks o [] T.nodes) x

marked_by : (T : Tree) (o x : ℕ) → x < length T.nodes → parent_of T x < x → entry false (below_marks o [] T.nodes) x ≡ is_asked_with T o (parent_of T x)
marked_by T o x within older =
    let nil : List Bool = [] in
    let start : length nil + x ≡ x = omega arith in
    sym (ap (entry false (below_marks o [] T.nodes)) start) ∙ marks_at o nil T.nodes x within (omega arith)

-- the first id is marked only by its own parent
marked_first : (o : ℕ) (ns : List Node) → entry false (below_marks o [] ns) 0 ≡ true → (entry gone ns 0).parent.0 ≡ o
marked_first o [] h = absurd (let z : ⊥ = cc in z)
marked_first o (n ∷ ns) h =
    let b : Bool = n.parent.0 == o || entry false [] n.parent.0 in
    let was : entry false (below_marks o [] (n ∷ ns)) 0 ≡ b = marks_stay o (b ∷ []) ns 0 (omega arith) in
    let now : b ≡ true = sym was ∙ h in
    elim (or_cases (n.parent.0 == o) (entry false [] n.parent.0) now) [
      | inl e ↦ eqb-true n.parent.0 o e
      | inr e ↦ absurd (none n.parent.0 e)
    ]
  where
    none : (i : ℕ) → entry false [] i ≡ true → ⊥
    none i e = let z : ⊥ = cc in z

-- an object whose parent is in a subtree is in it
pub asked_below : (T : Tree) (o x : ℕ) → x < length T.nodes → parent_of T x < x → is_asked_with T o (parent_of T x) ≡ true → is_asked_with T o x ≡ true
asked_below T o x within older h = second (x == o) (entry false (below_marks o [] T.nodes) x) (marked_by T o x within older ∙ h)

kept_by_first : (q : ℕ → Bool) (x a : ℕ) (ids : List ℕ) (b : Bool) → q a ≡ b → (a ≡ x) ⊎ (a ≢ x) → q x ≡ true → (a ≢ x → contains x (filter q ids) ≡ true) → contains x (if b then a ∷ filter q ids else filter q ids) ≡ true
kept_by_first q x a ids true e (inl same) h rest = first (a == x) (contains x (filter q ids)) (equal a x same)
kept_by_first q x a ids true e (inr other) h rest = second (a == x) (contains x (filter q ids)) (rest other)
kept_by_first q x a ids false e (inl same) h rest = absurd (let off : q x ≡ false = sym (ap q same) ∙ e in let z : ⊥ = cc in z)
kept_by_first q x a ids false e (inr other) h rest = rest other

pub kept_there : (q : ℕ → Bool) (x a n : ℕ) → a ≤ x → x < a + n → q x ≡ true → contains x (filter q (range_with_len a n)) ≡ true
kept_there q x a zero low high h = absurd (omega arith)
kept_there q x a (suc n) low high h = kept_by_first q x a (range_with_len (a + 1) n) (q a) refl (one_or_two a x) h (λ other. kept_there q x (a + 1) n (omega arith) (omega arith) h)

pub passes : (q : ℕ → Bool) (x : ℕ) (ids : List ℕ) → contains x (filter q ids) ≡ true → q x ≡ true
passes q x ids h = elim (cases_Bool (q x)) [
  | inl e ↦ e
  | inr e ↦ absurd (any_none (λ y. (y == x) && q y) ids
      (λ y f. let same : y ≡ x = eqb-true y x (both_left (y == x) (q y) f) in let on : q y ≡ true = both_right (y == x) (q y) f in let off : q y ≡ false = ap q same ∙ e in let z : ⊥ = cc in z)
      (any_filtered (λ y. y == x) q ids h))
]

-- what is in a subtree, beside its top, has its parent there
pub parent_in : (T : Tree) (o x : ℕ) → x < length T.nodes → parent_of T x < x → contains x (subtree T o) ≡ true → x ≢ o → contains (parent_of T x) (subtree T o) ≡ true
parent_in T o x within older h n =
    let in_ : is_asked_with T o x ≡ true = passes (is_asked_with T o) x (range_with_len 0 (length T.nodes)) h in
    let marked : entry false (below_marks o [] T.nodes) x ≡ true = elim (or_cases (x == o) (entry false (below_marks o [] T.nodes) x) in_) [
      | inl e ↦ absurd (n (eqb-true x o e))
      | inr e ↦ e
    ] in
    kept_there (is_asked_with T o) (parent_of T x) 0 (length T.nodes) (omega arith) (omega arith) (sym (marked_by T o x within older) ∙ marked)

-- the first id is in no subtree but its own, and that of its parent
pub first_out : (T : Tree) (o : ℕ) → parent_of T 0 ≡ 0 → o ≢ 0 → contains 0 (subtree T o) ≡ true → ⊥
first_out T o top n h =
    elim (or_cases (0 == o) (entry false (below_marks o [] T.nodes) 0) (passes (is_asked_with T o) 0 (range_with_len 0 (length T.nodes)) h)) as (λ _. ⊥) [
      | inl e ↦ n (sym (eqb-true 0 o e))
      | inr e ↦ n (sym (marked_first o T.nodes e) ∙ top)
    ]

-- ---- a deletion is asked

off_then : {A : Type 0} (S : State A) (x : ℕ) (b : Bool) → is_live (life_of S.tree x) ≡ b → is_live (life_of (ask_object S x).tree x) ≡ false
off_then S x true h = rw (object_live S x h) (ap (λ (n : Node). is_live n.life) (entry_put_same gone S.tree.nodes x (with_life life.Asked (node_of S.tree x))))
off_then S x false h = rw (object_off S x h) h

others_then : {A : Type 0} (S : State A) (x y : ℕ) (b : Bool) → is_live (life_of S.tree x) ≡ b → y ≢ x → node_of (ask_object S x).tree y ≡ node_of S.tree y
others_then S x y true h n = rw (object_live S x h) (entry_put_other gone S.tree.nodes x y (with_life life.Asked (node_of S.tree x)) n)
others_then S x y false h n = rw (object_off S x h) refl

not_first : (x y : ℕ) (xs : List ℕ) → contains y (x ∷ xs) ≡ false → (y ≢ x) × (contains y xs ≡ false)
not_first x y xs h = elim (cases_Bool (x == y)) [
  | inl e ↦ absurd (let k : contains y (x ∷ xs) ≡ true = first (x == y) (contains y xs) e in let z : ⊥ = cc in z)
  | inr e ↦ ((λ same. let k : (x == y) ≡ true = equal x y (sym same) in let z : ⊥ = cc in z), rest (contains y xs) refl)
]
  where
    rest : (b : Bool) → contains y xs ≡ b → b ≡ false
    rest true e = absurd (let k : contains y (x ∷ xs) ≡ true = second (x == y) (contains y xs) e in let z : ⊥ = cc in z)
    rest false e = refl

-- what isn't asked stays
pub unasked_stays : {A : Type 0} (xs : List ℕ) (S : State A) (y : ℕ) → contains y xs ≡ false → node_of (fold ask_object S xs).tree y ≡ node_of S.tree y
unasked_stays [] S y h = refl
unasked_stays (x ∷ xs) S y h = let k = not_first x y xs h in unasked_stays xs (ask_object S x) y k.1 ∙ others_then S x y (is_live (life_of S.tree x)) refl k.0

-- what is live still wasn't asked
pub live_unasked : {A : Type 0} (xs : List ℕ) (S : State A) (y : ℕ) → is_live (life_of (fold ask_object S xs).tree y) ≡ true → (contains y xs ≡ false) × (node_of (fold ask_object S xs).tree y ≡ node_of S.tree y)
live_unasked [] S y h = (refl, refl)
live_unasked (x ∷ xs) S y h =
    let k = live_unasked xs (ask_object S x) y h in
    let n : y ≢ x = λ e. (
    let off : is_live (life_of (ask_object S x).tree y) ≡ false = ap (λ z. is_live (life_of (ask_object S x).tree z)) e ∙ off_then S x (is_live (life_of S.tree x)) refl in
    let on : is_live (life_of (ask_object S x).tree y) ≡ true = sym (ap (λ (m : Node). is_live m.life) k.1) ∙ h in
    let z : ⊥ = cc in z) in
    (or_not (x == y) (contains y xs) (not_equal x y (λ e. n (sym e))) k.0, k.1 ∙ others_then S x y (is_live (life_of S.tree x)) refl n)
