-- The children of an object, by the list of all objects.
use Rattle.std.proofs.Common.{◌==◌, ◌&&◌, ◌||◌, not, Bool, true, false, sym, ◌≡◌, ◌≢◌, ℕ, zero, suc, ◌+◌, ◌<◌, List, [], ◌∷◌, length, drop, filter, refl, ap, ◌∙◌, arith}
use Rattle.std.specs.Prelude.{nat_lt}
use Rattle.std.specs.List.{list_all, range_with_len}
use Rattle.std.proofs.lemmas.Bool.{eq-eqb, false≢true, lt-ltb, le-ltb, ne_eqb}
use Rattle.wdf_base.specs.declared.object.Life.{Life}
use Rattle.wdf_base.specs.declared.object.Life.TheVariants as life
use Rattle.wdf_base.specs.Lives.{is_asked, is_gone, is_past_cleanup}
use Rattle.wdf_ilist.specs.Family.{last_of}
use Rattle.wdf_model.specs.Tables.{entry, ids_of, same_id}
use Rattle.wdf_model.specs.declared.entries.Node.{Node}
use Rattle.wdf_model.specs.parts.Tree.{Tree, children, gone, is_child, life_of, parent_of, younger_siblings}
use Rattle.wdf_tree.specs.Kin.{is_kin, is_left, is_waiting, places}
use Rattle.wdf_tree.proofs.Kin.{last_place, no_places, places_by_ids}

-- a child of this parent, if it is one, has been cleaned up, or is gone
abbrev is_clean_under : ℕ → Node → Bool
is_clean_under parent n = not (n.parent.0 == parent) || is_past_cleanup n.life

abbrev pub is_gone_under : ℕ → Node → Bool
is_gone_under parent n = not (n.parent.0 == parent) || is_gone n.life

-- ---- lists

pub all_same : {T : Type 0} (p q : T → Bool) → ((x : T) → p x ≡ q x) → (xs : List T) → list_all p xs ≡ list_all q xs
all_same p q e [] = refl
all_same p q e (x ∷ xs) = rw (e x, all_same p q e xs) refl

all_of_filter : {T : Type 0} (p q : T → Bool) (xs : List T) → list_all p (filter q xs) ≡ list_all (λ x. not (q x) || p x) xs
all_of_filter p q [] = refl
all_of_filter {T} p q (x ∷ xs) = by_test (q x) refl (all_of_filter p q xs)
  where
    by_test : (b : Bool) → q x ≡ b → list_all p (filter q xs) ≡ list_all (λ y. not (q y) || p y) xs → list_all p (filter q (x ∷ xs)) ≡ list_all (λ y. not (q y) || p y) (x ∷ xs)
    by_test true e rest = rw (e, rest) refl
    by_test false e rest = rw (e, rest) refl

none_of_filter : {T : Type 0} (q : T → Bool) (xs : List T) → (length (filter q xs) == 0) ≡ list_all (λ x. not (q x)) xs
none_of_filter q [] = refl
none_of_filter {T} q (x ∷ xs) = by_test (q x) refl (none_of_filter q xs)
  where
    by_test : (b : Bool) → q x ≡ b → (length (filter q xs) == 0) ≡ list_all (λ y. not (q y)) xs → (length (filter q (x ∷ xs)) == 0) ≡ list_all (λ y. not (q y)) (x ∷ xs)
    by_test true e rest = rw e (let some : suc (length (filter q xs)) ≢ 0 = omega arith in ne_eqb (suc (length (filter q xs))) 0 some)
    by_test false e rest = rw e rest

-- ---- by ids

-- what holds of the entry of each id
all_ids : (p : Node → Bool) (all ns : List Node) (k : ℕ) → ((j : ℕ) → entry gone all (k + j) ≡ entry gone ns j)
    → list_all (λ x. p (entry gone all x)) (range_with_len k (length ns)) ≡ list_all p ns
all_ids p all [] k e = refl
all_ids p all (n ∷ ns) k e =
    let here : entry gone all k ≡ n = ap (entry gone all) (omega arith) ∙ e 0 in
    let rest = all_ids p all ns (k + 1) (λ j. ap (entry gone all) (omega arith) ∙ e (suc j)) in
    rw (here, rest) refl

-- what holds of the entry of each id above another
all_ids_above : (p : Node → Bool) (all ns : List Node) (o k : ℕ) → o < k → ((j : ℕ) → entry gone all (k + j) ≡ entry gone ns j)
    → list_all (λ x. not (nat_lt o x) || p (entry gone all x)) (range_with_len k (length ns)) ≡ list_all p ns
all_ids_above p all [] o k h e = refl
all_ids_above p all (n ∷ ns) o k h e =
    let here : entry gone all k ≡ n = ap (entry gone all) (omega arith) ∙ e 0 in
    let above : nat_lt o k ≡ true = lt-ltb o k h in
    let rest = all_ids_above p all ns o (k + 1) (omega arith) (λ j. ap (entry gone all) (omega arith) ∙ e (suc j)) in
    rw (here, above, rest) refl

all_ids_after : (p : Node → Bool) (all ns : List Node) (o k j : ℕ) → suc o ≡ k + j → ((i : ℕ) → entry gone all (k + i) ≡ entry gone ns i)
    → list_all (λ x. not (nat_lt o x) || p (entry gone all x)) (range_with_len k (length ns)) ≡ list_all p (drop j ns)
all_ids_after p all ns o k zero h e = all_ids_above p all ns o k (omega arith) e
all_ids_after p all [] o k (suc j) h e = refl
all_ids_after p all (n ∷ ns) o k (suc j) h e =
    let below : nat_lt o k ≡ false = le-ltb o k (omega arith) in
    rw below (all_ids_after p all ns o (k + 1) j (omega arith) (λ i. ap (entry gone all) (omega arith) ∙ e (suc i)))

-- ---- children

clean_or_gone : (b : Bool) (l : Life) → (not (b && not (is_gone l)) || is_past_cleanup l) ≡ (not b || is_past_cleanup l)
clean_or_gone false l = refl
clean_or_gone true life.Live = refl
clean_or_gone true life.Asked = refl
clean_or_gone true life.Cleaned = refl
clean_or_gone true life.Gone = refl

pub no_child_or_gone : (b c : Bool) → not (b && not c) ≡ (not b || c)
no_child_or_gone false c = refl
no_child_or_gone true false = refl
no_child_or_gone true true = refl

pub same_place : (ns : List Node) (j : ℕ) → entry gone ns (0 + j) ≡ entry gone ns j
same_place ns j = ap (entry gone ns) (omega arith)

all_clean : (T : Tree) (o : ℕ) → list_all (is_clean_under o) T.nodes ≡ list_all (λ x. is_past_cleanup (life_of T x)) (children T o)
all_clean T o = sym (
    all_of_filter (λ x. is_past_cleanup (life_of T x)) (is_child T o) (ids_of T.nodes)
    ∙ all_same (λ x. not (is_child T o x) || is_past_cleanup (life_of T x)) (λ x. is_clean_under o (entry gone T.nodes x)) (λ x. clean_or_gone (parent_of T x == o) (life_of T x)) (ids_of T.nodes)
    ∙ all_ids (is_clean_under o) T.nodes T.nodes 0 (same_place T.nodes))

pub all_gone : (T : Tree) (o : ℕ) → list_all (is_gone_under o) T.nodes ≡ (length (children T o) == 0)
all_gone T o = sym (
    none_of_filter (is_child T o) (ids_of T.nodes)
    ∙ all_same (λ x. not (is_child T o x)) (λ x. is_gone_under o (entry gone T.nodes x)) (λ x. no_child_or_gone (parent_of T x == o) (is_gone (life_of T x))) (ids_of T.nodes)
    ∙ all_ids (is_gone_under o) T.nodes T.nodes 0 (same_place T.nodes))

all_younger_clean : (T : Tree) (o : ℕ) → list_all (is_clean_under (parent_of T o)) (drop (o + 1) T.nodes) ≡ list_all (λ x. is_past_cleanup (life_of T x)) (younger_siblings T o)
all_younger_clean T o =
    let p = parent_of T o in
    sym (
    all_of_filter (λ x. is_past_cleanup (life_of T x)) (nat_lt o) (children T p)
    ∙ all_of_filter (λ x. not (nat_lt o x) || is_past_cleanup (life_of T x)) (is_child T p) (ids_of T.nodes)
    ∙ all_same (λ x. not (is_child T p x) || (not (nat_lt o x) || is_past_cleanup (life_of T x))) (λ x. not (nat_lt o x) || is_clean_under p (entry gone T.nodes x))
    (λ x. swapped (not (is_child T p x)) (not (nat_lt o x)) (is_past_cleanup (life_of T x)) ∙ ap (λ b. not (nat_lt o x) || b) (clean_or_gone (parent_of T x == p) (life_of T x)))
    (ids_of T.nodes)
    ∙ all_ids_after (is_clean_under p) T.nodes T.nodes o 0 (o + 1) (omega arith) (same_place T.nodes))
  where
    swapped : (a b c : Bool) → (a || (b || c)) ≡ (b || (a || c))
    swapped true true c = refl
    swapped true false c = refl
    swapped false true c = refl
    swapped false false c = refl

-- ---- by families

pub left_children : (T : Tree) (o : ℕ) → places (is_kin is_left o) 0 T.nodes ≡ children T o
left_children T o = sym (places_by_ids (is_kin is_left o) T.nodes T.nodes 0 (same_place T.nodes))

pub no_waiting_child : (T : Tree) (o : ℕ) → (length (places (is_kin is_waiting o) 0 T.nodes) == 0) ≡ list_all (λ x. is_past_cleanup (life_of T x)) (children T o)
no_waiting_child T o =
    no_places (is_kin is_waiting o) 0 T.nodes
    ∙ all_same (λ n. not (is_kin is_waiting o n)) (is_clean_under o) (λ n. no_child_or_gone (n.parent.0 == o) (is_past_cleanup n.life)) T.nodes
    ∙ all_clean T o

asked_waits : (l : Life) → is_asked l ≡ true → is_waiting l ≡ true
asked_waits life.Live h = refl
asked_waits life.Asked h = refl
asked_waits life.Cleaned h = absurd (false≢true h)
asked_waits life.Gone h = absurd (false≢true h)

-- where an object waits, its younger siblings are clean exactly where it is the last that waits
pub last_waiting : (T : Tree) (o : ℕ) → o < length T.nodes → is_asked (life_of T o) ≡ true
    → same_id (last_of (places (is_kin is_waiting (parent_of T o)) 0 T.nodes)) o ≡ list_all (λ x. is_past_cleanup (life_of T x)) (younger_siblings T o)
last_waiting T o there asked =
    let p = is_kin is_waiting (parent_of T o) in
    let mine : p (entry gone T.nodes o) ≡ true = rw (eq-eqb (parent_of T o) (parent_of T o) refl) (asked_waits (life_of T o) asked) in
    let next : suc o ≡ o + 1 = omega arith in
    last_place p o 0 T.nodes o (omega arith) there mine
    ∙ all_same (λ n. not (p n)) (is_clean_under (parent_of T o)) (λ n. no_child_or_gone (n.parent.0 == parent_of T o) (is_past_cleanup n.life)) (drop (suc o) T.nodes)
    ∙ ap (λ k. list_all (is_clean_under (parent_of T o)) (drop k T.nodes)) next
    ∙ all_younger_clean T o
