-- The least of rising ids, and the least that has to go before an object.
use Rattle.std.proofs.Common.{◌==◌, ◌&&◌, not, Bool, true, false, sym, ◌≡◌, ◌≢◌, ℕ, zero, suc, ◌+◌, ◌<◌, ◌≤◌, List, [], ◌∷◌, ◌++◌, length, filter, fold, Some, refl, ap, ◌∙◌, arith, subst}
use Rattle.std.specs.Prelude.{nat_lt, nat_le}
use Rattle.std.proofs.lemmas.Bool.{and_from, and_parts, eq-eqb, eqb-true, false≢true, le-leb, le-ltb, leb-true, lt-ltb, ne_eqb}
use Rattle.std.proofs.lemmas.List.{append-nil}
use Rattle.std.proofs.lemmas.List.Elements.{filter-append}
use Rattle.wdf_base.specs.Same.{same_kind}
use Rattle.wdf_base.specs.declared.object.Kind.TheVariants as kind
use Rattle.wdf_base.specs.declared.object.Life.{Life}
use Rattle.wdf_base.specs.declared.object.Life.TheVariants as life
use Rattle.wdf_base.specs.Lives.{is_asked, is_cleaned, is_gone, is_past_cleanup}
use Rattle.wdf_ilist.specs.Family.{Family, after_on, first_of, list_of}
use Rattle.wdf_ilist.proofs.Lists.{list_of_first}
use Rattle.wdf_maps.specs.Least.{lesser_if}
use Rattle.wdf_maps.proofs.Leasts.{least_append}
use Rattle.wdf_model.specs.Tables.{entry, ids_of, least, lesser}
use Rattle.wdf_model.specs.declared.entries.Node.{Node}
use Rattle.wdf_model.specs.declared.room.TheConstants.{OBJECTS}
use Rattle.wdf_model.specs.parts.Tree.{Tree, children, gone, is_child, life_of, parent_of, younger_siblings}
use Rattle.wdf_tree.specs.GoFirst.{go_first}
use Rattle.wdf_tree.specs.Inside.{EndsAlone, ends_alone}
use Rattle.wdf_tree.specs.Kin.{HoldsKin, is_kin, is_waiting, places, is_left}
use Rattle.wdf_tree.proofs.Children.{same_place, left_children}
use Rattle.wdf_tree.proofs.Kept.{all_of_entry, asked_stands}
use Rattle.wdf_tree.proofs.Kin.{on_places, place_on, places_by_ids}

-- ---- rising ids

-- rising ids from a bound on
abbrev rises : ℕ → List ℕ → Bool
rises k [] = true
rises k (x ∷ xs) = nat_le k x && rises (x + 1) xs

rises_from : (k j : ℕ) (xs : List ℕ) → k ≤ j → rises j xs ≡ true → rises k xs ≡ true
rises_from k j [] h e = refl
rises_from k j (x ∷ xs) h e =
    let both = and_parts (nat_le j x) (rises (x + 1) xs) e in
    let up : j ≤ x = leb-true j x both.0 in
    and_from (nat_le k x) (rises (x + 1) xs) (le-leb k x (omega arith)) both.1

places_rise : (p : Node → Bool) (k : ℕ) (ns : List Node) → rises k (places p k ns) ≡ true
places_rise p k [] = refl
places_rise p k (n ∷ ns) = by_test (p n) refl (places_rise p (k + 1) ns)
  where
    by_test : (b : Bool) → p n ≡ b → rises (k + 1) (places p (k + 1) ns) ≡ true → rises k (places p k (n ∷ ns)) ≡ true
    by_test true e rest = rw e (and_from (nat_le k k) (rises (k + 1) (places p (k + 1) ns)) (le-leb k k (omega arith)) rest)
    by_test false e rest = rw e (rises_from k (k + 1) (places p (k + 1) ns) (omega arith) rest)

filter_rises : (q : ℕ → Bool) (k : ℕ) (xs : List ℕ) → rises k xs ≡ true → rises k (filter q xs) ≡ true
filter_rises q k [] e = refl
filter_rises q k (x ∷ xs) e =
    let both = and_parts (nat_le k x) (rises (x + 1) xs) e in
    by_test (q x) refl both.0 (leb-true k x both.0) (filter_rises q (x + 1) xs both.1)
  where
    by_test : (b : Bool) → q x ≡ b → nat_le k x ≡ true → k ≤ x → rises (x + 1) (filter q xs) ≡ true → rises k (filter q (x ∷ xs)) ≡ true
    by_test true t one h rest = rw t (and_from (nat_le k x) (rises (x + 1) (filter q xs)) one rest)
    by_test false t one h rest = rw t (rises_from k (x + 1) (filter q xs) (omega arith) rest)

-- a number below them all stays the least
fold_rising : (a k : ℕ) (xs : List ℕ) → a ≤ k → rises k xs ≡ true → fold lesser (Some a) xs ≡ Some a
fold_rising a k [] h e = refl
fold_rising a k (x ∷ xs) h e =
    let both = and_parts (nat_le k x) (rises (x + 1) xs) e in
    let up : k ≤ x = leb-true k x both.0 in
    rw (le-leb a x (omega arith)) (fold_rising a (x + 1) xs (omega arith) both.1)

pub least_rising : (k : ℕ) (xs : List ℕ) → rises k xs ≡ true → least xs ≡ first_of xs
least_rising k [] e = refl
least_rising k (x ∷ xs) e = fold_rising x (x + 1) xs (omega arith) (and_parts (nat_le k x) (rises (x + 1) xs) e).1

pub least_of_two : (k j : ℕ) (xs ys : List ℕ) → rises k xs ≡ true → rises j ys ≡ true → least (xs ++ ys) ≡ lesser_if (first_of xs) (first_of ys)
least_of_two k j xs ys e f = least_append xs ys ∙ ap (λ found. lesser_if found (least ys)) (least_rising k xs e) ∙ ap (lesser_if (first_of xs)) (least_rising j ys f)

-- ---- the waiting children of an object

filter_of_filter : (p q r : ℕ → Bool) → ((x : ℕ) → (q x && p x) ≡ r x) → (xs : List ℕ) → filter p (filter q xs) ≡ filter r xs
filter_of_filter p q r e [] = refl
filter_of_filter p q r e (x ∷ xs) = by_test (q x) refl (e x) (filter_of_filter p q r e xs)
  where
    by_pass : (c : Bool) → p x ≡ c → q x ≡ true → (true && c) ≡ r x → filter p (filter q xs) ≡ filter r xs → filter p (filter q (x ∷ xs)) ≡ filter r (x ∷ xs)
    by_pass true f g same rest = rw (g, f, sym same) (ap (λ ys. x ∷ ys) rest)
    by_pass false f g same rest = rw (g, f, sym same) rest

    by_test : (b : Bool) → q x ≡ b → (q x && p x) ≡ r x → filter p (filter q xs) ≡ filter r xs → filter p (filter q (x ∷ xs)) ≡ filter r (x ∷ xs)
    by_test true f same rest = by_pass (p x) refl f (rw f at same) rest
    by_test false f same rest = let g : r x ≡ false = sym same ∙ rw f refl in rw (f, g) rest

left_and_waiting : (b : Bool) (l : Life) → ((b && not (is_gone l)) && not (is_past_cleanup l)) ≡ (b && not (is_past_cleanup l))
left_and_waiting false l = refl
left_and_waiting true life.Live = refl
left_and_waiting true life.Asked = refl
left_and_waiting true life.Cleaned = refl
left_and_waiting true life.Gone = refl

waiting_children : (T : Tree) (o : ℕ) → filter (λ x. not (is_past_cleanup (life_of T x))) (children T o) ≡ places (is_kin is_waiting o) 0 T.nodes
waiting_children T o =
    filter_of_filter (λ x. not (is_past_cleanup (life_of T x))) (is_child T o) (λ x. is_kin is_waiting o (entry gone T.nodes x))
    (λ x. left_and_waiting (parent_of T x == o) (life_of T x)) (ids_of T.nodes)
    ∙ places_by_ids (is_kin is_waiting o) T.nodes T.nodes 0 (same_place T.nodes)

swapped : (p q : ℕ → Bool) (xs : List ℕ) → filter p (filter q xs) ≡ filter q (filter p xs)
swapped p q xs = filter_of_filter p q (λ x. q x && p x) (λ x. refl) xs ∙ sym (filter_of_filter q p (λ x. q x && p x) (λ x. either (p x) (q x)) xs)
  where
    either : (a b : Bool) → (a && b) ≡ (b && a)
    either true true = refl
    either true false = refl
    either false true = refl
    either false false = refl

waiting_siblings : (T : Tree) (o : ℕ) → filter (λ x. not (is_past_cleanup (life_of T x))) (younger_siblings T o) ≡ filter (nat_lt o) (places (is_kin is_waiting (parent_of T o)) 0 T.nodes)
waiting_siblings T o =
    swapped (λ x. not (is_past_cleanup (life_of T x))) (nat_lt o) (children T (parent_of T o))
    ∙ ap (filter (nat_lt o)) (waiting_children T (parent_of T o))

-- ---- the item after one on a list of places

later_places : (p : Node → Bool) (o k : ℕ) (ns : List Node) → o < k → filter (nat_lt o) (places p k ns) ≡ places p k ns
later_places p o k [] h = refl
later_places p o k (n ∷ ns) h = by_test (p n) refl (later_places p o (k + 1) ns (omega arith))
  where
    by_test : (b : Bool) → p n ≡ b → filter (nat_lt o) (places p (k + 1) ns) ≡ places p (k + 1) ns → filter (nat_lt o) (places p k (n ∷ ns)) ≡ places p k (n ∷ ns)
    by_test true e rest = rw (e, lt-ltb o k h) (ap (λ xs. k ∷ xs) rest)
    by_test false e rest = rw e rest

after_places : (p : Node → Bool) (k : ℕ) (ns : List Node) (o x : ℕ) → x ≡ k + o → o < length ns → p (entry gone ns o) ≡ true
    → after_on x (places p k ns) ≡ first_of (filter (nat_lt x) (places p k ns))
after_places p k [] o x e h t = absurd (omega arith)
after_places p k (n ∷ ns) zero x e h t =
    let here : k ≡ x = omega arith in
    let itself : nat_lt x x ≡ false = le-ltb x x (omega arith) in
    let more : filter (nat_lt x) (places p (x + 1) ns) ≡ places p (x + 1) ns = later_places p x (x + 1) ns (omega arith) in
    ap (λ xs. after_on x xs) (place_on p k n ns t) ∙ rw (here, eq-eqb x x refl) (ap first_of (sym more) ∙ sym (ap (λ xs. first_of (filter (nat_lt x) xs)) (place_on p x n ns t) ∙ rw itself refl))
after_places p k (n ∷ ns) (suc o) x e h t = by_test (p n) refl (after_places p (k + 1) ns o x (omega arith) (omega arith) t)
  where
    by_test : (b : Bool) → p n ≡ b → after_on x (places p (k + 1) ns) ≡ first_of (filter (nat_lt x) (places p (k + 1) ns))
        → after_on x (places p k (n ∷ ns)) ≡ first_of (filter (nat_lt x) (places p k (n ∷ ns)))
    by_test true f rest = let other : k ≢ x = omega arith in let under : nat_lt x k ≡ false = le-ltb x k (omega arith) in rw (f, ne_eqb k x other, under) rest
    by_test false f rest = rw f rest

-- the list of a waiting object is that of its parent
pub list_of_waiting : (ns : List Node) (family : Family) (o parent : ℕ) → HoldsKin is_waiting ns family → o < length ns → length ns ≤ OBJECTS → parent < OBJECTS
    → parent ≡ (entry gone ns o).parent.0 → is_waiting (entry gone ns o).life ≡ true → list_of o family.lists ≡ Some parent
list_of_waiting ns family o parent h there few known mine waits =
    list_of_first o family.lists parent
    (rw (h.kin parent known) (on_places (is_kin is_waiting parent) 0 ns o o (omega arith) there ∙ rw (← mine, eq-eqb parent parent refl) waits))
    (λ q before.
    let below : q < OBJECTS = omega arith in
    let other : parent ≢ q = omega arith in
    rw (h.kin q below) (on_places (is_kin is_waiting q) 0 ns o o (omega arith) there ∙ rw (← mine, ne_eqb parent q other) refl))

-- ---- what goes first

pub first_left : (T : Tree) (o : ℕ) → is_cleaned (life_of T o) ≡ true → least (go_first T o) ≡ first_of (places (is_kin is_left o) 0 T.nodes)
first_left T o cleaned =
    rw cleaned (ap least (sym (left_children T o)) ∙ least_rising 0 (places (is_kin is_left o) 0 T.nodes) (places_rise (is_kin is_left o) 0 T.nodes))

pub first_child : (T : Tree) (o : ℕ) → is_cleaned (life_of T o) ≡ false → is_asked (life_of T (parent_of T o)) ≡ false
    → least (go_first T o) ≡ first_of (places (is_kin is_waiting o) 0 T.nodes)
first_child T o cleaned asked =
    rw (cleaned, asked) (
    ap (λ xs. least (filter (λ x. not (is_past_cleanup (life_of T x))) xs)) (append-nil (children T o))
    ∙ ap least (waiting_children T o)
    ∙ least_rising 0 (places (is_kin is_waiting o) 0 T.nodes) (places_rise (is_kin is_waiting o) 0 T.nodes))

pub first_of_both : (T : Tree) (o : ℕ) → is_cleaned (life_of T o) ≡ false → is_asked (life_of T (parent_of T o)) ≡ true → is_waiting (life_of T o) ≡ true → o < length T.nodes
    → least (go_first T o) ≡ lesser_if (first_of (places (is_kin is_waiting o) 0 T.nodes)) (after_on o (places (is_kin is_waiting (parent_of T o)) 0 T.nodes))
first_of_both T o cleaned asked waits there =
    let mine = places (is_kin is_waiting o) 0 T.nodes in
    let ours = places (is_kin is_waiting (parent_of T o)) 0 T.nodes in
    let passes : is_kin is_waiting (parent_of T o) (entry gone T.nodes o) ≡ true = rw (eq-eqb (parent_of T o) (parent_of T o) refl) waits in
    rw (cleaned, asked) (
    ap least (
    filter-append (λ x. not (is_past_cleanup (life_of T x))) (children T o) (younger_siblings T o)
    ∙ ap (λ xs. xs ++ filter (λ x. not (is_past_cleanup (life_of T x))) (younger_siblings T o)) (waiting_children T o)
    ∙ ap (λ xs. mine ++ xs) (waiting_siblings T o))
    ∙ least_of_two 0 0 mine (filter (nat_lt o) ours) (places_rise (is_kin is_waiting o) 0 T.nodes) (filter_rises (nat_lt o) 0 ours (places_rise (is_kin is_waiting (parent_of T o)) 0 T.nodes))
    ∙ ap (lesser_if (first_of mine)) (sym (after_places (is_kin is_waiting (parent_of T o)) 0 T.nodes o o (omega arith) there passes)))

-- what is under a parent that was asked, and isn't cleaned up, waits
pub waits_under_asked : (ns : List Node) (o : ℕ) → EndsAlone ns → o < length ns → is_cleaned (entry gone ns o).life ≡ false
    → is_asked (entry gone ns (entry gone ns o).parent.0).life ≡ true → is_waiting (entry gone ns o).life ≡ true
waits_under_asked ns o ends there cleaned asked = by_life (entry gone ns o).life refl cleaned
  where
    placeless : is_gone (entry gone ns o).life ≡ true → ⊥
    placeless gone_too =
        let alone = rw gone_too at (all_of_entry ends_alone gone ns o refl ends.alone) in
        let root : (entry gone ns o).parent.0 ≡ 0 = eqb-true (entry gone ns o).parent.0 0 (and_parts ((entry gone ns o).parent.0 == 0) (not (same_kind (entry gone ns o).kind kind.Device)) alone).0 in
        let off : is_asked (entry gone ns 0).life ≡ true = subst (λ q. is_asked (entry gone ns q).life ≡ true) root asked in
        let on = asked_stands (entry gone ns 0).life off in
        false≢true (sym on ∙ ends.none)

    by_life : (l : Life) → (entry gone ns o).life ≡ l → is_cleaned l ≡ false → is_waiting l ≡ true
    by_life life.Live e f = refl
    by_life life.Asked e f = refl
    by_life life.Cleaned e f = absurd (false≢true (sym f))
    by_life life.Gone e f = absurd (placeless (ap is_gone e))
