-- The places of the objects that pass a test, and the families that hold them: after an object more,
-- and after a change of one.
use Rattle.std.proofs.Common.{if◌then◌else◌, ◌==◌, not, Bool, true, false, map, sym, ◌≡◌, ◌≢◌, ℕ, zero, suc, ◌+◌, ◌<◌, ◌≤◌, List, [], ◌∷◌, ◌++◌, length, drop, filter, replicate, refl, ap, ◌∙◌, arith, inl, inr, ◌⊎◌}
use Rattle.std.specs.Prelude.{slice_set}
use Rattle.std.specs.List.{list_all, range_with_len}
use Rattle.std.proofs.lemmas.Bool.{and_right, cases_lt, eqb-true, eqb-false, eq-eqb, ne_eqb, lt-ltb, le-ltb}
use Rattle.std.proofs.lemmas.List.{append-nil, length-map, length-replicate, get_or-set_same}
use Rattle.wdf_base.specs.declared.object.Life.{Life}
use Rattle.wdf_ilist.specs.Family.{Family, is_on, is_on_any, last_of, list_at, without}
use Rattle.wdf_ilist.proofs.Items.{without_off}
use Rattle.wdf_ilist.proofs.Lists.{map_at, off_all}
use Rattle.wdf_model.specs.Tables.{entry, same_id}
use Rattle.wdf_model.specs.declared.entries.Node.{Node}
use Rattle.wdf_model.specs.declared.room.TheConstants.{OBJECTS}
use Rattle.wdf_model.specs.parts.Tree.{gone}
use Rattle.wdf_model.proofs.Maps.{entry_past, entry_set_other, as_long}
use Rattle.wdf_tree.specs.Kin.{HoldsKin, is_kin, joined, places}

-- ---- places

-- where a test fails and where it passes
place_off : (p : Node → Bool) (k : ℕ) (n : Node) (ns : List Node) → p n ≡ false → places p k (n ∷ ns) ≡ places p (k + 1) ns
place_off p k n ns e = rw e refl

pub place_on : (p : Node → Bool) (k : ℕ) (n : Node) (ns : List Node) → p n ≡ true → places p k (n ∷ ns) ≡ k ∷ places p (k + 1) ns
place_on p k n ns e = rw e refl

-- an item after which a list's rest is the same
with_head : (b : Bool) (k : ℕ) (xs ys : List ℕ) → xs ≡ ys → (if b then k ∷ xs else xs) ≡ (if b then k ∷ ys else ys)
with_head true k xs ys e = ap (λ zs. k ∷ zs) e
with_head false k xs ys e = e

-- what is past the places isn't on them, nor what comes before
pub off_past : (p : Node → Bool) (k : ℕ) (ns : List Node) (x : ℕ) → k + length ns ≤ x → is_on x (places p k ns) ≡ false
off_past p k [] x h = refl
off_past p k (n ∷ ns) x h = by_test (p n) refl (off_past p (k + 1) ns x (omega arith))
  where
    by_test : (b : Bool) → p n ≡ b → is_on x (places p (k + 1) ns) ≡ false → is_on x (places p k (n ∷ ns)) ≡ false
    by_test true e rest = let other : k ≢ x = omega arith in rw (e, ne_eqb k x other) rest
    by_test false e rest = rw e rest

pub off_before : (p : Node → Bool) (k : ℕ) (ns : List Node) (x : ℕ) → x < k → is_on x (places p k ns) ≡ false
off_before p k [] x h = refl
off_before p k (n ∷ ns) x h = by_test (p n) refl (off_before p (k + 1) ns x (omega arith))
  where
    by_test : (b : Bool) → p n ≡ b → is_on x (places p (k + 1) ns) ≡ false → is_on x (places p k (n ∷ ns)) ≡ false
    by_test true e rest = let other : k ≢ x = omega arith in rw (e, ne_eqb k x other) rest
    by_test false e rest = rw e rest

places_push : (p : Node → Bool) (k : ℕ) (ns : List Node) (n : Node) → places p k (ns ++ n ∷ []) ≡ places p k ns ++ (if p n then (k + length ns) ∷ [] else [])
places_push p k [] n = let e : k + length {A = Node} [] ≡ k = omega arith in rw e refl
places_push p k (m ∷ ms) n =
    let e : k + length (m ∷ ms) ≡ (k + 1) + length ms = omega arith in
    rw e (by_test (p m) refl (places_push p (k + 1) ms n))
  where
    by_test : (b : Bool) → p m ≡ b → places p (k + 1) (ms ++ n ∷ []) ≡ places p (k + 1) ms ++ (if p n then ((k + 1) + length ms) ∷ [] else [])
        → places p k (m ∷ (ms ++ n ∷ [])) ≡ places p k (m ∷ ms) ++ (if p n then ((k + 1) + length ms) ∷ [] else [])
    by_test true e rest = rw e (ap (λ xs. k ∷ xs) rest)
    by_test false e rest = rw e rest

pub places_kept : (p : Node → Bool) (k : ℕ) (ns : List Node) (o : ℕ) (m : Node) → p m ≡ p (entry gone ns o) → places p k (slice_set ns o m) ≡ places p k ns
places_kept p k [] o m e = refl
places_kept p k (n ∷ ns) zero m e = rw e refl
places_kept p k (n ∷ ns) (suc o) m e = with_head (p n) k (places p (k + 1) (slice_set ns o m)) (places p (k + 1) ns) (places_kept p (k + 1) ns o m e)

places_without : (p : Node → Bool) (k : ℕ) (ns : List Node) (o x : ℕ) (m : Node) → x ≡ k + o → p m ≡ false → without x (places p k ns) ≡ places p k (slice_set ns o m)
places_without p k [] o x m e f = refl
places_without p k (n ∷ ns) zero x m e f =
    let here : k ≡ x = omega arith in
    let rest : without x (places p (k + 1) ns) ≡ places p (k + 1) ns = without_off x (places p (k + 1) ns) (off_before p (k + 1) ns x (omega arith)) in
    rw f (by_test (p n) refl here rest)
  where
    by_test : (b : Bool) → p n ≡ b → k ≡ x → without x (places p (k + 1) ns) ≡ places p (k + 1) ns → without x (places p k (n ∷ ns)) ≡ places p (k + 1) ns
    by_test true g here rest = rw (g, eq-eqb k x here) rest
    by_test false g here rest = rw g rest
places_without p k (n ∷ ns) (suc o) x m e f = by_test (p n) refl (places_without p (k + 1) ns o x m (omega arith) f)
  where
    by_test : (b : Bool) → p n ≡ b → without x (places p (k + 1) ns) ≡ places p (k + 1) (slice_set ns o m) → without x (places p k (n ∷ ns)) ≡ places p k (n ∷ slice_set ns o m)
    by_test true g rest = let other : k ≢ x = omega arith in rw (g, ne_eqb k x other) (ap (λ xs. k ∷ xs) rest)
    by_test false g rest = rw g rest

-- what is on the list of places are the objects that pass
pub on_places : (p : Node → Bool) (k : ℕ) (ns : List Node) (j x : ℕ) → x ≡ k + j → j < length ns → is_on x (places p k ns) ≡ p (entry gone ns j)
on_places p k [] j x e h = absurd (omega arith)
on_places p k (n ∷ ns) zero x e h = by_test (p n) refl
  where
    by_test : (b : Bool) → p n ≡ b → is_on x (places p k (n ∷ ns)) ≡ p n
    by_test true f = let same : k ≡ x = omega arith in rw (f, eq-eqb k x same) refl
    by_test false f = rw f (off_before p (k + 1) ns x (omega arith))
on_places p k (n ∷ ns) (suc j) x e h = by_test (p n) refl (on_places p (k + 1) ns j x (omega arith) (omega arith))
  where
    by_test : (b : Bool) → p n ≡ b → is_on x (places p (k + 1) ns) ≡ p (entry gone ns j) → is_on x (places p k (n ∷ ns)) ≡ p (entry gone ns j)
    by_test true f rest = let other : k ≢ x = omega arith in rw (f, ne_eqb k x other) rest
    by_test false f rest = rw f rest

-- ---- no place, and the last one

pub no_places : (p : Node → Bool) (k : ℕ) (ns : List Node) → (length (places p k ns) == 0) ≡ list_all (λ n. not (p n)) ns
no_places p k [] = refl
no_places p k (n ∷ ns) = by_test (p n) refl (no_places p (k + 1) ns)
  where
    by_test : (b : Bool) → p n ≡ b → (length (places p (k + 1) ns) == 0) ≡ list_all (λ m. not (p m)) ns → (length (places p k (n ∷ ns)) == 0) ≡ list_all (λ m. not (p m)) (n ∷ ns)
    by_test true e rest = let some : suc (length (places p (k + 1) ns)) ≢ 0 = omega arith in rw e (ne_eqb (suc (length (places p (k + 1) ns))) 0 some)
    by_test false e rest = rw e rest

last_off : (p : Node → Bool) (x y k : ℕ) (ns : List Node) → x < y → x < k → same_id (last_of (y ∷ places p k ns)) x ≡ false
last_off p x y k [] h g = let other : y ≢ x = omega arith in ne_eqb y x other
last_off p x y k (n ∷ ns) h g = by_test (p n) refl (last_off p x k (k + 1) ns g (omega arith)) (last_off p x y (k + 1) ns h (omega arith))
  where
    by_test : (b : Bool) → p n ≡ b → same_id (last_of (k ∷ places p (k + 1) ns)) x ≡ false → same_id (last_of (y ∷ places p (k + 1) ns)) x ≡ false
        → same_id (last_of (y ∷ places p k (n ∷ ns))) x ≡ false
    by_test true e here there = rw e here
    by_test false e here there = rw e there

last_here : (p : Node → Bool) (x k : ℕ) (ns : List Node) → x < k → same_id (last_of (x ∷ places p k ns)) x ≡ list_all (λ n. not (p n)) ns
last_here p x k [] h = eq-eqb x x refl
last_here p x k (n ∷ ns) h = by_test (p n) refl (last_off p x k (k + 1) ns h (omega arith)) (last_here p x (k + 1) ns (omega arith))
  where
    by_test : (b : Bool) → p n ≡ b → same_id (last_of (k ∷ places p (k + 1) ns)) x ≡ false → same_id (last_of (x ∷ places p (k + 1) ns)) x ≡ list_all (λ m. not (p m)) ns
        → same_id (last_of (x ∷ places p k (n ∷ ns))) x ≡ list_all (λ m. not (p m)) (n ∷ ns)
    by_test true e here there = rw e here
    by_test false e here there = rw e there

last_after : (p : Node → Bool) (x y k : ℕ) (ns : List Node) (o : ℕ) → x ≡ k + o → o < length ns → p (entry gone ns o) ≡ true
    → same_id (last_of (y ∷ places p k ns)) x ≡ list_all (λ n. not (p n)) (drop (suc o) ns)
last_after p x y k [] o e h t = absurd (omega arith)
last_after p x y k (n ∷ ns) zero e h t =
    let here : k ≡ x = omega arith in
    rw (place_on p k n ns t, here) (last_here p x (x + 1) ns (omega arith))
last_after p x y k (n ∷ ns) (suc o) e h t =
    by_test (p n) refl (last_after p x k (k + 1) ns o (omega arith) (omega arith) t) (last_after p x y (k + 1) ns o (omega arith) (omega arith) t)
  where
    by_test : (b : Bool) → p n ≡ b → same_id (last_of (k ∷ places p (k + 1) ns)) x ≡ list_all (λ m. not (p m)) (drop (suc o) ns)
        → same_id (last_of (y ∷ places p (k + 1) ns)) x ≡ list_all (λ m. not (p m)) (drop (suc o) ns)
        → same_id (last_of (y ∷ places p k (n ∷ ns))) x ≡ list_all (λ m. not (p m)) (drop (suc o) ns)
    by_test true f here there = rw f here
    by_test false f here there = rw f there

-- the last place is this one where none of those after it passes
pub last_place : (p : Node → Bool) (x k : ℕ) (ns : List Node) (o : ℕ) → x ≡ k + o → o < length ns → p (entry gone ns o) ≡ true
    → same_id (last_of (places p k ns)) x ≡ list_all (λ n. not (p n)) (drop (suc o) ns)
last_place p x k [] o e h t = absurd (omega arith)
last_place p x k (n ∷ ns) zero e h t =
    let here : k ≡ x = omega arith in
    rw (place_on p k n ns t, here) (last_here p x (x + 1) ns (omega arith))
last_place p x k (n ∷ ns) (suc o) e h t =
    by_test (p n) refl (last_after p x k (k + 1) ns o (omega arith) (omega arith) t) (last_place p x (k + 1) ns o (omega arith) (omega arith) t)
  where
    by_test : (b : Bool) → p n ≡ b → same_id (last_of (k ∷ places p (k + 1) ns)) x ≡ list_all (λ m. not (p m)) (drop (suc o) ns)
        → same_id (last_of (places p (k + 1) ns)) x ≡ list_all (λ m. not (p m)) (drop (suc o) ns)
        → same_id (last_of (places p k (n ∷ ns))) x ≡ list_all (λ m. not (p m)) (drop (suc o) ns)
    by_test true f here there = rw f here
    by_test false f here there = rw f there

-- ---- by ids

-- the ids of those whose entries pass
pub places_by_ids : (p : Node → Bool) (all ns : List Node) (k : ℕ) → ((j : ℕ) → entry gone all (k + j) ≡ entry gone ns j)
    → filter (λ x. p (entry gone all x)) (range_with_len k (length ns)) ≡ places p k ns
places_by_ids p all [] k e = refl
places_by_ids p all (n ∷ ns) k e =
    let here : entry gone all k ≡ n = ap (entry gone all) (omega arith) ∙ e 0 in
    let rest = places_by_ids p all ns (k + 1) (λ j. ap (entry gone all) (omega arith) ∙ e (suc j)) in
    rw here (with_head (p n) k (filter (λ x. p (entry gone all x)) (range_with_len (k + 1) (length ns))) (places p (k + 1) ns) rest)

-- ---- families

empty_copies : (n q : ℕ) → list_at (replicate n []) q ≡ []
empty_copies zero q = refl
empty_copies (suc n) zero = refl
empty_copies (suc n) (suc q) = empty_copies n q

-- empty lists, where only the id 0 is there
pub holds_none : (test : Life → Bool) (n : ℕ) → n ≡ OBJECTS → test gone.life ≡ false → HoldsKin test (gone ∷ []) (record { lists = replicate n []; items = n })
holds_none test n e t = record {
  as_many = length-replicate n [] ∙ e;
  room = e;
  kin = λ q h. empty_copies n q ∙ sym (place_off (is_kin test q) 0 gone [] (blank q));
}
  where
    blank : (q : ℕ) → is_kin test q gone ≡ false
    blank q = and_right (0 == q) (test gone.life) t

-- what comes next is on no list
pub next_is_free : (test : Life → Bool) (ns : List Node) (family : Family) → HoldsKin test ns family → is_on_any (length ns) family.lists ≡ false
next_is_free test ns family h = off_all (length ns) family.lists (λ q. by_place q (cases_lt q OBJECTS))
  where
    by_place : (q : ℕ) → (q < OBJECTS) ⊎ (OBJECTS ≤ q) → is_on (length ns) (list_at family.lists q) ≡ false
    by_place q (inl below) = rw (h.kin q below) (off_past (is_kin test q) 0 ns (length ns) (omega arith))
    by_place q (inr past) = ap (is_on (length ns)) (entry_past [] family.lists q (let e = h.as_many in omega arith))

pub holds_joined : (test : Life → Bool) (ns : List Node) (n : Node) (family : Family) → HoldsKin test ns family → test n.life ≡ true
    → HoldsKin test (ns ++ n ∷ []) (joined family n.parent.0 (length ns))
holds_joined test ns n family h t = by_parent (cases_lt n.parent.0 OBJECTS)
  where
    mine : (q : ℕ) → n.parent.0 ≡ q → is_kin test q n ≡ true
    mine q e = rw (eq-eqb n.parent.0 q e, t) refl

    other : (q : ℕ) → n.parent.0 ≢ q → is_kin test q n ≡ false
    other q e = rw (ne_eqb n.parent.0 q e) refl

    grown : (q : ℕ) → places (is_kin test q) 0 (ns ++ n ∷ []) ≡ places (is_kin test q) 0 ns ++ (if is_kin test q n then (0 + length ns) ∷ [] else [])
    grown q = places_push (is_kin test q) 0 ns n

    last : 0 + length ns ≡ length ns
    last = omega arith

    at : (q : ℕ) → q < OBJECTS → (b : Bool) → (n.parent.0 == q) ≡ b → n.parent.0 < OBJECTS
        → list_at (slice_set family.lists n.parent.0 (list_at family.lists n.parent.0 ++ length ns ∷ [])) q ≡ places (is_kin test q) 0 (ns ++ n ∷ [])
    at q below true e there =
        let same : n.parent.0 ≡ q = eqb-true n.parent.0 q e in
        ap (λ z. list_at (slice_set family.lists z (list_at family.lists z ++ length ns ∷ [])) q) same
        ∙ get_or-set_same family.lists q (list_at family.lists q ++ length ns ∷ []) [] (let many = h.as_many in omega arith)
        ∙ ap (λ xs. xs ++ length ns ∷ []) (h.kin q below)
        ∙ sym (grown q ∙ rw (mine q same, last) refl)
    at q below false e there =
        let apart : n.parent.0 ≢ q = eqb-false n.parent.0 q e in
        let flipped : q ≢ n.parent.0 = λ z. apart (sym z) in
        entry_set_other [] family.lists n.parent.0 q (list_at family.lists n.parent.0 ++ length ns ∷ []) flipped
        ∙ h.kin q below ∙ sym (grown q ∙ rw (other q apart) (append-nil (places (is_kin test q) 0 ns)))

    by_parent : (n.parent.0 < OBJECTS) ⊎ (OBJECTS ≤ n.parent.0) → HoldsKin test (ns ++ n ∷ []) (joined family n.parent.0 (length ns))
    by_parent (inl there) = rw (lt-ltb n.parent.0 OBJECTS there) (record {
      as_many = as_long family.lists n.parent.0 (list_at family.lists n.parent.0 ++ length ns ∷ []) ∙ h.as_many;
      room = h.room;
      kin = λ q below. at q below (n.parent.0 == q) refl there;
    })
    by_parent (inr past) = rw (le-ltb n.parent.0 OBJECTS past) (record {
      as_many = h.as_many;
      room = h.room;
      kin = λ q below.
          let apart : n.parent.0 ≢ q = omega arith in
          h.kin q below ∙ sym (grown q ∙ rw (other q apart) (append-nil (places (is_kin test q) 0 ns)));
    })

-- a change that keeps the parent, and whether the life passes
pub holds_kept : (test : Life → Bool) (ns : List Node) (family : Family) (o : ℕ) (m : Node) → HoldsKin test ns family → m.parent.0 ≡ (entry gone ns o).parent.0
    → test m.life ≡ test (entry gone ns o).life → HoldsKin test (slice_set ns o m) family
holds_kept test ns family o m h p t = record {
  as_many = h.as_many;
  room = h.room;
  kin = λ q below. h.kin q below ∙ sym (places_kept (is_kin test q) 0 ns o m (rw (p, t) refl));
}

-- a change of one that doesn't pass into another that doesn't
pub holds_off : (test : Life → Bool) (ns : List Node) (family : Family) (o : ℕ) (m : Node) → HoldsKin test ns family → test (entry gone ns o).life ≡ false → test m.life ≡ false
    → HoldsKin test (slice_set ns o m) family
holds_off test ns family o m h was is = record {
  as_many = h.as_many;
  room = h.room;
  kin = λ q below. h.kin q below ∙ sym (places_kept (is_kin test q) 0 ns o m (and_right (m.parent.0 == q) (test m.life) is ∙ sym (and_right ((entry gone ns o).parent.0 == q) (test (entry gone ns o).life) was)));
}

-- an object leaves its list
pub holds_without : (test : Life → Bool) (ns : List Node) (family : Family) (o : ℕ) (m : Node) → HoldsKin test ns family → test m.life ≡ false
    → HoldsKin test (slice_set ns o m) (record family { lists = map (without o) family.lists })
holds_without test ns family o m h t = record {
  as_many = length-map family.lists (without o) ∙ h.as_many;
  room = h.room;
  kin = λ q below.
      map_at (without o) family.lists q refl ∙ ap (without o) (h.kin q below)
      ∙ places_without (is_kin test q) 0 ns o o m (omega arith) (and_right (m.parent.0 == q) (test m.life) t);
}
