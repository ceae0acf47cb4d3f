-- The tables go on to be linked as the lists say.
use Rattle.std.proofs.Common.{ℕ, zero, suc, ◌≡◌, ◌≢◌, ◌⊎◌, ◌+◌, ◌-◌, ◌*◌, ◌<◌, ◌≤◌, ◌==◌, true, false, List, [], ◌∷◌, ◌++◌, length, map, slice_index, slice_set, length-set, add-one, get_or-set_same, get_or-set_other, refl, sym, subst, ap, ◌∙◌, inl, inr, arith}
use Rattle.std.proofs.Math.Bool.{or_comm}
use Rattle.std.proofs.lemmas.Bool.{ne_eqb, eqb-true, cases_eq, cases_lt}
use Rattle.std.proofs.lemmas.List.{ext_get_or, get_or_past, length_push, length-map}
use Rattle.std.proofs.lemmas.List.FromFn.{length-map-range_with_len, get_or-map-range_with_len}
use Rattle.wdf_ilist.specs.Family.{is_on, is_on_any, without, list_at, are_distinct, AreApart}
use Rattle.wdf_ilist.specs.Places.{end_of, place_of, walk, IsPath, IsLinked}
use Rattle.wdf_ilist.specs.Tables.{next_of, previous_of, joined, entered, left}
use Rattle.wdf_ilist.specs.Links.{HasRoom, AreSound, lists_by}
use Rattle.wdf_ilist.specs.declared.members.Members.{Members}
use Rattle.wdf_ilist.specs.declared.rings.Rings.{Rings}
use Rattle.wdf_ilist.proofs.Items.{length_below, on_pushed, distinct_pushed, distinct_in_front}
use Rattle.wdf_ilist.proofs.Lists.{off_each, map_at}
use Rattle.wdf_ilist.proofs.Paths.{end_no_place, walk_path, first_link, first_other, last_other, last_link, around, stays_at_back, grows_at_back, stays_at_front, grows_at_front}
use Rattle.wdf_ilist.proofs.Changes.{on_its_list, off_each_list, Leaves, linked_without, Enters, Gains, linked_with}
use Rattle.wdf_ilist.proofs.Joins.{room_joined, cuts_joined, inserted, room_inserted, inserts_inserted}

-- the lists that are read are those that the tables are linked as
pub read_lists : (r : Rings) (m : Members) (ls : List (List ℕ)) → AreSound r m ls → lists_by r m ≡ ls
unfolding lists_by
read_lists r m ls s =
    let f : ℕ → List ℕ = λ q. walk (next_of r) (next_of r (end_of q)) (slice_index m.counts q) in
    let n = length m.counts in
    let as_many : n ≡ length ls = s.as_many in
    let long : length (lists_by r m) ≡ n = length-map-range_with_len f 0 n in
    ext_get_or [] (lists_by r m) ls (long ∙ as_many)
    (λ q h.
    let below : q < n = omega arith in
    let there : 0 + q ≡ q = omega arith in
    get_or-map-range_with_len f 0 n q q [] below there ∙ ap (walk (next_of r) (next_of r (end_of q))) (s.linked.counted q)
    ∙ walk_path (next_of r) (previous_of r) (end_of q) (list_at ls q) (end_of q) (s.linked.ring q))

-- what was sound for a list is sound as it is read
pub sound_as_read : (r : Rings) (m : Members) (ls : List (List ℕ)) → AreSound r m ls → AreSound r m (lists_by r m)
sound_as_read r m ls s = subst (λ z. AreSound r m z) (sym (read_lists r m ls s)) s

-- ---- what callers may know

-- an item with an owner is one of the items, and its list one of the lists
pub owned_within : (r : Rings) (m : Members) (ls : List (List ℕ)) → AreSound r m ls → (x q : ℕ) → slice_index m.owners x ≡ suc q → (x < length m.owners) × (q < length m.counts)
owned_within r m ls s x q own = (within (cases_lt x (length m.owners)), known (cases_lt q (length m.counts)))
  where
    within : (x < length m.owners) ⊎ (length m.owners ≤ x) → x < length m.owners
    within (inl h) = h
    within (inr h) = absurd (let none : slice_index m.owners x ≡ 0 = s.linked.within x h in omega arith)

    known : (q < length m.counts) ⊎ (length m.counts ≤ q) → q < length m.counts
    known (inl h) = h
    known (inr h) =
        let many : length m.counts ≡ length ls = s.as_many in
        let beyond : length ls ≤ q = omega arith in
        let empty : list_at ls q ≡ [] = get_or_past ls q [] beyond in
        let on : is_on x (list_at ls q) ≡ true = on_its_list (next_of r) (previous_of r) (slice_index m.owners) (slice_index m.counts) (length m.owners) (list_at ls) s.linked x q own in
        let no : is_on x [] ≡ true = subst (λ z. is_on x z ≡ true) empty on in
        absurd (let z : ⊥ = cc in z)

pub apart_lem : (r : Rings) (m : Members) (ls : List (List ℕ)) → AreSound r m ls → AreApart (record { lists = ls; items = length m.owners })
apart_lem r m ls s = record {
  apart = λ x p q on_p on_q.
      let a : slice_index m.owners x ≡ suc p = eqb-true (slice_index m.owners x) (suc p) (sym (s.linked.owned p x) ∙ on_p) in
      let b : slice_index m.owners x ≡ suc q = eqb-true (slice_index m.owners x) (suc q) (sym (s.linked.owned q x) ∙ on_q) in
      omega arith;
  once = s.linked.once;
  within = λ x q on. (owned_within r m ls s x q (eqb-true (slice_index m.owners x) (suc q) (sym (s.linked.owned q x) ∙ on))).0;
}

-- a list that has an item is one of the lists
pub count_within : (r : Rings) (m : Members) (ls : List (List ℕ)) → AreSound r m ls → (q : ℕ) → slice_index m.counts q ≢ 0 → q < length m.counts
count_within r m ls s q some = known (cases_lt q (length m.counts))
  where
    known : (q < length m.counts) ⊎ (length m.counts ≤ q) → q < length m.counts
    known (inl h) = h
    known (inr h) = absurd (some (get_or_past m.counts q 0 h))

-- an item that is on no list has no owner
pub no_owner : (r : Rings) (m : Members) (ls : List (List ℕ)) → AreSound r m ls → (x : ℕ) → is_on_any x ls ≡ false → slice_index m.owners x ≡ 0
no_owner r m ls s x off = by_owner (slice_index m.owners x) refl
  where
    by_owner : (o : ℕ) → slice_index m.owners x ≡ o → slice_index m.owners x ≡ 0
    by_owner zero e = e
    by_owner (suc q) e =
        let on : is_on x (list_at ls q) ≡ true = on_its_list (next_of r) (previous_of r) (slice_index m.owners) (slice_index m.counts) (length m.owners) (list_at ls) s.linked x q e in
        let not_there : is_on x (list_at ls q) ≡ false = off_each x ls q off in
        absurd (let z : ⊥ = cc in z)

-- a list with an item more still has a count below the number of items
pub count_room : (r : Rings) (m : Members) (ls : List (List ℕ)) → AreSound r m ls → (x q : ℕ) → x < length m.owners → is_on_any x ls ≡ false → slice_index m.counts q + 1 ≤ length m.owners
count_room r m ls s x q there off =
    let xs = list_at ls q in
    let not_there : is_on x xs ≡ false = off_each x ls q off in
    let once : are_distinct (x ∷ xs) ≡ true = distinct_in_front x xs not_there (s.linked.once q) in
    let few : length (x ∷ xs) ≤ length m.owners = length_below (length m.owners) (x ∷ xs) once (λ y on. below y (cases_eq y x) on) in
    let count : slice_index m.counts q ≡ length xs = s.linked.counted q in
    let more : length (x ∷ xs) ≡ suc (length xs) = refl in
    omega arith
  where
    by_owner : (y o : ℕ) → slice_index m.owners y ≡ o → is_on y (list_at ls q) ≡ true → y < length m.owners
    by_owner y zero e on =
        let off_it : is_on y (list_at ls q) ≡ false = off_each_list (next_of r) (previous_of r) (slice_index m.owners) (slice_index m.counts) (length m.owners) (list_at ls) s.linked y e q in
        absurd (let z : ⊥ = cc in z)
    by_owner y (suc p) e on = (owned_within r m ls s y p e).0

    below : (y : ℕ) → (y ≡ x) ⊎ (y ≡ x → ⊥) → is_on y (x ∷ list_at ls q) ≡ true → y < length m.owners
    below y (inl same) on = omega arith
    below y (inr other) on =
        let it : (x == y) ≡ false = ne_eqb x y (λ e. other (sym e)) in
        by_owner y (slice_index m.owners y) refl (rw it at on)

-- ---- an item goes

leaves_left : (m : Members) (x q : ℕ) → slice_index m.owners x ≡ suc q → x < length m.owners → q < length m.counts → 0 < slice_index m.counts q
    → Leaves (slice_index m.owners) (slice_index m.counts) (slice_index (left m q x).owners) (slice_index (left m q x).counts) x q
leaves_left m x q own there known some = record {
  was = own;
  owner_here = get_or-set_same m.owners x 0 0 there;
  owner_other = λ y other. get_or-set_other m.owners x y 0 0 other;
  count_here =
      let e : slice_index (left m q x).counts q ≡ slice_index m.counts q - 1 = get_or-set_same m.counts q (slice_index m.counts q - 1) 0 known in
      omega arith;
  count_other = λ p other. get_or-set_other m.counts q p (slice_index m.counts q - 1) 0 other;
}

linked_alike : (next previous owner count : ℕ → ℕ) (items more : ℕ) (lists lists' : ℕ → List ℕ) → items ≡ more → ((q : ℕ) → lists' q ≡ lists q) → IsLinked next previous owner count items lists
    → IsLinked next previous owner count more lists'
linked_alike next previous owner count items more lists lists' same e l = record {
  ring = λ q. subst (λ z. IsPath next previous (end_of q) z (end_of q)) (sym (e q)) (l.ring q);
  counted = λ q. l.counted q ∙ ap length (sym (e q));
  owned = λ q x. ap (is_on x) (e q) ∙ l.owned q x;
  once = λ q. ap are_distinct (e q) ∙ l.once q;
  within = λ x h. l.within x (subst (λ n. n ≤ x) (sym same) h);
}

room_alike : (r : Rings) (lists items lists' items' : ℕ) → lists' ≡ lists → items' ≡ items → HasRoom r lists items → HasRoom r lists' items'
room_alike r lists items lists' items' e f room = subst (λ n. HasRoom r n items') (sym e) (subst (λ n. HasRoom r lists n) (sym f) room)

-- the rings without an item
abbrev pub cut : Rings → ℕ → Rings
cut r x = joined r (previous_of r (place_of x)) (next_of r (place_of x))

pub sound_without : (r : Rings) (m : Members) (ls : List (List ℕ)) (x q : ℕ) → AreSound r m ls → slice_index m.owners x ≡ suc q → 0 < slice_index m.counts q
    → AreSound (cut r x) (left m q x) (map (without x) ls)
sound_without r m ls x q s own some =
    let within : (x < length m.owners) × (q < length m.counts) = owned_within r m ls s x q own in
    let places : 2 * length m.owners ≤ length r.next = s.room.places in
    let here : place_of x < length r.next = omega (arith, within.0) in
    let there : previous_of r (place_of x) < length r.next = s.room.previous_near (place_of x) here in
    let to : next_of r (place_of x) < length r.next = s.room.next_near (place_of x) here in
    let on : is_on x (list_at ls q) ≡ true = on_its_list (next_of r) (previous_of r) (slice_index m.owners) (slice_index m.counts) (length m.owners) (list_at ls) s.linked x q own in
    let between = around (next_of r) (previous_of r) (end_of q) x (list_at ls q) (end_of q) (s.linked.ring q) on in
    let cuts = cuts_joined r (length m.counts) (length m.owners) x s.room between there to in
    let owners : length (left m q x).owners ≡ length m.owners = length-set m.owners x 0 in
    let counts : length (left m q x).counts ≡ length m.counts = length-set m.counts q (slice_index m.counts q - 1) in
    record {
      linked =
          linked_alike (next_of (cut r x)) (previous_of (cut r x)) (slice_index (left m q x).owners) (slice_index (left m q x).counts) (length m.owners) (length (left m q x).owners)
          (λ p. without x (list_at ls p)) (list_at (map (without x) ls)) (sym owners) (λ p. map_at (without x) ls p refl)
          (linked_without (next_of r) (previous_of r) (slice_index m.owners) (slice_index m.counts) (next_of (cut r x)) (previous_of (cut r x)) (slice_index (left m q x).owners)
          (slice_index (left m q x).counts) (length m.owners) (list_at ls) x q s.linked cuts (leaves_left m x q own within.0 within.1 some));
      as_many = counts ∙ s.as_many ∙ sym (length-map ls (without x));
      room =
          room_alike (cut r x) (length m.counts) (length m.owners) (length (left m q x).counts) (length (left m q x).owners) counts owners
          (room_joined r (length m.counts) (length m.owners) (previous_of r (place_of x)) (next_of r (place_of x)) s.room there to);
    }

-- ---- an item comes

enters_entered : (m : Members) (x q : ℕ) → slice_index m.owners x ≡ 0 → x < length m.owners → q < length m.counts
    → Enters (slice_index m.owners) (slice_index m.counts) (slice_index (entered m q x).owners) (slice_index (entered m q x).counts) (length m.owners) x q
enters_entered m x q none there known = record {
  there = omega arith;
  was = none;
  owner_here = get_or-set_same m.owners x (q + 1) 0 there ∙ add-one q;
  owner_other = λ y other. get_or-set_other m.owners x y (q + 1) 0 other;
  count_here = get_or-set_same m.counts q (slice_index m.counts q + 1) 0 known ∙ add-one (slice_index m.counts q);
  count_other = λ p other. get_or-set_other m.counts q p (slice_index m.counts q + 1) 0 other;
}

gains_pushed : (ls : List (List ℕ)) (x q : ℕ) → q < length ls → is_on x (list_at ls q) ≡ false → are_distinct (list_at ls q) ≡ true
    → Gains (list_at ls) (list_at (slice_set ls q (list_at ls q ++ x ∷ []))) x q
gains_pushed ls x q known off once =
    let here : list_at (slice_set ls q (list_at ls q ++ x ∷ [])) q ≡ list_at ls q ++ x ∷ [] = get_or-set_same ls q (list_at ls q ++ x ∷ []) [] known in
    record {
      more = ap length here ∙ length_push (list_at ls q) x ∙ add-one (length (list_at ls q));
      on = λ y. ap (is_on y) here ∙ on_pushed x y (list_at ls q);
      once = ap are_distinct here ∙ distinct_pushed x (list_at ls q) off once;
      other = λ p other. get_or-set_other ls q p (list_at ls q ++ x ∷ []) [] other;
    }

gains_in_front : (ls : List (List ℕ)) (x q : ℕ) → q < length ls → is_on x (list_at ls q) ≡ false → are_distinct (list_at ls q) ≡ true
    → Gains (list_at ls) (list_at (slice_set ls q (x ∷ list_at ls q))) x q
gains_in_front ls x q known off once =
    let here : list_at (slice_set ls q (x ∷ list_at ls q)) q ≡ x ∷ list_at ls q = get_or-set_same ls q (x ∷ list_at ls q) [] known in
    record {
      more = ap length here;
      on = λ y. ap (is_on y) here ∙ or_comm (x == y) (is_on y (list_at ls q));
      once = ap are_distinct here ∙ distinct_in_front x (list_at ls q) off once;
      other = λ p other. get_or-set_other ls q p (x ∷ list_at ls q) [] other;
    }

-- the tables after an item came between two places
sound_with : (r : Rings) (m : Members) (ls ls' : List (List ℕ)) (before x after q : ℕ) → AreSound r m ls → x < length m.owners → q < length m.counts → is_on_any x ls ≡ false
    → length ls' ≡ length ls → Gains (list_at ls) (list_at ls') x q → HasRoom (inserted r before x after) (length m.counts) (length m.owners)
    → ((p : ℕ) → IsPath (next_of (inserted r before x after)) (previous_of (inserted r before x after)) (end_of p) (list_at ls' p) (end_of p))
    → AreSound (inserted r before x after) (entered m q x) ls'
sound_with r m ls ls' before x after q s there known off as_many gains room ring =
    let owners : length (entered m q x).owners ≡ length m.owners = length-set m.owners x (q + 1) in
    let counts : length (entered m q x).counts ≡ length m.counts = length-set m.counts q (slice_index m.counts q + 1) in
    record {
      linked =
          linked_alike (next_of (inserted r before x after)) (previous_of (inserted r before x after)) (slice_index (entered m q x).owners) (slice_index (entered m q x).counts) (length m.owners)
          (length (entered m q x).owners) (list_at ls') (list_at ls') (sym owners) (λ p. refl)
          (linked_with (next_of r) (previous_of r) (slice_index m.owners) (slice_index m.counts) (next_of (inserted r before x after)) (previous_of (inserted r before x after))
          (slice_index (entered m q x).owners) (slice_index (entered m q x).counts) (length m.owners) (list_at ls) (list_at ls') x q s.linked
          (enters_entered m x q (no_owner r m ls s x off) there known) gains ring);
      as_many = counts ∙ s.as_many ∙ sym as_many;
      room = room_alike (inserted r before x after) (length m.counts) (length m.owners) (length (entered m q x).counts) (length (entered m q x).owners) counts owners room;
    }

-- the rings of all lists, where one list grew and the others are as they were
ring_grown : (next previous : ℕ → ℕ) (ls : List (List ℕ)) (q : ℕ) (grown : List ℕ) → q < length ls → IsPath next previous (end_of q) grown (end_of q)
    → ((p : ℕ) → p ≢ q → IsPath next previous (end_of p) (list_at ls p) (end_of p)) → (p : ℕ) → IsPath next previous (end_of p) (list_at (slice_set ls q grown) p) (end_of p)
ring_grown next previous ls q grown known here others p = by_place (cases_eq p q)
  where
    by_place : (p ≡ q) ⊎ (p ≢ q) → IsPath next previous (end_of p) (list_at (slice_set ls q grown) p) (end_of p)
    by_place (inl same) = rw (same, get_or-set_same ls q grown [] known) here
    by_place (inr other) = rw (get_or-set_other ls q p grown [] other) (others p other)

pub sound_pushed : (r : Rings) (m : Members) (ls : List (List ℕ)) (x q : ℕ) → AreSound r m ls → q < length ls → x < length m.owners → is_on_any x ls ≡ false
    → AreSound (inserted r (previous_of r (end_of q)) x (end_of q)) (entered m q x) (slice_set ls q (list_at ls q ++ x ∷ []))
sound_pushed r m ls x q s known there off =
    let many : length m.counts ≡ length ls = s.as_many in
    let ends : 2 * length m.counts ≤ length r.next = s.room.ends in
    let places : 2 * length m.owners ≤ length r.next = s.room.places in
    let to : end_of q < length r.next = omega arith in
    let here : place_of x < length r.next = omega arith in
    let from : previous_of r (end_of q) < length r.next = s.room.previous_near (end_of q) to in
    let link : next_of r (previous_of r (end_of q)) ≡ end_of q = last_link (next_of r) (previous_of r) (end_of q) (list_at ls q) (end_of q) (s.linked.ring q) in
    let new = last_other (next_of r) (previous_of r) (end_of q) x (list_at ls q) (end_of q) (s.linked.ring q) (end_no_place q x) (off_each x ls q off) in
    let i = inserts_inserted r (length m.counts) (length m.owners) (previous_of r (end_of q)) x (end_of q) s.room from here to link refl new (end_no_place q x) in
    let grown = grows_at_back (next_of r) (previous_of r) (next_of after) (previous_of after) (previous_of r (end_of q)) x q i (end_of q) (list_at ls q) (s.linked.ring q) (end_no_place q x) (off_each x ls q off) in
    sound_with r m ls (slice_set ls q (list_at ls q ++ x ∷ [])) (previous_of r (end_of q)) x (end_of q) q s there (omega arith) off (length-set ls q (list_at ls q ++ x ∷ []))
    (gains_pushed ls x q known (off_each x ls q off) (s.linked.once q)) (room_inserted r (length m.counts) (length m.owners) (previous_of r (end_of q)) x (end_of q) s.room from here to)
    (ring_grown (next_of after) (previous_of after) ls q (list_at ls q ++ x ∷ []) known grown
    (λ p other.
    let apart : end_of p ≢ end_of q = λ e. other (omega arith) in
    stays_at_back (next_of r) (previous_of r) (next_of after) (previous_of after) (previous_of r (end_of q)) x q i (end_of p) (list_at ls p) (end_of p) (s.linked.ring p) apart (end_no_place p x) (end_no_place p x) (off_each x ls p off)))
  where
    after : Rings
    after = inserted r (previous_of r (end_of q)) x (end_of q)

pub sound_in_front : (r : Rings) (m : Members) (ls : List (List ℕ)) (x q : ℕ) → AreSound r m ls → q < length ls → x < length m.owners → is_on_any x ls ≡ false
    → AreSound (inserted r (end_of q) x (next_of r (end_of q))) (entered m q x) (slice_set ls q (x ∷ list_at ls q))
sound_in_front r m ls x q s known there off =
    let many : length m.counts ≡ length ls = s.as_many in
    let ends : 2 * length m.counts ≤ length r.next = s.room.ends in
    let places : 2 * length m.owners ≤ length r.next = s.room.places in
    let from : end_of q < length r.next = omega arith in
    let here : place_of x < length r.next = omega arith in
    let to : next_of r (end_of q) < length r.next = s.room.next_near (end_of q) from in
    let link : previous_of r (next_of r (end_of q)) ≡ end_of q = first_link (next_of r) (previous_of r) (end_of q) (list_at ls q) (end_of q) (s.linked.ring q) in
    let new = first_other (next_of r) (previous_of r) (end_of q) x (list_at ls q) (end_of q) (s.linked.ring q) (end_no_place q x) (off_each x ls q off) in
    let i = inserts_inserted r (length m.counts) (length m.owners) (end_of q) x (next_of r (end_of q)) s.room from here to refl link (end_no_place q x) new in
    let grown = grows_at_front (next_of r) (previous_of r) (next_of after) (previous_of after) q x (next_of r (end_of q)) i (list_at ls q) (s.linked.ring q) (off_each x ls q off) in
    sound_with r m ls (slice_set ls q (x ∷ list_at ls q)) (end_of q) x (next_of r (end_of q)) q s there (omega arith) off (length-set ls q (x ∷ list_at ls q))
    (gains_in_front ls x q known (off_each x ls q off) (s.linked.once q)) (room_inserted r (length m.counts) (length m.owners) (end_of q) x (next_of r (end_of q)) s.room from here to)
    (ring_grown (next_of after) (previous_of after) ls q (x ∷ list_at ls q) known grown
    (λ p other.
    let apart : end_of p ≢ end_of q = λ e. other (omega arith) in
    stays_at_front (next_of r) (previous_of r) (next_of after) (previous_of after) q x (next_of r (end_of q)) i (end_of p) (list_at ls p) (end_of p) (s.linked.ring p) apart (end_no_place p x) (end_no_place p x) (off_each x ls p off)))
  where
    after : Rings
    after = inserted r (end_of q) x (next_of r (end_of q))
