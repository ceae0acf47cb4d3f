-- What the links of the rings say after places were joined.
use Rattle.std.proofs.Common.{ℕ, ◌≡◌, ◌≢◌, ◌+◌, ◌*◌, ◌<◌, ◌≤◌, ◌^◌, ◌==◌, false, length, length-set, get_or-set_same, get_or-set_other, sym, subst, ap, ◌∙◌, ◌⊎◌, inl, inr, arith}
use Rattle.std.proofs.lemmas.Bool.{ne_eqb, cases_eq}
use Rattle.wdf_ilist.specs.Places.{place_of}
use Rattle.wdf_ilist.specs.Tables.{linked_place, next_of, previous_of, joined}
use Rattle.wdf_ilist.specs.Links.{HasRoom}
use Rattle.wdf_ilist.specs.declared.rings.Rings.{Rings}
use Rattle.wdf_ilist.proofs.Paths.{IsBetween, Cuts, Inserts}

-- a link that was written
linked_more : (place to : ℕ) → linked_place place (to + 1) ≡ to
linked_more place to =
    let no : (to + 1 == 0) ≡ false = ne_eqb (to + 1) 0 (λ e. absurd (omega arith)) in
    rw no (omega arith)

next_joined : (r : Rings) (a b : ℕ) → a < length r.next → next_of (joined r a b) a ≡ b
next_joined r a b h = ap (linked_place a) (get_or-set_same r.next a (b + 1) 0 h) ∙ linked_more a b

next_joined_other : (r : Rings) (a b k : ℕ) → k ≢ a → next_of (joined r a b) k ≡ next_of r k
next_joined_other r a b k other = ap (linked_place k) (get_or-set_other r.next a k (b + 1) 0 other)

previous_joined : (r : Rings) (a b : ℕ) → b < length r.previous → previous_of (joined r a b) b ≡ a
previous_joined r a b h = ap (linked_place b) (get_or-set_same r.previous b (a + 1) 0 h) ∙ linked_more b a

previous_joined_other : (r : Rings) (a b k : ℕ) → k ≢ b → previous_of (joined r a b) k ≡ previous_of r k
previous_joined_other r a b k other = ap (linked_place k) (get_or-set_other r.previous b k (a + 1) 0 other)

next_near_joined : (r : Rings) (lists items a b k : ℕ) → HasRoom r lists items → a < length r.next → b < length r.next → k < length r.next → (k ≡ a) ⊎ (k ≡ a → ⊥)
    → next_of (joined r a b) k < length r.next
next_near_joined r lists items a b k room there to h (inl same) =
    let e : next_of (joined r a b) k ≡ b = ap (next_of (joined r a b)) same ∙ next_joined r a b there in
    omega arith
next_near_joined r lists items a b k room there to h (inr other) =
    let e : next_of (joined r a b) k ≡ next_of r k = next_joined_other r a b k other in
    let near : next_of r k < length r.next = room.next_near k h in
    omega arith

previous_near_joined : (r : Rings) (lists items a b k : ℕ) → HasRoom r lists items → a < length r.next → b < length r.next → k < length r.next → (k ≡ b) ⊎ (k ≡ b → ⊥)
    → previous_of (joined r a b) k < length r.next
previous_near_joined r lists items a b k room there to h (inl same) =
    let both : length r.previous ≡ length r.next = room.both_ways in
    let e : previous_of (joined r a b) k ≡ a = ap (previous_of (joined r a b)) same ∙ previous_joined r a b (omega arith) in
    omega arith
previous_near_joined r lists items a b k room there to h (inr other) =
    let e : previous_of (joined r a b) k ≡ previous_of r k = previous_joined_other r a b k other in
    let near : previous_of r k < length r.next = room.previous_near k h in
    omega arith

length_joined : (r : Rings) (a b : ℕ) → length (joined r a b).next ≡ length r.next
length_joined r a b = length-set r.next a (b + 1)

-- the room stays
pub room_joined : (r : Rings) (lists items a b : ℕ) → HasRoom r lists items → a < length r.next → b < length r.next → HasRoom (joined r a b) lists items
room_joined r lists items a b room there to =
    let same : length (joined r a b).next ≡ length r.next = length_joined r a b in
    let back : length (joined r a b).previous ≡ length r.previous = length-set r.previous b (a + 1) in
    let both : length r.previous ≡ length r.next = room.both_ways in
    let ends : 2 * lists ≤ length r.next = room.ends in
    let places : 2 * items ≤ length r.next = room.places in
    record {
      ends = omega arith;
      places = omega arith;
      both_ways = omega arith;
      few = subst (λ n. n < 2 ^ 32) (sym same) room.few;
      next_near = λ k h. subst (λ n. next_of (joined r a b) k < n) (sym same) (next_near_joined r lists items a b k room there to (subst (λ n. k < n) same h) (cases_eq k a));
      previous_near = λ k h. subst (λ n. previous_of (joined r a b) k < n) (sym same) (previous_near_joined r lists items a b k room there to (subst (λ n. k < n) same h) (cases_eq k b));
    }

-- the places beside an item are joined
pub cuts_joined : (r : Rings) (lists items x : ℕ) → HasRoom r lists items → IsBetween (next_of r) (previous_of r) x → previous_of r (place_of x) < length r.next → next_of r (place_of x) < length r.next
    → Cuts (next_of r) (previous_of r) (next_of (joined r (previous_of r (place_of x)) (next_of r (place_of x)))) (previous_of (joined r (previous_of r (place_of x)) (next_of r (place_of x)))) x
cuts_joined r lists items x room between there to =
    let a = previous_of r (place_of x) in
    let b = next_of r (place_of x) in
    let both : length r.previous ≡ length r.next = room.both_ways in
    let back : b < length r.previous = omega arith in
    record {
      between = between;
      next_here = next_joined r a b there;
      next_other = λ k other. next_joined_other r a b k other;
      previous_here = previous_joined r a b back;
      previous_other = λ k other. previous_joined_other r a b k other;
    }

-- an item comes between two places
abbrev pub inserted : Rings → ℕ → ℕ → ℕ → Rings
inserted r before x after = joined (joined r before (place_of x)) (place_of x) after

pub room_inserted : (r : Rings) (lists items before x after : ℕ) → HasRoom r lists items → before < length r.next → place_of x < length r.next → after < length r.next
    → HasRoom (inserted r before x after) lists items
room_inserted r lists items before x after room there here to =
    let same : length (joined r before (place_of x)).next ≡ length r.next = length_joined r before (place_of x) in
    room_joined (joined r before (place_of x)) lists items (place_of x) after (room_joined r lists items before (place_of x) room there here)
    (subst (λ n. place_of x < n) (sym same) here) (subst (λ n. after < n) (sym same) to)

pub inserts_inserted : (r : Rings) (lists items before x after : ℕ) → HasRoom r lists items → before < length r.next → place_of x < length r.next → after < length r.next
    → next_of r before ≡ after → previous_of r after ≡ before → before ≢ place_of x → after ≢ place_of x
    → Inserts (next_of r) (previous_of r) (next_of (inserted r before x after)) (previous_of (inserted r before x after)) before x after
inserts_inserted r lists items before x after room there here to next previous not_before not_after =
    let p = place_of x in
    let r' = joined r before p in
    let both : length r.previous ≡ length r.next = room.both_ways in
    let same : length r'.next ≡ length r.next = length_joined r before p in
    let back : length r'.previous ≡ length r.previous = length-set r.previous p (before + 1) in
    let h : p < length r'.next = omega arith in
    let k : after < length r'.previous = omega arith in
    let i : p < length r.previous = omega arith in
    record {
      there = next;
      back = previous;
      next_before = next_joined_other r' p after before not_before ∙ next_joined r before p there;
      next_item = next_joined r' p after h;
      next_other = λ n other new. next_joined_other r' p after n new ∙ next_joined_other r before p n other;
      previous_after = previous_joined r' p after k;
      previous_item = previous_joined_other r' p after p (λ e. not_after (sym e)) ∙ previous_joined r before p i;
      previous_other = λ n other new. previous_joined_other r' p after n other ∙ previous_joined_other r before p n new;
    }
