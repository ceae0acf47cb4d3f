-- What each call leaves: the tables are sound for the family that the call promises.
use Rattle.std.proofs.Common.{ℕ, zero, suc, ◌≡◌, ◌+◌, ◌*◌, ◌<◌, ◌≤◌, ◌^◌, true, false, List, [], ◌∷◌, ◌++◌, length, map, replicate, slice_index, slice_set, Some, refl, sym, subst, ap, ◌∙◌, arith}
use Rattle.std.proofs.lemmas.List.{length-replicate}
use Rattle.std.proofs.lemmas.Bool.{ne_eqb}
use Rattle.wdf_ilist.specs.Family.{Family, is_on, is_on_any, list_at, without, are_distinct}
use Rattle.wdf_ilist.specs.Places.{end_of, place_of, IsPath, IsLinked}
use Rattle.wdf_ilist.specs.Tables.{linked_place, next_of, previous_of, joined, entered, left}
use Rattle.wdf_ilist.specs.Links.{HasRoom, AreSound, IsSound, lists_by, family_in}
use Rattle.wdf_ilist.specs.declared.links.Links.TheInside.{Inside}
use Rattle.wdf_ilist.specs.declared.members.Members.{Members}
use Rattle.wdf_ilist.specs.declared.rings.Rings.{Rings}
use Rattle.wdf_ilist.proofs.Changes.{on_its_list}
use Rattle.wdf_ilist.proofs.Joins.{inserted}
use Rattle.wdf_ilist.proofs.Sound.{read_lists, count_room, cut, sound_without, sound_pushed, sound_in_front}
use Rattle.wdf_ilist.proofs.Read.{owner_kept, kept_some}

-- ---- a family and the tables that it was read from

pub family_sound : (links : Inside) (family : Family) → family_in links ≡ family → IsSound links → AreSound links.rings links.members family.lists
family_sound links family e s = subst (λ f. AreSound links.rings links.members f.lists) e s

-- the tables are read as the family that they are sound for
pub family_read : (r : Rings) (m : Members) (ls : List (List ℕ)) (items : ℕ) → AreSound r m ls → length m.owners ≡ items → ◌≡◌ {A = Family} (record { lists = lists_by r m; items = length m.owners }) (record { lists = ls; items = items })
family_read r m ls items s e = let f : lists_by r m ≡ ls = read_lists r m ls s in cc

-- ---- empty lists

zero_at : (n k : ℕ) → slice_index (replicate n 0) k ≡ 0
zero_at zero k = refl
zero_at (suc n) zero = refl
zero_at (suc n) (suc k) = zero_at n k

empty_at : (n q : ℕ) → list_at (replicate n []) q ≡ []
empty_at zero q = refl
empty_at (suc n) zero = refl
empty_at (suc n) (suc q) = empty_at n q

abbrev pub zeros : ℕ → List ℕ
zeros n = replicate n 0

abbrev pub rings_of : List ℕ → List ℕ → Rings
rings_of next previous = record { next = next; previous = previous }

abbrev pub members_of : List ℕ → List ℕ → Members
members_of owners counts = record { owners = owners; counts = counts }

-- rings of one place each
abbrev pub alone : ℕ → Rings
alone places = rings_of (zeros places) (zeros places)

-- no item is on a list
abbrev pub vacant : ℕ → ℕ → Members
vacant lists items = members_of (zeros items) (zeros lists)

next_alone : (places k : ℕ) → next_of (alone places) k ≡ k
next_alone places k = ap (linked_place k) (zero_at places k)

previous_alone : (places k : ℕ) → previous_of (alone places) k ≡ k
previous_alone places k = ap (linked_place k) (zero_at places k)

pub sound_vacant : (lists items places : ℕ) → 2 * lists ≤ places → 2 * items ≤ places → places < 2 ^ 32 → AreSound (alone places) (vacant lists items) (replicate lists [])
sound_vacant lists items places ends numbers few =
    let size : length (zeros places) ≡ places = length-replicate places 0 in
    let owners : length (zeros items) ≡ items = length-replicate items 0 in
    let counts : length (zeros lists) ≡ lists = length-replicate lists 0 in
    let empty : List ℕ = [] in
    let many : length (replicate lists empty) ≡ lists = length-replicate lists empty in
    let linked : IsLinked (next_of (alone places)) (previous_of (alone places)) (slice_index (zeros items)) (slice_index (zeros lists)) (length (zeros items)) (list_at (replicate lists []))
    = record {
      ring = λ q. subst (λ z. IsPath (next_of (alone places)) (previous_of (alone places)) (end_of q) z (end_of q)) (sym (empty_at lists q)) (next_alone places (end_of q), previous_alone places (end_of q));
      counted = λ q. zero_at lists q ∙ ap length (sym (empty_at lists q));
      owned = λ q x. ap (is_on x) (empty_at lists q) ∙ sym (ne_eqb (slice_index (zeros items) x) (suc q) (λ h. let none : slice_index (zeros items) x ≡ 0 = zero_at items x in absurd (omega arith)));
      once = λ q. ap are_distinct (empty_at lists q);
      within = λ x h. zero_at items x;
    } in
    let room : HasRoom (alone places) (length (zeros lists)) (length (zeros items))
    = record {
      ends = omega arith;
      places = omega arith;
      both_ways = refl;
      few = subst (λ n. n < 2 ^ 32) (sym size) few;
      next_near = λ k h. subst (λ n. n < length (zeros places)) (sym (next_alone places k)) h;
      previous_near = λ k h. subst (λ n. n < length (zeros places)) (sym (previous_alone places k)) h;
    } in
    record { linked = linked; as_many = counts ∙ sym many; room = room }

pub sound_made : (lists items places : ℕ) (r : Rings) (m : Members) → 2 * lists ≤ places → 2 * items ≤ places → places < 2 ^ 32 → r.next ≡ zeros places → r.previous ≡ zeros places
    → m.owners ≡ zeros items → m.counts ≡ zeros lists → AreSound r m (replicate lists [])
sound_made lists items places r m ends numbers few next previous owners counts =
    let rings : alone places ≡ r = ap (λ n. rings_of n (zeros places)) (sym next) ∙ ap (rings_of r.next) (sym previous) in
    let members : vacant lists items ≡ m = ap (λ n. members_of n (zeros lists)) (sym owners) ∙ ap (members_of m.owners) (sym counts) in
    subst (λ z. AreSound z m (replicate lists [])) rings (subst (λ z. AreSound (alone places) z (replicate lists [])) members (sound_vacant lists items places ends numbers few))

-- the tables of any lists, with zeros in all places, are those of as many empty lists
pub sound_cleared : (r r' : Rings) (m m' : Members) (ls : List (List ℕ)) → AreSound r m ls → r'.next ≡ zeros (length r.next) → r'.previous ≡ zeros (length r.previous)
    → m'.owners ≡ zeros (length m.owners) → m'.counts ≡ zeros (length m.counts) → AreSound r' m' (replicate (length ls) [])
sound_cleared r r' m m' ls s next previous owners counts =
    let many : length m.counts ≡ length ls = s.as_many in
    let ends : 2 * length m.counts ≤ length r.next = s.room.ends in
    sound_made (length ls) (length m.owners) (length r.next) r' m' (omega arith) s.room.places s.room.few next (previous ∙ ap zeros s.room.both_ways) owners (counts ∙ ap zeros many)

-- ---- an item goes

-- a list that has an item has a count above 0
pub count_some : (r : Rings) (m : Members) (ls : List (List ℕ)) → AreSound r m ls → (x q : ℕ) → slice_index m.owners x ≡ suc q → 0 < slice_index m.counts q
count_some r m ls s x q own =
    let on = on_its_list (next_of r) (previous_of r) (slice_index m.owners) (slice_index m.counts) (length m.owners) (list_at ls) s.linked x q own in
    let some : 0 < length (list_at ls q) = by_list (list_at ls q) on in
    let count : slice_index m.counts q ≡ length (list_at ls q) = s.linked.counted q in
    omega arith
  where
    by_list : (xs : List ℕ) → is_on x xs ≡ true → 0 < length xs
    by_list [] on = absurd (let z : ⊥ = cc in z)
    by_list (y ∷ ys) on = omega arith

pub sound_unlinked : (r r' : Rings) (m m' : Members) (ls : List (List ℕ)) (x q place before after : ℕ) → AreSound r m ls → owner_kept (slice_index m.owners x) ≡ Some q
    → place ≡ place_of x → before ≡ previous_of r place → after ≡ next_of r place → r' ≡ joined r before after → m' ≡ left m q x → AreSound r' m' (map (without x) ls)
sound_unlinked r r' m m' ls x q place before after s kept at back there e f =
    let own : slice_index m.owners x ≡ suc q = kept_some (slice_index m.owners x) q kept in
    let rings : cut r x ≡ r' = cut_is r r' x place before after at back there e in
    subst (λ z. AreSound z m' (map (without x) ls)) rings (subst (λ z. AreSound (cut r x) z (map (without x) ls)) (sym f) (sound_without r m ls x q s own (count_some r m ls s x q own)))
  where
    cut_is : (r r' : Rings) (x place before after : ℕ) → place ≡ place_of x → before ≡ previous_of r place → after ≡ next_of r place → r' ≡ joined r before after → cut r x ≡ r'
    cut_is r r' x place before after at back there e =
        sym (e ∙ ap (λ b. joined r b after) (back ∙ ap (previous_of r) at) ∙ ap (joined r (previous_of r (place_of x))) (there ∙ ap (next_of r) at))

-- ---- an item comes

-- an item of a family is one of the tables
item_within : (links : Inside) (family : Family) (x : ℕ) → family_in links ≡ family → x < family.items → x < length links.members.owners
item_within links family x e h = subst (λ f. x < f.items) (sym e) h

-- a count that grows fits
count_fits : (r : Rings) (m : Members) (ls : List (List ℕ)) → AreSound r m ls → (x q : ℕ) → x < length m.owners → is_on_any x ls ≡ false → slice_index m.counts q + 1 < 2 ^ 32
count_fits r m ls s x q there off =
    let count : slice_index m.counts q + 1 ≤ length m.owners = count_room r m ls s x q there off in
    let places : 2 * length m.owners ≤ length r.next = s.room.places in
    let few : length r.next < 2 ^ 32 = s.room.few in
    omega arith

pub count_may_grow : (links : Inside) (family : Family) (x q : ℕ) → family_in links ≡ family → IsSound links → x < family.items → is_on_any x family.lists ≡ false → slice_index links.members.counts q + 1 < 2 ^ 32
count_may_grow links family x q e s there off = count_fits links.rings links.members family.lists (family_sound links family e s) x q (item_within links family x e there) off

inserted_is : (r r' r'' : Rings) (x place before after : ℕ) → place ≡ place_of x → r' ≡ joined r before place → r'' ≡ joined r' place after → inserted r before x after ≡ r''
inserted_is r r' r'' x place before after at e f =
    sym (f ∙ ap (λ p. joined r' p after) at ∙ ap (λ z. joined z (place_of x) after) (e ∙ ap (joined r before) at))

pub sound_pushed_back : (links : Inside) (family : Family) (r' r'' : Rings) (m' : Members) (x q end place before : ℕ) → family_in links ≡ family → IsSound links
    → q < length family.lists → x < family.items → is_on_any x family.lists ≡ false → end ≡ end_of q → place ≡ place_of x → before ≡ previous_of links.rings end
    → r' ≡ joined links.rings before place → r'' ≡ joined r' place end → m' ≡ entered links.members q x → AreSound r'' m' (slice_set family.lists q (list_at family.lists q ++ x ∷ []))
sound_pushed_back links family r' r'' m' x q end place before view s known there off at_end at back e f g =
    let r = links.rings in
    let ls = family.lists in
    let from : before ≡ previous_of r (end_of q) = back ∙ ap (previous_of r) at_end in
    let rings : inserted r (previous_of r (end_of q)) x (end_of q) ≡ r'' = sym (ap (λ b. inserted r b x (end_of q)) from) ∙ ap (inserted r before x) (sym at_end) ∙ inserted_is r r' r'' x place before end at e f in
    subst (λ z. AreSound z m' (slice_set ls q (list_at ls q ++ x ∷ []))) rings
    (subst (λ z. AreSound (inserted r (previous_of r (end_of q)) x (end_of q)) z (slice_set ls q (list_at ls q ++ x ∷ []))) (sym g)
    (sound_pushed r links.members ls x q (family_sound links family view s) known (item_within links family x view there) off))

pub sound_pushed_front : (links : Inside) (family : Family) (r' r'' : Rings) (m' : Members) (x q end place after : ℕ) → family_in links ≡ family → IsSound links
    → q < length family.lists → x < family.items → is_on_any x family.lists ≡ false → end ≡ end_of q → place ≡ place_of x → after ≡ next_of links.rings end
    → r' ≡ joined links.rings end place → r'' ≡ joined r' place after → m' ≡ entered links.members q x → AreSound r'' m' (slice_set family.lists q (x ∷ list_at family.lists q))
sound_pushed_front links family r' r'' m' x q end place after view s known there off at_end at next e f g =
    let r = links.rings in
    let ls = family.lists in
    let to : after ≡ next_of r (end_of q) = next ∙ ap (next_of r) at_end in
    let rings : inserted r (end_of q) x (next_of r (end_of q)) ≡ r'' = sym (ap (inserted r (end_of q) x) to) ∙ ap (λ b. inserted r b x after) (sym at_end) ∙ inserted_is r r' r'' x place end after at e f in
    subst (λ z. AreSound z m' (slice_set ls q (x ∷ list_at ls q))) rings
    (subst (λ z. AreSound (inserted r (end_of q) x (next_of r (end_of q))) z (slice_set ls q (x ∷ list_at ls q))) (sym g)
    (sound_in_front r links.members ls x q (family_sound links family view s) known (item_within links family x view there) off))
