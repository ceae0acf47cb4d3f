-- Entries in slots: what the entries by id are, and that slots stay apart, after a slot was written.
use Rattle.std.proofs.Common.{◌≡◌, ◌≢◌, ◌⊎◌, inl, inr, ℕ, zero, suc, ◌+◌, ◌-◌, ◌<◌, ◌≤◌, nat_lt, true, false, List, [], ◌∷◌, Option, Some, None, is_some, IsSome, count_by, map, length, refl, ap, sym, ◌∙◌, subst, arith, add-one, slice_set, slice_index_or, vec_capacity}
use Rattle.std.proofs.lemmas.Bool.{cases_eq, cases_lt}
use Rattle.std.proofs.lemmas.Bool.Decides.{nat_tests}
use Rattle.std.proofs.lemmas.List.{length-map}
use Rattle.std.proofs.lemmas.List.Sums.{count_by-le-length}
use Rattle.slab.specs.Slab.{Slab, get, slab_len, Updates, with_value}
use Rattle.slab.proofs.SlabLemmas.{Updates-with_value}
use Rattle.wdf_model.specs.Tables.{entry, flag, put}
use Rattle.wdf_model.proofs.Maps.{entry_past, entry_put_other, entry_put_same, put_put, put_short, put_within, set_as_it_was}
use Rattle.wdf_model.proofs.Counts.{count_cons}
use Rattle.wdf_maps.proofs.Counting.{count_put}
use Rattle.wdf_slots.specs.InSlots.{AreApart, HaveSlots, in_slot, read_slot}
use Rattle.wdf_slots.specs.declared.slots.Slots.TheInside.{Inside}

module _ {T : Type 0} (blank : T) where
  -- ---- lists by id, read through the slots

  -- there are as many entries as ids came
  pub id_within : (read : ℕ → T) (l : List ℕ) (xs : List T) (id : ℕ) → map read l ≡ xs → id < length xs → id < length l
  id_within read l xs id e within = let one = length-map l read in let other = ap length e in omega arith

  -- the entry of an id is read in its slot
  pub entry_read : (read : ℕ → T) (l : List ℕ) (id : ℕ) → read 0 ≡ blank → entry blank (map read l) id ≡ read (entry 0 l id)
  entry_read read [] id z = sym z
  entry_read read (x ∷ l) zero z = refl
  entry_read read (x ∷ l) (suc id) z = entry_read read l id z

  same_read : (old new : ℕ → T) (l : List ℕ) → ((i : ℕ) → new (entry 0 l i) ≡ old (entry 0 l i)) → map new l ≡ map old l
  same_read old new [] same = refl
  same_read old new (x ∷ l) same = rw (same_read old new l (λ i. same (suc i))) (ap (λ r. r ∷ map old l) (same 0))

  -- where all others read as they did, the list is written at one id
  written : (old new : ℕ → T) (l : List ℕ) (id slot : ℕ) → old 0 ≡ blank → new 0 ≡ blank
      → ((i : ℕ) → i ≢ id → new (entry 0 l i) ≡ old (entry 0 l i)) → map new (put 0 l id slot) ≡ put blank (map old l) id (new slot)
  written old new [] zero slot a b same = refl
  written old new [] (suc id) slot a b same = rw b (ap (λ rs. blank ∷ rs) (written old new [] id slot a b (λ i n. b ∙ sym a)))
  written old new (x ∷ l) zero slot a b same = ap (λ rs. new slot ∷ rs) (same_read old new l (λ i. same (suc i) (λ e. let z : ⊥ = omega arith in z)))
  written old new (x ∷ l) (suc id) slot a b same =
      rw (same 0 (λ e. let z : ⊥ = omega arith in z)) (ap (λ rs. old x ∷ rs) (written old new l id slot a b (λ i n. same (suc i) (λ e. n (let z : i ≡ id = omega arith in z)))))

  -- ---- slots of one id each

  -- no other id has this slot
  abbrev pub IsOnlyOf : List ℕ → ℕ → ℕ → Type 0
  IsOnlyOf l id key = (i : ℕ) → i ≢ id → entry 0 l i ≢ suc key

  -- the slot of an id is of no other
  pub only_its : (l : List ℕ) (slots : Slab T) (id key : ℕ) → AreApart l slots → entry 0 l id ≡ suc key → IsOnlyOf l id key
  only_its l slots id key h is i n e = n (h.apart id i key is e)

  -- a slot that isn't taken is of none
  pub only_of_none : (l : List ℕ) (slots : Slab T) (id key : ℕ) → AreApart l slots → get slots key ≡ None → IsOnlyOf l id key
  only_of_none l slots id key h vacant i n e = let z : false ≡ true = ap is_some (sym vacant) ∙ h.taken i key e in let y : ⊥ = cc in y

  others_read_at : (old new : Slab T) (key slot : ℕ) (x : Option T) → Updates old new key x → slot ≢ suc key → read_slot blank new slot ≡ read_slot blank old slot
  others_read_at old new key zero x u n = refl
  others_read_at old new key (suc k) x u n = ap (in_slot blank) (u.others k (λ e. n (ap suc e)))

  -- the entries by id, after the slot of one was written
  pub entries_written : (l : List ℕ) (old new : Slab T) (id key slot : ℕ) (x : Option T) → IsOnlyOf l id key → Updates old new key x
      → map (read_slot blank new) (put 0 l id slot) ≡ put blank (map (read_slot blank old) l) id (read_slot blank new slot)
  entries_written l old new id key slot x only u = written (read_slot blank old) (read_slot blank new) l id slot refl refl (λ i n. others_read_at old new key (entry 0 l i) x u (only i n))

  -- each slot that an id has is still taken
  taken_written : (l : List ℕ) (old new : Slab T) (id key slot : ℕ) (x : Option T) → AreApart l old → IsOnlyOf l id key → Updates old new key x
      → ((k : ℕ) → slot ≡ suc k → IsSome (get new k))
      → (i k : ℕ) → entry 0 (put 0 l id slot) i ≡ suc k → IsSome (get new k)
  taken_written l old new id key slot x h only u its i k e = by_cases (cases_eq i id)
    where
      by_cases : (i ≡ id) ⊎ (i ≢ id) → IsSome (get new k)
      by_cases (inl same) = its k (sym (entry_put_same 0 l id slot) ∙ ap (entry 0 (put 0 l id slot)) (sym same) ∙ e)
      by_cases (inr other) =
          let was : entry 0 l i ≡ suc k = sym (entry_put_other 0 l id i slot other) ∙ e in
          let apart : k ≢ key = λ same. only i other (was ∙ ap suc same) in
          subst IsSome (sym (u.others k apart)) (h.taken i k was)

  -- two ids still have no slot in common
  apart_written : (l : List ℕ) (old : Slab T) (id key slot : ℕ) → AreApart l old → IsOnlyOf l id key → ((k : ℕ) → slot ≡ suc k → k ≡ key)
      → (i j k : ℕ) → entry 0 (put 0 l id slot) i ≡ suc k → entry 0 (put 0 l id slot) j ≡ suc k → j ≡ i
  apart_written l old id key slot h only its i j k e d = by_cases (cases_eq i id) (cases_eq j id)
    where
      its_key : (m : ℕ) → m ≡ id → entry 0 (put 0 l id slot) m ≡ suc k → k ≡ key
      its_key m same is = its k (sym (entry_put_same 0 l id slot) ∙ ap (entry 0 (put 0 l id slot)) (sym same) ∙ is)

      was : (m : ℕ) → m ≢ id → entry 0 (put 0 l id slot) m ≡ suc k → entry 0 l m ≡ suc k
      was m other is = sym (entry_put_other 0 l id m slot other) ∙ is

      by_cases : (i ≡ id) ⊎ (i ≢ id) → (j ≡ id) ⊎ (j ≢ id) → j ≡ i
      by_cases (inl same) (inl too) = too ∙ sym same
      by_cases (inl same) (inr other) = absurd (only j other (was j other d ∙ ap suc (its_key i same e)))
      by_cases (inr other) (inl same) = absurd (only i other (was i other e ∙ ap suc (its_key j same d)))
      by_cases (inr other) (inr too) = h.apart i j k (was i other e) (was j too d)

  -- ---- room

  -- where an id has no slot, there is one for it
  pub room_for_one : (l : List ℕ) (slots : Slab T) (id most : ℕ) → AreApart l slots → entry 0 l id ≡ 0 → id < most → length l ≤ most → slab_len slots < most
  room_for_one l slots id most h none within few =
      let more = count_put (nat_lt 0) 0 l id 1 refl in
      let was : flag (nat_lt 0 (entry 0 l id)) ≡ 0 = ap (λ s. flag (nat_lt 0 s)) none in
      let all = count_by-le-length (nat_lt 0) (put 0 l id 1) in
      let short = put_short 0 l id 1 most within few in
      let many = h.many in
      omega arith

  -- ---- a slot that an id has is written

  count_set : (slots : List (Option T)) (key : ℕ) (r s : T) → slice_index_or slots key None ≡ Some r → count_by is_some (slice_set slots key (Some s)) ≡ count_by is_some slots
  count_set [] key r s e = absurd (let z : ⊥ = cc in z)
  count_set (o ∷ slots) zero r s e =
      let a = count_cons is_some (Some s) slots in
      let b = count_cons is_some o slots in
      let c : flag (is_some o) ≡ 1 = ap (λ x. flag (is_some x)) e in
      omega arith
  count_set (o ∷ slots) (suc key) r s e =
      let a = count_cons is_some o (slice_set slots key (Some s)) in
      let b = count_cons is_some o slots in
      let c = count_set slots key r s e in
      omega arith

  -- the slot of an id is taken
  pub slot_there : (l : List ℕ) (slots : Slab T) (id after : ℕ) → AreApart l slots → after ≡ entry 0 l id → after ≢ 0 → IsSome (get slots (after - 1))
  slot_there l slots id after h is n = h.taken id (after - 1) (let z : suc (after - 1) ≡ after = omega arith in sym is ∙ sym z)

  module _ (l : List ℕ) (slots : Slab T) (id key : ℕ) (r value : T) (h : AreApart l slots) (its_key : entry 0 l id ≡ suc key) (here : get slots key ≡ Some r) where
    its_update : Updates slots (with_value slots key value) key (Some value)
    its_update = Updates-with_value slots key value (h.taken id key its_key)

    -- the slots stay apart
    pub apart_in_place : AreApart l (with_value slots key value)
    apart_in_place = record {
      taken = λ i k e. by_case i k e (cases_eq k key);
      apart = h.apart;
      many = count_set slots.slots key r value here ∙ h.many;
    }
      where
        by_case : (i k : ℕ) → entry 0 l i ≡ suc k → (k ≡ key) ⊎ (k ≢ key) → IsSome (get (with_value slots key value) k)
        by_case i k e (inl same) = subst (λ m. IsSome (get (with_value slots key value) m)) (sym same) (subst IsSome (sym its_update.changed) refl)
        by_case i k e (inr other) = subst IsSome (sym (its_update.others k other)) (h.taken i k e)

    same_list : put 0 l id (suc key) ≡ l
    same_list = by_case (cases_lt id (length l))
      where
        by_case : (id < length l) ⊎ (length l ≤ id) → put 0 l id (suc key) ≡ l
        by_case (inl within) = ap (put 0 l id) (sym its_key) ∙ put_within 0 l id (entry 0 l id) within ∙ set_as_it_was 0 l id
        by_case (inr past) = let z : 0 ≡ suc key = sym (entry_past 0 l id past) ∙ its_key in absurd (let y : ⊥ = omega arith in y)

    -- the entry of the id is written
    pub entries_in_place : map (read_slot blank (with_value slots key value)) l ≡ put blank (map (read_slot blank slots) l) id value
    entries_in_place =
        ap (map (read_slot blank (with_value slots key value))) (sym same_list)
        ∙ entries_written l slots (with_value slots key value) id key (suc key) (Some value) (only_its l slots id key h its_key) its_update
        ∙ ap (put blank (map (read_slot blank slots) l) id) (ap (in_slot blank) its_update.changed)

    -- the same of an id that came
    pub entries_set : id < length (map (read_slot blank slots) l) → map (read_slot blank (with_value slots key value)) l ≡ slice_set (map (read_slot blank slots) l) id value
    entries_set came = entries_in_place ∙ put_within blank (map (read_slot blank slots) l) id value came

    -- what it was
    pub entry_was : entry blank (map (read_slot blank slots) l) id ≡ r
    entry_was = entry_read (read_slot blank slots) l id refl ∙ ap (read_slot blank slots) its_key ∙ ap (in_slot blank) here

  -- ---- an id gets a slot, or gives it back

  one_slot : (slot : ℕ) → 0 < slot → flag (nat_lt 0 slot) ≡ 1
  one_slot slot more = ap flag (let z : nat_lt 0 slot ≡ true = grind (arith, nat_tests) in z)

  module _ (l : List ℕ) (slots new : Slab T) (id key : ℕ) (s : T) (h : AreApart l slots) (none : entry 0 l id ≡ 0) (vacant : get slots key ≡ None) (u : Updates slots new key (Some s)) where
    pub apart_inserted : slab_len new ≡ slab_len slots + 1 → AreApart (put 0 l id (key + 1)) new
    apart_inserted one = record {
      taken = taken_written l slots new id key (key + 1) (Some s) h (only_of_none l slots id key h vacant) u
          (λ k e. let same : k ≡ key = omega arith in subst (λ m. IsSome (get new m)) (sym same) (subst IsSome (sym u.changed) refl));
      apart = apart_written l slots id key (key + 1) h (only_of_none l slots id key h vacant) (λ k e. let same : k ≡ key = omega arith in same);
      many =
          let counts = count_put (nat_lt 0) 0 l id (key + 1) refl in
          let was : flag (nat_lt 0 (entry 0 l id)) ≡ 0 = ap (λ s. flag (nat_lt 0 s)) none in
          let is : flag (nat_lt 0 (key + 1)) ≡ 1 = one_slot (key + 1) (omega arith) in
          let before = h.many in
          omega arith;
    }

    pub entries_inserted : map (read_slot blank new) (put 0 l id (key + 1)) ≡ put blank (map (read_slot blank slots) l) id s
    entries_inserted =
        entries_written l slots new id key (key + 1) (Some s) (only_of_none l slots id key h vacant) u
        ∙ ap (put blank (map (read_slot blank slots) l) id) (ap (read_slot blank new) (add-one key) ∙ ap (in_slot blank) u.changed)

  module _ (l : List ℕ) (slots new : Slab T) (id key : ℕ) (h : AreApart l slots) (its_place : entry 0 l id ≡ suc key) (u : Updates slots new key None) where
    pub apart_removed : slab_len new + 1 ≡ slab_len slots → AreApart (put 0 l id 0) new
    apart_removed one = record {
      taken = taken_written l slots new id key 0 None h (only_its l slots id key h its_place) u (λ k e. absurd (let z : ⊥ = omega arith in z));
      apart = apart_written l slots id key 0 h (only_its l slots id key h its_place) (λ k e. absurd (let z : ⊥ = omega arith in z));
      many =
          let counts = count_put (nat_lt 0) 0 l id 0 refl in
          let was : flag (nat_lt 0 (entry 0 l id)) ≡ 1 = one_slot (entry 0 l id) (omega (arith, its_place)) in
          let before = h.many in
          omega arith;
    }

    pub entries_removed : map (read_slot blank new) (put 0 l id 0) ≡ put blank (map (read_slot blank slots) l) id blank
    entries_removed = entries_written l slots new id key 0 None (only_its l slots id key h its_place) u

  -- ---- an id without a slot has none

  module _ (l : List ℕ) (slots : Slab T) (id : ℕ) (h : AreApart l slots) (none : entry 0 l id ≡ 0) where
    stays : (i : ℕ) → entry 0 (put 0 l id 0) i ≡ entry 0 l i
    stays i = by_cases (cases_eq i id)
      where
        by_cases : (i ≡ id) ⊎ (i ≢ id) → entry 0 (put 0 l id 0) i ≡ entry 0 l i
        by_cases (inl same) = ap (entry 0 (put 0 l id 0)) same ∙ entry_put_same 0 l id 0 ∙ sym none ∙ ap (entry 0 l) (sym same)
        by_cases (inr other) = entry_put_other 0 l id i 0 other

    pub apart_without : AreApart (put 0 l id 0) slots
    apart_without = record {
      taken = λ i k e. h.taken i k (sym (stays i) ∙ e);
      apart = λ i j k e d. h.apart i j k (sym (stays i) ∙ e) (sym (stays j) ∙ d);
      many =
          let counts = count_put (nat_lt 0) 0 l id 0 refl in
          let was : flag (nat_lt 0 (entry 0 l id)) ≡ 0 = ap (λ s. flag (nat_lt 0 s)) none in
          let before = h.many in
          omega arith;
    }

    pub entries_without : map (read_slot blank slots) (put 0 l id 0) ≡ put blank (map (read_slot blank slots) l) id blank
    entries_without = written (read_slot blank slots) (read_slot blank slots) l id 0 refl refl (λ i n. refl)

  -- ---- the slots by the fields, after one was written

  -- one more than a key, where it is none of 0
  pub key_of : (l : List ℕ) (id after : ℕ) → after ≡ entry 0 l id → after ≢ 0 → entry 0 l id ≡ suc (after - 1)
  key_of l id after is n = let z : suc (after - 1) ≡ after = omega arith in sym is ∙ sym z

  -- an entry is another, in its slot
  pub slots_in_place : (most : ℕ) (a : Inside T) (id key : ℕ) (r value : T) → HaveSlots blank most a → entry 0 a.slot_of.items id ≡ suc key → get a.slots key ≡ Some r
      → HaveSlots blank most (record a { slots = with_value a.slots key value })
  slots_in_place most a id key r value h is here = record {
    room = h.room;
    slots_room = h.slots_room;
    keys = h.keys;
    few = h.few;
    blank = h.blank;
    apart = apart_in_place a.slot_of.items a.slots id key r value h.apart is here;
  }

  -- an id has another slot, or none
  pub slots_put : (most : ℕ) (a b : Inside T) (id slot : ℕ) → HaveSlots blank most a → id < most → b.slot_of.items ≡ put 0 a.slot_of.items id slot
      → vec_capacity a.slot_of ≤ vec_capacity b.slot_of → b.slots.capacity ≡ a.slots.capacity → b.blank ≡ a.blank
      → AreApart (put 0 a.slot_of.items id slot) b.slots → HaveSlots blank most b
  slots_put most a b id slot h within entries room same blank apart =
      let before = h.room in
      record {
        room = omega arith;
        slots_room = rw same h.slots_room;
        keys = rw same h.keys;
        few = rw entries (put_short 0 a.slot_of.items id slot most within h.few);
        blank = blank ∙ h.blank;
        apart = rw entries apart;
      }

  -- the entry of an id without a slot
  pub entry_is_blank : (l : List ℕ) (slots : Slab T) (id : ℕ) → entry 0 l id ≡ 0 → entry blank (map (read_slot blank slots) l) id ≡ blank
  entry_is_blank l slots id none = entry_read (read_slot blank slots) l id refl ∙ ap (read_slot blank slots) none

  -- an id has a slot from now on, and its entry is lent
  module _ (most : ℕ) (a b : Inside T) (id key : ℕ) (s : T) (h : HaveSlots blank most a) (within : id < most) (none : entry 0 a.slot_of.items id ≡ 0)
      (vacant : get a.slots key ≡ None) (u : Updates a.slots b.slots key (Some s)) (one : slab_len b.slots ≡ slab_len a.slots + 1)
      (entries : b.slot_of.items ≡ put 0 a.slot_of.items id (key + 1)) where
    pub slots_inserted : vec_capacity a.slot_of ≤ vec_capacity b.slot_of → b.slots.capacity ≡ a.slots.capacity → b.blank ≡ a.blank → HaveSlots blank most b
    slots_inserted room same again =
        slots_put most a b id (key + 1) h within entries room same again (apart_inserted a.slot_of.items a.slots b.slots id key s h.apart none vacant u one)

    its_new_key : entry 0 b.slot_of.items id ≡ suc key
    its_new_key = ap (λ l. entry 0 l id) entries ∙ entry_put_same 0 a.slot_of.items id (key + 1) ∙ add-one key

    pub slots_lent : vec_capacity a.slot_of ≤ vec_capacity b.slot_of → b.slots.capacity ≡ a.slots.capacity → b.blank ≡ a.blank
        → (w : T) → HaveSlots blank most (record b { slots = with_value b.slots key w })
    slots_lent room same again w = slots_in_place most b id key s w (slots_inserted room same again) its_new_key u.changed

    pub entries_lent : id < length (map (read_slot blank a.slots) a.slot_of.items) → (w : T)
        → map (read_slot blank (with_value b.slots key w)) b.slot_of.items ≡ slice_set (map (read_slot blank a.slots) a.slot_of.items) id w
    entries_lent came w =
        let apart : AreApart b.slot_of.items b.slots = subst (λ l. AreApart l b.slots) (sym entries) (apart_inserted a.slot_of.items a.slots b.slots id key s h.apart none vacant u one) in
        let was : map (read_slot blank b.slots) b.slot_of.items ≡ put blank (map (read_slot blank a.slots) a.slot_of.items) id s =
        ap (map (read_slot blank b.slots)) entries ∙ entries_inserted a.slot_of.items a.slots b.slots id key s h.apart none vacant u in
        entries_in_place b.slot_of.items b.slots id key s w apart its_new_key u.changed
        ∙ ap (λ xs. put blank xs id w) was
        ∙ put_put blank (map (read_slot blank a.slots) a.slot_of.items) id s w
        ∙ put_within blank (map (read_slot blank a.slots) a.slot_of.items) id w came
