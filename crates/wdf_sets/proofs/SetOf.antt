-- The set of the ids that pass a test: without members, after one id is written, and where it has no member.
use Rattle.std.proofs.Common.{ℕ, zero, suc, ◌≡◌, ◌≢◌, ◌⊎◌, ◌<◌, ◌≤◌, ◌==◌, nat_lt, Bool, true, false, ◌&&◌, not, List, [], ◌∷◌, Some, None, length, map, replicate, slice_get, slice_index_or, slice_set, get_or-set_same, get_or-set_other, length-set, refl, sym, ap, ◌∙◌, inl, inr, arith}
use Rattle.std.specs.List.{list_all}
use Rattle.std.proofs.lemmas.Bool.{cases_eq, cases_lt}
use Rattle.std.proofs.lemmas.Bool.Decides.{nat_tests}
use Rattle.std.proofs.lemmas.List.{get_or_past, length-replicate}
use Rattle.std.proofs.lemmas.List.Folds.{list_all_at}
use Rattle.wdf_sets.specs.Members.{is_in, members, rank}
use Rattle.wdf_sets.specs.SetOf.{IsSetOf, passes}
use Rattle.wdf_sets.proofs.Nexts.{next_is, none_next}

-- ---- a set without members

pub none_in : (n id : ℕ) → is_in id (replicate n false) ≡ false
none_in zero id = refl
none_in (suc n) zero = refl
none_in (suc n) (suc id) = none_in n id

pub empty_set : (test : ℕ → Bool) (end n : ℕ) (bits : List Bool) → bits ≡ replicate n false → end ≤ n → ((id : ℕ) → test id ≡ false) → IsSetOf test end bits
empty_set test end n bits e room none = rw e (record {
  room = rw (length-replicate n false) room;
  same = λ id. none_in n id ∙ sym (none id);
})

-- where none of a list's entries passes, as they are made
module _ {A T : Type 0} (blank : T) (test : T → Bool) (make : A → T) (none : test blank ≡ false) (each : (x : A) → test (make x) ≡ false) where
  pub none_made : (xs : List A) (id : ℕ) → passes blank test (map make xs) id ≡ false
  none_made [] id = none
  none_made (x ∷ xs) zero = each x
  none_made (x ∷ xs) (suc id) = none_made xs id

-- ---- one id is written

-- its bit says whether it passes the new test, which says of the others what the old one did
pub set_put : (old new : ℕ → Bool) (end : ℕ) (bits : List Bool) (id : ℕ) (on : Bool) → IsSetOf old end bits → id < length bits → on ≡ new id → ((other : ℕ) → other ≢ id → new other ≡ old other)
    → IsSetOf new end (slice_set bits id on)
set_put old new end bits id on set there here others = record {
  room = rw (length-set bits id on) set.room;
  same = λ x. by x (cases_eq x id);
}
  where
    by : (x : ℕ) → (x ≡ id) ⊎ (x ≢ id) → is_in x (slice_set bits id on) ≡ new x
    by x (inl same) = rw (same, get_or-set_same bits id on false there) here
    by x (inr other) = rw (get_or-set_other bits id x on false other, others x other) (set.same x)

module _ {T : Type 0} (blank : T) (test : T → Bool) (all : List T) (bits : List Bool) (id : ℕ) (new : T) (set : IsSetOf (passes blank test all) (length all) bits) (there : id < length all) where
  -- the entry of an id in a list, and its bit
  pub entry_written : IsSetOf (passes blank test (slice_set all id new)) (length (slice_set all id new)) (slice_set bits id (test new))
  entry_written =
      let within : id < length bits = let room = set.room in omega arith in
      rw (length-set all id new)
      (set_put (passes blank test all) (passes blank test (slice_set all id new)) (length all) bits id (test new) set within (ap test (sym (get_or-set_same all id new blank there))) (λ other ne. ap test (get_or-set_other all id other new blank ne)))

  -- the entry of an id in a list, of which the test says what it did before
  pub entry_kept : test new ≡ passes blank test all id → IsSetOf (passes blank test (slice_set all id new)) (length (slice_set all id new)) bits
  entry_kept e = record {
    room = rw (length-set all id new) set.room;
    same = λ x. by x (cases_eq x id);
  }
    where
      by : (x : ℕ) → (x ≡ id) ⊎ (x ≢ id) → is_in x bits ≡ passes blank test (slice_set all id new) x
      by x (inl same) = rw (same, get_or-set_same all id new blank there, e) (set.same id)
      by x (inr other) = rw (get_or-set_other all id x new blank other) (set.same x)

-- ---- whether it has a member

pub none_is : (n : ℕ) → (n == 0) ≡ not (nat_lt 0 n)
none_is n = by (nat_lt 0 n) refl
  where
    by : (b : Bool) → nat_lt 0 n ≡ b → (n == 0) ≡ not b
    by true some = grind (arith, nat_tests)
    by false none = grind (arith, nat_tests)

not_none : (n : ℕ) → (suc n == 0) ≡ false
not_none n = grind (arith, nat_tests)

left : (a b : Bool) → (a && b) ≡ true → (a ≡ true) × (b ≡ true)
left true b e = (refl, e)
left false b e = absurd (let z : ⊥ = cc in z)

module _ {T : Type 0} (blank : T) (test : T → Bool) where
  -- where all entries of a list pass, and the blank one does, each does
  pub each_passes : test blank ≡ true → (all : List T) (id : ℕ) → list_all test all ≡ true → passes blank test all id ≡ true
  each_passes e [] id h = e
  each_passes e (x ∷ all) zero h = (left (test x) (list_all test all) h).0
  each_passes e (x ∷ all) (suc id) h = each_passes e all id (left (test x) (list_all test all) h).1

  all_pass : (all : List T) → ((id : ℕ) → passes blank test all id ≡ true) → list_all test all ≡ true
  all_pass [] h = refl
  all_pass (x ∷ all) h = rw (h 0) (all_pass all (λ id. h (suc id)))

-- the set of the entries that pass a test has no member exactly where all entries pass the opposite test
pub no_member_is : {T : Type 0} (blank : T) (test fails : T → Bool) (all : List T) (end : ℕ) (bits : List Bool) → ((x : T) → fails x ≡ not (test x)) → test blank ≡ false
    → IsSetOf (passes blank test all) end bits → (length (members bits) == 0) ≡ list_all fails all
no_member_is blank test fails all end bits opposite none set = by (members bits) refl
  where
    within : (id : ℕ) → passes blank test all id ≡ true → (id < length all) ⊎ (length all ≤ id) → id < length all
    within id on (inl there) = there
    within id on (inr past) = let off : passes blank test all id ≡ false = ap test (get_or_past all id blank past) ∙ none in absurd (let z : ⊥ = cc in z)

    by : (xs : List ℕ) → members bits ≡ xs → (length xs == 0) ≡ list_all fails all
    by [] m =
        let nobody : None ≡ slice_get (members bits) (rank 0 bits) = ap (λ xs. slice_get xs 0) (sym m) in
        sym (all_pass blank fails all (λ id. opposite (slice_index_or all id blank) ∙ ap not (sym (set.same id) ∙ none_next bits 0 (suc id) nobody id (omega arith) (omega arith))))
    by (x ∷ xs) m =
        let first : Some x ≡ slice_get (members bits) (rank 0 bits) = ap (λ xs. slice_get xs 0) (sym m) in
        let next = next_is bits 0 (suc x) x first (omega arith) in
        let on : passes blank test all x ≡ true = sym (set.same x) ∙ next.passes in
        not_none (length xs) ∙ sym (list_all_at fails all x blank (within x on (cases_lt x (length all))) (opposite (slice_index_or all x blank) ∙ ap not on))
