-- Counts by id, after an entry was written.
use Rattle.std.proofs.Common.{if◌then◌else◌, ℕ, zero, suc, ◌≡◌, ◌⊎◌, ◌+◌, ◌-◌, ◌^◌, ◌<◌, ◌≤◌, ◌==◌, ◌||◌, nat_lt, Bool, true, false, List, [], ◌∷◌, Option, Some, None, length, refl, ap, sym, ◌∙◌, inl, inr, zero-add, arith}
use Rattle.std.specs.List.{count_by, list_any}
use Rattle.std.proofs.lemmas.Bool.{eq-eqb, ne_eqb, cases_eq}
use Rattle.std.proofs.lemmas.Bool.Decides.{nat_tests}
use Rattle.std.proofs.lemmas.List.Sums.{count_by-le-length}
use Rattle.wdf_base.specs.declared.ids.ObjectId.{ObjectId}
use Rattle.wdf_model.specs.declared.room.TheConstants.{OBJECTS}
use Rattle.wdf_model.specs.Tables.{entry, put, flag}
use Rattle.wdf_model.proofs.Counts.{count_cons}
use Rattle.wdf_model.proofs.Maps.{entry_put_same, entry_put_other}
use Rattle.wdf_maps.specs.Counts.{AreCounted, changed_at, count_at, is_at, moved_count}

-- ---- a count at one place

-- how a count changes where an entry is written; blank entries don't count
pub count_put : {T : Type 0} (p : T → Bool) (blank : T) (xs : List T) (id : ℕ) (new : T) → p blank ≡ false
    → count_by p (put blank xs id new) + flag (p (entry blank xs id)) ≡ count_by p xs + flag (p new)
count_put {T} p blank [] zero new e =
    let nil : List T = [] in
    let none : flag (p blank) ≡ 0 = ap flag e in
    let one = count_cons p new nil in
    omega arith
count_put {T} p blank [] (suc id) new e =
    let nil : List T = [] in
    let none : flag (p blank) ≡ 0 = ap flag e in
    let first = count_cons p blank (put blank nil id new) in
    let rest = count_put p blank nil id new e in
    omega arith
count_put p blank (x ∷ xs) zero new e =
    let before = count_cons p x xs in
    let after = count_cons p new xs in
    omega arith
count_put p blank (x ∷ xs) (suc id) new e =
    let before = count_cons p x xs in
    let after = count_cons p x (put blank xs id new) in
    let rest = count_put p blank xs id new e in
    omega arith

-- ---- the counts of all ids

at_by : (counts : List ℕ) (f : ℕ → ℕ) (o id : ℕ) → (o ≡ id) ⊎ (o ≡ id → ⊥)
    → entry 0 (put 0 counts o (f (entry 0 counts o))) id ≡ (if o == id then f (entry 0 counts id) else entry 0 counts id)
at_by counts f o id (inl same) =
    rw (eq-eqb o id same, same) (entry_put_same 0 counts id (f (entry 0 counts id)))
at_by counts f o id (inr other) =
    rw (ne_eqb o id other) (entry_put_other 0 counts o id (f (entry 0 counts o)) (λ e. other (sym e)))

room_by : (counts : List ℕ) (f : ℕ → ℕ) (o id : ℕ) (b : Bool) → nat_lt o OBJECTS ≡ b → id < OBJECTS
    → entry 0 (if b then put 0 counts o (f (entry 0 counts o)) else counts) id ≡ (if o == id then f (entry 0 counts id) else entry 0 counts id)
room_by counts f o id true e h = at_by counts f o id (cases_eq o id)
room_by counts f o id false e h =
    let far : OBJECTS ≤ o = grind (arith, nat_tests) in
    rw (ne_eqb o id (λ same. absurd (omega arith))) refl

-- the count of an id after one was changed
pub at_changed : (counts : List ℕ) (f : ℕ → ℕ) (key : Option ObjectId) (id : ℕ) → id < OBJECTS
    → entry 0 (changed_at counts f key) id ≡ (if is_at id key then f (entry 0 counts id) else entry 0 counts id)
at_changed counts f None id h = refl
at_changed counts f (Some o) id h = room_by counts f o.0 id (nat_lt o.0 OBJECTS) refl h

more_is : (b : Bool) (n : ℕ) → (if b then n + 1 else n) ≡ n + flag b
more_is true n = refl
more_is false n = omega arith

less_is : (b : Bool) (n : ℕ) → (if b then n - 1 else n) ≡ n - flag b
less_is true n = refl
less_is false n = omega arith

-- what belonged to one id belongs to another
pub at_moved : (counts : List ℕ) (from to : Option ObjectId) (id : ℕ) → id < OBJECTS
    → entry 0 (moved_count counts from to) id ≡ entry 0 counts id + flag (is_at id to) - flag (is_at id from)
at_moved counts from to id h =
    let more = at_changed counts (λ n. n + 1) to id h ∙ more_is (is_at id to) (entry 0 counts id) in
    let less = at_changed (changed_at counts (λ n. n + 1) to) (λ n. n - 1) from id h ∙ less_is (is_at id from) (entry 0 (changed_at counts (λ n. n + 1) to) id) in
    less ∙ ap (λ n. n - flag (is_at id from)) more

-- the counts stay right where an entry is written
pub counted_put : {T : Type 0} (key : T → Option ObjectId) (blank : T) (xs : List T) (counts : List ℕ) (r : ℕ) (new : T) → key blank ≡ None
    → AreCounted key xs counts → AreCounted key (put blank xs r new) (moved_count counts (key (entry blank xs r)) (key new))
counted_put key blank xs counts r new none counted = record {
  count = λ id h.
      let moved = at_moved counts (key (entry blank xs r)) (key new) id h in
      let was = counted.count id h in
      let is = count_put (λ x. is_at id (key x)) blank xs r new (ap (is_at id) none) in
      omega arith;
}

-- ---- whether there is any

some_by : (b c : Bool) (n : ℕ) → nat_lt 0 n ≡ c → nat_lt 0 (flag b + n) ≡ (b || c)
some_by true c n e = grind (arith, nat_tests)
some_by false c n e = let same : flag false + n ≡ n = zero-add n in rw same e

-- there is one where the count isn't 0
pub any_counted : {T : Type 0} (p : T → Bool) (xs : List T) → nat_lt 0 (count_by p xs) ≡ list_any p xs
any_counted p [] = refl
any_counted p (x ∷ xs) = rw (count_cons p x xs) (some_by (p x) (list_any p xs) (count_by p xs) (any_counted p xs))

-- the same of another test that answers the same
pub any_same : {T : Type 0} (p q : T → Bool) (xs : List T) → ((x : T) → p x ≡ q x) → list_any p xs ≡ list_any q xs
any_same p q [] e = refl
any_same p q (x ∷ xs) e = rw (e x, any_same p q xs e) refl

-- whether an entry belongs to an id
pub any_at : {T : Type 0} (key : T → Option ObjectId) (test : T → Bool) (xs : List T) (counts : List ℕ) (id : ℕ) → id < OBJECTS
    → AreCounted key xs counts → ((x : T) → is_at id (key x) ≡ test x) → nat_lt 0 (entry 0 counts id) ≡ list_any test xs
any_at key test xs counts id h counted same =
    rw (counted.count id h) (any_counted (λ x. is_at id (key x)) xs ∙ any_same (λ x. is_at id (key x)) test xs same)

-- ---- no entries

pub none_counted : {T : Type 0} (key : T → Option ObjectId) → AreCounted key [] []
none_counted key = record { count = λ id h. refl }

-- ---- room for one more

few_at : (counts : List ℕ) (o : ObjectId) (b : Bool) → nat_lt o.0 OBJECTS ≡ b → ((id : ℕ) → id < OBJECTS → entry 0 counts id ≤ OBJECTS) → (if b then entry 0 counts o.0 else 0) ≤ OBJECTS
few_at counts o true e few = few o.0 (grind (arith, nat_tests))
few_at counts o false e few = omega arith

-- where no count is greater than the objects that a run can have are many
pub room_for_one : (counts : List ℕ) (to : Option ObjectId) → ((id : ℕ) → id < OBJECTS → entry 0 counts id ≤ OBJECTS) → count_at counts to + 1 < 2 ^ 32
room_for_one counts None few = omega arith
room_for_one counts (Some o) few = let most = few_at counts o (nat_lt o.0 OBJECTS) refl few in omega arith

-- so where the entries are no more than that
pub room_by_entries : {T : Type 0} (key : T → Option ObjectId) (entries : List T) (counts : List ℕ) (to : Option ObjectId) → length entries ≤ OBJECTS
    → AreCounted key entries counts → count_at counts to + 1 < 2 ^ 32
room_by_entries key entries counts to few counted =
    room_for_one counts to (λ id h. let e = counted.count id h in let most = count_by-le-length (λ x. is_at id (key x)) entries in omega arith)
