-- Parked frames: where each waits for a lock that is held none may come back, and where each waits for a lock those that
-- wait for a free one.
use Rattle.std.proofs.Common.{if◌then◌else◌, ◌≡◌, ◌+◌, ◌-◌, ◌==◌, ◌&&◌, ◌||◌, ◌<◌, ◌≤◌, nat_lt, not, ℕ, zero, suc, Bool, true, false, List, [], ◌∷◌, Option, Some, None, option_map, count_by, filter, length, map, slice_get, refl, ap, sym, ◌∙◌, arith}
use Rattle.std.specs.List.{cons_option, filter_map, list_all, list_any, range_with_len}
use Rattle.std.proofs.Math.Bool.{not-not}
use Rattle.std.proofs.lemmas.Bool.{eqb-false, eqb-true, le-ltb, lt-ltb, ltb-false, ltb-true}
use Rattle.std.proofs.lemmas.List.{length-map}
use Rattle.std.proofs.lemmas.List.Sums.{length-filter}
use Rattle.std.proofs.lemmas.Option.{slice_get-map}
use Rattle.wdf_base.specs.Meaning.{Meaning}
use Rattle.wdf_base.specs.declared.call.Call.{Call}
use Rattle.wdf_base.specs.declared.call.CallKind.{CallKind}
use Rattle.wdf_base.specs.declared.call.CallKind.TheVariants as call
use Rattle.wdf_base.specs.declared.event.Event.{Event}
use Rattle.wdf_base.specs.declared.frame.Pending.{Pending}
use Rattle.wdf_base.specs.declared.plan.Plan.{Plan}
use Rattle.wdf_model.specs.Ids.{cpu_of}
use Rattle.wdf_model.specs.State.{State, is_locked, object_in}
use Rattle.wdf_model.specs.Tables.{contains, flag}
use Rattle.wdf_model.specs.declared.enums.Group.TheVariants as group
use Rattle.wdf_model.specs.declared.room.TheConstants.{OBJECTS}
use Rattle.wdf_model.specs.parts.Cpus.{frame_of, is_empty_cpu}
use Rattle.wdf_model.specs.parts.Locks.{is_free_lock, object_lock}
use Rattle.wdf_model.specs.rules.Calls.{is_met}
use Rattle.wdf_model.specs.rules.Groups.{unparks}
use Rattle.wdf_model.specs.rules.Steps.{is_cpu, may, wait_is_over}
use Rattle.wdf_model.proofs.Counts.{count_cons, equal}
use Rattle.wdf_model.proofs.Tests.{both, both_left, both_right, either_false, left_fails, not_true, right_fails}
use Rattle.wdf_sets.specs.Nexts.{IsNext, NoneFrom}
use Rattle.wdf_cpu.specs.ParkedFor.{is_for, lock_in, lock_key, some_parked_for, takes_wait_lock}
use Rattle.wdf_cpu.proofs.Counting.{any_counted}
use Rattle.wdf_offers.specs.Parked.{all_blocked, is_blocked, is_counted, is_freed, is_held}
use Rattle.wdf_offers.specs.Search.{if_allowed, offered, offered_from}

-- ---- locks

key_by : (o : ℕ) (t l : Bool) → nat_lt o OBJECTS ≡ l → (if t && l then o else 0) < OBJECTS
key_by o true true e = ltb-true o OBJECTS e
key_by o true false e = omega arith
key_by o false l e = omega arith

-- the lock of a wait has an id that an object may have
key_small : (pending : Option Pending) → lock_in pending < OBJECTS
key_small None = omega arith
key_small (Some p) = key_by (object_in p.call.a) (takes_wait_lock p.call.kind) (nat_lt (object_in p.call.a) OBJECTS) refl

-- no lock has the id 0
key_there : (o : ℕ) (t l : Bool) → 0 < (if t && l then o else 0) → (t ≡ true) × ((if t && l then o else 0) ≡ o)
key_there o true true h = (refl, refl)
key_there o true false h = absurd (omega arith)
key_there o false l h = absurd (omega arith)

module _ {A : Type 0} (S : State A) where
  met_by : (c : Call) (k : CallKind) → c.kind ≡ k → takes_wait_lock k ≡ true → is_met S c ≡ is_free_lock S.locks (object_lock (object_in c.a))
  met_by c call.WdfWaitLockAcquire e t = rw e refl
  met_by c _ e t = absurd (let z : ⊥ = cc in z)

  -- the wait for a lock is over exactly where the lock is free
  over_by : (pending : Option Pending) → 0 < lock_in pending → wait_is_over S pending ≡ is_free_lock S.locks (object_lock (lock_in pending))
  over_by None h = absurd (omega arith)
  over_by (Some p) h =
      let key = key_there (object_in p.call.a) (takes_wait_lock p.call.kind) (nat_lt (object_in p.call.a) OBJECTS) h in
      met_by p.call p.call.kind refl key.0 ∙ ap (λ o. is_free_lock S.locks (object_lock o)) (sym key.1)

  held_waits : (pending : Option Pending) → is_held S (lock_in pending) ≡ true → wait_is_over S pending ≡ false
  held_waits pending h =
      over_by pending (ltb-true 0 (lock_in pending) (both_left (nat_lt 0 (lock_in pending)) (is_locked S (lock_in pending)) h))
      ∙ not_true (is_free_lock S.locks (object_lock (lock_in pending))) (both_right (nat_lt 0 (lock_in pending)) (is_locked S (lock_in pending)) h)

-- ---- all of a list

all_at : {T : Type 0} (p : T → Bool) (xs : List T) (k : ℕ) (x : T) → list_all p xs ≡ true → slice_get xs k ≡ Some x → p x ≡ true
all_at p [] k x h e = absurd (let z : ⊥ = cc in z)
all_at p (y ∷ ys) zero x h e = let same : y ≡ x = cc in ap p (sym same) ∙ both_left (p y) (list_all p ys) h
all_at p (y ∷ ys) (suc k) x h e = all_at p ys k x (both_right (p y) (list_all p ys) h) e

there_at : (xs : List ℕ) (k x : ℕ) → slice_get xs k ≡ Some x → contains x xs ≡ true
there_at [] k x e = absurd (let z : ⊥ = cc in z)
there_at (y ∷ ys) zero x e = let same : y ≡ x = cc in ap (λ b. b || contains x ys) (equal y x same)
there_at (y ∷ ys) (suc k) x e = or_right (y == x) (contains x ys) (there_at ys k x e)
  where
    or_right : (a b : Bool) → b ≡ true → (a || b) ≡ true
    or_right true b h = refl
    or_right false b h = h

none_at : (p : ℕ → Bool) (xs : List ℕ) (k x : ℕ) → list_any p xs ≡ false → slice_get xs k ≡ Some x → p x ≡ false
none_at p [] k x h e = absurd (let z : ⊥ = cc in z)
none_at p (y ∷ ys) zero x h e = let same : y ≡ x = cc in ap p (sym same) ∙ (either_false (p y) (list_any p ys) h).0
none_at p (y ∷ ys) (suc k) x h e = none_at p ys k x ((either_false (p y) (list_any p ys) h).1) e

past : (n : ℕ) → n ≡ n + 0
past n = omega arith

next : (n i : ℕ) → n + 1 + i ≡ n + suc i
next n i = omega arith

-- what is made of those elements of a list that pass a test, by their places
module _ {X Y : Type 0} (g : ℕ → Option Y) (h : X → Y) where
  mapped_by : (p : X → Bool) (x : X) (xs : List X) (ys : List Y) (b : Bool) → p x ≡ b → ys ≡ map h (filter p xs) → cons_option (if b then Some (h x) else None) ys ≡ map h (if b then x ∷ filter p xs else filter p xs)
  mapped_by p x xs ys true e rest = ap (λ zs. h x ∷ zs) rest
  mapped_by p x xs ys false e rest = rest

  mapped : (p : X → Bool) (xs : List X) (from : ℕ) → ((i : ℕ) (x : X) → slice_get xs i ≡ Some x → g (from + i) ≡ (if p x then Some (h x) else None))
      → filter_map g (range_with_len from (length xs)) ≡ map h (filter p xs)
  mapped p [] from all = refl
  mapped p (x ∷ xs) from all =
      ap (λ o. cons_option o (filter_map g (range_with_len (from + 1) (length xs)))) (ap g (past from) ∙ all 0 x refl)
      ∙ mapped_by p x xs (filter_map g (range_with_len (from + 1) (length xs))) (p x) refl (mapped p xs (from + 1) (λ i y e. ap g (next from i) ∙ all (suc i) y e))

  few : (from n : ℕ) → length (filter_map g (range_with_len from n)) ≤ n
  few from zero = omega arith
  few from (suc n) = by (g from) (few (from + 1) n)
    where
      by : (o : Option Y) → length (filter_map g (range_with_len (from + 1) n)) ≤ n → length (cons_option o (filter_map g (range_with_len (from + 1) n))) ≤ suc n
      by None rest = omega arith
      by (Some y) rest = omega arith

  -- where as many are made as there are elements, each is made
  full_by : (x : X) (xs : List X) (from : ℕ) (o : Option Y) → ((y : Y) → o ≡ Some y → y ≡ h x) → length (cons_option o (filter_map g (range_with_len (from + 1) (length xs)))) ≡ suc (length xs)
      → (length (filter_map g (range_with_len (from + 1) (length xs))) ≡ length xs → filter_map g (range_with_len (from + 1) (length xs)) ≡ map h xs)
      → cons_option o (filter_map g (range_with_len (from + 1) (length xs))) ≡ h x ∷ map h xs
  full_by x xs from None only many rest = absurd (let f = few (from + 1) (length xs) in omega arith)
  full_by x xs from (Some y) only many rest = let same : y ≡ h x = only y refl in rw same (ap (λ zs. h x ∷ zs) (rest (omega arith)))

  full : (xs : List X) (from : ℕ) → ((i : ℕ) (x : X) (y : Y) → slice_get xs i ≡ Some x → g (from + i) ≡ Some y → y ≡ h x)
      → length (filter_map g (range_with_len from (length xs))) ≡ length xs → filter_map g (range_with_len from (length xs)) ≡ map h xs
  full [] from only many = refl
  full (x ∷ xs) from only many =
      full_by x xs from (g from) (λ y e. only 0 x y refl (ap g (sym (past from)) ∙ e)) many
      (λ all. full xs (from + 1) (λ i z y e f. only (suc i) z y e (ap g (sym (next from i)) ∙ f)) all)

-- ---- none may come back

module _ {A : Type 0} (S : State A) where
  -- where each waits for a lock that is held, so does the one at a place
  pub blocked_waits : (k f : ℕ) → all_blocked S ≡ true → slice_get S.cpus.parked k ≡ Some f → wait_is_over S (frame_of S.cpus f).pending ≡ false
  blocked_waits k f h e = held_waits S (frame_of S.cpus f).pending (all_at (is_blocked S) S.cpus.parked k f h e)

  one_free_by : (o x : ℕ) (xs : List ℕ) (b : Bool) → is_for S.cpus o x ≡ b → is_held S o ≡ false → (b || list_any (is_for S.cpus o) xs) ≡ true
      → (list_any (is_for S.cpus o) xs ≡ true → list_all (is_blocked S) xs ≡ false) → list_all (is_blocked S) (x ∷ xs) ≡ false
  one_free_by o x xs true e free h rest =
      let same : lock_key (frame_of S.cpus x) ≡ o = eqb-true (lock_key (frame_of S.cpus x)) o e in
      let unheld : is_blocked S x ≡ false = ap (is_held S) same ∙ free in
      ap (λ b. b && list_all (is_blocked S) xs) unheld
  one_free_by o x xs false e free h rest = right_fails (is_blocked S x) (list_all (is_blocked S) xs) (rest h)

  one_free : (o : ℕ) (xs : List ℕ) → is_held S o ≡ false → list_any (is_for S.cpus o) xs ≡ true → list_all (is_blocked S) xs ≡ false
  one_free o [] free h = absurd (let z : ⊥ = cc in z)
  one_free o (x ∷ xs) free h = one_free_by o x xs (is_for S.cpus o x) refl free h (one_free o xs free)

  -- a lock for which one waits isn't held
  pub some_unblocked : (o : ℕ) → is_held S o ≡ false → some_parked_for S.cpus o ≡ true → all_blocked S ≡ false
  some_unblocked o free h = one_free o S.cpus.parked free h

  -- a free lock isn't held
  pub free_unheld : (o : ℕ) → is_free_lock S.locks (object_lock o) ≡ true → is_held S o ≡ false
  free_unheld o free = right_fails (nat_lt 0 o) (is_locked S o) (ap not free)

  all_held : (xs : List ℕ) → ((id : ℕ) → list_any (is_for S.cpus id) xs ≡ true → is_held S id ≡ true) → list_all (is_blocked S) xs ≡ true
  all_held [] h = refl
  all_held (x ∷ xs) h =
      both (is_blocked S x) (list_all (is_blocked S) xs)
      (h (lock_key (frame_of S.cpus x)) (ap (λ b. b || list_any (is_for S.cpus (lock_key (frame_of S.cpus x))) xs) (equal (lock_key (frame_of S.cpus x)) (lock_key (frame_of S.cpus x)) refl)))
      (all_held xs (λ id e. h id (or_right (is_for S.cpus id x) (list_any (is_for S.cpus id) xs) e)))
    where
      or_right : (a b : Bool) → b ≡ true → (a || b) ≡ true
      or_right true b e = refl
      or_right false b e = e

  -- each lock below an id for which one waits is held
  abbrev pub HeldBelow : ℕ → Type 0
  HeldBelow at = (id : ℕ) → id < at → some_parked_for S.cpus id ≡ true → is_held S id ≡ true

  key_of : (id : ℕ) (xs : List ℕ) → OBJECTS ≤ id → list_any (is_for S.cpus id) xs ≡ false
  key_of id [] past = refl
  key_of id (x ∷ xs) past = by (is_for S.cpus id x) refl (key_of id xs past)
    where
      by : (b : Bool) → is_for S.cpus id x ≡ b → list_any (is_for S.cpus id) xs ≡ false → (b || list_any (is_for S.cpus id) xs) ≡ false
      by true e rest =
          let same : lock_key (frame_of S.cpus x) ≡ id = eqb-true (lock_key (frame_of S.cpus x)) id e in
          let small = key_small (frame_of S.cpus x).pending in
          absurd (let z : ⊥ = omega arith in z)
      by false e rest = rest

  -- no other is waited for
  pub each_held : (at : ℕ) → HeldBelow at → NoneFrom (some_parked_for S.cpus) at OBJECTS → all_blocked S ≡ true
  each_held at below none = all_held S.cpus.parked (λ id h. by id h (nat_lt id at) refl (nat_lt id OBJECTS) refl)
    where
      by : (id : ℕ) → some_parked_for S.cpus id ≡ true → (b : Bool) → nat_lt id at ≡ b → (l : Bool) → nat_lt id OBJECTS ≡ l → is_held S id ≡ true
      by id h true e l f = below id (ltb-true id at e) h
      by id h false e true f = let no = none id (omega (arith, ltb-false id at e)) (ltb-true id OBJECTS f) in absurd (let z : ⊥ = cc in z)
      by id h false e false f = let no = key_of id S.cpus.parked (omega (arith, ltb-false id OBJECTS f)) in absurd (let z : ⊥ = cc in z)

  -- one lock more is held
  pub held_more : (at o : ℕ) → HeldBelow at → IsNext (some_parked_for S.cpus) at OBJECTS o → is_held S o ≡ true → HeldBelow (o + 1)
  held_more at o below next held id low h = by (nat_lt id at) refl (nat_lt id o) refl
    where
      by : (b : Bool) → nat_lt id at ≡ b → (l : Bool) → nat_lt id o ≡ l → is_held S id ≡ true
      by true e l f = below id (ltb-true id at e) h
      by false e true f = let no = next.before id (omega (arith, ltb-false id at e)) (ltb-true id o f) in absurd (let z : ⊥ = cc in z)
      by false e false f = let last : id ≡ o = omega (arith, ltb-false id o f) in ap (is_held S) last ∙ held

  -- ---- some may come back

  -- frame f waits for a free lock with a lesser id
  abbrev pub is_freed_below : ℕ → ℕ → Bool
  is_freed_below at f = nat_lt (lock_key (frame_of S.cpus f)) at && is_freed S f

  -- the waits for one lock, if it is free
  abbrev pub freed_of : ℕ → List ℕ → ℕ
  freed_of o xs = if is_free_lock S.locks (object_lock o) then count_by (is_for S.cpus o) xs else 0

  pub none_first : (xs : List ℕ) → 0 ≡ count_by (is_freed_below 1) xs
  none_first [] = refl
  none_first (x ∷ xs) =
      let no : flag (is_freed_below 1 x) ≡ 0 = ap flag (by (lock_key (frame_of S.cpus x)) (is_free_lock S.locks (object_lock (lock_key (frame_of S.cpus x))))) in
      let one = count_cons (is_freed_below 1) x xs in
      let rest = none_first xs in
      omega arith
    where
      by : (key : ℕ) (b : Bool) → (nat_lt key 1 && (nat_lt 0 key && b)) ≡ false
      by zero b = refl
      by (suc key) b = left_fails (nat_lt (suc key) 1) (nat_lt 0 (suc key) && b) (le-ltb (suc key) 1 (omega arith))

  -- a frame waits for a lock below an id, for that one, or for another
  split_by : (at o key : ℕ) (b w : Bool) → 1 ≤ at → at ≤ o → ((at ≤ key) → (key < o) → ⊥) → (key ≡ o → w ≡ b) → (l m e : Bool) → nat_lt key at ≡ l → nat_lt key (o + 1) ≡ m → (key == o) ≡ e
      → flag (m && (nat_lt 0 key && w)) ≡ flag (l && (nat_lt 0 key && w)) + (if b then flag e else 0)
  split_by at o key b w low after none same true true true l m e = absurd (let k = ltb-true key at l in let i = eqb-true key o e in let z : ⊥ = omega arith in z)
  split_by at o key b w low after none same true true false l m e = by b
    where
      by : (c : Bool) → flag (nat_lt 0 key && w) ≡ flag (nat_lt 0 key && w) + (if c then 0 else 0)
      by true = omega arith
      by false = omega arith
  split_by at o key b w low after none same true false e' l m e = absurd (let k = ltb-true key at l in let i = ltb-false key (o + 1) m in let z : ⊥ = omega arith in z)
  split_by at o key b w low after none same false true true l m e =
      let i : key ≡ o = eqb-true key o e in
      let some : nat_lt 0 key ≡ true = lt-ltb 0 key (omega arith) in
      rw (some, same i) (by b)
    where
      by : (c : Bool) → flag c ≡ 0 + (if c then 1 else 0)
      by true = refl
      by false = refl
  split_by at o key b w low after none same false true false l m e =
      absurd (let k = ltb-false key at l in let i = ltb-true key (o + 1) m in let n = eqb-false key o e in none (omega arith) (omega (arith, n)))
  split_by at o key b w low after none same false false true l m e = absurd (let i = eqb-true key o e in let k = ltb-false key (o + 1) m in let z : ⊥ = omega arith in z)
  split_by at o key b w low after none same false false false l m e = by b
    where
      by : (c : Bool) → 0 ≡ 0 + (if c then 0 else 0)
      by true = refl
      by false = refl

  freed_cons : (o x : ℕ) (xs : List ℕ) → freed_of o (x ∷ xs) ≡ (if is_free_lock S.locks (object_lock o) then flag (is_for S.cpus o x) else 0) + freed_of o xs
  freed_cons o x xs = by (is_free_lock S.locks (object_lock o))
    where
      by : (c : Bool) → (if c then count_by (is_for S.cpus o) (x ∷ xs) else 0) ≡ (if c then flag (is_for S.cpus o x) else 0) + (if c then count_by (is_for S.cpus o) xs else 0)
      by true = count_cons (is_for S.cpus o) x xs
      by false = refl

  -- the waits for one lock more
  pub freed_next : (at o : ℕ) (xs : List ℕ) → 1 ≤ at → at ≤ o → NoneFrom (λ id. list_any (is_for S.cpus id) xs) at o → count_by (is_freed_below (o + 1)) xs ≡ count_by (is_freed_below at) xs + freed_of o xs
  freed_next at o [] low after none = by (is_free_lock S.locks (object_lock o))
    where
      by : (c : Bool) → 0 ≡ 0 + (if c then 0 else 0)
      by true = refl
      by false = refl
  freed_next at o (x ∷ xs) low after none =
      let rest = freed_next at o xs low after (λ id above below. (either_false (is_for S.cpus id x) (list_any (is_for S.cpus id) xs) (none id above below)).1) in
      let new = count_cons (is_freed_below (o + 1)) x xs in
      let old = count_cons (is_freed_below at) x xs in
      let one = freed_cons o x xs in
      let here : flag (is_freed_below (o + 1) x) ≡ flag (is_freed_below at x) + (if is_free_lock S.locks (object_lock o) then flag (is_for S.cpus o x) else 0) =
      split_by at o (lock_key (frame_of S.cpus x)) (is_free_lock S.locks (object_lock o)) (is_free_lock S.locks (object_lock (lock_key (frame_of S.cpus x)))) low after
      (λ above below. let no = (either_false (is_for S.cpus (lock_key (frame_of S.cpus x)) x) (list_any (is_for S.cpus (lock_key (frame_of S.cpus x))) xs) (none (lock_key (frame_of S.cpus x)) above below)).0 in
      let yes = equal (lock_key (frame_of S.cpus x)) (lock_key (frame_of S.cpus x)) refl in let z : ⊥ = cc in z)
      (λ same. ap (λ id. is_free_lock S.locks (object_lock id)) same)
      (nat_lt (lock_key (frame_of S.cpus x)) at) (nat_lt (lock_key (frame_of S.cpus x)) (o + 1)) (lock_key (frame_of S.cpus x) == o) refl refl refl in
      omega arith

  -- all are counted where no other is waited for
  pub freed_end : (at : ℕ) (xs : List ℕ) → NoneFrom (λ id. list_any (is_for S.cpus id) xs) at OBJECTS → count_by (is_freed_below at) xs ≡ count_by (is_freed S) xs
  freed_end at [] none = refl
  freed_end at (x ∷ xs) none =
      let rest = freed_end at xs (λ id above below. (either_false (is_for S.cpus id x) (list_any (is_for S.cpus id) xs) (none id above below)).1) in
      let new = count_cons (is_freed S) x xs in
      let old = count_cons (is_freed_below at) x xs in
      let here : flag (is_freed_below at x) ≡ flag (is_freed S x) = ap flag (by (nat_lt (lock_key (frame_of S.cpus x)) at) refl) in
      omega arith
    where
      by : (l : Bool) → nat_lt (lock_key (frame_of S.cpus x)) at ≡ l → (l && is_freed S x) ≡ is_freed S x
      by true e = refl
      by false e =
          let above = ltb-false (lock_key (frame_of S.cpus x)) at e in
          let small = key_small (frame_of S.cpus x).pending in
          let no = (either_false (is_for S.cpus (lock_key (frame_of S.cpus x)) x) (list_any (is_for S.cpus (lock_key (frame_of S.cpus x))) xs) (none (lock_key (frame_of S.cpus x)) (omega (arith, above)) small)).0 in
          let yes = equal (lock_key (frame_of S.cpus x)) (lock_key (frame_of S.cpus x)) refl in
          absurd (let z : ⊥ = cc in z)

  module _ (plan : Plan) (m : Meaning A) (cpu : ℕ) where
    whole : (n : ℕ) → n - 0 ≡ n
    whole n = omega arith

    from_none : (n : ℕ) → n ≡ 0 + n
    from_none n = omega arith

    only : (k f : ℕ) (e : Event) → slice_get S.cpus.parked k ≡ Some f → offered plan m S (group.Unparks cpu) k ≡ Some e → e ≡ unparks cpu f
    only k f e at is = by (may plan m S (unparks cpu f)) (sym (ap (λ o. if_allowed plan m S (option_map (unparks cpu) o)) at) ∙ is)
      where
        by : (b : Bool) → (if b then Some (unparks cpu f) else None) ≡ Some e → e ≡ unparks cpu f
        by true h = cc
        by false h = absurd (let z : ⊥ = cc in z)

    -- where as many may come of the group as frames are parked, it is that each of them comes back
    pub all_come_back : length (offered_from plan m S (group.Unparks cpu) 0) ≡ length S.cpus.parked → offered_from plan m S (group.Unparks cpu) 0 ≡ map (unparks cpu) S.cpus.parked
    all_come_back all =
        let same : offered_from plan m S (group.Unparks cpu) 0 ≡ filter_map (offered plan m S (group.Unparks cpu)) (range_with_len 0 (length S.cpus.parked)) =
        ap (λ n. filter_map (offered plan m S (group.Unparks cpu)) (range_with_len 0 n)) (whole (length S.cpus.parked)) in
        same ∙ full (offered plan m S (group.Unparks cpu)) (unparks cpu) S.cpus.parked 0 (λ i f e at is. only i f e at (ap (offered plan m S (group.Unparks cpu)) (from_none i) ∙ is)) (sym (ap length same) ∙ all)

    pub coming_is : length (offered_from plan m S (group.Unparks cpu) 0) ≡ length S.cpus.parked → (k : ℕ) → slice_get (offered_from plan m S (group.Unparks cpu) 0) k ≡ option_map (unparks cpu) (slice_get S.cpus.parked k)
    coming_is all k = ap (λ es. slice_get es k) (all_come_back all) ∙ slice_get-map (unparks cpu) S.cpus.parked k

    module _ (counted : is_counted plan S cpu ≡ true) where
      here : (is_cpu plan (cpu_of cpu) && is_empty_cpu S.cpus cpu) ≡ true
      here = both_left (is_cpu plan (cpu_of cpu) && is_empty_cpu S.cpus cpu) (not (some_parked_for S.cpus 0)) counted

      locks : some_parked_for S.cpus 0 ≡ false
      locks = not_true (some_parked_for S.cpus 0) (both_right (is_cpu plan (cpu_of cpu) && is_empty_cpu S.cpus cpu) (not (some_parked_for S.cpus 0)) counted)

      -- the wait of a parked frame is over where its lock is free
      freed_over : (k f : ℕ) → slice_get S.cpus.parked k ≡ Some f → wait_is_over S (frame_of S.cpus f).pending ≡ is_freed S f
      freed_over k f at =
          let other = eqb-false (lock_key (frame_of S.cpus f)) 0 (none_at (is_for S.cpus 0) S.cpus.parked k f locks at) in
          let some : 0 < lock_key (frame_of S.cpus f) = positive_key (lock_key (frame_of S.cpus f)) other in
          over_by S (frame_of S.cpus f).pending some
          ∙ sym (ap (λ b. b && is_free_lock S.locks (object_lock (lock_key (frame_of S.cpus f)))) (lt-ltb 0 (lock_key (frame_of S.cpus f)) some))
        where
          positive_key : (n : ℕ) → (n ≡ 0 → ⊥) → 0 < n
          positive_key zero other = absurd (other refl)
          positive_key (suc n) other = omega arith

      comes : (k f : ℕ) → slice_get S.cpus.parked k ≡ Some f → offered plan m S (group.Unparks cpu) k ≡ (if is_freed S f then Some (unparks cpu f) else None)
      comes k f at =
          ap (λ o. if_allowed plan m S (option_map (unparks cpu) o)) at
          ∙ ap (λ b. if b then Some (unparks cpu f) else None)
          (by (is_cpu plan (cpu_of cpu)) (contains f S.cpus.parked) (is_empty_cpu S.cpus cpu) (wait_is_over S (frame_of S.cpus f).pending) here (there_at S.cpus.parked k f at) ∙ freed_over k f at)
        where
          by : (c p e w : Bool) → (c && e) ≡ true → p ≡ true → (c && (p && e && w)) ≡ w
          by true p true w h i = rw i refl
          by true p false w h i = absurd (let z : ⊥ = cc in z)
          by false p e w h i = absurd (let z : ⊥ = cc in z)

      pub coming_counted : count_by (is_freed S) S.cpus.parked ≡ length (offered_from plan m S (group.Unparks cpu) 0)
      coming_counted =
          sym (ap (λ n. length (filter_map (offered plan m S (group.Unparks cpu)) (range_with_len 0 n))) (whole (length S.cpus.parked))
          ∙ ap length (mapped (offered plan m S (group.Unparks cpu)) (unparks cpu) (is_freed S) S.cpus.parked 0 (λ i f e. ap (offered plan m S (group.Unparks cpu)) (sym (from_none i)) ∙ comes i f e))
          ∙ length-map (filter (is_freed S) S.cpus.parked) (unparks cpu)
          ∙ length-filter (is_freed S) S.cpus.parked)

-- ---- places of a list

pub missing : {Y : Type 0} (f : ℕ → Y) (xs : List ℕ) (k : ℕ) → option_map f (slice_get xs k) ≡ None → length xs ≤ k
missing f [] k h = omega arith
missing f (x ∷ xs) zero h = absurd (let z : ⊥ = cc in z)
missing f (x ∷ xs) (suc k) h = let rest = missing f xs k h in omega arith

-- none passes exactly where the count is 0
pub none_counted : (p : ℕ → Bool) (xs : List ℕ) → (count_by p xs == 0) ≡ not (list_any p xs)
none_counted p xs = sym (not-not (count_by p xs == 0)) ∙ ap not (any_counted p p (λ x. refl) xs)
