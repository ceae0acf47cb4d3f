-- What is kept beside the state, after a lock was taken and after one was released.
use Rattle.std.proofs.Common.{if◌then◌else◌, ◌≡◌, ◌≢◌, ℕ, ◌+◌, ◌-◌, ◌==◌, ◌<◌, ◌≤◌, ◌^◌, nat_lt, Bool, true, false, not, ◌&&◌, List, [], ◌∷◌, ◌++◌, inl, inr, Option, Some, None, length, filter, find, count_by, refl, ap, sym, subst, ◌∙◌, arith}
use Rattle.std.specs.Option.{ForSome}
use Rattle.std.proofs.lemmas.Bool.{cases_Bool, lt-ltb}
use Rattle.std.proofs.lemmas.List.Elements.{All-filter, All-nil, All-push}
use Rattle.std.proofs.lemmas.List.Sums.{count_by-le-length}
use Rattle.wdf_base.specs.declared.object.LockRef.{LockRef}
use Rattle.wdf_base.specs.declared.object.LockRef.TheVariants as lock
use Rattle.wdf_base.specs.Same.{same_lock}
use Rattle.wdf_model.specs.declared.entries.Held.{Held}
use Rattle.wdf_model.specs.declared.room.TheConstants.{EVENTS, FRAMES, OBJECTS}
use Rattle.wdf_model.specs.Tables.{entry, flag, put}
use Rattle.wdf_model.specs.parts.Locks.{Locks, hold_of, is_free_hold, is_free_lock, no_locks}
use Rattle.wdf_model.specs.parts.Locks as locks
use Rattle.wdf_model.proofs.Maps.{entry_put_other, entry_put_same}
use Rattle.wdf_model.proofs.Counts.{count_behind, count_of_one, equal, filter_less, find_behind, find_front, not_equal, one_or_two}
use Rattle.wdf_lock.specs.Holders.{Holds, held_at, lock_id, no_holders, with_hold}
use Rattle.wdf_lock.specs.Holds.{is_call_of, is_of, passes, uncounted}
use Rattle.wdf_lock.specs.Kept.{IsKept}
use Rattle.wdf_lock.proofs.Finding.{found_not, found_passes, found_still, none_counted, one_leaves}
use Rattle.wdf_lock.proofs.SameLocks.{held_at_put}
use Rattle.wdf_model.proofs.Sames.{lock_itself, one_lock}

pub kept_opening : IsKept no_locks no_holders []
kept_opening = record {
  once = λ l. omega arith;
  holders = λ l within. nothing_at l;
  calls = λ f. refl;
  frames = All-nil (λ (h : Held). h.frame.0 < FRAMES);
}
  where
    nothing_at : (l : LockRef) → held_at no_holders l ≡ None
    nothing_at (lock.Object o) = refl
    nothing_at _ = refl

-- where a lock is free nothing is found
free_is_none : (hold : Option Held) → is_free_hold hold ≡ true → hold ≡ None
free_is_none None h = refl
free_is_none (Some x) h = absurd (let z : ⊥ = cc in z)

-- the hold that is kept of a lock
kept_at : (H : Holds) (l : LockRef) (hold : Option Held) (other : LockRef) (b : Bool) → lock_id other < OBJECTS → same_lock other l ≡ b
    → held_at (with_hold H l hold) other ≡ (if b then hold else held_at H other)
kept_at H l hold other b within e =
    elim (cases_Bool (nat_lt (lock_id l) OBJECTS)) [
      | inl small ↦ rw small (held_at_put H l hold other ∙ ap (λ c. if c then hold else held_at H other) e)
      | inr large ↦ rw large (beyond b e large)
    ]
  where
    beyond : (b : Bool) → same_lock other l ≡ b → nat_lt (lock_id l) OBJECTS ≡ false → held_at H other ≡ (if b then hold else held_at H other)
    beyond false e large = refl
    beyond true e large =
        let one : other ≡ l = one_lock other l e in
        let small : nat_lt (lock_id l) OBJECTS ≡ true = lt-ltb (lock_id l) OBJECTS (subst (λ k. lock_id k < OBJECTS) one within) in
        absurd (let z : ⊥ = cc in z)

-- two tests of locks: both pass where the locks are one
apart : (l other : LockRef) → same_lock other l ≡ false → (h : Held) → is_of l h ≡ true → is_of other h ≡ false
apart l other n h is =
    elim (cases_Bool (is_of other h)) [
      | inl both ↦
          let a : h.lock ≡ l = one_lock h.lock l is in
          let b : h.lock ≡ other = one_lock h.lock other both in
          let same : same_lock other l ≡ true = subst (λ k. same_lock k l ≡ true) b (subst (λ k. same_lock h.lock k ≡ true) a (lock_itself h.lock)) in
          absurd (let z : ⊥ = cc in z)
      | inr none ↦ none
    ]

-- ---- a lock is taken

abbrev new_hold : LockRef → ℕ → Bool → Held
new_hold l f by_call = record { lock = l; frame = record { 0 = f }; by_call = by_call }

flag_and : (a b : Bool) → flag (a && b) ≡ (if a then flag b else 0)
flag_and true b = refl
flag_and false b = refl

counted_call : (f x : ℕ) (l : LockRef) (by_call : Bool) (counts : List ℕ) (b : Bool) → (f == x) ≡ b
    → entry 0 (put 0 counts f (entry 0 counts f + flag by_call)) x ≡ entry 0 counts x + flag (is_call_of x (new_hold l f by_call))
counted_call f x l by_call counts true e =
    let same : f ≡ x = one_of f x e in
    let here = entry_put_same 0 counts f (entry 0 counts f + flag by_call) in
    rw (← same) (here ∙ ap (λ b. entry 0 counts f + flag (b && by_call)) (sym (equal f f refl)))
  where
    one_of : (a b : ℕ) → (a == b) ≡ true → a ≡ b
    one_of a b e = elim (one_or_two a b) [ inl s ↦ s | inr n ↦ absurd (let z : (a == b) ≡ false = not_equal a b n in let y : ⊥ = cc in y) ]
counted_call f x l by_call counts false e =
    let other : x ≢ f = λ s. let z : (f == x) ≡ true = equal f x (sym s) in let y : ⊥ = cc in y in
    let none : flag (is_call_of x (new_hold l f by_call)) ≡ 0 = rw e refl in
    let there = entry_put_other 0 counts f x (entry 0 counts f + flag by_call) other in
    omega arith

pub kept_take : (L : Locks) (H : Holds) (counts : List ℕ) (l : LockRef) (f : ℕ) (by_call : Bool) → is_free_lock L l ≡ true → f < FRAMES
    → IsKept L H counts → IsKept (locks.take L l f by_call) (with_hold H l (Some (new_hold l f by_call))) (put 0 counts f (entry 0 counts f + flag by_call))
kept_take L H counts l f by_call free within h =
    let none : hold_of L l ≡ None = free_is_none (hold_of L l) free in
    record {
      once = λ k.
          let both : count_by (is_of k) (L.held ++ new_hold l f by_call ∷ []) ≡ count_by (is_of k) L.held + count_by (is_of k) (new_hold l f by_call ∷ []) = count_behind (is_of k) L.held (new_hold l f by_call ∷ []) in
          let one = count_of_one (is_of k) (new_hold l f by_call) in
          let old = h.once k in
          elim (cases_Bool (same_lock l k)) [
            | inl e ↦
                let same : l ≡ k = one_lock l k e in
                let zero_before : count_by (is_of k) L.held ≡ 0 = subst (λ x. count_by (is_of x) L.held ≡ 0) same (none_counted (is_of l) L.held none) in
                let yes : flag (is_of k (new_hold l f by_call)) ≡ 1 = ap flag e in
                omega arith
            | inr e ↦ let no : flag (is_of k (new_hold l f by_call)) ≡ 0 = ap flag e in omega arith
          ];
      holders = λ k kept. elim (cases_Bool (same_lock k l)) [
        | inl e ↦
            let same : k ≡ l = one_lock k l e in
            kept_at H l (Some (new_hold l f by_call)) k true kept e
            ∙ sym (ap (λ x. find (is_of x) (L.held ++ new_hold l f by_call ∷ [])) same
            ∙ find_behind (is_of l) L.held (new_hold l f by_call ∷ []) none
            ∙ ap (λ b. if b then Some (new_hold l f by_call) else None) (lock_itself l))
        | inr e ↦
            let no : same_lock l k ≡ false = other_way k l e in
            kept_at H l (Some (new_hold l f by_call)) k false kept e
            ∙ h.holders k kept
            ∙ sym (find_front (is_of k) L.held (new_hold l f by_call ∷ []) (ap (λ b. if b then Some (new_hold l f by_call) else None) no))
      ];
      calls = λ x.
          counted_call f x l by_call counts (f == x) refl
          ∙ ap (λ n. n + flag (is_call_of x (new_hold l f by_call))) (h.calls x)
          ∙ sym (count_behind (is_call_of x) L.held (new_hold l f by_call ∷ []) ∙ ap (λ n. count_by (is_call_of x) L.held + n) (count_of_one (is_call_of x) (new_hold l f by_call)));
      frames = All-push (λ (y : Held). y.frame.0 < FRAMES) L.held (new_hold l f by_call) h.frames within;
    }
  where
    other_way : (a b : LockRef) → same_lock a b ≡ false → same_lock b a ≡ false
    other_way a b e = elim (cases_Bool (same_lock b a)) [
      | inl same ↦ let one : b ≡ a = one_lock b a same in absurd (let z : same_lock a b ≡ true = subst (λ k. same_lock a k ≡ true) (sym one) (lock_itself a) in let y : ⊥ = cc in y)
      | inr none ↦ none
    ]

-- ---- a lock is released

uncounted_call : (f x : ℕ) (by_call : Bool) (counts : List ℕ) (l : LockRef) → flag by_call ≤ entry 0 counts f
    → entry 0 (put 0 counts f (entry 0 counts f - flag by_call)) x + flag (is_call_of x (new_hold l f by_call)) ≡ entry 0 counts x
uncounted_call f x by_call counts l enough = elim (one_or_two x f) [
  | inl e ↦
      let here : entry 0 (put 0 counts f (entry 0 counts f - flag by_call)) x ≡ entry 0 counts f - flag by_call = ap (entry 0 (put 0 counts f (entry 0 counts f - flag by_call))) e ∙ entry_put_same 0 counts f (entry 0 counts f - flag by_call) in
      let old : entry 0 counts x ≡ entry 0 counts f = ap (entry 0 counts) e in
      let yes : flag (is_call_of x (new_hold l f by_call)) ≡ flag by_call = ap (λ b. flag (b && by_call)) (equal f x (sym e)) in
      omega arith
  | inr n ↦
      let there = entry_put_other 0 counts f x (entry 0 counts f - flag by_call) n in
      let no : flag (is_call_of x (new_hold l f by_call)) ≡ 0 = ap (λ b. flag (b && by_call)) (not_equal f x (λ e. n (sym e))) in
      omega arith
]

uncounted_is : (hold : Option Held) (counts : List ℕ) → ForSome hold (λ (h : Held). flag h.by_call ≤ entry 0 counts h.frame.0)
    → (x : ℕ) → entry 0 (uncounted hold counts) x + flag (passes (is_call_of x) hold) ≡ entry 0 counts x
uncounted_is None counts enough x = omega arith
uncounted_is (Some h) counts enough x = uncounted_call h.frame.0 x h.by_call counts h.lock (enough h refl)

pub kept_release : (L : Locks) (H : Holds) (counts : List ℕ) (l : LockRef) → ForSome (hold_of L l) (λ (h : Held). flag h.by_call ≤ entry 0 counts h.frame.0)
    → IsKept L H counts → IsKept (locks.release L l) (with_hold H l None) (uncounted (hold_of L l) counts)
kept_release L H counts l enough h = record {
  once = λ k. let fewer = filter_less (is_of k) (λ x. not (is_of l x)) L.held in let old = h.once k in omega arith;
  holders = λ k kept. elim (cases_Bool (same_lock k l)) [
    | inl e ↦
        let same : k ≡ l = one_lock k l e in
        kept_at H l None k true kept e ∙ sym (ap (λ x. find (is_of x) (filter (λ y. not (is_of l y)) L.held)) same ∙ found_not (is_of l) L.held)
    | inr e ↦ kept_at H l None k false kept e ∙ h.holders k kept ∙ sym (found_still (is_of l) (is_of k) (apart l k e) L.held)
  ];
  calls = λ x.
      let a = uncounted_is (hold_of L l) counts enough x in
      let b = one_leaves (is_of l) (is_call_of x) L.held (h.once l) in
      let c = h.calls x in
      omega arith;
  frames = All-filter (λ x. not (is_of l x)) (λ (x : Held). x.frame.0 < FRAMES) L.held h.frames;
}

-- ---- what the calls need

-- no frame holds more by calls than there are holds
pub calls_few : (L : Locks) (H : Holds) (counts : List ℕ) (f : ℕ) → length L.held ≤ EVENTS → IsKept L H counts → entry 0 counts f + 1 < 2 ^ 32
calls_few L H counts f few h = let c = h.calls f in let l = count_by-le-length (is_call_of f) L.held in omega arith

-- the hold of a lock has a frame's number, and is counted
pub hold_frame : (L : Locks) (H : Holds) (counts : List ℕ) (l : LockRef) → IsKept L H counts → ForSome (hold_of L l) (λ (h : Held). h.frame.0 < FRAMES)
hold_frame L H counts l k h found = found_passes (is_of l) (λ (x : Held). x.frame.0 < FRAMES) L.held h found k.frames

pub hold_counted : (L : Locks) (H : Holds) (counts : List ℕ) (l : LockRef) → IsKept L H counts → ForSome (hold_of L l) (λ (h : Held). flag h.by_call ≤ entry 0 counts h.frame.0)
hold_counted L H counts l k h found =
    let a = one_leaves (is_of l) (is_call_of h.frame.0) L.held (k.once l) in
    let b : flag (passes (is_call_of h.frame.0) (hold_of L l)) ≡ flag h.by_call = ap (λ x. flag (passes (is_call_of h.frame.0) x)) found ∙ ap (λ y. flag (y && h.by_call)) (equal h.frame.0 h.frame.0 refl) in
    let c = k.calls h.frame.0 in
    omega arith

-- a lock that this hold is of
pub kept_released : (L : Locks) (H : Holds) (counts : List ℕ) (l : LockRef) (held : Held) → hold_of L l ≡ Some held → IsKept L H counts → IsKept (locks.release L l) (with_hold H l None) (uncounted (Some held) counts)
kept_released L H counts l held found h = subst (λ hold. IsKept (locks.release L l) (with_hold H l None) (uncounted hold counts)) found (kept_release L H counts l (hold_counted L H counts l h) h)

-- where there is no hold, none is found
pub nothing_else : (r other : Option Held) → r ≡ other → ((x : Held) → r ≡ Some x → ⊥) → other ≡ None
nothing_else None other e h = sym e
nothing_else (Some x) other e h = absurd (h x refl)
