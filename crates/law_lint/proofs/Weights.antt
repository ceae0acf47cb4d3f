-- How many locks a state of a walk says that its callback holds by calls, and what each step and each call makes of that.
use Rattle.std.proofs.Common.{if◌then◌else◌, ◌≡◌, ℕ, suc, ◌+◌, ◌==◌, ◌≤◌, nat_lt, Bool, true, false, not, ◌&&◌, ◌||◌, List, [], ◌∷◌, ◌⊎◌, inl, inr, Option, Some, None, filter, length, count_by, refl, sym, ap, subst, ◌∙◌, arith}
use Rattle.std.proofs.lemmas.Bool.{cases_Bool, eqb-true}
use Rattle.std.proofs.lemmas.List.{length-append}
use Rattle.wdf_base.specs.declared.plan.Plan.{Plan}
use Rattle.wdf_base.specs.declared.event.Fault.TheVariants as fault
use Rattle.wdf_model.specs.Tables.{contains, flag, without}
use Rattle.wdf_model.proofs.Counts.{count_behind, count_cons, filter_less, not_equal, one_or_two}
use Rattle.wdf_model.proofs.Tests.{both_left, not_true}
use Rattle.wdf_model.proofs.FrameCounts.{contained}
use Rattle.wdf_lint.specs.declared.state.Abstract.{Abstract}
use Rattle.wdf_lint.specs.declared.state.HeldLock.{HeldLock}
use Rattle.wdf_lint.specs.declared.state.HeldLock.TheVariants as lock
use Rattle.wdf_lint.specs.Abstracts.{lock_after}
use Rattle.wdf_lint.specs.Steps.{acquired, acquired_at, is_free, is_in, is_own_lock, joined, released_at, rule_of_acquiring, rule_of_acquiring_at, rule_of_leaving, rule_of_releasing, rule_of_releasing_at, unless}

-- a spin or wait lock counts one
abbrev pub lock_weight : HeldLock → ℕ
lock_weight lock.Free = 0
lock_weight (lock.In v) = 1
lock_weight lock.Lost = 1

abbrev pub weight : Abstract → ℕ
weight a = lock_weight a.lock + length a.interrupts

-- each interrupt is there once
abbrev pub Single : List ℕ → Type 0
Single ids = (i : ℕ) → count_by (λ x. x == i) ids ≤ 1

-- ---- a variable that is written

pub written : (l : HeldLock) (x : ℕ) → lock_weight (lock_after l x) ≡ lock_weight l
written lock.Free x = refl
written lock.Lost x = refl
written (lock.In v) x = by (v == x)
  where
    by : (b : Bool) → lock_weight (if b then lock.Lost else lock.In v) ≡ 1
    by true = refl
    by false = refl

-- ---- the rules

rule_held : {T : Type 0} (b : Bool) (x y : T) → b ≡ true → b ≡ true
rule_held b x y h = h

pub kept_by : (b : Bool) → unless b fault.LockHeldAlready ≡ None → b ≡ true
kept_by true h = refl
kept_by false h = absurd (let z : ⊥ = cc in z)

pub given_by : (b : Bool) → unless b fault.LockNotHeld ≡ None → b ≡ true
given_by true h = refl
given_by false h = absurd (let z : ⊥ = cc in z)

left_by : (b : Bool) → unless b fault.ReturnHoldingLock ≡ None → b ≡ true
left_by true h = refl
left_by false h = absurd (let z : ⊥ = cc in z)

pub free_weight : (l : HeldLock) → is_free l ≡ true → lock_weight l ≡ 0
free_weight lock.Free h = refl
free_weight (lock.In v) h = absurd (let z : ⊥ = cc in z)
free_weight lock.Lost h = absurd (let z : ⊥ = cc in z)

in_weight : (l : HeldLock) (v : ℕ) → is_in l v ≡ true → lock_weight l ≡ 1
in_weight (lock.In w) v h = refl
in_weight lock.Free v h = absurd (let z : ⊥ = cc in z)
in_weight lock.Lost v h = absurd (let z : ⊥ = cc in z)

-- a spin or wait lock is taken
pub acquired_weight : (a : Abstract) (o : Option ℕ) → rule_of_acquiring a o ≡ None → weight (acquired a o) ≡ weight a + 1
acquired_weight a None h = absurd (let z : ⊥ = cc in z)
acquired_weight a (Some v) h = let e = free_weight a.lock (kept_by (is_free a.lock) h) in omega arith

pub acquired_single : (a : Abstract) (o : Option ℕ) → Single a.interrupts → Single (acquired a o).interrupts
acquired_single a None s = s
acquired_single a (Some v) s = s

-- and given back
pub released_weight : (a : Abstract) (o : Option ℕ) → rule_of_releasing a o ≡ None → lock_weight lock.Free + length a.interrupts + 1 ≡ weight a
released_weight a None h = absurd (let z : ⊥ = cc in z)
released_weight a (Some v) h = let e = in_weight a.lock v (given_by (is_in a.lock v) h) in omega arith

-- ---- the locks of interrupts

split_length : (p : ℕ → Bool) (ids : List ℕ) → length (filter (λ x. not (p x)) ids) + length (filter p ids) ≡ length ids
split_length p [] = refl
split_length p (x ∷ xs) = by (p x) refl (split_length p xs)
  where
    by : (b : Bool) → p x ≡ b → length (filter (λ y. not (p y)) xs) + length (filter p xs) ≡ length xs → length (filter (λ y. not (p y)) (x ∷ xs)) + length (filter p (x ∷ xs)) ≡ length (x ∷ xs)
    by true e rest = rw e (omega arith)
    by false e rest = rw e (omega arith)

split_count : (q p : ℕ → Bool) (ids : List ℕ) → count_by q (filter (λ x. not (p x)) ids) + count_by q (filter p ids) ≡ count_by q ids
split_count q p [] = refl
split_count q p (x ∷ xs) = by (p x) refl (split_count q p xs)
  where
    by : (b : Bool) → p x ≡ b → count_by q (filter (λ y. not (p y)) xs) + count_by q (filter p xs) ≡ count_by q xs → count_by q (filter (λ y. not (p y)) (x ∷ xs)) + count_by q (filter p (x ∷ xs)) ≡ count_by q (x ∷ xs)
    by true e rest = rw e (let c = count_cons q x (filter p xs) in let d = count_cons q x xs in omega arith)
    by false e rest = rw e (let c = count_cons q x (filter (λ y. not (p y)) xs) in let d = count_cons q x xs in omega arith)

pub absent : (i : ℕ) (ids : List ℕ) → contains i ids ≡ false → count_by (λ x. x == i) ids ≡ 0
absent i [] h = refl
absent i (x ∷ xs) h = by (x == i) refl (absent i xs)
  where
    by : (b : Bool) → (x == i) ≡ b → (contains i xs ≡ false → count_by (λ y. y == i) xs ≡ 0) → count_by (λ y. y == i) (x ∷ xs) ≡ 0
    by true e others = absurd (let yes : contains i (x ∷ xs) ≡ true = ap (λ c. c || contains i xs) e in let z : ⊥ = cc in z)
    by false e others =
        let rest = others (sym (ap (λ c. c || contains i xs) e) ∙ h) in
        let all = count_cons (λ y. y == i) x xs in
        let none : flag (x == i) ≡ 0 = ap flag e in
        omega arith

removed_length : (i : ℕ) (ids : List ℕ) → length (without i ids) + count_by (λ x. x == i) ids ≡ length ids
removed_length i [] = refl
removed_length i (x ∷ xs) = by (x == i) refl (removed_length i xs)
  where
    by : (b : Bool) → (x == i) ≡ b → length (without i xs) + count_by (λ y. y == i) xs ≡ length xs → length (without i (x ∷ xs)) + count_by (λ y. y == i) (x ∷ xs) ≡ length (x ∷ xs)
    by true e rest = let all = count_cons (λ y. y == i) x xs in let one : flag (x == i) ≡ 1 = ap flag e in let left : without i (x ∷ xs) ≡ without i xs = rw e refl in let l : length (without i (x ∷ xs)) ≡ length (without i xs) = ap length left in omega arith
    by false e rest = let all = count_cons (λ y. y == i) x xs in let none : flag (x == i) ≡ 0 = ap flag e in let left : without i (x ∷ xs) ≡ x ∷ without i xs = rw e refl in let l : length (without i (x ∷ xs)) ≡ suc (length (without i xs)) = ap length left in omega arith

not_there : (plan : Plan) (k i : ℕ) (a : Abstract) → rule_of_acquiring_at plan k a (Some i) ≡ None → contains i a.interrupts ≡ false
not_there plan k i a h = not_true (contains i a.interrupts) (both_left (not (contains i a.interrupts)) (not (is_own_lock plan k i)) (kept_by (not (contains i a.interrupts) && not (is_own_lock plan k i)) h))

joined_length : (i : ℕ) (ids : List ℕ) → length (joined i ids) ≡ length ids + 1
joined_length i ids =
    let all = length-append (filter (λ x. not (nat_lt i x)) ids) (i ∷ filter (λ x. nat_lt i x) ids) in
    let parts = split_length (nat_lt i) ids in
    omega arith

joined_count : (i j : ℕ) (ids : List ℕ) → count_by (λ x. x == j) (joined i ids) ≡ count_by (λ x. x == j) ids + flag (i == j)
joined_count i j ids =
    let all = count_behind (λ x. x == j) (filter (λ x. not (nat_lt i x)) ids) (i ∷ filter (λ x. nat_lt i x) ids) in
    let one = count_cons (λ x. x == j) i (filter (λ x. nat_lt i x) ids) in
    let parts = split_count (λ x. x == j) (nat_lt i) ids in
    omega arith

-- one that is among the joined ids is the new one, or was among them
pub joined_contains : (i j : ℕ) (ids : List ℕ) → contains j (joined i ids) ≡ true → (i ≡ j) ⊎ (contains j ids ≡ true)
joined_contains i j ids h = elim (one_or_two i j) [
  | inl e ↦ inl e
  | inr n ↦ elim (cases_Bool (contains j ids)) [
    | inl e ↦ inr e
    | inr e ↦ absurd (
        let some_ = contained j (joined i ids) h in
        let all = joined_count i j ids in
        let none = absent j ids e in
        let other : flag (i == j) ≡ 0 = ap flag (not_equal i j n) in
        let z : ⊥ = omega arith in z)
  ]
]

pub acquired_at_weight : (plan : Plan) (k : ℕ) (a : Abstract) (o : Option ℕ) → rule_of_acquiring_at plan k a o ≡ None → weight (acquired_at a o) ≡ weight a + 1
acquired_at_weight plan k a None h = absurd (let z : ⊥ = cc in z)
acquired_at_weight plan k a (Some i) h = let e = joined_length i a.interrupts in omega arith

pub acquired_at_single : (plan : Plan) (k : ℕ) (a : Abstract) (o : Option ℕ) → rule_of_acquiring_at plan k a o ≡ None → Single a.interrupts → Single (acquired_at a o).interrupts
acquired_at_single plan k a None h s = s
acquired_at_single plan k a (Some i) h s = λ j. (let all = joined_count i j a.interrupts in let old = s j in by j (i == j) refl all old)
  where
    by : (j : ℕ) (b : Bool) → (i == j) ≡ b → count_by (λ x. x == j) (joined i a.interrupts) ≡ count_by (λ x. x == j) a.interrupts + flag (i == j) → count_by (λ x. x == j) a.interrupts ≤ 1 → count_by (λ x. x == j) (joined i a.interrupts) ≤ 1
    by j true e all old =
        let same : i ≡ j = eqb-true i j e in
        let none : count_by (λ x. x == i) a.interrupts ≡ 0 = absent i a.interrupts (not_there plan k i a h) in
        let none_ : count_by (λ x. x == j) a.interrupts ≡ 0 = subst (λ n. count_by (λ x. x == n) a.interrupts ≡ 0) same none in
        let one : flag (i == j) ≡ 1 = ap flag e in
        omega arith
    by j false e all old = let none : flag (i == j) ≡ 0 = ap flag e in omega arith

pub released_at_weight : (a : Abstract) (o : Option ℕ) → rule_of_releasing_at a o ≡ None → Single a.interrupts → weight (released_at a o) + 1 ≡ weight a
released_at_weight a None h s = absurd (let z : ⊥ = cc in z)
released_at_weight a (Some i) h s =
    let there = contained i a.interrupts (given_by (contains i a.interrupts) h) in
    let most = s i in
    let left = removed_length i a.interrupts in
    omega arith

pub released_at_single : (a : Abstract) (o : Option ℕ) → Single a.interrupts → Single (released_at a o).interrupts
released_at_single a None s = s
released_at_single a (Some i) s = λ j. (let less = filter_less (λ x. x == j) (λ x. not (x == i)) a.interrupts in let old = s j in omega arith)

-- ---- a return

-- where the callback may leave, it holds none
pub left_weight : (a : Abstract) → rule_of_leaving a ≡ None → weight a ≡ 0
left_weight a h = by a.interrupts refl
  where
    leaving : (b : Abstract) (ids : List ℕ) → b.interrupts ≡ ids → rule_of_leaving b ≡ rule_of_leaving (record b { interrupts = ids })
    leaving b ids e = ap (λ (xs : List ℕ). rule_of_leaving (record b { interrupts = xs })) e

    by : (ids : List ℕ) → a.interrupts ≡ ids → weight a ≡ 0
    by [] e =
        let rule : unless (is_free a.lock) fault.ReturnHoldingLock ≡ None = sym (leaving a [] e) ∙ h in
        let l = free_weight a.lock (left_by (is_free a.lock) rule) in
        let n : length a.interrupts ≡ 0 = ap length e in
        omega arith
    by (i ∷ is) e = absurd (let wrong = sym (leaving a (i ∷ is) e) ∙ h in let z : ⊥ = cc in z)
