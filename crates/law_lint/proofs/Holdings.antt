-- Which locks a frame holds by calls, and how many: what each deed and each event makes of that.
use Rattle.std.proofs.Common.{◌≡◌, ◌≢◌, ℕ, ◌+◌, ◌==◌, ◌≤◌, Bool, true, false, not, ◌&&◌, ◌||◌, List, [], ◌∷◌, ◌++◌, inl, inr, Option, Some, None, filter, refl, sym, ap, subst, ◌∙◌, arith}
use Rattle.std.proofs.lemmas.Bool.{cases_Bool, eqb-true}
use Rattle.std.specs.List.{list_all, list_any}
use Rattle.wdf_base.specs.declared.plan.Plan.{Plan}
use Rattle.wdf_base.specs.declared.object.LockRef.{LockRef}
use Rattle.wdf_base.specs.declared.event.Event.{Event}
use Rattle.wdf_base.specs.Same.{same_lock}
use Rattle.wdf_base.specs.Calls.{is_acquire}
use Rattle.wdf_model.specs.declared.entries.Held.{Held}
use Rattle.wdf_model.specs.Tables.{flag}
use Rattle.wdf_model.specs.parts.Locks.{Locks, held_by_call, holds_by_call, object_lock}
use Rattle.wdf_model.specs.parts.Locks as locks
use Rattle.wdf_model.specs.State.{State}
use Rattle.wdf_model.specs.declared.deed.Deed.{Deed}
use Rattle.wdf_model.specs.declared.deed.Deed.TheVariants.{ReleaseLock, TakeLock}
use Rattle.wdf_model.specs.rules.Deeds.{do_deed, do_deeds}
use Rattle.wdf_model.specs.rules.Starts.{take_if_any}
use Rattle.wdf_model.specs.rules.Steps.{deeds}
use Rattle.wdf_model.proofs.Counts.{count_behind, count_of_one, equal, filter_less, not_equal, one_or_two}
use Rattle.wdf_model.proofs.Tests.{both, both_left, both_right, not_true}
use Rattle.law_machine_deeds.specs.MayDo.{is_start, may_do, releasing, second_part}
use Rattle.law_machine_deeds.proofs.Passing.{event_passes}
use Rattle.wdf_model.proofs.Sames.{one_lock}
use Rattle.law_machine_lives.proofs.LocksOnce.{Once}
use Rattle.law_machine_lives.proofs.PartsStay.{locks_stay}
use Rattle.law_machine_lives.proofs.Counted.{split}
use Rattle.law_trace_once.proofs.Words.{any_weaker, found_counts}
use Rattle.law_trace_scopes.proofs.Holding.{is_other_hold, not_own, own_holds, two_holds}

-- a lock that this frame took in a call
abbrev pub is_by : ℕ → Held → Bool
is_by g h = h.frame.0 == g && h.by_call

-- ---- a lock is taken, or given back

taken : (L : Locks) (l : LockRef) (f g : ℕ) (by_call : Bool) → held_by_call (locks.take L l f by_call) g ≡ held_by_call L g + flag (f == g && by_call)
taken L l f g by_call =
    let new : Held = record { lock = l; frame = record { 0 = f }; by_call = by_call } in
    count_behind (is_by g) L.held (new ∷ []) ∙ ap (λ n. held_by_call L g + n) (count_of_one (is_by g) new)

pub take_more : (L : Locks) (l : LockRef) (f : ℕ) → held_by_call (locks.take L l f true) f ≡ held_by_call L f + 1
take_more L l f = let all = taken L l f f true in let yes : (f == f && true) ≡ true = ap (λ b. b && true) (equal f f refl) in let one : flag (f == f && true) ≡ 1 = ap flag yes in omega arith

pub take_other : (L : Locks) (l : LockRef) (f g : ℕ) → g ≢ f → held_by_call (locks.take L l f true) g ≡ held_by_call L g
take_other L l f g n = let all = taken L l f g true in let off : (f == g && true) ≡ false = ap (λ b. b && true) (not_equal f g (λ e. n (sym e))) in let none : flag (f == g && true) ≡ 0 = ap flag off in omega arith

-- the test of a hold, in another order
three : (a b c : Bool) → (a && b && c) ≡ (a && (b && c))
three true b c = refl
three false b c = refl

any_alike : (p q : Held → Bool) → ((h : Held) → p h ≡ q h) → (hs : List Held) → list_any p hs ≡ list_any q hs
any_alike p q same [] = refl
any_alike p q same (x ∷ xs) = ap (λ b. b || list_any p xs) (same x) ∙ ap (λ b. q x || b) (any_alike p q same xs)

pub release_less : (L : Locks) (l : LockRef) (f : ℕ) → holds_by_call L f l ≡ true → held_by_call (locks.release L l) f + 1 ≤ held_by_call L f
release_less L l f h =
    let all = split (is_by f) (λ x. same_lock x.lock l) L.held in
    let some_ = found_counts (λ x. same_lock x.lock l && is_by f x) L.held (sym (any_alike (λ x. same_lock x.lock l && x.frame.0 == f && x.by_call) (λ x. same_lock x.lock l && is_by f x) (λ x. three (same_lock x.lock l) (x.frame.0 == f) x.by_call) L.held) ∙ h) in
    omega arith

-- ---- what others leave a frame of its locks

-- a frame holds the lock of object x by a call
abbrev pub HasLock : Locks → ℕ → ℕ → Type 0
HasLock L f x = holds_by_call L f (object_lock x) ≡ true

-- a frame holds by calls no more than before, and still what it held
pub record Left (K L : Locks) (g : ℕ) : Type 0 where
  pub fewer : held_by_call L g ≤ held_by_call K g
  pub keeps : (x : ℕ) → HasLock K g x → HasLock L g x

pub left_same : (K L : Locks) (g : ℕ) → L ≡ K → Left K L g
left_same K L g e = subst (λ (M : Locks). Left K M g) (sym e) (record { fewer = omega arith; keeps = λ x h. h })

pub left_then : (K L M : Locks) (g : ℕ) → Left K L g → Left L M g → Left K M g
left_then K L M g a b = record { fewer = let p = a.fewer in let q = b.fewer in omega arith; keeps = λ x h. b.keeps x (a.keeps x h) }

-- ---- one of a list

any_behind : (p : Held → Bool) (xs ys : List Held) → list_any p xs ≡ true → list_any p (xs ++ ys) ≡ true
any_behind p [] ys h = absurd (let z : ⊥ = cc in z)
any_behind p (x ∷ xs) ys h = by (p x) refl (λ k. any_behind p xs ys k)
  where
    by : (b : Bool) → p x ≡ b → (list_any p xs ≡ true → list_any p (xs ++ ys) ≡ true) → (p x || list_any p (xs ++ ys)) ≡ true
    by true e rest = ap (λ c. c || list_any p (xs ++ ys)) e
    by false e rest = ap (λ c. c || list_any p (xs ++ ys)) e ∙ rest (sym (ap (λ c. c || list_any p xs) e) ∙ h)

any_last : (p : Held → Bool) (xs : List Held) (x : Held) → p x ≡ true → list_any p (xs ++ x ∷ []) ≡ true
any_last p [] x h = ap (λ c. c || false) h
any_last p (y ∷ ys) x h = by (p y) (any_last p ys x h)
  where
    by : (b : Bool) → list_any p (ys ++ x ∷ []) ≡ true → (b || list_any p (ys ++ x ∷ [])) ≡ true
    by true rest = refl
    by false rest = rest

-- what is kept is there still
any_kept : (p keep : Held → Bool) → ((h : Held) → p h ≡ true → keep h ≡ true) → (xs : List Held) → list_any p xs ≡ true → list_any p (filter keep xs) ≡ true
any_kept p keep all [] h = absurd (let z : ⊥ = cc in z)
any_kept p keep all (x ∷ xs) h = by (keep x) refl (p x) refl (λ k. any_kept p keep all xs k)
  where
    left_here : keep x ≡ true → filter keep (x ∷ xs) ≡ x ∷ filter keep xs
    left_here e = rw e refl

    gone_here : keep x ≡ false → filter keep (x ∷ xs) ≡ filter keep xs
    gone_here e = rw e refl

    here : (b : Bool) → p x ≡ b → (list_any p xs ≡ true → list_any p (filter keep xs) ≡ true) → (p x || list_any p (filter keep xs)) ≡ true
    here true f rest = ap (λ c. c || list_any p (filter keep xs)) f
    here false f rest = ap (λ c. c || list_any p (filter keep xs)) f ∙ rest (sym (ap (λ c. c || list_any p xs) f) ∙ h)

    by : (k : Bool) → keep x ≡ k → (b : Bool) → p x ≡ b → (list_any p xs ≡ true → list_any p (filter keep xs) ≡ true) → list_any p (filter keep (x ∷ xs)) ≡ true
    by true e b f rest = subst (λ ys. list_any p ys ≡ true) (sym (left_here e)) (here b f rest)
    by false e true f rest = absurd (let kept = all x f in let z : ⊥ = cc in z)
    by false e false f rest = subst (λ ys. list_any p ys ≡ true) (sym (gone_here e)) (rest (sym (ap (λ c. c || list_any p xs) f) ∙ h))

-- ---- a lock is taken

abbrev new_held : LockRef → ℕ → Bool → Held
new_held l f by_call = record { lock = l; frame = record { 0 = f }; by_call = by_call }

-- who takes a lock by a call has it
pub take_has : (L : Locks) (x f : ℕ) → HasLock (locks.take L (object_lock x) f true) f x
take_has L x f = any_last (λ h. same_lock h.lock (object_lock x) && h.frame.0 == f && h.by_call) L.held (new_held (object_lock x) f true) (rw (equal x x refl, equal f f refl) refl)

pub take_keeps : (L : Locks) (l : LockRef) (f : ℕ) (by_call : Bool) (g x : ℕ) → HasLock L g x → HasLock (locks.take L l f by_call) g x
take_keeps L l f by_call g x h = any_behind (λ y. same_lock y.lock (object_lock x) && y.frame.0 == g && y.by_call) L.held (new_held l f by_call ∷ []) h

-- ---- a lock is given back

-- of those with another lock nothing goes
release_keeps : (L : Locks) (l : LockRef) (g x : ℕ) → same_lock (object_lock x) l ≡ false → HasLock L g x → HasLock (locks.release L l) g x
release_keeps L l g x apart h = any_kept (λ y. same_lock y.lock (object_lock x) && y.frame.0 == g && y.by_call) (λ y. not (same_lock y.lock l)) stays L.held h
  where
    stays : (y : Held) → (same_lock y.lock (object_lock x) && y.frame.0 == g && y.by_call) ≡ true → not (same_lock y.lock l) ≡ true
    stays y e =
        let same : y.lock ≡ object_lock x = one_lock y.lock (object_lock x) (both_left (same_lock y.lock (object_lock x)) (y.frame.0 == g) (both_left (same_lock y.lock (object_lock x) && y.frame.0 == g) y.by_call e)) in
        ap (λ m. not (same_lock m l)) same ∙ ap not apart

pub release_other : (L : Locks) (y g x : ℕ) → x ≢ y → HasLock L g x → HasLock (locks.release L (object_lock y)) g x
release_other L y g x n h = release_keeps L (object_lock y) g x (not_equal x y n) h

-- a lock that is held once is held by one frame
pub one_holder : (L : Locks) (l : LockRef) (f g : ℕ) → Once L → holds_by_call L f l ≡ true → holds_by_call L g l ≡ true → f ≡ g
one_holder L l f g once a b = elim (one_or_two f g) [
  | inl e ↦ e
  | inr n ↦ absurd (
      let p = found_counts (λ h. same_lock h.lock l && h.frame.0 == f && h.by_call) L.held a in
      let q = found_counts (λ h. same_lock h.lock l && h.frame.0 == g && h.by_call) L.held b in
      let most = once l in
      let all = two_holds (λ h. same_lock h.lock l && h.frame.0 == f && h.by_call) (λ h. same_lock h.lock l && h.frame.0 == g && h.by_call) (λ h. same_lock h.lock l) (apart n) L.held in
      let z : ⊥ = omega arith in z)
]
  where
    by : (s x y c : Bool) → (x ≡ true → y ≡ true → ⊥) → flag (s && x && c) + flag (s && y && c) ≤ flag s
    by true true true c n = absurd (n refl refl)
    by true true false true n = omega arith
    by true true false false n = omega arith
    by true false true true n = omega arith
    by true false true false n = omega arith
    by true false false c n = omega arith
    by false x y c n = omega arith

    apart : f ≢ g → (h : Held) → flag (same_lock h.lock l && h.frame.0 == f && h.by_call) + flag (same_lock h.lock l && h.frame.0 == g && h.by_call) ≤ flag (same_lock h.lock l)
    apart n h = by (same_lock h.lock l) (h.frame.0 == f) (h.frame.0 == g) h.by_call (λ a b. n (sym (eqb-true h.frame.0 f a) ∙ eqb-true h.frame.0 g b))

-- a frame gives back what it holds: the others keep theirs
pub release_left : (L : Locks) (y f g : ℕ) → Once L → HasLock L f y → g ≢ f → Left L (locks.release L (object_lock y)) g
release_left L y f g once has n = record {
  fewer = filter_less (is_by g) (λ x. not (same_lock x.lock (object_lock y))) L.held;
  keeps = λ x h. elim (one_or_two x y) [
    | inl e ↦ absurd (n (one_holder L (object_lock y) g f once (subst (λ z. HasLock L g z) e h) has))
    | inr other ↦ release_other L y g x other h
  ];
}

-- a hold by a call isn't one since the start
called_other : (l : LockRef) (f g : ℕ) (h : Held) → (same_lock h.lock l && h.frame.0 == f && h.by_call) ≡ true → is_other_hold l g h ≡ true
called_other l f g h e =
    let called : h.by_call ≡ true = both_right (same_lock h.lock l && h.frame.0 == f) h.by_call e in
    let same : same_lock h.lock l ≡ true = both_left (same_lock h.lock l) (h.frame.0 == f) (both_left (same_lock h.lock l && h.frame.0 == f) h.by_call e) in
    both (same_lock h.lock l) (not ((h.frame.0 == g) && not h.by_call)) same (rw called (by (h.frame.0 == g)))
  where
    by : (b : Bool) → not (b && false) ≡ true
    by true = refl
    by false = refl

-- what a frame holds since its start no frame holds by a call
pub own_apart : (L : Locks) (l : LockRef) (f g : ℕ) → Once L → 1 ≤ own_holds L l f → holds_by_call L g l ≡ true → ⊥
own_apart L l f g once own has =
    not_own L l f once (found_counts (is_other_hold l f) L.held (any_weaker (λ x. same_lock x.lock l && x.frame.0 == g && x.by_call) (is_other_hold l f) (called_other l g f) L.held has)) own

-- a callback ends: the locks that calls took stay
pub ended_left : (L : Locks) (l : LockRef) (f g : ℕ) → Once L → 1 ≤ own_holds L l f → Left L (locks.release L l) g
ended_left L l f g once own = record {
  fewer = filter_less (is_by g) (λ x. not (same_lock x.lock l)) L.held;
  keeps = λ x h. elim (cases_Bool (same_lock (object_lock x) l)) [
    | inl e ↦ absurd (own_apart L l f g once own (subst (λ m. holds_by_call L g m ≡ true) (one_lock (object_lock x) l e) h))
    | inr apart ↦ release_keeps L l g x apart h
  ];
}

-- ---- deeds by which a frame takes no lock in a call, and none is given back

abbrev pub is_locking_of : ℕ → Deed → Bool
is_locking_of g (TakeLock l f by_call) = f.0 == g && by_call
is_locking_of g (ReleaseLock l) = true
is_locking_of g _ = false

deed_left : {A : Type 0} (plan : Plan) (d : Deed) (S : State A) (g : ℕ) → is_locking_of g d ≡ false → Left S.locks (do_deed plan d S).locks g
deed_left plan (TakeLock l f by_call) S g h = record {
  fewer = let all = taken S.locks l f.0 g by_call in let none : flag (f.0 == g && by_call) ≡ 0 = ap flag h in omega arith;
  keeps = λ x has. take_keeps S.locks l f.0 by_call g x has;
}
deed_left plan (ReleaseLock l) S g h = absurd (let z : ⊥ = cc in z)
deed_left plan d S g h = left_same S.locks _ g (locks_stay plan d S refl)

abbrev pub none_lock : ℕ → List Deed → Bool
none_lock g ds = list_all (λ d. not (is_locking_of g d)) ds

pub deeds_left : {A : Type 0} (plan : Plan) (ds : List Deed) (S : State A) (g : ℕ) → none_lock g ds ≡ true → Left S.locks (do_deeds plan ds S).locks g
deeds_left plan [] S g h = left_same S.locks S.locks g refl
deeds_left plan (d ∷ ds) S g h =
    left_then S.locks (do_deed plan d S).locks (do_deeds plan ds (do_deed plan d S)).locks g
    (deed_left plan d S g (not_true (is_locking_of g d) (both_left (not (is_locking_of g d)) (none_lock g ds) h)))
    (deeds_left plan ds (do_deed plan d S) g (both_right (not (is_locking_of g d)) (none_lock g ds) h))

unlocking : (e : Event) (g : ℕ) → is_start e ≡ false → second_part is_acquire e ≡ false → releasing e ≡ false → (d : Deed) → may_do e d ≡ true → not (is_locking_of g d) ≡ true
unlocking e g s a r (TakeLock l f by_call) h = absurd (let z : ⊥ = cc in z)
unlocking e g s a r (ReleaseLock l) h = absurd (let z : ⊥ = cc in z)
unlocking e g s a r _ h = refl

-- an event by which nobody acquires, and nothing is given back
pub event_left : {A : Type 0} (plan : Plan) (S : State A) (e : Event) (g : ℕ) → is_start e ≡ false → second_part is_acquire e ≡ false → releasing e ≡ false → Left S.locks (do_deeds plan (deeds plan S e) S).locks g
event_left plan S e g s a r = deeds_left plan (deeds plan S e) S g (event_passes (λ d. not (is_locking_of g d)) plan S e (unlocking e g s a r))

-- a callback's own lock is none that a call took
pub taken_if_any : (g f : ℕ) (l : Option LockRef) → none_lock g (take_if_any f l) ≡ true
taken_if_any g f None = refl
taken_if_any g f (Some l) = by (f == g)
  where
    by : (b : Bool) → (not (b && false) && true) ≡ true
    by true = refl
    by false = refl

pub none_both : (g : ℕ) (ds es : List Deed) → none_lock g ds ≡ true → none_lock g es ≡ true → none_lock g (ds ++ es) ≡ true
none_both g [] es h k = k
none_both g (d ∷ ds) es h k = both_so (not (is_locking_of g d)) (none_lock g (ds ++ es)) (both_left (not (is_locking_of g d)) (none_lock g ds) h) (none_both g ds es (both_right (not (is_locking_of g d)) (none_lock g ds) h) k)
  where
    both_so : (a b : Bool) → a ≡ true → b ≡ true → (a && b) ≡ true
    both_so a b e f = rw e (rw f refl)
