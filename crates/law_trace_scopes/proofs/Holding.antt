-- A frame that is there holds the lock that its callback took at its start: what each deed keeps of it.
use Rattle.std.proofs.Common.{◌≡◌, ℕ, ◌+◌, ◌==◌, ◌≤◌, Bool, true, false, not, ◌&&◌, List, [], ◌∷◌, inl, inr, Some, count_by, refl, sym, ap, subst, ◌∙◌, arith}
use Rattle.std.specs.List.{list_all}
use Rattle.std.proofs.lemmas.Bool.{cases_Bool}
use Rattle.wdf_base.specs.declared.plan.Plan.{Plan}
use Rattle.wdf_base.specs.declared.object.LockRef.{LockRef}
use Rattle.wdf_base.specs.Same.{same_lock}
use Rattle.wdf_model.specs.declared.entries.Held.{Held}
use Rattle.wdf_model.specs.Tables.{flag}
use Rattle.wdf_model.specs.parts.Tree.{may_destroy}
use Rattle.wdf_model.specs.parts.Cpus.{Cpus, nobody_on}
use Rattle.wdf_model.specs.parts.Locks.{Locks}
use Rattle.wdf_model.specs.parts.Locks as locks
use Rattle.wdf_model.specs.State.{State}
use Rattle.wdf_model.specs.declared.deed.Deed.{Deed}
use Rattle.wdf_model.specs.declared.deed.Deed.TheVariants.{EndLife, GoOn, Lower, ParkFrame, PopFrame, PushFrame, Raise, ReleaseLock, TakeLock, UnparkFrame}
use Rattle.wdf_model.specs.rules.Deeds.{do_deed, do_deeds}
use Rattle.law_machine_base.specs.Fits.{all_fit, fits}
use Rattle.wdf_model.proofs.Tests.{both_left, both_right, not_true}
use Rattle.wdf_model.proofs.Counts.{count_behind, count_cons, filter_kept}
use Rattle.law_machine_lives.proofs.FramesStay.{FramesGoOn, NoneEnds, frames_by}
use Rattle.law_machine_lives.proofs.Framing.{Framing, framing_by, lock_stays, locks_by, object_of, off_it}
use Rattle.wdf_model.proofs.Sames.{one_lock}
use Rattle.law_machine_lives.proofs.LocksOnce.{Once}
use Rattle.law_machine_lives.proofs.QuietMoves.{quiet_cpus}
use Rattle.law_machine_lives.proofs.Sound.{AllSound, Sound, lock_of_frame}
use Rattle.law_machine_lives.proofs.There.{StaysAt, deed_there}
use Rattle.wdf_model.proofs.FrameCounts.{on}

-- a lock is held by this frame since its start, and not by a call
abbrev pub is_own_hold : LockRef → ℕ → Held → Bool
is_own_hold l f h = same_lock h.lock l && (h.frame.0 == f) && not h.by_call

abbrev pub own_holds : Locks → LockRef → ℕ → ℕ
own_holds L l f = count_by (is_own_hold l f) L.held

-- each frame that is there, but for one, holds the lock of its callback
abbrev pub HoldsBut : {A : Type 0} → Plan → State A → (ℕ → Type 0) → Type 0
HoldsBut plan S Except = (f : ℕ) → (Except f → ⊥) → 1 ≤ on S.cpus f → (l : LockRef) → lock_of_frame plan S f ≡ Some l → 1 ≤ own_holds S.locks l f

abbrev pub Holds : {A : Type 0} → Plan → State A → Type 0
Holds plan S = HoldsBut plan S (λ f. ⊥)

-- frames go on, and none ends
pub record Goes {A : Type 0} (S U : State A) : Type 0 where
  pub go : FramesGoOn S.cpus U.cpus
  pub none : NoneEnds S.cpus U.cpus

pub goes_same : {A : Type 0} (S : State A) → Goes S S
goes_same S = record { go = λ f more. (more, record { callback = refl; object = refl; device = refl }); none = λ f more. more }

-- where the processors stay, all frames do
pub goes_cpus : {A : Type 0} (S U : State A) → U.cpus ≡ S.cpus → Goes S U
goes_cpus S U e = record {
  go = subst (λ C. FramesGoOn S.cpus C) (sym e) (λ f more. (more, record { callback = refl; object = refl; device = refl }));
  none = subst (λ C. NoneEnds S.cpus C) (sym e) (λ f more. more);
}

pub goes_then : {A : Type 0} (S T U : State A) → Goes S T → Goes T U → Goes S U
goes_then S T U a b = record {
  go = λ f more. let q = b.go f more in let p = a.go f q.0 in (p.0, record { callback = q.1.callback ∙ p.1.callback; object = q.1.object ∙ p.1.object; device = q.1.device ∙ p.1.device });
  none = λ f more. b.none f (a.none f more);
}

-- ---- a deed by which no frame begins or ends and no lock is given back

abbrev pub is_special : Deed → Bool
is_special (PushFrame cpu f frame level) = true
is_special (PopFrame cpu) = true
is_special (ReleaseLock l) = true
is_special _ = false

objects_by : {A : Type 0} (plan : Plan) (d : Deed) (S : State A) → fits plan d S ≡ true → Framing plan S → (f : ℕ) → 1 ≤ on S.cpus f → StaysAt S.tree (do_deed plan d S).tree (object_of S f)
objects_by plan (EndLife o) S fit k f more = deed_there plan (EndLife o) S fit (object_of S f) (off_it S.cpus o.0 f (both_right (may_destroy S.tree o.0) (nobody_on S.cpus o.0) fit) more) (k.there f more)
objects_by plan d S fit k f more = deed_there plan d S fit (object_of S f) (λ e. e) (k.there f more)

holds_still : {A : Type 0} (plan : Plan) (S U : State A) (X : ℕ → Type 0) → FramesGoOn S.cpus U.cpus → ((f : ℕ) → 1 ≤ on S.cpus f → StaysAt S.tree U.tree (object_of S f)) → ((l : LockRef) (f : ℕ) → own_holds S.locks l f ≤ own_holds U.locks l f)
    → HoldsBut plan S X → HoldsBut plan U X
holds_still plan S U X go stay locks_ k f other more l is =
    let g = go f more in
    let was : lock_of_frame plan S f ≡ Some l = sym (lock_stays plan S U f g.1 (stay f g.0)) ∙ is in
    let had = k f other g.0 l was in
    let less = locks_ l f in
    omega arith

same_locks : (K L : Locks) (l : LockRef) (f : ℕ) → L ≡ K → own_holds K l f ≤ own_holds L l f
same_locks K L l f e = let same : own_holds L l f ≡ own_holds K l f = ap (λ (M : Locks). own_holds M l f) e in omega arith

takes_more : (L : Locks) (l m : LockRef) (f g : ℕ) (by_call : Bool) → own_holds L l f ≤ own_holds (locks.take L m g by_call) l f
takes_more L l m f g by_call = let e = count_behind (is_own_hold l f) L.held (record { lock = m; frame = record { 0 = g }; by_call = by_call } ∷ []) in omega arith

deed_goes : {A : Type 0} (plan : Plan) (d : Deed) (S : State A) → Sound plan d S → is_special d ≡ false → Goes S (do_deed plan d S)
deed_goes plan (PushFrame cpu f frame level) S s h = absurd (let z : ⊥ = cc in z)
deed_goes plan (PopFrame cpu) S s h = absurd (let z : ⊥ = cc in z)
deed_goes plan (ReleaseLock l) S s h = absurd (let z : ⊥ = cc in z)
deed_goes plan d S s h = let g = frames_by plan d S s in record { go = g.0; none = g.1 }

deed_locks : {A : Type 0} (plan : Plan) (d : Deed) (S : State A) → is_special d ≡ false → (l : LockRef) (f : ℕ) → own_holds S.locks l f ≤ own_holds (do_deed plan d S).locks l f
deed_locks plan (PushFrame cpu f frame level) S h l g = absurd (let z : ⊥ = cc in z)
deed_locks plan (PopFrame cpu) S h l g = absurd (let z : ⊥ = cc in z)
deed_locks plan (ReleaseLock m) S h l g = absurd (let z : ⊥ = cc in z)
deed_locks plan (TakeLock m f by_call) S h l g = takes_more S.locks l m g f.0 by_call
deed_locks plan d S h l g = same_locks S.locks (do_deed plan d S).locks l g (locks_by plan d S)

pub deed_holds : {A : Type 0} (plan : Plan) (d : Deed) (S : State A) (X : ℕ → Type 0) → fits plan d S ≡ true → Sound plan d S → is_special d ≡ false → Framing plan S → HoldsBut plan S X → HoldsBut plan (do_deed plan d S) X
deed_holds plan d S X fit s h k q =
    holds_still plan S (do_deed plan d S) X (let g = deed_goes plan d S s h in g.go) (objects_by plan d S fit k) (deed_locks plan d S h) q

abbrev pub none_special : List Deed → Bool
none_special ds = list_all (λ d. not (is_special d)) ds

-- what some such deeds keep
pub record Kept {A : Type 0} (plan : Plan) (X : ℕ → Type 0) (S U : State A) : Type 0 where
  pub goes : Goes S U
  pub framing : Framing plan U
  pub holds : HoldsBut plan U X

pub deeds_hold : {A : Type 0} (plan : Plan) (ds : List Deed) (S : State A) (X : ℕ → Type 0) → all_fit plan ds S ≡ true → AllSound plan ds S → none_special ds ≡ true → Framing plan S → HoldsBut plan S X → Kept plan X S (do_deeds plan ds S)
deeds_hold plan [] S X f s h k q = record { goes = goes_same S; framing = k; holds = q }
deeds_hold {A} plan (d ∷ ds) S X f s h k q =
    let U : State A = do_deed plan d S in
    let fit : fits plan d S ≡ true = both_left (fits plan d S) (all_fit plan ds U) f in
    let quiet : is_special d ≡ false = not_true (is_special d) (both_left (not (is_special d)) (none_special ds) h) in
    let rest : Kept plan X U (do_deeds plan ds U) =
    deeds_hold plan ds U X (both_right (fits plan d S) (all_fit plan ds U) f) s.1 (both_right (not (is_special d)) (none_special ds) h)
    (framing_by plan d S fit s.0 k) (deed_holds plan d S X fit s.0 quiet k q) in
    record { goes = goes_then S U (do_deeds plan ds U) (deed_goes plan d S s.0 quiet) rest.goes; framing = rest.framing; holds = rest.holds }

-- ---- the stacks stay

abbrev pub is_moving : Deed → Bool
is_moving (PushFrame cpu f frame level) = true
is_moving (PopFrame cpu) = true
is_moving (ParkFrame cpu) = true
is_moving (UnparkFrame cpu f) = true
is_moving _ = false

deed_stacks : {A : Type 0} (plan : Plan) (d : Deed) (S : State A) → is_moving d ≡ false → (do_deed plan d S).cpus.stacks ≡ S.cpus.stacks
deed_stacks plan (PushFrame cpu f frame level) S h = absurd (let z : ⊥ = cc in z)
deed_stacks plan (PopFrame cpu) S h = absurd (let z : ⊥ = cc in z)
deed_stacks plan (ParkFrame cpu) S h = absurd (let z : ⊥ = cc in z)
deed_stacks plan (UnparkFrame cpu f) S h = absurd (let z : ⊥ = cc in z)
deed_stacks plan (GoOn f frame) S h = refl
deed_stacks plan (Raise f level) S h = refl
deed_stacks plan (Lower f level) S h = refl
deed_stacks plan (TakeLock l f by_call) S h = refl
deed_stacks plan (ReleaseLock l) S h = refl
deed_stacks plan d S h = ap (λ (C : Cpus). C.stacks) (quiet_cpus plan d S refl)

abbrev pub none_moves : List Deed → Bool
none_moves ds = list_all (λ d. not (is_moving d)) ds

pub deeds_stacks : {A : Type 0} (plan : Plan) (ds : List Deed) (S : State A) → none_moves ds ≡ true → (do_deeds plan ds S).cpus.stacks ≡ S.cpus.stacks
deeds_stacks plan [] S h = refl
deeds_stacks plan (d ∷ ds) S h =
    deeds_stacks plan ds (do_deed plan d S) (both_right (not (is_moving d)) (none_moves ds) h) ∙ deed_stacks plan d S (not_true (is_moving d) (both_left (not (is_moving d)) (none_moves ds) h))

-- ---- a lock is given back

-- how often a lock is held, one way and the other
pub two_holds : (p q r : Held → Bool) → ((h : Held) → flag (p h) + flag (q h) ≤ flag (r h)) → (hs : List Held) → count_by p hs + count_by q hs ≤ count_by r hs
two_holds p q r less [] = omega arith
two_holds p q r less (h ∷ hs) =
    let a = count_cons p h hs in let b = count_cons q h hs in let c = count_cons r h hs in
    let now_ = less h in let rest = two_holds p q r less hs in
    omega arith

-- a hold that isn't this frame's own
abbrev pub is_other_hold : LockRef → ℕ → Held → Bool
is_other_hold l f h = same_lock h.lock l && not ((h.frame.0 == f) && not h.by_call)

split_by : (a b c : Bool) → flag (a && b && c) + flag (a && not (b && c)) ≤ flag a
split_by true true true = omega arith
split_by true true false = omega arith
split_by true false c = omega arith
split_by false b c = omega arith

-- what is held once, and by another or by a call, isn't this frame's own
pub not_own : (L : Locks) (l : LockRef) (f : ℕ) → Once L → 1 ≤ count_by (is_other_hold l f) L.held → 1 ≤ own_holds L l f → ⊥
not_own L l f once other own =
    let most = once l in
    let both_ = two_holds (is_own_hold l f) (is_other_hold l f) (λ h. same_lock h.lock l) (λ h. split_by (same_lock h.lock l) (h.frame.0 == f) (not h.by_call)) L.held in
    omega arith

released_other : (l m : LockRef) (f : ℕ) (h : Held) → same_lock l m ≡ false → not (same_lock h.lock m) ≡ false → is_own_hold l f h ≡ false
released_other l m f h apart gone_ = by (same_lock h.lock l) refl
  where
    by : (b : Bool) → same_lock h.lock l ≡ b → (same_lock h.lock l && (h.frame.0 == f) && not h.by_call) ≡ false
    by true e = absurd (let is : h.lock ≡ l = one_lock h.lock l e in let on_ : same_lock h.lock m ≡ false = ap (λ x. same_lock x m) is ∙ apart in let off : not (same_lock h.lock m) ≡ true = ap not on_ in let z : ⊥ = cc in z)
    by false e = rw e refl

-- a lock that is given back leaves the others
pub release_leaves : (L : Locks) (l m : LockRef) (f : ℕ) → same_lock l m ≡ false → own_holds (locks.release L m) l f ≡ own_holds L l f
release_leaves L l m f apart = filter_kept (is_own_hold l f) (λ h. not (same_lock h.lock m)) (λ h gone_. released_other l m f h apart gone_) L.held

-- where no frame but the excepted ones has this lock as its own, giving it back leaves the rest
pub release_holds : {A : Type 0} (plan : Plan) (S : State A) (m : LockRef) (X : ℕ → Type 0) → ((f : ℕ) → (X f → ⊥) → 1 ≤ on S.cpus f → 1 ≤ own_holds S.locks m f → ⊥) → Holds plan S → HoldsBut plan (do_deed plan (ReleaseLock m) S) X
release_holds {A} plan S m X free k f other more l is =
    let had : 1 ≤ own_holds S.locks l f = k f (λ z. z) more l is in
    elim (cases_Bool (same_lock l m)) [
      | inl e ↦ absurd (free f other more (subst (λ x. 1 ≤ own_holds S.locks x f) (one_lock l m e) had))
      | inr apart ↦ let same = release_leaves S.locks l m f apart in omega arith
    ]
