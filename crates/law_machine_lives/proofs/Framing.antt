-- At each place of every run a frame's object isn't gone, and a lock is held by a frame that is there.
use Rattle.std.proofs.Common.{◌≡◌, ◌≢◌, ℕ, ◌==◌, ◌≤◌, nat_lt, Bool, true, false, not, ◌&&◌, List, [], ◌∷◌, inl, inr, Option, Some, None, length, filter, count_by, take, refl, sym, ap, subst, ◌∙◌, arith}
use Rattle.std.proofs.lemmas.Bool.{cases_Bool}
use Rattle.std.proofs.lemmas.Bool.Decides.{nat_tests}
use Rattle.std.proofs.lemmas.List.Sums.{length-filter}
use Rattle.wdf_base.specs.Meaning.{Meaning}
use Rattle.wdf_base.specs.declared.plan.Plan.{Plan}
use Rattle.wdf_base.specs.declared.ids.Handle.{Handle}
use Rattle.wdf_base.specs.declared.event.Event.{Event}
use Rattle.wdf_base.specs.declared.event.Fault.TheVariants as fault
use Rattle.wdf_base.specs.declared.frame.Frame.{Frame}
use Rattle.wdf_base.specs.declared.object.LockRef.{LockRef}
use Rattle.wdf_base.specs.Same.{same_lock}
use Rattle.wdf_base.specs.Lives.{is_gone}
use Rattle.wdf_model.specs.declared.entries.Held.{Held}
use Rattle.wdf_model.specs.Tables.{flag}
use Rattle.wdf_model.specs.parts.Tree.{life_of, may_destroy}
use Rattle.wdf_model.specs.parts.Cpus.{Cpus, all_frames, frame_of, is_on, nobody_on, top}
use Rattle.wdf_model.specs.parts.Locks.{Locks, held_by_call, lock_of_callback}
use Rattle.wdf_model.specs.State.{State, declared_in, opening}
use Rattle.wdf_model.specs.declared.deed.Deed.{Deed}
use Rattle.wdf_model.specs.declared.deed.Deed.TheVariants.{EndLife, TakeLock, ReleaseLock, PushFrame, PopFrame}
use Rattle.wdf_model.specs.rules.Deeds.{counted, do_deed, do_deeds}
use Rattle.wdf_model.specs.rules.Starts.{release_if_any}
use Rattle.wdf_model.specs.rules.Steps.{deeds}
use Rattle.wdf_model.specs.rules.Ready.{IsRunOf, state_after}
use Rattle.law_machine_base.specs.Fits.{all_fit, fits}
use Rattle.wdf_model.proofs.Tests.{both, both_left, both_right}
use Rattle.wdf_model.proofs.Counts.{count_cons, equal, one_or_two}
use Rattle.law_machine_base.proofs.FitsOfEvents.{event_fits}
use Rattle.law_machine_counts.proofs.FrameMoves.{FrameKept}
use Rattle.law_machine_lives.proofs.Keeping.{at_the_end, each_place}
use Rattle.law_machine_lives.proofs.Lists.{Each, each_behind, each_kept, each_still}
use Rattle.wdf_model.proofs.Sames.{lock_itself}
use Rattle.law_machine_lives.proofs.Sound.{AllSound, Sound, lock_of_frame}
use Rattle.law_machine_lives.proofs.SoundEvents.{HoldsNone, event_sound, same_declared}
use Rattle.law_machine_lives.proofs.There.{StaysAt, deed_there}
use Rattle.law_machine_lives.proofs.FramesStay.{Begins, FramesGoOn, NoneEnds, frames_by}
use Rattle.law_machine_lives.proofs.PartsStay.{locks_stay}
use Rattle.law_machine_counts.proofs.StepsOverRuns.{none_yet}
use Rattle.wdf_model.proofs.FrameCounts.{on, seen}
use Rattle.law_machine_counts.proofs.Trees.{none_not_some}

-- a lock is held by a frame that is there; one that no call took is that of the frame's callback
abbrev pub IsHeld : {A : Type 0} → Plan → State A → Held → Type 0
IsHeld plan S h = (1 ≤ on S.cpus h.frame.0) × (h.by_call ≡ false → lock_of_frame plan S h.frame.0 ≡ Some h.lock)

abbrev pub object_of : {A : Type 0} → State A → ℕ → ℕ
object_of S f = (frame_of S.cpus f).object.id.0

pub record Framing {A : Type 0} (plan : Plan) (S : State A) : Type 0 where
  pub there : (f : ℕ) → 1 ≤ on S.cpus f → is_gone (life_of S.tree (object_of S f)) ≡ false
  pub held : Each (IsHeld plan S) S.locks.held

-- ---- a frame that stays

pub lock_stays : {A : Type 0} (plan : Plan) (S U : State A) (f : ℕ) → FrameKept (frame_of S.cpus f) (frame_of U.cpus f) → StaysAt S.tree U.tree (object_of S f) → lock_of_frame plan U f ≡ lock_of_frame plan S f
lock_stays plan S U f k s =
    ap (λ c. lock_of_callback plan c (object_of U f) (declared_in plan U (object_of U f))) k.callback
    ∙ ap (λ (h : Handle). lock_of_callback plan (frame_of S.cpus f).callback h.id.0 (declared_in plan U h.id.0)) k.object
    ∙ ap (lock_of_callback plan (frame_of S.cpus f).callback (object_of S f)) (same_declared plan S.tree U.tree (object_of S f) s.kind s.class)

pub object_stays : {A : Type 0} (S U : State A) (f : ℕ) → FrameKept (frame_of S.cpus f) (frame_of U.cpus f) → StaysAt S.tree U.tree (object_of S f) → is_gone (life_of U.tree (object_of U f)) ≡ false
object_stays S U f k s = ap (λ (h : Handle). is_gone (life_of U.tree h.id.0)) k.object ∙ s.there

-- the objects of frames that are there stay
abbrev ObjectsStay : {A : Type 0} → State A → State A → Type 0
ObjectsStay S U = (f : ℕ) → 1 ≤ on S.cpus f → StaysAt S.tree U.tree (object_of S f)

there_still : {A : Type 0} (plan : Plan) (S U : State A) → FramesGoOn S.cpus U.cpus → ObjectsStay S U → Framing plan S → (f : ℕ) → 1 ≤ on U.cpus f → is_gone (life_of U.tree (object_of U f)) ≡ false
there_still plan S U go stay k f more = let g = go f more in object_stays S U f g.1 (stay f g.0)

held_still : {A : Type 0} (plan : Plan) (S U : State A) (h : Held) → FramesGoOn S.cpus U.cpus → ObjectsStay S U → 1 ≤ on U.cpus h.frame.0 → IsHeld plan S h → IsHeld plan U h
held_still plan S U h go stay more k =
    let g = go h.frame.0 more in
    (more, λ start. lock_stays plan S U h.frame.0 g.1 (stay h.frame.0 g.0) ∙ k.1 start)

framing_still : {A : Type 0} (plan : Plan) (S U : State A) → FramesGoOn S.cpus U.cpus × NoneEnds S.cpus U.cpus → ObjectsStay S U → U.locks ≡ S.locks → Framing plan S → Framing plan U
framing_still plan S U go stay same k = record {
  there = there_still plan S U go.0 stay k;
  held = subst (λ (L : Locks). Each (IsHeld plan U) L.held) (sym same)
      (each_still (IsHeld plan S) (IsHeld plan U) (λ h is. held_still plan S U h go.0 stay (go.1 h.frame.0 is.0) is) S.locks.held k.held);
}

-- ---- locks that stay

abbrev pub LocksBy : {A : Type 0} → Plan → Deed → State A → Type 0
LocksBy plan (TakeLock l f by_call) S = Unit {0}
LocksBy plan (ReleaseLock l) S = Unit {0}
LocksBy plan d S = (do_deed plan d S).locks ≡ S.locks

pub locks_by : {A : Type 0} (plan : Plan) (d : Deed) (S : State A) → LocksBy plan d S
locks_by plan (TakeLock l f by_call) S = tt
locks_by plan (ReleaseLock l) S = tt
locks_by plan d S = locks_stay plan d S refl

-- ---- each deed

pub off_it : (C : Cpus) (o f : ℕ) → nobody_on C o ≡ true → 1 ≤ on C f → (frame_of C f).object.id.0 ≡ o → ⊥
off_it C o f none more e =
    let some = seen (is_on C o) f (all_frames C) more (equal (frame_of C f).object.id.0 o e) in
    let number : length (filter (is_on C o) (all_frames C)) ≡ count_by (is_on C o) (all_frames C) = length-filter (is_on C o) (all_frames C) in
    none_not_some (length (filter (is_on C o) (all_frames C))) none (omega arith)

objects_by : {A : Type 0} (plan : Plan) (d : Deed) (S : State A) → fits plan d S ≡ true → Framing plan S → ObjectsStay S (do_deed plan d S)
objects_by plan (EndLife o) S fit k f more = deed_there plan (EndLife o) S fit (object_of S f) (off_it S.cpus o.0 f (both_right (may_destroy S.tree o.0) (nobody_on S.cpus o.0) fit) more) (k.there f more)
objects_by plan d S fit k f more = deed_there plan d S fit (object_of S f) (λ e. e) (k.there f more)

pub framing_by : {A : Type 0} (plan : Plan) (d : Deed) (S : State A) → fits plan d S ≡ true → Sound plan d S → Framing plan S → Framing plan (do_deed plan d S)
framing_by plan (PushFrame cpu f frame level) S fit s k =
    let U = do_deed plan (PushFrame cpu f frame level) S in
    let b : Begins S.cpus U.cpus f.0 frame = frames_by plan (PushFrame cpu f frame level) S s in
    record {
      there = λ x more. elim (one_or_two x f.0) [
        | inl e ↦ rw e (ap (λ (a : Frame). is_gone (life_of S.tree a.object.id.0)) b.here ∙ s.0)
        | inr n ↦ let others = b.others x n in let same = others.0 in ap (λ (a : Frame). is_gone (life_of S.tree a.object.id.0)) others.1 ∙ k.there x (omega arith)
      ];
      held = each_still (IsHeld plan S) (IsHeld plan U)
          (λ h is.
          let n : h.frame.0 ≢ f.0 = λ e. (let none : on S.cpus h.frame.0 ≡ 0 = ap (on S.cpus) e ∙ b.new in let there = is.0 in let z : ⊥ = omega arith in z) in
          let others = b.others h.frame.0 n in let same = others.0 in let there = is.0 in
          (omega arith, λ start. ap (λ (a : Frame). lock_of_callback plan a.callback a.object.id.0 (declared_in plan S a.object.id.0)) others.1 ∙ is.1 start))
          S.locks.held k.held;
    }
framing_by plan (PopFrame cpu) S fit s k =
    let U = do_deed plan (PopFrame cpu) S in
    let b : FramesGoOn S.cpus U.cpus × ((f : ℕ) → 1 ≤ on S.cpus f → (top S.cpus cpu.0 ≡ Some f → ⊥) → 1 ≤ on U.cpus f) = frames_by plan (PopFrame cpu) S s in
    let stay : ObjectsStay S U = objects_by plan (PopFrame cpu) S fit k in
    record {
      there = there_still plan S U b.0 stay k;
      held = each_both (λ (h : Held). h.frame.0 ≢ s.0) (IsHeld plan S) (IsHeld plan U)
          (λ h n is. held_still plan S U h b.0 stay (b.1 h.frame.0 is.0 (λ t. n (top_once t s.1))) is) S.locks.held s.3 k.held;
    }
  where
    top_once : {o : Option ℕ} {x y : ℕ} → o ≡ Some x → o ≡ Some y → x ≡ y
    top_once {o} {x} {y} a b = let e : Some x ≡ Some y = sym a ∙ b in cc

    each_both : {T : Type 0} (P Q R : T → Type 0) → ((x : T) → P x → Q x → R x) → (xs : List T) → Each P xs → Each Q xs → Each R xs
    each_both P Q R h [] p q = tt
    each_both P Q R h (x ∷ xs) p q = (h x p.0 q.0, each_both P Q R h xs p.1 q.1)
framing_by plan (TakeLock l f by_call) S fit s k = record {
  there = k.there;
  held = each_behind (IsHeld plan S) S.locks.held (record { lock = l; frame = record { 0 = f.0 }; by_call = by_call } ∷ []) k.held (s, tt);
}
framing_by plan (ReleaseLock l) S fit s k = record {
  there = k.there;
  held = each_kept (IsHeld plan S) (IsHeld plan S) (λ h. not (same_lock h.lock l)) (λ h is _. is) S.locks.held k.held;
}
framing_by plan d S fit s k = framing_still plan S (do_deed plan d S) (frames_by plan d S s) (objects_by plan d S fit k) (locks_by plan d S) k

-- ---- a frame that ends

by_no_call : (L : Locks) (f : ℕ) → nat_lt 0 (held_by_call L f) ≡ false → held_by_call L f ≡ 0
by_no_call L f h = grind (arith, nat_tests)

abbrev IsCallOf : ℕ → Held → Bool
IsCallOf f h = h.frame.0 == f && h.by_call

each_counted : (P Q : Held → Type 0) (f : ℕ) → ((h : Held) → P h → (h.frame.0 ≡ f → h.by_call ≡ false) → Q h) → (hs : List Held) → count_by (IsCallOf f) hs ≡ 0 → Each P hs → Each Q hs
each_counted P Q f step [] none e = tt
each_counted P Q f step (h ∷ hs) none e =
    let c = count_cons (IsCallOf f) h hs in (
      step h e.0 (λ same. elim (cases_Bool h.by_call) [
        | inl b ↦ absurd (let one : flag (IsCallOf f h) ≡ 1 = ap flag (both (h.frame.0 == f) h.by_call (equal h.frame.0 f same) b) in omega arith)
        | inr b ↦ b
      ]),
      each_counted P Q f step hs (omega arith) e.1,
    )

not_own : (l : LockRef) (held : LockRef) → held ≡ l → not (same_lock held l) ≡ true → ⊥
not_own l held e k = let yes : same_lock held l ≡ true = subst (λ x. same_lock held x ≡ true) e (lock_itself held) in let z : ⊥ = cc in z

-- where it took no lock by a call, it holds none after its callback's is given back
released_all : {A : Type 0} (plan : Plan) (S : State A) (f : ℕ) (l : Option LockRef) → lock_of_frame plan S f ≡ l → held_by_call S.locks f ≡ 0 → Each (IsHeld plan S) S.locks.held
    → Each (λ (h : Held). h.frame.0 ≢ f) (do_deeds plan (release_if_any l) S).locks.held
released_all plan S f None own none k =
    each_counted (IsHeld plan S) (λ h. h.frame.0 ≢ f) f
    (λ h is start e. let lock : lock_of_frame plan S f ≡ Some h.lock = subst (λ x. lock_of_frame plan S x ≡ Some h.lock) e (is.1 (start e)) in let z : ⊥ = cc in z)
    S.locks.held none k
released_all plan S f (Some l) own none k =
    each_kept (λ h. h.frame.0 ≡ f → Some h.lock ≡ Some l) (λ h. h.frame.0 ≢ f) (λ h. not (same_lock h.lock l))
    (λ h is other e. let same : Some h.lock ≡ Some l = is e in not_own l h.lock (let one : h.lock ≡ l = cc in one) other)
    S.locks.held
    (each_counted (IsHeld plan S) (λ h. h.frame.0 ≡ f → Some h.lock ≡ Some l) f
    (λ h is start e. sym (subst (λ x. lock_of_frame plan S x ≡ Some h.lock) e (is.1 (start e))) ∙ own) S.locks.held none k)

pub holds_none : {A : Type 0} (plan : Plan) (S : State A) → Framing plan S → HoldsNone plan S
holds_none plan S k cpu c o v d =
    let same : lock_of_frame plan S d.frame ≡ lock_of_callback plan c o.id.0 (declared_in plan S o.id.0) =
    sym (ap (λ x. lock_of_callback plan x o.id.0 (declared_in plan S o.id.0)) d.callback ∙ ap (λ (h : Handle). lock_of_callback plan (frame_of S.cpus d.frame).callback h.id.0 (declared_in plan S h.id.0)) d.object) in
    released_all plan S d.frame (lock_of_callback plan c o.id.0 (declared_in plan S o.id.0)) same (by_no_call S.locks d.frame (d.about.clean fault.ReturnHoldingLock)) k.held

-- ---- each place of a run

opens : {A : Type 0} (plan : Plan) (m : Meaning A) → Framing plan (opening plan m)
opens plan m = record { there = λ f more. absurd (let e = none_yet plan (λ x. x == f) in omega arith); held = tt }

pub told : {A : Type 0} (plan : Plan) (m : Meaning A) (e : Event) (S : State A) → Framing plan S → Framing plan (counted m e S)
told plan m e S k = record { there = k.there; held = k.held }

pub deeds_frame : {A : Type 0} (plan : Plan) (ds : List Deed) (S : State A) → all_fit plan ds S ≡ true → AllSound plan ds S → Framing plan S → Framing plan (do_deeds plan ds S)
deeds_frame plan [] S h s k = k
deeds_frame plan (d ∷ ds) S h s k =
    deeds_frame plan ds (do_deed plan d S) (both_right (fits plan d S) (all_fit plan ds (do_deed plan d S)) h) s.1
    (framing_by plan d S (both_left (fits plan d S) (all_fit plan ds (do_deed plan d S)) h) s.0 k)

pub framing_at_each : {A : Type 0} (plan : Plan) (m : Meaning A) (run : List Event) → IsRunOf plan m run → (n : ℕ) → Framing plan (state_after plan m (take n run))
framing_at_each {A} plan m run is_run n = each_place plan m (λ (S : State A). Framing plan S) (opens plan m)
    (λ S e known may k. told plan m e (do_deeds plan (deeds plan S e) S) (deeds_frame plan (deeds plan S e) S (event_fits plan m S e may) (event_sound plan m S e known (holds_none plan S k) may) k))
    (λ S time k. record { there = k.there; held = k.held })
    run is_run n

pub framing_now : {A : Type 0} (plan : Plan) (m : Meaning A) (run : List Event) → IsRunOf plan m run → Framing plan (state_after plan m run)
framing_now {A} plan m run is_run = at_the_end plan m (λ (S : State A). Framing plan S) run (framing_at_each plan m run is_run (length run))
