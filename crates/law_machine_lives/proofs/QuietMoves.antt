-- Quiet deeds keep what levels, locks and objects keep of one another.
use Rattle.std.proofs.Common.{if◌then◌else◌, ◌≡◌, ◌≢◌, ℕ, ◌+◌, ◌-◌, ◌==◌, ◌≤◌, Bool, true, false, not, ◌&&◌, List, [], ◌∷◌, inl, inr, Option, Some, None, fold, slice_set, count_by, refl, sym, ap, subst, ◌∙◌, arith}
use Rattle.std.specs.List.{list_any}
use Rattle.std.proofs.lemmas.Bool.{cases_Bool, eqb-true}
use Rattle.wdf_base.specs.declared.ids.ObjectId.{ObjectId}
use Rattle.wdf_base.specs.declared.plan.Plan.{Plan}
use Rattle.wdf_base.specs.declared.object.Kind.{Kind}
use Rattle.wdf_base.specs.declared.object.Kind.TheVariants as kind
use Rattle.wdf_base.specs.declared.object.Life.{Life}
use Rattle.wdf_base.specs.declared.object.Life.TheVariants as life
use Rattle.wdf_base.specs.declared.object.LockRef.{LockRef}
use Rattle.wdf_base.specs.declared.object.LockRef.TheVariants as lock
use Rattle.wdf_base.specs.declared.frame.Pending.{Pending}
use Rattle.wdf_base.specs.Same.{same_kind, same_lock}
use Rattle.wdf_base.specs.Lives.{is_cleaned, is_live, is_past_cleanup}
use Rattle.wdf_base.specs.Calls.{is_acquire}
use Rattle.wdf_model.specs.declared.entries.Held.{Held}
use Rattle.wdf_model.specs.declared.entries.Node.{Node}
use Rattle.wdf_model.specs.Tables.{flag}
use Rattle.wdf_model.specs.parts.Tree.{Tree, gone, kind_of, life_of, new_node, next_id, node_of, noted, subtree, with_life, with_node}
use Rattle.wdf_model.specs.parts.Tree as tree
use Rattle.wdf_model.specs.parts.Cpus.{Cpus, all_frames, frame_of}
use Rattle.wdf_model.specs.parts.Locks.{Locks, is_free_lock, lock_of_callback, object_lock}
use Rattle.wdf_model.specs.parts.Requests as requests
use Rattle.wdf_model.specs.State.{State, is_locked, is_waited_for, object_in, waits_for}
use Rattle.wdf_model.specs.declared.deed.Deed.{Deed}
use Rattle.wdf_model.specs.declared.deed.Deed.TheVariants.{Create, MakeRequest, Arrive, AskDeletion, Refer, Unrefer, WriteCell, Note, CleanUp, EndLife, PushFrame, GoOn, PopFrame, ParkFrame, UnparkFrame, Raise, Lower, TakeLock, ReleaseLock, CompleteRequest}
use Rattle.wdf_model.specs.rules.Deeds.{ask_object, do_deed, do_deeds, give_up}
use Rattle.wdf_model.specs.rules.Calls.{level_of_kind}
use Rattle.wdf_model.specs.rules.Starts.{clean_ready, destroy_ready}
use Rattle.law_machine_base.specs.Fits.{all_fit, fits}
use Rattle.wdf_model.proofs.Tests.{both_left, both_right, first, not_false, not_true, second}
use Rattle.wdf_model.proofs.Maps.{entry_before, entry_past, entry_put_other}
use Rattle.wdf_model.proofs.Counts.{count_cons, equal, one_or_two}
use Rattle.law_machine_base.proofs.Deletion.{object_live, object_off}
use Rattle.law_machine_lives.proofs.Stays.{gives_up}
use Rattle.law_machine_lives.proofs.Lists.{Each, each_still, reads_same}
use Rattle.law_machine_lives.proofs.LocksOnce.{free_unheld}
use Rattle.law_machine_lives.proofs.Sound.{AllSound}
use Rattle.law_machine_lives.proofs.SoundEvents.{same_declared}
use Rattle.law_machine_lives.proofs.There.{Ends, StaysAt, deed_there}
use Rattle.law_machine_lives.proofs.Framing.{Framing, framing_by, locks_by, off_it}
use Rattle.law_machine_lives.proofs.Counted.{called, height, is_called, same_of_each}
use Rattle.law_machine_lives.proofs.Leveled.{EarlyIfCalled, IsEarly, Leveled, awaited, object_at}
use Rattle.law_machine_lives.proofs.QuietDeeds.{all_quiet, is_quiet_deed}
use Rattle.law_machine_lives.proofs.Readers.{tree_of}
use Rattle.law_machine_lives.proofs.Lives.{early_there, noted_life}
use Rattle.law_machine_lives.proofs.PartsStay.{cpus_stay, tree_stays}
use Rattle.wdf_model.proofs.FrameCounts.{on}
use Rattle.law_machine_counts.proofs.Arrived.{arrived_tree}

abbrev pub LeveledIn : {A : Type 0} → Plan → State A → Type 0
LeveledIn plan S = Leveled plan S.cpus S.locks S.tree

-- ---- objects that aren't past their cleanup

early_changes : (T : Tree) (o : ℕ) (f : Node → Node) → is_past_cleanup (f (node_of T o)).life ≡ is_past_cleanup (life_of T o) → (x : ℕ) → is_past_cleanup (life_of T x) ≡ false → is_past_cleanup (life_of (with_node T o f) x) ≡ false
early_changes T o f same x h = reads_same (λ n. is_past_cleanup n.life) T o f same x ∙ h

early_made : (T : Tree) (k : Kind) (class parent x : ℕ) → is_past_cleanup (life_of T x) ≡ false → is_past_cleanup (life_of (tree.create T k class parent) x) ≡ false
early_made T k class parent x h =
    let apart : x ≢ next_id T = λ e. let past : is_past_cleanup (life_of T x) ≡ true = rw e (ap (λ (n : Node). is_past_cleanup n.life) (entry_past gone T.nodes (next_id T) (omega arith))) in let z : ⊥ = cc in z in
    ap (λ (n : Node). is_past_cleanup n.life) (entry_before gone T.nodes (new_node k class parent) x apart) ∙ h

live_early : (l : Life) → is_live l ≡ true → false ≡ is_past_cleanup l
live_early life.Live h = refl
live_early life.Asked h = refl
live_early life.Cleaned h = absurd (let z : ⊥ = cc in z)
live_early life.Gone h = absurd (let z : ⊥ = cc in z)

asked_one : {A : Type 0} (S : State A) (x : ℕ) (b : Bool) → is_live (life_of S.tree x) ≡ b → (y : ℕ) → is_past_cleanup (life_of S.tree y) ≡ false → is_past_cleanup (life_of (ask_object S x).tree y) ≡ false
asked_one {A} S x true e y h = subst (λ (U : State A). is_past_cleanup (life_of U.tree y) ≡ false) (sym (object_live S x e)) (early_changes S.tree x (with_life life.Asked) (live_early (life_of S.tree x) e) y h)
asked_one {A} S x false e y h = subst (λ (U : State A). is_past_cleanup (life_of U.tree y) ≡ false) (sym (object_off S x e)) h

all_asked : {A : Type 0} (xs : List ℕ) (S : State A) (y : ℕ) → is_past_cleanup (life_of S.tree y) ≡ false → is_past_cleanup (life_of (fold ask_object S xs).tree y) ≡ false
all_asked [] S y h = h
all_asked (x ∷ xs) S y h = all_asked xs (ask_object S x) y (asked_one S x (is_live (life_of S.tree x)) refl y h)

same_early : (T U : Tree) (x : ℕ) → U ≡ T → is_past_cleanup (life_of T x) ≡ false → is_past_cleanup (life_of U x) ≡ false
same_early T U x e h = ap (λ (V : Tree). is_past_cleanup (life_of V x)) e ∙ h

-- the object that a deed cleans up, if any
abbrev Cleans : Deed → ℕ → Type 0
Cleans (CleanUp o) x = x ≡ o.0
Cleans _ x = ⊥

pub cleaned_past : (l : Life) → is_cleaned l ≡ true → is_past_cleanup l ≡ true
cleaned_past life.Cleaned h = refl
cleaned_past life.Gone h = refl
cleaned_past life.Live h = absurd (let z : ⊥ = cc in z)
cleaned_past life.Asked h = absurd (let z : ⊥ = cc in z)

pub ended_apart : {A : Type 0} (S : State A) (o x : ℕ) → destroy_ready S o ≡ true → is_past_cleanup (life_of S.tree x) ≡ false → x ≢ o
ended_apart S o x f h e =
    let done : is_cleaned (life_of S.tree o) ≡ true = search both_left in
    let past : is_past_cleanup (life_of S.tree x) ≡ true = ap (λ y. is_past_cleanup (life_of S.tree y)) e ∙ cleaned_past (life_of S.tree o) done in
    let z : ⊥ = cc in z

deed_early : {A : Type 0} (plan : Plan) (d : Deed) (S : State A) → fits plan d S ≡ true → (x : ℕ) → (Cleans d x → ⊥) → is_past_cleanup (life_of S.tree x) ≡ false → is_past_cleanup (life_of (do_deed plan d S).tree x) ≡ false
deed_early plan (Create k class parent) S f x n h = early_made S.tree k class parent.0 x h
deed_early plan (MakeRequest class parent) S f x n h = early_made S.tree kind.Made class parent.0 x h
deed_early plan (Arrive device info p) S f x n h = same_early _ _ x (arrived_tree S device.0 info p) (early_made S.tree kind.Request 0 device.0 x h)
deed_early plan (AskDeletion o) S f x n h = all_asked (subtree S.tree o.0) S x h
deed_early plan (Refer o) S f x n h = early_changes S.tree o.0 (λ m. record m { references = m.references + 1 }) refl x h
deed_early plan (Unrefer o) S f x n h = early_changes S.tree o.0 (λ m. record m { references = m.references - 1 }) refl x h
deed_early plan (WriteCell o k v) S f x n h = early_changes S.tree o.0 (λ m. record m { cells = slice_set m.cells k v }) refl x h
deed_early plan (Note o c) S f x n h = early_changes S.tree o.0 (noted c) (ap is_past_cleanup (noted_life c (node_of S.tree o.0))) x h
deed_early plan (CleanUp o) S f x n h = ap (λ (m : Node). is_past_cleanup m.life) (entry_put_other gone S.tree.nodes o.0 x (with_life life.Cleaned (node_of S.tree o.0)) n) ∙ h
deed_early plan (EndLife o) S f x n h = ap (λ (m : Node). is_past_cleanup m.life) (entry_put_other gone S.tree.nodes o.0 x gone (ended_apart S o.0 x f h)) ∙ h
deed_early plan (CompleteRequest r) S f x n h =
    all_asked (subtree (give_up S r.0).tree r.0) (record (give_up S r.0) { requests = requests.complete S.requests r.0 }) x (same_early _ _ x (gives_up tree_of (λ S Q R P. refl) S r.0) h)
deed_early plan d S f x n h = same_early _ _ x (tree_stays plan d S refl) h

-- ---- processors and locks that stay

pub quiet_cpus : {A : Type 0} (plan : Plan) (d : Deed) (S : State A) → is_quiet_deed d ≡ true → (do_deed plan d S).cpus ≡ S.cpus
quiet_cpus plan (PushFrame cpu f frame level) S h = absurd (let z : ⊥ = cc in z)
quiet_cpus plan (GoOn f frame) S h = absurd (let z : ⊥ = cc in z)
quiet_cpus plan (PopFrame cpu) S h = absurd (let z : ⊥ = cc in z)
quiet_cpus plan (ParkFrame cpu) S h = absurd (let z : ⊥ = cc in z)
quiet_cpus plan (UnparkFrame cpu f) S h = absurd (let z : ⊥ = cc in z)
quiet_cpus plan (Raise f level) S h = absurd (let z : ⊥ = cc in z)
quiet_cpus plan (Lower f level) S h = absurd (let z : ⊥ = cc in z)
quiet_cpus plan d S h = cpus_stay plan d S refl

pub quiet_locks : {A : Type 0} (plan : Plan) (d : Deed) (S : State A) → is_quiet_deed d ≡ true → (do_deed plan d S).locks ≡ S.locks
quiet_locks plan (TakeLock l f by_call) S h = absurd (let z : ⊥ = cc in z)
quiet_locks plan (ReleaseLock l) S h = absurd (let z : ⊥ = cc in z)
quiet_locks plan d S h = locks_by plan d S

-- ---- what a lock, or a wait, keeps from its cleanup

none_counted : (p : Held → Bool) (hs : List Held) → count_by p hs ≡ 0 → Each (λ h. p h ≡ false) hs
none_counted p [] e = tt
none_counted p (h ∷ hs) e =
    let c = count_cons p h hs in (
      (elim (cases_Bool (p h)) [
        | inl b ↦ absurd (let one : flag (p h) ≡ 1 = ap flag b in omega arith)
        | inr b ↦ b
      ]),
      none_counted p hs (omega arith),
    )

abbrev ApartFrom : Deed → Held → Type 0
ApartFrom d h = (o : ObjectId) → h.lock ≡ lock.Object o → Cleans d o.0 → ⊥

unlocked : {A : Type 0} (S : State A) (o : ℕ) → clean_ready S o ≡ true → is_free_lock S.locks (object_lock o) ≡ true
unlocked S o h = let n : not (is_locked S o) ≡ true = search (both_left, both_right) in not_false (is_free_lock S.locks (object_lock o)) (not_true (not (is_free_lock S.locks (object_lock o))) n)

locks_apart : {A : Type 0} (plan : Plan) (d : Deed) (S : State A) → fits plan d S ≡ true → Each (ApartFrom d) S.locks.held
locks_apart plan (CleanUp o) S f =
    each_still (λ h. same_lock h.lock (object_lock o.0) ≡ false) (ApartFrom (CleanUp o))
    (λ h off x e same. let on_ : same_lock h.lock (object_lock o.0) ≡ true = ap (λ (l : LockRef). same_lock l (object_lock o.0)) e ∙ equal x.0 o.0 same in let z : ⊥ = cc in z)
    S.locks.held (none_counted (λ h. same_lock h.lock (object_lock o.0)) S.locks.held (free_unheld S.locks (object_lock o.0) (unlocked S o.0 f)))
locks_apart plan d S f = all_of (ApartFrom d) (λ h o e c. c) S.locks.held
  where
    all_of : (P : Held → Type 0) → ((h : Held) → P h) → (hs : List Held) → Each P hs
    all_of P h [] = tt
    all_of P h (x ∷ xs) = (h x, all_of P h xs)

unwaited : {A : Type 0} (S : State A) (o : ℕ) → clean_ready S o ≡ true → is_waited_for S o ≡ false
unwaited S o h = let n : not (is_waited_for S o) ≡ true = search (both_left, both_right) in not_true (is_waited_for S o) n

some_frame : (p : ℕ → Bool) (f : ℕ) (fs : List ℕ) → 1 ≤ count_by (λ x. x == f) fs → p f ≡ true → list_any p fs ≡ true
some_frame p f [] more h = absurd (omega arith)
some_frame p f (x ∷ xs) more h = elim (one_or_two x f) [
  | inl e ↦ first (p x) (list_any p xs) (ap p e ∙ h)
  | inr n ↦ second (p x) (list_any p xs) (some_frame p f xs (let c = count_cons (λ y. y == f) x xs in let no_ : flag (x == f) ≡ 0 = off (x == f) (λ e. n (eqb-true x f e)) in omega arith) h)
]
  where
    off : (b : Bool) → (b ≡ true → ⊥) → flag b ≡ 0
    off true h = absurd (h refl)
    off false h = refl

waits_apart : {A : Type 0} (plan : Plan) (d : Deed) (S : State A) → fits plan d S ≡ true → (f : ℕ) (p : Pending) → 1 ≤ on S.cpus f → (frame_of S.cpus f).pending ≡ Some p → Cleans d (object_in p.call.a) → ⊥
waits_apart plan (CleanUp o) S fit f p more e same =
    let waits : waits_for o.0 (frame_of S.cpus f).pending ≡ true = ap (waits_for o.0) e ∙ equal (object_in p.call.a) o.0 same in
    let some : is_waited_for S o.0 ≡ true = some_frame (λ x. waits_for o.0 (frame_of S.cpus x).pending) f (all_frames S.cpus) more waits in
    let none = unwaited S o.0 fit in let z : ⊥ = cc in z
waits_apart plan d S fit f p more e same = same

-- ---- the objects change

abbrev Still : Tree → Tree → ℕ → Type 0
Still T U o = (is_past_cleanup (life_of U o) ≡ false) × (kind_of U o ≡ kind_of T o)

early_still : (T U : Tree) (l : LockRef) → ((o : ObjectId) → l ≡ lock.Object o → is_past_cleanup (life_of T o.0) ≡ false → Still T U o.0) → IsEarly T l → IsEarly U l
early_still T U (lock.Object o) h e = (h o refl e).0
early_still T U (lock.DeviceScope d) h e = tt
early_still T U (lock.QueueScope q) h e = tt

height_still : (plan : Plan) (T U : Tree) (l : LockRef) → ((o : ObjectId) → l ≡ lock.Object o → is_past_cleanup (life_of T o.0) ≡ false → Still T U o.0) → IsEarly T l → height plan U l ≡ height plan T l
height_still plan T U (lock.Object o) h e = ap (level_of_kind plan o.0) (h o refl e).1
height_still plan T U (lock.DeviceScope d) h e = refl
height_still plan T U (lock.QueueScope q) h e = refl

called_still : (plan : Plan) (T U : Tree) (f n : ℕ) (h : Held) (b : Bool) → h.by_call ≡ b → (b ≡ true → height plan U h.lock ≡ height plan T h.lock) → is_called plan U f n h ≡ is_called plan T f n h
called_still plan T U f n h true e same = ap (λ v. h.frame.0 == f && h.by_call && v == n) (same refl)
called_still plan T U f n h false e same = ap (λ c. h.frame.0 == f && c && height plan U h.lock == n) e ∙ none (h.frame.0 == f) (height plan U h.lock == n) (height plan T h.lock == n) ∙ sym (ap (λ c. h.frame.0 == f && c && height plan T h.lock == n) e)
  where
    none : (a b c : Bool) → (a && false && b) ≡ (a && false && c)
    none true b c = refl
    none false b c = refl

awaited_still : (plan : Plan) (T U : Tree) (p : Option Pending) (n : ℕ) → ((x : Pending) → p ≡ Some x → is_acquire x.call.kind ≡ true → kind_of U (object_in x.call.a) ≡ kind_of T (object_in x.call.a)) → awaited plan U p n ≡ awaited plan T p n
awaited_still plan T U None n h = refl
awaited_still plan T U (Some p) n h = by_kind (is_acquire p.call.kind) refl
  where
    by_kind : (b : Bool) → is_acquire p.call.kind ≡ b
        → (if b then flag (level_of_kind plan (object_in p.call.a) (kind_of U (object_in p.call.a)) == n) else 0) ≡ (if b then flag (level_of_kind plan (object_in p.call.a) (kind_of T (object_in p.call.a)) == n) else 0)
    by_kind true e = ap (λ k. flag (level_of_kind plan (object_in p.call.a) k == n)) (h p refl e)
    by_kind false e = refl

pub each_two : {T : Type 0} (P Q R : T → Type 0) → ((x : T) → P x → Q x → R x) → (xs : List T) → Each P xs → Each Q xs → Each R xs
each_two P Q R h [] p q = tt
each_two P Q R h (x ∷ xs) p q = (h x p.0 q.0, each_two P Q R h xs p.1 q.1)

pub tree_moves : (plan : Plan) (C : Cpus) (L : Locks) (T U : Tree) → ((f : ℕ) → 1 ≤ on C f → StaysAt T U (object_at C f))
    → Each (λ (h : Held). (o : ObjectId) → h.lock ≡ lock.Object o → is_past_cleanup (life_of T o.0) ≡ false → Still T U o.0) L.held
    → ((f : ℕ) (p : Pending) → 1 ≤ on C f → (frame_of C f).pending ≡ Some p → is_past_cleanup (life_of T (object_in p.call.a)) ≡ false → Still T U (object_in p.call.a)) → Leveled plan C L T → Leveled plan C L U
tree_moves plan C L T U frames locked waits k = record {
  now = λ f n more.
      let same : called plan U L f n ≡ called plan T L f n =
      same_of_each (is_called plan U f n) (is_called plan T f n) L.held
      (each_two (λ h. (o : ObjectId) → h.lock ≡ lock.Object o → is_past_cleanup (life_of T o.0) ≡ false → Still T U o.0) (EarlyIfCalled T) (λ h. is_called plan U f n h ≡ is_called plan T f n h)
      (λ h s e. called_still plan T U f n h h.by_call refl (λ b. height_still plan T U h.lock s (e b))) L.held locked k.early) in
      let wait : awaited plan U (frame_of C f).pending n ≡ awaited plan T (frame_of C f).pending n =
      awaited_still plan T U (frame_of C f).pending n (λ p e a. (waits f p more e (k.awaits f p more e a)).1) in
      let old = k.now f n more in omega arith;
  none = k.none;
  own = λ f l more e. k.own f l more (sym (ap (lock_of_callback plan (frame_of C f).callback (object_at C f)) (let s = frames f more in same_declared plan T U (object_at C f) s.kind s.class)) ∙ e);
  early = each_two (λ h. (o : ObjectId) → h.lock ≡ lock.Object o → is_past_cleanup (life_of T o.0) ≡ false → Still T U o.0) (EarlyIfCalled T) (EarlyIfCalled U) (λ h s e b. early_still T U h.lock s (e b)) L.held locked k.early;
  awaits = λ f p more e a. (waits f p more e (k.awaits f p more e a)).0;
  level = k.level;
  kind = λ f more h. ap (λ x. same_kind x kind.SpinLock) (let s = frames f more in s.kind) ∙ k.kind f more h;
}

ends_none : {A : Type 0} (plan : Plan) (d : Deed) (S : State A) → fits plan d S ≡ true → (x : ℕ) → is_past_cleanup (life_of S.tree x) ≡ false → Ends d x → ⊥
ends_none plan (EndLife o) S f x h e = ended_apart S o.0 x f h e
ends_none plan d S f x h e = e

still_by : {A : Type 0} (plan : Plan) (d : Deed) (S : State A) → fits plan d S ≡ true → (x : ℕ) → (Cleans d x → ⊥) → is_past_cleanup (life_of S.tree x) ≡ false → Still S.tree (do_deed plan d S).tree x
still_by plan d S f x n h = (deed_early plan d S f x n h, (let s = deed_there plan d S f x (ends_none plan d S f x h) (early_there (life_of S.tree x) h) in s.kind))

frames_stay : {A : Type 0} (plan : Plan) (d : Deed) (S : State A) → fits plan d S ≡ true → Framing plan S → (f : ℕ) → 1 ≤ on S.cpus f → StaysAt S.tree (do_deed plan d S).tree (object_at S.cpus f)
frames_stay plan (EndLife o) S fit k f more = deed_there plan (EndLife o) S fit (object_at S.cpus f) (off_it S.cpus o.0 f (search both_right) more) (k.there f more)
frames_stay plan d S fit k f more = deed_there plan d S fit (object_at S.cpus f) (λ e. e) (k.there f more)

pub quiet_levels : {A : Type 0} (plan : Plan) (d : Deed) (S : State A) → is_quiet_deed d ≡ true → fits plan d S ≡ true → Framing plan S → LeveledIn plan S → LeveledIn plan (do_deed plan d S)
quiet_levels plan d S quiet fit frames k =
    let U = do_deed plan d S in
    subst (λ (C : Cpus). Leveled plan C U.locks U.tree) (sym (quiet_cpus plan d S quiet))
    (subst (λ (L : Locks). Leveled plan S.cpus L U.tree) (sym (quiet_locks plan d S quiet))
    (tree_moves plan S.cpus S.locks S.tree U.tree (frames_stay plan d S fit frames)
    (each_still (ApartFrom d) (λ h. (o : ObjectId) → h.lock ≡ lock.Object o → is_past_cleanup (life_of S.tree o.0) ≡ false → Still S.tree U.tree o.0) (λ h apart o e early. still_by plan d S fit o.0 (apart o e) early) S.locks.held (locks_apart plan d S fit))
    (λ f p more e early. still_by plan d S fit (object_in p.call.a) (waits_apart plan d S fit f p more e) early) k))

-- what is so after quiet deeds
pub record Quietly {A : Type 0} (plan : Plan) (S U : State A) : Type 0 where
  pub cpus : U.cpus ≡ S.cpus
  pub locks : U.locks ≡ S.locks
  pub frames : Framing plan U
  pub levels : LeveledIn plan U

pub quiet_deeds : {A : Type 0} (plan : Plan) (ds : List Deed) (S : State A) → all_quiet ds ≡ true → all_fit plan ds S ≡ true → AllSound plan ds S → Framing plan S → LeveledIn plan S → Quietly plan S (do_deeds plan ds S)
quiet_deeds plan [] S q f s k l = record { cpus = refl; locks = refl; frames = k; levels = l }
quiet_deeds plan (d ∷ ds) S q f s k l =
    let quiet : is_quiet_deed d ≡ true = both_left (is_quiet_deed d) (all_quiet ds) q in
    let fit : fits plan d S ≡ true = both_left (fits plan d S) (all_fit plan ds (do_deed plan d S)) f in
    let rest = quiet_deeds plan ds (do_deed plan d S) (both_right (is_quiet_deed d) (all_quiet ds) q) (both_right (fits plan d S) (all_fit plan ds (do_deed plan d S)) f) s.1 (framing_by plan d S fit s.0 k) (quiet_levels plan d S quiet fit k l) in
    record { cpus = rest.cpus ∙ quiet_cpus plan d S quiet; locks = rest.locks ∙ quiet_locks plan d S quiet; frames = rest.frames; levels = rest.levels }
