-- What the levels of frames, the locks and the objects keep of one another, and what each act on frames and locks does to that.
use Rattle.std.proofs.Common.{if◌then◌else◌, ◌≡◌, ◌≢◌, ℕ, ◌+◌, ◌==◌, ◌≤◌, Bool, true, false, not, ◌&&◌, [], ◌∷◌, inl, inr, Option, Some, None, count_by, refl, sym, ap, subst, ◌∙◌, arith}
use Rattle.std.specs.Prelude.{⊤}
use Rattle.wdf_base.specs.declared.ids.Handle.{Handle}
use Rattle.wdf_base.specs.declared.plan.Plan.{Plan}
use Rattle.wdf_base.specs.declared.frame.Frame.{Frame}
use Rattle.wdf_base.specs.declared.frame.Pending.{Pending}
use Rattle.wdf_base.specs.declared.rank.CallbackLock.{CallbackLock}
use Rattle.wdf_base.specs.declared.rank.CallbackLock.TheVariants as callback_lock
use Rattle.wdf_base.specs.declared.object.Kind.TheVariants as kind
use Rattle.wdf_base.specs.declared.object.LockRef.{LockRef}
use Rattle.wdf_base.specs.declared.object.LockRef.TheVariants as lock
use Rattle.wdf_base.specs.Callbacks.{row_of}
use Rattle.wdf_base.specs.Same.{same_kind, same_lock}
use Rattle.wdf_base.specs.Lives.{is_past_cleanup}
use Rattle.wdf_base.specs.Calls.{is_acquire}
use Rattle.wdf_model.specs.declared.entries.Held.{Held}
use Rattle.wdf_model.specs.declared.entries.Running.{Running}
use Rattle.wdf_model.specs.Tables.{flag}
use Rattle.wdf_model.specs.Plans.{callback_irql}
use Rattle.wdf_model.specs.parts.Tree.{Tree, declared_as, kind_of, life_of}
use Rattle.wdf_model.specs.parts.Cpus.{Cpus, frame_of, no_frame, running}
use Rattle.wdf_model.specs.parts.Cpus as cpus
use Rattle.wdf_model.specs.parts.Locks.{Locks, lock_of_callback}
use Rattle.wdf_model.specs.parts.Locks as locks
use Rattle.wdf_model.specs.State.{object_in}
use Rattle.wdf_model.specs.rules.Calls.{level_of_kind}
use Rattle.wdf_model.proofs.Maps.{entry_put_other, entry_put_same}
use Rattle.wdf_model.proofs.Counts.{equal, not_equal, one_or_two}
use Rattle.law_machine_counts.proofs.FrameMoves.{FrameKept, kept_same}
use Rattle.law_machine_lives.proofs.Lists.{Each, each_behind, each_kept}
use Rattle.law_machine_lives.proofs.Counted.{called, called_less, called_more, is_hold, is_holder, owns, owns_less, owns_more, raised, raised_less, raised_more}
use Rattle.wdf_model.proofs.FrameCounts.{on}

abbrev pub object_at : Cpus → ℕ → ℕ
object_at C f = (frame_of C f).object.id.0

-- the lock that a frame took at its start, if any
abbrev pub own_of : Plan → Cpus → Tree → ℕ → Option LockRef
own_of plan C T f = lock_of_callback plan (frame_of C f).callback (object_at C f) (declared_as plan T (object_at C f))

-- whether a frame waits for a lock of this level
abbrev pub awaited : Plan → Tree → Option Pending → ℕ → ℕ
awaited plan T None n = 0
awaited plan T (Some p) n = if is_acquire p.call.kind then flag (level_of_kind plan (object_in p.call.a) (kind_of T (object_in p.call.a)) == n) else 0

abbrev pub is_interrupt_lock : CallbackLock → Bool
is_interrupt_lock callback_lock.InterruptLock = true
is_interrupt_lock _ = false

-- the object of a lock isn't past its cleanup
abbrev pub IsEarly : Tree → LockRef → Type 0
IsEarly T (lock.Object o) = is_past_cleanup (life_of T o.0) ≡ false
IsEarly T _ = ⊤

abbrev pub EarlyIfCalled : Tree → Held → Type 0
EarlyIfCalled T h = h.by_call ≡ true → IsEarly T h.lock

pub record Leveled (plan : Plan) (C : Cpus) (L : Locks) (T : Tree) : Type 0 where
  -- the levels of a frame are those of the locks that it took by calls, and of the one that it waits for
  pub now : (f n : ℕ) → 1 ≤ on C f → raised C f n ≡ called plan T L f n + awaited plan T (frame_of C f).pending n
  pub none : (f n : ℕ) → on C f ≡ 0 → raised C f n ≡ 0
  -- a frame holds the lock of its callback
  pub own : (f : ℕ) (l : LockRef) → 1 ≤ on C f → own_of plan C T f ≡ Some l → 1 ≤ owns L f l
  -- the locks that are held by calls, and those that are waited for, have objects that aren't past their cleanup
  pub early : Each (EarlyIfCalled T) L.held
  pub awaits : (f : ℕ) (p : Pending) → 1 ≤ on C f → (frame_of C f).pending ≡ Some p → is_acquire p.call.kind ≡ true → is_past_cleanup (life_of T (object_in p.call.a)) ≡ false
  -- a frame's own level is its callback's, and a callback that takes its object's lock isn't one of a spin lock
  pub level : (f : ℕ) → 1 ≤ on C f → (running C f).level.0 ≡ callback_irql plan (frame_of C f).callback (object_at C f)
  pub kind : (f : ℕ) → 1 ≤ on C f → is_interrupt_lock (row_of (frame_of C f).callback).lock ≡ true → same_kind (kind_of T (object_at C f)) kind.SpinLock ≡ false

-- ---- one frame changes

-- frame f keeps its callback, object and level, and the others stay as they are
pub record OneMoves (C D : Cpus) (f : ℕ) : Type 0 where
  pub ons : (x : ℕ) → on D x ≡ on C x
  pub others : (x : ℕ) → x ≢ f → running D x ≡ running C x
  pub kept : FrameKept (frame_of C f) (frame_of D f)
  pub level : (running D f).level.0 ≡ (running C f).level.0

kept_frames : (C D : Cpus) (f x : ℕ) → OneMoves C D f → FrameKept (frame_of C x) (frame_of D x)
kept_frames C D f x m = elim (one_or_two x f) [
  | inl e ↦ subst (λ y. FrameKept (frame_of C y) (frame_of D y)) (sym e) m.kept
  | inr n ↦ kept_same (frame_of C x) (frame_of D x) (ap (λ (r : Running). r.frame) (m.others x n))
]

kept_levels : (C D : Cpus) (f x : ℕ) → OneMoves C D f → (running D x).level.0 ≡ (running C x).level.0
kept_levels C D f x m = elim (one_or_two x f) [
  | inl e ↦ subst (λ y. (running D y).level.0 ≡ (running C y).level.0) (sym e) m.level
  | inr n ↦ ap (λ (r : Running). r.level.0) (m.others x n)
]

own_kept : (plan : Plan) (C D : Cpus) (T : Tree) (x : ℕ) → FrameKept (frame_of C x) (frame_of D x) → own_of plan D T x ≡ own_of plan C T x
own_kept plan C D T x k =
    ap (λ c. lock_of_callback plan c (object_at D x) (declared_as plan T (object_at D x))) k.callback
    ∙ ap (λ (h : Handle). lock_of_callback plan (frame_of C x).callback h.id.0 (declared_as plan T h.id.0)) k.object

-- the levels and locks of the others stay, those of frame f agree
pub record Balance (plan : Plan) (C D : Cpus) (L M : Locks) (T : Tree) (f : ℕ) : Type 0 where
  pub there : 1 ≤ on C f
  pub here : (n : ℕ) → raised D f n ≡ called plan T M f n + awaited plan T (frame_of D f).pending n
  pub levels : (x n : ℕ) → x ≢ f → raised D x n ≡ raised C x n
  pub locks : (x n : ℕ) → x ≢ f → called plan T M x n ≡ called plan T L x n
  pub own : (x : ℕ) (l : LockRef) → 1 ≤ owns L x l → 1 ≤ owns M x l
  pub early : Each (EarlyIfCalled T) M.held
  pub awaits : (p : Pending) → (frame_of D f).pending ≡ Some p → is_acquire p.call.kind ≡ true → is_past_cleanup (life_of T (object_in p.call.a)) ≡ false

pub one_moves : (plan : Plan) (C D : Cpus) (L M : Locks) (T : Tree) (f : ℕ) → OneMoves C D f → Balance plan C D L M T f → Leveled plan C L T → Leveled plan D M T
one_moves plan C D L M T f m b k = record {
  now = λ x n more. elim (one_or_two x f) [
    | inl e ↦ rw e (b.here n)
    | inr d ↦
        let o = m.ons x in
        let old : raised C x n ≡ called plan T L x n + awaited plan T (frame_of C x).pending n = k.now x n (omega arith) in
        let wait : awaited plan T (frame_of D x).pending n ≡ awaited plan T (frame_of C x).pending n = ap (λ (r : Running). awaited plan T r.frame.pending n) (m.others x d) in
        let l = b.levels x n d in let c = b.locks x n d in omega arith
  ];
  none = λ x n none. elim (one_or_two x f) [
    | inl e ↦ absurd (let o = m.ons x in let t : 1 ≤ on C x = subst (λ y. 1 ≤ on C y) (sym e) b.there in omega arith)
    | inr d ↦ let o = m.ons x in b.levels x n d ∙ k.none x n (omega arith)
  ];
  own = λ x l more e. let o = m.ons x in b.own x l (k.own x l (omega arith) (sym (own_kept plan C D T x (kept_frames C D f x m)) ∙ e));
  early = b.early;
  awaits = λ x p more e a. elim (one_or_two x f) [
    | inl same ↦ b.awaits p (sym (ap (λ y. (frame_of D y).pending) same) ∙ e) a
    | inr d ↦ let o = m.ons x in k.awaits x p (omega arith) (sym (ap (λ (r : Running). r.frame.pending) (m.others x d)) ∙ e) a
  ];
  level = λ x more.
      let o = m.ons x in
      let f_kept = kept_frames C D f x m in
      kept_levels C D f x m ∙ k.level x (omega arith) ∙ sym (ap (λ c. callback_irql plan c (object_at D x)) f_kept.callback ∙ ap (λ (h : Handle). callback_irql plan (frame_of C x).callback h.id.0) f_kept.object);
  kind = λ x more h.
      let o = m.ons x in
      let f_kept = kept_frames C D f x m in
      ap (λ (y : Handle). same_kind (kind_of T y.id.0) kind.SpinLock) f_kept.object ∙ k.kind x (omega arith) (sym (ap (λ c. is_interrupt_lock (row_of c).lock) f_kept.callback) ∙ h);
}

-- ---- a frame goes on

module _ (C : Cpus) (f : ℕ) (next : Frame) where
  go_here : running (cpus.change C f next) f ≡ record (running C f) { frame = next }
  go_here = entry_put_same no_frame C.frames f (record (running C f) { frame = next })

  pub go_moves : FrameKept (frame_of C f) next → OneMoves C (cpus.change C f next) f
  go_moves k = record {
    ons = λ x. refl;
    others = λ x n. entry_put_other no_frame C.frames f x (record (running C f) { frame = next }) n;
    kept = subst (λ (a : Frame). FrameKept (frame_of C f) a) (sym (ap (λ (r : Running). r.frame) go_here)) k;
    level = ap (λ (r : Running). r.level.0) go_here;
  }

  pub next_here : frame_of (cpus.change C f next) f ≡ next
  next_here = ap (λ (r : Running). r.frame) go_here

-- a test of ids fails for others
other_flag : (f x : ℕ) (b : Bool) → x ≢ f → flag (f == x && b) ≡ 0
other_flag f x b n = let e : (f == x) ≡ false = not_equal f x (λ s. n (sym s)) in rw e refl

its_flag : (f : ℕ) (b : Bool) → flag (f == f && b) ≡ flag b
its_flag f b = let e : (f == f) ≡ true = equal f f refl in rw e refl

other_flag_two : (f x : ℕ) (b c : Bool) → x ≢ f → flag (f == x && b && c) ≡ 0
other_flag_two f x b c n = let e : (f == x) ≡ false = not_equal f x (λ s. n (sym s)) in rw e refl

its_flag_called : (f : ℕ) (c : Bool) → flag (f == f && true && c) ≡ flag c
its_flag_called f c = let e : (f == f) ≡ true = equal f f refl in rw e refl

module _ (plan : Plan) (C : Cpus) (L : Locks) (T : Tree) (f : ℕ) (next : Frame) (k : Leveled plan C L T) (there : 1 ≤ on C f) (kept : FrameKept (frame_of C f) next) where
  -- nothing of it changes that levels ask for
  pub plain_goes : ((n : ℕ) → awaited plan T next.pending n ≡ awaited plan T (frame_of C f).pending n)
      → ((p : Pending) → next.pending ≡ Some p → is_acquire p.call.kind ≡ true → is_past_cleanup (life_of T (object_in p.call.a)) ≡ false) → Leveled plan (cpus.change C f next) L T
  plain_goes same awaits = one_moves plan C (cpus.change C f next) L L T f (go_moves C f next kept)
      (record {
        there = there;
        here = λ n. k.now f n there ∙ ap (λ y. called plan T L f n + y) (sym (ap (λ (a : Frame). awaited plan T a.pending n) (next_here C f next) ∙ same n));
        levels = λ x n d. refl;
        locks = λ x n d. refl;
        own = λ x l h. h;
        early = k.early;
        awaits = λ p e a. awaits p (sym (ap (λ (b : Frame). b.pending) (next_here C f next)) ∙ e) a;
      }) k

  -- it takes a lock by a call
  abbrev lock_it : ℕ → Locks
  lock_it o = locks.take L (lock.Object (record { 0 = o })) f true

  locked_early : (o : ℕ) → is_past_cleanup (life_of T o) ≡ false → Each (EarlyIfCalled T) (lock_it o).held
  locked_early o early = each_behind (EarlyIfCalled T) L.held (record { lock = lock.Object (record { 0 = o }); frame = record { 0 = f }; by_call = true } ∷ []) k.early ((λ _. early), tt)

  pub takes : (o : ℕ) → is_past_cleanup (life_of T o) ≡ false → ((n : ℕ) → awaited plan T (frame_of C f).pending n ≡ 0) → next.pending ≡ None
      → Leveled plan (cpus.change (cpus.raise C f (level_of_kind plan o (kind_of T o))) f next) (lock_it o) T
  takes o early idle done =
      let v : ℕ = level_of_kind plan o (kind_of T o) in
      let l : LockRef = lock.Object (record { 0 = o }) in
      let D : Cpus = cpus.change (cpus.raise C f v) f next in
      one_moves plan C D L (lock_it o) T f (let m = go_moves (cpus.raise C f v) f next kept in record { ons = m.ons; others = m.others; kept = m.kept; level = m.level })
      (record {
        there = there;
        here = λ n.
            let up = raised_more C f v f n in
            let one = its_flag f (v == n) in
            let old = k.now f n there in
            let free = idle n in
            let more = called_more plan T L l f true f n in
            let two = its_flag_called f (v == n) in
            let waits : awaited plan T (frame_of D f).pending n ≡ 0 = ap (λ (a : Frame). awaited plan T a.pending n) (next_here (cpus.raise C f v) f next) ∙ ap (λ (p : Option Pending). awaited plan T p n) done in
            omega arith;
        levels = λ x n d. let up = raised_more C f v x n in let zero_ = other_flag f x (v == n) d in omega arith;
        locks = λ x n d. let more = called_more plan T L l f true x n in let zero_ = other_flag_two f x true (v == n) d in omega arith;
        own = λ x m h. let more = owns_more L l f true x m in omega arith;
        early = locked_early o early;
        awaits = λ p e a. absurd (let none : None ≡ Some p = sym (ap (λ (b : Frame). b.pending) (next_here (cpus.raise C f v) f next) ∙ done) ∙ e in let z : ⊥ = cc in z);
      }) k

  -- it waits for a lock
  pub waits_for_lock : (o : ℕ) → is_past_cleanup (life_of T o) ≡ false → ((n : ℕ) → awaited plan T (frame_of C f).pending n ≡ 0)
      → ((n : ℕ) → awaited plan T next.pending n ≡ flag (level_of_kind plan o (kind_of T o) == n)) → ((p : Pending) → next.pending ≡ Some p → object_in p.call.a ≡ o)
      → Leveled plan (cpus.change (cpus.raise C f (level_of_kind plan o (kind_of T o))) f next) L T
  waits_for_lock o early idle asks about =
      let v : ℕ = level_of_kind plan o (kind_of T o) in
      let D : Cpus = cpus.change (cpus.raise C f v) f next in
      one_moves plan C D L L T f (let m = go_moves (cpus.raise C f v) f next kept in record { ons = m.ons; others = m.others; kept = m.kept; level = m.level })
      (record {
        there = there;
        here = λ n.
            let up = raised_more C f v f n in
            let one = its_flag f (v == n) in
            let old = k.now f n there in
            let free = idle n in
            let waits : awaited plan T (frame_of D f).pending n ≡ flag (v == n) = ap (λ (a : Frame). awaited plan T a.pending n) (next_here (cpus.raise C f v) f next) ∙ asks n in
            omega arith;
        levels = λ x n d. let up = raised_more C f v x n in let zero_ = other_flag f x (v == n) d in omega arith;
        locks = λ x n d. refl;
        own = λ x m h. h;
        early = k.early;
        awaits = λ p e a. let it = about p (sym (ap (λ (b : Frame). b.pending) (next_here (cpus.raise C f v) f next)) ∙ e) in ap (λ y. is_past_cleanup (life_of T y)) it ∙ early;
      }) k

  -- it gets the lock that it waited for
  pub gets : (o : ℕ) → is_past_cleanup (life_of T o) ≡ false → ((n : ℕ) → awaited plan T (frame_of C f).pending n ≡ flag (level_of_kind plan o (kind_of T o) == n)) → next.pending ≡ None
      → Leveled plan (cpus.change C f next) (lock_it o) T
  gets o early asked done =
      let v : ℕ = level_of_kind plan o (kind_of T o) in
      let l : LockRef = lock.Object (record { 0 = o }) in
      one_moves plan C (cpus.change C f next) L (lock_it o) T f (go_moves C f next kept)
      (record {
        there = there;
        here = λ n.
            let old = k.now f n there in
            let was = asked n in
            let more = called_more plan T L l f true f n in
            let two = its_flag_called f (v == n) in
            let waits : awaited plan T (frame_of (cpus.change C f next) f).pending n ≡ 0 = ap (λ (a : Frame). awaited plan T a.pending n) (next_here C f next) ∙ ap (λ (p : Option Pending). awaited plan T p n) done in
            let same : raised (cpus.change C f next) f n ≡ raised C f n = refl in
            omega arith;
        levels = λ x n d. refl;
        locks = λ x n d. let more = called_more plan T L l f true x n in let zero_ = other_flag_two f x true (v == n) d in omega arith;
        own = λ x m h. let more = owns_more L l f true x m in omega arith;
        early = locked_early o early;
        awaits = λ p e a. absurd (let none : None ≡ Some p = sym (ap (λ (b : Frame). b.pending) (next_here C f next) ∙ done) ∙ e in let z : ⊥ = cc in z);
      }) k

  -- it gives back a lock that it took by a call
  pub gives_back : (o : ℕ) → count_by (is_hold (lock.Object (record { 0 = o }))) L.held ≤ 1 → 1 ≤ count_by (λ h. is_hold (lock.Object (record { 0 = o })) h && is_holder f true h) L.held
      → ((n : ℕ) → awaited plan T (frame_of C f).pending n ≡ 0) → next.pending ≡ None
      → Leveled plan (cpus.change (cpus.lower C f (level_of_kind plan o (kind_of T o))) f next) (locks.release L (lock.Object (record { 0 = o }))) T
  gives_back o once held idle done =
      let v : ℕ = level_of_kind plan o (kind_of T o) in
      let l : LockRef = lock.Object (record { 0 = o }) in
      let D : Cpus = cpus.change (cpus.lower C f v) f next in
      let some : 1 ≤ raised C f v =
      (let less = called_less plan T L l f true f v once held in
      let two = its_flag_called f (v == v) in
      let yes_ : flag (v == v) ≡ 1 = ap flag (equal v v refl) in
      let old = k.now f v there in omega arith) in
      one_moves plan C D L (locks.release L l) T f (let m = go_moves (cpus.lower C f v) f next kept in record { ons = m.ons; others = m.others; kept = m.kept; level = m.level })
      (record {
        there = there;
        here = λ n.
            let down = raised_less C f v f n some in
            let one = its_flag f (v == n) in
            let old = k.now f n there in
            let free = idle n in
            let less = called_less plan T L l f true f n once held in
            let two = its_flag_called f (v == n) in
            let waits : awaited plan T (frame_of D f).pending n ≡ 0 = ap (λ (a : Frame). awaited plan T a.pending n) (next_here (cpus.lower C f v) f next) ∙ ap (λ (p : Option Pending). awaited plan T p n) done in
            omega arith;
        levels = λ x n d. let down = raised_less C f v x n some in let zero_ = other_flag f x (v == n) d in omega arith;
        locks = λ x n d. let less = called_less plan T L l f true x n once held in let zero_ = other_flag_two f x true (v == n) d in omega arith;
        own = λ x m h. let less = owns_less L l f true x m once held in let zero_ = never (same_lock l m) (f == x) in omega arith;
        early = each_kept (EarlyIfCalled T) (EarlyIfCalled T) (λ h. not (same_lock h.lock l)) (λ h e _. e) L.held k.early;
        awaits = λ p e a. absurd (let none : None ≡ Some p = sym (ap (λ (b : Frame). b.pending) (next_here (cpus.lower C f v) f next) ∙ done) ∙ e in let z : ⊥ = cc in z);
      }) k
    where
      never : (a b : Bool) → flag (a && (b && false)) ≡ 0
      never true true = refl
      never true false = refl
      never false b = refl
