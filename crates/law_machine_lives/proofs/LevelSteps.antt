-- What levels, locks and objects keep of one another after a frame begins, ends, parks or comes back.
use Rattle.std.proofs.Common.{◌≡◌, ◌≢◌, ℕ, ◌==◌, ◌≤◌, Bool, true, false, not, ◌&&◌, List, [], ◌∷◌, inl, inr, Option, Some, None, count_by, refl, sym, ap, subst, ◌∙◌, arith}
use Rattle.std.proofs.lemmas.Bool.{eqb-true}
use Rattle.wdf_base.specs.declared.plan.Plan.{Plan}
use Rattle.wdf_base.specs.declared.frame.Frame.{Frame}
use Rattle.wdf_base.specs.declared.frame.Pending.{Pending}
use Rattle.wdf_base.specs.declared.object.Kind.TheVariants as kind
use Rattle.wdf_base.specs.declared.object.LockRef.{LockRef}
use Rattle.wdf_base.specs.Callbacks.{row_of}
use Rattle.wdf_base.specs.Same.{same_kind, same_lock}
use Rattle.wdf_model.specs.declared.entries.Held.{Held}
use Rattle.wdf_model.specs.declared.entries.HeldLevel.{HeldLevel}
use Rattle.wdf_model.specs.declared.entries.Running.{Running}
use Rattle.wdf_model.specs.Tables.{entry, flag}
use Rattle.wdf_model.specs.Plans.{callback_irql}
use Rattle.wdf_model.specs.parts.Tree.{Tree, declared_as, kind_of}
use Rattle.wdf_model.specs.parts.Cpus.{Cpus, frame_of, levels_without, no_frame, running, top, without_frame}
use Rattle.wdf_model.specs.parts.Cpus as cpus
use Rattle.wdf_model.specs.parts.Locks.{Locks, lock_of_callback}
use Rattle.wdf_model.specs.parts.Locks as locks
use Rattle.wdf_model.proofs.Tests.{not_true}
use Rattle.wdf_model.proofs.Maps.{entry_put_other, entry_put_same}
use Rattle.wdf_model.proofs.Counts.{count_cons, equal, filter_kept, filter_none, not_equal, one_or_two}
use Rattle.law_machine_counts.proofs.FrameMoves.{pop_off, pop_on}
use Rattle.law_machine_lives.proofs.Lists.{Each, each_behind, each_kept}
use Rattle.wdf_model.proofs.Sames.{lock_itself}
use Rattle.law_machine_lives.proofs.LocksOnce.{Once}
use Rattle.law_machine_lives.proofs.FramesStay.{Begins, begins}
use Rattle.law_machine_lives.proofs.Counted.{called, called_less, called_more, height, is_called, is_raised, owns, owns_less, owns_more, raised}
use Rattle.law_machine_lives.proofs.Leveled.{EarlyIfCalled, Leveled, awaited, is_interrupt_lock, own_of}
use Rattle.wdf_model.proofs.FrameCounts.{on}

-- ---- a frame parks, or comes back

pub rearranged : (plan : Plan) (C : Cpus) (L : Locks) (T : Tree) (s : List (List ℕ)) (p : List ℕ)
    → ((x : ℕ) → on (record { frames = C.frames; stacks = s; parked = p; levels = C.levels }) x ≡ on C x) → Leveled plan C L T → Leveled plan (record { frames = C.frames; stacks = s; parked = p; levels = C.levels }) L T
rearranged plan C L T s p same k = record {
  now = λ f n more. let e = same f in k.now f n (omega arith);
  none = λ f n none. let e = same f in k.none f n (omega arith);
  own = λ f l more h. let e = same f in k.own f l (omega arith) h;
  early = k.early;
  awaits = λ f q more h a. let e = same f in k.awaits f q (omega arith) h a;
  level = λ f more. let e = same f in k.level f (omega arith);
  kind = λ f more h. let e = same f in k.kind f (omega arith) h;
}

-- ---- a frame begins

abbrev pub with_own : Locks → Option LockRef → ℕ → Locks
with_own L None f = L
with_own L (Some l) f = locks.take L l f false

nothing_called : (plan : Plan) (T : Tree) (f n : ℕ) (hs : List Held) → Each (λ (h : Held). h.frame.0 ≢ f) hs → count_by (is_called plan T f n) hs ≡ 0
nothing_called plan T f n [] e = refl
nothing_called plan T f n (h ∷ hs) e =
    let c = count_cons (is_called plan T f n) h hs in
    let no_ : flag (is_called plan T f n h) ≡ 0 = off (h.frame.0 == f) h.by_call (height plan T h.lock == n) (not_equal h.frame.0 f e.0) in
    let rest = nothing_called plan T f n hs e.1 in omega arith
  where
    off : (a b c : Bool) → a ≡ false → flag (a && b && c) ≡ 0
    off true b c h = absurd (let z : ⊥ = cc in z)
    off false b c h = refl

by_start : (a b : Bool) → flag (a && false && b) ≡ 0
by_start true b = refl
by_start false b = refl

called_with : (plan : Plan) (T : Tree) (L : Locks) (o : Option LockRef) (f x n : ℕ) → called plan T (with_own L o f) x n ≡ called plan T L x n
called_with plan T L None f x n = refl
called_with plan T L (Some l) f x n = let more = called_more plan T L l f false x n in let zero_ = by_start (f == x) (height plan T l == n) in omega arith

owns_with : (L : Locks) (o : Option LockRef) (f x : ℕ) (l : LockRef) → 1 ≤ owns L x l → 1 ≤ owns (with_own L o f) x l
owns_with L None f x l h = h
owns_with L (Some k) f x l h = let more = owns_more L k f false x l in omega arith

owns_its : (L : Locks) (o : Option LockRef) (f : ℕ) (l : LockRef) → o ≡ Some l → 1 ≤ owns (with_own L o f) f l
owns_its L None f l e = absurd (let z : ⊥ = cc in z)
owns_its L (Some k) f l e =
    let same : k ≡ l = cc in
    let more = owns_more L k f false f l in
    let yes_ : flag (same_lock k l && (f == f && true)) ≡ 1 = ap flag (both_on (same_lock k l) (f == f) (subst (λ y. same_lock k y ≡ true) same (lock_itself k)) (equal f f refl)) in
    omega arith
  where
    both_on : (a b : Bool) → a ≡ true → b ≡ true → (a && (b && true)) ≡ true
    both_on true true h k = refl
    both_on true false h k = absurd (let z : ⊥ = cc in z)
    both_on false b h k = absurd (let z : ⊥ = cc in z)

early_with : (T : Tree) (L : Locks) (o : Option LockRef) (f : ℕ) → Each (EarlyIfCalled T) L.held → Each (EarlyIfCalled T) (with_own L o f).held
early_with T L None f e = e
early_with T L (Some l) f e = each_behind (EarlyIfCalled T) L.held (record { lock = l; frame = record { 0 = f }; by_call = false } ∷ []) e ((λ b. absurd (let z : ⊥ = cc in z)), tt)

pub starts : (plan : Plan) (C : Cpus) (L : Locks) (T : Tree) (cpu f : ℕ) (frame : Frame) (level : ℕ) (o : Option LockRef) → on C f ≡ 0 → Each (λ (h : Held). 1 ≤ on C h.frame.0) L.held → frame.pending ≡ None
    → level ≡ callback_irql plan frame.callback frame.object.id.0 → (is_interrupt_lock (row_of frame.callback).lock ≡ true → same_kind (kind_of T frame.object.id.0) kind.SpinLock ≡ false)
    → lock_of_callback plan frame.callback frame.object.id.0 (declared_as plan T frame.object.id.0) ≡ o → Leveled plan C L T → Leveled plan (cpus.push C cpu f frame level) (with_own L o f) T
starts plan C L T cpu f frame level o new holders idle high unlike own k =
    let D : Cpus = cpus.push C cpu f frame level in
    let b : Begins C D f frame = begins C cpu f frame level new in
    let runs_here : running D f ≡ record { frame = frame; level = record { 0 = level } } = entry_put_same no_frame C.frames f (record { frame = frame; level = record { 0 = level } }) in
    let runs_there = λ (x : ℕ) (d : x ≢ f). entry_put_other no_frame C.frames f x (record { frame = frame; level = record { 0 = level } }) d in
    let nobody : Each (λ (h : Held). h.frame.0 ≢ f) L.held = apart C f L.held new holders in
    record {
      now = λ x n more. elim (one_or_two x f) [
        | inl e ↦
            let none = k.none f n new in
            let c = called_with plan T L o f f n in
            let zero_ = nothing_called plan T f n L.held nobody in
            let waits : awaited plan T (frame_of D f).pending n ≡ 0 = ap (λ (a : Frame). awaited plan T a.pending n) b.here ∙ ap (λ (p : Option Pending). awaited plan T p n) idle in
            rw e (omega arith)
        | inr d ↦
            let e = (b.others x d).0 in
            let old = k.now x n (omega arith) in
            let c = called_with plan T L o f x n in
            let waits : awaited plan T (frame_of D x).pending n ≡ awaited plan T (frame_of C x).pending n = ap (λ (a : Frame). awaited plan T a.pending n) (b.others x d).1 in
            omega arith
      ];
      none = λ x n none. elim (one_or_two x f) [
        | inl e ↦ absurd (let one : on D x ≡ 1 = ap (on D) e ∙ b.now in omega arith)
        | inr d ↦ let e = (b.others x d).0 in k.none x n (omega arith)
      ];
      own = λ x l more h. elim (one_or_two x f) [
        | inl e ↦
            let own_now : own_of plan D T f ≡ o = ap (λ (a : Frame). lock_of_callback plan a.callback a.object.id.0 (declared_as plan T a.object.id.0)) b.here ∙ own in
            rw e (owns_its L o f l (sym own_now ∙ sym (ap (own_of plan D T) e) ∙ h))
        | inr d ↦
            let e = (b.others x d).0 in
            owns_with L o f x l (k.own x l (omega arith) (sym (ap (λ (a : Frame). lock_of_callback plan a.callback a.object.id.0 (declared_as plan T a.object.id.0)) (b.others x d).1) ∙ h))
      ];
      early = early_with T L o f k.early;
      awaits = λ x p more h a. elim (one_or_two x f) [
        | inl e ↦ absurd (let none : None ≡ Some p = sym (ap (λ y. (frame_of D y).pending) e ∙ ap (λ (b_ : Frame). b_.pending) b.here ∙ idle) ∙ h in let z : ⊥ = cc in z)
        | inr d ↦ let e = (b.others x d).0 in k.awaits x p (omega arith) (sym (ap (λ (b_ : Frame). b_.pending) (b.others x d).1) ∙ h) a
      ];
      level = λ x more. elim (one_or_two x f) [
        | inl e ↦ rw e (ap (λ (r : Running). r.level.0) runs_here ∙ high ∙ sym (ap (λ (a : Frame). callback_irql plan a.callback a.object.id.0) b.here))
        | inr d ↦ let e = (b.others x d).0 in ap (λ (r : Running). r.level.0) (runs_there x d) ∙ k.level x (omega arith) ∙ sym (ap (λ (a : Frame). callback_irql plan a.callback a.object.id.0) (b.others x d).1)
      ];
      kind = λ x more h. elim (one_or_two x f) [
        | inl e ↦ rw e (ap (λ (a : Frame). same_kind (kind_of T a.object.id.0) kind.SpinLock) b.here ∙ unlike (sym (ap (λ y. is_interrupt_lock (row_of (frame_of D y).callback).lock) e ∙ ap (λ (a : Frame). is_interrupt_lock (row_of a.callback).lock) b.here) ∙ h))
        | inr d ↦ let e = (b.others x d).0 in ap (λ (a : Frame). same_kind (kind_of T a.object.id.0) kind.SpinLock) (b.others x d).1 ∙ k.kind x (omega arith) (sym (ap (λ (a : Frame). is_interrupt_lock (row_of a.callback).lock) (b.others x d).1) ∙ h)
      ];
    }
  where
    apart : (C : Cpus) (f : ℕ) (hs : List Held) → on C f ≡ 0 → Each (λ (h : Held). 1 ≤ on C h.frame.0) hs → Each (λ (h : Held). h.frame.0 ≢ f) hs
    apart C f [] new e = tt
    apart C f (h ∷ hs) new e = ((λ same. let there = e.0 in let none : on C h.frame.0 ≡ 0 = ap (on C) same ∙ new in let z : ⊥ = omega arith in z), apart C f hs new e.1)

-- ---- a frame ends

abbrev pub less_own : Locks → Option LockRef → Locks
less_own L None = L
less_own L (Some l) = locks.release L l

called_less_own : (plan : Plan) (T : Tree) (L : Locks) (o : Option LockRef) (f x n : ℕ) → Once L → ((l : LockRef) → o ≡ Some l → 1 ≤ owns L f l) → called plan T (less_own L o) x n ≡ called plan T L x n
called_less_own plan T L None f x n once own = refl
called_less_own plan T L (Some l) f x n once own = let less = called_less plan T L l f false x n (once l) (own l refl) in let zero_ = by_start (f == x) (height plan T l == n) in omega arith

owns_less_own : (L : Locks) (o : Option LockRef) (f x : ℕ) (k : LockRef) → Once L → ((l : LockRef) → o ≡ Some l → 1 ≤ owns L f l) → x ≢ f → owns (less_own L o) x k ≡ owns L x k
owns_less_own L None f x k once own n = refl
owns_less_own L (Some l) f x k once own n =
    let less = owns_less L l f false x k (once l) (own l refl) in
    let zero_ : flag (same_lock l k && (f == x && true)) ≡ 0 = off (same_lock l k) (f == x) (not_equal f x (λ s. n (sym s))) in omega arith
  where
    off : (a b : Bool) → b ≡ false → flag (a && (b && true)) ≡ 0
    off true true h = absurd (let z : ⊥ = cc in z)
    off true false h = refl
    off false b h = refl

early_less_own : (T : Tree) (L : Locks) (o : Option LockRef) → Each (EarlyIfCalled T) L.held → Each (EarlyIfCalled T) (less_own L o).held
early_less_own T L None e = e
early_less_own T L (Some l) e = each_kept (EarlyIfCalled T) (EarlyIfCalled T) (λ h. not (same_lock h.lock l)) (λ h x _. x) L.held e

raised_by_others : (C : Cpus) (f x n : ℕ) → x ≢ f → count_by (is_raised x n) (levels_without C (Some f)) ≡ raised C x n
raised_by_others C f x n d = filter_kept (is_raised x n) (λ (l : HeldLevel). not (l.frame.0 == f)) (λ l gone_. other l (l.frame.0 == f) refl gone_) C.levels
  where
    other : (l : HeldLevel) (b : Bool) → (l.frame.0 == f) ≡ b → not b ≡ false → is_raised x n l ≡ false
    other l true e h = let same : l.frame.0 ≡ f = eqb-true l.frame.0 f e in
        let no_ : (l.frame.0 == x) ≡ false = not_equal l.frame.0 x (λ s. d (sym s ∙ same)) in rw no_ refl
    other l false e h = absurd (let z : ⊥ = cc in z)

raised_by_none : (C : Cpus) (f n : ℕ) → count_by (is_raised f n) (levels_without C (Some f)) ≡ 0
raised_by_none C f n = filter_none (is_raised f n) (λ (l : HeldLevel). not (l.frame.0 == f)) (λ l kept. let no_ : (l.frame.0 == f) ≡ false = not_true (l.frame.0 == f) kept in rw no_ refl) C.levels

pub ends : (plan : Plan) (C : Cpus) (L : Locks) (T : Tree) (cpu f : ℕ) (o : Option LockRef) → top C cpu ≡ Some f → on C f ≤ 1 → 1 ≤ on C f → Once L → own_of plan C T f ≡ o → Leveled plan C L T → Leveled plan (cpus.pop C cpu) (less_own L o) T
ends plan C L T cpu f o is_top once there held own k =
    let D : Cpus = cpus.pop C cpu in
    let has : (l : LockRef) → o ≡ Some l → 1 ≤ owns L f l = λ l e. k.own f l there (own ∙ e) in
    let off : on D f ≡ 0 = pop_off C cpu f is_top once in
    let apart = λ (x : ℕ) (more : 1 ≤ on D x) (e : x ≡ f). (let none : on D x ≡ 0 = ap (on D) e ∙ off in let z : ⊥ = omega arith in z) in
    let was = λ (x : ℕ) (more : 1 ≤ on D x). (let e = pop_on C cpu f is_top x in let t : 1 ≤ on C x = omega arith in t) in
    let runs = λ (x : ℕ) (d : x ≢ f). ap (λ t. entry no_frame (without_frame C t) x) is_top ∙ entry_put_other no_frame C.frames f x no_frame d in
    let up = λ (x n : ℕ) (d : x ≢ f). ap (λ t. count_by (is_raised x n) (levels_without C t)) is_top ∙ raised_by_others C f x n d in
    record {
      now = λ x n more.
          let d : x ≢ f = apart x more in
          let old = k.now x n (was x more) in
          let l : raised D x n ≡ raised C x n = up x n d in
          let c = called_less_own plan T L o f x n held has in
          let waits : awaited plan T (frame_of D x).pending n ≡ awaited plan T (frame_of C x).pending n = ap (λ (r : Running). awaited plan T r.frame.pending n) (runs x d) in
          omega arith;
      none = λ x n none. elim (one_or_two x f) [
        | inl e ↦ rw e (ap (λ t. count_by (is_raised f n) (levels_without C t)) is_top ∙ raised_by_none C f n)
        | inr d ↦
            let e = pop_on C cpu f is_top x in
            let no_ : flag (f == x) ≡ 0 = ap flag (not_equal f x (λ s. d (sym s))) in
            up x n d ∙ k.none x n (omega arith)
      ];
      own = λ x l more h.
          let d : x ≢ f = apart x more in
          let same = owns_less_own L o f x l held has d in
          let old = k.own x l (was x more) (sym (ap (λ (r : Running). lock_of_callback plan r.frame.callback r.frame.object.id.0 (declared_as plan T r.frame.object.id.0)) (runs x d)) ∙ h) in omega arith;
      early = early_less_own T L o k.early;
      awaits = λ x p more h a. k.awaits x p (was x more) (sym (ap (λ (r : Running). r.frame.pending) (runs x (apart x more))) ∙ h) a;
      level = λ x more. let d = apart x more in ap (λ (r : Running). r.level.0) (runs x d) ∙ k.level x (was x more) ∙ sym (ap (λ (r : Running). callback_irql plan r.frame.callback r.frame.object.id.0) (runs x d));
      kind = λ x more h. let d = apart x more in ap (λ (r : Running). same_kind (kind_of T r.frame.object.id.0) kind.SpinLock) (runs x d) ∙ k.kind x (was x more) (sym (ap (λ (r : Running). is_interrupt_lock (row_of r.frame.callback).lock) (runs x d)) ∙ h);
    }
