-- The level of a processor is that of its top frame's callback, or of a lock that this frame holds or waits for.
use Rattle.std.proofs.Common.{if◌then◌else◌, ◌≡◌, ℕ, zero, suc, max, ◌+◌, ◌==◌, ◌≤◌, Bool, true, false, ◌&&◌, List, [], ◌∷◌, ◌++◌, ◌⊎◌, inl, inr, Option, Some, None, map, filter, fold, count_by, slice_get, take, refl, sym, ap, subst, ◌∙◌, arith}
use Rattle.std.specs.List.{range_with_len}
use Rattle.std.proofs.lemmas.Bool.{cases_Bool, eqb-true}
use Rattle.wdf_base.specs.Meaning.{Meaning}
use Rattle.wdf_base.specs.Resolved.{IsResolved}
use Rattle.wdf_base.specs.declared.plan.Plan.{Plan}
use Rattle.wdf_base.specs.declared.call.Callback.{Callback}
use Rattle.wdf_base.specs.declared.call.Callback.TheVariants as callback
use Rattle.wdf_base.specs.declared.declared.ClassInfo.{ClassInfo}
use Rattle.wdf_base.specs.declared.declared.ClassInfo.TheVariants as class
use Rattle.wdf_base.specs.declared.declared.Declared.{Declared}
use Rattle.wdf_base.specs.declared.declared.Declared.TheVariants as declared
use Rattle.wdf_base.specs.declared.declared.QueueInfo.{QueueInfo}
use Rattle.wdf_base.specs.declared.declared.Scope.{Scope}
use Rattle.wdf_base.specs.declared.declared.Scope.TheVariants as scope
use Rattle.wdf_base.specs.declared.event.Event.{Event}
use Rattle.wdf_base.specs.declared.frame.Pending.{Pending}
use Rattle.wdf_base.specs.declared.object.Kind.{Kind}
use Rattle.wdf_base.specs.declared.object.Kind.TheVariants as kind
use Rattle.wdf_base.specs.declared.object.LockRef.{LockRef}
use Rattle.wdf_base.specs.declared.object.LockRef.TheVariants as lock
use Rattle.wdf_base.specs.declared.rank.CallbackLock.{CallbackLock}
use Rattle.wdf_base.specs.declared.rank.CallbackLock.TheVariants as callback_lock
use Rattle.wdf_base.specs.Callbacks.{row_of}
use Rattle.wdf_base.specs.Plan.{declared_of}
use Rattle.wdf_base.specs.Same.{same_kind}
use Rattle.wdf_base.specs.Calls.{is_acquire}
use Rattle.wdf_model.proofs.Tests.{all_three, both_left, both_right}
use Rattle.wdf_model.specs.declared.entries.Held.{Held}
use Rattle.wdf_model.specs.declared.entries.HeldLevel.{HeldLevel}
use Rattle.wdf_model.specs.Tables.{flag}
use Rattle.wdf_model.specs.Plans.{callback_irql, interrupt_level, scope_lock, scope_lock_of_device, scope_lock_of_queue, serial_lock}
use Rattle.wdf_model.specs.parts.Tree.{kind_of}
use Rattle.wdf_model.specs.parts.Cpus.{frame_level, frame_of, irql, levels_of, running, top}
use Rattle.wdf_model.specs.parts.Locks.{lock_of_callback, own_lock, parent_lock, scope_needed}
use Rattle.wdf_model.specs.State.{State, declared_in, object_in}
use Rattle.wdf_model.specs.rules.Calls.{level_of_kind, lock_level}
use Rattle.wdf_model.specs.rules.Ready.{IsRunOf, state_after}
use Rattle.law_machine_base.specs.Agreement.{level_awaited, level_by_locks, level_of_lock, levels_agree, levels_held}
use Rattle.wdf_model.proofs.Counts.{count_behind, count_cons, equal, not_equal, one_or_two}
use Rattle.law_machine_counts.proofs.HeldOverRuns.{each_passes}
use Rattle.law_machine_lives.proofs.Lists.{Each, each_still}
use Rattle.law_machine_lives.proofs.SoundEvents.{top_on}
use Rattle.law_machine_lives.proofs.Framing.{Framing, IsHeld, framing_at_each}
use Rattle.law_machine_lives.proofs.Counted.{height, is_called}
use Rattle.law_machine_lives.proofs.Leveled.{awaited, is_interrupt_lock}
use Rattle.law_machine_lives.proofs.QuietMoves.{LeveledIn}
use Rattle.law_machine_lives.proofs.LevelRuns.{leveled_at_each}
use Rattle.wdf_model.proofs.FrameCounts.{on}

-- ---- the greatest of some numbers

abbrev has : ℕ → List ℕ → ℕ
has n xs = count_by (λ y. y == n) xs

greatest_least : (xs : List ℕ) (b m : ℕ) → b ≤ m → ((n : ℕ) → 1 ≤ has n xs → n ≤ m) → fold max b xs ≤ m
greatest_least [] b m low all = low
greatest_least (x ∷ xs) b m low all =
    greatest_least xs (max b x) m
    (let here : x ≤ m = all x (let c = count_cons (λ y. y == x) x xs in let one : flag (x == x) ≡ 1 = ap flag (equal x x refl) in omega arith) in omega arith)
    (λ n more. all n (let c = count_cons (λ y. y == n) x xs in omega arith))

above_base : (xs : List ℕ) (b : ℕ) → b ≤ fold max b xs
above_base [] b = omega arith
above_base (x ∷ xs) b = let rest = above_base xs (max b x) in omega arith

above_each : (xs : List ℕ) (b n : ℕ) → 1 ≤ has n xs → n ≤ fold max b xs
above_each [] b n more = absurd (omega arith)
above_each (x ∷ xs) b n more = elim (one_or_two x n) [
  | inl e ↦ let rest = above_base xs (max b x) in omega arith
  | inr d ↦ above_each xs (max b x) n (let c = count_cons (λ y. y == n) x xs in let no_ : flag (x == n) ≡ 0 = ap flag (not_equal x n d) in omega arith)
]

-- ---- lists of levels, counted

mapped_by : {T : Type 0} (g : T → ℕ) (keep : T → Bool) (n : ℕ) (x : T) (xs : List T) (b : Bool) → keep x ≡ b → has n (map g (filter keep xs)) ≡ count_by (λ y. keep y && g y == n) xs
    → has n (map g (if b then x ∷ filter keep xs else filter keep xs)) ≡ flag (b && g x == n) + count_by (λ y. keep y && g y == n) xs
mapped_by g keep n x xs true e rest = count_cons (λ y. y == n) (g x) (map g (filter keep xs)) ∙ ap (λ k. flag (g x == n) + k) rest
mapped_by g keep n x xs false e rest = omega arith

mapped : {T : Type 0} (g : T → ℕ) (keep : T → Bool) (n : ℕ) (xs : List T) → has n (map g (filter keep xs)) ≡ count_by (λ y. keep y && g y == n) xs
mapped g keep n [] = refl
mapped g keep n (x ∷ xs) = mapped_by g keep n x xs (keep x) refl (mapped g keep n xs) ∙ sym (count_cons (λ y. keep y && g y == n) x xs)

-- ---- the lock of a callback is no higher than the callback

abbrev LowLock : {A : Type 0} → Plan → State A → Option LockRef → ℕ → Type 0
LowLock plan S o n = (l : LockRef) → o ≡ Some l → level_of_lock plan S l ≤ n

of_queue : {A : Type 0} (plan : Plan) (S : State A) (q : ℕ) (i : QueueInfo) (s : Scope) (n : ℕ) → LowLock plan S (scope_lock_of_queue q i s) n
of_queue plan S q i scope.PerDevice n l e = let same : lock.DeviceScope i.device ≡ l = cc in subst (λ x. level_of_lock plan S x ≤ n) same (omega arith)
of_queue plan S q i scope.PerQueue n l e = let same : lock.QueueScope (record { 0 = q }) ≡ l = cc in subst (λ x. level_of_lock plan S x ≤ n) same (omega arith)
of_queue plan S q i scope.Unscoped n l e = absurd (let z : ⊥ = cc in z)

of_device : {A : Type 0} (plan : Plan) (S : State A) (d : ℕ) (s : Scope) (n : ℕ) → LowLock plan S (scope_lock_of_device d s) n
of_device plan S d scope.PerDevice n l e = let same : lock.DeviceScope (record { 0 = d }) ≡ l = cc in subst (λ x. level_of_lock plan S x ≤ n) same (omega arith)
of_device plan S d scope.PerQueue n l e = absurd (let z : ⊥ = cc in z)
of_device plan S d scope.Unscoped n l e = absurd (let z : ⊥ = cc in z)

of_scope : {A : Type 0} (plan : Plan) (S : State A) (id : ℕ) (d : Option Declared) (n : ℕ) → LowLock plan S (scope_lock id d) n
of_scope plan S id (Some (declared.Device d)) n l e = of_device plan S id d.scope n l e
of_scope plan S id (Some (declared.Queue q)) n l e = of_queue plan S id q q.scope n l e
of_scope plan S id _ n l e = absurd (let z : ⊥ = cc in z)

of_serial : {A : Type 0} (plan : Plan) (S : State A) (c : Option ClassInfo) (n : ℕ) → LowLock plan S (serial_lock plan c) n
of_serial plan S (Some (class.Deferred name k parent true period)) n l e = of_scope plan S parent.0 (declared_of plan parent.0) n l e
of_serial plan S _ n l e = absurd (let z : ⊥ = cc in z)

of_parent : {A : Type 0} (plan : Plan) (S : State A) (d : Option Declared) (n : ℕ) → LowLock plan S (parent_lock plan d) n
of_parent plan S (Some (declared.OfClass c)) n l e = of_serial plan S (slice_get plan.classes c) n l e
of_parent plan S _ n l e = absurd (let z : ⊥ = cc in z)

interrupt_high : (plan : Plan) (c : Callback) (o : ℕ) → is_interrupt_lock (row_of c).lock ≡ true → callback_irql plan c o ≡ interrupt_level plan o
interrupt_high plan callback.EvtInterruptIsr o h = refl
interrupt_high plan callback.EvtInterruptEnable o h = refl
interrupt_high plan callback.EvtInterruptDisable o h = refl
interrupt_high plan _ o h = absurd (let z : ⊥ = cc in z)

low_kind : (plan : Plan) (o : ℕ) (k : Kind) → same_kind k kind.SpinLock ≡ false → level_of_kind plan o k ≤ interrupt_level plan o
low_kind plan o kind.SpinLock h = absurd (let z : ⊥ = cc in z)
low_kind plan o kind.Interrupt h = omega arith
low_kind plan o _ h = omega arith

low_by : {A : Type 0} (plan : Plan) (S : State A) (k : CallbackLock) (o : ℕ) (d : Option Declared) (n : ℕ) → (is_interrupt_lock k ≡ true → lock_level plan S o ≤ n) → LowLock plan S (own_lock k o (scope_needed plan k o d)) n
low_by plan S callback_lock.NoLock o d n h l e = absurd (let z : ⊥ = cc in z)
low_by plan S callback_lock.InterruptLock o d n h l e = let same : lock.Object (record { 0 = o }) ≡ l = cc in subst (λ x. level_of_lock plan S x ≤ n) same (h refl)
low_by plan S callback_lock.ParentScope o d n h l e = of_parent plan S d n l e
low_by plan S callback_lock.QueueLock o d n h l e = of_scope plan S o d n l e

own_low : {A : Type 0} (plan : Plan) (S : State A) (c : Callback) (o : ℕ) → (is_interrupt_lock (row_of c).lock ≡ true → same_kind (kind_of S.tree o) kind.SpinLock ≡ false) → LowLock plan S (lock_of_callback plan c o (declared_in plan S o)) (callback_irql plan c o)
own_low plan S c o unlike = low_by plan S (row_of c).lock o (declared_in plan S o) (callback_irql plan c o)
    (λ h. let high = interrupt_high plan c o h in let low = low_kind plan o (kind_of S.tree o) (unlike h) in omega arith)

-- ---- the levels of a frame

same_height : {A : Type 0} (plan : Plan) (S : State A) (l : LockRef) → height plan S.tree l ≡ level_of_lock plan S l
same_height plan S (lock.Object o) = refl
same_height plan S (lock.DeviceScope d) = refl
same_height plan S (lock.QueueScope q) = refl

abbrev is_at : {A : Type 0} → Plan → State A → ℕ → ℕ → Held → Bool
is_at plan S f n h = h.frame.0 == f && level_of_lock plan S h.lock == n

called_at : {A : Type 0} (plan : Plan) (S : State A) (f n : ℕ) (hs : List Held) → count_by (is_called plan S.tree f n) hs ≤ count_by (is_at plan S f n) hs
called_at plan S f n [] = omega arith
called_at plan S f n (h ∷ hs) =
    let a = count_cons (is_called plan S.tree f n) h hs in
    let b = count_cons (is_at plan S f n) h hs in
    let e : (height plan S.tree h.lock == n) ≡ (level_of_lock plan S h.lock == n) = ap (λ v. v == n) (same_height plan S h.lock) in
    let c : flag (is_called plan S.tree f n h) ≤ flag (is_at plan S f n h) = less (h.frame.0 == f) h.by_call (height plan S.tree h.lock == n) (level_of_lock plan S h.lock == n) e in
    let rest = called_at plan S f n hs in omega arith
  where
    less : (a b c d : Bool) → c ≡ d → flag (a && b && c) ≤ flag (a && d)
    less true true c d e = let same : flag c ≡ flag d = ap flag e in omega arith
    less true false c d e = omega arith
    less false b c d e = omega arith

-- a lock of a level that a frame holds was taken by a call, or is no higher than the frame
split_at : {A : Type 0} (plan : Plan) (S : State A) (f n b : ℕ) (hs : List Held) → Each (λ (h : Held). h.frame.0 ≡ f → h.by_call ≡ false → level_of_lock plan S h.lock ≤ b) hs → 1 ≤ count_by (is_at plan S f n) hs
    → (1 ≤ count_by (is_called plan S.tree f n) hs) ⊎ (n ≤ b)
split_at plan S f n b [] low more = absurd (omega arith)
split_at plan S f n b (h ∷ hs) low more =
    let c = count_cons (is_called plan S.tree f n) h hs in
    let d = count_cons (is_at plan S f n) h hs in
    elim (cases_Bool (is_at plan S f n h)) [
      | inr off ↦ (let none : flag (is_at plan S f n h) ≡ 0 = ap flag off in elim (split_at plan S f n b hs low.1 (omega arith)) [
        | inl some ↦ inl (omega arith)
        | inr under ↦ inr under
      ])
      | inl on_ ↦
          let frame : h.frame.0 ≡ f = eqb-true h.frame.0 f (both_left (h.frame.0 == f) (level_of_lock plan S h.lock == n) on_) in
          let level : level_of_lock plan S h.lock ≡ n = eqb-true (level_of_lock plan S h.lock) n (both_right (h.frame.0 == f) (level_of_lock plan S h.lock == n) on_) in
          elim (cases_Bool h.by_call) [
            | inl by_call ↦
                let yes_ : flag (is_called plan S.tree f n h) ≡ 1 = ap flag (all_three (h.frame.0 == f) h.by_call (height plan S.tree h.lock == n) (equal h.frame.0 f frame) by_call (equal (height plan S.tree h.lock) n (same_height plan S h.lock ∙ level))) in
                inl (omega arith)
            | inr start ↦ inr (let low_ = low.0 frame start in omega arith)
          ]
    ]

awaited_by : {A : Type 0} (plan : Plan) (S : State A) (p : Pending) (n : ℕ) (b : Bool) → has n (if b then lock_level plan S (object_in p.call.a) ∷ [] else []) ≡ (if b then flag (lock_level plan S (object_in p.call.a) == n) else 0)
awaited_by plan S p n true = let c = count_cons (λ y. y == n) (lock_level plan S (object_in p.call.a)) [] in let none : has n [] ≡ 0 = refl in omega arith
awaited_by plan S p n false = refl

awaited_is : {A : Type 0} (plan : Plan) (S : State A) (o : Option Pending) (n : ℕ) → has n (level_awaited plan S o) ≡ awaited plan S.tree o n
awaited_is plan S None n = refl
awaited_is plan S (Some p) n = awaited_by plan S p n (is_acquire p.call.kind)

own_levels : {A : Type 0} (plan : Plan) (S : State A) (f : ℕ) → Framing plan S → LeveledIn plan S → 1 ≤ on S.cpus f → Each (λ (h : Held). h.frame.0 ≡ f → h.by_call ≡ false → level_of_lock plan S h.lock ≤ (running S.cpus f).level.0) S.locks.held
own_levels plan S f frames k there =
    each_still (IsHeld plan S) (λ (h : Held). h.frame.0 ≡ f → h.by_call ≡ false → level_of_lock plan S h.lock ≤ (running S.cpus f).level.0)
    (λ h is e start.
    let own = subst (λ x. lock_of_callback plan (frame_of S.cpus x).callback (frame_of S.cpus x).object.id.0 (declared_in plan S (frame_of S.cpus x).object.id.0) ≡ Some h.lock) e (is.1 start) in
    let low = own_low plan S (frame_of S.cpus f).callback (frame_of S.cpus f).object.id.0 (k.kind f there) h.lock own in
    let high = k.level f there in omega arith)
    S.locks.held frames.held

frame_agrees : {A : Type 0} (plan : Plan) (S : State A) (f : ℕ) → Framing plan S → LeveledIn plan S → 1 ≤ on S.cpus f → frame_level S.cpus f ≡ level_by_locks plan S (Some f)
frame_agrees plan S f frames k there =
    let b : ℕ = (running S.cpus f).level.0 in
    let xs : List ℕ = levels_of S.cpus f in
    let ys : List ℕ = levels_held plan S f in
    let zs : List ℕ = level_awaited plan S (frame_of S.cpus f).pending in
    let in_xs = λ (n : ℕ). mapped (λ (l : HeldLevel). l.level.0) (λ (l : HeldLevel). l.frame.0 == f) n S.cpus.levels in
    let in_ys = λ (n : ℕ). mapped (λ (h : Held). level_of_lock plan S h.lock) (λ (h : Held). h.frame.0 == f) n S.locks.held in
    let in_zs = λ (n : ℕ). awaited_is plan S (frame_of S.cpus f).pending n in
    let in_both = λ (n : ℕ). count_behind (λ (y : ℕ). y == n) ys zs in
    let up : fold max b xs ≤ fold max b (ys ++ zs) = greatest_least xs b (fold max b (ys ++ zs)) (above_base (ys ++ zs) b)
    (λ n more. above_each (ys ++ zs) b n (let one = in_xs n in let two = in_ys n in let three = in_zs n in let all = in_both n in let agree = k.now f n there in let less = called_at plan S f n S.locks.held in omega arith)) in
    let down : fold max b (ys ++ zs) ≤ fold max b xs = greatest_least (ys ++ zs) b (fold max b xs) (above_base xs b)
    (λ n more.
    let one = in_xs n in let two = in_ys n in let three = in_zs n in let all = in_both n in let agree = k.now f n there in
    elim (none_or (has n zs)) [
      | inr some ↦ above_each xs b n (omega arith)
      | inl none ↦ elim (split_at plan S f n b S.locks.held (own_levels plan S f frames k there) (omega arith)) [
        | inl some ↦ above_each xs b n (omega arith)
        | inr under ↦ let base = above_base xs b in omega arith
      ]
    ]) in
    omega arith
  where
    none_or : (n : ℕ) → (n ≡ 0) ⊎ (1 ≤ n)
    none_or zero = inl refl
    none_or (suc n) = inr (omega arith)

cpu_agrees : {A : Type 0} (plan : Plan) (S : State A) (cpu : ℕ) (t : Option ℕ) → Framing plan S → LeveledIn plan S → top S.cpus cpu ≡ t → irql S.cpus cpu ≡ level_by_locks plan S (top S.cpus cpu)
cpu_agrees plan S cpu None frames k e = rw e refl
cpu_agrees plan S cpu (Some f) frames k e = rw e (frame_agrees plan S f frames k (top_on S.cpus cpu f e))

pub levels_agree_at_each : {A : Type 0} (plan : Plan) (m : Meaning A) (run : List Event) → IsResolved plan → IsRunOf plan m run → (n : ℕ) → levels_agree plan (state_after plan m (take n run)) ≡ true
levels_agree_at_each plan m run resolved is_run n =
    let S = state_after plan m (take n run) in
    each_passes (λ cpu. irql S.cpus cpu == level_by_locks plan S (top S.cpus cpu))
    (λ cpu. equal (irql S.cpus cpu) (level_by_locks plan S (top S.cpus cpu)) (cpu_agrees plan S cpu (top S.cpus cpu) (framing_at_each plan m run is_run n) (leveled_at_each plan m run resolved is_run n) refl))
    (range_with_len 0 plan.cpus)
