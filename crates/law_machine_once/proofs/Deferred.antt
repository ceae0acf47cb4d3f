-- A work item is queued at most once, and so is a timer.
use Rattle.std.proofs.Common.{if◌then◌else◌, ◌≡◌, ℕ, ◌+◌, ◌==◌, ◌≤◌, nat_lt, Bool, true, false, not, List, [], ◌∷◌, inl, inr, count_by, filter, map, fold, take, refl, sym, subst, arith}
use Rattle.std.specs.List.{list_any}
use Rattle.wdf_base.specs.Meaning.{Meaning}
use Rattle.wdf_base.specs.declared.plan.Plan.{Plan}
use Rattle.wdf_base.specs.declared.event.Event.{Event}
use Rattle.wdf_model.specs.declared.entries.Timed.{Timed}
use Rattle.wdf_model.specs.declared.enums.Mode.TheVariants as mode
use Rattle.wdf_model.specs.Tables.{contains, flag, in_order_by}
use Rattle.wdf_model.specs.Plans.{managed_queues, queues_of}
use Rattle.wdf_model.specs.parts.Tree.{life_of, subtree}
use Rattle.wdf_model.specs.parts.Queues.{waiting_in}
use Rattle.wdf_model.specs.parts.Requests as requests
use Rattle.wdf_model.specs.parts.Control as control
use Rattle.wdf_model.specs.parts.Deferred.WorkItems.{WorkItems}
use Rattle.wdf_model.specs.parts.Deferred.Timers.{Timers, later_by}
use Rattle.wdf_model.specs.parts.Deferred.Timers as timers
use Rattle.wdf_base.specs.declared.object.Place.{Place}
use Rattle.wdf_base.specs.declared.object.Place.TheVariants as place
use Rattle.wdf_base.specs.declared.object.RequestInfo.{RequestInfo}
use Rattle.wdf_base.specs.Lives.{is_live}
use Rattle.wdf_model.specs.State.{State}
use Rattle.wdf_model.specs.declared.deed.Deed.{Deed}
use Rattle.wdf_model.specs.declared.deed.Deed.TheVariants.{Arrive, AskDeletion, Requeue, Forward, GiveBack, SendRequest, CompleteRequest, PurgeQueue, CloseReturning, CloseDevice, EnqueueWork, CancelWork, StartTimer, StopTimer, FireTimer}
use Rattle.wdf_model.specs.rules.Deeds.{arrive_at, ask_object, do_deed, give_up}
use Rattle.wdf_model.specs.rules.Ready.{IsRunOf, state_after}
use Rattle.wdf_model.proofs.Counts.{count_cons, count_mapped, filter_less, filter_none, not_equal, one_or_two}
use Rattle.wdf_model.proofs.Tests.{either_false, not_true}
use Rattle.law_machine_base.proofs.Deletion.{object_live, object_off}
use Rattle.law_machine_lives.proofs.SoundRuns.{sound_place}
use Rattle.law_machine_lives.proofs.Stays.{gives_up, gives_up_if, withdraws, returns_closed, queues_closed}
use Rattle.law_machine_once.specs.Owned.{QueuedOnce}

-- the queues of work items and timers
pub record Late : Type 0 where
  pub items : WorkItems
  pub timers : Timers

abbrev pub late_of : {A : Type 0} → State A → Late
late_of S = record { items = S.work_items; timers = S.timers }

pub record Once (l : Late) : Type 0 where
  pub items : (o : ℕ) → count_by (λ x. x == o) l.items.queued ≤ 1
  pub timers : (o : ℕ) → count_by (λ (t : Timed). t.timer.0 == o) l.timers.queued ≤ 1

-- ---- one more in a rising list

ordered_by : {T : Type 0} (key : T → ℕ) (p : T → Bool) (x y : T) (ys : List T) (b : Bool) → nat_lt (key x) (key y) ≡ b
    → count_by p (in_order_by key x ys) ≡ flag (p x) + count_by p ys → count_by p (in_order_by key x (y ∷ ys)) ≡ flag (p x) + count_by p (y ∷ ys)
ordered_by key p x y ys true e rest = rw e (count_cons p x (y ∷ ys))
ordered_by key p x y ys false e rest = rw e (let k = count_cons p y (in_order_by key x ys) in let l = count_cons p y ys in omega arith)

ordered : {T : Type 0} (key : T → ℕ) (p : T → Bool) (x : T) (xs : List T) → count_by p (in_order_by key x xs) ≡ flag (p x) + count_by p xs
ordered key p x [] = count_cons p x []
ordered key p x (y ∷ ys) = ordered_by key p x y ys (nat_lt (key x) (key y)) refl (ordered key p x ys)

none_there : {T : Type 0} (p : T → Bool) (xs : List T) → list_any p xs ≡ false → count_by p xs ≡ 0
none_there p [] h = refl
none_there p (x ∷ xs) h =
    let q = either_false (p x) (list_any p xs) h in
    let f : flag (p x) ≡ 0 = rw q.0 refl in
    let k = count_cons p x xs in
    let rest = none_there p xs q.1 in
    omega arith

-- one more that wasn't there
one_more : {T : Type 0} (key : T → ℕ) (x : T) (xs : List T) (o : ℕ) → count_by (λ y. key y == key x) xs ≡ 0 → count_by (λ y. key y == o) xs ≤ 1 → count_by (λ y. key y == o) (in_order_by key x xs) ≤ 1
one_more key x xs o none few =
    let k = ordered key (λ y. key y == o) x xs in
    elim (one_or_two (key x) o) [
      | inl e ↦
          let zeroth : count_by (λ y. key y == o) xs ≡ 0 = rw (← e) none in
          let f : flag (key x == o) ≤ 1 = at_most (key x == o) in
          omega arith
      | inr n ↦ let f : flag (key x == o) ≡ 0 = rw (not_equal (key x) o n) refl in omega arith
    ]
  where
    at_most : (b : Bool) → flag b ≤ 1
    at_most true = omega arith
    at_most false = omega arith

-- ---- each act

enqueued_by : (W : WorkItems) (o x : ℕ) (b : Bool) → contains o W.queued ≡ b → ((y : ℕ) → count_by (λ z. z == y) W.queued ≤ 1)
    → count_by (λ z. z == x) (if b then W else record { queued = in_order_by (λ z. z) o W.queued }).queued ≤ 1
enqueued_by W o x true e h = h x
enqueued_by W o x false e h = one_more (λ z. z) o W.queued x (none_there (λ z. z == o) W.queued e) (h x)

fewer : {T : Type 0} (p keep : T → Bool) (xs : List T) → count_by p xs ≤ 1 → count_by p (filter keep xs) ≤ 1
fewer p keep xs h = let k = filter_less p keep xs in omega arith

started_once : (T : Timers) (o now ticks x : ℕ) → ((y : ℕ) → count_by (λ (t : Timed). t.timer.0 == y) T.queued ≤ 1) → count_by (λ (t : Timed). t.timer.0 == x) (timers.start T o now ticks).queued ≤ 1
started_once T o now ticks x h =
    one_more (λ (t : Timed). t.timer.0) _ (timers.without_timer o T.queued) x
    (filter_none (λ (t : Timed). t.timer.0 == o) (λ t. not (t.timer.0 == o)) (λ t e. not_true (t.timer.0 == o) e) T.queued)
    (fewer (λ (t : Timed). t.timer.0 == x) (λ t. not (t.timer.0 == o)) T.queued (h x))

same_timer : (o period x : ℕ) (t : Timed) (b : Bool) → ((if b then record t { tick = t.tick + period } else t).timer.0 == x) ≡ (t.timer.0 == x)
same_timer o period x t true = refl
same_timer o period x t false = refl

fired_by : (T : Timers) (o period x : ℕ) (b : Bool) → ((y : ℕ) → count_by (λ (t : Timed). t.timer.0 == y) T.queued ≤ 1)
    → count_by (λ (t : Timed). t.timer.0 == x) (if b then timers.stop T o else record { queued = map (later_by o period) T.queued }).queued ≤ 1
fired_by T o period x true h = fewer (λ (t : Timed). t.timer.0 == x) (λ t. not (t.timer.0 == o)) T.queued (h x)
fired_by T o period x false h =
    let k = count_mapped (λ (t : Timed). t.timer.0 == x) (later_by o period) (λ t. same_timer o period x t (t.timer.0 == o)) T.queued in
    let few = h x in
    omega arith

asked_one : {A : Type 0} (S : State A) (x : ℕ) (b : Bool) → is_live (life_of S.tree x) ≡ b → Once (late_of S) → Once (late_of (ask_object S x))
asked_one {A} S x true e k =
    subst (λ (U : State A). Once (late_of U)) (sym (object_live S x e)) (record {
      items = λ o. fewer (λ z. z == o) (λ z. not (z == x)) S.work_items.queued (k.items o);
      timers = λ o. fewer (λ (t : Timed). t.timer.0 == o) (λ t. not (t.timer.0 == x)) S.timers.queued (k.timers o);
    })
asked_one {A} S x false e k = subst (λ (U : State A). Once (late_of U)) (sym (object_off S x e)) k

all_asked : {A : Type 0} (xs : List ℕ) (S : State A) → Once (late_of S) → Once (late_of (fold ask_object S xs))
all_asked [] S k = k
all_asked (x ∷ xs) S k = all_asked xs (ask_object S x) (asked_one S x (is_live (life_of S.tree x)) refl k)

same_late : (v w : Late) → w ≡ v → Once v → Once w
same_late v w e k = subst Once (sym e) k

arrived : {A : Type 0} (S : State A) (device : ℕ) (info : RequestInfo) (p : Place) → late_of (arrive_at S device info p) ≡ late_of S
arrived S device info (place.Queued q) = refl
arrived S device info _ = refl

once_by : {A : Type 0} (plan : Plan) (d : Deed) (S : State A) → Once (late_of S) → Once (late_of (do_deed plan d S))
once_by plan (Arrive device info p) S q = same_late _ _ (arrived S device.0 info p) q
once_by plan (AskDeletion o) S q = all_asked (subtree S.tree o.0) S q
once_by plan (Requeue r p) S q = same_late _ _ (gives_up late_of (λ S Q R P. refl) S r.0) q
once_by plan (Forward r p) S q = same_late _ _ (gives_up late_of (λ S Q R P. refl) S r.0) q
once_by plan (GiveBack r p) S q = same_late _ _ (gives_up late_of (λ S Q R P. refl) S r.0) q
once_by plan (SendRequest r t forget) S q = same_late _ _ (gives_up_if late_of (λ S Q R P. refl) S forget r.0) q
once_by plan (CompleteRequest r) S q =
    all_asked (subtree (give_up S r.0).tree r.0) (record (give_up S r.0) { requests = requests.complete S.requests r.0 }) (same_late _ _ (gives_up late_of (λ S Q R P. refl) S r.0) q)
once_by plan (PurgeQueue p) S q = same_late _ _ (withdraws late_of (λ S Q R P. refl) plan p.0 (waiting_in S.queues p.0) (record S { control = control.set_mode S.control p.0 mode.Purged })) q
once_by plan (CloseReturning d) S q = same_late _ _ (returns_closed late_of (λ S Q R P. refl) (managed_queues plan d.0) S) q
once_by plan (CloseDevice d) S q = same_late _ _ (queues_closed late_of (λ S Q R P. refl) (queues_of plan d.0) (record S { control = control.shut S.control d.0 })) q
once_by plan (EnqueueWork o) S q = record { items = λ x. enqueued_by S.work_items o.0 x (contains o.0 S.work_items.queued) refl q.items; timers = q.timers }
once_by plan (CancelWork o) S q = record { items = λ x. fewer (λ z. z == x) (λ z. not (z == o.0)) S.work_items.queued (q.items x); timers = q.timers }
once_by plan (StartTimer o ticks) S q = record { items = q.items; timers = λ x. started_once S.timers o.0 S.clock ticks x q.timers }
once_by plan (StopTimer o) S q = record { items = q.items; timers = λ x. fewer (λ (t : Timed). t.timer.0 == x) (λ t. not (t.timer.0 == o.0)) S.timers.queued (q.timers x) }
once_by plan (FireTimer o period) S q = record { items = q.items; timers = λ x. fired_by S.timers o.0 period x (period == 0) q.timers }
once_by plan _ S q = q

once_at_each : {A : Type 0} (plan : Plan) (m : Meaning A) (run : List Event) → IsRunOf plan m run → (n : ℕ) → Once (late_of (state_after plan m (take n run)))
once_at_each {A} plan m run is_run n = sound_place plan m (λ (S : State A). Once (late_of S))
    (record { items = λ o. omega arith; timers = λ o. omega arith })
    (λ d S f s q. once_by plan d S q) (λ e S q. q) run is_run n

pub queued_once_at_each : {A : Type 0} (plan : Plan) (m : Meaning A) (run : List Event) → IsRunOf plan m run → (n : ℕ) → QueuedOnce (state_after plan m (take n run))
queued_once_at_each plan m run is_run n = let q = once_at_each plan m run is_run n in record { items = q.items; timers = q.timers }
