-- What the lines of frames, requests and objects name is so.
use Rattle.std.proofs.Common.{if◌then◌else◌, ◌≡◌, ◌⊎◌, inl, inr, ℕ, suc, ◌+◌, ◌==◌, Bool, true, false, not, ◌&&◌, ◌||◌, nat_lt, nat_le, List, [], ◌∷◌, ◌++◌, Option, Some, None, is_some, filter, count_by, take_while, refl, sym, ap, ◌∙◌, arith}
use Rattle.std.specs.Prelude.{filter_map, option_map}
use Rattle.std.specs.List.{list_all, prefix_len}
use Rattle.std.proofs.lemmas.Bool.Decides.{nat_tests}
use Rattle.wdf_base.specs.declared.plan.Plan.{Plan}
use Rattle.wdf_base.specs.declared.object.LockRef.{LockRef}
use Rattle.wdf_base.specs.declared.object.Place.{Place}
use Rattle.wdf_base.specs.declared.object.Place.TheVariants as place
use Rattle.wdf_base.specs.declared.call.Arg.{Arg}
use Rattle.wdf_base.specs.declared.call.CallKind.{CallKind}
use Rattle.wdf_base.specs.declared.call.CallKind.TheVariants as call
use Rattle.wdf_base.specs.declared.call.Callback.TheVariants as callback
use Rattle.wdf_base.specs.declared.frame.Pending.{Pending}
use Rattle.wdf_base.specs.declared.wait.Cause.{Cause}
use Rattle.wdf_base.specs.declared.wait.Cause.TheVariants as cause
use Rattle.wdf_base.specs.declared.wait.OpenThing.{OpenThing}
use Rattle.wdf_base.specs.declared.wait.OpenThing.TheVariants as thing
use Rattle.wdf_base.specs.declared.wait.WaitLine.{WaitLine}
use Rattle.wdf_model.specs.Ids.{frame_id}
use Rattle.wdf_model.specs.declared.entries.Held.{Held}
use Rattle.wdf_base.specs.declared.ids.ObjectId.{ObjectId}
use Rattle.wdf_base.specs.Places.{is_queued_in, is_returning_to, is_sent_to}
use Rattle.law_machine_base.specs.OverRuns.{PlacesAgree}
use Rattle.wdf_model.specs.Tables.{contains, flag, ids_of, least}
use Rattle.wdf_model.specs.Plans.{is_managed, is_manual_queue, queue_level}
use Rattle.wdf_model.specs.parts.Cpus.{all_frames, frame_of, irql, is_empty_cpu, is_on}
use Rattle.wdf_model.specs.parts.Locks.{hold_of, holder, is_free_hold, is_free_if_any, object_lock, scope_of}
use Rattle.wdf_model.specs.parts.Requests.{place_of}
use Rattle.wdf_model.specs.parts.Queues.{is_free, waiting_in}
use Rattle.wdf_model.specs.parts.Control.{delivers_in, mode_of}
use Rattle.wdf_model.specs.parts.Deferred.WorkItems.{is_work_queued}
use Rattle.wdf_model.specs.State.{State, declared_in, handle_in, held_from, is_held_from, is_powered, object_in, up_for}
use Rattle.wdf_model.specs.rules.Starts.{level_fits}
use Rattle.wdf_model.specs.rules.Waits.{above_in, ahead, all_cpus, by_frame, by_frame_on, by_lock, call_cause, cause_if, frame_cause, frames_above, holders_of, no_cpu, parked_for_cpu, pending_cause, queue_scope_held, queued_cause, request_line, requests_where, returning_cause}
use Rattle.wdf_model.proofs.Tests.{all_three, both, first, itself, second}
use Rattle.law_stuck_causes.specs.Causes.{all_taken, has_lock, is_above, is_before, is_held_lock, is_so, is_taken, is_there, keeps, keeps_below, keeps_call, keeps_frame, keeps_parked, keeps_pending, keeps_queued, keeps_returning, runs_on}
use Rattle.law_stuck_causes.proofs.Members.{Has}
use Rattle.law_stuck_causes.proofs.Gives.{Gives, IfThere, all_alike, any_has, gives_first, gives_frame, gives_if, gives_map, gives_none, gives_request, has_either, has_gathered, has_kept, it_contains, least_has}
use Rattle.wdf_model.proofs.FrameCounts.{listed}

-- ---- processors

level_by : (irql level : ℕ) → not (nat_lt irql level) ≡ nat_le level irql
level_by irql level = grind (arith, nat_tests)

taken_by : {A : Type 0} (S : State A) (level cpu : ℕ) (b : Bool) → (level == 0) ≡ b → not (level_fits S cpu level) ≡ is_taken S level cpu
taken_by S level cpu true e = rw e refl
taken_by S level cpu false e = rw e (level_by (irql S.cpus cpu) level)

pub not_fits : {A : Type 0} (S : State A) (level cpu : ℕ) → not (level_fits S cpu level) ≡ is_taken S level cpu
not_fits S level cpu = taken_by S level cpu (level == 0) refl

pub none_left : {A : Type 0} (plan : Plan) (S : State A) (level : ℕ) → no_cpu plan S level ≡ all_taken plan S level
none_left plan S level = all_alike (λ cpu. not (level_fits S cpu level)) (is_taken S level) (not_fits S level) (all_cpus plan)

-- ---- locks

held_by : (o : Option Held) → not (is_free_hold o) ≡ is_some (option_map (λ (h : Held). h.frame.0) o)
held_by None = refl
held_by (Some h) = refl

pub lock_held : {A : Type 0} (S : State A) (l : Option LockRef) → not (is_free_if_any S.locks l) ≡ is_held_lock S l
lock_held S None = refl
lock_held S (Some l) = held_by (hold_of S.locks l)

pub lock_of_holder : {A : Type 0} (S : State A) (l : LockRef) (g : ℕ) → holder S.locks l ≡ Some g → has_lock S l g ≡ true
lock_of_holder S l g e = rw e (itself g)

holders_by : (o : Option ℕ) (g : ℕ) → Has g (filter_map (λ x. x) (o ∷ [])) → o ≡ Some g
holders_by None g h = absurd h
holders_by (Some x) g (inl e) = ap Some (sym e)
holders_by (Some x) g (inr h) = absurd h

pub lock_of_list : {A : Type 0} (S : State A) (l : LockRef) (g : ℕ) → Has g (holders_of S (Some l)) → has_lock S l g ≡ true
lock_of_list S l g h = lock_of_holder S l g (holders_by (holder S.locks l) g h)

-- ---- frames

contains_on : (f z : ℕ) (zs : List ℕ) → (z == f) ≡ false → contains f (z ∷ zs) ≡ true → contains f zs ≡ true
contains_on f z zs e h = rw e at h

before_if : (b c d : Bool) → c ≡ true → d ≡ true → (if b then c else d) ≡ true
before_if true c d h k = h
before_if false c d h k = k

pub while_on : (f z : ℕ) (zs : List ℕ) → (z == f) ≡ false → take_while (λ y. not (y == f)) (z ∷ zs) ≡ z ∷ take_while (λ y. not (y == f)) zs
while_on f z zs e = let n : 1 + prefix_len (λ y. not (y == f)) zs ≡ suc (prefix_len (λ y. not (y == f)) zs) = omega arith in rw (e, n) refl

before_first : (g f z : ℕ) (zs : List ℕ) → g ≡ z → contains f zs ≡ true → is_before g f (z ∷ zs) ≡ true
before_first g f z zs e h = rw (e, itself z) h

before_by : (g f z : ℕ) (zs : List ℕ) (b : Bool) → (z == f) ≡ b → contains f (z ∷ zs) ≡ true → Has g (take_while (λ y. not (y == f)) (z ∷ zs))
    → (contains f zs ≡ true → Has g (take_while (λ y. not (y == f)) zs) → is_before g f zs ≡ true) → is_before g f (z ∷ zs) ≡ true
before_by g f z zs true e h k rest = absurd (rw e at k)
before_by g f z zs false e h k rest =
    let there = contains_on f z zs e h in
    let more : Has g (z ∷ take_while (λ y. not (y == f)) zs) = rw (while_on f z zs e) at k in
    elim more as (λ _. is_before g f (z ∷ zs) ≡ true) [
      | inl s ↦ before_first g f z zs s there
      | inr t ↦ before_if (z == g) (contains f zs) (is_before g f zs) there (rest there t)
    ]

-- what comes before an item of a list
pub comes_before : (g f : ℕ) (zs : List ℕ) → contains f zs ≡ true → Has g (take_while (λ y. not (y == f)) zs) → is_before g f zs ≡ true
comes_before g f [] h k = absurd k
comes_before g f (z ∷ zs) h k = before_by g f z zs (z == f) refl h k (comes_before g f zs)

above_by : (g f : ℕ) (stack : List ℕ) (b : Bool) → contains f stack ≡ b → Has g (above_in f stack) → is_before g f stack ≡ true
above_by g f stack true e h = comes_before g f stack e (rw e at h)
above_by g f stack false e h = absurd (rw e at h)

above_so : {A : Type 0} (S : State A) (g f : ℕ) → Has g (frames_above S f) → is_above S g f ≡ true
above_so S g f h =
    let from = has_gathered (above_in f) g S.cpus.stacks h in
    any_has (is_before g f) from.from S.cpus.stacks from.there (above_by g f from.from (contains f from.from) refl from.gives)

pub on_object : {A : Type 0} (S : State A) (o g : ℕ) → Has g (filter (is_on S.cpus o) (all_frames S.cpus)) → runs_on S o g ≡ true
on_object S o g h =
    let kept = has_kept (is_on S.cpus o) g (all_frames S.cpus) h in
    both (is_there S g) (is_on S.cpus o g) (it_contains g (all_frames S.cpus) kept.1) kept.0

acquired : {A : Type 0} (plan : Plan) (S : State A) (so : Cause → Bool) (o : ℕ) → ((g : ℕ) → has_lock S (object_lock o) g ≡ true → so (cause.ByLock (handle_in plan S o) (frame_id g)) ≡ true) → Gives so (by_lock plan S o)
acquired plan S so o h = gives_map so (λ g. cause.ByLock (handle_in plan S o) (frame_id g)) (holder S.locks (object_lock o)) (λ g e. h g (lock_of_holder S (object_lock o) g e))

held_is : {A : Type 0} (S : State A) (q r : ℕ) → Has r (held_from S q) → is_held_from S q r ≡ true
held_is S q r h = (has_kept (is_held_from S q) r (ids_of S.requests.all) h).0

placed : {A : Type 0} (S : State A) (test : Place → Bool) (r : ℕ) → Has r (requests_where S test) → test (place_of S.requests r) ≡ true
placed S test r h = (has_kept (λ x. test (place_of S.requests x)) r (ids_of S.requests.all) h).0

either_so : (a b : Bool) → (a ≡ true) ⊎ (b ≡ true) → (a || b) ≡ true
either_so a b (inl h) = first a b h
either_so a b (inr h) = second a b h

call_so : {A : Type 0} (plan : Plan) (S : State A) (k : CallKind) (n : ℕ) (a b d : Arg) → Gives (keeps_call S (record { kind = k; count = n; a = a; b = b; c = d })) (call_cause plan S (record { kind = k; count = n; a = a; b = b; c = d }))
call_so plan S call.WdfSpinLockAcquire n a b d = acquired plan S _ (object_in a) (λ g h. all_three true (object_in a == object_in a) (has_lock S (object_lock (object_in a)) g) refl (itself (object_in a)) h)
call_so plan S call.WdfWaitLockAcquire n a b d = acquired plan S _ (object_in a) (λ g h. all_three true (object_in a == object_in a) (has_lock S (object_lock (object_in a)) g) refl (itself (object_in a)) h)
call_so plan S call.WdfInterruptAcquireLock n a b d = acquired plan S _ (object_in a) (λ g h. all_three true (object_in a == object_in a) (has_lock S (object_lock (object_in a)) g) refl (itself (object_in a)) h)
call_so plan S call.WdfIoQueueStopSynchronously n a b d = gives_request _ plan S (held_from S (object_in a)) (λ r h. held_is S (object_in a) r h)
call_so plan S call.WdfIoQueueDrainSynchronously n a b d =
    gives_request _ plan S (held_from S (object_in a) ++ waiting_in S.queues (object_in a))
    (λ r h. elim (has_either r (held_from S (object_in a)) (waiting_in S.queues (object_in a)) h) [
      | inl k ↦ first (is_held_from S (object_in a) r) (contains r (waiting_in S.queues (object_in a))) (held_is S (object_in a) r k)
      | inr k ↦ second (is_held_from S (object_in a) r) (contains r (waiting_in S.queues (object_in a))) (it_contains r (waiting_in S.queues (object_in a)) k)
    ])
call_so plan S call.WdfIoQueuePurgeSynchronously n a b d =
    gives_request _ plan S (held_from S (object_in a) ++ requests_where S (is_returning_to (object_in a)))
    (λ r h. elim (has_either r (held_from S (object_in a)) (requests_where S (is_returning_to (object_in a))) h) [
      | inl k ↦ first (is_held_from S (object_in a) r) (is_returning_to (object_in a) (place_of S.requests r)) (held_is S (object_in a) r k)
      | inr k ↦ second (is_held_from S (object_in a) r) (is_returning_to (object_in a) (place_of S.requests r)) (placed S (is_returning_to (object_in a)) r k)
    ])
call_so plan S call.WdfIoTargetStop n a b d = gives_request _ plan S (requests_where S (is_sent_to (object_in a))) (λ r h. placed S (is_sent_to (object_in a)) r h)
call_so plan S call.WdfDpcCancel n a b d = gives_frame _ (filter (is_on S.cpus (object_in a)) (all_frames S.cpus)) (λ g h. on_object S (object_in a) g h)
call_so plan S call.WdfTimerStop n a b d = gives_frame _ (filter (is_on S.cpus (object_in a)) (all_frames S.cpus)) (λ g h. on_object S (object_in a) g h)
call_so plan S call.WdfWorkItemFlush n a b d =
    gives_first _ (by_frame_on S (object_in a) ∷ cause_if (is_work_queued S.work_items (object_in a)) (cause.ByWork (handle_in plan S (object_in a))) ∷ []) (
      gives_frame _ (filter (is_on S.cpus (object_in a)) (all_frames S.cpus)) (λ g h. on_object S (object_in a) g h),
      (
        gives_if _ (is_work_queued S.work_items (object_in a)) (cause.ByWork (handle_in plan S (object_in a))) (λ h. all_three true (object_in a == object_in a) (is_work_queued S.work_items (object_in a)) refl (itself (object_in a)) h),
        tt,
      ),
    )
call_so plan S _ n a b d = gives_none _

pending_so : {A : Type 0} (plan : Plan) (S : State A) (p : Option Pending) → Gives (keeps_pending S p) (pending_cause plan S p)
pending_so plan S None = gives_none _
pending_so plan S (Some p) = call_so plan S p.call.kind p.call.count p.call.a p.call.b p.call.c

pub weaker : (so also : Cause → Bool) (o : Option Cause) → ((x : Cause) → so x ≡ true → also x ≡ true) → Gives so o → Gives also o
weaker so also o h g x e = h x (g x e)

empty_taken : {A : Type 0} (plan : Plan) (S : State A) → list_all (λ cpu. not (is_empty_cpu S.cpus cpu)) (all_cpus plan) ≡ all_taken plan S 0
empty_taken plan S = all_alike (λ cpu. not (is_empty_cpu S.cpus cpu)) (is_taken S 0) (λ cpu. refl) (all_cpus plan)

pub frame_so : {A : Type 0} (plan : Plan) (S : State A) (f : ℕ) → Gives (keeps_frame plan S f) (frame_cause plan S f)
frame_so plan S f =
    gives_first (keeps_frame plan S f) (by_frame (frames_above S f) ∷ pending_cause plan S (frame_of S.cpus f).pending ∷ cause_if (parked_for_cpu plan S f) cause.NoCpu ∷ []) (
      gives_frame (keeps_frame plan S f) (frames_above S f)
          (λ g h. first (is_above S g f || keeps_pending S (frame_of S.cpus f).pending (cause.ByFrame (frame_id g))) false (first (is_above S g f) (keeps_pending S (frame_of S.cpus f).pending (cause.ByFrame (frame_id g))) (above_so S g f h))),
      (
        weaker (keeps_pending S (frame_of S.cpus f).pending) (keeps_frame plan S f) (pending_cause plan S (frame_of S.cpus f).pending)
            (λ x h. first (keeps_below S f x || keeps_pending S (frame_of S.cpus f).pending x) (keeps_parked plan S f x) (second (keeps_below S f x) (keeps_pending S (frame_of S.cpus f).pending x) h))
            (pending_so plan S (frame_of S.cpus f).pending),
        (
          gives_if (keeps_frame plan S f) (parked_for_cpu plan S f) cause.NoCpu
              (λ h. second (false || keeps_pending S (frame_of S.cpus f).pending cause.NoCpu) (keeps_parked plan S f cause.NoCpu) (rw (← empty_taken plan S) h)),
          tt,
        ),
      ),
    )

-- ---- requests

waits_there : {A : Type 0} (S : State A) (q : ObjectId) (r : ℕ) → PlacesAgree S → place_of S.requests r ≡ place.Queued q → contains r (waiting_in S.queues q.0) ≡ true
waits_there S q r k e =
    let one : is_queued_in q.0 (place_of S.requests r) ≡ true = rw e (itself q.0) in
    let times : count_by (λ x. x == r) (waiting_in S.queues q.0) ≡ 1 = k.queued q.0 r ∙ ap flag one in
    listed r (waiting_in S.queues q.0) (omega arith)

unpowered_by : (managed up : Bool) → not (not managed || up) ≡ true → (managed && not up) ≡ true
unpowered_by true true h = h
unpowered_by true false h = refl
unpowered_by false up h = h

pub queued_so : {A : Type 0} (plan : Plan) (S : State A) (q r : ℕ) → contains r (waiting_in S.queues q) ≡ true → Gives (keeps_queued plan S q r) (queued_cause plan S q r)
queued_so plan S q r there =
    gives_first (keeps_queued plan S q r)
    (cause_if (not (delivers_in (mode_of S.control q))) cause.Stopped
    ∷ cause_if (not (is_powered plan S q)) cause.Unpowered
    ∷ cause_if (is_manual_queue plan q) cause.Manual
    ∷ option_map (λ x. cause.Behind (handle_in plan S x)) (least (ahead S q r))
    ∷ cause_if (not (is_free S.queues q)) cause.Full
    ∷ cause_if (queue_scope_held plan S q) cause.ScopeHeld
    ∷ cause_if (no_cpu plan S (queue_level plan q)) cause.NoCpu
    ∷ []) (
      gives_if (keeps_queued plan S q r) (not (delivers_in (mode_of S.control q))) cause.Stopped (λ h. h),
      (
        gives_if (keeps_queued plan S q r) (not (is_powered plan S q)) cause.Unpowered (λ h. unpowered_by (is_managed plan q) (up_for plan S q) h),
        (
          gives_if (keeps_queued plan S q r) (is_manual_queue plan q) cause.Manual (λ h. h),
          (
            gives_map (keeps_queued plan S q r) (λ x. cause.Behind (handle_in plan S x)) (least (ahead S q r)) (λ x e. comes_before x r (waiting_in S.queues q) there (least_has (ahead S q r) x e)),
            (
              gives_if (keeps_queued plan S q r) (not (is_free S.queues q)) cause.Full (λ h. h),
              (
                gives_if (keeps_queued plan S q r) (queue_scope_held plan S q) cause.ScopeHeld (λ h. sym (lock_held S (scope_of plan callback.EvtIoDefault q (declared_in plan S q))) ∙ h),
                (
                  gives_if (keeps_queued plan S q r) (no_cpu plan S (queue_level plan q)) cause.NoCpu (λ h. sym (none_left plan S (queue_level plan q)) ∙ h),
                  tt,
                ),
              ),
            ),
          ),
        ),
      ),
    )

pub returning_so : {A : Type 0} (plan : Plan) (S : State A) (q : ℕ) → Gives (keeps_returning plan S q) (returning_cause plan S q)
returning_so plan S q =
    gives_first (keeps_returning plan S q) (cause_if (queue_scope_held plan S q) cause.ScopeHeld ∷ cause_if (no_cpu plan S (queue_level plan q)) cause.NoCpu ∷ []) (
      gives_if (keeps_returning plan S q) (queue_scope_held plan S q) cause.ScopeHeld (λ h. sym (lock_held S (scope_of plan callback.EvtIoDefault q (declared_in plan S q))) ∙ h),
      (
        gives_if (keeps_returning plan S q) (no_cpu plan S (queue_level plan q)) cause.NoCpu (λ h. sym (none_left plan S (queue_level plan q)) ∙ h),
        tt,
      ),
    )

-- ---- a line and its cause

pub so_by : {A : Type 0} (plan : Plan) (S : State A) (t : OpenThing) (o : Option Cause) → Gives (keeps plan S t) o → is_so plan S t o ≡ true
so_by plan S t None g = refl
so_by plan S t (Some x) g = g x refl

abbrev pub LineSo : {A : Type 0} → Plan → State A → WaitLine → Type 0
LineSo plan S l = is_so plan S l.thing l.cause ≡ true

pub request_so : {A : Type 0} (plan : Plan) (S : State A) (r : ℕ) (p : Place) → PlacesAgree S → place_of S.requests r ≡ p → IfThere (LineSo plan S) (request_line plan S r p)
request_so plan S r place.Owned k e = refl
request_so plan S r (place.Sent t) k e = refl
request_so plan S r (place.Queued q) k e = so_by plan S (thing.Queued (handle_in plan S r) (handle_in plan S q.0)) (queued_cause plan S q.0 r) (queued_so plan S q.0 r (waits_there S q r k e))
request_so plan S r (place.Returning q) k e = so_by plan S (thing.Returning (handle_in plan S r) (handle_in plan S q.0)) (returning_cause plan S q.0) (returning_so plan S q.0)
request_so plan S r (place.Closing s) k e = tt
request_so plan S r place.Done k e = tt
