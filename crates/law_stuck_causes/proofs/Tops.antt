-- A frame on a processor, or parked in a call, always has a cause; the top one waits in a call.
use Rattle.std.proofs.Common.{◌≡◌, inl, ℕ, zero, suc, ◌+◌, ◌==◌, ◌<◌, Bool, true, false, not, ◌||◌, List, [], ◌∷◌, ◌++◌, Option, Some, None, is_some, filter, length, refl, sym, ap, ◌∙◌, arith, take_while, nat_lt, inr, option_map}
use Rattle.std.specs.List.{flat_map, list_any, range_with_len, list_all}
use Rattle.std.proofs.lemmas.Bool.Decides.{nat_tests}
use Rattle.std.proofs.lemmas.Bool.{or_cases}
use Rattle.wdf_base.specs.Meaning.{Meaning}
use Rattle.wdf_base.specs.declared.plan.Plan.{Plan}
use Rattle.wdf_base.specs.declared.object.Place.{Place}
use Rattle.law_stuck_causes.specs.Caused.{is_running, is_waiting_parked}
use Rattle.wdf_base.specs.declared.call.Arg.{Arg}
use Rattle.wdf_base.specs.declared.call.CallKind.{CallKind}
use Rattle.wdf_base.specs.declared.call.CallKind.TheVariants as call
use Rattle.wdf_base.specs.declared.event.Event.{Event}
use Rattle.wdf_base.specs.declared.event.Event.TheVariants as event
use Rattle.wdf_base.specs.declared.event.Ending.TheVariants as ending
use Rattle.wdf_base.specs.declared.frame.Pending.{Pending}
use Rattle.wdf_base.specs.declared.wait.Cause.TheVariants as cause
use Rattle.wdf_base.specs.Places.{is_returning_to, is_sent_to}
use Rattle.wdf_model.specs.Ids.{cpu_of, frame_id}
use Rattle.wdf_model.specs.declared.entries.Request.{Request}
use Rattle.wdf_model.specs.declared.enums.Group.TheVariants as group
use Rattle.wdf_model.specs.Tables.{contains, entry, first_of_list, ids_of}
use Rattle.wdf_model.specs.parts.Cpus.{is_empty_cpu, all_frames, frame_of, is_on, stack_of, top}
use Rattle.wdf_model.specs.parts.Locks.{hold_of, holder, is_free_lock, object_lock}
use Rattle.wdf_model.specs.parts.Requests.{no_request, place_of}
use Rattle.wdf_model.specs.parts.Queues.{held_count, is_empty_queue, waiting_in}
use Rattle.wdf_model.specs.parts.Cpus.{nobody_on}
use Rattle.wdf_model.specs.parts.Deferred.Timers.{any_later_timer}
use Rattle.wdf_model.specs.parts.Deferred.WorkItems.{is_work_queued}
use Rattle.wdf_model.specs.State.{State, handle_in, held_from, nothing_at, object_in}
use Rattle.wdf_model.specs.rules.Calls.{is_met, nothing_held, nothing_returns}
use Rattle.wdf_model.specs.rules.Faults.{fault_of}
use Rattle.wdf_base.specs.Values.{arg_is}
use Rattle.wdf_model.specs.rules.Groups.{unparks, candidates, candidate}
use Rattle.wdf_model.specs.rules.Ready.{IsRunOf, any_spends, ending_of, state_after}
use Rattle.wdf_model.specs.rules.Script.{intent_of}
use Rattle.wdf_model.specs.rules.Steps.{may_unpark, wait_is_over, event_of_frame, fault_event, may, own_event, spends, view_of, waits_on, woken_event}
use Rattle.wdf_model.specs.rules.Waits.{above_in, by_frame, by_frame_on, by_lock, by_request, call_cause, cause_if, frame_cause, frames_above, parked_for_cpu, pending_cause, requests_where}
use Rattle.wdf_model.proofs.Tests.{all_three, both, both_left, both_right, either_false, first, second}
use Rattle.law_machine_own.proofs.MayCome.{own_may}
use Rattle.law_machine_counts.proofs.Holding.{HoldsIn}
use Rattle.law_machine_counts.proofs.HeldOverRuns.{holds_at_each, held_number}
use Rattle.law_stuck_causes.proofs.Members.{Has, at_of, has_back, has_front, has_range, no_entry, none_passes}
use Rattle.law_stuck_causes.proofs.Endings.{AtRest, at_rest, at_the_end, may_not}
use Rattle.law_stuck_causes.proofs.Gives.{any_has}
use Rattle.law_stuck_causes.proofs.Forms.{while_on}
use Rattle.law_stuck_causes.proofs.Needs.{below_cpus, cpu_group, free_hold, free_one, front_none, none_first, none_if, none_least, none_map, none_there, placed_at, some_or}

-- what a processor would do next may not come
own_waits : {A : Type 0} (plan : Plan) (m : Meaning A) (S : State A) → AtRest plan m S true → (cpu : ℕ) (e : Event) → cpu < plan.cpus → own_event plan m S cpu ≡ Some e → ⊥
own_waits plan m S rest cpu e low own =
    let comes : may plan m S e ≡ true = own_may plan m S cpu e own in
    let offered : Has e (candidates plan m S) = cpu_group plan m S cpu (group.OwnEvent cpu) e low (inl refl) (placed_at plan m S (group.OwnEvent cpu) 1 0 e (omega arith) own) in
    let no : may plan m S e ≡ false = may_not plan m S true e rest offered in
    let z : ⊥ = cc in z

-- ---- the top frame

first_in : (xs : List ℕ) (f : ℕ) → first_of_list xs ≡ Some f → Has f xs
first_in [] f h = absurd (let z : ⊥ = cc in z)
first_in (x ∷ xs) f h = inl (let s : f ≡ x = cc in s)

stack_in : (stacks : List (List ℕ)) (cpu f : ℕ) → Has f (entry [] stacks cpu) → Has f (flat_map (λ fs. fs) stacks)
stack_in [] cpu f h = absurd h
stack_in (s ∷ stacks) zero f h = has_front f s (flat_map (λ fs. fs) stacks) h
stack_in (s ∷ stacks) (suc cpu) f h = has_back f s (flat_map (λ fs. fs) stacks) (stack_in stacks cpu f h)

pub top_there : {A : Type 0} (S : State A) (cpu f : ℕ) → top S.cpus cpu ≡ Some f → Has f (all_frames S.cpus)
top_there S cpu f h = has_front f (flat_map (λ fs. fs) S.cpus.stacks) S.cpus.parked (stack_in S.cpus.stacks cpu f (first_in (stack_of S.cpus cpu) f h))

woken : {A : Type 0} (S : State A) (cpu : ℕ) (p : Pending) → is_met S p.call ≡ true → woken_event S cpu p ≡ Some (event.Woke (cpu_of cpu) p.call p.answer)
woken S cpu p e = rw e refl

met_by : {A : Type 0} (plan : Plan) (m : Meaning A) (S : State A) → AtRest plan m S true → (cpu : ℕ) (p : Pending) → cpu < plan.cpus → own_event plan m S cpu ≡ woken_event S cpu p → (b : Bool) → is_met S p.call ≡ b → not (is_met S p.call) ≡ true
met_by plan m S rest cpu p low own false e = rw e refl
met_by plan m S rest cpu p low own true e =
    let own_is : own_event plan m S cpu ≡ Some (event.Woke (cpu_of cpu) p.call p.answer) = own ∙ woken S cpu p e in
    absurd (own_waits plan m S rest cpu (event.Woke (cpu_of cpu) p.call p.answer) low own_is)

pending_waits : {A : Type 0} (plan : Plan) (m : Meaning A) (S : State A) → AtRest plan m S true → (cpu f : ℕ) → cpu < plan.cpus → (p : Option Pending) → own_event plan m S cpu ≡ event_of_frame plan m S cpu f (frame_of S.cpus f) p → waits_on S p ≡ true
pending_waits plan m S rest cpu f low None own =
    absurd (own_waits plan m S rest cpu (fault_event plan m S cpu f (frame_of S.cpus f) (intent_of plan (frame_of S.cpus f)) (fault_of (view_of plan S cpu f) (intent_of plan (frame_of S.cpus f)))) low own)
pending_waits plan m S rest cpu f low (Some p) own = met_by plan m S rest cpu p low own (is_met S p.call) refl

spends_by : {A : Type 0} (plan : Plan) (m : Meaning A) (S : State A) → AtRest plan m S true → (cpu f : ℕ) → cpu < plan.cpus → top S.cpus cpu ≡ Some f → (b : Bool) → spends S (frame_of S.cpus f) ≡ b → waits_on S (frame_of S.cpus f).pending ≡ true
spends_by plan m S rest cpu f low at true e =
    let some : any_spends S ≡ true = any_has (λ g. spends S (frame_of S.cpus g)) f (all_frames S.cpus) (top_there S cpu f at) e in
    let none : any_spends S ≡ false = (either_false (any_spends S) (any_later_timer S.timers S.clock) (either_false (any_spends S || any_later_timer S.timers S.clock) (list_any (λ a. is_some (m.next a)) S.agents) rest.untimed).0).0 in
    absurd (let z : ⊥ = cc in z)
spends_by plan m S rest cpu f low at false e = pending_waits plan m S rest cpu f low (frame_of S.cpus f).pending (rw (at, e) refl)

pub top_waits : {A : Type 0} (plan : Plan) (m : Meaning A) (S : State A) → AtRest plan m S true → (cpu f : ℕ) → cpu < plan.cpus → top S.cpus cpu ≡ Some f → waits_on S (frame_of S.cpus f).pending ≡ true
top_waits plan m S rest cpu f low at = spends_by plan m S rest cpu f low at (spends S (frame_of S.cpus f)) refl

pub top_frames_wait : {A : Type 0} (plan : Plan) (m : Meaning A) (run : List Event) → IsRunOf plan m run → ending_of plan m run ≡ ending.Stuck → (cpu f : ℕ) → cpu < plan.cpus → top (state_after plan m run).cpus cpu ≡ Some f
    → waits_on (state_after plan m run) (frame_of (state_after plan m run).cpus f).pending ≡ true
top_frames_wait plan m run is_run ends cpu f low at = top_waits plan m (state_after plan m run) (at_rest plan m run true ends) cpu f low at

-- ---- what it waits for is named

pub held_now : {A : Type 0} (plan : Plan) (m : Meaning A) (run : List Event) → IsRunOf plan m run → (q : ℕ) → held_count (state_after plan m run).queues q ≡ length (held_from (state_after plan m run) q)
held_now plan m run is_run = held_number plan (state_after plan m run) (at_the_end plan m (λ S. HoldsIn plan S) run (holds_at_each plan m run is_run))

none_at : {A : Type 0} (S : State A) (test : Place → Bool) → requests_where S test ≡ [] → list_any (λ (r : Request). test r.place) S.requests.all ≡ false
none_at S test e =
    no_entry no_request (λ (r : Request). test r.place) S.requests.all
    (λ r low. none_passes (λ x. test (place_of S.requests x)) (ids_of S.requests.all) e r (has_range r 0 (length S.requests.all) (omega arith) (omega arith)))

none_held : {A : Type 0} (S : State A) (q : ℕ) → held_count S.queues q ≡ length (held_from S q) → held_from S q ≡ [] → nothing_held S q ≡ true
none_held S q held e = let zero_held : held_count S.queues q ≡ 0 = held ∙ ap length e in rw zero_held refl

lock_free : {A : Type 0} (plan : Plan) (S : State A) (o : ℕ) → by_lock plan S o ≡ None → is_free_lock S.locks (object_lock o) ≡ true
lock_free plan S o h = free_hold (hold_of S.locks (object_lock o)) (none_map (λ g. cause.ByLock (handle_in plan S o) (frame_id g)) (holder S.locks (object_lock o)) h)

requests_gone : {A : Type 0} (plan : Plan) (S : State A) (rs : List ℕ) → by_request plan S rs ≡ None → rs ≡ []
requests_gone plan S rs h = none_least (λ r. cause.ByRequest (handle_in plan S r)) rs h

frames_gone : {A : Type 0} (S : State A) (o : ℕ) → by_frame_on S o ≡ None → nobody_on S.cpus o ≡ true
frames_gone S o h = none_there S o (none_least (λ f. cause.ByFrame (frame_id f)) (filter (is_on S.cpus o) (all_frames S.cpus)) h)

-- a call for which nothing is named doesn't wait
call_over : {A : Type 0} (plan : Plan) (S : State A) → ((q : ℕ) → held_count S.queues q ≡ length (held_from S q)) → (k : CallKind) (n : ℕ) (a b d : Arg)
    → call_cause plan S (record { kind = k; count = n; a = a; b = b; c = d }) ≡ None → is_met S (record { kind = k; count = n; a = a; b = b; c = d }) ≡ true
call_over plan S held call.WdfSpinLockAcquire n a b d h = lock_free plan S (object_in a) h
call_over plan S held call.WdfWaitLockAcquire n a b d h = lock_free plan S (object_in a) h
call_over plan S held call.WdfInterruptAcquireLock n a b d h = lock_free plan S (object_in a) h
call_over plan S held call.WdfIoQueueStopSynchronously n a b d h = none_held S (object_in a) (held (object_in a)) (requests_gone plan S (held_from S (object_in a)) h)
call_over plan S held call.WdfIoQueueDrainSynchronously n a b d h =
    let parts = front_none (held_from S (object_in a)) (waiting_in S.queues (object_in a)) (requests_gone plan S (held_from S (object_in a) ++ waiting_in S.queues (object_in a)) h) in
    both (nothing_held S (object_in a)) (is_empty_queue S.queues (object_in a)) (none_held S (object_in a) (held (object_in a)) parts.0) (rw parts.1 refl)
call_over plan S held call.WdfIoQueuePurgeSynchronously n a b d h =
    let parts = front_none (held_from S (object_in a)) (requests_where S (is_returning_to (object_in a))) (requests_gone plan S (held_from S (object_in a) ++ requests_where S (is_returning_to (object_in a))) h) in
    both (nothing_held S (object_in a)) (nothing_returns S (object_in a)) (none_held S (object_in a) (held (object_in a)) parts.0) (ap not (none_at S (is_returning_to (object_in a)) parts.1))
call_over plan S held call.WdfIoTargetStop n a b d h =
    second (arg_is b 2) (nothing_at S (object_in a)) (ap not (none_at S (is_sent_to (object_in a)) (requests_gone plan S (requests_where S (is_sent_to (object_in a))) h)))
call_over plan S held call.WdfDpcCancel n a b d h = second (arg_is b 0) (nobody_on S.cpus (object_in a)) (frames_gone S (object_in a) h)
call_over plan S held call.WdfTimerStop n a b d h = second (arg_is b 0) (nobody_on S.cpus (object_in a)) (frames_gone S (object_in a) h)
call_over plan S held call.WdfWorkItemFlush n a b d h =
    let one = none_first (by_frame_on S (object_in a)) (cause_if (is_work_queued S.work_items (object_in a)) (cause.ByWork (handle_in plan S (object_in a))) ∷ []) h in
    let queued = none_if (is_work_queued S.work_items (object_in a)) (cause.ByWork (handle_in plan S (object_in a))) (none_first (cause_if (is_work_queued S.work_items (object_in a)) (cause.ByWork (handle_in plan S (object_in a)))) [] one.1).0 in
    both (not (is_work_queued S.work_items (object_in a))) (nobody_on S.cpus (object_in a)) (ap not queued) (frames_gone S (object_in a) one.0)
call_over plan S held _ n a b d h = refl

both_ways : (b : Bool) → b ≡ true → not b ≡ true → ⊥
both_ways true h k = let z : ⊥ = cc in z
both_ways false h k = let z : ⊥ = cc in z

pending_named : {A : Type 0} (plan : Plan) (S : State A) → ((q : ℕ) → held_count S.queues q ≡ length (held_from S q)) → (p : Option Pending) → waits_on S p ≡ true → pending_cause plan S p ≡ None → ⊥
pending_named plan S held None h e = let z : ⊥ = cc in z
pending_named plan S held (Some p) h e = both_ways (is_met S p.call) (call_over plan S held p.call.kind p.call.count p.call.a p.call.b p.call.c e) h

-- where some id passes, one does
record Found (p : ℕ → Bool) (a n : ℕ) : Type 0 where
  place : ℕ
  low : place < a + n
  passes : p place ≡ true

found_by : (p : ℕ → Bool) (a n : ℕ) (b : Bool) → p a ≡ b → list_any p (range_with_len a (suc n)) ≡ true → (list_any p (range_with_len (a + 1) n) ≡ true → Found p (a + 1) n) → Found p a (suc n)
found_by p a n true e h rest = record { place = a; low = omega arith; passes = e }
found_by p a n false e h rest = let found = rest (rw e at h) in record { place = found.place; low = let less : found.place < (a + 1) + n = found.low in omega arith; passes = found.passes }

found : (p : ℕ → Bool) (a n : ℕ) → list_any p (range_with_len a n) ≡ true → Found p a n
found p a zero h = absurd (let z : ⊥ = cc in z)
found p a (suc n) h = found_by p a n (p a) refl h (found p (a + 1) n)

-- ---- frames on a processor

front_alone : (f x : ℕ) (xs : List ℕ) (b : Bool) → (x == f) ≡ b → contains f (x ∷ xs) ≡ true → above_in f (x ∷ xs) ≡ [] → x ≡ f
front_alone f x xs true e h k = grind (arith, nat_tests)
front_alone f x xs false e h k =
    let all : take_while (λ g. not (g == f)) (x ∷ xs) ≡ [] = rw h at k in
    let more : x ∷ take_while (λ g. not (g == f)) xs ≡ [] = sym (while_on f x xs e) ∙ all in
    absurd (let z : ⊥ = cc in z)

top_of : (f : ℕ) (xs : List ℕ) → contains f xs ≡ true → above_in f xs ≡ [] → first_of_list xs ≡ Some f
top_of f [] h k = absurd (let z : ⊥ = cc in z)
top_of f (x ∷ xs) h k = ap Some (front_alone f x xs (x == f) refl h k)

none_above : (f : ℕ) (stacks : List (List ℕ)) (cpu : ℕ) → flat_map (above_in f) stacks ≡ [] → above_in f (entry [] stacks cpu) ≡ []
none_above f [] cpu h = refl
none_above f (s ∷ stacks) zero h = (front_none (above_in f s) (flat_map (above_in f) stacks) h).0
none_above f (s ∷ stacks) (suc cpu) h = none_above f stacks cpu (front_none (above_in f s) (flat_map (above_in f) stacks) h).1

running_named : {A : Type 0} (plan : Plan) (m : Meaning A) (S : State A) → AtRest plan m S true → ((q : ℕ) → held_count S.queues q ≡ length (held_from S q)) → (f : ℕ) → is_running plan S f ≡ true → frame_cause plan S f ≡ None → ⊥
running_named plan m S rest held f h none =
    let at = found (λ cpu. contains f (stack_of S.cpus cpu)) 0 plan.cpus h in
    let low : at.place < 0 + plan.cpus = at.low in
    let one = none_first (by_frame (frames_above S f)) (pending_cause plan S (frame_of S.cpus f).pending ∷ cause_if (parked_for_cpu plan S f) cause.NoCpu ∷ []) none in
    let alone : frames_above S f ≡ [] = none_least (λ g. cause.ByFrame (frame_id g)) (frames_above S f) one.0 in
    let on_top : top S.cpus at.place ≡ Some f = top_of f (stack_of S.cpus at.place) at.passes (none_above f S.cpus.stacks at.place alone) in
    pending_named plan S held (frame_of S.cpus f).pending (top_waits plan m S rest at.place f (omega arith) on_top)
    (none_first (pending_cause plan S (frame_of S.cpus f).pending) (cause_if (parked_for_cpu plan S f) cause.NoCpu ∷ []) one.1).0

-- ---- parked frames

unpark_waits : {A : Type 0} (plan : Plan) (m : Meaning A) (S : State A) → AtRest plan m S true → (f cpu : ℕ) → cpu < plan.cpus → contains f S.cpus.parked ≡ true → is_empty_cpu S.cpus cpu ≡ true → wait_is_over S (frame_of S.cpus f).pending ≡ true → ⊥
unpark_waits plan m S rest f cpu low parked empty over =
    let e : Event = event.Unpark (cpu_of cpu) (record { 0 = f }) in
    let at = at_of f S.cpus.parked parked in
    let here : candidate plan m S (group.Unparks cpu) at.place ≡ Some e = ap (λ o. option_map (unparks cpu) o) at.is in
    let offered : Has e (candidates plan m S) = cpu_group plan m S cpu (group.Unparks cpu) e low (inr (inr (inl refl))) (placed_at plan m S (group.Unparks cpu) (length S.cpus.parked) at.place e at.low here) in
    let no : may plan m S e ≡ false = may_not plan m S true e rest offered in
    let comes : may plan m S e ≡ true =
    both (nat_lt cpu plan.cpus) (may_unpark S cpu f) (below_cpus cpu plan.cpus low) (all_three (contains f S.cpus.parked) (is_empty_cpu S.cpus cpu) (wait_is_over S (frame_of S.cpus f).pending) parked empty over) in
    both_ways (may plan m S e) comes (ap not no)

not_full : {A : Type 0} (plan : Plan) (m : Meaning A) (S : State A) → AtRest plan m S true → (f : ℕ) → contains f S.cpus.parked ≡ true → wait_is_over S (frame_of S.cpus f).pending ≡ true → parked_for_cpu plan S f ≡ false → ⊥
not_full plan m S rest f parked over h =
    let full : list_all (λ cpu. not (is_empty_cpu S.cpus cpu)) (range_with_len 0 plan.cpus) ≡ false = rw (parked, over) at h in
    let free = free_one (is_empty_cpu S.cpus) 0 plan.cpus full in
    let low : free.0 < 0 + plan.cpus = free.1 in
    unpark_waits plan m S rest f free.0 (omega arith) parked free.2 over

parked_by : {A : Type 0} (plan : Plan) (m : Meaning A) (S : State A) → AtRest plan m S true → ((q : ℕ) → held_count S.queues q ≡ length (held_from S q)) → (f : ℕ) (p : Option Pending) (b : Bool) → (frame_of S.cpus f).pending ≡ p → wait_is_over S p ≡ b
    → contains f S.cpus.parked ≡ true → is_some p ≡ true → pending_cause plan S p ≡ None → parked_for_cpu plan S f ≡ false → ⊥
parked_by plan m S rest held f None b e k parked is none full = let z : ⊥ = cc in z
parked_by plan m S rest held f (Some p) true e k parked is none full = not_full plan m S rest f parked (rw e k) full
parked_by plan m S rest held f (Some p) false e k parked is none full = pending_named plan S held (Some p) (ap not k) none

parked_named : {A : Type 0} (plan : Plan) (m : Meaning A) (S : State A) → AtRest plan m S true → ((q : ℕ) → held_count S.queues q ≡ length (held_from S q)) → (f : ℕ) → is_waiting_parked S f ≡ true → frame_cause plan S f ≡ None → ⊥
parked_named plan m S rest held f h none =
    let one = none_first (by_frame (frames_above S f)) (pending_cause plan S (frame_of S.cpus f).pending ∷ cause_if (parked_for_cpu plan S f) cause.NoCpu ∷ []) none in
    let both = none_first (pending_cause plan S (frame_of S.cpus f).pending) (cause_if (parked_for_cpu plan S f) cause.NoCpu ∷ []) one.1 in
    let last = none_first (cause_if (parked_for_cpu plan S f) cause.NoCpu) [] both.1 in
    parked_by plan m S rest held f (frame_of S.cpus f).pending (wait_is_over S (frame_of S.cpus f).pending) refl refl
    (both_left (contains f S.cpus.parked) (is_some (frame_of S.cpus f).pending) h) (both_right (contains f S.cpus.parked) (is_some (frame_of S.cpus f).pending) h) both.0 (none_if (parked_for_cpu plan S f) cause.NoCpu last.0)

pub frame_named : {A : Type 0} (plan : Plan) (m : Meaning A) (S : State A) → AtRest plan m S true → ((q : ℕ) → held_count S.queues q ≡ length (held_from S q)) → (f : ℕ) → (is_running plan S f || is_waiting_parked S f) ≡ true
    → is_some (frame_cause plan S f) ≡ true
frame_named plan m S rest held f h =
    some_or (frame_cause plan S f)
    (λ none. elim (or_cases (is_running plan S f) (is_waiting_parked S f) h) as (λ _. ⊥) [
      | inl k ↦ running_named plan m S rest held f k none
      | inr k ↦ parked_named plan m S rest held f k none
    ])

pub one_running : {A : Type 0} (plan : Plan) (S : State A) (cpu f : ℕ) → cpu < plan.cpus → contains f (stack_of S.cpus cpu) ≡ true → (is_running plan S f || is_waiting_parked S f) ≡ true
one_running plan S cpu f low at =
    first (is_running plan S f) (is_waiting_parked S f)
    (any_has (λ x. contains f (stack_of S.cpus x)) cpu (range_with_len 0 plan.cpus) (has_range cpu 0 plan.cpus (omega arith) (omega arith)) at)

pub one_parked : {A : Type 0} (plan : Plan) (S : State A) (f : ℕ) → contains f S.cpus.parked ≡ true → is_some (frame_of S.cpus f).pending ≡ true → (is_running plan S f || is_waiting_parked S f) ≡ true
one_parked plan S f at waits = second (is_running plan S f) (is_waiting_parked S f) (both (contains f S.cpus.parked) (is_some (frame_of S.cpus f).pending) at waits)
