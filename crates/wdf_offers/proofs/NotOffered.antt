-- What is not offered. Nothing is offered of an idle group. No start is offered at a place where no callback is due, or
-- on an object whose life doesn't let its callback start. No cleanup is offered of an object whose turn hasn't come.
use Rattle.std.proofs.Common.{if◌then◌else◌, Bool, true, false, not, ◌&&◌, ◌==◌, nat_lt, ℕ, zero, suc, ◌≡◌, ◌<◌, ◌≤◌, List, [], ◌∷◌, length, Option, Some, None, option_map, is_some, unwrap_or, slice_get, ◌||◌, refl, arith}
use Rattle.std.proofs.lemmas.Bool.{eqb-false, eqb-true, le-ltb, ltb-false}
use Rattle.std.specs.List.{list_all, list_any}
use Rattle.std.specs.Option.{option_and_then}
use Rattle.wdf_base.specs.Meaning.{Meaning}
use Rattle.wdf_base.specs.declared.plan.Plan.{Plan}
use Rattle.wdf_base.specs.declared.call.Callback.{Callback}
use Rattle.wdf_base.specs.declared.call.Callback.TheVariants as callback
use Rattle.wdf_base.specs.declared.declared.ExecutionLevel.{ExecutionLevel}
use Rattle.wdf_base.specs.declared.declared.ExecutionLevel.TheVariants as level
use Rattle.wdf_base.specs.declared.declared.QueueInfo.{QueueInfo}
use Rattle.wdf_base.specs.declared.event.Event.{Event}
use Rattle.wdf_base.specs.declared.event.Event.TheVariants as event
use Rattle.wdf_base.specs.declared.ids.Handle.{Handle}
use Rattle.wdf_base.specs.declared.object.Kind.{Kind}
use Rattle.wdf_base.specs.declared.object.Kind.TheVariants as kind
use Rattle.wdf_base.specs.declared.object.RequestForm.{RequestForm}
use Rattle.wdf_base.specs.declared.object.RequestForm.TheVariants as form
use Rattle.wdf_base.specs.declared.rank.Rank.{Rank}
use Rattle.wdf_base.specs.declared.rank.Rank.TheVariants as rank
use Rattle.wdf_base.specs.Places.{is_returning_to}
use Rattle.wdf_base.specs.Lives.{is_asked, is_cleaned, is_gone, is_past_cleanup}
use Rattle.wdf_base.specs.declared.object.Life.{Life}
use Rattle.wdf_base.specs.declared.object.Life.TheVariants as life
use Rattle.wdf_base.specs.Callbacks.{dpc_function}
use Rattle.wdf_model.proofs.Tests.{both_left, left_fails, not_true, right_fails}
use Rattle.wdf_model.specs.Ids.{cpu_of}
use Rattle.wdf_model.specs.declared.entries.Holding.{Holding}
use Rattle.wdf_model.specs.declared.entries.Node.{Node}
use Rattle.wdf_model.specs.declared.entries.Request.{Request}
use Rattle.wdf_model.specs.declared.entries.Sending.{Sending}
use Rattle.wdf_model.specs.declared.entries.Timed.{Timed}
use Rattle.wdf_model.specs.declared.enums.Group.{Group}
use Rattle.wdf_model.specs.declared.enums.Group.TheVariants as group
use Rattle.wdf_model.specs.Plans.{callback_irql, declares, handler_for, is_managed, irql_of_level, queue_level, queue_of, typed_handler}
use Rattle.wdf_model.specs.Tables.{contains, entry, first_of_list}
use Rattle.wdf_model.specs.State.{State, declared_in, declares_in, handle_in, is_held_from, is_proper, nothing_at}
use Rattle.wdf_model.specs.parts.Cpus.{Cpus, frame_of, irql, is_empty_cpu, level_of_top, nobody_on, stack_of}
use Rattle.wdf_model.specs.parts.Deferred.Dpcs.{dpc_head}
use Rattle.wdf_model.specs.parts.Deferred.Timers.{timer_due}
use Rattle.wdf_model.specs.parts.Locks.{is_free_if_any, lock_of_callback}
use Rattle.wdf_model.specs.parts.Power.{no_holding, resume_due, stop_was_asked}
use Rattle.wdf_model.specs.parts.Queues.{front}
use Rattle.wdf_model.specs.parts.Requests.{info_of, no_request}
use Rattle.wdf_model.specs.parts.Targets.{the_target}
use Rattle.wdf_model.specs.parts.Tree.{children, counts, kind_of, life_of, made_as, may_clean, nearest_device, node_of, parent_of, started, younger_siblings}
use Rattle.wdf_model.specs.rules.Groups.{callback_for, handler_start, if_there, start_at, starts, starts_for, unparks}
use Rattle.wdf_model.specs.rules.Starts.{clean_ready, is_finished, is_ready_for, is_unused, level_fits, life_fits, may_start}
use Rattle.wdf_model.specs.rules.Steps.{is_cpu, is_proper_if_any, may, wait_is_over}
use Rattle.wdf_base.specs.Callbacks.{row_of}
use Rattle.wdf_base.specs.Same.{same_callback, same_kind, same_option}
use Rattle.wdf_base.specs.declared.event.Step.{Step}
use Rattle.wdf_model.specs.Plans.{interrupt_of, is_manual_queue, script_on}
use Rattle.wdf_model.specs.State.{queue_delivers}
use Rattle.wdf_model.specs.Tables.{same_id}
use Rattle.wdf_model.specs.parts.Control.{notify_due}
use Rattle.wdf_model.specs.parts.Interrupts.{is_enabled}
use Rattle.wdf_model.specs.parts.Pnp.{steps_left}
use Rattle.wdf_model.specs.parts.Queues.{is_free, waiting_in}
use Rattle.wdf_model.specs.rules.Groups.{stage_of_step, start_of_step}
use Rattle.wdf_model.specs.rules.Starts.{line_is_up, presents, rank_ready_for}
use Rattle.wdf_offers.specs.Idle.{can_be_due, can_start_at, highest_level, is_due_at, is_idle, is_sending_due, is_timer_due, is_too_high, settles_next}
use Rattle.wdf_offers.specs.Parked.{all_blocked}
use Rattle.wdf_offers.specs.Search.{if_allowed, offered}
use Rattle.wdf_offers.proofs.ComingBack.{blocked_waits}

-- ---- conjunctions

-- one of two fails
data Fails (a b : Bool) : Type 0 where
  first : a ≡ false → Fails a b
  second : b ≡ false → Fails a b

one_fails : (a b : Bool) → not (a && b) ≡ true → Fails a b
one_fails true b h = second (not_true b h)
one_fails false b h = first refl

-- ---- levels

level_low : (l : ExecutionLevel) → irql_of_level l ≤ 2
level_low level.Passive = omega arith
level_low level.Dispatch = omega arith

queue_low_by : (q : Option QueueInfo) → unwrap_or (option_map (λ (i : QueueInfo). irql_of_level i.level) q) 0 ≤ 2
queue_low_by None = omega arith
queue_low_by (Some i) = level_low i.level

-- the callbacks of a queue run at DISPATCH_LEVEL at most
queue_low : (plan : Plan) (q : ℕ) → queue_level plan q ≤ 2
queue_low plan q = queue_low_by (queue_of plan q)

handler_level : (plan : Plan) (q : ℕ) (f : RequestForm) → callback_irql plan (typed_handler f) q ≤ 2
handler_level plan q form.Read = queue_low plan q
handler_level plan q _ = queue_low plan q

handler_low_by : (plan : Plan) (q : ℕ) (f : RequestForm) (c : Callback) (typed any : Bool)
    → (if typed then Some (typed_handler f) else if any then Some callback.EvtIoDefault else None) ≡ Some c → callback_irql plan c q ≤ 2
handler_low_by plan q f c true any h = let same : typed_handler f ≡ c = cc in rw (← same) (handler_level plan q f)
handler_low_by plan q f c false true h = let same : callback.EvtIoDefault ≡ c = cc in rw (← same) (queue_low plan q)
handler_low_by plan q f c false false h = absurd (let z : ⊥ = cc in z)

handler_low : (plan : Plan) (q : ℕ) (f : RequestForm) (c : Callback) → handler_for plan q f ≡ Some c → callback_irql plan c q ≤ 2
handler_low plan q f c h = handler_low_by plan q f c (declares plan (typed_handler f) q) (declares plan callback.EvtIoDefault q) h

typed_ranked : (f : RequestForm) → (row_of (typed_handler f)).rank ≡ rank.Handler
typed_ranked form.Read = refl
typed_ranked _ = refl

handler_ranked_by : (plan : Plan) (q : ℕ) (f : RequestForm) (c : Callback) (typed any : Bool)
    → (if typed then Some (typed_handler f) else if any then Some callback.EvtIoDefault else None) ≡ Some c → (row_of c).rank ≡ rank.Handler
handler_ranked_by plan q f c true any h = let same : typed_handler f ≡ c = cc in rw (← same) (typed_ranked f)
handler_ranked_by plan q f c false true h = let same : callback.EvtIoDefault ≡ c = cc in rw (← same) refl
handler_ranked_by plan q f c false false h = absurd (let z : ⊥ = cc in z)

-- a handler has the rank of handlers
pub handler_ranked : (plan : Plan) (q : ℕ) (f : RequestForm) (c : Callback) → handler_for plan q f ≡ Some c → (row_of c).rank ≡ rank.Handler
handler_ranked plan q f c h = handler_ranked_by plan q f c (declares plan (typed_handler f) q) (declares plan callback.EvtIoDefault q) h

-- and so do all callbacks for a request
pub for_low : (plan : Plan) (r : Rank) (o : ℕ) → callback_irql plan (callback_for r) o ≤ 2
for_low plan rank.Cancel q = queue_low plan q
for_low plan rank.CanceledOnQueue q = queue_low plan q
for_low plan rank.Stop q = queue_low plan q
for_low plan rank.Resume q = queue_low plan q
for_low plan _ o = omega arith

dpc_low : (plan : Plan) (k : Kind) (o : ℕ) → callback_irql plan (dpc_function k) o ≤ 2
dpc_low plan kind.Interrupt o = omega arith
dpc_low plan _ o = omega arith

pub empty_is_low : (C : Cpus) (fs : List ℕ) → (length fs == 0) ≡ true → level_of_top C (first_of_list fs) ≡ 0
empty_is_low C [] h = refl
empty_is_low C (f ∷ fs) h = let none = eqb-true (length (f ∷ fs)) 0 h in absurd (omega arith)

module _ {A : Type 0} (S : State A) (cpu bound level : ℕ) (low : level ≤ bound) where
  too_high_if : (empty : Bool) → is_empty_cpu S.cpus cpu ≡ empty → bound ≤ irql S.cpus cpu → 0 < bound → empty ≡ false
  too_high_if true e above some = let none = empty_is_low S.cpus (stack_of S.cpus cpu) e in absurd (omega arith)
  too_high_if false e above some = refl

  too_high_by : (none_allowed none : Bool) → (bound == 0) ≡ none_allowed → (level == 0) ≡ none
      → (if none_allowed then is_empty_cpu S.cpus cpu else nat_lt (irql S.cpus cpu) bound) ≡ false → (if none then is_empty_cpu S.cpus cpu else nat_lt (irql S.cpus cpu) level) ≡ false
  too_high_by true true e f h = h
  too_high_by true false e f h =
      let none = eqb-true bound 0 e in
      absurd (eqb-false level 0 f (omega arith))
  too_high_by false true e f h =
      let above = ltb-false (irql S.cpus cpu) bound h in
      too_high_if (is_empty_cpu S.cpus cpu) refl above (positive (eqb-false bound 0 e))
    where
      positive : (bound ≡ 0 → ⊥) → 0 < bound
      positive not_zero = omega (arith, not_zero)
  too_high_by false false e f h =
      let above = ltb-false (irql S.cpus cpu) bound h in
      le-ltb (irql S.cpus cpu) level (omega arith)

  -- where a level doesn't fit, no lower one does
  too_high : not (level_fits S cpu bound) ≡ true → level_fits S cpu level ≡ false
  too_high h = too_high_by (bound == 0) (level == 0) refl refl (not_true (level_fits S cpu bound) h)

-- ---- cleanups

-- no cleanup comes of an object whose turn hasn't come
pub not_its_turn : {A : Type 0} (S : State A) (o : ℕ) → may_clean S.tree o ≡ false → clean_ready S o ≡ false
not_its_turn S o h =
    left_fails (may_clean S.tree o && is_unused S o && is_finished S o) (nothing_at S o)
    (left_fails (may_clean S.tree o && is_unused S o) (is_finished S o) (left_fails (may_clean S.tree o) (is_unused S o) h))

-- ---- arrived requests

second_fails : (a b : Bool) → a ≡ true → (a && b) ≡ false → b ≡ false
second_fails true b e h = h
second_fails false b e h = absurd (let z : ⊥ = cc in z)

-- what is asked, or cleaned, is there
pub left_there : (l : Life) → is_asked l ≡ true → is_gone l ≡ false
left_there life.Gone h = absurd (let z : ⊥ = cc in z)
left_there _ h = refl

pub cleaned_there : (l : Life) → is_cleaned l ≡ true → is_gone l ≡ false
cleaned_there life.Gone h = absurd (let z : ⊥ = cc in z)
cleaned_there _ h = refl

pub in_turn : {A : Type 0} (S : State A) (o : ℕ) → may_clean S.tree o ≡ true → is_asked (life_of S.tree o) ≡ true
in_turn S o h =
    both_left (is_asked (life_of S.tree o)) (list_all (λ x. is_past_cleanup (life_of S.tree x)) (children S.tree o))
    (both_left (is_asked (life_of S.tree o) && list_all (λ x. is_past_cleanup (life_of S.tree x)) (children S.tree o))
    (not (is_asked (life_of S.tree (parent_of S.tree o))) || list_all (λ x. is_past_cleanup (life_of S.tree x)) (younger_siblings S.tree o)) h)

request_by : (plan : Plan) (c : Callback) (n : Node) (o : ℕ) (k : Kind) → same_kind k kind.Request ≡ true → is_some (script_on plan c (made_as plan n o k)) ≡ false
request_by plan c n o kind.Request h = refl
request_by plan c n o _ h = absurd (let z : ⊥ = cc in z)

is_request : (gone_is request : Bool) → gone_is ≡ false → (not gone_is && not request) ≡ false → request ≡ true
is_request false true e h = refl
is_request false false e h = absurd (let z : ⊥ = cc in z)
is_request true request e h = absurd (let z : ⊥ = cc in z)

-- what is there and doesn't count is an arrived request, which declares no callback
pub uncounted : {A : Type 0} (plan : Plan) (S : State A) (c : Callback) (o : ℕ) → is_gone (life_of S.tree o) ≡ false → counts (node_of S.tree o) ≡ false → declares_in plan S c o ≡ false
uncounted plan S c o there h = request_by plan c (node_of S.tree o) o (kind_of S.tree o) (is_request (is_gone (life_of S.tree o)) (same_kind (kind_of S.tree o) kind.Request) there h)

-- ---- starts

module _ {A : Type 0} (plan : Plan) (m : Meaning A) (S : State A) where
  not_allowed_by : (e : Event) (b : Bool) → b ≡ false → (if b then Some e else None) ≡ None
  not_allowed_by e true h = absurd (let z : ⊥ = cc in z)
  not_allowed_by e false h = refl

  -- an event that may not come isn't offered
  not_allowed : (e : Event) → may plan m S e ≡ false → if_allowed plan m S (Some e) ≡ None
  not_allowed e h = not_allowed_by e (may plan m S e) h

  pub not_mapped : {T : Type 0} (f : T → Event) (o : Option T) → ((x : T) → o ≡ Some x → if_allowed plan m S (Some (f x)) ≡ None) → if_allowed plan m S (option_map f o) ≡ None
  not_mapped f None h = refl
  not_mapped f (Some x) h = h x refl

  pub not_there : (b : Bool) (e : Event) → if_allowed plan m S (Some e) ≡ None → if_allowed plan m S (if_there b e) ≡ None
  not_there true e h = h
  not_there false e h = refl

  module _ (cpu : ℕ) (c : Callback) (o : ℕ) (r : Option Handle) where
    pub not_started : may_start plan m S cpu c o r ≡ false → if_allowed plan m S (Some (event.Start (cpu_of cpu) c (handle_in plan S o) r)) ≡ None
    not_started h =
        not_allowed (event.Start (cpu_of cpu) c (handle_in plan S o) r)
        (right_fails (is_cpu plan (cpu_of cpu) && is_proper plan S (handle_in plan S o) && is_proper_if_any plan S r) (may_start plan m S cpu c o r) h)

    -- no callback starts whose level is too high for its processor
    not_above : (bound : ℕ) → callback_irql plan c o ≤ bound → not (level_fits S cpu bound) ≡ true → if_allowed plan m S (Some (event.Start (cpu_of cpu) c (handle_in plan S o) r)) ≡ None
    not_above bound low h =
        not_started
        (left_fails (declares_in plan S c o && life_fits S c o && level_fits S cpu (callback_irql plan c o) && is_free_if_any S.locks (lock_of_callback plan c o (declared_in plan S o))) (is_ready_for plan m S cpu c o r)
        (left_fails (declares_in plan S c o && life_fits S c o && level_fits S cpu (callback_irql plan c o)) (is_free_if_any S.locks (lock_of_callback plan c o (declared_in plan S o)))
        (right_fails (declares_in plan S c o && life_fits S c o) (level_fits S cpu (callback_irql plan c o)) (too_high S cpu bound (callback_irql plan c o) low h))))

    -- nor on an object whose life doesn't fit
    not_alive : life_fits S c o ≡ false → if_allowed plan m S (Some (event.Start (cpu_of cpu) c (handle_in plan S o) r)) ≡ None
    not_alive h =
        not_started
        (left_fails (declares_in plan S c o && life_fits S c o && level_fits S cpu (callback_irql plan c o) && is_free_if_any S.locks (lock_of_callback plan c o (declared_in plan S o))) (is_ready_for plan m S cpu c o r)
        (left_fails (declares_in plan S c o && life_fits S c o && level_fits S cpu (callback_irql plan c o)) (is_free_if_any S.locks (lock_of_callback plan c o (declared_in plan S o)))
        (left_fails (declares_in plan S c o && life_fits S c o) (level_fits S cpu (callback_irql plan c o))
        (right_fails (declares_in plan S c o) (life_fits S c o) h))))

    -- nor one that the object doesn't declare
    not_declared : declares_in plan S c o ≡ false → if_allowed plan m S (Some (event.Start (cpu_of cpu) c (handle_in plan S o) r)) ≡ None
    not_declared h =
        not_started
        (left_fails (declares_in plan S c o && life_fits S c o && level_fits S cpu (callback_irql plan c o) && is_free_if_any S.locks (lock_of_callback plan c o (declared_in plan S o))) (is_ready_for plan m S cpu c o r)
        (left_fails (declares_in plan S c o && life_fits S c o && level_fits S cpu (callback_irql plan c o)) (is_free_if_any S.locks (lock_of_callback plan c o (declared_in plan S o)))
        (left_fails (declares_in plan S c o && life_fits S c o) (level_fits S cpu (callback_irql plan c o))
        (left_fails (declares_in plan S c o) (life_fits S c o) h))))

    -- nor one that isn't due
    pub not_ready : is_ready_for plan m S cpu c o r ≡ false → if_allowed plan m S (Some (event.Start (cpu_of cpu) c (handle_in plan S o) r)) ≡ None
    not_ready h =
        not_started
        (right_fails (declares_in plan S c o && life_fits S c o && level_fits S cpu (callback_irql plan c o) && is_free_if_any S.locks (lock_of_callback plan c o (declared_in plan S o))) (is_ready_for plan m S cpu c o r) h)

  no_handler_by : (cpu q : ℕ) (o : Option ℕ) → not (level_fits S cpu 2) ≡ true → if_allowed plan m S (option_and_then (handler_start plan S cpu q) o) ≡ None
  no_handler_by cpu q None h = refl
  no_handler_by cpu q (Some r) h =
      not_mapped (λ c. starts_for plan S cpu c q r) (handler_for plan q (info_of S.requests r).form)
      (λ c e. not_above cpu c q (Some (handle_in plan S r)) 2 (handler_low plan q (info_of S.requests r).form c e) h)

  -- on a processor that is too high for a rank none of its callbacks starts
  no_start : (cpu : ℕ) (r : Rank) (k : ℕ) → is_too_high S cpu (highest_level r) ≡ true → if_allowed plan m S (start_at plan S cpu r k) ≡ None
  no_start cpu rank.Isr k h = absurd (let z : ⊥ = cc in z)
  no_start cpu rank.Sequence k h = absurd (let z : ⊥ = cc in z)
  no_start cpu rank.Deferred k h =
      not_mapped (λ o. starts plan S cpu (dpc_function (kind_of S.tree o)) o) (dpc_head S.dpcs cpu)
      (λ o e. not_above cpu (dpc_function (kind_of S.tree o)) o None 2 (dpc_low plan (kind_of S.tree o) o) h)
  no_start cpu rank.Timed k h =
      not_mapped (λ (t : Timed). starts plan S cpu callback.EvtTimerFunc t.timer.0) (slice_get S.timers.queued k)
      (λ t e. not_above cpu callback.EvtTimerFunc t.timer.0 None 2 (omega arith) h)
  no_start cpu rank.QueueState k h = not_there (is_some (queue_of plan k)) (starts plan S cpu callback.EvtIoQueueState k) (not_above cpu callback.EvtIoQueueState k None 2 (queue_low plan k) h)
  no_start cpu rank.Handler k h = no_handler_by cpu k (front S.queues k) h
  no_start cpu rank.Work k h =
      not_mapped (λ o. starts plan S cpu callback.EvtWorkItem o) (slice_get S.work_items.queued k)
      (λ o e. not_above cpu callback.EvtWorkItem o None 0 (omega arith) h)
  no_start cpu rank.Cleanup k h = not_above cpu callback.EvtCleanupCallback k None 0 (omega arith) h
  no_start cpu rank.Destroy k h = not_above cpu callback.EvtDestroyCallback k None 0 (omega arith) h
  no_start cpu _ k h = refl

  -- ---- starts for requests

  no_sending_by : (cpu t : ℕ) (s : Option Sending) → is_sending_due plan S t s ≡ false → if_allowed plan m S (option_map (λ (x : Sending). starts_for plan S cpu callback.EvtRequestCompletion t x.request.0) s) ≡ None
  no_sending_by cpu t None h = refl
  no_sending_by cpu t (Some s) h = not_ready cpu callback.EvtRequestCompletion t (Some (handle_in plan S s.request.0)) h

  -- a place at which no callback is due offers nothing
  pub not_due : (cpu : ℕ) (r : Rank) (o k : ℕ) → is_due_at plan S r o k ≡ false → offered plan m S (group.StartsFor cpu r o) k ≡ None
  not_due cpu rank.Completion t k h = no_sending_by cpu t (slice_get (the_target S.targets t).sent k) h
  not_due cpu r o k h = not_ready cpu (callback_for r) o (Some (handle_in plan S k)) h

  -- no callback for a request starts whose level is too high
  pub too_high_for : (cpu : ℕ) (r : Rank) (o k bound : ℕ) → callback_irql plan (callback_for r) o ≤ bound → not (level_fits S cpu bound) ≡ true → offered plan m S (group.StartsFor cpu r o) k ≡ None
  too_high_for cpu rank.Completion t k bound low h =
      not_mapped (λ (s : Sending). starts_for plan S cpu callback.EvtRequestCompletion t s.request.0) (slice_get (the_target S.targets t).sent k)
      (λ s e. not_above cpu callback.EvtRequestCompletion t (Some (handle_in plan S s.request.0)) bound low h)
  too_high_for cpu r o k bound low h = not_above cpu (callback_for r) o (Some (handle_in plan S k)) bound low h

  -- where no entry passes, none that is looked up does
  entry_fails : {T : Type 0} (p : T → Bool) (blank : T) → p blank ≡ false → (all : List T) (k : ℕ) → list_any p all ≡ false → p (entry blank all k) ≡ false
  entry_fails p blank none [] k h = none
  entry_fails p blank none (x ∷ all) zero h = either_fails (p x) (list_any p all) h
    where
      either_fails : (a b : Bool) → (a || b) ≡ false → a ≡ false
      either_fails true b h = absurd (let z : ⊥ = cc in z)
      either_fails false b h = refl
  entry_fails p blank none (x ∷ all) (suc k) h = entry_fails p blank none all k (both_fail (p x) (list_any p all) h)
    where
      both_fail : (a b : Bool) → (a || b) ≡ false → b ≡ false
      both_fail true b h = absurd (let z : ⊥ = cc in z)
      both_fail false b h = h

  stops_none : (managed held asked settles : Bool) → (managed && settles) ≡ false → (managed && held && not asked && settles) ≡ false
  stops_none true held asked settles h = right_fails (held && not asked) settles h
  stops_none false held asked settles h = refl

  never_due : (cpu : ℕ) (r : Rank) (o k : ℕ) → can_be_due plan S r o ≡ false → offered plan m S (group.StartsFor cpu r o) k ≡ None
  never_due cpu rank.CanceledOnQueue q k h =
      not_due cpu rank.CanceledOnQueue q k (entry_fails (λ (r : Request). is_returning_to q r.place) no_request refl S.requests.all k h)
  never_due cpu rank.Stop q k h = not_due cpu rank.Stop q k (stops_none (is_managed plan q) (is_held_from S q k) (stop_was_asked S.power k) (settles_next S (nearest_device S.tree q)) h)
  never_due cpu rank.Resume q k h =
      not_due cpu rank.Resume q k
      (left_fails (resume_due S.power k) (is_held_from S q k) (entry_fails (λ (x : Holding). x.resume_due) no_holding refl S.power.holdings k h))
  never_due cpu _ o k h = absurd (let z : ⊥ = cc in z)

  no_start_for : (cpu : ℕ) (r : Rank) (o k : ℕ) → Fails (level_fits S cpu (callback_irql plan (callback_for r) o)) (can_be_due plan S r o) → offered plan m S (group.StartsFor cpu r o) k ≡ None
  no_start_for cpu r o k (first h) = too_high_for cpu r o k (callback_irql plan (callback_for r) o) (omega arith) (rw h refl)
  no_start_for cpu r o k (second h) = never_due cpu r o k h

  -- ---- groups

  no_unpark : (cpu k : ℕ) → (not (is_empty_cpu S.cpus cpu) || all_blocked S) ≡ true → offered plan m S (group.Unparks cpu) k ≡ None
  no_unpark cpu k h =
      not_mapped (unparks cpu) (slice_get S.cpus.parked k)
      (λ f e. not_allowed (unparks cpu f)
      (right_fails (is_cpu plan (cpu_of cpu)) (contains f S.cpus.parked && is_empty_cpu S.cpus cpu && wait_is_over S (frame_of S.cpus f).pending)
      (unpark_fails (contains f S.cpus.parked) (is_empty_cpu S.cpus cpu) (wait_is_over S (frame_of S.cpus f).pending) (all_blocked S) h (λ all. blocked_waits S k f all e))))
    where
      unpark_fails : (p e w b : Bool) → (not e || b) ≡ true → (b ≡ true → w ≡ false) → (p && e && w) ≡ false
      unpark_fails p true w b h waits = right_fails (p && true) w (waits h)
      unpark_fails p false w b h waits = left_fails (p && false) w (right_fails p false refl)

  -- of an idle group nothing may come
  pub idle_offers_none : (g : Group) (k : ℕ) → is_idle plan S g ≡ true → offered plan m S g k ≡ None
  idle_offers_none (group.Unparks cpu) k h = no_unpark cpu k h
  idle_offers_none (group.Starts cpu r) k h = no_start cpu r k h
  idle_offers_none (group.StartsFor cpu r o) k h = no_start_for cpu r o k (one_fails (level_fits S cpu (callback_irql plan (callback_for r) o)) (can_be_due plan S r o) h)
  idle_offers_none _ k h = absurd (let z : ⊥ = cc in z)

  -- ---- starts that one part rules out

  unfree : (c : Callback) (q r : ℕ) → is_free S.queues q ≡ false → presents plan S c q r ≡ false
  unfree c q r h =
      left_fails (not (is_manual_queue plan q) && queue_delivers plan S q && is_free S.queues q && same_id (front S.queues q) r) (same_option same_callback (handler_for plan q (info_of S.requests r).form) (Some c))
      (left_fails (not (is_manual_queue plan q) && queue_delivers plan S q && is_free S.queues q) (same_id (front S.queues q) r)
      (right_fails (not (is_manual_queue plan q) && queue_delivers plan S q) (is_free S.queues q) h))

  not_presented : (c : Callback) (q r : ℕ) → (row_of c).rank ≡ rank.Handler → is_free S.queues q ≡ false → rank_ready_for plan S (row_of c).rank c q r ≡ false
  not_presented c q r ranked h = rw ranked (unfree c q r h)

  none_waits : (n : ℕ) (b : Bool) → (suc n == 0) ≡ b → b ≡ false
  none_waits n true e = absurd (let zero_is = eqb-true (suc n) 0 e in omega arith)
  none_waits n false e = refl

  not_free_by : (empty free : Bool) → empty ≡ false → (not empty && free) ≡ false → free ≡ false
  not_free_by true free e h = absurd (let z : ⊥ = cc in z)
  not_free_by false free e h = h

  no_front_by : (cpu q : ℕ) (waiting : List ℕ) → (not (length waiting == 0) && is_free S.queues q) ≡ false → if_allowed plan m S (option_and_then (handler_start plan S cpu q) (first_of_list waiting)) ≡ None
  no_front_by cpu q [] h = refl
  no_front_by cpu q (r ∷ rest) h =
      let busy : is_free S.queues q ≡ false = not_free_by (length (r ∷ rest) == 0) (is_free S.queues q) (none_waits (length rest) (length (r ∷ rest) == 0) refl) h in
      not_mapped (λ c. starts_for plan S cpu c q r) (handler_for plan q (info_of S.requests r).form)
      (λ c e. not_ready cpu c q (Some (handle_in plan S r)) (not_presented c q r (handler_ranked plan q (info_of S.requests r).form c e) busy))

  no_step_by : (cpu d : ℕ) (left : List Step) → nat_lt 0 (length left) ≡ false → if_allowed plan m S (option_and_then (start_of_step plan S cpu d) (first_of_list left)) ≡ None
  no_step_by cpu d [] h = refl
  no_step_by cpu d (s ∷ left) h = absurd (let some = ltb-false 0 (length (s ∷ left)) h in omega arith)

  no_timer_by : (cpu : ℕ) (o : Option Timed) → is_timer_due S o ≡ false → if_allowed plan m S (option_map (λ (t : Timed). starts plan S cpu callback.EvtTimerFunc t.timer.0) o) ≡ None
  no_timer_by cpu None h = refl
  no_timer_by cpu (Some t) h = not_ready cpu callback.EvtTimerFunc t.timer.0 None (left_fails (timer_due S.timers t.timer.0 S.clock) (nobody_on S.cpus t.timer.0) h)

  -- no cleanup callback starts on an object whose turn hasn't come, no destroy callback on one that isn't cleaned, and neither
  -- on an arrived request
  no_cleanup_start : (cpu o : ℕ) (b : Bool) → may_clean S.tree o ≡ b → (may_clean S.tree o && counts (node_of S.tree o)) ≡ false → offered plan m S (group.Starts cpu rank.Cleanup) o ≡ None
  no_cleanup_start cpu o false e h = not_ready cpu callback.EvtCleanupCallback o None (left_fails (clean_ready S o) (not (started S.tree o callback.EvtCleanupCallback)) (not_its_turn S o e))
  no_cleanup_start cpu o true e h = not_declared cpu callback.EvtCleanupCallback o None (uncounted plan S callback.EvtCleanupCallback o (left_there (life_of S.tree o) (in_turn S o e)) (second_fails (may_clean S.tree o) (counts (node_of S.tree o)) e h))

  no_destroy_start : (cpu o : ℕ) (b : Bool) → is_cleaned (life_of S.tree o) ≡ b → (is_cleaned (life_of S.tree o) && counts (node_of S.tree o)) ≡ false → offered plan m S (group.Starts cpu rank.Destroy) o ≡ None
  no_destroy_start cpu o false e h = not_alive cpu callback.EvtDestroyCallback o None e
  no_destroy_start cpu o true e h =
      not_declared cpu callback.EvtDestroyCallback o None
      (uncounted plan S callback.EvtDestroyCallback o (cleaned_there (life_of S.tree o) e) (second_fails (is_cleaned (life_of S.tree o)) (counts (node_of S.tree o)) e h))

  -- no callback starts where one part rules it out
  pub cannot_start : (cpu : ℕ) (r : Rank) (k : ℕ) → can_start_at S r k ≡ false → offered plan m S (group.Starts cpu r) k ≡ None
  cannot_start cpu rank.Isr k h =
      not_there (is_some (interrupt_of plan k)) (starts plan S cpu callback.EvtInterruptIsr k)
      (not_ready cpu callback.EvtInterruptIsr k None (right_fails (line_is_up plan m S k) (is_enabled S.interrupts k) h))
  cannot_start cpu rank.QueueState k h =
      not_there (is_some (queue_of plan k)) (starts plan S cpu callback.EvtIoQueueState k)
      (not_ready cpu callback.EvtIoQueueState k None (left_fails (notify_due S.control k) (queue_delivers plan S k) h))
  cannot_start cpu rank.Handler k h = no_front_by cpu k (waiting_in S.queues k) h
  cannot_start cpu rank.Sequence k h = no_step_by cpu k (steps_left S.pnp k) h
  cannot_start cpu rank.Timed k h = no_timer_by cpu (slice_get S.timers.queued k) h
  cannot_start cpu rank.Cleanup o h = no_cleanup_start cpu o (may_clean S.tree o) refl h
  cannot_start cpu rank.Destroy o h = no_destroy_start cpu o (is_cleaned (life_of S.tree o)) refl h
  cannot_start cpu _ k h = absurd (let z : ⊥ = cc in z)

  no_stage_by : (d : ℕ) (left : List Step) → nat_lt 0 (length left) ≡ false → if_allowed plan m S (option_and_then (stage_of_step plan S d) (first_of_list left)) ≡ None
  no_stage_by d [] h = refl
  no_stage_by d (s ∷ left) h = absurd (let some = ltb-false 0 (length (s ∷ left)) h in omega arith)

  -- no stage comes of a device without a step left
  pub no_stage : (d : ℕ) → can_start_at S rank.Sequence d ≡ false → offered plan m S group.Stages d ≡ None
  no_stage d h = no_stage_by d (steps_left S.pnp d) h
