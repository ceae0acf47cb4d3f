-- No earlier cause of a row is so.
use Rattle.std.proofs.Common.{if◌then◌else◌, ◌≡◌, ℕ, ◌≤◌, ◌==◌, Bool, true, false, not, ◌&&◌, ◌||◌, List, [], ◌∷◌, Option, Some, None, filter, count_by, refl, ap, ◌∙◌, subst, arith}
use Rattle.std.specs.Prelude.{option_map}
use Rattle.wdf_base.specs.declared.plan.Plan.{Plan}
use Rattle.wdf_base.specs.declared.ids.ObjectId.{ObjectId}
use Rattle.wdf_base.specs.declared.object.Place.{Place}
use Rattle.wdf_base.specs.declared.object.Place.TheVariants as place
use Rattle.wdf_base.specs.declared.call.Callback.{Callback}
use Rattle.wdf_base.specs.declared.call.Callback.TheVariants as callback
use Rattle.wdf_base.specs.declared.wait.Cause.{Cause}
use Rattle.wdf_base.specs.declared.wait.Cause.TheVariants as cause
use Rattle.wdf_base.specs.declared.wait.OpenThing.TheVariants as thing
use Rattle.wdf_base.specs.declared.wait.WaitLine.{WaitLine}
use Rattle.wdf_base.specs.Callbacks.{dpc_function}
use Rattle.wdf_base.specs.Places.{is_queued_in}
use Rattle.wdf_model.specs.Ids.{frame_id}
use Rattle.wdf_model.specs.Tables.{flag, least}
use Rattle.wdf_model.specs.Plans.{is_managed, is_manual_queue, queue_level}
use Rattle.wdf_model.specs.parts.Tree.{kind_of}
use Rattle.wdf_model.specs.parts.Cpus.{all_frames, is_on}
use Rattle.wdf_model.specs.parts.Locks.{is_free_if_any, scope_of}
use Rattle.wdf_model.specs.parts.Requests.{place_of}
use Rattle.wdf_model.specs.parts.Queues.{is_free, waiting_in}
use Rattle.wdf_model.specs.parts.Control.{delivers_in, mode_of}
use Rattle.wdf_model.specs.parts.Pnp.{next_step, running_step}
use Rattle.wdf_model.specs.parts.Deferred.Dpcs.{is_dpc_queued}
use Rattle.wdf_model.specs.parts.Deferred.WorkItems.{is_work_queued}
use Rattle.wdf_base.specs.declared.event.Step.{Step}
use Rattle.wdf_model.specs.State.{State, declared_in, handle_in, is_powered, up_for}
use Rattle.wdf_model.specs.rules.Starts.{level_fits}
use Rattle.wdf_model.specs.rules.Waits.{ahead, by_frame_on, cause_if, cpu_of_dpc, deferred_cause, dpc_cause, first_cause, head_lock, no_cpu, queue_scope_held, queued_cause, request_line, returning_cause, scope_is_held, sequence_line, work_cause}
use Rattle.wdf_model.proofs.Tests.{itself}
use Rattle.law_machine_base.specs.OverRuns.{FramesAgree, PlacesAgree}
use Rattle.law_stuck_causes.specs.Causes.{keeps_deferred, keeps_dpc, keeps_queued, keeps_returning, keeps_work}
use Rattle.law_stuck_causes.proofs.EachLine.{OfLines}
use Rattle.law_stuck_causes.proofs.Forms.{lock_held, none_left, not_fits}
use Rattle.law_stuck_causes.proofs.Gives.{IfThere}
use Rattle.law_stuck_blame.specs.Blame.{comes_before, is_blamed, place_in_row}
use Rattle.law_stuck_blame.proofs.Ahead.{some_ahead}
use Rattle.law_stuck_blame.proofs.Rows.{IsFirstOf, IsThere, first_in, placed_if, placed_map, there_if, there_least}
use Rattle.law_stuck_blame.proofs.There.{frame_on, some_least}
use Rattle.law_stuck_blame.proofs.FirstFrames.{frame_first}
use Rattle.law_stuck_blame.proofs.FirstObjects.{object_first}
use Rattle.law_stuck_blame.proofs.FirstDevices.{next_first, running_first}

-- ---- requests that wait in a queue

powered_by : (managed up : Bool) → (managed && not up) ≡ true → not (not managed || up) ≡ true
powered_by true true h = h
powered_by true false h = refl
powered_by false up h = h

module _ {A : Type 0} (plan : Plan) (S : State A) (q r : ℕ) where
  abbrev row_queued : List (Option Cause)
  row_queued =
      cause_if (not (delivers_in (mode_of S.control q))) cause.Stopped
      ∷ cause_if (not (is_powered plan S q)) cause.Unpowered
      ∷ cause_if (is_manual_queue plan q) cause.Manual
      ∷ option_map (λ x. cause.Behind (handle_in plan S x)) (least (ahead S q r))
      ∷ cause_if (not (is_free S.queues q)) cause.Full
      ∷ cause_if (queue_scope_held plan S q) cause.ScopeHeld
      ∷ cause_if (no_cpu plan S (queue_level plan q)) cause.NoCpu
      ∷ []

  abbrev place_queued : Cause → ℕ
  place_queued y = place_in_row plan S (thing.Queued (handle_in plan S r) (handle_in plan S q)) y

  there_queued : count_by (λ y. y == r) (waiting_in S.queues q) ≤ 1 → (y : Cause) → keeps_queued plan S q r y ≡ true → IsThere place_queued row_queued y
  there_queued once cause.Stopped h = (cause_if (not (delivers_in (mode_of S.control q))) cause.Stopped, 0, refl, refl, there_if (not (delivers_in (mode_of S.control q))) cause.Stopped h)
  there_queued once cause.Unpowered h = (cause_if (not (is_powered plan S q)) cause.Unpowered, 1, refl, refl, there_if (not (is_powered plan S q)) cause.Unpowered (powered_by (is_managed plan q) (up_for plan S q) h))
  there_queued once cause.Manual h = (cause_if (is_manual_queue plan q) cause.Manual, 2, refl, refl, there_if (is_manual_queue plan q) cause.Manual h)
  there_queued once (cause.Behind x) h =
      (option_map (λ x. cause.Behind (handle_in plan S x)) (least (ahead S q r)), 3, refl, refl, there_least (λ x. cause.Behind (handle_in plan S x)) (ahead S q r) (some_ahead x.id.0 r (waiting_in S.queues q) once h))
  there_queued once cause.Full h = (cause_if (not (is_free S.queues q)) cause.Full, 4, refl, refl, there_if (not (is_free S.queues q)) cause.Full h)
  there_queued once cause.ScopeHeld h =
      (cause_if (queue_scope_held plan S q) cause.ScopeHeld, 5, refl, refl, there_if (queue_scope_held plan S q) cause.ScopeHeld (lock_held S (scope_of plan callback.EvtIoDefault q (declared_in plan S q)) ∙ h))
  there_queued once cause.NoCpu h = (cause_if (no_cpu plan S (queue_level plan q)) cause.NoCpu, 6, refl, refl, there_if (no_cpu plan S (queue_level plan q)) cause.NoCpu (none_left plan S (queue_level plan q) ∙ h))
  there_queued once _ h = absurd (let z : ⊥ = cc in z)

  queued_first : count_by (λ y. y == r) (waiting_in S.queues q) ≤ 1 → IsFirstOf (keeps_queued plan S q r) place_queued (queued_cause plan S q r)
  queued_first once = first_in (keeps_queued plan S q r) place_queued row_queued (
    λ c e. placed_if place_queued 0 (not (delivers_in (mode_of S.control q))) cause.Stopped refl c e,
    (
      λ c e. placed_if place_queued 1 (not (is_powered plan S q)) cause.Unpowered refl c e,
      (
        λ c e. placed_if place_queued 2 (is_manual_queue plan q) cause.Manual refl c e,
        (
          λ c e. placed_map place_queued 3 (λ x. cause.Behind (handle_in plan S x)) (least (ahead S q r)) (λ k. refl) c e,
          (
            λ c e. placed_if place_queued 4 (not (is_free S.queues q)) cause.Full refl c e,
            (
              λ c e. placed_if place_queued 5 (queue_scope_held plan S q) cause.ScopeHeld refl c e,
              (
                λ c e. placed_if place_queued 6 (no_cpu plan S (queue_level plan q)) cause.NoCpu refl c e,
                tt,
              ),
            ),
          ),
        ),
      ),
    ),
  ) (there_queued once)

-- ---- requests on their way out of one

module _ {A : Type 0} (plan : Plan) (S : State A) (q r : ℕ) where
  abbrev row_returning : List (Option Cause)
  row_returning = cause_if (queue_scope_held plan S q) cause.ScopeHeld ∷ cause_if (no_cpu plan S (queue_level plan q)) cause.NoCpu ∷ []

  abbrev place_returning : Cause → ℕ
  place_returning y = place_in_row plan S (thing.Returning (handle_in plan S r) (handle_in plan S q)) y

  there_returning : (y : Cause) → keeps_returning plan S q y ≡ true → IsThere place_returning row_returning y
  there_returning cause.ScopeHeld h =
      (cause_if (queue_scope_held plan S q) cause.ScopeHeld, 0, refl, refl, there_if (queue_scope_held plan S q) cause.ScopeHeld (lock_held S (scope_of plan callback.EvtIoDefault q (declared_in plan S q)) ∙ h))
  there_returning cause.NoCpu h = (cause_if (no_cpu plan S (queue_level plan q)) cause.NoCpu, 1, refl, refl, there_if (no_cpu plan S (queue_level plan q)) cause.NoCpu (none_left plan S (queue_level plan q) ∙ h))
  there_returning _ h = absurd (let z : ⊥ = cc in z)

  returning_first : IsFirstOf (keeps_returning plan S q) place_returning (returning_cause plan S q)
  returning_first = first_in (keeps_returning plan S q) place_returning row_returning (
    λ c e. placed_if place_returning 0 (queue_scope_held plan S q) cause.ScopeHeld refl c e,
    (
      λ c e. placed_if place_returning 1 (no_cpu plan S (queue_level plan q)) cause.NoCpu refl c e,
      tt,
    ),
  ) there_returning

-- ---- queued work

-- a row with nothing in the middle
in_middle : (a b : Option Cause) → first_cause (a ∷ None ∷ b ∷ []) ≡ first_cause (a ∷ b ∷ [])
in_middle None b = refl
in_middle (Some c) b = refl

first_by : (b : Bool) (place : Cause → ℕ) (p q : Cause → Bool) (o u : Option Cause) → IsFirstOf p place o → IsFirstOf q place u → IsFirstOf (λ x. if b then p x else q x) place (if b then o else u)
first_by true place p q o u g h = g
first_by false place p q o u g h = h

module _ {A : Type 0} (plan : Plan) (S : State A) (o : ℕ) where
  abbrev place_work : Cause → ℕ
  place_work y = place_in_row plan S (thing.Deferred (handle_in plan S o)) y

  abbrev lock_test : Bool
  lock_test = scope_is_held plan S (dpc_function (kind_of S.tree o)) o || not (is_free_if_any S.locks (head_lock plan S (cpu_of_dpc plan S o)))

  abbrev cpu_test : Bool
  cpu_test = not (level_fits S (cpu_of_dpc plan S o) 2)

  abbrev row_dpc : List (Option Cause)
  row_dpc = cause_if lock_test cause.ScopeHeld ∷ None ∷ cause_if cpu_test cause.NoCpu ∷ []

  lock_is : lock_test ≡ keeps_dpc plan S o cause.ScopeHeld
  lock_is = rw (lock_held S (scope_of plan (dpc_function (kind_of S.tree o)) o (declared_in plan S o)), lock_held S (head_lock plan S (cpu_of_dpc plan S o))) refl

  there_dpc : (y : Cause) → keeps_dpc plan S o y ≡ true → IsThere place_work row_dpc y
  there_dpc cause.ScopeHeld h = (cause_if lock_test cause.ScopeHeld, 0, refl, refl, there_if lock_test cause.ScopeHeld (lock_is ∙ h))
  there_dpc cause.NoCpu h = (cause_if cpu_test cause.NoCpu, 2, refl, refl, there_if cpu_test cause.NoCpu (not_fits S 2 (cpu_of_dpc plan S o) ∙ h))
  there_dpc _ h = absurd (let z : ⊥ = cc in z)

  dpc_first : IsFirstOf (keeps_dpc plan S o) place_work (dpc_cause plan S o)
  dpc_first =
      let padded : IsFirstOf (keeps_dpc plan S o) place_work (first_cause row_dpc) = first_in (keeps_dpc plan S o) place_work row_dpc (
        λ c e. placed_if place_work 0 lock_test cause.ScopeHeld refl c e,
        (
          λ c e. absurd (let z : ⊥ = cc in z),
          (
            λ c e. placed_if place_work 2 cpu_test cause.NoCpu refl c e,
            tt,
          ),
        ),
      ) there_dpc in
      subst (IsFirstOf (keeps_dpc plan S o) place_work) (in_middle (cause_if lock_test cause.ScopeHeld) (cause_if cpu_test cause.NoCpu)) padded

  module _ (c : Callback) (level : ℕ) where
    abbrev row_work : List (Option Cause)
    row_work = cause_if (scope_is_held plan S c o) cause.ScopeHeld ∷ by_frame_on S o ∷ cause_if (no_cpu plan S level) cause.NoCpu ∷ []

    there_work : (y : Cause) → keeps_work plan S c level o y ≡ true → IsThere place_work row_work y
    there_work cause.ScopeHeld h = (cause_if (scope_is_held plan S c o) cause.ScopeHeld, 0, refl, refl, there_if (scope_is_held plan S c o) cause.ScopeHeld (lock_held S (scope_of plan c o (declared_in plan S o)) ∙ h))
    there_work (cause.ByFrame f) h = (by_frame_on S o, 1, refl, refl, some_least (λ g. cause.ByFrame (frame_id g)) f.0 (filter (is_on S.cpus o) (all_frames S.cpus)) (frame_on S o f.0 h))
    there_work cause.NoCpu h = (cause_if (no_cpu plan S level) cause.NoCpu, 2, refl, refl, there_if (no_cpu plan S level) cause.NoCpu (none_left plan S level ∙ h))
    there_work _ h = absurd (let z : ⊥ = cc in z)

    work_first : IsFirstOf (keeps_work plan S c level o) place_work (work_cause plan S c level o)
    work_first = first_in (keeps_work plan S c level o) place_work row_work (
      λ d e. placed_if place_work 0 (scope_is_held plan S c o) cause.ScopeHeld refl d e,
      (
        λ d e. placed_map place_work 1 (λ g. cause.ByFrame (frame_id g)) (least (filter (is_on S.cpus o) (all_frames S.cpus))) (λ k. refl) d e,
        (
          λ d e. placed_if place_work 2 (no_cpu plan S level) cause.NoCpu refl d e,
          tt,
        ),
      ),
    ) there_work

  deferred_first : IsFirstOf (keeps_deferred plan S o) place_work (deferred_cause plan S o)
  deferred_first =
      first_by (is_dpc_queued S.dpcs o) place_work (keeps_dpc plan S o) (λ x. if is_work_queued S.work_items o then keeps_work plan S callback.EvtWorkItem 0 o x else keeps_work plan S callback.EvtTimerFunc 2 o x)
      (dpc_cause plan S o) (if is_work_queued S.work_items o then work_cause plan S callback.EvtWorkItem 0 o else work_cause plan S callback.EvtTimerFunc 2 o)
      dpc_first
      (first_by (is_work_queued S.work_items o) place_work (keeps_work plan S callback.EvtWorkItem 0 o) (keeps_work plan S callback.EvtTimerFunc 2 o)
      (work_cause plan S callback.EvtWorkItem 0 o) (work_cause plan S callback.EvtTimerFunc 2 o)
      (work_first callback.EvtWorkItem 0) (work_first callback.EvtTimerFunc 2))

-- ---- the lines

abbrev pub LineFirst : {A : Type 0} → Plan → State A → WaitLine → Type 0
LineFirst plan S l = (x y : Cause) → l.cause ≡ Some x → comes_before plan S l.thing y x ≡ true → is_blamed plan S l.thing y ≡ false

once_there : {A : Type 0} (S : State A) (q : ObjectId) (r : ℕ) → PlacesAgree S → place_of S.requests r ≡ place.Queued q → count_by (λ x. x == r) (waiting_in S.queues q.0) ≤ 1
once_there S q r k e =
    let one : is_queued_in q.0 (place_of S.requests r) ≡ true = rw e (itself q.0) in
    let times : count_by (λ x. x == r) (waiting_in S.queues q.0) ≡ 1 = k.queued q.0 r ∙ ap flag one in
    omega (arith, times)

request_first : {A : Type 0} (plan : Plan) (S : State A) (r : ℕ) (p : Place) → PlacesAgree S → place_of S.requests r ≡ p → IfThere (LineFirst plan S) (request_line plan S r p)
request_first plan S r place.Owned k e = λ x y none before. absurd (let z : ⊥ = cc in z)
request_first plan S r (place.Sent t) k e = λ x y none before. absurd (let z : ⊥ = cc in z)
request_first plan S r (place.Queued q) k e = queued_first plan S q.0 r (once_there S q r k e)
request_first plan S r (place.Returning q) k e = returning_first plan S q.0 r
request_first plan S r (place.Closing s) k e = tt
request_first plan S r place.Done k e = tt

device_line_first : {A : Type 0} (plan : Plan) (S : State A) (d : ℕ) (now next : Option Step) → running_step S.pnp d ≡ now → IfThere (LineFirst plan S) (sequence_line plan S d now next)
device_line_first plan S d (Some s) next e = running_first plan S d s e
device_line_first plan S d None (Some s) e = next_first plan S d s e
device_line_first plan S d None None e = tt

pub lines_first : {A : Type 0} (plan : Plan) (S : State A) → PlacesAgree S → FramesAgree S → OfLines plan S (LineFirst plan S)
lines_first plan S k frames = record {
  frames = λ f there. frame_first plan S f frames;
  requests = λ r. request_first plan S r (place_of S.requests r) k refl;
  devices = λ d low. device_line_first plan S d (running_step S.pnp d) (next_step S.pnp d) refl;
  objects = λ o low leaving. object_first plan S o;
  work = λ o opened. deferred_first plan S o;
  asking = λ d. λ x y found before. absurd (let z : ⊥ = cc in z);
}
