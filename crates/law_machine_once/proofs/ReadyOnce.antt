-- Nothing is ready twice.
use Rattle.std.proofs.Common.{if◌then◌else◌, ◌≡◌, ℕ, ◌+◌, Bool, true, false, nat_lt, List, [], ◌∷◌, Option, Some, None, length, slice_get}
use Rattle.wdf_base.specs.Meaning.{Meaning}
use Rattle.wdf_base.specs.declared.plan.Plan.{Plan}
use Rattle.wdf_base.specs.declared.event.Event.{Event}
use Rattle.wdf_base.specs.declared.event.Event.TheVariants as event
use Rattle.wdf_base.specs.declared.event.Fault.{Fault}
use Rattle.wdf_model.specs.State.{State}
use Rattle.wdf_model.specs.rules.Steps.{may}
use Rattle.wdf_model.specs.rules.Groups.{candidates}
use Rattle.wdf_model.specs.rules.Ready.{IsRunOf, allowed, last_fault, or_tick, ready, ready_in, state_after, unless_fault, waits_for_time}
use Rattle.law_machine_lives.proofs.Keeping.{at_the_end, known_now}
use Rattle.law_machine_once.specs.Owned.{QueuedOnce, StepsOwned}
use Rattle.law_machine_once.proofs.Deferred.{queued_once_at_each}
use Rattle.law_machine_once.proofs.Steps.{steps_owned_at_each}
use Rattle.law_machine_once.proofs.OnceEach.{Once, once_filtered, one_place}
use Rattle.law_machine_once.proofs.Places.{candidates_once}

tick_once : (b : Bool) (n : ℕ) → Once (if b then event.Tick n ∷ [] else [])
tick_once true n = (tt, tt)
tick_once false n = tt

or_tick_once : {A : Type 0} (m : Meaning A) (S : State A) (es : List Event) → Once es → Once (or_tick m S es)
or_tick_once m S (e ∷ es) h = h
or_tick_once m S [] h = tick_once (waits_for_time m S) (S.clock + 1)

within_limit : (b : Bool) (es : List Event) → Once es → Once (if b then es else [])
within_limit true es h = h
within_limit false es h = tt

after_no_fault : (x : Option Fault) (es : List Event) → Once es → Once (unless_fault x es)
after_no_fault None es h = h
after_no_fault (Some x) es h = tt

ready_once : {A : Type 0} (plan : Plan) (m : Meaning A) (run : List Event) → IsRunOf plan m run → Once (ready plan m run)
unfolding ready
ready_once {A} plan m run is_run =
    let S = state_after plan m run in
    let once = at_the_end plan m (λ (U : State A). QueuedOnce U) run (queued_once_at_each plan m run is_run (length run)) in
    let owned = at_the_end plan m (λ (U : State A). StepsOwned plan U) run (steps_owned_at_each plan m run is_run (length run)) in
    after_no_fault (last_fault run) (ready_in plan m S)
    (within_limit (nat_lt S.number plan.limit) (or_tick m S (allowed plan m S))
    (or_tick_once m S (allowed plan m S) (once_filtered (λ x. x) (may plan m S) (candidates plan m S) (candidates_once plan m S (known_now plan m run is_run) once owned))))

pub nothing_twice : {A : Type 0} (plan : Plan) (m : Meaning A) (run : List Event) (i j : ℕ) (e : Event) → IsRunOf plan m run → slice_get (ready plan m run) i ≡ Some e → slice_get (ready plan m run) j ≡ Some e → i ≡ j
nothing_twice plan m run i j e is_run at_i at_j = one_place (ready plan m run) (ready_once plan m run is_run) i j e at_i at_j
