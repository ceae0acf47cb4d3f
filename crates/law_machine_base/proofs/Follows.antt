-- What may follow in a run: an event that May allows, or the clock's, alone.
use Rattle.std.proofs.Common.{if◌then◌else◌, ◌≡◌, ℕ, zero, suc, ◌+◌, ◌-◌, Bool, true, false, nat_lt, List, [], ◌∷◌, ◌++◌, ◌⊎◌, inl, inr, Option, Some, None, length, slice_get, refl, arith, length-append}
use Rattle.std.proofs.lemmas.List.Sums.{fold-append}
use Rattle.wdf_base.specs.Meaning.{Meaning}
use Rattle.wdf_base.specs.declared.ids.Cpu.{Cpu}
use Rattle.wdf_base.specs.declared.plan.Plan.{Plan}
use Rattle.wdf_base.specs.declared.event.Event.{Event}
use Rattle.wdf_base.specs.declared.event.Event.TheVariants as event
use Rattle.wdf_base.specs.declared.event.Fault.{Fault}
use Rattle.wdf_model.specs.State.{State, opening}
use Rattle.wdf_model.specs.rules.Steps.{after, may}
use Rattle.wdf_model.specs.rules.Groups.{candidates}
use Rattle.wdf_model.specs.rules.Ready.{allowed, fault_in, last_fault, or_tick, ready, ready_in, state_after, unless_fault, waits_for_time}
use Rattle.law_machine_base.specs.FactsOfEvents.{IsTick}
use Rattle.wdf_model.proofs.Runs.{slice_get-append-right}
use Rattle.wdf_model.proofs.Tests.{in_filter}

tick_if : {A : Type 0} (m : Meaning A) (S : State A) (b : Bool) → waits_for_time m S ≡ b → (k : ℕ) (e : Event)
    → slice_get (if b then event.Tick (S.clock + 1) ∷ [] else []) k ≡ Some e → IsTick m S (if b then event.Tick (S.clock + 1) ∷ [] else []) e
tick_if m S true w zero e h = record { alone = refl; tick = cc; wanted = w }
tick_if m S true w (suc k) e h = absurd (let z : ⊥ = cc in z)
tick_if m S false w k e h = absurd (let z : ⊥ = cc in z)

pub in_or_tick : {A : Type 0} (m : Meaning A) (S : State A) (es : List Event) (k : ℕ) (e : Event) → slice_get (or_tick m S es) k ≡ Some e
    → (slice_get es k ≡ Some e) ⊎ IsTick m S (or_tick m S es) e
in_or_tick m S (x ∷ xs) k e h = inl h
in_or_tick m S [] k e h = inr (tick_if m S (waits_for_time m S) refl k e h)

in_allowed : {A : Type 0} (plan : Plan) (m : Meaning A) (S : State A) (offered : List Event) (k : ℕ) (e : Event)
    → (slice_get (allowed plan m S) k ≡ Some e) ⊎ IsTick m S offered e → (may plan m S e ≡ true) ⊎ IsTick m S offered e
in_allowed plan m S offered k e (inl h) = inl (in_filter (may plan m S) (candidates plan m S) k e h)
in_allowed plan m S offered k e (inr h) = inr h

in_limit : {A : Type 0} (plan : Plan) (m : Meaning A) (S : State A) (b : Bool) (k : ℕ) (e : Event)
    → slice_get (if b then or_tick m S (allowed plan m S) else []) k ≡ Some e
    → (may plan m S e ≡ true) ⊎ IsTick m S (if b then or_tick m S (allowed plan m S) else []) e
in_limit plan m S true k e h = in_allowed plan m S (or_tick m S (allowed plan m S)) k e (in_or_tick m S (allowed plan m S) k e h)
in_limit plan m S false k e h = absurd (let z : ⊥ = cc in z)

pub in_ready_in : {A : Type 0} (plan : Plan) (m : Meaning A) (S : State A) (k : ℕ) (e : Event)
    → slice_get (ready_in plan m S) k ≡ Some e → (may plan m S e ≡ true) ⊎ IsTick m S (ready_in plan m S) e
in_ready_in plan m S k e h = in_limit plan m S (nat_lt S.number plan.limit) k e h

in_unless : {A : Type 0} (plan : Plan) (m : Meaning A) (S : State A) (x : Option Fault) (k : ℕ) (e : Event)
    → slice_get (unless_fault x (ready_in plan m S)) k ≡ Some e → (may plan m S e ≡ true) ⊎ IsTick m S (unless_fault x (ready_in plan m S)) e
in_unless plan m S None k e h = in_ready_in plan m S k e h
in_unless plan m S (Some x) k e h = absurd (let z : ⊥ = cc in z)

-- what may follow the events of a run
pub follows : {A : Type 0} (plan : Plan) (m : Meaning A) (run : List Event) (k : ℕ) (e : Event)
    → slice_get (ready plan m run) k ≡ Some e
    → (may plan m (state_after plan m run) e ≡ true) ⊎ IsTick m (state_after plan m run) (ready plan m run) e
unfolding ready
follows plan m run k e h = in_unless plan m (state_after plan m run) (last_fault run) k e h

-- the state after one event more
pub state_goes_on : {A : Type 0} (plan : Plan) (m : Meaning A) (run : List Event) (e : Event)
    → state_after plan m (run ++ e ∷ []) ≡ after plan m (state_after plan m run) e
unfolding state_after
state_goes_on plan m run e = fold-append (after plan m) (opening plan m) run (e ∷ [])

pub last_fault_of : (run : List Event) (e : Event) → last_fault (run ++ e ∷ []) ≡ fault_in e
last_fault_of run e =
    let last : length (run ++ e ∷ []) - 1 ≡ length run + 0 = omega (arith, length-append run (e ∷ [])) in
    let here : slice_get (run ++ e ∷ []) (length run + 0) ≡ Some e = slice_get-append-right run (e ∷ []) 0 in
    rw (last, here) refl

-- after a fault nothing may follow
pub fault_ends : {A : Type 0} (plan : Plan) (m : Meaning A) (run : List Event) (cpu : Cpu) (x : Fault) (line : ℕ)
    → ready plan m (run ++ event.Fault cpu x line ∷ []) ≡ []
unfolding ready
fault_ends plan m run cpu x line = rw (last_fault_of run (event.Fault cpu x line)) refl
