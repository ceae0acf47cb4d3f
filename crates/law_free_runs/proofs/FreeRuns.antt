-- Each run is a free run.
use Rattle.std.proofs.Common.{◌≡◌, ℕ, zero, suc, ◌+◌, ◌<◌, ◌≤◌, length, true, List, [], ◌∷◌, ◌⊎◌, inl, inr, Option, Some, None, take, slice_get, refl, sym, ap, subst, ◌∙◌, arith}
use Rattle.wdf_base.specs.Meaning.{Meaning}
use Rattle.wdf_base.specs.declared.plan.Plan.{Plan}
use Rattle.wdf_base.specs.declared.event.Event.{Event}
use Rattle.wdf_base.specs.declared.event.Event.TheVariants as event
use Rattle.wdf_base.specs.declared.event.Fault.{Fault}
use Rattle.wdf_model.specs.Runs.{IsRun}
use Rattle.wdf_model.specs.State.{State, opening}
use Rattle.wdf_model.specs.rules.Steps.{after, may}
use Rattle.wdf_model.specs.rules.Ready.{IsRunOf, last_fault, ready, ready_in, state_after, unless_fault}
use Rattle.law_machine_base.specs.FactsOfEvents.{IsTick}
use Rattle.wdf_model.proofs.Runs.{take_next}
use Rattle.law_machine_base.proofs.Follows.{follows, state_goes_on}
use Rattle.law_free_runs.specs.FreeRuns.{IsFreeRun}
use Rattle.law_free_runs.proofs.Places.{first_state}

either : {A : Type 0} (plan : Plan) (m : Meaning A) (S : State A) (es : List Event) (e : Event) → (may plan m S e ≡ true) ⊎ IsTick m S es e → (may plan m S e ≡ true) ⊎ ((time : ℕ) × (e ≡ event.Tick time))
either plan m S es e (inl h) = inl h
either plan m S es e (inr t) = inr (S.clock + 1, t.tick)

next_state : {A : Type 0} (plan : Plan) (m : Meaning A) (run : List Event) (k : ℕ) (e : Event) → slice_get run k ≡ Some e → state_after plan m (take (k + 1) run) ≡ after plan m (state_after plan m (take k run)) e
next_state plan m run k e h =
    let one : k + 1 ≡ suc k = omega arith in
    ap (λ n. state_after plan m (take n run)) one ∙ ap (state_after plan m) (take_next run k e h) ∙ state_goes_on plan m (take k run) e

no_fault_if : {A : Type 0} (plan : Plan) (m : Meaning A) (S : State A) (x : Option Fault) (place : ℕ) (e : Event) → slice_get (unless_fault x (ready_in plan m S)) place ≡ Some e → x ≡ None
no_fault_if plan m S None place e h = refl
no_fault_if plan m S (Some x) place e h = absurd (let z : ⊥ = cc in z)

no_fault : {A : Type 0} (plan : Plan) (m : Meaning A) (before : List Event) (place : ℕ) (e : Event) → slice_get (ready plan m before) place ≡ Some e → last_fault before ≡ None
unfolding ready
no_fault plan m before place e h = no_fault_if plan m (state_after plan m before) (last_fault before) place e h

pub runs_are_free : {A : Type 0} (plan : Plan) (m : Meaning A) (run : List Event) → IsRunOf plan m run → IsFreeRun A plan run
unfolding IsRun
runs_are_free {A} plan m run is_run = record {
  states = λ k. state_after plan m (take k run);
  meaning = m;
  opens = first_state plan m;
  goes = λ k e h. record {
    meaning = m;
    may_come = either plan m (state_after plan m (take k run)) (ready plan m (take k run)) e (follows plan m (take k run) (is_run k e h).0 e (is_run k e h).1);
    leads = next_state plan m run k e h;
  };
  ends = λ k e h. no_fault plan m (take k run) (is_run k e h).0 e (is_run k e h).1;
}

-- what the opening has and each step of a free run keeps is so at each place of it
each_by : {A : Type 0} (plan : Plan) (Q : State A → Type 0) → ((m : Meaning A) → Q (opening plan m))
    → ((m : Meaning A) (S : State A) (e : Event) → may plan m S e ≡ true → Q S → Q (after plan m S e))
    → ((m : Meaning A) (S : State A) (time : ℕ) → Q S → Q (after plan m S (event.Tick time)))
    → (m : Meaning A) (S T : State A) (e : Event) → (may plan m S e ≡ true) ⊎ ((time : ℕ) × (e ≡ event.Tick time)) → T ≡ after plan m S e → Q S → Q T
each_by plan Q opens keeps ticks m S T e (inl h) leads q = subst Q (sym leads) (keeps m S e h q)
each_by plan Q opens keeps ticks m S T e (inr t) leads q = subst Q (sym leads) (subst (λ x. Q (after plan m S x)) (sym t.1) (ticks m S t.0 q))

item_at : (run : List Event) (n : ℕ) → n < length run → (e : Event) × (slice_get run n ≡ Some e)
item_at [] n h = absurd (omega arith)
item_at (x ∷ xs) zero h = (x, refl)
item_at (x ∷ xs) (suc n) h = item_at xs n (omega arith)

-- what the opening has and each step keeps is so at each place of a free run
pub free_place : {A : Type 0} (plan : Plan) (Q : State A → Type 0) → ((m : Meaning A) → Q (opening plan m))
    → ((m : Meaning A) (S : State A) (e : Event) → may plan m S e ≡ true → Q S → Q (after plan m S e))
    → ((m : Meaning A) (S : State A) (time : ℕ) → Q S → Q (after plan m S (event.Tick time)))
    → (run : List Event) (free : IsFreeRun A plan run) (n : ℕ) → n ≤ length run → Q (free.states n)
free_place plan Q opens keeps ticks run free zero h = subst Q (sym free.opens) (opens free.meaning)
free_place plan Q opens keeps ticks run free (suc n) h =
    let here = item_at run n (omega arith) in
    let step = free.goes n here.0 here.1 in
    let one : n + 1 ≡ suc n = omega arith in
    each_by plan Q opens keeps ticks step.meaning (free.states n) (free.states (suc n)) here.0 step.may_come
    (ap (λ k. free.states k) (sym one) ∙ step.leads) (free_place plan Q opens keeps ticks run free n (omega arith))
