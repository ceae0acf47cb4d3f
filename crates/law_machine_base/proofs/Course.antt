-- What is computed by picks is the picked run.
use Rattle.std.proofs.Common.{◌≡◌, ◌≢◌, ℕ, zero, suc, ◌%◌, List, [], ◌∷◌, ◌++◌, length, drop, Option, Some, None, slice_get, slice_index, refl, ap, sym, ◌∙◌, arith, length-append}
use Rattle.wdf_base.specs.Meaning.{Meaning}
use Rattle.wdf_base.specs.declared.event.Event.{Event}
use Rattle.wdf_base.specs.declared.event.Ending.{Ending}
use Rattle.wdf_base.specs.declared.event.Ending.TheVariants as ending
use Rattle.wdf_base.specs.declared.event.Fault.{Fault}
use Rattle.wdf_base.specs.declared.plan.Plan.{Plan}
use Rattle.wdf_model.specs.Runs.{IsPickedFrom}
use Rattle.wdf_model.specs.State.{State, opening}
use Rattle.wdf_model.specs.rules.Steps.{after}
use Rattle.wdf_model.specs.rules.Ready.{ending_by, ending_of, fault_in, last_fault, ready, ready_in, state_after, unless_fault}
use Rattle.wdf_model.specs.agents.AnyAgent.{agents}
use Rattle.law_machine_base.specs.Course.{CourseOf, IsWorked, IsWorkedWith, ending_at, events_of, pick, run_by, run_from, run_with, stopped, with_picked}
use Rattle.wdf_model.proofs.Runs.{picked_goes_on, picked_opens}
use Rattle.law_machine_base.proofs.Follows.{last_fault_of, state_goes_on}

-- a course that is picked so far
pub record IsCourse {A : Type 0} (plan : Plan) (m : Meaning A) (c : CourseOf A) : Type 0 where
  pub picked : IsPickedFrom (ready plan m) plan.picks [] c.events
  pub ending : c.ending ≡ ending_of plan m c.events

-- where a course is: its events so far, the state after them, their last fault, and the picks that are left
record Stands {A : Type 0} (plan : Plan) (m : Meaning A) (picks : List ℕ) (events : List Event) (S : State A) (x : Option Fault) : Type 0 where
  state : S ≡ state_after plan m events
  fault : x ≡ last_fault events
  left : picks ≡ drop (length events) plan.picks
  picked : IsPickedFrom (ready plan m) plan.picks [] events

pick_after : (picks : List ℕ) (n : ℕ) → slice_index (drop n picks) 0 ≡ slice_index picks n
pick_after picks zero = refl
pick_after [] (suc n) = refl
pick_after (p ∷ ps) (suc n) = pick_after ps n

drop_next : {T : Type 0} (xs : List T) (n : ℕ) → drop 1 (drop n xs) ≡ drop (suc n) xs
drop_next xs zero = refl
drop_next [] (suc n) = refl
drop_next (x ∷ xs) (suc n) = drop_next xs n

one_more : (events : List Event) (e : Event) → length (events ++ e ∷ []) ≡ suc (length events)
one_more events e = omega (arith, length-append events (e ∷ []))

module _ {A : Type 0} (plan : Plan) (m : Meaning A) where
  offered : (picks : List ℕ) (events : List Event) (S : State A) (x : Option Fault) → Stands plan m picks events S x
      → unless_fault x (ready_in plan m S) ≡ ready plan m events
  unfolding ready
  offered picks events S x at = rw (at.state, at.fault) refl

  stops : (picks : List ℕ) (events : List Event) (S : State A) (x : Option Fault) → Stands plan m picks events S x
      → IsCourse plan m (stopped plan m events S x)
  unfolding ready ending_of
  stops picks events S x at = record { picked = at.picked; ending = rw (at.state, at.fault) refl }

  goes_on : (picks : List ℕ) (events : List Event) (S : State A) (x : Option Fault) (e : Event) → Stands plan m picks events S x
      → pick picks (unless_fault x (ready_in plan m S)) ≡ Some e → Stands plan m (drop 1 picks) (events ++ e ∷ []) (after plan m S e) (fault_in e)
  goes_on picks events S x e at h =
      let here : pick (drop (length events) plan.picks) (ready plan m events) ≡ Some e = rw (← at.left, ← offered picks events S x at) h in
      let place : slice_get (ready plan m events) (slice_index plan.picks (length events) % length (ready plan m events)) ≡ Some e = rw (← pick_after plan.picks (length events)) here in
      record {
        state = ap (λ T. after plan m T e) at.state ∙ sym (state_goes_on plan m events e);
        fault = sym (last_fault_of events e);
        left = ap (λ ps. drop 1 ps) at.left ∙ drop_next plan.picks (length events) ∙ ap (λ n. drop n plan.picks) (sym (one_more events e));
        picked = picked_goes_on (ready plan m) plan.picks [] events e (length events) (omega arith) at.picked place;
      }

  next : (picks : List ℕ) (events : List Event) (S : State A) (x : Option Fault) (rest : List Event → State A → Option Fault → CourseOf A)
      → ((es : List Event) (T : State A) (y : Option Fault) → Stands plan m (drop 1 picks) es T y → IsCourse plan m (rest es T y))
      → Stands plan m picks events S x → (o : Option Event) → pick picks (unless_fault x (ready_in plan m S)) ≡ o
      → IsCourse plan m (with_picked rest plan m events S x o)
  next picks events S x rest more at None h = stops picks events S x at
  next picks events S x rest more at (Some e) h = more (events ++ e ∷ []) (after plan m S e) (fault_in e) (goes_on picks events S x e at h)

  course_from : (turns : ℕ) (picks : List ℕ) (events : List Event) (S : State A) (x : Option Fault)
      → Stands plan m picks events S x → IsCourse plan m (run_from turns plan m picks events S x)
  course_from zero picks events S x at = stops picks events S x at
  course_from (suc turns) picks events S x at =
      next picks events S x (run_from turns plan m (drop 1 picks)) (course_from turns (drop 1 picks)) at (pick picks (unless_fault x (ready_in plan m S))) refl

  pub course_of : (turns : ℕ) → IsCourse plan m (run_with plan m turns)
  unfolding run_with state_after
  course_of turns =
      course_from turns plan.picks [] (opening plan m) None (record { state = refl; fault = refl; left = refl; picked = picked_opens (ready plan m) plan.picks [] })

  -- a run that has ended goes on by nothing
  ended_by : (S : State A) (x : Option Fault) (es : List Event) → ending_by plan m S x es ≢ ending.Running → es ≡ []
  ended_by S x [] h = refl
  ended_by S x (e ∷ es) h = absurd (h refl)

  ended : (events : List Event) → ending_of plan m events ≢ ending.Running → ready plan m events ≡ []
  unfolding ending_of
  ended events h = ended_by (state_after plan m events) (last_fault events) (ready plan m events) h

  -- what is computed with such agents is worked, once it has ended
  pub worked_with : (turns : ℕ) (events : List Event) (e : Ending) → events_of (run_with plan m turns) ≡ events → ending_at (run_with plan m turns) ≡ e
      → e ≢ ending.Running → IsWorkedWith plan m events e
  worked_with turns events e same ends over =
      let is : IsCourse plan m (run_with plan m turns) = course_of turns in
      let ending : ending_of plan m events ≡ e = ap (λ es. ending_of plan m es) (sym same) ∙ sym is.ending ∙ ends in
      let nothing : ready plan m events ≡ [] = ended events (λ running. over (sym ending ∙ running)) in
      let picked : IsPickedFrom (ready plan m) plan.picks [] events = rw (← same) is.picked in
      record { run = record { begins = (events, refl); picked = picked; ends = nothing }; ends = ending }

-- the run with the agents of the program
by_agents : (plan : Plan) (turns : ℕ) → run_with plan agents turns ≡ run_by plan turns
unfolding run_with run_by
by_agents plan turns = refl

-- what is computed is worked, once it has ended
pub worked_of : (plan : Plan) (turns : ℕ) (events : List Event) (e : Ending) → events_of (run_by plan turns) ≡ events → ending_at (run_by plan turns) ≡ e
    → e ≢ ending.Running → IsWorked plan events e
worked_of plan turns events e same ends over =
    worked_with plan agents turns events e (ap events_of (by_agents plan turns) ∙ same) (ap ending_at (by_agents plan turns) ∙ ends) over

pub run_by_is_picked : (plan : Plan) (turns : ℕ) → ending_at (run_by plan turns) ≢ ending.Running
    → IsWorked plan (events_of (run_by plan turns)) (ending_at (run_by plan turns))
run_by_is_picked plan turns over = worked_of plan turns (events_of (run_by plan turns)) (ending_at (run_by plan turns)) refl refl over
