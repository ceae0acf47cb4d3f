-- What the ending of a run says: nothing may follow, and something is any or nothing is.
use Rattle.std.proofs.Common.{if◌then◌else◌, ◌≡◌, ℕ, ◌+◌, Bool, true, false, nat_lt, nat_le, List, [], ◌∷◌, Option, Some, None, refl, sym, length, take, subst, arith}
use Rattle.std.proofs.lemmas.Bool.Decides.{nat_tests}
use Rattle.std.proofs.Math.Seq.{take-length}
use Rattle.wdf_base.specs.Meaning.{Meaning}
use Rattle.wdf_base.specs.declared.plan.Plan.{Plan}
use Rattle.wdf_base.specs.declared.event.Event.{Event}
use Rattle.wdf_base.specs.declared.event.Event.TheVariants as event
use Rattle.wdf_base.specs.declared.event.Fault.{Fault}
use Rattle.wdf_base.specs.declared.event.Ending.{Ending}
use Rattle.wdf_base.specs.declared.event.Ending.TheVariants as ending
use Rattle.wdf_model.specs.State.{State}
use Rattle.wdf_model.specs.rules.Groups.{candidates}
use Rattle.wdf_model.specs.rules.Steps.{may}
use Rattle.wdf_model.specs.rules.Ready.{allowed, ending_by, ending_of, ending_without_fault, is_open, last_fault, or_tick, ready, ready_in, state_after, unless_fault, waits_for_time}
use Rattle.wdf_model.specs.rules.Waits.{wait_lines, wait_list}
use Rattle.law_stuck_causes.proofs.Members.{Has, none_passes}

-- how it is told that something is any
abbrev pub told : Bool → Ending
told true = ending.Stuck
told false = ending.Finished

no_limit : (any : Bool) → ending.Limit ≡ told any → ⊥
no_limit true h = let z : ⊥ = cc in z
no_limit false h = let z : ⊥ = cc in z

no_fault : (x : Fault) (any : Bool) → ending.Fault x ≡ told any → ⊥
no_fault x true h = let z : ⊥ = cc in z
no_fault x false h = let z : ⊥ = cc in z

not_running : (any : Bool) → ending.Running ≡ told any → ⊥
not_running true h = let z : ⊥ = cc in z
not_running false h = let z : ⊥ = cc in z

same_told : (a b : Bool) → (if a then ending.Stuck else ending.Finished) ≡ told b → a ≡ b
same_told true true h = refl
same_told true false h = absurd (let z : ⊥ = cc in z)
same_told false true h = absurd (let z : ⊥ = cc in z)
same_told false false h = refl

-- a state in which nothing may come before the limit, and whether something is any
pub record AtRest {A : Type 0} (plan : Plan) (m : Meaning A) (S : State A) (any : Bool) : Type 0 where
  pub nothing : allowed plan m S ≡ []
  pub untimed : waits_for_time m S ≡ false
  pub open_is : is_open plan m S ≡ any

no_event : {A : Type 0} (m : Meaning A) (S : State A) (es : List Event) → or_tick m S es ≡ [] → es ≡ []
no_event m S [] h = refl
no_event m S (e ∷ es) h = absurd (let z : ⊥ = cc in z)

no_time_by : {A : Type 0} (m : Meaning A) (S : State A) (b : Bool) → waits_for_time m S ≡ b → (if b then event.Tick (S.clock + 1) ∷ [] else []) ≡ [] → b ≡ false
no_time_by m S true w h = absurd (let z : ⊥ = cc in z)
no_time_by m S false w h = refl

no_time : {A : Type 0} (m : Meaning A) (S : State A) (es : List Event) → or_tick m S es ≡ [] → waits_for_time m S ≡ false
no_time m S [] h = no_time_by m S (waits_for_time m S) refl h
no_time m S (e ∷ es) h = absurd (let z : ⊥ = cc in z)

below : (limit n : ℕ) → nat_le limit n ≡ false → nat_lt n limit ≡ true
below limit n h = grind (arith, nat_tests)

before_limit : {A : Type 0} (plan : Plan) (m : Meaning A) (S : State A) (any over : Bool) → nat_le plan.limit S.number ≡ over → ready_in plan m S ≡ []
    → ending_without_fault plan m S ≡ told any → AtRest plan m S any
before_limit plan m S any true e h ends = absurd (no_limit any (rw e at ends))
before_limit plan m S any false e h ends =
    let now : nat_lt S.number plan.limit ≡ true = below plan.limit S.number e in
    record { nothing = no_event m S (allowed plan m S) (rw now at h); untimed = no_time m S (allowed plan m S) (rw now at h); open_is = same_told (is_open plan m S) any (rw e at ends) }

without_fault : {A : Type 0} (plan : Plan) (m : Meaning A) (S : State A) (any : Bool) (x : Option Fault) (es : List Event) → es ≡ unless_fault x (ready_in plan m S)
    → ending_by plan m S x es ≡ told any → AtRest plan m S any
without_fault plan m S any x (e ∷ es) same ends = absurd (not_running any ends)
without_fault plan m S any (Some x) [] same ends = absurd (no_fault x any ends)
without_fault plan m S any None [] same ends = before_limit plan m S any (nat_le plan.limit S.number) refl (sym same) ends

-- where a run is stuck or finished, nothing may come, and something is any or nothing is
pub at_rest : {A : Type 0} (plan : Plan) (m : Meaning A) (run : List Event) (any : Bool) → ending_of plan m run ≡ told any → AtRest plan m (state_after plan m run) any
unfolding ending_of ready
at_rest plan m run any ends = without_fault plan m (state_after plan m run) any (last_fault run) (ready plan m run) refl ends

-- no candidate may come
pub may_not : {A : Type 0} (plan : Plan) (m : Meaning A) (S : State A) (any : Bool) (e : Event) → AtRest plan m S any → Has e (candidates plan m S) → may plan m S e ≡ false
may_not plan m S any e rest has = none_passes (may plan m S) (candidates plan m S) rest.nothing e has

-- the lines of a stuck run are those of its state
pub stuck_lines : {A : Type 0} (plan : Plan) (m : Meaning A) (run : List Event) → ending_of plan m run ≡ ending.Stuck → wait_list plan m run ≡ wait_lines plan m (state_after plan m run)
unfolding wait_list
stuck_lines plan m run ends = rw ends refl

pub at_the_end : {A : Type 0} (plan : Plan) (m : Meaning A) (Q : State A → Type 0) (run : List Event) → ((n : ℕ) → Q (state_after plan m (take n run))) → Q (state_after plan m run)
at_the_end plan m Q run h = subst (λ (es : List Event). Q (state_after plan m es)) (take-length run) (h (length run))
