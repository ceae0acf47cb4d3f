-- A run after which nothing may follow has ended.
use Rattle.std.proofs.Common.{◌≡◌, if◌then◌else◌, nat_le, Bool, true, false, List, [], Option, Some, None}
use Rattle.wdf_base.specs.Meaning.{Meaning}
use Rattle.wdf_base.specs.declared.plan.Plan.{Plan}
use Rattle.wdf_base.specs.declared.event.Event.{Event}
use Rattle.wdf_base.specs.declared.event.Fault.{Fault}
use Rattle.wdf_base.specs.declared.event.Ending.TheVariants as ending
use Rattle.wdf_model.specs.State.{State}
use Rattle.wdf_model.specs.rules.Ready.{ending_of, final_ending, is_open, last_fault, ready, state_after}

-- an ending by two tests is never that the run goes on
no_running : (limited open_still : Bool) → (if limited then ending.Limit else (if open_still then ending.Stuck else ending.Finished)) ≡ ending.Running → ⊥
no_running true b h = let z : ⊥ = cc in z
no_running false true h = let z : ⊥ = cc in z
no_running false false h = let z : ⊥ = cc in z

-- nor is a fault
over : {A : Type 0} (plan : Plan) (m : Meaning A) (S : State A) (x : Option Fault) → final_ending plan m S x ≡ ending.Running → ⊥
over plan m S (Some x) h = let z : ⊥ = cc in z
over plan m S None h = no_running (nat_le plan.limit S.number) (is_open plan m S) h

pub has_ended : {A : Type 0} (plan : Plan) (m : Meaning A) (run : List Event) → ready plan m run ≡ [] → ending_of plan m run ≡ ending.Running → ⊥
unfolding ending_of
has_ended plan m run nothing running = over plan m (state_after plan m run) (last_fault run) (rw nothing at running)
