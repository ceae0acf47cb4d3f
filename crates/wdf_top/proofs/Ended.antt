-- A run that was made is one of the plan and has ended; and what holds of a trace.
use Rattle.std.proofs.Common.{ℕ, ◌≡◌, List, [], refl}
use Rattle.wdf_base.specs.Meaning.{Meaning}
use Rattle.wdf_base.specs.declared.plan.Plan.{Plan}
use Rattle.wdf_base.specs.declared.event.Event.{Event}
use Rattle.wdf_base.specs.declared.event.Ending.TheVariants as ending
use Rattle.wdf_model.specs.rules.Ready.{ending_of, ready, IsPickedRun, IsRunOf}
use Rattle.wdf_model.proofs.Runs.{picked_is_run, picked_once, run_opens}
use Rattle.wdf_run.proofs.Endings.{has_ended}
use Rattle.wdf_output.specs.Endings.{status_of}
use Rattle.wdf_run_text.specs.Texts.{text_of}
use Rattle.wdf_top.specs.declared.run.Picks.{Picks}
use Rattle.wdf_top.specs.Answers.{By, Freely, IsRunBy, IsTraceOf, Picking, picks_of}

-- a run is one of the plan, however it is picked
pub made_runs : {A : Type 0} (plan : Plan) (m : Meaning A) (by : Picking) (run : List Event) → IsRunBy plan m by run → IsRunOf plan m run
made_runs plan m (By picks) run made = picked_is_run (ready plan m) (picks_of picks plan) [] run (run_opens (ready plan m)) made
made_runs plan m Freely run made = made.0

-- and it has ended
pub made_ends : {A : Type 0} (plan : Plan) (m : Meaning A) (by : Picking) (run : List Event) → IsRunBy plan m by run → ending_of plan m run ≡ ending.Running → ⊥
made_ends plan m (By picks) run made = has_ended plan m run made.ends
made_ends plan m Freely run made = made.1

pub trace_of_run : {A : Type 0} (plan : Plan) (m : Meaning A) (by : Picking) (text : List ℕ) (status : ℕ) → IsTraceOf plan m by text status
    → (run : List Event) × IsRunOf plan m run × (ending_of plan m run ≡ ending.Running → ⊥) × (text ≡ text_of plan m run)
trace_of_run plan m by text status trace = (trace.run, made_runs plan m by trace.run trace.made, made_ends plan m by trace.run trace.made, trace.text_is)

pub one_text : {A : Type 0} (plan : Plan) (m : Meaning A) (picks : List ℕ) (run another : List Event) → IsPickedRun plan m picks run → IsPickedRun plan m picks another
    → (text_of plan m run ≡ text_of plan m another) × (status_of (ending_of plan m run) ≡ status_of (ending_of plan m another))
one_text plan m picks run another a b =
    let same : run ≡ another = picked_once (ready plan m) picks [] run another a b in (rw same refl, rw same refl)

pub one_trace : {A : Type 0} (plan : Plan) (m : Meaning A) (picks : Picks) (text other : List ℕ) (status another : ℕ) → IsTraceOf plan m (By picks) text status → IsTraceOf plan m (By picks) other another
    → (text ≡ other) × (status ≡ another)
one_trace plan m picks text other status another a b =
    let same : a.run ≡ b.run = picked_once (ready plan m) (picks_of picks plan) [] a.run b.run a.made b.made in (
      rw (a.text_is, b.text_is, same) refl,
      rw (a.status_is, b.status_is, same) refl,
    )
