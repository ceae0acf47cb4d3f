-- The clause is the lemma on lines that name a cause, for this form.
use Rattle.wdf_base.specs.declared.wait.OpenThing.TheVariants as thing
use Rattle.wdf_model.specs.rules.Ready.{state_after}
use Rattle.law_stuck_causes.proofs.Stages.{line_named}
use Rattle.law_stuck_causes.proofs.Works.{timer_runs}
use Rattle.law_stuck_causes.proofs.timers_name_a_cause.Goals as goal

pub returns : goal.returns
returns g c = λ plan m run is_run ends k o x h off queued live has. line_named plan m run is_run ends k (record { thing = thing.Deferred o; cause = x }) h (timer_runs plan (state_after plan m run) o.id.0 off queued live has)
