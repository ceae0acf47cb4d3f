-- The clause is the lemma on lines that name a cause, with what is live.
use Rattle.wdf_base.specs.declared.wait.OpenThing.TheVariants as thing
use Rattle.wdf_model.specs.rules.Ready.{state_after}
use Rattle.law_stuck_causes.proofs.Stages.{line_named}
use Rattle.law_stuck_causes.proofs.Works.{item_runs}
use Rattle.law_stuck_named_if.proofs.Works.{item_live}
use Rattle.law_stuck_named_if.proofs.queued_work_items_name_a_cause.Goals as goal

pub returns : goal.returns
returns g c = λ plan m run is_run ends k o x h off queued has. line_named plan m run is_run ends k (record { thing = thing.Deferred o; cause = x }) h (item_runs plan (state_after plan m run) o.id.0 off queued (item_live plan m run is_run o.id.0 queued) has)
