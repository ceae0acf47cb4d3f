-- Each list is that of a rank, which rises.
use Rattle.wdf_base.specs.declared.rank.Rank.TheVariants as rank
use Rattle.wdf_ready.proofs.Skipped.{startable_rises}
use Rattle.wdf_ready.proofs.groups.objects_of.Goals as goal

pub invariant_of-result : goal.invariant_of-result
invariant_of-result c = record {
  targets = startable_rises c.args.plan.now rank.Completion _ c.in_ok-targets.ensures;
  cancels = startable_rises c.args.plan.now rank.Cancel _ c.in_ok-cancels.ensures;
  returns = startable_rises c.args.plan.now rank.CanceledOnQueue _ c.in_ok-returns.ensures;
  stops = startable_rises c.args.plan.now rank.Stop _ c.in_ok-stops.ensures;
  resumes = startable_rises c.args.plan.now rank.Resume _ c.in_ok-resumes.ensures;
}
