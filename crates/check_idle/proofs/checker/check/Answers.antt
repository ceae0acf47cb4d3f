-- What is found, place by place, is the first break; it is none exactly where the law is kept, and so of runs.
use Rattle.check_idle.proofs.Firsts.{first_if, kept_if, runs_if}
use Rattle.check_idle.proofs.checker.check.Goals as goal

pub returns-clause-first : goal.returns-clause-first
returns-clause-first c = first_if c.args.plan.now c.args.events.now c.first_broken.result c.first_broken.ensures

pub returns-clause-kept : goal.returns-clause-kept
returns-clause-kept c = kept_if c.args.plan.now c.args.events.now c.first_broken.result c.first_broken.ensures

pub returns-clause-runs : goal.returns-clause-runs
returns-clause-runs c = runs_if c.args.plan.now c.args.events.now c.first_broken.result c.first_broken.ensures
