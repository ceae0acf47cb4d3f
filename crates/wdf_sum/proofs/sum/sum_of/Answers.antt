-- What the lines of the input come to.
use Rattle.wdf_sum.proofs.sum.sum_of.Goals as goal

pub returns-in-Ok-clause-sum : goal.returns-in-Ok-clause-sum
returns-in-Ok-clause-sum c = c.closed.ensures.sum c.args.text.now c.in-Ok.ensures.read

pub returns-in-Ok-clause-none : goal.returns-in-Ok-clause-none
returns-in-Ok-clause-none c = c.closed.ensures.none c.args.text.now c.in-Ok.ensures.read

pub returns-in-Ok-clause-some : goal.returns-in-Ok-clause-some
returns-in-Ok-clause-some c = c.closed.ensures.some c.args.text.now c.in-Ok.ensures.read

pub returns-in-Ok-clause-fits : goal.returns-in-Ok-clause-fits
returns-in-Ok-clause-fits c = c.closed.ensures.fits c.args.text.now c.in-Ok.ensures.read
