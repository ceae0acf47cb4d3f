-- The rows are put in order, and written.
use Rattle.wdf_hunt.proofs.sum.table_of.Goals as goal

pub returns-clause-due : goal.returns-clause-due
returns-clause-due c = λ input is. record {
  sum = c.args.sum;
  is = is;
  rows = c.sort.new.self;
  table = c.sort.ensures _ is.tally;
  text_is = c.in_ok-text.ensures;
  status_is = c.status-status.ensures.value;
}
