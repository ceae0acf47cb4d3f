-- The rows are put in order, and written.
use Rattle.std.proofs.Common.{ap, ◌∙◌}
use Rattle.wdf_table.specs.Lines.{table_text}
use Rattle.wdf_hunt.proofs.table.table_of.Goals as goal

pub returns-clause-due : goal.returns-clause-due
returns-clause-due c = λ plan hunt. record {
  tries = hunt.tries;
  are = hunt.are;
  rows = c.sort.new.self;
  table = c.sort.ensures hunt.tries hunt.tally;
  text_is = c.in_ok-text.ensures ∙ ap (λ n. table_text c.sort.new.self c.args.from n c.args.hunted.events) c.from.ensures
      ∙ ap (λ n. table_text c.sort.new.self c.args.from c.args.count n) hunt.events;
  status_is = c.status-status.ensures.value;
}
