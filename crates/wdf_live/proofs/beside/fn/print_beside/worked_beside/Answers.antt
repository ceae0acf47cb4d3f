-- What the printer says of its end.
use Rattle.wdf_live.proofs.beside.fn.print_beside.worked_beside.Goals as goal

pub returns : goal.returns
returns g c = record {
  own = c.print_all.ensures.own;
  takes = c.print_all.ensures.takes;
  lines = c.print_all.ensures.lines;
  told = c.print_all.ensures.told;
  not_again = record { ends = c.print_all.ensures.not_again };
}
