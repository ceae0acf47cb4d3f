-- Each line ends with a line feed.
use Rattle.std.proofs.Common.{sym, ◌∙◌}
use Rattle.wdf_sum.proofs.Texts.{line_fed}
use Rattle.wdf_sum.proofs.line.read_line.Goals as goal

pub returns-in-None-clause-none : goal.returns-in-None-clause-none
returns-in-None-clause-none c = λ l is_line same.
    let ends = line_fed l in
    c.in-None.ensures.none ends.0 (sym same ∙ ends.1)
