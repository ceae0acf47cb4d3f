-- One line more, or the first that can't be read.
use Rattle.wdf_expect.proofs.Found.{found_next, found_error}
use Rattle.wdf_expect.proofs.reading.take_lines.Goals as goal

pub loop-at-preserved : goal.loop-at-preserved
loop-at-preserved c =
    found_next c.args.text.now c.loop-at.at c.loop-at.number c.line_len-len.result c.loop-at.found.items c.take_line.new.found.items c.loop-at.invariant c.loop-at-test.true
    c.line_len-len.ensures.value c.in-Ok.ensures.taken

pub returns-in-Err-clause-refused : goal.returns-in-Err-clause-refused
returns-in-Err-clause-refused c =
    found_error c.args.text.now c.loop-at.at c.loop-at.number c.line_len-len.result c.loop-at.found.items c.in-Err.error c.loop-at.invariant c.loop-at-test.true
    c.line_len-len.ensures.value c.in-Err.ensures.refused
