use Rattle.std.proofs.Common.{refl, arith, take, drop, length, ◌-◌}
use Rattle.std.proofs.lemmas.List.{length-take}
use Rattle.wdf_parse.proofs.LinesTaken.{taken_next, taken_refused}
use Rattle.wdf_parse.proofs.parsing.take_lines.Goals as goal

-- the line is taken
pub loop-at-preserved : goal.loop-at-preserved
loop-at-preserved c =
    let text = c.args.text.now in
    let at = c.loop-at.at in
    let len = c.line_len-len.result in
    taken_next c.args.reader.now text at c.loop-at.number len (take len (take (length text - at) (drop at text))) c.loop-at.reader c.take_line.new.self
    c.loop-at.invariant c.loop-at-test.true c.line_len-len.ensures.value refl (omega (arith, length-take len (take (length text - at) (drop at text)))) c.in-Ok.ensures.taken c.in-Ok.ensures.room c.in-Ok.ensures.lines

-- the line is refused
pub returns-in-Err-clause-refused : goal.returns-in-Err-clause-refused
returns-in-Err-clause-refused c =
    let text = c.args.text.now in
    let at = c.loop-at.at in
    let len = c.line_len-len.result in
    taken_refused c.args.reader.now text at c.loop-at.number len (take len (take (length text - at) (drop at text))) c.loop-at.reader c.in-Err.refusal
    c.loop-at.invariant c.loop-at-test.true c.line_len-len.ensures.value refl c.in-Err.ensures.refused
