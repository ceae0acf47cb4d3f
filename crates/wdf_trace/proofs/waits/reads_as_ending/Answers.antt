-- The ending that a line gives is the one that it is tried for.
use Rattle.std.proofs.Common.{ap, ◌∙◌, ◌<◌, ◌^◌, ℕ, subst, sym}
use Rattle.wdf_trace.specs.Reading.{word, number_of}
use Rattle.wdf_trace.specs.Waits.{ending_of}
use Rattle.wdf_trace.proofs.WaitLaws.{ending_read, number_of_small}
use Rattle.wdf_trace.proofs.waits.reads_as_ending.Goals as goal

pub returns : goal.returns
returns c =
    let P : ℕ → Type 0 = λ n. n < 2 ^ 64 in (
      λ t.
          let p = c.is_line_of_ending.ensures.0 t in
          (c.number_of-events.result, c.ending_of-ending.result, subst P (sym c.number_of-events.ensures) (number_of_small c.word-2.result.now), p.0, p.1),
      λ is.
          c.is_line_of_ending.ensures.1
          (ending_read c.args.text.now c.number_of-events.result c.ending_of-ending.result (c.number_of-events.ensures ∙ ap number_of c.word-2.ensures) (c.ending_of-ending.ensures ∙ ap ending_of c.word.ensures) is),
    )
