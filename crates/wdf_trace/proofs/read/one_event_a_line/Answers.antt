-- Both events are the one that the line gives.
use Rattle.std.proofs.Common.{sym, ap, ◌∙◌}
use Rattle.wdf_trace.specs.Reading.{word, words, number_of}
use Rattle.wdf_trace.specs.Told.{event_in}
use Rattle.wdf_trace.proofs.EventLaws.{line_number, line_event}
use Rattle.wdf_trace.proofs.ResolvedLaws.{HasNames-resolved}
use Rattle.wdf_trace.proofs.read.one_event_a_line.Goals as goal

pub returns : goal.returns
returns c = λ plan h j k e f small fits valid right same.
    let names = HasNames-resolved plan h in (
      sym (line_number plan names j e small valid) ∙ ap (λ t. number_of (word 0 (words t))) same ∙ line_number plan names k f fits right,
      sym (line_event plan names j e small valid) ∙ ap (λ t. event_in plan (words t)) same ∙ line_event plan names k f fits right,
    )
