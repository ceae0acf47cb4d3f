use Rattle.std.proofs.Common.{◌∙◌}
use Rattle.wdf_trace.proofs.VerbLaws.{found_alike}
use Rattle.wdf_trace.proofs.verb.Verb.from_word.Goals as goal

pub returns : goal.returns
returns c =
    c.with_word.ensures ∙ rw c.alike.ensures (found_alike c.args.word.now)
