use Rattle.std.proofs.Common.{◌≡◌, ◌∙◌, Some, slice_get, sym, ap}
use Rattle.std.proofs.lemmas.Option.{slice_get-get_or}
use Rattle.wdf_trace.specs.Reading.{word, words}
use Rattle.wdf_trace.proofs.FirstWords.{kept_at}
use Rattle.wdf_trace.proofs.reading.Words.at.Goals as goal

pub returns-in-Some : goal.returns-in-Some
returns-in-Some c =
    let got = c.in-Some.ensures.lookup in
    let found : slice_get c.self.inside.first c.args.place ≡ Some c.in-Some.word.now = slice_get-get_or c.self.inside.first c.args.place c.in-Some.word.now got.3.0 ∙ ap Some (sym got.1) in
    let shown : c.in-Some.word.now.now ≡ word c.args.place (words c.self.inside.text.now) = kept_at (λ x. x.now) c.self.inside.first c.args.place c.in-Some.word.now (words c.self.inside.text.now) c.self.invariant found in
    shown ∙ ap (word c.args.place) c.self.view_is
