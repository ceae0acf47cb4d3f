-- What is told for `run` and `watch`, and for other words.
use Rattle.std.proofs.Common.{sym, ap, ◌∙◌}
use Rattle.std.specs.Prelude.{is_some, map, string_bytes}
use Rattle.wdf_serve.proofs.Forms.{form_told, run_told}
use Rattle.wdf_serve.proofs.call.answer.Goals as goal

pub returns-in-Some : goal.returns-in-Some
returns-in-Some g c = record {
  told = run_told (map string_bytes c.args.words.now) _ _ _ (sym c.asked_of_threads.ensures ∙ ap is_some c.in-Some.is) c.serve_threaded.ensures.told;
  not_again = c.serve_threaded.ensures.not_again;
}

pub returns-in-None : goal.returns-in-None
returns-in-None g c = record {
  told = form_told (map string_bytes c.args.words.now) _ _ _ (sym c.asked_of_threads.ensures ∙ ap is_some c.in-None.is) c.top_plain.ensures.promises.told;
  not_again = c.top_plain.ensures.not_again;
}
