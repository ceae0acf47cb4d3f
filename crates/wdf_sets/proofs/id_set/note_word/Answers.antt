use Rattle.std.proofs.Common.{false, slice_set, sym, ap, ◌∙◌}
use Rattle.std.proofs.lemmas.List.{set-get_or}
use Rattle.wdf_sets.proofs.Noted.{is_some_word, same_bit}
use Rattle.wdf_sets.proofs.id_set.note_word.Goals as goal

pub returns-then-get-some : goal.returns-then-get-some
returns-then-get-some c = c.set.ensures ∙ ap (slice_set c.args.words.now c.args.word) (c.is_some-some.ensures ∙ is_some_word c.args.bits.now c.args.word c.first_in_word.result c.first_in_word.ensures)

pub returns-else-get-some : goal.returns-else-get-some
returns-else-get-some c =
    let words = c.args.words.now in
    sym (set-get_or words c.args.word false)
    ∙ ap (slice_set words c.args.word) (sym c.get.ensures ∙ same_bit c.get.result c.is_some-some.result c.if-get-some.false ∙ c.is_some-some.ensures ∙ is_some_word c.args.bits.now c.args.word c.first_in_word.result c.first_in_word.ensures)
