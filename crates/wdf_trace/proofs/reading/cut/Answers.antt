use Rattle.std.proofs.Common.{◌∙◌, ◌+◌, [], take, drop, refl, sym, ap}
use Rattle.wdf_trace.specs.Reading.{word, words}
use Rattle.wdf_trace.proofs.FirstWords.{words_cut, words_whole, rest_from, no_word, later_word}
use Rattle.wdf_trace.proofs.reading.cut.Goals as goal

pub returns-in-Some-clause-first : goal.returns-in-Some-clause-first
returns-in-Some-clause-first c = rw (words_cut c.args.text.now c.in-Some.end (sym c.in-Some.ensures)) refl

pub returns-in-Some-clause-after : goal.returns-in-Some-clause-after
returns-in-Some-clause-after c = λ k.
    ap (λ t. word k (words t)) (rest_from (c.in-Some.end + 1) c.args.text.now)
    ∙ later_word k (take c.in-Some.end c.args.text.now) (words (drop (c.in-Some.end + 1) c.args.text.now))
    ∙ ap (word (k + 1)) (sym (words_cut c.args.text.now c.in-Some.end (sym c.in-Some.ensures)))

pub returns-in-None-clause-first : goal.returns-in-None-clause-first
returns-in-None-clause-first c = rw (words_whole c.args.text.now (sym c.in-None.ensures)) refl

pub returns-in-None-clause-after : goal.returns-in-None-clause-after
returns-in-None-clause-after c = λ k.
    no_word k ∙ later_word k c.args.text.now [] ∙ ap (word (k + 1)) (sym (words_whole c.args.text.now (sym c.in-None.ensures)))
