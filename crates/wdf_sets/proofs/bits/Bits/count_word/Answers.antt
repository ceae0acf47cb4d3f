use Rattle.std.proofs.Common.{◌≡◌, ◌+◌, ◌/◌, ◌%◌, ◌<◌, ◌^◌, length, subst, sym, ap, ◌∙◌, arith}
use Rattle.std.specs.Int.RustNames.{count_ones}
use Rattle.wdf_sets.specs.Members.{rank}
use Rattle.wdf_sets.specs.Words.{bits_of}
use Rattle.wdf_sets.proofs.Ones.{length_bits, ones_of_word}
use Rattle.wdf_sets.proofs.bits.Bits.count_word.Goals as goal

pub returns-clause-count : goal.returns-clause-count
returns-clause-count c =
    let words = c.self.inside.words in
    let long = length_bits words in
    let same : length (bits_of words) ≡ length c.args.self.now = ap length c.self.view_is in
    let within : c.args.start / 64 < length words = omega arith in
    subst (λ bits. c.ones.result + rank c.args.start bits ≡ rank (c.args.start + 64) bits) c.self.view_is
    (subst (λ n. n + rank c.args.start (bits_of words) ≡ rank (c.args.start + 64) (bits_of words)) (sym (c.ones.ensures.value ∙ ap (λ w. count_ones (w % 2 ^ 64)) c.get.ensures))
    (ones_of_word words (c.args.start / 64) c.args.start (omega arith) within))
