use Rattle.std.proofs.Common.{◌≡◌, ◌+◌, ◌-◌, ◌*◌, ◌/◌, ◌%◌, ◌<◌, ◌^◌, length, bit_and, slice_index, subst, sym, ap, ◌∙◌, arith}
use Rattle.std.specs.Int.RustNames.{count_ones}
use Rattle.std.proofs.Math.Nat.{mod-eq_of_lt}
use Rattle.std.proofs.lemmas.Nat.{and_mask}
use Rattle.wdf_sets.specs.Members.{rank}
use Rattle.wdf_sets.specs.Words.{bits_of}
use Rattle.wdf_sets.proofs.Ones.{length_bits, mask_of, part_fits, ones_of_part}
use Rattle.wdf_sets.proofs.bits.Bits.count_part.Goals as goal

pub returns : goal.returns
returns c =
    let words = c.self.inside.words in
    let start = c.args.start in
    let width = c.args.width in
    let long = length_bits words in
    let same : length (bits_of words) ≡ length c.args.self.now = ap length c.self.view_is in
    let within : start / 64 < length words = omega arith in
    let v = slice_index words (start / 64) / 2 ^ (start % 64) in
    let less : v % 2 ^ width < 2 ^ 64 = part_fits v width (omega arith) in
    let whole : v % 2 ^ width % 2 ^ 64 ≡ v % 2 ^ width = mod-eq_of_lt less in
    let low : bit_and (c.get.result / 2 ^ (start % 64)) (1 * 2 ^ width % 2 ^ 64 - 1) ≡ v % 2 ^ width
    = ap (bit_and (c.get.result / 2 ^ (start % 64))) (mask_of width (omega arith)) ∙ and_mask (c.get.result / 2 ^ (start % 64)) width ∙ ap (λ w. w / 2 ^ (start % 64) % 2 ^ width) c.get.ensures in
    subst (λ bits. c.ones.result + rank start bits ≡ rank (start + width) bits) c.self.view_is
    (subst (λ n. n + rank start (bits_of words) ≡ rank (start + width) (bits_of words)) (sym (c.ones.ensures.value ∙ ap (λ w. count_ones (w % 2 ^ 64)) low ∙ ap count_ones whole))
    (ones_of_part words start width within (omega arith)))
