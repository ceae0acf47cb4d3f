use Rattle.std.proofs.Common.{◌≡◌, ◌/◌, ◌%◌, ◌<◌, length, slice_set, ap, subst, ◌∙◌, arith}
use Rattle.wdf_sets.specs.Words.{bits_of, Writes}
use Rattle.wdf_sets.proofs.Ones.{length_bits, bits_written}
use Rattle.wdf_sets.proofs.bits.Bits.set.Goals as goal

pub set-requires : goal.set-requires
set-requires c =
    let long = length_bits c.self.inside.words in
    let same : length (bits_of c.self.inside.words) ≡ length c.args.self.now = ap length c.self.view_is in
    omega arith

pub returns : goal.returns
returns c =
    let words = c.self.inside.words in
    let long = length_bits words in
    let same : length (bits_of words) ≡ length c.args.self.now = ap length c.self.view_is in
    let within : c.args.id / 64 < length words = omega arith in
    ap bits_of c.set.ensures
    ∙ bits_written words c.args.id c.with_bit.result c.args.on within (subst (λ w. Writes w c.with_bit.result (c.args.id % 64) c.args.on) c.get-word.ensures c.with_bit.ensures)
    ∙ ap (λ bits. slice_set bits c.args.id c.args.on) c.self.view_is
