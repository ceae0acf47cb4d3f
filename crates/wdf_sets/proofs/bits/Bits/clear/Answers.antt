use Rattle.std.proofs.Common.{◌≡◌, false, length, replicate, sym, ap, ◌∙◌}
use Rattle.wdf_sets.specs.Words.{bits_of}
use Rattle.wdf_sets.proofs.Ones.{length_bits, bits_of_zeros}
use Rattle.wdf_sets.proofs.bits.Bits.clear.Goals as goal

pub returns : goal.returns
returns c =
    let words = c.self.inside.words in
    let same : length (bits_of words) ≡ length c.args.self.now = ap length c.self.view_is in
    ap bits_of c.clear.ensures ∙ bits_of_zeros (length words) ∙ ap (λ n. replicate n false) (sym (length_bits words) ∙ same)
