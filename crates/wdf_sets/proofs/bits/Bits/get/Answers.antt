use Rattle.std.proofs.Common.{◌%◌, ◌==◌, sym, ap, ◌∙◌}
use Rattle.std.specs.Int.{bit_at}
use Rattle.std.proofs.lemmas.Nat.Bits.{shr_and_one}
use Rattle.wdf_sets.specs.Members.{is_in}
use Rattle.wdf_sets.proofs.Ones.{in_bits}
use Rattle.wdf_sets.proofs.bits.Bits.get.Goals as goal

pub returns : goal.returns
returns c =
    ap (λ n. n == 1) (shr_and_one c.get.result (c.args.id % 64)) ∙ ap (λ w. bit_at w (c.args.id % 64) == 1) c.get.ensures ∙ sym (in_bits c.self.inside.words c.args.id) ∙ ap (is_in c.args.id) c.self.view_is
