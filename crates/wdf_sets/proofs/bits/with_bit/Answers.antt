use Rattle.std.proofs.Common.{◌*◌, ◌%◌, ◌^◌, bit_and, bit_or, w64, sym, ◌∙◌}
use Rattle.std.specs.Int.{bit_at, bit_not}
use Rattle.std.proofs.lemmas.Bool.{eq-eqb}
use Rattle.std.proofs.lemmas.Nat.Bits.{bit_at_set_same, bit_at_set_other, bit_at_clear_same, bit_at_clear_other}
use Rattle.wdf_sets.proofs.Ones.{no_one}
use Rattle.wdf_sets.proofs.bits.with_bit.Goals as goal

pub returns-then-on : goal.returns-then-on
returns-then-on c = record {
  here = eq-eqb (bit_at (bit_or c.args.word (1 * 2 ^ c.args.place % 2 ^ 64)) c.args.place) 1 (bit_at_set_same w64 c.args.word c.args.place c.requires) ∙ sym c.if-on.true;
  others = λ j h other. bit_at_set_other w64 c.args.word c.args.place c.requires j other;
}

pub returns-else-on : goal.returns-else-on
returns-else-on c = record {
  here = no_one (bit_at (bit_and c.args.word (bit_not w64 (1 * 2 ^ c.args.place % 2 ^ 64))) c.args.place) (bit_at_clear_same w64 c.args.word c.args.place c.requires) ∙ sym c.if-on.false;
  others = λ j h other. bit_at_clear_other w64 c.args.word c.args.place c.requires j h other;
}
