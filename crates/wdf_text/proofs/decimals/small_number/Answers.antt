use Rattle.std.proofs.Common.{arith, ap, refl, ◌∙◌}
use Rattle.std.proofs.lemmas.List.{drop_all}
use Rattle.wdf_text.specs.Decimals.{number_after}
use Rattle.wdf_text.proofs.Numbers.{small_number_fits, small_number_large}
use Rattle.wdf_text.proofs.decimals.small_number.Goals as goal

-- the digits so far and the next one are too many already
pub returns-in-None : goal.returns-in-None
returns-in-None c =
    small_number_large c.args.digits.now c.loop-digit.value c.loop-digit.digit-index _ c.loop-digit.invariant.0 c.loop-digit-test.true refl (omega (arith, c.in-None.ensures))

-- all digits are read
pub returns : goal.returns
returns c =
    small_number_fits c.args.digits.now c.loop-digit.value
    (c.loop-digit.invariant.0 ∙ ap (number_after c.loop-digit.value) (drop_all c.loop-digit.digit-index c.args.digits.now c.loop-digit-test.false))
    c.loop-digit.invariant.1
