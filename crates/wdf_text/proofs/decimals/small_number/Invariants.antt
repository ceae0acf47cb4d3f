use Rattle.std.proofs.Common.{◌≡◌, ◌<◌, ◌^◌, drop}
use Rattle.wdf_text.specs.Decimals.{number_after}
use Rattle.wdf_text.proofs.decimals.small_number.Given as goal

abbrev pub invariant-loop-digit : goal.invariant-loop-digit
invariant-loop-digit l = (number_after 0 l.digits ≡ number_after l.value (drop l.digit-index l.digits)) × (l.value < 2 ^ 64)
