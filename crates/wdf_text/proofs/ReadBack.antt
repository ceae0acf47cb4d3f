-- The decimal digits of a number are read back as it.
use Rattle.std.proofs.Common.{◌≡◌, ℕ, ◌^◌, ◌<◌, true, List, [], ◌∷◌, Some, rules, refl, sym, decimal}
use Rattle.std.specs.Char.{is_ascii_digit}
use Rattle.std.specs.List.{list_all}
use Rattle.std.specs.Str.{all_ascii_digits}
use Rattle.std.proofs.lemmas.Str.Parse.{IsNumeralModel, numerals_by_fold}
use Rattle.std.proofs.lemmas.Fmt.{digits_decimal, digits_value-decimal}
use Rattle.std.proofs.lemmas.Bool.{and_parts, and_from}
use Rattle.wdf_text.specs.Decimals.{number_after, small_number}
use Rattle.wdf_text.proofs.Numbers.{small_number_fits}

own : IsNumeralModel (λ ds. all_ascii_digits ds ≡ true) (number_after 0)
own = numerals_by_fold _ (search rules) number_after (search rules)

all_digits : (ds : List ℕ) → all_ascii_digits ds ≡ true → list_all is_ascii_digit ds ≡ true
all_digits [] h = refl
all_digits (d ∷ ds) h =
    let k = and_parts (is_ascii_digit d) (all_ascii_digits ds) h in
    and_from (is_ascii_digit d) (list_all is_ascii_digit ds) k.0 (all_digits ds k.1)

pub decimal_digits : (n : ℕ) → n < 2 ^ 64 → list_all is_ascii_digit (decimal n) ≡ true
decimal_digits n h = all_digits (decimal n) (digits_decimal own n h)

pub small_number-decimal : (n : ℕ) → n < 2 ^ 64 → small_number (decimal n) ≡ Some n
small_number-decimal n h = sym (small_number_fits (decimal n) n (digits_value-decimal own n h) h)
