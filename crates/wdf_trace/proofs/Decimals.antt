-- What decimal digits are.
use Rattle.std.proofs.Common.{◌≡◌, ℕ, ◌^◌, ◌<◌, false, unwrap_or, ap, ◌∙◌, lt-ltb, arith, decimal}
use Rattle.std.specs.Char.{is_ascii_digit}
use Rattle.std.proofs.lemmas.Bool.{cond-true}
use Rattle.wdf_text.proofs.ReadBack.{decimal_digits, small_number-decimal}
use Rattle.wdf_trace.specs.Reading.{number_of, short_of, below}
use Rattle.wdf_trace.proofs.Blanks.{Lacks, Lacks_from}

-- digits have no byte that is no digit
pub Lacks_decimal : (c n : ℕ) → is_ascii_digit c ≡ false → n < 2 ^ 64 → Lacks c (decimal n)
Lacks_decimal c n bad h = record { each = Lacks_from is_ascii_digit c (decimal n) bad (decimal_digits n h) }

-- a number below a bound
pub below_is : (bound n : ℕ) → n < bound → below bound n ≡ n
below_is bound n h = cond-true _ n 0 (lt-ltb n bound h)

pub number_of-decimal : (n : ℕ) → n < 2 ^ 64 → number_of (decimal n) ≡ n
number_of-decimal n h = ap (λ o. unwrap_or o 0) (small_number-decimal n h)

pub short_of-decimal : (n : ℕ) → n < 2 ^ 32 → short_of (decimal n) ≡ n
short_of-decimal n h =
    let wide : n < 2 ^ 64 = omega arith in
    ap (below (2 ^ 32)) (number_of-decimal n wide) ∙ below_is (2 ^ 32) n h
