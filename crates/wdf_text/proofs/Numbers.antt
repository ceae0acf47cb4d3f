-- What decimal digits write.
use Rattle.std.proofs.Common.{◌≡◌, ℕ, ◌^◌, Option, Some, None, unwrap_or, ltb, lt-ltb, le-ltb, ◌+◌, ◌-◌, ◌*◌, ◌<◌, ◌≤◌, List, [], ◌∷◌, length, get_or, drop, refl, ap, ◌∙◌, sym, suc, arith, add-one, drop-cons}
use Rattle.std.proofs.lemmas.Bool.{cond_both, ltb-true}
use Rattle.wdf_text.specs.Decimals.{number_after, small_number}

-- more digits make no smaller number
pub number_after_grows : (value : ℕ) (digits : List ℕ) → value ≤ number_after value digits
number_after_grows value [] = omega arith
number_after_grows value (digit ∷ digits) = omega (arith, number_after_grows (10 * value + (digit - 48)) digits)

-- the digit at a place is read on from the number before it
pub number_after_step : (value at : ℕ) (digits : List ℕ) (digit next : ℕ) → at < length digits → digit ≡ get_or digits at 0 → next ≡ 10 * value + (digit - 48) → number_after value (drop at digits) ≡ number_after next (drop (at + 1) digits)
number_after_step value at digits digit next inside is_digit is_next =
    rw (add-one, drop-cons digits at 0) (ap (λ n. number_after n (drop (suc at) digits)) (ap (λ d. 10 * value + (d - 48)) (sym is_digit) ∙ sym is_next))

-- a number that fits is the number of its digits
pub small_number_fits : (digits : List ℕ) (n : ℕ) → number_after 0 digits ≡ n → n < 2 ^ 64 → Some n ≡ small_number digits
small_number_fits digits n is fits =
    let small : number_after 0 digits < 2 ^ 64 = omega arith in
    rw (lt-ltb (number_after 0 digits) (2 ^ 64) small, is) refl

-- a front of the digits that doesn't fit is enough
pub small_number_large : (digits : List ℕ) (value at digit : ℕ) → number_after 0 digits ≡ number_after value (drop at digits) → at < length digits → digit ≡ get_or digits at 0 → 2 ^ 64 ≤ 10 * value + (digit - 48) → None ≡ small_number digits
small_number_large digits value at digit is inside is_digit large =
    let e = number_after_step value at digits digit (10 * value + (digit - 48)) inside is_digit refl in
    let all_large : 2 ^ 64 ≤ number_after 0 digits = omega (arith, number_after_grows (10 * value + (digit - 48)) (drop (at + 1) digits)) in
    rw (le-ltb (number_after 0 digits) (2 ^ 64) all_large) refl

-- with 0 for what doesn't fit, each number that is read fits
pub small_number_below : (digits : List ℕ) → unwrap_or (small_number digits) 0 < 2 ^ 64
small_number_below digits =
    let P : Option ℕ → Type 0 = λ o. unwrap_or o 0 < 2 ^ 64 in
    cond_both (ltb (number_after 0 digits) (2 ^ 64)) (Some (number_after 0 digits)) None P (λ e. ltb-true (number_after 0 digits) (2 ^ 64) e) (λ e. omega arith)
