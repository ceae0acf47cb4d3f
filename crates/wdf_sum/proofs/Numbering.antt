-- A number at the front of a text, and what comes behind it.
use Rattle.std.proofs.Common.{◌≡◌, ℕ, ◌^◌, ◌<◌, Bool, true, false, cond, not, List, [], ◌∷◌, ◌++◌, length, take, drop, bytes_eq, decimal, Some, None, refl, ap, ◌∙◌, sym}
use Rattle.std.specs.Char.{is_ascii_digit}
use Rattle.std.specs.List.{list_all, take_while}
use Rattle.std.proofs.lemmas.Bool.{and_parts}
use Rattle.std.proofs.lemmas.List.{append_cancel_left}
use Rattle.std.proofs.lemmas.Slice.Eq.{bytes_eq-Decides}
use Rattle.std.proofs.lemmas.List.Sums.{take_while-cons}
use Rattle.wdf_text.specs.Decimals.{small_number}
use Rattle.wdf_text.proofs.ReadBack.{decimal_digits, small_number-decimal}
use Rattle.wdf_sum.specs.Lines.{ends_digits}

some_inj : (a b : ℕ) → Some a ≡ Some b → a ≡ b
some_inj a b h = cc

-- two numbers with the same digits are one
pub same_number : (n m : ℕ) → n < 2 ^ 64 → m < 2 ^ 64 → decimal n ≡ decimal m → n ≡ m
same_number n m few less same = some_inj n m (sym (small_number-decimal n few) ∙ ap small_number same ∙ small_number-decimal m less)

stops_by : (b : ℕ) (bytes : List ℕ) → not (is_ascii_digit b) ≡ true → take_while is_ascii_digit (b ∷ bytes) ≡ []
stops_by b bytes ends = take_while-cons is_ascii_digit b bytes ∙ by_test (is_ascii_digit b) ends
  where
    by_test : (t : Bool) → not t ≡ true → cond t (b ∷ take_while is_ascii_digit bytes) [] ≡ []
    by_test true h = absurd (let z : ⊥ = cc in z)
    by_test false h = refl

stops : (word more : List ℕ) → ends_digits word ≡ true → take_while is_ascii_digit (word ++ more) ≡ []
stops [] more ends = absurd (let z : ⊥ = cc in z)
stops (b ∷ bytes) more ends = stops_by b (bytes ++ more) ends

digits_taken : (digits word more : List ℕ) → ends_digits word ≡ true → list_all is_ascii_digit digits ≡ true → take_while is_ascii_digit (digits ++ (word ++ more)) ≡ digits
digits_taken [] word more ends all = stops word more ends
digits_taken (d ∷ ds) word more ends all =
    let parts = and_parts (is_ascii_digit d) (list_all is_ascii_digit ds) all in
    take_while-cons is_ascii_digit d (ds ++ (word ++ more))
    ∙ ap (λ b. cond b (d ∷ take_while is_ascii_digit (ds ++ (word ++ more))) []) parts.0
    ∙ ap (λ (ys : List ℕ). d ∷ ys) (digits_taken ds word more ends parts.1)

-- a text that begins with the digits of a number, so many, and with a word
pub record IsNumbered (text word : List ℕ) (number : ℕ) (rest : List ℕ) (len : ℕ) : Type 0 where
  pub digits : take len text ≡ decimal number
  pub behind : drop len text ≡ word ++ rest

take_front : (xs ys : List ℕ) → take (length xs) (xs ++ ys) ≡ xs
take_front [] ys = refl
take_front (x ∷ xs) ys = ap (λ (l : List ℕ). x ∷ l) (take_front xs ys)

drop_front : (xs ys : List ℕ) → drop (length xs) (xs ++ ys) ≡ ys
drop_front [] ys = refl
drop_front (x ∷ xs) ys = drop_front xs ys

pub numbered : (text word rest : List ℕ) (number len : ℕ) → len ≡ length (take_while is_ascii_digit text) → ends_digits word ≡ true → number < 2 ^ 64 → text ≡ decimal number ++ (word ++ rest)
    → IsNumbered text word number rest len
numbered text word rest number len counted ends few is =
    let taken : take_while is_ascii_digit text ≡ decimal number = ap (take_while is_ascii_digit) is ∙ digits_taken (decimal number) word rest ends (decimal_digits number few) in
    let size : len ≡ length (decimal number) = counted ∙ ap length taken in
    record {
      digits = ap (λ n. take n text) size ∙ ap (take (length (decimal number))) is ∙ take_front (decimal number) (word ++ rest);
      behind = ap (λ n. drop n text) size ∙ ap (drop (length (decimal number))) is ∙ drop_front (decimal number) (word ++ rest);
    }

-- the number that was read is the one that is there, and so is what comes behind it
pub same_reading : (text word rest rest' : List ℕ) (number number' len : ℕ) → len ≡ length (take_while is_ascii_digit text) → ends_digits word ≡ true → number < 2 ^ 64 → number' < 2 ^ 64
    → text ≡ decimal number ++ (word ++ rest) → take len text ≡ decimal number' → drop len text ≡ word ++ rest' → (number' ≡ number) × (rest' ≡ rest)
same_reading text word rest rest' number number' len counted ends few less is digits behind =
    let there = numbered text word rest number len counted ends few is in (
      same_number number' number less few (sym digits ∙ there.digits),
      append_cancel_left word rest' rest (sym behind ∙ there.behind),
    )

-- ---- what digits write

-- digits of no number of 64 bits are those of none
pub none_written : (digits : List ℕ) (number : ℕ) → None ≡ small_number digits → number < 2 ^ 64 → digits ≡ decimal number → ⊥
none_written digits number none few is =
    let there : small_number digits ≡ Some number = ap small_number is ∙ small_number-decimal number few in
    let z : ⊥ = cc in z

-- digits that aren't those of the number that they write are those of no other
pub other_written : (digits : List ℕ) (other number : ℕ) → Some other ≡ small_number digits → bytes_eq (decimal other) digits ≡ false → number < 2 ^ 64 → digits ≡ decimal number → ⊥
other_written digits other number some differs few is =
    let there : small_number digits ≡ Some number = ap small_number is ∙ small_number-decimal number few in
    let same : other ≡ number = some_inj other number (some ∙ there) in
    let alike : bytes_eq (decimal other) digits ≡ true = (bytes_eq-Decides (decimal other) digits).1 (ap decimal same ∙ sym is) in
    let z : ⊥ = cc in z
