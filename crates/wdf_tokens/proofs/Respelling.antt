-- Tokens that are spelled are read again.
use Rattle.std.proofs.Common.{◌≡◌, ℕ, suc, ◌+◌, ◌-◌, ◌^◌, ◌<◌, ◌≤◌, Bool, true, false, cond, not, ◌&&◌, ◌||◌, nat_le, nat_lt, List, [], ◌∷◌, ◌++◌, length, drop, decimal, Some, Ok, Err, refl, ap, ◌∙◌, sym, arith, append_assoc}
use Rattle.std.specs.Prelude.{◌==◌, if◌then◌else◌}
use Rattle.std.specs.Char.{is_ascii_digit, is_ascii_alphabetic}
use Rattle.std.specs.List.{list_all, take_while}
use Rattle.std.proofs.lemmas.Bool.{leb-true, ltb-true, lt-leb, le-leb, ne_eqb, eqb-true}
use Rattle.std.proofs.lemmas.Fmt.{decimal_nonempty}
use Rattle.std.proofs.lemmas.List.Sums.{take_while-cons}
use Rattle.std.proofs.Math.Seq.{drop-append_seam}
use Rattle.wdf_base.specs.declared.call.Callback.{Callback}
use Rattle.wdf_base.specs.declared.script.Operator.{Operator}
use Rattle.wdf_base.specs.declared.script.Operator.TheVariants as operator
use Rattle.wdf_base.specs.Words.{callback_word}
use Rattle.wdf_base.proofs.WordLaws.{callback-back}
use Rattle.wdf_base.proofs.Tests.{both, both_left, both_right, not_true, second}
use Rattle.wdf_scene.specs.Words.{operator_word}
use Rattle.wdf_text.specs.Decimals.{small_number}
use Rattle.wdf_text.proofs.ReadBack.{decimal_digits, small_number-decimal}
use Rattle.wdf_tokens.specs.declared.lexer.Content.TheVariants.{Whole}
use Rattle.wdf_tokens.specs.declared.lexer.TokenFault.TheVariants as fault
use Rattle.wdf_tokens.specs.declared.token.Token.{Token}
use Rattle.wdf_tokens.specs.declared.token.Token.TheVariants as token
use Rattle.wdf_tokens.specs.TokenTexts.{token_text, rest_text, line_text, rest_bytes, line_bytes}
use Rattle.wdf_tokens.specs.Tokens.{is_blank, is_plain, is_name_byte, is_inside, piece, piece_of, digits_piece, letters_piece, number_content, name_content, long_name, long_content, with_token, tokens_from, line_reading, lines_of, with_byte}
use Rattle.wdf_tokens.specs.WellFormed.{is_word, is_token}
use Rattle.wdf_tokens.proofs.LineReading.{tokens_from_head}

list_all_append : (p : ℕ → Bool) (xs ys : List ℕ) → list_all p xs ≡ true → list_all p ys ≡ true → list_all p (xs ++ ys) ≡ true
list_all_append p [] ys h e = e
list_all_append p (x ∷ xs) ys h e = both (p x) (list_all p (xs ++ ys)) (both_left (p x) (list_all p xs) h) (list_all_append p xs ys (both_right (p x) (list_all p xs) h) e)

all_implies : (p q : ℕ → Bool) (xs : List ℕ) → ((b : ℕ) → p b ≡ true → q b ≡ true) → list_all p xs ≡ true → list_all q xs ≡ true
all_implies p q [] h e = refl
all_implies p q (x ∷ xs) h e = both (q x) (list_all q xs) (h x (both_left (p x) (list_all p xs) e)) (all_implies p q xs h (both_right (p x) (list_all p xs) e))

-- ranges of bytes
in_range : (low high b : ℕ) → low ≤ b → b ≤ high → (nat_le low b && nat_le b high) ≡ true
in_range low high b l h = both (nat_le low b) (nat_le b high) (le-leb low b l) (le-leb b high h)

range_low : (low high b : ℕ) → (nat_le low b && nat_le b high) ≡ true → low ≤ b
range_low low high b h = leb-true low b (both_left (nat_le low b) (nat_le b high) h)

range_high : (low high b : ℕ) → (nat_le low b && nat_le b high) ≡ true → b ≤ high
range_high low high b h = leb-true b high (both_right (nat_le low b) (nat_le b high) h)

record Between (low b high : ℕ) : Type 0 where
  least : low ≤ b
  most : b ≤ high

digit_between : (b : ℕ) → is_ascii_digit b ≡ true → Between 48 b 57
digit_between b h = record { least = range_low 48 57 b h; most = range_high 48 57 b h }

alpha_by : (b : ℕ) (upper : Bool) → (nat_le 65 b && nat_le b 90) ≡ upper → (upper || (nat_le 97 b && nat_le b 122)) ≡ true → Between 65 b 122
alpha_by b true is h = record { least = range_low 65 90 b is; most = let most : b ≤ 90 = range_high 65 90 b is in omega arith }
alpha_by b false is h = record { least = let least : 97 ≤ b = range_low 97 122 b h in omega arith; most = range_high 97 122 b h }

alpha_between : (b : ℕ) → is_ascii_alphabetic b ≡ true → Between 65 b 122
alpha_between b h = alpha_by b (nat_le 65 b && nat_le b 90) refl h

name_by : (b : ℕ) (alpha digit : Bool) → is_ascii_alphabetic b ≡ alpha → is_ascii_digit b ≡ digit → ((alpha || digit) || (b == 95)) ≡ true → Between 48 b 122
name_by b true digit is_a is_d h = let r = alpha_between b is_a in record { least = omega (arith, r.least); most = r.most }
name_by b false true is_a is_d h = let r = digit_between b is_d in record { least = r.least; most = omega (arith, r.most) }
name_by b false false is_a is_d h = let e : b ≡ 95 = eqb-true b 95 h in record { least = omega arith; most = omega arith }

name_between : (b : ℕ) → is_name_byte b ≡ true → Between 48 b 122
name_between b h = name_by b (is_ascii_alphabetic b) (is_ascii_digit b) refl refl h

-- a printed byte
abbrev is_printed : ℕ → Bool
is_printed b = nat_le 32 b && nat_le b 126

digit_printed : (b : ℕ) → is_ascii_digit b ≡ true → is_printed b ≡ true
digit_printed b h = let r = digit_between b h in in_range 32 126 b (omega (arith, r.least)) (omega (arith, r.most))

name_printed : (b : ℕ) → is_name_byte b ≡ true → is_printed b ≡ true
name_printed b h = let r = name_between b h in in_range 32 126 b (omega (arith, r.least)) (omega (arith, r.most))

printed_plain : (b : ℕ) → is_printed b ≡ true → is_plain b ≡ true
printed_plain b h = second (b == 9 || b == 10 || b == 13) (is_printed b) h

printed_inside : (b : ℕ) → is_printed b ≡ true → is_inside b ≡ true
printed_inside b h =
    let low : 32 ≤ b = range_low 32 126 b h in
    let other : (b ≡ 10 → ⊥) = λ (e : b ≡ 10). let z : ⊥ = absurd (omega arith) in z in
    ap not (ne_eqb b 10 other)

-- what may come after a token: nothing, or a blank
pub data Stops : List ℕ → Type 0 where
  AtEnd : Stops []
  AtBlank : (rest : List ℕ) → Stops (32 ∷ rest)

stopped : (p : ℕ → Bool) (rest : List ℕ) → p 32 ≡ false → Stops rest → take_while p rest ≡ []
stopped p rest fails AtEnd = refl
stopped p rest fails (AtBlank more) = take_while-cons p 32 more ∙ ap (λ b. cond b (32 ∷ take_while p more) []) fails

-- the front that a test takes, where it takes these bytes and not the next
front_taken : (p : ℕ → Bool) (xs rest : List ℕ) → p 32 ≡ false → list_all p xs ≡ true → Stops rest → take_while p (xs ++ rest) ≡ xs
front_taken p [] rest fails all stops = stopped p rest fails stops
front_taken p (x ∷ xs) rest fails all stops =
    take_while-cons p x (xs ++ rest)
    ∙ ap (λ b. cond b (x ∷ take_while p (xs ++ rest)) []) (both_left (p x) (list_all p xs) all)
    ∙ ap (λ (ys : List ℕ). x ∷ ys) (front_taken p xs rest fails (both_right (p x) (list_all p xs) all) stops)

not_equal : (b k : ℕ) → (b ≡ k → ⊥) → (b == k) ≡ false
not_equal b k h = ne_eqb b k h

not_blank : (b : ℕ) → 33 ≤ b → is_blank b ≡ false
not_blank b h =
    let e1 : (b == 32) ≡ false = not_equal b 32 (λ (e : b ≡ 32). absurd (omega arith)) in
    let e2 : (b == 9) ≡ false = not_equal b 9 (λ (e : b ≡ 9). absurd (omega arith)) in
    let e3 : (b == 13) ≡ false = not_equal b 13 (λ (e : b ≡ 13). absurd (omega arith)) in
    rw (e1, e2, e3) refl

not_comment : (b : ℕ) → 36 ≤ b → (b == 35) ≡ false
not_comment b h = not_equal b 35 (λ (e : b ≡ 35). absurd (omega arith))

not_digit : (b : ℕ) → 58 ≤ b → is_ascii_digit b ≡ false
not_digit b h =
    let low : nat_le 48 b ≡ true = le-leb 48 b (omega arith) in
    let high : nat_le b 57 ≡ false = lt-leb b 57 (omega arith) in
    rw (low, high) refl

-- the piece of a number
digits_front : (b : ℕ) (bytes : List ℕ) → is_ascii_digit b ≡ true → piece_of (b ∷ bytes) ≡ digits_piece (take_while is_ascii_digit (b ∷ bytes))
digits_front b bytes h =
    let r = digit_between b h in
    let blank : is_blank b ≡ false = not_blank b (omega (arith, r.least)) in
    let comment : (b == 35) ≡ false = not_comment b (omega (arith, r.least)) in
    piece_by_tests blank comment
  where
    piece_by_tests : is_blank b ≡ false → (b == 35) ≡ false → piece_of (b ∷ bytes) ≡ digits_piece (take_while is_ascii_digit (b ∷ bytes))
    piece_by_tests blank comment = rw (blank, comment, h) refl

number_piece : (n : ℕ) (ds rest : List ℕ) → list_all is_ascii_digit ds ≡ true → small_number ds ≡ Some n → 0 < length ds → Stops rest → piece_of (ds ++ rest) ≡ piece (length ds) (Whole (token.Number n))
number_piece n [] rest digits is some stops = absurd (omega arith)
number_piece n (b ∷ ds) rest digits is some stops =
    digits_front b (ds ++ rest) (both_left (is_ascii_digit b) (list_all is_ascii_digit ds) digits)
    ∙ ap digits_piece (front_taken is_ascii_digit (b ∷ ds) rest refl digits stops)
    ∙ ap (λ o. piece (length (b ∷ ds)) (number_content o)) is

-- the piece of a word
letters_front : (b : ℕ) (bytes : List ℕ) → is_ascii_alphabetic b ≡ true → piece_of (b ∷ bytes) ≡ letters_piece (take_while is_name_byte (b ∷ bytes))
letters_front b bytes h =
    let r = alpha_between b h in
    piece_by_tests (not_blank b (omega (arith, r.least))) (not_comment b (omega (arith, r.least))) (not_digit b (omega (arith, r.least)))
  where
    piece_by_tests : is_blank b ≡ false → (b == 35) ≡ false → is_ascii_digit b ≡ false → piece_of (b ∷ bytes) ≡ letters_piece (take_while is_name_byte (b ∷ bytes))
    piece_by_tests blank comment digit = rw (blank, comment, digit, h) refl

word_piece : (w rest : List ℕ) → is_word w ≡ true → Stops rest → piece_of (w ++ rest) ≡ letters_piece w
word_piece [] rest is stops = absurd (let z : ⊥ = cc in z)
word_piece (b ∷ bytes) rest is stops =
    letters_front b (bytes ++ rest) (both_left (is_ascii_alphabetic b) (list_all is_name_byte (b ∷ bytes)) is)
    ∙ ap letters_piece (front_taken is_name_byte (b ∷ bytes) rest refl (both_right (is_ascii_alphabetic b) (list_all is_name_byte (b ∷ bytes)) is) stops)

short_content : (w : List ℕ) → nat_le (length w) 32 ≡ true → name_content w ≡ Whole (token.Word w)
short_content w short = ap (λ b. if b then Whole (token.Word w) else long_name w) short

long_found : (c : Callback) → long_name (callback_word c) ≡ Whole (token.LongName c)
unfolding long_name
long_found c = ap long_content (callback-back c)

callback_content : (c : Callback) → nat_lt 32 (length (callback_word c)) ≡ true → name_content (callback_word c) ≡ Whole (token.LongName c)
callback_content c long =
    let large : nat_le (length (callback_word c)) 32 ≡ false = lt-leb (length (callback_word c)) 32 (ltb-true 32 (length (callback_word c)) long) in
    ap (λ b. if b then Whole (token.Word (callback_word c)) else long_name (callback_word c)) large ∙ long_found c

-- the piece of a mark
operator_piece : (op : Operator) (rest : List ℕ) → Stops rest → piece_of (operator_word op ++ rest) ≡ piece (length (operator_word op)) (Whole (token.Infix op))
operator_piece operator.Add rest AtEnd = refl
operator_piece operator.Add rest (AtBlank more) = refl
operator_piece operator.Subtract rest AtEnd = refl
operator_piece operator.Subtract rest (AtBlank more) = refl
operator_piece operator.Multiply rest AtEnd = refl
operator_piece operator.Multiply rest (AtBlank more) = refl
operator_piece operator.Divide rest AtEnd = refl
operator_piece operator.Divide rest (AtBlank more) = refl
operator_piece operator.Remainder rest AtEnd = refl
operator_piece operator.Remainder rest (AtBlank more) = refl
operator_piece operator.BitAnd rest AtEnd = refl
operator_piece operator.BitAnd rest (AtBlank more) = refl
operator_piece operator.BitOr rest AtEnd = refl
operator_piece operator.BitOr rest (AtBlank more) = refl
operator_piece operator.BitXor rest AtEnd = refl
operator_piece operator.BitXor rest (AtBlank more) = refl
operator_piece operator.Equals rest stops = refl
operator_piece operator.Differs rest stops = refl
operator_piece operator.Below rest AtEnd = refl
operator_piece operator.Below rest (AtBlank more) = refl
operator_piece operator.AtMost rest stops = refl

open_piece : (rest : List ℕ) → Stops rest → piece_of (40 ∷ rest) ≡ piece 1 (Whole token.Open)
open_piece rest AtEnd = refl
open_piece rest (AtBlank more) = refl

close_piece : (rest : List ℕ) → Stops rest → piece_of (41 ∷ rest) ≡ piece 1 (Whole token.Close)
close_piece rest AtEnd = refl
close_piece rest (AtBlank more) = refl

assign_piece : (rest : List ℕ) → Stops rest → piece_of (61 ∷ rest) ≡ piece 1 (Whole token.Assign)
assign_piece rest AtEnd = refl
assign_piece rest (AtBlank more) = refl

-- the piece of each token
pub token_piece : (t : Token) (rest : List ℕ) → is_token t ≡ true → Stops rest → piece_of (token_text t ++ rest) ≡ piece (length (token_text t)) (Whole t)
token_piece (token.Number n) rest fit stops = let small : n < 2 ^ 64 = ltb-true n (2 ^ 64) fit in number_piece n (decimal n) rest (decimal_digits n small) (small_number-decimal n small) (decimal_nonempty n small) stops
token_piece (token.Word w) rest fit stops =
    word_piece w rest (both_left (is_word w) (nat_le (length w) 32) fit) stops
    ∙ ap (piece (length w)) (short_content w (both_right (is_word w) (nat_le (length w) 32) fit))
token_piece (token.LongName c) rest fit stops =
    word_piece (callback_word c) rest (both_left (is_word (callback_word c)) (nat_lt 32 (length (callback_word c))) fit) stops
    ∙ ap (piece (length (callback_word c))) (callback_content c (both_right (is_word (callback_word c)) (nat_lt 32 (length (callback_word c))) fit))
token_piece token.Open rest fit stops = open_piece rest stops
token_piece token.Close rest fit stops = close_piece rest stops
token_piece token.Assign rest fit stops = assign_piece rest stops
token_piece (token.Infix op) rest fit stops = operator_piece op rest stops

word_some : (w : List ℕ) → is_word w ≡ true → 0 < length w
word_some [] h = absurd (let z : ⊥ = cc in z)
word_some (b ∷ bytes) h = omega arith

operator_some : (op : Operator) → 0 < length (operator_word op)
operator_some operator.Equals = omega arith
operator_some operator.Differs = omega arith
operator_some operator.AtMost = omega arith
operator_some _ = omega arith

token_some : (t : Token) → is_token t ≡ true → 0 < length (token_text t)
token_some (token.Number n) fit = let small : n < 2 ^ 64 = ltb-true n (2 ^ 64) fit in decimal_nonempty n small
token_some (token.Word w) fit = word_some w (both_left (is_word w) (nat_le (length w) 32) fit)
token_some (token.LongName c) fit = word_some (callback_word c) (both_left (is_word (callback_word c)) (nat_lt 32 (length (callback_word c))) fit)
token_some (token.Infix op) fit = operator_some op
token_some _ fit = omega arith

piece_read : (column : ℕ) (xs rest : List ℕ) (t : Token) → 0 < length xs → piece_of (xs ++ rest) ≡ piece (length xs) (Whole t) → tokens_from column 0 (xs ++ rest) ≡ with_token (Ok (Some t)) (tokens_from (column + length xs) 0 rest)
piece_read column [] rest t some is = absurd (omega arith)
piece_read column (b ∷ bytes) rest t some is =
    let less : suc (length bytes) - 1 ≡ length bytes = omega arith in
    let further : suc column + length bytes ≡ column + suc (length bytes) = omega arith in
    tokens_from_head column b (bytes ++ rest) (piece (suc (length bytes)) (Whole t)) (sym is)
    ∙ ap (λ n. with_token (Ok (Some t)) (tokens_from (suc column + n) 0 (drop n (bytes ++ rest)))) less
    ∙ ap (λ (ys : List ℕ). with_token (Ok (Some t)) (tokens_from (suc column + length bytes) 0 ys)) (drop-append_seam bytes rest)
    ∙ ap (λ n. with_token (Ok (Some t)) (tokens_from n 0 rest)) further

token_read : (column : ℕ) (t : Token) (rest : List ℕ) → is_token t ≡ true → Stops rest → tokens_from column 0 (token_text t ++ rest) ≡ with_token (Ok (Some t)) (tokens_from (column + length (token_text t)) 0 rest)
token_read column t rest fit stops = piece_read column (token_text t) rest t (token_some t fit) (token_piece t rest fit stops)

rest_stops : (ts : List Token) → Stops (rest_bytes ts)
rest_stops [] = AtEnd
rest_stops (t ∷ ts) = AtBlank (token_text t ++ rest_bytes ts)

blank_read : (column : ℕ) (rest : List ℕ) → tokens_from column 0 (32 ∷ rest) ≡ tokens_from (suc column) 0 rest
blank_read column rest = refl

rest_read : (column : ℕ) (ts : List Token) → list_all is_token ts ≡ true → tokens_from column 0 (rest_bytes ts) ≡ Ok ts
rest_read column [] fit = refl
rest_read column (t ∷ ts) fit =
    blank_read column (token_text t ++ rest_bytes ts)
    ∙ token_read (suc column) t (rest_bytes ts) (both_left (is_token t) (list_all is_token ts) fit) (rest_stops ts)
    ∙ ap (with_token (Ok (Some t))) (rest_read (suc column + length (token_text t)) ts (both_right (is_token t) (list_all is_token ts) fit))

tokens_read : (ts : List Token) → list_all is_token ts ≡ true → tokens_from 1 0 (line_bytes ts) ≡ Ok ts
tokens_read [] fit = refl
tokens_read (t ∷ ts) fit =
    token_read 1 t (rest_bytes ts) (both_left (is_token t) (list_all is_token ts) fit) (rest_stops ts)
    ∙ ap (with_token (Ok (Some t))) (rest_read (1 + length (token_text t)) ts (both_right (is_token t) (list_all is_token ts) fit))

-- each byte of a token is printed
word_is_printed : (w : List ℕ) → is_word w ≡ true → list_all is_printed w ≡ true
word_is_printed [] h = refl
word_is_printed (b ∷ bytes) h = all_implies is_name_byte is_printed (b ∷ bytes) name_printed (both_right (is_ascii_alphabetic b) (list_all is_name_byte (b ∷ bytes)) h)

operator_is_printed : (op : Operator) → list_all is_printed (operator_word op) ≡ true
operator_is_printed operator.Add = refl
operator_is_printed _ = refl

token_is_printed : (t : Token) → is_token t ≡ true → list_all is_printed (token_text t) ≡ true
token_is_printed (token.Number n) fit = let small : n < 2 ^ 64 = ltb-true n (2 ^ 64) fit in all_implies is_ascii_digit is_printed (decimal n) digit_printed (decimal_digits n small)
token_is_printed (token.Word w) fit = word_is_printed w (both_left (is_word w) (nat_le (length w) 32) fit)
token_is_printed (token.LongName c) fit = word_is_printed (callback_word c) (both_left (is_word (callback_word c)) (nat_lt 32 (length (callback_word c))) fit)
token_is_printed (token.Infix op) fit = operator_is_printed op
token_is_printed _ fit = refl

rest_is_printed : (ts : List Token) → list_all is_token ts ≡ true → list_all is_printed (rest_bytes ts) ≡ true
rest_is_printed [] fit = refl
rest_is_printed (t ∷ ts) fit =
    list_all_append is_printed (token_text t) (rest_bytes ts) (token_is_printed t (both_left (is_token t) (list_all is_token ts) fit)) (rest_is_printed ts (both_right (is_token t) (list_all is_token ts) fit))

line_is_printed : (ts : List Token) → list_all is_token ts ≡ true → list_all is_printed (line_bytes ts) ≡ true
line_is_printed [] fit = refl
line_is_printed (t ∷ ts) fit =
    list_all_append is_printed (token_text t) (rest_bytes ts) (token_is_printed t (both_left (is_token t) (list_all is_token ts) fit)) (rest_is_printed ts (both_right (is_token t) (list_all is_token ts) fit))

-- tokens that are spelled in a line are read again
pub line_is_read : (ts : List Token) → list_all is_token ts ≡ true → line_reading (line_bytes ts) ≡ Ok ts
line_is_read ts fit =
    ap (λ b. if b then tokens_from 1 0 (line_bytes ts) else Err fault.NotAscii) (all_implies is_printed is_plain (line_bytes ts) printed_plain (line_is_printed ts fit))
    ∙ tokens_read ts fit

rest_ends : (ts : List Token) (more : List ℕ) → rest_text ts ++ more ≡ rest_bytes ts ++ (10 ∷ more)
rest_ends [] more = refl
rest_ends (t ∷ ts) more =
    ap (λ (xs : List ℕ). 32 ∷ xs) (append_assoc (token_text t) (rest_text ts) more ∙ ap (λ (xs : List ℕ). token_text t ++ xs) (rest_ends ts more) ∙ sym (append_assoc (token_text t) (rest_bytes ts) (10 ∷ more)))

line_ends : (ts : List Token) (more : List ℕ) → line_text ts ++ more ≡ line_bytes ts ++ (10 ∷ more)
line_ends [] more = refl
line_ends (t ∷ ts) more = append_assoc (token_text t) (rest_text ts) more ∙ ap (λ (xs : List ℕ). token_text t ++ xs) (rest_ends ts more) ∙ sym (append_assoc (token_text t) (rest_bytes ts) (10 ∷ more))

line_cut : (xs more : List ℕ) → list_all is_inside xs ≡ true → lines_of (xs ++ (10 ∷ more)) ≡ xs ∷ lines_of more
line_cut [] more h = refl
line_cut (x ∷ xs) more h =
    let here : (x == 10) ≡ false = not_true (x == 10) (both_left (is_inside x) (list_all is_inside xs) h) in
    ap (λ b. if b then [] ∷ lines_of (xs ++ (10 ∷ more)) else with_byte x (lines_of (xs ++ (10 ∷ more)))) here
    ∙ ap (with_byte x) (line_cut xs more (both_right (is_inside x) (list_all is_inside xs) h))

-- a line of tokens is the first line of the text that it begins
pub first_line_text : (ts : List Token) (more : List ℕ) → list_all is_token ts ≡ true → lines_of (line_text ts ++ more) ≡ line_bytes ts ∷ lines_of more
first_line_text ts more fit = ap lines_of (line_ends ts more) ∙ line_cut (line_bytes ts) more (all_implies is_printed is_inside (line_bytes ts) printed_inside (line_is_printed ts fit))
