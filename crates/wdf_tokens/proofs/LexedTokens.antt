-- Each token that is read has a spelling.
use Rattle.std.proofs.Common.{◌≡◌, ℕ, zero, suc, ◌-◌, ◌^◌, ◌<◌, Bool, true, false, cond, ◌&&◌, nat_le, nat_lt, List, [], ◌∷◌, length, Option, Some, None, option_map, Result, Ok, Err, refl, ap, ◌∙◌, sym, subst}
use Rattle.std.specs.Prelude.{◌==◌, slice_index}
use Rattle.std.specs.Char.{is_ascii_digit, is_ascii_alphabetic}
use Rattle.std.specs.List.{list_all, take_while}
use Rattle.std.proofs.lemmas.Bool.{leb-false, lt-ltb}
use Rattle.std.proofs.lemmas.List.Sums.{take_while-cons}
use Rattle.wdf_base.specs.declared.call.Callback.{Callback}
use Rattle.wdf_base.specs.declared.script.Operator.{Operator}
use Rattle.wdf_base.specs.Words.{callback_word, callback_of}
use Rattle.wdf_base.proofs.WordLaws.{callback-only}
use Rattle.wdf_base.proofs.Tests.{both}
use Rattle.wdf_text.specs.Decimals.{number_after}
use Rattle.wdf_tokens.specs.declared.lexer.Content.{Content}
use Rattle.wdf_tokens.specs.declared.lexer.Content.TheVariants.{Whole, Blank, Foreign, TooLarge}
use Rattle.wdf_tokens.specs.declared.lexer.Piece.{Piece}
use Rattle.wdf_tokens.specs.declared.lexer.TokenFault.{TokenFault}
use Rattle.wdf_tokens.specs.declared.lexer.TokenFault.TheVariants as fault
use Rattle.wdf_tokens.specs.declared.token.Token.{Token}
use Rattle.wdf_tokens.specs.declared.token.Token.TheVariants as token
use Rattle.wdf_tokens.specs.Tokens.{is_blank, is_plain, is_name_byte, piece_of, digits_piece, letters_piece, number_content, long_name, long_content, operator_of, mark_token, pair_token, marks_piece, token_at, with_token, tokens_from, line_reading}
use Rattle.wdf_tokens.specs.WellFormed.{is_word, is_token}

-- a token of a piece has a spelling
abbrev IsFit : Content → Type 0
IsFit (Whole t) = is_token t ≡ true
IsFit _ = Unit {0}

by_test : (b : Bool) (p q : Piece) → (b ≡ true → IsFit p.content) → (b ≡ false → IsFit q.content) → IsFit (cond b p q).content
by_test true p q h e = h refl
by_test false p q h e = e refl

-- numbers
small_fit : (n : ℕ) (b : Bool) → nat_lt n (2 ^ 64) ≡ b → IsFit (number_content (cond b (Some n) None))
small_fit n true is = is
small_fit n false is = tt

digits_fit : (ds : List ℕ) → IsFit (digits_piece ds).content
digits_fit ds = small_fit (number_after 0 ds) (nat_lt (number_after 0 ds) (2 ^ 64)) refl

-- words
taken_pass : (p : ℕ → Bool) (xs : List ℕ) → list_all p (take_while p xs) ≡ true
taken_pass p [] = refl
taken_pass p (x ∷ xs) = subst (λ ys. list_all p ys ≡ true) (sym (take_while-cons p x xs)) (by_first (p x) refl (taken_pass p xs))
  where
    by_first : (b : Bool) → p x ≡ b → list_all p (take_while p xs) ≡ true → list_all p (cond b (x ∷ take_while p xs) []) ≡ true
    by_first true is behind = both (p x) (list_all p (take_while p xs)) is behind
    by_first false is behind = refl

alpha_names : (b : ℕ) → is_ascii_alphabetic b ≡ true → is_name_byte b ≡ true
alpha_names b h = rw h refl

word_taken : (bytes : List ℕ) → is_ascii_alphabetic (slice_index bytes 0) ≡ true → is_word (take_while is_name_byte bytes) ≡ true
word_taken [] h = absurd (let z : ⊥ = cc in z)
word_taken (b ∷ bytes) h =
    let cut : take_while is_name_byte (b ∷ bytes) ≡ b ∷ take_while is_name_byte bytes =
    take_while-cons is_name_byte b bytes ∙ ap (λ t. cond t (b ∷ take_while is_name_byte bytes) []) (alpha_names b h) in
    ap is_word cut ∙ both (is_ascii_alphabetic b) (list_all is_name_byte (b ∷ take_while is_name_byte bytes)) h
    (both (is_name_byte b) (list_all is_name_byte (take_while is_name_byte bytes)) (alpha_names b h) (taken_pass is_name_byte bytes))

long_fit : (w : List ℕ) (c : Option Callback) → is_word w ≡ true → 32 < length w → callback_of w ≡ c → IsFit (long_content c)
long_fit w None is long found = tt
long_fit w (Some c) is long found =
    let same : w ≡ callback_word c = sym (callback-only c w found) in
    let P : List ℕ → Type 0 = λ v. (is_word v && nat_lt 32 (length v)) ≡ true in
    subst P same (both (is_word w) (nat_lt 32 (length w)) is (lt-ltb 32 (length w) long))

long_name_fit : (w : List ℕ) → is_word w ≡ true → 32 < length w → IsFit (long_name w)
unfolding long_name
long_name_fit w is long = long_fit w (callback_of w) is long refl

name_fit : (w : List ℕ) (b : Bool) → is_word w ≡ true → nat_le (length w) 32 ≡ b → IsFit (cond b (Whole (token.Word w)) (long_name w))
name_fit w true is short = both (is_word w) (nat_le (length w) 32) is short
name_fit w false is long = long_name_fit w is (leb-false (length w) 32 long)

letters_fit : (w : List ℕ) → is_word w ≡ true → IsFit (letters_piece w).content
letters_fit w is = name_fit w (nat_le (length w) 32) is refl

-- marks
abbrev IsFitToken : Option Token → Type 0
IsFitToken None = Unit {0}
IsFitToken (Some t) = is_token t ≡ true

token_by : (b : Bool) (x y : Option Token) → IsFitToken x → IsFitToken y → IsFitToken (cond b x y)
token_by true x y h e = h
token_by false x y h e = e

infix_fit : (op : Option Operator) → IsFitToken (option_map token.Infix op)
infix_fit None = tt
infix_fit (Some op) = refl

mark_fit : (b : ℕ) → IsFitToken (mark_token b)
mark_fit b =
    token_by (b == 40) _ _ refl (token_by (b == 41) _ _ refl (token_by (b == 61) _ _ refl (infix_fit (operator_of b))))

pair_fit : (b next : ℕ) → IsFitToken (pair_token b next)
pair_fit b next = token_by (next == 61) _ _ (token_by (b == 61) _ _ refl (token_by (b == 33) _ _ refl (token_by (b == 60) _ _ refl tt))) tt

marks_fit : (pair mark : Option Token) → IsFitToken pair → IsFitToken mark → IsFit (marks_piece pair mark).content
marks_fit (Some t) mark h e = h
marks_fit None (Some t) h e = e
marks_fit None None h e = tt

piece_fit : (bytes : List ℕ) → IsFit (piece_of bytes).content
piece_fit bytes =
    by_test (is_blank (slice_index bytes 0)) _ _ (λ _. tt) (λ _.
    by_test (slice_index bytes 0 == 35) _ _ (λ _. tt) (λ _.
    by_test (is_ascii_digit (slice_index bytes 0)) _ _ (λ _. digits_fit (take_while is_ascii_digit bytes)) (λ _.
    by_test (is_ascii_alphabetic (slice_index bytes 0)) _ _ (λ alpha. letters_fit (take_while is_name_byte bytes) (word_taken bytes alpha)) (λ _.
    marks_fit (pair_token (slice_index bytes 0) (slice_index bytes 1)) (mark_token (slice_index bytes 0)) (pair_fit (slice_index bytes 0) (slice_index bytes 1)) (mark_fit (slice_index bytes 0))))))

-- tokens that are read
abbrev AreFit : Result (List Token) TokenFault → Type 0
AreFit (Ok ts) = list_all is_token ts ≡ true
AreFit (Err f) = Unit {0}

with_fit : (column : ℕ) (content : Content) (rest : Result (List Token) TokenFault) → IsFit content → AreFit rest → AreFit (with_token (token_at column content) rest)
with_fit column Blank rest h e = e
with_fit column (Whole t) (Ok ts) h e = both (is_token t) (list_all is_token ts) h e
with_fit column (Whole t) (Err f) h e = tt
with_fit column Foreign rest h e = tt
with_fit column TooLarge rest h e = tt

tokens_fit : (column skip : ℕ) (bytes : List ℕ) → AreFit (tokens_from column skip bytes)
tokens_fit column skip [] = refl
tokens_fit column (suc skip) (b ∷ bytes) = tokens_fit (suc column) skip bytes
tokens_fit column zero (b ∷ bytes) =
    with_fit column (piece_of (b ∷ bytes)).content (tokens_from (suc column) ((piece_of (b ∷ bytes)).size - 1) bytes) (piece_fit (b ∷ bytes)) (tokens_fit (suc column) ((piece_of (b ∷ bytes)).size - 1) bytes)

line_fit : (b : Bool) (line : List ℕ) → AreFit (cond b (tokens_from 1 0 line) (Err fault.NotAscii))
line_fit true line = tokens_fit 1 0 line
line_fit false line = tt

-- each token of a line that is read has a spelling
pub read_fit : (line : List ℕ) (ts : List Token) → line_reading line ≡ Ok ts → list_all is_token ts ≡ true
read_fit line ts e = subst AreFit e (line_fit (list_all is_plain line) line)
