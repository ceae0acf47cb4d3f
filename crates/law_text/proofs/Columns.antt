-- A line has a fault at a column exactly where whole blanks and tokens lead there and that fault is there.
use Rattle.std.proofs.Common.{◌≡◌, ◌⊎◌, inl, inr, ℕ, zero, suc, ◌+◌, ◌-◌, ◌<◌, Bool, true, nat_le, List, [], ◌∷◌, length, drop, Option, Some, None, Result, Ok, Err, refl, ap, sym, subst, ◌∙◌, arith}
use Rattle.std.proofs.lemmas.List.Sums.{take_while-cons}
use Rattle.std.specs.Prelude.{◌==◌, slice_index}
use Rattle.std.specs.List.{take_while}
use Rattle.std.specs.Char.{is_ascii_digit, is_ascii_alphabetic}
use Rattle.wdf_base.specs.declared.call.Callback.{Callback}
use Rattle.wdf_base.specs.Words.{callback_of}
use Rattle.wdf_text.specs.Decimals.{small_number}
use Rattle.wdf_tokens.specs.declared.lexer.TokenFault.{TokenFault}
use Rattle.wdf_tokens.specs.declared.lexer.TokenFault.TheVariants as fault
use Rattle.wdf_tokens.specs.declared.token.Token.{Token}
use Rattle.wdf_tokens.specs.Tokens.{is_blank, is_name_byte, piece_of, number_content, name_content, long_name, long_content, pair_token, mark_token, marks_piece, token_at, with_token, tokens_from}
use Rattle.wdf_tokens.proofs.LineReading.{tokens_from_skip}
use Rattle.law_text.specs.FirstRefusal.{IsFine, Reaches, IsStuck}
use Rattle.law_text.proofs.Pieces.{picked}

-- ---- a piece has a byte, and its fault says the column

some_while : (test : ℕ → Bool) (b : ℕ) (bytes : List ℕ) → test b ≡ true → 0 < length (take_while test (b ∷ bytes))
some_while test b bytes h = rw (take_while-cons test b bytes, h) (omega arith)

marks_size : (pair mark : Option Token) → 0 < (marks_piece pair mark).size
marks_size (Some p) mark = omega arith
marks_size None (Some m) = omega arith
marks_size None None = omega arith

name_byte : (b : ℕ) → is_ascii_alphabetic b ≡ true → is_name_byte b ≡ true
name_byte b h = rw h refl

some_size : (b : ℕ) (bytes : List ℕ) → 0 < (piece_of (b ∷ bytes)).size
some_size b bytes =
    picked (piece_of []) (λ p. 0 < p.size) (is_blank b) _ _ (λ h. omega arith) (λ h.
    picked (piece_of []) (λ p. 0 < p.size) (b == 35) _ _ (λ i. omega arith) (λ i.
    picked (piece_of []) (λ p. 0 < p.size) (is_ascii_digit b) _ _ (λ j. some_while is_ascii_digit b bytes j) (λ j.
    picked (piece_of []) (λ p. 0 < p.size) (is_ascii_alphabetic b) _ _ (λ k. some_while is_name_byte b bytes (name_byte b k)) (λ k.
    marks_size (pair_token b (slice_index (b ∷ bytes) 1)) (mark_token b)))))

-- a fault at this column: no token, or too large a number
abbrev Faults : ℕ → Result (Option Token) TokenFault → Type 0
Faults column (Ok t) = Unit {0}
Faults column (Err f) = (f ≡ fault.BadToken column) ⊎ (f ≡ fault.NumberTooLarge column)

number_faults : (column : ℕ) (o : Option ℕ) → Faults column (token_at column (number_content o))
number_faults column (Some n) = tt
number_faults column None = inr refl

long_faults : (column : ℕ) (o : Option Callback) → Faults column (token_at column (long_content o))
long_faults column (Some c) = tt
long_faults column None = inl refl

name_faults : (column : ℕ) (name : List ℕ) → Faults column (token_at column (name_content name))
unfolding long_name
name_faults column name =
    picked (piece_of []).content (λ c. Faults column (token_at column c)) (nat_le (length name) 32) _ _ (λ h. tt) (λ h. long_faults column (callback_of name))

marks_faults : (column : ℕ) (pair mark : Option Token) → Faults column (token_at column (marks_piece pair mark).content)
marks_faults column (Some p) mark = tt
marks_faults column None (Some m) = tt
marks_faults column None None = inl refl

piece_faults : (column b : ℕ) (bytes : List ℕ) → Faults column (token_at column (piece_of (b ∷ bytes)).content)
piece_faults column b bytes =
    picked (piece_of []) (λ p. Faults column (token_at column p.content)) (is_blank b) _ _ (λ h. tt) (λ h.
    picked (piece_of []) (λ p. Faults column (token_at column p.content)) (b == 35) _ _ (λ i. tt) (λ i.
    picked (piece_of []) (λ p. Faults column (token_at column p.content)) (is_ascii_digit b) _ _ (λ j. number_faults column (small_number (take_while is_ascii_digit (b ∷ bytes)))) (λ j.
    picked (piece_of []) (λ p. Faults column (token_at column p.content)) (is_ascii_alphabetic b) _ _ (λ k. name_faults column (take_while is_name_byte (b ∷ bytes))) (λ k.
    marks_faults column (pair_token b (slice_index (b ∷ bytes) 1)) (mark_token b)))))

-- ---- bytes of the piece before

drop_less : (n : ℕ) (b : ℕ) (bytes : List ℕ) → 0 < n → drop (n - 1) bytes ≡ drop n (b ∷ bytes)
drop_less zero b bytes h = absurd (omega arith)
drop_less (suc n) b bytes h = let e : suc n - 1 ≡ n = omega arith in ap (λ m. drop m bytes) e

-- after a piece
past : (column b : ℕ) (bytes : List ℕ) (n : ℕ) → 0 < n → tokens_from (suc column) (n - 1) bytes ≡ tokens_from (column + n) 0 (drop n (b ∷ bytes))
past column b bytes n h =
    let e : suc column + (n - 1) ≡ column + n = omega arith in
    tokens_from_skip (suc column) (n - 1) bytes ∙ (ap (λ m. tokens_from m 0 (drop (n - 1) bytes)) e ∙ ap (tokens_from (column + n) 0) (drop_less n b bytes h))

-- ---- the fault of a line

record IsAt (column : ℕ) (line : List ℕ) (f : TokenFault) : Type 0 where
  pieces : ℕ
  there : ℕ
  rest : List ℕ
  reached : Reaches pieces column line there rest
  filled : 0 < length rest
  made : token_at there (piece_of rest).content ≡ Err f
  says : (f ≡ fault.BadToken there) ⊎ (f ≡ fault.NumberTooLarge there)

later : (column b : ℕ) (bytes : List ℕ) (f : TokenFault) → IsFine (token_at column (piece_of (b ∷ bytes)).content) → IsAt (column + (piece_of (b ∷ bytes)).size) (drop (piece_of (b ∷ bytes)).size (b ∷ bytes)) f → IsAt column (b ∷ bytes) f
later column b bytes f fine h =
    record { pieces = suc h.pieces; there = h.there; rest = h.rest; reached = (omega arith, fine, h.reached); filled = h.filled; made = h.made; says = h.says }

here : (column b : ℕ) (bytes : List ℕ) (f : TokenFault) → token_at column (piece_of (b ∷ bytes)).content ≡ Err f → IsAt column (b ∷ bytes) f
here column b bytes f h =
    record { pieces = 0; there = column; rest = b ∷ bytes; reached = (refl, refl); filled = omega arith; made = h; says = subst (Faults column) h (piece_faults column b bytes) }

with_err : (t : Token) (rest : Result (List Token) TokenFault) (f : TokenFault) → with_token (Ok (Some t)) rest ≡ Err f → rest ≡ Err f
with_err t (Ok ts) f e = absurd (let z : ⊥ = cc in z)
with_err t (Err g) f e = e

fine_if : (r : Result (Option Token) TokenFault) (o : Option Token) → r ≡ Ok o → IsFine r
fine_if r o e = rw e tt

by_piece : (column b : ℕ) (bytes : List ℕ) (f : TokenFault) (r : Result (Option Token) TokenFault) (rest : Result (List Token) TokenFault) → token_at column (piece_of (b ∷ bytes)).content ≡ r → with_token r rest ≡ Err f → (rest ≡ Err f → IsAt (column + (piece_of (b ∷ bytes)).size) (drop (piece_of (b ∷ bytes)).size (b ∷ bytes)) f) → IsAt column (b ∷ bytes) f
by_piece column b bytes f (Ok None) rest is e onward =
    later column b bytes f (fine_if (token_at column (piece_of (b ∷ bytes)).content) None is) (onward e)
by_piece column b bytes f (Ok (Some t)) rest is e onward =
    later column b bytes f (fine_if (token_at column (piece_of (b ∷ bytes)).content) (Some t) is) (onward (with_err t rest f e))
by_piece column b bytes f (Err g) rest is e onward =
    let same : g ≡ f = cc in
    here column b bytes f (is ∙ ap (λ x. Err x) same)

no_fault : (column skip : ℕ) (f : TokenFault) → tokens_from column skip [] ≡ Err f → ⊥
no_fault column zero f e = let z : ⊥ = cc in z
no_fault column (suc skip) f e = let z : ⊥ = cc in z

fault_at : (column skip : ℕ) (bytes : List ℕ) (f : TokenFault) → tokens_from column skip bytes ≡ Err f → IsAt (column + skip) (drop skip bytes) f
fault_at column skip [] f e = absurd (no_fault column skip f e)
fault_at column (suc skip) (b ∷ bytes) f e =
    let more : suc column + skip ≡ column + suc skip = omega arith in
    subst (λ n. IsAt n (drop skip bytes) f) more (fault_at (suc column) skip bytes f e)
fault_at column zero (b ∷ bytes) f e =
    let same : column ≡ column + 0 = omega arith in
    let size = (piece_of (b ∷ bytes)).size in
    let some' : 0 < size = some_size b bytes in
    let more : suc column + (size - 1) ≡ column + size = omega arith in
    subst (λ n. IsAt n (b ∷ bytes) f) same (by_piece column b bytes f (token_at column (piece_of (b ∷ bytes)).content) (tokens_from (suc column) (size - 1) bytes) refl e (λ h.
    let i = fault_at (suc column) (size - 1) bytes f h in
    subst (λ n. IsAt n (drop size (b ∷ bytes)) f) more (subst (λ xs. IsAt (suc column + (size - 1)) xs f) (drop_less size b bytes some') i)))

-- ---- and back

fine_over : (r : Result (Option Token) TokenFault) (f : TokenFault) → IsFine r → with_token r (Err f) ≡ Err f
fine_over (Ok None) f h = refl
fine_over (Ok (Some t)) f h = refl
fine_over (Err g) f h = absurd h

stuck_step : (column : ℕ) (bytes : List ℕ) (f : TokenFault) → 0 < length bytes → token_at column (piece_of bytes).content ≡ Err f → tokens_from column 0 bytes ≡ Err f
stuck_step column [] f h m = absurd (omega arith)
stuck_step column (b ∷ bytes) f h m =
    ap (λ r. with_token r (tokens_from (suc column) ((piece_of (b ∷ bytes)).size - 1) bytes)) m

stuck_faults : (pieces column : ℕ) (bytes : List ℕ) (there : ℕ) (rest : List ℕ) (f : TokenFault) → Reaches pieces column bytes there rest → 0 < length rest → token_at there (piece_of rest).content ≡ Err f → tokens_from column 0 bytes ≡ Err f
stuck_faults zero column bytes there rest f r h m =
    ap (λ n. tokens_from n 0 bytes) r.0 ∙ (ap (tokens_from there 0) r.1 ∙ stuck_step there rest f h m)
stuck_faults (suc pieces) column [] there rest f r h m = absurd (let z : 0 < 0 = r.0 in omega (arith, z))
stuck_faults (suc pieces) column (b ∷ bytes) there rest f r h m =
    let size = (piece_of (b ∷ bytes)).size in
    let behind : tokens_from (suc column) (size - 1) bytes ≡ Err f = past column b bytes size (some_size b bytes) ∙ stuck_faults pieces (column + size) (drop size (b ∷ bytes)) there rest f r.2 h m in
    ap (with_token (token_at column (piece_of (b ∷ bytes)).content)) behind ∙ fine_over (token_at column (piece_of (b ∷ bytes)).content) f r.1

-- ---- the two faults

token_column : (there column : ℕ) → (fault.BadToken column ≡ fault.BadToken there) ⊎ (fault.BadToken column ≡ fault.NumberTooLarge there) → there ≡ column
token_column there column (inl e) = cc
token_column there column (inr e) = absurd (let z : ⊥ = cc in z)

number_column : (there column : ℕ) → (fault.NumberTooLarge column ≡ fault.BadToken there) ⊎ (fault.NumberTooLarge column ≡ fault.NumberTooLarge there) → there ≡ column
number_column there column (inl e) = absurd (let z : ⊥ = cc in z)
number_column there column (inr e) = cc

no_foreign : (there : ℕ) → (fault.NotAscii ≡ fault.BadToken there) ⊎ (fault.NotAscii ≡ fault.NumberTooLarge there) → ⊥
no_foreign there (inl e) = let z : ⊥ = cc in z
no_foreign there (inr e) = let z : ⊥ = cc in z

stuck_of : (line : List ℕ) (there column pieces : ℕ) (rest : List ℕ) (f : TokenFault) → Reaches pieces 1 line there rest → 0 < length rest → token_at there (piece_of rest).content ≡ Err f → there ≡ column → IsStuck line column f
stuck_of line there column pieces rest f r h m e =
    record {
      pieces = pieces;
      rest = rest;
      reached = subst (λ n. Reaches pieces 1 line n rest) e r;
      filled = h;
      is = ap (λ n. token_at n (piece_of rest).content) (sym e) ∙ m;
    }

first_fault : (line : List ℕ) (f : TokenFault) → tokens_from 1 0 line ≡ Err f → IsAt 1 line f
first_fault line f e =
    let one : 1 + 0 ≡ 1 = omega arith in
    subst (λ n. IsAt n line f) one (fault_at 1 0 line f e)

-- tokens that can't be read
pub foreign_there : (line : List ℕ) (column : ℕ) → tokens_from 1 0 line ≡ Err (fault.BadToken column) → IsStuck line column (fault.BadToken column)
foreign_there line column e =
    let i = first_fault line (fault.BadToken column) e in
    stuck_of line i.there column i.pieces i.rest (fault.BadToken column) i.reached i.filled i.made (token_column i.there column i.says)

pub large_there : (line : List ℕ) (column : ℕ) → tokens_from 1 0 line ≡ Err (fault.NumberTooLarge column) → IsStuck line column (fault.NumberTooLarge column)
large_there line column e =
    let i = first_fault line (fault.NumberTooLarge column) e in
    stuck_of line i.there column i.pieces i.rest (fault.NumberTooLarge column) i.reached i.filled i.made (number_column i.there column i.says)

-- the tokens of plain bytes don't say that a byte is foreign
pub plain_there : (line : List ℕ) → tokens_from 1 0 line ≡ Err fault.NotAscii → ⊥
plain_there line e =
    let i = first_fault line fault.NotAscii e in
    no_foreign i.there i.says

pub stuck_back : (line : List ℕ) (column : ℕ) (f : TokenFault) → IsStuck line column f → tokens_from 1 0 line ≡ Err f
stuck_back line column f s = stuck_faults s.pieces 1 line column s.rest f s.reached s.filled s.is
