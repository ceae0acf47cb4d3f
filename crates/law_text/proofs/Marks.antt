-- The line `trace` is the line that is read as the one word `trace`.
use Rattle.std.proofs.Common.{◌≡◌, ℕ, ◌+◌, ◌-◌, suc, Bool, true, false, cond, ◌&&◌, ◌||◌, List, [], ◌∷◌, ◌++◌, length, take, drop, Option, Some, None, Result, Ok, Err, refl, ap, sym, ◌∙◌, subst, arith}
use Rattle.std.specs.Prelude.{◌==◌, if◌then◌else◌, codes}
use Rattle.std.specs.List.{list_all, take_while}
use Rattle.std.specs.Str.{bytes_eq}
use Rattle.std.proofs.lemmas.Bool.{and_from, eqb-true}
use Rattle.std.proofs.lemmas.List.{take-append-drop}
use Rattle.std.proofs.lemmas.List.Sums.{take_while-cons}
use Rattle.std.proofs.lemmas.Slice.Eq.{bytes_eq-Decides}
use Rattle.wdf_base.proofs.Tests.{both_left, both_right}
use Rattle.wdf_tokens.specs.declared.lexer.TokenFault.{TokenFault}
use Rattle.wdf_tokens.specs.declared.lexer.TokenFault.TheVariants.{NotAscii}
use Rattle.wdf_tokens.specs.declared.token.Token.{Token}
use Rattle.wdf_tokens.specs.declared.token.Token.TheVariants as token
use Rattle.wdf_tokens.specs.Tokens.{is_blank, is_name_byte, is_plain, letters_piece, line_reading, piece_of, token_at, with_token, tokens_from}
use Rattle.wdf_tokens.proofs.LineReading.{tokens_from_skip}
use Rattle.wdf_split.specs.Inputs.{is_idle, is_mark, is_trace_alone, is_trace_first, is_within}
use Rattle.wdf_split.proofs.Marks.{alone_here, alone_more, idle_here, idle_more}
use Rattle.law_text.proofs.Pieces.{IsSaid, piece_named, piece_said}

-- ---- no token

-- nothing is read of bytes that are all of the piece before
skipped : (column count : ℕ) (bytes : List ℕ) → count ≡ length bytes → tokens_from column count bytes ≡ Ok []
skipped column count [] is = refl
skipped column count (b ∷ bytes) is = ap (λ n. tokens_from column n (b ∷ bytes)) is ∙ skipped (suc column) (length bytes) bytes refl

blank_read : (column b : ℕ) (bytes : List ℕ) → is_blank b ≡ true → tokens_from column 0 (b ∷ bytes) ≡ tokens_from (suc column) 0 bytes
blank_read column b bytes is = rw is refl

comment_read : (column b : ℕ) (bytes : List ℕ) → is_blank b ≡ false → (b == 35) ≡ true → tokens_from column 0 (b ∷ bytes) ≡ Ok []
comment_read column b bytes unblank is = rw (unblank, is) (skipped (suc column) (length (b ∷ bytes) - 1) bytes (omega arith))

idle_by : (column b : ℕ) (bytes : List ℕ) (blank : Bool) → is_blank b ≡ blank → (is_idle bytes ≡ true → tokens_from (suc column) 0 bytes ≡ Ok []) → is_idle (b ∷ bytes) ≡ true → tokens_from column 0 (b ∷ bytes) ≡ Ok []
idle_by column b bytes true is rest idle = blank_read column b bytes is ∙ rest (sym (idle_more b bytes is) ∙ idle)
idle_by column b bytes false is rest idle = comment_read column b bytes is (sym (idle_here b bytes is) ∙ idle)

idle_reads : (column : ℕ) (bytes : List ℕ) → is_idle bytes ≡ true → tokens_from column 0 bytes ≡ Ok []
idle_reads column [] idle = refl
idle_reads column (b ∷ bytes) idle = idle_by column b bytes (is_blank b) refl (idle_reads (suc column) bytes) idle

said_something : (said : Result (Option Token) TokenFault) (rest : Result (List Token) TokenFault) → IsSaid said → with_token said rest ≡ Ok [] → ⊥
said_something (Ok (Some t)) (Ok ts) is h = let z : ⊥ = cc in z
said_something (Ok (Some t)) (Err f) is h = let z : ⊥ = cc in z
said_something (Ok None) rest is h = absurd is
said_something (Err f) rest is h = let z : ⊥ = cc in z

none_by : (column b : ℕ) (bytes : List ℕ) (blank comment : Bool) → is_blank b ≡ blank → (b == 35) ≡ comment → (tokens_from (suc column) 0 bytes ≡ Ok [] → is_idle bytes ≡ true) → tokens_from column 0 (b ∷ bytes) ≡ Ok [] → is_idle (b ∷ bytes) ≡ true
none_by column b bytes true comment is at rest none = idle_more b bytes is ∙ rest (sym (blank_read column b bytes is) ∙ none)
none_by column b bytes false true is at rest none = idle_here b bytes is ∙ at
none_by column b bytes false false is at rest none =
    absurd (said_something (token_at column (piece_of (b ∷ bytes)).content) (tokens_from (suc column) ((piece_of (b ∷ bytes)).size - 1) bytes) (piece_said column b bytes is at) none)

none_idle : (column : ℕ) (bytes : List ℕ) → tokens_from column 0 bytes ≡ Ok [] → is_idle bytes ≡ true
none_idle column [] none = refl
none_idle column (b ∷ bytes) none = none_by column b bytes (is_blank b) (b == 35) refl refl (none_idle (suc column) bytes) none

-- ---- the word

-- a blank and a comment's mark end a name
ends_at : (b n : ℕ) → (b == n) ≡ true → is_name_byte n ≡ false → is_name_byte b ≡ false
ends_at b n is at = subst (λ k. is_name_byte k ≡ false) (sym (eqb-true b n is)) at

blank_ends : (b : ℕ) (space tab return : Bool) → (b == 32) ≡ space → (b == 9) ≡ tab → (b == 13) ≡ return → (space || tab || return) ≡ true → is_name_byte b ≡ false
blank_ends b true tab return s t r is = ends_at b 32 s refl
blank_ends b false true return s t r is = ends_at b 9 t refl
blank_ends b false false true s t r is = ends_at b 13 r refl
blank_ends b false false false s t r is = absurd (let z : ⊥ = cc in z)

byte_ends : (b : ℕ) (bytes : List ℕ) (blank : Bool) → is_blank b ≡ blank → is_idle (b ∷ bytes) ≡ true → is_name_byte b ≡ false
byte_ends b bytes true is idle = blank_ends b (b == 32) (b == 9) (b == 13) refl refl refl is
byte_ends b bytes false is idle = ends_at b 35 (sym (idle_here b bytes is) ∙ idle) refl

idle_ends : (bytes : List ℕ) → is_idle bytes ≡ true → take_while is_name_byte bytes ≡ []
idle_ends [] idle = refl
idle_ends (b ∷ bytes) idle =
    take_while-cons is_name_byte b bytes ∙ ap (λ t. cond t (b ∷ take_while is_name_byte bytes) []) (byte_ends b bytes (is_blank b) refl idle)

name_on : (b : ℕ) (bytes w : List ℕ) → is_name_byte b ≡ true → take_while is_name_byte bytes ≡ w → take_while is_name_byte (b ∷ bytes) ≡ b ∷ w
name_on b bytes w is rest =
    take_while-cons is_name_byte b bytes ∙ ap (λ t. cond t (b ∷ take_while is_name_byte bytes) []) is ∙ ap (λ v. b ∷ v) rest

-- the name with which the bytes begin that are `trace` and these
named_trace : (rest : List ℕ) → is_idle rest ≡ true → take_while is_name_byte (codes "trace" ++ rest) ≡ codes "trace"
named_trace rest idle =
    name_on 116 (114 ∷ 97 ∷ 99 ∷ 101 ∷ rest) _ refl (name_on 114 (97 ∷ 99 ∷ 101 ∷ rest) _ refl (name_on 97 (99 ∷ 101 ∷ rest) _ refl
    (name_on 99 (101 ∷ rest) _ refl (name_on 101 rest _ refl (idle_ends rest idle)))))

word_reads : (column : ℕ) (rest : List ℕ) → is_idle rest ≡ true → tokens_from column 0 (codes "trace" ++ rest) ≡ Ok (token.Word (codes "trace") ∷ [])
word_reads column rest idle =
    ap (λ w. with_token (token_at column (letters_piece w).content) (tokens_from (suc column) ((letters_piece w).size - 1) (drop 1 (codes "trace") ++ rest))) (named_trace rest idle)
    ∙ ap (with_token (Ok (Some (token.Word (codes "trace"))))) (idle_reads (suc (suc (suc (suc (suc column))))) rest idle)

first_reads : (column b : ℕ) (bytes : List ℕ) → is_trace_first (b ∷ bytes) ≡ true → tokens_from column 0 (b ∷ bytes) ≡ Ok (token.Word (codes "trace") ∷ [])
first_reads column b bytes is =
    let text = b ∷ bytes in
    let word : take 5 text ≡ codes "trace" = (bytes_eq-Decides (take 5 text) (codes "trace")).0 (both_left (bytes_eq (take 5 text) (codes "trace")) (is_idle (drop 5 text)) is) in
    let idle : is_idle (drop 5 text) ≡ true = both_right (bytes_eq (take 5 text) (codes "trace")) (is_idle (drop 5 text)) is in
    let parts : text ≡ codes "trace" ++ drop 5 text = sym (take-append-drop 5 text) ∙ ap (λ w. w ++ drop 5 text) word in
    ap (tokens_from column 0) parts ∙ word_reads column (drop 5 text) idle

alone_by : (column b : ℕ) (bytes : List ℕ) (blank : Bool) → is_blank b ≡ blank → (is_trace_alone bytes ≡ true → tokens_from (suc column) 0 bytes ≡ Ok (token.Word (codes "trace") ∷ [])) → is_trace_alone (b ∷ bytes) ≡ true → tokens_from column 0 (b ∷ bytes) ≡ Ok (token.Word (codes "trace") ∷ [])
alone_by column b bytes true is rest alone = blank_read column b bytes is ∙ rest (sym (alone_more b bytes is) ∙ alone)
alone_by column b bytes false is rest alone = first_reads column b bytes (sym (alone_here b bytes is) ∙ alone)

alone_reads : (column : ℕ) (bytes : List ℕ) → is_trace_alone bytes ≡ true → tokens_from column 0 bytes ≡ Ok (token.Word (codes "trace") ∷ [])
alone_reads column [] alone = absurd (let z : ⊥ = cc in z)
alone_reads column (b ∷ bytes) alone = alone_by column b bytes (is_blank b) refl (alone_reads (suc column) bytes) alone

-- ---- back

said_one : (said : Result (Option Token) TokenFault) (rest : Result (List Token) TokenFault) (t : Token) → IsSaid said → with_token said rest ≡ Ok (t ∷ []) → (said ≡ Ok (Some t)) × (rest ≡ Ok [])
said_one (Ok (Some u)) (Ok ts) t is h =
    let same : u ≡ t = cc in
    let none : ts ≡ [] = cc in
    (ap (λ x. Ok (Some x)) same, ap Ok none)
said_one (Ok (Some u)) (Err f) t is h = absurd (let z : ⊥ = cc in z)
said_one (Ok None) rest t is h = absurd is
said_one (Err f) rest t is h = absurd (let z : ⊥ = cc in z)

taken_front : (p : ℕ → Bool) (xs : List ℕ) → take (length (take_while p xs)) xs ≡ take_while p xs
taken_front p [] = refl
taken_front p (x ∷ xs) = by_first (p x) refl (taken_front p xs)
  where
    by_first : (b : Bool) → p x ≡ b → take (length (take_while p xs)) xs ≡ take_while p xs → take (length (take_while p (x ∷ xs))) (x ∷ xs) ≡ take_while p (x ∷ xs)
    by_first true is rest =
        let cut : take_while p (x ∷ xs) ≡ x ∷ take_while p xs = take_while-cons p x xs ∙ ap (λ t. cond t (x ∷ take_while p xs) []) is in
        ap (λ w. take (length w) (x ∷ xs)) cut ∙ ap (λ w. x ∷ w) rest ∙ sym cut
    by_first false is rest =
        let cut : take_while p (x ∷ xs) ≡ [] = take_while-cons p x xs ∙ ap (λ t. cond t (x ∷ take_while p xs) []) is in
        ap (λ w. take (length w) (x ∷ xs)) cut ∙ sym cut

word_first : (column b : ℕ) (bytes : List ℕ) → is_blank b ≡ false → (b == 35) ≡ false → tokens_from column 0 (b ∷ bytes) ≡ Ok (token.Word (codes "trace") ∷ []) → is_trace_first (b ∷ bytes) ≡ true
word_first column b bytes unblank other reads =
    let text = b ∷ bytes in
    let one = said_one (token_at column (piece_of text).content) (tokens_from (suc column) ((piece_of text).size - 1) bytes) (token.Word (codes "trace")) (piece_said column b bytes unblank other) reads in
    let named = piece_named column b bytes (codes "trace") one.0 in
    let word : take 5 text ≡ codes "trace" = ap (λ w. take (length w) text) (sym named.0) ∙ taken_front is_name_byte text ∙ named.0 in
    let none : tokens_from (suc column + 4) 0 (drop 4 bytes) ≡ Ok [] =
    sym (tokens_from_skip (suc column) 4 bytes) ∙ ap (λ n. tokens_from (suc column) (n - 1) bytes) (sym named.1) ∙ one.1 in
    and_from (bytes_eq (take 5 text) (codes "trace")) (is_idle (drop 5 text)) ((bytes_eq-Decides (take 5 text) (codes "trace")).1 word) (none_idle (suc column + 4) (drop 4 bytes) none)

reads_by : (column b : ℕ) (bytes : List ℕ) (blank comment : Bool) → is_blank b ≡ blank → (b == 35) ≡ comment → (tokens_from (suc column) 0 bytes ≡ Ok (token.Word (codes "trace") ∷ []) → is_trace_alone bytes ≡ true) → tokens_from column 0 (b ∷ bytes) ≡ Ok (token.Word (codes "trace") ∷ []) → is_trace_alone (b ∷ bytes) ≡ true
reads_by column b bytes true comment is at rest reads = alone_more b bytes is ∙ rest (sym (blank_read column b bytes is) ∙ reads)
reads_by column b bytes false true is at rest reads =
    let none : Ok [] ≡ Ok (token.Word (codes "trace") ∷ []) = sym (comment_read column b bytes is at) ∙ reads in
    absurd (let z : ⊥ = cc in z)
reads_by column b bytes false false is at rest reads = alone_here b bytes is ∙ word_first column b bytes is at reads

reads_alone : (column : ℕ) (bytes : List ℕ) → tokens_from column 0 bytes ≡ Ok (token.Word (codes "trace") ∷ []) → is_trace_alone bytes ≡ true
reads_alone column [] reads = absurd (let z : ⊥ = cc in z)
reads_alone column (b ∷ bytes) reads = reads_by column b bytes (is_blank b) (b == 35) refl refl (reads_alone (suc column) bytes) reads

-- ---- a line

pub mark_reads : (line : List ℕ) → is_mark line ≡ true → line_reading (take_while is_within line) ≡ Ok (token.Word (codes "trace") ∷ [])
unfolding is_mark
mark_reads line is =
    let text = take_while is_within line in
    ap (λ t. if t then tokens_from 1 0 text else Err NotAscii) (both_left (list_all is_plain text) (is_trace_alone text) is)
    ∙ alone_reads 1 text (both_right (list_all is_plain text) (is_trace_alone text) is)

mark_by : (text : List ℕ) (plain : Bool) → list_all is_plain text ≡ plain → line_reading text ≡ Ok (token.Word (codes "trace") ∷ []) → (list_all is_plain text && is_trace_alone text) ≡ true
mark_by text true is reads =
    and_from (list_all is_plain text) (is_trace_alone text) is
    (reads_alone 1 text (sym (ap (λ t. if t then tokens_from 1 0 text else Err NotAscii) is) ∙ reads))
mark_by text false is reads =
    let refused : Err NotAscii ≡ Ok (token.Word (codes "trace") ∷ []) = sym (ap (λ t. if t then tokens_from 1 0 text else Err NotAscii) is) ∙ reads in
    absurd (let z : ⊥ = cc in z)

pub reads_mark : (line : List ℕ) → line_reading (take_while is_within line) ≡ Ok (token.Word (codes "trace") ∷ []) → is_mark line ≡ true
unfolding is_mark
reads_mark line reads = mark_by (take_while is_within line) (list_all is_plain (take_while is_within line)) refl reads
