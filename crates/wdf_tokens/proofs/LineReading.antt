-- A line is read piece by piece.
use Rattle.std.proofs.Common.{◌≡◌, ℕ, ◌+◌, ◌-◌, ◌<◌, ◌≤◌, List, [], ◌∷◌, ◌++◌, length, get_or, drop, take, zero, suc, Option, Some, None, Result, Ok, Err, refl, ap, ◌∙◌, sym, arith, add-zero, drop-cons, drop-drop, append_assoc, append-nil, length-append}
use Rattle.std.proofs.lemmas.List.{drop_all, length-drop}
use Rattle.std.proofs.Math.Seq.{take-length}
use Rattle.std.specs.Option.{option_to_list}
use Rattle.wdf_tokens.specs.declared.token.Token.{Token}
use Rattle.wdf_tokens.specs.declared.lexer.TokenFault.{TokenFault}
use Rattle.wdf_tokens.specs.declared.lexer.Piece.{Piece}
use Rattle.wdf_tokens.specs.Tokens.{piece_of, token_at, with_token, tokens_from}

-- a reading after tokens that are read already
abbrev pub after : List Token → Result (List Token) TokenFault → Result (List Token) TokenFault
after done (Ok tokens) = Ok (done ++ tokens)
after done (Err fault) = Err fault

-- bytes of the piece before are passed over
pub tokens_from_skip : (column skip : ℕ) (bytes : List ℕ) → tokens_from column skip bytes ≡ tokens_from (column + skip) 0 (drop skip bytes)
tokens_from_skip column zero [] = refl
tokens_from_skip column (suc skip) [] = refl
tokens_from_skip column zero (b ∷ bytes) = rw add-zero refl
tokens_from_skip column (suc skip) (b ∷ bytes) =
    let e : suc column + skip ≡ column + suc skip = omega arith in
    tokens_from_skip (suc column) skip bytes ∙ ap (λ n. tokens_from n 0 (drop skip bytes)) e

-- the piece in front, and what is read after it
pub tokens_from_head : (column b : ℕ) (rest : List ℕ) (p : Piece) → p ≡ piece_of (b ∷ rest) → tokens_from column 0 (b ∷ rest) ≡ with_token (token_at column p.content) (tokens_from (suc column + (p.size - 1)) 0 (drop (p.size - 1) rest))
tokens_from_head column b rest p is =
    ap (λ (q : Piece). with_token (token_at column q.content) (tokens_from (suc column) (q.size - 1) rest)) (sym is)
    ∙ ap (with_token (token_at column p.content)) (tokens_from_skip (suc column) (p.size - 1) rest)

-- the piece at a place, and what is read after it
pub tokens_from_piece : (line : List ℕ) (at : ℕ) (p : Piece) → at < length line → p ≡ piece_of (drop at line) → 0 < p.size → tokens_from (at + 1) 0 (drop at line) ≡ with_token (token_at (at + 1) p.content) (tokens_from (at + p.size + 1) 0 (drop (at + p.size) line))
tokens_from_piece line at p inside is some =
    let cut : drop at line ≡ get_or line at 0 ∷ drop (suc at) line = drop-cons line at 0 inside in
    let column : suc (at + 1) + (p.size - 1) ≡ at + p.size + 1 = omega arith in
    let place : suc at + (p.size - 1) ≡ at + p.size = omega arith in
    let dropped : drop (p.size - 1) (drop (suc at) line) ≡ drop (at + p.size) line = drop-drop (p.size - 1) (suc at) line ∙ ap (λ n. drop n line) place in
    ap (tokens_from (at + 1) 0) cut
    ∙ tokens_from_head (at + 1) (get_or line at 0) (drop (suc at) line) p (is ∙ ap piece_of cut)
    ∙ ap (with_token (token_at (at + 1) p.content)) (ap (λ n. tokens_from n 0 (drop (p.size - 1) (drop (suc at) line))) column ∙ ap (tokens_from (at + p.size + 1) 0) dropped)

-- a token that is read joins those before it
after_push : (done : List Token) (token : Option Token) (rest : Result (List Token) TokenFault) → after done (with_token (Ok token) rest) ≡ after (done ++ option_to_list token) rest
after_push done None (Ok tokens) = ap (λ (l : List Token). after l (Ok tokens)) (sym (append-nil done))
after_push done None (Err fault) = refl
after_push done (Some token) (Ok tokens) = ap (λ (l : List Token). Ok l) (sym (append_assoc done (token ∷ []) tokens))
after_push done (Some token) (Err fault) = refl

-- the line's reading is what is read so far and what is read from this place on
pub record ReadUpTo (line : List ℕ) (at : ℕ) (done : List Token) : Type 0 where
  pub splits : tokens_from 1 0 line ≡ after done (tokens_from (at + 1) 0 (drop at line))

-- nothing is read before the line's front
pub read_up_to_front : (line : List ℕ) → ReadUpTo line 0 []
read_up_to_front line = record { splits = none_before (tokens_from 1 0 line) }
  where
    none_before : (r : Result (List Token) TokenFault) → r ≡ after [] r
    none_before (Ok tokens) = refl
    none_before (Err fault) = refl

-- one more piece is read
pub read_up_to_next : (line : List ℕ) (at : ℕ) (done : List Token) (p : Piece) (token : Option Token) → ReadUpTo line at done → at < length line → p ≡ piece_of (drop at line) → 0 < p.size → token_at (at + 1) p.content ≡ Ok token → ReadUpTo line (at + p.size) (done ++ option_to_list token)
read_up_to_next line at done p token before inside is some gives = record {
  splits =
      before.splits
      ∙ ap (after done) (tokens_from_piece line at p inside is some ∙ ap (λ t. with_token t (tokens_from (at + p.size + 1) 0 (drop (at + p.size) line))) gives)
      ∙ after_push done token (tokens_from (at + p.size + 1) 0 (drop (at + p.size) line));
}

-- a piece with a fault ends the reading
pub read_up_to_fault : (line : List ℕ) (at : ℕ) (done : List Token) (p : Piece) (fault : TokenFault) → ReadUpTo line at done → at < length line → p ≡ piece_of (drop at line) → 0 < p.size → token_at (at + 1) p.content ≡ Err fault → tokens_from 1 0 line ≡ Err fault
read_up_to_fault line at done p fault before inside is some gives =
    before.splits
    ∙ ap (after done) (tokens_from_piece line at p inside is some ∙ ap (λ t. with_token t (tokens_from (at + p.size + 1) 0 (drop (at + p.size) line))) gives)

-- at the line's end all is read
pub read_up_to_end : (line : List ℕ) (at : ℕ) (done : List Token) → ReadUpTo line at done → length line ≤ at → tokens_from 1 0 line ≡ Ok done
read_up_to_end line at done before outside =
    before.splits ∙ ap (λ bytes. after done (tokens_from (at + 1) 0 bytes)) (drop_all at line outside) ∙ ap (λ (l : List Token). Ok l) (append-nil done)

-- the slice after a place
pub slice_after : (line : List ℕ) (at : ℕ) → take (length line - at) (drop at line) ≡ drop at line
slice_after line at = rw (← length-drop at line) (take-length (drop at line))

-- one more token needs one more byte
pub few_next : (done : List Token) (token : Option Token) (all : List Token) (at size : ℕ) → length done ≤ at → 0 < size → all ≡ done ++ option_to_list token → length all ≤ at + size
few_next done None all at size few some is = rw is (simp append-nil (omega arith))
few_next done (Some token) all at size few some is = rw is (omega (arith, length-append done (token ∷ [])))
