-- The reading says the first refusal that a text has.
use Rattle.std.proofs.Common.{◌≡◌, inl, inr, ℕ, suc, ◌+◌, ◌<◌, ◌==◌, Bool, true, false, cond, ◌&&◌, List, [], ◌∷◌, length, Option, Some, None, Ok, Err, IsTrue, refl, ap, sym, ◌∙◌, arith}
use Rattle.std.proofs.lemmas.Bool.{eqb-true}
use Rattle.std.specs.List.{list_all}
use Rattle.wdf_scene.specs.Blocks.{may_stand}
use Rattle.wdf_scene.specs.Written.{Written, line_at}
use Rattle.wdf_tokens.specs.declared.keyword.Keyword.{Keyword}
use Rattle.wdf_tokens.specs.declared.keyword.Keyword.TheVariants as keyword
use Rattle.wdf_tokens.specs.declared.lexer.TokenFault.{TokenFault}
use Rattle.wdf_tokens.specs.declared.lexer.TokenFault.TheVariants as fault
use Rattle.wdf_tokens.specs.declared.token.Token.{Token}
use Rattle.wdf_tokens.specs.declared.token.Token.TheVariants as token
use Rattle.wdf_tokens.specs.Keywords.{keyword_of}
use Rattle.wdf_tokens.specs.WordTokens.{word}
use Rattle.wdf_tokens.specs.Tokens.{is_plain, tokens_from, line_reading, lines_of}
use Rattle.wdf_tokens.proofs.KeywordLaws.{keyword_only}
use Rattle.wdf_tokens.proofs.LexedTokens.{read_fit}
use Rattle.wdf_scene_lines.specs.Building.{next_node}
use Rattle.wdf_scene_lines.specs.Reading.{read_written}
use Rattle.wdf_scene_lines.proofs.LineSoundness.{read_spelled}
use Rattle.wdf_parse.specs.declared.reader.Reader.{Reader}
use Rattle.wdf_parse.specs.declared.refusal.ParseRefusal.{ParseRefusal}
use Rattle.wdf_parse.specs.declared.refusal.ParseRefusal.TheVariants as refusal
use Rattle.wdf_parse.specs.Standing.{first_number}
use Rattle.wdf_parse.specs.StandsFor.{version_tokens}
use Rattle.wdf_parse.specs.Texts.{opening, with_written, line_taken, version_mark, is_version, is_at_front, tokens_taken, or_bad_line, refused, after_tokens, after_line, after_lines, closed, at_end, finished, reading}
use Rattle.law_text.specs.FirstRefusal.{AreRead, HasLine, HasBadLine, IsFirstRefusal}
use Rattle.law_text.proofs.Columns.{stuck_back}
use Rattle.law_text.proofs.Readers.{after_append, stands_same, IsReader, read_lines}

-- ---- a line that fails ends the reading

line_ends : (text : List ℕ) (number : ℕ) (h : HasLine text number) (now : Reader) (e : ParseRefusal) → IsReader h.before h.read now → after_line now number h.line ≡ Err e → reading text ≡ Err e
unfolding reading
line_ends text number h now e i g =
    let count : 1 + length h.before ≡ number = omega (arith, h.counted) in
    let split : after_lines (Ok (opening 1)) 1 (lines_of text) ≡ after_lines (after_lines (Ok (opening 1)) 1 h.before) (1 + length h.before) (h.line ∷ h.after) =
    ap (after_lines (Ok (opening 1)) 1) h.are ∙ after_append (Ok (opening 1)) 1 h.before (h.line ∷ h.after) in
    let there : after_lines (after_lines (Ok (opening 1)) 1 h.before) (1 + length h.before) (h.line ∷ h.after) ≡ after_lines (after_line now number h.line) (suc number) h.after =
    ap (λ r. after_lines r (1 + length h.before) (h.line ∷ h.after)) i.gives ∙ ap (λ n. after_lines (Ok now) n (h.line ∷ h.after)) count in
    ap (finished (length (lines_of text) + 1)) (split ∙ (there ∙ ap (λ r. after_lines r (suc number) h.after) g))

-- ---- its bytes and tokens

foreign_reading : (line : List ℕ) → list_all is_plain line ≡ false → line_reading line ≡ Err fault.NotAscii
foreign_reading line e = ap (λ t. cond t (tokens_from 1 0 line) (Err fault.NotAscii)) e

plain_reading : (line : List ℕ) (f : TokenFault) → IsTrue (list_all is_plain line) → tokens_from 1 0 line ≡ Err f → line_reading line ≡ Err f
plain_reading line f h e =
    let is : list_all is_plain line ≡ true = h in
    ap (λ t. cond t (tokens_from 1 0 line) (Err fault.NotAscii)) is ∙ e

fault_fails : (now : Reader) (number : ℕ) (line : List ℕ) (f : TokenFault) → line_reading line ≡ Err f → after_line now number line ≡ Err (refused number f)
unfolding after_line
fault_fails now number line f e = ap (after_tokens now number) e

-- ---- a line that may not come there

mark_only : (w : List ℕ) (k : Option Keyword) (n : ℕ) → keyword_of w ≡ k → version_mark k n ≡ true → token.Word w ∷ token.Number n ∷ [] ≡ version_tokens
mark_only w (Some keyword.Version) n is h =
    ap (λ x. token.Word x ∷ token.Number n ∷ []) (sym (keyword_only keyword.Version w is)) ∙ ap (λ m. word keyword.Version ∷ token.Number m ∷ []) (eqb-true n 2 h)
mark_only w _ n is h = absurd (let z : ⊥ = cc in z)

version_only : (ts : List Token) → is_version ts ≡ true → ts ≡ version_tokens
version_only (token.Word w ∷ token.Number n ∷ []) h = mark_only w (keyword_of w) n refl h
version_only _ h = absurd (let z : ⊥ = cc in z)

no_mark : (a b : Bool) → (a ≡ true → b ≡ false) → (a && b) ≡ false
no_mark true b f = f refl
no_mark false b f = refl

not_read : (now : Reader) (number : ℕ) (ts : List Token) (o : Option Written) → read_written ts ≡ o → ((w : Written) → read_written ts ≡ Some w → may_stand now.place.position (line_at (next_node now.builder) w) ≡ false) → line_taken now number o ≡ None
not_read now number ts None is f = refl
not_read now number ts (Some w) is f = ap (λ t. cond t (Some (with_written now number w)) None) (f w is)

line_fails : (text : List ℕ) (number : ℕ) (b : HasBadLine text number) (now : Reader) → IsReader b.at.before b.at.read now → tokens_taken now number b.tokens ≡ None
line_fails text number b now i =
    let ts = b.tokens in
    let mark : (is_version ts && is_at_front now.place.position) ≡ false = no_mark (is_version ts) (is_at_front now.place.position) (λ v. ap is_at_front i.position ∙ b.no_version (version_only ts v)) in
    let none : line_taken now number (read_written ts) ≡ None = not_read now number ts (read_written ts) refl (λ w e.
    let s = read_spelled ts w (read_fit b.at.line ts b.are) e in
    stands_same now.place.position w (next_node now.builder) 0 ∙ (ap (λ p. may_stand p (line_at 0 w)) i.position ∙ b.none w s.written s.tokens)) in
    ap (λ t. cond t (Some (opening 2)) (line_taken now number (read_written ts))) mark ∙ none

filled_fails : (now : Reader) (number : ℕ) (line : List ℕ) (ts : List Token) → line_reading line ≡ Ok ts → 0 < length ts → tokens_taken now number ts ≡ None → after_line now number line ≡ Err (refusal.BadLine number)
unfolding after_line
filled_fails now number line [] is h e = absurd (omega arith)
filled_fails now number line (t ∷ ts) is h e = ap (after_tokens now number) is ∙ ap (or_bad_line number) e

-- ---- the end of the text

ends_as : (text : List ℕ) (now : Reader) (r : AreRead (lines_of text)) → IsReader (lines_of text) r now → reading text ≡ at_end (length (lines_of text) + 1) now
unfolding reading
ends_as text now r i = ap (finished (length (lines_of text) + 1)) i.gives

early_end : (past : ℕ) (now : Reader) → (now.place.position.headers == 3) ≡ false → at_end past now ≡ Err (refusal.BadLine past)
early_end past now e =
    ap (λ t. cond t (closed (first_number now.place.openers) now.builder) (Err (refusal.BadLine past))) e

inside_end : (past opener : ℕ) (now : Reader) → (now.place.position.headers == 3) ≡ true → first_number now.place.openers ≡ Some opener → at_end past now ≡ Err (refusal.Unclosed opener)
inside_end past opener now e f =
    ap (λ t. cond t (closed (first_number now.place.openers) now.builder) (Err (refusal.BadLine past))) e ∙ ap (λ o. closed o now.builder) f

-- ---- each refusal

pub refusal_back : (text : List ℕ) (e : ParseRefusal) → IsFirstRefusal text e → reading text ≡ Err e
refusal_back text (refusal.NotAscii number) h =
    let r = read_lines h.at.before h.at.read in
    line_ends text number h.at r.now (refusal.NotAscii number) r.reader (fault_fails r.now number h.at.line fault.NotAscii (foreign_reading h.at.line h.foreign))
refusal_back text (refusal.BadToken number column) h =
    let r = read_lines h.at.before h.at.read in
    line_ends text number h.at r.now (refusal.BadToken number column) r.reader (fault_fails r.now number h.at.line (fault.BadToken column) (plain_reading h.at.line (fault.BadToken column) h.plain (stuck_back h.at.line column (fault.BadToken column) h.stuck)))
refusal_back text (refusal.NumberTooLarge number column) h =
    let r = read_lines h.at.before h.at.read in
    line_ends text number h.at r.now (refusal.NumberTooLarge number column) r.reader (fault_fails r.now number h.at.line (fault.NumberTooLarge column) (plain_reading h.at.line (fault.NumberTooLarge column) h.plain (stuck_back h.at.line column (fault.NumberTooLarge column) h.stuck)))
refusal_back text (refusal.BadLine number) (inl h) =
    let r = read_lines h.at.before h.at.read in
    line_ends text number h.at r.now (refusal.BadLine number) r.reader (filled_fails r.now number h.at.line h.tokens h.are h.filled (line_fails text number h r.now r.reader))
refusal_back text (refusal.BadLine number) (inr h) =
    let r = read_lines (lines_of text) h.read in
    let early : (r.now.place.position.headers == 3) ≡ false = ap (λ p. p.headers == 3) r.reader.position ∙ h.early in
    ends_as text r.now h.read r.reader ∙ (early_end (length (lines_of text) + 1) r.now early ∙ ap (λ n. Err (refusal.BadLine n)) (sym h.past))
refusal_back text (refusal.Unclosed number) h =
    let r = read_lines (lines_of text) h.read in
    let whole : (r.now.place.position.headers == 3) ≡ true = ap (λ p. p.headers == 3) r.reader.position ∙ h.whole in
    ends_as text r.now h.read r.reader ∙ inside_end (length (lines_of text) + 1) number r.now whole (ap first_number r.reader.openers ∙ h.opener)
refusal_back text refusal.Memory h = absurd h
