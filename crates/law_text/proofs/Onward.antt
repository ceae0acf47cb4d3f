-- A text that isn't read has the refusal that the reading says.
use Rattle.std.proofs.Common.{◌≡◌, inl, inr, ℕ, suc, ◌+◌, ◌<◌, ◌==◌, Bool, true, false, cond, ◌&&◌, List, [], ◌∷◌, ◌++◌, length, Option, Some, None, Result, Ok, Err, IsTrue, refl, ap, sym, subst, ◌∙◌, arith}
use Rattle.std.specs.List.{list_all}
use Rattle.wdf_scene.specs.Blocks.{may_stand}
use Rattle.wdf_scene.specs.Written.{line_at}
use Rattle.wdf_tokens.specs.declared.lexer.TokenFault.{TokenFault}
use Rattle.wdf_tokens.specs.declared.lexer.TokenFault.TheVariants as fault
use Rattle.wdf_tokens.specs.declared.token.Token.{Token}
use Rattle.wdf_tokens.specs.Tokens.{is_plain, tokens_from, line_reading, lines_of}
use Rattle.wdf_scene_lines.specs.Building.{next_node}
use Rattle.wdf_scene_lines.specs.Reading.{read_written}
use Rattle.wdf_scene_lines.proofs.Completeness.{written_read}
use Rattle.wdf_parse.specs.declared.reader.Reader.{Reader}
use Rattle.wdf_parse.specs.declared.refusal.ParseRefusal.{ParseRefusal}
use Rattle.wdf_parse.specs.declared.refusal.ParseRefusal.TheVariants as refusal
use Rattle.wdf_parse.specs.Standing.{first_number}
use Rattle.wdf_parse.specs.Texts.{opening, with_written, line_taken, is_version, is_at_front, tokens_taken, or_bad_line, refused, after_tokens, after_line, after_lines, closed, finished, reading}
use Rattle.wdf_parse.proofs.ReadBack.{version_is}
use Rattle.law_text.specs.FirstRefusal.{HasLine, HasBadLine, IsFirstRefusal}
use Rattle.law_text.proofs.Columns.{foreign_there, large_there, plain_there}
use Rattle.law_text.proofs.Readers.{stands_same, IsReader, TakenLines, taken_lines}

-- ---- the line that fails

-- some lines are taken, and the next one is refused
record IsBroken (r : Reader) (n : ℕ) (lines : List (List ℕ)) (e : ParseRefusal) : Type 0 where
  before : List (List ℕ)
  line : List ℕ
  after : List (List ℕ)
  are : lines ≡ before ++ line ∷ after
  now : Reader
  gives : after_lines (Ok r) n before ≡ Ok now
  fails : after_line now (n + length before) line ≡ Err e

broken_step : (r : Reader) (n : ℕ) (l : List ℕ) (ls : List (List ℕ)) (e : ParseRefusal) (o : Result Reader ParseRefusal) → after_line r n l ≡ o → after_lines o (suc n) ls ≡ Err e → ((s : Reader) → after_lines (Ok s) (suc n) ls ≡ Err e → IsBroken s (suc n) ls e) → IsBroken r n (l ∷ ls) e
broken_step r n l ls e (Err f) is h onward =
    let same : f ≡ e = cc in
    let here : n ≡ n + 0 = omega arith in
    record {
      before = [];
      line = l;
      after = ls;
      are = refl;
      now = r;
      gives = refl;
      fails = ap (λ m. after_line r m l) (sym here) ∙ (is ∙ ap (λ x. Err x) same);
    }
broken_step r n l ls e (Ok s) is h onward =
    let b = onward s h in
    let later : n + suc (length b.before) ≡ suc n + length b.before = omega arith in
    record {
      before = l ∷ b.before;
      line = b.line;
      after = b.after;
      are = ap (λ xs. l ∷ xs) b.are;
      now = b.now;
      gives = ap (λ x. after_lines x (suc n) b.before) is ∙ b.gives;
      fails = ap (λ m. after_line b.now m b.line) later ∙ b.fails;
    }

broken : (lines : List (List ℕ)) (n : ℕ) (r : Reader) (e : ParseRefusal) → after_lines (Ok r) n lines ≡ Err e → IsBroken r n lines e
broken [] n r e h = absurd (let z : ⊥ = cc in z)
broken (l ∷ ls) n r e h = broken_step r n l ls e (after_line r n l) refl h (λ s g. broken ls (suc n) s e g)

-- ---- what is wrong with it

foreign_by : (line : List ℕ) (b : Bool) → list_all is_plain line ≡ b → cond b (tokens_from 1 0 line) (Err fault.NotAscii) ≡ Err fault.NotAscii → list_all is_plain line ≡ false
foreign_by line true is e = absurd (plain_there line e)
foreign_by line false is e = is

-- a fault other than a foreign byte is one of its tokens
record IsLexed (line : List ℕ) (f : TokenFault) : Type 0 where
  plain : IsTrue (list_all is_plain line)
  faulty : tokens_from 1 0 line ≡ Err f

lexed_by : (line : List ℕ) (f : TokenFault) (b : Bool) → list_all is_plain line ≡ b → (fault.NotAscii ≡ f → ⊥) → cond b (tokens_from 1 0 line) (Err fault.NotAscii) ≡ Err f → IsLexed line f
lexed_by line f true is other e = record { plain = is; faulty = e }
lexed_by line f false is other e = let same : fault.NotAscii ≡ f = cc in absurd (other same)

by_fault : (text : List ℕ) (number : ℕ) (h : HasLine text number) (f : TokenFault) → line_reading h.line ≡ Err f → IsFirstRefusal text (refused number f)
by_fault text number h fault.NotAscii e =
    record { at = h; foreign = foreign_by h.line (list_all is_plain h.line) refl e }
by_fault text number h (fault.BadToken column) e =
    let x = lexed_by h.line (fault.BadToken column) (list_all is_plain h.line) refl (λ z. let w : ⊥ = cc in w) e in
    record { at = h; plain = x.plain; stuck = foreign_there h.line column x.faulty }
by_fault text number h (fault.NumberTooLarge column) e =
    let x = lexed_by h.line (fault.NumberTooLarge column) (list_all is_plain h.line) refl (λ z. let w : ⊥ = cc in w) e in
    record { at = h; plain = x.plain; stuck = large_there h.line column x.faulty }

-- ---- its tokens

not_version : (a b : Bool) (r : Reader) (o : Option Reader) → a ≡ true → cond (a && b) (Some r) o ≡ None → b ≡ false
not_version a false r o is e = refl
not_version false true r o is e = absurd (let z : ⊥ = cc in z)
not_version true true r o is e = absurd (let z : ⊥ = cc in z)

not_taken : (b : Bool) (r : Reader) (o : Option Reader) → cond b (Some r) o ≡ None → o ≡ None
not_taken true r o e = absurd (let z : ⊥ = cc in z)
not_taken false r o e = e

not_stood : (b : Bool) (r : Reader) → cond b (Some r) None ≡ None → b ≡ false
not_stood true r e = absurd (let z : ⊥ = cc in z)
not_stood false r e = refl

bad_line : (text : List ℕ) (number : ℕ) (h : HasLine text number) (now : Reader) → IsReader h.before h.read now → (ts : List Token) → line_reading h.line ≡ Ok ts → 0 < length ts → tokens_taken now number ts ≡ None → HasBadLine text number
bad_line text number h now i ts are filled e =
    let base = next_node now.builder in
    let plain : line_taken now number (read_written ts) ≡ None = not_taken (is_version ts && is_at_front now.place.position) (opening 2) (line_taken now number (read_written ts)) e in
    record {
      at = h;
      tokens = ts;
      are = are;
      filled = filled;
      none = λ w is spelled.
          let read : read_written ts ≡ Some w = sym (ap read_written spelled) ∙ written_read w is in
          let here : line_taken now number (Some w) ≡ None = sym (ap (line_taken now number) read) ∙ plain in
          let no : may_stand now.place.position (line_at base w) ≡ false = not_stood (may_stand now.place.position (line_at base w)) (with_written now number w) here in
          ap (λ p. may_stand p (line_at 0 w)) (sym i.position) ∙ (stands_same now.place.position w 0 base ∙ no);
      no_version = λ is.
          let mark : is_version ts ≡ true = ap is_version is ∙ version_is in
          ap is_at_front (sym i.position) ∙ not_version (is_version ts) (is_at_front now.place.position) (opening 2) (line_taken now number (read_written ts)) mark e;
    }

bad_step : (text : List ℕ) (number : ℕ) (o : Option Reader) (e : ParseRefusal) → or_bad_line number o ≡ Err e → (o ≡ None → HasBadLine text number) → IsFirstRefusal text e
bad_step text number (Some r) e h f = absurd (let z : ⊥ = cc in z)
bad_step text number None e h f =
    let same : refusal.BadLine number ≡ e = cc in
    subst (IsFirstRefusal text) same (inl (f refl))

by_reading : (text : List ℕ) (number : ℕ) (h : HasLine text number) (now : Reader) (e : ParseRefusal) → IsReader h.before h.read now → (reading' : Result (List Token) TokenFault) → line_reading h.line ≡ reading' → after_tokens now number reading' ≡ Err e → IsFirstRefusal text e
by_reading text number h now e i (Ok []) is g = absurd (let z : ⊥ = cc in z)
by_reading text number h now e i (Ok (t ∷ ts)) is g =
    bad_step text number (tokens_taken now number (t ∷ ts)) e g (bad_line text number h now i (t ∷ ts) is (omega arith))
by_reading text number h now e i (Err f) is g =
    let same : refused number f ≡ e = cc in
    subst (IsFirstRefusal text) same (by_fault text number h f is)

by_line : (text : List ℕ) (number : ℕ) (h : HasLine text number) (now : Reader) (e : ParseRefusal) → IsReader h.before h.read now → after_line now number h.line ≡ Err e → IsFirstRefusal text e
unfolding after_line
by_line text number h now e i g = by_reading text number h now e i (line_reading h.line) refl g

-- ---- the end of the text

ended_open : (text : List ℕ) (now : Reader) (h : TakenLines (lines_of text) now) (e : ParseRefusal) (o : Option ℕ) → first_number now.place.openers ≡ o → (now.place.position.headers == 3) ≡ true → closed o now.builder ≡ Err e → IsFirstRefusal text e
ended_open text now h e None is whole g = absurd (let z : ⊥ = cc in z)
ended_open text now h e (Some opener) is whole g =
    let same : refusal.Unclosed opener ≡ e = cc in
    subst (IsFirstRefusal text) same (record {
      read = h.read;
      whole = ap (λ p. p.headers == 3) (sym h.reader.position) ∙ whole;
      opener = ap first_number (sym h.reader.openers) ∙ is;
    })

ended_by : (text : List ℕ) (now : Reader) (h : TakenLines (lines_of text) now) (e : ParseRefusal) (b : Bool) → (now.place.position.headers == 3) ≡ b → cond b (closed (first_number now.place.openers) now.builder) (Err (refusal.BadLine (length (lines_of text) + 1))) ≡ Err e → IsFirstRefusal text e
ended_by text now h e true is g = ended_open text now h e (first_number now.place.openers) refl is g
ended_by text now h e false is g =
    let same : refusal.BadLine (length (lines_of text) + 1) ≡ e = cc in
    subst (IsFirstRefusal text) same (inr (record { read = h.read; early = ap (λ p. p.headers == 3) (sym h.reader.position) ∙ is; past = refl }))

-- ---- the whole

broken_told : (text : List ℕ) (e : ParseRefusal) → IsBroken (opening 1) 1 (lines_of text) e → IsFirstRefusal text e
broken_told text e b =
    let t = taken_lines b.before b.now b.gives in
    let count : 1 + length b.before ≡ length b.before + 1 = omega arith in
    by_line text (1 + length b.before) (record { before = b.before; line = b.line; after = b.after; are = b.are; counted = count; read = t.read }) b.now e t.reader b.fails

whole_step : (text : List ℕ) (e : ParseRefusal) (r : Result Reader ParseRefusal) → after_lines (Ok (opening 1)) 1 (lines_of text) ≡ r → finished (length (lines_of text) + 1) r ≡ Err e → IsFirstRefusal text e
whole_step text e (Err f) is g =
    let same : f ≡ e = cc in
    broken_told text e (broken (lines_of text) 1 (opening 1) e (is ∙ ap (λ x. Err x) same))
whole_step text e (Ok now) is g =
    ended_by text now (taken_lines (lines_of text) now is) e (now.place.position.headers == 3) refl g

-- what the reading says is the first refusal
pub refusal_told : (text : List ℕ) (e : ParseRefusal) → reading text ≡ Err e → IsFirstRefusal text e
unfolding reading
refusal_told text e g = whole_step text e (after_lines (Ok (opening 1)) 1 (lines_of text)) refl g
