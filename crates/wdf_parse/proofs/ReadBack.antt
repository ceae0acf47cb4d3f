-- A scene that is printed is read back.
use Rattle.std.proofs.Common.{◌≡◌, ℕ, suc, ◌+◌, ◌-◌, Bool, true, false, cond, ◌&&◌, ◌⊎◌, inl, inr, List, [], ◌∷◌, ◌++◌, map, flat_map, length, drop, Option, Some, None, option_map, Result, Ok, Err, refl, ap, ◌∙◌, sym, subst, arith, length-drop}
use Rattle.std.specs.Prelude.{◌==◌, Vec, IfOk}
use Rattle.std.specs.declared.alloc.Global.{Global}
use Rattle.std.specs.List.{list_all}
use Rattle.std.proofs.lemmas.List.{map-append}
use Rattle.wdf_scene.specs.declared.block.Block.{Block}
use Rattle.wdf_scene.specs.declared.line.NumberedLine.{NumberedLine}
use Rattle.wdf_scene.specs.declared.line.SceneExpr.{SceneExpr}
use Rattle.wdf_scene.specs.declared.line.SceneLine.{SceneLine}
use Rattle.wdf_scene.specs.declared.line.SceneLine.TheVariants as line
use Rattle.wdf_scene.specs.declared.scene.Scene.{Scene}
use Rattle.wdf_scene.specs.Blocks.{Position, moved, may_stand, opened, with_opened, openers_after}
use Rattle.wdf_scene.specs.Written.{Written, WrittenLine, is_written, line_at, nodes_at, picks_in, exprs_at, scene_of}
use Rattle.wdf_tokens.specs.declared.keyword.Keyword.TheVariants as keyword
use Rattle.wdf_tokens.specs.declared.token.Token.{Token}
use Rattle.wdf_tokens.specs.declared.token.Token.TheVariants as token
use Rattle.wdf_tokens.specs.TokenTexts.{line_bytes}
use Rattle.wdf_tokens.specs.Tokens.{lines_of}
use Rattle.wdf_tokens.specs.WellFormed.{is_token}
use Rattle.wdf_tokens.proofs.KeywordLaws.{keyword_back}
use Rattle.wdf_tokens.proofs.Respelling.{line_is_read, first_line_text}
use Rattle.wdf_scene_lines.specs.Building.{next_node}
use Rattle.wdf_scene_lines.specs.Reading.{read_written}
use Rattle.wdf_scene_lines.specs.Spelling.{written_tokens}
use Rattle.wdf_parse.specs.declared.reader.Reader.{Reader}
use Rattle.wdf_parse.specs.declared.refusal.ParseRefusal.TheVariants as refusal
use Rattle.wdf_parse.specs.Canonical.{written_text, canonical_text}
use Rattle.wdf_parse.specs.Printing.{version_text, printed}
use Rattle.wdf_parse.specs.Standing.{first_number}
use Rattle.wdf_parse.specs.StandsFor.{StandsFor, version_tokens, without_number, without_numbers}
use Rattle.wdf_parse.specs.Laws.{IsReadBack}
use Rattle.wdf_parse.specs.Texts.{opening, with_written, line_taken, version_mark, is_version, is_at_front, tokens_taken, or_bad_line, after_tokens, after_line, after_lines, closed, finished, reading}
use Rattle.wdf_parse.proofs.Built.{is_read, read_scene, all_written, read_stands}
use Rattle.wdf_parse.proofs.History.{Good, AllGood, taken_by}
use Rattle.wdf_parse.proofs.NotVersion.{read_not_version}
use Rattle.wdf_parse.proofs.PrintedLines.{lines_spelled}

-- two readers that differ in line numbers alone
record Same (r s : Reader) : Type 0 where
  version : r.builder.version ≡ s.builder.version
  exprs : r.builder.exprs ≡ s.builder.exprs
  lines : map without_number r.builder.lines ≡ map without_number s.builder.lines
  position : r.place.position ≡ s.place.position
  openers : length r.place.openers ≡ length s.place.openers

opened_same : (o : Option Block) (n m : ℕ) (xs ys : List ℕ) → length xs ≡ length ys → length (with_opened (option_map (λ b. n) o) xs) ≡ length (with_opened (option_map (λ b. m) o) ys)
opened_same None n m xs ys h = h
opened_same (Some b) n m xs ys h = ap suc h

openers_same : (form : SceneLine) (n m : ℕ) (xs ys : List ℕ) → length xs ≡ length ys → length (openers_after xs n form) ≡ length (openers_after ys m form)
openers_same line.End n m xs ys h = omega (arith, length-drop 1 xs, length-drop 1 ys, h)
openers_same form n m xs ys h = opened_same (opened form) n m xs ys h

same_step : (r s : Reader) (n m : ℕ) (w : Written) → Same r s → Same (with_written r n w) (with_written s m w)
same_step r s n m w h =
    let base : next_node r.builder ≡ next_node s.builder = ap (λ (xs : List SceneExpr). length xs) h.exprs in
    let form : line_at (next_node r.builder) w ≡ line_at (next_node s.builder) w = ap (λ k. line_at k w) base in
    record {
      version = h.version;
      exprs = ap (λ (xs : List SceneExpr). xs ++ nodes_at (next_node r.builder) w) h.exprs ∙ ap (λ k. s.builder.exprs ++ nodes_at k w) base;
      lines =
          map-append without_number r.builder.lines (record { number = n; form = line_at (next_node r.builder) w; picks = picks_in w } ∷ [])
          ∙ ap (λ (xs : List NumberedLine). xs ++ record { number = 0; form = line_at (next_node r.builder) w; picks = picks_in w } ∷ []) h.lines
          ∙ ap (λ f. map without_number s.builder.lines ++ record { number = 0; form = f; picks = picks_in w } ∷ []) form
          ∙ sym (map-append without_number s.builder.lines (record { number = m; form = line_at (next_node s.builder) w; picks = picks_in w } ∷ []));
      position = ap (λ p. moved p (line_at (next_node r.builder) w)) h.position ∙ ap (moved s.place.position) form;
      openers = openers_same (line_at (next_node r.builder) w) n m r.place.openers s.place.openers h.openers ∙ ap (λ f. length (openers_after s.place.openers m f)) form;
    }

-- the bytes of a line as it is spelled
abbrev spelled_bytes : WrittenLine → List ℕ
spelled_bytes w = line_bytes (written_tokens w.written)

-- the spelled lines are taken as the lines were
record Replayed (s : Reader) (number : ℕ) (ws : List WrittenLine) (now : Reader) : Type 0 where
  last : Reader
  gives : after_lines (Ok s) number (map spelled_bytes ws) ≡ Ok last
  same : Same now last

filled_after : (s : Reader) (number : ℕ) (ts : List Token) (w : Written) → read_written ts ≡ Some w → after_tokens s number (Ok ts) ≡ or_bad_line number (tokens_taken s number ts)
unfolding read_written
filled_after s number [] w e = absurd (let z : ⊥ = cc in z)
filled_after s number (t ∷ ts) w e = refl

line_replayed : (s : Reader) (number : ℕ) (w : Written) → Good w → may_stand s.place.position (line_at (next_node s.builder) w) ≡ true → after_line s number (line_bytes (written_tokens w)) ≡ Ok (with_written s number w)
unfolding after_line
line_replayed s number w good stands =
    let ts = written_tokens w in
    ap (after_tokens s number) (line_is_read ts good.fit)
    ∙ filled_after s number ts w good.read
    ∙ ap (λ b. or_bad_line number (cond (b && is_at_front s.place.position) (Some (opening 2)) (line_taken s number (read_written ts)))) (read_not_version ts w good.read)
    ∙ ap (λ o. or_bad_line number (line_taken s number o)) good.read
    ∙ ap (λ b. or_bad_line number (cond b (Some (with_written s number w)) None)) stands

replay_by : (ws : List WrittenLine) (r now s : Reader) (number : ℕ) (w : WrittenLine) (b : Bool)
    → ((x y : Reader) → AllGood ws → Same x y → taken_by (Some x) ws ≡ Some now → Replayed y (suc number) ws now)
    → Good w.written → AllGood ws → Same r s
    → may_stand r.place.position (line_at (next_node r.builder) w.written) ≡ b
    → taken_by (cond b (Some (with_written r w.number w.written)) None) ws ≡ Some now
    → Replayed s number (w ∷ ws) now
replay_by ws r now s number w false onward good goods same stands e = absurd (let z : ⊥ = cc in z)
replay_by ws r now s number w true onward good goods same stands e =
    let base : next_node r.builder ≡ next_node s.builder = ap (λ (xs : List SceneExpr). length xs) same.exprs in
    let stands_too : may_stand s.place.position (line_at (next_node s.builder) w.written) ≡ true =
    ap (λ k. may_stand s.place.position (line_at k w.written)) (sym base)
    ∙ ap (λ p. may_stand p (line_at (next_node r.builder) w.written)) (sym same.position) ∙ stands in
    let behind = onward (with_written r w.number w.written) (with_written s number w.written) goods (same_step r s w.number number w.written same) e in
    record {
      last = behind.last;
      gives = ap (λ x. after_lines x (suc number) (map spelled_bytes ws)) (line_replayed s number w.written good stands_too) ∙ behind.gives;
      same = behind.same;
    }

replay : (ws : List WrittenLine) (number : ℕ) (now r s : Reader) → AllGood ws → Same r s → taken_by (Some r) ws ≡ Some now → Replayed s number ws now
replay [] number now r s goods same e = let is : r ≡ now = cc in record { last = s; gives = refl; same = subst (λ x. Same x s) is same }
replay (w ∷ ws) number now r s goods same e =
    replay_by ws r now s number w (may_stand r.place.position (line_at (next_node r.builder) w.written)) (replay ws (suc number) now) goods.0 goods.1 same refl e

-- the lines of a canonical text
canonical_lines : (ws : List WrittenLine) → AllGood ws → lines_of (flat_map written_text ws) ≡ map spelled_bytes ws
canonical_lines [] goods = refl
canonical_lines (w ∷ ws) goods =
    first_line_text (written_tokens w.written) (flat_map written_text ws) goods.0.fit
    ∙ ap (λ (ls : List (List ℕ)). spelled_bytes w ∷ ls) (canonical_lines ws goods.1)

pub version_is : is_version version_tokens ≡ true
version_is = ap (λ k. version_mark k 2) (keyword_back keyword.Version)

version_fit : list_all is_token version_tokens ≡ true
version_fit = refl

version_taken : (number : ℕ) → after_line (opening 1) number (line_bytes version_tokens) ≡ Ok (opening 2)
unfolding after_line
version_taken number =
    ap (after_tokens (opening 1) number) (line_is_read version_tokens version_fit)
    ∙ ap (λ b. or_bad_line number (cond (b && true) (Some (opening 2)) (line_taken (opening 1) number (read_written version_tokens)))) version_is

same_opening : (v : ℕ) → Same (opening v) (opening v)
same_opening v = record { version = refl; exprs = refl; lines = refl; position = refl; openers = refl }

-- what the canonical text gives
record Again (v : ℕ) (ws : List WrittenLine) (now : Reader) : Type 0 where
  last : Reader
  gives : after_lines (Ok (opening 1)) 1 (lines_of (canonical_text v ws)) ≡ Ok last
  same : Same now last

again_one : (ws : List WrittenLine) (now : Reader) → AllGood ws → taken_by (Some (opening 1)) ws ≡ Some now → Again 1 ws now
unfolding canonical_text
again_one ws now goods e =
    let r = replay ws 1 now (opening 1) (opening 1) goods (same_opening 1) e in
    record { last = r.last; gives = ap (after_lines (Ok (opening 1)) 1) (canonical_lines ws goods) ∙ r.gives; same = r.same }

again_two : (ws : List WrittenLine) (now : Reader) → AllGood ws → taken_by (Some (opening 2)) ws ≡ Some now → Again 2 ws now
unfolding canonical_text
again_two ws now goods e =
    let r = replay ws 2 now (opening 2) (opening 2) goods (same_opening 2) e in
    record {
      last = r.last;
      gives =
          ap (after_lines (Ok (opening 1)) 1) (first_line_text version_tokens (flat_map written_text ws) version_fit)
          ∙ ap (λ x. after_lines x 2 (lines_of (flat_map written_text ws))) (version_taken 1)
          ∙ ap (after_lines (Ok (opening 2)) 2) (canonical_lines ws goods)
          ∙ r.gives;
      same = r.same;
    }

again : (v : ℕ) (ws : List WrittenLine) (now : Reader) → ((v ≡ 1) ⊎ (v ≡ 2)) → AllGood ws → taken_by (Some (opening v)) ws ≡ Some now → Again v ws now
again v ws now (inl is) goods e = subst (λ n. Again n ws now) (sym is) (again_one ws now goods (ap (λ n. taken_by (Some (opening n)) ws) (sym is) ∙ e))
again v ws now (inr is) goods e = subst (λ n. Again n ws now) (sym is) (again_two ws now goods (ap (λ n. taken_by (Some (opening n)) ws) (sym is) ∙ e))

-- a canonical text is the printed scene
pub printed_canonical : (v : ℕ) (ws : List WrittenLine) → list_all (λ w. is_written w.written) ws ≡ true → printed (scene_of v ws) ≡ canonical_text v ws
unfolding printed canonical_text
printed_canonical v ws h = ap (λ (xs : List ℕ). version_text v ++ xs) (lines_spelled ws (exprs_at 0 ws) [] 0 refl refl h)

no_openers : (ns : List ℕ) → 0 ≡ length ns → first_number ns ≡ None
no_openers [] h = refl
no_openers (n ∷ ns) h = absurd (omega arith)

same_scene : (r s : Reader) → Same r s → without_numbers s.builder ≡ without_numbers r.builder
same_scene r s h =
    ap (λ v. record { version = v; lines = map without_number s.builder.lines; exprs = s.builder.exprs }) (sym h.version)
    ∙ ap (λ (ls : List NumberedLine). record { version = r.builder.version; lines = ls; exprs = s.builder.exprs }) (sym h.lines)
    ∙ ap (λ (es : List SceneExpr). record { version = r.builder.version; lines = map without_number r.builder.lines; exprs = es }) (sym h.exprs)

ended : (text : List ℕ) (now last : Reader) → after_lines (Ok (opening 1)) 1 (lines_of text) ≡ Ok last → Same now last → (now.place.position.headers == 3) ≡ true → now.place.openers ≡ [] → reading text ≡ Ok last.builder
unfolding reading
ended text now last gives same headers openers =
    let past = length (lines_of text) + 1 in
    let there : (last.place.position.headers == 3) ≡ true = ap (λ (p : Position). p.headers == 3) (sym same.position) ∙ headers in
    let none_left : first_number last.place.openers ≡ None = no_openers last.place.openers (ap (λ (ns : List ℕ). length ns) (sym openers) ∙ same.openers) in
    ap (finished past) gives
    ∙ ap (λ b. cond b (closed (first_number last.place.openers) last.builder) (Err (refusal.BadLine past))) there
    ∙ ap (λ o. closed o last.builder) none_left

same_itself : (r : Reader) → Same r r
same_itself r = record { version = refl; exprs = refl; lines = refl; position = refl; openers = refl }

-- a text whose lines are taken, and that may end there, has a scene
pub reading_ends : (text : List ℕ) (now : Reader) → after_lines (Ok (opening 1)) 1 (lines_of text) ≡ Ok now → (now.place.position.headers == 3) ≡ true → now.place.openers ≡ [] → reading text ≡ Ok now.builder
reading_ends text now gives headers openers = ended text now now gives (same_itself now) headers openers

pub read_back : (text : List ℕ) (s : Scene) → reading text ≡ Ok s → IsReadBack s
read_back text s e =
    let h = is_read text s e in
    let is = read_scene text s h in
    let a = again h.history.version h.history.ws h.now h.history.known h.history.good h.history.taken in
    let written = all_written h.history.ws h.history.good in
    let text_is : printed s ≡ canonical_text h.history.version h.history.ws = ap printed is ∙ printed_canonical h.history.version h.history.ws written in
    record {
      again = a.last.builder;
      stands = read_stands (printed s) a.last.builder (ap reading text_is ∙ ended (canonical_text h.history.version h.history.ws) h.now a.last a.gives a.same h.headers h.openers);
      same = same_scene h.now a.last a.same ∙ ap without_numbers (sym h.scene);
    }

-- what is printed of a scene that stands for a text is its canonical text
pub canonical_if : {E : Type 0} (source : List ℕ) (s : Scene) (stands : StandsFor source s) (r : Result (Vec ℕ Global) E) → IfOk r (λ t. t.items ≡ printed s) → IfOk r (λ t. t.items ≡ canonical_text s.version stands.ws)
canonical_if source s stands (Err e) h = tt
canonical_if source s stands (Ok t) h = h ∙ ap printed stands.is ∙ printed_canonical s.version stands.ws stands.lines.written
