-- What is built of some lines.
use Rattle.std.proofs.Common.{◌≡◌, ℕ, suc, ◌+◌, ◌-◌, Bool, true, false, cond, List, [], ◌∷◌, ◌++◌, map, length, drop, Option, Some, None, option_map, Result, Ok, Err, IsTrue, refl, ap, ◌∙◌, sym, subst, arith, append_assoc, append-nil, length-append, length-drop}
use Rattle.std.specs.Prelude.{◌==◌}
use Rattle.std.specs.List.{list_all}
use Rattle.std.specs.Option.{is_none}
use Rattle.wdf_scene.specs.declared.block.Block.{Block}
use Rattle.wdf_scene.specs.declared.line.NumberedLine.{NumberedLine}
use Rattle.wdf_scene.specs.declared.line.SceneExpr.{SceneExpr}
use Rattle.wdf_scene.specs.declared.line.SceneLine.{SceneLine}
use Rattle.wdf_scene.specs.declared.line.SceneLine.TheVariants as line
use Rattle.wdf_scene.specs.declared.scene.Scene.{Scene}
use Rattle.wdf_scene.specs.Blocks.{Position, innermost, in_if, is_outside, moved, may_stand, opened, with_opened, openers_after}
use Rattle.wdf_scene.specs.Blocks as blocks
use Rattle.wdf_scene.specs.Written.{WrittenLine, is_written, line_at, nodes_at, written_size, picks_in, lines_at, exprs_at, scene_of, AreLines}
use Rattle.wdf_tokens.specs.Tokens.{lines_of}
use Rattle.wdf_scene_lines.specs.Building.{next_node}
use Rattle.wdf_parse.specs.declared.reader.Reader.{Reader}
use Rattle.wdf_parse.specs.declared.refusal.ParseRefusal.{ParseRefusal}
use Rattle.wdf_parse.specs.declared.refusal.ParseRefusal.TheVariants as refusal
use Rattle.wdf_parse.specs.Standing.{first_number}
use Rattle.wdf_parse.specs.StandsFor.{StandsFor, spelled_line, version_lines}
use Rattle.wdf_parse.specs.Texts.{opening, with_written, after_lines, closed, finished, reading}
use Rattle.wdf_parse.proofs.History.{AllGood, taken_by, FrontHistory, front_history}
use Rattle.wdf_parse.proofs.PrintedLines.{length_nodes_at}

-- as many lines opened blocks as blocks are open
abbrev IsBalanced : Reader → Type 0
IsBalanced r = length r.place.openers ≡ length r.place.position.blocks

opened_balance : (o : Option Block) (number : ℕ) (openers : List ℕ) (bs : List Block) → length openers ≡ length bs → length (with_opened (option_map (λ b. number) o) openers) ≡ length (with_opened o bs)
opened_balance None number openers bs h = h
opened_balance (Some b) number openers bs h = ap suc h

drop_balance : (openers : List ℕ) (bs : List Block) → length openers ≡ length bs → length (drop 1 openers) ≡ length (drop 1 bs)
drop_balance openers bs h = omega (arith, length-drop 1 openers, length-drop 1 bs, h)

else_balance : (openers : List ℕ) (bs : List Block) → in_if (innermost bs) ≡ true → length openers ≡ length bs → length openers ≡ suc (length (drop 1 bs))
else_balance openers [] stands h = absurd (let z : ⊥ = cc in z)
else_balance openers (b ∷ bs) stands h = h

balance_step : (p : Position) (openers : List ℕ) (number : ℕ) (form : SceneLine) → may_stand p form ≡ true → length openers ≡ length p.blocks → length (openers_after openers number form) ≡ length (moved p form).blocks
balance_step p openers number line.End stands h = drop_balance openers p.blocks h
balance_step p openers number line.Else stands h = else_balance openers p.blocks stands h
balance_step p openers number form stands h = opened_balance (opened form) number openers p.blocks h

-- what some lines add to a reader
pub record Adds (r : Reader) (ws : List WrittenLine) (now : Reader) : Type 0 where
  pub version : now.builder.version ≡ r.builder.version
  pub exprs : now.builder.exprs ≡ r.builder.exprs ++ exprs_at (next_node r.builder) ws
  pub lines : now.builder.lines ≡ r.builder.lines ++ lines_at (next_node r.builder) ws
  pub position : blocks.after_lines (Some r.place.position) (map (λ l. l.form) (lines_at (next_node r.builder) ws)) ≡ Some now.place.position
  pub balance : IsBalanced r → IsBalanced now

adds_step : (r now : Reader) (w : WrittenLine) (ws : List WrittenLine) → may_stand r.place.position (line_at (next_node r.builder) w.written) ≡ true → Adds (with_written r w.number w.written) ws now → Adds r (w ∷ ws) now
adds_step r now w ws stands h =
    let base = next_node r.builder in
    let further : length (r.builder.exprs ++ nodes_at base w.written) ≡ base + written_size w.written =
    length-append r.builder.exprs (nodes_at base w.written) ∙ ap (λ n. base + n) (length_nodes_at base w.written) in
    let x : NumberedLine = record { number = w.number; form = line_at base w.written; picks = picks_in w.written } in
    record {
      version = h.version;
      exprs = h.exprs ∙ append_assoc r.builder.exprs (nodes_at base w.written) (exprs_at (length (r.builder.exprs ++ nodes_at base w.written)) ws)
          ∙ ap (λ n. r.builder.exprs ++ (nodes_at base w.written ++ exprs_at n ws)) further;
      lines = h.lines ∙ append_assoc r.builder.lines (x ∷ []) (lines_at (length (r.builder.exprs ++ nodes_at base w.written)) ws)
          ∙ ap (λ n. r.builder.lines ++ (x ∷ lines_at n ws)) further;
      position =
          ap (λ b. blocks.after_lines (cond b (Some (moved r.place.position (line_at base w.written))) None) (map (λ l. l.form) (lines_at (base + written_size w.written) ws))) stands
          ∙ ap (λ n. blocks.after_lines (Some (moved r.place.position (line_at base w.written))) (map (λ l. l.form) (lines_at n ws))) (sym further)
          ∙ h.position;
      balance = λ b. h.balance (balance_step r.place.position r.place.openers w.number (line_at base w.written) stands b);
    }

adds_by : (r now : Reader) (w : WrittenLine) (ws : List WrittenLine) (b : Bool) → may_stand r.place.position (line_at (next_node r.builder) w.written) ≡ b → ((s : Reader) → taken_by (Some s) ws ≡ Some now → Adds s ws now) → taken_by (cond b (Some (with_written r w.number w.written)) None) ws ≡ Some now → Adds r (w ∷ ws) now
adds_by r now w ws true stands onward e = adds_step r now w ws stands (onward (with_written r w.number w.written) e)
adds_by r now w ws false stands onward e = absurd (let z : ⊥ = cc in z)

pub adds : (ws : List WrittenLine) (now r : Reader) → taken_by (Some r) ws ≡ Some now → Adds r ws now
adds [] now r e =
    let same : r ≡ now = cc in
    subst (λ s. Adds r [] s) same (record { version = refl; exprs = sym (append-nil r.builder.exprs); lines = sym (append-nil r.builder.lines); position = refl; balance = λ b. b })
adds (w ∷ ws) now r e = adds_by r now w ws (may_stand r.place.position (line_at (next_node r.builder) w.written)) refl (adds ws now) e

pub all_written : (ws : List WrittenLine) → AllGood ws → list_all (λ w. is_written w.written) ws ≡ true
all_written [] h = refl
all_written (w ∷ ws) h = rw h.0.written (all_written ws h.1)

-- where a text may end
pub record Ends (r : Result Reader ParseRefusal) (s : Scene) : Type 0 where
  pub now : Reader
  pub is : r ≡ Ok now
  pub headers : (now.place.position.headers == 3) ≡ true
  pub openers : now.place.openers ≡ []
  pub scene : s ≡ now.builder

ends_open : (now : Reader) (s : Scene) (openers : List ℕ) → now.place.openers ≡ openers → (now.place.position.headers == 3) ≡ true → closed (first_number openers) now.builder ≡ Ok s → Ends (Ok now) s
ends_open now s [] is headers e = record { now = now; is = refl; headers = headers; openers = is; scene = let same : now.builder ≡ s = cc in sym same }
ends_open now s (n ∷ ns) is headers e = absurd (let z : ⊥ = cc in z)

ends_by : (past : ℕ) (now : Reader) (s : Scene) (b : Bool) → (now.place.position.headers == 3) ≡ b → cond b (closed (first_number now.place.openers) now.builder) (Err (refusal.BadLine past)) ≡ Ok s → Ends (Ok now) s
ends_by past now s true headers e = ends_open now s now.place.openers refl headers e
ends_by past now s false headers e = absurd (let z : ⊥ = cc in z)

pub ends : (past : ℕ) (r : Result Reader ParseRefusal) (s : Scene) → finished past r ≡ Ok s → Ends r s
ends past (Ok now) s e = ends_by past now s (now.place.position.headers == 3) refl e
ends past (Err f) s e = absurd (let z : ⊥ = cc in z)

none_open : (bs : List Block) → 0 ≡ length bs → is_none (innermost bs) ≡ true
none_open [] h = refl
none_open (b ∷ bs) h = absurd (omega arith)

outside : (now : Reader) → (now.place.position.headers == 3) ≡ true → now.place.openers ≡ [] → IsBalanced now → IsTrue (is_outside now.place.position)
outside now headers openers balanced =
    let empty : 0 ≡ length now.place.position.blocks = ap (λ (ns : List ℕ). length ns) (sym openers) ∙ balanced in
    rw (headers, none_open now.place.position.blocks empty) refl

-- what is known of a text that is read
pub record IsRead (text : List ℕ) (s : Scene) : Type 0 where
  pub now : Reader
  pub history : FrontHistory 1 (lines_of text) now
  pub headers : (now.place.position.headers == 3) ≡ true
  pub openers : now.place.openers ≡ []
  pub scene : s ≡ now.builder
  pub adds : Adds (opening history.version) history.ws now

pub is_read : (text : List ℕ) (s : Scene) → reading text ≡ Ok s → IsRead text s
unfolding reading
is_read text s e =
    let end = ends (length (lines_of text) + 1) (after_lines (Ok (opening 1)) 1 (lines_of text)) s e in
    let h = front_history (lines_of text) 1 end.now end.is in
    record { now = end.now; history = h; headers = end.headers; openers = end.openers; scene = end.scene; adds = adds h.ws end.now (opening h.version) h.taken }

pub scene_parts : (b : Scene) (v : ℕ) (ls : List NumberedLine) (es : List SceneExpr) → b.version ≡ v → b.lines ≡ ls → b.exprs ≡ es → b ≡ record { version = v; lines = ls; exprs = es }
scene_parts b v ls es is_v is_ls is_es =
    ap (λ x. record { version = x; lines = b.lines; exprs = b.exprs }) is_v
    ∙ ap (λ (x : List NumberedLine). record { version = v; lines = x; exprs = b.exprs }) is_ls
    ∙ ap (λ (x : List SceneExpr). record { version = v; lines = ls; exprs = x }) is_es

-- the scene of a text that is read
pub read_scene : (text : List ℕ) (s : Scene) (h : IsRead text s) → s ≡ scene_of h.history.version h.history.ws
read_scene text s h = h.scene ∙ scene_parts h.now.builder h.history.version (lines_at 0 h.history.ws) (exprs_at 0 h.history.ws) h.adds.version h.adds.lines h.adds.exprs

are_lines : (text : List ℕ) (s : Scene) (h : IsRead text s) → AreLines h.history.version h.history.ws
are_lines text s h = record {
  known = h.history.known;
  written = all_written h.history.ws h.history.good;
  whole = rw h.adds.position (outside h.now h.headers h.openers (h.adds.balance refl));
}

-- the scene that is read stands for the text
pub read_stands : (text : List ℕ) (s : Scene) → reading text ≡ Ok s → StandsFor text s
read_stands text s e =
    let h = is_read text s e in
    let is = read_scene text s h in
    let version : h.history.version ≡ s.version = sym (ap (λ (x : Scene). x.version) is) in
    record {
      first = h.history.first;
      ws = h.history.ws;
      tokens = h.history.tokens ∙ ap (λ v. Some (version_lines v h.history.first ++ map spelled_line h.history.ws)) version;
      is = is ∙ ap (λ v. scene_of v h.history.ws) version;
      lines = subst (λ v. AreLines v h.history.ws) version (are_lines text s h);
    }
