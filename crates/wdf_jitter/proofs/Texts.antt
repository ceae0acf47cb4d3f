-- A moved scene has a text, and its names are the scene's.
use Rattle.std.proofs.Common.{ℕ, ◌≡◌, ◌+◌, ◌&&◌, List, [], ◌∷◌, map, Option, Some, None, IsTrue, IsSomeAnd, refl, sym, ap, ◌∙◌, subst}
use Rattle.std.specs.List.{list_all}
use Rattle.std.specs.Option.{option_and_then}
use Rattle.wdf_scene.specs.declared.line.NumberedLine.{NumberedLine}
use Rattle.wdf_scene.specs.declared.line.SceneLine.{SceneLine}
use Rattle.wdf_scene.specs.declared.line.StatementHead.{StatementHead}
use Rattle.wdf_scene.specs.declared.line.StatementHead.TheVariants as head
use Rattle.wdf_scene.specs.declared.line.SceneLine.TheVariants as line
use Rattle.wdf_scene.specs.declared.scene.Scene.{Scene}
use Rattle.wdf_scene.specs.Blocks.{Position, may_stand, is_outside, moved, after_line, after_lines, front, IsWhole}
use Rattle.wdf_scene.specs.Naming.{declared_name, is_proper_if_there, names_properly, HasProperNames}
use Rattle.wdf_scene.specs.Written.{Written, Plain, Picked, Single, Calling, WrittenLine, line_at, nodes_at, picks_in, written_size, is_plain_form, is_written, lines_at, exprs_at, scene_of, head_line, root, IsScene}
use Rattle.wdf_jitter.specs.Moved.{moved_form, moved_lines, moved_scene}

-- ---- a form that is moved

stands_alike : (most word : ℕ) (p : Position) (form : SceneLine) → may_stand p (moved_form most word form) ≡ may_stand p form
stands_alike most word p (line.At tick action) = refl
stands_alike most word p (line.AtRead tick d n) = refl
stands_alike most word p (line.AtWrite tick d n) = refl
stands_alike most word p (line.AtControl tick d code n) = refl
stands_alike most word p (line.AtCancel tick k) = refl
stands_alike most word p (line.AtAsk tick ask d) = refl
stands_alike most word p form = refl

goes_on_alike : (most word : ℕ) (p : Position) (form : SceneLine) → moved p (moved_form most word form) ≡ moved p form
goes_on_alike most word p (line.At tick action) = refl
goes_on_alike most word p (line.AtRead tick d n) = refl
goes_on_alike most word p (line.AtWrite tick d n) = refl
goes_on_alike most word p (line.AtControl tick d code n) = refl
goes_on_alike most word p (line.AtCancel tick k) = refl
goes_on_alike most word p (line.AtAsk tick ask d) = refl
goes_on_alike most word p form = refl

declares_alike : (most word : ℕ) (form : SceneLine) → declared_name (moved_form most word form) ≡ declared_name form
unfolding declared_name
declares_alike most word (line.At tick action) = refl
declares_alike most word (line.AtRead tick d n) = refl
declares_alike most word (line.AtWrite tick d n) = refl
declares_alike most word (line.AtControl tick d code n) = refl
declares_alike most word (line.AtCancel tick k) = refl
declares_alike most word (line.AtAsk tick ask d) = refl
declares_alike most word form = refl

plain_alike : (most word : ℕ) (form : SceneLine) → is_plain_form (moved_form most word form) ≡ is_plain_form form
plain_alike most word (line.At tick action) = refl
plain_alike most word (line.AtRead tick d n) = refl
plain_alike most word (line.AtWrite tick d n) = refl
plain_alike most word (line.AtControl tick d code n) = refl
plain_alike most word (line.AtCancel tick k) = refl
plain_alike most word (line.AtAsk tick ask d) = refl
plain_alike most word form = refl

head_alike : (most word : ℕ) (h : StatementHead) (e : ℕ) → head_line h e ≡ moved_form most word (head_line h e)
head_alike most word (head.Let x) e = refl
head_alike most word (head.Put r) e = refl
head_alike most word head.If e = refl
head_alike most word head.Repeat e = refl
head_alike most word head.Spend e = refl
head_alike most word head.Log e = refl
head_alike most word head.Return e = refl

-- ---- a line as it is written

-- a line as it is written, moved by a word
unfoldable pub moved_written : ℕ → ℕ → Written → Written
moved_written most word (Plain form) = Plain (moved_form most word form)
moved_written most word w = w

line_alike : (most word base : ℕ) (w : Written) → line_at base (moved_written most word w) ≡ moved_form most word (line_at base w)
unfolding moved_written
line_alike most word base (Plain form) = refl
line_alike most word base (Picked ns) = refl
line_alike most word base (Single h t) = head_alike most word h (root base t)
line_alike most word base (Calling kind into a b c) = refl

nodes_alike : (most word base : ℕ) (w : Written) → nodes_at base (moved_written most word w) ≡ nodes_at base w
unfolding moved_written
nodes_alike most word base (Plain form) = refl
nodes_alike most word base w = refl

picks_alike : (most word : ℕ) (w : Written) → picks_in (moved_written most word w) ≡ picks_in w
unfolding moved_written
picks_alike most word (Plain form) = refl
picks_alike most word w = refl

size_alike : (most word : ℕ) (w : Written) → written_size (moved_written most word w) ≡ written_size w
unfolding moved_written
size_alike most word (Plain form) = refl
size_alike most word w = refl

written_alike : (most word : ℕ) (w : Written) → is_written (moved_written most word w) ≡ is_written w
unfolding moved_written
written_alike most word (Plain form) = plain_alike most word form
written_alike most word w = refl

-- ---- all lines

-- lines, each moved by its word
unfoldable pub moved_writings : ℕ → List ℕ → List WrittenLine → List WrittenLine
moved_writings most words [] = []
moved_writings most [] (w ∷ ws) = w ∷ ws
moved_writings most (word ∷ words) (w ∷ ws) = record w { written = moved_written most word w.written } ∷ moved_writings most words ws

lines_alike : (most : ℕ) (words : List ℕ) (base : ℕ) (ws : List WrittenLine) → lines_at base (moved_writings most words ws) ≡ moved_lines most words (lines_at base ws)
unfolding moved_writings
lines_alike most words base [] = refl
lines_alike most [] base (w ∷ ws) = refl
lines_alike most (word ∷ words) base (w ∷ ws) =
    let form = line_alike most word base w.written in
    let picks = picks_alike most word w.written in
    let size = size_alike most word w.written in
    let rest = lines_alike most words (base + written_size w.written) ws in
    cc

exprs_alike : (most : ℕ) (words : List ℕ) (base : ℕ) (ws : List WrittenLine) → exprs_at base (moved_writings most words ws) ≡ exprs_at base ws
unfolding moved_writings
exprs_alike most words base [] = refl
exprs_alike most [] base (w ∷ ws) = refl
exprs_alike most (word ∷ words) base (w ∷ ws) =
    let nodes = nodes_alike most word base w.written in
    let size = size_alike most word w.written in
    let rest = exprs_alike most words (base + written_size w.written) ws in
    cc

pub are_written_alike : (most : ℕ) (words : List ℕ) (ws : List WrittenLine) → list_all (λ w. is_written w.written) (moved_writings most words ws) ≡ list_all (λ w. is_written w.written) ws
unfolding moved_writings
are_written_alike most words [] = refl
are_written_alike most [] (w ∷ ws) = refl
are_written_alike most (word ∷ words) (w ∷ ws) =
    ap (λ b. b && list_all (λ w. is_written w.written) (moved_writings most words ws)) (written_alike most word w.written)
    ∙ ap (λ b. is_written w.written && b) (are_written_alike most words ws)

names_alike : (most : ℕ) (words : List ℕ) (lines : List NumberedLine) → list_all names_properly (moved_lines most words lines) ≡ list_all names_properly lines
names_alike most words [] = refl
names_alike most [] (l ∷ lines) = refl
names_alike most (word ∷ words) (l ∷ lines) =
    ap (λ n. is_proper_if_there n && list_all names_properly (moved_lines most words lines)) (declares_alike most word l.form)
    ∙ ap (λ b. names_properly l && b) (names_alike most words lines)

after_alike : (most word : ℕ) (form : SceneLine) (p : Option Position) → option_and_then (λ q. after_line q (moved_form most word form)) p ≡ option_and_then (λ q. after_line q form) p
after_alike most word form None = refl
after_alike most word form (Some q) =
    let stands = stands_alike most word q form in
    let goes_on = goes_on_alike most word q form in
    cc

all_after_alike : (most : ℕ) (words : List ℕ) (p : Option Position) (lines : List NumberedLine) → after_lines p (map (λ l. l.form) (moved_lines most words lines)) ≡ after_lines p (map (λ l. l.form) lines)
all_after_alike most words p [] = refl
all_after_alike most [] p (l ∷ lines) = refl
all_after_alike most (word ∷ words) p (l ∷ lines) =
    all_after_alike most words (option_and_then (λ q. after_line q (moved_form most word l.form)) p) lines
    ∙ ap (λ s. after_lines s (map (λ l. l.form) lines)) (after_alike most word l.form p)

-- ---- the scene

pub whole_alike : (most version : ℕ) (words : List ℕ) (ws : List WrittenLine) → IsWhole version (map (λ l. l.form) (lines_at 0 ws)) → IsWhole version (map (λ l. l.form) (lines_at 0 (moved_writings most words ws)))
whole_alike most version words ws whole =
    let same = ap (λ ls. after_lines (Some (front version)) (map (λ l. l.form) ls)) (lines_alike most words 0 ws) ∙ all_after_alike most words (Some (front version)) (lines_at 0 ws) in
    subst (λ s. IsSomeAnd s (λ p. IsTrue (is_outside p))) (sym same) whole

pub moved_is : (most : ℕ) (words : List ℕ) (scene : Scene) (ws : List WrittenLine) → scene ≡ scene_of scene.version ws → moved_scene most words scene ≡ scene_of scene.version (moved_writings most words ws)
moved_is most words scene ws is =
    let lines : scene.lines ≡ lines_at 0 ws = ap (λ (s : Scene). s.lines) is in
    let exprs : scene.exprs ≡ exprs_at 0 ws = ap (λ (s : Scene). s.exprs) is in
    let moved_too = lines_alike most words 0 ws in
    let nodes_too = exprs_alike most words 0 ws in
    cc

-- A moved scene has a text.
pub moved_has_text : (most : ℕ) (words : List ℕ) (scene : Scene) → IsScene scene → IsScene (moved_scene most words scene)
moved_has_text most words scene is = record {
  ws = moved_writings most words is.ws;
  is = moved_is most words scene is.ws is.is;
  lines = record {
    known = is.lines.known;
    written = subst (λ b. IsTrue b) (sym (are_written_alike most words is.ws)) is.lines.written;
    whole = whole_alike most scene.version words is.ws is.lines.whole;
  };
}

-- The names that it declares are those of the scene.
pub moved_has_names : (most : ℕ) (words : List ℕ) (scene : Scene) → HasProperNames scene → HasProperNames (moved_scene most words scene)
moved_has_names most words scene names = record { each = subst (λ b. IsTrue b) (sym (names_alike most words scene.lines)) names.each }
