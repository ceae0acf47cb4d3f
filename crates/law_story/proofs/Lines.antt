-- Lines as they are written: one list after the other, the `order` block, and lines with new numbers.
use Rattle.std.proofs.Common.{◌≡◌, ℕ, suc, ◌+◌, ◌≤◌, ◌&&◌, List, [], ◌∷◌, ◌++◌, map, flat_map, refl, sym, ap, ◌∙◌, append_assoc, arith}
use Rattle.std.specs.List.{list_all}
use Rattle.wdf_scene.specs.declared.line.NumberedLine.{NumberedLine}
use Rattle.wdf_scene.specs.declared.line.SceneExpr.{SceneExpr}
use Rattle.wdf_scene.specs.declared.line.SceneLine.TheVariants as line
use Rattle.wdf_scene.specs.Written.{Plain, WrittenLine, exprs_at, is_written, line_at, lines_at, nodes_at, picks_in, scene_of, written_size}
use Rattle.wdf_parse.specs.Canonical.{written_text}
use Rattle.wdf_parse.specs.StandsFor.{without_number}
use Rattle.wdf_refusals.proofs.Heads.{form_of}
use Rattle.law_order.specs.Order.{IsWithoutOrder, PicksLine, order_block, picks_line}
use Rattle.law_story.specs.Spelled.{AreRising}
use Rattle.law_story.proofs.Split.{order_written, picks_written}

-- how many nodes the expressions of some lines have
abbrev pub size_of : List WrittenLine → ℕ
size_of [] = 0
size_of (w ∷ ws) = written_size w.written + size_of ws

pub lines_both : (base : ℕ) (xs ys : List WrittenLine) → lines_at base (xs ++ ys) ≡ lines_at base xs ++ lines_at (base + size_of xs) ys
lines_both base [] ys = let e : base ≡ base + 0 = omega arith in ap (λ b. lines_at b ys) e
lines_both base (x ∷ xs) ys =
    let e : base + written_size x.written + size_of xs ≡ base + (written_size x.written + size_of xs) = omega arith in
    let l : NumberedLine = record { number = x.number; form = line_at base x.written; picks = picks_in x.written } in
    ap (λ ls. l ∷ ls) (lines_both (base + written_size x.written) xs ys ∙ ap (λ b. lines_at (base + written_size x.written) xs ++ lines_at b ys) e)

pub exprs_both : (base : ℕ) (xs ys : List WrittenLine) → exprs_at base (xs ++ ys) ≡ exprs_at base xs ++ exprs_at (base + size_of xs) ys
exprs_both base [] ys = let e : base ≡ base + 0 = omega arith in ap (λ b. exprs_at b ys) e
exprs_both base (x ∷ xs) ys =
    let e : base + written_size x.written + size_of xs ≡ base + (written_size x.written + size_of xs) = omega arith in
    ap (λ es. nodes_at base x.written ++ es) (exprs_both (base + written_size x.written) xs ys ∙ ap (λ b. exprs_at (base + written_size x.written) xs ++ exprs_at b ys) e)
    ∙ sym (append_assoc (nodes_at base x.written) (exprs_at (base + written_size x.written) xs) (exprs_at (base + (written_size x.written + size_of xs)) ys))

-- ---- an `order` block has no expressions

picks_lines : (base : ℕ) (ps : List PicksLine) (last : ℕ) (after : List WrittenLine)
    → lines_at base ((map picks_written ps ++ record { number = last; written = Plain line.End } ∷ []) ++ after) ≡ (map picks_line ps ++ record { number = last; form = line.End; picks = [] } ∷ []) ++ lines_at base after
picks_lines base [] last after = let e : base + 0 ≡ base = omega arith in ap (λ b. record { number = last; form = line.End; picks = [] } ∷ lines_at b after) e
picks_lines base (p ∷ ps) last after =
    let e : base + 0 ≡ base = omega arith in
    ap (λ b. picks_line p ∷ lines_at b ((map picks_written ps ++ record { number = last; written = Plain line.End } ∷ []) ++ after)) e ∙ ap (λ ls. picks_line p ∷ ls) (picks_lines base ps last after)

pub order_lines : (base first : ℕ) (ps : List PicksLine) (last : ℕ) (after : List WrittenLine) → lines_at base (order_written first ps last ++ after) ≡ order_block first ps last ++ lines_at base after
order_lines base first ps last after =
    let e : base + 0 ≡ base = omega arith in
    let o : NumberedLine = record { number = first; form = line.Order; picks = [] } in
    ap (λ b. o ∷ lines_at b ((map picks_written ps ++ record { number = last; written = Plain line.End } ∷ []) ++ after)) e ∙ ap (λ ls. o ∷ ls) (picks_lines base ps last after)

picks_exprs : (base : ℕ) (ps : List PicksLine) (last : ℕ) (after : List WrittenLine) → exprs_at base ((map picks_written ps ++ record { number = last; written = Plain line.End } ∷ []) ++ after) ≡ exprs_at base after
picks_exprs base [] last after = let e : base + 0 ≡ base = omega arith in ap (λ b. exprs_at b after) e
picks_exprs base (p ∷ ps) last after =
    let e : base + 0 ≡ base = omega arith in
    ap (λ b. exprs_at b ((map picks_written ps ++ record { number = last; written = Plain line.End } ∷ []) ++ after)) e ∙ picks_exprs base ps last after

order_exprs : (base first : ℕ) (ps : List PicksLine) (last : ℕ) (after : List WrittenLine) → exprs_at base (order_written first ps last ++ after) ≡ exprs_at base after
order_exprs base first ps last after =
    let e : base + 0 ≡ base = omega arith in
    ap (λ b. exprs_at b ((map picks_written ps ++ record { number = last; written = Plain line.End } ∷ []) ++ after)) e ∙ picks_exprs base ps last after

-- ---- the scene of these lines without their `order` block

module _ (version : ℕ) (before : List WrittenLine) (first : ℕ) (ps : List PicksLine) (last : ℕ) (after : List WrittenLine) where
  abbrev pub whole : List WrittenLine
  whole = before ++ (order_written first ps last ++ after)

  pub whole_lines : lines_at 0 whole ≡ lines_at 0 before ++ (order_block first ps last ++ lines_at (0 + size_of before) after)
  whole_lines = lines_both 0 before (order_written first ps last ++ after) ∙ ap (λ ls. lines_at 0 before ++ ls) (order_lines (0 + size_of before) first ps last after)

  pub same_exprs : exprs_at 0 whole ≡ exprs_at 0 (before ++ after)
  same_exprs = exprs_both 0 before (order_written first ps last ++ after) ∙ ap (λ es. exprs_at 0 before ++ es) (order_exprs (0 + size_of before) first ps last after) ∙ sym (exprs_both 0 before after)

  pub cut_scene : IsWithoutOrder (scene_of version whole) (scene_of version (before ++ after))
  cut_scene = record {
    before = lines_at 0 before;
    after = lines_at (0 + size_of before) after;
    first = first;
    picked = ps;
    last = last;
    whole = whole_lines;
    bare_is =
        ap (λ (es : List SceneExpr). record { version = version; lines = lines_at 0 (before ++ after); exprs = es }) (sym same_exprs)
        ∙ ap (λ (ls : List NumberedLine). record { version = version; lines = ls; exprs = exprs_at 0 whole }) (lines_both 0 before after);
  }

-- ---- new numbers

-- the same lines, with the numbers from this one on
abbrev pub renumbered : ℕ → List WrittenLine → List WrittenLine
renumbered n [] = []
renumbered n (w ∷ ws) = record w { number = n } ∷ renumbered (suc n) ws

-- the number after them
abbrev pub number_after : ℕ → List WrittenLine → ℕ
number_after n [] = n
number_after n (w ∷ ws) = number_after (suc n) ws

pub renumbered_both : (n : ℕ) (xs ys : List WrittenLine) → renumbered n (xs ++ ys) ≡ renumbered n xs ++ renumbered (number_after n xs) ys
renumbered_both n [] ys = refl
renumbered_both n (x ∷ xs) ys = ap (λ (ws : List WrittenLine). record x { number = n } ∷ ws) (renumbered_both (suc n) xs ys)

pub lines_renumbered : (n base : ℕ) (ws : List WrittenLine) → map without_number (lines_at base (renumbered n ws)) ≡ map without_number (lines_at base ws)
lines_renumbered n base [] = refl
lines_renumbered n base (w ∷ ws) =
    ap (λ (ls : List NumberedLine). record { number = 0; form = line_at base w.written; picks = picks_in w.written } ∷ ls) (lines_renumbered (suc n) (base + written_size w.written) ws)

pub forms_renumbered : (n base : ℕ) (ws : List WrittenLine) → map form_of (lines_at base (renumbered n ws)) ≡ map form_of (lines_at base ws)
forms_renumbered n base [] = refl
forms_renumbered n base (w ∷ ws) = ap (λ fs. line_at base w.written ∷ fs) (forms_renumbered (suc n) (base + written_size w.written) ws)

pub exprs_renumbered : (n base : ℕ) (ws : List WrittenLine) → exprs_at base (renumbered n ws) ≡ exprs_at base ws
exprs_renumbered n base [] = refl
exprs_renumbered n base (w ∷ ws) = ap (λ es. nodes_at base w.written ++ es) (exprs_renumbered (suc n) (base + written_size w.written) ws)

pub text_renumbered : (n : ℕ) (ws : List WrittenLine) → flat_map written_text (renumbered n ws) ≡ flat_map written_text ws
text_renumbered n [] = refl
text_renumbered n (w ∷ ws) = ap (λ t. written_text w ++ t) (text_renumbered (suc n) ws)

pub written_renumbered : (n : ℕ) (ws : List WrittenLine) → list_all (λ w. is_written w.written) (renumbered n ws) ≡ list_all (λ w. is_written w.written) ws
written_renumbered n [] = refl
written_renumbered n (w ∷ ws) = ap (λ b. is_written w.written && b) (written_renumbered (suc n) ws)

lower : (m n : ℕ) (ls : List NumberedLine) → n ≤ m → AreRising m ls → AreRising n ls
lower m n [] h r = tt
lower m n (l ∷ ls) h r = (let first = r.0 in omega (arith, h, first), r.1)

pub renumbered_rise : (n base : ℕ) (ws : List WrittenLine) → AreRising n (lines_at base (renumbered n ws))
renumbered_rise n base [] = tt
renumbered_rise n base (w ∷ ws) = (omega arith, renumbered_rise (suc n) (base + written_size w.written) ws)

pub rise_from : (m n : ℕ) (ls : List NumberedLine) → n ≤ m → AreRising m ls → AreRising n ls
rise_from m n ls h r = lower m n ls h r

-- lines that rise do so without some of them
behind : (n : ℕ) (xs ys : List NumberedLine) → AreRising n (xs ++ ys) → AreRising n ys
behind n [] ys r = r
behind n (x ∷ xs) ys r = lower (suc x.number) n ys (let first = r.0 in omega (arith, first)) (behind (suc x.number) xs ys r.1)

pub rise_without : (n : ℕ) (xs ys zs : List NumberedLine) → AreRising n (xs ++ (ys ++ zs)) → AreRising n (xs ++ zs)
rise_without n [] ys zs r = behind n ys zs r
rise_without n (x ∷ xs) ys zs r = (r.0, rise_without (suc x.number) xs ys zs r.1)
