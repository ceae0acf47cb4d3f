-- Lines that are read, as the reading of a text takes them.
use Rattle.std.proofs.Common.{◌≡◌, ℕ, suc, ◌+◌, Bool, true, false, cond, List, [], ◌∷◌, ◌++◌, length, Some, None, Result, Ok, Err, refl, ap, sym, ◌∙◌, arith}
use Rattle.wdf_scene.specs.declared.line.StatementHead.{StatementHead}
use Rattle.wdf_scene.specs.declared.line.StatementHead.TheVariants as head
use Rattle.wdf_scene.specs.Blocks.{Position, may_stand, openers_after}
use Rattle.wdf_scene.specs.Blocks as blocks
use Rattle.wdf_scene.specs.Written.{Written, Single, WrittenLine, line_at, lines_at, head_line, written_size}
use Rattle.wdf_scene_lines.specs.Building.{next_node}
use Rattle.wdf_parse.specs.declared.reader.Reader.{Reader}
use Rattle.wdf_parse.specs.declared.refusal.ParseRefusal.{ParseRefusal}
use Rattle.wdf_parse.specs.Texts.{opening, with_written, after_line, after_lines}
use Rattle.wdf_parse.proofs.Built.{adds, all_written}
use Rattle.wdf_parse.proofs.Forward.{forward_front}
use Rattle.wdf_parse.proofs.History.{front_history, taken_by}
use Rattle.law_text.specs.FirstRefusal.{openers_from, AreRead, open_lines}

-- ---- lines in turn

pub after_append : (r : Result Reader ParseRefusal) (n : ℕ) (xs ys : List (List ℕ)) → after_lines r n (xs ++ ys) ≡ after_lines (after_lines r n xs) (n + length xs) ys
after_append (Err e) n [] ys = refl
after_append (Err e) n (x ∷ xs) ys = refl
after_append (Ok r) n [] ys = let e : n ≡ n + 0 = omega arith in ap (λ m. after_lines (Ok r) m ys) e
after_append (Ok r) n (x ∷ xs) ys =
    let e : suc n + length xs ≡ n + suc (length xs) = omega arith in
    after_append (after_line r n x) (suc n) xs ys ∙ ap (λ m. after_lines (after_lines (after_line r n x) (suc n) xs) m ys) e

-- ---- what a reader has of the lines that were read

-- the number of its first node doesn't say where a line may come
head_stands : (p : Position) (h : StatementHead) (a b : ℕ) → may_stand p (head_line h a) ≡ may_stand p (head_line h b)
head_stands p (head.Let x) a b = refl
head_stands p _ a b = refl

pub stands_same : (p : Position) (w : Written) (a b : ℕ) → may_stand p (line_at a w) ≡ may_stand p (line_at b w)
stands_same p (Single h t) a b = head_stands p h _ _
stands_same p _ a b = refl

head_openers : (openers : List ℕ) (number : ℕ) (h : StatementHead) (a b : ℕ) → openers_after openers number (head_line h a) ≡ openers_after openers number (head_line h b)
head_openers openers number (head.Let x) a b = refl
head_openers openers number _ a b = refl

openers_same : (openers : List ℕ) (number : ℕ) (w : Written) (a b : ℕ) → openers_after openers number (line_at a w) ≡ openers_after openers number (line_at b w)
openers_same openers number (Single h t) a b = head_openers openers number h _ _
openers_same openers number _ a b = refl

-- the blocks that lines open, whatever the numbers of their nodes
taken_openers : (ws : List WrittenLine) (r now : Reader) (base : ℕ) → taken_by (Some r) ws ≡ Some now → now.place.openers ≡ openers_from r.place.openers (lines_at base ws)
taken_openers [] r now base e =
    let same : r ≡ now = cc in
    ap (λ (x : Reader). x.place.openers) (sym same)
taken_openers (w ∷ ws) r now base e = by_stand (may_stand r.place.position (line_at (next_node r.builder) w.written)) e (taken_openers ws (with_written r w.number w.written) now (base + written_size w.written))
  where
    by_stand : (b : Bool) → taken_by (cond b (Some (with_written r w.number w.written)) None) ws ≡ Some now → (taken_by (Some (with_written r w.number w.written)) ws ≡ Some now → now.place.openers ≡ openers_from (with_written r w.number w.written).place.openers (lines_at (base + written_size w.written) ws)) → now.place.openers ≡ openers_from (openers_after r.place.openers w.number (line_at base w.written)) (lines_at (base + written_size w.written) ws)
    by_stand false h f = absurd (let z : ⊥ = cc in z)
    by_stand true h f =
        f h ∙ ap (λ os. openers_from os (lines_at (base + written_size w.written) ws)) (openers_same r.place.openers w.number w.written (next_node r.builder) base)

-- a reader after lines that are read
pub record IsReader (lines : List (List ℕ)) (r : AreRead lines) (now : Reader) : Type 0 where
  pub gives : after_lines (Ok (opening 1)) 1 lines ≡ Ok now
  pub position : now.place.position ≡ r.position
  pub openers : now.place.openers ≡ open_lines lines r

-- what is taken is read
pub record TakenLines (lines : List (List ℕ)) (now : Reader) : Type 0 where
  pub read : AreRead lines
  pub reader : IsReader lines read now

pub taken_lines : (lines : List (List ℕ)) (now : Reader) → after_lines (Ok (opening 1)) 1 lines ≡ Ok now → TakenLines lines now
taken_lines lines now e =
    let h = front_history lines 1 now e in
    let a = adds h.ws now (opening h.version) h.taken in
    record {
      read = record {
        version = h.version;
        known = h.known;
        first = h.first;
        ws = h.ws;
        tokens = h.tokens;
        written = all_written h.ws h.good;
        position = now.place.position;
        stand = a.position;
      };
      reader = record { gives = e; position = refl; openers = taken_openers h.ws (opening h.version) now 0 h.taken };
    }

-- and what is read is taken
pub record ReadLines (lines : List (List ℕ)) (r : AreRead lines) : Type 0 where
  pub now : Reader
  pub reader : IsReader lines r now

pub read_lines : (lines : List (List ℕ)) (r : AreRead lines) → ReadLines lines r
read_lines lines r =
    let f = forward_front r.version r.known lines 1 r.first r.ws r.position r.tokens r.written r.stand in
    let a = adds r.ws f.now (opening r.version) f.taken in
    let both : Some f.now.place.position ≡ Some r.position = sym a.position ∙ r.stand in
    record { now = f.now; reader = record { gives = f.gives; position = cc; openers = taken_openers r.ws (opening r.version) f.now 0 f.taken } }
