-- One line more is taken, or it is the first bad one.
use Rattle.std.proofs.Common.{◌≡◌, ℕ, ◌+◌, ◌<◌, ◌≤◌, List, [], ◌∷◌, ◌++◌, length, map, drop, refl, sym, subst, ap, ◌∙◌, arith, append_assoc, append-nil, length-append}
use Rattle.std.specs.List.{All}
use Rattle.std.proofs.lemmas.List.{map-append, drop_all}
use Rattle.std.proofs.lemmas.List.Elements.{All-push}
use Rattle.std.proofs.lemmas.List.Sums.{sum_by_push}
use Rattle.wdf_run_text.specs.Lines.{first_line, trace_lines}
use Rattle.wdf_run_text.proofs.Cutting.{line_there}
use Rattle.wdf_table.specs.declared.row.Row.{Row}
use Rattle.wdf_table.specs.Tables.{IsTallyOf, all_seeds}
use Rattle.wdf_sum.specs.declared.line.Seeds.{Seeds}
use Rattle.wdf_sum.specs.declared.line.TableLine.{TableLine}
use Rattle.wdf_sum.specs.declared.line.TableLine.TheVariants.{OfKind, Last}
use Rattle.wdf_sum.specs.declared.refused.Why.{Why}
use Rattle.wdf_sum.specs.declared.refused.Why.TheVariants as why
use Rattle.wdf_sum.specs.declared.refused.Bad.{Bad}
use Rattle.wdf_sum.specs.declared.refused.Bad.TheVariants.{NoMemory, AtLine}
use Rattle.wdf_sum.specs.declared.tables.Tables.{Tables}
use Rattle.wdf_sum.specs.Lines.{IsTableEnd, line_text, rows_in, ends_in, count_of, events_of, row_of, end_of}
use Rattle.wdf_sum.specs.Sums.{IsReadAs, IsReadWhole, IsBadLine, IsBadNext, IsBadAt, IsRefusedAt, IsNoSum}

-- ---- what a line more adds

rows_more : (lines : List TableLine) (l : TableLine) → rows_in (lines ++ l ∷ []) ≡ rows_in lines ++ row_of l
rows_more [] l = append-nil (row_of l)
rows_more (k ∷ ks) l = ap (λ rs. row_of k ++ rs) (rows_more ks l) ∙ sym (append_assoc (row_of k) (rows_in ks) (row_of l))

ends_more : (lines : List TableLine) (l : TableLine) → ends_in (lines ++ l ∷ []) ≡ ends_in lines ++ end_of l
ends_more [] l = append-nil (end_of l)
ends_more (k ∷ ks) l = ap (λ rs. end_of k ++ rs) (ends_more ks l) ∙ sym (append_assoc (end_of k) (ends_in ks) (end_of l))

-- a row more
pub row_read : (lines : List TableLine) (row : Row) (old new : Tables) → IsReadAs lines old → IsTallyOf (rows_in lines ++ row ∷ []) new.tally → new.ends.items ≡ old.ends.items
    → new.seeds ≡ old.seeds + row.count → new.count ≡ old.count → new.events ≡ old.events → IsReadAs (lines ++ OfKind row ∷ []) new
row_read lines row old new read tally ends seeds count events =
    let more : rows_in (lines ++ OfKind row ∷ []) ≡ rows_in lines ++ row ∷ [] = rows_more lines (OfKind row) in
    let same : ends_in (lines ++ OfKind row ∷ []) ≡ ends_in lines = ends_more lines (OfKind row) ∙ append-nil (ends_in lines) in
    record {
      tally = subst (λ rs. IsTallyOf rs new.tally) (sym more) tally;
      ends = ends ∙ read.ends ∙ sym same;
      proper = subst (λ (es : List Seeds). All IsTableEnd es) (sym same) read.proper;
      seeds =
          let sum = sum_by_push (λ (r : Row). r.count) (rows_in lines) row in
          let whole : all_seeds (rows_in (lines ++ OfKind row ∷ [])) ≡ all_seeds (rows_in lines ++ row ∷ []) = ap all_seeds more in
          omega (arith, seeds, read.seeds, sum, whole);
      count = count ∙ read.count ∙ ap count_of (sym same);
      events = events ∙ read.events ∙ ap events_of (sym same);
      not_more = omega (arith, seeds, count, read.not_more);
    }

-- the last line of a table more
pub end_read : (lines : List TableLine) (s : Seeds) (old new : Tables) → IsReadAs lines old → IsTableEnd s → new.tally ≡ old.tally → new.ends.items ≡ old.ends.items ++ s ∷ []
    → new.seeds ≡ old.seeds → old.seeds ≡ old.count + s.count → new.count ≡ old.seeds → new.events ≡ old.events + s.events → IsReadAs (lines ++ Last s ∷ []) new
end_read lines s old new read proper tally ends seeds full count events =
    let same : rows_in (lines ++ Last s ∷ []) ≡ rows_in lines = rows_more lines (Last s) ∙ append-nil (rows_in lines) in
    let more : ends_in (lines ++ Last s ∷ []) ≡ ends_in lines ++ s ∷ [] = ends_more lines (Last s) in
    let counted : count_of (ends_in (lines ++ Last s ∷ [])) ≡ count_of (ends_in lines) + s.count = ap count_of more ∙ sum_by_push (λ (e : Seeds). e.count) (ends_in lines) s in
    let told : events_of (ends_in (lines ++ Last s ∷ [])) ≡ events_of (ends_in lines) + s.events = ap events_of more ∙ sum_by_push (λ (e : Seeds). e.events) (ends_in lines) s in
    record {
      tally = subst (λ rs. IsTallyOf rs new.tally) (sym same) (subst (λ t. IsTallyOf (rows_in lines) t) (sym tally) read.tally);
      ends = ends ∙ ap (λ (es : List Seeds). es ++ s ∷ []) read.ends ∙ sym more;
      proper = subst (λ (es : List Seeds). All IsTableEnd es) (sym more) (All-push IsTableEnd (ends_in lines) s read.proper proper);
      seeds = seeds ∙ read.seeds ∙ ap all_seeds (sym same);
      count = omega (arith, count, full, counted, read.count);
      events = omega (arith, events, told, read.events);
      not_more = omega (arith, seeds, count);
    }

-- ---- from line to line

-- the input up to a place is lines of tables, which come to this, and the next line has this number
pub record IsReadTo (input : List ℕ) (at : ℕ) (tables : Tables) (number : ℕ) : Type 0 where
  pub lines : List TableLine
  pub are : trace_lines input ≡ map line_text lines ++ trace_lines (drop at input)
  pub number_is : number ≡ length lines + 1
  pub read : IsReadAs lines tables
  pub within : at ≤ length input
  pub small : number ≤ at + 1

pub nothing_read : (input : List ℕ) (tables : Tables) → IsReadAs [] tables → IsReadTo input 0 tables 1
nothing_read input tables read = record { lines = []; are = refl; number_is = refl; read = read; within = omega arith; small = omega arith }

pub one_read : (input line : List ℕ) (at number : ℕ) (old new : Tables) (before : IsReadTo input at old number) → at < length input → line ≡ first_line (drop at input)
    → 0 < length line → at + length line ≤ length input → ((l : TableLine) × (line_text l ≡ line) × IsReadAs (before.lines ++ l ∷ []) new)
    → IsReadTo input (at + length line) new (number + 1)
one_read input line at number old new before inside is longer within more =
    let there : trace_lines (drop at input) ≡ line ∷ trace_lines (drop (at + length line) input) =
    subst (λ (x : List ℕ). trace_lines (drop at input) ≡ x ∷ trace_lines (drop (at + length x) input)) (sym is) (line_there input at inside) in
    record {
      lines = before.lines ++ more.0 ∷ [];
      are =
          before.are
          ∙ ap (λ (ls : List (List ℕ)). map line_text before.lines ++ ls) (there ∙ ap (λ (x : List ℕ). x ∷ trace_lines (drop (at + length line) input)) (sym more.1))
          ∙ sym (append_assoc (map line_text before.lines) (line_text more.0 ∷ []) (trace_lines (drop (at + length line) input)))
          ∙ ap (λ (ls : List (List ℕ)). ls ++ trace_lines (drop (at + length line) input)) (sym (map-append line_text before.lines (more.0 ∷ [])));
      number_is = let l = length-append before.lines (more.0 ∷ []) in omega (arith, before.number_is, l);
      read = more.2;
      within = within;
      small = omega (arith, before.small, longer);
    }

pub all_read : (input : List ℕ) (at number : ℕ) (tables : Tables) → length input ≤ at → IsReadTo input at tables number → IsReadWhole input tables number
all_read input at number tables past before = (
  before.lines,
  before.are ∙ ap (λ (bytes : List ℕ). map line_text before.lines ++ trace_lines bytes) (drop_all at input past) ∙ append-nil (map line_text before.lines),
  before.number_is,
  before.read,
)

refused_by : (input : List ℕ) (number : ℕ) (reason : Why) (lines : List TableLine) (line : List ℕ) → IsBadLine lines line reason → IsBadAt input number reason → IsRefusedAt input number reason
refused_by input number why.NotALine lines line bad at = at
refused_by input number why.WrongCount lines line bad at = at
refused_by input number why.TooMany lines line bad at = at
refused_by input number why.CountedTwice lines line bad at = absurd bad
refused_by input number why.Gap lines line bad at = absurd bad
refused_by input number why.Missing lines line bad at = absurd bad

pub bad_read : (input line : List ℕ) (at number : ℕ) (old : Tables) (bad : Bad) (before : IsReadTo input at old number) → at < length input → line ≡ first_line (drop at input)
    → IsBadNext before.lines line number bad → IsNoSum input bad
bad_read input line at number old NoMemory before inside is next = tt
bad_read input line at number old (AtLine n reason) before inside is next =
    let there : trace_lines (drop at input) ≡ line ∷ trace_lines (drop (at + length line) input) =
    subst (λ (x : List ℕ). trace_lines (drop at input) ≡ x ∷ trace_lines (drop (at + length x) input)) (sym is) (line_there input at inside) in
    refused_by input n reason before.lines line next.1 (record {
      lines = before.lines;
      line = line;
      after = trace_lines (drop (at + length line) input);
      there = before.are ∙ ap (λ (ls : List (List ℕ)). map line_text before.lines ++ ls) there;
      number_is = next.0 ∙ before.number_is;
      bad = next.1;
    })
