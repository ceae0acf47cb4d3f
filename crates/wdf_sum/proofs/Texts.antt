-- The lines of tables as texts.
use Rattle.std.proofs.Common.{◌≡◌, ℕ, ◌+◌, ◌-◌, ◌<◌, ◌≤◌, ◌^◌, ◌==◌, ◌&&◌, true, List, [], ◌∷◌, codes, length, nat_lt, refl, ap, ◌∙◌, sym, arith, append_assoc}
use Rattle.std.proofs.lemmas.Bool.{and_parts, eqb-true}
use Rattle.std.proofs.lemmas.Bool.Decides.{nat_tests}
use Rattle.std.proofs.lemmas.List.{append_cancel_right}
use Rattle.wdf_run_text.specs.Lines.{fed}
use Rattle.wdf_table.specs.declared.row.Row.{Row}
use Rattle.wdf_table.specs.Lines.{row_text, total_text}
use Rattle.wdf_sum.specs.declared.line.Seeds.{Seeds}
use Rattle.wdf_sum.specs.declared.line.TableLine.{TableLine}
use Rattle.wdf_sum.specs.declared.line.TableLine.TheVariants.{OfKind, Last}
use Rattle.wdf_sum.specs.Lines.{IsTableEnd, line_text, row_words, end_words}

pub row_is : (row : Row) → row_text row ≡ fed (row_words row.count row.seed row.events row.kind)
row_is row = simp append_assoc

pub end_is : (s : Seeds) → total_text s.from s.count s.events ≡ fed (end_words s.from (s.from + s.count - 1) s.count s.events [])
end_is s = simp append_assoc

-- the words of a row whose line this is
pub row_there : (row : Row) (text : List ℕ) → row_text row ≡ fed text → text ≡ row_words row.count row.seed row.events row.kind
row_there row text same = append_cancel_right text (row_words row.count row.seed row.events row.kind) (codes "\n") (sym same ∙ row_is row)

pub end_there : (s : Seeds) (text : List ℕ) → total_text s.from s.count s.events ≡ fed text → text ≡ end_words s.from (s.from + s.count - 1) s.count s.events []
end_there s text same = append_cancel_right text (end_words s.from (s.from + s.count - 1) s.count s.events []) (codes "\n") (sym same ∙ end_is s)

-- each line ends with a line feed
pub line_fed : (l : TableLine) → (text : List ℕ) × (line_text l ≡ fed text)
line_fed (OfKind row) = (row_words row.count row.seed row.events row.kind, row_is row)
line_fed (Last s) = (end_words s.from (s.from + s.count - 1) s.count s.events [], end_is s)

-- a row with the parts of a line has that line
pub row_found : (row : Row) (text : List ℕ) (count seed events : ℕ) (kind : List ℕ) → text ≡ row_words count seed events kind
    → (row.count ≡ count) × (row.seed ≡ seed) × (row.events ≡ events) × (row.kind ≡ kind) → row_text row ≡ fed text
row_found row text count seed events kind is (a, b, d, e) = row_is row ∙ ap fed (rw (a, b, d, e) (sym is))

empty_list : (xs : List ℕ) → (length xs == 0) ≡ true → xs ≡ []
empty_list [] h = refl
empty_list (x ∷ xs) h = absurd (let none : length (x ∷ xs) ≡ 0 = eqb-true (length (x ∷ xs)) 0 h in omega (arith, none))

-- what passes the test is the last line of a table
pub end_found : (text rest : List ℕ) (s : Seeds) (to : ℕ) → text ≡ end_words s.from to s.count s.events rest
    → (length rest == 0 && (nat_lt 0 s.count && to + 1 == s.from + s.count)) ≡ true → s.from + s.count ≤ 2 ^ 64 → IsTableEnd s × (total_text s.from s.count s.events ≡ fed text)
end_found text rest s to is passes fits =
    let parts = and_parts (length rest == 0) (nat_lt 0 s.count && to + 1 == s.from + s.count) passes in
    let none : rest ≡ [] = empty_list rest parts.0 in
    let some : 0 < s.count = grind (arith, nat_tests, parts.1) in
    let last : to ≡ s.from + s.count - 1 = grind (arith, nat_tests, parts.1) in (
      record { some = some; fits = fits },
      end_is s ∙ ap fed (sym (is ∙ ap (λ n. end_words s.from n s.count s.events rest) last ∙ ap (end_words s.from (s.from + s.count - 1) s.count s.events) none)),
    )

-- what doesn't pass it is none
pub end_passes : (from count : ℕ) (rest : List ℕ) (to : ℕ) → rest ≡ [] → 0 < count → to ≡ from + count - 1 → (length rest == 0 && (nat_lt 0 count && to + 1 == from + count)) ≡ true
end_passes from count rest to none some last = rw (none, last) (grind (arith, nat_tests))
