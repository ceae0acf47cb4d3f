-- What lines of tables come to that were all of an input.
use Rattle.std.proofs.Common.{◌≡◌, ◌≢◌, ℕ, ◌+◌, ◌<◌, ◌≤◌, ◌^◌, ◌==◌, ◌||◌, ◌⊎◌, inl, inr, Bool, true, false, not, List, [], ◌∷◌, length, take, get_or, map, Some, slice_get, refl, sym, subst, ap, ◌∙◌, arith}
use Rattle.std.specs.List.{All}
use Rattle.std.proofs.lemmas.Bool.{eq-eqb, eqb-true}
use Rattle.std.proofs.lemmas.List.{take_all}
use Rattle.std.proofs.lemmas.List.Elements.{All-head}
use Rattle.std.proofs.lemmas.List.Sorted.{sum_by-IsPermutation, All-permutation}
use Rattle.std.proofs.lemmas.List.Sums.{sum_by-cons}
use Rattle.std.proofs.lemmas.Option.{slice_get-get_or}
use Rattle.wdf_run_text.specs.Lines.{trace_lines}
use Rattle.wdf_sum.specs.declared.line.Seeds.{Seeds}
use Rattle.wdf_sum.specs.declared.line.TableLine.{TableLine}
use Rattle.wdf_sum.specs.declared.refused.Why.{Why}
use Rattle.wdf_sum.specs.declared.refused.Why.TheVariants as why
use Rattle.wdf_sum.specs.declared.refused.Bad.{Bad}
use Rattle.wdf_sum.specs.declared.refused.Bad.TheVariants.{NoMemory, AtLine}
use Rattle.wdf_sum.specs.declared.sum.Sum.{Sum}
use Rattle.wdf_sum.specs.declared.tables.Tables.{Tables}
use Rattle.wdf_sum.specs.Lines.{IsTableEnd, line_text, ends_in, count_of}
use Rattle.wdf_sum.specs.Sums.{AreApart, AreJoined, AreNoRange, IsNoSum, IsReadWhole, IsRefusedAt, IsSumOf, StopsAt}
use Rattle.wdf_sum.proofs.Joining.{counted_more}

-- ---- joined ranges

first_counts : (e : Seeds) (es : List Seeds) → All IsTableEnd (e ∷ es) → 0 < count_of (e ∷ es)
first_counts e es all =
    let first : IsTableEnd e = All-head IsTableEnd e es all in
    let some = first.some in
    omega (arith, some, sum_by-cons (λ (s : Seeds). s.count) e es)

pub some_counted : (ends : List Seeds) → ends ≢ [] → All IsTableEnd ends → 0 < count_of ends
some_counted [] some all = absurd (some refl)
some_counted (e ∷ es) some all = first_counts e es all

fits_in_order : (from : ℕ) (ordered : List Seeds) → ((k : ℕ) (s : Seeds) → slice_get ordered k ≡ Some s → s.from ≡ from + count_of (take k ordered)) → All IsTableEnd ordered → 0 < count_of ordered
    → from + count_of ordered ≤ 2 ^ 64
fits_in_order from [] follow all some = absurd (omega (arith, some))
fits_in_order from (o ∷ os) follow all some =
    let k : ℕ = length os in
    let within : length os < length (o ∷ os) = omega arith in
    let last : Seeds = get_or (o ∷ os) (length os) o in
    let begins : (get_or (o ∷ os) (length os) o).from ≡ from + count_of (take (length os) (o ∷ os)) =
    follow (length os) (get_or (o ∷ os) (length os) o) (slice_get-get_or (o ∷ os) (length os) o within) in
    let proper : IsTableEnd (get_or (o ∷ os) (length os) o) = all (length os) o within in
    let fits = proper.fits in
    let more = counted_more (o ∷ os) (length os) o within in
    let whole : count_of (take (length os + 1) (o ∷ os)) ≡ count_of (o ∷ os) = ap count_of (take_all (length os + 1) (o ∷ os) (omega arith)) in
    omega (arith, begins, fits, more, whole)

pub joined_fits : (from : ℕ) (ends : List Seeds) → AreJoined from ends → All IsTableEnd ends → 0 < count_of ends → from + count_of ends ≤ 2 ^ 64
joined_fits from ends joined all some =
    let same : count_of ends ≡ count_of joined.ordered = sym (sum_by-IsPermutation (λ (s : Seeds). s.count) ends joined.ordered joined.moved) in
    omega (arith, same, fits_in_order from joined.ordered joined.follow (All-permutation IsTableEnd ends joined.ordered joined.moved all) (omega (arith, same, some)))

-- ---- of an input

-- there is a table, and the last line is that of one
pub record AreClosed (tables : Tables) : Type 0 where
  pub some : tables.ends.items ≢ []
  pub full : tables.seeds ≡ tables.count

empty_list : (ends : List Seeds) → (length ends == 0) ≡ true → ends ≡ []
empty_list [] h = refl
empty_list (e ∷ es) h = absurd (let none : length (e ∷ es) ≡ 0 = eqb-true (length (e ∷ es)) 0 h in omega (arith, none))

some_list : (ends : List Seeds) → (length ends == 0) ≡ false → ends ≡ [] → ⊥
some_list ends h none = let same : length ends ≡ 0 = ap length none in let yes : (length ends == 0) ≡ true = eq-eqb (length ends) 0 same in let z : ⊥ = cc in z

differing : (a b : ℕ) → (a == b) ≡ false → a ≡ b → ⊥
differing a b h same = let yes : (a == b) ≡ true = eq-eqb a b same in let z : ⊥ = cc in z

closed_tests : (tables : Tables) (p q : Bool) → (length tables.ends.items == 0) ≡ p → (tables.seeds == tables.count) ≡ q → (p || not q) ≡ false → AreClosed tables
closed_tests tables true q is at fails = absurd (let z : ⊥ = cc in z)
closed_tests tables false false is at fails = absurd (let z : ⊥ = cc in z)
closed_tests tables false true is at fails = record { some = some_list tables.ends.items is; full = eqb-true tables.seeds tables.count at }

pub closed_by : (tables : Tables) → (length tables.ends.items == 0 || not (tables.seeds == tables.count)) ≡ false → AreClosed tables
closed_by tables fails = closed_tests tables (length tables.ends.items == 0) (tables.seeds == tables.count) refl refl fails

pub sum_closed : (input : List ℕ) (tables : Tables) (number : ℕ) (sum : Sum) → IsReadWhole input tables number → AreClosed tables → AreJoined sum.from tables.ends.items
    → sum.tally ≡ tables.tally → sum.count ≡ tables.count → sum.events ≡ tables.events → IsSumOf input sum
sum_closed input tables number sum (lines, are, number_is, read) closed joined tally count events = record {
  lines = lines;
  are = are;
  tally = rw tally read.tally;
  joined = subst (AreJoined sum.from) read.ends joined;
  counted = count ∙ sym closed.full ∙ read.seeds;
  count_is = count ∙ read.count;
  events_is = events ∙ read.events;
}

pub sum_some : (input : List ℕ) (tables : Tables) (number : ℕ) → IsReadWhole input tables number → AreClosed tables → 0 < tables.count
sum_some input tables number (lines, are, number_is, read) closed =
    let counts : 0 < count_of (ends_in lines) = some_counted (ends_in lines) (λ none. closed.some (read.ends ∙ none)) read.proper in
    omega (arith, counts, read.count)

pub sum_fits : (input : List ℕ) (tables : Tables) (number from : ℕ) → IsReadWhole input tables number → AreClosed tables → AreJoined from tables.ends.items → from + tables.count ≤ 2 ^ 64
sum_fits input tables number from (lines, are, number_is, read) closed joined =
    let counts : 0 < count_of (ends_in lines) = some_counted (ends_in lines) (λ none. closed.some (read.ends ∙ none)) read.proper in
    omega (arith, joined_fits from (ends_in lines) (subst (AreJoined from) read.ends joined) read.proper counts, read.count)

-- ---- no sum

unclosed_by : (tables : Tables) (p q : Bool) → (length tables.ends.items == 0) ≡ p → (tables.seeds == tables.count) ≡ q → (p || not q) ≡ true → (tables.ends.items ≡ []) ⊎ (tables.seeds ≢ tables.count)
unclosed_by tables true q is at passes = inl (empty_list tables.ends.items is)
unclosed_by tables false false is at passes = inr (differing tables.seeds tables.count at)
unclosed_by tables false true is at passes = absurd (let z : ⊥ = cc in z)

stops_by : (input : List ℕ) (number : ℕ) (tables : Tables) (whole : IsReadWhole input tables number) → (tables.ends.items ≡ []) ⊎ (tables.seeds ≢ tables.count) → StopsAt input number
stops_by input number tables (lines, are, number_is, read) (inl none) = record { lines = lines; are = are; number_is = number_is; unclosed = inl (sym read.ends ∙ none) }
stops_by input number tables (lines, are, number_is, read) (inr differ) =
    record { lines = lines; are = are; number_is = number_is; unclosed = inr (λ same. differ (read.seeds ∙ same ∙ sym read.count)) }

pub sum_stops : (input : List ℕ) (number : ℕ) (tables : Tables) → IsReadWhole input tables number → (length tables.ends.items == 0 || not (tables.seeds == tables.count)) ≡ true → StopsAt input number
sum_stops input number tables whole passes = stops_by input number tables whole (unclosed_by tables (length tables.ends.items == 0) (tables.seeds == tables.count) refl refl passes)

apart_by : (input : List ℕ) (lines : List TableLine) (number : ℕ) (reason : Why) → trace_lines input ≡ map line_text lines → AreApart (ends_in lines) number reason → IsRefusedAt input number reason
apart_by input lines number why.CountedTwice are apart = record { lines = lines; are = are; apart = apart }
apart_by input lines number why.Gap are apart = record { lines = lines; are = are; apart = apart }
apart_by input lines number why.NotALine are apart = absurd apart.broken.reason_is
apart_by input lines number why.WrongCount are apart = absurd apart.broken.reason_is
apart_by input lines number why.TooMany are apart = absurd apart.broken.reason_is
apart_by input lines number why.Missing are apart = absurd apart.broken.reason_is

pub sum_apart : (input : List ℕ) (number : ℕ) (tables : Tables) (bad : Bad) → IsReadWhole input tables number → AreNoRange tables.ends.items bad → IsNoSum input bad
sum_apart input number tables NoMemory whole apart = tt
sum_apart input number tables (AtLine n reason) (lines, are, number_is, read) apart = apart_by input lines n reason are (subst (λ es. AreApart es n reason) read.ends apart)
