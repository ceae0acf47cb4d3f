-- What another tally counted is added row by row; and rows in another order are of the same entries.
use Rattle.std.proofs.Common.{ℕ, ◌≡◌, ◌≤◌, ◌⊎◌, inl, inr, Bool, true, false, cond, List, [], ◌∷◌, ◌++◌, get_or, refl, sym, ◌∙◌, arith}
use Rattle.std.specs.List.{All, Contains}
use Rattle.std.specs.List.Sorted.{IsPermutation}
use Rattle.std.proofs.lemmas.List.Elements.{All-nil, All-append, All-contains, All-weaker, Contains-append_left, Contains-append_right, Contains-append_cases, Contains-get_or}
use Rattle.std.proofs.lemmas.List.Sums.{sum_by-append}
use Rattle.std.proofs.lemmas.List.Sorted.{sum_by-IsPermutation, All-permutation}
use Rattle.std.specs.Cmp.{IsStrictWeakOrder, IsTotalOrder}
use Rattle.std.specs.Cmp.Lexicographic.{slice_cmp}
use Rattle.std.specs.Ordering.{is_lt, nat_cmp}
use Rattle.std.proofs.lemmas.Cmp.{nat_cmp_total, nat_list_cmp_total, on_total, then_total, back_total}
use Rattle.std.proofs.lemmas.List.MinMax.{ranks_by}
use Rattle.wdf_table.specs.declared.row.Row.{Row}
use Rattle.wdf_table.specs.Rows.{is_of, is_as_plain, row_cmp}
use Rattle.wdf_table.specs.Tables.{seeds_in, rows_of, IsNamedBy, IsBest, IsTallyOf}
use Rattle.wdf_table.proofs.Adding.{kind_is, of_itself, plain_chain, count_first, bit_no, counted_one}

-- where rows of a kind are counted there is one
some_by : (b : Bool) (kind : List ℕ) (x : Row) (xs : List Row) → is_of kind x ≡ b → (1 ≤ rows_of kind xs → (row : Row) × Contains xs row × (row.kind ≡ kind))
    → 1 ≤ rows_of kind (x ∷ xs) → (row : Row) × Contains (x ∷ xs) row × (row.kind ≡ kind)
some_by true kind x xs here later one =
    (x, (0, omega arith, refl), kind_is x kind here)
some_by false kind x xs here later one =
    let found = later (omega (arith, one, count_first (is_of kind) x xs, bit_no (is_of kind x) here)) in
    (found.0, Contains-append_right (x ∷ []) xs found.0 found.1, found.2)

some_of : (kind : List ℕ) (rows : List Row) → 1 ≤ rows_of kind rows → (row : Row) × Contains rows row × (row.kind ≡ kind)
some_of kind [] one = absurd (omega arith)
some_of kind (x ∷ xs) one = some_by (is_of kind x) kind x xs refl (some_of kind xs) one

-- a row is named by an entry of a list
abbrev NamedIn : List Row → Row → Type 0
NamedIn entries row = (entry : Row) × Contains entries entry × IsNamedBy row entry

-- what names a row of a tally names the row that it names
named_behind : (others rows : List Row) (row x : Row) → IsTallyOf others rows → Contains rows x → IsNamedBy row x → NamedIn others row
named_behind others rows row x tally there by =
    let best : IsBest others x = All-contains (IsBest others) rows x tally.best there in
    let names = best.named.2 in
    (best.named.0, best.named.1, (names.0 ∙ by.0, names.1 ∙ by.1, names.2 ∙ by.2))

named_either : (entries others rows : List Row) (row x : Row) → IsTallyOf others rows → Contains entries x ⊎ Contains rows x → IsNamedBy row x → NamedIn (entries ++ others) row
named_either entries others rows row x tally (inl there) by = (x, Contains-append_left entries others x there, by)
named_either entries others rows row x tally (inr there) by =
    let found = named_behind others rows row x tally there by in
    (found.0, Contains-append_right entries others found.0 found.1, found.2)

-- a row that is as plain as the rows of a tally is as plain as its entries
plain_behind : (others rows : List Row) (row x : Row) → IsTallyOf others rows → All (λ y. y.kind ≡ row.kind → is_as_plain row y ≡ true) rows → Contains others x → x.kind ≡ row.kind
    → is_as_plain row x ≡ true
plain_behind others rows row x tally plain there alike =
    let counted : 1 ≤ rows_of row.kind others = counted_one (is_of row.kind) others x there (of_itself x row.kind alike) in
    let before = tally.one_row row.kind in
    let found = some_of row.kind rows (omega arith) in
    let best : IsBest others found.0 = All-contains (IsBest others) rows found.0 tally.best found.1 in
    plain_chain row found.0 x
    (All-contains (λ y. y.kind ≡ row.kind → is_as_plain row y ≡ true) rows found.0 plain found.1 found.2)
    (All-contains (λ y. y.kind ≡ found.0.kind → is_as_plain found.0 y ≡ true) others x best.plainest there (alike ∙ sym found.2))

-- the rows of a tally stand for its entries, beside other entries
best_behind : (entries others rows : List Row) (row : Row) → IsTallyOf others rows → IsBest (entries ++ rows) row → IsBest (entries ++ others) row
best_behind entries others rows row tally best = record {
  named = named_either entries others rows row best.named.0 tally (Contains-append_cases entries rows best.named.0 best.named.1) best.named.2;
  plainest = All-append (λ x. x.kind ≡ row.kind → is_as_plain row x ≡ true) entries others
      (λ i d less. All-contains (λ x. x.kind ≡ row.kind → is_as_plain row x ≡ true) (entries ++ rows) (get_or entries i d) best.plainest
      (Contains-append_left entries rows (get_or entries i d) (Contains-get_or entries i d less)))
      (λ i d less. plain_behind others rows row (get_or others i d) tally
      (λ j e within. All-contains (λ x. x.kind ≡ row.kind → is_as_plain row x ≡ true) (entries ++ rows) (get_or rows j e) best.plainest
      (Contains-append_right entries rows (get_or rows j e) (Contains-get_or rows j e within)))
      (Contains-get_or others i d less));
}

-- A tally of entries and of another tally's rows is one of those entries and of that one's.
pub tally_behind : (entries others rows all : List Row) → IsTallyOf others rows → IsTallyOf (entries ++ rows) all → IsTallyOf (entries ++ others) all
tally_behind entries others rows all tally both = record {
  one_row = λ kind.
      let one = both.one_row kind in
      let parts = sum_by-append (λ x. cond (is_of kind x) 1 0) entries rows in
      let whole = sum_by-append (λ x. cond (is_of kind x) 1 0) entries others in
      let before = tally.one_row kind in
      omega arith;
  counted = λ kind.
      let one = both.counted kind in
      let parts = sum_by-append (seeds_in kind) entries rows in
      let whole = sum_by-append (seeds_in kind) entries others in
      let before = tally.counted kind in
      omega arith;
  best = All-weaker (IsBest (entries ++ rows)) (IsBest (entries ++ others)) (λ row best. best_behind entries others rows row tally best) all both.best;
  whole =
      let one = both.whole in
      let parts = sum_by-append (λ x. x.count) entries rows in
      let whole = sum_by-append (λ x. x.count) entries others in
      let before = tally.whole in
      omega arith;
}

-- The same rows in another order are of the same entries.
pub tally_moved : (entries rows moved : List Row) → IsPermutation rows moved → IsTallyOf entries rows → IsTallyOf entries moved
tally_moved entries rows moved same tally = record {
  one_row = λ kind. sum_by-IsPermutation (λ x. cond (is_of kind x) 1 0) rows moved same ∙ tally.one_row kind;
  counted = λ kind. sum_by-IsPermutation (seeds_in kind) rows moved same ∙ tally.counted kind;
  best = All-permutation (IsBest entries) rows moved same tally.best;
  whole = sum_by-IsPermutation (λ x. x.count) rows moved same ∙ tally.whole;
}

-- a tally of no entries
pub tally_none : IsTallyOf [] []
tally_none = record {
  one_row = λ kind. refl;
  counted = λ kind. refl;
  best = All-nil (IsBest []);
  whole = refl;
}

-- ---- the order of rows

-- it is one in which any two rows compare
pub rows_in_order : IsStrictWeakOrder (λ (a b : Row). is_lt (row_cmp a b))
rows_in_order =
    let by_count : IsTotalOrder (λ (a b : Row). nat_cmp b.count a.count) = back_total (on_total (λ (row : Row). row.count) nat_cmp_total) in
    let by_kind : IsTotalOrder (λ (a b : Row). slice_cmp nat_cmp a.kind b.kind) = on_total (λ (row : Row). row.kind) nat_list_cmp_total in
    let by_both : IsTotalOrder row_cmp = then_total by_count by_kind in
    ranks_by by_both (λ (row : Row). row)
