-- The rows of tables stand for the entries of those tables.
use Rattle.std.proofs.Common.{◌≡◌, ◌⊎◌, inl, inr, true, cond, List, ◌++◌, get_or, arith}
use Rattle.std.specs.List.{Contains}
use Rattle.std.proofs.lemmas.List.Elements.{All-append, All-contains, All-weaker, Contains-append_left, Contains-append_right, Contains-append_cases, Contains-get_or}
use Rattle.std.proofs.lemmas.List.Sums.{sum_by-append}
use Rattle.wdf_table.specs.declared.row.Row.{Row}
use Rattle.wdf_table.specs.Rows.{is_of, is_as_plain}
use Rattle.wdf_table.specs.Tables.{seeds_in, IsBest, IsTallyOf}
use Rattle.wdf_table.proofs.Merging.{tally_behind}

turned : (xs ys : List Row) (row : Row) → Contains xs row ⊎ Contains ys row → Contains (ys ++ xs) row
turned xs ys row (inl there) = Contains-append_right ys xs row there
turned xs ys row (inr there) = Contains-append_left ys xs row there

best_turned : (xs ys : List Row) (row : Row) → IsBest (xs ++ ys) row → IsBest (ys ++ xs) row
best_turned xs ys row best = record {
  named = (best.named.0, turned xs ys best.named.0 (Contains-append_cases xs ys best.named.0 best.named.1), best.named.2);
  plainest = All-append (λ x. x.kind ≡ row.kind → is_as_plain row x ≡ true) ys xs
      (λ i d less. All-contains (λ x. x.kind ≡ row.kind → is_as_plain row x ≡ true) (xs ++ ys) (get_or ys i d) best.plainest
      (Contains-append_right xs ys (get_or ys i d) (Contains-get_or ys i d less)))
      (λ i d less. All-contains (λ x. x.kind ≡ row.kind → is_as_plain row x ≡ true) (xs ++ ys) (get_or xs i d) best.plainest
      (Contains-append_left xs ys (get_or xs i d) (Contains-get_or xs i d less)));
}

-- the order of entries makes no difference
tally_turned : (xs ys rows : List Row) → IsTallyOf (xs ++ ys) rows → IsTallyOf (ys ++ xs) rows
tally_turned xs ys rows tally = record {
  one_row = λ kind.
      let one = tally.one_row kind in
      let here = sum_by-append (λ x. cond (is_of kind x) 1 0) xs ys in
      let there = sum_by-append (λ x. cond (is_of kind x) 1 0) ys xs in
      omega arith;
  counted = λ kind.
      let one = tally.counted kind in
      let here = sum_by-append (seeds_in kind) xs ys in
      let there = sum_by-append (seeds_in kind) ys xs in
      omega arith;
  best = All-weaker (IsBest (xs ++ ys)) (IsBest (ys ++ xs)) (λ row best. best_turned xs ys row best) rows tally.best;
  whole =
      let one = tally.whole in
      let here = sum_by-append (λ x. x.count) xs ys in
      let there = sum_by-append (λ x. x.count) ys xs in
      omega arith;
}

pub tables_of_tables : (entries others rows more all : List Row) → IsTallyOf entries rows → IsTallyOf others more → IsTallyOf (rows ++ more) all → IsTallyOf (entries ++ others) all
tables_of_tables entries others rows more all first second both =
    tally_turned others entries all
    (tally_behind others entries rows all first (tally_turned rows others all (tally_behind rows others more all second both)))
