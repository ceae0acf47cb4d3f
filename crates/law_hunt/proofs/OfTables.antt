-- What the status of a table says of the tries that it counts.
use Rattle.std.proofs.Common.{if◌then◌else◌, ℕ, suc, ◌≡◌, ◌≢◌, ◌⊎◌, inl, inr, ◌+◌, ◌<◌, ◌≤◌, ◌==◌, Bool, true, false, List, [], ◌∷◌, length, get_or, min, fold, count_by, Some, refl, sym, ap, ◌∙◌, arith, nat_le}
use Rattle.std.specs.List.{All, Contains}
use Rattle.std.proofs.lemmas.Bool.Decides.{nat_tests}
use Rattle.std.proofs.lemmas.List.Elements.{All-nil, All-cons, Contains-get_or}
use Rattle.std.proofs.lemmas.Option.{slice_get-get_or}
use Rattle.wdf_table.specs.declared.row.Row.{Row}
use Rattle.wdf_table.specs.Lines.{kind_status, table_status, worse}
use Rattle.wdf_table.specs.Rows.{is_of}
use Rattle.wdf_table.specs.Tables.{IsTableOf, IsTallyOf, rows_of}
use Rattle.wdf_table.proofs.Adding.{bit_no, count_first, counted_one, kind_is, of_itself}
use Rattle.wdf_tries.specs.declared.tried.Case.{Case}
use Rattle.wdf_tries.specs.Tries.{AreTries, IsTryOf}
use Rattle.law_hunt.specs.Statuses.{AreClean, HasStatus, SomeHas}
use Rattle.law_hunt.proofs.OfKinds as kinds

-- ---- the worse of two statuses

none_by : (a b : ℕ) (p q : Bool) → (a == 0) ≡ p → (b == 0) ≡ q → (if p then b else (if q then a else min a b)) ≡ 0 → (a ≡ 0) × (b ≡ 0)
none_by a b true q first next h = (grind (arith, nat_tests), h)
none_by a b false true first next h = (h, grind (arith, nat_tests))
none_by a b false false first next h =
    let one : 1 ≤ a = grind (arith, nat_tests) in
    let other : 1 ≤ b = grind (arith, nat_tests) in
    absurd (omega (arith, h, one, other))

-- it is 0 where both are
none_worse : (a b : ℕ) → worse a b ≡ 0 → (a ≡ 0) × (b ≡ 0)
none_worse a b h = none_by a b (a == 0) (b == 0) refl refl h

least_one : (a b : ℕ) (t : Bool) → nat_le a b ≡ t → (min a b ≡ a) ⊎ (min a b ≡ b)
least_one a b true h = inl (let least : a ≤ b = grind (arith, nat_tests) in omega arith)
least_one a b false h = inr (let least : b ≤ a = grind (arith, nat_tests) in omega arith)

one_by : (a b : ℕ) (p q : Bool) → ((if p then b else (if q then a else min a b)) ≡ a) ⊎ ((if p then b else (if q then a else min a b)) ≡ b)
one_by a b true q = inr refl
one_by a b false true = inl refl
one_by a b false false = least_one a b (nat_le a b) refl

-- it is one of them
one_worse : (a b : ℕ) → (worse a b ≡ a) ⊎ (worse a b ≡ b)
one_worse a b = one_by a b (a == 0) (b == 0)

-- ---- the worst of a table

abbrev worst : ℕ → List Row → ℕ
worst status rows = fold (λ status row. worse status (kind_status row.kind)) status rows

-- where it is 0 each is 0
all_none : (status : ℕ) (rows : List Row) → worst status rows ≡ 0 → (status ≡ 0) × All (λ row. kind_status row.kind ≡ 0) rows
all_none status [] h = (h, All-nil (λ row. kind_status row.kind ≡ 0))
all_none status (row ∷ rows) h =
    let later = all_none (worse status (kind_status row.kind)) rows h in
    let here = none_worse status (kind_status row.kind) later.0 in
    (here.0, All-cons (λ row. kind_status row.kind ≡ 0) row rows here.1 later.1)

-- a row's kind has this status
abbrev IsStatusOfOne : ℕ → List Row → Type 0
IsStatusOfOne status rows = (row : Row) × Contains rows row × (kind_status row.kind ≡ status)

further : (status : ℕ) (row : Row) (rows : List Row) → IsStatusOfOne status rows → IsStatusOfOne status (row ∷ rows)
further status row rows (x, there, same) = (x, (suc there.0, (let h = there.1 in omega arith), there.2), same)

one_more : (status : ℕ) (row : Row) (rows : List Row) → (worst (worse status (kind_status row.kind)) rows ≡ worse status (kind_status row.kind)) ⊎ IsStatusOfOne (worst (worse status (kind_status row.kind)) rows) rows
    → (worse status (kind_status row.kind) ≡ status) ⊎ (worse status (kind_status row.kind) ≡ kind_status row.kind)
    → (worst status (row ∷ rows) ≡ status) ⊎ IsStatusOfOne (worst status (row ∷ rows)) (row ∷ rows)
one_more status row rows (inr later) either = inr (further (worst status (row ∷ rows)) row rows later)
one_more status row rows (inl same) (inl before) = inl (same ∙ before)
one_more status row rows (inl same) (inr here) = inr (row, (0, omega arith, refl), sym (same ∙ here))

-- it is that with which it began, or that of a row
of_one : (status : ℕ) (rows : List Row) → (worst status rows ≡ status) ⊎ IsStatusOfOne (worst status rows) rows
of_one status [] = inl refl
of_one status (row ∷ rows) = one_more status row rows (of_one (worse status (kind_status row.kind)) rows) (one_worse status (kind_status row.kind))

-- ---- a row of each kind

counted_there_by : (p : Row → Bool) (x : Row) (xs : List Row) → (1 ≤ count_by p xs → (y : Row) × Contains xs y × (p y ≡ true)) → (b : Bool) → p x ≡ b → 1 ≤ count_by p (x ∷ xs)
    → (y : Row) × Contains (x ∷ xs) y × (p y ≡ true)
counted_there_by p x xs rest true here some = (x, (0, omega arith, refl), here)
counted_there_by p x xs rest false here some =
    let later = rest (omega (arith, some, count_first p x xs, bit_no (p x) here)) in
    (later.0, (suc later.1.0, (let h = later.1.1 in omega arith), later.1.2), later.2)

-- what is counted is there
counted_there : (p : Row → Bool) (xs : List Row) → 1 ≤ count_by p xs → (y : Row) × Contains xs y × (p y ≡ true)
counted_there p [] some = absurd (omega (arith, some))
counted_there p (x ∷ xs) some = counted_there_by p x xs (counted_there p xs) (p x) refl some

-- a table has a row of the kind of each try
row_of_try : (tries rows : List Row) (try : Row) → IsTallyOf tries rows → Contains tries try → (row : Row) × Contains rows row × (row.kind ≡ try.kind)
row_of_try tries rows try tally there =
    let some : 1 ≤ rows_of try.kind tries = counted_one (is_of try.kind) tries try there (of_itself try try.kind refl) in
    let one = tally.one_row try.kind in
    let found = counted_there (is_of try.kind) rows (omega (arith, some, one)) in
    (found.0, found.1, kind_is found.0 try.kind found.2)

-- ---- runs

-- the run of a try has the status of its kind
run_of_try : (tried : Case) (seed status : ℕ) (row : Row) → IsTryOf tried seed row → kind_status row.kind ≡ status → HasStatus tried seed status
run_of_try tried seed status row is same = record {
  run = is.run;
  picked = is.picked;
  status_is = sym (ap kind_status is.kind_is ∙ kinds.kind_is tried.expectations _ _ is.run) ∙ same;
}

pub clean_runs : (tried : Case) (from count : ℕ) (tries rows : List Row) → AreTries tried from count tries → IsTableOf tries rows → table_status rows ≡ 0 → AreClean tried from count
clean_runs tried from count tries rows are table clean = λ k less.
    let d : Row = record { kind = []; count = 0; seed = 0; events = 0 } in
    let within : k < length tries = let all = are.all in omega arith in
    let there : Contains tries (get_or tries k d) = Contains-get_or tries k d within in
    let row = row_of_try tries rows (get_or tries k d) table.tally there in
    let none = (all_none 0 rows clean).1 row.1.0 row.0 row.1.1 in
    let same : kind_status (get_or tries k d).kind ≡ 0 = ap kind_status (sym row.2) ∙ ap (λ (r : Row). kind_status r.kind) (sym row.1.2) ∙ none in
    run_of_try tried (from + k) 0 (get_or tries k d) (are.each k (get_or tries k d) (slice_get-get_or tries k d within)) same

run_of_row : (tried : Case) (from count : ℕ) (tries rows : List Row) → AreTries tried from count tries → IsTableOf tries rows → IsStatusOfOne (table_status rows) rows → SomeHas tried from count (table_status rows)
run_of_row tried from count tries rows are table (row, there, same) =
    let best = table.tally.best there.0 row there.1 in
    let named = best.named in
    let try : Row = named.0 in
    let at : ℕ = named.1.0 in
    let within = named.1.1 in
    let all = are.all in
    let is = are.each at try (slice_get-get_or tries at try within ∙ ap Some named.1.2) in
    let kind : try.kind ≡ row.kind = named.2.0 ∙ ap (λ (r : Row). r.kind) there.2 in
    (at, omega arith, run_of_try tried (from + at) (table_status rows) try is (ap kind_status kind ∙ same))

some_run_by : (tried : Case) (from count : ℕ) (tries rows : List Row) → AreTries tried from count tries → IsTableOf tries rows → table_status rows ≢ 0
    → (worst 0 rows ≡ 0) ⊎ IsStatusOfOne (worst 0 rows) rows → SomeHas tried from count (table_status rows)
some_run_by tried from count tries rows are table some (inl none) = absurd (some none)
some_run_by tried from count tries rows are table some (inr one) = run_of_row tried from count tries rows are table one

pub some_run : (tried : Case) (from count : ℕ) (tries rows : List Row) → AreTries tried from count tries → IsTableOf tries rows → table_status rows ≢ 0 → SomeHas tried from count (table_status rows)
some_run tried from count tries rows are table some = some_run_by tried from count tries rows are table some (of_one 0 rows)
