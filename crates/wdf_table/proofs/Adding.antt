-- An entry is added to a tally: it joins the row of its kind, or is a row of its own.
use Rattle.std.proofs.Common.{if◌then◌else◌, ℕ, zero, suc, ◌≡◌, ◌≢◌, ◌+◌, ◌<◌, ◌≤◌, Bool, true, false, cond, List, [], ◌∷◌, ◌++◌, length, get_or, set, min, refl, sym, ap, ◌∙◌, arith, count_by, bytes_eq, position, Some, None, slice_set, nat_lt}
use Rattle.std.specs.List.{All, Contains, position_or_len}
use Rattle.std.proofs.lemmas.Bool.{false≢true}
use Rattle.std.proofs.lemmas.Bool.Decides.{nat_tests}
use Rattle.std.proofs.lemmas.List.Elements.{All-nil, All-cons, All-head, All-tail, All-push, All-weaker, All-from_get_or, Contains-append_left, Contains-push, Contains-get_or}
use Rattle.std.proofs.lemmas.List.{get_or_default}
use Rattle.std.proofs.lemmas.List.Quantifiers.{position-Some}
use Rattle.std.proofs.lemmas.List.Sums.{sum_by-cons, sum_by_push, sum_by-set, get_or-le-sum_by, fails_before_first}
use Rattle.std.proofs.lemmas.Slice.Eq.{bytes_eq-Decides}
use Rattle.wdf_table.specs.declared.row.Row.{Row}
use Rattle.wdf_table.specs.Rows.{is_of, is_as_plain, joined_rows}
use Rattle.wdf_table.specs.Tables.{seeds_in, seeds_of, rows_of, all_seeds, IsBest, IsTallyOf}

-- ---- which run is plainer

pub plain_itself : (a : Row) → is_as_plain a a ≡ true
plain_itself a = grind (arith, nat_tests)

pub plain_back : (a b : Row) → is_as_plain a b ≡ false → is_as_plain b a ≡ true
plain_back a b h = grind (arith, nat_tests)

pub plain_chain : (a b c : Row) → is_as_plain a b ≡ true → is_as_plain b c ≡ true → is_as_plain a c ≡ true
plain_chain a b c h k = grind (arith, nat_tests)

-- ---- kinds

pub of_itself : (row : Row) (kind : List ℕ) → row.kind ≡ kind → is_of kind row ≡ true
of_itself row kind same = (bytes_eq-Decides row.kind kind).1 same

pub kind_is : (row : Row) (kind : List ℕ) → is_of kind row ≡ true → row.kind ≡ kind
kind_is row kind same = (bytes_eq-Decides row.kind kind).0 same

-- rows of one kind pass the same tests
same_test : (kind : List ℕ) (a b : Row) → a.kind ≡ b.kind → is_of kind b ≡ is_of kind a
same_test kind a b same = ap (λ k. bytes_eq k kind) (sym same)

-- ---- the two rows of a kind as one

both : (b : Bool) (m n : ℕ) → cond b (m + n) 0 ≡ cond b m 0 + cond b n 0
both true m n = refl
both false m n = refl

joined_seeds : (kind : List ℕ) (a b : Row) → a.kind ≡ b.kind → seeds_in kind (joined_rows a b) ≡ seeds_in kind a + seeds_in kind b
joined_seeds kind a b same = rw (same_test kind a b same) (both (is_of kind a) a.count b.count)

-- ---- one row a kind

-- what a test adds to a count
abbrev pub bit : Bool → ℕ
bit b = cond b 1 0

pub bit_yes : (b : Bool) → b ≡ true → bit b ≡ 1
bit_yes true h = refl
bit_yes false h = absurd (false≢true h)

pub bit_no : (b : Bool) → b ≡ false → bit b ≡ 0
bit_no true h = absurd (false≢true (sym h))
bit_no false h = refl

pub count_first : (p : Row → Bool) (x : Row) (xs : List Row) → count_by p (x ∷ xs) ≡ bit (p x) + count_by p xs
count_first p x xs = sum_by-cons (λ y. bit (p y)) x xs

count_part : (p : Row → Bool) (xs : List Row) (i : ℕ) (d : Row) → i < length xs → bit (p (get_or xs i d)) ≤ count_by p xs
count_part p xs i d within = get_or-le-sum_by (λ y. bit (p y)) xs i d within

-- two places that pass a test, where at most one does, are one
one_place : (p : Row → Bool) (xs : List Row) (i j : ℕ) (d : Row) → i < length xs → j < length xs → p (get_or xs i d) ≡ true → p (get_or xs j d) ≡ true
    → count_by p xs ≤ 1 → i ≡ j
one_place p [] i j d within there passes also few = absurd (omega arith)
one_place p (x ∷ xs) zero zero d within there passes also few = refl
one_place p (x ∷ xs) zero (suc j) d within there passes also few =
    let h : j < length xs = omega arith in
    absurd (omega (arith, few, count_first p x xs, bit_yes (p x) passes, count_part p xs j d h, bit_yes (p (get_or xs j d)) also))
one_place p (x ∷ xs) (suc i) zero d within there passes also few =
    let h : i < length xs = omega arith in
    absurd (omega (arith, few, count_first p x xs, bit_yes (p x) also, count_part p xs i d h, bit_yes (p (get_or xs i d)) passes))
one_place p (x ∷ xs) (suc i) (suc j) d within there passes also few =
    ap suc (one_place p xs i j d (omega arith) (omega arith) passes also (omega (arith, few, count_first p x xs)))

-- what holds of the row that is written and of each other row holds of all
set_other : (Q : Row → Type 0) (xs : List Row) (k : ℕ) (y d : Row) → Q y → ((i : ℕ) → i < length xs → i ≢ k → Q (get_or xs i d)) → All Q (set xs k y)
set_other Q [] k y d here rest = All-nil Q
set_other Q (x ∷ xs) zero y d here rest =
    All-cons Q y xs here (All-from_get_or Q xs d (λ i less. rest (suc i) (omega arith) (λ same. absurd (omega arith))))
set_other Q (x ∷ xs) (suc k) y d here rest =
    All-cons Q x (set xs k y) (rest 0 (omega arith) (λ same. absurd (omega arith)))
    (set_other Q xs k y d here (λ i less other. rest (suc i) (omega arith) (λ same. other (omega arith))))

-- ---- the best of a kind

-- a row of another kind is as before
pub best_kept : (entries : List Row) (row e : Row) → row.kind ≢ e.kind → IsBest entries row → IsBest (entries ++ e ∷ []) row
best_kept entries row e other best = record {
  named = (best.named.0, Contains-append_left entries (e ∷ []) best.named.0 best.named.1, best.named.2);
  plainest = All-push (λ x. x.kind ≡ row.kind → is_as_plain row x ≡ true) entries e best.plainest (λ same. absurd (other (sym same)));
}

-- the row with the plainer of two runs, as a test tells
abbrev plainer_by : Bool → Row → Row → Row
plainer_by b row e = record {
  kind = row.kind;
  count = row.count + e.count;
  seed = if b then row.seed else e.seed;
  events = if b then row.events else e.events;
}

best_by : (entries : List Row) (row e : Row) (b : Bool) → is_as_plain row e ≡ b → row.kind ≡ e.kind → IsBest entries row
    → IsBest (entries ++ e ∷ []) (plainer_by b row e)
best_by entries row e true plain same best = record {
  named = (best.named.0, Contains-append_left entries (e ∷ []) best.named.0 best.named.1, best.named.2);
  plainest = All-push (λ x. x.kind ≡ row.kind → is_as_plain row x ≡ true) entries e best.plainest (λ _. plain);
}
best_by entries row e false plain same best = record {
  named = (e, Contains-push entries e, (sym same, refl, refl));
  plainest = All-push (λ x. x.kind ≡ row.kind → is_as_plain e x ≡ true) entries e
      (All-weaker (λ x. x.kind ≡ row.kind → is_as_plain row x ≡ true) (λ x. x.kind ≡ row.kind → is_as_plain e x ≡ true)
      (λ x h of. plain_chain e row x (plain_back row e plain) (h of)) entries best.plainest)
      (λ _. plain_itself e);
}

best_joined : (entries : List Row) (row e : Row) → row.kind ≡ e.kind → IsBest entries row → IsBest (entries ++ e ∷ []) (joined_rows row e)
best_joined entries row e same best = best_by entries row e (is_as_plain row e) refl same best

-- ---- an entry joins the row of its kind

pub record IsThere (rows : List Row) (e : Row) (k : ℕ) : Type 0 where
  pub within : k < length rows
  pub of : is_of e.kind (get_or rows k e) ≡ true

best_of_all : (entries rows : List Row) (e : Row) (k : ℕ) → IsThere rows e k → IsTallyOf entries rows
    → All (IsBest (entries ++ e ∷ [])) (set rows k (joined_rows (get_or rows k e) e))
best_of_all entries rows e k there tally =
    let few : rows_of e.kind rows ≤ 1 = omega (arith, tally.one_row e.kind) in
    let same : (get_or rows k e).kind ≡ e.kind = kind_is (get_or rows k e) e.kind there.of in
    set_other (IsBest (entries ++ e ∷ [])) rows k (joined_rows (get_or rows k e) e) e
    (best_joined entries (get_or rows k e) e same (tally.best k e there.within))
    (λ i less other. best_kept entries (get_or rows i e) e
    (λ alike. other (one_place (is_of e.kind) rows i k e less there.within (of_itself (get_or rows i e) e.kind alike) there.of few))
    (tally.best i e less))

one_more : (rows entries rows' entries' passes : ℕ) → rows ≡ min 1 entries → rows' + passes ≡ rows + passes → passes ≤ rows → entries' ≡ entries + passes → rows' ≡ min 1 entries'
one_more rows entries rows' entries' passes before written part more = omega arith

-- how often a test passes is the same where the row that is written passes it as the row before did
pub tally_joined : (entries rows : List Row) (e : Row) (k : ℕ) → IsThere rows e k → IsTallyOf entries rows
    → IsTallyOf (entries ++ e ∷ []) (set rows k (joined_rows (get_or rows k e) e))
tally_joined entries rows e k there tally =
    let old : Row = get_or rows k e in
    let new : Row = joined_rows (get_or rows k e) e in
    let same : (get_or rows k e).kind ≡ e.kind = kind_is (get_or rows k e) e.kind there.of in
    record {
      one_row = λ kind.
          let passes : ℕ = cond (is_of kind (get_or rows k e)) 1 0 in
          let written : rows_of kind (set rows k (joined_rows (get_or rows k e) e)) + cond (is_of kind (get_or rows k e)) 1 0 ≡ rows_of kind rows + cond (is_of kind (get_or rows k e)) 1 0
          = sum_by-set (λ x. cond (is_of kind x) 1 0) rows k (joined_rows (get_or rows k e) e) e there.within in
          let part : cond (is_of kind (get_or rows k e)) 1 0 ≤ rows_of kind rows = get_or-le-sum_by (λ x. cond (is_of kind x) 1 0) rows k e there.within in
          let more : rows_of kind (entries ++ e ∷ []) ≡ rows_of kind entries + cond (is_of kind (get_or rows k e)) 1 0
          = sum_by_push (λ x. cond (is_of kind x) 1 0) entries e ∙ ap (λ b. rows_of kind entries + cond b 1 0) (same_test kind (get_or rows k e) e same) in
          let before = tally.one_row kind in
          one_more (rows_of kind rows) (rows_of kind entries) (rows_of kind (set rows k (joined_rows (get_or rows k e) e))) (rows_of kind (entries ++ e ∷ [])) (cond (is_of kind (get_or rows k e)) 1 0)
          before written part more;
      counted = λ kind.
          let written : seeds_of kind (set rows k (joined_rows (get_or rows k e) e)) + seeds_in kind (get_or rows k e) ≡ seeds_of kind rows + seeds_in kind (joined_rows (get_or rows k e) e)
          = sum_by-set (seeds_in kind) rows k (joined_rows (get_or rows k e) e) e there.within in
          let joined = joined_seeds kind (get_or rows k e) e same in
          let more : seeds_of kind (entries ++ e ∷ []) ≡ seeds_of kind entries + seeds_in kind e = sum_by_push (seeds_in kind) entries e in
          let before = tally.counted kind in
          omega arith;
      best = best_of_all entries rows e k there tally;
      whole =
          let written : all_seeds (set rows k (joined_rows (get_or rows k e) e)) + (get_or rows k e).count ≡ all_seeds rows + ((get_or rows k e).count + e.count)
          = sum_by-set (λ x. x.count) rows k (joined_rows (get_or rows k e) e) e there.within in
          let more : all_seeds (entries ++ e ∷ []) ≡ all_seeds entries + e.count = sum_by_push (λ x. x.count) entries e in
          let before = tally.whole in
          omega arith;
    }

-- the row of the entry's kind is at this place, and what is written there is it and the entry as one
pub tally_added : (entries rows : List Row) (e row new : Row) (k : ℕ) → position (is_of e.kind) rows ≡ Some k → row ≡ get_or rows k row → new ≡ joined_rows row e
    → IsTallyOf entries rows → IsTallyOf (entries ++ e ∷ []) (slice_set rows k new)
tally_added entries rows e row new k found at is tally =
    let here = position-Some (is_of e.kind) rows k e found in
    let same : row ≡ get_or rows k e = at ∙ get_or_default rows k row e here.0 in
    rw (is, same) (tally_joined entries rows e k (record { within = here.0; of = here.1 }) tally)

-- ---- an entry is a row of its own

none_counted : (p : Row → Bool) (xs : List Row) → All (λ x. p x ≡ false) xs → count_by p xs ≡ 0
none_counted p [] none = refl
none_counted p (x ∷ xs) none =
    omega (arith, count_first p x xs, bit_no (p x) (All-head (λ y. p y ≡ false) x xs none), none_counted p xs (All-tail (λ y. p y ≡ false) x xs none))

first_one : (b : Bool) (rows entries rows' entries' : ℕ) → rows ≡ min 1 entries → rows' ≡ rows + cond b 1 0 → entries' ≡ entries + cond b 1 0 → (b ≡ true → rows ≡ 0)
    → rows' ≡ min 1 entries'
first_one true rows entries rows' entries' before here there none = let no = none refl in omega arith
first_one false rows entries rows' entries' before here there none = omega arith

-- an element that passes a test is counted
pub counted_one : (p : Row → Bool) (xs : List Row) (x : Row) → Contains xs x → p x ≡ true → 1 ≤ count_by p xs
counted_one p xs x there passes =
    let same : p (get_or xs there.0 x) ≡ true = rw there.2 passes in
    omega (arith, count_part p xs there.0 x there.1, bit_yes (p (get_or xs there.0 x)) same)

-- no entry is of a kind that no row is of
none_of_kind : (entries rows : List Row) (e : Row) → All (λ row. is_of e.kind row ≡ false) rows → IsTallyOf entries rows → (x : Row) → Contains entries x → x.kind ≡ e.kind → ⊥
none_of_kind entries rows e none tally x there alike =
    let one : 1 ≤ rows_of e.kind entries = counted_one (is_of e.kind) entries x there (of_itself x e.kind alike) in
    let before = tally.one_row e.kind in
    let no : rows_of e.kind rows ≡ 0 = none_counted (is_of e.kind) rows none in
    omega arith

-- rows of other kinds are as before
all_kept : (entries : List Row) (e : Row) (rows : List Row) → All (λ row. is_of e.kind row ≡ false) rows → All (IsBest entries) rows → All (IsBest (entries ++ e ∷ [])) rows
all_kept entries e rows none best i d less =
    best_kept entries (get_or rows i d) e
    (λ alike. absurd (false≢true (sym (none i d less) ∙ of_itself (get_or rows i d) e.kind alike)))
    (best i d less)

pub tally_pushed : (entries rows : List Row) (e : Row) → All (λ row. is_of e.kind row ≡ false) rows → IsTallyOf entries rows → IsTallyOf (entries ++ e ∷ []) (rows ++ e ∷ [])
tally_pushed entries rows e none tally = record {
  one_row = λ kind.
      let here = sum_by_push (λ x. cond (is_of kind x) 1 0) rows e in
      let there = sum_by_push (λ x. cond (is_of kind x) 1 0) entries e in
      let before = tally.one_row kind in
      first_one (is_of kind e) (rows_of kind rows) (rows_of kind entries) (rows_of kind (rows ++ e ∷ [])) (rows_of kind (entries ++ e ∷ []))
      before here there
      (λ of. rw (← kind_is e kind of) (none_counted (is_of e.kind) rows none));
  counted = λ kind.
      let here = sum_by_push (seeds_in kind) rows e in
      let there = sum_by_push (seeds_in kind) entries e in
      let before = tally.counted kind in
      omega arith;
  best = All-push (IsBest (entries ++ e ∷ [])) rows e
      (all_kept entries e rows none tally.best)
      (record {
        named = (e, Contains-push entries e, (refl, refl, refl));
        plainest = All-push (λ x. x.kind ≡ e.kind → is_as_plain e x ≡ true) entries e
            (λ i d less alike. absurd (none_of_kind entries rows e none tally (get_or entries i d) (Contains-get_or entries i d less) alike))
            (λ _. plain_itself e);
      });
  whole =
      let here = sum_by_push (λ x. x.count) rows e in
      let there = sum_by_push (λ x. x.count) entries e in
      let before = tally.whole in
      omega arith;
}

-- ---- where no row is found

found_none : (b : Bool) (k : ℕ) → cond b (Some k) None ≡ None → b ≡ false
found_none true k none = absurd (let no : ⊥ = cc in no)
found_none false k none = refl

none_of : (kind : List ℕ) (rows : List Row) → position (is_of kind) rows ≡ None → All (λ row. is_of kind row ≡ false) rows
none_of kind rows none =
    let far = found_none (nat_lt (position_or_len (is_of kind) rows) (length rows)) (position_or_len (is_of kind) rows) none in
    λ i d less. fails_before_first (is_of kind) rows i d (let past : i < position_or_len (is_of kind) rows = grind (arith, nat_tests) in past)

pub tally_new : (entries rows more : List Row) (e : Row) → position (is_of e.kind) rows ≡ None → more ≡ rows ++ e ∷ [] → IsTallyOf entries rows → IsTallyOf (entries ++ e ∷ []) more
tally_new entries rows more e none is tally = rw is (tally_pushed entries rows e (none_of e.kind rows none) tally)
