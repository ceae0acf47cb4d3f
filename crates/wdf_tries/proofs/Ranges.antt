-- Tries of a range: none, one more, and those of two ranges that follow one another.
use Rattle.std.proofs.Common.{ℕ, zero, suc, ◌≡◌, ◌+◌, ◌-◌, ◌⊎◌, inl, inr, List, [], ◌∷◌, ◌++◌, length, Some, slice_get, refl, sym, ap, ◌∙◌, arith, length-append}
use Rattle.std.proofs.lemmas.List.Sums.{sum_by_push}
use Rattle.wdf_table.specs.declared.row.Row.{Row}
use Rattle.wdf_table.specs.Tables.{IsTallyOf}
use Rattle.wdf_tries.specs.declared.tried.Case.{Case}
use Rattle.wdf_tries.specs.Tries.{IsTryOf, AreTries, events_of, IsHuntOf}

-- What the first tries come to, a tally and a count of events.
pub record IsSoFar (tried : Case) (from count : ℕ) (rows : List Row) (total : ℕ) : Type 0 where
  pub tries : List Row
  pub are : AreTries tried from count tries
  pub tally : IsTallyOf tries rows
  pub events : total ≡ events_of tries

-- ---- lists one after the other

-- an element of two lists is one of the first, or of the second
split_get : (xs ys : List Row) (k : ℕ) (x : Row) → slice_get (xs ++ ys) k ≡ Some x → (slice_get xs k ≡ Some x) ⊎ ((j : ℕ) × (k ≡ length xs + j) × (slice_get ys j ≡ Some x))
split_get [] ys k x at = inr (k, omega arith, at)
split_get (y ∷ xs) ys zero x at = inl at
split_get (y ∷ xs) ys (suc k) x at =
    elim (split_get xs ys k x at) [
      | inl h ↦ inl h
      | inr h ↦ inr (h.0, omega (arith, h.1), h.2)
    ]

each_of_two : (tried : Case) (from m : ℕ) (xs ys : List Row) → length xs ≡ m
    → ((k : ℕ) (row : Row) → slice_get xs k ≡ Some row → IsTryOf tried (from + k) row)
    → ((k : ℕ) (row : Row) → slice_get ys k ≡ Some row → IsTryOf tried (from + m + k) row)
    → (k : ℕ) (row : Row) → slice_get (xs ++ ys) k ≡ Some row → IsTryOf tried (from + k) row
each_of_two tried from m xs ys long first second k row at =
    elim (split_get xs ys k row at) [
      | inl h ↦ first k row h
      | inr h ↦
          let same : from + m + h.0 ≡ from + k = omega (arith, long, h.1) in
          rw (← same) (second h.0 row h.2)
    ]

-- ---- tries

-- those of two ranges, one after the other
pub tries_of_two : (tried : Case) (from m n : ℕ) (xs ys : List Row) → AreTries tried from m xs → AreTries tried (from + m) n ys → AreTries tried from (m + n) (xs ++ ys)
tries_of_two tried from m n xs ys first second = record {
  all = omega (arith, length-append xs ys, first.all, second.all);
  each = each_of_two tried from m xs ys first.all first.each second.each;
}

no_element : (k : ℕ) (row : Row) → slice_get [] k ≡ Some row → ⊥
no_element k row at = let no : ⊥ = cc in no

-- no tries
pub no_tries : (tried : Case) (from : ℕ) → AreTries tried from 0 []
no_tries tried from = record { all = refl; each = λ k row at. absurd (no_element k row at) }

one_element : (x : Row) (k : ℕ) (row : Row) → slice_get (x ∷ []) k ≡ Some row → (k ≡ 0) × (x ≡ row)
one_element x zero row at = (refl, let same : x ≡ row = cc in same)
one_element x (suc k) row at = absurd (no_element k row at)

-- the try of one seed
pub one_try : (tried : Case) (from : ℕ) (row : Row) → IsTryOf tried from row → AreTries tried from 1 (row ∷ [])
one_try tried from row is = record {
  all = refl;
  each = λ k other at.
      let h = one_element row k other at in
      let same : from + k ≡ from = omega (arith, h.0) in
      rw (same, ← h.1) is;
}

-- ---- what they come to

pub none_so_far : (tried : Case) (from : ℕ) (rows : List Row) → rows ≡ [] → IsTallyOf [] rows → IsSoFar tried from 0 rows 0
none_so_far tried from rows none tally = record { tries = []; are = no_tries tried from; tally = tally; events = refl }

-- the try of the next seed is added
pub one_more : (tried : Case) (from k : ℕ) (rows more : List Row) (events : ℕ) (row : Row) → IsSoFar tried from k rows events → IsTryOf tried (from + k) row
    → ((entries : List Row) → IsTallyOf entries rows → IsTallyOf (entries ++ row ∷ []) more) → IsSoFar tried from (k + 1) more (events + row.events)
one_more tried from k rows more events row so_far is added = record {
  tries = so_far.tries ++ row ∷ [];
  are = tries_of_two tried from k 1 so_far.tries (row ∷ []) so_far.are (one_try tried (from + k) row is);
  tally = added so_far.tries so_far.tally;
  events = ap (λ n. n + row.events) so_far.events ∙ sym (sum_by_push (λ x. x.events) so_far.tries row);
}

-- a hunt of a range is what all its tries come to
pub hunt_of : (tried : Case) (from count : ℕ) (rows : List Row) (events k : ℕ) → IsSoFar tried from k rows events → k ≡ count
    → IsHuntOf tried from count (record { tally = rows; events = events })
hunt_of tried from count rows events k so_far all = record {
  tries = so_far.tries;
  are = rw (← all) so_far.are;
  tally = so_far.tally;
  events = so_far.events;
}
