-- Ranges that follow one another.
use Rattle.std.proofs.Common.{◌≡◌, ℕ, ◌+◌, ◌<◌, ◌≤◌, ◌⊎◌, inl, inr, Bool, true, false, nat_lt, List, length, take, get_or, Some, slice_get, Result, Ok, Err, IfErr, refl, sym, ap, ◌∙◌, arith}
use Rattle.std.specs.List.Sorted.{IsPermutation, IsSorted}
use Rattle.std.specs.Cmp.{IsStrictWeakOrder, IsTotalOrder}
use Rattle.std.specs.Ordering.{is_lt, nat_cmp}
use Rattle.std.proofs.lemmas.Bool.Decides.{nat_tests}
use Rattle.std.proofs.lemmas.Cmp.{nat_cmp_total, on_total, then_total}
use Rattle.std.proofs.lemmas.List.{take_more}
use Rattle.std.proofs.lemmas.List.MinMax.{ranks_by}
use Rattle.std.proofs.lemmas.List.Sums.{sum_by_push, sum_by-take-drop}
use Rattle.std.proofs.lemmas.Option.{slice_get-get_or, slice_get_within}
use Rattle.wdf_sum.specs.declared.line.Seeds.{Seeds}
use Rattle.wdf_sum.specs.declared.refused.Bad.{Bad}
use Rattle.wdf_sum.specs.declared.refused.Bad.TheVariants.{NoMemory, AtLine}
use Rattle.wdf_sum.specs.Lines.{count_of}
use Rattle.wdf_sum.specs.Sums.{AreNoRange, Follow, IsNoRangeFrom, seeds_cmp}

-- the ranges before this place follow one another from here on
abbrev pub FollowTo : ℕ → ℕ → List Seeds → Type 0
FollowTo n from ends = (k : ℕ) (s : Seeds) → k < n → slice_get ends k ≡ Some s → s.from ≡ from + count_of (take k ends)

pub follow_none : (from : ℕ) (ends : List Seeds) → FollowTo 0 from ends
follow_none from ends k s less there = absurd (omega (arith, less))

pub counted_more : (ends : List Seeds) (k : ℕ) (d : Seeds) → k < length ends → count_of (take (k + 1) ends) ≡ count_of (take k ends) + (get_or ends k d).count
counted_more ends k d less = ap count_of (take_more ends k d less) ∙ sum_by_push (λ (s : Seeds). s.count) (take k ends) (get_or ends k d)

-- the seeds before a range and its own are no more than those of all
pub counted_within : (ends : List Seeds) (k : ℕ) (d : Seeds) → k < length ends → count_of (take k ends) + (get_or ends k d).count ≤ count_of ends
counted_within ends k d less = omega (arith, counted_more ends k d less, sum_by-take-drop (λ (s : Seeds). s.count) ends (k + 1))

same_some : (a b : Seeds) → Some a ≡ Some b → a ≡ b
same_some a b same = cc

follow_by : (from n k : ℕ) (ends : List Seeds) (s d : Seeds) → k < n + 1 → n < length ends → slice_get ends k ≡ Some s → FollowTo n from ends → (get_or ends n d).from ≡ from + count_of (take n ends)
    → ((k < n) ⊎ (k ≡ n)) → s.from ≡ from + count_of (take k ends)
follow_by from n k ends s d less within there before here (inl earlier) = before k s earlier there
follow_by from n k ends s d less within there before here (inr same) =
    let at : slice_get ends n ≡ Some (get_or ends n d) = slice_get-get_or ends n d within in
    let is : get_or ends n d ≡ s = same_some (get_or ends n d) s (sym at ∙ ap (slice_get ends) (sym same) ∙ there) in
    ap (λ (x : Seeds). x.from) (sym is) ∙ here ∙ ap (λ i. from + count_of (take i ends)) (sym same)

cases_by : (k n : ℕ) (test : Bool) → nat_lt k n ≡ test → k < n + 1 → (k < n) ⊎ (k ≡ n)
cases_by k n true is less = inl (grind (arith, nat_tests, is))
cases_by k n false is less = inr (grind (arith, nat_tests, is, less))

cases_of : (k n : ℕ) → k < n + 1 → (k < n) ⊎ (k ≡ n)
cases_of k n less = cases_by k n (nat_lt k n) refl less

-- a range more
pub follow_more : (from n : ℕ) (ends : List Seeds) (d : Seeds) → n < length ends → FollowTo n from ends → (get_or ends n d).from ≡ from + count_of (take n ends) → FollowTo (n + 1) from ends
follow_more from n ends d within before here k s less there = follow_by from n k ends s d less within there before here (cases_of k n less)

-- all of them
pub follow_all : (from n : ℕ) (ends : List Seeds) → length ends ≤ n → FollowTo n from ends → Follow from ends
follow_all from n ends past before k s there = before k s (omega (arith, past, slice_get_within ends k s there)) there

-- ---- the order of ranges

-- it is one in which any two ranges compare
pub seeds_in_order : IsStrictWeakOrder (λ (a b : Seeds). is_lt (seeds_cmp a b))
seeds_in_order =
    let by_seed : IsTotalOrder (λ (a b : Seeds). nat_cmp a.from b.from) = on_total (λ (s : Seeds). s.from) nat_cmp_total in
    let by_line : IsTotalOrder (λ (a b : Seeds). nat_cmp a.line b.line) = on_total (λ (s : Seeds). s.line) nat_cmp_total in
    let by_both : IsTotalOrder seeds_cmp = then_total by_seed by_line in
    ranks_by by_both (λ (s : Seeds). s)

-- ---- no range

no_range : (ends ordered : List Seeds) (bad : Bad) → IsPermutation ends ordered → IsSorted seeds_cmp ordered → IsNoRangeFrom ordered bad → AreNoRange ends bad
no_range ends ordered NoMemory moved sorted (first, first_is, broken) = broken
no_range ends ordered (AtLine number reason) moved sorted (first, first_is, broken) =
    record { ordered = ordered; moved = moved; sorted = sorted; first = first; first_is = first_is; broken = broken }

pub none_of : (ends ordered : List Seeds) (r : Result ℕ Bad) → IsPermutation ends ordered → IsSorted seeds_cmp ordered → IfErr r (IsNoRangeFrom ordered) → IfErr r (AreNoRange ends)
none_of ends ordered (Ok from) moved sorted h = tt
none_of ends ordered (Err bad) moved sorted h = no_range ends ordered bad moved sorted h
