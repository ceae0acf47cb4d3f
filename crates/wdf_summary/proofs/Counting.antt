-- One event more is counted, or isn't.
use Rattle.std.proofs.Common.{ℕ, ◌≡◌, ◌+◌, ◌<◌, Bool, true, false, List, length, take, Some, slice_get, ap, ◌∙◌, sym}
use Rattle.std.specs.List.{count_by}
use Rattle.std.proofs.lemmas.List.Sums.{count_by_more_yes, count_by_more_no}
use Rattle.std.proofs.lemmas.Option.{get_or_from_slice_get}

pub counted_yes : {X : Type 0} (p : X → Bool) (xs : List X) (k count : ℕ) (x : X) → k < length xs → slice_get xs k ≡ Some x → p x ≡ true → count ≡ count_by p (take k xs) → count + 1 ≡ count_by p (take (k + 1) xs)
counted_yes p xs k count x inside at found so_far =
    ap (λ n. n + 1) so_far ∙ sym (count_by_more_yes p xs k x inside (ap p (get_or_from_slice_get xs k x x at) ∙ found))

pub counted_no : {X : Type 0} (p : X → Bool) (xs : List X) (k count : ℕ) (x : X) → k < length xs → slice_get xs k ≡ Some x → p x ≡ false → count ≡ count_by p (take k xs) → count ≡ count_by p (take (k + 1) xs)
counted_no p xs k count x inside at other so_far =
    so_far ∙ sym (count_by_more_no p xs k x inside (ap p (get_or_from_slice_get xs k x x at) ∙ other))
