-- Lists that are gathered item by item.
use Rattle.std.proofs.Common.{◌≡◌, ℕ, suc, ◌+◌, ◌<◌, ◌≤◌, ◌⊎◌, inl, inr, Bool, true, false, length, slice_index_or, sym, subst, arith, List, [], ◌∷◌, ◌++◌, Some, map, fold, take, slice_get, refl, ap, ◌∙◌}
use Rattle.std.specs.List.{insert, position_or_len}
use Rattle.std.proofs.lemmas.Bool.{cases_lt}
use Rattle.std.proofs.lemmas.List.{map_push}
use Rattle.std.proofs.lemmas.List.Sums.{fold-append, position_or_len_is}
use Rattle.std.proofs.lemmas.Option.{slice_get-get_or}
use Rattle.wdf_model.specs.declared.entries.DeviceAction.{DeviceAction}
use Rattle.wdf_model.specs.agents.Device.{among}
use Rattle.wdf_dev.specs.Actions.{comes_after}
use Rattle.wdf_model.proofs.Runs.{take_next}

pub one_more_mapped : {S T : Type 0} (f : S → T) (xs : List S) (k : ℕ) (x : S) → slice_get xs k ≡ Some x → map f (take (suc k) xs) ≡ map f (take k xs) ++ f x ∷ []
one_more_mapped f xs k x h = ap (map f) (take_next xs k x h) ∙ map_push f (take k xs) x

pub fold_last : {S T : Type 0} (g : S → T → S) (z : S) (xs : List T) (x : T) → fold g z (xs ++ x ∷ []) ≡ g (fold g z xs) x
fold_last g z xs x = fold-append g z xs (x ∷ [])

-- ---- the first item that passes a test

more_fail_by : {T : Type 0} (p : T → Bool) (xs : List T) (n k : ℕ) (a d : T) → (k < n) ⊎ (n ≤ k) → n < length xs → ((k : ℕ) (a : T) → k < n → slice_get xs k ≡ Some a → p a ≡ false) → p (slice_index_or xs n d) ≡ false → k < n + 1 → slice_get xs k ≡ Some a → p a ≡ false
more_fail_by p xs n k a d (inl before) h fails this l e = fails k a before e
more_fail_by p xs n k a d (inr from) h fails this l e =
    let same : k ≡ n = omega arith in
    let it = slice_get-get_or xs n d h in
    let at : slice_get xs n ≡ Some a = subst (λ j. slice_get xs j ≡ Some a) same e in
    let is : a ≡ slice_index_or xs n d = cc in
    ap p is ∙ this

pub more_fail : {T : Type 0} (p : T → Bool) (xs : List T) (n : ℕ) (d : T) → n < length xs → ((k : ℕ) (a : T) → k < n → slice_get xs k ≡ Some a → p a ≡ false) → p (slice_index_or xs n d) ≡ false
    → (k : ℕ) (a : T) → k < n + 1 → slice_get xs k ≡ Some a → p a ≡ false
more_fail p xs n d h fails this k a l e = more_fail_by p xs n k a d (cases_lt k n) h fails this l e

pub first_is : {T : Type 0} (p : T → Bool) (xs : List T) (n : ℕ) (d : T) → n < length xs → ((k : ℕ) (a : T) → k < n → slice_get xs k ≡ Some a → p a ≡ false) → p (slice_index_or xs n d) ≡ true → n ≡ position_or_len p xs
first_is p xs n d h fails this = sym (position_or_len_is p xs n d (omega arith) (λ k l. fails k (slice_index_or xs k d) l (slice_get-get_or xs k d (omega arith))) (λ _. this))

pub none_is : {T : Type 0} (p : T → Bool) (xs : List T) → ((k : ℕ) (a : T) → k < length xs → slice_get xs k ≡ Some a → p a ≡ false) → length xs ≡ position_or_len p xs
none_is p [] fails = refl
none_is p (x ∷ xs) fails = sym (position_or_len_is p (x ∷ xs) (length (x ∷ xs)) x (omega arith) (λ k l. fails k (slice_index_or (x ∷ xs) k x) l (slice_get-get_or (x ∷ xs) k x (omega arith))) (λ past. absurd (omega arith)))

-- ---- an item comes into its place

pub one_and : (n : ℕ) → 1 + n ≡ suc n
one_and n = omega arith

placed_by : (a x : DeviceAction) (xs : List DeviceAction) (b : Bool) → comes_after a.line x ≡ b → insert xs (position_or_len (comes_after a.line) xs) a ≡ among xs a
    → insert (x ∷ xs) (position_or_len (comes_after a.line) (x ∷ xs)) a ≡ among (x ∷ xs) a
placed_by a x xs true e rest = rw e refl
placed_by a x xs false e rest = rw (e, one_and) (ap (λ ys. x ∷ ys) rest)

pub among_is : (a : DeviceAction) (xs : List DeviceAction) → insert xs (position_or_len (comes_after a.line) xs) a ≡ among xs a
among_is a [] = refl
among_is a (x ∷ xs) = placed_by a x xs (comes_after a.line x) refl (among_is a xs)
