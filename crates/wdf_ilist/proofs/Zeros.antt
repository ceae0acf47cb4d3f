-- A table grows by zeros, and what it stands for stays.
use Rattle.std.proofs.Common.{ℕ, suc, ◌≡◌, ◌-◌, ◌<◌, ◌≤◌, List, [], ◌∷◌, ◌++◌, length, replicate, slice_set, append_assoc, length-set, sym, ap, ◌∙◌, arith}
use Rattle.std.proofs.lemmas.List.{length_push, set-append_left}
use Rattle.wdf_ilist.specs.Padded.{padded}

-- The numbers of a table have grown, within its room.
pub record Grows (from to : List ℕ) (old places capacity : ℕ) : Type 0 where
  pub same : padded to places ≡ padded from old
  pub whole : places ≡ old
  pub within : length to ≤ places
  pub room : places ≤ capacity

-- one zero more changes nothing
pub padded_more : (numbers : List ℕ) (places : ℕ) → length numbers < places → padded (numbers ++ 0 ∷ []) places ≡ padded numbers places
padded_more numbers places h =
    let left : places - length numbers ≡ suc (places - length (numbers ++ 0 ∷ [])) = omega (arith, length_push numbers 0) in
    append_assoc numbers (0 ∷ []) (replicate (places - length (numbers ++ 0 ∷ [])) 0) ∙ sym (ap (λ n. numbers ++ replicate n 0) left)

-- a write to a number that is there
pub padded_set : (numbers : List ℕ) (places place number : ℕ) → place < length numbers → padded (slice_set numbers place number) places ≡ slice_set (padded numbers places) place number
padded_set numbers places place number h =
    let same : length (slice_set numbers place number) ≡ length numbers = omega (arith, length-set {A = ℕ}) in
    ap (λ n. slice_set numbers place number ++ replicate (places - n) 0) same ∙ sym (set-append_left numbers (replicate (places - length numbers) 0) place number h)
