-- What is gathered of the lines in their order has rising places.
use Rattle.std.proofs.Common.{◌≡◌, ℕ, suc, ◌≤◌, List, [], ◌∷◌, length, Option, Some, None, refl, arith}
use Rattle.std.specs.List.{filter_map, cons_option}
use Rattle.wdf_scene.specs.declared.line.NumberedLine.{NumberedLine}
use Rattle.wdf_blocks.specs.declared.placed.Counts.{Counts}
use Rattle.wdf_blocks.specs.declared.placed.Placed.{Placed}
use Rattle.wdf_blocks.specs.declared.placed.Stand.{Stand}
use Rattle.wdf_blocks.specs.Placed.{counted, opened_by, placed_line, placed_from}
use Rattle.wdf_refusals.proofs.Every.{Every}

-- the first has its place at k or later, and each has it later than the one before
abbrev pub AreRising : {T : Type 0} → (T → ℕ) → ℕ → List T → Type 0
AreRising place k [] = Unit {0}
AreRising place k (x ∷ xs) = (k ≤ place x) × AreRising place (suc (place x)) xs

from_earlier : {T : Type 0} (place : T → ℕ) (j k : ℕ) (xs : List T) → j ≤ k → AreRising place k xs → AreRising place j xs
from_earlier place j k [] h r = tt
from_earlier place j k (x ∷ xs) h r = let first : k ≤ place x = r.0 in (omega arith, r.1)

-- so each has its place at k or later
pub rising_every : {T : Type 0} (place : T → ℕ) (k : ℕ) (xs : List T) → AreRising place k xs → Every (λ x. k ≤ place x) xs
rising_every place k [] r = tt
rising_every place k (x ∷ xs) r =
    let first : k ≤ place x = r.0 in
    (first, rising_every place k xs (from_earlier place k (suc (place x)) xs (omega arith) r.1))

rising_step : {T : Type 0} (place : T → ℕ) (k : ℕ) (o : Option T) (xs : List T) → ((x : T) → o ≡ Some x → place x ≡ k) → AreRising place (suc k) xs → AreRising place k (cons_option o xs)
rising_step place k None xs at' r = from_earlier place k (suc k) xs (omega arith) r
rising_step place k (Some x) xs at' r =
    let here : place x ≡ k = at' x refl in
    (omega arith, from_earlier place (suc (place x)) (suc k) xs (omega arith) r)

-- of each line the item at the line's place
pub rising_from : {T : Type 0} (place : T → ℕ) (f : Placed → Option T) → ((p : Placed) (x : T) → f p ≡ Some x → place x ≡ p.at) → (k : ℕ) (o : Stand) (c : Counts) (ls : List NumberedLine) → AreRising place k (filter_map f (placed_from k o c ls))
unfolding placed_from
rising_from place f at' k o c [] = tt
rising_from place f at' k o c (l ∷ ls) =
    let p = placed_line k o c l in
    let rest = filter_map f (placed_from (suc k) (opened_by o k l.form) (counted c l.form (length l.picks)) ls) in
    rising_step place k (f p) rest (at' p) (rising_from place f at' (suc k) (opened_by o k l.form) (counted c l.form (length l.picks)) ls)
