-- The first law that is broken, and where.
use Rattle.std.specs.Prelude.{if◌then◌else◌, ◌≡◌, ◌<◌, ℕ, ◌+◌, List, length, take, slice_get, Option, Some, None}
use Rattle.wdf_base.specs.declared.plan.Plan.{Plan}
use Rattle.wdf_base.specs.declared.event.Event.{Event}
use Rattle.wdf_laws.specs.Frames.{Frames, frames_after}
use Rattle.wdf_laws.specs.Laws.{law_1, law_2, law_3, law_4, law_5, law_6, law_7, law_8, law_9}

-- the least number of a law that an event breaks after those before it
abbrev pub broken_by : Plan → List Event → List Event → Frames → Event → Option ℕ
broken_by plan all before F e =
    if law_1 before e then
    (if law_2 plan all F e then
    (if law_3 plan all before e then
    (if law_4 plan before F e then
    (if law_5 plan before e then
    (if law_6 plan before e then
    (if law_7 before e then
    (if law_8 before e then
    (if law_9 plan all before e then None else Some 9)
    else Some 8)
    else Some 7)
    else Some 6)
    else Some 5)
    else Some 4)
    else Some 3)
    else Some 2)
    else Some 1

abbrev pub broken_in : Plan → List Event → ℕ → Option Event → Option ℕ
broken_in plan all k None = None
broken_in plan all k (Some e) = broken_by plan all (take k all) (frames_after (take k all)) e

-- the same of the event that k events come before
abbrev pub broken_at : Plan → List Event → ℕ → Option ℕ
broken_at plan all k = broken_in plan all k (slice_get all k)

-- no law is broken at a place before k
abbrev pub Kept : Plan → List Event → ℕ → Type 0
Kept plan all k = (j : ℕ) → j < k → broken_at plan all j ≡ None

-- the first broken law is this one, at this place, counted from 1; or no law is broken
abbrev pub IsFirstBroken : Plan → List Event → Option (ℕ × ℕ) → Type 0
IsFirstBroken plan all None = Kept plan all (length all)
IsFirstBroken plan all (Some x) = (k : ℕ) × (x.1 ≡ k + 1) × (k < length all) × (broken_at plan all k ≡ Some x.0) × Kept plan all k
