-- What the checker finds, place by place. (own)
use Rattle.std.specs.Prelude.{◌≡◌, ◌<◌, ℕ, ◌+◌, true, false, List, length, Option, Some, None}
use Rattle.wdf_base.specs.declared.event.Event.{Event}
use Rattle.wdf_base.specs.declared.plan.Plan.{Plan}
use Rattle.law_idle.specs.First.{breaks_at}

-- none of the first k events breaks the law
abbrev pub NoneBefore : Plan → List Event → ℕ → Type 0
NoneBefore plan all k = (j : ℕ) → j < k → breaks_at plan all j ≡ false

-- the first event that breaks it has this place, counted from 1; or none breaks it
abbrev pub IsFirstBreak : Plan → List Event → Option ℕ → Type 0
IsFirstBreak plan all None = NoneBefore plan all (length all)
IsFirstBreak plan all (Some n) = (k : ℕ) × (n ≡ k + 1) × (k < length all) × (breaks_at plan all k ≡ true) × NoneBefore plan all k
