-- The first event of a list that breaks the law on idle runs. (own)
use Rattle.std.specs.Prelude.{ℕ, suc, Bool, false, not, List, length, take, Option, Some, None, option_map, slice_get, position}
use Rattle.std.specs.List.{range_with_len}
use Rattle.wdf_base.specs.declared.event.Event.{Event}
use Rattle.wdf_base.specs.declared.plan.Plan.{Plan}
use Rattle.law_idle.specs.Law.{keeps_idle_law}

-- own: an event breaks the law after these
abbrev pub breaks_law : Plan → List Event → Option Event → Bool
breaks_law plan before None = false
breaks_law plan before (Some e) = not (keeps_idle_law plan before e)

-- own: so the event of a list that k events come before
abbrev pub breaks_at : Plan → List Event → ℕ → Bool
breaks_at plan events k = breaks_law plan (take k events) (slice_get events k)

-- own: the place of the first event that breaks it, counted from 1, if there is one
abbrev pub first_break : Plan → List Event → Option ℕ
first_break plan events = option_map suc (position (breaks_at plan events) (range_with_len 0 (length events)))
