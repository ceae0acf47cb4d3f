-- The due ticks of queued timers.
use Rattle.std.specs.Prelude.{ℕ, min, List, [], ◌∷◌, Option, Some, None}
use Rattle.wdf_model.specs.declared.entries.Timed.{Timed}

abbrev pub timer_id : Timed → ℕ
timer_id t = t.timer.0

-- the earlier of two ticks, as far as they are there
abbrev pub earlier : Option ℕ → Option ℕ → Option ℕ
earlier None other = other
earlier (Some tick) None = Some tick
earlier (Some tick) (Some other) = Some (min tick other)

-- the least due tick, where there is one
abbrev pub earliest_of : List Timed → Option ℕ
earliest_of [] = None
earliest_of (t ∷ ts) = earlier (Some t.tick) (earliest_of ts)
