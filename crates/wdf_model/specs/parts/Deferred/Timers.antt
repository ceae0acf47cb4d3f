-- The queued timers. (KMDF)
use Rattle.std.specs.Prelude.{if◌then◌else◌, ℕ, ◌+◌, min, Bool, false, ◌==◌, nat_le, nat_lt, not, List, [], map, filter, find, Option, Some, None, is_some}
use Rattle.std.specs.List.{list_any}
use Rattle.wdf_model.specs.Tables.{least, in_order_by}
use Rattle.wdf_model.specs.declared.entries.Timed.{Timed}

-- the timers that are set; a periodic one stays here until it is stopped
pub record Timers : Type 0 where
  -- the queued timers, by rising id
  pub queued : List Timed

-- ---- readers

-- own: the most ticks from the start of a timer to its due tick; a greater number counts as this one
abbrev pub LONGEST : ℕ
LONGEST = 1000000

-- timer o with its due tick, None where it isn't set
abbrev pub timed_of : Timers → ℕ → Option Timed
timed_of T o = find (λ t. t.timer.0 == o) T.queued

-- whether timer o is set
abbrev pub is_timer_queued : Timers → ℕ → Bool
is_timer_queued T o = is_some (timed_of T o)

-- whether the due tick of a timer, if it is set, is now or earlier
abbrev pub is_reached : ℕ → Option Timed → Bool
is_reached now None = false
is_reached now (Some t) = nat_le t.tick now

-- whether timer o is set and its due tick is reached
abbrev pub timer_due : Timers → ℕ → ℕ → Bool
timer_due T o now = is_reached now (timed_of T o)

-- the least tick at which a timer is due, reached or not; None where none is set
abbrev pub next_timer : Timers → Option ℕ
next_timer T = least (map (λ t. t.tick) T.queued)

-- whether a timer is set for a tick later than now
abbrev pub any_later_timer : Timers → ℕ → Bool
any_later_timer T now = list_any (λ t. nat_lt now t.tick) T.queued

-- the timers that are set, but for timer o
abbrev pub without_timer : ℕ → List Timed → List Timed
without_timer o ts = filter (λ t. not (t.timer.0 == o)) ts

-- timer o is due this many ticks from now, at most 1,000,000; one that was set before gets the new tick (KMDF, the
-- limit own)
abbrev pub start : Timers → ℕ → ℕ → ℕ → Timers
start T o now ticks = record { queued = in_order_by (λ (t : Timed). t.timer.0) (record { timer = record { 0 = o }; tick = now + min ticks LONGEST }) (without_timer o T.queued) }

-- timer o is no longer set; nothing changes where it wasn't
abbrev pub stop : Timers → ℕ → Timers
stop T o = record { queued = without_timer o T.queued }

-- timer o is due its period of ticks later than it was, which may be past; the other timers stay as they are
abbrev pub later_by : ℕ → ℕ → Timed → Timed
later_by o period t = if t.timer.0 == o then record t { tick = t.tick + period } else t

-- EvtTimerFunc of timer o starts: with period 0 it is no longer set; a periodic one's due tick grows by its period
abbrev pub fired : Timers → ℕ → ℕ → Timers
fired T o period = if period == 0 then stop T o else record { queued = map (later_by o period) T.queued }

-- ---- the opening

-- at the opening no timer is set
abbrev pub no_timers : Timers
no_timers = record { queued = [] }
