-- What the fields of the timers say, and which queued timers are due.
use Rattle.std.specs.Prelude.{ℕ, ◌≡◌, ◌-◌, ◌≤◌, Bool, false, List, map, filter, slice_get, Some}
use Rattle.std.specs.List.{range_with_len}
use Rattle.wdf_model.specs.declared.room.TheConstants.{OBJECTS}
use Rattle.wdf_model.specs.declared.entries.Timed.{Timed}
use Rattle.wdf_model.specs.Tables.{entry}
use Rattle.wdf_model.specs.parts.Deferred.Timers.{Timers, is_reached, is_timer_queued, timed_of, timer_due}
use Rattle.wdf_sets.specs.Members.{members}
use Rattle.wdf_defer.specs.Reached.{AreReached, HaveRoom, IsLeast}
use Rattle.wdf_defer.specs.Ticks.{timer_id}
use Rattle.wdf_defer.specs.declared.timers.Timers.TheInside.{Inside}

-- a timer with its due tick
abbrev pub timed_at : List ℕ → ℕ → Timed
timed_at ticks o = record { timer = record { 0 = o }; tick = entry 0 ticks o }

abbrev pub timers_in : Inside → Timers
timers_in t = record { queued = map (timed_at t.ticks) (members t.queued) }

-- the due tick of the queued timer at a place, by rising id, is reached
abbrev pub is_due_at : Timers → ℕ → ℕ → Bool
is_due_at T now place = is_reached now (slice_get T.queued place)

-- the due timers from an id on, by rising id
unfoldable pub due_from : Timers → ℕ → ℕ → List ℕ
due_from T now id = filter (λ o. timer_due T o now) (range_with_len id (OBJECTS - id))

-- all due timers
abbrev pub due_ids : Timers → ℕ → List ℕ
due_ids T now = due_from T now 0

-- Each queued timer is found by its id.
pub record AreApart (T : Timers) : Type 0 where
  pub found : (place : ℕ) (t : Timed) → slice_get T.queued place ≡ Some t → timed_of T t.timer.0 ≡ Some t

-- The queued timers are those of all ids that are queued, by rising id, where none from an end on is; and so are the due ones.
pub record AreTimersInOrder (T : Timers) : Type 0 where
  pub rising : (end : ℕ) → ((o : ℕ) → end ≤ o → is_timer_queued T o ≡ false) → map timer_id T.queued ≡ filter (is_timer_queued T) (range_with_len 0 end)
  pub due : (now end : ℕ) → ((o : ℕ) → end ≤ o → timer_due T o now ≡ false) → due_ids T now ≡ filter (λ o. timer_due T o now) (range_with_len 0 end)

-- Each queued timer is an object, and the reached ones are kept, with floors for the others.
pub record IsSound (t : Inside) : Type 0 where
  pub room : HaveRoom t.queued t.reached
  pub reached : AreReached t.queued t.ticks t.reached t.floors (λ o. t.seen)
  pub least : IsLeast t.queued t.ticks OBJECTS t.seen t.least
