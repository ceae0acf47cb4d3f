-- Words over a list of events: each a fold, from the first event to the last.
use Rattle.std.specs.Prelude.{if◌then◌else◌, ℕ, Bool, false, not, ◌&&◌, ◌||◌, List, count_by, fold}
use Rattle.wdf_base.specs.declared.event.Event.{Event}
use Rattle.wdf_laws.specs.declared.sign.Sign.{Sign}
use Rattle.wdf_laws.specs.declared.sign.Moment.{Moment}
use Rattle.wdf_laws.specs.Signs.{shows}

-- an event with the sign came
abbrev pub came_step : Sign → Bool → Event → Bool
came_step p came e = came || shows p e

unfoldable pub ever : Sign → List Event → Bool
ever p events = fold (came_step p) false events

-- how many events with the sign came

unfoldable pub times : Sign → List Event → ℕ
times p events = count_by (shows p) events

-- an event with the first sign came, and none with the second came after the last of them
abbrev pub stands_step : Sign → Sign → Bool → Event → Bool
stands_step p q stands e = shows p e || (stands && not (shows q e))

unfoldable pub stands : Sign → Sign → List Event → Bool
stands p q events = fold (stands_step p q) false events

-- an event with the first sign came, and one with the second came after the last of them
abbrev pub followed : Sign → Sign → List Event → Bool
followed p q events = ever p events && not (stands p q events)

abbrev pub moment_step : Sign → Sign → Sign → Moment → Event → Moment
moment_step p a b m e = record { current = stands_step a b m.current e; at = if shows p e then m.current else m.at }

-- at the last event with the first sign, the second stood without the third
unfoldable pub stood_at : Sign → Sign → Sign → List Event → Bool
stood_at p a b events = (fold (moment_step p a b) (record { current = false; at = false }) events).at
