-- The lines of a wait list, each with the line that its cause names; and the circle that these make. (own)
use Rattle.std.specs.Prelude.{ℕ, zero, suc, ◌+◌, ◌-◌, ◌==◌, Bool, false, List, [], ◌++◌, codes, decimal, find, length, map, Option, Some, None, is_some, position, slice_index_or}
use Rattle.std.specs.List.{range_with_len}
use Rattle.std.specs.Option.{option_and_then}
use Rattle.wdf_base.specs.declared.wait.OpenThing.{OpenThing}
use Rattle.wdf_base.specs.declared.wait.OpenThing.TheVariants as thing
use Rattle.wdf_base.specs.declared.wait.Cause.{Cause}
use Rattle.wdf_base.specs.declared.wait.Cause.TheVariants as cause
use Rattle.wdf_base.specs.declared.wait.WaitLine.{WaitLine}

-- ---- what a cause names

-- the line is of this frame
abbrev pub is_of_frame : ℕ → OpenThing → Bool
is_of_frame f (thing.Waiting g c o) = g.0 == f
is_of_frame f _ = false

-- the line is of this request
abbrev pub is_of_request : ℕ → OpenThing → Bool
is_of_request r (thing.Owned x) = x.id.0 == r
is_of_request r (thing.Sent x t) = x.id.0 == r
is_of_request r (thing.Queued x q) = x.id.0 == r
is_of_request r (thing.Returning x q) = x.id.0 == r
is_of_request r _ = false

-- the line is of this deferred work
abbrev pub is_of_work : ℕ → OpenThing → Bool
is_of_work w (thing.Deferred o) = o.id.0 == w
is_of_work w _ = false

-- the line is of this object, whose deletion was asked
abbrev pub is_of_object : ℕ → OpenThing → Bool
is_of_object x (thing.Leaving o) = o.id.0 == x
is_of_object x _ = false

-- A cause names what is open: a row for each cause that names something.
abbrev pub names : Cause → OpenThing → Bool
names (cause.ByFrame f) t = is_of_frame f.0 t
names (cause.ByLock l f) t = is_of_frame f.0 t
names (cause.ByRequest r) t = is_of_request r.id.0 t
names (cause.Behind r) t = is_of_request r.id.0 t
names (cause.ByWork w) t = is_of_work w.id.0 t
names (cause.ByChild c) t = is_of_object c.id.0 t
names _ t = false

-- the number of a line, from its place
abbrev pub number_of : Option ℕ → Option ℕ
number_of None = None
number_of (Some k) = Some (k + 1)

-- the number of the line that a cause names, counted from 1
abbrev pub next_by : List WaitLine → Option Cause → Option ℕ
next_by waits None = None
next_by waits (Some c) = number_of (position (λ w. names c w.thing) waits)

-- the number of the line that a line waits for
abbrev pub next_of : List WaitLine → WaitLine → Option ℕ
next_of waits w = next_by waits w.cause

-- For each line of a wait list the line that it waits for, if its cause names one.
abbrev pub nexts_of : List WaitLine → List (Option ℕ)
nexts_of waits = map (next_of waits) waits

-- ---- circles

-- the line that the line with this number waits for
abbrev pub next_at : List (Option ℕ) → ℕ → Option ℕ
next_at nexts i = slice_index_or nexts (i - 1) None

-- the line at which one comes from a line after so many steps; none where a line before it waits for none
abbrev pub follow : List (Option ℕ) → ℕ → ℕ → Option ℕ
follow nexts zero i = Some i
follow nexts (suc n) i = option_and_then (follow nexts n) (next_at nexts i)

-- the line at which one comes from the line at a place after more steps than there are lines
abbrev pub far_from : List (Option ℕ) → ℕ → Option ℕ
far_from nexts k = option_and_then (follow nexts (length nexts)) (slice_index_or nexts k None)

-- one can go on from the line at a place for so long, and so goes round
abbrev pub goes_round : List (Option ℕ) → ℕ → Bool
goes_round nexts k = is_some (far_from nexts k)

-- a line of the circle at which one comes from the first line from which one goes round
abbrev pub entry : List (Option ℕ) → Option ℕ
entry nexts = option_and_then (far_from nexts) (find (goes_round nexts) (range_with_len 0 (length nexts)))

abbrev pub is_line : ℕ → Option ℕ → Bool
is_line c None = false
is_line c (Some i) = i == c

-- from the line after a line one is back at it in so many steps
abbrev pub is_back : List (Option ℕ) → ℕ → ℕ → Bool
is_back nexts c n = is_line c (follow nexts (suc n) c)

-- in how many steps
abbrev pub steps_back : List (Option ℕ) → ℕ → Option ℕ
steps_back nexts c = find (is_back nexts c) (range_with_len 0 (length nexts))

-- ---- what is written of a circle

-- a line after a comma, and those after it; nothing where there is none
abbrev pub by_next : (ℕ → List ℕ) → Option ℕ → List ℕ
by_next rest None = []
by_next rest (Some j) = codes ", " ++ decimal j ++ rest j

-- the lines after a line, so many steps on, each after a comma
abbrev pub steps_text : List (Option ℕ) → ℕ → ℕ → List ℕ
steps_text nexts zero i = []
steps_text nexts (suc n) i = by_next (steps_text nexts n) (next_at nexts i)

-- the lines of a circle, from one of them on until that comes again
abbrev pub round_text : List (Option ℕ) → ℕ → Option ℕ → List ℕ
round_text nexts c None = []
round_text nexts c (Some n) = codes "These lines wait in a circle: " ++ decimal c ++ steps_text nexts (suc n) c ++ codes ".\n"

abbrev pub circle_from : List (Option ℕ) → Option ℕ → List ℕ
circle_from nexts None = []
circle_from nexts (Some c) = round_text nexts c (steps_back nexts c)

-- The circle among the lines of a wait list, each waiting for the next; nothing where there is none.
abbrev pub circle_text : List WaitLine → List ℕ
circle_text waits = circle_from (nexts_of waits) (entry (nexts_of waits))
