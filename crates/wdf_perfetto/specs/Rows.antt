-- What a viewer is told, as JSON in Chrome's trace-event format. (own)
use Rattle.std.specs.Prelude.{ℕ, ◌-◌, List, codes, map}
use Rattle.wdf_base.specs.declared.plan.Plan.{Plan}
use Rattle.wdf_base.specs.declared.event.Event.{Event}
use Rattle.serde_json.specs.Data.{Data, number, unsigned, string, array, object, member, no_members}
use Rattle.serde_json.specs.View.{items_of}
use Rattle.wdf_perfetto.specs.declared.row.Group.TheVariants.{Processors, Queues, Requests}
use Rattle.wdf_perfetto.specs.declared.row.Row.{Row}
use Rattle.wdf_perfetto.specs.declared.row.Row.TheVariants as row
use Rattle.wdf_perfetto.specs.declared.row.Title.{Title}
use Rattle.wdf_perfetto.specs.declared.row.Title.TheVariants as title
use Rattle.wdf_perfetto.specs.Titles.{plain, group_number, group_word, sort_word, title_text, line_at}

-- a number of JSON
abbrev pub count : ℕ → Data
count n = number (unsigned n)

-- the arguments that show a line of the trace
abbrev pub line_data : List ℕ → Data
line_data line = object (member (codes "line") (string line) no_members)

-- the name of a group
abbrev pub names_data : List ℕ → ℕ → Data
names_data name pid =
    object (member (codes "args") (object (member (codes "name") (string name) no_members))
    (member (codes "name") (string (codes "process_name"))
    (member (codes "ph") (string (codes "M"))
    (member (codes "pid") (count pid) no_members))))

-- the name of a track
abbrev pub name_data : List ℕ → ℕ → ℕ → Data
name_data name pid tid =
    object (member (codes "args") (object (member (codes "name") (string name) no_members))
    (member (codes "name") (string (codes "thread_name"))
    (member (codes "ph") (string (codes "M"))
    (member (codes "pid") (count pid)
    (member (codes "tid") (count tid) no_members)))))

-- a slice of a track
abbrev pub slice_data : List ℕ → List ℕ → ℕ → ℕ → ℕ → ℕ → Data
slice_data name line pid tid from length =
    object (member (codes "args") (line_data line)
    (member (codes "dur") (count length)
    (member (codes "name") (string name)
    (member (codes "ph") (string (codes "X"))
    (member (codes "pid") (count pid)
    (member (codes "tid") (count tid)
    (member (codes "ts") (count from) no_members)))))))

-- the begin, the end or a moment of a span beside the tracks, by the letter of its phase
abbrev pub span_data : List ℕ → List ℕ → List ℕ → List ℕ → ℕ → ℕ → ℕ → Data
span_data letter name line sort key pid at =
    object (member (codes "args") (line_data line)
    (member (codes "cat") (string sort)
    (member (codes "id") (count key)
    (member (codes "name") (string name)
    (member (codes "ph") (string letter)
    (member (codes "pid") (count pid)
    (member (codes "tid") (count 0)
    (member (codes "ts") (count at) no_members))))))))

-- a moment on a track
abbrev pub mark_data : List ℕ → List ℕ → ℕ → ℕ → ℕ → Data
mark_data name line pid tid at =
    object (member (codes "args") (line_data line)
    (member (codes "name") (string name)
    (member (codes "ph") (string (codes "i"))
    (member (codes "pid") (count pid)
    (member (codes "s") (string (codes "t"))
    (member (codes "tid") (count tid)
    (member (codes "ts") (count at) no_members)))))))

-- a counter with these arguments
abbrev pub counter_data : List ℕ → Data → ℕ → ℕ → Data
counter_data name arguments pid at =
    object (member (codes "args") arguments
    (member (codes "name") (string name)
    (member (codes "ph") (string (codes "C"))
    (member (codes "pid") (count pid)
    (member (codes "ts") (count at) no_members)))))

-- the counts of a queue
abbrev pub counts_data : List ℕ → ℕ → ℕ → ℕ → ℕ → Data
counts_data name waiting held pid at =
    counter_data name (object (member (codes "held") (count held) (member (codes "waiting") (count waiting) no_members))) pid at

-- the time of the clock
abbrev pub clock_data : ℕ → ℕ → ℕ → Data
clock_data time pid at = counter_data (codes "clock") (object (member (codes "tick") (count time) no_members)) pid at

-- a title as it is written
abbrev pub written : Plan → Title → List ℕ
written plan t = map plain (title_text plan t)

-- the line of an event as it is written
abbrev pub line_written : Plan → List Event → ℕ → List ℕ
line_written plan events n = map plain (line_at plan events n)

-- what the viewer is told by a row
abbrev pub row_data : Plan → List Event → Row → Data
row_data plan events (row.Names g) = names_data (group_word g) (group_number g)
row_data plan events (row.Name track t) = name_data (written plan t) (group_number track.group) track.number
row_data plan events (row.Slice track t from to n) =
    slice_data (written plan t) (line_written plan events n) (group_number track.group) track.number from (to - from)
row_data plan events (row.Begin sort key t at n) =
    span_data (codes "b") (written plan t) (line_written plan events n) (sort_word sort) key (group_number Requests) at
row_data plan events (row.Finish sort key t at) =
    span_data (codes "e") (written plan t) (line_written plan events 0) (sort_word sort) key (group_number Requests) at
row_data plan events (row.Moment sort key t at n) =
    span_data (codes "n") (written plan t) (line_written plan events n) (sort_word sort) key (group_number Requests) at
row_data plan events (row.Mark track t at n) =
    mark_data (written plan t) (line_written plan events n) (group_number track.group) track.number at
row_data plan events (row.Counts queue waiting held at) =
    counts_data (written plan (title.Object queue)) waiting held (group_number Queues) at
row_data plan events (row.Clock time at) = clock_data time (group_number Processors) at

-- what the viewer is told by all rows
abbrev pub document_data : Plan → List Event → List Row → Data
document_data plan events rows =
    object (member (codes "traceEvents") (array (items_of (map (row_data plan events) rows))) no_members)
