-- What is written on the items of a viewer. (own)
use Rattle.std.specs.Prelude.{if◌then◌else◌, ℕ, nat_lt, ◌==◌, ◌-◌, List, [], ◌++◌, codes, Option, Some, None, slice_get}
use Rattle.wdf_base.specs.declared.plan.Plan.{Plan}
use Rattle.wdf_base.specs.declared.event.Event.{Event}
use Rattle.wdf_base.specs.Words.{callback_word, call_word, fault_word, stage_word}
use Rattle.wdf_lines.specs.Lines.{line_text, object_text, cpu_text}
use Rattle.wdf_spans.specs.Words.{standing_word, place_word}
use Rattle.wdf_perfetto.specs.declared.row.Group.{Group}
use Rattle.wdf_perfetto.specs.declared.row.Group.TheVariants as group
use Rattle.wdf_perfetto.specs.declared.row.Sort.{Sort}
use Rattle.wdf_perfetto.specs.declared.row.Sort.TheVariants as sort
use Rattle.wdf_perfetto.specs.declared.row.Title.{Title}
use Rattle.wdf_perfetto.specs.declared.row.Title.TheVariants as title

-- a byte as it is written: a question mark where it isn't ASCII
abbrev pub plain : ℕ → ℕ
plain b = if nat_lt b 128 then b else 63

-- the numbers of the groups: what viewers call a process
abbrev pub group_number : Group → ℕ
group_number group.Processors = 1
group_number group.Devices = 2
group_number group.Queues = 3
group_number group.Requests = 4

abbrev pub group_word : Group → List ℕ
group_word group.Processors = codes "processors"
group_word group.Devices = codes "devices"
group_word group.Queues = codes "queues"
group_word group.Requests = codes "requests"

abbrev pub sort_word : Sort → List ℕ
sort_word sort.Request = codes "request"
sort_word sort.Parked = codes "parked"

-- what is written on an item
abbrev pub title_text : Plan → Title → List ℕ
title_text plan (title.Cpu cpu) = cpu_text cpu
title_text plan (title.Object o) = object_text plan o
title_text plan (title.Callback callback o) = callback_word callback ++ (codes " " ++ object_text plan o)
title_text plan (title.Call kind) = call_word kind
title_text plan title.Waits = codes "waits"
title_text plan title.Cancel = codes "cancel"
title_text plan (title.Stage stage) = stage_word stage
title_text plan (title.Standing s) = standing_word s
title_text plan (title.Place place) = place_word place
title_text plan (title.Fault fault) = fault_word fault

-- the line of an event that may be there
abbrev pub line_of_event : Plan → ℕ → Option Event → List ℕ
line_of_event plan number None = []
line_of_event plan number (Some e) = line_text plan number e

-- the trace line of the event with this number, nothing where there is none
abbrev pub line_at : Plan → List Event → ℕ → List ℕ
line_at plan events number = if number == 0 then [] else line_of_event plan number (slice_get events (number - 1))
