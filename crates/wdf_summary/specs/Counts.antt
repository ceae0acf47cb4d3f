-- What is counted of a run, and the text of the counts. (own)
use Rattle.std.specs.Prelude.{ℕ, Bool, List, ◌++◌, length, codes, decimal}
use Rattle.std.specs.List.{count_by}
use Rattle.wdf_base.specs.declared.event.Event.{Event}
use Rattle.wdf_base.specs.declared.event.Ending.{Ending}
use Rattle.wdf_laws.specs.Events.{arrived, completed, is_there}
use Rattle.wdf_lines.specs.Endings.{ending_word}

-- the event brings a request: a post of a read, a write or a control that was answered with one
abbrev pub is_arrival : Event → Bool
is_arrival e = is_there (arrived e)

-- the event completes a request: the driver's call, or the framework
abbrev pub is_completion : Event → Bool
is_completion e = is_there (completed e)

-- how many requests arrived in a run
abbrev pub arrivals : List Event → ℕ
arrivals run = count_by is_arrival run

-- how many completions a run has
abbrev pub completions : List Event → ℕ
completions run = count_by is_completion run

-- The summary of a run that ended so: four lines.
abbrev pub summary_text : List Event → Ending → List ℕ
summary_text run e =
    codes "events " ++ decimal (length run) ++ codes "\nrequests " ++ decimal (arrivals run) ++ codes "\ncompleted " ++ decimal (completions run)
    ++ codes "\n" ++ ending_word e ++ codes "\n"
