-- What is said of the mark between a scenario and a trace. (own)
use Rattle.std.specs.Prelude.{◌≡◌, ℕ, Bool, not, List, ◌++◌, codes}
use Rattle.std.specs.List.{list_all}
use Rattle.wdf_run_text.specs.Lines.{trace_lines}
use Rattle.wdf_split.specs.Inputs.{is_mark, scenario_in, trace_in}

-- no line of the text is the line `trace`
abbrev pub has_no_mark : List ℕ → Bool
has_no_mark text = list_all (λ line. not (is_mark line)) (trace_lines text)

-- the text's last byte is a line feed
abbrev pub EndsInFeed : List ℕ → Type 0
EndsInFeed text = (front : List ℕ) × (text ≡ front ++ codes "\n")

-- a scenario, the line `trace` and a trace, one after the other
abbrev pub put_together : List ℕ → List ℕ → List ℕ
put_together scenario trace = scenario ++ (codes "trace\n" ++ trace)

-- What is put together so is taken apart again: it has this scenario and this trace.
abbrev pub IsParted : List ℕ → List ℕ → Type 0
IsParted scenario trace = (scenario_in (put_together scenario trace) ≡ scenario) × (trace_in (put_together scenario trace) ≡ trace)
