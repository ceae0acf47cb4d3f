-- The kind of an ending: in what two runs end alike. (own)
use Rattle.std.specs.Prelude.{if◌then◌else◌, ℕ, ◌-◌, Bool, List, [], ◌∷◌, ◌++◌, bytes_eq, codes, decimal, fold, length, Option, Some, position, slice_get, unwrap_or}
use Rattle.std.specs.List.{insert, list_any}
use Rattle.std.specs.Ordering.{is_gt, nat_cmp}
use Rattle.std.specs.Cmp.Lexicographic.{slice_cmp}
use Rattle.wdf_base.specs.declared.plan.Plan.{Plan}
use Rattle.wdf_base.specs.declared.event.Event.{Event}
use Rattle.wdf_base.specs.declared.event.Event.TheVariants as event
use Rattle.wdf_base.specs.declared.event.Ending.{Ending}
use Rattle.wdf_base.specs.declared.event.Ending.TheVariants as ending
use Rattle.wdf_base.specs.declared.wait.WaitLine.{WaitLine}
use Rattle.wdf_base.specs.Words.{fault_word}
use Rattle.wdf_kinds.specs.Forms.{wait_form}

-- ---- stuck runs

-- a form is one of these
unfoldable pub has_form : List (List ℕ) → List ℕ → Bool
has_form forms form = list_any (λ other. bytes_eq other form) forms

-- another form comes after this one, in the order of their bytes
abbrev pub is_after : List ℕ → List ℕ → Bool
is_after form other = is_gt (slice_cmp nat_cmp other form)

-- the place of a form: before the first that comes after it, or at the end
abbrev pub place_of : List (List ℕ) → List ℕ → ℕ
place_of forms form = unwrap_or (position (is_after form) forms) (length forms)

-- these forms with the form of a line at its place, unless it is one of them
abbrev pub with_form : Plan → List (List ℕ) → WaitLine → List (List ℕ)
with_form plan forms wait = if has_form forms (wait_form plan wait) then forms else insert forms (place_of forms (wait_form plan wait)) (wait_form plan wait)

-- The forms of the lines of a wait list, each once, in the order of their bytes. So they don't say which frame came first.
abbrev pub forms_of : Plan → List WaitLine → List (List ℕ)
forms_of plan waits = fold (with_form plan) [] waits

-- texts, each after a semicolon and a blank
abbrev pub more_forms : List (List ℕ) → List ℕ
more_forms [] = []
more_forms (form ∷ forms) = codes "; " ++ form ++ more_forms forms

-- texts after a colon, with a semicolon between each two
abbrev pub listed_forms : List (List ℕ) → List ℕ
listed_forms [] = []
listed_forms (form ∷ forms) = codes ": " ++ form ++ more_forms forms

-- ---- kinds

-- the line of the text that a fault names; 0 where an event is none
abbrev pub line_of_fault : Option Event → ℕ
line_of_fault (Some (event.Fault cpu x line)) = line
line_of_fault _ = 0

-- the line of the fault that is the last event of a run
abbrev pub fault_line : List Event → ℕ
fault_line run = line_of_fault (slice_get run (length run - 1))

-- The kind of an ending, with the line of its fault and its wait list: finished; at the limit; a fault, with its name and its
-- line; or stuck, with the forms of the wait list.
abbrev pub kind_text : Plan → Ending → ℕ → List WaitLine → List ℕ
kind_text plan ending.Running line waits = codes "running"
kind_text plan ending.Finished line waits = codes "finished"
kind_text plan ending.Limit line waits = codes "limit"
kind_text plan (ending.Fault f) line waits = codes "fault " ++ fault_word f ++ codes " at line " ++ decimal line
kind_text plan ending.Stuck line waits = codes "stuck" ++ listed_forms (forms_of plan waits)
