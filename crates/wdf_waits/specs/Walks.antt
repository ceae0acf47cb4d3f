-- The wait list from a place on.
use Rattle.std.specs.Prelude.{ℕ, List, [], ◌∷◌, ◌++◌, drop, length}
use Rattle.std.specs.List.{flat_map}
use Rattle.wdf_base.specs.Meaning.{Meaning}
use Rattle.wdf_base.specs.declared.plan.Plan.{Plan}
use Rattle.wdf_base.specs.declared.wait.WaitLine.{WaitLine}
use Rattle.wdf_model.specs.State.{State}
use Rattle.wdf_waits.specs.Lines.{lines_below, section_lines}
use Rattle.wdf_waits.specs.declared.section.Section.{Section}
use Rattle.wdf_waits.specs.declared.section.Section.TheVariants as section
use Rattle.wdf_waits.specs.declared.walk.WaitPlace.{WaitPlace}

-- the sections after one
abbrev pub sections_after : Section → List Section
sections_after section.Frames = section.Requests ∷ section.Devices ∷ section.Objects ∷ section.Work ∷ section.Asking ∷ []
sections_after section.Requests = section.Devices ∷ section.Objects ∷ section.Work ∷ section.Asking ∷ []
sections_after section.Devices = section.Objects ∷ section.Work ∷ section.Asking ∷ []
sections_after section.Objects = section.Work ∷ section.Asking ∷ []
sections_after section.Work = section.Asking ∷ []
sections_after section.Asking = []

-- the lines of a section but for those of the ids before one
unfoldable pub rest_in : {A : Type 0} → Plan → Meaning A → State A → Section → ℕ → List WaitLine
rest_in plan m S s id = drop (length (lines_below plan m S s id)) (section_lines plan m S s)

-- the place of the first line
abbrev pub front : WaitPlace
front = record { section = section.Frames; id = 0 }

-- the lines from a place on: what is left of its section, and the sections after it
abbrev pub lines_at : {A : Type 0} → Plan → Meaning A → State A → WaitPlace → List WaitLine
lines_at plan m S p = rest_in plan m S p.section p.id ++ flat_map (section_lines plan m S) (sections_after p.section)
