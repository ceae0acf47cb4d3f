-- What `kmdfview` answers and what it writes. (own)
use Rattle.std.specs.Prelude.{ℕ, ◌≡◌, ◌⊎◌, List, codes, Option, None, Some}
use Rattle.wdf_output.specs.Said.{Sinking, Says}
use Rattle.wdf_view.specs.declared.bad.Bad.{Bad}
use Rattle.wdf_view.specs.declared.words.Form.{Form}
use Rattle.wdf_view.specs.Formed.{IsFormed}
use Rattle.wdf_view.specs.Causes.{Sourcing, IsUnread, IsShownFrom, IsCause, bad_line, bad_status}

abbrev pub usage_line : List ℕ
usage_line = codes "usage: kmdfview html | perfetto\n"

-- a picture of the whole input in this form, with the status 0: its trace is the text of a run of its scenario's plan that
-- has ended
abbrev pub IsPicture : Form → Sourcing → List ℕ → ℕ → Type 0
IsPicture form s text status = IsShownFrom s × IsFormed form text × (status ≡ 0)

-- why there is none, in a line
abbrev pub IsRefusal : Sourcing → List ℕ → ℕ → Type 0
IsRefusal s text status = (bad : Bad) × IsCause s bad × (text ≡ bad_line bad) × (status ≡ bad_status bad)

-- what is to be written for a form of words, with its status
abbrev pub IsDue : Option Form → Sourcing → List ℕ → ℕ → Type 0
IsDue None s text status = IsUnread s × (text ≡ usage_line) × (status ≡ 2)
IsDue (Some form) s text status = IsPicture form s text status ⊎ IsRefusal s text status

-- What is answered and what is written: the text that is due, with its status, or a front of it.
abbrev pub Tells : Option Form → Sourcing → Sinking → ℕ → Type 0
Tells form s k answer = (text : List ℕ) × (status : ℕ) × IsDue form s text status × Says k text status answer
