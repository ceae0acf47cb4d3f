-- What is drawn is of its form. (own)
use Rattle.std.specs.Prelude.{ℕ, ◌≡◌, List, Some, string_bytes}
use Rattle.serde_json.specs.Data.{Data}
use Rattle.serde_json.specs.Read.{read}
use Rattle.wdf_view.specs.declared.drawn.Drawn.{Drawn}
use Rattle.wdf_view.specs.declared.drawn.Drawn.TheVariants.{Html, Json}
use Rattle.wdf_view.specs.declared.words.Form.{Form}
use Rattle.wdf_view.specs.declared.words.Form.TheVariants as form

-- the bytes of what is drawn
abbrev pub drawn_bytes : Drawn → List ℕ
drawn_bytes (Html page) = page
drawn_bytes (Json text) = string_bytes text

-- what is drawn for a viewer of traces is JSON; of a page nothing is said here
abbrev pub IsFormed : Form → List ℕ → Type 0
IsFormed form.Html text = Unit {0}
IsFormed form.Perfetto text = (d : Data) × (read text ≡ Some d)
