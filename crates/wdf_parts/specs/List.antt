-- A few deeds in order, in a buffer.
use Rattle.std.specs.Prelude.{List, [], ◌∷◌, ◌++◌, Option, Some, None}
use Rattle.std.specs.Option.{option_to_list}
use Rattle.wdf_model.specs.declared.deed.Deed.{Deed}
use Rattle.wdf_model.specs.declared.deed.Deed.TheVariants.{Lower}
use Rattle.wdf_parts.specs.declared.list.Lowered.{Lowered}
use Rattle.wdf_parts.specs.declared.list.Deeds.TheInside.{Inside}

-- what a frame holds less, if one does
abbrev pub lowers : Option Lowered → List Deed
lowers None = []
lowers (Some l) = Lower l.frame l.level ∷ []

abbrev pub deeds_in : Inside → List Deed
deeds_in l = option_to_list l.first ++ lowers l.lowered
