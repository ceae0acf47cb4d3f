-- The starts of callbacks among the events of a run. (own)
use Rattle.std.specs.Prelude.{ℕ, ◌+◌, List, [], ◌∷◌, ◌++◌, Option, Some, None, option_to_list}
use Rattle.wdf_base.specs.declared.event.Event.{Event}
use Rattle.wdf_base.specs.declared.event.Event.TheVariants as event
use Rattle.wdf_spans.specs.declared.begun.Begun.{Begun}

-- what an event with this number says of a start, if it is one
abbrev pub begun_by : ℕ → Event → Option Begun
begun_by n (event.Start cpu callback object request) =
    Some (record { number = n; cpu = cpu; callback = callback; object = object; request = request })
begun_by n _ = None

-- the starts among events whose numbers begin here, in their order
abbrev pub starts_from : ℕ → List Event → List Begun
starts_from n [] = []
starts_from n (e ∷ es) = option_to_list (begun_by n e) ++ starts_from (n + 1) es
