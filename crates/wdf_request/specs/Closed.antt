-- Which requests of a queue are closed.
use Rattle.std.specs.Prelude.{Bool}
use Rattle.wdf_base.specs.declared.object.Place.{Place}
use Rattle.wdf_base.specs.Places.{is_returning_to}
use Rattle.wdf_model.specs.parts.Requests.{is_in}
use Rattle.wdf_request.specs.declared.requests.closing.ClosedPart.{ClosedPart}
use Rattle.wdf_request.specs.declared.requests.closing.ClosedPart.TheVariants as part

-- the places of these requests
abbrev pub is_part : ClosedPart → Place → Bool
is_part (part.Returning q) = is_returning_to q.0
is_part (part.Whole q) = is_in q.0
