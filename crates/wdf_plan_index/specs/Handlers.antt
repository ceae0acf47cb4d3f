-- The handlers of what is declared, by the type of requests.
use Rattle.std.specs.Prelude.{ℕ, List, map, Option}
use Rattle.wdf_base.specs.declared.call.Callback.{Callback}
use Rattle.wdf_base.specs.declared.object.RequestForm.{RequestForm}
use Rattle.wdf_base.specs.declared.object.RequestForm.TheVariants as form
use Rattle.wdf_base.specs.declared.plan.Plan.{Plan}
use Rattle.wdf_model.specs.Plans.{declared_ids, handler_for}
use Rattle.wdf_plan_index.specs.declared.handlers.Handlers.{Handlers}

-- that for a type of requests
abbrev pub of : Handlers → RequestForm → Option Callback
of h form.Read = h.read
of h form.Write = h.write
of h form.Control = h.control

-- those of the object with an id
abbrev pub handlers_at : Plan → ℕ → Handlers
handlers_at plan q = record { read = handler_for plan q form.Read; write = handler_for plan q form.Write; control = handler_for plan q form.Control }

-- those of all ids, the id 0 among them
abbrev pub handlers_of : Plan → List Handlers
handlers_of plan = map (handlers_at plan) (declared_ids plan)
