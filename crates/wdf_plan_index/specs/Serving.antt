-- The queues that take what arrives at a device, by the type of requests.
use Rattle.std.specs.Prelude.{ℕ, List, map, Option}
use Rattle.wdf_base.specs.declared.object.RequestForm.{RequestForm}
use Rattle.wdf_base.specs.declared.object.RequestForm.TheVariants as form
use Rattle.wdf_base.specs.declared.plan.Plan.{Plan}
use Rattle.wdf_model.specs.Plans.{queue_for}
use Rattle.wdf_plan_index.specs.declared.serving.Serving.{Serving}

-- that for a type of requests
abbrev pub of : Serving → RequestForm → Option ℕ
of s form.Read = s.read
of s form.Write = s.write
of s form.Control = s.control

-- those of the device with an id
abbrev pub serving_at : Plan → ℕ → Serving
serving_at plan device = record { read = queue_for plan device form.Read; write = queue_for plan device form.Write; control = queue_for plan device form.Control }

-- those of each of these devices
abbrev pub serving_of : Plan → List ℕ → List Serving
serving_of plan devices = map (serving_at plan) devices
