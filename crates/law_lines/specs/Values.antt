-- What the state keeps for scripts are values of the plan.
use Rattle.std.specs.Prelude.{ℕ, ◌^◌, ◌<◌, Option, Some, None, slice_index_or}
use Rattle.wdf_base.specs.declared.plan.Plan.{Plan}
use Rattle.wdf_base.specs.declared.value.Value.TheVariants.{Num}
use Rattle.wdf_base.specs.declared.frame.Frame.{Frame}
use Rattle.wdf_base.specs.declared.frame.Pending.{Pending}
use Rattle.wdf_base.specs.declared.object.RequestInfo.{RequestInfo}
use Rattle.wdf_model.specs.parts.Tree.{cell_of}
use Rattle.wdf_model.specs.parts.Cpus.{frame_of}
use Rattle.wdf_model.specs.parts.Requests.{info_of}
use Rattle.wdf_model.specs.State.{State}
use Rattle.wdf_trace.specs.Events.{IsCallOf, IsHandleOf, IsOptionalOf, IsValueOf}

-- a call that waits is one of the plan, with an answer of the plan
abbrev pub IsPendingOf : Plan → Option Pending → Type 0
IsPendingOf plan None = Unit {0}
IsPendingOf plan (Some p) = IsCallOf plan p.call × IsValueOf plan p.answer

-- the handles, the numbers and the variables of a frame, and the call in which it waits, are of the plan
pub record HasFrameValues (plan : Plan) (frame : Frame) : Type 0 where
  pub own : IsHandleOf plan frame.object
  pub nearest : IsHandleOf plan frame.device
  pub carried : IsOptionalOf plan frame.request
  pub size : frame.length < 2 ^ 64
  pub control : frame.code < 2 ^ 64
  pub variable : (v : ℕ) → IsValueOf plan (slice_index_or frame.variables v (Num 0))
  pub waits : IsPendingOf plan frame.pending

-- the length and the code of a request fit 64 bits
abbrev pub HasSmallNumbers : RequestInfo → Type 0
HasSmallNumbers info = (info.length < 2 ^ 64) × (info.code < 2 ^ 64)

-- frames, context cells and requests
pub record HasPlanValues {A : Type 0} (plan : Plan) (S : State A) : Type 0 where
  pub frames : (f : ℕ) → HasFrameValues plan (frame_of S.cpus f)
  pub cells : (o k : ℕ) → IsValueOf plan (cell_of S.tree o k)
  pub requests : (r : ℕ) → HasSmallNumbers (info_of S.requests r)
