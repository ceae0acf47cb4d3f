-- The lines of the wait list by sections: frames, requests, devices, objects, deferred work, and the Plug
-- and Play manager; and in each by ids.
use Rattle.std.specs.Prelude.{if◌then◌else◌, ℕ, Bool, true, false, is_some, nat_lt, not, ◌&&◌, ◌||◌, List, length, map, Option, Some, None}
use Rattle.std.specs.List.{filter_map, range_with_len}
use Rattle.wdf_base.specs.Meaning.{Meaning}
use Rattle.wdf_base.specs.declared.plan.Plan.{Plan}
use Rattle.wdf_base.specs.declared.object.Place.{Place}
use Rattle.wdf_base.specs.declared.object.Place.TheVariants as place
use Rattle.wdf_base.specs.declared.call.Callback.TheVariants as callback
use Rattle.wdf_base.specs.declared.event.Post.{Post}
use Rattle.wdf_base.specs.declared.event.Post.TheVariants as post
use Rattle.wdf_base.specs.declared.event.Step.{Step}
use Rattle.wdf_base.specs.declared.wait.Cause.{Cause}
use Rattle.wdf_base.specs.declared.wait.OpenThing.TheVariants as thing
use Rattle.wdf_base.specs.declared.wait.WaitLine.{WaitLine}
use Rattle.wdf_model.specs.declared.entries.Request.{Request}
use Rattle.wdf_model.specs.Tables.{contains}
use Rattle.wdf_model.specs.Plans.{device_of}
use Rattle.wdf_model.specs.parts.Tree.{started}
use Rattle.wdf_model.specs.parts.Cpus.{all_frames}
use Rattle.wdf_model.specs.parts.Requests.{place_of, request_of}
use Rattle.wdf_model.specs.parts.Pnp.{busy, steps_left}
use Rattle.wdf_model.specs.parts.Targets.{routine_due}
use Rattle.wdf_model.specs.State.{State, declares_in, handle_in}
use Rattle.wdf_model.specs.rules.Starts.{clean_ready, destroy_ready}
use Rattle.wdf_model.specs.rules.Posts.{due_of}
use Rattle.wdf_model.specs.rules.Ready.{is_leaving, is_open_request, is_open_work, open_devices, open_objects, open_requests, open_work}
use Rattle.wdf_model.specs.rules.Waits.{asking_line, deferred_line, device_line, frame_line, frames_in_order, no_cpu, object_line, request_line}
use Rattle.wdf_waits.specs.declared.section.Section.{Section}
use Rattle.wdf_waits.specs.declared.section.Section.TheVariants as section

-- ---- parts of lines

abbrev pub step_line : {A : Type 0} → Plan → State A → ℕ → Step → Option Cause → WaitLine
step_line plan S d s cause = record { thing = thing.Sequence (handle_in plan S d) s; cause = cause }

-- the cleanup callback of an object could start, but for a processor
abbrev pub cleanup_ready : {A : Type 0} → Plan → State A → ℕ → Bool
cleanup_ready plan S o = clean_ready S o && declares_in plan S callback.EvtCleanupCallback o && not (started S.tree o callback.EvtCleanupCallback)

-- the destroy callback could
abbrev pub end_ready : {A : Type 0} → Plan → State A → ℕ → Bool
end_ready plan S o = destroy_ready S o && declares_in plan S callback.EvtDestroyCallback o && not (started S.tree o callback.EvtDestroyCallback)

abbrev pub no_cpu_for_end : {A : Type 0} → Plan → State A → ℕ → Bool
no_cpu_for_end plan S o = (cleanup_ready plan S o || end_ready plan S o) && no_cpu plan S 0

abbrev pub no_cpu_for_routine : {A : Type 0} → Plan → State A → ℕ → Bool
no_cpu_for_routine plan S o = is_some (routine_due S.targets o) && no_cpu plan S 2

-- ---- which things have a line

abbrev pub has_line_at : Place → Bool
has_line_at place.Owned = true
has_line_at (place.Sent t) = true
has_line_at (place.Queued q) = true
has_line_at (place.Returning q) = true
has_line_at (place.Closing s) = false
has_line_at place.Done = false

abbrev pub has_request_line : Request → Bool
has_request_line r = is_open_request r && has_line_at r.place

abbrev pub is_open_device : {A : Type 0} → Plan → State A → ℕ → Bool
is_open_device plan S d = is_some (device_of plan d) && nat_lt 0 (length (steps_left S.pnp d))

-- ---- the line of a thing, if it has one

abbrev pub line_if : Bool → WaitLine → Option WaitLine
line_if true l = Some l
line_if false l = None

abbrev pub open_request_line : {A : Type 0} → Plan → State A → ℕ → Option WaitLine
open_request_line plan S r = if is_open_request (request_of S.requests r) then request_line plan S r (place_of S.requests r) else None

abbrev pub open_device_line : {A : Type 0} → Plan → State A → ℕ → Option WaitLine
open_device_line plan S d = if is_open_device plan S d then device_line plan S d else None

-- the Plug and Play manager with a post that is due for a device with a sequence under way
abbrev pub asked_line : {A : Type 0} → State A → Option Post → Option WaitLine
asked_line S (Some (post.Ask a device)) = line_if (busy S.pnp device.id.0) (record { thing = thing.Asking device; cause = None })
asked_line S _ = None

abbrev pub line_in : {A : Type 0} → Plan → Meaning A → State A → Section → ℕ → Option WaitLine
line_in plan m S section.Frames f = line_if (contains f (all_frames S.cpus)) (frame_line plan S f)
line_in plan m S section.Requests r = open_request_line plan S r
line_in plan m S section.Devices d = open_device_line plan S d
line_in plan m S section.Objects o = line_if (is_leaving S o) (object_line plan S o)
line_in plan m S section.Work o = line_if (is_open_work S o) (deferred_line plan S o)
line_in plan m S section.Asking k = asked_line S (due_of m S 0)

-- ---- the lines of a section

abbrev pub lines_below : {A : Type 0} → Plan → Meaning A → State A → Section → ℕ → List WaitLine
lines_below plan m S s end = filter_map (line_in plan m S s) (range_with_len 0 end)

abbrev pub section_lines : {A : Type 0} → Plan → Meaning A → State A → Section → List WaitLine
section_lines plan m S section.Frames = map (frame_line plan S) (frames_in_order S)
section_lines plan m S section.Requests = filter_map (λ r. request_line plan S r (place_of S.requests r)) (open_requests S)
section_lines plan m S section.Devices = filter_map (device_line plan S) (open_devices plan S)
section_lines plan m S section.Objects = map (object_line plan S) (open_objects S)
section_lines plan m S section.Work = map (deferred_line plan S) (open_work S)
section_lines plan m S section.Asking = asking_line S (due_of m S 0)
