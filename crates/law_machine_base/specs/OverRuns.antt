-- What is so at each place of every run, whatever the plan and the agents are.
use Rattle.std.specs.Prelude.{ℕ, ◌≡◌, ◌≤◌, ◌<◌, ◌==◌, length, Bool, true, false, ◌&&◌, List, count_by, take, Option, Some, None, slice_get, option_and_then}
use Rattle.std.specs.List.{list_any}
use Rattle.wdf_base.specs.declared.plan.Plan.{Plan}
use Rattle.wdf_base.specs.declared.ids.Handle.{Handle}
use Rattle.wdf_base.specs.declared.object.Kind.{Kind}
use Rattle.wdf_base.specs.declared.object.Kind.TheVariants as kind
use Rattle.wdf_base.specs.Kinds.{declared_kind}
use Rattle.wdf_base.specs.Plan.{declared_of}
use Rattle.wdf_base.specs.declared.call.CallKind.TheVariants as call
use Rattle.wdf_base.specs.declared.event.Event.{Event}
use Rattle.wdf_base.specs.declared.event.Event.TheVariants as event
use Rattle.wdf_base.specs.Same.{same_call_kind}
use Rattle.wdf_base.specs.Places.{is_queued_in, is_sent_to}
use Rattle.wdf_base.specs.Posts.{is_request}
use Rattle.wdf_model.specs.Tables.{flag}
use Rattle.wdf_model.specs.parts.Tree.{kind_of, nearest_device}
use Rattle.wdf_model.specs.parts.Cpus.{all_frames, frame_of}
use Rattle.wdf_model.specs.parts.Requests.{place_of}
use Rattle.wdf_model.specs.parts.Queues.{waiting_in}
use Rattle.wdf_model.specs.parts.Targets.{the_target}
use Rattle.wdf_model.specs.State.{State, object_in}

-- the kinds that only the scenario declares
abbrev pub is_declared_kind : Kind → Bool
is_declared_kind kind.Driver = true
is_declared_kind kind.Device = true
is_declared_kind kind.Queue = true
is_declared_kind kind.Interrupt = true
is_declared_kind kind.Target = true
is_declared_kind _ = false

-- A request is Queued exactly where it waits in that queue, once, and Sent exactly where that target has it, once.
pub record PlacesAgree {A : Type 0} (S : State A) : Type 0 where
  -- how often queue q lists request r: once if r's place is that queue, else never
  pub queued : (q r : ℕ) → count_by (λ x. x == r) (waiting_in S.queues q) ≡ flag (is_queued_in q (place_of S.requests r))
  -- how often target t lists request r: once if r's place is that target, else never
  pub sent : (t r : ℕ) → count_by (λ s. s.request.0 == r) (the_target S.targets t).sent ≡ flag (is_sent_to t (place_of S.requests r))

-- An object of a kind that only the scenario declares is a declared one, of that kind.
pub record DeclaredAgree {A : Type 0} (plan : Plan) (S : State A) : Type 0 where
  pub declared : (o : ℕ) → is_declared_kind (kind_of S.tree o) ≡ true → option_and_then declared_kind (declared_of plan o) ≡ Some (kind_of S.tree o)

-- Each frame is there once, on a processor or parked, and no number is above that of the events. Its
-- object was made, and it knows the nearest device of that.
pub record FramesAgree {A : Type 0} (S : State A) : Type 0 where
  -- no frame is there twice
  pub once : (f : ℕ) → count_by (λ x. x == f) (all_frames S.cpus) ≤ 1
  -- the number of a frame is that of an event
  pub numbered : (f : ℕ) → 1 ≤ count_by (λ x. x == f) (all_frames S.cpus) → f ≤ S.number
  -- the frame's device is the nearest one at or above its object
  pub device : (f : ℕ) → 1 ≤ count_by (λ x. x == f) (all_frames S.cpus) → (frame_of S.cpus f).device.id.0 ≡ nearest_device S.tree (frame_of S.cpus f).object.id.0
  -- the frame's object has an id that was given out
  pub object : (f : ℕ) → 1 ≤ count_by (λ x. x == f) (all_frames S.cpus) → (frame_of S.cpus f).object.id.0 < length S.tree.nodes

-- event e completes request r: the driver's call, or the framework
abbrev pub completes : ℕ → Event → Bool
completes r (event.Did cpu c answer) = same_call_kind c.kind call.WdfRequestComplete && object_in c.a == r
completes r (event.Complete request s) = request.id.0 == r
completes r _ = false

-- an answer is the handle of request r
abbrev pub is_answer : ℕ → Option Handle → Bool
is_answer r None = false
is_answer r (Some h) = h.id.0 == r

-- event e is the arrival of request r
abbrev pub arrives : ℕ → Event → Bool
arrives r (event.Posted agent p answer) = is_request p && is_answer r answer
arrives r _ = false

-- No request is completed twice, and none before it arrives.
pub record CompletedOnce (run : List Event) : Type 0 where
  -- request r is completed at most once
  pub once : (r : ℕ) → count_by (completes r) run ≤ 1
  -- where event k completes request r, an event before it is the arrival of r
  pub after : (k r : ℕ) (e : Event) → slice_get run k ≡ Some e → completes r e ≡ true → list_any (arrives r) (take k run) ≡ true
