-- What is open in a state, by the tables of the machine: the things that a stuck run's wait list speaks of.
use Rattle.std.specs.Prelude.{ℕ, suc, Bool, true, List, [], ◌∷◌, ◌++◌, map, filter, Option, Some, None}
use Rattle.std.specs.List.{range_with_len}
use Rattle.wdf_base.specs.Meaning.{Meaning}
use Rattle.wdf_base.specs.declared.plan.Plan.{Plan}
use Rattle.wdf_base.specs.declared.object.Place.{Place}
use Rattle.wdf_base.specs.declared.object.Place.TheVariants as place
use Rattle.wdf_base.specs.declared.event.Step.{Step}
use Rattle.wdf_base.specs.declared.event.Post.{Post}
use Rattle.wdf_base.specs.declared.event.Post.TheVariants as post
use Rattle.wdf_base.specs.declared.wait.OpenThing.{OpenThing}
use Rattle.wdf_base.specs.declared.wait.OpenThing.TheVariants as thing
use Rattle.wdf_base.specs.declared.wait.WaitLine.{WaitLine}
use Rattle.wdf_model.specs.Tables.{contains}
use Rattle.wdf_model.specs.parts.Cpus.{all_frames, frame_of}
use Rattle.wdf_model.specs.parts.Requests.{place_of}
use Rattle.wdf_model.specs.parts.Pnp.{next_step, running_step}
use Rattle.wdf_model.specs.State.{State, handle_in}
use Rattle.wdf_model.specs.rules.Posts.{due_of}
use Rattle.wdf_model.specs.rules.Ready.{is_open_post, open_devices, open_objects, open_requests, open_work}

-- a frame, by its number, its callback and its object
abbrev pub frame_thing : {A : Type 0} → State A → ℕ → OpenThing
frame_thing S f = thing.Waiting (record { 0 = f }) (frame_of S.cpus f).callback (frame_of S.cpus f).object

-- the frames that are there, on a processor or parked, by number; a frame has the number of an event
abbrev pub frames_there : {A : Type 0} → State A → List ℕ
frames_there S = filter (λ f. contains f (all_frames S.cpus)) (range_with_len 0 (suc S.number))

-- a request, by its place; one that is done, or about to be completed, is nothing that waits
abbrev pub request_thing : {A : Type 0} → Plan → State A → ℕ → Place → Option OpenThing
request_thing plan S r place.Owned = Some (thing.Owned (handle_in plan S r))
request_thing plan S r (place.Sent t) = Some (thing.Sent (handle_in plan S r) (handle_in plan S t.0))
request_thing plan S r (place.Queued q) = Some (thing.Queued (handle_in plan S r) (handle_in plan S q.0))
request_thing plan S r (place.Returning q) = Some (thing.Returning (handle_in plan S r) (handle_in plan S q.0))
request_thing plan S r (place.Closing s) = None
request_thing plan S r place.Done = None

-- a device, by the step whose callback runs, else by its next step
abbrev pub sequence_thing : {A : Type 0} → Plan → State A → ℕ → Option Step → Option Step → Option OpenThing
sequence_thing plan S d (Some s) next = Some (thing.Sequence (handle_in plan S d) s)
sequence_thing plan S d None (Some s) = Some (thing.Sequence (handle_in plan S d) s)
sequence_thing plan S d None None = None

abbrev pub device_thing : {A : Type 0} → Plan → State A → ℕ → Option OpenThing
device_thing plan S d = sequence_thing plan S d (running_step S.pnp d) (next_step S.pnp d)

-- an object whose deletion hasn't come to its end
abbrev pub object_thing : {A : Type 0} → Plan → State A → ℕ → OpenThing
object_thing plan S o = thing.Leaving (handle_in plan S o)

-- queued work
abbrev pub work_thing : {A : Type 0} → Plan → State A → ℕ → OpenThing
work_thing plan S o = thing.Deferred (handle_in plan S o)

-- a post of the Plug and Play manager that is due for a device with a sequence under way
abbrev pub asked_thing : Bool → Option Post → List (Option OpenThing)
asked_thing true (Some (post.Ask a device)) = Some (thing.Asking device) ∷ []
asked_thing _ _ = []

-- Everything that is open, in the order of the wait list: the frames by number; the requests, the devices, the
-- objects and the queued work by id; and the Plug and Play manager. A thing that could have no line would be None here.
abbrev pub open_things : {A : Type 0} → Plan → Meaning A → State A → List (Option OpenThing)
open_things plan m S =
    map (λ f. Some (frame_thing S f)) (frames_there S)
    ++ map (λ r. request_thing plan S r (place_of S.requests r)) (open_requests S)
    ++ map (device_thing plan S) (open_devices plan S)
    ++ map (λ o. Some (object_thing plan S o)) (open_objects S)
    ++ map (λ o. Some (work_thing plan S o)) (open_work S)
    ++ asked_thing (is_open_post S (due_of m S 0)) (due_of m S 0)

-- what the lines of a wait list are about
abbrev pub things_of : List WaitLine → List (Option OpenThing)
things_of lines = map (λ (l : WaitLine). Some l.thing) lines
