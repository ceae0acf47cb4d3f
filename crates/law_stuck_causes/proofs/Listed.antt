-- Every open thing of a stuck run has its line, in the order of the table.
use Rattle.std.proofs.Common.{◌≡◌, inl, inr, ℕ, suc, ◌+◌, ◌==◌, ◌<◌, ◌≤◌, Bool, true, false, not, ◌&&◌, ◌||◌, nat_lt, List, [], ◌∷◌, ◌++◌, Option, Some, None, map, length, count_by, refl, ap, ◌∙◌, arith}
use Rattle.std.specs.Prelude.{filter_map}
use Rattle.std.specs.List.{flat_map, range_with_len}
use Rattle.wdf_base.specs.Meaning.{Meaning}
use Rattle.wdf_base.specs.Same.{same_kind}
use Rattle.wdf_base.specs.declared.plan.Plan.{Plan}
use Rattle.wdf_base.specs.declared.event.Event.{Event}
use Rattle.wdf_base.specs.declared.event.Event.TheVariants as event
use Rattle.wdf_base.specs.declared.event.Ending.TheVariants as ending
use Rattle.wdf_base.specs.declared.event.Step.{Step}
use Rattle.wdf_base.specs.declared.event.Post.{Post}
use Rattle.wdf_base.specs.declared.event.Post.TheVariants as post
use Rattle.wdf_base.specs.declared.object.Kind.{Kind}
use Rattle.wdf_base.specs.declared.object.Kind.TheVariants as kind
use Rattle.wdf_base.specs.declared.object.Place.{Place}
use Rattle.wdf_base.specs.declared.object.Place.TheVariants as place
use Rattle.wdf_base.specs.declared.value.Status.{Status}
use Rattle.wdf_base.specs.declared.wait.OpenThing.{OpenThing}
use Rattle.wdf_base.specs.declared.wait.WaitLine.{WaitLine}
use Rattle.wdf_base.specs.Places.{is_done, is_sent}
use Rattle.wdf_model.specs.declared.entries.Node.{Node}
use Rattle.wdf_model.specs.declared.entries.Running.{Running}
use Rattle.wdf_model.specs.declared.enums.Group.TheVariants as group
use Rattle.wdf_model.specs.Tables.{contains, entry, first_of_list, ids_of}
use Rattle.wdf_model.specs.Plans.{devices_of}
use Rattle.wdf_model.specs.parts.Tree.{gone, kind_of, nearest_device, nearest_devices, own_device}
use Rattle.wdf_model.specs.parts.Cpus.{all_frames, no_frame, running}
use Rattle.wdf_model.specs.parts.Requests.{has_arrived, place_of, request_of}
use Rattle.wdf_model.specs.parts.Pnp.{running_step, steps_left}
use Rattle.wdf_model.specs.State.{State, handle_in, is_proper}
use Rattle.wdf_model.specs.rules.Posts.{due_of}
use Rattle.wdf_model.specs.rules.Groups.{candidate, candidates, candidates_in, completion_at, groups, groups_of_cpu}
use Rattle.wdf_model.specs.rules.Steps.{is_closing_with, may}
use Rattle.wdf_model.specs.rules.Ready.{IsRunOf, ending_of, is_open_post, is_open_request, open_devices, open_objects, open_requests, open_work, state_after}
use Rattle.wdf_model.specs.rules.Waits.{asking_line, deferred_line, device_line, frame_line, frames_in_order, object_line, request_line, sequence_line, wait_lines, wait_list}
use Rattle.law_machine_base.specs.OverRuns.{DeclaredAgree, FramesAgree, is_declared_kind}
use Rattle.wdf_model.proofs.Tests.{both, itself}
use Rattle.wdf_model.proofs.Sames.{status_decides}
use Rattle.wdf_model.proofs.Maps.{entry_past}
use Rattle.law_machine_counts.proofs.StepsOverRuns.{frames_agree_at_each}
use Rattle.law_machine_counts.proofs.DeclaredOverRuns.{declared_agree_at_each}
use Rattle.law_stuck_causes.specs.Open.{asked_thing, device_thing, frame_thing, frames_there, open_things, request_thing, sequence_thing, things_of}
use Rattle.law_stuck_causes.proofs.Members.{Has, below_range, chosen, each_kept, has_back, has_flat, has_mapped, has_range, map_behind, map_twice, same_kept}
use Rattle.law_stuck_causes.proofs.Endings.{AtRest, at_rest, at_the_end, may_not, stuck_lines}
use Rattle.law_machine_counts.proofs.Nearest.{front_stays}
use Rattle.wdf_model.proofs.FrameCounts.{contained}

-- ---- frames

first_device : (n : Node) (ns : List Node) → same_kind n.kind kind.Device ≡ false → entry 1 (nearest_devices [] (n ∷ ns)) 0 ≡ 1
first_device n ns e = front_stays (own_device [] 0 n ∷ []) ns 0 (omega arith) ∙ rw e refl

no_device_by : (k : Kind) → (is_declared_kind k ≡ true → None ≡ Some k) → same_kind k kind.Device ≡ false
no_device_by kind.Device h = absurd (let k = h refl in let z : ⊥ = cc in z)
no_device_by _ h = refl

-- the id 0 is no device, so the device nearest to it is the driver object
nearest_by : (nodes : List Node) → same_kind (entry gone nodes 0).kind kind.Device ≡ false → 0 < length nodes → entry 1 (nearest_devices [] nodes) 0 ≡ 1
nearest_by [] e h = absurd (omega arith)
nearest_by (n ∷ ns) e h = first_device n ns e

blank_there : (frames : List Running) (f : ℕ) → length frames ≤ f → entry no_frame frames f ≡ no_frame
blank_there frames f h = entry_past no_frame frames f h

-- nothing that is past the last frame is there
past_by : {A : Type 0} (plan : Plan) (S : State A) → FramesAgree S → DeclaredAgree plan S → (f : ℕ) → length S.cpus.frames ≤ f → 1 ≤ count_by (λ x. x == f) (all_frames S.cpus) → ⊥
past_by plan S k d f low is =
    let blank : running S.cpus f ≡ no_frame = entry_past no_frame S.cpus.frames f low in
    let device : (running S.cpus f).frame.device.id.0 ≡ nearest_device S.tree (running S.cpus f).frame.object.id.0 = k.device f is in
    let object : (running S.cpus f).frame.object.id.0 < length S.tree.nodes = k.object f is in
    let zero_there : 0 < length S.tree.nodes = rw blank at object in
    let none : 0 ≡ nearest_device S.tree 0 = rw blank at device in
    let one : nearest_device S.tree 0 ≡ 1 = nearest_by S.tree.nodes (no_device_by (kind_of S.tree 0) (d.declared 0)) zero_there in
    omega arith

off_by : (f : ℕ) (xs : List ℕ) (b : Bool) → contains f xs ≡ b → (1 ≤ count_by (λ x. x == f) xs → ⊥) → b ≡ false
off_by f xs true e h = absurd (h (contained f xs e))
off_by f xs false e h = refl

past_frames : {A : Type 0} (plan : Plan) (S : State A) → FramesAgree S → DeclaredAgree plan S → (f : ℕ) → length S.cpus.frames ≤ f → contains f (all_frames S.cpus) ≡ false
past_frames plan S k d f low = off_by f (all_frames S.cpus) (contains f (all_frames S.cpus)) refl (past_by plan S k d f low)

past_events : {A : Type 0} (S : State A) → FramesAgree S → (f : ℕ) → suc S.number ≤ f → contains f (all_frames S.cpus) ≡ false
past_events S k f low = off_by f (all_frames S.cpus) (contains f (all_frames S.cpus)) refl (λ is. let old : f ≤ S.number = k.numbered f is in let z : ⊥ = omega arith in z)

frames_are : {A : Type 0} (plan : Plan) (S : State A) → FramesAgree S → DeclaredAgree plan S → frames_in_order S ≡ frames_there S
frames_are plan S k d =
    same_kept (λ f. contains f (all_frames S.cpus)) 0 (length S.cpus.frames) (suc S.number) (λ f low. past_frames plan S k d f (omega arith)) (λ f low. past_events S k f (omega arith))

-- ---- requests

pub closes_as : (p : Place) (s : Status) → p ≡ place.Closing s → is_closing_with p s ≡ true
closes_as p s e = rw e ((status_decides s s).1 refl)

never_closing : {A : Type 0} (plan : Plan) (m : Meaning A) (S : State A) → AtRest plan m S true → (r : ℕ) (s : Status) → r < length S.requests.all → place_of S.requests r ≡ place.Closing s → ⊥
never_closing plan m S rest r s low e =
    let e0 : Event = event.Complete (handle_in plan S r) s in
    let here : completion_at plan S r (place_of S.requests r) ≡ Some e0 = rw e refl in
    let within : Has e0 (candidates_in plan m S group.Completions) =
    has_mapped (candidate plan m S group.Completions) r e0 (range_with_len 0 (length S.requests.all)) (has_range r 0 (length S.requests.all) (omega arith) (omega arith)) here in
    let offered : Has e0 (candidates plan m S) = has_flat (candidates_in plan m S) group.Completions e0 (groups plan) (has_back group.Completions (flat_map (groups_of_cpu plan) (range_with_len 0 plan.cpus)) (group.Stages ∷ group.Completions ∷ group.Cleanups ∷ group.Destroys ∷ group.Posts ∷ []) (inr (inl refl))) within in
    let no : may plan m S e0 ≡ false = may_not plan m S true e0 rest offered in
    let yes : may plan m S e0 ≡ true = both (is_proper plan S (handle_in plan S r)) (is_closing_with (place_of S.requests r) s) (itself (handle_in plan S r).name) (closes_as (place_of S.requests r) s e) in
    let z : ⊥ = cc in z

-- a thing's line, and that it is about it
abbrev HasLine : Option WaitLine → Option OpenThing → Type 0
HasLine line o = (l : WaitLine) × (line ≡ Some l) × (o ≡ Some l.thing)

open_is : (p : Place) (arrived : Bool) → ((arrived && not (is_done p)) || (not arrived && is_sent p)) ≡ true → is_done p ≡ false
open_is place.Done true h = absurd (let z : ⊥ = cc in z)
open_is place.Done false h = absurd (let z : ⊥ = cc in z)
open_is _ a h = refl

request_has : {A : Type 0} (plan : Plan) (S : State A) (r : ℕ) (p : Place) → is_done p ≡ false → ((s : Status) → p ≡ place.Closing s → ⊥) → HasLine (request_line plan S r p) (request_thing plan S r p)
request_has plan S r (place.Closing s) h k = absurd (k s refl)
request_has plan S r place.Done h k = absurd (let z : ⊥ = cc in z)
request_has plan S r _ h k = (_, refl, refl)

requests_listed : {A : Type 0} (plan : Plan) (m : Meaning A) (S : State A) → AtRest plan m S true
    → things_of (filter_map (λ r. request_line plan S r (place_of S.requests r)) (open_requests S)) ≡ map (λ r. request_thing plan S r (place_of S.requests r)) (open_requests S)
requests_listed plan m S rest =
    chosen (λ r. request_line plan S r (place_of S.requests r)) (λ r. request_thing plan S r (place_of S.requests r)) (λ (l : WaitLine). l.thing) (open_requests S)
    (each_kept (λ r. HasLine (request_line plan S r (place_of S.requests r)) (request_thing plan S r (place_of S.requests r))) (λ r. is_open_request (request_of S.requests r)) (ids_of S.requests.all)
    (λ r within is. request_has plan S r (place_of S.requests r) (open_is (place_of S.requests r) (has_arrived (request_of S.requests r)) is)
    (λ s. never_closing plan m S rest r s (let low : r < 0 + length S.requests.all = below_range r 0 (length S.requests.all) within in omega arith))))

-- ---- devices

sequence_has : {A : Type 0} (plan : Plan) (S : State A) (d : ℕ) (now : Option Step) (left : List Step) → nat_lt 0 (length left) ≡ true → HasLine (sequence_line plan S d now (first_of_list left)) (sequence_thing plan S d now (first_of_list left))
sequence_has plan S d (Some s) left h = (_, refl, refl)
sequence_has plan S d None (s ∷ left) h = (_, refl, refl)
sequence_has plan S d None [] h = absurd (let z : ⊥ = cc in z)

devices_listed : {A : Type 0} (plan : Plan) (S : State A) → things_of (filter_map (device_line plan S) (open_devices plan S)) ≡ map (device_thing plan S) (open_devices plan S)
devices_listed plan S =
    chosen (device_line plan S) (device_thing plan S) (λ (l : WaitLine). l.thing) (open_devices plan S)
    (each_kept (λ d. HasLine (device_line plan S d) (device_thing plan S d)) (λ d. nat_lt 0 (length (steps_left S.pnp d))) (devices_of plan)
    (λ d within is. sequence_has plan S d (running_step S.pnp d) (steps_left S.pnp d) is))

-- ---- the Plug and Play manager

asking_by : {A : Type 0} (S : State A) (p : Option Post) (b : Bool) → is_open_post S p ≡ b → things_of (asking_line S p) ≡ asked_thing b p
asking_by S None false e = refl
asking_by S (Some (post.Ask a device)) true e = rw e refl
asking_by S (Some (post.Ask a device)) false e = rw e refl
asking_by S (Some (post.Read d n)) false e = refl
asking_by S (Some (post.Write d n)) false e = refl
asking_by S (Some (post.Control d c n)) false e = refl
asking_by S (Some (post.Cancel k)) false e = refl
asking_by S (Some (post.Act a)) false e = refl
asking_by S (Some (post.Done r t)) false e = refl
asking_by S _ true e = absurd (let z : ⊥ = cc in z)

-- ---- the law

abbrev thing_of : WaitLine → Option OpenThing
thing_of l = Some l.thing

things_listed : {A : Type 0} (plan : Plan) (m : Meaning A) (S : State A) → AtRest plan m S true → FramesAgree S → DeclaredAgree plan S → things_of (wait_lines plan m S) ≡ open_things plan m S
things_listed plan m S rest k d =
    let frames : List WaitLine = map (frame_line plan S) (frames_in_order S) in
    let requests : List WaitLine = filter_map (λ r. request_line plan S r (place_of S.requests r)) (open_requests S) in
    let devices : List WaitLine = filter_map (device_line plan S) (open_devices plan S) in
    let objects : List WaitLine = map (object_line plan S) (open_objects S) in
    let work : List WaitLine = map (deferred_line plan S) (open_work S) in
    let asking : List WaitLine = asking_line S (due_of m S 0) in
    map_behind thing_of (frames ++ requests ++ devices ++ objects ++ work) asking
    ∙ both_lists
    (map_behind thing_of (frames ++ requests ++ devices ++ objects) work
    ∙ both_lists
    (map_behind thing_of (frames ++ requests ++ devices) objects
    ∙ both_lists
    (map_behind thing_of (frames ++ requests) devices
    ∙ both_lists
    (map_behind thing_of frames requests
    ∙ both_lists (map_twice (frame_line plan S) thing_of (frames_in_order S) ∙ ap (map (λ f. Some (frame_thing S f))) (frames_are plan S k d)) (requests_listed plan m S rest))
    (devices_listed plan S))
    (map_twice (object_line plan S) thing_of (open_objects S)))
    (map_twice (deferred_line plan S) thing_of (open_work S)))
    (asking_by S (due_of m S 0) (is_open_post S (due_of m S 0)) refl)
  where
    both_lists : {xs ys zs ws : List (Option OpenThing)} → xs ≡ ys → zs ≡ ws → xs ++ zs ≡ ys ++ ws
    both_lists e f = rw (e, f) refl

pub listed : {A : Type 0} (plan : Plan) (m : Meaning A) (run : List Event) → IsRunOf plan m run → ending_of plan m run ≡ ending.Stuck
    → things_of (wait_list plan m run) ≡ open_things plan m (state_after plan m run)
listed plan m run is_run ends =
    ap things_of (stuck_lines plan m run ends)
    ∙ things_listed plan m (state_after plan m run) (at_rest plan m run true ends)
    (at_the_end plan m (λ S. FramesAgree S) run (frames_agree_at_each plan m run is_run))
    (at_the_end plan m (λ S. DeclaredAgree plan S) run (declared_agree_at_each plan m run is_run))
