-- What each deed adds to a state, where what it names is there: a line for each.
use Rattle.std.proofs.Common.{if◌then◌else◌, ◌≡◌, ℕ, suc, ◌+◌, ◌-◌, ◌<◌, ◌≤◌, ◌&&◌, ◌==◌, not, nat_lt, Bool, true, false, List, [], ◌∷◌, ◌++◌, Option, Some, None, length, fold, filter, count_by, slice_set, slice_index_or, refl, sym, subst, ◌∙◌, arith}
use Rattle.std.specs.List.{sum_by}
use Rattle.std.proofs.lemmas.List.{length-map, length_push}
use Rattle.std.proofs.lemmas.List.Sums.{sum-map, sum_by_push}
use Rattle.wdf_base.specs.declared.plan.Plan.{Plan}
use Rattle.wdf_base.specs.declared.object.Kind.TheVariants as kind
use Rattle.wdf_base.specs.declared.object.Life.TheVariants as life
use Rattle.wdf_base.specs.declared.object.Mark.TheVariants as mark
use Rattle.wdf_base.specs.declared.object.Place.{Place}
use Rattle.wdf_base.specs.declared.object.Place.TheVariants as place
use Rattle.wdf_base.specs.declared.object.RequestInfo.{RequestInfo}
use Rattle.wdf_base.specs.Same.{same_lock}
use Rattle.wdf_base.specs.Lives.{is_asked, is_cleaned, is_live}
use Rattle.wdf_base.specs.Places.{is_returning_to}
use Rattle.wdf_model.specs.declared.enums.Mode.TheVariants as mode
use Rattle.wdf_model.specs.declared.entries.Held.{Held}
use Rattle.wdf_model.specs.declared.entries.HeldLevel.{HeldLevel}
use Rattle.wdf_model.specs.declared.entries.Node.{Node}
use Rattle.wdf_model.specs.declared.entries.Request.{Request}
use Rattle.wdf_model.specs.Plans.{managed_queues, queues_of}
use Rattle.wdf_model.specs.Tables.{change_at, entry, put}
use Rattle.wdf_model.specs.parts.Tree.{Tree, children, gone, life_of, may_destroy, new_node, next_id, node_of, noted, references_in, references_of, subtree, with_life, with_node}
use Rattle.wdf_model.specs.parts.Cpus.{Cpus, less_one, levels_without, top}
use Rattle.wdf_model.specs.parts.Requests.{Requests, cancelled, close, close_returning, closed_at, forgotten, is_in, marked, moved, no_request, place_of, request_of, unmarked, with_mark, with_request}
use Rattle.wdf_model.specs.parts.Requests as requests
use Rattle.wdf_model.specs.parts.Queues.{Queues, held_in, hold, let_go, take_cancelled, waiting_in}
use Rattle.wdf_model.specs.parts.Queues as queues
use Rattle.wdf_model.specs.parts.Control as control
use Rattle.wdf_model.specs.parts.Power.{Power}
use Rattle.wdf_model.specs.parts.Targets.{is_forgotten}
use Rattle.wdf_model.specs.State.{State, is_with_driver, withdrawn_place}
use Rattle.wdf_model.specs.Ids.{object_id}
use Rattle.wdf_model.specs.rules.Deeds as deeds
use Rattle.wdf_model.specs.declared.deed.Deed.{Deed}
use Rattle.wdf_model.specs.declared.deed.Deed.TheVariants.{Create, MakeRequest, Arrive, CountArrival, AskDeletion, Refer, Unrefer, WriteCell, Note, CleanUp, EndLife, Raise, Lower, PopFrame, TakeLock, ReleaseLock, Present, Receive, Requeue, Forward, GiveBack, Withdraw, MarkRequest, UnmarkRequest, CancelRequest, TakeCancel, SendRequest, FinishSending, ComeBack, CompleteRequest, PurgeQueue, CloseReturning, CloseDevice, PassTick}
use Rattle.wdf_model.specs.rules.Deeds.{arrive_at, ask_object, ask_objects, close_queue, do_deed, do_deeds, finished_at, give_up, give_up_if, hold_power, queued, release_line, withdraw}
use Rattle.wdf_model.proofs.Maps.{as_long, put_short}
use Rattle.wdf_model.proofs.Tests.{both_left}
use Rattle.wdf_model.proofs.Counts.{count_cons}
use Rattle.law_machine_base.proofs.Deletion.{object_live, object_off}
use Rattle.wdf_model.specs.rules.Room.{AreDoable, IsDoable}
use Rattle.law_machine_room.proofs.GrowthMaps.{element_counts, filtered, one_more, put_keeps, put_sums, within}
use Rattle.law_machine_room.proofs.GrowthCounts.{Gain, Grows, arrivals_change, clock_changes, counts_of, gains, grows_at_most, grows_less, grows_on, grows_then, held_changes, is_gain, levels_change, locks_change, no_more, nothing, objects_change, objects_grow, requests_change, same_counts, Holding_more, Object_more, Reference_more}
use Rattle.wdf_model.proofs.FrameCounts.{flag_small}
use Rattle.law_machine_counts.proofs.Trees.{noted_references}

-- ---- objects

abbrev references_at : List Node → ℕ
references_at ns = sum_by (λ (n : Node). n.references) ns

-- an object that is there is changed, and has at most so many references more
object_changes : {A : Type 0} (S : State A) (o : ℕ) (f : Node → Node) (more : Gain → ℕ) → o < length S.tree.nodes
    → (f (node_of S.tree o)).references ≤ references_of S.tree o + more Reference_more → Grows more (counts_of S) (counts_of (record S { tree = with_node S.tree o f }))
object_changes S o f more there few =
    let new : List Node = put gone S.tree.nodes o (f (node_of S.tree o)) in
    let exchanged : references_at new + references_of S.tree o ≡ references_at S.tree.nodes + (f (node_of S.tree o)).references
    = put_sums (λ (n : Node). n.references) gone S.tree.nodes o (f (node_of S.tree o)) refl in
    let before : references_in S.tree ≡ references_at S.tree.nodes = sum-map (λ (n : Node). n.references) S.tree.nodes in
    let later : references_in (with_node S.tree o f) ≡ references_at new = sum-map (λ (n : Node). n.references) new in
    objects_change more (counts_of S) (length new) (references_in (with_node S.tree o f)) (put_keeps gone S.tree.nodes o (f (node_of S.tree o)) there) (omega arith)

-- an object more has no references
made_references : (T : Tree) (n : Node) → n.references ≡ 0 → references_in (record T { nodes = T.nodes ++ n ∷ [] }) ≡ references_in T
made_references T n e =
    let before : references_in T ≡ references_at T.nodes = sum-map (λ (x : Node). x.references) T.nodes in
    let later : references_in (record T { nodes = T.nodes ++ n ∷ [] }) ≡ references_at (T.nodes ++ n ∷ []) = sum-map (λ (x : Node). x.references) (T.nodes ++ n ∷ []) in
    let one : references_at (T.nodes ++ n ∷ []) ≡ references_at T.nodes + n.references = sum_by_push (λ (x : Node). x.references) T.nodes n in
    omega arith

-- an object is made, and the requests are these from then on
object_made : {A : Type 0} (S : State A) (n : Node) (R : Requests) (d : Deed) → n.references ≡ 0 → gains d Object_more ≡ 1
    → (length S.requests.all ≤ length S.tree.nodes → length R.all ≤ length S.tree.nodes + 1) → R.arrived ≤ S.requests.arrived + 1
    → Grows (gains d) (counts_of S) (counts_of (record S { tree = record S.tree { nodes = S.tree.nodes ++ n ∷ [] }; requests = R }))
object_made S n R d none one within few =
    let long : length (S.tree.nodes ++ n ∷ []) ≡ length S.tree.nodes + 1 = length_push S.tree.nodes n in
    let same = made_references S.tree n none in
    objects_grow (gains d) (counts_of S) (length (S.tree.nodes ++ n ∷ [])) (length R.all) R.arrived (references_in (record S.tree { nodes = S.tree.nodes ++ n ∷ [] }))
    (omega arith) (omega arith) (λ h. let short = within h in omega arith) (omega arith) (omega arith)

-- a request is made, with the id of its object
request_made : {A : Type 0} (S : State A) (n : Node) (p : Place) (info : RequestInfo) (d : Deed) → n.references ≡ 0 → gains d Object_more ≡ 1
    → Grows (gains d) (counts_of S) (counts_of (record S { tree = record S.tree { nodes = S.tree.nodes ++ n ∷ [] }; requests = requests.arrive S.requests (next_id S.tree) p info }))
request_made S n p info d none one =
    object_made S n (requests.arrive S.requests (next_id S.tree) p info) d none one
    (λ h. put_short no_request S.requests.all (length S.tree.nodes) (record { place = p; info = info }) (length S.tree.nodes + 1) (omega arith) (omega arith))
    (let small = flag_small (nat_lt 0 info.arrival) in omega arith)

-- where a request that arrives is, adds nothing
arrives : {A : Type 0} (S : State A) (device : ℕ) (info : RequestInfo) (p : Place) → Grows (gains (Arrive (object_id device) info p)) (counts_of S) (counts_of (arrive_at S device info p))
arrives S device info (place.Queued q) = request_made S (new_node kind.Request 0 device) (place.Queued q) info (Arrive (object_id device) info (place.Queued q)) refl refl
arrives S device info p = request_made S (new_node kind.Request 0 device) p info (Arrive (object_id device) info p) refl refl

-- ---- deletions

asked_one : {A : Type 0} (S : State A) (o : ℕ) (b : Bool) → is_live (life_of S.tree o) ≡ b → Grows nothing (counts_of S) (counts_of (ask_object S o))
asked_one {A} S o true h =
    subst (λ (U : State A). Grows nothing (counts_of S) (counts_of U)) (sym (object_live S o h))
    (object_changes S o (with_life life.Asked) nothing (within gone S.tree.nodes o (λ (n : Node). is_live n.life) refl h) (omega arith))
asked_one {A} S o false h = subst (λ (U : State A). Grows nothing (counts_of S) (counts_of U)) (sym (object_off S o h)) (no_more nothing (counts_of S))

all_asked : {A : Type 0} (os : List ℕ) (S : State A) → Grows nothing (counts_of S) (counts_of (fold ask_object S os))
all_asked [] S = no_more nothing (counts_of S)
all_asked (o ∷ os) S =
    grows_on (counts_of S) (counts_of (ask_object S o)) (counts_of (fold ask_object (ask_object S o) os)) (asked_one S o (is_live (life_of S.tree o)) refl) (all_asked os (ask_object S o))

-- an object ends, and the request that it is
ended : {A : Type 0} (S : State A) (o : ℕ) → is_cleaned (life_of S.tree o) ≡ true
    → Grows nothing (counts_of S) (counts_of (record S { tree = with_node S.tree o (λ _. gone); requests = requests.forget S.requests o }))
ended {A} S o h =
    let less : State A = record S { tree = with_node S.tree o (λ _. gone) } in
    grows_on (counts_of S) (counts_of less) (counts_of (record less { requests = requests.forget S.requests o }))
    (object_changes S o (λ _. gone) nothing (within gone S.tree.nodes o (λ (n : Node). is_cleaned n.life) refl h) (omega arith))
    (requests_change nothing (counts_of less) (length (requests.forget S.requests o).all) (as_long S.requests.all o (forgotten (request_of S.requests o))))

cleaned_before : {A : Type 0} (S : State A) (o : ℕ) → may_destroy S.tree o ≡ true → is_cleaned (life_of S.tree o) ≡ true
cleaned_before S o h =
    both_left (is_cleaned (life_of S.tree o)) (references_of S.tree o == 0) (both_left (is_cleaned (life_of S.tree o) && references_of S.tree o == 0) (length (children S.tree o) == 0) h)

-- ---- what is held

let_go_less : (Q : Queues) (q : ℕ) → held_in (let_go Q q) ≤ held_in Q
let_go_less Q q =
    let e = put_sums (λ n. n) 0 Q.held q (entry 0 Q.held q - 1) refl in
    omega arith

held_more : (Q : Queues) (q : ℕ) → held_in (hold Q q) ≤ held_in Q + 1
held_more Q q = let e = put_sums (λ n. n) 0 Q.held q (entry 0 Q.held q + 1) refl in omega arith

released : (Q : Queues) (o : Option ℕ) → held_in (release_line Q o) ≤ held_in Q
released Q None = omega arith
released Q (Some q) = let_go_less Q q

-- ---- requests

-- a request that is there is changed
kept_all : (R : Requests) (r : ℕ) (f : Request → Request) → r < length R.all → length (with_request R r f).all ≡ length R.all
kept_all R r f there = put_keeps no_request R.all r (f (request_of R r)) there

request_changes : {A : Type 0} (S : State A) (r : ℕ) (f : Request → Request) → r < length S.requests.all → Grows nothing (counts_of S) (counts_of (record S { requests = with_request S.requests r f }))
request_changes S r f there = requests_change nothing (counts_of S) (length (with_request S.requests r f).all) (kept_all S.requests r f there)

-- twice
kept_twice : (R : Requests) (r : ℕ) (f g : Request → Request) → r < length R.all → length (with_request (with_request R r f) r g).all ≡ length R.all
kept_twice R r f g there =
    let e : length (with_request R r f).all ≡ length R.all = kept_all R r f there in
    kept_all (with_request R r f) r g (omega arith) ∙ e

request_changes_twice : {A : Type 0} (S : State A) (r : ℕ) (f g : Request → Request) → r < length S.requests.all
    → Grows nothing (counts_of S) (counts_of (record S { requests = with_request (with_request S.requests r f) r g }))
request_changes_twice S r f g there = requests_change nothing (counts_of S) (length (with_request (with_request S.requests r f) r g).all) (kept_twice S.requests r f g there)

-- ---- what the driver gives up

given_by : {A : Type 0} (S : State A) (b : Bool) (Q : Queues) (P : Power) → held_in Q ≤ held_in S.queues → Grows nothing (counts_of S) (counts_of (if b then record S { queues = Q; power = P } else S))
given_by S true Q P h = held_changes nothing (counts_of S) (held_in Q) (omega arith)
given_by S false Q P h = no_more nothing (counts_of S)

given_up : {A : Type 0} (S : State A) (r : ℕ) → Grows nothing (counts_of S) (counts_of (give_up S r))
given_up S r = given_by S (is_with_driver S r) _ _ (released S.queues _)

requests_left_by : {A : Type 0} (S : State A) (b : Bool) (Q : Queues) (P : Power) → (if b then record S { queues = Q; power = P } else S).requests ≡ S.requests
requests_left_by S true Q P = refl
requests_left_by S false Q P = refl

requests_left : {A : Type 0} (S : State A) (r : ℕ) → (give_up S r).requests ≡ S.requests
requests_left S r = requests_left_by S (is_with_driver S r) _ _

-- it is still there
there_still : {A : Type 0} (S : State A) (r : ℕ) → r < length S.requests.all → r < length (give_up S r).requests.all
there_still S r there = subst (λ (R : Requests). r < length R.all) (sym (requests_left S r)) there

given_and_changed : {A : Type 0} (S : State A) (r : ℕ) (f : Request → Request) → r < length S.requests.all
    → Grows nothing (counts_of S) (counts_of (record (give_up S r) { requests = with_request (give_up S r).requests r f }))
given_and_changed S r f there =
    grows_on (counts_of S) (counts_of (give_up S r)) (counts_of (record (give_up S r) { requests = with_request (give_up S r).requests r f })) (given_up S r)
    (request_changes (give_up S r) r f (there_still S r there))

given_if : {A : Type 0} (S : State A) (forget : Bool) (r : ℕ) (f : Request → Request) → r < length S.requests.all
    → Grows nothing (counts_of S) (counts_of (record (give_up_if forget S r) { requests = with_request (give_up_if forget S r).requests r f }))
given_if S true r f there = given_and_changed S r f there
given_if S false r f there = request_changes S r f there

given_and_cancelled : {A : Type 0} (S : State A) (r : ℕ) (f g : Request → Request) → r < length S.requests.all
    → Grows nothing (counts_of S) (counts_of (record (give_up S r) { requests = with_request (with_request (give_up S r).requests r f) r g }))
given_and_cancelled S r f g there =
    grows_on (counts_of S) (counts_of (give_up S r)) (counts_of (record (give_up S r) { requests = with_request (with_request (give_up S r).requests r f) r g })) (given_up S r)
    (request_changes_twice (give_up S r) r f g (there_still S r there))

-- and what is below it is asked to go
completed : {A : Type 0} (S : State A) (r : ℕ) → r < length S.requests.all → Grows nothing (counts_of S) (counts_of (ask_objects (record (give_up S r) { requests = requests.complete S.requests r }) r))
completed {A} S r there =
    let done : State A = record (give_up S r) { requests = requests.complete S.requests r } in
    let left : Grows nothing (counts_of S) (counts_of done)
    = subst (λ (R : Requests). Grows nothing (counts_of S) (counts_of (record (give_up S r) { requests = requests.complete R r }))) (requests_left S r) (given_and_changed S r (moved place.Done) there) in
    grows_on (counts_of S) (counts_of done) (counts_of (ask_objects done r)) left (all_asked (subtree done.tree r) done)

-- ---- what waits in queues

-- each of some requests is there
abbrev AreThere : ℕ → List ℕ → Type 0
AreThere n rs = (k d : ℕ) → k < length rs → slice_index_or rs k d < n

-- where a request goes that is withdrawn
abbrev away : {A : Type 0} → Plan → ℕ → State A → ℕ → Request → Request
away plan q S r = moved (withdrawn_place plan (record S { queues = take_cancelled S.queues r }) q r)

withdrawn : {A : Type 0} (plan : Plan) (q : ℕ) (S : State A) (r : ℕ) → r < length S.requests.all → Grows nothing (counts_of S) (counts_of (withdraw plan q S r))
withdrawn plan q S r there = request_changes_twice S r cancelled (away plan q S r) there

all_withdrawn : {A : Type 0} (plan : Plan) (q : ℕ) (rs : List ℕ) (S : State A) → AreThere (length S.requests.all) rs → Grows nothing (counts_of S) (counts_of (fold (withdraw plan q) S rs))
all_withdrawn plan q [] S there = no_more nothing (counts_of S)
all_withdrawn plan q (r ∷ rs) S there =
    let here : r < length S.requests.all = there 0 r (omega arith) in
    let same : length (withdraw plan q S r).requests.all ≡ length S.requests.all = kept_twice S.requests r cancelled (away plan q S r) here in
    grows_on (counts_of S) (counts_of (withdraw plan q S r)) (counts_of (fold (withdraw plan q) (withdraw plan q S r) rs)) (withdrawn plan q S r here)
    (all_withdrawn plan q rs (withdraw plan q S r) (λ k d short. let e = there (suc k) d (omega arith) in omega arith))

all_returning_closed : {A : Type 0} (qs : List ℕ) (S : State A) → Grows nothing (counts_of S) (counts_of (fold deeds.close_returning S qs))
all_returning_closed [] S = no_more nothing (counts_of S)
all_returning_closed (q ∷ qs) S =
    grows_on (counts_of S) (counts_of (deeds.close_returning S q)) (counts_of (fold deeds.close_returning (deeds.close_returning S q) qs))
    (requests_change nothing (counts_of S) (length (close_returning S.requests q).all) (length-map S.requests.all (closed_at (is_returning_to q))))
    (all_returning_closed qs (deeds.close_returning S q))

all_closed : {A : Type 0} (qs : List ℕ) (S : State A) → Grows nothing (counts_of S) (counts_of (fold close_queue S qs))
all_closed [] S = no_more nothing (counts_of S)
all_closed (q ∷ qs) S =
    grows_on (counts_of S) (counts_of (close_queue S q)) (counts_of (fold close_queue (close_queue S q) qs))
    (requests_change nothing (counts_of S) (length (close S.requests q).all) (length-map S.requests.all (closed_at (is_in q))))
    (all_closed qs (close_queue S q))

-- ---- levels

less_levels_by : (f level : ℕ) (l : HeldLevel) (ls : List HeldLevel) (b : Bool) → length (less_one f level ls) ≤ length ls → length (if b then ls else l ∷ less_one f level ls) ≤ length (l ∷ ls)
less_levels_by f level l ls true h = omega arith
less_levels_by f level l ls false h = omega arith

less_levels : (f level : ℕ) (ls : List HeldLevel) → length (less_one f level ls) ≤ length ls
less_levels f level [] = omega arith
less_levels f level (l ∷ ls) = less_levels_by f level l ls (l.frame.0 == f && l.level.0 == level) (less_levels f level ls)

levels_left : (C : Cpus) (f : Option ℕ) → length (levels_without C f) ≤ length C.levels
levels_left C None = omega arith
levels_left C (Some f) = filtered (λ (l : HeldLevel). not (l.frame.0 == f)) C.levels

-- a request is held from a queue from now on
held_from : {A : Type 0} (plan : Plan) (S : State A) (q r : ℕ) (Q : Queues) (d : Deed) → held_in Q ≡ held_in (hold S.queues q) → gains d Holding_more ≡ 1 → r < length S.requests.all
    → Grows (gains d) (counts_of S) (counts_of (record S { queues = Q; requests = requests.move_to S.requests r place.Owned; power = hold_power plan S.power r q }))
held_from {A} plan S q r Q d e one there =
    let holds : State A = record S { queues = Q; power = hold_power plan S.power r q } in
    let more = held_more S.queues q in
    let moves : State A = record holds { requests = requests.move_to S.requests r place.Owned } in
    grows_at_most (λ g. gains d g + nothing g) (gains d) (counts_of S) (counts_of moves) (λ g. omega arith)
    (grows_then (gains d) nothing (counts_of S) (counts_of holds) (counts_of moves) (held_changes (gains d) (counts_of S) (held_in Q) (omega arith)) (request_changes holds r (moved place.Owned) there))

-- ---- each deed

-- a deed that adds nothing
idle : {A : Type 0} (plan : Plan) (d : Deed) (S : State A) → Grows nothing (counts_of S) (counts_of (do_deed plan d S)) → Grows (gains d) (counts_of S) (counts_of (do_deed plan d S))
idle plan d S p = grows_less (gains d) (counts_of S) (counts_of (do_deed plan d S)) p

pub deed_grows : {A : Type 0} (plan : Plan) (d : Deed) (S : State A) → IsDoable plan d S → Grows (gains d) (counts_of S) (counts_of (do_deed plan d S))
deed_grows plan (Create k class parent) S h = object_made S (new_node k class parent.0) S.requests (Create k class parent) refl refl (λ h. omega arith) (omega arith)
deed_grows plan (MakeRequest class parent) S h = request_made S (new_node kind.Made class parent.0) place.Owned _ (MakeRequest class parent) refl refl
deed_grows plan (Arrive device info p) S h = arrives S device.0 info p
deed_grows plan (CountArrival agent) S h = arrivals_change (gains (CountArrival agent)) (counts_of S) (change_at 0 S.arrivals agent suc) (one_more S.arrivals agent)
deed_grows plan (AskDeletion o) S h = idle plan (AskDeletion o) S (all_asked (subtree S.tree o.0) S)
deed_grows plan (Refer o) S h = object_changes S o.0 (λ n. record n { references = n.references + 1 }) (gains (Refer o)) h.0 (omega arith)
deed_grows plan (Unrefer o) S h = object_changes S o.0 (λ n. record n { references = n.references - 1 }) (gains (Unrefer o)) h (omega arith)
deed_grows plan (WriteCell o k v) S h = object_changes S o.0 (λ n. record n { cells = slice_set n.cells k v }) (gains (WriteCell o k v)) h.0 (omega arith)
deed_grows plan (Note o c) S h = object_changes S o.0 (noted c) (gains (Note o c)) h (let e = noted_references c (node_of S.tree o.0) in omega arith)
deed_grows plan (CleanUp o) S h = object_changes S o.0 (with_life life.Cleaned) (gains (CleanUp o)) (within gone S.tree.nodes o.0 (λ (n : Node). is_asked n.life) refl h) (omega arith)
deed_grows plan (EndLife o) S h = idle plan (EndLife o) S (ended S o.0 (cleaned_before S o.0 h))
deed_grows plan (Raise f level) S h = levels_change (gains (Raise f level)) (counts_of S) (suc (length S.cpus.levels)) (omega arith)
deed_grows plan (Lower f level) S h = levels_change (gains (Lower f level)) (counts_of S) (length (less_one f.0 level.0 S.cpus.levels)) (let e = less_levels f.0 level.0 S.cpus.levels in omega arith)
deed_grows plan (PopFrame cpu) S h = levels_change (gains (PopFrame cpu)) (counts_of S) (length (levels_without S.cpus (top S.cpus cpu.0))) (let e = levels_left S.cpus (top S.cpus cpu.0) in omega arith)
deed_grows plan (TakeLock l f by_call) S h =
    let held : Held = record { lock = l; frame = record { 0 = f.0 }; by_call = by_call } in
    locks_change (gains (TakeLock l f by_call)) (counts_of S) (length (S.locks.held ++ held ∷ [])) (let e = length_push S.locks.held held in omega arith)
deed_grows plan (ReleaseLock l) S h =
    locks_change (gains (ReleaseLock l)) (counts_of S) (length (filter (λ x. not (same_lock x.lock l)) S.locks.held)) (let e = filtered (λ (x : Held). not (same_lock x.lock l)) S.locks.held in omega arith)
deed_grows plan (Present q r) S h = held_from plan S q.0 r.0 (queues.take S.queues q.0) (Present q r) refl refl h.1.request.there
deed_grows plan (Receive q r) S h = held_from plan S q.0 r.0 (hold S.queues q.0) (Receive q r) refl refl h.request.there
deed_grows plan (Requeue r q) S h = idle plan (Requeue r q) S (given_and_changed S r.0 (moved (queued q.0)) h.0.request.there)
deed_grows plan (Forward r q) S h = idle plan (Forward r q) S (given_and_changed S r.0 (moved (queued q.0)) h.0.request.there)
deed_grows plan (GiveBack r q) S h = idle plan (GiveBack r q) S (given_and_cancelled S r.0 cancelled (moved (withdrawn_place plan (give_up S r.0) q.0 r.0)) h.request.there)
deed_grows plan (Withdraw q r) S h = idle plan (Withdraw q r) S (withdrawn plan q.0 S r.0 h.there)
deed_grows plan (MarkRequest r) S h = idle plan (MarkRequest r) S (request_changes S r.0 marked h.there)
deed_grows plan (UnmarkRequest r) S h = idle plan (UnmarkRequest r) S (request_changes S r.0 unmarked h.there)
deed_grows plan (CancelRequest r) S h = idle plan (CancelRequest r) S (request_changes S r.0 cancelled h.there)
deed_grows plan (TakeCancel r) S h = idle plan (TakeCancel r) S (request_changes S r.0 (with_mark mark.Taken) h.there)
deed_grows plan (SendRequest r t forget) S h = idle plan (SendRequest r t forget) S (given_if S forget r.0 (moved (place.Sent (record { 0 = t.0 }))) h.0.request.there)
deed_grows plan (FinishSending r s) S h = idle plan (FinishSending r s) S (request_changes S r.0 (moved (finished_at (is_forgotten S.targets r.0) s (place_of S.requests r.0))) h.there)
deed_grows plan (ComeBack r) S h = idle plan (ComeBack r) S (request_changes S r.0 (moved place.Owned) h.there)
deed_grows plan (CompleteRequest r) S h = idle plan (CompleteRequest r) S (completed S r.0 h.request.there)
deed_grows plan (PurgeQueue q) S h = idle plan (PurgeQueue q) S (all_withdrawn plan q.0 (waiting_in S.queues q.0) (record S { control = control.set_mode S.control q.0 mode.Purged }) (λ k d short. h.requests (slice_index_or (waiting_in S.queues q.0) k d) (element_counts (waiting_in S.queues q.0) k d short)))
deed_grows plan (CloseReturning d) S h = idle plan (CloseReturning d) S (all_returning_closed (managed_queues plan d.0) S)
deed_grows plan (CloseDevice d) S h = idle plan (CloseDevice d) S (all_closed (queues_of plan d.0) (record S { control = control.shut S.control d.0 }))
deed_grows plan PassTick S h = clock_changes (gains PassTick) (counts_of S) (S.clock + 1) (omega arith)
deed_grows plan d S h = same_counts (gains d) (counts_of S) (counts_of (do_deed plan d S)) refl

-- ---- deeds one after another

-- how much some deeds add to each, at most
abbrev pub all_gains : List Deed → Gain → ℕ
all_gains ds g = count_by (is_gain g) ds

pub deeds_grow : {A : Type 0} (plan : Plan) (ds : List Deed) (S : State A) → AreDoable plan ds S → Grows (all_gains ds) (counts_of S) (counts_of (do_deeds plan ds S))
deeds_grow plan [] S h = no_more (all_gains []) (counts_of S)
deeds_grow plan (d ∷ ds) S h =
    grows_at_most (λ g. gains d g + all_gains ds g) (all_gains (d ∷ ds)) (counts_of S) (counts_of (do_deeds plan ds (do_deed plan d S))) (λ g. let e = count_cons (is_gain g) d ds in omega arith)
    (grows_then (gains d) (all_gains ds) (counts_of S) (counts_of (do_deed plan d S)) (counts_of (do_deeds plan ds (do_deed plan d S))) (deed_grows plan d S h.0) (deeds_grow plan ds (do_deed plan d S) h.1))
