-- Deeds that give values of the plan keep values of the plan.
use Rattle.std.proofs.Common.{if◌then◌else◌, ◌≡◌, ℕ, zero, suc, ◌+◌, ◌-◌, Bool, true, false, List, [], ◌∷◌, length, map, fold, replicate, slice_set, slice_index_or, Option, Some, None, inl, inr, refl, sym, subst, arith}
use Rattle.std.specs.Prelude.{⊤}
use Rattle.wdf_base.specs.Resolved.{IsResolved}
use Rattle.wdf_base.specs.declared.plan.Plan.{Plan}
use Rattle.wdf_base.specs.declared.object.Kind.{Kind}
use Rattle.wdf_base.specs.declared.object.Kind.TheVariants as kind
use Rattle.wdf_base.specs.declared.object.Life.TheVariants as life
use Rattle.wdf_base.specs.declared.object.Mark.TheVariants as marks
use Rattle.wdf_base.specs.declared.object.Place.{Place}
use Rattle.wdf_base.specs.declared.object.Place.TheVariants as place
use Rattle.wdf_base.specs.declared.object.RequestInfo.{RequestInfo}
use Rattle.wdf_base.specs.declared.call.Callback.{Callback}
use Rattle.wdf_base.specs.declared.call.Callback.TheVariants as callback
use Rattle.wdf_base.specs.declared.value.Status.TheVariants as status
use Rattle.wdf_base.specs.declared.value.Value.{Value}
use Rattle.wdf_base.specs.declared.value.Value.TheVariants.{Num}
use Rattle.wdf_base.specs.Lives.{is_live}
use Rattle.wdf_base.specs.Places.{is_marked, is_returning_to}
use Rattle.wdf_model.specs.declared.enums.Mode.TheVariants as mode
use Rattle.wdf_model.specs.declared.entries.Node.{Node}
use Rattle.wdf_model.specs.declared.entries.Request.{Request}
use Rattle.wdf_model.specs.declared.entries.Running.{Running}
use Rattle.wdf_model.specs.Tables.{entry, put}
use Rattle.wdf_model.specs.Plans.{managed_queues, queues_of}
use Rattle.wdf_model.specs.parts.Tree.{Tree, gone, life_of, nearest_device, new_node, next_id, node_of, noted, subtree, with_life, with_node}
use Rattle.wdf_model.specs.parts.Tree as tree
use Rattle.wdf_model.specs.parts.Cpus.{Cpus, blank_frame, frame_of, no_frame, running, top, without_frame}
use Rattle.wdf_model.specs.parts.Requests.{Requests, cancelled, closed_at, forgotten, info_of, is_in, is_over, made_info, marked, moved, no_request, place_of, request_of, unmarked, with_mark, with_request}
use Rattle.wdf_model.specs.parts.Requests as requests
use Rattle.wdf_model.specs.parts.Queues.{waiting_in}
use Rattle.wdf_model.specs.parts.Control as control
use Rattle.wdf_model.specs.parts.Targets.{is_forgotten}
use Rattle.wdf_model.specs.State.{State, withdrawn_place}
use Rattle.wdf_model.specs.declared.deed.Deed.{Deed}
use Rattle.wdf_model.specs.declared.deed.Deed.TheVariants.{Create, MakeRequest, Arrive, AskDeletion, Refer, Unrefer, WriteCell, Note, CleanUp, EndLife, PushFrame, GoOn, Raise, Lower, PopFrame, ParkFrame, UnparkFrame, TakeLock, ReleaseLock, Present, Receive, Requeue, Forward, GiveBack, Withdraw, MarkRequest, UnmarkRequest, CancelRequest, TakeCancel, SendRequest, FinishSending, ComeBack, CompleteRequest, PurgeQueue, CloseReturning, CloseDevice}
use Rattle.wdf_model.specs.rules.Deeds.{arrive_at, ask_object, close_queue, close_returning, do_deed, do_deeds, finished_at, give_up, give_up_if, queued, withdraw}
use Rattle.wdf_model.proofs.Counts.{one_or_two}
use Rattle.law_machine_base.proofs.Deletion.{object_live, object_off}
use Rattle.wdf_model.proofs.Maps.{entry_before, entry_last, entry_map, entry_put_other, entry_put_same, entry_set_other, set_read}
use Rattle.law_machine_lives.proofs.Lists.{Each}
use Rattle.law_machine_lives.proofs.PartsStay.{tree_stays}
use Rattle.law_machine_lives.proofs.QuietMoves.{quiet_cpus}
use Rattle.law_machine_lives.proofs.Readers.{tree_of, requests_of}
use Rattle.law_machine_lives.proofs.Stays.{asks_all, given, given_if, gives_up}
use Rattle.wdf_trace.specs.Events.{IsValueOf}
use Rattle.law_lines.proofs.ProperNames.{some_name}
use Rattle.law_lines.specs.Values.{HasFrameValues, HasPlanValues, HasSmallNumbers}

-- ---- what a deed gives

abbrev pub TellsOf : Plan → Deed → Type 0
TellsOf plan (PushFrame cpu f frame level) = HasFrameValues plan frame
TellsOf plan (GoOn f frame) = HasFrameValues plan frame
TellsOf plan (WriteCell o k v) = IsValueOf plan v
TellsOf plan (Arrive device info p) = HasSmallNumbers info
TellsOf plan _ = ⊤

abbrev pub AllTellOf : Plan → List Deed → Type 0
AllTellOf plan ds = Each (TellsOf plan) ds

-- ---- lists of values

-- what is read is of the plan, in the list or past it
abbrev pub AreValuesOf : Plan → List Value → Type 0
AreValuesOf plan vs = (k : ℕ) → IsValueOf plan (slice_index_or vs k (Num 0))

pub value_set : (plan : Plan) (vs : List Value) (i : ℕ) (v : Value) → IsValueOf plan v → AreValuesOf plan vs → AreValuesOf plan (slice_set vs i v)
value_set plan [] i v h each k = each k
value_set plan (x ∷ xs) zero v h each zero = h
value_set plan (x ∷ xs) zero v h each (suc k) = each (suc k)
value_set plan (x ∷ xs) (suc i) v h each zero = each zero
value_set plan (x ∷ xs) (suc i) v h each (suc k) = value_set plan xs i v h (λ j. each (suc j)) k

pub zeros : (plan : Plan) (n : ℕ) → AreValuesOf plan (replicate n (Num 0))
zeros plan zero k = omega arith
zeros plan (suc n) zero = omega arith
zeros plan (suc n) (suc k) = zeros plan n k

-- ---- frames

abbrev FramesOf : Plan → Cpus → Type 0
FramesOf plan C = (f : ℕ) → HasFrameValues plan (frame_of C f)

pub blank_of : (plan : Plan) → IsResolved plan → HasFrameValues plan blank_frame
blank_of plan h =
    let named = some_name plan h in
    record {
      own = (omega arith, omega (arith, named));
      nearest = (omega arith, omega (arith, named));
      carried = tt;
      size = omega arith;
      control = omega arith;
      variable = zeros plan 16;
      waits = tt;
    }

frame_put : (plan : Plan) (fs : List Running) (f : ℕ) (new : Running) → HasFrameValues plan new.frame → ((x : ℕ) → HasFrameValues plan (entry no_frame fs x).frame) → (x : ℕ) → HasFrameValues plan (entry no_frame (put no_frame fs f new) x).frame
frame_put plan fs f new h each x = elim (one_or_two x f) [
  | inl e ↦ rw e (subst (λ (r : Running). HasFrameValues plan r.frame) (sym (entry_put_same no_frame fs f new)) h)
  | inr n ↦ subst (λ (r : Running). HasFrameValues plan r.frame) (sym (entry_put_other no_frame fs f x new n)) (each x)
]

popped : (plan : Plan) → IsResolved plan → (C : Cpus) → FramesOf plan C → (there : Option ℕ) (x : ℕ) → HasFrameValues plan (entry no_frame (without_frame C there) x).frame
popped plan h C each None x = each x
popped plan h C each (Some f) x = frame_put plan C.frames f no_frame (blank_of plan h) each x

frames_by : {A : Type 0} (plan : Plan) → IsResolved plan → (d : Deed) (S : State A) → TellsOf plan d → FramesOf plan S.cpus → FramesOf plan (do_deed plan d S).cpus
frames_by plan h (PushFrame cpu f frame level) S t each = frame_put plan S.cpus.frames f.0 (record { frame = frame; level = record { 0 = level.0 } }) t each
frames_by plan h (GoOn f frame) S t each = frame_put plan S.cpus.frames f.0 (record (running S.cpus f.0) { frame = frame }) t each
frames_by plan h (PopFrame cpu) S t each = popped plan h S.cpus each (top S.cpus cpu.0)
frames_by plan h (ParkFrame cpu) S t each = each
frames_by plan h (UnparkFrame cpu f) S t each = each
frames_by plan h (Raise f level) S t each = each
frames_by plan h (Lower f level) S t each = each
frames_by plan h (TakeLock l f by_call) S t each = each
frames_by plan h (ReleaseLock l) S t each = each
frames_by plan h d S t each = subst (λ (C : Cpus). FramesOf plan C) (sym (quiet_cpus plan d S refl)) each

-- ---- context cells

abbrev CellsOf : Plan → Tree → Type 0
CellsOf plan T = (o : ℕ) → AreValuesOf plan (node_of T o).cells

node_changes : (plan : Plan) (T : Tree) (o : ℕ) (f : Node → Node) → AreValuesOf plan (f (node_of T o)).cells → CellsOf plan T → CellsOf plan (with_node T o f)
node_changes plan T o f h each x = elim (one_or_two x o) [
  | inl e ↦ rw e (subst (λ (n : Node). AreValuesOf plan n.cells) (sym (entry_put_same gone T.nodes o (f (node_of T o)))) h)
  | inr n ↦ subst (λ (n : Node). AreValuesOf plan n.cells) (sym (entry_put_other gone T.nodes o x (f (node_of T o)) n)) (each x)
]

node_comes : (plan : Plan) (T : Tree) (k : Kind) (class parent : ℕ) → CellsOf plan T → CellsOf plan (tree.create T k class parent)
node_comes plan T k class parent each x = elim (one_or_two x (length T.nodes)) [
  | inl e ↦ rw e (subst (λ (n : Node). AreValuesOf plan n.cells) (sym (entry_last gone T.nodes (new_node k class parent))) (zeros plan 8))
  | inr n ↦ subst (λ (n : Node). AreValuesOf plan n.cells) (sym (entry_before gone T.nodes (new_node k class parent) x n)) (each x)
]

asked_one : {A : Type 0} (plan : Plan) (S : State A) (x : ℕ) (b : Bool) → is_live (life_of S.tree x) ≡ b → CellsOf plan S.tree → CellsOf plan (ask_object S x).tree
asked_one {A} plan S x true e each = subst (λ (U : State A). CellsOf plan U.tree) (sym (object_live S x e)) (node_changes plan S.tree x (with_life life.Asked) (each x) each)
asked_one {A} plan S x false e each = subst (λ (U : State A). CellsOf plan U.tree) (sym (object_off S x e)) each

asked_all : {A : Type 0} (plan : Plan) (xs : List ℕ) (S : State A) → CellsOf plan S.tree → CellsOf plan (fold ask_object S xs).tree
asked_all plan [] S each = each
asked_all plan (x ∷ xs) S each = asked_all plan xs (ask_object S x) (asked_one plan S x (is_live (life_of S.tree x)) refl each)

noted_cells : (plan : Plan) (c : Callback) (n : Node) → AreValuesOf plan n.cells → AreValuesOf plan (noted c n).cells
noted_cells plan callback.EvtDestroyCallback n each = each
noted_cells plan _ n each = each

arrived_tree : {A : Type 0} (plan : Plan) (S : State A) (device : ℕ) (info : RequestInfo) (p : Place) → CellsOf plan S.tree → CellsOf plan (arrive_at S device info p).tree
arrived_tree plan S device info (place.Queued q) each = node_comes plan S.tree kind.Request 0 device each
arrived_tree plan S device info _ each = node_comes plan S.tree kind.Request 0 device each

same_cells : (plan : Plan) (T U : Tree) → U ≡ T → CellsOf plan T → CellsOf plan U
same_cells plan T U e each = subst (λ (V : Tree). CellsOf plan V) (sym e) each

cells_by : {A : Type 0} (plan : Plan) (d : Deed) (S : State A) → TellsOf plan d → CellsOf plan S.tree → CellsOf plan (do_deed plan d S).tree
cells_by plan (Create k class parent) S t each = node_comes plan S.tree k class parent.0 each
cells_by plan (MakeRequest class parent) S t each = node_comes plan S.tree kind.Made class parent.0 each
cells_by plan (Arrive device info p) S t each = arrived_tree plan S device.0 info p each
cells_by plan (AskDeletion o) S t each = asked_all plan (subtree S.tree o.0) S each
cells_by plan (Refer o) S t each = node_changes plan S.tree o.0 (λ n. record n { references = n.references + 1 }) (each o.0) each
cells_by plan (Unrefer o) S t each = node_changes plan S.tree o.0 (λ n. record n { references = n.references - 1 }) (each o.0) each
cells_by plan (WriteCell o k v) S t each = node_changes plan S.tree o.0 (λ n. record n { cells = slice_set n.cells k v }) (value_set plan (node_of S.tree o.0).cells k v t (each o.0)) each
cells_by plan (Note o c) S t each = node_changes plan S.tree o.0 (noted c) (noted_cells plan c (node_of S.tree o.0) (each o.0)) each
cells_by plan (CleanUp o) S t each = node_changes plan S.tree o.0 (with_life life.Cleaned) (each o.0) each
cells_by plan (EndLife o) S t each = node_changes plan S.tree o.0 (λ _. gone) (zeros plan 8) each
cells_by plan (CompleteRequest r) S t each =
    asked_all plan (subtree (give_up S r.0).tree r.0) (record (give_up S r.0) { requests = requests.complete S.requests r.0 }) (same_cells plan S.tree _ (gives_up tree_of (λ S Q R P. refl) S r.0) each)
cells_by plan d S t each = same_cells plan S.tree _ (tree_stays plan d S refl) each

-- ---- requests

abbrev AreSmall : Requests → Type 0
AreSmall R = (r : ℕ) → HasSmallNumbers (info_of R r)

one_changes : (R : Requests) (r : ℕ) (f : Request → Request) → HasSmallNumbers (f (request_of R r)).info → AreSmall R → AreSmall (with_request R r f)
one_changes R r f h each x = elim (one_or_two x r) [
  | inl e ↦ rw e (subst (λ (q : Request). HasSmallNumbers q.info) (sym (entry_put_same no_request R.all r (f (request_of R r)))) h)
  | inr n ↦ subst (λ (q : Request). HasSmallNumbers q.info) (sym (entry_put_other no_request R.all r x (f (request_of R r)) n)) (each x)
]

one_comes : (R : Requests) (r : ℕ) (p : Place) (info : RequestInfo) → HasSmallNumbers info → AreSmall R → AreSmall (requests.arrive R r p info)
one_comes R r p info h each x = elim (one_or_two x r) [
  | inl e ↦ rw e (subst (λ (q : Request). HasSmallNumbers q.info) (sym (entry_put_same no_request R.all r (record { place = p; info = info }))) h)
  | inr n ↦ subst (λ (q : Request). HasSmallNumbers q.info) (sym (entry_put_other no_request R.all r x (record { place = p; info = info }) n)) (each x)
]

moves : (R : Requests) (r : ℕ) (p : Place) → AreSmall R → AreSmall (requests.move_to R r p)
moves R r p each = one_changes R r (moved p) (each r) each

cancels : (R : Requests) (r : ℕ) → AreSmall R → AreSmall (requests.cancel R r)
cancels R r each = one_changes R r cancelled (each r) each

either_small : (b : Bool) (p q : Request) → HasSmallNumbers p.info → HasSmallNumbers q.info → HasSmallNumbers (if b then p else q).info
either_small true p q h k = h
either_small false p q h k = k

all_close : (R : Requests) (here : Place → Bool) → here place.Done ≡ false → AreSmall R → AreSmall (record R { all = map (closed_at here) R.all })
all_close R here off each x =
    let blank : closed_at here no_request ≡ no_request = rw off refl in
    let same : request_of (record R { all = map (closed_at here) R.all }) x ≡ closed_at here (request_of R x) = entry_map no_request R.all (closed_at here) x blank in
    subst (λ (q : Request). HasSmallNumbers q.info) (sym same) (either_small (here (request_of R x).place) (moved (place.Closing status.Cancelled) (request_of R x)) (request_of R x) (each x) (each x))

none_small : HasSmallNumbers (made_info 0)
none_small = (omega arith, omega arith)

forgets : (R : Requests) (r : ℕ) → AreSmall R → AreSmall (requests.forget R r)
forgets R r each x = elim (one_or_two x r) [
  | inl e ↦
      let here : request_of (requests.forget R r) r ≡ forgotten (request_of R r) = set_read no_request forgotten R.all r refl in
      rw e (subst (λ (q : Request). HasSmallNumbers q.info) (sym here) (either_small (is_over (request_of R r)) no_request (request_of R r) none_small (each r)))
  | inr n ↦ subst (λ (q : Request). HasSmallNumbers q.info) (sym (entry_set_other no_request R.all r x (forgotten (request_of R r)) n)) (each x)
]

same_small : (R U : Requests) → U ≡ R → AreSmall R → AreSmall U
same_small R U e each = subst (λ (V : Requests). AreSmall V) (sym e) each

all_withdrawn : {A : Type 0} (plan : Plan) (q : ℕ) (rs : List ℕ) (S : State A) → AreSmall S.requests → AreSmall (fold (withdraw plan q) S rs).requests
all_withdrawn plan q [] S each = each
all_withdrawn plan q (r ∷ rs) S each = all_withdrawn plan q rs (withdraw plan q S r) (moves (requests.cancel S.requests r) r _ (cancels S.requests r each))

all_returning : {A : Type 0} (qs : List ℕ) (S : State A) → AreSmall S.requests → AreSmall (fold close_returning S qs).requests
all_returning [] S each = each
all_returning (q ∷ qs) S each = all_returning qs (close_returning S q) (all_close S.requests (is_returning_to q) refl each)

all_closed : {A : Type 0} (qs : List ℕ) (S : State A) → AreSmall S.requests → AreSmall (fold close_queue S qs).requests
all_closed [] S each = each
all_closed (q ∷ qs) S each = all_closed qs (close_queue S q) (all_close S.requests (is_in q) refl each)

arrived_small : {A : Type 0} (S : State A) (device : ℕ) (info : RequestInfo) (p : Place) → HasSmallNumbers info → AreSmall S.requests → AreSmall (arrive_at S device info p).requests
arrived_small S device info (place.Queued q) h each = one_comes S.requests (next_id S.tree) (place.Queued q) info h each
arrived_small S device info (place.Returning q) h each = one_comes S.requests (next_id S.tree) (place.Returning q) info h each
arrived_small S device info (place.Closing s) h each = one_comes S.requests (next_id S.tree) (place.Closing s) info h each
arrived_small S device info place.Owned h each = one_comes S.requests (next_id S.tree) place.Owned info h each
arrived_small S device info (place.Sent t) h each = one_comes S.requests (next_id S.tree) (place.Sent t) info h each
arrived_small S device info place.Done h each = one_comes S.requests (next_id S.tree) place.Done info h each

given_up : {A : Type 0} (S : State A) (r : ℕ) → AreSmall S.requests → AreSmall (give_up S r).requests
given_up S r each = same_small S.requests _ (given requests_of (λ S Q P. refl) S r) each

requests_by : {A : Type 0} (plan : Plan) (d : Deed) (S : State A) → TellsOf plan d → AreSmall S.requests → AreSmall (do_deed plan d S).requests
requests_by plan (MakeRequest class parent) S t each = one_comes S.requests (next_id S.tree) place.Owned (made_info (nearest_device S.tree parent.0)) none_small each
requests_by plan (Arrive device info p) S t each = arrived_small S device.0 info p t each
requests_by plan (AskDeletion o) S t each = same_small S.requests _ (asks_all requests_of (λ S T D W U. refl) (subtree S.tree o.0) S) each
requests_by plan (EndLife o) S t each = forgets S.requests o.0 each
requests_by plan (Present q r) S t each = moves S.requests r.0 place.Owned each
requests_by plan (Receive q r) S t each = moves S.requests r.0 place.Owned each
requests_by plan (Requeue r q) S t each = moves (give_up S r.0).requests r.0 (queued q.0) (given_up S r.0 each)
requests_by plan (Forward r q) S t each = moves (give_up S r.0).requests r.0 (queued q.0) (given_up S r.0 each)
requests_by plan (GiveBack r q) S t each = moves (requests.cancel (give_up S r.0).requests r.0) r.0 (withdrawn_place plan (give_up S r.0) q.0 r.0) (cancels (give_up S r.0).requests r.0 (given_up S r.0 each))
requests_by plan (Withdraw q r) S t each = moves (requests.cancel S.requests r.0) r.0 _ (cancels S.requests r.0 each)
requests_by plan (MarkRequest r) S t each = one_changes S.requests r.0 marked (either_small (request_of S.requests r.0).info.cancelled (request_of S.requests r.0) (with_mark marks.Marked (request_of S.requests r.0)) (each r.0) (each r.0)) each
requests_by plan (UnmarkRequest r) S t each = one_changes S.requests r.0 unmarked (either_small (is_marked (request_of S.requests r.0).info.mark) (with_mark marks.Unmarked (request_of S.requests r.0)) (request_of S.requests r.0) (each r.0) (each r.0)) each
requests_by plan (CancelRequest r) S t each = cancels S.requests r.0 each
requests_by plan (TakeCancel r) S t each = one_changes S.requests r.0 (with_mark marks.Taken) (each r.0) each
requests_by plan (SendRequest r u forget) S t each =
    moves (give_up_if forget S r.0).requests r.0 (place.Sent (record { 0 = u.0 })) (same_small S.requests _ (given_if requests_of (λ S Q P. refl) S forget r.0) each)
requests_by plan (FinishSending r s) S t each = moves S.requests r.0 (finished_at (is_forgotten S.targets r.0) s (place_of S.requests r.0)) each
requests_by plan (ComeBack r) S t each = moves S.requests r.0 place.Owned each
requests_by plan (CompleteRequest r) S t each =
    same_small (requests.complete S.requests r.0) _ (asks_all requests_of (λ S T D W U. refl) (subtree (give_up S r.0).tree r.0) (record (give_up S r.0) { requests = requests.complete S.requests r.0 })) (moves S.requests r.0 place.Done each)
requests_by plan (PurgeQueue q) S t each = all_withdrawn plan q.0 (waiting_in S.queues q.0) (record S { control = control.set_mode S.control q.0 mode.Purged }) each
requests_by plan (CloseReturning d) S t each = all_returning (managed_queues plan d.0) S each
requests_by plan (CloseDevice d) S t each = all_closed (queues_of plan d.0) (record S { control = control.shut S.control d.0 }) each
requests_by plan _ S t each = each

-- ---- all of it

pub deed_values : {A : Type 0} (plan : Plan) → IsResolved plan → (d : Deed) (S : State A) → TellsOf plan d → HasPlanValues plan S → HasPlanValues plan (do_deed plan d S)
deed_values plan h d S t k = record {
  frames = frames_by plan h d S t k.frames;
  cells = cells_by plan d S t k.cells;
  requests = requests_by plan d S t k.requests;
}

pub deeds_values : {A : Type 0} (plan : Plan) → IsResolved plan → (ds : List Deed) (S : State A) → AllTellOf plan ds → HasPlanValues plan S → HasPlanValues plan (do_deeds plan ds S)
deeds_values plan h [] S t k = k
deeds_values plan h (d ∷ ds) S t k = deeds_values plan h ds (do_deed plan d S) t.1 (deed_values plan h d S t.0 k)
