-- Each deed that fits keeps places, lines, targets and kinds in step: a line for each.
use Rattle.std.proofs.Common.{map, is_none, if◌then◌else◌, ◌≡◌, ◌≢◌, ℕ, suc, ◌+◌, ◌-◌, ◌==◌, ◌≤◌, nat_lt, Bool, true, false, not, ◌&&◌, ◌||◌, List, [], ◌∷◌, ◌++◌, ◌⊎◌, inl, inr, Option, Some, None, is_some, slice_set, fold, length, count_by, refl, ap, sym, subst, ◌∙◌, arith, length-append}
use Rattle.std.proofs.lemmas.List.{length-map}
use Rattle.std.proofs.lemmas.Bool.{cases_Bool, or_cases}
use Rattle.std.specs.List.{list_all}
use Rattle.wdf_base.specs.declared.plan.Plan.{Plan}
use Rattle.wdf_base.specs.declared.object.Kind.{Kind}
use Rattle.wdf_base.specs.declared.object.Kind.TheVariants as kind
use Rattle.wdf_base.specs.declared.object.Life.TheVariants as life
use Rattle.wdf_base.specs.declared.object.Place.{Place}
use Rattle.wdf_base.specs.declared.object.Place.TheVariants as place
use Rattle.wdf_base.specs.declared.object.RequestInfo.{RequestInfo}
use Rattle.wdf_base.specs.declared.call.Callback.{Callback}
use Rattle.wdf_base.specs.declared.call.Callback.TheVariants as callback
use Rattle.wdf_base.specs.declared.value.Status.TheVariants as status
use Rattle.wdf_base.specs.Same.{same_kind}
use Rattle.wdf_model.specs.declared.enums.Mode.TheVariants as mode
use Rattle.wdf_model.specs.declared.entries.Node.{Node}
use Rattle.wdf_model.specs.declared.entries.Request.{Request}
use Rattle.wdf_model.specs.declared.entries.Sending.{Sending}
use Rattle.wdf_model.specs.Plans.{managed_queues, queues_of}
use Rattle.wdf_model.specs.Tables.{flag}
use Rattle.wdf_model.specs.parts.Tree.{Tree, gone, is_full, kind_of, life_of, nearest_device, new_node, next_id, node_of, noted, subtree, with_life, with_node}
use Rattle.wdf_model.specs.parts.Tree as tree
use Rattle.wdf_model.specs.parts.Requests.{Requests, cancelled, has_arrived, mark_of, made_info, marked, moved, place_of, unmarked, with_mark, is_over, no_request, request_of, closed_at, is_in}
use Rattle.wdf_model.specs.parts.Requests as requests
use Rattle.wdf_base.specs.declared.object.Mark.TheVariants as mark
use Rattle.wdf_base.specs.Lives.{is_live}
use Rattle.wdf_base.specs.Places.{is_closing, is_done, is_due, is_marked, is_owned, is_queued_in, is_returning_to, is_sent, is_sent_to}
use Rattle.wdf_model.specs.parts.Queues.{Queues, waiting_in}
use Rattle.wdf_model.specs.parts.Queues as queues
use Rattle.wdf_model.specs.parts.Control.{accepts}
use Rattle.wdf_model.specs.parts.Control as control
use Rattle.wdf_model.specs.parts.Targets.{Target, Targets, is_forgotten, is_undone, routine_due, the_target, with_target}
use Rattle.wdf_model.specs.parts.Targets as targets
use Rattle.wdf_model.specs.parts.Power.{Power}
use Rattle.wdf_model.specs.State.{State, held_at, is_with_driver, withdrawn_place}
use Rattle.wdf_model.specs.declared.deed.Deed.{Deed}
use Rattle.wdf_model.specs.declared.deed.Deed.TheVariants.{Create, MakeRequest, Arrive, AskDeletion, Refer, Unrefer, WriteCell, Note, CleanUp, EndLife, Present, Receive, Requeue, Forward, GiveBack, Withdraw, MarkRequest, UnmarkRequest, CancelRequest, TakeCancel, SendRequest, FinishSending, ComeBack, CompleteRequest, PurgeQueue, CloseDevice, CloseReturning, StopTarget, StartTarget}
use Rattle.wdf_model.specs.rules.Deeds.{arrive_at, ask_object, ask_objects, close_queue, close_returning, do_deed, do_deeds, give_up, give_up_if, queued, release_line, withdraw}
use Rattle.wdf_model.specs.rules.Faults.{is_request_kind, is_never_deleted}
use Rattle.wdf_model.specs.rules.Calls.{may_send}
use Rattle.law_machine_base.specs.Fits.{all_fit, fits, is_arrival_place, is_given, is_reached}
use Rattle.wdf_model.proofs.Tests.{both_left, both_right, not_true, either_false}
use Rattle.wdf_model.proofs.Sames.{kind_decides}
use Rattle.wdf_model.proofs.Maps.{entry_before, entry_last, entry_put_other, entry_put_same, put_long, entry_blanked, entry_set_other, set_as_it_was, as_long, entry_map}
use Rattle.law_machine_base.proofs.Deletion.{object_live, object_off}
use Rattle.wdf_model.proofs.Counts.{at_head, equal, one_or_two, both_fewer}
use Rattle.law_machine_base.proofs.Kept.{Kept, arrived, is_made_place, forgets, is_request, kept_by_move, sends, stands}
use Rattle.law_machine_base.proofs.KeptMoves.{Enters, arrived_within, enter_line, enters_others, enters_once, head_enters, is_still, marks_change, present_front, request_here, request_elsewhere, same_lines, same_targets, same_tree, still_move, tail_enters, target_elsewhere, target_here, withdraw_from_line, within, still_unqueued, still_unsent, queue_elsewhere, queue_here, queued_once}
use Rattle.law_machine_base.proofs.KeptTargets.{come_back, finish_sending, new_request, nowhere_yet, send_request}

-- the invariant in a state
abbrev pub KeptIn : {A : Type 0} → (ℕ → Bool) → (ℕ → Bool) → State A → Type 0
KeptIn F B S = Kept F B S.requests S.queues S.targets S.tree

-- ---- objects

-- an object is changed, and becomes no request
tree_changes : {F B : ℕ → Bool} {R : Requests} {Q : Queues} {T : Targets} {N : Tree} (o : ℕ) (f : Node → Node) → Kept F B R Q T N → ((n : Node) → same_kind (f n).kind kind.Request ≡ true → same_kind n.kind kind.Request ≡ true)
    → Kept F B R Q T (with_node N o f)
tree_changes {N = N} o f k kinds = same_tree k
    (λ x h. elim (one_or_two x o) [
      | inl e ↦ rw e (kinds (node_of N o) (sym (ap (λ (n : Node). same_kind n.kind kind.Request) (entry_put_same gone N.nodes o (f (node_of N o)))) ∙ rw e at h))
      | inr n ↦ sym (ap (λ (n : Node). same_kind n.kind kind.Request) (entry_put_other gone N.nodes o x (f (node_of N o)) n)) ∙ h
    ])
    (put_long gone N.nodes o (f (node_of N o)))

isnt_request : (k : Kind) → is_request_kind k ≡ false → same_kind k kind.Request ≡ true → ⊥
isnt_request k h e = let same : k ≡ kind.Request = (kind_decides k kind.Request).0 e in let f = rw same at h in let z : ⊥ = cc in z

object_made : {F B : ℕ → Bool} {R : Requests} {Q : Queues} {T : Targets} {N : Tree} (what : Kind) (class parent : ℕ) → Kept F B R Q T N → is_request_kind what ≡ false → Kept F B R Q T (tree.create N what class parent)
object_made {N = N} what class parent k h = same_tree k
    (λ x e. elim (one_or_two x (next_id N)) [
      | inl same ↦ absurd (isnt_request what h (sym (ap (λ (n : Node). same_kind n.kind kind.Request) (entry_last gone N.nodes (new_node what class parent))) ∙ rw same at e))
      | inr n ↦ sym (ap (λ (n : Node). same_kind n.kind kind.Request) (entry_before gone N.nodes (new_node what class parent) x n)) ∙ e
    ])
    (let e : length (N.nodes ++ new_node what class parent ∷ []) ≡ suc (length N.nodes) = omega (arith, length-append N.nodes (new_node what class parent ∷ [])) in omega arith)

noted_kind : (c : Callback) (n : Node) → (noted c n).kind ≡ n.kind
noted_kind callback.EvtCleanupCallback n = refl
noted_kind callback.EvtDestroyCallback n = refl
noted_kind _ n = refl

object_asked : {A : Type 0} {F B : ℕ → Bool} (S : State A) (x : ℕ) (b : Bool) → is_live (life_of S.tree x) ≡ b → KeptIn F B S → KeptIn F B (ask_object S x)
object_asked {A = A} {F = F} {B = B} S x true h k = subst (λ (T : State A). KeptIn F B T) (sym (object_live S x h)) (tree_changes x (with_life life.Asked) k (λ n e. e))
object_asked {A = A} {F = F} {B = B} S x false h k = subst (λ (T : State A). KeptIn F B T) (sym (object_off S x h)) k

all_asked : {A : Type 0} {F B : ℕ → Bool} (xs : List ℕ) (S : State A) → KeptIn F B S → KeptIn F B (fold ask_object S xs)
all_asked [] S k = k
all_asked (x ∷ xs) S k = all_asked xs (ask_object S x) (object_asked S x (is_live (life_of S.tree x)) refl k)

asked : {A : Type 0} {F B : ℕ → Bool} (S : State A) (o : ℕ) → KeptIn F B S → KeptIn F B (ask_objects S o)
asked S o k = all_asked (subtree S.tree o) S k

-- ---- the driver gives up a request

pub record GivesUp {A : Type 0} (S U : State A) : Type 0 where
  pub queues : (q : ℕ) → waiting_in U.queues q ≡ waiting_in S.queues q
  pub requests : U.requests ≡ S.requests
  pub targets : U.targets ≡ S.targets
  pub tree : U.tree ≡ S.tree

released : (Q : Queues) (from : Option ℕ) (q : ℕ) → waiting_in (release_line Q from) q ≡ waiting_in Q q
released Q None q = refl
released Q (Some p) q = refl

gives_up_by : {A : Type 0} (S : State A) (b : Bool) (from : Option ℕ) (power : Power) → GivesUp S (if b then record S { queues = release_line S.queues from; power = power } else S)
gives_up_by S true from power = record { queues = λ q. released S.queues from q; requests = refl; targets = refl; tree = refl }
gives_up_by S false from power = record { queues = λ q. refl; requests = refl; targets = refl; tree = refl }

gives_up : {A : Type 0} (S : State A) (r : ℕ) → GivesUp S (give_up S r)
gives_up S r = gives_up_by S (is_with_driver S r) _ _

gives_up_if : {A : Type 0} (S : State A) (r : ℕ) (forget : Bool) → GivesUp S (give_up_if forget S r)
gives_up_if S r true = gives_up S r
gives_up_if S r false = record { queues = λ q. refl; requests = refl; targets = refl; tree = refl }

-- the invariant with the parts of either state
mixed : {A : Type 0} {F B : ℕ → Bool} (S U : State A) → GivesUp S U → KeptIn F B S → Kept F B S.requests U.queues S.targets S.tree
mixed S U g k = same_lines k g.queues

all_given_up : {A : Type 0} {F B : ℕ → Bool} (S U : State A) → GivesUp S U → KeptIn F B S → KeptIn F B U
all_given_up {F = F} {B = B} S U g k =
    subst (λ (N : Tree). Kept F B U.requests U.queues U.targets N) (sym g.tree)
    (subst (λ (T : Targets). Kept F B U.requests U.queues T S.tree) (sym g.targets)
    (subst (λ (R : Requests). Kept F B R U.queues S.targets S.tree) (sym g.requests) (mixed S U g k)))

given_up_sent : {A : Type 0} {F B : ℕ → Bool} (S U : State A) → GivesUp S U → KeptIn F B S → Kept F B U.requests U.queues S.targets U.tree
given_up_sent {F = F} {B = B} S U g k =
    subst (λ (N : Tree). Kept F B U.requests U.queues S.targets N) (sym g.tree)
    (subst (λ (R : Requests). Kept F B R U.queues S.targets S.tree) (sym g.requests) (mixed S U g k))

given_up_done : {A : Type 0} {F B : ℕ → Bool} (S U : State A) → GivesUp S U → KeptIn F B S → Kept F B S.requests U.queues U.targets U.tree
given_up_done {F = F} {B = B} S U g k =
    subst (λ (N : Tree). Kept F B S.requests U.queues U.targets N) (sym g.tree)
    (subst (λ (T : Targets). Kept F B S.requests U.queues T S.tree) (sym g.targets) (mixed S U g k))

still_given : {A : Type 0} (S U : State A) (r : ℕ) → GivesUp S U → is_given S r ≡ true → is_given U r ≡ true
still_given S U r g h =
    ap (λ (R : Requests). is_owned (place_of R r) && same_kind (kind_of U.tree r) kind.Request) g.requests
    ∙ ap (λ (N : Tree). is_owned (place_of S.requests r) && same_kind (kind_of N r) kind.Request) g.tree ∙ h

-- ---- places

pub owned_undone : (p : Place) → is_owned p ≡ true → is_done p ≡ false
owned_undone place.Done h = absurd (let z : ⊥ = cc in z)
owned_undone _ h = refl

owned_still : (p : Place) → is_owned p ≡ true → is_still p ≡ true
owned_still (place.Queued q) h = absurd (let z : ⊥ = cc in z)
owned_still (place.Sent t) h = absurd (let z : ⊥ = cc in z)
owned_still _ h = refl

reached_undone : (p : Place) → is_reached p ≡ true → is_done p ≡ false
reached_undone place.Done h = absurd (let z : ⊥ = cc in z)
reached_undone _ h = refl

pub closing_undone : (p : Place) → is_closing p ≡ true → (is_done p ≡ false) × (is_still p ≡ true) × (is_made_place p ≡ false)
closing_undone (place.Closing s) h = (refl, refl, refl)
closing_undone _ h = absurd (let z : ⊥ = cc in z)

returning_undone : (q : ℕ) (p : Place) → is_returning_to q p ≡ true → (is_done p ≡ false) × (is_still p ≡ true) × (is_made_place p ≡ false)
returning_undone q (place.Returning r) h = (refl, refl, refl)
returning_undone q _ h = absurd (let z : ⊥ = cc in z)

queued_unmade : (q : ℕ) (p : Place) → is_queued_in q p ≡ true → is_made_place p ≡ false
queued_unmade q (place.Queued r) h = refl
queued_unmade q _ h = absurd (let z : ⊥ = cc in z)

unmade_unsent : (t : ℕ) (p : Place) → is_made_place p ≡ false → is_sent_to t p ≡ false
unmade_unsent t (place.Sent u) h = absurd (let z : ⊥ = cc in z)
unmade_unsent t _ h = refl

unmade_undone : (p : Place) → is_made_place p ≡ false → is_done p ≡ false
unmade_undone place.Done h = absurd (let z : ⊥ = cc in z)
unmade_undone _ h = refl

sent_is_reached : (p : Place) → is_sent p ≡ true → is_done p ≡ false
sent_is_reached place.Done h = absurd (let z : ⊥ = cc in z)
sent_is_reached _ h = refl

withdrawn_by : (b : Bool) (q : ℕ) → (is_still (if b then place.Returning (record { 0 = q }) else place.Closing status.Cancelled) ≡ true) × (is_made_place (if b then place.Returning (record { 0 = q }) else place.Closing status.Cancelled) ≡ false)
withdrawn_by true q = (refl, refl)
withdrawn_by false q = (refl, refl)

held_undone : (forgotten : Bool) (p : Place) → held_at forgotten p ≡ true → is_done p ≡ false
held_undone forgotten place.Done h = absurd (let z : ⊥ = cc in z)
held_undone forgotten _ h = refl

-- a request that is where none is that the driver made
pub came_by_place : {F B : ℕ → Bool} {R : Requests} {Q : Queues} {T : Targets} {N : Tree} (r : ℕ) → Kept F B R Q T N → is_made_place (place_of R r) ≡ false → arrived R r ≡ true
came_by_place {R = R} r k h = elim (cases_Bool (arrived R r)) [
  | inl e ↦ e
  | inr e ↦ absurd (let made = k.made r e in let z : ⊥ = cc in z)
]

pub came_by_kind : {A : Type 0} {F B : ℕ → Bool} (S : State A) (r : ℕ) → KeptIn F B S → is_given S r ≡ true → arrived S.requests r ≡ true
came_by_kind S r k h = k.kinds r (both_right (is_owned (place_of S.requests r)) (same_kind (kind_of S.tree r) kind.Request) h)

pub owned_of : {A : Type 0} (S : State A) (r : ℕ) → is_given S r ≡ true → is_owned (place_of S.requests r) ≡ true
owned_of S r h = both_left (is_owned (place_of S.requests r)) (same_kind (kind_of S.tree r) kind.Request) h

-- ---- cancels in a queue

cancel_marks : {F B : ℕ → Bool} {R : Requests} {Q : Queues} {T : Targets} {N : Tree} (r : ℕ) → Kept F B R Q T N → is_done (place_of R r) ≡ false → Kept F B (requests.cancel R r) Q T N
cancel_marks {R = R} r k h = marks_change r cancelled k (within R r h) (λ q. refl) (λ q. refl)

cancel_here : (R : Requests) (r : ℕ) → place_of (requests.cancel R r) r ≡ place_of R r
cancel_here R r = ap (λ (q : Request). q.place) (request_here R r cancelled)

cancel_arrived : (R : Requests) (r : ℕ) → arrived (requests.cancel R r) r ≡ arrived R r
cancel_arrived R r = ap has_arrived (request_here R r cancelled)

given_back : {A : Type 0} {F B : ℕ → Bool} (plan : Plan) (U : State A) (q r : ℕ) → KeptIn F B U → is_given U r ≡ true
    → Kept F B (requests.move_to (requests.cancel U.requests r) r (withdrawn_place plan U q r)) U.queues U.targets U.tree
given_back plan U q r k h =
    let owned : is_owned (place_of U.requests r) ≡ true = owned_of U r h in
    let there : is_done (place_of U.requests r) ≡ false = owned_undone (place_of U.requests r) owned in
    let came : arrived U.requests r ≡ true = came_by_kind U r k h in
    still_move r (withdrawn_place plan U q r) (cancel_marks r k there) (ap is_done (cancel_here U.requests r) ∙ there) (ap is_still (cancel_here U.requests r) ∙ owned_still (place_of U.requests r) owned)
    (withdrawn_by _ q).0
    (λ n. absurd (let yes : arrived (requests.cancel U.requests r) r ≡ true = cancel_arrived U.requests r ∙ came in let z : ⊥ = cc in z))

withdrawn : {A : Type 0} {F B : ℕ → Bool} (plan : Plan) (q : ℕ) (S : State A) (r : ℕ) → KeptIn F B S → is_made_place (place_of S.requests r) ≡ false → KeptIn F B (withdraw plan q S r)
withdrawn plan q S r k h =
    let there : is_done (place_of S.requests r) ≡ false = unmade_undone (place_of S.requests r) h in
    let came : arrived S.requests r ≡ true = came_by_place r k h in
    withdraw_from_line r (withdrawn_place plan (record S { queues = queues.take_cancelled S.queues r }) q r) (cancel_marks r k there)
    (ap is_done (cancel_here S.requests r) ∙ there)
    (λ t. ap (is_sent_to t) (cancel_here S.requests r) ∙ unmade_unsent t (place_of S.requests r) h)
    (withdrawn_by _ q).0
    (λ n. absurd (let yes : arrived (requests.cancel S.requests r) r ≡ true = cancel_arrived S.requests r ∙ came in let z : ⊥ = cc in z))

-- a request that was withdrawn, or another, may be withdrawn still
stays_unmade : {A : Type 0} (plan : Plan) (q : ℕ) (S : State A) (r x : ℕ) → is_made_place (place_of S.requests x) ≡ false → (x ≡ r) ⊎ (x ≢ r) → is_made_place (place_of (withdraw plan q S r).requests x) ≡ false
stays_unmade plan q S r x h (inl e) =
    rw e (ap (λ (y : Request). is_made_place y.place) (request_here (requests.cancel S.requests r) r (moved (withdrawn_place plan (record S { queues = queues.take_cancelled S.queues r }) q r))) ∙ (withdrawn_by _ q).1)
stays_unmade plan q S r x h (inr n) =
    ap (λ (y : Request). is_made_place y.place) (request_elsewhere (requests.cancel S.requests r) r x (moved (withdrawn_place plan (record S { queues = queues.take_cancelled S.queues r }) q r)) n ∙ request_elsewhere S.requests r x cancelled n) ∙ h

all_withdrawn : {A : Type 0} {F B : ℕ → Bool} (plan : Plan) (q : ℕ) (rs : List ℕ) (S : State A) → KeptIn F B S → ((x : ℕ) → 1 ≤ count_by (λ y. y == x) rs → is_made_place (place_of S.requests x) ≡ false)
    → KeptIn F B (fold (withdraw plan q) S rs)
all_withdrawn plan q [] S k h = k
all_withdrawn plan q (r ∷ rs) S k h =
    all_withdrawn plan q rs (withdraw plan q S r)
    (withdrawn plan q S r k (h r (let e = at_head r r rs in let yes : flag (r == r) ≡ 1 = ap flag (equal r r refl) in omega arith)))
    (λ x more. stays_unmade plan q S r x (h x (let e = at_head x r rs in omega arith)) (one_or_two x r))

waits_queued : {A : Type 0} {F B : ℕ → Bool} (S : State A) (q x : ℕ) → KeptIn F B S → 1 ≤ count_by (λ y. y == x) (waiting_in S.queues q) → is_queued_in q (place_of S.requests x) ≡ true
waits_queued S q x k more = elim (cases_Bool (is_queued_in q (place_of S.requests x))) [
  | inl e ↦ e
  | inr e ↦ absurd (let is = k.queued q x in let no_ : flag (is_queued_in q (place_of S.requests x)) ≡ 0 = ap flag e in omega arith)
]

purged : {A : Type 0} {F B : ℕ → Bool} (plan : Plan) (S T : State A) (q : ℕ) → KeptIn F B S → KeptIn F B T → T.requests ≡ S.requests → KeptIn F B (fold (withdraw plan q) T (waiting_in S.queues q))
purged plan S T q k kt same = all_withdrawn plan q (waiting_in S.queues q) T kt
    (λ x more. ap (λ (R : Requests). is_made_place (place_of R x)) same ∙ queued_unmade q (place_of S.requests x) (waits_queued S q x k more))

-- ---- requests that are to be completed with CANCELLED

-- a test that passes only where a request is in a queue
record Inside (here : Place → Bool) : Type 0 where
  pub done : here place.Done ≡ false
  pub unmade : (p : Place) → here p ≡ true → is_made_place p ≡ false

-- where a request is then
abbrev closed_place : (Place → Bool) → Place → Place
closed_place here p = if here p then place.Closing status.Cancelled else p

closed_by : (q : Request) (b : Bool) → ((if b then moved (place.Closing status.Cancelled) q else q).place ≡ (if b then place.Closing status.Cancelled else q.place)) × (has_arrived (if b then moved (place.Closing status.Cancelled) q else q) ≡ has_arrived q)
closed_by q true = (refl, refl)
closed_by q false = (refl, refl)

module _ (here : Place → Bool) (it : Inside here) where
  closed_blank : closed_at here no_request ≡ no_request
  closed_blank = rw it.done refl

  closed_entry : (R : Requests) (x : ℕ) → request_of (record R { all = map (closed_at here) R.all }) x ≡ closed_at here (request_of R x)
  closed_entry R x = entry_map no_request R.all (closed_at here) x closed_blank

  place_closed : (R : Requests) (x : ℕ) → place_of (record R { all = map (closed_at here) R.all }) x ≡ closed_place here (place_of R x)
  place_closed R x = ap (λ (q : Request). q.place) (closed_entry R x) ∙ (closed_by (request_of R x) (here (place_of R x))).0

  arrived_closed : (R : Requests) (x : ℕ) → arrived (record R { all = map (closed_at here) R.all }) x ≡ arrived R x
  arrived_closed R x = ap has_arrived (closed_entry R x) ∙ (closed_by (request_of R x) (here (place_of R x))).1

  sent_closed : (t : ℕ) (p : Place) (b : Bool) → here p ≡ b → is_sent_to t p ≡ is_sent_to t (if b then place.Closing status.Cancelled else p)
  sent_closed t p true e = unmade_unsent t p (it.unmade p e)
  sent_closed t p false e = refl

  made_closed : (p : Place) (b : Bool) → here p ≡ b → is_made_place p ≡ true → is_made_place (if b then place.Closing status.Cancelled else p) ≡ true
  made_closed p true e h = absurd (let no_ = it.unmade p e in let z : ⊥ = cc in z)
  made_closed p false e h = h

  done_closed : (p : Place) (b : Bool) → here p ≡ b → is_done p ≡ true → is_done (if b then place.Closing status.Cancelled else p) ≡ true
  done_closed p true e h = absurd (let no_ = unmade_undone p (it.unmade p e) in let z : ⊥ = cc in z)
  done_closed p false e h = h

  closes : {F B : ℕ → Bool} {R : Requests} {Q Q' : Queues} {T : Targets} {N : Tree} → Kept F B R Q T N
      → ((q x : ℕ) → stands Q' q x ≡ flag (is_queued_in q (closed_place here (place_of R x)))) → Kept F B (record R { all = map (closed_at here) R.all }) Q' T N
  closes {F} {B} {R} {Q} {Q'} {T} {N} k queued_ = record {
    queued = λ q x. queued_ q x ∙ sym (ap (λ p. flag (is_queued_in q p)) (place_closed R x));
    sent = λ t x. k.sent t x ∙ ap flag (sent_closed t (place_of R x) (here (place_of R x)) refl) ∙ sym (ap (λ p. flag (is_sent_to t p)) (place_closed R x));
    room = let room = k.room in let long = length-map R.all (closed_at here) in omega arith;
    kinds = λ x h. arrived_closed R x ∙ k.kinds x h;
    made = λ x h. ap is_made_place (place_closed R x) ∙ made_closed (place_of R x) (here (place_of R x)) refl (k.made x (sym (arrived_closed R x) ∙ h));
    returns = λ t x h. k.returns t x (sym (arrived_closed R x) ∙ h);
    ended = λ x h. ap is_done (place_closed R x) ∙ done_closed (place_of R x) (here (place_of R x)) refl (k.ended x h);
    numbered = k.numbered;
    begun = λ x h. k.begun x (sym (arrived_closed R x) ∙ h);
  }

returning_inside : (q : ℕ) → Inside (is_returning_to q)
returning_inside q = record { done = refl; unmade = λ p h. (returning_undone q p h).2 }

in_unmade : (q : ℕ) (p : Place) → is_in q p ≡ true → is_made_place p ≡ false
in_unmade q p h = elim (or_cases (is_queued_in q p) (is_returning_to q p) h) [
  | inl e ↦ queued_unmade q p e
  | inr e ↦ (returning_undone q p e).2
]

in_inside : (q : ℕ) → Inside (is_in q)
in_inside q = record { done = refl; unmade = in_unmade q }

-- what returns is queued nowhere, before and after
returning_unqueued : (q p : ℕ) (x : Place) (b : Bool) → is_returning_to p x ≡ b → is_queued_in q x ≡ is_queued_in q (if b then place.Closing status.Cancelled else x)
returning_unqueued q p x true e = still_unqueued q x (returning_undone p x e).1
returning_unqueued q p x false e = refl

returning_closed : {A : Type 0} {F B : ℕ → Bool} (S : State A) (q : ℕ) → KeptIn F B S → KeptIn F B (close_returning S q)
returning_closed S q k = closes (is_returning_to q) (returning_inside q) k (λ p x. k.queued p x ∙ ap flag (returning_unqueued p q (place_of S.requests x) (is_returning_to q (place_of S.requests x)) refl))

all_returning_closed : {A : Type 0} {F B : ℕ → Bool} (qs : List ℕ) (S : State A) → KeptIn F B S → KeptIn F B (fold close_returning S qs)
all_returning_closed [] S k = k
all_returning_closed (q ∷ qs) S k = all_returning_closed qs (close_returning S q) (returning_closed S q k)

-- nothing is queued in a queue that is closed, and elsewhere what was
closed_here : (q : ℕ) (x : Place) (b : Bool) → is_in q x ≡ b → is_queued_in q (if b then place.Closing status.Cancelled else x) ≡ false
closed_here q x true e = refl
closed_here q x false e = (either_false (is_queued_in q x) (is_returning_to q x) e).0

closed_elsewhere : (q p : ℕ) (x : Place) (b : Bool) → p ≢ q → is_in q x ≡ b → is_queued_in p x ≡ is_queued_in p (if b then place.Closing status.Cancelled else x)
closed_elsewhere q p x false n e = refl
closed_elsewhere q p x true n e = elim (or_cases (is_queued_in q x) (is_returning_to q x) e) [
  | inl h ↦ queued_once q p x h n
  | inr h ↦ still_unqueued p x (returning_undone q x h).1
]

queue_closed : {A : Type 0} {F B : ℕ → Bool} (S : State A) (q : ℕ) → KeptIn F B S → KeptIn F B (close_queue S q)
queue_closed S q k = closes (is_in q) (in_inside q) k (λ p x. elim (one_or_two p q) [
  | inl e ↦ rw e (ap (λ (ws : List ℕ). count_by (λ y. y == x) ws) (queue_here S.queues q (λ _. [])) ∙ sym (ap flag (closed_here q (place_of S.requests x) (is_in q (place_of S.requests x)) refl)))
  | inr n ↦
      ap (λ (ws : List ℕ). count_by (λ y. y == x) ws) (queue_elsewhere S.queues q p (λ _. []) n) ∙ k.queued p x
      ∙ ap flag (closed_elsewhere q p (place_of S.requests x) (is_in q (place_of S.requests x)) n refl)
])

all_queues_closed : {A : Type 0} {F B : ℕ → Bool} (qs : List ℕ) (S : State A) → KeptIn F B S → KeptIn F B (fold close_queue S qs)
all_queues_closed [] S k = k
all_queues_closed (q ∷ qs) S k = all_queues_closed qs (close_queue S q) (queue_closed S q k)

-- ---- the marks of a request

marked_place : (q : Request) (b : Bool) → q.info.cancelled ≡ b → ((marked q).place ≡ q.place) × (has_arrived (marked q) ≡ has_arrived q)
marked_place q true e = rw e (refl, refl)
marked_place q false e = rw e (refl, refl)

unmarked_place : (q : Request) (b : Bool) → is_marked q.info.mark ≡ b → ((unmarked q).place ≡ q.place) × (has_arrived (unmarked q) ≡ has_arrived q)
unmarked_place q true e = rw e (refl, refl)
unmarked_place q false e = rw e (refl, refl)

-- ---- an object is destroyed

-- what the framework is done with is in no queue and at no target
over_still : (p : Place) (b : Bool) → (is_done p || (is_owned p && b)) ≡ true → is_still p ≡ true
over_still (place.Queued q) b h = absurd (let z : ⊥ = cc in z)
over_still (place.Sent t) b h = absurd (let z : ⊥ = cc in z)
over_still _ b h = refl

-- what isn't sent isn't to be forgotten
fewer_forgotten : (T : Targets) (t r : ℕ) → sends T t r ≡ 0 → forgets T t r ≡ 0
fewer_forgotten T t r none = let e = both_fewer (λ (s : Sending). s.request.0 == r) (λ s. s.forgotten) (the_target T t).sent in omega arith

forgotten_by : {F B : ℕ → Bool} {R : Requests} {Q : Queues} {T : Targets} {N : Tree} (o : ℕ) (b : Bool) → is_over (request_of R o) ≡ b → is_request N o ≡ false → Kept F B R Q T N
    → Kept F B (record R { all = slice_set R.all o (if b then no_request else request_of R o) }) Q T N
forgotten_by {F} {B} {R} {Q} {T} {N} o false e none k = subst (λ (all : List Request). Kept F B (record R { all = all }) Q T N) (sym (set_as_it_was no_request R.all o)) k
forgotten_by {F} {B} {R} {Q} {T} {N} o true e none k =
    let still : is_still (place_of R o) ≡ true = over_still (place_of R o) (is_none (request_of R o).info.origin) e in
    kept_by_move {r = o} {p = place.Done} k (record {
      elsewhere = λ x n. ap (λ (q : Request). q.place) (entry_set_other no_request R.all o x no_request n);
      here = ap (λ (q : Request). q.place) (entry_blanked no_request R.all o);
      arrivals = λ x n. ap has_arrived (entry_set_other no_request R.all o x no_request n);
      room = let room = k.room in let long = as_long R.all o no_request in omega arith;
      other_kinds = λ x n h. h;
      kind = λ h. absurd (let z : ⊥ = cc in z);
      other_lines = λ q x n. refl;
      line = λ q. k.queued q o ∙ ap flag (still_unqueued q (place_of R o) still);
      other_targets = λ t x n. refl;
      target = λ t. k.sent t o ∙ ap flag (still_unsent t (place_of R o) still);
      made = λ h. refl;
      other_returns = λ t x n. omega arith;
      returns = λ t h. fewer_forgotten T t o (k.sent t o ∙ ap flag (still_unsent t (place_of R o) still));
      longer = omega arith;
      unended = λ h. refl;
      begun = λ h. absurd (let never : arrived (record R { all = slice_set R.all o no_request }) o ≡ false = ap has_arrived (entry_blanked no_request R.all o) in let z : ⊥ = cc in z);
    })

destroyed : {A : Type 0} {F B : ℕ → Bool} (S : State A) (o : ℕ) → KeptIn F B S → Kept F B (requests.forget S.requests o) S.queues S.targets (tree.destroy S.tree o)
destroyed S o k =
    forgotten_by o (is_over (request_of S.requests o)) refl (ap (λ (n : Node). same_kind n.kind kind.Request) (entry_put_same gone S.tree.nodes o gone))
    (tree_changes o (λ _. gone) k (λ n e. absurd (let z : ⊥ = cc in z)))

-- ---- each deed

held_line : (Q : Queues) (q p : ℕ) → waiting_in (queues.hold Q q) p ≡ waiting_in Q p
held_line Q q p = refl

stopped_target : (T : Targets) (t u : ℕ) (b : Bool) → (the_target (with_target T t (λ x. record x { stopped = b })) u).sent ≡ (the_target T u).sent
stopped_target T t u b = elim (one_or_two u t) [
  | inl e ↦ rw e (ap (λ (x : Target). x.sent) (target_here T t (λ x. record x { stopped = b })))
  | inr n ↦ ap (λ (x : Target). x.sent) (target_elsewhere T t u (λ x. record x { stopped = b }) n)
]

given_enters : {A : Type 0} {F B : ℕ → Bool} (U : State A) (q r : ℕ) (Q : Queues) → KeptIn F B U → is_given U r ≡ true → Enters U.queues Q q r
    → Kept F B (requests.move_to U.requests r (queued q)) Q U.targets U.tree
given_enters U q r Q k h e =
    enter_line q r k (owned_undone (place_of U.requests r) (owned_of U r h)) (owned_still (place_of U.requests r) (owned_of U r h)) (came_by_kind U r k h) e

sends_given : {A : Type 0} {F B : ℕ → Bool} (S U : State A) (r t : ℕ) (forget : Bool) → GivesUp S U → KeptIn F B S → is_owned (place_of S.requests r) ≡ true
    → (not forget || same_kind (kind_of S.tree r) kind.Request) ≡ true → Kept F B (requests.move_to U.requests r (place.Sent (record { 0 = t }))) U.queues (targets.send S.targets t r forget) U.tree
sends_given S U r t forget g k owned made =
    let owned_there : is_owned (place_of U.requests r) ≡ true = ap (λ (R : Requests). is_owned (place_of R r)) g.requests ∙ owned in
    send_request r t forget (given_up_sent S U g k) (owned_undone (place_of U.requests r) owned_there) (owned_still (place_of U.requests r) owned_there)
    (λ n. elim (or_cases (not forget) (same_kind (kind_of S.tree r) kind.Request) made) [
      | inl e ↦ not_true forget e
      | inr e ↦ absurd (let came : arrived S.requests r ≡ true = k.kinds r e in let never : arrived S.requests r ≡ false = sym (ap (λ (R : Requests). arrived R r) g.requests) ∙ n in let z : ⊥ = cc in z)
    ])

completes_it : {A : Type 0} {F B : ℕ → Bool} (S U : State A) (r : ℕ) → GivesUp S U → KeptIn F B S → (is_closing (place_of S.requests r) || is_given S r) ≡ true
    → Kept F B (requests.move_to S.requests r place.Done) U.queues U.targets U.tree
completes_it S U r g k h = elim (or_cases (is_closing (place_of S.requests r)) (is_given S r) h) [
  | inl e ↦ let is = closing_undone (place_of S.requests r) e in still_move r place.Done (given_up_done S U g k) is.0 is.1 refl (λ _. refl)
  | inr e ↦ still_move r place.Done (given_up_done S U g k) (owned_undone (place_of S.requests r) (owned_of S r e)) (owned_still (place_of S.requests r) (owned_of S r e)) refl (λ _. refl)
]

-- a request arrives
arrives_there : {A : Type 0} {F B : ℕ → Bool} (S : State A) (device : ℕ) (info : RequestInfo) (p : Place) → KeptIn F B S → nat_lt 0 info.arrival ≡ true → is_arrival_place p ≡ true
    → B (next_id S.tree) ≡ true → KeptIn F B (arrive_at S device info p)
arrives_there S device info (place.Queued q) k came fit told =
    new_request kind.Request 0 device (place.Queued q) info k (λ t. refl) (λ _. came) (λ n. absurd (let z : ⊥ = cc in z)) (λ _. told)
    (λ o x n. enters_others (tail_enters S.queues q.0 (next_id S.tree)) o x n (one_or_two o q.0))
    (λ o. enters_once (tail_enters S.queues q.0 (next_id S.tree)) (nowhere_yet k) o (one_or_two o q.0))
arrives_there S device info (place.Closing s) k came fit told =
    new_request kind.Request 0 device (place.Closing s) info k (λ t. refl) (λ _. came) (λ n. absurd (let z : ⊥ = cc in z)) (λ _. told)
    (λ o x n. refl) (λ o. nowhere_yet k o)
arrives_there S device info _ k came fit told = absurd (let z : ⊥ = cc in z)

-- a deed by which a request arrives
abbrev pub is_arrival : Deed → Bool
is_arrival (Arrive device info p) = true
is_arrival _ = false

pub deed_keeps : {A : Type 0} {F B : ℕ → Bool} (plan : Plan) (d : Deed) (S : State A) → fits plan d S ≡ true → (is_arrival d ≡ true → B (next_id S.tree) ≡ true) → KeptIn F B S
    → KeptIn F B (do_deed plan d S)
deed_keeps plan (Create what class parent) S f b k =
    object_made what class parent.0 k (not_true (is_request_kind what) (both_right (is_live (life_of S.tree parent.0) && not (is_full S.tree)) (not (is_request_kind what)) (both_left (is_live (life_of S.tree parent.0) && not (is_full S.tree) && not (is_request_kind what)) (not (is_never_deleted what)) f)))
deed_keeps plan (MakeRequest class parent) S f b k =
    new_request kind.Made class parent.0 place.Owned (made_info (nearest_device S.tree parent.0)) k (λ t. refl) (λ e. absurd (let z : ⊥ = cc in z)) (λ _. refl) (λ e. absurd (let z : ⊥ = cc in z))
    (λ o x n. refl) (λ o. nowhere_yet k o)
deed_keeps plan (Arrive device info p) S f b k =
    arrives_there S device.0 info p k
    (both_right (is_live (life_of S.tree device.0)) (nat_lt 0 info.arrival) (both_left (is_live (life_of S.tree device.0) && nat_lt 0 info.arrival) (is_arrival_place p) f))
    (both_right (is_live (life_of S.tree device.0) && nat_lt 0 info.arrival) (is_arrival_place p) f) (b refl)
deed_keeps plan (AskDeletion o) S f b k = asked S o.0 k
deed_keeps plan (Refer o) S f b k = tree_changes o.0 (λ n. record n { references = n.references + 1 }) k (λ n e. e)
deed_keeps plan (Unrefer o) S f b k = tree_changes o.0 (λ n. record n { references = n.references - 1 }) k (λ n e. e)
deed_keeps plan (WriteCell o c v) S f b k = tree_changes o.0 (λ n. record n { cells = slice_set n.cells c v }) k (λ n e. e)
deed_keeps plan (Note o c) S f b k = tree_changes o.0 (noted c) k (λ n e. sym (ap (λ (x : Kind). same_kind x kind.Request) (noted_kind c n)) ∙ e)
deed_keeps plan (CleanUp o) S f b k = tree_changes o.0 (with_life life.Cleaned) k (λ n e. e)
deed_keeps plan (EndLife o) S f b k = destroyed S o.0 k
deed_keeps plan (Present q r) S f b k = present_front q.0 r.0 k f
deed_keeps plan (Receive q r) S f b k =
    let is = returning_undone q.0 (place_of S.requests r.0) f in
    same_lines (still_move r.0 place.Owned k is.0 is.1 refl (λ _. refl)) (λ p. held_line S.queues q.0 p)
deed_keeps plan (Requeue r q) S f b k =
    given_enters (give_up S r.0) q.0 r.0 (queues.requeue (give_up S r.0).queues q.0 r.0) (all_given_up S (give_up S r.0) (gives_up S r.0) k) (still_given S (give_up S r.0) r.0 (gives_up S r.0) f) (head_enters (give_up S r.0).queues q.0 r.0)
deed_keeps plan (Forward r q) S f b k =
    given_enters (give_up S r.0) q.0 r.0 (queues.enter (give_up S r.0).queues q.0 r.0) (all_given_up S (give_up S r.0) (gives_up S r.0) k)
    (still_given S (give_up S r.0) r.0 (gives_up S r.0) (both_left (is_given S r.0) (accepts S.control q.0) f)) (tail_enters (give_up S r.0).queues q.0 r.0)
deed_keeps plan (GiveBack r q) S f b k = given_back plan (give_up S r.0) q.0 r.0 (all_given_up S (give_up S r.0) (gives_up S r.0) k) (still_given S (give_up S r.0) r.0 (gives_up S r.0) f)
deed_keeps plan (Withdraw q r) S f b k = withdrawn plan q.0 S r.0 k (queued_unmade q.0 (place_of S.requests r.0) f)
deed_keeps plan (MarkRequest r) S f b k =
    marks_change r.0 marked k (within S.requests r.0 (owned_undone (place_of S.requests r.0) (owned_of S r.0 f))) (λ q. (marked_place q q.info.cancelled refl).0) (λ q. (marked_place q q.info.cancelled refl).1)
deed_keeps plan (UnmarkRequest r) S f b k =
    marks_change r.0 unmarked k (arrived_within S.requests r.0 (k.kinds r.0 f)) (λ q. (unmarked_place q (is_marked q.info.mark) refl).0) (λ q. (unmarked_place q (is_marked q.info.mark) refl).1)
deed_keeps plan (CancelRequest r) S f b k = cancel_marks r.0 k (reached_undone (place_of S.requests r.0) f)
deed_keeps plan (TakeCancel r) S f b k =
    marks_change r.0 (with_mark mark.Taken) k (within S.requests r.0 (held_undone (is_forgotten S.targets r.0) (place_of S.requests r.0) (both_right (is_due (mark_of S.requests r.0)) (is_with_driver S r.0) f))) (λ q. refl) (λ q. refl)
deed_keeps plan (SendRequest r t forget) S f b k =
    sends_given S (give_up_if forget S r.0) r.0 t.0 forget (gives_up_if S r.0 forget) k
    (both_left (is_owned (place_of S.requests r.0)) (may_send S r.0 t.0) (both_left (is_owned (place_of S.requests r.0) && may_send S r.0 t.0) (not forget || same_kind (kind_of S.tree r.0) kind.Request) f))
    (both_right (is_owned (place_of S.requests r.0) && may_send S r.0 t.0) (not forget || same_kind (kind_of S.tree r.0) kind.Request) f)
deed_keeps plan (FinishSending r s) S f b k = finish_sending r.0 s k (both_left (is_sent (place_of S.requests r.0)) (is_undone S.targets r.0) f)
deed_keeps plan (ComeBack r) S f b k = come_back r.0 k (both_left (is_sent (place_of S.requests r.0)) (is_some (routine_due S.targets r.0)) f)
deed_keeps plan (CompleteRequest r) S f b k =
    asked (record (give_up S r.0) { requests = requests.move_to S.requests r.0 place.Done }) r.0 (completes_it S (give_up S r.0) r.0 (gives_up S r.0) k f)
deed_keeps plan (PurgeQueue q) S f b k = purged plan S (record S { control = control.set_mode S.control q.0 mode.Purged }) q.0 k k refl
deed_keeps plan (CloseReturning d) S f b k = all_returning_closed (managed_queues plan d.0) S k
deed_keeps plan (CloseDevice d) S f b k = all_queues_closed (queues_of plan d.0) (record S { control = control.shut S.control d.0 }) k
deed_keeps plan (StopTarget t) S f b k = same_targets k (λ u. stopped_target S.targets t.0 u true)
deed_keeps plan (StartTarget t) S f b k = same_targets k (λ u. stopped_target S.targets t.0 u false)
deed_keeps plan _ S f b k = k

-- ---- deeds one after another, of which none is an arrival

abbrev pub none_arrives : List Deed → Bool
none_arrives ds = list_all (λ d. not (is_arrival d)) ds

pub deeds_keep : {A : Type 0} {F B : ℕ → Bool} (plan : Plan) (ds : List Deed) (S : State A) → all_fit plan ds S ≡ true → none_arrives ds ≡ true → KeptIn F B S → KeptIn F B (do_deeds plan ds S)
deeds_keep plan [] S f n k = k
deeds_keep plan (d ∷ ds) S f n k =
    deeds_keep plan ds (do_deed plan d S) (both_right (fits plan d S) (all_fit plan ds (do_deed plan d S)) f) (both_right (not (is_arrival d)) (none_arrives ds) n)
    (deed_keeps plan d S (both_left (fits plan d S) (all_fit plan ds (do_deed plan d S)) f)
    (λ a. absurd (let never : is_arrival d ≡ false = not_true (is_arrival d) (both_left (not (is_arrival d)) (none_arrives ds) n) in let z : ⊥ = cc in z)) k)
