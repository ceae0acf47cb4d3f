-- What the closing of a device leaves of each request.
use Rattle.std.proofs.Common.{if◌then◌else◌, inl, inr, ◌≡◌, ℕ, suc, ◌==◌, Bool, true, false, List, [], ◌∷◌, filter, fold, length, Option, Some, None, is_some, slice_get, take, refl, sym, ap, subst, ◌∙◌, arith, eqb-true}
use Rattle.std.specs.List.{list_any}
use Rattle.std.proofs.lemmas.Bool.{or_cases}
use Rattle.wdf_base.specs.Meaning.{Meaning}
use Rattle.wdf_base.specs.Same.{same_stage}
use Rattle.wdf_base.specs.declared.declared.QueueInfo.{QueueInfo}
use Rattle.wdf_base.specs.declared.event.Event.{Event}
use Rattle.wdf_base.specs.declared.event.Event.TheVariants as event
use Rattle.wdf_base.specs.declared.event.Stage.{Stage}
use Rattle.wdf_base.specs.declared.event.Stage.TheVariants as stage
use Rattle.wdf_base.specs.declared.ids.Handle.{Handle}
use Rattle.wdf_base.specs.declared.object.Place.{Place}
use Rattle.wdf_base.specs.declared.object.Place.TheVariants as place
use Rattle.wdf_base.specs.declared.plan.Plan.{Plan}
use Rattle.wdf_base.specs.declared.value.Status.TheVariants as status
use Rattle.wdf_model.specs.Plans.{declared_ids, is_queue_of, queue_of, queues_of}
use Rattle.wdf_model.specs.State.{State}
use Rattle.wdf_model.specs.Tables.{contains}
use Rattle.wdf_model.specs.declared.entries.Request.{Request}
use Rattle.wdf_model.specs.parts.Requests.{closed_at, is_in, moved, no_request, place_of, request_of}
use Rattle.wdf_model.specs.rules.Deeds.{close_queue}
use Rattle.wdf_model.specs.rules.Ready.{IsRunOf, state_after}
use Rattle.wdf_model.specs.rules.Steps.{after}
use Rattle.wdf_model.proofs.Maps.{entry_map}
use Rattle.wdf_model.proofs.Runs.{take_next}
use Rattle.wdf_model.proofs.Tests.{both_left, both_right, first, second}
use Rattle.law_machine_base.proofs.Follows.{state_goes_on}
use Rattle.law_machine_lives.proofs.Subtrees.{kept_there}
use Rattle.law_queue_modes.specs.Modes.{CloseLeaves, closes}
use Rattle.law_queue_modes.proofs.Told.{is_within}

-- a place in one of these queues, waiting or returning
abbrev in_any : List ℕ → Place → Bool
in_any qs p = list_any (λ q. is_in q p) qs

none_in : (qs : List ℕ) → in_any qs (place.Closing status.Cancelled) ≡ false
none_in [] = refl
none_in (q ∷ qs) = none_in qs

closed_twice : (q : ℕ) (qs : List ℕ) (y : Request) (b : Bool) → is_in q y.place ≡ b → closed_at (in_any qs) (closed_at (is_in q) y) ≡ closed_at (in_any (q ∷ qs)) y
closed_twice q qs y true e = rw e (ap (λ b. if b then moved (place.Closing status.Cancelled) (moved (place.Closing status.Cancelled) y) else moved (place.Closing status.Cancelled) y) (none_in qs))
closed_twice q qs y false e = rw e refl

-- the requests after a device's queues are closed
all_closed : {A : Type 0} (qs : List ℕ) (S : State A) (r : ℕ) → request_of (fold close_queue S qs).requests r ≡ closed_at (in_any qs) (request_of S.requests r)
all_closed [] S r = refl
all_closed (q ∷ qs) S r =
    all_closed qs (close_queue S q) r ∙ ap (closed_at (in_any qs)) (entry_map no_request S.requests.all (closed_at (is_in q)) r refl) ∙ closed_twice q qs (request_of S.requests r) (is_in q (place_of S.requests r)) refl

-- ---- the queues of a device

found : (f : ℕ → Bool) (q : ℕ) (qs : List ℕ) → f q ≡ true → contains q qs ≡ true → list_any f qs ≡ true
found f q [] h there = absurd (let z : ⊥ = cc in z)
found f q (x ∷ qs) h there = elim (or_cases (x == q) (contains q qs) there) [
  | inl same ↦ first (f x) (list_any f qs) (ap f (eqb-true x q same) ∙ h)
  | inr later ↦ second (f x) (list_any f qs) (found f q qs h later)
]

none_kept : (f keep : ℕ → Bool) → ((q : ℕ) → keep q ≡ true → f q ≡ false) → (qs : List ℕ) → list_any f (filter keep qs) ≡ false
none_kept f keep off [] = refl
none_kept f keep off (q ∷ qs) = by_test (keep q) refl (none_kept f keep off qs)
  where
    by_test : (b : Bool) → keep q ≡ b → list_any f (filter keep qs) ≡ false → list_any f (filter keep (q ∷ qs)) ≡ false
    by_test true e rest = rw (e, off q e) rest
    by_test false e rest = rw e rest

is_there : (d : ℕ) (o : Option QueueInfo) → is_queue_of d o ≡ true → is_some o ≡ true
is_there d None h = absurd (let z : ⊥ = cc in z)
is_there d (Some i) h = refl

module _ {A : Type 0} (plan : Plan) (m : Meaning A) (S : State A) where
  -- ---- the stage

  by_stage : (device : Handle) (s : Stage) (i : Option Handle) → same_stage s stage.Closed ≡ true → (r : ℕ) → request_of (after plan m S (event.Stage device s i)).requests r ≡ closed_at (in_any (queues_of plan device.id.0)) (request_of S.requests r)
  by_stage device stage.Closed i h r = all_closed (queues_of plan device.id.0) _ r
  by_stage device s i h r = absurd (let z : ⊥ = cc in z)

  leaves_by : (d : ℕ) (T : State A) → ((r : ℕ) → request_of T.requests r ≡ closed_at (in_any (queues_of plan d)) (request_of S.requests r)) → CloseLeaves plan d S T
  leaves_by d T each = record {
    cancelled = λ r q of_device there.
        let inside = is_within plan q (is_there d (queue_of plan q) of_device) in
        let listed = kept_there (λ id. is_queue_of d (queue_of plan id)) q 0 (suc (length plan.declared)) (omega arith) (omega (arith, inside)) of_device in
        let yes : in_any (queues_of plan d) (place_of S.requests r) ≡ true = found (λ x. is_in x (place_of S.requests r)) q (queues_of plan d) there listed in
        ap (λ (y : Request). y.place) (each r) ∙ ap (λ b. (if b then moved (place.Closing status.Cancelled) (request_of S.requests r) else request_of S.requests r).place) yes;
    others = λ r off.
        let no_ : in_any (queues_of plan d) (place_of S.requests r) ≡ false = none_kept (λ x. is_in x (place_of S.requests r)) (λ id. is_queue_of d (queue_of plan id)) off (declared_ids plan) in
        each r ∙ ap (λ b. if b then moved (place.Closing status.Cancelled) (request_of S.requests r) else request_of S.requests r) no_;
  }

  by_event : (d : ℕ) (e : Event) → closes d e ≡ true → CloseLeaves plan d S (after plan m S e)
  by_event d (event.Stage device s i) h =
      let it : device.id.0 ≡ d = eqb-true device.id.0 d (both_right (same_stage s stage.Closed) (device.id.0 == d) h) in
      subst (λ x. CloseLeaves plan x S (after plan m S (event.Stage device s i))) it
      (leaves_by device.id.0 (after plan m S (event.Stage device s i)) (by_stage device s i (both_left (same_stage s stage.Closed) (device.id.0 == d) h)))
  by_event d e h = absurd (let z : ⊥ = cc in z)

pub closing_at : {A : Type 0} (plan : Plan) (m : Meaning A) (run : List Event) → IsRunOf plan m run → (n d : ℕ) (e : Event) → slice_get run n ≡ Some e → closes d e ≡ true
    → CloseLeaves plan d (state_after plan m (take n run)) (state_after plan m (take (suc n) run))
closing_at {A} plan m run is_run n d e at is =
    let S : State A = state_after plan m (take n run) in
    let next : state_after plan m (take (suc n) run) ≡ after plan m S e = ap (state_after plan m) (take_next run n e at) ∙ state_goes_on plan m (take n run) e in
    subst (λ T. CloseLeaves plan d S T) (sym next) (by_event plan m S d e is)
