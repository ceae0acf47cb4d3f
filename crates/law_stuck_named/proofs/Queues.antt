-- A queue in which a request waits, or to which one returns, is live.
use Rattle.std.proofs.Common.{◌≡◌, ◌≢◌, ℕ, ◌==◌, Bool, true, false, ◌&&◌, List, inl, inr, Option, Some, is_some, option_map, length, unwrap_or, refl, sym, ap, ◌∙◌}
use Rattle.std.proofs.lemmas.Bool.{or_cases}
use Rattle.wdf_base.specs.Meaning.{Meaning}
use Rattle.wdf_base.specs.Plan.{declared_of}
use Rattle.wdf_base.specs.Resolved.{IsResolved}
use Rattle.wdf_base.specs.Same.{same_kind}
use Rattle.wdf_base.specs.declared.plan.Plan.{Plan}
use Rattle.wdf_base.specs.declared.declared.Declared.{Declared}
use Rattle.wdf_base.specs.declared.declared.Declared.TheVariants as declared
use Rattle.wdf_base.specs.declared.declared.QueueInfo.{QueueInfo}
use Rattle.wdf_base.specs.declared.object.Kind.TheVariants as kind
use Rattle.wdf_base.specs.declared.object.Place.{Place}
use Rattle.wdf_base.specs.declared.object.Place.TheVariants as place
use Rattle.wdf_base.specs.declared.event.Event.{Event}
use Rattle.wdf_base.specs.Lives.{is_live}
use Rattle.wdf_base.specs.Places.{is_done, is_queued_in, is_returning_to}
use Rattle.wdf_model.specs.declared.entries.Request.{Request}
use Rattle.wdf_model.specs.Plans.{as_queue, device_of, device_of_queue}
use Rattle.wdf_model.specs.parts.Tree.{kind_of, life_of}
use Rattle.wdf_model.specs.parts.Requests.{has_arrived, info_of, is_in, place_of, request_of}
use Rattle.wdf_model.specs.State.{State}
use Rattle.wdf_model.specs.rules.Ready.{IsRunOf, state_after}
use Rattle.wdf_model.proofs.Tests.{both, both_left, both_right, first, itself, second}
use Rattle.law_machine_base.proofs.Kept.{is_made_place}
use Rattle.wdf_model.proofs.Sames.{kind_decides}
use Rattle.law_machine_counts.proofs.HeldMoves.{Placed}
use Rattle.law_machine_counts.proofs.StillFrames.{live_there}
use Rattle.law_machine_lives.proofs.Keeping.{at_the_end}
use Rattle.law_machine_lives.proofs.FromQueues.{AllSuited, queued_suits, returning_suits}
use Rattle.law_machine_lives.proofs.OfDevices.{OfItsDevice, devices_at_each}
use Rattle.law_stuck_named_if.specs.Starts.{is_live_queue}
use Rattle.law_stuck_named.specs.Standing.{is_part, is_part_of}
use Rattle.law_stuck_named.specs.Owners.{QueuesLive}
use Rattle.law_machine_lives.proofs.Choices.{and_not}
use Rattle.law_machine_lives.proofs.Places.{inside_undone}
use Rattle.law_stuck_named.proofs.Opened.{is_undone_request}
use Rattle.law_stuck_named.proofs.Standing.{Stands}
use Rattle.law_stuck_named.proofs.Coming.{Facts}
use Rattle.law_stuck_named.proofs.Runs.{Known, known_now, stands_now}

-- a queue of a device
pub queue_is : (plan : Plan) (q d : ℕ) (x : Option Declared) → declared_of plan q ≡ x → unwrap_or (option_map (λ (i : QueueInfo). i.device.0) (as_queue x)) 0 ≡ d → d ≢ 0 → (i : QueueInfo) × (declared_of plan q ≡ Some (declared.Queue i)) × (i.device.0 ≡ d)
queue_is plan q d (Some (declared.Queue i)) e h n = (i, e, h)
queue_is plan q d _ e h n = absurd (n (sym h))

in_made : (q : ℕ) (p : Place) → is_in q p ≡ true → is_made_place p ≡ false
in_made q (place.Queued x) h = refl
in_made q (place.Returning x) h = refl
in_made q _ h = absurd (let z : ⊥ = cc in z)

arrived_by : (e : Request) (b : Bool) → has_arrived e ≡ b → (has_arrived e ≡ false → is_made_place e.place ≡ true) → is_made_place e.place ≡ false → has_arrived e ≡ true
arrived_by e true h made off = h
arrived_by e false h made off = absurd (let t = made h in let z : ⊥ = cc in z)

module _ {A : Type 0} (plan : Plan) (S : State A) (facts : Facts plan S) (placed : Placed S) (of : AllSuited plan (OfItsDevice plan) S.requests) (k : Stands plan S) where
  at_queue : (q r : ℕ) → is_in q (place_of S.requests r) ≡ true → device_of_queue plan q ≡ (info_of S.requests r).device.0
  at_queue q r h = elim (or_cases (is_queued_in q (place_of S.requests r)) (is_returning_to q (place_of S.requests r)) h) [
    | inl e ↦ queued_suits plan (OfItsDevice plan) S.requests q r of e
    | inr e ↦ (returning_suits plan (OfItsDevice plan) S.requests q r of e).0
  ]

  live_queue : (q r : ℕ) → is_in q (place_of S.requests r) ≡ true → is_live_queue S q ≡ true
  live_queue q r h =
      let e : Request = request_of S.requests r in
      let d : ℕ = e.info.device.0 in
      let came : has_arrived e ≡ true = arrived_by e (has_arrived e) refl (placed.made r) (in_made q e.place h) in
      let undone : is_undone_request e ≡ true = and_not (has_arrived e) (is_done e.place) came (inside_undone q e.place h) in
      let dev : (is_some (device_of plan d) && is_live (life_of S.tree d)) ≡ true = (k.opened r).1 undone in
      let is : is_some (device_of plan d) ≡ true = both_left (is_some (device_of plan d)) (is_live (life_of S.tree d)) dev in
      let live : is_live (life_of S.tree d) ≡ true = both_right (is_some (device_of plan d)) (is_live (life_of S.tree d)) dev in
      let no_zero : d ≢ 0 = λ z_. (let off : is_some (device_of plan d) ≡ false = ap (λ y. is_some (device_of plan y)) z_ in let z : ⊥ = cc in z) in
      let i = queue_is plan q d (declared_of plan q) refl (at_queue q r h) no_zero in
      let part : is_part_of plan d q ≡ true = both (is_part d (declared_of plan q)) (is_some (device_of plan d)) (ap (is_part d) i.1 ∙ (ap (λ y. y == d) i.2 ∙ itself d)) is in
      let there : is_live (life_of S.tree q) ≡ true = k.parts d q part live in
      let kind_ : kind_of S.tree q ≡ kind.Queue = (facts.declared q (declared.Queue i.0) i.1 (live_there (life_of S.tree q) there)).1 in
      both (is_live (life_of S.tree q)) (same_kind (kind_of S.tree q) kind.Queue) there ((kind_decides (kind_of S.tree q) kind.Queue).1 kind_)

pub queues_live : {A : Type 0} (plan : Plan) (m : Meaning A) (run : List Event) → IsResolved plan → IsRunOf plan m run → QueuesLive (state_after plan m run)
queues_live {A} plan m run resolved is_run =
    let S : State A = state_after plan m run in
    let n : Known plan S = known_now plan m resolved run is_run in
    let of : AllSuited plan (OfItsDevice plan) S.requests = at_the_end plan m (λ (S : State A). AllSuited plan (OfItsDevice plan) S.requests) run (devices_at_each plan m run is_run (length run)).1 in
    record { queues = live_queue plan S n.facts n.placed of (stands_now plan m run resolved is_run) }

pub queued_in : (q : ℕ) (p : Place) → is_queued_in q p ≡ true → is_in q p ≡ true
queued_in q p h = first (is_queued_in q p) (is_returning_to q p) h

pub returning_in : (q : ℕ) (p : Place) → is_returning_to q p ≡ true → is_in q p ≡ true
returning_in q p h = second (is_queued_in q p) (is_returning_to q p) h
