-- To count an event before its deeds or after them is the same: no deed reads the agents or the count.
use Rattle.std.proofs.Common.{◌≡◌, ℕ, ◌+◌, sym, Bool, true, false, List, [], ◌∷◌, fold, refl, ap, ◌∙◌}
use Rattle.wdf_base.specs.Meaning.{Meaning}
use Rattle.wdf_base.specs.declared.plan.Plan.{Plan}
use Rattle.wdf_base.specs.declared.event.Event.{Event}
use Rattle.wdf_base.specs.declared.object.Place.{Place}
use Rattle.wdf_base.specs.declared.object.Place.TheVariants as place
use Rattle.wdf_base.specs.declared.object.RequestInfo.{RequestInfo}
use Rattle.wdf_base.specs.Lives.{is_live}
use Rattle.wdf_model.specs.declared.enums.Mode.TheVariants as mode
use Rattle.wdf_model.specs.Plans.{managed_queues, queues_of}
use Rattle.wdf_model.specs.parts.Tree.{life_of, subtree}
use Rattle.wdf_model.specs.parts.Requests as requests
use Rattle.wdf_model.specs.parts.Queues.{waiting_in}
use Rattle.wdf_model.specs.parts.Control as control
use Rattle.wdf_model.specs.parts.Targets as targets
use Rattle.wdf_model.specs.State.{State, is_with_driver}
use Rattle.wdf_model.specs.declared.deed.Deed.{Deed}
use Rattle.wdf_model.specs.declared.deed.Deed.TheVariants.{Arrive, AskDeletion, CloseDevice, CloseReturning, CompleteRequest, Forward, GiveBack, PurgeQueue, Requeue, SendRequest}
use Rattle.wdf_model.specs.rules.Deeds.{arrive_at, ask_object, ask_objects, cancel_in, enter_at_head, enter_at_tail, queued, with_place, close_queue, close_returning, counted, do_deed, do_deeds, give_up, give_up_if, told, withdraw}

-- a state with other agents and another count
abbrev with_count : {A : Type 0} → List A → ℕ → State A → State A
with_count agents n S = record S { agents = agents; number = n }

module _ {A : Type 0} (agents : List A) (n : ℕ) where
  asks_by : (S : State A) (x : ℕ) (b : Bool) → is_live (life_of S.tree x) ≡ b → ask_object (with_count agents n S) x ≡ with_count agents n (ask_object S x)
  asks_by S x true e = rw e refl
  asks_by S x false e = rw e refl

  asks_all : (xs : List ℕ) (S : State A) → fold ask_object (with_count agents n S) xs ≡ with_count agents n (fold ask_object S xs)
  asks_all [] S = refl
  asks_all (x ∷ xs) S = ap (λ (T : State A). fold ask_object T xs) (asks_by S x (is_live (life_of S.tree x)) refl) ∙ asks_all xs (ask_object S x)

  gives_up_by : (S : State A) (r : ℕ) (b : Bool) → is_with_driver S r ≡ b → give_up (with_count agents n S) r ≡ with_count agents n (give_up S r)
  gives_up_by S r true e = rw e refl
  gives_up_by S r false e = rw e refl

  gives_up : (S : State A) (r : ℕ) → give_up (with_count agents n S) r ≡ with_count agents n (give_up S r)
  gives_up S r = gives_up_by S r (is_with_driver S r) refl

  gives_up_if : (forget : Bool) (S : State A) (r : ℕ) → give_up_if forget (with_count agents n S) r ≡ with_count agents n (give_up_if forget S r)
  gives_up_if true S r = gives_up S r
  gives_up_if false S r = refl

  withdraws_all : (plan : Plan) (q : ℕ) (rs : List ℕ) (S : State A) → fold (withdraw plan q) (with_count agents n S) rs ≡ with_count agents n (fold (withdraw plan q) S rs)
  withdraws_all plan q [] S = refl
  withdraws_all plan q (r ∷ rs) S = withdraws_all plan q rs (withdraw plan q S r)

  closes_returning : (qs : List ℕ) (S : State A) → fold close_returning (with_count agents n S) qs ≡ with_count agents n (fold close_returning S qs)
  closes_returning [] S = refl
  closes_returning (q ∷ qs) S = closes_returning qs (close_returning S q)

  closes_queues : (qs : List ℕ) (S : State A) → fold close_queue (with_count agents n S) qs ≡ with_count agents n (fold close_queue S qs)
  closes_queues [] S = refl
  closes_queues (q ∷ qs) S = closes_queues qs (close_queue S q)

  arrives : (S : State A) (device : ℕ) (info : RequestInfo) (p : Place) → arrive_at (with_count agents n S) device info p ≡ with_count agents n (arrive_at S device info p)
  arrives S device info (place.Queued q) = refl
  arrives S device info _ = refl

  deed_counts : (plan : Plan) (d : Deed) (S : State A) → do_deed plan d (with_count agents n S) ≡ with_count agents n (do_deed plan d S)
  deed_counts plan (Arrive device info p) S = arrives S device.0 info p
  deed_counts plan (AskDeletion o) S = asks_all (subtree S.tree o.0) S
  deed_counts plan (Requeue r q) S = ap (λ (T : State A). enter_at_head (with_place T r.0 (queued q.0)) q.0 r.0) (gives_up S r.0)
  deed_counts plan (Forward r q) S = ap (λ (T : State A). enter_at_tail (with_place T r.0 (queued q.0)) q.0 r.0) (gives_up S r.0)
  deed_counts plan (GiveBack r q) S = ap (λ (T : State A). cancel_in plan T q.0 r.0) (gives_up S r.0)
  deed_counts plan (SendRequest r t forget) S = ap (λ (T : State A). with_place (record T { targets = targets.send S.targets t.0 r.0 forget }) r.0 (place.Sent (record { 0 = t.0 }))) (gives_up_if forget S r.0)
  deed_counts plan (CompleteRequest r) S =
      ap (λ (T : State A). ask_objects (record T { requests = requests.complete S.requests r.0 }) r.0) (gives_up S r.0)
      ∙ asks_all (subtree (give_up S r.0).tree r.0) (record (give_up S r.0) { requests = requests.complete S.requests r.0 })
  deed_counts plan (PurgeQueue q) S = withdraws_all plan q.0 (waiting_in S.queues q.0) (record S { control = control.set_mode S.control q.0 mode.Purged })
  deed_counts plan (CloseReturning d) S = closes_returning (managed_queues plan d.0) S
  deed_counts plan (CloseDevice d) S = closes_queues (queues_of plan d.0) (record S { control = control.shut S.control d.0 })
  deed_counts plan _ S = refl

  deeds_count : (plan : Plan) (ds : List Deed) (S : State A) → do_deeds plan ds (with_count agents n S) ≡ with_count agents n (do_deeds plan ds S)
  deeds_count plan [] S = refl
  deeds_count plan (d ∷ ds) S = ap (λ (T : State A). do_deeds plan ds T) (deed_counts plan d S) ∙ deeds_count plan ds (do_deed plan d S)

pub counting_commutes : {A : Type 0} (plan : Plan) (m : Meaning A) (ds : List Deed) (e : Event) (S : State A) → do_deeds plan ds (counted m e S) ≡ record (do_deeds plan ds S) { agents = told m e S.agents; number = S.number + 1 }
counting_commutes plan m ds e S = deeds_count (told m e S.agents) (S.number + 1) plan ds S

-- no deed changes the agents or the count
kept_by_deeds : {A : Type 0} (plan : Plan) (ds : List Deed) (S : State A) → do_deeds plan ds S ≡ record (do_deeds plan ds S) { agents = S.agents; number = S.number }
kept_by_deeds plan ds S = deeds_count S.agents S.number plan ds S

pub counted_first : {A : Type 0} (plan : Plan) (m : Meaning A) (ds : List Deed) (e : Event) (S : State A) → do_deeds plan ds (counted m e S) ≡ counted m e (do_deeds plan ds S)
counted_first {A} plan m ds e S =
    counting_commutes plan m ds e S
    ∙ sym (ap (λ (T : State A). record T { agents = told m e T.agents; number = T.number + 1 }) (kept_by_deeds plan ds S))
