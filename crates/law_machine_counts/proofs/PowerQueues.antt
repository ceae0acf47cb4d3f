-- What power knows of the queues never changes.
use Rattle.std.proofs.Common.{if◌then◌else◌, ◌≡◌, ℕ, Bool, true, false, List, [], ◌∷◌, fold, take, refl, ap, ◌∙◌}
use Rattle.wdf_base.specs.Meaning.{Meaning}
use Rattle.wdf_base.specs.declared.plan.Plan.{Plan}
use Rattle.wdf_base.specs.declared.event.Event.{Event}
use Rattle.wdf_base.specs.declared.event.Stage.{Stage}
use Rattle.wdf_base.specs.declared.event.Stage.TheVariants as stage
use Rattle.wdf_base.specs.declared.event.Step.{Step}
use Rattle.wdf_base.specs.declared.event.Step.TheVariants as step
use Rattle.wdf_base.specs.declared.object.Place.TheVariants as place
use Rattle.wdf_model.specs.declared.enums.Mode.TheVariants as mode
use Rattle.wdf_model.specs.Plans.{is_managed, managed_queues, queues_of}
use Rattle.wdf_model.specs.parts.Requests as requests
use Rattle.wdf_model.specs.parts.Queues.{Queues, waiting_in}
use Rattle.wdf_model.specs.parts.Control as control
use Rattle.wdf_model.specs.parts.Power.{Power, advance_stage, holding_of, is_held, opening_power}
use Rattle.wdf_model.specs.parts.Power as power
use Rattle.wdf_model.specs.State.{State, is_with_driver}
use Rattle.wdf_model.specs.declared.deed.Deed.{Deed}
use Rattle.wdf_model.specs.declared.deed.Deed.TheVariants.{Arrive, AskDeletion, Present, Receive, Requeue, Forward, GiveBack, SendRequest, CompleteRequest, PurgeQueue, CloseDevice, CloseReturning, AdvancePower}
use Rattle.wdf_model.specs.rules.Deeds.{arrive_at, ask_objects, close_queue, close_returning, do_deed, do_deeds, give_up, give_up_if, release_power, withdraw}
use Rattle.wdf_base.specs.declared.object.Place.{Place}
use Rattle.wdf_base.specs.declared.object.RequestInfo.{RequestInfo}
use Rattle.wdf_model.specs.rules.Steps.{deeds}
use Rattle.wdf_model.specs.rules.Ready.{IsRunOf, ready, state_after}
use Rattle.wdf_model.proofs.Runs.{along_run}
use Rattle.law_machine_base.proofs.Follows.{state_goes_on}
use Rattle.law_machine_base.proofs.Deletion.{asking_deletes}

-- ---- parts of deeds

held_queues : (P : Power) (r q : ℕ) (b : Bool) → (if b then power.held_more P r q else P).queues ≡ P.queues
held_queues P r q true = refl
held_queues P r q false = refl

released_queues : (P : Power) (r : ℕ) (b : Bool) → (if b then power.held_less P r else P).queues ≡ P.queues
released_queues P r true = refl
released_queues P r false = refl

pub held_devices : (P : Power) (r q : ℕ) (b : Bool) → (if b then power.held_more P r q else P).devices ≡ P.devices
held_devices P r q true = refl
held_devices P r q false = refl

pub released_devices : (P : Power) (r : ℕ) (b : Bool) → (if b then power.held_less P r else P).devices ≡ P.devices
released_devices P r true = refl
released_devices P r false = refl

given_up_queues : {A : Type 0} (S : State A) (r : ℕ) (b : Bool) (Q : Queues) → (if b then record S { queues = Q; power = release_power S.power r } else S).power.queues ≡ S.power.queues
given_up_queues S r true Q = released_queues S.power r (is_held (holding_of S.power r))
given_up_queues S r false Q = refl

gives_up_queues : {A : Type 0} (S : State A) (r : ℕ) → (give_up S r).power.queues ≡ S.power.queues
gives_up_queues S r = given_up_queues S r (is_with_driver S r) _

sent_queues : {A : Type 0} (S : State A) (r : ℕ) (forget : Bool) → (give_up_if forget S r).power.queues ≡ S.power.queues
sent_queues S r true = gives_up_queues S r
sent_queues S r false = refl

deleted_queues : {A : Type 0} (S : State A) (o : ℕ) → (ask_objects S o).power.queues ≡ S.power.queues
deleted_queues {A} S o = ap (λ (T : State A). T.power.queues) (asking_deletes S o).rest

withdrawn_queues : {A : Type 0} (plan : Plan) (q : ℕ) (rs : List ℕ) (S : State A) → (fold (withdraw plan q) S rs).power.queues ≡ S.power.queues
withdrawn_queues plan q [] S = refl
withdrawn_queues plan q (r ∷ rs) S = withdrawn_queues plan q rs (withdraw plan q S r)

returning_queues : {A : Type 0} (qs : List ℕ) (S : State A) → (fold close_returning S qs).power.queues ≡ S.power.queues
returning_queues [] S = refl
returning_queues (q ∷ qs) S = returning_queues qs (close_returning S q)

closed_queues : {A : Type 0} (qs : List ℕ) (S : State A) → (fold close_queue S qs).power.queues ≡ S.power.queues
closed_queues [] S = refl
closed_queues (q ∷ qs) S = closed_queues qs (close_queue S q)

stage_queues : (P : Power) (d : ℕ) (s : Stage) → (advance_stage P d s).queues ≡ P.queues
stage_queues P d stage.Hardware = refl
stage_queues P d stage.NoHardware = refl
stage_queues P d stage.QueuesUp = refl
stage_queues P d stage.QueuesDown = refl
stage_queues P d _ = refl

step_queues : (P : Power) (d : ℕ) (s : Step) → (power.advance P d s).queues ≡ P.queues
step_queues P d (step.Run c i) = refl
step_queues P d (step.Pass s i) = stage_queues P d s

arrived_queues : {A : Type 0} (S : State A) (device : ℕ) (info : RequestInfo) (p : Place) → (arrive_at S device info p).power.queues ≡ S.power.queues
arrived_queues S device info (place.Queued q) = refl
arrived_queues S device info _ = refl

-- ---- deeds, events and runs

pub deed_queues : {A : Type 0} (plan : Plan) (d : Deed) (S : State A) → (do_deed plan d S).power.queues ≡ S.power.queues
deed_queues plan (Arrive device info p) S = arrived_queues S device.0 info p
deed_queues plan (AskDeletion o) S = deleted_queues S o.0
deed_queues plan (Present q r) S = held_queues S.power r.0 q.0 (is_managed plan q.0)
deed_queues plan (Receive q r) S = held_queues S.power r.0 q.0 (is_managed plan q.0)
deed_queues plan (Requeue r q) S = gives_up_queues S r.0
deed_queues plan (Forward r q) S = gives_up_queues S r.0
deed_queues plan (GiveBack r q) S = gives_up_queues S r.0
deed_queues plan (SendRequest r t forget) S = sent_queues S r.0 forget
deed_queues plan (CompleteRequest r) S = deleted_queues (record (give_up S r.0) { requests = requests.complete S.requests r.0 }) r.0 ∙ gives_up_queues S r.0
deed_queues plan (PurgeQueue q) S = withdrawn_queues plan q.0 (waiting_in S.queues q.0) (record S { control = control.set_mode S.control q.0 mode.Purged })
deed_queues plan (CloseReturning d) S = returning_queues (managed_queues plan d.0) S
deed_queues plan (CloseDevice d) S = closed_queues (queues_of plan d.0) (record S { control = control.shut S.control d.0 })
deed_queues plan (AdvancePower d s) S = step_queues S.power d.0 s
deed_queues plan _ S = refl

pub deeds_queues : {A : Type 0} (plan : Plan) (ds : List Deed) (S : State A) → (do_deeds plan ds S).power.queues ≡ S.power.queues
deeds_queues plan [] S = refl
deeds_queues plan (d ∷ ds) S = deeds_queues plan ds (do_deed plan d S) ∙ deed_queues plan d S

first_queues : {A : Type 0} (plan : Plan) (m : Meaning A) → (state_after plan m []).power.queues ≡ (opening_power plan).queues
unfolding state_after
first_queues plan m = refl

pub queues_at_each : {A : Type 0} (plan : Plan) (m : Meaning A) (run : List Event) → IsRunOf plan m run → (n : ℕ) → (state_after plan m (take n run)).power.queues ≡ (opening_power plan).queues
queues_at_each {A} plan m run is_run n = along_run (λ es. (state_after plan m es).power.queues ≡ (opening_power plan).queues) (ready plan m) run (first_queues plan m)
    (λ before e place so_far held at. ap (λ (T : State A). T.power.queues) (state_goes_on plan m before e) ∙ deeds_queues plan (deeds plan (state_after plan m before) e) (state_after plan m before) ∙ held)
    is_run n
