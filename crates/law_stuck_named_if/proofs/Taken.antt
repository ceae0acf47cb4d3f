-- A request is of a form that the queue takes in which it waits, to which it returns, and from which it came.
use Rattle.std.proofs.Common.{◌≡◌, ℕ, true, List, take, refl}
use Rattle.wdf_base.specs.Meaning.{Meaning}
use Rattle.wdf_base.specs.declared.plan.Plan.{Plan}
use Rattle.wdf_base.specs.declared.event.Event.{Event}
use Rattle.wdf_base.specs.declared.object.Place.{Place}
use Rattle.wdf_base.specs.declared.object.Place.TheVariants as place
use Rattle.wdf_base.specs.declared.object.RequestForm.{RequestForm}
use Rattle.wdf_model.specs.State.{State}
use Rattle.wdf_model.specs.declared.deed.Deed.{Deed}
use Rattle.wdf_model.specs.declared.deed.Deed.TheVariants.{Arrive, Requeue, Forward, GiveBack, PassTick}
use Rattle.wdf_model.specs.rules.Deeds.{do_deed}
use Rattle.wdf_model.specs.rules.Steps.{deeds}
use Rattle.wdf_model.specs.rules.Ready.{IsRunOf, state_after}
use Rattle.law_machine_base.specs.Fits.{fits}
use Rattle.law_machine_base.proofs.FitsOfEvents.{event_fits}
use Rattle.law_machine_counts.proofs.HeldMoves.{Placed}
use Rattle.law_machine_lives.proofs.FromQueues.{AllSuited, ArrivesAt, GoesWell, suited_by, suited_first}
use Rattle.law_machine_lives.proofs.Keeping.{each_place}
use Rattle.law_machine_lives.proofs.AllOf.{all_keep}
use Rattle.law_machine_lives.proofs.Reasons.{IsTaken, takes}
use Rattle.law_stuck_named_if.proofs.Apt.{Apt}
use Rattle.law_stuck_named_if.proofs.AptEvents.{event_apt}

-- a queue suits the requests of a form that it takes
abbrev pub TakesForm : Plan → ℕ → ℕ → RequestForm → Type 0
TakesForm plan q d f = takes plan q f ≡ true

arrives : (plan : Plan) (p : Place) (d : ℕ) (f : RequestForm) → IsTaken plan p f → ArrivesAt plan (TakesForm plan) p d f
arrives plan (place.Queued q) d f h = h
arrives plan _ d f h = tt

goes_well : {A : Type 0} (plan : Plan) (d : Deed) (S : State A) → Apt plan d S → GoesWell plan (TakesForm plan) d S
goes_well plan (Arrive device info p) S s = (s.0, arrives plan p info.device.0 info.form s.1)
goes_well plan (Requeue r q) S s = s
goes_well plan (Forward r q) S s = s
goes_well plan (GiveBack r q) S s = s
goes_well plan _ S s = tt

abbrev pub Forms : {A : Type 0} → Plan → State A → Type 0
Forms plan S = Placed S × AllSuited plan (TakesForm plan) S.requests

forms_by : {A : Type 0} (plan : Plan) (d : Deed) (S : State A) → fits plan d S ≡ true → Apt plan d S → Forms plan S → Forms plan (do_deed plan d S)
forms_by plan d S f s k = suited_by plan (TakesForm plan) d S f (goes_well plan d S s) k

pub forms_at_each : {A : Type 0} (plan : Plan) (m : Meaning A) (run : List Event) → IsRunOf plan m run → (n : ℕ) → Forms plan (state_after plan m (take n run))
forms_at_each {A} plan m run is_run n = each_place plan m (λ (S : State A). Forms plan S) (suited_first plan (TakesForm plan) m)
    (λ S e known may_come q. all_keep plan (λ (d : Deed) (U : State A). Apt plan d U) (λ (U : State A). Forms plan U) (forms_by plan) (deeds plan S e) S (event_fits plan m S e may_come) (event_apt plan m S e known may_come) q)
    (λ S time q. forms_by plan PassTick S refl tt q) run is_run n
