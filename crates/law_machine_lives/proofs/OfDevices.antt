-- A request is of the device of the queue in which it waits, to which it returns, and from which it came.
use Rattle.std.proofs.Common.{◌≡◌, ℕ, List, take, sym, ◌∙◌}
use Rattle.wdf_base.specs.Meaning.{Meaning}
use Rattle.wdf_base.specs.declared.plan.Plan.{Plan}
use Rattle.wdf_base.specs.declared.event.Event.{Event}
use Rattle.wdf_base.specs.declared.object.Place.{Place}
use Rattle.wdf_base.specs.declared.object.Place.TheVariants as place
use Rattle.wdf_base.specs.declared.object.RequestForm.{RequestForm}
use Rattle.wdf_model.specs.Plans.{device_of_queue}
use Rattle.wdf_model.specs.State.{State}
use Rattle.wdf_model.specs.declared.deed.Deed.{Deed}
use Rattle.wdf_model.specs.declared.deed.Deed.TheVariants.{Arrive, Requeue, Forward, GiveBack}
use Rattle.wdf_model.specs.rules.Ready.{IsRunOf, state_after}
use Rattle.law_machine_counts.proofs.HeldMoves.{Placed}
use Rattle.law_machine_lives.specs.Agreements.{WaitingAgree}
use Rattle.law_machine_lives.proofs.FromQueues.{AllSuited, ArrivesAt, GoesWell, suited_by, suited_first, waiting_suits}
use Rattle.law_machine_lives.proofs.Sound.{Sound, WaitsAt}
use Rattle.law_machine_lives.proofs.SoundRuns.{sound_place}

-- a queue suits the requests of its device
abbrev pub OfItsDevice : Plan → ℕ → ℕ → RequestForm → Type 0
OfItsDevice plan q d f = device_of_queue plan q ≡ d

arrives : (plan : Plan) (p : Place) (x d : ℕ) (f : RequestForm) → x ≡ d → WaitsAt plan p d → ArrivesAt plan (OfItsDevice plan) p x f
arrives plan (place.Queued q) x d f e w = w ∙ sym e
arrives plan _ x d f e w = tt

goes_well : {A : Type 0} (plan : Plan) (d : Deed) (S : State A) → Sound plan d S → GoesWell plan (OfItsDevice plan) d S
goes_well plan (Arrive device info p) S s = (s.1, arrives plan p info.device.0 device.0 info.form s.0 s.2)
goes_well plan (Requeue r q) S s = s
goes_well plan (Forward r q) S s = s
goes_well plan (GiveBack r q) S s = s
goes_well plan _ S s = tt

abbrev Devices : {A : Type 0} → Plan → State A → Type 0
Devices plan S = Placed S × AllSuited plan (OfItsDevice plan) S.requests

pub devices_at_each : {A : Type 0} (plan : Plan) (m : Meaning A) (run : List Event) → IsRunOf plan m run → (n : ℕ) → Devices plan (state_after plan m (take n run))
devices_at_each {A} plan m run is_run n = sound_place plan m (λ (S : State A). Devices plan S) (suited_first plan (OfItsDevice plan) m)
    (λ d S f s k. suited_by plan (OfItsDevice plan) d S f (goes_well plan d S s) k) (λ e S k. k) run is_run n

pub waiting_agree_at_each : {A : Type 0} (plan : Plan) (m : Meaning A) (run : List Event) → IsRunOf plan m run → (n : ℕ) → WaitingAgree plan (state_after plan m (take n run))
waiting_agree_at_each plan m run is_run n =
    let k = devices_at_each plan m run is_run n in
    record { device = λ q r more. waiting_suits plan (OfItsDevice plan) (state_after plan m (take n run)) q r k.0 k.1 more }
