-- What deeds leave alone that begin no frame and move no device: what devices have left, their power, and their interrupts.
use Rattle.std.proofs.Common.{if◌then◌else◌, ◌≡◌, ℕ, Bool, true, false, not, List, [], ◌∷◌, fold, refl, ap, ◌∙◌}
use Rattle.wdf_base.specs.declared.plan.Plan.{Plan}
use Rattle.wdf_base.specs.declared.object.Place.{Place}
use Rattle.wdf_base.specs.declared.object.Place.TheVariants as place
use Rattle.wdf_base.specs.declared.object.RequestInfo.{RequestInfo}
use Rattle.wdf_model.specs.declared.entries.DevicePower.{DevicePower}
use Rattle.wdf_model.specs.declared.enums.Mode.TheVariants as mode
use Rattle.wdf_model.specs.Plans.{is_managed, managed_queues, queues_of}
use Rattle.wdf_model.specs.parts.Tree.{subtree}
use Rattle.wdf_model.specs.parts.Cpus.{Cpus}
use Rattle.wdf_model.specs.parts.Requests as requests
use Rattle.wdf_model.specs.parts.Queues.{waiting_in}
use Rattle.wdf_model.specs.parts.Control as control
use Rattle.wdf_model.specs.parts.Power.{holding_of, is_held}
use Rattle.wdf_model.specs.parts.Pnp.{Pnp}
use Rattle.wdf_model.specs.parts.Interrupts.{Interrupts}
use Rattle.wdf_model.specs.State.{State, is_with_driver}
use Rattle.wdf_model.specs.declared.deed.Deed.{Deed}
use Rattle.wdf_model.specs.declared.deed.Deed.TheVariants.{Arrive, AskDeletion, PushFrame, PopFrame, Present, Receive, Requeue, Forward, GiveBack, SendRequest, CompleteRequest, PurgeQueue, CloseReturning, CloseDevice, AskDevice, TakeStep, EndStep, AdvancePower, EnableInterrupt, DisableInterrupt}
use Rattle.wdf_model.specs.rules.Deeds.{arrive_at, close_queue, close_returning, do_deed, do_deeds, give_up, give_up_if, withdraw}
use Rattle.wdf_model.proofs.Tests.{both_left, both_right, not_true}
use Rattle.law_machine_lives.proofs.Stays.{asks_all, gives_up, gives_up_if, queues_closed, returns_closed, withdraws}
use Rattle.law_machine_lives.proofs.Sound.{AllSound, Sound}
use Rattle.law_machine_lives.proofs.FramesStay.{FramesGoOn, frames_by}
use Rattle.law_trace_power.proofs.Unmoved.{is_moving, none_moves}
use Rattle.law_machine_counts.proofs.PowerQueues.{held_devices, released_devices}

pub record Calm {A : Type 0} (S U : State A) : Type 0 where
  pub pnp : U.pnp ≡ S.pnp
  pub devices : U.power.devices ≡ S.power.devices
  pub interrupts : U.interrupts ≡ S.interrupts
  pub frames : FramesGoOn S.cpus U.cpus

pub on_then : (C D E : Cpus) → FramesGoOn C D → FramesGoOn D E → FramesGoOn C E
on_then C D E a b x h =
    let more = b x h in
    let was = a x more.0 in
    (was.0, record { callback = more.1.callback ∙ was.1.callback; object = more.1.object ∙ was.1.object; device = more.1.device ∙ was.1.device })

pub calm_same : {A : Type 0} (S : State A) → Calm S S
calm_same S = record { pnp = refl; devices = refl; interrupts = refl; frames = λ x h. (h, record { callback = refl; object = refl; device = refl }) }

calm_then : {A : Type 0} (S U V : State A) → Calm S U → Calm U V → Calm S V
calm_then S U V a b = record { pnp = b.pnp ∙ a.pnp; devices = b.devices ∙ a.devices; interrupts = b.interrupts ∙ a.interrupts; frames = on_then S.cpus U.cpus V.cpus a.frames b.frames }

-- ---- the power of devices

abbrev devices_in : {A : Type 0} → State A → List DevicePower
devices_in S = S.power.devices

given_by : {A : Type 0} (S U : State A) (b : Bool) → devices_in U ≡ devices_in S → devices_in (if b then U else S) ≡ devices_in S
given_by S U true h = h
given_by S U false h = refl

given : {A : Type 0} (S : State A) (r : ℕ) → devices_in (give_up S r) ≡ devices_in S
given S r = given_by S _ (is_with_driver S r) (released_devices S.power r (is_held (holding_of S.power r)))

given_if : {A : Type 0} (S : State A) (forget : Bool) (r : ℕ) → devices_in (give_up_if forget S r) ≡ devices_in S
given_if S true r = given S r
given_if S false r = refl

withdrawn : {A : Type 0} (plan : Plan) (q : ℕ) (rs : List ℕ) (S : State A) → devices_in (fold (withdraw plan q) S rs) ≡ devices_in S
withdrawn plan q [] S = refl
withdrawn plan q (r ∷ rs) S = withdrawn plan q rs (withdraw plan q S r)

returned : {A : Type 0} (qs : List ℕ) (S : State A) → devices_in (fold close_returning S qs) ≡ devices_in S
returned [] S = refl
returned (q ∷ qs) S = returned qs (close_returning S q)

closed : {A : Type 0} (qs : List ℕ) (S : State A) → devices_in (fold close_queue S qs) ≡ devices_in S
closed [] S = refl
closed (q ∷ qs) S = closed qs (close_queue S q)

arrived : {A : Type 0} (S : State A) (device : ℕ) (info : RequestInfo) (p : Place) → devices_in (arrive_at S device info p) ≡ devices_in S
arrived S device info (place.Queued q) = refl
arrived S device info _ = refl

devices_by : {A : Type 0} (plan : Plan) (d : Deed) (S : State A) → is_moving d ≡ false → devices_in (do_deed plan d S) ≡ devices_in S
devices_by plan (Arrive device info p) S h = arrived S device.0 info p
devices_by plan (AskDeletion o) S h = asks_all devices_in (λ S T D W U. refl) (subtree S.tree o.0) S
devices_by plan (Present q r) S h = held_devices S.power r.0 q.0 (is_managed plan q.0)
devices_by plan (Receive q r) S h = held_devices S.power r.0 q.0 (is_managed plan q.0)
devices_by plan (Requeue r q) S h = given S r.0
devices_by plan (Forward r q) S h = given S r.0
devices_by plan (GiveBack r q) S h = given S r.0
devices_by plan (SendRequest r t forget) S h = given_if S forget r.0
devices_by plan (CompleteRequest r) S h = asks_all devices_in (λ S T D W U. refl) (subtree (give_up S r.0).tree r.0) (record (give_up S r.0) { requests = requests.complete S.requests r.0 }) ∙ given S r.0
devices_by plan (PurgeQueue q) S h = withdrawn plan q.0 (waiting_in S.queues q.0) (record S { control = control.set_mode S.control q.0 mode.Purged })
devices_by plan (CloseReturning d) S h = returned (managed_queues plan d.0) S
devices_by plan (CloseDevice d) S h = closed (queues_of plan d.0) (record S { control = control.shut S.control d.0 })
devices_by plan (AdvancePower d s) S h = absurd (let z : ⊥ = cc in z)
devices_by plan _ S h = refl

-- ---- what devices have left, and their interrupts

abbrev Rest : Type 0
Rest = Pnp × Interrupts

abbrev rest_in : {A : Type 0} → State A → Rest
rest_in S = (S.pnp, S.interrupts)

rest_arrived : {A : Type 0} (S : State A) (device : ℕ) (info : RequestInfo) (p : Place) → rest_in (arrive_at S device info p) ≡ rest_in S
rest_arrived S device info (place.Queued q) = refl
rest_arrived S device info _ = refl

rest_by : {A : Type 0} (plan : Plan) (d : Deed) (S : State A) → is_moving d ≡ false → rest_in (do_deed plan d S) ≡ rest_in S
rest_by plan (Arrive device info p) S h = rest_arrived S device.0 info p
rest_by plan (AskDeletion o) S h = asks_all rest_in (λ S T D W U. refl) (subtree S.tree o.0) S
rest_by plan (Requeue r q) S h = gives_up rest_in (λ S Q R P. refl) S r.0
rest_by plan (Forward r q) S h = gives_up rest_in (λ S Q R P. refl) S r.0
rest_by plan (GiveBack r q) S h = gives_up rest_in (λ S Q R P. refl) S r.0
rest_by plan (SendRequest r t forget) S h = gives_up_if rest_in (λ S Q R P. refl) S forget r.0
rest_by plan (CompleteRequest r) S h = asks_all rest_in (λ S T D W U. refl) (subtree (give_up S r.0).tree r.0) (record (give_up S r.0) { requests = requests.complete S.requests r.0 }) ∙ gives_up rest_in (λ S Q R P. refl) S r.0
rest_by plan (PurgeQueue q) S h = withdraws rest_in (λ S Q R P. refl) plan q.0 (waiting_in S.queues q.0) (record S { control = control.set_mode S.control q.0 mode.Purged })
rest_by plan (CloseReturning d) S h = returns_closed rest_in (λ S Q R P. refl) (managed_queues plan d.0) S
rest_by plan (CloseDevice d) S h = queues_closed rest_in (λ S Q R P. refl) (queues_of plan d.0) (record S { control = control.shut S.control d.0 })
rest_by plan (AskDevice d a) S h = absurd (let z : ⊥ = cc in z)
rest_by plan (TakeStep d) S h = absurd (let z : ⊥ = cc in z)
rest_by plan (EndStep d s v) S h = absurd (let z : ⊥ = cc in z)
rest_by plan (EnableInterrupt i) S h = absurd (let z : ⊥ = cc in z)
rest_by plan (DisableInterrupt i) S h = absurd (let z : ⊥ = cc in z)
rest_by plan _ S h = refl

-- ---- frames

goes_by : {A : Type 0} (plan : Plan) (d : Deed) (S : State A) → is_moving d ≡ false → Sound plan d S → FramesGoOn S.cpus (do_deed plan d S).cpus
goes_by plan (PushFrame cpu f frame level) S h s = absurd (let z : ⊥ = cc in z)
goes_by plan (PopFrame cpu) S h s = (frames_by plan (PopFrame cpu) S s).0
goes_by plan d S h s = (frames_by plan d S s).0

-- ---- deeds

calm_by : {A : Type 0} (plan : Plan) (d : Deed) (S : State A) → is_moving d ≡ false → Sound plan d S → Calm S (do_deed plan d S)
calm_by plan d S h s =
    let e : rest_in (do_deed plan d S) ≡ rest_in S = rest_by plan d S h in
    record { pnp = ap (λ (r : Rest). r.0) e; devices = devices_by plan d S h; interrupts = ap (λ (r : Rest). r.1) e; frames = goes_by plan d S h s }

pub deeds_calm : {A : Type 0} (plan : Plan) (ds : List Deed) (S : State A) → none_moves ds ≡ true → AllSound plan ds S → Calm S (do_deeds plan ds S)
deeds_calm plan [] S h s = calm_same S
deeds_calm plan (d ∷ ds) S h s =
    calm_then S (do_deed plan d S) _ (calm_by plan d S (not_true (is_moving d) (both_left (not (is_moving d)) (none_moves ds) h)) s.0)
    (deeds_calm plan ds (do_deed plan d S) (both_right (not (is_moving d)) (none_moves ds) h) s.1)
