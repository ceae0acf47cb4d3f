-- A deed that sets no mode and closes no device leaves the modes of all queues, and what is closed.
use Rattle.std.proofs.Common.{◌≡◌, ℕ, Bool, true, false, ◌&&◌, ◌||◌, List, [], ◌∷◌, inl, inr, refl, sym, ap, subst, ◌∙◌}
use Rattle.std.specs.List.{list_all}
use Rattle.wdf_base.specs.declared.plan.Plan.{Plan}
use Rattle.wdf_base.specs.declared.object.Place.{Place}
use Rattle.wdf_base.specs.declared.object.Place.TheVariants as place
use Rattle.wdf_base.specs.declared.object.RequestInfo.{RequestInfo}
use Rattle.wdf_model.specs.declared.entries.QueueControl.{QueueControl}
use Rattle.wdf_model.specs.declared.enums.Mode.{Mode}
use Rattle.wdf_model.specs.declared.enums.Mode.TheVariants.{Purged}
use Rattle.wdf_model.specs.Plans.{managed_queues, queues_of}
use Rattle.wdf_model.specs.parts.Tree.{subtree}
use Rattle.wdf_model.specs.parts.Requests as requests
use Rattle.wdf_model.specs.parts.Queues.{is_empty_queue, waiting_in}
use Rattle.wdf_model.specs.parts.Control.{Control, control_of, entered, mode_of, no_control, set_mode, shut, with_control}
use Rattle.wdf_model.specs.State.{State}
use Rattle.wdf_model.specs.Ids.{object_id}
use Rattle.wdf_model.specs.declared.deed.Deed.{Deed}
use Rattle.wdf_model.specs.declared.deed.Deed.TheVariants.{Arrive, AskDeletion, CloseDevice, CloseReturning, CompleteRequest, Forward, GiveBack, NotifyQueue, PurgeQueue, RegisterQueue, Requeue, SendRequest, SetMode}
use Rattle.wdf_model.specs.rules.Deeds.{arrive_at, do_deed, do_deeds, give_up}
use Rattle.wdf_model.proofs.Maps.{entry_put_other, entry_put_same}
use Rattle.wdf_model.proofs.Counts.{one_or_two}
use Rattle.wdf_model.proofs.Tests.{both_left, both_right}
use Rattle.law_machine_lives.proofs.Stays.{asks_all, gives_up, gives_up_if, queues_closed, returns_closed, withdraws}

-- the second control has the modes and the devices of the first, and the same devices are closed
pub record SameModes (C D : Control) : Type 0 where
  pub mode : (q : ℕ) → mode_of D q ≡ mode_of C q
  pub device : (q : ℕ) → (control_of D q).device.0 ≡ (control_of C q).device.0
  pub closed : D.closed ≡ C.closed

pub equal_modes : (C D : Control) → D ≡ C → SameModes C D
equal_modes C D e = subst (SameModes C) (sym e) (record { mode = λ q. refl; device = λ q. refl; closed = refl })

pub modes_then : (C D E : Control) → SameModes C D → SameModes D E → SameModes C E
modes_then C D E a b = record { mode = λ q. b.mode q ∙ a.mode q; device = λ q. b.device q ∙ a.device q; closed = b.closed ∙ a.closed }

pub control_here : (C : Control) (p : ℕ) (f : QueueControl → QueueControl) → control_of (with_control C p f) p ≡ f (control_of C p)
control_here C p f = entry_put_same no_control C.controls p (f (control_of C p))

pub control_elsewhere : (C : Control) (p q : ℕ) (f : QueueControl → QueueControl) → (q ≡ p → ⊥) → control_of (with_control C p f) q ≡ control_of C q
control_elsewhere C p q f n = entry_put_other no_control C.controls p q (f (control_of C p)) n

-- what reads the same of the changed control reads the same of all
pub read_same : {X : Type 0} (reads : QueueControl → X) (C : Control) (p : ℕ) (f : QueueControl → QueueControl) → ((c : QueueControl) → reads (f c) ≡ reads c) → (q : ℕ) → reads (control_of (with_control C p f) q) ≡ reads (control_of C q)
read_same reads C p f same q = elim (one_or_two q p) [
  | inl e ↦ subst (λ x. reads (control_of (with_control C p f) x) ≡ reads (control_of C x)) (sym e) (ap reads (control_here C p f) ∙ same (control_of C p))
  | inr n ↦ ap reads (control_elsewhere C p q f n)
]

abbrev pub its_mode : QueueControl → Mode
its_mode c = c.mode

abbrev pub its_device : QueueControl → ℕ
its_device c = c.device.0

-- a change of what notification knows leaves the modes
pub flags_modes : (C : Control) (q : ℕ) (f : QueueControl → QueueControl) → ((c : QueueControl) → (f c).mode ≡ c.mode) → ((c : QueueControl) → (f c).device.0 ≡ c.device.0) → SameModes C (with_control C q f)
flags_modes C q f modes devices = record { mode = read_same its_mode C q f modes; device = read_same its_device C q f devices; closed = refl }

pub entered_modes : (C : Control) (q : ℕ) (was_empty : Bool) → SameModes C (entered C q was_empty)
entered_modes C q b = flags_modes C q (λ c. record c { due = c.due || (c.registered && b) }) (λ c. refl) (λ c. refl)

-- ---- deeds

abbrev pub control_in : {A : Type 0} → State A → Control
control_in S = S.control

abbrev pub leaves_modes : Deed → Bool
leaves_modes (SetMode q m) = false
leaves_modes (PurgeQueue q) = false
leaves_modes (CloseDevice d) = false
leaves_modes _ = true

enters : (C D : Control) (q : ℕ) (was_empty : Bool) → D ≡ C → SameModes C (entered D q was_empty)
enters C D q b e = modes_then C D (entered D q b) (equal_modes C D e) (entered_modes D q b)

arrives : {A : Type 0} (S : State A) (device : ℕ) (info : RequestInfo) (p : Place) → SameModes S.control (arrive_at S device info p).control
arrives S device info (place.Queued q) = entered_modes S.control q.0 (is_empty_queue S.queues q.0)
arrives S device info _ = equal_modes S.control S.control refl

pub deed_modes : {A : Type 0} (plan : Plan) (d : Deed) (S : State A) → leaves_modes d ≡ true → SameModes S.control (do_deed plan d S).control
deed_modes plan (SetMode q m) S h = absurd (let z : ⊥ = cc in z)
deed_modes plan (PurgeQueue q) S h = absurd (let z : ⊥ = cc in z)
deed_modes plan (CloseDevice d) S h = absurd (let z : ⊥ = cc in z)
deed_modes plan (Arrive device info p) S h = arrives S device.0 info p
deed_modes plan (AskDeletion o) S h = equal_modes S.control _ (asks_all control_in (λ S T D W U. refl) (subtree S.tree o.0) S)
deed_modes plan (Requeue r q) S h = enters S.control (give_up S r.0).control q.0 _ (gives_up control_in (λ S Q R P. refl) S r.0)
deed_modes plan (Forward r q) S h = enters S.control (give_up S r.0).control q.0 _ (gives_up control_in (λ S Q R P. refl) S r.0)
deed_modes plan (GiveBack r q) S h = equal_modes S.control _ (gives_up control_in (λ S Q R P. refl) S r.0)
deed_modes plan (SendRequest r t forget) S h = equal_modes S.control _ (gives_up_if control_in (λ S Q R P. refl) S forget r.0)
deed_modes plan (CompleteRequest r) S h =
    equal_modes S.control _ (asks_all control_in (λ S T D W U. refl) (subtree (give_up S r.0).tree r.0) (record (give_up S r.0) { requests = requests.complete S.requests r.0 }) ∙ gives_up control_in (λ S Q R P. refl) S r.0)
deed_modes plan (CloseReturning d) S h = equal_modes S.control _ (returns_closed control_in (λ S Q R P. refl) (managed_queues plan d.0) S)
deed_modes plan (RegisterQueue q on) S h = flags_modes S.control q.0 (λ c. record c { registered = on }) (λ c. refl) (λ c. refl)
deed_modes plan (NotifyQueue q) S h = flags_modes S.control q.0 (λ c. record c { due = false }) (λ c. refl) (λ c. refl)
deed_modes plan _ S h = equal_modes S.control S.control refl

pub deeds_modes : {A : Type 0} (plan : Plan) (ds : List Deed) (S : State A) → list_all leaves_modes ds ≡ true → SameModes S.control (do_deeds plan ds S).control
deeds_modes plan [] S h = equal_modes S.control S.control refl
deeds_modes plan (d ∷ ds) S h =
    modes_then S.control (do_deed plan d S).control (do_deeds plan ds (do_deed plan d S)).control (deed_modes plan d S (both_left (leaves_modes d) (list_all leaves_modes ds) h))
    (deeds_modes plan ds (do_deed plan d S) (both_right (leaves_modes d) (list_all leaves_modes ds) h))

-- ---- the deeds that change modes with more

pub purged_control : {A : Type 0} (plan : Plan) (S : State A) (p : ℕ) → (do_deed plan (PurgeQueue (object_id p)) S).control ≡ set_mode S.control p Purged
purged_control plan S p = withdraws control_in (λ S Q R P. refl) plan p (waiting_in S.queues p) (record S { control = set_mode S.control p Purged })

pub closed_control : {A : Type 0} (plan : Plan) (S : State A) (d : ℕ) → (do_deed plan (CloseDevice (object_id d)) S).control ≡ shut S.control d
closed_control plan S d = queues_closed control_in (λ S Q R P. refl) (queues_of plan d) (record S { control = shut S.control d })
