-- From which power-managed queue the driver holds a request, as power notes it: what leaves that as it is, and what the
-- deeds do that take a request from a queue or give it up.
use Rattle.std.proofs.Common.{◌≡◌, ◌≢◌, ℕ, Bool, true, false, not, List, [], ◌∷◌, refl, sym, ap, subst, ◌∙◌}
use Rattle.std.specs.List.{list_all}
use Rattle.wdf_base.specs.declared.plan.Plan.{Plan}
use Rattle.wdf_base.specs.declared.event.Stage.{Stage}
use Rattle.wdf_base.specs.declared.event.Stage.TheVariants as stage
use Rattle.wdf_base.specs.declared.event.Step.{Step}
use Rattle.wdf_base.specs.declared.event.Step.TheVariants as step
use Rattle.wdf_model.specs.declared.enums.Mode.TheVariants as mode
use Rattle.wdf_model.specs.declared.entries.Holding.{Holding}
use Rattle.wdf_model.specs.Plans.{managed_queues, queues_of}
use Rattle.wdf_model.specs.parts.Tree.{subtree}
use Rattle.wdf_model.specs.parts.Queues.{waiting_in}
use Rattle.wdf_model.specs.parts.Control as control
use Rattle.wdf_model.specs.parts.Requests as requests
use Rattle.wdf_model.specs.parts.Power.{Power, advance_stage, holding_of, is_held_at, wake_holdings, with_up, woken}
use Rattle.wdf_model.specs.parts.Power as power
use Rattle.wdf_model.specs.State.{State}
use Rattle.wdf_model.specs.Ids.{object_id}
use Rattle.wdf_model.specs.declared.deed.Deed.{Deed}
use Rattle.wdf_model.specs.declared.deed.Deed.TheVariants.{Arrive, AskDeletion, Acknowledge, AdvancePower, AskStop, CloseDevice, CloseReturning, CompleteRequest, Forward, GiveBack, Present, PurgeQueue, Receive, Requeue, Resume, SendRequest}
use Rattle.wdf_model.specs.rules.Deeds.{do_deed, do_deeds, give_up}
use Rattle.wdf_model.proofs.Tests.{both_left, both_right, not_true}
use Rattle.wdf_model.proofs.Maps.{entry_map}
use Rattle.law_machine_lives.proofs.Stays.{asks_all, closed_power, returning_power, withdrawn_power}
use Rattle.law_machine_counts.proofs.Holding.{HoldsIn}
use Rattle.law_machine_counts.proofs.Releases.{Notes, gives_up, holding_elsewhere, holding_here, same_holding}
use Rattle.law_machine_lives.proofs.Readers.{power_of}
use Rattle.law_machine_counts.proofs.HeldByDeeds.{woken_by}
use Rattle.law_machine_counts.proofs.Arrived.{arrived_power}

-- the queue that is noted for a request, 0 for none
abbrev pub noted : Power → ℕ → ℕ
noted P r = (holding_of P r).queue.0

-- the notes stay
abbrev pub NotesStay : Power → Power → Type 0
NotesStay P O = (x : ℕ) → noted O x ≡ noted P x

pub notes_same : (P O : Power) → O ≡ P → NotesStay P O
notes_same P O e x = ap (λ (Q : Power). noted Q x) e

-- ---- deeds that leave the notes

woken_notes : (P : Power) (d : ℕ) → NotesStay P (wake_holdings P d)
woken_notes P d x = ap (λ (h : Holding). h.queue.0) (entry_map power.no_holding P.holdings (woken P d) x refl) ∙ woken_by P d (holding_of P x) (is_held_at P d (holding_of P x)) refl

stage_notes : (P : Power) (d : ℕ) (s : Stage) → NotesStay P (advance_stage P d s)
stage_notes P d stage.QueuesUp x = woken_notes (with_up P d true) d x
stage_notes P d _ x = refl

step_notes : (P : Power) (d : ℕ) (s : Step) → NotesStay P (power.advance P d s)
step_notes P d (step.Run c i) x = refl
step_notes P d (step.Pass s i) x = stage_notes P d s x

-- a deed that takes a request from a queue, gives one up, or acknowledges one
abbrev pub is_holding : Deed → Bool
is_holding (Present q r) = true
is_holding (Receive q r) = true
is_holding (Requeue r q) = true
is_holding (Forward r q) = true
is_holding (GiveBack r q) = true
is_holding (SendRequest r t forget) = forget
is_holding (CompleteRequest r) = true
is_holding (Acknowledge r) = true
is_holding _ = false

pub deed_notes : {A : Type 0} (plan : Plan) (d : Deed) (S : State A) → is_holding d ≡ false → NotesStay S.power (do_deed plan d S).power
deed_notes plan (Present q r) S h = absurd (let z : ⊥ = cc in z)
deed_notes plan (Receive q r) S h = absurd (let z : ⊥ = cc in z)
deed_notes plan (Requeue r q) S h = absurd (let z : ⊥ = cc in z)
deed_notes plan (Forward r q) S h = absurd (let z : ⊥ = cc in z)
deed_notes plan (GiveBack r q) S h = absurd (let z : ⊥ = cc in z)
deed_notes plan (CompleteRequest r) S h = absurd (let z : ⊥ = cc in z)
deed_notes plan (SendRequest r t true) S h = absurd (let z : ⊥ = cc in z)
deed_notes plan (Arrive device info p) S h = notes_same _ _ (arrived_power S device.0 info p)
deed_notes plan (AskDeletion o) S h = notes_same _ _ (asks_all power_of (λ S T D W U. refl) (subtree S.tree o.0) S)
deed_notes plan (PurgeQueue q) S h = notes_same _ _ (withdrawn_power plan q.0 (waiting_in S.queues q.0) (record S { control = control.set_mode S.control q.0 mode.Purged }))
deed_notes plan (CloseReturning d) S h = notes_same _ _ (returning_power (managed_queues plan d.0) S)
deed_notes plan (CloseDevice d) S h = notes_same _ _ (closed_power (queues_of plan d.0) (record S { control = control.shut S.control d.0 }))
deed_notes plan (AdvancePower d s) S h = step_notes S.power d.0 s
deed_notes plan (Acknowledge r) S h = absurd (let z : ⊥ = cc in z)
deed_notes plan (AskStop r) S h = λ x. same_holding S.power r.0 x (λ y. record y { stop_asked = true }) (λ y. refl)
deed_notes plan (Resume r) S h = λ x. same_holding S.power r.0 x (λ y. record y { resume_due = false }) (λ y. refl)
deed_notes plan _ S h = λ x. refl

abbrev pub none_holds : List Deed → Bool
none_holds ds = list_all (λ d. not (is_holding d)) ds

pub deeds_note : {A : Type 0} (plan : Plan) (ds : List Deed) (S : State A) → none_holds ds ≡ true → NotesStay S.power (do_deeds plan ds S).power
deeds_note plan [] S h x = refl
deeds_note plan (d ∷ ds) S h x =
    deeds_note plan ds (do_deed plan d S) (both_right (not (is_holding d)) (none_holds ds) h) x
    ∙ deed_notes plan d S (not_true (is_holding d) (both_left (not (is_holding d)) (none_holds ds) h)) x

pub acknowledged_notes : (P : Power) (r : ℕ) → NotesStay P (power.acknowledge P r)
acknowledged_notes P r x = same_holding P r x (λ y. record y { acknowledged = true }) (λ y. refl)

-- ---- deeds that change them

-- the note of one request changes
pub record NotesChange (P O : Power) (r n : ℕ) : Type 0 where
  pub here : noted O r ≡ n
  pub others : (x : ℕ) → x ≢ r → noted O x ≡ noted P x

pub taken_notes : (P : Power) (q r : ℕ) → NotesChange P (power.held_more P r q) r q
taken_notes P q r = record {
  here = ap (λ (h : Holding). h.queue.0) (holding_here P r (λ _. record { queue = record { 0 = q }; acknowledged = false; stop_asked = false; resume_due = false }));
  others = λ x n. ap (λ (h : Holding). h.queue.0) (holding_elsewhere P r x (λ _. record { queue = record { 0 = q }; acknowledged = false; stop_asked = false; resume_due = false }) n);
}

pub given_notes : {A : Type 0} (plan : Plan) (S : State A) (r : ℕ) → HoldsIn plan S → NotesChange S.power (give_up S r).power r 0
given_notes plan S r h = let notes : Notes S.power (give_up S r).power r 0 = (gives_up plan S r h).notes in record { here = notes.here; others = notes.others }

pub completed_power : {A : Type 0} (plan : Plan) (S : State A) (r : ℕ) → (do_deed plan (CompleteRequest (object_id r)) S).power ≡ (give_up S r).power
completed_power plan S r = asks_all power_of (λ S T D W U. refl) (subtree (give_up S r).tree r) (record (give_up S r) { requests = requests.complete S.requests r })

pub completed_notes : {A : Type 0} (plan : Plan) (S : State A) (r : ℕ) → HoldsIn plan S → NotesChange S.power (do_deed plan (CompleteRequest (object_id r)) S).power r 0
completed_notes plan S r h = subst (λ (O : Power). NotesChange S.power O r 0) (sym (completed_power plan S r)) (given_notes plan S r h)
