-- For which held requests a resume is due: no deed makes one due but `queues_up`, by which power goes on.
use Rattle.std.proofs.Common.{if◌then◌else◌, ◌≡◌, ℕ, zero, suc, ◌+◌, ◌==◌, ◌≤◌, Bool, true, false, ◌&&◌, ◌⊎◌, inl, inr, None, length, refl, sym, ap, subst, ◌∙◌, arith}
use Rattle.std.proofs.lemmas.Bool.{eqb-true}
use Rattle.std.proofs.lemmas.Option.{slice_get_past}
use Rattle.wdf_base.specs.Plan.{declared_of}
use Rattle.wdf_base.specs.declared.plan.Plan.{Plan}
use Rattle.wdf_model.specs.declared.enums.Mode.TheVariants as mode
use Rattle.wdf_model.specs.declared.entries.Holding.{Holding}
use Rattle.wdf_model.specs.Tables.{entry}
use Rattle.wdf_model.specs.Plans.{device_of_queue, is_managed, managed_queues, queues_of}
use Rattle.wdf_model.specs.parts.Tree.{subtree}
use Rattle.wdf_model.specs.parts.Queues.{waiting_in}
use Rattle.wdf_model.specs.parts.Control as control
use Rattle.wdf_model.specs.parts.Requests as requests
use Rattle.wdf_model.specs.parts.Power.{Power, any_resume_due, holding_of, is_held, is_held_at, no_holding, no_queue_power, opening_power, opening_queue_power, queue_power, with_holding, with_up, woken}
use Rattle.wdf_model.specs.parts.Power as power
use Rattle.wdf_model.specs.State.{State, is_with_driver}
use Rattle.wdf_model.specs.Ids.{object_id}
use Rattle.wdf_model.specs.declared.deed.Deed.{Deed}
use Rattle.wdf_model.specs.declared.deed.Deed.TheVariants.{Acknowledge, AdvancePower, Arrive, AskDeletion, AskStop, CloseDevice, CloseReturning, CompleteRequest, Forward, GiveBack, Present, PurgeQueue, Receive, Requeue, Resume, SendRequest}
use Rattle.wdf_model.specs.rules.Deeds.{do_deed, give_up, give_up_if}
use Rattle.wdf_model.proofs.Tests.{both, both_left, both_right}
use Rattle.wdf_model.proofs.Maps.{entry_put_other, entry_put_same}
use Rattle.wdf_model.proofs.Counts.{equal, one_or_two}
use Rattle.law_machine_lives.proofs.Queued.{any_entry}
use Rattle.law_machine_lives.proofs.Stays.{asks_all, closed_power, returning_power, withdrawn_power}
use Rattle.law_trace_power.proofs.Runs.{mapped}
use Rattle.law_machine_lives.proofs.Readers.{power_of}
use Rattle.law_machine_counts.proofs.Arrived.{arrived_power}

-- ---- one request

-- it is held from a power-managed queue, and a resume is due for it
abbrev pub is_resuming : Holding → Bool
is_resuming h = is_held h && h.resume_due

-- the queue that is noted for a request, 0 for none
abbrev pub noted : Power → ℕ → ℕ
noted P r = (holding_of P r).queue.0

-- a resume is due after a change only where one was before, held from the same queue
abbrev Still : Holding → Holding → Type 0
Still h k = is_resuming k ≡ true → (is_resuming h ≡ true) × (k.queue.0 ≡ h.queue.0)

still_same : (h k : Holding) → k ≡ h → Still h k
still_same h k e t = (subst (λ (y : Holding). is_resuming y ≡ true) e t, ap (λ (y : Holding). y.queue.0) e)

not_due : (h k : Holding) → k.resume_due ≡ false → Still h k
not_due h k off t = absurd (let u : k.resume_due ≡ true = both_right (is_held k) k.resume_due t in let z : ⊥ = cc in z)

-- ---- all requests

abbrev pub NoneMore : Power → Power → Type 0
NoneMore P O = (x : ℕ) → Still (holding_of P x) (holding_of O x)

same_power : (P O : Power) → O ≡ P → NoneMore P O
same_power P O e x = still_same (holding_of P x) (holding_of O x) (ap (λ (Q : Power). holding_of Q x) e)

one_changes : (P : Power) (r : ℕ) (f : Holding → Holding) → ((h : Holding) → Still h (f h)) → NoneMore P (with_holding P r f)
one_changes P r f g x = elim (one_or_two x r) [
  | inl e ↦ subst (λ y. Still (holding_of P y) (holding_of (with_holding P r f) y)) (sym e) (subst (λ (k : Holding). Still (holding_of P r) k) (sym (entry_put_same no_holding P.holdings r (f (holding_of P r)))) (g (holding_of P r)))
  | inr n ↦ still_same (holding_of P x) (holding_of (with_holding P r f) x) (entry_put_other no_holding P.holdings r x (f (holding_of P r)) n)
]

abbrev fresh : ℕ → Holding
fresh q = record { queue = record { 0 = q }; acknowledged = false; stop_asked = false; resume_due = false }

held_more : (P : Power) (r q : ℕ) (b : Bool) → NoneMore P (if b then power.held_more P r q else P)
held_more P r q true = one_changes P r (λ _. fresh q) (λ h. not_due h (fresh q) refl)
held_more P r q false = same_power P P refl

held_less : (P : Power) (r : ℕ) (b : Bool) → NoneMore P (if b then power.held_less P r else P)
held_less P r true = one_changes P r (λ _. no_holding) (λ h. not_due h no_holding refl)
held_less P r false = same_power P P refl

given_by : {A : Type 0} (S U : State A) (b : Bool) → NoneMore S.power U.power → NoneMore S.power (if b then U else S).power
given_by S U true h = h
given_by S U false h = same_power S.power S.power refl

given : {A : Type 0} (S : State A) (r : ℕ) → NoneMore S.power (give_up S r).power
given S r = given_by S _ (is_with_driver S r) (held_less S.power r (is_held (holding_of S.power r)))

given_if : {A : Type 0} (S : State A) (forget : Bool) (r : ℕ) → NoneMore S.power (give_up_if forget S r).power
given_if S true r = given S r
given_if S false r = same_power S.power S.power refl

completed : {A : Type 0} (plan : Plan) (S : State A) (r : ℕ) → NoneMore S.power (do_deed plan (CompleteRequest (object_id r)) S).power
completed plan S r =
    subst (NoneMore S.power) (sym (asks_all power_of (λ S T D W U. refl) (subtree (give_up S r).tree r) (record (give_up S r) { requests = requests.complete S.requests r }))) (given S r)

-- ---- deeds

abbrev pub is_advance : Deed → Bool
is_advance (AdvancePower d s) = true
is_advance _ = false

pub none_more_by : {A : Type 0} (plan : Plan) (d : Deed) (S : State A) → is_advance d ≡ false → NoneMore S.power (do_deed plan d S).power
none_more_by plan (AdvancePower d s) S h = absurd (let z : ⊥ = cc in z)
none_more_by plan (Present q r) S h = held_more S.power r.0 q.0 (is_managed plan q.0)
none_more_by plan (Receive q r) S h = held_more S.power r.0 q.0 (is_managed plan q.0)
none_more_by plan (Requeue r q) S h = given S r.0
none_more_by plan (Forward r q) S h = given S r.0
none_more_by plan (GiveBack r q) S h = given S r.0
none_more_by plan (SendRequest r t forget) S h = given_if S forget r.0
none_more_by plan (CompleteRequest r) S h = completed plan S r.0
none_more_by plan (Arrive device info p) S h = same_power S.power _ (arrived_power S device.0 info p)
none_more_by plan (AskDeletion o) S h = same_power S.power _ (asks_all power_of (λ S T D W U. refl) (subtree S.tree o.0) S)
none_more_by plan (PurgeQueue q) S h = same_power S.power _ (withdrawn_power plan q.0 (waiting_in S.queues q.0) (record S { control = control.set_mode S.control q.0 mode.Purged }))
none_more_by plan (CloseReturning d) S h = same_power S.power _ (returning_power (managed_queues plan d.0) S)
none_more_by plan (CloseDevice d) S h = same_power S.power _ (closed_power (queues_of plan d.0) (record S { control = control.shut S.control d.0 }))
none_more_by plan (Acknowledge r) S h = one_changes S.power r.0 (λ y. record y { acknowledged = true }) (λ y t. (t, refl))
none_more_by plan (AskStop r) S h = one_changes S.power r.0 (λ y. record y { stop_asked = true }) (λ y t. (t, refl))
none_more_by plan (Resume r) S h = one_changes S.power r.0 (λ y. record y { resume_due = false }) (λ y. not_due y (record y { resume_due = false }) refl)
none_more_by plan _ S h = same_power S.power S.power refl

-- ---- the queues as power knows them

pub undeclared : (plan : Plan) (q : ℕ) → suc (length plan.declared) ≤ q → declared_of plan q ≡ None
undeclared plan zero h = absurd (omega arith)
undeclared plan (suc k) h = slice_get_past plan.declared k (omega arith)

pub blank_queue : (plan : Plan) (q : ℕ) → declared_of plan q ≡ None → opening_queue_power plan q ≡ no_queue_power
blank_queue plan q e = rw e refl

-- power notes the device of each queue
pub device_noted : (plan : Plan) (P : Power) (q : ℕ) → P.queues ≡ (opening_power plan).queues → (queue_power P q).device.0 ≡ device_of_queue plan q
device_noted plan P q same =
    let e : 0 + q ≡ q = omega arith in
    ap (λ qs. (entry no_queue_power qs q).device.0) same
    ∙ ap (λ y. y.device.0) (mapped no_queue_power (opening_queue_power plan) 0 (suc (length plan.declared)) q (λ x h. blank_queue plan x (undeclared plan x (omega arith))))
    ∙ ap (device_of_queue plan) e

module _ (plan : Plan) (P : Power) (same : P.queues ≡ (opening_power plan).queues) where
  -- what is held of a queue is held at its device
  held_at : (h : Holding) → is_held h ≡ true → is_held_at P (device_of_queue plan h.queue.0) h ≡ true
  held_at h is = both (is_held h) _ is (equal (queue_power P h.queue.0).device.0 (device_of_queue plan h.queue.0) (device_noted plan P h.queue.0 same))

  -- where no resume is due for a device, none is for what is held from a queue of it
  pub none_due : (d x : ℕ) → any_resume_due P d ≡ false → is_resuming (holding_of P x) ≡ true → device_of_queue plan (noted P x) ≡ d → ⊥
  none_due d x none is at =
      let h : Holding = holding_of P x in
      let there : is_held_at P d h ≡ true = subst (λ i. is_held_at P i h ≡ true) at (held_at h (both_left (is_held h) h.resume_due is)) in
      let any : any_resume_due P d ≡ true = any_entry no_holding (λ y. is_held_at P d y && y.resume_due) P.holdings x refl (both (is_held_at P d h) h.resume_due there (both_right (is_held h) h.resume_due is)) in
      let z : ⊥ = cc in z

  -- after `queues_up` a resume is due only for what is held at the device, or where one was due
  pub due_after_up : (d x : ℕ) → is_resuming (woken (with_up P d true) d (holding_of P x)) ≡ true
      → ((woken (with_up P d true) d (holding_of P x)).queue.0 ≡ noted P x) × ((device_of_queue plan (noted P x) ≡ d) ⊎ (is_resuming (holding_of P x) ≡ true))
  due_after_up d x is = by_place (is_held_at P d (holding_of P x)) refl
    where
      by_place : (b : Bool) → is_held_at P d (holding_of P x) ≡ b → ((woken (with_up P d true) d (holding_of P x)).queue.0 ≡ noted P x) × ((device_of_queue plan (noted P x) ≡ d) ⊎ (is_resuming (holding_of P x) ≡ true))
      by_place true e =
          let h : Holding = holding_of P x in
          let at : (queue_power P h.queue.0).device.0 ≡ d = eqb-true (queue_power P h.queue.0).device.0 d (both_right (is_held h) ((queue_power P h.queue.0).device.0 == d) e) in
          (rw e refl, inl (sym (device_noted plan P h.queue.0 same) ∙ at))
      by_place false e = let t : is_resuming (woken (with_up P d true) d (holding_of P x)) ≡ true = is in (rw e refl, inr (rw e at t))
