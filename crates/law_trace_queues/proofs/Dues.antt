-- While a resume is due for what is held from a queue, the queues of its device are up, and the device waits right after
-- `queues_up`. What each change of a device's steps and power makes of this.
use Rattle.std.proofs.Common.{◌≡◌, ◌≢◌, ℕ, Bool, true, false, not, ◌&&◌, ◌||◌, List, [], ◌∷◌, inl, inr, Option, Some, None, drop, refl, sym, ap, subst, ◌∙◌}
use Rattle.wdf_base.specs.declared.ids.Handle.{Handle}
use Rattle.wdf_base.specs.declared.plan.Plan.{Plan}
use Rattle.wdf_base.specs.declared.value.Value.{Value}
use Rattle.wdf_base.specs.declared.event.Ask.{Ask}
use Rattle.wdf_base.specs.declared.event.Stage.{Stage}
use Rattle.wdf_base.specs.declared.event.Stage.TheVariants as stage
use Rattle.wdf_base.specs.declared.event.Step.{Step}
use Rattle.wdf_base.specs.declared.event.Step.TheVariants as step
use Rattle.wdf_model.specs.declared.entries.DevicePower.{DevicePower}
use Rattle.wdf_model.specs.declared.entries.Holding.{Holding}
use Rattle.wdf_model.specs.Tables.{entry, first_of_list, put}
use Rattle.wdf_model.specs.Plans.{device_of_queue}
use Rattle.wdf_model.specs.parts.Power.{Power, advance_stage, any_resume_due, holding_of, no_device_power, no_holding, opening_power, with_up, woken}
use Rattle.wdf_model.specs.parts.Pnp.{Pnp, Sequence, ended, follows_queues_up, follows_up, left_after, no_sequence, running_step, sequence_of, steps_for, steps_left, taken, taken_step, with_sequence}
use Rattle.wdf_model.specs.parts.Pnp as pnp
use Rattle.wdf_model.proofs.Maps.{entry_map, entry_put_other, entry_put_same}
use Rattle.wdf_model.proofs.Counts.{one_or_two}
use Rattle.wdf_model.proofs.Tests.{both_left, not_true}
use Rattle.law_trace_queues.proofs.Ups.{Fits, Ups, asked, after_up, fits_ended, fits_taken, waits_after_up}
use Rattle.law_trace_queues.proofs.Resuming.{NoneMore, due_after_up, is_resuming, none_due, noted}

-- ---- the property

-- the queues of a device are up, and it waits right after `queues_up`
pub record Waits (Q : Pnp) (D : List DevicePower) (d : ℕ) : Type 0 where
  pub up : (entry no_device_power D d).up ≡ true
  pub after : follows_queues_up Q d ≡ true
  pub idle : running_step Q d ≡ None

-- a resume is due for what is held from a queue
abbrev pub IsDue : Plan → Power → ℕ → Type 0
IsDue plan P d = (x : ℕ) × (is_resuming (holding_of P x) ≡ true) × (device_of_queue plan (noted P x) ≡ d)

-- each device for which a resume is due waits
abbrev pub Dues : Plan → Pnp → Power → Type 0
Dues plan Q P = (d : ℕ) → IsDue plan P d → Waits Q P.devices d

-- the steps of each device fit
abbrev pub AllFit : Pnp → Type 0
AllFit Q = (d : ℕ) → Fits (sequence_of Q d)

-- ---- nothing changes of devices

pub dues_kept : (plan : Plan) (Q R : Pnp) (P O : Power) → R ≡ Q → O.devices ≡ P.devices → NoneMore P O → Dues plan Q P → Dues plan R O
dues_kept plan Q R P O steps devices less k d due =
    let old = less due.0 due.1 in
    subst (λ (E : List DevicePower). Waits R E d) (sym devices) (subst (λ (X : Pnp). Waits X P.devices d) (sym steps) (k d (due.0, old.0, sym (ap (device_of_queue plan) old.1) ∙ due.2)))

pub all_fit_kept : (Q R : Pnp) → R ≡ Q → AllFit Q → AllFit R
all_fit_kept Q R e k = subst AllFit (sym e) k

-- ---- one device changes

module _ (Q : Pnp) (n : ℕ) (f : Sequence → Sequence) where
  abbrev R : Pnp
  R = with_sequence Q n f

  sequence_here : sequence_of R n ≡ f (sequence_of Q n)
  sequence_here = entry_put_same no_sequence Q.devices n (f (sequence_of Q n))

  sequence_there : (d : ℕ) → d ≢ n → sequence_of R d ≡ sequence_of Q d
  sequence_there d m = entry_put_other no_sequence Q.devices n d (f (sequence_of Q n)) m

  all_fit_with : ((q : Sequence) → Fits q → Fits (f q)) → AllFit Q → AllFit R
  all_fit_with h k d = elim (one_or_two d n) [
    | inl e ↦ rw e (subst Fits (sym sequence_here) (h (sequence_of Q n) (k n)))
    | inr m ↦ subst Fits (sym (sequence_there d m)) (k d)
  ]

  -- a device that isn't the one that changes waits as before
  waits_there : (D E : List DevicePower) (d : ℕ) → d ≢ n → entry no_device_power E d ≡ entry no_device_power D d → Waits Q D d → Waits R E d
  waits_there D E d m same w = record {
    up = ap (λ (p : DevicePower). p.up) same ∙ w.up;
    after = ap (λ q. follows_up q (first_of_list q.left)) (sequence_there d m) ∙ w.after;
    idle = ap (λ q. q.running) (sequence_there d m) ∙ w.idle;
  }

  -- where no resume is due for the device that changes
  pub dues_with : (plan : Plan) (P : Power) → (IsDue plan P n → ⊥) → Dues plan Q P → Dues plan R P
  dues_with plan P none k d due = elim (one_or_two d n) [
    | inl e ↦ absurd (none (subst (IsDue plan P) e due))
    | inr m ↦ waits_there P.devices P.devices d m refl (k d due)
  ]

-- ---- for which devices no resume is due

-- one that runs a step
pub none_running : (plan : Plan) (Q : Pnp) (P : Power) (n : ℕ) (s : Step) → running_step Q n ≡ Some s → Dues plan Q P → IsDue plan P n → ⊥
none_running plan Q P n s on k due = let w = k n due in let i = w.idle in let z : ⊥ = cc in z

-- one that has no step left
pub none_left : (plan : Plan) (Q : Pnp) (P : Power) (n : ℕ) → steps_left Q n ≡ [] → Dues plan Q P → IsDue plan P n → ⊥
none_left plan Q P n e k due =
    let w = k n due in
    let t : follows_up (sequence_of Q n) (first_of_list (steps_left Q n)) ≡ true = w.after in
    let z : false ≡ true = rw e at t in
    let y : ⊥ = cc in y

-- one whose next step may come: what is due for it would have to be over
pub none_ready : (plan : Plan) (Q : Pnp) (P : Power) (n : ℕ) (free : Bool) → P.queues ≡ (opening_power plan).queues → (not (follows_queues_up Q n) || (not (any_resume_due P n) && free)) ≡ true → Dues plan Q P → IsDue plan P n → ⊥
none_ready plan Q P n free same ready k due =
    let w = k n due in
    let t : (not (any_resume_due P n) && free) ≡ true = rw w.after at ready in
    none_due plan P same n due.0 (not_true (any_resume_due P n) (both_left (not (any_resume_due P n)) free t)) due.1 due.2

-- ---- the power of devices after a stage

pub others_stay : (P : Power) (n : ℕ) (s : Stage) (d : ℕ) → d ≢ n → entry no_device_power (advance_stage P n s).devices d ≡ entry no_device_power P.devices d
others_stay P n stage.Hardware d m = entry_put_other no_device_power P.devices n d (record (entry no_device_power P.devices n) { hardware = true }) m
others_stay P n stage.NoHardware d m = entry_put_other no_device_power P.devices n d (record (entry no_device_power P.devices n) { hardware = false }) m
others_stay P n stage.QueuesUp d m = entry_put_other no_device_power P.devices n d (record (entry no_device_power P.devices n) { up = true }) m
others_stay P n stage.QueuesDown d m = entry_put_other no_device_power P.devices n d (record (entry no_device_power P.devices n) { up = false }) m
others_stay P n _ d m = refl

abbrev pub goes_down : Stage → Bool
goes_down stage.QueuesDown = true
goes_down _ = false

up_with : (P : Power) (n d : ℕ) (new : DevicePower) → ((entry no_device_power P.devices n).up ≡ true → new.up ≡ true) → (entry no_device_power P.devices d).up ≡ true → (entry no_device_power (put no_device_power P.devices n new) d).up ≡ true
up_with P n d new more h = elim (one_or_two d n) [
  | inl e ↦ rw e (ap (λ (p : DevicePower). p.up) (entry_put_same no_device_power P.devices n new) ∙ more (sym (ap (λ i. (entry no_device_power P.devices i).up) e) ∙ h))
  | inr m ↦ ap (λ (p : DevicePower). p.up) (entry_put_other no_device_power P.devices n d new m) ∙ h
]

-- but for `queues_down`, queues that are up stay up
pub up_stays : (P : Power) (n : ℕ) (s : Stage) → goes_down s ≡ false → (d : ℕ) → (entry no_device_power P.devices d).up ≡ true → (entry no_device_power (advance_stage P n s).devices d).up ≡ true
up_stays P n stage.QueuesDown h d up = absurd (let z : ⊥ = cc in z)
up_stays P n stage.Hardware h d up = up_with P n d (record (entry no_device_power P.devices n) { hardware = true }) (λ x. x) up
up_stays P n stage.NoHardware h d up = up_with P n d (record (entry no_device_power P.devices n) { hardware = false }) (λ x. x) up
up_stays P n stage.QueuesUp h d up = up_with P n d (record (entry no_device_power P.devices n) { up = true }) (λ x. refl) up
up_stays P n _ h d up = up

-- ---- a stage is passed

module _ (plan : Plan) (Q : Pnp) (P : Power) (n : ℕ) (none : IsDue plan P n → ⊥) (k : Dues plan Q P) where
  -- the holdings stay, and the power of the other devices
  stage_kept : (E : List DevicePower) → ((d : ℕ) → d ≢ n → entry no_device_power E d ≡ entry no_device_power P.devices d) → Dues plan (taken Q n) (record P { devices = E })
  stage_kept E others d due = elim (one_or_two d n) [
    | inl e ↦ absurd (none (subst (IsDue plan P) e due))
    | inr m ↦ waits_there Q n taken_step P.devices E d m (others d m) (k d due)
  ]

  here_waits : (D : List DevicePower) (j : Option Handle) → (entry no_device_power D n).up ≡ true → running_step Q n ≡ None → steps_left Q n ≡ step.Pass stage.QueuesUp j ∷ drop 1 (steps_left Q n) → Fits (sequence_of Q n) → Waits (taken Q n) D n
  here_waits D j up idle next fit =
      let q : Sequence = sequence_of Q n in
      let now_ : taken_step q ≡ record q { left = drop 1 q.left } = rw next refl in
      let rest : drop 1 q.left ≡ after_up q.steps q.ever_working = subst (Ups q.steps q.ever_working) next fit in
      let at : sequence_of (taken Q n) n ≡ record q { left = drop 1 q.left } = sequence_here Q n taken_step ∙ now_ in
      record {
        up = up;
        after = ap (λ y. follows_up y (first_of_list y.left)) at ∙ waits_after_up (record q { left = drop 1 q.left }) rest;
        idle = ap (λ y. y.running) at ∙ idle;
      }

  dues_up : (j : Option Handle) → P.queues ≡ (opening_power plan).queues → running_step Q n ≡ None → steps_left Q n ≡ step.Pass stage.QueuesUp j ∷ drop 1 (steps_left Q n) → Fits (sequence_of Q n) → Dues plan (taken Q n) (advance_stage P n stage.QueuesUp)
  dues_up j same idle next fit d due =
      let x : ℕ = due.0 in
      let O : Power = advance_stage P n stage.QueuesUp in
      let at : holding_of O x ≡ woken (with_up P n true) n (holding_of P x) = entry_map no_holding P.holdings (woken (with_up P n true) n) x refl in
      let is : is_resuming (woken (with_up P n true) n (holding_of P x)) ≡ true = subst (λ (h : Holding). is_resuming h ≡ true) at due.1 in
      let t = due_after_up plan P same n x is in
      let of : device_of_queue plan (noted P x) ≡ d = sym (ap (device_of_queue plan) (ap (λ (h : Holding). h.queue.0) at ∙ t.0)) ∙ due.2 in
      elim (one_or_two d n) [
        | inl e ↦ rw e (here_waits O.devices j (ap (λ (p : DevicePower). p.up) (entry_put_same no_device_power P.devices n (record (entry no_device_power P.devices n) { up = true }))) idle next fit)
        | inr m ↦ waits_there Q n taken_step P.devices O.devices d m (entry_put_other no_device_power P.devices n d (record (entry no_device_power P.devices n) { up = true }) m)
            (elim t.1 [
              | inl e ↦ absurd (m (sym of ∙ e))
              | inr old ↦ k d (x, old, of)
            ])
      ]

  -- each stage
  pub dues_passed : (s : Stage) (j : Option Handle) → P.queues ≡ (opening_power plan).queues → running_step Q n ≡ None → steps_left Q n ≡ step.Pass s j ∷ drop 1 (steps_left Q n) → Fits (sequence_of Q n) → Dues plan (taken Q n) (advance_stage P n s)
  dues_passed stage.QueuesUp j same idle next fit = dues_up j same idle next fit
  dues_passed stage.Hardware j same idle next fit = stage_kept (advance_stage P n stage.Hardware).devices (others_stay P n stage.Hardware)
  dues_passed stage.NoHardware j same idle next fit = stage_kept (advance_stage P n stage.NoHardware).devices (others_stay P n stage.NoHardware)
  dues_passed stage.QueuesDown j same idle next fit = stage_kept (advance_stage P n stage.QueuesDown).devices (others_stay P n stage.QueuesDown)
  dues_passed _ j same idle next fit = stage_kept P.devices (λ d m. refl)

-- ---- the steps of a device that changes fit

pub all_fit_taken : (Q : Pnp) (n : ℕ) → AllFit Q → AllFit (taken Q n)
all_fit_taken Q n k = all_fit_with Q n taken_step (λ q h. fits_taken q h) k

pub all_fit_asked : (Q : Pnp) (n : ℕ) (a : Ask) → AllFit Q → AllFit (pnp.ask Q n a)
all_fit_asked Q n a k = all_fit_with Q n (λ q. record q { left = steps_for q.steps q.ever_working q.phase a }) (λ q h. asked q.steps q.ever_working q.phase a) k

pub all_fit_ended : (Q : Pnp) (n : ℕ) (s : Step) (v : Value) → AllFit Q → AllFit (ended Q n s v)
all_fit_ended Q n s v k = all_fit_with Q n (λ q. record q { left = left_after q s v; running = None }) (λ q h. fits_ended q s v h) k
