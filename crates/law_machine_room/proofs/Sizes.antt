-- How long the tables are after each deed that can be done: as long as before.
use Rattle.std.proofs.Common.{if◌then◌else◌, ◌≡◌, ℕ, ◌+◌, ◌<◌, Bool, true, false, List, [], length, drop, Option, Some, None, unwrap_or, map, sym, ap, ◌∙◌, arith, ◌⊎◌, inl, inr, ◌-◌, ◌≤◌}
use Rattle.std.proofs.lemmas.List.{length-map}
use Rattle.std.proofs.lemmas.Bool.{cases_eq, cases_lt}
use Rattle.wdf_base.specs.declared.plan.Plan.{Plan}
use Rattle.wdf_base.specs.declared.event.Stage.{Stage}
use Rattle.wdf_base.specs.declared.event.Stage.TheVariants as stage
use Rattle.wdf_base.specs.declared.event.Step.{Step}
use Rattle.wdf_base.specs.declared.event.Step.TheVariants as step
use Rattle.wdf_model.specs.declared.enums.Mode.{Mode}
use Rattle.wdf_model.specs.Tables.{entry, put, without}
use Rattle.wdf_model.specs.parts.Queues.{Queues, waiting_in, held_count, with_held, with_waiting}
use Rattle.wdf_model.specs.parts.Queues as queues
use Rattle.wdf_model.specs.parts.Control.{Control, control_of, is_closed, no_control, shut_control, with_control}
use Rattle.wdf_model.specs.parts.Control as control
use Rattle.wdf_model.specs.declared.entries.QueueControl.{QueueControl}
use Rattle.wdf_model.specs.parts.Power.{Power, device_power, holding_of, is_held, no_device_power}
use Rattle.wdf_model.specs.parts.Power as power
use Rattle.wdf_model.specs.parts.Targets.{Target, Targets, no_target, opening_targets, takes_more, the_target}
use Rattle.wdf_model.specs.Plans.{is_managed}
use Rattle.wdf_model.specs.rules.Deeds.{hold_power, release_line, release_power}
use Rattle.wdf_model.proofs.Maps.{as_long, entry_map, entry_past, entry_put_other, entry_put_same, put_within}
use Rattle.law_machine_room.specs.Kept.{TargetsKept}
use Rattle.wdf_model.specs.rules.Groups.{declared_end}
use Rattle.law_machine_counts.proofs.PowerQueues.{held_devices, released_devices}

-- a write within a map keeps its length
pub as_many : {T : Type 0} (blank : T) (xs : List T) (id : ℕ) (new : T) (n : ℕ) → id < n → length xs ≡ n → length (put blank xs id new) ≡ n
as_many blank xs id new n h e = let within : id < length xs = omega arith in ap length (put_within blank xs id new within) ∙ as_long xs id new ∙ e

-- ---- queues

pub record QueuesSized (n : ℕ) (Q : Queues) : Type 0 where
  pub dispatch : length Q.dispatch ≡ n
  pub waiting : length Q.waiting ≡ n
  pub held : length Q.held ≡ n

pub waiting_sized : (n : ℕ) (Q : Queues) (q : ℕ) (f : List ℕ → List ℕ) → q < n → QueuesSized n Q → QueuesSized n (with_waiting Q q f)
waiting_sized n Q q f h k = record { dispatch = k.dispatch; waiting = as_many [] Q.waiting q (f (waiting_in Q q)) n h k.waiting; held = k.held }

pub held_sized : (n : ℕ) (Q : Queues) (q : ℕ) (f : ℕ → ℕ) → q < n → QueuesSized n Q → QueuesSized n (with_held Q q f)
held_sized n Q q f h k = record { dispatch = k.dispatch; waiting = k.waiting; held = as_many 0 Q.held q (f (held_count Q q)) n h k.held }

-- the front leaves, and counts as held
pub taken_sized : (n : ℕ) (Q : Queues) (q : ℕ) → q < n → QueuesSized n Q → QueuesSized n (queues.take Q q)
taken_sized n Q q h k = held_sized n (with_waiting Q q (drop 1)) q (λ x. x + 1) h (waiting_sized n Q q (drop 1) h k)

pub cancelled_sized : (n : ℕ) (Q : Queues) (r : ℕ) → QueuesSized n Q → QueuesSized n (queues.take_cancelled Q r)
cancelled_sized n Q r k = record { dispatch = k.dispatch; waiting = length-map Q.waiting (without r) ∙ k.waiting; held = k.held }

pub released_sized : (n : ℕ) (Q : Queues) (from : Option ℕ) → unwrap_or from 0 < n → QueuesSized n Q → QueuesSized n (release_line Q from)
released_sized n Q None h k = k
released_sized n Q (Some q) h k = held_sized n Q q (λ x. x - 1) h k

-- ---- control

pub control_sized : (n : ℕ) (M : Control) (q : ℕ) (f : QueueControl → QueueControl) → q < n → length M.controls ≡ n → length (with_control M q f).controls ≡ n
control_sized n M q f h k = as_many no_control M.controls q (f (control_of M q)) n h k

mode_sized_by : (n : ℕ) (M : Control) (q : ℕ) (mode : Mode) (b : Bool) → q < n → length M.controls ≡ n
    → length (if b then M else with_control M q (λ c. record c { mode = mode })).controls ≡ n
mode_sized_by n M q mode true h k = k
mode_sized_by n M q mode false h k = control_sized n M q (λ c. record c { mode = mode }) h k

pub mode_sized : (n : ℕ) (M : Control) (q : ℕ) (mode : Mode) → q < n → length M.controls ≡ n → length (control.set_mode M q mode).controls ≡ n
mode_sized n M q mode h k = mode_sized_by n M q mode (is_closed M (control_of M q).device.0) h k

pub shut_sized : (n : ℕ) (M : Control) (d : ℕ) → length M.controls ≡ n → length (control.shut M d).controls ≡ n
shut_sized n M d k = length-map M.controls (shut_control d) ∙ k

-- ---- power

pub hold_stays : (plan : Plan) (P : Power) (r q : ℕ) → (hold_power plan P r q).devices ≡ P.devices
hold_stays plan P r q = held_devices P r q (is_managed plan q)

pub release_stays : (P : Power) (r : ℕ) → (release_power P r).devices ≡ P.devices
release_stays P r = released_devices P r (is_held (holding_of P r))

stage_sized : (n : ℕ) (P : Power) (d : ℕ) (s : Stage) → d < n → length P.devices ≡ n → length (power.advance_stage P d s).devices ≡ n
stage_sized n P d stage.Hardware h k = as_many no_device_power P.devices d (record (device_power P d) { hardware = true }) n h k
stage_sized n P d stage.NoHardware h k = as_many no_device_power P.devices d (record (device_power P d) { hardware = false }) n h k
stage_sized n P d stage.QueuesUp h k = as_many no_device_power P.devices d (record (device_power P d) { up = true }) n h k
stage_sized n P d stage.QueuesDown h k = as_many no_device_power P.devices d (record (device_power P d) { up = false }) n h k
stage_sized n P d _ h k = k

pub advanced_sized : (n : ℕ) (P : Power) (d : ℕ) (s : Step) → d < n → length P.devices ≡ n → length (power.advance P d s).devices ≡ n
advanced_sized n P d (step.Run c i) h k = k
advanced_sized n P d (step.Pass s i) h k = stage_sized n P d s h k

-- ---- targets

-- a target is written, with its depth
pub target_kept : (plan : Plan) (T : Targets) (t : ℕ) (new : Target) → t < declared_end plan → new.depth ≡ (the_target T t).depth → TargetsKept plan T
    → TargetsKept plan (record { targets = put no_target T.targets t new })
target_kept plan T t new h same k = record {
  many = as_many no_target T.targets t new (declared_end plan) h k.many;
  depths = λ x. at x (cases_eq x t);
}
  where
    at : (x : ℕ) → (x ≡ t) ⊎ (x ≡ t → ⊥) → (entry no_target (put no_target T.targets t new) x).depth ≡ (the_target (opening_targets plan) x).depth
    at x (inl e) =
        ap (λ y. (entry no_target (put no_target T.targets t new) y).depth) e ∙ ap (λ (y : Target). y.depth) (entry_put_same no_target T.targets t new) ∙ same
        ∙ ap (λ y. (the_target T y).depth) (sym e) ∙ k.depths x
    at x (inr other) = ap (λ (y : Target). y.depth) (entry_put_other no_target T.targets t x new other) ∙ k.depths x

-- each target changes, but for its depth
pub targets_kept : (plan : Plan) (T : Targets) (f : Target → Target) → f no_target ≡ no_target → ((x : Target) → (f x).depth ≡ x.depth) → TargetsKept plan T
    → TargetsKept plan (record { targets = map f T.targets })
targets_kept plan T f none same k = record {
  many = length-map T.targets f ∙ k.many;
  depths = λ t. ap (λ (y : Target). y.depth) (entry_map no_target T.targets f t none) ∙ same (the_target T t) ∙ k.depths t;
}

-- a target that takes a request is there
within_by : (T : Targets) (t : ℕ) → takes_more T t ≡ true → length T.targets ≤ t → ⊥
within_by T t h past = let e : the_target T t ≡ no_target = entry_past no_target T.targets t past in let f = rw e at h in let z : ⊥ = cc in z

pub takes_within : (T : Targets) (t : ℕ) → takes_more T t ≡ true → t < length T.targets
takes_within T t h = elim (cases_lt t (length T.targets)) [
  | inl w ↦ w
  | inr past ↦ absurd (within_by T t h past)
]
