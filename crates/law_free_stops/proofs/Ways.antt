-- How far each device is on its way down, at each place of a free run: `settled` comes next only right after `queues_down`, and
-- then no callback of a step runs.
use Rattle.std.proofs.Common.{if◌then◌else◌, ◌≡◌, ℕ, Bool, true, false, not, List, [], ◌∷◌, inl, inr, Option, None, Some, is_some, drop, refl, sym, ap, subst, ◌∙◌}
use Rattle.wdf_base.specs.declared.plan.Plan.{Plan}
use Rattle.wdf_base.specs.declared.call.Callback.{Callback}
use Rattle.wdf_base.specs.declared.declared.DeviceInfo.{DeviceInfo}
use Rattle.wdf_base.specs.declared.event.Ask.{Ask}
use Rattle.wdf_base.specs.declared.event.Stage.{Stage}
use Rattle.wdf_base.specs.declared.event.Stage.TheVariants as stage
use Rattle.wdf_base.specs.declared.event.Step.{Step}
use Rattle.wdf_base.specs.declared.event.Step.TheVariants as step
use Rattle.wdf_base.specs.declared.value.Value.{Value}
use Rattle.wdf_model.specs.declared.enums.Mode.TheVariants as mode
use Rattle.wdf_model.specs.Tables.{entry, first_of_list}
use Rattle.wdf_model.specs.Plans.{declared_ids, device_of, managed_queues, queues_of}
use Rattle.wdf_model.specs.parts.Control as control
use Rattle.wdf_model.specs.parts.Pnp.{Pnp, Sequence, is_running_step, left_after, left_after_failure, next_step, no_sequence, opening_pnp, opening_sequence, sequence_of, steps_for, taken_step, with_sequence, with_step}
use Rattle.wdf_model.specs.parts.Pnp as pnp
use Rattle.wdf_model.specs.parts.Queues.{waiting_in}
use Rattle.wdf_model.specs.parts.Requests as requests
use Rattle.wdf_model.specs.parts.Tree.{subtree}
use Rattle.wdf_model.specs.State.{State}
use Rattle.wdf_model.specs.declared.deed.Deed.{Deed}
use Rattle.wdf_model.specs.declared.deed.Deed.TheVariants.{Arrive, AskDeletion, AskDevice, CloseDevice, CloseReturning, CompleteRequest, EndStep, Forward, GiveBack, PurgeQueue, Requeue, SendRequest, TakeStep}
use Rattle.wdf_model.specs.rules.Deeds.{do_deed, give_up}
use Rattle.law_machine_base.specs.Fits.{fits}
use Rattle.wdf_model.proofs.Counts.{one_or_two}
use Rattle.wdf_model.proofs.Maps.{entry_put_other, entry_put_same}
use Rattle.wdf_model.proofs.Tests.{both_right, not_true}
use Rattle.law_machine_lives.proofs.Stays.{asks_all, gives_up, gives_up_if, queues_closed, returns_closed, withdraws}
use Rattle.law_trace_settled.proofs.Along.{Way, asked, failed, may_begin, may_pass, next, passes}
use Rattle.law_trace_settled.proofs.Along as along
use Rattle.law_trace_settled.proofs.Laws.{listed_by}
use Rattle.law_machine_counts.proofs.Arrived.{arrived_pnp}
use Rattle.wdf_base.specs.Values.{is_success}

-- of a device's steps left, and the one that runs
pub record OnWay (q : Sequence) : Type 0 where
  pub way : Way
  pub fits : along.fits q.left way ≡ true
  pub idle : is_some q.running ≡ true → way.down ≡ false

abbrev pub Ways : Pnp → Type 0
Ways Q = (d : ℕ) → OnWay (sequence_of Q d)

one_moves : (Q : Pnp) (n : ℕ) (f : Sequence → Sequence) → OnWay (f (sequence_of Q n)) → Ways Q → Ways (with_sequence Q n f)
one_moves Q n f new k d = elim (one_or_two d n) [
  | inl e ↦ subst OnWay (sym (ap (entry no_sequence (with_sequence Q n f).devices) e ∙ entry_put_same no_sequence Q.devices n (f (sequence_of Q n)))) new
  | inr x ↦ subst OnWay (sym (entry_put_other no_sequence Q.devices n d (f (sequence_of Q n)) x)) (k d)
]

-- ---- a step is taken

stage_passes : (q : Sequence) (ss : List Step) (w : Way) → is_some q.running ≡ false → (s : Stage) → along.fits ss (passes s w) ≡ true → OnWay (pnp.passed s (record q { left = ss }))
stage_passes q ss w off stage.Working h = record { way = passes stage.Working w; fits = h; idle = λ r. absurd (let z : ⊥ = cc in z) }
stage_passes q ss w off stage.Sleeping h = record { way = passes stage.Sleeping w; fits = h; idle = λ r. absurd (let z : ⊥ = cc in z) }
stage_passes q ss w off stage.Removed h = record { way = passes stage.Removed w; fits = h; idle = λ r. absurd (let z : ⊥ = cc in z) }
stage_passes q ss w off s h = record { way = passes s w; fits = h; idle = λ r. absurd (let z : ⊥ = cc in z) }

-- on its way with the first of these steps begun
abbrev Taken : Sequence → List Step → Type 0
Taken q ss = OnWay (with_step (first_of_list ss) (record q { left = drop 1 ss }))

takes : (q : Sequence) → is_some q.running ≡ false → OnWay q → OnWay (taken_step q)
takes q off k = by q.left refl
  where
    by : (ss : List Step) → q.left ≡ ss → OnWay (taken_step q)
    by [] e = subst (Taken q) (sym e) (record { way = k.way; fits = refl; idle = k.idle })
    by (step.Run c j ∷ ss) e = subst (Taken q) (sym e) (record {
      way = next (step.Run c j) k.way;
      fits = both_right (may_begin c k.way) (along.fits ss (next (step.Run c j) k.way)) (subst (λ ts. along.fits ts k.way ≡ true) e k.fits);
      idle = λ r. refl;
    })
    by (step.Pass s j ∷ ss) e = subst (Taken q) (sym e) (stage_passes q ss k.way off s (both_right (may_pass s k.way) (along.fits ss (passes s k.way)) (subst (λ ts. along.fits ts k.way ≡ true) e k.fits)))

-- ---- a callback ends

left_fits : (q : Sequence) (c : Callback) (w : Way) (b : Bool) → along.fits q.left w ≡ true → along.fits (if b then q.left else left_after_failure q c) w ≡ true
left_fits q c w true h = h
left_fits q c w false h = failed q c w h

ends : (q : Sequence) (s : Step) (v : Value) → OnWay q → OnWay (record q { left = left_after q s v; running = None })
ends q (step.Pass s j) v k = record { way = k.way; fits = k.fits; idle = λ r. absurd (let z : ⊥ = cc in z) }
ends q (step.Run c j) v k = record { way = k.way; fits = left_fits q c k.way (is_success v) k.fits; idle = λ r. absurd (let z : ⊥ = cc in z) }

asks : (q : Sequence) (a : Ask) → OnWay q → OnWay (record q { left = steps_for q.steps q.ever_working q.phase a })
asks q a k = record { way = k.way; fits = asked q.steps q.ever_working q.phase a k.way; idle = k.idle }

-- ---- each deed

abbrev pub is_step_deed : Deed → Bool
is_step_deed (AskDevice d a) = true
is_step_deed (TakeStep d) = true
is_step_deed (EndStep d s v) = true
is_step_deed _ = false

-- what devices have left is touched by these three alone
pub pnp_stays : {A : Type 0} (plan : Plan) (d : Deed) (S : State A) → is_step_deed d ≡ false → (do_deed plan d S).pnp ≡ S.pnp
pnp_stays plan (Arrive device info p) S h = arrived_pnp S device.0 info p
pnp_stays plan (AskDeletion o) S h = asks_all (λ (T : State _). T.pnp) (λ S T D W U. refl) (subtree S.tree o.0) S
pnp_stays plan (Requeue r q) S h = gives_up (λ (T : State _). T.pnp) (λ S Q R P. refl) S r.0
pnp_stays plan (Forward r q) S h = gives_up (λ (T : State _). T.pnp) (λ S Q R P. refl) S r.0
pnp_stays plan (GiveBack r q) S h = gives_up (λ (T : State _). T.pnp) (λ S Q R P. refl) S r.0
pnp_stays plan (SendRequest r t forget) S h = gives_up_if (λ (T : State _). T.pnp) (λ S Q R P. refl) S forget r.0
pnp_stays plan (CompleteRequest r) S h = asks_all (λ (T : State _). T.pnp) (λ S T D W U. refl) (subtree (give_up S r.0).tree r.0) (record (give_up S r.0) { requests = requests.complete S.requests r.0 }) ∙ gives_up (λ (T : State _). T.pnp) (λ S Q R P. refl) S r.0
pnp_stays plan (PurgeQueue q) S h = withdraws (λ (T : State _). T.pnp) (λ S Q R P. refl) plan q.0 (waiting_in S.queues q.0) (record S { control = control.set_mode S.control q.0 mode.Purged })
pnp_stays plan (CloseReturning d) S h = returns_closed (λ (T : State _). T.pnp) (λ S Q R P. refl) (managed_queues plan d.0) S
pnp_stays plan (CloseDevice d) S h = queues_closed (λ (T : State _). T.pnp) (λ S Q R P. refl) (queues_of plan d.0) (record S { control = control.shut S.control d.0 })
pnp_stays plan (AskDevice d a) S h = absurd (let z : ⊥ = cc in z)
pnp_stays plan (TakeStep d) S h = absurd (let z : ⊥ = cc in z)
pnp_stays plan (EndStep d s v) S h = absurd (let z : ⊥ = cc in z)
pnp_stays plan _ S h = refl

pub ways_by : {A : Type 0} (plan : Plan) (d : Deed) (S : State A) → fits plan d S ≡ true → Ways S.pnp → Ways (do_deed plan d S).pnp
ways_by plan (AskDevice d a) S f k = one_moves S.pnp d.0 (λ q. record q { left = steps_for q.steps q.ever_working q.phase a }) (asks (sequence_of S.pnp d.0) a (k d.0)) k
ways_by plan (TakeStep d) S f k = one_moves S.pnp d.0 taken_step (takes (sequence_of S.pnp d.0) (not_true (is_running_step S.pnp d.0) (both_right (is_some (next_step S.pnp d.0)) (not (is_running_step S.pnp d.0)) f)) (k d.0)) k
ways_by plan (EndStep d s v) S f k = one_moves S.pnp d.0 (λ q. record q { left = left_after q s v; running = None }) (ends (sequence_of S.pnp d.0) s v (k d.0)) k
ways_by plan d S f k = subst Ways (sym (pnp_stays plan d S refl)) k

-- ---- the opening

abbrev AtRest : Sequence → Type 0
AtRest q = (q.left ≡ []) × (q.running ≡ None)

opening_rest : (plan : Plan) (d : ℕ) (x : Option DeviceInfo) → AtRest (opening_sequence plan d x)
opening_rest plan d None = (refl, refl)
opening_rest plan d (Some i) = (refl, refl)

pub ways_open : (plan : Plan) → Ways (opening_pnp plan)
ways_open plan d =
    let t = listed_by AtRest no_sequence (λ x. opening_sequence plan x (device_of plan x)) (declared_ids plan) d (refl, refl) (λ x. opening_rest plan x (device_of plan x)) in
    record {
      way = record { down = false; settled = false };
      fits = subst (λ ss. along.fits ss (record { down = false; settled = false }) ≡ true) (sym t.0) refl;
      idle = λ r. refl;
    }
