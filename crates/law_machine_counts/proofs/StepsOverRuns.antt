-- The law on steps and their frames, at each place of every run.
use Rattle.std.proofs.Common.{if◌then◌else◌, ◌≡◌, ℕ, zero, suc, ◌+◌, ◌==◌, Bool, true, false, List, [], ◌∷◌, ◌⊎◌, inl, inr, Option, Some, None, is_some, map, take, replicate, count_by, length, refl, ap, sym, subst, ◌∙◌, ◌≤◌, arith}
use Rattle.std.specs.List.{flat_map}
use Rattle.wdf_base.specs.Meaning.{Meaning}
use Rattle.wdf_base.specs.declared.plan.Plan.{Plan}
use Rattle.wdf_base.specs.declared.declared.Declared.{Declared}
use Rattle.wdf_base.specs.declared.declared.DeviceInfo.{DeviceInfo}
use Rattle.wdf_base.specs.declared.event.Event.{Event}
use Rattle.wdf_base.specs.declared.event.Event.TheVariants as event
use Rattle.wdf_base.specs.Lives.{is_gone}
use Rattle.law_machine_base.specs.OverRuns.{FramesAgree}
use Rattle.wdf_model.specs.Tables.{entry, flag}
use Rattle.wdf_model.specs.Plans.{as_device, declared_ids, device_of, devices_of}
use Rattle.wdf_model.specs.parts.Tree.{declared_node, gone, life_of, opening_tree, parent_of}
use Rattle.wdf_model.specs.parts.Cpus.{all_frames, frame_of, opening_cpus}
use Rattle.wdf_model.specs.parts.Pnp.{is_running_step, no_sequence, opening_sequence}
use Rattle.wdf_model.specs.State.{State, opening}
use Rattle.wdf_model.specs.rules.Steps.{after, deeds, may}
use Rattle.wdf_model.specs.rules.Deeds.{counted, do_deeds}
use Rattle.wdf_model.specs.rules.Ready.{IsRunOf, ready, state_after}
use Rattle.law_machine_base.specs.FactsOfEvents.{IsTick}
use Rattle.law_machine_base.specs.Agreement.{is_step_frame, steps_agree}
use Rattle.wdf_model.proofs.Runs.{along_run}
use Rattle.wdf_model.proofs.Counts.{count_behind, equal}
use Rattle.law_machine_base.proofs.Follows.{follows, state_goes_on}
use Rattle.law_machine_counts.specs.AtPlaces.{AtEachPlace}
use Rattle.law_machine_counts.proofs.HeldOverRuns.{each_passes}
use Rattle.law_machine_counts.proofs.Framed.{Framed}
use Rattle.law_machine_counts.proofs.StepStates.{StepsIn}
use Rattle.law_machine_counts.proofs.StepTable.{event_keeps_steps, tick_keeps_steps}
use Rattle.std.proofs.lemmas.Option.{slice_get_past}

-- ---- the opening

pub no_stacks : (p : ℕ → Bool) (n : ℕ) → count_by p (flat_map (λ (fs : List ℕ). fs) (replicate n [])) ≡ 0
no_stacks p zero = refl
no_stacks p (suc n) = let e = count_behind p [] (flat_map (λ (fs : List ℕ). fs) (replicate n [])) in let rest = no_stacks p n in omega arith

pub none_yet : (plan : Plan) (p : ℕ → Bool) → count_by p (all_frames (opening_cpus plan)) ≡ 0
none_yet plan p = let e = count_behind p (flat_map (λ (fs : List ℕ). fs) (replicate plan.cpus [])) [] in let none = no_stacks p plan.cpus in omega arith

-- past the declared objects there is no device
pub no_device : (plan : Plan) (x : ℕ) → suc (length plan.declared) ≤ x → device_of plan x ≡ None
no_device plan zero h = absurd (omega arith)
no_device plan (suc x) h = ap as_device (slice_get_past plan.declared x (omega arith))

rests : (plan : Plan) (d : ℕ) (i : Option DeviceInfo) → (opening_sequence plan d i).running ≡ None
rests plan d None = refl
rests plan d (Some i) = refl

all_rest : (plan : Plan) (ids : List ℕ) (d : ℕ) → (entry no_sequence (map (λ i. opening_sequence plan i (device_of plan i)) ids) d).running ≡ None
all_rest plan [] d = refl
all_rest plan (i ∷ ids) zero = rests plan i (device_of plan i)
all_rest plan (i ∷ ids) (suc d) = all_rest plan ids d

pub declared_stand : (ds : List Declared) (o : ℕ) → is_gone (entry gone (map declared_node ds) o).life ≡ true → (entry gone (map declared_node ds) o).parent.0 ≡ 0
declared_stand [] o h = refl
declared_stand (d ∷ ds) zero h = absurd (let z : ⊥ = cc in z)
declared_stand (d ∷ ds) (suc o) h = declared_stand ds o h

pub opening_hollow : (plan : Plan) (o : ℕ) → is_gone (life_of (opening_tree plan) o) ≡ true → parent_of (opening_tree plan) o ≡ 0
opening_hollow plan zero h = refl
opening_hollow plan (suc o) h = declared_stand plan.declared o h

pub opening_steps : {A : Type 0} (plan : Plan) (m : Meaning A) → StepsIn 0 0 (opening plan m)
opening_steps plan m = record {
  number = refl;
  framed = record {
    once = λ f. let e = none_yet plan (λ x. x == f) in omega arith;
    old = λ f is. let e = none_yet plan (λ x. x == f) in absurd (omega arith);
    known = λ f is. let e = none_yet plan (λ x. x == f) in absurd (omega arith);
    there = λ f is. let e = none_yet plan (λ x. x == f) in absurd (omega arith);
  };
  rooted = record { hollow = opening_hollow plan; root = refl; some = omega arith };
  stepping = record { steps = λ d. none_yet plan (λ f. is_step_frame d (frame_of (opening_cpus plan) f)) ∙ sym (ap (λ r. flag (is_some r)) (all_rest plan (declared_ids plan) d)) };
}

-- ---- one event more

abbrev StepsNow : {A : Type 0} → State A → Type 0
StepsNow S = StepsIn S.number S.number S

told_more : {A : Type 0} (m : Meaning A) (e : Event) (N : ℕ) (S : State A) → StepsIn N (N + 1) S → StepsNow (counted m e S)
told_more m e N S h =
    let more : N + 1 ≡ S.number + 1 = ap (λ n. n + 1) (sym h.number) in
    record { number = refl; framed = subst (λ n. Framed S.cpus S.tree n) more h.framed; rooted = h.rooted; stepping = h.stepping }

one_event_more : {A : Type 0} (plan : Plan) (m : Meaning A) (S : State A) (offered : List Event) (e : Event) → (may plan m S e ≡ true) ⊎ IsTick m S offered e → StepsNow S → StepsNow (after plan m S e)
one_event_more plan m S offered e (inl may_come) h = told_more m e S.number (do_deeds plan (deeds plan S e) S) (event_keeps_steps plan m S e may_come h)
one_event_more plan m S offered e (inr t) h = subst (λ x. StepsNow (after plan m S x)) (sym t.tick) (told_more m (event.Tick (S.clock + 1)) S.number _ (tick_keeps_steps plan S (S.clock + 1) h))

-- ---- each place of a run

steps_at_first : {A : Type 0} (plan : Plan) (m : Meaning A) → StepsNow (state_after plan m [])
unfolding state_after
steps_at_first plan m = opening_steps plan m

steps_at_each : {A : Type 0} (plan : Plan) (m : Meaning A) (run : List Event) → IsRunOf plan m run → (n : ℕ) → StepsNow (state_after plan m (take n run))
steps_at_each plan m run is_run n = along_run (λ es. StepsNow (state_after plan m es)) (ready plan m) run (steps_at_first plan m)
    (λ before e place so_far held at. subst (λ T. StepsNow T) (sym (state_goes_on plan m before e))
    (one_event_more plan m (state_after plan m before) (ready plan m before) e (follows plan m before place e at) held))
    is_run n

-- ---- the law

flag_by : (b : Bool) → flag b ≡ (if b then 1 else 0)
flag_by true = refl
flag_by false = refl

pub steps_agree_at_each : {A : Type 0} → AtEachPlace {A = A} steps_agree
steps_agree_at_each plan m run is_run n =
    let S = state_after plan m (take n run) in
    each_passes (λ d. count_by (λ f. is_step_frame d (frame_of S.cpus f)) (all_frames S.cpus) == (if is_running_step S.pnp d then 1 else 0))
    (λ d. equal (count_by (λ f. is_step_frame d (frame_of S.cpus f)) (all_frames S.cpus)) (if is_running_step S.pnp d then 1 else 0)
    ((steps_at_each plan m run is_run n).stepping.steps d ∙ flag_by (is_running_step S.pnp d)))
    (devices_of plan)

pub frames_agree_at_each : {A : Type 0} (plan : Plan) (m : Meaning A) (run : List Event) → IsRunOf plan m run → (n : ℕ) → FramesAgree (state_after plan m (take n run))
frames_agree_at_each plan m run is_run n =
    let framed = (steps_at_each plan m run is_run n).framed in
    record { once = framed.once; numbered = framed.old; device = framed.known; object = framed.there }
