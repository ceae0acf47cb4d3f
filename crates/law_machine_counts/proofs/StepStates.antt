-- What is so of frames, steps and the tree in a state, after a frame goes on, begins, ends, parks or comes back.
use Rattle.std.proofs.Common.{◌≡◌, ℕ, ◌+◌, ◌==◌, ◌<◌, ◌≤◌, true, List, [], ◌∷◌, ◌++◌, Option, Some, length, count_by, refl, sym, subst, ◌∙◌, arith}
use Rattle.wdf_base.specs.declared.plan.Plan.{Plan}
use Rattle.wdf_base.specs.declared.object.LockRef.{LockRef}
use Rattle.wdf_base.specs.declared.frame.Frame.{Frame}
use Rattle.wdf_model.specs.Tables.{contains}
use Rattle.wdf_model.specs.parts.Tree.{nearest_device}
use Rattle.wdf_model.specs.parts.Cpus as cpus
use Rattle.wdf_model.specs.parts.Cpus.{frame_of, top}
use Rattle.wdf_model.specs.parts.Pnp.{Pnp}
use Rattle.wdf_model.specs.State.{State}
use Rattle.wdf_model.specs.Ids.{cpu_of, frame_id}
use Rattle.wdf_model.specs.declared.deed.Deed.{Deed}
use Rattle.wdf_model.specs.declared.deed.Deed.TheVariants.{GoOn, ParkFrame, UnparkFrame}
use Rattle.wdf_model.specs.rules.Deeds.{do_deed, do_deeds}
use Rattle.wdf_model.specs.rules.Starts.{take_if_any}
use Rattle.law_machine_base.specs.Fits.{all_fit, fits}
use Rattle.wdf_model.proofs.Tests.{both, both_left, both_right}
use Rattle.wdf_model.proofs.Counts.{one_or_two}
use Rattle.law_machine_counts.proofs.Trees.{Rooted}
use Rattle.law_machine_counts.proofs.StillDeeds.{all_still, taking_none}
use Rattle.law_machine_counts.proofs.StillFrames.{Still, deeds_still}
use Rattle.wdf_model.proofs.FrameCounts.{parked_once, parks, unparks}
use Rattle.law_machine_counts.proofs.Framed.{Framed, Stepping, framed_still, stepping_still}
use Rattle.law_machine_counts.proofs.FrameMoves.{FrameKept, framed_fewer, framed_pushed, goes_kept, kept_same, pop_kept, pop_on}
use Rattle.law_machine_counts.proofs.StepMoves.{steps_stay}

-- with this number of events, and frames numbered so far
pub record StepsIn {A : Type 0} (N M : ℕ) (S : State A) : Type 0 where
  pub number : S.number ≡ N
  pub framed : Framed S.cpus S.tree M
  pub rooted : Rooted S.tree
  pub stepping : Stepping S.cpus S.pnp

steps_still : {A : Type 0} (N M L : ℕ) (S U : State A) → M ≤ L → Still S U → StepsIn N M S → StepsIn N L U
steps_still N M L S U more k h =
    let f : Framed U.cpus U.tree M = framed_still S U M k h.framed in
    record {
      number = k.number ∙ h.number;
      framed = record { once = f.once; old = λ x is. let o = f.old x is in omega arith; known = f.known; there = f.there };
      rooted = k.tree.rooted h.rooted;
      stepping = stepping_still S U k h.stepping;
    }

-- ---- deeds one after another

pub in_turn : {A : Type 0} (plan : Plan) (ds es : List Deed) (S : State A) → do_deeds plan (ds ++ es) S ≡ do_deeds plan es (do_deeds plan ds S)
in_turn plan [] es S = refl
in_turn plan (d ∷ ds) es S = in_turn plan ds es (do_deed plan d S)

pub fit_before : {A : Type 0} (plan : Plan) (ds es : List Deed) (S : State A) → all_fit plan (ds ++ es) S ≡ true → all_fit plan ds S ≡ true
fit_before plan [] es S h = refl
fit_before plan (d ∷ ds) es S h =
    both (fits plan d S) (all_fit plan ds (do_deed plan d S)) (both_left (fits plan d S) (all_fit plan (ds ++ es) (do_deed plan d S)) h)
    (fit_before plan ds es (do_deed plan d S) (both_right (fits plan d S) (all_fit plan (ds ++ es) (do_deed plan d S)) h))

pub fit_after : {A : Type 0} (plan : Plan) (ds es : List Deed) (S : State A) → all_fit plan (ds ++ es) S ≡ true → all_fit plan es (do_deeds plan ds S) ≡ true
fit_after plan [] es S h = h
fit_after plan (d ∷ ds) es S h = fit_after plan ds es (do_deed plan d S) (both_right (fits plan d S) (all_fit plan (ds ++ es) (do_deed plan d S)) h)

pub deeds_stay : {A : Type 0} (plan : Plan) (ds : List Deed) (S : State A) (N M L : ℕ) → M ≤ L → all_still ds ≡ true → all_fit plan ds S ≡ true → StepsIn N M S → StepsIn N L (do_deeds plan ds S)
deeds_stay plan ds S N M L more still fit h = steps_still N M L S (do_deeds plan ds S) more (deeds_still plan ds S still fit) h

-- ---- a frame goes on

pub goes : {A : Type 0} (plan : Plan) (S : State A) (f : ℕ) (next : Frame) (N M L : ℕ) → M ≤ L → FrameKept (frame_of S.cpus f) next → StepsIn N M S → StepsIn N L (do_deed plan (GoOn (frame_id f) next) S)
goes plan S f next N M L more k h = record {
  number = h.number;
  framed = framed_fewer S.cpus (cpus.change S.cpus f next) S.tree M L more (λ x. omega arith) (λ x is. goes_kept S.cpus f next x k (one_or_two x f)) h.framed;
  rooted = h.rooted;
  stepping = steps_stay S.cpus (cpus.change S.cpus f next) S.pnp S.pnp (λ x is. goes_kept S.cpus f next x k (one_or_two x f)) (λ p. refl) (λ x. refl) h.stepping;
}

pub goes_after : {A : Type 0} (plan : Plan) (ds : List Deed) (S : State A) (f : ℕ) (next : Frame) (N M L : ℕ) → M ≤ L → all_still ds ≡ true → all_fit plan ds S ≡ true
    → FrameKept (frame_of S.cpus f) next → StepsIn N M S → StepsIn N L (do_deeds plan (ds ++ GoOn (frame_id f) next ∷ []) S)
goes_after {A} plan ds S f next N M L more still fit k h =
    let s : Still S (do_deeds plan ds S) = deeds_still plan ds S still fit in
    subst (λ (V : State A). StepsIn N L V) (sym (in_turn plan ds (GoOn (frame_id f) next ∷ []) S))
    (goes plan (do_deeds plan ds S) f next N M L more (subst (λ a. FrameKept a next) (sym (s.frames f)) k) (deeds_stay plan ds S N M M (omega arith) still fit h))

-- ---- a frame begins

pub begun : {A : Type 0} (plan : Plan) (U : State A) (N cpu : ℕ) (frame : Frame) (level : ℕ) (l : Option LockRef) → StepsIn N N U
    → (R : Pnp) → Stepping (cpus.push U.cpus cpu (N + 1) frame level) R
    → frame.device.id.0 ≡ nearest_device U.tree frame.object.id.0 → frame.object.id.0 < length U.tree.nodes
    → all_fit plan (take_if_any (N + 1) l) (record U { cpus = cpus.push U.cpus cpu (N + 1) frame level; pnp = R }) ≡ true
    → StepsIn N (N + 1) (do_deeds plan (take_if_any (N + 1) l) (record U { cpus = cpus.push U.cpus cpu (N + 1) frame level; pnp = R }))
begun plan U N cpu frame level l h R steps near within fit =
    deeds_stay plan (take_if_any (N + 1) l) (record U { cpus = cpus.push U.cpus cpu (N + 1) frame level; pnp = R }) N (N + 1) (N + 1) (omega arith) (taking_none (N + 1) l) fit
    (record {
      number = h.number;
      framed = framed_pushed U.cpus cpu (N + 1) frame level U.tree N h.framed (omega arith) near within;
      rooted = h.rooted;
      stepping = steps;
    })

-- ---- a frame ends

pub ended_in : {A : Type 0} (U : State A) (cpu f N M L : ℕ) → M ≤ L → StepsIn N M U → top U.cpus cpu ≡ Some f → (R : Pnp) → Stepping (cpus.pop U.cpus cpu) R → StepsIn N L (record U { cpus = cpus.pop U.cpus cpu; pnp = R })
ended_in U cpu f N M L more h is_top R steps = record {
  number = h.number;
  framed = framed_fewer U.cpus (cpus.pop U.cpus cpu) U.tree M L more (λ x. let e = pop_on U.cpus cpu f is_top x in omega arith) (pop_kept U.cpus cpu f is_top (h.framed.once f)) h.framed;
  rooted = h.rooted;
  stepping = steps;
}

-- ---- a frame parks, or comes back

pub parked_in : {A : Type 0} (plan : Plan) (S : State A) (cpu f N M L : ℕ) → M ≤ L → top S.cpus cpu ≡ Some f → StepsIn N M S → StepsIn N L (do_deed plan (ParkFrame (cpu_of cpu)) S)
parked_in plan S cpu f N M L more is_top h = record {
  number = h.number;
  framed = framed_fewer S.cpus (cpus.park S.cpus cpu) S.tree M L more (λ x. let e = parks (λ y. y == x) S.cpus cpu f is_top in omega arith) (λ x is. kept_same (frame_of S.cpus x) (frame_of S.cpus x) refl) h.framed;
  rooted = h.rooted;
  stepping = steps_stay S.cpus (cpus.park S.cpus cpu) S.pnp S.pnp (λ x is. kept_same (frame_of S.cpus x) (frame_of S.cpus x) refl) (λ p. parks p S.cpus cpu f is_top) (λ x. refl) h.stepping;
}

pub back_in : {A : Type 0} (plan : Plan) (S : State A) (cpu f N M L : ℕ) → M ≤ L → contains f S.cpus.parked ≡ true → StepsIn N M S → StepsIn N L (do_deed plan (UnparkFrame (cpu_of cpu) (frame_id f)) S)
back_in plan S cpu f N M L more waits h =
    let one : count_by (λ y. y == f) S.cpus.parked ≡ 1 = parked_once S.cpus f (h.framed.once f) waits in
    record {
      number = h.number;
      framed = framed_fewer S.cpus (cpus.unpark S.cpus cpu f) S.tree M L more (λ x. let e = unparks (λ y. y == x) S.cpus cpu f one in omega arith) (λ x is. kept_same (frame_of S.cpus x) (frame_of S.cpus x) refl) h.framed;
      rooted = h.rooted;
      stepping = steps_stay S.cpus (cpus.unpark S.cpus cpu f) S.pnp S.pnp (λ x is. kept_same (frame_of S.cpus x) (frame_of S.cpus x) refl) (λ p. unparks p S.cpus cpu f one) (λ x. refl) h.stepping;
    }
