-- The frames of a state and the steps of its sequences, after each kind of event.
use Rattle.std.proofs.Common.{◌≡◌, ℕ, ◌==◌, ◌<◌, ◌≤◌, List, ◌++◌, length, count_by, ap, sym, ◌∙◌, arith}
use Rattle.std.specs.List.{flat_map}
use Rattle.wdf_model.specs.Tables.{flag}
use Rattle.wdf_model.specs.parts.Tree.{Tree, nearest_device}
use Rattle.wdf_model.specs.parts.Cpus.{Cpus, all_frames, frame_of}
use Rattle.wdf_model.specs.parts.Pnp.{Pnp, is_running_step}
use Rattle.wdf_model.specs.State.{State}
use Rattle.law_machine_base.specs.Agreement.{is_step_frame}
use Rattle.law_machine_counts.proofs.StillFrames.{Still}
use Rattle.wdf_model.proofs.FrameCounts.{on, same_on}

abbrev pub step_frames : Cpus → ℕ → ℕ
step_frames C d = count_by (λ f. is_step_frame d (frame_of C f)) (all_frames C)

-- each frame is there once, numbered so far, on an object that is there, and knows its nearest device
pub record Framed (C : Cpus) (T : Tree) (N : ℕ) : Type 0 where
  pub once : (f : ℕ) → on C f ≤ 1
  pub old : (f : ℕ) → 1 ≤ on C f → f ≤ N
  pub known : (f : ℕ) → 1 ≤ on C f → (frame_of C f).device.id.0 ≡ nearest_device T (frame_of C f).object.id.0
  pub there : (f : ℕ) → 1 ≤ on C f → (frame_of C f).object.id.0 < length T.nodes

-- a step's callback is noted exactly where its frame is there, once
pub record Stepping (C : Cpus) (Q : Pnp) : Type 0 where
  pub steps : (d : ℕ) → step_frames C d ≡ flag (is_running_step Q d)

frames_same : (C D : Cpus) → D.stacks ≡ C.stacks → D.parked ≡ C.parked → all_frames D ≡ all_frames C
frames_same C D s p = ap (λ ss. flat_map (λ (fs : List ℕ). fs) ss ++ D.parked) s ∙ ap (λ ps. flat_map (λ (fs : List ℕ). fs) C.stacks ++ ps) p

pub framed_still : {A : Type 0} (S U : State A) (N : ℕ) → Still S U → Framed S.cpus S.tree N → Framed U.cpus U.tree N
framed_still S U N k h =
    let same : all_frames U.cpus ≡ all_frames S.cpus = frames_same S.cpus U.cpus k.stacks k.parked in
    let counts = λ (f : ℕ). ap (λ xs. count_by (λ (x : ℕ). x == f) xs) same in
    record {
      once = λ f. let e = counts f in let o = h.once f in omega arith;
      old = λ f more. let e = counts f in h.old f (omega arith);
      known = λ f more. let e = counts f in let there = h.there f (omega arith) in rw (k.frames f) (h.known f (omega arith) ∙ sym (k.tree.nearest (frame_of S.cpus f).object.id.0 there));
      there = λ f more. let e = counts f in let there = h.there f (omega arith) in let longer = k.tree.longer in rw (k.frames f) (omega arith);
    }

pub stepping_still : {A : Type 0} (S U : State A) → Still S U → Stepping S.cpus S.pnp → Stepping U.cpus U.pnp
stepping_still S U k h = record {
  steps = λ d.
      same_on (λ f. is_step_frame d (frame_of S.cpus f)) (λ f. is_step_frame d (frame_of U.cpus f)) (all_frames U.cpus) (λ f more. ap (is_step_frame d) (k.frames f))
      ∙ ap (λ xs. count_by (λ f. is_step_frame d (frame_of S.cpus f)) xs) (frames_same S.cpus U.cpus k.stacks k.parked) ∙ h.steps d ∙ ap flag (sym (k.running d));
}
