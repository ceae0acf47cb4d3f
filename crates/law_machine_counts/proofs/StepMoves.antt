-- The steps of sequences and their frames, after a step is taken, a step's callback begins or ends, and an object ends.
use Rattle.std.proofs.Common.{◌≡◌, ◌≢◌, ℕ, ◌==◌, ◌≤◌, Bool, true, false, ◌&&◌, inl, inr, Option, Some, None, is_some, drop, filter, length, count_by, refl, ap, sym, ◌∙◌, arith}
use Rattle.std.proofs.lemmas.Bool.{eqb-true}
use Rattle.std.proofs.lemmas.List.Sums.{length-filter}
use Rattle.wdf_base.specs.declared.ids.Handle.{Handle}
use Rattle.wdf_base.specs.declared.call.Callback.{Callback}
use Rattle.wdf_base.specs.declared.event.Stage.{Stage}
use Rattle.wdf_base.specs.declared.event.Stage.TheVariants as stage
use Rattle.wdf_base.specs.declared.event.Step.{Step}
use Rattle.wdf_base.specs.declared.event.Step.TheVariants as step
use Rattle.wdf_base.specs.declared.frame.Frame.{Frame}
use Rattle.wdf_base.specs.declared.value.Value.{Value}
use Rattle.wdf_base.specs.Callbacks.{row_of}
use Rattle.wdf_base.specs.Same.{same_option, same_step}
use Rattle.wdf_model.specs.Tables.{flag}
use Rattle.wdf_model.specs.parts.Tree.{Tree, gone, may_destroy}
use Rattle.wdf_model.specs.parts.Tree as tree
use Rattle.wdf_model.specs.parts.Cpus.{Cpus, all_frames, frame_of, is_on, nobody_on, top}
use Rattle.wdf_model.specs.parts.Cpus as cpus
use Rattle.wdf_model.specs.parts.Pnp.{Sequence, Pnp, is_running_step, left_after, next_step, no_sequence, passed, sequence_of, taken_step, with_step}
use Rattle.wdf_model.specs.parts.Pnp as pnp
use Rattle.law_machine_base.specs.Agreement.{is_sequence, is_step_frame}
use Rattle.wdf_model.proofs.Maps.{entry_put_other, entry_put_same, put_long}
use Rattle.wdf_model.proofs.Counts.{equal, not_equal, one_or_two}
use Rattle.law_machine_counts.proofs.Trees.{Rooted, tree_loses}
use Rattle.law_machine_counts.proofs.Framed.{Framed, Stepping}
use Rattle.law_machine_counts.proofs.FrameMoves.{FrameKept, pop_steps, pushed_steps, steps_by}
use Rattle.wdf_model.proofs.FrameCounts.{flag_small, on, seen}

-- ---- a step is taken

pub passed_running : (s : Stage) (q : Sequence) → (passed s q).running ≡ q.running
passed_running stage.Working q = refl
passed_running stage.Sleeping q = refl
passed_running stage.Removed q = refl
passed_running _ q = refl

runs_then : (found : Option Step) (q : Sequence) (c : Callback) (i : Option Handle) → same_option same_step found (Some (step.Run c i)) ≡ true → is_some (with_step found q).running ≡ true
runs_then None q c i h = absurd (let z : ⊥ = cc in z)
runs_then (Some (step.Run b j)) q c i h = refl
runs_then (Some (step.Pass s j)) q c i h = absurd (let z : ⊥ = cc in z)

passes_then : (found : Option Step) (q : Sequence) (s : Stage) (i : Option Handle) → same_option same_step found (Some (step.Pass s i)) ≡ true → (with_step found q).running ≡ q.running
passes_then None q s i h = absurd (let z : ⊥ = cc in z)
passes_then (Some (step.Run b j)) q s i h = absurd (let z : ⊥ = cc in z)
passes_then (Some (step.Pass t j)) q s i h = passed_running t q

module _ (Q : Pnp) (d : ℕ) where
  taken_here : sequence_of (pnp.taken Q d) d ≡ taken_step (sequence_of Q d)
  taken_here = entry_put_same no_sequence Q.devices d (taken_step (sequence_of Q d))

  pub taken_elsewhere : (x : ℕ) → x ≢ d → is_running_step (pnp.taken Q d) x ≡ is_running_step Q x
  taken_elsewhere x n = ap (λ (q : Sequence). is_some q.running) (entry_put_other no_sequence Q.devices d x (taken_step (sequence_of Q d)) n)

  pub taken_runs : (c : Callback) (i : Option Handle) → same_option same_step (next_step Q d) (Some (step.Run c i)) ≡ true → is_running_step (pnp.taken Q d) d ≡ true
  taken_runs c i h =
      ap (λ (q : Sequence). is_some q.running) taken_here
      ∙ runs_then (next_step Q d) (record (sequence_of Q d) { left = drop 1 (sequence_of Q d).left }) c i h

  pub taken_passes : (s : Stage) (i : Option Handle) (x : ℕ) → same_option same_step (next_step Q d) (Some (step.Pass s i)) ≡ true → is_running_step (pnp.taken Q d) x ≡ is_running_step Q x
  taken_passes s i x h = elim (one_or_two x d) [
    | inl e ↦ rw e (ap (λ (q : Sequence). is_some q.running) taken_here
        ∙ ap is_some (passes_then (next_step Q d) (record (sequence_of Q d) { left = drop 1 (sequence_of Q d).left }) s i h))
    | inr n ↦ taken_elsewhere x n
  ]

  pub ended_here : (s : Step) (v : Value) → is_running_step (pnp.ended Q d s v) d ≡ false
  ended_here s v = ap (λ (q : Sequence). is_some q.running) (entry_put_same no_sequence Q.devices d (record (sequence_of Q d) { left = left_after (sequence_of Q d) s v; running = None }))

  pub ended_elsewhere : (s : Step) (v : Value) (x : ℕ) → x ≢ d → is_running_step (pnp.ended Q d s v) x ≡ is_running_step Q x
  ended_elsewhere s v x n = ap (λ (q : Sequence). is_some q.running) (entry_put_other no_sequence Q.devices d x (record (sequence_of Q d) { left = left_after (sequence_of Q d) s v; running = None }) n)

-- ---- a callback begins

step_frame_at : (d x : ℕ) (frame : Frame) → is_sequence (row_of frame.callback).rank ≡ true → frame.device.id.0 ≡ d → is_step_frame x frame ≡ (d == x)
step_frame_at d x frame is at = ap (λ b. b && (frame.device.id.0 == x)) is ∙ ap (λ y. y == x) at

no_step_frame : (x : ℕ) (frame : Frame) → is_sequence (row_of frame.callback).rank ≡ false → is_step_frame x frame ≡ false
no_step_frame x frame is = ap (λ b. b && (frame.device.id.0 == x)) is

module _ (C : Cpus) (cpu f : ℕ) (frame : Frame) (level : ℕ) (none : on C f ≡ 0) where
  pub other_begins : (Q : Pnp) → Stepping C Q → is_sequence (row_of frame.callback).rank ≡ false → Stepping (cpus.push C cpu f frame level) Q
  other_begins Q h is = record {
    steps = λ x.
        let p = pushed_steps C cpu f frame level x none in
        let k = h.steps x in
        let no : flag (is_step_frame x frame) ≡ 0 = ap flag (no_step_frame x frame is) in
        omega arith;
  }

  pub step_begins : (Q R : Pnp) (d : ℕ) → Stepping C Q → is_running_step Q d ≡ false → is_running_step R d ≡ true → ((x : ℕ) → x ≢ d → is_running_step R x ≡ is_running_step Q x)
      → is_sequence (row_of frame.callback).rank ≡ true → frame.device.id.0 ≡ d → Stepping (cpus.push C cpu f frame level) R
  step_begins Q R d h idle runs others is at = record {
    steps = λ x. elim (one_or_two x d) [
      | inl e ↦
          let p = pushed_steps C cpu f frame level x none in
          let k = h.steps x in
          let was : flag (is_running_step Q x) ≡ 0 = ap (λ y. flag (is_running_step Q y)) e ∙ ap flag idle in
          let yes : flag (is_step_frame x frame) ≡ 1 = ap flag (step_frame_at d x frame is at ∙ equal d x (sym e)) in
          let now : flag (is_running_step R x) ≡ 1 = ap (λ y. flag (is_running_step R y)) e ∙ ap flag runs in
          omega arith
      | inr n ↦
          let p = pushed_steps C cpu f frame level x none in
          let k = h.steps x in
          let no : flag (is_step_frame x frame) ≡ 0 = ap flag (step_frame_at d x frame is at ∙ not_equal d x (λ s. n (sym s))) in
          let now : flag (is_running_step R x) ≡ flag (is_running_step Q x) = ap flag (others x n) in
          omega arith
    ];
  }

-- ---- a callback ends

module _ (C : Cpus) (cpu f : ℕ) (is_top : top C cpu ≡ Some f) (once : on C f ≤ 1) where
  pub other_ends : (Q : Pnp) → Stepping C Q → is_sequence (row_of (frame_of C f).callback).rank ≡ false → Stepping (cpus.pop C cpu) Q
  other_ends Q h is = record {
    steps = λ x.
        let p = pop_steps C cpu f is_top x once in
        let k = h.steps x in
        let no : flag (is_step_frame x (frame_of C f)) ≡ 0 = ap flag (no_step_frame x (frame_of C f) is) in
        omega arith;
  }

  pub step_ends : (Q R : Pnp) (d : ℕ) → Stepping C Q → is_running_step R d ≡ false → ((x : ℕ) → x ≢ d → is_running_step R x ≡ is_running_step Q x)
      → is_sequence (row_of (frame_of C f).callback).rank ≡ true → (frame_of C f).device.id.0 ≡ d → Stepping (cpus.pop C cpu) R
  step_ends Q R d h idle others is at = record {
    steps = λ x. elim (one_or_two x d) [
      | inl e ↦
          let p = pop_steps C cpu f is_top x once in
          let k = h.steps x in
          let small = flag_small (is_running_step Q x) in
          let yes : flag (is_step_frame x (frame_of C f)) ≡ 1 = ap flag (step_frame_at d x (frame_of C f) is at ∙ equal d x (sym e)) in
          let now : flag (is_running_step R x) ≡ 0 = ap (λ y. flag (is_running_step R y)) e ∙ ap flag idle in
          omega arith
      | inr n ↦
          let p = pop_steps C cpu f is_top x once in
          let k = h.steps x in
          let no : flag (is_step_frame x (frame_of C f)) ≡ 0 = ap flag (step_frame_at d x (frame_of C f) is at ∙ not_equal d x (λ s. n (sym s))) in
          let now : flag (is_running_step R x) ≡ flag (is_running_step Q x) = ap flag (others x n) in
          omega arith
    ];
  }

-- ---- frames that stay

pub steps_stay : (C D : Cpus) (Q R : Pnp) → ((x : ℕ) → 1 ≤ on D x → FrameKept (frame_of C x) (frame_of D x)) → ((p : ℕ → Bool) → count_by p (all_frames D) ≡ count_by p (all_frames C))
    → ((x : ℕ) → is_running_step R x ≡ is_running_step Q x) → Stepping C Q → Stepping D R
steps_stay C D Q R kept same runs h = record { steps = λ d. steps_by C D d kept ∙ same (λ f. is_step_frame d (frame_of C f)) ∙ h.steps d ∙ ap flag (sym (runs d)) }

-- ---- an object ends

nobody_there : (C : Cpus) (o x : ℕ) → nobody_on C o ≡ true → 1 ≤ on C x → (frame_of C x).object.id.0 ≢ o
nobody_there C o x h more = λ e.
    let some = seen (is_on C o) x (all_frames C) more (equal (frame_of C x).object.id.0 o e) in
    let number : length (filter (is_on C o) (all_frames C)) ≡ count_by (is_on C o) (all_frames C) = length-filter (is_on C o) (all_frames C) in
    let none : length (filter (is_on C o) (all_frames C)) ≡ 0 = eqb-true (length (filter (is_on C o) (all_frames C))) 0 h in
    let z : ⊥ = omega arith in z

pub framed_destroyed : (C : Cpus) (T : Tree) (N o : ℕ) → Rooted T → may_destroy T o ≡ true → nobody_on C o ≡ true → Framed C T N → Framed C (tree.destroy T o) N
framed_destroyed C T N o r may nobody h = record {
  once = h.once;
  old = h.old;
  known = λ x is. h.known x is ∙ sym (tree_loses T o r may (frame_of C x).object.id.0 (nobody_there C o x nobody is) (h.there x is));
  there = λ x is. let w = h.there x is in let more = put_long gone T.nodes o gone in omega arith;
}
