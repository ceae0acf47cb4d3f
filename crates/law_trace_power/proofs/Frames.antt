-- The frames of steps: each is that of its device's running step, and a device has one at most.
use Rattle.std.proofs.Common.{◌≡◌, ◌≢◌, ℕ, ◌≤◌, Bool, true, false, inl, inr, Option, Some, None, sym, ap, subst, ◌∙◌, arith}
use Rattle.wdf_base.specs.declared.ids.Handle.{Handle}
use Rattle.wdf_base.specs.declared.call.Callback.TheVariants as callback
use Rattle.wdf_base.specs.declared.event.Step.TheVariants as step
use Rattle.wdf_base.specs.declared.frame.Frame.{Frame}
use Rattle.wdf_base.specs.Callbacks.{row_of}
use Rattle.wdf_base.specs.Same.{same_callback}
use Rattle.wdf_model.specs.parts.Cpus.{Cpus, frame_of}
use Rattle.wdf_model.specs.parts.Pnp.{Pnp, running_step}
use Rattle.law_machine_base.specs.Agreement.{is_sequence}
use Rattle.wdf_model.proofs.Counts.{one_or_two}
use Rattle.law_machine_lives.proofs.FramesStay.{Begins, FramesGoOn}
use Rattle.wdf_model.proofs.FrameCounts.{on}

-- the frame is that of a step
abbrev pub is_step : Frame → Bool
is_step a = is_sequence (row_of a.callback).rank

-- the running step of its device is the frame's
abbrev pub Runs : Pnp → Frame → Type 0
Runs Q a = (j : Option Handle) × (running_step Q a.device.id.0 ≡ Some (step.Run a.callback j))

-- EvtDeviceD0Entry runs on the device itself
abbrev pub Enters : Frame → Type 0
Enters a = same_callback a.callback callback.EvtDeviceD0Entry ≡ true → a.object.id.0 ≡ a.device.id.0

pub record StepFrames (C : Cpus) (Q : Pnp) : Type 0 where
  pub steps : (f : ℕ) → 1 ≤ on C f → is_step (frame_of C f) ≡ true → Runs Q (frame_of C f)
  pub single : (f g : ℕ) → 1 ≤ on C f → 1 ≤ on C g → is_step (frame_of C f) ≡ true → is_step (frame_of C g) ≡ true → (frame_of C f).device.id.0 ≡ (frame_of C g).device.id.0 → f ≡ g
  pub entries : (f : ℕ) → 1 ≤ on C f → Enters (frame_of C f)

-- ---- frames go on, or end

module _ (C D : Cpus) (Q R : Pnp) (go : FramesGoOn C D) (k : StepFrames C Q) where
  pub was_step : (f : ℕ) (h : 1 ≤ on D f) → is_step (frame_of D f) ≡ true → is_step (frame_of C f) ≡ true
  was_step f h is = sym (ap (λ c. is_sequence (row_of c).rank) (go f h).1.callback) ∙ is

  device_was : (f : ℕ) (h : 1 ≤ on D f) → (frame_of D f).device.id.0 ≡ (frame_of C f).device.id.0
  device_was f h = ap (λ (x : Handle). x.id.0) (go f h).1.device

  pub single_still : (f g : ℕ) → 1 ≤ on D f → 1 ≤ on D g → is_step (frame_of D f) ≡ true → is_step (frame_of D g) ≡ true → (frame_of D f).device.id.0 ≡ (frame_of D g).device.id.0 → f ≡ g
  single_still f g h l is too e = k.single f g (go f h).0 (go g l).0 (was_step f h is) (was_step g l too) (sym (device_was f h) ∙ e ∙ device_was g l)

  pub entries_still : (f : ℕ) → 1 ≤ on D f → Enters (frame_of D f)
  entries_still f h is = ap (λ (x : Handle). x.id.0) (go f h).1.object ∙ k.entries f (go f h).0 (sym (ap (λ c. same_callback c callback.EvtDeviceD0Entry) (go f h).1.callback) ∙ is) ∙ sym (device_was f h)

  -- where the running step of each frame's device stays
  pub frames_kept : ((f : ℕ) → 1 ≤ on D f → is_step (frame_of D f) ≡ true → running_step R (frame_of C f).device.id.0 ≡ running_step Q (frame_of C f).device.id.0) → StepFrames D R
  frames_kept runs = record {
    steps = λ f h is.
        let old : Runs Q (frame_of C f) = k.steps f (go f h).0 (was_step f h is) in
        (old.0, ap (running_step R) (device_was f h) ∙ runs f h is ∙ old.1 ∙ ap (λ c. Some (step.Run c old.0)) (sym (go f h).1.callback));
    single = single_still;
    entries = entries_still;
  }

-- ---- a frame begins

module _ (C D : Cpus) (Q R : Pnp) (f : ℕ) (frame : Frame) (b : Begins C D f frame) (k : StepFrames C Q) where
  here : (x : ℕ) → x ≡ f → frame_of D x ≡ frame
  here x e = ap (frame_of D) e ∙ b.here

  old_on : (x : ℕ) → x ≢ f → 1 ≤ on D x → 1 ≤ on C x
  old_on x n h = let o = (b.others x n).0 in omega arith

  old_step : (x : ℕ) (n : x ≢ f) → is_step (frame_of D x) ≡ true → is_step (frame_of C x) ≡ true
  old_step x n is = sym (ap is_step (b.others x n).1) ∙ is

  entries_begun : Enters frame → (x : ℕ) → 1 ≤ on D x → Enters (frame_of D x)
  entries_begun new x h = elim (one_or_two x f) [
    | inl e ↦ subst Enters (sym (here x e)) new
    | inr n ↦ subst Enters (sym (b.others x n).1) (k.entries x (old_on x n h))
  ]

  -- of another callback
  module _ (other : is_step frame ≡ false) (same : (d : ℕ) → running_step R d ≡ running_step Q d) where
    not_new : (x : ℕ) → is_step (frame_of D x) ≡ true → x ≢ f
    not_new x is e = let off : is_step (frame_of D x) ≡ false = ap is_step (here x e) ∙ other in let z : ⊥ = cc in z

    pub begun_other : Enters frame → StepFrames D R
    begun_other new = record {
      steps = λ x h is.
          let n : x ≢ f = not_new x is in
          let old : Runs Q (frame_of C x) = k.steps x (old_on x n h) (old_step x n is) in
          subst (Runs R) (sym (b.others x n).1) (old.0, same (frame_of C x).device.id.0 ∙ old.1);
      single = λ x y h l is too e.
          let n : x ≢ f = not_new x is in
          let o : y ≢ f = not_new y too in
          k.single x y (old_on x n h) (old_on y o l) (old_step x n is) (old_step y o too) (sym (ap (λ (a : Frame). a.device.id.0) (b.others x n).1) ∙ e ∙ ap (λ (a : Frame). a.device.id.0) (b.others y o).1);
      entries = entries_begun new;
    }

  -- of a step: no step of its device was running
  module _ (idle : running_step Q frame.device.id.0 ≡ None) (others : (d : ℕ) → d ≢ frame.device.id.0 → running_step R d ≡ running_step Q d) where
    no_old : (x : ℕ) → x ≢ f → 1 ≤ on D x → is_step (frame_of D x) ≡ true → (frame_of C x).device.id.0 ≡ frame.device.id.0 → ⊥
    no_old x n h is e =
        let old : Runs Q (frame_of C x) = k.steps x (old_on x n h) (old_step x n is) in
        let there : running_step Q frame.device.id.0 ≡ Some (step.Run (frame_of C x).callback old.0) = sym (ap (running_step Q) e) ∙ old.1 in
        let z : ⊥ = cc in z

    steps_begun : Runs R frame → (x : ℕ) → 1 ≤ on D x → is_step (frame_of D x) ≡ true → Runs R (frame_of D x)
    steps_begun new x h is = elim (one_or_two x f) [
      | inl e ↦ subst (Runs R) (sym (here x e)) new
      | inr n ↦
          let old : Runs Q (frame_of C x) = k.steps x (old_on x n h) (old_step x n is) in
          subst (Runs R) (sym (b.others x n).1) (old.0, others (frame_of C x).device.id.0 (no_old x n h is) ∙ old.1)
    ]

    device_here : (x : ℕ) → x ≡ f → (frame_of D x).device.id.0 ≡ frame.device.id.0
    device_here x e = ap (λ (a : Frame). a.device.id.0) (here x e)

    device_old : (x : ℕ) (n : x ≢ f) → (frame_of D x).device.id.0 ≡ (frame_of C x).device.id.0
    device_old x n = ap (λ (a : Frame). a.device.id.0) (b.others x n).1

    single_begun : (x y : ℕ) → 1 ≤ on D x → 1 ≤ on D y → is_step (frame_of D x) ≡ true → is_step (frame_of D y) ≡ true → (frame_of D x).device.id.0 ≡ (frame_of D y).device.id.0 → x ≡ y
    single_begun x y h l is too e = elim (one_or_two x f) [
      | inl p ↦ elim (one_or_two y f) [
        | inl q ↦ p ∙ sym q
        | inr n ↦ absurd (no_old y n l too (sym (device_old y n) ∙ sym e ∙ device_here x p))
      ]
      | inr n ↦ elim (one_or_two y f) [
        | inl q ↦ absurd (no_old x n h is (sym (device_old x n) ∙ e ∙ device_here y q))
        | inr o ↦ k.single x y (old_on x n h) (old_on y o l) (old_step x n is) (old_step y o too) (sym (device_old x n) ∙ e ∙ device_old y o)
      ]
    ]

    pub begun_step : Runs R frame → Enters frame → StepFrames D R
    begun_step new enters = record { steps = steps_begun new; single = single_begun; entries = entries_begun enters }
