-- The frames after one begins, goes on, ends, parks or comes back.
use Rattle.std.proofs.Common.{◌≡◌, ◌≢◌, ℕ, ◌+◌, ◌==◌, ◌<◌, ◌≤◌, ◌&&◌, ◌⊎◌, inl, inr, Some, length, count_by, refl, ap, sym, subst, ◌∙◌, arith}
use Rattle.wdf_base.specs.declared.ids.Handle.{Handle}
use Rattle.wdf_base.specs.declared.frame.Frame.{Frame}
use Rattle.wdf_base.specs.Callbacks.{row_of}
use Rattle.wdf_model.specs.declared.entries.Running.{Running}
use Rattle.wdf_model.specs.Tables.{entry, flag}
use Rattle.wdf_model.specs.parts.Tree.{Tree, nearest_device}
use Rattle.wdf_model.specs.parts.Cpus.{Cpus, all_frames, frame_of, no_frame, running, top, without_frame}
use Rattle.wdf_model.specs.parts.Cpus as cpus
use Rattle.law_machine_base.specs.Agreement.{is_sequence, is_step_frame}
use Rattle.wdf_model.proofs.Maps.{entry_put_other, entry_put_same}
use Rattle.wdf_model.proofs.Counts.{equal, not_equal, one_or_two}
use Rattle.wdf_model.proofs.FrameCounts.{flag_small, none_or_some, on, popped, pushed, same_on}
use Rattle.law_machine_counts.proofs.Framed.{Framed, step_frames}

-- a frame that is where another was, as far as it is a step's
pub record FrameKept (a b : Frame) : Type 0 where
  pub callback : b.callback ≡ a.callback
  pub object : b.object ≡ a.object
  pub device : b.device ≡ a.device

pub kept_same : (a b : Frame) → b ≡ a → FrameKept a b
kept_same a b e = record {
  callback = ap (λ (x : Frame). x.callback) e;
  object = ap (λ (x : Frame). x.object) e;
  device = ap (λ (x : Frame). x.device) e;
}

step_kept : (d : ℕ) (a b : Frame) → FrameKept a b → is_step_frame d b ≡ is_step_frame d a
step_kept d a b k =
    ap (λ c. is_sequence (row_of c).rank && b.device.id.0 == d) k.callback ∙ ap (λ (h : Handle). is_sequence (row_of a.callback).rank && h.id.0 == d) k.device

pub framed_fewer : (C D : Cpus) (T : Tree) (N M : ℕ) → N ≤ M → ((x : ℕ) → on D x ≤ on C x) → ((x : ℕ) → 1 ≤ on D x → FrameKept (frame_of C x) (frame_of D x)) → Framed C T N → Framed D T M
framed_fewer C D T N M more less kept h = record {
  once = λ x. let l = less x in let o = h.once x in omega arith;
  old = λ x is. let l = less x in let o = h.old x (omega arith) in omega arith;
  known = λ x is. let l = less x in let k = kept x is in ap (λ (d : Handle). d.id.0) k.device ∙ h.known x (omega arith) ∙ sym (ap (λ (o : Handle). nearest_device T o.id.0) k.object);
  there = λ x is. let l = less x in let w = h.there x (omega arith) in let k = kept x is in
      let e : (frame_of D x).object.id.0 ≡ (frame_of C x).object.id.0 = ap (λ (o : Handle). o.id.0) k.object in omega arith;
}

-- the steps' frames, by the frames as they were
pub steps_by : (C D : Cpus) (d : ℕ) → ((x : ℕ) → 1 ≤ on D x → FrameKept (frame_of C x) (frame_of D x)) → step_frames D d ≡ count_by (λ f. is_step_frame d (frame_of C f)) (all_frames D)
steps_by C D d kept = same_on (λ f. is_step_frame d (frame_of C f)) (λ f. is_step_frame d (frame_of D f)) (all_frames D) (λ x more. step_kept d (frame_of C x) (frame_of D x) (kept x more))

-- ---- a frame begins

pub fresh : (C : Cpus) (T : Tree) (N f : ℕ) → Framed C T N → N < f → on C f ≡ 0
fresh C T N f h later = elim (none_or_some (on C f)) [
  | inl e ↦ e
  | inr more ↦ absurd (let o = h.old f more in omega arith)
]

module _ (C : Cpus) (cpu f : ℕ) (frame : Frame) (level : ℕ) where
  push_here : frame_of (cpus.push C cpu f frame level) f ≡ frame
  push_here = ap (λ (r : Running). r.frame) (entry_put_same no_frame C.frames f (record { frame = frame; level = record { 0 = level } }))

  push_elsewhere : (x : ℕ) → x ≢ f → frame_of (cpus.push C cpu f frame level) x ≡ frame_of C x
  push_elsewhere x n = ap (λ (r : Running). r.frame) (entry_put_other no_frame C.frames f x (record { frame = frame; level = record { 0 = level } }) n)

  pushed_on : (x : ℕ) → on (cpus.push C cpu f frame level) x ≡ on C x + flag (f == x)
  pushed_on x = pushed (λ y. y == x) C cpu f frame level

  push_other : (x : ℕ) → x ≢ f → on (cpus.push C cpu f frame level) x ≡ on C x
  push_other x n = let e = pushed_on x in let no : flag (f == x) ≡ 0 = ap flag (not_equal f x (λ s. n (sym s))) in omega arith

  pub framed_pushed : (T : Tree) (N : ℕ) → Framed C T N → N < f → frame.device.id.0 ≡ nearest_device T frame.object.id.0 → frame.object.id.0 < length T.nodes → Framed (cpus.push C cpu f frame level) T f
  framed_pushed T N h later near within = record {
    once = λ x. elim (one_or_two x f) [
      | inl e ↦ let p = pushed_on x in let none : on C x ≡ 0 = ap (on C) e ∙ fresh C T N f h later in let small = flag_small (f == x) in omega arith
      | inr n ↦ let p = push_other x n in let o = h.once x in omega arith
    ];
    old = λ x is. elim (one_or_two x f) [
      | inl e ↦ omega arith
      | inr n ↦ let p = push_other x n in let o = h.old x (omega arith) in omega arith
    ];
    known = λ x is. elim (one_or_two x f) [
      | inl e ↦ rw e (ap (λ (y : Frame). y.device.id.0) push_here ∙ near ∙ sym (ap (λ (y : Frame). nearest_device T y.object.id.0) push_here))
      | inr n ↦ let p = push_other x n in ap (λ (y : Frame). y.device.id.0) (push_elsewhere x n) ∙ h.known x (omega arith) ∙ sym (ap (λ (y : Frame). nearest_device T y.object.id.0) (push_elsewhere x n))
    ];
    there = λ x is. elim (one_or_two x f) [
      | inl e ↦ let same : (frame_of (cpus.push C cpu f frame level) x).object.id.0 ≡ frame.object.id.0 = ap (λ y. (frame_of (cpus.push C cpu f frame level) y).object.id.0) e ∙ ap (λ (y : Frame). y.object.id.0) push_here in omega arith
      | inr n ↦ let p = push_other x n in let w = h.there x (omega arith) in let same : (frame_of (cpus.push C cpu f frame level) x).object.id.0 ≡ (frame_of C x).object.id.0 = ap (λ (y : Frame). y.object.id.0) (push_elsewhere x n) in omega arith
    ];
  }

  pub pushed_steps : (d : ℕ) → on C f ≡ 0 → step_frames (cpus.push C cpu f frame level) d ≡ step_frames C d + flag (is_step_frame d frame)
  pushed_steps d none =
      pushed (λ x. is_step_frame d (frame_of (cpus.push C cpu f frame level) x)) C cpu f frame level
      ∙ ap (λ n. n + flag (is_step_frame d (frame_of (cpus.push C cpu f frame level) f)))
      (same_on (λ x. is_step_frame d (frame_of C x)) (λ x. is_step_frame d (frame_of (cpus.push C cpu f frame level) x)) (all_frames C)
      (λ x more. ap (is_step_frame d) (push_elsewhere x (λ e. let there : 1 ≤ on C f = subst (λ y. 1 ≤ on C y) e more in let z : ⊥ = omega arith in z))))
      ∙ ap (λ (y : Frame). step_frames C d + flag (is_step_frame d y)) push_here

-- ---- a frame goes on

pub goes_kept : (C : Cpus) (f : ℕ) (next : Frame) (x : ℕ) → FrameKept (frame_of C f) next → (x ≡ f) ⊎ (x ≢ f) → FrameKept (frame_of C x) (frame_of (cpus.change C f next) x)
goes_kept C f next x k (inl e) = rw e (
    let here : frame_of (cpus.change C f next) f ≡ next = ap (λ (r : Running). r.frame) (entry_put_same no_frame C.frames f (record (running C f) { frame = next })) in
    record {
      callback = ap (λ (y : Frame). y.callback) here ∙ k.callback;
      object = ap (λ (y : Frame). y.object) here ∙ k.object;
      device = ap (λ (y : Frame). y.device) here ∙ k.device;
    })
goes_kept C f next x k (inr n) = kept_same (frame_of C x) (frame_of (cpus.change C f next) x) (ap (λ (r : Running). r.frame) (entry_put_other no_frame C.frames f x (record (running C f) { frame = next }) n))

-- ---- a frame ends

module _ (C : Cpus) (cpu f : ℕ) (is_top : top C cpu ≡ Some f) where
  pop_elsewhere : (x : ℕ) → x ≢ f → frame_of (cpus.pop C cpu) x ≡ frame_of C x
  pop_elsewhere x n = ap (λ t. (entry no_frame (without_frame C t) x).frame) is_top ∙ ap (λ (r : Running). r.frame) (entry_put_other no_frame C.frames f x no_frame n)

  pub pop_on : (x : ℕ) → on (cpus.pop C cpu) x + flag (f == x) ≡ on C x
  pop_on x = popped (λ y. y == x) C cpu f is_top

  pub pop_off : on C f ≤ 1 → on (cpus.pop C cpu) f ≡ 0
  pop_off once = let e = pop_on f in let yes : flag (f == f) ≡ 1 = ap flag (equal f f refl) in omega arith

  pub pop_kept : on C f ≤ 1 → (x : ℕ) → 1 ≤ on (cpus.pop C cpu) x → FrameKept (frame_of C x) (frame_of (cpus.pop C cpu) x)
  pop_kept once x more = kept_same (frame_of C x) (frame_of (cpus.pop C cpu) x)
      (pop_elsewhere x (λ e. let off = pop_off once in let there : 1 ≤ on (cpus.pop C cpu) f = subst (λ y. 1 ≤ on (cpus.pop C cpu) y) e more in let z : ⊥ = omega arith in z))

  pub pop_steps : (d : ℕ) → on C f ≤ 1 → step_frames (cpus.pop C cpu) d + flag (is_step_frame d (frame_of C f)) ≡ step_frames C d
  pop_steps d once =
      ap (λ n. n + flag (is_step_frame d (frame_of C f))) (steps_by C (cpus.pop C cpu) d (pop_kept once)) ∙ popped (λ y. is_step_frame d (frame_of C y)) C cpu f is_top
