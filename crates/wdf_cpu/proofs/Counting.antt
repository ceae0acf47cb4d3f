-- What the counts say of the frames.
use Rattle.std.proofs.Common.{◌≡◌, ℕ, suc, ◌==◌, Bool, true, false, not, List, [], ◌∷◌, Option, Some, None, get_or, count_by, refl, ap, sym, ◌∙◌, arith}
use Rattle.std.specs.List.{list_any, slice_get}
use Rattle.std.proofs.lemmas.Option.{get_or_from_slice_get}
use Rattle.wdf_base.specs.declared.frame.Frame.{Frame}
use Rattle.wdf_base.specs.declared.frame.Pending.{Pending}
use Rattle.wdf_model.specs.Tables.{same_id}
use Rattle.wdf_model.specs.State.{waits_for}
use Rattle.wdf_model.specs.parts.Cpus.{Cpus, all_frames, frame_of}
use Rattle.wdf_model.proofs.Counts.{count_no, count_yes, not_equal}
use Rattle.wdf_cpu.specs.FrameTests.{passes}
use Rattle.wdf_cpu.specs.Keys.{waited_by}
use Rattle.wdf_cpu.specs.declared.frame_test.FrameTest.{FrameTest}

any_counted_by : (p q : ℕ → Bool) (x : ℕ) (xs : List ℕ) (b : Bool) → q x ≡ b → p x ≡ b → not (count_by q xs == 0) ≡ list_any p xs → not (count_by q (x ∷ xs) == 0) ≡ list_any p (x ∷ xs)
any_counted_by p q x xs true e f rest = rw (f, count_yes q x xs e) (ap not (not_equal (suc (count_by q xs)) 0 (λ same. let z : ⊥ = omega arith in z)))
any_counted_by p q x xs false e f rest = rw (f, count_no q x xs e) rest

-- some pass exactly where the count isn't 0
pub any_counted : (p q : ℕ → Bool) → ((x : ℕ) → p x ≡ q x) → (xs : List ℕ) → not (count_by q xs == 0) ≡ list_any p xs
any_counted p q same [] = refl
any_counted p q same (x ∷ xs) = any_counted_by p q x xs (q x) refl (same x) (any_counted p q same xs)

-- a frame waits for an object where that is its key
pub waits_by_key : (o : ℕ) (pending : Option Pending) → waits_for o pending ≡ same_id (waited_by pending) o
waits_by_key o None = refl
waits_by_key o (Some p) = refl

-- whether the frame at a place passes
pub passes_at : (C : Cpus) (test : FrameTest) (place f : ℕ) (frame : Frame) (b : Bool) → slice_get (all_frames C) place ≡ Some f → frame ≡ frame_of C f → passes test frame ≡ b
    → passes test (frame_of C (get_or (all_frames C) place 0)) ≡ b
passes_at C test place f frame b at is e =
    ap (λ x. passes test (frame_of C x)) (get_or_from_slice_get (all_frames C) place f 0 at) ∙ ap (passes test) (sym is) ∙ e
