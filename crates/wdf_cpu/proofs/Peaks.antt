-- The level of each frame after each act.
use Rattle.std.proofs.Common.{◌≡◌, ◌≢◌, ℕ, max, true, false, List, [], ◌∷◌, inl, inr, Some, fold, refl, ap, sym, ◌∙◌, arith}
use Rattle.wdf_base.specs.declared.frame.Frame.{Frame}
use Rattle.wdf_model.specs.declared.entries.Running.{Running}
use Rattle.wdf_model.specs.Tables.{entry, put}
use Rattle.wdf_model.specs.parts.Cpus.{Cpus, frame_level, less_one, levels_of, levels_without, running, top}
use Rattle.wdf_model.specs.parts.Cpus as cpus
use Rattle.wdf_model.proofs.Maps.{entry_put_other, entry_put_same}
use Rattle.wdf_model.proofs.Counts.{equal, not_equal, one_or_two}
use Rattle.wdf_cpu.specs.Kept.{ArePeaks}
use Rattle.wdf_cpu.specs.Levels.{held_by}
use Rattle.wdf_cpu.proofs.HeldLevels.{forgotten, held_more, less_one_keeps, others_kept}
use Rattle.wdf_cpu.proofs.Passing.{change_elsewhere, change_here, pop_elsewhere, pop_here, push_elsewhere, push_here}

-- ---- the peaks follow one frame

pub peaks_follow : (C D : Cpus) (peaks : List ℕ) (f peak : ℕ) → peak ≡ frame_level D f → ((x : ℕ) → x ≢ f → frame_level D x ≡ frame_level C x) → ArePeaks C peaks → ArePeaks D (put 0 peaks f peak)
peaks_follow C D peaks f peak here others h = record {
  level = λ x. elim (one_or_two x f) [
    | inl e ↦ ap (entry 0 (put 0 peaks f peak)) e ∙ entry_put_same 0 peaks f peak ∙ here ∙ ap (frame_level D) (sym e)
    | inr n ↦ entry_put_other 0 peaks f x peak n ∙ h.level x ∙ sym (others x n)
  ];
}

-- ---- a frame begins or goes on

pub peaks_push : (C : Cpus) (peaks : List ℕ) (cpu f : ℕ) (frame : Frame) (level peak : ℕ) → peak ≡ fold max level (levels_of C f) → ArePeaks C peaks → ArePeaks (cpus.push C cpu f frame level) (put 0 peaks f peak)
peaks_push C peaks cpu f frame level peak is h =
    peaks_follow C (cpus.push C cpu f frame level) peaks f peak
    (is ∙ sym (ap (λ (r : Running). fold max r.level.0 (levels_of C f)) (push_here C cpu f frame level)))
    (λ x n. ap (λ (r : Running). fold max r.level.0 (levels_of C x)) (push_elsewhere C cpu f frame level x n))
    h

pub peaks_change : (C : Cpus) (peaks : List ℕ) (f : ℕ) (frame : Frame) → ArePeaks C peaks → ArePeaks (cpus.change C f frame) peaks
peaks_change C peaks f frame h = record {
  level = λ x. h.level x ∙ elim (one_or_two x f) [
    | inl e ↦ rw e (sym (ap (λ (r : Running). fold max r.level.0 (levels_of C f)) (change_here C f frame)))
    | inr n ↦ sym (ap (λ (r : Running). fold max r.level.0 (levels_of C x)) (change_elsewhere C f frame x n))
  ];
}

-- ---- a frame holds a level more

max_out : (a b : ℕ) (ls : List ℕ) → fold max (max a b) ls ≡ max (fold max a ls) b
max_out a b [] = refl
max_out a b (l ∷ ls) = let e : max (max a b) l ≡ max (max a l) b = omega arith in rw e (max_out (max a l) b ls)

pub peaks_raise : (C : Cpus) (peaks : List ℕ) (f level : ℕ) → ArePeaks C peaks → ArePeaks (cpus.raise C f level) (put 0 peaks f (max (entry 0 peaks f) level))
peaks_raise C peaks f level h =
    peaks_follow C (cpus.raise C f level) peaks f (max (entry 0 peaks f) level)
    (ap (λ n. max n level) (h.level f) ∙ sym (max_out (running C f).level.0 level (levels_of C f)) ∙ sym (ap (fold max (running C f).level.0) (held_more f level C.levels f true (equal f f refl))))
    (λ x n. ap (fold max (running C x).level.0) (held_more f level C.levels x false (not_equal f x (λ e. n (sym e)))))
    h

-- ---- a frame holds a level less

pub peaks_lower : (C : Cpus) (peaks : List ℕ) (f level peak : ℕ) → peak ≡ fold max (running C f).level.0 (held_by (less_one f level C.levels) f) → ArePeaks C peaks → ArePeaks (cpus.lower C f level) (put 0 peaks f peak)
peaks_lower C peaks f level peak is h =
    peaks_follow C (cpus.lower C f level) peaks f peak is
    (λ x n. ap (fold max (running C x).level.0) (less_one_keeps f level x C.levels n))
    h

-- ---- a frame ends

pub peaks_pop : (C : Cpus) (peaks : List ℕ) (cpu f : ℕ) → top C cpu ≡ Some f → ArePeaks C peaks → ArePeaks (cpus.pop C cpu) (put 0 peaks f 0)
peaks_pop C peaks cpu f is_top h =
    peaks_follow C (cpus.pop C cpu) peaks f 0
    (sym (ap (λ t. frame_level (record (cpus.pop C cpu) { levels = levels_without C t }) f) is_top
    ∙ ap (λ (r : Running). fold max r.level.0 (held_by (levels_without C (Some f)) f)) (pop_here C cpu f is_top)
    ∙ ap (fold max 0) (forgotten f C.levels)))
    (λ x n. ap (λ t. frame_level (record (cpus.pop C cpu) { levels = levels_without C t }) x) is_top
    ∙ ap (λ (r : Running). fold max r.level.0 (held_by (levels_without C (Some f)) x)) (pop_elsewhere C cpu f is_top x n)
    ∙ ap (fold max (running C x).level.0) (others_kept f x C.levels n))
    h
