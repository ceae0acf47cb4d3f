-- The frames that are there after a deed were there before it, with the same callback and object, but for one that begins.
use Rattle.std.proofs.Common.{◌≡◌, ◌≢◌, ℕ, ◌==◌, ◌≤◌, Some, refl, sym, ap, subst, ◌∙◌, arith}
use Rattle.wdf_base.specs.declared.plan.Plan.{Plan}
use Rattle.wdf_base.specs.declared.frame.Frame.{Frame}
use Rattle.wdf_model.specs.declared.entries.Running.{Running}
use Rattle.wdf_model.specs.Tables.{flag}
use Rattle.wdf_model.specs.parts.Cpus.{Cpus, frame_of, no_frame}
use Rattle.wdf_model.specs.parts.Cpus as cpus
use Rattle.wdf_model.specs.State.{State}
use Rattle.wdf_model.specs.declared.deed.Deed.{Deed}
use Rattle.wdf_model.specs.declared.deed.Deed.TheVariants.{PushFrame, GoOn, PopFrame, ParkFrame, UnparkFrame, Raise, Lower}
use Rattle.wdf_model.specs.rules.Deeds.{do_deed}
use Rattle.wdf_model.proofs.Maps.{entry_put_other, entry_put_same}
use Rattle.wdf_model.proofs.Counts.{equal, not_equal, one_or_two}
use Rattle.wdf_model.proofs.FrameCounts.{on, parks, pushed, unparks}
use Rattle.law_machine_counts.proofs.FrameMoves.{FrameKept, goes_kept, kept_same, pop_kept, pop_on}
use Rattle.law_machine_lives.proofs.Sound.{Sound}
use Rattle.law_machine_lives.proofs.PartsStay.{cpus_stay}

-- a frame that begins
pub record Begins (C D : Cpus) (f : ℕ) (frame : Frame) : Type 0 where
  pub new : on C f ≡ 0
  pub here : frame_of D f ≡ frame
  pub now : on D f ≡ 1
  pub others : (x : ℕ) → x ≢ f → (on D x ≡ on C x) × (frame_of D x ≡ frame_of C x)

-- frames that go on, or end
abbrev pub FramesGoOn : Cpus → Cpus → Type 0
FramesGoOn C D = (x : ℕ) → 1 ≤ on D x → (1 ≤ on C x) × FrameKept (frame_of C x) (frame_of D x)

-- and where none ends
abbrev pub NoneEnds : Cpus → Cpus → Type 0
NoneEnds C D = (x : ℕ) → 1 ≤ on C x → 1 ≤ on D x

pub begins : (C : Cpus) (cpu f : ℕ) (frame : Frame) (level : ℕ) → on C f ≡ 0 → Begins C (cpus.push C cpu f frame level) f frame
begins C cpu f frame level none = record {
  new = none;
  here = ap (λ (r : Running). r.frame) (entry_put_same no_frame C.frames f (record { frame = frame; level = record { 0 = level } }));
  now = let e = pushed (λ x. x == f) C cpu f frame level in let one : flag (f == f) ≡ 1 = ap flag (equal f f refl) in omega arith;
  others = λ x n. (
    let e = pushed (λ y. y == x) C cpu f frame level in let no : flag (f == x) ≡ 0 = ap flag (not_equal f x (λ s. n (sym s))) in omega arith,
    ap (λ (r : Running). r.frame) (entry_put_other no_frame C.frames f x (record { frame = frame; level = record { 0 = level } }) n),
  );
}

same_frames : (C D : Cpus) → D ≡ C → FramesGoOn C D × NoneEnds C D
same_frames C D e = subst (λ (E : Cpus). FramesGoOn C E × NoneEnds C E) (sym e) ((λ x h. (h, kept_same (frame_of C x) (frame_of C x) refl)), (λ x h. h))

-- what becomes of the frames by a deed: one begins, or the top one ends, or none does
abbrev pub FramesBy : {A : Type 0} → Plan → Deed → State A → Type 0
FramesBy plan (PushFrame cpu f frame level) S = Begins S.cpus (cpus.push S.cpus cpu.0 f.0 frame level.0) f.0 frame
FramesBy plan (PopFrame cpu) S = FramesGoOn S.cpus (cpus.pop S.cpus cpu.0) × ((f : ℕ) → 1 ≤ on S.cpus f → (cpus.top S.cpus cpu.0 ≡ Some f → ⊥) → 1 ≤ on (cpus.pop S.cpus cpu.0) f)
FramesBy plan d S = FramesGoOn S.cpus (do_deed plan d S).cpus × NoneEnds S.cpus (do_deed plan d S).cpus

pub frames_by : {A : Type 0} (plan : Plan) (d : Deed) (S : State A) → Sound plan d S → FramesBy plan d S
frames_by plan (PushFrame cpu f frame level) S s = begins S.cpus cpu.0 f.0 frame level.0 s.1
frames_by plan (GoOn f next) S s = ((λ x h. (h, goes_kept S.cpus f.0 next x s (one_or_two x f.0))), (λ x h. h))
frames_by plan (PopFrame cpu) S s = (
  (λ x h. (let e = pop_on S.cpus cpu.0 s.0 s.1 x in omega arith, pop_kept S.cpus cpu.0 s.0 s.1 s.2 x h)),
  (λ f h other. let e = pop_on S.cpus cpu.0 s.0 s.1 f in
      let no : flag (s.0 == f) ≡ 0 = ap flag (not_equal s.0 f (λ same. other (s.1 ∙ ap Some same))) in omega arith),
)
frames_by plan (ParkFrame cpu) S s = (
  (λ x h. (let e = parks (λ y. y == x) S.cpus cpu.0 s.0 s.1 in omega arith, kept_same (frame_of S.cpus x) (frame_of S.cpus x) refl)),
  (λ x h. let e = parks (λ y. y == x) S.cpus cpu.0 s.0 s.1 in omega arith),
)
frames_by plan (UnparkFrame cpu f) S s = (
  (λ x h. (let e = unparks (λ y. y == x) S.cpus cpu.0 f.0 s in omega arith, kept_same (frame_of S.cpus x) (frame_of S.cpus x) refl)),
  (λ x h. let e = unparks (λ y. y == x) S.cpus cpu.0 f.0 s in omega arith),
)
frames_by plan (Raise f level) S s = ((λ x h. (h, kept_same (frame_of S.cpus x) (frame_of S.cpus x) refl)), (λ x h. h))
frames_by plan (Lower f level) S s = ((λ x h. (h, kept_same (frame_of S.cpus x) (frame_of S.cpus x) refl)), (λ x h. h))
frames_by plan d S s = same_frames _ _ (cpus_stay plan d S refl)
