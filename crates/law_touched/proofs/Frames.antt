-- The pieces of the processors that stay where only one frame, and only one processor, changes.
use Rattle.std.proofs.Common.{if◌then◌else◌, ◌≡◌, ◌≢◌, ℕ, zero, suc, max, Bool, true, false, ◌==◌, ◌&&◌, ◌||◌, count_by, List, [], ◌∷◌, ◌++◌, length, map, filter, fold, ◌⊎◌, inl, inr, Option, Some, None, refl, ap, sym, ◌∙◌}
use Rattle.std.specs.List.{flat_map, list_any}
use Rattle.wdf_base.specs.Same.{same_callback}
use Rattle.wdf_base.specs.declared.frame.Frame.{Frame}
use Rattle.wdf_model.specs.declared.entries.HeldLevel.{HeldLevel}
use Rattle.wdf_model.specs.declared.entries.Running.{Running}
use Rattle.wdf_model.specs.State.{State, waits_for}
use Rattle.wdf_model.specs.Tables.{contains, entry, first_of_list}
use Rattle.wdf_model.specs.parts.Cpus as cpus
use Rattle.wdf_model.specs.parts.Cpus.{Cpus, all_frames, frame_of, is_running, level_of_top, levels_of, no_frame, nobody_on, running, stack_of, top}
use Rattle.wdf_model.proofs.Counts.{count_no, count_yes, one_or_two}
use Rattle.wdf_model.proofs.Maps.{entry_put_other, entry_put_same}
use Rattle.law_touched.specs.Touched.{Processor, TopFrame, TopWait, RunningObjects, WaitedObjects, ParkedFrames}
use Rattle.law_touched.proofs.Same.{Same}

-- ---- another processor, another frame

-- the other processors have the frames that they had, and the other frames and their levels are as they were
pub record Beside (cpu f : ℕ) (C D : Cpus) : Type 0 where
  pub stacks : (b : ℕ) → b ≢ cpu → stack_of C b ≡ stack_of D b
  pub others : (x : ℕ) → x ≢ f → running C x ≡ running D x
  pub levels : (x : ℕ) → x ≢ f → levels_of C x ≡ levels_of D x

-- frame f is on top of no other processor, and isn't parked
pub record IsAlone (cpu f : ℕ) (C : Cpus) : Type 0 where
  pub tops : (b x : ℕ) → b ≢ cpu → top C b ≡ Some x → x ≢ f
  pub parked : (x : ℕ) → contains x C.parked ≡ true → x ≢ f

module _ {A : Type 0} (S T : State A) (cpu f : ℕ) (only : Beside cpu f S.cpus T.cpus) (lone : IsAlone cpu f S.cpus) where
  level_by : (b : ℕ) → b ≢ cpu → (o : Option ℕ) → top S.cpus b ≡ o → level_of_top S.cpus o ≡ level_of_top T.cpus o
  level_by b other None at = refl
  level_by b other (Some x) at = λ i. fold max (only.others x (lone.tops b x other at) i).level.0 (only.levels x (lone.tops b x other at) i)

  pub other_processor : (b : ℕ) → b ≢ cpu → Same (Processor b) S T
  other_processor b other = (only.stacks b other, level_by b other (top S.cpus b) refl ∙ ap (λ fs. level_of_top T.cpus (first_of_list fs)) (only.stacks b other))

  pub other_top : (b : ℕ) → b ≢ cpu → Same (TopFrame b) S T
  other_top b other = λ x at. ap (λ (r : Running). r.frame) (only.others x (lone.tops b x other at))

  pub other_wait : (b : ℕ) → b ≢ cpu → Same (TopWait b) S T
  other_wait b other = λ x at. ap (λ (r : Running). r.frame.pending) (only.others x (lone.tops b x other at))

  pub parked_stay : S.cpus.parked ≡ T.cpus.parked → Same ParkedFrames S T
  parked_stay same = (same, λ x at. ap (λ (r : Running). r.frame.pending) (only.others x (lone.parked x at)))

-- ---- a frame that goes on

-- each frame is on the processor on which it was, on its object, and has its callback's level
pub record Calm (C D : Cpus) : Type 0 where
  pub stacks : C.stacks ≡ D.stacks
  pub parked : C.parked ≡ D.parked
  pub level : (x : ℕ) → (running C x).level ≡ (running D x).level
  pub callback : (x : ℕ) → (frame_of C x).callback ≡ (frame_of D x).callback
  pub object : (x : ℕ) → (frame_of C x).object ≡ (frame_of D x).object
  pub device : (x : ℕ) → (frame_of C x).device ≡ (frame_of D x).device

module _ {A : Type 0} (S T : State A) (calm : Calm S.cpus T.cpus) where
  all : all_frames S.cpus ≡ all_frames T.cpus
  all = λ i. flat_map (λ fs. fs) (calm.stacks i) ++ calm.parked i

  pub objects_stay : Same RunningObjects S T
  objects_stay = (
    (λ o. λ i. length (filter (λ x. (calm.object x i).id.0 == o) (all i)) == 0),
    (λ c d. λ i. list_any (λ x. same_callback (calm.callback x i) c && (calm.device x i).id.0 == d) (all i)),
  )

  pub processor_stays : S.cpus.levels ≡ T.cpus.levels → (b : ℕ) → Same (Processor b) S T
  processor_stays levels b = (
    ap (λ fs. cpus.stack_of (record S.cpus { stacks = fs }) b) calm.stacks,
    level_at (top S.cpus b) ∙ ap (λ fs. level_of_top T.cpus (first_of_list (cpus.stack_of (record S.cpus { stacks = fs }) b))) calm.stacks,
  )
    where
      level_at : (o : Option ℕ) → level_of_top S.cpus o ≡ level_of_top T.cpus o
      level_at None = refl
      level_at (Some x) = λ i. fold max (calm.level x i).0 (map (λ (l : HeldLevel). l.level.0) (filter (λ (l : HeldLevel). l.frame.0 == x) (levels i)))

  module _ (pending : (x : ℕ) → (frame_of S.cpus x).pending ≡ (frame_of T.cpus x).pending) where
    pub waited_stay : Same WaitedObjects S T
    waited_stay = λ o. λ i. list_any (λ x. waits_for o (pending x i)) (all i)

    pub waits_stay : (b : ℕ) → Same (TopWait b) S T
    waits_stay b = λ x at. pending x

-- ---- frames that move

-- how many items pass a test says whether some do
abbrev is_more : ℕ → Bool
is_more zero = false
is_more (suc n) = true

any_by : {T : Type 0} (p : T → Bool) (x : T) (xs : List T) (b : Bool) → p x ≡ b → list_any p xs ≡ is_more (count_by p xs) → list_any p (x ∷ xs) ≡ is_more (count_by p (x ∷ xs))
any_by p x xs true e rest = ap (λ b. b || list_any p xs) e ∙ sym (ap is_more (count_yes p x xs e))
any_by p x xs false e rest = ap (λ b. b || list_any p xs) e ∙ rest ∙ sym (ap is_more (count_no p x xs e))

any_counts : {T : Type 0} (p : T → Bool) (xs : List T) → list_any p xs ≡ is_more (count_by p xs)
any_counts p [] = refl
any_counts p (x ∷ xs) = any_by p x xs (p x) refl (any_counts p xs)

filter_by : {T : Type 0} (p : T → Bool) (x : T) (xs : List T) (b : Bool) → p x ≡ b → length (filter p xs) ≡ count_by p xs → length (filter p (x ∷ xs)) ≡ count_by p (x ∷ xs)
filter_by p x xs true e rest = ap (λ b. length (if b then x ∷ filter p xs else filter p xs)) e ∙ ap suc rest ∙ sym (count_yes p x xs e)
filter_by p x xs false e rest = ap (λ b. length (if b then x ∷ filter p xs else filter p xs)) e ∙ rest ∙ sym (count_no p x xs e)

filter_counts : {T : Type 0} (p : T → Bool) (xs : List T) → length (filter p xs) ≡ count_by p xs
filter_counts p [] = refl
filter_counts p (x ∷ xs) = filter_by p x xs (p x) refl (filter_counts p xs)

-- the frames are the same, and each is there as often
module _ {A : Type 0} (S T : State A) (frames : S.cpus.frames ≡ T.cpus.frames) (counted : (p : ℕ → Bool) → count_by p (all_frames T.cpus) ≡ count_by p (all_frames S.cpus)) where
  any_moved : (p : ℕ → Bool) → list_any p (all_frames S.cpus) ≡ list_any p (all_frames T.cpus)
  any_moved p = any_counts p (all_frames S.cpus) ∙ sym (ap is_more (counted p)) ∙ sym (any_counts p (all_frames T.cpus))

  on_moved : (p : ℕ → Bool) → length (filter p (all_frames S.cpus)) ≡ length (filter p (all_frames T.cpus))
  on_moved p = filter_counts p (all_frames S.cpus) ∙ sym (counted p) ∙ sym (filter_counts p (all_frames T.cpus))

  pub objects_move : Same RunningObjects S T
  objects_move = (
    (λ o. ap (λ n. n == 0) (on_moved (λ x. (frame_of S.cpus x).object.id.0 == o)) ∙ (λ i. length (filter (λ x. (entry no_frame (frames i) x).frame.object.id.0 == o) (all_frames T.cpus)) == 0)),
    (λ c d. any_moved (λ x. same_callback (frame_of S.cpus x).callback c && (frame_of S.cpus x).device.id.0 == d)
        ∙ (λ i. list_any (λ x. same_callback (entry no_frame (frames i) x).frame.callback c && (entry no_frame (frames i) x).frame.device.id.0 == d) (all_frames T.cpus))),
  )

  pub waited_move : Same WaitedObjects S T
  waited_move = λ o. any_moved (λ x. waits_for o (frame_of S.cpus x).pending) ∙ (λ i. list_any (λ x. waits_for o (entry no_frame (frames i) x).frame.pending) (all_frames T.cpus))

-- ---- one frame changes

module _ (C : Cpus) (f : ℕ) (frame : Frame) where
  changed_by : {X : Type 0} (g : Running → X) → g (running C f) ≡ g (record (running C f) { frame = frame }) → (x : ℕ) → (x ≡ f) ⊎ (x ≢ f) → g (running C x) ≡ g (running (cpus.change C f frame) x)
  changed_by g h x (inl e) = ap (λ y. g (running C y)) e ∙ h ∙ sym (ap g (entry_put_same no_frame C.frames f (record (running C f) { frame = frame }))) ∙ sym (ap (λ y. g (running (cpus.change C f frame) y)) e)
  changed_by g h x (inr n) = sym (ap g (entry_put_other no_frame C.frames f x (record (running C f) { frame = frame }) n))

  pub change_reads : {X : Type 0} (g : Running → X) → g (running C f) ≡ g (record (running C f) { frame = frame }) → (x : ℕ) → g (running C x) ≡ g (running (cpus.change C f frame) x)
  change_reads g h x = changed_by g h x (one_or_two x f)

  -- the frame is on the same object, as the same callback
  pub change_calm : (frame_of C f).callback ≡ frame.callback → (frame_of C f).object ≡ frame.object → (frame_of C f).device ≡ frame.device → Calm C (cpus.change C f frame)
  change_calm c o d = record {
    stacks = refl;
    parked = refl;
    level = change_reads (λ r. r.level) refl;
    callback = change_reads (λ r. r.frame.callback) c;
    object = change_reads (λ r. r.frame.object) o;
    device = change_reads (λ r. r.frame.device) d;
  }

  pub change_beside : (cpu : ℕ) → Beside cpu f C (cpus.change C f frame)
  change_beside cpu = record {
    stacks = λ b n. refl;
    others = λ x n. sym (entry_put_other no_frame C.frames f x (record (running C f) { frame = frame }) n);
    levels = λ x n. refl;
  }

-- ---- the processors are as they were

module _ {A : Type 0} (S T : State A) (same : S.cpus ≡ T.cpus) where
  pub still_processor : (b : ℕ) → Same (Processor b) S T
  still_processor b = (ap (λ C. stack_of C b) same, ap (λ C. cpus.irql C b) same)

  pub still_frames : (x : ℕ) → frame_of S.cpus x ≡ frame_of T.cpus x
  still_frames x = ap (λ C. frame_of C x) same

  pub still_objects : Same RunningObjects S T
  still_objects = ((λ o. ap (λ C. nobody_on C o) same), (λ c d. ap (λ C. is_running C c d) same))

  pub still_waits : Same WaitedObjects S T
  still_waits = λ o. ap (λ C. list_any (λ x. waits_for o (frame_of C x).pending) (all_frames C)) same
