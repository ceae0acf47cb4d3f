-- What stays where a frame comes to a processor, or leaves it.
use Rattle.std.proofs.Common.{if◌then◌else◌, ◌≡◌, ◌≢◌, ◌≤◌, ℕ, ◌+◌, Bool, true, false, not, ◌==◌, ◌||◌, List, [], ◌∷◌, ◌++◌, drop, filter, map, Some, refl, ap, sym, ◌∙◌, arith}
use Rattle.std.proofs.lemmas.Bool.{eqb-true}
use Rattle.std.specs.List.{flat_map, list_all}
use Rattle.wdf_base.specs.Meaning.{Meaning}
use Rattle.wdf_base.specs.declared.plan.Plan.{Plan}
use Rattle.wdf_base.specs.declared.event.Event.{Event}
use Rattle.wdf_base.specs.declared.frame.Frame.{Frame}
use Rattle.wdf_model.specs.State.{State}
use Rattle.wdf_model.specs.Tables.{contains, entry, first_of_list, flag}
use Rattle.wdf_model.specs.declared.deed.Deed.{Deed}
use Rattle.wdf_model.specs.declared.entries.HeldLevel.{HeldLevel}
use Rattle.wdf_model.specs.parts.Cpus as cpus
use Rattle.wdf_model.specs.parts.Cpus.{Cpus, levels_without, no_frame, stack_of, top, without_frame}
use Rattle.wdf_model.specs.rules.Deeds.{counted, do_deed, do_deeds}
use Rattle.wdf_model.proofs.Counts.{count_behind, equal, not_equal}
use Rattle.wdf_model.proofs.FrameCounts.{contained, on}
use Rattle.wdf_model.proofs.Maps.{entry_put_other}
use Rattle.wdf_model.proofs.Tests.{either_false}
use Rattle.law_machine_counts.proofs.StepStates.{in_turn}
use Rattle.law_machine_base.specs.OverRuns.{FramesAgree}
use Rattle.law_machine_counts.proofs.FrameMoves.{pop_on}
use Rattle.law_machine_lives.proofs.ReasonsOfEvents.{off_by_top, top_on}
use Rattle.law_touched.specs.Touched.{Piece, Processor, TopFrame, TopWait, RunningObjects, WaitedObjects, ParkedFrames, AgentStates, changed_by, changed_on, has_piece}
use Rattle.law_touched.proofs.Fields.{all_quiet_by, is_quiet}
use Rattle.law_touched.proofs.Frames.{Beside, IsAlone, other_processor, other_top, other_wait, parked_stay}
use Rattle.law_touched.proofs.Pieces.{parts_stay}
use Rattle.law_touched.proofs.Same.{Same}

pub apart_from : (b cpu : ℕ) (rest : Bool) → ((b == cpu) || rest) ≡ false → b ≢ cpu
apart_from b cpu rest h = λ same. let none = either_false (b == cpu) rest h in let no : (b == cpu) ≡ false = none.0 in let yes : (b == cpu) ≡ true = equal b cpu same in let z : ⊥ = cc in z

-- ---- a frame comes, ends, is parked and comes back

-- the levels of a frame without those of another
kept_by : (f x : ℕ) (l : HeldLevel) (ls ks : List HeldLevel) (b : Bool) → x ≢ f → (l.frame.0 == f) ≡ b → filter (λ (k : HeldLevel). k.frame.0 == x) ls ≡ filter (λ (k : HeldLevel). k.frame.0 == x) ks
    → filter (λ (k : HeldLevel). k.frame.0 == x) (l ∷ ls) ≡ filter (λ (k : HeldLevel). k.frame.0 == x) (if not b then l ∷ ks else ks)
kept_by f x l ls ks true n is rest =
    let it : l.frame.0 ≡ f = eqb-true l.frame.0 f is in
    let no_one : (l.frame.0 == x) ≡ false = not_equal l.frame.0 x (λ same. n (sym same ∙ it)) in
    rw no_one rest
kept_by f x l ls ks false n is rest = λ i. if l.frame.0 == x then l ∷ rest i else rest i

kept_levels : (f x : ℕ) → x ≢ f → (ls : List HeldLevel) → filter (λ (k : HeldLevel). k.frame.0 == x) ls ≡ filter (λ (k : HeldLevel). k.frame.0 == x) (filter (λ (k : HeldLevel). not (k.frame.0 == f)) ls)
kept_levels f x n [] = refl
kept_levels f x n (l ∷ ls) = kept_by f x l ls (filter (λ (k : HeldLevel). not (k.frame.0 == f)) ls) (l.frame.0 == f) n refl (kept_levels f x n ls)

module _ (C : Cpus) (cpu : ℕ) where
  pub push_beside : (f : ℕ) (frame : Frame) (level : ℕ) → Beside cpu f C (cpus.push C cpu f frame level)
  push_beside f frame level = record {
    stacks = λ b n. sym (entry_put_other [] C.stacks cpu b (f ∷ stack_of C cpu) n);
    others = λ x n. sym (entry_put_other no_frame C.frames f x (record { frame = frame; level = record { 0 = level } }) n);
    levels = λ x n. refl;
  }

  pub pop_beside : (f : ℕ) → top C cpu ≡ Some f → Beside cpu f C (cpus.pop C cpu)
  pop_beside f at = record {
    stacks = λ b n. sym (entry_put_other [] C.stacks cpu b (drop 1 (stack_of C cpu)) n);
    others = λ x n. sym (ap (λ o. entry no_frame (without_frame C o) x) at ∙ entry_put_other no_frame C.frames f x no_frame n);
    levels = λ x n. ap (map (λ (l : HeldLevel). l.level.0)) (kept_levels f x n C.levels ∙ ap (λ o. filter (λ (k : HeldLevel). k.frame.0 == x) (levels_without C o)) (sym at));
  }

  pub park_beside : (f : ℕ) → Beside cpu f C (cpus.park C cpu)
  park_beside f = record { stacks = λ b n. sym (entry_put_other [] C.stacks cpu b (drop 1 (stack_of C cpu)) n); others = λ x n. refl; levels = λ x n. refl }

  pub unpark_beside : (f g : ℕ) → Beside cpu f C (cpus.unpark C cpu g)
  unpark_beside f g = record { stacks = λ b n. sym (entry_put_other [] C.stacks cpu b (g ∷ stack_of C cpu) n); others = λ x n. refl; levels = λ x n. refl }

-- ---- frames that are alone

-- a frame that is there once is on top of one processor
two_tops : (C : Cpus) (a b f : ℕ) → on C f ≤ 1 → top C a ≡ Some f → top C b ≡ Some f → a ≢ b → ⊥
two_tops C a b f once ta tb n =
    let still : top (cpus.pop C a) b ≡ Some f = ap first_of_list (entry_put_other [] C.stacks a b (drop 1 (stack_of C a)) (λ same. n (sym same))) ∙ tb in
    let left = top_on (cpus.pop C a) b f still in
    let went = pop_on C a f ta f in
    let it : flag (f == f) ≡ 1 = ap flag (equal f f refl) in
    omega arith

parked_on : (C : Cpus) (f : ℕ) → contains f C.parked ≡ true → 1 ≤ on C f
parked_on C f is =
    let some = contained f C.parked is in
    let all = count_behind (λ x. x == f) (flat_map (λ fs. fs) C.stacks) C.parked in
    omega arith

module _ {A : Type 0} (S : State A) (agree : FramesAgree S) where
  pub top_alone : (cpu f : ℕ) → top S.cpus cpu ≡ Some f → IsAlone cpu f S.cpus
  top_alone cpu f at = record {
    tops = λ b x other there same. two_tops S.cpus b cpu f (agree.once f) (there ∙ ap Some same) at other;
    parked = λ x is same.
        let no : contains f S.cpus.parked ≡ false = off_by_top S.cpus cpu f at (agree.once f) in
        let yes : contains f S.cpus.parked ≡ true = sym (ap (λ y. contains y S.cpus.parked) same) ∙ is in
        let z : ⊥ = cc in z;
  }

  pub new_alone : (cpu : ℕ) → IsAlone cpu (S.number + 1) S.cpus
  new_alone cpu = record {
    tops = λ b x other there same. let low = agree.numbered x (top_on S.cpus b x there) in omega arith;
    parked = λ x is same. let low = agree.numbered x (parked_on S.cpus x is) in omega arith;
  }

-- ---- what stays

module _ {A : Type 0} (plan : Plan) (m : Meaning A) (S : State A) (cpu f : ℕ) (e : Event) (ds : List Deed) (lone : IsAlone cpu f S.cpus) (only : Beside cpu f S.cpus (do_deeds plan ds S).cpus) where
  abbrev then_ : State A
  then_ = counted m e (do_deeds plan ds S)

  -- what no deed changes isn't among these
  abbrev has_all : List Piece → Type 0
  has_all pieces = (p : Piece) → has_piece p (flat_map (changed_by cpu) ds) ≡ false → has_piece p pieces ≡ false

  -- where the event's list begins with what changes on a processor
  pub comes_stay : S.cpus.parked ≡ (do_deeds plan ds S).cpus.parked → (p : Piece) → has_piece p (changed_on cpu ++ AgentStates ∷ flat_map (changed_by cpu) ds) ≡ false → Same p S then_
  comes_stay parked (Processor b) h = other_processor S then_ cpu f only lone b (apart_from b cpu _ h)
  comes_stay parked (TopFrame b) h = other_top S then_ cpu f only lone b (apart_from b cpu _ h)
  comes_stay parked (TopWait b) h = other_wait S then_ cpu f only lone b (apart_from b cpu _ h)
  comes_stay parked RunningObjects h = absurd (let z : ⊥ = cc in z)
  comes_stay parked WaitedObjects h = absurd (let z : ⊥ = cc in z)
  comes_stay parked ParkedFrames h = parked_stay S then_ cpu f only lone parked
  comes_stay parked AgentStates h = absurd (let z : ⊥ = cc in z)
  comes_stay parked p h = parts_stay plan m cpu e ds S p refl h

  -- where it leaves each frame on its object, and waiting, and parks one or brings it back
  pub parks_stay : Same RunningObjects S then_ → Same WaitedObjects S then_ → has_all (Processor cpu ∷ TopFrame cpu ∷ TopWait cpu ∷ ParkedFrames ∷ []) → (p : Piece) → has_piece p (AgentStates ∷ flat_map (changed_by cpu) ds) ≡ false → Same p S then_
  parks_stay objects waited is (Processor b) h = other_processor S then_ cpu f only lone b (apart_from b cpu _ (is (Processor b) h))
  parks_stay objects waited is (TopFrame b) h = other_top S then_ cpu f only lone b (apart_from b cpu _ (is (TopFrame b) h))
  parks_stay objects waited is (TopWait b) h = other_wait S then_ cpu f only lone b (apart_from b cpu _ (is (TopWait b) h))
  parks_stay objects waited is RunningObjects h = objects
  parks_stay objects waited is WaitedObjects h = waited
  parks_stay objects waited is ParkedFrames h = absurd (let none = is ParkedFrames h in let z : ⊥ = cc in z)
  parks_stay objects waited is AgentStates h = absurd (let z : ⊥ = cc in z)
  parks_stay objects waited is p h = parts_stay plan m cpu e ds S p refl h

-- ---- the processors after deeds of which one is of theirs

module _ {A : Type 0} (plan : Plan) (S : State A) where
  -- quiet deeds, one that does g to the processors, quiet deeds
  pub between_quiet : (g : Cpus → Cpus) (ds es : List Deed) (d : Deed) → ((U : State A) → (do_deed plan d U).cpus ≡ g U.cpus) → list_all is_quiet ds ≡ true → list_all is_quiet es ≡ true
      → g S.cpus ≡ (do_deeds plan (ds ++ d ∷ es) S).cpus
  between_quiet g ds es d does before behind =
      ap g (all_quiet_by plan ds S before) ∙ sym (does (do_deeds plan ds S)) ∙ all_quiet_by plan es (do_deed plan d (do_deeds plan ds S)) behind
      ∙ sym (ap (λ (U : State A). U.cpus) (in_turn plan ds (d ∷ es) S))
