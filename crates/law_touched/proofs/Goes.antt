-- What stays where the top frame of a processor goes on.
use Rattle.std.proofs.Common.{◌≡◌, ◌≢◌, ℕ, true, false, ◌==◌, List, [], ◌∷◌, ◌++◌, ◌⊎◌, inl, inr, refl, ap, sym, subst, ◌∙◌}
use Rattle.std.specs.List.{flat_map, list_all}
use Rattle.wdf_base.specs.Meaning.{Meaning}
use Rattle.wdf_base.specs.declared.plan.Plan.{Plan}
use Rattle.wdf_base.specs.declared.event.Event.{Event}
use Rattle.wdf_base.specs.declared.frame.Frame.{Frame}
use Rattle.wdf_model.specs.Ids.{frame_id}
use Rattle.wdf_model.specs.State.{State}
use Rattle.wdf_model.specs.Tables.{entry}
use Rattle.wdf_model.specs.declared.deed.Deed.{Deed}
use Rattle.wdf_model.specs.declared.deed.Deed.TheVariants.{GoOn}
use Rattle.wdf_model.specs.parts.Cpus as cpus
use Rattle.wdf_model.specs.parts.Cpus.{Cpus, frame_of, no_frame}
use Rattle.wdf_model.specs.rules.Deeds.{counted, do_deeds}
use Rattle.wdf_model.proofs.Counts.{equal, one_or_two}
use Rattle.law_machine_counts.proofs.FrameMoves.{FrameKept}
use Rattle.law_machine_counts.proofs.StepStates.{in_turn}
use Rattle.law_touched.specs.Touched.{Piece, Processor, TopFrame, TopWait, RunningObjects, WaitedObjects, ParkedFrames, AgentStates, changed_by, has_piece, same_piece}
use Rattle.law_touched.proofs.Fields.{all_by, all_levels_of, frames_by, is_of_frame, levels_by, parked_at_by, stacks_at_by}
use Rattle.law_touched.proofs.Frames.{Beside, Calm, IsAlone, change_beside, change_calm, change_reads, objects_stay, other_processor, other_top, other_wait, parked_stay, processor_stays, waited_stay, waits_stay}
use Rattle.law_touched.proofs.Pieces.{parts_stay}
use Rattle.law_touched.proofs.Same.{Same}

not_it : (b cpu : ℕ) → (b == cpu) ≡ false → b ≢ cpu
not_it b cpu h = λ same. let yes : (b == cpu) ≡ true = equal b cpu same in let z : ⊥ = cc in z

module _ {A : Type 0} (plan : Plan) (m : Meaning A) (S : State A) (cpu f : ℕ) (lone : IsAlone cpu f S.cpus) (e : Event) (before : List Deed) (frame : Frame)
    (kept : FrameKept (frame_of S.cpus f) frame) (only : list_all (is_of_frame f) before ≡ true) (none : has_piece (TopFrame cpu) (flat_map (changed_by cpu) before) ≡ false) where
  abbrev all_deeds : List Deed
  all_deeds = before ++ GoOn (frame_id f) frame ∷ []

  abbrev then_ : State A
  then_ = counted m e (do_deeds plan all_deeds S)

  -- the processors when the frame is about to go on
  abbrev U : Cpus
  U = (do_deeds plan before S).cpus

  stacks : S.cpus.stacks ≡ U.stacks
  stacks = all_by plan cpu (λ (V : State A). V.cpus.stacks) (TopFrame cpu) (stacks_at_by plan cpu) before S none

  frames : S.cpus.frames ≡ U.frames
  frames = all_by plan cpu (λ (V : State A). V.cpus.frames) (TopFrame cpu) (frames_by plan cpu) before S none

  parked : S.cpus.parked ≡ U.parked
  parked = all_by plan cpu (λ (V : State A). V.cpus.parked) (TopFrame cpu) (parked_at_by plan cpu) before S none

  goes : cpus.change U f frame ≡ then_.cpus
  goes = sym (ap (λ (V : State A). V.cpus) (in_turn plan before (GoOn (frame_id f) frame ∷ []) S))

  calm_step : Calm U (cpus.change U f frame)
  calm_step =
      change_calm U f frame
      (sym (ap (λ fs. (entry no_frame fs f).frame.callback) frames) ∙ sym kept.callback)
      (sym (ap (λ fs. (entry no_frame fs f).frame.object) frames) ∙ sym kept.object)
      (sym (ap (λ fs. (entry no_frame fs f).frame.device) frames) ∙ sym kept.device)

  calm : Calm S.cpus then_.cpus
  calm = subst (λ C. Calm S.cpus C) goes (record {
    stacks = stacks ∙ calm_step.stacks;
    parked = parked ∙ calm_step.parked;
    level = λ x. ap (λ fs. (entry no_frame fs x).level) frames ∙ calm_step.level x;
    callback = λ x. ap (λ fs. (entry no_frame fs x).frame.callback) frames ∙ calm_step.callback x;
    object = λ x. ap (λ fs. (entry no_frame fs x).frame.object) frames ∙ calm_step.object x;
    device = λ x. ap (λ fs. (entry no_frame fs x).frame.device) frames ∙ calm_step.device x;
  })

  beside : Beside cpu f S.cpus then_.cpus
  beside = subst (λ C. Beside cpu f S.cpus C) goes (record {
    stacks = λ b n. ap (λ fs. entry [] fs b) stacks;
    others = λ x n. ap (λ fs. entry no_frame fs x) frames ∙ (change_beside U f frame cpu).others x n;
    levels = λ x n. all_levels_of plan f x n before S only;
  })

  processor_by : (b : ℕ) → (b ≡ cpu) ⊎ (b ≢ cpu) → has_piece (Processor b) (flat_map (changed_by cpu) all_deeds) ≡ false → Same (Processor b) S then_
  processor_by b (inl same) h =
      processor_stays S then_ calm
      (all_by plan cpu (λ (V : State A). V.cpus.levels) (Processor cpu) (levels_by plan cpu) all_deeds S (sym (ap (λ x. has_piece (Processor x) (flat_map (changed_by cpu) all_deeds)) same) ∙ h)) b
  processor_by b (inr n) h = other_processor S then_ cpu f beside lone b n

  pending_after : (frame_of S.cpus f).pending ≡ frame.pending → (x : ℕ) → (frame_of S.cpus x).pending ≡ (frame_of then_.cpus x).pending
  pending_after same x =
      ap (λ fs. (entry no_frame fs x).frame.pending) frames
      ∙ change_reads U f frame (λ r. r.frame.pending) (sym (ap (λ fs. (entry no_frame fs f).frame.pending) frames) ∙ same) x
      ∙ ap (λ C. (frame_of C x).pending) goes

  -- a frame that waits for nothing, and for nothing afterwards
  pub idle_stays : (frame_of S.cpus f).pending ≡ frame.pending → (p : Piece) → same_piece p (TopFrame cpu) ≡ false → same_piece p AgentStates ≡ false → has_piece p (flat_map (changed_by cpu) all_deeds) ≡ false → Same p S then_
  idle_stays same (Processor b) t a h = processor_by b (one_or_two b cpu) h
  idle_stays same (TopFrame b) t a h = other_top S then_ cpu f beside lone b (not_it b cpu t)
  idle_stays same (TopWait b) t a h = waits_stay S then_ calm (pending_after same) b
  idle_stays same RunningObjects t a h = objects_stay S then_ calm
  idle_stays same WaitedObjects t a h = waited_stay S then_ calm (pending_after same)
  idle_stays same ParkedFrames t a h = parked_stay S then_ cpu f beside lone calm.parked
  idle_stays same AgentStates t a h = absurd (let z : ⊥ = cc in z)
  idle_stays same p t a h = parts_stay plan m cpu e all_deeds S p refl h

  -- a frame that begins to wait, or waits no more
  pub wait_stays : (p : Piece) → same_piece p (TopFrame cpu) ≡ false → same_piece p (TopWait cpu) ≡ false → same_piece p WaitedObjects ≡ false → same_piece p AgentStates ≡ false → has_piece p (flat_map (changed_by cpu) all_deeds) ≡ false → Same p S then_
  wait_stays (Processor b) t w o a h = processor_by b (one_or_two b cpu) h
  wait_stays (TopFrame b) t w o a h = other_top S then_ cpu f beside lone b (not_it b cpu t)
  wait_stays (TopWait b) t w o a h = other_wait S then_ cpu f beside lone b (not_it b cpu w)
  wait_stays RunningObjects t w o a h = objects_stay S then_ calm
  wait_stays WaitedObjects t w o a h = absurd (let z : ⊥ = cc in z)
  wait_stays ParkedFrames t w o a h = parked_stay S then_ cpu f beside lone calm.parked
  wait_stays AgentStates t w o a h = absurd (let z : ⊥ = cc in z)
  wait_stays p t w o a h = parts_stay plan m cpu e all_deeds S p refl h
