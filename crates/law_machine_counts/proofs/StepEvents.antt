-- Starts and ends of callbacks keep the steps' callbacks in step with their frames.
use Rattle.std.proofs.Common.{◌≡◌, ℕ, ◌+◌, ◌==◌, ◌<◌, ◌≤◌, Bool, true, false, not, ◌&&◌, List, [], ◌∷◌, ◌++◌, inl, inr, Option, Some, None, length, refl, ap, sym, subst, ◌∙◌, arith}
use Rattle.std.proofs.lemmas.Bool.{cases_lt}
use Rattle.wdf_base.specs.Meaning.{Meaning}
use Rattle.wdf_base.specs.declared.plan.Plan.{Plan}
use Rattle.wdf_base.specs.declared.ids.Handle.{Handle}
use Rattle.wdf_base.specs.declared.value.Value.{Value}
use Rattle.wdf_base.specs.declared.call.Callback.{Callback}
use Rattle.wdf_base.specs.declared.call.Callback.TheVariants as callback
use Rattle.wdf_base.specs.declared.rank.Rank.{Rank}
use Rattle.wdf_base.specs.declared.rank.Rank.TheVariants as rank
use Rattle.wdf_base.specs.declared.frame.Frame.{Frame}
use Rattle.wdf_base.specs.Callbacks.{row_of}
use Rattle.wdf_base.specs.Same.{same_option, same_step}
use Rattle.wdf_base.specs.Lives.{is_gone}
use Rattle.wdf_model.specs.declared.entries.Node.{Node}
use Rattle.wdf_model.specs.Plans.{callback_irql}
use Rattle.wdf_model.specs.parts.Tree.{Tree, gone, life_of, nearest_device}
use Rattle.wdf_model.specs.parts.Cpus.{frame_of, top}
use Rattle.wdf_model.specs.Tables.{first_of_list, entry, flag}
use Rattle.wdf_model.specs.parts.Locks.{is_free_if_any, lock_of_callback}
use Rattle.wdf_model.specs.parts.Pnp as pnp
use Rattle.wdf_model.specs.parts.Pnp.{is_running_step, next_step}
use Rattle.law_machine_base.specs.Agreement.{is_sequence}
use Rattle.wdf_model.specs.State.{State, declared_in, declares_in}
use Rattle.wdf_model.specs.Ids.{cpu_of, frame_id, irql_of, object_id}
use Rattle.wdf_model.specs.declared.deed.Deed.{Deed}
use Rattle.wdf_model.specs.declared.deed.Deed.TheVariants.{EndStep, PopFrame, PushFrame, TakeStep}
use Rattle.wdf_model.specs.rules.Deeds.{do_deeds}
use Rattle.wdf_model.specs.rules.Starts.{effect, end_deeds, end_of_step, interrupt_of_step, is_ready_for, level_fits, life_fits, may_start, new_frame, rank_ready, rank_ready_for, release_if_any, start_deeds, start_effect, step_of, step_ready, take_if_any}
use Rattle.law_machine_base.specs.Fits.{all_fit, fits}
use Rattle.wdf_model.proofs.Maps.{entry_past}
use Rattle.wdf_model.proofs.Tests.{both_left, both_right, not_true}
use Rattle.wdf_model.proofs.Counts.{equal}
use Rattle.law_machine_base.proofs.OwnEvents.{IsEnd}
use Rattle.law_machine_counts.proofs.Trees.{cleaned_there}
use Rattle.law_machine_counts.proofs.StillDeeds.{all_still, releasing_none, start_none}
use Rattle.law_machine_counts.proofs.StillFrames.{Still, asked_there, deeds_still, live_there}
use Rattle.law_machine_counts.proofs.FrameMoves.{fresh, pop_on}
use Rattle.law_machine_counts.proofs.StepMoves.{ended_elsewhere, ended_here, other_begins, other_ends, step_begins, step_ends, taken_elsewhere, taken_runs}
use Rattle.law_machine_counts.proofs.StepStates.{StepsIn, begun, deeds_stay, ended_in, fit_after, fit_before, in_turn}
use Rattle.wdf_model.proofs.FrameCounts.{on}

-- ---- where a callback may start

pub lives_within : {A : Type 0} (S : State A) (c : Callback) (o : ℕ) → life_fits S c o ≡ true → is_gone (life_of S.tree o) ≡ false
lives_within S callback.EvtCleanupCallback o h = asked_there (life_of S.tree o) h
lives_within S callback.EvtDestroyCallback o h = cleaned_there (life_of S.tree o) h
lives_within S _ o h = live_there (life_of S.tree o) h

within_tree : (T : Tree) (o : ℕ) → is_gone (life_of T o) ≡ false → o < length T.nodes
within_tree T o h = elim (cases_lt o (length T.nodes)) [
  | inl l ↦ l
  | inr l ↦ absurd (let past : is_gone (life_of T o) ≡ true = ap (λ (n : Node). is_gone n.life) (entry_past gone T.nodes o l) in let z : ⊥ = cc in z)
]

pub sequence_is : (k : Rank) → is_sequence k ≡ true → k ≡ rank.Sequence
sequence_is rank.Sequence h = refl
sequence_is _ h = absurd (let z : ⊥ = cc in z)

-- ---- starts

module _ {A : Type 0} (plan : Plan) (m : Meaning A) (S : State A) (cpu : ℕ) (c : Callback) (o : Handle) where
  other_starts : (r : Option Handle) → is_sequence (row_of c).rank ≡ false → o.id.0 < length S.tree.nodes → all_fit plan (start_deeds plan S cpu c o r) S ≡ true
      → StepsIn S.number S.number S → StepsIn S.number (S.number + 1) (do_deeds plan (start_deeds plan S cpu c o r) S)
  other_starts r other within fit h =
      let ds : List Deed = start_effect plan S cpu c o.id.0 r in
      let frame : Frame = new_frame plan S c o r in
      let level : ℕ = callback_irql plan c o.id.0 in
      let es : List Deed = PushFrame (cpu_of cpu) (frame_id (S.number + 1)) frame (irql_of level) ∷ take_if_any (S.number + 1) (lock_of_callback plan c o.id.0 (declared_in plan S o.id.0)) in
      let U : State A = do_deeds plan ds S in
      let s : Still S U = deeds_still plan ds S (start_none plan S cpu c o.id.0 r other) (fit_before plan ds es S fit) in
      let hU : StepsIn S.number S.number U = deeds_stay plan ds S S.number S.number S.number (omega arith) (start_none plan S cpu c o.id.0 r other) (fit_before plan ds es S fit) h in
      subst (λ (V : State A). StepsIn S.number (S.number + 1) V) (sym (in_turn plan ds es S))
      (begun plan U S.number cpu frame level (lock_of_callback plan c o.id.0 (declared_in plan S o.id.0)) hU U.pnp
      (other_begins U.cpus cpu (S.number + 1) frame level (fresh U.cpus U.tree S.number (S.number + 1) hU.framed (omega arith)) U.pnp hU.stepping other)
      (sym (s.tree.nearest o.id.0 within)) (let longer = s.tree.longer in omega arith)
      (both_right true _ (fit_after plan ds es S fit)))

  step_starts : is_sequence (row_of c).rank ≡ true → o.id.0 < length S.tree.nodes → step_ready S (nearest_device S.tree o.id.0) (step_of plan S c o.id.0) ≡ true
      → all_fit plan (start_deeds plan S cpu c o None) S ≡ true
      → StepsIn S.number S.number S → StepsIn S.number (S.number + 1) (do_deeds plan (start_deeds plan S cpu c o None) S)
  step_starts is within ready fit h =
      let d : ℕ = nearest_device S.tree o.id.0 in
      let frame : Frame = new_frame plan S c o None in
      let level : ℕ = callback_irql plan c o.id.0 in
      let es : List Deed = PushFrame (cpu_of cpu) (frame_id (S.number + 1)) frame (irql_of level) ∷ take_if_any (S.number + 1) (lock_of_callback plan c o.id.0 (declared_in plan S o.id.0)) in
      let e : start_effect plan S cpu c o.id.0 None ≡ TakeStep (object_id d) ∷ [] = ap (λ k. effect plan S k cpu c o.id.0) (sequence_is (row_of c).rank is) in
      let now : (same_option same_step (next_step S.pnp d) (Some (step_of plan S c o.id.0)) && not (is_running_step S.pnp d)) ≡ true
      = both_left (same_option same_step (next_step S.pnp d) (Some (step_of plan S c o.id.0)) && not (is_running_step S.pnp d)) _ ready in
      let next : same_option same_step (next_step S.pnp d) (Some (step_of plan S c o.id.0)) ≡ true = both_left _ (not (is_running_step S.pnp d)) now in
      let idle : is_running_step S.pnp d ≡ false = not_true (is_running_step S.pnp d) (both_right (same_option same_step (next_step S.pnp d) (Some (step_of plan S c o.id.0))) (not (is_running_step S.pnp d)) now) in
      let fit_too : all_fit plan (TakeStep (object_id d) ∷ es) S ≡ true = subst (λ (ds : List Deed). all_fit plan (ds ++ es) S ≡ true) e fit in
      subst (λ (ds : List Deed). StepsIn S.number (S.number + 1) (do_deeds plan (ds ++ es) S)) (sym e)
      (begun plan S S.number cpu frame level (lock_of_callback plan c o.id.0 (declared_in plan S o.id.0)) h (pnp.taken S.pnp d)
      (step_begins S.cpus cpu (S.number + 1) frame level (fresh S.cpus S.tree S.number (S.number + 1) h.framed (omega arith)) S.pnp (pnp.taken S.pnp d) d h.stepping idle
      (taken_runs S.pnp d c (interrupt_of_step plan S o.id.0) next) (taken_elsewhere S.pnp d) is refl)
      refl within
      (both_right (fits plan (TakeStep (object_id d)) S) _ fit_too))

  no_step_for : (k : Rank) (r : ℕ) → is_sequence k ≡ true → rank_ready_for plan S k c o.id.0 r ≡ true → ⊥
  no_step_for rank.Sequence r h k = cc
  no_step_for _ r h k = cc

  starts_by : (r : Option Handle) (b : Bool) → is_sequence (row_of c).rank ≡ b → o.id.0 < length S.tree.nodes → is_ready_for plan m S cpu c o.id.0 r ≡ true → all_fit plan (start_deeds plan S cpu c o r) S ≡ true
      → StepsIn S.number S.number S → StepsIn S.number (S.number + 1) (do_deeds plan (start_deeds plan S cpu c o r) S)
  starts_by r false is within ready fit h = other_starts r is within fit h
  starts_by None true is within ready fit h = step_starts is within (sym (ap (λ k. rank_ready plan m S k cpu c o.id.0) (sequence_is (row_of c).rank is)) ∙ ready) fit h
  starts_by (Some r) true is within ready fit h = absurd (no_step_for (row_of c).rank r.id.0 is ready)

  pub starts : (r : Option Handle) → may_start plan m S cpu c o.id.0 r ≡ true → all_fit plan (start_deeds plan S cpu c o r) S ≡ true
      → StepsIn S.number S.number S → StepsIn S.number (S.number + 1) (do_deeds plan (start_deeds plan S cpu c o r) S)
  starts r h fit k =
      let declares_ : Bool = declares_in plan S c o.id.0 in
      let lives : Bool = life_fits S c o.id.0 in
      let level : Bool = level_fits S cpu (callback_irql plan c o.id.0) in
      let free : Bool = is_free_if_any S.locks (lock_of_callback plan c o.id.0 (declared_in plan S o.id.0)) in
      let ready : Bool = is_ready_for plan m S cpu c o.id.0 r in
      starts_by r (is_sequence (row_of c).rank) refl
      (within_tree S.tree o.id.0 (lives_within S c o.id.0 (both_right declares_ lives (both_left (declares_ && lives) level (both_left (declares_ && lives && level) free (both_left (declares_ && lives && level && free) ready h))))))
      (both_right (declares_ && lives && level && free) ready h) fit k

-- ---- ends

no_end : {A : Type 0} (plan : Plan) (S : State A) (k : Rank) (c : Callback) (o : ℕ) (v : Value) → is_sequence k ≡ false → end_of_step plan S k c o v ≡ []
no_end plan S rank.Sequence c o v h = absurd (let z : ⊥ = cc in z)
no_end plan S _ c o v h = refl

module _ {A : Type 0} (plan : Plan) (S : State A) (cpu : ℕ) (c : Callback) (o : Handle) (v : Value) (t : IsEnd plan S cpu c o v) (N : ℕ) (h : StepsIn N N S) where
  ends_by : (b : Bool) → is_sequence (row_of c).rank ≡ b → (U : State A) → Still S U → StepsIn N N U → StepsIn N (N + 1) (do_deeds plan (PopFrame (cpu_of cpu) ∷ end_of_step plan S (row_of c).rank c o.id.0 v) U)
  ends_by false is U s hU =
      let f : ℕ = t.frame in
      let is_top : top U.cpus cpu ≡ Some f = ap (λ ss. first_of_list (entry [] ss cpu)) s.stacks ∙ t.about.top in
      let same : is_sequence (row_of (frame_of U.cpus f).callback).rank ≡ is_sequence (row_of c).rank = ap (λ (a : Frame). is_sequence (row_of a.callback).rank) (s.frames f) ∙ ap (λ b. is_sequence (row_of b).rank) (sym t.callback) in
      subst (λ ds. StepsIn N (N + 1) (do_deeds plan (PopFrame (cpu_of cpu) ∷ ds) U)) (sym (no_end plan S (row_of c).rank c o.id.0 v is))
      (ended_in U cpu f N N (N + 1) (omega arith) hU is_top U.pnp (other_ends U.cpus cpu f is_top (hU.framed.once f) U.pnp hU.stepping (same ∙ is)))
  ends_by true is U s hU =
      let f : ℕ = t.frame in
      let d : ℕ = nearest_device S.tree o.id.0 in
      let is_top : top U.cpus cpu ≡ Some f = ap (λ ss. first_of_list (entry [] ss cpu)) s.stacks ∙ t.about.top in
      let same : is_sequence (row_of (frame_of U.cpus f).callback).rank ≡ is_sequence (row_of c).rank = ap (λ (a : Frame). is_sequence (row_of a.callback).rank) (s.frames f) ∙ ap (λ b. is_sequence (row_of b).rank) (sym t.callback) in
      let there : 1 ≤ on S.cpus f = let e = pop_on S.cpus cpu f t.about.top f in let yes : flag (f == f) ≡ 1 = ap flag (equal f f refl) in omega arith in
      let at : (frame_of U.cpus f).device.id.0 ≡ d = ap (λ (a : Frame). a.device.id.0) (s.frames f) ∙ h.framed.known f there ∙ ap (λ (x : Handle). nearest_device S.tree x.id.0) (sym t.object) in
      let e : end_of_step plan S (row_of c).rank c o.id.0 v ≡ EndStep (object_id d) (step_of plan S c o.id.0) v ∷ [] = ap (λ k. end_of_step plan S k c o.id.0 v) (sequence_is (row_of c).rank is) in
      subst (λ ds. StepsIn N (N + 1) (do_deeds plan (PopFrame (cpu_of cpu) ∷ ds) U)) (sym e)
      (ended_in U cpu f N N (N + 1) (omega arith) hU is_top (pnp.ended U.pnp d (step_of plan S c o.id.0) v)
      (step_ends U.cpus cpu f is_top (hU.framed.once f) U.pnp (pnp.ended U.pnp d (step_of plan S c o.id.0) v) d hU.stepping
      (ended_here U.pnp d (step_of plan S c o.id.0) v) (ended_elsewhere U.pnp d (step_of plan S c o.id.0) v) (same ∙ is) at))

  pub ends : all_fit plan (end_deeds plan S cpu c o.id.0 v) S ≡ true → StepsIn N (N + 1) (do_deeds plan (end_deeds plan S cpu c o.id.0 v) S)
  ends fit =
      let ds : List Deed = release_if_any (lock_of_callback plan c o.id.0 (declared_in plan S o.id.0)) in
      let es : List Deed = PopFrame (cpu_of cpu) ∷ end_of_step plan S (row_of c).rank c o.id.0 v in
      let none : all_still ds ≡ true = releasing_none (lock_of_callback plan c o.id.0 (declared_in plan S o.id.0)) in
      let first : all_fit plan ds S ≡ true = fit_before plan ds es S fit in
      subst (λ (V : State A). StepsIn N (N + 1) V) (sym (in_turn plan ds es S))
      (ends_by (is_sequence (row_of c).rank) refl (do_deeds plan ds S) (deeds_still plan ds S none first) (deeds_stay plan ds S N N N (omega arith) none first h))
