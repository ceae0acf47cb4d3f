-- What an event leaves as it was: each piece of the state that isn't in its row.
use Rattle.std.proofs.Common.{◌≡◌, ℕ, ◌+◌, Bool, true, false, ◌==◌, ◌&&◌, ◌||◌, List, [], ◌∷◌, ◌++◌, Option, Some, None, refl, ap, sym, subst}
use Rattle.std.specs.List.{flat_map, list_all}
use Rattle.wdf_base.specs.Meaning.{Meaning}
use Rattle.wdf_base.specs.Callbacks.{row_of}
use Rattle.wdf_base.specs.Same.{same_event, same_option}
use Rattle.wdf_base.specs.declared.plan.Plan.{Plan}
use Rattle.wdf_base.specs.declared.ids.Cpu.{Cpu}
use Rattle.wdf_base.specs.declared.ids.FrameId.{FrameId}
use Rattle.wdf_base.specs.declared.ids.Handle.{Handle}
use Rattle.wdf_base.specs.declared.call.Call.{Call}
use Rattle.wdf_base.specs.declared.call.Callback.{Callback}
use Rattle.wdf_base.specs.declared.event.Access.{Access}
use Rattle.wdf_base.specs.declared.event.Event.{Event}
use Rattle.wdf_base.specs.declared.event.Event.TheVariants as event
use Rattle.wdf_base.specs.declared.frame.Change.{Change}
use Rattle.wdf_base.specs.declared.frame.Change.TheVariants as change
use Rattle.wdf_base.specs.declared.frame.Frame.{Frame}
use Rattle.wdf_base.specs.declared.frame.Intent.{Intent}
use Rattle.wdf_base.specs.declared.frame.Intent.TheVariants as intent
use Rattle.wdf_base.specs.declared.script.Statement.{Statement}
use Rattle.wdf_base.specs.declared.value.Value.{Value}
use Rattle.wdf_base.specs.declared.value.Value.TheVariants.{Num}
use Rattle.wdf_model.specs.Ids.{cpu_of, frame_id, irql_of}
use Rattle.wdf_model.specs.Plans.{callback_irql}
use Rattle.wdf_model.specs.State.{State, declared_in}
use Rattle.wdf_model.specs.declared.deed.Deed.{Deed}
use Rattle.wdf_model.specs.declared.deed.Deed.TheVariants.{GoOn, PopFrame, PushFrame}
use Rattle.wdf_model.specs.parts.Cpus as cpus
use Rattle.wdf_model.specs.parts.Cpus.{Cpus, frame_of, irql, is_empty_cpu, top}
use Rattle.wdf_model.specs.parts.Locks.{lock_of_callback}
use Rattle.wdf_model.specs.rules.Calls.{outcome, second_deeds}
use Rattle.wdf_model.specs.rules.Deeds.{counted, do_deeds, told}
use Rattle.wdf_model.specs.rules.Script.{intent_of, statement_at}
use Rattle.wdf_model.specs.rules.Starts.{end_of_step, new_frame, next_number, release_if_any, start_effect, take_if_any}
use Rattle.wdf_model.specs.rules.Steps.{after, answered, at_next, by_top, changed as frame_changed, deeds, did_deeds, event_of_top, goes_on, is_cpu, is_own_event, may, may_park, may_unpark, spending, stepped, wait_is_over, waiting, waiting_deeds, waits_on, woke_deeds}
use Rattle.wdf_model.specs.Tables.{contains, same_id}
use Rattle.wdf_model.proofs.FrameCounts.{parked_once, parks, unparks}
use Rattle.wdf_model.proofs.Tests.{both_left, both_right, either_false}
use Rattle.law_machine_counts.proofs.FrameMoves.{FrameKept}
use Rattle.law_machine_base.specs.OverRuns.{FramesAgree}
use Rattle.law_machine_base.proofs.OwnEvents.{IsDid, did_tells}
use Rattle.law_machine_counts.proofs.NextFrames.{answered_kept, goes_on_kept, stepped_kept}
use Rattle.law_machine_counts.proofs.StepTable.{top_is}
use Rattle.law_machine_lives.proofs.LevelEvents.{idle_at}
use Rattle.law_machine_lives.proofs.ReasonsOfEvents.{spending_kept}
use Rattle.law_touched.specs.Touched.{Piece, Processor, TopFrame, TopWait, RunningObjects, WaitedObjects, ParkedFrames, AgentStates, changed, changed_by, has_piece, same_piece}
use Rattle.law_touched.proofs.Comes.{between_quiet, comes_stay, new_alone, park_beside, parks_stay, pop_beside, push_beside, top_alone, unpark_beside}
use Rattle.law_touched.proofs.Deeds.{all_quiet, did_frames, did_of, outcome_of, post_quiet, releasing_quiet, second_of, stage_quiet, start_quiet, step_quiet, taking_quiet, waiting_frames, woke_frames}
use Rattle.law_touched.proofs.Fields.{all_quiet_by, is_of_frame}
use Rattle.law_touched.proofs.Frames.{Beside, objects_move, still_frames, still_objects, still_processor, still_waits, waited_move}
use Rattle.law_touched.proofs.Goes.{idle_stays, wait_stays}
use Rattle.law_touched.proofs.Pieces.{parts_stay}
use Rattle.law_touched.proofs.Same.{Same}

-- ---- frames that go on wait for what they waited for

changed_pending : (a : Frame) (c : Change) → a.pending ≡ (frame_changed a c).pending
changed_pending a (change.Assign i v) = refl
changed_pending a change.Branch = refl
changed_pending a (change.Count depth left) = refl

stepped_pending : (a : Frame) (i : Intent) → a.pending ≡ (stepped a i).pending
stepped_pending a (intent.Local c next) = changed_pending a c
stepped_pending a _ = refl

at_next_pending : (a : Frame) (s : Option Statement) → a.pending ≡ (at_next a s).pending
at_next_pending a None = refl
at_next_pending a (Some s) = refl

goes_on_pending : (plan : Plan) (a : Frame) → a.pending ≡ (goes_on plan a).pending
goes_on_pending plan a = at_next_pending a (statement_at plan a)

none_of : (b : Bool) → b ≡ false → (b || false) ≡ false
none_of b h = rw h refl

module _ {A : Type 0} (plan : Plan) (m : Meaning A) (S : State A) where
  -- ---- events of no frame

  quiet_stays : (cpu : ℕ) (e : Event) (ds : List Deed) → all_quiet ds ≡ true → (p : Piece) → has_piece p (AgentStates ∷ flat_map (changed_by cpu) ds) ≡ false → Same p S (counted m e (do_deeds plan ds S))
  quiet_stays cpu e ds quiet (Processor b) h = still_processor S (counted m e (do_deeds plan ds S)) (all_quiet_by plan ds S quiet) b
  quiet_stays cpu e ds quiet (TopFrame b) h = λ x at. still_frames S (counted m e (do_deeds plan ds S)) (all_quiet_by plan ds S quiet) x
  quiet_stays cpu e ds quiet (TopWait b) h = λ x at. ap (λ (a : Frame). a.pending) (still_frames S (counted m e (do_deeds plan ds S)) (all_quiet_by plan ds S quiet) x)
  quiet_stays cpu e ds quiet RunningObjects h = still_objects S (counted m e (do_deeds plan ds S)) (all_quiet_by plan ds S quiet)
  quiet_stays cpu e ds quiet WaitedObjects h = still_waits S (counted m e (do_deeds plan ds S)) (all_quiet_by plan ds S quiet)
  quiet_stays cpu e ds quiet ParkedFrames h =
      (ap (λ (C : Cpus). C.parked) (all_quiet_by plan ds S quiet), λ x at. ap (λ (a : Frame). a.pending) (still_frames S (counted m e (do_deeds plan ds S)) (all_quiet_by plan ds S quiet) x))
  quiet_stays cpu e ds quiet AgentStates h = absurd (let z : ⊥ = cc in z)
  quiet_stays cpu e ds quiet p h = parts_stay plan m cpu e ds S p refl h

  -- ---- the top frame

  top_by : (k : Cpu) (e : Event) (o : Option ℕ) → top S.cpus k.0 ≡ o → is_own_event plan m S k e ≡ true → (f : ℕ) × (top S.cpus k.0 ≡ Some f)
  top_by k e None at h = absurd (let none : is_own_event plan m S k e ≡ false = ap (λ t. same_option same_event (event_of_top plan m S k.0 t) (Some e)) at in let z : ⊥ = cc in z)
  top_by k e (Some f) at h = (f, at)

  has_top : (k : Cpu) (e : Event) → is_own_event plan m S k e ≡ true → (f : ℕ) × (top S.cpus k.0 ≡ Some f)
  has_top k e h = top_by k e (top S.cpus k.0) refl h

  top_does : (k : Cpu) (f : ℕ) (does : ℕ → Frame → List Deed) → top S.cpus k.0 ≡ Some f → by_top S k.0 does ≡ does f (frame_of S.cpus f)
  top_does k f does at = ap (λ o. elim o as (λ _. List Deed) [
    | None ↦ []
    | Some x ↦ does x (frame_of S.cpus x)
  ]) at

  module _ (agree : FramesAgree S) where
    -- ---- events inside a frame

    module _ (k : Cpu) (f : ℕ) (at : top S.cpus k.0 ≡ Some f) (e : Event) (frame : Frame) (kept : FrameKept (frame_of S.cpus f) frame) (pending : (frame_of S.cpus f).pending ≡ frame.pending) where
      abbrev ds : List Deed
      ds = GoOn (frame_id f) frame ∷ []

      inside : (p : Piece) → same_piece p AgentStates ≡ false → has_piece p (TopFrame k.0 ∷ []) ≡ false → Same p S (counted m e (do_deeds plan ds S))
      inside p a h =
          idle_stays plan m S k.0 f (top_alone S agree k.0 f at) e [] frame kept refl refl pending p (let none = either_false (same_piece p (TopFrame k.0)) false h in none.0) a h

      -- the agents don't hear of it
      unheard : ((agents : List A) → agents ≡ told m e agents) → (p : Piece) → has_piece p (TopFrame k.0 ∷ []) ≡ false → Same p S (counted m e (do_deeds plan ds S))
      unheard deaf AgentStates h = deaf S.agents
      unheard deaf p h = inside p refl h

      heard : (p : Piece) → has_piece p (TopFrame k.0 ∷ AgentStates ∷ []) ≡ false → Same p S (counted m e (do_deeds plan ds S))
      heard p h =
          let one = either_false (same_piece p (TopFrame k.0)) (has_piece p (AgentStates ∷ [])) h in
          let two = either_false (same_piece p AgentStates) false one.1 in
          inside p two.0 (none_of (same_piece p (TopFrame k.0)) one.0)

    -- what stays after an event whose deeds are these
    abbrev StaysBy : Event → List Piece → List Deed → Type 0
    StaysBy e pieces ds = (p : Piece) → has_piece p pieces ≡ false → Same p S (counted m e (do_deeds plan ds S))

    -- ---- calls

    module _ (k : Cpu) (c : Call) (f : ℕ) (at : top S.cpus k.0 ≡ Some f) where
      did_stays : (e : Event) (v : Value) → (frame_of S.cpus f).pending ≡ None → StaysBy e (TopFrame k.0 ∷ AgentStates ∷ flat_map (changed_by k.0) (did_deeds plan S k.0 c v f (frame_of S.cpus f))) (did_deeds plan S k.0 c v f (frame_of S.cpus f))
      did_stays e v none p h =
          let one = either_false (same_piece p (TopFrame k.0)) (has_piece p (AgentStates ∷ flat_map (changed_by k.0) (did_deeds plan S k.0 c v f (frame_of S.cpus f)))) h in
          let two = either_false (same_piece p AgentStates) (has_piece p (flat_map (changed_by k.0) (did_deeds plan S k.0 c v f (frame_of S.cpus f)))) one.1 in
          idle_stays plan m S k.0 f (top_alone S agree k.0 f at) e ((outcome plan S k.0 f c).deeds ++ second_deeds f c) (answered plan (frame_of S.cpus f) v) (answered_kept plan (frame_of S.cpus f) v)
          (did_of plan S k.0 f c) (did_frames plan S k.0 f c) none p one.0 two.0 two.1

      waits_by : (e : Event) (before : List Deed) (frame : Frame) → FrameKept (frame_of S.cpus f) frame → list_all (is_of_frame f) before ≡ true → has_piece (TopFrame k.0) (flat_map (changed_by k.0) before) ≡ false
          → StaysBy e (TopFrame k.0 ∷ TopWait k.0 ∷ WaitedObjects ∷ AgentStates ∷ flat_map (changed_by k.0) (before ++ GoOn (frame_id f) frame ∷ [])) (before ++ GoOn (frame_id f) frame ∷ [])
      waits_by e before frame kept only no_frame p h =
          let rest = flat_map (changed_by k.0) (before ++ GoOn (frame_id f) frame ∷ []) in
          let one = either_false (same_piece p (TopFrame k.0)) (has_piece p (TopWait k.0 ∷ WaitedObjects ∷ AgentStates ∷ rest)) h in
          let two = either_false (same_piece p (TopWait k.0)) (has_piece p (WaitedObjects ∷ AgentStates ∷ rest)) one.1 in
          let three = either_false (same_piece p WaitedObjects) (has_piece p (AgentStates ∷ rest)) two.1 in
          let four = either_false (same_piece p AgentStates) (has_piece p rest) three.1 in
          wait_stays plan m S k.0 f (top_alone S agree k.0 f at) e before frame kept only no_frame p one.0 two.0 three.0 four.0 four.1

    -- ---- each kind of event

    -- a frame's own event by its deeds
    by_deeds : (k : Cpu) (f : ℕ) (e : Event) (does : ℕ → Frame → List Deed) (pieces : List Deed → List Piece) → top S.cpus k.0 ≡ Some f
        → StaysBy e (pieces (does f (frame_of S.cpus f))) (does f (frame_of S.cpus f)) → StaysBy e (pieces (by_top S k.0 does)) (by_top S k.0 does)
    by_deeds k f e does pieces at h = subst (λ (ds : List Deed). StaysBy e (pieces ds) ds) (sym (top_does k f does at)) h

    abbrev Stays : Event → Type 0
    Stays e = (p : Piece) → has_piece p (changed plan S e) ≡ false → Same p S (after plan m S e)

    local_stays : (k : Cpu) (line : ℕ) → is_own_event plan m S k (event.Local k line) ≡ true → Stays (event.Local k line)
    local_stays k line h =
        let t = has_top k (event.Local k line) h in
        by_deeds k t.0 (event.Local k line) (λ f frame. GoOn (frame_id f) (stepped frame (intent_of plan frame)) ∷ []) (λ ds. TopFrame k.0 ∷ []) t.1
        (unheard k t.0 t.1 (event.Local k line) (stepped (frame_of S.cpus t.0) (intent_of plan (frame_of S.cpus t.0))) (stepped_kept (frame_of S.cpus t.0) (intent_of plan (frame_of S.cpus t.0)))
        (stepped_pending (frame_of S.cpus t.0) (intent_of plan (frame_of S.cpus t.0))) (λ agents. refl))

    log_stays : (k : Cpu) (v : Value) → is_own_event plan m S k (event.Log k v) ≡ true → Stays (event.Log k v)
    log_stays k v h =
        let t = has_top k (event.Log k v) h in
        by_deeds k t.0 (event.Log k v) (λ f frame. GoOn (frame_id f) (goes_on plan frame) ∷ []) (λ ds. TopFrame k.0 ∷ []) t.1
        (unheard k t.0 t.1 (event.Log k v) (goes_on plan (frame_of S.cpus t.0)) (goes_on_kept plan (frame_of S.cpus t.0)) (goes_on_pending plan (frame_of S.cpus t.0)) (λ agents. refl))

    spend_stays : (k : Cpu) (n : ℕ) → is_own_event plan m S k (event.Spend k n) ≡ true → Stays (event.Spend k n)
    spend_stays k n h =
        let t = has_top k (event.Spend k n) h in
        by_deeds k t.0 (event.Spend k n) (λ f frame. GoOn (frame_id f) (spending plan S frame n) ∷ []) (λ ds. TopFrame k.0 ∷ AgentStates ∷ []) t.1
        (heard k t.0 t.1 (event.Spend k n) (spending plan S (frame_of S.cpus t.0) n) (spending_kept plan S (frame_of S.cpus t.0) n) (goes_on_pending plan (frame_of S.cpus t.0)))

    register_stays : (k : Cpu) (a : Access) (r v : ℕ) → is_own_event plan m S k (event.Register k a r v) ≡ true → Stays (event.Register k a r v)
    register_stays k a r v h =
        let t = has_top k (event.Register k a r v) h in
        by_deeds k t.0 (event.Register k a r v) (λ f frame. GoOn (frame_id f) (answered plan frame (Num v)) ∷ []) (λ ds. TopFrame k.0 ∷ AgentStates ∷ []) t.1
        (heard k t.0 t.1 (event.Register k a r v) (answered plan (frame_of S.cpus t.0) (Num v)) (answered_kept plan (frame_of S.cpus t.0) (Num v)) (idle_at plan m S k a r v h t.0 t.1))

    call_stays : (k : Cpu) (c : Call) (v : Value) → is_own_event plan m S k (event.Did k c v) ≡ true → Stays (event.Did k c v)
    call_stays k c v h =
        let d : IsDid plan S k.0 c v = did_tells plan m S k c v h in
        by_deeds k d.frame (event.Did k c v) (did_deeds plan S k.0 c v) (λ ds. TopFrame k.0 ∷ AgentStates ∷ flat_map (changed_by k.0) ds) d.about.top
        (did_stays k c d.frame d.about.top (event.Did k c v) v d.about.idle)

    waiting_stays : (k : Cpu) (c : Call) → is_own_event plan m S k (event.Waiting k c) ≡ true → Stays (event.Waiting k c)
    waiting_stays k c h =
        let t = has_top k (event.Waiting k c) h in
        by_deeds k t.0 (event.Waiting k c) (waiting_deeds plan S k.0 c) (λ ds. TopFrame k.0 ∷ TopWait k.0 ∷ WaitedObjects ∷ AgentStates ∷ flat_map (changed_by k.0) ds) t.1
        (waits_by k c t.0 t.1 (event.Waiting k c) (outcome plan S k.0 t.0 c).deeds (waiting (frame_of S.cpus t.0) c (outcome plan S k.0 t.0 c).answer) (record { callback = refl; object = refl; device = refl })
        (outcome_of plan S k.0 t.0 c) (waiting_frames plan S k.0 t.0 c))

    woke_stays : (k : Cpu) (c : Call) (v : Value) → is_own_event plan m S k (event.Woke k c v) ≡ true → Stays (event.Woke k c v)
    woke_stays k c v h =
        let t = has_top k (event.Woke k c v) h in
        by_deeds k t.0 (event.Woke k c v) (woke_deeds plan c v) (λ ds. TopFrame k.0 ∷ TopWait k.0 ∷ WaitedObjects ∷ AgentStates ∷ flat_map (changed_by k.0) ds) t.1
        (waits_by k c t.0 t.1 (event.Woke k c v) (second_deeds t.0 c) (answered plan (frame_of S.cpus t.0) v) (answered_kept plan (frame_of S.cpus t.0) v) (second_of plan S k.0 t.0 c) (woke_frames plan S k.0 t.0 c))

    start_stays : (k : Cpu) (c : Callback) (o : Handle) (r : Option Handle) → Stays (event.Start k c o r)
    start_stays k c o r =
        let frame = new_frame plan S c o r in
        let level = callback_irql plan c o.id.0 in
        let taking = take_if_any (next_number S) (lock_of_callback plan c o.id.0 (declared_in plan S o.id.0)) in
        let pushed : cpus.push S.cpus k.0 (next_number S) frame level ≡ (do_deeds plan (deeds plan S (event.Start k c o r)) S).cpus =
        between_quiet plan S (λ C. cpus.push C k.0 (next_number S) frame level) (start_effect plan S k.0 c o.id.0 r) taking (PushFrame (cpu_of k.0) (frame_id (next_number S)) frame (irql_of level)) (λ U. refl)
        (start_quiet plan S k.0 c o.id.0 r) (taking_quiet (next_number S) (lock_of_callback plan c o.id.0 (declared_in plan S o.id.0))) in
        comes_stay plan m S k.0 (S.number + 1) (event.Start k c o r) (deeds plan S (event.Start k c o r)) (new_alone S agree k.0)
        (subst (λ C. Beside k.0 (S.number + 1) S.cpus C) pushed (push_beside S.cpus k.0 (S.number + 1) frame level)) (ap (λ (C : Cpus). C.parked) pushed)

    end_stays : (k : Cpu) (c : Callback) (o : Handle) (v : Value) → is_own_event plan m S k (event.End k c o v) ≡ true → Stays (event.End k c o v)
    end_stays k c o v h =
        let t = has_top k (event.End k c o v) h in
        let lock = lock_of_callback plan c o.id.0 (declared_in plan S o.id.0) in
        let popped : cpus.pop S.cpus k.0 ≡ (do_deeds plan (deeds plan S (event.End k c o v)) S).cpus =
        between_quiet plan S (λ C. cpus.pop C k.0) (release_if_any lock) (end_of_step plan S (row_of c).rank c o.id.0 v) (PopFrame (cpu_of k.0)) (λ U. refl) (releasing_quiet lock) (step_quiet plan S (row_of c).rank c o.id.0 v) in
        comes_stay plan m S k.0 t.0 (event.End k c o v) (deeds plan S (event.End k c o v)) (top_alone S agree k.0 t.0 t.1)
        (subst (λ C. Beside k.0 t.0 S.cpus C) popped (pop_beside S.cpus k.0 t.0 t.1)) (ap (λ (C : Cpus). C.parked) popped)

    park_stays : (k : Cpu) (f : FrameId) → may_park S k.0 f.0 ≡ true → Stays (event.Park k f)
    park_stays k f h =
        let T = after plan m S (event.Park k f) in
        let at : top S.cpus k.0 ≡ Some f.0 = top_is (top S.cpus k.0) f.0 (both_left (same_id (top S.cpus k.0) f.0) (irql S.cpus k.0 == 0) (both_left (same_id (top S.cpus k.0) f.0 && irql S.cpus k.0 == 0) (waits_on S (frame_of S.cpus f.0).pending) h)) in
        parks_stay plan m S k.0 (S.number + 1) (event.Park k f) (deeds plan S (event.Park k f)) (new_alone S agree k.0) (park_beside S.cpus k.0 (S.number + 1))
        (objects_move S T refl (λ p. parks p S.cpus k.0 f.0 at)) (waited_move S T refl (λ p. parks p S.cpus k.0 f.0 at)) (λ p none. none)

    unpark_stays : (k : Cpu) (f : FrameId) → may_unpark S k.0 f.0 ≡ true → Stays (event.Unpark k f)
    unpark_stays k f h =
        let T = after plan m S (event.Unpark k f) in
        let there : contains f.0 S.cpus.parked ≡ true = both_left (contains f.0 S.cpus.parked) (is_empty_cpu S.cpus k.0) (both_left (contains f.0 S.cpus.parked && is_empty_cpu S.cpus k.0) (wait_is_over S (frame_of S.cpus f.0).pending) h) in
        let once = parked_once S.cpus f.0 (agree.once f.0) there in
        parks_stay plan m S k.0 (S.number + 1) (event.Unpark k f) (deeds plan S (event.Unpark k f)) (new_alone S agree k.0) (unpark_beside S.cpus k.0 (S.number + 1) f.0)
        (objects_move S T refl (λ p. unparks p S.cpus k.0 f.0 once)) (waited_move S T refl (λ p. unparks p S.cpus k.0 f.0 once)) (λ p none. none)

    pub tick_stays : (time : ℕ) → Stays (event.Tick time)
    tick_stays time = quiet_stays 0 (event.Tick time) (deeds plan S (event.Tick time)) refl

    -- an event that may come leaves each piece as it was that isn't in its row
    pub stays : (e : Event) → may plan m S e ≡ true → Stays e
    stays (event.Start k c o r) h = start_stays k c o r
    stays (event.Local k line) h = local_stays k line h
    stays (event.Log k v) h = log_stays k v h
    stays (event.Spend k n) h = spend_stays k n h
    stays (event.Register k a r v) h = register_stays k a r v h
    stays (event.Did k c v) h = call_stays k c v h
    stays (event.Waiting k c) h = waiting_stays k c h
    stays (event.Woke k c v) h = woke_stays k c v h
    stays (event.Park k f) h = park_stays k f h
    stays (event.Unpark k f) h = unpark_stays k f (both_right (is_cpu plan k) (may_unpark S k.0 f.0) h)
    stays (event.End k c o v) h = end_stays k c o v h
    stays (event.Fault k x line) h = quiet_stays 0 (event.Fault k x line) [] refl
    stays (event.Stage d s i) h = quiet_stays 0 (event.Stage d s i) (deeds plan S (event.Stage d s i)) (stage_quiet plan d.id.0 s i)
    stays (event.Complete r s) h = quiet_stays 0 (event.Complete r s) (deeds plan S (event.Complete r s)) refl
    stays (event.Cleanup o) h = quiet_stays 0 (event.Cleanup o) (deeds plan S (event.Cleanup o)) refl
    stays (event.Destroy o) h = quiet_stays 0 (event.Destroy o) (deeds plan S (event.Destroy o)) refl
    stays (event.Posted agent p answer) h = quiet_stays 0 (event.Posted agent p answer) (deeds plan S (event.Posted agent p answer)) (post_quiet plan S agent p)
    stays (event.Tick time) h = absurd (let z : ⊥ = cc in z)
