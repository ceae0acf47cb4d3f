-- What each group offers is the same in two states that are the same in what it reads.
use Rattle.std.proofs.Common.{◌≡◌, ℕ, Bool, true, false, not, ◌&&◌, ◌||◌, ◌==◌, [], ◌∷◌, length, Option, Some, option_map, slice_get, refl, ap, sym, ◌∙◌}
use Rattle.std.specs.Option.{option_and_then}
use Rattle.std.specs.List.{filter_map, list_all, range_with_len}
use Rattle.wdf_base.specs.Meaning.{Meaning}
use Rattle.wdf_base.specs.Same.{same_option, same_step}
use Rattle.wdf_base.specs.declared.plan.Plan.{Plan}
use Rattle.wdf_base.specs.declared.ids.Handle.{Handle}
use Rattle.wdf_base.specs.declared.call.Callback.TheVariants as callback
use Rattle.wdf_base.specs.declared.event.Event.{Event}
use Rattle.wdf_base.specs.declared.event.Event.TheVariants as event
use Rattle.wdf_base.specs.declared.event.Post.{Post}
use Rattle.wdf_base.specs.declared.event.Stage.{Stage}
use Rattle.wdf_base.specs.declared.event.Stage.TheVariants as stage
use Rattle.wdf_base.specs.declared.event.Step.{Step}
use Rattle.wdf_base.specs.declared.event.Step.TheVariants as step
use Rattle.wdf_base.specs.declared.object.Place.{Place}
use Rattle.wdf_base.specs.declared.object.Place.TheVariants as place
use Rattle.wdf_base.specs.declared.rank.Rank.{Rank}
use Rattle.wdf_base.specs.declared.rank.Rank.TheVariants as rank
use Rattle.wdf_model.specs.Plans.{declares, interrupts_of, managed_queues}
use Rattle.wdf_model.specs.State.{State, handle_in, is_locked, is_proper, nothing_at}
use Rattle.wdf_model.specs.Tables.{contains, first_of_list, same_id}
use Rattle.wdf_model.specs.declared.enums.Group.{Group}
use Rattle.wdf_model.specs.declared.enums.Group.TheVariants as group
use Rattle.wdf_model.specs.parts.Cpus.{frame_of, is_empty_cpu, top}
use Rattle.wdf_model.specs.parts.Locks.{is_free_lock, object_lock}
use Rattle.wdf_model.specs.parts.Pnp.{follows_queues_up, is_running_step, next_step}
use Rattle.wdf_model.specs.parts.Power.{any_resume_due, unsettled}
use Rattle.wdf_model.specs.parts.Requests.{place_of}
use Rattle.wdf_model.specs.parts.Targets.{the_target}
use Rattle.wdf_model.specs.parts.Tree.{may_clean, may_destroy, next_id}
use Rattle.wdf_model.specs.parts.Deferred.Dpcs.{is_dpc_queued}
use Rattle.wdf_model.specs.rules.Groups.{callback_for, candidate, completion_at, is_declared_somewhere, parks, places_for, places_if, places_in, places_of_rank, posted, stage_of_step, start_at, start_for, unparks}
use Rattle.wdf_model.specs.rules.Posts.{due_of, may_post, post_answer}
use Rattle.wdf_model.specs.rules.Starts.{callback_over, handle_id, is_drained, is_finished, stage_ready, step_ready}
use Rattle.wdf_model.specs.Ids.{cpu_of}
use Rattle.wdf_model.specs.rules.Steps.{is_closing_with, is_cpu, may, may_park, may_unpark, wait_is_over, waits_on}
use Rattle.law_touched.specs.Touched.{ObjectTree, Processor, TopWait, RunningObjects, WaitedObjects, ParkedFrames, HeldLocks, RequestTable, QueueLines, QueueControl, DevicePower, DeviceSteps, EnabledInterrupts, DpcLists, WorkQueue, TimerQueue, TargetTable, AgentStates, ClockTick, offers, read_by, read_by_rank, read_for_rank}
use Rattle.law_touched.proofs.Lists.{chosen_alike, filter_chosen}
use Rattle.law_touched.proofs.Own.{own_offered_alike}
use Rattle.law_touched.proofs.Ranks.{StepsRanked, cancel, canceled, cleanup, completed, completion, deferred, destroy, handler, isr, queue_state, resume, sequence, stop, timed, work}
use Rattle.law_touched.proofs.Same.{Agree, Same, on_it, wait_of_it}
use Rattle.law_touched.proofs.Starts.{chained_alike, if_may, mapped_alike, one_alike}
use Rattle.law_touched.proofs.Waits.{over_alike, waits_alike}

neither : (a b c d e f : Bool) → a ≡ false → d ≡ false → (a && b && c) ≡ (d && e && f)
neither a b c d e f h k = rw (h, k) refl

module _ {A : Type 0} (plan : Plan) (m : Meaning A) (S T : State A) where
  -- what both states offer of a candidate
  abbrev Alike : Option Event → Option Event → Type 0
  Alike d e = if_may plan m S d ≡ if_may plan m T e

  -- ---- parking

  module _ (cpu : ℕ) (agree : Agree (read_by (group.Parks cpu)) S T) where
    park_on : Same (Processor cpu) S T
    park_on = agree (Processor cpu) (on_it cpu (TopWait cpu ∷ RunningObjects ∷ HeldLocks ∷ RequestTable ∷ QueueLines ∷ WorkQueue ∷ []))

    park_waits : (f : ℕ) → top S.cpus cpu ≡ Some f → waits_on S (frame_of S.cpus f).pending ≡ waits_on T (frame_of T.cpus f).pending
    park_waits f at =
        ap (waits_on S) (agree (TopWait cpu) (wait_of_it cpu (RunningObjects ∷ HeldLocks ∷ RequestTable ∷ QueueLines ∷ WorkQueue ∷ [])) f at)
        ∙ waits_alike S T (agree HeldLocks refl) (agree RequestTable refl) (agree QueueLines refl) (agree WorkQueue refl) (agree RunningObjects refl).0 (frame_of T.cpus f).pending

    tops : top S.cpus cpu ≡ top T.cpus cpu
    tops = ap first_of_list park_on.0

    park_may : (f : ℕ) → top S.cpus cpu ≡ Some f → may_park S cpu f ≡ may_park T cpu f
    park_may f at = λ i. same_id (tops i) f && park_on.1 i == 0 && park_waits f at i

    parks_alike : Alike (option_map (parks cpu) (top S.cpus cpu)) (option_map (parks cpu) (top T.cpus cpu))
    parks_alike =
        ap (λ o. if_may plan m S (option_map (parks cpu) o)) tops
        ∙ mapped_alike plan m S T (parks cpu) (parks cpu) (top T.cpus cpu) (λ f at. one_alike plan m S T (parks cpu f) (parks cpu f) (park_may f (tops ∙ at)) refl)

  module _ (cpu : ℕ) (agree : Agree (read_by (group.Unparks cpu)) S T) where
    unpark_on : Same (Processor cpu) S T
    unpark_on = agree (Processor cpu) (on_it cpu (ParkedFrames ∷ RunningObjects ∷ HeldLocks ∷ RequestTable ∷ QueueLines ∷ WorkQueue ∷ []))

    unpark_frames : Same ParkedFrames S T
    unpark_frames = agree ParkedFrames refl

    unpark_over : (f : ℕ) → contains f S.cpus.parked ≡ true → wait_is_over S (frame_of S.cpus f).pending ≡ wait_is_over T (frame_of T.cpus f).pending
    unpark_over f at =
        ap (wait_is_over S) (unpark_frames.1 f at)
        ∙ over_alike S T (agree HeldLocks refl) (agree RequestTable refl) (agree QueueLines refl) (agree WorkQueue refl) (agree RunningObjects refl).0 (frame_of T.cpus f).pending

    unpark_may : (f : ℕ) (b : Bool) → contains f S.cpus.parked ≡ b → may_unpark S cpu f ≡ may_unpark T cpu f
    unpark_may f true at = λ i. contains f (unpark_frames.0 i) && length (unpark_on.0 i) == 0 && unpark_over f at i
    unpark_may f false at =
        neither (contains f S.cpus.parked) (is_empty_cpu S.cpus cpu) (wait_is_over S (frame_of S.cpus f).pending) (contains f T.cpus.parked) (is_empty_cpu T.cpus cpu) (wait_is_over T (frame_of T.cpus f).pending)
        at (sym (ap (contains f) unpark_frames.0) ∙ at)

    unparks_alike : (k : ℕ) → Alike (option_map (unparks cpu) (slice_get S.cpus.parked k)) (option_map (unparks cpu) (slice_get T.cpus.parked k))
    unparks_alike k =
        ap (λ fs. if_may plan m S (option_map (unparks cpu) (slice_get fs k))) unpark_frames.0
        ∙ mapped_alike plan m S T (unparks cpu) (unparks cpu) (slice_get T.cpus.parked k)
        (λ f at. one_alike plan m S T (unparks cpu f) (unparks cpu f) (ap (λ b. is_cpu plan (cpu_of cpu) && b) (unpark_may f (contains f S.cpus.parked) refl)) refl)

  -- ---- starts

  starts_alike : (cpu : ℕ) (r : Rank) → StepsRanked S → Agree (read_by (group.Starts cpu r)) S T → (k : ℕ) → Alike (start_at plan S cpu r k) (start_at plan T cpu r k)
  starts_alike cpu rank.Isr ranked agree k = isr plan m S T cpu (agree ObjectTree refl) (agree HeldLocks refl) (agree (Processor cpu) (on_it cpu (ObjectTree ∷ HeldLocks ∷ read_by_rank rank.Isr))) (agree EnabledInterrupts refl) (agree AgentStates refl) k
  starts_alike cpu rank.Deferred ranked agree k = deferred plan m S T cpu (agree ObjectTree refl) (agree HeldLocks refl) (agree (Processor cpu) (on_it cpu (ObjectTree ∷ HeldLocks ∷ read_by_rank rank.Deferred))) (agree DpcLists refl) k
  starts_alike cpu rank.Timed ranked agree k = timed plan m S T cpu (agree ObjectTree refl) (agree HeldLocks refl) (agree (Processor cpu) (on_it cpu (ObjectTree ∷ HeldLocks ∷ read_by_rank rank.Timed))) (agree TimerQueue refl) (agree ClockTick refl) (agree RunningObjects refl).0 k
  starts_alike cpu rank.QueueState ranked agree k = queue_state plan m S T cpu (agree ObjectTree refl) (agree HeldLocks refl) (agree (Processor cpu) (on_it cpu (ObjectTree ∷ HeldLocks ∷ read_by_rank rank.QueueState))) (agree QueueControl refl) (agree DevicePower refl) k
  starts_alike cpu rank.Handler ranked agree k =
      handler plan m S T cpu (agree ObjectTree refl) (agree HeldLocks refl) (agree (Processor cpu) (on_it cpu (ObjectTree ∷ HeldLocks ∷ read_by_rank rank.Handler))) (agree RequestTable refl) (agree QueueControl refl) (agree DevicePower refl) (agree QueueLines refl) k
  starts_alike cpu rank.Sequence ranked agree k =
      sequence plan m S T cpu (agree ObjectTree refl) (agree HeldLocks refl) (agree (Processor cpu) (on_it cpu (ObjectTree ∷ HeldLocks ∷ read_by_rank rank.Sequence))) (agree DeviceSteps refl) (agree DevicePower refl) (agree RunningObjects refl).1 ranked k
  starts_alike cpu rank.Work ranked agree k = work plan m S T cpu (agree ObjectTree refl) (agree HeldLocks refl) (agree (Processor cpu) (on_it cpu (ObjectTree ∷ HeldLocks ∷ read_by_rank rank.Work))) (agree RunningObjects refl).0 (agree WorkQueue refl) k
  starts_alike cpu rank.Cleanup ranked agree k =
      cleanup plan m S T cpu (agree ObjectTree refl) (agree HeldLocks refl) (agree (Processor cpu) (on_it cpu (ObjectTree ∷ HeldLocks ∷ read_by_rank rank.Cleanup))) (agree RunningObjects refl).0 (agree WaitedObjects refl) (agree RequestTable refl) k
  starts_alike cpu rank.Destroy ranked agree k = destroy plan m S T cpu (agree ObjectTree refl) (agree HeldLocks refl) (agree (Processor cpu) (on_it cpu (ObjectTree ∷ HeldLocks ∷ read_by_rank rank.Destroy))) (agree RunningObjects refl).0 k
  starts_alike cpu _ ranked agree k = refl

  for_alike : (cpu : ℕ) (r : Rank) (o : ℕ) → Agree (read_by (group.StartsFor cpu r o)) S T → (k : ℕ) → Alike (start_for plan S cpu r o k) (start_for plan T cpu r o k)
  for_alike cpu rank.Completion o agree k = completion plan m S T cpu (agree ObjectTree refl) (agree HeldLocks refl) (agree (Processor cpu) (on_it cpu (ObjectTree ∷ HeldLocks ∷ RequestTable ∷ read_for_rank rank.Completion))) (agree RequestTable refl) (agree TargetTable refl) o k
  for_alike cpu rank.Cancel o agree k = cancel plan m S T cpu (agree ObjectTree refl) (agree HeldLocks refl) (agree (Processor cpu) (on_it cpu (ObjectTree ∷ HeldLocks ∷ RequestTable ∷ read_for_rank rank.Cancel))) (agree RequestTable refl) (agree TargetTable refl) o k
  for_alike cpu rank.CanceledOnQueue o agree k = canceled plan m S T cpu (agree ObjectTree refl) (agree HeldLocks refl) (agree (Processor cpu) (on_it cpu (ObjectTree ∷ HeldLocks ∷ RequestTable ∷ read_for_rank rank.CanceledOnQueue))) (agree RequestTable refl) o k
  for_alike cpu rank.Stop o agree k =
      stop plan m S T cpu (agree ObjectTree refl) (agree HeldLocks refl) (agree (Processor cpu) (on_it cpu (ObjectTree ∷ HeldLocks ∷ RequestTable ∷ read_for_rank rank.Stop))) (agree RequestTable refl) (agree TargetTable refl) (agree DevicePower refl) (agree DeviceSteps refl) o k
  for_alike cpu rank.Resume o agree k =
      resume plan m S T cpu (agree ObjectTree refl) (agree HeldLocks refl) (agree (Processor cpu) (on_it cpu (ObjectTree ∷ HeldLocks ∷ RequestTable ∷ read_for_rank rank.Resume))) (agree RequestTable refl) (agree TargetTable refl) (agree DevicePower refl) o k
  for_alike cpu r o agree k = completed plan m S T cpu (agree ObjectTree refl) (agree HeldLocks refl) (agree (Processor cpu) (on_it cpu (ObjectTree ∷ HeldLocks ∷ RequestTable ∷ read_for_rank r))) (agree RequestTable refl) (agree TargetTable refl) o k

  -- ---- the framework

  module _ (agree : Agree (read_by group.Stages) S T) where
    running : Same RunningObjects S T
    running = agree RunningObjects refl

    step_alike : (d : ℕ) (s : Step) → step_ready S d s ≡ step_ready T d s
    step_alike d s = λ i.
        same_option same_step (next_step (agree DeviceSteps refl i) d) (Some s) && not (is_running_step (agree DeviceSteps refl i) d)
        && (not (follows_queues_up (agree DeviceSteps refl i) d) || (not (any_resume_due (agree DevicePower refl i) d) && not (running.1 callback.EvtIoResume d i)))

    stage_alike : (d : ℕ) (s : Stage) (h : Option Handle) → stage_ready plan S d s h ≡ stage_ready plan T d s h
    stage_alike d stage.Settled h = λ i. length (unsettled (agree DevicePower refl i) d) == 0 && list_all (λ o. running.0 o i) (managed_queues plan d)
    stage_alike d stage.Disabled h = λ i. is_free_lock (agree HeldLocks refl i) (object_lock (handle_id h))
    stage_alike d stage.Quiet h = λ i. list_all (λ x. not (is_dpc_queued (agree DpcLists refl i) x)) (interrupts_of plan d) && not (running.1 callback.EvtInterruptDpc d i)
    stage_alike d stage.Removed h = λ i. is_drained plan (record S { requests = agree RequestTable refl i }) d
    stage_alike d _ h = refl

    stage_one : (k : ℕ) (s : Step) → Alike (stage_of_step plan S k s) (stage_of_step plan T k s)
    stage_one k (step.Run c h) = refl
    stage_one k (step.Pass s h) =
        one_alike plan m S T (event.Stage (handle_in plan S k) s h) (event.Stage (handle_in plan T k) s h)
        (λ i. is_proper plan (record S { tree = agree ObjectTree refl i }) (handle_in plan (record S { tree = agree ObjectTree refl i }) k) && (step_alike k (step.Pass s h) i && stage_alike k s h i))
        (λ i. event.Stage (handle_in plan (record S { tree = agree ObjectTree refl i }) k) s h)

    stages_alike : (k : ℕ) → Alike (candidate plan m S group.Stages k) (candidate plan m T group.Stages k)
    stages_alike k =
        ap (λ X. if_may plan m S (option_and_then (stage_of_step plan S k) (next_step X k))) (agree DeviceSteps refl)
        ∙ chained_alike plan m S T (stage_of_step plan S k) (stage_of_step plan T k) (next_step T.pnp k) (λ s at. stage_one k s)

  module _ (agree : Agree (read_by group.Completions) S T) where
    completion_one : (k : ℕ) (p : Place) → Alike (completion_at plan S k p) (completion_at plan T k p)
    completion_one k (place.Closing s) =
        one_alike plan m S T (event.Complete (handle_in plan S k) s) (event.Complete (handle_in plan T k) s)
        (λ i. is_proper plan (record S { tree = agree ObjectTree refl i }) (handle_in plan (record S { tree = agree ObjectTree refl i }) k) && is_closing_with (place_of (agree RequestTable refl i) k) s)
        (λ i. event.Complete (handle_in plan (record S { tree = agree ObjectTree refl i }) k) s)
    completion_one k _ = refl

    completions_alike : (k : ℕ) → Alike (candidate plan m S group.Completions k) (candidate plan m T group.Completions k)
    completions_alike k = ap (λ X. if_may plan m S (completion_at plan S k (place_of X k))) (agree RequestTable refl) ∙ completion_one k (place_of T.requests k)

  cleanups_alike : Agree (read_by group.Cleanups) S T → (k : ℕ) → Alike (candidate plan m S group.Cleanups k) (candidate plan m T group.Cleanups k)
  cleanups_alike agree k =
      one_alike plan m S T (event.Cleanup (handle_in plan S k)) (event.Cleanup (handle_in plan T k))
      (λ i. is_proper plan (record S { tree = agree ObjectTree refl i }) (handle_in plan (record S { tree = agree ObjectTree refl i }) k)
      && (may_clean (agree ObjectTree refl i) k && ((agree RunningObjects refl).0 k i && not (is_locked (record S { locks = agree HeldLocks refl i }) k) && not (agree WaitedObjects refl k i))
      && is_finished (record S { tree = agree ObjectTree refl i; requests = agree RequestTable refl i }) k && nothing_at (record S { requests = agree RequestTable refl i }) k)
      && callback_over plan (record S { tree = agree ObjectTree refl i }) callback.EvtCleanupCallback k)
      (λ i. event.Cleanup (handle_in plan (record S { tree = agree ObjectTree refl i }) k))

  destroys_alike : Agree (read_by group.Destroys) S T → (k : ℕ) → Alike (candidate plan m S group.Destroys k) (candidate plan m T group.Destroys k)
  destroys_alike agree k =
      one_alike plan m S T (event.Destroy (handle_in plan S k)) (event.Destroy (handle_in plan T k))
      (λ i. is_proper plan (record S { tree = agree ObjectTree refl i }) (handle_in plan (record S { tree = agree ObjectTree refl i }) k)
      && (may_destroy (agree ObjectTree refl i) k && (agree RunningObjects refl).0 k i)
      && callback_over plan (record S { tree = agree ObjectTree refl i }) callback.EvtDestroyCallback k)
      (λ i. event.Destroy (handle_in plan (record S { tree = agree ObjectTree refl i }) k))

  -- ---- posts

  module _ (agree : Agree (read_by group.Posts) S T) where
    abbrev between_posts : State A
    between_posts = record S { tree = T.tree; requests = T.requests; pnp = T.pnp; targets = T.targets; agents = T.agents }

    along_posts : S ≡ between_posts
    along_posts = λ i. record S {
      tree = agree ObjectTree refl i;
      requests = agree RequestTable refl i;
      pnp = agree DeviceSteps refl i;
      targets = agree TargetTable refl i;
      agents = agree AgentStates refl i;
    }

    post_one : (k : ℕ) (p : Post) → Alike (Some (posted plan S k p)) (Some (posted plan T k p))
    post_one k p =
        one_alike plan m S T (posted plan S k p) (posted plan T k p)
        (λ i. may_post plan m (along_posts i) k p (post_answer plan (along_posts i) k p))
        (λ i. posted plan (along_posts i) k p)

    posts_alike : (k : ℕ) → Alike (candidate plan m S group.Posts k) (candidate plan m T group.Posts k)
    posts_alike k =
        ap (λ X. if_may plan m S (option_map (posted plan S k) (option_and_then m.due (slice_get X k)))) (agree AgentStates refl)
        ∙ mapped_alike plan m S T (posted plan S k) (posted plan T k) (due_of m T k) (λ p at. post_one k p)

  -- ---- any group

  offered_alike : (g : Group) → StepsRanked S → Agree (read_by g) S T → (k : ℕ) → Alike (candidate plan m S g k) (candidate plan m T g k)
  offered_alike (group.OwnEvent cpu) ranked agree k = own_offered_alike plan m S T cpu agree
  offered_alike (group.Parks cpu) ranked agree k = parks_alike cpu agree
  offered_alike (group.Unparks cpu) ranked agree k = unparks_alike cpu agree k
  offered_alike (group.Starts cpu r) ranked agree k = starts_alike cpu r ranked agree k
  offered_alike (group.StartsFor cpu r o) ranked agree k = for_alike cpu r o agree k
  offered_alike group.Stages ranked agree k = stages_alike agree k
  offered_alike group.Completions ranked agree k = completions_alike agree k
  offered_alike group.Cleanups ranked agree k = cleanups_alike agree k
  offered_alike group.Destroys ranked agree k = destroys_alike agree k
  offered_alike group.Posts ranked agree k = posts_alike agree k

  rank_places : (cpu : ℕ) (r : Rank) → Agree (read_by (group.Starts cpu r)) S T → places_of_rank plan S r ≡ places_of_rank plan T r
  rank_places cpu rank.Timed agree = λ i. length (agree TimerQueue refl i).queued
  rank_places cpu rank.Work agree = λ i. length (agree WorkQueue refl i).queued
  rank_places cpu rank.Cleanup agree = λ i. places_if (is_declared_somewhere plan callback.EvtCleanupCallback) (next_id (agree ObjectTree refl i))
  rank_places cpu rank.Destroy agree = λ i. places_if (is_declared_somewhere plan callback.EvtDestroyCallback) (next_id (agree ObjectTree refl i))
  rank_places cpu _ agree = refl

  for_places : (cpu : ℕ) (r : Rank) (o : ℕ) → Agree (read_by (group.StartsFor cpu r o)) S T → places_for plan S r o ≡ places_for plan T r o
  for_places cpu rank.Completion o agree = λ i. length (the_target (agree TargetTable refl i) o).sent
  for_places cpu r o agree = λ i. places_if (declares plan (callback_for r) o) (length (agree RequestTable refl i).all)

  places_alike : (g : Group) → Agree (read_by g) S T → places_in plan S g ≡ places_in plan T g
  places_alike (group.OwnEvent cpu) agree = refl
  places_alike (group.Parks cpu) agree = refl
  places_alike (group.Unparks cpu) agree = λ i. length ((agree ParkedFrames refl).0 i)
  places_alike (group.Starts cpu r) agree = rank_places cpu r agree
  places_alike (group.StartsFor cpu r o) agree = for_places cpu r o agree
  places_alike group.Stages agree = refl
  places_alike group.Completions agree = λ i. length (agree RequestTable refl i).all
  places_alike group.Cleanups agree = λ i. next_id (agree ObjectTree refl i)
  places_alike group.Destroys agree = λ i. next_id (agree ObjectTree refl i)
  places_alike group.Posts agree = λ i. length (agree AgentStates refl i)

  -- a group offers the same in two states that are the same in what it reads
  pub offers_alike : (g : Group) → StepsRanked S → Agree (read_by g) S T → offers plan m S g ≡ offers plan m T g
  offers_alike g ranked agree =
      filter_chosen (may plan m S) (candidate plan m S g) (range_with_len 0 (places_in plan S g))
      ∙ ap (λ n. filter_map (λ k. if_may plan m S (candidate plan m S g k)) (range_with_len 0 n)) (places_alike g agree)
      ∙ chosen_alike (λ k. if_may plan m S (candidate plan m S g k)) (λ k. if_may plan m T (candidate plan m T g k)) (range_with_len 0 (places_in plan T g)) (offered_alike g ranked agree)
      ∙ sym (filter_chosen (may plan m T) (candidate plan m T g) (range_with_len 0 (places_in plan T g)))
