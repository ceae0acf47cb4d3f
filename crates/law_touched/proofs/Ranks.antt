-- The starts of each rank that two states offer alike.
use Rattle.std.proofs.Common.{if◌then◌else◌, ◌≡◌, ℕ, Bool, true, false, not, ◌&&◌, ◌||◌, Option, Some, None, option_map, slice_get, is_some, refl, ap, sym, ◌∙◌}
use Rattle.std.specs.Option.{option_and_then}
use Rattle.wdf_base.specs.Meaning.{Meaning}
use Rattle.wdf_base.specs.declared.plan.Plan.{Plan}
use Rattle.wdf_base.specs.declared.ids.Handle.{Handle}
use Rattle.wdf_base.specs.declared.object.Kind.{Kind}
use Rattle.wdf_base.specs.declared.object.Kind.TheVariants as kind
use Rattle.wdf_base.specs.declared.object.RequestForm.{RequestForm}
use Rattle.wdf_base.specs.declared.call.Callback.{Callback}
use Rattle.wdf_base.specs.declared.call.Callback.TheVariants as callback
use Rattle.wdf_base.specs.declared.rank.Rank.{Rank}
use Rattle.wdf_base.specs.declared.rank.Rank.TheVariants as rank
use Rattle.wdf_base.specs.declared.event.Event.{Event}
use Rattle.wdf_base.specs.declared.event.Step.{Step}
use Rattle.wdf_base.specs.declared.event.Step.TheVariants as step
use Rattle.wdf_base.specs.Callbacks.{dpc_function, row_of}
use Rattle.wdf_base.specs.Places.{is_due, is_returning_to, is_sent_to}
use Rattle.wdf_base.specs.Same.{same_option, same_step}
use Rattle.wdf_model.specs.Plans.{declares, handler_for, interrupt_of, queue_of, typed_handler}
use Rattle.wdf_model.specs.Tables.{same_id}
use Rattle.wdf_model.specs.declared.entries.Sending.{Sending}
use Rattle.wdf_model.specs.declared.entries.Timed.{Timed}
use Rattle.wdf_model.specs.State.{State, is_held_from, is_locked, is_waited_for, nothing_at, queue_delivers}
use Rattle.wdf_model.specs.parts.Tree.{kind_of, may_clean, may_destroy, nearest_device, started}
use Rattle.wdf_model.specs.parts.Cpus.{is_running, nobody_on}
use Rattle.wdf_model.specs.parts.Control.{notify_due}
use Rattle.wdf_model.specs.parts.Interrupts.{isr_due}
use Rattle.wdf_model.specs.parts.Pnp.{follows_queues_up, is_running_step, next_step}
use Rattle.wdf_model.specs.parts.Power.{any_resume_due, resume_due}
use Rattle.wdf_model.specs.parts.Queues.{front}
use Rattle.wdf_model.specs.parts.Requests.{info_of, mark_of, place_of}
use Rattle.wdf_model.specs.parts.Targets.{routine_due, the_target}
use Rattle.wdf_model.specs.parts.Deferred.Dpcs.{dpc_head}
use Rattle.wdf_model.specs.parts.Deferred.Timers.{timer_due}
use Rattle.wdf_model.specs.parts.Deferred.WorkItems.{is_work_queued}
use Rattle.wdf_model.specs.rules.Groups.{handler_start, start_at, start_for, start_of_step, starts, starts_for}
use Rattle.wdf_model.specs.rules.Starts.{is_finished, line_is_up, presents, rank_ready, rank_ready_for, step_of, stop_is_due}
use Rattle.law_touched.proofs.Starts.{SameOn, alone, chained_alike, for_request, if_may, mapped_alike, there_alike}
use Rattle.law_machine_once.proofs.Places.{typed_rank}

-- ---- the ranks of handlers

handler_rank_by : (f : RequestForm) (c : Callback) (a b : Bool) → (if a then Some (typed_handler f) else if b then Some callback.EvtIoDefault else None) ≡ Some c → (row_of c).rank ≡ rank.Handler
handler_rank_by f c true b h = let same : typed_handler f ≡ c = cc in ap (λ x. (row_of x).rank) (sym same) ∙ typed_rank f
handler_rank_by f c false true h = let same : callback.EvtIoDefault ≡ c = cc in ap (λ x. (row_of x).rank) (sym same)
handler_rank_by f c false false h = absurd (let z : ⊥ = cc in z)

handler_rank : (plan : Plan) (q : ℕ) (f : RequestForm) (c : Callback) → handler_for plan q f ≡ Some c → (row_of c).rank ≡ rank.Handler
handler_rank plan q f c h = handler_rank_by f c (declares plan (typed_handler f) q) (declares plan callback.EvtIoDefault q) h

-- the callback of a next step has the rank of steps
abbrev pub StepsRanked : {A : Type 0} → State A → Type 0
StepsRanked S = (d : ℕ) (c : Callback) (i : Option Handle) → next_step S.pnp d ≡ Some (step.Run c i) → (row_of c).rank ≡ rank.Sequence

module _ {A : Type 0} (plan : Plan) (m : Meaning A) (S T : State A) (cpu : ℕ) (tree : S.tree ≡ T.tree) (locks : S.locks ≡ T.locks) (on : SameOn plan m cpu S T) where
  -- what both states offer of a candidate
  abbrev Alike : Option Event → Option Event → Type 0
  Alike d e = if_may plan m S d ≡ if_may plan m T e

  alone_here : (c : Callback) (o : ℕ) → rank_ready plan m S (row_of c).rank cpu c o ≡ rank_ready plan m T (row_of c).rank cpu c o → Alike (Some (starts plan S cpu c o)) (Some (starts plan T cpu c o))
  alone_here c o h = alone plan m S T cpu tree locks on c o h

  -- ---- without a request

  pub isr : S.interrupts ≡ T.interrupts → S.agents ≡ T.agents → (k : ℕ) → Alike (start_at plan S cpu rank.Isr k) (start_at plan T cpu rank.Isr k)
  isr interrupts agents k =
      there_alike plan m S T (is_some (interrupt_of plan k)) (starts plan S cpu callback.EvtInterruptIsr k) (starts plan T cpu callback.EvtInterruptIsr k)
      (alone_here callback.EvtInterruptIsr k (λ i. isr_due (interrupts i) k (line_is_up plan m (record S { agents = agents i }) k)))

  module _ (dpcs : S.dpcs ≡ T.dpcs) where
    deferred_ready : (k : Kind) (o : ℕ) → rank_ready plan m S (row_of (dpc_function k)).rank cpu (dpc_function k) o ≡ rank_ready plan m T (row_of (dpc_function k)).rank cpu (dpc_function k) o
    deferred_ready kind.Interrupt o = λ i. same_id (dpc_head (dpcs i) cpu) o
    deferred_ready _ o = λ i. same_id (dpc_head (dpcs i) cpu) o

    deferred_one : (o : ℕ) → Alike (Some (starts plan S cpu (dpc_function (kind_of S.tree o)) o)) (Some (starts plan T cpu (dpc_function (kind_of T.tree o)) o))
    deferred_one o =
        ap (λ X. if_may plan m S (Some (starts plan S cpu (dpc_function (kind_of X o)) o))) tree
        ∙ alone_here (dpc_function (kind_of T.tree o)) o (deferred_ready (kind_of T.tree o) o)

    pub deferred : (k : ℕ) → Alike (start_at plan S cpu rank.Deferred k) (start_at plan T cpu rank.Deferred k)
    deferred k =
        ap (λ X. if_may plan m S (option_map (λ o. starts plan S cpu (dpc_function (kind_of S.tree o)) o) (dpc_head X cpu))) dpcs
        ∙ mapped_alike plan m S T (λ o. starts plan S cpu (dpc_function (kind_of S.tree o)) o) (λ o. starts plan T cpu (dpc_function (kind_of T.tree o)) o) (dpc_head T.dpcs cpu) (λ o at. deferred_one o)

  pub timed : S.timers ≡ T.timers → S.clock ≡ T.clock → ((o : ℕ) → nobody_on S.cpus o ≡ nobody_on T.cpus o) → (k : ℕ) → Alike (start_at plan S cpu rank.Timed k) (start_at plan T cpu rank.Timed k)
  timed timers clock nobody k =
      ap (λ X. if_may plan m S (option_map (λ (t : Timed). starts plan S cpu callback.EvtTimerFunc t.timer.0) (slice_get X.queued k))) timers
      ∙ mapped_alike plan m S T (λ (t : Timed). starts plan S cpu callback.EvtTimerFunc t.timer.0) (λ (t : Timed). starts plan T cpu callback.EvtTimerFunc t.timer.0) (slice_get T.timers.queued k)
      (λ t at. alone_here callback.EvtTimerFunc t.timer.0 (λ i. timer_due (timers i) t.timer.0 (clock i) && nobody t.timer.0 i))

  pub queue_state : S.control ≡ T.control → S.power ≡ T.power → (k : ℕ) → Alike (start_at plan S cpu rank.QueueState k) (start_at plan T cpu rank.QueueState k)
  queue_state control power k =
      there_alike plan m S T (is_some (queue_of plan k)) (starts plan S cpu callback.EvtIoQueueState k) (starts plan T cpu callback.EvtIoQueueState k)
      (alone_here callback.EvtIoQueueState k (λ i. notify_due (control i) k && queue_delivers plan (record S { control = control i; power = power i }) k))

  module _ (nobody : (o : ℕ) → nobody_on S.cpus o ≡ nobody_on T.cpus o) where
    pub work : S.work_items ≡ T.work_items → (k : ℕ) → Alike (start_at plan S cpu rank.Work k) (start_at plan T cpu rank.Work k)
    work items k =
        ap (λ X. if_may plan m S (option_map (λ o. starts plan S cpu callback.EvtWorkItem o) (slice_get X.queued k))) items
        ∙ mapped_alike plan m S T (λ o. starts plan S cpu callback.EvtWorkItem o) (λ o. starts plan T cpu callback.EvtWorkItem o) (slice_get T.work_items.queued k)
        (λ o at. alone_here callback.EvtWorkItem o (λ i. is_work_queued (items i) o && nobody o i))

    pub cleanup : ((o : ℕ) → is_waited_for S o ≡ is_waited_for T o) → S.requests ≡ T.requests → (k : ℕ) → Alike (start_at plan S cpu rank.Cleanup k) (start_at plan T cpu rank.Cleanup k)
    cleanup waited requests k =
        alone_here callback.EvtCleanupCallback k (λ i.
        (may_clean (tree i) k && (nobody k i && not (is_locked (record S { locks = locks i }) k) && not (waited k i)) && is_finished (record S { tree = tree i; requests = requests i }) k && nothing_at (record S { requests = requests i }) k)
        && not (started (tree i) k callback.EvtCleanupCallback))

    pub destroy : (k : ℕ) → Alike (start_at plan S cpu rank.Destroy k) (start_at plan T cpu rank.Destroy k)
    destroy k = alone_here callback.EvtDestroyCallback k (λ i. (may_destroy (tree i) k && nobody k i) && not (started (tree i) k callback.EvtDestroyCallback))

  module _ (pnp : S.pnp ≡ T.pnp) (power : S.power ≡ T.power) (running : (c : Callback) (d : ℕ) → is_running S.cpus c d ≡ is_running T.cpus c d) (ranked : StepsRanked S) where
    sequence_ready : (r : Rank) (c : Callback) (o : ℕ) → r ≡ rank.Sequence → rank_ready plan m S r cpu c o ≡ rank_ready plan m T r cpu c o
    sequence_ready rank.Sequence c o is = λ i.
        same_option same_step (next_step (pnp i) (nearest_device (tree i) o)) (Some (step_of plan (record S { tree = tree i }) c o))
        && not (is_running_step (pnp i) (nearest_device (tree i) o))
        && (not (follows_queues_up (pnp i) (nearest_device (tree i) o))
        || (not (any_resume_due (power i) (nearest_device (tree i) o)) && not (running callback.EvtIoResume (nearest_device (tree i) o) i)))
    sequence_ready _ c o is = absurd (let z : ⊥ = cc in z)

    sequence_one : (k : ℕ) (s : Step) → next_step T.pnp k ≡ Some s → Alike (start_of_step plan S cpu k s) (start_of_step plan T cpu k s)
    sequence_one k (step.Run c None) at = alone_here c k (sequence_ready (row_of c).rank c k (ranked k c None (ap (λ X. next_step X k) pnp ∙ at)))
    sequence_one k (step.Run c (Some h)) at = alone_here c h.id.0 (sequence_ready (row_of c).rank c h.id.0 (ranked k c (Some h) (ap (λ X. next_step X k) pnp ∙ at)))
    sequence_one k (step.Pass s h) at = refl

    pub sequence : (k : ℕ) → Alike (start_at plan S cpu rank.Sequence k) (start_at plan T cpu rank.Sequence k)
    sequence k =
        ap (λ X. if_may plan m S (option_and_then (start_of_step plan S cpu k) (next_step X k))) pnp
        ∙ chained_alike plan m S T (start_of_step plan S cpu k) (start_of_step plan T cpu k) (next_step T.pnp k) (λ s at. sequence_one k s at)

  -- ---- for a request

  module _ (requests : S.requests ≡ T.requests) where
    for_here : (c : Callback) (o r : ℕ) → rank_ready_for plan S (row_of c).rank c o r ≡ rank_ready_for plan T (row_of c).rank c o r → Alike (Some (starts_for plan S cpu c o r)) (Some (starts_for plan T cpu c o r))
    for_here c o r h = for_request plan m S T cpu tree locks on c o r h

    module _ (control : S.control ≡ T.control) (power : S.power ≡ T.power) (queues : S.queues ≡ T.queues) where
      handler_ready : (k : Rank) (c : Callback) (q r : ℕ) → k ≡ rank.Handler → rank_ready_for plan S k c q r ≡ rank_ready_for plan T k c q r
      handler_ready rank.Handler c q r is = λ i. presents plan (record S { control = control i; power = power i; queues = queues i; requests = requests i }) c q r
      handler_ready _ c q r is = absurd (let z : ⊥ = cc in z)

      handler_one : (q r : ℕ) → Alike (handler_start plan S cpu q r) (handler_start plan T cpu q r)
      handler_one q r =
          ap (λ X. if_may plan m S (option_map (λ c. starts_for plan S cpu c q r) (handler_for plan q (info_of X r).form))) requests
          ∙ mapped_alike plan m S T (λ c. starts_for plan S cpu c q r) (λ c. starts_for plan T cpu c q r) (handler_for plan q (info_of T.requests r).form)
          (λ c at. for_here c q r (handler_ready (row_of c).rank c q r (handler_rank plan q (info_of T.requests r).form c at)))

      pub handler : (k : ℕ) → Alike (start_at plan S cpu rank.Handler k) (start_at plan T cpu rank.Handler k)
      handler k =
          ap (λ X. if_may plan m S (option_and_then (handler_start plan S cpu k) (front X k))) queues
          ∙ chained_alike plan m S T (handler_start plan S cpu k) (handler_start plan T cpu k) (front T.queues k) (λ r at. handler_one k r)

    pub canceled : (o k : ℕ) → Alike (start_for plan S cpu rank.CanceledOnQueue o k) (start_for plan T cpu rank.CanceledOnQueue o k)
    canceled o k = for_here callback.EvtIoCanceledOnQueue o k (λ i. is_returning_to o (place_of (requests i) k))

    module _ (targets : S.targets ≡ T.targets) where
      pub completed : (o r : ℕ) → Alike (Some (starts_for plan S cpu callback.EvtRequestCompletion o r)) (Some (starts_for plan T cpu callback.EvtRequestCompletion o r))
      completed o r = for_here callback.EvtRequestCompletion o r (λ i. is_sent_to o (place_of (requests i) r) && is_some (routine_due (targets i) r))

      pub completion : (o k : ℕ) → Alike (start_for plan S cpu rank.Completion o k) (start_for plan T cpu rank.Completion o k)
      completion o k =
          ap (λ X. if_may plan m S (option_map (λ (s : Sending). starts_for plan S cpu callback.EvtRequestCompletion o s.request.0) (slice_get (the_target X o).sent k))) targets
          ∙ mapped_alike plan m S T (λ (s : Sending). starts_for plan S cpu callback.EvtRequestCompletion o s.request.0) (λ (s : Sending). starts_for plan T cpu callback.EvtRequestCompletion o s.request.0)
          (slice_get (the_target T.targets o).sent k) (λ s at. completed o s.request.0)

      pub cancel : (o k : ℕ) → Alike (start_for plan S cpu rank.Cancel o k) (start_for plan T cpu rank.Cancel o k)
      cancel o k = for_here callback.EvtRequestCancel o k (λ i. is_due (mark_of (requests i) k) && is_held_from (record S { requests = requests i; targets = targets i }) o k)

      pub resume : S.power ≡ T.power → (o k : ℕ) → Alike (start_for plan S cpu rank.Resume o k) (start_for plan T cpu rank.Resume o k)
      resume power o k = for_here callback.EvtIoResume o k (λ i. resume_due (power i) k && is_held_from (record S { requests = requests i; targets = targets i }) o k)

      pub stop : S.power ≡ T.power → S.pnp ≡ T.pnp → (o k : ℕ) → Alike (start_for plan S cpu rank.Stop o k) (start_for plan T cpu rank.Stop o k)
      stop power pnp o k = for_here callback.EvtIoStop o k (λ i. stop_is_due plan (record S { requests = requests i; targets = targets i; power = power i; pnp = pnp i; tree = tree i }) o k)
