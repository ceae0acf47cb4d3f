-- What may come and has a place is a candidate.
use Rattle.std.proofs.Common.{◌≡◌, inl, inr, ℕ, ◌==◌, ◌<◌, true, not, ◌&&◌, ◌||◌, length, count_by, Option, Some, None, is_some, option_map, refl, sym, ap, subst, ◌∙◌, arith}
use Rattle.std.specs.Prelude.{nat_lt}
use Rattle.std.proofs.lemmas.Bool.{eqb-true, ltb-true}
use Rattle.wdf_base.specs.Meaning.{Meaning}
use Rattle.wdf_base.specs.Callbacks.{row_of, dpc_function}
use Rattle.wdf_base.specs.Same.{same_callback, same_event, same_handle, same_option, same_post, same_step}
use Rattle.wdf_base.specs.declared.call.Callback.{Callback}
use Rattle.wdf_base.specs.declared.call.Callback.TheVariants as callback
use Rattle.wdf_base.specs.declared.event.Event.{Event}
use Rattle.wdf_base.specs.declared.event.Event.TheVariants as event
use Rattle.wdf_base.specs.declared.event.Step.{Step}
use Rattle.wdf_base.specs.declared.event.Step.TheVariants as step
use Rattle.wdf_base.specs.declared.ids.Cpu.{Cpu}
use Rattle.wdf_base.specs.declared.ids.Handle.{Handle}
use Rattle.wdf_base.specs.declared.object.Place.{Place}
use Rattle.wdf_base.specs.declared.object.Place.TheVariants as place
use Rattle.wdf_base.specs.declared.plan.Plan.{Plan}
use Rattle.wdf_base.specs.declared.rank.Rank.{Rank}
use Rattle.wdf_base.specs.declared.rank.Rank.TheVariants as rank
use Rattle.wdf_base.specs.declared.value.Status.{Status}
use Rattle.wdf_base.specs.Places.{is_sent_to}
use Rattle.wdf_model.specs.Plans.{callback_irql, declared_ids, handler_for, interrupt_of, is_manual_queue, queue_of, target_of, targets_of}
use Rattle.wdf_model.specs.State.{State, declared_in, declares_in, handle_in, is_proper, queue_delivers}
use Rattle.wdf_model.specs.Tables.{contains, flag, same_id}
use Rattle.wdf_model.specs.declared.entries.Sending.{Sending}
use Rattle.wdf_model.specs.declared.entries.Timed.{Timed}
use Rattle.wdf_model.specs.declared.enums.Group.{Group}
use Rattle.wdf_model.specs.declared.enums.Group.TheVariants as group
use Rattle.law_machine_base.specs.OverRuns.{PlacesAgree}
use Rattle.wdf_model.specs.parts.Cpus.{frame_of, irql, is_empty_cpu, nobody_on, top}
use Rattle.wdf_model.specs.parts.Deferred.Dpcs.{dpc_head}
use Rattle.wdf_model.specs.parts.Deferred.Timers.{is_reached, timed_of, timer_due}
use Rattle.wdf_model.specs.parts.Deferred.WorkItems.{is_work_queued}
use Rattle.wdf_model.specs.parts.Locks.{is_free_if_any, lock_of_callback}
use Rattle.wdf_model.specs.parts.Pnp.{follows_queues_up, is_running_step, next_step}
use Rattle.wdf_model.specs.parts.Queues.{front, is_free}
use Rattle.wdf_model.specs.parts.Requests.{info_of, place_of}
use Rattle.wdf_model.specs.parts.Targets.{routine_due, the_target}
use Rattle.wdf_model.specs.parts.Tree.{kind_of, next_id}
use Rattle.wdf_model.specs.rules.Groups.{RANKS, candidate, candidates, declared_end, groups_for, groups_of_cpu, groups_of_rank, handler_start, parks, places_for, places_of_rank, posted, queues_in, start_at, start_for, starts, starts_for, unparks}
use Rattle.wdf_model.specs.rules.Posts.{due_of, post_answer, post_fits}
use Rattle.wdf_model.specs.rules.Starts.{callback_over, clean_ready, destroy_ready, is_ready_for, level_fits, life_fits, may_pass, may_start, rank_ready, rank_ready_for, resumes_over, stage_ready, step_ready}
use Rattle.wdf_model.specs.rules.Steps.{is_closing_with, is_cpu, is_own_event, is_proper_if_any, may, may_unpark, own_event, wait_is_over, waits_on}
use Rattle.wdf_model.proofs.Sames.{callback_decides, did_same, end_same, status_decides, waiting_same, woke_same}
use Rattle.wdf_model.proofs.Tests.{both_left, both_right}
use Rattle.law_stuck_causes.proofs.Members.{Has, at_of, has_flat, has_image, has_kept, has_range}
use Rattle.law_stuck_causes.proofs.Needs.{cpu_group, framework_group, placed_at}
use Rattle.law_machine_places.specs.Placed.{device_of_step, has_place, has_queue, has_start, has_start_for, has_target, is_declared_id, is_step_on}
use Rattle.law_machine_places.proofs.Members.{Passing, counted_at, found_at}
use Rattle.law_machine_places.proofs.Rows.{canceled_only, cancel_only, cleanup_only, completion_only, destroy_only, isr_only, post_is, resume_only, some_same, state_only, stop_only, timer_only, work_only}
use Rattle.law_machine_counts.proofs.Sames.{fault_same, local_same, log_same, option_handle_is, pass_is, register_same, spend_same}
use Rattle.law_machine_counts.proofs.StepTable.{top_is}

-- ---- the groups of a processor

rank_listed : (r : Rank) → Has r RANKS
rank_listed rank.Isr = inl refl
rank_listed rank.Deferred = inr (inl refl)
rank_listed rank.Timed = inr (inr (inl refl))
rank_listed rank.Completion = inr (inr (inr (inl refl)))
rank_listed rank.Cancel = inr (inr (inr (inr (inl refl))))
rank_listed rank.CanceledOnQueue = inr (inr (inr (inr (inr (inl refl)))))
rank_listed rank.Stop = inr (inr (inr (inr (inr (inr (inl refl))))))
rank_listed rank.Resume = inr (inr (inr (inr (inr (inr (inr (inl refl)))))))
rank_listed rank.QueueState = inr (inr (inr (inr (inr (inr (inr (inr (inl refl))))))))
rank_listed rank.Handler = inr (inr (inr (inr (inr (inr (inr (inr (inr (inl refl)))))))))
rank_listed rank.Sequence = inr (inr (inr (inr (inr (inr (inr (inr (inr (inr (inl refl))))))))))
rank_listed rank.Work = inr (inr (inr (inr (inr (inr (inr (inr (inr (inr (inr (inl refl)))))))))))
rank_listed rank.Cleanup = inr (inr (inr (inr (inr (inr (inr (inr (inr (inr (inr (inr (inl refl))))))))))))
rank_listed rank.Destroy = inr (inr (inr (inr (inr (inr (inr (inr (inr (inr (inr (inr (inr (inl refl)))))))))))))

of_rank : (plan : Plan) (cpu : ℕ) (r : Rank) (g : Group) → Has g (groups_of_rank plan cpu r) → Has g (groups_of_cpu plan cpu)
of_rank plan cpu r g h = inr (inr (inr (has_flat (groups_of_rank plan cpu) r g RANKS (rank_listed r) h)))

queue_listed : (plan : Plan) (q : ℕ) → has_queue plan q ≡ true → Has q (queues_in plan)
queue_listed plan q h =
    let low : q < declared_end plan = ltb-true q (declared_end plan) (both_right (is_some (queue_of plan q)) (is_declared_id plan q) h) in
    has_kept (λ id. is_some (queue_of plan id)) q (declared_ids plan) (has_range q 0 (declared_end plan) (omega arith) (omega (arith, low))) (both_left (is_some (queue_of plan q)) (is_declared_id plan q) h)

target_listed : (plan : Plan) (t : ℕ) → has_target plan t ≡ true → Has t (targets_of plan)
target_listed plan t h =
    let low : t < declared_end plan = ltb-true t (declared_end plan) (both_right (is_some (target_of plan t)) (is_declared_id plan t) h) in
    has_kept (λ id. is_some (target_of plan id)) t (declared_ids plan) (has_range t 0 (declared_end plan) (omega arith) (omega (arith, low))) (both_left (is_some (target_of plan t)) (is_declared_id plan t) h)

module _ {A : Type 0} (plan : Plan) (m : Meaning A) (S : State A) where
  proper_is : (h : Handle) → is_proper plan S h ≡ true → h ≡ handle_in plan S h.id.0
  proper_is h k = let e : h.name ≡ (handle_in plan S h.id.0).name = eqb-true h.name (handle_in plan S h.id.0).name k in λ i. record { id = h.id; name = e i }

  -- ---- starts

  listed : (cpu : ℕ) (r : Rank) (k : ℕ) (e : Event) → cpu < plan.cpus → Has (group.Starts cpu r) (groups_of_rank plan cpu r) → k < places_of_rank plan S r → start_at plan S cpu r k ≡ Some e → Has e (candidates plan m S)
  listed cpu r k e low own within at =
      cpu_group plan m S cpu (group.Starts cpu r) e low (of_rank plan cpu r (group.Starts cpu r) own) (placed_at plan m S (group.Starts cpu r) (places_of_rank plan S r) k e within at)

  listed_for : (cpu : ℕ) (r : Rank) (o k : ℕ) (e : Event) → cpu < plan.cpus → Has (group.StartsFor cpu r o) (groups_of_rank plan cpu r) → k < places_for plan S r o → start_for plan S cpu r o k ≡ Some e → Has e (candidates plan m S)
  listed_for cpu r o k e low own within at =
      cpu_group plan m S cpu (group.StartsFor cpu r o) e low (of_rank plan cpu r (group.StartsFor cpu r o) own) (placed_at plan m S (group.StartsFor cpu r o) (places_for plan S r o) k e within at)

  timer_start : (cpu o : ℕ) (t : Option Timed) → cpu < plan.cpus → timed_of S.timers o ≡ t → is_reached S.clock t ≡ true → Has (starts plan S cpu callback.EvtTimerFunc o) (candidates plan m S)
  timer_start cpu o None low e h = absurd (let z : ⊥ = cc in z)
  timer_start cpu o (Some t) low e h =
      let found = found_at (λ (x : Timed). x.timer.0 == o) t S.timers.queued e in
      let p : Passing (λ (x : Timed). x.timer.0 == o) S.timers.queued = found.0 in
      let same : p.item.timer.0 ≡ o = eqb-true p.item.timer.0 o p.passes in
      listed cpu rank.Timed p.place (starts plan S cpu callback.EvtTimerFunc o) low (inl refl) p.below
      (ap (λ x. option_map (λ (y : Timed). starts plan S cpu callback.EvtTimerFunc y.timer.0) x) p.there ∙ ap (λ x. Some (starts plan S cpu callback.EvtTimerFunc x)) same)

  step_at : (cpu d o : ℕ) (c : Callback) (s : Option Step) → next_step S.pnp d ≡ s → is_step_on d c o s ≡ true → start_at plan S cpu rank.Sequence d ≡ Some (starts plan S cpu c o)
  step_at cpu d o c None e h = absurd (let z : ⊥ = cc in z)
  step_at cpu d o c (Some (step.Pass s i)) e h = absurd (let z : ⊥ = cc in z)
  step_at cpu d o c (Some (step.Run b None)) e h =
      let x : b ≡ c = (callback_decides b c).0 (both_left (same_callback b c) (d == o) h) in
      let y : d ≡ o = eqb-true d o (both_right (same_callback b c) (d == o) h) in
      let at : start_at plan S cpu rank.Sequence d ≡ Some (starts plan S cpu b d) = rw e refl in
      at ∙ ap (λ z. Some (starts plan S cpu z d)) x ∙ ap (λ z. Some (starts plan S cpu c z)) y
  step_at cpu d o c (Some (step.Run b (Some i))) e h =
      let x : b ≡ c = (callback_decides b c).0 (both_left (same_callback b c) (i.id.0 == o) h) in
      let y : i.id.0 ≡ o = eqb-true i.id.0 o (both_right (same_callback b c) (i.id.0 == o) h) in
      let at : start_at plan S cpu rank.Sequence d ≡ Some (starts plan S cpu b i.id.0) = rw e refl in
      at ∙ ap (λ z. Some (starts plan S cpu z i.id.0)) x ∙ ap (λ z. Some (starts plan S cpu c z)) y

  start_found : (cpu : ℕ) (c : Callback) (o : ℕ) (r : Rank) → cpu < plan.cpus → (row_of c).rank ≡ r → rank_ready plan m S r cpu c o ≡ true → has_start plan S c o r ≡ true → Has (starts plan S cpu c o) (candidates plan m S)
  start_found cpu c o rank.Isr low is ready has =
      let there = both_left (is_some (interrupt_of plan o)) (is_declared_id plan o) has in
      let within : o < declared_end plan = ltb-true o (declared_end plan) (both_right (is_some (interrupt_of plan o)) (is_declared_id plan o) has) in
      rw (isr_only c is) (listed cpu rank.Isr o (starts plan S cpu callback.EvtInterruptIsr o) low (inl refl) within (rw there refl))
  start_found cpu c o rank.Deferred low is ready has =
      let head : dpc_head S.dpcs cpu ≡ Some o = top_is (dpc_head S.dpcs cpu) o ready in
      let same : c ≡ dpc_function (kind_of S.tree o) = (callback_decides c (dpc_function (kind_of S.tree o))).0 has in
      rw same (listed cpu rank.Deferred 0 (starts plan S cpu (dpc_function (kind_of S.tree o)) o) low (inl refl) (omega arith) (rw head refl))
  start_found cpu c o rank.Timed low is ready has = rw (timer_only c is) (timer_start cpu o (timed_of S.timers o) low refl (both_left (timer_due S.timers o S.clock) (nobody_on S.cpus o) ready))
  start_found cpu c o rank.QueueState low is ready has =
      let there = both_left (is_some (queue_of plan o)) (is_declared_id plan o) has in
      let within : o < declared_end plan = ltb-true o (declared_end plan) (both_right (is_some (queue_of plan o)) (is_declared_id plan o) has) in
      rw (state_only c is) (listed cpu rank.QueueState o (starts plan S cpu callback.EvtIoQueueState o) low (inl refl) within (rw there refl))
  start_found cpu c o rank.Sequence low is ready has =
      let d = device_of_step plan o in
      let within : device_of_step plan o < declared_end plan = ltb-true (device_of_step plan o) (declared_end plan)
      (both_left (is_declared_id plan (device_of_step plan o)) (is_step_on (device_of_step plan o) c o (next_step S.pnp (device_of_step plan o))) has) in
      listed cpu rank.Sequence (device_of_step plan o) (starts plan S cpu c o) low (inl refl) within
      (step_at cpu (device_of_step plan o) o c (next_step S.pnp (device_of_step plan o)) refl
      (both_right (is_declared_id plan (device_of_step plan o)) (is_step_on (device_of_step plan o) c o (next_step S.pnp (device_of_step plan o))) has))
  start_found cpu c o rank.Work low is ready has =
      let at = at_of o S.work_items.queued (both_left (is_work_queued S.work_items o) (nobody_on S.cpus o) ready) in
      rw (work_only c is) (listed cpu rank.Work at.place (starts plan S cpu callback.EvtWorkItem o) low (inl refl) at.low (ap (λ x. option_map (λ y. starts plan S cpu callback.EvtWorkItem y) x) at.is))
  start_found cpu c o rank.Cleanup low is ready has =
      rw (cleanup_only c is) (listed cpu rank.Cleanup o (starts plan S cpu callback.EvtCleanupCallback o) low (inl refl) (ltb-true o (places_of_rank plan S rank.Cleanup) has) refl)
  start_found cpu c o rank.Destroy low is ready has =
      rw (destroy_only c is) (listed cpu rank.Destroy o (starts plan S cpu callback.EvtDestroyCallback o) low (inl refl) (ltb-true o (places_of_rank plan S rank.Destroy) has) refl)
  start_found cpu c o _ low is ready has = absurd (let z : ⊥ = cc in z)

  -- ---- starts for a request

  queue_start : (cpu : ℕ) (c b : Callback) (o r : ℕ) (k : Rank) → cpu < plan.cpus → c ≡ b → ((g : Group) → Has g (groups_for cpu k (queues_in plan)) → Has g (groups_of_rank plan cpu k))
      → (has_queue plan o && nat_lt r (places_for plan S k o)) ≡ true → start_for plan S cpu k o r ≡ Some (starts_for plan S cpu b o r) → Has (starts_for plan S cpu c o r) (candidates plan m S)
  queue_start cpu c b o r k low same of has at =
      let there = queue_listed plan o (both_left (has_queue plan o) (nat_lt r (places_for plan S k o)) has) in
      let within = ltb-true r (places_for plan S k o) (both_right (has_queue plan o) (nat_lt r (places_for plan S k o)) has) in
      rw same (listed_for cpu k o r (starts_for plan S cpu b o r) low (of (group.StartsFor cpu k o) (has_image (λ x. group.StartsFor cpu k x) o (queues_in plan) there)) within at)

  handler_found : (cpu : ℕ) (c : Callback) (o r : ℕ) → front S.queues o ≡ Some r → handler_for plan o (info_of S.requests r).form ≡ Some c → start_at plan S cpu rank.Handler o ≡ Some (starts_for plan S cpu c o r)
  handler_found cpu c o r first handled = let at : start_at plan S cpu rank.Handler o ≡ handler_start plan S cpu o r = rw first refl in at ∙ rw handled refl

  start_for_found : PlacesAgree S → (cpu : ℕ) (c : Callback) (o r : ℕ) (k : Rank) → cpu < plan.cpus → (row_of c).rank ≡ k → rank_ready_for plan S k c o r ≡ true → has_start_for plan S o r k ≡ true
      → Has (starts_for plan S cpu c o r) (candidates plan m S)
  start_for_found agree cpu c o r rank.Handler low is ready has =
      let presented = both_left (not (is_manual_queue plan o) && queue_delivers plan S o && is_free S.queues o && same_id (front S.queues o) r) (same_option same_callback (handler_for plan o (info_of S.requests r).form) (Some c)) ready in
      let handled = both_right (not (is_manual_queue plan o) && queue_delivers plan S o && is_free S.queues o && same_id (front S.queues o) r) (same_option same_callback (handler_for plan o (info_of S.requests r).form) (Some c)) ready in
      let first : front S.queues o ≡ Some r = top_is (front S.queues o) r (both_right (not (is_manual_queue plan o) && queue_delivers plan S o && is_free S.queues o) (same_id (front S.queues o) r) presented) in
      listed cpu rank.Handler o (starts_for plan S cpu c o r) low (inl refl) (ltb-true o (declared_end plan) has)
      (handler_found cpu c o r first (some_same same_callback (λ x y. (callback_decides x y).0) (handler_for plan o (info_of S.requests r).form) c handled))
  start_for_found agree cpu c o r rank.Completion low is ready has =
      let sent = both_left (is_sent_to o (place_of S.requests r)) (is_some (routine_due S.targets r)) ready in
      let one : count_by (λ (s : Sending). s.request.0 == r) (the_target S.targets o).sent ≡ 1 = agree.sent o r ∙ ap flag sent in
      let p : Passing (λ (s : Sending). s.request.0 == r) (the_target S.targets o).sent = counted_at (λ (s : Sending). s.request.0 == r) (the_target S.targets o).sent (omega arith) in
      let same : p.item.request.0 ≡ r = eqb-true p.item.request.0 r p.passes in
      rw (completion_only c is) (listed_for cpu rank.Completion o p.place (starts_for plan S cpu callback.EvtRequestCompletion o r) low
      (has_image (λ x. group.StartsFor cpu rank.Completion x) o (targets_of plan) (target_listed plan o has)) p.below
      (ap (λ x. option_map (λ (s : Sending). starts_for plan S cpu callback.EvtRequestCompletion o s.request.0) x) p.there ∙ ap (λ x. Some (starts_for plan S cpu callback.EvtRequestCompletion o x)) same))
  start_for_found agree cpu c o r rank.Cancel low is ready has = queue_start cpu c callback.EvtRequestCancel o r rank.Cancel low (cancel_only c is) (λ g h. h) has refl
  start_for_found agree cpu c o r rank.CanceledOnQueue low is ready has = queue_start cpu c callback.EvtIoCanceledOnQueue o r rank.CanceledOnQueue low (canceled_only c is) (λ g h. h) has refl
  start_for_found agree cpu c o r rank.Stop low is ready has = queue_start cpu c callback.EvtIoStop o r rank.Stop low (stop_only c is) (λ g h. h) has refl
  start_for_found agree cpu c o r rank.Resume low is ready has = queue_start cpu c callback.EvtIoResume o r rank.Resume low (resume_only c is) (λ g h. h) has refl
  start_for_found agree cpu c o r _ low is ready has = absurd (let z : ⊥ = cc in z)

  -- a start is that of its object, and of its request
  start_of : PlacesAgree S → (cpu : Cpu) (c : Callback) (o : Handle) (r : Option Handle) → cpu.0 < plan.cpus → o ≡ handle_in plan S o.id.0 → is_proper_if_any plan S r ≡ true → is_ready_for plan m S cpu.0 c o.id.0 r ≡ true
      → has_place plan S (event.Start cpu c o r) ≡ true → Has (event.Start cpu c o r) (candidates plan m S)
  start_of agree cpu c o None low is proper ready has =
      subst (λ x. Has (event.Start cpu c x None) (candidates plan m S)) (sym is) (start_found cpu.0 c o.id.0 (row_of c).rank low refl ready has)
  start_of agree cpu c o (Some r) low is proper ready has =
      subst (λ x. Has (event.Start cpu c x (Some r)) (candidates plan m S)) (sym is)
      (subst (λ x. Has (event.Start cpu c (handle_in plan S o.id.0) (Some x)) (candidates plan m S)) (sym (proper_is r proper)) (start_for_found agree cpu.0 c o.id.0 r.id.0 (row_of c).rank low refl ready has))

  start_comes : PlacesAgree S → (cpu : Cpu) (c : Callback) (o : Handle) (r : Option Handle) → may plan m S (event.Start cpu c o r) ≡ true → has_place plan S (event.Start cpu c o r) ≡ true → Has (event.Start cpu c o r) (candidates plan m S)
  start_comes agree cpu c o r comes has =
      let begins = both_right (is_cpu plan cpu && is_proper plan S o && is_proper_if_any plan S r) (may_start plan m S cpu.0 c o.id.0 r) comes in
      let named = both_left (is_cpu plan cpu && is_proper plan S o && is_proper_if_any plan S r) (may_start plan m S cpu.0 c o.id.0 r) comes in
      let proper = both_right (is_cpu plan cpu && is_proper plan S o) (is_proper_if_any plan S r) named in
      let on = both_left (is_cpu plan cpu && is_proper plan S o) (is_proper_if_any plan S r) named in
      let ready = both_right (declares_in plan S c o.id.0 && life_fits S c o.id.0 && level_fits S cpu.0 (callback_irql plan c o.id.0) && is_free_if_any S.locks (lock_of_callback plan c o.id.0 (declared_in plan S o.id.0)))
      (is_ready_for plan m S cpu.0 c o.id.0 r) begins in
      start_of agree cpu c o r (ltb-true cpu.0 plan.cpus (both_left (is_cpu plan cpu) (is_proper plan S o) on)) (proper_is o (both_right (is_cpu plan cpu) (is_proper plan S o) on)) proper ready has

  -- ---- frames

  own_found : (cpu : Cpu) (e : Event) → ((x : Event) → same_event x e ≡ true → x ≡ e) → is_own_event plan m S cpu e ≡ true → is_cpu plan cpu ≡ true → Has e (candidates plan m S)
  own_found cpu e is own low = own_by (own_event plan m S cpu.0) refl own
    where
      own_by : (x : Option Event) → own_event plan m S cpu.0 ≡ x → same_option same_event x (Some e) ≡ true → Has e (candidates plan m S)
      own_by None at h = absurd (let z : ⊥ = cc in z)
      own_by (Some x) at h =
          cpu_group plan m S cpu.0 (group.OwnEvent cpu.0) e (ltb-true cpu.0 plan.cpus low) (inl refl) (placed_at plan m S (group.OwnEvent cpu.0) 1 0 e (omega arith) (at ∙ ap Some (is x h)))

  closing_found : (r : Handle) (s : Status) (p : Place) → place_of S.requests r.id.0 ≡ p → is_closing_with p s ≡ true → candidate plan m S group.Completions r.id.0 ≡ Some (event.Complete (handle_in plan S r.id.0) s)
  closing_found r s (place.Closing t) e h = let same : t ≡ s = (status_decides t s).0 h in rw e (ap (λ x. Some (event.Complete (handle_in plan S r.id.0) x)) same)
  closing_found r s _ e h = absurd (let z : ⊥ = cc in z)

  -- ---- each kind of event

  pub found : PlacesAgree S → (e : Event) → may plan m S e ≡ true → has_place plan S e ≡ true → Has e (candidates plan m S)
  found agree (event.Start cpu c o r) comes has = start_comes agree cpu c o r comes has
  found agree (event.Local cpu n) comes has = own_found cpu (event.Local cpu n) (λ x h. local_same x cpu n h) comes has
  found agree (event.Log cpu v) comes has = own_found cpu (event.Log cpu v) (λ x h. log_same x cpu v h) comes has
  found agree (event.Spend cpu n) comes has = own_found cpu (event.Spend cpu n) (λ x h. spend_same x cpu n h) comes has
  found agree (event.Register cpu a k v) comes has = own_found cpu (event.Register cpu a k v) (λ x h. register_same x cpu a k v h) comes has
  found agree (event.Did cpu c v) comes has = own_found cpu (event.Did cpu c v) (λ x h. did_same x cpu c v h) comes has
  found agree (event.Waiting cpu c) comes has = own_found cpu (event.Waiting cpu c) (λ x h. waiting_same x cpu c h) comes has
  found agree (event.Woke cpu c v) comes has = own_found cpu (event.Woke cpu c v) (λ x h. woke_same x cpu c v h) comes has
  found agree (event.End cpu c o v) comes has = own_found cpu (event.End cpu c o v) (λ x h. end_same x cpu c o v h) comes has
  found agree (event.Fault cpu x n) comes has = own_found cpu (event.Fault cpu x n) (λ y h. fault_same y cpu x n h) comes has
  found agree (event.Park cpu f) comes has =
      let leaves = both_left (same_id (top S.cpus cpu.0) f.0 && irql S.cpus cpu.0 == 0) (waits_on S (frame_of S.cpus f.0).pending) comes in
      let first : top S.cpus cpu.0 ≡ Some f.0 = top_is (top S.cpus cpu.0) f.0 (both_left (same_id (top S.cpus cpu.0) f.0) (irql S.cpus cpu.0 == 0) leaves) in
      cpu_group plan m S cpu.0 (group.Parks cpu.0) (event.Park cpu f) (ltb-true cpu.0 plan.cpus has) (inr (inl refl))
      (placed_at plan m S (group.Parks cpu.0) 1 0 (event.Park cpu f) (omega arith) (ap (option_map (parks cpu.0)) first))
  found agree (event.Unpark cpu f) comes has =
      let back = both_left (contains f.0 S.cpus.parked && is_empty_cpu S.cpus cpu.0) (wait_is_over S (frame_of S.cpus f.0).pending) (both_right (is_cpu plan cpu) (may_unpark S cpu.0 f.0) comes) in
      let at = at_of f.0 S.cpus.parked (both_left (contains f.0 S.cpus.parked) (is_empty_cpu S.cpus cpu.0) back) in
      cpu_group plan m S cpu.0 (group.Unparks cpu.0) (event.Unpark cpu f) (ltb-true cpu.0 plan.cpus has) (inr (inr (inl refl)))
      (placed_at plan m S (group.Unparks cpu.0) (length S.cpus.parked) at.place (event.Unpark cpu f) at.low (ap (option_map (unparks cpu.0)) at.is))
  found agree (event.Stage d s i) comes has =
      let proper = proper_is d (both_left (is_proper plan S d) (may_pass plan S d.id.0 s i) comes) in
      let ready = both_left (step_ready S d.id.0 (step.Pass s i)) (stage_ready plan S d.id.0 s i) (both_right (is_proper plan S d) (may_pass plan S d.id.0 s i) comes) in
      let is_next = both_left (same_option same_step (next_step S.pnp d.id.0) (Some (step.Pass s i)) && not (is_running_step S.pnp d.id.0)) (not (follows_queues_up S.pnp d.id.0) || resumes_over S d.id.0) ready in
      let at : next_step S.pnp d.id.0 ≡ Some (step.Pass s i) = pass_is (next_step S.pnp d.id.0) s i (both_left (same_option same_step (next_step S.pnp d.id.0) (Some (step.Pass s i))) (not (is_running_step S.pnp d.id.0)) is_next) in
      subst (λ x. Has (event.Stage x s i) (candidates plan m S)) (sym proper)
      (framework_group plan m S group.Stages (event.Stage (handle_in plan S d.id.0) s i) (inl refl)
      (placed_at plan m S group.Stages (declared_end plan) d.id.0 (event.Stage (handle_in plan S d.id.0) s i) (ltb-true d.id.0 (declared_end plan) has) (rw at refl)))
  found agree (event.Complete r s) comes has =
      let proper = proper_is r (both_left (is_proper plan S r) (is_closing_with (place_of S.requests r.id.0) s) comes) in
      let closing = both_right (is_proper plan S r) (is_closing_with (place_of S.requests r.id.0) s) comes in
      subst (λ x. Has (event.Complete x s) (candidates plan m S)) (sym proper)
      (framework_group plan m S group.Completions (event.Complete (handle_in plan S r.id.0) s) (inr (inl refl))
      (placed_at plan m S group.Completions (length S.requests.all) r.id.0 (event.Complete (handle_in plan S r.id.0) s) (ltb-true r.id.0 (length S.requests.all) has) (closing_found r s (place_of S.requests r.id.0) refl closing)))
  found agree (event.Cleanup o) comes has =
      let named = both_left (is_proper plan S o && clean_ready S o.id.0) (callback_over plan S callback.EvtCleanupCallback o.id.0) comes in
      let proper = proper_is o (both_left (is_proper plan S o) (clean_ready S o.id.0) named) in
      subst (λ x. Has (event.Cleanup x) (candidates plan m S)) (sym proper)
      (framework_group plan m S group.Cleanups (event.Cleanup (handle_in plan S o.id.0)) (inr (inr (inl refl)))
      (placed_at plan m S group.Cleanups (next_id S.tree) o.id.0 (event.Cleanup (handle_in plan S o.id.0)) (ltb-true o.id.0 (next_id S.tree) has) refl))
  found agree (event.Destroy o) comes has =
      let named = both_left (is_proper plan S o && destroy_ready S o.id.0) (callback_over plan S callback.EvtDestroyCallback o.id.0) comes in
      let proper = proper_is o (both_left (is_proper plan S o) (destroy_ready S o.id.0) named) in
      subst (λ x. Has (event.Destroy x) (candidates plan m S)) (sym proper)
      (framework_group plan m S group.Destroys (event.Destroy (handle_in plan S o.id.0)) (inr (inr (inr (inl refl))))
      (placed_at plan m S group.Destroys (next_id S.tree) o.id.0 (event.Destroy (handle_in plan S o.id.0)) (ltb-true o.id.0 (next_id S.tree) has) refl))
  found agree (event.Posted agent p answer) comes has =
      let posts = both_left (same_option same_post (due_of m S agent) (Some p) && post_fits plan S agent p) (same_option same_handle (post_answer plan S agent p) answer) comes in
      let answers : post_answer plan S agent p ≡ answer = option_handle_is (post_answer plan S agent p) answer (both_right (same_option same_post (due_of m S agent) (Some p) && post_fits plan S agent p) (same_option same_handle (post_answer plan S agent p) answer) comes) in
      let due : due_of m S agent ≡ Some p = some_same same_post post_is (due_of m S agent) p (both_left (same_option same_post (due_of m S agent) (Some p)) (post_fits plan S agent p) posts) in
      framework_group plan m S group.Posts (event.Posted agent p answer) (inr (inr (inr (inr (inl refl)))))
      (placed_at plan m S group.Posts (length S.agents) agent (event.Posted agent p answer) (ltb-true agent (length S.agents) has)
      (ap (option_map (posted plan S agent)) due ∙ ap (λ x. Some (event.Posted agent p x)) answers))
  found agree (event.Tick time) comes has = absurd (let z : ⊥ = cc in z)
