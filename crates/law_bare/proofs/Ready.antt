-- What may follow in a state is the same without the numbers of lines, for agents that don't see them.
use Rattle.std.proofs.Common.{◌≡◌, ℕ, Bool, true, false, ◌&&◌, nat_lt, List, [], ◌∷◌, ◌++◌, filter, map, Option, Some, None, is_some, option_map, slice_get, refl, sym, ap, ◌∙◌}
use Rattle.std.specs.Prelude.{⊤, option_and_then}
use Rattle.std.specs.List.{cons_option, filter_map, flat_map, list_any, range_with_len}
use Rattle.std.proofs.lemmas.List.{length-map, map-append}
use Rattle.std.proofs.lemmas.List.Elements.{filter-append}
use Rattle.wdf_base.specs.Callbacks.{dpc_function, row_of}
use Rattle.wdf_base.specs.Meaning.{Meaning}
use Rattle.wdf_base.specs.declared.call.Call.{Call}
use Rattle.wdf_base.specs.declared.call.Callback.{Callback}
use Rattle.wdf_base.specs.declared.call.Callback.TheVariants as callback
use Rattle.wdf_base.specs.declared.event.Access.TheVariants as access
use Rattle.wdf_base.specs.declared.event.Event.{Event}
use Rattle.wdf_base.specs.declared.event.Event.TheVariants as event
use Rattle.wdf_base.specs.declared.event.Fault.{Fault}
use Rattle.wdf_base.specs.declared.event.Fault.TheVariants as fault
use Rattle.wdf_base.specs.declared.event.Post.{Post}
use Rattle.wdf_base.specs.declared.event.Post.TheVariants as post
use Rattle.wdf_base.specs.declared.event.Step.{Step}
use Rattle.wdf_base.specs.declared.event.Step.TheVariants as step
use Rattle.wdf_base.specs.declared.frame.Intent.{Intent}
use Rattle.wdf_base.specs.declared.frame.Intent.TheVariants as intent
use Rattle.wdf_base.specs.declared.frame.Pending.{Pending}
use Rattle.wdf_base.specs.declared.ids.Handle.{Handle}
use Rattle.wdf_base.specs.declared.object.Place.{Place}
use Rattle.wdf_base.specs.declared.object.Place.TheVariants as place
use Rattle.wdf_base.specs.declared.plan.Plan.{Plan}
use Rattle.wdf_base.specs.declared.rank.Rank.{Rank}
use Rattle.wdf_base.specs.declared.rank.Rank.TheVariants as rank
use Rattle.wdf_model.specs.declared.entries.Sending.{Sending}
use Rattle.wdf_model.specs.declared.entries.Timed.{Timed}
use Rattle.wdf_model.specs.declared.enums.Group.{Group}
use Rattle.wdf_model.specs.declared.enums.Group.TheVariants as group
use Rattle.wdf_model.specs.Ids.{cpu_of}
use Rattle.wdf_model.specs.Plans.{device_of_register, interrupt_of, queue_of}
use Rattle.wdf_model.specs.parts.Cpus.{frame_of, top}
use Rattle.wdf_model.specs.parts.Deferred.Dpcs.{dpc_head}
use Rattle.wdf_model.specs.parts.Pnp.{next_step}
use Rattle.wdf_model.specs.parts.Queues.{front}
use Rattle.wdf_model.specs.parts.Requests.{info_of, place_of}
use Rattle.wdf_model.specs.parts.Targets.{the_target}
use Rattle.wdf_model.specs.parts.Tree.{kind_of}
use Rattle.wdf_model.specs.State.{State, declared_in, is_proper}
use Rattle.wdf_model.specs.rules.Calls.{is_met, is_met_then}
use Rattle.wdf_model.specs.rules.Faults.{fault_of}
use Rattle.wdf_model.specs.rules.Groups.{callback_for, candidate, candidates_in, completion_at, groups, handler_start, if_there, parks, places_for, places_in, places_of_rank, posted, stage_of_step, start_at, start_of_step, starts, starts_for, unparks}
use Rattle.wdf_model.specs.rules.Posts.{due_of, post_fits}
use Rattle.wdf_model.specs.rules.Ready.{allowed, or_tick, ready_in, waits_for_time}
use Rattle.wdf_model.specs.rules.Script.{intent_of}
use Rattle.wdf_model.specs.rules.Starts.{device_of_interrupt, is_ready_for, line_number, may_start, rank_ready, rank_ready_for, shown, value_of_agent}
use Rattle.wdf_model.specs.rules.Steps.{event_of_frame, event_of_top, fault_event, intent_event, is_cpu, is_proper_if_any, may, next_event, own_event, spends, view_of, woken_event}
use Rattle.law_machine_own.proofs.MayCome.{own_may as own_comes}
use Rattle.law_bare.specs.Bare.{SeesNoLines, bare_event}
use Rattle.law_bare.specs.Lines.{bare_plan}
use Rattle.law_bare.proofs.Deeds.{met_same, outcome_same, with_agents}
use Rattle.law_bare.proofs.Lists.{at_mapped}
use Rattle.law_bare.proofs.Plans.{declares_same, device_agent_same, device_of_same, handler_same, intent_same, line_none, script_on_same, somewhere_same, target_of_same}

-- ---- events that aren't a frame's own

abbrev is_outer : Event → Bool
is_outer (event.Start cpu c o r) = true
is_outer (event.Park cpu f) = true
is_outer (event.Unpark cpu f) = true
is_outer (event.Stage d s i) = true
is_outer (event.Complete r s) = true
is_outer (event.Cleanup o) = true
is_outer (event.Destroy o) = true
is_outer (event.Posted a p answer) = true
is_outer (event.Tick time) = true
is_outer _ = false

outer_bare : (e : Event) → is_outer e ≡ true → bare_event e ≡ e
outer_bare (event.Local cpu line) h = absurd (let z : ⊥ = cc in z)
outer_bare (event.Fault cpu x line) h = absurd (let z : ⊥ = cc in z)
outer_bare _ h = refl

abbrev Outer : Option Event → Type 0
Outer None = ⊤
Outer (Some e) = is_outer e ≡ true

outer_map : {T : Type 0} (f : T → Event) → ((x : T) → is_outer (f x) ≡ true) → (o : Option T) → Outer (option_map f o)
outer_map f h None = tt
outer_map f h (Some x) = h x

outer_then : {T : Type 0} (f : T → Option Event) → ((x : T) → Outer (f x)) → (o : Option T) → Outer (option_and_then f o)
outer_then f h None = tt
outer_then f h (Some x) = h x

outer_if : (b : Bool) (e : Event) → is_outer e ≡ true → Outer (if_there b e)
outer_if true e h = h
outer_if false e h = tt

outer_mapped : (o : Option Event) → Outer o → option_map bare_event o ≡ o
outer_mapped None h = refl
outer_mapped (Some e) h = ap Some (outer_bare e h)

outer_some : (o : Option Event) (e : Event) → Outer o → o ≡ Some e → is_outer e ≡ true
outer_some None e h at = absurd (let z : ⊥ = cc in z)
outer_some (Some x) e h at = let same : x ≡ e = cc in ap is_outer (sym same) ∙ h

-- ---- lists

module _ (p q : Event → Bool) where
  kept_by : (e : Event) (es fs : List Event) (b : Bool) → p e ≡ b → q (bare_event e) ≡ p e → filter q es ≡ map bare_event (filter p fs) → filter q (bare_event e ∷ es) ≡ map bare_event (filter p (e ∷ fs))
  kept_by e es fs true h same rest =
      let other : q (bare_event e) ≡ true = same ∙ h in
      rw (h, other) (ap (λ xs. bare_event e ∷ xs) rest)
  kept_by e es fs false h same rest =
      let other : q (bare_event e) ≡ false = same ∙ h in
      rw (h, other) rest

  module _ (f g : ℕ → Option Event) (mapped : (k : ℕ) → g k ≡ option_map bare_event (f k)) (same : (k : ℕ) (e : Event) → f k ≡ Some e → q (bare_event e) ≡ p e) where
    one_by : (k : ℕ) (o : Option Event) (es fs : List Event) → f k ≡ o → filter q es ≡ map bare_event (filter p fs) → filter q (cons_option (option_map bare_event o) es) ≡ map bare_event (filter p (cons_option o fs))
    one_by k None es fs at rest = rest
    one_by k (Some e) es fs at rest = kept_by e es fs (p e) refl (same k e at) rest

    all_by : (ks : List ℕ) → filter q (filter_map g ks) ≡ map bare_event (filter p (filter_map f ks))
    all_by [] = refl
    all_by (k ∷ ks) = ap (λ o. filter q (cons_option o (filter_map g ks))) (mapped k) ∙ one_by k (f k) (filter_map g ks) (filter_map f ks) refl (all_by ks)

  module _ (c d : Group → List Event) (each : (g : Group) → filter q (d g) ≡ map bare_event (filter p (c g))) where
    all_groups : (gs : List Group) → filter q (flat_map d gs) ≡ map bare_event (filter p (flat_map c gs))
    all_groups [] = refl
    all_groups (g ∷ gs) =
        filter-append q (d g) (flat_map d gs) ∙ ap (λ xs. xs ++ filter q (flat_map d gs)) (each g) ∙ ap (λ xs. map bare_event (filter p (c g)) ++ xs) (all_groups gs)
        ∙ sym (map-append bare_event (filter p (c g)) (filter p (flat_map c gs))) ∙ ap (map bare_event) (sym (filter-append p (c g) (flat_map c gs)))

module _ {A : Type 0} (plan : Plan) (m : Meaning A) (bare : A → A) (unseen : SeesNoLines m bare) where
  -- a state without what the agents don't see
  abbrev pub stripped : State A → State A
  stripped S = with_agents (map bare S.agents) S

  -- ---- agents

  due_by : (o : Option A) → option_and_then m.due (option_map bare o) ≡ option_and_then m.due o
  due_by None = refl
  due_by (Some a) = unseen.due a

  pub due_same : (S : State A) (k : ℕ) → due_of m (stripped S) k ≡ due_of m S k
  due_same S k = ap (option_and_then m.due) (at_mapped bare S.agents k) ∙ due_by (slice_get S.agents k)

  value_by : (o : Option A) (what : ℕ) → value_of_agent m (option_map bare o) what ≡ value_of_agent m o what
  value_by None what = refl
  value_by (Some a) what = unseen.value a what

  shown_same : (S : State A) (device what : ℕ) → shown (bare_plan plan) m (stripped S) device what ≡ shown plan m S device what
  shown_same S device what =
      ap (λ k. value_of_agent m (slice_get (map bare S.agents) k) what) (device_agent_same plan device)
      ∙ ap (λ o. value_of_agent m o what) (at_mapped bare S.agents _) ∙ value_by (slice_get S.agents _) what

  module _ (S : State A) where
    -- ---- a frame's own event

    call_by : (cpu : ℕ) (c : Call) (f : ℕ) (b : Bool) → is_met_then plan S c ≡ b
        → intent_event (bare_plan plan) m (stripped S) cpu f (frame_of S.cpus f) (intent.Do c) ≡ bare_event (intent_event plan m S cpu f (frame_of S.cpus f) (intent.Do c))
    call_by cpu c f true e = rw (met_same plan (map bare S.agents) S c, e, outcome_same plan (map bare S.agents) S cpu f c) refl
    call_by cpu c f false e = rw (met_same plan (map bare S.agents) S c, e) refl

    intent_by : (cpu f : ℕ) (i : Intent) → intent_event (bare_plan plan) m (stripped S) cpu f (frame_of S.cpus f) i ≡ bare_event (intent_event plan m S cpu f (frame_of S.cpus f) i)
    intent_by cpu f (intent.Local change next) = ap (event.Local (cpu_of cpu)) (line_none plan (frame_of S.cpus f))
    intent_by cpu f (intent.Log v) = refl
    intent_by cpu f (intent.Spend n) = refl
    intent_by cpu f (intent.Get k) = ap (event.Register (cpu_of cpu) access.Read k) (shown_same S (device_of_register plan k) k)
    intent_by cpu f (intent.Put k v) = refl
    intent_by cpu f (intent.Do c) = call_by cpu c f (is_met_then plan S c) refl
    intent_by cpu f (intent.Return v) = refl
    intent_by cpu f intent.Broken = ap (event.Fault (cpu_of cpu) fault.ScriptError) (line_none plan (frame_of S.cpus f))

    fault_by : (cpu f : ℕ) (i : Intent) (x : Option Fault) → fault_event (bare_plan plan) m (stripped S) cpu f (frame_of S.cpus f) i x ≡ bare_event (fault_event plan m S cpu f (frame_of S.cpus f) i x)
    fault_by cpu f i (Some x) = ap (event.Fault (cpu_of cpu) x) (line_none plan (frame_of S.cpus f))
    fault_by cpu f i None = intent_by cpu f i

    next_by : (cpu f : ℕ) (i : Intent) → next_event (bare_plan plan) m (stripped S) cpu f (frame_of S.cpus f) i ≡ bare_event (next_event plan m S cpu f (frame_of S.cpus f) i)
    next_by cpu f i = fault_by cpu f i (fault_of (view_of plan S cpu f) i)

    woken_by : (cpu : ℕ) (p : Pending) (b : Bool) → is_met S p.call ≡ b → woken_event (stripped S) cpu p ≡ option_map bare_event (woken_event S cpu p)
    woken_by cpu p true e = rw e refl
    woken_by cpu p false e = rw e refl

    frame_by : (cpu f : ℕ) (p : Option Pending) → event_of_frame (bare_plan plan) m (stripped S) cpu f (frame_of S.cpus f) p ≡ option_map bare_event (event_of_frame plan m S cpu f (frame_of S.cpus f) p)
    frame_by cpu f (Some p) = woken_by cpu p (is_met S p.call) refl
    frame_by cpu f None =
        ap (λ i. Some (next_event (bare_plan plan) m (stripped S) cpu f (frame_of S.cpus f) i)) (intent_same plan (frame_of S.cpus f)) ∙ ap Some (next_by cpu f (intent_of plan (frame_of S.cpus f)))

    spends_by : (cpu f : ℕ) (b : Bool) → spends S (frame_of S.cpus f) ≡ b → event_of_top (bare_plan plan) m (stripped S) cpu (Some f) ≡ option_map bare_event (event_of_top plan m S cpu (Some f))
    spends_by cpu f true e = rw e refl
    spends_by cpu f false e = rw e (frame_by cpu f (frame_of S.cpus f).pending)

    top_by : (cpu : ℕ) (o : Option ℕ) → event_of_top (bare_plan plan) m (stripped S) cpu o ≡ option_map bare_event (event_of_top plan m S cpu o)
    top_by cpu None = refl
    top_by cpu (Some f) = spends_by cpu f (spends S (frame_of S.cpus f)) refl

    own_same : (cpu : ℕ) → own_event (bare_plan plan) m (stripped S) cpu ≡ option_map bare_event (own_event plan m S cpu)
    own_same cpu = top_by cpu (top S.cpus cpu)

    -- ---- what may come

    rank_same : (k : Rank) (cpu : ℕ) (c : Callback) (o : ℕ) → rank_ready (bare_plan plan) m (stripped S) k cpu c o ≡ rank_ready plan m S k cpu c o
    rank_same rank.Isr cpu c o = rw (shown_same S (device_of_interrupt plan o) (line_number o)) refl
    rank_same _ cpu c o = refl

    rank_for_same : (k : Rank) (c : Callback) (o r : ℕ) → rank_ready_for (bare_plan plan) (stripped S) k c o r ≡ rank_ready_for plan S k c o r
    rank_for_same rank.Handler c o r = rw (handler_same plan o (info_of S.requests r).form) refl
    rank_for_same _ c o r = refl

    ready_for_same : (cpu : ℕ) (c : Callback) (o : ℕ) (r : Option Handle) → is_ready_for (bare_plan plan) m (stripped S) cpu c o r ≡ is_ready_for plan m S cpu c o r
    ready_for_same cpu c o None = rank_same (row_of c).rank cpu c o
    ready_for_same cpu c o (Some r) = rank_for_same (row_of c).rank c o r.id.0

    start_same : (cpu : ℕ) (c : Callback) (o : ℕ) (r : Option Handle) → may_start (bare_plan plan) m (stripped S) cpu c o r ≡ may_start plan m S cpu c o r
    start_same cpu c o r = rw (script_on_same plan c (declared_in plan S o), ready_for_same cpu c o r) refl

    fits_same : (k : ℕ) (p : Post) → post_fits (bare_plan plan) (stripped S) k p ≡ post_fits plan S k p
    fits_same k (post.Act action) = rw (device_of_same plan k) refl
    fits_same k (post.Done request s) = rw (target_of_same plan k) refl
    fits_same k _ = refl

    may_same : (e : Event) → is_outer e ≡ true → may (bare_plan plan) m (stripped S) (bare_event e) ≡ may plan m S e
    may_same (event.Start cpu c o r) h = ap (λ b. is_cpu plan cpu && is_proper plan S o && is_proper_if_any plan S r && b) (start_same cpu.0 c o.id.0 r)
    may_same (event.Park cpu f) h = refl
    may_same (event.Unpark cpu f) h = refl
    may_same (event.Stage d s i) h = refl
    may_same (event.Complete r s) h = refl
    may_same (event.Cleanup o) h = rw (script_on_same plan callback.EvtCleanupCallback (declared_in plan S o.id.0)) refl
    may_same (event.Destroy o) h = rw (script_on_same plan callback.EvtDestroyCallback (declared_in plan S o.id.0)) refl
    may_same (event.Posted k p answer) h = rw (due_same S k, fits_same k p) refl
    may_same (event.Tick time) h = refl
    may_same _ h = absurd (let z : ⊥ = cc in z)

    -- ---- candidates

    handler_start_same : (cpu q r : ℕ) → handler_start (bare_plan plan) (stripped S) cpu q r ≡ handler_start plan S cpu q r
    handler_start_same cpu q r = rw (handler_same plan q (info_of S.requests r).form) refl

    front_by : (cpu q : ℕ) (o : Option ℕ) → option_and_then (handler_start (bare_plan plan) (stripped S) cpu q) o ≡ option_and_then (handler_start plan S cpu q) o
    front_by cpu q None = refl
    front_by cpu q (Some r) = handler_start_same cpu q r

    start_at_same : (cpu : ℕ) (r : Rank) (k : ℕ) → start_at (bare_plan plan) (stripped S) cpu r k ≡ start_at plan S cpu r k
    start_at_same cpu rank.Handler k = front_by cpu k (front S.queues k)
    start_at_same cpu _ k = refl

    abbrev is_own : Group → Bool
    is_own (group.OwnEvent cpu) = true
    is_own _ = false

    plain_same : (g : Group) (k : ℕ) → is_own g ≡ false → candidate (bare_plan plan) m (stripped S) g k ≡ candidate plan m S g k
    plain_same (group.OwnEvent cpu) k h = absurd (let z : ⊥ = cc in z)
    plain_same (group.Starts cpu r) k h = start_at_same cpu r k
    plain_same group.Posts k h = ap (option_map (posted plan S k)) (due_same S k)
    plain_same _ k h = refl

    outer_step : (cpu d : ℕ) (s : Step) → Outer (start_of_step plan S cpu d s)
    outer_step cpu d (step.Run c None) = refl
    outer_step cpu d (step.Run c (Some i)) = refl
    outer_step cpu d (step.Pass s i) = tt

    outer_stage : (d : ℕ) (s : Step) → Outer (stage_of_step plan S d s)
    outer_stage d (step.Run c i) = tt
    outer_stage d (step.Pass s i) = refl

    outer_completion : (r : ℕ) (p : Place) → Outer (completion_at plan S r p)
    outer_completion r (place.Closing s) = refl
    outer_completion r _ = tt

    outer_start : (cpu : ℕ) (r : Rank) (k : ℕ) → Outer (start_at plan S cpu r k)
    outer_start cpu rank.Isr k = outer_if (is_some (interrupt_of plan k)) (starts plan S cpu callback.EvtInterruptIsr k) refl
    outer_start cpu rank.Deferred k = outer_map (λ o. starts plan S cpu (dpc_function (kind_of S.tree o)) o) (λ o. refl) (dpc_head S.dpcs cpu)
    outer_start cpu rank.Timed k = outer_map (λ (t : Timed). starts plan S cpu callback.EvtTimerFunc t.timer.0) (λ t. refl) (slice_get S.timers.queued k)
    outer_start cpu rank.QueueState k = outer_if (is_some (queue_of plan k)) (starts plan S cpu callback.EvtIoQueueState k) refl
    outer_start cpu rank.Handler k = outer_then (handler_start plan S cpu k) (λ r. outer_map (λ c. starts_for plan S cpu c k r) (λ c. refl) _) (front S.queues k)
    outer_start cpu rank.Sequence k = outer_then (start_of_step plan S cpu k) (outer_step cpu k) (next_step S.pnp k)
    outer_start cpu rank.Work k = outer_map (λ o. starts plan S cpu callback.EvtWorkItem o) (λ o. refl) (slice_get S.work_items.queued k)
    outer_start cpu rank.Cleanup k = refl
    outer_start cpu rank.Destroy k = refl
    outer_start cpu _ k = tt

    outer_candidate : (g : Group) (k : ℕ) → is_own g ≡ false → Outer (candidate plan m S g k)
    outer_candidate (group.OwnEvent cpu) k h = absurd (let z : ⊥ = cc in z)
    outer_candidate (group.Parks cpu) k h = outer_map (parks cpu) (λ x. refl) (top S.cpus cpu)
    outer_candidate (group.Unparks cpu) k h = outer_map (unparks cpu) (λ x. refl) (slice_get S.cpus.parked k)
    outer_candidate (group.Starts cpu r) k h = outer_start cpu r k
    outer_candidate (group.StartsFor cpu rank.Completion o) k h = outer_map (λ (s : Sending). starts_for plan S cpu callback.EvtRequestCompletion o s.request.0) (λ s. refl) (slice_get (the_target S.targets o).sent k)
    outer_candidate (group.StartsFor cpu _ o) k h = refl
    outer_candidate group.Stages k h = outer_then (stage_of_step plan S k) (outer_stage k) (next_step S.pnp k)
    outer_candidate group.Completions k h = outer_completion k (place_of S.requests k)
    outer_candidate group.Cleanups k h = refl
    outer_candidate group.Destroys k h = refl
    outer_candidate group.Posts k h = outer_map (posted plan S k) (λ p. refl) (due_of m S k)

    plain_mapped : (g : Group) (k : ℕ) → is_own g ≡ false → candidate (bare_plan plan) m (stripped S) g k ≡ option_map bare_event (candidate plan m S g k)
    plain_mapped g k h = plain_same g k h ∙ sym (outer_mapped (candidate plan m S g k) (outer_candidate g k h))

    candidate_same : (g : Group) (k : ℕ) → candidate (bare_plan plan) m (stripped S) g k ≡ option_map bare_event (candidate plan m S g k)
    candidate_same (group.OwnEvent cpu) k = own_same cpu
    candidate_same g k = plain_mapped g k refl

    plain_may : (g : Group) (k : ℕ) (e : Event) → is_own g ≡ false → candidate plan m S g k ≡ Some e → may (bare_plan plan) m (stripped S) (bare_event e) ≡ may plan m S e
    plain_may g k e h at = may_same e (outer_some (candidate plan m S g k) e (outer_candidate g k h) at)

    own_may : (cpu : ℕ) (e : Event) → own_event plan m S cpu ≡ Some e → may (bare_plan plan) m (stripped S) (bare_event e) ≡ may plan m S e
    own_may cpu e at =
        own_comes (bare_plan plan) m (stripped S) cpu (bare_event e) (own_same cpu ∙ ap (option_map bare_event) at) ∙ sym (own_comes plan m S cpu e at)

    candidate_may : (g : Group) (k : ℕ) (e : Event) → candidate plan m S g k ≡ Some e → may (bare_plan plan) m (stripped S) (bare_event e) ≡ may plan m S e
    candidate_may (group.OwnEvent cpu) k e at = own_may cpu e at
    candidate_may g k e at = plain_may g k e refl at

    rank_places : (r : Rank) → places_of_rank (bare_plan plan) (stripped S) r ≡ places_of_rank plan S r
    rank_places rank.Cleanup = rw (somewhere_same plan callback.EvtCleanupCallback) refl
    rank_places rank.Destroy = rw (somewhere_same plan callback.EvtDestroyCallback) refl
    rank_places _ = refl

    for_places : (r : Rank) (o : ℕ) → places_for (bare_plan plan) (stripped S) r o ≡ places_for plan S r o
    for_places rank.Completion o = refl
    for_places r o = rw (declares_same plan (callback_for r) o) refl

    places_same : (g : Group) → places_in (bare_plan plan) (stripped S) g ≡ places_in plan S g
    places_same (group.Starts cpu r) = rank_places r
    places_same (group.StartsFor cpu r o) = for_places r o
    places_same group.Posts = length-map S.agents bare
    places_same _ = refl

    group_same : (g : Group) → filter (may (bare_plan plan) m (stripped S)) (candidates_in (bare_plan plan) m (stripped S) g) ≡ map bare_event (filter (may plan m S) (candidates_in plan m S g))
    group_same g =
        ap (λ n. filter (may (bare_plan plan) m (stripped S)) (filter_map (candidate (bare_plan plan) m (stripped S) g) (range_with_len 0 n))) (places_same g)
        ∙ all_by (may plan m S) (may (bare_plan plan) m (stripped S)) (candidate plan m S g) (candidate (bare_plan plan) m (stripped S) g) (candidate_same g) (candidate_may g) (range_with_len 0 (places_in plan S g))

    allowed_same : allowed (bare_plan plan) m (stripped S) ≡ map bare_event (allowed plan m S)
    allowed_same = all_groups (may plan m S) (may (bare_plan plan) m (stripped S)) (candidates_in plan m S) (candidates_in (bare_plan plan) m (stripped S)) group_same (groups plan)

    -- ---- time

    later_by : (xs : List A) → list_any (λ a. is_some (m.next a)) (map bare xs) ≡ list_any (λ a. is_some (m.next a)) xs
    later_by [] = refl
    later_by (a ∷ xs) = rw (unseen.next a, later_by xs) refl

    time_same : waits_for_time m (stripped S) ≡ waits_for_time m S
    time_same = rw (later_by S.agents) refl

    tick_by : (b : Bool) → waits_for_time m S ≡ b → or_tick m (stripped S) [] ≡ map bare_event (or_tick m S [])
    tick_by true e = rw (time_same, e) refl
    tick_by false e = rw (time_same, e) refl

    or_tick_same : (es : List Event) → or_tick m (stripped S) (map bare_event es) ≡ map bare_event (or_tick m S es)
    or_tick_same [] = tick_by (waits_for_time m S) refl
    or_tick_same (e ∷ es) = refl

    ready_by : (b : Bool) → nat_lt S.number plan.limit ≡ b → ready_in (bare_plan plan) m (stripped S) ≡ map bare_event (ready_in plan m S)
    ready_by true e = rw e (ap (or_tick m (stripped S)) allowed_same ∙ or_tick_same (allowed plan m S))
    ready_by false e = rw e refl

    pub ready_same : ready_in (bare_plan plan) m (stripped S) ≡ map bare_event (ready_in plan m S)
    ready_same = ready_by (nat_lt S.number plan.limit) refl
