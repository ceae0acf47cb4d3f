-- What an event does is the same without the numbers of lines, whatever the agents are.
use Rattle.std.proofs.Common.{◌≡◌, ℕ, Bool, true, false, List, [], ◌∷◌, fold, Option, Some, None, refl, ap, ◌∙◌}
use Rattle.wdf_base.specs.Lives.{is_live}
use Rattle.wdf_base.specs.declared.call.Arg.{Arg}
use Rattle.wdf_base.specs.declared.call.Call.{Call}
use Rattle.wdf_base.specs.declared.call.CallKind.{CallKind}
use Rattle.wdf_base.specs.declared.call.CallKind.TheVariants as call
use Rattle.wdf_base.specs.declared.call.Callback.{Callback}
use Rattle.wdf_base.specs.declared.call.Callback.TheVariants as callback
use Rattle.wdf_base.specs.declared.event.Event.{Event}
use Rattle.wdf_base.specs.declared.event.Event.TheVariants as event
use Rattle.wdf_base.specs.declared.event.Post.{Post}
use Rattle.wdf_base.specs.declared.event.Post.TheVariants as post
use Rattle.wdf_base.specs.declared.frame.Frame.{Frame}
use Rattle.wdf_base.specs.declared.ids.Handle.{Handle}
use Rattle.wdf_base.specs.declared.object.Place.{Place}
use Rattle.wdf_base.specs.declared.object.Place.TheVariants as place
use Rattle.wdf_base.specs.declared.object.RequestForm.{RequestForm}
use Rattle.wdf_base.specs.declared.object.RequestForm.TheVariants as form
use Rattle.wdf_base.specs.declared.object.RequestInfo.{RequestInfo}
use Rattle.wdf_base.specs.declared.plan.Plan.{Plan}
use Rattle.wdf_base.specs.declared.value.Value.TheVariants.{Num}
use Rattle.wdf_model.specs.declared.deed.Deed.{Deed}
use Rattle.wdf_model.specs.declared.deed.Deed.TheVariants.{Arrive, AskDeletion, CloseDevice, CloseReturning, CompleteRequest, Forward, GiveBack, GoOn, PurgeQueue, Requeue, SendRequest, Withdraw}
use Rattle.wdf_model.specs.declared.enums.Mode.TheVariants as mode
use Rattle.wdf_model.specs.Ids.{frame_id}
use Rattle.wdf_model.specs.Plans.{managed_queues, queue_for, queues_of}
use Rattle.wdf_model.specs.parts.Control as control
use Rattle.wdf_model.specs.parts.Cpus.{frame_of, top}
use Rattle.wdf_model.specs.parts.Queues.{waiting_in}
use Rattle.wdf_model.specs.parts.Requests as requests
use Rattle.wdf_model.specs.parts.Requests.{info_of}
use Rattle.wdf_model.specs.parts.Targets as targets
use Rattle.wdf_model.specs.parts.Tree.{life_of, subtree}
use Rattle.wdf_model.specs.State.{State, declared_in, is_with_driver, returns_to, withdrawn_place}
use Rattle.wdf_model.specs.rules.Calls.{forwards_nowhere, is_met_then, outcome}
use Rattle.wdf_model.specs.rules.Deeds.{arrive_at, ask_object, ask_objects, cancel_in, close_queue, close_returning, do_deed, do_deeds, enter_at_head, enter_at_tail, give_up, give_up_if, queued, with_place, withdraw}
use Rattle.wdf_model.specs.rules.Posts.{arrival_deeds, place_if_any, post_deeds}
use Rattle.wdf_model.specs.rules.Script.{intent_of}
use Rattle.wdf_model.specs.rules.Starts.{new_frame}
use Rattle.wdf_model.specs.rules.Steps.{answered, deeds, did_deeds, goes_on, spending, stepped, waiting_deeds, woke_deeds}
use Rattle.law_bare.specs.Bare.{bare_event}
use Rattle.law_bare.specs.Lines.{bare_plan}
use Rattle.law_bare.proofs.Plans.{answered_same, declares_same, goes_on_same, has_handler_same, intent_same, script_on_same}

-- a state with other agents
abbrev pub with_agents : {A : Type 0} → List A → State A → State A
with_agents agents S = record S { agents = agents }

module _ {A : Type 0} (plan : Plan) (agents : List A) where
  -- ---- deeds

  returns_same : (S : State A) (q : ℕ) → returns_to (bare_plan plan) (with_agents agents S) q ≡ returns_to plan S q
  returns_same S q = rw (declares_same plan callback.EvtIoCanceledOnQueue q) refl

  place_same : (S : State A) (q r : ℕ) → withdrawn_place (bare_plan plan) (with_agents agents S) q r ≡ withdrawn_place plan S q r
  place_same S q r = rw (returns_same S q) refl

  cancel_same : (S : State A) (q r : ℕ) → cancel_in (bare_plan plan) (with_agents agents S) q r ≡ with_agents agents (cancel_in plan S q r)
  cancel_same S q r = rw (place_same S q r) refl

  withdraw_same : (q : ℕ) (S : State A) (r : ℕ) → withdraw (bare_plan plan) q (with_agents agents S) r ≡ with_agents agents (withdraw plan q S r)
  withdraw_same q S r = rw (declares_same plan callback.EvtIoCanceledOnQueue q) refl

  withdraws_all : (q : ℕ) (rs : List ℕ) (S : State A) → fold (withdraw (bare_plan plan) q) (with_agents agents S) rs ≡ with_agents agents (fold (withdraw plan q) S rs)
  withdraws_all q [] S = refl
  withdraws_all q (r ∷ rs) S = ap (λ (T : State A). fold (withdraw (bare_plan plan) q) T rs) (withdraw_same q S r) ∙ withdraws_all q rs (withdraw plan q S r)

  asks_by : (S : State A) (x : ℕ) (b : Bool) → is_live (life_of S.tree x) ≡ b → ask_object (with_agents agents S) x ≡ with_agents agents (ask_object S x)
  asks_by S x true e = rw e refl
  asks_by S x false e = rw e refl

  asks_all : (xs : List ℕ) (S : State A) → fold ask_object (with_agents agents S) xs ≡ with_agents agents (fold ask_object S xs)
  asks_all [] S = refl
  asks_all (x ∷ xs) S = ap (λ (T : State A). fold ask_object T xs) (asks_by S x (is_live (life_of S.tree x)) refl) ∙ asks_all xs (ask_object S x)

  gives_up_by : (S : State A) (r : ℕ) (b : Bool) → is_with_driver S r ≡ b → give_up (with_agents agents S) r ≡ with_agents agents (give_up S r)
  gives_up_by S r true e = rw e refl
  gives_up_by S r false e = rw e refl

  gives_up : (S : State A) (r : ℕ) → give_up (with_agents agents S) r ≡ with_agents agents (give_up S r)
  gives_up S r = gives_up_by S r (is_with_driver S r) refl

  gives_up_if : (forget : Bool) (S : State A) (r : ℕ) → give_up_if forget (with_agents agents S) r ≡ with_agents agents (give_up_if forget S r)
  gives_up_if true S r = gives_up S r
  gives_up_if false S r = refl

  closes_returning : (qs : List ℕ) (S : State A) → fold close_returning (with_agents agents S) qs ≡ with_agents agents (fold close_returning S qs)
  closes_returning [] S = refl
  closes_returning (q ∷ qs) S = closes_returning qs (close_returning S q)

  closes_queues : (qs : List ℕ) (S : State A) → fold close_queue (with_agents agents S) qs ≡ with_agents agents (fold close_queue S qs)
  closes_queues [] S = refl
  closes_queues (q ∷ qs) S = closes_queues qs (close_queue S q)

  arrives : (S : State A) (device : ℕ) (info : RequestInfo) (p : Place) → arrive_at (with_agents agents S) device info p ≡ with_agents agents (arrive_at S device info p)
  arrives S device info (place.Queued q) = refl
  arrives S device info _ = refl

  deed_same : (d : Deed) (S : State A) → do_deed (bare_plan plan) d (with_agents agents S) ≡ with_agents agents (do_deed plan d S)
  deed_same (Arrive device info p) S = arrives S device.0 info p
  deed_same (AskDeletion o) S = asks_all (subtree S.tree o.0) S
  deed_same (Requeue r q) S = ap (λ (T : State A). enter_at_head (with_place T r.0 (queued q.0)) q.0 r.0) (gives_up S r.0)
  deed_same (Forward r q) S = ap (λ (T : State A). enter_at_tail (with_place T r.0 (queued q.0)) q.0 r.0) (gives_up S r.0)
  deed_same (GiveBack r q) S = ap (λ (T : State A). cancel_in (bare_plan plan) T q.0 r.0) (gives_up S r.0) ∙ cancel_same (give_up S r.0) q.0 r.0
  deed_same (Withdraw q r) S = withdraw_same q.0 S r.0
  deed_same (SendRequest r t forget) S = ap (λ (T : State A). with_place (record T { targets = targets.send S.targets t.0 r.0 forget }) r.0 (place.Sent (record { 0 = t.0 }))) (gives_up_if forget S r.0)
  deed_same (CompleteRequest r) S =
      ap (λ (T : State A). ask_objects (record T { requests = requests.complete S.requests r.0 }) r.0) (gives_up S r.0)
      ∙ asks_all (subtree (give_up S r.0).tree r.0) (record (give_up S r.0) { requests = requests.complete S.requests r.0 })
  deed_same (PurgeQueue q) S = withdraws_all q.0 (waiting_in S.queues q.0) (record S { control = control.set_mode S.control q.0 mode.Purged })
  deed_same (CloseReturning d) S = closes_returning (managed_queues plan d.0) S
  deed_same (CloseDevice d) S = closes_queues (queues_of plan d.0) (record S { control = control.shut S.control d.0 })
  deed_same _ S = refl

  pub deeds_same : (ds : List Deed) (S : State A) → do_deeds (bare_plan plan) ds (with_agents agents S) ≡ with_agents agents (do_deeds plan ds S)
  deeds_same [] S = refl
  deeds_same (d ∷ ds) S = ap (λ (T : State A). do_deeds (bare_plan plan) ds T) (deed_same d S) ∙ deeds_same ds (do_deed plan d S)

  -- ---- calls

  nowhere_same : (S : State A) (r q : ℕ) → forwards_nowhere (bare_plan plan) (with_agents agents S) r q ≡ forwards_nowhere plan S r q
  nowhere_same S r q = rw (has_handler_same plan q (info_of S.requests r).form) refl

  outcome_by : (S : State A) (cpu f : ℕ) (k : CallKind) (n : ℕ) (a b c : Arg)
      → outcome (bare_plan plan) (with_agents agents S) cpu f (record { kind = k; count = n; a = a; b = b; c = c }) ≡ outcome plan S cpu f (record { kind = k; count = n; a = a; b = b; c = c })
  outcome_by S cpu f call.WdfRequestMarkCancelableEx n a b c = rw (declares_same plan callback.EvtRequestCancel _) refl
  outcome_by S cpu f call.WdfRequestForwardToIoQueue n a b c = rw (nowhere_same S _ _) refl
  outcome_by S cpu f call.WdfIoQueueReadyNotify n a b c = rw (declares_same plan callback.EvtIoQueueState _) refl
  outcome_by S cpu f call.WdfInterruptQueueDpcForIsr n a b c = rw (declares_same plan callback.EvtInterruptDpc _) refl
  outcome_by S cpu f _ n a b c = refl

  pub outcome_same : (S : State A) (cpu f : ℕ) (c : Call) → outcome (bare_plan plan) (with_agents agents S) cpu f c ≡ outcome plan S cpu f c
  outcome_same S cpu f c = outcome_by S cpu f c.kind c.count c.a c.b c.c

  met_by : (S : State A) (k : CallKind) (n : ℕ) (a b c : Arg)
      → is_met_then (bare_plan plan) (with_agents agents S) (record { kind = k; count = n; a = a; b = b; c = c }) ≡ is_met_then plan S (record { kind = k; count = n; a = a; b = b; c = c })
  met_by S call.WdfIoQueuePurgeSynchronously n a b c = rw (returns_same S _) refl
  met_by S _ n a b c = refl

  pub met_same : (S : State A) (c : Call) → is_met_then (bare_plan plan) (with_agents agents S) c ≡ is_met_then plan S c
  met_same S c = met_by S c.kind c.count c.a c.b c.c

  -- ---- the deeds of an event

  frame_same : (S : State A) (c : Callback) (o : Handle) (r : Option Handle) → new_frame (bare_plan plan) (with_agents agents S) c o r ≡ new_frame plan S c o r
  frame_same S c o r = rw (script_on_same plan c (declared_in plan S o.id.0)) refl

  arrival_by : (S : State A) (f : RequestForm) (length : ℕ) (q : Option ℕ) → place_if_any (bare_plan plan) (with_agents agents S) f length q ≡ place_if_any plan S f length q
  arrival_by S f length None = refl
  arrival_by S f length (Some q) = rw (has_handler_same plan q f) refl

  arrival_same : (S : State A) (agent : ℕ) (f : RequestForm) (length code device : ℕ) → arrival_deeds (bare_plan plan) (with_agents agents S) agent f length code device ≡ arrival_deeds plan S agent f length code device
  arrival_same S agent f length code device = rw (arrival_by S f length (queue_for plan device f)) refl

  by_top_same : (S : State A) (x y : ℕ → Frame → List Deed) → ((f : ℕ) (frame : Frame) → x f frame ≡ y f frame) → (o : Option ℕ)
      → elim o as (λ _. List Deed) [ None ↦ [] | Some f ↦ x f (frame_of S.cpus f) ] ≡ elim o as (λ _. List Deed) [ None ↦ [] | Some f ↦ y f (frame_of S.cpus f) ]
  by_top_same S x y same None = refl
  by_top_same S x y same (Some f) = same f (frame_of S.cpus f)

  posts_same : (S : State A) (agent : ℕ) (p : Post) → post_deeds (bare_plan plan) (with_agents agents S) agent p ≡ post_deeds plan S agent p
  posts_same S agent (post.Read device n) = arrival_same S agent form.Read n 0 device.id.0
  posts_same S agent (post.Write device n) = arrival_same S agent form.Write n 0 device.id.0
  posts_same S agent (post.Control device code n) = arrival_same S agent form.Control n code device.id.0
  posts_same S agent _ = refl

  pub event_deeds_same : (S : State A) (e : Event) → deeds (bare_plan plan) (with_agents agents S) (bare_event e) ≡ deeds plan S e
  event_deeds_same S (event.Start cpu c o r) = rw (frame_same S c o r) refl
  event_deeds_same S (event.Local cpu line) =
      by_top_same S (λ f frame. GoOn (frame_id f) (stepped frame (intent_of (bare_plan plan) frame)) ∷ []) (λ f frame. GoOn (frame_id f) (stepped frame (intent_of plan frame)) ∷ [])
      (λ f frame. ap (λ i. GoOn (frame_id f) (stepped frame i) ∷ []) (intent_same plan frame)) (top S.cpus cpu.0)
  event_deeds_same S (event.Log cpu v) =
      by_top_same S (λ f frame. GoOn (frame_id f) (goes_on (bare_plan plan) frame) ∷ []) (λ f frame. GoOn (frame_id f) (goes_on plan frame) ∷ [])
      (λ f frame. ap (λ x. GoOn (frame_id f) x ∷ []) (goes_on_same plan frame)) (top S.cpus cpu.0)
  event_deeds_same S (event.Spend cpu n) =
      by_top_same S (λ f frame. GoOn (frame_id f) (spending (bare_plan plan) S frame n) ∷ []) (λ f frame. GoOn (frame_id f) (spending plan S frame n) ∷ [])
      (λ f frame. rw (goes_on_same plan frame) refl) (top S.cpus cpu.0)
  event_deeds_same S (event.Register cpu a k v) =
      by_top_same S (λ f frame. GoOn (frame_id f) (answered (bare_plan plan) frame (Num v)) ∷ []) (λ f frame. GoOn (frame_id f) (answered plan frame (Num v)) ∷ [])
      (λ f frame. ap (λ x. GoOn (frame_id f) x ∷ []) (answered_same plan frame (Num v))) (top S.cpus cpu.0)
  event_deeds_same S (event.Did cpu c v) =
      by_top_same S (did_deeds (bare_plan plan) (with_agents agents S) cpu.0 c v) (did_deeds plan S cpu.0 c v)
      (λ f frame. rw (outcome_same S cpu.0 f c, answered_same plan frame v) refl) (top S.cpus cpu.0)
  event_deeds_same S (event.Waiting cpu c) =
      by_top_same S (waiting_deeds (bare_plan plan) (with_agents agents S) cpu.0 c) (waiting_deeds plan S cpu.0 c) (λ f frame. rw (outcome_same S cpu.0 f c) refl) (top S.cpus cpu.0)
  event_deeds_same S (event.Woke cpu c v) =
      by_top_same S (woke_deeds (bare_plan plan) c v) (woke_deeds plan c v) (λ f frame. rw (answered_same plan frame v) refl) (top S.cpus cpu.0)
  event_deeds_same S (event.Posted agent p answer) = posts_same S agent p
  event_deeds_same S _ = refl
