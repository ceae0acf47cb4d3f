-- Each candidate gives its group, and its place in it.
use Rattle.std.proofs.Common.{if◌then◌else◌, ◌≡◌, ℕ, ◌==◌, ◌<◌, ◌≤◌, Bool, true, false, List, Option, Some, None, is_some, count_by, option_map, option_and_then, slice_get, refl, sym, ap, subst, ◌∙◌, arith}
use Rattle.std.specs.List.{flat_map}
use Rattle.std.proofs.lemmas.Bool.{eqb-true}
use Rattle.wdf_base.specs.Meaning.{Meaning}
use Rattle.wdf_base.specs.declared.plan.Plan.{Plan}
use Rattle.wdf_base.specs.declared.declared.Declared.{Declared}
use Rattle.wdf_base.specs.declared.declared.Declared.TheVariants as declared
use Rattle.wdf_base.specs.declared.declared.InterruptInfo.{InterruptInfo}
use Rattle.wdf_base.specs.declared.call.Callback.{Callback}
use Rattle.wdf_base.specs.declared.call.Callback.TheVariants as callback
use Rattle.wdf_base.specs.declared.event.Event.{Event}
use Rattle.wdf_base.specs.declared.event.Event.TheVariants as event
use Rattle.wdf_base.specs.declared.event.Fault.{Fault}
use Rattle.wdf_base.specs.declared.event.Step.{Step}
use Rattle.wdf_base.specs.declared.event.Step.TheVariants as step
use Rattle.wdf_base.specs.declared.frame.Frame.{Frame}
use Rattle.wdf_base.specs.declared.frame.Intent.{Intent}
use Rattle.wdf_base.specs.declared.frame.Intent.TheVariants as intent
use Rattle.wdf_base.specs.declared.frame.Pending.{Pending}
use Rattle.wdf_base.specs.declared.object.Kind.{Kind}
use Rattle.wdf_base.specs.declared.object.Kind.TheVariants as kind
use Rattle.wdf_base.specs.declared.object.Place.{Place}
use Rattle.wdf_base.specs.declared.object.Place.TheVariants as place
use Rattle.wdf_base.specs.declared.object.RequestForm.{RequestForm}
use Rattle.wdf_base.specs.declared.object.RequestForm.TheVariants as form
use Rattle.wdf_base.specs.declared.rank.Rank.{Rank}
use Rattle.wdf_base.specs.declared.rank.Rank.TheVariants as rank
use Rattle.wdf_base.specs.Callbacks.{row_of, dpc_function}
use Rattle.wdf_base.specs.Plan.{declared_of}
use Rattle.wdf_base.specs.Places.{is_sent_to}
use Rattle.wdf_model.specs.Ids.{cpu_of}
use Rattle.wdf_model.specs.declared.enums.Group.{Group}
use Rattle.wdf_model.specs.declared.enums.Group.TheVariants as group
use Rattle.wdf_model.specs.declared.entries.Timed.{Timed}
use Rattle.wdf_model.specs.declared.entries.Sending.{Sending}
use Rattle.wdf_model.specs.Tables.{flag}
use Rattle.wdf_model.specs.Plans.{as_device, as_interrupt, declares, device_of, handler_for, interrupt_of, is_interrupt_of, queue_of, typed_handler}
use Rattle.wdf_model.specs.parts.Tree.{kind_of}
use Rattle.wdf_model.specs.parts.Cpus.{frame_of, top}
use Rattle.wdf_model.specs.parts.Requests.{info_of, place_of}
use Rattle.wdf_model.specs.parts.Queues.{front}
use Rattle.wdf_model.specs.parts.Pnp.{next_step}
use Rattle.wdf_model.specs.parts.Deferred.Dpcs.{dpc_head}
use Rattle.wdf_model.specs.parts.Targets.{the_target}
use Rattle.wdf_model.specs.State.{State}
use Rattle.wdf_model.specs.rules.Calls.{is_met, is_met_then}
use Rattle.wdf_model.specs.rules.Posts.{due_of}
use Rattle.wdf_model.specs.rules.Steps.{event_of_frame, event_of_top, fault_event, intent_event, spends, view_of}
use Rattle.wdf_model.specs.rules.Script.{intent_of}
use Rattle.wdf_model.specs.rules.Faults.{fault_of}
use Rattle.wdf_model.specs.rules.Groups.{candidate, candidates, candidates_in, completion_at, groups, handler_start, if_there, parks, places_in, places_of_rank, posted, stage_of_step, start_at, start_for, start_of_step, starts, starts_for, unparks}
use Rattle.wdf_model.proofs.Counts.{count_behind}
use Rattle.law_machine_lives.proofs.Keeping.{Known}
use Rattle.law_machine_lives.proofs.Lists.{each_still}
use Rattle.law_machine_once.specs.Owned.{IsStepOf, QueuedOnce, StepsOwned}
use Rattle.law_machine_once.proofs.GroupsOnce.{groups_known, groups_once, is_known_group, is_rank_for}
use Rattle.law_machine_once.proofs.OnceEach.{Once, counted_once, each_placed, once_flat, once_placed}

-- ---- what an event gives

abbrev start_group : ℕ → Rank → ℕ → Group
start_group cpu r o = if is_rank_for r then group.StartsFor cpu r o else group.Starts cpu r

-- the group of an event
abbrev group_of : Event → Group
group_of (event.Start cpu c o r) = start_group cpu.0 (row_of c).rank o.id.0
group_of (event.Local cpu line) = group.OwnEvent cpu.0
group_of (event.Log cpu v) = group.OwnEvent cpu.0
group_of (event.Spend cpu n) = group.OwnEvent cpu.0
group_of (event.Register cpu a k v) = group.OwnEvent cpu.0
group_of (event.Did cpu c v) = group.OwnEvent cpu.0
group_of (event.Waiting cpu c) = group.OwnEvent cpu.0
group_of (event.Woke cpu c v) = group.OwnEvent cpu.0
group_of (event.Park cpu f) = group.Parks cpu.0
group_of (event.Unpark cpu f) = group.Unparks cpu.0
group_of (event.End cpu c o v) = group.OwnEvent cpu.0
group_of (event.Fault cpu x line) = group.OwnEvent cpu.0
group_of (event.Stage d s i) = group.Stages
group_of (event.Complete r s) = group.Completions
group_of (event.Cleanup o) = group.Cleanups
group_of (event.Destroy o) = group.Destroys
group_of (event.Posted agent p a) = group.Posts
group_of (event.Tick n) = group.Posts

-- what an event is about: an object, a frame or an agent
abbrev object_of : Event → ℕ
object_of (event.Start cpu c o r) = o.id.0
object_of (event.Unpark cpu f) = f.0
object_of (event.Stage d s i) = d.id.0
object_of (event.Complete r s) = r.id.0
object_of (event.Cleanup o) = o.id.0
object_of (event.Destroy o) = o.id.0
object_of (event.Posted agent p a) = agent
object_of _ = 0

abbrev request_of_start : Event → ℕ
request_of_start (event.Start cpu c o (Some r)) = r.id.0
request_of_start _ = 0

-- ---- answers that are there

pub some_is : {T : Type 0} (x y : T) → Some x ≡ Some y → x ≡ y
some_is x y h = cc

pub none_is : {T : Type 0} (y : T) → None ≡ Some y → ⊥
none_is y h = let z : ⊥ = cc in z

pub if_some : {T : Type 0} (b : Bool) (x y : T) → (if b then Some x else None) ≡ Some y → x ≡ y
if_some true x y h = some_is x y h
if_some false x y h = absurd (none_is y h)

there_is : (b : Bool) (x e : Event) → if_there b x ≡ Some e → x ≡ e
there_is true x e h = some_is x e h
there_is false x e h = absurd (none_is e h)

mapped_is : {X Y : Type 0} (f : X → Y) (o : Option X) (e : Y) → option_map f o ≡ Some e → (x : X) × (o ≡ Some x) × (f x ≡ e)
mapped_is f None e h = absurd (none_is e h)
mapped_is f (Some x) e h = (x, refl, some_is (f x) e h)

then_is : {X Y : Type 0} (f : X → Option Y) (o : Option X) (e : Y) → option_and_then f o ≡ Some e → (x : X) × (o ≡ Some x) × (f x ≡ Some e)
then_is f None e h = absurd (none_is e h)
then_is f (Some x) e h = (x, refl, h)

-- ---- a frame's own event

module _ {A : Type 0} (plan : Plan) (m : Meaning A) (S : State A) where
  did_or_waits : (cpu : ℕ) (b : Bool) (x y : Event) → group_of x ≡ group.OwnEvent cpu → group_of y ≡ group.OwnEvent cpu → group_of (if b then x else y) ≡ group.OwnEvent cpu
  did_or_waits cpu true x y h k = h
  did_or_waits cpu false x y h k = k

  intent_group : (cpu f : ℕ) (frame : Frame) (i : Intent) → group_of (intent_event plan m S cpu f frame i) ≡ group.OwnEvent cpu
  intent_group cpu f frame (intent.Do c) = did_or_waits cpu (is_met_then plan S c) _ _ refl refl
  intent_group cpu f frame _ = refl

  fault_group : (cpu f : ℕ) (frame : Frame) (i : Intent) (x : Option Fault) → group_of (fault_event plan m S cpu f frame i x) ≡ group.OwnEvent cpu
  fault_group cpu f frame i (Some x) = refl
  fault_group cpu f frame i None = intent_group cpu f frame i

  frame_group : (cpu f : ℕ) (frame : Frame) (p : Option Pending) (e : Event) → event_of_frame plan m S cpu f frame p ≡ Some e → group_of e ≡ group.OwnEvent cpu
  frame_group cpu f frame (Some p) e h = ap group_of (sym (if_some (is_met S p.call) (event.Woke (cpu_of cpu) p.call p.answer) e h))
  frame_group cpu f frame None e h = ap group_of (sym (some_is _ e h)) ∙ fault_group cpu f frame (intent_of plan frame) (fault_of (view_of plan S cpu f) (intent_of plan frame))

  unless_spends : (cpu : ℕ) (b : Bool) (o : Option Event) (e : Event) → (o ≡ Some e → group_of e ≡ group.OwnEvent cpu) → (if b then None else o) ≡ Some e → group_of e ≡ group.OwnEvent cpu
  unless_spends cpu true o e k h = absurd (none_is e h)
  unless_spends cpu false o e k h = k h

  top_group : (cpu : ℕ) (t : Option ℕ) (e : Event) → event_of_top plan m S cpu t ≡ Some e → group_of e ≡ group.OwnEvent cpu
  top_group cpu None e h = absurd (none_is e h)
  top_group cpu (Some f) e h = unless_spends cpu (spends S (frame_of S.cpus f)) _ e (frame_group cpu f (frame_of S.cpus f) (frame_of S.cpus f).pending e) h

-- ---- starts

pub dpc_rank : (k : Kind) → (row_of (dpc_function k)).rank ≡ rank.Deferred
dpc_rank kind.Interrupt = refl
dpc_rank _ = refl

pub typed_rank : (f : RequestForm) → (row_of (typed_handler f)).rank ≡ rank.Handler
typed_rank form.Read = refl
typed_rank _ = refl

pub handler_by : (f : RequestForm) (a b : Bool) (c : Callback) → (if a then Some (typed_handler f) else if b then Some callback.EvtIoDefault else None) ≡ Some c → (row_of c).rank ≡ rank.Handler
handler_by f true b c h = ap (λ x. (row_of x).rank) (sym (some_is (typed_handler f) c h)) ∙ typed_rank f
handler_by f false b c h = ap (λ x. (row_of x).rank) (sym (if_some b callback.EvtIoDefault c h))

-- an object is no device and an interrupt at once
device_or_interrupt : (x : Option Declared) (k : ℕ) → is_some (as_device x) ≡ true → is_interrupt_of k (as_interrupt x) ≡ true → ⊥
device_or_interrupt None k h i = let z : ⊥ = cc in z
device_or_interrupt (Some (declared.Device d)) k h i = let z : ⊥ = cc in z
device_or_interrupt _ k h i = let z : ⊥ = cc in z

-- an interrupt is of one device
one_owner : (x : Option InterruptInfo) (j k : ℕ) → is_interrupt_of j x ≡ true → is_interrupt_of k x ≡ true → j ≡ k
one_owner None j k h i = absurd (let z : ⊥ = cc in z)
one_owner (Some x) j k h i = sym (eqb-true x.device.0 j h) ∙ eqb-true x.device.0 k i

module _ {A : Type 0} (plan : Plan) (m : Meaning A) (S : State A) (known : Known plan S) (once : QueuedOnce S) (owned : StepsOwned plan S) where
  step_group : (cpu k : ℕ) (s : Step) (e : Event) → IsStepOf plan k s → start_of_step plan S cpu k s ≡ Some e → group_of e ≡ group.Starts cpu rank.Sequence
  step_group cpu k (step.Run c None) e own h = ap group_of (sym (some_is _ e h)) ∙ ap (λ r. start_group cpu r k) own.0
  step_group cpu k (step.Run c (Some i)) e own h = ap group_of (sym (some_is _ e h)) ∙ ap (λ r. start_group cpu r i.id.0) own.0
  step_group cpu k (step.Pass s i) e own h = absurd (none_is e h)

  step_place : (cpu j k : ℕ) (s t : Step) (e : Event) → IsStepOf plan j s → IsStepOf plan k t → start_of_step plan S cpu j s ≡ Some e → start_of_step plan S cpu k t ≡ Some e → j ≡ k
  step_place cpu j k (step.Pass s i) t e own_j own_k at_j at_k = absurd (none_is e at_j)
  step_place cpu j k (step.Run c i) (step.Pass s x) e own_j own_k at_j at_k = absurd (none_is e at_k)
  step_place cpu j k (step.Run c None) (step.Run b None) e own_j own_k at_j at_k = ap object_of (some_is _ e at_j ∙ sym (some_is _ e at_k))
  step_place cpu j k (step.Run c None) (step.Run b (Some i)) e own_j own_k at_j at_k =
      let same : j ≡ i.id.0 = ap object_of (some_is _ e at_j ∙ sym (some_is _ e at_k)) in
      absurd (device_or_interrupt (declared_of plan i.id.0) k (subst (λ x. is_some (device_of plan x) ≡ true) same own_j.1) own_k.1)
  step_place cpu j k (step.Run c (Some i)) (step.Run b None) e own_j own_k at_j at_k =
      let same : k ≡ i.id.0 = ap object_of (some_is _ e at_k ∙ sym (some_is _ e at_j)) in
      absurd (device_or_interrupt (declared_of plan i.id.0) j (subst (λ x. is_some (device_of plan x) ≡ true) same own_k.1) own_j.1)
  step_place cpu j k (step.Run c (Some i)) (step.Run b (Some x)) e own_j own_k at_j at_k =
      let same : x.id.0 ≡ i.id.0 = ap object_of (some_is _ e at_k ∙ sym (some_is _ e at_j)) in
      one_owner (interrupt_of plan i.id.0) j k own_j.1 (subst (λ y. is_interrupt_of k (interrupt_of plan y) ≡ true) same own_k.1)

  start_in_group : (cpu : ℕ) (r : Rank) (k : ℕ) (e : Event) → start_at plan S cpu r k ≡ Some e → group_of e ≡ group.Starts cpu r
  start_in_group cpu rank.Isr k e h = ap group_of (sym (there_is (is_some (interrupt_of plan k)) _ e h))
  start_in_group cpu rank.Deferred k e h =
      let p = mapped_is (λ o. starts plan S cpu (dpc_function (kind_of S.tree o)) o) (dpc_head S.dpcs cpu) e h in
      ap group_of (sym p.2) ∙ ap (λ r. start_group cpu r p.0) (dpc_rank (kind_of S.tree p.0))
  start_in_group cpu rank.Timed k e h =
      let p = mapped_is (λ (t : Timed). starts plan S cpu callback.EvtTimerFunc t.timer.0) (slice_get S.timers.queued k) e h in
      ap group_of (sym p.2)
  start_in_group cpu rank.QueueState k e h = ap group_of (sym (there_is (is_some (queue_of plan k)) _ e h))
  start_in_group cpu rank.Handler k e h =
      let p = then_is (handler_start plan S cpu k) (front S.queues k) e h in
      let q = mapped_is (λ c. starts_for plan S cpu c k p.0) (handler_for plan k (info_of S.requests p.0).form) e p.2 in
      ap group_of (sym q.2) ∙ ap (λ r. start_group cpu r k) (handler_by (info_of S.requests p.0).form (declares plan (typed_handler (info_of S.requests p.0).form) k) (declares plan callback.EvtIoDefault k) q.0 q.1)
  start_in_group cpu rank.Sequence k e h =
      let p = then_is (start_of_step plan S cpu k) (next_step S.pnp k) e h in
      step_group cpu k p.0 e (owned.next k p.0 p.1) p.2
  start_in_group cpu rank.Work k e h =
      let p = mapped_is (λ o. starts plan S cpu callback.EvtWorkItem o) (slice_get S.work_items.queued k) e h in
      ap group_of (sym p.2)
  start_in_group cpu rank.Cleanup k e h = ap group_of (sym (some_is _ e h))
  start_in_group cpu rank.Destroy k e h = ap group_of (sym (some_is _ e h))
  start_in_group cpu _ k e h = absurd (none_is e h)

  start_place : (cpu : ℕ) (r : Rank) (j k : ℕ) (e : Event) → j < places_of_rank plan S r → k < places_of_rank plan S r → start_at plan S cpu r j ≡ Some e → start_at plan S cpu r k ≡ Some e → j ≡ k
  start_place cpu rank.Isr j k e in_j in_k at_j at_k = ap object_of (there_is (is_some (interrupt_of plan j)) _ e at_j ∙ sym (there_is (is_some (interrupt_of plan k)) _ e at_k))
  start_place cpu rank.Deferred j k e in_j in_k at_j at_k = omega (arith, in_j, in_k)
  start_place cpu rank.Timed j k e in_j in_k at_j at_k =
      let p = mapped_is (λ (t : Timed). starts plan S cpu callback.EvtTimerFunc t.timer.0) (slice_get S.timers.queued j) e at_j in
      let q = mapped_is (λ (t : Timed). starts plan S cpu callback.EvtTimerFunc t.timer.0) (slice_get S.timers.queued k) e at_k in
      counted_once (λ (t : Timed). t.timer.0) S.timers.queued once.timers j k p.0 q.0 p.1 q.1 (ap object_of (p.2 ∙ sym q.2))
  start_place cpu rank.QueueState j k e in_j in_k at_j at_k = ap object_of (there_is (is_some (queue_of plan j)) _ e at_j ∙ sym (there_is (is_some (queue_of plan k)) _ e at_k))
  start_place cpu rank.Handler j k e in_j in_k at_j at_k =
      let p = then_is (handler_start plan S cpu j) (front S.queues j) e at_j in
      let q = mapped_is (λ c. starts_for plan S cpu c j p.0) (handler_for plan j (info_of S.requests p.0).form) e p.2 in
      let x = then_is (handler_start plan S cpu k) (front S.queues k) e at_k in
      let y = mapped_is (λ c. starts_for plan S cpu c k x.0) (handler_for plan k (info_of S.requests x.0).form) e x.2 in
      ap object_of (q.2 ∙ sym y.2)
  start_place cpu rank.Sequence j k e in_j in_k at_j at_k =
      let p = then_is (start_of_step plan S cpu j) (next_step S.pnp j) e at_j in
      let q = then_is (start_of_step plan S cpu k) (next_step S.pnp k) e at_k in
      step_place cpu j k p.0 q.0 e (owned.next j p.0 p.1) (owned.next k q.0 q.1) p.2 q.2
  start_place cpu rank.Work j k e in_j in_k at_j at_k =
      let p = mapped_is (λ o. starts plan S cpu callback.EvtWorkItem o) (slice_get S.work_items.queued j) e at_j in
      let q = mapped_is (λ o. starts plan S cpu callback.EvtWorkItem o) (slice_get S.work_items.queued k) e at_k in
      counted_once (λ x. x) S.work_items.queued once.items j k p.0 q.0 p.1 q.1 (ap object_of (p.2 ∙ sym q.2))
  start_place cpu rank.Cleanup j k e in_j in_k at_j at_k = ap object_of (some_is _ e at_j ∙ sym (some_is _ e at_k))
  start_place cpu rank.Destroy j k e in_j in_k at_j at_k = ap object_of (some_is _ e at_j ∙ sym (some_is _ e at_k))
  start_place cpu _ j k e in_j in_k at_j at_k = absurd (none_is e at_j)

  for_in_group : (cpu : ℕ) (r : Rank) (o k : ℕ) (e : Event) → is_rank_for r ≡ true → start_for plan S cpu r o k ≡ Some e → group_of e ≡ group.StartsFor cpu r o
  for_in_group cpu rank.Completion o k e is h =
      let p = mapped_is (λ (s : Sending). starts_for plan S cpu callback.EvtRequestCompletion o s.request.0) (slice_get (the_target S.targets o).sent k) e h in
      ap group_of (sym p.2)
  for_in_group cpu rank.Cancel o k e is h = ap group_of (sym (some_is _ e h))
  for_in_group cpu rank.CanceledOnQueue o k e is h = ap group_of (sym (some_is _ e h))
  for_in_group cpu rank.Stop o k e is h = ap group_of (sym (some_is _ e h))
  for_in_group cpu rank.Resume o k e is h = ap group_of (sym (some_is _ e h))
  for_in_group cpu _ o k e is h = absurd (let z : ⊥ = cc in z)

  at_most_one : (b : Bool) (n : ℕ) → n ≡ flag b → n ≤ 1
  at_most_one true n h = omega (arith, h)
  at_most_one false n h = omega (arith, h)

  for_place : (cpu : ℕ) (r : Rank) (o j k : ℕ) (e : Event) → is_rank_for r ≡ true → start_for plan S cpu r o j ≡ Some e → start_for plan S cpu r o k ≡ Some e → j ≡ k
  for_place cpu rank.Completion o j k e is at_j at_k =
      let p = mapped_is (λ (s : Sending). starts_for plan S cpu callback.EvtRequestCompletion o s.request.0) (slice_get (the_target S.targets o).sent j) e at_j in
      let q = mapped_is (λ (s : Sending). starts_for plan S cpu callback.EvtRequestCompletion o s.request.0) (slice_get (the_target S.targets o).sent k) e at_k in
      counted_once (λ (s : Sending). s.request.0) (the_target S.targets o).sent (λ x. at_most_one (is_sent_to o (place_of S.requests x)) _ (known.places.sent o x)) j k p.0 q.0 p.1 q.1 (ap request_of_start (p.2 ∙ sym q.2))
  for_place cpu rank.Cancel o j k e is at_j at_k = ap request_of_start (some_is _ e at_j ∙ sym (some_is _ e at_k))
  for_place cpu rank.CanceledOnQueue o j k e is at_j at_k = ap request_of_start (some_is _ e at_j ∙ sym (some_is _ e at_k))
  for_place cpu rank.Stop o j k e is at_j at_k = ap request_of_start (some_is _ e at_j ∙ sym (some_is _ e at_k))
  for_place cpu rank.Resume o j k e is at_j at_k = ap request_of_start (some_is _ e at_j ∙ sym (some_is _ e at_k))
  for_place cpu _ o j k e is at_j at_k = absurd (let z : ⊥ = cc in z)

  -- ---- the framework and the agents

  stage_tells : (k : ℕ) (s : Step) (e : Event) → stage_of_step plan S k s ≡ Some e → (group_of e ≡ group.Stages) × (object_of e ≡ k)
  stage_tells k (step.Run c i) e h = absurd (none_is e h)
  stage_tells k (step.Pass s i) e h = (ap group_of (sym (some_is _ e h)), ap object_of (sym (some_is _ e h)))

  stage_at : (k : ℕ) (e : Event) → option_and_then (stage_of_step plan S k) (next_step S.pnp k) ≡ Some e → (group_of e ≡ group.Stages) × (object_of e ≡ k)
  stage_at k e h = let p = then_is (stage_of_step plan S k) (next_step S.pnp k) e h in stage_tells k p.0 e p.2

  completion_tells : (k : ℕ) (p : Place) (e : Event) → completion_at plan S k p ≡ Some e → (group_of e ≡ group.Completions) × (object_of e ≡ k)
  completion_tells k (place.Closing s) e h = (ap group_of (sym (some_is _ e h)), ap object_of (sym (some_is _ e h)))
  completion_tells k _ e h = absurd (none_is e h)

  -- ---- all groups

  in_its_group : (g : Group) (k : ℕ) (e : Event) → is_known_group g ≡ true → candidate plan m S g k ≡ Some e → group_of e ≡ g
  in_its_group (group.OwnEvent cpu) k e is h = top_group plan m S cpu (top S.cpus cpu) e h
  in_its_group (group.Parks cpu) k e is h = ap group_of (sym (mapped_is (parks cpu) (top S.cpus cpu) e h).2)
  in_its_group (group.Unparks cpu) k e is h = ap group_of (sym (mapped_is (unparks cpu) (slice_get S.cpus.parked k) e h).2)
  in_its_group (group.Starts cpu r) k e is h = start_in_group cpu r k e h
  in_its_group (group.StartsFor cpu r o) k e is h = for_in_group cpu r o k e is h
  in_its_group group.Stages k e is h = (stage_at k e h).0
  in_its_group group.Completions k e is h = (completion_tells k (place_of S.requests k) e h).0
  in_its_group group.Cleanups k e is h = ap group_of (sym (some_is _ e h))
  in_its_group group.Destroys k e is h = ap group_of (sym (some_is _ e h))
  in_its_group group.Posts k e is h = ap group_of (sym (mapped_is (posted plan S k) (due_of m S k) e h).2)

  parked_few : (f : ℕ) → count_by (λ x. x == f) S.cpus.parked ≤ 1
  parked_few f =
      let few = known.frames.once f in
      let all = count_behind (λ x. x == f) (flat_map (λ (fs : List ℕ). fs) S.cpus.stacks) S.cpus.parked in
      omega (arith, few, all)

  at_its_place : (g : Group) (j k : ℕ) (e : Event) → is_known_group g ≡ true → j < places_in plan S g → k < places_in plan S g → candidate plan m S g j ≡ Some e → candidate plan m S g k ≡ Some e → j ≡ k
  at_its_place (group.OwnEvent cpu) j k e is in_j in_k at_j at_k = omega (arith, in_j, in_k)
  at_its_place (group.Parks cpu) j k e is in_j in_k at_j at_k = omega (arith, in_j, in_k)
  at_its_place (group.Unparks cpu) j k e is in_j in_k at_j at_k =
      let p = mapped_is (unparks cpu) (slice_get S.cpus.parked j) e at_j in
      let q = mapped_is (unparks cpu) (slice_get S.cpus.parked k) e at_k in
      counted_once (λ x. x) S.cpus.parked parked_few j k p.0 q.0 p.1 q.1 (ap object_of (p.2 ∙ sym q.2))
  at_its_place (group.Starts cpu r) j k e is in_j in_k at_j at_k = start_place cpu r j k e in_j in_k at_j at_k
  at_its_place (group.StartsFor cpu r o) j k e is in_j in_k at_j at_k = for_place cpu r o j k e is at_j at_k
  at_its_place group.Stages j k e is in_j in_k at_j at_k = sym (stage_at j e at_j).1 ∙ (stage_at k e at_k).1
  at_its_place group.Completions j k e is in_j in_k at_j at_k = sym (completion_tells j (place_of S.requests j) e at_j).1 ∙ (completion_tells k (place_of S.requests k) e at_k).1
  at_its_place group.Cleanups j k e is in_j in_k at_j at_k = ap object_of (some_is _ e at_j ∙ sym (some_is _ e at_k))
  at_its_place group.Destroys j k e is in_j in_k at_j at_k = ap object_of (some_is _ e at_j ∙ sym (some_is _ e at_k))
  at_its_place group.Posts j k e is in_j in_k at_j at_k =
      ap object_of ((mapped_is (posted plan S j) (due_of m S j) e at_j).2 ∙ sym (mapped_is (posted plan S k) (due_of m S k) e at_k).2)

  pub candidates_once : Once (candidates plan m S)
  candidates_once =
      once_flat group_of (λ g. g) (candidates_in plan m S) (groups plan) (groups_once plan)
      (each_still (λ g. is_known_group g ≡ true) _ (λ g is. each_placed (λ e. group_of e ≡ g) (candidate plan m S g) 0 (places_in plan S g) (λ k e low high at. in_its_group g k e is at)) (groups plan) (groups_known plan))
      (each_still (λ g. is_known_group g ≡ true) _ (λ g is. once_placed (candidate plan m S g) 0 (places_in plan S g)
      (λ j k e in_j in_k at_j at_k. at_its_place g j k e is (omega (arith, in_j)) (omega (arith, in_k)) at_j at_k)) (groups plan) (groups_known plan))
