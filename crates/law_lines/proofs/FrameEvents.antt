-- What a frame does is an event of the plan.
use Rattle.std.proofs.Common.{if◌then◌else◌, ◌≡◌, ℕ, ◌<◌, ◌^◌, Bool, true, false, List, [], ◌∷◌, ◌++◌, Option, Some, None, is_some, refl, sym, ap, subst}
use Rattle.wdf_base.specs.Meaning.{Meaning}
use Rattle.wdf_base.specs.Same.{same_event, same_option}
use Rattle.wdf_base.specs.declared.plan.Plan.{Plan}
use Rattle.wdf_base.specs.declared.call.Call.{Call}
use Rattle.wdf_base.specs.declared.event.Event.{Event}
use Rattle.wdf_base.specs.declared.event.Event.TheVariants as event
use Rattle.wdf_base.specs.declared.event.Fault.{Fault}
use Rattle.wdf_base.specs.declared.frame.Frame.{Frame}
use Rattle.wdf_base.specs.declared.frame.Intent.{Intent}
use Rattle.wdf_base.specs.declared.frame.Intent.TheVariants as intent
use Rattle.wdf_base.specs.declared.frame.Pending.{Pending}
use Rattle.wdf_base.specs.declared.value.Value.{Value}
use Rattle.wdf_model.specs.Ids.{cpu_of}
use Rattle.wdf_model.specs.Tables.{first_of_list}
use Rattle.wdf_model.specs.Plans.{device_of_register}
use Rattle.wdf_model.specs.parts.Cpus.{frame_of, top}
use Rattle.wdf_model.specs.State.{State}
use Rattle.wdf_model.specs.declared.deed.Deed.{Deed}
use Rattle.wdf_model.specs.rules.Deeds.{do_deed}
use Rattle.wdf_model.specs.rules.Script.{intent_of}
use Rattle.wdf_model.specs.rules.Faults.{fault_of}
use Rattle.wdf_model.specs.rules.Calls.{is_met, is_met_then, outcome, second_deeds}
use Rattle.wdf_model.specs.rules.Starts.{shown}
use Rattle.wdf_model.specs.rules.Steps.{deeds, did_deeds, event_of_frame, event_of_top, fault_event, intent_event, may, own_event, spends, view_of}
use Rattle.wdf_model.proofs.Sames.{did_same, end_same, waiting_same, woke_same}
use Rattle.law_machine_lives.proofs.Lists.{inside}
use Rattle.wdf_model.specs.rules.Room.{AreDoable}
use Rattle.wdf_trace.specs.Events.{IsCallOf, IsEventOf}
use Rattle.law_lines.proofs.OfPlan.{Bounded, cpus_few}
use Rattle.law_lines.specs.Fitting.{HasFittingNumbers}
use Rattle.law_lines.specs.Values.{HasPlanValues, IsPendingOf}
use Rattle.law_lines.proofs.Intents.{IsIntentOf, intent_is_of, line_small}
use Rattle.law_lines.proofs.Outcomes.{outcome_of}
use Rattle.law_machine_counts.proofs.Sames.{fault_same, local_same, log_same, register_same, spend_same}

-- ---- deeds one after another

pub doable_front : {A : Type 0} (plan : Plan) (ds es : List Deed) (S : State A) → AreDoable plan (ds ++ es) S → AreDoable plan ds S
doable_front plan [] es S k = tt
doable_front plan (d ∷ ds) es S k = (k.0, doable_front plan ds es (do_deed plan d S) k.1)

-- ---- the events of frames

-- a step inside a frame, and what a frame says
abbrev pub is_of_frame : Event → Bool
is_of_frame (event.Local cpu line) = true
is_of_frame (event.Log cpu v) = true
is_of_frame (event.Spend cpu n) = true
is_of_frame (event.Register cpu a k v) = true
is_of_frame (event.Did cpu c v) = true
is_of_frame (event.Waiting cpu c) = true
is_of_frame (event.Woke cpu c v) = true
is_of_frame (event.End cpu c o v) = true
is_of_frame (event.Fault cpu x line) = true
is_of_frame _ = false

-- what is found is the event
found_is : (found : Option Event) (e : Event) → ((x : Event) → same_event x e ≡ true → x ≡ e) → same_option same_event found (Some e) ≡ true → found ≡ Some e
found_is None e same h = absurd (let z : ⊥ = cc in z)
found_is (Some x) e same h = ap Some (same x h)

-- the frame that does it is on top of its processor
pub record IsOwn {A : Type 0} (plan : Plan) (m : Meaning A) (S : State A) (e : Event) : Type 0 where
  pub cpu : ℕ
  pub own : own_event plan m S cpu ≡ Some e

pub own_by : {A : Type 0} (plan : Plan) (m : Meaning A) (S : State A) (e : Event) → is_of_frame e ≡ true → may plan m S e ≡ true → IsOwn plan m S e
own_by plan m S (event.Local k line) is h = record { cpu = k.0; own = found_is _ _ (λ x s. local_same x k line s) h }
own_by plan m S (event.Log k v) is h = record { cpu = k.0; own = found_is _ _ (λ x s. log_same x k v s) h }
own_by plan m S (event.Spend k n) is h = record { cpu = k.0; own = found_is _ _ (λ x s. spend_same x k n s) h }
own_by plan m S (event.Register k a r n) is h = record { cpu = k.0; own = found_is _ _ (λ x s. register_same x k a r n s) h }
own_by plan m S (event.Did k c v) is h = record { cpu = k.0; own = found_is _ _ (λ x s. did_same x k c v s) h }
own_by plan m S (event.Waiting k c) is h = record { cpu = k.0; own = found_is _ _ (λ x s. waiting_same x k c s) h }
own_by plan m S (event.Woke k c v) is h = record { cpu = k.0; own = found_is _ _ (λ x s. woke_same x k c v s) h }
own_by plan m S (event.End k c o v) is h = record { cpu = k.0; own = found_is _ _ (λ x s. end_same x k c o v s) h }
own_by plan m S (event.Fault k x line) is h = record { cpu = k.0; own = found_is _ _ (λ y s. fault_same y k x line s) h }
own_by plan m S _ is h = absurd (let z : ⊥ = cc in z)

-- ---- the event of a processor's top frame

top_doable : {A : Type 0} (plan : Plan) (S : State A) (ds : ℕ → Frame → List Deed) (f : ℕ) (there : Option ℕ) → there ≡ Some f
    → AreDoable plan (elim there as (λ _. List Deed) [ None ↦ [] | Some g ↦ ds g (frame_of S.cpus g) ]) S → AreDoable plan (ds f (frame_of S.cpus f)) S
top_doable {A} plan S ds f there t k = subst (λ (o : Option ℕ). AreDoable plan (elim o as (λ _. List Deed) [ None ↦ [] | Some g ↦ ds g (frame_of S.cpus g) ]) S) t k

module _ {A : Type 0} (plan : Plan) (m : Meaning A) (S : State A) (b : Bounded plan S) (fit : HasFittingNumbers plan) (values : HasPlanValues plan S) (shows : (device what : ℕ) → shown plan m S device what < 2 ^ 64) where
  small_cpu : (cpu f : ℕ) → top S.cpus cpu ≡ Some f → cpu < 2 ^ 8
  small_cpu cpu f t = cpus_few plan m S b cpu (inside {T = List ℕ} [] (λ (fs : List ℕ). is_some (first_of_list fs)) S.cpus.stacks cpu refl (ap is_some t))

  of_same : (e x : Event) → IsEventOf plan x → Some x ≡ Some e → IsEventOf plan e
  of_same e x h s = let same : x ≡ e = cc in subst (IsEventOf plan) same h

  by_call : (cpu f : ℕ) (e : Event) (c : Call) (t : Bool) → top S.cpus cpu ≡ Some f → IsCallOf plan c
      → Some (if t then event.Did (cpu_of cpu) c (outcome plan S cpu f c).answer else event.Waiting (cpu_of cpu) c) ≡ Some e → AreDoable plan (deeds plan S e) S → IsEventOf plan e
  by_call cpu f e c true t is same k =
      let v : Value = (outcome plan S cpu f c).answer in
      let here : event.Did (cpu_of cpu) c v ≡ e = cc in
      let doable : AreDoable plan (deeds plan S (event.Did (cpu_of cpu) c v)) S = subst (λ (x : Event). AreDoable plan (deeds plan S x) S) (sym here) k in
      let own : AreDoable plan (did_deeds plan S cpu c v f (frame_of S.cpus f)) S = top_doable plan S (did_deeds plan S cpu c v) f (top S.cpus cpu) t doable in
      let first : AreDoable plan (outcome plan S cpu f c).deeds S = doable_front plan (outcome plan S cpu f c).deeds (second_deeds f c) S (doable_front plan ((outcome plan S cpu f c).deeds ++ second_deeds f c) _ S own) in
      of_same e (event.Did (cpu_of cpu) c v) (small_cpu cpu f t, is, (outcome_of plan m S b values cpu f c is).answers first) same
  by_call cpu f e c false t is same k = of_same e (event.Waiting (cpu_of cpu) c) (small_cpu cpu f t, is) same

  by_intent : (cpu f : ℕ) (e : Event) (i : Intent) → top S.cpus cpu ≡ Some f → IsIntentOf plan i
      → Some (intent_event plan m S cpu f (frame_of S.cpus f) i) ≡ Some e → AreDoable plan (deeds plan S e) S → IsEventOf plan e
  by_intent cpu f e (intent.Local change next) t is same k = of_same e _ (small_cpu cpu f t, line_small plan b.resolved fit (frame_of S.cpus f)) same
  by_intent cpu f e (intent.Log v) t is same k = of_same e _ (small_cpu cpu f t, is) same
  by_intent cpu f e (intent.Spend n) t is same k = of_same e _ (small_cpu cpu f t, is) same
  by_intent cpu f e (intent.Get r) t is same k = of_same e _ (small_cpu cpu f t, is, shows (device_of_register plan r) r) same
  by_intent cpu f e (intent.Put r n) t is same k = of_same e _ (small_cpu cpu f t, is.0, is.1) same
  by_intent cpu f e (intent.Do c) t is same k = by_call cpu f e c (is_met_then plan S c) t is same k
  by_intent cpu f e (intent.Return v) t is same k = of_same e _ (small_cpu cpu f t, (values.frames f).own, is) same
  by_intent cpu f e intent.Broken t is same k = of_same e _ (small_cpu cpu f t, line_small plan b.resolved fit (frame_of S.cpus f)) same

  by_fault : (cpu f : ℕ) (e : Event) (i : Intent) (x : Option Fault) → top S.cpus cpu ≡ Some f → IsIntentOf plan i
      → Some (fault_event plan m S cpu f (frame_of S.cpus f) i x) ≡ Some e → AreDoable plan (deeds plan S e) S → IsEventOf plan e
  by_fault cpu f e i (Some x) t is same k = of_same e _ (small_cpu cpu f t, line_small plan b.resolved fit (frame_of S.cpus f)) same
  by_fault cpu f e i None t is same k = by_intent cpu f e i t is same k

  by_waking : (cpu f : ℕ) (e : Event) (p : Pending) (met : Bool) → top S.cpus cpu ≡ Some f → IsPendingOf plan (Some p)
      → (if met then Some (event.Woke (cpu_of cpu) p.call p.answer) else None) ≡ Some e → IsEventOf plan e
  by_waking cpu f e p true t is same = of_same e _ (small_cpu cpu f t, is.0, is.1) same
  by_waking cpu f e p false t is same = absurd (let z : ⊥ = cc in z)

  by_frame : (cpu f : ℕ) (e : Event) (p : Option Pending) → top S.cpus cpu ≡ Some f → (frame_of S.cpus f).pending ≡ p
      → event_of_frame plan m S cpu f (frame_of S.cpus f) p ≡ Some e → AreDoable plan (deeds plan S e) S → IsEventOf plan e
  by_frame cpu f e (Some p) t waits same k = by_waking cpu f e p (is_met S p.call) t (subst (λ o. IsPendingOf plan o) waits (values.frames f).waits) same
  by_frame cpu f e None t waits same k =
      by_fault cpu f e (intent_of plan (frame_of S.cpus f)) (fault_of (view_of plan S cpu f) (intent_of plan (frame_of S.cpus f))) t
      (intent_is_of plan b.resolved fit (frame_of S.cpus f) (values.frames f)) same k

  by_spending : (cpu f : ℕ) (e : Event) (x : Bool) → top S.cpus cpu ≡ Some f
      → (if x then None else event_of_frame plan m S cpu f (frame_of S.cpus f) (frame_of S.cpus f).pending) ≡ Some e → AreDoable plan (deeds plan S e) S → IsEventOf plan e
  by_spending cpu f e true t same k = absurd (let z : ⊥ = cc in z)
  by_spending cpu f e false t same k = by_frame cpu f e (frame_of S.cpus f).pending t refl same k

  by_processor : (cpu : ℕ) (e : Event) (there : Option ℕ) → top S.cpus cpu ≡ there → event_of_top plan m S cpu there ≡ Some e → AreDoable plan (deeds plan S e) S → IsEventOf plan e
  by_processor cpu e None t same k = absurd (let z : ⊥ = cc in z)
  by_processor cpu e (Some f) t same k = by_spending cpu f e (spends S (frame_of S.cpus f)) t same k

  -- what a frame does
  pub frame_event_of : (e : Event) → is_of_frame e ≡ true → may plan m S e ≡ true → AreDoable plan (deeds plan S e) S → IsEventOf plan e
  frame_event_of e is h k =
      let o = own_by plan m S e is h in
      by_processor o.cpu e (top S.cpus o.cpu) refl o.own k
