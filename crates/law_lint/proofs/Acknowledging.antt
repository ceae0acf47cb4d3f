-- WdfRequestStopAcknowledge of a clean plan: what the walk's rule asks of its frame, and what it leaves of all frames.
use Rattle.std.proofs.Common.{if◌then◌else◌, ◌≡◌, ◌≢◌, ℕ, ◌<◌, ◌≤◌, Bool, true, false, not, ◌&&◌, ◌||◌, [], ◌∷◌, ◌++◌, Option, Some, None, length, refl, sym, ap, subst, ◌∙◌}
use Rattle.std.specs.List.{list_all}
use Rattle.wdf_base.specs.Meaning.{Meaning}
use Rattle.wdf_base.specs.Callbacks.{row_of}
use Rattle.wdf_base.specs.Resolved.{IsResolved}
use Rattle.wdf_base.specs.Same.{same_call_kind}
use Rattle.wdf_base.specs.declared.call.Arg.{Arg}
use Rattle.wdf_base.specs.declared.call.Call.{Call}
use Rattle.wdf_base.specs.declared.call.CallKind.{CallKind}
use Rattle.wdf_base.specs.declared.call.CallKind.TheVariants as call
use Rattle.wdf_base.specs.declared.event.Event.TheVariants as event
use Rattle.wdf_base.specs.declared.event.Fault.TheVariants as fault
use Rattle.wdf_base.specs.declared.frame.Frame.{Frame}
use Rattle.wdf_base.specs.declared.frame.Intent.TheVariants as intent
use Rattle.wdf_base.specs.declared.ids.Cpu.{Cpu}
use Rattle.wdf_base.specs.declared.ids.Handle.{Handle}
use Rattle.wdf_base.specs.declared.plan.Plan.{Plan}
use Rattle.wdf_base.specs.declared.script.ExprNode.{ExprNode}
use Rattle.wdf_base.specs.declared.value.Value.{Value}
use Rattle.wdf_model.specs.Ids.{frame_id, object_id}
use Rattle.wdf_model.specs.parts.Cpus.{frame_of}
use Rattle.wdf_model.specs.parts.Power.{stop_was_asked}
use Rattle.wdf_model.specs.parts.Requests.{origin_of, request_of}
use Rattle.wdf_model.specs.State.{State, object_in}
use Rattle.wdf_model.specs.declared.deed.Deed.TheVariants.{Acknowledge, GoOn}
use Rattle.wdf_model.specs.rules.Calls.{origin_or_none, outcome, requeue_outcome, second_deeds, success}
use Rattle.wdf_model.specs.rules.Deeds.{do_deeds}
use Rattle.wdf_base.specs.Values.{arg_is}
use Rattle.wdf_model.specs.rules.Script.{intent_of, statement_at}
use Rattle.wdf_model.specs.rules.Steps.{after, answered, deeds, did_deeds, may}
use Rattle.wdf_model.proofs.FrameCounts.{on}
use Rattle.wdf_model.proofs.Tests.{both_left, both_right}
use Rattle.law_machine_base.proofs.FitsOfEvents.{by_its_top, event_fits}
use Rattle.law_machine_base.proofs.OwnEvents.{IsDid, did_tells}
use Rattle.law_free_runs.proofs.FreeStates.{FreeState}
use Rattle.wdf_lint.specs.declared.state.Abstract.{Abstract}
use Rattle.wdf_lint.specs.Abstracts.{owner_of, plan_sends}
use Rattle.wdf_lint.specs.Steps.{called, is_request_word, is_scoped_queue, is_stop, is_zero, node_of, rule_of_acknowledging, rule_of_call}
use Rattle.wdf_lint.specs.Walks.{IsClean}
use Rattle.law_lint.proofs.Acting.{calling, on_it, own_argument, zero_argument}
use Rattle.law_lint.proofs.Calming.{calms_by, one_on_queue}
use Rattle.law_lint.proofs.Dids.{CalmHere, did_stands, has_ways}
use Rattle.law_lint.proofs.Faults.{Calls, calls, rule_off}
use Rattle.law_lint.proofs.Flags.{AllAskDeeds, FlagsKept}
use Rattle.law_lint.proofs.Others.{all_apart, deeds_later, is_owners}
use Rattle.law_lint.proofs.Owning.{Guarded, Stopping, has_origin}
use Rattle.law_lint.proofs.Resting.{AllCalm, deeds_flags}
use Rattle.law_lint.proofs.Stands.{FrameStands, Stands}
use Rattle.law_machine_lives.proofs.ReasonsOfEvents.{top_on}

-- ---- the rule

-- what is so of a walk's state at an acknowledgement that breaks no rule
record Acks (plan : Plan) (script : ℕ) (a : Abstract) (px py : Option ExprNode) : Type 0 where
  word : is_request_word px ≡ true
  zero : is_zero py ≡ true
  stop : is_stop a.hold ≡ true
  first : a.acknowledged ≡ false
  scoped : is_scoped_queue (owner_of plan script) ≡ true
  sends : plan_sends plan ≡ false

acking : (s a q n : Bool) → (if not s || a then Some fault.AckOutsideStop else if q && not n then None else Some fault.NotOwned) ≡ None → (s ≡ true) × (a ≡ false) × (q ≡ true) × (n ≡ false)
acking true false true false h = (refl, refl, refl, refl)
acking false a q n h = absurd (let z : ⊥ = cc in z)
acking true true q n h = absurd (let z : ⊥ = cc in z)
acking true false false n h = absurd (let z : ⊥ = cc in z)
acking true false true true h = absurd (let z : ⊥ = cc in z)

ack_rule : (plan : Plan) (script : ℕ) (a : Abstract) (k : CallKind) (px py : Option ExprNode) → rule_of_call plan script a k px py ≡ None → same_call_kind k call.WdfRequestStopAcknowledge ≡ true → Acks plan script a px py
ack_rule plan script a call.WdfRequestStopAcknowledge px py rule is =
    let g = on_it (is_request_word px && is_zero py) (rule_of_acknowledging plan script a) rule in
    let t = acking (is_stop a.hold) a.acknowledged (is_scoped_queue (owner_of plan script)) (plan_sends plan) g.1 in
    record { word = both_left (is_request_word px) (is_zero py) g.0; zero = both_right (is_request_word px) (is_zero py) g.0; stop = t.0; first = t.1; scoped = t.2; sends = t.3 }
ack_rule plan script a _ px py rule is = absurd (let z : ⊥ = cc in z)

-- what is so of a frame that is about to acknowledge
pub record StopCall {A : Type 0} (plan : Plan) (S : State A) (f : ℕ) (a : Abstract) (c : Call) : Type 0 where
  pub keeps : arg_is c.b 0 ≡ true
  pub first : a.acknowledged ≡ false
  -- it has a request to be acknowledged, and acknowledges that one
  pub stopping : IsResolved plan → Stopping S.requests S.power (frame_of S.cpus f) a.acknowledged
  pub own : (r : Handle) → (frame_of S.cpus f).request ≡ Some r → object_in c.a ≡ r.id.0

pub stop_call : {A : Type 0} (plan : Plan) (S : State A) (cpu f : ℕ) (a : Abstract) (c : Call) → IsClean plan → FrameStands plan S f a → intent_of plan (frame_of S.cpus f) ≡ intent.Do c → same_call_kind c.kind call.WdfRequestStopAcknowledge ≡ true → StopCall plan S f a c
stop_call plan S cpu f a c clean fs does stops =
    let frame : Frame = frame_of S.cpus f in
    let s : Calls plan frame (statement_at plan frame) c = calls plan frame c does in
    let kind : c.kind ≡ s.kind = ap (λ (q : Call). q.kind) s.call in
    let rule : Acks plan frame.script a (node_of plan s.x) (node_of plan s.y) = ack_rule plan frame.script a s.kind (node_of plan s.x) (node_of plan s.y) (rule_off plan S cpu f a clean fs c s) (sym (ap (λ q. same_call_kind q call.WdfRequestStopAcknowledge) kind) ∙ stops) in
    record {
      keeps = ap (λ (q : Call). arg_is q.b 0) s.call ∙ zero_argument plan frame s.y rule.zero;
      first = rule.first;
      stopping = λ resolved. fs.own.stopping (record { resolved = resolved; scoped = rule.scoped; sends = rule.sends }) rule.stop;
      own = λ r has. ap (λ (q : Call). object_in q.a) s.call ∙ own_argument plan frame s.x r rule.word has;
    }

-- ---- its deeds

kept_by : {A : Type 0} (S : State A) (x : Arg) (b : Bool) → b ≡ true → (if b then success (Acknowledge (object_id (object_in x)) ∷ []) else requeue_outcome S (object_in x) (origin_or_none S (object_in x))).deeds ≡ Acknowledge (object_id (object_in x)) ∷ []
kept_by S x true e = refl
kept_by S x false e = absurd (let q : ⊥ = cc in q)

outcome_is : {A : Type 0} (plan : Plan) (S : State A) (cpu f n : ℕ) (x y z : Arg) → arg_is y 0 ≡ true → (outcome plan S cpu f (calling call.WdfRequestStopAcknowledge n x y z)).deeds ≡ Acknowledge (object_id (object_in x)) ∷ []
outcome_is plan S cpu f n x y z h = kept_by S x (arg_is y 0) h

pub is_kind : (k : CallKind) → same_call_kind k call.WdfRequestStopAcknowledge ≡ true → k ≡ call.WdfRequestStopAcknowledge
is_kind call.WdfRequestStopAcknowledge h = refl
is_kind _ h = absurd (let z : ⊥ = cc in z)

module _ {A : Type 0} (plan : Plan) (m : Meaning A) (S : State A) (k : Cpu) (c : Call) (v : Value) (clean : IsClean plan) (stops : same_call_kind c.kind call.WdfRequestStopAcknowledge ≡ true) (h : may plan m S (event.Did k c v) ≡ true)
    (free : FreeState plan S) (st : Stands plan S) where
  abbrev did : IsDid plan S k.0 c v
  did = did_tells plan m S k c v h

  abbrev f : ℕ
  f = did.frame

  there : 1 ≤ on S.cpus f
  there = top_on S.cpus k.0 f did.about.top

  pub stop_call_here : StopCall plan S f (st.states f) c
  stop_call_here = stop_call plan S k.0 f (st.states f) c clean (st.stands f there) did.about.about stops

  abbrev next : Frame
  next = answered plan (frame_of S.cpus f) v

  -- it acknowledges, and goes on
  pub stop_deeds : deeds plan S (event.Did k c v) ≡ Acknowledge (object_id (object_in c.a)) ∷ GoOn (frame_id f) next ∷ []
  stop_deeds =
      let it : c.kind ≡ call.WdfRequestStopAcknowledge = is_kind c.kind stops in
      let first : (outcome plan S k.0 f c).deeds ≡ Acknowledge (object_id (object_in c.a)) ∷ [] = subst (λ q. (outcome plan S k.0 f (calling q c.count c.a c.b c.c)).deeds ≡ Acknowledge (object_id (object_in c.a)) ∷ []) (sym it) (outcome_is plan S k.0 f c.count c.a c.b c.c stop_call_here.keeps) in
      let second : second_deeds f c ≡ [] = subst (λ q. second_deeds f (calling q c.count c.a c.b c.c) ≡ []) (sym it) refl in
      by_its_top S k.0 f (did_deeds plan S k.0 c v) did.about.top
      ∙ ap (λ ds. (ds ++ second_deeds f c) ++ GoOn (frame_id f) next ∷ []) first ∙ ap (λ ds. (Acknowledge (object_id (object_in c.a)) ∷ ds) ++ GoOn (frame_id f) next ∷ []) second

  -- none is an owner's
  pub stop_none : list_all (λ d. not (is_owners d)) (deeds plan S (event.Did k c v)) ≡ true
  stop_none = ap (λ es. list_all (λ d. not (is_owners d)) es) stop_deeds

  calm_deeds : (fresh : Bool) (x : ℕ) → (fresh ≡ true → x ≢ object_in c.a) → AllCalm plan fresh (deeds plan S (event.Did k c v)) S x
  calm_deeds fresh x off = subst (λ es. AllCalm plan fresh es S x) (sym stop_deeds) (off, (tt, tt))

  -- another EvtIoStop has another request: the two queues' scopes keep them apart
  other_request : (g : ℕ) → g ≢ f → 1 ≤ on S.cpus g → Guarded plan (frame_of S.cpus g).script → (w : Stopping S.requests S.power (frame_of S.cpus g) (st.states g).acknowledged) → w.request.id.0 ≢ object_in c.a
  other_request g n more guard w same =
      let mine = stop_call_here.stopping guard.resolved in
      let one : w.request.id.0 ≡ mine.request.id.0 = same ∙ stop_call_here.own mine.request mine.has in
      let queues : Some (frame_of S.cpus g).object.id.0 ≡ Some (frame_of S.cpus f).object.id.0 = sym w.origin ∙ ap (origin_of S.requests) one ∙ mine.origin in
      n (one_on_queue plan S free g f more there ((st.stands g more).began.queue guard.scoped) (ap (λ q. (row_of q).lock) w.calls) (ap (λ q. (row_of q).lock) mine.calls) (same_id queues))
    where
      same_id : {o p : ℕ} → Some o ≡ Some p → p ≡ o
      same_id {o} {p} e = cc

  flags : (g : ℕ) (fresh : Bool) → 1 ≤ on S.cpus g → (w : Stopping S.requests S.power (frame_of S.cpus g) (st.states g).acknowledged) → w.request.id.0 < length S.requests.all → (fresh ≡ true → w.request.id.0 ≢ object_in c.a) → FlagsKept fresh S.power (do_deeds plan (deeds plan S (event.Did k c v)) S).power w.request.id.0
  flags g fresh more w old off =
      deeds_flags plan fresh (deeds plan S (event.Did k c v)) S w.request.id.0 (event_fits plan m S (event.Did k c v) h) free.places old w.owned
      (has_origin (request_of S.requests w.request.id.0).info.origin (frame_of S.cpus g).object.id.0 w.origin)
      (all_apart plan (deeds plan S (event.Did k c v)) S w.request.id.0 stop_none) (calm_deeds fresh w.request.id.0 off)

  calm_here : (x : Option ExprNode) (q : CallKind) → c.kind ≡ q → CalmHere plan S (do_deeds plan (deeds plan S (event.Did k c v)) S) f st q x
  calm_here x q kind = record {
    fresh = false;
    ends = λ e. absurd (let yes : (called plan (frame_of S.cpus f).script (st.states f) q x).acknowledged ≡ true = subst (λ j. (called plan (frame_of S.cpus f).script (st.states f) j x).acknowledged ≡ true) (sym (is_kind c.kind stops) ∙ kind) refl in let z : ⊥ = cc in z);
    mine = calms_by plan S _ f (st.states f) false (st.stands f there) (λ guard w old. flags f false there w old (λ e. absurd (let z : ⊥ = cc in z)));
    others = λ g n more. calms_by plan S _ g (st.states g) true (st.stands g more) (λ guard w old. flags g true more w old (λ e. other_request g n more guard w));
  }

  pub stop_stands : Stands plan (after plan m S (event.Did k c v))
  stop_stands =
      let s : Calls plan (frame_of S.cpus f) (statement_at plan (frame_of S.cpus f)) c = calls plan (frame_of S.cpus f) c did.about.about in
      did_stands plan m S k c v free clean (ap has_ways (is_kind c.kind stops)) h
      (λ x old. deeds_later plan (deeds plan S (event.Did k c v)) S x (event_fits plan m S (event.Did k c v) h) free.places old (all_apart plan (deeds plan S (event.Did k c v)) S x stop_none)) st
      (calm_here (node_of plan s.x) s.kind (ap (λ (q : Call). q.kind) s.call))

  -- what it acknowledges was asked to stop
  pub stop_asks : IsResolved plan → AllAskDeeds plan (deeds plan S (event.Did k c v)) S
  stop_asks resolved =
      let mine = stop_call_here.stopping resolved in
      subst (λ es. AllAskDeeds plan es S) (sym stop_deeds) (subst (λ n. stop_was_asked S.power n ≡ true) (sym (stop_call_here.own mine.request mine.has)) mine.asked, (tt, tt))
