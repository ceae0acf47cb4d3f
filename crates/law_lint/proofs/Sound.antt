-- In a free run of a clean plan no frame has a fault that is about who owns a request; of StopAcknowledge the first is for itself.
use Rattle.std.proofs.Common.{if◌then◌else◌, ◌≡◌, ℕ, ◌+◌, ◌==◌, ◌<◌, ◌≤◌, nat_lt, Bool, true, false, not, ◌&&◌, ◌||◌, List, [], ◌∷◌, ◌⊎◌, inl, inr, Option, Some, None, length, slice_get, refl, sym, ap, subst, ◌∙◌, arith}
use Rattle.std.specs.List.{list_all}
use Rattle.wdf_base.specs.Meaning.{Meaning}
use Rattle.wdf_base.specs.Resolved.{IsResolved}
use Rattle.wdf_base.specs.declared.plan.Plan.{Plan}
use Rattle.wdf_base.specs.declared.ids.Cpu.{Cpu}
use Rattle.wdf_base.specs.declared.ids.Handle.{Handle}
use Rattle.wdf_base.specs.declared.value.Value.{Value}
use Rattle.wdf_base.specs.declared.object.Place.{Place}
use Rattle.wdf_base.specs.declared.object.RequestForm.{RequestForm}
use Rattle.wdf_base.specs.declared.call.Call.{Call}
use Rattle.wdf_base.specs.declared.call.CallKind.{CallKind}
use Rattle.wdf_base.specs.declared.call.CallKind.TheVariants as call
use Rattle.wdf_base.specs.declared.event.Event.{Event}
use Rattle.wdf_base.specs.declared.event.Event.TheVariants as event
use Rattle.wdf_base.specs.declared.event.Post.{Post}
use Rattle.wdf_base.specs.declared.event.Post.TheVariants as post
use Rattle.wdf_base.specs.Same.{same_call_kind}
use Rattle.wdf_model.specs.Ids.{object_id}
use Rattle.wdf_model.specs.Plans.{is_manual_queue, has_handler, queue_of, queue_for}
use Rattle.wdf_model.specs.parts.Tree.{life_of}
use Rattle.wdf_model.specs.parts.Cpus.{frame_of}
use Rattle.wdf_model.specs.parts.Control.{accepts}
use Rattle.wdf_model.specs.State.{State, opening}
use Rattle.wdf_model.specs.declared.deed.Deed.{Deed}
use Rattle.wdf_model.specs.declared.deed.Deed.TheVariants.{Arrive, CompleteRequest, CountArrival, SendRequest}
use Rattle.law_machine_base.specs.Fits.{all_fit}
use Rattle.wdf_model.specs.rules.Deeds.{do_deeds}
use Rattle.wdf_model.specs.rules.Posts.{arrival_info, arrival_place, is_data, place_if_any, takes_empty}
use Rattle.wdf_model.specs.rules.Steps.{after, deeds, may}
use Rattle.wdf_model.proofs.Tests.{both, both_left, both_right}
use Rattle.law_machine_base.proofs.FitsOfEvents.{event_fits}
use Rattle.law_machine_deeds.specs.MayDo.{calls, may_do, posts}
use Rattle.law_machine_deeds.proofs.Passing.{event_passes}
use Rattle.law_machine_deeds.proofs.Walk.{all_pass, event_may}
use Rattle.law_machine_counts.proofs.StepStates.{StepsIn}
use Rattle.law_machine_counts.proofs.StepsOverRuns.{none_yet}
use Rattle.law_free_runs.specs.FreeRuns.{IsFreeRun}
use Rattle.law_lint.specs.Faults.{is_of_marks}
use Rattle.wdf_lint.specs.Walks.{IsClean}
use Rattle.law_lint.proofs.Others.{is_owners, is_owners_call, is_owners_event, owners_event}
use Rattle.law_lint.proofs.Sane.{AllSane, AllSaneDeeds, all_ask_none, deeds_sane, is_asking}
use Rattle.law_lint.proofs.Stands.{FrameStands, Stands}
use Rattle.std.proofs.Common.{rules}
use Rattle.std.proofs.lemmas.Option.{slice_get_within}
use Rattle.wdf_base.specs.declared.event.Fault.{Fault}
use Rattle.wdf_base.specs.declared.event.Fault.TheVariants as fault
use Rattle.wdf_base.specs.declared.frame.Intent.{Intent}
use Rattle.wdf_base.specs.declared.frame.Intent.TheVariants as intent
use Rattle.wdf_base.specs.Same.{same_cpu, same_event, same_fault}
use Rattle.wdf_model.specs.Ids.{cpu_of}
use Rattle.wdf_model.specs.rules.Calls.{is_met_then, outcome}
use Rattle.wdf_model.specs.rules.Faults.{View, call_faults, holds_of, is_fault_of_access, is_fault_of_return, is_script_fault, fault_of}
use Rattle.wdf_model.specs.rules.Script.{intent_of, line_of}
use Rattle.wdf_model.specs.rules.Steps.{intent_event, own_event, view_of}
use Rattle.wdf_lint.specs.declared.state.Abstract.{Abstract}
use Rattle.wdf_lint.specs.Abstracts.{start}
use Rattle.std.proofs.lemmas.Bool.Decides.{nat_tests}
use Rattle.wdf_base.specs.declared.script.Act.{Act}
use Rattle.wdf_base.specs.declared.script.Act.TheVariants as act
use Rattle.wdf_base.specs.declared.script.Statement.{Statement}
use Rattle.wdf_base.specs.declared.frame.Frame.{Frame}
use Rattle.wdf_model.specs.parts.Locks.{held_by_call}
use Rattle.wdf_model.specs.rules.Script.{act_intent, intent_at, statement_at}
use Rattle.wdf_lint.specs.Steps.{rule_at, rule_of_leaving, statement_of}
use Rattle.law_lint.proofs.Weights.{left_weight}
use Rattle.law_lint.proofs.Frames.{act_shape, shape, shape_of}
use Rattle.law_lint.proofs.Acting.{Quiet}
use Rattle.law_lint.proofs.Faults.{Keeps, call_quiet, fault_holds, stop_quiet}
use Rattle.law_free_runs.proofs.FreeRuns.{free_place}
use Rattle.law_free_runs.proofs.FreeStates.{FreeState, event_state, opening_state, tick_state}
use Rattle.wdf_base.specs.declared.object.RequestForm.TheVariants as form
use Rattle.wdf_base.specs.Lives.{is_live}
use Rattle.wdf_base.specs.Places.{is_sent}
use Rattle.wdf_base.specs.Posts.{is_request}
use Rattle.law_machine_base.proofs.OwnEvents.{waiting_tells}
use Rattle.law_lint.proofs.Begins.{start_stands}
use Rattle.law_lint.proofs.Acknowledging.{stop_asks, stop_none, stop_stands}
use Rattle.law_lint.proofs.Around.{Around, around_event, around_opening, around_tick}
use Rattle.law_lint.proofs.Dids.{has_ways, plain_stands, woke_stands}
use Rattle.law_lint.proofs.Flags.{AllAskDeeds, AllAsked, all_unasking, deeds_asked, is_acknowledging, none_acknowledging}
use Rattle.law_lint.proofs.Events.{Acts, Does, Faults, Own, Wakes, local_stands, log_stands, owns, register_stands, spend_stands}
use Rattle.law_lint.proofs.Framework.{cleanup_stands, closing_unarmed, completion_stands, destroy_stands, post_stands, stage_stands, tick_stands}
use Rattle.law_lint.proofs.Owners.{owner_keeps, ways_none}
use Rattle.law_lint.proofs.Resting.{no_acknowledge}
use Rattle.law_lint.proofs.Waits.{end_stands, fault_stands, park_stands, unpark_stands, waiting_stands, waits_for_none}
use Rattle.wdf_model.proofs.FrameCounts.{none_or_some, on}
use Rattle.law_machine_lives.proofs.LevelEvents.{found_own}
use Rattle.law_machine_lives.proofs.ReasonsOfEvents.{top_on}

-- ---- requests stay sane

not_asking : (e : Event) → is_owners_event e ≡ false → posts is_request e ≡ false → (d : Deed) → may_do e d ≡ true → not (is_asking d) ≡ true
not_asking e off no_post (Arrive device info p) h = absurd (let z : ⊥ = cc in z)
not_asking e off no_post (SendRequest r t forget) h = absurd (let yes = owners_event e (SendRequest r t forget) refl h in let z : ⊥ = cc in z)
not_asking e off no_post (CompleteRequest r) h = absurd (let yes = owners_event e (CompleteRequest r) refl h in let z : ⊥ = cc in z)
not_asking e off no_post _ h = refl

event_sane : {A : Type 0} (plan : Plan) (S : State A) (e : Event) → is_owners_event e ≡ false → posts is_request e ≡ false → all_fit plan (deeds plan S e) S ≡ true → AllSane S.requests → AllSane (do_deeds plan (deeds plan S e) S).requests
event_sane plan S e off no_post fit all =
    deeds_sane plan (deeds plan S e) S fit (all_ask_none plan (deeds plan S e) S (all_pass (may_do e) (λ d. not (is_asking d)) (not_asking e off no_post) (deeds plan S e) (event_may plan S e))) all

-- where a request arrives it isn't sent
chosen : (b : Bool) (p q : Place) → is_sent p ≡ false → is_sent q ≡ false → is_sent (if b then p else q) ≡ false
chosen true p q h k = h
chosen false p q h k = k

arrives_unsent : {A : Type 0} (plan : Plan) (S : State A) (f : RequestForm) (n : ℕ) (q : Option ℕ) → is_sent (place_if_any plan S f n q) ≡ false
arrives_unsent plan S f n None = refl
arrives_unsent plan S f n (Some q) = chosen (not (accepts S.control q)) _ _ refl (chosen (is_data f && n == 0 && not (takes_empty (queue_of plan q))) _ _ refl (chosen (not (is_manual_queue plan q || has_handler plan q f)) _ _ refl refl))

post_sane : {A : Type 0} (plan : Plan) (S : State A) (agent : ℕ) (f : RequestForm) (n code device : ℕ) (b : Bool)
    → AllSaneDeeds plan (CountArrival agent ∷ (if b then Arrive (object_id device) (arrival_info S agent f n code device) (arrival_place plan S f n device) ∷ [] else [])) S
post_sane plan S agent f n code device true = (tt, ((refl, arrives_unsent plan S f n (queue_for plan device f)), tt))
post_sane plan S agent f n code device false = (tt, tt)

posted_sane : {A : Type 0} (plan : Plan) (S : State A) (agent : ℕ) (p : Post) (answer : Option Handle) → all_fit plan (deeds plan S (event.Posted agent p answer)) S ≡ true → AllSane S.requests → AllSane (do_deeds plan (deeds plan S (event.Posted agent p answer)) S).requests
posted_sane plan S agent (post.Read device n) answer fit all = deeds_sane plan (deeds plan S (event.Posted agent (post.Read device n) answer)) S fit (post_sane plan S agent form.Read n 0 device.id.0 (is_live (life_of S.tree device.id.0))) all
posted_sane plan S agent (post.Write device n) answer fit all = deeds_sane plan (deeds plan S (event.Posted agent (post.Write device n) answer)) S fit (post_sane plan S agent form.Write n 0 device.id.0 (is_live (life_of S.tree device.id.0))) all
posted_sane plan S agent (post.Control device code n) answer fit all = deeds_sane plan (deeds plan S (event.Posted agent (post.Control device code n) answer)) S fit (post_sane plan S agent form.Control n code device.id.0 (is_live (life_of S.tree device.id.0))) all
posted_sane plan S agent p answer fit all = event_sane plan S (event.Posted agent p answer) refl refl fit all

-- ---- the whole invariant

pub record Standing {A : Type 0} (plan : Plan) (S : State A) : Type 0 where
  pub stands : Stands plan S
  pub sane : AllSane S.requests
  pub state : FreeState plan S
  pub around : Around plan S
  -- what is acknowledged was asked to stop
  pub asked : IsResolved plan → AllAsked S.power

-- no frame has the next number
next_free : {A : Type 0} (S : State A) → StepsIn S.number S.number S → on S.cpus (S.number + 1) ≡ 0
next_free S h = elim (none_or_some (on S.cpus (S.number + 1))) [
  | inl e ↦ e
  | inr more ↦ absurd (let old = h.framed.old (S.number + 1) more in let z : ⊥ = omega arith in z)
]

-- the requests and what keeps them, after an event
standing_by : {A : Type 0} (plan : Plan) (m : Meaning A) (S : State A) (e : Event) → may plan m S e ≡ true → Standing plan S → Stands plan (after plan m S e) → AllSane (do_deeds plan (deeds plan S e) S).requests → (IsResolved plan → AllAskDeeds plan (deeds plan S e) S)
    → Standing plan (after plan m S e)
standing_by plan m S e h k stands sane asks = record {
  stands = stands;
  sane = sane;
  state = event_state plan m S e h k.state;
  around = around_event plan m S e h k.state k.around;
  asked = λ resolved. deeds_asked plan (deeds plan S e) S (asks resolved) (k.asked resolved);
}

-- an event that isn't an acknowledgement
unasking : {A : Type 0} (plan : Plan) (S : State A) (e : Event) → calls call.WdfRequestStopAcknowledge e ≡ false → IsResolved plan → AllAskDeeds plan (deeds plan S e) S
unasking plan S e off resolved = all_unasking plan (deeds plan S e) S (event_passes (λ d. not (is_acknowledging d)) plan S e (none_acknowledging e off))

quiet_standing : {A : Type 0} (plan : Plan) (m : Meaning A) (S : State A) (e : Event) → may plan m S e ≡ true → is_owners_event e ≡ false → posts is_request e ≡ false → Standing plan S → Stands plan (after plan m S e) → Standing plan (after plan m S e)
quiet_standing plan m S e h off no_post k stands = standing_by plan m S e h k stands (event_sane plan S e off no_post (event_fits plan m S e h) k.sane) (unasking plan S e (no_acknowledge e off))

rest_plain : (k : CallKind) → has_ways k ≡ false → same_call_kind k call.WdfRequestStopAcknowledge ≡ false → is_owners_call k ≡ false
rest_plain call.WdfRequestComplete h s = absurd (let z : ⊥ = cc in z)
rest_plain call.WdfRequestRequeue h s = absurd (let z : ⊥ = cc in z)
rest_plain call.WdfRequestForwardToIoQueue h s = absurd (let z : ⊥ = cc in z)
rest_plain call.WdfRequestSend h s = absurd (let z : ⊥ = cc in z)
rest_plain call.WdfRequestMarkCancelableEx h s = absurd (let z : ⊥ = cc in z)
rest_plain call.WdfRequestUnmarkCancelable h s = absurd (let z : ⊥ = cc in z)
rest_plain call.WdfRequestStopAcknowledge h s = absurd (let z : ⊥ = cc in z)
rest_plain _ h s = refl

-- a deed that is no owner's and no arrival asks for nothing
neither : (e : Event) (d : Deed) → posts is_request e ≡ false → may_do e d ≡ true → not (is_owners d) ≡ true → not (is_asking d) ≡ true
neither e (Arrive device info p) no_post h k = absurd (let z : ⊥ = cc in z)
neither e (SendRequest r t forget) no_post h k = absurd (let z : ⊥ = cc in z)
neither e (CompleteRequest r) no_post h k = absurd (let z : ⊥ = cc in z)
neither e _ no_post h k = refl

both_all : (p q r : Deed → Bool) → ((d : Deed) → p d ≡ true → q d ≡ true → r d ≡ true) → (ds : List Deed) → list_all p ds ≡ true → list_all q ds ≡ true → list_all r ds ≡ true
both_all p q r h [] a b = refl
both_all p q r h (d ∷ ds) a b = both (r d) (list_all r ds) (h d (both_left (p d) (list_all p ds) a) (both_left (q d) (list_all q ds) b)) (both_all p q r h ds (both_right (p d) (list_all p ds) a) (both_right (q d) (list_all q ds) b))

did_standing : {A : Type 0} (plan : Plan) (m : Meaning A) (S : State A) (k : Cpu) (c : Call) (v : Value) → IsClean plan → may plan m S (event.Did k c v) ≡ true → Standing plan S → (b s : Bool) → has_ways c.kind ≡ b → same_call_kind c.kind call.WdfRequestStopAcknowledge ≡ s
    → Standing plan (after plan m S (event.Did k c v))
did_standing plan m S k c v clean h st true s e f = let o = owner_keeps plan m S k c v clean e h st.state st.stands in standing_by plan m S (event.Did k c v) h st o.0 (o.1 st.sane) (unasking plan S (event.Did k c v) (ways_none c.kind e))
did_standing plan m S k c v clean h st false true e f =
    standing_by plan m S (event.Did k c v) h st (stop_stands plan m S k c v clean f h st.state st.stands)
    (deeds_sane plan (deeds plan S (event.Did k c v)) S (event_fits plan m S (event.Did k c v) h) (all_ask_none plan (deeds plan S (event.Did k c v)) S
    (both_all (may_do (event.Did k c v)) (λ d. not (is_owners d)) (λ d. not (is_asking d)) (λ d a b. neither (event.Did k c v) d refl a b) (deeds plan S (event.Did k c v)) (event_may plan S (event.Did k c v)) (stop_none plan m S k c v clean f h st.state st.stands))) st.sane)
    (stop_asks plan m S k c v clean f h st.state st.stands)
did_standing plan m S k c v clean h st false false e f =
    let off : is_owners_call c.kind ≡ false = rest_plain c.kind e f in
    quiet_standing plan m S (event.Did k c v) h off refl st (plain_stands plan m S k c v clean e off h st.state st.stands)

waiting_off : {A : Type 0} (plan : Plan) (m : Meaning A) (S : State A) (k : Cpu) (c : Call) → may plan m S (event.Waiting k c) ≡ true → is_owners_call c.kind ≡ false
waiting_off plan m S k c h = (waits_for_none plan S c.kind c.count c.a c.b c.c (waiting_tells plan m S k c h).unmet).1

-- each event keeps it
pub event_standing : {A : Type 0} (plan : Plan) (m : Meaning A) (S : State A) (e : Event) → IsClean plan → may plan m S e ≡ true → Standing plan S → Standing plan (after plan m S e)
event_standing plan m S (event.Start k c o r) clean h st = quiet_standing plan m S (event.Start k c o r) h refl refl st (start_stands plan m S k c o r h (next_free S st.state.steps) st.state st.sane st.around st.asked st.stands)
event_standing plan m S (event.Local k line) clean h st = quiet_standing plan m S (event.Local k line) h refl refl st (local_stands plan m S k line h st.stands)
event_standing plan m S (event.Log k v) clean h st = quiet_standing plan m S (event.Log k v) h refl refl st (log_stands plan m S k v h st.stands)
event_standing plan m S (event.Spend k n) clean h st = quiet_standing plan m S (event.Spend k n) h refl refl st (spend_stands plan m S k n h st.stands)
event_standing plan m S (event.Register k a r v) clean h st = quiet_standing plan m S (event.Register k a r v) h refl refl st (register_stands plan m S k a r v h st.stands)
event_standing plan m S (event.Did k c v) clean h st = did_standing plan m S k c v clean h st (has_ways c.kind) (same_call_kind c.kind call.WdfRequestStopAcknowledge) refl refl
event_standing plan m S (event.Waiting k c) clean h st = quiet_standing plan m S (event.Waiting k c) h (waiting_off plan m S k c h) refl st (waiting_stands plan m S k c h st.state st.stands)
event_standing plan m S (event.Woke k c v) clean h st = quiet_standing plan m S (event.Woke k c v) h refl refl st (woke_stands plan m S k c v clean h st.state st.stands)
event_standing plan m S (event.Park k f) clean h st = quiet_standing plan m S (event.Park k f) h refl refl st (park_stands plan m S k f h st.stands)
event_standing plan m S (event.Unpark k f) clean h st = quiet_standing plan m S (event.Unpark k f) h refl refl st (unpark_stands plan m S k f h st.state.steps.framed.once st.stands)
event_standing plan m S (event.End k c o v) clean h st = quiet_standing plan m S (event.End k c o v) h refl refl st (end_stands plan m S k c o v h st.state st.stands)
event_standing plan m S (event.Fault k x line) clean h st = quiet_standing plan m S (event.Fault k x line) h refl refl st (fault_stands plan m S k x line st.stands)
event_standing plan m S (event.Stage d s i) clean h st = quiet_standing plan m S (event.Stage d s i) h refl refl st (stage_stands plan m S d s i h st.state.places st.around st.stands)
event_standing plan m S (event.Complete r s) clean h st =
    standing_by plan m S (event.Complete r s) h st (completion_stands plan m S r s h st.state.places st.stands)
    (deeds_sane plan (CompleteRequest r.id ∷ []) S (event_fits plan m S (event.Complete r s) h) (closing_unarmed plan m S r s h (st.sane r.id.0), tt) st.sane) (unasking plan S (event.Complete r s) refl)
event_standing plan m S (event.Cleanup o) clean h st = quiet_standing plan m S (event.Cleanup o) h refl refl st (cleanup_stands plan m S o h st.state.places st.stands)
event_standing plan m S (event.Destroy o) clean h st = quiet_standing plan m S (event.Destroy o) h refl refl st (destroy_stands plan m S o h st.state.places st.stands)
event_standing plan m S (event.Posted agent p answer) clean h st =
    standing_by plan m S (event.Posted agent p answer) h st (post_stands plan m S agent p answer h st.state.places st.stands) (posted_sane plan S agent p answer (event_fits plan m S (event.Posted agent p answer) h) st.sane)
    (unasking plan S (event.Posted agent p answer) refl)
event_standing plan m S (event.Tick time) clean h st = absurd (let z : ⊥ = cc in z)

pub tick_standing : {A : Type 0} (plan : Plan) (m : Meaning A) (S : State A) (time : ℕ) → Standing plan S → Standing plan (after plan m S (event.Tick time))
tick_standing plan m S time st = record {
  stands = tick_stands plan m S time st.stands;
  sane = st.sane;
  state = tick_state plan m S time st.state;
  around = around_tick plan m S time st.around;
  asked = st.asked;
}

-- ---- the opening

pub opening_standing : {A : Type 0} (plan : Plan) (m : Meaning A) → Standing plan (opening plan m)
opening_standing plan m = record {
  stands = record {
    states = λ f. start plan 0;
    stands = λ f more. absurd (let e = none_yet plan (λ x. x == f) in omega arith);
    alone = λ f g x fm gm. absurd (let e = none_yet plan (λ y. y == f) in omega arith);
    off = λ f none. refl;
  };
  sane = λ x. record { armed = λ a. absurd (let z : ⊥ = cc in z); sent = λ s. absurd (let z : ⊥ = cc in z) };
  state = opening_state plan m;
  around = around_opening plan m (opening_state plan m);
  asked = λ resolved x h. absurd (let z : ⊥ = cc in z);
}

-- ---- each place of a free run

pub standing_place : {A : Type 0} (plan : Plan) → IsClean plan → (run : List Event) (free : IsFreeRun A plan run) (n : ℕ) → n ≤ length run → Standing plan (free.states n)
standing_place {A} plan clean run free n h = free_place plan (λ (S : State A). Standing plan S) (opening_standing plan) (λ m S e may_come st. event_standing plan m S e clean may_come st) (λ m S time st. tick_standing plan m S time st) run free n h

-- ---- the theorem

-- a fault that is about who owns a request
pub data IsOfOwning : Fault → Type 0 where
  NotOwned : IsOfOwning fault.NotOwned
  WhileMarked : IsOfOwning fault.CompleteWhileMarked
  BeforeCancel : IsOfOwning fault.CompleteBeforeCancelCallback
  Twice : IsOfOwning fault.MarkedTwice

quiet_off : (v : View) (c : Call) (x : Fault) → IsOfOwning x → Quiet v c → call_faults v c x ≡ false
quiet_off v c x is q = elim is as (λ y _. call_faults v c y ≡ false) [
  | NotOwned ↦ q.owned
  | WhileMarked ↦ q.marked
  | BeforeCancel ↦ q.due
  | Twice ↦ q.once
]

not_of_return : (x : Fault) → IsOfOwning x → (is_fault_of_return x ≡ false) × (is_fault_of_access x ≡ false) × (is_script_fault x ≡ false)
not_of_return x is = elim is as (λ y _. (is_fault_of_return y ≡ false) × (is_fault_of_access y ≡ false) × (is_script_fault y ≡ false)) [
  | NotOwned ↦ (refl, refl, refl)
  | WhileMarked ↦ (refl, refl, refl)
  | BeforeCancel ↦ (refl, refl, refl)
  | Twice ↦ (refl, refl, refl)
]

-- such a fault is NotOwned, and its frame is about to acknowledge
abbrev pub Acknowledges : Intent → Type 0
Acknowledges (intent.Do c) = same_call_kind c.kind call.WdfRequestStopAcknowledge ≡ true
Acknowledges _ = ⊥

not_owned : {A : Type 0} (plan : Plan) (S : State A) (cpu f : ℕ) (a : Abstract) (clean : IsClean plan) (st : FrameStands plan S f a) (c : Call) (x : Fault) → IsOfOwning x → Keeps plan S cpu f a clean st c → call_faults (view_of plan S cpu f) c x ≡ true → x ≡ fault.NotOwned
not_owned plan S cpu f a clean st c x is q = elim is as (λ y _. call_faults (view_of plan S cpu f) c y ≡ true → y ≡ fault.NotOwned) [
  | NotOwned ↦ (λ h. refl)
  | WhileMarked ↦ (λ h. absurd (let e = q.marked in let z : ⊥ = cc in z))
  | BeforeCancel ↦ (λ h. absurd (let e = q.due in let z : ⊥ = cc in z))
  | Twice ↦ (λ h. absurd (let e = q.once in let z : ⊥ = cc in z))
]

pub holds_off : {A : Type 0} (plan : Plan) (S : State A) (cpu f : ℕ) (a : Abstract) → IsClean plan → FrameStands plan S f a → (i : Intent) → intent_of plan (frame_of S.cpus f) ≡ i → (x : Fault) → IsOfOwning x → holds_of (view_of plan S cpu f) i x ≡ true → Acknowledges i × (x ≡ fault.NotOwned)
holds_off plan S cpu f a clean st (intent.Do c) does x is h = by (same_call_kind c.kind call.WdfRequestStopAcknowledge) refl
  where
    by : (b : Bool) → same_call_kind c.kind call.WdfRequestStopAcknowledge ≡ b → (same_call_kind c.kind call.WdfRequestStopAcknowledge ≡ true) × (x ≡ fault.NotOwned)
    by true e = (e, not_owned plan S cpu f a clean st c x is (stop_quiet plan S cpu f a clean st c does e) h)
    by false e = absurd (let off = quiet_off (view_of plan S cpu f) c x is (call_quiet plan S cpu f a clean st c does e) in let z : ⊥ = cc in z)
holds_off plan S cpu f a clean st (intent.Return v) does x is h = absurd (let off = (not_of_return x is).0 in let no_ = both_left (is_fault_of_return x) _ h in let z : ⊥ = cc in z)
holds_off plan S cpu f a clean st (intent.Get r) does x is h = absurd (let off = (not_of_return x is).1 in let no_ = both_left (is_fault_of_access x) _ h in let z : ⊥ = cc in z)
holds_off plan S cpu f a clean st (intent.Put r v) does x is h = absurd (let off = (not_of_return x is).1 in let no_ = both_left (is_fault_of_access x) _ h in let z : ⊥ = cc in z)
holds_off plan S cpu f a clean st intent.Broken does x is h = absurd (let off = (not_of_return x is).2 in let z : ⊥ = cc in z)
holds_off plan S cpu f a clean st (intent.Local c next) does x is h = absurd (let z : ⊥ = cc in z)
holds_off plan S cpu f a clean st (intent.Log v) does x is h = absurd (let z : ⊥ = cc in z)
holds_off plan S cpu f a clean st (intent.Spend n) does x is h = absurd (let z : ⊥ = cc in z)

-- what a frame is about to do that has this fault, as the first
pub record HasFault {A : Type 0} (plan : Plan) (S : State A) (cpu : ℕ) (x : Fault) : Type 0 where
  pub intent : Intent
  pub acts : Acts plan S cpu intent
  pub first : fault_of (view_of plan S cpu acts.frame) intent ≡ Some x
  pub holds : holds_of (view_of plan S cpu acts.frame) intent x ≡ true

fault_same : (y x : Fault) → same_fault y x ≡ true → y ≡ x
fault_same y x h = search rules

pub faulted : {A : Type 0} (plan : Plan) (m : Meaning A) (S : State A) (k : Cpu) (x : Fault) (line : ℕ) (z : Event) → same_event z (event.Fault k x line) ≡ true → Own plan m S k.0 z → is_script_fault x ≡ false → HasFault plan S k.0 x
faulted plan m S k x line z same (Wakes p e) is = absurd (let no_ = subst (λ y. same_event y (event.Fault k x line) ≡ true) e same in let q : ⊥ = cc in q)
faulted plan m S k x line z same (Faults i a y w e) is =
    let s : same_event (event.Fault (cpu_of k.0) y (line_of plan (frame_of S.cpus a.frame))) (event.Fault k x line) ≡ true = subst (λ u. same_event u (event.Fault k x line) ≡ true) e same in
    let one : y ≡ x = fault_same y x (both_right (same_cpu (cpu_of k.0) k) (same_fault y x) (both_left (same_cpu (cpu_of k.0) k && same_fault y x) (line_of plan (frame_of S.cpus a.frame) == line) s)) in
    record { intent = i; acts = a; first = w ∙ ap Some one; holds = subst (λ u. holds_of (view_of plan S k.0 a.frame) i u ≡ true) one (fault_holds (view_of plan S k.0 a.frame) i y w) }
faulted plan m S k x line z same (Does i a clean e) is = absurd (by i a (subst (λ u. same_event u (event.Fault k x line) ≡ true) e same))
  where
    by : (i : Intent) (a : Acts plan S k.0 i) → same_event (intent_event plan m S k.0 a.frame (frame_of S.cpus a.frame) i) (event.Fault k x line) ≡ true → ⊥
    by (intent.Local c next) a s = let q : ⊥ = cc in q
    by (intent.Log v) a s = let q : ⊥ = cc in q
    by (intent.Spend n) a s = let q : ⊥ = cc in q
    by (intent.Get n) a s = let q : ⊥ = cc in q
    by (intent.Put n v) a s = let q : ⊥ = cc in q
    by (intent.Do c) a s = call_by (is_met_then plan S c) s
      where
        call_by : (b : Bool) → same_event (if b then event.Did (cpu_of k.0) c (outcome plan S k.0 a.frame c).answer else event.Waiting (cpu_of k.0) c) (event.Fault k x line) ≡ true → ⊥
        call_by true s = let q : ⊥ = cc in q
        call_by false s = let q : ⊥ = cc in q
    by (intent.Return v) a s = let q : ⊥ = cc in q
    by intent.Broken a s =
        let one : fault.ScriptError ≡ x = fault_same fault.ScriptError x (both_right (same_cpu (cpu_of k.0) k) (same_fault fault.ScriptError x) (both_left (same_cpu (cpu_of k.0) k && same_fault fault.ScriptError x) (line_of plan (frame_of S.cpus a.frame) == line) s)) in
        let script : is_script_fault x ≡ true = ap is_script_fault (sym one) in
        let q : ⊥ = cc in q

-- ---- a fault of a free run

-- the frame that has it, where the invariant holds
pub record FaultAt {A : Type 0} (plan : Plan) (S : State A) (cpu : ℕ) (x : Fault) : Type 0 where
  pub standing : Standing plan S
  pub fault : HasFault plan S cpu x
  pub stands : FrameStands plan S fault.acts.frame (standing.stands.states fault.acts.frame)

pub fault_at : {A : Type 0} (plan : Plan) → IsClean plan → (run : List Event) (free : IsFreeRun A plan run) (n : ℕ) (k : Cpu) (x : Fault) (line : ℕ) → slice_get run n ≡ Some (event.Fault k x line) → is_script_fault x ≡ false → FaultAt plan (free.states n) k.0 x
fault_at {A} plan clean run free n k x line at is =
    let step = free.goes n (event.Fault k x line) at in
    let within : n < length run = slice_get_within run n (event.Fault k x line) at in
    by step.meaning step.may_come (standing_place plan clean run free n (omega arith))
  where
    by : (m : Meaning A) → (may plan m (free.states n) (event.Fault k x line) ≡ true) ⊎ ((time : ℕ) × (event.Fault k x line ≡ event.Tick time)) → Standing plan (free.states n) → FaultAt plan (free.states n) k.0 x
    by m (inr t) st = absurd (let e = t.1 in let q : ⊥ = cc in q)
    by m (inl h) st =
        let found = found_own (own_event plan m (free.states n) k.0) (event.Fault k x line) h in
        let f : HasFault plan (free.states n) k.0 x = faulted plan m (free.states n) k x line found.0 found.2 (owns plan m (free.states n) k.0 found.0 found.1) is in
        record { standing = st; fault = f; stands = st.stands.stands f.acts.frame (top_on (free.states n).cpus k.0 f.acts.frame f.acts.top) }

-- Where the plan is clean, no fault of a free run is about who owns a request, but NotOwned of a frame that is about to acknowledge.
pub sound : {A : Type 0} (plan : Plan) → IsClean plan → (run : List Event) (free : IsFreeRun A plan run) (n : ℕ) (k : Cpu) (x : Fault) (line : ℕ) → slice_get run n ≡ Some (event.Fault k x line) → IsOfOwning x
    → (i : Intent) × Acts plan (free.states n) k.0 i × Acknowledges i × (x ≡ fault.NotOwned)
sound plan clean run free n k x line at is =
    let w = fault_at plan clean run free n k x line at (not_of_return x is).2 in
    let f = w.fault in
    let off = holds_off plan (free.states n) k.0 f.acts.frame (w.standing.stands.states f.acts.frame) clean w.stands f.intent f.acts.about x is f.holds in
    (f.intent, f.acts, off.0, off.1)

-- ---- every free run of a clean plan

-- a fault of a request's mark
pub data IsOfMarks : Fault → Type 0 where
  CompletesMarked : IsOfMarks fault.CompleteWhileMarked
  CompletesDue : IsOfMarks fault.CompleteBeforeCancelCallback
  MarksTwice : IsOfMarks fault.MarkedTwice

of_owning : (x : Fault) → IsOfMarks x → IsOfOwning x
of_owning x is = elim is as (λ y _. IsOfOwning y) [
  | CompletesMarked ↦ WhileMarked
  | CompletesDue ↦ BeforeCancel
  | MarksTwice ↦ Twice
]

marks_other : (x : Fault) → IsOfMarks x → x ≡ fault.NotOwned → ⊥
marks_other x is e = search rules

-- none comes in a free run
pub no_fault_of_marks : {A : Type 0} (plan : Plan) → IsClean plan → (run : List Event) → IsFreeRun A plan run → (n : ℕ) (k : Cpu) (x : Fault) (line : ℕ) → slice_get run n ≡ Some (event.Fault k x line) → IsOfMarks x → ⊥
no_fault_of_marks plan clean run free n k x line at of =
    let found = sound plan clean run free n k x line at (of_owning x of) in
    marks_other x of found.3

of_marks : (x : Fault) → is_of_marks x ≡ true → IsOfMarks x
of_marks fault.CompleteWhileMarked h = CompletesMarked
of_marks fault.CompleteBeforeCancelCallback h = CompletesDue
of_marks fault.MarkedTwice h = MarksTwice
of_marks _ h = absurd (let z : ⊥ = cc in z)

pub marks_are_kept : {A : Type 0} (plan : Plan) (run : List Event) (n : ℕ) (k : Cpu) (x : Fault) (line : ℕ) → IsClean plan → IsFreeRun A plan run → slice_get run n ≡ Some (event.Fault k x line) → is_of_marks x ≡ false
marks_are_kept plan run n k x line clean free at = by (is_of_marks x) refl
  where
    by : (b : Bool) → is_of_marks x ≡ b → b ≡ false
    by true e = absurd (no_fault_of_marks plan clean run free n k x line at (of_marks x e))
    by false e = refl

-- ---- a return

-- a state at a return, or at the callback's end, breaks no rule only where it holds no lock
leaving_act : (plan : Plan) (k : ℕ) (a : Abstract) (l n : ℕ) (x : Act) → shape_of x ≡ 6 → rule_at plan k a (Some (record { line = l; next = n; act = x })) ≡ rule_of_leaving a
leaving_act plan k a l n (act.Return e) h = refl
leaving_act plan k a l n _ h = absurd (let z : ⊥ = cc in z)

leaving : (plan : Plan) (f : Frame) (a : Abstract) (s : Option Statement) (v : Value) → intent_at plan f s ≡ intent.Return v → rule_at plan f.script a s ≡ rule_of_leaving a
leaving plan f a None v e = refl
leaving plan f a (Some s) v e = leaving_act plan f.script a s.line s.next s.act (by (act_shape plan f s.next s.act))
  where
    by : (shape (act_intent plan f s.next s.act) ≡ 7) ⊎ (shape (act_intent plan f s.next s.act) ≡ shape_of s.act) → shape_of s.act ≡ 6
    by (inl seven) = absurd (let six : shape (act_intent plan f s.next s.act) ≡ 6 = ap shape e in let wrong : 6 ≡ 7 = sym six ∙ seven in let z : ⊥ = omega arith in z)
    by (inr same) = sym same ∙ ap shape e

holds_some : (n : ℕ) → nat_lt 0 n ≡ true → 1 ≤ n
holds_some n h = grind (arith, nat_tests)

-- a frame of a clean plan that is about to return holds no lock by a call
return_off : {A : Type 0} (plan : Plan) (S : State A) (cpu f : ℕ) (a : Abstract) → IsClean plan → FrameStands plan S f a → (i : Intent) → intent_of plan (frame_of S.cpus f) ≡ i → holds_of (view_of plan S cpu f) i fault.ReturnHoldingLock ≡ true → ⊥
return_off plan S cpu f a clean st (intent.Return v) does h =
    let frame : Frame = frame_of S.cpus f in
    let here : statement_of plan frame.script a ≡ statement_at plan frame = rw st.simulates.at refl in
    let rule : rule_of_leaving a ≡ None = sym (leaving plan frame a (statement_at plan frame) v does) ∙ ap (rule_at plan frame.script a) (sym here) ∙ clean frame.script a st.reached in
    let none = left_weight a rule in
    let few = st.locks.few in
    let some_ : 1 ≤ held_by_call S.locks f = holds_some (held_by_call S.locks f) h in
    let z : ⊥ = omega arith in z
return_off plan S cpu f a clean st (intent.Do c) does h = let z : ⊥ = cc in z
return_off plan S cpu f a clean st (intent.Get r) does h = let z : ⊥ = cc in z
return_off plan S cpu f a clean st (intent.Put r v) does h = let z : ⊥ = cc in z
return_off plan S cpu f a clean st intent.Broken does h = let z : ⊥ = cc in z
return_off plan S cpu f a clean st (intent.Local c next) does h = let z : ⊥ = cc in z
return_off plan S cpu f a clean st (intent.Log v) does h = let z : ⊥ = cc in z
return_off plan S cpu f a clean st (intent.Spend n) does h = let z : ⊥ = cc in z

-- in a free run of a clean plan no callback ends with a lock that a call took
pub returns_free : {A : Type 0} (plan : Plan) → IsClean plan → (run : List Event) (free : IsFreeRun A plan run) (n : ℕ) (k : Cpu) (line : ℕ) → slice_get run n ≡ Some (event.Fault k fault.ReturnHoldingLock line) → ⊥
returns_free plan clean run free n k line at =
    let w = fault_at plan clean run free n k fault.ReturnHoldingLock line at refl in
    let f = w.fault in
    return_off plan (free.states n) k.0 f.acts.frame (w.standing.stands.states f.acts.frame) clean w.stands f.intent f.acts.about f.holds

pub locks_are_given_back : {A : Type 0} (plan : Plan) (run : List Event) (n : ℕ) (k : Cpu) (line : ℕ) → IsClean plan → IsFreeRun A plan run → slice_get run n ≡ Some (event.Fault k fault.ReturnHoldingLock line) → ⊥
locks_are_given_back plan run n k line clean free at = returns_free plan clean run free n k line at
