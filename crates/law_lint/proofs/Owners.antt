-- The invariant over the calls by which a callback gives its own request up, or changes its mark.
use Rattle.std.proofs.Common.{if◌then◌else◌, ◌≡◌, ◌≢◌, ℕ, ◌<◌, ◌≤◌, Bool, true, false, not, ◌||◌, List, [], ◌∷◌, ◌++◌, ◌⊎◌, inl, inr, Option, Some, None, length, append-nil, refl, sym, ap, subst, ◌∙◌, arith}
use Rattle.wdf_base.specs.Meaning.{Meaning}
use Rattle.wdf_base.specs.declared.plan.Plan.{Plan}
use Rattle.wdf_base.specs.declared.ids.Cpu.{Cpu}
use Rattle.wdf_base.specs.declared.ids.Handle.{Handle}
use Rattle.wdf_base.specs.declared.value.Value.{Value}
use Rattle.wdf_base.specs.declared.value.Value.TheVariants.{Stat}
use Rattle.wdf_base.specs.declared.value.Status.TheVariants as status
use Rattle.wdf_base.specs.declared.call.Arg.{Arg}
use Rattle.wdf_base.specs.declared.call.Call.{Call}
use Rattle.wdf_base.specs.declared.call.Callback.TheVariants as callback
use Rattle.wdf_base.specs.declared.call.CallKind.{CallKind}
use Rattle.wdf_base.specs.declared.call.CallKind.TheVariants as call
use Rattle.wdf_base.specs.declared.event.Event.TheVariants as event
use Rattle.wdf_base.specs.declared.event.Fault.TheVariants as fault
use Rattle.wdf_base.specs.declared.frame.Frame.{Frame}
use Rattle.wdf_base.specs.declared.script.ExprNode.{ExprNode}
use Rattle.wdf_base.specs.Calls.{argument_count, signature_of}
use Rattle.wdf_base.specs.Places.{is_marked}
use Rattle.wdf_model.specs.Ids.{frame_id, object_id}
use Rattle.wdf_model.specs.Plans.{declares}
use Rattle.wdf_model.specs.parts.Cpus.{frame_of}
use Rattle.wdf_model.specs.parts.Control.{accepts, is_purged, mode_of}
use Rattle.wdf_model.specs.parts.Power.{Power}
use Rattle.wdf_model.specs.parts.Requests.{Requests, is_cancelled, mark_answer, mark_of, origin_of, request_of}
use Rattle.std.specs.List.{list_all}
use Rattle.wdf_base.specs.Callbacks.{row_of}
use Rattle.wdf_base.specs.Same.{same_call_kind}
use Rattle.wdf_model.proofs.Tests.{both, both_left, both_right}
use Rattle.wdf_model.specs.State.{State, object_in}
use Rattle.wdf_model.specs.declared.deed.Deed.{Deed}
use Rattle.wdf_model.specs.declared.deed.Deed.TheVariants.{Forward, GiveBack, GoOn, MarkRequest, Requeue, SendRequest}
use Rattle.wdf_model.specs.rules.Calls.{Outcome, forwards_nowhere, may_send, number, origin_or_none, outcome, refused, second_deeds, success}
use Rattle.wdf_model.specs.rules.Deeds.{do_deeds}
use Rattle.wdf_base.specs.Values.{arg_is}
use Rattle.wdf_model.specs.rules.Script.{arg_of, statement_at}
use Rattle.wdf_model.specs.rules.Steps.{after, answered, deeds, did_deeds, may}
use Rattle.law_machine_base.specs.Fits.{all_fit}
use Rattle.wdf_model.proofs.Counts.{one_or_two}
use Rattle.law_machine_base.proofs.OwnEvents.{IsDid, did_tells}
use Rattle.law_machine_base.proofs.FitsOfEvents.{by_its_top, event_fits}
use Rattle.law_machine_counts.proofs.StillDeeds.{all_still, none_behind, outcome_none, second_none}
use Rattle.law_machine_counts.proofs.StepStates.{fit_before, in_turn}
use Rattle.wdf_lint.specs.declared.state.Abstract.{Abstract}
use Rattle.wdf_lint.specs.declared.state.Hold.{Hold}
use Rattle.wdf_lint.specs.declared.state.Hold.TheVariants as hold
use Rattle.wdf_lint.specs.Steps.{Way, is_own_or_marked, is_request_word, is_stop, node_of, rule_of_call, rule_of_giving, rule_of_marking, unless, ways}
use Rattle.wdf_lint.specs.Walks.{IsClean, IsIn, IsReached}
use Rattle.law_lint.proofs.Acting.{calling, giving_owns, marking_owns, on_it, own_argument}
use Rattle.law_lint.proofs.Calls.{Goes, GripOf, InHand, complete_goes, forward_goes, mark_goes, requeue_goes, send_goes, unmark_marked_goes, unmark_owned_goes}
use Rattle.law_lint.proofs.Known.{KnownIs}
use Rattle.law_lint.proofs.Grips.{LaterAt}
use Rattle.law_lint.proofs.Others.{AllApart, deeds_later}
use Rattle.law_lint.proofs.Spent.{StaysSpent, deeds_spent}
use Rattle.law_lint.proofs.Sane.{AllSane, AllSaneDeeds, deeds_sane}
use Rattle.law_lint.proofs.Stands.{FrameGoes, FrameStands, Grasps, Stands, Stays, goes_stands, reaches}
use Rattle.law_lint.proofs.Calming.{one_on_queue}
use Rattle.law_lint.proofs.Flags.{FlagsKept}
use Rattle.law_lint.proofs.Owning.{Guarded, OwnAs, Stopping, grip_later, hand_before, hand_origin, has_origin, own_alike, stopping_later}
use Rattle.law_lint.proofs.Resting.{all_calm, deeds_flags, is_flagging, none_flagging}
use Rattle.law_lint.proofs.Events.{answered_rest, told}
use Rattle.law_lint.proofs.Faults.{Calls, calls, holds_so, rule_off}
use Rattle.law_lint.proofs.Frames.{Simulates}
use Rattle.law_lint.proofs.Answers.{CallWent, call_went}
use Rattle.wdf_lint.specs.Steps.{called}
use Rattle.law_free_runs.proofs.FreeStates.{FreeState}
use Rattle.law_lint.proofs.Began.{Alike, began_alike}
use Rattle.law_lint.proofs.HeldAs.{HeldAs, held_assigned}
use Rattle.law_lint.proofs.Locking.{Locked}
use Rattle.law_lint.proofs.Dids.{did_locked, has_ways, still_goes}
use Rattle.wdf_model.proofs.FrameCounts.{on}
use Rattle.law_machine_lives.proofs.ReasonsOfEvents.{top_on}

-- what such a call does to its own request and to no other
pub record OwnersGo {A : Type 0} (plan : Plan) (S : State A) (r : ℕ) (h : Hold) (o : Outcome) (ws : List Way) : Type 0 where
  pub goes : Goes plan S r h o ws
  pub others : (x : ℕ) → x ≢ r → AllApart plan o.deeds S x
  -- its request is in its hands, or the call changes nothing
  pub own : InHand h S.requests r ⊎ ((x : ℕ) → AllApart plan o.deeds S x)
  pub holds : is_own_or_marked h ≡ true
  pub sane : AllSaneDeeds plan o.deeds S

either_sane : {A : Type 0} (plan : Plan) (S : State A) (b : Bool) (p q : Outcome) → AllSaneDeeds plan p.deeds S → AllSaneDeeds plan q.deeds S → AllSaneDeeds plan (if b then p else q).deeds S
either_sane plan S true p q h k = h
either_sane plan S false p q h k = k

either_apart : {A : Type 0} (plan : Plan) (S : State A) (x : ℕ) (b : Bool) (p q : Outcome) → AllApart plan p.deeds S x → AllApart plan q.deeds S x → AllApart plan (if b then p else q).deeds S x
either_apart plan S x true p q h k = h
either_apart plan S x false p q h k = k

unmarking_holds : (h : Hold) → unless (is_own_or_marked h) fault.NotOwned ≡ None → is_own_or_marked h ≡ true
unmarking_holds hold.Own e = refl
unmarking_holds hold.Marked e = refl
unmarking_holds hold.Away e = absurd (let z : ⊥ = cc in z)
unmarking_holds hold.Stop e = absurd (let z : ⊥ = cc in z)

module _ {A : Type 0} (plan : Plan) (S : State A) (cpu f n : ℕ) (x y z : Arg) where
  abbrev r : ℕ
  r = object_in x

  gives : (k : CallKind) (h : Hold) → h ≡ hold.Own → Goes plan S r hold.Own (outcome plan S cpu f (calling k n x y z)) (ways k hold.Own) → ((w : ℕ) → w ≢ r → AllApart plan (outcome plan S cpu f (calling k n x y z)).deeds S w)
      → AllSaneDeeds plan (outcome plan S cpu f (calling k n x y z)).deeds S → OwnersGo plan S r h (outcome plan S cpu f (calling k n x y z)) (ways k h)
  gives k h own goes others sane = subst (λ g. OwnersGo plan S r g (outcome plan S cpu f (calling k n x y z)) (ways k g)) (sym own) (record { goes = goes; others = others; own = inl tt; holds = refl; sane = sane })

  unmarks : (h : Hold) → is_own_or_marked h ≡ true → GripOf h (request_of S.requests r) → OwnersGo plan S r h (outcome plan S cpu f (calling call.WdfRequestUnmarkCancelable n x y z)) (ways call.WdfRequestUnmarkCancelable h)
  unmarks hold.Own e g = record { goes = unmark_owned_goes plan S r g; others = λ w off. (inl off, tt); own = inl tt; holds = refl; sane = (tt, tt) }
  unmarks hold.Marked e (inl c) = record { goes = unmark_marked_goes plan S r (inl c); others = λ w off. (inl off, tt); own = inl c.marked; holds = refl; sane = (tt, tt) }
  unmarks hold.Marked e (inr s) = record {
    goes = unmark_marked_goes plan S r (inr s);
    others = λ w off. (inl off, tt);
    own = inr (λ w. elim (one_or_two w r) [
      | inl same ↦ (inr (subst (λ q. is_marked (mark_of S.requests q) ≡ false) (sym same) s.off), tt)
      | inr other ↦ (inl other, tt)
    ]);
    holds = refl;
    sane = (tt, tt);
  }
  unmarks hold.Away e g = absurd (let no_ = e in let q : ⊥ = cc in q)
  unmarks hold.Stop e g = absurd (let no_ = e in let q : ⊥ = cc in q)

  pub owners_go : (a : Abstract) (k : CallKind) (px py : Option ExprNode) (script : ℕ) → rule_of_call plan script a k px py ≡ None → has_ways k ≡ true → (is_request_word px ≡ true → GripOf a.hold (request_of S.requests r))
      → OwnersGo plan S r a.hold (outcome plan S cpu f (calling k n x y z)) (ways k a.hold)
  owners_go a call.WdfRequestComplete px py script rule row grips =
      let g = on_it (is_request_word px) (rule_of_giving a.hold) rule in
      gives call.WdfRequestComplete a.hold (giving_owns a.hold g.1) (complete_goes plan S r) (λ w off. (inl off, tt)) ((subst (λ h. GripOf h (request_of S.requests r)) (giving_owns a.hold g.1) (grips g.0)).off, tt)
  owners_go a call.WdfRequestRequeue px py script rule row grips =
      let g = on_it (is_request_word px) (rule_of_giving a.hold) rule in
      gives call.WdfRequestRequeue a.hold (giving_owns a.hold g.1) (requeue_goes plan S r (origin_or_none S r))
      (λ w off. either_apart plan S w (is_cancelled S.requests r || is_purged (mode_of S.control (origin_or_none S r))) (success (GiveBack (object_id r) (object_id (origin_or_none S r)) ∷ [])) (success (Requeue (object_id r) (object_id (origin_or_none S r)) ∷ [])) (off, tt) (off, tt))
      (either_sane plan S (is_cancelled S.requests r || is_purged (mode_of S.control (origin_or_none S r))) (success (GiveBack (object_id r) (object_id (origin_or_none S r)) ∷ [])) (success (Requeue (object_id r) (object_id (origin_or_none S r)) ∷ [])) (tt, tt) (tt, tt))
  owners_go a call.WdfRequestForwardToIoQueue px py script rule row grips =
      let g = on_it (is_request_word px) (rule_of_giving a.hold) rule in
      let own : a.hold ≡ hold.Own = giving_owns a.hold g.1 in
      let q : ℕ = object_in y in
      gives call.WdfRequestForwardToIoQueue a.hold own (forward_goes plan S r q (subst (λ h. GripOf h (request_of S.requests r)) own (grips g.0)))
      (λ w off. either_apart plan S w (forwards_nowhere plan S r q) (refused status.InvalidDeviceRequest) (if not (accepts S.control q) then refused status.WdfBusy else if is_cancelled S.requests r then success (GiveBack (object_id r) (object_id q) ∷ []) else success (Forward (object_id r) (object_id q) ∷ [])) tt
      (either_apart plan S w (not (accepts S.control q)) (refused status.WdfBusy) (if is_cancelled S.requests r then success (GiveBack (object_id r) (object_id q) ∷ []) else success (Forward (object_id r) (object_id q) ∷ [])) tt
      (either_apart plan S w (is_cancelled S.requests r) (success (GiveBack (object_id r) (object_id q) ∷ [])) (success (Forward (object_id r) (object_id q) ∷ [])) (off, tt) (off, tt))))
      (either_sane plan S (forwards_nowhere plan S r q) (refused status.InvalidDeviceRequest) (if not (accepts S.control q) then refused status.WdfBusy else if is_cancelled S.requests r then success (GiveBack (object_id r) (object_id q) ∷ []) else success (Forward (object_id r) (object_id q) ∷ [])) tt
      (either_sane plan S (not (accepts S.control q)) (refused status.WdfBusy) (if is_cancelled S.requests r then success (GiveBack (object_id r) (object_id q) ∷ []) else success (Forward (object_id r) (object_id q) ∷ [])) tt
      (either_sane plan S (is_cancelled S.requests r) (success (GiveBack (object_id r) (object_id q) ∷ [])) (success (Forward (object_id r) (object_id q) ∷ [])) (tt, tt) (tt, tt))))
  owners_go a call.WdfRequestSend px py script rule row grips =
      let g = on_it (is_request_word px) (rule_of_giving a.hold) rule in
      let own : a.hold ≡ hold.Own = giving_owns a.hold g.1 in
      gives call.WdfRequestSend a.hold own (send_goes plan S r (object_in y) (arg_is z 1) (subst (λ h. GripOf h (request_of S.requests r)) own (grips g.0)))
      (λ w off. either_apart plan S w (may_send S r (object_in y)) (number 1 (SendRequest (object_id r) (object_id (object_in y)) (arg_is z 1) ∷ [])) (number 0 []) (off, tt) tt)
      (either_sane plan S (may_send S r (object_in y)) (number 1 (SendRequest (object_id r) (object_id (object_in y)) (arg_is z 1) ∷ [])) (number 0 []) ((subst (λ h. GripOf h (request_of S.requests r)) own (grips g.0)).came, tt) tt)
  owners_go a call.WdfRequestMarkCancelableEx px py script rule row grips =
      let g = on_it (is_request_word px) (rule_of_marking a.hold) rule in
      let own : a.hold ≡ hold.Own = marking_owns a.hold g.1 in
      gives call.WdfRequestMarkCancelableEx a.hold own (mark_goes plan S r (subst (λ h. GripOf h (request_of S.requests r)) own (grips g.0)))
      (λ w off. either_apart plan S w (declares plan callback.EvtRequestCancel (origin_or_none S r)) (record { answer = Stat (mark_answer S.requests r); deeds = MarkRequest (object_id r) ∷ [] }) (refused status.InvalidDeviceRequest) (off, tt) tt)
      (either_sane plan S (declares plan callback.EvtRequestCancel (origin_or_none S r)) (record { answer = Stat (mark_answer S.requests r); deeds = MarkRequest (object_id r) ∷ [] }) (refused status.InvalidDeviceRequest) (tt, tt) tt)
  owners_go a call.WdfRequestUnmarkCancelable px py script rule row grips =
      let g = on_it (is_request_word px) (unless (is_own_or_marked a.hold) fault.NotOwned) rule in
      unmarks a.hold (unmarking_holds a.hold g.1) (grips g.0)
  owners_go a _ px py script rule row grips = absurd (let q : ⊥ = cc in q)

-- such a call has no second part
second_off : (f : ℕ) (c : Call) → has_ways c.kind ≡ true → second_deeds f c ≡ []
second_off f c h = by c.kind c.count c.a c.b c.c h
  where
    by : (k : CallKind) (n : ℕ) (x y z : Arg) → has_ways k ≡ true → second_deeds f (calling k n x y z) ≡ []
    by call.WdfRequestComplete n x y z h = refl
    by call.WdfRequestRequeue n x y z h = refl
    by call.WdfRequestForwardToIoQueue n x y z h = refl
    by call.WdfRequestSend n x y z h = refl
    by call.WdfRequestMarkCancelableEx n x y z h = refl
    by call.WdfRequestUnmarkCancelable n x y z h = refl
    by _ n x y z h = absurd (let q : ⊥ = cc in q)

-- a call on the request is by its word
word_of : (plan : Plan) (script : ℕ) (a : Abstract) (k : CallKind) (px py : Option ExprNode) → rule_of_call plan script a k px py ≡ None → has_ways k ≡ true → is_request_word px ≡ true
word_of plan script a call.WdfRequestComplete px py rule row = (on_it (is_request_word px) (rule_of_giving a.hold) rule).0
word_of plan script a call.WdfRequestRequeue px py rule row = (on_it (is_request_word px) (rule_of_giving a.hold) rule).0
word_of plan script a call.WdfRequestForwardToIoQueue px py rule row = (on_it (is_request_word px) (rule_of_giving a.hold) rule).0
word_of plan script a call.WdfRequestSend px py rule row = (on_it (is_request_word px) (rule_of_giving a.hold) rule).0
word_of plan script a call.WdfRequestMarkCancelableEx px py rule row = (on_it (is_request_word px) (rule_of_marking a.hold) rule).0
word_of plan script a call.WdfRequestUnmarkCancelable px py rule row = (on_it (is_request_word px) (unless (is_own_or_marked a.hold) fault.NotOwned) rule).0
word_of plan script a _ px py rule row = absurd (let q : ⊥ = cc in q)

-- ---- another frame, and the request on which the owner acts

record StaysAt (R U : Requests) (x : ℕ) (h : Hold) : Type 0 where
  pub grip : GripOf h (request_of U x)
  pub within : x < length U.all
  pub before : InHand h U x → InHand h R x
  pub origin : InHand h U x → origin_of U x ≡ origin_of R x

at_later : (R U : Requests) (x : ℕ) (h : Hold) → LaterAt x R U → GripOf h (request_of R x) → x < length R.all → StaysAt R U x h
at_later R U x h l g old = record { grip = grip_later h (request_of R x) (request_of U x) l.later g; within = let long = l.long in omega arith; before = λ i. hand_before h R U x l.later g i; origin = λ i. hand_origin h R U x l.later g i }

-- one that hasn't the request in its hands
at_spent : (R U : Requests) (x : ℕ) (h : Hold) → StaysSpent x R U → GripOf h (request_of R x) → x < length R.all → (InHand h R x → ⊥) → StaysAt R U x h
at_spent R U x hold.Own s g old free = absurd (free tt)
at_spent R U x hold.Marked s (inl c) old free = absurd (free c.marked)
at_spent R U x hold.Marked s (inr p) old free = record { grip = inr (s.spent p); within = let long = s.long in omega arith; before = λ i. absurd (let now = s.spent p in let off = now.off in let q : ⊥ = cc in q); origin = λ i. absurd (let now = s.spent p in let off = now.off in let q : ⊥ = cc in q) }
at_spent R U x hold.Away s g old free = record { grip = tt; within = let long = s.long in omega arith; before = λ i. i; origin = λ i. absurd i }
at_spent R U x hold.Stop s g old free = record { grip = tt; within = let long = s.long in omega arith; before = λ i. i; origin = λ i. absurd i }

left_all : (p : Deed → Bool) (ds es : List Deed) → list_all p (ds ++ es) ≡ true → list_all p ds ≡ true
left_all p [] es h = refl
left_all p (d ∷ ds) es h = both (p d) (list_all p ds) (both_left (p d) (list_all p (ds ++ es)) h) (left_all p ds es (both_right (p d) (list_all p (ds ++ es)) h))

pub ways_none : (k : CallKind) → has_ways k ≡ true → same_call_kind k call.WdfRequestStopAcknowledge ≡ false
ways_none call.WdfRequestStopAcknowledge h = absurd (let z : ⊥ = cc in z)
ways_none _ h = refl

-- ---- the event

pub owner_keeps : {A : Type 0} (plan : Plan) (m : Meaning A) (S : State A) (k : Cpu) (c : Call) (v : Value) → IsClean plan → has_ways c.kind ≡ true → may plan m S (event.Did k c v) ≡ true → FreeState plan S → Stands plan S
    → Stands plan (after plan m S (event.Did k c v)) × (AllSane S.requests → AllSane (after plan m S (event.Did k c v)).requests)
owner_keeps {A} plan m S k c v clean row h free st = (
  told plan m (event.Did k c v) U
      (goes_stands plan S U f next b st
      (subst (λ es. FrameGoes S (do_deeds plan es S) f next) (sym same) (still_goes plan S ds f next still fits_))
      there new shrinks stay locks_.others),
  λ all. subst AllSane (sym requests_) (deeds_sane plan o.deeds S fits_first go.sane all),
)
  where
    d : IsDid plan S k.0 c v
    d = did_tells plan m S k c v h

    f : ℕ
    f = d.frame

    frame : Frame
    frame = frame_of S.cpus f

    there : 1 ≤ on S.cpus f
    there = top_on S.cpus k.0 f d.about.top

    a : Abstract
    a = st.states f

    fs : FrameStands plan S f a
    fs = st.stands f there

    s : Calls plan frame (statement_at plan frame) c
    s = calls plan frame c d.about.about

    rule : rule_of_call plan frame.script a s.kind (node_of plan s.x) (node_of plan s.y) ≡ None
    rule = rule_off plan S k.0 f a clean fs c s

    kind : c.kind ≡ s.kind
    kind = ap (λ (q : Call). q.kind) s.call

    row_ : has_ways s.kind ≡ true
    row_ = sym (ap has_ways kind) ∙ row

    word : is_request_word (node_of plan s.x) ≡ true
    word = word_of plan frame.script a s.kind (node_of plan s.x) (node_of plan s.y) rule row_

    o : Outcome
    o = outcome plan S k.0 f c

    next : Frame
    next = answered plan frame v

    ds : List Deed
    ds = o.deeds ++ second_deeds f c

    U : State A
    U = do_deeds plan (deeds plan S (event.Did k c v)) S

    same : deeds plan S (event.Did k c v) ≡ ds ++ GoOn (frame_id f) next ∷ []
    same = by_its_top S k.0 f (did_deeds plan S k.0 c v) d.about.top

    fit : all_fit plan (deeds plan S (event.Did k c v)) S ≡ true
    fit = event_fits plan m S (event.Did k c v) h

    fits_ : all_fit plan ds S ≡ true
    fits_ = fit_before plan ds (GoOn (frame_id f) next ∷ []) S (subst (λ es. all_fit plan es S ≡ true) same fit)

    still : all_still ds ≡ true
    still = none_behind o.deeds (second_deeds f c) (outcome_none plan S k.0 f c) (second_none f c)

    alone : ds ≡ o.deeds
    alone = ap (λ es. o.deeds ++ es) (second_off f c row) ∙ append-nil o.deeds

    requests_ : U.requests ≡ (do_deeds plan o.deeds S).requests
    requests_ = ap (λ es. (do_deeds plan es S).requests) same ∙ ap (λ (T : State A). T.requests) (in_turn plan ds (GoOn (frame_id f) next ∷ []) S) ∙ ap (λ es. (do_deeds plan es S).requests) alone

    power_ : U.power ≡ (do_deeds plan o.deeds S).power
    power_ = ap (λ es. (do_deeds plan es S).power) same ∙ ap (λ (T : State A). T.power) (in_turn plan ds (GoOn (frame_id f) next ∷ []) S) ∙ ap (λ es. (do_deeds plan es S).power) alone

    fits_first : all_fit plan o.deeds S ≡ true
    fits_first = subst (λ es. all_fit plan es S ≡ true) alone fits_

    go : OwnersGo plan S (object_in c.a) a.hold o (ways c.kind a.hold)
    go = subst (λ (q : Call). OwnersGo plan S (object_in q.a) a.hold (outcome plan S k.0 f q) (ways q.kind a.hold)) (sym s.call)
        (owners_go plan S k.0 f (argument_count (signature_of s.kind)) (arg_of plan frame s.x) (arg_of plan frame s.y) (arg_of plan frame s.z) a s.kind (node_of plan s.x) (node_of plan s.y) frame.script rule row_ (holds_so plan S k.0 f a clean fs s.x))

    request : (q : Handle) × (frame.request ≡ Some q)
    request = fs.has go.holds

    at_it : object_in c.a ≡ request.0.id.0
    at_it = ap (λ (q : Call). object_in q.a) s.call ∙ own_argument plan frame s.x request.0 word request.1

    w : Way
    w = go.goes.way

    went : CallWent plan a frame w.hold v s.kind (node_of plan s.x)
    went = call_went plan a frame c s w v fs.simulates rule (subst (λ q. IsIn w (ways q a.hold)) kind go.goes.is_in) (subst (λ q. KnownIs w.answer q) (sym d.answer) go.goes.answered)

    b : Abstract
    b = went.state

    locks_ : Locked plan S.locks U.locks f frame.variables (called plan frame.script a s.kind (node_of plan s.x))
    locks_ = did_locked plan S k c v a d free clean fs

    long : (x : ℕ) → x < length S.requests.all → StaysSpent x S.requests U.requests
    long x old = subst (λ (R : Requests). StaysSpent x S.requests R) (sym requests_) (deeds_spent plan o.deeds S x fits_first free.places old)

    later : (x : ℕ) → x < length S.requests.all → AllApart plan o.deeds S x → LaterAt x S.requests U.requests
    later x old ap_ = subst (λ (R : Requests). LaterAt x S.requests R) (sym requests_) (deeds_later plan o.deeds S x fits_first free.places old ap_)

    goes_ : FrameGoes S U f next
    goes_ = subst (λ es. FrameGoes S (do_deeds plan es S) f next) (sym same) (still_goes plan S ds f next still fits_)

    now : (frame_of U.cpus f).request ≡ frame.request
    now = ap (λ (x : Frame). x.request) goes_.here ∙ (answered_rest plan frame v).request

    one_request : (q : Handle) → (frame_of U.cpus f).request ≡ Some q → q.id.0 ≡ object_in c.a
    one_request q has = let e : Some q ≡ Some request.0 = sym has ∙ now ∙ request.1 in let is : q ≡ request.0 = cc in ap (λ (x : Handle). x.id.0) is ∙ sym at_it

    -- what it still has is of its queue
    own_ : OwnAs plan U.requests U.power frame b
    own_ = record {
      from = λ off r has i.
          let e : r.id.0 ≡ object_in c.a = one_request r (now ∙ has) in
          let hand : InHand w.hold (do_deeds plan o.deeds S).requests (object_in c.a) = subst (λ (R : Requests). InHand w.hold R (object_in c.a)) requests_ (subst (λ n. InHand w.hold U.requests n) e (subst (λ q. InHand q U.requests r.id.0) went.hold i)) in
          let old = fs.own.from off r has (subst (λ n. InHand a.hold S.requests n) (sym e) (go.goes.before hand)) in
          let kept : origin_of U.requests r.id.0 ≡ origin_of S.requests r.id.0 = subst (λ n. origin_of U.requests n ≡ origin_of S.requests n) (sym e) (ap (λ (R : Requests). origin_of R (object_in c.a)) requests_ ∙ go.goes.origin hand) in
          record { origin = kept ∙ old.origin; lock = old.lock };
      stopping = λ guard is. absurd (let no = go.goes.not_stop in let yes : is_stop w.hold ≡ true = subst (λ q. is_stop q ≡ true) went.hold is in let q : ⊥ = cc in q);
    }

    -- the call neither acknowledges nor advances power
    calm_ : list_all (λ d. not (is_flagging d)) o.deeds ≡ true
    calm_ = left_all (λ d. not (is_flagging d)) o.deeds (GoOn (frame_id f) next ∷ [])
        (ap (λ es. list_all (λ d. not (is_flagging d)) (es ++ GoOn (frame_id f) next ∷ [])) (sym alone) ∙ ap (list_all (λ d. not (is_flagging d))) (sym same) ∙ none_flagging plan S (event.Did k c v) (ways_none c.kind row) refl)

    new : FrameStands plan U f b
    new = record {
      reached = subst (λ n. IsReached plan n b) (sym (ap (λ (x : Frame). x.script) goes_.here ∙ (answered_rest plan frame v).script)) (reaches plan frame.script a b fs.reached went.is_in);
      simulates = subst (Simulates b) (sym goes_.here) went.simulates;
      grips = λ q has.
          let e = one_request q has in
          let old = (fs.grips q (sym now ∙ has)).1 in
          (subst (λ n. GripOf b.hold (request_of U.requests n)) (sym e) (subst (λ x. GripOf x (request_of U.requests (object_in c.a))) (sym went.hold) (subst (λ (R : Requests). GripOf w.hold (request_of R (object_in c.a))) (sym requests_) go.goes.grips)), let l = long q.id.0 old in let n = l.long in omega arith);
      has = λ _. (request.0, now ∙ request.1);
      waits = λ p e. absurd (let none : (frame_of U.cpus f).pending ≡ None = ap (λ (x : Frame). x.pending) goes_.here in let q : ⊥ = cc in q);
      locks = subst (λ (x : Frame). HeldAs plan U.locks f x.variables b) (sym goes_.here) (held_assigned plan U.locks f (called plan frame.script a s.kind (node_of plan s.x)) frame b next went.assigned went.interrupts locks_.now);
      began = began_alike plan frame (frame_of U.cpus f) (subst (Alike frame) (sym goes_.here) (answered_rest plan frame v)) fs.began;
      own = own_alike plan U.requests U.power frame (frame_of U.cpus f) b (subst (Alike frame) (sym goes_.here) (answered_rest plan frame v)) own_;
    }

    shrinks : (x : ℕ) → Grasps U f b x → Grasps S f a x
    shrinks x g =
        let e : x ≡ object_in c.a = sym g.same ∙ one_request g.request g.has in
        record {
          request = g.request;
          has = sym now ∙ g.has;
          same = g.same;
          in_hand = subst (λ n. InHand a.hold S.requests n) (sym e) (go.goes.before
              (subst (λ (R : Requests). InHand w.hold R (object_in c.a)) requests_ (subst (λ q. InHand q U.requests (object_in c.a)) went.hold (subst (λ n. InHand b.hold U.requests n) e g.in_hand))));
        }

    at_other : (g : ℕ) → g ≢ f → (more : 1 ≤ on S.cpus g) → (q : Handle) → (frame_of S.cpus g).request ≡ Some q → StaysAt S.requests U.requests q.id.0 (st.states g).hold
    at_other g n more q has =
        let gs = (st.stands g more).grips q has in
        elim (one_or_two q.id.0 (object_in c.a)) [
          | inr apart ↦ at_later S.requests U.requests q.id.0 (st.states g).hold (later q.id.0 gs.1 (go.others q.id.0 apart)) gs.0 gs.1
          | inl e ↦ elim go.own [
            | inr all ↦ at_later S.requests U.requests q.id.0 (st.states g).hold (later q.id.0 gs.1 (all q.id.0)) gs.0 gs.1
            | inl mine ↦ at_spent S.requests U.requests q.id.0 (st.states g).hold (long q.id.0 gs.1) gs.0 gs.1
                (λ theirs. n (st.alone g f (object_in c.a) more there (record { request = q; has = has; same = e; in_hand = subst (λ x. InHand (st.states g).hold S.requests x) e theirs }) (record { request = request.0; has = request.1; same = sym at_it; in_hand = mine })))
          ]
        ]

    -- an EvtIoStop that may acknowledge has another request: the two queues' scopes keep them apart
    own_other : (g : ℕ) → g ≢ f → (more : 1 ≤ on S.cpus g) → Guarded plan (frame_of S.cpus g).script → (t : Stopping S.requests S.power (frame_of S.cpus g) (st.states g).acknowledged) → AllApart plan o.deeds S t.request.id.0
    own_other g n more guard t = elim (one_or_two t.request.id.0 (object_in c.a)) [
      | inr apart ↦ go.others t.request.id.0 apart
      | inl e ↦ elim go.own [
        | inr all ↦ all t.request.id.0
        | inl mine ↦ absurd (
            let from = fs.own.from guard.sends request.0 request.1 (subst (λ q. InHand a.hold S.requests q) at_it mine) in
            let queues : Some (frame_of S.cpus g).object.id.0 ≡ Some frame.object.id.0 = sym t.origin ∙ ap (origin_of S.requests) (e ∙ at_it) ∙ from.origin in
            n (one_on_queue plan S free g f more there ((st.stands g more).began.queue guard.scoped) (ap (λ q. (row_of q).lock) t.calls) from.lock (same_number queues)))
      ]
    ]
      where
        same_number : {i j : ℕ} → Some i ≡ Some j → j ≡ i
        same_number {i} {j} e = cc

    stopping_other : (g : ℕ) → g ≢ f → 1 ≤ on S.cpus g → Guarded plan (frame_of S.cpus g).script → (t : Stopping S.requests S.power (frame_of S.cpus g) (st.states g).acknowledged) → Stopping U.requests U.power (frame_of S.cpus g) (st.states g).acknowledged
    stopping_other g n more guard t =
        let x : ℕ = t.request.id.0 in
        let old : x < length S.requests.all = ((st.stands g more).grips t.request t.has).1 in
        let apart : AllApart plan o.deeds S x = own_other g n more guard t in
        let flags : FlagsKept true S.power (do_deeds plan o.deeds S).power x =
        deeds_flags plan true o.deeds S x fits_first free.places old t.owned (has_origin (request_of S.requests x).info.origin (frame_of S.cpus g).object.id.0 t.origin) apart (all_calm plan true o.deeds S x calm_) in
        stopping_later S.requests U.requests S.power U.power (frame_of S.cpus g) (st.states g).acknowledged (st.states g).acknowledged true t (λ e. (refl, e)) (later x old apart).later (subst (λ (P : Power). FlagsKept true S.power P x) (sym power_) flags)

    stay : (g : ℕ) → g ≢ f → 1 ≤ on S.cpus g → Stays plan S U g (st.states g)
    stay g n more = record {
      own = record {
        from = λ off q has i.
            let at = at_other g n more q has in
            let old = (st.stands g more).own.from off q has (at.before i) in
            record { origin = at.origin i ∙ old.origin; lock = old.lock };
        stopping = λ guard is. stopping_other g n more guard ((st.stands g more).own.stopping guard is);
      };
      grips = λ q has. let at = at_other g n more q has in (at.grip, at.within);
      before = λ q has i. (at_other g n more q has).before i;
    }
