-- At each place of every run, the marks go with what the events say; so EvtRequestCancel begins once, for a request that
-- was cancelled while marked.
use Rattle.std.proofs.Common.{if◌then◌else◌, ◌≡◌, ℕ, ◌+◌, ◌==◌, ◌<◌, ◌≤◌, Bool, true, false, not, ◌&&◌, List, [], ◌∷◌, ◌++◌, ◌⊎◌, inl, inr, Option, Some, None, option_map, length, take, slice_get, refl, sym, ap, subst, ◌∙◌, arith}
use Rattle.std.proofs.lemmas.Bool.{cases_Bool, eqb-true}
use Rattle.wdf_base.specs.Meaning.{Meaning}
use Rattle.wdf_base.specs.declared.ids.Cpu.{Cpu}
use Rattle.wdf_base.specs.declared.ids.Handle.{Handle}
use Rattle.wdf_base.specs.declared.plan.Plan.{Plan}
use Rattle.wdf_base.specs.declared.value.Value.{Value}
use Rattle.wdf_base.specs.declared.value.Status.{Status}
use Rattle.wdf_base.specs.declared.object.Mark.{Mark}
use Rattle.wdf_base.specs.declared.object.Mark.TheVariants as marks
use Rattle.wdf_base.specs.declared.object.Place.{Place}
use Rattle.wdf_base.specs.declared.object.Place.TheVariants as place
use Rattle.wdf_base.specs.declared.object.RequestForm.{RequestForm}
use Rattle.wdf_base.specs.declared.object.RequestForm.TheVariants as form
use Rattle.wdf_base.specs.declared.object.RequestInfo.{RequestInfo}
use Rattle.wdf_base.specs.declared.call.Arg.{Arg}
use Rattle.wdf_base.specs.declared.call.Call.{Call}
use Rattle.wdf_base.specs.declared.call.CallKind.{CallKind}
use Rattle.wdf_base.specs.declared.call.CallKind.TheVariants as call
use Rattle.wdf_base.specs.declared.call.Callback.{Callback}
use Rattle.wdf_base.specs.declared.call.Callback.TheVariants as callback
use Rattle.wdf_base.specs.declared.rank.Rank.TheVariants as rank
use Rattle.wdf_base.specs.declared.event.Event.{Event}
use Rattle.wdf_base.specs.declared.event.Event.TheVariants as event
use Rattle.wdf_base.specs.declared.event.Post.{Post}
use Rattle.wdf_base.specs.declared.event.Post.TheVariants as post
use Rattle.wdf_base.specs.Same.{same_callback, same_handle, same_option, same_post}
use Rattle.wdf_base.specs.Lives.{is_live}
use Rattle.wdf_base.specs.Places.{is_closing, is_done, is_due, is_owned}
use Rattle.wdf_model.specs.declared.entries.Request.{Request}
use Rattle.wdf_model.specs.parts.Tree.{life_of, next_id}
use Rattle.wdf_model.specs.parts.Requests.{Requests, cancelled, is_cancelled, mark_cancelled, mark_of, no_request, place_of, request_of, with_mark}
use Rattle.wdf_model.specs.parts.Requests as requests
use Rattle.wdf_model.specs.State.{State, declared_in, handle_in, is_held_from, is_proper}
use Rattle.wdf_model.specs.Plans.{callback_irql}
use Rattle.wdf_model.specs.parts.Locks.{lock_of_callback}
use Rattle.wdf_model.specs.Ids.{object_id}
use Rattle.wdf_model.specs.declared.deed.Deed.TheVariants.{Arrive, CountArrival, FinishSending, TakeCancel, Withdraw}
use Rattle.wdf_model.specs.rules.Deeds.{do_deed, do_deeds}
use Rattle.wdf_model.specs.rules.Calls.{is_met_then, outcome}
use Rattle.wdf_model.specs.rules.Starts.{is_ready_for, new_frame, next_number, rank_ready_for}
use Rattle.wdf_model.specs.rules.Posts.{arrival_deeds, arrival_info, arrival_place, cancel_at, cancel_deeds, cancel_reaches, due_of, post_answer, post_fits}
use Rattle.wdf_model.specs.rules.Steps.{after, deeds, is_closing_with, may}
use Rattle.wdf_model.specs.rules.Ready.{IsRunOf, ready, state_after}
use Rattle.law_machine_base.specs.FactsOfEvents.{IsTick}
use Rattle.law_machine_base.specs.Fits.{fits}
use Rattle.wdf_model.proofs.Tests.{both, both_left, both_right, itself, second}
use Rattle.wdf_model.proofs.Runs.{along_run}
use Rattle.law_machine_base.proofs.Follows.{follows, state_goes_on}
use Rattle.wdf_model.proofs.Maps.{entry_put_same, put_long}
use Rattle.wdf_model.proofs.Counts.{one_or_two}
use Rattle.wdf_model.proofs.Sames.{handle_same}
use Rattle.law_machine_base.proofs.OwnEvents.{IsDid, did_tells, waiting_tells}
use Rattle.law_machine_base.proofs.FitsOfEvents.{event_fits}
use Rattle.law_machine_base.proofs.KeptMoves.{within}
use Rattle.law_machine_base.proofs.KeptByDeeds.{KeptIn, closing_undone, owned_undone}
use Rattle.law_machine_base.proofs.LawsOverRuns.{history_now}
use Rattle.wdf_laws.specs.declared.sign.Sign.TheVariants as sign
use Rattle.wdf_laws.specs.Events.{id_in, is_id, where_so}
use Rattle.wdf_laws.specs.Signs.{shows}
use Rattle.wdf_laws.specs.Laws.{is_cancel_due, law_7}
use Rattle.law_machine_lives.proofs.Keeping.{comes}
use Rattle.law_machine_lives.proofs.ReasonsOfCalls.{call_of}
use Rattle.law_trace_requests.proofs.Happened.{ever_next, never_yet}
use Rattle.law_trace_requests.proofs.Quiet.{event_none, is_loud_call, is_loud_event}
use Rattle.law_trace_requests.proofs.Marks.{Goes, GoesAt, GoesOf, StillGoes, cancelled_off, completed_requests, deed_still, deeds_still, is_armed, is_told, new_request_comes, one_at, others_at}
use Rattle.law_trace_requests.proofs.FirstParts.{did_after, start_reads}
use Rattle.law_trace_requests.proofs.Gives.{completes_off, completes_still}
use Rattle.law_trace_requests.proofs.Cancels.{AllGo, Begun, all_next, did_goes, has_begun, marks_stand, next_goes, was_posted}
use Rattle.law_machine_counts.proofs.Arrived.{arrived_requests}

-- ---- calls

did_event : {A : Type 0} {F B : ℕ → Bool} (plan : Plan) (m : Meaning A) (es : List Event) (S : State A) (cpu : Cpu) (c : Call) (v : Value) → may plan m S (event.Did cpu c v) ≡ true → KeptIn F B S → AllGo es S.requests
    → AllGo (es ++ event.Did cpu c v ∷ []) (after plan m S (event.Did cpu c v)).requests
did_event {A} plan m es S cpu c v h k g =
    let d : IsDid plan S cpu.0 c v = did_tells plan m S cpu c v h in
    let same : (after plan m S (event.Did cpu c v)).requests ≡ (do_deeds plan (outcome plan S cpu.0 d.frame c).deeds S).requests =
    did_after (λ (T : State A). T.requests) (λ T L C. refl) plan S cpu.0 c v d in
    subst (AllGo (es ++ event.Did cpu c v ∷ [])) (sym same) (did_goes plan es S cpu d.frame c.kind k c.count c.a c.b c.c v d.about.clean d.answer g)

-- a call that waits gives nothing up
pub waits_quietly : {A : Type 0} (plan : Plan) (S : State A) (k : CallKind) (n : ℕ) (a b x : Arg) → is_met_then plan S (call_of k n a b x) ≡ false → is_loud_call k ≡ false
waits_quietly plan S call.WdfRequestComplete n a b x h = absurd (let z : ⊥ = cc in z)
waits_quietly plan S call.WdfRequestMarkCancelableEx n a b x h = absurd (let z : ⊥ = cc in z)
waits_quietly plan S call.WdfRequestRequeue n a b x h = absurd (let z : ⊥ = cc in z)
waits_quietly plan S call.WdfRequestForwardToIoQueue n a b x h = absurd (let z : ⊥ = cc in z)
waits_quietly plan S call.WdfRequestStopAcknowledge n a b x h = absurd (let z : ⊥ = cc in z)
waits_quietly plan S _ n a b x h = refl

-- ---- events that say nothing of marks

calm : {A : Type 0} {F B : ℕ → Bool} (plan : Plan) (m : Meaning A) (es : List Event) (S : State A) (e : Event) → is_loud_event e ≡ false → ((x : ℕ) → shows (sign.MarkUndone x) e ≡ false)
    → ((x : ℕ) → shows (sign.CancelBegins x) e ≡ true → Begun (after plan m S e).requests x) → may plan m S e ≡ true → KeptIn F B S → AllGo es S.requests → AllGo (es ++ e ∷ []) (after plan m S e).requests
calm plan m es S e quiet kept_marks begins h k g =
    all_next es e S.requests (after plan m S e).requests (deeds_still plan (deeds plan S e) S (event_none plan S e quiet) (event_fits plan m S e h) k)
    (λ x t. absurd (let n = kept_marks x in let z : ⊥ = cc in z)) begins g

none_begins : (x : ℕ) (b : Bool) → is_id x (where_so b None) ≡ true → ⊥
none_begins x true e = let z : ⊥ = cc in z
none_begins x false e = let z : ⊥ = cc in z

-- ---- starts

pub started : {A : Type 0} (plan : Plan) (m : Meaning A) (S : State A) (cpu : Cpu) (c : Callback) (o : Handle) (r : Option Handle) → may plan m S (event.Start cpu c o r) ≡ true → is_ready_for plan m S cpu.0 c o.id.0 r ≡ true
started plan m S cpu c o r h = search (both_left, both_right)

cancel_begins : {A : Type 0} (plan : Plan) (m : Meaning A) (es : List Event) (S : State A) (cpu : Cpu) (o r : Handle) → may plan m S (event.Start cpu callback.EvtRequestCancel o (Some r)) ≡ true → AllGo es S.requests
    → (x : ℕ) → shows (sign.CancelBegins x) (event.Start cpu callback.EvtRequestCancel o (Some r)) ≡ true → Begun (after plan m S (event.Start cpu callback.EvtRequestCancel o (Some r))).requests x
cancel_begins {A} plan m es S cpu o r h g x t =
    let R : Requests = S.requests in
    let ready_ : rank_ready_for plan S rank.Cancel callback.EvtRequestCancel o.id.0 r.id.0 ≡ true = started plan m S cpu callback.EvtRequestCancel o (Some r) h in
    let due_ : is_due (mark_of R r.id.0) ≡ true = both_left (is_due (mark_of R r.id.0)) (is_held_from S o.id.0 r.id.0) ready_ in
    let was : GoesAt (marks_stand r.id.0 es) (was_posted r.id.0 es) (has_begun r.id.0 es) R r.id.0 = g r.id.0 in
    let owned : is_owned (place_of R r.id.0) ≡ true = was.goes.owned (due_armed (mark_of R r.id.0) due_) in
    let same : (after plan m S (event.Start cpu callback.EvtRequestCancel o (Some r))).requests ≡ requests.take_cancel R r.id.0 =
    start_reads (λ (T : State A). T.requests) (λ T L C. refl) plan S (TakeCancel r.id ∷ []) cpu.0 (next_number S) (new_frame plan S callback.EvtRequestCancel o (Some r)) (callback_irql plan callback.EvtRequestCancel o.id.0)
    (lock_of_callback plan callback.EvtRequestCancel o.id.0 (declared_in plan S o.id.0)) in
    let here : request_of (requests.take_cancel R r.id.0) r.id.0 ≡ with_mark marks.Taken (request_of R r.id.0) = entry_put_same no_request R.all r.id.0 (with_mark marks.Taken (request_of R r.id.0)) in
    let there_ : r.id.0 < length R.all = within R r.id.0 (owned_undone (place_of R r.id.0) owned) in
    let more : length R.all ≤ length (requests.take_cancel R r.id.0).all = put_long no_request R.all r.id.0 (with_mark marks.Taken (request_of R r.id.0)) in
    let at : r.id.0 ≡ x = eqb-true r.id.0 x t in
    let begun_ : Begun (requests.take_cancel R r.id.0) r.id.0 = record {
      off = ap (λ (q : Request). is_armed q.info.mark) here;
      cancelled = ap (λ (q : Request). q.info.cancelled) here ∙ was.goes.due due_;
      there = omega arith;
    } in
    subst (λ (y : ℕ). Begun (after plan m S (event.Start cpu callback.EvtRequestCancel o (Some r))).requests y) at (subst (λ (U : Requests). Begun U r.id.0) (sym same) begun_)
  where
    due_armed : (k : Mark) → is_due k ≡ true → is_armed k ≡ true
    due_armed marks.Due e = refl
    due_armed marks.Marked e = refl
    due_armed marks.Taken e = absurd (let z : ⊥ = cc in z)
    due_armed marks.Unmarked e = absurd (let z : ⊥ = cc in z)

others_begin : (x : ℕ) (c : Callback) (cpu : Cpu) (o r : Handle) → same_callback c callback.EvtRequestCancel ≡ false → shows (sign.CancelBegins x) (event.Start cpu c o (Some r)) ≡ true → ⊥
others_begin x c cpu o r e t = let none : is_id x (where_so false (Some r.id.0)) ≡ true = subst (λ (b : Bool). is_id x (where_so b (Some r.id.0)) ≡ true) e t in let z : ⊥ = cc in z

start_event : {A : Type 0} {F B : ℕ → Bool} (plan : Plan) (m : Meaning A) (es : List Event) (S : State A) (cpu : Cpu) (c : Callback) (o : Handle) (r : Option Handle) → may plan m S (event.Start cpu c o r) ≡ true → KeptIn F B S → AllGo es S.requests
    → AllGo (es ++ event.Start cpu c o r ∷ []) (after plan m S (event.Start cpu c o r)).requests
start_event plan m es S cpu c o None h k g = calm plan m es S (event.Start cpu c o None) refl (λ x. refl) (λ x t. absurd (none_begins x (same_callback c callback.EvtRequestCancel) t)) h k g
start_event plan m es S cpu callback.EvtRequestCancel o (Some r) h k g = calm plan m es S (event.Start cpu callback.EvtRequestCancel o (Some r)) refl (λ x. refl) (cancel_begins plan m es S cpu o r h g) h k g
start_event plan m es S cpu c o (Some r) h k g = calm plan m es S (event.Start cpu c o (Some r)) refl (λ x. refl) (λ x t. absurd (others_begin x c cpu o r refl t)) h k g

-- ---- completions

complete_event : {A : Type 0} (plan : Plan) (m : Meaning A) (es : List Event) (S : State A) (r : Handle) (s : Status) → may plan m S (event.Complete r s) ≡ true → AllGo es S.requests
    → AllGo (es ++ event.Complete r s ∷ []) (after plan m S (event.Complete r s)).requests
complete_event {A} plan m es S r s h g =
    let R : Requests = S.requests in
    let closing_ : is_closing (place_of R r.id.0) ≡ true = closes (place_of R r.id.0) (both_right (is_proper plan S r) (is_closing_with (place_of R r.id.0) s) h) in
    let off : is_armed (mark_of R r.id.0) ≡ false = elim (cases_Bool (is_armed (mark_of R r.id.0))) [
      | inl a ↦ absurd (not_both (place_of R r.id.0) closing_ ((g r.id.0).goes.owned a))
      | inr n ↦ n
    ] in
    let undone : is_done (place_of R r.id.0) ≡ false = (closing_undone (place_of R r.id.0) closing_).0 in
    subst (AllGo (es ++ event.Complete r s ∷ [])) (sym (completed_requests plan S r.id.0))
    (all_next es (event.Complete r s) R (requests.move_to R r.id.0 place.Done) (completes_still R r.id.0 undone off)
    (λ x t. subst (λ (y : ℕ). is_armed (mark_of (requests.move_to R r.id.0 place.Done) y) ≡ false) (eqb-true r.id.0 x t) (completes_off R r.id.0 off))
    (λ x t. absurd (let z : ⊥ = cc in z)) g)
  where
    closes : (p : Place) → is_closing_with p s ≡ true → is_closing p ≡ true
    closes (place.Closing t) e = refl
    closes _ e = e

    not_both : (p : Place) → is_closing p ≡ true → is_owned p ≡ true → ⊥
    not_both (place.Closing t) e o = let z : ⊥ = cc in z
    not_both _ e o = let z : ⊥ = cc in z

-- ---- posts

arrival_still : {A : Type 0} {F B : ℕ → Bool} (plan : Plan) (S : State A) (agent : ℕ) (f : RequestForm) (length code device : ℕ) (b : Bool) → KeptIn F B S
    → StillGoes S.requests (do_deeds plan (CountArrival agent ∷ (if b then Arrive (object_id device) (arrival_info S agent f length code device) (arrival_place plan S f length device) ∷ [] else [])) S).requests
arrival_still plan S agent f length code device false k = λ m c b x g. g
arrival_still plan S agent f length code device true k =
    let info : RequestInfo = arrival_info S agent f length code device in
    let p : Place = arrival_place plan S f length device in
    subst (StillGoes S.requests) (sym (arrived_requests (do_deed plan (CountArrival agent) S) device info p)) (new_request_comes S.requests (next_id S.tree) p info k.room refl)

arrival_event : {A : Type 0} {F B : ℕ → Bool} (plan : Plan) (es : List Event) (S : State A) (e : Event) (agent : ℕ) (f : RequestForm) (length code device : ℕ) → ((x : ℕ) → shows (sign.MarkUndone x) e ≡ false) → ((x : ℕ) → shows (sign.CancelBegins x) e ≡ false)
    → KeptIn F B S → AllGo es S.requests → AllGo (es ++ e ∷ []) (do_deeds plan (arrival_deeds plan S agent f length code device) S).requests
arrival_event plan es S e agent f length code device undoes begins k g =
    all_next es e S.requests (do_deeds plan (arrival_deeds plan S agent f length code device) S).requests (arrival_still plan S agent f length code device (is_live (life_of S.tree device)) k)
    (λ x t. absurd (let n = undoes x in let z : ⊥ = cc in z)) (λ x t. absurd (let n = begins x in let z : ⊥ = cc in z)) g

-- a cancelable request that is cancelled has its EvtRequestCancel due
cancelled_goes : (m c b : Bool) (p : Place) (k : Mark) (z : Bool) → c ≡ true → Goes m c b p k z → Goes m c b p (mark_cancelled k) true
cancelled_goes m c b p marks.Marked z posted g = record {
  told = both m c g.told posted;
  owned = λ h. g.owned refl;
  due = λ h. refl;
  begun = λ h. absurd (let n = (g.begun h).0 in let y : ⊥ = cc in y);
}
cancelled_goes m c b p marks.Due z posted g = record { told = g.told; owned = g.owned; due = λ h. refl; begun = λ h. ((g.begun h).0, inl refl) }
cancelled_goes m c b p marks.Taken z posted g = cancelled_off m c b p marks.Taken refl refl
cancelled_goes m c b p marks.Unmarked z posted g = cancelled_off m c b p marks.Unmarked refl refl

cancel_one : (es : List Event) (R : Requests) (e : Event) (r : ℕ) → shows (sign.CancelPosted r) e ≡ true → ((x : ℕ) → shows (sign.MarkUndone x) e ≡ false) → ((x : ℕ) → shows (sign.CancelBegins x) e ≡ false)
    → AllGo es R → AllGo (es ++ e ∷ []) (requests.cancel R r)
cancel_one es R e r posted undoes begins g y =
    let same : GoesAt (marks_stand y (es ++ e ∷ [])) (was_posted y (es ++ e ∷ [])) (has_begun y (es ++ e ∷ [])) R y =
    next_goes es e R y (λ t. absurd (let n = undoes y in let z : ⊥ = cc in z)) (λ t. absurd (let n = begins y in let z : ⊥ = cc in z)) (g y) in
    elim (one_or_two y r) [
      | inl at ↦
          let told_ : was_posted y (es ++ e ∷ []) ≡ true = ever_next (sign.CancelPosted y) es e ∙ second (was_posted y es) (shows (sign.CancelPosted y) e) (subst (λ (w : ℕ). shows (sign.CancelPosted w) e ≡ true) (sym at) posted) in
          one_at R r (cancelled (request_of R r)) (marks_stand y (es ++ e ∷ [])) (was_posted y (es ++ e ∷ [])) (has_begun y (es ++ e ∷ []))
          (cancelled_goes (marks_stand y (es ++ e ∷ [])) (was_posted y (es ++ e ∷ [])) (has_begun y (es ++ e ∷ [])) (place_of R r) (mark_of R r) (is_cancelled R r) told_
          (subst (λ (w : ℕ). GoesOf (marks_stand y (es ++ e ∷ [])) (was_posted y (es ++ e ∷ [])) (has_begun y (es ++ e ∷ [])) (request_of R w)) at same.goes))
          y at same
      | inr apart ↦ others_at R r (cancelled (request_of R r)) (marks_stand y (es ++ e ∷ [])) (was_posted y (es ++ e ∷ [])) (has_begun y (es ++ e ∷ [])) y apart same
    ]

cancel_placed : {A : Type 0} {F B : ℕ → Bool} (plan : Plan) (es : List Event) (S : State A) (e : Event) (r : ℕ) (p : Place) → place_of S.requests r ≡ p → shows (sign.CancelPosted r) e ≡ true → ((x : ℕ) → shows (sign.MarkUndone x) e ≡ false)
    → ((x : ℕ) → shows (sign.CancelBegins x) e ≡ false) → KeptIn F B S → AllGo es S.requests → AllGo (es ++ e ∷ []) (do_deeds plan (cancel_at p r) S).requests
cancel_placed plan es S e r (place.Queued q) at posted undoes begins k g =
    all_next es e S.requests (do_deeds plan (cancel_at (place.Queued q) r) S).requests (deed_still plan (Withdraw q (object_id r)) S refl (rw at (itself q.0)) k)
    (λ x t. absurd (let n = undoes x in let z : ⊥ = cc in z)) (λ x t. absurd (let n = begins x in let z : ⊥ = cc in z)) g
cancel_placed plan es S e r _ at posted undoes begins k g = cancel_one es S.requests e r posted undoes begins g

reached : {A : Type 0} (plan : Plan) (S : State A) (x : Option ℕ) (answer : Option Handle) → same_option same_handle (option_map (handle_in plan S) x) answer ≡ true → (r : ℕ) → x ≡ Some r → is_id r (id_in answer) ≡ true
reached plan S (Some q) (Some h) e r at = let same : handle_in plan S q ≡ h = handle_same (handle_in plan S q) h e in let it : q ≡ r = cc in subst (λ (y : Handle). (y.id.0 == r) ≡ true) same (rw it (itself r))
reached plan S (Some q) None e r at = absurd (let z : ⊥ = cc in z)
reached plan S None answer e r at = absurd (let z : ⊥ = cc in z)

cancel_event : {A : Type 0} {F B : ℕ → Bool} (plan : Plan) (es : List Event) (S : State A) (agent k : ℕ) (answer : Option Handle) (x : Option ℕ) → ((r : ℕ) → x ≡ Some r → is_id r (id_in answer) ≡ true) → KeptIn F B S → AllGo es S.requests
    → AllGo (es ++ event.Posted agent (post.Cancel k) answer ∷ []) (do_deeds plan (cancel_deeds S x) S).requests
cancel_event plan es S agent n answer None told kept g =
    all_next es (event.Posted agent (post.Cancel n) answer) S.requests S.requests (λ m c b y h. h) (λ x t. absurd (let z : ⊥ = cc in z)) (λ x t. absurd (let z : ⊥ = cc in z)) g
cancel_event plan es S agent n answer (Some r) told kept g =
    cancel_placed plan es S (event.Posted agent (post.Cancel n) answer) r (place_of S.requests r) refl (told r refl) (λ x. refl) (λ x. refl) kept g

post_event : {A : Type 0} {F B : ℕ → Bool} (plan : Plan) (m : Meaning A) (es : List Event) (S : State A) (agent : ℕ) (p : Post) (answer : Option Handle) → may plan m S (event.Posted agent p answer) ≡ true → KeptIn F B S → AllGo es S.requests
    → AllGo (es ++ event.Posted agent p answer ∷ []) (after plan m S (event.Posted agent p answer)).requests
post_event plan m es S agent (post.Read device length) answer h k g = arrival_event plan es S (event.Posted agent (post.Read device length) answer) agent form.Read length 0 device.id.0 (λ x. refl) (λ x. refl) k g
post_event plan m es S agent (post.Write device length) answer h k g = arrival_event plan es S (event.Posted agent (post.Write device length) answer) agent form.Write length 0 device.id.0 (λ x. refl) (λ x. refl) k g
post_event plan m es S agent (post.Control device code length) answer h k g = arrival_event plan es S (event.Posted agent (post.Control device code length) answer) agent form.Control length code device.id.0 (λ x. refl) (λ x. refl) k g
post_event plan m es S agent (post.Cancel n) answer h k g =
    cancel_event plan es S agent n answer (cancel_reaches S agent n)
    (reached plan S (cancel_reaches S agent n) answer (both_right (same_option same_post (due_of m S agent) (Some (post.Cancel n)) && post_fits plan S agent (post.Cancel n)) (same_option same_handle (post_answer plan S agent (post.Cancel n)) answer) h)) k g
post_event plan m es S agent (post.Ask a device) answer h k g =
    all_next es (event.Posted agent (post.Ask a device) answer) S.requests S.requests (λ m c b y h. h) (λ x t. absurd (let z : ⊥ = cc in z)) (λ x t. absurd (let z : ⊥ = cc in z)) g
post_event plan m es S agent (post.Act action) answer h k g =
    all_next es (event.Posted agent (post.Act action) answer) S.requests S.requests (λ m c b y h. h) (λ x t. absurd (let z : ⊥ = cc in z)) (λ x t. absurd (let z : ⊥ = cc in z)) g
post_event plan m es S agent (post.Done r s) answer h k g =
    all_next es (event.Posted agent (post.Done r s) answer) S.requests (do_deed plan (FinishSending r.id s) S).requests
    (deed_still plan (FinishSending r.id s) S refl (both_left (fits plan (FinishSending r.id s) S) true (event_fits plan m S (event.Posted agent (post.Done r s) answer) h)) k)
    (λ x t. absurd (let z : ⊥ = cc in z)) (λ x t. absurd (let z : ⊥ = cc in z)) g

-- ---- every event

tick_goes : {A : Type 0} (plan : Plan) (m : Meaning A) (es : List Event) (S : State A) (time : ℕ) → AllGo es S.requests → AllGo (es ++ event.Tick time ∷ []) (after plan m S (event.Tick time)).requests
tick_goes plan m es S time g = all_next es (event.Tick time) S.requests S.requests (λ m c b y h. h) (λ x t. absurd (let z : ⊥ = cc in z)) (λ x t. absurd (let z : ⊥ = cc in z)) g

module _ {A : Type 0} {F B : ℕ → Bool} (plan : Plan) (m : Meaning A) (es : List Event) (S : State A) where
  pub event_goes : (e : Event) → may plan m S e ≡ true → KeptIn F B S → AllGo es S.requests → AllGo (es ++ e ∷ []) (after plan m S e).requests
  event_goes (event.Start cpu c o r) h k g = start_event plan m es S cpu c o r h k g
  event_goes (event.Did cpu c v) h k g = did_event plan m es S cpu c v h k g
  event_goes (event.Waiting cpu c) h k g =
      calm plan m es S (event.Waiting cpu c) (waits_quietly plan S c.kind c.count c.a c.b c.c (waiting_tells plan m S cpu c h).unmet) (λ x. refl) (λ x t. absurd (let z : ⊥ = cc in z)) h k g
  event_goes (event.Complete r s) h k g = complete_event plan m es S r s h g
  event_goes (event.Posted agent p answer) h k g = post_event plan m es S agent p answer h k g
  event_goes (event.Local cpu line) h k g = calm plan m es S (event.Local cpu line) refl (λ x. refl) (λ x t. absurd (let z : ⊥ = cc in z)) h k g
  event_goes (event.Log cpu v) h k g = calm plan m es S (event.Log cpu v) refl (λ x. refl) (λ x t. absurd (let z : ⊥ = cc in z)) h k g
  event_goes (event.Spend cpu n) h k g = calm plan m es S (event.Spend cpu n) refl (λ x. refl) (λ x t. absurd (let z : ⊥ = cc in z)) h k g
  event_goes (event.Register cpu a r v) h k g = calm plan m es S (event.Register cpu a r v) refl (λ x. refl) (λ x t. absurd (let z : ⊥ = cc in z)) h k g
  event_goes (event.Woke cpu c v) h k g = calm plan m es S (event.Woke cpu c v) refl (λ x. refl) (λ x t. absurd (let z : ⊥ = cc in z)) h k g
  event_goes (event.Park cpu f) h k g = calm plan m es S (event.Park cpu f) refl (λ x. refl) (λ x t. absurd (let z : ⊥ = cc in z)) h k g
  event_goes (event.Unpark cpu f) h k g = calm plan m es S (event.Unpark cpu f) refl (λ x. refl) (λ x t. absurd (let z : ⊥ = cc in z)) h k g
  event_goes (event.End cpu c o v) h k g = calm plan m es S (event.End cpu c o v) refl (λ x. refl) (λ x t. absurd (let z : ⊥ = cc in z)) h k g
  event_goes (event.Fault cpu x line) h k g = calm plan m es S (event.Fault cpu x line) refl (λ y. refl) (λ y t. absurd (let z : ⊥ = cc in z)) h k g
  event_goes (event.Stage d s i) h k g = calm plan m es S (event.Stage d s i) refl (λ x. refl) (λ x t. absurd (let z : ⊥ = cc in z)) h k g
  event_goes (event.Cleanup o) h k g = calm plan m es S (event.Cleanup o) refl (λ x. refl) (λ x t. absurd (let z : ⊥ = cc in z)) h k g
  event_goes (event.Destroy o) h k g = calm plan m es S (event.Destroy o) refl (λ x. refl) (λ x t. absurd (let z : ⊥ = cc in z)) h k g
  event_goes (event.Tick time) h k g = absurd (let z : ⊥ = cc in z)

  either_goes : (offered : List Event) (e : Event) → (may plan m S e ≡ true) ⊎ IsTick m S offered e → KeptIn F B S → AllGo es S.requests → AllGo (es ++ e ∷ []) (after plan m S e).requests
  either_goes offered e (inl h) k g = event_goes e h k g
  either_goes offered e (inr t) k g = subst (λ (x : Event). AllGo (es ++ x ∷ []) (after plan m S x).requests) (sym t.tick) (tick_goes plan m es S (S.clock + 1) g)

-- ---- each place of a run

all_go_opens : {A : Type 0} (plan : Plan) (m : Meaning A) → AllGo [] (state_after plan m []).requests
unfolding state_after
all_go_opens plan m x = record {
  goes = record { told = refl; owned = λ h. absurd (let z : ⊥ = cc in z); due = λ h. absurd (let z : ⊥ = cc in z); begun = λ h. absurd (let n = never_yet (sign.CancelBegins x) in let z : ⊥ = cc in z) };
  there = λ h. absurd (let n = never_yet (sign.CancelBegins x) in let z : ⊥ = cc in z);
}

pub all_go_at_each : {A : Type 0} (plan : Plan) (m : Meaning A) (run : List Event) → IsRunOf plan m run → (n : ℕ) → AllGo (take n run) (state_after plan m (take n run)).requests
all_go_at_each {A} plan m run is_run n = along_run (λ es. AllGo es (state_after plan m es).requests) (ready plan m) run (all_go_opens plan m)
    (λ before e place so_far held at. subst (λ (T : State A). AllGo (before ++ e ∷ []) T.requests) (sym (state_goes_on plan m before e))
    (either_goes plan m before (state_after plan m before) (ready plan m before) e (follows plan m before place e at) (history_now plan m before so_far).kept held))
    is_run n

-- ---- the law

due_as_told : (m c b : Bool) (R : Requests) (r : ℕ) → is_due (mark_of R r) ≡ true → GoesAt m c b R r → (c && m && not b) ≡ true
due_as_told m c b R r due_ g =
    let told_ : (m && c) ≡ true = due_told m c (mark_of R r) due_ g.goes.told in
    let begun_ : b ≡ false = elim (cases_Bool b) [
      | inl h ↦ absurd (due_off (mark_of R r) due_ (g.goes.begun h).0)
      | inr h ↦ h
    ] in
    rw begun_ (both (c && m) true (both c m (both_right m c told_) (both_left m c told_)) refl)
  where
    due_told : (m c : Bool) (k : Mark) → is_due k ≡ true → is_told m c k ≡ true → (m && c) ≡ true
    due_told m c marks.Due e t = t
    due_told m c _ e t = absurd (let z : ⊥ = cc in z)

    due_off : (k : Mark) → is_due k ≡ true → is_armed k ≡ false → ⊥
    due_off marks.Due e t = let z : ⊥ = cc in z
    due_off _ e t = let z : ⊥ = cc in z

none_due : (es : List Event) (b : Bool) → is_cancel_due es (where_so b None) ≡ true
none_due es true = refl
none_due es false = refl

law_of_cancel : {A : Type 0} (plan : Plan) (m : Meaning A) (es : List Event) (S : State A) (cpu : Cpu) (o r : Handle) → may plan m S (event.Start cpu callback.EvtRequestCancel o (Some r)) ≡ true → AllGo es S.requests
    → law_7 es (event.Start cpu callback.EvtRequestCancel o (Some r)) ≡ true
law_of_cancel plan m es S cpu o r h g =
    let ready_ : rank_ready_for plan S rank.Cancel callback.EvtRequestCancel o.id.0 r.id.0 ≡ true = started plan m S cpu callback.EvtRequestCancel o (Some r) h in
    due_as_told (marks_stand r.id.0 es) (was_posted r.id.0 es) (has_begun r.id.0 es) S.requests r.id.0 (both_left (is_due (mark_of S.requests r.id.0)) (is_held_from S o.id.0 r.id.0) ready_) (g r.id.0)

law_of_start : {A : Type 0} (plan : Plan) (m : Meaning A) (es : List Event) (S : State A) (cpu : Cpu) (c : Callback) (o : Handle) (r : Option Handle) → may plan m S (event.Start cpu c o r) ≡ true → AllGo es S.requests
    → law_7 es (event.Start cpu c o r) ≡ true
law_of_start plan m es S cpu c o None h g = none_due es (same_callback c callback.EvtRequestCancel)
law_of_start plan m es S cpu callback.EvtRequestCancel o (Some r) h g = law_of_cancel plan m es S cpu o r h g
law_of_start plan m es S cpu _ o (Some r) h g = refl

pub law_7_at_each : {A : Type 0} (plan : Plan) (m : Meaning A) (run : List Event) (k : ℕ) (e : Event) → IsRunOf plan m run → slice_get run k ≡ Some e → law_7 (take k run) e ≡ true
law_7_at_each plan m run k (event.Start cpu c o r) is_run at =
    law_of_start plan m (take k run) (state_after plan m (take k run)) cpu c o r (comes plan m run k (event.Start cpu c o r) is_run at (λ time e. let z : ⊥ = cc in z)) (all_go_at_each plan m run is_run k)
law_7_at_each plan m run k _ is_run at = refl
