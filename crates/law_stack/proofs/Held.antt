-- Each Send whose request isn't done is at its target, which isn't done with it. So a target takes a Send only where its connector
-- has room.
use Rattle.std.proofs.Common.{if◌then◌else◌, ◌≡◌, ◌≢◌, ℕ, zero, suc, ◌+◌, ◌==◌, ◌≤◌, Bool, true, false, not, ◌&&◌, List, [], ◌∷◌, ◌⊎◌, inl, inr, find, count_by, Option, Some, None, is_some, option_and_then, refl, sym, ap, subst, ◌∙◌, arith}
use Rattle.std.proofs.lemmas.Bool.{eqb-true}
use Rattle.wdf_base.specs.Meaning.{Meaning}
use Rattle.wdf_base.specs.declared.plan.Plan.{Plan}
use Rattle.wdf_base.specs.declared.ids.Cpu.{Cpu}
use Rattle.wdf_base.specs.declared.ids.Handle.{Handle}
use Rattle.wdf_base.specs.declared.object.Place.{Place}
use Rattle.wdf_base.specs.declared.object.Place.TheVariants as place
use Rattle.wdf_base.specs.Places.{is_sent, is_sent_to}
use Rattle.wdf_base.specs.Lives.{is_live}
use Rattle.wdf_base.specs.declared.value.Value.{Value}
use Rattle.wdf_base.specs.declared.value.Value.TheVariants.{Num, Obj, Stat}
use Rattle.wdf_base.specs.declared.value.Status.{Status}
use Rattle.wdf_base.specs.declared.call.Arg.{Arg}
use Rattle.wdf_base.specs.declared.call.Arg.TheVariants.{Class, Val}
use Rattle.wdf_base.specs.declared.call.Call.{Call}
use Rattle.wdf_base.specs.declared.call.CallKind.{CallKind}
use Rattle.wdf_base.specs.declared.call.CallKind.TheVariants as call
use Rattle.wdf_base.specs.declared.call.Callback.{Callback}
use Rattle.wdf_base.specs.declared.call.Callback.TheVariants as callback
use Rattle.wdf_base.specs.declared.rank.Rank.TheVariants as rank
use Rattle.wdf_base.specs.declared.event.Post.{Post}
use Rattle.wdf_base.specs.declared.event.Post.TheVariants as post
use Rattle.wdf_base.specs.declared.event.Event.{Event}
use Rattle.wdf_base.specs.declared.event.Event.TheVariants as event
use Rattle.wdf_base.specs.Same.{same_value}
use Rattle.wdf_model.specs.declared.deed.Deed.{Deed}
use Rattle.wdf_model.specs.declared.deed.Deed.TheVariants.{ComeBack, FinishSending, SendRequest}
use Rattle.wdf_model.specs.declared.entries.Sending.{Sending}
use Rattle.wdf_model.specs.Tables.{flag}
use Rattle.wdf_model.specs.Ids.{object_id}
use Rattle.wdf_model.specs.parts.Requests.{is_cancelled, place_of}
use Rattle.wdf_model.specs.parts.Tree.{life_of}
use Rattle.wdf_model.specs.parts.Targets.{Targets, is_at_target, routine_due, routine_outcome, takes_more, the_target}
use Rattle.wdf_model.specs.parts.Targets as targets
use Rattle.wdf_model.specs.State.{State, declared_in, object_in}
use Rattle.wdf_base.specs.Values.{arg_is}
use Rattle.wdf_model.specs.rules.Calls.{may_send, outcome}
use Rattle.wdf_model.specs.rules.Deeds.{do_deeds}
use Rattle.wdf_model.specs.rules.Starts.{new_frame, next_number, start_effect}
use Rattle.wdf_model.specs.Plans.{callback_irql}
use Rattle.wdf_model.specs.parts.Locks.{lock_of_callback}
use Rattle.wdf_model.specs.rules.Steps.{after, deeds, may}
use Rattle.wdf_model.proofs.Counts.{count_behind, count_cons, count_mapped, filter_less, found_at_its_target, not_equal, one_or_two}
use Rattle.wdf_model.proofs.Sames.{value_same}
use Rattle.wdf_model.proofs.Tests.{both_left, both_right}
use Rattle.law_machine_base.specs.OverRuns.{PlacesAgree}
use Rattle.law_machine_base.proofs.OwnEvents.{IsDid, did_tells}
use Rattle.law_machine_base.proofs.FitsOfEvents.{event_fits}
use Rattle.law_machine_deeds.specs.MayDo.{is_done, may_do, posts, starts}
use Rattle.law_machine_deeds.proofs.Walk.{all_pass, event_may}
use Rattle.law_trace_requests.proofs.FirstParts.{did_after, start_reads}
use Rattle.wdf_laws.specs.Events.{argument_object, id_in}
use Rattle.law_stack.specs.Words as Words
use Rattle.law_stack.specs.Words.{Passing, cancelled_if, has_no_arrival, passing_step, sent_now, with_arrival, with_cancel, with_send, without_done}
use Rattle.law_stack.proofs.Counting.{times_of}
use Rattle.law_stack.proofs.Undone.{all_calm, back_others, done_others, is_calm, sent_more, undone, waits_at}
use Rattle.law_machine_counts.proofs.Totals.{flagged}
use Rattle.wdf_model.proofs.FrameCounts.{flag_small}

-- how often a request is among the Sends
abbrev pub sends_of : ℕ → List Passing → ℕ
sends_of r ps = times_of (λ (p : Passing). p.request) r ps

-- ---- how an event changes the Sends

pub cancel_keeps_one : (named : ℕ → Bool) (p : Passing) (b : Bool) → named p.request ≡ b → (cancelled_if named p).request ≡ p.request
cancel_keeps_one named p true e = rw e refl
cancel_keeps_one named p false e = rw e refl

cancel_keeps : (named : ℕ → Bool) (r : ℕ) (ps : List Passing) → sends_of r (with_cancel named ps) ≡ sends_of r ps
cancel_keeps named r ps = count_mapped (λ (p : Passing). p.request == r) (cancelled_if named) (λ p. ap (λ n. n == r) (cancel_keeps_one named p (named p.request) refl)) ps

arrival_keeps_by : (answer : Option ℕ) (r : ℕ) (p : Passing) (ps : List Passing) (b : Bool) → has_no_arrival p ≡ b → sends_of r (with_arrival answer ps) ≡ sends_of r ps → sends_of r (with_arrival answer (p ∷ ps)) ≡ sends_of r (p ∷ ps)
arrival_keeps_by answer r p ps true e rest =
    let a = count_cons (λ (q : Passing). q.request == r) (record p { arrival = Some answer }) ps in
    let b = count_cons (λ (q : Passing). q.request == r) p ps in
    rw e (omega (arith, a, b))
arrival_keeps_by answer r p ps false e rest =
    let a = count_cons (λ (q : Passing). q.request == r) p (with_arrival answer ps) in
    let b = count_cons (λ (q : Passing). q.request == r) p ps in
    rw e (omega (arith, a, b, rest))

arrival_keeps : (answer : Option ℕ) (r : ℕ) (ps : List Passing) → sends_of r (with_arrival answer ps) ≡ sends_of r ps
arrival_keeps answer r [] = refl
arrival_keeps answer r (p ∷ ps) = arrival_keeps_by answer r p ps (has_no_arrival p) refl (arrival_keeps answer r ps)

send_adds : (o : Option ℕ) (r : ℕ) (ps : List Passing) → sends_of r (with_send o ps) ≤ sends_of r ps + flag (is_some o)
send_adds None r ps = omega arith
send_adds (Some x) r ps =
    let a = count_behind (λ (q : Passing). q.request == r) ps (sent_now x ∷ []) in
    let b = count_cons (λ (q : Passing). q.request == r) (sent_now x) [] in
    let f : flag (x == r) ≤ 1 = flag_small (x == r) in
    omega (arith, a, b, f)

send_others : (x r : ℕ) (ps : List Passing) → r ≢ x → sends_of r (with_send (Some x) ps) ≡ sends_of r ps
send_others x r ps n =
    let a = count_behind (λ (q : Passing). q.request == r) ps (sent_now x ∷ []) in
    let b = count_cons (λ (q : Passing). q.request == r) (sent_now x) [] in
    let f : flag (x == r) ≡ 0 = ap flag (not_equal x r (λ e. n (sym e))) in
    omega (arith, a, b, f)

done_ends : (r : ℕ) (ps : List Passing) → sends_of r (without_done r ps) ≡ 0
done_ends r [] = refl
done_ends r (p ∷ ps) = by_test (p.request == r) refl (done_ends r ps)
  where
    by_test : (b : Bool) → (p.request == r) ≡ b → sends_of r (without_done r ps) ≡ 0 → sends_of r (without_done r (p ∷ ps)) ≡ 0
    by_test true e rest = rw e rest
    by_test false e rest =
        let a = count_cons (λ (q : Passing). q.request == r) p (without_done r ps) in
        let f : flag (p.request == r) ≡ 0 = ap flag e in
        rw e (omega (arith, a, f, rest))

done_fewer : (x r : ℕ) (ps : List Passing) → sends_of r (without_done x ps) ≤ sends_of r ps
done_fewer x r ps = filter_less (λ (q : Passing). q.request == r) (λ q. not (q.request == x)) ps

-- ---- what is there

-- each Send is at the target, which isn't done with it
abbrev pub IsThere : Targets → ℕ → List Passing → Type 0
IsThere T t ps = (r : ℕ) → sends_of r ps ≤ undone T t r

waits_fewer_by : (r : ℕ) (s : Sending) (xs : List Sending) (b : Bool) → (s.request.0 == r) ≡ b → count_by (waits_at r) xs ≤ count_by (λ s. s.request.0 == r) xs → count_by (waits_at r) (s ∷ xs) ≤ count_by (λ s. s.request.0 == r) (s ∷ xs)
waits_fewer_by r s xs true e rest =
    let a = count_cons (waits_at r) s xs in let b = count_cons (λ (s : Sending). s.request.0 == r) s xs in
    let f : flag (s.request.0 == r) ≡ 1 = ap flag e in let g : flag (waits_at r s) ≤ 1 = flag_small (waits_at r s) in omega (arith, a, b, f, g, rest)
waits_fewer_by r s xs false e rest =
    let a = count_cons (waits_at r) s xs in let b = count_cons (λ (s : Sending). s.request.0 == r) s xs in
    let f : flag (s.request.0 == r) ≡ 0 = ap flag e in let g : flag (waits_at r s) ≡ 0 = ap flag (ap (λ c. c && is_at_target s.outcome) e) in omega (arith, a, b, f, g, rest)

waits_fewer : (r : ℕ) (xs : List Sending) → count_by (waits_at r) xs ≤ count_by (λ s. s.request.0 == r) xs
waits_fewer r [] = omega arith
waits_fewer r (s ∷ xs) = waits_fewer_by r s xs (s.request.0 == r) refl (waits_fewer r xs)

-- one that is there once, and waits, is found waiting
found_waits_by : (r : ℕ) (s : Sending) (xs : List Sending) (b : Bool) → (s.request.0 == r) ≡ b → count_by (λ s. s.request.0 == r) (s ∷ xs) ≤ 1 → 1 ≤ count_by (waits_at r) (s ∷ xs)
    → (count_by (λ s. s.request.0 == r) xs ≤ 1 → 1 ≤ count_by (waits_at r) xs → option_and_then routine_outcome (find (λ s. s.request.0 == r) xs) ≡ None)
    → option_and_then routine_outcome (find (λ s. s.request.0 == r) (s ∷ xs)) ≡ None
found_waits_by r s xs true e once waits rest = rw e (not_done (is_at_target s.outcome) refl)
  where
    no_outcome : (o : Option Status) → is_at_target o ≡ true → (f : Bool) → (if f then None else o) ≡ None
    no_outcome None h true = refl
    no_outcome None h false = refl
    no_outcome (Some x) h f = absurd (let z : ⊥ = cc in z)

    not_done : (b : Bool) → is_at_target s.outcome ≡ b → routine_outcome s ≡ None
    not_done true h = no_outcome s.outcome h s.forgotten
    not_done false h =
        absurd
        (let a = count_cons (waits_at r) s xs in let b = count_cons (λ (s : Sending). s.request.0 == r) s xs in
        let f : flag (s.request.0 == r) ≡ 1 = ap flag e in let g : flag (waits_at r s) ≡ 0 = ap flag (ap (λ c. c && is_at_target s.outcome) e ∙ h) in
        let l = waits_fewer r xs in omega (arith, a, b, f, g, l, once, waits))
found_waits_by r s xs false e once waits rest =
    let a = count_cons (waits_at r) s xs in let b = count_cons (λ (s : Sending). s.request.0 == r) s xs in
    let f : flag (s.request.0 == r) ≡ 0 = ap flag e in let g : flag (waits_at r s) ≡ 0 = ap flag (ap (λ c. c && is_at_target s.outcome) e) in
    rw e (rest (omega (arith, b, f, once)) (omega (arith, a, g, waits)))

found_waits : (r : ℕ) (xs : List Sending) → count_by (λ s. s.request.0 == r) xs ≤ 1 → 1 ≤ count_by (waits_at r) xs → option_and_then routine_outcome (find (λ s. s.request.0 == r) xs) ≡ None
found_waits r [] once waits = absurd (omega (arith, waits))
found_waits r (s ∷ xs) once waits = found_waits_by r s xs (s.request.0 == r) refl once waits (found_waits r xs)

pub at_one_target : (p : Place) (t u : ℕ) → is_sent_to t p ≡ true → u ≢ t → is_sent_to u p ≡ false
at_one_target (place.Sent x) t u h n = not_equal x.0 u (λ e. n (sym e ∙ eqb-true x.0 t h))
at_one_target (place.Queued q) t u h n = refl
at_one_target (place.Returning q) t u h n = refl
at_one_target (place.Closing s) t u h n = refl
at_one_target place.Owned t u h n = refl
at_one_target place.Done t u h n = refl

module _ {A : Type 0} (S : State A) (t : ℕ) (places : PlacesAgree S) where
  -- a request that waits at the target is sent to it
  pub sent_there : (r : ℕ) → 1 ≤ undone S.targets t r → is_sent_to t (place_of S.requests r) ≡ true
  sent_there r h =
      let less = waits_fewer r (the_target S.targets t).sent in
      let count = places.sent t r in
      flagged (is_sent_to t (place_of S.requests r)) (omega (arith, less, count, h))

  -- and no completion routine is due for it
  no_routine : (r : ℕ) → 1 ≤ undone S.targets t r → routine_due S.targets r ≡ None
  no_routine r h =
      let is = sent_there r h in
      let count = places.sent t r in
      let one : flag (is_sent_to t (place_of S.requests r)) ≡ 1 = ap flag is in
      let found = found_at_its_target r S.targets.targets t (λ u n. places.sent u r ∙ ap flag (at_one_target (place_of S.requests r) t u is n)) in
      ap (option_and_then routine_outcome) found ∙ found_waits r (the_target S.targets t).sent (omega (arith, count, one)) h

  pub none_where_due : (r : ℕ) → is_some (routine_due S.targets r) ≡ true → undone S.targets t r ≡ 0
  none_where_due r h = zero_by (undone S.targets t r) refl
    where
      zero_by : (n : ℕ) → undone S.targets t r ≡ n → undone S.targets t r ≡ 0
      zero_by zero e = e
      zero_by (suc n) e = absurd (let none = no_routine r (omega (arith, e)) in let w : is_some (routine_due S.targets r) ≡ false = ap is_some none in let z : ⊥ = cc in z)

-- ---- one event more

named : (a : Arg) (r : ℕ) → argument_object a ≡ Some r → object_in a ≡ r
named (Val (Obj h)) r e = cc
named (Val (Num n)) r e = absurd (let z : ⊥ = cc in z)
named (Val (Stat s)) r e = absurd (let z : ⊥ = cc in z)
named (Class c) r e = absurd (let z : ⊥ = cc in z)

pub calm_of : (e : Event) → posts is_done e ≡ false → starts rank.Completion e ≡ false → (d : Deed) → may_do e d ≡ true → is_calm d ≡ true
calm_of e no_done no_start (FinishSending r s) h = absurd (let z : ⊥ = cc in z)
calm_of e no_done no_start (ComeBack r) h = absurd (let z : ⊥ = cc in z)
calm_of e no_done no_start d h = refl

module _ {A : Type 0} (plan : Plan) (m : Meaning A) (S : State A) (t : ℕ) where
  -- an event that ends no sending and takes none back
  undone_kept : (e : Event) (r : ℕ) → posts is_done e ≡ false → starts rank.Completion e ≡ false → undone S.targets t r ≤ undone (after plan m S e).targets t r
  undone_kept e r no_done no_start = all_calm plan (deeds plan S e) S t r (all_pass (may_do e) is_calm (calm_of e no_done no_start) (deeds plan S e) (event_may plan S e))

  there_still : (e : Event) (ps qs : List Passing) → posts is_done e ≡ false → starts rank.Completion e ≡ false → ((r : ℕ) → sends_of r qs ≤ sends_of r ps) → IsThere S.targets t ps → IsThere (after plan m S e).targets t qs
  there_still e ps qs no_done no_start fewer h r =
      let a = undone_kept e r no_done no_start in let b = fewer r in let c = h r in
      omega (arith, a, b, c)

  -- ---- a Send

  module _ (cpu : Cpu) (n : ℕ) (a b x : Arg) (answer : Value) (may_ : may plan m S (event.Did cpu (record { kind = call.WdfRequestSend; count = n; a = a; b = b; c = x }) answer) ≡ true) where
    abbrev made : Call
    made = record { kind = call.WdfRequestSend; count = n; a = a; b = b; c = x }

    did : IsDid plan S cpu.0 made answer
    did = did_tells plan m S cpu made answer may_

    went_by : (ok : Bool) → may_send S (object_in a) (object_in b) ≡ ok → answer ≡ Num 1 → may_send S (object_in a) (object_in b) ≡ true
    went_by true e one = e
    went_by false e one =
        absurd (let zero_ : answer ≡ Num 0 = rw e at did.answer in let same : Num 1 ≡ Num 0 = sym one ∙ zero_ in let z : ⊥ = cc in z)

    pub went : same_value answer (Num 1) ≡ true → may_send S (object_in a) (object_in b) ≡ true
    went one = went_by (may_send S (object_in a) (object_in b)) refl (value_same answer (Num 1) one)

    pub takes : same_value answer (Num 1) ≡ true → takes_more S.targets (object_in b) ≡ true
    takes one =
        let all = went one in
        both_right (is_live (life_of S.tree (object_in b))) (takes_more S.targets (object_in b)) (both_left (is_live (life_of S.tree (object_in b)) && takes_more S.targets (object_in b)) (not (is_cancelled S.requests (object_in a))) all)

    targets_sent : same_value answer (Num 1) ≡ true → (after plan m S (event.Did cpu made answer)).targets ≡ targets.send S.targets (object_in b) (object_in a) (arg_is x 1)
    targets_sent one =
        let all = went one in
        let deeds_are : (outcome plan S cpu.0 did.frame made).deeds ≡ SendRequest (object_id (object_in a)) (object_id (object_in b)) (arg_is x 1) ∷ [] = rw all refl in
        did_after (λ (T : State A). T.targets) (λ T L C. refl) plan S cpu.0 made answer did
        ∙ ap (λ (ds : List Deed). (do_deeds plan ds S).targets) deeds_are

    there_sent_by : (ps : List Passing) (r y : ℕ) → object_in a ≡ r → object_in b ≡ t → same_value answer (Num 1) ≡ true → IsThere S.targets t ps → (y ≡ r) ⊎ (y ≢ r)
        → sends_of y (with_send (Some r) ps) ≤ undone (after plan m S (event.Did cpu made answer)).targets t y
    there_sent_by ps r y is at one h (inl same) =
        let more : undone (after plan m S (event.Did cpu made answer)).targets t r ≡ suc (undone S.targets t r) =
        ap (λ (T : Targets). undone T t r) (targets_sent one ∙ ap (λ k. targets.send S.targets k (object_in a) (arg_is x 1)) at ∙ ap (λ k. targets.send S.targets t k (arg_is x 1)) is) ∙ sent_more S.targets t r (arg_is x 1) in
        let adds = send_adds (Some r) r ps in
        let before = h r in
        rw same (omega (arith, more, adds, before))
    there_sent_by ps r y is at one h (inr other) =
        let kept = undone_kept (event.Did cpu made answer) y refl refl in
        let same = send_others r y ps other in
        let before = h y in
        omega (arith, kept, same, before)

    there_sent : (o : Option ℕ) (ps : List Passing) → argument_object a ≡ o → object_in b ≡ t → same_value answer (Num 1) ≡ true → IsThere S.targets t ps
        → IsThere (after plan m S (event.Did cpu made answer)).targets t (with_send o ps)
    there_sent None ps is at one h = there_still (event.Did cpu made answer) ps ps refl refl (λ r. omega arith) h
    there_sent (Some r) ps is at one h = λ y. there_sent_by ps r y (named a r is) at one h (one_or_two y r)

    there_if_sent : (ps : List Passing) (sent : Bool) → (object_in b == t && same_value answer (Num 1)) ≡ sent → IsThere S.targets t ps
        → IsThere (after plan m S (event.Did cpu made answer)).targets t (if object_in b == t && same_value answer (Num 1) then with_send (argument_object a) ps else ps)
    there_if_sent ps true is h =
        let at : object_in b ≡ t = eqb-true (object_in b) t (both_left (object_in b == t) (same_value answer (Num 1)) is) in
        let one = both_right (object_in b == t) (same_value answer (Num 1)) is in
        rw is (there_sent (argument_object a) ps refl at one h)
    there_if_sent ps false is h = rw is (there_still (event.Did cpu made answer) ps ps refl refl (λ r. omega arith) h)

  -- ---- calls

  either_fewer : (b : Bool) (ps qs : List Passing) → ((r : ℕ) → sends_of r qs ≤ sends_of r ps) → (r : ℕ) → sends_of r (if b then qs else ps) ≤ sends_of r ps
  either_fewer true ps qs h r = h r
  either_fewer false ps qs h r = omega arith

  cancel_fewer : (named : ℕ → Bool) (ps : List Passing) (r : ℕ) → sends_of r (with_cancel named ps) ≤ sends_of r ps
  cancel_fewer named ps r = let e = cancel_keeps named r ps in omega (arith, e)

  there_called : (agent : ℕ) (cpu : Cpu) (kind : CallKind) (n : ℕ) (a b x : Arg) (answer : Value) (ps : List Passing) → may plan m S (event.Did cpu (record { kind = kind; count = n; a = a; b = b; c = x }) answer) ≡ true → IsThere S.targets t ps
      → IsThere (after plan m S (event.Did cpu (record { kind = kind; count = n; a = a; b = b; c = x }) answer)).targets t (passing_step t agent ps (event.Did cpu (record { kind = kind; count = n; a = a; b = b; c = x }) answer))
  there_called agent cpu call.WdfRequestSend n a b x answer ps may_ h = there_if_sent cpu n a b x answer may_ ps (object_in b == t && same_value answer (Num 1)) refl h
  there_called agent cpu call.WdfRequestCancelSentRequest n a b x answer ps may_ h =
      there_still (event.Did cpu (record { kind = call.WdfRequestCancelSentRequest; count = n; a = a; b = b; c = x }) answer) ps (if same_value answer (Num 1) then with_cancel (λ r. r == object_in a) ps else ps) refl refl (either_fewer (same_value answer (Num 1)) ps (with_cancel (λ r. r == object_in a) ps) (cancel_fewer (λ r. r == object_in a) ps)) h
  there_called agent cpu call.WdfIoTargetStop n a b x answer ps may_ h =
      there_still (event.Did cpu (record { kind = call.WdfIoTargetStop; count = n; a = a; b = b; c = x }) answer) ps (if object_in a == t && arg_is b 0 then with_cancel (λ r. true) ps else ps) refl refl (either_fewer (object_in a == t && arg_is b 0) ps (with_cancel (λ r. true) ps) (cancel_fewer (λ r. true) ps)) h
  there_called agent cpu kind n a b x answer ps may_ h = there_still (event.Did cpu (record { kind = kind; count = n; a = a; b = b; c = x }) answer) ps ps refl refl (λ r. omega arith) h

  -- ---- posts

  arrived_fewer : (agent by : ℕ) (ps : List Passing) (answer : Option Handle) (r : ℕ) → sends_of r (Words.passing_arrived agent by ps answer) ≤ sends_of r ps
  arrived_fewer agent by ps answer r = either_fewer (by == agent) ps (with_arrival (id_in answer) ps) (λ y. let e = arrival_keeps (id_in answer) y ps in omega (arith, e)) r

  reached_fewer : (ps : List Passing) (answer : Option Handle) (r : ℕ) → sends_of r (Words.passing_cancelled ps answer) ≤ sends_of r ps
  reached_fewer ps None r = omega arith
  reached_fewer ps (Some q) r = cancel_fewer (λ y. y == q.id.0) ps r

  there_done_by : (by : ℕ) (q : Handle) (s : Status) (answer : Option Handle) (ps : List Passing) → IsThere S.targets t ps → (r : ℕ) → (r ≡ q.id.0) ⊎ (r ≢ q.id.0)
      → sends_of r (without_done q.id.0 ps) ≤ undone (after plan m S (event.Posted by (post.Done q s) answer)).targets t r
  there_done_by by q s answer ps h r (inl same) = rw same (let e = done_ends q.id.0 ps in omega (arith, e))
  there_done_by by q s answer ps h r (inr other) =
      let kept : undone (targets.done S.targets q.id.0 s) t r ≡ undone S.targets t r = done_others S.targets q.id.0 r t s other in
      let fewer = done_fewer q.id.0 r ps in
      let before = h r in
      omega (arith, kept, fewer, before)

  there_posted : (agent by : ℕ) (p : Post) (answer : Option Handle) (ps : List Passing) → IsThere S.targets t ps → IsThere (after plan m S (event.Posted by p answer)).targets t (passing_step t agent ps (event.Posted by p answer))
  there_posted agent by (post.Read d n) answer ps h = there_still (event.Posted by (post.Read d n) answer) ps (Words.passing_arrived agent by ps answer) refl refl (arrived_fewer agent by ps answer) h
  there_posted agent by (post.Write d n) answer ps h = there_still (event.Posted by (post.Write d n) answer) ps (Words.passing_arrived agent by ps answer) refl refl (arrived_fewer agent by ps answer) h
  there_posted agent by (post.Control d c n) answer ps h = there_still (event.Posted by (post.Control d c n) answer) ps (Words.passing_arrived agent by ps answer) refl refl (arrived_fewer agent by ps answer) h
  there_posted agent by (post.Cancel k) answer ps h = there_still (event.Posted by (post.Cancel k) answer) ps (Words.passing_cancelled ps answer) refl refl (reached_fewer ps answer) h
  there_posted agent by (post.Done q s) answer ps h = λ r. there_done_by by q s answer ps h r (one_or_two r q.id.0)
  there_posted agent by (post.Ask a d) answer ps h = there_still (event.Posted by (post.Ask a d) answer) ps ps refl refl (λ r. omega arith) h
  there_posted agent by (post.Act a) answer ps h = there_still (event.Posted by (post.Act a) answer) ps ps refl refl (λ r. omega arith) h

  -- ---- completion routines

  module _ (places : PlacesAgree S) where
    back_by : (cpu : Cpu) (o q : Handle) (ps : List Passing) → may plan m S (event.Start cpu callback.EvtRequestCompletion o (Some q)) ≡ true → IsThere S.targets t ps → (r : ℕ) → (r ≡ q.id.0) ⊎ (r ≢ q.id.0)
        → sends_of r ps ≤ undone (targets.back S.targets q.id.0) t r
    back_by cpu o q ps may_ h r (inl same) =
        let fits_ = event_fits plan m S (event.Start cpu callback.EvtRequestCompletion o (Some q)) may_ in
        let due = both_right (is_sent (place_of S.requests q.id.0)) (is_some (routine_due S.targets q.id.0)) (both_left (is_sent (place_of S.requests q.id.0) && is_some (routine_due S.targets q.id.0)) _ fits_) in
        let none = none_where_due S t places q.id.0 due in
        let before = h q.id.0 in
        rw same (omega (arith, none, before))
    back_by cpu o q ps may_ h r (inr other) =
        let kept = back_others S.targets q.id.0 r t other in
        let before = h r in
        omega (arith, kept, before)

    there_started : (cpu : Cpu) (c : Callback) (o : Handle) (r : Option Handle) (ps : List Passing) → may plan m S (event.Start cpu c o r) ≡ true → IsThere S.targets t ps → IsThere (after plan m S (event.Start cpu c o r)).targets t ps
    there_started cpu callback.EvtRequestCompletion o (Some q) ps may_ h y =
        let same : (after plan m S (event.Start cpu callback.EvtRequestCompletion o (Some q))).targets ≡ targets.back S.targets q.id.0 =
        start_reads (λ (T : State A). T.targets) (λ T L C. refl) plan S (start_effect plan S cpu.0 callback.EvtRequestCompletion o.id.0 (Some q)) cpu.0 (next_number S) (new_frame plan S callback.EvtRequestCompletion o (Some q)) (callback_irql plan callback.EvtRequestCompletion o.id.0) (lock_of_callback plan callback.EvtRequestCompletion o.id.0 (declared_in plan S o.id.0)) in
        subst (λ T. sends_of y ps ≤ undone T t y) (sym same) (back_by cpu o q ps may_ h y (one_or_two y q.id.0))
    there_started cpu callback.EvtRequestCompletion o None ps may_ h y =
        let same : (after plan m S (event.Start cpu callback.EvtRequestCompletion o None)).targets ≡ S.targets =
        start_reads (λ (T : State A). T.targets) (λ T L C. refl) plan S (start_effect plan S cpu.0 callback.EvtRequestCompletion o.id.0 None) cpu.0 (next_number S) (new_frame plan S callback.EvtRequestCompletion o None) (callback_irql plan callback.EvtRequestCompletion o.id.0) (lock_of_callback plan callback.EvtRequestCompletion o.id.0 (declared_in plan S o.id.0)) in
        subst (λ T. sends_of y ps ≤ undone T t y) (sym same) (h y)
    there_started cpu c o r ps may_ h y = there_still (event.Start cpu c o r) ps ps refl refl (λ x. omega arith) h y

    -- ---- each event

    pub there_next : (agent : ℕ) (e : Event) (ps : List Passing) → may plan m S e ≡ true → IsThere S.targets t ps → IsThere (after plan m S e).targets t (passing_step t agent ps e)
    there_next agent (event.Did cpu c answer) ps may_ h = there_called agent cpu c.kind c.count c.a c.b c.c answer ps may_ h
    there_next agent (event.Waiting cpu c) ps may_ h = there_still (event.Waiting cpu c) ps (Words.passing_awaited t ps c) refl refl (either_fewer (Words.stops_all t c) ps (with_cancel (λ r. true) ps) (cancel_fewer (λ r. true) ps)) h
    there_next agent (event.Posted by p answer) ps may_ h = there_posted agent by p answer ps h
    there_next agent (event.Start cpu c o r) ps may_ h = there_started cpu c o r ps may_ h
    there_next agent e ps may_ h = there_still e ps ps refl refl (λ r. omega arith) h

  pub there_ticks : (agent time : ℕ) (ps : List Passing) → IsThere S.targets t ps → IsThere (after plan m S (event.Tick time)).targets t (passing_step t agent ps (event.Tick time))
  there_ticks agent time ps h = there_still (event.Tick time) ps ps refl refl (λ r. omega arith) h
