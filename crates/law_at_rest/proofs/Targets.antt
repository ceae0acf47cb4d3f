-- What the driver below a target has is at the target, which isn't done with it.
use Rattle.std.proofs.Common.{if◌then◌else◌, ◌≡◌, ◌≢◌, ◌⊎◌, inl, inr, ℕ, zero, suc, ◌+◌, ◌≤◌, ◌==◌, Bool, true, false, not, ◌&&◌, nat_lt, List, [], ◌∷◌, ◌++◌, length, map, find, count_by, Option, Some, None, option_map, slice_get, refl, sym, ap, ◌∙◌, subst, arith}
use Rattle.std.specs.List.{range_with_len}
use Rattle.std.proofs.lemmas.Option.{same_Some, slice_get-map}
use Rattle.wdf_base.specs.Meaning.{Meaning}
use Rattle.wdf_base.specs.Places.{is_sent_to}
use Rattle.wdf_base.specs.Resolved.{IsResolved}
use Rattle.wdf_base.specs.Same.{same_handle, same_option, same_post, same_value}
use Rattle.wdf_base.specs.declared.call.Arg.{Arg}
use Rattle.wdf_base.specs.declared.call.Arg.TheVariants.{Class, Val}
use Rattle.wdf_base.specs.declared.call.Call.{Call}
use Rattle.wdf_base.specs.declared.call.Callback.{Callback}
use Rattle.wdf_base.specs.declared.call.CallKind.{CallKind}
use Rattle.wdf_base.specs.declared.call.CallKind.TheVariants as call
use Rattle.wdf_base.specs.declared.event.Event.{Event}
use Rattle.wdf_base.specs.declared.event.Event.TheVariants as event
use Rattle.wdf_base.specs.declared.event.Post.{Post}
use Rattle.wdf_base.specs.declared.event.Post.TheVariants as post
use Rattle.wdf_base.specs.declared.ids.Cpu.{Cpu}
use Rattle.wdf_base.specs.declared.ids.Handle.{Handle}
use Rattle.wdf_base.specs.declared.plan.Plan.{Plan}
use Rattle.wdf_base.specs.declared.rank.Rank.TheVariants as rank
use Rattle.wdf_base.specs.declared.value.Status.{Status}
use Rattle.wdf_base.specs.declared.value.Value.{Value}
use Rattle.wdf_base.specs.declared.value.Value.TheVariants.{Num, Obj, Stat}
use Rattle.wdf_model.specs.declared.entries.Sending.{Sending}
use Rattle.wdf_model.specs.declared.entries.SentRequest.{SentRequest}
use Rattle.wdf_model.specs.Plans.{device_of_agent, is_app, target_of_agent}
use Rattle.wdf_model.specs.Tables.{flag, tick_after}
use Rattle.wdf_model.specs.agents.LowerTarget.{LowerTarget, handle_in_arg, send_called, stop_called, target_after, target_called, target_posted, told, told_all, told_any, told_if_any, told_one, with_sent, without_request}
use Rattle.wdf_model.specs.parts.Requests.{place_of}
use Rattle.wdf_model.specs.parts.Targets.{is_at_target, is_undone, is_undone_sending, the_target}
use Rattle.wdf_model.specs.parts.Targets as targets
use Rattle.wdf_model.specs.State.{State, is_proper, object_in}
use Rattle.wdf_model.specs.rules.Deeds.{told as heard}
use Rattle.wdf_base.specs.Values.{arg_is}
use Rattle.wdf_model.specs.rules.Posts.{due_of, may_finish, post_answer, post_fits}
use Rattle.wdf_model.specs.rules.Ready.{IsRunOf, ready, state_after}
use Rattle.wdf_model.specs.rules.Steps.{after, deeds, may}
use Rattle.wdf_model.proofs.Counts.{both_fewer, count_behind, count_cons, count_mapped, count_of_one, filter_less, filter_none, found_at_its_target, one_or_two}
use Rattle.wdf_model.proofs.Runs.{along_run}
use Rattle.wdf_model.proofs.Tests.{both_left, both_right, itself}
use Rattle.wdf_dev.specs.Agents as dev
use Rattle.wdf_dev.specs.Agents.{agent_meaning}
use Rattle.wdf_dev.specs.declared.any.AnyAgent.{AnyAgent}
use Rattle.wdf_dev.specs.declared.any.AnyAgent.TheVariants as agent
use Rattle.wdf_laws.specs.Events.{argument_object}
use Rattle.law_machine_base.specs.OverRuns.{PlacesAgree}
use Rattle.law_machine_base.proofs.Follows.{follows, state_goes_on}
use Rattle.law_machine_base.proofs.LawsOverRuns.{places_agree}
use Rattle.law_machine_deeds.specs.MayDo.{is_done, may_do, posts, starts}
use Rattle.law_machine_deeds.proofs.Walk.{all_pass, event_may}
use Rattle.law_stack.specs.Words.{Passing, sent_now, with_send}
use Rattle.law_stack.proofs.Held.{IsThere, at_one_target, calm_of, sends_of, sent_there, there_next}
use Rattle.law_stack.proofs.Targets.{one_agent}
use Rattle.law_stack.proofs.Undone.{all_calm, done_others, is_calm, undone, waits_at}
use Rattle.law_stuck_causes.proofs.Endings.{at_the_end}
use Rattle.law_at_rest.proofs.Agents.{agents_after, is_inside, told_as}
use Rattle.law_at_rest.proofs.Itself.{IsOfTarget, itself as selves}

-- how often a request is among those that a target has
abbrev pub times : ℕ → List SentRequest → ℕ
times r xs = count_by (λ (s : SentRequest). s.request.id.0 == r) xs

-- ---- what an event leaves of them

told_request : (q r : ℕ) (s : SentRequest) (b : Bool) → (s.request.id.0 == q) ≡ b → ((told_one q s).request.id.0 == r) ≡ (s.request.id.0 == r)
told_request q r s true e = rw e refl
told_request q r s false e = rw e refl

told_times : (q r : ℕ) (xs : List SentRequest) → times r (map (told_one q) xs) ≡ times r xs
told_times q r xs = count_mapped (λ (s : SentRequest). s.request.id.0 == r) (told_one q) (λ s. told_request q r s (s.request.id.0 == q) refl) xs

all_told_times : (r : ℕ) (xs : List SentRequest) → times r (map told_any xs) ≡ times r xs
all_told_times r xs = count_mapped (λ (s : SentRequest). s.request.id.0 == r) told_any (λ s. refl) xs

-- it has no request more often than another
abbrev IsLess : LowerTarget → LowerTarget → Type 0
IsLess u t = (r : ℕ) → times r u.sent ≤ times r t.sent

less_itself : (t : LowerTarget) → IsLess t t
less_itself t r = omega arith

either_less : (b : Bool) (u v t : LowerTarget) → IsLess u t → IsLess v t → IsLess (if b then u else v) t
either_less true u v t h k = h
either_less false u v t h k = k

told_less : (t : LowerTarget) (r : ℕ) → IsLess (told t r) t
told_less t q r = let same = told_times q r t.sent in omega (arith, same)

all_told_less : (t : LowerTarget) → IsLess (told_all t) t
all_told_less t r = let same = all_told_times r t.sent in omega (arith, same)

reached_less : (t : LowerTarget) (answer : Option Handle) → IsLess (told_if_any t answer) t
reached_less t None = less_itself t
reached_less t (Some r) = told_less t r.id.0

without_less : (t : LowerTarget) (q : ℕ) → IsLess (without_request t q) t
without_less t q r = filter_less (λ (s : SentRequest). s.request.id.0 == r) (λ s. not (s.request.id.0 == q)) t.sent

stop_less : (t : LowerTarget) (c : Call) → IsLess (stop_called t c) t
stop_less t c = either_less (object_in c.a == t.target && arg_is c.b 0) (told_all t) t t (all_told_less t) (less_itself t)

gone_by : (q : ℕ) (s : SentRequest) (b : Bool) → (s.request.id.0 == q) ≡ b → not (s.request.id.0 == q) ≡ true → (s.request.id.0 == q) ≡ false
gone_by q s true e h = absurd (let no : not (s.request.id.0 == q) ≡ false = ap not e in let z : ⊥ = cc in z)
gone_by q s false e h = e

-- a request that is taken out isn't there any more
it_goes : (t : LowerTarget) (q : ℕ) → times q (without_request t q).sent ≡ 0
it_goes t q = filter_none (λ (s : SentRequest). s.request.id.0 == q) (λ s. not (s.request.id.0 == q)) (λ s h. gone_by q s (s.request.id.0 == q) refl h) t.sent

-- ---- its target stays

either_same : (b : Bool) (u v : LowerTarget) (n : ℕ) → u.target ≡ n → v.target ≡ n → (if b then u else v).target ≡ n
either_same true u v n h k = h
either_same false u v n h k = k

sent_same : (t : LowerTarget) (o : Option Handle) → (with_sent t o).target ≡ t.target
sent_same t None = refl
sent_same t (Some r) = either_same (nat_lt (length t.sent) t.depth) _ t t.target refl refl

called_same : (t : LowerTarget) (kind : CallKind) (n : ℕ) (a b c : Arg) (v : Value) → (target_called t (record { kind = kind; count = n; a = a; b = b; c = c }) v).target ≡ t.target
called_same t call.WdfRequestSend n a b c v = either_same (object_in b == t.target && same_value v (Num 1)) (with_sent t (handle_in_arg a)) t t.target (sent_same t (handle_in_arg a)) refl
called_same t call.WdfRequestCancelSentRequest n a b c v = either_same (same_value v (Num 1)) (told t (object_in a)) t t.target refl refl
called_same t call.WdfIoTargetStop n a b c v = either_same (object_in a == t.target && arg_is b 0) (told_all t) t t.target refl refl
called_same t _ n a b c v = refl

waits_same : (t : LowerTarget) (cpu : Cpu) (kind : CallKind) (n : ℕ) (a b c : Arg) → (target_after t (event.Waiting cpu (record { kind = kind; count = n; a = a; b = b; c = c }))).target ≡ t.target
waits_same t cpu call.WdfIoTargetStop n a b c = either_same (object_in a == t.target && arg_is b 0) (told_all t) t t.target refl refl
waits_same t cpu _ n a b c = refl

reached_same : (t : LowerTarget) (answer : Option Handle) → (told_if_any t answer).target ≡ t.target
reached_same t None = refl
reached_same t (Some r) = refl

posted_same : (t : LowerTarget) (by : ℕ) (p : Post) (answer : Option Handle) → (target_posted t by p answer).target ≡ t.target
posted_same t by (post.Done r s) answer = either_same (by == t.agent) (without_request t r.id.0) t t.target refl refl
posted_same t by (post.Cancel j) answer = reached_same t answer
posted_same t by (post.Read d n) answer = refl
posted_same t by (post.Write d n) answer = refl
posted_same t by (post.Control d c n) answer = refl
posted_same t by (post.Ask a d) answer = refl
posted_same t by (post.Act a) answer = refl

same_target : (t : LowerTarget) (e : Event) → (target_after t e).target ≡ t.target
same_target t (event.Did cpu c v) = called_same t c.kind c.count c.a c.b c.c v
same_target t (event.Waiting cpu c) = waits_same t cpu c.kind c.count c.a c.b c.c
same_target t (event.Posted by p answer) = posted_same t by p answer
same_target t _ = refl

-- ---- the same as Sends

abbrev as_sends : List SentRequest → List Passing
as_sends xs = map (λ (s : SentRequest). sent_now s.request.id.0) xs

as_many : (r : ℕ) (xs : List SentRequest) → sends_of r (as_sends xs) ≡ times r xs
as_many r [] = refl
as_many r (s ∷ xs) =
    let a = count_cons (λ (p : Passing). p.request == r) (sent_now s.request.id.0) (map (λ (x : SentRequest). sent_now x.request.id.0) xs) in
    let b = count_cons (λ (x : SentRequest). x.request.id.0 == r) s xs in
    let rest = as_many r xs in
    omega (arith, a, b, rest)

-- one that is sent is one Send more, where there is room for it
with_arg : (t : LowerTarget) (a : Arg) (r : ℕ) → times r (with_sent t (handle_in_arg a)).sent ≤ sends_of r (with_send (argument_object a) (as_sends t.sent))
with_arg t (Val (Obj h)) r = with_room (nat_lt (length t.sent) t.depth) refl
  where
    with_room : (b : Bool) → nat_lt (length t.sent) t.depth ≡ b → times r (with_sent t (Some h)).sent ≤ sends_of r (with_send (Some h.id.0) (as_sends t.sent))
    with_room true e =
        let new : SentRequest = record { request = h; tick = tick_after t.clock t.delay; told = false } in
        let a = count_behind (λ (s : SentRequest). s.request.id.0 == r) t.sent (new ∷ []) in
        let one = count_of_one (λ (s : SentRequest). s.request.id.0 == r) new in
        let b = count_behind (λ (p : Passing). p.request == r) (as_sends t.sent) (sent_now h.id.0 ∷ []) in
        let other = count_of_one (λ (p : Passing). p.request == r) (sent_now h.id.0) in
        let same = as_many r t.sent in
        rw e (omega (arith, a, one, b, other, same))
    with_room false e =
        let b = count_behind (λ (p : Passing). p.request == r) (as_sends t.sent) (sent_now h.id.0 ∷ []) in
        let same = as_many r t.sent in
        rw e (omega (arith, b, same))
with_arg t (Val (Num n)) r = let same = as_many r t.sent in omega (arith, same)
with_arg t (Val (Stat s)) r = let same = as_many r t.sent in omega (arith, same)
with_arg t (Class c) r = let same = as_many r t.sent in omega (arith, same)

send_as : (t : LowerTarget) (c : Call) (v : Value) (b : Bool) → (object_in c.b == t.target && same_value v (Num 1)) ≡ b → (r : ℕ)
    → times r (send_called t c v).sent ≤ sends_of r (if object_in c.b == t.target && same_value v (Num 1) then with_send (argument_object c.a) (as_sends t.sent) else as_sends t.sent)
send_as t c v true e r = rw e (with_arg t c.a r)
send_as t c v false e r = let same = as_many r t.sent in rw e (omega (arith, same))

-- ---- one event more

finishes : {A : Type 0} (plan : Plan) (S : State A) (o : Option ℕ) (q : Handle) → may_finish plan S o q ≡ true → (u : ℕ) × (o ≡ Some u) × (is_sent_to u (place_of S.requests q.id.0) ≡ true)
finishes plan S None q h = absurd (let z : ⊥ = cc in z)
finishes plan S (Some u) q h =
    (u, refl, both_right (is_proper plan S q) (is_sent_to u (place_of S.requests q.id.0)) (both_left (is_proper plan S q && is_sent_to u (place_of S.requests q.id.0)) (is_undone S.targets q.id.0) h))

module _ {A : Type 0} (plan : Plan) (m : Meaning A) (S : State A) (k : ℕ) (t : LowerTarget) (own : IsOfTarget plan k t) (places : PlacesAgree S) (has : (r : ℕ) → times r t.sent ≤ undone S.targets t.target r) where
  -- what a target has is at it after an event
  abbrev IsAfter : Event → LowerTarget → Type 0
  IsAfter e u = (r : ℕ) → times r u.sent ≤ undone (after plan m S e).targets t.target r

  -- an event that ends no sending and takes none back
  calm : (e : Event) (u : LowerTarget) → posts is_done e ≡ false → starts rank.Completion e ≡ false → IsLess u t → IsAfter e u
  calm e u no_done no_start less r =
      let kept = all_calm plan (deeds plan S e) S t.target r (all_pass (may_do e) is_calm (calm_of e no_done no_start) (deeds plan S e) (event_may plan S e)) in
      let fewer = less r in
      let before = has r in
      omega (arith, kept, fewer, before)

  as_there : IsThere S.targets t.target (as_sends t.sent)
  as_there r = let same = as_many r t.sent in let before = has r in omega (arith, same, before)

  starts_one : (cpu : Cpu) (c : Callback) (o : Handle) (q : Option Handle) → may plan m S (event.Start cpu c o q) ≡ true → IsAfter (event.Start cpu c o q) t
  starts_one cpu c o q comes r =
      let there = there_next plan m S t.target places k (event.Start cpu c o q) (as_sends t.sent) comes as_there r in
      let same = as_many r t.sent in
      omega (arith, there, same)

  calls_one : (cpu : Cpu) (kind : CallKind) (n : ℕ) (a b c : Arg) (v : Value) → may plan m S (event.Did cpu (record { kind = kind; count = n; a = a; b = b; c = c }) v) ≡ true
      → IsAfter (event.Did cpu (record { kind = kind; count = n; a = a; b = b; c = c }) v) (target_called t (record { kind = kind; count = n; a = a; b = b; c = c }) v)
  calls_one cpu call.WdfRequestSend n a b c v comes r =
      let made : Call = record { kind = call.WdfRequestSend; count = n; a = a; b = b; c = c } in
      let there = there_next plan m S t.target places k (event.Did cpu made v) (as_sends t.sent) comes as_there r in
      let fewer = send_as t made v (object_in b == t.target && same_value v (Num 1)) refl r in
      omega (arith, there, fewer)
  calls_one cpu call.WdfRequestCancelSentRequest n a b c v comes r =
      calm (event.Did cpu (record { kind = call.WdfRequestCancelSentRequest; count = n; a = a; b = b; c = c }) v) (if same_value v (Num 1) then told t (object_in a) else t) refl refl
      (either_less (same_value v (Num 1)) (told t (object_in a)) t t (told_less t (object_in a)) (less_itself t)) r
  calls_one cpu call.WdfIoTargetStop n a b c v comes r =
      calm (event.Did cpu (record { kind = call.WdfIoTargetStop; count = n; a = a; b = b; c = c }) v) (stop_called t (record { kind = call.WdfIoTargetStop; count = n; a = a; b = b; c = c })) refl refl
      (stop_less t (record { kind = call.WdfIoTargetStop; count = n; a = a; b = b; c = c })) r
  calls_one cpu kind n a b c v comes r = calm (event.Did cpu (record { kind = kind; count = n; a = a; b = b; c = c }) v) t refl refl (less_itself t) r

  waits_one : (cpu : Cpu) (kind : CallKind) (n : ℕ) (a b c : Arg) → IsAfter (event.Waiting cpu (record { kind = kind; count = n; a = a; b = b; c = c })) (target_after t (event.Waiting cpu (record { kind = kind; count = n; a = a; b = b; c = c })))
  waits_one cpu call.WdfIoTargetStop n a b c =
      calm (event.Waiting cpu (record { kind = call.WdfIoTargetStop; count = n; a = a; b = b; c = c })) (stop_called t (record { kind = call.WdfIoTargetStop; count = n; a = a; b = b; c = c })) refl refl
      (stop_less t (record { kind = call.WdfIoTargetStop; count = n; a = a; b = b; c = c }))
  waits_one cpu kind n a b c = calm (event.Waiting cpu (record { kind = kind; count = n; a = a; b = b; c = c })) t refl refl (less_itself t)

  -- a target is done with a request that this one has only by this agent
  none_by_others : (by : ℕ) (q : Handle) → may_finish plan S (target_of_agent plan by) q ≡ true → (by == t.agent) ≡ false → times q.id.0 t.sent ≡ 0
  none_by_others by q fits other = zero_by (times q.id.0 t.sent) refl
    where
      zero_by : (n : ℕ) → times q.id.0 t.sent ≡ n → times q.id.0 t.sent ≡ 0
      zero_by zero e = e
      zero_by (suc n) e =
          let it = finishes plan S (target_of_agent plan by) q fits in
          let before = has q.id.0 in
          let here : is_sent_to t.target (place_of S.requests q.id.0) ≡ true = sent_there S t.target places q.id.0 (omega (arith, e, before)) in
          absurd (elim (one_or_two it.0 t.target) [
            | inr apart ↦ let no = at_one_target (place_of S.requests q.id.0) t.target it.0 here apart in let yes = it.2 in let z : ⊥ = cc in z
            | inl same ↦
                let agents : by ≡ k = one_agent plan by k t.target (it.1 ∙ ap Some same) own.target in
                let yes : (by == t.agent) ≡ true = rw (agents, own.number) (itself k) in
                let z : ⊥ = cc in z
          ])

  done_by : (by : ℕ) (q : Handle) (s : Status) (answer : Option Handle) → may_finish plan S (target_of_agent plan by) q ≡ true → (b : Bool) → (by == t.agent) ≡ b → (r : ℕ) → (r ≡ q.id.0) ⊎ (r ≢ q.id.0)
      → times r (target_posted t by (post.Done q s) answer).sent ≤ undone (targets.done S.targets q.id.0 s) t.target r
  done_by by q s answer fits true e r (inl same) = rw (e, same) (let gone = it_goes t q.id.0 in omega (arith, gone))
  done_by by q s answer fits false e r (inl same) = rw (e, same) (let none = none_by_others by q fits e in omega (arith, none))
  done_by by q s answer fits true e r (inr other) =
      let kept = done_others S.targets q.id.0 r t.target s other in
      let fewer = without_less t q.id.0 r in
      let before = has r in
      rw e (omega (arith, kept, fewer, before))
  done_by by q s answer fits false e r (inr other) =
      let kept = done_others S.targets q.id.0 r t.target s other in
      let before = has r in
      rw e (omega (arith, kept, before))

  posts_one : (by : ℕ) (p : Post) (answer : Option Handle) → post_fits plan S by p ≡ true → IsAfter (event.Posted by p answer) (target_posted t by p answer)
  posts_one by (post.Done q s) answer fits r = done_by by q s answer fits (by == t.agent) refl r (one_or_two r q.id.0)
  posts_one by (post.Cancel j) answer fits r = calm (event.Posted by (post.Cancel j) answer) (told_if_any t answer) refl refl (reached_less t answer) r
  posts_one by (post.Read d n) answer fits r = calm (event.Posted by (post.Read d n) answer) t refl refl (less_itself t) r
  posts_one by (post.Write d n) answer fits r = calm (event.Posted by (post.Write d n) answer) t refl refl (less_itself t) r
  posts_one by (post.Control d c n) answer fits r = calm (event.Posted by (post.Control d c n) answer) t refl refl (less_itself t) r
  posts_one by (post.Ask a d) answer fits r = calm (event.Posted by (post.Ask a d) answer) t refl refl (less_itself t) r
  posts_one by (post.Act a) answer fits r = calm (event.Posted by (post.Act a) answer) t refl refl (less_itself t) r

  fits_by : (by : ℕ) (p : Post) (answer : Option Handle) → may plan m S (event.Posted by p answer) ≡ true → post_fits plan S by p ≡ true
  fits_by by p answer comes =
      both_right (same_option same_post (due_of m S by) (Some p)) (post_fits plan S by p)
      (both_left (same_option same_post (due_of m S by) (Some p) && post_fits plan S by p) (same_option same_handle (post_answer plan S by p) answer) comes)

  after_may : (e : Event) → may plan m S e ≡ true → IsAfter e (target_after t e)
  after_may (event.Did cpu c v) comes = calls_one cpu c.kind c.count c.a c.b c.c v comes
  after_may (event.Waiting cpu c) comes = waits_one cpu c.kind c.count c.a c.b c.c
  after_may (event.Posted by p answer) comes = posts_one by p answer (fits_by by p answer comes)
  after_may (event.Start cpu c o q) comes = starts_one cpu c o q comes
  after_may (event.Tick time) comes = absurd (let z : ⊥ = cc in z)
  after_may e comes = calm e t refl refl (less_itself t)

  after_tick : (time : ℕ) → IsAfter (event.Tick time) (target_after t (event.Tick time))
  after_tick time = calm (event.Tick time) (record t { clock = time }) refl refl (less_itself t)

-- ---- along a run

target_inside : (t : LowerTarget) (e : Event) → is_inside e ≡ true → target_after t e ≡ t
target_inside t (event.Local cpu line) h = refl
target_inside t (event.Log cpu v) h = refl
target_inside t _ h = absurd (let z : ⊥ = cc in z)

-- a target after an event was one before it
pub record WasTarget (e : Event) (xs : List AnyAgent) (k : ℕ) (u : LowerTarget) : Type 0 where
  pub before : LowerTarget
  pub there : slice_get xs k ≡ Some (agent.LowerTarget before)
  pub same : target_after before e ≡ u

of_kind : (e : Event) (xs : List AnyAgent) (k : ℕ) (u : LowerTarget) (a : AnyAgent) → slice_get xs k ≡ Some a → dev.agent_after a e ≡ agent.LowerTarget u → WasTarget e xs k u
of_kind e xs k u (agent.LowerTarget t) at h = record { before = t; there = at; same = let same : target_after t e ≡ u = cc in same }
of_kind e xs k u (agent.PnpManager p) at h = absurd (let z : ⊥ = cc in z)
of_kind e xs k u (agent.App p) at h = absurd (let z : ⊥ = cc in z)
of_kind e xs k u (agent.Device d) at h = absurd (let z : ⊥ = cc in z)

heard_by : (e : Event) (xs : List AnyAgent) (k : ℕ) (u : LowerTarget) (o : Option AnyAgent) → slice_get xs k ≡ o → option_map (λ a. dev.agent_after a e) o ≡ Some (agent.LowerTarget u) → WasTarget e xs k u
heard_by e xs k u None at h = absurd (let z : ⊥ = cc in z)
heard_by e xs k u (Some a) at h = of_kind e xs k u a at (same_Some (dev.agent_after a e) (agent.LowerTarget u) h)

pub was_target : (e : Event) (xs : List AnyAgent) (k : ℕ) (u : LowerTarget) → slice_get (heard agent_meaning e xs) k ≡ Some (agent.LowerTarget u) → WasTarget e xs k u
was_target e xs k u =
    told_as agent_meaning (λ ys. slice_get ys k ≡ Some (agent.LowerTarget u) → WasTarget e xs k u) e xs
    (λ inside at. record { before = u; there = at; same = target_inside u e inside })
    (λ at. heard_by e xs k u (slice_get xs k) refl (sym (slice_get-map (λ a. dev.agent_after a e) xs k) ∙ at))

-- what each target has is at it
abbrev pub AreThere : State AnyAgent → Type 0
AreThere S = (k : ℕ) (t : LowerTarget) → slice_get S.agents k ≡ Some (agent.LowerTarget t) → (r : ℕ) → times r t.sent ≤ undone S.targets t.target r

-- a target that has nothing
abbrev IsFresh : AnyAgent → Type 0
IsFresh (agent.LowerTarget t) = t.sent ≡ []
IsFresh _ = Unit {0}

either_fresh : (b : Bool) (x y : AnyAgent) → IsFresh x → IsFresh y → IsFresh (if b then x else y)
either_fresh true x y h k = h
either_fresh false x y h k = k

module _ (plan : Plan) where
  last_fresh : (k : ℕ) (d t : Option ℕ) → IsFresh (dev.device_or_target plan k d t)
  last_fresh k (Some d) t = tt
  last_fresh k None (Some t) = refl
  last_fresh k None None = tt

  begin_fresh : (k : ℕ) → IsFresh (dev.agent_at plan k)
  begin_fresh k = either_fresh (k == 0) _ _ tt (either_fresh (is_app plan k) _ _ tt (last_fresh k (device_of_agent plan k) (target_of_agent plan k)))

  pub all_fresh : (n count k : ℕ) (a : AnyAgent) → slice_get (map (dev.agent_at plan) (range_with_len n count)) k ≡ Some a → IsFresh a
  all_fresh n zero k a at = absurd (let z : ⊥ = cc in z)
  all_fresh n (suc count) zero a at = subst IsFresh (same_Some (dev.agent_at plan n) a at) (begin_fresh n)
  all_fresh n (suc count) (suc k) a at = all_fresh (n + 1) count k a at

module _ (plan : Plan) (resolved : IsResolved plan) where
  abbrev At : List Event → Type 0
  At run = AreThere (state_after plan agent_meaning run)

  opens : At []
  unfolding state_after
  opens k t at r =
      let none : t.sent ≡ [] = all_fresh plan 0 _ k (agent.LowerTarget t) at in
      rw none (omega arith)

  -- the state before an event, with all that is known of it
  still : (S : State AnyAgent) (e : Event) → ((k : ℕ) (t : LowerTarget) → slice_get S.agents k ≡ Some (agent.LowerTarget t) → (r : ℕ) → times r (target_after t e).sent ≤ undone (after plan agent_meaning S e).targets t.target r)
      → ((k : ℕ) (t : LowerTarget) → slice_get S.agents k ≡ Some (agent.LowerTarget t) → IsOfTarget plan k t) → AreThere (after plan agent_meaning S e)
  still S e has own k u at r =
      let was = was_target e S.agents k u (subst (λ xs. slice_get xs k ≡ Some (agent.LowerTarget u)) (agents_after plan agent_meaning S e) at) in
      let target : u.target ≡ was.before.target = ap (λ (x : LowerTarget). x.target) (sym was.same) ∙ same_target was.before e in
      let here : times r (target_after was.before e).sent ≤ undone (after plan agent_meaning S e).targets was.before.target r = has k was.before was.there r in
      subst (λ n. times r u.sent ≤ undone (after plan agent_meaning S e).targets n r) (sym target) (subst (λ (x : LowerTarget). times r x.sent ≤ undone (after plan agent_meaning S e).targets was.before.target r) was.same here)

  goes_on : (run : List Event) (e : Event) (place : ℕ) → IsRunOf plan agent_meaning run → At run → slice_get (ready plan agent_meaning run) place ≡ Some e → At (run ++ e ∷ [])
  goes_on run e place is_run there here =
      let S = state_after plan agent_meaning run in
      let places = at_the_end plan agent_meaning (λ (T : State AnyAgent). PlacesAgree T) run (places_agree plan agent_meaning run is_run) in
      let own = λ (k : ℕ) (t : LowerTarget) (at : slice_get S.agents k ≡ Some (agent.LowerTarget t)). selves plan resolved run is_run k (agent.LowerTarget t) at in
      let next : AreThere (after plan agent_meaning S e) = elim (follows plan agent_meaning run place e here) [
        | inl comes ↦ still S e (λ k t at. after_may plan agent_meaning S k t (own k t at) places (there k t at) e comes) own
        | inr time ↦
            subst (λ x. AreThere (after plan agent_meaning S x)) (sym time.tick)
            (still S (event.Tick (S.clock + 1)) (λ k t at. after_tick plan agent_meaning S k t (own k t at) places (there k t at) (S.clock + 1)) own)
      ] in
      subst (λ (T : State AnyAgent). AreThere T) (sym (state_goes_on plan agent_meaning run e)) next

  -- at the end of a run
  pub are_there : (run : List Event) → IsRunOf plan agent_meaning run → AreThere (state_after plan agent_meaning run)
  are_there run is_run =
      at_the_end plan agent_meaning (λ (T : State AnyAgent). AreThere T) run (along_run At (ready plan agent_meaning) run opens (λ before e place before_run at here. goes_on before e place before_run at here) is_run)

-- ---- what is at a target that isn't done with it

found_by : (r : ℕ) (s : Sending) (xs : List Sending) (b : Bool) → (s.request.0 == r) ≡ b → count_by (λ s. s.request.0 == r) (s ∷ xs) ≤ 1 → 1 ≤ count_by (waits_at r) (s ∷ xs)
    → (count_by (λ s. s.request.0 == r) xs ≤ 1 → 1 ≤ count_by (waits_at r) xs → is_undone_sending (find (λ s. s.request.0 == r) xs) ≡ true) → is_undone_sending (find (λ s. s.request.0 == r) (s ∷ xs)) ≡ true
found_by r s xs true e once waits rest = rw e (by_outcome (is_at_target s.outcome) refl)
  where
    by_outcome : (c : Bool) → is_at_target s.outcome ≡ c → is_at_target s.outcome ≡ true
    by_outcome true h = h
    by_outcome false h =
        absurd
        (let a = count_cons (waits_at r) s xs in let b = count_cons (λ (s : Sending). s.request.0 == r) s xs in
        let f : flag (s.request.0 == r) ≡ 1 = ap flag e in let g : flag (waits_at r s) ≡ 0 = ap flag (ap (λ c. c && is_at_target s.outcome) e ∙ h) in
        let less = both_fewer (λ (s : Sending). s.request.0 == r) (λ s. is_at_target s.outcome) xs in omega (arith, a, b, f, g, less, once, waits))
found_by r s xs false e once waits rest =
    let a = count_cons (waits_at r) s xs in let b = count_cons (λ (s : Sending). s.request.0 == r) s xs in
    let f : flag (s.request.0 == r) ≡ 0 = ap flag e in let g : flag (waits_at r s) ≡ 0 = ap flag (ap (λ c. c && is_at_target s.outcome) e) in
    rw e (rest (omega (arith, b, f, once)) (omega (arith, a, g, waits)))

found_undone : (r : ℕ) (xs : List Sending) → count_by (λ s. s.request.0 == r) xs ≤ 1 → 1 ≤ count_by (waits_at r) xs → is_undone_sending (find (λ s. s.request.0 == r) xs) ≡ true
found_undone r [] once waits = absurd (omega (arith, waits))
found_undone r (s ∷ xs) once waits = found_by r s xs (s.request.0 == r) refl once waits (found_undone r xs)

-- a request that waits at a target is undone
pub waits_undone : {A : Type 0} (S : State A) (t r : ℕ) → PlacesAgree S → 1 ≤ undone S.targets t r → is_undone S.targets r ≡ true
waits_undone S t r places h =
    let is = sent_there S t places r h in
    let count = places.sent t r in
    let one : flag (is_sent_to t (place_of S.requests r)) ≡ 1 = ap flag is in
    let found = found_at_its_target r S.targets.targets t (λ u n. places.sent u r ∙ ap flag (at_one_target (place_of S.requests r) t u is n)) in
    ap is_undone_sending found ∙ found_undone r (the_target S.targets t).sent (omega (arith, count, one)) h
