-- At each place of a run, each connector is what the events say of it.
use Rattle.std.proofs.Common.{if◌then◌else◌, ◌≡◌, ℕ, zero, suc, ◌+◌, ◌-◌, ◌==◌, nat_le, nat_lt, Bool, true, false, not, ◌&&◌, List, [], ◌∷◌, ◌++◌, inl, inr, length, count_by, Option, Some, None, refl, sym, ap, subst, ◌∙◌, arith}
use Rattle.std.proofs.lemmas.Bool.{eqb-true, lt-ltb, ltb-true}
use Rattle.wdf_base.specs.Meaning.{Meaning}
use Rattle.wdf_base.specs.declared.plan.Plan.{Plan}
use Rattle.wdf_base.specs.declared.ids.Cpu.{Cpu}
use Rattle.wdf_base.specs.declared.ids.Handle.{Handle}
use Rattle.wdf_base.specs.declared.value.Value.{Value}
use Rattle.wdf_base.specs.declared.value.Value.TheVariants.{Num}
use Rattle.wdf_base.specs.declared.value.Status.{Status}
use Rattle.wdf_base.specs.declared.call.Arg.{Arg}
use Rattle.wdf_base.specs.declared.call.Arg.TheVariants.{Class, Val}
use Rattle.wdf_base.specs.declared.value.Value.TheVariants.{Obj, Stat}
use Rattle.wdf_base.specs.declared.call.CallKind.{CallKind}
use Rattle.wdf_base.specs.declared.call.CallKind.TheVariants as call
use Rattle.wdf_base.specs.declared.event.Post.{Post}
use Rattle.wdf_base.specs.declared.event.Post.TheVariants as post
use Rattle.wdf_base.specs.declared.event.Event.{Event}
use Rattle.wdf_base.specs.declared.event.Event.TheVariants as event
use Rattle.wdf_base.specs.Places.{is_sent_to}
use Rattle.wdf_base.specs.Same.{same_option, same_post, same_value}
use Rattle.wdf_base.specs.Posts.{is_request}
use Rattle.wdf_model.specs.Tables.{flag}
use Rattle.wdf_model.specs.Plans.{first_device_agent, target_of_agent}
use Rattle.wdf_model.specs.parts.Requests.{place_of}
use Rattle.wdf_model.specs.parts.Targets.{is_at_target, is_undone, pending, the_target}
use Rattle.wdf_model.specs.State.{State, is_proper, object_in}
use Rattle.wdf_model.specs.rules.Posts.{ARRIVALS, due_of, may_finish, post_fits}
use Rattle.wdf_base.specs.Values.{arg_is}
use Rattle.wdf_model.specs.rules.Steps.{after, deeds, may}
use Rattle.wdf_model.specs.agents.Connector.{Connector, arrival_own, arrival_posted, arrival_taken, cancelled_if_any, completed_by, connector_after, connector_called, connector_posted, keep_arrival, request_lines, with_sent}
use Rattle.wdf_model.specs.agents.LowerTarget.{handle_in_arg}
use Rattle.wdf_model.specs.agents.StackAgent as stack
use Rattle.wdf_model.specs.agents.StackAgent.{StackAgent}
use Rattle.wdf_model.proofs.Counts.{count_behind, count_cons, equal, one_or_two}
use Rattle.wdf_model.proofs.Tests.{both_left, both_right}
use Rattle.law_machine_base.specs.OverRuns.{PlacesAgree}
use Rattle.law_stack.specs.Words.{Passing, connector_of, is_connector_arrival, passing_step, passings}
use Rattle.law_stack.proofs.Alike.{alike_long}
use Rattle.law_stack.proofs.Counting.{no_longer}
use Rattle.law_stack.proofs.Held.{IsThere, at_one_target, sends_of, sent_there, takes, there_next, there_ticks}
use Rattle.law_stack.proofs.Steps.{Agrees, complete_agrees, did_agrees, passings_next, post_agrees, quiet_agrees, stays_after, waiting_agrees}
use Rattle.law_stack.proofs.Targets.{its_target, one_agent}
use Rattle.law_stack.proofs.Undone.{depths_stay}

-- ---- the room for arrivals

-- an arrival that takes room
abbrev takes_room : ℕ → Event → Bool
takes_room first (event.Posted by p answer) = is_request p && nat_le first by
takes_room first _ = false

same_room : (b : Bool) (c d e : Connector) → d.room ≡ c.room → e.room ≡ c.room → (if b then d else e).room ≡ c.room
same_room true c d e x y = x
same_room false c d e x y = y

kept_room : (c : Connector) (p : Post) (answer : Option Handle) → (keep_arrival c p answer).room ≡ c.room
kept_room c p None = refl
kept_room c p (Some r) = same_room (nat_lt (length c.arrivals) ARRIVALS) c _ c refl refl

same_first : (b : Bool) (c d e : Connector) → d.first ≡ c.first → e.first ≡ c.first → (if b then d else e).first ≡ c.first
same_first true c d e x y = x
same_first false c d e x y = y

kept_first : (c : Connector) (p : Post) (answer : Option Handle) → (keep_arrival c p answer).first ≡ c.first
kept_first c p None = refl
kept_first c p (Some r) = same_first (nat_lt (length c.arrivals) ARRIVALS) c _ c refl refl

taken_room : (c : Connector) (by : ℕ) (b : Bool) → nat_le c.first by ≡ b → (arrival_taken c by).room ≡ c.room - flag b
taken_room c by true e = rw e refl
taken_room c by false e = rw e (omega arith)

own_room : (c : Connector) (by : ℕ) (answer : Option Handle) → (arrival_own c by answer).room ≡ c.room
own_room c by answer = same_room (by == c.agent) c _ c refl refl

arrival_room : (c : Connector) (by : ℕ) (p : Post) (answer : Option Handle) → (arrival_posted c by p answer).room ≡ c.room - flag (nat_le c.first by)
arrival_room c by p answer =
    own_room (arrival_taken (keep_arrival c p answer) by) by answer
    ∙ taken_room (keep_arrival c p answer) by (nat_le (keep_arrival c p answer).first by) refl
    ∙ ap (λ n. n - flag (nat_le (keep_arrival c p answer).first by)) (kept_room c p answer)
    ∙ ap (λ n. c.room - flag (nat_le n by)) (kept_first c p answer)

reached_room : (c : Connector) (answer : Option Handle) → (cancelled_if_any c answer).room ≡ c.room
reached_room c None = refl
reached_room c (Some r) = refl

sent_room : (c : Connector) (o : Option Handle) → (with_sent c o).room ≡ c.room
sent_room c None = refl
sent_room c (Some r) = same_room (nat_lt (length c.sent) c.depth) c _ c refl refl

completed_room : (c : Connector) (x : ℕ) (a : Arg) → (completed_by c x a).room ≡ c.room
completed_room c x (Val (Stat s)) = refl
completed_room c x (Val (Num n)) = refl
completed_room c x (Val (Obj o)) = refl
completed_room c x (Class k) = refl

call_room : (c : Connector) (kind : CallKind) (n : ℕ) (a b x : Arg) (answer : Value) → (connector_called c (record { kind = kind; count = n; a = a; b = b; c = x }) answer).room ≡ c.room
call_room c call.WdfRequestSend n a b x answer = same_room (object_in b == c.target && same_value answer (Num 1)) c _ c (sent_room c (handle_in_arg a)) refl
call_room c call.WdfRequestCancelSentRequest n a b x answer = same_room (same_value answer (Num 1)) c _ c refl refl
call_room c call.WdfIoTargetStop n a b x answer = same_room (object_in a == c.target && arg_is b 0) c _ c refl refl
call_room c call.WdfRequestComplete n a b x answer = completed_room c (object_in a) b
call_room c _ n a b x answer = refl

wait_room : (c : Connector) (cpu : Cpu) (kind : CallKind) (n : ℕ) (a b x : Arg) → (connector_after c (event.Waiting cpu (record { kind = kind; count = n; a = a; b = b; c = x }))).room ≡ c.room
wait_room c cpu call.WdfIoTargetStop n a b x = same_room (object_in a == c.target && arg_is b 0) c _ c refl refl
wait_room c cpu _ n a b x = refl

no_less : (n : ℕ) → n ≡ n - 0
no_less n = omega arith

post_room : (c : Connector) (by : ℕ) (p : Post) (answer : Option Handle) → (connector_posted c by p answer).room ≡ c.room - flag (is_request p && nat_le c.first by)
post_room c by (post.Read d n) answer = arrival_room c by (post.Read d n) answer
post_room c by (post.Write d n) answer = arrival_room c by (post.Write d n) answer
post_room c by (post.Control d x n) answer = arrival_room c by (post.Control d x n) answer
post_room c by (post.Cancel k) answer = same_room (by == c.agent) c _ _ (reached_room c answer) (reached_room c answer) ∙ no_less c.room
post_room c by (post.Done r s) answer = same_room (by == c.agent) c _ c refl refl ∙ no_less c.room
post_room c by (post.Ask a d) answer = no_less c.room
post_room c by (post.Act a) answer = no_less c.room

room_next : (c : Connector) (e : Event) → (connector_after c e).room ≡ c.room - flag (takes_room c.first e)
room_next c (event.Did cpu k answer) = call_room c k.kind k.count k.a k.b k.c answer ∙ no_less c.room
room_next c (event.Waiting cpu k) = wait_room c cpu k.kind k.count k.a k.b k.c ∙ no_less c.room
room_next c (event.Posted by p answer) = post_room c by p answer
room_next c (event.Complete r s) = no_less c.room
room_next c _ = no_less c.room

counted_room : (plan : Plan) (first : ℕ) (e : Event) → first ≡ first_device_agent plan → takes_room first e ≡ is_connector_arrival plan e
counted_room plan first (event.Posted by p answer) same = ap (λ n. is_request p && nat_le n by) same
counted_room plan first (event.Start cpu c o r) same = refl
counted_room plan first (event.Local cpu line) same = refl
counted_room plan first (event.Log cpu v) same = refl
counted_room plan first (event.Spend cpu n) same = refl
counted_room plan first (event.Register cpu a k v) same = refl
counted_room plan first (event.Did cpu c v) same = refl
counted_room plan first (event.Waiting cpu c) same = refl
counted_room plan first (event.Woke cpu c v) same = refl
counted_room plan first (event.Park cpu f) same = refl
counted_room plan first (event.Unpark cpu f) same = refl
counted_room plan first (event.End cpu c o v) same = refl
counted_room plan first (event.Fault cpu x line) same = refl
counted_room plan first (event.Stage d s i) same = refl
counted_room plan first (event.Complete r s) same = refl
counted_room plan first (event.Cleanup o) same = refl
counted_room plan first (event.Destroy o) same = refl
counted_room plan first (event.Tick time) same = refl

-- ---- a connector as the events say

pub record IsKept {A : Type 0} (plan : Plan) (es : List Event) (S : State A) (k : ℕ) (c : Connector) : Type 0 where
  pub agent : c.agent ≡ k
  pub is : connector_of plan k ≡ Some c.target
  pub first : c.first ≡ first_device_agent plan
  pub depth : c.depth ≡ (the_target S.targets c.target).depth
  pub agrees : Agrees es c (passings c.target k es)
  pub there : IsThere S.targets c.target (passings c.target k es)
  pub room : c.room ≡ ARRIVALS - (request_lines plan + count_by (is_connector_arrival plan) es)

-- every agent is kept
abbrev pub AgentKept : {A : Type 0} → Plan → List Event → State A → ℕ → StackAgent → Type 0
AgentKept plan es S k (stack.Connector c) = IsKept plan es S k c
AgentKept plan es S k _ = connector_of plan k ≡ None

module _ {A : Type 0} (plan : Plan) (m : Meaning A) (es : List Event) (S : State A) (places : PlacesAgree S) (k : ℕ) (c : Connector) (h : IsKept plan es S k c) where
  abbrev ps : List Passing
  ps = passings c.target k es

  -- a Send that goes finds room
  finds_room : (n : ℕ) (a b x : Arg) (cpu : Cpu) (answer : Value) → may plan m S (event.Did cpu (record { kind = call.WdfRequestSend; count = n; a = a; b = b; c = x }) answer) ≡ true
      → (object_in b == c.target && same_value answer (Num 1)) ≡ true → nat_lt (length c.sent) c.depth ≡ true
  finds_room n a b x cpu answer may_ is =
      let at : object_in b ≡ c.target = eqb-true (object_in b) c.target (both_left (object_in b == c.target) (same_value answer (Num 1)) is) in
      let more = takes plan m S c.target cpu n a b x answer may_ (both_right (object_in b == c.target) (same_value answer (Num 1)) is) in
      let fewer : nat_lt (pending S.targets c.target) (the_target S.targets c.target).depth ≡ true = subst (λ t. nat_lt (pending S.targets t) (the_target S.targets t).depth ≡ true) at (both_right (not (the_target S.targets (object_in b)).stopped) _ more) in
      let below = ltb-true (pending S.targets c.target) (the_target S.targets c.target).depth fewer in
      let long = alike_long es c.sent ps h.agrees.alike in
      let short = no_longer (λ (p : Passing). p.request) (λ s. s.request.0) (λ s. is_at_target s.outcome) (the_target S.targets c.target).sent ps h.there in
      let depth = h.depth in
      lt-ltb (length c.sent) c.depth (omega (arith, below, long, short, depth))

  -- another agent's done is of a request that isn't here
  elsewhere_by : (by : ℕ) (r : Handle) (o : Option ℕ) → target_of_agent plan by ≡ o → may_finish plan S o r ≡ true → (by == c.agent) ≡ false → (n : ℕ) → sends_of r.id.0 ps ≡ n → sends_of r.id.0 ps ≡ 0
  elsewhere_by by r None e f other n i = absurd (let z : ⊥ = cc in z)
  elsewhere_by by r (Some u) e f other zero i = i
  elsewhere_by by r (Some u) e f other (suc n) i =
      let waits = h.there r.id.0 in
      let here = sent_there S c.target places r.id.0 (omega (arith, waits, i)) in
      let there_ : is_sent_to u (place_of S.requests r.id.0) ≡ true = both_right (is_proper plan S r) (is_sent_to u (place_of S.requests r.id.0)) (both_left (is_proper plan S r && is_sent_to u (place_of S.requests r.id.0)) (is_undone S.targets r.id.0) f) in
      absurd (elim (one_or_two u c.target) [
        | inl same ↦
            let mine : target_of_agent plan k ≡ Some c.target = its_target plan k c.target h.is in
            let its : target_of_agent plan by ≡ Some c.target = e ∙ ap Some same in
            let one : k ≡ by = one_agent plan k by c.target mine its in
            let yes : (by == c.agent) ≡ true = equal by c.agent (sym one ∙ sym h.agent) in
            let z : ⊥ = cc in z
        | inr apart ↦
            let off = at_one_target (place_of S.requests r.id.0) c.target u here apart in
            let z : ⊥ = cc in z
      ])

  gone : (by : ℕ) (p : Post) (answer : Option Handle) → may plan m S (event.Posted by p answer) ≡ true → (r : Handle) (s : Status) → p ≡ post.Done r s → (by == c.agent) ≡ false → sends_of r.id.0 ps ≡ 0
  gone by p answer may_ r s is other =
      let fits_ : post_fits plan S by p ≡ true = both_right (same_option same_post (due_of m S by) (Some p)) (post_fits plan S by p) (both_left (same_option same_post (due_of m S by) (Some p) && post_fits plan S by p) _ may_) in
      let finish : may_finish plan S (target_of_agent plan by) r ≡ true = subst (λ q. post_fits plan S by q ≡ true) is fits_ in
      elsewhere_by by r (target_of_agent plan by) refl finish other (sends_of r.id.0 ps) refl

  did_room : (cpu : Cpu) (kind : CallKind) (n : ℕ) (a b x : Arg) (answer : Value) → may plan m S (event.Did cpu (record { kind = kind; count = n; a = a; b = b; c = x }) answer) ≡ true
      → (object_in b == c.target && same_value answer (Num 1)) ≡ true → kind ≡ call.WdfRequestSend → nat_lt (length c.sent) c.depth ≡ true
  did_room cpu kind n a b x answer may_ is send =
      finds_room n a b x cpu answer (subst (λ k. may plan m S (event.Did cpu (record { kind = k; count = n; a = a; b = b; c = x }) answer) ≡ true) send may_) is

  agrees_next : (e : Event) → may plan m S e ≡ true → Agrees (es ++ e ∷ []) (connector_after c e) (passing_step c.target k ps e)
  agrees_next (event.Did cpu call_ answer) may_ =
      did_agrees es c.target c ps h.agrees refl k cpu call_.kind call_.count call_.a call_.b call_.c answer (did_room cpu call_.kind call_.count call_.a call_.b call_.c answer may_)
  agrees_next (event.Waiting cpu call_) may_ = waiting_agrees es c.target c ps h.agrees refl k cpu call_.kind call_.count call_.a call_.b call_.c
  agrees_next (event.Posted by p answer) may_ = post_agrees es c.target k c ps h.agrees h.agent by p answer (gone by p answer may_)
  agrees_next (event.Complete r s) may_ = complete_agrees es c.target k c ps r s h.agrees
  agrees_next e may_ = quiet_agrees es e c ps h.agrees

  kept_by : (e : Event) → Agrees (es ++ e ∷ []) (connector_after c e) (passing_step c.target k ps e) → IsThere (after plan m S e).targets c.target (passing_step c.target k ps e)
      → IsKept plan (es ++ e ∷ []) (after plan m S e) k (connector_after c e)
  kept_by e agrees there =
      let stays = stays_after c e in
      let t = sym stays.target in
      let next : passing_step c.target k ps e ≡ passings c.target k (es ++ e ∷ []) = sym (passings_next c.target k es e) in
      let at_c : passing_step c.target k ps e ≡ passings (connector_after c e).target k (es ++ e ∷ []) = next ∙ ap (λ x. passings x k (es ++ e ∷ [])) t in
      let more = count_behind (is_connector_arrival plan) es (e ∷ []) in
      let one = count_cons (is_connector_arrival plan) e [] in
      let room = room_next c e in
      let counted : flag (takes_room c.first e) ≡ flag (is_connector_arrival plan e) = ap flag (counted_room plan c.first e h.first) in
      let before = h.room in
      record {
        agent = stays.agent ∙ h.agent;
        is = h.is ∙ ap Some t;
        first = stays.first ∙ h.first;
        depth = stays.depth ∙ h.depth ∙ sym (depths_stay plan (deeds plan S e) S c.target) ∙ ap (λ x. (the_target (after plan m S e).targets x).depth) t;
        agrees = subst (Agrees (es ++ e ∷ []) (connector_after c e)) at_c agrees;
        there = subst (λ x. IsThere (after plan m S e).targets (connector_after c e).target x) at_c (subst (λ x. IsThere (after plan m S e).targets x (passing_step c.target k ps e)) t there);
        room = omega (arith, more, one, room, counted, before);
      }

  pub kept_next : (e : Event) → may plan m S e ≡ true → IsKept plan (es ++ e ∷ []) (after plan m S e) k (connector_after c e)
  kept_next e may_ = kept_by e (agrees_next e may_) (there_next plan m S c.target places k e ps may_ h.there)

  pub kept_ticks : (time : ℕ) → IsKept plan (es ++ event.Tick time ∷ []) (after plan m S (event.Tick time)) k (connector_after c (event.Tick time))
  kept_ticks time = kept_by (event.Tick time) (quiet_agrees es (event.Tick time) c ps h.agrees) (there_ticks plan m S c.target k time ps h.there)
