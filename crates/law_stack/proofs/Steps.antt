-- One event more: a connector and what the events say of its target stay alike.
use Rattle.std.proofs.Common.{if◌then◌else◌, ◌≡◌, ℕ, ◌==◌, Bool, true, false, nat_le, nat_lt, ◌&&◌, List, [], ◌∷◌, ◌++◌, length, filter, find, count_by, Option, Some, None, option_map, unwrap_or, refl, sym, ap, subst, ◌∙◌, arith}
use Rattle.std.specs.List.{list_all}
use Rattle.std.proofs.lemmas.List.Sums.{fold-append}
use Rattle.wdf_base.specs.declared.ids.Cpu.{Cpu}
use Rattle.wdf_base.specs.declared.ids.Handle.{Handle}
use Rattle.wdf_base.specs.declared.value.Value.{Value}
use Rattle.wdf_base.specs.declared.value.Value.TheVariants.{Num, Obj, Stat}
use Rattle.wdf_base.specs.declared.value.Status.{Status}
use Rattle.wdf_base.specs.declared.call.Arg.{Arg}
use Rattle.wdf_base.specs.declared.call.Arg.TheVariants.{Class, Val}
use Rattle.wdf_base.specs.declared.call.Call.{Call}
use Rattle.wdf_base.specs.declared.call.CallKind.{CallKind}
use Rattle.wdf_base.specs.declared.call.CallKind.TheVariants as call
use Rattle.wdf_base.specs.declared.event.Post.{Post}
use Rattle.wdf_base.specs.declared.event.Post.TheVariants as post
use Rattle.wdf_base.specs.declared.event.Event.{Event}
use Rattle.wdf_base.specs.declared.event.Event.TheVariants as event
use Rattle.wdf_base.specs.Same.{same_status, same_value}
use Rattle.wdf_base.specs.Posts.{is_request}
use Rattle.wdf_model.specs.declared.stack.Arrival.{Arrival}
use Rattle.wdf_model.specs.declared.stack.Descent.TheVariants as descent
use Rattle.wdf_model.specs.Tables.{flag, in_order_by, tick_after}
use Rattle.wdf_model.specs.State.{object_in}
use Rattle.wdf_base.specs.Values.{arg_is}
use Rattle.wdf_model.specs.rules.Posts.{ARRIVALS}
use Rattle.wdf_model.specs.agents.LowerTarget.{handle_in_arg}
use Rattle.wdf_model.specs.agents.Connector.{Connector, arrival_own, arrival_posted, arrival_taken, cancel_called, cancel_posted, cancelled, cancelled_if_any, completed_by, connector_after, connector_called, keep_arrival, made_post, passed_down, post_for, send_called, stop_called, with_completed, with_sent, without_request}
use Rattle.wdf_model.proofs.Counts.{count_cons}
use Rattle.wdf_model.proofs.Sames.{status_decides}
use Rattle.wdf_model.proofs.Tests.{both, both_left, both_right, itself}
use Rattle.wdf_laws.specs.Events.{argument_object}
use Rattle.law_stack.specs.Words as Words
use Rattle.law_stack.specs.Words.{Passing, completes_with, passing_arrived, passing_step, passings, sent_now, without_done}
use Rattle.law_stack.proofs.Alike.{Alike, alike_all_cancelled, alike_arrived, alike_cancelled, alike_completed, alike_done, alike_joined, alike_more, alike_passed_on, any_last}
use Rattle.law_stack.proofs.Counting.{times_of}

pub passings_next : (t agent : ℕ) (before : List Event) (e : Event) → passings t agent (before ++ e ∷ []) ≡ passing_step t agent (passings t agent before) e
unfolding passings
passings_next t agent before e = fold-append (passing_step t agent) [] before (e ∷ [])

-- ---- what a connector keeps beside what was sent

pub record Stays (c c' : Connector) : Type 0 where
  pub agent : c'.agent ≡ c.agent
  pub target : c'.target ≡ c.target
  pub depth : c'.depth ≡ c.depth
  pub first : c'.first ≡ c.first

same_all : (c : Connector) → Stays c c
same_all c = record { agent = refl; target = refl; depth = refl; first = refl }

then_stays : (c d e : Connector) → Stays c d → Stays d e → Stays c e
then_stays c d e x y = record { agent = y.agent ∙ x.agent; target = y.target ∙ x.target; depth = y.depth ∙ x.depth; first = y.first ∙ x.first }

either_stays : (b : Bool) (c d e : Connector) → Stays c d → Stays c e → Stays c (if b then d else e)
either_stays true c d e x y = x
either_stays false c d e x y = y

-- ---- what the requests ask for

abbrev pub AsksAll : Connector → Type 0
AsksAll c = list_all (λ (a : Arrival). is_request a.post) c.arrivals ≡ true

down_asks : (lower : Handle) (p : Post) → is_request p ≡ true → is_request (passed_down lower p) ≡ true
down_asks lower (post.Read d n) h = refl
down_asks lower (post.Write d n) h = refl
down_asks lower (post.Control d c n) h = refl
down_asks lower (post.Cancel k) h = absurd (let z : ⊥ = cc in z)
down_asks lower (post.Ask a d) h = absurd (let z : ⊥ = cc in z)
down_asks lower (post.Act a) h = absurd (let z : ⊥ = cc in z)
down_asks lower (post.Done r s) h = absurd (let z : ⊥ = cc in z)

module _ {T : Type 0} (p : T → Bool) where
  all_kept_by : (keep : T → Bool) (x : T) (xs : List T) (b : Bool) → keep x ≡ b → p x ≡ true → list_all p (filter keep xs) ≡ true → list_all p (filter keep (x ∷ xs)) ≡ true
  all_kept_by keep x xs true e h rest = rw e (both (p x) (list_all p (filter keep xs)) h rest)
  all_kept_by keep x xs false e h rest = rw e rest

  all_kept : (keep : T → Bool) (xs : List T) → list_all p xs ≡ true → list_all p (filter keep xs) ≡ true
  all_kept keep [] h = h
  all_kept keep (x ∷ xs) h = all_kept_by keep x xs (keep x) refl (both_left (p x) (list_all p xs) h) (all_kept keep xs (both_right (p x) (list_all p xs) h))

  all_ordered_by : (key : T → ℕ) (a x : T) (xs : List T) (b : Bool) → nat_lt (key a) (key x) ≡ b → p a ≡ true → list_all p (x ∷ xs) ≡ true → list_all p (in_order_by key a xs) ≡ true
      → list_all p (in_order_by key a (x ∷ xs)) ≡ true
  all_ordered_by key a x xs true e h all rest = rw e (both (p a) (list_all p (x ∷ xs)) h all)
  all_ordered_by key a x xs false e h all rest = rw e (both (p x) (list_all p (in_order_by key a xs)) (both_left (p x) (list_all p xs) all) rest)

  all_ordered : (key : T → ℕ) (a : T) (xs : List T) → p a ≡ true → list_all p xs ≡ true → list_all p (in_order_by key a xs) ≡ true
  all_ordered key a [] h all = both (p a) true h refl
  all_ordered key a (x ∷ xs) h all = all_ordered_by key a x xs (nat_lt (key a) (key x)) refl h all (all_ordered key a xs h (both_right (p x) (list_all p xs) all))

  found_by : (q : T → Bool) (x : T) (xs : List T) (b : Bool) → q x ≡ b → p x ≡ true → ((y : T) → find q xs ≡ Some y → p y ≡ true) → (y : T) → find q (x ∷ xs) ≡ Some y → p y ≡ true
  found_by q x xs true e h rest y at = let s : Some x ≡ Some y = rw e at at in let same : x ≡ y = cc in ap p (sym same) ∙ h
  found_by q x xs false e h rest y at = rest y (rw e at at)

  found_passes : (q : T → Bool) (xs : List T) → list_all p xs ≡ true → (y : T) → find q xs ≡ Some y → p y ≡ true
  found_passes q [] h y at = absurd (let z : ⊥ = cc in z)
  found_passes q (x ∷ xs) h y at = found_by q x xs (q x) refl (both_left (p x) (list_all p xs) h) (found_passes q xs (both_right (p x) (list_all p xs) h)) y at

post_by : (c : Connector) (r : ℕ) (o : Option Arrival) → find (λ (a : Arrival). a.request.0 == r) c.arrivals ≡ o → AsksAll c → is_request (unwrap_or (option_map (λ a. a.post) o) (made_post c.lower)) ≡ true
post_by c r None e h = refl
post_by c r (Some a) e h = found_passes (λ (a : Arrival). is_request a.post) (λ (a : Arrival). a.request.0 == r) c.arrivals h a e

pub post_asks : (c : Connector) (r : ℕ) → AsksAll c → is_request (post_for c r) ≡ true
post_asks c r h = post_by c r (find (λ (a : Arrival). a.request.0 == r) c.arrivals) refl h

kept_asks_by : (c : Connector) (p : Post) (r : Handle) (b : Bool) → nat_lt (length c.arrivals) ARRIVALS ≡ b → is_request p ≡ true → AsksAll c → AsksAll (keep_arrival c p (Some r))
kept_asks_by c p r true e h all =
    rw e
    (all_ordered (λ (a : Arrival). is_request a.post) (λ (x : Arrival). x.request.0) (record { request = r.id; post = passed_down c.lower p }) _ (down_asks c.lower p h)
    (all_kept (λ (a : Arrival). is_request a.post) _ c.arrivals all))
kept_asks_by c p r false e h all = rw e all

kept_asks : (c : Connector) (p : Post) (answer : Option Handle) → is_request p ≡ true → AsksAll c → AsksAll (keep_arrival c p answer)
kept_asks c p None h all = all
kept_asks c p (Some r) h all = kept_asks_by c p r (nat_lt (length c.arrivals) ARRIVALS) refl h all

-- ---- what each change leaves

-- a connector of this target, by this agent, agrees with what the events say
pub record Agrees (before : List Event) (c : Connector) (ps : List Passing) : Type 0 where
  pub alike : Alike before c.sent ps
  pub asks : AsksAll c

-- one more event that changes neither
pub quiet_agrees : (before : List Event) (e : Event) (c : Connector) (ps : List Passing) → Agrees before c ps → Agrees (before ++ e ∷ []) c ps
quiet_agrees before e c ps h = record { alike = alike_more before e c.sent ps h.alike; asks = h.asks }

cancel_agrees : (before : List Event) (c : Connector) (ps : List Passing) (r : ℕ) → Agrees before c ps → Agrees before (cancelled c r) (Words.with_cancel (λ x. x == r) ps)
cancel_agrees before c ps r h = record { alike = alike_cancelled before r c.sent ps h.alike; asks = h.asks }

-- a status is completed with
completed_agrees : (before : List Event) (e : Event) (c : Connector) (ps : List Passing) (x : ℕ) (s : Status) → completes_with x s e ≡ true → Agrees before c ps → Agrees (before ++ e ∷ []) (with_completed c x s) ps
completed_agrees before e c ps x s is h = record {
  alike = alike_completed (before ++ e ∷ []) x s (any_last (completes_with x s) before e is) c.sent ps (alike_more before e c.sent ps h.alike);
  asks = h.asks;
}

same_itself : (s : Status) → same_status s s ≡ true
same_itself s = (status_decides s s).1 refl

-- ---- calls

module _ (before : List Event) (t : ℕ) (c : Connector) (ps : List Passing) (h : Agrees before c ps) (at : c.target ≡ t) where
  -- a Send to the target, which it has room for
  sent_by : (e : Event) (a : Arg) → nat_lt (length c.sent) c.depth ≡ true → Agrees (before ++ e ∷ []) (with_sent c (handle_in_arg a)) (Words.with_send (argument_object a) ps)
  sent_by e (Val (Obj r)) room =
      rw room (record {
        alike = alike_joined (before ++ e ∷ []) c.sent ps (record { request = r; post = post_for c r.id.0; cancelled = false; descent = descent.Waiting }) (sent_now r.id.0) (alike_more before e c.sent ps h.alike)
            (record { request = refl; cancelled = refl; descent = refl; asks = post_asks c r.id.0 h.asks });
        asks = h.asks;
      })
  sent_by e (Val (Num n)) room = quiet_agrees before e c ps h
  sent_by e (Val (Stat s)) room = quiet_agrees before e c ps h
  sent_by e (Class k) room = quiet_agrees before e c ps h

  send_by : (e : Event) (k : Call) (answer : Value) (b : Bool) → (object_in k.b == c.target && same_value answer (Num 1)) ≡ b → (b ≡ true → nat_lt (length c.sent) c.depth ≡ true)
      → Agrees (before ++ e ∷ []) (send_called c k answer) (if object_in k.b == t && same_value answer (Num 1) then Words.with_send (argument_object k.a) ps else ps)
  send_by e k answer true is room =
      let too : (object_in k.b == t && same_value answer (Num 1)) ≡ true = ap (λ n. object_in k.b == n && same_value answer (Num 1)) (sym at) ∙ is in
      rw (is, too) (sent_by e k.a (room refl))
  send_by e k answer false is room =
      let too : (object_in k.b == t && same_value answer (Num 1)) ≡ false = ap (λ n. object_in k.b == n && same_value answer (Num 1)) (sym at) ∙ is in
      rw (is, too) (quiet_agrees before e c ps h)

  cancel_by : (e : Event) (k : Call) (answer : Value) (b : Bool) → same_value answer (Num 1) ≡ b
      → Agrees (before ++ e ∷ []) (cancel_called c k answer) (if same_value answer (Num 1) then Words.with_cancel (λ r. r == object_in k.a) ps else ps)
  cancel_by e k answer true is = rw is (cancel_agrees (before ++ e ∷ []) c ps (object_in k.a) (quiet_agrees before e c ps h))
  cancel_by e k answer false is = rw is (quiet_agrees before e c ps h)

  stop_by : (e : Event) (k : Call) (b : Bool) → (object_in k.a == c.target && arg_is k.b 0) ≡ b
      → Agrees (before ++ e ∷ []) (stop_called c k) (if object_in k.a == t && arg_is k.b 0 then Words.with_cancel (λ r. true) ps else ps)
  stop_by e k true is =
      let too : (object_in k.a == t && arg_is k.b 0) ≡ true = ap (λ n. object_in k.a == n && arg_is k.b 0) (sym at) ∙ is in
      rw (is, too) (record { alike = alike_all_cancelled (before ++ e ∷ []) c.sent ps (alike_more before e c.sent ps h.alike); asks = h.asks })
  stop_by e k false is =
      let too : (object_in k.a == t && arg_is k.b 0) ≡ false = ap (λ n. object_in k.a == n && arg_is k.b 0) (sym at) ∙ is in
      rw (is, too) (quiet_agrees before e c ps h)

  complete_by : (cpu : Cpu) (n : ℕ) (a b x : Arg) (answer : Value)
      → Agrees (before ++ event.Did cpu (record { kind = call.WdfRequestComplete; count = n; a = a; b = b; c = x }) answer ∷ []) (completed_by c (object_in a) b) ps
  complete_by cpu n a (Val (Stat s)) x answer =
      completed_agrees before (event.Did cpu (record { kind = call.WdfRequestComplete; count = n; a = a; b = Val (Stat s); c = x }) answer) c ps (object_in a) s
      (both (object_in a == object_in a) (same_status s s) (itself (object_in a)) (same_itself s)) h
  complete_by cpu n a (Val (Num m)) x answer = quiet_agrees before _ c ps h
  complete_by cpu n a (Val (Obj o)) x answer = quiet_agrees before _ c ps h
  complete_by cpu n a (Class k) x answer = quiet_agrees before _ c ps h

  pub did_agrees : (agent : ℕ) (cpu : Cpu) (kind : CallKind) (n : ℕ) (a b x : Arg) (answer : Value)
      → ((object_in b == c.target && same_value answer (Num 1)) ≡ true → kind ≡ call.WdfRequestSend → nat_lt (length c.sent) c.depth ≡ true)
      → Agrees (before ++ event.Did cpu (record { kind = kind; count = n; a = a; b = b; c = x }) answer ∷ [])
      (connector_after c (event.Did cpu (record { kind = kind; count = n; a = a; b = b; c = x }) answer))
      (passing_step t agent ps (event.Did cpu (record { kind = kind; count = n; a = a; b = b; c = x }) answer))
  did_agrees agent cpu call.WdfRequestSend n a b x answer room = send_by _ (record { kind = call.WdfRequestSend; count = n; a = a; b = b; c = x }) answer (object_in b == c.target && same_value answer (Num 1)) refl (λ e. room e refl)
  did_agrees agent cpu call.WdfRequestCancelSentRequest n a b x answer room = cancel_by _ (record { kind = call.WdfRequestCancelSentRequest; count = n; a = a; b = b; c = x }) answer (same_value answer (Num 1)) refl
  did_agrees agent cpu call.WdfIoTargetStop n a b x answer room = stop_by _ (record { kind = call.WdfIoTargetStop; count = n; a = a; b = b; c = x }) (object_in a == c.target && arg_is b 0) refl
  did_agrees agent cpu call.WdfRequestComplete n a b x answer room = complete_by cpu n a b x answer
  did_agrees agent cpu _ n a b x answer room = quiet_agrees before _ c ps h

  pub waiting_agrees : (agent : ℕ) (cpu : Cpu) (kind : CallKind) (n : ℕ) (a b x : Arg)
      → Agrees (before ++ event.Waiting cpu (record { kind = kind; count = n; a = a; b = b; c = x }) ∷ [])
      (connector_after c (event.Waiting cpu (record { kind = kind; count = n; a = a; b = b; c = x })))
      (passing_step t agent ps (event.Waiting cpu (record { kind = kind; count = n; a = a; b = b; c = x })))
  waiting_agrees agent cpu call.WdfIoTargetStop n a b x = stop_by _ (record { kind = call.WdfIoTargetStop; count = n; a = a; b = b; c = x }) (object_in a == c.target && arg_is b 0) refl
  waiting_agrees agent cpu _ n a b x = quiet_agrees before _ c ps h

-- ---- posts

kept_agrees : (before : List Event) (c : Connector) (ps : List Passing) (p : Post) (answer : Option Handle) → is_request p ≡ true → Agrees before c ps → Agrees before (keep_arrival c p answer) ps
kept_agrees before c ps p answer is h = record { alike = kept_alike answer; asks = kept_asks c p answer is h.asks }
  where
    kept_by : (r : Handle) (b : Bool) → nat_lt (length c.arrivals) ARRIVALS ≡ b → Alike before (keep_arrival c p (Some r)).sent ps
    kept_by r true e = rw e h.alike
    kept_by r false e = rw e h.alike

    kept_alike : (o : Option Handle) → Alike before (keep_arrival c p o).sent ps
    kept_alike None = h.alike
    kept_alike (Some r) = kept_by r (nat_lt (length c.arrivals) ARRIVALS) refl

taken_agrees : (before : List Event) (c : Connector) (ps : List Passing) (by : ℕ) (b : Bool) → nat_le c.first by ≡ b → Agrees before c ps → Agrees before (arrival_taken c by) ps
taken_agrees before c ps by true e h = rw e (record { alike = h.alike; asks = h.asks })
taken_agrees before c ps by false e h = rw e h

own_agrees : (before : List Event) (c : Connector) (ps : List Passing) (agent by : ℕ) (answer : Option Handle) (b : Bool) → c.agent ≡ agent → (by == c.agent) ≡ b → Agrees before c ps
    → Agrees before (arrival_own c by answer) (passing_arrived agent by ps answer)
own_agrees before c ps agent by answer true at e h =
    let too : (by == agent) ≡ true = ap (λ n. by == n) (sym at) ∙ e in
    rw (e, too) (record { alike = alike_arrived before (tick_after c.posted 1) answer c.sent ps h.alike; asks = h.asks })
own_agrees before c ps agent by answer false at e h =
    let too : (by == agent) ≡ false = ap (λ n. by == n) (sym at) ∙ e in
    rw (e, too) h

-- ---- what stays of a connector

kept_stays : (c : Connector) (p : Post) (answer : Option Handle) → Stays c (keep_arrival c p answer)
kept_stays c p None = same_all c
kept_stays c p (Some r) = either_stays (nat_lt (length c.arrivals) ARRIVALS) c _ c (record { agent = refl; target = refl; depth = refl; first = refl }) (same_all c)

taken_stays : (c : Connector) (by : ℕ) → Stays c (arrival_taken c by)
taken_stays c by = either_stays (nat_le c.first by) c _ c (record { agent = refl; target = refl; depth = refl; first = refl }) (same_all c)

own_stays : (c : Connector) (by : ℕ) (answer : Option Handle) → Stays c (arrival_own c by answer)
own_stays c by answer = either_stays (by == c.agent) c _ c (record { agent = refl; target = refl; depth = refl; first = refl }) (same_all c)

arrival_stays : (c : Connector) (by : ℕ) (p : Post) (answer : Option Handle) → Stays c (arrival_posted c by p answer)
arrival_stays c by p answer =
    then_stays c (keep_arrival c p answer) _ (kept_stays c p answer)
    (then_stays (keep_arrival c p answer) (arrival_taken (keep_arrival c p answer) by) _ (taken_stays (keep_arrival c p answer) by) (own_stays (arrival_taken (keep_arrival c p answer) by) by answer))

reached_stays : (c : Connector) (answer : Option Handle) → Stays c (cancelled_if_any c answer)
reached_stays c None = same_all c
reached_stays c (Some r) = record { agent = refl; target = refl; depth = refl; first = refl }

cancel_stays : (c : Connector) (by k : ℕ) (answer : Option Handle) → Stays c (cancel_posted c by k answer)
cancel_stays c by k answer =
    either_stays (by == c.agent) c _ _ (then_stays c (cancelled_if_any c answer) _ (reached_stays c answer) (record { agent = refl; target = refl; depth = refl; first = refl })) (reached_stays c answer)

sent_stays : (c : Connector) (o : Option Handle) → Stays c (with_sent c o)
sent_stays c None = same_all c
sent_stays c (Some r) = either_stays (nat_lt (length c.sent) c.depth) c _ c (record { agent = refl; target = refl; depth = refl; first = refl }) (same_all c)

completed_stays : (c : Connector) (x : ℕ) (a : Arg) → Stays c (completed_by c x a)
completed_stays c x (Val (Stat s)) = record { agent = refl; target = refl; depth = refl; first = refl }
completed_stays c x (Val (Num n)) = same_all c
completed_stays c x (Val (Obj o)) = same_all c
completed_stays c x (Class k) = same_all c

call_stays : (c : Connector) (kind : CallKind) (n : ℕ) (a b x : Arg) (answer : Value) → Stays c (connector_called c (record { kind = kind; count = n; a = a; b = b; c = x }) answer)
call_stays c call.WdfRequestSend n a b x answer = either_stays (object_in b == c.target && same_value answer (Num 1)) c _ c (sent_stays c (handle_in_arg a)) (same_all c)
call_stays c call.WdfRequestCancelSentRequest n a b x answer = either_stays (same_value answer (Num 1)) c _ c (record { agent = refl; target = refl; depth = refl; first = refl }) (same_all c)
call_stays c call.WdfIoTargetStop n a b x answer = either_stays (object_in a == c.target && arg_is b 0) c _ c (record { agent = refl; target = refl; depth = refl; first = refl }) (same_all c)
call_stays c call.WdfRequestComplete n a b x answer = completed_stays c (object_in a) b
call_stays c _ n a b x answer = same_all c

wait_stays : (c : Connector) (kind : CallKind) (n : ℕ) (a b x : Arg) → Stays c (connector_after c (event.Waiting (record { 0 = 0 }) (record { kind = kind; count = n; a = a; b = b; c = x })))
wait_stays c call.WdfIoTargetStop n a b x = either_stays (object_in a == c.target && arg_is b 0) c _ c (record { agent = refl; target = refl; depth = refl; first = refl }) (same_all c)
wait_stays c _ n a b x = same_all c

post_stays : (c : Connector) (by : ℕ) (p : Post) (answer : Option Handle) → Stays c (connector_after c (event.Posted by p answer))
post_stays c by (post.Read d n) answer = arrival_stays c by (post.Read d n) answer
post_stays c by (post.Write d n) answer = arrival_stays c by (post.Write d n) answer
post_stays c by (post.Control d x n) answer = arrival_stays c by (post.Control d x n) answer
post_stays c by (post.Cancel k) answer = cancel_stays c by k answer
post_stays c by (post.Done r s) answer = either_stays (by == c.agent) c _ c (record { agent = refl; target = refl; depth = refl; first = refl }) (same_all c)
post_stays c by (post.Ask a d) answer = same_all c
post_stays c by (post.Act a) answer = same_all c

pub stays_after : (c : Connector) (e : Event) → Stays c (connector_after c e)
stays_after c (event.Did cpu k answer) = call_stays c k.kind k.count k.a k.b k.c answer
stays_after c (event.Waiting cpu k) = wait_stays c k.kind k.count k.a k.b k.c
stays_after c (event.Posted by p answer) = post_stays c by p answer
stays_after c (event.Complete r s) = record { agent = refl; target = refl; depth = refl; first = refl }
stays_after c _ = same_all c

-- ---- a post

module _ (before : List Event) (t agent : ℕ) (c : Connector) (ps : List Passing) (h : Agrees before c ps) (at : c.agent ≡ agent) where
  arrival_agrees : (by : ℕ) (p : Post) (answer : Option Handle) (e : Event) → is_request p ≡ true → Agrees (before ++ e ∷ []) (arrival_posted c by p answer) (passing_arrived agent by ps answer)
  arrival_agrees by p answer e is =
      let kept = kept_agrees (before ++ e ∷ []) c ps p answer is (quiet_agrees before e c ps h) in
      let taken = taken_agrees (before ++ e ∷ []) (keep_arrival c p answer) ps by (nat_le (keep_arrival c p answer).first by) refl kept in
      let same : (arrival_taken (keep_arrival c p answer) by).agent ≡ agent = (taken_stays (keep_arrival c p answer) by).agent ∙ (kept_stays c p answer).agent ∙ at in
      own_agrees (before ++ e ∷ []) (arrival_taken (keep_arrival c p answer) by) ps agent by answer (by == (arrival_taken (keep_arrival c p answer) by).agent) same refl taken

  reached_agrees : (answer : Option Handle) (e : Event) → Agrees (before ++ e ∷ []) (cancelled_if_any c answer) (Words.passing_cancelled ps answer)
  reached_agrees None e = quiet_agrees before e c ps h
  reached_agrees (Some r) e = cancel_agrees (before ++ e ∷ []) c ps r.id.0 (quiet_agrees before e c ps h)

  passed_agrees : (by k : ℕ) (answer : Option Handle) (e : Event) (b : Bool) → (by == c.agent) ≡ b → Agrees (before ++ e ∷ []) (cancel_posted c by k answer) (Words.passing_cancelled ps answer)
  passed_agrees by k answer e true is =
      let it = reached_agrees answer e in
      rw is (record { alike = alike_passed_on (before ++ e ∷ []) k (cancelled_if_any c answer).sent (Words.passing_cancelled ps answer) it.alike; asks = it.asks })
  passed_agrees by k answer e false is = rw is (reached_agrees answer e)

  none_gone_by : (r : ℕ) (p : Passing) (qs : List Passing) (b : Bool) → (p.request == r) ≡ b → (count_by (λ (q : Passing). q.request == r) qs ≡ 0 → without_done r qs ≡ qs) → count_by (λ (q : Passing). q.request == r) (p ∷ qs) ≡ 0 → without_done r (p ∷ qs) ≡ p ∷ qs
  none_gone_by r p qs true e rest k = absurd (let n = count_cons (λ (q : Passing). q.request == r) p qs in let f : flag (p.request == r) ≡ 1 = ap flag e in omega (arith, n, f, k))
  none_gone_by r p qs false e rest k =
      let n = count_cons (λ (q : Passing). q.request == r) p qs in
      rw e (ap (λ xs. p ∷ xs) (rest (omega (arith, n, k))))

  none_gone : (r : ℕ) (qs : List Passing) → count_by (λ (q : Passing). q.request == r) qs ≡ 0 → without_done r qs ≡ qs
  none_gone r [] k = refl
  none_gone r (p ∷ qs) k = none_gone_by r p qs (p.request == r) refl (none_gone r qs) k

  done_agrees : (by : ℕ) (r : Handle) (s : Status) (e : Event) (b : Bool) → (by == c.agent) ≡ b → (b ≡ false → times_of (λ (q : Passing). q.request) r.id.0 ps ≡ 0)
      → Agrees (before ++ e ∷ []) (if by == c.agent then without_request c r.id.0 else c) (without_done r.id.0 ps)
  done_agrees by r s e true is gone = rw is (record { alike = alike_done (before ++ e ∷ []) r.id.0 c.sent ps (alike_more before e c.sent ps h.alike); asks = h.asks })
  done_agrees by r s e false is gone =
      rw is (subst (Agrees (before ++ e ∷ []) c) (sym (none_gone r.id.0 ps (gone refl))) (quiet_agrees before e c ps h))

  pub post_agrees : (by : ℕ) (p : Post) (answer : Option Handle) → ((r : Handle) (s : Status) → p ≡ post.Done r s → (by == c.agent) ≡ false → times_of (λ (q : Passing). q.request) r.id.0 ps ≡ 0)
      → Agrees (before ++ event.Posted by p answer ∷ []) (connector_after c (event.Posted by p answer)) (passing_step t agent ps (event.Posted by p answer))
  post_agrees by (post.Read d n) answer gone = arrival_agrees by (post.Read d n) answer _ refl
  post_agrees by (post.Write d n) answer gone = arrival_agrees by (post.Write d n) answer _ refl
  post_agrees by (post.Control d x n) answer gone = arrival_agrees by (post.Control d x n) answer _ refl
  post_agrees by (post.Cancel k) answer gone = passed_agrees by k answer _ (by == c.agent) refl
  post_agrees by (post.Done r s) answer gone = done_agrees by r s _ (by == c.agent) refl (λ n. gone r s refl n)
  post_agrees by (post.Ask a d) answer gone = quiet_agrees before _ c ps h
  post_agrees by (post.Act a) answer gone = quiet_agrees before _ c ps h

-- a completion by the framework
pub complete_agrees : (before : List Event) (t agent : ℕ) (c : Connector) (ps : List Passing) (r : Handle) (s : Status) → Agrees before c ps → Agrees (before ++ event.Complete r s ∷ []) (connector_after c (event.Complete r s)) ps
complete_agrees before t agent c ps r s h =
    completed_agrees before (event.Complete r s) c ps r.id.0 s (both (r.id.0 == r.id.0) (same_status s s) (itself r.id.0) (same_itself s)) h
