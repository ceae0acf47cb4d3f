-- What a target keeps, by the events, is what the laws on stacks say that passes to it: the same requests, in the same order.
use Rattle.std.proofs.Common.{if◌then◌else◌, ◌≡◌, ℕ, ◌==◌, Bool, true, false, not, ◌&&◌, List, [], ◌∷◌, ◌++◌, count_by, filter, length, map, Option, Some, None, refl, sym, ap, ◌∙◌, append-nil, suc, ◌+◌, ◌≤◌, arith, eqb-true}
use Rattle.std.proofs.lemmas.List.{map-append}
use Rattle.wdf_base.specs.Same.{same_value}
use Rattle.wdf_base.specs.declared.call.Arg.{Arg}
use Rattle.wdf_base.specs.declared.call.Arg.TheVariants.{Class, Val}
use Rattle.wdf_base.specs.declared.call.CallKind.{CallKind}
use Rattle.wdf_base.specs.declared.call.CallKind.TheVariants as call
use Rattle.wdf_base.specs.declared.event.Event.{Event}
use Rattle.wdf_base.specs.declared.event.Event.TheVariants as event
use Rattle.wdf_base.specs.declared.event.Post.{Post}
use Rattle.wdf_base.specs.declared.event.Post.TheVariants as post
use Rattle.wdf_base.specs.declared.ids.Cpu.{Cpu}
use Rattle.wdf_base.specs.declared.ids.Handle.{Handle}
use Rattle.wdf_base.specs.declared.value.Value.{Value}
use Rattle.wdf_base.specs.declared.value.Value.TheVariants.{Num, Obj, Stat}
use Rattle.wdf_model.specs.State.{object_in}
use Rattle.wdf_model.specs.agents.LowerTarget.{handle_in_arg}
use Rattle.wdf_model.specs.declared.entries.SentRequest.{SentRequest}
use Rattle.wdf_base.specs.Values.{arg_is}
use Rattle.wdf_model.specs.Tables.{flag}
use Rattle.wdf_model.proofs.Counts.{count_cons}
use Rattle.wdf_model.proofs.Tests.{itself}
use Rattle.wdf_laws.specs.Events.{argument_object, id_in}
use Rattle.law_stack.specs.Words.{Passing, cancelled_if, has_no_arrival, passing_arrived, passing_cancelled, passing_step, stops_all, with_arrival, with_cancel, with_send}
use Rattle.law_targets.specs.Targets.{cancels, sent_to}
use Rattle.law_targets.proofs.Hearing.{all_stay}
use Rattle.law_targets.proofs.Kept.{kept_one, marked, next, stays}
use Rattle.law_stack.proofs.Held.{cancel_keeps_one}

-- the requests that are kept, and that pass
abbrev pub asks : List SentRequest → List ℕ
asks xs = map (λ (s : SentRequest). s.request.id.0) xs

abbrev pub passes : List Passing → List ℕ
passes ps = map (λ (p : Passing). p.request) ps

-- ---- lists

same_read : {T S : Type 0} (f : T → S) (g : T → T) → ((x : T) → f (g x) ≡ f x) → (xs : List T) → map f (map g xs) ≡ map f xs
same_read f g h [] = refl
same_read f g h (x ∷ xs) = ap (λ y. y ∷ map f (map g xs)) (h x) ∙ ap (λ ys. f x ∷ ys) (same_read f g h xs)

read_left : {T S : Type 0} (f : T → S) (p : S → Bool) (xs : List T) → map f (filter (λ x. p (f x)) xs) ≡ filter p (map f xs)
read_left f p [] = refl
read_left f p (x ∷ xs) = by_test (p (f x)) refl (read_left f p xs)
  where
    by_test : (b : Bool) → p (f x) ≡ b → map f (filter (λ y. p (f y)) xs) ≡ filter p (map f xs) → map f (filter (λ y. p (f y)) (x ∷ xs)) ≡ filter p (map f (x ∷ xs))
    by_test true e rest = rw e (ap (λ ys. f x ∷ ys) rest)
    by_test false e rest = rw e rest

pub read_counted : {T S : Type 0} (f : T → S) (p : S → Bool) (xs : List T) → count_by (λ x. p (f x)) xs ≡ count_by p (map f xs)
read_counted f p [] = refl
read_counted f p (x ∷ xs) = count_cons (λ y. p (f y)) x xs ∙ ap (λ n. flag (p (f x)) + n) (read_counted f p xs) ∙ sym (count_cons p (f x) (map f xs))

-- ---- the requests that are kept

mark_reads : (t : ℕ) (e : Event) (s : SentRequest) (b : Bool) → cancels t s.request.id.0 e ≡ b → (marked t e s).request.id.0 ≡ s.request.id.0
mark_reads t e s true h = rw h refl
mark_reads t e s false h = rw h refl

pub next_asks : (t delay now : ℕ) (e : Event) (xs : List SentRequest) → asks (next t delay now e xs) ≡ asks (filter (stays e) xs) ++ asks (kept_one t delay now (sent_to t e) [])
next_asks t delay now e xs =
    map-append (λ (s : SentRequest). s.request.id.0) (map (marked t e) (filter (stays e) xs)) (kept_one t delay now (sent_to t e) [])
    ∙ ap (λ ys. ys ++ asks (kept_one t delay now (sent_to t e) [])) (same_read (λ (s : SentRequest). s.request.id.0) (marked t e) (λ s. mark_reads t e s (cancels t s.request.id.0 e) refl) (filter (stays e) xs))

-- ---- the requests that pass

cancel_passes : (named : ℕ → Bool) (ps : List Passing) → passes (with_cancel named ps) ≡ passes ps
cancel_passes named ps = same_read (λ (p : Passing). p.request) (cancelled_if named) (λ p. cancel_keeps_one named p (named p.request) refl) ps

arrival_passes : (answer : Option ℕ) (ps : List Passing) → passes (with_arrival answer ps) ≡ passes ps
arrival_passes answer [] = refl
arrival_passes answer (p ∷ ps) = by_test (has_no_arrival p) refl (arrival_passes answer ps)
  where
    by_test : (b : Bool) → has_no_arrival p ≡ b → passes (with_arrival answer ps) ≡ passes ps → passes (with_arrival answer (p ∷ ps)) ≡ passes (p ∷ ps)
    by_test true e rest = rw e refl
    by_test false e rest = rw e (ap (λ ys. p.request ∷ ys) rest)

either_passes : (b : Bool) (qs ps : List Passing) → passes qs ≡ passes ps → passes (if b then qs else ps) ≡ passes ps
either_passes true qs ps h = h
either_passes false qs ps h = refl

module _ (t k delay now : ℕ) (xs : List SentRequest) (ps : List Passing) (alike : asks xs ≡ passes ps) where
  -- one that is left as it is
  still : asks (filter (λ (s : SentRequest). true) xs) ++ [] ≡ passes ps
  still = append-nil (asks (filter (λ s. true) xs)) ∙ ap asks (all_stay xs) ∙ alike

  calm : (qs : List Passing) → passes qs ≡ passes ps → asks (filter (λ (s : SentRequest). true) xs) ++ [] ≡ passes qs
  calm qs h = still ∙ sym h

  sent_alike : (a : Arg) → asks (filter (λ (s : SentRequest). true) xs) ++ asks (kept_one t delay now (handle_in_arg a) []) ≡ passes (with_send (argument_object a) ps)
  sent_alike (Val (Obj h)) = ap (λ ys. asks ys ++ h.id.0 ∷ []) (all_stay xs) ∙ ap (λ ys. ys ++ h.id.0 ∷ []) alike ∙ sym (map-append (λ (p : Passing). p.request) ps _)
  sent_alike (Val (Num n)) = still
  sent_alike (Val (Stat s)) = still
  sent_alike (Class c) = still

  send_alike : (a : Arg) (ok : Bool) → asks (filter (λ (s : SentRequest). true) xs) ++ asks (kept_one t delay now (if ok then handle_in_arg a else None) []) ≡ passes (if ok then with_send (argument_object a) ps else ps)
  send_alike a true = sent_alike a
  send_alike a false = still

  -- the requests after an event, as they are kept and as they pass
  abbrev IsAlike : Event → Type 0
  IsAlike e = asks (filter (stays e) xs) ++ asks (kept_one t delay now (sent_to t e) []) ≡ passes (passing_step t k ps e)

  calls_alike : (cpu : Cpu) (kind : CallKind) (n : ℕ) (a b c : Arg) (v : Value) → IsAlike (event.Did cpu (record { kind = kind; count = n; a = a; b = b; c = c }) v)
  calls_alike cpu call.WdfRequestSend n a b c v = send_alike a (object_in b == t && same_value v (Num 1))
  calls_alike cpu call.WdfRequestCancelSentRequest n a b c v = calm _ (either_passes (same_value v (Num 1)) (with_cancel (λ r. r == object_in a) ps) ps (cancel_passes (λ r. r == object_in a) ps))
  calls_alike cpu call.WdfIoTargetStop n a b c v = calm _ (either_passes (object_in a == t && arg_is b 0) (with_cancel (λ r. true) ps) ps (cancel_passes (λ r. true) ps))
  calls_alike cpu _ n a b c v = still

  reached : (answer : Option Handle) → passes (passing_cancelled ps answer) ≡ passes ps
  reached None = refl
  reached (Some q) = cancel_passes (λ x. x == q.id.0) ps

  arrived : (by : ℕ) (answer : Option Handle) → passes (passing_arrived k by ps answer) ≡ passes ps
  arrived by answer = either_passes (by == k) (with_arrival (id_in answer) ps) ps (arrival_passes (id_in answer) ps)

  posts_alike : (by : ℕ) (p : Post) (answer : Option Handle) → IsAlike (event.Posted by p answer)
  posts_alike by (post.Done q s) answer =
      append-nil (asks (filter (λ (x : SentRequest). not (x.request.id.0 == q.id.0)) xs))
      ∙ read_left (λ (x : SentRequest). x.request.id.0) (λ r. not (r == q.id.0)) xs ∙ ap (filter (λ r. not (r == q.id.0))) alike
      ∙ sym (read_left (λ (p : Passing). p.request) (λ r. not (r == q.id.0)) ps)
  posts_alike by (post.Cancel j) answer = calm _ (reached answer)
  posts_alike by (post.Read d n) answer = calm _ (arrived by answer)
  posts_alike by (post.Write d n) answer = calm _ (arrived by answer)
  posts_alike by (post.Control d c n) answer = calm _ (arrived by answer)
  posts_alike by (post.Ask a d) answer = still
  posts_alike by (post.Act a) answer = still

  by_event : (e : Event) → IsAlike e
  by_event (event.Did cpu c v) = calls_alike cpu c.kind c.count c.a c.b c.c v
  by_event (event.Waiting cpu c) = calm _ (either_passes (stops_all t c) (with_cancel (λ r. true) ps) ps (cancel_passes (λ r. true) ps))
  by_event (event.Posted by p answer) = posts_alike by p answer
  by_event _ = still

  pub alike_next : (e : Event) → asks (next t delay now e xs) ≡ passes (passing_step t k ps e)
  alike_next e = next_asks t delay now e xs ∙ by_event e

-- ---- counts

-- where a request isn't kept, none is left out with it
pub none_left_out : (r : ℕ) (xs : List SentRequest) → count_by (λ (s : SentRequest). s.request.id.0 == r) xs ≡ 0 → filter (λ (s : SentRequest). not (s.request.id.0 == r)) xs ≡ xs
none_left_out r [] h = refl
none_left_out r (x ∷ xs) h = by_test (x.request.id.0 == r) refl (none_left_out r xs)
  where
    by_test : (b : Bool) → (x.request.id.0 == r) ≡ b → (count_by (λ (s : SentRequest). s.request.id.0 == r) xs ≡ 0 → filter (λ (s : SentRequest). not (s.request.id.0 == r)) xs ≡ xs)
        → filter (λ (s : SentRequest). not (s.request.id.0 == r)) (x ∷ xs) ≡ x ∷ xs
    by_test true e rest = absurd (let a = count_cons (λ (s : SentRequest). s.request.id.0 == r) x xs in let f : flag (x.request.id.0 == r) ≡ 1 = ap flag e in omega (arith, a, f, h))
    by_test false e rest = let a = count_cons (λ (s : SentRequest). s.request.id.0 == r) x xs in rw e (ap (λ ys. x ∷ ys) (rest (omega (arith, a, h))))

-- ---- one list is no longer than another where each number is at most as often in it

-- without the first of a number
abbrev less : ℕ → List ℕ → List ℕ
less k [] = []
less k (y ∷ ys) = if y == k then ys else y ∷ less k ys

others_left : (k j : ℕ) (ys : List ℕ) → count_by (λ x. x == j) ys ≤ count_by (λ x. x == j) (less k ys) + flag (k == j)
others_left k j [] = omega arith
others_left k j (y ∷ ys) = by_test (y == k) refl (others_left k j ys)
  where
    by_test : (b : Bool) → (y == k) ≡ b → count_by (λ x. x == j) ys ≤ count_by (λ x. x == j) (less k ys) + flag (k == j) → count_by (λ x. x == j) (y ∷ ys) ≤ count_by (λ x. x == j) (less k (y ∷ ys)) + flag (k == j)
    by_test true e rest =
        let same : y ≡ k = eqb-true y k e in
        let one = count_cons (λ (x : ℕ). x == j) y ys in
        let same_flag : flag (y == j) ≡ flag (k == j) = ap (λ x. flag (x == j)) same in
        rw e (omega (arith, one, same_flag))
    by_test false e rest =
        let one = count_cons (λ (x : ℕ). x == j) y ys in
        let left = count_cons (λ (x : ℕ). x == j) y (less k ys) in
        rw e (omega (arith, one, left, rest))

one_less : (k : ℕ) (ys : List ℕ) → 1 ≤ count_by (λ x. x == k) ys → suc (length (less k ys)) ≤ length ys
one_less k [] h = absurd (omega (arith, h))
one_less k (y ∷ ys) h = by_test (y == k) refl (one_less k ys)
  where
    by_test : (b : Bool) → (y == k) ≡ b → (1 ≤ count_by (λ x. x == k) ys → suc (length (less k ys)) ≤ length ys) → suc (length (less k (y ∷ ys))) ≤ length (y ∷ ys)
    by_test true e rest = rw e (omega arith)
    by_test false e rest =
        let one = count_cons (λ (x : ℕ). x == k) y ys in
        let off : flag (y == k) ≡ 0 = ap flag e in
        let shorter = rest (omega (arith, h, one, off)) in
        rw e (omega (arith, shorter))

pub no_longer : (xs ys : List ℕ) → ((k : ℕ) → count_by (λ x. x == k) xs ≤ count_by (λ x. x == k) ys) → length xs ≤ length ys
no_longer [] ys h = omega arith
no_longer (x ∷ xs) ys h =
    let at_x = h x in
    let here = count_cons (λ (y : ℕ). y == x) x xs in
    let is : flag (x == x) ≡ 1 = ap flag (itself x) in
    let there = one_less x ys (omega (arith, at_x, here, is)) in
    let rest = no_longer xs (less x ys) (λ k. let at_k = h k in let one = count_cons (λ (y : ℕ). y == k) x xs in let left = others_left x k ys in omega (arith, at_k, one, left)) in
    omega (arith, there, rest)
