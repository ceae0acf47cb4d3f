-- What a target is after an event: it keeps what the event leaves, and knows the time.
use Rattle.std.proofs.Common.{if◌then◌else◌, ◌≡◌, ℕ, ◌==◌, Bool, true, false, not, ◌&&◌, nat_lt, List, [], ◌∷◌, ◌++◌, filter, length, map, Option, Some, None, refl, sym, ap, ◌∙◌, append-nil}
use Rattle.std.specs.Prelude.{⊤, is_some}
use Rattle.std.proofs.lemmas.List.{map-id}
use Rattle.wdf_base.specs.Same.{same_value}
use Rattle.wdf_base.specs.declared.call.Arg.{Arg}
use Rattle.wdf_base.specs.declared.call.Call.{Call}
use Rattle.wdf_base.specs.declared.call.CallKind.{CallKind}
use Rattle.wdf_base.specs.declared.call.CallKind.TheVariants as call
use Rattle.wdf_base.specs.declared.event.Event.{Event}
use Rattle.wdf_base.specs.declared.event.Event.TheVariants as event
use Rattle.wdf_base.specs.declared.event.Post.{Post}
use Rattle.wdf_base.specs.declared.event.Post.TheVariants as post
use Rattle.wdf_base.specs.declared.ids.Cpu.{Cpu}
use Rattle.wdf_base.specs.declared.ids.Handle.{Handle}
use Rattle.wdf_base.specs.declared.value.Status.{Status}
use Rattle.wdf_base.specs.declared.value.Value.{Value}
use Rattle.wdf_base.specs.declared.value.Value.TheVariants.{Num}
use Rattle.wdf_model.specs.State.{object_in}
use Rattle.wdf_model.specs.agents.LowerTarget.{LowerTarget, handle_in_arg, stop_called, target_after, target_posted, told, told_any, told_one, with_sent}
use Rattle.wdf_model.specs.declared.entries.SentRequest.{SentRequest}
use Rattle.wdf_base.specs.Values.{arg_is}
use Rattle.law_idle.specs.Idling.{time_step}
use Rattle.law_targets.specs.Targets.{sent_to}
use Rattle.law_targets.proofs.Kept.{kept_one, next}

pub all_stay : {T : Type 0} (xs : List T) → filter (λ x. true) xs ≡ xs
all_stay [] = refl
all_stay (x ∷ xs) = ap (λ ys. x ∷ ys) (all_stay xs)

plain : {T : Type 0} (xs : List T) → map (λ (x : T). x) (filter (λ x. true) xs) ++ [] ≡ xs
plain xs = append-nil (map (λ x. x) (filter (λ x. true) xs)) ∙ map-id (filter (λ x. true) xs) ∙ all_stay xs

-- what is made of each
each_made : {T : Type 0} (f : T → T) (xs : List T) → map f xs ≡ map f (filter (λ x. true) xs) ++ []
each_made f xs = ap (map f) (sym (all_stay xs)) ∙ sym (append-nil (map f (filter (λ x. true) xs)))

-- what is left out
left_out : {T : Type 0} (p : T → Bool) (xs : List T) → filter p xs ≡ map (λ (x : T). x) (filter p xs) ++ []
left_out p xs = sym (append-nil (map (λ x. x) (filter p xs)) ∙ map-id (filter p xs))

module _ (u : LowerTarget) where
  abbrev with : List SentRequest → LowerTarget
  with xs = record u { sent = xs }

  -- the target as the events say
  abbrev pub heard : Event → LowerTarget
  heard e = record u { sent = next u.target u.delay u.clock e u.sent; clock = time_step u.clock e }

  same : u ≡ with (map (λ (s : SentRequest). s) (filter (λ s. true) u.sent) ++ [])
  same = ap with (sym (plain u.sent))

  -- another agent's done is of a request that isn't here
  abbrev pub Spares : Event → Type 0
  Spares (event.Posted by (post.Done q s) answer) = (by == u.agent) ≡ false → filter (λ (s : SentRequest). not (s.request.id.0 == q.id.0)) u.sent ≡ u.sent
  Spares _ = ⊤

  takes : (o : Option Handle) → (is_some o ≡ true → nat_lt (length u.sent) u.depth ≡ true) → with_sent u o ≡ with (map (λ (s : SentRequest). s) (filter (λ s. true) u.sent) ++ kept_one u.target u.delay u.clock o [])
  takes None room = same
  takes (Some h) room = rw (room refl) (ap (λ xs. with (xs ++ kept_one u.target u.delay u.clock (Some h) [])) (sym (map-id (filter (λ (s : SentRequest). true) u.sent) ∙ all_stay u.sent)))

  sends : (cpu : Cpu) (n : ℕ) (a b c : Arg) (v : Value) (ok : Bool) → (object_in b == u.target && same_value v (Num 1)) ≡ ok
      → (is_some (if ok then handle_in_arg a else None) ≡ true → nat_lt (length u.sent) u.depth ≡ true)
      → (if ok then with_sent u (handle_in_arg a) else u) ≡ with (map (λ (s : SentRequest). s) (filter (λ s. true) u.sent) ++ kept_one u.target u.delay u.clock (if ok then handle_in_arg a else None) [])
  sends cpu n a b c v true e room = takes (handle_in_arg a) room
  sends cpu n a b c v false e room = same

  cancels_one : (r : ℕ) (ok : Bool) → (if ok then told u r else u) ≡ with (map (λ (s : SentRequest). if ok && s.request.id.0 == r then record s { told = true } else s) (filter (λ s. true) u.sent) ++ [])
  cancels_one r true = ap with (each_made (told_one r) u.sent)
  cancels_one r false = same

  stops : (c : Call) (ok : Bool) → (object_in c.a == u.target && arg_is c.b 0) ≡ ok → stop_called u c ≡ with (map (λ (s : SentRequest). if ok then record s { told = true } else s) (filter (λ s. true) u.sent) ++ [])
  stops c true e = rw e (ap with (each_made told_any u.sent))
  stops c false e = rw e same

  calls : (cpu : Cpu) (kind : CallKind) (n : ℕ) (a b c : Arg) (v : Value)
      → (is_some (sent_to u.target (event.Did cpu (record { kind = kind; count = n; a = a; b = b; c = c }) v)) ≡ true → nat_lt (length u.sent) u.depth ≡ true)
      → target_after u (event.Did cpu (record { kind = kind; count = n; a = a; b = b; c = c }) v) ≡ heard (event.Did cpu (record { kind = kind; count = n; a = a; b = b; c = c }) v)
  calls cpu call.WdfRequestSend n a b c v room = sends cpu n a b c v (object_in b == u.target && same_value v (Num 1)) refl room
  calls cpu call.WdfRequestCancelSentRequest n a b c v room = cancels_one (object_in a) (same_value v (Num 1))
  calls cpu call.WdfIoTargetStop n a b c v room = stops (record { kind = call.WdfIoTargetStop; count = n; a = a; b = b; c = c }) (object_in a == u.target && arg_is b 0) refl
  calls cpu _ n a b c v room = same

  waits : (cpu : Cpu) (kind : CallKind) (n : ℕ) (a b c : Arg)
      → target_after u (event.Waiting cpu (record { kind = kind; count = n; a = a; b = b; c = c })) ≡ heard (event.Waiting cpu (record { kind = kind; count = n; a = a; b = b; c = c }))
  waits cpu call.WdfIoTargetStop n a b c = stops (record { kind = call.WdfIoTargetStop; count = n; a = a; b = b; c = c }) (object_in a == u.target && arg_is b 0) refl
  waits cpu _ n a b c = same

  done_by : (by : ℕ) (q : Handle) (s : Status) (answer : Option Handle) (mine : Bool) → (by == u.agent) ≡ mine → Spares (event.Posted by (post.Done q s) answer)
      → target_posted u by (post.Done q s) answer ≡ heard (event.Posted by (post.Done q s) answer)
  done_by by q s answer true e spares = rw e (ap with (left_out (λ (x : SentRequest). not (x.request.id.0 == q.id.0)) u.sent))
  done_by by q s answer false e spares = rw e (ap with (sym (spares e) ∙ left_out (λ (x : SentRequest). not (x.request.id.0 == q.id.0)) u.sent))

  posts : (by : ℕ) (p : Post) (answer : Option Handle) → Spares (event.Posted by p answer) → target_posted u by p answer ≡ heard (event.Posted by p answer)
  posts by (post.Done q s) answer spares = done_by by q s answer (by == u.agent) refl spares
  posts by (post.Cancel k) None spares = same
  posts by (post.Cancel k) (Some q) spares = ap with (each_made (told_one q.id.0) u.sent)
  posts by (post.Read d n) answer spares = same
  posts by (post.Write d n) answer spares = same
  posts by (post.Control d c n) answer spares = same
  posts by (post.Ask a d) answer spares = same
  posts by (post.Act a) answer spares = same

  pub hears : (e : Event) → (is_some (sent_to u.target e) ≡ true → nat_lt (length u.sent) u.depth ≡ true) → Spares e → target_after u e ≡ heard e
  hears (event.Did cpu c v) room spares = calls cpu c.kind c.count c.a c.b c.c v room
  hears (event.Waiting cpu c) room spares = waits cpu c.kind c.count c.a c.b c.c
  hears (event.Posted by p answer) room spares = posts by p answer spares
  hears (event.Tick time) room spares = ap (λ xs. record u { sent = xs; clock = time }) (sym (plain u.sent))
  hears _ room spares = same
