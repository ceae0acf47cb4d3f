-- A request that a target has isn't cleaned up, and its handle has its name. So the target may be done with it.
use Rattle.std.proofs.Common.{if◌then◌else◌, ◌≡◌, ◌≢◌, inl, inr, ℕ, ◌+◌, ◌≤◌, ◌==◌, Bool, true, false, not, ◌&&◌, ◌||◌, nat_lt, List, [], ◌∷◌, ◌++◌, length, map, Option, Some, None, slice_get, refl, sym, ap, ◌∙◌, subst, arith}
use Rattle.std.specs.Prelude.{⊤}
use Rattle.std.specs.List.{list_all}
use Rattle.wdf_base.specs.Meaning.{Meaning}
use Rattle.wdf_base.specs.Lives.{is_past_cleanup}
use Rattle.wdf_base.specs.Places.{is_done, is_sent, is_sent_to}
use Rattle.wdf_base.specs.Resolved.{IsResolved}
use Rattle.wdf_base.specs.Same.{same_kind, same_value}
use Rattle.wdf_base.specs.declared.call.Arg.{Arg}
use Rattle.wdf_base.specs.declared.call.Arg.TheVariants.{Class, Val}
use Rattle.wdf_base.specs.declared.call.Call.{Call}
use Rattle.wdf_base.specs.declared.call.CallKind.{CallKind}
use Rattle.wdf_base.specs.declared.call.CallKind.TheVariants as call
use Rattle.wdf_base.specs.declared.event.Event.{Event}
use Rattle.wdf_base.specs.declared.event.Event.TheVariants as event
use Rattle.wdf_base.specs.declared.event.Fault.TheVariants as fault
use Rattle.wdf_base.specs.declared.event.Post.{Post}
use Rattle.wdf_base.specs.declared.event.Post.TheVariants as post
use Rattle.wdf_base.specs.declared.ids.Cpu.{Cpu}
use Rattle.wdf_base.specs.declared.ids.Handle.{Handle}
use Rattle.wdf_base.specs.declared.object.Kind.{Kind}
use Rattle.wdf_base.specs.declared.object.Kind.TheVariants as kind
use Rattle.wdf_base.specs.declared.object.Place.{Place}
use Rattle.wdf_base.specs.declared.object.Place.TheVariants as place
use Rattle.wdf_base.specs.declared.plan.Plan.{Plan}
use Rattle.wdf_base.specs.declared.signature.Sort.TheVariants as sort
use Rattle.wdf_base.specs.declared.value.Value.{Value}
use Rattle.wdf_base.specs.declared.value.Value.TheVariants.{Num, Obj, Stat}
use Rattle.wdf_base.specs.Calls.{signature_of}
use Rattle.wdf_model.specs.declared.deed.Deed.{Deed}
use Rattle.wdf_model.specs.declared.deed.Deed.TheVariants.{CleanUp, EndLife}
use Rattle.wdf_model.specs.declared.entries.SentRequest.{SentRequest}
use Rattle.wdf_model.specs.Tables.{flag}
use Rattle.wdf_model.specs.agents.LowerTarget.{LowerTarget, handle_in_arg, stop_called, target_after, target_called, target_posted, told, told_all, told_any, told_one, with_sent, without_request}
use Rattle.wdf_model.specs.parts.Requests.{place_of}
use Rattle.wdf_model.specs.parts.Tree.{kind_of, life_of, may_clean}
use Rattle.wdf_model.specs.State.{State, nothing_at, object_in}
use Rattle.wdf_model.specs.rules.Deeds.{do_deed, do_deeds}
use Rattle.wdf_model.specs.rules.Faults.{View, is_request_kind, is_stale, is_wrong_kind}
use Rattle.wdf_base.specs.Values.{arg_is}
use Rattle.wdf_model.specs.rules.Ready.{IsRunOf, ready, state_after}
use Rattle.wdf_model.specs.rules.Starts.{clean_ready, is_finished, is_unused}
use Rattle.wdf_model.specs.rules.Steps.{after, deeds, may, view_of}
use Rattle.wdf_model.proofs.Counts.{count_cons}
use Rattle.wdf_model.proofs.Runs.{along_run}
use Rattle.wdf_model.proofs.Tests.{both_left, both_right, itself, not_false}
use Rattle.wdf_dev.specs.Agents.{agent_meaning}
use Rattle.wdf_dev.specs.declared.any.AnyAgent.{AnyAgent}
use Rattle.wdf_dev.specs.declared.any.AnyAgent.TheVariants as agent
use Rattle.law_machine_base.specs.Fits.{all_fit, fits}
use Rattle.law_machine_base.specs.OverRuns.{PlacesAgree}
use Rattle.law_machine_base.proofs.Fits.{wrong_kind_of_first}
use Rattle.law_machine_base.proofs.FitsOfEvents.{event_fits}
use Rattle.law_machine_base.proofs.Follows.{follows, state_goes_on}
use Rattle.law_machine_base.proofs.LawsOverRuns.{places_agree}
use Rattle.law_machine_base.proofs.OwnEvents.{IsDid, did_tells}
use Rattle.law_machine_deeds.specs.MayDo.{is_cleanup, may_do}
use Rattle.law_machine_deeds.proofs.Walk.{all_pass, event_may}
use Rattle.law_machine_lives.proofs.LevelEvents.{early_life, stale_first}
use Rattle.law_machine_lives.proofs.Lists.{Each, each_behind, each_kept}
use Rattle.law_machine_lives.proofs.Lives.{early_there}
use Rattle.law_machine_states.proofs.Early.{early_still}
use Rattle.law_trace_families.proofs.Stays.{event_stays}
use Rattle.law_handles.specs.Handles.{InArg, InCall, IsNamed}
use Rattle.law_handles.proofs.Events.{named_still}
use Rattle.law_handles.proofs.Runs.{call_named}
use Rattle.law_stack.proofs.Held.{sent_there}
use Rattle.law_stack.proofs.Undone.{undone}
use Rattle.law_stuck_causes.proofs.Endings.{at_the_end}
use Rattle.law_at_rest.proofs.Agents.{agents_after}
use Rattle.law_at_rest.proofs.Targets.{all_fresh, are_there, times, was_target}
use Rattle.law_machine_lives.proofs.QuietMoves.{each_two, ended_apart}

-- ---- an object that isn't past its cleanup

-- the cleanup, if the event is one, is another object's
abbrev Spares : Event → ℕ → Type 0
Spares (event.Cleanup o) x = x ≢ o.id.0
Spares _ x = ⊤

abbrev cleans_none : Deed → Bool
cleans_none (CleanUp o) = false
cleans_none _ = true

cleaning : (e : Event) → is_cleanup e ≡ false → (d : Deed) → may_do e d ≡ true → cleans_none d ≡ true
cleaning e off (CleanUp o) h = absurd (let z : ⊥ = cc in z)
cleaning e off d h = refl

module _ {A : Type 0} (plan : Plan) (x : ℕ) where
  early_one : (d : Deed) (S : State A) → fits plan d S ≡ true → cleans_none d ≡ true → is_past_cleanup (life_of S.tree x) ≡ false → is_past_cleanup (life_of (do_deed plan d S).tree x) ≡ false
  early_one (CleanUp o) S fit no_cleanup early = absurd (let z : ⊥ = cc in z)
  early_one (EndLife o) S fit no_cleanup early = early_still plan (EndLife o) S x (ended_apart S o.0 x fit early) early
  early_one d S fit no_cleanup early = early_still plan d S x (λ e. e) early

  early_all : (ds : List Deed) (S : State A) → all_fit plan ds S ≡ true → list_all cleans_none ds ≡ true → is_past_cleanup (life_of S.tree x) ≡ false → is_past_cleanup (life_of (do_deeds plan ds S).tree x) ≡ false
  early_all [] S fit no_cleanup early = early
  early_all (d ∷ ds) S fit no_cleanup early =
      early_all ds (do_deed plan d S) (both_right (fits plan d S) (all_fit plan ds (do_deed plan d S)) fit) (both_right (cleans_none d) (list_all cleans_none ds) no_cleanup)
      (early_one d S (both_left (fits plan d S) (all_fit plan ds (do_deed plan d S)) fit) (both_left (cleans_none d) (list_all cleans_none ds) no_cleanup) early)

  early_after : (m : Meaning A) (S : State A) (e : Event) → may plan m S e ≡ true → Spares e x → is_past_cleanup (life_of S.tree x) ≡ false → is_past_cleanup (life_of (after plan m S e).tree x) ≡ false
  early_after m S (event.Cleanup o) comes other early = early_still plan (CleanUp o.id) S x other early
  early_after m S e comes other early = early_all (deeds plan S e) S (event_fits plan m S e comes) (all_pass (may_do e) cleans_none (cleaning e refl) (deeds plan S e) (event_may plan S e)) early

-- ---- a request that a target has

-- it isn't cleaned up, and its handle has its name
pub record IsFine {A : Type 0} (plan : Plan) (S : State A) (h : Handle) : Type 0 where
  pub named : IsNamed plan S.tree h
  pub early : is_past_cleanup (life_of S.tree h.id.0) ≡ false
  pub request : is_request_kind (kind_of S.tree h.id.0) ≡ true

-- the event is a call that sends it
abbrev IsSentBy : Event → Handle → Type 0
IsSentBy (event.Did cpu c v) h = (c.kind ≡ call.WdfRequestSend) × (c.a ≡ Val (Obj h))
IsSentBy _ h = ⊥

unfinished_kind : (k : Kind) → is_request_kind k ≡ true → ((not (same_kind k kind.Request) || false) && (not (same_kind k kind.Made) || false)) ≡ false
unfinished_kind kind.Request h = refl
unfinished_kind kind.Made h = refl
unfinished_kind _ h = absurd (let z : ⊥ = cc in z)

unfinished : (t : ℕ) (k : Kind) (p : Place) → is_request_kind k ≡ true → is_sent_to t p ≡ true → ((not (same_kind k kind.Request) || is_done p) && (not (same_kind k kind.Made) || not (is_sent p))) ≡ false
unfinished t k (place.Sent u) h sent = unfinished_kind k h
unfinished t k _ h sent = absurd (let z : ⊥ = cc in z)

module _ {A : Type 0} (plan : Plan) (m : Meaning A) (S : State A) where
  -- no request that is at a target is cleaned up
  spared : (t : ℕ) (e : Event) (h : Handle) → may plan m S e ≡ true → IsFine plan S h → is_sent_to t (place_of S.requests h.id.0) ≡ true → Spares e h.id.0
  spared t (event.Cleanup o) h comes fine sent = λ same.
      let ready_ : clean_ready S o.id.0 ≡ true = both_left (clean_ready S o.id.0) true (event_fits plan m S (event.Cleanup o) comes) in
      let finished : is_finished S o.id.0 ≡ true = both_right (may_clean S.tree o.id.0 && is_unused S o.id.0) (is_finished S o.id.0) (both_left (may_clean S.tree o.id.0 && is_unused S o.id.0 && is_finished S o.id.0) (nothing_at S o.id.0) ready_) in
      let off : is_finished S h.id.0 ≡ false = unfinished t (kind_of S.tree h.id.0) (place_of S.requests h.id.0) fine.request sent in
      let on_ : is_finished S h.id.0 ≡ true = subst (λ y. is_finished S y ≡ true) (sym same) finished in
      let z : ⊥ = cc in z
  spared t e h comes fine sent = tt

  fine_after : (e : Event) (h : Handle) → may plan m S e ≡ true → Spares e h.id.0 → IsFine plan S h → IsFine plan (after plan m S e) h
  fine_after e h comes other fine =
      let stays = event_stays plan m S e comes in
      let early = early_after plan h.id.0 m S e comes other fine.early in
      record {
        named = named_still plan S.tree (after plan m S e).tree stays h fine.named;
        early = early;
        request = ap is_request_kind (stays.was h.id.0 fine.named.0 (early_there (life_of (after plan m S e).tree h.id.0) early)).kind ∙ fine.request;
      }

  fine_later : (time : ℕ) (h : Handle) → IsFine plan S h → IsFine plan (after plan m S (event.Tick time)) h
  fine_later time h fine = record { named = fine.named; early = fine.early; request = fine.request }

  -- one that is sent now
  sent_now : (cpu : ℕ) (c : Call) (v : Value) (h : Handle) (d : IsDid plan S cpu c v) → InCall (IsNamed plan S.tree) c → c.kind ≡ call.WdfRequestSend → c.a ≡ Val (Obj h) → IsFine plan S h
  sent_now cpu c v h d named is names =
      let view : View = view_of plan S cpu d.frame in
      let stale : is_stale view false sort.AnyRequest c.a ≡ false = subst (λ k. is_stale view (signature_of k).cleaned (signature_of k).a c.a ≡ false) is (stale_first view c (d.about.clean fault.StaleHandle)) in
      let wrong : is_wrong_kind view sort.AnyRequest c.a ≡ false = subst (λ k. is_wrong_kind view (signature_of k).a c.a ≡ false) is (wrong_kind_of_first view c (d.about.clean fault.WrongKind)) in
      let gone_ : is_stale view false sort.AnyRequest (Val (Obj h)) ≡ false = subst (λ a. is_stale view false sort.AnyRequest a ≡ false) names stale in
      let kind_ : is_wrong_kind view sort.AnyRequest (Val (Obj h)) ≡ false = subst (λ a. is_wrong_kind view sort.AnyRequest a ≡ false) names wrong in
      record {
        named = subst (InArg (IsNamed plan S.tree)) names named.0;
        early = early_life (life_of S.tree h.id.0) gone_;
        request = not_false (is_request_kind (kind_of S.tree h.id.0)) kind_;
      }

-- ---- what a target has after an event

abbrev On : (Handle → Type 0) → SentRequest → Type 0
On P s = P s.request

module _ (P : Handle → Type 0) where
  all_mapped : (f : SentRequest → SentRequest) → ((s : SentRequest) → On P s → On P (f s)) → (xs : List SentRequest) → Each (On P) xs → Each (On P) (map f xs)
  all_mapped f h [] each = tt
  all_mapped f h (s ∷ xs) each = (h s each.0, all_mapped f h xs each.1)

  one_told : (q : ℕ) (s : SentRequest) (b : Bool) → (s.request.id.0 == q) ≡ b → On P s → On P (told_one q s)
  one_told q s true e h = rw e h
  one_told q s false e h = rw e h

  either_all : (b : Bool) (u v : LowerTarget) → Each (On P) u.sent → Each (On P) v.sent → Each (On P) (if b then u else v).sent
  either_all true u v h k = h
  either_all false u v h k = k

  all_told : (t : LowerTarget) (q : ℕ) → Each (On P) t.sent → Each (On P) (told t q).sent
  all_told t q each = all_mapped (told_one q) (λ s. one_told q s (s.request.id.0 == q) refl) t.sent each

  all_stopped : (t : LowerTarget) (c : Call) → Each (On P) t.sent → Each (On P) (stop_called t c).sent
  all_stopped t c each = either_all (object_in c.a == t.target && arg_is c.b 0) (told_all t) t (all_mapped told_any (λ s h. h) t.sent each) each

  all_sent : (t : LowerTarget) (a : Arg) → Each (On P) t.sent → ((h : Handle) → a ≡ Val (Obj h) → P h) → Each (On P) (with_sent t (handle_in_arg a)).sent
  all_sent t (Val (Obj h)) each new = either_all (nat_lt (length t.sent) t.depth) _ t (each_behind (On P) t.sent _ each (new h refl, tt)) each
  all_sent t (Val (Num n)) each new = each
  all_sent t (Val (Stat s)) each new = each
  all_sent t (Class c) each new = each

  all_called : (t : LowerTarget) (k : CallKind) (n : ℕ) (a b c : Arg) (v : Value) → Each (On P) t.sent → ((h : Handle) → (k ≡ call.WdfRequestSend) × (a ≡ Val (Obj h)) → P h)
      → Each (On P) (target_called t (record { kind = k; count = n; a = a; b = b; c = c }) v).sent
  all_called t call.WdfRequestSend n a b c v each new = either_all (object_in b == t.target && same_value v (Num 1)) (with_sent t (handle_in_arg a)) t (all_sent t a each (λ h e. new h (refl, e))) each
  all_called t call.WdfRequestCancelSentRequest n a b c v each new = either_all (same_value v (Num 1)) (told t (object_in a)) t (all_told t (object_in a) each) each
  all_called t call.WdfIoTargetStop n a b c v each new = all_stopped t (record { kind = call.WdfIoTargetStop; count = n; a = a; b = b; c = c }) each
  all_called t _ n a b c v each new = each

  all_waiting : (t : LowerTarget) (cpu : Cpu) (k : CallKind) (n : ℕ) (a b c : Arg) → Each (On P) t.sent → Each (On P) (target_after t (event.Waiting cpu (record { kind = k; count = n; a = a; b = b; c = c }))).sent
  all_waiting t cpu call.WdfIoTargetStop n a b c each = all_stopped t (record { kind = call.WdfIoTargetStop; count = n; a = a; b = b; c = c }) each
  all_waiting t cpu _ n a b c each = each

  all_posted : (t : LowerTarget) (by : ℕ) (p : Post) (answer : Option Handle) → Each (On P) t.sent → Each (On P) (target_posted t by p answer).sent
  all_posted t by (post.Done r s) answer each = either_all (by == t.agent) (without_request t r.id.0) t (each_kept (On P) (On P) (λ (s : SentRequest). not (s.request.id.0 == r.id.0)) (λ s h k. h) t.sent each) each
  all_posted t by (post.Cancel j) None each = each
  all_posted t by (post.Cancel j) (Some r) each = all_told t r.id.0 each
  all_posted t by (post.Read d n) answer each = each
  all_posted t by (post.Write d n) answer each = each
  all_posted t by (post.Control d c n) answer each = each
  all_posted t by (post.Ask a d) answer each = each
  all_posted t by (post.Act a) answer each = each

  -- what is so of each that it had, and of one that is sent, is so of each that it has
  all_after : (t : LowerTarget) (e : Event) → Each (On P) t.sent → ((h : Handle) → IsSentBy e h → P h) → Each (On P) (target_after t e).sent
  all_after t (event.Did cpu c v) each new = all_called t c.kind c.count c.a c.b c.c v each new
  all_after t (event.Waiting cpu c) each new = all_waiting t cpu c.kind c.count c.a c.b c.c each
  all_after t (event.Posted by p answer) each new = all_posted t by p answer each
  all_after t (event.Tick time) each new = each
  all_after t _ each new = each

-- each that is there is counted
pub each_counted : (f : ℕ → ℕ) (xs : List SentRequest) → ((r : ℕ) → times r xs ≤ f r) → Each (λ (s : SentRequest). 1 ≤ f s.request.id.0) xs
each_counted f [] h = tt
each_counted f (s ∷ xs) h = (
  let here = count_cons (λ (x : SentRequest). x.request.id.0 == s.request.id.0) s xs in
      let one : flag (s.request.id.0 == s.request.id.0) ≡ 1 = ap flag (itself s.request.id.0) in
      let most = h s.request.id.0 in
      omega (arith, here, one, most),
  each_counted f xs (λ r. let here = count_cons (λ (x : SentRequest). x.request.id.0 == r) s xs in let most = h r in omega (arith, here, most)),
)

-- ---- along a run

-- each request that a target has is fine
abbrev pub AllFine : Plan → State AnyAgent → Type 0
AllFine plan S = (k : ℕ) (t : LowerTarget) → slice_get S.agents k ≡ Some (agent.LowerTarget t) → Each (On (IsFine plan S)) t.sent

module _ (plan : Plan) (resolved : IsResolved plan) where
  abbrev At : List Event → Type 0
  At run = AllFine plan (state_after plan agent_meaning run)

  opens : At []
  unfolding state_after
  opens k t at =
      let none : t.sent ≡ [] = all_fresh plan 0 _ k (agent.LowerTarget t) at in
      rw none tt

  -- an event, of which each target hears
  still : (S : State AnyAgent) (e : Event) → ((k : ℕ) (t : LowerTarget) → slice_get S.agents k ≡ Some (agent.LowerTarget t) → Each (On (IsFine plan (after plan agent_meaning S e))) (target_after t e).sent)
      → AllFine plan (after plan agent_meaning S e)
  still S e each k u at =
      let was = was_target e S.agents k u (subst (λ xs. slice_get xs k ≡ Some (agent.LowerTarget u)) (agents_after plan agent_meaning S e) at) in
      subst (λ (x : LowerTarget). Each (On (IsFine plan (after plan agent_meaning S e))) x.sent) was.same (each k was.before was.there)

  module _ (run : List Event) (is_run : IsRunOf plan agent_meaning run) where
    abbrev S : State AnyAgent
    S = state_after plan agent_meaning run

    places : PlacesAgree (state_after plan agent_meaning run)
    places = at_the_end plan agent_meaning (λ (T : State AnyAgent). PlacesAgree T) run (places_agree plan agent_meaning run is_run)

    -- what a target has is at it
    pub each_there : (k : ℕ) (t : LowerTarget) → slice_get S.agents k ≡ Some (agent.LowerTarget t) → Each (λ (s : SentRequest). 1 ≤ undone S.targets t.target s.request.id.0) t.sent
    each_there k t at = each_counted (undone S.targets t.target) t.sent (are_there plan resolved run is_run k t at)

    new_fine : (e : Event) (h : Handle) → may plan agent_meaning S e ≡ true → IsSentBy e h → IsFine plan (after plan agent_meaning S e) h
    new_fine (event.Did cpu c v) h comes is =
        let d = did_tells plan agent_meaning S cpu c v comes in
        fine_after plan agent_meaning S (event.Did cpu c v) h comes tt (sent_now plan agent_meaning S cpu.0 c v h d (call_named plan agent_meaning run resolved is_run cpu.0 c v d) is.0 is.1)
    new_fine _ h comes is = absurd is

    comes_fine : (e : Event) → may plan agent_meaning S e ≡ true → AllFine plan S → AllFine plan (after plan agent_meaning S e)
    comes_fine e comes here =
        let U = after plan agent_meaning S e in
        still S e (λ k t at. all_after (IsFine plan U) t e
        (each_two (On (IsFine plan S)) (λ (s : SentRequest). 1 ≤ undone S.targets t.target s.request.id.0) (On (IsFine plan U))
        (λ s fine there. fine_after plan agent_meaning S e s.request comes (spared plan agent_meaning S t.target e s.request comes fine (sent_there S t.target places s.request.id.0 there)) fine)
        t.sent (here k t at) (each_there k t at))
        (λ h is. new_fine e h comes is))

    ticks_fine : (time : ℕ) → AllFine plan S → AllFine plan (after plan agent_meaning S (event.Tick time))
    ticks_fine time here =
        let U = after plan agent_meaning S (event.Tick time) in
        still S (event.Tick time) (λ k t at. all_after (IsFine plan U) t (event.Tick time)
        (each_two (On (IsFine plan S)) (On (IsFine plan S)) (On (IsFine plan U)) (λ s fine same. fine_later plan agent_meaning S time s.request fine) t.sent (here k t at) (here k t at))
        (λ h is. absurd is))

  goes_on : (run : List Event) (e : Event) (place : ℕ) → IsRunOf plan agent_meaning run → At run → slice_get (ready plan agent_meaning run) place ≡ Some e → At (run ++ e ∷ [])
  goes_on run e place is_run here at =
      let next : AllFine plan (after plan agent_meaning (state_after plan agent_meaning run) e) = elim (follows plan agent_meaning run place e at) [
        | inl comes ↦ comes_fine run is_run e comes here
        | inr time ↦ subst (λ x. AllFine plan (after plan agent_meaning (state_after plan agent_meaning run) x)) (sym time.tick) (ticks_fine run is_run ((state_after plan agent_meaning run).clock + 1) here)
      ] in
      subst (λ (T : State AnyAgent). AllFine plan T) (sym (state_goes_on plan agent_meaning run e)) next

  -- at the end of a run
  pub all_fine : (run : List Event) → IsRunOf plan agent_meaning run → AllFine plan (state_after plan agent_meaning run)
  all_fine run is_run =
      at_the_end plan agent_meaning (λ (T : State AnyAgent). AllFine plan T) run (along_run At (ready plan agent_meaning) run opens (λ before e place before_run here at. goes_on before e place before_run here at) is_run)
