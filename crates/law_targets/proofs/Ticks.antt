-- When time passes, no request that a target has is due.
use Rattle.std.proofs.Common.{if◌then◌else◌, ◌≡◌, inl, inr, ℕ, suc, ◌+◌, ◌<◌, ◌≤◌, nat_lt, Bool, true, false, ◌&&◌, List, [], ◌∷◌, find, length, Option, Some, None, option_map, slice_get, take, refl, ap, subst, ◌∙◌, arith, length-append}
use Rattle.std.specs.Prelude.{option_and_then}
use Rattle.std.proofs.lemmas.Option.{same_Some}
use Rattle.wdf_base.proofs.Tests.{all_three, both}
use Rattle.wdf_base.specs.Meaning.{Meaning}
use Rattle.wdf_base.specs.Places.{is_sent_to}
use Rattle.wdf_base.specs.Resolved.{IsResolved}
use Rattle.wdf_base.specs.Same.{same_handle, same_option, same_post, same_status}
use Rattle.wdf_base.specs.declared.event.Event.{Event}
use Rattle.wdf_base.specs.declared.event.Event.TheVariants as event
use Rattle.wdf_base.specs.declared.event.Fault.{Fault}
use Rattle.wdf_base.specs.declared.event.Post.{Post}
use Rattle.wdf_base.specs.declared.event.Post.TheVariants as post
use Rattle.wdf_base.specs.declared.ids.Handle.{Handle}
use Rattle.wdf_base.specs.declared.plan.Plan.{Plan}
use Rattle.wdf_base.specs.declared.value.Status.{Status}
use Rattle.wdf_model.specs.declared.entries.SentRequest.{SentRequest}
use Rattle.wdf_model.specs.declared.enums.Group.TheVariants as group
use Rattle.wdf_model.specs.Plans.{target_of_agent}
use Rattle.wdf_model.specs.State.{State, handle_in, is_proper}
use Rattle.wdf_model.specs.agents.LowerTarget.{LowerTarget, done_post, final_status, is_due_sent}
use Rattle.wdf_model.specs.parts.Requests.{place_of}
use Rattle.wdf_model.specs.parts.Targets.{is_undone}
use Rattle.wdf_model.specs.parts.Tree.{life_of}
use Rattle.wdf_model.specs.rules.Groups.{candidate, candidates}
use Rattle.wdf_model.specs.rules.Posts.{due_of, may_finish, post_answer, post_fits}
use Rattle.wdf_model.specs.rules.Ready.{IsRunOf, allowed, last_fault, or_tick, ready, ready_in, state_after, unless_fault}
use Rattle.wdf_model.specs.rules.Steps.{may}
use Rattle.wdf_model.proofs.Counts.{equal}
use Rattle.wdf_model.proofs.Runs.{run_front}
use Rattle.wdf_model.proofs.Sames.{handle_decides, status_decides}
use Rattle.wdf_model.proofs.Tests.{in_filter}
use Rattle.wdf_dev.specs.Agents.{agent_meaning}
use Rattle.wdf_dev.specs.declared.any.AnyAgent.{AnyAgent}
use Rattle.wdf_dev.specs.declared.any.AnyAgent.TheVariants as agent
use Rattle.law_at_rest.proofs.Proper.{IsFine, all_fine, each_there}
use Rattle.law_at_rest.proofs.Targets.{waits_undone}
use Rattle.law_machine_base.specs.OverRuns.{PlacesAgree}
use Rattle.law_machine_base.proofs.LawsOverRuns.{places_agree}
use Rattle.law_machine_lives.proofs.Lists.{Each}
use Rattle.law_machine_lives.proofs.Lives.{early_there}
use Rattle.law_machine_room.proofs.RoomLaws.{room_is_kept}
use Rattle.law_stack.proofs.Held.{sent_there}
use Rattle.law_stack.proofs.Undone.{undone}
use Rattle.law_stuck_causes.proofs.Members.{Has, none_passes}
use Rattle.law_stuck_causes.proofs.Needs.{framework_group, placed_at}
use Rattle.law_trace_power.proofs.Laws.{comes_by}
use Rattle.law_targets.specs.Targets.{IsAt, IsNotDue, delay_of}
use Rattle.law_targets.proofs.Agents.{seen, usual_target}
use Rattle.law_targets.proofs.Found.{none_due}
use Rattle.law_targets.proofs.Numbers.{is_there}
use Rattle.law_targets.proofs.Runs.{as_events, knows_at, waits}
use Rattle.law_trace_families.proofs.Orders.{get_within}

-- ---- nothing else may come

module _ {A : Type 0} (plan : Plan) (m : Meaning A) (run : List Event) (is_run : IsRunOf plan m run) (n : ℕ) where
  abbrev S : State A
  S = state_after plan m (take n run)

  first_is_tick : (es : List Event) (t : ℕ) → allowed plan m S ≡ es → or_tick m S es ≡ event.Tick t ∷ [] → es ≡ []
  first_is_tick [] t e h = refl
  first_is_tick (x ∷ xs) t e h =
      let same : x ≡ event.Tick t = cc in
      let ok : may plan m S x ≡ true = in_filter (may plan m S) (candidates plan m S) 0 x (ap (λ ys. slice_get ys 0) e) in
      absurd (let off : may plan m S (event.Tick t) ≡ true = subst (λ y. may plan m S y ≡ true) same ok in let z : ⊥ = cc in z)

  nothing_in : (b : Bool) (t : ℕ) → nat_lt S.number plan.limit ≡ b → (if b then or_tick m S (allowed plan m S) else []) ≡ event.Tick t ∷ [] → allowed plan m S ≡ []
  nothing_in true t e h = first_is_tick (allowed plan m S) t refl h
  nothing_in false t e h = absurd (let z : ⊥ = cc in z)

  nothing_by : (x : Option Fault) (t : ℕ) → unless_fault x (ready_in plan m S) ≡ event.Tick t ∷ [] → allowed plan m S ≡ []
  nothing_by None t h = nothing_in (nat_lt S.number plan.limit) t refl h
  nothing_by (Some x) t h = absurd (let z : ⊥ = cc in z)

  nothing_else : (t : ℕ) → ready plan m (take n run) ≡ event.Tick t ∷ [] → allowed plan m S ≡ []
  unfolding ready
  nothing_else t h = nothing_by (last_fault (take n run)) t h

  tick_alone : (time : ℕ) → slice_get run n ≡ Some (event.Tick time) → allowed plan m S ≡ []
  tick_alone time at = elim (comes_by plan m run n (event.Tick time) is_run at) [
    | inl may_ ↦ absurd (let z : ⊥ = cc in z)
    | inr tick ↦ nothing_else (S.clock + 1) tick.alone
  ]

  -- so what is due doesn't fit
  none_fits : (time k : ℕ) (h : Handle) (s : Status) → slice_get run n ≡ Some (event.Tick time) → k < length S.agents → due_of m S k ≡ Some (post.Done h s) → post_fits plan S k (post.Done h s) ≡ true → ⊥
  none_fits time k h s at low due fits =
      let p : Post = post.Done h s in
      let e : Event = event.Posted k p None in
      let here : candidate plan m S group.Posts k ≡ Some e = rw due refl in
      let there : Has e (candidates plan m S) = framework_group plan m S group.Posts e (inr (inr (inr (inr (inl refl))))) (placed_at plan m S group.Posts (length S.agents) k e low here) in
      let off : may plan m S e ≡ false = none_passes (may plan m S) (candidates plan m S) (tick_alone time at) e there in
      let same : same_post p p ≡ true = both (same_handle h h) (same_status s s) ((handle_decides h h).1 refl) ((status_decides s s).1 refl) in
      let comes_ : may plan m S e ≡ true = all_three (same_option same_post (due_of m S k) (Some p)) (post_fits plan S k p) (same_option same_handle (post_answer plan S k p) None) (rw due same) fits refl in
      let z : ⊥ = cc in z

-- ---- a target may be done with what it has

found_by : {T : Type 0} (P : T → Type 0) (p : T → Bool) (y x : T) (ys : List T) (b : Bool) → P y → (find p ys ≡ Some x → P x) → (if b then Some y else find p ys) ≡ Some x → P x
found_by P p y x ys true h rest e = subst P (same_Some y x e) h
found_by P p y x ys false h rest e = rest e

found_in : {T : Type 0} (P : T → Type 0) (p : T → Bool) (xs : List T) (x : T) → Each P xs → find p xs ≡ Some x → P x
found_in P p [] x h at = absurd (let z : ⊥ = cc in z)
found_in P p (y ∷ ys) x h at = found_by P p y x ys (p y) h.0 (found_in P p ys x h.1) at

seen_is : (a : AnyAgent) (u : LowerTarget) → seen a ≡ Some u → a ≡ agent.LowerTarget u
seen_is (agent.LowerTarget x) u h = ap agent.LowerTarget (same_Some x u h)
seen_is _ u h = absurd (let z : ⊥ = cc in z)

module _ (plan : Plan) (run : List Event) (resolved : IsResolved plan) (is_run : IsRunOf plan agent_meaning run) (n k t : ℕ) (number : target_of_agent plan k ≡ Some t) where
  abbrev es : List Event
  es = take n run

  abbrev here : State AnyAgent
  here = state_after plan agent_meaning es

  abbrev u : LowerTarget
  u = as_events plan agent_meaning k t (usual_target plan k t number) es

  so_far : IsRunOf plan agent_meaning es
  so_far = run_front (ready plan agent_meaning) run n is_run

  low : k < length here.agents
  low = let all = (room_is_kept plan agent_meaning run resolved is_run n).sizes.agents in let one = is_there plan resolved k t number in omega (arith, all, one)

  agent_is : slice_get here.agents k ≡ Some (agent.LowerTarget u)
  agent_is = let a = get_within here.agents k low in a.1 ∙ ap Some (seen_is a.0 u ((knows_at plan agent_meaning k t (usual_target plan k t number) run is_run n).sees a.0 a.1))

  places : PlacesAgree here
  places = places_agree plan agent_meaning run is_run n

  fits : (x : SentRequest) → IsFine plan here x.request → 1 ≤ undone here.targets t x.request.id.0 → may_finish plan here (target_of_agent plan k) x.request ≡ true
  fits x fine there =
      let proper : is_proper plan here x.request ≡ true = equal x.request.name (handle_in plan here x.request.id.0).name (fine.named.1 (early_there (life_of here.tree x.request.id.0) fine.early)) in
      let sent : is_sent_to t (place_of here.requests x.request.id.0) ≡ true = sent_there here t places x.request.id.0 there in
      let waits_ : is_undone here.targets x.request.id.0 ≡ true = waits_undone here t x.request.id.0 places there in
      rw number
      (both (is_proper plan here x.request && is_sent_to t (place_of here.requests x.request.id.0)) (is_undone here.targets x.request.id.0)
      (both (is_proper plan here x.request) (is_sent_to t (place_of here.requests x.request.id.0)) proper sent) waits_)

  pub none_by : (time : ℕ) → slice_get run n ≡ Some (event.Tick time) → (o : Option SentRequest) → find (is_due_sent u.clock) u.sent ≡ o → find (is_due_sent u.clock) u.sent ≡ None
  none_by time at None is = is
  none_by time at (Some x) is =
      let due : due_of agent_meaning here k ≡ Some (done_post u.status x) = ap (option_and_then agent_meaning.due) agent_is ∙ ap (option_map (done_post u.status)) is in
      let fine = found_in (λ (y : SentRequest). IsFine plan here y.request) (is_due_sent u.clock) u.sent x (all_fine plan resolved es so_far k u agent_is) is in
      let there = found_in (λ (y : SentRequest). 1 ≤ undone here.targets t y.request.id.0) (is_due_sent u.clock) u.sent x (each_there plan resolved es so_far k u agent_is) is in
      absurd (none_fits plan agent_meaning run is_run n time k x.request (final_status u.status x) at low due (fits x fine there))

  pub none_is_due : (time : ℕ) → slice_get run n ≡ Some (event.Tick time) → (h : Handle) (it : IsAt t h es) → IsNotDue plan t h es it
  none_is_due time at h it =
      let none = none_by time at (find (is_due_sent u.clock) u.sent) refl in
      let longer : length es ≡ length it.before + suc (length it.since) = ap length it.parts ∙ length-append it.before (it.send ∷ it.since) in
      waits plan agent_meaning run resolved is_run k t (usual_target plan k t number) n h it
      (none_due t (delay_of plan t) u.clock 0 es none it.before it.send it.since h it.parts it.sent it.undone (omega (arith, longer)))
