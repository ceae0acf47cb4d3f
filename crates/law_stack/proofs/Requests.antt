-- The laws on requests that go down a stack, at each place of a run.
use Rattle.std.proofs.Common.{◌≡◌, ℕ, ◌+◌, true, ◌&&◌, List, [], ◌∷◌, ◌++◌, ◌⊎◌, inl, inr, take, Option, Some, None, option_and_then, slice_get, refl, sym, ap, subst, ◌∙◌}
use Rattle.std.specs.List.{list_any}
use Rattle.wdf_base.specs.Meaning.{Meaning}
use Rattle.wdf_base.specs.declared.plan.Plan.{Plan}
use Rattle.wdf_base.specs.declared.ids.Handle.{Handle}
use Rattle.wdf_base.specs.declared.value.Status.{Status}
use Rattle.wdf_base.specs.declared.event.Post.{Post}
use Rattle.wdf_base.specs.declared.event.Post.TheVariants as post
use Rattle.wdf_base.specs.declared.event.Event.{Event}
use Rattle.wdf_base.specs.declared.event.Event.TheVariants as event
use Rattle.wdf_base.specs.Same.{same_handle, same_option, same_post}
use Rattle.wdf_base.specs.Posts.{is_request}
use Rattle.wdf_model.specs.State.{State, opening}
use Rattle.wdf_model.specs.rules.Posts.{due_of, post_answer, post_fits}
use Rattle.wdf_model.specs.rules.Ready.{IsRunOf, ready, state_after}
use Rattle.wdf_model.specs.rules.Steps.{after, may}
use Rattle.wdf_model.specs.agents.Connector as connector
use Rattle.wdf_model.specs.agents.Connector.{connector_due}
use Rattle.wdf_model.specs.agents.StackAgent as stack
use Rattle.wdf_model.specs.agents.StackAgent.{StackAgent, agent_after, agent_due}
use Rattle.wdf_model.proofs.Runs.{along_run}
use Rattle.wdf_model.proofs.Tests.{both_left}
use Rattle.law_machine_base.specs.FactsOfEvents.{IsTick}
use Rattle.law_machine_base.specs.OverRuns.{PlacesAgree}
use Rattle.law_machine_base.proofs.Follows.{follows, state_goes_on}
use Rattle.law_machine_lives.proofs.Keeping.{comes, known_now}
use Rattle.law_stack.specs.Agents.{IsStackMeaning}
use Rattle.law_stack.specs.Laws.{arrival_belongs, done_is_caused, request_law, request_post_keeps}
use Rattle.law_stack.specs.Words.{connector_of, has_no_arrival, passings}
use Rattle.law_stack.proofs.Connectors.{AgentKept, IsKept, kept_next, kept_ticks}
use Rattle.law_stack.proofs.Dues.{arrival_is_sent, done_has_cause, due_is_for, same_asks, same_done}
use Rattle.law_stack.proofs.Heard.{agent_before, opens_as}
use Rattle.law_stack.proofs.Openings.{agent_opens}

module _ {A : Type 0} (plan : Plan) (m : Meaning A) (is : IsStackMeaning m) where
  -- each agent is kept
  abbrev pub AllKept : List Event → State A → Type 0
  AllKept es S = (k : ℕ) (a : A) → slice_get S.agents k ≡ Some a → AgentKept plan es S k (is.seen a)

  next_by : (es : List Event) (S : State A) (k : ℕ) (x : StackAgent) (e : Event) → PlacesAgree S → may plan m S e ≡ true → AgentKept plan es S k x → AgentKept plan (es ++ e ∷ []) (after plan m S e) k (agent_after x e)
  next_by es S k (stack.Connector c) e places may_ h = kept_next plan m es S places k c h e may_
  next_by es S k (stack.StackManager x) e places may_ h = h
  next_by es S k (stack.App x) e places may_ h = h
  next_by es S k (stack.Device x) e places may_ h = h
  next_by es S k (stack.LowerTarget x) e places may_ h = h

  ticks_by : (es : List Event) (S : State A) (k : ℕ) (x : StackAgent) (time : ℕ) → PlacesAgree S → AgentKept plan es S k x → AgentKept plan (es ++ event.Tick time ∷ []) (after plan m S (event.Tick time)) k (agent_after x (event.Tick time))
  ticks_by es S k (stack.Connector c) time places h = kept_ticks plan m es S places k c h time
  ticks_by es S k (stack.StackManager x) time places h = h
  ticks_by es S k (stack.App x) time places h = h
  ticks_by es S k (stack.Device x) time places h = h
  ticks_by es S k (stack.LowerTarget x) time places h = h

  all_next : (es : List Event) (S : State A) (e : Event) → PlacesAgree S → may plan m S e ≡ true → AllKept es S → AllKept (es ++ e ∷ []) (after plan m S e)
  all_next es S e places may_ h k a at =
      let w = agent_before m is plan S e k a at in
      subst (AgentKept plan (es ++ e ∷ []) (after plan m S e) k) (sym w.heard) (next_by es S k (is.seen w.was) e places may_ (h k w.was w.at))

  all_tick : (es : List Event) (S : State A) (time : ℕ) → PlacesAgree S → AllKept es S → AllKept (es ++ event.Tick time ∷ []) (after plan m S (event.Tick time))
  all_tick es S time places h k a at =
      let w = agent_before m is plan S (event.Tick time) k a at in
      subst (AgentKept plan (es ++ event.Tick time ∷ []) (after plan m S (event.Tick time)) k) (sym w.heard) (ticks_by es S k (is.seen w.was) time places (h k w.was w.at))

  all_after : (es : List Event) (S : State A) (offered : List Event) (e : Event) → PlacesAgree S → (may plan m S e ≡ true) ⊎ IsTick m S offered e → AllKept es S → AllKept (es ++ e ∷ []) (after plan m S e)
  all_after es S offered e places (inl h) kept = all_next es S e places h kept
  all_after es S offered e places (inr t) kept = subst (λ x. AllKept (es ++ x ∷ []) (after plan m S x)) (sym t.tick) (all_tick es S (S.clock + 1) places kept)

  opening_is : state_after plan m [] ≡ opening plan m
  unfolding state_after
  opening_is = refl

  all_open : AllKept [] (state_after plan m [])
  all_open = subst (AllKept []) (sym opening_is) (λ k a at. subst (AgentKept plan [] (opening plan m) k) (sym (opens_as m is plan _ k a at)) (agent_opens plan m k))

  -- at each place of a run
  pub all_kept : (run : List Event) → IsRunOf plan m run → (n : ℕ) → AllKept (take n run) (state_after plan m (take n run))
  all_kept run is_run n =
      along_run (λ es. AllKept es (state_after plan m es)) (ready plan m) run all_open
      (λ before e place so_far held at.
      subst (AllKept (before ++ e ∷ [])) (sym (state_goes_on plan m before e))
      (all_after before (state_after plan m before) (ready plan m before) e (known_now plan m before so_far).places (follows plan m before place e at) held))
      is_run n

  -- ---- a post that comes

  -- an agent's post is due
  pub record IsDue (S : State A) (k : ℕ) (p : Post) : Type 0 where
    pub agent : A
    pub at : slice_get S.agents k ≡ Some agent
    pub due : Post
    pub is_due : agent_due (is.seen agent) ≡ Some due
    pub same : same_post due p ≡ true

  due_by : (S : State A) (k : ℕ) (p : Post) (o : Option A) → slice_get S.agents k ≡ o → same_option same_post (option_and_then m.due o) (Some p) ≡ true → IsDue S k p
  due_by S k p None e h = absurd (let z : ⊥ = cc in z)
  due_by S k p (Some a) e h = due_is (m.due a) refl h
    where
      due_is : (d : Option Post) → m.due a ≡ d → same_option same_post (m.due a) (Some p) ≡ true → IsDue S k p
      due_is None f g = absurd (let n : same_option same_post None (Some p) ≡ true = rw f at g in let z : ⊥ = cc in z)
      due_is (Some d) f g = record { agent = a; at = e; due = d; is_due = sym (is.dues a) ∙ f; same = rw f at g }

  pub posted_is_due : (S : State A) (k : ℕ) (p : Post) (answer : Option Handle) → may plan m S (event.Posted k p answer) ≡ true → IsDue S k p
  posted_is_due S k p answer h =
      due_by S k p (slice_get S.agents k) refl
      (both_left (same_option same_post (due_of m S k) (Some p)) (post_fits plan S k p) (both_left (same_option same_post (due_of m S k) (Some p) && post_fits plan S k p) (same_option same_handle (post_answer plan S k p) answer) h))

  -- the connector that posts
  pub record Posts (es : List Event) (S : State A) (k t : ℕ) (p : Post) : Type 0 where
    pub connector : connector.Connector
    pub target : connector.target ≡ t
    pub kept : IsKept plan es S k connector
    pub due : Post
    pub is_due : connector_due connector ≡ Some due
    pub same : same_post due p ≡ true

  posts_by : (es : List Event) (S : State A) (k t : ℕ) (p : Post) (x : StackAgent) (d : Post) → AgentKept plan es S k x → connector_of plan k ≡ Some t → agent_due x ≡ Some d → same_post d p ≡ true → Posts es S k t p
  posts_by es S k t p (stack.Connector c) d h at due same = record { connector = c; target = (let e : Some c.target ≡ Some t = sym h.is ∙ at in cc); kept = h; due = d; is_due = due; same = same }
  posts_by es S k t p (stack.StackManager x) d h at due same = absurd (let e : None ≡ Some t = sym h ∙ at in let z : ⊥ = cc in z)
  posts_by es S k t p (stack.App x) d h at due same = absurd (let e : None ≡ Some t = sym h ∙ at in let z : ⊥ = cc in z)
  posts_by es S k t p (stack.Device x) d h at due same = absurd (let e : None ≡ Some t = sym h ∙ at in let z : ⊥ = cc in z)
  posts_by es S k t p (stack.LowerTarget x) d h at due same = absurd (let e : None ≡ Some t = sym h ∙ at in let z : ⊥ = cc in z)

  module _ (run : List Event) (is_run : IsRunOf plan m run) (n k : ℕ) (p : Post) (answer : Option Handle) (at : slice_get run n ≡ Some (event.Posted k p answer)) where
    abbrev before : List Event
    before = take n run

    pub comes_due : IsDue (state_after plan m before) k p
    comes_due = posted_is_due (state_after plan m before) k p answer (comes plan m run n (event.Posted k p answer) is_run at (λ time e. let z : ⊥ = cc in z))

    by_connector : (t : ℕ) → connector_of plan k ≡ Some t → Posts before (state_after plan m before) k t p
    by_connector t e =
        let d = comes_due in
        posts_by before (state_after plan m before) k t p (is.seen d.agent) d.due (all_kept run is_run n k d.agent d.at) e d.is_due d.same

    arrival_by : (o : Option ℕ) → connector_of plan k ≡ o → is_request p ≡ true → arrival_belongs before k o ≡ true
    arrival_by None e asks = refl
    arrival_by (Some t) e asks =
        let it = by_connector t e in
        let for = due_is_for before it.connector.room it.connector.sent (passings it.connector.target k before) it.due it.kept.agrees.alike it.is_due in
        subst (λ x. list_any has_no_arrival (passings x k before) ≡ true) it.target
        (arrival_is_sent before it.connector.room (passings it.connector.target k before) it.due for (same_asks it.due p it.same asks))

    -- (a)
    pub arrival_law : is_request p ≡ true → arrival_belongs before k (connector_of plan k) ≡ true
    arrival_law asks = arrival_by (connector_of plan k) refl asks

    done_by : (o : Option ℕ) (r : Handle) (s : Status) → connector_of plan k ≡ o → p ≡ post.Done r s → done_is_caused plan before k o r.id.0 s ≡ true
    done_by None r s e is_done = refl
    done_by (Some t) r s e is_done =
        let it = by_connector t e in
        let due : it.due ≡ post.Done r s = same_done it.due r s (subst (λ q. same_post it.due q ≡ true) is_done it.same) in
        let for = due_is_for before it.connector.room it.connector.sent (passings it.connector.target k before) (post.Done r s) it.kept.agrees.alike (it.is_due ∙ ap Some due) in
        subst (λ x. done_is_caused plan before k (Some x) r.id.0 s ≡ true) it.target
        (done_has_cause plan before it.connector.room (passings it.connector.target k before) r s it.kept.room for)

    -- (b)
    pub done_law : (r : Handle) (s : Status) → p ≡ post.Done r s → done_is_caused plan before k (connector_of plan k) r.id.0 s ≡ true
    done_law r s is_done = done_by (connector_of plan k) r s refl is_done

-- ---- both laws

law_by : {A : Type 0} (plan : Plan) (m : Meaning A) (is : IsStackMeaning m) (run : List Event) (is_run : IsRunOf plan m run) (n k : ℕ) (p : Post) (answer : Option Handle) (at : slice_get run n ≡ Some (event.Posted k p answer))
    → request_post_keeps plan (take n run) k p ≡ true
law_by plan m is run is_run n k (post.Read d x) answer at = arrival_law plan m is run is_run n k (post.Read d x) answer at refl
law_by plan m is run is_run n k (post.Write d x) answer at = arrival_law plan m is run is_run n k (post.Write d x) answer at refl
law_by plan m is run is_run n k (post.Control d c x) answer at = arrival_law plan m is run is_run n k (post.Control d c x) answer at refl
law_by plan m is run is_run n k (post.Done r s) answer at = done_law plan m is run is_run n k (post.Done r s) answer at r s refl
law_by plan m is run is_run n k (post.Cancel x) answer at = refl
law_by plan m is run is_run n k (post.Ask a d) answer at = refl
law_by plan m is run is_run n k (post.Act a) answer at = refl

pub requests_keep : {A : Type 0} (plan : Plan) (m : Meaning A) (run : List Event) (n : ℕ) (e : Event) → IsStackMeaning m → IsRunOf plan m run → slice_get run n ≡ Some e → request_law plan (take n run) e ≡ true
requests_keep plan m run n (event.Posted k p answer) is is_run at = law_by plan m is run is_run n k p answer at
requests_keep plan m run n _ is is_run at = refl
