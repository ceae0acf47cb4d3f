-- Along each run the values that the state keeps are of the plan, and so is each event that may follow.
use Rattle.std.proofs.Common.{◌≡◌, ℕ, zero, suc, ◌+◌, ◌==◌, ◌<◌, ◌^◌, true, ◌&&◌, List, [], ◌∷◌, ◌++◌, inl, inr, length, map, fold, take, Option, Some, None, option_and_then, slice_get, refl, sym, ap, subst, ◌∙◌, arith}
use Rattle.std.specs.List.{range_with_len}
use Rattle.std.proofs.lemmas.Bool.{eqb-true}
use Rattle.std.proofs.lemmas.List.Sums.{fold-append}
use Rattle.std.proofs.Math.Seq.{take-length}
use Rattle.wdf_base.specs.Meaning.{Meaning}
use Rattle.wdf_base.specs.Resolved.{IsResolved}
use Rattle.wdf_base.specs.Same.{same_action, same_handle, same_option, same_post}
use Rattle.wdf_base.specs.declared.plan.Plan.{Plan}
use Rattle.wdf_base.specs.declared.ids.Handle.{Handle}
use Rattle.wdf_base.specs.declared.event.Action.{Action}
use Rattle.wdf_base.specs.declared.event.Action.TheVariants as action
use Rattle.wdf_base.specs.declared.event.Ending.TheVariants as ending
use Rattle.wdf_base.specs.declared.event.Event.{Event}
use Rattle.wdf_base.specs.declared.event.Event.TheVariants as event
use Rattle.wdf_base.specs.declared.event.Post.{Post}
use Rattle.wdf_base.specs.declared.event.Post.TheVariants as post
use Rattle.wdf_base.specs.declared.declared.Declared.{Declared}
use Rattle.wdf_model.specs.Tables.{entry}
use Rattle.wdf_model.specs.Plans.{agent_count, agent_of_device}
use Rattle.wdf_model.specs.parts.Tree.{cell_of, declared_node, gone, opening_tree}
use Rattle.wdf_model.specs.State.{State}
use Rattle.wdf_model.specs.rules.Deeds.{do_deeds, told}
use Rattle.wdf_model.specs.rules.Posts.{due_of, post_answer, post_fits}
use Rattle.wdf_model.specs.rules.Starts.{shown, value_of_agent}
use Rattle.wdf_model.specs.rules.Steps.{after, deeds, may}
use Rattle.wdf_model.specs.rules.Ready.{IsRunOf, ending_of, ready, state_after}
use Rattle.wdf_model.proofs.Counting.{counted_first, counting_commutes}
use Rattle.law_machine_base.proofs.Follows.{follows, state_goes_on}
use Rattle.wdf_model.proofs.Runs.{along_run}
use Rattle.wdf_model.proofs.Tests.{both_left, both_right}
use Rattle.law_machine_lives.proofs.Keeping.{at_the_end}
use Rattle.law_machine_room.proofs.DoableRuns.{ready_doable}
use Rattle.wdf_run_text.specs.Texts.{HasEventsOf, text_of}
use Rattle.wdf_run_text.proofs.EventsOfPlans.{none_among, one_more}
use Rattle.law_lines.proofs.OneRun.{same_text}
use Rattle.wdf_trace.specs.Events.{IsEventOf, IsValueOf}
use Rattle.law_lines.specs.Framework.{is_of_framework}
use Rattle.law_lines.specs.PostNumbers.{ActionNumbersFit, PostNumbersFit}
use Rattle.law_lines.proofs.OfPlan.{bounded, framework_of_plan}
use Rattle.law_lines.proofs.Posting.{posts_of_plan}
use Rattle.law_lines.specs.Agents.{HasFittingAgents, agent_after_events}
use Rattle.law_lines.specs.Fitting.{HasFittingNumbers}
use Rattle.law_lines.specs.Values.{HasPlanValues}
use Rattle.law_lines.proofs.ByDeeds.{AreValuesOf, blank_of, deeds_values, zeros}
use Rattle.law_lines.proofs.ByEvents.{event_tells}
use Rattle.law_lines.proofs.FrameEvents.{frame_event_of, is_of_frame}

-- ---- what agents have heard

-- an agent as it is after events of the plan
pub record HasHeard {A : Type 0} (plan : Plan) (m : Meaning A) (a : A) : Type 0 where
  pub agent : ℕ
  pub events : List Event
  pub of_plan : HasEventsOf plan events
  pub same : a ≡ agent_after_events plan m agent events

abbrev AllHave : {A : Type 0} → Plan → Meaning A → List A → Type 0
AllHave {A} plan m as' = (k : ℕ) (a : A) → slice_get as' k ≡ Some a → HasHeard plan m a

begin_heard : {A : Type 0} (plan : Plan) (m : Meaning A) (ns : List ℕ) → AllHave plan m (map (m.begin plan) ns)
begin_heard plan m [] k a at = absurd (let z : ⊥ = cc in z)
begin_heard plan m (n ∷ ns) zero a at = record { agent = n; events = []; of_plan = none_among plan; same = let s : m.begin plan n ≡ a = cc in sym s }
begin_heard plan m (n ∷ ns) (suc k) a at = begin_heard plan m ns k a at

hears_one : {A : Type 0} (plan : Plan) (m : Meaning A) (e : Event) (a c : A) → IsEventOf plan e → HasHeard plan m a → m.fold a e ≡ c → HasHeard plan m c
hears_one plan m e a c is h s = record {
  agent = h.agent;
  events = h.events ++ e ∷ [];
  of_plan = one_more plan h.events e h.of_plan is;
  same = sym s ∙ ap (λ x. m.fold x e) h.same ∙ sym (fold-append m.fold (m.begin plan h.agent) h.events (e ∷ []));
}

all_hear : {A : Type 0} (plan : Plan) (m : Meaning A) (e : Event) (as' : List A) → IsEventOf plan e → AllHave plan m as' → AllHave plan m (map (λ a. m.fold a e) as')
all_hear plan m e [] is h k c at = absurd (let z : ⊥ = cc in z)
all_hear plan m e (a ∷ as') is h zero c at = hears_one plan m e a c is (h 0 a refl) (let s : m.fold a e ≡ c = cc in s)
all_hear plan m e (a ∷ as') is h (suc k) c at = all_hear plan m e as' is (λ j x. h (suc j) x) k c at

told_heard : {A : Type 0} (plan : Plan) (m : Meaning A) (e : Event) (as' : List A) → IsEventOf plan e → AllHave plan m as' → AllHave plan m (told m e as')
told_heard plan m (event.Local cpu line) as' is h = h
told_heard plan m (event.Log cpu v) as' is h = h
told_heard plan m (event.Start cpu c o r) as' is h = all_hear plan m (event.Start cpu c o r) as' is h
told_heard plan m (event.Spend cpu n) as' is h = all_hear plan m (event.Spend cpu n) as' is h
told_heard plan m (event.Register cpu a r n) as' is h = all_hear plan m (event.Register cpu a r n) as' is h
told_heard plan m (event.Did cpu c v) as' is h = all_hear plan m (event.Did cpu c v) as' is h
told_heard plan m (event.Waiting cpu c) as' is h = all_hear plan m (event.Waiting cpu c) as' is h
told_heard plan m (event.Woke cpu c v) as' is h = all_hear plan m (event.Woke cpu c v) as' is h
told_heard plan m (event.Park cpu f) as' is h = all_hear plan m (event.Park cpu f) as' is h
told_heard plan m (event.Unpark cpu f) as' is h = all_hear plan m (event.Unpark cpu f) as' is h
told_heard plan m (event.End cpu c o v) as' is h = all_hear plan m (event.End cpu c o v) as' is h
told_heard plan m (event.Fault cpu x line) as' is h = all_hear plan m (event.Fault cpu x line) as' is h
told_heard plan m (event.Stage d s i) as' is h = all_hear plan m (event.Stage d s i) as' is h
told_heard plan m (event.Complete r s) as' is h = all_hear plan m (event.Complete r s) as' is h
told_heard plan m (event.Cleanup o) as' is h = all_hear plan m (event.Cleanup o) as' is h
told_heard plan m (event.Destroy o) as' is h = all_hear plan m (event.Destroy o) as' is h
told_heard plan m (event.Posted agent p a) as' is h = all_hear plan m (event.Posted agent p a) as' is h
told_heard plan m (event.Tick time) as' is h = all_hear plan m (event.Tick time) as' is h

-- ---- what agents post and show

same_number : (n k : ℕ) → (n == k) ≡ true → n < 2 ^ 64 → k < 2 ^ 64
same_number n k e h = let same : n ≡ k = eqb-true n k e in omega (arith, same, h)

action_fits : (x p : Action) → same_action x p ≡ true → ActionNumbersFit x → ActionNumbersFit p
action_fits (action.Set r n) (action.Set s k) e h = same_number n k (both_right (r == s) (n == k) e) h
action_fits (action.Raise i) (action.Set s k) e h = absurd (let z : ⊥ = cc in z)
action_fits (action.Lower i) (action.Set s k) e h = absurd (let z : ⊥ = cc in z)
action_fits _ (action.Raise j) e h = tt
action_fits _ (action.Lower j) e h = tt

numbers_fit : (x p : Post) → same_post x p ≡ true → PostNumbersFit x → PostNumbersFit p
numbers_fit (post.Read d n) (post.Read f k) e h = same_number n k (both_right (same_handle d f) (n == k) e) h
numbers_fit (post.Write d n) (post.Write f k) e h = same_number n k (both_right (same_handle d f) (n == k) e) h
numbers_fit (post.Control d c n) (post.Control f x k) e h =
    (same_number c x (both_right (same_handle d f) (c == x) (both_left (same_handle d f && (c == x)) (n == k) e)) h.0, same_number n k (both_right (same_handle d f && (c == x)) (n == k) e) h.1)
numbers_fit (post.Cancel n) (post.Cancel k) e h = same_number n k e h
numbers_fit _ (post.Ask a d) e h = tt
numbers_fit (post.Act a) (post.Act c) e h = action_fits a c e h
numbers_fit _ (post.Done r s) e h = tt
numbers_fit _ _ e h = absurd (let z : ⊥ = cc in z)

due_fits : (o : Option Post) (p : Post) → ((x : Post) → o ≡ Some x → PostNumbersFit x) → same_option same_post o (Some p) ≡ true → PostNumbersFit p
due_fits None p each e = absurd (let z : ⊥ = cc in z)
due_fits (Some x) p each e = numbers_fit x p e (each x refl)

-- what is known beside what other laws say
pub record Told {A : Type 0} (plan : Plan) (m : Meaning A) (S : State A) : Type 0 where
  pub values : HasPlanValues plan S
  pub heard : AllHave plan m S.agents

module _ {A : Type 0} (plan : Plan) (m : Meaning A) (agents : HasFittingAgents plan m) (S : State A) (heard : AllHave plan m S.agents) where
  shown_by : (what k : ℕ) (o : Option A) → slice_get S.agents k ≡ o → value_of_agent m o what < 2 ^ 64
  shown_by what k None at = omega arith
  shown_by what k (Some a) at =
      let h = heard k a at in
      subst (λ x. m.value x what < 2 ^ 64) (sym h.same) (agents.values h.agent what h.events h.of_plan)

  shown_small : (device what : ℕ) → shown plan m S device what < 2 ^ 64
  shown_small device what = shown_by what (agent_of_device plan device) (slice_get S.agents (agent_of_device plan device)) refl

  due_small : (k : ℕ) (o : Option A) (x : Post) → slice_get S.agents k ≡ o → option_and_then m.due o ≡ Some x → PostNumbersFit x
  due_small k None x at due = absurd (let z : ⊥ = cc in z)
  due_small k (Some a) x at due =
      let h = heard k a at in
      agents.posts h.agent h.events x h.of_plan (subst (λ y. m.due y ≡ Some x) h.same due)

  posted_small : (agent : ℕ) (p : Post) (a : Option Handle) → may plan m S (event.Posted agent p a) ≡ true → PostNumbersFit p
  posted_small agent p a h =
      let two : (same_option same_post (due_of m S agent) (Some p) && post_fits plan S agent p) ≡ true = both_left (same_option same_post (due_of m S agent) (Some p) && post_fits plan S agent p) (same_option same_handle (post_answer plan S agent p) a) h in
      due_fits (due_of m S agent) p (λ x e. due_small agent (slice_get S.agents agent) x refl e) (both_left (same_option same_post (due_of m S agent) (Some p)) (post_fits plan S agent p) two)

-- ---- the opening

cells_in : (plan : Plan) (ds : List Declared) (o : ℕ) → AreValuesOf plan (entry gone (map declared_node ds) o).cells
cells_in plan [] o = zeros plan 8
cells_in plan (d ∷ ds) zero = zeros plan 8
cells_in plan (d ∷ ds) (suc o) = cells_in plan ds o

opening_cells : (plan : Plan) (o k : ℕ) → IsValueOf plan (cell_of (opening_tree plan) o k)
opening_cells plan zero k = zeros plan 8 k
opening_cells plan (suc o) k = cells_in plan plan.declared o k

-- ---- one event more

module _ {A : Type 0} (plan : Plan) (m : Meaning A) (h : IsResolved plan) (fit : HasFittingNumbers plan) (agents : HasFittingAgents plan m) where
  abbrev At : List Event → Type 0
  At run = Told plan m (state_after plan m run)

  -- an event of a frame that may come
  frame_of_plan : (run : List Event) (place : ℕ) (e : Event) → IsRunOf plan m run → At run → slice_get (ready plan m run) place ≡ Some e → may plan m (state_after plan m run) e ≡ true → is_of_frame e ≡ true → IsEventOf plan e
  frame_of_plan run place e is_run t at comes is =
      let S = state_after plan m run in
      let b = bounded plan m run h is_run in
      frame_event_of plan m S b fit t.values (shown_small plan m agents S t.heard) e is comes (ready_doable plan m run place e h is_run b.room at)

  -- an event that may come
  may_of_plan : (run : List Event) (place : ℕ) (e : Event) → IsRunOf plan m run → At run → slice_get (ready plan m run) place ≡ Some e → may plan m (state_after plan m run) e ≡ true → IsEventOf plan e
  may_of_plan run place (event.Posted agent p a) is_run t at comes =
      posts_of_plan plan m run place agent p a h is_run at (posted_small plan m agents (state_after plan m run) t.heard agent p a comes)
  may_of_plan run place (event.Local cpu line) is_run t at comes = frame_of_plan run place (event.Local cpu line) is_run t at comes refl
  may_of_plan run place (event.Log cpu v) is_run t at comes = frame_of_plan run place (event.Log cpu v) is_run t at comes refl
  may_of_plan run place (event.Spend cpu n) is_run t at comes = frame_of_plan run place (event.Spend cpu n) is_run t at comes refl
  may_of_plan run place (event.Register cpu a r n) is_run t at comes = frame_of_plan run place (event.Register cpu a r n) is_run t at comes refl
  may_of_plan run place (event.Did cpu c v) is_run t at comes = frame_of_plan run place (event.Did cpu c v) is_run t at comes refl
  may_of_plan run place (event.Waiting cpu c) is_run t at comes = frame_of_plan run place (event.Waiting cpu c) is_run t at comes refl
  may_of_plan run place (event.Woke cpu c v) is_run t at comes = frame_of_plan run place (event.Woke cpu c v) is_run t at comes refl
  may_of_plan run place (event.End cpu c o v) is_run t at comes = frame_of_plan run place (event.End cpu c o v) is_run t at comes refl
  may_of_plan run place (event.Fault cpu x line) is_run t at comes = frame_of_plan run place (event.Fault cpu x line) is_run t at comes refl
  may_of_plan run place (event.Start cpu c o r) is_run t at comes = framework_of_plan plan m run place (event.Start cpu c o r) h is_run at refl
  may_of_plan run place (event.Park cpu f) is_run t at comes = framework_of_plan plan m run place (event.Park cpu f) h is_run at refl
  may_of_plan run place (event.Unpark cpu f) is_run t at comes = framework_of_plan plan m run place (event.Unpark cpu f) h is_run at refl
  may_of_plan run place (event.Stage d s i) is_run t at comes = framework_of_plan plan m run place (event.Stage d s i) h is_run at refl
  may_of_plan run place (event.Complete r s) is_run t at comes = framework_of_plan plan m run place (event.Complete r s) h is_run at refl
  may_of_plan run place (event.Cleanup o) is_run t at comes = framework_of_plan plan m run place (event.Cleanup o) h is_run at refl
  may_of_plan run place (event.Destroy o) is_run t at comes = framework_of_plan plan m run place (event.Destroy o) h is_run at refl
  may_of_plan run place (event.Tick time) is_run t at comes = framework_of_plan plan m run place (event.Tick time) h is_run at refl

  ready_of : (run : List Event) (place : ℕ) (e : Event) → IsRunOf plan m run → At run → slice_get (ready plan m run) place ≡ Some e → IsEventOf plan e
  ready_of run place e is_run t at = elim (follows plan m run place e at) [
    | inl comes ↦ may_of_plan run place e is_run t at comes
    | inr time ↦ framework_of_plan plan m run place e h is_run at (subst (λ x. is_of_framework x ≡ true) (sym time.tick) refl)
  ]

  tells_after : (S : State A) (e : Event) → IsEventOf plan e → HasPlanValues plan (do_deeds plan (deeds plan S e) S) → AllHave plan m S.agents → Told plan m (after plan m S e)
  tells_after S e is values heard =
      let U = do_deeds plan (deeds plan S e) S in
      let told_same : told m e U.agents ≡ told m e S.agents =
      ap (λ (T : State A). T.agents) (sym (counted_first plan m (deeds plan S e) e S)) ∙ ap (λ (T : State A). T.agents) (counting_commutes plan m (deeds plan S e) e S) in
      record {
        values = record { frames = values.frames; cells = values.cells; requests = values.requests };
        heard = subst (λ (as' : List A). AllHave plan m as') (sym told_same) (told_heard plan m e S.agents is heard);
      }

  goes_on : (run : List Event) (e : Event) (place : ℕ) → IsRunOf plan m run → At run → slice_get (ready plan m run) place ≡ Some e → At (run ++ e ∷ [])
  goes_on run e place is_run t at =
      let S = state_after plan m run in
      let b = bounded plan m run h is_run in
      let is = ready_of run place e is_run t at in
      let tells = event_tells plan m S b fit t.values e is (ready_doable plan m run place e h is_run b.room at) in
      subst (λ (U : State A). Told plan m U) (sym (state_goes_on plan m run e)) (tells_after S e is (deeds_values plan h (deeds plan S e) S tells t.values) t.heard)

  opens : At []
  unfolding state_after
  opens = record {
    values = record {
      frames = λ f. blank_of plan h;
      cells = opening_cells plan;
      requests = λ r. (let small : 0 < 2 ^ 64 = omega arith in (small, small));
    };
    heard = begin_heard plan m (range_with_len 0 (agent_count plan));
  }

  pub told_at_each : (run : List Event) → IsRunOf plan m run → (n : ℕ) → At (take n run)
  told_at_each run is_run n = along_run At (ready plan m) run opens (λ before e place so_far t at. goes_on before e place so_far t at) is_run n

  pub told_now : (run : List Event) → IsRunOf plan m run → At run
  told_now run is_run = at_the_end plan m (λ (U : State A). Told plan m U) run (told_at_each run is_run (length run))

  -- an event that may follow a run
  pub next_of_plan : (run : List Event) (place : ℕ) (e : Event) → IsRunOf plan m run → slice_get (ready plan m run) place ≡ Some e → IsEventOf plan e
  next_of_plan run place e is_run at = ready_of run place e is_run (told_now run is_run) at

  -- and so each event of a run
  pub run_of_plan : (run : List Event) → IsRunOf plan m run → HasEventsOf plan run
  run_of_plan run is_run =
      subst (HasEventsOf plan) (take-length run)
      (along_run (HasEventsOf plan) (ready plan m) run (none_among plan) (λ before e place so_far held at. one_more plan before e held (next_of_plan before place e so_far at)) is_run (length run))

-- ---- the laws

pub values_of_plan : {A : Type 0} (plan : Plan) (m : Meaning A) (run : List Event) → IsResolved plan → HasFittingNumbers plan → HasFittingAgents plan m → IsRunOf plan m run
    → (n : ℕ) → HasPlanValues plan (state_after plan m (take n run))
values_of_plan plan m run h fit agents is_run n = (told_at_each plan m h fit agents run is_run n).values

pub next_event_of_plan : {A : Type 0} (plan : Plan) (m : Meaning A) (run : List Event) (place : ℕ) (e : Event) → IsResolved plan → HasFittingNumbers plan → HasFittingAgents plan m
    → IsRunOf plan m run → slice_get (ready plan m run) place ≡ Some e → IsEventOf plan e
next_event_of_plan plan m run place e h fit agents is_run at = next_of_plan plan m h fit agents run place e is_run at

pub events_of_plan : {A : Type 0} (plan : Plan) (m : Meaning A) (run : List Event) → IsResolved plan → HasFittingNumbers plan → HasFittingAgents plan m → IsRunOf plan m run
    → HasEventsOf plan run
events_of_plan plan m run h fit agents is_run = run_of_plan plan m h fit agents run is_run

pub one_run_by_text : {A : Type 0} (plan : Plan) (m : Meaning A) → IsResolved plan → HasFittingNumbers plan → HasFittingAgents plan m → (a b : List Event) → IsRunOf plan m a → IsRunOf plan m b
    → (ending_of plan m a ≡ ending.Running → ⊥) → (ending_of plan m b ≡ ending.Running → ⊥) → text_of plan m a ≡ text_of plan m b → a ≡ b
one_run_by_text plan m h fit agents a b run_a run_b over_a over_b same =
    same_text plan m h a b run_a run_b over_a over_b (events_of_plan plan m a h fit agents run_a) (events_of_plan plan m b h fit agents run_b) same
