-- A stack comes up from the bottom and goes down from the top, at each place of a run.
use Rattle.std.proofs.Common.{if◌then◌else◌, ◌≡◌, ℕ, zero, suc, ◌+◌, ◌==◌, nat_le, Bool, true, false, not, ◌&&◌, ◌||◌, List, [], ◌∷◌, ◌++◌, length, take, Option, Some, None, is_some, option_map, unwrap_or, slice_get, refl, sym, ap, subst, ◌∙◌, arith}
use Rattle.std.proofs.lemmas.Bool.{eqb-true}
use Rattle.std.proofs.lemmas.List.{length-map}
use Rattle.wdf_base.specs.Meaning.{Meaning}
use Rattle.wdf_base.specs.Resolved.{IsResolved, is_handle, is_ticks, pnp_post}
use Rattle.wdf_base.specs.declared.plan.Plan.{Plan}
use Rattle.wdf_base.specs.declared.ids.Handle.{Handle}
use Rattle.wdf_base.specs.declared.declared.DeviceInfo.{DeviceInfo}
use Rattle.wdf_base.specs.declared.declared.PostLine.{PostLine}
use Rattle.wdf_base.specs.declared.object.Kind.TheVariants as kind
use Rattle.wdf_base.specs.declared.event.Ask.{Ask}
use Rattle.wdf_base.specs.declared.event.Event.{Event}
use Rattle.wdf_base.specs.declared.event.Event.TheVariants as event
use Rattle.wdf_base.specs.declared.event.Post.{Post}
use Rattle.wdf_base.specs.declared.event.Post.TheVariants as post
use Rattle.wdf_base.specs.Same.{same_ask, same_handle, same_option, same_post}
use Rattle.wdf_model.specs.declared.stack.AskPost.{AskPost}
use Rattle.wdf_model.specs.Plans.{device_of, devices_of}
use Rattle.wdf_model.specs.parts.Pnp as pnp
use Rattle.wdf_model.specs.parts.Pnp.{Pnp, busy, opening_phase, opening_pnp, opening_sequence, sequence_of}
use Rattle.wdf_model.specs.State.{State}
use Rattle.wdf_model.specs.rules.Posts.{due_of, post_answer, post_fits}
use Rattle.wdf_model.specs.rules.Ready.{IsRunOf, state_after}
use Rattle.wdf_model.specs.rules.Steps.{after, may}
use Rattle.wdf_model.specs.agents.StackAgent as stack
use Rattle.wdf_model.specs.agents.StackAgent.{StackAgent, agent_after, agent_due}
use Rattle.wdf_model.specs.agents.StackManager.{StackManager, ask_of, due_of_line, first_in, first_post, is_working, leader, known, manager_posted, next_post, phase_in, stack_device, stack_manager_after, stack_manager_at, stack_manager_due}
use Rattle.wdf_model.proofs.Runs.{take_ended, take_next}
use Rattle.wdf_model.proofs.Sames.{handle_same}
use Rattle.wdf_model.proofs.Tests.{both_left, both_right}
use Rattle.law_machine_base.proofs.Follows.{state_goes_on}
use Rattle.law_machine_lives.proofs.Keeping.{comes}
use Rattle.law_trace_turns.specs.Turned.{Asked, Begun, Ended, Passed, Still, Turned}
use Rattle.law_trace_turns.proofs.Places.{turned_at}
use Rattle.law_stack.specs.Agents.{IsStackMeaning}
use Rattle.law_stack.specs.Laws.{asked_in_order, order_law, order_post_keeps}
use Rattle.law_stack.specs.Words.{works_at_opening}
use Rattle.law_stack.proofs.Chains.{Knows, at_phase, knows_opens, knows_same, opening_works}
use Rattle.law_stack.proofs.Heard.{agent_before, opens_as}
use Rattle.law_stack.proofs.Knowing.{as_many, knows_next, phases_after, same_lines}
use Rattle.law_stack.proofs.Leading.{Goes, Stands, stands_asked, stands_begun, stands_ended, stands_passed, stands_still}
use Rattle.law_stack.proofs.Lines.{nothing_before}
use Rattle.law_stack.proofs.Members.{handle_declared, is_device}
use Rattle.law_stack.proofs.Orders.{first_in_order, follower_known}
use Rattle.law_stack.proofs.Requests.{posted_is_due}
use Rattle.law_stack.proofs.Rising.{rises}
use Rattle.law_stack.proofs.Sequences.{last_only}
use Rattle.law_stack.proofs.Turning.{IsInOrder, last_turns, phase_of, phase_turns}
use Rattle.law_machine_room.proofs.NamesOfSteps.{opening_read}
use Rattle.law_machine_counts.proofs.Sames.{ask_decides}
use Rattle.law_machine_lives.proofs.Lists.{all_at}

-- ---- what holds at each place

pub record Leads (plan : Plan) (es : List Event) (Q : Pnp) (m : StackManager) : Type 0 where
  pub knows : Knows plan es m.devices (phase_of Q)
  pub many : length m.devices ≡ length (devices_of plan)
  pub lines : m.lines ≡ plan.pnp
  pub last : (d : ℕ) → IsInOrder (sequence_of Q d)
  pub stands : Stands plan es Q m.awaited m.rest

-- agent 0 is the stack manager, and it leads
abbrev pub LedBy : Plan → List Event → Pnp → StackAgent → Type 0
LedBy plan es Q (stack.StackManager m) = Leads plan es Q m
LedBy plan es Q _ = ⊥

-- ---- the opening

phase_opens : (plan : Plan) (d : ℕ) (o : Option DeviceInfo) → is_working (opening_sequence plan d o).phase ≡ works_at_opening o
phase_opens plan d None = refl
phase_opens plan d (Some i) = opening_works i.working

same_opening : (plan : Plan) (d : ℕ) (o : Option DeviceInfo) → is_some o ≡ true → (opening_sequence plan d o).phase ≡ opening_phase (unwrap_or (option_map (λ (i : DeviceInfo). i.working) o) false)
same_opening plan d None h = absurd (let z : ⊥ = cc in z)
same_opening plan d (Some i) h = refl

in_order_opens : (plan : Plan) (d : ℕ) (o : Option DeviceInfo) → last_only (opening_sequence plan d o).left ≡ true
in_order_opens plan d None = refl
in_order_opens plan d (Some i) = refl

free_opens : (plan : Plan) (d : ℕ) (o : Option DeviceInfo) → (is_some (opening_sequence plan d o).running || not (length (opening_sequence plan d o).left == 0)) ≡ false
free_opens plan d None = refl
free_opens plan d (Some i) = refl

leads_opens : (plan : Plan) → Leads plan [] (opening_pnp plan) (stack_manager_at plan)
leads_opens plan = record {
  knows = knows_opens plan (phase_of (opening_pnp plan))
      (λ d there. ap (λ q. q.phase) (opening_read plan d) ∙ same_opening plan d (device_of plan d) (is_device plan d there))
      (λ d. ap (λ q. is_working q.phase) (opening_read plan d) ∙ phase_opens plan d (device_of plan d));
  many = length-map (devices_of plan) (stack_device plan);
  lines = refl;
  last = λ d. ap (λ q. last_only q.left) (opening_read plan d) ∙ in_order_opens plan d (device_of plan d);
  stands = record {
    free = λ d. ap (λ q. is_some q.running || not (length q.left == 0)) (opening_read plan d) ∙ free_opens plan d (device_of plan d);
    next = λ x h. absurd (let z : ⊥ = cc in z);
  };
}

-- ---- the post that comes

same_asked : (x : Post) (a : Ask) (n : Handle) → same_post x (post.Ask a n) ≡ true → x ≡ post.Ask a n
same_asked (post.Ask b m) a n e =
    let one : b ≡ a = (ask_decides b a).0 (both_left (same_ask b a) (same_handle m n) e) in
    let two : m ≡ n = handle_same m n (both_right (same_ask b a) (same_handle m n) e) in
    cc
same_asked (post.Read d x) a n e = absurd (let z : ⊥ = cc in z)
same_asked (post.Write d x) a n e = absurd (let z : ⊥ = cc in z)
same_asked (post.Control d c x) a n e = absurd (let z : ⊥ = cc in z)
same_asked (post.Cancel k) a n e = absurd (let z : ⊥ = cc in z)
same_asked (post.Act k) a n e = absurd (let z : ⊥ = cc in z)
same_asked (post.Done r s) a n e = absurd (let z : ⊥ = cc in z)

-- what the manager posts: it waits for no end, and this is the next post
pub record Posts (m : StackManager) (a : Ask) (n : Handle) : Type 0 where
  pub waits_not : m.awaited ≡ None
  pub next : next_post m ≡ Some (record { ask = a; device = n })

made : (x : AskPost) (a : Ask) (n : Handle) → x.ask ≡ a → x.device ≡ n → x ≡ record { ask = a; device = n }
made x a n one two = ap (λ b. (let y : AskPost = record { ask = b; device = x.device } in y)) one ∙ ap (λ d. (let y : AskPost = record { ask = a; device = d } in y)) two

same_ask_post : (x y : AskPost) → Some x ≡ Some y → (x.ask ≡ y.ask) × (x.device ≡ y.device)
same_ask_post x y h = let e : x ≡ y = cc in (ap (λ (z : AskPost). z.ask) e, ap (λ (z : AskPost). z.device) e)

next_by : (m : StackManager) (a : Ask) (n : Handle) (o : Option AskPost) → next_post m ≡ o → option_map ask_of o ≡ Some (post.Ask a n) → next_post m ≡ Some (record { ask = a; device = n })
next_by m a n None e h = absurd (let z : ⊥ = cc in z)
next_by m a n (Some x) e h =
    let one : x.ask ≡ a = cc in
    let two : x.device ≡ n = cc in
    e ∙ ap Some (made x a n one two)

posts_by : (m : StackManager) (a : Ask) (n : Handle) (o : Option AskPost) → m.awaited ≡ o → stack_manager_due m ≡ Some (post.Ask a n) → Posts m a n
posts_by m a n (Some x) e h = absurd (let none : None ≡ Some (post.Ask a n) = rw e at h in let z : ⊥ = cc in z)
posts_by m a n None e h = record { waits_not = e; next = next_by m a n (next_post m) refl (rw e at h) }

line_fits : (plan : Plan) (l : PostLine) (a : Ask) (d : Handle) → l.post ≡ post.Ask a d → pnp_post plan l ≡ true → is_handle plan kind.Device d ≡ true
line_fits plan l a d e h = both_right (is_ticks l.tick) (is_handle plan kind.Device d) (rw e at h)

module _ (plan : Plan) (resolved : IsResolved plan) (es : List Event) (Q : Pnp) (m : StackManager) (leads : Leads plan es Q m) (a : Ask) (n : Handle) (fits : is_handle plan kind.Device n ≡ true) where
  abbrev this : AskPost
  this = record { ask = a; device = n }

  first_by : (p : Post) (l : PostLine) → l.post ≡ p → pnp_post plan l ≡ true → first_post m.devices p ≡ Some this → asked_in_order plan es a n.id.0 ≡ true
  first_by (post.Ask b d) l e h is =
      let declared = handle_declared plan d (line_fits plan l b d e h) in
      let first = nothing_before plan es m.devices (phase_of Q) leads.knows (rises plan resolved) b (length m.devices) d declared (let k = leads.many in omega (arith, k)) in
      let two = same_ask_post (record { ask = b; device = first_in m.devices b (length m.devices) d }) this is in
      let none : leader m.devices a n.id.0 ≡ None = subst (λ x. leader m.devices x n.id.0 ≡ None) two.0 (subst (λ (x : Handle). leader m.devices b x.id.0 ≡ None) two.1 first) in
      first_in_order plan es m.devices (phase_of Q) leads.knows a n.id.0 (handle_declared plan n fits) none
  first_by (post.Read d x) l e h is = absurd (let z : ⊥ = cc in z)
  first_by (post.Write d x) l e h is = absurd (let z : ⊥ = cc in z)
  first_by (post.Control d c x) l e h is = absurd (let z : ⊥ = cc in z)
  first_by (post.Cancel k) l e h is = absurd (let z : ⊥ = cc in z)
  first_by (post.Act k) l e h is = absurd (let z : ⊥ = cc in z)
  first_by (post.Done r s) l e h is = absurd (let z : ⊥ = cc in z)

  line_by : (l : PostLine) (on : Bool) → slice_get m.lines m.begun ≡ Some l → nat_le l.tick m.clock ≡ on → (if nat_le l.tick m.clock then first_post m.devices l.post else None) ≡ Some this → asked_in_order plan es a n.id.0 ≡ true
  line_by l true at e is =
      let here : slice_get plan.pnp m.begun ≡ Some l = sym (ap (λ ls. slice_get ls m.begun) leads.lines) ∙ at in
      first_by l.post l refl (all_at (pnp_post plan) plan.pnp m.begun l resolved.pnp_posts here) (rw e at is)
  line_by l false at e is = absurd (let none : None ≡ Some this = rw e at is in let z : ⊥ = cc in z)

  lines_by : (o : Option PostLine) → slice_get m.lines m.begun ≡ o → due_of_line m o ≡ Some this → asked_in_order plan es a n.id.0 ≡ true
  lines_by None at is = absurd (let z : ⊥ = cc in z)
  lines_by (Some l) at is = line_by l (nat_le l.tick m.clock) at refl is

  rest_by : (o : Option AskPost) → m.rest ≡ o → Goes plan es Q m.rest → elim o as (λ _. Option AskPost) [ Some x ↦ Some x | None ↦ due_of_line m (slice_get m.lines m.begun) ] ≡ Some this → asked_in_order plan es a n.id.0 ≡ true
  rest_by None e g is = lines_by (slice_get m.lines m.begun) refl is
  rest_by (Some x) e g is = g.next this (e ∙ is)

  -- the post is in order
  pub post_in_order : Posts m a n → asked_in_order plan es a n.id.0 ≡ true
  post_in_order p = rest_by m.rest refl (subst (λ o. Stands plan es Q o m.rest) p.waits_not leads.stands) p.next

  -- and the manager leads on
  pub asked_leads : (agent : ℕ) (answer : Option Handle) (R : Pnp) → agent ≡ 0 → R ≡ pnp.ask Q n.id.0 a → Posts m a n
      → Stands plan (es ++ event.Posted agent (post.Ask a n) answer ∷ []) R (manager_posted m agent (post.Ask a n)).awaited (manager_posted m agent (post.Ask a n)).rest
  asked_leads agent answer R zero_ same p =
      let g : Goes plan es Q m.rest = subst (λ o. Stands plan es Q o m.rest) p.waits_not leads.stands in
      let declared = handle_declared plan n fits in
      let knows : known m.devices n.id.0 ≡ Some (at_phase plan n.id.0 (phase_of Q n.id.0)) = leads.knows.knows n.id.0 declared in
      let phase : phase_in m.devices n.id.0 ≡ phase_of Q n.id.0 = rw knows refl in
      let on : (agent == 0) ≡ true = rw zero_ refl in
      rw on (stands_asked plan es Q R agent a n answer same m g.free (follower_known plan es m.devices (phase_of Q) leads.knows a n.id.0 declared) phase (leads.knows.works_so n.id.0))

-- ---- one event more

module _ {A : Type 0} (plan : Plan) (m : Meaning A) (is : IsStackMeaning m) (resolved : IsResolved plan) (run : List Event) (is_run : IsRunOf plan m run) where
  abbrev at_place : ℕ → State A
  at_place n = state_after plan m (take n run)

  -- the manager posts what is asked
  record AskComes (n agent : ℕ) (a : Ask) (d : Handle) : Type 0 where
    first : agent ≡ 0
    fits : is_handle plan kind.Device d ≡ true
    poster : A
    there : slice_get (at_place n).agents 0 ≡ Some poster
    due : agent_due (is.seen poster) ≡ Some (post.Ask a d)

  ask_comes : (n agent : ℕ) (a : Ask) (d : Handle) (answer : Option Handle) → slice_get run n ≡ Some (event.Posted agent (post.Ask a d) answer) → AskComes n agent a d
  ask_comes n agent a d answer at =
      let S = at_place n in
      let may_ : may plan m S (event.Posted agent (post.Ask a d) answer) ≡ true = comes plan m run n (event.Posted agent (post.Ask a d) answer) is_run at (λ time e. let z : ⊥ = cc in z) in
      let fits_ : post_fits plan S agent (post.Ask a d) ≡ true
      = both_right (same_option same_post (due_of m S agent) (Some (post.Ask a d))) (post_fits plan S agent (post.Ask a d)) (both_left (same_option same_post (due_of m S agent) (Some (post.Ask a d)) && post_fits plan S agent (post.Ask a d)) (same_option same_handle (post_answer plan S agent (post.Ask a d)) answer) may_) in
      let two : (agent == 0 && is_handle plan kind.Device d) ≡ true = both_left (agent == 0 && is_handle plan kind.Device d) (not (busy S.pnp d.id.0)) fits_ in
      let zero_ : agent ≡ 0 = eqb-true agent 0 (both_left (agent == 0) (is_handle plan kind.Device d) two) in
      let due = posted_is_due plan m is S agent (post.Ask a d) answer may_ in
      record {
        first = zero_;
        fits = both_right (agent == 0) (is_handle plan kind.Device d) two;
        poster = due.agent;
        there = sym (ap (slice_get S.agents) zero_) ∙ due.at;
        due = due.is_due ∙ ap Some (same_asked due.due a d due.same);
      }

  -- which is agent 0
  due_of_first : (n agent : ℕ) (a : Ask) (d : Handle) (x : A) → AskComes n agent a d → slice_get (at_place n).agents 0 ≡ Some x → agent_due (is.seen x) ≡ Some (post.Ask a d)
  due_of_first n agent a d x c here =
      let same : c.poster ≡ x = (let there : Some c.poster ≡ Some x = sym c.there ∙ here in cc) in
      sym (ap (λ y. agent_due (is.seen y)) same) ∙ c.due

  abbrev LedAt : ℕ → Type 0
  LedAt n = (a : A) → slice_get (at_place n).agents 0 ≡ Some a → LedBy plan (take n run) (at_place n).pnp (is.seen a)

  -- where it stands after an event
  stands_next : (n : ℕ) (x : A) (k : StackManager) (U : State A) (e : Event) → slice_get run n ≡ Some e → slice_get (at_place n).agents 0 ≡ Some x → is.seen x ≡ stack.StackManager k → Leads plan (take n run) (at_place n).pnp k → Turned (at_place n) U e
      → Stands plan (take n run ++ e ∷ []) U.pnp (stack_manager_after k e).awaited (stack_manager_after k e).rest
  stands_next n x k U e at here seen l (Still quiet same) = stands_still plan (take n run) k e (at_place n).pnp U.pnp quiet same l.stands
  stands_next n x k U e at here seen l (Begun d c j quiet idle next same) = stands_begun plan (take n run) k e (at_place n).pnp U.pnp d c j quiet next same l.stands
  stands_next n x k U e at here seen l (Ended cpu c o v j i said lives runs same) =
      subst (λ y. Stands plan (take n run ++ y ∷ []) U.pnp (stack_manager_after k y).awaited (stack_manager_after k y).rest) (sym said)
      (stands_ended plan (take n run) (take n run ++ event.End cpu c o v ∷ []) (at_place n).pnp U.pnp _ c i v same k o.id.0 j runs l.stands)
  stands_next n x k U e at here seen l (Passed d s j said idle next same) =
      subst (λ y. Stands plan (take n run ++ y ∷ []) U.pnp (stack_manager_after k y).awaited (stack_manager_after k y).rest) (sym said)
      (stands_passed plan (take n run) (at_place n).pnp U.pnp d s j idle next same (l.last d.id.0) k l.stands)
  stands_next n x k U e at here seen l (Asked agent a d answer said free same) =
      let c = ask_comes n agent a d answer (at ∙ ap Some said) in
      let due : stack_manager_due k ≡ Some (post.Ask a d) = sym (ap agent_due seen) ∙ due_of_first n agent a d x c here in
      subst (λ y. Stands plan (take n run ++ y ∷ []) U.pnp (stack_manager_after k y).awaited (stack_manager_after k y).rest) (sym said)
      (asked_leads plan resolved (take n run) (at_place n).pnp k l a d c.fits agent answer U.pnp c.first same (posts_by k a d k.awaited refl due))

  leads_next : (n : ℕ) (x : A) (k : StackManager) (e : Event) → slice_get run n ≡ Some e → slice_get (at_place n).agents 0 ≡ Some x → is.seen x ≡ stack.StackManager k → Leads plan (take n run) (at_place n).pnp k
      → Leads plan (take n run ++ e ∷ []) (after plan m (at_place n) e).pnp (stack_manager_after k e)
  leads_next n x k e at here seen l =
      let U : State A = after plan m (at_place n) e in
      let t : Turned (at_place n) U e = turned_at plan m run resolved is_run n e at in
      record {
        knows =
            knows_same plan (take n run ++ e ∷ []) (stack_manager_after k e).devices (phases_after e (phase_of (at_place n).pnp)) (phase_of U.pnp) (phase_turns (at_place n) U e t)
            (knows_next plan (take n run) k e (phase_of (at_place n).pnp) l.knows);
        many = as_many k e ∙ l.many;
        lines = same_lines k e ∙ l.lines;
        last = last_turns (at_place n) U e t l.last;
        stands = stands_next n x k U e at here seen l t;
      }

  led_by : (n : ℕ) (x : A) (s : StackAgent) (e : Event) → slice_get run n ≡ Some e → slice_get (at_place n).agents 0 ≡ Some x → is.seen x ≡ s → LedBy plan (take n run) (at_place n).pnp s
      → LedBy plan (take n run ++ e ∷ []) (after plan m (at_place n) e).pnp (agent_after s e)
  led_by n x (stack.StackManager k) e at here seen l = leads_next n x k e at here seen l
  led_by n x (stack.App p) e at here seen l = absurd l
  led_by n x (stack.Device d) e at here seen l = absurd l
  led_by n x (stack.LowerTarget t) e at here seen l = absurd l
  led_by n x (stack.Connector c) e at here seen l = absurd l

  led_after : (n : ℕ) (e : Event) → slice_get run n ≡ Some e → LedAt n → (a : A) → slice_get (after plan m (at_place n) e).agents 0 ≡ Some a → LedBy plan (take n run ++ e ∷ []) (after plan m (at_place n) e).pnp (is.seen a)
  led_after n e at led a here =
      let w = agent_before m is plan (at_place n) e 0 a here in
      subst (LedBy plan (take n run ++ e ∷ []) (after plan m (at_place n) e).pnp) (sym w.heard) (led_by n w.was (is.seen w.was) e at w.at refl (led w.was w.at))

  -- ---- each place

  abbrev LedIn : List Event → State A → Type 0
  LedIn es S = (a : A) → slice_get S.agents 0 ≡ Some a → LedBy plan es S.pnp (is.seen a)

  led_first : LedIn [] (state_after plan m [])
  unfolding state_after
  led_first a here = subst (LedBy plan [] (opening_pnp plan)) (sym (opens_as m is plan _ 0 a here)) (leads_opens plan)

  led_step : (n : ℕ) (found : Option Event) → slice_get run n ≡ found → LedAt n → LedAt (suc n)
  led_step n None at led = subst (λ es. LedIn es (state_after plan m es)) (sym (take_ended run n at)) led
  led_step n (Some e) at led =
      subst (λ es. LedIn es (state_after plan m es)) (sym (take_next run n e at))
      (subst (LedIn (take n run ++ e ∷ [])) (sym (state_goes_on plan m (take n run) e)) (led_after n e at led))

  led_at : (n : ℕ) → LedAt n
  led_at zero = led_first
  led_at (suc n) = led_step n (slice_get run n) refl (led_at n)

  -- ---- the law

  in_order_by : (n agent : ℕ) (a : Ask) (d : Handle) (s : StackAgent) → (c : AskComes n agent a d) → is.seen c.poster ≡ s → LedBy plan (take n run) (at_place n).pnp s → asked_in_order plan (take n run) a d.id.0 ≡ true
  in_order_by n agent a d (stack.StackManager k) c seen l = post_in_order plan resolved (take n run) (at_place n).pnp k l a d c.fits (posts_by k a d k.awaited refl (sym (ap agent_due seen) ∙ c.due))
  in_order_by n agent a d (stack.App p) c seen l = absurd l
  in_order_by n agent a d (stack.Device p) c seen l = absurd l
  in_order_by n agent a d (stack.LowerTarget t) c seen l = absurd l
  in_order_by n agent a d (stack.Connector k) c seen l = absurd l

  asks_in_order : (n agent : ℕ) (p : Post) (answer : Option Handle) → slice_get run n ≡ Some (event.Posted agent p answer) → order_post_keeps plan (take n run) p ≡ true
  asks_in_order n agent (post.Ask a d) answer at = let c = ask_comes n agent a d answer at in in_order_by n agent a d (is.seen c.poster) c refl (led_at n c.poster c.there)
  asks_in_order n agent (post.Read d x) answer at = refl
  asks_in_order n agent (post.Write d x) answer at = refl
  asks_in_order n agent (post.Control d c x) answer at = refl
  asks_in_order n agent (post.Cancel k) answer at = refl
  asks_in_order n agent (post.Act k) answer at = refl
  asks_in_order n agent (post.Done r s) answer at = refl

  pub order_at : (n : ℕ) (e : Event) → slice_get run n ≡ Some e → order_law plan (take n run) e ≡ true
  order_at n (event.Posted agent p answer) at = asks_in_order n agent p answer at
  order_at n _ at = refl
