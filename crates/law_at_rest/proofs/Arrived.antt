-- No more requests arrive than the apps have lines: so a line of an app that is left finds room.
use Rattle.std.proofs.Common.{if◌then◌else◌, ◌≡◌, ℕ, zero, suc, ◌+◌, ◌<◌, ◌≤◌, ◌==◌, Bool, true, false, not, ◌&&◌, nat_lt, List, [], ◌∷◌, ◌++◌, inl, inr, length, map, drop, fold, Option, Some, None, slice_get, refl, sym, ap, ◌∙◌, subst, arith}
use Rattle.std.specs.Prelude.{option_and_then, option_map, sum_by}
use Rattle.std.specs.List.{list_all}
use Rattle.std.proofs.lemmas.Bool.{leb-true, lt-ltb}
use Rattle.std.proofs.lemmas.List.Sums.{sum_by-cons}
use Rattle.std.proofs.lemmas.Option.{same_Some, slice_get_within}
use Rattle.wdf_base.specs.Plan.{agent_posts, posts_of}
use Rattle.wdf_base.specs.Resolved.{IsResolved, post_count}
use Rattle.wdf_base.specs.Meaning.{Meaning}
use Rattle.wdf_base.specs.Lives.{is_live}
use Rattle.wdf_base.specs.Same.{same_handle, same_option, same_post}
use Rattle.wdf_base.specs.declared.plan.Plan.{Plan}
use Rattle.wdf_base.specs.declared.declared.PostLine.{PostLine}
use Rattle.wdf_base.specs.declared.script.AgentInfo.{AgentInfo}
use Rattle.wdf_base.specs.declared.event.Action.{Action}
use Rattle.wdf_base.specs.declared.event.Event.{Event}
use Rattle.wdf_base.specs.declared.event.Event.TheVariants as event
use Rattle.wdf_base.specs.declared.event.Post.{Post}
use Rattle.wdf_base.specs.declared.event.Post.TheVariants as post
use Rattle.wdf_base.specs.declared.ids.Handle.{Handle}
use Rattle.wdf_base.specs.declared.object.Place.{Place}
use Rattle.wdf_base.specs.declared.object.Place.TheVariants as place
use Rattle.wdf_base.specs.declared.object.RequestForm.{RequestForm}
use Rattle.wdf_base.specs.declared.object.RequestForm.TheVariants as form
use Rattle.wdf_base.specs.declared.object.RequestInfo.{RequestInfo}
use Rattle.wdf_base.specs.declared.value.Status.{Status}
use Rattle.wdf_base.specs.Posts.{is_request}
use Rattle.wdf_model.specs.declared.deed.Deed.{Deed}
use Rattle.wdf_model.specs.declared.deed.Deed.TheVariants.{Arrive, AskDeletion, CloseDevice, CloseReturning, CompleteRequest, CountArrival, Forward, GiveBack, MakeRequest, PurgeQueue, Requeue, SendRequest}
use Rattle.wdf_model.specs.declared.entries.DeviceAction.{DeviceAction}
use Rattle.wdf_model.specs.declared.entries.SentRequest.{SentRequest}
use Rattle.wdf_model.specs.declared.enums.Mode.TheVariants as mode
use Rattle.wdf_model.specs.Ids.{object_id}
use Rattle.wdf_model.specs.Plans.{managed_queues, queues_of}
use Rattle.wdf_model.specs.Tables.{flag}
use Rattle.wdf_model.specs.agents.App as app
use Rattle.wdf_model.specs.agents.Device.{action_post, due_action}
use Rattle.wdf_model.specs.agents.LowerTarget.{done_post}
use Rattle.wdf_model.specs.parts.Control as control
use Rattle.wdf_model.specs.parts.Queues.{waiting_in}
use Rattle.wdf_model.specs.parts.Requests as requests
use Rattle.wdf_model.specs.parts.Tree.{life_of, subtree}
use Rattle.wdf_model.specs.State.{State, is_with_driver}
use Rattle.wdf_model.specs.rules.Deeds.{arrive_at, ask_object, close_queue, close_returning, do_deed, do_deeds, give_up, give_up_if, told, withdraw}
use Rattle.wdf_model.specs.rules.Posts.{arrival_info, arrival_place, due_of, post_answer, post_fits}
use Rattle.wdf_model.specs.rules.Ready.{IsRunOf, ready, state_after}
use Rattle.wdf_model.specs.rules.Steps.{after, deeds, may}
use Rattle.wdf_model.proofs.Runs.{along_run}
use Rattle.wdf_model.proofs.Tests.{both_left, both_right, itself as it_is}
use Rattle.wdf_dev.specs.Agents as dev
use Rattle.wdf_dev.specs.Agents.{agent_meaning}
use Rattle.wdf_dev.specs.declared.any.AnyAgent.{AnyAgent}
use Rattle.wdf_dev.specs.declared.any.AnyAgent.TheVariants as agent
use Rattle.law_machine_base.proofs.Follows.{follows, state_goes_on}
use Rattle.law_machine_base.proofs.KeptByDeeds.{is_arrival}
use Rattle.law_machine_deeds.specs.MayDo.{may_do, posts}
use Rattle.law_machine_deeds.proofs.Passing.{event_passes}
use Rattle.law_stuck_causes.proofs.Endings.{at_the_end}
use Rattle.law_at_rest.proofs.Agents.{AllHave, agents_after, told_as}
use Rattle.law_at_rest.proofs.Itself.{HasLines, IsItself, itself}

-- ---- how many arrive by a deed

-- as many have arrived as before
abbrev Same : {A : Type 0} → State A → State A → Type 0
Same S U = U.requests.arrived ≡ S.requests.arrived

choice : {A : Type 0} (S U V : State A) (b : Bool) → Same S U → Same S V → Same S (if b then U else V)
choice S U V true h k = h
choice S U V false h k = k

asks_all : {A : Type 0} (os : List ℕ) (S : State A) → Same S (fold ask_object S os)
asks_all [] S = refl
asks_all (o ∷ os) S = asks_all os (ask_object S o) ∙ choice S _ S (is_live (life_of S.tree o)) refl refl

gives : {A : Type 0} (S : State A) (r : ℕ) → Same S (give_up S r)
gives S r = choice S _ S (is_with_driver S r) refl refl

gives_if : {A : Type 0} (forget : Bool) (S : State A) (r : ℕ) → Same S (give_up_if forget S r)
gives_if true S r = gives S r
gives_if false S r = refl

withdraws : {A : Type 0} (plan : Plan) (q : ℕ) (rs : List ℕ) (S : State A) → Same S (fold (withdraw plan q) S rs)
withdraws plan q [] S = refl
withdraws plan q (r ∷ rs) S = withdraws plan q rs (withdraw plan q S r)

returns : {A : Type 0} (qs : List ℕ) (S : State A) → Same S (fold close_returning S qs)
returns [] S = refl
returns (q ∷ qs) S = returns qs (close_returning S q)

closes : {A : Type 0} (qs : List ℕ) (S : State A) → Same S (fold close_queue S qs)
closes [] S = refl
closes (q ∷ qs) S = closes qs (close_queue S q)

none_arrives : {A : Type 0} (plan : Plan) (d : Deed) (S : State A) → is_arrival d ≡ false → Same S (do_deed plan d S)
none_arrives plan (Arrive device info p) S off = absurd (let z : ⊥ = cc in z)
none_arrives plan (MakeRequest class parent) S off = omega arith
none_arrives plan (AskDeletion o) S off = asks_all (subtree S.tree o.0) S
none_arrives plan (Requeue r q) S off = gives S r.0
none_arrives plan (Forward r q) S off = gives S r.0
none_arrives plan (GiveBack r q) S off = gives S r.0
none_arrives plan (SendRequest r t forget) S off = gives_if forget S r.0
none_arrives {A} plan (CompleteRequest r) S off =
    let U : State A = record (give_up S r.0) { requests = requests.complete S.requests r.0 } in
    asks_all (subtree (give_up S r.0).tree r.0) U
none_arrives {A} plan (PurgeQueue q) S off = withdraws plan q.0 (waiting_in S.queues q.0) (record S { control = control.set_mode S.control q.0 mode.Purged })
none_arrives plan (CloseReturning d) S off = returns (managed_queues plan d.0) S
none_arrives plan (CloseDevice d) S off = closes (queues_of plan d.0) (record S { control = control.shut S.control d.0 })
none_arrives plan _ S off = refl

all_none : {A : Type 0} (plan : Plan) (ds : List Deed) (S : State A) → list_all (λ d. not (is_arrival d)) ds ≡ true → Same S (do_deeds plan ds S)
all_none plan [] S h = refl
all_none plan (d ∷ ds) S h =
    all_none plan ds (do_deed plan d S) (both_right (not (is_arrival d)) (list_all (λ x. not (is_arrival x)) ds) h)
    ∙ none_arrives plan d S (off (is_arrival d) (both_left (not (is_arrival d)) (list_all (λ x. not (is_arrival x)) ds) h))
  where
    off : (b : Bool) → not b ≡ true → b ≡ false
    off true e = absurd (let z : ⊥ = cc in z)
    off false e = refl

-- ---- how many arrive by an event

at_most_one : (b : Bool) (n : ℕ) → n + flag b ≤ n + 1
at_most_one true n = omega arith
at_most_one false n = omega arith

one_arrives : {A : Type 0} (S : State A) (device : ℕ) (info : RequestInfo) (p : Place) → (arrive_at S device info p).requests.arrived ≤ S.requests.arrived + 1
one_arrives S device info (place.Queued q) = at_most_one (nat_lt 0 info.arrival) S.requests.arrived
one_arrives S device info (place.Returning q) = at_most_one (nat_lt 0 info.arrival) S.requests.arrived
one_arrives S device info (place.Closing s) = at_most_one (nat_lt 0 info.arrival) S.requests.arrived
one_arrives S device info (place.Sent t) = at_most_one (nat_lt 0 info.arrival) S.requests.arrived
one_arrives S device info place.Owned = at_most_one (nat_lt 0 info.arrival) S.requests.arrived
one_arrives S device info place.Done = at_most_one (nat_lt 0 info.arrival) S.requests.arrived

if_live : {A : Type 0} (plan : Plan) (S : State A) (agent : ℕ) (f : RequestForm) (n code device : ℕ) (b : Bool)
    → (do_deeds plan (CountArrival agent ∷ (if b then Arrive (object_id device) (arrival_info S agent f n code device) (arrival_place plan S f n device) ∷ [] else [])) S).requests.arrived ≤ S.requests.arrived + 1
if_live plan S agent f n code device true = one_arrives (do_deed plan (CountArrival agent) S) device (arrival_info S agent f n code device) (arrival_place plan S f n device)
if_live plan S agent f n code device false = omega arith

-- the post of an agent lets one request arrive at most, and only one for a request lets any
post_brings : {A : Type 0} (plan : Plan) (m : Meaning A) (S : State A) (agent : ℕ) (p : Post) (answer : Option Handle) → is_request p ≡ true
    → (after plan m S (event.Posted agent p answer)).requests.arrived ≤ S.requests.arrived + 1
post_brings plan m S agent (post.Read d n) answer is = if_live plan S agent form.Read n 0 d.id.0 (is_live (life_of S.tree d.id.0))
post_brings plan m S agent (post.Write d n) answer is = if_live plan S agent form.Write n 0 d.id.0 (is_live (life_of S.tree d.id.0))
post_brings plan m S agent (post.Control d c n) answer is = if_live plan S agent form.Control n c d.id.0 (is_live (life_of S.tree d.id.0))
post_brings plan m S agent (post.Cancel k) answer is = absurd (let z : ⊥ = cc in z)
post_brings plan m S agent (post.Ask a d) answer is = absurd (let z : ⊥ = cc in z)
post_brings plan m S agent (post.Act a) answer is = absurd (let z : ⊥ = cc in z)
post_brings plan m S agent (post.Done r s) answer is = absurd (let z : ⊥ = cc in z)

not_arrival : (e : Event) → posts is_request e ≡ false → (d : Deed) → may_do e d ≡ true → not (is_arrival d) ≡ true
not_arrival e off (Arrive device info p) h = absurd (let z : ⊥ = cc in z)
not_arrival e off _ h = refl

none_brought : {A : Type 0} (plan : Plan) (m : Meaning A) (S : State A) (e : Event) → posts is_request e ≡ false → Same S (after plan m S e)
none_brought plan m S e off = all_none plan (deeds plan S e) S (event_passes (λ d. not (is_arrival d)) plan S e (not_arrival e off))

-- ---- what agents have posted

-- how many of its lines an agent has posted
abbrev posted_by : AnyAgent → ℕ
posted_by (agent.PnpManager p) = p.posted
posted_by (agent.App p) = p.posted
posted_by (agent.Device d) = 0
posted_by (agent.LowerTarget t) = 0

-- how many it has
abbrev lines_by : AnyAgent → ℕ
lines_by (agent.PnpManager p) = length p.lines
lines_by (agent.App p) = length p.lines
lines_by (agent.Device d) = 0
lines_by (agent.LowerTarget t) = 0

-- of all agents
abbrev total : (AnyAgent → ℕ) → List AnyAgent → ℕ
total f [] = 0
total f (a ∷ as') = f a + total f as'

post_more_by : (a : ℕ) (p : app.App) (b : Bool) → (a == p.agent && nat_lt p.posted (length p.lines)) ≡ b → p.posted ≤ (app.after_post a p).posted
post_more_by a p true e = rw e (omega arith)
post_more_by a p false e = rw e (omega arith)

app_more : (p : app.App) (e : Event) → p.posted ≤ (app.app_after p e).posted
app_more p (event.Posted a q answer) = post_more_by a p (a == p.agent && nat_lt p.posted (length p.lines)) refl
app_more p (event.Tick time) = omega arith
app_more p _ = omega arith

agent_more : (a : AnyAgent) (e : Event) → posted_by a ≤ posted_by (dev.agent_after a e)
agent_more (agent.PnpManager p) e = app_more p e
agent_more (agent.App p) e = app_more p e
agent_more (agent.Device d) e = omega arith
agent_more (agent.LowerTarget t) e = omega arith

none_fewer : (e : Event) (xs : List AnyAgent) → total posted_by xs ≤ total posted_by (map (λ a. dev.agent_after a e) xs)
none_fewer e [] = omega arith
none_fewer e (a ∷ as') = let one = agent_more a e in let rest = none_fewer e as' in omega (arith, one, rest)

one_more : (e : Event) (xs : List AnyAgent) (k : ℕ) (a : AnyAgent) → slice_get xs k ≡ Some a → posted_by a < posted_by (dev.agent_after a e) → total posted_by xs < total posted_by (map (λ a. dev.agent_after a e) xs)
one_more e [] k a at h = absurd (let z : ⊥ = cc in z)
one_more e (b ∷ bs) zero a at h =
    let same : b ≡ a = same_Some b a at in
    let first : posted_by b < posted_by (dev.agent_after b e) = subst (λ x. posted_by x < posted_by (dev.agent_after x e)) (sym same) h in
    let rest = none_fewer e bs in omega (arith, first, rest)
one_more e (b ∷ bs) (suc k) a at h = let first = agent_more b e in let rest = one_more e bs k a at h in omega (arith, first, rest)

-- ---- an agent that posts a request has a line left, and posts it

-- it has a line left
abbrev HasLeft : AnyAgent → Type 0
HasLeft (agent.PnpManager p) = p.posted < length p.lines
HasLeft (agent.App p) = p.posted < length p.lines
HasLeft (agent.Device d) = ⊥
HasLeft (agent.LowerTarget t) = ⊥

line_left_by : (p : app.App) (q : Post) (o : Option PostLine) → slice_get p.lines p.posted ≡ o → app.due_line p.clock o ≡ Some q → p.posted < length p.lines
line_left_by p q None at due = absurd (let z : ⊥ = cc in z)
line_left_by p q (Some l) at due = slice_get_within p.lines p.posted l at

line_left : (p : app.App) (q : Post) → app.app_due p ≡ Some q → p.posted < length p.lines
line_left p q due = line_left_by p q (slice_get p.lines p.posted) refl due

act_is_none : (a : Action) (q : Post) → same_post (post.Act a) q ≡ true → is_request q ≡ true → ⊥
act_is_none a (post.Act b) h is = let z : ⊥ = cc in z
act_is_none a (post.Read d n) h is = let z : ⊥ = cc in z
act_is_none a (post.Write d n) h is = let z : ⊥ = cc in z
act_is_none a (post.Control d c n) h is = let z : ⊥ = cc in z
act_is_none a (post.Cancel k) h is = let z : ⊥ = cc in z
act_is_none a (post.Ask x d) h is = let z : ⊥ = cc in z
act_is_none a (post.Done r s) h is = let z : ⊥ = cc in z

done_is_none : (r : Handle) (s : Status) (q : Post) → same_post (post.Done r s) q ≡ true → is_request q ≡ true → ⊥
done_is_none r s (post.Act b) h is = let z : ⊥ = cc in z
done_is_none r s (post.Read d n) h is = let z : ⊥ = cc in z
done_is_none r s (post.Write d n) h is = let z : ⊥ = cc in z
done_is_none r s (post.Control d c n) h is = let z : ⊥ = cc in z
done_is_none r s (post.Cancel k) h is = let z : ⊥ = cc in z
done_is_none r s (post.Ask x d) h is = let z : ⊥ = cc in z
done_is_none r s (post.Done x t) h is = let z : ⊥ = cc in z

acts_none : (o : Option DeviceAction) (x q : Post) → option_map action_post o ≡ Some x → same_post x q ≡ true → is_request q ≡ true → ⊥
acts_none None x q due h is = let z : ⊥ = cc in z
acts_none (Some l) x q due h is = act_is_none l.action q (subst (λ y. same_post y q ≡ true) (sym (same_Some (action_post l) x due)) h) is

dones_none : (own : Status) (o : Option SentRequest) (x q : Post) → option_map (done_post own) o ≡ Some x → same_post x q ≡ true → is_request q ≡ true → ⊥
dones_none own None x q due h is = let z : ⊥ = cc in z
dones_none own (Some s) x q due h is = done_is_none s.request _ q (subst (λ y. same_post y q ≡ true) (sym (same_Some (done_post own s) x due)) h) is

left_of : (a : AnyAgent) (x q : Post) → dev.agent_due a ≡ Some x → same_post x q ≡ true → is_request q ≡ true → HasLeft a
left_of (agent.PnpManager p) x q due h is = line_left p x due
left_of (agent.App p) x q due h is = line_left p x due
left_of (agent.Device d) x q due h is = acts_none (due_action d) x q due h is
left_of (agent.LowerTarget t) x q due h is = dones_none t.status _ x q due h is

app_posts : (plan : Plan) (k : ℕ) (p : app.App) (q : Post) (answer : Option Handle) → HasLines plan k p → p.posted < length p.lines → p.posted < (app.app_after p (event.Posted k q answer)).posted
app_posts plan k p q answer h low =
    let mine : (k == p.agent && nat_lt p.posted (length p.lines)) ≡ true = by_both (sym h.number) (lt-ltb p.posted (length p.lines) low) in
    rw mine (omega arith)
  where
    by_both : k ≡ p.agent → nat_lt p.posted (length p.lines) ≡ true → (k == p.agent && nat_lt p.posted (length p.lines)) ≡ true
    by_both same left = rw (same, it_is p.agent, left) refl

posts_one : (plan : Plan) (k : ℕ) (a : AnyAgent) (q : Post) (answer : Option Handle) → IsItself plan k a → HasLeft a → posted_by a < posted_by (dev.agent_after a (event.Posted k q answer))
posts_one plan k (agent.PnpManager p) q answer h left = app_posts plan k p q answer h.0 left
posts_one plan k (agent.App p) q answer h left = app_posts plan k p q answer h.0 left
posts_one plan k (agent.Device d) q answer h left = absurd left
posts_one plan k (agent.LowerTarget t) q answer h left = absurd left

-- ---- as many have arrived as the agents have posted, at most

abbrev FewArrived : State AnyAgent → Type 0
FewArrived S = S.requests.arrived ≤ total posted_by S.agents

told_none_fewer : (e : Event) (xs : List AnyAgent) → total posted_by xs ≤ total posted_by (told agent_meaning e xs)
told_none_fewer e xs = told_as agent_meaning (λ ys. total posted_by xs ≤ total posted_by ys) e xs (λ _. omega arith) (none_fewer e xs)

module _ (plan : Plan) (resolved : IsResolved plan) where
  still_few : (S : State AnyAgent) (e : Event) → posts is_request e ≡ false → FewArrived S → FewArrived (after plan agent_meaning S e)
  still_few S e off few =
      let same = none_brought plan agent_meaning S e off in
      let more : total posted_by S.agents ≤ total posted_by (after plan agent_meaning S e).agents =
      subst (λ xs. total posted_by S.agents ≤ total posted_by xs) (sym (agents_after plan agent_meaning S e)) (told_none_fewer e S.agents) in
      omega (arith, same, more, few)

  posts_by : (S : State AnyAgent) (k : ℕ) (q : Post) (o : Option AnyAgent) → slice_get S.agents k ≡ o → same_option same_post (option_and_then dev.agent_due o) (Some q) ≡ true → is_request q ≡ true
      → (a : AnyAgent) × (slice_get S.agents k ≡ Some a) × HasLeft a
  posts_by S k q None at h is = absurd (let z : ⊥ = cc in z)
  posts_by S k q (Some a) at h is = (a, at, of_due (dev.agent_due a) refl h)
    where
      of_due : (d : Option Post) → dev.agent_due a ≡ d → same_option same_post d (Some q) ≡ true → HasLeft a
      of_due None due h = absurd (let z : ⊥ = cc in z)
      of_due (Some x) due h = left_of a x q due h is

  request_few : (S : State AnyAgent) (k : ℕ) (q : Post) (answer : Option Handle) → ((j : ℕ) (a : AnyAgent) → slice_get S.agents j ≡ Some a → IsItself plan j a)
      → may plan agent_meaning S (event.Posted k q answer) ≡ true → is_request q ≡ true → FewArrived S → FewArrived (after plan agent_meaning S (event.Posted k q answer))
  request_few S k q answer selves comes is few =
      let two : (same_option same_post (due_of agent_meaning S k) (Some q) && post_fits plan S k q) ≡ true = both_left (same_option same_post (due_of agent_meaning S k) (Some q) && post_fits plan S k q) (same_option same_handle (post_answer plan S k q) answer) comes in
      let due : same_option same_post (due_of agent_meaning S k) (Some q) ≡ true = both_left (same_option same_post (due_of agent_meaning S k) (Some q)) (post_fits plan S k q) two in
      let it = posts_by S k q (slice_get S.agents k) refl due is in
      let more : total posted_by S.agents < total posted_by (map (λ a. dev.agent_after a (event.Posted k q answer)) S.agents) =
      one_more (event.Posted k q answer) S.agents k it.0 it.1 (posts_one plan k it.0 q answer (selves k it.0 it.1) it.2) in
      let told_more : total posted_by S.agents < total posted_by (after plan agent_meaning S (event.Posted k q answer)).agents =
      subst (λ xs. total posted_by S.agents < total posted_by xs) (sym (agents_after plan agent_meaning S (event.Posted k q answer))) more in
      let brought = post_brings plan agent_meaning S k q answer is in
      omega (arith, told_more, brought, few)

  by_event : (S : State AnyAgent) (e : Event) → ((j : ℕ) (a : AnyAgent) → slice_get S.agents j ≡ Some a → IsItself plan j a) → may plan agent_meaning S e ≡ true → (b : Bool) → posts is_request e ≡ b → FewArrived S → FewArrived (after plan agent_meaning S e)
  by_event S e selves comes false off few = still_few S e off few
  by_event S (event.Posted k q answer) selves comes true is few = request_few S k q answer selves comes is few
  by_event S (event.Local cpu line) selves comes true is few = absurd (let z : ⊥ = cc in z)
  by_event S (event.Log cpu v) selves comes true is few = absurd (let z : ⊥ = cc in z)
  by_event S (event.Start cpu c o r) selves comes true is few = absurd (let z : ⊥ = cc in z)
  by_event S (event.Spend cpu n) selves comes true is few = absurd (let z : ⊥ = cc in z)
  by_event S (event.Register cpu a r n) selves comes true is few = absurd (let z : ⊥ = cc in z)
  by_event S (event.Did cpu c v) selves comes true is few = absurd (let z : ⊥ = cc in z)
  by_event S (event.Waiting cpu c) selves comes true is few = absurd (let z : ⊥ = cc in z)
  by_event S (event.Woke cpu c v) selves comes true is few = absurd (let z : ⊥ = cc in z)
  by_event S (event.Park cpu f) selves comes true is few = absurd (let z : ⊥ = cc in z)
  by_event S (event.Unpark cpu f) selves comes true is few = absurd (let z : ⊥ = cc in z)
  by_event S (event.End cpu c o v) selves comes true is few = absurd (let z : ⊥ = cc in z)
  by_event S (event.Fault cpu x line) selves comes true is few = absurd (let z : ⊥ = cc in z)
  by_event S (event.Stage d s i) selves comes true is few = absurd (let z : ⊥ = cc in z)
  by_event S (event.Complete r s) selves comes true is few = absurd (let z : ⊥ = cc in z)
  by_event S (event.Cleanup o) selves comes true is few = absurd (let z : ⊥ = cc in z)
  by_event S (event.Destroy o) selves comes true is few = absurd (let z : ⊥ = cc in z)
  by_event S (event.Tick time) selves comes true is few = absurd (let z : ⊥ = cc in z)

  abbrev At : List Event → Type 0
  At run = FewArrived (state_after plan agent_meaning run)

  opens : At []
  unfolding state_after
  opens = omega arith

  goes_on : (run : List Event) (e : Event) (place : ℕ) → IsRunOf plan agent_meaning run → At run → slice_get (ready plan agent_meaning run) place ≡ Some e → At (run ++ e ∷ [])
  goes_on run e place is_run few here =
      let S = state_after plan agent_meaning run in
      let next : FewArrived (after plan agent_meaning S e) = elim (follows plan agent_meaning run place e here) [
        | inl comes ↦ by_event S e (itself plan resolved run is_run) comes (posts is_request e) refl few
        | inr time ↦ still_few S e (ap (posts is_request) time.tick) few
      ] in
      subst (λ (T : State AnyAgent). FewArrived T) (sym (state_goes_on plan agent_meaning run e)) next

  few_arrived : (run : List Event) → IsRunOf plan agent_meaning run → FewArrived (state_after plan agent_meaning run)
  few_arrived run is_run =
      at_the_end plan agent_meaning (λ (T : State AnyAgent). FewArrived T) run (along_run At (ready plan agent_meaning) run opens (λ before e place before_run at here. goes_on before e place before_run at here) is_run)

-- ---- the lines of all agents are those of the plan

-- the lines of an agent of the plan, where there is one
abbrev size_of : Option AgentInfo → ℕ
size_of x = length (agent_posts x)

next_dropped : (n : ℕ) (xs : List AgentInfo) → sum_by (λ (a : AgentInfo). length a.posts) (drop n xs) ≡ size_of (slice_get xs n) + sum_by (λ (a : AgentInfo). length a.posts) (drop (suc n) xs)
next_dropped zero [] = refl
next_dropped zero (x ∷ xs) = sum_by-cons (λ (a : AgentInfo). length a.posts) x xs
next_dropped (suc n) [] = refl
next_dropped (suc n) (x ∷ xs) = next_dropped n xs

lines_few : (plan : Plan) (k : ℕ) (a : AnyAgent) → IsItself plan k a → (posted_by a ≤ lines_by a) × (lines_by a ≤ length (posts_of plan k))
lines_few plan k (agent.PnpManager p) h = (h.0.within, let same = ap length h.0.lines in omega (arith, same))
lines_few plan k (agent.App p) h = (h.0.within, let same = ap length h.0.lines in omega (arith, same))
lines_few plan k (agent.Device d) h = (omega arith, omega arith)
lines_few plan k (agent.LowerTarget t) h = (omega arith, omega arith)

left_fewer : (plan : Plan) (k : ℕ) (a : AnyAgent) → IsItself plan k a → HasLeft a → posted_by a < length (posts_of plan k)
left_fewer plan k (agent.PnpManager p) h left = let same = ap length h.0.lines in omega (arith, same, left)
left_fewer plan k (agent.App p) h left = let same = ap length h.0.lines in omega (arith, same, left)
left_fewer plan k (agent.Device d) h left = absurd left
left_fewer plan k (agent.LowerTarget t) h left = absurd left

module _ (plan : Plan) where
  abbrev rest_of : ℕ → ℕ
  rest_of n = sum_by (λ (a : AgentInfo). length a.posts) (drop n plan.agents)

  shift : (n : ℕ) (xs : List AnyAgent) (x : AnyAgent) → AllHave (IsItself plan) (suc n) (x ∷ xs) → AllHave (IsItself plan) (suc (suc n)) xs
  shift n xs x h j a at = let same : suc n + suc j ≡ suc (suc n) + j = omega arith in subst (λ i. IsItself plan i a) same (h (suc j) a at)

  first : (n : ℕ) (xs : List AnyAgent) (x : AnyAgent) → AllHave (IsItself plan) (suc n) (x ∷ xs) → IsItself plan (suc n) x
  first n xs x h = let same : suc n + 0 ≡ suc n = omega arith in subst (λ i. IsItself plan i x) same (h 0 x refl)

  -- the agents from the number n + 1 on have posted no more than they have lines
  within : (n : ℕ) (xs : List AnyAgent) → AllHave (IsItself plan) (suc n) xs → total posted_by xs ≤ rest_of n
  within n [] h = omega arith
  within n (x ∷ xs) h =
      let one = lines_few plan (suc n) x (first n xs x h) in
      let posted = one.0 in let lines = one.1 in
      let next = next_dropped n plan.agents in
      let rest = within (suc n) xs (shift n xs x h) in
      omega (arith, posted, lines, next, rest)

  -- and fewer, where one of them has a line left
  fewer : (n : ℕ) (xs : List AnyAgent) → AllHave (IsItself plan) (suc n) xs → (k : ℕ) (a : AnyAgent) → slice_get xs k ≡ Some a → HasLeft a → total posted_by xs < rest_of n
  fewer n [] h k a at left = absurd (let z : ⊥ = cc in z)
  fewer n (x ∷ xs) h zero a at left =
      let one = left_fewer plan (suc n) x (first n xs x h) (subst HasLeft (sym (same_Some x a at)) left) in
      let next = next_dropped n plan.agents in
      let rest = within (suc n) xs (shift n xs x h) in
      omega (arith, one, next, rest)
  fewer n (x ∷ xs) h (suc k) a at left =
      let one = lines_few plan (suc n) x (first n xs x h) in
      let posted = one.0 in let lines = one.1 in
      let next = next_dropped n plan.agents in
      let rest = fewer (suc n) xs (shift n xs x h) k a at left in
      omega (arith, posted, lines, next, rest)

  all_fewer : (xs : List AnyAgent) → ((k : ℕ) (a : AnyAgent) → slice_get xs k ≡ Some a → IsItself plan k a) → (k : ℕ) (a : AnyAgent) → slice_get xs k ≡ Some a → HasLeft a → total posted_by xs < post_count plan
  all_fewer [] h k a at left = absurd (let z : ⊥ = cc in z)
  all_fewer (x ∷ xs) h zero a at left =
      let one = left_fewer plan 0 x (h 0 x refl) (subst HasLeft (sym (same_Some x a at)) left) in
      let rest = within 0 xs (λ j b is. let same : suc j ≡ suc 0 + j = omega arith in subst (λ i. IsItself plan i b) same (h (suc j) b is)) in
      omega (arith, one, rest)
  all_fewer (x ∷ xs) h (suc k) a at left =
      let one = lines_few plan 0 x (h 0 x refl) in
      let posted = one.0 in let lines = one.1 in
      let rest = fewer 0 xs (λ j b is. let same : suc j ≡ suc 0 + j = omega arith in subst (λ i. IsItself plan i b) same (h (suc j) b is)) k a at left in
      omega (arith, posted, lines, rest)

-- where an app has a line left, fewer requests have arrived than may
pub room_left : (plan : Plan) (run : List Event) → IsResolved plan → IsRunOf plan agent_meaning run → (k : ℕ) (p : app.App) → slice_get (state_after plan agent_meaning run).agents k ≡ Some (agent.App p) → p.posted < length p.lines
    → nat_lt (state_after plan agent_meaning run).requests.arrived 4096 ≡ true
room_left plan run resolved is_run k p at left =
    let S = state_after plan agent_meaning run in
    let few = few_arrived plan resolved run is_run in
    let fewer_ = all_fewer plan S.agents (itself plan resolved run is_run) k (agent.App p) at left in
    let limit : post_count plan ≤ 4096 = leb-true (post_count plan) 4096 resolved.post_limit in
    lt-ltb S.requests.arrived 4096 (omega (arith, few, fewer_, limit))
