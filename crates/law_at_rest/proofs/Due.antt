-- Where nothing may come before the limit, no agent of the program has anything due, but for the Plug and Play manager where a
-- device isn't done.
use Rattle.std.proofs.Common.{if◌then◌else◌, ◌≡◌, ◌⊎◌, inl, inr, ℕ, zero, suc, ◌≤◌, Bool, true, false, ◌&&◌, not, nat_lt, nat_le, List, [], ◌∷◌, length, find, fold, Option, Some, None, option_map, slice_get, refl, sym, ap, ◌∙◌, subst, arith}
use Rattle.std.specs.Prelude.{option_and_then}
use Rattle.std.specs.List.{cons_option, filter_map, list_all}
use Rattle.std.proofs.lemmas.Bool.{leb-false, lt-ltb}
use Rattle.std.proofs.lemmas.Option.{same_Some, slice_get_within}
use Rattle.wdf_base.specs.Plan.{posts_of}
use Rattle.wdf_base.specs.Places.{is_sent_to}
use Rattle.wdf_base.specs.Resolved.{IsResolved, app_post, is_handle, is_ticks, pnp_post}
use Rattle.wdf_base.specs.declared.plan.Plan.{Plan}
use Rattle.wdf_base.specs.declared.declared.PostLine.{PostLine}
use Rattle.wdf_base.specs.declared.event.Event.{Event}
use Rattle.wdf_base.specs.declared.event.Ending.TheVariants as ending
use Rattle.wdf_base.specs.declared.event.Post.{Post}
use Rattle.wdf_base.specs.declared.event.Post.TheVariants as post
use Rattle.wdf_base.specs.declared.object.Kind.TheVariants as kind
use Rattle.wdf_model.specs.declared.entries.DeviceAction.{DeviceAction}
use Rattle.wdf_model.specs.declared.entries.SentRequest.{SentRequest}
use Rattle.wdf_model.specs.Tables.{lesser}
use Rattle.wdf_model.specs.Plans.{device_of_agent, target_of_agent}
use Rattle.wdf_model.specs.agents.App as app
use Rattle.wdf_model.specs.agents.LowerTarget.{LowerTarget, done_post, is_due_sent, later_sent, target_due, target_next}
use Rattle.wdf_model.specs.agents.Device.{Device, action_post, device_due, device_next, due_action, is_due_at, later_tick}
use Rattle.wdf_model.specs.parts.Pnp.{busy}
use Rattle.wdf_model.specs.parts.Requests.{place_of}
use Rattle.wdf_model.specs.parts.Targets.{is_undone}
use Rattle.wdf_model.specs.parts.Tree.{life_of}
use Rattle.wdf_model.specs.State.{State, handle_in, is_proper}
use Rattle.wdf_model.specs.rules.Posts.{due_of, may_finish, post_fits}
use Rattle.wdf_model.specs.rules.Ready.{IsRunOf, ending_of, is_open_post, state_after}
use Rattle.wdf_model.proofs.Counts.{equal}
use Rattle.wdf_model.proofs.Tests.{both, both_right}
use Rattle.wdf_dev.specs.Agents as dev
use Rattle.wdf_dev.specs.Agents.{agent_meaning}
use Rattle.wdf_dev.specs.declared.any.AnyAgent.{AnyAgent}
use Rattle.wdf_dev.specs.declared.any.AnyAgent.TheVariants as agent
use Rattle.law_machine_base.specs.OverRuns.{PlacesAgree}
use Rattle.law_machine_base.proofs.LawsOverRuns.{places_agree}
use Rattle.law_machine_lives.proofs.Lists.{Each, all_at}
use Rattle.law_machine_lives.proofs.Lives.{early_there}
use Rattle.law_stack.proofs.Held.{sent_there}
use Rattle.law_stack.proofs.Undone.{undone}
use Rattle.law_stuck_causes.proofs.Endings.{at_the_end}
use Rattle.law_stuck_causes.proofs.Finished.{finished as nothing_left}
use Rattle.law_at_rest.specs.Rest.{AllPlayed, HasActed, HasAsked, HasFinished, HasPlayed, HasPosted, IsAskedOfBusy, IsOver, NothingComes}
use Rattle.law_at_rest.proofs.Arrived.{room_left}
use Rattle.law_at_rest.proofs.Devices.{IsActOf, IsSuch}
use Rattle.law_at_rest.proofs.Itself.{HasLines, IsItself, IsOfTarget, itself}
use Rattle.law_at_rest.proofs.Proper.{IsFine, all_fine, each_there}
use Rattle.law_at_rest.proofs.Rest.{nothing_comes}
use Rattle.law_at_rest.proofs.Targets.{waits_undone}
use Rattle.law_stuck_causes.proofs.Needs.{no_least}

-- ---- a line that isn't posted is due, where none is later

due_or_later : (now : ℕ) (l : PostLine) (b : Bool) → nat_le l.tick now ≡ b → app.later_line now (Some l) ≡ None → app.due_line now (Some l) ≡ Some l.post
due_or_later now l true e none = rw e refl
due_or_later now l false e none =
    let later : nat_lt now l.tick ≡ true = lt-ltb now l.tick (leb-false l.tick now e) in
    absurd (let z : ⊥ = cc (sym (later_is later) ∙ none) in z)
  where
    later_is : nat_lt now l.tick ≡ true → app.later_line now (Some l) ≡ Some l.tick
    later_is h = rw h refl

past_end : {T : Type 0} (xs : List T) (k : ℕ) → slice_get xs k ≡ None → length xs ≤ k
past_end [] k h = omega arith
past_end (x ∷ xs) zero h = absurd (let z : ⊥ = cc in z)
past_end (x ∷ xs) (suc k) h = let rest : length xs ≤ k = past_end xs k h in omega (arith, rest)

-- ---- the least of no numbers

least_by : (m n : ℕ) (ns : List ℕ) (b : Bool) → (fold lesser (Some m) ns ≡ None → ⊥) → (fold lesser (Some n) ns ≡ None → ⊥) → fold lesser (if b then Some m else Some n) ns ≡ None → ⊥
least_by m n ns true one two e = one e
least_by m n ns false one two e = two e

some_least : (m : ℕ) (ns : List ℕ) → fold lesser (Some m) ns ≡ None → ⊥
some_least m [] h = let z : ⊥ = cc in z
some_least m (n ∷ ns) h = least_by m n ns (nat_le m n) (some_least m ns) (some_least n ns) h

none_kept : {X Y : Type 0} (f : X → Option Y) (xs : List X) (k : ℕ) (x : X) → filter_map f xs ≡ [] → slice_get xs k ≡ Some x → f x ≡ None
none_kept f [] k x h at = absurd (let z : ⊥ = cc in z)
none_kept f (y ∷ ys) zero x h at = ap f (sym (same_Some y x at)) ∙ first (f y) h
  where
    first : (o : Option _) → cons_option o (filter_map f ys) ≡ [] → o ≡ None
    first None e = refl
    first (Some z) e = absurd (let c : ⊥ = cc in c)
none_kept f (y ∷ ys) (suc k) x h at = none_kept f ys k x (rest (f y) h) at
  where
    rest : (o : Option _) → cons_option o (filter_map f ys) ≡ [] → filter_map f ys ≡ []
    rest None e = e
    rest (Some z) e = absurd (let c : ⊥ = cc in c)

not_found : {T : Type 0} (p : T → Bool) (xs : List T) (k : ℕ) (x : T) → find p xs ≡ None → slice_get xs k ≡ Some x → p x ≡ false
not_found p [] k x h at = absurd (let z : ⊥ = cc in z)
not_found p (y ∷ ys) zero x h at = ap p (sym (same_Some y x at)) ∙ by_test (p y) h
  where
    by_test : (b : Bool) → (if b then Some y else find p ys) ≡ None → b ≡ false
    by_test true e = absurd (let z : ⊥ = cc in z)
    by_test false e = refl
not_found p (y ∷ ys) (suc k) x h at = not_found p ys k x (rest (p y) h) at
  where
    rest : (b : Bool) → (if b then Some y else find p ys) ≡ None → find p ys ≡ None
    rest true e = absurd (let z : ⊥ = cc in z)
    rest false e = e

found_by : (P : DeviceAction → Type 0) (p : DeviceAction → Bool) (y x : DeviceAction) (ys : List DeviceAction) (b : Bool) → P y → (find p ys ≡ Some x → P x) → (if b then Some y else find p ys) ≡ Some x → P x
found_by P p y x ys true h rest e = subst P (same_Some y x e) h
found_by P p y x ys false h rest e = rest e

found_in : (P : DeviceAction → Type 0) (p : DeviceAction → Bool) (xs : List DeviceAction) (x : DeviceAction) → Each P xs → find p xs ≡ Some x → P x
found_in P p [] x h at = absurd (let z : ⊥ = cc in z)
found_in P p (y ∷ ys) x h at = found_by P p y x ys (p y) h.0 (found_in P p ys x h.1) at

no_such : (b : Bool) → (b && false) ≡ true → ⊥
no_such true h = let z : ⊥ = cc in z
no_such false h = let z : ⊥ = cc in z

-- ---- each agent

module _ (plan : Plan) (run : List Event) (resolved : IsResolved plan) (is_run : IsRunOf plan agent_meaning run) (ends : (ending_of plan agent_meaning run ≡ ending.Finished) ⊎ (ending_of plan agent_meaning run ≡ ending.Stuck)) where
  abbrev S : State AnyAgent
  S = state_after plan agent_meaning run

  rest : NothingComes plan agent_meaning S
  rest = nothing_comes plan agent_meaning run ends

  due_here : (k : ℕ) (a : AnyAgent) (q : Post) → slice_get S.agents k ≡ Some a → dev.agent_due a ≡ Some q → post_fits plan S k q ≡ false
  due_here k a q at due = rest.posts k q (ap (option_and_then dev.agent_due) at ∙ due)

  -- the next line of an app or of the manager is due
  next_due : (k : ℕ) (p : app.App) (l : PostLine) → slice_get p.lines p.posted ≡ Some l → app.app_next p ≡ None → app.app_due p ≡ Some l.post
  next_due k p l at later =
      let later_one : app.later_line p.clock (Some l) ≡ None = ap (app.later_line p.clock) (sym at) ∙ later in
      ap (app.due_line p.clock) at ∙ due_or_later p.clock l (nat_le l.tick p.clock) refl later_one

  -- ---- the manager

  busy_by : (b : Bool) → (not b) ≡ false → b ≡ true
  busy_by true h = refl
  busy_by false h = absurd (let z : ⊥ = cc in z)

  asks_busy : (q : Post) (tick line : ℕ) → pnp_post plan (record { tick = tick; post = q; line = line }) ≡ true → post_fits plan S 0 q ≡ false → IsAskedOfBusy S q
  asks_busy (post.Ask a d) tick line said off =
      let handle : is_handle plan kind.Device d ≡ true = both_right (is_ticks tick) (is_handle plan kind.Device d) said in
      let idle : (not (busy S.pnp d.id.0)) ≡ false = rw handle at off in
      (a, d, refl, busy_by (busy S.pnp d.id.0) idle)
  asks_busy (post.Read d n) tick line said off = absurd (no_such (is_ticks tick) said)
  asks_busy (post.Write d n) tick line said off = absurd (no_such (is_ticks tick) said)
  asks_busy (post.Control d c n) tick line said off = absurd (no_such (is_ticks tick) said)
  asks_busy (post.Cancel j) tick line said off = absurd (no_such (is_ticks tick) said)
  asks_busy (post.Act a) tick line said off = absurd (no_such (is_ticks tick) said)
  asks_busy (post.Done r s) tick line said off = absurd (no_such (is_ticks tick) said)

  manager_over : (k : ℕ) (p : app.App) → slice_get S.agents k ≡ Some (agent.PnpManager p) → HasLines plan k p → k ≡ 0 → HasAsked plan S p
  manager_over k p at h zeroth = by (slice_get p.lines p.posted) refl
    where
      lines : p.lines ≡ plan.pnp
      lines = h.lines ∙ ap (posts_of plan) zeroth

      by : (o : Option PostLine) → slice_get p.lines p.posted ≡ o → HasAsked plan S p
      by None here = inl (past_end plan.pnp p.posted (ap (λ ls. slice_get ls p.posted) (sym lines) ∙ here))
      by (Some l) here =
          let there : slice_get plan.pnp p.posted ≡ Some l = ap (λ ls. slice_get ls p.posted) (sym lines) ∙ here in
          let due = next_due k p l here (rest.later k (agent.PnpManager p) at) in
          let off : post_fits plan S 0 l.post ≡ false = subst (λ n. post_fits plan S n l.post ≡ false) zeroth (due_here k (agent.PnpManager p) l.post at due) in
          inr (l, there, asks_busy l.post l.tick l.line (all_at (pnp_post plan) plan.pnp p.posted l resolved.pnp_posts there) off)

  -- ---- apps

  post_comes : (k : ℕ) (q : Post) (tick line : ℕ) → app_post plan (record { tick = tick; post = q; line = line }) ≡ true → nat_lt S.requests.arrived 4096 ≡ true → post_fits plan S k q ≡ true
  post_comes k (post.Read d n) tick line said few = both (is_handle plan kind.Device d) (nat_lt S.requests.arrived 4096) (both_right (is_ticks tick) (is_handle plan kind.Device d) said) few
  post_comes k (post.Write d n) tick line said few = both (is_handle plan kind.Device d) (nat_lt S.requests.arrived 4096) (both_right (is_ticks tick) (is_handle plan kind.Device d) said) few
  post_comes k (post.Control d c n) tick line said few = both (is_handle plan kind.Device d) (nat_lt S.requests.arrived 4096) (both_right (is_ticks tick) (is_handle plan kind.Device d) said) few
  post_comes k (post.Cancel j) tick line said few = refl
  post_comes k (post.Ask a d) tick line said few = absurd (no_such (is_ticks tick) said)
  post_comes k (post.Act a) tick line said few = absurd (no_such (is_ticks tick) said)
  post_comes k (post.Done r s) tick line said few = absurd (no_such (is_ticks tick) said)

  app_over : (k : ℕ) (p : app.App) → slice_get S.agents k ≡ Some (agent.App p) → HasLines plan k p → list_all (app_post plan) (posts_of plan k) ≡ true → HasPosted plan k p
  app_over k p at h said = by (slice_get p.lines p.posted) refl
    where
      by : (o : Option PostLine) → slice_get p.lines p.posted ≡ o → HasPosted plan k p
      by None here = past_end (posts_of plan k) p.posted (ap (λ ls. slice_get ls p.posted) (sym h.lines) ∙ here)
      by (Some l) here =
          let there : slice_get (posts_of plan k) p.posted ≡ Some l = ap (λ ls. slice_get ls p.posted) (sym h.lines) ∙ here in
          let due = next_due k p l here (rest.later k (agent.App p) at) in
          let off : post_fits plan S k l.post ≡ false = due_here k (agent.App p) l.post at due in
          let few = room_left plan run resolved is_run k p at (slice_get_within p.lines p.posted l here) in
          let fits : post_fits plan S k l.post ≡ true = post_comes k l.post l.tick l.line (all_at (app_post plan) (posts_of plan k) p.posted l said there) few in
          absurd (let z : ⊥ = cc in z)

  -- ---- devices

  none_due : (k : ℕ) (d : Device) → slice_get S.agents k ≡ Some (agent.Device d) → IsSuch (IsActOf plan (device_of_agent plan k)) k d → (o : Option DeviceAction) → due_action d ≡ o → due_action d ≡ None
  none_due k d at h None is = is
  none_due k d at h (Some l) is =
      let due : device_due d ≡ Some (post.Act l.action) = ap (option_map action_post) is in
      let off : post_fits plan S k (post.Act l.action) ≡ false = due_here k (agent.Device d) (post.Act l.action) at due in
      let fits : post_fits plan S k (post.Act l.action) ≡ true = found_in (λ (x : DeviceAction). IsActOf plan (device_of_agent plan k) x.action) (λ x. is_due_at d.clock x.tick) d.actions l h.actions is in
      absurd (let z : ⊥ = cc in z)

  no_tick : (now : ℕ) (o : Option ℕ) → is_due_at now o ≡ false → later_tick now o ≡ None → o ≡ None
  no_tick now None due later = refl
  no_tick now (Some t) due later =
      let after : nat_lt now t ≡ true = lt-ltb now t (leb-false t now due) in
      let some : later_tick now (Some t) ≡ Some t = rw after refl in
      absurd (let z : ⊥ = cc in z)

  device_over : (k : ℕ) (d : Device) → slice_get S.agents k ≡ Some (agent.Device d) → IsSuch (IsActOf plan (device_of_agent plan k)) k d → HasActed d
  device_over k d at h j l here =
      let none = none_due k d at h (due_action d) refl in
      let later : device_next d ≡ None = rest.later k (agent.Device d) at in
      let empty = no_least (filter_map (λ (x : DeviceAction). later_tick d.clock x.tick) d.actions) later in
      no_tick d.clock l.tick (not_found (λ (x : DeviceAction). is_due_at d.clock x.tick) d.actions j l none here) (none_kept (λ (x : DeviceAction). later_tick d.clock x.tick) d.actions j l empty here)

  -- ---- targets

  places : PlacesAgree (state_after plan agent_meaning run)
  places = at_the_end plan agent_meaning (λ (T : State AnyAgent). PlacesAgree T) run (places_agree plan agent_meaning run is_run)

  due_or_later_sent : (now : ℕ) (s : SentRequest) (b : Bool) → is_due_sent now s ≡ b → later_sent now s ≡ None → is_due_sent now s ≡ true
  due_or_later_sent now s true e none = e
  due_or_later_sent now s false e none = absurd (let later : later_sent now s ≡ Some s.tick = rw e refl in let z : ⊥ = cc in z)

  -- a target may be done with a request that it has
  may_be_done : (k : ℕ) (t : LowerTarget) (s : SentRequest) → IsOfTarget plan k t → IsFine plan S s.request → 1 ≤ undone S.targets t.target s.request.id.0 → may_finish plan S (target_of_agent plan k) s.request ≡ true
  may_be_done k t s own fine there =
      let proper : is_proper plan S s.request ≡ true = equal s.request.name (handle_in plan S s.request.id.0).name (fine.named.1 (early_there (life_of S.tree s.request.id.0) fine.early)) in
      let sent : is_sent_to t.target (place_of S.requests s.request.id.0) ≡ true = sent_there S t.target places s.request.id.0 there in
      let waits : is_undone S.targets s.request.id.0 ≡ true = waits_undone S t.target s.request.id.0 places there in
      rw own.target
      (both (is_proper plan S s.request && is_sent_to t.target (place_of S.requests s.request.id.0)) (is_undone S.targets s.request.id.0)
      (both (is_proper plan S s.request) (is_sent_to t.target (place_of S.requests s.request.id.0)) proper sent) waits)

  target_over : (k : ℕ) (t : LowerTarget) → slice_get S.agents k ≡ Some (agent.LowerTarget t) → IsOfTarget plan k t → HasFinished t
  target_over k t at own = by t.sent refl
    where
      by : (xs : List SentRequest) → t.sent ≡ xs → t.sent ≡ []
      by [] e = e
      by (s ∷ xs) e =
          let later : target_next t ≡ None = rest.later k (agent.LowerTarget t) at in
          let empty : filter_map (later_sent t.clock) t.sent ≡ [] = no_least (filter_map (later_sent t.clock) t.sent) later in
          let first : slice_get t.sent 0 ≡ Some s = ap (λ ys. slice_get ys 0) e in
          let due : is_due_sent t.clock s ≡ true = due_or_later_sent t.clock s (is_due_sent t.clock s) refl (none_kept (later_sent t.clock) t.sent 0 s empty first) in
          let found : find (is_due_sent t.clock) t.sent ≡ Some s = ap (find (is_due_sent t.clock)) e ∙ rw due refl in
          let off : post_fits plan S k (done_post t.status s) ≡ false = due_here k (agent.LowerTarget t) (done_post t.status s) at (ap (option_map (done_post t.status)) found) in
          let fine = (subst (λ ys. Each (λ (x : SentRequest). IsFine plan S x.request) ys) e (all_fine plan resolved run is_run k t at)).0 in
          let there = (subst (λ ys. Each (λ (x : SentRequest). 1 ≤ undone S.targets t.target x.request.id.0) ys) e (each_there plan resolved run is_run k t at)).0 in
          let fits : post_fits plan S k (done_post t.status s) ≡ true = may_be_done k t s own fine there in
          absurd (let z : ⊥ = cc in z)

  -- ---- all of them

  agent_over : (k : ℕ) (a : AnyAgent) → slice_get S.agents k ≡ Some a → IsItself plan k a → IsOver plan S k a
  agent_over k (agent.PnpManager p) at h = manager_over k p at h.0 h.1
  agent_over k (agent.App p) at h = app_over k p at h.0 h.1
  agent_over k (agent.Device d) at h = device_over k d at h
  agent_over k (agent.LowerTarget t) at h = target_over k t at h

  pub agents_over : (k : ℕ) (a : AnyAgent) → slice_get S.agents k ≡ Some a → IsOver plan S k a
  agents_over k a at = agent_over k a at (itself plan resolved run is_run k a at)

  -- ---- what is due

  line_due : (now : ℕ) (l : PostLine) (q : Post) (b : Bool) → nat_le l.tick now ≡ b → app.due_line now (Some l) ≡ Some q → l.post ≡ q
  line_due now l q true e due = same_Some l.post q (sym (due_if e) ∙ due)
    where
      due_if : nat_le l.tick now ≡ true → app.due_line now (Some l) ≡ Some l.post
      due_if h = rw h refl
  line_due now l q false e due = absurd (let none : app.due_line now (Some l) ≡ None = rw e refl in let z : ⊥ = cc (sym none ∙ due) in z)

  -- what the manager has due is its next line, for a device that isn't done
  manager_due : (k : ℕ) (p : app.App) (q : Post) → slice_get S.agents k ≡ Some (agent.PnpManager p) → HasLines plan k p → k ≡ 0 → app.app_due p ≡ Some q → IsAskedOfBusy S q
  manager_due k p q at h zeroth due = by (slice_get p.lines p.posted) refl
    where
      by : (o : Option PostLine) → slice_get p.lines p.posted ≡ o → IsAskedOfBusy S q
      by None here = absurd (let none : app.app_due p ≡ None = ap (app.due_line p.clock) here in let z : ⊥ = cc (sym none ∙ due) in z)
      by (Some l) here =
          let same : l.post ≡ q = line_due p.clock l q (nat_le l.tick p.clock) refl (ap (app.due_line p.clock) (sym here) ∙ due) in
          let there : slice_get plan.pnp p.posted ≡ Some l = ap (λ ls. slice_get ls p.posted) (sym (h.lines ∙ ap (posts_of plan) zeroth)) ∙ here in
          let off : post_fits plan S 0 l.post ≡ false = subst (λ n. post_fits plan S n l.post ≡ false) zeroth (due_here k (agent.PnpManager p) l.post at (due ∙ ap Some (sym same))) in
          subst (IsAskedOfBusy S) same (asks_busy l.post l.tick l.line (all_at (pnp_post plan) plan.pnp p.posted l resolved.pnp_posts there) off)

  app_quiet : (k : ℕ) (p : app.App) → HasLines plan k p → HasPosted plan k p → app.app_due p ≡ None
  app_quiet k p h over = by (slice_get p.lines p.posted) refl
    where
      by : (o : Option PostLine) → slice_get p.lines p.posted ≡ o → app.app_due p ≡ None
      by None here = ap (app.due_line p.clock) here
      by (Some l) here = absurd (let low = slice_get_within p.lines p.posted l here in let long : length p.lines ≡ length (posts_of plan k) = ap length h.lines in omega (arith, low, long, over))

  none_due_at : (q : Post) (o : Option Post) → o ≡ None → o ≡ Some q → ⊥
  none_due_at q o none due = let z : ⊥ = cc in z

  agent_due : (k : ℕ) (a : AnyAgent) (q : Post) → slice_get S.agents k ≡ Some a → IsItself plan k a → dev.agent_due a ≡ Some q → (k ≡ 0) × IsAskedOfBusy S q
  agent_due k (agent.PnpManager p) q at h due = (h.1, manager_due k p q at h.0 h.1 due)
  agent_due k (agent.App p) q at h due = absurd (none_due_at q (app.app_due p) (app_quiet k p h.0 (app_over k p at h.0 h.1)) due)
  agent_due k (agent.Device d) q at h due = absurd (none_due_at q (device_due d) (ap (option_map action_post) (none_due k d at h (due_action d) refl)) due)
  agent_due k (agent.LowerTarget t) q at h due = absurd (none_due_at q (target_due t) (ap (λ xs. option_map (done_post t.status) (find (is_due_sent t.clock) xs)) (target_over k t at h)) due)

  pub asks_due : (k : ℕ) (q : Post) → due_of agent_meaning S k ≡ Some q → (k ≡ 0) × IsAskedOfBusy S q
  asks_due k q due = by (slice_get S.agents k) refl
    where
      by : (o : Option AnyAgent) → slice_get S.agents k ≡ o → (k ≡ 0) × IsAskedOfBusy S q
      by None at = absurd (none_due_at q (due_of agent_meaning S k) (ap (option_and_then dev.agent_due) at) due)
      by (Some a) at = agent_due k a q at (itself plan resolved run is_run k a at) (ap (option_and_then dev.agent_due) (sym at) ∙ due)

-- ---- where a run has finished

not_open : {A : Type 0} (S : State A) (q : Post) → IsAskedOfBusy S q → is_open_post S (Some q) ≡ false → ⊥
not_open S q it off =
    let on_ : is_open_post S (Some q) ≡ true = ap (λ (p : Post). is_open_post S (Some p)) it.2 ∙ it.3 in
    let z : ⊥ = cc in z

module _ (plan : Plan) (run : List Event) (resolved : IsResolved plan) (is_run : IsRunOf plan agent_meaning run) (ends : ending_of plan agent_meaning run ≡ ending.Finished) where
  abbrev T : State AnyAgent
  T = state_after plan agent_meaning run

  no_open_post : is_open_post T (due_of agent_meaning T 0) ≡ false
  no_open_post = (nothing_left plan agent_meaning run is_run ends).posts

  none_due_here : (k : ℕ) (o : Option Post) → due_of agent_meaning T k ≡ o → due_of agent_meaning T k ≡ None
  none_due_here k None e = e
  none_due_here k (Some q) e =
      let it = asks_due plan run resolved is_run (inl ends) k q e in
      let first : due_of agent_meaning T 0 ≡ Some q = ap (due_of agent_meaning T) (sym it.0) ∙ e in
      absurd (not_open T q it.1 (ap (is_open_post T) (sym first) ∙ no_open_post))

  -- a line of the manager that isn't posted would be due
  manager_played : (k : ℕ) (p : app.App) → slice_get T.agents k ≡ Some (agent.PnpManager p) → HasLines plan k p → k ≡ 0 → HasAsked plan T p → HasPosted plan 0 p
  manager_played k p at h zeroth (inl all) = all
  manager_played k p at h zeroth (inr it) =
      let l : PostLine = it.0 in
      let next : slice_get (posts_of plan 0) p.posted ≡ Some l = it.1 in
      let here : slice_get p.lines p.posted ≡ Some l = ap (λ ls. slice_get ls p.posted) (h.lines ∙ ap (posts_of plan) zeroth) ∙ next in
      let due : app.app_due p ≡ Some l.post = next_due plan run resolved is_run (inl ends) k p l here ((nothing_comes plan agent_meaning run (inl ends)).later k (agent.PnpManager p) at) in
      let due_there : due_of agent_meaning T k ≡ Some l.post = ap (option_and_then dev.agent_due) at ∙ due in
      let none = none_due_here k (due_of agent_meaning T k) refl in
      absurd (let z : ⊥ = cc (sym none ∙ due_there) in z)

  agent_played : (k : ℕ) (a : AnyAgent) → slice_get T.agents k ≡ Some a → IsItself plan k a → IsOver plan T k a → HasPlayed plan k a
  agent_played k (agent.PnpManager p) at h over = manager_played k p at h.0 h.1 over
  agent_played k (agent.App p) at h over = over
  agent_played k (agent.Device d) at h over = over
  agent_played k (agent.LowerTarget t) at h over = over

  pub all_played : AllPlayed plan (state_after plan agent_meaning run)
  all_played = record {
    played = λ k a at. agent_played k a at (itself plan resolved run is_run k a at) (agents_over plan run resolved is_run (inl ends) k a at);
    due = λ k. none_due_here k (due_of agent_meaning T k) refl;
  }
