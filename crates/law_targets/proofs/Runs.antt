-- What a target is at each place of a run, by the events so far; and when it is done with a request.
use Rattle.std.proofs.Common.{if◌then◌else◌, ◌≡◌, inl, inr, ℕ, zero, suc, ◌+◌, ◌-◌, ◌==◌, ◌<◌, ◌≤◌, nat_le, nat_lt, Bool, true, false, not, ◌&&◌, ◌||◌, List, [], ◌∷◌, ◌++◌, count_by, find, fold, length, map, Option, Some, None, option_map, unwrap_or, slice_get, take, refl, sym, ap, subst, ◌∙◌, arith, eqb-true}
use Rattle.std.specs.Prelude.{is_some, option_and_then}
use Rattle.std.specs.List.{list_any, range_with_len}
use Rattle.std.proofs.lemmas.Bool.{cases_lt, leb-true, lt-ltb, ltb-true}
use Rattle.std.proofs.lemmas.List.{length-map}
use Rattle.std.proofs.lemmas.List.Sums.{fold-append}
use Rattle.std.proofs.Math.Seq.{take-append_seam}
use Rattle.std.proofs.lemmas.Option.{same_Some, slice_get-map}
use Rattle.wdf_base.proofs.Tests.{both_left, both_right}
use Rattle.wdf_base.specs.Meaning.{Meaning}
use Rattle.wdf_base.specs.Places.{is_sent_to}
use Rattle.wdf_base.specs.Resolved.{IsResolved}
use Rattle.wdf_base.specs.Same.{same_handle, same_option, same_post, same_status, same_value}
use Rattle.wdf_base.specs.declared.call.Arg.{Arg}
use Rattle.wdf_base.specs.declared.call.CallKind.{CallKind}
use Rattle.wdf_base.specs.declared.call.CallKind.TheVariants as call
use Rattle.wdf_base.specs.declared.declared.TargetInfo.{TargetInfo}
use Rattle.wdf_base.specs.declared.event.Event.{Event}
use Rattle.wdf_base.specs.declared.event.Event.TheVariants as event
use Rattle.wdf_base.specs.declared.event.Post.{Post}
use Rattle.wdf_base.specs.declared.event.Post.TheVariants as post
use Rattle.wdf_base.specs.declared.ids.Cpu.{Cpu}
use Rattle.wdf_base.specs.declared.ids.Handle.{Handle}
use Rattle.wdf_base.specs.declared.plan.Plan.{Plan}
use Rattle.wdf_base.specs.declared.value.Status.{Status}
use Rattle.wdf_base.specs.declared.value.Status.TheVariants as status
use Rattle.wdf_base.specs.declared.value.Value.{Value}
use Rattle.wdf_base.specs.declared.value.Value.TheVariants.{Num}
use Rattle.wdf_model.specs.Plans.{target_of, target_of_agent}
use Rattle.wdf_model.specs.State.{State, is_proper, object_in, opening}
use Rattle.wdf_model.specs.Tables.{LAST_TICK, entry}
use Rattle.wdf_model.specs.agents.LowerTarget.{LowerTarget, done_post, handle_in_arg, is_due_sent, target_after, target_at, target_due}
use Rattle.wdf_model.specs.declared.entries.Sending.{Sending}
use Rattle.wdf_model.specs.declared.entries.SentRequest.{SentRequest}
use Rattle.wdf_model.specs.parts.Requests.{place_of}
use Rattle.wdf_model.specs.parts.Targets.{is_at_target, is_undone, no_target, opening_target, opening_targets, pending, the_target}
use Rattle.wdf_model.specs.rules.Deeds.{told}
use Rattle.wdf_model.specs.rules.Posts.{due_of, may_finish, post_answer, post_fits}
use Rattle.wdf_model.specs.rules.Ready.{IsRunOf, ready, state_after}
use Rattle.wdf_model.specs.rules.Steps.{after, deeds, may}
use Rattle.wdf_model.proofs.Counting.{counted_first, counting_commutes}
use Rattle.wdf_model.proofs.Counts.{both_fewer, equal, one_or_two}
use Rattle.wdf_model.proofs.Runs.{along_run, run_front, take_ended, take_next}
use Rattle.wdf_model.proofs.Sames.{handle_same, status_decides}
use Rattle.law_idle.specs.Idling.{time_after, time_step}
use Rattle.law_idle.proofs.Meters.{event_steady, is_tick}
use Rattle.law_machine_base.specs.OverRuns.{PlacesAgree}
use Rattle.law_machine_base.proofs.Follows.{follows, state_goes_on}
use Rattle.law_machine_base.proofs.LawsOverRuns.{places_agree}
use Rattle.law_machine_lives.proofs.Keeping.{comes}
use Rattle.law_machine_once.proofs.Numbers.{number_is, within_limit_of}
use Rattle.law_machine_room.proofs.RoomLaws.{room_is_kept}
use Rattle.law_stack.specs.Words.{Passing, passing_step, passings}
use Rattle.law_stack.proofs.Held.{IsThere, at_one_target, sends_of, sent_there, takes, there_next, there_ticks}
use Rattle.law_stack.proofs.Targets.{one_agent}
use Rattle.law_stack.proofs.Undone.{depths_stay}
use Rattle.law_stuck_causes.proofs.Endings.{at_the_end}
use Rattle.law_trace_power.proofs.Laws.{comes_by}
use Rattle.law_targets.specs.Targets.{IsAt, IsTargetAgent, IsNotDue, MayBeDone, cancels, delay_of, sent_to, status_of}
use Rattle.law_targets.proofs.Found.{IsFound, found}
use Rattle.law_targets.proofs.Hearing.{Spares, heard, hears}
use Rattle.law_targets.proofs.Kept.{kept, kept_more}
use Rattle.law_targets.proofs.There.{alike_next, asks, no_longer, none_left_out, passes, read_counted}
use Rattle.law_stack.proofs.Openings.{no_passings}
use Rattle.law_stack.proofs.Steps.{passings_next}

-- ---- the depth at the opening

depth_by : (o : Option TargetInfo) → (opening_target o).depth ≤ unwrap_or (option_map (λ i. i.depth) o) 0
depth_by None = omega arith
depth_by (Some i) = omega arith

in_range : (plan : Plan) (a n t : ℕ) → (entry no_target (map (λ x. opening_target (target_of plan x)) (range_with_len a n)) t).depth ≤ unwrap_or (option_map (λ i. i.depth) (target_of plan (a + t))) 0
in_range plan a zero t = omega arith
in_range plan a (suc n) zero = subst (λ x. (opening_target (target_of plan a)).depth ≤ unwrap_or (option_map (λ (i : TargetInfo). i.depth) (target_of plan x)) 0) (let e : a ≡ a + 0 = omega arith in e) (depth_by (target_of plan a))
in_range plan a (suc n) (suc t) =
    subst (λ x. (entry no_target (map (λ y. opening_target (target_of plan y)) (range_with_len (a + 1) n)) t).depth ≤ unwrap_or (option_map (λ (i : TargetInfo). i.depth) (target_of plan x)) 0)
    (let e : (a + 1) + t ≡ a + suc t = omega arith in e) (in_range plan (a + 1) n t)

-- ---- what an agent hears

module _ {A : Type 0} (plan : Plan) (m : Meaning A) (k t : ℕ) (is : IsTargetAgent plan m k t) where
  abbrev start : LowerTarget
  start = target_at plan t k

  abbrev d : ℕ
  d = delay_of plan t

  -- the agent is seen as this target
  abbrev Sees : List A → LowerTarget → Type 0
  Sees xs u = (a : A) → slice_get xs k ≡ Some a → is.seen a ≡ Some u

  seen_mapped : (e : Event) (xs : List A) (u : LowerTarget) → Sees xs u → Sees (map (λ x. m.fold x e) xs) (target_after u e)
  seen_mapped e xs u h a at = by (slice_get xs k) refl (sym (slice_get-map (λ x. m.fold x e) xs k) ∙ at)
    where
      by : (o : Option A) → slice_get xs k ≡ o → option_map (λ x. m.fold x e) o ≡ Some a → is.seen a ≡ Some (target_after u e)
      by None here it = absurd (let z : ⊥ = cc in z)
      by (Some x) here it = subst (λ y. is.seen y ≡ Some (target_after u e)) (same_Some (m.fold x e) a it) (is.hears x u e (h x here))

  told_seen : (e : Event) (xs : List A) (u : LowerTarget) → Sees xs u → Sees (told m e xs) (target_after u e)
  told_seen (event.Local cpu line) xs u h = h
  told_seen (event.Log cpu v) xs u h = h
  told_seen e xs u h = seen_mapped e xs u h

  after_seen : (S : State A) (e : Event) (u : LowerTarget) → Sees S.agents u → Sees (after plan m S e).agents (target_after u e)
  after_seen S e u h =
      let agents : (after plan m S e).agents ≡ told m e S.agents
      = ap (λ (T : State A). T.agents) (sym (counted_first plan m (deeds plan S e) e S)) ∙ ap (λ (T : State A). T.agents) (counting_commutes plan m (deeds plan S e) e S) in
      subst (λ xs. Sees xs (target_after u e)) (sym agents) (told_seen e S.agents u h)

  opened : (low n j : ℕ) (a : A) → slice_get (map (m.begin plan) (range_with_len low n)) j ≡ Some a → m.begin plan (low + j) ≡ a
  opened low zero j a h = absurd (let z : ⊥ = cc in z)
  opened low (suc n) zero a h = ap (m.begin plan) (let e : low + 0 ≡ low = omega arith in e) ∙ same_Some (m.begin plan low) a h
  opened low (suc n) (suc j) a h = ap (m.begin plan) (let e : low + suc j ≡ (low + 1) + j = omega arith in e) ∙ opened (low + 1) n j a h

  -- ---- the target by the events

  abbrev pub as_events : List Event → LowerTarget
  as_events es = record start { sent = kept t d 0 es; clock = fold time_step 0 es }

  pub record Knows (es : List Event) (S : State A) : Type 0 where
    pub sees : Sees S.agents (as_events es)
    pub alike : asks (kept t d 0 es) ≡ passes (passings t k es)
    pub there : IsThere S.targets t (passings t k es)
    pub depth : (the_target S.targets t).depth ≤ start.depth

  opens : Knows [] (state_after plan m [])
  unfolding state_after
  opens =
      let none = sym (no_passings t k) in
      record {
        sees = λ a at. ap is.seen (sym (opened 0 _ k a at) ∙ ap (m.begin plan) (let e : 0 + k ≡ k = omega arith in e)) ∙ is.begins;
        alike = ap passes none;
        there = subst (λ (ps : List Passing). IsThere (opening plan m).targets t ps) none (λ r. omega arith);
        depth = subst (λ x. (the_target (opening_targets plan) t).depth ≤ unwrap_or (option_map (λ (i : TargetInfo). i.depth) (target_of plan x)) 0) (let e : 0 + t ≡ t = omega arith in e) (in_range plan 0 (suc (length plan.declared)) t);
      }

  module _ (es : List Event) (S : State A) (places : PlacesAgree S) (h : Knows es S) where
    abbrev ps : List Passing
    ps = passings t k es

    abbrev u : LowerTarget
    u = as_events es

    -- a send that goes finds room
    finds_room : (cpu : Cpu) (n : ℕ) (a b x : Arg) (v : Value) → may plan m S (event.Did cpu (record { kind = call.WdfRequestSend; count = n; a = a; b = b; c = x }) v) ≡ true
        → (ok : Bool) → (object_in b == t && same_value v (Num 1)) ≡ ok → is_some (if ok then handle_in_arg a else None) ≡ true → nat_lt (length u.sent) u.depth ≡ true
    finds_room cpu n a b x v comes false ok some = absurd (let z : ⊥ = cc in z)
    finds_room cpu n a b x v comes true ok some =
        let at : object_in b ≡ t = eqb-true (object_in b) t (both_left (object_in b == t) (same_value v (Num 1)) ok) in
        let more = takes plan m S t cpu n a b x v comes (both_right (object_in b == t) (same_value v (Num 1)) ok) in
        let fewer : nat_lt (pending S.targets t) (the_target S.targets t).depth ≡ true = subst (λ y. nat_lt (pending S.targets y) (the_target S.targets y).depth ≡ true) at (both_right (not (the_target S.targets (object_in b)).stopped) _ more) in
        let below = ltb-true (pending S.targets t) (the_target S.targets t).depth fewer in
        let sent : List Sending = (the_target S.targets t).sent in
        let long : length u.sent ≡ length (passes ps) = sym (length-map u.sent (λ (s : SentRequest). s.request.id.0)) ∙ ap length h.alike in
        let short = no_longer (passes ps) (map (λ (s : Sending). s.request.0) sent)
        (λ r.
        let there = h.there r in
        let fewer_ = both_fewer (λ (s : Sending). s.request.0 == r) (λ s. is_at_target s.outcome) sent in
        let one = read_counted (λ (p : Passing). p.request) (λ x. x == r) ps in
        let two = read_counted (λ (s : Sending). s.request.0) (λ x. x == r) sent in
        omega (arith, there, fewer_, one, two)) in
        let same : length (map (λ (s : Sending). s.request.0) sent) ≡ length sent = length-map sent (λ (s : Sending). s.request.0) in
        let depth = h.depth in
        lt-ltb (length u.sent) u.depth (omega (arith, below, long, short, same, depth))

    calls_room : (cpu : Cpu) (kind : CallKind) (n : ℕ) (a b x : Arg) (v : Value) → may plan m S (event.Did cpu (record { kind = kind; count = n; a = a; b = b; c = x }) v) ≡ true
        → is_some (sent_to t (event.Did cpu (record { kind = kind; count = n; a = a; b = b; c = x }) v)) ≡ true → nat_lt (length u.sent) u.depth ≡ true
    calls_room cpu call.WdfRequestSend n a b x v comes some = finds_room cpu n a b x v comes (object_in b == t && same_value v (Num 1)) refl some
    calls_room cpu _ n a b x v comes some = absurd (let z : ⊥ = cc in z)

    pub room : (e : Event) → may plan m S e ≡ true → is_some (sent_to t e) ≡ true → nat_lt (length u.sent) u.depth ≡ true
    room (event.Did cpu c v) comes some = calls_room cpu c.kind c.count c.a c.b c.c v comes some
    room _ comes some = absurd (let z : ⊥ = cc in z)

    -- another agent's done is of a request that isn't here
    none_by : (by : ℕ) (r : Handle) (o : Option ℕ) → target_of_agent plan by ≡ o → may_finish plan S o r ≡ true → (by == k) ≡ false → (n : ℕ) → sends_of r.id.0 ps ≡ n → sends_of r.id.0 ps ≡ 0
    none_by by r None e f other n i = absurd (let z : ⊥ = cc in z)
    none_by by r (Some w) e f other zero i = i
    none_by by r (Some w) e f other (suc n) i =
        let waits = h.there r.id.0 in
        let here = sent_there S t places r.id.0 (omega (arith, waits, i)) in
        let sent : is_sent_to w (place_of S.requests r.id.0) ≡ true = both_right (is_proper plan S r) (is_sent_to w (place_of S.requests r.id.0)) (both_left (is_proper plan S r && is_sent_to w (place_of S.requests r.id.0)) (is_undone S.targets r.id.0) f) in
        absurd (elim (one_or_two w t) [
          | inl same ↦ let yes : (by == k) ≡ true = equal by k (one_agent plan by k t (e ∙ ap Some same) is.number) in let z : ⊥ = cc in z
          | inr apart ↦ let off = at_one_target (place_of S.requests r.id.0) t w here apart in let z : ⊥ = cc in z
        ])

    posts_spare : (by : ℕ) (p : Post) (answer : Option Handle) → post_fits plan S by p ≡ true → Spares u (event.Posted by p answer)
    posts_spare by (post.Done q s) answer fits =
        λ other.
        let r : ℕ = q.id.0 in
        none_left_out r u.sent
        (read_counted (λ (x : SentRequest). x.request.id.0) (λ x. x == r) u.sent ∙ ap (count_by (λ x. x == r)) h.alike ∙ sym (read_counted (λ (p : Passing). p.request) (λ x. x == r) ps)
        ∙ none_by by q (target_of_agent plan by) refl fits other (sends_of r ps) refl)
    posts_spare by (post.Cancel j) answer fits = tt
    posts_spare by (post.Read x n) answer fits = tt
    posts_spare by (post.Write x n) answer fits = tt
    posts_spare by (post.Control x c n) answer fits = tt
    posts_spare by (post.Ask a x) answer fits = tt
    posts_spare by (post.Act a) answer fits = tt

    pub spares : (e : Event) → may plan m S e ≡ true → Spares u e
    spares (event.Posted by p answer) comes =
        posts_spare by p answer (both_right (same_option same_post (due_of m S by) (Some p)) (post_fits plan S by p) (both_left (same_option same_post (due_of m S by) (Some p) && post_fits plan S by p) (same_option same_handle (post_answer plan S by p) answer) comes))
    spares _ comes = tt

    next_is : (e : Event) → heard u e ≡ as_events (es ++ e ∷ [])
    next_is e =
        ap (λ xs. record start { sent = xs; clock = time_step (fold time_step 0 es) e }) (sym (kept_more t d e 0 es))
        ∙ ap (λ now. record start { sent = kept t d 0 (es ++ e ∷ []); clock = now }) (sym (fold-append time_step 0 es (e ∷ [])))

    knows_by : (e : Event) → target_after u e ≡ heard u e → IsThere (after plan m S e).targets t (passing_step t k ps e) → Knows (es ++ e ∷ []) (after plan m S e)
    knows_by e hears_ there =
        let step = sym (passings_next t k es e) in
        record {
          sees = subst (Sees (after plan m S e).agents) (hears_ ∙ next_is e) (after_seen S e u h.sees);
          alike = ap asks (kept_more t d e 0 es) ∙ alike_next t k d (fold time_step 0 es) u.sent ps h.alike e ∙ ap passes step;
          there = subst (λ (qs : List Passing). IsThere (after plan m S e).targets t qs) step there;
          depth = let stays_ = depths_stay plan (deeds plan S e) S t in let before = h.depth in omega (arith, stays_, before);
        }

    knows_next : (e : Event) → may plan m S e ≡ true → Knows (es ++ e ∷ []) (after plan m S e)
    knows_next e comes = knows_by e (hears u e (room e comes) (spares e comes)) (there_next plan m S t places k e ps comes h.there)

    knows_ticks : (time : ℕ) → Knows (es ++ event.Tick time ∷ []) (after plan m S (event.Tick time))
    knows_ticks time = knows_by (event.Tick time) (hears u (event.Tick time) (λ some. absurd (let z : ⊥ = cc in z)) tt) (there_ticks plan m S t k time ps h.there)

  pub knows_at : (run : List Event) → IsRunOf plan m run → (n : ℕ) → Knows (take n run) (state_after plan m (take n run))
  knows_at run is_run n =
      along_run (λ es. Knows es (state_after plan m es)) (ready plan m) run opens
      (λ before e place so_far held at.
      let S = state_after plan m before in
      let places = at_the_end plan m (λ (T : State A). PlacesAgree T) before (places_agree plan m before so_far) in
      subst (Knows (before ++ e ∷ [])) (sym (state_goes_on plan m before e))
      (elim (follows plan m before place e at) [
        | inl comes ↦ knows_next before S places held e comes
        | inr tick ↦ subst (λ x. Knows (before ++ x ∷ []) (after plan m S x)) (sym tick.tick) (knows_ticks before S places held (S.clock + 1))
      ]))
      is_run n

-- ---- time

pub time_is : (es : List Event) → time_after es ≡ fold time_step 0 es
unfolding time_after
time_is es = refl

pub not_tick : {A : Type 0} (plan : Plan) (m : Meaning A) (S : State A) (e : Event) → may plan m S e ≡ true → is_tick e ≡ false
not_tick plan m S (event.Tick time) may_ = absurd (let z : ⊥ = cc in z)
not_tick plan m S _ may_ = refl

pub same_time : (now : ℕ) (e : Event) → is_tick e ≡ false → time_step now e ≡ now
same_time now (event.Tick time) off = absurd (let z : ⊥ = cc in z)
same_time now _ off = refl

-- what an event of a run does to the clock
pub clock_after : {A : Type 0} (plan : Plan) (m : Meaning A) (es : List Event) (place : ℕ) (e : Event) → slice_get (ready plan m es) place ≡ Some e → (after plan m (state_after plan m es) e).clock ≡ time_step (state_after plan m es).clock e
clock_after plan m es place e at =
    let S = state_after plan m es in
    elim (follows plan m es place e at) [
      | inl may_ ↦ let off = not_tick plan m S e may_ in (event_steady plan m S e off).clock ∙ sym (same_time S.clock e off)
      | inr tick ↦ subst (λ x. (after plan m S x).clock ≡ time_step S.clock x) (sym tick.tick) refl
    ]

opening_clock : {A : Type 0} (plan : Plan) (m : Meaning A) → (state_after plan m []).clock ≡ 0
unfolding state_after
opening_clock plan m = refl

-- the clock shows the time that the events tell
pub clock_is : {A : Type 0} (plan : Plan) (m : Meaning A) (run : List Event) → IsRunOf plan m run → (n : ℕ) → (state_after plan m (take n run)).clock ≡ fold time_step 0 (take n run)
clock_is {A} plan m run is_run n =
    along_run (λ es. (state_after plan m es).clock ≡ fold time_step 0 es) (ready plan m) run (opening_clock plan m)
    (λ before e place so_far held at.
    ap (λ (T : State A). T.clock) (state_goes_on plan m before e) ∙ clock_after plan m before place e at ∙ ap (λ now. time_step now e) held ∙ sym (fold-append time_step 0 before (e ∷ [])))
    is_run n

-- time doesn't go back
module _ {A : Type 0} (plan : Plan) (m : Meaning A) (run : List Event) (is_run : IsRunOf plan m run) where
  one_later : (n : ℕ) (o : Option Event) → slice_get run n ≡ o → fold time_step 0 (take n run) ≤ fold time_step 0 (take (suc n) run)
  one_later n None at = let same : fold time_step 0 (take (suc n) run) ≡ fold time_step 0 (take n run) = ap (fold time_step 0) (take_ended run n at) in omega (arith, same)
  one_later n (Some e) at =
      let es : List Event = take n run in
      let now : ℕ = fold time_step 0 es in
      let next : fold time_step 0 (take (suc n) run) ≡ time_step now e = ap (fold time_step 0) (take_next run n e at) ∙ fold-append time_step 0 es (e ∷ []) in
      elim (comes_by plan m run n e is_run at) [
        | inl may_ ↦ let same : time_step now e ≡ now = same_time now e (not_tick plan m (state_after plan m es) e may_) in omega (arith, next, same)
        | inr tick ↦
            let shows : time_step now e ≡ (state_after plan m es).clock + 1 = ap (time_step now) tick.tick in
            let clock = clock_is plan m run is_run n in
            omega (arith, next, shows, clock)
      ]

  later : (j n : ℕ) → fold time_step 0 (take n run) ≤ fold time_step 0 (take (j + n) run)
  later zero n = let same : 0 + n ≡ n = omega arith in rw same (omega arith)
  later (suc j) n =
      let so_far = later j n in
      let one = one_later (j + n) (slice_get run (j + n)) refl in
      let same : fold time_step 0 (take (suc j + n) run) ≡ fold time_step 0 (take (suc (j + n)) run) = ap (λ k. fold time_step 0 (take k run)) (let e : suc j + n ≡ suc (j + n) = omega arith in e) in
      omega (arith, so_far, one, same)

  -- of two fronts of a run the shorter one is no later
  front_later : (b c ys zs : List Event) → run ≡ b ++ ys → run ≡ c ++ zs → length b < length c → fold time_step 0 b ≤ fold time_step 0 c
  front_later b c ys zs first second low =
      let long : length c - length b + length b ≡ length c = omega (arith, low) in
      let one : fold time_step 0 (take (length b) run) ≡ fold time_step 0 b = ap (fold time_step 0) (ap (take (length b)) first ∙ take-append_seam b ys) in
      let two : fold time_step 0 (take (length c - length b + length b) run) ≡ fold time_step 0 c = ap (λ k. fold time_step 0 (take k run)) long ∙ ap (fold time_step 0) (ap (take (length c)) second ∙ take-append_seam c zs) in
      let it = later (length c - length b) (length b) in
      omega (arith, one, two, it)

-- ---- a target is done with a request

module _ {A : Type 0} (plan : Plan) (m : Meaning A) (run : List Event) (resolved : IsResolved plan) (is_run : IsRunOf plan m run) (k t : ℕ) (is : IsTargetAgent plan m k t) (n : ℕ) where
  abbrev es : List Event
  es = take n run

  abbrev here : State A
  here = state_after plan m es

  abbrev knows : Knows plan m k t is es here
  knows = knows_at plan m k t is run is_run n

  abbrev now : ℕ
  now = fold time_step 0 es

  abbrev delay : ℕ
  delay = delay_of plan t

  pub now_small : now < LAST_TICK
  now_small =
      let a = clock_is plan m run is_run n in
      let kept_ = (room_is_kept plan m run resolved is_run n).growth.clock in
      let so_far = run_front (ready plan m) run n is_run in
      let count = number_is plan m es so_far in
      let b = within_limit_of plan m es so_far in
      let c : plan.limit ≤ 200000 = leb-true plan.limit 200000 (both_right (nat_le 1 plan.limit) (nat_le plan.limit 200000) resolved.limit) in
      omega (arith, a, kept_, count, b, c)

  -- what was sent to it, by the words of the law
  pub waits : (q : Handle) (it : IsAt t q es) → (list_any (cancels t q.id.0) it.since ≡ false) × (now < fold time_step 0 it.before + delay) → IsNotDue plan t q es it
  waits q it early =
      let before = time_is it.before in
      let after_ = time_is es in
      let soon = early.1 in
      record { fresh = early.0; early = omega (arith, before, after_, soon) }

  its_delay : (s : SentRequest) (f : IsFound t delay now 0 es s) → list_any (cancels t s.request.id.0) f.since ≡ false → time_after f.before + delay ≤ time_after es
  its_delay s f off =
      let due : (s.told || nat_le s.tick now) ≡ true = f.due in
      let over : nat_le s.tick now ≡ true = ap (λ b. b || nat_le s.tick now) (sym (f.told ∙ off)) ∙ due in
      let low = leb-true s.tick now over in
      let tick = f.tick in
      let before = time_is f.before in
      let after_ = time_is es in
      let small = now_small in
      omega (arith, low, tick, before, after_, small)

  -- nothing that was sent earlier is there, where it isn't to be cancelled
  overtakes_none : (s : SentRequest) (f : IsFound t delay now 0 es s) → list_any (cancels t s.request.id.0) f.since ≡ false → (q : Handle) (other : IsAt t q es) → length f.before ≤ length other.before
  overtakes_none s f off q other = elim (cases_lt (length other.before) (length f.before)) [
    | inr from ↦ omega (arith, from)
    | inl low ↦ absurd (
        let soon = (f.ahead other.before other.send other.since q other.parts other.sent other.undone low).1 in
        let late = front_later plan m es (run_front (ready plan m) run n is_run) other.before f.before (other.send ∷ other.since) (f.send ∷ f.since) other.parts f.parts low in
        let over = its_delay s f off in
        let before = time_is f.before in
        let after_ = time_is es in
        omega (arith, soon, late, over, before, after_))
  ]

  by_found : (s : SentRequest) → IsFound t delay now 0 es s → MayBeDone plan t s.request (if s.told then status.Cancelled else status_of plan t) es
  by_found s f = record {
    it = record { before = f.before; send = f.send; since = f.since; parts = f.parts; sent = f.sent; undone = f.undone };
    status = ap (λ b. if b then status.Cancelled else status_of plan t) f.told;
    delay = its_delay s f;
    order = λ q other low. waits q other (f.ahead other.before other.send other.since q other.parts other.sent other.undone low);
    overtakes = overtakes_none s f;
  }

  module _ (h : Handle) (s : Status) where
    by_first : (o : Option SentRequest) → find (is_due_sent now) (kept t delay 0 es) ≡ o → same_option same_post (option_map (done_post (status_of plan t)) o) (Some (post.Done h s)) ≡ true → MayBeDone plan t h s es
    by_first None none same = absurd (let z : ⊥ = cc in z)
    by_first (Some x) first same =
        let own : Status = if x.told then status.Cancelled else status_of plan t in
        let request : x.request ≡ h = handle_same x.request h (both_left (same_handle x.request h) (same_status own s) same) in
        let ends : own ≡ s = (status_decides own s).0 (both_right (same_handle x.request h) (same_status own s) same) in
        subst (λ y. MayBeDone plan t h y es) ends (subst (λ y. MayBeDone plan t y own es) request (by_found x (found t delay now 0 es x first)))

    by_agent : (o : Option A) → slice_get here.agents k ≡ o → same_option same_post (option_and_then m.due o) (Some (post.Done h s)) ≡ true → MayBeDone plan t h s es
    by_agent None at same = absurd (let z : ⊥ = cc in z)
    by_agent (Some a) at same =
        let due : m.due a ≡ target_due (as_events plan m k t is es) = is.posts a (as_events plan m k t is es) (knows.sees a at) in
        by_first (find (is_due_sent now) (kept t delay 0 es)) refl (ap (λ o. same_option same_post o (Some (post.Done h s))) (sym due) ∙ same)

    pub may_be_done : (answer : Option Handle) → slice_get run n ≡ Some (event.Posted k (post.Done h s) answer) → MayBeDone plan t h s es
    may_be_done answer at =
        let p : Post = post.Done h s in
        let may_ : may plan m here (event.Posted k p answer) ≡ true = comes plan m run n (event.Posted k p answer) is_run at (λ time same. let z : ⊥ = cc in z) in
        by_agent (slice_get here.agents k) refl
        (both_left (same_option same_post (due_of m here k) (Some p)) (post_fits plan here k p) (both_left (same_option same_post (due_of m here k) (Some p) && post_fits plan here k p) (same_option same_handle (post_answer plan here k p) answer) may_))

-- ---- the target of an agent that is done with a request

by_target : {A : Type 0} (plan : Plan) (S : State A) (h : Handle) (k : ℕ) (o : Option ℕ) → target_of_agent plan k ≡ o → may_finish plan S o h ≡ true → (t : ℕ) × (target_of_agent plan k ≡ Some t)
by_target plan S h k None is fits = absurd (let z : ⊥ = cc in z)
by_target plan S h k (Some t) is fits = (t, is)

pub its_target : {A : Type 0} (plan : Plan) (m : Meaning A) (run : List Event) → IsRunOf plan m run → (n k : ℕ) (h : Handle) (s : Status) (answer : Option Handle) → slice_get run n ≡ Some (event.Posted k (post.Done h s) answer)
    → (t : ℕ) × (target_of_agent plan k ≡ Some t)
its_target plan m run is_run n k h s answer at =
    let S = state_after plan m (take n run) in
    let p : Post = post.Done h s in
    let may_ : may plan m S (event.Posted k p answer) ≡ true = comes plan m run n (event.Posted k p answer) is_run at (λ time same. let z : ⊥ = cc in z) in
    by_target plan S h k (target_of_agent plan k) refl
    (both_right (same_option same_post (due_of m S k) (Some p)) (post_fits plan S k p) (both_left (same_option same_post (due_of m S k) (Some p) && post_fits plan S k p) (same_option same_handle (post_answer plan S k p) answer) may_))
