-- What a device posts in a run are its actions, each where its tick is reached.
use Rattle.std.proofs.Common.{◌≡◌, ◌≢◌, inl, inr, ℕ, zero, suc, ◌-◌, ◌<◌, ◌≤◌, ◌==◌, nat_lt, Bool, true, false, List, [], ◌∷◌, fold, length, take, Option, Some, None, is_some, slice_get, refl, sym, ap, ◌∙◌, subst, arith, eqb-true}
use Rattle.std.specs.Prelude.{option_and_then, slice_index_or}
use Rattle.std.proofs.lemmas.Bool.{leb-false, leb-true, lt-ltb, ltb-true}
use Rattle.std.proofs.lemmas.Option.{same_Some, slice_get-get_or, slice_get_within}
use Rattle.std.proofs.lemmas.List.Sums.{fold-append}
use Rattle.wdf_base.specs.Meaning.{Meaning}
use Rattle.wdf_base.specs.Kinds.{declared_kind}
use Rattle.wdf_base.specs.Plan.{declared_of}
use Rattle.wdf_base.specs.Resolved.{IsResolved, action_fits, is_handle}
use Rattle.wdf_base.specs.Resolved as resolved
use Rattle.wdf_base.specs.Same.{same_kind, same_option}
use Rattle.wdf_base.specs.declared.plan.Plan.{Plan}
use Rattle.wdf_base.specs.declared.ids.Handle.{Handle}
use Rattle.wdf_base.specs.declared.declared.WhenLine.{WhenLine}
use Rattle.wdf_base.specs.declared.object.Kind.TheVariants as kind
use Rattle.wdf_base.specs.declared.declared.Declared.{Declared}
use Rattle.wdf_base.specs.declared.declared.Declared.TheVariants as declared
use Rattle.wdf_base.specs.declared.event.Action.{Action}
use Rattle.wdf_base.specs.declared.event.Action.TheVariants as action
use Rattle.wdf_base.specs.declared.event.Event.{Event}
use Rattle.wdf_base.specs.declared.event.Event.TheVariants as event
use Rattle.wdf_base.specs.declared.event.Post.TheVariants as post
use Rattle.wdf_model.specs.declared.entries.DeviceAction.{DeviceAction}
use Rattle.wdf_model.specs.Tables.{tick_after}
use Rattle.wdf_model.specs.Plans.{declared_ids, device_of, device_of_agent, first_device_agent}
use Rattle.wdf_model.specs.agents.Device.{Device, device_actions, device_after, device_at, is_due_at}
use Rattle.wdf_model.specs.rules.Ready.{IsRunOf, ready, state_after}
use Rattle.wdf_model.proofs.Counts.{one_or_two}
use Rattle.wdf_model.proofs.Runs.{take_next}
use Rattle.wdf_model.proofs.Tests.{both_left, both_right, in_filter}
use Rattle.law_trace_power.proofs.Laws.{comes_by}
use Rattle.law_devices.specs.Agents.{HasDevices}
use Rattle.law_idle.specs.Idling.{time_after}
use Rattle.law_devices.specs.Posting.{HasTick, IsSetOff, NotPosted, PostsItsActions, is_post_of, triggers_line}
use Rattle.law_devices.proofs.Steps.{IsPostIf, Knows, is_on}
use Rattle.law_devices.proofs.Ticks.{Done, From, IsFresh, SetOff, Still, all_fresh, due_place, due_there, each_there, from_event, not_due_before}
use Rattle.law_devices.proofs.Told.{all_know, fits_at}

-- ---- one place more

module _ (run : List Event) (agent : ℕ) (number : ℕ → ℕ) (j n : ℕ) where
  -- the event at place n, if there is one, doesn't post action j
  not_posted_more : (from : ℕ) → ((e : Event) → slice_get run n ≡ Some e → is_post_of agent e ≡ true → number n ≢ j) → NotPosted run agent number j from n → NotPosted run agent number j from (suc n)
  not_posted_more from here before i e low high at is = elim (one_or_two i n) [
    | inl same ↦ subst (λ q. number q ≢ j) (sym same) (here e (subst (λ q. slice_get run q ≡ Some e) same at) is)
    | inr other ↦ before i e low (omega (arith, high, other)) at is
  ]

  set_off_more : (w : WhenLine) (t : ℕ) → ((e : Event) → slice_get run n ≡ Some e → (is_post_of agent e ≡ true → number n ≢ j) × (triggers_line w e ≡ false)) → IsSetOff run agent number j n w t → IsSetOff run agent number j (suc n) w t
  set_off_more w t here s = let before = s.before in record {
    delayed = s.delayed;
    place = s.place;
    before = omega (arith, before);
    access = s.access;
    at = s.at;
    triggers = s.triggers;
    tick = s.tick;
    last = λ i e low high at. elim (one_or_two i n) [
      | inl same ↦ (here e (subst (λ q. slice_get run q ≡ Some e) same at)).1
      | inr other ↦ s.last i e low (omega (arith, high, other)) at
    ];
    since = not_posted_more (suc s.place) (λ e at. (here e at).0) s.since;
  }

  -- and one place less
  not_posted_less : (from : ℕ) → NotPosted run agent number j from (suc n) → NotPosted run agent number j from n
  not_posted_less from h i e low high at is = h i e low (omega (arith, high)) at is

  set_off_less : (w : WhenLine) (t : ℕ) (s : IsSetOff run agent number j (suc n) w t) → s.place ≢ n → IsSetOff run agent number j n w t
  set_off_less w t s other = let before = s.before in record {
    delayed = s.delayed;
    place = s.place;
    before = omega (arith, before, other);
    access = s.access;
    at = s.at;
    triggers = s.triggers;
    tick = s.tick;
    last = λ i e below high at. s.last i e below (omega (arith, high)) at;
    since = not_posted_less (suc s.place) s.since;
  }

-- a post is no access
no_access : (k : ℕ) (e : Event) (w : WhenLine) → is_post_of k e ≡ true → triggers_line w e ≡ true → ⊥
no_access k (event.Posted by p answer) w post line = let z : ⊥ = cc in z
no_access k _ w post line = let z : ⊥ = cc in z

module _ {A : Type 0} (plan : Plan) (is_resolved : IsResolved plan) (m : Meaning A) (device : A → Option Device) (has : HasDevices m device) (run : List Event) (is_run : IsRunOf plan m run) (d k : ℕ) (own : device_of_agent plan k ≡ Some d) where
  -- the device at a place of the run
  abbrev device_now : ℕ → Device
  device_now n = fold device_after (device_at plan d k) (take n run)

  -- which of its actions is the first that is due
  abbrev number : ℕ → ℕ
  number n = due_place (device_now n).clock (device_now n).actions

  knows_now : (n : ℕ) → Knows plan d k (take n run) (device_now n)
  knows_now n = let i = all_know plan is_resolved m device has run is_run n k d own in subst (Knows plan d k (take n run)) i.history i.knows

  post_fits_now : (n : ℕ) (e : Event) → slice_get run n ≡ Some e → IsPostIf plan is_resolved d k (take n run) (device_now n) (knows_now n) e
  post_fits_now n e at =
      let S = state_after plan m (take n run) in
      let all = all_know plan is_resolved m device has run is_run n in
      let i = all k d own in
      let fits = fits_at plan is_resolved m device has S (ready plan m (take n run)) (take n run) all e (comes_by plan m run n e is_run at) k d own in
      subst (λ h. (knows : Knows plan d k (take n run) h) → IsPostIf plan is_resolved d k (take n run) h knows e) i.history (λ knows. fits) (knows_now n)

  not_zero : (d == 0) ≡ false
  not_zero = by (d == 0) (nat_lt k (first_device_agent plan)) refl refl own
    where
      by : (z late : Bool) → (d == 0) ≡ z → nat_lt k (first_device_agent plan) ≡ late → device_of_agent plan k ≡ Some d → z ≡ false
      by false late e f h = refl
      by true true e f h = absurd (let none : None ≡ Some d = rw f at h in let z : ⊥ = cc in z)
      by true false e f h =
          let there : is_some (device_of plan d) ≡ true = in_filter (λ id. is_some (device_of plan id)) (declared_ids plan) (k - first_device_agent plan) d (rw f at h) in
          let none : is_some (device_of plan d) ≡ false = ap (λ id. is_some (device_of plan id)) (eqb-true d 0 e) in
          absurd (let z : ⊥ = cc in z)

  -- what is known of action j at place n: what it is in the scenario, and that it has its tick and no other
  record IsKnown (n j : ℕ) (l : DeviceAction) : Type 0 where
    first : DeviceAction
    at : slice_get (device_actions plan d k) j ≡ Some first
    action : first.action ≡ l.action
    trigger : first.trigger ≡ l.trigger
    tick : (t : ℕ) → l.tick ≡ Some t → HasTick run k number j n first.trigger first.tick t
    told : (t : ℕ) → HasTick run k number j n first.trigger first.tick t → l.tick ≡ Some t

  abbrev AllKnown : ℕ → Type 0
  AllKnown n = (j : ℕ) (l : DeviceAction) → slice_get (device_now n).actions j ≡ Some l → IsKnown n j l

  fresh_at : (j : ℕ) (l : DeviceAction) → slice_get (device_actions plan d k) j ≡ Some l → IsFresh plan d l
  fresh_at j l at = each_there (IsFresh plan d) (device_actions plan d k) j l (all_fresh plan d k) at

  known_first : AllKnown 0
  known_first j l at = record { first = l; at = at; action = refl; trigger = refl; tick = λ t e. by t e (fresh_at j l at); told = λ t. told_by t l.trigger }
    where
      by : (t : ℕ) → l.tick ≡ Some t → IsFresh plan d l → HasTick run k number j 0 l.trigger l.tick t
      by t e (inl none) = subst (λ o. HasTick run k number j 0 o l.tick t) (sym none) (e, λ i x low high. absurd (omega (arith, high)))
      by t e (inr w) = absurd (let off = w.3 in let z : ⊥ = cc in z)

      told_by : (t : ℕ) (o : Option WhenLine) → HasTick run k number j 0 o l.tick t → l.tick ≡ Some t
      told_by t None h = h.0
      told_by t (Some w) s = absurd (let before = s.before in omega (arith, before))

  on_at : (n j : ℕ) (l : DeviceAction) → IsKnown n j l → (w : WhenLine) → l.trigger ≡ Some w → is_on plan d w ≡ true
  on_at n j l known w is = by (fresh_at j known.first known.at)
    where
      by : IsFresh plan d known.first → is_on plan d w ≡ true
      by (inl none) = absurd (let same : None ≡ Some w = sym none ∙ known.trigger ∙ is in let z : ⊥ = cc in z)
      by (inr x) = let same : Some x.0 ≡ Some w = sym x.1 ∙ known.trigger ∙ is in let it : x.0 ≡ w = cc in ap (is_on plan d) (sym it) ∙ x.2

  module _ (n : ℕ) (e : Event) (here : slice_get run n ≡ Some e) (j : ℕ) where
    abbrev Has : Option WhenLine → Option ℕ → ℕ → ℕ → Type 0
    Has o tick t i = HasTick run k number j i o tick t

    only : (x : Event) → slice_get run n ≡ Some x → e ≡ x
    only x is = let same : Some e ≡ Some x = sym here ∙ is in let it : e ≡ x = cc in it

    -- the access is this event
    its_access : (w : WhenLine) (t : ℕ) (s : IsSetOff run k number j (suc n) w t) → s.place ≡ n → triggers_line w e ≡ true
    its_access w t s same = ap (triggers_line w) (only s.access (ap (slice_get run) (sym same) ∙ s.at)) ∙ s.triggers

    -- an event that doesn't post the action, and doesn't trigger it
    still_has : (o : Option WhenLine) (tick : Option ℕ) (t : ℕ) → (is_post_of k e ≡ true → number n ≢ j) → ((w : WhenLine) → o ≡ Some w → nat_lt 0 w.after ≡ true → triggers_line w e ≡ false) → Has o tick t n → Has o tick t (suc n)
    still_has None tick t posts lines h = (h.0, not_posted_more run k number j n zero (λ x is post. posts (ap (is_post_of k) (only x is) ∙ post)) h.1)
    still_has (Some w) tick t posts lines s =
        set_off_more run k number j n w t
        (λ x is. (λ post. posts (ap (is_post_of k) (only x is) ∙ post), ap (triggers_line w) (sym (only x is)) ∙ lines w refl (lt-ltb 0 w.after s.delayed))) s

    still_had : (o : Option WhenLine) (tick : Option ℕ) (t : ℕ) → ((w : WhenLine) → o ≡ Some w → nat_lt 0 w.after ≡ true → triggers_line w e ≡ false) → Has o tick t (suc n) → Has o tick t n
    still_had None tick t lines h = (h.0, not_posted_less run k number j n zero h.1)
    still_had (Some w) tick t lines s =
        set_off_less run k number j n w t s (λ same. let yes = its_access w t s same in let no_line = lines w refl (lt-ltb 0 w.after s.delayed) in let z : ⊥ = cc in z)

    -- an event that triggers it
    set_has : (w : WhenLine) (tick : Option ℕ) → nat_lt 0 w.after ≡ true → triggers_line w e ≡ true → Has (Some w) tick (tick_after (time_after (take n run)) w.after) (suc n)
    set_has w tick late triggers = record {
      delayed = ltb-true 0 w.after late;
      place = n;
      before = omega arith;
      access = e;
      at = here;
      triggers = triggers;
      tick = refl;
      last = λ i y low high. absurd (omega (arith, low, high));
      since = λ i y low high. absurd (omega (arith, low, high));
    }

    set_had : (w : WhenLine) (tick : Option ℕ) (t : ℕ) → triggers_line w e ≡ true → Has (Some w) tick t (suc n) → t ≡ tick_after (time_after (take n run)) w.after
    set_had w tick t triggers s = elim (one_or_two s.place n) [
      | inl same ↦ s.tick ∙ ap (λ q. tick_after (time_after (take q run)) w.after) same
      | inr other ↦ absurd (let before = s.before in let off = s.last n e (omega (arith, before, other)) (omega arith) here in let z : ⊥ = cc in z)
    ]

    -- an event that posts it
    done_had : (o : Option WhenLine) (tick : Option ℕ) (t : ℕ) → is_post_of k e ≡ true → number n ≡ j → Has o tick t (suc n) → ⊥
    done_had None tick t post it h = h.1 n e (omega arith) (omega arith) here post it
    done_had (Some w) tick t post it s = elim (one_or_two s.place n) [
      | inl same ↦ no_access k e w post (its_access w t s same)
      | inr other ↦ let before = s.before in s.since n e (omega (arith, before, other)) (omega arith) here post it
    ]

    known_by : (all : AllKnown n) (l : DeviceAction) → From k (device_now n) e j l → IsKnown (suc n) j l
    known_by all l (Still before posts lines) =
        let was = all j l before in
        let quiet : (w : WhenLine) → was.first.trigger ≡ Some w → nat_lt 0 w.after ≡ true → triggers_line w e ≡ false = λ w is. lines w (sym was.trigger ∙ is) in
        record {
          first = was.first;
          at = was.at;
          action = was.action;
          trigger = was.trigger;
          tick = λ t x. still_has was.first.trigger was.first.tick t posts quiet (was.tick t x);
          told = λ t h. was.told t (still_had was.first.trigger was.first.tick t quiet h);
        }
    known_by all l (SetOff m before trigger action w is late triggers tick) =
        let was = all j m before in
        let its : was.first.trigger ≡ Some w = was.trigger ∙ trigger ∙ is in
        let set : l.tick ≡ Some (tick_after (time_after (take n run)) w.after) = tick ∙ ap (λ now. Some (tick_after now w.after)) (knows_now n).clock in
        record {
          first = was.first;
          at = was.at;
          action = was.action ∙ action;
          trigger = was.trigger ∙ trigger;
          tick = λ t x.
              let some_tick : Some (tick_after (time_after (take n run)) w.after) ≡ Some t = sym set ∙ x in
              let same : tick_after (time_after (take n run)) w.after ≡ t = cc in
              subst (λ o. Has o was.first.tick t (suc n)) (sym its) (subst (λ u. Has (Some w) was.first.tick u (suc n)) same (set_has w was.first.tick late triggers));
          told = λ t h. set ∙ ap Some (sym (set_had w was.first.tick t triggers (subst (λ o. Has o was.first.tick t (suc n)) its h)));
        }
    known_by all l (Done m before trigger action none post it) =
        let was = all j m before in
        record {
          first = was.first;
          at = was.at;
          action = was.action ∙ action;
          trigger = was.trigger ∙ trigger;
          tick = λ t x. absurd (let same : None ≡ Some t = sym none ∙ x in let z : ⊥ = cc in z);
          told = λ t h. absurd (done_had was.first.trigger was.first.tick t post it h);
        }

  known_on : (n : ℕ) (e : Event) → slice_get run n ≡ Some e → AllKnown n → AllKnown (suc n)
  known_on n e here all j l at =
      let next : device_now (suc n) ≡ device_after (device_now n) e = ap (fold device_after (device_at plan d k)) (take_next run n e here) ∙ fold-append device_after (device_at plan d k) (take n run) (e ∷ []) in
      known_by n e here j all l (from_event plan is_resolved d k not_zero (take n run) (device_now n) (knows_now n) j l (λ was. on_at n j l (all j l was)) e (post_fits_now n e here) (ap (λ h. slice_get h.actions j) (sym next) ∙ at))

  all_known : (n : ℕ) → n ≤ length run → AllKnown n
  all_known zero low = known_first
  all_known (suc n) low = known_on n (slice_index_or run n (event.Tick 0)) (slice_get-get_or run n (event.Tick 0) low) (all_known n (omega (arith, low)))

  -- ---- each post

  reached : (n : ℕ) (o : Option ℕ) → is_due_at (device_now n).clock o ≡ true → (t : ℕ) × (o ≡ Some t) × (t ≤ time_after (take n run))
  reached n None due = absurd (let z : ⊥ = cc in z)
  reached n (Some t) due = (t, refl, subst (λ now. t ≤ now) (knows_now n).clock (leb-true t (device_now n).clock due))

  not_reached : (n j : ℕ) (l : DeviceAction) (t : ℕ) → AllKnown n → (x : DeviceAction) → slice_get (device_now n).actions (number n) ≡ Some x → j < number n → slice_get (device_actions plan d k) j ≡ Some l
      → HasTick run k number j n l.trigger l.tick t → time_after (take n run) < t
  not_reached n j l t all x there low from h =
      let within = slice_get_within (device_now n).actions (number n) x there in
      let at : slice_get (device_now n).actions j ≡ Some (slice_index_or (device_now n).actions j x) = slice_get-get_or (device_now n).actions j x (omega (arith, low, within)) in
      let known = all j (slice_index_or (device_now n).actions j x) at in
      let first : l ≡ known.first = same_Some l known.first (sym from ∙ known.at) in
      let tick : (slice_index_or (device_now n).actions j x).tick ≡ Some t = known.told t (subst (λ (y : DeviceAction). HasTick run k number j n y.trigger y.tick t) first h) in
      let not_due : is_due_at (device_now n).clock (Some t) ≡ false = ap (is_due_at (device_now n).clock) (sym tick) ∙ not_due_before (device_now n).clock (device_now n).actions j (slice_index_or (device_now n).actions j x) low at in
      subst (λ now. now < t) (knows_now n).clock (leb-false t (device_now n).clock not_due)

  pub posts_its_actions : PostsItsActions plan d k run
  posts_its_actions = record {
    number = number;
    each = λ n p answer at.
        let due = (post_fits_now n (event.Posted k p answer) at).0 refl in
        let there = due_there (device_now n).clock (device_now n).actions due.0 due.1 in
        let all = all_known n (let within = slice_get_within run n (event.Posted k p answer) at in omega (arith, within)) in
        let known = all (number n) due.0 there.0 in
        let t = reached n due.0.tick there.1 in
        record {
          action = known.first;
          at = known.at;
          posts = due.2 ∙ ap post.Act (sym known.action);
          tick = t.0;
          has = known.tick t.0 t.1;
          reached = t.2;
          first = λ j l u low from h. not_reached n j l u all due.0 there.0 low from h;
        };
  }

-- ---- who posts actions

no_agent : (plan : Plan) (i : Handle) (o : Option Declared) → same_option same_kind (option_and_then declared_kind o) (Some kind.Interrupt) ≡ true → same_option ◌==◌ (resolved.device_of_interrupt o) None ≡ true → ⊥
no_agent plan i None h same = let z : ⊥ = cc in z
no_agent plan i (Some (declared.Interrupt x)) h same = let z : ⊥ = cc in z
no_agent plan i (Some _) h same = let z : ⊥ = cc in z

of_device : (plan : Plan) (a : Action) (o : Option ℕ) → action_fits plan o a ≡ true → (d : ℕ) × (o ≡ Some d) × (action_fits plan (Some d) a ≡ true)
of_device plan a (Some d) fits = (d, refl, fits)
of_device plan (action.Set r v) None fits = absurd (let z : ⊥ = cc in z)
of_device plan (action.Raise i) None fits = absurd (no_agent plan i (declared_of plan i.id.0) (search (both_left, both_right)) (both_right (is_handle plan kind.Interrupt i) _ fits))
of_device plan (action.Lower i) None fits = absurd (no_agent plan i (declared_of plan i.id.0) (search (both_left, both_right)) (both_right (is_handle plan kind.Interrupt i) _ fits))

pub action_of_device : {A : Type 0} (plan : Plan) (m : Meaning A) (run : List Event) → IsRunOf plan m run → (n agent : ℕ) (a : Action) (answer : Option Handle) → slice_get run n ≡ Some (event.Posted agent (post.Act a) answer)
    → (d : ℕ) × (device_of_agent plan agent ≡ Some d) × (action_fits plan (Some d) a ≡ true)
action_of_device plan m run is_run n agent a answer at = elim (comes_by plan m run n (event.Posted agent (post.Act a) answer) is_run at) [
  | inl h ↦ of_device plan a (device_of_agent plan agent) (search (both_left, both_right))
  | inr t ↦ absurd (let e = t.tick in let z : ⊥ = cc in z)
]
