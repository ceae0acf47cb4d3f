-- Lemmas on the events so far: what may follow them, the ending of the run, and the next one.
use Rattle.std.proofs.Common.{if◌then◌else◌, Bool, true, false, ◌⊎◌, inl, inr, ◌&&◌, ℕ, zero, suc, ◌≡◌, ◌+◌, ◌<◌, ◌≤◌, ◌^◌, ◌%◌, MatchOption, List, [], ◌∷◌, ◌++◌, filter, length, position, Option, Some, None, is_none, is_some, refl, sym, ap, subst, ◌∙◌, arith, length-append, slice_get, nat_lt, nat_le, take}
use Rattle.std.proofs.lemmas.Bool.Decides.{nat_tests}
use Rattle.std.proofs.lemmas.Bool.{lt-ltb, ltb-true, ltb-false}
use Rattle.wdf_base.specs.Meaning.{Meaning}
use Rattle.wdf_base.specs.Resolved.{IsResolved}
use Rattle.wdf_base.specs.declared.event.Event.{Event}
use Rattle.wdf_base.specs.declared.event.Event.TheVariants as event
use Rattle.wdf_base.specs.declared.event.Fault.{Fault}
use Rattle.wdf_base.specs.declared.event.Ending.{Ending}
use Rattle.wdf_base.specs.declared.event.Ending.TheVariants as ending
use Rattle.wdf_base.specs.declared.plan.Plan.{Plan}
use Rattle.wdf_base.specs.declared.wait.WaitLine.{WaitLine}
use Rattle.wdf_model.specs.declared.enums.Group.{Group}
use Rattle.wdf_model.specs.Tables.{entry}
use Rattle.wdf_model.specs.State.{State, opening}
use Rattle.wdf_model.specs.rules.Groups.{groups}
use Rattle.wdf_model.specs.rules.Ready.{allowed, ending_by, ending_of, ending_without_fault, final_ending, last_fault, or_tick, ready, state_after, unless_fault, waits_for_time}
use Rattle.wdf_model.specs.rules.Steps.{after, deeds, may}
use Rattle.wdf_model.proofs.Runs.{run_goes_on, run_opens}
use Rattle.law_machine_base.proofs.Follows.{follows, state_goes_on}
use Rattle.law_machine_room.specs.Kept.{RoomKept}
use Rattle.wdf_model.specs.rules.Room.{AreDoable}
use Rattle.law_machine_room.proofs.Doable.{Fine, agents_few}
use Rattle.law_machine_room.proofs.DoableRuns.{fine_after}
use Rattle.law_machine_room.proofs.RoomLaws.{each_event_is_doable, room_is_kept}
use Rattle.wdf_parts.specs.Again.{IsSized}
use Rattle.wdf_steps.proofs.Parts.{number_kept}
use Rattle.wdf_offers.specs.Search.{events_of, has_places}
use Rattle.wdf_ready.proofs.Grouping.{few_groups}
use Rattle.wdf_ready.proofs.Kept.{fewer_kept, same_events}
use Rattle.wdf_model.specs.rules.Waits.{if_stuck, wait_lines, wait_list}
use Rattle.law_machine_base.specs.FactsOfEvents.{IsTick}
use Rattle.wdf_steps.specs.Clock.{FitsClock}
use Rattle.wdf_core.specs.Course.{IsUnderWay}
use Rattle.wdf_core.specs.Going.{goes_on, tick_if}
use Rattle.wdf_core.proofs.Found.{search_finds}
use Rattle.wdf_core.proofs.Spends.{spend_small}

-- ---- numbers of a resolved plan

upper : (low high n : ℕ) → (nat_le low n && nat_le n high) ≡ true → n ≤ high
upper low high n h = grind (arith, nat_tests)

at_most : (high n : ℕ) → nat_le n high ≡ true → n ≤ high
at_most high n h = grind (arith, nat_tests)

pub declared_few : (plan : Plan) → IsResolved plan → length plan.declared ≤ 4096
declared_few plan k =
    let most : plan.objects ≤ 4096 = upper 1 4096 plan.objects k.objects in
    let counted : length plan.declared ≤ plan.objects = at_most plan.objects (length plan.declared) k.counted in
    omega arith

-- ---- what may follow

by_fault : (f : Option Fault) (n limit : ℕ) (b : Bool) (es : List Event) → nat_lt n limit ≡ b → (is_none f && nat_lt n limit) ≡ true → unless_fault f (if nat_lt n limit then es else []) ≡ es
by_fault None n limit true es e h = rw e refl
by_fault None n limit false es e h = absurd (let k = rw e at h in let z : ⊥ = cc in z)
by_fault (Some x) n limit b es e h = absurd (let z : ⊥ = cc in z)

stopped_by : (f : Option Fault) (n limit : ℕ) (b : Bool) (es : List Event) → nat_lt n limit ≡ b → (is_none f && nat_lt n limit) ≡ false → unless_fault f (if nat_lt n limit then es else []) ≡ []
stopped_by None n limit true es e h = absurd (let k = rw e at h in let z : ⊥ = cc in z)
stopped_by None n limit false es e h = rw e refl
stopped_by (Some x) n limit b es e h = refl

module _ {A : Type 0} (m : Meaning A) (plan : Plan) (journal : List Event) (S : State A) (all : List Group) (space : ℕ) (u : IsUnderWay m plan journal S all space) where
  number_now : (state_after plan m journal).number ≡ length journal
  number_now = ap (λ (T : State A). T.number) (sym u.state) ∙ u.counted

  pub ready_going : goes_on plan journal ≡ true → ready plan m journal ≡ or_tick m (state_after plan m journal) (allowed plan m (state_after plan m journal))
  unfolding ready
  ready_going h = rw number_now (by_fault (last_fault journal) (length journal) plan.limit (nat_lt (length journal) plan.limit) (or_tick m (state_after plan m journal) (allowed plan m (state_after plan m journal))) refl h)

  pub ready_stopped : goes_on plan journal ≡ false → ready plan m journal ≡ []
  unfolding ready
  ready_stopped h = rw number_now (stopped_by (last_fault journal) (length journal) plan.limit (nat_lt (length journal) plan.limit) (or_tick m (state_after plan m journal) (allowed plan m (state_after plan m journal))) refl h)

  going_by : (b : Bool) → goes_on plan journal ≡ b → 0 < length (ready plan m journal) → goes_on plan journal ≡ true
  going_by true e h = e
  going_by false e h = absurd (let none = ready_stopped e in let k = ap length none in omega arith)

  -- where an event may follow, the run goes on
  pub goes : 0 < length (ready plan m journal) → goes_on plan journal ≡ true
  goes h = going_by (goes_on plan journal) refl h

  -- the events that may come are those of the groups
  pub found : events_of plan m S all ≡ allowed plan m (state_after plan m journal)
  found =
      ap (λ gs. events_of plan m S gs) u.groups ∙ ap (λ (T : State A). events_of plan m T (filter (has_places plan) (groups plan))) u.state
      ∙ same_events plan m (state_after plan m journal) (groups plan) ∙ search_finds plan m (state_after plan m journal)

  take_all : {T : Type 0} (xs : List T) → take (length xs) xs ≡ xs
  take_all [] = refl
  take_all (x ∷ xs) = ap (λ ys. x ∷ ys) (take_all xs)

  -- the room of the state at hand
  pub room_now : RoomKept plan (state_after plan m journal)
  room_now = subst (λ (es : List Event). RoomKept plan (state_after plan m es)) (take_all journal) (room_is_kept plan m journal u.resolved u.run (length journal))

  -- it can begin anew
  pub sized : IsSized plan S
  sized =
      let kept = room_now in
      subst (λ (T : State A). IsSized plan T) (sym u.state) (record {
        dispatch = omega (arith, kept.sizes.dispatch);
        controls = omega (arith, kept.sizes.controls);
        powers = omega (arith, kept.sizes.powers);
        sequences = omega (arith, kept.sizes.sequences);
        steps = kept.names.made_of;
        targets = omega (arith, kept.sizes.targets.many);
        depths = kept.sizes.targets.depths;
        stacks = kept.sizes.stacks;
        dpcs = kept.sizes.dpcs;
      })

  below_by : (f : Option Fault) (b : Bool) → nat_lt (length journal) plan.limit ≡ b → (is_none f && nat_lt (length journal) plan.limit) ≡ true → length journal < plan.limit
  below_by None true e h = ltb-true (length journal) plan.limit e
  below_by None false e h = absurd (let k = rw e at h in let z : ⊥ = cc in z)
  below_by (Some x) b e h = absurd (let z : ⊥ = cc in z)

  pub below : goes_on plan journal ≡ true → length journal < plan.limit
  below h = below_by (last_fault journal) (nat_lt (length journal) plan.limit) refl h

  pub fine : goes_on plan journal ≡ true → Fine plan (state_after plan m journal)
  fine h = let n = number_now in let b = below h in fine_after plan m journal u.resolved u.run (omega arith) room_now

  up_to_by : (n : ℕ) (b : Bool) → nat_lt 65536 n ≡ b → ((a : ℕ) → a < n → a < 65536) → n ≤ 65536
  up_to_by n true e h = absurd (let k = h 65536 (ltb-true 65536 n e) in omega arith)
  up_to_by n false e h = let k = ltb-false 65536 n e in omega arith

  pub agents_small : goes_on plan journal ≡ true → length S.agents ≤ 2 ^ 16
  agents_small h = subst (λ (T : State A). length T.agents ≤ 2 ^ 16) (sym u.state) (up_to_by (length (state_after plan m journal).agents) (nat_lt 65536 (length (state_after plan m journal).agents)) refl (agents_few (fine h)))

  pub groups_small : length all < 2 ^ 20
  groups_small =
      let few = few_groups plan (upper 1 8 plan.cpus u.resolved.cpus) (declared_few plan u.resolved) in
      let fewer = fewer_kept (has_places plan) (groups plan) in
      subst (λ gs. length gs < 2 ^ 20) (sym u.groups) (omega arith)

  pub clock_fits : goes_on plan journal ≡ true → S.clock + 1 < 2 ^ 64
  clock_fits h =
      let kept = room_now.growth.clock in
      let n = number_now in
      let b = below h in
      let most : plan.limit ≤ 200000 = upper 1 200000 plan.limit u.resolved.limit in
      let same = ap (λ (T : State A). T.clock) u.state in
      omega arith

  -- ---- how many may follow, and which

  pub none_stopped : goes_on plan journal ≡ false → 0 ≡ length (ready plan m journal)
  none_stopped h = ap length (sym (ready_stopped h))

  some_by : (xs : List Event) (n : ℕ) → n ≡ length xs → 0 < n → n ≡ length (or_tick m (state_after plan m journal) xs)
  some_by [] n e h = absurd (omega arith)
  some_by (x ∷ xs) n e h = e

  pub some_allowed : (n : ℕ) → goes_on plan journal ≡ true → n ≡ length (allowed plan m (state_after plan m journal)) → 0 < n → n ≡ length (ready plan m journal)
  some_allowed n h e some = some_by (allowed plan m (state_after plan m journal)) n e some ∙ ap length (sym (ready_going h))

  -- where some group offers an event, one may follow
  pub some_follows : goes_on plan journal ≡ true → 0 < length (events_of plan m S all) → nat_lt 0 (length (ready plan m journal)) ≡ true
  some_follows h some = let e = some_allowed (length (events_of plan m S all)) h (ap length found) some in lt-ltb 0 (length (ready plan m journal)) (omega arith)

  tick_by : (xs : List Event) (b : Bool) (n : ℕ) → length xs ≡ 0 → waits_for_time m (state_after plan m journal) ≡ b → n ≡ (if b then 1 else 0) → n ≡ length (or_tick m (state_after plan m journal) xs)
  tick_by [] true n e w h = rw w h
  tick_by [] false n e w h = rw w h
  tick_by (x ∷ xs) b n e w h = absurd (omega arith)

  pub one_waits : goes_on plan journal ≡ true → length (allowed plan m (state_after plan m journal)) ≡ 0 → waits_for_time m (state_after plan m journal) ≡ true → 1 ≡ length (ready plan m journal)
  one_waits h e w = tick_by (allowed plan m (state_after plan m journal)) true 1 e w refl ∙ ap length (sym (ready_going h))

  pub none_waits : goes_on plan journal ≡ true → length (allowed plan m (state_after plan m journal)) ≡ 0 → waits_for_time m (state_after plan m journal) ≡ false → 0 ≡ length (ready plan m journal)
  none_waits h e w = tick_by (allowed plan m (state_after plan m journal)) false 0 e w refl ∙ ap length (sym (ready_going h))

  at_some : (xs : List Event) (k : ℕ) (e : Event) → slice_get xs k ≡ Some e → slice_get (or_tick m (state_after plan m journal) xs) k ≡ Some e
  at_some [] k e h = absurd (let z : ⊥ = cc in z)
  at_some (x ∷ xs) k e h = h

  pub found_at : (k : ℕ) (e : Event) → k < length (ready plan m journal) → slice_get (allowed plan m (state_after plan m journal)) k ≡ Some e → slice_get (ready plan m journal) k ≡ Some e
  found_at k e h here = ap (λ xs. slice_get xs k) (ready_going (goes (omega arith))) ∙ at_some (allowed plan m (state_after plan m journal)) k e here

  there : (xs : List Event) (k : ℕ) → slice_get xs k ≡ None → k < length xs → ⊥
  there [] k h below = absurd (omega arith)
  there (x ∷ xs) zero h below = absurd (let z : ⊥ = cc in z)
  there (x ∷ xs) (suc k) h below = there xs k h (omega arith)

  at_tick : (xs : List Event) (b : Bool) (k : ℕ) → waits_for_time m (state_after plan m journal) ≡ b → slice_get xs k ≡ None → k < length (or_tick m (state_after plan m journal) xs)
      → slice_get (or_tick m (state_after plan m journal) xs) k ≡ Some (event.Tick ((state_after plan m journal).clock + 1))
  at_tick (x ∷ xs) b k w h below = absurd (there (x ∷ xs) k h below)
  at_tick [] false k w h below = absurd (let z = rw w at below in omega arith)
  at_tick [] true zero w h below = rw w refl
  at_tick [] true (suc k) w h below = absurd (let z = rw w at below in omega arith)

  pub tick_at : (k : ℕ) → k < length (ready plan m journal) → slice_get (allowed plan m (state_after plan m journal)) k ≡ None
      → slice_get (ready plan m journal) k ≡ Some (event.Tick ((state_after plan m journal).clock + 1))
  tick_at k h none =
      let is = ready_going (goes (omega arith)) in
      let within : k < length (or_tick m (state_after plan m journal) (allowed plan m (state_after plan m journal))) = subst (λ xs. k < length xs) is h in
      ap (λ xs. slice_get xs k) is ∙ at_tick (allowed plan m (state_after plan m journal)) (waits_for_time m (state_after plan m journal)) k refl none within

  -- ---- the first

  pub first_stops : goes_on plan journal ≡ false → None ≡ slice_get (ready plan m journal) 0
  first_stops h = sym (ap (λ xs. slice_get xs 0) (ready_stopped h))

  -- the first event that may come, time aside, is the first that may follow
  pub first_found : (e : Event) → goes_on plan journal ≡ true → slice_get (allowed plan m (state_after plan m journal)) 0 ≡ Some e → Some e ≡ slice_get (ready plan m journal) 0
  first_found e h here = sym (ap (λ xs. slice_get xs 0) (ready_going h) ∙ at_some (allowed plan m (state_after plan m journal)) 0 e here)

  first_tick_by : (xs : List Event) (b : Bool) → waits_for_time m (state_after plan m journal) ≡ b → slice_get xs 0 ≡ None
      → tick_if b (state_after plan m journal).clock ≡ slice_get (or_tick m (state_after plan m journal) xs) 0
  first_tick_by (x ∷ xs) b w h = absurd (let z : ⊥ = cc in z)
  first_tick_by [] true w h = rw w refl
  first_tick_by [] false w h = rw w refl

  -- where none may come, it is the next tick, if something waits for it
  pub first_tick : goes_on plan journal ≡ true → slice_get (allowed plan m (state_after plan m journal)) 0 ≡ None
      → tick_if (waits_for_time m (state_after plan m journal)) (state_after plan m journal).clock ≡ slice_get (ready plan m journal) 0
  first_tick h none =
      first_tick_by (allowed plan m (state_after plan m journal)) (waits_for_time m (state_after plan m journal)) refl none
      ∙ ap (λ xs. slice_get xs 0) (sym (ready_going h))

  -- ---- the one that a pick names

  pick_by : (pick : ℕ) (xs : List Event) (e : Event) → slice_get xs (pick % length xs) ≡ Some e
      → slice_get (or_tick m (state_after plan m journal) xs) (pick % length (or_tick m (state_after plan m journal) xs)) ≡ Some e
  pick_by pick [] e h = absurd (let z : ⊥ = cc in z)
  pick_by pick (x ∷ xs) e h = h

  -- among those that may come, time aside, where there are some
  pick_found : (pick : ℕ) (e : Event) → goes_on plan journal ≡ true → slice_get (allowed plan m (state_after plan m journal)) (pick % length (allowed plan m (state_after plan m journal))) ≡ Some e
      → slice_get (ready plan m journal) (pick % length (ready plan m journal)) ≡ Some e
  pick_found pick e h at = subst (λ xs. slice_get xs (pick % length xs) ≡ Some e) (sym (ready_going h)) (pick_by pick (allowed plan m (state_after plan m journal)) e at)

  pick_of : (pick : ℕ) (o : Option Event) → goes_on plan journal ≡ true
      → MatchOption o (allowed plan m (state_after plan m journal) ≡ []) (λ e. slice_get (allowed plan m (state_after plan m journal)) (pick % length (allowed plan m (state_after plan m journal))) ≡ Some e)
      → MatchOption o (allowed plan m (state_after plan m journal) ≡ []) (λ e. slice_get (ready plan m journal) (pick % length (ready plan m journal)) ≡ Some e)
  pick_of pick None h k = k
  pick_of pick (Some e) h k = pick_found pick e h k

  -- what the groups offer names what may follow
  pub picked_ready : (pick : ℕ) (o : Option Event) → goes_on plan journal ≡ true → MatchOption o (events_of plan m S all ≡ []) (λ e. slice_get (events_of plan m S all) (pick % length (events_of plan m S all)) ≡ Some e)
      → MatchOption o (allowed plan m (state_after plan m journal) ≡ []) (λ e. slice_get (ready plan m journal) (pick % length (ready plan m journal)) ≡ Some e)
  picked_ready pick o h k = pick_of pick o h (subst (λ xs. MatchOption o (xs ≡ []) (λ e. slice_get xs (pick % length xs) ≡ Some e)) found k)

  pick_tick_by : (pick : ℕ) (xs : List Event) (b : Bool) (o : Option Event) → xs ≡ [] → waits_for_time m (state_after plan m journal) ≡ b → o ≡ tick_if b (state_after plan m journal).clock
      → MatchOption o (or_tick m (state_after plan m journal) xs ≡ []) (λ e. slice_get (or_tick m (state_after plan m journal) xs) (pick % length (or_tick m (state_after plan m journal) xs)) ≡ Some e)
  pick_tick_by pick (x ∷ xs) b o e w is = absurd (let z : ⊥ = cc in z)
  pick_tick_by pick [] false o e w is = rw (is, w) refl
  pick_tick_by pick [] true o e w is = let first : pick % 1 ≡ 0 = omega arith in rw (is, w, first) refl

  -- where none may come, it is the next tick, if something waits for it
  pub pick_tick : (pick : ℕ) (o : Option Event) → goes_on plan journal ≡ true → allowed plan m (state_after plan m journal) ≡ [] → o ≡ tick_if (waits_for_time m (state_after plan m journal)) (state_after plan m journal).clock
      → MatchOption o (ready plan m journal ≡ []) (λ e. slice_get (ready plan m journal) (pick % length (ready plan m journal)) ≡ Some e)
  pick_tick pick o h none is =
      subst (λ xs. MatchOption o (xs ≡ []) (λ e. slice_get xs (pick % length xs) ≡ Some e)) (sym (ready_going h))
      (pick_tick_by pick (allowed plan m (state_after plan m journal)) (waits_for_time m (state_after plan m journal)) o none refl is)

  -- ---- the first of an actor

  pub first_stopped : (p : Event → Bool) → goes_on plan journal ≡ false → None ≡ position p (ready plan m journal)
  first_stopped p h = sym (ap (position p) (ready_stopped h))

  first_by : (p : Event → Bool) (xs : List Event) → 0 < length xs → position p xs ≡ position p (or_tick m (state_after plan m journal) xs)
  first_by p [] h = absurd (omega arith)
  first_by p (x ∷ xs) h = refl

  pub first_allowed : (p : Event → Bool) → goes_on plan journal ≡ true → 0 < length (allowed plan m (state_after plan m journal)) → position p (allowed plan m (state_after plan m journal)) ≡ position p (ready plan m journal)
  first_allowed p h some = first_by p (allowed plan m (state_after plan m journal)) some ∙ ap (position p) (sym (ready_going h))

  some_first : (p : Event → Bool) (xs : List Event) (k : ℕ) → position p xs ≡ Some k → Some k ≡ position p (or_tick m (state_after plan m journal) xs)
  some_first p [] k h = absurd (let z : ⊥ = cc in z)
  some_first p (x ∷ xs) k h = sym h

  -- an actor's first event among those that may come, time aside, is the first that may follow
  pub first_there : (p : Event → Bool) (k : ℕ) → goes_on plan journal ≡ true → position p (allowed plan m (state_after plan m journal)) ≡ Some k → Some k ≡ position p (ready plan m journal)
  first_there p k h at = some_first p (allowed plan m (state_after plan m journal)) k at ∙ ap (position p) (sym (ready_going h))

  other_first : (p : Event → Bool) (xs : List Event) (b : Bool) → waits_for_time m (state_after plan m journal) ≡ b → position p xs ≡ None → p (event.Tick ((state_after plan m journal).clock + 1)) ≡ false
      → None ≡ position p (or_tick m (state_after plan m journal) xs)
  other_first p (x ∷ xs) b w h t = sym h
  other_first p [] true w h t = rw (w, t) refl
  other_first p [] false w h t = rw w refl

  -- an actor to whom no event that may come belongs, nor the next tick, has none
  pub none_there : (p : Event → Bool) → goes_on plan journal ≡ true → position p (allowed plan m (state_after plan m journal)) ≡ None → p (event.Tick ((state_after plan m journal).clock + 1)) ≡ false
      → None ≡ position p (ready plan m journal)
  none_there p h none t = other_first p (allowed plan m (state_after plan m journal)) (waits_for_time m (state_after plan m journal)) refl none t ∙ ap (position p) (sym (ready_going h))

  tick_first_by : (p : Event → Bool) (xs : List Event) (b c : Bool) → length xs ≡ 0 → waits_for_time m (state_after plan m journal) ≡ b → p (event.Tick ((state_after plan m journal).clock + 1)) ≡ c
      → (if b && c then Some 0 else None) ≡ position p (or_tick m (state_after plan m journal) xs)
  tick_first_by p (x ∷ xs) b c e w h = absurd (omega arith)
  tick_first_by p [] true true e w h = rw (w, h) refl
  tick_first_by p [] true false e w h = rw (w, h) refl
  tick_first_by p [] false c e w h = rw w refl

  pub none_by_tick : (p : Event → Bool) → goes_on plan journal ≡ true → length (allowed plan m (state_after plan m journal)) ≡ 0
      → waits_for_time m (state_after plan m journal) ≡ false → None ≡ position p (ready plan m journal)
  none_by_tick p h e w =
      tick_first_by p (allowed plan m (state_after plan m journal)) false (p (event.Tick ((state_after plan m journal).clock + 1))) e w refl
      ∙ ap (position p) (sym (ready_going h))

  pub first_by_tick : (p : Event → Bool) (c : Bool) → goes_on plan journal ≡ true → length (allowed plan m (state_after plan m journal)) ≡ 0
      → waits_for_time m (state_after plan m journal) ≡ true → p (event.Tick ((state_after plan m journal).clock + 1)) ≡ c
      → (if c then Some 0 else None) ≡ position p (ready plan m journal)
  first_by_tick p c h e w by = tick_first_by p (allowed plan m (state_after plan m journal)) true c e w by ∙ ap (position p) (sym (ready_going h))

  -- ---- the next event

  pub next_doable : (k : ℕ) (e : Event) → slice_get (ready plan m journal) k ≡ Some e → AreDoable plan (deeds plan S e) S
  next_doable k e at = subst (λ (T : State A). AreDoable plan (deeds plan T e) T) (sym u.state) (each_event_is_doable plan m journal k e u.resolved u.run at)

  pub number_fits : goes_on plan journal ≡ true → S.number + 1 < 2 ^ 32
  number_fits h =
      let b = below h in
      let most : plan.limit ≤ 200000 = upper 1 200000 plan.limit u.resolved.limit in
      let counted = u.counted in
      omega arith

  pub arrivals_fit : goes_on plan journal ≡ true → (agent : ℕ) → entry 0 S.arrivals agent + 1 < 2 ^ 32
  arrivals_fit h agent =
      let kept : entry 0 S.arrivals agent ≤ S.number = subst (λ (T : State A). entry 0 T.arrivals agent ≤ T.number) (sym u.state) (room_now.growth.arrivals agent) in
      let fits = number_fits h in
      omega arith

  some_there : (xs : List Event) (k : ℕ) (e : Event) → slice_get xs k ≡ Some e → 0 < length xs
  some_there [] k e h = absurd (let z : ⊥ = cc in z)
  some_there (x ∷ xs) k e h = omega arith

  pub goes_by : (k : ℕ) (e : Event) → slice_get (ready plan m journal) k ≡ Some e → goes_on plan journal ≡ true
  goes_by k e at = goes (some_there (ready plan m journal) k e at)

  tick_or_small : (e : Event) → (may plan m (state_after plan m journal) e ≡ true) ⊎ IsTick m (state_after plan m journal) (ready plan m journal) e
      → (state_after plan m journal).clock + 1000000 < 2 ^ 64 → FitsClock (state_after plan m journal) e
  tick_or_small (event.Spend cpu n) (inl h) fits = let small = spend_small plan m (state_after plan m journal) cpu n h in omega arith
  tick_or_small (event.Spend cpu n) (inr t) fits = absurd (let is = t.tick in let z : ⊥ = cc in z)
  tick_or_small _ any fits = tt

  -- the clock holds the tick until which a frame spends
  pub next_fits : (k : ℕ) (e : Event) → slice_get (ready plan m journal) k ≡ Some e → FitsClock S e
  next_fits k e at =
      let kept = room_now.growth.clock in
      let n = number_now in
      let b = below (goes_by k e at) in
      let most : plan.limit ≤ 200000 = upper 1 200000 plan.limit u.resolved.limit in
      subst (λ (T : State A). FitsClock T e) (sym u.state) (tick_or_small e (follows plan m journal k e at) (omega arith))

  pub next : (k : ℕ) (e : Event) → slice_get (ready plan m journal) k ≡ Some e → IsUnderWay m plan (journal ++ e ∷ []) (after plan m S e) all space
  next k e at =
      let b = below (goes_by k e at) in
      let counted : S.number ≡ length journal = u.counted in
      let kept = number_kept plan m (deeds plan S e) e S in
      record {
        resolved = u.resolved;
        state = ap (λ (T : State A). after plan m T e) u.state ∙ sym (state_goes_on plan m journal e);
        run = run_goes_on (ready plan m) journal e k u.run at;
        counted = omega (arith, length-append journal (e ∷ []));
        within = omega (arith, length-append journal (e ∷ []));
        groups = u.groups;
        room = u.room;
      }

  -- ---- the ending of the run

  run_by : (xs : List Event) → 0 < length xs → ending.Running ≡ ending_by plan m (state_after plan m journal) (last_fault journal) xs
  run_by [] h = absurd (omega arith)
  run_by (x ∷ xs) h = refl

  pub running : 0 < length (ready plan m journal) → ending.Running ≡ ending_of plan m journal
  unfolding ending_of
  running h = run_by (ready plan m journal) h

  ended_by : (xs : List Event) (f : Option Fault) (e : Ending) → length xs ≡ 0 → e ≡ final_ending plan m (state_after plan m journal) f → e ≡ ending_by plan m (state_after plan m journal) f xs
  ended_by [] f e h is = is
  ended_by (x ∷ xs) f e h is = absurd (omega arith)

  ended : (e : Ending) → length (ready plan m journal) ≡ 0 → e ≡ final_ending plan m (state_after plan m journal) (last_fault journal) → e ≡ ending_of plan m journal
  unfolding ending_of
  ended e h is = ended_by (ready plan m journal) (last_fault journal) e h is

  pub ended_by_fault : (f : Fault) → length (ready plan m journal) ≡ 0 → last_fault journal ≡ Some f → ending.Fault f ≡ ending_of plan m journal
  ended_by_fault f h last = let is : ending.Fault f ≡ final_ending plan m (state_after plan m journal) (last_fault journal) = rw last refl in ended (ending.Fault f) h is

  pub ended_by_state : (e : Ending) → length (ready plan m journal) ≡ 0 → last_fault journal ≡ None → e ≡ ending_without_fault plan m (state_after plan m journal) → e ≡ ending_of plan m journal
  ended_by_state e h last is = let found : e ≡ final_ending plan m (state_after plan m journal) (last_fault journal) = rw last is in ended e h found

  -- ---- the wait list

  lines_by : (e : Ending) (ls : List WaitLine) → ending.Stuck ≡ e → ls ≡ if_stuck e ls
  lines_by ending.Stuck ls h = refl
  lines_by _ ls h = absurd (let z : ⊥ = cc in z)

  pub stuck_lines : ending.Stuck ≡ ending_of plan m journal → wait_lines plan m S ≡ wait_list plan m journal
  unfolding wait_list
  stuck_lines h = ap (wait_lines plan m) u.state ∙ lines_by (ending_of plan m journal) (wait_lines plan m (state_after plan m journal)) h

  none_by : (e : Ending) (ls : List WaitLine) → (ending.Stuck ≡ e → ⊥) → 0 ≡ length (if_stuck e ls)
  none_by ending.Stuck ls h = absurd (h refl)
  none_by _ ls h = refl

  pub no_lines : (ending.Stuck ≡ ending_of plan m journal → ⊥) → 0 ≡ length (wait_list plan m journal)
  unfolding wait_list
  no_lines h = none_by (ending_of plan m journal) (wait_lines plan m (state_after plan m journal)) h

-- ---- whether there is a first

pub any_first : (xs : List Event) → is_some (slice_get xs 0) ≡ nat_lt 0 (length xs)
any_first [] = refl
any_first (x ∷ xs) = sym (lt-ltb 0 (length (x ∷ xs)) (omega arith))

pub none_first : (xs : List Event) → slice_get xs 0 ≡ None → xs ≡ []
none_first [] h = refl
none_first (x ∷ xs) h = absurd (let z : ⊥ = cc in z)

-- ---- the opening

-- it is the state of no events
pub opening_state : {A : Type 0} (m : Meaning A) (plan : Plan) (S : State A) → S ≡ opening plan m → S ≡ state_after plan m []
unfolding state_after
opening_state m plan S e = e

pub opens : {A : Type 0} (m : Meaning A) (plan : Plan) (S : State A) (all : List Group) (space : ℕ) → IsResolved plan → S ≡ state_after plan m [] → all ≡ filter (has_places plan) (groups plan) → plan.limit ≤ space → IsUnderWay m plan [] S all space
unfolding state_after
opens m plan S all space resolved state is room = record {
  resolved = resolved;
  state = state;
  run = run_opens (ready plan m);
  counted = ap (λ (T : State _). T.number) state;
  within = omega arith;
  groups = is;
  room = room;
}
