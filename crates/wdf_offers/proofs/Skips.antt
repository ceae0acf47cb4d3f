-- What is passed over without a look: idle groups, requests that aren't closing or for which no callback is due, objects
-- that aren't cleaned, or whose turn hasn't come.
use Rattle.std.proofs.Common.{if◌then◌else◌, Bool, true, false, ◌&&◌, ℕ, ◌≡◌, ◌+◌, ◌-◌, ◌<◌, ◌≤◌, ◌^◌, [], find, Option, Some, None, MatchOption, refl, sym, ap, subst, ◌∙◌, arith}
use Rattle.std.specs.Prelude.{nat_le, nat_lt}
use Rattle.std.specs.Option.{option_and_then}
use Rattle.std.specs.List.{range_with_len}
use Rattle.std.proofs.lemmas.Bool.{le-leb, leb-true, ltb-false, ltb-true}
use Rattle.wdf_base.specs.Meaning.{Meaning}
use Rattle.wdf_base.specs.declared.event.Event.{Event}
use Rattle.wdf_base.specs.declared.event.Event.TheVariants as event
use Rattle.wdf_base.specs.declared.object.Place.{Place}
use Rattle.wdf_base.specs.declared.object.Place.TheVariants as place
use Rattle.wdf_base.specs.declared.call.Callback.TheVariants as callback
use Rattle.wdf_base.specs.declared.plan.Plan.{Plan}
use Rattle.wdf_base.specs.declared.rank.Rank.{Rank}
use Rattle.wdf_base.specs.declared.rank.Rank.TheVariants as rank
use Rattle.wdf_base.specs.Lives.{is_cleaned}
use Rattle.wdf_base.specs.Places.{is_closing}
use Rattle.wdf_model.proofs.Tests.{both_left}
use Rattle.wdf_model.specs.declared.enums.Group.{Group}
use Rattle.wdf_model.specs.declared.enums.Group.TheVariants as group
use Rattle.wdf_model.specs.Tables.{ids_of}
use Rattle.wdf_model.specs.parts.Tree.{life_of, may_clean}
use Rattle.wdf_model.specs.parts.Requests.{place_of}
use Rattle.wdf_model.specs.State.{State, handle_in, is_proper}
use Rattle.wdf_model.specs.rules.Starts.{callback_over, clean_ready, destroy_ready}
use Rattle.wdf_model.specs.rules.Steps.{may}
use Rattle.wdf_model.specs.rules.Groups.{completion_at, places_for, places_in}
use Rattle.wdf_request.specs.Closing.{closing_requests}
use Rattle.wdf_sets.specs.Nexts.{IsNext, NoneFrom}
use Rattle.wdf_sets.proofs.Nexts.{First, find_filter, first_in, none_in}
use Rattle.wdf_offers.specs.Idle.{can_start_at, is_due_at, is_idle, search_len}
use Rattle.wdf_offers.specs.Search.{Skips, offered, offered_from}
use Rattle.wdf_offers.proofs.NotOffered.{cannot_start, idle_offers_none, no_stage, not_due, not_its_turn}
use Rattle.wdf_offers.proofs.Places.{all_passed, past}

-- ---- what is skipped

pub right_false : (a b : Bool) → a ≡ true → (a && b) ≡ false → b ≡ false
right_false true b e h = h
right_false false b e h = absurd (let z : ⊥ = cc in z)

module _ {A : Type 0} (plan : Plan) (m : Meaning A) (S : State A) (g : Group) (test : ℕ → Bool) (none : (p : ℕ) → test p ≡ false → offered plan m S g p ≡ None) where
  skips_by : (from x : ℕ) → places_in plan S g ≤ 2 ^ 32 → find (λ o. nat_le from o && test o) (range_with_len 0 (places_in plan S g)) ≡ Some x → Skips plan m S g from x
  skips_by from x few h =
      let k : First (λ o. nat_le from o && test o) 0 (places_in plan S g) x = first_in (λ o. nat_le from o && test o) 0 (places_in plan S g) x h in
      let within = k.within in
      let above : from ≤ x = leb-true from x (both_left (nat_le from x) (test x) k.passes) in
      let more : from + (x - from) ≡ x = omega arith in
      record {
        passed = all_passed plan m S g from (x - from) (omega arith)
            (λ p over under. none p (right_false (nat_le from p) (test p) (le-leb from p over) (k.before p (omega arith) (omega arith)))) ∙ ap (offered_from plan m S g) more;
        after = above;
        within = omega arith;
        small = omega arith;
      }

  ends_by : (from : ℕ) → from < places_in plan S g → find (λ o. nat_le from o && test o) (range_with_len 0 (places_in plan S g)) ≡ None → offered_from plan m S g from ≡ []
  ends_by from below h =
      let more : from + (places_in plan S g - from) ≡ places_in plan S g = omega arith in
      all_passed plan m S g from (places_in plan S g - from) (omega arith)
      (λ p over under. none p (right_false (nat_le from p) (test p) (le-leb from p over) (none_in (λ o. nat_le from o && test o) 0 (places_in plan S g) h p (omega arith) (omega arith))))
      ∙ ap (offered_from plan m S g) more ∙ past plan m S g (places_in plan S g) (omega arith)

  next_skips : (from x : ℕ) → places_in plan S g ≤ 2 ^ 32 → IsNext test from (places_in plan S g) x → Skips plan m S g from x
  next_skips from x few h =
      let after = h.after in
      let within = h.within in
      let more : from + (x - from) ≡ x = omega arith in
      record {
        passed = all_passed plan m S g from (x - from) (omega arith) (λ p over under. none p (h.before p over (omega arith))) ∙ ap (offered_from plan m S g) more;
        after = after;
        within = within;
        small = omega arith;
      }

  next_ends : (from : ℕ) → from < places_in plan S g → NoneFrom test from (places_in plan S g) → offered_from plan m S g from ≡ []
  next_ends from below h =
      let more : from + (places_in plan S g - from) ≡ places_in plan S g = omega arith in
      all_passed plan m S g from (places_in plan S g - from) (omega arith) (λ p over under. none p (h p over (omega arith)))
      ∙ ap (offered_from plan m S g) more ∙ past plan m S g (places_in plan S g) (omega arith)

-- a place below the end of those that a search goes over, which is that of the group's
pub record Searched {A : Type 0} (plan : Plan) (S : State A) (g : Group) (from end : ℕ) : Type 0 where
  pub is : end ≡ places_in plan S g
  pub below : from < places_in plan S g
  pub few : places_in plan S g ≤ 2 ^ 32

module _ {A : Type 0} (plan : Plan) (m : Meaning A) (S : State A) where
  idle_by : (g : Group) (from : ℕ) (b : Bool) → nat_lt from (places_in plan S g) ≡ b → is_idle plan S g ≡ true → offered_from plan m S g from ≡ []
  idle_by g from true e idle = next_ends plan m S g (λ _. false) (λ p _. idle_offers_none plan m S g p idle) from (ltb-true from (places_in plan S g) e) (λ p over under. refl)
  idle_by g from false e idle = past plan m S g from (ltb-false from (places_in plan S g) e)

  over_by : (g : Group) (from end : ℕ) (b : Bool) → is_idle plan S g ≡ b → end ≡ (if b then 0 else places_in plan S g) → end ≤ from → offered_from plan m S g from ≡ []
  over_by g from end true e all over = idle_by g from (nat_lt from (places_in plan S g)) refl e
  over_by g from end false e all over = past plan m S g from (omega arith)

  -- past the places that a search goes over nothing may come
  pub search_over : (g : Group) (from end : ℕ) → end ≡ search_len plan S g → end ≤ from → offered_from plan m S g from ≡ []
  search_over g from end = over_by g from end (is_idle plan S g) refl

  searched_by : (g : Group) (from end : ℕ) (b : Bool) → end ≡ (if b then 0 else places_in plan S g) → from < end → end ≤ 2 ^ 32 → Searched plan S g from end
  searched_by g from end true all below few = absurd (omega arith)
  searched_by g from end false all below few = record { is = all; below = omega arith; few = omega arith }

  -- where a search goes over some places, it goes over all of the group
  pub searched : (g : Group) (from end : ℕ) → end ≡ search_len plan S g → from < end → end ≤ 2 ^ 32 → Searched plan S g from end
  searched g from end = searched_by g from end (is_idle plan S g)

  closing_none : (r : ℕ) (p : Place) → is_closing p ≡ false → completion_at plan S r p ≡ None
  closing_none r (place.Closing s) h = absurd (let z : ⊥ = cc in z)
  closing_none r _ h = refl

  no_completion : (r : ℕ) → is_closing (place_of S.requests r) ≡ false → offered plan m S group.Completions r ≡ None
  no_completion r h = ap (option_and_then (λ e. if may plan m S e then Some e else None)) (closing_none r (place_of S.requests r) h)

  not_allowed : (e : Event) (b : Bool) → may plan m S e ≡ b → b ≡ false → (if may plan m S e then Some e else None) ≡ None
  not_allowed e true h k = absurd (let z : ⊥ = cc in z)
  not_allowed e false h k = rw h refl

  never : (p q r : Bool) → q ≡ false → (p && q && r) ≡ false
  never true q r h = rw h refl
  never false q r h = refl

  no_cleanup : (o : ℕ) → may_clean S.tree o ≡ false → offered plan m S group.Cleanups o ≡ None
  no_cleanup o h =
      not_allowed (event.Cleanup (handle_in plan S o)) (may plan m S (event.Cleanup (handle_in plan S o))) refl
      (never (is_proper plan S (handle_in plan S o)) (clean_ready S o) (callback_over plan S callback.EvtCleanupCallback o) (not_its_turn S o h))

  no_destroy : (o : ℕ) → is_cleaned (life_of S.tree o) ≡ false → offered plan m S group.Destroys o ≡ None
  no_destroy o h =
      let unready : destroy_ready S o ≡ false = rw h refl in
      not_allowed (event.Destroy (handle_in plan S o)) (may plan m S (event.Destroy (handle_in plan S o))) refl
      (never (is_proper plan S (handle_in plan S o)) (destroy_ready S o) (callback_over plan S callback.EvtDestroyCallback o) unready)

  skips_completions : (from x : ℕ) → places_in plan S group.Completions ≤ 2 ^ 32 → find (nat_le from) (closing_requests S.requests) ≡ Some x → Skips plan m S group.Completions from x
  skips_completions from x few h =
      skips_by plan m S group.Completions (λ r. is_closing (place_of S.requests r)) no_completion from x few
      (sym (find_filter (nat_le from) (λ r. is_closing (place_of S.requests r)) (ids_of S.requests.all)) ∙ h)

  ends_completions : (from : ℕ) → from < places_in plan S group.Completions → find (nat_le from) (closing_requests S.requests) ≡ None → offered_from plan m S group.Completions from ≡ []
  ends_completions from below h =
      ends_by plan m S group.Completions (λ r. is_closing (place_of S.requests r)) no_completion from below
      (sym (find_filter (nat_le from) (λ r. is_closing (place_of S.requests r)) (ids_of S.requests.all)) ∙ h)

  skips_cleanups : (from x : ℕ) → places_in plan S group.Cleanups ≤ 2 ^ 32 → find (λ o. nat_le from o && may_clean S.tree o) (ids_of S.tree.nodes) ≡ Some x → Skips plan m S group.Cleanups from x
  skips_cleanups from x few h = skips_by plan m S group.Cleanups (λ o. may_clean S.tree o) no_cleanup from x few h

  ends_cleanups : (from : ℕ) → from < places_in plan S group.Cleanups → find (λ o. nat_le from o && may_clean S.tree o) (ids_of S.tree.nodes) ≡ None → offered_from plan m S group.Cleanups from ≡ []
  ends_cleanups from below h = ends_by plan m S group.Cleanups (λ o. may_clean S.tree o) no_cleanup from below h

  skips_destroys : (from x : ℕ) → places_in plan S group.Destroys ≤ 2 ^ 32 → find (λ o. nat_le from o && is_cleaned (life_of S.tree o)) (ids_of S.tree.nodes) ≡ Some x → Skips plan m S group.Destroys from x
  skips_destroys from x few h = skips_by plan m S group.Destroys (λ o. is_cleaned (life_of S.tree o)) no_destroy from x few h

  ends_destroys : (from : ℕ) → from < places_in plan S group.Destroys → find (λ o. nat_le from o && is_cleaned (life_of S.tree o)) (ids_of S.tree.nodes) ≡ None → offered_from plan m S group.Destroys from ≡ []
  ends_destroys from below h = ends_by plan m S group.Destroys (λ o. is_cleaned (life_of S.tree o)) no_destroy from below h

  -- what is found, or that nothing is
  by_option : (g : Group) (from : ℕ) (o found : Option ℕ) → found ≡ o → (found ≡ None → offered_from plan m S g from ≡ []) → ((x : ℕ) → found ≡ Some x → Skips plan m S g from x)
      → MatchOption o (offered_from plan m S g from ≡ []) (λ x. Skips plan m S g from x)
  by_option g from None found e none some = none e
  by_option g from (Some x) found e none some = some x e

  pub completions_answer : (g : Group) (from : ℕ) (o : Option ℕ) → group.Completions ≡ g → from < places_in plan S g → places_in plan S g ≤ 2 ^ 32 → find (nat_le from) (closing_requests S.requests) ≡ o
      → MatchOption o (offered_from plan m S g from ≡ []) (λ x. Skips plan m S g from x)
  completions_answer g from o is = subst (λ h. from < places_in plan S h → places_in plan S h ≤ 2 ^ 32 → find (nat_le from) (closing_requests S.requests) ≡ o → MatchOption o (offered_from plan m S h from ≡ []) (λ x. Skips plan m S h from x)) is
      (λ below few e. by_option group.Completions from o (find (nat_le from) (closing_requests S.requests)) e (ends_completions from below) (λ x h. skips_completions from x few h))

  pub cleanups_answer : (g : Group) (from : ℕ) (o : Option ℕ) → group.Cleanups ≡ g → from < places_in plan S g → places_in plan S g ≤ 2 ^ 32 → find (λ x. nat_le from x && may_clean S.tree x) (ids_of S.tree.nodes) ≡ o
      → MatchOption o (offered_from plan m S g from ≡ []) (λ x. Skips plan m S g from x)
  cleanups_answer g from o is = subst (λ h. from < places_in plan S h → places_in plan S h ≤ 2 ^ 32 → find (λ x. nat_le from x && may_clean S.tree x) (ids_of S.tree.nodes) ≡ o → MatchOption o (offered_from plan m S h from ≡ []) (λ x. Skips plan m S h from x)) is
      (λ below few e. by_option group.Cleanups from o (find (λ x. nat_le from x && may_clean S.tree x) (ids_of S.tree.nodes)) e (ends_cleanups from below) (λ x h. skips_cleanups from x few h))

  pub destroys_answer : (g : Group) (from : ℕ) (o : Option ℕ) → group.Destroys ≡ g → from < places_in plan S g → places_in plan S g ≤ 2 ^ 32 → find (λ x. nat_le from x && is_cleaned (life_of S.tree x)) (ids_of S.tree.nodes) ≡ o
      → MatchOption o (offered_from plan m S g from ≡ []) (λ x. Skips plan m S g from x)
  destroys_answer g from o is = subst (λ h. from < places_in plan S h → places_in plan S h ≤ 2 ^ 32 → find (λ x. nat_le from x && is_cleaned (life_of S.tree x)) (ids_of S.tree.nodes) ≡ o → MatchOption o (offered_from plan m S h from ≡ []) (λ x. Skips plan m S h from x)) is
      (λ below few e. by_option group.Destroys from o (find (λ x. nat_le from x && is_cleaned (life_of S.tree x)) (ids_of S.tree.nodes)) e (ends_destroys from below) (λ x h. skips_destroys from x few h))

  -- ---- starts

  -- a place is the next one
  pub stays : (g : Group) (from : ℕ) → from < places_in plan S g → places_in plan S g ≤ 2 ^ 32 → Skips plan m S g from from
  stays g from below few = record { passed = refl; after = omega arith; within = below; small = omega arith }

  startable_by : (cpu : ℕ) (r : Rank) (from : ℕ) (o : Option ℕ) → from < places_in plan S (group.Starts cpu r) → places_in plan S (group.Starts cpu r) ≤ 2 ^ 32
      → MatchOption o (NoneFrom (can_start_at S r) from (places_in plan S (group.Starts cpu r))) (λ x. IsNext (can_start_at S r) from (places_in plan S (group.Starts cpu r)) x)
      → MatchOption o (offered_from plan m S (group.Starts cpu r) from ≡ []) (λ x. Skips plan m S (group.Starts cpu r) from x)
  startable_by cpu r from None below few h = next_ends plan m S (group.Starts cpu r) (can_start_at S r) (cannot_start plan m S cpu r) from below h
  startable_by cpu r from (Some x) below few h = next_skips plan m S (group.Starts cpu r) (can_start_at S r) (cannot_start plan m S cpu r) from x few h

  pub startable_answer : (cpu : ℕ) (r : Rank) (from end : ℕ) (o : Option ℕ) → end ≡ places_in plan S (group.Starts cpu r) → from < end → end ≤ 2 ^ 32
      → MatchOption o (NoneFrom (can_start_at S r) from end) (λ x. IsNext (can_start_at S r) from end x) → MatchOption o (offered_from plan m S (group.Starts cpu r) from ≡ []) (λ x. Skips plan m S (group.Starts cpu r) from x)
  startable_answer cpu r from end o all = subst
      (λ n. from < n → n ≤ 2 ^ 32
      → MatchOption o (NoneFrom (can_start_at S r) from n) (λ x. IsNext (can_start_at S r) from n x) → MatchOption o (offered_from plan m S (group.Starts cpu r) from ≡ []) (λ x. Skips plan m S (group.Starts cpu r) from x))
      (sym all) (startable_by cpu r from o)

  stages_by : (from : ℕ) (o : Option ℕ) → from < places_in plan S group.Stages → places_in plan S group.Stages ≤ 2 ^ 32
      → MatchOption o (NoneFrom (can_start_at S rank.Sequence) from (places_in plan S group.Stages)) (λ x. IsNext (can_start_at S rank.Sequence) from (places_in plan S group.Stages) x)
      → MatchOption o (offered_from plan m S group.Stages from ≡ []) (λ x. Skips plan m S group.Stages from x)
  stages_by from None below few h = next_ends plan m S group.Stages (can_start_at S rank.Sequence) (no_stage plan m S) from below h
  stages_by from (Some x) below few h = next_skips plan m S group.Stages (can_start_at S rank.Sequence) (no_stage plan m S) from x few h

  pub stages_answer : (g : Group) (from end : ℕ) (o : Option ℕ) → group.Stages ≡ g → end ≡ places_in plan S g → from < end → end ≤ 2 ^ 32
      → MatchOption o (NoneFrom (can_start_at S rank.Sequence) from end) (λ x. IsNext (can_start_at S rank.Sequence) from end x) → MatchOption o (offered_from plan m S g from ≡ []) (λ x. Skips plan m S g from x)
  stages_answer g from end o is =
      subst
      (λ h. end ≡ places_in plan S h → from < end → end ≤ 2 ^ 32
      → MatchOption o (NoneFrom (can_start_at S rank.Sequence) from end) (λ x. IsNext (can_start_at S rank.Sequence) from end x) → MatchOption o (offered_from plan m S h from ≡ []) (λ x. Skips plan m S h from x))
      is
      (λ all. subst
      (λ n. from < n → n ≤ 2 ^ 32
      → MatchOption o (NoneFrom (can_start_at S rank.Sequence) from n) (λ x. IsNext (can_start_at S rank.Sequence) from n x) → MatchOption o (offered_from plan m S group.Stages from ≡ []) (λ x. Skips plan m S group.Stages from x))
      (sym all) (stages_by from o))

  pub group_answer : (g h : Group) (from : ℕ) (o : Option ℕ) → h ≡ g → MatchOption o (offered_from plan m S h from ≡ []) (λ x. Skips plan m S h from x) → MatchOption o (offered_from plan m S g from ≡ []) (λ x. Skips plan m S g from x)
  group_answer g h from o is found = subst (λ x. MatchOption o (offered_from plan m S x from ≡ []) (λ y. Skips plan m S x from y)) is found

  due_answer_by : (cpu : ℕ) (r : Rank) (q from : ℕ) (o : Option ℕ) → from < places_in plan S (group.StartsFor cpu r q) → places_in plan S (group.StartsFor cpu r q) ≤ 2 ^ 32
      → MatchOption o (NoneFrom (is_due_at plan S r q) from (places_for plan S r q)) (λ x. IsNext (is_due_at plan S r q) from (places_for plan S r q) x)
      → MatchOption o (offered_from plan m S (group.StartsFor cpu r q) from ≡ []) (λ x. Skips plan m S (group.StartsFor cpu r q) from x)
  due_answer_by cpu r q from None below few h = next_ends plan m S (group.StartsFor cpu r q) (is_due_at plan S r q) (not_due plan m S cpu r q) from below h
  due_answer_by cpu r q from (Some x) below few h = next_skips plan m S (group.StartsFor cpu r q) (is_due_at plan S r q) (not_due plan m S cpu r q) from x few h

  pub due_answer : (g : Group) (cpu : ℕ) (r : Rank) (q from end : ℕ) (o : Option ℕ) → group.StartsFor cpu r q ≡ g → end ≡ places_in plan S g → from < end → end ≤ 2 ^ 32
      → MatchOption o (NoneFrom (is_due_at plan S r q) from end) (λ x. IsNext (is_due_at plan S r q) from end x) → MatchOption o (offered_from plan m S g from ≡ []) (λ x. Skips plan m S g from x)
  due_answer g cpu r q from end o is =
      subst
      (λ h. end ≡ places_in plan S h → from < end → end ≤ 2 ^ 32
      → MatchOption o (NoneFrom (is_due_at plan S r q) from end) (λ x. IsNext (is_due_at plan S r q) from end x) → MatchOption o (offered_from plan m S h from ≡ []) (λ x. Skips plan m S h from x))
      is
      (λ all. subst
      (λ n. from < n → n ≤ 2 ^ 32
      → MatchOption o (NoneFrom (is_due_at plan S r q) from n) (λ x. IsNext (is_due_at plan S r q) from n x) → MatchOption o (offered_from plan m S (group.StartsFor cpu r q) from ≡ []) (λ x. Skips plan m S (group.StartsFor cpu r q) from x))
      (sym all) (due_answer_by cpu r q from o))
