-- The line of an object that is being deleted always has a cause.
use Rattle.std.proofs.Common.{if◌then◌else◌, ◌≡◌, ◌≢◌, ℕ, zero, suc, ◌+◌, ◌==◌, ◌<◌, ◌≤◌, nat_lt, Bool, true, false, not, ◌&&◌, ◌||◌, List, [], ◌∷◌, inl, inr, Option, Some, None, is_some, count_by, find, length, slice_get, refl, sym, ap, ◌∙◌, arith}
use Rattle.std.specs.Prelude.{option_and_then, option_map}
use Rattle.std.specs.List.{list_all}
use Rattle.std.proofs.lemmas.Bool.{eqb-true}
use Rattle.wdf_base.specs.Meaning.{Meaning}
use Rattle.wdf_base.specs.Plan.{declared_of}
use Rattle.wdf_base.specs.Resolved.{IsResolved, declared_complete}
use Rattle.wdf_base.specs.Same.{same_kind}
use Rattle.wdf_base.specs.declared.plan.Plan.{Plan}
use Rattle.wdf_base.specs.declared.ids.Handle.{Handle}
use Rattle.wdf_base.specs.declared.ids.ObjectId.{ObjectId}
use Rattle.wdf_base.specs.declared.call.Callback.TheVariants as callback
use Rattle.wdf_base.specs.declared.declared.Declared.{Declared}
use Rattle.wdf_base.specs.declared.declared.Declared.TheVariants as declared
use Rattle.wdf_base.specs.declared.declared.TargetInfo.{TargetInfo}
use Rattle.wdf_base.specs.declared.event.Event.{Event}
use Rattle.wdf_base.specs.declared.event.Ending.TheVariants as ending
use Rattle.wdf_base.specs.declared.object.Kind.TheVariants as kind
use Rattle.wdf_base.specs.declared.object.Place.{Place}
use Rattle.wdf_base.specs.declared.object.Place.TheVariants as place
use Rattle.wdf_base.specs.declared.rank.Rank.TheVariants as rank
use Rattle.wdf_base.specs.declared.value.Status.{Status}
use Rattle.wdf_base.specs.declared.wait.Cause.{Cause}
use Rattle.wdf_base.specs.declared.wait.Cause.TheVariants as cause
use Rattle.wdf_base.specs.declared.wait.OpenThing.TheVariants as thing
use Rattle.wdf_base.specs.Lives.{is_asked, is_cleaned, is_gone, is_live}
use Rattle.wdf_base.specs.Places.{is_done, is_sent, is_sent_to}
use Rattle.wdf_model.specs.declared.entries.Sending.{Sending}
use Rattle.wdf_model.specs.declared.enums.Group.TheVariants as group
use Rattle.wdf_model.specs.Tables.{flag, least}
use Rattle.wdf_model.specs.Plans.{as_target, declared_ids, declares, script_on, target_of, targets_of}
use Rattle.wdf_model.specs.parts.Tree.{gone, kind_of, life_of, made_as, next_id, node_of, started}
use Rattle.wdf_model.specs.parts.Requests.{place_of}
use Rattle.wdf_model.specs.parts.Targets.{Targets, is_at_target, is_undone, is_undone_sending, routine_due, routine_outcome, sending_of, the_target}
use Rattle.wdf_model.specs.State.{State, declares_in, handle_in, is_proper, nothing_at}
use Rattle.wdf_model.specs.rules.Groups.{candidates, groups_of_rank, RANKS, starts_for}
use Rattle.wdf_model.specs.rules.Ready.{IsRunOf, ending_of, state_after}
use Rattle.wdf_model.specs.rules.Starts.{clean_ready, destroy_ready, is_finished, level_fits, may_start}
use Rattle.wdf_model.specs.rules.Steps.{may}
use Rattle.wdf_model.specs.rules.Waits.{at_target, by_frame, cause_if, children_first, no_cpu, object_cause, object_cpus, references_cause, target_of_place, users_that_keep, wait_list}
use Rattle.wdf_model.proofs.Tests.{all_four, both, either_false, first, itself, second}
use Rattle.wdf_model.proofs.Counts.{count_no, found_at_its_target, not_equal}
use Rattle.law_machine_base.proofs.Kept.{is_request}
use Rattle.law_machine_counts.proofs.StillFrames.{asked_there, live_there}
use Rattle.law_machine_lives.proofs.Lists.{all_at, inside}
use Rattle.law_stuck_causes.proofs.Members.{Has, has_flat, has_image, has_kept, has_range}
use Rattle.law_stuck_causes.proofs.Endings.{AtRest, at_rest, may_not}
use Rattle.law_stuck_causes.proofs.Needs.{below_cpus, cpu_group, free_one, none_first, none_if, object_named, placed_at, some_or}
use Rattle.law_stuck_named_if.proofs.Presents.{declared_within}
use Rattle.law_trace_power.proofs.Belonging.{target_found}
use Rattle.law_stuck_named.proofs.Lines.{line_tells}
use Rattle.law_stuck_named.proofs.Runs.{Known, known_now}
use Rattle.law_stuck_causes.proofs.Conjuncts.{five}
use Rattle.law_stuck_objects.proofs.Runs.{GoesWell, goes_well}
use Rattle.law_stuck_objects.proofs.Sendings.{comes_or_waits}
use Rattle.law_stuck_objects.proofs.Places.{nothing_there, request_done}
use Rattle.law_machine_counts.proofs.Trees.{cleaned_there}
use Rattle.law_stuck_named.proofs.Works.{asked_off}

-- ---- lists

-- where something passes a test, the first that does, and its place
record First {T : Type 0} (p : T → Bool) (xs : List T) : Type 0 where
  it : T
  at : ℕ
  there : slice_get xs at ≡ Some it
  low : at < length xs
  passes : p it ≡ true
  found : find p xs ≡ Some it

finds : {T : Type 0} (p : T → Bool) (x : T) (xs : List T) (b : Bool) → p x ≡ b → find p (x ∷ xs) ≡ (if b then Some x else find p xs)
finds p x xs b e = ap (λ c. if c then Some x else find p xs) e

first_by : {T : Type 0} (p : T → Bool) (x : T) (xs : List T) (b : Bool) → p x ≡ b → 1 ≤ count_by p (x ∷ xs) → (1 ≤ count_by p xs → First p xs) → First p (x ∷ xs)
first_by p x xs true e h rest = record { it = x; at = 0; there = refl; low = omega arith; passes = e; found = finds p x xs true e }
first_by p x xs false e h rest =
    let none = count_no p x xs e in
    let f = rest (omega arith) in
    let low = f.low in
    record { it = f.it; at = suc f.at; there = f.there; low = omega arith; passes = f.passes; found = finds p x xs false e ∙ f.found }

first_of : {T : Type 0} (p : T → Bool) (xs : List T) → 1 ≤ count_by p xs → First p xs
first_of p [] h = absurd (omega arith)
first_of p (x ∷ xs) h = first_by p x xs (p x) refl h (first_of p xs)

-- ---- tests

there_by : (asked cleaned gone : Bool) → (asked || cleaned) ≡ true → (asked ≡ true → gone ≡ false) → (cleaned ≡ true → gone ≡ false) → gone ≡ false
there_by true c g h k l = k refl
there_by false true g h k l = l refl
there_by false false g h k l = absurd (let z : ⊥ = cc in z)

sent_where : (p : Place) → is_sent p ≡ true → (t : ObjectId) × (p ≡ place.Sent t)
sent_where (place.Sent t) h = (t, refl)
sent_where _ h = absurd (let z : ⊥ = cc in z)

no_target_cause : (b : Bool) (c : Cause) → (if b then Some c else None) ≡ None → b ≡ false
no_target_cause true c h = absurd (let z : ⊥ = cc in z)
no_target_cause false c h = refl

no_routine_cpu : (a b c d : Bool) → ((a && b) || (c && d)) ≡ false → c ≡ true → d ≡ false
no_routine_cpu a b true d h e = (either_false (a && b) d h).1
no_routine_cpu a b false d h e = absurd (let z : ⊥ = cc in z)

none_some : (o : Option Cause) → o ≡ None → is_some o ≡ true → ⊥
none_some None e h = let z : ⊥ = cc in z
none_some (Some x) e h = let z : ⊥ = cc in z

-- ---- a target of the plan has its completion routine

complete_by : (plan : Plan) (ds : List Declared) (k : ℕ) (d : Declared) → list_all (declared_complete plan) ds ≡ true → slice_get ds k ≡ Some d → declared_complete plan d ≡ true
complete_by plan ds k d h e = all_at (declared_complete plan) ds k d h e

target_complete : (plan : Plan) (t : ℕ) (i : TargetInfo) → IsResolved plan → declared_of plan t ≡ Some (declared.Target i) → declares plan callback.EvtRequestCompletion t ≡ true
target_complete plan zero i resolved e = absurd (let z : ⊥ = cc in z)
target_complete plan (suc k) i resolved e = ap (λ d. is_some (script_on plan callback.EvtRequestCompletion d)) e ∙ complete_by plan plan.declared k (declared.Target i) resolved.declared_complete e

module _ {A : Type 0} (plan : Plan) (m : Meaning A) (run : List Event) (resolved : IsResolved plan) (is_run : IsRunOf plan m run) (ends : ending_of plan m run ≡ ending.Stuck) where
  abbrev S : State A
  S = state_after plan m run

  rest : AtRest plan m (state_after plan m run) true
  rest = at_rest plan m run true ends

  known : Known plan (state_after plan m run)
  known = known_now plan m resolved run is_run

  well : GoesWell plan (state_after plan m run)
  well = goes_well plan m run resolved is_run

  -- ---- a request that the driver made and sent

  target_is : (t : ℕ) (x : Option TargetInfo) → target_of plan t ≡ x → is_some x ≡ true → (i : TargetInfo) × (declared_of plan t ≡ Some (declared.Target i))
  target_is t None e h = absurd (let z : ⊥ = cc in z)
  target_is t (Some i) e h = (i, target_found (declared_of plan t) i e)

  -- a live target has its completion routine
  routine_there : (t : ℕ) (i : TargetInfo) → declared_of plan t ≡ Some (declared.Target i) → is_live (life_of S.tree t) ≡ true → declares_in plan S callback.EvtRequestCompletion t ≡ true
  routine_there t i at live =
      let k : kind_of S.tree t ≡ kind.Target = (known.facts.declared t (declared.Target i) at (live_there (life_of S.tree t) live)).1 in
      ap (λ y. is_some (script_on plan callback.EvtRequestCompletion (made_as plan (node_of S.tree t) t y))) k ∙ target_complete plan t i resolved at

  -- what is found of a request that is sent
  found_sending : (o t : ℕ) → is_sent_to t (place_of S.requests o) ≡ true → ((u : ℕ) → u ≢ t → is_sent_to u (place_of S.requests o) ≡ false) → First (λ (s : Sending). s.request.0 == o) (the_target S.targets t).sent
  found_sending o t there other =
      let n = known.placed.sent t o in
      let one : flag (is_sent_to t (place_of S.requests o)) ≡ 1 = ap flag there in
      first_of (λ (s : Sending). s.request.0 == o) (the_target S.targets t).sent (omega arith)

  same_sending : (o t : ℕ) (f : First (λ (s : Sending). s.request.0 == o) (the_target S.targets t).sent) → ((u : ℕ) → u ≢ t → is_sent_to u (place_of S.requests o) ≡ false) → sending_of S.targets o ≡ Some f.it
  same_sending o t f other =
      found_at_its_target o S.targets.targets t (λ u n. known.placed.sent u o ∙ ap flag (other u n)) ∙ f.found

  -- where its target is done with it, its completion routine starts on a processor that can take it
  no_routine : (o t : ℕ) (i : TargetInfo) → declared_of plan t ≡ Some (declared.Target i) → is_live (life_of S.tree t) ≡ true → is_sent_to t (place_of S.requests o) ≡ true → is_some (routine_due S.targets o) ≡ true
      → First (λ (s : Sending). s.request.0 == o) (the_target S.targets t).sent → no_cpu plan S 2 ≡ false → ⊥
  no_routine o t i at live there due f free =
      let left = free_one (λ cpu. level_fits S cpu 2) 0 plan.cpus free in
      let low : left.0 < 0 + plan.cpus = left.1 in
      let within : left.0 < plan.cpus = omega arith in
      let e : Event = starts_for plan S left.0 callback.EvtRequestCompletion t o in
      let is : is_some (target_of plan t) ≡ true = ap (λ d. is_some (as_target d)) at in
      let some : is_some (declared_of plan t) ≡ true = ap (λ d. is_some d) at in
      let inside_ = declared_within plan t some in
      let of_plan : Has t (targets_of plan) = has_kept (λ id. is_some (target_of plan id)) t (declared_ids plan) (has_range t 0 (suc (length plan.declared)) (omega arith) (omega arith)) is in
      let place_low = f.low in
      let here : option_map (λ (s : Sending). starts_for plan S left.0 callback.EvtRequestCompletion t s.request.0) (slice_get (the_target S.targets t).sent f.at) ≡ Some e =
      ap (option_map (λ (s : Sending). starts_for plan S left.0 callback.EvtRequestCompletion t s.request.0)) f.there ∙ ap (λ r. Some (starts_for plan S left.0 callback.EvtRequestCompletion t r)) (eqb-true f.it.request.0 o f.passes) in
      let offered : Has e (candidates plan m S) =
      cpu_group plan m S left.0 (group.StartsFor left.0 rank.Completion t) e within
      (inr (inr (inr (has_flat (groups_of_rank plan left.0) rank.Completion (group.StartsFor left.0 rank.Completion t) RANKS (inr (inr (inr (inl refl)))) (has_image (λ o. group.StartsFor left.0 rank.Completion o) t (targets_of plan) of_plan)))))
      (placed_at plan m S (group.StartsFor left.0 rank.Completion t) (length (the_target S.targets t).sent) f.at e place_low here) in
      let no : may plan m S e ≡ false = may_not plan m S true e rest offered in
      let comes : may plan m S e ≡ true =
      all_four (nat_lt left.0 plan.cpus) (is_proper plan S (handle_in plan S t)) (is_proper plan S (handle_in plan S o)) (may_start plan m S left.0 callback.EvtRequestCompletion t (Some (handle_in plan S o)))
      (below_cpus left.0 plan.cpus within) (itself (handle_in plan S t).name) (itself (handle_in plan S o).name)
      (five (declares_in plan S callback.EvtRequestCompletion t) (is_live (life_of S.tree t)) (level_fits S left.0 2) true (is_sent_to t (place_of S.requests o) && is_some (routine_due S.targets o))
      (routine_there t i at live) live left.2 refl (both (is_sent_to t (place_of S.requests o)) (is_some (routine_due S.targets o)) there due)) in
      let z : ⊥ = cc in z

  waits_or_due : (T : Targets) (o : ℕ) (s : Sending) → sending_of T o ≡ Some s → comes_or_waits s ≡ true → is_undone T o ≡ false → is_some (routine_due T o) ≡ true
  waits_or_due T o s e h off =
      let outcome_ : is_at_target s.outcome ≡ false = sym (ap is_undone_sending e) ∙ off in
      ap (λ x. is_some (option_and_then routine_outcome x)) e ∙ by s.forgotten s.outcome refl refl h outcome_
    where
      by : (b : Bool) (x : Option Status) → s.forgotten ≡ b → s.outcome ≡ x → (not s.forgotten || is_at_target s.outcome) ≡ true → is_at_target s.outcome ≡ false → is_some (if s.forgotten then None else s.outcome) ≡ true
      by true x k l g w = absurd (let yes : is_at_target s.outcome ≡ true = rw k at g in let z : ⊥ = cc in z)
      by false None k l g w = absurd (let yes : is_at_target s.outcome ≡ true = rw l refl in let z : ⊥ = cc in z)
      by false (Some v) k l g w = rw (k, l) refl

  sent_waits : (o : ℕ) (t : ObjectId) → place_of S.requests o ≡ place.Sent t → object_cause plan S o ≡ None → ⊥
  sent_waits o t at none =
      let there : is_sent_to t.0 (place_of S.requests o) ≡ true = ap (is_sent_to t.0) at ∙ itself t.0 in
      let other : (u : ℕ) → u ≢ t.0 → is_sent_to u (place_of S.requests o) ≡ false = λ u n. ap (is_sent_to u) at ∙ not_equal t.0 u (λ e. n (sym e)) in
      let f = found_sending o t.0 there other in
      let it = same_sending o t.0 f other in
      let n = known.placed.sent t.0 o in
      let one : flag (is_sent_to t.0 (place_of S.requests o)) ≡ 1 = ap flag there in
      let live : is_live (life_of S.tree t.0) ≡ true = well.sent.lives t.0 o (omega arith) in
      let i = target_is t.0 (target_of plan t.0) refl (well.sent.targets t.0 o (omega arith)) in
      let all_four = at_target plan S o ∷ [] in
      let three = cause_if (object_cpus plan S o) cause.NoCpu ∷ all_four in
      let two = by_frame (users_that_keep S o) ∷ three in
      let one_ = option_map (λ x. cause.ByChild (handle_in plan S x)) (least (children_first S o)) ∷ two in
      let a = none_first (references_cause S o) one_ none in
      let b = none_first (option_map (λ x. cause.ByChild (handle_in plan S x)) (least (children_first S o))) two a.1 in
      let c = none_first (by_frame (users_that_keep S o)) three b.1 in
      let d = none_first (cause_if (object_cpus plan S o) cause.NoCpu) all_four c.1 in
      let last = none_first (at_target plan S o) [] d.1 in
      let cpus : object_cpus plan S o ≡ false = none_if (object_cpus plan S o) cause.NoCpu d.0 in
      let shown : (if is_undone S.targets o then Some (cause.AtTarget (handle_in plan S t.0)) else None) ≡ None =
      sym (ap (λ p. if is_undone S.targets o then option_map (λ x. cause.AtTarget (handle_in plan S x)) (target_of_place p) else None) at) ∙ last.0 in
      let done : is_undone S.targets o ≡ false = no_target_cause (is_undone S.targets o) (cause.AtTarget (handle_in plan S t.0)) shown in
      let due : is_some (routine_due S.targets o) ≡ true = waits_or_due S.targets o f.it it (all_at comes_or_waits (the_target S.targets t.0).sent f.at f.it (well.fair t.0).sent f.there) done in
      let free : no_cpu plan S 2 ≡ false =
      no_routine_cpu
      ((clean_ready S o && declares_in plan S callback.EvtCleanupCallback o && not (started S.tree o callback.EvtCleanupCallback)) || (destroy_ready S o && declares_in plan S callback.EvtDestroyCallback o && not (started S.tree o callback.EvtDestroyCallback)))
      (no_cpu plan S 0) (is_some (routine_due S.targets o)) (no_cpu plan S 2) cpus due in
      no_routine o t.0 i.0 i.1 live there due f free

  -- ---- the law

  made_by : (o : ℕ) (b : Bool) → is_sent (place_of S.requests o) ≡ b → (b ≡ true → ⊥) → (not (same_kind (kind_of S.tree o) kind.Made) || not (is_sent (place_of S.requests o))) ≡ true
  made_by o true e h = absurd (h refl)
  made_by o false e h = second (not (same_kind (kind_of S.tree o) kind.Made)) (not (is_sent (place_of S.requests o))) (ap not e)

  request_by : (o : ℕ) (b : Bool) → is_request S.tree o ≡ b → is_live (life_of S.tree o) ≡ false → (not (same_kind (kind_of S.tree o) kind.Request) || is_done (place_of S.requests o)) ≡ true
  request_by o true e off = rw e (request_done plan m run resolved is_run o e off)
  request_by o false e off = rw e refl

  asked_named : (o : ℕ) → o < next_id S.tree → is_asked (life_of S.tree o) ≡ true → is_some (object_cause plan S o) ≡ true
  asked_named o low asked =
      some_or (object_cause plan S o) (λ none.
      let off : is_live (life_of S.tree o) ≡ false = asked_off (life_of S.tree o) asked in
      let made : (not (same_kind (kind_of S.tree o) kind.Made) || not (is_sent (place_of S.requests o))) ≡ true =
      made_by o (is_sent (place_of S.requests o)) refl (λ sent. let t = sent_where (place_of S.requests o) sent in sent_waits o t.0 t.1 none) in
      let finished : is_finished S o ≡ true =
      both (not (same_kind (kind_of S.tree o) kind.Request) || is_done (place_of S.requests o)) (not (same_kind (kind_of S.tree o) kind.Made) || not (is_sent (place_of S.requests o))) (request_by o (is_request S.tree o) refl off) made in
      let named : (is_cleaned (life_of S.tree o) || (is_finished S o && nothing_at S o)) ≡ true =
      second (is_cleaned (life_of S.tree o)) (is_finished S o && nothing_at S o) (both (is_finished S o) (nothing_at S o) finished (nothing_there plan m run resolved is_run o off)) in
      let some : is_some (object_cause plan S o) ≡ true = object_named plan m S rest o low (first (is_asked (life_of S.tree o)) (is_cleaned (life_of S.tree o)) asked) named in
      none_some (object_cause plan S o) none some)

  cleaned_named : (o : ℕ) → o < next_id S.tree → is_cleaned (life_of S.tree o) ≡ true → is_some (object_cause plan S o) ≡ true
  cleaned_named o low cleaned =
      object_named plan m S rest o low (second (is_asked (life_of S.tree o)) (is_cleaned (life_of S.tree o)) cleaned) (first (is_cleaned (life_of S.tree o)) (is_finished S o && nothing_at S o) cleaned)

  pub leaving_named : (k : ℕ) (o : Handle) (x : Option Cause) → slice_get (wait_list plan m run) k ≡ Some (record { thing = thing.Leaving o; cause = x }) → is_some x ≡ true
  leaving_named k o x h =
      let l = line_tells plan m run ends k (thing.Leaving o) x h in
      let there : is_gone (life_of S.tree o.id.0) ≡ false = there_by (is_asked (life_of S.tree o.id.0)) (is_cleaned (life_of S.tree o.id.0)) (is_gone (life_of S.tree o.id.0)) l.leaves (asked_there (life_of S.tree o.id.0)) (cleaned_there (life_of S.tree o.id.0)) in
      let low : o.id.0 < next_id S.tree = inside gone (λ n. not (is_gone n.life)) S.tree.nodes o.id.0 refl (ap not there) in
      ap is_some l.cause ∙ by (is_asked (life_of S.tree o.id.0)) (is_cleaned (life_of S.tree o.id.0)) refl refl l.leaves low
    where
      by : (a b : Bool) → is_asked (life_of S.tree o.id.0) ≡ a → is_cleaned (life_of S.tree o.id.0) ≡ b → (is_asked (life_of S.tree o.id.0) || is_cleaned (life_of S.tree o.id.0)) ≡ true → o.id.0 < next_id S.tree → is_some (object_cause plan S o.id.0) ≡ true
      by true b e f g low = asked_named o.id.0 low e
      by false true e f g low = cleaned_named o.id.0 low f
      by false false e f g low = absurd (let no : (is_asked (life_of S.tree o.id.0) || is_cleaned (life_of S.tree o.id.0)) ≡ false = rw (e, f) refl in let z : ⊥ = cc in z)
