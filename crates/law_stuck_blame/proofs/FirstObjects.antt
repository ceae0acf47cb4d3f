-- No earlier cause of the row of an object that is being deleted is so; and a child that it names goes before it.
use Rattle.std.proofs.Common.{if◌then◌else◌, ◌≡◌, inl, inr, ℕ, ◌==◌, Bool, true, false, not, ◌&&◌, ◌||◌, nat_lt, List, [], ◌∷◌, ◌++◌, Option, Some, None, is_some, filter, refl, ◌∙◌, subst, eqb-true}
use Rattle.std.specs.Prelude.{option_map}
use Rattle.std.proofs.lemmas.Bool.{and_parts, or_cases}
use Rattle.wdf_base.specs.declared.plan.Plan.{Plan}
use Rattle.wdf_base.specs.declared.ids.Handle.{Handle}
use Rattle.wdf_base.specs.declared.object.Place.{Place}
use Rattle.wdf_base.specs.declared.object.Place.TheVariants as place
use Rattle.wdf_base.specs.declared.wait.Cause.{Cause}
use Rattle.wdf_base.specs.declared.wait.Cause.TheVariants as cause
use Rattle.wdf_base.specs.declared.wait.OpenThing.TheVariants as thing
use Rattle.wdf_base.specs.Lives.{is_asked, is_cleaned, is_past_cleanup}
use Rattle.wdf_base.specs.Places.{is_sent_to}
use Rattle.wdf_model.specs.Ids.{frame_id}
use Rattle.wdf_model.specs.Tables.{ids_of, least}
use Rattle.wdf_model.specs.parts.Tree.{children, is_child, life_of, parent_of, references_of, younger_siblings}
use Rattle.wdf_model.specs.parts.Cpus.{all_frames, frame_of, is_on}
use Rattle.wdf_model.specs.parts.Locks.{object_lock}
use Rattle.wdf_model.specs.parts.Requests.{place_of}
use Rattle.wdf_model.specs.parts.Targets.{is_undone}
use Rattle.wdf_model.specs.State.{State, handle_in, waits_for}
use Rattle.wdf_model.specs.rules.Waits.{at_target, by_frame, cause_if, children_first, frames_where, holders_of, not_cleaned, object_cause, object_cpus, references_cause, target_of_place, users, users_that_keep, waits_for_younger}
use Rattle.wdf_model.proofs.Tests.{both, both_left, both_right, first, second}
use Rattle.law_stuck_causes.specs.Causes.{has_lock, is_there, runs_on, uses}
use Rattle.law_stuck_causes.proofs.Members.{Has, has_back, has_front, has_id, has_kept as has_passed}
use Rattle.law_stuck_causes.proofs.Gives.{Gives, gives_first, gives_frame, gives_if, gives_map, has_either, has_kept, least_has}
use Rattle.law_stuck_causes.proofs.Forms.{none_left}
use Rattle.law_stuck_objects.specs.Deleted.{finds_no_cpu}
use Rattle.law_stuck_blame.specs.Blame.{goes_first, is_blamed, place_in_row}
use Rattle.law_stuck_blame.proofs.Rows.{IsFirstOf, IsThere, first_in, placed_if, placed_map, there_if}
use Rattle.law_stuck_blame.proofs.There.{child_there, frame_on, lock_by, some_least}

module _ {A : Type 0} (plan : Plan) (S : State A) (o : ℕ) where
  -- ---- children and siblings

  abbrev is_ahead : ℕ → Bool
  is_ahead x = is_child S.tree o x || (is_asked (life_of S.tree (parent_of S.tree o)) && is_child S.tree (parent_of S.tree o) x && nat_lt o x)

  younger_by : (x : ℕ) (b : Bool) → is_asked (life_of S.tree (parent_of S.tree o)) ≡ b → (b && is_child S.tree (parent_of S.tree o) x && nat_lt o x) ≡ true → Has x (if b then younger_siblings S.tree o else [])
  younger_by x true e h =
      let parts = and_parts (is_child S.tree (parent_of S.tree o) x) (nat_lt o x) h in
      has_passed (nat_lt o) x (children S.tree (parent_of S.tree o)) (child_there S (parent_of S.tree o) x parts.0) parts.1
  younger_by x false e h = absurd (let z : ⊥ = cc in z)

  ahead_there : (x : ℕ) → is_ahead x ≡ true → Has x (children S.tree o ++ waits_for_younger S o)
  ahead_there x h = elim (or_cases (is_child S.tree o x) (is_asked (life_of S.tree (parent_of S.tree o)) && is_child S.tree (parent_of S.tree o) x && nat_lt o x) h) as (λ _. Has x (children S.tree o ++ waits_for_younger S o)) [
    | inl k ↦ has_front x (children S.tree o) (waits_for_younger S o) (child_there S o x k)
    | inr k ↦ has_back x (children S.tree o) (waits_for_younger S o) (younger_by x (is_asked (life_of S.tree (parent_of S.tree o))) refl k)
  ]

  child_in : (x : ℕ) (b : Bool) → is_cleaned (life_of S.tree o) ≡ b → (if b then is_child S.tree o x else is_ahead x && not (is_past_cleanup (life_of S.tree x))) ≡ true
      → Has x (if b then children S.tree o else not_cleaned S (children S.tree o ++ waits_for_younger S o))
  child_in x true e h = child_there S o x h
  child_in x false e h =
      let parts = and_parts (is_ahead x) (not (is_past_cleanup (life_of S.tree x))) h in
      has_passed (λ y. not (is_past_cleanup (life_of S.tree y))) x (children S.tree o ++ waits_for_younger S o) (ahead_there x parts.0) parts.1

  is_its_child : (p x : ℕ) → Has x (children S.tree p) → is_child S.tree p x ≡ true
  is_its_child p x h = (has_kept (is_child S.tree p) x (ids_of S.tree.nodes) h).0

  younger_so : (x : ℕ) (b : Bool) → is_asked (life_of S.tree (parent_of S.tree o)) ≡ b → Has x (if b then younger_siblings S.tree o else [])
      → (b && is_child S.tree (parent_of S.tree o) x && nat_lt o x) ≡ true
  younger_so x true e h =
      let kept = has_kept (nat_lt o) x (children S.tree (parent_of S.tree o)) h in
      both (is_child S.tree (parent_of S.tree o) x) (nat_lt o x) (is_its_child (parent_of S.tree o) x kept.1) kept.0
  younger_so x false e h = absurd h

  ahead_so : (x : ℕ) → Has x (children S.tree o ++ waits_for_younger S o) → is_ahead x ≡ true
  ahead_so x h = elim (has_either x (children S.tree o) (waits_for_younger S o) h) as (λ _. is_ahead x ≡ true) [
    | inl k ↦ first (is_child S.tree o x) (is_asked (life_of S.tree (parent_of S.tree o)) && is_child S.tree (parent_of S.tree o) x && nat_lt o x) (is_its_child o x k)
    | inr k ↦ second (is_child S.tree o x) (is_asked (life_of S.tree (parent_of S.tree o)) && is_child S.tree (parent_of S.tree o) x && nat_lt o x) (younger_so x (is_asked (life_of S.tree (parent_of S.tree o))) refl k)
  ]

  child_goes : (x : ℕ) (b : Bool) → is_cleaned (life_of S.tree o) ≡ b → Has x (if b then children S.tree o else not_cleaned S (children S.tree o ++ waits_for_younger S o))
      → (if b then is_child S.tree o x else is_ahead x && not (is_past_cleanup (life_of S.tree x))) ≡ true
  child_goes x true e h = is_its_child o x h
  child_goes x false e h =
      let kept = has_kept (λ y. not (is_past_cleanup (life_of S.tree y))) x (children S.tree o ++ waits_for_younger S o) h in
      both (is_ahead x) (not (is_past_cleanup (life_of S.tree x))) (ahead_so x kept.1) kept.0

  -- ---- frames

  used_there : (f : ℕ) → uses S o f ≡ true → Has f (users S o)
  used_there f h =
      let on : List ℕ = filter (is_on S.cpus o) (all_frames S.cpus) in
      let held : List ℕ = holders_of S (Some (object_lock o)) in
      let waiting : List ℕ = frames_where S (λ frame. waits_for o frame.pending) in
      elim (or_cases (runs_on S o f || has_lock S (object_lock o) f) (is_there S f && waits_for o (frame_of S.cpus f).pending) h) as (λ _. Has f (users S o)) [
        | inl k ↦ elim (or_cases (runs_on S o f) (has_lock S (object_lock o) f) k) as (λ _. Has f (users S o)) [
          | inl runs ↦ has_front f (on ++ held) waiting (has_front f on held (frame_on S o f runs))
          | inr lock ↦ has_front f (on ++ held) waiting (has_back f on held (lock_by S (object_lock o) f lock))
        ]
        | inr k ↦
            let parts = and_parts (is_there S f) (waits_for o (frame_of S.cpus f).pending) k in
            has_back f (on ++ held) waiting (has_passed (λ g. waits_for o (frame_of S.cpus g).pending) f (all_frames S.cpus) (has_id f (all_frames S.cpus) parts.0) parts.1)
      ]

  user_in : (f : ℕ) (b : Bool) → is_cleaned (life_of S.tree o) ≡ b → (uses S o f && (not b || runs_on S o f)) ≡ true → Has f (if b then filter (is_on S.cpus o) (all_frames S.cpus) else users S o)
  user_in f true e h = frame_on S o f (both_right (uses S o f) (runs_on S o f) h)
  user_in f false e h = used_there f (both_left (uses S o f) true h)

  -- ---- references, processors and targets

  references_by : (cleaned : Bool) (n m : ℕ) (b : Bool) → (n == m) ≡ b → (cleaned && b && nat_lt 0 n) ≡ true → (cleaned && nat_lt 0 m) ≡ true
  references_by true n m true e h = subst (λ k. nat_lt 0 k ≡ true) (eqb-true n m e) h
  references_by true n m false e h = absurd (let z : ⊥ = cc in z)
  references_by false n m b e h = absurd (let z : ⊥ = cc in z)

  cpus_are : object_cpus plan S o ≡ finds_no_cpu plan S o
  cpus_are = rw (none_left plan S 0, none_left plan S 2) refl

  abbrev place_of_it : Cause → ℕ
  place_of_it y = place_in_row plan S (thing.Leaving (handle_in plan S o)) y

  abbrev so_of_it : Cause → Bool
  so_of_it y = is_blamed plan S (thing.Leaving (handle_in plan S o)) y

  target_placed : (b : Bool) (p : Place) (c : Cause) → (if b then option_map (λ t. cause.AtTarget (handle_in plan S t)) (target_of_place p) else None) ≡ Some c → place_of_it c ≡ 4
  target_placed true p c e = placed_map place_of_it 4 (λ t. cause.AtTarget (handle_in plan S t)) (target_of_place p) (λ t. refl) c e
  target_placed false p c e = absurd (let z : ⊥ = cc in z)

  sent_somewhere : (t : ℕ) (p : Place) (b : Bool) → (is_sent_to t p && b) ≡ true → is_some (if b then option_map (λ u. cause.AtTarget (handle_in plan S u)) (target_of_place p) else None) ≡ true
  sent_somewhere t (place.Sent u) true h = refl
  sent_somewhere t p true h = absurd (let z : ⊥ = cc in z)
  sent_somewhere t p false h = absurd (let never : false ≡ true = both_right (is_sent_to t p) false h in let z : ⊥ = cc in z)

  -- ---- the row

  abbrev row_of_it : List (Option Cause)
  row_of_it =
      references_cause S o
      ∷ option_map (λ x. cause.ByChild (handle_in plan S x)) (least (children_first S o))
      ∷ by_frame (users_that_keep S o)
      ∷ cause_if (object_cpus plan S o) cause.NoCpu
      ∷ at_target plan S o
      ∷ []

  there_of_it : (y : Cause) → so_of_it y ≡ true → IsThere place_of_it row_of_it y
  there_of_it (cause.References n) h =
      (references_cause S o, 0, refl, refl, there_if (is_cleaned (life_of S.tree o) && nat_lt 0 (references_of S.tree o)) (cause.References (references_of S.tree o)) (references_by (is_cleaned (life_of S.tree o)) n (references_of S.tree o) (n == references_of S.tree o) refl h))
  there_of_it (cause.ByChild x) h = (
    option_map (λ y. cause.ByChild (handle_in plan S y)) (least (children_first S o)),
    1,
    refl,
    refl,
    some_least (λ y. cause.ByChild (handle_in plan S y)) x.id.0 (children_first S o) (child_in x.id.0 (is_cleaned (life_of S.tree o)) refl h),
  )
  there_of_it (cause.ByFrame f) h = (by_frame (users_that_keep S o), 2, refl, refl, some_least (λ g. cause.ByFrame (frame_id g)) f.0 (users_that_keep S o) (user_in f.0 (is_cleaned (life_of S.tree o)) refl h))
  there_of_it cause.NoCpu h = (cause_if (object_cpus plan S o) cause.NoCpu, 3, refl, refl, there_if (object_cpus plan S o) cause.NoCpu (cpus_are ∙ h))
  there_of_it (cause.AtTarget t) h = (at_target plan S o, 4, refl, refl, sent_somewhere t.id.0 (place_of S.requests o) (is_undone S.targets o) h)
  there_of_it _ h = absurd (let z : ⊥ = cc in z)

  pub object_first : IsFirstOf (λ y. is_blamed plan S (thing.Leaving (handle_in plan S o)) y) (λ y. place_in_row plan S (thing.Leaving (handle_in plan S o)) y) (object_cause plan S o)
  object_first = first_in so_of_it place_of_it row_of_it (
    λ c e. placed_if place_of_it 0 (is_cleaned (life_of S.tree o) && nat_lt 0 (references_of S.tree o)) (cause.References (references_of S.tree o)) refl c e,
    (
      λ c e. placed_map place_of_it 1 (λ x. cause.ByChild (handle_in plan S x)) (least (children_first S o)) (λ k. refl) c e,
      (
        λ c e. placed_map place_of_it 2 (λ g. cause.ByFrame (frame_id g)) (least (users_that_keep S o)) (λ k. refl) c e,
        (
          λ c e. placed_if place_of_it 3 (object_cpus plan S o) cause.NoCpu refl c e,
          (
            λ c e. target_placed (is_undone S.targets o) (place_of S.requests o) c e,
            tt,
          ),
        ),
      ),
    ),
  ) there_of_it

  -- ---- the child that it names

  abbrev child_test : Cause → Bool
  child_test (cause.ByChild x) = goes_first S o x.id.0
  child_test _ = true

  target_passes : (b : Bool) (p : Place) → Gives child_test (if b then option_map (λ t. cause.AtTarget (handle_in plan S t)) (target_of_place p) else None)
  target_passes true p = gives_map child_test (λ t. cause.AtTarget (handle_in plan S t)) (target_of_place p) (λ t e. refl)
  target_passes false p = λ x e. absurd (let z : ⊥ = cc in z)

  child_gives : Gives child_test (object_cause plan S o)
  child_gives = gives_first child_test row_of_it (
    gives_if child_test (is_cleaned (life_of S.tree o) && nat_lt 0 (references_of S.tree o)) (cause.References (references_of S.tree o)) (λ h. refl),
    (
      gives_map child_test (λ x. cause.ByChild (handle_in plan S x)) (least (children_first S o)) (λ x e. child_goes x (is_cleaned (life_of S.tree o)) refl (least_has (children_first S o) x e)),
      (
        gives_frame child_test (users_that_keep S o) (λ f h. refl),
        (
          gives_if child_test (object_cpus plan S o) cause.NoCpu (λ h. refl),
          (
            target_passes (is_undone S.targets o) (place_of S.requests o),
            tt,
          ),
        ),
      ),
    ),
  )

  pub child_first : (x : Handle) → object_cause plan S o ≡ Some (cause.ByChild x) → goes_first S o x.id.0 ≡ true
  child_first x e = child_gives (cause.ByChild x) e
