-- What the lines of leaving objects name is so.
use Rattle.std.proofs.Common.{if◌then◌else◌, ◌≡◌, inl, inr, ℕ, ◌==◌, Bool, true, false, not, ◌&&◌, ◌||◌, nat_lt, [], ◌∷◌, ◌++◌, Some, None, filter, refl, ap}
use Rattle.std.specs.Prelude.{option_map}
use Rattle.std.proofs.lemmas.Option.{same_Some}
use Rattle.wdf_base.specs.declared.plan.Plan.{Plan}
use Rattle.wdf_base.specs.declared.object.Place.{Place}
use Rattle.wdf_base.specs.declared.object.Place.TheVariants as place
use Rattle.wdf_base.specs.declared.wait.Cause.TheVariants as cause
use Rattle.wdf_base.specs.Lives.{is_asked, is_cleaned, is_past_cleanup}
use Rattle.wdf_base.specs.Places.{is_sent_to}
use Rattle.wdf_model.specs.Tables.{ids_of, least}
use Rattle.wdf_model.specs.parts.Tree.{children, is_child, life_of, parent_of, references_of, younger_siblings}
use Rattle.wdf_model.specs.parts.Cpus.{all_frames, frame_of, is_on}
use Rattle.wdf_model.specs.parts.Locks.{object_lock}
use Rattle.wdf_model.specs.parts.Requests.{place_of}
use Rattle.wdf_model.specs.parts.Targets.{is_undone}
use Rattle.wdf_model.specs.State.{State, handle_in, waits_for}
use Rattle.wdf_model.specs.rules.Waits.{at_target, by_frame, cause_if, children_first, frames_where, holders_of, no_cpu, not_cleaned, object_cause, object_cpus, references_cause, target_of_place, users, users_that_keep, waits_for_younger}
use Rattle.wdf_model.proofs.Tests.{all_four, both, first, itself, not_true, second}
use Rattle.law_stuck_causes.specs.Causes.{has_lock, is_child_ahead, is_sibling_ahead, is_there, keeps_object, runs_on, uses}
use Rattle.law_stuck_causes.proofs.Members.{Has}
use Rattle.law_stuck_causes.proofs.Gives.{Gives, gives_first, gives_frame, gives_if, gives_map, gives_none, has_either, has_kept, it_contains, least_has}
use Rattle.law_stuck_causes.proofs.Forms.{lock_of_list, none_left, on_object}

-- ---- tests

child_by : (child cleaned past : Bool) → child ≡ true → (cleaned ≡ false → past ≡ false) → (child && (cleaned || not past)) ≡ true
child_by true true past h k = refl
child_by true false true h k = absurd (let e = k refl in let z : ⊥ = cc in z)
child_by true false false h k = refl
child_by false c p h k = h

-- ---- children and siblings

is_its_child : {A : Type 0} (S : State A) (o x : ℕ) → Has x (children S.tree o) → is_child S.tree o x ≡ true
is_its_child S o x h = (has_kept (is_child S.tree o) x (ids_of S.tree.nodes) h).0

sibling_by : {A : Type 0} (S : State A) (o x : ℕ) (b : Bool) → is_asked (life_of S.tree (parent_of S.tree o)) ≡ b → Has x (if b then younger_siblings S.tree o else []) → not (is_past_cleanup (life_of S.tree x)) ≡ true
    → is_sibling_ahead S o x ≡ true
sibling_by S o x true e h k =
    let kept = has_kept (nat_lt o) x (children S.tree (parent_of S.tree o)) h in
    all_four (is_asked (life_of S.tree (parent_of S.tree o))) (is_child S.tree (parent_of S.tree o) x) (nat_lt o x) (not (is_past_cleanup (life_of S.tree x))) e (is_its_child S (parent_of S.tree o) x kept.1) kept.0 k
sibling_by S o x false e h k = absurd h

child_so : {A : Type 0} (S : State A) (o x : ℕ) (b : Bool) → is_cleaned (life_of S.tree o) ≡ b → Has x (if b then children S.tree o else not_cleaned S (children S.tree o ++ waits_for_younger S o))
    → (is_child_ahead S o x || is_sibling_ahead S o x) ≡ true
child_so S o x true e h =
    first (is_child_ahead S o x) (is_sibling_ahead S o x)
    (child_by (is_child S.tree o x) (is_cleaned (life_of S.tree o)) (is_past_cleanup (life_of S.tree x)) (is_its_child S o x h) (λ f. let z : ⊥ = cc in absurd z))
child_so S o x false e h =
    let kept = has_kept (λ y. not (is_past_cleanup (life_of S.tree y))) x (children S.tree o ++ waits_for_younger S o) h in
    elim (has_either x (children S.tree o) (waits_for_younger S o) kept.1) as (λ _. (is_child_ahead S o x || is_sibling_ahead S o x) ≡ true) [
      | inl k ↦
          first (is_child_ahead S o x) (is_sibling_ahead S o x)
          (child_by (is_child S.tree o x) (is_cleaned (life_of S.tree o)) (is_past_cleanup (life_of S.tree x)) (is_its_child S o x k) (λ _. not_true (is_past_cleanup (life_of S.tree x)) kept.0))
      | inr k ↦ second (is_child_ahead S o x) (is_sibling_ahead S o x) (sibling_by S o x (is_asked (life_of S.tree (parent_of S.tree o))) refl k kept.0)
    ]

-- ---- frames

used : {A : Type 0} (S : State A) (o f : ℕ) → Has f (users S o) → uses S o f ≡ true
used S o f h =
    elim (has_either f (filter (is_on S.cpus o) (all_frames S.cpus) ++ holders_of S (Some (object_lock o))) (frames_where S (λ frame. waits_for o frame.pending)) h) as (λ _. uses S o f ≡ true) [
      | inl k ↦
          first (runs_on S o f || has_lock S (object_lock o) f) (is_there S f && waits_for o (frame_of S.cpus f).pending)
          (elim (has_either f (filter (is_on S.cpus o) (all_frames S.cpus)) (holders_of S (Some (object_lock o))) k) as (λ _. (runs_on S o f || has_lock S (object_lock o) f) ≡ true) [
            | inl l ↦ first (runs_on S o f) (has_lock S (object_lock o) f) (on_object S o f l)
            | inr l ↦ second (runs_on S o f) (has_lock S (object_lock o) f) (lock_of_list S (object_lock o) f l)
          ])
      | inr k ↦
          let kept = has_kept (λ g. waits_for o (frame_of S.cpus g).pending) f (all_frames S.cpus) k in
          second (runs_on S o f || has_lock S (object_lock o) f) (is_there S f && waits_for o (frame_of S.cpus f).pending)
          (both (is_there S f) (waits_for o (frame_of S.cpus f).pending) (it_contains f (all_frames S.cpus) kept.1) kept.0)
    ]

frame_keeps : {A : Type 0} (S : State A) (o f : ℕ) (b : Bool) → is_cleaned (life_of S.tree o) ≡ b → Has f (if b then filter (is_on S.cpus o) (all_frames S.cpus) else users S o)
    → (uses S o f && (not (is_cleaned (life_of S.tree o)) || runs_on S o f)) ≡ true
frame_keeps S o f true e h =
    let on = on_object S o f h in
    both (uses S o f) (not (is_cleaned (life_of S.tree o)) || runs_on S o f)
    (first (runs_on S o f || has_lock S (object_lock o) f) (is_there S f && waits_for o (frame_of S.cpus f).pending) (first (runs_on S o f) (has_lock S (object_lock o) f) on))
    (second (not (is_cleaned (life_of S.tree o))) (runs_on S o f) on)
frame_keeps S o f false e h =
    both (uses S o f) (not (is_cleaned (life_of S.tree o)) || runs_on S o f) (used S o f h)
    (first (not (is_cleaned (life_of S.tree o))) (runs_on S o f) (ap not e))

-- ---- processors and targets

taken_by : (a b zero_left two_left : Bool) → ((a && zero_left) || (b && two_left)) ≡ true → (zero_left || two_left) ≡ true
taken_by a b true t h = refl
taken_by a b false true h = refl
taken_by true true false false h = h
taken_by true false false false h = h
taken_by false true false false h = h
taken_by false false false false h = h

at_place : (p : Place) (t : ℕ) → target_of_place p ≡ Some t → is_sent_to t p ≡ true
at_place (place.Sent u) t e = rw (same_Some u.0 t e) (itself t)
at_place _ t e = absurd (let z : ⊥ = cc in z)

target_by : {A : Type 0} (plan : Plan) (S : State A) (o : ℕ) (b : Bool) → is_undone S.targets o ≡ b
    → Gives (keeps_object plan S o) (if b then option_map (λ t. cause.AtTarget (handle_in plan S t)) (target_of_place (place_of S.requests o)) else None)
target_by plan S o true e =
    gives_map (keeps_object plan S o) (λ t. cause.AtTarget (handle_in plan S t)) (target_of_place (place_of S.requests o))
    (λ t h. both (is_sent_to t (place_of S.requests o)) (is_undone S.targets o) (at_place (place_of S.requests o) t h) e)
target_by plan S o false e = gives_none (keeps_object plan S o)

references_by : (cleaned : Bool) (n : ℕ) → (cleaned && nat_lt 0 n) ≡ true → (cleaned && n == n && nat_lt 0 n) ≡ true
references_by true n h = rw (itself n) h
references_by false n h = h

pub object_so : {A : Type 0} (plan : Plan) (S : State A) (o : ℕ) → Gives (keeps_object plan S o) (object_cause plan S o)
object_so plan S o =
    gives_first (keeps_object plan S o)
    (references_cause S o
    ∷ option_map (λ x. cause.ByChild (handle_in plan S x)) (least (children_first S o))
    ∷ by_frame (users_that_keep S o)
    ∷ cause_if (object_cpus plan S o) cause.NoCpu
    ∷ at_target plan S o
    ∷ []) (
      gives_if (keeps_object plan S o) (is_cleaned (life_of S.tree o) && nat_lt 0 (references_of S.tree o)) (cause.References (references_of S.tree o)) (λ h. references_by (is_cleaned (life_of S.tree o)) (references_of S.tree o) h),
      (
        gives_map (keeps_object plan S o) (λ x. cause.ByChild (handle_in plan S x)) (least (children_first S o)) (λ x e. child_so S o x (is_cleaned (life_of S.tree o)) refl (least_has (children_first S o) x e)),
        (
          gives_frame (keeps_object plan S o) (users_that_keep S o) (λ f h. frame_keeps S o f (is_cleaned (life_of S.tree o)) refl h),
          (
            gives_if (keeps_object plan S o) (object_cpus plan S o) cause.NoCpu
                (λ h. rw (← none_left plan S 0, ← none_left plan S 2) (taken_by _ _ (no_cpu plan S 0) (no_cpu plan S 2) h)),
            (
              target_by plan S o (is_undone S.targets o) refl,
              tt,
            ),
          ),
        ),
      ),
    )
