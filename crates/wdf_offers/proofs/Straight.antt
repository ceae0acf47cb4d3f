-- What may come by its own parts: completions, cleanups and destructions; and how many completions there are.
use Rattle.std.proofs.Common.{if◌then◌else◌, ◌≡◌, ◌-◌, ◌<◌, ℕ, suc, zero, Bool, true, false, ◌&&◌, List, [], ◌∷◌, filter, length, Option, Some, None, slice_get, refl, sym, ap, ◌∙◌, subst, arith}
use Rattle.std.specs.Option.{option_and_then}
use Rattle.std.specs.List.{filter_map, cons_option, range_with_len}
use Rattle.wdf_base.specs.Meaning.{Meaning}
use Rattle.wdf_base.specs.declared.call.Callback.TheVariants as callback
use Rattle.wdf_base.specs.declared.event.Event.{Event}
use Rattle.wdf_base.specs.declared.event.Event.TheVariants as event
use Rattle.wdf_base.specs.declared.object.Place.{Place}
use Rattle.wdf_base.specs.declared.object.Place.TheVariants as place
use Rattle.wdf_base.specs.declared.plan.Plan.{Plan}
use Rattle.wdf_base.specs.declared.value.Status.{Status}
use Rattle.wdf_base.specs.Places.{is_closing}
use Rattle.wdf_model.specs.State.{State, handle_in, is_proper}
use Rattle.wdf_model.specs.Tables.{ids_of}
use Rattle.wdf_model.specs.declared.enums.Group.{Group}
use Rattle.wdf_model.specs.declared.enums.Group.TheVariants as group
use Rattle.wdf_model.specs.parts.Requests.{place_of}
use Rattle.wdf_model.specs.rules.Groups.{candidate, completion_at}
use Rattle.wdf_model.specs.rules.Starts.{callback_over, clean_ready, destroy_ready}
use Rattle.wdf_model.specs.rules.Steps.{is_closing_with, may}
use Rattle.wdf_model.proofs.Tests.{both, itself}
use Rattle.wdf_model.proofs.Sames.{status_decides}
use Rattle.wdf_request.specs.Closing.{closing_requests}
use Rattle.wdf_offers.specs.Search.{if_allowed, offered, offered_from}

and_true : (a b c : Bool) → a ≡ true → (b && c) ≡ (a && b && c)
and_true true b c h = refl
and_true false b c h = absurd (let z : ⊥ = cc in z)

module _ {A : Type 0} (plan : Plan) (m : Meaning A) (S : State A) where
  -- the handle of an object has its name
  proper : (o : ℕ) → is_proper plan S (handle_in plan S o) ≡ true
  proper o = itself (handle_in plan S o).name

  pub clean_up_parts : (o : ℕ) → (clean_ready S o && callback_over plan S callback.EvtCleanupCallback o) ≡ may plan m S (event.Cleanup (handle_in plan S o))
  clean_up_parts o = and_true (is_proper plan S (handle_in plan S o)) (clean_ready S o) (callback_over plan S callback.EvtCleanupCallback o) (proper o)

  pub end_parts : (o : ℕ) → (destroy_ready S o && callback_over plan S callback.EvtDestroyCallback o) ≡ may plan m S (event.Destroy (handle_in plan S o))
  end_parts o = and_true (is_proper plan S (handle_in plan S o)) (destroy_ready S o) (callback_over plan S callback.EvtDestroyCallback o) (proper o)

  -- ---- completions

  closing_with : (r : ℕ) (s : Status) → place_of S.requests r ≡ place.Closing s → is_closing_with (place_of S.requests r) s ≡ true
  closing_with r s e = rw e ((status_decides s s).1 refl)

  closing_kept : (r : ℕ) (p : Place) → place_of S.requests r ≡ p → completion_at plan S r p ≡ if_allowed plan m S (completion_at plan S r p)
  closing_kept r (place.Closing s) e =
      let comes : may plan m S (event.Complete (handle_in plan S r) s) ≡ true
      = both (is_proper plan S (handle_in plan S r)) (is_closing_with (place_of S.requests r) s) (proper r) (closing_with r s e) in
      rw comes refl
  closing_kept r _ e = refl

  completion_kept : (r : ℕ) → candidate plan m S group.Completions r ≡ offered plan m S group.Completions r
  completion_kept r = closing_kept r (place_of S.requests r) refl

  pub completion_is_offered : (g : Group) (r : ℕ) → group.Completions ≡ g → candidate plan m S group.Completions r ≡ offered plan m S g r
  completion_is_offered g r is = subst (λ h. candidate plan m S group.Completions r ≡ offered plan m S h r) is (completion_kept r)

  -- the status with which a request will be completed
  status_of : Place → Option Status
  status_of (place.Closing s) = Some s
  status_of _ = None

  -- what is offered of one that closes is something, of another nothing
  offered_by : (r : ℕ) (p : Place) (rest : List Event) (ids : List ℕ) → place_of S.requests r ≡ p
      → ((k : ℕ) → slice_get rest k ≡ option_and_then (λ x. offered plan m S group.Completions x) (slice_get ids k))
      → (k : ℕ) → slice_get (cons_option (offered plan m S group.Completions r) rest) k ≡ option_and_then (λ x. offered plan m S group.Completions x) (slice_get (if is_closing p then r ∷ ids else ids) k)
  offered_by r (place.Closing s) rest ids e more zero =
      let is : offered plan m S group.Completions r ≡ Some (event.Complete (handle_in plan S r) s) = sym (completion_kept r) ∙ ap (completion_at plan S r) e in
      rw is refl
  offered_by r (place.Closing s) rest ids e more (suc k) =
      let is : offered plan m S group.Completions r ≡ Some (event.Complete (handle_in plan S r) s) = sym (completion_kept r) ∙ ap (completion_at plan S r) e in
      rw is (more k)
  offered_by r _ rest ids e more k = let is : offered plan m S group.Completions r ≡ None = sym (completion_kept r) ∙ ap (completion_at plan S r) e in rw is (more k)

  places_by : (ids : List ℕ) (k : ℕ) → slice_get (filter_map (offered plan m S group.Completions) ids) k ≡ option_and_then (λ x. offered plan m S group.Completions x) (slice_get (filter (λ r. is_closing (place_of S.requests r)) ids) k)
  places_by [] k = refl
  places_by (r ∷ ids) k =
      offered_by r (place_of S.requests r) (filter_map (offered plan m S group.Completions) ids) (filter (λ x. is_closing (place_of S.requests x)) ids) refl (places_by ids) k

  counted_by : (r : ℕ) (p : Place) (rest : List Event) (ids : List ℕ) → place_of S.requests r ≡ p → length rest ≡ length ids
      → length (cons_option (offered plan m S group.Completions r) rest) ≡ length (if is_closing p then r ∷ ids else ids)
  counted_by r (place.Closing s) rest ids e more =
      let is : offered plan m S group.Completions r ≡ Some (event.Complete (handle_in plan S r) s) = sym (completion_kept r) ∙ ap (completion_at plan S r) e in
      rw is (ap suc more)
  counted_by r _ rest ids e more = let is : offered plan m S group.Completions r ≡ None = sym (completion_kept r) ∙ ap (completion_at plan S r) e in rw is more

  count_by_ids : (ids : List ℕ) → length (filter_map (offered plan m S group.Completions) ids) ≡ length (filter (λ r. is_closing (place_of S.requests r)) ids)
  count_by_ids [] = refl
  count_by_ids (r ∷ ids) =
      counted_by r (place_of S.requests r) (filter_map (offered plan m S group.Completions) ids) (filter (λ x. is_closing (place_of S.requests x)) ids) refl (count_by_ids ids)

  whole : (n : ℕ) → n - 0 ≡ n
  whole n = omega arith

  -- as many completions may come as requests are closing
  pub completions_counted : length (closing_requests S.requests) ≡ length (offered_from plan m S group.Completions 0)
  completions_counted =
      sym (ap (λ n. length (filter_map (offered plan m S group.Completions) (range_with_len 0 n))) (whole (length S.requests.all)) ∙ count_by_ids (ids_of S.requests.all))

  -- and the k-th is that of the k-th of these
  pub completion_numbered : (k : ℕ) → slice_get (offered_from plan m S group.Completions 0) k ≡ option_and_then (λ r. candidate plan m S group.Completions r) (slice_get (closing_requests S.requests) k)
  completion_numbered k =
      ap (λ n. slice_get (filter_map (offered plan m S group.Completions) (range_with_len 0 n)) k) (whole (length S.requests.all))
      ∙ places_by (ids_of S.requests.all) k ∙ same_by (slice_get (closing_requests S.requests) k)
    where
      same_by : (o : Option ℕ) → option_and_then (λ x. offered plan m S group.Completions x) o ≡ option_and_then (λ r. candidate plan m S group.Completions r) o
      same_by None = refl
      same_by (Some r) = sym (completion_kept r)

-- what is within a list is there
pub there : {T : Type 0} (xs : List T) (k : ℕ) → k < length xs → slice_get xs k ≡ None → ⊥
there [] k h e = absurd (omega arith)
there (x ∷ xs) zero h e = let z : ⊥ = cc in z
there (x ∷ xs) (suc k) h e = there xs k (omega arith) e
