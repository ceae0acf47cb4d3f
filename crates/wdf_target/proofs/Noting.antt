-- The set of the targets that are done with a request that comes back, after the acts; and what it says of completion routines.
use Rattle.std.proofs.Common.{◌≡◌, ℕ, zero, suc, ◌+◌, ◌<◌, ◌≤◌, ◌==◌, Bool, true, false, not, ◌||◌, List, [], ◌∷◌, length, map, replicate, slice_set, slice_get, Option, Some, None, is_some, MatchOption, refl, sym, ap, ◌∙◌, arith}
use Rattle.std.specs.Prelude.{option_and_then}
use Rattle.std.specs.List.{list_all, list_any}
use Rattle.std.proofs.lemmas.Bool.{eq-eqb, eqb-true}
use Rattle.std.proofs.lemmas.List.FromFn.{length-map-range_with_len}
use Rattle.std.proofs.lemmas.Option.{get_or_from_slice_get}
use Rattle.wdf_base.specs.declared.declared.TargetInfo.{TargetInfo}
use Rattle.wdf_base.specs.declared.ids.ObjectId.{ObjectId}
use Rattle.wdf_base.specs.declared.plan.Plan.{Plan}
use Rattle.wdf_model.specs.Tables.{entry}
use Rattle.wdf_model.specs.Plans.{declared_ids, target_of}
use Rattle.wdf_model.specs.declared.entries.Sending.{Sending}
use Rattle.wdf_model.specs.parts.Targets.{Target, Targets, no_target, opening_target, opening_targets, routine_outcome, the_target}
use Rattle.wdf_maps.specs.Places.{entry_of}
use Rattle.wdf_maps.proofs.Passing.{any_among}
use Rattle.wdf_sets.specs.Members.{is_in, members}
use Rattle.wdf_sets.specs.Nexts.{IsNext, NoneFrom}
use Rattle.wdf_sets.proofs.Nexts.{found_also}
use Rattle.wdf_sets.proofs.SetOf.{each_passes, empty_set, entry_kept, entry_written, no_member_is, none_made}
use Rattle.wdf_target.specs.Finished.{done_in, finished_at, finished_in, has_done, has_finished, is_done_with, is_finished, none_finished, done_at, passes_if}
use Rattle.wdf_target.specs.Target.{request_id}
use Rattle.wdf_target.specs.Targets.{AreNoted, IsKept, is_with}
use Rattle.wdf_target.proofs.Kept.{found_there}
use Rattle.wdf_target.proofs.Nexts.{filter_among}

-- ---- the acts

-- one target changes
pub noted_moved : (ts : List Target) (bits : List Bool) (q : ℕ) (new : Target) → AreNoted ts bits → q < length ts → AreNoted (slice_set ts q new) (slice_set bits q (has_done new))
noted_moved ts bits q new n within = entry_written no_target has_done ts bits q new n within

-- a target has what it had
pub noted_same : (ts : List Target) (bits : List Bool) (q : ℕ) (new : Target) → AreNoted ts bits → q < length ts → new.sent ≡ (entry no_target ts q).sent → AreNoted (slice_set ts q new) bits
noted_same ts bits q new n within e =
    entry_kept no_target has_done ts bits q new n within (ap (λ xs. list_any (λ (s : Sending). is_some (option_and_then routine_outcome (entry_of request_id xs s.request.0))) xs) e)

-- how many targets there are at the opening
pub opened_len : (plan : Plan) (ts : List Target) → ts ≡ (opening_targets plan).targets → length ts ≡ 1 + length plan.declared
opened_len plan ts opened =
    let long = length-map-range_with_len (λ t. opening_target (target_of plan t)) 0 (suc (length plan.declared)) in
    let same = ap length opened in
    omega arith

nothing_done : (info : Option TargetInfo) → has_done (opening_target info) ≡ false
nothing_done None = refl
nothing_done (Some i) = refl

-- at the opening no target has a request, and the empty set is right
pub noted_opened : (plan : Plan) (ts : List Target) (bits : List Bool) (n : ℕ) → ts ≡ (opening_targets plan).targets → length ts ≤ n → bits ≡ replicate n false → AreNoted ts bits
noted_opened plan ts bits n opened room e =
    empty_set _ (length ts) n bits e room (λ t. ap (λ us. has_done (entry no_target us t)) opened ∙ none_made no_target has_done (λ id. opening_target (target_of plan id)) refl (λ id. nothing_done (target_of plan id)) (declared_ids plan) t)

-- ---- what a target is done with, by all targets

there_first : (x s : Sending) (xs : List Sending) (b : Bool) → (x.request.0 == s.request.0) ≡ b → is_some (entry_of request_id xs s.request.0) ≡ true → is_some (entry_of request_id (x ∷ xs) s.request.0) ≡ true
there_first x s xs true e rest = rw e refl
there_first x s xs false e rest = rw e rest

-- there is an entry of what is at a place
is_there : (xs : List Sending) (k : ℕ) (s : Sending) → slice_get xs k ≡ Some s → is_some (entry_of request_id xs s.request.0) ≡ true
is_there [] k s at = absurd (let z : ⊥ = cc in z)
is_there (x ∷ xs) zero s at =
    let same : x ≡ s = cc in
    let here : (x.request.0 == s.request.0) ≡ true = ap (λ y. y.request.0 == s.request.0) same ∙ eq-eqb s.request.0 s.request.0 refl in
    rw here refl
is_there (x ∷ xs) (suc k) s at = there_first x s xs (x.request.0 == s.request.0) refl (is_there xs k s at)

module _ (ts : List Target) (hs : List (Option ObjectId)) (kept : IsKept ts hs) where
  abbrev whole : Targets
  whole = record { targets = ts }

  finished_by : (q : ℕ) (s : Sending) (o : Option ObjectId) → entry None hs s.request.0 ≡ o → is_with q o ≡ true → is_finished whole s ≡ is_done_with (entry no_target ts q) s.request.0
  finished_by q s None e h = absurd (let z : ⊥ = cc in z)
  finished_by q s (Some o) e h =
      let same : o.0 ≡ q = eqb-true o.0 q h in
      ap (λ x. is_some (option_and_then routine_outcome x)) (found_there ts hs s.request.0 o kept e) ∙ ap (λ t. is_done_with (entry no_target ts t) s.request.0) same

  -- a completion routine is due exactly where the target that has its request is done with it
  finished_there : (q k : ℕ) (s : Sending) → slice_get (entry no_target ts q).sent k ≡ Some s → is_finished whole s ≡ is_done_with (entry no_target ts q) s.request.0
  finished_there q k s at =
      finished_by q s (entry None hs s.request.0) refl (sym (kept.kept q s.request.0) ∙ is_there (entry no_target ts q).sent k s at)

  any_finished : (q : ℕ) → list_any (is_finished whole) (entry no_target ts q).sent ≡ has_done (entry no_target ts q)
  any_finished q = any_among (is_finished whole) (λ (s : Sending). is_done_with (entry no_target ts q) s.request.0) (entry no_target ts q).sent (finished_there q)

  -- a target is done with just those whose completion routine is due
  pub all_finished : (q : ℕ) → done_in (entry no_target ts q) ≡ finished_in whole q
  all_finished q =
      ap (map request_id) (filter_among (λ (s : Sending). is_done_with (entry no_target ts q) s.request.0) (is_finished whole) (entry no_target ts q).sent (λ k s at. sym (finished_there q k s at)))

  pub place_finished : (q k : ℕ) → done_at (entry no_target ts q) k ≡ finished_at whole q k
  place_finished q k = by (slice_get (entry no_target ts q).sent k) refl
    where
      by : (found : Option Sending) → slice_get (entry no_target ts q).sent k ≡ found → passes_if (λ (s : Sending). is_done_with (entry no_target ts q) s.request.0) (slice_get (entry no_target ts q).sent k) ≡ passes_if (is_finished whole) (slice_get (entry no_target ts q).sent k)
      by None at = rw at refl
      by (Some s) at = rw at (sym (finished_there q k s at))

  pub next_noted : (bits : List Bool) (from end : ℕ) → AreNoted ts bits
      → (found : Option ℕ) → MatchOption found (NoneFrom (λ id. is_in id bits) from end) (λ id. IsNext (λ x. is_in x bits) from end id)
      → MatchOption found (NoneFrom (has_finished whole) from end) (λ id. IsNext (has_finished whole) from end id)
  next_noted bits from end n found = found_also (λ id. is_in id bits) (has_finished whole) from end (λ id above below. n.same id ∙ sym (any_finished id)) (λ id. id) found

  all_alike : (us : List Target) → ((k : ℕ) (x : Target) → slice_get us k ≡ Some x → list_any (is_finished whole) x.sent ≡ has_done x)
      → list_all (λ x. not (has_done x)) us ≡ list_all (λ x. not (list_any (is_finished whole) x.sent)) us
  all_alike [] same = refl
  all_alike (x ∷ us) same =
      let first : list_any (is_finished whole) x.sent ≡ has_done x = same 0 x refl in
      let rest = all_alike us (λ k y at. same (suc k) y at) in
      rw (first, rest) refl

  -- the set has no member exactly where no completion routine is due
  pub none_noted : (bits : List Bool) → AreNoted ts bits → (length (members bits) == 0) ≡ none_finished whole
  none_noted bits n =
      no_member_is no_target has_done (λ x. not (has_done x)) ts (length ts) bits (λ x. refl) refl n
      ∙ all_alike ts (λ k x at. let same : entry no_target ts k ≡ x = get_or_from_slice_get ts k x no_target at in rw (← same) (any_finished k))

-- ---- what the definitions say of one place

none_of : (p : Sending → Bool) (xs : List Sending) → list_any p xs ≡ false → (k : ℕ) → passes_if p (slice_get xs k) ≡ false
none_of p [] h k = refl
none_of p (x ∷ xs) h k = by (p x) refl h k (none_of p xs)
  where
    by : (b : Bool) → p x ≡ b → (b || list_any p xs) ≡ false → (k : ℕ) → (list_any p xs ≡ false → (j : ℕ) → passes_if p (slice_get xs j) ≡ false) → passes_if p (slice_get (x ∷ xs) k) ≡ false
    by true e h k rest = absurd (let z : ⊥ = cc in z)
    by false e h zero rest = e
    by false e h (suc k) rest = rest h k

-- where a target has no request whose completion routine is due, none is at any place
pub unfinished_at : (T : Targets) (t k : ℕ) → has_finished T t ≡ false → finished_at T t k ≡ false
unfinished_at T t k h = none_of (is_finished T) (the_target T t).sent h k

-- where no target has one, this one hasn't
pub unfinished : (T : Targets) (t : ℕ) → none_finished T ≡ true → has_finished T t ≡ false
unfinished T t h = by (has_finished T t) (each_passes no_target (λ x. not (list_any (is_finished T) x.sent)) refl T.targets t h)
  where
    by : (b : Bool) → not b ≡ true → b ≡ false
    by true e = absurd (let z : ⊥ = cc in z)
    by false e = refl
