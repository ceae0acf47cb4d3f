-- Which requests a target is done with: by what is kept of each, and the next of them from a place on.
use Rattle.std.proofs.Common.{ℕ, suc, ◌≡◌, ◌<◌, ◌≤◌, ◌⊎◌, inl, inr, nat_lt, Bool, true, false, List, [], ◌∷◌, length, filter, map, Option, Some, None, is_some, slice_get, slice_index_or, refl, sym, ap, ◌∙◌, arith}
use Rattle.std.specs.Prelude.{option_and_then}
use Rattle.std.proofs.lemmas.Bool.{cases_lt}
use Rattle.std.proofs.lemmas.Option.{slice_get-get_or, slice_get_within}
use Rattle.wdf_base.proofs.Tests.{in_filter}
use Rattle.wdf_model.specs.declared.entries.Sending.{Sending}
use Rattle.wdf_model.specs.parts.Targets.{Target, routine_outcome}
use Rattle.wdf_maps.specs.Places.{SplitsAt, rises}
use Rattle.wdf_maps.proofs.Passing.{Among, among_all, among_passing, any_among, entry_at_place, keys_grow, passing_rise, some_pass}
use Rattle.wdf_maps.proofs.PlacesOfKeys.{keys_rise}
use Rattle.wdf_sets.specs.Nexts.{IsNext, NoneFrom}
use Rattle.wdf_target.specs.Finished.{comes_back, done_at, done_in, has_done, is_done_with, passes_if}
use Rattle.wdf_target.specs.Target.{request_id}

-- where another test answers the same of each item of a list, the same items pass
pub filter_among : {T : Type 0} (p q : T → Bool) (xs : List T) → ((k : ℕ) (x : T) → slice_get xs k ≡ Some x → p x ≡ q x) → filter p xs ≡ filter q xs
filter_among p q [] e = refl
filter_among p q (x ∷ xs) e =
    let first : p x ≡ q x = e 0 x refl in
    let rest : filter p xs ≡ filter q xs = filter_among p q xs (λ k y at. e (suc k) y at) in
    rw (first, rest) refl

module _ (t : Target) (high : ℕ) (rising : rises request_id 0 high t.sent ≡ true) where
  -- what is kept of a request that the target has says whether it is done with it
  pub done_as_kept : (k : ℕ) (s : Sending) → slice_get t.sent k ≡ Some s → is_done_with t s.request.0 ≡ comes_back s
  done_as_kept k s at = ap (λ e. is_some (option_and_then routine_outcome e)) (entry_at_place request_id 0 high t.sent k s rising at)

  -- it is done with some exactly where some come back
  pub some_done : nat_lt 0 (length (filter comes_back t.sent)) ≡ has_done t
  some_done = some_pass comes_back t.sent ∙ any_among comes_back (λ (s : Sending). is_done_with t s.request.0) t.sent (λ k s at. sym (done_as_kept k s at))

  -- those that come back
  pub all_done : map request_id (filter comes_back t.sent) ≡ done_in t
  all_done = ap (map request_id) (filter_among comes_back (λ (s : Sending). is_done_with t s.request.0) t.sent (λ k s at. sym (done_as_kept k s at)))

  not_done_at : (k : ℕ) (s : Sending) → slice_get t.sent k ≡ Some s → comes_back s ≡ false → done_at t k ≡ false
  not_done_at k s at off = ap (passes_if (λ (x : Sending). is_done_with t x.request.0)) at ∙ (done_as_kept k s at ∙ off)

  -- a place is not done where no request there comes back
  none_done_at : (k : ℕ) → ((s : Sending) → slice_get t.sent k ≡ Some s → comes_back s ≡ true → ⊥) → done_at t k ≡ false
  none_done_at k not = by (slice_get t.sent k) refl
    where
      by : (found : Option Sending) → slice_get t.sent k ≡ found → done_at t k ≡ false
      by None at = ap (passes_if (λ (x : Sending). is_done_with t x.request.0)) at
      by (Some s) at = by_test (comes_back s) refl
        where
          by_test : (b : Bool) → comes_back s ≡ b → done_at t k ≡ false
          by_test true on = absurd (not s at on)
          by_test false off = not_done_at k s at off

  -- past the last place there is nothing
  pub none_past : (from : ℕ) → length t.sent ≤ from → NoneFrom (done_at t) from (length t.sent)
  none_past from past k after below = absurd (omega arith)

  module _ (from : ℕ) (least : Sending) (here : slice_get t.sent from ≡ Some least) (place : ℕ) (split : SplitsAt request_id (request_id least) (filter comes_back t.sent) place) where
    -- a request from that place on that comes back is among those that do from the other place on
    reaches : (k : ℕ) (s : Sending) → from ≤ k → slice_get t.sent k ≡ Some s → comes_back s ≡ true → (a : Among (filter comes_back t.sent) s) → place ≤ a.place
    reaches k s after at on a = by (cases_lt a.place place)
      where
        by : (a.place < place) ⊎ (place ≤ a.place) → place ≤ a.place
        by (inl low) =
            let less = split.lesser a.place s a.at low in
            let above = keys_rise request_id 0 high from k t.sent least s rising after here at in
            absurd (omega arith)
        by (inr far) = far

    pub none_after : length (filter comes_back t.sent) ≤ place → NoneFrom (done_at t) from (length t.sent)
    none_after past k after below =
        none_done_at k (λ s at on.
        let a = among_passing comes_back t.sent k s at on in
        let far = reaches k s after at on a in
        let within = slice_get_within (filter comes_back t.sent) a.place s a.at in
        absurd (omega arith))

    module _ (found : Sending) (there : slice_get (filter comes_back t.sent) place ≡ Some found) (result : ℕ) (ends : SplitsAt request_id (request_id found) t.sent result) where
      whole : Among t.sent found
      whole = among_all comes_back t.sent place found there

      not_later : result ≤ whole.place
      not_later = by (cases_lt whole.place result)
        where
          by : (whole.place < result) ⊎ (result ≤ whole.place) → result ≤ whole.place
          by (inl low) = let less = ends.lesser whole.place found whole.at low in absurd (omega arith)
          by (inr far) = far

      -- so it is at that place of what the target has
      here_is : result ≡ whole.place
      here_is = by (cases_lt result whole.place)
        where
          by : (result < whole.place) ⊎ (whole.place ≤ result) → result ≡ whole.place
          by (inl low) =
              let within = slice_get_within t.sent whole.place found whole.at in
              let before : slice_get t.sent result ≡ Some (slice_index_or t.sent result found) = slice_get-get_or t.sent result found (omega arith) in
              let above = ends.others result (slice_index_or t.sent result found) before (omega arith) in
              let less = keys_grow request_id 0 high result whole.place t.sent (slice_index_or t.sent result found) found rising low before whole.at in
              absurd (omega arith)
          by (inr far) = let m = not_later in omega arith

      found_here : slice_get t.sent result ≡ Some found
      found_here = ap (slice_get t.sent) here_is ∙ whole.at

      not_before : from ≤ result
      not_before = by (cases_lt result from)
        where
          by : (result < from) ⊎ (from ≤ result) → from ≤ result
          by (inl low) =
              let above = split.others place found there (omega arith) in
              let less = keys_grow request_id 0 high result from t.sent found least rising low found_here here in
              absurd (omega arith)
          by (inr far) = far

      none_between : NoneFrom (done_at t) from result
      none_between k after below =
          none_done_at k (λ s at on.
          let a = among_passing comes_back t.sent k s at on in
          let far = reaches k s after at on a in
          let above = keys_rise request_id 0 high place a.place (filter comes_back t.sent) found s (passing_rise request_id comes_back 0 high t.sent rising) far there a.at in
          let less = ends.lesser k s at below in
          absurd (omega arith))

      pub next_is_done : IsNext (done_at t) from (length t.sent) result
      next_is_done = record {
        after = not_before;
        within = slice_get_within t.sent result found found_here;
        passes = ap (passes_if (λ (x : Sending). is_done_with t x.request.0)) found_here ∙ (done_as_kept result found found_here ∙ in_filter comes_back t.sent place found there);
        before = none_between;
      }
