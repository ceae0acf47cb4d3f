-- The least of the frames of which something is so, and of the requests that wait in a queue, one after the other.
use Rattle.std.proofs.Common.{◌≡◌, ℕ, zero, suc, ◌+◌, ◌≤◌, ◌≢◌, ◌==◌, not, true, false, List, [], ◌∷◌, Option, Some, None, filter, drop, slice_get, take_while, fold, length, refl, arith}
use Rattle.std.proofs.lemmas.List.{drop_all}
use Rattle.wdf_model.specs.Tables.{least, lesser}
use Rattle.wdf_model.specs.parts.Cpus.{Cpus, all_frames, frame_of}
use Rattle.wdf_model.specs.parts.Queues.{Queues, waiting_in}
use Rattle.wdf_model.proofs.Counts.{equal, not_equal}
use Rattle.wdf_causes.specs.Asked.{is_so_of_frame}
use Rattle.wdf_causes.specs.declared.asked.FrameTest.{FrameTest}
use Rattle.wdf_causes.proofs.Searches.{ahead_next, ahead_stops, least_of_next, least_of_other, least_waits}

none_past : (xs : List ℕ) (k : ℕ) → slice_get xs k ≡ None → length xs ≤ k
none_past [] k h = omega arith
none_past (x ∷ xs) zero h = absurd (let z : ⊥ = cc in z)
none_past (x ∷ xs) (suc k) h = let rest = none_past xs k h in omega arith

module _ (C : Cpus) (test : FrameTest) where
  -- the least of what was found and of the frames from this place on of which it is so
  pub frames_from : ℕ → Option ℕ → Option ℕ
  frames_from place found = fold lesser found (filter (λ f. is_so_of_frame test (frame_of C f)) (drop place (all_frames C)))

  pub frames_at_first : frames_from 0 None ≡ least (filter (λ f. is_so_of_frame test (frame_of C f)) (all_frames C))
  unfolding frames_from
  frames_at_first = refl

  pub frame_kept : (place f : ℕ) (found more : Option ℕ) → slice_get (all_frames C) place ≡ Some f → is_so_of_frame test (frame_of C f) ≡ true → more ≡ lesser found f
      → frames_from (place + 1) more ≡ frames_from place found
  unfolding frames_from
  frame_kept place f found more at e is = rw is (least_of_next (λ x. is_so_of_frame test (frame_of C x)) found (all_frames C) place f at e)

  pub frame_passed : (place f : ℕ) (found : Option ℕ) → slice_get (all_frames C) place ≡ Some f → is_so_of_frame test (frame_of C f) ≡ false
      → frames_from (place + 1) found ≡ frames_from place found
  unfolding frames_from
  frame_passed place f found at e = least_of_other (λ x. is_so_of_frame test (frame_of C x)) found (all_frames C) place f at e

  pub frames_at_last : (place : ℕ) (found : Option ℕ) → length (all_frames C) ≤ place → found ≡ frames_from place found
  unfolding frames_from
  frames_at_last place found h = rw (drop_all place (all_frames C) h) refl

module _ (Q : Queues) (q : ℕ) where
  -- the least of what was found and of those that wait from this place on
  pub waiting_from : ℕ → Option ℕ → Option ℕ
  waiting_from k found = fold lesser found (drop k (waiting_in Q q))

  pub waiting_at_first : waiting_from 0 None ≡ least (waiting_in Q q)
  unfolding waiting_from
  waiting_at_first = refl

  pub waiting_after : (k r : ℕ) (found more : Option ℕ) → slice_get (waiting_in Q q) k ≡ Some r → more ≡ lesser found r → waiting_from (k + 1) more ≡ waiting_from k found
  unfolding waiting_from
  waiting_after k r found more at is = rw is (least_waits found (waiting_in Q q) k r at)

  pub waiting_at_last : (k : ℕ) (found : Option ℕ) → slice_get (waiting_in Q q) k ≡ None → found ≡ waiting_from k found
  unfolding waiting_from
  waiting_at_last k found none = rw (drop_all k (waiting_in Q q) (none_past (waiting_in Q q) k none)) refl

  pub waiting_at_end : (k : ℕ) (found : Option ℕ) → length (waiting_in Q q) ≤ k → found ≡ waiting_from k found
  unfolding waiting_from
  waiting_at_end k found h = rw (drop_all k (waiting_in Q q) h) refl

module _ (Q : Queues) (q r : ℕ) where
  -- the least of what was found and of those that wait from this place on, ahead of the request
  pub ahead_from : ℕ → Option ℕ → Option ℕ
  ahead_from k found = fold lesser found (take_while (λ x. not (x == r)) (drop k (waiting_in Q q)))

  pub ahead_at_first : ahead_from 0 None ≡ least (take_while (λ x. not (x == r)) (waiting_in Q q))
  unfolding ahead_from
  ahead_at_first = refl

  pub ahead_after : (k x : ℕ) (found more : Option ℕ) → slice_get (waiting_in Q q) k ≡ Some x → x ≢ r → more ≡ lesser found x → ahead_from (k + 1) more ≡ ahead_from k found
  unfolding ahead_from
  ahead_after k x found more at e is = rw is (ahead_next r found (waiting_in Q q) k x at (not_equal x r e))

  pub ahead_here : (k x : ℕ) (found : Option ℕ) → slice_get (waiting_in Q q) k ≡ Some x → x ≡ r → found ≡ ahead_from k found
  unfolding ahead_from
  ahead_here k x found at e = ahead_stops r found (waiting_in Q q) k x at (equal x r e)

  pub ahead_at_last : (k : ℕ) (found : Option ℕ) → slice_get (waiting_in Q q) k ≡ None → found ≡ ahead_from k found
  unfolding ahead_from
  ahead_at_last k found none = rw (drop_all k (waiting_in Q q) (none_past (waiting_in Q q) k none)) refl

  pub ahead_at_end : (k : ℕ) (found : Option ℕ) → length (waiting_in Q q) ≤ k → found ≡ ahead_from k found
  unfolding ahead_from
  ahead_at_end k found h = rw (drop_all k (waiting_in Q q) h) refl
