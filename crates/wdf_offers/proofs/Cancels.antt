-- The requests for which EvtRequestCancel is due, as a search finds them.
use Rattle.std.proofs.Common.{Bool, true, false, ◌&&◌, ℕ, ◌≡◌, ◌⊎◌, ◌+◌, ◌<◌, ◌≤◌, find, length, Option, Some, None, inl, inr, sym, ap, ◌∙◌, arith}
use Rattle.std.specs.Prelude.{nat_le}
use Rattle.std.proofs.lemmas.Bool.{cases_lt, le-leb, leb-true}
use Rattle.wdf_base.specs.declared.plan.Plan.{Plan}
use Rattle.wdf_base.specs.declared.rank.Rank.TheVariants as rank
use Rattle.wdf_base.specs.Places.{is_due}
use Rattle.wdf_model.proofs.Tests.{both_left, left_fails}
use Rattle.wdf_model.specs.State.{State, is_held_from}
use Rattle.wdf_model.specs.Tables.{ids_of}
use Rattle.wdf_model.specs.parts.Requests.{Requests, mark_of}
use Rattle.wdf_model.specs.rules.Groups.{places_if}
use Rattle.wdf_request.specs.Closing.{due_requests}
use Rattle.wdf_sets.specs.Nexts.{IsNext, NoneFrom}
use Rattle.wdf_sets.proofs.Nexts.{First, find_filter, first_in, none_in}
use Rattle.wdf_offers.specs.Idle.{is_due_at}
use Rattle.wdf_offers.proofs.Skips.{right_false}

pub few_places : (b : Bool) (n end : ℕ) → end ≤ places_if b n → end ≤ n
few_places true n end h = h
few_places false n end h = omega arith

-- where EvtRequestCancel is due for no request, it isn't due on a queue
pub not_on : {A : Type 0} (plan : Plan) (S : State A) (q p : ℕ) → is_due (mark_of S.requests p) ≡ false → is_due_at plan S rank.Cancel q p ≡ false
not_on plan S q p h = left_fails (is_due (mark_of S.requests p)) (is_held_from S q p) h

module _ (R : Requests) (test : ℕ → Bool) (fails : (p : ℕ) → is_due (mark_of R p) ≡ false → test p ≡ false) (from at end : ℕ) (none : NoneFrom test from at) where
  -- nor at any place from one on up to another
  further : (to : ℕ) → ((p : ℕ) → at ≤ p → p < to → is_due (mark_of R p) ≡ false) → NoneFrom test from to
  further to off p above below = by (cases_lt p at)
    where
      by : (p < at) ⊎ (at ≤ p) → test p ≡ false
      by (inl before) = none p above before
      by (inr after) = fails p (off p after below)

  -- the first request for which it is due, if there is one
  first_due : (o : Option ℕ) → o ≡ find (nat_le at) (due_requests R) → find (λ r. nat_le at r && is_due (mark_of R r)) (ids_of R.all) ≡ o
  first_due o h = sym (find_filter (nat_le at) (λ r. is_due (mark_of R r)) (ids_of R.all)) ∙ sym h

  -- none is left
  pub no_cancel_left : end ≤ length R.all → None ≡ find (nat_le at) (due_requests R) → NoneFrom test from end
  no_cancel_left few h =
      further end (λ p after below. right_false (nat_le at p) (is_due (mark_of R p)) (le-leb at p after)
      (none_in (λ o. nat_le at o && is_due (mark_of R o)) 0 (length R.all) (first_due None h) p (omega arith) (omega arith)))

  module _ (x : ℕ) (h : Some x ≡ find (nat_le at) (due_requests R)) where
    found : First (λ o. nat_le at o && is_due (mark_of R o)) 0 (length R.all) x
    found = first_in (λ o. nat_le at o && is_due (mark_of R o)) 0 (length R.all) x (first_due (Some x) h)

    pub cancel_after : at ≤ x
    cancel_after = leb-true at x (both_left (nat_le at x) (is_due (mark_of R x)) found.passes)

    none_before : NoneFrom test from x
    none_before = further x (λ p after below. right_false (nat_le at p) (is_due (mark_of R p)) (le-leb at p after) (found.before p (omega arith) below))

    -- it is past the end
    pub no_cancel_within : end ≤ x → NoneFrom test from end
    no_cancel_within past p above below = none_before p above (omega arith)

    -- it is due on the queue
    pub cancel_next : from ≤ at → x < end → test x ≡ true → IsNext test from end x
    cancel_next after below passes = record { after = let more = cancel_after in omega arith; within = below; passes = passes; before = none_before }

    -- it is due on another
    pub cancel_elsewhere : test x ≡ false → NoneFrom test from (x + 1)
    cancel_elsewhere off p above below = by (cases_lt p x)
      where
        by : (p < x) ⊎ (x ≤ p) → test p ≡ false
        by (inl before) = none_before p above before
        by (inr here) = let same : p ≡ x = omega arith in ap test same ∙ off
