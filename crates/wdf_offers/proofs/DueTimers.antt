-- The places of the timers whose due tick is reached.
use Rattle.std.proofs.Common.{ℕ, ◌≡◌, ◌⊎◌, ◌<◌, ◌≤◌, false, length, Option, Some, None, slice_get, inl, inr, refl, ap, ◌∙◌, arith}
use Rattle.std.proofs.lemmas.Bool.{cases_lt}
use Rattle.std.proofs.lemmas.Option.{slice_get_past}
use Rattle.wdf_base.specs.declared.rank.Rank.TheVariants as rank
use Rattle.wdf_model.specs.State.{State}
use Rattle.wdf_model.specs.declared.entries.Timed.{Timed}
use Rattle.wdf_model.specs.parts.Deferred.Timers.{is_reached}
use Rattle.wdf_sets.specs.Nexts.{IsNext, NoneFrom}
use Rattle.wdf_defer.specs.Timers.{AreApart, is_due_at}
use Rattle.wdf_offers.specs.Idle.{can_start_at, is_timer_due}

module _ {A : Type 0} (S : State A) (apart : AreApart S.timers) where
  same_by : (place : ℕ) (o : Option Timed) → slice_get S.timers.queued place ≡ o → is_timer_due S o ≡ is_reached S.clock o
  same_by place None e = refl
  same_by place (Some t) e = ap (is_reached S.clock) (apart.found place t e)

  -- at a place is the timer of that id
  same : (place : ℕ) → can_start_at S rank.Timed place ≡ is_due_at S.timers S.clock place
  same place = same_by place (slice_get S.timers.queued place) refl

  none_past : (place : ℕ) → length S.timers.queued ≤ place → can_start_at S rank.Timed place ≡ false
  none_past place over = ap (is_timer_due S) (slice_get_past S.timers.queued place over)

  module _ (from end : ℕ) where
    -- none is due
    pub none_due : NoneFrom (is_due_at S.timers S.clock) from (length S.timers.queued) → NoneFrom (can_start_at S rank.Timed) from end
    none_due h place above below = by (cases_lt place (length S.timers.queued))
      where
        by : (place < length S.timers.queued) ⊎ (length S.timers.queued ≤ place) → can_start_at S rank.Timed place ≡ false
        by (inl within) = same place ∙ h place above within
        by (inr over) = none_past place over

    module _ (found : ℕ) (h : IsNext (is_due_at S.timers S.clock) from (length S.timers.queued) found) where
      -- the first that is due, below the end
      pub first_due : found < end → IsNext (can_start_at S rank.Timed) from end found
      first_due below = record { after = h.after; within = below; passes = same found ∙ h.passes; before = λ place above under. same place ∙ h.before place above under }

      -- and past it
      pub due_past : end ≤ found → NoneFrom (can_start_at S rank.Timed) from end
      due_past over place above below = same place ∙ h.before place above (omega arith)
