-- Two frames that are there with one lock of their own are one: at each place of a free run.
use Rattle.std.proofs.Common.{◌≡◌, ◌≢◌, ℕ, ◌==◌, ◌≤◌, true, false, not, ◌&&◌, List, inl, inr, Some, length, refl, sym, ◌∙◌, arith}
use Rattle.std.proofs.lemmas.Bool.{eqb-true}
use Rattle.wdf_base.specs.declared.plan.Plan.{Plan}
use Rattle.wdf_base.specs.declared.event.Event.{Event}
use Rattle.wdf_base.specs.declared.object.LockRef.{LockRef}
use Rattle.wdf_base.specs.Same.{same_lock}
use Rattle.wdf_model.specs.declared.entries.Held.{Held}
use Rattle.wdf_model.specs.State.{State}
use Rattle.wdf_model.proofs.Counts.{not_equal, one_or_two}
use Rattle.wdf_model.proofs.FrameCounts.{on}
use Rattle.wdf_model.proofs.Tests.{both, both_left, both_right}
use Rattle.law_machine_lives.proofs.Sound.{lock_of_frame}
use Rattle.law_trace_scopes.proofs.Holding.{is_other_hold, is_own_hold, not_own}
use Rattle.law_trace_scopes.proofs.Frames.{fewer}
use Rattle.law_free_runs.specs.FreeRuns.{IsFreeRun}
use Rattle.law_free_runs.proofs.FreeStates.{FreeState, free_state}
use Rattle.law_free_stops.specs.LocksApart.{LocksApart}

-- what one frame holds since its start another doesn't
own_other : (l : LockRef) (f g : ℕ) → f ≢ g → (h : Held) → is_own_hold l g h ≡ true → is_other_hold l f h ≡ true
own_other l f g n h e =
    let of : (same_lock h.lock l && (h.frame.0 == g)) ≡ true = both_left (same_lock h.lock l && (h.frame.0 == g)) (not h.by_call) e in
    let at : h.frame.0 ≡ g = eqb-true h.frame.0 g (both_right (same_lock h.lock l) (h.frame.0 == g) of) in
    let off : (h.frame.0 == f) ≡ false = not_equal h.frame.0 f (λ s. n (sym s ∙ at)) in
    both (same_lock h.lock l) (not ((h.frame.0 == f) && not h.by_call)) (both_left (same_lock h.lock l) (h.frame.0 == g) of) (rw off refl)

pub one_frame : {A : Type 0} (plan : Plan) (S : State A) → FreeState plan S → (f g : ℕ) (l : LockRef) → 1 ≤ on S.cpus f → 1 ≤ on S.cpus g → lock_of_frame plan S f ≡ Some l → lock_of_frame plan S g ≡ Some l → f ≡ g
one_frame plan S k f g l f_there g_there f_is g_is = elim (one_or_two f g) [
  | inl e ↦ e
  | inr n ↦ absurd (
      let mine = k.agrees.holds f (λ z. z) f_there l f_is in
      let theirs = k.agrees.holds g (λ z. z) g_there l g_is in
      let more = fewer (is_own_hold l g) (is_other_hold l f) (own_other l f g n) S.locks.held in
      not_own S.locks l f k.once (omega arith) mine)
]

pub locks_apart : {A : Type 0} (plan : Plan) (run : List Event) (free : IsFreeRun A plan run) (n : ℕ) → n ≤ length run → LocksApart plan (free.states n)
locks_apart plan run free n h = record { one = one_frame plan (free.states n) (free_state plan run free n h) }
