-- Where the callbacks of a rank rest on a processor, nothing may come of them.
use Rattle.std.proofs.Common.{Bool, true, false, not, ◌==◌, ◌&&◌, ◌||◌, ℕ, ◌≡◌, List, [], ◌∷◌, find, length, slice_get, Option, Some, None, refl, ap, ◌∙◌, arith}
use Rattle.std.specs.Prelude.{nat_le}
use Rattle.std.proofs.lemmas.Bool.{eqb-true}
use Rattle.wdf_base.specs.Meaning.{Meaning}
use Rattle.wdf_base.specs.Places.{is_sent_to}
use Rattle.wdf_base.specs.Same.{same_option, same_step}
use Rattle.wdf_base.specs.declared.event.Stage.TheVariants as stage
use Rattle.wdf_base.specs.declared.event.Step.TheVariants as step
use Rattle.wdf_base.specs.declared.plan.Plan.{Plan}
use Rattle.wdf_base.specs.declared.rank.Rank.{Rank}
use Rattle.wdf_base.specs.declared.rank.Rank.TheVariants as rank
use Rattle.wdf_model.proofs.Tests.{left_fails, right_fails}
use Rattle.wdf_model.specs.Plans.{is_managed}
use Rattle.wdf_model.specs.State.{State, is_held_from}
use Rattle.wdf_model.specs.declared.entries.Sending.{Sending}
use Rattle.wdf_model.specs.declared.enums.Group.TheVariants as group
use Rattle.wdf_model.specs.Tables.{first_of_list}
use Rattle.wdf_model.specs.parts.Pnp.{Pnp, next_step}
use Rattle.wdf_model.specs.parts.Power.{resume_due, stop_was_asked}
use Rattle.wdf_model.specs.parts.Requests.{place_of}
use Rattle.wdf_model.specs.parts.Targets.{the_target}
use Rattle.wdf_model.specs.parts.Tree.{nearest_device}
use Rattle.wdf_model.specs.rules.Starts.{level_fits}
use Rattle.wdf_pnp.specs.Stepping.{none_stepping}
use Rattle.wdf_pnp.proofs.Stepping.{at_rest}
use Rattle.wdf_target.specs.Finished.{finished_at, has_finished, is_finished, passes_if}
use Rattle.wdf_target.proofs.Noting.{unfinished, unfinished_at}
use Rattle.wdf_offers.specs.declared.for_requests.Herd.{Herd}
use Rattle.wdf_offers.specs.declared.for_requests.Herd.TheVariants as herd
use Rattle.wdf_offers.specs.ForRequests.{IsExact, can_be, herd_of, is_counted, is_due_for, rank_of, whole}
use Rattle.wdf_offers.specs.Idle.{is_due_at, is_sending_due, settles_next}
use Rattle.wdf_offers.specs.Leaving.{IsSettled}
use Rattle.wdf_offers.specs.Resting.{none_counted, none_due}
use Rattle.wdf_offers.specs.Search.{offered_from}
use Rattle.wdf_offers.proofs.Cancels.{not_on}
use Rattle.wdf_offers.proofs.HerdWalk.{none_of}
use Rattle.wdf_offers.proofs.Herds.{exact_returns, exact_stops, whole_part, whole_test}
use Rattle.wdf_offers.proofs.NotOffered.{for_low, not_due, too_high_for}
use Rattle.wdf_offers.proofs.Places.{nothing_there}

pub none_among : (p : ℕ → Bool) (xs : List ℕ) → length xs ≡ 0 → None ≡ find p xs
none_among p [] h = refl
none_among p (x ∷ xs) h = absurd (omega arith)

fails_with : (c w : Bool) → (c ≡ true → w ≡ true) → w ≡ false → c ≡ false
fails_with true w part h = absurd (let on = part refl in let z : ⊥ = cc in z)
fails_with false w part h = refl

-- where no device has a step left, none has one that says that its queues have settled
settles_none : (P : Pnp) (d : ℕ) → none_stepping P ≡ true → same_option same_step (next_step P d) (Some (step.Pass stage.Settled None)) ≡ false
settles_none P d h = ap (λ ss. same_option same_step (first_of_list ss) (Some (step.Pass stage.Settled None))) (at_rest P d h)

-- where the target doesn't say of a request that its completion routine is due, it isn't
module _ {A : Type 0} (plan : Plan) (S : State A) (t : ℕ) where
  undue_by : (s : Option Sending) → passes_if (is_finished S.targets) s ≡ false → is_sending_due plan S t s ≡ false
  undue_by None h = refl
  undue_by (Some s) h = right_fails (is_sent_to t (place_of S.requests s.request.0)) (is_finished S.targets s) h

  pub undue_at : (k : ℕ) → finished_at S.targets t k ≡ false → is_due_at plan S rank.Completion t k ≡ false
  undue_at k h = undue_by (slice_get (the_target S.targets t).sent k) h

-- so nothing may come of the completion routines of a target that says so of none
pub unfinished_off : {A : Type 0} (plan : Plan) (m : Meaning A) (S : State A) (cpu t : ℕ) → has_finished S.targets t ≡ false → offered_from plan m S (group.StartsFor cpu rank.Completion t) 0 ≡ []
unfinished_off plan m S cpu t h =
    nothing_there plan m S (group.StartsFor cpu rank.Completion t) (λ k. not_due plan m S cpu rank.Completion t k (undue_at plan S t k (unfinished_at S.targets t k h)))

module _ {A : Type 0} (plan : Plan) (m : Meaning A) (S : State A) (settled : IsSettled plan S) where
  module _ (h : Herd) (none : length (whole h S) ≡ 0) where
    whole_off : (r : ℕ) → whole_test h S r ≡ false
    whole_off r = none_of S h 0 (none_among (nat_le 0) (whole h S) none) r (omega arith)

    exact_off : (q : ℕ) → IsExact plan S h q → (r : ℕ) → is_due_for plan S h q r ≡ false
    exact_off q exact r =
        exact.due r
        ∙ right_fails (can_be plan S h q) (is_counted h S q r) (fails_with (is_counted h S q r) (whole_test h S r) (whole_part h S q r) (whole_off r))

  -- where no request is counted for whatever queue, the callback is due on no queue
  due_off : (h : Herd) → length (whole h S) ≡ 0 → (q r : ℕ) → is_due_at plan S (rank_of h) q r ≡ false
  due_off herd.Cancel none q r = not_on plan S q r (whole_off herd.Cancel none r)
  due_off herd.Return none q r = exact_off herd.Return none q (exact_returns plan S q) r
  due_off herd.Stop none q r = exact_off herd.Stop none q (exact_stops plan S q settled.holdings) r
  due_off herd.Resume none q r = left_fails (resume_due S.power r) (is_held_from S q r) (whole_off herd.Resume none r)

  module _ (cpu : ℕ) where
    herd_off : (h : Herd) → (length (whole h S) == 0) ≡ true → (q : ℕ) → offered_from plan m S (group.StartsFor cpu (rank_of h) q) 0 ≡ []
    herd_off h e q = nothing_there plan m S (group.StartsFor cpu (rank_of h) q) (λ k. not_due plan m S cpu (rank_of h) q k (due_off h (eqb-true (length (whole h S)) 0 e) q k))

    -- where none is counted for the callbacks of a rank, nothing may come of them
    counted_off : (r : Rank) → none_counted S (herd_of r) ≡ true → (o : ℕ) → offered_from plan m S (group.StartsFor cpu r o) 0 ≡ []
    counted_off rank.Cancel e o = herd_off herd.Cancel e o
    counted_off rank.CanceledOnQueue e o = herd_off herd.Return e o
    counted_off rank.Stop e o = herd_off herd.Stop e o
    counted_off rank.Resume e o = herd_off herd.Resume e o
    counted_off _ e o = absurd (let z : ⊥ = cc in z)

    -- where no device has a step left, EvtIoStop is due on no queue
    still_off : none_stepping S.pnp ≡ true → (q : ℕ) → offered_from plan m S (group.StartsFor cpu rank.Stop q) 0 ≡ []
    still_off e q =
        let still : settles_next S (nearest_device S.tree q) ≡ false = settles_none S.pnp (nearest_device S.tree q) e in
        nothing_there plan m S (group.StartsFor cpu rank.Stop q)
        (λ k. not_due plan m S cpu rank.Stop q k
        (right_fails (is_managed plan q && is_held_from S q k && not (stop_was_asked S.power k)) (settles_next S (nearest_device S.tree q)) still))

    -- where none is counted for EvtIoStop, or no device has a step left, nothing may come of it
    stops_off : (counted still : Bool) → none_counted S (herd_of rank.Stop) ≡ counted → none_stepping S.pnp ≡ still → (counted || still) ≡ true → (q : ℕ) → offered_from plan m S (group.StartsFor cpu rank.Stop q) 0 ≡ []
    stops_off true still a b e q = counted_off rank.Stop a q
    stops_off false still a b e q = still_off (b ∙ e) q

    -- where the callbacks of a rank are due for no request, nothing may come of them
    pub undue_off : (r : Rank) → none_due S r ≡ true → (o : ℕ) → offered_from plan m S (group.StartsFor cpu r o) 0 ≡ []
    undue_off rank.Completion e o = unfinished_off plan m S cpu o (unfinished S.targets o e)
    undue_off rank.Stop e o = stops_off (none_counted S (herd_of rank.Stop)) (none_stepping S.pnp) refl refl e o
    undue_off r e o = counted_off r e o

    -- nor where the level is too high
    pub high_off : (r : Rank) → not (level_fits S cpu 2) ≡ true → (o : ℕ) → offered_from plan m S (group.StartsFor cpu r o) 0 ≡ []
    high_off r high o = nothing_there plan m S (group.StartsFor cpu r o) (λ k. too_high_for plan m S cpu r o k 2 (for_low plan r o) high)
