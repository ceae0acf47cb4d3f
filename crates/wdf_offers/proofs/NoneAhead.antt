-- Where what is counted says that the callbacks of a rank are due on no object of some, nothing may come for these.
use Rattle.std.proofs.Common.{if◌then◌else◌, Bool, true, false, not, ◌==◌, ◌&&◌, ℕ, ◌≡◌, List, [], ◌∷◌, length, Option, Some, None, refl, ap, ◌∙◌, arith}
use Rattle.std.specs.Prelude.{nat_le}
use Rattle.std.specs.List.{list_any}
use Rattle.std.proofs.lemmas.Bool.{eqb-true, ltb-false, or_parts}
use Rattle.wdf_base.specs.Meaning.{Meaning}
use Rattle.wdf_base.specs.declared.plan.Plan.{Plan}
use Rattle.wdf_base.specs.declared.rank.Rank.{Rank}
use Rattle.wdf_base.specs.declared.rank.Rank.TheVariants as rank
use Rattle.wdf_model.proofs.Tests.{both_left, not_false, not_true}
use Rattle.wdf_model.specs.Plans.{is_managed}
use Rattle.wdf_model.specs.State.{State, is_held_from, is_with_driver}
use Rattle.wdf_model.specs.Tables.{same_id}
use Rattle.wdf_model.specs.declared.entries.Holding.{Holding}
use Rattle.wdf_model.specs.declared.enums.Group.TheVariants as group
use Rattle.wdf_model.specs.parts.Power.{holding_of, resume_due}
use Rattle.wdf_model.specs.parts.Requests.{origin_of}
use Rattle.law_machine_base.specs.Agreement.{managed_origin}
use Rattle.wdf_maps.specs.Counts.{is_at}
use Rattle.wdf_power.specs.ForQueues.{resuming_from, resuming_queue}
use Rattle.wdf_request.specs.Keys.{is_due_sent}
use Rattle.wdf_sets.specs.Nexts.{NoneFrom}
use Rattle.wdf_offers.specs.declared.for_requests.Herd.{Herd}
use Rattle.wdf_offers.specs.declared.for_requests.Herd.TheVariants as herd
use Rattle.wdf_offers.specs.Ahead.{NothingFor, goes_by_counts, has_counted, may_be_due, may_be_due_on}
use Rattle.wdf_offers.specs.ForRequests.{IsExact, counted, herd_group, herd_of, is_counted, may_begin}
use Rattle.wdf_offers.specs.Leaving.{IsSettled}
use Rattle.wdf_offers.specs.Search.{offered_from}
use Rattle.wdf_offers.proofs.AtRest.{none_among, unfinished_off}
use Rattle.wdf_offers.proofs.HerdWalk.{none_on, past_holdings}
use Rattle.wdf_offers.proofs.Herds.{else_none, exact_cancels, exact_resumes, exact_returns, exact_stops, herd_is}
use Rattle.wdf_offers.proofs.NotOffered.{not_due}
use Rattle.wdf_offers.proofs.Places.{nothing_there}

-- below itself there is no id
pub none_yet : (test : ℕ → Bool) (from : ℕ) → NoneFrom test from from
none_yet test from id after below = absurd (omega arith)

-- where the callback is due on no queue for which none is counted
pub by_counts : {A : Type 0} (S : State A) (h : Herd) (from to : ℕ) → goes_by_counts h S ≡ true → NoneFrom (has_counted h S) from to → NoneFrom (may_be_due_on S (Some h)) from to
by_counts S h from to told none id after below = rw (none id after below, told) refl

-- of another rank than that of completion routines its herd says it
pub by_herd : {A : Type 0} (S : State A) (r : Rank) (from to : ℕ) → (r ≡ rank.Completion → ⊥) → NoneFrom (may_be_due_on S (herd_of r)) from to → NoneFrom (may_be_due S r) from to
by_herd S rank.Completion from to other none = absurd (other refl)
by_herd S r from to other none = none

no_item : {T : Type 0} (xs : List T) → length xs ≡ 0 → xs ≡ []
no_item [] h = refl
no_item (x ∷ xs) h = absurd (omega arith)

-- what the driver holds from a queue that isn't power-managed is noted as held from none
noted_by : (plan : Plan) (q : ℕ) (w : Bool) (o : Option ℕ) → is_managed plan q ≡ false → (same_id o q && w) ≡ true → (if w then managed_origin plan o else 0) ≡ 0
noted_by plan q false o other held = refl
noted_by plan q true None other held = refl
noted_by plan q true (Some p) other held =
    let same : p ≡ q = eqb-true p q (both_left (p == q) true held) in
    ap (λ x. if is_managed plan x then x else 0) same ∙ ap (λ b. if b then q else 0) other

module _ {A : Type 0} (plan : Plan) (m : Meaning A) (S : State A) (settled : IsSettled plan S) (cpu q : ℕ) where
  none_counted : (h : Herd) → has_counted h S q ≡ false → length (counted h S q) ≡ 0
  none_counted h e = let low = ltb-false 0 (length (counted h S q)) e in omega (arith, low)

  -- where those that are counted for a queue are those for which its callback is due, and none is, nothing may come
  exact_off : (h : Herd) → IsExact plan S h q → has_counted h S q ≡ false → offered_from plan m S (herd_group h cpu q) 0 ≡ []
  exact_off h exact e =
      no_item (offered_from plan m S (herd_group h cpu q) 0)
      (herd_is plan m S cpu q h exact ∙ else_none (may_begin plan S h cpu q) (length (counted h S q)) (length (counted h S q)) refl (omega (arith, none_counted h e)))

  -- where no resume is due for what is held from no power-managed queue, none is due on a queue that isn't power-managed
  module _ (other : is_managed plan q ≡ false) (none : length (resuming_from S.power 0) ≡ 0) where
    not_noted : (r : ℕ) → is_counted herd.Resume S 0 r ≡ false
    not_noted r =
        none_on (is_counted herd.Resume S 0) (length S.power.holdings) (past_holdings S (λ (x : Holding). is_at 0 (resuming_queue x)) refl) 0 (none_among (nat_le 0) (resuming_from S.power 0) none) r
        (omega arith)

    noted : (r : ℕ) → resume_due S.power r ≡ true → is_held_from S q r ≡ true → is_counted herd.Resume S 0 r ≡ true
    noted r due held =
        let first : (holding_of S.power r).queue.0 ≡ 0 = settled.holdings r ∙ noted_by plan q (is_with_driver S r) (origin_of S.requests r) other held in
        ap (λ b. is_at 0 (if b then Some (holding_of S.power r).queue else None)) due ∙ ap (λ n. n == 0) first

    not_resumed : (r : ℕ) (d f : Bool) → resume_due S.power r ≡ d → is_held_from S q r ≡ f → (d && f) ≡ false
    not_resumed r true true due held = absurd (let on = noted r due held in let off = not_noted r in let z : ⊥ = cc in z)
    not_resumed r true false due held = refl
    not_resumed r false f due held = refl

    unmanaged_off : offered_from plan m S (group.StartsFor cpu rank.Resume q) 0 ≡ []
    unmanaged_off =
        nothing_there plan m S (group.StartsFor cpu rank.Resume q)
        (λ r. not_due plan m S cpu rank.Resume q r (not_resumed r (resume_due S.power r) (is_held_from S q r) refl refl))

  resumes_by : (b : Bool) → is_managed plan q ≡ b → goes_by_counts herd.Resume S ≡ true → has_counted herd.Resume S q ≡ false → offered_from plan m S (group.StartsFor cpu rank.Resume q) 0 ≡ []
  resumes_by true managed told e = exact_off herd.Resume (exact_resumes plan S q settled.holdings managed) e
  resumes_by false other told e = unmanaged_off other (eqb-true (length (resuming_from S.power 0)) 0 told)

  counted_off : (h : Herd) → goes_by_counts h S ≡ true → has_counted h S q ≡ false → offered_from plan m S (herd_group h cpu q) 0 ≡ []
  counted_off herd.Cancel told e = exact_off herd.Cancel (exact_cancels plan S q (not_true (list_any is_due_sent S.requests.all) told)) e
  counted_off herd.Return told e = exact_off herd.Return (exact_returns plan S q) e
  counted_off herd.Stop told e = exact_off herd.Stop (exact_stops plan S q settled.holdings) e
  counted_off herd.Resume told e = resumes_by (is_managed plan q) refl told e

  herd_off : (h : Herd) → may_be_due_on S (Some h) q ≡ false → offered_from plan m S (herd_group h cpu q) 0 ≡ []
  herd_off h e =
      let both = or_parts (has_counted h S q) (not (goes_by_counts h S)) e in
      counted_off h (not_false (goes_by_counts h S) both.1) both.0

  undue_for : (r : Rank) → may_be_due S r q ≡ false → offered_from plan m S (group.StartsFor cpu r q) 0 ≡ []
  undue_for rank.Completion e = unfinished_off plan m S cpu q e
  undue_for rank.Cancel e = herd_off herd.Cancel e
  undue_for rank.CanceledOnQueue e = herd_off herd.Return e
  undue_for rank.Stop e = herd_off herd.Stop e
  undue_for rank.Resume e = herd_off herd.Resume e
  undue_for _ e = absurd (let z : ⊥ = cc in z)

-- nothing may come for the objects that are passed
pub nothing_for : {A : Type 0} (plan : Plan) (m : Meaning A) (S : State A) → IsSettled plan S → (r : Rank) (from to : ℕ) → NoneFrom (may_be_due S r) from to → NothingFor plan m S r from to
nothing_for plan m S settled r from to none cpu o after below = undue_for plan m S settled cpu o r (none o after below)
