-- Objects that are passed without a look at each.
use Rattle.std.proofs.Common.{ℕ, zero, suc, ◌≡◌, ◌⊎◌, inl, inr, ◌+◌, ◌-◌, ◌<◌, ◌≤◌, true, false, List, [], ◌++◌, drop, filter, get_or, length, nat_lt, refl, sym, subst, ap, ◌∙◌, arith}
use Rattle.std.specs.List.{flat_map, range_with_len}
use Rattle.std.specs.List.Sorted.{IsNonDecreasing, IsPartitionPoint}
use Rattle.std.proofs.lemmas.Bool.{cases_lt, ltb-false, ltb-true}
use Rattle.std.proofs.lemmas.List.FromFn.{get_or-range_with_len, length-range_with_len}
use Rattle.std.proofs.lemmas.List.Kept.{IsNonDecreasingBy-filter}
use Rattle.wdf_base.specs.Meaning.{Meaning}
use Rattle.wdf_base.specs.declared.event.Event.{Event}
use Rattle.wdf_base.specs.declared.plan.Plan.{Plan}
use Rattle.wdf_base.specs.declared.rank.Rank.{Rank}
use Rattle.wdf_model.specs.State.{State}
use Rattle.wdf_offers.specs.Ahead.{NothingFor}
use Rattle.wdf_offers.proofs.Passing.{Passed, drops_all, index_there, piece_opens, same_rest}
use Rattle.wdf_ready.specs.Blocks.{NothingBetween, NothingAfter, events_for, is_startable, startable}
use Rattle.wdf_ready.proofs.InBlocks.{each_are, for_object}

-- ---- the objects of a rank rise

range_rises : (n : ℕ) → IsNonDecreasing (range_with_len 0 n)
range_rises n i j d up within =
    let many = length-range_with_len 0 n in
    let first = get_or-range_with_len 0 n i d (omega (arith, many)) in
    let second = get_or-range_with_len 0 n j d (omega (arith, many)) in
    omega (arith, first, second)

pub startable_rises : (plan : Plan) (r : Rank) (ids : List ℕ) → ids ≡ startable plan r → IsNonDecreasing ids
startable_rises plan r ids all =
    subst IsNonDecreasing (sym all)
    (IsNonDecreasingBy-filter (λ x. x) (is_startable plan r) (range_with_len 0 (suc (length plan.declared))) (range_rises (suc (length plan.declared))))

-- ---- pieces of which each has nothing are passed over

pieces_skipped : {T : Type 0} (f : ℕ → List T) (ids : List ℕ) (at more : ℕ) → at + more ≤ length ids → ((j : ℕ) → at ≤ j → j < at + more → f (get_or ids j 0) ≡ [])
    → flat_map f (drop at ids) ≡ flat_map f (drop (at + more) ids)
pieces_skipped f ids at zero low none = let e : at + 0 ≡ at = omega arith in rw e refl
pieces_skipped f ids at (suc more) low none =
    let e : at + suc more ≡ at + 1 + more = omega arith in
    piece_opens f ids at (get_or ids at 0) (index_there ids at 0 (omega arith))
    ∙ ap (λ es. es ++ flat_map f (drop (at + 1) ids)) (none at (omega arith) (omega arith))
    ∙ pieces_skipped f ids (at + 1) more (omega arith) (λ j up under. none j (omega arith) (omega arith))
    ∙ ap (λ k. flat_map f (drop k ids)) (sym e)

module _ {A : Type 0} (plan : Plan) (m : Meaning A) (S : State A) (r : Rank) (ids : List ℕ) (from : ℕ) where
  pub none_past : length ids ≤ from → NothingAfter plan m S r ids from
  none_past past cpu = ap (events_for plan m S cpu r) (drops_all ids from past)

  pub asked_here : from < length ids → NothingBetween plan m S r ids from from
  asked_here within = record { after = omega arith; within = within; passed = λ cpu. refl }

  -- nothing may come for ids from that of an object on below another one, so that the objects up to the first that isn't below it
  -- are passed over
  module _ (rising : IsNonDecreasing ids) (within : from < length ids) (next : ℕ) (nothing : NothingFor plan m S r (get_or ids from 0) next) (more : get_or ids from 0 < next)
      (place : ℕ) (few : place ≤ length ids) (splits : IsPartitionPoint (λ x. nat_lt x next ≡ true) (λ x. nat_lt x next ≡ false) ids place) where
    after : from ≤ place
    after = by (cases_lt from place)
      where
        by : (from < place) ⊎ (place ≤ from) → from ≤ place
        by (inl less) = omega arith
        by (inr over) = absurd (let high = ltb-false (get_or ids from 0) next (splits.1 from 0 over within) in omega (arith, high, more))

    off : (cpu j : ℕ) → from ≤ j → j < place → for_object plan m S cpu r (get_or ids j 0) ≡ []
    off cpu j up under =
        nothing cpu (get_or ids j 0) (rising from j 0 up (omega (arith, few, under))) (ltb-true (get_or ids j 0) next (splits.0 j 0 (omega arith) under))

    passed : (cpu : ℕ) → events_for plan m S cpu r (drop from ids) ≡ events_for plan m S cpu r (drop place ids)
    passed cpu =
        let up = after in
        let e : from + (place - from) ≡ place = omega (arith, up) in
        each_are plan m S cpu r (drop from ids)
        ∙ pieces_skipped (for_object plan m S cpu r) ids from (place - from) (omega (arith, e, few)) (λ j above below. off cpu j above (omega (arith, e, below)))
        ∙ ap (λ k. flat_map (for_object plan m S cpu r) (drop k ids)) e
        ∙ sym (each_are plan m S cpu r (drop place ids))

    pub asked_later : place < length ids → NothingBetween plan m S r ids from place
    asked_later there = record { after = after; within = there; passed = passed }

    pub none_later : length ids ≤ place → NothingAfter plan m S r ids from
    none_later past cpu = passed cpu ∙ ap (events_for plan m S cpu r) (drops_all ids place past)

-- ---- object by object

module _ {A : Type 0} (plan : Plan) (m : Meaning A) (S : State A) (cpu : ℕ) (r : Rank) (ids : List ℕ) (from : ℕ) (all : List Event) (count : ℕ) where
  pub passed_to : (place : ℕ) → NothingBetween plan m S r ids from place → Passed all (flat_map (for_object plan m S cpu r) (drop from ids)) count
      → Passed all (flat_map (for_object plan m S cpu r) (drop place ids)) count
  passed_to place next p =
      same_rest all (flat_map (for_object plan m S cpu r) (drop from ids)) (flat_map (for_object plan m S cpu r) (drop place ids)) count
      (sym (each_are plan m S cpu r (drop from ids)) ∙ next.passed cpu ∙ each_are plan m S cpu r (drop place ids)) p

  pub passed_whole : NothingAfter plan m S r ids from → Passed all (flat_map (for_object plan m S cpu r) (drop from ids)) count → Passed all [] count
  passed_whole none p = same_rest all (flat_map (for_object plan m S cpu r) (drop from ids)) [] count (sym (each_are plan m S cpu r (drop from ids)) ∙ none cpu) p
