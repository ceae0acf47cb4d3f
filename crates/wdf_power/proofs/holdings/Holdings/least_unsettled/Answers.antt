-- One request more is looked at, and all.
use Rattle.std.proofs.Common.{◌≡◌, Some, slice_get, length, refl, sym, ◌∙◌, arith}
use Rattle.std.proofs.lemmas.List.{take_all}
use Rattle.wdf_model.specs.parts.Power.{holding_of, is_unsettled_at}
use Rattle.wdf_ilist.specs.Family.{list_at}
use Rattle.wdf_ilist.proofs.Places.{next_at}
use Rattle.wdf_power.proofs.Listing.{unsettled_on, unsettled_there}
use Rattle.wdf_power.proofs.Low.{low_is_least, low_more}
use Rattle.wdf_power.proofs.Walking.{goes_on, passed_more}
use Rattle.wdf_power.proofs.holdings.Holdings.least_unsettled.Goals as goal

pub loop-preserved : goal.loop-preserved
loop-preserved c =
    let P = c.args.self.now in
    let d = c.args.d.0 in
    let k = c.loop.counter in
    let r = c.in-Some.r in
    let xs = list_at c.args.held.now.lists c.device_list-list.result in
    let at : slice_get xs k ≡ Some r = sym c.loop.invariant.next ∙ c.in-Some.is in
    record {
      next = c.after-next.ensures ∙ next_at c.args.held.now c.device_list-list.result k r c.front-next.ensures.apart at;
      low = rw (passed_more xs k r at, c.lesser_unsettled-found.ensures) (low_more (λ x. is_unsettled_at P d (holding_of P x)) _ r c.loop.found (is_unsettled_at P d (holding_of P r)) refl c.loop.invariant.low);
    }

pub returns-in-None : goal.returns-in-None
returns-in-None c = absurd (goes_on _ c.loop.counter _ c.loop.invariant.next c.in-None.is (omega (arith, c.loop-test.true, c.len-end.ensures)))

pub returns : goal.returns
returns c =
    let P = c.args.self.now in
    let d = c.args.d.0 in
    let lists = c.args.held.now.lists in
    let all = take_all c.loop.counter (list_at lists c.device_list-list.result) (omega (arith, c.loop-test.false, c.len-end.ensures)) in
    low_is_least (λ x. is_unsettled_at P d (holding_of P x)) _ (length P.holdings) c.loop.found (unsettled_on P d lists c.requires) (unsettled_there P d lists c.requires) (rw (all, c.device_list-list.ensures.value) at c.loop.invariant.low)
