-- One request more is awake, and all.
use Rattle.std.proofs.Common.{◌≡◌, Some, take, slice_get, sym, ap, ◌∙◌, arith}
use Rattle.std.proofs.lemmas.List.{take_all}
use Rattle.wdf_model.specs.Tables.{put}
use Rattle.wdf_model.specs.parts.Power.{no_holding, woken}
use Rattle.wdf_ilist.specs.Family.{list_at}
use Rattle.wdf_ilist.proofs.Places.{next_at, on_at}
use Rattle.wdf_power.proofs.Walking.{goes_on, passed_more}
use Rattle.wdf_power.proofs.Waking.{still_there, waking_all, waking_more}
use Rattle.wdf_power.proofs.holdings.Holdings.wake.Goals as goal

pub write-requires : goal.write-requires
write-requires c =
    let on = on_at (list_at c.args.held.now.lists c.device_list-list.result) c.loop.counter c.in-Some.r (sym c.loop.invariant.next ∙ c.in-Some.is) in
    omega (arith, c.front-next.ensures.apart.within c.in-Some.r c.device_list-list.result on, c.requires.items)

pub loop-preserved : goal.loop-preserved
loop-preserved c =
    let P = c.args.self.now in
    let now = c.loop.self in
    let d = c.args.d.0 in
    let k = c.loop.counter in
    let lists = c.args.held.now.lists in
    let r = c.in-Some.r in
    let xs = list_at lists c.device_list-list.result in
    let at : slice_get xs k ≡ Some r = sym c.loop.invariant.next ∙ c.in-Some.is in
    let long = still_there P now d r c.device_list-list.result (take k xs) lists c.loop.invariant.waking c.requires.listed (on_at xs k r at) in
    let new = c.woken.ensures ∙ ap (woken now d) c.holding.ensures in
    let more = waking_more P now c.write.new.self d r (take k xs) c.loop.invariant.waking long (c.write.ensures ∙ ap (λ h. record now { holdings = put no_holding now.holdings r h }) new) in
    record {
      next = c.after-next.ensures ∙ next_at c.args.held.now c.device_list-list.result k r c.front-next.ensures.apart at;
      waking = rw (passed_more xs k r at) more;
    }

pub returns-in-None : goal.returns-in-None
returns-in-None c = absurd (goes_on _ c.loop.counter _ c.loop.invariant.next c.in-None.is (omega (arith, c.loop-test.true, c.len-end.ensures)))

pub returns : goal.returns
returns c =
    let lists = c.args.held.now.lists in
    let all = take_all c.loop.counter (list_at lists c.device_list-list.result) (omega (arith, c.loop-test.false, c.len-end.ensures)) in
    waking_all c.args.self.now c.loop.self c.args.d.0 _ lists c.loop.invariant.waking c.requires.listed (all ∙ ap (list_at lists) c.device_list-list.ensures.value)
