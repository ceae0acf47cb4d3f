-- What is there is found, and goes.
use Rattle.std.proofs.Common.{◌<◌, length, arith}
use Rattle.std.specs.List.Sorted.{IsBinarySearchResult}
use Rattle.std.specs.Ordering.{nat_cmp}
use Rattle.wdf_cpu.proofs.Ticks.{missing_not_there, order_went}
use Rattle.wdf_cpu.proofs.untils.drop_tick.Goals as goal

pub returns-in-Ok-clause-order : goal.returns-in-Ok-clause-order
returns-in-Ok-clause-order c =
    let xs = c.args.ticks.now.items in
    let within : c.in-Ok.place < length xs = rw c.deref.ensures.value at c.in-Ok.ensures.bound in
    rw c.remove.ensures.items (order_went xs c.in-Ok.place within c.requires.order)

pub returns-in_default-clause-went : goal.returns-in_default-clause-went
returns-in_default-clause-went c =
    let xs = c.args.ticks.now.items in
    let searched : IsBinarySearchResult (λ y. nat_cmp y c.args.tick) xs c.binary_search.result = rw c.deref.ensures.value at c.binary_search.ensures.position in
    let some = c.if-tick-eq0.false in
    absurd (missing_not_there xs c.args.tick c.binary_search.result c.requires.order searched c.in_default.not-Ok (c.requires.there (omega arith)))
