-- There is room for all frames.
use Rattle.std.proofs.Common.{◌≡◌, length, arith, length-append}
use Rattle.wdf_cpu.specs.Kept.{cpus_in}
use Rattle.wdf_cpu.proofs.Live.{few_frames}
use Rattle.wdf_cpu.proofs.Places.{stacked}
use Rattle.wdf_cpu.proofs.cpus.Cpus.live_len.Goals as goal

pub stacked_len-requires : goal.stacked_len-requires
stacked_len-requires c =
    let a = c.self.inside in
    let few = few_frames (cpus_in a) a.live.items c.self.invariant.kept.live in
    let both = length-append (stacked a.stacks.items) a.parked.entries in
    rw c.deref.ensures.value (omega arith)

pub overflow_add-result : goal.overflow_add-result
overflow_add-result c =
    let a = c.self.inside in
    let few = few_frames (cpus_in a) a.live.items c.self.invariant.kept.live in
    let both = length-append (stacked a.stacks.items) a.parked.entries in
    let on : c.stacked_len.result ≡ length (stacked a.stacks.items) = rw c.deref.ensures.value at c.stacked_len.ensures in
    omega arith

pub returns-clause-small : goal.returns-clause-small
returns-clause-small c =
    let a = c.self.inside in
    let few = few_frames (cpus_in a) a.live.items c.self.invariant.kept.live in
    let both = length-append (stacked a.stacks.items) a.parked.entries in
    let on : c.stacked_len.result ≡ length (stacked a.stacks.items) = rw c.deref.ensures.value at c.stacked_len.ensures in
    omega arith
