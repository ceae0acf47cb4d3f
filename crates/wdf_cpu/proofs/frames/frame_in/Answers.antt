-- The place is on this processor, or as far on from the next one.
use Rattle.std.proofs.Common.{◌≡◌, ◌≤◌, ◌++◌, length, drop, sym, ap, ◌∙◌, arith}
use Rattle.std.specs.List.{slice_get}
use Rattle.std.proofs.lemmas.List.{drop_all}
use Rattle.std.proofs.lemmas.Option.{slice_get-get_or}
use Rattle.wdf_cpu.proofs.Places.{in_rest, in_this, rest_within, stacked}
use Rattle.wdf_cpu.proofs.frames.frame_in.Goals as goal

pub returns-then-left-len : goal.returns-then-left-len
returns-then-left-len c =
    sym c.loop-stack.invariant.same
    ∙ in_this c.args.stacks.now c.args.parked.now c.loop-stack.stack-index c.stack-item.result c.loop-stack.left (omega arith) c.stack-item.is (omega arith)
    ∙ c.get.ensures

pub loop-stack-preserved : goal.loop-stack-preserved
loop-stack-preserved c = record {
  same = rw c.len-left.ensures
      (sym (in_rest c.args.stacks.now c.args.parked.now c.loop-stack.stack-index c.stack-item.result c.loop-stack.left (omega arith) c.stack-item.is (omega arith)) ∙ c.loop-stack.invariant.same);
  within = rw c.len-left.ensures
      (rest_within c.args.stacks.now c.args.parked.now c.loop-stack.stack-index c.stack-item.result c.loop-stack.left (omega arith) c.stack-item.is (omega arith) c.loop-stack.invariant.within);
}

pub returns : goal.returns
returns c =
    let past : length c.args.stacks.now ≤ c.loop-stack.stack-index = omega arith in
    let none : stacked (drop c.loop-stack.stack-index c.args.stacks.now) ++ c.args.parked.now ≡ c.args.parked.now = ap (λ rest. stacked rest ++ c.args.parked.now) (drop_all c.loop-stack.stack-index c.args.stacks.now past) in
    let within = ap length none in
    sym c.loop-stack.invariant.same ∙ ap (λ xs. slice_get xs c.loop-stack.left) none ∙ slice_get-get_or c.args.parked.now c.loop-stack.left 0 (omega arith)
