-- Nothing is kept of no events.
use Rattle.std.proofs.Common.{arith}
use Rattle.check_past.proofs.Steps.{signs_none, lists_none}
use Rattle.check_past.proofs.past.Past.open.Goals as goal

pub invariant_of-result : goal.invariant_of-result
invariant_of-result c = record {
  within = omega arith;
  children_are = c.in_ok-children.ensures;
  signs_are = signs_none c.in_ok-kin.kin.plan c.in_ok-kin.kin.all c.make.result c.make.ensures.lasts c.make.ensures.up c.make.ensures.enabled c.make.ensures.referenced c.make.ensures.dereferenced;
  lists_are = lists_none c.in_ok-kin.kin.plan c.in_ok-kin.kin.all c.make-2.result c.make-2.ensures.arrivals c.make-2.ensures.takings c.make-2.ensures.tail_entries c.make-2.ensures.tail_numbers c.make-2.ensures.heads;
}
