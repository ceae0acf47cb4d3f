-- At the opening nobody is on a list.
use Rattle.std.proofs.Common.{ap}
use Rattle.wdf_model.specs.parts.Power.{Power}
use Rattle.wdf_ilist.specs.Family.{Family}
use Rattle.wdf_power.proofs.Listing.{as_many_made, listed_made, lists_made}
use Rattle.wdf_power.proofs.power.Power.make.Goals as goal

pub invariant_of-result : goal.invariant_of-result
invariant_of-result c = record {
  lists = lists_made c.in_ok-make.field-0 204098 204097 c.in_ok-make.ensures;
  items = ap (λ (F : Family). F.items) c.in_ok-make.ensures;
  listed = listed_made _ _ c.in_ok-make.field-0 204098 204097 (ap (λ (P : Power). P.holdings) c.in_ok-make-2.ensures) c.in_ok-make.ensures;
  as_many = as_many_made c.args.plan.now _ _ (ap (λ (P : Power). P.queues) c.in_ok-make-2.ensures) c.in_ok-opening_devices.ensures;
}
