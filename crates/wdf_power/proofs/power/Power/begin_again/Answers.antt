-- Nobody is on a list, as at the opening.
use Rattle.std.proofs.Common.{◌≡◌, ◌+◌, length, ap, ◌∙◌, arith}
use Rattle.wdf_model.specs.parts.Power.{Power}
use Rattle.wdf_ilist.specs.Family.{Family}
use Rattle.wdf_ilist.proofs.Lists.{cleared}
use Rattle.wdf_power.proofs.Listing.{as_many_made, listed_made, lists_made}
use Rattle.wdf_power.proofs.power.Power.begin_again.Goals as goal

pub write_devices-requires : goal.write_devices-requires
write_devices-requires c =
    let many : length c.self.inside.devices.items ≡ 1 + length c.args.plan.now.declared = ap (λ (P : Power). length P.devices) c.self.view_is ∙ c.requires in
    omega (arith, c.self.inside.devices.ok.0)

pub begin_again-requires : goal.begin_again-requires
begin_again-requires c = c.self.invariant.as_many ∙ ap (λ (P : Power). length P.devices) c.self.view_is ∙ c.requires

pub invariant_of-self : goal.invariant_of-self
invariant_of-self c =
    let none = cleared c.self.inside.held c.clear.new.self 204098 204097 c.self.invariant.lists c.self.invariant.items c.clear.ensures in
    record {
      lists = lists_made c.clear.new.self 204098 204097 none;
      items = ap (λ (F : Family). F.items) none;
      listed = listed_made _ _ c.clear.new.self 204098 204097 (ap (λ (P : Power). P.holdings) c.begin_again.ensures) none;
      as_many = as_many_made c.args.plan.now _ _ (ap (λ (P : Power). P.queues) c.begin_again.ensures) c.write_devices.ensures;
    }
