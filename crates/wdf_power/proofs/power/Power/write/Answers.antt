-- The request is on the list of its device, if it is held.
use Rattle.std.proofs.Common.{Option, length, ap, ◌∙◌, subst, ℕ}
use Rattle.wdf_model.specs.parts.Power.{Power}
use Rattle.wdf_power.specs.Power.{IsMoved}
use Rattle.wdf_power.proofs.Listing.{listed_written}
use Rattle.wdf_power.proofs.power.Power.write.Goals as goal

pub invariant_of-self : goal.invariant_of-self
invariant_of-self c =
    let a = c.self.inside in
    let P : Option ℕ → Type 0 = λ l. IsMoved a.held.lists c.move_to.new.held.lists c.args.r.0 l in
    let moved = subst P c.held_list-list.ensures.value c.move_to.ensures.moved in
    record {
      lists = c.move_to.ensures.lists ∙ c.self.invariant.lists;
      items = c.move_to.ensures.items ∙ c.self.invariant.items;
      listed = rw c.write.ensures (listed_written a.holdings.queues a.holdings.holdings a.held.lists c.move_to.new.held.lists c.args.r.0 c.args.new c.self.invariant.listed moved);
      as_many = ap (λ (P : Power). length P.queues) c.write.ensures ∙ c.self.invariant.as_many;
    }
