-- The walk comes to the objects of the subtree, by rising ids.
use Rattle.std.proofs.Common.{length, length-set, refl, ap, ◌∙◌, arith}
use Rattle.wdf_tree.proofs.Gathering.{few_gathered, next_member, no_member, nothing_ahead, visit_there, walk_begins, walk_ends, walk_goes_on}
use Rattle.wdf_tree.proofs.tree.Tree.gather_along.Goals as goal

pub put-requires : goal.put-requires
put-requires c = let few = c.find_children.ensures.few in let size = c.find_children.ensures.size in let room = c.requires.room in let there = c.requires.there in omega arith

pub walk-init : goal.walk-init
walk-init c =
    let few = c.find_children.ensures.few in
    let size = c.find_children.ensures.size in
    record {
      walked = walk_begins c.args.self.now c.args.o c.find_children.ensures.ends c.requires.object _ _ _ _ c.requires.none_yet (omega (arith, c.requires.room, c.requires.there)) c.requires.clear c.find_children.ensures.each c.put.ensures;
      capacity = refl;
      size = ap length c.put.ensures ∙ length-set _ _ _ ∙ c.find_children.ensures.size;
    }

pub push_reserved-requires : goal.push_reserved-requires
push_reserved-requires c =
    let g = c.walk.invariant.walked in
    let first = next_member c.walk.ahead c.walk.from c.in-Some.x c.from.result c.from.ensures c.in-Some.is in
    let there = visit_there c.args.self.now c.args.o c.find_children.ensures.ends c.requires.object _ _ _ _ c.walk.ahead c.requires.there g first in
    let few = few_gathered c.args.self.now c.args.o c.walk.from c.walk.ids.items g.gathered in
    let above = first.above in
    omega (arith, c.walk.ids.ok.0, c.find_children.ensures.few, c.walk.invariant.capacity, c.requires.capacity)

pub put-requires-in-Some : goal.put-requires-in-Some
put-requires-in-Some c =
    let first = next_member c.walk.ahead c.walk.from c.in-Some.x c.from.result c.from.ensures c.in-Some.is in
    let there = visit_there c.args.self.now c.args.o c.find_children.ensures.ends c.requires.object _ _ _ _ c.walk.ahead c.requires.there c.walk.invariant.walked first in
    omega (arith, c.find_children.ensures.few, c.requires.room, c.walk.invariant.size)

pub find_later-requires-clause-there : goal.find_later-requires-clause-there
find_later-requires-clause-there c =
    let first = next_member c.walk.ahead c.walk.from c.in-Some.x c.from.result c.from.ensures c.in-Some.is in
    visit_there c.args.self.now c.args.o c.find_children.ensures.ends c.requires.object _ _ _ _ c.walk.ahead c.requires.there c.walk.invariant.walked first

pub find_later-requires-clause-small : goal.find_later-requires-clause-small
find_later-requires-clause-small c =
    let first = next_member c.walk.ahead c.walk.from c.in-Some.x c.from.result c.from.ensures c.in-Some.is in
    let there = visit_there c.args.self.now c.args.o c.find_children.ensures.ends c.requires.object _ _ _ _ c.walk.ahead c.requires.there c.walk.invariant.walked first in
    let few = c.find_children.ensures.few in
    omega arith

pub overflow_add-from : goal.overflow_add-from
overflow_add-from c =
    let first = next_member c.walk.ahead c.walk.from c.in-Some.x c.from.result c.from.ensures c.in-Some.is in
    let there = visit_there c.args.self.now c.args.o c.find_children.ensures.ends c.requires.object _ _ _ _ c.walk.ahead c.requires.there c.walk.invariant.walked first in
    let few = c.find_children.ensures.few in
    omega arith

pub walk-smaller : goal.walk-smaller
walk-smaller c =
    let first = next_member c.walk.ahead c.walk.from c.in-Some.x c.from.result c.from.ensures c.in-Some.is in
    let above = first.above in
    let there = visit_there c.args.self.now c.args.o c.find_children.ensures.ends c.requires.object _ _ _ _ c.walk.ahead c.requires.there c.walk.invariant.walked first in
    omega arith

pub walk-preserved : goal.walk-preserved
walk-preserved c =
    let first = next_member c.walk.ahead c.walk.from c.in-Some.x c.from.result c.from.ensures c.in-Some.is in
    record {
      walked = rw c.push_reserved.ensures.items
          (walk_goes_on c.args.self.now c.args.o c.find_children.ensures.ends c.requires.object _ _ _ _ _ c.requires.there c.walk.invariant.walked first (rw c.put-in-Some.ensures at c.find_later.ensures.each));
      capacity = c.push_reserved.ensures.capacity ∙ c.walk.invariant.capacity;
      size = c.find_later.ensures.size ∙ ap length c.put-in-Some.ensures ∙ length-set _ _ _ ∙ c.walk.invariant.size;
    }

pub returns-clause-ids : goal.returns-clause-ids
returns-clause-ids c =
    walk_ends c.args.self.now c.args.o c.find_children.ensures.ends c.requires.object _ _ _ c.walk.invariant.walked (no_member c.walk.ahead c.walk.from c.from.result c.from.ensures c.in_default.is)

pub returns-clause-clear : goal.returns-clause-clear
returns-clause-clear c =
    nothing_ahead c.args.self.now c.args.o c.find_children.ensures.ends c.requires.object _ _ _ c.walk.invariant.walked (no_member c.walk.ahead c.walk.from c.from.result c.from.ensures c.in_default.is)
