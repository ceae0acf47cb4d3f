-- An item more was put into the set.
use Rattle.std.proofs.Common.{◌∙◌}
use Rattle.wdf_ilist.specs.Family.{list_at}
use Rattle.wdf_tree.proofs.Lists.{item_within, next_place, put_more}
use Rattle.wdf_tree.proofs.tree.gather.put_list.Goals as goal

pub put_from-requires : goal.put_from-requires
put_from-requires c = record {
  room = item_within c.args.links.now c.args.list c.loop-place.place _ c.loop-place.item c.front-item.ensures.apart (rw c.loop-place.invariant.size c.requires.room) c.loop-place.invariant.at;
}

pub loop-place-preserved : goal.loop-place-preserved
loop-place-preserved c = record {
  at = c.item_after-item.ensures ∙ next_place c.args.links.now c.args.list c.loop-place.place c.loop-place.item c.front-item.ensures.apart c.loop-place.invariant.at;
  size = c.put_from.ensures.size ∙ c.loop-place.invariant.size;
  each = λ id. put_more (list_at c.args.links.now.lists c.args.list) c.loop-place.place c.args.first id _ _ _ c.loop-place.item c.loop-place.invariant.at (c.loop-place.invariant.each id) (c.put_from.ensures.each id);
}
