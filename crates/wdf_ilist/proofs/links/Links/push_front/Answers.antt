use Rattle.std.proofs.Common.{◌+◌, ◌∷◌, length, slice_set, length-set, ap, ◌∙◌}
use Rattle.wdf_ilist.specs.Family.{list_at}
use Rattle.wdf_ilist.proofs.Acts.{family_read, count_may_grow, sound_pushed_front}
use Rattle.wdf_ilist.proofs.Sound.{sound_as_read}
use Rattle.wdf_ilist.proofs.links.Links.push_front.Goals as goal

pub enter-requires-clause-room : goal.enter-requires-clause-room
enter-requires-clause-room c = count_may_grow c.self.inside c.args.self.now c.args.item c.args.list c.self.view_is c.self.invariant c.requires.within c.requires.free

pub invariant_of-self : goal.invariant_of-self
invariant_of-self c =
    let family = c.args.self.now in
    sound_as_read c.join-2.new.self c.enter.new.self (slice_set family.lists c.args.list (c.args.item ∷ list_at family.lists c.args.list))
    (sound_pushed_front c.self.inside family c.join.new.self c.join-2.new.self c.enter.new.self c.args.item c.args.list c.end_of-end.result c.place_of-place.result c.next-first.result c.self.view_is c.self.invariant
    c.requires.known c.requires.within c.requires.free c.end_of-end.ensures c.place_of-place.ensures c.next-first.ensures c.join.ensures c.join-2.ensures c.enter.ensures)

pub returns : goal.returns
returns c =
    let family = c.args.self.now in
    family_read c.join-2.new.self c.enter.new.self (slice_set family.lists c.args.list (c.args.item ∷ list_at family.lists c.args.list)) family.items
    (sound_pushed_front c.self.inside family c.join.new.self c.join-2.new.self c.enter.new.self c.args.item c.args.list c.end_of-end.result c.place_of-place.result c.next-first.result c.self.view_is c.self.invariant
    c.requires.known c.requires.within c.requires.free c.end_of-end.ensures c.place_of-place.ensures c.next-first.ensures c.join.ensures c.join-2.ensures c.enter.ensures)
    (ap (λ m. length m.owners) c.enter.ensures ∙ length-set c.self.inside.members.owners c.args.item (c.args.list + 1) ∙ ap (λ f. f.items) c.self.view_is)
