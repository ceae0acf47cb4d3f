-- The tables are as at first, with as many places as before.
use Rattle.std.proofs.Common.{[], length, replicate, ap, ◌∙◌}
use Rattle.std.proofs.lemmas.List.{length-replicate}
use Rattle.wdf_ilist.specs.Family.{Family}
use Rattle.wdf_ilist.proofs.Acts.{family_read, family_sound, sound_cleared}
use Rattle.wdf_ilist.proofs.Sound.{sound_as_read}
use Rattle.wdf_ilist.proofs.links.Links.clear.Goals as goal

pub invariant_of-self : goal.invariant_of-self
invariant_of-self c =
    sound_as_read c.clear.new.self c.clear-2.new.self (replicate (length c.args.self.now.lists) [])
    (sound_cleared c.self.inside.rings c.clear.new.self c.self.inside.members c.clear-2.new.self c.args.self.now.lists (family_sound c.self.inside c.args.self.now c.self.view_is c.self.invariant)
    c.clear.ensures.next c.clear.ensures.previous c.clear-2.ensures.owners c.clear-2.ensures.counts)

pub returns : goal.returns
returns c =
    family_read c.clear.new.self c.clear-2.new.self (replicate (length c.args.self.now.lists) []) c.args.self.now.items
    (sound_cleared c.self.inside.rings c.clear.new.self c.self.inside.members c.clear-2.new.self c.args.self.now.lists (family_sound c.self.inside c.args.self.now c.self.view_is c.self.invariant)
    c.clear.ensures.next c.clear.ensures.previous c.clear-2.ensures.owners c.clear-2.ensures.counts)
    (ap length c.clear-2.ensures.owners ∙ length-replicate (length c.self.inside.members.owners) 0 ∙ ap (λ (f : Family). f.items) c.self.view_is)
