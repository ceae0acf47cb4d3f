use Rattle.std.proofs.Common.{◌*◌, [], length, replicate, ap, ◌∙◌, arith}
use Rattle.std.proofs.lemmas.List.{length-replicate}
use Rattle.wdf_ilist.proofs.Acts.{family_read, sound_made}
use Rattle.wdf_ilist.proofs.Sound.{sound_as_read}
use Rattle.wdf_ilist.proofs.links.Links.make.Goals as goal

pub invariant_of-result : goal.invariant_of-result
invariant_of-result c =
    let rings = c.in_ok-make.field-0 in
    let members = c.in_ok-make-2.field-0 in
    sound_as_read rings members (replicate c.args.lists [])
    (sound_made c.args.lists c.args.items (2 * c.max.result) rings members (omega (arith, c.max.ensures)) (omega (arith, c.max.ensures)) (omega arith) c.in_ok-make.ensures.next c.in_ok-make.ensures.previous c.in_ok-make-2.ensures.owners c.in_ok-make-2.ensures.counts)

pub returns : goal.returns
returns c =
    let rings = c.in_ok-make.field-0 in
    let members = c.in_ok-make-2.field-0 in
    family_read rings members (replicate c.args.lists []) c.args.items
    (sound_made c.args.lists c.args.items (2 * c.max.result) rings members (omega (arith, c.max.ensures)) (omega (arith, c.max.ensures)) (omega arith) c.in_ok-make.ensures.next c.in_ok-make.ensures.previous c.in_ok-make-2.ensures.owners c.in_ok-make-2.ensures.counts)
    (ap length c.in_ok-make-2.ensures.owners ∙ length-replicate c.args.items 0)
