use Rattle.std.proofs.Common.{◌≡◌, ap, ◌∙◌}
use Rattle.wdf_ilist.specs.Places.{end_of, item_at}
use Rattle.wdf_ilist.specs.Tables.{next_of}
use Rattle.wdf_ilist.proofs.Acts.{family_sound}
use Rattle.wdf_ilist.proofs.Read.{front_lem}
use Rattle.wdf_ilist.proofs.links.Links.front.Goals as goal

pub returns-clause-first : goal.returns-clause-first
returns-clause-first c =
    let links = c.self.inside in
    let family = c.args.self.now in
    let first : c.next.result ≡ next_of links.rings (end_of c.args.list) = c.next.ensures ∙ ap (next_of links.rings) c.end_of.ensures in
    c.item_at.ensures ∙ ap item_at first ∙ front_lem links.rings links.members family.lists (family_sound links family c.self.view_is c.self.invariant) c.args.list
