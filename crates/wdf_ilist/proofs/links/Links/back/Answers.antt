use Rattle.std.proofs.Common.{◌≡◌, ap, ◌∙◌}
use Rattle.wdf_ilist.specs.Places.{end_of, item_at}
use Rattle.wdf_ilist.specs.Tables.{previous_of}
use Rattle.wdf_ilist.proofs.Acts.{family_sound}
use Rattle.wdf_ilist.proofs.Read.{back_lem}
use Rattle.wdf_ilist.proofs.links.Links.back.Goals as goal

pub returns : goal.returns
returns c =
    let links = c.self.inside in
    let family = c.args.self.now in
    let last : c.previous.result ≡ previous_of links.rings (end_of c.args.list) = c.previous.ensures ∙ ap (previous_of links.rings) c.end_of.ensures in
    c.item_at.ensures ∙ ap item_at last ∙ back_lem links.rings links.members family.lists (family_sound links family c.self.view_is c.self.invariant) c.args.list
