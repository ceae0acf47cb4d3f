use Rattle.std.proofs.Common.{◌≡◌, sym, ap, ◌∙◌}
use Rattle.wdf_ilist.specs.Family.{list_of}
use Rattle.wdf_ilist.specs.Places.{place_of, item_at}
use Rattle.wdf_ilist.specs.Tables.{next_of}
use Rattle.wdf_ilist.proofs.Acts.{family_sound}
use Rattle.wdf_ilist.proofs.Read.{owner_lem, kept_some, no_item_after, after_lem}
use Rattle.wdf_ilist.proofs.links.Links.after.Goals as goal

pub returns-in_err-_list : goal.returns-in_err-_list
returns-in_err-_list c =
    let links = c.self.inside in
    let family = c.args.self.now in
    let list : c.owner.result ≡ list_of c.args.item family.lists
    = c.owner.ensures ∙ owner_lem links.rings links.members family.lists (family_sound links family c.self.view_is c.self.invariant) c.args.item in
    c.from_residual.ensures ∙ no_item_after c.args.item family.lists (sym list ∙ c.in_err-_list.was)

pub returns : goal.returns
returns c =
    let links = c.self.inside in
    let family = c.args.self.now in
    let after : c.next.result ≡ next_of links.rings (place_of c.args.item) = c.next.ensures ∙ ap (next_of links.rings) c.place_of.ensures in
    c.item_at.ensures ∙ ap item_at after
    ∙ after_lem links.rings links.members family.lists (family_sound links family c.self.view_is c.self.invariant) c.args.item c.in_ok-_list._list (kept_some _ _ (sym c.owner.ensures ∙ c.in_ok-_list.was))
