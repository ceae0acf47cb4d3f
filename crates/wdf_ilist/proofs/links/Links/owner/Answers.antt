use Rattle.std.proofs.Common.{◌≡◌, is_some, subst, ap, ◌∙◌}
use Rattle.wdf_ilist.specs.Family.{list_of, AreApart}
use Rattle.wdf_ilist.specs.Links.{lists_by}
use Rattle.wdf_ilist.proofs.Acts.{family_sound}
use Rattle.wdf_ilist.proofs.Lists.{some_list}
use Rattle.wdf_ilist.proofs.Read.{owner_lem}
use Rattle.wdf_ilist.proofs.Sound.{apart_lem}
use Rattle.wdf_ilist.proofs.links.Links.owner.Goals as goal

pub returns-clause-list : goal.returns-clause-list
returns-clause-list c =
    let links = c.self.inside in
    let family = c.args.self.now in
    c.owner.ensures ∙ owner_lem links.rings links.members family.lists (family_sound links family c.self.view_is c.self.invariant) c.args.item

pub returns-clause-any : goal.returns-clause-any
returns-clause-any c =
    let links = c.self.inside in
    let family = c.args.self.now in
    let list : c.owner.result ≡ list_of c.args.item family.lists
    = c.owner.ensures ∙ owner_lem links.rings links.members family.lists (family_sound links family c.self.view_is c.self.invariant) c.args.item in
    ap is_some list ∙ some_list c.args.item family.lists

pub returns-clause-apart : goal.returns-clause-apart
returns-clause-apart c =
    let links = c.self.inside in
    subst AreApart c.self.view_is (apart_lem links.rings links.members (lists_by links.rings links.members) c.self.invariant)
