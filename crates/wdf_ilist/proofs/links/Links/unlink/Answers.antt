use Rattle.std.proofs.Common.{ℕ, ◌≡◌, false, List, length, map, is_some, length-set, sym, ap, ◌∙◌}
use Rattle.wdf_ilist.specs.Family.{Family, is_on_any, without}
use Rattle.wdf_ilist.proofs.Acts.{family_sound, family_read, count_some, sound_unlinked}
use Rattle.wdf_ilist.proofs.Lists.{some_list, none_leaves}
use Rattle.wdf_ilist.proofs.Read.{owner_lem, kept_some}
use Rattle.wdf_ilist.proofs.Sound.{sound_as_read, owned_within}
use Rattle.wdf_ilist.proofs.links.Links.unlink.Goals as goal

pub returns-in_err-list-clause-list : goal.returns-in_err-list-clause-list
returns-in_err-list-clause-list c =
    let links = c.self.inside in
    let family = c.args.self.now in
    let list = c.owner.ensures ∙ owner_lem links.rings links.members family.lists (family_sound links family c.self.view_is c.self.invariant) c.args.item in
    c.from_residual.ensures ∙ sym c.in_err-list.was ∙ list

pub returns-in_err-list-clause-any : goal.returns-in_err-list-clause-any
returns-in_err-list-clause-any c =
    let links = c.self.inside in
    let family = c.args.self.now in
    let list = c.owner.ensures ∙ owner_lem links.rings links.members family.lists (family_sound links family c.self.view_is c.self.invariant) c.args.item in
    ap is_some (c.from_residual.ensures ∙ sym c.in_err-list.was ∙ list) ∙ some_list c.args.item family.lists

pub returns-in_err-list-clause-gone : goal.returns-in_err-list-clause-gone
returns-in_err-list-clause-gone c =
    let links = c.self.inside in
    let family = c.args.self.now in
    let list = c.owner.ensures ∙ owner_lem links.rings links.members family.lists (family_sound links family c.self.view_is c.self.invariant) c.args.item in
    let off : is_on_any c.args.item family.lists ≡ false = sym (some_list c.args.item family.lists) ∙ ap is_some (sym list ∙ c.in_err-list.was) in
    let with_lists : List (List ℕ) → Family = λ ls. record { lists = ls; items = family.items } in
    ap with_lists (sym (none_leaves c.args.item family.lists off))

pub leave-requires-clause-known : goal.leave-requires-clause-known
leave-requires-clause-known c =
    let links = c.self.inside in
    let family = c.args.self.now in
    (owned_within links.rings links.members family.lists (family_sound links family c.self.view_is c.self.invariant) c.args.item c.in_ok-list.list (kept_some _ _ (sym c.owner.ensures ∙ c.in_ok-list.was))).1

pub leave-requires-clause-there : goal.leave-requires-clause-there
leave-requires-clause-there c =
    let links = c.self.inside in
    let family = c.args.self.now in
    count_some links.rings links.members family.lists (family_sound links family c.self.view_is c.self.invariant) c.args.item c.in_ok-list.list (kept_some _ _ (sym c.owner.ensures ∙ c.in_ok-list.was))

pub invariant_of-self : goal.invariant_of-self
invariant_of-self c =
    let links = c.self.inside in
    let family = c.args.self.now in
    sound_as_read c.join.new.self c.leave.new.self (map (without c.args.item) family.lists)
    (sound_unlinked links.rings c.join.new.self links.members c.leave.new.self family.lists c.args.item c.in_ok-list.list c.place_of-place.result c.previous-before.result c.next-after.result
    (family_sound links family c.self.view_is c.self.invariant) (sym c.owner.ensures ∙ c.in_ok-list.was) c.place_of-place.ensures c.previous-before.ensures c.next-after.ensures c.join.ensures c.leave.ensures)

pub returns-clause-list : goal.returns-clause-list
returns-clause-list c =
    let links = c.self.inside in
    let family = c.args.self.now in
    let list = c.owner.ensures ∙ owner_lem links.rings links.members family.lists (family_sound links family c.self.view_is c.self.invariant) c.args.item in
    sym c.in_ok-list.was ∙ list

pub returns-clause-any : goal.returns-clause-any
returns-clause-any c =
    let links = c.self.inside in
    let family = c.args.self.now in
    let list = c.owner.ensures ∙ owner_lem links.rings links.members family.lists (family_sound links family c.self.view_is c.self.invariant) c.args.item in
    ap is_some (sym c.in_ok-list.was ∙ list) ∙ some_list c.args.item family.lists

pub returns-clause-gone : goal.returns-clause-gone
returns-clause-gone c =
    let links = c.self.inside in
    let family = c.args.self.now in
    family_read c.join.new.self c.leave.new.self (map (without c.args.item) family.lists) family.items
    (sound_unlinked links.rings c.join.new.self links.members c.leave.new.self family.lists c.args.item c.in_ok-list.list c.place_of-place.result c.previous-before.result c.next-after.result
    (family_sound links family c.self.view_is c.self.invariant) (sym c.owner.ensures ∙ c.in_ok-list.was) c.place_of-place.ensures c.previous-before.ensures c.next-after.ensures c.join.ensures c.leave.ensures)
    (ap (λ m. length m.owners) c.leave.ensures ∙ length-set links.members.owners c.args.item 0 ∙ ap (λ f. f.items) c.self.view_is)
