use Rattle.std.proofs.Common.{ℕ, List, sym, ap, ◌∙◌}
use Rattle.wdf_ilist.specs.Family.{Family}
use Rattle.wdf_ilist.proofs.Lists.{first_pops}
use Rattle.wdf_ilist.proofs.links.Links.pop_front.Goals as goal

pub returns-clause-rest : goal.returns-clause-rest
returns-clause-rest c =
    let family = c.args.self.now in
    let with_lists : List (List ℕ) → Family = λ ls. record { lists = ls; items = family.items } in
    c.unlink-list.ensures.gone ∙ ap with_lists (first_pops family c.in_ok-item.item c.args.list c.front.ensures.apart (sym c.front.ensures.first ∙ c.in_ok-item.was))
