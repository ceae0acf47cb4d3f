-- The search goes on by what follows the states of one path.
use Rattle.std.proofs.Common.{◌≡◌, ◌≢◌, ◌<◌, ◌≤◌, ◌-◌, ℕ, List, length, fold, take, drop, get_or, None, Some, slice_get, sym, ap, subst, ◌∙◌, arith, rules}
use Rattle.std.specs.List.{flat_map}
use Rattle.std.proofs.lemmas.Option.{slice_get_read}
use Rattle.wdf_lint.specs.Steps.{steps}
use Rattle.wdf_lint.specs.Walks.{line_at}
use Rattle.wdf_lint.specs.Searches.{IsSearch, added_by, table_of}
use Rattle.wdf_lint.proofs.SameState.{eq}
use Rattle.wdf_lint.proofs.Searching.{IsGroup, followed, group}
use Rattle.wdf_lint.proofs.search.Search.advance.Goals as goal

pub returns-clause-search : goal.returns-clause-search
returns-clause-search c =
    let plan = c.args.plan.now in
    let k = c.args.w.now.script in
    let t = table_of c.args.self.now in
    let from = c.args.next in
    let end = c.end_of-end.result in
    let r = c.index-path.result.now in
    let v = c.as_slice.ensures.value in
    let less : from < length c.args.self.now.ranks.items = omega (arith, c.requires.search.table.many, c.requires.here) in
    let here : slice_get c.args.self.now.ranks.items from ≡ Some r = slice_get_read c.args.self.now.ranks.items (length c.args.self.now.ranks.items) from r (search rules) less c.index-path.ensures in
    let g : IsGroup c.args.self.now.ranks.items from end r =
    group c.args.self.now.ranks.items from end r c.end_of-end.ensures.past
    (subst (λ (xs : List ℕ). end ≤ length xs) v c.end_of-end.ensures.within)
    (subst (λ (xs : List ℕ). (i : ℕ) → from ≤ i → i < end → get_or xs i 0 ≡ get_or xs from 0) v c.end_of-end.ensures.same)
    (subst (λ (xs : List ℕ). end < length xs → get_or xs end 0 ≢ get_or xs from 0) v c.end_of-end.ensures.other) here in
    let made : c.in_ok-after.after.items ≡ flat_map (steps plan k) (take (end - from) (drop from c.args.self.now.states.keys)) =
    c.in_ok-after.ensures ∙ ap (λ xs. flat_map (steps plan k) (take (end - from) (drop from xs))) c.as_slice-2.ensures.keys in
    let all = followed plan k t from end r c.requires.search g c.in_ok-after.after.items c.sort_by_line.new.states.items made c.sort_by_line.ensures.same c.in_ok-sort_by_line.ensures.rising in
    let is : table_of c.add_all.new.self ≡ (fold (added_by eq (line_at plan k) r) (record { table = t; last = None }) c.sort_by_line.new.states.items).table =
    c.in_ok-add_all.ensures ∙ ap (λ xs. (fold (added_by eq (line_at plan k) r) (record { table = t; last = None }) xs).table) c.as_slice-3.ensures.value in
    subst (λ u. IsSearch plan k u end) (sym is) all
