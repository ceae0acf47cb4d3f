-- All rows are added, and stand for their entries.
use Rattle.std.proofs.Common.{◌≡◌, rules, sym, ◌∙◌}
use Rattle.std.proofs.lemmas.List.{map-id}
use Rattle.std.proofs.lemmas.Iterator.Adapters.{YieldsList-from_vec}
use Rattle.std.proofs.lemmas.Iterator.Consumers.{YieldsList-end}
use Rattle.wdf_table.proofs.Merging.{tally_behind}
use Rattle.wdf_table.proofs.tally.Tally.merge.Goals as goal

pub returns-clause-tally : goal.returns-clause-tally
returns-clause-tally c = λ entries others first second.
    let ended = YieldsList-end (YieldsList-from_vec {s = c.into_iter-row-iterator.result} c.other.inside.rows.items (search rules) (search rules))
    c.loop-row.yielded c.loop-row.row-iterator c.loop-row.yielded_by c.next.result c.next.new.self c.in-None.is c.next.ensures.steps in
    let all : c.loop-row.yielded ≡ c.other.inside.rows.items = sym (map-id c.loop-row.yielded) ∙ ended.0 in
    tally_behind entries others c.loop-row.yielded c.loop-row.self (rw (all, c.other.view_is) second) (c.loop-row.invariant.3 entries first)
