-- The entry joins the row of its kind, or is a row of its own.
use Rattle.std.proofs.Common.{◌≡◌, position, Some, None, sym, ◌∙◌}
use Rattle.wdf_table.specs.Rows.{is_of}
use Rattle.wdf_table.proofs.Adding.{tally_added, tally_new}
use Rattle.wdf_table.proofs.tally.Tally.add.Goals as goal

pub returns-in-Some-clause-tally : goal.returns-in-Some-clause-tally
returns-in-Some-clause-tally c = λ entries tally.
    let by : c.place_of.result ≡ position (is_of c.args.entry.kind) c.args.self.now = rw c.bytes.ensures at c.place_of.ensures in
    let found : position (is_of c.args.entry.kind) c.self.inside.rows.items ≡ Some c.in-Some.place = rw c.self.view_is (sym by ∙ c.in-Some.is) in
    tally_added entries c.self.inside.rows.items c.args.entry c.index_mut.result.now c.join.new.self c.in-Some.place found
    c.index_mut.ensures.value c.join.ensures (rw c.self.view_is tally)

pub returns-in_ok-push-in-None-clause-tally : goal.returns-in_ok-push-in-None-clause-tally
returns-in_ok-push-in-None-clause-tally c = λ entries tally.
    let by : c.place_of.result ≡ position (is_of c.args.entry.kind) c.args.self.now = rw c.bytes.ensures at c.place_of.ensures in
    let none : position (is_of c.args.entry.kind) c.self.inside.rows.items ≡ None = rw c.self.view_is (sym by ∙ c.in-None.is) in
    tally_new entries c.self.inside.rows.items c.push.new.self.items c.args.entry none c.in_ok-push-in-None.ensures.items (rw c.self.view_is tally)
