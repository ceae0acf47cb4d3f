-- What is written nests no deeper than a reader reads.
use Rattle.std.proofs.Common.{◌≡◌}
use Rattle.serde_json.specs.View.{view}
use Rattle.wdf_perfetto.specs.Rows.{document_data}
use Rattle.wdf_perfetto.proofs.Depth.{document_depth}
use Rattle.wdf_perfetto.proofs.json.document.Goals as goal

pub returns : goal.returns
returns c =
    let seen : view c.in_ok-value.value ≡ document_data c.args.plan.now c.args.events.now c.args.rows.now = c.in_ok-value.ensures in
    rw seen at (c.in_ok-text.ensures.reads_back (rw seen (document_depth c.args.plan.now c.args.events.now c.args.rows.now)))
