use Rattle.std.proofs.Common.{◌≡◌, map, take}
use Rattle.serde_json.specs.View.{view}
use Rattle.wdf_perfetto.specs.Rows.{row_data}
use Rattle.wdf_perfetto.proofs.json.row_values.Given as goal

abbrev pub invariant-loop-row : goal.invariant-loop-row
invariant-loop-row l = map view l.values.items ≡ map (row_data l.shown.plan.now l.shown.events.now) (take l.row-index l.rows)
