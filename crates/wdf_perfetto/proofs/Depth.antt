-- What a viewer is told nests four deep.
use Rattle.std.proofs.Common.{◌≡◌, ◌≤◌, List, [], ◌∷◌, map, refl, arith}
use Rattle.wdf_base.specs.declared.plan.Plan.{Plan}
use Rattle.wdf_base.specs.declared.event.Event.{Event}
use Rattle.serde_json.specs.Data.{depth, items_depth}
use Rattle.serde_json.specs.View.{items_of}
use Rattle.wdf_perfetto.specs.declared.row.Row.{Row}
use Rattle.wdf_perfetto.specs.declared.row.Row.TheVariants as row
use Rattle.wdf_perfetto.specs.Rows.{row_data, document_data}

row_depth : (plan : Plan) (events : List Event) (r : Row) → depth (row_data plan events r) ≡ 2
row_depth plan events (row.Names g) = refl
row_depth plan events (row.Name track t) = refl
row_depth plan events (row.Slice track t from to n) = refl
row_depth plan events (row.Begin sort key t at n) = refl
row_depth plan events (row.Finish sort key t at) = refl
row_depth plan events (row.Moment sort key t at n) = refl
row_depth plan events (row.Mark track t at n) = refl
row_depth plan events (row.Counts queue waiting held at) = refl
row_depth plan events (row.Clock time at) = refl

rows_depth : (plan : Plan) (events : List Event) (rows : List Row) → items_depth (items_of (map (row_data plan events) rows)) ≤ 2
rows_depth plan events [] = omega arith
rows_depth plan events (r ∷ rows) = omega (arith, row_depth plan events r, rows_depth plan events rows)

pub document_depth : (plan : Plan) (events : List Event) (rows : List Row) → depth (document_data plan events rows) ≤ 127
document_depth plan events rows = omega (arith, rows_depth plan events rows)
