-- The seats that the workers leave are the row that is taken apart.
use Rattle.std.proofs.Common.{◌≡◌, length, sym, ap, ◌∙◌, subst}
use Rattle.wdf_crew.specs.Rows.{IsRow}
use Rattle.wdf_crew.proofs.Rows.{written_over}
use Rattle.wdf_crew.proofs.beside.worked_beside.Goals as goal

pub join_workers-first-requires : goal.join_workers-first-requires
join_workers-first-requires g c =
    let row = c.row_beside-made.ensures.row in
    let same : length c.row_beside-made.new.seats ≡ length c.args.seats.items = c.row_beside-made.ensures.count ∙ ap length c.as_mut_slice.ensures.value in
    let len : c.args.seats.len ≡ length c.args.seats.items = sym c.as_mut_slice.ensures.len ∙ ap length c.as_mut_slice.ensures.value in
    (row.0, subst (λ l. IsRow c.args.turn row.0 l) (sym (written_over c.args.seats.len c.args.seats.items c.row_beside-made.new.seats same len)) row.1)
