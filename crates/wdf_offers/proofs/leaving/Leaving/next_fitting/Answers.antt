-- As many fit before it as before the id that it is looked for from.
use Rattle.std.proofs.Common.{length, slice_get, ap, ◌∙◌}
use Rattle.wdf_offers.specs.Leaving.{fits_part, fitting}
use Rattle.wdf_offers.proofs.Numbered.{next_fits}
use Rattle.wdf_offers.proofs.leaving.Leaving.next_fitting.Goals as goal

pub returns : goal.returns
returns g c =
    let l = c.args.self in
    let S = c.args.parts.now in
    next_fits (fits_part l S) (length S.tree.nodes) c.args.from.0 c.fitting_at.result (c.fitting_at.ensures ∙ ap (slice_get (fitting l S)) c.fitting_before.ensures)
