-- The last tick is the greatest.
use Rattle.std.proofs.Common.{◌≡◌, ◌-◌, ◌==◌, nat_lt, not, Some, length, count_by, ap, sym, ◌∙◌}
use Rattle.std.specs.List.{slice_get}
use Rattle.wdf_cpu.proofs.Ticks.{latest_some}
use Rattle.wdf_cpu.proofs.untils.Untils.latest.Goals as goal

pub returns-in-Some : goal.returns-in-Some
returns-in-Some c t =
    let xs = c.self.inside.ticks.items in
    let last : slice_get xs (length xs - 1) ≡ Some c.in-Some.tick.now = rw c.deref.ensures.value at (sym c.in-Some.ensures.value) in
    latest_some xs c.in-Some.tick.now t c.self.invariant.order last ∙ ap (λ ys. not (count_by (nat_lt t) ys == 0)) c.self.view_is
