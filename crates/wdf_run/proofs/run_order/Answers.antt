-- The list is what its source picks.
use Rattle.std.proofs.Common.{◌≡◌, ◌+◌, refl, arith}
use Rattle.wdf_run.proofs.run_order.Goals as goal

pub returns-clause-picked : goal.returns-clause-picked
returns-clause-picked g c =
    c.run_by.ensures.picked c.args.picks.now (λ turn below. let e : 0 + turn ≡ turn = omega arith in rw (c.new.ensures.list, c.new.ensures.first, e) refl)
