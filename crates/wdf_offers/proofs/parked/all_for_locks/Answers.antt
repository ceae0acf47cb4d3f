-- None waits for anything else where none is counted of the id 0.
use Rattle.std.proofs.Common.{◌==◌, ap, ◌∙◌}
use Rattle.wdf_cpu.specs.ParkedFor.{is_for}
use Rattle.wdf_offers.proofs.ComingBack.{none_counted}
use Rattle.wdf_offers.proofs.parked.all_for_locks.Goals as goal

pub returns : goal.returns
returns g c = ap (λ n. n == 0) (rw c.cpus.ensures at c.count_parked_for.ensures) ∙ none_counted (is_for c.args.parts.now.cpus 0) c.args.parts.now.cpus.parked
