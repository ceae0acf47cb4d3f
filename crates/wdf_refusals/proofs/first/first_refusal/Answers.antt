use Rattle.std.proofs.Common.{refl}
use Rattle.wdf_refusals.proofs.Firsts.{underway_begins, underway_more, underway_found}
use Rattle.wdf_refusals.proofs.first.first_refusal.Goals as goal

pub loop-placed-init : goal.loop-placed-init
loop-placed-init c = underway_begins _ _ _ (rw c.lines.ensures at c.walk-walk.ensures) c.new-variables.ensures

pub returns-in-Some-refused : goal.returns-in-Some-refused
returns-in-Some-refused c =
    underway_found _ _ _ _ _ _ _ _ _ _ c.loop-placed.invariant c.requires c.in-Some.ensures (rw c.scene.ensures at c.in_ok-variables.ensures) c.in-Some-refused.ensures refl

pub loop-placed-preserved : goal.loop-placed-preserved
loop-placed-preserved c =
    underway_more _ _ _ _ _ _ _ _ _ c.loop-placed.invariant c.requires c.in-Some.ensures (rw c.scene.ensures at c.in_ok-variables.ensures) c.in-None.ensures refl
