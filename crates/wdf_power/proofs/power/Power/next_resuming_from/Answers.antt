-- What is held says it.
use Rattle.wdf_power.proofs.power.Power.next_resuming_from.Goals as goal

pub returns : goal.returns
returns c = rw (← c.self.view_is) c.next_resuming_from.ensures
