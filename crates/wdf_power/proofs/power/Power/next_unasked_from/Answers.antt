-- What is held says it.
use Rattle.wdf_power.proofs.power.Power.next_unasked_from.Goals as goal

pub returns : goal.returns
returns c = rw (← c.self.view_is) c.next_unasked_from.ensures
