-- The clause is the lemma.
use Rattle.law_devices.proofs.Posted.{action_of_device}
use Rattle.law_devices.proofs.actions_are_their_devices.Goals as goal

pub returns : goal.returns
returns g c = action_of_device
