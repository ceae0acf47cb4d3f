-- The clause is the lemma.
use Rattle.law_devices.proofs.Posted.{posts_its_actions}
use Rattle.law_devices.proofs.devices_post_their_actions.Goals as goal

pub returns : goal.returns
returns g c = λ plan m device run has resolved is_run d agent own. posts_its_actions plan resolved m device has run is_run d agent own
