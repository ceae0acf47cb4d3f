-- The clause is the lemma on devices.
use Rattle.law_stuck_named.proofs.Devices.{device_named}
use Rattle.law_stuck_named.proofs.devices_name_a_cause.Goals as goal

pub returns : goal.returns
returns g c = λ plan m run resolved is_run ends k d s x h. device_named plan m run resolved is_run ends k d s x h
