-- The clause is the law of this name.
use Rattle.law_machine_room.proofs.RoomLaws.{room_is_kept}
use Rattle.law_machine_room.proofs.room_is_kept.Goals as goal

pub returns : goal.returns
returns g c = room_is_kept
