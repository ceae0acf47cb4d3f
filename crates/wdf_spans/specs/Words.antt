-- The words of what is drawn. (own)
use Rattle.std.specs.Prelude.{ℕ, List, codes}
use Rattle.wdf_spans.specs.declared.bands.Standing.{Standing}
use Rattle.wdf_spans.specs.declared.bands.Standing.TheVariants as standing
use Rattle.wdf_spans.specs.declared.moves.Told.{Told}
use Rattle.wdf_spans.specs.declared.moves.Told.TheVariants as told

-- what holds of a device or a queue
abbrev pub standing_word : Standing → List ℕ
standing_word standing.Off = codes "off"
standing_word standing.Working = codes "working"
standing_word standing.Sleeping = codes "sleeping"
standing_word standing.Removed = codes "removed"
standing_word standing.Powered = codes "D0"
standing_word standing.Unpowered = codes "no power"
standing_word standing.QueuesUp = codes "queues up"
standing_word standing.QueuesDown = codes "queues down"
standing_word standing.Started = codes "started"
standing_word standing.Stopped = codes "stopped"
standing_word standing.Drained = codes "drained"
standing_word standing.Purged = codes "purged"
standing_word standing.Closed = codes "closed"

-- where a request is told to be
abbrev pub place_word : Told → List ℕ
place_word told.Queued = codes "queued"
place_word told.Owned = codes "owned"
place_word told.Sent = codes "sent"
place_word told.Returning = codes "returning"
place_word told.Done = codes "done"
