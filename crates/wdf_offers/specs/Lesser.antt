-- The lesser of two objects.
use Rattle.std.specs.Prelude.{if◌then◌else◌, nat_le, Option, Some, None}
use Rattle.wdf_base.specs.declared.ids.ObjectId.{ObjectId}

-- the one with the lesser id, each as far as it is there
abbrev pub lesser_of : Option ObjectId → Option ObjectId → Option ObjectId
lesser_of None other = other
lesser_of (Some a) None = Some a
lesser_of (Some a) (Some b) = if nat_le a.0 b.0 then Some a else Some b
