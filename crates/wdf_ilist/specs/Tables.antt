-- The links and owners that the tables hold.
use Rattle.std.specs.Prelude.{if◌then◌else◌, ℕ, ◌+◌, ◌-◌, ◌==◌, slice_index, slice_set}
use Rattle.wdf_ilist.specs.declared.members.Members.{Members}
use Rattle.wdf_ilist.specs.declared.rings.Rings.{Rings}

-- where the link of a place leads: 0 is to itself, else it is the number of a place and one more
abbrev pub linked_place : ℕ → ℕ → ℕ
linked_place place link = if link == 0 then place else link - 1

-- the place after this one
abbrev pub next_of : Rings → ℕ → ℕ
next_of rings place = linked_place place (slice_index rings.next place)

-- the place before this one
abbrev pub previous_of : Rings → ℕ → ℕ
previous_of rings place = linked_place place (slice_index rings.previous place)

-- the rings with one place linked to another
abbrev pub joined : Rings → ℕ → ℕ → Rings
joined rings before after = record {
  next = slice_set rings.next before (after + 1);
  previous = slice_set rings.previous after (before + 1);
}

-- an item comes onto a list
abbrev pub entered : Members → ℕ → ℕ → Members
entered members list item = record {
  owners = slice_set members.owners item (list + 1);
  counts = slice_set members.counts list (slice_index members.counts list + 1);
}

-- an item leaves a list
abbrev pub left : Members → ℕ → ℕ → Members
left members list item = record {
  owners = slice_set members.owners item 0;
  counts = slice_set members.counts list (slice_index members.counts list - 1);
}
