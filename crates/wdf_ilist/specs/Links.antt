-- The family that the tables stand for, and what is true of them.
use Rattle.std.specs.Prelude.{ℕ, ◌≡◌, ◌*◌, ◌<◌, ◌≤◌, ◌^◌, List, length, map, slice_index}
use Rattle.std.specs.List.{range_with_len}
use Rattle.wdf_ilist.specs.Family.{Family, list_at}
use Rattle.wdf_ilist.specs.Places.{end_of, walk, IsLinked}
use Rattle.wdf_ilist.specs.Tables.{next_of, previous_of}
use Rattle.wdf_ilist.specs.declared.members.Members.{Members}
use Rattle.wdf_ilist.specs.declared.rings.Rings.{Rings}
use Rattle.wdf_ilist.specs.declared.links.Links.TheInside.{Inside}

-- the lists, each read along its ring
unfoldable pub lists_by : Rings → Members → List (List ℕ)
lists_by rings members =
    map (λ q. walk (next_of rings) (next_of rings (end_of q)) (slice_index members.counts q)) (range_with_len 0 (length members.counts))

abbrev pub family_in : Inside → Family
family_in links = record { lists = lists_by links.rings links.members; items = length links.members.owners }

-- The rings have a place for each list and each item, and each link leads to a place.
pub record HasRoom (rings : Rings) (lists items : ℕ) : Type 0 where
  pub ends : 2 * lists ≤ length rings.next
  pub places : 2 * items ≤ length rings.next
  pub both_ways : length rings.previous ≡ length rings.next
  pub few : length rings.next < 2 ^ 32
  pub next_near : (k : ℕ) → k < length rings.next → next_of rings k < length rings.next
  pub previous_near : (k : ℕ) → k < length rings.next → previous_of rings k < length rings.next

-- The tables are linked as the lists say.
pub record AreSound (rings : Rings) (members : Members) (lists : List (List ℕ)) : Type 0 where
  pub linked : IsLinked (next_of rings) (previous_of rings) (slice_index members.owners) (slice_index members.counts) (length members.owners) (list_at lists)
  pub as_many : length members.counts ≡ length lists
  pub room : HasRoom rings (length members.counts) (length members.owners)

abbrev pub IsSound : Inside → Type 0
IsSound links = AreSound links.rings links.members (lists_by links.rings links.members)
