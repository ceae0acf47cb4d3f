-- What slots say: the entries by id, and that no two ids share a slot.
use Rattle.std.specs.Prelude.{ℕ, zero, suc, ◌≡◌, ◌≤◌, ◌<◌, ◌^◌, List, Option, Some, None, IsSome, map, length, count_by, nat_lt, vec_capacity}
use Rattle.slab.specs.Slab.{Slab, get, slab_len}
use Rattle.wdf_model.specs.Tables.{entry}
use Rattle.wdf_slots.specs.declared.slots.Slots.TheInside.{Inside}

-- the entry in a slot, the blank one in none
abbrev pub in_slot : {T : Type 0} → T → Option T → T
in_slot blank None = blank
in_slot blank (Some x) = x

-- the entry of an id, by one more than the key of its slot
abbrev pub read_slot : {T : Type 0} → T → Slab T → ℕ → T
read_slot blank slots zero = blank
read_slot blank slots (suc key) = in_slot blank (get slots key)

-- the entries by id
abbrev pub entries_in : {T : Type 0} → T → Inside T → List T
entries_in blank a = map (read_slot blank a.slots) a.slot_of.items

-- Each slot that an id has is taken, two ids have no slot in common, and as many slots are taken as ids have one: so each
-- slot that is taken is of one id.
pub record AreApart {T : Type 0} (slot_of : List ℕ) (slots : Slab T) : Type 0 where
  pub taken : (id key : ℕ) → entry 0 slot_of id ≡ suc key → IsSome (get slots key)
  pub apart : (id other key : ℕ) → entry 0 slot_of id ≡ suc key → entry 0 slot_of other ≡ suc key → other ≡ id
  pub many : slab_len slots ≡ count_by (nat_lt 0) slot_of

-- The slots are apart; there is room for `most` ids and a slot for each, and no more ids came; one more than a key is a number
-- of 32 bits; and what an id without a slot says is `nothing_there`.
pub record HaveSlots {T : Type 0} (nothing_there : T) (most : ℕ) (a : Inside T) : Type 0 where
  pub room : most ≤ vec_capacity a.slot_of
  pub slots_room : most ≤ a.slots.capacity
  pub keys : a.slots.capacity < 2 ^ 32
  pub few : length a.slot_of.items ≤ most
  pub blank : a.blank ≡ nothing_there
  pub apart : AreApart a.slot_of.items a.slots
