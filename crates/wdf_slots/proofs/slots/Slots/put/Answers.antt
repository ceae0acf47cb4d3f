-- An id without a slot gets one, and else its own is written.
use Rattle.std.proofs.Common.{◌≡◌, ◌-◌, refl, sym, ◌∙◌, arith}
use Rattle.wdf_model.specs.Tables.{entry}
use Rattle.wdf_slots.proofs.Apart.{entries_in_place, entries_inserted, key_of, room_for_one, slots_inserted}
use Rattle.wdf_slots.proofs.slots.Slots.put.Goals as goal

pub insert_reserved-key-requires : goal.insert_reserved-key-requires
insert_reserved-key-requires g c =
    let a = c.self.inside in
    let h = c.self.invariant in
    let read : c.entry_at-after.result ≡ entry 0 a.slot_of.items c.args.id = rw c.deref.ensures.value at c.entry_at-after.ensures in
    let room = room_for_one g.T.ById.blank a.slot_of.items a.slots c.args.id g.T.ById.ROOM h.apart (sym read ∙ c.if-after-eq0.true) c.requires h.few in
    omega (arith, h.slots_room)

pub invariant_of-self : goal.invariant_of-self
invariant_of-self g c =
    let a = c.self.inside in
    let read : c.entry_at-after.result ≡ entry 0 a.slot_of.items c.args.id = rw c.deref.ensures.value at c.entry_at-after.ensures in
    slots_inserted g.T.ById.blank g.T.ById.ROOM a _ c.args.id c.insert_reserved-key.result c.args.value c.self.invariant c.requires (sym read ∙ c.if-after-eq0.true)
    c.insert_reserved-key.ensures.was_vacant c.insert_reserved-key.ensures.updates c.insert_reserved-key.ensures.len c.put_at.ensures.entries (omega arith) c.insert_reserved-key.ensures.capacity refl

pub returns-then-after-eq0 : goal.returns-then-after-eq0
returns-then-after-eq0 g c =
    let a = c.self.inside in
    let h = c.self.invariant in
    let read : c.entry_at-after.result ≡ entry 0 a.slot_of.items c.args.id = rw c.deref.ensures.value at c.entry_at-after.ensures in
    rw (← c.self.view_is, c.put_at.ensures.entries)
    (entries_inserted g.T.ById.blank a.slot_of.items a.slots c.insert_reserved-key.new.self c.args.id c.insert_reserved-key.result _ h.apart (sym read ∙ c.if-after-eq0.true) c.insert_reserved-key.ensures.was_vacant c.insert_reserved-key.ensures.updates)

pub returns-else-after-eq0 : goal.returns-else-after-eq0
returns-else-after-eq0 g c =
    let a = c.self.inside in
    let its_key = key_of g.T.ById.blank a.slot_of.items c.args.id c.entry_at-after.result (rw c.deref.ensures.value at c.entry_at-after.ensures) c.if-after-eq0.false in
    rw (← c.self.view_is) (entries_in_place g.T.ById.blank a.slot_of.items a.slots c.args.id (c.entry_at-after.result - 1) c.index_mut.result.now c.args.value c.self.invariant.apart its_key c.index_mut.ensures.value)
