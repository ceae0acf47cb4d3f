-- The slot is given back, if there is one.
use Rattle.std.proofs.Common.{◌≡◌, ◌-◌, refl, arith}
use Rattle.wdf_model.specs.Tables.{entry}
use Rattle.wdf_slots.proofs.Apart.{apart_removed, apart_without, entries_removed, entries_without, key_of, slots_put}
use Rattle.wdf_slots.proofs.slots.Slots.remove.Goals as goal

pub invariant_of-self : goal.invariant_of-self
invariant_of-self g c =
    let a = c.self.inside in
    let its_key = key_of g.T.ById.blank a.slot_of.items c.args.id c.entry_at-after.result (rw c.deref.ensures.value at c.entry_at-after.ensures) c.if-after-ne0.true in
    slots_put g.T.ById.blank g.T.ById.ROOM a _ c.args.id 0 c.self.invariant c.requires c.put_at.ensures.entries (omega arith) c.remove-value.ensures.capacity refl
    (apart_removed g.T.ById.blank a.slot_of.items a.slots c.remove-value.new.self c.args.id (c.entry_at-after.result - 1) c.self.invariant.apart its_key c.remove-value.ensures.updates c.remove-value.ensures.len)

pub returns-then-after-ne0 : goal.returns-then-after-ne0
returns-then-after-ne0 g c =
    let a = c.self.inside in
    let its_key = key_of g.T.ById.blank a.slot_of.items c.args.id c.entry_at-after.result (rw c.deref.ensures.value at c.entry_at-after.ensures) c.if-after-ne0.true in
    rw (← c.self.view_is, c.put_at.ensures.entries)
    (entries_removed g.T.ById.blank a.slot_of.items a.slots c.remove-value.new.self c.args.id (c.entry_at-after.result - 1) c.self.invariant.apart its_key c.remove-value.ensures.updates)

pub invariant_of-self-else-after-ne0 : goal.invariant_of-self-else-after-ne0
invariant_of-self-else-after-ne0 g c =
    let a = c.self.inside in
    let read : c.entry_at-after.result ≡ entry 0 a.slot_of.items c.args.id = rw c.deref.ensures.value at c.entry_at-after.ensures in
    let none : entry 0 a.slot_of.items c.args.id ≡ 0 = omega (arith, read, c.if-after-ne0.false) in
    slots_put g.T.ById.blank g.T.ById.ROOM a _ c.args.id 0 c.self.invariant c.requires c.put_at.ensures.entries (omega arith) refl refl
    (apart_without g.T.ById.blank a.slot_of.items a.slots c.args.id c.self.invariant.apart none)

pub returns-else-after-ne0 : goal.returns-else-after-ne0
returns-else-after-ne0 g c =
    let a = c.self.inside in
    let read : c.entry_at-after.result ≡ entry 0 a.slot_of.items c.args.id = rw c.deref.ensures.value at c.entry_at-after.ensures in
    let none : entry 0 a.slot_of.items c.args.id ≡ 0 = omega (arith, read, c.if-after-ne0.false) in
    rw (← c.self.view_is, c.put_at.ensures.entries) (entries_without g.T.ById.blank a.slot_of.items a.slots c.args.id c.self.invariant.apart none)
