-- What is written through the borrow is the entry of the id.
use Rattle.std.proofs.Common.{◌≡◌, ℕ, ◌-◌, ◌<◌, List, length, map, Some, refl, sym, ◌∙◌, subst, arith}
use Rattle.wdf_model.specs.Tables.{entry}
use Rattle.wdf_slots.specs.InSlots.{HaveSlots, read_slot}
use Rattle.wdf_slots.specs.declared.slots.Slots.TheInside.{Inside}
use Rattle.wdf_slots.proofs.Apart.{entries_lent, entries_set, entry_is_blank, entry_was, id_within, key_of, room_for_one, slots_lent}
use Rattle.wdf_slots.proofs.slots.Slots.at_mut.Goals as goal

-- an id that came is one that there may be
there : {T : Type 0} (blank : T) (most : ℕ) (a : Inside T) (xs : List T) (id : ℕ) → HaveSlots blank most a → map (read_slot blank a.slots) a.slot_of.items ≡ xs → id < length xs → id < most
there blank most a xs id h e within =
    let here = id_within blank (read_slot blank a.slots) a.slot_of.items xs id e within in
    let few = h.few in
    omega arith

pub insert_reserved-key-requires : goal.insert_reserved-key-requires
insert_reserved-key-requires g c =
    let a = c.self.inside in
    let h = c.self.invariant in
    let read : c.entry_at-after.result ≡ entry 0 a.slot_of.items c.args.id = rw c.deref.ensures.value at c.entry_at-after.ensures in
    let room = room_for_one g.T.ById.blank a.slot_of.items a.slots c.args.id g.T.ById.ROOM h.apart (sym read ∙ c.if-after-eq0.true)
    (there g.T.ById.blank g.T.ById.ROOM a c.args.self.now c.args.id h c.self.view_is c.requires) h.few in
    omega (arith, h.slots_room)

pub put_at-requires : goal.put_at-requires
put_at-requires g c =
    let within = there g.T.ById.blank g.T.ById.ROOM c.self.inside c.args.self.now c.args.id c.self.invariant c.self.view_is c.requires in
    record { room = omega (arith, c.self.invariant.room) }

pub invariant_of-self-lent : goal.invariant_of-self-lent
invariant_of-self-lent g c =
    let a = c.self.inside in
    let h = c.self.invariant in
    let read : c.entry_at-after.result ≡ entry 0 a.slot_of.items c.args.id = rw c.deref.ensures.value at c.entry_at-after.ensures in
    let b : Inside g.row.T.Denot = record { slot_of = c.put_at.new.entries; slots = c.insert_reserved-key.new.self; blank = a.blank } in
    slots_lent g.T.ById.blank g.T.ById.ROOM a b c.args.id c.insert_reserved-key.result c.blank.result h
    (there g.T.ById.blank g.T.ById.ROOM a c.args.self.now c.args.id h c.self.view_is c.requires) (sym read ∙ c.if-after-eq0.true)
    c.insert_reserved-key.ensures.was_vacant c.insert_reserved-key.ensures.updates c.insert_reserved-key.ensures.len c.put_at.ensures.entries (omega arith) c.insert_reserved-key.ensures.capacity refl

pub returns-then-after-eq0 : goal.returns-then-after-eq0
returns-then-after-eq0 g c =
    let a = c.self.inside in
    let h = c.self.invariant in
    let read : c.entry_at-after.result ≡ entry 0 a.slot_of.items c.args.id = rw c.deref.ensures.value at c.entry_at-after.ensures in
    let none : entry 0 a.slot_of.items c.args.id ≡ 0 = sym read ∙ c.if-after-eq0.true in
    let b : Inside g.row.T.Denot = record { slot_of = c.put_at.new.entries; slots = c.insert_reserved-key.new.self; blank = a.blank } in
    let entries : List g.row.T.Denot = map (read_slot g.T.ById.blank a.slots) a.slot_of.items in
    let came : c.args.id < length entries = subst (λ xs. c.args.id < length xs) (sym c.self.view_is) c.requires in
    let within = there g.T.ById.blank g.T.ById.ROOM a c.args.self.now c.args.id h c.self.view_is c.requires in
    let is : Some c.index_mut.result.now ≡ Some c.blank.result = sym c.index_mut.ensures.value ∙ c.insert_reserved-key.ensures.updates.changed in
    let same : c.index_mut.result.now ≡ c.blank.result = cc in
    let was : entry g.T.ById.blank entries c.args.id ≡ g.T.ById.blank = entry_is_blank g.T.ById.blank a.slot_of.items a.slots c.args.id none in
    rw (← c.self.view_is) (
      (
        refl {a = c.index_mut.result.ghost_name},
        entries_lent g.T.ById.blank g.T.ById.ROOM a b c.args.id c.insert_reserved-key.result c.blank.result h within none
            c.insert_reserved-key.ensures.was_vacant c.insert_reserved-key.ensures.updates c.insert_reserved-key.ensures.len c.put_at.ensures.entries came,
      ),
      record { writes_back = tt; value = same ∙ c.blank.ensures ∙ sym was },
    )

pub returns : goal.returns
returns g c =
    let a = c.self.inside in
    let h = c.self.invariant in
    let its_key = key_of g.T.ById.blank a.slot_of.items c.args.id c.entry_at-after.result (rw c.deref.ensures.value at c.entry_at-after.ensures) c.if-after-eq0.false in
    let here = c.index_mut-2.ensures.value in
    let entries : List g.row.T.Denot = map (read_slot g.T.ById.blank a.slots) a.slot_of.items in
    let came : c.args.id < length entries = subst (λ xs. c.args.id < length xs) (sym c.self.view_is) c.requires in
    rw (← c.self.view_is) (
      (refl {a = c.index_mut-2.result.ghost_name}, λ w. entries_set g.T.ById.blank a.slot_of.items a.slots c.args.id (c.entry_at-after.result - 1) c.index_mut-2.result.now w h.apart its_key here came),
      record { writes_back = tt; value = sym (entry_was g.T.ById.blank a.slot_of.items a.slots c.args.id (c.entry_at-after.result - 1) c.index_mut-2.result.now c.index_mut-2.result.now h.apart its_key here) },
    )
