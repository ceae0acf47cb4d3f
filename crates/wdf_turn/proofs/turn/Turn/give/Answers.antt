use Rattle.std.proofs.Common.{rules, ◌∷◌, ap, sym, ◌∙◌, refl, Some, None}
use Rattle.atomic_table.specs.Table.{rest}
use Rattle.wdf_turn.specs.Tokens.{slots_of, is_settled}
use Rattle.wdf_turn.proofs.Steps.{records, lets_go, recorded, gave, same_front}
use Rattle.wdf_turn.proofs.turn.Turn.give.Goals as goal

pub compare_exchange_with-requires : goal.compare_exchange_with-requires
compare_exchange_with-requires g c = let taken = c.requires.taken in (
  c.requires.own.0,
  search rules,
  records g.T.Chronicle.root g.T.Chronicle.events _ _ _ _ _ _ c.args.held.value (g.T.Chronicle.events c.args.held.taken.value) _ _ c.requires.own.1 taken.1 taken.2 c.length-after.ensures c.requires.grown,
)

pub exchange-empty-requires : goal.exchange-empty-requires
exchange-empty-requires g c =
    let taken = c.requires.taken in
    let now = recorded g.T.Chronicle.events c.args.seat.now.place.me _ c.args.held.value (g.T.Chronicle.events c.args.held.taken.value) (c.compare_exchange_with.ensures.2 _ _ refl taken.1) taken.1 c.args.seat.now.slots in
    let had = ap (λ m. m.1) now in
    (c.compare_exchange_with.ensures.0 ∙ c.requires.own.0, (None, had ∙ ap (λ l. (0, None) ∷ rest l) (sym had)))

pub unreachable-requires : goal.unreachable-requires
unreachable-requires g c =
    let taken = c.requires.taken in
    let now = recorded g.T.Chronicle.events c.args.seat.now.place.me _ c.args.held.value (g.T.Chronicle.events c.args.held.taken.value) (c.compare_exchange_with.ensures.2 _ _ refl taken.1) taken.1 c.args.seat.now.slots in
    c.in_default.not-None (sym (same_front _ None c.exchange-empty.result _ _ (ap (λ m. m.1) now) c.exchange-empty.ensures.2))

pub store-requires : goal.store-requires
store-requires g c =
    let taken = c.requires.taken in
    let now = recorded g.T.Chronicle.events c.args.seat.now.place.me _ c.args.held.value (g.T.Chronicle.events c.args.held.taken.value) (c.compare_exchange_with.ensures.2 _ _ refl taken.1) taken.1 c.args.seat.now.slots in
    let put = c.exchange-empty.ensures.3 in (
      search rules,
      search rules,
      lets_go g.T.Chronicle.root g.T.Chronicle.events _ _ _ _ _ _ c.args.held.value
          (ap (λ m. m.0.opening) put ∙ (ap (λ m. m.0.opening) now ∙ c.requires.own.1))
          (ap (λ m. m.0.hold) put ∙ ap (λ m. m.0.hold) now)
          (ap (λ m. m.1) put ∙ ap (λ l. (0, Some c.args.held.value) ∷ rest l) (ap (λ m. m.1) now))
          (c.requires.root ∙ taken.3)
          (sym (ap (λ m. m.0.seen) put ∙ ap (λ m. m.0.seen) now)),
    )

pub invariant_of-seat : goal.invariant_of-seat
invariant_of-seat g c =
    let taken = c.requires.taken in
    let now = recorded g.T.Chronicle.events c.args.seat.now.place.me _ c.args.held.value (g.T.Chronicle.events c.args.held.taken.value) (c.compare_exchange_with.ensures.2 _ _ refl taken.1) taken.1 c.args.seat.now.slots in
    let after = gave g.T.Chronicle.events c.args.seat.now.place.me _ _ _ c.args.held.value (g.T.Chronicle.events c.args.held.taken.value) now c.exchange-empty.ensures.3 c.store.ensures.2 in
    let seat = c.args.seat.now in record {
      numbered = ap (λ m. m.0.number) after ∙ seat.numbered;
      counted = ap (λ m. m.0.made) after ∙ seat.counted;
      limited = ap (λ m. m.0.seats) after ∙ seat.limited;
      slots = ap (λ m. m.1) after ∙ sym (ap (λ m. slots_of m.0.hold) after);
      settled = ap (λ m. is_settled m.0.hold) after;
    }

pub returns-clause-own : goal.returns-clause-own
returns-clause-own g c =
    let taken = c.requires.taken in
    let now = recorded g.T.Chronicle.events c.args.seat.now.place.me _ c.args.held.value (g.T.Chronicle.events c.args.held.taken.value) (c.compare_exchange_with.ensures.2 _ _ refl taken.1) taken.1 c.args.seat.now.slots in
    let after = gave g.T.Chronicle.events c.args.seat.now.place.me _ _ _ c.args.held.value (g.T.Chronicle.events c.args.held.taken.value) now c.exchange-empty.ensures.3 c.store.ensures.2 in
    (search rules, ap (λ m. m.0.opening) after ∙ c.requires.own.1)
