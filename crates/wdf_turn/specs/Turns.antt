-- What clauses say of turnstiles, seats and the value that a seat holds.
use Rattle.std.specs.Prelude.{◌≡◌, List, length, Some}
use mathlib.Core.List.{IsPrefix}
use Rattle.wdf_base.specs.declared.event.Event.{Event}
use Rattle.wdf_turn.specs.declared.token.Token.{Token}
use Rattle.wdf_turn.specs.declared.token.Hold.TheVariants.{Out}
use Rattle.wdf_turn.specs.declared.seat.Seat.{Seat}
use Rattle.wdf_turn.specs.declared.held.Held.{Held}
use Rattle.wdf_turn.specs.declared.held.Attempt.{Attempt}
use Rattle.wdf_turn.specs.declared.held.Attempt.TheVariants.{Taken, Busy}
use Rattle.wdf_turn.specs.declared.turn.Turn.{Turn}
use Rattle.wdf_turn.specs.Tokens.{holding, failed, IsOther}

-- what a seat knows
abbrev pub token : {T : Type 0} → Seat T → Token T
token seat = seat.place.me.0

-- the value with which a turnstile was made
abbrev pub opening : {T R : Type 0} → Turn T R → T
opening turn = turn.shelf.shared.key.opening.value

-- the seat is one of the turnstile's
abbrev pub IsSeatOf : {T R : Type 0} → Turn T R → Seat T → Type 0
IsSeatOf turn seat = (seat.place.table_id ≡ turn.shelf.shared.table_id) × ((token seat).opening ≡ Some (opening turn))

-- the value as it is, and as it was taken
abbrev pub value_of : {T : Type 0} → Held T → T
value_of held = held.value

abbrev pub taken_value : {T : Type 0} → Held T → T
taken_value held = held.taken.value

module _ {T R : Type 0} (root : T → R) (events : T → List Event) where
  -- the seat took it, with the opening's root
  abbrev pub IsHeldBy : Turn T R → Seat T → Held T → Type 0
  IsHeldBy turn seat held = (held.number ≡ (token seat).number)
      × ((token seat).hold ≡ Out (events (taken_value held)))
      × (held.length ≡ length (events (taken_value held)))
      × (root (taken_value held) ≡ root (opening turn))

  -- what a try answers: the value, whose history begins with all that the seat had seen; or another seat's number, and nothing else has changed
  abbrev pub Answers : Turn T R → Seat T → Seat T → Attempt T → Type 0
  Answers turn old new (Taken held) = IsHeldBy turn new held
      × (value_of held ≡ taken_value held)
      × IsPrefix (token old).seen (events (value_of held))
      × (token new ≡ holding (token old) (events (value_of held)))
  Answers turn old new (Busy n) = IsOther (token old).made (token old).number n × (token new ≡ failed (token old) n)
