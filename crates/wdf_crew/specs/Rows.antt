-- The seats of the workers, in a row. The last of them is the turnstile's first seat.
use Rattle.std.specs.Prelude.{◌≡◌, ◌≢◌, ℕ, ◌+◌, ◌<◌, List, length, slice_index_or, All}
use Rattle.wdf_turn.specs.Turns.{IsSeatOf, token}
use Rattle.wdf_turn.specs.declared.seat.Seat.{Seat}
use Rattle.wdf_turn.specs.declared.token.Hold.TheVariants.{Idle}
use Rattle.wdf_turn.specs.declared.turn.Turn.{Turn}

-- a seat of this turnstile that holds nothing
abbrev pub IsIdleSeat : {T R : Type 0} → Turn T R → Seat T → Type 0
IsIdleSeat turn seat = IsSeatOf turn seat × ((token seat).hold ≡ Idle)

-- the first seat, of which so many others aren't joined
abbrev pub IsFirst : {T : Type 0} → ℕ → Seat T → Type 0
IsFirst others seat = ((token seat).number ≡ 1) × ((token seat).unjoined ≡ others)

-- a seat that holds nothing and isn't the first
abbrev pub IsOtherSeat : {T R : Type 0} → Turn T R → Seat T → Type 0
IsOtherSeat turn seat = IsIdleSeat turn seat × ((token seat).number ≢ 1)

-- it is still that seat, and as many others aren't joined
abbrev pub IsSameSeat : {T : Type 0} → Seat T → Seat T → Type 0
IsSameSeat old new = ((token new).number ≡ (token old).number) × ((token new).unjoined ≡ (token old).unjoined)

-- so many other seats, and after them the first; all hold nothing
pub record IsRow {T R : Type 0} (turn : Turn T R) (others : ℕ) (seats : List (Seat T)) : Type 0 where
  pub count : length seats ≡ others + 1
  pub idle : All (IsIdleSeat turn) seats
  pub other : (k : ℕ) (d : Seat T) → k < others → (token (slice_index_or seats k d)).number ≢ 1
  pub first : (d : Seat T) → IsFirst others (slice_index_or seats others d)
