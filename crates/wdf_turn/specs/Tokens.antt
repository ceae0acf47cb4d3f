-- What a token says at the start, and what each call makes of it.
use Rattle.std.specs.Prelude.{◌≡◌, ◌≢◌, ◌⊎◌, ℕ, Bool, true, false, ◌+◌, ◌-◌, ◌^◌, ◌<◌, ◌≤◌, List, [], ◌∷◌, ◌++◌, length, nat_lt, Option, Some, None, if◌then◌else◌}
use mathlib.Core.List.{IsPrefix}
use mathlib.Core.Option as maybe
use Rattle.atomic_table.specs.Table.{Me, Step, rest}
use Rattle.wdf_base.specs.declared.event.Event.{Event}
use Rattle.wdf_turn.specs.declared.token.Token.{Token}
use Rattle.wdf_turn.specs.declared.token.Hold.{Hold}
use Rattle.wdf_turn.specs.declared.token.Hold.TheVariants.{Idle, Out, Stored}
use Rattle.wdf_turn.specs.Notes.{notes_beyond}

abbrev pub longer : List Event → List Event → List Event
longer a b = if nat_lt (length a) (length b) then b else a

abbrev pub shorter : List Event → List Event → List Event
shorter a b = if nat_lt (length a) (length b) then a else b

-- another seat's number, as far as a seat can know which seats were made: from 1 to `made`, and not its own
abbrev pub IsOther : ℕ → ℕ → ℕ → Type 0
IsOther made own n = (0 < n) × (n ≤ made) × (n ≢ own)

-- the history got one event more at most
abbrev pub IsGrown : List Event → List Event → Type 0
IsGrown old new = (new ≡ old) ⊎ ((e : Event) × (new ≡ old ++ e ∷ []))

abbrev Sat : Type 0 → Type 0
Sat T = Me (Option T) (Token T)

module _ {T : Type 0} where
  -- the first seat, at a history with this value
  abbrev pub first_token : (T → List Event) → ℕ → T → Token T
  first_token events seats opening = record {
    number = 1;
    made = 1;
    seats = seats;
    unjoined = 0;
    seen = events opening;
    told = [];
    own = [];
    looks = [];
    found = [];
    opening = Some opening;
    hold = Idle;
  }

  -- a split: the old seat gives its next number to the new one, which has seen the same and done nothing
  abbrev pub split_off : Token T → Token T
  split_off v = record v { made = v.made + 1; unjoined = v.unjoined + 1 }

  abbrev pub new_token : Token T → Token T
  new_token v = record {
    number = v.made + 1;
    made = v.seats;
    seats = v.seats;
    unjoined = 0;
    seen = v.seen;
    told = [];
    own = [];
    looks = [];
    found = [];
    opening = v.opening;
    hold = Idle;
  }

  -- a join: what the other has seen and done passes on
  abbrev pub joined : Token T → Token T → Token T
  joined v w = record v { unjoined = v.unjoined - 1; seen = longer v.seen w.seen; told = shorter v.seen w.seen; own = v.own ++ w.own }

  -- a seat that was joined away
  abbrev pub spent : Token T
  spent = record {
    number = 0;
    made = 0;
    seats = 0;
    unjoined = 0;
    seen = [];
    told = [];
    own = [];
    looks = [];
    found = [];
    opening = None;
    hold = Idle;
  }

  -- a load of the length that found n
  abbrev pub looked : Token T → ℕ → Token T
  looked v n = record v { looks = v.looks ++ n ∷ [] }

  -- a failed try that found n
  abbrev pub failed : Token T → ℕ → Token T
  failed v n = record v { found = v.found ++ n ∷ [] }

  -- the value was taken, with this history
  abbrev pub holding : Token T → List Event → Token T
  holding v history = record v { hold = Out history }

  -- the history of the value, which was `old`, has become `new`, and the seat hasn't let go yet
  abbrev pub stored : Token T → List Event → List Event → Token T
  stored v old new = record v { seen = new; own = v.own ++ notes_beyond old new; hold = Stored }

  -- the same, and the seat has let go
  abbrev pub given : Token T → List Event → List Event → Token T
  given v old new = record v { seen = new; own = v.own ++ notes_beyond old new; hold = Idle }

  -- the value has the opening's root, and its history begins with all that the seat has seen
  abbrev pub IsWhole : {R : Type 0} → (T → R) → (T → List Event) → Token T → T → Type 0
  IsWhole root events v x = ((o : T) → v.opening ≡ Some o → root x ≡ root o) × IsPrefix v.seen (events x)

  -- What the steps say. The slot has the value's place 0.

  -- the try of the holder word: at 0 it has won, and the slot is the seat's; else it found another seat's number
  abbrev pub Tries : {R : Type 0} → (T → R) → (T → List Event) → Step (Option T) → Sat T → ℕ → Sat T → Type 0
  Tries root events st m n m' = (n ≡ 0 → (x : T) × IsWhole root events m.0 x × (m' ≡ (holding m.0 (events x), (0, Some x) ∷ m.1)))
      × (n ≢ 0 → IsOther m.0.made m.0.number n × (n < 2 ^ 32) × (m' ≡ (failed m.0 n, m.1)))

  -- the exchange of the length, which is told the value
  abbrev pub Records : (T → List Event) → Step (Option T) → Sat T → ℕ → Sat T → Type 0
  Records events st m n m' = (x : T) (old : List Event) → st.said ≡ maybe.some (Some x) → m.0.hold ≡ Out old → m' ≡ (stored m.0 old (events x), m.1)

  -- the store of 0 to the holder word
  abbrev pub LetsGo : Step (Option T) → Sat T → ℕ → Sat T → Type 0
  LetsGo st m n m' = m' ≡ (record m.0 { hold = Idle }, rest m.1)

  -- the load of the length
  abbrev pub Looks : Step (Option T) → Sat T → ℕ → Sat T → Type 0
  Looks st m n m' = (m' ≡ (looked m.0 n, m.1)) × (length m.0.seen ≤ n) × IsPrefix m.0.told m.0.seen

-- the slots of a seat between two calls: none where it is idle, and the empty slot where it has taken the value
abbrev pub slots_of : {T : Type 0} → Hold → List (ℕ × Option T)
slots_of Idle = []
slots_of (Out list) = (0, None) ∷ []
slots_of Stored = (0, None) ∷ []

-- a seat stores and lets go in one call
abbrev pub is_settled : Hold → Bool
is_settled Idle = true
is_settled (Out list) = true
is_settled Stored = false
