-- The rule of a turnstile: what holds between any two steps, of the words, the slot and all tokens.
-- Word 0 is the holder: the number of the seat that holds the value, or 0. Word 1 is the length of the history. Slot 0 has the value.
use Rattle.std.specs.Prelude.{◌≡◌, ◌≢◌, ◌==◌, ℕ, ◌+◌, ◌^◌, ◌<◌, ◌≤◌, List, [], ◌∷◌, length, All, Option, Some, None, if◌then◌else◌}
use mathlib.Core.List.{IsPrefix}
use mathlib.Core.Option as maybe
use lib.ListN.{get_elem?}
use Rattle.atomic_table.specs.Table.{State}
use Rattle.wdf_base.specs.declared.event.Event.{Event}
use Rattle.wdf_turn.specs.declared.token.Token.{Token}
use Rattle.wdf_turn.specs.declared.token.Hold.{Hold}
use Rattle.wdf_turn.specs.declared.token.Hold.TheVariants.{Idle, Out, Stored}
use Rattle.wdf_turn.specs.Notes.{total, times, within, IsNoteOf}
use Rattle.wdf_turn.specs.Tokens.{IsOther}

-- 1 where the seat wasn't joined away
abbrev pub alive_as : {T : Type 0} → Option T → ℕ
alive_as None = 0
alive_as (Some o) = 1

abbrev pub alive : {T : Type 0} → Token T → ℕ
alive v = alive_as v.opening

-- 1 where the seat holds the value
abbrev pub held_as : Hold → ℕ
held_as Idle = 0
held_as (Out list) = 1
held_as Stored = 1

abbrev pub held : {T : Type 0} → Token T → ℕ
held v = held_as v.hold

-- 0 where no seat holds, and else 1
abbrev pub taken : ℕ → ℕ
taken holder = if holder == 0 then 0 else 1

-- the holder is the seat that holds; the history at its taking is the history, and so is what it has seen once that is stored
abbrev pub Holds : List Event → ℕ → ℕ → List Event → Hold → Type 0
Holds history holder number seen Idle = number ≢ holder
Holds history holder number seen (Out list) = (number ≡ holder) × (list ≡ history)
Holds history holder number seen Stored = (number ≡ holder) × (seen ≡ history)

-- what no token has for itself: the history and where the opening's ends, who holds, how many seats there may be, were made and aren't joined, and which seat has a number
pub record Common : Type 0 where
  pub history : List Event
  pub from : ℕ
  pub holder : ℕ
  pub seats : ℕ
  pub made : ℕ
  pub live : ℕ
  pub place : ℕ → ℕ

-- what holds of the token of the seat `at`, if it wasn't joined away
pub record IsLive {T : Type 0} (c : Common) (at : ℕ) (v : Token T) : Type 0 where
  pub seen : IsPrefix v.seen c.history
  pub told : IsPrefix v.told v.seen
  pub own : All (IsNoteOf c.from c.history) v.own
  pub looks : All (λ n. n ≤ length c.history) v.looks
  pub found : All (IsOther c.made v.number) v.found
  pub number : (0 < v.number) × (v.number ≤ c.made)
  pub only : c.place v.number ≡ at
  pub seats : v.seats ≡ c.seats
  pub first : v.number ≡ 1 → (v.made ≡ c.made) × (v.unjoined + 1 ≡ c.live)
  pub other : v.number ≢ 1 → (v.made ≡ c.seats) × (v.unjoined ≡ 0)
  pub holds : Holds c.history c.holder v.number v.seen v.hold

abbrev pub Fits : {T : Type 0} → T → Common → ℕ → Token T → Option T → Type 0
Fits opening c at v None = (v.own ≡ []) × (v.hold ≡ Idle)
Fits opening c at v (Some o) = (o ≡ opening) × IsLive c at v

pub record Kept {T R : Type 0} (root : T → R) (events : T → List Event) (seats : ℕ) (opening : T) (s : State (Option T) (Token T)) : Type 0 where
  pub common : Common
  -- one history, which begins with the opening's
  pub begins : IsPrefix (events opening) common.history
  pub start : common.from ≡ length (events opening)
  pub words : s.words ≡ common.holder ∷ length common.history ∷ []
  -- where no seat holds, the slot has the value, which has the history
  pub free : common.holder ≡ 0 → (x : T) × (s.homes ≡ maybe.some (Some x) ∷ []) × (root x ≡ root opening) × (events x ≡ common.history)
  pub busy : common.holder ≢ 0 → s.homes ≡ maybe.none ∷ []
  pub one_holds : total held s.views ≡ taken common.holder
  pub numbers : (common.holder ≤ common.made) × (common.made ≤ seats) × (seats < 2 ^ 32) × (common.seats ≡ seats)
  pub counted : total alive s.views ≡ common.live
  -- each place since the opening is noted once
  pub once : (place : ℕ) → total (λ v. times place v.own) s.views ≡ within common.from common.history place
  pub each : (at : ℕ) (v : Token T) → get_elem? s.views at ≡ maybe.some v → Fits opening common at v v.opening
