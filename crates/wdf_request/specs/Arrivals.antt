-- Which request each arrival made: a row for each agent, by the number of its arrival.
use Rattle.std.specs.Prelude.{if◌then◌else◌, ℕ, suc, ◌≡◌, ◌+◌, ◌<◌, ◌==◌, nat_lt, Bool, true, false, not, ◌&&◌, ◌||◌, List, [], length, map, replicate, slice_set}
use Rattle.std.specs.List.{range_with_len}
use Rattle.wdf_base.specs.declared.plan.Plan.{Plan}
use Rattle.wdf_base.specs.Plan.{posts_of}
use Rattle.wdf_model.specs.declared.entries.Request.{Request}
use Rattle.wdf_model.specs.Tables.{entry}
use Rattle.wdf_model.specs.parts.Requests.{no_request}

pub record Noted : Type 0 where
  -- the id of the request and one more, or 0
  pub rows : List (List ℕ)
  -- two requests had one number of one agent: the rows say nothing then
  pub twice : Bool

-- No request arrived: each agent has a row with a place for each number of an arrival, up to that of its last line.
abbrev pub opening_row : Plan → ℕ → List ℕ
opening_row plan agent = replicate (length (posts_of plan agent) + 1) 0

unfoldable pub opening_rows : Plan → ℕ → List (List ℕ)
opening_rows plan count = map (opening_row plan) (range_with_len 0 count)

abbrev pub opening_arrivals : Plan → Noted
opening_arrivals plan = record { rows = opening_rows plan (1 + length plan.agents); twice = false }

-- a row whose places are empty again
abbrev pub emptied : List ℕ → List ℕ
emptied row = replicate (length row) 0

abbrev pub row_of : List (List ℕ) → ℕ → List ℕ
row_of rows agent = entry [] rows agent

-- whether there is a place for an arrival
abbrev pub has_slot : List (List ℕ) → ℕ → ℕ → Bool
has_slot rows agent k = nat_lt k (length (row_of rows agent))

abbrev pub slot : List (List ℕ) → ℕ → ℕ → ℕ
slot rows agent k = entry 0 (row_of rows agent) k

-- whether the rows say which request an arrival made
abbrev pub is_sure : Noted → ℕ → ℕ → Bool
is_sure A agent k = not A.twice && has_slot A.rows agent k

abbrev pub with_slot : List (List ℕ) → ℕ → ℕ → ℕ → List (List ℕ)
with_slot rows agent k id = slice_set rows agent (slice_set (row_of rows agent) k id)

-- an arrival with a place made this request, where that place held `old`
abbrev pub noted_at : Noted → ℕ → ℕ → ℕ → ℕ → Noted
noted_at A agent k r old =
    if old == 0 then record A { rows = with_slot A.rows agent k (r + 1) }
    else if old == r + 1 then A
    else record A { twice = true }

-- an arrival made this request; the number 0 is none
abbrev pub noted : Noted → ℕ → ℕ → ℕ → Noted
noted A agent k r = if k == 0 || not (has_slot A.rows agent k) then A else noted_at A agent k r (slot A.rows agent k)

-- The rows say which request each arrival made that has a place.
pub record AreNoted (all : List Request) (rows : List (List ℕ)) : Type 0 where
  pub at : (r : ℕ) → 0 < (entry no_request all r).info.arrival
      → has_slot rows (entry no_request all r).info.agent (entry no_request all r).info.arrival ≡ true
      → slot rows (entry no_request all r).info.agent (entry no_request all r).info.arrival ≡ suc r

-- unless two requests had one number
pub record IsNoted (all : List Request) (A : Noted) : Type 0 where
  pub once : A.twice ≡ false → AreNoted all A.rows
