-- What was sent down and isn't done, as contracts see it, and how the fields of a line say it.
use Rattle.std.specs.Prelude.{ℕ, ◌≤◌, ◌<◌, ◌≡◌, ◌⊎◌, Bool, true, false, ◌==◌, not, ◌&&◌, List, [], ◌∷◌, length, Some, slice_get, slice_set, vec_capacity}
use Rattle.wdf_model.specs.declared.stack.Descent.{Descent}
use Rattle.wdf_model.specs.declared.stack.Descent.TheVariants as descent
use Rattle.wdf_model.specs.declared.stack.Forwarded.{Forwarded}
use Rattle.wdf_model.specs.agents.Connector.{is_waiting}
use Rattle.wdf_stack.specs.declared.line.Line.TheInside.{Inside}
use Rattle.wdf_stack.specs.Spans.{ArePlaced, lower_key, number_key, request_key}

-- how many requests there is room for, and those that were sent and aren't done
pub record Row : Type 0 where
  pub room : ℕ
  pub sent : List Forwarded

abbrev pub row_in : Inside → Row
row_in s = record { room = s.room; sent = s.sent.items }

-- a post is due for a request, whatever room there is
abbrev pub has_post : Forwarded → Bool
has_post f = elim f.descent as (λ _. Bool) [
  | descent.Below lower number passed ↦ f.cancelled && not passed
  | _ ↦ true
]

-- no request before a place passes
abbrev pub NoneBefore : {T : Type 0} → (T → Bool) → ℕ → List T → Type 0
NoneBefore {T} p n xs = (k : ℕ) (a : T) → k < n → slice_get xs k ≡ Some a → p a ≡ false

-- the request at a place waits, if there is one
abbrev pub IsWaitingAt : List Forwarded → ℕ → Type 0
IsWaitingAt sent place = (f : Forwarded) → slice_get sent place ≡ Some f → is_waiting f ≡ true

-- a change leaves the requests as they are that aren't from one place to before another
abbrev pub StaysOutside : (Forwarded → Forwarded) → ℕ → ℕ → List Forwarded → Type 0
StaysOutside change from to sent = (place : ℕ) (f : Forwarded) → slice_get sent place ≡ Some f → (place < from) ⊎ (to ≤ place) → change f ≡ f

-- a request is another than this
abbrev pub stays : ℕ → Forwarded → Bool
stays r f = not (f.request.id.0 == r)

-- The request at a place has come as far as this, and the others are as they were.
pub record IsSetAt (old new : List Forwarded) (place : ℕ) (d : Descent) : Type 0 where
  pub was : Forwarded
  pub at : slice_get old place ≡ Some was
  pub is : new ≡ slice_set old place (record was { descent = d })

-- whether the first request is this one
abbrev pub is_in_front : ℕ → List Forwarded → Bool
is_in_front r [] = false
is_in_front r (f ∷ fs) = f.request.id.0 == r

-- The tables lead to each request. No request before the two places waits, or has a post.
pub record IsInOrder (s : Inside) : Type 0 where
  pub capacity : s.room ≤ vec_capacity s.sent
  pub within : length s.sent.items ≤ s.room
  pub small : s.room < 65536
  pub counted : s.left_in_front ≤ 1000000000
  pub requests : ArePlaced request_key s.by_request s.sent.items s.left s.left_in_front
  pub lowers : ArePlaced lower_key s.by_lower s.sent.items s.left s.left_in_front
  pub numbers : ArePlaced number_key s.by_number s.sent.items s.left s.left_in_front
  pub waiting : NoneBefore is_waiting s.waiting s.sent.items
  pub due : NoneBefore has_post s.due s.sent.items
