-- Where in a line the requests may be that have some key: a request that was sent, the request at the lower device, or the number
-- of an arrival.
use Rattle.std.specs.Prelude.{if◌then◌else◌, ℕ, ◌+◌, ◌≤◌, ◌<◌, ◌≡◌, nat_lt, min, max, List, Option, Some, None, slice_get}
use Rattle.wdf_model.specs.Tables.{entry, put}
use Rattle.wdf_model.specs.declared.room.TheConstants.{OBJECTS}
use Rattle.wdf_model.specs.declared.stack.Descent.{Descent}
use Rattle.wdf_model.specs.declared.stack.Descent.TheVariants as descent
use Rattle.wdf_model.specs.declared.stack.Forwarded.{Forwarded}
use Rattle.wdf_stack.specs.declared.spans.Span.{Span}

-- ---- spans by key

-- nothing has the key
abbrev pub nowhere : Span
nowhere = record { low = 4294967295; high = 0 }

-- what has the key may be anywhere
abbrev pub anywhere : Span
anywhere = record { low = 0; high = 4294967295 }

-- the span of a key; what has a key that no object's id can be may be anywhere
abbrev pub span_of : List Span → ℕ → Span
span_of spans key = if nat_lt key OBJECTS then entry nowhere spans key else anywhere

-- the least span that has two
abbrev pub joined : Span → Span → Span
joined a b = record { low = min a.low b.low; high = max a.high b.high }

-- what has a key may also be in a span
abbrev pub noted : List Span → ℕ → Span → List Span
noted spans key s = if nat_lt key OBJECTS then put nowhere spans key (joined (entry nowhere spans key) s) else spans

-- the same where there is a key
abbrev pub noted_if_any : List Span → Option ℕ → Span → List Span
noted_if_any spans None s = spans
noted_if_any spans (Some key) s = noted spans key s

-- nothing has a key any more
abbrev pub forgotten : List Span → ℕ → List Span
forgotten spans key = if nat_lt key OBJECTS then put nowhere spans key nowhere else spans

-- ---- keys of requests

-- the request that was sent
abbrev pub request_key : Forwarded → Option ℕ
request_key f = Some f.request.id.0

-- the request at the lower device, of what has come there
abbrev pub lower_in : Descent → Option ℕ
lower_in (descent.Below lower number passed) = Some lower.0
lower_in _ = None

-- the number of its arrival
abbrev pub number_in : Descent → Option ℕ
number_in (descent.Below lower number passed) = Some number
number_in _ = None

-- the request at the lower device
abbrev pub lower_key : Forwarded → Option ℕ
lower_key f = lower_in f.descent

-- the number of the arrival
abbrev pub number_key : Forwarded → Option ℕ
number_key f = number_in f.descent

-- ---- where the requests are

-- a place is within a span, after so many have left, so many of them at the front
pub record IsWithin (s : Span) (place left front : ℕ) : Type 0 where
  pub small : s.low ≤ 4294967295
  pub low : s.low ≤ place + left
  pub high : place + front < s.high

-- each request is within the span of its key
abbrev pub ArePlaced : (Forwarded → Option ℕ) → List Span → List Forwarded → ℕ → ℕ → Type 0
ArePlaced key spans sent left front = (place : ℕ) (f : Forwarded) (k : ℕ) → slice_get sent place ≡ Some f → key f ≡ Some k → IsWithin (span_of spans k) place left front
