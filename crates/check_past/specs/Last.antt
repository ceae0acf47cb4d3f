-- When a sign came last, among the first events of a list.
use Rattle.std.specs.Prelude.{if◌then◌else◌, ℕ, zero, suc, Bool, false, List, take, slice_get, Option, Some, None}
use Rattle.wdf_base.specs.declared.event.Event.{Event}
use Rattle.wdf_laws.specs.declared.sign.Sign.{Sign}
use Rattle.wdf_laws.specs.Signs.{shows}
use Rattle.wdf_laws.specs.Words.{stands}

-- an event that is there shows the sign
abbrev pub shows_in : Sign → Option Event → Bool
shows_in p None = false
shows_in p (Some e) = shows p e

-- the number of the last of the first k events with the sign, counted from 1; 0 where none has it
unfoldable pub last : Sign → List Event → ℕ → ℕ
last p all zero = 0
last p all (suc k) = if shows_in p (slice_get all k) then suc k else last p all k

-- at the last of the first k events with the first sign, the second stood without the third
unfoldable pub stood : Sign → Sign → Sign → List Event → ℕ → Bool
stood p a b all zero = false
stood p a b all (suc k) = if shows_in p (slice_get all k) then stands a b (take k all) else stood p a b all k
