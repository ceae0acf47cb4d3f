-- What a queue has presented, as far as the order of its requests needs it.
use Rattle.std.specs.Prelude.{if◌then◌else◌, ℕ, zero, suc, ◌+◌, not, nat_lt, max, List, [], take, slice_get, Option, Some, None}
use Rattle.wdf_base.specs.declared.event.Event.{Event}
use Rattle.wdf_laws.specs.declared.sign.Sign.TheVariants as sign
use Rattle.wdf_laws.specs.declared.sign.Taking.{Taking}
use Rattle.wdf_laws.specs.Events.{is_id, where_so}
use Rattle.wdf_laws.specs.Laws.{came_at_head, presented_in}
use Rattle.check_past.specs.declared.shown.Shown.{Shown}
use Rattle.check_past.specs.Maps.{added_at}
use Rattle.check_past.specs.Last.{last}

-- a presentation of a request that had entered a queue
abbrev pub shown_by : List Event → ℕ → Option Taking → Option Shown
shown_by all k None = None
shown_by all k (Some t) =
    if nat_lt 0 (last (sign.Entry t.request) all k)
    then Some (record { queue = t.queue; at_head = came_at_head (take k all) t.request; entry = last (sign.Entry t.request) all k; number = k + 1 })
    else None

-- event k, if it is one
abbrev pub shown_at : List Event → ℕ → Option Shown
shown_at all k = shown_by all k (presented_in (slice_get all k))

-- the queue that presents one whose request entered at the tail, or at the head
abbrev pub tail_queue : Shown → Option ℕ
tail_queue s = where_so (not s.at_head) (Some s.queue)

abbrev pub head_queue : Shown → Option ℕ
head_queue s = where_so s.at_head (Some s.queue)

-- the greatest number of an entry at the tail, of those that were presented
abbrev pub with_entry : ℕ → Option Shown → ℕ → ℕ
with_entry q None n = n
with_entry q (Some s) n = if is_id q (tail_queue s) then max n s.entry else n

unfoldable pub tail_entry : List Event → ℕ → ℕ → ℕ
tail_entry all q zero = 0
tail_entry all q (suc k) = with_entry q (shown_at all k) (tail_entry all q k)

-- the number of the last presentation of one that entered at the tail
abbrev pub with_number : ℕ → Option Shown → ℕ → ℕ
with_number q None n = n
with_number q (Some s) n = if is_id q (tail_queue s) then s.number else n

unfoldable pub tail_number : List Event → ℕ → ℕ → ℕ
tail_number all q zero = 0
tail_number all q (suc k) = with_number q (shown_at all k) (tail_number all q k)

-- the presentations of those that entered at the head
abbrev pub with_head : ℕ → Option Shown → List Shown → List Shown
with_head q None heads = heads
with_head q (Some s) heads = added_at (head_queue s) s q heads

unfoldable pub heads : List Event → ℕ → ℕ → List Shown
heads all q zero = []
heads all q (suc k) = with_head q (shown_at all k) (heads all q k)
