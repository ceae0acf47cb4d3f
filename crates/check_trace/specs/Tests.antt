-- What is asked of the items of the lists.
use Rattle.std.specs.Prelude.{ℕ, Bool, not, ◌||◌, List}
use Rattle.wdf_base.specs.declared.event.Event.{Event}
use Rattle.wdf_laws.specs.declared.sign.Sign.TheVariants as sign
use Rattle.wdf_laws.specs.declared.sign.Taking.{Taking}
use Rattle.wdf_laws.specs.Words.{ever, stands, followed}

-- a request was completed
abbrev pub is_done : List Event → ℕ → Bool
is_done before r = ever (sign.Completion r) before

-- an object has its end
abbrev pub has_ended : List Event → ℕ → Bool
has_ended before o = ever (sign.Destroyed o) before

-- a request that was taken isn't held, or was acknowledged since the queues of the device went down
abbrev pub is_answered : List Event → ℕ → Taking → Bool
is_answered before d t = not (stands (sign.TakingFrom t.request t.queue) (sign.GivingUp t.request) before) || followed (sign.QueuesDown d) (sign.Acknowledgement t.request) before
