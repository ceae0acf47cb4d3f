-- Tests of where a request is, and of how it is marked.
use Rattle.std.specs.Prelude.{ℕ, Bool, true, false, ◌==◌}
use Rattle.wdf_base.specs.declared.object.Place.{Place}
use Rattle.wdf_base.specs.declared.object.Place.TheVariants as place
use Rattle.wdf_base.specs.declared.object.Mark.{Mark}
use Rattle.wdf_base.specs.declared.object.Mark.TheVariants as marks

-- whether a request at this place is the driver's to complete, to move or to send (KMDF)
abbrev pub is_owned : Place → Bool
is_owned place.Owned = true
is_owned _ = false

-- whether a request at this place is completed
abbrev pub is_done : Place → Bool
is_done place.Done = true
is_done _ = false

-- whether the framework is about to complete a request at this place; the place has the status
abbrev pub is_closing : Place → Bool
is_closing (place.Closing s) = true
is_closing _ = false

-- whether a request at this place is sent to a target; own: also when the target is done and the completion routine
-- hasn't started
abbrev pub is_sent : Place → Bool
is_sent (place.Sent t) = true
is_sent _ = false

-- whether a request at this place is sent to target t
abbrev pub is_sent_to : ℕ → Place → Bool
is_sent_to t (place.Sent u) = u.0 == t
is_sent_to t _ = false

-- whether a request at this place was cancelled in queue q and has EvtIoCanceledOnQueue due there (KMDF)
abbrev pub is_returning_to : ℕ → Place → Bool
is_returning_to q (place.Returning p) = p.0 == q
is_returning_to q _ = false

-- whether a request at this place waits in queue q
abbrev pub is_queued_in : ℕ → Place → Bool
is_queued_in q (place.Queued p) = p.0 == q
is_queued_in q _ = false

-- whether a request is cancelable: the driver marked it, and no cancel has come (KMDF)
abbrev pub is_marked : Mark → Bool
is_marked marks.Marked = true
is_marked _ = false

-- whether a cancelable request was cancelled, and EvtRequestCancel hasn't started (KMDF)
abbrev pub is_due : Mark → Bool
is_due marks.Due = true
is_due _ = false
