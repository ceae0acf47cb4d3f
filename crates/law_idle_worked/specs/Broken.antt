-- Lists of events that are no runs: each breaks the law on idle runs.
use Rattle.std.specs.Prelude.{List, [], ◌∷◌, ◌++◌, Some, None, take}
use Rattle.wdf_base.specs.declared.event.Action.TheVariants as action
use Rattle.wdf_base.specs.declared.event.Ask.TheVariants as ask
use Rattle.wdf_base.specs.declared.event.Post.TheVariants as post
use Rattle.wdf_base.specs.declared.event.Event.{Event}
use Rattle.wdf_base.specs.declared.event.Event.TheVariants as event
use Rattle.law_machine_worked.specs.Writing.{h}
use Rattle.law_idle_worked.specs.IdleRequests.{sleeps_when_unused_events, hold_by_device_events}

-- own: device D's timeout is 2, and it goes to sleep after 1
abbrev pub early : List Event
early = event.Tick 1 ∷ event.Posted 0 (post.Ask ask.Sleep (h 2 2)) None ∷ []

-- own: nobody puts it to sleep after 2
abbrev pub late : List Event
late = event.Tick 1 ∷ event.Tick 2 ∷ event.Tick 3 ∷ []

-- own: nobody wakes it for the request that arrives after the first 15 events
abbrev pub forgotten : List Event
forgotten = take 16 sleeps_when_unused_events ++ event.Tick 6 ∷ []

-- own: it goes to sleep as if it had been idle while it was held awake, which ends by the seventh event
abbrev pub held : List Event
held = take 7 hold_by_device_events ++ event.Posted 0 (post.Ask ask.Sleep (h 2 2)) None ∷ []

-- own: it goes to sleep after 2, though it is held from the opening
abbrev pub unheard : List Event
unheard = event.Posted 1 (post.Act (action.Set 1 1)) None ∷ event.Tick 1 ∷ event.Tick 2 ∷ event.Posted 0 (post.Ask ask.Sleep (h 2 2)) None ∷ []

-- own: it goes to sleep after 2, though a request is pending
abbrev pub used : List Event
used = event.Posted 1 (post.Read (h 2 2) 16) (Some (h 4 1)) ∷ event.Tick 1 ∷ event.Tick 2 ∷ event.Posted 0 (post.Ask ask.Sleep (h 2 2)) None ∷ []

-- own: it is woken after the first 13 events, though no request is pending
abbrev pub unwanted : List Event
unwanted = take 13 sleeps_when_unused_events ++ event.Posted 0 (post.Ask ask.Wake (h 2 2)) None ∷ []
