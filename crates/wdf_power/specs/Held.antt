-- What the code keeps of how far the requests have come, what holds of it, and what the lists say of it.
use Rattle.std.specs.Prelude.{◌≡◌, ℕ, ◌≤◌, List, [], is_some, length, vec_capacity}
use Rattle.wdf_model.specs.declared.room.TheConstants.{OBJECTS}
use Rattle.wdf_model.specs.declared.entries.QueuePower.{QueuePower}
use Rattle.wdf_model.specs.declared.entries.Holding.{Holding}
use Rattle.wdf_model.specs.Tables.{entry}
use Rattle.wdf_model.specs.parts.Power.{Power, no_holding}
use Rattle.wdf_maps.specs.Counts.{AreCounted}
use Rattle.wdf_ilist.specs.Family.{is_on, list_at}
use Rattle.wdf_power.specs.declared.holdings.Holdings.TheInside.{Inside}
use Rattle.wdf_power.specs.ForQueues.{IsSetOf, resuming_queue, unasked_queue}
use Rattle.wdf_power.specs.Power.{due_at, held_list, is_list, resume_of, unsettled_at}

-- how far the requests have come
abbrev pub holdings_in : Inside → Power
holdings_in a = record { devices = []; queues = a.queues.items; holdings = a.all.items }

-- There is room for every request, and the counts are those of the requests.
pub record IsSound (a : Inside) : Type 0 where
  pub room : OBJECTS ≤ vec_capacity a.all
  pub within : length a.all.items ≤ OBJECTS
  pub unsettled : AreCounted (unsettled_at a.queues.items) a.all.items a.unsettled
  pub due : AreCounted (due_at a.queues.items) a.all.items a.due
  pub resumes : AreCounted resume_of a.all.items a.resumes
  pub unasked : AreCounted unasked_queue a.all.items a.unasked
  pub unasked_ids : IsSetOf (λ (h : Holding). is_some (unasked_queue h)) a.all.items a.unasked_ids
  pub resuming : AreCounted resuming_queue a.all.items a.resuming
  pub resuming_ids : IsSetOf (λ (h : Holding). h.resume_due) a.all.items a.resuming_ids

-- The lists have the requests that are held, by device.
pub record AreListed (queues : List QueuePower) (all : List Holding) (lists : List (List ℕ)) : Type 0 where
  pub on : (r l : ℕ) → is_on r (list_at lists l) ≡ is_list l (held_list queues (entry no_holding all r))
