-- The queued work items. (KMDF)
use Rattle.std.specs.Prelude.{if◌then◌else◌, ℕ, Bool, List, []}
use Rattle.wdf_model.specs.Tables.{contains, without, in_order}

-- the work items that are queued and have not started
pub record WorkItems : Type 0 where
  -- the ids of the queued work items, rising
  pub queued : List ℕ

-- ---- readers

-- whether work item o is queued
abbrev pub is_work_queued : WorkItems → ℕ → Bool
is_work_queued W o = contains o W.queued

-- work item o is queued, once: nothing changes where it is queued already
abbrev pub enqueue : WorkItems → ℕ → WorkItems
enqueue W o = if is_work_queued W o then W else record { queued = in_order o W.queued }

-- work item o leaves the queue, as its callback starts or its deletion is asked
abbrev pub cancel : WorkItems → ℕ → WorkItems
cancel W o = record { queued = without o W.queued }

-- ---- the opening

-- at the opening no work item is queued
abbrev pub no_work_items : WorkItems
no_work_items = record { queued = [] }
