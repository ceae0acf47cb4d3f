-- What the fields of the work items say, and in which order they are queued.
use Rattle.std.specs.Prelude.{ℕ, ◌≡◌, ◌≤◌, false, filter, length}
use Rattle.std.specs.List.{range_with_len}
use Rattle.wdf_model.specs.declared.room.TheConstants.{OBJECTS}
use Rattle.wdf_model.specs.parts.Deferred.WorkItems.{WorkItems, is_work_queued}
use Rattle.wdf_sets.specs.Members.{members}
use Rattle.wdf_defer.specs.declared.work_items.WorkItems.TheInside.{Inside}

abbrev pub work_items_in : Inside → WorkItems
work_items_in w = record { queued = members w.queued }

-- There is room for all objects.
pub record IsSound (w : Inside) : Type 0 where
  pub room : OBJECTS ≤ length w.queued

-- The queued work items are those of all ids that are queued, by rising id, where none from an end on is.
pub record AreInOrder (W : WorkItems) : Type 0 where
  pub rising : (end : ℕ) → ((o : ℕ) → end ≤ o → is_work_queued W o ≡ false) → W.queued ≡ filter (is_work_queued W) (range_with_len 0 end)
