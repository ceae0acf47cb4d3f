-- The queues that the fields stand for.
use Rattle.std.specs.Prelude.{ℕ, ◌≡◌, Bool, true, false, not, ◌&&◌, List, [], length}
use Rattle.wdf_maps.specs.Places.{rises}
use Rattle.wdf_sets.specs.SetOf.{IsSetOf}
use Rattle.wdf_model.specs.declared.room.TheConstants.{OBJECTS}
use Rattle.wdf_model.specs.Tables.{entry}
use Rattle.wdf_model.specs.parts.Queues.{Queues, is_empty_queue, is_free}
use Rattle.wdf_queue.specs.declared.queues.Queues.TheInside.{Inside}

abbrev pub queues_in : Inside → Queues
queues_in s = record { dispatch = s.dispatch.items; waiting = s.waiting.lists; held = s.held.items }

-- whether queue q presents one request more now: some wait, and it is free
abbrev pub presents : Queues → ℕ → Bool
presents Q q = not (is_empty_queue Q q) && is_free Q q

-- The members are the queues that present one request more now.
abbrev pub HoldsPresentable : Queues → List Bool → Type 0
HoldsPresentable Q bits = IsSetOf (presents Q) (length Q.dispatch) bits

-- Each list that is marked rises by id. Of the others the marks say nothing.
abbrev pub AreMarked : List Bool → List (List ℕ) → Type 0
AreMarked marks lists = (q : ℕ) → entry false marks q ≡ true → rises (λ x. x) 0 OBJECTS (entry [] lists q) ≡ true

-- Each id has a waiting list, a count and a mark, and every object may wait; which queues present is kept.
pub record IsSound (s : Inside) : Type 0 where
  pub lists : length s.waiting.lists ≡ length s.dispatch.items
  pub counts : length s.held.items ≡ length s.dispatch.items
  pub room : s.waiting.items ≡ OBJECTS
  pub marks : length s.rising.items ≡ length s.dispatch.items
  pub rising : AreMarked s.rising.items s.waiting.lists
  pub presentable : HoldsPresentable (queues_in s) s.presentable
