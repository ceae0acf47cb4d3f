-- The nine laws of a trace, at each event of a list.
use Rattle.std.specs.Prelude.{◌≡◌, ℕ, true, List, Some, slice_get, take}
use Rattle.wdf_base.specs.declared.plan.Plan.{Plan}
use Rattle.wdf_base.specs.declared.event.Event.{Event}
use Rattle.wdf_laws.specs.Frames.{frames_after}
use Rattle.wdf_laws.specs.Laws.{law_1, law_2, law_3, law_4, law_5, law_6, law_7, law_8, law_9}

-- The event that comes after the first k keeps each law.
pub record KeepsAt (plan : Plan) (run : List Event) (k : ℕ) (e : Event) : Type 0 where
  -- a request is completed once, and a device ends after its requests
  pub completed : law_1 (take k run) e ≡ true
  -- callbacks under one scope lock come one after the other
  pub scoped : law_2 plan run (frames_after (take k run)) e ≡ true
  -- after the cleanup of an object nothing begins on it or below it but its destroy callback
  pub cleaned : law_3 plan run (take k run) e ≡ true
  -- an interrupt is enabled only on an entered device, and its other callbacks begin only after that; those with its lock
  -- begin alone
  pub served : law_4 plan (take k run) (frames_after (take k run)) e ≡ true
  -- a power-managed queue works only while its device has power
  pub powered : law_5 plan (take k run) e ≡ true
  -- a device loses power only after each request that is held was acknowledged
  pub acknowledged : law_6 plan (take k run) e ≡ true
  -- a cancel callback comes once, for a request that is marked and whose cancel was posted
  pub cancelled : law_7 (take k run) e ≡ true
  -- a queue presents from its head
  pub in_turn : law_8 (take k run) e ≡ true
  -- an object ends once, after its cleanup, its children and its references
  pub ended : law_9 plan run (take k run) e ≡ true

-- Each event of the list keeps the nine laws.
abbrev pub KeepsLaws : Plan → List Event → Type 0
KeepsLaws plan run = (k : ℕ) (e : Event) → slice_get run k ≡ Some e → KeepsAt plan run k e
