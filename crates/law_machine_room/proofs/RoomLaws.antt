-- The laws of room: it is kept at each place of every run, and what may follow a run can be done.
use Rattle.std.proofs.Common.{◌≡◌, ℕ, List, Some, slice_get, take}
use Rattle.wdf_base.specs.Meaning.{Meaning}
use Rattle.wdf_base.specs.Resolved.{IsResolved}
use Rattle.wdf_base.specs.declared.plan.Plan.{Plan}
use Rattle.wdf_base.specs.declared.event.Event.{Event}
use Rattle.wdf_model.specs.rules.Steps.{deeds}
use Rattle.wdf_model.specs.rules.Ready.{IsRunOf, ready, state_after}
use Rattle.wdf_model.specs.rules.Room.{AreDoable}
use Rattle.law_machine_room.specs.Kept.{RoomKept}
use Rattle.law_machine_room.proofs.GrowthOverEvents.{growth_kept, growth_opens}
use Rattle.law_machine_room.proofs.DoableRuns.{ready_doable}
use Rattle.law_machine_room.proofs.RoomOverRuns.{DoableByRoom, GrowsByOne, ready_by_room, room_at_each}

grows : {A : Type 0} (plan : Plan) (m : Meaning A) → GrowsByOne plan m
grows plan m S e fit doable room = growth_kept plan m S e doable room.growth

doable_by_room : {A : Type 0} (plan : Plan) (m : Meaning A) → IsResolved plan → DoableByRoom plan m
doable_by_room plan m resolved run k e is_run at room = ready_doable plan m run k e resolved is_run room at

pub room_is_kept : {A : Type 0} (plan : Plan) (m : Meaning A) (run : List Event) → IsResolved plan → IsRunOf plan m run → (n : ℕ) → RoomKept plan (state_after plan m (take n run))
room_is_kept plan m run resolved is_run n = room_at_each plan m (growth_opens plan m) (grows plan m) (doable_by_room plan m resolved) run is_run n

pub each_event_is_doable : {A : Type 0} (plan : Plan) (m : Meaning A) (run : List Event) (k : ℕ) (e : Event) → IsResolved plan → IsRunOf plan m run
    → slice_get (ready plan m run) k ≡ Some e → AreDoable plan (deeds plan (state_after plan m run) e) (state_after plan m run)
each_event_is_doable plan m run k e resolved is_run at = ready_by_room plan m (growth_opens plan m) (grows plan m) (doable_by_room plan m resolved) run k e is_run at
