-- What holds where a deed is done: for each deed the test that holds before it in every run, whatever
-- the agents are. The laws over all runs rest on these alone.
use Rattle.std.specs.Prelude.{ℕ, Bool, true, false, nat_lt, not, ◌&&◌, ◌||◌, List, [], ◌∷◌, is_some}
use Rattle.wdf_base.specs.declared.plan.Plan.{Plan}
use Rattle.wdf_base.specs.declared.object.Kind.TheVariants as kind
use Rattle.wdf_base.specs.declared.object.Place.{Place}
use Rattle.wdf_base.specs.declared.object.Place.TheVariants as place
use Rattle.wdf_base.specs.Same.{same_kind}
use Rattle.wdf_base.specs.Lives.{is_live}
use Rattle.wdf_base.specs.Places.{is_closing, is_due, is_owned, is_queued_in, is_returning_to, is_sent}
use Rattle.wdf_model.specs.Tables.{same_id}
use Rattle.wdf_model.specs.parts.Tree.{is_full, kind_of, life_of, references_of, started}
use Rattle.wdf_model.specs.parts.Locks.{is_free_lock}
use Rattle.wdf_model.specs.parts.Requests.{mark_of, place_of}
use Rattle.wdf_model.specs.parts.Queues.{front}
use Rattle.wdf_model.specs.parts.Control.{accepts}
use Rattle.wdf_model.specs.parts.Power.{acknowledged, resume_due, stop_was_asked}
use Rattle.wdf_model.specs.parts.Pnp.{busy, is_running_step, next_step}
use Rattle.wdf_model.specs.parts.Targets.{is_undone, routine_due}
use Rattle.wdf_model.specs.State.{State, is_with_driver}
use Rattle.wdf_model.specs.declared.deed.Deed.{Deed}
use Rattle.wdf_model.specs.declared.deed.Deed.TheVariants.{Create, MakeRequest, Arrive, Unrefer, Note, CleanUp, EndLife, TakeLock, Present, Receive, Requeue, Forward, GiveBack, Withdraw, MarkRequest, UnmarkRequest, CancelRequest, TakeCancel, SendRequest, FinishSending, ComeBack, CompleteRequest, Acknowledge, AskStop, Resume, AskDevice, TakeStep}
use Rattle.wdf_model.specs.rules.Deeds.{do_deed}
use Rattle.wdf_model.specs.rules.Faults.{is_never_deleted, is_request_kind}
use Rattle.wdf_model.specs.rules.Calls.{may_send}
use Rattle.wdf_model.specs.rules.Starts.{clean_ready, destroy_ready}

-- where a request may be that arrives: in a queue, or closing
abbrev pub is_arrival_place : Place → Bool
is_arrival_place (place.Queued q) = true
is_arrival_place (place.Closing s) = true
is_arrival_place _ = false

-- request r arrived, and is Owned by the driver
abbrev pub is_given : {A : Type 0} → State A → ℕ → Bool
is_given S r = is_owned (place_of S.requests r) && same_kind (kind_of S.tree r) kind.Request

-- a request that isn't in a queue, and isn't completed or about to be
abbrev pub is_reached : Place → Bool
is_reached (place.Returning q) = true
is_reached place.Owned = true
is_reached (place.Sent t) = true
is_reached _ = false

-- whether deed d may be done in state S: one row for each kind of deed that asks for something
abbrev pub fits : {A : Type 0} → Plan → Deed → State A → Bool
-- an object is made under a live parent while there is room, and is no request and nothing that is declared
fits plan (Create k class parent) S = is_live (life_of S.tree parent.0) && not (is_full S.tree) && not (is_request_kind k) && not (is_never_deleted k)
fits plan (MakeRequest class parent) S = is_live (life_of S.tree parent.0) && not (is_full S.tree)
-- a request arrives at a live device, with a number of its own, and waits or is closing
fits plan (Arrive device info p) S = is_live (life_of S.tree device.0) && nat_lt 0 info.arrival && is_arrival_place p
-- a reference is held
fits plan (Unrefer o) S = nat_lt 0 (references_of S.tree o.0)
-- a callback of an object's end comes once; a cleanup and an end come when they may
fits plan (Note o c) S = not (started S.tree o.0 c)
fits plan (CleanUp o) S = clean_ready S o.0
fits plan (EndLife o) S = destroy_ready S o.0
-- a lock is free where it is taken
fits plan (TakeLock l f by_call) S = is_free_lock S.locks l
-- what is presented is the front; what returns is received from its queue
fits plan (Present q r) S = same_id (front S.queues q.0) r.0
fits plan (Receive q r) S = is_returning_to q.0 (place_of S.requests r.0)
-- the driver gives back what it owns, and forwards to a queue that accepts
fits plan (Requeue r q) S = is_given S r.0
fits plan (Forward r q) S = is_given S r.0 && accepts S.control q.0
fits plan (GiveBack r q) S = is_given S r.0
-- a cancel takes a waiting request out of its queue, and reaches the others
fits plan (Withdraw q r) S = is_queued_in q.0 (place_of S.requests r.0)
fits plan (CancelRequest r) S = is_reached (place_of S.requests r.0)
-- a request is marked while it is owned; only an arrived one is unmarked; its cancel is due before it is taken
fits plan (MarkRequest r) S = is_given S r.0
fits plan (UnmarkRequest r) S = same_kind (kind_of S.tree r.0) kind.Request
fits plan (TakeCancel r) S = is_due (mark_of S.requests r.0) && is_with_driver S r.0
-- a request is sent while it is owned; only an arrived one is forgotten
fits plan (SendRequest r t forget) S = is_owned (place_of S.requests r.0) && may_send S r.0 t.0 && (not forget || same_kind (kind_of S.tree r.0) kind.Request)
fits plan (FinishSending r s) S = is_sent (place_of S.requests r.0) && is_undone S.targets r.0
fits plan (ComeBack r) S = is_sent (place_of S.requests r.0) && is_some (routine_due S.targets r.0)
-- what is completed is closing, or owned and arrived
fits plan (CompleteRequest r) S = is_closing (place_of S.requests r.0) || is_given S r.0
-- what is acknowledged, asked to stop or resumed is held
fits plan (Acknowledge r) S = is_with_driver S r.0 && not (acknowledged S.power r.0)
fits plan (AskStop r) S = is_with_driver S r.0 && not (stop_was_asked S.power r.0)
fits plan (Resume r) S = is_with_driver S r.0 && resume_due S.power r.0
-- a sequence begins where none is under way; a step is left, and no callback of one runs
fits plan (AskDevice d a) S = not (busy S.pnp d.0)
fits plan (TakeStep d) S = is_some (next_step S.pnp d.0) && not (is_running_step S.pnp d.0)
-- the other deeds ask for nothing
fits plan _ S = true

-- each of these deeds fits where it is done, after those before it
abbrev pub all_fit : {A : Type 0} → Plan → List Deed → State A → Bool
all_fit plan [] S = true
all_fit plan (d ∷ ds) S = fits plan d S && all_fit plan ds (do_deed plan d S)
