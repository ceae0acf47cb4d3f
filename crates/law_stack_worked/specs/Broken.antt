-- Lists of events, made by hand from worked runs, that break the laws on stacks, and where.
use Rattle.std.specs.Prelude.{if◌then◌else◌, ◌≡◌, ℕ, suc, Bool, List, [], ◌∷◌, ◌++◌, Option, Some, None, option_map}
use Rattle.wdf_base.specs.declared.plan.Plan.{Plan}
use Rattle.wdf_base.specs.declared.event.Ask.TheVariants as ask
use Rattle.wdf_base.specs.declared.event.Post.TheVariants as post
use Rattle.wdf_base.specs.declared.event.Stage.TheVariants as stage
use Rattle.wdf_base.specs.declared.event.Event.{Event}
use Rattle.wdf_base.specs.declared.event.Event.TheVariants as event
use Rattle.wdf_base.specs.declared.call.Arg.TheVariants.{Val}
use Rattle.wdf_base.specs.declared.call.CallKind.TheVariants as call
use Rattle.wdf_base.specs.declared.call.Callback.TheVariants as callback
use Rattle.wdf_base.specs.declared.value.Status.TheVariants as status
use Rattle.wdf_base.specs.declared.value.Value.TheVariants.{Num, Obj, Stat}
use Rattle.law_machine_worked.specs.Writing.{h, p, c}
use Rattle.law_stack.specs.Laws.{order_law, request_law}

-- how many events of a list come before the first that breaks a law, if one does (own)
abbrev pub breaks_from : (Plan → List Event → Event → Bool) → Plan → List Event → List Event → Option ℕ
breaks_from law plan before [] = None
breaks_from law plan before (e ∷ es) = if law plan before e then option_map suc (breaks_from law plan (before ++ e ∷ []) es) else Some 0

-- the event that so many come before is the first that breaks the law on requests, and each keeps that on orders (own)
abbrev pub BreaksRequestLaw : Plan → List Event → ℕ → Type 0
BreaksRequestLaw plan events k = (breaks_from request_law plan [] events ≡ Some k) × (breaks_from order_law plan [] events ≡ None)

-- the event that so many come before is the first that breaks the law on orders, and each keeps that on requests (own)
abbrev pub BreaksOrderLaw : Plan → List Event → ℕ → Type 0
BreaksOrderLaw plan events k = (breaks_from order_law plan [] events ≡ Some k) × (breaks_from request_law plan [] events ≡ None)

-- a connector posts an arrival, and nothing was sent to its target
abbrev pub arrives_unsent : List Event
arrives_unsent = event.Posted 1 (post.Read (h 2 2) 16) (Some (h 7 1))
    ∷ event.Start (p 0) callback.EvtIoRead (h 3 3) (Some (h 7 1))
    ∷ event.End (p 0) callback.EvtIoRead (h 3 3) (Stat status.Success)
    ∷ event.Posted 4 (post.Read (h 5 5) 16) (Some (h 8 1))
    ∷ []

-- two arrivals for one Send
abbrev pub arrives_twice : List Event
arrives_twice = event.Posted 1 (post.Read (h 2 2) 16) (Some (h 7 1))
    ∷ event.Start (p 0) callback.EvtIoRead (h 3 3) (Some (h 7 1))
    ∷ event.Did (p 0) (c call.WdfRequestSend 3 (Val (Obj (h 7 1))) (Val (Obj (h 4 4))) (Val (Num 0))) (Num 1)
    ∷ event.End (p 0) callback.EvtIoRead (h 3 3) (Stat status.Success)
    ∷ event.Posted 4 (post.Read (h 5 5) 16) (Some (h 8 1))
    ∷ event.Posted 4 (post.Read (h 5 5) 16) (Some (h 9 1))
    ∷ []

-- a request is done with SUCCESS without an arrival
abbrev pub done_before_arrival : List Event
done_before_arrival = event.Posted 1 (post.Read (h 2 2) 16) (Some (h 7 1))
    ∷ event.Start (p 0) callback.EvtIoRead (h 3 3) (Some (h 7 1))
    ∷ event.Did (p 0) (c call.WdfRequestSend 3 (Val (Obj (h 7 1))) (Val (Obj (h 4 4))) (Val (Num 0))) (Num 1)
    ∷ event.End (p 0) callback.EvtIoRead (h 3 3) (Stat status.Success)
    ∷ event.Posted 4 (post.Done (h 7 1) status.Success) None
    ∷ []

-- a request is done with another status than that of the request below
abbrev pub done_with_another_status : List Event
done_with_another_status = event.Posted 1 (post.Read (h 2 2) 16) (Some (h 7 1))
    ∷ event.Start (p 0) callback.EvtIoRead (h 3 3) (Some (h 7 1))
    ∷ event.Did (p 0) (c call.WdfRequestSend 3 (Val (Obj (h 7 1))) (Val (Obj (h 4 4))) (Val (Num 0))) (Num 1)
    ∷ event.End (p 0) callback.EvtIoRead (h 3 3) (Stat status.Success)
    ∷ event.Posted 4 (post.Read (h 5 5) 16) (Some (h 8 1))
    ∷ event.Start (p 0) callback.EvtIoRead (h 6 6) (Some (h 8 1))
    ∷ event.Did (p 0) (c call.WdfRequestComplete 2 (Val (Obj (h 8 1))) (Val (Stat status.Unsuccessful)) (Val (Num 0))) (Stat status.Success)
    ∷ event.End (p 0) callback.EvtIoRead (h 6 6) (Stat status.Success)
    ∷ event.Cleanup (h 8 1)
    ∷ event.Destroy (h 8 1)
    ∷ event.Posted 4 (post.Done (h 7 1) status.Success) None
    ∷ []

-- a request is done before the request below is completed
abbrev pub done_before_completion : List Event
done_before_completion = event.Posted 1 (post.Read (h 2 2) 16) (Some (h 7 1))
    ∷ event.Start (p 0) callback.EvtIoRead (h 3 3) (Some (h 7 1))
    ∷ event.Did (p 0) (c call.WdfRequestSend 3 (Val (Obj (h 7 1))) (Val (Obj (h 4 4))) (Val (Num 0))) (Num 1)
    ∷ event.End (p 0) callback.EvtIoRead (h 3 3) (Stat status.Success)
    ∷ event.Posted 4 (post.Read (h 5 5) 16) (Some (h 8 1))
    ∷ event.Start (p 0) callback.EvtIoRead (h 6 6) (Some (h 8 1))
    ∷ event.Posted 4 (post.Done (h 7 1) status.Unsuccessful) None
    ∷ []

-- the top device is started first
abbrev pub starts_from_the_top : List Event
starts_from_the_top = event.Posted 0 (post.Ask ask.Start (h 2 2)) None
    ∷ event.Stage (h 2 2) stage.Hardware None
    ∷ event.Stage (h 2 2) stage.QueuesUp None
    ∷ event.Stage (h 2 2) stage.Working None
    ∷ []

-- the device below is removed while the one above works
abbrev pub removed_from_the_bottom : List Event
removed_from_the_bottom = event.Posted 0 (post.Ask ask.Start (h 8 8)) None
    ∷ event.Stage (h 8 8) stage.Hardware None
    ∷ event.Stage (h 8 8) stage.QueuesUp None
    ∷ event.Stage (h 8 8) stage.Working None
    ∷ event.Posted 0 (post.Ask ask.Start (h 5 5)) None
    ∷ event.Stage (h 5 5) stage.Hardware None
    ∷ event.Stage (h 5 5) stage.QueuesUp None
    ∷ event.Stage (h 5 5) stage.Working None
    ∷ event.Posted 0 (post.Ask ask.Start (h 2 2)) None
    ∷ event.Stage (h 2 2) stage.Hardware None
    ∷ event.Stage (h 2 2) stage.QueuesUp None
    ∷ event.Stage (h 2 2) stage.Working None
    ∷ event.Tick 1
    ∷ event.Posted 0 (post.Ask ask.Remove (h 5 5)) None
    ∷ []
