-- A run in which the last arrival that there is room for comes. Its plan is a record with 4,095 lines of requests.
use Rattle.std.specs.Prelude.{List, [], ◌∷◌, Some, None, replicate}
use Rattle.wdf_base.specs.declared.event.Post.TheVariants as post
use Rattle.wdf_base.specs.declared.event.Event.{Event}
use Rattle.wdf_base.specs.declared.event.Event.TheVariants as event
use Rattle.wdf_base.specs.declared.call.Arg.TheVariants.{Val}
use Rattle.wdf_base.specs.declared.call.CallKind.TheVariants as call
use Rattle.wdf_base.specs.declared.call.Callback.TheVariants as callback
use Rattle.wdf_base.specs.declared.value.Status.TheVariants as status
use Rattle.wdf_base.specs.declared.value.Value.TheVariants.{Num, Obj, Stat}
use Rattle.wdf_base.specs.declared.plan.Plan.{Plan}
use Rattle.law_machine_worked.specs.Writing.{h, p, c, at}
use Rattle.wdf_base.specs.declared.script.AgentInfo.{AgentInfo}
use Rattle.law_stack_worked.specs.StackRequests.{status_comes_up_plan}

-- an app that posts two reads at once, and has 4,093 more for a tick that the run doesn't reach
abbrev pub with_lines : List AgentInfo → List AgentInfo
with_lines [] = []
with_lines (a ∷ rest) = record a { posts = at 28 0 (post.Read (h 2 2) 16) ∷ at 29 0 (post.Read (h 2 2) 16) ∷ replicate 4093 (at 30 1000000 (post.Read (h 2 2) 16)) } ∷ rest

-- the plan of the run in which a status comes up, with these lines
abbrev pub last_arrival_plan : Plan
last_arrival_plan = record status_comes_up_plan { limit = 26; agents = with_lines status_comes_up_plan.agents }

abbrev pub last_arrival_events : List Event
last_arrival_events = event.Posted 1 (post.Read (h 2 2) 16) (Some (h 7 1))
    ∷ event.Start (p 0) callback.EvtIoRead (h 3 3) (Some (h 7 1))
    ∷ event.Did (p 0) (c call.WdfRequestSend 3 (Val (Obj (h 7 1))) (Val (Obj (h 4 4))) (Val (Num 0))) (Num 1)
    ∷ event.End (p 0) callback.EvtIoRead (h 3 3) (Stat status.Success)
    ∷ event.Posted 1 (post.Read (h 2 2) 16) (Some (h 8 1))
    ∷ event.Posted 4 (post.Read (h 5 5) 16) (Some (h 9 1))
    ∷ event.Start (p 0) callback.EvtIoRead (h 6 6) (Some (h 9 1))
    ∷ event.Did (p 0) (c call.WdfRequestComplete 2 (Val (Obj (h 9 1))) (Val (Stat status.Unsuccessful)) (Val (Num 0))) (Stat status.Success)
    ∷ event.End (p 0) callback.EvtIoRead (h 6 6) (Stat status.Success)
    ∷ event.Cleanup (h 9 1)
    ∷ event.Destroy (h 9 1)
    ∷ event.Posted 4 (post.Done (h 7 1) status.Unsuccessful) None
    ∷ event.Start (p 0) callback.EvtRequestCompletion (h 4 4) (Some (h 7 1))
    ∷ event.Did (p 0) (c call.WdfRequestComplete 2 (Val (Obj (h 7 1))) (Val (Stat status.Unsuccessful)) (Val (Num 0))) (Stat status.Success)
    ∷ event.End (p 0) callback.EvtRequestCompletion (h 4 4) (Stat status.Success)
    ∷ event.Start (p 0) callback.EvtIoRead (h 3 3) (Some (h 8 1))
    ∷ event.Did (p 0) (c call.WdfRequestSend 3 (Val (Obj (h 8 1))) (Val (Obj (h 4 4))) (Val (Num 0))) (Num 1)
    ∷ event.End (p 0) callback.EvtIoRead (h 3 3) (Stat status.Success)
    ∷ event.Cleanup (h 7 1)
    ∷ event.Destroy (h 7 1)
    ∷ event.Posted 4 (post.Done (h 8 1) status.InsufficientResources) None
    ∷ event.Start (p 0) callback.EvtRequestCompletion (h 4 4) (Some (h 8 1))
    ∷ event.Did (p 0) (c call.WdfRequestComplete 2 (Val (Obj (h 8 1))) (Val (Stat status.InsufficientResources)) (Val (Num 0))) (Stat status.Success)
    ∷ event.End (p 0) callback.EvtRequestCompletion (h 4 4) (Stat status.Success)
    ∷ event.Cleanup (h 8 1)
    ∷ event.Destroy (h 8 1)
    ∷ []
