-- A target: what was sent to it, in order, as a fold of the events of the run. (own)
use Rattle.std.specs.Prelude.{if◌then◌else◌, ℕ, ◌+◌, Bool, true, false, ◌==◌, nat_lt, nat_le, not, ◌&&◌, ◌||◌, List, [], ◌∷◌, ◌++◌, length, map, filter, find, Option, Some, None, option_map, unwrap_or}
use Rattle.std.specs.List.{filter_map}
use Rattle.wdf_base.specs.declared.plan.Plan.{Plan}
use Rattle.wdf_base.specs.declared.ids.Handle.{Handle}
use Rattle.wdf_base.specs.declared.value.Value.{Value}
use Rattle.wdf_base.specs.declared.value.Value.TheVariants.{Num, Obj}
use Rattle.wdf_base.specs.declared.value.Status.{Status}
use Rattle.wdf_base.specs.declared.value.Status.TheVariants as status
use Rattle.wdf_base.specs.declared.call.Arg.{Arg}
use Rattle.wdf_base.specs.declared.call.Arg.TheVariants.{Val}
use Rattle.wdf_base.specs.declared.call.Call.{Call}
use Rattle.wdf_base.specs.declared.call.CallKind.TheVariants as call
use Rattle.wdf_base.specs.declared.event.Post.{Post}
use Rattle.wdf_base.specs.declared.event.Post.TheVariants as post
use Rattle.wdf_base.specs.declared.event.Event.{Event}
use Rattle.wdf_base.specs.declared.event.Event.TheVariants as event
use Rattle.wdf_base.specs.Same.{same_value}
use Rattle.wdf_model.specs.declared.entries.SentRequest.{SentRequest}
use Rattle.wdf_model.specs.Tables.{tick_after, least}
use Rattle.wdf_model.specs.Plans.{target_of}
use Rattle.wdf_model.specs.State.{object_in}
use Rattle.wdf_base.specs.Values.{arg_is}

-- a simulated I/O target: what is declared of it, and the requests that it has, the earliest sent first
pub record LowerTarget : Type 0 where
  pub agent : ℕ
  pub target : ℕ
  pub delay : ℕ
  pub status : Status
  -- the most requests that it keeps
  pub depth : ℕ
  pub sent : List SentRequest
  pub clock : ℕ

-- target t, whose agent has this number, at the opening: it has no request
abbrev pub target_at : Plan → ℕ → ℕ → LowerTarget
target_at plan t agent = record {
  agent = agent;
  target = t;
  delay = unwrap_or (option_map (λ i. i.delay) (target_of plan t)) 0;
  status = unwrap_or (option_map (λ i. i.status) (target_of plan t)) status.Success;
  depth = unwrap_or (option_map (λ i. i.depth) (target_of plan t)) 0;
  sent = [];
  clock = 0;
}

-- a request is sent to the target, which is done with it a delay later; beyond its depth it takes none
abbrev pub with_sent : LowerTarget → Option Handle → LowerTarget
with_sent t None = t
with_sent t (Some r) =
    if nat_lt (length t.sent) t.depth then record t { sent = t.sent ++ record { request = r; tick = tick_after t.clock t.delay; told = false } ∷ [] } else t

-- a request that the target has is to be cancelled, if it is request r
abbrev pub told_one : ℕ → SentRequest → SentRequest
told_one r s = if s.request.id.0 == r then record s { told = true } else s

-- request r is to be cancelled, if the target has it
abbrev pub told : LowerTarget → ℕ → LowerTarget
told t r = record t { sent = map (told_one r) t.sent }

-- a request that the target has is to be cancelled
abbrev pub told_any : SentRequest → SentRequest
told_any s = record s { told = true }

-- all that the target has is to be cancelled
abbrev pub told_all : LowerTarget → LowerTarget
told_all t = record t { sent = map told_any t.sent }

-- the target has request r no more
abbrev pub without_request : LowerTarget → ℕ → LowerTarget
without_request t r = record t { sent = filter (λ s. not (s.request.id.0 == r)) t.sent }

-- the request that an app's cancel names, if it names one, is to be cancelled; this target acts only if it has it
abbrev pub told_if_any : LowerTarget → Option Handle → LowerTarget
told_if_any t None = t
told_if_any t (Some r) = told t r.id.0

-- the target after a post: its own ends a request, an app's cancel reaches it, all others change nothing
abbrev pub target_posted : LowerTarget → ℕ → Post → Option Handle → LowerTarget
target_posted t agent (post.Done r s) answer = if agent == t.agent then without_request t r.id.0 else t
target_posted t agent (post.Cancel k) answer = told_if_any t answer
target_posted t agent _ answer = t

-- the object that an argument names, None for a number, a status or a class
abbrev pub handle_in_arg : Arg → Option Handle
handle_in_arg (Val (Obj h)) = Some h
handle_in_arg _ = None

-- WdfIoTargetStop of this target with action 0 cancels what is sent to it; the other actions cancel nothing
abbrev pub stop_called : LowerTarget → Call → LowerTarget
stop_called t c = if object_in c.a == t.target && arg_is c.b 0 then told_all t else t

-- WdfRequestSend to this target that answered 1: the target has the request
abbrev pub send_called : LowerTarget → Call → Value → LowerTarget
send_called t c answer = if object_in c.b == t.target && same_value answer (Num 1) then with_sent t (handle_in_arg c.a) else t

-- WdfRequestCancelSentRequest that answered 1: the target that has the request is to cancel it
abbrev pub cancel_called : LowerTarget → Call → Value → LowerTarget
cancel_called t c answer = if same_value answer (Num 1) then told t (object_in c.a) else t

-- the target after a call that was answered; three calls concern it
abbrev pub target_called : LowerTarget → Call → Value → LowerTarget
target_called t c answer = elim c.kind as (λ _. LowerTarget) [
  | call.WdfRequestSend ↦ send_called t c answer
  | call.WdfRequestCancelSentRequest ↦ cancel_called t c answer
  | call.WdfIoTargetStop ↦ stop_called t c
  | _ ↦ t
]

-- the target after a call that begins to wait: WdfIoTargetStop cancels at its start, not when its wait is over
abbrev pub target_awaited : LowerTarget → Call → LowerTarget
target_awaited t c = elim c.kind as (λ _. LowerTarget) [
  | call.WdfIoTargetStop ↦ stop_called t c
  | _ ↦ t
]

-- the target after one event more: a call, the wait of a call, a post, or a tick
abbrev pub target_after : LowerTarget → Event → LowerTarget
target_after t (event.Did cpu c answer) = target_called t c answer
target_after t (event.Waiting cpu c) = target_awaited t c
target_after t (event.Posted agent p answer) = target_posted t agent p answer
target_after t (event.Tick time) = record t { clock = time }
target_after t _ = t

-- a request is due its delay after the send, and at once when it is to be cancelled
abbrev pub is_due_sent : ℕ → SentRequest → Bool
is_due_sent now s = s.told || nat_le s.tick now

-- the status with which the target is done with a request: CANCELLED where it was to be cancelled, else its own
abbrev pub final_status : Status → SentRequest → Status
final_status own s = if s.told then status.Cancelled else own

-- the post by which the target is done with a request
abbrev pub done_post : Status → SentRequest → Post
done_post own s = post.Done s.request (final_status own s)

-- what the target posts now: of what is due, the request that was sent first
abbrev pub target_due : LowerTarget → Option Post
target_due t = option_map (done_post t.status) (find (is_due_sent t.clock) t.sent)

-- the tick at which a request will be due, None where it is due
abbrev pub later_sent : ℕ → SentRequest → Option ℕ
later_sent now s = if is_due_sent now s then None else Some s.tick

-- the least later tick at which a request is due
abbrev pub target_next : LowerTarget → Option ℕ
target_next t = least (filter_map (later_sent t.clock) t.sent)
