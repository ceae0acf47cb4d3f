-- The I/O targets: which are stopped, and what was sent to each.
use Rattle.std.specs.Prelude.{if◌then◌else◌, ℕ, Bool, true, false, ◌==◌, nat_lt, ◌&&◌, not, List, [], length, map, filter, find, Option, Some, None, option_and_then}
use Rattle.std.specs.List.{flat_map}
use Rattle.wdf_base.specs.declared.plan.Plan.{Plan}
use Rattle.wdf_base.specs.declared.value.Status.{Status}
use Rattle.wdf_base.specs.declared.declared.TargetInfo.{TargetInfo}
use Rattle.wdf_model.specs.Tables.{entry, change_at, in_order_by}
use Rattle.wdf_model.specs.Plans.{target_of, declared_ids}
use Rattle.wdf_model.specs.declared.entries.Sending.{Sending}

-- an I/O target as the framework knows it: when the requests are done is for the target's agent to say
pub record Target : Type 0 where
  -- the most requests that it holds
  pub depth : ℕ
  pub stopped : Bool
  -- what is sent to it, by rising id
  pub sent : List Sending

-- all I/O targets
pub record Targets : Type 0 where
  -- by the target's id
  pub targets : List Target

-- what reads for an id that is no target's: stopped, so that each send to it fails
abbrev pub no_target : Target
no_target = record { depth = 0; stopped = true; sent = [] }

-- ---- readers

-- I/O target t
abbrev pub the_target : Targets → ℕ → Target
the_target T t = entry no_target T.targets t

-- how many requests are sent to target t; own: one that is done counts until its completion routine starts
abbrev pub pending : Targets → ℕ → ℕ
pending T t = length (the_target T t).sent

-- own: a send to target t fails where it is stopped, or holds as many requests as its depth
abbrev pub takes_more : Targets → ℕ → Bool
takes_more T t = not (the_target T t).stopped && nat_lt (pending T t) (the_target T t).depth

-- the requests that are sent to any target
abbrev pub all_sent : Targets → List Sending
all_sent T = flat_map (λ t. t.sent) T.targets

-- what is kept of request r while it is sent, None where it is sent to no target
abbrev pub sending_of : Targets → ℕ → Option Sending
sending_of T r = find (λ s. s.request.0 == r) (all_sent T)

-- whether a request is sent, and was sent with SendAndForget
abbrev pub is_forgotten_sending : Option Sending → Bool
is_forgotten_sending None = false
is_forgotten_sending (Some s) = s.forgotten

-- whether request r is sent with SendAndForget, so that it doesn't come back to the driver (KMDF)
abbrev pub is_forgotten : Targets → ℕ → Bool
is_forgotten T r = is_forgotten_sending (sending_of T r)

-- whether the target isn't done with a request, by the status with which it was done
abbrev pub is_at_target : Option Status → Bool
is_at_target None = true
is_at_target (Some s) = false

-- whether a request is sent, and its target isn't done with it
abbrev pub is_undone_sending : Option Sending → Bool
is_undone_sending None = false
is_undone_sending (Some s) = is_at_target s.outcome

-- whether request r is sent, and its target isn't done with it: only then can it still be told to cancel it
abbrev pub is_undone : Targets → ℕ → Bool
is_undone T r = is_undone_sending (sending_of T r)

-- the status that the completion routine of a sent request gets; None before the target is done, and where it was
-- forgotten
abbrev pub routine_outcome : Sending → Option Status
routine_outcome s = if s.forgotten then None else s.outcome

-- the status with which EvtRequestCompletion is to come for request r, None where it isn't to come (KMDF)
abbrev pub routine_due : Targets → ℕ → Option Status
routine_due T r = option_and_then routine_outcome (sending_of T r)

-- ---- acts

-- I/O target t changes by f, and no other
abbrev pub with_target : Targets → ℕ → (Target → Target) → Targets
with_target T t f = record { targets = change_at no_target T.targets t f }

-- the requests that are sent to a target, with one more, by rising id
abbrev pub sending_in_order : Sending → List Sending → List Sending
sending_in_order s xs = in_order_by (λ (x : Sending). x.request.0) s xs

-- request r as it is sent; `forget` says that it is sent with SendAndForget
abbrev pub new_sending : ℕ → Bool → Sending
new_sending r forget = record { request = record { 0 = r }; forgotten = forget; outcome = None }

-- request r is sent to target t; `forget` says that it is sent with SendAndForget
abbrev pub send : Targets → ℕ → ℕ → Bool → Targets
send T t r forget = with_target T t (λ x. record x { sent = sending_in_order (new_sending r forget) x.sent })

-- a target that has request r no more
abbrev pub without_sending : ℕ → Target → Target
without_sending r t = record t { sent = filter (λ s. not (s.request.0 == r)) t.sent }

-- a sent request after its target is done with request r, with this status: if it is r, the status is kept for the
-- completion routine
abbrev pub done_sending : ℕ → Status → Sending → Sending
done_sending r status s = if s.request.0 == r then record s { outcome = Some status } else s

-- a target after it is done with request r, with this status; a forgotten request doesn't come back, and nothing is
-- kept of it (KMDF)
abbrev pub target_done : ℕ → Status → Target → Target
target_done r status t =
    record t { sent = filter (λ s. not (s.request.0 == r && s.forgotten)) (map (done_sending r status) t.sent) }

-- the target that has request r is done with it, with this status
abbrev pub done : Targets → ℕ → Status → Targets
done T r status = record { targets = map (target_done r status) T.targets }

-- EvtRequestCompletion for request r starts, and no target has it any more
abbrev pub back : Targets → ℕ → Targets
back T r = record { targets = map (without_sending r) T.targets }

-- target t is stopped: it takes no more requests (own)
abbrev pub stop : Targets → ℕ → Targets
stop T t = with_target T t (λ x. record x { stopped = true })

-- target t takes requests again
abbrev pub start : Targets → ℕ → Targets
start T t = with_target T t (λ x. record x { stopped = false })

-- ---- the opening

-- an I/O target at the opening, as it is declared: started, with no request
abbrev pub opening_target : Option TargetInfo → Target
opening_target None = no_target
opening_target (Some t) = record { depth = t.depth; stopped = false; sent = [] }

-- all I/O targets at the opening
abbrev pub opening_targets : Plan → Targets
opening_targets plan = record { targets = map (λ t. opening_target (target_of plan t)) (declared_ids plan) }
