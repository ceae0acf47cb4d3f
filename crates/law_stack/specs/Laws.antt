-- The laws on stacks of devices: tests of an event by the events before it. (own)
use Rattle.std.specs.Prelude.{if◌then◌else◌, ℕ, ◌+◌, Bool, true, ◌==◌, nat_le, not, ◌&&◌, ◌||◌, List, [], ◌∷◌, ◌++◌, count_by, Option, Some, None}
use Rattle.std.specs.List.{list_any}
use Rattle.wdf_base.specs.declared.plan.Plan.{Plan}
use Rattle.wdf_base.specs.declared.value.Status.{Status}
use Rattle.wdf_base.specs.declared.value.Status.TheVariants as status
use Rattle.wdf_base.specs.declared.event.Ask.{Ask}
use Rattle.wdf_base.specs.declared.event.Post.{Post}
use Rattle.wdf_base.specs.declared.event.Post.TheVariants as post
use Rattle.wdf_base.specs.declared.event.Event.{Event}
use Rattle.wdf_base.specs.declared.event.Event.TheVariants as event
use Rattle.wdf_base.specs.Same.{same_status}
use Rattle.wdf_model.specs.rules.Posts.{ARRIVALS}
use Rattle.wdf_model.specs.agents.Chains.{above, below}
use Rattle.wdf_model.specs.agents.Connector.{request_lines}
use Rattle.wdf_model.specs.agents.StackManager.{goes_up, is_alone}
use Rattle.law_stack.specs.Words.{Passing, completes_with, connector_of, has_no_arrival, is_connector_arrival, passings, works}

-- ---- (a): each arrival by a connector belongs to a Send

-- some Send to the target has no arrival yet
abbrev pub arrival_belongs : List Event → ℕ → Option ℕ → Bool
arrival_belongs before agent None = true
arrival_belongs before agent (Some t) = list_any has_no_arrival (passings t agent before)

-- ---- (b): each done by a connector has a cause

-- as many arrivals of connectors and lines of apps as may arrive in one run
abbrev pub is_full : Plan → List Event → Bool
is_full plan before = nat_le ARRIVALS (request_lines plan + count_by (is_connector_arrival plan) before)

-- The cause of a status: the request below was completed with it; the arrival was answered `none`; without an arrival, the request
-- was cancelled, or no more may arrive.
abbrev pub is_cause : Plan → List Event → Status → Passing → Bool
is_cause plan before s x = elim x.arrival as (λ _. Bool) [
  | Some (Some lower) ↦ list_any (completes_with lower s) before
  | Some None ↦ same_status s status.InvalidDeviceState
  | None ↦ (x.cancelled && same_status s status.Cancelled) || (is_full plan before && same_status s status.InsufficientResources)
]

-- a Send of this request has a cause
abbrev pub is_caused : Plan → List Event → ℕ → Status → Passing → Bool
is_caused plan before r s x = x.request == r && is_cause plan before s x

-- some Send of the request does
abbrev pub done_is_caused : Plan → List Event → ℕ → Option ℕ → ℕ → Status → Bool
done_is_caused plan before agent None r s = true
done_is_caused plan before agent (Some t) r s = list_any (is_caused plan before r s) (passings t agent before)

-- ---- (c): a stack comes up from the bottom and goes down from the top

-- the device below is Working
abbrev pub if_works : Plan → List Event → Option ℕ → Bool
if_works plan before None = true
if_works plan before (Some d) = works plan d before

-- the device above isn't
abbrev pub unless_works : Plan → List Event → Option ℕ → Bool
unless_works plan before None = true
unless_works plan before (Some d) = not (works plan d before)

-- a start and a wake ask for the device below, a sleep and a removal for the one above
abbrev pub asked_in_order : Plan → List Event → Ask → ℕ → Bool
asked_in_order plan before a d =
    if is_alone a then true else if goes_up a then if_works plan before (below plan d) else unless_works plan before (above plan d)

-- ---- the laws

-- (a) and (b) of a post
abbrev pub request_post_keeps : Plan → List Event → ℕ → Post → Bool
request_post_keeps plan before agent (post.Read device length) = arrival_belongs before agent (connector_of plan agent)
request_post_keeps plan before agent (post.Write device length) = arrival_belongs before agent (connector_of plan agent)
request_post_keeps plan before agent (post.Control device code length) = arrival_belongs before agent (connector_of plan agent)
request_post_keeps plan before agent (post.Done r s) = done_is_caused plan before agent (connector_of plan agent) r.id.0 s
request_post_keeps plan before agent _ = true

-- an event keeps the laws on requests that go down a stack, (a) and (b), after the events before it
abbrev pub request_law : Plan → List Event → Event → Bool
request_law plan before (event.Posted agent p answer) = request_post_keeps plan before agent p
request_law plan before _ = true

-- (c) of a post
abbrev pub order_post_keeps : Plan → List Event → Post → Bool
order_post_keeps plan before (post.Ask a d) = asked_in_order plan before a d.id.0
order_post_keeps plan before _ = true

-- an event keeps the law on the order in which a stack comes up and goes down, (c), after the events before it
abbrev pub order_law : Plan → List Event → Event → Bool
order_law plan before (event.Posted agent p answer) = order_post_keeps plan before p
order_law plan before _ = true

-- an event keeps the laws on stacks
abbrev pub stack_law : Plan → List Event → Event → Bool
stack_law plan before e = request_law plan before e && order_law plan before e

-- each event of a list keeps them, after those before it
abbrev pub keeps_from : Plan → List Event → List Event → Bool
keeps_from plan before [] = true
keeps_from plan before (e ∷ es) = stack_law plan before e && keeps_from plan (before ++ e ∷ []) es

-- a list of events keeps the laws on stacks
unfoldable pub keeps_stack_laws : Plan → List Event → Bool
keeps_stack_laws plan events = keeps_from plan [] events
