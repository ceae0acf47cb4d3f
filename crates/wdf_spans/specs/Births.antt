-- How requests come to be. (own)
use Rattle.std.specs.Prelude.{if◌then◌else◌, ℕ, ◌+◌, Bool, true, false, List, [], ◌∷◌, ◌++◌, Option, Some, None, option_map, option_to_list}
use Rattle.wdf_base.specs.declared.ids.Handle.{Handle}
use Rattle.wdf_base.specs.declared.call.Call.{Call}
use Rattle.wdf_base.specs.declared.call.CallKind.{CallKind}
use Rattle.wdf_base.specs.declared.call.CallKind.TheVariants.{WdfRequestCreate}
use Rattle.wdf_base.specs.declared.value.Value.{Value}
use Rattle.wdf_base.specs.declared.value.Value.TheVariants.{Obj}
use Rattle.wdf_base.specs.declared.event.Post.{Post}
use Rattle.wdf_base.specs.declared.event.Event.{Event}
use Rattle.wdf_base.specs.declared.event.Event.TheVariants as event
use Rattle.wdf_base.specs.Posts.{is_request}
use Rattle.wdf_spans.specs.declared.born.Birth.{Birth}

-- the call that makes a request
abbrev pub is_making : CallKind → Bool
is_making WdfRequestCreate = true
is_making _ = false

-- the request that a post made
abbrev pub arrived : Post → Option Handle → Option Handle
arrived p answer = if is_request p then answer else None

-- the request that a call made: its answer
abbrev pub made : Call → Value → Option Handle
made call (Obj request) = if is_making call.kind then Some request else None
made call _ = None

-- the request that an event brings into being: it arrives, or the driver makes it
abbrev pub request_born : Event → Option Handle
request_born (event.Posted agent p answer) = arrived p answer
request_born (event.Did cpu call answer) = made call answer
request_born _ = None

-- a request with the number of that event
abbrev pub birth_by : ℕ → Event → Option Birth
birth_by n e = option_map (λ request. record { number = n; request = request }) (request_born e)

-- the births among events whose numbers begin here, in their order
abbrev pub births_from : ℕ → List Event → List Birth
births_from n [] = []
births_from n (e ∷ es) = option_to_list (birth_by n e) ++ births_from (n + 1) es
