-- The events whose texts are lines of a plan: over all values of the types, not over what the machine may do.
use Rattle.std.specs.Prelude.{◌≡◌, ◌^◌, ◌<◌, ◌≤◌, nat_lt, Bool, true, false, length, Option, Some, None, is_some}
use Rattle.wdf_base.specs.declared.plan.Plan.{Plan}
use Rattle.wdf_base.specs.declared.ids.Handle.{Handle}
use Rattle.wdf_base.specs.declared.value.Value.{Value}
use Rattle.wdf_base.specs.declared.value.Value.TheVariants.{Num, Obj, Stat}
use Rattle.wdf_base.specs.declared.call.Arg.{Arg}
use Rattle.wdf_base.specs.declared.call.Arg.TheVariants.{Val, Class}
use Rattle.wdf_base.specs.declared.call.Call.{Call}
use Rattle.wdf_base.specs.declared.event.Action.{Action}
use Rattle.wdf_base.specs.declared.event.Action.TheVariants as action
use Rattle.wdf_base.specs.declared.event.Post.{Post}
use Rattle.wdf_base.specs.declared.event.Post.TheVariants as post
use Rattle.wdf_base.specs.declared.event.Event.{Event}
use Rattle.wdf_base.specs.declared.event.Event.TheVariants as event
use Rattle.wdf_base.specs.Calls.{signature_of, argument_count}
use Rattle.wdf_base.specs.Callbacks.{row_of, carries_request}
use Rattle.wdf_base.specs.Stages.{is_for_interrupt}

-- an object with any id and any name of the plan
abbrev pub IsHandleOf : Plan → Handle → Type 0
IsHandleOf plan o = (o.id.0 < 2 ^ 32) × (o.name < length plan.names)

-- an object of the plan, or none
abbrev pub IsOptionalOf : Plan → Option Handle → Type 0
IsOptionalOf plan None = Unit {0}
IsOptionalOf plan (Some o) = IsHandleOf plan o

abbrev pub IsValueOf : Plan → Value → Type 0
IsValueOf plan (Num n) = n < 2 ^ 64
IsValueOf plan (Obj o) = IsHandleOf plan o
IsValueOf plan (Stat s) = Unit {0}

-- an argument that a call takes is a value or a class; one that it doesn't take is the number 0
abbrev pub IsArgumentOf : Plan → Bool → Arg → Type 0
IsArgumentOf plan false a = a ≡ Val (Num 0)
IsArgumentOf plan true (Val v) = IsValueOf plan v
IsArgumentOf plan true (Class c) = c < length plan.classes

-- a call has as many arguments as its row takes
abbrev pub IsCallOf : Plan → Call → Type 0
IsCallOf plan call =
    (call.count ≡ argument_count (signature_of call.kind)) × IsArgumentOf plan (nat_lt 0 call.count) call.a
    × IsArgumentOf plan (nat_lt 1 call.count) call.b × IsArgumentOf plan (nat_lt 2 call.count) call.c

abbrev pub IsActionOf : Plan → Action → Type 0
IsActionOf plan (action.Set r n) = (r < length plan.registers) × (n < 2 ^ 64)
IsActionOf plan (action.Raise i) = IsHandleOf plan i
IsActionOf plan (action.Lower i) = IsHandleOf plan i

-- only an arrival and a cancel are answered
abbrev pub IsPostOf : Plan → Post → Option Handle → Type 0
IsPostOf plan (post.Read d n) a = IsHandleOf plan d × (n < 2 ^ 64) × IsOptionalOf plan a
IsPostOf plan (post.Write d n) a = IsHandleOf plan d × (n < 2 ^ 64) × IsOptionalOf plan a
IsPostOf plan (post.Control d c n) a = IsHandleOf plan d × (c < 2 ^ 64) × (n < 2 ^ 64) × IsOptionalOf plan a
IsPostOf plan (post.Cancel k) a = (k < 2 ^ 64) × IsOptionalOf plan a
IsPostOf plan (post.Ask ask d) a = IsHandleOf plan d × (a ≡ None)
IsPostOf plan (post.Act act) a = IsActionOf plan act × (a ≡ None)
IsPostOf plan (post.Done r s) a = IsHandleOf plan r × (a ≡ None)

-- A row for each kind. A callback has a request exactly where its rank carries one, a stage an interrupt
-- exactly where it is passed for one.
abbrev pub IsEventOf : Plan → Event → Type 0
IsEventOf plan (event.Start cpu c o r) = (cpu.0 < 2 ^ 8) × IsHandleOf plan o × IsOptionalOf plan r × (carries_request (row_of c).rank ≡ is_some r)
IsEventOf plan (event.Local cpu line) = (cpu.0 < 2 ^ 8) × (line < 2 ^ 32)
IsEventOf plan (event.Log cpu v) = (cpu.0 < 2 ^ 8) × IsValueOf plan v
IsEventOf plan (event.Spend cpu n) = (cpu.0 < 2 ^ 8) × (n < 2 ^ 64)
IsEventOf plan (event.Register cpu a r n) = (cpu.0 < 2 ^ 8) × (r < length plan.registers) × (n < 2 ^ 64)
IsEventOf plan (event.Did cpu call v) = (cpu.0 < 2 ^ 8) × IsCallOf plan call × IsValueOf plan v
IsEventOf plan (event.Waiting cpu call) = (cpu.0 < 2 ^ 8) × IsCallOf plan call
IsEventOf plan (event.Woke cpu call v) = (cpu.0 < 2 ^ 8) × IsCallOf plan call × IsValueOf plan v
IsEventOf plan (event.Park cpu f) = (cpu.0 < 2 ^ 8) × (f.0 < 2 ^ 32)
IsEventOf plan (event.Unpark cpu f) = (cpu.0 < 2 ^ 8) × (f.0 < 2 ^ 32)
IsEventOf plan (event.End cpu c o v) = (cpu.0 < 2 ^ 8) × IsHandleOf plan o × IsValueOf plan v
IsEventOf plan (event.Fault cpu fault line) = (cpu.0 < 2 ^ 8) × (line < 2 ^ 32)
IsEventOf plan (event.Stage d s i) = IsHandleOf plan d × IsOptionalOf plan i × (is_for_interrupt s ≡ is_some i)
IsEventOf plan (event.Complete r s) = IsHandleOf plan r
IsEventOf plan (event.Cleanup o) = IsHandleOf plan o
IsEventOf plan (event.Destroy o) = IsHandleOf plan o
IsEventOf plan (event.Posted agent post a) = (agent ≤ length plan.agents) × IsPostOf plan post a
IsEventOf plan (event.Tick n) = n < 2 ^ 64
