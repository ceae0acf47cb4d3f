-- Which objects a call names, and which calls may name an object after its cleanup.
use Rattle.std.specs.Prelude.{ℕ, Bool, true, false, not, ◌&&◌, ◌||◌, Option, Some, None}
use Rattle.wdf_base.specs.declared.value.Value.TheVariants.{Obj}
use Rattle.wdf_base.specs.declared.call.Arg.{Arg}
use Rattle.wdf_base.specs.declared.call.Arg.TheVariants.{Val}
use Rattle.wdf_base.specs.declared.call.Call.{Call}
use Rattle.wdf_base.specs.declared.call.CallKind.{CallKind}
use Rattle.wdf_base.specs.declared.call.CallKind.TheVariants as call
use Rattle.wdf_base.specs.declared.event.Event.{Event}
use Rattle.wdf_base.specs.declared.event.Event.TheVariants as event
use Rattle.wdf_base.specs.declared.signature.Sort.{Sort}
use Rattle.wdf_base.specs.Calls.{signature_of}
use Rattle.wdf_base.specs.Lives.{is_gone}
use Rattle.wdf_model.specs.parts.Tree.{Tree, kind_of, life_of}
use Rattle.wdf_model.specs.rules.Faults.{any_argument, has_sort, is_object_sort}
use Rattle.wdf_laws.specs.Events.{argument_object, is_id}

-- an argument names object o, where its row asks for an object
abbrev pub names_there : ℕ → Sort → Arg → Bool
names_there o s a = is_object_sort s && is_id o (argument_object a)

-- one of the three arguments of a call names object o
abbrev pub names : Call → ℕ → Bool
names c o = any_argument (names_there o) c

-- where its row asks for an object, an argument is one that is there, of the kind that is asked for
abbrev pub has_object : Tree → Sort → Arg → Bool
has_object T s (Val (Obj h)) = not (is_object_sort s) || (has_sort (kind_of T h.id.0) s && not (is_gone (life_of T h.id.0)))
has_object T s _ = not (is_object_sort s)

-- so it is of all three arguments of a call
abbrev pub has_objects : Tree → Call → Bool
has_objects T c = has_object T (signature_of c.kind).a c.a && has_object T (signature_of c.kind).b c.b && has_object T (signature_of c.kind).c c.c

-- the five calls that may name an object after its cleanup
abbrev pub may_come_late : CallKind → Bool
may_come_late call.WdfObjectReference = true
may_come_late call.WdfObjectDereference = true
may_come_late call.GetContext = true
may_come_late call.SetContext = true
may_come_late call.WdfRequestUnmarkCancelable = true
may_come_late _ = false

-- the call of an event: it is answered at once, it begins to wait, or its wait is over
abbrev pub call_of : Event → Option Call
call_of (event.Did cpu c answer) = Some c
call_of (event.Waiting cpu c) = Some c
call_of (event.Woke cpu c answer) = Some c
call_of _ = None
