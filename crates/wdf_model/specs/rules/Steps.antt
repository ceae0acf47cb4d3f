-- The machine: a frame's own event, what may come in a state, and the state after an event.
use Rattle.std.specs.Prelude.{if◌then◌else◌, ℕ, ◌+◌, Bool, true, false, ◌==◌, nat_lt, not, ◌&&◌, List, [], ◌∷◌, ◌++◌, slice_set, Option, Some, None}
use Rattle.wdf_base.specs.Meaning.{Meaning}
use Rattle.wdf_base.specs.declared.plan.Plan.{Plan}
use Rattle.wdf_base.specs.declared.ids.Handle.{Handle}
use Rattle.wdf_base.specs.declared.ids.Cpu.{Cpu}
use Rattle.wdf_base.specs.declared.value.Value.{Value}
use Rattle.wdf_base.specs.declared.value.Value.TheVariants.{Num}
use Rattle.wdf_base.specs.declared.value.Status.{Status}
use Rattle.wdf_base.specs.declared.object.Place.{Place}
use Rattle.wdf_base.specs.declared.object.Place.TheVariants as place
use Rattle.wdf_base.specs.declared.call.Call.{Call}
use Rattle.wdf_base.specs.declared.call.Callback.TheVariants as callback
use Rattle.wdf_base.specs.declared.event.Access.TheVariants as access
use Rattle.wdf_base.specs.declared.event.Fault.{Fault}
use Rattle.wdf_base.specs.declared.event.Fault.TheVariants as fault
use Rattle.wdf_base.specs.declared.event.Event.{Event}
use Rattle.wdf_base.specs.declared.event.Event.TheVariants as event
use Rattle.wdf_base.specs.declared.frame.Frame.{Frame}
use Rattle.wdf_base.specs.declared.frame.Pending.{Pending}
use Rattle.wdf_base.specs.declared.frame.Change.{Change}
use Rattle.wdf_base.specs.declared.frame.Change.TheVariants as change
use Rattle.wdf_base.specs.declared.frame.Intent.{Intent}
use Rattle.wdf_base.specs.declared.frame.Intent.TheVariants as intent
use Rattle.wdf_base.specs.declared.script.Act.{Act}
use Rattle.wdf_base.specs.declared.script.Act.TheVariants as act
use Rattle.wdf_base.specs.declared.script.Statement.{Statement}
use Rattle.wdf_base.specs.Same.{same_event, same_option, same_status}
use Rattle.wdf_model.specs.Tables.{contains, same_id}
use Rattle.wdf_model.specs.Plans.{device_of_register, interrupt_level}
use Rattle.wdf_model.specs.parts.Tree.{Tree, declared_as, kind_of, life_of, references_of}
use Rattle.wdf_model.specs.parts.Cpus.{Cpus, frame_of, irql, is_empty_cpu, top}
use Rattle.wdf_model.specs.parts.Locks.{Locks, held_by_call, holder, holds_by_call, scope_of_object}
use Rattle.wdf_model.specs.parts.Requests.{Requests, mark_of, origin_of, place_of}
use Rattle.wdf_model.specs.parts.Power.{Power, acknowledged, has_hardware}
use Rattle.wdf_model.specs.parts.Targets.{Targets}
use Rattle.wdf_model.specs.Ids.{cpu_of, frame_id}
use Rattle.wdf_model.specs.rules.Script.{intent_of, line_of, statement_at}
use Rattle.wdf_model.specs.State.{State, is_proper, is_with_driver_by}
use Rattle.wdf_model.specs.declared.deed.Deed.{Deed}
use Rattle.wdf_model.specs.declared.deed.Deed.TheVariants.{GoOn, ParkFrame, UnparkFrame, CompleteRequest, CleanUp, EndLife, PassTick}
use Rattle.wdf_model.specs.rules.Deeds.{do_deeds, counted}
use Rattle.wdf_model.specs.rules.Faults.{View, fault_of}
use Rattle.wdf_model.specs.rules.Calls.{Outcome, outcome, is_met, second_deeds, is_met_then}
use Rattle.wdf_model.specs.rules.Starts.{callback_over, clean_ready, destroy_ready, end_deeds, may_pass, may_start, shown, stage_deeds, start_deeds}
use Rattle.wdf_model.specs.rules.Posts.{may_post, post_deeds}

-- ---- a frame's own event

-- what frame f on processor cpu sees, by the parts of the state that it reads (own)
abbrev pub seen_by : Plan → Tree → Requests → Targets → Power → Cpus → Locks → ℕ → ℕ → View
seen_by plan T R targets P C L cpu f = record {
  frame = frame_of C f;
  number = f;
  irql = irql C cpu;
  life = life_of T;
  kind = kind_of T;
  references = references_of T;
  level_of = interrupt_level plan;
  scope = λ o. scope_of_object plan o (declared_as plan T o);
  place = place_of R;
  origin = origin_of R;
  mark = mark_of R;
  held = λ r. is_with_driver_by R targets r;
  acknowledged = acknowledged P;
  holder = holder L;
  by_call = holds_by_call L f;
  held_by_call = held_by_call L f;
  hardware = λ k. has_hardware P (device_of_register plan k);
}

-- what it sees of the state; its faults are judged by this alone (own)
abbrev pub view_of : {A : Type 0} → Plan → State A → ℕ → ℕ → View
view_of plan S cpu f = seen_by plan S.tree S.requests S.targets S.power S.cpus S.locks cpu f

-- call c without a fault, with outcome o: it is answered at once, or waits where its condition isn't met once its
-- first part is done (KMDF)
abbrev pub call_event : {A : Type 0} → Plan → State A → ℕ → Call → Outcome → Event
call_event plan S cpu c o =
    if is_met_then plan S c then event.Did (cpu_of cpu) c o.answer else event.Waiting (cpu_of cpu) c

-- the event of what frame f on processor cpu is about to do, where that is no fault
abbrev pub intent_event : {A : Type 0} → Plan → Meaning A → State A → ℕ → ℕ → Frame → Intent → Event
-- own: a `let`, an `if` or a `repeat`, by its line
intent_event plan m S cpu f frame (intent.Local change next) = event.Local (cpu_of cpu) (line_of plan frame)
-- own: a `log`, with its value
intent_event plan m S cpu f frame (intent.Log v) = event.Log (cpu_of cpu) v
-- own: a `spend`, with its number of ticks
intent_event plan m S cpu f frame (intent.Spend n) = event.Spend (cpu_of cpu) n
-- own: a read of register k, with what the device shows at this moment
intent_event plan m S cpu f frame (intent.Get k) = event.Register (cpu_of cpu) access.Read k (shown plan m S (device_of_register plan k) k)
-- own: a write of value v to register k
intent_event plan m S cpu f frame (intent.Put k v) = event.Register (cpu_of cpu) access.Write k v
-- KMDF: a call, by its row
intent_event plan m S cpu f frame (intent.Do c) = call_event plan S cpu c (outcome plan S cpu f c)
-- KMDF: the callback ends with this value
intent_event plan m S cpu f frame (intent.Return v) = event.End (cpu_of cpu) frame.callback frame.object v
-- own: a statement that has no meaning
intent_event plan m S cpu f frame intent.Broken = event.Fault (cpu_of cpu) fault.ScriptError (line_of plan frame)

-- the event of a frame that is about to do i: the fault, if there is one, comes in its place (own)
abbrev pub fault_event : {A : Type 0} → Plan → Meaning A → State A → ℕ → ℕ → Frame → Intent → Option Fault → Event
fault_event plan m S cpu f frame i (Some x) = event.Fault (cpu_of cpu) x (line_of plan frame)
fault_event plan m S cpu f frame i None = intent_event plan m S cpu f frame i

-- the event of frame f on processor cpu that is about to do i
abbrev pub next_event : {A : Type 0} → Plan → Meaning A → State A → ℕ → ℕ → Frame → Intent → Event
next_event plan m S cpu f frame i = fault_event plan m S cpu f frame i (fault_of (view_of plan S cpu f) i)

-- a frame on processor cpu whose call p waits wakes where the call's condition is met; none where it isn't (KMDF)
abbrev pub woken_event : {A : Type 0} → State A → ℕ → Pending → Option Event
woken_event S cpu p = if is_met S p.call then Some (event.Woke (cpu_of cpu) p.call p.answer) else None

-- the event of frame f on processor cpu: a frame that waits can only wake, any other takes its next statement
abbrev pub event_of_frame : {A : Type 0} → Plan → Meaning A → State A → ℕ → ℕ → Frame → Option Pending → Option Event
event_of_frame plan m S cpu f frame (Some p) = woken_event S cpu p
event_of_frame plan m S cpu f frame None = Some (next_event plan m S cpu f frame (intent_of plan frame))

-- a frame spends while its tick is later than the clock (own)
abbrev pub spends : {A : Type 0} → State A → Frame → Bool
spends S frame = nat_lt S.clock frame.until

-- the event of the top frame f of processor cpu; none on an empty processor, and none while the frame spends
abbrev pub event_of_top : {A : Type 0} → Plan → Meaning A → State A → ℕ → Option ℕ → Option Event
event_of_top plan m S cpu None = None
event_of_top plan m S cpu (Some f) =
    if spends S (frame_of S.cpus f) then None else event_of_frame plan m S cpu f (frame_of S.cpus f) (frame_of S.cpus f).pending

-- the one event of a processor's top frame, beside leaving the processor: none where the frame spends, or waits in
-- vain
abbrev pub own_event : {A : Type 0} → Plan → Meaning A → State A → ℕ → Option Event
own_event plan m S cpu = event_of_top plan m S cpu (top S.cpus cpu)

-- ---- parking

-- a call p waits, and its wait isn't over; no where nothing waits
abbrev pub waits_on : {A : Type 0} → State A → Option Pending → Bool
waits_on S None = false
waits_on S (Some p) = not (is_met S p.call)

-- a call p waits, and its wait is over; no where nothing waits
abbrev pub wait_is_over : {A : Type 0} → State A → Option Pending → Bool
wait_is_over S None = false
wait_is_over S (Some p) = is_met S p.call

-- own: frame f may leave processor cpu: it is the top frame there, waits, and the processor's level is
-- PASSIVE_LEVEL
abbrev pub may_park : {A : Type 0} → State A → ℕ → ℕ → Bool
may_park S cpu f = same_id (top S.cpus cpu) f && irql S.cpus cpu == 0 && waits_on S (frame_of S.cpus f).pending

-- own: parked frame f may come back to processor cpu: that is empty, and the frame's wait is over
abbrev pub may_unpark : {A : Type 0} → State A → ℕ → ℕ → Bool
may_unpark S cpu f = contains f S.cpus.parked && is_empty_cpu S.cpus cpu && wait_is_over S (frame_of S.cpus f).pending

-- ---- what may come: one row for each kind of event

-- e is the event of the top frame of processor cpu
abbrev pub is_own_event : {A : Type 0} → Plan → Meaning A → State A → Cpu → Event → Bool
is_own_event plan m S cpu e = same_option same_event (own_event plan m S cpu.0) (Some e)

-- a place is Closing with status t
abbrev pub is_closing_with : Place → Status → Bool
is_closing_with (place.Closing s) t = same_status s t
is_closing_with _ t = false

-- a request's handle is proper, or there is none
abbrev pub is_proper_if_any : {A : Type 0} → Plan → State A → Option Handle → Bool
is_proper_if_any plan S None = true
is_proper_if_any plan S (Some h) = is_proper plan S h

-- cpu is a processor of the plan, which are counted from 0
abbrev pub is_cpu : Plan → Cpu → Bool
is_cpu plan cpu = nat_lt cpu.0 plan.cpus

-- event e may come in state S: one row for each kind of event
abbrev pub may : {A : Type 0} → Plan → Meaning A → State A → Event → Bool
-- a callback starts by its row of the table of callbacks
may plan m S (event.Start cpu c o r) = is_cpu plan cpu && is_proper plan S o && is_proper_if_any plan S r && may_start plan m S cpu.0 c o.id.0 r
-- a frame's event is the one of its statement, its fault, its end or its waking
may plan m S (event.Local cpu line) = is_own_event plan m S cpu (event.Local cpu line)
may plan m S (event.Log cpu v) = is_own_event plan m S cpu (event.Log cpu v)
may plan m S (event.Spend cpu n) = is_own_event plan m S cpu (event.Spend cpu n)
may plan m S (event.Register cpu a k v) = is_own_event plan m S cpu (event.Register cpu a k v)
may plan m S (event.Did cpu c v) = is_own_event plan m S cpu (event.Did cpu c v)
may plan m S (event.Waiting cpu c) = is_own_event plan m S cpu (event.Waiting cpu c)
may plan m S (event.Woke cpu c v) = is_own_event plan m S cpu (event.Woke cpu c v)
may plan m S (event.End cpu c o v) = is_own_event plan m S cpu (event.End cpu c o v)
may plan m S (event.Fault cpu x line) = is_own_event plan m S cpu (event.Fault cpu x line)
-- own: a frame leaves its processor, and comes back
may plan m S (event.Park cpu f) = may_park S cpu.0 f.0
may plan m S (event.Unpark cpu f) = is_cpu plan cpu && may_unpark S cpu.0 f.0
-- a stage is the device's next step, and its wait is over
may plan m S (event.Stage d s i) = is_proper plan S d && may_pass plan S d.id.0 s i
-- the framework completes what is Closing, with its status
may plan m S (event.Complete r s) = is_proper plan S r && is_closing_with (place_of S.requests r.id.0) s
-- a cleanup and a destruction come by the rules of the tree, after their callbacks
may plan m S (event.Cleanup o) = is_proper plan S o && clean_ready S o.id.0 && callback_over plan S callback.EvtCleanupCallback o.id.0
may plan m S (event.Destroy o) = is_proper plan S o && destroy_ready S o.id.0 && callback_over plan S callback.EvtDestroyCallback o.id.0
-- own: an agent posts what it has due, with the answer that the state gives
may plan m S (event.Posted agent p answer) = may_post plan m S agent p answer
-- own: no candidate is a tick; `or_tick` of Ready.antt adds it where nothing else may come
may plan m S (event.Tick time) = false

-- ---- the state after an event: one row for each kind of event

-- a frame after this statement; at the callback's end it stays where it is
abbrev pub at_next : Frame → Option Statement → Frame
at_next frame None = frame
at_next frame (Some s) = record frame { at = s.next }

-- a frame after its next statement
abbrev pub goes_on : Plan → Frame → Frame
goes_on plan frame = at_next frame (statement_at plan frame)

-- a frame whose variable with this number has value v
abbrev pub with_variable : Frame → ℕ → Value → Frame
with_variable frame variable v = record frame { variables = slice_set frame.variables variable v }

-- a frame whose variable with this number, if any, has the answer v
abbrev pub with_answer : Frame → Option ℕ → Value → Frame
with_answer frame None v = frame
with_answer frame (Some variable) v = with_variable frame variable v

-- the number of the variable that gets the answer of an act; only calls and reads of registers have an answer
abbrev pub result_of_act : Act → Option ℕ
result_of_act (act.Call k into a b c) = into
result_of_act (act.Get variable register) = Some variable
result_of_act _ = None

-- the variable that gets the answer of a statement, if there is a statement and it has one
abbrev pub result_of : Option Statement → Option ℕ
result_of None = None
result_of (Some s) = result_of_act s.act

-- a frame whose statement is answered with v: its variable has the answer, it is at the next statement, and waits
-- no more
abbrev pub answered : Plan → Frame → Value → Frame
answered plan frame v = record (with_answer (goes_on plan frame) (result_of (statement_at plan frame)) v) { pending = None }

-- a frame after a `let`, an `if` or a `repeat`: a variable has a value, or a `repeat` has so many turns left
abbrev pub changed : Frame → Change → Frame
changed frame (change.Assign variable v) = with_variable frame variable v
changed frame change.Branch = frame
changed frame (change.Count depth left) = record frame { counters = slice_set frame.counters depth left }

-- a frame after a step inside it; no other intent changes it so
abbrev pub stepped : Frame → Intent → Frame
stepped frame (intent.Local c next) = record (changed frame c) { at = next }
stepped frame _ = frame

-- a frame that spends n ticks from now, after which it goes on with the statement after `spend` (own)
abbrev pub spending : {A : Type 0} → Plan → State A → Frame → ℕ → Frame
spending plan S frame n = record (goes_on plan frame) { until = S.clock + n }

-- a frame that waits in call c, which will answer v
abbrev pub waiting : Frame → Call → Value → Frame
waiting frame c v = record frame { pending = Some (record { call = c; answer = v }) }

-- what the top frame of processor cpu does, by its number and itself; nothing on an empty processor
abbrev pub by_top : {A : Type 0} → State A → ℕ → (ℕ → Frame → List Deed) → List Deed
by_top S cpu deeds = elim (top S.cpus cpu) as (λ _. List Deed) [
  | None ↦ []
  | Some f ↦ deeds f (frame_of S.cpus f)
]

-- what call c of frame f does that is answered with v at once: both its parts, and the frame goes on
abbrev pub did_deeds : {A : Type 0} → Plan → State A → ℕ → Call → Value → ℕ → Frame → List Deed
did_deeds plan S cpu c v f frame =
    (outcome plan S cpu f c).deeds ++ second_deeds f c ++ GoOn (frame_id f) (answered plan frame v) ∷ []

-- what call c of frame f does that has to wait: its first part, and the frame waits
abbrev pub waiting_deeds : {A : Type 0} → Plan → State A → ℕ → Call → ℕ → Frame → List Deed
waiting_deeds plan S cpu c f frame =
    (outcome plan S cpu f c).deeds ++ GoOn (frame_id f) (waiting frame c (outcome plan S cpu f c).answer) ∷ []

-- what call c of frame f does when its wait is over: its second part, and the frame goes on with answer v
abbrev pub woke_deeds : Plan → Call → Value → ℕ → Frame → List Deed
woke_deeds plan c v f frame = second_deeds f c ++ GoOn (frame_id f) (answered plan frame v) ∷ []

-- what event e does to state S, as a list of deeds: one row for each kind of event
abbrev pub deeds : {A : Type 0} → Plan → State A → Event → List Deed
-- the callback's own effect, its frame on top, its lock
deeds plan S (event.Start cpu c o r) = start_deeds plan S cpu.0 c o r
-- the frame's variables, counters, place and tick
deeds plan S (event.Local cpu line) = by_top S cpu.0 (λ f frame. GoOn (frame_id f) (stepped frame (intent_of plan frame)) ∷ [])
deeds plan S (event.Log cpu v) = by_top S cpu.0 (λ f frame. GoOn (frame_id f) (goes_on plan frame) ∷ [])
deeds plan S (event.Spend cpu n) = by_top S cpu.0 (λ f frame. GoOn (frame_id f) (spending plan S frame n) ∷ [])
-- the register and the device's level lines are its agent's
deeds plan S (event.Register cpu a k v) = by_top S cpu.0 (λ f frame. GoOn (frame_id f) (answered plan frame (Num v)) ∷ [])
-- the effect of the call's first part, and of the second where nothing is to be waited for
deeds plan S (event.Did cpu c v) = by_top S cpu.0 (did_deeds plan S cpu.0 c v)
deeds plan S (event.Waiting cpu c) = by_top S cpu.0 (waiting_deeds plan S cpu.0 c)
deeds plan S (event.Woke cpu c v) = by_top S cpu.0 (woke_deeds plan c v)
-- own: the frame moves between the processor and the parked list
deeds plan S (event.Park cpu f) = ParkFrame cpu ∷ []
deeds plan S (event.Unpark cpu f) = UnparkFrame cpu f ∷ []
-- the frame and its lock are gone; a failed step changes the steps left
deeds plan S (event.End cpu c o v) = end_deeds plan S cpu.0 c o.id.0 v
-- own: a fault changes nothing, and ends the run
deeds plan S (event.Fault cpu x line) = []
-- own: the step is taken, with its effect
deeds plan S (event.Stage d s i) = stage_deeds plan d.id.0 s i
-- KMDF: the request is done, and its deletion is asked
deeds plan S (event.Complete r s) = CompleteRequest r.id ∷ []
-- KMDF: the cleanup is done
deeds plan S (event.Cleanup o) = CleanUp o.id ∷ []
-- KMDF: the object is gone
deeds plan S (event.Destroy o) = EndLife o.id ∷ []
-- KMDF: an arrival or a cancel; own: a done, and a list of steps
deeds plan S (event.Posted agent p answer) = post_deeds plan S agent p
-- own: the clock is one more
deeds plan S (event.Tick time) = PassTick ∷ []

-- the state after event e: its deeds are done, the agents hear of it, and it is counted
abbrev pub after : {A : Type 0} → Plan → Meaning A → State A → Event → State A
after plan m S e = counted m e (do_deeds plan (deeds plan S e) S)
