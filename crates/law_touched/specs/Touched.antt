-- What an event touches: the groups whose events may differ before and after it. A group that it doesn't touch offers the
-- same events in the state before and in the state after. (own)
use Rattle.std.specs.Prelude.{ℕ, Bool, true, false, ◌==◌, not, List, [], ◌∷◌, ◌++◌, filter}
use Rattle.std.specs.List.{flat_map, list_any}
use Rattle.wdf_base.specs.Meaning.{Meaning}
use Rattle.wdf_base.specs.declared.plan.Plan.{Plan}
use Rattle.wdf_base.specs.declared.event.Event.{Event}
use Rattle.wdf_base.specs.declared.event.Event.TheVariants as event
use Rattle.wdf_base.specs.declared.rank.Rank.{Rank}
use Rattle.wdf_base.specs.declared.rank.Rank.TheVariants as rank
use Rattle.wdf_model.specs.declared.deed.Deed.{Deed}
use Rattle.wdf_model.specs.declared.deed.Deed.TheVariants as deed
use Rattle.wdf_model.specs.declared.enums.Group.{Group}
use Rattle.wdf_model.specs.declared.enums.Group.TheVariants as group
use Rattle.wdf_model.specs.State.{State}
use Rattle.wdf_model.specs.rules.Groups.{candidates_in}
use Rattle.wdf_model.specs.rules.Steps.{deeds, may}

-- ---- pieces of the state

-- A piece of the state, as groups read it and events change it.
pub data Piece : Type 0 where
  -- the objects: lives, kinds, parents, references, context cells
  ObjectTree : Piece
  -- the frames that are on this processor, by number, and its level
  Processor : ℕ → Piece
  -- the top frame of this processor: its place, its variables, and so on
  TopFrame : ℕ → Piece
  -- what the top frame of this processor waits for
  TopWait : ℕ → Piece
  -- the objects on which frames run, and their callbacks
  RunningObjects : Piece
  -- the objects about which frames wait in a call
  WaitedObjects : Piece
  -- the frames that left their processor, and what they wait for
  ParkedFrames : Piece
  -- who holds which lock
  HeldLocks : Piece
  -- the requests: places, marks, origins
  RequestTable : Piece
  -- which requests wait in which queue, and how many are held from it
  QueueLines : Piece
  -- the modes of the queues and their notification
  QueueControl : Piece
  -- what has power, and what is held, acknowledged and resumed
  DevicePower : Piece
  -- the steps that devices have left
  DeviceSteps : Piece
  -- the interrupts that are enabled
  EnabledInterrupts : Piece
  -- the queued DPCs
  DpcLists : Piece
  -- the queued work items
  WorkQueue : Piece
  -- the queued timers
  TimerQueue : Piece
  -- what is sent to the targets
  TargetTable : Piece
  -- the agents
  AgentStates : Piece
  -- the clock
  ClockTick : Piece

-- whether two pieces are one; those of two processors differ
abbrev pub same_piece : Piece → Piece → Bool
same_piece ObjectTree ObjectTree = true
same_piece (Processor a) (Processor b) = a == b
same_piece (TopFrame a) (TopFrame b) = a == b
same_piece (TopWait a) (TopWait b) = a == b
same_piece RunningObjects RunningObjects = true
same_piece WaitedObjects WaitedObjects = true
same_piece ParkedFrames ParkedFrames = true
same_piece HeldLocks HeldLocks = true
same_piece RequestTable RequestTable = true
same_piece QueueLines QueueLines = true
same_piece QueueControl QueueControl = true
same_piece DevicePower DevicePower = true
same_piece DeviceSteps DeviceSteps = true
same_piece EnabledInterrupts EnabledInterrupts = true
same_piece DpcLists DpcLists = true
same_piece WorkQueue WorkQueue = true
same_piece TimerQueue TimerQueue = true
same_piece TargetTable TargetTable = true
same_piece AgentStates AgentStates = true
same_piece ClockTick ClockTick = true
same_piece _ _ = false

-- whether a piece is in a list
abbrev pub has_piece : Piece → List Piece → Bool
has_piece p pieces = list_any (same_piece p) pieces

-- ---- what a group reads: one row for each

-- what the starts of a rank without a request read, beside what each start reads
abbrev pub read_by_rank : Rank → List Piece
-- the level line and whether the interrupt is enabled
read_by_rank rank.Isr = EnabledInterrupts ∷ AgentStates ∷ []
-- the first DPC of the processor
read_by_rank rank.Deferred = DpcLists ∷ []
-- the reached timers, and that no frame runs on them
read_by_rank rank.Timed = TimerQueue ∷ ClockTick ∷ RunningObjects ∷ []
-- due notification, and whether the queue delivers
read_by_rank rank.QueueState = QueueControl ∷ DevicePower ∷ []
-- the front of a queue that delivers and is free
read_by_rank rank.Handler = QueueControl ∷ DevicePower ∷ QueueLines ∷ RequestTable ∷ []
-- the next step, and that the resumes are over
read_by_rank rank.Sequence = DeviceSteps ∷ DevicePower ∷ RunningObjects ∷ []
-- the queued work items, and that no frame runs on them
read_by_rank rank.Work = WorkQueue ∷ RunningObjects ∷ []
-- that nothing is left of the object
read_by_rank rank.Cleanup = RunningObjects ∷ WaitedObjects ∷ RequestTable ∷ []
-- that no frame runs on it
read_by_rank rank.Destroy = RunningObjects ∷ []
-- the other ranks are for a request
read_by_rank _ = []

-- what the starts of a rank for the requests of an object read, beside what each such start reads
abbrev pub read_for_rank : Rank → List Piece
-- whether the driver holds the request
read_for_rank rank.Cancel = TargetTable ∷ []
-- the request's place alone
read_for_rank rank.CanceledOnQueue = []
-- whether it is held and wasn't asked to stop, and whether `settled` is the next step
read_for_rank rank.Stop = TargetTable ∷ DevicePower ∷ DeviceSteps ∷ []
-- whether it is held, and its resume due
read_for_rank rank.Resume = TargetTable ∷ DevicePower ∷ []
-- what is sent; no other rank is for a request
read_for_rank _ = TargetTable ∷ []

-- what a group reads
abbrev pub read_by : Group → List Piece
-- all that a call, a fault or a register may ask for; not the steps, and not what other frames are about to do
read_by (group.OwnEvent cpu) =
    Processor cpu ∷ TopFrame cpu ∷ ObjectTree ∷ RunningObjects ∷ HeldLocks ∷ RequestTable ∷ QueueLines ∷ QueueControl ∷ DevicePower
    ∷ EnabledInterrupts ∷ DpcLists ∷ WorkQueue ∷ TimerQueue ∷ TargetTable ∷ AgentStates ∷ ClockTick ∷ []
-- what the top frame waits for, and whether that is over
read_by (group.Parks cpu) = Processor cpu ∷ TopWait cpu ∷ RunningObjects ∷ HeldLocks ∷ RequestTable ∷ QueueLines ∷ WorkQueue ∷ []
-- the same of the parked frames
read_by (group.Unparks cpu) = Processor cpu ∷ ParkedFrames ∷ RunningObjects ∷ HeldLocks ∷ RequestTable ∷ QueueLines ∷ WorkQueue ∷ []
-- the processor's level, the object, its lock, and what the rank asks
read_by (group.Starts cpu r) = Processor cpu ∷ ObjectTree ∷ HeldLocks ∷ read_by_rank r
-- the same, and the requests
read_by (group.StartsFor cpu r o) = Processor cpu ∷ ObjectTree ∷ HeldLocks ∷ RequestTable ∷ read_for_rank r
-- the next steps, and what each stage waits for
read_by group.Stages = ObjectTree ∷ RunningObjects ∷ HeldLocks ∷ RequestTable ∷ DevicePower ∷ DeviceSteps ∷ DpcLists ∷ []
-- which requests are closing
read_by group.Completions = ObjectTree ∷ RequestTable ∷ []
-- that nothing is left of the object
read_by group.Cleanups = ObjectTree ∷ RunningObjects ∷ WaitedObjects ∷ HeldLocks ∷ RequestTable ∷ []
-- that no frame runs on it
read_by group.Destroys = ObjectTree ∷ RunningObjects ∷ []
-- what the agents have due, and what it is answered
read_by group.Posts = ObjectTree ∷ RequestTable ∷ DeviceSteps ∷ TargetTable ∷ AgentStates ∷ []

-- ---- what a deed changes: one row for each

-- what the deed of an event of processor cpu changes; for an event of no processor no row reads cpu
abbrev pub changed_by : ℕ → Deed → List Piece
changed_by cpu (deed.Create k class parent) = ObjectTree ∷ []
changed_by cpu (deed.MakeRequest class parent) = ObjectTree ∷ RequestTable ∷ []
-- it may enter a line, and notification may become due
changed_by cpu (deed.Arrive device info p) = ObjectTree ∷ RequestTable ∷ QueueLines ∷ QueueControl ∷ []
-- how many arrivals an agent has posted is read by no group
changed_by cpu (deed.CountArrival agent) = []
-- a DPC, timer or work item leaves its queue
changed_by cpu (deed.AskDeletion o) = ObjectTree ∷ DpcLists ∷ WorkQueue ∷ TimerQueue ∷ []
changed_by cpu (deed.Refer o) = ObjectTree ∷ []
changed_by cpu (deed.Unrefer o) = ObjectTree ∷ []
changed_by cpu (deed.WriteCell o k v) = ObjectTree ∷ []
changed_by cpu (deed.Note o c) = ObjectTree ∷ []
changed_by cpu (deed.CleanUp o) = ObjectTree ∷ []
changed_by cpu (deed.EndLife o) = ObjectTree ∷ RequestTable ∷ []
-- of the processors the event's own alone
changed_by cpu (deed.PushFrame on f frame level) = Processor cpu ∷ TopFrame cpu ∷ TopWait cpu ∷ RunningObjects ∷ WaitedObjects ∷ []
-- the rows of events say it where the frame begins or ends to wait
changed_by cpu (deed.GoOn f frame) = TopFrame cpu ∷ []
changed_by cpu (deed.Raise f level) = Processor cpu ∷ []
changed_by cpu (deed.Lower f level) = Processor cpu ∷ []
changed_by cpu (deed.PopFrame on) = Processor cpu ∷ TopFrame cpu ∷ TopWait cpu ∷ RunningObjects ∷ WaitedObjects ∷ []
-- a parked frame still runs on its object, and waits
changed_by cpu (deed.ParkFrame on) = Processor cpu ∷ TopFrame cpu ∷ TopWait cpu ∷ ParkedFrames ∷ []
changed_by cpu (deed.UnparkFrame on f) = Processor cpu ∷ TopFrame cpu ∷ TopWait cpu ∷ ParkedFrames ∷ []
changed_by cpu (deed.TakeLock l f by_call) = HeldLocks ∷ []
changed_by cpu (deed.ReleaseLock l) = HeldLocks ∷ []
changed_by cpu (deed.Present q r) = QueueLines ∷ RequestTable ∷ DevicePower ∷ []
changed_by cpu (deed.Receive q r) = QueueLines ∷ RequestTable ∷ DevicePower ∷ []
changed_by cpu (deed.Requeue r q) = QueueLines ∷ RequestTable ∷ DevicePower ∷ QueueControl ∷ []
changed_by cpu (deed.Forward r q) = QueueLines ∷ RequestTable ∷ DevicePower ∷ QueueControl ∷ []
changed_by cpu (deed.GiveBack r q) = QueueLines ∷ RequestTable ∷ DevicePower ∷ []
changed_by cpu (deed.Withdraw q r) = QueueLines ∷ RequestTable ∷ []
changed_by cpu (deed.MarkRequest r) = RequestTable ∷ []
changed_by cpu (deed.UnmarkRequest r) = RequestTable ∷ []
changed_by cpu (deed.CancelRequest r) = RequestTable ∷ []
changed_by cpu (deed.TakeCancel r) = RequestTable ∷ []
-- given up, if it won't come back
changed_by cpu (deed.SendRequest r t forget) = QueueLines ∷ RequestTable ∷ DevicePower ∷ TargetTable ∷ []
changed_by cpu (deed.FinishSending r s) = RequestTable ∷ TargetTable ∷ []
changed_by cpu (deed.ComeBack r) = RequestTable ∷ TargetTable ∷ []
-- given up, and its deletion is asked
changed_by cpu (deed.CompleteRequest r) = ObjectTree ∷ QueueLines ∷ RequestTable ∷ DevicePower ∷ DpcLists ∷ WorkQueue ∷ TimerQueue ∷ []
changed_by cpu (deed.SetMode q m) = QueueControl ∷ []
changed_by cpu (deed.PurgeQueue q) = QueueLines ∷ RequestTable ∷ QueueControl ∷ []
changed_by cpu (deed.CloseReturning d) = RequestTable ∷ []
changed_by cpu (deed.CloseDevice d) = QueueLines ∷ RequestTable ∷ QueueControl ∷ []
changed_by cpu (deed.RegisterQueue q on) = QueueControl ∷ []
changed_by cpu (deed.NotifyQueue q) = QueueControl ∷ []
changed_by cpu (deed.AdvancePower d s) = DevicePower ∷ []
changed_by cpu (deed.Acknowledge r) = DevicePower ∷ []
changed_by cpu (deed.AskStop r) = DevicePower ∷ []
changed_by cpu (deed.Resume r) = DevicePower ∷ []
changed_by cpu (deed.AskDevice d a) = DeviceSteps ∷ []
changed_by cpu (deed.TakeStep d) = DeviceSteps ∷ []
changed_by cpu (deed.EndStep d s v) = DeviceSteps ∷ []
changed_by cpu (deed.EnableInterrupt i) = EnabledInterrupts ∷ []
changed_by cpu (deed.DisableInterrupt i) = EnabledInterrupts ∷ []
changed_by cpu (deed.EnqueueDpc on o) = DpcLists ∷ []
changed_by cpu (deed.CancelDpc o) = DpcLists ∷ []
changed_by cpu (deed.TakeDpc on) = DpcLists ∷ []
changed_by cpu (deed.EnqueueWork o) = WorkQueue ∷ []
changed_by cpu (deed.CancelWork o) = WorkQueue ∷ []
changed_by cpu (deed.StartTimer o ticks) = TimerQueue ∷ []
changed_by cpu (deed.StopTimer o) = TimerQueue ∷ []
changed_by cpu (deed.FireTimer o period) = TimerQueue ∷ []
changed_by cpu (deed.StopTarget t) = TargetTable ∷ []
changed_by cpu (deed.StartTarget t) = TargetTable ∷ []
changed_by cpu deed.PassTick = ClockTick ∷ []

-- ---- what an event changes: one row for each kind

-- what changes where a frame comes to processor cpu or leaves it
abbrev pub changed_on : ℕ → List Piece
changed_on cpu = Processor cpu ∷ TopFrame cpu ∷ TopWait cpu ∷ RunningObjects ∷ WaitedObjects ∷ []

-- what the deeds of event e, of processor cpu, change; and the agents hear of it
abbrev pub changed_by_deeds : {A : Type 0} → Plan → State A → ℕ → Event → List Piece
changed_by_deeds plan S cpu e = AgentStates ∷ flat_map (changed_by cpu) (deeds plan S e)

-- what event e changes in state S
abbrev pub changed : {A : Type 0} → Plan → State A → Event → List Piece
-- the top frame alone; no agent hears of it
changed plan S (event.Local cpu line) = TopFrame cpu.0 ∷ []
-- the same
changed plan S (event.Log cpu v) = TopFrame cpu.0 ∷ []
-- the top frame, by its place and its tick
changed plan S (event.Spend cpu n) = TopFrame cpu.0 ∷ AgentStates ∷ []
-- the top frame; what the register does is its agent's
changed plan S (event.Register cpu a k v) = TopFrame cpu.0 ∷ AgentStates ∷ []
-- the top frame, and what the call does
changed plan S (event.Did cpu c v) = TopFrame cpu.0 ∷ changed_by_deeds plan S cpu.0 (event.Did cpu c v)
-- the same, and the frame waits
changed plan S (event.Waiting cpu c) = TopFrame cpu.0 ∷ TopWait cpu.0 ∷ WaitedObjects ∷ changed_by_deeds plan S cpu.0 (event.Waiting cpu c)
-- the same, and it waits no more
changed plan S (event.Woke cpu c v) = TopFrame cpu.0 ∷ TopWait cpu.0 ∷ WaitedObjects ∷ changed_by_deeds plan S cpu.0 (event.Woke cpu c v)
-- the processor, the rank's own effect, and the lock
changed plan S (event.Start cpu c o r) = changed_on cpu.0 ++ changed_by_deeds plan S cpu.0 (event.Start cpu c o r)
-- the processor, the lock, and the steps of a device whose step ends
changed plan S (event.End cpu c o v) = changed_on cpu.0 ++ changed_by_deeds plan S cpu.0 (event.End cpu c o v)
-- the processor and the parked frames; each frame still runs on its object, and waits
changed plan S (event.Park cpu f) = changed_by_deeds plan S cpu.0 (event.Park cpu f)
-- the same
changed plan S (event.Unpark cpu f) = changed_by_deeds plan S cpu.0 (event.Unpark cpu f)
-- the agents alone, and nothing may follow
changed plan S (event.Fault cpu x line) = AgentStates ∷ []
-- what the stage does
changed plan S (event.Stage d s i) = changed_by_deeds plan S 0 (event.Stage d s i)
-- the request, and what is asked by its deletion
changed plan S (event.Complete r s) = changed_by_deeds plan S 0 (event.Complete r s)
-- the tree
changed plan S (event.Cleanup o) = changed_by_deeds plan S 0 (event.Cleanup o)
-- the tree, and what was known of it as a request
changed plan S (event.Destroy o) = changed_by_deeds plan S 0 (event.Destroy o)
-- what the post does
changed plan S (event.Posted agent p answer) = changed_by_deeds plan S 0 (event.Posted agent p answer)
-- the clock
changed plan S (event.Tick time) = AgentStates ∷ ClockTick ∷ []

-- ---- what an event touches

-- event e touches group g in state S: it changes a piece that the group reads
abbrev pub touches : {A : Type 0} → Plan → State A → Event → Group → Bool
touches plan S e g = list_any (λ p. has_piece p (read_by g)) (changed plan S e)

-- the agents, and no other piece
abbrev pub is_of_agents : Piece → Bool
is_of_agents AgentStates = true
is_of_agents _ = false

-- event e touches group g in state S otherwise than by what agents hear of it
abbrev pub touches_beside_agents : {A : Type 0} → Plan → State A → Event → Group → Bool
touches_beside_agents plan S e g = list_any (λ p. has_piece p (read_by g)) (filter (λ p. not (is_of_agents p)) (changed plan S e))

-- the events of group g that may come in state S, by rising place
abbrev pub offers : {A : Type 0} → Plan → Meaning A → State A → Group → List Event
offers plan m S g = filter (may plan m S) (candidates_in plan m S g)

-- group g is the own event of this processor
abbrev pub is_own_of : ℕ → Group → Bool
is_own_of cpu (group.OwnEvent on) = cpu == on
is_own_of cpu _ = false

-- group g reads the agents or the clock, and so what a tick changes
abbrev pub is_of_time : Group → Bool
-- frames that spend, and reads of registers
is_of_time (group.OwnEvent cpu) = true
-- level lines
is_of_time (group.Starts cpu rank.Isr) = true
-- timers that are reached
is_of_time (group.Starts cpu rank.Timed) = true
-- what agents have due
is_of_time group.Posts = true
is_of_time _ = false
