-- The own event of a processor is the same in two states that are the same in what it reads.
use Rattle.std.proofs.Common.{if◌then◌else◌, ◌≡◌, ℕ, [], ◌∷◌, Option, Some, None, refl, ap, sym, ◌∙◌}
use Rattle.wdf_base.specs.Meaning.{Meaning}
use Rattle.wdf_base.specs.declared.plan.Plan.{Plan}
use Rattle.wdf_base.specs.declared.event.Access.TheVariants as access
use Rattle.wdf_base.specs.declared.event.Event.{Event}
use Rattle.wdf_base.specs.declared.event.Event.TheVariants as event
use Rattle.wdf_base.specs.declared.event.Fault.{Fault}
use Rattle.wdf_base.specs.declared.frame.Frame.{Frame}
use Rattle.wdf_base.specs.declared.frame.Intent.{Intent}
use Rattle.wdf_base.specs.declared.frame.Intent.TheVariants as intent
use Rattle.wdf_base.specs.declared.frame.Pending.{Pending}
use Rattle.wdf_model.specs.Ids.{cpu_of}
use Rattle.wdf_model.specs.Plans.{device_of_register}
use Rattle.wdf_model.specs.State.{State}
use Rattle.wdf_model.specs.Tables.{first_of_list}
use Rattle.wdf_model.specs.declared.enums.Group.TheVariants as group
use Rattle.wdf_model.specs.parts.Cpus.{frame_of, top}
use Rattle.wdf_model.specs.rules.Calls.{outcome}
use Rattle.wdf_model.specs.rules.Faults.{View, fault_of}
use Rattle.wdf_model.specs.rules.Script.{intent_of}
use Rattle.wdf_model.specs.rules.Starts.{shown}
use Rattle.wdf_model.specs.rules.Steps.{event_of_frame, event_of_top, fault_event, intent_event, own_event, spends, view_of}
use Rattle.law_touched.specs.Touched.{Processor, TopFrame, ObjectTree, RunningObjects, HeldLocks, RequestTable, QueueLines, QueueControl, DevicePower, EnabledInterrupts, DpcLists, WorkQueue, TimerQueue, TargetTable, AgentStates, ClockTick, read_by}
use Rattle.law_machine_own.proofs.MayCome.{own_may}
use Rattle.law_touched.proofs.Same.{Agree, Same, on_it, top_of_it}
use Rattle.law_touched.proofs.Starts.{if_may}
use Rattle.law_touched.proofs.Waits.{met, met_then}

module _ {A : Type 0} (plan : Plan) (m : Meaning A) (S T : State A) (cpu : ℕ) (agree : Agree (read_by (group.OwnEvent cpu)) S T) where
  on : Same (Processor cpu) S T
  on = agree (Processor cpu) (on_it cpu (TopFrame cpu ∷ ObjectTree ∷ RunningObjects ∷ HeldLocks ∷ RequestTable ∷ QueueLines ∷ QueueControl ∷ DevicePower ∷ EnabledInterrupts ∷ DpcLists ∷ WorkQueue ∷ TimerQueue ∷ TargetTable ∷ AgentStates ∷ ClockTick ∷ []))

  frames : Same (TopFrame cpu) S T
  frames = agree (TopFrame cpu) (top_of_it cpu (ObjectTree ∷ RunningObjects ∷ HeldLocks ∷ RequestTable ∷ QueueLines ∷ QueueControl ∷ DevicePower ∷ EnabledInterrupts ∷ DpcLists ∷ WorkQueue ∷ TimerQueue ∷ TargetTable ∷ AgentStates ∷ ClockTick ∷ []))

  -- S with the other state's parts, but for the processors, the steps and the counts
  abbrev between : State A
  between = record S {
    tree = T.tree;
    locks = T.locks;
    requests = T.requests;
    queues = T.queues;
    control = T.control;
    power = T.power;
    interrupts = T.interrupts;
    dpcs = T.dpcs;
    work_items = T.work_items;
    timers = T.timers;
    targets = T.targets;
    agents = T.agents;
    clock = T.clock;
  }

  along : S ≡ between
  along = λ i. record S {
    tree = agree ObjectTree refl i;
    locks = agree HeldLocks refl i;
    requests = agree RequestTable refl i;
    queues = agree QueueLines refl i;
    control = agree QueueControl refl i;
    power = agree DevicePower refl i;
    interrupts = agree EnabledInterrupts refl i;
    dpcs = agree DpcLists refl i;
    work_items = agree WorkQueue refl i;
    timers = agree TimerQueue refl i;
    targets = agree TargetTable refl i;
    agents = agree AgentStates refl i;
    clock = agree ClockTick refl i;
  }

  intent_alike : (f : ℕ) (frame : Frame) (x : Intent) → intent_event plan m S cpu f frame x ≡ intent_event plan m T cpu f frame x
  intent_alike f frame (intent.Get k) = λ i. event.Register (cpu_of cpu) access.Read k (shown plan m (along i) (device_of_register plan k) k)
  intent_alike f frame (intent.Do c) = λ i.
      if met_then S T (agree HeldLocks refl) (agree RequestTable refl) (agree QueueLines refl) (agree WorkQueue refl) (agree RunningObjects refl).0 plan (agree QueueControl refl) (agree DevicePower refl) c i
      then event.Did (cpu_of cpu) c (outcome plan (along i) cpu f c).answer else event.Waiting (cpu_of cpu) c
  intent_alike f frame _ = refl

  fault_alike : (f : ℕ) (frame : Frame) (x : Intent) (o : Option Fault) → fault_event plan m S cpu f frame x o ≡ fault_event plan m T cpu f frame x o
  fault_alike f frame x (Some y) = refl
  fault_alike f frame x None = intent_alike f frame x

  view_alike : (f : ℕ) → frame_of S.cpus f ≡ frame_of T.cpus f → view_of plan S cpu f ≡ view_of plan T cpu f
  view_alike f same = λ i. record (view_of plan (along i) cpu f) { frame = same i; irql = on.1 i }

  frame_alike : (f : ℕ) (p : Option Pending) → frame_of S.cpus f ≡ frame_of T.cpus f → event_of_frame plan m S cpu f (frame_of T.cpus f) p ≡ event_of_frame plan m T cpu f (frame_of T.cpus f) p
  frame_alike f (Some p) same = λ i.
      if met S T (agree HeldLocks refl) (agree RequestTable refl) (agree QueueLines refl) (agree WorkQueue refl) (agree RunningObjects refl).0 p.call i
      then Some (event.Woke (cpu_of cpu) p.call p.answer) else None
  frame_alike f None same =
      ap (λ (v : View). Some (fault_event plan m S cpu f (frame_of T.cpus f) (intent_of plan (frame_of T.cpus f)) (fault_of v (intent_of plan (frame_of T.cpus f))))) (view_alike f same)
      ∙ ap Some (fault_alike f (frame_of T.cpus f) (intent_of plan (frame_of T.cpus f)) (fault_of (view_of plan T cpu f) (intent_of plan (frame_of T.cpus f))))

  top_alike : (o : Option ℕ) → top S.cpus cpu ≡ o → event_of_top plan m S cpu o ≡ event_of_top plan m T cpu o
  top_alike None at = refl
  top_alike (Some f) at =
      let same : frame_of S.cpus f ≡ frame_of T.cpus f = frames f at in
      ap (λ (x : Frame). if spends S x then None else event_of_frame plan m S cpu f x x.pending) same
      ∙ (λ i. if spends (along i) (frame_of T.cpus f) then None else frame_alike f (frame_of T.cpus f).pending same i)

  tops : top S.cpus cpu ≡ top T.cpus cpu
  tops = ap first_of_list on.0

  own_alike : own_event plan m S cpu ≡ own_event plan m T cpu
  own_alike = top_alike (top S.cpus cpu) refl ∙ ap (event_of_top plan m T cpu) tops

  kept : (U : State A) (o : Option Event) → own_event plan m U cpu ≡ o → if_may plan m U o ≡ o
  kept U None own = refl
  kept U (Some e) own = rw (own_may plan m U cpu e own) refl

  pub own_offered_alike : if_may plan m S (own_event plan m S cpu) ≡ if_may plan m T (own_event plan m T cpu)
  own_offered_alike = kept S (own_event plan m S cpu) refl ∙ own_alike ∙ sym (kept T (own_event plan m T cpu) refl)
