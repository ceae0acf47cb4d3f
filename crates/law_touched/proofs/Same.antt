-- Two states that are the same in a piece.
use Rattle.std.proofs.Common.{◌≡◌, ℕ, Bool, true, false, List, [], ◌∷◌, ◌++◌, Some, refl, ap, sym, ◌∙◌}
use Rattle.std.proofs.lemmas.Bool.{eqb-true}
use Rattle.std.specs.List.{list_any}
use Rattle.wdf_base.specs.declared.call.Callback.{Callback}
use Rattle.wdf_model.specs.State.{State, is_waited_for}
use Rattle.wdf_model.specs.Tables.{contains}
use Rattle.wdf_model.specs.parts.Cpus.{frame_of, irql, is_running, nobody_on, stack_of, top}
use Rattle.wdf_model.proofs.Tests.{either_false, itself}
use Rattle.law_touched.specs.Touched.{Piece, ObjectTree, Processor, TopFrame, TopWait, RunningObjects, WaitedObjects, ParkedFrames, HeldLocks, RequestTable, QueueLines, QueueControl, DevicePower, DeviceSteps, EnabledInterrupts, DpcLists, WorkQueue, TimerQueue, TargetTable, AgentStates, ClockTick, has_piece, same_piece}

-- states S and T are the same in a piece
abbrev pub Same : {A : Type 0} → Piece → State A → State A → Type 0
Same ObjectTree S T = S.tree ≡ T.tree
Same (Processor cpu) S T = (stack_of S.cpus cpu ≡ stack_of T.cpus cpu) × (irql S.cpus cpu ≡ irql T.cpus cpu)
Same (TopFrame cpu) S T = (f : ℕ) → top S.cpus cpu ≡ Some f → frame_of S.cpus f ≡ frame_of T.cpus f
Same (TopWait cpu) S T = (f : ℕ) → top S.cpus cpu ≡ Some f → (frame_of S.cpus f).pending ≡ (frame_of T.cpus f).pending
Same RunningObjects S T = ((o : ℕ) → nobody_on S.cpus o ≡ nobody_on T.cpus o) × ((c : Callback) (d : ℕ) → is_running S.cpus c d ≡ is_running T.cpus c d)
Same WaitedObjects S T = (o : ℕ) → is_waited_for S o ≡ is_waited_for T o
Same ParkedFrames S T = (S.cpus.parked ≡ T.cpus.parked) × ((f : ℕ) → contains f S.cpus.parked ≡ true → (frame_of S.cpus f).pending ≡ (frame_of T.cpus f).pending)
Same HeldLocks S T = S.locks ≡ T.locks
Same RequestTable S T = S.requests ≡ T.requests
Same QueueLines S T = S.queues ≡ T.queues
Same QueueControl S T = S.control ≡ T.control
Same DevicePower S T = S.power ≡ T.power
Same DeviceSteps S T = S.pnp ≡ T.pnp
Same EnabledInterrupts S T = S.interrupts ≡ T.interrupts
Same DpcLists S T = S.dpcs ≡ T.dpcs
Same WorkQueue S T = S.work_items ≡ T.work_items
Same TimerQueue S T = S.timers ≡ T.timers
Same TargetTable S T = S.targets ≡ T.targets
Same AgentStates S T = S.agents ≡ T.agents
Same ClockTick S T = S.clock ≡ T.clock

-- states S and T are the same in these pieces
abbrev pub Agree : {A : Type 0} → List Piece → State A → State A → Type 0
Agree pieces S T = (p : Piece) → has_piece p pieces ≡ true → Same p S T

-- ---- lists of pieces

pub piece_is : (p q : Piece) → same_piece p q ≡ true → p ≡ q
piece_is ObjectTree ObjectTree h = refl
piece_is (Processor a) (Processor b) h = ap Processor (eqb-true a b h)
piece_is (TopFrame a) (TopFrame b) h = ap TopFrame (eqb-true a b h)
piece_is (TopWait a) (TopWait b) h = ap TopWait (eqb-true a b h)
piece_is RunningObjects RunningObjects h = refl
piece_is WaitedObjects WaitedObjects h = refl
piece_is ParkedFrames ParkedFrames h = refl
piece_is HeldLocks HeldLocks h = refl
piece_is RequestTable RequestTable h = refl
piece_is QueueLines QueueLines h = refl
piece_is QueueControl QueueControl h = refl
piece_is DevicePower DevicePower h = refl
piece_is DeviceSteps DeviceSteps h = refl
piece_is EnabledInterrupts EnabledInterrupts h = refl
piece_is DpcLists DpcLists h = refl
piece_is WorkQueue WorkQueue h = refl
piece_is TimerQueue TimerQueue h = refl
piece_is TargetTable TargetTable h = refl
piece_is AgentStates AgentStates h = refl
piece_is ClockTick ClockTick h = refl
piece_is _ _ h = absurd (let z : ⊥ = cc in z)

-- where no piece of one list is in the other, a piece of the other isn't in the first
not_first : (p q : Piece) (b : Bool) (ps : List Piece) → same_piece p q ≡ b → has_piece p ps ≡ false → (b ≡ true → ⊥) → has_piece p (q ∷ ps) ≡ false
not_first p q true ps e h not_same = absurd (not_same refl)
not_first p q false ps e h not_same = rw e h

pub apart : (ps qs : List Piece) → list_any (λ p. has_piece p qs) ps ≡ false → (p : Piece) → has_piece p qs ≡ true → has_piece p ps ≡ false
apart [] qs h p is = refl
apart (q ∷ ps) qs h p is =
    let none = either_false (has_piece q qs) (list_any (λ x. has_piece x qs) ps) h in
    not_first p q (same_piece p q) ps refl (apart ps qs none.1 p is)
    (λ same. let one : p ≡ q = piece_is p q same in let there : has_piece q qs ≡ true = sym (ap (λ x. has_piece x qs) one) ∙ is in let none_there : has_piece q qs ≡ false = none.0 in let z : ⊥ = cc in z)

-- a piece of one of two lists, and of one that isn't the first
pub none_before : (p : Piece) (ps qs : List Piece) → has_piece p (ps ++ qs) ≡ false → (has_piece p ps ≡ false) × (has_piece p qs ≡ false)
none_before p [] qs h = (refl, h)
none_before p (q ∷ ps) qs h =
    let now = either_false (same_piece p q) (has_piece p (ps ++ qs)) h in
    let later = none_before p ps qs now.1 in
    (rw (now.0, later.0) refl, later.1)

-- the first piece of a group's list, which is of its processor
pub on_it : (cpu : ℕ) (ps : List Piece) → has_piece (Processor cpu) (Processor cpu ∷ ps) ≡ true
on_it cpu ps = rw (itself cpu) refl

pub top_of_it : (cpu : ℕ) (ps : List Piece) → has_piece (TopFrame cpu) (Processor cpu ∷ TopFrame cpu ∷ ps) ≡ true
top_of_it cpu ps = rw (itself cpu) refl

pub wait_of_it : (cpu : ℕ) (ps : List Piece) → has_piece (TopWait cpu) (Processor cpu ∷ TopWait cpu ∷ ps) ≡ true
wait_of_it cpu ps = rw (itself cpu) refl
