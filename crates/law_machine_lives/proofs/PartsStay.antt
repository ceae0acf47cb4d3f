-- A deed that doesn't reach the tree, the processors or the locks leaves them as they are.
use Rattle.std.proofs.Common.{◌≡◌, Bool, true, false, refl, ◌∙◌}
use Rattle.wdf_base.specs.declared.plan.Plan.{Plan}
use Rattle.wdf_model.specs.declared.enums.Mode.TheVariants as mode
use Rattle.wdf_model.specs.Plans.{managed_queues, queues_of}
use Rattle.wdf_model.specs.parts.Queues.{waiting_in}
use Rattle.wdf_model.specs.parts.Control as control
use Rattle.wdf_model.specs.parts.Requests as requests
use Rattle.wdf_model.specs.parts.Tree.{subtree}
use Rattle.wdf_model.specs.State.{State}
use Rattle.wdf_model.specs.declared.deed.Deed.{Deed}
use Rattle.wdf_model.specs.declared.deed.Deed.TheVariants.{Arrive, AskDeletion, CleanUp, CloseDevice, CloseReturning, CompleteRequest, Create, EndLife, Forward, GiveBack, GoOn, Lower, MakeRequest, Note, ParkFrame, PopFrame, PurgeQueue, PushFrame, Raise, Refer, ReleaseLock, Requeue, SendRequest, TakeLock, UnparkFrame, Unrefer, WriteCell}
use Rattle.wdf_model.specs.rules.Deeds.{do_deed, give_up}
use Rattle.law_machine_lives.proofs.Readers.{cpus_of, locks_of, tree_of}
use Rattle.law_machine_lives.proofs.Stays.{asks_all, gives_up, gives_up_if, queues_closed, returns_closed, withdraws}
use Rattle.law_machine_counts.proofs.Arrived.{arrived_cpus, arrived_locks}

abbrev pub reaches_tree : Deed → Bool
reaches_tree (Create k class parent) = true
reaches_tree (MakeRequest class parent) = true
reaches_tree (Arrive device info p) = true
reaches_tree (AskDeletion o) = true
reaches_tree (Refer o) = true
reaches_tree (Unrefer o) = true
reaches_tree (WriteCell o k v) = true
reaches_tree (Note o c) = true
reaches_tree (CleanUp o) = true
reaches_tree (EndLife o) = true
reaches_tree (CompleteRequest r) = true
reaches_tree _ = false

pub tree_stays : {A : Type 0} (plan : Plan) (d : Deed) (S : State A) → reaches_tree d ≡ false → (do_deed plan d S).tree ≡ S.tree
tree_stays plan (Create k class parent) S h = absurd (let z : ⊥ = cc in z)
tree_stays plan (MakeRequest class parent) S h = absurd (let z : ⊥ = cc in z)
tree_stays plan (Arrive device info p) S h = absurd (let z : ⊥ = cc in z)
tree_stays plan (AskDeletion o) S h = absurd (let z : ⊥ = cc in z)
tree_stays plan (Refer o) S h = absurd (let z : ⊥ = cc in z)
tree_stays plan (Unrefer o) S h = absurd (let z : ⊥ = cc in z)
tree_stays plan (WriteCell o k v) S h = absurd (let z : ⊥ = cc in z)
tree_stays plan (Note o c) S h = absurd (let z : ⊥ = cc in z)
tree_stays plan (CleanUp o) S h = absurd (let z : ⊥ = cc in z)
tree_stays plan (EndLife o) S h = absurd (let z : ⊥ = cc in z)
tree_stays plan (CompleteRequest r) S h = absurd (let z : ⊥ = cc in z)
tree_stays plan (Requeue r q) S h = gives_up tree_of (λ S Q R P. refl) S r.0
tree_stays plan (Forward r q) S h = gives_up tree_of (λ S Q R P. refl) S r.0
tree_stays plan (GiveBack r q) S h = gives_up tree_of (λ S Q R P. refl) S r.0
tree_stays plan (SendRequest r t forget) S h = gives_up_if tree_of (λ S Q R P. refl) S forget r.0
tree_stays plan (PurgeQueue q) S h = withdraws tree_of (λ S Q R P. refl) plan q.0 (waiting_in S.queues q.0) (record S { control = control.set_mode S.control q.0 mode.Purged })
tree_stays plan (CloseReturning d) S h = returns_closed tree_of (λ S Q R P. refl) (managed_queues plan d.0) S
tree_stays plan (CloseDevice d) S h = queues_closed tree_of (λ S Q R P. refl) (queues_of plan d.0) (record S { control = control.shut S.control d.0 })
tree_stays plan _ S h = refl

abbrev pub reaches_cpus : Deed → Bool
reaches_cpus (PushFrame cpu f frame level) = true
reaches_cpus (GoOn f frame) = true
reaches_cpus (PopFrame cpu) = true
reaches_cpus (ParkFrame cpu) = true
reaches_cpus (UnparkFrame cpu f) = true
reaches_cpus (Raise f level) = true
reaches_cpus (Lower f level) = true
reaches_cpus _ = false

pub cpus_stay : {A : Type 0} (plan : Plan) (d : Deed) (S : State A) → reaches_cpus d ≡ false → (do_deed plan d S).cpus ≡ S.cpus
cpus_stay plan (PushFrame cpu f frame level) S h = absurd (let z : ⊥ = cc in z)
cpus_stay plan (GoOn f frame) S h = absurd (let z : ⊥ = cc in z)
cpus_stay plan (PopFrame cpu) S h = absurd (let z : ⊥ = cc in z)
cpus_stay plan (ParkFrame cpu) S h = absurd (let z : ⊥ = cc in z)
cpus_stay plan (UnparkFrame cpu f) S h = absurd (let z : ⊥ = cc in z)
cpus_stay plan (Raise f level) S h = absurd (let z : ⊥ = cc in z)
cpus_stay plan (Lower f level) S h = absurd (let z : ⊥ = cc in z)
cpus_stay plan (Arrive device info p) S h = arrived_cpus S device.0 info p
cpus_stay plan (AskDeletion o) S h = asks_all cpus_of (λ S T D W U. refl) (subtree S.tree o.0) S
cpus_stay plan (Requeue r q) S h = gives_up cpus_of (λ S Q R P. refl) S r.0
cpus_stay plan (Forward r q) S h = gives_up cpus_of (λ S Q R P. refl) S r.0
cpus_stay plan (GiveBack r q) S h = gives_up cpus_of (λ S Q R P. refl) S r.0
cpus_stay plan (SendRequest r t forget) S h = gives_up_if cpus_of (λ S Q R P. refl) S forget r.0
cpus_stay plan (CompleteRequest r) S h = asks_all cpus_of (λ S T D W U. refl) (subtree (give_up S r.0).tree r.0) (record (give_up S r.0) { requests = requests.complete S.requests r.0 }) ∙ gives_up cpus_of (λ S Q R P. refl) S r.0
cpus_stay plan (PurgeQueue q) S h = withdraws cpus_of (λ S Q R P. refl) plan q.0 (waiting_in S.queues q.0) (record S { control = control.set_mode S.control q.0 mode.Purged })
cpus_stay plan (CloseReturning d) S h = returns_closed cpus_of (λ S Q R P. refl) (managed_queues plan d.0) S
cpus_stay plan (CloseDevice d) S h = queues_closed cpus_of (λ S Q R P. refl) (queues_of plan d.0) (record S { control = control.shut S.control d.0 })
cpus_stay plan _ S h = refl

abbrev pub reaches_locks : Deed → Bool
reaches_locks (TakeLock l f by_call) = true
reaches_locks (ReleaseLock l) = true
reaches_locks _ = false

pub locks_stay : {A : Type 0} (plan : Plan) (d : Deed) (S : State A) → reaches_locks d ≡ false → (do_deed plan d S).locks ≡ S.locks
locks_stay plan (TakeLock l f by_call) S h = absurd (let z : ⊥ = cc in z)
locks_stay plan (ReleaseLock l) S h = absurd (let z : ⊥ = cc in z)
locks_stay plan (Arrive device info p) S h = arrived_locks S device.0 info p
locks_stay plan (AskDeletion o) S h = asks_all locks_of (λ S T D W U. refl) (subtree S.tree o.0) S
locks_stay plan (Requeue r q) S h = gives_up locks_of (λ S Q R P. refl) S r.0
locks_stay plan (Forward r q) S h = gives_up locks_of (λ S Q R P. refl) S r.0
locks_stay plan (GiveBack r q) S h = gives_up locks_of (λ S Q R P. refl) S r.0
locks_stay plan (SendRequest r t forget) S h = gives_up_if locks_of (λ S Q R P. refl) S forget r.0
locks_stay plan (CompleteRequest r) S h = asks_all locks_of (λ S T D W U. refl) (subtree (give_up S r.0).tree r.0) (record (give_up S r.0) { requests = requests.complete S.requests r.0 }) ∙ gives_up locks_of (λ S Q R P. refl) S r.0
locks_stay plan (PurgeQueue q) S h = withdraws locks_of (λ S Q R P. refl) plan q.0 (waiting_in S.queues q.0) (record S { control = control.set_mode S.control q.0 mode.Purged })
locks_stay plan (CloseReturning d) S h = returns_closed locks_of (λ S Q R P. refl) (managed_queues plan d.0) S
locks_stay plan (CloseDevice d) S h = queues_closed locks_of (λ S Q R P. refl) (queues_of plan d.0) (record S { control = control.shut S.control d.0 })
locks_stay plan _ S h = refl
