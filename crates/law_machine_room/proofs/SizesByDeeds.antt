-- Each deed that can be done keeps the sizes of the tables: a line for each.
use Rattle.std.proofs.Common.{if◌then◌else◌, ◌≡◌, ℕ, ◌+◌, ◌<◌, Bool, true, false, List, [], ◌∷◌, ◌++◌, length, fold, drop, Option, None, unwrap_or, refl, ap, sym, subst, ◌∙◌, arith, ◌||◌, ◌&&◌}
use Rattle.std.specs.List.{All}
use Rattle.std.proofs.lemmas.List.{length-map}
use Rattle.std.proofs.lemmas.List.Elements.{All-head, All-tail}
use Rattle.wdf_base.specs.declared.plan.Plan.{Plan}
use Rattle.wdf_base.specs.declared.object.Place.{Place}
use Rattle.wdf_base.specs.declared.object.Place.TheVariants as place
use Rattle.wdf_base.specs.declared.object.RequestInfo.{RequestInfo}
use Rattle.wdf_base.specs.Lives.{is_live}
use Rattle.wdf_model.specs.declared.enums.Mode.TheVariants as mode
use Rattle.wdf_model.specs.Tables.{put, without}
use Rattle.wdf_model.specs.Plans.{agent_count, managed_queues, queues_of}
use Rattle.wdf_model.specs.parts.Tree.{life_of, next_id, subtree}
use Rattle.wdf_model.specs.parts.Cpus.{stack_of}
use Rattle.wdf_model.specs.parts.Requests.{origin_of}
use Rattle.wdf_model.specs.parts.Requests as requests
use Rattle.wdf_model.specs.parts.Queues.{is_empty_queue, waiting_in}
use Rattle.wdf_model.specs.parts.Control as control
use Rattle.wdf_model.specs.parts.Power.{Power}
use Rattle.wdf_model.specs.parts.Deferred.Dpcs.{dpcs_of}
use Rattle.wdf_model.specs.parts.Pnp.{left_after, no_sequence, sequence_of, steps_for, taken_step}
use Rattle.wdf_model.specs.parts.Targets.{new_sending, sending_in_order, target_done, the_target, without_sending}
use Rattle.wdf_model.specs.State.{State, is_with_driver}
use Rattle.wdf_model.specs.declared.deed.Deed.{Deed}
use Rattle.wdf_model.specs.declared.deed.Deed.TheVariants.{Arrive, AskDeletion, PushFrame, PopFrame, ParkFrame, UnparkFrame, Present, Receive, Requeue, Forward, GiveBack, Withdraw, SendRequest, FinishSending, ComeBack, CompleteRequest, SetMode, PurgeQueue, CloseReturning, CloseDevice, RegisterQueue, NotifyQueue, AdvancePower, AskDevice, TakeStep, EndStep, EnqueueDpc, CancelDpc, TakeDpc, StopTarget, StartTarget}
use Rattle.wdf_model.specs.rules.Deeds.{arrive_at, ask_object, close_queue, close_returning, do_deed, do_deeds, give_up, give_up_if, release_line, release_power, withdraw}
use Rattle.law_machine_base.proofs.Deletion.{object_live, object_off}
use Rattle.wdf_model.specs.rules.Room.{AreDoable, IsDoable, MayEnterIfQueued, MayGiveUp}
use Rattle.law_machine_room.specs.Kept.{SizesKept, TargetsKept}
use Rattle.wdf_model.specs.rules.Groups.{declared_end}
use Rattle.law_machine_room.proofs.Sizes.{QueuesSized, advanced_sized, as_many, cancelled_sized, control_sized, held_sized, hold_stays, mode_sized, release_stays, released_sized, shut_sized, taken_sized, takes_within, target_kept, targets_kept, waiting_sized}
use Rattle.law_machine_room.proofs.SizesOfPlans.{queues_below}

queues_sized : {A : Type 0} {plan : Plan} {S : State A} → SizesKept plan S → QueuesSized (declared_end plan) S.queues
queues_sized k = record { dispatch = k.dispatch; waiting = k.waiting; held = k.held }

-- the sizes, by the parts
sized : {A : Type 0} (plan : Plan) (S : State A) → QueuesSized (declared_end plan) S.queues → length S.control.controls ≡ declared_end plan
    → length S.power.devices ≡ declared_end plan → length S.pnp.devices ≡ declared_end plan → TargetsKept plan S.targets
    → length S.cpus.stacks ≡ plan.cpus → length S.dpcs.lists ≡ plan.cpus → length S.agents ≡ agent_count plan → SizesKept plan S
sized plan S lines controls powers sequences targets stacks lists agents = record {
  dispatch = lines.dispatch;
  waiting = lines.waiting;
  held = lines.held;
  controls = controls;
  powers = powers;
  sequences = sequences;
  targets = targets;
  stacks = stacks;
  dpcs = lists;
  agents = agents;
}

-- ---- what deeds do on the way

given_up_by : {A : Type 0} (plan : Plan) (S : State A) (b : Bool) (from : Option ℕ) (P : Power) → P.devices ≡ S.power.devices → unwrap_or from 0 < declared_end plan
    → SizesKept plan S → SizesKept plan (if b then record S { queues = release_line S.queues from; power = P } else S)
given_up_by plan S true from P e h k =
    sized plan _ (released_sized (declared_end plan) S.queues from h (queues_sized k)) k.controls (ap length e ∙ k.powers) k.sequences k.targets k.stacks k.dpcs k.agents
given_up_by plan S false from P e h k = k

given_up : {A : Type 0} (plan : Plan) (S : State A) (r : ℕ) → MayGiveUp S r → SizesKept plan S → SizesKept plan (give_up S r)
given_up plan S r may k =
    let from = may.origin in
    given_up_by plan S (is_with_driver S r) (origin_of S.requests r) (release_power S.power r) (release_stays S.power r) (omega arith) k

given_up_if : {A : Type 0} (plan : Plan) (S : State A) (forget : Bool) (r : ℕ) → MayGiveUp S r → SizesKept plan S → SizesKept plan (give_up_if forget S r)
given_up_if plan S true r may k = given_up plan S r may k
given_up_if plan S false r may k = k

asked_by : {A : Type 0} (plan : Plan) (S : State A) (x : ℕ) (b : Bool) → is_live (life_of S.tree x) ≡ b → SizesKept plan S → SizesKept plan (ask_object S x)
asked_by plan S x true e k =
    subst (λ (U : State _). SizesKept plan U) (sym (object_live S x e))
    (sized plan _ (queues_sized k) k.controls k.powers k.sequences k.targets k.stacks (length-map S.dpcs.lists (without x) ∙ k.dpcs) k.agents)
asked_by plan S x false e k = subst (λ (U : State _). SizesKept plan U) (sym (object_off S x e)) k

all_asked : {A : Type 0} (plan : Plan) (xs : List ℕ) (S : State A) → SizesKept plan S → SizesKept plan (fold ask_object S xs)
all_asked plan [] S k = k
all_asked plan (x ∷ xs) S k = all_asked plan xs (ask_object S x) (asked_by plan S x (is_live (life_of S.tree x)) refl k)

withdrawn : {A : Type 0} (plan : Plan) (q : ℕ) (S : State A) (r : ℕ) → SizesKept plan S → SizesKept plan (withdraw plan q S r)
withdrawn plan q S r k = sized plan _ (cancelled_sized (declared_end plan) S.queues r (queues_sized k)) k.controls k.powers k.sequences k.targets k.stacks k.dpcs k.agents

all_withdrawn : {A : Type 0} (plan : Plan) (q : ℕ) (rs : List ℕ) (S : State A) → SizesKept plan S → SizesKept plan (fold (withdraw plan q) S rs)
all_withdrawn plan q [] S k = k
all_withdrawn plan q (r ∷ rs) S k = all_withdrawn plan q rs (withdraw plan q S r) (withdrawn plan q S r k)

all_returning : {A : Type 0} (plan : Plan) (qs : List ℕ) (S : State A) → SizesKept plan S → SizesKept plan (fold close_returning S qs)
all_returning plan [] S k = k
all_returning plan (q ∷ qs) S k =
    all_returning plan qs (close_returning S q) (sized plan _ (queues_sized k) k.controls k.powers k.sequences k.targets k.stacks k.dpcs k.agents)

all_closed : {A : Type 0} (plan : Plan) (qs : List ℕ) (S : State A) → All (λ q. q < declared_end plan) qs → SizesKept plan S → SizesKept plan (fold close_queue S qs)
all_closed plan [] S h k = k
all_closed plan (q ∷ qs) S h k =
    all_closed plan qs (close_queue S q) (All-tail (λ x. x < declared_end plan) q qs h)
    (sized plan _ (waiting_sized (declared_end plan) S.queues q (λ _. []) (All-head (λ x. x < declared_end plan) q qs h) (queues_sized k)) k.controls k.powers k.sequences k.targets k.stacks k.dpcs k.agents)

arrived : {A : Type 0} (plan : Plan) (S : State A) (device : ℕ) (info : RequestInfo) (p : Place) → MayEnterIfQueued S p (next_id S.tree) → SizesKept plan S → SizesKept plan (arrive_at S device info p)
arrived plan S device info (place.Queued q) may k =
    let there = may.queue.dispatch in
    sized plan _ (waiting_sized (declared_end plan) S.queues q.0 (λ rs. rs ++ next_id S.tree ∷ []) (omega arith) (queues_sized k))
    (control_sized (declared_end plan) S.control q.0 (λ c. record c { due = c.due || (c.registered && is_empty_queue S.queues q.0) }) (omega arith) k.controls) k.powers k.sequences k.targets k.stacks k.dpcs k.agents
arrived plan S device info _ may k = sized plan _ (queues_sized k) k.controls k.powers k.sequences k.targets k.stacks k.dpcs k.agents

stacked : {A : Type 0} (plan : Plan) (S : State A) (cpu : ℕ) (fs : List ℕ) → cpu < length S.cpus.stacks → SizesKept plan S → length (put [] S.cpus.stacks cpu fs) ≡ plan.cpus
stacked plan S cpu fs h k = as_many [] S.cpus.stacks cpu fs plan.cpus (omega arith) k.stacks

-- ---- each deed

pub deed_sizes : {A : Type 0} (plan : Plan) (d : Deed) (S : State A) → IsDoable plan d S → SizesKept plan S → SizesKept plan (do_deed plan d S)
deed_sizes plan (Arrive device info p) S d k = arrived plan S device.0 info p d.2 k
deed_sizes plan (AskDeletion o) S d k = all_asked plan (subtree S.tree o.0) S k
deed_sizes plan (PushFrame cpu f frame level) S d k =
    sized plan _ (queues_sized k) k.controls k.powers k.sequences k.targets (stacked plan S cpu.0 (f.0 ∷ stack_of S.cpus cpu.0) d.0 k) k.dpcs k.agents
deed_sizes plan (PopFrame cpu) S d k =
    sized plan _ (queues_sized k) k.controls k.powers k.sequences k.targets (stacked plan S cpu.0 (drop 1 (stack_of S.cpus cpu.0)) d.0 k) k.dpcs k.agents
deed_sizes plan (ParkFrame cpu) S d k =
    sized plan _ (queues_sized k) k.controls k.powers k.sequences k.targets (stacked plan S cpu.0 (drop 1 (stack_of S.cpus cpu.0)) d k) k.dpcs k.agents
deed_sizes plan (UnparkFrame cpu f) S d k =
    sized plan _ (queues_sized k) k.controls k.powers k.sequences k.targets (stacked plan S cpu.0 (f.0 ∷ stack_of S.cpus cpu.0) d.0 k) k.dpcs k.agents
deed_sizes plan (Present q r) S d k =
    let there = d.1.queue in
    sized plan _ (taken_sized (declared_end plan) S.queues q.0 (omega arith) (queues_sized k)) k.controls (ap length (hold_stays plan S.power r.0 q.0) ∙ k.powers) k.sequences k.targets k.stacks k.dpcs k.agents
deed_sizes plan (Receive q r) S d k =
    let there = d.queue in
    sized plan _ (held_sized (declared_end plan) S.queues q.0 (λ n. n + 1) (omega arith) (queues_sized k)) k.controls (ap length (hold_stays plan S.power r.0 q.0) ∙ k.powers) k.sequences k.targets k.stacks k.dpcs k.agents
deed_sizes plan (Requeue r q) S d k =
    let there = d.1.queue.dispatch in
    let g = given_up plan S r.0 d.0 k in
    sized plan _ (waiting_sized (declared_end plan) (give_up S r.0).queues q.0 (λ rs. r.0 ∷ rs) (omega arith) (queues_sized g))
    (control_sized (declared_end plan) (give_up S r.0).control q.0 (λ c. record c { due = c.due || (c.registered && is_empty_queue (give_up S r.0).queues q.0) }) (omega arith) g.controls) g.powers g.sequences g.targets g.stacks g.dpcs g.agents
deed_sizes plan (Forward r q) S d k =
    let there = d.1.queue.dispatch in
    let g = given_up plan S r.0 d.0 k in
    sized plan _ (waiting_sized (declared_end plan) (give_up S r.0).queues q.0 (λ rs. rs ++ r.0 ∷ []) (omega arith) (queues_sized g))
    (control_sized (declared_end plan) (give_up S r.0).control q.0 (λ c. record c { due = c.due || (c.registered && is_empty_queue (give_up S r.0).queues q.0) }) (omega arith) g.controls) g.powers g.sequences g.targets g.stacks g.dpcs g.agents
deed_sizes plan (GiveBack r q) S d k =
    let g = given_up plan S r.0 d k in
    sized plan _ (queues_sized g) g.controls g.powers g.sequences g.targets g.stacks g.dpcs g.agents
deed_sizes plan (Withdraw q r) S d k = withdrawn plan q.0 S r.0 k
deed_sizes plan (SendRequest r t forget) S d k =
    let g = given_up_if plan S forget r.0 d.0 k in
    let there = takes_within S.targets t.0 d.1 in
    let many = k.targets.many in
    sized plan _ (queues_sized g) g.controls g.powers g.sequences
    (target_kept plan S.targets t.0 (record (the_target S.targets t.0) { sent = sending_in_order (new_sending r.0 forget) (the_target S.targets t.0).sent }) (omega arith) refl k.targets)
    g.stacks g.dpcs g.agents
deed_sizes plan (FinishSending r s) S d k =
    sized plan _ (queues_sized k) k.controls k.powers k.sequences (targets_kept plan S.targets (target_done r.0 s) refl (λ x. refl) k.targets) k.stacks k.dpcs k.agents
deed_sizes plan (ComeBack r) S d k =
    sized plan _ (queues_sized k) k.controls k.powers k.sequences (targets_kept plan S.targets (without_sending r.0) refl (λ x. refl) k.targets) k.stacks k.dpcs k.agents
deed_sizes plan (CompleteRequest r) S d k =
    let g = given_up plan S r.0 d k in
    all_asked plan (subtree (give_up S r.0).tree r.0) (record (give_up S r.0) { requests = requests.complete S.requests r.0 })
    (sized plan _ (queues_sized g) g.controls g.powers g.sequences g.targets g.stacks g.dpcs g.agents)
deed_sizes plan (SetMode q m) S d k =
    sized plan _ (queues_sized k) (mode_sized (declared_end plan) S.control q.0 m (omega arith) k.controls) k.powers k.sequences k.targets k.stacks k.dpcs k.agents
deed_sizes plan (PurgeQueue q) S d k =
    let there = d.queue.control in
    all_withdrawn plan q.0 (waiting_in S.queues q.0) (record S { control = control.set_mode S.control q.0 mode.Purged })
    (sized plan _ (queues_sized k) (mode_sized (declared_end plan) S.control q.0 mode.Purged (omega arith) k.controls) k.powers k.sequences k.targets k.stacks k.dpcs k.agents)
deed_sizes plan (CloseReturning x) S d k = all_returning plan (managed_queues plan x.0) S k
deed_sizes plan (CloseDevice x) S d k =
    all_closed plan (queues_of plan x.0) (record S { control = control.shut S.control x.0 }) (queues_below plan x.0)
    (sized plan _ (queues_sized k) (shut_sized (declared_end plan) S.control x.0 k.controls) k.powers k.sequences k.targets k.stacks k.dpcs k.agents)
deed_sizes plan (RegisterQueue q on) S d k =
    sized plan _ (queues_sized k) (control_sized (declared_end plan) S.control q.0 (λ c. record c { registered = on }) (omega arith) k.controls) k.powers k.sequences k.targets k.stacks k.dpcs k.agents
deed_sizes plan (NotifyQueue q) S d k =
    sized plan _ (queues_sized k) (control_sized (declared_end plan) S.control q.0 (λ c. record c { due = false }) (omega arith) k.controls) k.powers k.sequences k.targets k.stacks k.dpcs k.agents
deed_sizes plan (AdvancePower x s) S d k =
    sized plan _ (queues_sized k) k.controls (advanced_sized (declared_end plan) S.power x.0 s (omega arith) k.powers) k.sequences k.targets k.stacks k.dpcs k.agents
deed_sizes plan (AskDevice x a) S d k =
    sized plan _ (queues_sized k) k.controls k.powers
    (as_many no_sequence S.pnp.devices x.0 (record (sequence_of S.pnp x.0) { left = steps_for (sequence_of S.pnp x.0).steps (sequence_of S.pnp x.0).ever_working (sequence_of S.pnp x.0).phase a }) (declared_end plan) (omega arith) k.sequences)
    k.targets k.stacks k.dpcs k.agents
deed_sizes plan (TakeStep x) S d k =
    sized plan _ (queues_sized k) k.controls k.powers (as_many no_sequence S.pnp.devices x.0 (taken_step (sequence_of S.pnp x.0)) (declared_end plan) (omega arith) k.sequences) k.targets k.stacks k.dpcs k.agents
deed_sizes plan (EndStep x s result) S d k =
    sized plan _ (queues_sized k) k.controls k.powers
    (as_many no_sequence S.pnp.devices x.0 (record (sequence_of S.pnp x.0) { left = left_after (sequence_of S.pnp x.0) s result; running = None }) (declared_end plan) (omega arith) k.sequences)
    k.targets k.stacks k.dpcs k.agents
deed_sizes plan (EnqueueDpc cpu o) S d k =
    let there : cpu.0 < length S.dpcs.lists = d.0 in
    sized plan _ (queues_sized k) k.controls k.powers k.sequences k.targets k.stacks (as_many [] S.dpcs.lists cpu.0 (dpcs_of S.dpcs cpu.0 ++ o.0 ∷ []) plan.cpus (omega arith) k.dpcs) k.agents
deed_sizes plan (CancelDpc o) S d k =
    sized plan _ (queues_sized k) k.controls k.powers k.sequences k.targets k.stacks (length-map S.dpcs.lists (without o.0) ∙ k.dpcs) k.agents
deed_sizes plan (TakeDpc cpu) S d k =
    sized plan _ (queues_sized k) k.controls k.powers k.sequences k.targets k.stacks (as_many [] S.dpcs.lists cpu.0 (drop 1 (dpcs_of S.dpcs cpu.0)) plan.cpus (omega arith) k.dpcs) k.agents
deed_sizes plan (StopTarget t) S d k =
    let many = k.targets.many in
    sized plan _ (queues_sized k) k.controls k.powers k.sequences (target_kept plan S.targets t.0 (record (the_target S.targets t.0) { stopped = true }) (omega arith) refl k.targets) k.stacks k.dpcs k.agents
deed_sizes plan (StartTarget t) S d k =
    let many = k.targets.many in
    sized plan _ (queues_sized k) k.controls k.powers k.sequences (target_kept plan S.targets t.0 (record (the_target S.targets t.0) { stopped = false }) (omega arith) refl k.targets) k.stacks k.dpcs k.agents
deed_sizes plan _ S d k = sized plan _ (queues_sized k) k.controls k.powers k.sequences k.targets k.stacks k.dpcs k.agents

pub deeds_sizes : {A : Type 0} (plan : Plan) (ds : List Deed) (S : State A) → AreDoable plan ds S → SizesKept plan S → SizesKept plan (do_deeds plan ds S)
deeds_sizes plan [] S d k = k
deeds_sizes plan (e ∷ ds) S d k = deeds_sizes plan ds (do_deed plan e S) d.1 (deed_sizes plan e S d.0 k)
