-- The nearest device of a power-managed queue is the device to which it belongs.
use Rattle.std.proofs.Common.{is_some, ◌≡◌, ◌≢◌, ℕ, true, List, Option, Some, None, unwrap_or, refl, sym, ap, subst, ◌∙◌}
use Rattle.wdf_base.specs.Resolved.{IsResolved}
use Rattle.wdf_base.specs.Plan.{declared_of}
use Rattle.wdf_base.specs.Same.{same_kind}
use Rattle.wdf_base.specs.Kinds.{declared_kind}
use Rattle.wdf_base.specs.declared.plan.Plan.{Plan}
use Rattle.wdf_base.specs.declared.object.Kind.TheVariants as kind
use Rattle.wdf_base.specs.declared.declared.Declared.{Declared}
use Rattle.wdf_base.specs.declared.declared.Declared.TheVariants as declared
use Rattle.wdf_base.specs.declared.declared.QueueInfo.{QueueInfo}
use Rattle.wdf_base.specs.declared.event.Event.{Event}
use Rattle.wdf_base.specs.Lives.{is_live}
use Rattle.wdf_model.specs.declared.entries.Node.{Node}
use Rattle.wdf_model.specs.Plans.{as_device, as_queue, queue_of}
use Rattle.wdf_model.specs.parts.Tree.{Tree, gone, kind_of, life_of, made_as, nearest_device, node_of, parent_of}
use Rattle.wdf_model.specs.State.{State, declared_in}
use Rattle.law_machine_base.specs.OverRuns.{DeclaredAgree}
use Rattle.law_machine_lives.proofs.Lists.{inside}
use Rattle.law_machine_lives.proofs.LivesOver.{Lives}
use Rattle.law_trace_families.proofs.Families.{Family}
use Rattle.wdf_laws.specs.Laws.{is_managed_of}
use Rattle.law_trace_power.proofs.Declares.{is_device, nearest_by, own_device_of}
use Rattle.law_machine_counts.proofs.StillFrames.{live_there}
use Rattle.law_trace_power.proofs.Belonging.{device_of_queue}
use Rattle.law_trace_settled.proofs.Queues.{queue_at}

-- ---- a queue belongs to a declared device

belongs : (plan : Plan) (q : ℕ) (i : QueueInfo) → IsResolved plan → declared_of plan q ≡ Some (declared.Queue i) → is_device (declared_of plan i.device.0) ≡ true
belongs plan q i resolved e = is_one (declared_of plan i.device.0) (device_of_queue plan resolved q i (ap as_queue e))
  where
    is_one : (x : Option Declared) → is_some (as_device x) ≡ true → is_device x ≡ true
    is_one (Some (declared.Device d)) h = refl
    is_one _ h = absurd (let z : ⊥ = cc in z)

-- ---- the nearest device of a queue

device_at : (x : Option Declared) → is_device x ≡ true → (d : Declared) × (x ≡ Some d) × (declared_kind d ≡ Some kind.Device)
device_at (Some (declared.Device i)) h = (declared.Device i, refl, refl)
device_at None h = absurd (let z : ⊥ = cc in z)
device_at (Some _) h = absurd (let z : ⊥ = cc in z)

is_some_device : (plan : Plan) (d : ℕ) → is_device (declared_of plan d) ≡ true → d ≢ 0
is_some_device plan d h e = let z : is_device (declared_of plan 0) ≡ true = subst (λ y. is_device (declared_of plan y) ≡ true) e h in let y : ⊥ = cc in y

pub near_queue : {A : Type 0} (plan : Plan) (es : List Event) (S : State A) (q d : ℕ) → IsResolved plan → DeclaredAgree plan S → Lives S.tree → Family plan es S.tree → is_managed_of d (queue_of plan q) ≡ true → is_live (life_of S.tree q) ≡ true
    → nearest_device S.tree q ≡ d
near_queue plan es S q d resolved agree lives family of live =
    let T : Tree = S.tree in
    let at = queue_at (declared_of plan q) d of in
    let there = family.declared q (declared.Queue at.0) at.1 (live_there (life_of T q) live) in
    let above : parent_of T q ≡ d = there.0 ∙ at.2 in
    let device : is_device (declared_of plan d) ≡ true = ap (λ y. is_device (declared_of plan y)) (sym at.2) ∙ belongs plan q at.0 resolved at.1 in
    let up : is_live (life_of T d) ≡ true = subst (λ y. is_live (life_of T y) ≡ true) above (lives.above q live (λ e. is_some_device plan d device (sym above ∙ e))) in
    let info = device_at (declared_of plan d) device in
    let kind_is : kind_of T d ≡ kind.Device = (family.declared d info.0 info.1 (live_there (life_of T d) up)).1 ∙ ap (λ k. unwrap_or k kind.General) info.2 in
    let declares : is_device (declared_in plan S d) ≡ true = ap (λ k. is_device (made_as plan (node_of T d) d k)) kind_is ∙ device in
    nearest_by T q (inside gone (λ (n : Node). is_live n.life) T.nodes q refl live) (ap (λ k. same_kind k kind.Device) there.1) (lives.older q live)
    ∙ ap (nearest_device T) above ∙ own_device_of plan S d agree (live_there (life_of T d) up) declares
