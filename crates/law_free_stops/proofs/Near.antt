-- The nearest device of a queue that is there is the device to which it belongs, at each place of a free run.
use Rattle.std.proofs.Common.{◌≡◌, ℕ, zero, suc, ◌+◌, ◌==◌, ◌<◌, true, false, not, ◌&&◌, nat_lt, List, [], ◌∷◌, Some, count_by, length, slice_get, ap, subst, ◌∙◌, arith}
use Rattle.std.proofs.lemmas.Bool.{eqb-true}
use Rattle.std.proofs.lemmas.List.Sums.{length-filter}
use Rattle.std.specs.List.{range_with_len}
use Rattle.wdf_base.specs.declared.plan.Plan.{Plan}
use Rattle.wdf_base.specs.declared.object.Kind.TheVariants as kind
use Rattle.wdf_base.specs.declared.declared.Declared.{Declared}
use Rattle.wdf_base.specs.declared.declared.Declared.TheVariants as declared
use Rattle.wdf_base.specs.declared.declared.QueueInfo.{QueueInfo}
use Rattle.wdf_base.specs.Lives.{is_gone}
use Rattle.wdf_base.specs.Plan.{declared_of}
use Rattle.wdf_base.specs.Resolved.{IsResolved, in_order, objects_in_order}
use Rattle.wdf_base.specs.Same.{same_kind}
use Rattle.wdf_model.specs.Tables.{flag}
use Rattle.wdf_model.specs.Plans.{as_queue}
use Rattle.wdf_model.specs.parts.Tree.{Tree, children, is_child, kind_of, life_of, made_as, may_destroy, nearest_device, node_of, parent_of}
use Rattle.wdf_model.specs.parts.Cpus.{nobody_on}
use Rattle.wdf_model.specs.State.{State, declared_in, opening}
use Rattle.wdf_model.specs.declared.deed.Deed.{Deed}
use Rattle.wdf_model.specs.declared.deed.Deed.TheVariants.{EndLife}
use Rattle.wdf_model.specs.rules.Deeds.{do_deed}
use Rattle.law_machine_base.specs.Fits.{fits}
use Rattle.law_machine_base.specs.OverRuns.{DeclaredAgree}
use Rattle.wdf_model.proofs.Counts.{equal}
use Rattle.wdf_model.proofs.Tests.{both, both_left, both_right}
use Rattle.law_machine_lives.proofs.There.{deed_there}
use Rattle.law_trace_families.proofs.Families.{Family, declared_within, device_info}
use Rattle.law_trace_families.proofs.Stays.{Stays, WasAt, deed_stays}
use Rattle.law_trace_power.proofs.Belonging.{device_of_queue}
use Rattle.law_trace_power.proofs.Declares.{is_device, nearest_by, own_device_of}
use Rattle.law_free_runs.proofs.FreeStates.{family_after}
use Rattle.wdf_base.specs.Meaning.{Meaning}
use Rattle.law_machine_counts.proofs.Totals.{counts_it}
use Rattle.law_machine_counts.proofs.Trees.{none_not_some}
use Rattle.law_trace_families.proofs.Gone.{declared_there}

-- ---- a queue belongs to a device that is declared before it

queue_older : (id device : ℕ) (ds : List Declared) (k : ℕ) (i : QueueInfo) → in_order id device ds ≡ true → device < id → slice_get ds k ≡ Some (declared.Queue i) → i.device.0 < id + k
queue_older id device [] k i h low at = absurd (let z : ⊥ = cc in z)
queue_older id device (declared.Driver ∷ ds) k i h low at = absurd (let z : ⊥ = cc in z)
queue_older id device (declared.OfClass c ∷ ds) k i h low at = absurd (let z : ⊥ = cc in z)
queue_older id device (declared.Device x ∷ ds) zero i h low at = absurd (let z : ⊥ = cc in z)
queue_older id device (declared.Device x ∷ ds) (suc k) i h low at = let rest = queue_older (suc id) id ds k i h (omega arith) at in omega arith
queue_older id device (declared.Queue x ∷ ds) zero i h low at =
    let same : x ≡ i = cc in
    let e : x.device.0 ≡ device = eqb-true x.device.0 device (both_right (nat_lt 0 device) (x.device.0 == device) (both_left (nat_lt 0 device && (x.device.0 == device)) (in_order (suc id) device ds) h)) in
    subst (λ (y : QueueInfo). y.device.0 < id + 0) same (omega arith)
queue_older id device (declared.Queue x ∷ ds) (suc k) i h low at = let rest = queue_older (suc id) device ds k i (both_right (nat_lt 0 device && (x.device.0 == device)) (in_order (suc id) device ds) h) (omega arith) at in omega arith
queue_older id device (declared.Interrupt x ∷ ds) zero i h low at = absurd (let z : ⊥ = cc in z)
queue_older id device (declared.Interrupt x ∷ ds) (suc k) i h low at = let rest = queue_older (suc id) device ds k i (both_right (nat_lt 0 device && (x.device.0 == device)) (in_order (suc id) device ds) h) (omega arith) at in omega arith
queue_older id device (declared.Target x ∷ ds) zero i h low at = absurd (let z : ⊥ = cc in z)
queue_older id device (declared.Target x ∷ ds) (suc k) i h low at = let rest = queue_older (suc id) device ds k i (both_right (nat_lt 0 device && (x.device.0 == device)) (in_order (suc id) device ds) h) (omega arith) at in omega arith

older_in : (ds : List Declared) (k : ℕ) (i : QueueInfo) → objects_in_order ds ≡ true → slice_get ds k ≡ Some (declared.Queue i) → i.device.0 < suc k
older_in [] k i h at = absurd (let z : ⊥ = cc in z)
older_in (declared.Driver ∷ ds) zero i h at = absurd (let z : ⊥ = cc in z)
older_in (declared.Driver ∷ ds) (suc k) i h at = let rest = queue_older 2 0 ds k i h (omega arith) at in omega arith
older_in (declared.Device x ∷ ds) k i h at = absurd (let z : ⊥ = cc in z)
older_in (declared.Queue x ∷ ds) k i h at = absurd (let z : ⊥ = cc in z)
older_in (declared.Interrupt x ∷ ds) k i h at = absurd (let z : ⊥ = cc in z)
older_in (declared.Target x ∷ ds) k i h at = absurd (let z : ⊥ = cc in z)
older_in (declared.OfClass x ∷ ds) k i h at = absurd (let z : ⊥ = cc in z)

older : (plan : Plan) → IsResolved plan → (q : ℕ) (i : QueueInfo) → declared_of plan q ≡ Some (declared.Queue i) → i.device.0 < q
older plan resolved zero i at = absurd (let z : ⊥ = cc in z)
older plan resolved (suc k) i at = older_in plan.declared k i resolved.in_order at

-- ---- its device is there as long as it is

pub record Kin (plan : Plan) (T : Tree) : Type 0 where
  pub family : Family plan [] T
  pub above : (q : ℕ) (i : QueueInfo) → declared_of plan q ≡ Some (declared.Queue i) → is_gone (life_of T q) ≡ false → is_gone (life_of T i.device.0) ≡ false

-- what has a child that is there doesn't end
has_child : (T : Tree) (o x : ℕ) → may_destroy T o ≡ true → x < length T.nodes → parent_of T x ≡ o → is_gone (life_of T x) ≡ false → ⊥
has_child T o x h within parent there =
    let none : (length (children T o) == 0) ≡ true = both_right _ (length (children T o) == 0) h in
    let it : is_child T o x ≡ true = both (parent_of T x == o) (not (is_gone (life_of T x))) (equal (parent_of T x) o parent) (ap not there) in
    let counted = counts_it (is_child T o) x 0 (length T.nodes) (omega arith) (omega arith) in
    let number : length (children T o) ≡ count_by (is_child T o) (range_with_len 0 (length T.nodes)) = length-filter (is_child T o) (range_with_len 0 (length T.nodes)) in
    let one : flag (is_child T o x) ≡ 1 = ap flag it in
    none_not_some (length (children T o)) none (omega arith)

pub kin_by : {A : Type 0} (plan : Plan) (d : Deed) (S : State A) → fits plan d S ≡ true → Kin plan S.tree → Kin plan (do_deed plan d S).tree
kin_by {A} plan d S fit k = record {
  family = family_after plan S.tree (do_deed plan d S).tree stays k.family;
  above = λ q i at there.
      let w = declared_within plan q (declared.Queue i) at in let l = k.family.declared_first in
      let was : WasAt S.tree (do_deed plan d S).tree q = stays.was q (omega arith) there in
      up d fit q i at was.there;
}
  where
    stays : Stays S.tree (do_deed plan d S).tree
    stays = deed_stays plan d S fit

    up : (d : Deed) → fits plan d S ≡ true → (q : ℕ) (i : QueueInfo) → declared_of plan q ≡ Some (declared.Queue i) → is_gone (life_of S.tree q) ≡ false → is_gone (life_of (do_deed plan d S).tree i.device.0) ≡ false
    up (EndLife o) fit q i at there = (deed_there plan (EndLife o) S fit i.device.0 (λ e.
        let w = declared_within plan q (declared.Queue i) at in let l = k.family.declared_first in
        has_child S.tree o.0 q (both_left (may_destroy S.tree o.0) (nobody_on S.cpus o.0) fit) (omega arith) ((k.family.declared q (declared.Queue i) at there).0 ∙ e) there) (k.above q i at there)).there
    up d fit q i at there = (deed_there plan d S fit i.device.0 (λ e. e) (k.above q i at there)).there

-- ---- the nearest device

pub near : {A : Type 0} (plan : Plan) (S : State A) (q : ℕ) (i : QueueInfo) → IsResolved plan → DeclaredAgree plan S → Kin plan S.tree → declared_of plan q ≡ Some (declared.Queue i) → is_gone (life_of S.tree q) ≡ false → nearest_device S.tree q ≡ i.device.0
near plan S q i resolved agree k at there =
    let T : Tree = S.tree in
    let d : ℕ = i.device.0 in
    let q_is = k.family.declared q (declared.Queue i) at there in
    let up : is_gone (life_of T d) ≡ false = k.above q i at there in
    let info = device_info (declared_of plan d) (device_of_queue plan resolved q i (ap as_queue at)) in
    let kind_is : kind_of T d ≡ kind.Device = (k.family.declared d (declared.Device info.0) info.1 up).1 in
    let declares : is_device (declared_in plan S d) ≡ true = ap (λ x. is_device (made_as plan (node_of T d) d x)) kind_is ∙ ap is_device info.1 in
    let low = older plan resolved q i at in
    let w = declared_within plan q (declared.Queue i) at in let l = k.family.declared_first in
    let parent : parent_of T q ≡ d = q_is.0 in
    nearest_by T q (omega arith) (ap (λ x. same_kind x kind.Device) q_is.1) (omega arith) ∙ ap (nearest_device T) parent ∙ own_device_of plan S d agree up declares

-- ---- the opening

pub kin_opens : {A : Type 0} (plan : Plan) (m : Meaning A) → IsResolved plan → Family plan [] (opening plan m).tree → Kin plan (opening plan m).tree
kin_opens plan m resolved family = record {
  family = family;
  above = λ q i at there. let info = device_info (declared_of plan i.device.0) (device_of_queue plan resolved q i (ap as_queue at)) in declared_there plan i.device.0 (declared.Device info.0) info.1;
}
