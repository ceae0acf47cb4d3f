-- What is declared is in the tables: what has a kind that only the scenario declares, what a handle of
-- the plan names, and the nearest device of each object.
use Rattle.std.proofs.Common.{if◌then◌else◌, ◌≡◌, ◌≢◌, ℕ, zero, suc, ◌+◌, ◌<◌, Bool, true, false, ◌⊎◌, inl, inr, List, [], ◌∷◌, ◌++◌, length, Option, Some, None, is_some, option_and_then, slice_get, refl, ap, ◌∙◌, arith, length-append}
use Rattle.std.proofs.lemmas.Option.{slice_get_within}
use Rattle.wdf_base.specs.declared.ids.Handle.{Handle}
use Rattle.wdf_base.specs.declared.object.Kind.{Kind}
use Rattle.wdf_base.specs.declared.object.Kind.TheVariants as kind
use Rattle.wdf_base.specs.declared.plan.Plan.{Plan}
use Rattle.wdf_base.specs.declared.declared.Declared.{Declared}
use Rattle.wdf_base.specs.Kinds.{declared_kind}
use Rattle.wdf_base.specs.Plan.{declared_of}
use Rattle.wdf_base.specs.Resolved.{IsResolved, is_handle, is_kind, objects_in_order}
use Rattle.wdf_base.specs.Same.{same_kind, same_option}
use Rattle.wdf_model.specs.declared.entries.Node.{Node}
use Rattle.wdf_model.specs.Tables.{entry}
use Rattle.wdf_model.specs.parts.Tree.{gone, kind_of, nearest_device, nearest_devices, own_device}
use Rattle.wdf_model.specs.State.{State}
use Rattle.law_machine_base.specs.OverRuns.{is_declared_kind}
use Rattle.wdf_model.proofs.Maps.{entry_before, entry_last}
use Rattle.wdf_model.proofs.Sames.{kind_decides}
use Rattle.wdf_model.proofs.Tests.{both_left}
use Rattle.wdf_model.proofs.Counts.{one_or_two}
use Rattle.wdf_model.specs.rules.Groups.{declared_end}
use Rattle.law_machine_room.proofs.Doable.{Fine}

-- ---- what is declared

-- a declared object is there
pub declared_there : (plan : Plan) (o : ℕ) → is_some (declared_of plan o) ≡ true → o < declared_end plan
declared_there plan zero h = omega arith
declared_there plan (suc o) h = found_there (slice_get plan.declared o) refl h where
  found_there : (d : Option Declared) → slice_get plan.declared o ≡ d → is_some d ≡ true → suc o < declared_end plan
  found_there None e h = absurd (let z : ⊥ = cc in z)
  found_there (Some d) e h = let within = slice_get_within plan.declared o d e in omega arith

handle_kind : (d : Option Declared) (k : Kind) → same_option same_kind (option_and_then declared_kind d) (Some k) ≡ true → is_some d ≡ true
handle_kind None k h = h
handle_kind (Some d) k h = refl

pub handle_there : (plan : Plan) (k : Kind) (h : Handle) → is_handle plan k h ≡ true → h.id.0 < declared_end plan
handle_there plan k h e = let kind_is : is_kind plan k h.id.0 ≡ true = search both_left in declared_there plan h.id.0 (handle_kind (declared_of plan h.id.0) k kind_is)

some_kind : (d : Option Declared) (x : Kind) → option_and_then declared_kind d ≡ Some x → is_some d ≡ true
some_kind None x h = absurd (let z : ⊥ = cc in z)
some_kind (Some d) x h = refl

-- ---- the nearest device

own_near : (b : Bool) (o x size : ℕ) → (b ≡ true → o < size) → x < size → (if b then o else x) < size
own_near true o x size h k = h refl
own_near false o x size h k = k

near_more : (before : List ℕ) (x size i : ℕ) → x < size → entry 1 before i < size → (i ≡ length before) ⊎ (i ≢ length before) → entry 1 (before ++ x ∷ []) i < size
near_more before x size i h k (inl e) = let it : entry 1 (before ++ x ∷ []) i ≡ x = rw e (entry_last 1 before x) in omega arith
near_more before x size i h k (inr n) = let it : entry 1 (before ++ x ∷ []) i ≡ entry 1 before i = entry_before 1 before x i n in omega arith

near_all : (size : ℕ) (before : List ℕ) (ns : List Node) → 1 < size → ((i : ℕ) → entry 1 before i < size)
    → ((i : ℕ) → same_kind (entry gone ns i).kind kind.Device ≡ true → length before + i < size) → (o : ℕ) → entry 1 (nearest_devices before ns) o < size
near_all size before [] one h d o = h o
near_all size before (n ∷ ns) one h d o =
    let x : ℕ = own_device before (length before) n in
    let own : x < size = own_near (same_kind n.kind kind.Device) (length before) (entry 1 before n.parent.0) size (λ e. let here = d 0 e in omega arith) (h n.parent.0) in
    let more = length-append before (x ∷ []) in
    near_all size (before ++ x ∷ []) ns one (λ i. near_more before x size i own (h i) (one_or_two i (length before)))
    (λ i e. let here = d (suc i) e in omega arith) o

driver_by : (ds : List Declared) → objects_in_order ds ≡ true → 1 < suc (length ds)
driver_by [] h = absurd (let z : ⊥ = cc in z)
driver_by (d ∷ ds) h = omega arith

driver_there : (plan : Plan) → IsResolved plan → 1 < declared_end plan
driver_there plan r = driver_by plan.declared r.in_order

module _ {A : Type 0} {plan : Plan} {S : State A} (k : Fine plan S) where
  pub kind_there : (o : ℕ) (x : Kind) → is_declared_kind x ≡ true → same_kind (kind_of S.tree o) x ≡ true → o < declared_end plan
  kind_there o x d h =
      let it : kind_of S.tree o ≡ x = (kind_decides (kind_of S.tree o) x).0 h in
      declared_there plan o (some_kind (declared_of plan o) (kind_of S.tree o) (k.declared.declared o (ap is_declared_kind it ∙ d)))

  -- the nearest device of an object is a declared device, or the driver object
  pub nearest_there : (o : ℕ) → nearest_device S.tree o < declared_end plan
  nearest_there o =
      near_all (declared_end plan) [] S.tree.nodes (driver_there plan k.resolved) (λ i. driver_there plan k.resolved)
      (λ i d. let there = kind_there i kind.Device refl d in omega arith) o
