-- What a resolved plan says of the callbacks, the steps and the interrupts of devices.
use Rattle.std.proofs.Common.{if◌then◌else◌, ◌≡◌, ℕ, zero, suc, ◌+◌, ◌==◌, ◌<◌, ◌≤◌, Bool, true, false, not, ◌&&◌, ◌||◌, List, [], ◌∷◌, ◌++◌, length, filter, map, position, count_by, slice_get, inl, inr, Option, Some, None, is_some, option_and_then, option_map, refl, sym, ap, subst, ◌∙◌, arith, length-append}
use Rattle.std.specs.List.{list_all, list_any, range_with_len}
use Rattle.std.proofs.lemmas.Bool.{eqb-true}
use Rattle.std.proofs.lemmas.List.Quantifiers.{position-Some}
use Rattle.std.proofs.Math.Bool.{or-false}
use Rattle.wdf_base.specs.declared.plan.Plan.{Plan}
use Rattle.wdf_base.specs.declared.object.Kind.{Kind}
use Rattle.wdf_base.specs.declared.object.Kind.TheVariants as kind
use Rattle.wdf_base.specs.declared.call.Callback.{Callback}
use Rattle.wdf_base.specs.declared.call.Callback.TheVariants as callback
use Rattle.wdf_base.specs.declared.declared.Declared.{Declared}
use Rattle.wdf_base.specs.declared.declared.Declared.TheVariants as declared
use Rattle.wdf_base.specs.declared.declared.InterruptInfo.{InterruptInfo}
use Rattle.wdf_base.specs.declared.declared.ClassInfo.{ClassInfo}
use Rattle.wdf_base.specs.declared.declared.ClassInfo.TheVariants as class
use Rattle.wdf_base.specs.declared.declared.PlainKind.TheVariants as plain
use Rattle.wdf_base.specs.declared.declared.DeferredKind.TheVariants as deferred
use Rattle.wdf_base.specs.declared.rank.Owner.TheVariants as owner
use Rattle.wdf_base.specs.declared.script.Script.{Script}
use Rattle.wdf_base.specs.Callbacks.{row_of}
use Rattle.wdf_base.specs.Kinds.{class_kind, declared_kind}
use Rattle.wdf_base.specs.Plan.{declared_of, is_script_of, script_of}
use Rattle.wdf_base.specs.Resolved.{IsResolved, declared_fits, is_from, is_working, owner_fits, script_fits}
use Rattle.wdf_base.specs.Same.{same_callback, same_kind, same_option}
use Rattle.wdf_base.specs.SamePlan.{same_declared}
use Rattle.wdf_base.specs.Lives.{is_gone}
use Rattle.wdf_model.specs.Tables.{entry, flag}
use Rattle.wdf_model.specs.Plans.{as_interrupt, declared_ids, declares, interrupt_of, is_interrupt_of, script_on}
use Rattle.wdf_model.specs.parts.Pnp.{DEVICE_CALLBACKS, InterruptSteps, device_steps, interrupt_steps}
use Rattle.wdf_model.specs.declared.entries.Node.{Node}
use Rattle.wdf_model.specs.parts.Tree.{Tree, gone, kind_of, life_of, made_as, nearest_device, nearest_devices, node_of, own_device, parent_of}
use Rattle.wdf_model.specs.State.{State, declared_in}
use Rattle.law_machine_base.specs.OverRuns.{DeclaredAgree, is_declared_kind}
use Rattle.wdf_model.proofs.Maps.{entry_before, entry_last}
use Rattle.wdf_model.proofs.Counts.{count_cons, equal, not_equal, one_or_two}
use Rattle.wdf_model.proofs.Sames.{callback_decides}
use Rattle.wdf_model.proofs.Tests.{both_left, both_right, not_true}
use Rattle.law_machine_lives.proofs.LevelCalls.{all_fit_at}
use Rattle.law_machine_counts.proofs.Nearest.{front_stays}

-- ---- callbacks of devices

abbrev pub is_device : Option Declared → Bool
is_device (Some (declared.Device d)) = true
is_device _ = false

-- the callbacks by which a device is entered and left
abbrev pub is_power_callback : Callback → Bool
is_power_callback callback.EvtDeviceD0Entry = true
is_power_callback callback.EvtDeviceD0Exit = true
is_power_callback _ = false

owner_is : (c : Callback) → is_power_callback c ≡ true → (row_of c).owner ≡ owner.Of kind.Device
owner_is callback.EvtDeviceD0Entry h = refl
owner_is callback.EvtDeviceD0Exit h = refl
owner_is _ h = absurd (let z : ⊥ = cc in z)

no_class : (c : ClassInfo) → same_kind (class_kind c) kind.Device ≡ false
no_class (class.Plain name plain.Object) = refl
no_class (class.Deferred name deferred.Dpc parent serialize period) = refl
no_class _ = refl

class_unlike : (o : Option ClassInfo) → same_option same_kind (option_map class_kind o) (Some kind.Device) ≡ true → ⊥
class_unlike None h = let z : ⊥ = cc in z
class_unlike (Some c) h = let off = no_class c in let z : ⊥ = cc in z

owns_device : (plan : Plan) (x y : Declared) → same_declared x y ≡ true → owner_fits plan (owner.Of kind.Device) x ≡ true → is_device (Some y) ≡ true
owns_device plan (declared.Device a) (declared.Device b) h k = refl
owns_device plan (declared.Device a) _ h k = absurd (let z : ⊥ = cc in z)
owns_device plan (declared.OfClass c) y h k = absurd (class_unlike (slice_get plan.classes c) k)
owns_device plan _ y h k = absurd (let z : ⊥ = cc in z)

owned_by : (plan : Plan) (c : Callback) (x : Declared) (ss : List Script) (found : Option ℕ) → is_power_callback c ≡ true → list_all (script_fits plan) ss ≡ true → position (is_script_of c x) ss ≡ found → is_some found ≡ true → is_device (Some x) ≡ true
owned_by plan c x ss None power fits at h = absurd (let z : ⊥ = cc in z)
owned_by plan c x [] (Some i) power fits at h = absurd (let z : ⊥ = cc in z)
owned_by plan c x (t ∷ ts) (Some i) power fits at h =
    let p = position-Some (is_script_of c x) (t ∷ ts) i t at in
    let s : Script = entry t (t ∷ ts) i in
    let it : (same_callback s.callback c && same_declared s.owner x) ≡ true = p.1 in
    let fit : script_fits plan s ≡ true = all_fit_at (script_fits plan) t (t ∷ ts) i fits p.0 in
    let same : s.callback ≡ c = (callback_decides s.callback c).0 (both_left (same_callback s.callback c) (same_declared s.owner x) it) in
    let own : owner_fits plan (row_of s.callback).owner s.owner ≡ true = both_left (owner_fits plan (row_of s.callback).owner s.owner) _ fit in
    owns_device plan s.owner x (both_right (same_callback s.callback c) (same_declared s.owner x) it)
    (subst (λ y. owner_fits plan y s.owner ≡ true) (owner_is c power) (subst (λ y. owner_fits plan (row_of y).owner s.owner ≡ true) same own))

-- what declares such a callback is a device
pub declares_device : (plan : Plan) (c : Callback) (x : Option Declared) → IsResolved plan → is_power_callback c ≡ true → is_some (script_on plan c x) ≡ true → is_device x ≡ true
declares_device plan c None resolved power h = absurd (let z : ⊥ = cc in z)
declares_device plan c (Some x) resolved power h = owned_by plan c x plan.scripts (script_of plan c x) power resolved.scripts_fit refl h

-- ---- steps

any_kept_by : {T : Type 0} (p q : T → Bool) (x : T) (xs : List T) (b : Bool) → q x ≡ b → list_any p (filter q xs) ≡ list_any (λ y. p y && q y) xs → list_any p (if b then x ∷ filter q xs else filter q xs) ≡ ((p x && b) || list_any (λ y. p y && q y) xs)
any_kept_by p q x xs true e h = by_test (p x)
  where
    by_test : (b : Bool) → (b || list_any p (filter q xs)) ≡ ((b && true) || list_any (λ y. p y && q y) xs)
    by_test true = refl
    by_test false = h
any_kept_by p q x xs false e h = by_test (p x)
  where
    by_test : (b : Bool) → list_any p (filter q xs) ≡ ((b && false) || list_any (λ y. p y && q y) xs)
    by_test true = h
    by_test false = h

any_kept : {T : Type 0} (p q : T → Bool) (xs : List T) → list_any p (filter q xs) ≡ list_any (λ y. p y && q y) xs
any_kept p q [] = refl
any_kept p q (x ∷ xs) = any_kept_by p q x xs (q x) refl (any_kept p q xs)

-- a device runs EvtDeviceD0Entry exactly where it declares it
pub entry_declared : (plan : Plan) (d : ℕ) → list_any (same_callback callback.EvtDeviceD0Entry) (device_steps plan d).callbacks ≡ declares plan callback.EvtDeviceD0Entry d
entry_declared plan d = any_kept (same_callback callback.EvtDeviceD0Entry) (λ c. declares plan c d) DEVICE_CALLBACKS ∙ or-false (declares plan callback.EvtDeviceD0Entry d)

-- ---- interrupts

and_no : (b : Bool) → flag (b && false) ≡ 0
and_no true = refl
and_no false = refl

and_one : (b : Bool) → flag (b && true) ≡ flag b
and_one true = refl
and_one false = refl

module _ (plan : Plan) (d i : ℕ) where
  abbrev is_it : InterruptSteps → Bool
  is_it x = x.interrupt.id.0 == i

  abbrev belongs : ℕ → Bool
  belongs x = is_interrupt_of d (interrupt_of plan x)

  counted_one : (x : ℕ) (xs : List ℕ) (b : Bool) → belongs x ≡ b → count_by is_it (map (interrupt_steps plan) (if b then x ∷ filter belongs xs else filter belongs xs)) ≡ flag (b && (x == i)) + count_by is_it (map (interrupt_steps plan) (filter belongs xs))
  counted_one x xs true e = count_cons is_it (interrupt_steps plan x) (map (interrupt_steps plan) (filter belongs xs))
  counted_one x xs false e = omega arith

  -- before a number that is past it
  none_past : (a n : ℕ) → i < a → count_by is_it (map (interrupt_steps plan) (filter belongs (range_with_len a n))) ≡ 0
  none_past a zero h = refl
  none_past a (suc n) h =
      let e = counted_one a (range_with_len (a + 1) n) (belongs a) refl in
      let more = none_past (a + 1) n (omega arith) in
      let off : flag (belongs a && (a == i)) ≡ 0 = ap (λ b. flag (belongs a && b)) (not_equal a i (λ s. let z : ⊥ = omega arith in z)) ∙ and_no (belongs a) in
      omega arith

  one_within : (a n : ℕ) → a ≤ i → i < a + n → count_by is_it (map (interrupt_steps plan) (filter belongs (range_with_len a n))) ≡ flag (belongs i)
  one_within a zero h k = absurd (omega arith)
  one_within a (suc n) h k = elim (one_or_two i a) [
    | inl e ↦
        let c = counted_one a (range_with_len (a + 1) n) (belongs a) refl in
        let more = none_past (a + 1) n (omega arith) in
        let is : flag (belongs a && (a == i)) ≡ flag (belongs i) = ap (λ b. flag (belongs a && b)) (equal a i (sym e)) ∙ and_one (belongs a) ∙ ap (λ x. flag (belongs x)) (sym e) in
        omega arith
    | inr e ↦
        let c = counted_one a (range_with_len (a + 1) n) (belongs a) refl in
        let more = one_within (a + 1) n (omega arith) (omega arith) in
        let off : flag (belongs a && (a == i)) ≡ 0 = ap (λ b. flag (belongs a && b)) (not_equal a i (λ s. e (sym s))) ∙ and_no (belongs a) in
        omega arith
  ]

  none_of : (xs : List ℕ) → belongs i ≡ false → count_by is_it (map (interrupt_steps plan) (filter belongs xs)) ≡ 0
  none_of [] h = refl
  none_of (x ∷ xs) h =
      let c = counted_one x xs (belongs x) refl in
      let more = none_of xs h in
      let off : flag (belongs x && (x == i)) ≡ 0 = never (x == i) refl in
      omega arith
    where
      never : (b : Bool) → (x == i) ≡ b → flag (belongs x && b) ≡ 0
      never true e = ap (λ y. flag (belongs y && true)) (eqb-true x i e) ∙ ap (λ b. flag (b && true)) h
      never false e = and_no (belongs x)

  within_plan : (x n : ℕ) → is_some (slice_get plan.declared x) ≡ true → x < length plan.declared
  within_plan x n h = inside plan.declared x h
    where
      inside : (ds : List Declared) (x : ℕ) → is_some (slice_get ds x) ≡ true → x < length ds
      inside [] x h = absurd (let z : ⊥ = cc in z)
      inside (d ∷ ds) zero h = omega arith
      inside (d ∷ ds) (suc x) h = let more = inside ds x h in omega arith

  there : (x : ℕ) → is_interrupt_of d (interrupt_of plan x) ≡ true → x < suc (length plan.declared)
  there zero h = omega arith
  there (suc x) h = let more = within_plan x 0 (is_there (slice_get plan.declared x) h) in omega arith
    where
      is_there : (o : Option Declared) → is_interrupt_of d (as_interrupt o) ≡ true → is_some o ≡ true
      is_there None h = absurd (let z : ⊥ = cc in z)
      is_there (Some y) h = refl

  pub once_by : (b : Bool) → belongs i ≡ b → count_by is_it (device_steps plan d).interrupts ≡ flag b
  once_by true e = let w = there i e in one_within 0 (suc (length plan.declared)) (omega arith) (omega arith) ∙ ap flag e
  once_by false e = none_of (declared_ids plan) e

-- ---- devices

-- a device that works at the opening has no interrupt
working_at : (plan : Plan) (ds : List Declared) (x : ℕ) (i : InterruptInfo) → list_all (declared_fits plan) ds ≡ true → slice_get ds x ≡ Some (declared.Interrupt i) → is_working (declared_of plan i.device.0) ≡ false
working_at plan [] x i h at = absurd (let z : ⊥ = cc in z)
working_at plan (d ∷ ds) zero i h at =
    let same : d ≡ declared.Interrupt i = cc in
    let fit : declared_fits plan (declared.Interrupt i) ≡ true = subst (λ y. declared_fits plan y ≡ true) same (both_left (declared_fits plan d) (list_all (declared_fits plan) ds) h) in
    not_true (is_working (declared_of plan i.device.0)) (both_right ((i.level.0 == 0) || is_from 3 12 i.level.0) (not (is_working (declared_of plan i.device.0))) fit)
working_at plan (d ∷ ds) (suc x) i h at = working_at plan ds x i (both_right (declared_fits plan d) (list_all (declared_fits plan) ds) h) at

works_by : (plan : Plan) (d : ℕ) (x : ℕ) (o : Option Declared) → IsResolved plan → slice_get plan.declared x ≡ o → is_interrupt_of d (as_interrupt o) ≡ true → is_working (declared_of plan d) ≡ false
works_by plan d x (Some (declared.Interrupt i)) resolved at h = subst (λ y. is_working (declared_of plan y) ≡ false) (eqb-true i.device.0 d h) (working_at plan plan.declared x i resolved.declared_fit at)
works_by plan d x None resolved at h = absurd (let z : ⊥ = cc in z)
works_by plan d x (Some _) resolved at h = absurd (let z : ⊥ = cc in z)

pub no_working : (plan : Plan) (d i : ℕ) → IsResolved plan → is_interrupt_of d (interrupt_of plan i) ≡ true → is_working (declared_of plan d) ≡ false
no_working plan d zero resolved h = absurd (let z : ⊥ = cc in z)
no_working plan d (suc i) resolved h = works_by plan d i (slice_get plan.declared i) resolved refl h

-- a device is its own nearest device
own_at : (before : List ℕ) (ns : List Node) (k : ℕ) → k < length ns → same_kind (entry gone ns k).kind kind.Device ≡ true → entry 1 (nearest_devices before ns) (length before + k) ≡ length before + k
own_at before [] k h d = absurd (omega arith)
own_at before (n ∷ ns) zero h d =
    let x : ℕ = own_device before (length before) n in
    let own : x ≡ length before = ap (λ b. if b then length before else entry 1 before n.parent.0) d in
    let more = length-append before (x ∷ []) in
    let start : length before + 0 ≡ length before = omega arith in
    rw start (front_stays (before ++ x ∷ []) ns (length before) (omega arith) ∙ entry_last 1 before x ∙ own)
own_at before (n ∷ ns) (suc k) h d =
    let x : ℕ = own_device before (length before) n in
    let more = length-append before (x ∷ []) in
    let e : length before + suc k ≡ length (before ++ x ∷ []) + k = omega arith in
    rw e (own_at (before ++ x ∷ []) ns k (omega arith) d)

own_in : (T : Tree) (o : ℕ) → o < length T.nodes → same_kind (kind_of T o) kind.Device ≡ true → nearest_device T o ≡ o
own_in T o h d = let start : 0 + o ≡ o = omega arith in rw start at (own_at [] T.nodes o h d)

-- what is a device in the plan is one in the tree
unlike : (plan : Plan) (o : ℕ) (k : Kind) (x : Option Declared) → same_kind k kind.Device ≡ false → option_and_then declared_kind x ≡ Some k → is_device x ≡ true → ⊥
unlike plan o k (Some (declared.Device d)) off h is = let same : kind.Device ≡ k = cc in let yes : same_kind k kind.Device ≡ true = subst (λ y. same_kind y kind.Device ≡ true) same refl in let z : ⊥ = cc in z
unlike plan o k _ off h is = let z : ⊥ = cc in z

device_kind : (plan : Plan) (n : Node) (o : ℕ) (k : Kind) → (is_declared_kind k ≡ true → option_and_then declared_kind (declared_of plan o) ≡ Some k) → is_device (made_as plan n o k) ≡ true → same_kind k kind.Device ≡ true
device_kind plan n o kind.Device h d = refl
device_kind plan n o kind.Driver h d = absurd (unlike plan o kind.Driver (declared_of plan o) refl (h refl) d)
device_kind plan n o kind.Queue h d = absurd (unlike plan o kind.Queue (declared_of plan o) refl (h refl) d)
device_kind plan n o kind.Interrupt h d = absurd (unlike plan o kind.Interrupt (declared_of plan o) refl (h refl) d)
device_kind plan n o kind.Target h d = absurd (unlike plan o kind.Target (declared_of plan o) refl (h refl) d)
device_kind plan n o _ h d = absurd (let z : ⊥ = cc in z)

pub own_device_of : {A : Type 0} (plan : Plan) (S : State A) (o : ℕ) → DeclaredAgree plan S → is_gone (life_of S.tree o) ≡ false → is_device (declared_in plan S o) ≡ true → nearest_device S.tree o ≡ o
own_device_of plan S o agree lives d =
    let k : same_kind (kind_of S.tree o) kind.Device ≡ true = device_kind plan (node_of S.tree o) o (kind_of S.tree o) (agree.declared o) d in
    own_in S.tree o (within (λ (n : Node). not (is_gone n.life)) S.tree.nodes o refl (ap not lives)) k
  where
    within : (p : Node → Bool) (ns : List Node) (o : ℕ) → p gone ≡ false → p (entry gone ns o) ≡ true → o < length ns
    within p [] o off h = absurd (let z : ⊥ = cc in z)
    within p (n ∷ ns) zero off h = omega arith
    within p (n ∷ ns) (suc o) off h = let rest : o < length ns = within p ns o off h in omega arith

pub by_parent : (before : List ℕ) (ns : List Node) (k : ℕ) → k < length ns → same_kind (entry gone ns k).kind kind.Device ≡ false → (entry gone ns k).parent.0 < length before + k
    → entry 1 (nearest_devices before ns) (length before + k) ≡ entry 1 (nearest_devices before ns) (entry gone ns k).parent.0
by_parent before [] k h off older = absurd (omega arith)
by_parent before (n ∷ ns) zero h off older =
    let x : ℕ = own_device before (length before) n in
    let own : x ≡ entry 1 before n.parent.0 = ap (λ b. if b then length before else entry 1 before n.parent.0) off in
    let more = length-append before (x ∷ []) in
    let start : length before + 0 ≡ length before = omega arith in
    let above : n.parent.0 < length before = omega arith in
    rw start
    (front_stays (before ++ x ∷ []) ns (length before) (omega arith) ∙ entry_last 1 before x ∙ own
    ∙ sym (front_stays (before ++ x ∷ []) ns n.parent.0 (omega arith) ∙ entry_before 1 before x n.parent.0 (λ e. let z : ⊥ = omega arith in z)))
by_parent before (n ∷ ns) (suc k) h off older =
    let x : ℕ = own_device before (length before) n in
    let more = length-append before (x ∷ []) in
    let e : length before + suc k ≡ length (before ++ x ∷ []) + k = omega arith in
    rw e (by_parent (before ++ x ∷ []) ns k (omega arith) off (omega arith))

pub nearest_by : (T : Tree) (o : ℕ) → o < length T.nodes → same_kind (kind_of T o) kind.Device ≡ false → parent_of T o < o → nearest_device T o ≡ nearest_device T (parent_of T o)
nearest_by T o h off older = let start : 0 + o ≡ o = omega arith in rw start at (by_parent [] T.nodes o h off (omega arith))
