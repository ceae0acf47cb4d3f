-- In a resolved plan a target comes after its device, and names a later one: so the ids rise from a device to the one below.
use Rattle.std.proofs.Common.{◌≡◌, ℕ, zero, suc, ◌+◌, ◌==◌, nat_lt, ◌<◌, true, ◌&&◌, List, [], ◌∷◌, Option, Some, None, is_some, option_and_then, slice_get, refl, sym, ap, ◌∙◌, arith}
use Rattle.std.specs.Str.{bytes_eq}
use Rattle.std.proofs.lemmas.Bool.{eqb-true, ltb-true}
use Rattle.wdf_base.specs.Resolved.{IsResolved, in_order, objects_in_order}
use Rattle.wdf_base.specs.Plan.{declared_of}
use Rattle.wdf_base.specs.declared.plan.Plan.{Plan}
use Rattle.wdf_base.specs.declared.declared.Declared.{Declared}
use Rattle.wdf_base.specs.declared.declared.Declared.TheVariants as declared
use Rattle.wdf_model.specs.Plans.{as_target, devices_of, is_target_of, target_of, targets_of}
use Rattle.wdf_model.specs.agents.Chains.{device_named_by, is_naming, name_to, named_device, names_device, naming_target, target_name}
use Rattle.wdf_model.proofs.Tests.{both_left, both_right}
use Rattle.law_stack.proofs.Chains.{find_passes}
use Rattle.law_stack.proofs.Lines.{Rises, named_below}

-- the device of a target
abbrev device_named : Declared → Option ℕ
device_named (declared.Target t) = Some t.device.0
device_named _ = None

named_is : (x device n : ℕ) → (nat_lt 0 device && (x == device)) ≡ true → Some x ≡ Some n → device ≡ n
named_is x device n t at =
    let same : x ≡ n = cc in
    let e : x ≡ device = eqb-true x device (both_right (nat_lt 0 device) (x == device) t) in
    sym e ∙ same

earlier : (ds : List Declared) (id device k n : ℕ) → device < id → in_order id device ds ≡ true → option_and_then device_named (slice_get ds k) ≡ Some n → n < id + k
earlier [] id device k n l h at = absurd (let z : ⊥ = cc in z)
earlier (declared.Driver ∷ ds) id device k n l h at = absurd (let z : ⊥ = cc in z)
earlier (declared.OfClass c ∷ ds) id device k n l h at = absurd (let z : ⊥ = cc in z)
earlier (declared.Device d ∷ ds) id device zero n l h at = absurd (let z : ⊥ = cc in z)
earlier (declared.Device d ∷ ds) id device (suc k) n l h at =
    let rest = earlier ds (suc id) id k n (omega arith) h at in
    omega (arith, rest)
earlier (declared.Queue q ∷ ds) id device zero n l h at = absurd (let z : ⊥ = cc in z)
earlier (declared.Queue q ∷ ds) id device (suc k) n l h at =
    let rest = earlier ds (suc id) device k n (omega (arith, l)) (both_right (nat_lt 0 device && (q.device.0 == device)) (in_order (suc id) device ds) h) at in
    omega (arith, rest)
earlier (declared.Interrupt i ∷ ds) id device zero n l h at = absurd (let z : ⊥ = cc in z)
earlier (declared.Interrupt i ∷ ds) id device (suc k) n l h at =
    let rest = earlier ds (suc id) device k n (omega (arith, l)) (both_right (nat_lt 0 device && (i.device.0 == device)) (in_order (suc id) device ds) h) at in
    omega (arith, rest)
earlier (declared.Target t ∷ ds) id device zero n l h at =
    let same = named_is t.device.0 device n (both_left (nat_lt 0 device && (t.device.0 == device)) (in_order (suc id) device ds) h) at in
    omega (arith, l, same)
earlier (declared.Target t ∷ ds) id device (suc k) n l h at =
    let rest = earlier ds (suc id) device k n (omega (arith, l)) (both_right (nat_lt 0 device && (t.device.0 == device)) (in_order (suc id) device ds) h) at in
    omega (arith, rest)

earlier_all : (ds : List Declared) → objects_in_order ds ≡ true → (k n : ℕ) → option_and_then device_named (slice_get ds k) ≡ Some n → n < suc k
earlier_all (declared.Driver ∷ ds) h zero n at = absurd (let z : ⊥ = cc in z)
earlier_all (declared.Driver ∷ ds) h (suc k) n at = let it = earlier ds 2 0 k n (omega arith) h at in omega (arith, it)
earlier_all [] h k n at = absurd (let z : ⊥ = cc in z)
earlier_all (_ ∷ ds) h k n at = absurd (let z : ⊥ = cc in z)

module _ (plan : Plan) (resolved : IsResolved plan) where
  named_earlier : (o n : ℕ) → option_and_then device_named (declared_of plan o) ≡ Some n → n < o
  named_earlier zero n at = absurd (let z : ⊥ = cc in z)
  named_earlier (suc o) n at = earlier_all plan.declared resolved.in_order o n at

  is_target_by : (d t : ℕ) (x : Option Declared) → declared_of plan t ≡ x → is_target_of d (as_target x) ≡ true → d < t
  is_target_by d t (Some (declared.Target i)) e h =
      let same : i.device.0 ≡ d = eqb-true i.device.0 d h in
      let it = named_earlier t i.device.0 (ap (option_and_then device_named) e) in
      omega (arith, same, it)
  is_target_by d t None e h = absurd (let z : ⊥ = cc in z)
  is_target_by d t (Some _) e h = absurd (let z : ⊥ = cc in z)

  names_first : (t e : ℕ) → names_device plan t e ≡ true → nat_lt t e ≡ true
  names_first t e h = both_left (nat_lt t e) (bytes_eq (target_name plan t) (name_to plan e)) h

  named_later : (d e : ℕ) (o : Option ℕ) → naming_target plan d ≡ o → option_and_then (named_device plan) o ≡ Some e → d < e
  named_later d e None n h = absurd (let z : ⊥ = cc in z)
  named_later d e (Some t) n h =
      let is : is_naming plan d t ≡ true = find_passes (is_naming plan d) (targets_of plan) t n in
      let one = is_target_by d t (declared_of plan t) refl (both_left (is_target_of d (target_of plan t)) (is_some (named_device plan t)) is) in
      let names : names_device plan t e ≡ true = find_passes (names_device plan t) (devices_of plan) e h in
      let two = ltb-true t e (names_first t e names) in
      omega (arith, one, two)

  -- a device below another has the greater id
  pub rises : Rises plan
  rises d e h = named_later d e (naming_target plan d) refl (named_below plan d e (device_named_by plan d) h)
