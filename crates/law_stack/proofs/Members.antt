-- The devices of a plan are those that are declared as devices.
use Rattle.std.proofs.Common.{◌≡◌, ℕ, zero, suc, ◌+◌, ◌==◌, ◌<◌, ◌≤◌, Bool, true, false, ◌||◌, ◌&&◌, length, Option, Some, None, is_some, option_and_then, refl, sym, ap, ◌∙◌, ◌≢◌, arith}
use Rattle.std.specs.List.{list_any, range_with_len}
use Rattle.std.proofs.lemmas.Bool.{eqb-true}
use Rattle.std.proofs.lemmas.Map.Views.{any-filter_same}
use Rattle.std.proofs.lemmas.Option.{slice_get_within}
use Rattle.wdf_base.specs.Kinds.{declared_kind, declared_name}
use Rattle.wdf_base.specs.Plan.{declared_of}
use Rattle.wdf_base.specs.Resolved.{is_handle, is_kind}
use Rattle.wdf_base.specs.Same.{same_kind, same_option}
use Rattle.wdf_base.specs.declared.plan.Plan.{Plan}
use Rattle.wdf_base.specs.declared.ids.Handle.{Handle}
use Rattle.wdf_base.specs.declared.declared.Declared.{Declared}
use Rattle.wdf_base.specs.declared.declared.Declared.TheVariants as declared
use Rattle.wdf_base.specs.declared.object.Kind.TheVariants as kind
use Rattle.wdf_model.specs.Plans.{as_device, declared_ids, device_of}
use Rattle.wdf_model.proofs.Counts.{equal}
use Rattle.wdf_model.proofs.Tests.{both, both_left}
use Rattle.law_stack.proofs.Chains.{is_declared}

-- ---- lists

in_range_by : (a n d : ℕ) (b : Bool) → (a == d) ≡ b → a ≤ d → d < a + suc n → (a + 1 ≤ d → d < (a + 1) + n → list_any (λ y. y == d) (range_with_len (a + 1) n) ≡ true)
    → (b || list_any (λ y. y == d) (range_with_len (a + 1) n)) ≡ true
in_range_by a n d true e low high rest = refl
in_range_by a n d false e low high rest =
    let apart : a ≢ d = λ same. (let on = equal a d same in let z : ⊥ = cc in z) in
    rest (omega (arith, low, apart)) (omega (arith, high))

in_range : (a n d : ℕ) → a ≤ d → d < a + n → list_any (λ y. y == d) (range_with_len a n) ≡ true
in_range a zero d low high = absurd (omega (arith, low, high))
in_range a (suc n) d low high = in_range_by a n d (a == d) refl low high (in_range (a + 1) n d)

-- ---- devices

declared_as : (plan : Plan) (d : ℕ) → is_declared plan d ≡ (is_some (device_of plan d) && list_any (λ y. y == d) (declared_ids plan))
declared_as plan d = any-filter_same (λ y. y == d) (λ x. is_some (device_of plan x)) (is_some (device_of plan d)) (λ x h. ap (λ y. is_some (device_of plan y)) (eqb-true x d h)) (declared_ids plan)

-- a device is declared as one
pub is_device : (plan : Plan) (d : ℕ) → is_declared plan d ≡ true → is_some (device_of plan d) ≡ true
is_device plan d h = both_left (is_some (device_of plan d)) (list_any (λ y. y == d) (declared_ids plan)) (sym (declared_as plan d) ∙ h)

named_there : (plan : Plan) (d : ℕ) (x : Declared) → declared_of plan d ≡ Some x → d < suc (length plan.declared)
named_there plan zero x h = omega arith
named_there plan (suc d) x h = let l = slice_get_within plan.declared d x h in omega (arith, l)

kind_is : (x : Option Declared) → same_option same_kind (option_and_then declared_kind x) (Some kind.Device) ≡ true → is_some (as_device x) ≡ true
kind_is (Some (declared.Device d)) h = refl
kind_is (Some declared.Driver) h = absurd (let z : ⊥ = cc in z)
kind_is (Some (declared.Queue q)) h = absurd (let z : ⊥ = cc in z)
kind_is (Some (declared.Interrupt i)) h = absurd (let z : ⊥ = cc in z)
kind_is (Some (declared.Target t)) h = absurd (let z : ⊥ = cc in z)
kind_is (Some (declared.OfClass c)) h = absurd (let z : ⊥ = cc in z)
kind_is None h = absurd (let z : ⊥ = cc in z)

there_by : (plan : Plan) (d : ℕ) (x : Option Declared) → declared_of plan d ≡ x → is_some (as_device x) ≡ true → d < suc (length plan.declared)
there_by plan d None e h = absurd (let z : ⊥ = cc in z)
there_by plan d (Some x) e h = named_there plan d x e

-- the handle of a device is that of a declared one
pub handle_declared : (plan : Plan) (h : Handle) → is_handle plan kind.Device h ≡ true → is_declared plan h.id.0 ≡ true
handle_declared plan h is =
    let some = kind_is (declared_of plan h.id.0) (both_left (is_kind plan kind.Device h.id.0) (same_option ◌==◌ (option_and_then declared_name (declared_of plan h.id.0)) (Some h.name)) is) in
    let short = there_by plan h.id.0 (declared_of plan h.id.0) refl some in
    declared_as plan h.id.0
    ∙ both (is_some (device_of plan h.id.0)) (list_any (λ y. y == h.id.0) (declared_ids plan)) some (in_range 0 (suc (length plan.declared)) h.id.0 (omega arith) (omega (arith, short)))
