-- A queue, an interrupt or a target belongs to a device of the plan.
use Rattle.std.proofs.Common.{◌≡◌, ℕ, zero, suc, ◌+◌, ◌==◌, nat_lt, true, ◌&&◌, List, [], ◌∷◌, Option, Some, None, is_some, option_and_then, slice_get, refl, sym, ap, subst, ◌∙◌, arith}
use Rattle.std.proofs.lemmas.Bool.{eqb-true}
use Rattle.wdf_base.specs.Resolved.{IsResolved, in_order, objects_in_order}
use Rattle.wdf_base.specs.Plan.{declared_of}
use Rattle.wdf_base.specs.declared.plan.Plan.{Plan}
use Rattle.wdf_base.specs.declared.declared.Declared.{Declared}
use Rattle.wdf_base.specs.declared.declared.Declared.TheVariants as declared
use Rattle.wdf_base.specs.declared.declared.InterruptInfo.{InterruptInfo}
use Rattle.wdf_base.specs.declared.declared.QueueInfo.{QueueInfo}
use Rattle.wdf_base.specs.declared.declared.TargetInfo.{TargetInfo}
use Rattle.wdf_model.specs.Plans.{as_device, as_interrupt, as_queue, as_target, device_of, interrupt_of, queue_of, target_of}
use Rattle.wdf_model.proofs.Tests.{both_left, both_right}

queue_found : (x : Option Declared) (i : QueueInfo) → as_queue x ≡ Some i → x ≡ Some (declared.Queue i)
queue_found (Some (declared.Queue y)) i h = let same : y ≡ i = cc in ap (λ z. Some (declared.Queue z)) same
queue_found None i h = absurd (let z : ⊥ = cc in z)
queue_found (Some _) i h = absurd (let z : ⊥ = cc in z)

pub interrupt_found : (x : Option Declared) (i : InterruptInfo) → as_interrupt x ≡ Some i → x ≡ Some (declared.Interrupt i)
interrupt_found (Some (declared.Interrupt y)) i h = let same : y ≡ i = cc in ap (λ z. Some (declared.Interrupt z)) same
interrupt_found None i h = absurd (let z : ⊥ = cc in z)
interrupt_found (Some _) i h = absurd (let z : ⊥ = cc in z)

pub target_found : (x : Option Declared) (i : TargetInfo) → as_target x ≡ Some i → x ≡ Some (declared.Target i)
target_found (Some (declared.Target y)) i h = let same : y ≡ i = cc in ap (λ z. Some (declared.Target z)) same
target_found None i h = absurd (let z : ⊥ = cc in z)
target_found (Some _) i h = absurd (let z : ⊥ = cc in z)

-- the device that an object of the plan names
abbrev device_named : Declared → Option ℕ
device_named (declared.Queue q) = Some q.device.0
device_named (declared.Interrupt i) = Some i.device.0
device_named (declared.Target t) = Some t.device.0
device_named _ = None

device_at : (x : Option Declared) (d : Declared) → x ≡ Some d → is_some (as_device (Some d)) ≡ true → is_some (as_device x) ≡ true
device_at x d e h = ap (λ y. is_some (as_device y)) e ∙ h

module _ (plan : Plan) where
  abbrev Lists : ℕ → List Declared → Type 0
  Lists id ds = (j : ℕ) → declared_of plan (id + j) ≡ slice_get ds j

  later : (id : ℕ) (d : Declared) (ds : List Declared) → Lists id (d ∷ ds) → Lists (suc id) ds
  later id d ds h j = let e : suc id + j ≡ id + suc j = omega arith in ap (declared_of plan) e ∙ h (suc j)

  -- the last device is the one that is named
  here_named : (x device n : ℕ) → (nat_lt 0 device ≡ true → is_some (device_of plan device) ≡ true) → (nat_lt 0 device && (x == device)) ≡ true → Some x ≡ Some n → is_some (device_of plan n) ≡ true
  here_named x device n last t at =
      let same : x ≡ n = cc in
      let e : x ≡ device = eqb-true x device (both_right (nat_lt 0 device) (x == device) t) in
      subst (λ y. is_some (device_of plan y) ≡ true) (sym e ∙ same) (last (both_left (nat_lt 0 device) (x == device) t))

  under : (ds : List Declared) (id device k n : ℕ) → Lists id ds → (nat_lt 0 device ≡ true → is_some (device_of plan device) ≡ true) → in_order id device ds ≡ true
      → option_and_then device_named (slice_get ds k) ≡ Some n → is_some (device_of plan n) ≡ true
  under [] id device k n here last h at = absurd (let z : ⊥ = cc in z)
  under (declared.Driver ∷ ds) id device k n here last h at = absurd (let z : ⊥ = cc in z)
  under (declared.OfClass c ∷ ds) id device k n here last h at = absurd (let z : ⊥ = cc in z)
  under (declared.Device d ∷ ds) id device zero n here last h at = absurd (let z : ⊥ = cc in z)
  under (declared.Device d ∷ ds) id device (suc k) n here last h at =
      let e : id + 0 ≡ id = omega arith in
      let it : declared_of plan id ≡ Some (declared.Device d) = sym (ap (declared_of plan) e) ∙ here 0 in
      under ds (suc id) id k n (later id (declared.Device d) ds here) (λ x. device_at (declared_of plan id) (declared.Device d) it refl) h at
  under (declared.Queue q ∷ ds) id device zero n here last h at = here_named q.device.0 device n last (both_left (nat_lt 0 device && (q.device.0 == device)) (in_order (suc id) device ds) h) at
  under (declared.Queue q ∷ ds) id device (suc k) n here last h at =
      under ds (suc id) device k n (later id (declared.Queue q) ds here) last (both_right (nat_lt 0 device && (q.device.0 == device)) (in_order (suc id) device ds) h) at
  under (declared.Interrupt i ∷ ds) id device zero n here last h at = here_named i.device.0 device n last (both_left (nat_lt 0 device && (i.device.0 == device)) (in_order (suc id) device ds) h) at
  under (declared.Interrupt i ∷ ds) id device (suc k) n here last h at =
      under ds (suc id) device k n (later id (declared.Interrupt i) ds here) last (both_right (nat_lt 0 device && (i.device.0 == device)) (in_order (suc id) device ds) h) at
  under (declared.Target t ∷ ds) id device zero n here last h at = here_named t.device.0 device n last (both_left (nat_lt 0 device && (t.device.0 == device)) (in_order (suc id) device ds) h) at
  under (declared.Target t ∷ ds) id device (suc k) n here last h at =
      under ds (suc id) device k n (later id (declared.Target t) ds here) last (both_right (nat_lt 0 device && (t.device.0 == device)) (in_order (suc id) device ds) h) at

  under_all : (ds : List Declared) → plan.declared ≡ ds → objects_in_order ds ≡ true → (k n : ℕ) → option_and_then device_named (slice_get ds k) ≡ Some n → is_some (device_of plan n) ≡ true
  under_all (declared.Driver ∷ ds) e h zero n at = absurd (let z : ⊥ = cc in z)
  under_all (declared.Driver ∷ ds) e h (suc k) n at =
      under ds 2 0 k n (λ j. let t : 2 + j ≡ suc (suc j) = omega arith in ap (declared_of plan) t ∙ ap (λ (xs : List Declared). slice_get xs (suc j)) e) (λ x. absurd (let z : ⊥ = cc in z)) h at
  under_all [] e h k n at = absurd (let z : ⊥ = cc in z)
  under_all (_ ∷ ds) e h k n at = absurd (let z : ⊥ = cc in z)

  named_there : IsResolved plan → (o n : ℕ) → option_and_then device_named (declared_of plan o) ≡ Some n → is_some (device_of plan n) ≡ true
  named_there resolved zero n at = absurd (let z : ⊥ = cc in z)
  named_there resolved (suc o) n at = under_all plan.declared refl resolved.in_order o n at

  pub device_of_queue : IsResolved plan → (q : ℕ) (i : QueueInfo) → queue_of plan q ≡ Some i → is_some (device_of plan i.device.0) ≡ true
  device_of_queue resolved q i at = named_there resolved q i.device.0 (ap (option_and_then device_named) (queue_found (declared_of plan q) i at))

  pub device_of_interrupt : IsResolved plan → (o : ℕ) (i : InterruptInfo) → interrupt_of plan o ≡ Some i → is_some (device_of plan i.device.0) ≡ true
  device_of_interrupt resolved o i at = named_there resolved o i.device.0 (ap (option_and_then device_named) (interrupt_found (declared_of plan o) i at))

  pub device_of_target : IsResolved plan → (t : ℕ) (i : TargetInfo) → target_of plan t ≡ Some i → is_some (device_of plan i.device.0) ≡ true
  device_of_target resolved t i at = named_there resolved t i.device.0 (ap (option_and_then device_named) (target_found (declared_of plan t) i at))
