-- At each place of every run what a device shows is what the events before tell; what a read and a service routine say of it.
use Rattle.std.proofs.Common.{◌≡◌, inl, inr, ℕ, ◌+◌, ◌-◌, nat_lt, nat_le, true, false, List, length, take, Option, Some, None, is_some, option_map, slice_get, refl, sym, ap, ◌∙◌, arith, eqb-true}
use Rattle.std.specs.Prelude.{option_and_then, unwrap_or}
use Rattle.std.proofs.lemmas.Bool.{ltb-true}
use Rattle.std.proofs.lemmas.Bool.Decides.{nat_tests}
use Rattle.std.proofs.lemmas.Option.{slice_get-get_or}
use Rattle.wdf_base.specs.Meaning.{Meaning}
use Rattle.wdf_base.specs.Kinds.{declared_kind}
use Rattle.wdf_base.specs.Plan.{declared_of}
use Rattle.wdf_base.specs.Resolved.{IsResolved, is_register, register_fits}
use Rattle.wdf_base.specs.Resolved as resolved
use Rattle.wdf_base.specs.Same.{same_kind, same_option}
use Rattle.wdf_base.specs.declared.plan.Plan.{Plan}
use Rattle.wdf_base.specs.declared.ids.Cpu.{Cpu}
use Rattle.wdf_base.specs.declared.ids.Handle.{Handle}
use Rattle.wdf_base.specs.declared.object.Kind.TheVariants as kind
use Rattle.wdf_base.specs.declared.call.Callback.TheVariants as callback
use Rattle.wdf_base.specs.declared.declared.Declared.{Declared}
use Rattle.wdf_base.specs.declared.declared.Declared.TheVariants as declared
use Rattle.wdf_base.specs.declared.declared.InterruptInfo.{InterruptInfo}
use Rattle.wdf_base.specs.declared.declared.RegisterInfo.{RegisterInfo}
use Rattle.wdf_base.specs.declared.event.Access.TheVariants as access
use Rattle.wdf_base.specs.declared.event.Event.{Event}
use Rattle.wdf_base.specs.declared.event.Event.TheVariants as event
use Rattle.wdf_model.specs.Plans.{agent_of_device, as_device, as_interrupt, device_of, device_of_register, interrupt_of}
use Rattle.wdf_model.specs.State.{State, declares_in}
use Rattle.wdf_model.specs.agents.Device.{Device, device_value}
use Rattle.wdf_model.specs.parts.Interrupts.{is_enabled}
use Rattle.wdf_model.specs.rules.Ready.{IsRunOf, state_after}
use Rattle.wdf_model.specs.rules.Starts.{device_of_interrupt, is_ready_for, line_is_up, line_number, may_start, shown, value_of_agent}
use Rattle.wdf_model.proofs.Tests.{both_left, both_right}
use Rattle.law_trace_power.proofs.Belonging as belonging
use Rattle.law_trace_power.proofs.Laws.{comes_by}
use Rattle.law_devices.specs.Agents.{HasDevices}
use Rattle.law_devices.specs.Shown.{Shown, Register, Line, value_told}
use Rattle.law_devices.proofs.Acts.{held}
use Rattle.law_devices.proofs.Numbers.{is_agent}
use Rattle.law_devices.proofs.Reading.{is_read}
use Rattle.law_devices.proofs.Routines.{is_interrupt}
use Rattle.law_devices.proofs.Steps.{shower}
use Rattle.law_devices.proofs.Told.{all_know}
use Rattle.law_machine_lives.proofs.Lists.{all_at}

is_device : (o : Option Declared) → same_option same_kind (option_and_then declared_kind o) (Some kind.Device) ≡ true → is_some (as_device o) ≡ true
is_device None h = absurd (let z : ⊥ = cc in z)
is_device (Some (declared.Device d)) h = refl
is_device (Some _) h = absurd (let z : ⊥ = cc in z)

register_there : (rs : List RegisterInfo) (k : ℕ) → nat_lt k (length rs) ≡ true → (r : RegisterInfo) × (slice_get rs k ≡ Some r)
register_there rs k h = (_, slice_get-get_or rs k (record { name = 0; device = record { 0 = 0 }; value = 0 }) (ltb-true k (length rs) h))

interrupt_as : (o : Option Declared) (i : InterruptInfo) → as_interrupt o ≡ Some i → resolved.device_of_interrupt o ≡ Some i.device.0
interrupt_as None i h = absurd (let z : ⊥ = cc in z)
interrupt_as (Some (declared.Interrupt j)) i h = let same : j ≡ i = cc in ap (λ (x : InterruptInfo). Some x.device.0) same
interrupt_as (Some _) i h = absurd (let z : ⊥ = cc in z)

by_number : (h : Device) (k : ℕ) → nat_lt k 64 ≡ true → device_value h k ≡ held h (Register k)
by_number h k small = rw small refl

by_line : (h : Device) (i : ℕ) → device_value h (line_number i) ≡ held h (Line i)
by_line h i =
    let late : nat_lt (64 + i) 64 ≡ false = grind (arith, nat_tests) in
    let same : 64 + i - 64 ≡ i = omega arith in
    rw (late, same) refl

module _ {A : Type 0} (plan : Plan) (m : Meaning A) (device : A → Option Device) (run : List Event) (has : HasDevices m device) (is_resolved : IsResolved plan) (is_run : IsRunOf plan m run) (n : ℕ) where
  abbrev S : State A
  S = state_after plan m (take n run)

  shows_at : (d what : ℕ) (x : Shown) → is_some (device_of plan d) ≡ true → shower plan x ≡ Some d → ((h : Device) → device_value h what ≡ held h x) → shown plan m S d what ≡ value_told plan x (take n run)
  shows_at d what x there is same =
      let i = all_know plan is_resolved m device has run is_run n (agent_of_device plan d) d (is_agent plan d there) in
      ap (λ o. value_of_agent m o what) i.at ∙ has.shows i.agent i.now what i.is ∙ same i.now ∙ i.knows.values x is

  pub register_at : (k : ℕ) → is_register plan k ≡ true → shown plan m S (device_of_register plan k) k ≡ value_told plan (Register k) (take n run)
  register_at k there =
      let r = register_there plan.registers k there in
      let fits : register_fits plan r.0 ≡ true = all_at (register_fits plan) plan.registers k r.0 is_resolved.registers_fit r.1 in
      let its : device_of_register plan k ≡ r.0.device.0 = ap (λ (o : Option RegisterInfo). unwrap_or (option_map (λ (x : RegisterInfo). x.device.0) o) 0) r.1 in
      let limit : nat_le (length plan.registers) 64 ≡ true = is_resolved.register_limit in
      let small : nat_lt k 64 ≡ true = grind (arith, nat_tests) in
      ap (λ d. shown plan m S d k) its
      ∙ shows_at r.0.device.0 k (Register k) (is_device (declared_of plan r.0.device.0) fits) (ap (option_map (λ (x : RegisterInfo). x.device.0)) r.1) (λ h. by_number h k small)

  line_by : (i : ℕ) (o : Option InterruptInfo) → interrupt_of plan i ≡ o → is_some o ≡ true → shown plan m S (device_of_interrupt plan i) (line_number i) ≡ value_told plan (Line i) (take n run)
  line_by i None at there = absurd (let z : ⊥ = cc in z)
  line_by i (Some x) at there =
      let its : device_of_interrupt plan i ≡ x.device.0 = ap (λ (o : Option InterruptInfo). unwrap_or (option_map (λ (y : InterruptInfo). y.device.0) o) 0) at in
      ap (λ d. shown plan m S d (line_number i)) its
      ∙ shows_at x.device.0 (line_number i) (Line i) (belonging.device_of_interrupt plan is_resolved i x at) (interrupt_as (declared_of plan i) x at) (λ h. by_line h i)

  pub line_at : (i : ℕ) → is_some (interrupt_of plan i) ≡ true → shown plan m S (device_of_interrupt plan i) (line_number i) ≡ value_told plan (Line i) (take n run)
  line_at i there = line_by i (interrupt_of plan i) refl there

  pub read_told : (cpu : Cpu) (k v : ℕ) → slice_get run n ≡ Some (event.Register cpu access.Read k v) → v ≡ value_told plan (Register k) (take n run)
  read_told cpu k v at = elim (comes_by plan m run n (event.Register cpu access.Read k v) is_run at) [
    | inl h ↦ let r = is_read plan is_resolved m S cpu k v h in r.value ∙ register_at k r.there
    | inr t ↦ absurd (let e = t.tick in let z : ⊥ = cc in z)
  ]

  routine_by : (cpu o : ℕ) (r : Option Handle) → is_ready_for plan m S cpu callback.EvtInterruptIsr o r ≡ true → line_is_up plan m S o ≡ true
  routine_by cpu o None h = both_left (line_is_up plan m S o) (is_enabled S.interrupts o) h
  routine_by cpu o (Some r) h = absurd (let z : ⊥ = cc in z)

  pub routine_told : (cpu : Cpu) (o : Handle) (r : Option Handle) → slice_get run n ≡ Some (event.Start cpu callback.EvtInterruptIsr o r) → value_told plan (Line o.id.0) (take n run) ≡ 1
  routine_told cpu o r at = elim (comes_by plan m run n (event.Start cpu callback.EvtInterruptIsr o r) is_run at) [
    | inl h ↦
        let start : may_start plan m S cpu.0 callback.EvtInterruptIsr o.id.0 r ≡ true = both_right _ (may_start plan m S cpu.0 callback.EvtInterruptIsr o.id.0 r) h in
        let there : declares_in plan S callback.EvtInterruptIsr o.id.0 ≡ true = search both_left in
        let due : is_ready_for plan m S cpu.0 callback.EvtInterruptIsr o.id.0 r ≡ true = both_right _ (is_ready_for plan m S cpu.0 callback.EvtInterruptIsr o.id.0 r) start in
        sym (line_at o.id.0 (is_interrupt plan S o.id.0 is_resolved there)) ∙ eqb-true (shown plan m S (device_of_interrupt plan o.id.0) (line_number o.id.0)) 1 (routine_by cpu.0 o.id.0 r due)
    | inr t ↦ absurd (let e = t.tick in let z : ⊥ = cc in z)
  ]
