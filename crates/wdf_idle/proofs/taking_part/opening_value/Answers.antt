-- The register at the first place that is its own.
use Rattle.std.proofs.Common.{sym, ◌∙◌, refl}
use Rattle.std.specs.Prelude.{option_map, unwrap_or, Option, ℕ}
use Rattle.wdf_base.specs.declared.declared.RegisterInfo.{RegisterInfo}
use Rattle.wdf_model.specs.agents.IdlePolicy.{is_register_named}
use Rattle.wdf_idle.proofs.Gathering.{found_at, not_found}
use Rattle.wdf_idle.proofs.taking_part.opening_value.Goals as goal

value_in : Option RegisterInfo → ℕ
value_in o = unwrap_or (option_map (λ (r : RegisterInfo). r.value) o) 0

pub returns-in-Some : goal.returns-in-Some
returns-in-Some c =
    let named = is_register_named c.args.plan.now c.args.device.0 c.args.word.now in
    let found = found_at named c.args.plan.now.registers c.in-Some.k c.register.result (sym c.register_named.ensures ∙ c.in-Some.is) c.register.ensures in
    rw found refl

pub returns-in-None : goal.returns-in-None
returns-in-None c =
    let named = is_register_named c.args.plan.now c.args.device.0 c.args.word.now in
    let none = not_found named c.args.plan.now.registers (sym c.register_named.ensures ∙ c.in-None.is) in
    rw none refl
