-- The devices that have a step left, as a set.
use Rattle.std.specs.Prelude.{ℕ, ◌==◌, nat_lt, Bool, length}
use Rattle.std.specs.List.{list_all}
use Rattle.wdf_model.specs.parts.Pnp.{Pnp, Sequence, steps_left}
use Rattle.wdf_sets.specs.SetOf.{IsSetOf}
use Rattle.wdf_pnp.specs.declared.pnp.Pnp.TheInside.{Inside}

-- whether device d has a step left
abbrev pub has_steps : Pnp → ℕ → Bool
has_steps P d = nat_lt 0 (length (steps_left P d))

-- whether no device has a step left
abbrev pub none_stepping : Pnp → Bool
none_stepping P = list_all (λ (q : Sequence). length q.left == 0) P.devices

-- The set says of each device whether it has a step left.
abbrev pub IsStepping : Inside → Type 0
IsStepping p = IsSetOf (has_steps (record { devices = p.devices.items })) (length p.devices.items) p.stepping
