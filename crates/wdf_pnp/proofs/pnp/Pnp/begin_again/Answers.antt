-- Each device begins anew, and no step is left.
use Rattle.std.proofs.Common.{ℕ, ◌≡◌, ◌+◌, ◌≤◌, length, sym, ap, subst, ◌∙◌, arith}
use Rattle.wdf_model.specs.parts.Pnp.{Pnp, sequence_of}
use Rattle.wdf_pnp.specs.Opening.{sequence_at}
use Rattle.wdf_pnp.proofs.Stepping.{opening_stepping, opening_long}
use Rattle.wdf_pnp.proofs.pnp.Pnp.begin_again.Goals as goal

pub begin_all-requires-clause-ids : goal.begin_all-requires-clause-ids
begin_all-requires-clause-ids c = ap (λ (Q : Pnp). length Q.devices) c.self.view_is ∙ c.requires.ids

pub begin_all-requires-clause-steps : goal.begin_all-requires-clause-steps
begin_all-requires-clause-steps c =
    subst (λ (Q : Pnp). (d : ℕ) → (sequence_of Q d).steps ≡ (sequence_at c.args.plan.now d).steps) (sym c.self.view_is) c.requires.steps

pub returns : goal.returns
returns c = ap (λ ds. record { devices = ds }) c.begin_all.ensures

pub invariant_of-self : goal.invariant_of-self
invariant_of-self c =
    let long : length c.self.inside.devices.items ≡ 1 + length c.args.plan.now.declared = ap (λ (Q : Pnp). length Q.devices) c.self.view_is ∙ c.requires.ids in
    let room : length c.self.inside.devices.items ≤ length c.self.inside.stepping = c.self.invariant.room in
    let all = opening_long c.args.plan.now in
    opening_stepping c.args.plan.now _ _ (length c.self.inside.stepping) c.begin_all.ensures c.clear.ensures (omega (arith, long, room, all))
