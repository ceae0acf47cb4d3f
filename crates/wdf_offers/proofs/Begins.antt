-- A start may come where its processor is one and its callback may start: the handles that are made for it are proper.
use Rattle.std.proofs.Common.{◌≡◌, ◌&&◌, ℕ, Bool, true, false, Some, None, refl}
use Rattle.wdf_base.specs.Meaning.{Meaning}
use Rattle.wdf_base.specs.declared.call.Callback.{Callback}
use Rattle.wdf_base.specs.declared.plan.Plan.{Plan}
use Rattle.wdf_model.specs.Ids.{cpu_of}
use Rattle.wdf_model.specs.State.{State, handle_in, is_proper}
use Rattle.wdf_model.specs.rules.Groups.{starts, starts_for}
use Rattle.wdf_model.specs.rules.Starts.{may_start}
use Rattle.wdf_model.specs.rules.Steps.{is_cpu, is_proper_if_any, may}
use Rattle.wdf_model.proofs.Tests.{itself}

between : (a p q b : Bool) → p ≡ true → q ≡ true → (a && b) ≡ (a && p && q && b)
between true true true b h k = refl
between true true false b h k = absurd (let z : ⊥ = cc in z)
between true false q b h k = absurd (let z : ⊥ = cc in z)
between false p q b h k = refl

module _ {A : Type 0} (plan : Plan) (m : Meaning A) (S : State A) (cpu : ℕ) (c : Callback) (o : ℕ) where
  pub start_parts : (is_cpu plan (cpu_of cpu) && may_start plan m S cpu c o None) ≡ may plan m S (starts plan S cpu c o)
  start_parts = between (is_cpu plan (cpu_of cpu)) (is_proper plan S (handle_in plan S o)) (is_proper_if_any plan S None) (may_start plan m S cpu c o None) (itself (handle_in plan S o).name) refl

  pub start_parts_for : (r : ℕ) → (is_cpu plan (cpu_of cpu) && may_start plan m S cpu c o (Some (handle_in plan S r))) ≡ may plan m S (starts_for plan S cpu c o r)
  start_parts_for r =
      between (is_cpu plan (cpu_of cpu)) (is_proper plan S (handle_in plan S o)) (is_proper_if_any plan S (Some (handle_in plan S r))) (may_start plan m S cpu c o (Some (handle_in plan S r)))
      (itself (handle_in plan S o).name) (itself (handle_in plan S r).name)
