-- The agents of the program that are targets: those of every run, those where idle devices sleep, and in stacks those that aren't
-- connected.
use Rattle.std.proofs.Common.{◌≡◌, ℕ, ◌+◌, ◌-◌, ◌==◌, ◌≤◌, nat_lt, Bool, true, false, ◌&&◌, length, Option, Some, None, slice_get, refl, ap, ◌∙◌, arith}
use Rattle.std.proofs.lemmas.Bool.{ltb-false, ltb-true}
use Rattle.std.proofs.lemmas.Option.{same_Some, slice_get_past}
use Rattle.wdf_base.specs.declared.event.Event.{Event}
use Rattle.wdf_base.specs.declared.plan.Plan.{Plan}
use Rattle.wdf_model.specs.Plans.{device_of_agent, devices_of, first_device_agent, is_app, target_of_agent}
use Rattle.wdf_model.specs.agents.Chains.{connected_to}
use Rattle.wdf_model.specs.agents.LowerTarget.{LowerTarget, target_after, target_at, target_due}
use Rattle.wdf_model.proofs.Counts.{not_equal}
use Rattle.wdf_model.proofs.Tests.{right_fails}
use Rattle.wdf_dev.specs.Agents as usual
use Rattle.wdf_dev.specs.declared.any.AnyAgent.{AnyAgent}
use Rattle.wdf_dev.specs.declared.any.AnyAgent.TheVariants as agent
use Rattle.wdf_idle.specs.Agents as idle
use Rattle.wdf_idle.specs.declared.idle_agent.IdleAgent.{IdleAgent}
use Rattle.wdf_idle.specs.declared.idle_agent.IdleAgent.TheVariants as sleeper
use Rattle.wdf_stack.specs.Agents as stack
use Rattle.wdf_stack.specs.declared.agents.StackAgent.{StackAgent}
use Rattle.wdf_stack.specs.declared.agents.StackAgent.TheVariants as level
use Rattle.law_targets.specs.Targets.{IsTargetAgent}

-- ---- the number of a target's agent

-- it comes after the manager, the apps and the devices
record IsLast (plan : Plan) (k : ℕ) : Type 0 where
  zeroth : (k == 0) ≡ false
  app : is_app plan k ≡ false
  device : device_of_agent plan k ≡ None

last_by : (plan : Plan) (k t : ℕ) (early : Bool) → nat_lt k (first_device_agent plan + length (devices_of plan)) ≡ early → target_of_agent plan k ≡ Some t → IsLast plan k
last_by plan k t true e h = absurd (let none : None ≡ Some t = rw e at h in let z : ⊥ = cc in z)
last_by plan k t false e h =
    let from = ltb-false k (first_device_agent plan + length (devices_of plan)) e in
    let late : nat_lt k (first_device_agent plan) ≡ false = not_below k (first_device_agent plan) (omega (arith, from)) in
    let past : slice_get (devices_of plan) (k - first_device_agent plan) ≡ None = slice_get_past (devices_of plan) (k - first_device_agent plan) (omega (arith, from)) in
    record {
      zeroth = not_equal k 0 (λ z. omega (arith, from, z));
      app = ap (λ b. nat_lt 0 k && b) late ∙ right_fails (nat_lt 0 k) false refl;
      device = rw late past;
    }
  where
    not_below : (a b : ℕ) → b ≤ a → nat_lt a b ≡ false
    not_below a b l = by_test (nat_lt a b) refl
      where
        by_test : (c : Bool) → nat_lt a b ≡ c → c ≡ false
        by_test true i = absurd (let m = ltb-true a b i in omega (arith, m, l))
        by_test false i = refl

last : (plan : Plan) (k t : ℕ) → target_of_agent plan k ≡ Some t → IsLast plan k
last plan k t h = last_by plan k t (nat_lt k (first_device_agent plan + length (devices_of plan))) refl h

-- ---- the agents of every run

abbrev pub seen : AnyAgent → Option LowerTarget
seen (agent.LowerTarget u) = Some u
seen _ = None

pub seen_after : (a : AnyAgent) (u : LowerTarget) (e : Event) → seen a ≡ Some u → seen (usual.agent_after a e) ≡ Some (target_after u e)
seen_after (agent.LowerTarget x) u e h = ap (λ (y : LowerTarget). Some (target_after y e)) (same_Some x u h)
seen_after _ u e h = absurd (let z : ⊥ = cc in z)

pub seen_due : (a : AnyAgent) (u : LowerTarget) → seen a ≡ Some u → usual.agent_due a ≡ target_due u
seen_due (agent.LowerTarget x) u h = ap target_due (same_Some x u h)
seen_due _ u h = absurd (let z : ⊥ = cc in z)

pub begins_as : (plan : Plan) (k t : ℕ) → target_of_agent plan k ≡ Some t → usual.agent_at plan k ≡ agent.LowerTarget (target_at plan t k)
begins_as plan k t h = let l = last plan k t h in rw (l.zeroth, l.app, l.device, h) refl

abbrev pub usual_target : (plan : Plan) (k t : ℕ) → target_of_agent plan k ≡ Some t → IsTargetAgent plan usual.agent_meaning k t
usual_target plan k t h = record { number = h; seen = seen; begins = ap seen (begins_as plan k t h); hears = seen_after; posts = seen_due }

-- ---- where idle devices sleep

abbrev seen_idle : IdleAgent → Option LowerTarget
seen_idle (sleeper.Usual a) = seen a
seen_idle (sleeper.Policy p) = None

idle_after : (a : IdleAgent) (u : LowerTarget) (e : Event) → seen_idle a ≡ Some u → seen_idle (idle.idle_agent_after a e) ≡ Some (target_after u e)
idle_after (sleeper.Usual a) u e h = seen_after a u e h
idle_after (sleeper.Policy p) u e h = absurd (let z : ⊥ = cc in z)

idle_due : (a : IdleAgent) (u : LowerTarget) → seen_idle a ≡ Some u → idle.idle_agent_due a ≡ target_due u
idle_due (sleeper.Usual a) u h = seen_due a u h
idle_due (sleeper.Policy p) u h = absurd (let z : ⊥ = cc in z)

idle_begins : (plan : Plan) (k t : ℕ) → target_of_agent plan k ≡ Some t → seen_idle (idle.idle_agent_at plan k) ≡ Some (target_at plan t k)
idle_begins plan k t h = let l = last plan k t h in rw (l.zeroth, l.app, l.device, h) refl

pub idle_target : (plan : Plan) (k t : ℕ) → target_of_agent plan k ≡ Some t → IsTargetAgent plan idle.idle_meaning k t
idle_target plan k t h = record { number = h; seen = seen_idle; begins = idle_begins plan k t h; hears = idle_after; posts = idle_due }

-- ---- in stacks

abbrev seen_level : StackAgent → Option LowerTarget
seen_level (level.LowerTarget u) = Some u
seen_level _ = None

level_after : (a : StackAgent) (u : LowerTarget) (e : Event) → seen_level a ≡ Some u → seen_level (stack.agent_after a e) ≡ Some (target_after u e)
level_after (level.LowerTarget x) u e h = ap (λ (y : LowerTarget). Some (target_after y e)) (same_Some x u h)
level_after _ u e h = absurd (let z : ⊥ = cc in z)

level_due : (a : StackAgent) (u : LowerTarget) → seen_level a ≡ Some u → stack.agent_due a ≡ target_due u
level_due (level.LowerTarget x) u h = ap target_due (same_Some x u h)
level_due _ u h = absurd (let z : ⊥ = cc in z)

level_begins : (plan : Plan) (k t : ℕ) → target_of_agent plan k ≡ Some t → connected_to plan t ≡ None → stack.agent_at plan k ≡ level.LowerTarget (target_at plan t k)
level_begins plan k t h alone = let l = last plan k t h in rw (l.zeroth, l.app, l.device, h, alone) refl

pub stack_target : (plan : Plan) (k t : ℕ) → target_of_agent plan k ≡ Some t → connected_to plan t ≡ None → IsTargetAgent plan stack.stack_meaning k t
stack_target plan k t h alone = record { number = h; seen = seen_level; begins = ap seen_level (level_begins plan k t h alone); hears = level_after; posts = level_due }
