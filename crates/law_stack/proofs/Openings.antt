-- The agents at the opening: a connector for each connected target, and no other agent has one.
use Rattle.std.proofs.Common.{◌≡◌, ℕ, zero, suc, ◌+◌, ◌-◌, ◌==◌, ◌<◌, ◌≤◌, nat_lt, Bool, true, false, List, [], ◌⊎◌, inl, inr, length, map, Option, Some, None, option_map, option_and_then, unwrap_or, slice_get, refl, sym, ap, subst, ◌∙◌, arith}
use Rattle.std.specs.List.{range_with_len}
use Rattle.std.proofs.lemmas.Bool.{cases_lt, eqb-true, lt-ltb, ltb-false, ltb-true}
use Rattle.std.proofs.lemmas.Option.{slice_get_past, slice_get_within}
use Rattle.wdf_base.specs.Meaning.{Meaning}
use Rattle.wdf_base.specs.declared.plan.Plan.{Plan}
use Rattle.wdf_base.specs.declared.declared.TargetInfo.{TargetInfo}
use Rattle.wdf_model.specs.Tables.{entry}
use Rattle.wdf_model.specs.Plans.{as_target, device_of_agent, devices_of, first_device_agent, is_app, target_of, target_of_agent}
use Rattle.wdf_model.specs.parts.Targets.{Target, no_target, opening_target, opening_targets, the_target}
use Rattle.wdf_model.specs.State.{State, opening}
use Rattle.wdf_model.specs.agents.Chains.{connected_to}
use Rattle.wdf_model.specs.agents.Connector.{connector_at}
use Rattle.wdf_model.specs.agents.StackAgent as stack
use Rattle.wdf_model.proofs.Tests.{both_right}
use Rattle.law_stack.specs.Words.{Passing, connector_of, if_connected, passings}
use Rattle.law_stack.proofs.Connectors.{AgentKept, IsKept}
use Rattle.law_stack.proofs.Held.{IsThere}
use Rattle.law_stack.proofs.Steps.{Agrees}
use Rattle.law_stack.proofs.Targets.{no_target_before}

-- ---- the depth of a target

in_range : (f : ℕ → Target) (a n t : ℕ) → t < n → entry no_target (map f (range_with_len a n)) t ≡ f (a + t)
in_range f a zero t h = absurd (omega (arith, h))
in_range f a (suc n) zero h = ap f (let e : a ≡ a + 0 = omega arith in e)
in_range f a (suc n) (suc t) h = in_range f (a + 1) n t (omega (arith, h)) ∙ ap f (let p : (a + 1) + t ≡ a + suc t = omega arith in p)

past_range : (f : ℕ → Target) (a n t : ℕ) → n ≤ t → entry no_target (map f (range_with_len a n)) t ≡ no_target
past_range f a zero t h = refl
past_range f a (suc n) zero h = absurd (omega (arith, h))
past_range f a (suc n) (suc t) h = past_range f (a + 1) n t (omega (arith, h))

depth_of : (o : Option TargetInfo) → (opening_target o).depth ≡ unwrap_or (option_map (λ i. i.depth) o) 0
depth_of None = refl
depth_of (Some i) = refl

no_target_past : (plan : Plan) (t : ℕ) → suc (length plan.declared) ≤ t → target_of plan t ≡ None
no_target_past plan zero h = absurd (omega (arith, h))
no_target_past plan (suc t) h = ap as_target (slice_get_past plan.declared t (omega (arith, h)))

depth_opens_by : (plan : Plan) (t : ℕ) → (t < suc (length plan.declared)) ⊎ (suc (length plan.declared) ≤ t) → unwrap_or (option_map (λ i. i.depth) (target_of plan t)) 0 ≡ (the_target (opening_targets plan) t).depth
depth_opens_by plan t (inl l) =
    sym (ap (λ (x : Target). x.depth) (in_range (λ x. opening_target (target_of plan x)) 0 (suc (length plan.declared)) t l) ∙ ap (λ n. (opening_target (target_of plan n)).depth) (let p : 0 + t ≡ t = omega arith in p) ∙ depth_of (target_of plan t))
depth_opens_by plan t (inr l) =
    ap (λ o. unwrap_or (option_map (λ (i : TargetInfo). i.depth) o) 0) (no_target_past plan t l)
    ∙ sym (ap (λ (x : Target). x.depth) (past_range (λ x. opening_target (target_of plan x)) 0 (suc (length plan.declared)) t l))

depth_opens : (plan : Plan) (t : ℕ) → unwrap_or (option_map (λ i. i.depth) (target_of plan t)) 0 ≡ (the_target (opening_targets plan) t).depth
depth_opens plan t = depth_opens_by plan t (cases_lt t (suc (length plan.declared)))

-- ---- each agent

pub no_passings : (t agent : ℕ) → passings t agent [] ≡ []
unfolding passings
no_passings t agent = refl

module _ {A : Type 0} (plan : Plan) (m : Meaning A) where
  abbrev start : State A
  start = opening plan m

  connector_opens : (k t lower : ℕ) → connector_of plan k ≡ Some t → IsKept plan [] start k (connector_at plan t lower k)
  connector_opens k t lower is =
      let none = sym (no_passings t k) in
      record {
        agent = refl;
        is = is;
        first = refl;
        depth = depth_opens plan t;
        agrees = subst (λ (ps : List Passing). Agrees [] (connector_at plan t lower k) ps) none (record { alike = tt; asks = refl });
        there = subst (λ (ps : List Passing). IsThere start.targets t ps) none (λ r. omega arith);
        room = omega arith;
      }

  target_opens : (k t : ℕ) (o : Option ℕ) → connected_to plan t ≡ o → target_of_agent plan k ≡ Some t → AgentKept plan [] start k (stack.target_agent plan t k o)
  target_opens k t None e at =
      let none : if_connected plan t ≡ None = rw e refl in
      ap (option_and_then (if_connected plan)) at ∙ none
  target_opens k t (Some lower) e at =
      let it : if_connected plan t ≡ Some t = rw e refl in
      connector_opens k t lower (ap (option_and_then (if_connected plan)) at ∙ it)

  -- a device's agent is before those of targets
  device_first : (k d : ℕ) (late : Bool) → nat_lt k (first_device_agent plan) ≡ late → device_of_agent plan k ≡ Some d → connector_of plan k ≡ None
  device_first k d true e h = absurd (let n : None ≡ Some d = rw e at h in let z : ⊥ = cc in z)
  device_first k d false e h =
      let from = ltb-false k (first_device_agent plan) e in
      let at : slice_get (devices_of plan) (k - first_device_agent plan) ≡ Some d = rw e at h in
      let less = slice_get_within (devices_of plan) (k - first_device_agent plan) d at in
      let early : nat_lt k (first_device_agent plan + length (devices_of plan)) ≡ true = lt-ltb k (first_device_agent plan + length (devices_of plan)) (omega (arith, from, less)) in
      rw early refl

  owned_opens : (k : ℕ) (d t : Option ℕ) → device_of_agent plan k ≡ d → target_of_agent plan k ≡ t → AgentKept plan [] start k (stack.device_or_target plan k d t)
  owned_opens k (Some d) t e f = device_first k d (nat_lt k (first_device_agent plan)) refl e
  owned_opens k None (Some t) e f = target_opens k t (connected_to plan t) refl f
  owned_opens k None None e f = ap (option_and_then (if_connected plan)) f

  opens_by : (k : ℕ) (first app : Bool) → (k == 0) ≡ first → is_app plan k ≡ app → AgentKept plan [] start k (stack.agent_at plan k)
  opens_by k true app e f = let none = no_target_before plan k (let z : k ≡ 0 = eqb-true k 0 e in omega (arith, z)) in rw e none
  opens_by k false true e f = let none = no_target_before plan k (ltb-true k (first_device_agent plan) (both_right (nat_lt 0 k) (nat_lt k (first_device_agent plan)) f)) in rw (e, f) none
  opens_by k false false e f = rw (e, f) (owned_opens k (device_of_agent plan k) (target_of_agent plan k) refl refl)

  pub agent_opens : (k : ℕ) → AgentKept plan [] start k (stack.agent_at plan k)
  agent_opens k = opens_by k (k == 0) (is_app plan k) refl refl
