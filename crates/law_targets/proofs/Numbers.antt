-- Each target of a resolved plan has its agent among those of the run.
use Rattle.std.proofs.Common.{◌≡◌, ℕ, suc, ◌+◌, ◌-◌, ◌<◌, Bool, true, false, nat_lt, List, [], ◌∷◌, filter, length, map, drop, Option, Some, None, slice_get, refl, sym, ap, ◌∙◌, arith, length-append}
use Rattle.std.specs.Prelude.{is_some}
use Rattle.std.specs.List.{filter_map, range_with_len}
use Rattle.std.proofs.lemmas.Bool.{ltb-false}
use Rattle.std.proofs.lemmas.List.{length-drop, length-map}
use Rattle.std.proofs.lemmas.Option.{slice_get_within}
use Rattle.wdf_base.specs.Resolved.{IsResolved, agent_name, app_count, device_name, posting_names, target_name}
use Rattle.wdf_base.specs.declared.declared.Declared.{Declared}
use Rattle.wdf_base.specs.declared.declared.Declared.TheVariants as declared
use Rattle.wdf_base.specs.declared.plan.Plan.{Plan}
use Rattle.wdf_model.specs.Plans.{as_device, as_target, device_of, devices_of, first_device_agent, target_of, target_of_agent, targets_of}

-- ids that are kept, and what is named of them: as many
counted_by : (p : ℕ → Bool) (name : Declared → Option ℕ) (a : ℕ) (x : Declared) (xs : List Declared) (o : Option ℕ) → name x ≡ o → p a ≡ is_some o → length (filter p (range_with_len (a + 1) (length xs))) ≡ length (filter_map name xs)
    → length (filter p (range_with_len a (suc (length xs)))) ≡ length (filter_map name (x ∷ xs))
counted_by p name a x xs None e f rest = rw (e, f) rest
counted_by p name a x xs (Some n) e f rest = rw (e, f) (ap suc rest)

counted : (p : ℕ → Bool) (name : Declared → Option ℕ) (a : ℕ) (xs : List Declared) → ((j : ℕ) (x : Declared) → slice_get xs j ≡ Some x → p (a + j) ≡ is_some (name x)) → length (filter p (range_with_len a (length xs))) ≡ length (filter_map name xs)
counted p name a [] h = refl
counted p name a (x ∷ xs) h =
    counted_by p name a x xs (name x) refl (ap p (let e : a ≡ a + 0 = omega arith in e) ∙ h 0 x refl)
    (counted p name (a + 1) xs (λ j y at. ap p (let e : (a + 1) + j ≡ a + suc j = omega arith in e) ∙ h (suc j) y at))

device_is : (x : Declared) → is_some (as_device (Some x)) ≡ is_some (device_name x)
device_is (declared.Device i) = refl
device_is _ = refl

target_is : (x : Declared) → is_some (as_target (Some x)) ≡ is_some (target_name x)
target_is (declared.Target i) = refl
target_is _ = refl

module _ (plan : Plan) where
  as_many_devices : length (devices_of plan) ≡ length (filter_map device_name plan.declared)
  as_many_devices = counted (λ id. is_some (device_of plan id)) device_name 1 plan.declared
      (λ j x at. ap (λ id. is_some (device_of plan id)) (let e : 1 + j ≡ suc j = omega arith in e) ∙ ap (λ o. is_some (as_device o)) at ∙ device_is x)

  as_many_targets : length (targets_of plan) ≡ length (filter_map target_name plan.declared)
  as_many_targets = counted (λ id. is_some (target_of plan id)) target_name 1 plan.declared
      (λ j x at. ap (λ id. is_some (target_of plan id)) (let e : 1 + j ≡ suc j = omega arith in e) ∙ ap (λ o. is_some (as_target o)) at ∙ target_is x)

  low_by : (k t : ℕ) (early : Bool) → nat_lt k (first_device_agent plan + length (devices_of plan)) ≡ early → target_of_agent plan k ≡ Some t → k < first_device_agent plan + length (devices_of plan) + length (targets_of plan)
  low_by k t true e h = absurd (let none : None ≡ Some t = rw e at h in let z : ⊥ = cc in z)
  low_by k t false e h =
      let from = ltb-false k (first_device_agent plan + length (devices_of plan)) e in
      let at : slice_get (targets_of plan) (k - (first_device_agent plan + length (devices_of plan))) ≡ Some t = rw e at h in
      let low = slice_get_within (targets_of plan) (k - (first_device_agent plan + length (devices_of plan))) t at in
      omega (arith, from, low)

  pub is_there : IsResolved plan → (k t : ℕ) → target_of_agent plan k ≡ Some t → k < 1 + length plan.agents
  is_there resolved k t h =
      let low = low_by k t (nat_lt k (first_device_agent plan + length (devices_of plan))) refl h in
      let devices = as_many_devices in
      let targets = as_many_targets in
      let posting : length (posting_names plan) ≡ length (filter_map device_name plan.declared) + length (filter_map target_name plan.declared) = length-append (filter_map device_name plan.declared) (filter_map target_name plan.declared) in
      let all : length plan.agents ≡ length (map agent_name plan.agents) = sym (length-map plan.agents agent_name) in
      let ends : length (drop (app_count plan) (map agent_name plan.agents)) ≡ length (posting_names plan) = ap length resolved.agents_end in
      let left = length-drop (app_count plan) (map agent_name plan.agents) in
      omega (arith, low, devices, targets, posting, all, ends, left)
