-- What a resolved plan says of the lines of each agent, by its number.
use Rattle.std.proofs.Common.{◌≡◌, ◌⊎◌, inl, inr, ℕ, zero, suc, ◌+◌, ◌-◌, ◌<◌, ◌≤◌, ◌==◌, Bool, true, false, nat_lt, List, [], ◌∷◌, length, filter, drop, Option, Some, None, is_some, slice_get, refl, sym, ap, ◌∙◌, subst, arith, eqb-true}
use Rattle.std.specs.List.{list_all, range_with_len}
use Rattle.std.proofs.lemmas.Bool.{ltb-false, ltb-true}
use Rattle.std.proofs.lemmas.Bool.Decides.{nat_tests}
use Rattle.std.proofs.lemmas.Option.{same_Some}
use Rattle.wdf_base.specs.Plan.{agent_posts, declared_of, posts_of}
use Rattle.wdf_base.specs.Resolved.{IsResolved, app_count, app_post, apps, device_ids, device_post, device_posts_fit}
use Rattle.wdf_base.specs.declared.plan.Plan.{Plan}
use Rattle.wdf_base.specs.declared.declared.Declared.{Declared}
use Rattle.wdf_base.specs.declared.declared.Declared.TheVariants as declared
use Rattle.wdf_base.specs.declared.declared.PostLine.{PostLine}
use Rattle.wdf_base.specs.declared.script.AgentInfo.{AgentInfo}
use Rattle.wdf_model.specs.Plans.{as_device, device_of, device_of_agent, devices_of, first_device_agent, is_app}
use Rattle.wdf_model.proofs.Runs.{slice_get-take}
use Rattle.wdf_model.proofs.Tests.{both_left, both_right}
use Rattle.law_machine_lives.proofs.Lists.{all_at}

-- ---- lists

dropped_at : {T : Type 0} (n : ℕ) (xs : List T) (j : ℕ) → slice_get (drop n xs) j ≡ slice_get xs (n + j)
dropped_at zero xs j = let same : 0 + j ≡ j = omega arith in rw same refl
dropped_at (suc n) [] j = refl
dropped_at (suc n) (x ∷ xs) j = let same : suc n + j ≡ suc (n + j) = omega arith in rw same (dropped_at n xs j)

no_items : {T : Type 0} (xs : List T) → length xs ≡ 0 → xs ≡ []
no_items [] h = refl
no_items (x ∷ xs) h = absurd (omega (arith, h))

-- ---- devices by id

module _ (plan : Plan) where
  abbrev is_there : ℕ → Bool
  is_there id = is_some (device_of plan id)

  one_by : (id : ℕ) (d : Declared) (ds : List Declared) → declared_of plan id ≡ Some d → filter is_there (range_with_len (id + 1) (length ds)) ≡ device_ids (suc id) ds
      → filter is_there (range_with_len id (suc (length ds))) ≡ device_ids id (d ∷ ds)
  one_by id (declared.Device i) ds at rest = rw (ap (λ o. is_some (as_device o)) at) (ap (λ xs. id ∷ xs) rest)
  one_by id declared.Driver ds at rest = rw (ap (λ o. is_some (as_device o)) at) rest
  one_by id (declared.Queue q) ds at rest = rw (ap (λ o. is_some (as_device o)) at) rest
  one_by id (declared.Interrupt i) ds at rest = rw (ap (λ o. is_some (as_device o)) at) rest
  one_by id (declared.Target t) ds at rest = rw (ap (λ o. is_some (as_device o)) at) rest
  one_by id (declared.OfClass c) ds at rest = rw (ap (λ o. is_some (as_device o)) at) rest

  ids_from : (id : ℕ) (ds : List Declared) → ((j : ℕ) → declared_of plan (id + j) ≡ slice_get ds j) → filter is_there (range_with_len id (length ds)) ≡ device_ids id ds
  ids_from id [] h = refl
  ids_from id (d ∷ ds) h =
      let here : id + 0 ≡ id = omega arith in
      let next : id + 1 ≡ suc id = omega arith in
      let rest = ids_from (id + 1) ds (λ j. let there : id + 1 + j ≡ id + suc j = omega arith in ap (declared_of plan) there ∙ h (suc j)) in
      one_by id d ds (ap (declared_of plan) (sym here) ∙ h 0) (rest ∙ ap (λ i. device_ids i ds) next)

  -- the devices are those that the test of posts counts
  same_ids : devices_of plan ≡ device_ids 1 plan.declared
  same_ids = ids_from 1 plan.declared (λ j. let next : 1 + j ≡ suc j = omega arith in ap (declared_of plan) next)

-- ---- the lines of devices and of targets

-- a device's lines are acts of its own; another agent after the apps has none
abbrev LinesAre : Plan → Option ℕ → List PostLine → Type 0
LinesAre plan (Some d) ls = list_all (device_post plan d) ls ≡ true
LinesAre plan None ls = length ls ≡ 0

lines_at : (plan : Plan) (ids : List ℕ) (xs : List AgentInfo) → device_posts_fit plan ids xs ≡ true → (j : ℕ) (a : AgentInfo) → slice_get xs j ≡ Some a
    → (o : Option ℕ) → slice_get ids j ≡ o → LinesAre plan o a.posts
lines_at plan [] xs h j a at None is = eqb-true (length a.posts) 0 (all_at (λ (x : AgentInfo). length x.posts == 0) xs j a h at)
lines_at plan [] xs h j a at (Some d) is = absurd (let z : ⊥ = cc in z)
lines_at plan (id ∷ ids) [] h j a at o is = absurd (let z : ⊥ = cc in z)
lines_at plan (id ∷ ids) (b ∷ bs) h zero a at o is =
    let first : list_all (device_post plan id) b.posts ≡ true = both_left (list_all (device_post plan id) b.posts) (device_posts_fit plan ids bs) h in
    subst (λ o'. LinesAre plan o' a.posts) is (subst (λ (x : AgentInfo). list_all (device_post plan id) x.posts ≡ true) (same_Some b a at) first)
lines_at plan (id ∷ ids) (b ∷ bs) h (suc j) a at o is = lines_at plan ids bs (both_right (list_all (device_post plan id) b.posts) (device_posts_fit plan ids bs) h) j a at o is

no_lines : (plan : Plan) (o : Option ℕ) → LinesAre plan o []
no_lines plan None = refl
no_lines plan (Some d) = refl

module _ (plan : Plan) (resolved : IsResolved plan) where
  by_info : (j : ℕ) (o : Option ℕ) → slice_get (devices_of plan) j ≡ o → (x : Option AgentInfo) → slice_get (drop (app_count plan) plan.agents) j ≡ x → LinesAre plan o (agent_posts x)
  by_info j o is None at = no_lines plan o
  by_info j o is (Some a) at = lines_at plan (device_ids 1 plan.declared) (drop (app_count plan) plan.agents) resolved.device_posts j a at o (ap (λ ids. slice_get ids j) (sym (same_ids plan)) ∙ is)

  -- the lines of the agent with the number k, from the first agent of a device on
  lines_after : (k : ℕ) → first_device_agent plan ≤ k → (o : Option ℕ) → slice_get (devices_of plan) (k - first_device_agent plan) ≡ o → LinesAre plan o (posts_of plan k)
  lines_after k low o is =
      let j = k - first_device_agent plan in
      let number : k ≡ suc (app_count plan + j) = omega (arith, low) in
      let same : slice_get plan.agents (app_count plan + j) ≡ slice_get (drop (app_count plan) plan.agents) j = sym (dropped_at (app_count plan) plan.agents j) in
      rw number (rw same (by_info j o is (slice_get (drop (app_count plan) plan.agents) j) refl))

  device_by : (k d : ℕ) (b : Bool) → nat_lt k (first_device_agent plan) ≡ b → device_of_agent plan k ≡ Some d → list_all (device_post plan d) (posts_of plan k) ≡ true
  device_by k d true e h = absurd (let none : None ≡ Some d = rw e at h in let z : ⊥ = cc in z)
  device_by k d false e h = lines_after k (ltb-false k (first_device_agent plan) e) (Some d) (rw e at h)

  -- a device's lines are acts of its own
  pub device_lines : (k d : ℕ) → device_of_agent plan k ≡ Some d → list_all (device_post plan d) (posts_of plan k) ≡ true
  device_lines k d h = device_by k d (nat_lt k (first_device_agent plan)) refl h

  -- ---- the lines of apps

  app_by : (k : ℕ) → is_app plan k ≡ true → list_all (app_post plan) (posts_of plan k) ≡ true
  app_by zero h = absurd (let z : ⊥ = cc in z)
  app_by (suc j) h =
      let low : suc j < first_device_agent plan = ltb-true (suc j) (first_device_agent plan) (both_right (nat_lt 0 (suc j)) (nat_lt (suc j) (first_device_agent plan)) h) in
      of_info (slice_get plan.agents j) (slice_get-take plan.agents (app_count plan) j (omega (arith, low)))
    where
      of_info : (x : Option AgentInfo) → slice_get (apps plan) j ≡ x → list_all (app_post plan) (agent_posts x) ≡ true
      of_info None at = refl
      of_info (Some a) at = all_at (λ (y : AgentInfo). list_all (app_post plan) y.posts) (apps plan) j a resolved.app_posts at

  other_by : (k : ℕ) → (k == 0) ≡ false → is_app plan k ≡ false → device_of_agent plan k ≡ None → list_all (app_post plan) (posts_of plan k) ≡ true
  other_by k positive no_app none =
      let low : first_device_agent plan ≤ k = grind (arith, nat_tests) in
      let late : nat_lt k (first_device_agent plan) ≡ false = grind (arith, nat_tests) in
      let is : slice_get (devices_of plan) (k - first_device_agent plan) ≡ None = rw late at none in
      rw (no_items (posts_of plan k) (lines_after k low None is)) refl

  -- an app's lines are an app's, and so are those of an agent that is neither an app nor a device: it has none
  pub app_lines : (k : ℕ) → (k == 0) ≡ false → (is_app plan k ≡ true) ⊎ ((is_app plan k ≡ false) × (device_of_agent plan k ≡ None)) → list_all (app_post plan) (posts_of plan k) ≡ true
  app_lines k positive (inl is) = app_by k is
  app_lines k positive (inr other) = other_by k positive other.0 other.1
