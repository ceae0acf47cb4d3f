-- The agents of devices by their numbers: each device has one, which no other has, and it is there.
use Rattle.std.proofs.Common.{if◌then◌else◌, ◌≡◌, inl, inr, ℕ, zero, suc, ◌+◌, ◌-◌, ◌<◌, ◌≤◌, ◌==◌, nat_lt, Bool, true, false, List, [], ◌∷◌, length, map, filter, Option, Some, None, is_some, slice_get, refl, sym, ap, ◌∙◌, subst, arith, length-append}
use Rattle.std.specs.List.{cons_option, filter_map, position_or_len, range_with_len}
use Rattle.std.proofs.lemmas.Bool.{lt-ltb, ltb-false}
use Rattle.std.proofs.lemmas.Bool.Decides.{nat_tests}
use Rattle.std.proofs.lemmas.List.{length-drop, length-map}
use Rattle.std.proofs.lemmas.Option.{slice_get_within}
use Rattle.wdf_base.specs.Plan.{declared_of}
use Rattle.wdf_base.specs.Resolved.{IsResolved, agent_name, app_count, device_name, posting_names, target_name}
use Rattle.wdf_base.specs.declared.plan.Plan.{Plan}
use Rattle.wdf_base.specs.declared.declared.Declared.{Declared}
use Rattle.wdf_base.specs.declared.declared.Declared.TheVariants as declared
use Rattle.wdf_model.specs.Plans.{agent_count, agent_of_device, as_device, device_of, device_of_agent, devices_of, first_device_agent, place_in}
use Rattle.wdf_model.proofs.Counts.{not_equal, one_or_two}
use Rattle.wdf_model.proofs.Tests.{itself}

-- ---- places in a rising list

place_by : (p : ℕ → Bool) (a n i d : ℕ) (b : Bool) → p a ≡ b
    → ((j : ℕ) → slice_get (filter p (range_with_len (a + 1) n)) j ≡ Some d → (position_or_len (λ x. x == d) (filter p (range_with_len (a + 1) n)) ≡ j) × (a + 1 ≤ d))
    → slice_get (filter p (range_with_len a (suc n))) i ≡ Some d → (position_or_len (λ x. x == d) (filter p (range_with_len a (suc n))) ≡ i) × (a ≤ d)
place_by p a n zero d true e rest h =
    let at : Some a ≡ Some d = rw e at h in
    let same : a ≡ d = cc in
    (rw (e, same, itself d) refl, omega (arith, same))
place_by p a n (suc j) d true e rest h =
    let at : slice_get (filter p (range_with_len (a + 1) n)) j ≡ Some d = rw e at h in
    let r = rest j at in
    let low : a + 1 ≤ d = r.1 in
    (rw (e, not_equal a d (λ s. omega (arith, low, s)), r.0) (omega arith), omega (arith, low))
place_by p a n i d false e rest h =
    let at : slice_get (filter p (range_with_len (a + 1) n)) i ≡ Some d = rw e at h in
    let r = rest i at in
    let low : a + 1 ≤ d = r.1 in
    (rw e r.0, omega (arith, low))

place_at : (p : ℕ → Bool) (a n i d : ℕ) → slice_get (filter p (range_with_len a n)) i ≡ Some d → (position_or_len (λ x. x == d) (filter p (range_with_len a n)) ≡ i) × (a ≤ d)
place_at p a zero i d h = absurd (let z : ⊥ = cc in z)
place_at p a (suc n) i d h = place_by p a n i d (p a) refl (λ j x. place_at p (a + 1) n j d x) h

kept_by : (p : ℕ → Bool) (a n j d : ℕ) (b : Bool) → p a ≡ b → slice_get (filter p (range_with_len (a + 1) n)) j ≡ Some d → (i : ℕ) × (slice_get (filter p (range_with_len a (suc n))) i ≡ Some d)
kept_by p a n j d true e h = (suc j, rw e h)
kept_by p a n j d false e h = (j, rw e h)

kept_at : (p : ℕ → Bool) (a n d : ℕ) → p d ≡ true → a ≤ d → d < a + n → (i : ℕ) × (slice_get (filter p (range_with_len a n)) i ≡ Some d)
kept_at p a zero d is low high = absurd (omega (arith, low, high))
kept_at p a (suc n) d is low high = elim (one_or_two d a) [
  | inl e ↦ let first : p a ≡ true = ap p (sym e) ∙ is in (0, rw first (ap Some (sym e)))
  | inr e ↦ let rest = kept_at p (a + 1) n d is (omega (arith, low, e)) (omega (arith, high)) in kept_by p a n rest.0 d (p a) refl rest.1
]

-- ---- the number of a device's agent

abbrev is_there : Plan → ℕ → Bool
is_there plan id = is_some (device_of plan id)

number_by : (plan : Plan) (k d : ℕ) (b : Bool) → nat_lt k (first_device_agent plan) ≡ b → device_of_agent plan k ≡ Some d → k ≡ agent_of_device plan d
number_by plan k d true e h = absurd (let none : None ≡ Some d = rw e at h in let z : ⊥ = cc in z)
number_by plan k d false e h =
    let low : first_device_agent plan ≤ k = ltb-false k (first_device_agent plan) e in
    let at : slice_get (devices_of plan) (k - first_device_agent plan) ≡ Some d = rw e at h in
    let place = (place_at (is_there plan) 0 (suc (length plan.declared)) (k - first_device_agent plan) d at).0 in
    let within : nat_lt (k - first_device_agent plan) (length (devices_of plan)) ≡ true = lt-ltb _ _ (slice_get_within (devices_of plan) (k - first_device_agent plan) d at) in
    let here : place_in d (devices_of plan) ≡ k - first_device_agent plan = rw (place, within) refl in
    omega (arith, low, here)

pub own_number : (plan : Plan) (k d : ℕ) → device_of_agent plan k ≡ Some d → k ≡ agent_of_device plan d
own_number plan k d h = number_by plan k d (nat_lt k (first_device_agent plan)) refl h

within_declared : (plan : Plan) (d : ℕ) → is_there plan d ≡ true → d < suc (length plan.declared)
within_declared plan zero h = omega arith
within_declared plan (suc j) h = by (slice_get plan.declared j) refl h
  where
    by : (o : Option Declared) → slice_get plan.declared j ≡ o → is_some (as_device o) ≡ true → suc j < suc (length plan.declared)
    by None e is = absurd (let z : ⊥ = cc in z)
    by (Some x) e is = let inside = slice_get_within plan.declared j x e in omega (arith, inside)

pub is_agent : (plan : Plan) (d : ℕ) → is_there plan d ≡ true → device_of_agent plan (agent_of_device plan d) ≡ Some d
is_agent plan d is =
    let found = kept_at (is_there plan) 0 (suc (length plan.declared)) d is (omega arith) (let w = within_declared plan d is in omega (arith, w)) in
    let late : nat_lt (first_device_agent plan + found.0) (first_device_agent plan) ≡ false = ltb-no (first_device_agent plan) found.0 in
    let same : first_device_agent plan + found.0 - first_device_agent plan ≡ found.0 = omega arith in
    let at : device_of_agent plan (first_device_agent plan + found.0) ≡ Some d = rw (late, same) found.1 in
    subst (λ k. device_of_agent plan k ≡ Some d) (own_number plan (first_device_agent plan + found.0) d at) at
  where
    ltb-no : (f n : ℕ) → nat_lt (f + n) f ≡ false
    ltb-no f n = grind (arith, nat_tests)

-- ---- it is there

device_alike : (o : Declared) → is_some (as_device (Some o)) ≡ is_some (device_name o)
device_alike (declared.Device d) = refl
device_alike _ = refl

one_more : (id : ℕ) (xs ys : List ℕ) (o : Option ℕ) → length xs ≡ length ys → length (if is_some o then id ∷ xs else xs) ≡ length (cons_option o ys)
one_more id xs ys None e = e
one_more id xs ys (Some n) e = ap suc e

as_many : (plan : Plan) (id : ℕ) (ds : List Declared) → ((j : ℕ) → declared_of plan (id + j) ≡ slice_get ds j) → length (filter (is_there plan) (range_with_len id (length ds))) ≡ length (filter_map device_name ds)
as_many plan id [] h = refl
as_many plan id (d ∷ ds) h =
    let here : id + 0 ≡ id = omega arith in
    let it : is_there plan id ≡ is_some (device_name d) = ap (λ o. is_some (as_device o)) (ap (declared_of plan) (sym here) ∙ h 0) ∙ device_alike d in
    let rest = as_many plan (id + 1) ds (λ j. let there : id + 1 + j ≡ id + suc j = omega arith in ap (declared_of plan) there ∙ h (suc j)) in
    rw it (one_more id (filter (is_there plan) (range_with_len (id + 1) (length ds))) (filter_map device_name ds) (device_name d) rest)

pub agent_there : (plan : Plan) → IsResolved plan → (k d : ℕ) → device_of_agent plan k ≡ Some d → k < agent_count plan
agent_there plan resolved k d h = by (nat_lt k (first_device_agent plan)) refl h
  where
    by : (b : Bool) → nat_lt k (first_device_agent plan) ≡ b → device_of_agent plan k ≡ Some d → k < agent_count plan
    by true e at = absurd (let none : None ≡ Some d = rw e at at in let z : ⊥ = cc in z)
    by false e at =
        let low : first_device_agent plan ≤ k = ltb-false k (first_device_agent plan) e in
        let here : slice_get (devices_of plan) (k - first_device_agent plan) ≡ Some d = rw e at at in
        let within = slice_get_within (devices_of plan) (k - first_device_agent plan) d here in
        let many : length (devices_of plan) ≡ length (filter_map device_name plan.declared) = as_many plan 1 plan.declared (λ j. let next : 1 + j ≡ suc j = omega arith in ap (declared_of plan) next) in
        let posting : length (posting_names plan) ≡ length (filter_map device_name plan.declared) + length (filter_map target_name plan.declared) = length-append (filter_map device_name plan.declared) (filter_map target_name plan.declared) in
        let end : length (map agent_name plan.agents) - app_count plan ≡ length (posting_names plan) = sym (length-drop (app_count plan) (map agent_name plan.agents)) ∙ ap length resolved.agents_end in
        let all : length (map agent_name plan.agents) ≡ length plan.agents = length-map plan.agents agent_name in
        omega (arith, low, within, many, posting, end, all)
