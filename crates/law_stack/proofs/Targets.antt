-- The agents of targets: no two have one target, and none is the Plug and Play manager's or an app's.
use Rattle.std.proofs.Common.{◌≡◌, ℕ, zero, suc, ◌+◌, ◌-◌, ◌<◌, ◌≤◌, nat_lt, Bool, true, false, filter, length, Option, Some, None, option_and_then, is_some, slice_get, refl, sym, ap, ◌∙◌, arith}
use Rattle.std.specs.List.{range_with_len}
use Rattle.std.proofs.lemmas.Bool.{lt-ltb, ltb-false}
use Rattle.wdf_base.specs.declared.plan.Plan.{Plan}
use Rattle.wdf_model.specs.Plans.{devices_of, first_device_agent, target_of_agent, targets_of, target_of}
use Rattle.wdf_model.specs.agents.Chains.{connected_to}
use Rattle.law_stack.specs.Words.{connector_of, if_connected}

least_by : (p : ℕ → Bool) (a n k t : ℕ) (b : Bool) → p a ≡ b → ((j : ℕ) → slice_get (filter p (range_with_len (a + 1) n)) j ≡ Some t → a + 1 ≤ t) → slice_get (filter p (range_with_len a (suc n))) k ≡ Some t → a ≤ t
least_by p a n zero t true e rest h = let at : Some a ≡ Some t = rw e at h in let same : a ≡ t = cc in omega arith
least_by p a n (suc k) t true e rest h = let at : slice_get (filter p (range_with_len (a + 1) n)) k ≡ Some t = rw e at h in let l = rest k at in omega arith
least_by p a n k t false e rest h = let at : slice_get (filter p (range_with_len (a + 1) n)) k ≡ Some t = rw e at h in let l = rest k at in omega arith

least : (p : ℕ → Bool) (a n k t : ℕ) → slice_get (filter p (range_with_len a n)) k ≡ Some t → a ≤ t
least p a zero k t h = absurd (let z : ⊥ = cc in z)
least p a (suc n) k t h = least_by p a n k t (p a) refl (λ j e. least p (a + 1) n j t e) h

one_place_by : (p : ℕ → Bool) (a n i j t : ℕ) (b : Bool) → p a ≡ b → ((i j : ℕ) → slice_get (filter p (range_with_len (a + 1) n)) i ≡ Some t → slice_get (filter p (range_with_len (a + 1) n)) j ≡ Some t → i ≡ j)
    → slice_get (filter p (range_with_len a (suc n))) i ≡ Some t → slice_get (filter p (range_with_len a (suc n))) j ≡ Some t → i ≡ j
one_place_by p a n zero zero t true e rest h k = refl
one_place_by p a n zero (suc j) t true e rest h k =
    let at : Some a ≡ Some t = rw e at h in
    let same : a ≡ t = cc in
    let later : slice_get (filter p (range_with_len (a + 1) n)) j ≡ Some t = rw e at k in
    absurd (let l = least p (a + 1) n j t later in omega (arith, l, same))
one_place_by p a n (suc i) zero t true e rest h k =
    let at : Some a ≡ Some t = rw e at k in
    let same : a ≡ t = cc in
    let later : slice_get (filter p (range_with_len (a + 1) n)) i ≡ Some t = rw e at h in
    absurd (let l = least p (a + 1) n i t later in omega (arith, l, same))
one_place_by p a n (suc i) (suc j) t true e rest h k =
    let x : slice_get (filter p (range_with_len (a + 1) n)) i ≡ Some t = rw e at h in
    let y : slice_get (filter p (range_with_len (a + 1) n)) j ≡ Some t = rw e at k in
    ap suc (rest i j x y)
one_place_by p a n i j t false e rest h k =
    let x : slice_get (filter p (range_with_len (a + 1) n)) i ≡ Some t = rw e at h in
    let y : slice_get (filter p (range_with_len (a + 1) n)) j ≡ Some t = rw e at k in
    rest i j x y

one_place : (p : ℕ → Bool) (a n i j t : ℕ) → slice_get (filter p (range_with_len a n)) i ≡ Some t → slice_get (filter p (range_with_len a n)) j ≡ Some t → i ≡ j
one_place p a zero i j t h k = absurd (let z : ⊥ = cc in z)
one_place p a (suc n) i j t h k = one_place_by p a n i j t (p a) refl (λ x y. one_place p (a + 1) n x y t) h k

-- the place of an agent's target, from the first agent of a target on
place_by : (plan : Plan) (k t : ℕ) (b : Bool) → nat_lt k (first_device_agent plan + length (devices_of plan)) ≡ b → target_of_agent plan k ≡ Some t
    → (first_device_agent plan + length (devices_of plan) ≤ k) × (slice_get (targets_of plan) (k - (first_device_agent plan + length (devices_of plan))) ≡ Some t)
place_by plan k t true e h = absurd (let n : None ≡ Some t = rw e at h in let z : ⊥ = cc in z)
place_by plan k t false e h = (ltb-false k (first_device_agent plan + length (devices_of plan)) e, rw e at h)

target_place : (plan : Plan) (k t : ℕ) → target_of_agent plan k ≡ Some t
    → (first_device_agent plan + length (devices_of plan) ≤ k) × (slice_get (targets_of plan) (k - (first_device_agent plan + length (devices_of plan))) ≡ Some t)
target_place plan k t h = place_by plan k t (nat_lt k (first_device_agent plan + length (devices_of plan))) refl h

pub one_agent : (plan : Plan) (k j t : ℕ) → target_of_agent plan k ≡ Some t → target_of_agent plan j ≡ Some t → k ≡ j
one_agent plan k j t h i =
    let a = target_place plan k t h in
    let b = target_place plan j t i in
    let same = one_place (λ id. is_some (target_of plan id)) 0 (suc (length plan.declared)) (k - (first_device_agent plan + length (devices_of plan))) (j - (first_device_agent plan + length (devices_of plan))) t a.1 b.1 in
    let la = a.0 in let lb = b.0 in
    omega (arith, same, la, lb)

-- an agent before those of targets has none
pub no_target_before : (plan : Plan) (k : ℕ) → k < first_device_agent plan → connector_of plan k ≡ None
no_target_before plan k h =
    let early : nat_lt k (first_device_agent plan + length (devices_of plan)) ≡ true = lt-ltb k (first_device_agent plan + length (devices_of plan)) (omega (arith, h)) in
    rw early refl

connected_is : (plan : Plan) (u t : ℕ) (b : Bool) → is_some (connected_to plan u) ≡ b → if_connected plan u ≡ Some t → u ≡ t
connected_is plan u t true e h = let n : Some u ≡ Some t = rw e at h in cc
connected_is plan u t false e h = absurd (let n : None ≡ Some t = rw e at h in let z : ⊥ = cc in z)

target_by : (plan : Plan) (k t : ℕ) (o : Option ℕ) → target_of_agent plan k ≡ o → connector_of plan k ≡ Some t → target_of_agent plan k ≡ Some t
target_by plan k t None e h = absurd (let n : None ≡ Some t = ap (option_and_then (if_connected plan)) (sym e) ∙ h in let z : ⊥ = cc in z)
target_by plan k t (Some u) e h =
    let n : if_connected plan u ≡ Some t = ap (option_and_then (if_connected plan)) (sym e) ∙ h in
    e ∙ ap Some (connected_is plan u t (is_some (connected_to plan u)) refl n)

-- the connected target is the agent's
pub its_target : (plan : Plan) (k t : ℕ) → connector_of plan k ≡ Some t → target_of_agent plan k ≡ Some t
its_target plan k t h = target_by plan k t (target_of_agent plan k) refl h
