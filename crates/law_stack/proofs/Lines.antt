-- Who comes before a device in a line's list, as the stack manager knows it: the device below or above by the plan. So a list
-- begins at the end of its chain.
use Rattle.std.proofs.Common.{if◌then◌else◌, ◌≡◌, ℕ, ◌==◌, nat_lt, ◌<◌, ◌≤◌, Bool, true, false, ◌||◌, List, [], ◌∷◌, find, length, Option, Some, None, option_map, option_and_then, refl, sym, ap, ◌∙◌, arith}
use Rattle.std.specs.List.{list_any}
use Rattle.std.proofs.lemmas.List.Sums.{count_by-le-length}
use Rattle.wdf_base.specs.declared.plan.Plan.{Plan}
use Rattle.wdf_base.specs.declared.ids.Handle.{Handle}
use Rattle.wdf_base.specs.declared.event.Ask.{Ask}
use Rattle.wdf_base.specs.declared.event.Event.{Event}
use Rattle.wdf_model.specs.declared.enums.Phase.{Phase}
use Rattle.wdf_model.specs.declared.stack.StackDevice.{StackDevice}
use Rattle.wdf_model.specs.Tables.{same_id}
use Rattle.wdf_model.specs.Plans.{devices_of}
use Rattle.wdf_model.specs.agents.Chains.{above, below, device_handle, device_named_by, if_above, named_device, names_device, naming_target}
use Rattle.wdf_model.specs.agents.StackManager.{above_in, below_in, first_in, goes_up, is_alone, leader}
use Rattle.wdf_model.proofs.Tests.{itself, second}
use Rattle.law_stack.proofs.Chains.{Knows, above_has_below, is_declared}
use Rattle.law_stack.proofs.Firsts.{Nears, comes_to_first, over, over_less, under, under_less}

-- ---- each device of a chain is declared

found_by : (p : ℕ → Bool) (x : ℕ) (xs : List ℕ) (y : ℕ) (b : Bool) → p x ≡ b → (find p xs ≡ Some y → list_any (λ z. z == y) xs ≡ true) → find p (x ∷ xs) ≡ Some y → list_any (λ z. z == y) (x ∷ xs) ≡ true
found_by p x xs y true e rest h =
    let n : Some x ≡ Some y = rw e at h in
    let same : x ≡ y = cc in
    let on : (x == y) ≡ true = ap (λ z. x == z) (sym same) ∙ itself x in
    ap (λ b. b || list_any (λ z. z == y) xs) on
found_by p x xs y false e rest h = second (x == y) (list_any (λ z. z == y) xs) (rest (rw e at h))

found_there : (p : ℕ → Bool) (xs : List ℕ) (y : ℕ) → find p xs ≡ Some y → list_any (λ z. z == y) xs ≡ true
found_there p [] y h = absurd (let z : ⊥ = cc in z)
found_there p (x ∷ xs) y h = found_by p x xs y (p x) refl (found_there p xs y) h

pub above_declared : (plan : Plan) (d e : ℕ) → above plan d ≡ Some e → is_declared plan e ≡ true
above_declared plan d e h = found_there (λ x. same_id (device_named_by plan x) d) (devices_of plan) e h

named_declared : (plan : Plan) (e : ℕ) (o : Option ℕ) → option_and_then (named_device plan) o ≡ Some e → is_declared plan e ≡ true
named_declared plan e None h = absurd (let z : ⊥ = cc in z)
named_declared plan e (Some t) h = found_there (names_device plan t) (devices_of plan) e h

if_above_is : (plan : Plan) (d x e : ℕ) (b : Bool) → same_id (above plan x) d ≡ b → if_above plan d (Some x) ≡ Some e → Some x ≡ Some e
if_above_is plan d x e true s h = rw s at h
if_above_is plan d x e false s h = absurd (let n : None ≡ Some e = rw s at h in let z : ⊥ = cc in z)

pub named_below : (plan : Plan) (d e : ℕ) (o : Option ℕ) → if_above plan d o ≡ Some e → o ≡ Some e
named_below plan d e None h = absurd (let z : ⊥ = cc in z)
named_below plan d e (Some x) h = if_above_is plan d x e (same_id (above plan x) d) refl h

pub below_declared : (plan : Plan) (d e : ℕ) → below plan d ≡ Some e → is_declared plan e ≡ true
below_declared plan d e h = named_declared plan e (naming_target plan d) (named_below plan d e (device_named_by plan d) h)

-- ---- who comes before

-- a device below another has the greater id
abbrev pub Rises : Plan → Type 0
Rises plan = (d e : ℕ) → below plan d ≡ Some e → d < e

pub handle_is : (plan : Plan) (o : Option ℕ) (e : Handle) → option_map (device_handle plan) o ≡ Some e → o ≡ Some e.id.0
handle_is plan None e h = absurd (let z : ⊥ = cc in z)
handle_is plan (Some x) e h = let same : device_handle plan x ≡ e = cc in ap (λ (y : Handle). Some y.id.0) same

module _ (plan : Plan) (es : List Event) (devices : List StackDevice) (phase : ℕ → Phase) (K : Knows plan es devices phase) where
  pub below_known : (d : ℕ) → is_declared plan d ≡ true → below_in devices d ≡ option_map (device_handle plan) (below plan d)
  below_known d there = ap (option_and_then (λ (x : StackDevice). x.below)) (K.knows d there)

  pub above_known : (d : ℕ) → is_declared plan d ≡ true → above_in devices d ≡ option_map (device_handle plan) (above plan d)
  above_known d there = ap (option_and_then (λ (x : StackDevice). x.above)) (K.knows d there)

  -- a list that goes up
  up_by : (a : Ask) (d : ℕ) (e : Handle) (alone up : Bool) → up ≡ true → is_declared plan d ≡ true → (if alone then None else if up then below_in devices d else above_in devices d) ≡ Some e → below plan d ≡ Some e.id.0
  up_by a d e true up u there h = absurd (let z : ⊥ = cc in z)
  up_by a d e false true u there h = handle_is plan (below plan d) e (sym (below_known d there) ∙ h)
  up_by a d e false false u there h = absurd (let z : ⊥ = cc in z)

  down_by : (a : Ask) (d : ℕ) (e : Handle) (alone up : Bool) → up ≡ false → is_declared plan d ≡ true → (if alone then None else if up then below_in devices d else above_in devices d) ≡ Some e → above plan d ≡ Some e.id.0
  down_by a d e true up u there h = absurd (let z : ⊥ = cc in z)
  down_by a d e false true u there h = absurd (let z : ⊥ = cc in z)
  down_by a d e false false u there h = handle_is plan (above plan d) e (sym (above_known d there) ∙ h)

  module _ (rises : Rises plan) (a : Ask) where
    pub near_up : goes_up a ≡ true → Nears devices a
    near_up up = record {
      Is = λ d. is_declared plan d ≡ true;
      far = λ d. over d (devices_of plan);
      goes = λ d e there h.
          let it : below plan d ≡ Some e.id.0 = up_by a d e (is_alone a) (goes_up a) up there h in
          let too = below_declared plan d e.id.0 it in
          (too, over_less d e.id.0 (devices_of plan) (rises d e.id.0 it) too);
    }

    pub near_down : goes_up a ≡ false → Nears devices a
    near_down down = record {
      Is = λ d. is_declared plan d ≡ true;
      far = λ d. under d (devices_of plan);
      goes = λ d e there h.
          let it : above plan d ≡ Some e.id.0 = down_by a d e (is_alone a) (goes_up a) down there h in
          let too = above_declared plan d e.id.0 it in
          (too, under_less d e.id.0 (devices_of plan) (rises e.id.0 d (above_has_below plan e.id.0 d it)) too);
    }

    first_by : (n : ℕ) (d : Handle) (up : Bool) → goes_up a ≡ up → is_declared plan d.id.0 ≡ true → length (devices_of plan) ≤ n → leader devices a (first_in devices a n d).id.0 ≡ None
    unfolding near_down near_up
    first_by n d true u there enough =
        let few = count_by-le-length (nat_lt d.id.0) (devices_of plan) in
        (comes_to_first devices a (near_up u) n d there (omega (arith, few, enough))).none
    first_by n d false u there enough =
        let few = count_by-le-length (λ x. nat_lt x d.id.0) (devices_of plan) in
        (comes_to_first devices a (near_down u) n d there (omega (arith, few, enough))).none

    -- the first device of a list has none before it
    pub nothing_before : (n : ℕ) (d : Handle) → is_declared plan d.id.0 ≡ true → length (devices_of plan) ≤ n → leader devices a (first_in devices a n d).id.0 ≡ None
    nothing_before n d there enough = first_by n d (goes_up a) refl there enough
