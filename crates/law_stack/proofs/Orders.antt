-- A post keeps the law on the order of a stack where it is the first of its list, and where the device of the post before it has
-- come to what that one asked.
use Rattle.std.proofs.Common.{if◌then◌else◌, ◌≡◌, ℕ, Bool, true, false, not, List, [], ◌∷◌, ◌++◌, Option, Some, None, option_map, refl, sym, ap, ◌∙◌}
use Rattle.wdf_base.specs.declared.plan.Plan.{Plan}
use Rattle.wdf_base.specs.declared.ids.Handle.{Handle}
use Rattle.wdf_base.specs.declared.event.Ask.{Ask}
use Rattle.wdf_base.specs.declared.event.Event.{Event}
use Rattle.wdf_model.specs.declared.enums.Phase.{Phase}
use Rattle.wdf_model.specs.declared.stack.StackDevice.{StackDevice}
use Rattle.wdf_model.specs.agents.Chains.{above, below, device_handle}
use Rattle.wdf_model.specs.agents.StackManager.{above_in, below_in, follower, goes_up, is_alone, leader}
use Rattle.law_stack.specs.Laws.{asked_in_order, if_works, unless_works}
use Rattle.law_stack.specs.Words.{works, works_step}
use Rattle.law_stack.proofs.Chains.{Knows, above_has_below, below_has_above, is_declared, works_next}
use Rattle.law_stack.proofs.Lines.{above_known, below_known, handle_is}

none_is : (plan : Plan) (o : Option ℕ) → option_map (device_handle plan) o ≡ None → o ≡ None
none_is plan None h = refl
none_is plan (Some x) h = absurd (let z : ⊥ = cc in z)

-- a device has come to what a post asked: it works after one that goes up, and doesn't after one that goes down
abbrev pub has_come : Plan → List Event → Ask → ℕ → Bool
has_come plan es a d = if goes_up a then works plan d es else not (works plan d es)

-- the device after one in a list, by the plan
abbrev pub follower_of : Plan → Ask → ℕ → Option Handle
follower_of plan a d =
    if is_alone a then None else if goes_up a then option_map (device_handle plan) (above plan d) else option_map (device_handle plan) (below plan d)

module _ (plan : Plan) (es : List Event) (devices : List StackDevice) (phase : ℕ → Phase) (K : Knows plan es devices phase) where
  first_by : (d : ℕ) (alone up : Bool) → is_declared plan d ≡ true → (if alone then None else if up then below_in devices d else above_in devices d) ≡ None
      → (if alone then true else if up then if_works plan es (below plan d) else unless_works plan es (above plan d)) ≡ true
  first_by d true up there h = refl
  first_by d false true there h = ap (if_works plan es) (none_is plan (below plan d) (sym (below_known plan es devices phase K d there) ∙ h))
  first_by d false false there h = ap (unless_works plan es) (none_is plan (above plan d) (sym (above_known plan es devices phase K d there) ∙ h))

  -- the first post of a list
  pub first_in_order : (a : Ask) (d : ℕ) → is_declared plan d ≡ true → leader devices a d ≡ None → asked_in_order plan es a d ≡ true
  first_in_order a d there h = first_by d (is_alone a) (goes_up a) there h

  follower_by : (d : ℕ) (alone up : Bool) → is_declared plan d ≡ true
      → (if alone then None else if up then above_in devices d else below_in devices d) ≡ (if alone then None else if up then option_map (device_handle plan) (above plan d) else option_map (device_handle plan) (below plan d))
  follower_by d true up there = refl
  follower_by d false true there = above_known plan es devices phase K d there
  follower_by d false false there = below_known plan es devices phase K d there

  -- the manager knows it
  pub follower_known : (a : Ask) (d : ℕ) → is_declared plan d ≡ true → follower devices a d ≡ follower_of plan a d
  follower_known a d there = follower_by d (is_alone a) (goes_up a) there

next_by : (plan : Plan) (es : List Event) (d : ℕ) (e : Handle) (alone up : Bool)
    → (if alone then None else if up then option_map (device_handle plan) (above plan d) else option_map (device_handle plan) (below plan d)) ≡ Some e
    → (alone ≡ false → (if up then works plan d es else not (works plan d es)) ≡ true)
    → (if alone then true else if up then if_works plan es (below plan e.id.0) else unless_works plan es (above plan e.id.0)) ≡ true
next_by plan es d e true up h come = refl
next_by plan es d e false true h come = ap (if_works plan es) (above_has_below plan e.id.0 d (handle_is plan (above plan d) e h)) ∙ come refl
next_by plan es d e false false h come = ap (unless_works plan es) (below_has_above plan d e.id.0 (handle_is plan (below plan d) e h)) ∙ come refl

-- the post after one whose device has come to what was asked
pub next_in_order : (plan : Plan) (es : List Event) (a : Ask) (d : ℕ) (e : Handle) → follower_of plan a d ≡ Some e → (is_alone a ≡ false → has_come plan es a d ≡ true) → asked_in_order plan es a e.id.0 ≡ true
next_in_order plan es a d e h come = next_by plan es d e (is_alone a) (goes_up a) h come

-- ---- events that leave each device working or not

module _ (plan : Plan) (es : List Event) (e : Event) (stays : (d : ℕ) → works_step d (works plan d es) e ≡ works plan d es) where
  works_stays : (d : ℕ) → works plan d (es ++ e ∷ []) ≡ works plan d es
  works_stays d = works_next plan d es e ∙ stays d

  if_stays : (o : Option ℕ) → if_works plan (es ++ e ∷ []) o ≡ if_works plan es o
  if_stays None = refl
  if_stays (Some d) = works_stays d

  unless_stays : (o : Option ℕ) → unless_works plan (es ++ e ∷ []) o ≡ unless_works plan es o
  unless_stays None = refl
  unless_stays (Some d) = ap not (works_stays d)

  order_by : (d : ℕ) (alone up : Bool) → (if alone then true else if up then if_works plan es (below plan d) else unless_works plan es (above plan d)) ≡ true
      → (if alone then true else if up then if_works plan (es ++ e ∷ []) (below plan d) else unless_works plan (es ++ e ∷ []) (above plan d)) ≡ true
  order_by d true up h = refl
  order_by d false true h = if_stays (below plan d) ∙ h
  order_by d false false h = unless_stays (above plan d) ∙ h

  -- a post that was in order still is
  pub order_stays : (a : Ask) (d : ℕ) → asked_in_order plan es a d ≡ true → asked_in_order plan (es ++ e ∷ []) a d ≡ true
  order_stays a d h = order_by d (is_alone a) (goes_up a) h
