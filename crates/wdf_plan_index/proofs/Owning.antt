-- The ids of the devices, and of the targets.
use Rattle.std.proofs.Common.{◌≡◌, ℕ, zero, suc, ◌+◌, ◌-◌, Bool, true, false, List, [], ◌∷◌, ◌++◌, Option, Some, None, is_some, filter, length, slice_get, take, refl, sym, ap, ◌∙◌, arith}
use Rattle.std.specs.List.{filter_map, range_with_len}
use Rattle.std.proofs.lemmas.List.{length-append}
use Rattle.std.proofs.lemmas.List.Elements.{filter-append}
use Rattle.wdf_base.specs.declared.plan.Plan.{Plan}
use Rattle.wdf_base.specs.declared.declared.Declared.{Declared}
use Rattle.wdf_base.specs.Plan.{declared_of}
use Rattle.wdf_base.specs.Resolved.{app_count}
use Rattle.wdf_model.specs.Tables.{flag}
use Rattle.wdf_plan_index.specs.declared.owners.Owner.{Owner}
use Rattle.wdf_plan_index.specs.declared.owners.Owner.TheVariants as owner
use Rattle.wdf_model.specs.Plans.{as_device, as_target, declared_ids, devices_of, targets_of}
use Rattle.wdf_base.specs.declared.declared.Declared.TheVariants as declared
use Rattle.wdf_plan_index.specs.Owners.{ids_of, is_id_of, is_of, name_of, names_of}
use Rattle.wdf_plan_index.proofs.Gathering.{append_none, kept, passed}

span_more : (a n : ℕ) → range_with_len a (suc n) ≡ range_with_len a n ++ (a + n) ∷ []
span_more a zero = let e : a + 0 ≡ a = omega arith in rw e refl
span_more a (suc n) =
    let e : (a + 1) + n ≡ a + suc n = omega arith in
    ap (λ xs. a ∷ xs) (span_more (a + 1) n ∙ ap (λ j. range_with_len (a + 1) n ++ j ∷ []) e)

-- the ids of this sort among the first k
abbrev pub so_far : Owner → Plan → ℕ → List ℕ
so_far s plan k = filter (λ id. is_id_of s (declared_of plan id)) (range_with_len 0 (suc k))

-- one id more, and whether it is of this sort
module _ (s : Owner) (plan : Plan) (k : ℕ) (o : Declared) (at : declared_of plan (k + 1) ≡ Some o) where
  front : (rest : List ℕ) → filter (λ id. is_id_of s (declared_of plan id)) ((1 + k) ∷ []) ≡ rest → so_far s plan (k + 1) ≡ so_far s plan k ++ rest
  front rest last =
      let long : k + 1 ≡ suc k = omega arith in
      ap (λ n. filter (λ id. is_id_of s (declared_of plan id)) (range_with_len 1 n)) long
      ∙ ap (filter (λ id. is_id_of s (declared_of plan id))) (span_more 1 k)
      ∙ filter-append (λ id. is_id_of s (declared_of plan id)) (range_with_len 1 k) ((1 + k) ∷ [])
      ∙ ap (λ zs. filter (λ id. is_id_of s (declared_of plan id)) (range_with_len 1 k) ++ zs) last

  pub one_more : is_of s o ≡ true → so_far s plan (k + 1) ≡ so_far s plan k ++ (k + 1) ∷ []
  one_more e =
      let here : 1 + k ≡ k + 1 = omega arith in
      front ((k + 1) ∷ []) (rw (here, at, e) refl)

  pub no_more : is_of s o ≡ false → so_far s plan (k + 1) ≡ so_far s plan k
  no_more e =
      let here : 1 + k ≡ k + 1 = omega arith in
      front [] (rw (here, at, e) refl) ∙ append_none (so_far s plan k)

is_declared : (plan : Plan) (k : ℕ) (o : Declared) → declared_of plan (k + 1) ≡ Some o → slice_get plan.declared k ≡ Some o
is_declared plan k o at = let n : suc k ≡ k + 1 = omega arith in ap (declared_of plan) n ∙ at

named_by : (s : Owner) (plan : Plan) (k : ℕ) (o : Declared) (name : Option ℕ) → slice_get plan.declared k ≡ Some o → name_of s o ≡ name
    → length (filter_map (name_of s) (take (suc k) plan.declared)) ≡ length (filter_map (name_of s) (take k plan.declared)) + flag (is_some name)
named_by s plan k o (Some n) at e = ap length (kept (name_of s) plan.declared k o n at e) ∙ length-append (filter_map (name_of s) (take k plan.declared)) (n ∷ [])
named_by s plan k o None at e = let z = ap length (passed (name_of s) plan.declared k o at e) in omega (arith, z)

-- what is found so far, after one declared object more
pub grown : (s : Owner) (plan : Plan) (k : ℕ) (o : Declared) (ids : List ℕ) → declared_of plan (k + 1) ≡ Some o → is_of s o ≡ true → ids ≡ so_far s plan k → length ids ≡ length (filter_map (name_of s) (take k plan.declared))
    → (ids ++ (k + 1) ∷ [] ≡ so_far s plan (k + 1)) × (length (ids ++ (k + 1) ∷ []) ≡ length (filter_map (name_of s) (take (k + 1) plan.declared)))
grown s plan k o ids at e is long =
    let more = named_by s plan k o (name_of s o) (is_declared plan k o at) refl in
    let one : flag (is_some (name_of s o)) ≡ 1 = ap flag e in
    let all = length-append ids ((k + 1) ∷ []) in
    let n : suc k ≡ k + 1 = omega arith in
    let end = ap (λ j. length (filter_map (name_of s) (take j plan.declared))) n in
    (ap (λ xs. xs ++ (k + 1) ∷ []) is ∙ sym (one_more s plan k o at e), omega (arith, more, one, all, end, long))

pub unchanged : (s : Owner) (plan : Plan) (k : ℕ) (o : Declared) (ids : List ℕ) → declared_of plan (k + 1) ≡ Some o → is_of s o ≡ false → ids ≡ so_far s plan k → length ids ≡ length (filter_map (name_of s) (take k plan.declared))
    → (ids ≡ so_far s plan (k + 1)) × (length ids ≡ length (filter_map (name_of s) (take (k + 1) plan.declared)))
unchanged s plan k o ids at e is long =
    let more = named_by s plan k o (name_of s o) (is_declared plan k o at) refl in
    let none : flag (is_some (name_of s o)) ≡ 0 = ap flag e in
    let n : suc k ≡ k + 1 = omega arith in
    let end = ap (λ j. length (filter_map (name_of s) (take j plan.declared))) n in
    (is ∙ sym (no_more s plan k o at e), omega (arith, more, none, end, long))

-- the apps are as many as the agents that are none's
pub apps_are : (plan : Plan) (d t : ℕ) → d ≡ length (names_of owner.Device plan) → t ≡ length (names_of owner.Target plan) → length plan.agents - (d + t) ≡ app_count plan
apps_are plan d t e f =
    let all = length-append (names_of owner.Device plan) (names_of owner.Target plan) in
    omega (arith, all)

-- ---- the ids are the definitions'

filter_alike : (p q : ℕ → Bool) → ((x : ℕ) → p x ≡ q x) → (xs : List ℕ) → filter p xs ≡ filter q xs
filter_alike p q same [] = refl
filter_alike p q same (x ∷ xs) = rw (same x, filter_alike p q same xs) refl

device_alike : (o : Option Declared) → is_id_of owner.Device o ≡ is_some (as_device o)
device_alike None = refl
device_alike (Some declared.Driver) = refl
device_alike (Some (declared.Device d)) = refl
device_alike (Some (declared.Queue q)) = refl
device_alike (Some (declared.Interrupt i)) = refl
device_alike (Some (declared.Target t)) = refl
device_alike (Some (declared.OfClass c)) = refl

target_alike : (o : Option Declared) → is_id_of owner.Target o ≡ is_some (as_target o)
target_alike None = refl
target_alike (Some declared.Driver) = refl
target_alike (Some (declared.Device d)) = refl
target_alike (Some (declared.Queue q)) = refl
target_alike (Some (declared.Interrupt i)) = refl
target_alike (Some (declared.Target t)) = refl
target_alike (Some (declared.OfClass c)) = refl

pub device_ids : (plan : Plan) → ids_of owner.Device plan ≡ devices_of plan
device_ids plan = filter_alike (λ id. is_id_of owner.Device (declared_of plan id)) (λ id. is_some (as_device (declared_of plan id))) (λ id. device_alike (declared_of plan id)) (declared_ids plan)

pub target_ids : (plan : Plan) → ids_of owner.Target plan ≡ targets_of plan
target_ids plan = filter_alike (λ id. is_id_of owner.Target (declared_of plan id)) (λ id. is_some (as_target (declared_of plan id))) (λ id. target_alike (declared_of plan id)) (declared_ids plan)
