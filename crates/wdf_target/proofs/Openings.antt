-- The targets at the opening, one after the other.
use Rattle.std.proofs.Common.{◌≡◌, ℕ, suc, ◌+◌, List, [], ◌∷◌, ◌++◌, length, map, refl, sym, ap, arith}
use Rattle.std.specs.List.{range_with_len}
use Rattle.std.proofs.lemmas.List.FromFn.{map-range_with_len_more}
use Rattle.wdf_base.specs.declared.plan.Plan.{Plan}
use Rattle.wdf_model.specs.Plans.{target_of}
use Rattle.wdf_model.specs.parts.Targets.{Target, opening_target, opening_targets}
use Rattle.wdf_target.specs.Opened.{opened}
use Rattle.wdf_target.specs.Targets.{IsKept}
use Rattle.wdf_target.proofs.Kept.{kept_opened}

pub opened_none : (plan : Plan) → [] ≡ opened plan 0
unfolding opened
opened_none plan = refl

pub opened_more : (plan : Plan) (n : ℕ) (xs ys : List Target) (t : Target) → xs ≡ opened plan n → t ≡ opening_target (target_of plan n) → ys ≡ xs ++ t ∷ [] → ys ≡ opened plan (n + 1)
unfolding opened
opened_more plan n xs ys t e is pushed =
    let f : ℕ → Target = λ id. opening_target (target_of plan id) in
    let zero_on : 0 + n ≡ n = omega arith in
    let more : map f (range_with_len 0 (n + 1)) ≡ map f (range_with_len 0 n) ++ f n ∷ [] = map-range_with_len_more f 0 n n zero_on in
    rw (pushed, e, is) (sym more)

pub opened_all : (plan : Plan) (n : ℕ) → n ≡ length plan.declared + 1 → opened plan n ≡ (opening_targets plan).targets
unfolding opened
opened_all plan n e = let all : n ≡ suc (length plan.declared) = omega arith in ap (λ k. map (λ id. opening_target (target_of plan id)) (range_with_len 0 k)) all

pub kept_at_first : (plan : Plan) (ts : List Target) → ts ≡ (opening_targets plan).targets → IsKept ts []
kept_at_first plan ts e = rw e (kept_opened plan (range_with_len 0 (suc (length plan.declared))))
