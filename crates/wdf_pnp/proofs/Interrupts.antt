-- The interrupts of a device, found id by id.
use Rattle.std.proofs.Common.{if◌then◌else◌, ◌≡◌, ℕ, suc, ◌+◌, Bool, true, false, List, [], ◌∷◌, ◌++◌, Option, Some, None, filter, map, option_to_list, refl, sym, ap, ◌∙◌, arith}
use Rattle.std.specs.List.{range_with_len}
use Rattle.std.proofs.lemmas.List.{map-append, map-id}
use Rattle.std.proofs.lemmas.List.FromFn.{filter_of_map_range_with_len_more}
use Rattle.wdf_base.specs.declared.plan.Plan.{Plan}
use Rattle.wdf_model.specs.Plans.{interrupt_of, is_interrupt_of}
use Rattle.wdf_model.specs.parts.Pnp.{InterruptSteps, interrupt_steps}
use Rattle.wdf_pnp.specs.Opening.{interrupts_below, steps_at}

-- the ids below the next one that pass
passed_more : (p : ℕ → Bool) (n : ℕ) → filter p (range_with_len 0 (n + 1)) ≡ filter p (range_with_len 0 n) ++ (if p n then n ∷ [] else [])
passed_more p n = simp map-id at (filter_of_map_range_with_len_more p (λ x. x) 0 n n (omega arith))

found : {T : Type 0} (f : ℕ → T) (n : ℕ) (b : Bool) → map f (if b then n ∷ [] else []) ≡ option_to_list (if b then Some (f n) else None)
found f n true = refl
found f n false = refl

-- one id more
pub interrupts_more : (plan : Plan) (d n : ℕ) (before after : List InterruptSteps) (steps : Option InterruptSteps) → before ≡ interrupts_below plan d n → steps ≡ steps_at plan d n
    → after ≡ before ++ option_to_list steps → after ≡ interrupts_below plan d (n + 1)
interrupts_more plan d n before after steps b s a =
    let p : ℕ → Bool = λ i. is_interrupt_of d (interrupt_of plan i) in
    let f = interrupt_steps plan in
    let more : map f (filter p (range_with_len 0 (n + 1))) ≡ map f (filter p (range_with_len 0 n) ++ (if p n then n ∷ [] else [])) = ap (map f) (passed_more p n) in
    let parts = map-append f (filter p (range_with_len 0 n)) (if p n then n ∷ [] else []) in
    let last = found f n (p n) in
    a ∙ ap (λ x. x ++ option_to_list steps) b ∙ ap (λ o. interrupts_below plan d n ++ option_to_list o) s ∙ sym (more ∙ parts ∙ ap (λ y. interrupts_below plan d n ++ y) last)

-- all ids
pub interrupts_all : (plan : Plan) (d n m : ℕ) (all : List InterruptSteps) → all ≡ interrupts_below plan d n → n ≡ suc m → all ≡ interrupts_below plan d (suc m)
interrupts_all plan d n m all a e = a ∙ ap (interrupts_below plan d) e
