-- The words of the law, after one event more.
use Rattle.std.proofs.Common.{if◌then◌else◌, ℕ, zero, suc, ◌≡◌, ◌≤◌, List, [], ◌∷◌, ◌++◌, length, take, refl, ap, sym, ◌∙◌, arith, length-append}
use Rattle.std.proofs.lemmas.Grind.{fold-append}
use Rattle.std.proofs.lemmas.List.{take_all, take-append-le}
use Rattle.wdf_base.specs.declared.plan.Plan.{Plan}
use Rattle.wdf_base.specs.declared.event.Event.{Event}
use Rattle.law_idle.specs.Idling.{asleep_rest, asleep_step, awake_rest, awake_step, hold_register, hold_step, is_held, since, since_of_first, starts_anew, time_after, time_step}

pub time_more : (es : List Event) (e : Event) → time_after (es ++ e ∷ []) ≡ time_step (time_after es) e
unfolding time_after
time_more es e = fold-append time_step 0 es (e ∷ [])

pub awake_more : (plan : Plan) (d : ℕ) (es : List Event) (e : Event) → awake_rest plan d (es ++ e ∷ []) ≡ awake_step d (awake_rest plan d es) e
unfolding awake_rest
awake_more plan d es e = fold-append (awake_step d) _ es (e ∷ [])

pub asleep_more : (d : ℕ) (es : List Event) (e : Event) → asleep_rest d (es ++ e ∷ []) ≡ asleep_step d (asleep_rest d es) e
unfolding asleep_rest
asleep_more d es e = fold-append (asleep_step d) _ es (e ∷ [])

pub held_more : (plan : Plan) (d : ℕ) (es : List Event) (e : Event) → is_held plan d (es ++ e ∷ []) ≡ hold_step (hold_register plan d) (is_held plan d es) e
unfolding is_held
held_more plan d es e = fold-append (hold_step (hold_register plan d)) _ es (e ∷ [])

-- ---- the first events of more

whole : {T : Type 0} (xs ys : List T) → take (length xs) (xs ++ ys) ≡ xs
whole [] ys = refl
whole (x ∷ xs) ys = ap (λ zs. x ∷ zs) (whole xs ys)

since_front : (plan : Plan) (d : ℕ) (es more : List Event) (k : ℕ) → k ≤ length es → since_of_first plan d (es ++ more) k ≡ since_of_first plan d es k
since_front plan d es more zero h = refl
since_front plan d es more (suc k) h =
    rw (take-append-le k es more (omega arith), take-append-le (suc k) es more h, since_front plan d es more k (omega arith)) refl

pub since_more : (plan : Plan) (d : ℕ) (es : List Event) (e : Event)
    → since plan d (es ++ e ∷ []) ≡ (if starts_anew plan d es (es ++ e ∷ []) then time_after es else since plan d es)
since_more plan d es e =
    let long : length (es ++ e ∷ []) ≡ suc (length es) = omega (arith, length-append es (e ∷ [])) in
    let last : take (suc (length es)) (es ++ e ∷ []) ≡ es ++ e ∷ [] = ap (λ n. take n (es ++ e ∷ [])) (sym long) ∙ take_all (length (es ++ e ∷ [])) (es ++ e ∷ []) (omega arith) in
    ap (since_of_first plan d (es ++ e ∷ [])) long
    ∙ rw (whole es (e ∷ []), last, since_front plan d es (e ∷ []) (length es) (omega arith)) refl
