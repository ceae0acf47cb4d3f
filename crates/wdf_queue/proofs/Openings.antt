-- The queues at the opening.
use Rattle.std.proofs.Common.{◌≡◌, ℕ, zero, suc, ◌+◌, List, [], ◌∷◌, length, map, replicate, refl, ap, sym, ◌∙◌, arith}
use Rattle.std.specs.List.{range_with_len}
use Rattle.std.proofs.lemmas.List.FromFn.{length-map-range_with_len}
use Rattle.wdf_base.specs.declared.plan.Plan.{Plan}
use Rattle.wdf_base.specs.declared.declared.DispatchKind.{DispatchKind}
use Rattle.wdf_model.specs.Plans.{queue_of}
use Rattle.wdf_model.specs.parts.Queues.{Queues, opening_dispatch, opening_queues}

none_from : {T : Type 0} (none : T) (a n : ℕ) → map (λ _. none) (range_with_len a n) ≡ replicate n none
none_from none a zero = refl
none_from none a (suc n) = ap (λ xs. none ∷ xs) (none_from none (a + 1) n)

-- one value for each id
none_by_id : {T : Type 0} (none : T) (ids n : ℕ) → ids ≡ 1 + n → replicate ids none ≡ map (λ _. none) (range_with_len 0 (suc n))
none_by_id none ids n e =
    let more : ids ≡ suc n = omega arith in
    rw more (sym (none_from none 0 (suc n)))

-- one way to present for each id
pub length-dispatch : (plan : Plan) (ids : ℕ) → ids ≡ 1 + length plan.declared → length (opening_queues plan).dispatch ≡ ids
length-dispatch plan ids e =
    let all : length (opening_queues plan).dispatch ≡ suc (length plan.declared) =
    length-map-range_with_len (λ q. opening_dispatch (queue_of plan q)) 0 (suc (length plan.declared)) in
    omega arith

-- where nobody waits and nothing is held, the queues are as at the opening
pub opened : (plan : Plan) (ids : ℕ) (dispatch : List DispatchKind) (waiting : List (List ℕ)) (held : List ℕ) → ids ≡ 1 + length plan.declared
    → dispatch ≡ (opening_queues plan).dispatch → waiting ≡ replicate ids [] → held ≡ replicate ids 0
    → ◌≡◌ {A = Queues} (record { dispatch = dispatch; waiting = waiting; held = held }) (opening_queues plan)
opened plan ids dispatch waiting held n by_kind nobody nothing =
    let empty : List ℕ = [] in
    rw (by_kind, nobody ∙ none_by_id empty ids (length plan.declared) n, nothing ∙ none_by_id 0 ids (length plan.declared) n) refl
