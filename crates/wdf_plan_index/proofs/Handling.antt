-- The handlers of an id, from a table of all of them.
use Rattle.std.proofs.Common.{◌≡◌, ◌+◌, ◌<◌, ◌≤◌, ◌++◌, get_or, ℕ, zero, suc, List, [], ◌∷◌, length, map, slice_get, None, refl, sym, ap, subst, ◌∙◌, arith}
use Rattle.std.specs.List.{range_with_len}
use Rattle.std.proofs.lemmas.List.FromFn.{get_or-map-range_with_len, length-map-range_with_len, map-range_with_len_more}
use Rattle.wdf_base.specs.declared.object.RequestForm.{RequestForm}
use Rattle.wdf_base.specs.declared.object.RequestForm.TheVariants as form
use Rattle.wdf_base.specs.declared.plan.Plan.{Plan}
use Rattle.wdf_base.specs.Plan.{declared_of}
use Rattle.wdf_model.specs.Plans.{handler_for}
use Rattle.wdf_plan_index.specs.Handlers.{handlers_at, handlers_of, of}
use Rattle.wdf_plan_index.specs.declared.handlers.Handlers.{Handlers}

-- a table of one id more
pub one_more : {T : Type 0} (f : ℕ → T) (k : ℕ) → map f (range_with_len 0 (suc k)) ++ f (k + 1) ∷ [] ≡ map f (range_with_len 0 (suc (k + 1)))
one_more f k =
    let next : 0 + suc k ≡ k + 1 = omega arith in
    let longer : suc k + 1 ≡ suc (k + 1) = omega arith in
    sym (map-range_with_len_more f 0 (suc k) (k + 1) next) ∙ ap (λ n. map f (range_with_len 0 n)) longer

none_past : {T : Type 0} (xs : List T) (k : ℕ) → length xs ≤ k → slice_get xs k ≡ None
none_past [] k h = refl
none_past (x ∷ xs) zero h = absurd (omega arith)
none_past (x ∷ xs) (suc k) h = none_past xs k (omega arith)

of_all : (plan : Plan) (q : ℕ) (f : RequestForm) → of (handlers_at plan q) f ≡ handler_for plan q f
of_all plan q form.Read = refl
of_all plan q form.Write = refl
of_all plan q form.Control = refl

long : (plan : Plan) → length (handlers_of plan) ≡ suc (length plan.declared)
long plan = length-map-range_with_len (handlers_at plan) 0 (suc (length plan.declared))

-- the handler of an id in the table
pub handler_kept : (plan : Plan) (all : List Handlers) (q : ℕ) (f : RequestForm) (h : Handlers) → all ≡ handlers_of plan → q < length all → h ≡ get_or all q h → of h f ≡ handler_for plan q f
handler_kept plan all q f h is within here =
    let few : q < suc (length plan.declared) = subst (λ n. q < n) (ap length is ∙ long plan) within in
    let from : 0 + q ≡ q = omega arith in
    let found : h ≡ handlers_at plan q = here ∙ ap (λ xs. get_or xs q h) is ∙ get_or-map-range_with_len (handlers_at plan) 0 (suc (length plan.declared)) q q h few from in
    ap (λ x. of x f) found ∙ of_all plan q f

undeclared : (plan : Plan) (q : ℕ) (f : RequestForm) → declared_of plan q ≡ None → None ≡ handler_for plan q f
undeclared plan q f none = rw none refl

-- an id past the table has none
pub handler_none : (plan : Plan) (all : List Handlers) (q : ℕ) (f : RequestForm) → all ≡ handlers_of plan → length all ≤ q → None ≡ handler_for plan q f
handler_none plan all zero f is past = undeclared plan zero f refl
handler_none plan all (suc q) f is past =
    let many : suc (length plan.declared) ≤ suc q = subst (λ n. n ≤ suc q) (ap length is ∙ long plan) past in
    undeclared plan (suc q) f (none_past plan.declared q (omega arith))
