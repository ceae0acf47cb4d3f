-- The children of an object, one declared object and one event more.
use Rattle.std.proofs.Common.{◌≡◌, ℕ, suc, ◌+◌, ◌<◌, List, [], length, get_or, slice_get, Some, refl, sym, ap, ◌∙◌, arith}
use Rattle.std.proofs.lemmas.Option.{slice_get-get_or}
use Rattle.wdf_base.specs.declared.plan.Plan.{Plan}
use Rattle.wdf_base.specs.declared.event.Event.{Event}
use Rattle.wdf_laws.specs.Events.{told}
use Rattle.wdf_laws.specs.Family.{parent_of}
use Rattle.check_past.specs.Maps.{added_at}
use Rattle.check_past.specs.Groups.{declared_children, with_child, children_by}

pub none_declared : (plan : Plan) (all : List Event) (o : ℕ) → declared_children plan all o 0 ≡ []
unfolding declared_children
none_declared plan all o = refl

pub one_declared : (plan : Plan) (all : List Event) (o n : ℕ) (was : List ℕ) → was ≡ declared_children plan all o n → added_at (Some (parent_of plan all (n + 1))) (n + 1) o was ≡ declared_children plan all o (n + 1)
unfolding declared_children
one_declared plan all o n was h =
    let e : n + 1 ≡ suc n = omega arith in
    ap (added_at (Some (parent_of plan all (n + 1))) (n + 1) o) h ∙ sym (ap (declared_children plan all o) e)

pub none_told : (plan : Plan) (all : List Event) (o : ℕ) → declared_children plan all o (length plan.declared) ≡ children_by plan all o 0
unfolding children_by
none_told plan all o = refl

one_told : (plan : Plan) (all : List Event) (o k : ℕ) (e : Event) (was : List ℕ) → slice_get all k ≡ Some e → was ≡ children_by plan all o k → with_child plan all o (told plan e) was ≡ children_by plan all o (k + 1)
unfolding children_by
one_told plan all o k e was h is = let n : k + 1 ≡ suc k = omega arith in rw (is, n, h) refl

pub one_child : (plan : Plan) (all xs : List Event) (d : Event) (o k : ℕ) (was now : List ℕ) → xs ≡ all → k < length xs → was ≡ children_by plan all o k
    → now ≡ with_child plan all o (told plan (get_or xs k d)) was → now ≡ children_by plan all o (k + 1)
one_child plan all xs d o k was now same h is step =
    step ∙ one_told plan all o k (get_or xs k d) was (ap (λ es. slice_get es k) (sym same) ∙ slice_get-get_or xs k d h) is
