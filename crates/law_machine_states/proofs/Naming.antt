-- What a call names that has no fault is there, of the right kind, and isn't past its cleanup but for the five calls that may
-- come late.
use Rattle.std.proofs.Common.{◌≡◌, ℕ, ◌==◌, Bool, true, false, not, ◌&&◌, ◌||◌, inl, inr, ap, sym, subst, ◌∙◌, refl}
use Rattle.std.proofs.lemmas.Bool.{eqb-true, or_cases}
use Rattle.wdf_base.specs.declared.plan.Plan.{Plan}
use Rattle.wdf_base.specs.declared.event.Fault.{Fault}
use Rattle.wdf_base.specs.declared.event.Fault.TheVariants as fault
use Rattle.wdf_base.specs.declared.value.Value.TheVariants.{Obj}
use Rattle.wdf_base.specs.declared.call.Arg.{Arg}
use Rattle.wdf_base.specs.declared.call.Arg.TheVariants.{Val}
use Rattle.wdf_base.specs.declared.call.Call.{Call}
use Rattle.wdf_base.specs.declared.call.CallKind.{CallKind}
use Rattle.wdf_base.specs.declared.call.CallKind.TheVariants as call
use Rattle.wdf_base.specs.declared.object.Life.{Life}
use Rattle.wdf_base.specs.declared.object.Life.TheVariants as life
use Rattle.wdf_base.specs.declared.signature.Sort.{Sort}
use Rattle.wdf_base.specs.Calls.{signature_of}
use Rattle.wdf_base.specs.Lives.{is_cleaned, is_gone, is_past_cleanup}
use Rattle.wdf_model.specs.parts.Tree.{Tree, kind_of, life_of}
use Rattle.wdf_model.specs.State.{State, object_in}
use Rattle.wdf_model.specs.rules.Faults.{View, any_argument, call_faults, forgets_made, has_sort, is_object_sort, is_stale, is_wrong_kind}
use Rattle.wdf_model.specs.rules.Steps.{view_of}
use Rattle.wdf_model.proofs.Tests.{all_three, both_left, both_right, either_false, first}
use Rattle.law_machine_lives.proofs.There.{StaysAt}
use Rattle.law_machine_states.specs.Naming.{has_object, has_objects, may_come_late, names, names_there}

-- an object is as a call needs it: it is there, and not past its cleanup, unless the call may come late
pub record IsNameable (late : Bool) (l : Life) : Type 0 where
  pub there : is_gone l ≡ false
  pub early : late ≡ false → is_past_cleanup l ≡ false

nameable_by : (late : Bool) (l : Life) → (is_gone l || (is_cleaned l && not late)) ≡ false → IsNameable late l
nameable_by late life.Live h = record { there = refl; early = λ e. refl }
nameable_by late life.Asked h = record { there = refl; early = λ e. refl }
nameable_by true life.Cleaned h = record { there = refl; early = λ e. absurd (let z : ⊥ = cc in z) }
nameable_by false life.Cleaned h = absurd (let z : ⊥ = cc in z)
nameable_by late life.Gone h = absurd (let z : ⊥ = cc in z)

unless_sort : (b x : Bool) → b ≡ true → (b && x) ≡ false → x ≡ false
unless_sort true x e h = h
unless_sort false x e h = absurd (let z : ⊥ = cc in z)

nameable_there : (v : View) (late : Bool) (s : Sort) (a : Arg) (o : ℕ) → is_stale v late s a ≡ false → names_there o s a ≡ true → IsNameable late (v.life o)
nameable_there v late s (Val (Obj h)) o fresh named =
    let it : h.id.0 ≡ o = eqb-true h.id.0 o (both_right (is_object_sort s) (h.id.0 == o) named) in
    subst (λ x. IsNameable late (v.life x)) it
    (nameable_by late (v.life h.id.0)
    (unless_sort (is_object_sort s) (is_gone (v.life h.id.0) || (is_cleaned (v.life h.id.0) && not late)) (both_left (is_object_sort s) (h.id.0 == o) named) fresh))
nameable_there v late s _ o fresh named = absurd (let no_ = both_right (is_object_sort s) false named in let z : ⊥ = cc in z)

-- what a call names that isn't stale
pub nameable : (v : View) (late : Bool) (c : Call) (o : ℕ) → any_argument (is_stale v late) c ≡ false → names c o ≡ true → IsNameable late (v.life o)
nameable v late c o fresh named =
    let t = is_stale v late in
    let n = names_there o in
    let s = signature_of c.kind in
    let outer = either_false (t s.a c.a || t s.b c.b) (t s.c c.c) fresh in
    let inner = either_false (t s.a c.a) (t s.b c.b) outer.0 in
    elim (or_cases (n s.a c.a || n s.b c.b) (n s.c c.c) named) [
      | inl two ↦ elim (or_cases (n s.a c.a) (n s.b c.b) two) [
        | inl one ↦ nameable_there v late s.a c.a o inner.0 one
        | inr one ↦ nameable_there v late s.b c.b o inner.1 one
      ]
      | inr one ↦ nameable_there v late s.c c.c o outer.1 one
    ]

-- the rows of five calls let a Cleaned object do
pub late_rows : (k : CallKind) → (signature_of k).cleaned ≡ may_come_late k
late_rows call.WdfObjectReference = refl
late_rows call.WdfObjectDereference = refl
late_rows call.GetContext = refl
late_rows call.SetContext = refl
late_rows call.WdfRequestUnmarkCancelable = refl
late_rows _ = refl

-- ---- what a row asks for

there_by : (asked gone late right : Bool) → (asked && (gone || late)) ≡ false → (asked && not right) ≡ false → (not asked || (right && not gone)) ≡ true
there_by false gone late right h k = refl
there_by true true late right h k = absurd (let z : ⊥ = cc in z)
there_by true false late true h k = refl
there_by true false late false h k = absurd (let z : ⊥ = cc in z)

object_there : {A : Type 0} (plan : Plan) (S : State A) (cpu f : ℕ) (late : Bool) (s : Sort) (a : Arg) → is_stale (view_of plan S cpu f) late s a ≡ false → is_wrong_kind (view_of plan S cpu f) s a ≡ false → has_object S.tree s a ≡ true
object_there plan S cpu f late s (Val (Obj h)) fresh right = there_by (is_object_sort s) (is_gone (life_of S.tree h.id.0)) (is_cleaned (life_of S.tree h.id.0) && not late) (has_sort (kind_of S.tree h.id.0) s) fresh right
object_there plan S cpu f late s _ fresh right = ap not right

-- a call without a fault has the objects that its row asks for
pub objects_there : {A : Type 0} (plan : Plan) (S : State A) (cpu f : ℕ) (c : Call) → ((x : Fault) → call_faults (view_of plan S cpu f) c x ≡ false) → has_objects S.tree c ≡ true
objects_there plan S cpu f c clean =
    let s = signature_of c.kind in
    let t = is_stale (view_of plan S cpu f) s.cleaned in
    let w = is_wrong_kind (view_of plan S cpu f) in
    let fresh = either_false (t s.a c.a || t s.b c.b) (t s.c c.c) (clean fault.StaleHandle) in
    let two = either_false (t s.a c.a) (t s.b c.b) fresh.0 in
    let right = either_false (w s.a c.a || w s.b c.b) (w s.c c.c) (either_false (any_argument w c) (forgets_made (view_of plan S cpu f) c) (clean fault.WrongKind)).0 in
    let both_ = either_false (w s.a c.a) (w s.b c.b) right.0 in
    all_three (has_object S.tree s.a c.a) (has_object S.tree s.b c.b) (has_object S.tree s.c c.c)
    (object_there plan S cpu f s.cleaned s.a c.a two.0 both_.0) (object_there plan S cpu f s.cleaned s.b c.b two.1 both_.1) (object_there plan S cpu f s.cleaned s.c c.c fresh.1 right.1)

pub none_asked : (T : Tree) (s : Sort) (a : Arg) → is_object_sort s ≡ false → has_object T s a ≡ true
none_asked T s (Val (Obj h)) off = first (not (is_object_sort s)) (has_sort (kind_of T h.id.0) s && not (is_gone (life_of T h.id.0))) (ap not off)
none_asked T s _ off = ap not off

-- the object of an argument stays there, with its kind
pub object_stays : (T U : Tree) (s : Sort) (a : Arg) → is_gone (life_of T (object_in a)) ≡ false → StaysAt T U (object_in a) → has_object T s a ≡ true → has_object U s a ≡ true
object_stays T U s (Val (Obj h)) there stays has = (λ i. not (is_object_sort s) || (has_sort (stays.kind i) s && not ((stays.there ∙ sym there) i))) ∙ has
object_stays T U s _ there stays has = has
