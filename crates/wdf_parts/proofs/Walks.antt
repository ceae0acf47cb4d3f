-- Walks over ids: the deletion of a subtree, and a purge.
use Rattle.std.proofs.Common.{◌==◌, Bool, true, false, ◌≡◌, ℕ, zero, suc, ◌<◌, ◌≤◌, List, [], ◌∷◌, length, fold, map, count_by, Some, None, refl, ap, sym, ◌∙◌, arith, eq-eqb}
use Rattle.wdf_base.specs.declared.plan.Plan.{Plan}
use Rattle.wdf_base.specs.Lives.{is_live}
use Rattle.wdf_model.specs.Tables.{entry, first_of_list, without}
use Rattle.wdf_model.specs.parts.Queues.{front, waiting_in}
use Rattle.wdf_model.specs.parts.Tree.{life_of, subtree}
use Rattle.wdf_model.specs.State.{State}
use Rattle.wdf_model.specs.rules.Deeds.{ask_object, ask_objects, withdraw}
use Rattle.wdf_model.proofs.Counts.{count_no, count_yes}
use Rattle.wdf_parts.specs.Asking.{Askable, askable, asked}

-- ---- a deletion

-- the state with what is asked of some objects
abbrev with_asked : {A : Type 0} → State A → Askable → State A
with_asked S P = record S { tree = P.tree; dpcs = P.dpcs; work_items = P.work_items; timers = P.timers }

one_asked : {A : Type 0} (S : State A) (P : Askable) (o : ℕ) (b : Bool) → is_live (life_of P.tree o) ≡ b → ask_object (with_asked S P) o ≡ with_asked S (asked P o)
one_asked S P o true e = rw e refl
one_asked S P o false e = rw e refl

all_asked : {A : Type 0} (S : State A) (P : Askable) (ids : List ℕ) → fold ask_object (with_asked S P) ids ≡ with_asked S (fold asked P ids)
all_asked S P [] = refl
all_asked S P (x ∷ ids) =
    ap (λ T. fold ask_object T ids) (one_asked S P x (is_live (life_of P.tree x)) refl) ∙ all_asked S (asked P x) ids

-- the objects of a subtree were asked
pub subtree_asked : {A : Type 0} (S : State A) (P : Askable) (o : ℕ) (ids : List ℕ) → ids ≡ subtree S.tree o → P ≡ fold asked (askable S.tree S.dpcs S.work_items S.timers) ids
    → record S { tree = P.tree; dpcs = P.dpcs; work_items = P.work_items; timers = P.timers } ≡ ask_objects S o
subtree_asked S P o ids e f =
    ap (with_asked S) (f ∙ ap (fold asked (askable S.tree S.dpcs S.work_items S.timers)) e)
    ∙ sym (all_asked S (askable S.tree S.dpcs S.work_items S.timers) (subtree S.tree o))

-- ---- a purge

without_entry : (r : ℕ) (xs : List (List ℕ)) (q : ℕ) → entry [] (map (without r) xs) q ≡ without r (entry [] xs q)
without_entry r [] q = refl
without_entry r (x ∷ xs) zero = refl
without_entry r (x ∷ xs) (suc q) = without_entry r xs q

is_itself : (r : ℕ) → (r == r) ≡ true
is_itself r = eq-eqb r r refl

-- what is no longer there leaves nothing out
left_out_by : (r x : ℕ) (xs : List ℕ) (b : Bool) → (x == r) ≡ b → count_by (λ y. y == r) (x ∷ xs) ≡ 0 → (count_by (λ y. y == r) xs ≡ 0 → without r xs ≡ xs) → without r (x ∷ xs) ≡ x ∷ xs
left_out_by r x xs true e h rest = absurd (let k = count_yes (λ y. y == r) x xs e in omega arith)
left_out_by r x xs false e h rest = rw e (ap (λ ys. x ∷ ys) (rest (let k = count_no (λ y. y == r) x xs e in omega arith)))

nothing_left_out : (r : ℕ) (xs : List ℕ) → count_by (λ y. y == r) xs ≡ 0 → without r xs ≡ xs
nothing_left_out r [] e = refl
nothing_left_out r (x ∷ xs) e = left_out_by r x xs (x == r) refl e (nothing_left_out r xs)

first_left_out : (r : ℕ) (xs : List ℕ) → count_by (λ y. y == r) (r ∷ xs) ≤ 1 → without r (r ∷ xs) ≡ xs
first_left_out r xs h =
    let k = count_yes (λ y. y == r) r xs (is_itself r) in
    let none : count_by (λ y. y == r) xs ≡ 0 = omega arith in
    rw (is_itself r) (nothing_left_out r xs none)

fewer_by : (y x : ℕ) (xs ys : List ℕ) (d : Bool) → (x == y) ≡ d → count_by (λ z. z == y) ys ≤ count_by (λ z. z == y) xs → count_by (λ z. z == y) (x ∷ ys) ≤ count_by (λ z. z == y) (x ∷ xs)
fewer_by y x xs ys true e h = let a = count_yes (λ z. z == y) x xs e in let b = count_yes (λ z. z == y) x ys e in omega arith
fewer_by y x xs ys false e h = let a = count_no (λ z. z == y) x xs e in let b = count_no (λ z. z == y) x ys e in omega arith

more_by : (y x : ℕ) (xs : List ℕ) (d : Bool) → (x == y) ≡ d → count_by (λ z. z == y) xs ≤ count_by (λ z. z == y) (x ∷ xs)
more_by y x xs true e = let a = count_yes (λ z. z == y) x xs e in omega arith
more_by y x xs false e = let a = count_no (λ z. z == y) x xs e in omega arith

fewer_then : (r y x : ℕ) (xs : List ℕ) (b : Bool) → (x == r) ≡ b → count_by (λ z. z == y) (without r xs) ≤ count_by (λ z. z == y) xs → count_by (λ z. z == y) (without r (x ∷ xs)) ≤ count_by (λ z. z == y) (x ∷ xs)
fewer_then r y x xs true e h = rw e (let more = more_by y x xs (x == y) refl in omega arith)
fewer_then r y x xs false e h = rw e (fewer_by y x xs (without r xs) (x == y) refl h)

fewer : (r y : ℕ) (xs : List ℕ) → count_by (λ z. z == y) (without r xs) ≤ count_by (λ z. z == y) xs
fewer r y [] = omega arith
fewer r y (x ∷ xs) = fewer_then r y x xs (x == r) refl (fewer r y xs)

-- what waits once the front is withdrawn
module _ {A : Type 0} (plan : Plan) (S : State A) (q r : ℕ) where
  waiting_then : waiting_in (withdraw plan q S r).queues q ≡ without r (waiting_in S.queues q)
  waiting_then = without_entry r S.queues.waiting q

  by_front : (xs : List ℕ) → waiting_in S.queues q ≡ xs → first_of_list xs ≡ Some r → count_by (λ x. x == r) (waiting_in S.queues q) ≤ 1
      → (rest : List ℕ) × (waiting_in S.queues q ≡ r ∷ rest) × (waiting_in (withdraw plan q S r).queues q ≡ rest)
  by_front [] e h once = absurd (let z : ⊥ = cc in z)
  by_front (x ∷ xs) e h once =
      let same : x ≡ r = cc in
      let is : waiting_in S.queues q ≡ r ∷ xs = e ∙ ap (λ y. y ∷ xs) same in
      (xs, is, waiting_then ∙ ap (without r) is ∙ first_left_out r xs (rw is at once))

  pub purge_goes_on : front S.queues q ≡ Some r → count_by (λ x. x == r) (waiting_in S.queues q) ≤ 1
      → fold (withdraw plan q) (withdraw plan q S r) (waiting_in (withdraw plan q S r).queues q) ≡ fold (withdraw plan q) S (waiting_in S.queues q)
  purge_goes_on h once =
      let (rest, is, later) = by_front (waiting_in S.queues q) refl h once in
      ap (fold (withdraw plan q) (withdraw plan q S r)) later ∙ sym (ap (fold (withdraw plan q) S) is)

  pub fewer_wait : front S.queues q ≡ Some r → count_by (λ x. x == r) (waiting_in S.queues q) ≤ 1
      → length (waiting_in (withdraw plan q S r).queues q) < length (waiting_in S.queues q)
  fewer_wait h once =
      let (rest, is, later) = by_front (waiting_in S.queues q) refl h once in
      rw (is, later) (omega arith)

  pub counted_then : (y : ℕ) → count_by (λ x. x == y) (waiting_in (withdraw plan q S r).queues q) ≤ count_by (λ x. x == y) (waiting_in S.queues q)
  counted_then y = rw waiting_then (fewer r y (waiting_in S.queues q))

  pub front_waits : front S.queues q ≡ Some r → 1 ≤ count_by (λ x. x == r) (waiting_in S.queues q)
  front_waits h = by_list (waiting_in S.queues q) h
    where
      by_list : (xs : List ℕ) → first_of_list xs ≡ Some r → 1 ≤ count_by (λ x. x == r) xs
      by_list [] e = absurd (let z : ⊥ = cc in z)
      by_list (x ∷ xs) e = let same : x ≡ r = cc in let k = count_yes (λ z. z == r) x xs (ap (λ z. z == r) same ∙ is_itself r) in omega arith

pub nothing_waits : (xs : List ℕ) → first_of_list xs ≡ None → xs ≡ []
nothing_waits [] e = refl
nothing_waits (x ∷ xs) e = absurd (let z : ⊥ = cc in z)
