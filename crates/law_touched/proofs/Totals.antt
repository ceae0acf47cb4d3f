-- How many events may come, where one group alone offers others.
use Rattle.std.proofs.Common.{◌≡◌, ◌<◌, ℕ, zero, suc, ◌+◌, ◌==◌, Bool, true, false, List, [], ◌∷◌, ◌++◌, length, length-append, Some, slice_get, refl, ap, subst, ◌∙◌, arith}
use Rattle.std.proofs.lemmas.Bool.{eqb-true}
use Rattle.std.proofs.lemmas.Option.{slice_get_within}
use Rattle.std.specs.List.{flat_map, range_with_len}
use Rattle.wdf_base.specs.Meaning.{Meaning}
use Rattle.wdf_base.specs.declared.plan.Plan.{Plan}
use Rattle.wdf_model.specs.State.{State}
use Rattle.wdf_model.specs.declared.enums.Group.{Group}
use Rattle.wdf_model.specs.declared.enums.Group.TheVariants as group
use Rattle.wdf_model.specs.rules.Groups.{groups, groups_of_cpu}
use Rattle.wdf_model.specs.rules.Ready.{allowed}
use Rattle.wdf_model.proofs.Runs.{slice_get-append-left, slice_get-append-right}
use Rattle.law_machine_lives.proofs.Lists.{Each}
use Rattle.law_machine_once.proofs.GroupsOnce.{groups_once}
use Rattle.law_machine_once.proofs.OnceEach.{Once, not_at}
use Rattle.law_touched.specs.Touched.{is_own_of, offers}
use Rattle.law_touched.proofs.Law.{allowed_by_groups}

-- ---- lists of which one item gives something else

module _ {X Y : Type 0} (f h : X → List Y) (one : X) (alike : (x : X) → (one ≡ x → ⊥) → f x ≡ h x) where
  none_differs : (xs : List X) → Each (λ x. one ≡ x → ⊥) xs → flat_map f xs ≡ flat_map h xs
  none_differs [] other = refl
  none_differs (x ∷ xs) other = λ i. alike x other.0 i ++ none_differs xs other.1 i

  one_differs : (xs : List X) (k : ℕ) → Once xs → slice_get xs k ≡ Some one → length (flat_map f xs) + length (h one) ≡ length (flat_map h xs) + length (f one)
  one_differs [] k once at = absurd (let z : ⊥ = cc in z)
  one_differs (x ∷ xs) zero once at =
      let same : x ≡ one = cc in
      let rest : flat_map f xs ≡ flat_map h xs = none_differs xs (subst (λ y. Each (λ z. y ≡ z → ⊥) xs) same once.0) in
      let long : length (flat_map f xs) ≡ length (flat_map h xs) = ap length rest in
      let a = length-append (f x) (flat_map f xs) in
      let b = length-append (h x) (flat_map h xs) in
      let c : length (f x) ≡ length (f one) = ap (λ y. length (f y)) same in
      let d : length (h x) ≡ length (h one) = ap (λ y. length (h y)) same in
      omega arith
  one_differs (x ∷ xs) (suc k) once at =
      let here : length (f x) ≡ length (h x) = ap length (alike x (λ same. not_at x xs k once.0 (at ∙ ap Some same))) in
      let rest = one_differs xs k once.1 at in
      let a = length-append (f x) (flat_map f xs) in
      let b = length-append (h x) (flat_map h xs) in
      omega arith

-- ---- the own event of a processor is a group of the plan

place_in_range : (plan : Plan) (n a j : ℕ) → j < n → (k : ℕ) × (slice_get (flat_map (groups_of_cpu plan) (range_with_len a n)) k ≡ Some (group.OwnEvent (a + j)))
place_in_range plan zero a j below = absurd (omega arith)
place_in_range plan (suc n) a zero below = (0, let same : a ≡ a + 0 = omega arith in ap (λ cpu. Some (group.OwnEvent cpu)) same)
place_in_range plan (suc n) a (suc j) below =
    let more = place_in_range plan n (a + 1) j (omega arith) in
    let same : (a + 1) + j ≡ a + suc j = omega arith in
    (length (groups_of_cpu plan a) + more.0, slice_get-append-right (groups_of_cpu plan a) (flat_map (groups_of_cpu plan) (range_with_len (a + 1) n)) more.0 ∙ more.1 ∙ ap (λ cpu. Some (group.OwnEvent cpu)) same)

own_place : (plan : Plan) (cpu : ℕ) → cpu < plan.cpus → (k : ℕ) × (slice_get (groups plan) k ≡ Some (group.OwnEvent cpu))
own_place plan cpu below =
    let mine = flat_map (groups_of_cpu plan) (range_with_len 0 plan.cpus) in
    let at = place_in_range plan plan.cpus 0 cpu below in
    let same : 0 + cpu ≡ cpu = omega arith in
    let there : slice_get mine at.0 ≡ Some (group.OwnEvent cpu) = at.1 ∙ ap (λ x. Some (group.OwnEvent x)) same in
    (at.0, slice_get-append-left mine (group.Stages ∷ group.Completions ∷ group.Cleanups ∷ group.Destroys ∷ group.Posts ∷ []) at.0 (slice_get_within mine at.0 (group.OwnEvent cpu) there) ∙ there)

-- another group than the own event of this processor
not_own_by : (cpu on : ℕ) (b : Bool) → (cpu == on) ≡ b → (group.OwnEvent cpu ≡ group.OwnEvent on → ⊥) → b ≡ false
not_own_by cpu on true is n = absurd (n (ap group.OwnEvent (eqb-true cpu on is)))
not_own_by cpu on false is n = refl

not_own : (cpu : ℕ) (g : Group) → (group.OwnEvent cpu ≡ g → ⊥) → is_own_of cpu g ≡ false
not_own cpu (group.OwnEvent on) n = not_own_by cpu on (cpu == on) refl n
not_own cpu _ n = refl

-- Where each group but the own event of one processor offers the same in two states, the counts of what may come differ
-- by that group's.
pub one_group_counts : {A : Type 0} (plan : Plan) (m : Meaning A) (S T : State A) (cpu : ℕ) → cpu < plan.cpus → ((g : Group) → is_own_of cpu g ≡ false → offers plan m S g ≡ offers plan m T g)
    → length (allowed plan m S) + length (offers plan m T (group.OwnEvent cpu)) ≡ length (allowed plan m T) + length (offers plan m S (group.OwnEvent cpu))
one_group_counts plan m S T cpu below alike =
    let at = own_place plan cpu below in
    let counts = one_differs (offers plan m S) (offers plan m T) (group.OwnEvent cpu) (λ g n. alike g (not_own cpu g n)) (groups plan) at.0 (groups_once plan) at.1 in
    let a : length (allowed plan m S) ≡ length (flat_map (offers plan m S) (groups plan)) = ap length (allowed_by_groups plan m S) in
    let b : length (allowed plan m T) ≡ length (flat_map (offers plan m T) (groups plan)) = ap length (allowed_by_groups plan m T) in
    omega arith
