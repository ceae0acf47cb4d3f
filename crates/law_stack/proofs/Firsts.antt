-- The list of a line begins at the end of a chain: no device comes before the first. Along a chain the ids only rise, or only
-- fall, so the walk to its end is no longer than there are devices.
use Rattle.std.proofs.Common.{◌≡◌, ℕ, zero, suc, ◌==◌, nat_lt, ◌<◌, ◌≤◌, Bool, true, false, ◌||◌, List, [], ◌∷◌, count_by, Option, Some, None, refl, ap, ◌∙◌, arith}
use Rattle.std.specs.List.{list_any}
use Rattle.std.proofs.lemmas.Bool.{eqb-true, le-ltb, lt-ltb, ltb-true}
use Rattle.wdf_base.specs.declared.ids.Handle.{Handle}
use Rattle.wdf_base.specs.declared.event.Ask.{Ask}
use Rattle.wdf_model.specs.declared.stack.StackDevice.{StackDevice}
use Rattle.wdf_model.specs.Tables.{flag}
use Rattle.wdf_model.specs.agents.StackManager.{first_in, leader}
use Rattle.wdf_model.proofs.Counts.{count_cons}

-- ---- how many have yet to come

flag_at_most : (p q : Bool) → (p ≡ true → q ≡ true) → flag p ≤ flag q
flag_at_most true q f = let e : q ≡ true = f refl in rw e (omega arith)
flag_at_most false q f = omega arith

-- how many ids of a list are above one, or below one
abbrev pub over : ℕ → List ℕ → ℕ
over d xs = count_by (nat_lt d) xs

abbrev pub under : ℕ → List ℕ → ℕ
under d xs = count_by (λ x. nat_lt x d) xs

fewer : (p q : ℕ → Bool) → ((x : ℕ) → p x ≡ true → q x ≡ true) → (xs : List ℕ) → count_by p xs ≤ count_by q xs
fewer p q f [] = omega arith
fewer p q f (x ∷ xs) =
    let one = count_cons p x xs in
    let two = count_cons q x xs in
    let this = flag_at_most (p x) (q x) (f x) in
    let rest = fewer p q f xs in
    omega (arith, one, two, this, rest)

module _ (p q : ℕ → Bool) (f : (x : ℕ) → p x ≡ true → q x ≡ true) (e : ℕ) (off : p e ≡ false) (on : q e ≡ true) where
  fewer_by : (x : ℕ) (xs : List ℕ) (b : Bool) → (x == e) ≡ b → (list_any (λ y. y == e) xs ≡ true → count_by p xs < count_by q xs) → (b || list_any (λ y. y == e) xs) ≡ true → count_by p (x ∷ xs) < count_by q (x ∷ xs)
  fewer_by x xs true is rest h =
      let same : x ≡ e = eqb-true x e is in
      let none : flag (p x) ≡ 0 = ap (λ y. flag (p y)) same ∙ ap flag off in
      let some : flag (q x) ≡ 1 = ap (λ y. flag (q y)) same ∙ ap flag on in
      let one = count_cons p x xs in
      let two = count_cons q x xs in
      let others = fewer p q f xs in
      omega (arith, none, some, one, two, others)
  fewer_by x xs false is rest h =
      let one = count_cons p x xs in
      let two = count_cons q x xs in
      let this = flag_at_most (p x) (q x) (f x) in
      let others = rest h in
      omega (arith, one, two, this, others)

  strictly : (xs : List ℕ) → list_any (λ y. y == e) xs ≡ true → count_by p xs < count_by q xs
  strictly [] h = absurd (let z : ⊥ = cc in z)
  strictly (x ∷ xs) h = fewer_by x xs (x == e) refl (strictly xs) h

pub over_less : (d e : ℕ) (xs : List ℕ) → d < e → list_any (λ y. y == e) xs ≡ true → over e xs < over d xs
over_less d e xs l h = strictly (nat_lt e) (nat_lt d) (λ x k. let m = ltb-true e x k in lt-ltb d x (omega (arith, l, m))) e (le-ltb e e (omega arith)) (lt-ltb d e l) xs h

pub under_less : (d e : ℕ) (xs : List ℕ) → e < d → list_any (λ y. y == e) xs ≡ true → under e xs < under d xs
under_less d e xs l h = strictly (λ x. nat_lt x e) (λ x. nat_lt x d) (λ x k. let m = ltb-true x e k in lt-ltb x d (omega (arith, l, m))) e (le-ltb e e (omega arith)) (lt-ltb e d l) xs h

-- ---- the walk to the end

-- From each device of some kind the one before it is of that kind, and is nearer to the end.
pub record Nears (devices : List StackDevice) (a : Ask) : Type 1 where
  pub Is : ℕ → Type 0
  pub far : ℕ → ℕ
  pub goes : (d : ℕ) (e : Handle) → Is d → leader devices a d ≡ Some e → Is e.id.0 × (far e.id.0 < far d)

module _ (devices : List StackDevice) (a : Ask) (N : Nears devices a) where
  pub record IsFirst (d : Handle) : Type 0 where
    pub none : leader devices a d.id.0 ≡ None
    pub is : N.Is d.id.0

  ends_by : (d : Handle) (o : Option Handle) → leader devices a d.id.0 ≡ o → N.Is d.id.0 → N.far d.id.0 ≤ 0 → IsFirst d
  ends_by d None h is near = record { none = h; is = is }
  ends_by d (Some e) h is near = let two = N.goes d.id.0 e is h in let l = two.1 in absurd (omega (arith, l, near))

  goes_by : (n : ℕ) (d : Handle) (o : Option Handle) → leader devices a d.id.0 ≡ o → N.Is d.id.0 → N.far d.id.0 ≤ suc n
      → ((e : Handle) → N.Is e.id.0 → N.far e.id.0 ≤ n → IsFirst (first_in devices a n e)) → IsFirst (elim o as (λ _. Handle) [ None ↦ d | Some e ↦ first_in devices a n e ])
  goes_by n d None h is near rest = record { none = h; is = is }
  goes_by n d (Some e) h is near rest = let two = N.goes d.id.0 e is h in let l = two.1 in rest e two.0 (omega (arith, l, near))

  pub comes_to_first : (n : ℕ) (d : Handle) → N.Is d.id.0 → N.far d.id.0 ≤ n → IsFirst (first_in devices a n d)
  comes_to_first zero d is near = ends_by d (leader devices a d.id.0) refl is near
  comes_to_first (suc n) d is near = goes_by n d (leader devices a d.id.0) refl is near (comes_to_first n)
