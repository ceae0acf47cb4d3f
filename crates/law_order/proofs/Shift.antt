-- The places of the items of a list after some items are put in between.
use Rattle.std.proofs.Common.{◌≡◌, ◌⊎◌, inl, inr, ℕ, zero, suc, ◌+◌, ◌<◌, ◌≤◌, ◌==◌, Bool, true, false, cond, not, nat_lt, List, [], ◌∷◌, ◌++◌, length, drop, position, Option, Some, None, option_map, slice_get, refl, sym, ap, ◌∙◌, arith}
use Rattle.std.specs.List.{prefix_len}
use Rattle.std.proofs.lemmas.Bool.{lt-ltb, eq-eqb, ne_eqb}
use Rattle.std.proofs.lemmas.Bool.Decides.{nat_tests}
use Rattle.wdf_base.specs.Same.{same_option}

-- a place that is so many further
abbrev pub further : ℕ → ℕ → ℕ
further zero k = k
further (suc g) k = suc (further g k)

pub further_is : (g k : ℕ) → further g k ≡ k + g
further_is zero k = omega arith
further_is (suc g) k = let rest = further_is g k in omega (arith, rest)

-- the place of item k, where after the first `count` items g others are put
abbrev pub shifted : ℕ → ℕ → ℕ → ℕ
shifted zero g k = further g k
shifted (suc count) g zero = zero
shifted (suc count) g (suc k) = suc (shifted count g k)

further_rises : (g i j : ℕ) → i < j → further g i < further g j
further_rises zero i j h = h
further_rises (suc g) i j h = let more = further_rises g i j h in omega (arith, more)

pub rises : (c g i j : ℕ) → i < j → shifted c g i < shifted c g j
rises zero g i j h = further_rises g i j h
rises (suc c) g zero zero h = absurd (omega (arith, h))
rises (suc c) g zero (suc j) h = omega arith
rises (suc c) g (suc i) zero h = absurd (omega (arith, h))
rises (suc c) g (suc i) (suc j) h = let more = rises c g i j (omega (arith, h)) in omega (arith, more)

-- ---- what a function keeps that rises

ordered : (i j : ℕ) → (i < j) ⊎ ((i ≡ j) ⊎ (j < i))
ordered zero zero = inr (inl refl)
ordered zero (suc j) = inl (omega arith)
ordered (suc i) zero = inr (inr (omega arith))
ordered (suc i) (suc j) = elim (ordered i j) [
  | inl h ↦ inl (omega (arith, h))
  | inr rest ↦ elim rest [
    | inl e ↦ inr (inl (ap suc e))
    | inr h ↦ inr (inr (omega (arith, h)))
  ]
]

not_less : (i j : ℕ) → j ≤ i → nat_lt i j ≡ false
not_less i j h = grind (arith, nat_tests, h)

module _ (f : ℕ → ℕ) (up : (i j : ℕ) → i < j → f i < f j) where
  pub less_same : (i j : ℕ) → nat_lt (f i) (f j) ≡ nat_lt i j
  less_same i j = elim (ordered i j) [
    | inl h ↦ lt-ltb (f i) (f j) (up i j h) ∙ sym (lt-ltb i j h)
    | inr rest ↦ elim rest [
      | inl e ↦ let same = ap f e in not_less (f i) (f j) (omega (arith, same)) ∙ sym (not_less i j (omega (arith, e)))
      | inr h ↦ let more = up j i h in not_less (f i) (f j) (omega (arith, more)) ∙ sym (not_less i j (omega (arith, h)))
    ]
  ]

  pub equal_same : (i j : ℕ) → (f i == f j) ≡ (i == j)
  equal_same i j = elim (ordered i j) [
    | inl h ↦ let more = up i j h in ne_eqb (f i) (f j) (λ e. absurd (omega (arith, more, e))) ∙ sym (ne_eqb i j (λ e. absurd (omega (arith, h, e))))
    | inr rest ↦ elim rest [
      | inl e ↦ eq-eqb (f i) (f j) (ap f e) ∙ sym (eq-eqb i j e)
      | inr h ↦ let more = up j i h in ne_eqb (f i) (f j) (λ e. absurd (omega (arith, more, e))) ∙ sym (ne_eqb i j (λ e. absurd (omega (arith, h, e))))
    ]
  ]

  pub option_same : (a b : Option ℕ) → same_option ◌==◌ (option_map f a) (option_map f b) ≡ same_option ◌==◌ a b
  option_same None None = refl
  option_same None (Some j) = refl
  option_same (Some i) None = refl
  option_same (Some i) (Some j) = equal_same i j

-- ---- lists

module _ {X : Type 0} where
  get_further : (more ys : List X) (k : ℕ) → slice_get (more ++ ys) (further (length more) k) ≡ slice_get ys k
  get_further [] ys k = refl
  get_further (x ∷ more) ys k = get_further more ys k

  -- the item is at its new place
  pub get_shifted : (xs more ys : List X) (k : ℕ) → slice_get (xs ++ (more ++ ys)) (shifted (length xs) (length more) k) ≡ slice_get (xs ++ ys) k
  get_shifted [] more ys k = get_further more ys k
  get_shifted (x ∷ xs) more ys zero = refl
  get_shifted (x ∷ xs) more ys (suc k) = get_shifted xs more ys k

  pub drop_further : (more ys : List X) (k : ℕ) → drop (suc (further (length more) k)) (more ++ ys) ≡ drop (suc k) ys
  drop_further [] ys k = refl
  drop_further (x ∷ more) ys k = drop_further more ys k

  -- what is behind an item: the same, or the same but for what was put in between
  pub record IsWider (more ys wide narrow : List X) : Type 0 where
    pub front : List X
    pub wide_is : wide ≡ front ++ (more ++ ys)
    pub narrow_is : narrow ≡ front ++ ys

  pub behind : (xs more ys : List X) (k : ℕ)
      → IsWider more ys (drop (suc (shifted (length xs) (length more) k)) (xs ++ (more ++ ys))) (drop (suc k) (xs ++ ys)) ⊎ (drop (suc (shifted (length xs) (length more) k)) (xs ++ (more ++ ys)) ≡ drop (suc k) (xs ++ ys))
  behind [] more ys k = inr (drop_further more ys k)
  behind (x ∷ xs) more ys zero = inl (record { front = xs; wide_is = refl; narrow_is = refl })
  behind (x ∷ xs) more ys (suc k) = behind xs more ys k

  -- ---- the first item that passes a test

  module _ (p : X → Bool) where
    from_front : (x : X) (xs : List X) (b : Bool) → p x ≡ b → position p (x ∷ xs) ≡ cond b (Some 0) (option_map suc (position p xs))
    from_front x xs true e =
        let there : nat_lt 0 (length (x ∷ xs)) ≡ true = lt-ltb 0 (length (x ∷ xs)) (omega arith) in
        rw (e, there) refl
    from_front x xs false e = rw e (one_more (prefix_len (λ y. not (p y)) xs) (length xs) (nat_lt (prefix_len (λ y. not (p y)) xs) (length xs)) refl)
      where
        one_more : (r n : ℕ) (b : Bool) → nat_lt r n ≡ b → cond (nat_lt (1 + r) (suc n)) (Some (1 + r)) None ≡ option_map suc (cond (nat_lt r n) (Some r) None)
        one_more r n true f =
            let up : nat_lt (1 + r) (suc n) ≡ true = grind (arith, nat_tests, f) in
            let next : 1 + r ≡ suc r = omega arith in
            rw (up, f, next) refl
        one_more r n false f =
            let up : nat_lt (1 + r) (suc n) ≡ false = grind (arith, nat_tests, f) in
            rw (up, f) refl

    position_cons : (x : X) (xs : List X) → position p (x ∷ xs) ≡ cond (p x) (Some 0) (option_map suc (position p xs))
    position_cons x xs = from_front x xs (p x) refl

    -- none of some items passes
    abbrev pub NonePass : List X → Type 0
    NonePass [] = Unit {0}
    NonePass (x ∷ xs) = (p x ≡ false) × NonePass xs

    pub mapped_further : (g : ℕ) (o : Option ℕ) → option_map suc (option_map (further g) o) ≡ option_map (further (suc g)) o
    mapped_further g None = refl
    mapped_further g (Some k) = refl

    mapped_none : (o : Option ℕ) → option_map (further zero) o ≡ o
    mapped_none None = refl
    mapped_none (Some k) = refl

    position_further : (more ys : List X) → NonePass more → position p (more ++ ys) ≡ option_map (further (length more)) (position p ys)
    position_further [] ys h = sym (mapped_none (position p ys))
    position_further (x ∷ more) ys h =
        position_cons x (more ++ ys) ∙ ap (λ b. cond b (Some 0) (option_map suc (position p (more ++ ys)))) h.0
        ∙ ap (option_map suc) (position_further more ys h.1) ∙ mapped_further (length more) (position p ys)

    step : (c g : ℕ) (b : Bool) (o : Option ℕ) → cond b (Some 0) (option_map suc (option_map (shifted c g) o)) ≡ option_map (shifted (suc c) g) (cond b (Some 0) (option_map suc o))
    step c g true o = refl
    step c g false None = refl
    step c g false (Some k) = refl

    -- it is at its new place
    pub position_shifted : (xs more ys : List X) → NonePass more → position p (xs ++ (more ++ ys)) ≡ option_map (shifted (length xs) (length more)) (position p (xs ++ ys))
    position_shifted [] more ys h = position_further more ys h
    position_shifted (x ∷ xs) more ys h =
        position_cons x (xs ++ (more ++ ys))
        ∙ ap (λ o. cond (p x) (Some 0) (option_map suc o)) (position_shifted xs more ys h)
        ∙ step (length xs) (length more) (p x) (position p (xs ++ ys))
        ∙ ap (option_map (shifted (suc (length xs)) (length more))) (sym (position_cons x (xs ++ ys)))
