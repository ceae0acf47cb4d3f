-- Lists that are kept, mapped and asked.
use Rattle.std.proofs.Common.{if◌then◌else◌, ◌≡◌, ◌<◌, ◌≤◌, ℕ, zero, ◌+◌, ◌==◌, Bool, true, false, not, ◌&&◌, ◌||◌, nat_lt, inl, inr, List, [], ◌∷◌, ◌++◌, length, filter, get_or, map, position, Some, None, refl, ap, ◌∙◌, arith, zero-add}
use Rattle.std.specs.List.{list_all, range_with_len, position_or_len}
use Rattle.std.proofs.lemmas.Bool.{eqb-true}
use Rattle.std.proofs.lemmas.Bool.Decides.{nat_tests}
use Rattle.std.proofs.lemmas.List.FromFn.{get_or-range_with_len, length-range_with_len}
use Rattle.std.proofs.lemmas.List.Sums.{position_or_len_is}
use Rattle.wdf_base.proofs.Tests.{both_left, both_right}
use Rattle.wdf_model.proofs.Counts.{equal}
use Rattle.law_stuck_causes.proofs.Members.{Has}
use Rattle.law_stuck_causes.proofs.Stages.{each_one}
use Rattle.law_idle.proofs.Pending.{same_so}

-- ---- what is kept

kept_by : (p q s : ℕ → Bool) (x : ℕ) (xs : List ℕ) (a b : Bool) → p x ≡ a → q x ≡ b → s x ≡ (a && b) → filter s xs ≡ filter q (filter p xs) → filter s (x ∷ xs) ≡ filter q (filter p (x ∷ xs))
kept_by p q s x xs true true e f g rest = rw (e, f, g) (ap (λ ys. x ∷ ys) rest)
kept_by p q s x xs true false e f g rest = rw (e, f, g) rest
kept_by p q s x xs false b e f g rest = rw (e, g) rest

-- what passes two tests
pub kept_twice : (p q s : ℕ → Bool) → ((x : ℕ) → s x ≡ (p x && q x)) → (xs : List ℕ) → filter s xs ≡ filter q (filter p xs)
kept_twice p q s h [] = refl
kept_twice p q s h (x ∷ xs) = kept_by p q s x xs (p x) (q x) refl refl (h x) (kept_twice p q s h xs)

alike_by : (p q : ℕ → Bool) (x : ℕ) (xs : List ℕ) (a : Bool) → p x ≡ a → q x ≡ a → filter p xs ≡ filter q xs → filter p (x ∷ xs) ≡ filter q (x ∷ xs)
alike_by p q x xs true e f rest = rw (e, f) (ap (λ ys. x ∷ ys) rest)
alike_by p q x xs false e f rest = rw (e, f) rest

pub kept_alike : (p q : ℕ → Bool) → ((x : ℕ) → q x ≡ p x) → (xs : List ℕ) → filter p xs ≡ filter q xs
kept_alike p q h [] = refl
kept_alike p q h (x ∷ xs) = alike_by p q x xs (p x) refl (h x) (kept_alike p q h xs)

pub append_none : (xs : List ℕ) → xs ++ [] ≡ xs
append_none [] = refl
append_none (x ∷ xs) = ap (λ ys. x ∷ ys) (append_none xs)

-- ---- what is mapped

pub mapped_alike : {S T : Type 0} (f g : S → T) → ((x : S) → f x ≡ g x) → (xs : List S) → map f xs ≡ map g xs
mapped_alike f g h [] = refl
mapped_alike f g h (x ∷ xs) = rw (h x) (ap (λ ys. g x ∷ ys) (mapped_alike f g h xs))

-- ---- what is asked of each

pub asked_alike : (p q : ℕ → Bool) → ((x : ℕ) → p x ≡ q x) → (xs : List ℕ) → list_all p xs ≡ list_all q xs
asked_alike p q h [] = refl
asked_alike p q h (x ∷ xs) = rw (h x, asked_alike p q h xs) refl

pub asked_nothing : (p : ℕ → Bool) → ((x : ℕ) → p x ≡ true) → (xs : List ℕ) → list_all p xs ≡ true
asked_nothing p h [] = refl
asked_nothing p h (x ∷ xs) = rw (h x, asked_nothing p h xs) refl

asked_of : (p : ℕ → Bool) (x : ℕ) (xs : List ℕ) → list_all p xs ≡ true → Has x xs → p x ≡ true
asked_of p x [] h k = absurd k
asked_of p x (y ∷ ys) h (inl e) = rw e (both_left (p y) (list_all p ys) h)
asked_of p x (y ∷ ys) h (inr k) = asked_of p x ys (both_right (p y) (list_all p ys) h) k

-- a test of those that take part, asked of one list, and asked of another that has them all, as far as they are in the first
module _ (part here verdict : ℕ → Bool) (ids all : List ℕ) (there : (d : ℕ) → part d ≡ true → Has d ids) (into : (d : ℕ) → here d ≡ true → Has d all) (from : (d : ℕ) → Has d all → here d ≡ true) where
  onwards : (d : ℕ) (a b : Bool) → part d ≡ a → here d ≡ b → list_all (λ x. not (part x) || verdict x) all ≡ true → (not (part d) || (not (here d) || verdict d)) ≡ true
  onwards d true true e f h = rw (e, f) (let v : (not (part d) || verdict d) ≡ true = asked_of (λ x. not (part x) || verdict x) d all h (into d f) in rw e at v)
  onwards d true false e f h = rw (e, f) refl
  onwards d false b e f h = rw e refl

  back : (d : ℕ) (a : Bool) → part d ≡ a → Has d all → list_all (λ x. not (part x) || (not (here x) || verdict x)) ids ≡ true → (not (part d) || verdict d) ≡ true
  back d true e k h = rw e (let v : (not (part d) || (not (here d) || verdict d)) ≡ true = asked_of (λ x. not (part x) || (not (here x) || verdict x)) d ids h (there d e) in rw (e, from d k) at v)
  back d false e k h = rw e refl

  pub asked_within : list_all (λ x. not (part x) || verdict x) all ≡ list_all (λ x. not (part x) || (not (here x) || verdict x)) ids
  asked_within =
      same_so (list_all (λ x. not (part x) || verdict x) all) (list_all (λ x. not (part x) || (not (here x) || verdict x)) ids)
      (λ h. each_one (λ x. not (part x) || (not (here x) || verdict x)) ids (λ d k. onwards d (part d) (here d) refl refl h))
      (λ h. each_one (λ x. not (part x) || verdict x) all (λ d k. back d (part d) refl k h))

-- a test of one that takes part, asked of a list that has it
module _ (part verdict : ℕ → Bool) (d : ℕ) (ids : List ℕ) (there : part d ≡ true → Has d ids) where
  onwards_by : (x : ℕ) (a : Bool) → (d == x) ≡ a → (not (part d) || verdict d) ≡ true → (not (part x) || (not (d == x) || verdict x)) ≡ true
  onwards_by x true e h = let same : d ≡ x = eqb-true d x e in rw (← same, equal d d refl) h
  onwards_by x false e h = rw e (or_true (not (part x)))
    where
      or_true : (b : Bool) → (b || true) ≡ true
      or_true true = refl
      or_true false = refl

  back_by : (a : Bool) → part d ≡ a → list_all (λ x. not (part x) || (not (d == x) || verdict x)) ids ≡ true → (not (part d) || verdict d) ≡ true
  back_by true e h = rw e (let v : (not (part d) || (not (d == d) || verdict d)) ≡ true = asked_of (λ x. not (part x) || (not (d == x) || verdict x)) d ids h (there e) in rw (e, equal d d refl) at v)
  back_by false e h = rw e refl

  pub asked_of_one : (not (part d) || verdict d) ≡ list_all (λ x. not (part x) || (not (d == x) || verdict x)) ids
  asked_of_one =
      same_so (not (part d) || verdict d) (list_all (λ x. not (part x) || (not (d == x) || verdict x)) ids)
      (λ h. each_one (λ x. not (part x) || (not (d == x) || verdict x)) ids (λ x k. onwards_by x (d == x) refl h))
      (λ h. back_by (part d) refl h)

-- ---- the first number of a range that passes

module _ (p : ℕ → Bool) (n : ℕ) where
  at : (j : ℕ) → j < n → get_or (range_with_len 0 n) j 0 ≡ j
  at j low = get_or-range_with_len 0 n j 0 low ∙ zero-add j

  first_at : (k : ℕ) → k ≤ n → ((j : ℕ) → j < k → p j ≡ false) → (k < n → p k ≡ true) → position_or_len p (range_with_len 0 n) ≡ k
  first_at k within none here =
      let size : length (range_with_len 0 n) ≡ n = length-range_with_len 0 n in
      position_or_len_is p (range_with_len 0 n) k 0 (omega (arith, size))
      (λ j below. ap p (at j (omega arith)) ∙ none j below)
      (λ below. let low : k < n = omega (arith, size) in ap p (at k low) ∙ here low)

  place_by : (k : ℕ) (b : Bool) → position_or_len p (range_with_len 0 n) ≡ k → nat_lt k (length (range_with_len 0 n)) ≡ b → position p (range_with_len 0 n) ≡ (if b then Some k else None)
  place_by k b e f = rw (e, f) refl

  -- it is k
  pub first_is : (k : ℕ) → k < n → ((j : ℕ) → j < k → p j ≡ false) → p k ≡ true → position p (range_with_len 0 n) ≡ Some k
  first_is k low none here =
      let size : length (range_with_len 0 n) ≡ n = length-range_with_len 0 n in
      place_by k true (first_at k (omega arith) none (λ _. here)) (below k (length (range_with_len 0 n)) (omega (arith, size)))
    where
      below : (a b : ℕ) → a < b → nat_lt a b ≡ true
      below a b h = grind (arith, nat_tests)

  -- there is none
  pub first_none : ((j : ℕ) → j < n → p j ≡ false) → position p (range_with_len 0 n) ≡ None
  first_none none =
      let size : length (range_with_len 0 n) ≡ n = length-range_with_len 0 n in
      place_by n false (first_at n (omega arith) none (λ low. absurd (omega arith))) (past n (length (range_with_len 0 n)) (omega (arith, size)))
    where
      past : (a b : ℕ) → b ≤ a → nat_lt a b ≡ false
      past a b h = grind (arith, nat_tests)
