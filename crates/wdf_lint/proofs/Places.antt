-- Items of lists by their places.
use Rattle.std.proofs.Common.{◌≡◌, ℕ, zero, suc, ◌+◌, ◌-◌, ◌<◌, ◌≤◌, nat_lt, Bool, true, false, ◌⊎◌, inl, inr, List, [], ◌∷◌, ◌++◌, length, take, drop, Option, Some, None, Contains, refl, sym, ap, subst, ◌∙◌, arith, slice_get}
use Rattle.std.specs.List.{flat_map}
use Rattle.std.specs.List.Sorted.{IsPermutation}
use Rattle.std.proofs.lemmas.Bool.Decides.{nat_tests}
use Rattle.std.proofs.lemmas.List.{length-append}
use Rattle.std.proofs.lemmas.List.Sorted.{Contains-permutation, IsPermutation-sym}
use Rattle.std.proofs.lemmas.Option.{get_or_from_slice_get, slice_get-get_or, slice_get_within}
use Rattle.wdf_lint.specs.Walks.{IsIn}

pub same_some : {T : Type 0} {x y : T} → Some x ≡ Some y → x ≡ y
same_some {T} {x} {y} e = cc

pub not_both : {T P : Type 0} {x : T} {o : Option T} → o ≡ Some x → o ≡ None → P
not_both {T} {P} {x} {o} a b = absurd (let z : ⊥ = cc in z)

-- a place is before another, or not
pub before_or_not : (n m : ℕ) → (n < m) ⊎ (m ≤ n)
before_or_not n m = by (nat_lt n m) refl
  where
    by : (b : Bool) → nat_lt n m ≡ b → (n < m) ⊎ (m ≤ n)
    by true e = inl (grind (arith, nat_tests))
    by false e = inr (grind (arith, nat_tests))

pub sooner_or_there : (n m : ℕ) → n < m + 1 → (n < m) ⊎ (n ≡ m)
sooner_or_there n m h = elim (before_or_not n m) [
  | inl less ↦ inl less
  | inr more ↦ inr (omega arith)
]

pub item_at : {T : Type 0} (xs : List T) (n : ℕ) → n < length xs → (d : T) × (slice_get xs n ≡ Some d)
item_at [] n h = absurd (omega arith)
item_at (x ∷ xs) zero h = (x, refl)
item_at (x ∷ xs) (suc n) h = item_at xs n (omega arith)

-- ---- lists that go on

-- a list that goes on another
pub record GoesOn {T : Type 0} (xs ys : List T) : Type 0 where
  pub more : List T
  pub is : ys ≡ xs ++ more

get_front : {T : Type 0} (xs more : List T) (n : ℕ) (a : T) → slice_get xs n ≡ Some a → slice_get (xs ++ more) n ≡ Some a
get_front [] more n a h = not_both h refl
get_front (x ∷ xs) more zero a h = h
get_front (x ∷ xs) more (suc n) a h = get_front xs more n a h

get_back : {T : Type 0} (xs more : List T) (n : ℕ) → slice_get (xs ++ more) (length xs + n) ≡ slice_get more n
get_back [] more n = let e : 0 + n ≡ n = omega arith in rw e refl
get_back (x ∷ xs) more n = let e : suc (length xs) + n ≡ suc (length xs + n) = omega arith in rw e (get_back xs more n)

pub stays : {T : Type 0} (xs ys : List T) → GoesOn xs ys → (n : ℕ) (a : T) → slice_get xs n ≡ Some a → slice_get ys n ≡ Some a
stays xs ys g n a h = subst (λ l. slice_get l n ≡ Some a) (sym g.is) (get_front xs g.more n a h)

pub as_before : {T : Type 0} (xs ys : List T) → GoesOn xs ys → (n : ℕ) (a : T) → n < length xs → slice_get ys n ≡ Some a → slice_get xs n ≡ Some a
as_before xs ys g n a less h =
    let old = item_at xs n less in
    let same : old.0 ≡ a = same_some (sym (stays xs ys g n old.0 old.1) ∙ h) in
    old.1 ∙ ap Some same

pub on_by : {T : Type 0} (xs more : List T) → GoesOn xs (xs ++ more)
on_by xs more = record { more = more; is = refl }

append_none : {T : Type 0} (xs : List T) → xs ≡ xs ++ []
append_none [] = refl
append_none (x ∷ xs) = ap (λ l. x ∷ l) (append_none xs)

pub on_itself : {T : Type 0} (xs : List T) → GoesOn xs xs
on_itself xs = record { more = []; is = append_none xs }

append_twice : {T : Type 0} (xs ys zs : List T) → (xs ++ ys) ++ zs ≡ xs ++ (ys ++ zs)
append_twice [] ys zs = refl
append_twice (x ∷ xs) ys zs = rw (append_twice xs ys zs) refl

pub on_from : {T : Type 0} (xs ys zs : List T) → GoesOn xs ys → GoesOn ys zs → GoesOn xs zs
on_from xs ys zs g h = record { more = g.more ++ h.more; is = h.is ∙ ap (λ l. l ++ h.more) g.is ∙ append_twice xs g.more h.more }

pub on_length : {T : Type 0} (xs ys : List T) → GoesOn xs ys → length xs ≤ length ys
on_length xs ys g = let e : length ys ≡ length xs + length g.more = ap length g.is ∙ length-append xs g.more in omega arith

-- ---- one item more

pub one_more : {T : Type 0} (xs : List T) (a : T) → length (xs ++ a ∷ []) ≡ length xs + 1
one_more xs a = length-append xs (a ∷ [])

pub get_last : {T : Type 0} (xs : List T) (a : T) → slice_get (xs ++ a ∷ []) (length xs) ≡ Some a
get_last [] a = refl
get_last (x ∷ xs) a = get_last xs a

-- an item is an old one or the last
pub in_last : {T : Type 0} (xs : List T) (a : T) (n : ℕ) (b : T) → slice_get (xs ++ a ∷ []) n ≡ Some b → ((n < length xs) × (slice_get xs n ≡ Some b)) ⊎ ((n ≡ length xs) × (b ≡ a))
in_last xs a n b h = elim (before_or_not n (length xs)) [
  | inl less ↦ inl (less, as_before xs (xs ++ a ∷ []) (on_by xs (a ∷ [])) n b less h)
  | inr more ↦
      let within : n < length (xs ++ a ∷ []) = slice_get_within (xs ++ a ∷ []) n b h in
      let long = one_more xs a in
      let at : n ≡ length xs = omega arith in
      let last : slice_get (xs ++ a ∷ []) n ≡ Some a = subst (λ m. slice_get (xs ++ a ∷ []) m ≡ Some a) (sym at) (get_last xs a) in
      inr (at, same_some (sym h ∙ last))
]

-- ---- two lists

-- an item of two lists is one of the first or one of the second
pub in_both : {T : Type 0} (xs ys : List T) (n : ℕ) (b : T) → slice_get (xs ++ ys) n ≡ Some b → ((n < length xs) × (slice_get xs n ≡ Some b)) ⊎ ((length xs ≤ n) × (slice_get ys (n - length xs) ≡ Some b))
in_both xs ys n b h = elim (before_or_not n (length xs)) [
  | inl less ↦ inl (less, as_before xs (xs ++ ys) (on_by xs ys) n b less h)
  | inr more ↦
      let e : length xs + (n - length xs) ≡ n = omega arith in
      inr (more, sym (get_back xs ys (n - length xs)) ∙ subst (λ m. slice_get (xs ++ ys) m ≡ Some b) (sym e) h)
]

pub in_second : {T : Type 0} (xs ys : List T) (n : ℕ) (b : T) → slice_get ys n ≡ Some b → slice_get (xs ++ ys) (length xs + n) ≡ Some b
in_second xs ys n b h = get_back xs ys n ∙ h

-- ---- items of many lists

pub in_flat : {T U : Type 0} (f : T → List U) (xs : List T) (n : ℕ) (b : U) → slice_get (flat_map f xs) n ≡ Some b → (i : ℕ) × (x : T) × (slice_get xs i ≡ Some x) × IsIn b (f x)
in_flat f [] n b h = not_both h refl
in_flat f (x ∷ xs) n b h = elim (in_both (f x) (flat_map f xs) n b h) [
  | inl here ↦ (0, x, refl, (n, here.1))
  | inr there ↦ let r = in_flat f xs (n - length (f x)) b there.1 in (suc r.0, r.1, r.2, r.3)
]

pub flat_in : {T U : Type 0} (f : T → List U) (xs : List T) (i : ℕ) (x : T) (b : U) → slice_get xs i ≡ Some x → IsIn b (f x) → IsIn b (flat_map f xs)
flat_in f [] i x b h is = not_both h refl
flat_in f (y ∷ ys) zero x b h is = let same : y ≡ x = same_some h in let here : IsIn b (f y) = subst (λ z. IsIn b (f z)) (sym same) is in (here.0, stays (f y) (f y ++ flat_map f ys) (on_by (f y) (flat_map f ys)) here.0 b here.1)
flat_in f (y ∷ ys) (suc i) x b h is = let r = flat_in f ys i x b h is in (length (f y) + r.0, in_second (f y) (flat_map f ys) r.0 b r.1)

-- ---- a part of a list

get_dropped : {T : Type 0} (from n : ℕ) (xs : List T) → slice_get (drop from xs) n ≡ slice_get xs (from + n)
get_dropped zero n xs = let e : 0 + n ≡ n = omega arith in rw e refl
get_dropped (suc from) n [] = refl
get_dropped (suc from) n (x ∷ xs) = let e : suc from + n ≡ suc (from + n) = omega arith in rw e (get_dropped from n xs)

get_taken : {T : Type 0} (to n : ℕ) (xs : List T) (x : T) → slice_get (take to xs) n ≡ Some x → (n < to) × (slice_get xs n ≡ Some x)
get_taken zero n xs x h = not_both h refl
get_taken (suc to) n [] x h = not_both h refl
get_taken (suc to) zero (y ∷ ys) x h = (omega arith, h)
get_taken (suc to) (suc n) (y ∷ ys) x h = let r = get_taken to n ys x h in (let less = r.0 in omega arith, r.1)

taken_get : {T : Type 0} (to n : ℕ) (xs : List T) (x : T) → n < to → slice_get xs n ≡ Some x → slice_get (take to xs) n ≡ Some x
taken_get zero n xs x less h = absurd (omega arith)
taken_get (suc to) n [] x less h = not_both h refl
taken_get (suc to) zero (y ∷ ys) x less h = h
taken_get (suc to) (suc n) (y ∷ ys) x less h = taken_get to n ys x (omega arith) h

pub in_range : {T : Type 0} (xs : List T) (from end n : ℕ) (x : T) → slice_get (take (end - from) (drop from xs)) n ≡ Some x → (from + n < end) × (slice_get xs (from + n) ≡ Some x)
in_range xs from end n x h = let r = get_taken (end - from) n (drop from xs) x h in (let less = r.0 in omega arith, sym (get_dropped from n xs) ∙ r.1)

pub range_in : {T : Type 0} (xs : List T) (from end i : ℕ) (x : T) → from ≤ i → i < end → slice_get xs i ≡ Some x → slice_get (take (end - from) (drop from xs)) (i - from) ≡ Some x
range_in xs from end i x low high h =
    let e : from + (i - from) ≡ i = omega arith in
    taken_get (end - from) (i - from) (drop from xs) x (omega arith) (get_dropped from (i - from) xs ∙ subst (λ m. slice_get xs m ≡ Some x) (sym e) h)

-- ---- another order

pub in_moved : {T : Type 0} (xs ys : List T) (x : T) → IsPermutation xs ys → IsIn x xs → IsIn x ys
in_moved xs ys x moved is =
    let c : Contains xs x = (is.0, slice_get_within xs is.0 x is.1, get_or_from_slice_get xs is.0 x x is.1) in
    let d = Contains-permutation xs ys x moved c in
    (d.0, slice_get-get_or ys d.0 x d.1 ∙ ap Some d.2)

pub in_unmoved : {T : Type 0} (xs ys : List T) (x : T) → IsPermutation xs ys → IsIn x ys → IsIn x xs
in_unmoved xs ys x moved is = in_moved ys xs x (IsPermutation-sym xs ys moved) is
