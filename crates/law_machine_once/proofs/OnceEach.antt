-- Lists in which nothing comes twice.
use Rattle.std.proofs.Common.{if◌then◌else◌, ◌≡◌, ℕ, zero, suc, ◌+◌, ◌==◌, ◌<◌, ◌≤◌, Bool, true, false, not, List, [], ◌∷◌, ◌++◌, Option, Some, None, map, filter, count_by, filter_map, slice_get, refl, sym, ap, subst, ◌∙◌, arith, eq-eqb}
use Rattle.std.specs.Prelude.{⊤}
use Rattle.std.specs.List.{cons_option, flat_map, list_any, range_with_len}
use Rattle.std.proofs.lemmas.Bool.{both_ways}
use Rattle.wdf_base.specs.Resolved.{all_differ}
use Rattle.wdf_model.specs.Tables.{flag}
use Rattle.wdf_model.proofs.Counts.{count_cons, equal}
use Rattle.wdf_model.proofs.Tests.{both_left, both_right, either_false, not_true}
use Rattle.law_machine_lives.proofs.Lists.{Each, each_behind, each_still}
use Rattle.law_machine_lives.proofs.QuietMoves.{each_two}

-- no two items have one key
abbrev pub OnceBy : {T K : Type 0} → (T → K) → List T → Type 0
OnceBy key [] = ⊤
OnceBy key (x ∷ xs) = Each (λ y. key x ≡ key y → ⊥) xs × OnceBy key xs

-- nothing comes twice
abbrev pub Once : {T : Type 0} → List T → Type 0
Once xs = OnceBy (λ x. x) xs

pub once_from : {T K : Type 0} (key : T → K) (xs : List T) → OnceBy key xs → Once xs
once_from key [] h = tt
once_from key (x ∷ xs) h = (each_still (λ y. key x ≡ key y → ⊥) (λ y. x ≡ y → ⊥) (λ y n e. n (ap key e)) xs h.0, once_from key xs h.1)

pub each_flat : {X T : Type 0} (P : T → Type 0) (f : X → List T) (xs : List X) → Each (λ x. Each P (f x)) xs → Each P (flat_map f xs)
each_flat P f [] h = tt
each_flat P f (x ∷ xs) h = each_behind P (f x) (flat_map f xs) h.0 (each_flat P f xs h.1)

pub each_of_all : {T : Type 0} (P : T → Type 0) → ((x : T) → P x) → (xs : List T) → Each P xs
each_of_all P h [] = tt
each_of_all P h (x ∷ xs) = (h x, each_of_all P h xs)

pub each_image : {S T : Type 0} (P : T → Type 0) (g : S → T) (xs : List S) → Each (λ x. P (g x)) xs → Each P (map g xs)
each_image P g [] h = tt
each_image P g (x ∷ xs) h = (h.0, each_image P g xs h.1)

-- two lists, where what the first has the second hasn't
pub once_behind : {T : Type 0} (P : T → Type 0) (xs ys : List T) → Each P xs → Each (λ y. P y → ⊥) ys → Once xs → Once ys → Once (xs ++ ys)
once_behind P [] ys h k a b = b
once_behind P (x ∷ xs) ys h k a b = (
  each_behind (λ y. x ≡ y → ⊥) xs ys a.0 (each_still (λ y. P y → ⊥) (λ y. x ≡ y → ⊥) (λ y n e. n (subst P e h.0)) ys k),
  once_behind P xs ys h.1 k a.1 b,
)

-- lists one after the other, each with its own key
pub once_flat : {X T K : Type 0} (key : T → K) (kx : X → K) (f : X → List T) (xs : List X) → OnceBy kx xs → Each (λ x. Each (λ e. key e ≡ kx x) (f x)) xs → Each (λ x. Once (f x)) xs → Once (flat_map f xs)
once_flat key kx f [] a h o = tt
once_flat key kx f (x ∷ xs) a h o =
    once_behind (λ e. key e ≡ kx x) (f x) (flat_map f xs) h.0
    (each_flat (λ e. key e ≡ kx x → ⊥) f xs
    (each_two (λ y. kx x ≡ kx y → ⊥) (λ y. Each (λ e. key e ≡ kx y) (f y)) (λ y. Each (λ e. key e ≡ kx x → ⊥) (f y))
    (λ y n k. each_still (λ e. key e ≡ kx y) (λ e. key e ≡ kx x → ⊥) (λ e i j. n (sym j ∙ i)) (f y) k) xs a.0 h.1))
    o.0 (once_flat key kx f xs a.1 h.1 o.1)

-- ---- filtered and mapped

kept_once : {T K : Type 0} (key : T → K) (x : T) (ys : List T) (b : Bool) → Each (λ y. key x ≡ key y → ⊥) ys → OnceBy key ys → OnceBy key (if b then x ∷ ys else ys)
kept_once key x ys true h k = (h, k)
kept_once key x ys false h k = k

kept_each : {T : Type 0} (P : T → Type 0) (x : T) (ys : List T) (b : Bool) → P x → Each P ys → Each P (if b then x ∷ ys else ys)
kept_each P x ys true h k = (h, k)
kept_each P x ys false h k = k

pub each_filtered : {T : Type 0} (P : T → Type 0) (p : T → Bool) (xs : List T) → Each P xs → Each P (filter p xs)
each_filtered P p [] h = tt
each_filtered P p (x ∷ xs) h = kept_each P x (filter p xs) (p x) h.0 (each_filtered P p xs h.1)

pub once_filtered : {T K : Type 0} (key : T → K) (p : T → Bool) (xs : List T) → OnceBy key xs → OnceBy key (filter p xs)
once_filtered key p [] h = tt
once_filtered key p (x ∷ xs) h = kept_once key x (filter p xs) (p x) (each_filtered (λ y. key x ≡ key y → ⊥) p xs h.0) (once_filtered key p xs h.1)

pub once_image : {S T K : Type 0} (key : T → K) (g : S → T) (xs : List S) → OnceBy (λ x. key (g x)) xs → OnceBy key (map g xs)
once_image key g [] h = tt
once_image key g (x ∷ xs) h = (each_image (λ y. key (g x) ≡ key y → ⊥) g xs h.0, once_image key g xs h.1)

-- ---- ranges

above : (a b n : ℕ) → a < b → Each (λ y. a ≡ y → ⊥) (range_with_len b n)
above a b zero h = tt
above a b (suc n) h = (λ e. absurd (omega (arith, e)), above a (b + 1) n (omega arith))

pub once_range : (a n : ℕ) → Once (range_with_len a n)
once_range a zero = tt
once_range a (suc n) = (above a (a + 1) n (omega arith), once_range (a + 1) n)

-- ---- keys that a test tells apart

no_other : {T : Type 0} (k : T → ℕ) (x : T) (xs : List T) → list_any (λ y. k x == k y) xs ≡ false → Each (λ y. k x ≡ k y → ⊥) xs
no_other k x [] h = tt
no_other k x (y ∷ ys) h =
    let p = either_false (k x == k y) (list_any (λ z. k x == k z) ys) h in
    (λ e. both_ways (k x == k y) p.0 (eq-eqb (k x) (k y) e), no_other k x ys p.1)

pub once_tested : {T : Type 0} (k : T → ℕ) (xs : List T) → all_differ (λ x y. k x == k y) xs ≡ true → OnceBy k xs
once_tested k [] h = tt
once_tested k (x ∷ xs) h =
    let n : list_any (λ y. k x == k y) xs ≡ false = not_true (list_any (λ y. k x == k y) xs) (both_left (not (list_any (λ y. k x == k y) xs)) (all_differ (λ x y. k x == k y) xs) h) in
    (no_other k x xs n, once_tested k xs (both_right (not (list_any (λ y. k x == k y) xs)) (all_differ (λ x y. k x == k y) xs) h))

-- ---- what is at places

placed_by : {T : Type 0} (P : T → Type 0) (o : Option T) (ys : List T) → ((y : T) → o ≡ Some y → P y) → Each P ys
    → Each P (cons_option o ys)
placed_by P None ys h k = k
placed_by P (Some y) ys h k = (h y refl, k)

pub each_placed : {T : Type 0} (P : T → Type 0) (c : ℕ → Option T) (b n : ℕ) → ((k : ℕ) (y : T) → b ≤ k → k < b + n → c k ≡ Some y → P y) → Each P (filter_map c (range_with_len b n))
each_placed P c b zero h = tt
each_placed P c b (suc n) h =
    placed_by P (c b) (filter_map c (range_with_len (b + 1) n)) (λ y e. h b y (omega arith) (omega arith) e)
    (each_placed P c (b + 1) n (λ k y low high e. h k y (omega (arith, low)) (omega (arith, high)) e))

first_once : {T : Type 0} (o : Option T) (ys : List T) → ((x : T) → o ≡ Some x → Each (λ y. x ≡ y → ⊥) ys) → Once ys
    → Once (cons_option o ys)
first_once None ys h k = k
first_once (Some x) ys h k = (h x refl, k)

-- what is at one place only
pub once_placed : {T : Type 0} (c : ℕ → Option T) (a n : ℕ) → ((j k : ℕ) (e : T) → j < a + n → k < a + n → c j ≡ Some e → c k ≡ Some e → j ≡ k) → Once (filter_map c (range_with_len a n))
once_placed c a zero h = tt
once_placed {T} c a (suc n) h =
    first_once (c a) (filter_map c (range_with_len (a + 1) n))
    (λ x at. each_placed (λ y. x ≡ y → ⊥) c (a + 1) n (λ k y low high e same.
    let one : a ≡ k = h a k y (omega arith) (omega (arith, high)) (at ∙ ap (λ z. Some z) same) e in
    absurd (omega (arith, low, one))))
    (once_placed c (a + 1) n (λ j k e in_j in_k at_j at_k. h j k e (omega (arith, in_j)) (omega (arith, in_k)) at_j at_k))

-- ---- items that are counted once

none_at : {T : Type 0} (p : T → Bool) (xs : List T) (k : ℕ) (x : T) → slice_get xs k ≡ Some x → p x ≡ true → 1 ≤ count_by p xs
none_at p [] k x at h = absurd (let z : ⊥ = cc in z)
none_at p (y ∷ ys) zero x at h =
    let same : y ≡ x = cc in
    let f : flag (p y) ≡ 1 = rw (same, h) refl in
    let c = count_cons p y ys in
    omega arith
none_at p (y ∷ ys) (suc k) x at h =
    let rest = none_at p ys k x at h in
    let c = count_cons p y ys in
    omega arith

-- two places of items with one key are one
pub counted_once : {T : Type 0} (key : T → ℕ) (xs : List T) → ((o : ℕ) → count_by (λ x. key x == o) xs ≤ 1) → (j k : ℕ) (x y : T) → slice_get xs j ≡ Some x → slice_get xs k ≡ Some y → key x ≡ key y → j ≡ k
counted_once key [] h j k x y at_j at_k e = absurd (let z : ⊥ = cc in z)
counted_once key (z ∷ zs) h zero zero x y at_j at_k e = refl
counted_once key (z ∷ zs) h zero (suc k) x y at_j at_k e =
    let same : z ≡ x = cc in
    let f : flag (key z == key y) ≡ 1 = rw (same, equal (key x) (key y) e) refl in
    let c = count_cons (λ w. key w == key y) z zs in
    let more = none_at (λ w. key w == key y) zs k y at_k (equal (key y) (key y) refl) in
    let few = h (key y) in
    absurd (omega arith)
counted_once key (z ∷ zs) h (suc j) zero x y at_j at_k e =
    let same : z ≡ y = cc in
    let f : flag (key z == key x) ≡ 1 = rw (same, equal (key y) (key x) (sym e)) refl in
    let c = count_cons (λ w. key w == key x) z zs in
    let more = none_at (λ w. key w == key x) zs j x at_j (equal (key x) (key x) refl) in
    let few = h (key x) in
    absurd (omega arith)
counted_once key (z ∷ zs) h (suc j) (suc k) x y at_j at_k e =
    ap suc (counted_once key zs (λ o. let c = count_cons (λ w. key w == o) z zs in let few = h o in omega arith) j k x y at_j at_k e)

-- nothing is at two places of such a list
pub not_at : {T : Type 0} (x : T) (xs : List T) (k : ℕ) → Each (λ y. x ≡ y → ⊥) xs → slice_get xs k ≡ Some x → ⊥
not_at x [] k h at = let z : ⊥ = cc in z
not_at x (y ∷ ys) zero h at = let same : y ≡ x = cc in h.0 (sym same)
not_at x (y ∷ ys) (suc k) h at = not_at x ys k h.1 at

pub one_place : {T : Type 0} (xs : List T) → Once xs → (j k : ℕ) (x : T) → slice_get xs j ≡ Some x → slice_get xs k ≡ Some x → j ≡ k
one_place [] h j k x at_j at_k = absurd (let z : ⊥ = cc in z)
one_place (y ∷ ys) h zero zero x at_j at_k = refl
one_place (y ∷ ys) h zero (suc k) x at_j at_k = let same : y ≡ x = cc in absurd (not_at x ys k (subst (λ z. Each (λ w. z ≡ w → ⊥) ys) same h.0) at_k)
one_place (y ∷ ys) h (suc j) zero x at_j at_k = let same : y ≡ x = cc in absurd (not_at x ys j (subst (λ z. Each (λ w. z ≡ w → ⊥) ys) same h.0) at_j)
one_place (y ∷ ys) h (suc j) (suc k) x at_j at_k = ap suc (one_place ys h.1 j k x at_j at_k)
