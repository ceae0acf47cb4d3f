-- What is in a list: of a range, of what is kept, of what is gathered.
use Rattle.std.proofs.Common.{◌≡◌, ◌⊎◌, inl, inr, ℕ, zero, suc, ◌+◌, ◌==◌, ◌<◌, ◌≤◌, Bool, true, false, nat_lt, List, [], ◌∷◌, ◌++◌, length, filter, map, slice_get, Option, Some, None, refl, sym, ap, ◌∙◌, if◌then◌else◌, arith}
use Rattle.std.specs.Prelude.{⊤, filter_map}
use Rattle.std.proofs.lemmas.Bool.Decides.{nat_tests}
use Rattle.std.specs.List.{flat_map, range_with_len, list_any}
use Rattle.wdf_model.specs.Tables.{contains, entry}
use Rattle.wdf_model.proofs.Counts.{one_or_two}

-- ---- items of a list

abbrev pub Has : {T : Type 0} → T → List T → Type 0
Has x [] = ⊥
Has x (y ∷ ys) = (x ≡ y) ⊎ Has x ys

pub has_front : {T : Type 0} (x : T) (xs ys : List T) → Has x xs → Has x (xs ++ ys)
has_front x (y ∷ xs) ys (inl e) = inl e
has_front x (y ∷ xs) ys (inr h) = inr (has_front x xs ys h)
has_front x [] ys h = absurd h

pub has_back : {T : Type 0} (x : T) (xs ys : List T) → Has x ys → Has x (xs ++ ys)
has_back x [] ys h = h
has_back x (y ∷ xs) ys h = inr (has_back x xs ys h)

pub has_flat : {T U : Type 0} (f : T → List U) (x : T) (y : U) (xs : List T) → Has x xs → Has y (f x) → Has y (flat_map f xs)
has_flat f x y [] h k = absurd h
has_flat f x y (z ∷ zs) (inl e) k = has_front y (f z) (flat_map f zs) (rw (← e) k)
has_flat f x y (z ∷ zs) (inr h) k = has_back y (f z) (flat_map f zs) (has_flat f x y zs h k)

has_first : {T U : Type 0} (f : T → Option U) (z : T) (y : U) (zs : List T) (o : Option U) → f z ≡ o → o ≡ Some y → Has y (filter_map f (z ∷ zs))
has_first f z y zs None e h = absurd (let n : ⊥ = cc in n)
has_first f z y zs (Some w) e h = rw e (inl (let s : y ≡ w = cc in s))

has_later : {T U : Type 0} (f : T → Option U) (z : T) (y : U) (zs : List T) (o : Option U) → f z ≡ o → Has y (filter_map f zs) → Has y (filter_map f (z ∷ zs))
has_later f z y zs None e h = rw e h
has_later f z y zs (Some w) e h = rw e (inr h)

pub has_mapped : {T U : Type 0} (f : T → Option U) (x : T) (y : U) (xs : List T) → Has x xs → f x ≡ Some y → Has y (filter_map f xs)
has_mapped f x y [] h k = absurd h
has_mapped f x y (z ∷ zs) (inl e) k = has_first f z y zs (f z) refl (ap f (sym e) ∙ k)
has_mapped f x y (z ∷ zs) (inr h) k = has_later f z y zs (f z) refl (has_mapped f x y zs h k)

pub among_of : {T : Type 0} (x : T) (xs : List T) → Has x xs → (k : ℕ) × (slice_get xs k ≡ Some x)
among_of x [] h = absurd h
among_of x (y ∷ ys) (inl e) = (0, ap Some (sym e))
among_of x (y ∷ ys) (inr h) = let more = among_of x ys h in (suc more.0, more.1)

kept_has : {T : Type 0} (p : T → Bool) (x y : T) (ys : List T) (b : Bool) → p y ≡ b → p x ≡ true → (x ≡ y) ⊎ Has x ys → (Has x ys → Has x (filter p ys)) → Has x (if b then y ∷ filter p ys else filter p ys)
kept_has p x y ys true e h (inl s) rest = inl s
kept_has p x y ys true e h (inr k) rest = inr (rest k)
kept_has p x y ys false e h (inl s) rest = let same : p x ≡ p y = ap p s in absurd (let z : ⊥ = cc in z)
kept_has p x y ys false e h (inr k) rest = rest k

-- what passes is still there
pub has_kept : {T : Type 0} (p : T → Bool) (x : T) (xs : List T) → Has x xs → p x ≡ true → Has x (filter p xs)
has_kept p x [] k h = absurd k
has_kept p x (y ∷ ys) k h = kept_has p x y ys (p y) refl h k (λ j. has_kept p x ys j h)

pub has_image : {T U : Type 0} (f : T → U) (x : T) (xs : List T) → Has x xs → Has (f x) (map f xs)
has_image f x [] h = absurd h
has_image f x (y ∷ ys) (inl e) = inl (ap f e)
has_image f x (y ∷ ys) (inr h) = inr (has_image f x ys h)

-- each number of a range is in it
pub has_range : (x a n : ℕ) → a ≤ x → x < a + n → Has x (range_with_len a n)
has_range x a zero low high = absurd (omega arith)
has_range x a (suc n) low high = elim (one_or_two x a) [
  | inl e ↦ inl e
  | inr d ↦ inr (has_range x (a + 1) n (omega arith) (omega arith))
]

pub below_range : (x a n : ℕ) → Has x (range_with_len a n) → x < a + n
below_range x a zero h = absurd h
below_range x a (suc n) (inl e) = omega arith
below_range x a (suc n) (inr h) = let less : x < (a + 1) + n = below_range x (a + 1) n h in omega arith

none_by : {T : Type 0} (p : T → Bool) (y : T) (ys : List T) (b : Bool) → p y ≡ b → filter p (y ∷ ys) ≡ [] → (p y ≡ false) × (filter p ys ≡ [])
none_by p y ys true e h = absurd (let k : y ∷ filter p ys ≡ [] = (rw e at h) in let z : ⊥ = cc in z)
none_by p y ys false e h = (e, rw e at h)

-- where nothing is kept, nothing passes
pub none_passes : {T : Type 0} (p : T → Bool) (xs : List T) → filter p xs ≡ [] → (x : T) → Has x xs → p x ≡ false
none_passes p [] h x k = absurd k
none_passes p (y ∷ ys) h x (inl e) = ap p e ∙ (none_by p y ys (p y) refl h).0
none_passes p (y ∷ ys) h x (inr k) = none_passes p ys (none_by p y ys (p y) refl h).1 x k

pub no_length : {T : Type 0} (xs : List T) → nat_lt 0 (length xs) ≡ false → xs ≡ []
no_length [] h = refl
no_length (x ∷ xs) h = absurd (let z : ⊥ = grind (arith, nat_tests) in z)

-- ---- ids

has_id_by : (x y : ℕ) (ys : List ℕ) (b : Bool) → (y == x) ≡ b → (contains x ys ≡ true → Has x ys) → contains x (y ∷ ys) ≡ true → Has x (y ∷ ys)
has_id_by x y ys true e rest h = inl (grind (arith, nat_tests))
has_id_by x y ys false e rest h = inr (rest (rw e at h))

pub has_id : (x : ℕ) (xs : List ℕ) → contains x xs ≡ true → Has x xs
has_id x [] h = absurd (let z : ⊥ = cc in z)
has_id x (y ∷ ys) h = has_id_by x y ys (y == x) refl (has_id x ys) h

-- ---- what is so of each of a list

abbrev pub Each : {T : Type 0} → (T → Type 0) → List T → Type 0
Each P [] = ⊤
Each P (x ∷ xs) = P x × Each P xs

pub each_here : {T : Type 0} (P : T → Type 0) (xs : List T) (x : T) → Each P xs → Has x xs → P x
each_here P [] x e h = absurd h
each_here P (y ∷ ys) x e (inl s) = rw s e.0
each_here P (y ∷ ys) x e (inr h) = each_here P ys x e.1 h

kept_by : {T : Type 0} (P : T → Type 0) (p : T → Bool) (x : T) (xs : List T) (b : Bool) → p x ≡ b → (p x ≡ true → P x) → Each P (filter p xs) → Each P (filter p (x ∷ xs))
kept_by P p x xs true e h rest = rw e (h e, rest)
kept_by P p x xs false e h rest = rw e rest

-- what passes and has a property, where each that passes and is in the list has it
pub each_kept : {T : Type 0} (P : T → Type 0) (p : T → Bool) (xs : List T) → ((x : T) → Has x xs → p x ≡ true → P x) → Each P (filter p xs)
each_kept P p [] h = tt
each_kept P p (x ∷ xs) h = kept_by P p x xs (p x) refl (h x (inl refl)) (each_kept P p xs (λ y k e. h y (inr k) e))

-- ---- a range, as far as something passes

nothing_from : (p : ℕ → Bool) (a n : ℕ) → ((x : ℕ) → a ≤ x → p x ≡ false) → filter p (range_with_len a n) ≡ []
nothing_from p a zero h = refl
nothing_from p a (suc n) h = rw (h a (omega arith)) (nothing_from p (a + 1) n (λ x low. h x (omega arith)))

kept_alike : (p : ℕ → Bool) (a : ℕ) (xs ys : List ℕ) (b : Bool) → p a ≡ b → filter p xs ≡ filter p ys → filter p (a ∷ xs) ≡ filter p (a ∷ ys)
kept_alike p a xs ys true e h = rw e (ap (λ zs. a ∷ zs) h)
kept_alike p a xs ys false e h = rw e h

-- two ranges that both go as far keep the same
pub same_kept : (p : ℕ → Bool) (a n k : ℕ) → ((x : ℕ) → a + n ≤ x → p x ≡ false) → ((x : ℕ) → a + k ≤ x → p x ≡ false)
    → filter p (range_with_len a n) ≡ filter p (range_with_len a k)
same_kept p a zero k h g = sym (nothing_from p a k (λ x low. h x (omega arith)))
same_kept p a (suc n) zero h g = nothing_from p a (suc n) (λ x low. g x (omega arith))
same_kept p a (suc n) (suc k) h g =
    kept_alike p a (range_with_len (a + 1) n) (range_with_len (a + 1) k) (p a) refl
    (same_kept p (a + 1) n k (λ x low. h x (omega arith)) (λ x low. g x (omega arith)))

-- ---- mapped lists

-- a map and a choice give the same, where the choice takes each
pub chosen : {T U V : Type 0} (f : T → Option U) (g : T → Option V) (v : U → V) (xs : List T)
    → Each (λ x. (y : U) × (f x ≡ Some y) × (g x ≡ Some (v y))) xs → map (λ y. Some (v y)) (filter_map f xs) ≡ map g xs
chosen f g v [] e = refl
chosen f g v (x ∷ xs) e = rw (e.0.1, e.0.2) (ap (λ zs. Some (v e.0.0) ∷ zs) (chosen f g v xs e.1))

pub map_behind : {T U : Type 0} (f : T → U) (xs ys : List T) → map f (xs ++ ys) ≡ map f xs ++ map f ys
map_behind f [] ys = refl
map_behind f (x ∷ xs) ys = ap (λ zs. f x ∷ zs) (map_behind f xs ys)

pub map_twice : {T U V : Type 0} (f : T → U) (g : U → V) (xs : List T) → map g (map f xs) ≡ map (λ x. g (f x)) xs
map_twice f g [] = refl
map_twice f g (x ∷ xs) = ap (λ zs. g (f x) ∷ zs) (map_twice f g xs)

-- ---- an id in a list of ids

-- where an id is in a list
pub record At (f : ℕ) (xs : List ℕ) : Type 0 where
  pub place : ℕ
  pub low : place < length xs
  pub is : slice_get xs place ≡ Some f

at_by : (f x : ℕ) (xs : List ℕ) (b : Bool) → (x == f) ≡ b → contains f (x ∷ xs) ≡ true → (contains f xs ≡ true → At f xs) → At f (x ∷ xs)
at_by f x xs true e h rest = record { place = 0; low = omega arith; is = ap Some (grind (arith, nat_tests)) }
at_by f x xs false e h rest = let more = rest (rw e at h) in record { place = suc more.place; low = let less : more.place < length xs = more.low in omega arith; is = more.is }

pub at_of : (f : ℕ) (xs : List ℕ) → contains f xs ≡ true → At f xs
at_of f [] h = absurd (let z : ⊥ = cc in z)
at_of f (x ∷ xs) h = at_by f x xs (x == f) refl h (at_of f xs)

pub no_entry : {T : Type 0} (blank : T) (p : T → Bool) (xs : List T) → ((x : ℕ) → x < length xs → p (entry blank xs x) ≡ false) → list_any p xs ≡ false
no_entry blank p [] h = refl
no_entry blank p (x ∷ xs) h = rw (h 0 (omega arith)) (no_entry blank p xs (λ k low. h (suc k) (omega arith)))
