-- What is in a list, and where.
use Rattle.std.proofs.Common.{if◌then◌else◌, ◌≡◌, ◌⊎◌, inl, inr, ℕ, zero, suc, ◌+◌, ◌<◌, ◌≤◌, Bool, true, false, List, [], ◌∷◌, length, filter, find, map, count_by, slice_get, Option, Some, None, refl, sym, ap, ◌∙◌, arith}
use Rattle.std.specs.Prelude.{filter_map}
use Rattle.std.specs.List.{flat_map, range_with_len}
use Rattle.wdf_model.specs.Tables.{flag}
use Rattle.wdf_model.proofs.Counts.{count_cons}
use Rattle.law_stuck_causes.proofs.Members.{Has}
use Rattle.law_stuck_causes.proofs.Gives.{has_either}

pub has_of : {T : Type 0} (x : T) (xs : List T) (k : ℕ) → slice_get xs k ≡ Some x → Has x xs
has_of x [] k at = absurd (let z : ⊥ = cc in z)
has_of x (y ∷ ys) zero at = inl (let s : x ≡ y = cc in s)
has_of x (y ∷ ys) (suc k) at = inr (has_of x ys k at)

-- ---- filtered

was_by : {T : Type 0} (p : T → Bool) (x y : T) (ys : List T) (b : Bool) → p y ≡ b → Has x (if b then y ∷ filter p ys else filter p ys) → (Has x (filter p ys) → Has x ys × (p x ≡ true)) → ((x ≡ y) ⊎ Has x ys) × (p x ≡ true)
was_by p x y ys true e (inl s) rest = (inl s, ap p s ∙ e)
was_by p x y ys true e (inr k) rest = let more = rest k in (inr more.0, more.1)
was_by p x y ys false e k rest = let more = rest k in (inr more.0, more.1)

-- what is left was there, and passes
pub was_there : {T : Type 0} (p : T → Bool) (x : T) (xs : List T) → Has x (filter p xs) → Has x xs × (p x ≡ true)
was_there p x [] h = absurd h
was_there p x (y ∷ ys) h = was_by p x y ys (p y) refl h (was_there p x ys)

-- ---- mapped and gathered

-- what an image is of
pub record Image {T U : Type 0} (f : T → U) (y : U) (xs : List T) : Type 0 where
  pub from : T
  pub there : Has from xs
  pub is : y ≡ f from

pub image_of : {T U : Type 0} (f : T → U) (y : U) (xs : List T) → Has y (map f xs) → Image f y xs
image_of f y [] h = absurd h
image_of f y (x ∷ xs) (inl e) = record { from = x; there = inl refl; is = e }
image_of f y (x ∷ xs) (inr h) = let more = image_of f y xs h in record { from = more.from; there = inr more.there; is = more.is }

-- what one of the items gives
pub record Given {T U : Type 0} (f : T → List U) (y : U) (xs : List T) : Type 0 where
  pub from : T
  pub there : Has from xs
  pub gives : Has y (f from)

pub given_by : {T U : Type 0} (f : T → List U) (y : U) (xs : List T) → Has y (flat_map f xs) → Given f y xs
given_by f y [] h = absurd h
given_by f y (x ∷ xs) h = elim (has_either y (f x) (flat_map f xs) h) as (λ _. Given f y (x ∷ xs)) [
  | inl k ↦ record { from = x; there = inl refl; gives = k }
  | inr k ↦ let more = given_by f y xs k in record { from = more.from; there = inr more.there; gives = more.gives }
]

-- ---- places

-- where a choice over a range gave an item
pub record Chosen {U : Type 0} (f : ℕ → Option U) (a n : ℕ) (y : U) : Type 0 where
  pub at : ℕ
  pub below : at < a + n
  pub gives : f at ≡ Some y

chosen_first : {U : Type 0} (f : ℕ → Option U) (a n : ℕ) (y : U) (o : Option U) → f a ≡ o → Has y (filter_map f (range_with_len (a + 1) n)) ⊎ (o ≡ Some y) → (Has y (filter_map f (range_with_len (a + 1) n)) → Chosen f (a + 1) n y) → Chosen f a (suc n) y
chosen_first f a n y o e (inl h) rest = let more = rest h in record { at = more.at; below = let low = more.below in omega (arith, low); gives = more.gives }
chosen_first f a n y o e (inr s) rest = record { at = a; below = omega arith; gives = e ∙ s }

one_of_them : {U : Type 0} (y : U) (o : Option U) (f : ℕ → Option U) (a : ℕ) (rest : List ℕ) → f a ≡ o → Has y (filter_map f (a ∷ rest)) → Has y (filter_map f rest) ⊎ (o ≡ Some y)
one_of_them y None f a rest e h = inl (rw e at h)
one_of_them y (Some x) f a rest e h = first_or_later (rw e at h)
  where
    first_or_later : (y ≡ x) ⊎ Has y (filter_map f rest) → Has y (filter_map f rest) ⊎ (Some x ≡ Some y)
    first_or_later (inl s) = inr (ap Some (sym s))
    first_or_later (inr k) = inl k

pub chosen_at : {U : Type 0} (f : ℕ → Option U) (a n : ℕ) (y : U) → Has y (filter_map f (range_with_len a n)) → Chosen f a n y
chosen_at f a zero y h = absurd h
chosen_at f a (suc n) y h = chosen_first f a n y (f a) refl (one_of_them y (f a) f a (range_with_len (a + 1) n) refl h) (chosen_at f (a + 1) n y)

-- the place of an item that passes a test
pub record Passing {T : Type 0} (p : T → Bool) (xs : List T) : Type 0 where
  pub place : ℕ
  pub item : T
  pub below : place < length xs
  pub there : slice_get xs place ≡ Some item
  pub passes : p item ≡ true

abbrev passing_later : {T : Type 0} (p : T → Bool) (x : T) (xs : List T) → Passing p xs → Passing p (x ∷ xs)
passing_later p x xs h = record { place = suc h.place; item = h.item; below = let low = h.below in omega (arith, low); there = h.there; passes = h.passes }

found_by : {T : Type 0} (p : T → Bool) (x y : T) (xs : List T) (b : Bool) → p x ≡ b → (if b then Some x else find p xs) ≡ Some y → (find p xs ≡ Some y → (z : Passing p xs) × (z.item ≡ y)) → (z : Passing p (x ∷ xs)) × (z.item ≡ y)
found_by p x y xs true e h rest = (record { place = 0; item = x; below = omega arith; there = refl; passes = e }, (let s : x ≡ y = cc in s))
found_by p x y xs false e h rest = let more = rest h in (passing_later p x xs more.0, more.1)

-- what a search finds is at a place
pub found_at : {T : Type 0} (p : T → Bool) (y : T) (xs : List T) → find p xs ≡ Some y → (z : Passing p xs) × (z.item ≡ y)
found_at p y [] h = absurd (let z : ⊥ = cc in z)
found_at p y (x ∷ xs) h = found_by p x y xs (p x) refl h (found_at p y xs)

counted_by : {T : Type 0} (p : T → Bool) (x : T) (xs : List T) (b : Bool) → p x ≡ b → 1 ≤ count_by p (x ∷ xs) → (1 ≤ count_by p xs → Passing p xs) → Passing p (x ∷ xs)
counted_by p x xs true e h rest = record { place = 0; item = x; below = omega arith; there = refl; passes = e }
counted_by p x xs false e h rest =
    let c = count_cons p x xs in
    let f : flag (p x) ≡ 0 = rw e refl in
    passing_later p x xs (rest (omega arith))

-- what is counted is at a place
pub counted_at : {T : Type 0} (p : T → Bool) (xs : List T) → 1 ≤ count_by p xs → Passing p xs
counted_at p [] h = absurd (omega arith)
counted_at p (x ∷ xs) h = counted_by p x xs (p x) refl h (counted_at p xs)
