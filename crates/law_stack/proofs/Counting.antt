-- A list is no longer than another where each key is at most as often in it.
use Rattle.std.proofs.Common.{if◌then◌else◌, ◌≡◌, ◌≢◌, ℕ, suc, ◌-◌, ◌==◌, ◌≤◌, Bool, true, false, ◌&&◌, List, [], ◌∷◌, ◌⊎◌, inl, inr, count_by, length, refl, sym, ap, ◌∙◌, arith}
use Rattle.std.proofs.lemmas.Bool.{eqb-true}
use Rattle.wdf_model.specs.Tables.{flag}
use Rattle.wdf_model.proofs.Counts.{count_cons, equal, not_equal, one_or_two}

-- how often a key is in a list
abbrev pub times_of : {T : Type 0} → (T → ℕ) → ℕ → List T → ℕ
times_of key k xs = count_by (λ x. key x == k) xs

-- without the first item of a key
less : {T : Type 0} → (T → ℕ) → ℕ → List T → List T
less key k [] = []
less key k (x ∷ xs) = if key x == k then xs else x ∷ less key k xs

module _ {T : Type 0} (key : T → ℕ) (k : ℕ) where
  shorter_by : (x : T) (xs : List T) (b : Bool) → (key x == k) ≡ b → length xs ≤ suc (length (less key k xs)) → length (x ∷ xs) ≤ suc (length (less key k (x ∷ xs)))
  unfolding less
  shorter_by x xs true e h = rw e (omega arith)
  shorter_by x xs false e h = rw e (omega (arith, h))

  shorter : (xs : List T) → length xs ≤ suc (length (less key k xs))
  unfolding less
  shorter [] = omega arith
  shorter (x ∷ xs) = shorter_by x xs (key x == k) refl (shorter xs)

  less_here : (x : T) (xs : List T) → (key x == k) ≡ true → less key k (x ∷ xs) ≡ xs
  unfolding less
  less_here x xs e = rw e refl

  less_there : (x : T) (xs : List T) → (key x == k) ≡ false → less key k (x ∷ xs) ≡ x ∷ less key k xs
  unfolding less
  less_there x xs e = rw e refl

  none_left : times_of key k (less key k []) ≡ times_of key k [] - 1
  unfolding less
  none_left = refl

  none_there : (j : ℕ) → times_of key j (less key k []) ≡ times_of key j []
  unfolding less
  none_there j = refl

  others_by : (j : ℕ) → j ≢ k → (x : T) (xs : List T) (b : Bool) → (key x == k) ≡ b → times_of key j (less key k xs) ≡ times_of key j xs → times_of key j (less key k (x ∷ xs)) ≡ times_of key j (x ∷ xs)
  others_by j n x xs true e h =
      let same : key x ≡ k = eqb-true (key x) k e in
      let off : flag (key x == j) ≡ 0 = ap flag (not_equal (key x) j (λ f. n (sym f ∙ same))) in
      let next = count_cons (λ y. key y == j) x xs in
      ap (times_of key j) (less_here x xs e) ∙ omega (arith, off, next)
  others_by j n x xs false e h =
      let next = count_cons (λ y. key y == j) x xs in
      let next_too = count_cons (λ y. key y == j) x (less key k xs) in
      ap (times_of key j) (less_there x xs e) ∙ omega (arith, next, next_too, h)

  others : (j : ℕ) → j ≢ k → (xs : List T) → times_of key j (less key k xs) ≡ times_of key j xs
  others j n [] = none_there j
  others j n (x ∷ xs) = others_by j n x xs (key x == k) refl (others j n xs)

  one_by : (x : T) (xs : List T) (b : Bool) → (key x == k) ≡ b → times_of key k (less key k xs) ≡ times_of key k xs - 1 → times_of key k (less key k (x ∷ xs)) ≡ times_of key k (x ∷ xs) - 1
  one_by x xs true e h =
      let on : flag (key x == k) ≡ 1 = ap flag e in
      let next = count_cons (λ y. key y == k) x xs in
      ap (times_of key k) (less_here x xs e) ∙ omega (arith, on, next)
  one_by x xs false e h =
      let off : flag (key x == k) ≡ 0 = ap flag e in
      let next = count_cons (λ y. key y == k) x xs in
      let next_too = count_cons (λ y. key y == k) x (less key k xs) in
      ap (times_of key k) (less_there x xs e) ∙ omega (arith, off, next, next_too, h)

  one : (xs : List T) → times_of key k (less key k xs) ≡ times_of key k xs - 1
  one [] = none_left
  one (x ∷ xs) = one_by x xs (key x == k) refl (one xs)

-- ---- two lists

module _ {S T : Type 0} (f : S → ℕ) (g : T → ℕ) (p : T → Bool) where
  -- each key is at most as often in the first list as among the items of the second that pass the test
  abbrev pub AtMost : List S → List T → Type 0
  AtMost xs ys = (k : ℕ) → times_of f k xs ≤ count_by (λ y. g y == k && p y) ys

  here_by : (y : T) (ys : List T) (xs : List S) (b : Bool) → p y ≡ b → times_of f (g y) xs ≤ count_by (λ z. g z == g y && p z) (y ∷ ys) → times_of f (g y) (less f (g y) xs) ≤ count_by (λ z. g z == g y && p z) ys
  here_by y ys xs true e h =
      let is : (g y == g y && p y) ≡ true = rw (equal (g y) (g y) refl, e) refl in
      let counted : flag (g y == g y && p y) ≡ 1 = ap flag is in
      let next = count_cons (λ z. g z == g y && p z) y ys in
      let one_less = one f (g y) xs in
      omega (arith, counted, next, one_less, h)
  here_by y ys xs false e h =
      let is : (g y == g y && p y) ≡ false = rw (equal (g y) (g y) refl, e) refl in
      let counted : flag (g y == g y && p y) ≡ 0 = ap flag is in
      let next = count_cons (λ z. g z == g y && p z) y ys in
      let one_less = one f (g y) xs in
      omega (arith, counted, next, one_less, h)

  elsewhere : (y : T) (ys : List T) (xs : List S) (k : ℕ) → k ≢ g y → times_of f k xs ≤ count_by (λ z. g z == k && p z) (y ∷ ys) → times_of f k (less f (g y) xs) ≤ count_by (λ z. g z == k && p z) ys
  elsewhere y ys xs k n h =
      let off : (g y == k && p y) ≡ false = rw (not_equal (g y) k (λ e. n (sym e))) refl in
      let counted : flag (g y == k && p y) ≡ 0 = ap flag off in
      let next = count_cons (λ z. g z == k && p z) y ys in
      let same = others f (g y) k n xs in
      omega (arith, counted, next, same, h)

  fewer_by : (y : T) (ys : List T) (xs : List S) → AtMost xs (y ∷ ys) → (k : ℕ) → (k ≡ g y) ⊎ (k ≢ g y) → times_of f k (less f (g y) xs) ≤ count_by (λ z. g z == k && p z) ys
  fewer_by y ys xs h k (inl same) = rw same (here_by y ys xs (p y) refl (h (g y)))
  fewer_by y ys xs h k (inr other) = elsewhere y ys xs k other (h k)

  pub no_longer : (ys : List T) (xs : List S) → AtMost xs ys → length xs ≤ length ys
  no_longer [] [] h = omega arith
  no_longer [] (x ∷ xs) h =
      absurd (let this = h (f x) in let next = count_cons (λ z. f z == f x) x xs in let is : flag (f x == f x) ≡ 1 = ap flag (equal (f x) (f x) refl) in omega (arith, this, next, is))
  no_longer (y ∷ ys) xs h =
      let rest = no_longer ys (less f (g y) xs) (λ k. fewer_by y ys xs h k (one_or_two k (g y))) in
      let by_one = shorter f (g y) xs in
      omega (arith, rest, by_one)
