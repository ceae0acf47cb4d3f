-- The entries that pass a test, kept as a list of their own: after an edit, and at which places they are.
use Rattle.std.proofs.Common.{if◌then◌else◌, ℕ, zero, suc, ◌≡◌, ◌<◌, ◌≤◌, Bool, true, false, ◌==◌, ◌||◌, nat_lt, List, [], ◌∷◌, length, filter, Some, None, slice_get, refl, sym, ap, ◌∙◌, arith}
use Rattle.std.specs.List.{list_any}
use Rattle.std.proofs.lemmas.Bool.Decides.{nat_tests}
use Rattle.wdf_model.specs.Tables.{in_order_by}
use Rattle.wdf_maps.specs.Places.{entry_of, others, rises, with_entry}
use Rattle.wdf_maps.proofs.PlacesOfKeys.{first_in_order, from_parts, key_from, rises_high, rises_low, rises_lower, rises_others, rises_rest}

-- ---- places

-- an item that is at some place of a list
pub record Among {T : Type 0} (xs : List T) (x : T) : Type 0 where
  pub place : ℕ
  pub at : slice_get xs place ≡ Some x

further : {T : Type 0} (x : T) (xs : List T) (y : T) → Among xs y → Among (x ∷ xs) y
further x xs y a = record { place = suc a.place; at = a.at }

module _ {T : Type 0} (p : T → Bool) where
  among_first : (x : T) (xs : List T) (y : T) (b : Bool) → p x ≡ b → x ≡ y → p y ≡ true → Among (if b then x ∷ filter p xs else filter p xs) y
  among_first x xs y true e same h = record { place = 0; at = ap Some same }
  among_first x xs y false e same h = absurd (let off = sym e ∙ ap p same ∙ h in let z : ⊥ = cc in z)

  among_rest : (x : T) (xs : List T) (y : T) (b : Bool) → Among (filter p xs) y → Among (if b then x ∷ filter p xs else filter p xs) y
  among_rest x xs y true a = further x (filter p xs) y a
  among_rest x xs y false a = a

  -- what passes is among those that do
  pub among_passing : (xs : List T) (k : ℕ) (y : T) → slice_get xs k ≡ Some y → p y ≡ true → Among (filter p xs) y
  among_passing [] k y at h = absurd (let z : ⊥ = cc in z)
  among_passing (x ∷ xs) zero y at h = among_first x xs y (p x) refl (let same : x ≡ y = cc in same) h
  among_passing (x ∷ xs) (suc k) y at h = among_rest x xs y (p x) (among_passing xs k y at h)

  among_all_by : (x : T) (xs : List T) (y : T) (k : ℕ) (b : Bool) → ((j : ℕ) → slice_get (filter p xs) j ≡ Some y → Among xs y)
      → slice_get (if b then x ∷ filter p xs else filter p xs) k ≡ Some y → Among (x ∷ xs) y
  among_all_by x xs y zero true rest at = record { place = 0; at = at }
  among_all_by x xs y (suc k) true rest at = further x xs y (rest k at)
  among_all_by x xs y k false rest at = further x xs y (rest k at)

  -- those that do are among all
  pub among_all : (xs : List T) (k : ℕ) (y : T) → slice_get (filter p xs) k ≡ Some y → Among xs y
  among_all [] k y at = absurd (let z : ⊥ = cc in z)
  among_all (x ∷ xs) k y at = among_all_by x xs y k (p x) (λ j. among_all xs j y) at

  some_pass_by : (x : T) (xs : List T) (b : Bool) → nat_lt 0 (length (filter p xs)) ≡ list_any p xs → nat_lt 0 (length (if b then x ∷ filter p xs else filter p xs)) ≡ (b || list_any p xs)
  some_pass_by x xs true rest = grind (arith, nat_tests)
  some_pass_by x xs false rest = rest

  -- there are some exactly where one passes
  pub some_pass : (xs : List T) → nat_lt 0 (length (filter p xs)) ≡ list_any p xs
  some_pass [] = refl
  some_pass (x ∷ xs) = some_pass_by x xs (p x) (some_pass xs)

-- another test that answers the same of each item of a list
pub any_among : {T : Type 0} (p q : T → Bool) (xs : List T) → ((k : ℕ) (x : T) → slice_get xs k ≡ Some x → p x ≡ q x) → list_any p xs ≡ list_any q xs
any_among p q [] e = refl
any_among p q (x ∷ xs) e =
    let first : p x ≡ q x = e 0 x refl in
    let rest : list_any p xs ≡ list_any q xs = any_among p q xs (λ k y at. e (suc k) y at) in
    rw (first, rest) refl

module _ {T : Type 0} (key : T → ℕ) where
  entry_first : (x y : T) (xs : List T) (b : Bool) → (key x == key y) ≡ b → (b ≡ true → x ≡ y) → entry_of key xs (key y) ≡ Some y → (if b then Some x else entry_of key xs (key y)) ≡ Some y
  entry_first x y xs true e same rest = ap Some (same refl)
  entry_first x y xs false e same rest = rest

  -- the entry at a place is that of its id
  pub entry_at_place : (low high : ℕ) (xs : List T) (k : ℕ) (y : T) → rises key low high xs ≡ true → slice_get xs k ≡ Some y → entry_of key xs (key y) ≡ Some y
  entry_at_place low high [] k y h at = absurd (let z : ⊥ = cc in z)
  entry_at_place low high (x ∷ xs) zero y h at =
      let same : x ≡ y = cc in
      let own : (key y == key y) ≡ true = grind (arith, nat_tests) in
      let here : (key x == key y) ≡ true = ap (λ z. key z == key y) same ∙ own in
      rw here (ap Some same)
  entry_at_place low high (x ∷ xs) (suc k) y h at =
      let above = key_from key (suc (key x)) high k xs y (rises_rest key low high x xs h) at in
      let other : (key x == key y) ≡ false = grind (arith, nat_tests) in
      rw other (entry_at_place (suc (key x)) high xs k y (rises_rest key low high x xs h) at)

  -- an item further on has a greater key
  pub keys_grow : (low high i j : ℕ) (xs : List T) (x y : T) → rises key low high xs ≡ true → i < j → slice_get xs i ≡ Some x → slice_get xs j ≡ Some y → key x < key y
  keys_grow low high i j [] x y h l at to = absurd (let z : ⊥ = cc in z)
  keys_grow low high zero zero (w ∷ xs) x y h l at to = absurd (omega arith)
  keys_grow low high zero (suc j) (w ∷ xs) x y h l at to =
      let same : w ≡ x = cc in
      let above = key_from key (suc (key w)) high j xs y (rises_rest key low high w xs h) to in
      let s : key w ≡ key x = ap key same in
      omega arith
  keys_grow low high (suc i) zero (w ∷ xs) x y h l at to = absurd (omega arith)
  keys_grow low high (suc i) (suc j) (w ∷ xs) x y h l at to = keys_grow (suc (key w)) high i j xs x y (rises_rest key low high w xs h) (omega arith) at to

-- ---- edits

module _ {T : Type 0} (key : T → ℕ) (p : T → Bool) where
  pub passing_rise : (low high : ℕ) (xs : List T) → rises key low high xs ≡ true → rises key low high (filter p xs) ≡ true
  passing_rise low high [] h = refl
  passing_rise low high (x ∷ xs) h = by (p x) (passing_rise (suc (key x)) high xs (rises_rest key low high x xs h))
    where
      by : (b : Bool) → rises key (suc (key x)) high (filter p xs) ≡ true → rises key low high (if b then x ∷ filter p xs else filter p xs) ≡ true
      by true rest = from_parts key low high x (filter p xs) (rises_low key low high x xs h) (rises_high key low high x xs h) rest
      by false rest = let a = rises_low key low high x xs h in rises_lower key (suc (key x)) low high (filter p xs) (omega arith) rest

  -- without an id
  pub passing_others : (id : ℕ) (xs : List T) → filter p (others key id xs) ≡ others key id (filter p xs)
  passing_others id [] = refl
  passing_others id (x ∷ xs) = by (key x == id) (p x) refl refl (passing_others id xs)
    where
      by : (b c : Bool) → (key x == id) ≡ b → p x ≡ c → filter p (others key id xs) ≡ others key id (filter p xs) → filter p (others key id (x ∷ xs)) ≡ others key id (filter p (x ∷ xs))
      by true true e f rest = rw (e, f, e) rest
      by true false e f rest = rw (e, f) rest
      by false true e f rest = rw (e, f, e) (ap (λ ys. x ∷ ys) rest)
      by false false e f rest = rw (e, f) rest

  -- with an entry more that doesn't pass
  entered_failing : (y : T) (xs : List T) → p y ≡ false → filter p (in_order_by key y xs) ≡ filter p xs
  entered_failing y [] e = rw e refl
  entered_failing y (x ∷ xs) e = by (nat_lt (key y) (key x)) (p x) refl (entered_failing y xs e)
    where
      by : (b c : Bool) → p x ≡ c → filter p (in_order_by key y xs) ≡ filter p xs → filter p (if b then y ∷ x ∷ xs else x ∷ in_order_by key y xs) ≡ filter p (x ∷ xs)
      by true c f rest = rw e refl
      by false true f rest = rw f (ap (λ ys. x ∷ ys) rest)
      by false false f rest = rw f rest

  pub passing_with_failing : (y : T) (xs : List T) → p y ≡ false → filter p (with_entry key y xs) ≡ others key (key y) (filter p xs)
  passing_with_failing y xs e = entered_failing y (others key (key y) xs) e ∙ passing_others (key y) xs

  -- with one that does
  entered_passing : (low high : ℕ) (y : T) (xs : List T) → rises key low high xs ≡ true → p y ≡ true → filter p (in_order_by key y xs) ≡ in_order_by key y (filter p xs)
  entered_passing low high y [] h e = rw e refl
  entered_passing low high y (x ∷ xs) h e = by (nat_lt (key y) (key x)) (p x) refl refl (entered_passing (suc (key x)) high y xs (rises_rest key low high x xs h) e)
    where
      by : (b c : Bool) → nat_lt (key y) (key x) ≡ b → p x ≡ c → filter p (in_order_by key y xs) ≡ in_order_by key y (filter p xs) → filter p (if b then y ∷ x ∷ xs else x ∷ in_order_by key y xs) ≡ in_order_by key y (if c then x ∷ filter p xs else filter p xs)
      by true true f g rest = rw (e, g, f) refl
      by true false f g rest =
          let under : key y < suc (key x) = grind (arith, nat_tests) in
          rw (e, g) (sym (first_in_order key (suc (key x)) high y (filter p xs) (passing_rise (suc (key x)) high xs (rises_rest key low high x xs h)) under))
      by false true f g rest = rw (g, f) (ap (λ ys. x ∷ ys) rest)
      by false false f g rest = rw g rest

  pub passing_with_passing : (high : ℕ) (y : T) (xs : List T) → rises key 0 high xs ≡ true → p y ≡ true → filter p (with_entry key y xs) ≡ with_entry key y (filter p xs)
  passing_with_passing high y xs h e =
      entered_passing 0 high y (others key (key y) xs) (rises_others key high (key y) xs h) e ∙ ap (in_order_by key y) (passing_others (key y) xs)

  few : (x : T) (xs : List T) (b : Bool) → length (filter p xs) ≤ length xs → length (if b then x ∷ filter p xs else filter p xs) ≤ suc (length xs)
  few x xs true h = omega arith
  few x xs false h = omega arith

  passing_few : (xs : List T) → length (filter p xs) ≤ length xs
  passing_few [] = omega arith
  passing_few (x ∷ xs) = few x xs (p x) (passing_few xs)

  -- where an entry doesn't pass, fewer pass than there are
  pub passing_fewer : (id : ℕ) (xs : List T) (s : T) → entry_of key xs id ≡ Some s → entry_of key (filter p xs) id ≡ None → length (filter p xs) < length xs
  passing_fewer id [] s h none = absurd (let z : ⊥ = cc in z)
  passing_fewer id (x ∷ xs) s h none = by (key x == id) (p x) refl refl (λ there gone. passing_fewer id xs s there gone) none h
    where
      by : (b c : Bool) → (key x == id) ≡ b → p x ≡ c → (entry_of key xs id ≡ Some s → entry_of key (filter p xs) id ≡ None → length (filter p xs) < length xs) → entry_of key (if c then x ∷ filter p xs else filter p xs) id ≡ None → (if b then Some x else entry_of key xs id) ≡ Some s
          → length (if c then x ∷ filter p xs else filter p xs) < suc (length xs)
      by true true e f rest none h = absurd (let there = rw e at none in let z : ⊥ = cc in z)
      by true false e f rest none h = let most = passing_few xs in omega arith
      by false false e f rest none h = let most = passing_few xs in omega arith
      by false true e f rest none h = let gone = rw e at none in let less = rest h gone in omega arith
