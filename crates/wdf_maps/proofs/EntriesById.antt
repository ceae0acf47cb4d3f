-- What holds of the entry with an id, where there is one and where there is none.
use Rattle.std.proofs.Common.{if◌then◌else◌, ℕ, suc, ◌+◌, ◌<◌, ◌≡◌, ◌≢◌, Bool, true, false, ◌==◌, List, [], ◌∷◌, length, map, Some, None, refl, sym, ap, ◌∙◌, subst, arith}
use Rattle.std.proofs.lemmas.Bool.{eqb-true}
use Rattle.std.proofs.lemmas.Bool.Decides.{nat_tests}
use Rattle.wdf_model.specs.Tables.{in_order_by}
use Rattle.wdf_maps.specs.Places.{rises, place_of, item_at, entered_at, entry_of, others, with_entry}
use Rattle.wdf_maps.proofs.PlacesOfKeys.{find_placed, map_placed, order_placed, rises_high, rises_rest, others_short}

module _ {T : Type 0} (key : T → ℕ) where
  -- the entry with an id has that id
  entry_key_by : (k : ℕ) (x : T) (xs : List T) (y : T) (b : Bool) → (key x == k) ≡ b → (entry_of key xs k ≡ Some y → key y ≡ k) → (if b then Some x else entry_of key xs k) ≡ Some y → key y ≡ k
  entry_key_by k x xs y true e ih h = let same : x ≡ y = cc in let z : key x ≡ k = eqb-true (key x) k e in rw (← same) z
  entry_key_by k x xs y false e ih h = ih h

  pub entry_key : (k : ℕ) (xs : List T) (y : T) → entry_of key xs k ≡ Some y → key y ≡ k
  entry_key k [] y h = absurd (let z : ⊥ = cc in z)
  entry_key k (x ∷ xs) y h = entry_key_by k x xs y (key x == k) refl (entry_key k xs y) h

  pub others_absent : (k : ℕ) (xs : List T) → entry_of key xs k ≡ None → others key k xs ≡ xs
  others_absent k [] h = refl
  others_absent k (x ∷ xs) h =
      let r : entry_of key xs k ≡ None → others key k xs ≡ xs = others_absent k xs in
      grind (arith, nat_tests)

  pub map_absent : (f : T → T) (k : ℕ) (xs : List T) → entry_of key xs k ≡ None → map (λ x. if key x == k then f x else x) xs ≡ xs
  map_absent f k [] h = refl
  map_absent f k (x ∷ xs) h =
      let r : entry_of key xs k ≡ None → map (λ x. if key x == k then f x else x) xs ≡ xs = map_absent f k xs in
      grind (arith, nat_tests)

  pub map_present : (f : T → T) (high k : ℕ) (xs : List T) (y : T) → rises key 0 high xs ≡ true → entry_of key xs k ≡ Some y → key (f y) ≡ k → map (λ x. if key x == k then f x else x) xs ≡ with_entry key (f y) xs
  map_present f high k xs y h e same =
      let there : item_at xs (place_of key k xs) ≡ Some y = sym (find_placed key 0 high k xs h) ∙ e in
      let a = map_placed key f 0 high k xs y h there in
      let b = order_placed key 0 high (f y) xs h in
      let P : ℕ → Type 0 = λ n. with_entry key (f y) xs ≡ entered_at (f y) xs (place_of key n xs) in
      a ∙ sym (subst P same b)

  -- the id of an entry is within the bound
  pub entry_below : (low high k : ℕ) (xs : List T) (y : T) → rises key low high xs ≡ true → entry_of key xs k ≡ Some y → k < high
  entry_below low high k [] y h e = absurd (let z : ⊥ = cc in z)
  entry_below low high k (x ∷ xs) y h e =
      let r : entry_of key xs k ≡ Some y → k < high = entry_below (suc (key x)) high k xs y (rises_rest key low high x xs h) in
      let a = rises_high key low high x xs h in
      grind (arith, nat_tests)

  -- where an id is missing there are fewer entries than ids
  pub absent_short : (high k : ℕ) (xs : List T) → rises key 0 high xs ≡ true → k < high → entry_of key xs k ≡ None → length xs < high
  absent_short high k xs h l e =
      let short : length (others key k xs) + 0 < high = others_short key 0 high k xs h (omega arith) l in
      let same : length (others key k xs) ≡ length xs = ap length (others_absent k xs e) in
      omega arith

  -- ---- the entries after an edit

  pub entry_removed : (k : ℕ) (xs : List T) → entry_of key (others key k xs) k ≡ None
  entry_removed k [] = refl
  entry_removed k (x ∷ xs) = let r : entry_of key (others key k xs) k ≡ None = entry_removed k xs in grind (arith, nat_tests)

  pub entry_left : (k other : ℕ) (xs : List T) → other ≢ k → entry_of key (others key k xs) other ≡ entry_of key xs other
  entry_left k other [] h = refl
  entry_left k other (x ∷ xs) h =
      let r : entry_of key (others key k xs) other ≡ entry_of key xs other = entry_left k other xs h in
      grind (arith, nat_tests)

  pub entry_added : (y : T) (xs : List T) → entry_of key xs (key y) ≡ None → entry_of key (in_order_by key y xs) (key y) ≡ Some y
  entry_added y [] h = grind (arith, nat_tests)
  entry_added y (x ∷ xs) h =
      let r : entry_of key xs (key y) ≡ None → entry_of key (in_order_by key y xs) (key y) ≡ Some y = entry_added y xs in
      grind (arith, nat_tests)

  pub entry_beside : (y : T) (other : ℕ) (xs : List T) → other ≢ key y → entry_of key (in_order_by key y xs) other ≡ entry_of key xs other
  entry_beside y other [] h = grind (arith, nat_tests)
  entry_beside y other (x ∷ xs) h =
      let r : entry_of key (in_order_by key y xs) other ≡ entry_of key xs other = entry_beside y other xs h in
      grind (arith, nat_tests)

  pub entry_put : (y : T) (xs : List T) → entry_of key (with_entry key y xs) (key y) ≡ Some y
  entry_put y xs = entry_added y (others key (key y) xs) (entry_removed (key y) xs)

  pub entry_put_other : (y : T) (other : ℕ) (xs : List T) → other ≢ key y → entry_of key (with_entry key y xs) other ≡ entry_of key xs other
  entry_put_other y other xs h = entry_beside y other (others key (key y) xs) h ∙ entry_left (key y) other xs h
