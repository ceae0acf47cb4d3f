-- Where a key is in a list whose keys rise, and what an edit at that place leaves.
use Rattle.std.proofs.Common.{if◌then◌else◌, ℕ, zero, suc, ◌+◌, ◌<◌, ◌≤◌, ◌≡◌, Bool, true, false, not, ◌==◌, nat_lt, List, [], ◌∷◌, length, map, subst, filter, find, slice_index_or, slice_get, Some, None, Result, Ok, Err, refl, sym, ap, arith}
use Rattle.std.specs.List.Sorted.{IsNonDecreasingBy, IsBinarySearchResult, IsSearchInRange}
use Rattle.std.specs.Ordering.{nat_cmp, ordering_index}
use Rattle.std.specs.declared.cmp.Ordering.TheVariants.{Less, Equal, Greater}
use Rattle.std.proofs.lemmas.Bool.{ltb-true, ltb-false}
use Rattle.std.proofs.lemmas.Bool.Decides.{nat_tests}
use Rattle.wdf_model.specs.Tables.{in_order_by}
use Rattle.wdf_maps.specs.Places.{SplitsAt, number_of, rises, one_on, place_of, item_at, removed_at, entered_at, others, with_entry, IsPlace}

module _ {T : Type 0} (key : T → ℕ) where
  -- the parts of `rises` at a first item
  pub rises_low : (low high : ℕ) (x : T) (xs : List T) → rises key low high (x ∷ xs) ≡ true → low ≤ key x
  rises_low low high x xs h = grind (arith, nat_tests)

  pub rises_high : (low high : ℕ) (x : T) (xs : List T) → rises key low high (x ∷ xs) ≡ true → key x < high
  rises_high low high x xs h = grind (arith, nat_tests)

  pub rises_rest : (low high : ℕ) (x : T) (xs : List T) → rises key low high (x ∷ xs) ≡ true → rises key (suc (key x)) high xs ≡ true
  rises_rest low high x xs h = grind (arith, nat_tests)

  pub from_parts : (low high : ℕ) (x : T) (xs : List T) → low ≤ key x → key x < high → rises key (suc (key x)) high xs ≡ true → rises key low high (x ∷ xs) ≡ true
  from_parts low high x xs a b c = grind (arith, nat_tests)

  -- how many items there may be
  pub length-rises : (low high : ℕ) (xs : List T) → rises key low high xs ≡ true → low ≤ high → length xs + low ≤ high
  length-rises low high [] h k = omega arith
  length-rises low high (x ∷ xs) h k =
      let a = rises_low low high x xs h in
      let b = rises_high low high x xs h in
      let r = length-rises (suc (key x)) high xs (rises_rest low high x xs h) (omega arith) in
      omega arith

  pub rises_lower : (low lower high : ℕ) (xs : List T) → lower ≤ low → rises key low high xs ≡ true → rises key lower high xs ≡ true
  rises_lower low lower high [] k h = refl
  rises_lower low lower high (x ∷ xs) k h =
      let a = rises_low low high x xs h in
      from_parts lower high x xs (omega arith) (rises_high low high x xs h) (rises_rest low high x xs h)

  -- ---- what a binary search finds

  at_least : (low high i : ℕ) (xs : List T) (d : T) → rises key low high xs ≡ true → i < length xs → low ≤ key (slice_index_or xs i d)
  at_least low high i [] d h l = absurd (omega arith)
  at_least low high zero (x ∷ xs) d h l = rises_low low high x xs h
  at_least low high (suc i) (x ∷ xs) d h l =
      let a = rises_low low high x xs h in
      let r = at_least (suc (key x)) high i xs d (rises_rest low high x xs h) (omega arith) in
      omega arith

  -- the key of an item of the list is from the lowest on
  pub key_from : (low high j : ℕ) (xs : List T) (y : T) → rises key low high xs ≡ true → slice_get xs j ≡ Some y → low ≤ key y
  key_from low high j [] y h to = absurd (let z : ⊥ = cc in z)
  key_from low high zero (w ∷ xs) y h to = let same : w ≡ y = cc in let s : key w ≡ key y = ap key same in let a = rises_low low high w xs h in omega arith
  key_from low high (suc j) (w ∷ xs) y h to =
      let a = rises_low low high w xs h in
      let r = key_from (suc (key w)) high j xs y (rises_rest low high w xs h) to in
      omega arith

  rises_far : (low high i j : ℕ) (xs : List T) (d : T) → rises key low high xs ≡ true → i ≤ j → j < length xs → key (slice_index_or xs i d) ≤ key (slice_index_or xs j d)
  rises_far low high i j [] d h k l = absurd (omega arith)
  rises_far low high zero zero (x ∷ xs) d h k l = omega arith
  rises_far low high zero (suc j) (x ∷ xs) d h k l =
      let r = at_least (suc (key x)) high j xs d (rises_rest low high x xs h) (omega arith) in
      omega arith
  rises_far low high (suc i) zero (x ∷ xs) d h k l = absurd (omega arith)
  rises_far low high (suc i) (suc j) (x ∷ xs) d h k l = rises_far (suc (key x)) high i j xs d (rises_rest low high x xs h) (omega arith) (omega arith)

  index_rises : (a b k : ℕ) → a ≤ b → ordering_index (nat_cmp a k) ≤ ordering_index (nat_cmp b k)
  index_rises a b k h = grind (arith, nat_tests)

  searchable : (low high k : ℕ) (xs : List T) → rises key low high xs ≡ true → IsNonDecreasingBy (λ y. ordering_index (nat_cmp (key y) k)) xs
  searchable low high k xs h = λ i j d l m. index_rises _ _ k (rises_far low high i j xs d h l m)

  place_there : (low high k i : ℕ) (xs : List T) → rises key low high xs ≡ true → i < length xs → ((d : T) → key (slice_index_or xs i d) ≡ k) → Ok i ≡ place_of key k xs
  place_there low high k i [] h l e = absurd (omega arith)
  place_there low high k zero (x ∷ xs) h l e = let s : key x ≡ k = e x in grind (arith, nat_tests)
  place_there low high k (suc i) (x ∷ xs) h l e =
      let r : Ok i ≡ place_of key k xs = place_there (suc (key x)) high k i xs (rises_rest low high x xs h) (omega arith) e in
      let a = at_least (suc (key x)) high i xs x (rises_rest low high x xs h) (omega arith) in
      let s = e x in
      let lt : key x < k = omega arith in
      grind (arith, nat_tests)

  place_missing : (k i : ℕ) (xs : List T) → i ≤ length xs
      → ((j : ℕ) (d : T) → j < i → key (slice_index_or xs j d) < k)
      → ((j : ℕ) (d : T) → i ≤ j → j < length xs → k < key (slice_index_or xs j d))
      → Err i ≡ place_of key k xs
  place_missing k i [] l a b = let e : i ≡ 0 = omega arith in grind arith
  place_missing k zero (x ∷ xs) l a b = let s : k < key x = b 0 x (omega arith) (omega arith) in grind (arith, nat_tests)
  place_missing k (suc i) (x ∷ xs) l a b =
      let s : key x < k = a 0 x (omega arith) in
      let r : Err i ≡ place_of key k xs = place_missing k i xs (omega arith) (λ j d m. a (suc j) d (omega arith)) (λ j d m n. b (suc j) d (omega arith) (omega arith)) in
      grind (arith, nat_tests)

  equal_keys : (a b : ℕ) → nat_cmp a b ≡ Equal → a ≡ b
  equal_keys a b h = grind (arith, nat_tests)

  less_keys : (a b : ℕ) → nat_cmp a b ≡ Less → a < b
  less_keys a b h = grind (arith, nat_tests)

  greater_keys : (a b : ℕ) → nat_cmp a b ≡ Greater → b < a
  greater_keys a b h = grind (arith, nat_tests)

  -- a later item has no lesser key
  pub keys_rise : (low high i j : ℕ) (xs : List T) (x y : T) → rises key low high xs ≡ true → i ≤ j → slice_get xs i ≡ Some x → slice_get xs j ≡ Some y → key x ≤ key y
  keys_rise low high i j [] x y h k at to = absurd (let z : ⊥ = cc in z)
  keys_rise low high zero zero (w ∷ xs) x y h k at to = let same : x ≡ y = cc in rw same (omega arith)
  keys_rise low high zero (suc j) (w ∷ xs) x y h k at to =
      let same : w ≡ x = cc in
      let r = key_from (suc (key w)) high j xs y (rises_rest low high w xs h) to in
      let s : key w ≡ key x = ap key same in
      omega arith
  keys_rise low high (suc i) zero (w ∷ xs) x y h k at to = absurd (omega arith)
  keys_rise low high (suc i) (suc j) (w ∷ xs) x y h k at to = keys_rise (suc (key w)) high i j xs x y (rises_rest low high w xs h) (omega arith) at to

  -- ---- the place of a key, and the list

  item_one_on : (x : T) (xs : List T) (r : Result ℕ ℕ) → item_at (x ∷ xs) (one_on r) ≡ item_at xs r
  item_one_on x xs (Ok i) = refl
  item_one_on x xs (Err i) = refl

  removed_one_on : (x : T) (xs : List T) (r : Result ℕ ℕ) → removed_at (x ∷ xs) (one_on r) ≡ x ∷ removed_at xs r
  removed_one_on x xs (Ok i) = refl
  removed_one_on x xs (Err i) = refl

  entered_one_on : (y x : T) (xs : List T) (r : Result ℕ ℕ) → entered_at y (x ∷ xs) (one_on r) ≡ x ∷ entered_at y xs r
  entered_one_on y x xs (Ok i) = refl
  entered_one_on y x xs (Err i) = refl

  -- no item has a key that is below all of them
  pub none_below : (low high k : ℕ) (xs : List T) → rises key low high xs ≡ true → k < low → find (λ x. key x == k) xs ≡ None
  none_below low high k [] h l = refl
  none_below low high k (x ∷ xs) h l =
      let a = rises_low low high x xs h in
      let r : find (λ x. key x == k) xs ≡ None = none_below (suc (key x)) high k xs (rises_rest low high x xs h) (omega arith) in
      grind (arith, nat_tests)

  pub all_kept : (low high k : ℕ) (xs : List T) → rises key low high xs ≡ true → k < low → filter (λ x. not (key x == k)) xs ≡ xs
  all_kept low high k [] h l = refl
  all_kept low high k (x ∷ xs) h l =
      let a = rises_low low high x xs h in
      let r : filter (λ x. not (key x == k)) xs ≡ xs = all_kept (suc (key x)) high k xs (rises_rest low high x xs h) (omega arith) in
      grind (arith, nat_tests)

  -- the item with a key
  pub find_placed : (low high k : ℕ) (xs : List T) → rises key low high xs ≡ true → find (λ x. key x == k) xs ≡ item_at xs (place_of key k xs)
  find_placed low high k [] h = refl
  find_placed low high k (x ∷ xs) h =
      let r : find (λ x. key x == k) xs ≡ item_at xs (place_of key k xs) = find_placed (suc (key x)) high k xs (rises_rest low high x xs h) in
      let s : item_at (x ∷ xs) (one_on (place_of key k xs)) ≡ item_at xs (place_of key k xs) = item_one_on x xs (place_of key k xs) in
      let t : k < suc (key x) → find (λ x. key x == k) xs ≡ None = none_below (suc (key x)) high k xs (rises_rest low high x xs h) in
      grind (arith, nat_tests)

  -- the list without it
  pub filter_placed : (low high k : ℕ) (xs : List T) → rises key low high xs ≡ true → filter (λ x. not (key x == k)) xs ≡ removed_at xs (place_of key k xs)
  filter_placed low high k [] h = refl
  filter_placed low high k (x ∷ xs) h =
      let r : filter (λ x. not (key x == k)) xs ≡ removed_at xs (place_of key k xs) = filter_placed (suc (key x)) high k xs (rises_rest low high x xs h) in
      let s : removed_at (x ∷ xs) (one_on (place_of key k xs)) ≡ x ∷ removed_at xs (place_of key k xs) = removed_one_on x xs (place_of key k xs) in
      let t : k < suc (key x) → filter (λ x. not (key x == k)) xs ≡ xs = all_kept (suc (key x)) high k xs (rises_rest low high x xs h) in
      grind (arith, nat_tests)

  -- the list with a new item of its key
  pub first_in_order : (low high : ℕ) (y : T) (xs : List T) → rises key low high xs ≡ true → key y < low → in_order_by key y xs ≡ y ∷ xs
  first_in_order low high y [] h l = refl
  first_in_order low high y (x ∷ xs) h l = let a = rises_low low high x xs h in grind (arith, nat_tests)

  pub order_placed : (low high : ℕ) (y : T) (xs : List T) → rises key low high xs ≡ true → in_order_by key y (filter (λ x. not (key x == key y)) xs) ≡ entered_at y xs (place_of key (key y) xs)
  order_placed low high y [] h = refl
  order_placed low high y (x ∷ xs) h =
      let r : in_order_by key y (filter (λ x. not (key x == key y)) xs) ≡ entered_at y xs (place_of key (key y) xs) = order_placed (suc (key x)) high y xs (rises_rest low high x xs h) in
      let s : entered_at y (x ∷ xs) (one_on (place_of key (key y) xs)) ≡ x ∷ entered_at y xs (place_of key (key y) xs) = entered_one_on y x xs (place_of key (key y) xs) in
      let t : key y < suc (key x) → filter (λ x. not (key x == key y)) xs ≡ xs = all_kept (suc (key x)) high (key y) xs (rises_rest low high x xs h) in
      let u : key y < suc (key x) → in_order_by key y xs ≡ y ∷ xs = first_in_order (suc (key x)) high y xs (rises_rest low high x xs h) in
      grind (arith, nat_tests)

  -- a change of that item alone
  map_one : (f : T → T) (low high k : ℕ) (xs : List T) → rises key low high xs ≡ true → k < low → map (λ x. if key x == k then f x else x) xs ≡ xs
  map_one f low high k [] h l = refl
  map_one f low high k (x ∷ xs) h l =
      let a = rises_low low high x xs h in
      let r : map (λ x. if key x == k then f x else x) xs ≡ xs = map_one f (suc (key x)) high k xs (rises_rest low high x xs h) (omega arith) in
      grind (arith, nat_tests)

  pub map_placed : (f : T → T) (low high k : ℕ) (xs : List T) (y : T) → rises key low high xs ≡ true → item_at xs (place_of key k xs) ≡ Some y → map (λ x. if key x == k then f x else x) xs ≡ entered_at (f y) xs (place_of key k xs)
  map_placed f low high k [] y h e = absurd (let z : ⊥ = cc in z)
  map_placed f low high k (x ∷ xs) y h e =
      let r : item_at xs (place_of key k xs) ≡ Some y → map (λ x. if key x == k then f x else x) xs ≡ entered_at (f y) xs (place_of key k xs) = map_placed f (suc (key x)) high k xs y (rises_rest low high x xs h) in
      let s : item_at (x ∷ xs) (one_on (place_of key k xs)) ≡ item_at xs (place_of key k xs) = item_one_on x xs (place_of key k xs) in
      let t : k < suc (key x) → map (λ x. if key x == k then f x else x) xs ≡ xs = map_one f (suc (key x)) high k xs (rises_rest low high x xs h) in
      let u : entered_at (f y) (x ∷ xs) (one_on (place_of key k xs)) ≡ x ∷ entered_at (f y) xs (place_of key k xs) = entered_one_on (f y) x xs (place_of key k xs) in
      grind (arith, nat_tests)

  -- ---- the keys still rise

  pub rises_removed : (low high k : ℕ) (xs : List T) → rises key low high xs ≡ true → rises key low high (removed_at xs (place_of key k xs)) ≡ true
  rises_removed low high k [] h = refl
  rises_removed low high k (x ∷ xs) h =
      let r = from_parts low high x _ (rises_low low high x xs h) (rises_high low high x xs h) (rises_removed (suc (key x)) high k xs (rises_rest low high x xs h)) in
      let s : removed_at (x ∷ xs) (one_on (place_of key k xs)) ≡ x ∷ removed_at xs (place_of key k xs) = removed_one_on x xs (place_of key k xs) in
      let a = rises_low low high x xs h in
      let t = rises_lower (suc (key x)) low high xs (omega arith) (rises_rest low high x xs h) in
      grind (arith, nat_tests)

  pub rises_entered : (low high : ℕ) (y : T) (xs : List T) → low ≤ key y → key y < high → rises key low high xs ≡ true → rises key low high (entered_at y xs (place_of key (key y) xs)) ≡ true
  rises_entered low high y [] a b h = from_parts low high y [] a b refl
  rises_entered low high y (x ∷ xs) a b h =
      let r : key x < key y → rises key low high (x ∷ entered_at y xs (place_of key (key y) xs)) ≡ true
      = λ l. from_parts low high x _ (rises_low low high x xs h) (rises_high low high x xs h) (rises_entered (suc (key x)) high y xs (omega arith) b (rises_rest low high x xs h)) in
      let s : entered_at y (x ∷ xs) (one_on (place_of key (key y) xs)) ≡ x ∷ entered_at y xs (place_of key (key y) xs) = entered_one_on y x xs (place_of key (key y) xs) in
      let same : key x ≡ key y → rises key low high (y ∷ xs) ≡ true
      = λ e. from_parts low high y xs a b (let P : ℕ → Type 0 = λ n. rises key (suc n) high xs ≡ true in subst P e (rises_rest low high x xs h)) in
      let before : key y < key x → rises key low high (y ∷ x ∷ xs) ≡ true
      = λ l. from_parts low high y (x ∷ xs) a b (from_parts (suc (key y)) high x xs l (rises_high low high x xs h) (rises_rest low high x xs h)) in
      grind (arith, nat_tests)

  -- ---- the answer of a binary search

  searched : (low high k : ℕ) (xs : List T) (r : Result ℕ ℕ) → rises key low high xs ≡ true → IsSearchInRange r (length xs) → IsBinarySearchResult (λ y. nat_cmp (key y) k) xs r → r ≡ place_of key k xs
  searched low high k xs (Ok i) h l s = place_there low high k i xs h l (λ d. equal_keys _ _ (s d))
  searched low high k xs (Err i) h l s =
      let point = s (searchable low high k xs h) in
      place_missing k i xs l (λ j d m. less_keys _ _ (point.0 j d (omega arith) m)) (λ j d m n. greater_keys _ _ (point.1 j d m n))

  -- ---- the items with lesser keys

  one_further : (x : T) (k : ℕ) (xs : List T) (i : ℕ) → key x < k → SplitsAt key k xs i → SplitsAt key k (x ∷ xs) (suc i)
  one_further x k xs i low s = record {
    within = let w = s.within in omega arith;
    lesser = λ j y at below. by_lesser j y at below;
    others = λ j y at from. by_others j y at from;
  }
    where
      by_lesser : (j : ℕ) (y : T) → slice_get (x ∷ xs) j ≡ Some y → j < suc i → key y < k
      by_lesser zero y at below = let same : x ≡ y = cc in let e : key x ≡ key y = ap key same in omega arith
      by_lesser (suc j) y at below = s.lesser j y at (omega arith)

      by_others : (j : ℕ) (y : T) → slice_get (x ∷ xs) j ≡ Some y → suc i ≤ j → k ≤ key y
      by_others zero y at from = absurd (omega arith)
      by_others (suc j) y at from = s.others j y at (omega arith)

  none_before : (low high k : ℕ) (x : T) (xs : List T) → k ≤ key x → rises key low high (x ∷ xs) ≡ true → SplitsAt key k (x ∷ xs) 0
  none_before low high k x xs above h = record {
    within = omega arith;
    lesser = λ j y at below. absurd (omega arith);
    others = λ j y at from. let r = keys_rise low high 0 j (x ∷ xs) x y h (omega arith) refl at in omega arith;
  }

  past_first : (x : T) (k : ℕ) (xs : List T) (r : Result ℕ ℕ) → key x < k → SplitsAt key k xs (number_of r) → SplitsAt key k (x ∷ xs) (number_of (one_on r))
  past_first x k xs (Ok i) low s = one_further x k xs i low s
  past_first x k xs (Err i) low s = one_further x k xs i low s

  splits_by : (low high k : ℕ) (x : T) (xs : List T) (less same : Bool) → nat_lt (key x) k ≡ less → (key x == k) ≡ same → rises key low high (x ∷ xs) ≡ true
      → SplitsAt key k xs (number_of (place_of key k xs)) → SplitsAt key k (x ∷ xs) (number_of (if less then one_on (place_of key k xs) else if same then Ok 0 else Err 0))
  splits_by low high k x xs true same e f h rest = past_first x k xs (place_of key k xs) (ltb-true (key x) k e) rest
  splits_by low high k x xs false true e f h rest = none_before low high k x xs (ltb-false (key x) k e) h
  splits_by low high k x xs false false e f h rest = none_before low high k x xs (ltb-false (key x) k e) h

  splits_placed : (low high k : ℕ) (xs : List T) → rises key low high xs ≡ true → SplitsAt key k xs (number_of (place_of key k xs))
  splits_placed low high k [] h = record { within = omega arith; lesser = λ j y at below. absurd (let z : ⊥ = cc in z); others = λ j y at from. absurd (let z : ⊥ = cc in z) }
  splits_placed low high k (x ∷ xs) h = splits_by low high k x xs (nat_lt (key x) k) (key x == k) refl refl h (splits_placed (suc (key x)) high k xs (rises_rest low high x xs h))

  entered_place : (high : ℕ) (xs : List T) (r : Result ℕ ℕ) (y : T) → rises key 0 high xs ≡ true → r ≡ place_of key (key y) xs → with_entry key y xs ≡ entered_at y xs r
  entered_place high xs r y h e = rw e (order_placed 0 high y xs h)

  entered_rises : (high : ℕ) (xs : List T) (r : Result ℕ ℕ) (y : T) → rises key 0 high xs ≡ true → r ≡ place_of key (key y) xs → key y < high → rises key 0 high (entered_at y xs r) ≡ true
  entered_rises high xs r y h e l = rw e (rises_entered 0 high y xs (omega arith) l h)

  pub is_place : (high k : ℕ) (xs : List T) (r : Result ℕ ℕ) → rises key 0 high xs ≡ true → IsSearchInRange r (length xs) → IsBinarySearchResult (λ y. nat_cmp (key y) k) xs r → IsPlace key high k xs r
  is_place high k xs r h l s =
      let e = searched 0 high k xs r h l s in
      record {
        bound = l;
        found = rw e (find_placed 0 high k xs h);
        rest = rw e (filter_placed 0 high k xs h);
        rest_rises = rw e (rises_removed 0 high k xs h);
        entered = λ y same. entered_place high xs r y h (let P : ℕ → Type 0 = λ n. r ≡ place_of key n xs in subst P (sym same) e);
        splits = rw e (splits_placed 0 high k xs h);
        entered_rises = λ y same m. entered_rises high xs r y h (let P : ℕ → Type 0 = λ n. r ≡ place_of key n xs in subst P (sym same) e) (omega arith);
      }

  -- ---- edits in the definitions' words

  pub rises_others : (high k : ℕ) (xs : List T) → rises key 0 high xs ≡ true → rises key 0 high (others key k xs) ≡ true
  rises_others high k xs h = rw (filter_placed 0 high k xs h) (rises_removed 0 high k xs h)

  pub rises_with_entry : (high : ℕ) (y : T) (xs : List T) → key y < high → rises key 0 high xs ≡ true → rises key 0 high (with_entry key y xs) ≡ true
  rises_with_entry high y xs l h = rw (order_placed 0 high y xs h) (rises_entered 0 high y xs (omega arith) l h)

  -- one id less leaves room for it
  pub others_short : (low high k : ℕ) (xs : List T) → rises key low high xs ≡ true → low ≤ k → k < high → length (others key k xs) + low < high
  others_short low high k [] h l m = omega arith
  others_short low high k (x ∷ xs) h l m =
      let a = rises_low low high x xs h in
      let b = rises_high low high x xs h in
      let r : key x < k → length (others key k xs) + suc (key x) < high = λ n. others_short (suc (key x)) high k xs (rises_rest low high x xs h) n m in
      let t : k < suc (key x) → others key k xs ≡ xs = all_kept (suc (key x)) high k xs (rises_rest low high x xs h) in
      let u = length-rises (suc (key x)) high xs (rises_rest low high x xs h) b in
      grind (arith, nat_tests)
