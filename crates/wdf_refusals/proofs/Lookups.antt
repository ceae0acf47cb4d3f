-- Declarations that are found from the place of the first one of their name.
use Rattle.std.proofs.Common.{◌≡◌, ℕ, zero, suc, ◌+◌, Bool, true, false, cond, List, [], ◌∷◌, ◌++◌, length, drop, slice_get, find, Option, Some, None, refl, sym, arith}
use Rattle.std.specs.Option.{is_some}
use Rattle.std.specs.Str.{bytes_eq}
use Rattle.indexmap.specs.IndexMap.{IndexMap, get}
use Rattle.wdf_blocks.specs.declared.declaration.Declaration.{Declaration}
use Rattle.wdf_blocks.specs.declared.declaration.Wanted.{Wanted}
use Rattle.wdf_blocks.specs.Declarations.{has_name, is_wanted, found, stands}
use Rattle.wdf_refusals.specs.Names.{place_from, or_last, passes_at, IsIndexed}

-- where the first item that passes p is, as seen by a test r that nothing passes but what passes p
pub record IsSpot {T : Type 0} (p r : T → Bool) (xs : List T) (k j : ℕ) : Type 0 where
  pub skipped : ℕ
  pub is : j ≡ k + skipped
  pub rest : find r xs ≡ find r (drop skipped xs)
  pub first : find p xs ≡ slice_get xs skipped

spot_later : {T : Type 0} (p r : T → Bool) (x : T) (xs : List T) (k j : ℕ) → p x ≡ false → r x ≡ false → IsSpot p r xs (suc k) j → IsSpot p r (x ∷ xs) k j
spot_later p r x xs k j px rx s =
    record {
      skipped = suc s.skipped;
      is = omega (arith, s.is);
      rest = rw rx s.rest;
      first = rw px s.first;
    }

spot_step : {T : Type 0} (p r : T → Bool) (x : T) (xs : List T) (k j : ℕ) → (p x ≡ false → r x ≡ false) → (place_from p (suc k) xs ≡ Some j → IsSpot p r xs (suc k) j) → (b : Bool) → p x ≡ b → cond b (Some k) (place_from p (suc k) xs) ≡ Some j → IsSpot p r (x ∷ xs) k j
spot_step p r x xs k j only later true px e =
    let same : k ≡ j = cc in
    record { skipped = 0; is = omega (arith, same); rest = refl; first = rw px refl }
spot_step p r x xs k j only later false px e =
    spot_later p r x xs k j px (only px) (later e)

spot : {T : Type 0} (p r : T → Bool) (only : (x : T) → p x ≡ false → r x ≡ false) (xs : List T) (k j : ℕ) → place_from p k xs ≡ Some j → IsSpot p r xs k j
spot p r only [] k j e = absurd (let z : ⊥ = cc in z)
spot p r only (x ∷ xs) k j e =
    spot_step p r x xs k j (only x) (spot p r only xs (suc k) j) (p x) refl e

none_step : {T : Type 0} (p r : T → Bool) (x : T) (xs : List T) (k : ℕ) → (p x ≡ false → r x ≡ false) → (place_from p (suc k) xs ≡ None → find r xs ≡ None) → (b : Bool) → p x ≡ b → cond b (Some k) (place_from p (suc k) xs) ≡ None → find r (x ∷ xs) ≡ None
none_step p r x xs k only later true px e = absurd (let z : ⊥ = cc in z)
none_step p r x xs k only later false px e = rw (only px) (later e)

spot_none : {T : Type 0} (p r : T → Bool) (only : (x : T) → p x ≡ false → r x ≡ false) (xs : List T) (k : ℕ) → place_from p k xs ≡ None → find r xs ≡ None
spot_none p r only [] k e = refl
spot_none p r only (x ∷ xs) k e =
    none_step p r x xs k (only x) (spot_none p r only xs (suc k)) (p x) refl e

only_named : (n : List ℕ) (w : Wanted) (d : Declaration) → has_name n d ≡ false → is_wanted n w d ≡ false
only_named n w d e = rw e refl

same_test : {T : Type 0} (p : T → Bool) (x : T) → p x ≡ false → p x ≡ false
same_test p x e = e

-- a name that no declaration has stands for nothing
pub found_none : (n : List ℕ) (w : Wanted) (names : List Declaration) → place_from (has_name n) 0 names ≡ None → None ≡ found names n w
unfolding found
found_none n w names e = sym (spot_none (has_name n) (is_wanted n w) (only_named n w) names 0 e)

-- else what it stands for is found from the first place on
pub found_some : (n : List ℕ) (w : Wanted) (names : List Declaration) (j : ℕ) (r : Option Declaration) → place_from (has_name n) 0 names ≡ Some j → r ≡ find (is_wanted n w) (drop j names) → r ≡ found names n w
unfolding found
found_some n w names j r e is =
    let s = spot (has_name n) (is_wanted n w) (only_named n w) names 0 j e in
    let same : j ≡ s.skipped = omega (arith, s.is) in
    rw (is, same) (sym s.rest)

-- the first declaration of a name
pub first_none : (n : List ℕ) (names : List Declaration) → place_from (has_name n) 0 names ≡ None → None ≡ find (has_name n) names
first_none n names e = sym (spot_none (has_name n) (has_name n) (same_test (has_name n)) names 0 e)

pub first_some : (n : List ℕ) (names : List Declaration) (j : ℕ) → place_from (has_name n) 0 names ≡ Some j → slice_get names j ≡ find (has_name n) names
first_some n names j e =
    let s = spot (has_name n) (has_name n) (same_test (has_name n)) names 0 j e in
    let same : j ≡ s.skipped = omega (arith, s.is) in
    rw same (sym s.first)

some_passes : {T : Type 0} (p : T → Bool) (xs : List T) (k : ℕ) → passes_at p xs k ≡ true → is_some (find p xs) ≡ true
some_passes p [] k e = absurd (let z : ⊥ = cc in z)
some_passes p (x ∷ xs) zero e = rw e refl
some_passes p (x ∷ xs) (suc k) e = by_first (p x) (some_passes p xs k e)
  where
    by_first : (b : Bool) → is_some (find p xs) ≡ true → is_some (cond b (Some x) (find p xs)) ≡ true
    by_first true h = refl
    by_first false h = h

-- a name stands for what a declaration anywhere is
pub known_stands : (n : List ℕ) (w : Wanted) (names : List Declaration) (k : ℕ) → passes_at (is_wanted n w) names k ≡ true → stands names n w ≡ true
unfolding stands found
known_stands n w names k e = some_passes (is_wanted n w) names k e

more_step : {T : Type 0} (p : T → Bool) (ys : List T) (x : T) (k : ℕ) → (place_from p (suc k) (ys ++ x ∷ []) ≡ or_last (place_from p (suc k) ys) (p x) (suc k + length ys)) → (b : Bool) → cond b (Some k) (place_from p (suc k) (ys ++ x ∷ [])) ≡ or_last (cond b (Some k) (place_from p (suc k) ys)) (p x) (k + suc (length ys))
more_step p ys x k later true = refl
more_step p ys x k later false =
    let e : suc k + length ys ≡ k + suc (length ys) = omega arith in
    rw (← e) later

-- one item more
place_more : {T : Type 0} (p : T → Bool) (xs : List T) (x : T) (k : ℕ) → place_from p k (xs ++ x ∷ []) ≡ or_last (place_from p k xs) (p x) (k + length xs)
place_more p [] x k = let z : k + 0 ≡ k = omega arith in rw z refl
place_more p (y ∷ ys) x k = more_step p ys x k (place_more p ys x (suc k)) (p y)

-- the list by names with one declaration more
pub indexed_more : {S : Type 0} (m m' : IndexMap (List ℕ) ℕ S) (names names' : List Declaration) (d : Declaration) (at : ℕ) → IsIndexed m names → ((q : List ℕ) → get bytes_eq m' q ≡ or_last (get bytes_eq m q) (bytes_eq d.name q) at) → at ≡ length names → names' ≡ names ++ d ∷ [] → IsIndexed m' names'
indexed_more m m' names names' d at i noted is grown =
    record {
      first = λ q.
          let e : get bytes_eq m' q ≡ or_last (get bytes_eq m q) (bytes_eq d.name q) at = noted q in
          let f : get bytes_eq m q ≡ place_from (has_name q) 0 names = i.first q in
          let z : 0 + length names ≡ length names = omega arith in
          rw (grown, e, f, is, place_more (has_name q) names d 0, z) refl;
    }
