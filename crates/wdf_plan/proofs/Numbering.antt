-- Each declaration's name has its own number.
use Rattle.std.proofs.Common.{◌≡◌, ℕ, suc, ◌+◌, ◌<◌, ◌≤◌, Bool, true, false, not, cond, ◌&&◌, List, [], ◌∷◌, ◌++◌, length, Option, Some, None, refl, ◌∙◌, arith}
use Rattle.std.proofs.lemmas.Slice.Eq.{bytes_eq-Decides}
use Rattle.std.proofs.lemmas.Bool.{ne_eqb}
use Rattle.std.proofs.lemmas.List.Folds.{list_any-append}
use Rattle.std.specs.Prelude.{◌==◌}
use Rattle.std.specs.List.{filter_map, cons_option, list_any}
use Rattle.std.specs.Str.{bytes_eq}
use Rattle.wdf_base.specs.Resolved.{all_differ}
use Rattle.wdf_blocks.specs.declared.declaration.Declaration.{Declaration}
use Rattle.wdf_blocks.specs.Declarations.{has_name}
use Rattle.wdf_refusals.specs.Names.{place_from}
use Rattle.wdf_refusals.specs.Numbers.{name_number, numbered}
use Rattle.wdf_plan.proofs.Distinct.{AreDistinct}
use Rattle.wdf_refusals.proofs.Every.{Every, every_map, EveryAt, every_at_map}

shift : (x : Declaration) (k : ℕ) (inner : List Declaration) (j : ℕ) (ds : List Declaration) → Every (λ d. bytes_eq x.name d.name ≡ false) ds → EveryAt (λ i d. place_from (has_name d.name) (suc k) inner ≡ Some i) j ds → EveryAt (λ i d. place_from (has_name d.name) k (x ∷ inner) ≡ Some i) j ds
shift x k inner j [] h g = tt
shift x k inner j (d ∷ ds) h g =
    (rw h.0 g.0, shift x k inner (suc j) ds h.1 g.1)

places : (k : ℕ) (ds : List Declaration) → AreDistinct ds → EveryAt (λ i d. place_from (has_name d.name) k ds ≡ Some i) k ds
places k [] h = tt
places k (x ∷ xs) h =
    (rw ((bytes_eq-Decides x.name x.name).1 refl) refl, shift x k xs (suc k) xs h.0 (places (suc k) xs h.1))

-- the number of each name is its place after `driver` and `req`
pub numbers : (ds : List Declaration) → AreDistinct ds → EveryAt (λ i d. name_number ds d.name ≡ i + 2) 0 ds
unfolding name_number
numbers ds h =
    every_at_map (λ i d. place_from (has_name d.name) 0 ds ≡ Some i) (λ i d. numbered (place_from (has_name d.name) 0 ds) ≡ i + 2) (λ i d e. rw e refl) 0 ds (places 0 ds h)

-- the numbers of those that pass a test
abbrev pub number_if : (Declaration → ℕ) → (Declaration → Bool) → Declaration → Option ℕ
number_if num t d = cond (t d) (Some (num d)) None

-- in their order
abbrev pub numbers_of : (Declaration → ℕ) → (Declaration → Bool) → List Declaration → List ℕ
numbers_of num t ds = filter_map (number_if num t) ds

-- each number is its place after the first two
abbrev pub AreNumbered : (Declaration → ℕ) → ℕ → List Declaration → Type 0
AreNumbered num k ds = EveryAt (λ i d. num d ≡ i + 2) k ds

-- numbers from k on, below the number past the last
abbrev pub IsWithin : ℕ → ℕ → ℕ → Type 0
IsWithin k len n = (k + 2 ≤ n) × (n < k + 2 + len)

within_step : (k len n : ℕ) (b : Bool) (ns : List ℕ) → n ≡ k + 2 → Every (IsWithin (suc k) len) ns → Every (IsWithin k (suc len)) (cons_option (cond b (Some n) None) ns)
within_step k len n true ns e h = (
  (omega arith, omega arith),
  every_map (IsWithin (suc k) len) (IsWithin k (suc len)) (λ m w.
      let low : suc k + 2 ≤ m = w.0 in
      let high : m < suc k + 2 + len = w.1 in
      (omega arith, omega arith)) ns h,
)
within_step k len n false ns e h =
    every_map (IsWithin (suc k) len) (IsWithin k (suc len)) (λ m w.
    let low : suc k + 2 ≤ m = w.0 in
    let high : m < suc k + 2 + len = w.1 in
    (omega arith, omega arith)) ns h

-- the numbers lie within the places
pub within : (num : Declaration → ℕ) (t : Declaration → Bool) (k : ℕ) (ds : List Declaration) → AreNumbered num k ds → Every (IsWithin k (length ds)) (numbers_of num t ds)
within num t k [] h = tt
within num t k (x ∷ xs) h =
    within_step k (length xs) (num x) (t x) (numbers_of num t xs) h.0 (within num t (suc k) xs h.1)

above : (num : Declaration → ℕ) (t : Declaration → Bool) (k : ℕ) (ds : List Declaration) → AreNumbered num (suc k) ds → Every (λ n. k + 2 < n) (numbers_of num t ds)
above num t k ds h =
    every_map (IsWithin (suc k) (length ds)) (λ n. k + 2 < n) (λ n w. let low : suc k + 2 ≤ n = w.0 in omega arith) (numbers_of num t ds) (within num t (suc k) ds h)

absent : (n m : ℕ) (ns : List ℕ) → n ≡ m → Every (λ a. m < a) ns → list_any (◌==◌ n) ns ≡ false
absent n m [] e h = refl
absent n m (a ∷ ns) e h =
    let more : m < a = h.0 in
    let other : (n == a) ≡ false = ne_eqb n a (λ same. absurd (omega arith)) in
    rw (other, absent n m ns e h.1) refl

differ_step : (n m : ℕ) (b : Bool) (ns : List ℕ) → n ≡ m → Every (λ a. m < a) ns → all_differ ◌==◌ ns ≡ true → all_differ ◌==◌ (cons_option (cond b (Some n) None) ns) ≡ true
differ_step n m true ns e h d = rw (absent n m ns e h, d) refl
differ_step n m false ns e h d = d

-- they differ
pub numbers_differ : (num : Declaration → ℕ) (t : Declaration → Bool) (k : ℕ) (ds : List Declaration) → AreNumbered num k ds → all_differ ◌==◌ (numbers_of num t ds) ≡ true
numbers_differ num t k [] h = refl
numbers_differ num t k (x ∷ xs) h =
    differ_step (num x) (k + 2) (t x) (numbers_of num t xs) h.0 (above num t k xs h.1) (numbers_differ num t (suc k) xs h.1)

-- none of the first numbers is one of the others
abbrev pub AreApart : List ℕ → List ℕ → Type 0
AreApart as' bs = Every (λ a. list_any (◌==◌ a) bs ≡ false) as'

apart_more : (n m : ℕ) (ss ts : List ℕ) → n ≡ m → Every (λ a. m < a) ss → AreApart ss ts → AreApart ss (n ∷ ts)
apart_more n m [] ts e h g = tt
apart_more n m (a ∷ ss) ts e h g =
    let more : m < a = h.0 in
    let other : (a == n) ≡ false = ne_eqb a n (λ same. absurd (omega arith)) in
    (rw (other, g.0) refl, apart_more n m ss ts e h.1 g.1)

apart_step : (n m : ℕ) (b c : Bool) (ss ts : List ℕ) → (b ≡ true → c ≡ true → ⊥) → n ≡ m → Every (λ a. m < a) ss → Every (λ a. m < a) ts → AreApart ss ts → AreApart (cons_option (cond b (Some n) None) ss) (cons_option (cond c (Some n) None) ts)
apart_step n m true true ss ts not' e hs ht g = absurd (not' refl refl)
apart_step n m true false ss ts not' e hs ht g = (absent n m ts e ht, g)
apart_step n m false true ss ts not' e hs ht g = apart_more n m ss ts e hs g
apart_step n m false false ss ts not' e hs ht g = g

-- the numbers of two sorts differ
pub apart : (num : Declaration → ℕ) (s t : Declaration → Bool) → ((d : Declaration) → s d ≡ true → t d ≡ true → ⊥) → (k : ℕ) (ds : List Declaration) → AreNumbered num k ds → AreApart (numbers_of num s ds) (numbers_of num t ds)
apart num s t not' k [] h = tt
apart num s t not' k (x ∷ xs) h =
    apart_step (num x) (k + 2) (s x) (t x) (numbers_of num s xs) (numbers_of num t xs) (not' x) h.0 (above num s k xs h.1) (above num t k xs h.1) (apart num s t not' (suc k) xs h.1)

append_step : (n d m w : Bool) → (not n && d) ≡ true → (n ≡ false → m ≡ false) → (d ≡ true → w ≡ true) → (not m && w) ≡ true
append_step true d m w h f g = absurd (let z : ⊥ = cc in z)
append_step false true m w h f g = rw (f refl, g refl) refl
append_step false false m w h f g = absurd (let z : ⊥ = cc in z)

-- two lists that differ in themselves and from one another
pub differ_append : (as' bs : List ℕ) → all_differ ◌==◌ as' ≡ true → all_differ ◌==◌ bs ≡ true → AreApart as' bs → all_differ ◌==◌ (as' ++ bs) ≡ true
differ_append [] bs h g k = g
differ_append (a ∷ as') bs h g k =
    append_step (list_any (◌==◌ a) as') (all_differ ◌==◌ as') (list_any (◌==◌ a) (as' ++ bs)) (all_differ ◌==◌ (as' ++ bs)) h (λ e. list_any-append (◌==◌ a) as' bs ∙ rw (e, k.0) refl) (λ e. differ_append as' bs e g k.1)
