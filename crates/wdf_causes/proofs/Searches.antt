-- What is found in a range, in a list, and in what is gathered along either.
use Rattle.std.proofs.Common.{◌≡◌, if◌then◌else◌, ℕ, ◌+◌, ◌-◌, ◌<◌, ◌≤◌, ◌==◌, not, Bool, true, false, List, [], ◌∷◌, ◌++◌, Option, Some, None, filter, find, drop, slice_get, take_while, fold, refl, sym, ap, ◌∙◌}
use Rattle.std.specs.List.{flat_map, range_with_len}
use Rattle.std.proofs.lemmas.List.Sums.{fold-append}
use Rattle.wdf_model.specs.Tables.{least, lesser}
use Rattle.wdf_maps.specs.Least.{lesser_if}
use Rattle.wdf_maps.proofs.Leasts.{fold_least}
use Rattle.wdf_cpu.proofs.Leasts.{opened, take_while_on}
use Rattle.wdf_causes.proofs.Ranges.{range_opens, range_ends}

-- ---- the first of a range

pub find_next : (p : ℕ → Bool) (a n : ℕ) → a < n → p a ≡ false → find p (range_with_len (a + 1) (n - (a + 1))) ≡ find p (range_with_len a (n - a))
find_next p a n h e = rw (range_opens a n h, e) refl

pub find_stops : (p : ℕ → Bool) (a n : ℕ) → a < n → p a ≡ true → Some a ≡ find p (range_with_len a (n - a))
find_stops p a n h e = rw (range_opens a n h, e) refl

pub find_ends : (p : ℕ → Bool) (a n : ℕ) → n ≤ a → None ≡ find p (range_with_len a (n - a))
find_ends p a n h = rw (range_ends a n h) refl

-- ---- the least of what the ids of a range have

pub least_next : (g : ℕ → List ℕ) (found : Option ℕ) (a n : ℕ) → a < n
    → fold lesser (lesser_if found (least (g a))) (flat_map g (range_with_len (a + 1) (n - (a + 1)))) ≡ fold lesser found (flat_map g (range_with_len a (n - a)))
least_next g found a n h =
    ap (λ m. fold lesser m rest) (sym (fold_least found (g a)))
    ∙ sym (fold-append lesser found (g a) rest)
    ∙ ap (λ xs. fold lesser found (flat_map g xs)) (sym (range_opens a n h))
  where
    rest : List ℕ
    rest = flat_map g (range_with_len (a + 1) (n - (a + 1)))

pub least_ends : (g : ℕ → List ℕ) (found : Option ℕ) (a n : ℕ) → n ≤ a → found ≡ fold lesser found (flat_map g (range_with_len a (n - a)))
least_ends g found a n h = rw (range_ends a n h) refl

kept_by : (p : ℕ → Bool) (g : ℕ → List ℕ) (x : ℕ) (xs : List ℕ) (b : Bool) → p x ≡ b → flat_map g (filter p xs) ≡ flat_map (λ y. if p y then g y else []) xs
    → flat_map g (filter p (x ∷ xs)) ≡ flat_map (λ y. if p y then g y else []) (x ∷ xs)
kept_by p g x xs true e rest = rw e (ap (λ ys. g x ++ ys) rest)
kept_by p g x xs false e rest = rw e rest

-- what the ids that pass a test have
pub flat_map_filtered : (p : ℕ → Bool) (g : ℕ → List ℕ) (xs : List ℕ) → flat_map g (filter p xs) ≡ flat_map (λ x. if p x then g x else []) xs
flat_map_filtered p g [] = refl
flat_map_filtered p g (x ∷ xs) = kept_by p g x xs (p x) refl (flat_map_filtered p g xs)

-- ---- the least of a list's items

pub least_of_next : (p : ℕ → Bool) (found : Option ℕ) (xs : List ℕ) (k x : ℕ) → slice_get xs k ≡ Some x → p x ≡ true
    → fold lesser (lesser found x) (filter p (drop (k + 1) xs)) ≡ fold lesser found (filter p (drop k xs))
least_of_next p found xs k x at e = rw (opened xs k x at, e) refl

pub least_of_other : (p : ℕ → Bool) (found : Option ℕ) (xs : List ℕ) (k x : ℕ) → slice_get xs k ≡ Some x → p x ≡ false
    → fold lesser found (filter p (drop (k + 1) xs)) ≡ fold lesser found (filter p (drop k xs))
least_of_other p found xs k x at e = rw (opened xs k x at, e) refl

-- ---- the least of a waiting list, and of the part of it that is ahead of one

pub least_waits : (found : Option ℕ) (xs : List ℕ) (k x : ℕ) → slice_get xs k ≡ Some x → fold lesser (lesser found x) (drop (k + 1) xs) ≡ fold lesser found (drop k xs)
least_waits found xs k x at = rw (opened xs k x at) refl

pub ahead_next : (r : ℕ) (found : Option ℕ) (xs : List ℕ) (k x : ℕ) → slice_get xs k ≡ Some x → (x == r) ≡ false
    → fold lesser (lesser found x) (take_while (λ y. not (y == r)) (drop (k + 1) xs)) ≡ fold lesser found (take_while (λ y. not (y == r)) (drop k xs))
ahead_next r found xs k x at e =
    ap (fold lesser found) (sym (take_while_on (λ y. not (y == r)) x (drop (k + 1) xs) (ap not e)))
    ∙ ap (λ ys. fold lesser found (take_while (λ y. not (y == r)) ys)) (sym (opened xs k x at))

pub ahead_stops : (r : ℕ) (found : Option ℕ) (xs : List ℕ) (k x : ℕ) → slice_get xs k ≡ Some x → (x == r) ≡ true
    → found ≡ fold lesser found (take_while (λ y. not (y == r)) (drop k xs))
ahead_stops r found xs k x at e = rw (opened xs k x at, e) refl
