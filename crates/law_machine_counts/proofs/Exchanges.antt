-- Counts over two lists, taken in either order, and lists that are filtered or joined.
use Rattle.std.proofs.Common.{if◌then◌else◌, ◌≡◌, ◌≢◌, ℕ, zero, suc, ◌+◌, ◌==◌, ◌<◌, ◌≤◌, Bool, true, false, not, ◌&&◌, ◌||◌, List, [], ◌∷◌, ◌⊎◌, inl, inr, filter, count_by, refl, ap, sym, ◌∙◌, arith}
use Rattle.std.specs.List.{flat_map, list_all, range_with_len}
use Rattle.std.proofs.lemmas.List.Folds.{list_all-append}
use Rattle.wdf_model.specs.Tables.{contains, flag}
use Rattle.wdf_model.proofs.Tests.{both, both_left, both_right, first, second}
use Rattle.wdf_model.proofs.Counts.{count_behind, count_cons, equal, one_or_two}
use Rattle.law_machine_counts.proofs.Totals.{same_total}

-- ---- sums

abbrev added : (ℕ → ℕ) → List ℕ → ℕ
added f [] = 0
added f (x ∷ xs) = f x + added f xs

added_same : (f g : ℕ → ℕ) → ((x : ℕ) → f x ≡ g x) → (xs : List ℕ) → added f xs ≡ added g xs
added_same f g h [] = refl
added_same f g h (x ∷ xs) = let one = h x in let rest = added_same f g h xs in omega arith

added_none : (xs : List ℕ) → added (λ x. 0) xs ≡ 0
added_none [] = refl
added_none (x ∷ xs) = let rest = added_none xs in omega arith

added_both : (f g : ℕ → ℕ) (xs : List ℕ) → added (λ x. f x + g x) xs ≡ added f xs + added g xs
added_both f g [] = refl
added_both f g (x ∷ xs) = let rest = added_both f g xs in omega arith

added_flags : (p : ℕ → Bool) (xs : List ℕ) → added (λ x. flag (p x)) xs ≡ count_by p xs
added_flags p [] = refl
added_flags p (x ∷ xs) = let rest = added_flags p xs in let all = count_cons p x xs in omega arith

-- what is counted for each of one list is counted for each of the other
exchanged : (test : ℕ → ℕ → Bool) (qs rs : List ℕ) → added (λ q. count_by (test q) rs) qs ≡ added (λ r. count_by (λ q. test q r) qs) rs
exchanged test [] rs = sym (added_none rs)
exchanged test (q ∷ qs) rs =
    let rest : added (λ x. count_by (test x) rs) qs ≡ added (λ r. count_by (λ x. test x r) qs) rs = exchanged test qs rs in
    let one : added (λ r. flag (test q r)) rs ≡ count_by (test q) rs = added_flags (test q) rs in
    let together : added (λ r. flag (test q r) + count_by (λ x. test x r) qs) rs ≡ added (λ r. flag (test q r)) rs + added (λ r. count_by (λ x. test x r) qs) rs = added_both (λ r. flag (test q r)) (λ r. count_by (λ x. test x r) qs) rs in
    let all : added (λ r. count_by (λ x. test x r) (q ∷ qs)) rs ≡ added (λ r. flag (test q r) + count_by (λ x. test x r) qs) rs = added_same (λ r. count_by (λ x. test x r) (q ∷ qs)) (λ r. flag (test q r) + count_by (λ x. test x r) qs) (λ r. count_cons (λ x. test x r) q qs) rs in
    omega arith

-- ---- filtered and joined lists

filtered_count_by : (p keep : ℕ → Bool) (x : ℕ) (xs : List ℕ) (b : Bool) → keep x ≡ b → count_by p (filter keep xs) ≡ count_by (λ y. keep y && p y) xs
    → count_by p (filter keep (x ∷ xs)) ≡ count_by (λ y. keep y && p y) (x ∷ xs)
filtered_count_by p keep x xs true e rest =
    let all : count_by (λ y. keep y && p y) (x ∷ xs) ≡ flag (keep x && p x) + count_by (λ y. keep y && p y) xs = count_cons (λ y. keep y && p y) x xs in
    let it : flag (keep x && p x) ≡ flag (p x) = ap (λ b. flag (b && p x)) e in
    let one : count_by p (x ∷ filter keep xs) ≡ flag (p x) + count_by p (filter keep xs) = count_cons p x (filter keep xs) in
    let front : count_by p (filter keep (x ∷ xs)) ≡ count_by p (x ∷ filter keep xs) = ap (λ b. count_by p (if b then x ∷ filter keep xs else filter keep xs)) e in
    omega arith
filtered_count_by p keep x xs false e rest =
    let all : count_by (λ y. keep y && p y) (x ∷ xs) ≡ flag (keep x && p x) + count_by (λ y. keep y && p y) xs = count_cons (λ y. keep y && p y) x xs in
    let it : flag (keep x && p x) ≡ 0 = ap (λ b. flag (b && p x)) e in
    let front : count_by p (filter keep (x ∷ xs)) ≡ count_by p (filter keep xs) = ap (λ b. count_by p (if b then x ∷ filter keep xs else filter keep xs)) e in
    omega arith

pub filtered_count : (p keep : ℕ → Bool) (xs : List ℕ) → count_by p (filter keep xs) ≡ count_by (λ y. keep y && p y) xs
filtered_count p keep [] = refl
filtered_count p keep (x ∷ xs) = filtered_count_by p keep x xs (keep x) refl (filtered_count p keep xs)

joined_count : (p : ℕ → Bool) (f : ℕ → List ℕ) (qs : List ℕ) → count_by p (flat_map f qs) ≡ added (λ q. count_by p (f q)) qs
joined_count p f [] = refl
joined_count p f (q ∷ qs) = let both_ = count_behind p (f q) (flat_map f qs) in let rest = joined_count p f qs in omega arith

-- where each of one list is kept for one of the other at most, as a test says, they are as many as pass it
pub joined_filters : (p u : ℕ → Bool) (keep : ℕ → ℕ → Bool) (qs rs : List ℕ) → ((r : ℕ) → count_by (λ q. keep q r && p r) qs ≡ flag (u r))
    → count_by p (flat_map (λ q. filter (keep q) rs) qs) ≡ count_by u rs
joined_filters p u keep qs rs h =
    joined_count p (λ q. filter (keep q) rs) qs
    ∙ added_same (λ q. count_by p (filter (keep q) rs)) (λ q. count_by (λ r. keep q r && p r) rs) (λ q. filtered_count p (keep q) rs) qs
    ∙ exchanged (λ q r. keep q r && p r) qs rs
    ∙ added_same (λ r. count_by (λ q. keep q r && p r) qs) (λ r. flag (u r)) h rs
    ∙ added_flags u rs

pub implied : (a b : Bool) → (a ≡ true → b ≡ true) → (not a || b) ≡ true
implied true b h = h refl
implied false b h = refl

so_kept : (a b : Bool) → (not a || b) ≡ true → a ≡ true → b ≡ true
so_kept true b h e = h
so_kept false b h e = absurd (let z : ⊥ = cc in z)

all_kept_by : (p keep : ℕ → Bool) (x : ℕ) (xs : List ℕ) (b : Bool) → keep x ≡ b → (keep x ≡ true → p x ≡ true) → list_all p (filter keep xs) ≡ true → list_all p (filter keep (x ∷ xs)) ≡ true
all_kept_by p keep x xs true e h rest = rw e (both (p x) (list_all p (filter keep xs)) (h e) rest)
all_kept_by p keep x xs false e h rest = rw e rest

-- what holds of each that is kept
pub all_kept : (p keep : ℕ → Bool) (xs : List ℕ) → list_all (λ x. not (keep x) || p x) xs ≡ true → list_all p (filter keep xs) ≡ true
all_kept p keep [] h = refl
all_kept p keep (x ∷ xs) h = all_kept_by p keep x xs (keep x) refl (so_kept (keep x) (p x) (both_left (not (keep x) || p x) (list_all (λ y. not (keep y) || p y) xs) h)) (all_kept p keep xs (both_right (not (keep x) || p x) (list_all (λ y. not (keep y) || p y) xs) h))

pub all_joined : (p : ℕ → Bool) (f : ℕ → List ℕ) (qs : List ℕ) → list_all (λ q. list_all p (f q)) qs ≡ true → list_all p (flat_map f qs) ≡ true
all_joined p f [] h = refl
all_joined p f (q ∷ qs) h = list_all-append p (f q) (flat_map f qs) ∙ both (list_all p (f q)) (list_all p (flat_map f qs)) (both_left (list_all p (f q)) (list_all (λ x. list_all p (f x)) qs) h) (all_joined p f qs (both_right (list_all p (f q)) (list_all (λ x. list_all p (f x)) qs) h))

-- ---- ids

pub none_from : (a n : ℕ) → count_by (λ (x : ℕ). false) (range_with_len a n) ≡ 0
none_from a zero = refl
none_from a (suc n) = none_from (a + 1) n

-- where no id passes, none is counted
pub none_passes : (p : ℕ → Bool) (a n : ℕ) → ((x : ℕ) → a ≤ x → p x ≡ false) → count_by p (range_with_len a n) ≡ 0
none_passes p a n h = same_total (λ x. false) p a n h ∙ none_from a n

-- ids from which on none passes make no difference
pub no_more : (p : ℕ → Bool) (a n m : ℕ) → ((x : ℕ) → a + n ≤ x → p x ≡ false) → count_by p (range_with_len a (n + m)) ≡ count_by p (range_with_len a n)
no_more p a zero m h = none_passes p a (0 + m) (λ x above. h x (omega arith))
no_more p a (suc n) m h =
    let e : suc n + m ≡ suc (n + m) = omega arith in
    let longer = count_cons p a (range_with_len (a + 1) (n + m)) in
    let shorter = count_cons p a (range_with_len (a + 1) n) in
    let rest : count_by p (range_with_len (a + 1) (n + m)) ≡ count_by p (range_with_len (a + 1) n) = no_more p (a + 1) n m (λ x above. h x (omega arith)) in
    rw e (omega arith)

contained_by : (u : ℕ → Bool) (r a n : ℕ) (b : Bool) → u a ≡ b → (a ≡ r) ⊎ (a ≢ r) → u r ≡ true → a ≤ r
    → (a + 1 ≤ r → contains r (filter u (range_with_len (a + 1) n)) ≡ true) → contains r (filter u (range_with_len a (suc n))) ≡ true
contained_by u r a n true e (inl same) h low rest = rw e (first (a == r) _ (equal a r same))
contained_by u r a n true e (inr other) h low rest = rw e (second (a == r) _ (rest (omega arith)))
contained_by u r a n false e (inl same) h low rest = absurd (let k : u a ≡ true = rw same h in let z : ⊥ = cc in z)
contained_by u r a n false e (inr other) h low rest = rw e (rest (omega arith))

-- an id that passes is among those that do
pub contained : (u : ℕ → Bool) (r a n : ℕ) → u r ≡ true → a ≤ r → r < a + n → contains r (filter u (range_with_len a n)) ≡ true
contained u r a zero h low high = absurd (omega arith)
contained u r a (suc n) h low high = contained_by u r a n (u a) refl (one_or_two a r) h low (λ above. contained u r (a + 1) n h above (omega arith))
