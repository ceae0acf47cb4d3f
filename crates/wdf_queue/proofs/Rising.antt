-- Waiting lists that rise by id, and their marks.
use Rattle.std.proofs.Common.{ℕ, zero, suc, ◌≡◌, ◌≢◌, ◌⊎◌, ◌<◌, ◌≤◌, ◌==◌, not, Bool, true, false, List, [], ◌∷◌, ◌++◌, length, map, drop, filter, replicate, slice_set, Some, None, get_or-set_same, get_or-set_other, refl, inl, inr, arith}
use Rattle.std.proofs.lemmas.Bool.{cases_eq}
use Rattle.std.proofs.lemmas.Bool.Decides.{nat_tests}
use Rattle.wdf_ilist.specs.Family.{last_of}
use Rattle.wdf_maps.specs.Places.{rises}
use Rattle.wdf_maps.proofs.PlacesOfKeys.{rises_low, rises_high, rises_rest}
use Rattle.wdf_model.specs.Tables.{entry, without}
use Rattle.wdf_model.specs.declared.room.TheConstants.{OBJECTS}
use Rattle.wdf_model.proofs.Maps.{entry_map}
use Rattle.wdf_queue.specs.Queues.{AreMarked}

-- ---- one list

joined : (low high x : ℕ) (xs : List ℕ) → low ≤ x → x < high → rises (λ y. y) (suc x) high xs ≡ true → rises (λ y. y) low high (x ∷ xs) ≡ true
joined low high x xs a b h = grind (arith, nat_tests)

lower : (low less high : ℕ) (xs : List ℕ) → less ≤ low → rises (λ y. y) low high xs ≡ true → rises (λ y. y) less high xs ≡ true
lower low less high [] a h = refl
lower low less high (x ∷ xs) a h =
    let from = rises_low (λ y. y) low high x xs h in
    joined less high x xs (omega arith) (rises_high (λ y. y) low high x xs h) (rises_rest (λ y. y) low high x xs h)

none_last : (xs : List ℕ) → last_of xs ≡ None → xs ≡ []
none_last [] e = refl
none_last (x ∷ []) e = absurd (let z : ⊥ = cc in z)
none_last (x ∷ y ∷ ys) e = absurd (let no = none_last (y ∷ ys) e in let z : ⊥ = cc in z)

-- one at the tail
pub alone_last : (high r : ℕ) (xs : List ℕ) → last_of xs ≡ None → r < high → rises (λ y. y) 0 high (xs ++ r ∷ []) ≡ true
alone_last high r xs e b = rw (none_last xs e) (joined 0 high r [] (omega arith) b refl)

pub with_last : (low high last r : ℕ) (xs : List ℕ) → rises (λ y. y) low high xs ≡ true → last_of xs ≡ Some last → last < r → r < high
    → rises (λ y. y) low high (xs ++ r ∷ []) ≡ true
with_last low high last r [] h e a b = absurd (let z : ⊥ = cc in z)
with_last low high last r (x ∷ []) h e a b =
    let same : x ≡ last = cc in
    joined low high x (r ∷ []) (rises_low (λ y. y) low high x [] h) (rises_high (λ y. y) low high x [] h) (joined (suc x) high r [] (omega arith) b refl)
with_last low high last r (x ∷ y ∷ ys) h e a b =
    joined low high x ((y ∷ ys) ++ r ∷ []) (rises_low (λ y. y) low high x (y ∷ ys) h) (rises_high (λ y. y) low high x (y ∷ ys) h)
    (with_last (suc x) high last r (y ∷ ys) (rises_rest (λ y. y) low high x (y ∷ ys) h) e a b)

-- some leave
kept_by : (p : ℕ → Bool) (low high x : ℕ) (xs : List ℕ) (b : Bool) → p x ≡ b → low ≤ x → x < high → rises (λ y. y) (suc x) high (filter p xs) ≡ true
    → rises (λ y. y) low high (filter p (x ∷ xs)) ≡ true
kept_by p low high x xs true e a b rest = rw e (joined low high x (filter p xs) a b rest)
kept_by p low high x xs false e a b rest = rw e (lower (suc x) low high (filter p xs) (omega arith) rest)

kept : (p : ℕ → Bool) (low high : ℕ) (xs : List ℕ) → rises (λ y. y) low high xs ≡ true → rises (λ y. y) low high (filter p xs) ≡ true
kept p low high [] h = refl
kept p low high (x ∷ xs) h =
    kept_by p low high x xs (p x) refl (rises_low (λ y. y) low high x xs h) (rises_high (λ y. y) low high x xs h)
    (kept p (suc x) high xs (rises_rest (λ y. y) low high x xs h))

-- the first leaves
rest_kept : (high : ℕ) (xs : List ℕ) → rises (λ y. y) 0 high xs ≡ true → rises (λ y. y) 0 high (drop 1 xs) ≡ true
rest_kept high [] h = refl
rest_kept high (x ∷ xs) h = lower (suc x) 0 high xs (omega arith) (rises_rest (λ y. y) 0 high x xs h)

-- ---- all lists

-- the front of one leaves
pub marked_drop : (marks : List Bool) (lists : List (List ℕ)) (q : ℕ) → AreMarked marks lists → q < length lists
    → AreMarked marks (slice_set lists q (drop 1 (entry [] lists q)))
marked_drop marks lists q h b p = at_list (cases_eq p q)
  where
    at_list : (p ≡ q) ⊎ (p ≢ q) → entry false marks p ≡ true → rises (λ y. y) 0 OBJECTS (entry [] (slice_set lists q (drop 1 (entry [] lists q))) p) ≡ true
    at_list (inl same) e =
        let written : entry [] (slice_set lists q (drop 1 (entry [] lists q))) p ≡ drop 1 (entry [] lists q) = rw same (get_or-set_same lists q (drop 1 (entry [] lists q)) [] b) in
        rw written (rest_kept OBJECTS (entry [] lists q) (h q (rw same at e)))
    at_list (inr other) e = rw (get_or-set_other lists q p (drop 1 (entry [] lists q)) [] other) (h p e)

-- one leaves, wherever it is
pub marked_without : (marks : List Bool) (lists : List (List ℕ)) (r : ℕ) → AreMarked marks lists → AreMarked marks (map (without r) lists)
marked_without marks lists r h p e =
    rw (entry_map [] lists (without r) p refl) (kept (λ other. not (other == r)) 0 OBJECTS (entry [] lists p) (h p e))

-- nobody waits
pub empty_at : (n p : ℕ) → entry {T = List ℕ} [] (replicate n []) p ≡ []
empty_at zero p = refl
empty_at (suc n) zero = refl
empty_at (suc n) (suc p) = empty_at n p

pub marked_empty : (marks : List Bool) (n : ℕ) → AreMarked marks (replicate n [])
marked_empty marks n p e = rw (empty_at n p) refl
