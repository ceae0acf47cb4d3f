-- What is found in a list, and how many pass a test, after some were filtered away.
use Rattle.std.proofs.Common.{if◌then◌else◌, ◌≡◌, ℕ, zero, suc, ◌+◌, ◌<◌, ◌≤◌, Bool, true, false, not, ◌||◌, List, [], ◌∷◌, Some, None, length, get_or, take, drop, filter, find, count_by, refl, ap, sym, subst, ◌∙◌, arith}
use Rattle.std.specs.List.{All, list_any, remove}
use Rattle.std.proofs.lemmas.List.{at_drop_more}
use Rattle.std.proofs.lemmas.List.Elements.{All-head, All-tail}
use Rattle.std.proofs.lemmas.List.Sums.{count_by_more_no}
use Rattle.wdf_model.specs.declared.entries.Held.{Held}
use Rattle.wdf_model.specs.Tables.{flag}
use Rattle.wdf_model.proofs.Counts.{count_cons, count_no, count_yes}
use Rattle.wdf_lock.specs.Holds.{passes}

-- none was counted where none is found
none_counted_by : (p : Held → Bool) (x : Held) (xs : List Held) (b : Bool) → p x ≡ b → find p (x ∷ xs) ≡ None → (find p xs ≡ None → count_by p xs ≡ 0) → count_by p (x ∷ xs) ≡ 0
none_counted_by p x xs true e h rest = absurd (let k : Some x ≡ None = rw e at h in let z : ⊥ = cc in z)
none_counted_by p x xs false e h rest = count_no p x xs e ∙ rest (rw e at h)

pub none_counted : (p : Held → Bool) (xs : List Held) → find p xs ≡ None → count_by p xs ≡ 0
none_counted p [] h = refl
none_counted p (x ∷ xs) h = none_counted_by p x xs (p x) refl h (none_counted p xs)

-- where none passes, nothing is filtered away
all_kept_by : (p : Held → Bool) (x : Held) (xs : List Held) (b : Bool) → p x ≡ b → count_by p (x ∷ xs) ≡ 0 → (count_by p xs ≡ 0 → filter (λ h. not (p h)) xs ≡ xs) → filter (λ h. not (p h)) (x ∷ xs) ≡ x ∷ xs
all_kept_by p x xs true e h rest = absurd (let k = count_yes p x xs e in omega arith)
all_kept_by p x xs false e h rest = rw e (ap (λ ys. x ∷ ys) (rest (let k = count_no p x xs e in omega arith)))

all_kept : (p : Held → Bool) (xs : List Held) → count_by p xs ≡ 0 → filter (λ h. not (p h)) xs ≡ xs
all_kept p [] h = refl
all_kept p (x ∷ xs) h = all_kept_by p x xs (p x) refl h (all_kept p xs)

-- where one passes, what is filtered away is what is found
one_leaves_by : (p q : Held → Bool) (x : Held) (xs : List Held) (b : Bool) → p x ≡ b → count_by p (x ∷ xs) ≤ 1
    → (count_by p xs ≤ 1 → count_by q (filter (λ h. not (p h)) xs) + flag (passes q (find p xs)) ≡ count_by q xs)
    → count_by q (filter (λ h. not (p h)) (x ∷ xs)) + flag (passes q (find p (x ∷ xs))) ≡ count_by q (x ∷ xs)
one_leaves_by p q x xs true e once rest =
    let none : count_by p xs ≡ 0 = let k = count_yes p x xs e in omega arith in
    let all : count_by q (filter (λ h. not (p h)) xs) ≡ count_by q xs = ap (count_by q) (all_kept p xs none) in
    let c = count_cons q x xs in
    rw e (omega arith)
one_leaves_by p q x xs false e once rest =
    let r = rest (let k = count_no p x xs e in omega arith) in
    let c = count_cons q x xs in
    let d = count_cons q x (filter (λ h. not (p h)) xs) in
    rw e (omega arith)

pub one_leaves : (p q : Held → Bool) (xs : List Held) → count_by p xs ≤ 1 → count_by q (filter (λ h. not (p h)) xs) + flag (passes q (find p xs)) ≡ count_by q xs
one_leaves p q [] once = refl
one_leaves p q (x ∷ xs) once = one_leaves_by p q x xs (p x) refl once (one_leaves p q xs)

-- where one was found, one was counted
some_counted_by : (p : Held → Bool) (x : Held) (xs : List Held) (h : Held) (b : Bool) → p x ≡ b → find p (x ∷ xs) ≡ Some h → (find p xs ≡ Some h → 1 ≤ count_by p xs) → 1 ≤ count_by p (x ∷ xs)
some_counted_by p x xs h true e found rest = let k = count_yes p x xs e in omega arith
some_counted_by p x xs h false e found rest = let k = count_no p x xs e in let r = rest (rw e at found) in omega arith

pub some_counted : (p : Held → Bool) (xs : List Held) (h : Held) → find p xs ≡ Some h → 1 ≤ count_by p xs
some_counted p [] h found = absurd (let z : ⊥ = cc in z)
some_counted p (x ∷ xs) h found = some_counted_by p x xs h (p x) refl found (some_counted p xs h)

-- where none is found, nothing is filtered away
pub none_filtered : (p : Held → Bool) (xs : List Held) → find p xs ≡ None → filter (λ h. not (p h)) xs ≡ xs
none_filtered p xs none = all_kept p xs (none_counted p xs none)

counted_there : (p : Held → Bool) (xs : List Held) (place : ℕ) (d : Held) → place < length xs → p (get_or xs place d) ≡ true → 1 ≤ count_by p xs
counted_there p [] place d h is = absurd (omega arith)
counted_there p (x ∷ xs) zero d h is = let k = count_yes p x xs is in omega arith
counted_there p (x ∷ xs) (suc place) d h is = let k = count_cons p x xs in let r = counted_there p xs place d (omega arith) is in omega arith

-- where one passes, wherever it is, without it none is left that passes
pub removed_filtered : (p : Held → Bool) (xs : List Held) (place : ℕ) (d : Held) → count_by p xs ≡ 1 → place < length xs → p (get_or xs place d) ≡ true → remove xs place ≡ filter (λ h. not (p h)) xs
removed_filtered p [] place d one h is = absurd (omega arith)
removed_filtered p (x ∷ xs) zero d one h is = rw is (sym (all_kept p xs (let k = count_yes p x xs is in omega arith)))
removed_filtered p (x ∷ xs) (suc place) d one h is =
    by_head (p x) refl (λ once. removed_filtered p xs place d once (omega arith) is)
  where
    by_head : (b : Bool) → p x ≡ b → (count_by p xs ≡ 1 → remove xs place ≡ filter (λ h. not (p h)) xs) → remove (x ∷ xs) (suc place) ≡ filter (λ h. not (p h)) (x ∷ xs)
    by_head true e rest = absurd (let k = count_yes p x xs e in let r = counted_there p xs place d (omega arith) is in omega arith)
    by_head false e rest = rw e (ap (λ ys. x ∷ ys) (rest (let k = count_no p x xs e in omega arith)))

-- the last that passes is before the place, where the one at it doesn't pass
pub before_place : (p : Held → Bool) (xs : List Held) (place : ℕ) (d : Held) → place < length xs → p (get_or xs place d) ≡ false → 1 ≤ count_by p (take (place + 1) xs) → 1 ≤ count_by p (take place xs)
before_place p xs place d h isnt some = let k = count_by_more_no p xs place d h isnt in omega arith

-- where some are before a place, it isn't the first
pub not_at_first : (p : Held → Bool) (xs : List Held) (place : ℕ) → 1 ≤ count_by p (take place xs) → 1 ≤ place
not_at_first p xs zero some = absurd (let z : 1 ≤ 0 = some in omega arith)
not_at_first p xs (suc place) some = omega arith

-- what was filtered away isn't found
found_not_by : (p : Held → Bool) (x : Held) (xs : List Held) (b : Bool) → p x ≡ b → find p (filter (λ h. not (p h)) xs) ≡ None → find p (filter (λ h. not (p h)) (x ∷ xs)) ≡ None
found_not_by p x xs true e rest = rw e rest
found_not_by p x xs false e rest = rw (e, e) rest

pub found_not : (p : Held → Bool) (xs : List Held) → find p (filter (λ h. not (p h)) xs) ≡ None
found_not p [] = refl
found_not p (x ∷ xs) = found_not_by p x xs (p x) refl (found_not p xs)

-- what wasn't is found as before
found_still_by : (p q : Held → Bool) (x : Held) (xs : List Held) (b c : Bool) → p x ≡ b → q x ≡ c → (p x ≡ true → q x ≡ false) → find q (filter (λ h. not (p h)) xs) ≡ find q xs → find q (filter (λ h. not (p h)) (x ∷ xs)) ≡ find q (x ∷ xs)
found_still_by p q x xs true true e f apart rest = absurd (let z : q x ≡ false = apart e in let y : ⊥ = cc in y)
found_still_by p q x xs true false e f apart rest = rw (e, f) rest
found_still_by p q x xs false true e f apart rest = rw (e, f) refl
found_still_by p q x xs false false e f apart rest = rw (e, f) rest

pub found_still : (p q : Held → Bool) → ((x : Held) → p x ≡ true → q x ≡ false) → (xs : List Held) → find q (filter (λ h. not (p h)) xs) ≡ find q xs
found_still p q apart [] = refl
found_still p q apart (x ∷ xs) = found_still_by p q x xs (p x) (q x) refl refl (apart x) (found_still p q apart xs)

-- some passes both tests exactly where the one that is found does
none_any_by : (p r : Held → Bool) (x : Held) (xs : List Held) (b : Bool) → p x ≡ b → (p x ≡ false → r x ≡ false) → count_by p (x ∷ xs) ≡ 0 → (count_by p xs ≡ 0 → list_any r xs ≡ false) → list_any r (x ∷ xs) ≡ false
none_any_by p r x xs true e f h rest = absurd (let k = count_yes p x xs e in omega arith)
none_any_by p r x xs false e f h rest = rw (f e) (rest (let k = count_no p x xs e in omega arith))

none_any : (p r : Held → Bool) → ((x : Held) → p x ≡ false → r x ≡ false) → (xs : List Held) → count_by p xs ≡ 0 → list_any r xs ≡ false
none_any p r f [] h = refl
none_any p r f (x ∷ xs) h = none_any_by p r x xs (p x) refl (f x) h (none_any p r f xs)

or_none : (b : Bool) → b ≡ (b || false)
or_none true = refl
or_none false = refl

found_any_by : (p q r : Held → Bool) (x : Held) (xs : List Held) (b : Bool) → p x ≡ b → (p x ≡ true → r x ≡ q x) → (p x ≡ false → r x ≡ false) → ((y : Held) → p y ≡ false → r y ≡ false) → count_by p (x ∷ xs) ≤ 1
    → (count_by p xs ≤ 1 → passes q (find p xs) ≡ list_any r xs) → passes q (find p (x ∷ xs)) ≡ list_any r (x ∷ xs)
found_any_by p q r x xs true e same none_here nones once rest =
    let none : list_any r xs ≡ false = none_any p r nones xs (let k = count_yes p x xs e in omega arith) in
    rw (e, none, same e) (or_none (q x))
found_any_by p q r x xs false e same none_here nones once rest = rw (e, none_here e) (rest (let k = count_no p x xs e in omega arith))

pub found_any : (p q r : Held → Bool) → ((x : Held) → p x ≡ true → r x ≡ q x) → ((x : Held) → p x ≡ false → r x ≡ false) → (xs : List Held) → count_by p xs ≤ 1 → passes q (find p xs) ≡ list_any r xs
found_any p q r same nones [] once = refl
found_any p q r same nones (x ∷ xs) once = found_any_by p q r x xs (p x) refl (same x) (nones x) nones once (found_any p q r same nones xs)

-- what is found passes what all pass
found_passes_by : (p : Held → Bool) (P : Held → Type 0) (x : Held) (xs : List Held) (h : Held) (b : Bool) → p x ≡ b → find p (x ∷ xs) ≡ Some h → All P (x ∷ xs) → (find p xs ≡ Some h → All P xs → P h) → P h
found_passes_by p P x xs h true e found all rest = let same : x ≡ h = (let k : Some x ≡ Some h = rw e at found in cc) in subst P same (All-head P x xs all)
found_passes_by p P x xs h false e found all rest = rest (rw e at found) (All-tail P x xs all)

pub found_passes : (p : Held → Bool) (P : Held → Type 0) (xs : List Held) (h : Held) → find p xs ≡ Some h → All P xs → P h
found_passes p P [] h found all = absurd (let z : ⊥ = cc in z)
found_passes p P (x ∷ xs) h found all = found_passes_by p P x xs h (p x) refl found all (found_passes p P xs h)

-- a place further in the search
pub found_here : (p : Held → Bool) (all : List Held) (place : ℕ) (d : Held) → place < length all → find p all ≡ find p (drop place all) → p (get_or all place d) ≡ true → Some (get_or all place d) ≡ find p all
found_here p all place d within so_far e =
    sym (so_far ∙ at_drop_more (find p) all place d within ∙ ap (λ b. if b then Some (get_or all place d) else find p (drop (place + 1) all)) e)

pub not_here : (p : Held → Bool) (all : List Held) (place : ℕ) (d : Held) → place < length all → find p all ≡ find p (drop place all) → p (get_or all place d) ≡ false → find p all ≡ find p (drop (place + 1) all)
not_here p all place d within so_far e =
    so_far ∙ at_drop_more (find p) all place d within ∙ ap (λ b. if b then Some (get_or all place d) else find p (drop (place + 1) all)) e
