-- How many frames pass a test after a frame begins, ends, parks or comes back.
use Rattle.std.proofs.Common.{if◌then◌else◌, ◌≡◌, ◌≢◌, ℕ, zero, suc, ◌+◌, ◌==◌, ◌≤◌, nat_lt, Bool, true, false, not, List, [], ◌∷◌, ◌⊎◌, inl, inr, Some, drop, count_by, refl, ap, sym, ◌∙◌, arith}
use Rattle.std.specs.List.{flat_map}
use Rattle.wdf_base.specs.declared.frame.Frame.{Frame}
use Rattle.wdf_model.specs.Tables.{contains, entry, first_of_list, flag, in_order, put, without}
use Rattle.wdf_model.specs.parts.Cpus.{Cpus, all_frames, parked_with, stack_of, top}
use Rattle.wdf_model.specs.parts.Cpus as cpus
use Rattle.wdf_model.proofs.Counts.{at_head, count_behind, count_cons, count_no, equal, not_equal, one_or_two}

pub same_on : (p q : ℕ → Bool) (xs : List ℕ) → ((x : ℕ) → 1 ≤ count_by (λ y. y == x) xs → q x ≡ p x) → count_by q xs ≡ count_by p xs
same_on p q [] h = refl
same_on p q (x ∷ xs) h =
    let old = count_cons p x xs in
    let new = count_cons q x xs in
    let here : flag (q x) ≡ flag (p x) = ap flag (h x (let e = at_head x x xs in let yes : flag (x == x) ≡ 1 = ap flag (equal x x refl) in omega arith)) in
    let rest : count_by q xs ≡ count_by p xs = same_on p q xs (λ y more. h y (let e = at_head y x xs in omega arith)) in
    omega arith

abbrev stacked : List (List ℕ) → List ℕ
stacked ss = flat_map (λ fs. fs) ss

stacks_put : (p : ℕ → Bool) (ss : List (List ℕ)) (cpu : ℕ) (new : List ℕ) → count_by p (stacked (put [] ss cpu new)) + count_by p (entry [] ss cpu) ≡ count_by p (stacked ss) + count_by p new
stacks_put p [] zero new = let e = count_behind p new [] in omega arith
stacks_put p [] (suc cpu) new = stacks_put p [] cpu new
stacks_put p (x ∷ xs) zero new = let e = count_behind p new (stacked xs) in let f = count_behind p x (stacked xs) in omega arith
stacks_put p (x ∷ xs) (suc cpu) new =
    let e = count_behind p x (stacked (put [] xs cpu new)) in
    let f = count_behind p x (stacked xs) in
    let rest = stacks_put p xs cpu new in
    omega arith

pub pushed : (p : ℕ → Bool) (C : Cpus) (cpu f : ℕ) (frame : Frame) (level : ℕ) → count_by p (all_frames (cpus.push C cpu f frame level)) ≡ count_by p (all_frames C) + flag (p f)
pushed p C cpu f frame level =
    let put_ = stacks_put p C.stacks cpu (f ∷ stack_of C cpu) in
    let one = count_cons p f (stack_of C cpu) in
    let new : count_by p (all_frames (cpus.push C cpu f frame level)) ≡ count_by p (stacked (put [] C.stacks cpu (f ∷ stack_of C cpu))) + count_by p C.parked = count_behind p (stacked (put [] C.stacks cpu (f ∷ stack_of C cpu))) C.parked in
    let old : count_by p (all_frames C) ≡ count_by p (stacked C.stacks) + count_by p C.parked = count_behind p (stacked C.stacks) C.parked in
    omega arith

-- the top of a stack
top_counts : (p : ℕ → Bool) (f : ℕ) (fs : List ℕ) → first_of_list fs ≡ Some f → count_by p fs ≡ flag (p f) + count_by p (drop 1 fs)
top_counts p f [] h = absurd (let z : ⊥ = cc in z)
top_counts p f (x ∷ xs) h = let same : x ≡ f = cc in count_cons p x xs ∙ ap (λ y. flag (p y) + count_by p xs) same

pub popped : (p : ℕ → Bool) (C : Cpus) (cpu f : ℕ) → top C cpu ≡ Some f → count_by p (all_frames (cpus.pop C cpu)) + flag (p f) ≡ count_by p (all_frames C)
popped p C cpu f h =
    let put_ = stacks_put p C.stacks cpu (drop 1 (stack_of C cpu)) in
    let one = top_counts p f (stack_of C cpu) h in
    let new : count_by p (all_frames (cpus.pop C cpu)) ≡ count_by p (stacked (put [] C.stacks cpu (drop 1 (stack_of C cpu)))) + count_by p C.parked = count_behind p (stacked (put [] C.stacks cpu (drop 1 (stack_of C cpu)))) C.parked in
    let old : count_by p (all_frames C) ≡ count_by p (stacked C.stacks) + count_by p C.parked = count_behind p (stacked C.stacks) C.parked in
    omega arith

ordered_by : (p : ℕ → Bool) (f x : ℕ) (xs : List ℕ) (b : Bool) → nat_lt f x ≡ b → count_by p (in_order f xs) ≡ flag (p f) + count_by p xs → count_by p (in_order f (x ∷ xs)) ≡ flag (p f) + count_by p (x ∷ xs)
ordered_by p f x xs true e rest = rw e (count_cons p f (x ∷ xs))
ordered_by p f x xs false e rest = rw e (let k = count_cons p x (in_order f xs) in let l = count_cons p x xs in omega arith)

ordered : (p : ℕ → Bool) (f : ℕ) (xs : List ℕ) → count_by p (in_order f xs) ≡ flag (p f) + count_by p xs
ordered p f [] = count_cons p f []
ordered p f (x ∷ xs) = ordered_by p f x xs (nat_lt f x) refl (ordered p f xs)

pub parks : (p : ℕ → Bool) (C : Cpus) (cpu f : ℕ) → top C cpu ≡ Some f → count_by p (all_frames (cpus.park C cpu)) ≡ count_by p (all_frames C)
parks p C cpu f h =
    let put_ = stacks_put p C.stacks cpu (drop 1 (stack_of C cpu)) in
    let one = top_counts p f (stack_of C cpu) h in
    let waits : count_by p (parked_with C (top C cpu)) ≡ flag (p f) + count_by p C.parked = ap (λ t. count_by p (parked_with C t)) h ∙ ordered p f C.parked in
    let new : count_by p (all_frames (cpus.park C cpu)) ≡ count_by p (stacked (put [] C.stacks cpu (drop 1 (stack_of C cpu)))) + count_by p (parked_with C (top C cpu)) = count_behind p (stacked (put [] C.stacks cpu (drop 1 (stack_of C cpu)))) (parked_with C (top C cpu)) in
    let old : count_by p (all_frames C) ≡ count_by p (stacked C.stacks) + count_by p C.parked = count_behind p (stacked C.stacks) C.parked in
    omega arith

absent_by : (p : ℕ → Bool) (f x : ℕ) (xs : List ℕ) (b : Bool) → (x == f) ≡ b → count_by (λ y. y == f) (x ∷ xs) ≡ 0 → (count_by (λ y. y == f) xs ≡ 0 → count_by p (without f xs) ≡ count_by p xs) → count_by p (without f (x ∷ xs)) ≡ count_by p (x ∷ xs)
absent_by p f x xs true e h rest = absurd (let k = at_head f x xs in let yes : flag (x == f) ≡ 1 = ap flag e in omega arith)
absent_by p f x xs false e h rest =
    let k = at_head f x xs in
    let same : count_by p (without f xs) ≡ count_by p xs = rest (omega arith) in
    let one = count_cons p x xs in
    let two = count_cons p x (without f xs) in
    rw e (count_cons p x (without f xs) ∙ omega arith)

absent : (p : ℕ → Bool) (f : ℕ) (xs : List ℕ) → count_by (λ y. y == f) xs ≡ 0 → count_by p (without f xs) ≡ count_by p xs
absent p f [] h = refl
absent p f (x ∷ xs) h = absent_by p f x xs (x == f) refl h (absent p f xs)

taken_by : (p : ℕ → Bool) (f x : ℕ) (xs : List ℕ) → (x ≡ f) ⊎ (x ≢ f) → count_by (λ y. y == f) (x ∷ xs) ≡ 1 → (count_by (λ y. y == f) xs ≡ 1 → count_by p xs ≡ flag (p f) + count_by p (without f xs)) → count_by p (x ∷ xs) ≡ flag (p f) + count_by p (without f (x ∷ xs))
taken_by p f x xs (inl e) h rest =
    let k = at_head f x xs in
    let yes : flag (x == f) ≡ 1 = ap flag (equal x f e) in
    let none : count_by (λ y. y == f) xs ≡ 0 = omega arith in
    count_cons p x xs ∙ ap (λ y. flag (p y) + count_by p xs) e ∙ ap (λ n. flag (p f) + n) (sym (absent p f xs none) ∙ ap (λ b. count_by p (if not b then x ∷ without f xs else without f xs)) (sym (equal x f e)))
taken_by p f x xs (inr n) h rest =
    let k = at_head f x xs in
    let no : flag (x == f) ≡ 0 = ap flag (not_equal x f n) in
    let same : count_by p xs ≡ flag (p f) + count_by p (without f xs) = rest (omega arith) in
    let one = count_cons p x xs in
    let two : count_by p (without f (x ∷ xs)) ≡ flag (p x) + count_by p (without f xs) = ap (λ b. count_by p (if not b then x ∷ without f xs else without f xs)) (not_equal x f n) ∙ count_cons p x (without f xs) in
    omega arith

taken : (p : ℕ → Bool) (f : ℕ) (xs : List ℕ) → count_by (λ y. y == f) xs ≡ 1 → count_by p xs ≡ flag (p f) + count_by p (without f xs)
taken p f [] h = absurd (omega arith)
taken p f (x ∷ xs) h = taken_by p f x xs (one_or_two x f) h (taken p f xs)

pub unparks : (p : ℕ → Bool) (C : Cpus) (cpu f : ℕ) → count_by (λ y. y == f) C.parked ≡ 1 → count_by p (all_frames (cpus.unpark C cpu f)) ≡ count_by p (all_frames C)
unparks p C cpu f h =
    let put_ = stacks_put p C.stacks cpu (f ∷ stack_of C cpu) in
    let one = count_cons p f (stack_of C cpu) in
    let waits = taken p f C.parked h in
    let new : count_by p (all_frames (cpus.unpark C cpu f)) ≡ count_by p (stacked (put [] C.stacks cpu (f ∷ stack_of C cpu))) + count_by p (without f C.parked) = count_behind p (stacked (put [] C.stacks cpu (f ∷ stack_of C cpu))) (without f C.parked) in
    let old : count_by p (all_frames C) ≡ count_by p (stacked C.stacks) + count_by p C.parked = count_behind p (stacked C.stacks) C.parked in
    omega arith

-- ---- where frames are

abbrev pub on : Cpus → ℕ → ℕ
on C f = count_by (λ x. x == f) (all_frames C)

pub none_or_some : (n : ℕ) → (n ≡ 0) ⊎ (1 ≤ n)
none_or_some zero = inl refl
none_or_some (suc n) = inr (omega arith)

pub flag_small : (b : Bool) → flag b ≤ 1
flag_small true = omega arith
flag_small false = omega arith

contained_by : (f x : ℕ) (xs : List ℕ) (b : Bool) → (x == f) ≡ b → contains f (x ∷ xs) ≡ true → (contains f xs ≡ true → 1 ≤ count_by (λ y. y == f) xs) → 1 ≤ count_by (λ y. y == f) (x ∷ xs)
contained_by f x xs true e h rest = let a = at_head f x xs in let yes : flag (x == f) ≡ 1 = ap flag e in omega arith
contained_by f x xs false e h rest = let a = at_head f x xs in let more = rest (rw e at h) in omega arith

pub contained : (f : ℕ) (xs : List ℕ) → contains f xs ≡ true → 1 ≤ count_by (λ y. y == f) xs
contained f [] h = absurd (let z : ⊥ = cc in z)
contained f (x ∷ xs) h = contained_by f x xs (x == f) refl h (contained f xs)

listed_by : (r x : ℕ) (xs : List ℕ) (b : Bool) → (x == r) ≡ b → 1 ≤ count_by (λ y. y == r) (x ∷ xs) → (1 ≤ count_by (λ y. y == r) xs → contains r xs ≡ true) → contains r (x ∷ xs) ≡ true
listed_by r x xs true e h rest = rw e refl
listed_by r x xs false e h rest = rw e (rest (let k = count_no (λ y. y == r) x xs e in omega arith))

pub listed : (r : ℕ) (xs : List ℕ) → 1 ≤ count_by (λ y. y == r) xs → contains r xs ≡ true
listed r [] h = absurd (omega arith)
listed r (x ∷ xs) h = listed_by r x xs (x == r) refl h (listed r xs)

pub parked_once : (C : Cpus) (f : ℕ) → on C f ≤ 1 → contains f C.parked ≡ true → count_by (λ y. y == f) C.parked ≡ 1
parked_once C f once h =
    let more = contained f C.parked h in
    let all : on C f ≡ count_by (λ y. y == f) (flat_map (λ (fs : List ℕ). fs) C.stacks) + count_by (λ y. y == f) C.parked = count_behind (λ y. y == f) (flat_map (λ (fs : List ℕ). fs) C.stacks) C.parked in
    omega arith

-- a frame of which a test holds is counted
pub seen : (p : ℕ → Bool) (x : ℕ) (xs : List ℕ) → 1 ≤ count_by (λ y. y == x) xs → p x ≡ true → 1 ≤ count_by p xs
seen p x [] h k = absurd (omega arith)
seen p x (y ∷ ys) h k = elim (one_or_two y x) [
  | inl e ↦ let yes : flag (p y) ≡ 1 = ap (λ z. flag (p z)) e ∙ ap flag k in let c = count_cons p y ys in omega arith
  | inr n ↦ let no : flag (y == x) ≡ 0 = ap flag (not_equal y x n) in let a = at_head x y ys in let c = count_cons p y ys in let rest = seen p x ys (omega arith) k in omega arith
]
