-- How often something is in a list, after the changes that lines and targets make.
use Rattle.std.proofs.Common.{if◌then◌else◌, ◌⊎◌, inl, inr, nat_lt, ◌≡◌, ◌≢◌, ℕ, zero, suc, ◌+◌, ◌==◌, ◌≤◌, Bool, true, false, not, ◌&&◌, List, [], ◌∷◌, ◌++◌, Some, None, map, filter, find, drop, count_by, refl, ap, sym, ◌∙◌, arith}
use Rattle.std.specs.List.{flat_map}
use Rattle.std.proofs.lemmas.List.Sums.{sum_by-append}
use Rattle.std.proofs.lemmas.Bool.{cases_Bool, eq-eqb, eqb-true, false_from_ne_true}
use Rattle.wdf_base.specs.declared.value.Status.{Status}
use Rattle.wdf_model.specs.declared.entries.Sending.{Sending}
use Rattle.wdf_model.specs.Tables.{entry, first_of_list, without, flag, same_id}
use Rattle.wdf_model.specs.parts.Targets.{Target, done_sending, is_forgotten_sending, no_target, sending_in_order}
use Rattle.wdf_model.proofs.Tests.{both_left, not_false, not_true}

-- ---- in general

flag_is : (b : Bool) → 0 + (if b then 1 else 0) ≡ flag b
flag_is true = refl
flag_is false = refl

pub count_of_one : {T : Type 0} (p : T → Bool) (x : T) → count_by p (x ∷ []) ≡ flag (p x)
count_of_one p x = flag_is (p x)

pub count_behind : {T : Type 0} (p : T → Bool) (xs ys : List T) → count_by p (xs ++ ys) ≡ count_by p xs + count_by p ys
count_behind p xs ys = sum_by-append (λ x. if p x then 1 else 0) xs ys

pub count_cons : {T : Type 0} (p : T → Bool) (x : T) (xs : List T) → count_by p (x ∷ xs) ≡ flag (p x) + count_by p xs
count_cons p x xs = count_behind p (x ∷ []) xs ∙ ap (λ n. n + count_by p xs) (count_of_one p x)

-- one more that passes, or that doesn't
pub count_yes : {T : Type 0} (p : T → Bool) (x : T) (xs : List T) → p x ≡ true → count_by p (x ∷ xs) ≡ suc (count_by p xs)
count_yes p x xs h = let e : count_by p (x ∷ xs) ≡ flag (p x) + count_by p xs = count_cons p x xs in let f : flag (p x) ≡ 1 = rw h refl in omega arith

pub count_no : {T : Type 0} (p : T → Bool) (x : T) (xs : List T) → p x ≡ false → count_by p (x ∷ xs) ≡ count_by p xs
count_no p x xs h = let e : count_by p (x ∷ xs) ≡ flag (p x) + count_by p xs = count_cons p x xs in let f : flag (p x) ≡ 0 = rw h refl in omega arith

-- what is filtered away isn't counted
filter_kept_by : {T : Type 0} (p keep : T → Bool) (x : T) (xs : List T) (b : Bool) → keep x ≡ b → (keep x ≡ false → p x ≡ false) → count_by p (filter keep xs) ≡ count_by p xs
    → count_by p (filter keep (x ∷ xs)) ≡ count_by p (x ∷ xs)
filter_kept_by p keep x xs true k h rest =
    rw k (let e = count_cons p x (filter keep xs) in let f = count_cons p x xs in omega arith)
filter_kept_by p keep x xs false k h rest = rw k (rest ∙ sym (count_no p x xs (h k)))

pub filter_kept : {T : Type 0} (p keep : T → Bool) → ((x : T) → keep x ≡ false → p x ≡ false) → (xs : List T) → count_by p (filter keep xs) ≡ count_by p xs
filter_kept p keep h [] = refl
filter_kept p keep h (x ∷ xs) = filter_kept_by p keep x xs (keep x) refl (h x) (filter_kept p keep h xs)

filter_none_by : {T : Type 0} (p keep : T → Bool) (x : T) (xs : List T) (b : Bool) → keep x ≡ b → (keep x ≡ true → p x ≡ false) → count_by p (filter keep xs) ≡ 0
    → count_by p (filter keep (x ∷ xs)) ≡ 0
filter_none_by p keep x xs true k h rest = rw k (count_no p x (filter keep xs) (h k) ∙ rest)
filter_none_by p keep x xs false k h rest = rw k rest

pub filter_none : {T : Type 0} (p keep : T → Bool) → ((x : T) → keep x ≡ true → p x ≡ false) → (xs : List T) → count_by p (filter keep xs) ≡ 0
filter_none p keep h [] = refl
filter_none p keep h (x ∷ xs) = filter_none_by p keep x xs (keep x) refl (h x) (filter_none p keep h xs)

filter_less_by : {T : Type 0} (p keep : T → Bool) (x : T) (xs : List T) (b : Bool) → keep x ≡ b → count_by p (filter keep xs) ≤ count_by p xs
    → count_by p (filter keep (x ∷ xs)) ≤ count_by p (x ∷ xs)
filter_less_by p keep x xs true k rest = rw k (let e = count_cons p x (filter keep xs) in let f = count_cons p x xs in omega arith)
filter_less_by p keep x xs false k rest = rw k (let f = count_cons p x xs in omega arith)

pub filter_less : {T : Type 0} (p keep : T → Bool) (xs : List T) → count_by p (filter keep xs) ≤ count_by p xs
filter_less p keep [] = omega arith
filter_less p keep (x ∷ xs) = filter_less_by p keep x xs (keep x) refl (filter_less p keep xs)

-- a change that the test doesn't see
pub count_mapped : {T : Type 0} (p : T → Bool) (g : T → T) → ((x : T) → p (g x) ≡ p x) → (xs : List T) → count_by p (map g xs) ≡ count_by p xs
count_mapped p g h [] = refl
count_mapped p g h (x ∷ xs) =
    let e = count_cons p (g x) (map g xs) in
    let f = count_cons p x xs in
    let k : flag (p (g x)) ≡ flag (p x) = ap flag (h x) in
    let rest : count_by p (map g xs) ≡ count_by p xs = count_mapped p g h xs in
    omega arith

none_found_by : {T : Type 0} (p : T → Bool) (x : T) (xs : List T) (b : Bool) → p x ≡ b → count_by p (x ∷ xs) ≡ 0 → (count_by p xs ≡ 0 → find p xs ≡ None)
    → find p (x ∷ xs) ≡ None
none_found_by p x xs true e h rest = absurd (let k = count_yes p x xs e in omega arith)
none_found_by p x xs false e h rest = rw e (rest (let k = count_no p x xs e in omega arith))

pub none_found : {T : Type 0} (p : T → Bool) (xs : List T) → count_by p xs ≡ 0 → find p xs ≡ None
none_found p [] h = refl
none_found p (x ∷ xs) h = none_found_by p x xs (p x) refl h (none_found p xs)

find_in_either_by : {T : Type 0} (p : T → Bool) (x : T) (xs ys : List T) (b : Bool) → p x ≡ b → find p (x ∷ xs) ≡ None → (find p xs ≡ None → find p (xs ++ ys) ≡ find p ys)
    → find p ((x ∷ xs) ++ ys) ≡ find p ys
find_in_either_by p x xs ys true e h rest = absurd (let k : Some x ≡ None = rw e at h in let z : ⊥ = cc in z)
find_in_either_by p x xs ys false e h rest = rw e (rest (rw e at h))

-- what the first list doesn't have is found in the second
pub find_behind : {T : Type 0} (p : T → Bool) (xs ys : List T) → find p xs ≡ None → find p (xs ++ ys) ≡ find p ys
find_behind p [] ys h = refl
find_behind p (x ∷ xs) ys h = find_in_either_by p x xs ys (p x) refl h (find_behind p xs ys)

find_front_by : {T : Type 0} (p : T → Bool) (x : T) (xs ys : List T) (b : Bool) → p x ≡ b → (find p ys ≡ None → find p (xs ++ ys) ≡ find p xs) → find p ys ≡ None
    → find p ((x ∷ xs) ++ ys) ≡ find p (x ∷ xs)
find_front_by p x xs ys true e rest h = rw e refl
find_front_by p x xs ys false e rest h = rw e (rest h)

-- what the second list doesn't have is found in the first
pub find_front : {T : Type 0} (p : T → Bool) (xs ys : List T) → find p ys ≡ None → find p (xs ++ ys) ≡ find p xs
find_front p [] ys h = h
find_front p (x ∷ xs) ys h = find_front_by p x xs ys (p x) refl (find_front p xs ys) h

-- ---- ids

-- ids that aren't one
pub not_equal : (x y : ℕ) → x ≢ y → (x == y) ≡ false
not_equal x y h = false_from_ne_true (x == y) (λ e. h (eqb-true x y e))

pub equal : (x y : ℕ) → x ≡ y → (x == y) ≡ true
equal x y h = eq-eqb x y h

-- what is one id isn't another
pub differs : (x y z : ℕ) → (x == y) ≡ true → y ≢ z → (x == z) ≡ false
differs x y z h n = not_equal x z (λ e. n (sym (eqb-true x y h) ∙ e))

-- two ids are one, or they aren't
pub one_or_two : (x y : ℕ) → (x ≡ y) ⊎ (x ≢ y)
one_or_two x y =
    elim (cases_Bool (x == y)) [
      | inl e ↦ inl (eqb-true x y e)
      | inr e ↦ inr (λ same. let yes : (x == y) ≡ true = eq-eqb x y same in let z : ⊥ = cc in z)
    ]

-- ---- lines

pub at_tail : (r y : ℕ) (xs : List ℕ) → count_by (λ x. x == r) (xs ++ y ∷ []) ≡ count_by (λ x. x == r) xs + flag (y == r)
at_tail r y xs = count_behind (λ x. x == r) xs (y ∷ []) ∙ ap (λ n. count_by (λ x. x == r) xs + n) (count_of_one (λ x. x == r) y)

pub at_head : (r y : ℕ) (xs : List ℕ) → count_by (λ x. x == r) (y ∷ xs) ≡ flag (y == r) + count_by (λ x. x == r) xs
at_head r y xs = count_cons (λ x. x == r) y xs

-- the front leaves
pub front_leaves : (r y : ℕ) (xs : List ℕ) → same_id (first_of_list xs) y ≡ true → count_by (λ x. x == r) xs ≡ flag (y == r) + count_by (λ x. x == r) (drop 1 xs)
front_leaves r y [] h = absurd (let z : ⊥ = cc in z)
front_leaves r y (x ∷ xs) h = let same : x ≡ y = eqb-true x y h in rw (← same) (count_cons (λ z. z == r) x xs)

-- one leaves, wherever it is
pub it_leaves : (r : ℕ) (xs : List ℕ) → count_by (λ x. x == r) (without r xs) ≡ 0
it_leaves r xs = filter_none (λ x. x == r) (λ x. not (x == r)) (λ x h. not_true (x == r) h) xs

pub others_stay : (r y : ℕ) (xs : List ℕ) → y ≢ r → count_by (λ x. x == r) (without y xs) ≡ count_by (λ x. x == r) xs
others_stay r y xs n = filter_kept (λ x. x == r) (λ x. not (x == y)) (λ x h. differs x y r (not_false (x == y) h) n) xs

-- ---- sendings

sent_before : (p : Sending → Bool) (s x : Sending) (xs : List Sending) (b : Bool) → nat_lt s.request.0 x.request.0 ≡ b
    → count_by p (sending_in_order s xs) ≡ flag (p s) + count_by p xs → count_by p (sending_in_order s (x ∷ xs)) ≡ flag (p s) + count_by p (x ∷ xs)
sent_before p s x xs true e rest = rw e (count_cons p s (x ∷ xs))
sent_before p s x xs false e rest =
    rw e (let k = count_cons p x (sending_in_order s xs) in let l = count_cons p x xs in omega arith)

pub one_is_sent : (p : Sending → Bool) (s : Sending) (xs : List Sending) → count_by p (sending_in_order s xs) ≡ flag (p s) + count_by p xs
one_is_sent p s [] = count_cons p s []
one_is_sent p s (x ∷ xs) = sent_before p s x xs (nat_lt s.request.0 x.request.0) refl (one_is_sent p s xs)

pub it_comes_back : (r : ℕ) (xs : List Sending) → count_by (λ s. s.request.0 == r) (filter (λ s. not (s.request.0 == r)) xs) ≡ 0
it_comes_back r xs = filter_none (λ s. s.request.0 == r) (λ s. not (s.request.0 == r)) (λ s h. not_true (s.request.0 == r) h) xs

pub others_stay_sent : (p : Sending → Bool) (y : ℕ) (xs : List Sending) → ((s : Sending) → (s.request.0 == y) ≡ true → p s ≡ false)
    → count_by p (filter (λ s. not (s.request.0 == y)) xs) ≡ count_by p xs
others_stay_sent p y xs h = filter_kept p (λ s. not (s.request.0 == y)) (λ s e. h s (not_false (s.request.0 == y) e)) xs

-- what is left of a request's sendings where its target is done with it
abbrev pub left_over : ℕ → Status → List Sending → List Sending
left_over r status xs = filter (λ s. not (s.request.0 == r && s.forgotten)) (map (done_sending r status) xs)

done_asks_by : (r : ℕ) (status : Status) (s : Sending) (b : Bool) → (s.request.0 == r) ≡ b → ((done_sending r status s).request.0 ≡ s.request.0) × ((done_sending r status s).forgotten ≡ s.forgotten)
done_asks_by r status s true e = rw e (refl, refl)
done_asks_by r status s false e = rw e (refl, refl)

-- the target's status changes neither the request nor whether it is forgotten
pub done_asks : (r : ℕ) (status : Status) (s : Sending) → ((done_sending r status s).request.0 ≡ s.request.0) × ((done_sending r status s).forgotten ≡ s.forgotten)
done_asks r status s = done_asks_by r status s (s.request.0 == r) refl

-- of the other requests
pub others_left : (p : Sending → Bool) (y : ℕ) (status : Status) (xs : List Sending) → ((s : Sending) → p (done_sending y status s) ≡ p s)
    → ((s : Sending) → (s.request.0 == y) ≡ true → p s ≡ false) → count_by p (left_over y status xs) ≡ count_by p xs
others_left p y status xs same h =
    filter_kept p (λ s. not (s.request.0 == y && s.forgotten)) (λ s e. h s (both_left (s.request.0 == y) s.forgotten (not_false (s.request.0 == y && s.forgotten) e))) (map (done_sending y status) xs)
    ∙ count_mapped p (done_sending y status) same xs

pub less_left : (p : Sending → Bool) (y : ℕ) (status : Status) (xs : List Sending) → ((s : Sending) → p (done_sending y status s) ≡ p s) → count_by p (left_over y status xs) ≤ count_by p xs
less_left p y status xs same =
    let e = filter_less p (λ s. not (s.request.0 == y && s.forgotten)) (map (done_sending y status) xs) in
    let k : count_by p (map (done_sending y status) xs) ≡ count_by p xs = count_mapped p (done_sending y status) same xs in
    omega arith

pub by_request : (r y : ℕ) (status : Status) (s : Sending) → ((done_sending y status s).request.0 == r) ≡ (s.request.0 == r)
by_request r y status s = ap (λ n. n == r) (done_asks y status s).0

-- the one sending of a request is kept exactly if it isn't forgotten
kept_by_forgotten : (r : ℕ) (status : Status) (x : Sending) (xs : List Sending) (b : Bool) → (x.request.0 == r) ≡ true → x.forgotten ≡ b
    → count_by (λ s. s.request.0 == r) xs ≡ 0 → count_by (λ s. s.request.0 == r) (left_over r status (x ∷ xs)) ≡ flag (not b)
kept_by_forgotten r status x xs true e f none =
    let gone : (not ((done_sending r status x).request.0 == r && (done_sending r status x).forgotten)) ≡ false = rw ((done_asks r status x).0, (done_asks r status x).1, e, f) refl in
    rw gone (let less = less_left (λ s. s.request.0 == r) r status xs (by_request r r status) in omega arith)
kept_by_forgotten r status x xs false e f none =
    let stays : (not ((done_sending r status x).request.0 == r && (done_sending r status x).forgotten)) ≡ true = rw ((done_asks r status x).0, (done_asks r status x).1, e, f) refl in
    let one : ((done_sending r status x).request.0 == r) ≡ true = by_request r r status x ∙ e in
    rw stays (let less = less_left (λ s. s.request.0 == r) r status xs (by_request r r status) in let k = count_yes (λ s. s.request.0 == r) (done_sending r status x) (left_over r status xs) one in omega arith)

one_left_by : (r : ℕ) (status : Status) (x : Sending) (xs : List Sending) (b : Bool) → (x.request.0 == r) ≡ b → count_by (λ s. s.request.0 == r) (x ∷ xs) ≡ 1
    → (count_by (λ s. s.request.0 == r) xs ≡ 1 → count_by (λ s. s.request.0 == r) (left_over r status xs) ≡ flag (not (is_forgotten_sending (find (λ s. s.request.0 == r) xs))))
    → count_by (λ s. s.request.0 == r) (left_over r status (x ∷ xs)) ≡ flag (not (is_forgotten_sending (find (λ s. s.request.0 == r) (x ∷ xs))))
one_left_by r status x xs true e h rest =
    let none : count_by (λ s. s.request.0 == r) xs ≡ 0 = let k = count_yes (λ s. s.request.0 == r) x xs e in omega arith in
    let found : is_forgotten_sending (find (λ s. s.request.0 == r) (x ∷ xs)) ≡ x.forgotten = rw e refl in
    rw found (kept_by_forgotten r status x xs x.forgotten e refl none)
one_left_by r status x xs false e h rest =
    let one : count_by (λ s. s.request.0 == r) xs ≡ 1 = let k = count_no (λ s. s.request.0 == r) x xs e in omega arith in
    let found : is_forgotten_sending (find (λ s. s.request.0 == r) (x ∷ xs)) ≡ is_forgotten_sending (find (λ s. s.request.0 == r) xs) = rw e refl in
    let stays : (not ((done_sending r status x).request.0 == r && (done_sending r status x).forgotten)) ≡ true = rw ((done_asks r status x).0, e) refl in
    let other : ((done_sending r status x).request.0 == r) ≡ false = by_request r r status x ∙ e in
    rw (found, stays) (count_no (λ s. s.request.0 == r) (done_sending r status x) (left_over r status xs) other ∙ rest one)

pub one_left : (r : ℕ) (status : Status) (xs : List Sending) → count_by (λ s. s.request.0 == r) xs ≡ 1
    → count_by (λ s. s.request.0 == r) (left_over r status xs) ≡ flag (not (is_forgotten_sending (find (λ s. s.request.0 == r) xs)))
one_left r status [] h = absurd (omega arith)
one_left r status (x ∷ xs) h = one_left_by r status x xs (x.request.0 == r) refl h (one_left r status xs)

-- where the other targets don't have a request, it is found at its own
pub found_nowhere : (r : ℕ) (ts : List Target) → ((t : ℕ) → count_by (λ s. s.request.0 == r) (entry no_target ts t).sent ≡ 0)
    → find (λ s. s.request.0 == r) (flat_map (λ t. t.sent) ts) ≡ None
found_nowhere r [] h = refl
found_nowhere r (x ∷ ts) h =
    find_behind (λ s. s.request.0 == r) x.sent (flat_map (λ t. t.sent) ts) (none_found (λ s. s.request.0 == r) x.sent (h 0)) ∙ found_nowhere r ts (λ t. h (suc t))

pub found_at_its_target : (r : ℕ) (ts : List Target) (t : ℕ) → ((u : ℕ) → u ≢ t → count_by (λ s. s.request.0 == r) (entry no_target ts u).sent ≡ 0)
    → find (λ s. s.request.0 == r) (flat_map (λ x. x.sent) ts) ≡ find (λ s. s.request.0 == r) (entry no_target ts t).sent
found_at_its_target r [] t h = refl
found_at_its_target r (x ∷ ts) zero h =
    find_front (λ s. s.request.0 == r) x.sent (flat_map (λ y. y.sent) ts) (found_nowhere r ts (λ u. h (suc u) (λ e. let z : ⊥ = cc in z)))
found_at_its_target r (x ∷ ts) (suc t) h =
    find_behind (λ s. s.request.0 == r) x.sent (flat_map (λ y. y.sent) ts) (none_found (λ s. s.request.0 == r) x.sent (h 0 (λ e. let z : ⊥ = cc in z)))
    ∙ found_at_its_target r ts t (λ u n. h (suc u) (λ e. n (let k : u ≡ t = omega arith in k)))

-- ---- what a count says

pub flag_yes : (b : Bool) (n : ℕ) → flag b ≡ suc n → b ≡ true
flag_yes true n h = refl
flag_yes false n h = absurd (omega arith)

forgotten_by : (r : ℕ) (x : Sending) (xs : List Sending) (b : Bool) → (x.request.0 == r) ≡ b → is_forgotten_sending (find (λ s. s.request.0 == r) (x ∷ xs)) ≡ true
    → (is_forgotten_sending (find (λ s. s.request.0 == r) xs) ≡ true → 1 ≤ count_by (λ s. s.request.0 == r && s.forgotten) xs)
    → 1 ≤ count_by (λ s. s.request.0 == r && s.forgotten) (x ∷ xs)
forgotten_by r x xs true e h rest =
    let f : x.forgotten ≡ true = rw e at h in
    let yes : (x.request.0 == r && x.forgotten) ≡ true = rw (e, f) refl in
    let k = count_yes (λ s. s.request.0 == r && s.forgotten) x xs yes in omega arith
forgotten_by r x xs false e h rest =
    let k = count_cons (λ s. s.request.0 == r && s.forgotten) x xs in
    let l = rest (rw e at h) in omega arith

-- a request that is found forgotten is one that doesn't come back
pub forgotten_counts : (r : ℕ) (xs : List Sending) → is_forgotten_sending (find (λ s. s.request.0 == r) xs) ≡ true → 1 ≤ count_by (λ s. s.request.0 == r && s.forgotten) xs
forgotten_counts r [] h = absurd (let z : ⊥ = cc in z)
forgotten_counts r (x ∷ xs) h = forgotten_by r x xs (x.request.0 == r) refl h (forgotten_counts r xs)

flag_both : (a b : Bool) → flag (a && b) ≤ flag a
flag_both true true = omega arith
flag_both true false = omega arith
flag_both false b = omega arith

-- what passes two tests is not more than what passes the first
pub both_fewer : {T : Type 0} (p q : T → Bool) (xs : List T) → count_by (λ x. p x && q x) xs ≤ count_by p xs
both_fewer p q [] = omega arith
both_fewer p q (x ∷ xs) =
    let rest = both_fewer p q xs in
    let here = count_cons (λ y. p y && q y) x xs in
    let there = count_cons p x xs in
    let less = flag_both (p x) (q x) in
    omega arith
