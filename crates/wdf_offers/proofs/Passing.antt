-- What a search has passed: of the places of a group, and of pieces that follow one another.
use Rattle.std.proofs.Common.{Bool, true, false, ℕ, zero, suc, ◌≡◌, ◌+◌, ◌-◌, ◌<◌, ◌≤◌, List, [], ◌∷◌, ◌++◌, length, drop, Option, Some, None, position, refl, sym, ap, subst, ◌∙◌, arith, length-append, append_assoc, append-nil, slice_get, get_or, is_some, nat_lt}
use Rattle.std.proofs.lemmas.Bool.{le-ltb, lt-ltb, ltb-true, ltb-false}
use Rattle.std.specs.List.{flat_map, position_or_len}
use Rattle.wdf_base.specs.Meaning.{Meaning}
use Rattle.wdf_base.specs.declared.event.Event.{Event}
use Rattle.wdf_base.specs.declared.plan.Plan.{Plan}
use Rattle.wdf_model.specs.declared.enums.Group.{Group}
use Rattle.wdf_model.specs.State.{State}
use Rattle.wdf_offers.specs.Search.{HasNone, IsFirst, NoneBefore, Skips, offered, offered_from}
use Rattle.wdf_offers.proofs.Places.{found, passed}

-- a list is what was passed, so many of it, and the rest
pub record Passed {T : Type 0} (all rest : List T) (count : ℕ) : Type 0 where
  pub front : List T
  pub is : all ≡ front ++ rest
  pub counts : length front ≡ count

pub nothing_passed : {T : Type 0} (all : List T) → Passed all all 0
nothing_passed all = record { front = []; is = refl; counts = refl }

pub same_rest : {T : Type 0} (all rest other : List T) (count : ℕ) → rest ≡ other → Passed all rest count → Passed all other count
same_rest all rest other count e k = record { front = k.front; is = k.is ∙ ap (λ xs. k.front ++ xs) e; counts = k.counts }

-- some more are passed
pub more_passed : {T : Type 0} (all some rest : List T) (count : ℕ) → Passed all (some ++ rest) count → Passed all rest (count + length some)
more_passed all some rest count k = record {
  front = k.front ++ some;
  is = k.is ∙ sym (append_assoc k.front some rest);
  counts = let c = k.counts in omega (arith, length-append k.front some);
}

pub one_passed : {T : Type 0} (all : List T) (x : T) (rest : List T) (count : ℕ) → Passed all (x ∷ rest) count → Passed all rest (count + 1)
one_passed all x rest count k = more_passed all (x ∷ []) rest count k

pub all_passed : {T : Type 0} (all : List T) (count : ℕ) → Passed all [] count → length all ≡ count
all_passed all count k = ap length (k.is ∙ append-nil k.front) ∙ k.counts

at_front : {T : Type 0} (front rest : List T) (k : ℕ) → slice_get (front ++ rest) (length front + k) ≡ slice_get rest k
at_front [] rest k = let e : 0 + k ≡ k = omega arith in rw e refl
at_front (x ∷ front) rest k = let e : suc (length front) + k ≡ suc (length front + k) = omega arith in rw e (at_front front rest k)

-- what is at a place of the rest is so much further in the whole
pub at_rest : {T : Type 0} (all rest : List T) (count k j : ℕ) → Passed all rest count → count + k ≡ j → slice_get all j ≡ slice_get rest k
at_rest all rest count k j p e =
    let c = p.counts in
    let place : j ≡ length p.front + k = omega arith in
    rw place (ap (λ xs. slice_get xs (length p.front + k)) p.is ∙ at_front p.front rest k)

pub beyond : {T : Type 0} (all : List T) (count left j : ℕ) → Passed all [] count → count + left ≡ j → slice_get all j ≡ None
beyond all count left j p e = at_rest all [] count left j p e

-- ---- the places of a group

module _ {A : Type 0} (plan : Plan) (m : Meaning A) (S : State A) (group : Group) (all : List Event) where
  pub passes : (at place count : ℕ) → Passed all (offered_from plan m S group at) count → Skips plan m S group at place → offered plan m S group place ≡ None
      → Passed all (offered_from plan m S group (place + 1)) count
  passes at place count p k none = same_rest all (offered_from plan m S group at) (offered_from plan m S group (place + 1)) count (k.passed ∙ passed plan m S group place k.within none) p

  opens : (at place : ℕ) (e : Event) → Skips plan m S group at place → Some e ≡ offered plan m S group place → offered_from plan m S group at ≡ e ∷ offered_from plan m S group (place + 1)
  opens at place e k here = k.passed ∙ found plan m S group place e k.within here

  pub takes : (at place count : ℕ) (e : Event) → Passed all (offered_from plan m S group at) count → Skips plan m S group at place → Some e ≡ offered plan m S group place
      → Passed all (offered_from plan m S group (place + 1)) (count + 1)
  takes at place count e p k here =
      one_passed all e (offered_from plan m S group (place + 1)) count
      (same_rest all (offered_from plan m S group at) (e ∷ offered_from plan m S group (place + 1)) count (opens at place e k here) p)

  pub hits : (at place count : ℕ) (e : Event) → Passed all (offered_from plan m S group at) count → Skips plan m S group at place → Some e ≡ offered plan m S group place → slice_get all count ≡ Some e
  hits at place count e p k here =
      at_rest all (offered_from plan m S group at) count 0 count p (omega arith) ∙ ap (λ xs. slice_get xs 0) (opens at place e k here)

-- ---- pieces

in_first : {T : Type 0} (xs ys : List T) (k : ℕ) (e : T) → slice_get xs k ≡ Some e → slice_get (xs ++ ys) k ≡ Some e
in_first [] ys k e h = absurd (let z : ⊥ = cc in z)
in_first (x ∷ xs) ys zero e h = h
in_first (x ∷ xs) ys (suc k) e h = in_first xs ys k e h

drop_opens : {T : Type 0} (xs : List T) (i : ℕ) (x : T) → slice_get xs i ≡ Some x → drop i xs ≡ x ∷ drop (i + 1) xs
drop_opens [] i x e = absurd (let z : ⊥ = cc in z)
drop_opens (y ∷ ys) zero x e = let same : y ≡ x = cc in ap (λ z. z ∷ ys) same
drop_opens (y ∷ ys) (suc i) x e = let s : suc i + 1 ≡ suc (i + 1) = omega arith in rw s (drop_opens ys i x e)

pub drops_all : {T : Type 0} (xs : List T) (i : ℕ) → length xs ≤ i → drop i xs ≡ []
drops_all [] zero h = refl
drops_all [] (suc i) h = refl
drops_all (x ∷ xs) zero h = absurd (omega arith)
drops_all (x ∷ xs) (suc i) h = drops_all xs i (omega arith)

-- a list is made of pieces, one for each item
module _ {X T : Type 0} (f : X → List T) (xs : List X) where
  -- the next piece opens what is left
  pub piece_opens : (i : ℕ) (x : X) → slice_get xs i ≡ Some x → flat_map f (drop i xs) ≡ f x ++ flat_map f (drop (i + 1) xs)
  piece_opens i x e = ap (flat_map f) (drop_opens xs i x e)

  -- past the last item no piece is left
  pub no_piece : (i : ℕ) → length xs ≤ i → flat_map f (drop i xs) ≡ []
  no_piece i past = ap (flat_map f) (drops_all xs i past)

  module _ (all : List T) where
    pub piece_next : (i count : ℕ) (x : X) → slice_get xs i ≡ Some x → Passed all (flat_map f (drop i xs)) count → Passed all (f x ++ flat_map f (drop (i + 1) xs)) count
    piece_next i count x e p = same_rest all (flat_map f (drop i xs)) (f x ++ flat_map f (drop (i + 1) xs)) count (piece_opens i x e) p

    pub piece_passes : (i count : ℕ) (x : X) → slice_get xs i ≡ Some x → Passed all (flat_map f (drop i xs)) count → Passed all (flat_map f (drop (i + 1) xs)) (count + length (f x))
    piece_passes i count x e p = more_passed all (f x) (flat_map f (drop (i + 1) xs)) count (piece_next i count x e p)

    -- so many more, as many as the next piece has
    pub so_many_pass : (i count n : ℕ) (x : X) → slice_get xs i ≡ Some x → n ≡ length (f x) → Passed all (flat_map f (drop i xs)) count → Passed all (flat_map f (drop (i + 1) xs)) (count + n)
    so_many_pass i count n x e many p = subst (λ k. Passed all (flat_map f (drop (i + 1) xs)) (count + k)) (sym many) (piece_passes i count x e p)

    -- of so many places those that the next piece doesn't have are left
    pub piece_left : (i left k rest : ℕ) (x : X) → slice_get xs i ≡ Some x → Passed all (flat_map f (drop i xs)) (k - left) → left ≤ k → length (f x) + rest ≡ left
        → Passed all (flat_map f (drop (i + 1) xs)) (k - rest)
    piece_left i left k rest x at p few e =
        let count : k - left + length (f x) ≡ k - rest = omega arith in
        subst (λ n. Passed all (flat_map f (drop (i + 1) xs)) n) count (piece_passes i (k - left) x at p)

    -- what is at a place of the next piece is so much further in the whole
    pub piece_at : (i count left k : ℕ) (x : X) (e : T) → slice_get xs i ≡ Some x → Passed all (flat_map f (drop i xs)) count → count + left ≡ k → slice_get (f x) left ≡ Some e → slice_get all k ≡ Some e
    piece_at i count left k x e at p is here =
        at_rest all (f x ++ flat_map f (drop (i + 1) xs)) count left k
        (piece_next i count x at p) is
        ∙ in_first (f x) (flat_map f (drop (i + 1) xs)) left e here

    -- past the last item all pieces are passed
    pub pieces_passed : (i count : ℕ) → length xs ≤ i → Passed all (flat_map f (drop i xs)) count → Passed all [] count
    pieces_passed i count past p = same_rest all (flat_map f (drop i xs)) [] count (no_piece i past) p

pub index_there : {T : Type 0} (xs : List T) (i : ℕ) (d : T) → i < length xs → slice_get xs i ≡ Some (get_or xs i d)
index_there [] i d h = absurd (omega arith)
index_there (x ∷ xs) zero d h = refl
index_there (x ∷ xs) (suc i) d h = index_there xs i d (omega arith)

-- ---- whether a place offers

pub offers : {T : Type 0} (o p : Option T) → o ≡ p → is_some o ≡ true → (e : T) × (Some e ≡ p)
offers None p e h = absurd (let z : ⊥ = cc in z)
offers (Some x) p e h = (x, e)

pub offers_none : {T : Type 0} (o p : Option T) → o ≡ p → is_some o ≡ false → p ≡ None
offers_none None p e h = sym e
offers_none (Some x) p e h = absurd (let z : ⊥ = cc in z)

-- ---- the first item of a kind

within : {T : Type 0} (xs : List T) (k : ℕ) (e : T) → slice_get xs k ≡ Some e → k < length xs
within [] k e h = absurd (let z : ⊥ = cc in z)
within (x ∷ xs) zero e h = omega arith
within (x ∷ xs) (suc k) e h = let below = within xs k e h in omega arith

first_place : {T : Type 0} (test : T → Bool) (xs : List T) (k : ℕ) (e : T) → NoneBefore test xs k → slice_get xs k ≡ Some e → test e ≡ true → position_or_len test xs ≡ k
first_place test [] k e none at passes = absurd (let z : ⊥ = cc in z)
first_place test (x ∷ xs) zero e none at passes = let same : x ≡ e = cc in rw (same, passes) refl
first_place test (x ∷ xs) (suc k) e none at passes = let rest = first_place test xs k e (λ j y h i. none (suc j) y (omega arith) i) at passes in rw (none 0 x (omega arith) refl) (omega arith)

pub first_at : {T : Type 0} (test : T → Bool) (xs : List T) (k : ℕ) (e : T) → NoneBefore test xs k → slice_get xs k ≡ Some e → test e ≡ true → position test xs ≡ Some k
first_at test xs k e none at passes = rw (first_place test xs k e none at passes, lt-ltb k (length xs) (within xs k e at)) refl

no_place : {T : Type 0} (test : T → Bool) (xs : List T) (k : ℕ) → length xs ≤ k → NoneBefore test xs k → position_or_len test xs ≡ length xs
no_place test [] k h none = refl
no_place test (x ∷ xs) zero h none = absurd (omega arith)
no_place test (x ∷ xs) (suc k) h none = let rest = no_place test xs k (omega arith) (λ j y b i. none (suc j) y (omega arith) i) in rw (none 0 x (omega arith) refl) (omega arith)

pub none_at : {T : Type 0} (test : T → Bool) (xs : List T) (k : ℕ) → length xs ≤ k → NoneBefore test xs k → position test xs ≡ None
none_at test xs k h none = rw (no_place test xs k h none, le-ltb (length xs) (length xs) (omega arith)) refl

next_fails_by : {T : Type 0} (test : T → Bool) (xs : List T) (k j : ℕ) (x : T) (c : Bool) → nat_lt j k ≡ c → NoneBefore test xs k → ((y : T) → slice_get xs k ≡ Some y → test y ≡ false)
    → j < k + 1 → slice_get xs j ≡ Some x → test x ≡ false
next_fails_by test xs k j x true c none here h at = none j x (ltb-true j k c) at
next_fails_by test xs k j x false c none here h at = let above = ltb-false j k c in let same : j ≡ k = omega arith in here x (ap (slice_get xs) (sym same) ∙ at)

pub next_fails : {T : Type 0} (test : T → Bool) (xs : List T) (k : ℕ) → NoneBefore test xs k → ((y : T) → slice_get xs k ≡ Some y → test y ≡ false) → NoneBefore test xs (k + 1)
next_fails test xs k none here j x h at = next_fails_by test xs k j x (nat_lt j k) refl none here h at

at_start : {T : Type 0} (xs ys : List T) (k : ℕ) → k < length xs → slice_get (xs ++ ys) k ≡ slice_get xs k
at_start [] ys k h = absurd (omega arith)
at_start (x ∷ xs) ys zero h = refl
at_start (x ∷ xs) ys (suc k) h = at_start xs ys k (omega arith)

module _ {T : Type 0} (test : T → Bool) (all some rest : List T) (count : ℕ) (passed : Passed all (some ++ rest) count) (none : NoneBefore test all count) where
  none_further_by : (n j : ℕ) (x : T) (c : Bool) → nat_lt j count ≡ c → n ≤ length some → NoneBefore test some n → j < count + n → slice_get all j ≡ Some x → test x ≡ false
  none_further_by n j x true c few more h at = none j x (ltb-true j count c) at
  none_further_by n j x false c few more h at =
      let above = ltb-false j count c in
      let place : count + (j - count) ≡ j = omega arith in
      more (j - count) x (omega arith) (sym (at_start some rest (j - count) (omega arith)) ∙ sym (at_rest all (some ++ rest) count (j - count) j passed place) ∙ at)

  -- none of those that were passed passes the test, and none of the next ones
  none_further : (n : ℕ) → n ≤ length some → NoneBefore test some n → NoneBefore test all (count + n)
  none_further n few more j x h at = none_further_by n j x (nat_lt j count) refl few more h at

  pub none_in : (n : ℕ) → HasNone test some n → NoneBefore test all (count + n)
  none_in n h = let e = h.0 in none_further n (omega arith) h.1

  -- the first of the next ones is the first of all
  pub first_in_whole : (place : ℕ) → IsFirst test some place → IsFirst test all (count + place)
  first_in_whole place h =
      let below = within some place h.item h.at in
      record {
        item = h.item;
        at = at_rest all (some ++ rest) count place (count + place) passed refl ∙ at_start some rest place below ∙ h.at;
        passes = h.passes;
        before = none_further place (omega arith) h.before;
      }

  pub first_of : (place : ℕ) → IsFirst test some place → position test all ≡ Some (count + place)
  first_of place h =
      let k = first_in_whole place h in
      first_at test all (count + place) k.item k.before k.at k.passes
