-- The first item of a list that passes a test, or that a function answers.
use Rattle.std.proofs.Common.{◌≡◌, ℕ, zero, suc, ◌+◌, ◌<◌, ◌≤◌, ◌⊎◌, inl, inr, Bool, true, false, not, ◌&&◌, List, [], ◌∷◌, find, length, Option, Some, None, is_some, slice_get, slice_index_or, slice_set, refl, ap, subst, ◌∙◌, arith}
use Rattle.std.specs.List.{filter_map}
use Rattle.std.proofs.lemmas.Bool.{cases_lt}
use Rattle.std.proofs.lemmas.Option.{slice_get-get_or}
use Rattle.wdf_model.specs.declared.stack.Descent.{Descent}
use Rattle.wdf_model.specs.declared.stack.Descent.TheVariants as descent
use Rattle.wdf_model.specs.declared.stack.Forwarded.{Forwarded}
use Rattle.wdf_model.specs.Tables.{first_of_list}
use Rattle.wdf_model.specs.agents.Connector.{first_arrived, is_waiting, post_below, post_of}
use Rattle.wdf_stack.specs.Line.{IsWaitingAt, NoneBefore, has_post}

pub find_first : {T : Type 0} (p : T → Bool) (xs : List T) (n : ℕ) (d : T) → n < length xs → NoneBefore p n xs → p (slice_index_or xs n d) ≡ true → Some (slice_index_or xs n d) ≡ find p xs
find_first p [] n d h before holds = absurd (omega (arith, h))
find_first p (y ∷ ys) zero d h before holds = rw holds refl
find_first p (y ∷ ys) (suc n) d h before holds =
    let this : p y ≡ false = before zero y (omega arith) refl in
    rw this (find_first p ys n d (omega (arith, h)) (λ k a l e. before (suc k) a (omega (arith, l)) e) holds)

pub find_none : {T : Type 0} (p : T → Bool) (xs : List T) (n : ℕ) → length xs ≤ n → NoneBefore p n xs → None ≡ find p xs
find_none p [] n h before = refl
find_none p (y ∷ ys) n h before =
    let this : p y ≡ false = before zero y (omega (arith, h)) refl in
    rw this (find_none p ys (length ys) (omega arith) (λ k a l e. before (suc k) a (omega (arith, l, h)) e))

more_by : {T : Type 0} (p : T → Bool) (xs : List T) (n k : ℕ) (a d : T) → (k < n) ⊎ (n ≤ k) → n < length xs → NoneBefore p n xs → p (slice_index_or xs n d) ≡ false → k < n + 1 → slice_get xs k ≡ Some a → p a ≡ false
more_by p xs n k a d (inl less) h before this l e = before k a less e
more_by p xs n k a d (inr from) h before this l e =
    let same : k ≡ n = omega arith in
    let it = slice_get-get_or xs n d h in
    let at : slice_get xs n ≡ Some a = subst (λ j. slice_get xs j ≡ Some a) same e in
    let is : a ≡ slice_index_or xs n d = cc in
    ap p is ∙ this

pub none_before_next : {T : Type 0} (p : T → Bool) (xs : List T) (n : ℕ) (d : T) → n < length xs → NoneBefore p n xs → p (slice_index_or xs n d) ≡ false → NoneBefore p (n + 1) xs
none_before_next p xs n d h before this k a l e = more_by p xs n k a d (cases_lt k n) h before this l e

-- ---- the first that a function answers

module _ {S T : Type 0} (f : S → Option T) where
  answered : (a : S) (rest : List S) (o : Option T) → f a ≡ o → is_some (f a) ≡ true → f a ≡ first_of_list (filter_map f (a ∷ rest))
  answered a rest None e s = absurd (let z : is_some (f a) ≡ false = ap is_some e in let y : ⊥ = cc in y)
  answered a rest (Some x) e s = rw e refl

  skipped : (a : S) (rest : List S) (x : Option T) (o : Option T) → f a ≡ o → is_some (f a) ≡ false → x ≡ first_of_list (filter_map f rest) → x ≡ first_of_list (filter_map f (a ∷ rest))
  skipped a rest x (Some y) e s h = absurd (let z : is_some (f a) ≡ true = ap is_some e in let w : ⊥ = cc in w)
  skipped a rest x None e s h = rw e h

  pub first_answer : (xs : List S) (n : ℕ) (d : S) → n < length xs → NoneBefore (λ x. is_some (f x)) n xs → is_some (f (slice_index_or xs n d)) ≡ true
      → f (slice_index_or xs n d) ≡ first_of_list (filter_map f xs)
  first_answer [] n d h before holds = absurd (omega (arith, h))
  first_answer (a ∷ rest) zero d h before holds = answered a rest (f a) refl holds
  first_answer (a ∷ rest) (suc n) d h before holds =
      skipped a rest (f (slice_index_or rest n d)) (f a) refl (before zero a (omega arith) refl)
      (first_answer rest n d (omega (arith, h)) (λ k b l i. before (suc k) b (omega (arith, l)) i) holds)

  pub no_answer : (xs : List S) (n : ℕ) → length xs ≤ n → NoneBefore (λ x. is_some (f x)) n xs → None ≡ first_of_list (filter_map f xs)
  no_answer [] n h before = refl
  no_answer (a ∷ rest) n h before =
      skipped a rest None (f a) refl (before zero a (omega (arith, h)) refl) (no_answer rest (length rest) (omega arith) (λ k b l i. before (suc k) b (omega (arith, l, h)) i))

-- ---- the first request without an arrival

pub arrived_at_first : (d : Descent) (xs : List Forwarded) (n : ℕ) (x : Forwarded) → n < length xs → NoneBefore is_waiting n xs → is_waiting (slice_index_or xs n x) ≡ true
    → slice_set xs n (record (slice_index_or xs n x) { descent = d }) ≡ first_arrived d xs
arrived_at_first d [] n x h before holds = absurd (omega (arith, h))
arrived_at_first d (f ∷ fs) zero x h before holds = rw holds refl
arrived_at_first d (f ∷ fs) (suc n) x h before holds =
    let this : is_waiting f ≡ false = before zero f (omega arith) refl in
    rw this (ap (λ ys. f ∷ ys) (arrived_at_first d fs n x (omega (arith, h)) (λ k a l e. before (suc k) a (omega (arith, l)) e) holds))

pub nothing_waits : (d : Descent) (xs : List Forwarded) (n : ℕ) → length xs ≤ n → NoneBefore is_waiting n xs → xs ≡ first_arrived d xs
nothing_waits d [] n h before = refl
nothing_waits d (f ∷ fs) n h before =
    let this : is_waiting f ≡ false = before zero f (omega (arith, h)) refl in
    rw this (ap (λ ys. f ∷ ys) (nothing_waits d fs (length fs) (omega arith) (λ k a l e. before (suc k) a (omega (arith, l, h)) e)))

-- ---- who has a post

-- a request has one whatever the room is
post_by : (room : ℕ) (f : Forwarded) (d : Descent) → f.descent ≡ d → is_some (post_of room f) ≡ has_post f
post_by room f descent.Waiting e = rw e refl
post_by room f descent.Refused e = rw e refl
post_by room f (descent.Completed s) e = rw e refl
post_by room f (descent.Below lower number passed) e = rw e (below_by (f.cancelled && not passed) refl)
  where
    below_by : (b : Bool) → (f.cancelled && not passed) ≡ b → is_some (post_below f number passed) ≡ (f.cancelled && not passed)
    below_by true h = rw h refl
    below_by false h = rw h refl

pub post_is_there : (room : ℕ) (f : Forwarded) → is_some (post_of room f) ≡ has_post f
post_is_there room f = post_by room f f.descent refl

pub none_posts : (room n : ℕ) (xs : List Forwarded) → NoneBefore has_post n xs → NoneBefore (λ x. is_some (post_of room x)) n xs
none_posts room n xs none k a l at = post_is_there room a ∙ none k a l at

-- none is behind the end
pub none_in_all : {T : Type 0} (p : T → Bool) (n : ℕ) (xs : List T) → length xs ≤ n → NoneBefore p n xs → NoneBefore p (length xs) xs
none_in_all p n xs past none k a l at = none k a (omega (arith, l, past)) at

pub waits_at : (xs : List Forwarded) (n : ℕ) (d : Forwarded) → n < length xs → is_waiting (slice_index_or xs n d) ≡ true → IsWaitingAt xs n
waits_at xs n d l waits f at =
    let it = slice_get-get_or xs n d l in
    let is : f ≡ slice_index_or xs n d = cc in
    ap is_waiting is ∙ waits

pub none_waits_at_end : (xs : List Forwarded) → IsWaitingAt xs (length xs)
none_waits_at_end [] f at = absurd (let z : ⊥ = cc in z)
none_waits_at_end (x ∷ xs) f at = none_waits_at_end xs f at
