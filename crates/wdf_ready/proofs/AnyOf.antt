-- Whether one of a list passes a test: by its filtered list, by the places of a map, and by a loop over ids.
use Rattle.std.proofs.Common.{Bool, true, false, ℕ, zero, suc, ◌≡◌, ◌+◌, ◌<◌, ◌≤◌, ◌&&◌, ◌||◌, nat_lt, List, [], ◌∷◌, length, filter, Option, is_some, slice_get, refl, sym, ap, ◌∙◌, arith}
use Rattle.std.proofs.lemmas.Bool.{lt-ltb, ltb-true, ltb-false}
use Rattle.std.specs.List.{list_any, range_with_len}
use Rattle.std.specs.Option.{option_and_then}
use Rattle.wdf_base.specs.declared.plan.Plan.{Plan}
use Rattle.wdf_model.proofs.Tests.{second}
use Rattle.wdf_model.specs.Tables.{entry, ids_of}
use Rattle.wdf_model.specs.Plans.{declared_ids, device_of}
use Rattle.wdf_model.specs.parts.Pnp.{steps_left}
use Rattle.wdf_model.specs.parts.Requests.{no_request}
use Rattle.wdf_model.specs.State.{State}
use Rattle.wdf_model.specs.rules.Ready.{is_open_request, open_devices, open_requests}

-- ---- filtered lists

filtered_by : {T : Type 0} (p : T → Bool) (x : T) (xs : List T) (b : Bool) → p x ≡ b → nat_lt 0 (length (filter p xs)) ≡ list_any p xs → nat_lt 0 (length (filter p (x ∷ xs))) ≡ list_any p (x ∷ xs)
filtered_by p x xs true e rest = rw e (lt-ltb 0 (suc (length (filter p xs))) (omega arith))
filtered_by p x xs false e rest = rw e rest

pub some_filtered : {T : Type 0} (p : T → Bool) (xs : List T) → nat_lt 0 (length (filter p xs)) ≡ list_any p xs
some_filtered p [] = refl
some_filtered p (x ∷ xs) = filtered_by p x xs (p x) refl (some_filtered p xs)

filtered_twice_by : {T : Type 0} (p q : T → Bool) (x : T) (xs : List T) (b : Bool) → p x ≡ b → list_any q (filter p xs) ≡ list_any (λ y. p y && q y) xs → list_any q (filter p (x ∷ xs)) ≡ list_any (λ y. p y && q y) (x ∷ xs)
filtered_twice_by p q x xs true e rest = rw e (ap (λ b. q x || b) rest)
filtered_twice_by p q x xs false e rest = rw e rest

filtered_twice : {T : Type 0} (p q : T → Bool) (xs : List T) → list_any q (filter p xs) ≡ list_any (λ y. p y && q y) xs
filtered_twice p q [] = refl
filtered_twice p q (x ∷ xs) = filtered_twice_by p q x xs (p x) refl (filtered_twice p q xs)

-- ---- loops over ids

range_ahead : (p : ℕ → Bool) (a n : ℕ) → list_any p (range_with_len (a + 1) n) ≡ list_any (λ i. p (i + 1)) (range_with_len a n)
range_ahead p a zero = refl
range_ahead p a (suc n) = ap (λ b. p (a + 1) || b) (range_ahead p (a + 1) n)

-- the ids from 0 on: the first, and those after it
range_from_first : (p : ℕ → Bool) (n : ℕ) → list_any p (range_with_len 0 (suc n)) ≡ (p 0 || list_any (λ i. p (i + 1)) (range_with_len 0 n))
range_from_first p n = ap (λ b. p 0 || b) (range_ahead p 0 n)

any_from : (p : ℕ → Bool) (a n i : ℕ) → i < n → p (a + i) ≡ true → list_any p (range_with_len a n) ≡ true
any_from p a zero i h e = absurd (omega arith)
any_from p a (suc n) zero h e = let same : a + 0 ≡ a = omega arith in let here : p a ≡ true = ap p (sym same) ∙ e in rw here refl
any_from p a (suc n) (suc i) h e =
    let same : a + suc i ≡ a + 1 + i = omega arith in
    second (p a) (list_any p (range_with_len (a + 1) n)) (any_from p (a + 1) n i (omega arith) (ap p (sym same) ∙ e))

none_from : (p : ℕ → Bool) (a n : ℕ) → ((j : ℕ) → a ≤ j → j < a + n → p j ≡ false) → list_any p (range_with_len a n) ≡ false
none_from p a zero none = refl
none_from p a (suc n) none =
    let here : p a ≡ false = none a (omega arith) (omega arith) in
    rw here (none_from p (a + 1) n (λ j above below. none j (omega arith) (omega arith)))

-- an id passes
pub some_id : (p : ℕ → Bool) (n k : ℕ) → k < n → p k ≡ true → list_any p (range_with_len 0 n) ≡ true
some_id p n k h e = let same : 0 + k ≡ k = omega arith in any_from p 0 n k h (ap p same ∙ e)

-- no id passes
pub no_id : (p : ℕ → Bool) (n k : ℕ) → n ≤ k → ((j : ℕ) → j < k → p j ≡ false) → list_any p (range_with_len 0 n) ≡ false
no_id p n k h none = none_from p 0 n (λ j above below. none j (omega arith))

next_by : (p : ℕ → Bool) (k j : ℕ) (c : Bool) → nat_lt j k ≡ c → ((i : ℕ) → i < k → p i ≡ false) → p k ≡ false → j < k + 1 → p j ≡ false
next_by p k j true c none here h = none j (ltb-true j k c)
next_by p k j false c none here h = let above = ltb-false j k c in let same : k ≡ j = omega arith in ap p (sym same) ∙ here

-- one id more that doesn't pass
pub next_id_fails : (p : ℕ → Bool) (k : ℕ) → ((i : ℕ) → i < k → p i ≡ false) → p k ≡ false → (j : ℕ) → j < k + 1 → p j ≡ false
next_id_fails p k none here j h = next_by p k j (nat_lt j k) refl none here h

-- ---- lists by their places

pub any_same : {T : Type 0} (p q : T → Bool) (xs : List T) → ((x : T) → p x ≡ q x) → list_any p xs ≡ list_any q xs
any_same p q [] e = refl
any_same p q (x ∷ xs) e = rw (e x, any_same p q xs e) refl

pub any_entry : {T : Type 0} (p : T → Bool) (blank : T) (xs : List T) → list_any (λ i. p (entry blank xs i)) (ids_of xs) ≡ list_any p xs
any_entry p blank [] = refl
any_entry p blank (x ∷ xs) =
    range_from_first (λ i. p (entry blank (x ∷ xs) i)) (length xs)
    ∙ ap (λ b. p x || b) (any_same (λ i. p (entry blank (x ∷ xs) (i + 1))) (λ i. p (entry blank xs i)) (range_with_len 0 (length xs)) (λ i. let e : i + 1 ≡ suc i = omega arith in rw e refl) ∙ any_entry p blank xs)

-- a list's item at a place, if there is one, has something
abbrev pub has_at : {T U : Type 0} → (T → Option U) → List T → ℕ → Bool
has_at f xs i = is_some (option_and_then f (slice_get xs i))

pub any_place : {T U : Type 0} (f : T → Option U) (xs : List T) → list_any (has_at f xs) (range_with_len 0 (length xs)) ≡ list_any (λ x. is_some (f x)) xs
any_place f [] = refl
any_place f (x ∷ xs) =
    range_from_first (has_at f (x ∷ xs)) (length xs)
    ∙ ap (λ b. is_some (f x) || b) (any_same (λ i. has_at f (x ∷ xs) (i + 1)) (has_at f xs) (range_with_len 0 (length xs)) (λ i. let e : i + 1 ≡ suc i = omega arith in rw e refl) ∙ any_place f xs)

-- ---- what is open

module _ {A : Type 0} (S : State A) where
  pub some_open_requests : nat_lt 0 (length (open_requests S)) ≡ list_any is_open_request S.requests.all
  some_open_requests = some_filtered (λ r. is_open_request (entry no_request S.requests.all r)) (ids_of S.requests.all) ∙ any_entry is_open_request no_request S.requests.all

  -- a device with steps left
  abbrev pub is_open_device : Plan → ℕ → Bool
  is_open_device plan d = is_some (device_of plan d) && nat_lt 0 (length (steps_left S.pnp d))

  pub some_open_devices : (plan : Plan) → nat_lt 0 (length (open_devices plan S)) ≡ list_any (is_open_device plan) (declared_ids plan)
  some_open_devices plan =
      some_filtered (λ d. nat_lt 0 (length (steps_left S.pnp d))) (filter (λ d. is_some (device_of plan d)) (declared_ids plan))
      ∙ filtered_twice (λ d. is_some (device_of plan d)) (λ d. nat_lt 0 (length (steps_left S.pnp d))) (declared_ids plan)
