-- The least of the requests of which something is so, one id after the other.
use Rattle.std.proofs.Common.{◌≡◌, ℕ, zero, suc, ◌+◌, ◌-◌, ◌<◌, ◌≤◌, ◌==◌, nat_le, nat_lt, ◌≢◌, Bool, true, false, ◌||◌, List, [], ◌∷◌, Option, Some, None, is_some, filter, fold, length, inl, inr, refl, sym, ap, ◌∙◌, arith}
use Rattle.std.specs.List.{list_any, range_with_len}
use Rattle.wdf_base.specs.declared.plan.Plan.{Plan}
use Rattle.wdf_base.specs.declared.object.Place.{Place}
use Rattle.wdf_base.specs.declared.object.Place.TheVariants as place
use Rattle.wdf_base.specs.declared.event.Stage.TheVariants as stage
use Rattle.wdf_base.specs.declared.ids.ObjectId.{ObjectId}
use Rattle.wdf_base.specs.Places.{is_sent_to}
use Rattle.wdf_model.specs.Tables.{ids_of, least, lesser}
use Rattle.wdf_model.specs.State.{State, held_from, is_held_from}
use Rattle.wdf_model.specs.parts.Power.{resume_due}
use Rattle.wdf_model.specs.parts.Requests.{place_of, request_of}
use Rattle.wdf_model.specs.rules.Starts.{is_unfinished_at, targets_at}
use Rattle.wdf_model.specs.rules.Waits.{stage_requests}
use Rattle.std.proofs.lemmas.Bool.{cases_lt}
use Rattle.std.proofs.lemmas.Bool.Decides.{nat_tests}
use Rattle.std.proofs.lemmas.Option.{slice_get_past}
use Rattle.wdf_model.proofs.Counts.{equal, not_equal}
use Rattle.wdf_power.proofs.Least.{first_from}
use Rattle.wdf_starts.proofs.Passing.{filter_twice}
use Rattle.wdf_causes.specs.Asked.{is_sent_from, is_so_of_request, is_target_at}
use Rattle.wdf_causes.specs.Keepers.{some_resume}
use Rattle.wdf_causes.specs.declared.asked.RequestTest.{RequestTest}
use Rattle.wdf_causes.specs.declared.asked.RequestTest.TheVariants as request_test
use Rattle.wdf_causes.proofs.Ranges.{range_ends, range_opens, range_whole}

module _ {A : Type 0} (plan : Plan) (S : State A) (test : RequestTest) where
  -- the least from this id on
  pub requests_from : ℕ → Option ℕ
  requests_from r = least (filter (is_so_of_request plan S test) (range_with_len r (length S.requests.all - r)))

  pub requests_at_first : requests_from 0 ≡ least (filter (is_so_of_request plan S test) (ids_of S.requests.all))
  unfolding requests_from
  requests_at_first = ap (λ ids. least (filter (is_so_of_request plan S test) ids)) (range_whole (length S.requests.all))

  pub request_passed : (r : ℕ) → r < length S.requests.all → is_so_of_request plan S test r ≡ false → requests_from (r + 1) ≡ requests_from r
  unfolding requests_from
  request_passed r h e = rw (range_opens r (length S.requests.all) h, e) refl

  pub request_found : (r : ℕ) → r < length S.requests.all → is_so_of_request plan S test r ≡ true → Some r ≡ requests_from r
  unfolding requests_from
  request_found r h e =
      let n : r + 0 ≡ r = omega arith in
      sym (first_from (is_so_of_request plan S test) r (length S.requests.all - r) 0 (omega arith) (λ j l. absurd (omega arith)) (ap (is_so_of_request plan S test) n ∙ e) ∙ ap Some n)

  pub requests_at_end : (r : ℕ) → length S.requests.all ≤ r → None ≡ requests_from r
  unfolding requests_from
  requests_at_end r h = rw (range_ends r (length S.requests.all) h) refl

-- ---- what is left at a device

-- a number below all ids isn't among them
none_by : (u from : ℕ) (p : ℕ → Bool) (rest : List ℕ) (b : Bool) → p from ≡ b → (u == from) ≡ false → list_any (λ t. u == t) (filter p rest) ≡ false
    → list_any (λ t. u == t) (filter p (from ∷ rest)) ≡ false
none_by u from p rest true e other h = rw (e, other) h
none_by u from p rest false e other h = rw e h

none_below : (u : ℕ) (p : ℕ → Bool) (from n : ℕ) → u < from → list_any (λ t. u == t) (filter p (range_with_len from n)) ≡ false
none_below u p from zero h = refl
none_below u p from (suc n) h =
    let apart : u ≢ from = λ e. absurd (omega arith) in
    none_by u from p (range_with_len (from + 1) n) (p from) refl (not_equal u from apart) (none_below u p (from + 1) n (omega arith))

none_above : (u : ℕ) (p : ℕ → Bool) (from n : ℕ) → from + n ≤ u → list_any (λ t. u == t) (filter p (range_with_len from n)) ≡ false
none_above u p from zero h = refl
none_above u p from (suc n) h =
    let apart : u ≢ from = λ e. absurd (omega arith) in
    none_by u from p (range_with_len (from + 1) n) (p from) refl (not_equal u from apart) (none_above u p (from + 1) n (omega arith))

-- a number of the range is among those that pass where it passes
first_by : (u from : ℕ) (p : ℕ → Bool) (rest : List ℕ) (b : Bool) → p u ≡ b → u ≡ from → list_any (λ t. u == t) (filter p rest) ≡ false
    → list_any (λ t. u == t) (filter p (from ∷ rest)) ≡ b
first_by u from p rest true e same h = let passes : p from ≡ true = ap p (sym same) ∙ e in rw (passes, equal u from same) refl
first_by u from p rest false e same h = let fails : p from ≡ false = ap p (sym same) ∙ e in rw fails h

later_by : (u from : ℕ) (p : ℕ → Bool) (rest : List ℕ) (b : Bool) → p from ≡ b → (u == from) ≡ false
    → list_any (λ t. u == t) (filter p (from ∷ rest)) ≡ list_any (λ t. u == t) (filter p rest)
later_by u from p rest true e other = rw (e, other) refl
later_by u from p rest false e other = rw e refl

one_within : (u : ℕ) (p : ℕ → Bool) (from n : ℕ) → from ≤ u → u < from + n → list_any (λ t. u == t) (filter p (range_with_len from n)) ≡ p u
one_within u p from zero above below = absurd (omega arith)
one_within u p from (suc n) above below =
    elim (cases_lt from u) [
      | inl less ↦
          let apart : u ≢ from = λ e. absurd (omega arith) in
          later_by u from p (range_with_len (from + 1) n) (p from) refl (not_equal u from apart) ∙ one_within u p (from + 1) n (omega arith) (omega arith)
      | inr more ↦ first_by u from p (range_with_len (from + 1) n) (p u) refl (omega arith) (none_below u p (from + 1) n (omega arith))
    ]

none_declared : (plan : Plan) (d u : ℕ) → suc (length plan.declared) ≤ u → false ≡ is_target_at plan d u
none_declared plan d zero h = absurd (omega arith)
none_declared plan d (suc k) h = rw (slice_get_past plan.declared k (omega arith)) refl

-- a target is among those of a device where it is one of them
one_of_targets : (plan : Plan) (d u : ℕ) → list_any (λ t. u == t) (targets_at plan d) ≡ is_target_at plan d u
one_of_targets plan d u =
    elim (cases_lt u (suc (length plan.declared))) [
      | inl less ↦ one_within u (is_target_at plan d) 0 (suc (length plan.declared)) (omega arith) (omega arith)
      | inr more ↦ none_above u (is_target_at plan d) 0 (suc (length plan.declared)) (omega arith) ∙ none_declared plan d u more
    ]

never : (xs : List ℕ) → list_any (λ x. false) xs ≡ false
never [] = refl
never (x ∷ xs) = never xs

sent_by_place : (plan : Plan) (d : ℕ) (p : Place) → list_any (λ t. is_sent_to t p) (targets_at plan d) ≡ is_sent_from plan d p
sent_by_place plan d (place.Sent t) = one_of_targets plan d t.0
sent_by_place plan d _ = never (targets_at plan d)

same_by : (p q : ℕ → Bool) (x : ℕ) (xs : List ℕ) (b : Bool) → p x ≡ b → q x ≡ b → filter p xs ≡ filter q xs → filter p (x ∷ xs) ≡ filter q (x ∷ xs)
same_by p q x xs true e f rest = rw (e, f) (ap (λ ys. x ∷ ys) rest)
same_by p q x xs false e f rest = rw (e, f) rest

filter_same : (p q : ℕ → Bool) → ((x : ℕ) → q x ≡ p x) → (xs : List ℕ) → filter p xs ≡ filter q xs
filter_same p q same [] = refl
filter_same p q same (x ∷ xs) = same_by p q x xs (p x) refl (same x) (filter_same p q same xs)

pub left_at_device : {A : Type 0} (plan : Plan) (S : State A) (d : ObjectId)
    → least (filter (is_so_of_request plan S (request_test.LeftAt d)) (ids_of S.requests.all)) ≡ least (stage_requests plan S d.0 stage.Removed)
left_at_device plan S d =
    ap least
    (filter_same (is_so_of_request plan S (request_test.LeftAt d))
    (λ r. is_unfinished_at d.0 (request_of S.requests r) || list_any (λ t. is_sent_to t (place_of S.requests r)) (targets_at plan d.0))
    (λ r. ap (λ b. is_unfinished_at d.0 (request_of S.requests r) || b) (sent_by_place plan d.0 (place_of S.requests r))) (ids_of S.requests.all))

-- ---- resumes

kept_by : (m x : ℕ) (b : Bool) → nat_le m x ≡ b → is_some (lesser (Some m) x) ≡ true
kept_by m x true e = rw e refl
kept_by m x false e = rw e refl

some_lesser : (m : Option ℕ) (x : ℕ) → is_some (lesser m x) ≡ true
some_lesser None x = refl
some_lesser (Some m) x = kept_by m x (nat_le m x) refl

some_from : (m : Option ℕ) (xs : List ℕ) → is_some m ≡ true → is_some (fold lesser m xs) ≡ true
some_from m [] e = e
some_from m (x ∷ xs) e = some_from (lesser m x) xs (some_lesser m x)

some_long : (n : ℕ) → nat_lt 0 (suc n) ≡ true
some_long n = grind (arith, nat_tests)

some_least : (xs : List ℕ) → is_some (least xs) ≡ nat_lt 0 (length xs)
some_least [] = refl
some_least (x ∷ xs) = some_from (Some x) xs refl ∙ sym (some_long (length xs))

pub resumes_found : {A : Type 0} (plan : Plan) (S : State A) (q : ObjectId)
    → is_some (least (filter (is_so_of_request plan S (request_test.ResumeDue q)) (ids_of S.requests.all))) ≡ some_resume plan S q.0
resumes_found plan S q =
    ap (λ rs. is_some (least rs)) (sym (filter_twice (is_held_from S q.0) (resume_due S.power) (ids_of S.requests.all)))
    ∙ some_least (filter (resume_due S.power) (held_from S q.0))
