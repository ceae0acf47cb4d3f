-- Callbacks of a queue that are due for many requests at once: for which requests, and what is offered.
use Rattle.std.proofs.Common.{if◌then◌else◌, ℕ, zero, suc, ◌≡◌, ◌⊎◌, ◌+◌, ◌-◌, ◌<◌, ◌≤◌, Bool, true, false, not, ◌==◌, nat_lt, ◌&&◌, List, [], ◌∷◌, filter, length, slice_get, Option, Some, None, is_some, option_map, refl, sym, ap, subst, ◌∙◌, inl, inr, arith}
use Rattle.std.specs.List.{cons_option, filter_map, list_any, range_with_len}
use Rattle.std.proofs.Math.Bool.{and-false, and-true}
use Rattle.std.proofs.lemmas.Bool.{cases_lt, eqb-true, or_parts}
use Rattle.std.proofs.lemmas.Bool.Decides.{nat_tests}
use Rattle.wdf_base.specs.Meaning.{Meaning}
use Rattle.wdf_base.specs.declared.event.Event.{Event}
use Rattle.wdf_base.specs.declared.ids.ObjectId.{ObjectId}
use Rattle.wdf_base.specs.declared.object.Place.{Place}
use Rattle.wdf_base.specs.declared.object.Place.TheVariants as place
use Rattle.wdf_base.specs.declared.plan.Plan.{Plan}
use Rattle.wdf_base.specs.Places.{is_due, is_owned, is_returning_to, is_sent}
use Rattle.wdf_model.specs.Ids.{cpu_of}
use Rattle.wdf_model.specs.Plans.{callback_irql, declares, is_managed}
use Rattle.wdf_model.specs.State.{State, declared_in, declares_in, handle_in, held_at, is_held_from, is_with_driver}
use Rattle.wdf_model.specs.Tables.{entry, ids_of, same_id}
use Rattle.wdf_model.specs.declared.entries.Holding.{Holding}
use Rattle.wdf_model.specs.declared.entries.Request.{Request}
use Rattle.wdf_model.specs.parts.Locks.{is_free_if_any, lock_of_callback}
use Rattle.wdf_model.specs.parts.Power.{holding_of, no_holding, resume_due, stop_was_asked}
use Rattle.wdf_model.specs.parts.Requests.{mark_of, no_request, origin_of, place_of, request_of}
use Rattle.wdf_model.specs.parts.Targets.{is_forgotten}
use Rattle.wdf_model.specs.parts.Tree.{nearest_device}
use Rattle.wdf_model.specs.rules.Groups.{callback_for, places_if, places_in, starts_for}
use Rattle.wdf_model.specs.rules.Starts.{is_ready_for, level_fits, life_fits}
use Rattle.wdf_model.specs.rules.Steps.{is_cpu, may}
use Rattle.wdf_model.proofs.Counts.{not_equal}
use Rattle.wdf_model.proofs.Maps.{entry_past}
use Rattle.wdf_model.proofs.Tests.{both_left, both_right, left_fails, right_fails}
use Rattle.law_machine_base.specs.Agreement.{holding_queue, managed_origin}
use Rattle.wdf_maps.specs.Counts.{is_at}
use Rattle.wdf_request.specs.Keys.{is_due_sent, returning_queue}
use Rattle.wdf_power.specs.ForQueues.{resuming_queue, unasked_queue}
use Rattle.wdf_offers.specs.declared.for_requests.Herd.{Herd}
use Rattle.wdf_offers.specs.declared.for_requests.Herd.TheVariants as herd
use Rattle.wdf_offers.specs.ForRequests.{IsExact, begins_on, can_be, counted, due_for, herd_group, is_counted, is_due_for, may_begin, rank_of, whole}
use Rattle.wdf_offers.specs.Idle.{settles_next}
use Rattle.wdf_offers.specs.Search.{offered, offered_from}
use Rattle.wdf_offers.proofs.Begins.{start_parts_for}
use Rattle.wdf_offers.proofs.Leavers.{mapped_at, mapped_len}

-- ---- ids that pass a test

filter_same : (p q : ℕ → Bool) → ((x : ℕ) → p x ≡ q x) → (xs : List ℕ) → filter p xs ≡ filter q xs
filter_same p q e [] = refl
filter_same p q e (x ∷ xs) = rw (e x, filter_same p q e xs) refl

none_further : (p : ℕ → Bool) (a n : ℕ) → ((x : ℕ) → a ≤ x → p x ≡ false) → filter p (range_with_len a n) ≡ []
none_further p a zero off = refl
none_further p a (suc n) off = rw (off a (omega arith)) (none_further p (a + 1) n (λ x h. off x (omega arith)))

as_far : (p : ℕ → Bool) (a n m : ℕ) → ((x : ℕ) → a + n ≤ x → p x ≡ false) → filter p (range_with_len a (n + m)) ≡ filter p (range_with_len a n)
as_far p a zero m off =
    let z : 0 + m ≡ m = omega arith in
    rw z (none_further p a m (λ x h. off x (omega arith)))
as_far p a (suc n) m off =
    let more : suc n + m ≡ suc (n + m) = omega arith in
    rw more (ap (λ ids. if p a then a ∷ ids else ids) (as_far p (a + 1) n m (λ x h. off x (omega arith))))

-- what passes is the same below two ends, where nothing passes from either on
same_as_far : (p : ℕ → Bool) (n m : ℕ) → ((x : ℕ) → n ≤ x → p x ≡ false) → ((x : ℕ) → m ≤ x → p x ≡ false) → filter p (range_with_len 0 n) ≡ filter p (range_with_len 0 m)
same_as_far p n m no_more nor = by (cases_lt n m)
  where
    by : (n < m) ⊎ (m ≤ n) → filter p (range_with_len 0 n) ≡ filter p (range_with_len 0 m)
    by (inl less) =
        let far : n + (m - n) ≡ m = omega arith in
        sym (as_far p 0 n (m - n) (λ x h. no_more x (omega arith))) ∙ ap (λ k. filter p (range_with_len 0 k)) far
    by (inr more) =
        let far : m + (n - m) ≡ n = omega arith in
        ap (λ k. filter p (range_with_len 0 k)) (sym far) ∙ as_far p 0 m (n - m) (λ x h. nor x (omega arith))

fewer : (p r : ℕ → Bool) → ((x : ℕ) → r x ≡ true → p x ≡ true) → (xs : List ℕ) → length (filter r xs) ≤ length (filter p xs)
fewer p r part [] = omega arith
fewer p r part (x ∷ xs) = by (p x) (r x) refl refl (fewer p r part xs)
  where
    by : (b c : Bool) → p x ≡ b → r x ≡ c → length (filter r xs) ≤ length (filter p xs) → length (if c then x ∷ filter r xs else filter r xs) ≤ length (if b then x ∷ filter p xs else filter p xs)
    by true true e f rest = omega arith
    by true false e f rest = omega arith
    by false true e f rest = absurd (let on = part x f in let z : ⊥ = cc in z)
    by false false e f rest = rest

-- where as many pass a stronger test, the same do
all_pass : (p r : ℕ → Bool) → ((x : ℕ) → r x ≡ true → p x ≡ true) → (xs : List ℕ) → length (filter p xs) ≡ length (filter r xs) → filter p xs ≡ filter r xs
all_pass p r part [] many = refl
all_pass p r part (x ∷ xs) many = by (p x) (r x) refl refl many (fewer p r part xs) (all_pass p r part xs)
  where
    by : (b c : Bool) → p x ≡ b → r x ≡ c → length (if b then x ∷ filter p xs else filter p xs) ≡ length (if c then x ∷ filter r xs else filter r xs) → length (filter r xs) ≤ length (filter p xs)
        → (length (filter p xs) ≡ length (filter r xs) → filter p xs ≡ filter r xs) → (if b then x ∷ filter p xs else filter p xs) ≡ (if c then x ∷ filter r xs else filter r xs)
    by true true e f many few rest = ap (λ ys. x ∷ ys) (rest (omega arith))
    by true false e f many few rest = absurd (omega arith)
    by false true e f many few rest = absurd (let on = part x f in let z : ⊥ = cc in z)
    by false false e f many few rest = rest many

-- where no entry passes, none that is looked up does
pub entry_fails : {T : Type 0} (p : T → Bool) (blank : T) → p blank ≡ false → (all : List T) (k : ℕ) → list_any p all ≡ false → p (entry blank all k) ≡ false
entry_fails p blank none [] k h = none
entry_fails p blank none (x ∷ all) zero h = (or_parts (p x) (list_any p all) h).0
entry_fails p blank none (x ∷ all) (suc k) h = entry_fails p blank none all k (or_parts (p x) (list_any p all) h).1

-- ---- for which requests a callback is due

-- EvtRequestCancel, where the request isn't sent
cancel_by : (d : Bool) (p : Place) (o : Option ObjectId) (f : Bool) (q : ℕ) → (d && is_sent p) ≡ false
    → (d && (same_id (option_map (λ (x : ObjectId). x.0) o) q && held_at f p)) ≡ is_at q (if d && is_owned p then o else None)
cancel_by false p o f q h = refl
cancel_by true place.Owned None f q h = refl
cancel_by true place.Owned (Some x) f q h = and-true (x.0 == q)
cancel_by true (place.Sent t) o f q h = absurd (let z : ⊥ = cc in z)
cancel_by true (place.Queued t) o f q h = and-false (same_id (option_map (λ (x : ObjectId). x.0) o) q)
cancel_by true (place.Returning t) o f q h = and-false (same_id (option_map (λ (x : ObjectId). x.0) o) q)
cancel_by true (place.Closing s) o f q h = and-false (same_id (option_map (λ (x : ObjectId). x.0) o) q)
cancel_by true place.Done o f q h = and-false (same_id (option_map (λ (x : ObjectId). x.0) o) q)

not_first : (plan : Plan) (q : ℕ) → is_managed plan q ≡ true → (0 == q) ≡ false
not_first plan q h = not_equal 0 q (λ e. let z : is_managed plan 0 ≡ true = subst (λ i. is_managed plan i ≡ true) (sym e) h in let y : ⊥ = cc in y)

from_by : (plan : Plan) (p q : ℕ) (b : Bool) → is_managed plan p ≡ b → is_managed plan q ≡ true → ((p == q) && true) ≡ ((if b then p else 0) == q)
from_by plan p q true e h = and-true (p == q)
from_by plan p q false e h =
    let other : (p == q) ≡ false = not_equal p q (λ same. let z : is_managed plan p ≡ true = subst (λ i. is_managed plan i ≡ true) (sym same) h in let y : ⊥ = cc in y) in
    and-true (p == q) ∙ other ∙ sym (not_first plan q h)

held_by : (plan : Plan) (q : ℕ) (w : Bool) (o : Option ℕ) → is_managed plan q ≡ true → (same_id o q && w) ≡ ((if w then managed_origin plan o else 0) == q)
held_by plan q false o h = and-false (same_id o q) ∙ sym (not_first plan q h)
held_by plan q true None h = sym (not_first plan q h)
held_by plan q true (Some p) h = from_by plan p q (is_managed plan p) refl h

-- what is held from a power-managed queue is noted as held from it
held_is : {A : Type 0} (plan : Plan) (S : State A) (q r : ℕ) → (holding_of S.power r).queue.0 ≡ holding_queue plan S r → is_managed plan q ≡ true → is_held_from S q r ≡ ((holding_of S.power r).queue.0 == q)
held_is plan S q r holds h = held_by plan q (is_with_driver S r) (origin_of S.requests r) h ∙ ap (λ n. n == q) (sym holds)

-- EvtIoStop
named_by : (x : ObjectId) (q : ℕ) (asked settles b c : Bool) → (x.0 == q) ≡ b → nat_lt 0 x.0 ≡ c → (b ≡ true → c ≡ true) → (b && not asked && settles) ≡ (settles && is_at q (if c && not asked then Some x else None))
named_by x q true true true c e f h = rw (h refl) refl
named_by x q true false true c e f h = refl
named_by x q false true true c e f h = rw (h refl) (sym e)
named_by x q false false true c e f h = refl
named_by x q asked false false c e f h = refl
named_by x q true true false true e f h = refl
named_by x q false true false true e f h = sym e
named_by x q asked true false false e f h = refl

above : (plan : Plan) (n q : ℕ) → is_managed plan q ≡ true → (n == q) ≡ true → nat_lt 0 n ≡ true
above plan n q h e =
    let same : n ≡ q = eqb-true n q e in
    let some : is_managed plan n ≡ true = subst (λ i. is_managed plan i ≡ true) (sym same) h in
    by n some
  where
    by : (k : ℕ) → is_managed plan k ≡ true → nat_lt 0 k ≡ true
    by zero m = let z : ⊥ = cc in absurd z
    by (suc k) m = grind (arith, nat_tests)

stop_by : {A : Type 0} (plan : Plan) (S : State A) (q r : ℕ) (b : Bool) → (holding_of S.power r).queue.0 ≡ holding_queue plan S r → is_managed plan q ≡ b
    → (b && is_held_from S q r && not (stop_was_asked S.power r) && settles_next S (nearest_device S.tree q)) ≡ ((b && settles_next S (nearest_device S.tree q)) && is_at q (unasked_queue (holding_of S.power r)))
stop_by plan S q r false holds e = refl
stop_by plan S q r true holds e =
    let n : ℕ = (holding_of S.power r).queue.0 in
    ap (λ x. x && not (stop_was_asked S.power r) && settles_next S (nearest_device S.tree q)) (held_is plan S q r holds e)
    ∙ named_by (holding_of S.power r).queue q (stop_was_asked S.power r) (settles_next S (nearest_device S.tree q)) (n == q) (nat_lt 0 n) refl refl (above plan n q e)

-- EvtIoResume
resume_by : (x : ObjectId) (q : ℕ) (due : Bool) → (due && (x.0 == q)) ≡ is_at q (if due then Some x else None)
resume_by x q true = refl
resume_by x q false = refl

module _ {A : Type 0} (plan : Plan) (S : State A) (q : ℕ) where
  pub exact_cancels : list_any is_due_sent S.requests.all ≡ false → IsExact plan S herd.Cancel q
  exact_cancels none = record {
    due = λ r.
        cancel_by (is_due (mark_of S.requests r)) (place_of S.requests r) (request_of S.requests r).info.origin (is_forgotten S.targets r) q
        (entry_fails is_due_sent no_request refl S.requests.all r none);
  }

  pub exact_returns : IsExact plan S herd.Return q
  exact_returns = record { due = λ r. refl }

  pub exact_stops : ((r : ℕ) → (holding_of S.power r).queue.0 ≡ holding_queue plan S r) → IsExact plan S herd.Stop q
  exact_stops holds = record { due = λ r. stop_by plan S q r (is_managed plan q) (holds r) refl }

  pub exact_resumes : ((r : ℕ) → (holding_of S.power r).queue.0 ≡ holding_queue plan S r) → is_managed plan q ≡ true → IsExact plan S herd.Resume q
  exact_resumes holds managed = record {
    due = λ r. ap (λ b. resume_due S.power r && b) (held_is plan S q r (holds r) managed) ∙ resume_by (holding_of S.power r).queue q (resume_due S.power r);
  }

  -- past the requests none is with the driver
  not_held : (r : ℕ) → length S.requests.all ≤ r → is_held_from S q r ≡ false
  not_held r past =
      let done : place_of S.requests r ≡ place.Done = ap (λ (x : Request). x.place) (entry_past no_request S.requests.all r past) in
      right_fails (same_id (origin_of S.requests r) q) (is_with_driver S r) (ap (held_at (is_forgotten S.targets r)) done)

  module _ (h : Herd) (exact : IsExact plan S h q) (can : can_be plan S h q ≡ true) where
    due_is : (r : ℕ) → is_due_for plan S h q r ≡ is_counted h S q r
    due_is r = exact.due r ∙ ap (λ b. b && is_counted h S q r) can

  stops_are : IsExact plan S herd.Stop q → can_be plan S herd.Stop q ≡ true → counted herd.Stop S q ≡ due_for plan S herd.Stop q
  stops_are exact can =
      filter_same (is_counted herd.Stop S q) (is_due_for plan S herd.Stop q) (λ r. sym (due_is herd.Stop exact can r)) (ids_of S.power.holdings)
      ∙ same_as_far (is_due_for plan S herd.Stop q) (length S.power.holdings) (length S.requests.all)
      (λ r past. due_is herd.Stop exact can r ∙ ap (λ (x : Holding). is_at q (unasked_queue x)) (entry_past no_holding S.power.holdings r past))
      (λ r past.
      left_fails (is_managed plan q && is_held_from S q r && not (stop_was_asked S.power r)) (settles_next S (nearest_device S.tree q))
      (left_fails (is_managed plan q && is_held_from S q r) (not (stop_was_asked S.power r)) (right_fails (is_managed plan q) (is_held_from S q r) (not_held r past))))

  resumes_are : IsExact plan S herd.Resume q → can_be plan S herd.Resume q ≡ true → counted herd.Resume S q ≡ due_for plan S herd.Resume q
  resumes_are exact can =
      filter_same (is_counted herd.Resume S q) (is_due_for plan S herd.Resume q) (λ r. sym (due_is herd.Resume exact can r)) (ids_of S.power.holdings)
      ∙ same_as_far (is_due_for plan S herd.Resume q) (length S.power.holdings) (length S.requests.all)
      (λ r past. due_is herd.Resume exact can r ∙ ap (λ (x : Holding). is_at q (resuming_queue x)) (entry_past no_holding S.power.holdings r past))
      (λ r past. right_fails (resume_due S.power r) (is_held_from S q r) (not_held r past))

  -- those that are counted are those for which it is due
  pub counted_are : (h : Herd) → IsExact plan S h q → can_be plan S h q ≡ true → counted h S q ≡ due_for plan S h q
  counted_are herd.Cancel exact can = filter_same (is_counted herd.Cancel S q) (is_due_for plan S herd.Cancel q) (λ r. sym (due_is herd.Cancel exact can r)) (ids_of S.requests.all)
  counted_are herd.Return exact can = filter_same (is_counted herd.Return S q) (is_due_for plan S herd.Return q) (λ r. sym (due_is herd.Return exact can r)) (ids_of S.requests.all)
  counted_are herd.Stop exact can = stops_are exact can
  counted_are herd.Resume exact can = resumes_are exact can

-- ---- those of all queues

at_some : (q : ℕ) (o : Option ObjectId) → is_at q o ≡ true → is_some o ≡ true
at_some q None h = absurd (let z : ⊥ = cc in z)
at_some q (Some x) h = refl

due_some : (d o : Bool) (x : Option ObjectId) (q : ℕ) → is_at q (if d && o then x else None) ≡ true → d ≡ true
due_some true o x q h = refl
due_some false o x q h = absurd (let z : ⊥ = cc in z)

returns_some : (q : ℕ) (p : Place) → is_returning_to q p ≡ true → is_some (returning_queue p) ≡ true
returns_some q (place.Returning x) h = refl
returns_some q _ h = absurd (let z : ⊥ = cc in z)

resumes_some : (d : Bool) (x : ObjectId) (q : ℕ) → is_at q (if d then Some x else None) ≡ true → d ≡ true
resumes_some true x q h = refl
resumes_some false x q h = absurd (let z : ⊥ = cc in z)

-- a request is counted for whatever queue
abbrev pub whole_test : {A : Type 0} → Herd → State A → ℕ → Bool
whole_test herd.Cancel S r = is_due (mark_of S.requests r)
whole_test herd.Return S r = is_some (returning_queue (place_of S.requests r))
whole_test herd.Stop S r = is_some (unasked_queue (holding_of S.power r))
whole_test herd.Resume S r = resume_due S.power r

pub whole_part : {A : Type 0} (h : Herd) (S : State A) (q r : ℕ) → is_counted h S q r ≡ true → whole_test h S r ≡ true
whole_part herd.Cancel S q r = due_some (is_due (mark_of S.requests r)) (is_owned (place_of S.requests r)) (request_of S.requests r).info.origin q
whole_part herd.Return S q r = returns_some q (place_of S.requests r)
whole_part herd.Stop S q r = at_some q (unasked_queue (holding_of S.power r))
whole_part herd.Resume S q r = resumes_some (resume_due S.power r) (holding_of S.power r).queue q

-- where as many are counted for a queue, they are all
pub whole_is : {A : Type 0} (h : Herd) (S : State A) (q : ℕ) → length (whole h S) ≡ length (counted h S q) → whole h S ≡ counted h S q
whole_is herd.Cancel S q many = all_pass (whole_test herd.Cancel S) (is_counted herd.Cancel S q) (whole_part herd.Cancel S q) (ids_of S.requests.all) many
whole_is herd.Return S q many = all_pass (whole_test herd.Return S) (is_counted herd.Return S q) (whole_part herd.Return S q) (ids_of S.requests.all) many
whole_is herd.Stop S q many = all_pass (whole_test herd.Stop S) (is_counted herd.Stop S q) (whole_part herd.Stop S q) (ids_of S.power.holdings) many
whole_is herd.Resume S q many = all_pass (whole_test herd.Resume S) (is_counted herd.Resume S q) (whole_part herd.Resume S q) (ids_of S.power.holdings) many

-- ---- what is offered

parts : (a e l v f k y : Bool) → (a && (e && l && v && f && (k && y))) ≡ ((true && (a && e && l && v && f) && k) && y)
parts false e l v f k y = refl
parts true false l v f k y = refl
parts true true false v f k y = refl
parts true true true false f k y = refl
parts true true true true false k y = refl
parts true true true true true k y = refl

declared_by : (d b k : Bool) → (d && b && k) ≡ true → (d ≡ true) × (k ≡ true)
declared_by d b k h = (both_left d b (both_left (d && b) k h), both_right (d && b) k h)

pub whole_range : (n : ℕ) → n - 0 ≡ n
whole_range n = omega arith

pub none_mapped : (f : ℕ → Option Event) → ((x : ℕ) → f x ≡ None) → (xs : List ℕ) → filter_map f xs ≡ []
none_mapped f e [] = refl
none_mapped f e (x ∷ xs) = ap (λ o. cons_option o (filter_map f xs)) (e x) ∙ none_mapped f e xs

module _ {A : Type 0} (plan : Plan) (m : Meaning A) (S : State A) (cpu q : ℕ) where
  ready_is : (h : Herd) (r : ℕ) → is_ready_for plan m S cpu (callback_for (rank_of h)) q (Some (handle_in plan S r)) ≡ is_due_for plan S h q r
  ready_is herd.Cancel r = refl
  ready_is herd.Return r = refl
  ready_is herd.Stop r = refl
  ready_is herd.Resume r = refl

  abbrev start : Herd → ℕ → Event
  start h r = starts_for plan S cpu (callback_for (rank_of h)) q r

  offered_start : (h : Herd) (r : ℕ) → offered plan m S (herd_group h cpu q) r ≡ (if may plan m S (start h r) then Some (start h r) else None)
  offered_start herd.Cancel r = refl
  offered_start herd.Return r = refl
  offered_start herd.Stop r = refl
  offered_start herd.Resume r = refl

  places_are : (h : Herd) → places_in plan S (herd_group h cpu q) ≡ places_if (declares plan (callback_for (rank_of h)) q) (length S.requests.all)
  places_are herd.Cancel = refl
  places_are herd.Return = refl
  places_are herd.Stop = refl
  places_are herd.Resume = refl

  module _ (h : Herd) (exact : IsExact plan S h q) where
    may_is : declares plan (callback_for (rank_of h)) q ≡ true → (r : ℕ) → may plan m S (start h r) ≡ (may_begin plan S h cpu q && is_counted h S q r)
    may_is told r =
        let c = callback_for (rank_of h) in
        sym (start_parts_for plan m S cpu c q r)
        ∙ ap (λ b. is_cpu plan (cpu_of cpu) && (declares_in plan S c q && life_fits S c q && level_fits S cpu (callback_irql plan c q) && is_free_if_any S.locks (lock_of_callback plan c q (declared_in plan S q)) && b)) (ready_is h r ∙ exact.due r)
        ∙ parts (is_cpu plan (cpu_of cpu)) (declares_in plan S c q) (life_fits S c q) (level_fits S cpu (callback_irql plan c q)) (is_free_if_any S.locks (lock_of_callback plan c q (declared_in plan S q))) (can_be plan S h q) (is_counted h S q r)
        ∙ ap (λ b. (b && begins_on plan S cpu c q && can_be plan S h q) && is_counted h S q r) (sym told)

    from_is : declares plan (callback_for (rank_of h)) q ≡ true → offered_from plan m S (herd_group h cpu q) 0 ≡ filter_map (offered plan m S (herd_group h cpu q)) (ids_of S.requests.all)
    from_is told =
        ap (λ n. filter_map (offered plan m S (herd_group h cpu q)) (range_with_len 0 n))
        (whole_range (places_in plan S (herd_group h cpu q)) ∙ places_are h ∙ ap (λ b. places_if b (length S.requests.all)) told)

    -- nothing, where it may not begin
    none_by : (b : Bool) → declares plan (callback_for (rank_of h)) q ≡ b → may_begin plan S h cpu q ≡ false → offered_from plan m S (herd_group h cpu q) 0 ≡ []
    none_by true told off =
        from_is told
        ∙ none_mapped (offered plan m S (herd_group h cpu q))
        (λ r. offered_start h r ∙ ap (λ b. if b then Some (start h r) else None) (may_is told r ∙ ap (λ b. b && is_counted h S q r) off)) (ids_of S.requests.all)
    none_by false told off =
        ap (λ n. filter_map (offered plan m S (herd_group h cpu q)) (range_with_len 0 n))
        (whole_range (places_in plan S (herd_group h cpu q)) ∙ places_are h ∙ ap (λ b. places_if b (length S.requests.all)) told)

    pub begins : may_begin plan S h cpu q ≡ true → (declares plan (callback_for (rank_of h)) q ≡ true) × (can_be plan S h q ≡ true)
    begins on = let c = callback_for (rank_of h) in declared_by (declares plan c q) (begins_on plan S cpu c q) (can_be plan S h q) on

    gives : may_begin plan S h cpu q ≡ true → (r : ℕ) → offered plan m S (herd_group h cpu q) r ≡ (if is_due_for plan S h q r then Some (start h r) else None)
    gives on r =
        let both = begins on in
        offered_start h r ∙ ap (λ b. if b then Some (start h r) else None) (may_is both.0 r ∙ ap (λ b. b && is_counted h S q r) on ∙ sym (due_is plan S q h exact both.1 r))

    len_by : (b : Bool) → may_begin plan S h cpu q ≡ b → length (offered_from plan m S (herd_group h cpu q) 0) ≡ (if b then length (counted h S q) else 0)
    len_by true on =
        let both = begins on in
        ap length (from_is both.0) ∙ mapped_len (offered plan m S (herd_group h cpu q)) (is_due_for plan S h q) (start h) (gives on) (ids_of S.requests.all)
        ∙ ap length (sym (counted_are plan S q h exact both.1))
    len_by false off = ap length (none_by (declares plan (callback_for (rank_of h)) q) refl off)

    -- as many as are counted for the queue, where it may begin
    pub herd_is : length (offered_from plan m S (herd_group h cpu q) 0) ≡ (if may_begin plan S h cpu q then length (counted h S q) else 0)
    herd_is = len_by (may_begin plan S h cpu q) refl

    -- and the k-th is for the k-th of these
    pub herd_at_is : may_begin plan S h cpu q ≡ true → (k : ℕ) → slice_get (offered_from plan m S (herd_group h cpu q) 0) k ≡ option_map (start h) (slice_get (due_for plan S h q) k)
    herd_at_is on k =
        let both = begins on in
        ap (λ es. slice_get es k) (from_is both.0) ∙ mapped_at (offered plan m S (herd_group h cpu q)) (is_due_for plan S h q) (start h) (gives on) (ids_of S.requests.all) k

    -- what is there may begin, and is as many as those for which it is due
    pub begun : (k : ℕ) → k < length (offered_from plan m S (herd_group h cpu q) 0) → may_begin plan S h cpu q ≡ true
    begun k low = by (may_begin plan S h cpu q) refl
      where
        by : (b : Bool) → may_begin plan S h cpu q ≡ b → b ≡ true
        by true e = refl
        by false e = absurd (let none = len_by false e in omega arith)

    pub due_number : may_begin plan S h cpu q ≡ true → length (offered_from plan m S (herd_group h cpu q) 0) ≡ length (due_for plan S h q)
    due_number on = len_by true on ∙ ap length (counted_are plan S q h exact (begins on).1)

-- where none is counted
pub else_none : (b : Bool) (n len : ℕ) → n ≡ len → len ≤ 0 → (if b then n else 0) ≡ 0
else_none true n len is none = omega arith
else_none false n len is none = refl
