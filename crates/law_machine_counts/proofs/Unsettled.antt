-- What power says of a device's unsettled requests is what the requests say of them.
use Rattle.std.proofs.Common.{if◌then◌else◌, ◌≡◌, ◌≢◌, ℕ, zero, suc, ◌+◌, ◌==◌, ◌<◌, ◌≤◌, nat_lt, Bool, true, false, not, ◌&&◌, ◌||◌, List, [], ◌∷◌, ◌⊎◌, inl, inr, Option, Some, None, option_map, unwrap_or, map, take, length, count_by, slice_get, refl, ap, sym, ◌∙◌, arith}
use Rattle.std.specs.List.{flat_map, list_all, range_with_len}
use Rattle.std.proofs.lemmas.Bool.{cases_lt, eqb-true}
use Rattle.std.proofs.lemmas.Bool.Decides.{nat_tests}
use Rattle.std.proofs.lemmas.List.Sums.{length-filter}
use Rattle.wdf_base.specs.declared.plan.Plan.{Plan}
use Rattle.wdf_base.specs.declared.declared.Declared.{Declared}
use Rattle.wdf_base.specs.declared.declared.QueueInfo.{QueueInfo}
use Rattle.wdf_base.specs.Plan.{declared_of}
use Rattle.wdf_model.specs.Tables.{contains, entry, ids_of, flag, same_id}
use Rattle.wdf_model.specs.Plans.{as_queue, declared_ids, devices_of, is_managed, is_queue_of, managed_queues, queue_of, queues_of}
use Rattle.wdf_model.specs.parts.Requests.{no_request, origin_of, request_of}
use Rattle.wdf_model.specs.parts.Power.{Power, acknowledged, holding_of, is_unsettled_at, no_holding, no_queue_power, opening_power, opening_queue_power, queue_power, unsettled}
use Rattle.wdf_model.specs.State.{State, held_from, is_held_from, is_with_driver}
use Rattle.wdf_model.specs.rules.Ready.{state_after}
use Rattle.law_machine_base.specs.Agreement.{managed_origin, unsettled_agrees, unsettled_of}
use Rattle.wdf_model.proofs.Maps.{entry_past}
use Rattle.wdf_model.proofs.Tests.{both, itself}
use Rattle.wdf_model.proofs.Counts.{equal, not_equal, one_or_two}
use Rattle.law_machine_counts.specs.AtPlaces.{AtEachPlace}
use Rattle.law_machine_counts.proofs.Totals.{one_changes}
use Rattle.law_machine_counts.proofs.Exchanges.{all_joined, all_kept, contained, filtered_count, implied, joined_filters, no_more, none_passes}
use Rattle.law_machine_counts.proofs.Holding.{HoldsIn, holder}
use Rattle.law_machine_counts.proofs.HeldOverRuns.{each_passes, from_by, holds_at_each}
use Rattle.law_machine_counts.proofs.PowerQueues.{queues_at_each}

-- ---- queues of the plan

within_declared : (ds : List Declared) (k : ℕ) (d : Declared) → slice_get ds k ≡ Some d → k < length ds
within_declared [] k d h = absurd (let z : ⊥ = cc in z)
within_declared (x ∷ xs) zero d h = omega arith
within_declared (x ∷ xs) (suc k) d h = let e = within_declared xs k d h in omega arith

-- a power-managed queue is declared
managed_within : (plan : Plan) (o : ℕ) (found : Option Declared) → declared_of plan o ≡ found → unwrap_or (option_map (λ (i : QueueInfo). i.powered) (as_queue found)) false ≡ true
    → (0 < o) × (o < suc (length plan.declared))
managed_within plan zero None e h = absurd (let z : ⊥ = cc in z)
managed_within plan zero (Some d) e h = absurd (let z : ⊥ = cc in z)
managed_within plan (suc k) None e h = absurd (let z : ⊥ = cc in z)
managed_within plan (suc k) (Some d) e h = let inside = within_declared plan.declared k d e in (omega arith, omega arith)

-- and its device is the one of which it is a queue
device_by : (d : ℕ) (i : Option QueueInfo) → unwrap_or (option_map (λ (x : QueueInfo). x.powered) i) false ≡ true → (unwrap_or (option_map (λ (x : QueueInfo). x.device.0) i) 0 == d) ≡ is_queue_of d i
device_by d None h = absurd (let z : ⊥ = cc in z)
device_by d (Some i) h = refl

pub entry_of_range : {X : Type 0} (blank : X) (f : ℕ → X) (a n k : ℕ) → k < n → entry blank (map f (range_with_len a n)) k ≡ f (a + k)
entry_of_range blank f a zero k h = absurd (omega arith)
entry_of_range blank f a (suc n) zero h = ap f (let e : a ≡ a + 0 = omega arith in e)
entry_of_range blank f a (suc n) (suc k) h = entry_of_range blank f (a + 1) n k (omega arith) ∙ ap f (let e : (a + 1) + k ≡ a + suc k = omega arith in e)

-- what power knows of a power-managed queue
known : (plan : Plan) (P : Power) (d o : ℕ) → P.queues ≡ (opening_power plan).queues → is_managed plan o ≡ true → ((queue_power P o).device.0 == d) ≡ is_queue_of d (queue_of plan o)
known plan P d o same h =
    let inside = managed_within plan o (declared_of plan o) refl h in
    let it : queue_power P o ≡ opening_queue_power plan o = ap (λ qs. entry no_queue_power qs o) same ∙ entry_of_range no_queue_power (opening_queue_power plan) 0 (suc (length plan.declared)) o inside.1 ∙ ap (opening_queue_power plan) (let e : 0 + o ≡ o = omega arith in e) in
    ap (λ q. q.device.0 == d) it ∙ device_by d (queue_of plan o) h

-- ---- one request

-- a request that is held from this queue, acknowledged or not, is unsettled at a device
abbrev unsettled_by : Plan → ℕ → Bool → Option ℕ → Bool
unsettled_by plan d open_ None = false
unsettled_by plan d open_ (Some o) = is_queue_of d (queue_of plan o) && (is_managed plan o && open_)

-- by its holding
abbrev by_queue : Power → ℕ → Bool → ℕ → Bool
by_queue P d open_ q = nat_lt 0 q && (queue_power P q).device.0 == d && open_

positive_id : (o : ℕ) → 0 < o → nat_lt 0 o ≡ true
positive_id o h = grind (arith, nat_tests)

turned : (a b : Bool) → (true && a && b) ≡ (a && (true && b))
turned true b = refl
turned false b = refl

no_and : (a b : Bool) → (a && (false && b)) ≡ false
no_and true b = refl
no_and false b = refl

by_managed : (plan : Plan) (P : Power) (d o : ℕ) (open_ b : Bool) → P.queues ≡ (opening_power plan).queues → is_managed plan o ≡ b
    → by_queue P d open_ (if b then o else 0) ≡ (is_queue_of d (queue_of plan o) && (b && open_))
by_managed plan P d o open_ true same h =
    let inside = managed_within plan o (declared_of plan o) refl h in
    rw (positive_id o inside.0, known plan P d o same h) (turned (is_queue_of d (queue_of plan o)) open_)
by_managed plan P d o open_ false same h = sym (no_and (is_queue_of d (queue_of plan o)) open_)

by_holder : (plan : Plan) (P : Power) (d : ℕ) (open_ : Bool) (from : Option ℕ) → P.queues ≡ (opening_power plan).queues → by_queue P d open_ (managed_origin plan from) ≡ unsettled_by plan d open_ from
by_holder plan P d open_ None same = refl
by_holder plan P d open_ (Some o) same = by_managed plan P d o open_ (is_managed plan o) same refl ∙ refl

-- ---- one request, over the device's queues

-- whether a power-managed queue of the device is the one from which it is held
abbrev it_is : Plan → ℕ → Bool → Option ℕ → ℕ → Bool
it_is plan d open_ from q = is_queue_of d (queue_of plan q) && (is_managed plan q && (same_id from q && open_))

ends_false : (a b c : Bool) → (a && (b && (false && c))) ≡ false
ends_false true true c = refl
ends_false true false c = refl
ends_false false b c = refl

isnt : (plan : Plan) (d : ℕ) (open_ : Bool) (o q : ℕ) → q ≢ o → it_is plan d open_ (Some o) q ≡ false
isnt plan d open_ o q n = rw (not_equal o q (λ e. n (sym e))) (ends_false (is_queue_of d (queue_of plan q)) (is_managed plan q) open_)

is_itself : (plan : Plan) (d : ℕ) (open_ : Bool) (o : ℕ) → it_is plan d open_ (Some o) o ≡ unsettled_by plan d open_ (Some o)
is_itself plan d open_ o = rw (itself o) refl

counted_by : (plan : Plan) (d : ℕ) (open_ : Bool) (o : ℕ) (b : Bool) → is_managed plan o ≡ b → count_by (it_is plan d open_ (Some o)) (declared_ids plan) ≡ flag (unsettled_by plan d open_ (Some o))
counted_by plan d open_ o true h =
    let inside = managed_within plan o (declared_of plan o) refl h in
    let high : o < 0 + suc (length plan.declared) = let i = inside.1 in omega arith in
    let change : count_by (it_is plan d open_ (Some o)) (declared_ids plan) + 0 ≡ count_by (λ (q : ℕ). false) (declared_ids plan) + flag (it_is plan d open_ (Some o) o) = one_changes (λ q. false) (it_is plan d open_ (Some o)) o 0 (suc (length plan.declared)) (omega arith) high (λ q n. isnt plan d open_ o q n) in
    let none : count_by (λ (q : ℕ). false) (declared_ids plan) ≡ 0 = none_passes (λ q. false) 0 (suc (length plan.declared)) (λ q above. refl) in
    let it : flag (it_is plan d open_ (Some o) o) ≡ flag (unsettled_by plan d open_ (Some o)) = ap flag (is_itself plan d open_ o) in
    omega arith
counted_by plan d open_ o false h =
    let not_it : unsettled_by plan d open_ (Some o) ≡ false = rw h (no_and (is_queue_of d (queue_of plan o)) open_) in
    none_passes (it_is plan d open_ (Some o)) 0 (suc (length plan.declared))
    (λ q above. elim (one_or_two q o) [
      | inl e ↦ rw e (is_itself plan d open_ o ∙ not_it)
      | inr n ↦ isnt plan d open_ o q n
    ])
    ∙ sym (ap flag not_it)

counted_from : (plan : Plan) (d : ℕ) (open_ : Bool) (from : Option ℕ) → count_by (it_is plan d open_ from) (declared_ids plan) ≡ flag (unsettled_by plan d open_ from)
counted_from plan d open_ None = none_passes (it_is plan d open_ None) 0 (suc (length plan.declared)) (λ q above. ends_false (is_queue_of d (queue_of plan q)) (is_managed plan q) open_)
counted_from plan d open_ (Some o) = counted_by plan d open_ o (is_managed plan o) refl

counted_once : (plan : Plan) (d : ℕ) (open_ : Bool) (from : Option ℕ) → count_by (λ q. same_id from q && open_) (managed_queues plan d) ≡ flag (unsettled_by plan d open_ from)
counted_once plan d open_ from =
    filtered_count (λ q. same_id from q && open_) (is_managed plan) (queues_of plan d)
    ∙ filtered_count (λ q. is_managed plan q && (same_id from q && open_)) (λ q. is_queue_of d (queue_of plan q)) (declared_ids plan)
    ∙ counted_from plan d open_ from

-- ---- all requests

-- a request that is held from a power-managed queue of the device
told_by : (plan : Plan) (d : ℕ) (open_ : Bool) (q : ℕ) (from : Option ℕ) → same_id from q ≡ true → is_queue_of d (queue_of plan q) ≡ true → is_managed plan q ≡ true → open_ ≡ true → unsettled_by plan d open_ from ≡ true
told_by plan d open_ q None e at managed o = absurd (let z : ⊥ = cc in z)
told_by plan d open_ q (Some p) e at managed o = let it : p ≡ q = eqb-true p q e in rw (it, at, managed, o) refl

abbrev passes : {A : Type 0} → State A → ℕ → ℕ → Bool
passes S d r = is_unsettled_at S.power d (holding_of S.power r)

module _ {A : Type 0} (plan : Plan) (S : State A) (h : HoldsIn plan S) (same : S.power.queues ≡ (opening_power plan).queues) (d : ℕ) where
  passes_by : (r : ℕ) → passes S d r ≡ unsettled_by plan d (not (acknowledged S.power r)) (holder S.requests S.targets r)
  passes_by r = ap (λ q. by_queue S.power d (not (acknowledged S.power r)) q) (h.holdings r) ∙ by_holder plan S.power d (not (acknowledged S.power r)) (holder S.requests S.targets r) same

  from_same : (q r : ℕ) → is_held_from S q r ≡ same_id (holder S.requests S.targets r) q
  from_same q r = from_by (is_with_driver S r) (origin_of S.requests r) q

  once : (r : ℕ) → count_by (λ q. is_held_from S q r && not (acknowledged S.power r)) (managed_queues plan d) ≡ flag (passes S d r)
  once r =
      ap (λ (f : ℕ → Bool). count_by f (managed_queues plan d)) (λ i q. from_same q r i && not (acknowledged S.power r))
      ∙ counted_once plan d (not (acknowledged S.power r)) (holder S.requests S.targets r) ∙ ap flag (sym (passes_by r))

  beyond_requests : (r : ℕ) → length S.requests.all ≤ r → passes S d r ≡ false
  beyond_requests r above =
      let none : request_of S.requests r ≡ no_request = entry_past no_request S.requests.all r above in
      let unheld : holder S.requests S.targets r ≡ None = rw none refl in
      passes_by r ∙ ap (unsettled_by plan d (not (acknowledged S.power r))) unheld

  beyond_holdings : (r : ℕ) → length S.power.holdings ≤ r → passes S d r ≡ false
  beyond_holdings r above = ap (is_unsettled_at S.power d) (entry_past no_holding S.power.holdings r above)

  as_many : length (unsettled S.power d) ≡ length (unsettled_of plan S d)
  as_many =
      let R = length S.requests.all in
      let H = length S.power.holdings in
      let swapped : H + R ≡ R + H = omega arith in
      length-filter (passes S d) (ids_of S.power.holdings)
      ∙ sym (no_more (passes S d) 0 H R (λ r above. beyond_holdings r (omega arith)))
      ∙ ap (λ n. count_by (passes S d) (range_with_len 0 n)) swapped
      ∙ no_more (passes S d) 0 R H (λ r above. beyond_requests r (omega arith))
      ∙ sym (joined_filters (λ r. not (acknowledged S.power r)) (passes S d) (is_held_from S) (managed_queues plan d) (ids_of S.requests.all) once)
      ∙ sym (length-filter (λ r. not (acknowledged S.power r)) (flat_map (held_from S) (managed_queues plan d)))

  inside_holdings : (r : ℕ) → passes S d r ≡ true → (r < length S.power.holdings) ⊎ (length S.power.holdings ≤ r) → r < length S.power.holdings
  inside_holdings r p (inl within) = within
  inside_holdings r p (inr above) = absurd (let never = beyond_holdings r above in let z : ⊥ = cc in z)

  told : (q r : ℕ) → is_queue_of d (queue_of plan q) ≡ true → is_managed plan q ≡ true → is_held_from S q r ≡ true → not (acknowledged S.power r) ≡ true → contains r (unsettled S.power d) ≡ true
  told q r at managed held open_ =
      let p : passes S d r ≡ true = passes_by r ∙ told_by plan d (not (acknowledged S.power r)) q (holder S.requests S.targets r) (sym (from_same q r) ∙ held) at managed open_ in
      let inside : r < 0 + length S.power.holdings = let i = inside_holdings r p (cases_lt r (length S.power.holdings)) in omega arith in
      contained (passes S d) r 0 (length S.power.holdings) p (omega arith) inside

  each_told : list_all (λ r. contains r (unsettled S.power d)) (unsettled_of plan S d) ≡ true
  each_told =
      all_kept (λ r. contains r (unsettled S.power d)) (λ r. not (acknowledged S.power r)) (flat_map (held_from S) (managed_queues plan d))
      (all_joined (λ r. not (not (acknowledged S.power r)) || contains r (unsettled S.power d)) (held_from S) (managed_queues plan d)
      (all_kept (λ q. list_all (λ r. not (not (acknowledged S.power r)) || contains r (unsettled S.power d)) (held_from S q)) (is_managed plan) (queues_of plan d)
      (all_kept (λ q. not (is_managed plan q) || list_all (λ r. not (not (acknowledged S.power r)) || contains r (unsettled S.power d)) (held_from S q)) (λ q. is_queue_of d (queue_of plan q)) (declared_ids plan)
      (each_passes (λ q. not (is_queue_of d (queue_of plan q)) || (not (is_managed plan q) || list_all (λ r. not (not (acknowledged S.power r)) || contains r (unsettled S.power d)) (held_from S q)))
      (λ q. implied (is_queue_of d (queue_of plan q)) _ (λ at. implied (is_managed plan q) _ (λ managed.
      all_kept (λ r. not (not (acknowledged S.power r)) || contains r (unsettled S.power d)) (is_held_from S q) (ids_of S.requests.all)
      (each_passes (λ r. not (is_held_from S q r) || (not (not (acknowledged S.power r)) || contains r (unsettled S.power d)))
      (λ r. implied (is_held_from S q r) _ (λ held. implied (not (acknowledged S.power r)) _ (λ open_. told q r at managed held open_)))
      (ids_of S.requests.all)))))
      (declared_ids plan)))))

  pub unsettled_match : (length (unsettled S.power d) == length (unsettled_of plan S d) && list_all (λ r. contains r (unsettled S.power d)) (unsettled_of plan S d)) ≡ true
  unsettled_match = both (length (unsettled S.power d) == length (unsettled_of plan S d)) _ (equal (length (unsettled S.power d)) (length (unsettled_of plan S d)) as_many) each_told

-- ---- the law

pub unsettled_agrees_at_each : {A : Type 0} → AtEachPlace {A = A} unsettled_agrees
unsettled_agrees_at_each plan m run is_run n =
    let S = state_after plan m (take n run) in
    each_passes (λ d. length (unsettled S.power d) == length (unsettled_of plan S d) && list_all (λ r. contains r (unsettled S.power d)) (unsettled_of plan S d))
    (λ d. unsettled_match plan S (holds_at_each plan m run is_run n) (queues_at_each plan m run is_run n) d) (devices_of plan)
