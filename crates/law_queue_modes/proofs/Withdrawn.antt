-- What a purge leaves of each request.
use Rattle.std.proofs.Common.{if◌then◌else◌, ◌≡◌, ◌≢◌, ℕ, suc, ◌+◌, ◌≤◌, ◌==◌, Bool, true, false, not, ◌&&◌, List, [], ◌∷◌, inl, inr, Some, count_by, fold, slice_get, take, refl, sym, ap, subst, ◌∙◌, arith}
use Rattle.wdf_base.specs.Meaning.{Meaning}
use Rattle.wdf_base.specs.declared.plan.Plan.{Plan}
use Rattle.wdf_base.specs.declared.value.Status.TheVariants as status
use Rattle.wdf_base.specs.declared.object.Place.{Place}
use Rattle.wdf_base.specs.declared.object.Place.TheVariants as place
use Rattle.wdf_base.specs.declared.call.Arg.{Arg}
use Rattle.wdf_base.specs.declared.call.Call.{Call}
use Rattle.wdf_base.specs.declared.call.CallKind.{CallKind}
use Rattle.wdf_base.specs.declared.call.CallKind.TheVariants as call
use Rattle.wdf_base.specs.declared.event.Event.{Event}
use Rattle.wdf_base.specs.declared.event.Event.TheVariants as event
use Rattle.wdf_base.specs.Places.{is_queued_in}
use Rattle.std.proofs.lemmas.Bool.{eqb-true}
use Rattle.wdf_model.specs.declared.entries.Request.{Request}
use Rattle.wdf_model.specs.declared.enums.Mode.TheVariants.{Purged}
use Rattle.wdf_model.specs.Tables.{flag, without}
use Rattle.wdf_model.specs.Plans.{declares, device_of_queue}
use Rattle.wdf_base.specs.declared.call.Callback.TheVariants as callback
use Rattle.wdf_model.specs.parts.Requests.{Requests, cancel, cancelled, moved, place_of, request_of}
use Rattle.wdf_model.specs.parts.Queues.{Queues, waiting_in}
use Rattle.wdf_model.specs.parts.Control.{Control, control_of, is_closed, set_mode, with_control}
use Rattle.wdf_model.specs.State.{State, is_powered, object_in, returns_to, withdrawn_place}
use Rattle.wdf_model.specs.Ids.{object_id}
use Rattle.wdf_model.specs.declared.deed.Deed.TheVariants.{PurgeQueue}
use Rattle.wdf_model.specs.rules.Deeds.{do_deed, do_deeds, withdraw}
use Rattle.wdf_model.specs.rules.Calls.{outcome}
use Rattle.wdf_model.specs.rules.Steps.{after, may}
use Rattle.wdf_model.specs.rules.Ready.{IsRunOf, state_after}
use Rattle.wdf_model.proofs.Runs.{take_next}
use Rattle.wdf_model.proofs.Counts.{count_cons, equal, not_equal, one_or_two}
use Rattle.wdf_model.proofs.Tests.{both_left, both_right, itself}
use Rattle.law_machine_base.specs.OverRuns.{PlacesAgree}
use Rattle.law_machine_base.proofs.Follows.{state_goes_on}
use Rattle.law_machine_base.proofs.KeptMoves.{queued_once, request_elsewhere, request_here}
use Rattle.law_machine_base.proofs.LawsOverRuns.{places_agree}
use Rattle.law_machine_base.proofs.OwnEvents.{did_tells, waiting_tells}
use Rattle.law_machine_deeds.specs.MayDo.{purges}
use Rattle.law_machine_lives.proofs.Keeping.{comes}
use Rattle.law_machine_lives.proofs.ReasonsOfCalls.{call_of}
use Rattle.law_trace_requests.proofs.FirstParts.{did_after, waiting_after}
use Rattle.law_trace_requests.proofs.Lines.{each_in}
use Rattle.law_queue_modes.specs.Modes.{PurgeLeaves, is_purge_of}
use Rattle.law_queue_modes.proofs.Empty.{all_leave, leaves, withdrawn_line}

-- the parts of a state of which this speaks
abbrev lists_in : {A : Type 0} → State A → Queues × Requests
lists_in S = (S.queues, S.requests)

-- a purge closes no device
still_closed : (C : Control) (q : ℕ) (b : Bool) (d : ℕ) → is_closed (if b then C else with_control C q (λ c. record c { mode = Purged })) d ≡ is_closed C d
still_closed C q true d = refl
still_closed C q false d = refl

-- ---- lines that nothing leaves

absent_by : (r x : ℕ) (xs : List ℕ) (b : Bool) → (x == r) ≡ b → flag b + count_by (λ y. y == r) xs ≡ 0 → (count_by (λ y. y == r) xs ≡ 0 → without r xs ≡ xs) → (if not b then x ∷ without r xs else without r xs) ≡ x ∷ xs
absent_by r x xs true e none rest = absurd (omega arith)
absent_by r x xs false e none rest = ap (λ ys. x ∷ ys) (rest (omega arith))

absent : (r : ℕ) (xs : List ℕ) → count_by (λ y. y == r) xs ≡ 0 → without r xs ≡ xs
absent r [] none = refl
absent r (x ∷ xs) none = absent_by r x xs (x == r) refl (sym (count_cons (λ y. y == r) x xs) ∙ none) (absent r xs)

none_leaves : (rs xs : List ℕ) → ((r : ℕ) → 1 ≤ count_by (λ y. y == r) rs → count_by (λ y. y == r) xs ≡ 0) → fold leaves xs rs ≡ xs
none_leaves [] xs off = refl
none_leaves (r ∷ rs) xs off =
    ap (λ ys. fold leaves ys rs) (absent r xs (off r (let c = count_cons (λ y. y == r) r rs in let f : flag (r == r) ≡ 1 = ap flag (itself r) in omega arith)))
    ∙ none_leaves rs xs (λ y more. off y (let c = count_cons (λ z. z == y) r rs in omega arith))

-- what waits in one queue waits in no other
line_apart : {A : Type 0} (S : State A) (q p : ℕ) → PlacesAgree S → p ≢ q → (r : ℕ) → 1 ≤ count_by (λ y. y == r) (waiting_in S.queues q) → count_by (λ y. y == r) (waiting_in S.queues p) ≡ 0
line_apart S q p places n r more = places.queued p r ∙ ap flag (queued_once q p (place_of S.requests r) (flagged (is_queued_in q (place_of S.requests r)) (let c = places.queued q r in omega arith)) n)
  where
    flagged : (b : Bool) → 1 ≤ flag b → b ≡ true
    flagged true h = refl
    flagged false h = absurd (omega arith)

module _ {A : Type 0} (plan : Plan) (q : ℕ) where
  -- ---- one request is withdrawn

  -- where a request with these facts goes
  abbrev goes : State A → Request → Place
  goes S y = if y.info.received && returns_to plan S q then place.Returning (record { 0 = q }) else place.Closing status.Cancelled

  abbrev taken : State A → ℕ → Request
  taken S r = moved (goes S (request_of S.requests r)) (cancelled (request_of S.requests r))

  taken_here : (S : State A) (r : ℕ) → request_of (withdraw plan q S r).requests r ≡ taken S r
  taken_here S r = request_here (cancel S.requests r) r (moved (withdrawn_place plan S q r)) ∙ ap (moved (withdrawn_place plan S q r)) (request_here S.requests r cancelled)

  as_before : (S : State A) (x r : ℕ) → (r ≡ x → ⊥) → request_of (withdraw plan q S x).requests r ≡ request_of S.requests r
  as_before S x r n = request_elsewhere (cancel S.requests x) x r (moved (withdrawn_place plan S q x)) n ∙ request_elsewhere S.requests x r cancelled n

  -- ---- all that wait are

  untouched : (rs : List ℕ) (S : State A) (r : ℕ) → count_by (λ x. x == r) rs ≡ 0 → request_of (fold (withdraw plan q) S rs).requests r ≡ request_of S.requests r
  untouched [] S r none = refl
  untouched (x ∷ rs) S r none =
      let c : count_by (λ y. y == r) (x ∷ rs) ≡ flag (x == r) + count_by (λ y. y == r) rs = count_cons (λ y. y == r) x rs in
      untouched rs (withdraw plan q S x) r (omega arith)
      ∙ as_before S x r (λ same. let f : flag (x == r) ≡ 1 = ap flag (equal x r (sym same)) in omega arith)

  each_taken : (rs : List ℕ) (S : State A) (r : ℕ) → count_by (λ x. x == r) rs ≡ 1 → request_of (fold (withdraw plan q) S rs).requests r ≡ taken S r
  each_taken [] S r one = absurd (omega arith)
  each_taken (x ∷ rs) S r one =
      let c : count_by (λ y. y == r) (x ∷ rs) ≡ flag (x == r) + count_by (λ y. y == r) rs = count_cons (λ y. y == r) x rs in
      elim (one_or_two r x) [
        | inl same ↦
            let f : flag (x == r) ≡ 1 = ap flag (equal x r (sym same)) in
            untouched rs (withdraw plan q S x) r (omega arith) ∙ subst (λ y. request_of (withdraw plan q S y).requests r ≡ taken S r) same (taken_here S r)
        | inr n ↦
            let f : flag (x == r) ≡ 0 = ap flag (not_equal x r (λ same. n (sym same))) in
            each_taken rs (withdraw plan q S x) r (omega arith) ∙ ap (λ y. moved (goes S y) (cancelled y)) (as_before S x r n)
      ]

  -- ---- the purge

  abbrev purging : State A → State A
  purging S = record S { control = set_mode S.control q Purged }

  goes_as_before : (S : State A) (y : Request) → goes (purging S) y ≡ goes S y
  goes_as_before S y = ap (λ b. if y.info.received && (declares plan callback.EvtIoCanceledOnQueue q && not b && is_powered plan S q) then place.Returning (record { 0 = q }) else place.Closing status.Cancelled)
      (still_closed S.control q (is_closed S.control (control_of S.control q).device.0) (device_of_queue plan q))

  purge_leaves : (S T : State A) → PlacesAgree S → lists_in T ≡ lists_in (do_deed plan (PurgeQueue (object_id q)) S) → PurgeLeaves plan q S T
  purge_leaves S T places e =
      let ws : List ℕ = waiting_in S.queues q in
      record {
        empty = ap (λ (l : Queues × Requests). waiting_in l.0 q) e ∙ withdrawn_line plan q ws (purging S) q ∙ all_leave ws ws (each_in ws);
        elsewhere = λ p n. ap (λ (l : Queues × Requests). waiting_in l.0 p) e ∙ withdrawn_line plan q ws (purging S) p ∙ none_leaves ws (waiting_in S.queues p) (line_apart S q p places n);
        cancelled = λ r h.
            let same : request_of T.requests r ≡ taken (purging S) r = ap (λ (l : Queues × Requests). request_of l.1 r) e ∙ each_taken ws (purging S) r (places.queued q r ∙ ap flag h) in
            (ap (λ (y : Request). y.info.cancelled) same, ap (λ (y : Request). y.place) same ∙ goes_as_before S (request_of S.requests r));
        others = λ r h. ap (λ (l : Queues × Requests). request_of l.1 r) e ∙ untouched ws (purging S) r (places.queued q r ∙ ap flag h);
      }

-- ---- the events that purge

module _ {A : Type 0} (plan : Plan) (S : State A) (cpu f n : ℕ) (a b x : Arg) where
  purges_by : (k : CallKind) → purges k ≡ true → do_deeds plan (outcome plan S cpu f (call_of k n a b x)).deeds S ≡ do_deed plan (PurgeQueue (object_id (object_in a))) S
  purges_by call.WdfIoQueuePurge h = refl
  purges_by call.WdfIoQueuePurgeSynchronously h = refl
  purges_by k h = absurd (let z : ⊥ = cc in z)

by_call : {A : Type 0} (plan : Plan) (S T : State A) (cpu f q : ℕ) (c : Call) → PlacesAgree S → (purges c.kind && object_in c.a == q) ≡ true
    → lists_in T ≡ lists_in (do_deeds plan (outcome plan S cpu f c).deeds S) → PurgeLeaves plan q S T
by_call plan S T cpu f q c places h e =
    let it : object_in c.a ≡ q = eqb-true (object_in c.a) q (both_right (purges c.kind) (object_in c.a == q) h) in
    subst (λ p. PurgeLeaves plan p S T) it (purge_leaves plan (object_in c.a) S T places (e ∙ ap lists_in (purges_by plan S cpu f c.count c.a c.b c.c c.kind (both_left (purges c.kind) (object_in c.a == q) h))))

by_event : {A : Type 0} (plan : Plan) (m : Meaning A) (S : State A) (e : Event) (q : ℕ) → may plan m S e ≡ true → is_purge_of q e ≡ true → PlacesAgree S → PurgeLeaves plan q S (after plan m S e)
by_event plan m S (event.Did cpu c v) q h is places = let t = did_tells plan m S cpu c v h in by_call plan S _ cpu.0 t.frame q c places is (did_after lists_in (λ T L C. refl) plan S cpu.0 c v t)
by_event plan m S (event.Waiting cpu c) q h is places = let t = waiting_tells plan m S cpu c h in by_call plan S _ cpu.0 t.frame q c places is (waiting_after lists_in (λ T L C. refl) plan S cpu.0 c t)
by_event plan m S e q h is places = absurd (let z : ⊥ = cc in z)

no_tick : (q : ℕ) (e : Event) (time : ℕ) → is_purge_of q e ≡ true → e ≡ event.Tick time → ⊥
no_tick q e time is same = let off : is_purge_of q e ≡ false = ap (is_purge_of q) same in let z : ⊥ = cc in z

pub purge_at : {A : Type 0} (plan : Plan) (m : Meaning A) (run : List Event) → IsRunOf plan m run → (n q : ℕ) (e : Event) → slice_get run n ≡ Some e → is_purge_of q e ≡ true
    → PurgeLeaves plan q (state_after plan m (take n run)) (state_after plan m (take (suc n) run))
purge_at {A} plan m run is_run n q e at is =
    let S : State A = state_after plan m (take n run) in
    let next : state_after plan m (take (suc n) run) ≡ after plan m S e = ap (state_after plan m) (take_next run n e at) ∙ state_goes_on plan m (take n run) e in
    subst (λ T. PurgeLeaves plan q S T) (sym next) (by_event plan m S e q (comes plan m run n e is_run at (λ time. no_tick q e time is)) is (places_agree plan m run is_run n))
