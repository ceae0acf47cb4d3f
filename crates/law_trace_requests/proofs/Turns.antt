-- A queue presents from its head: each presentation takes the front of a line, and who waited there was in order.
use Rattle.std.proofs.Common.{if◌then◌else◌, ◌≡◌, ℕ, zero, suc, ◌==◌, ◌<◌, ◌≤◌, Bool, true, false, not, ◌&&◌, ◌||◌, List, [], ◌∷◌, ◌++◌, inl, inr, Option, Some, None, drop, length, slice_get, take, refl, sym, ap, subst, ◌∙◌, arith}
use Rattle.std.proofs.lemmas.Bool.{eqb-true}
use Rattle.std.specs.List.{list_all}
use Rattle.wdf_base.specs.Meaning.{Meaning}
use Rattle.wdf_base.specs.declared.ids.Cpu.{Cpu}
use Rattle.wdf_base.specs.declared.ids.Handle.{Handle}
use Rattle.wdf_base.specs.declared.plan.Plan.{Plan}
use Rattle.wdf_base.specs.declared.value.Value.{Value}
use Rattle.wdf_base.specs.declared.value.Value.TheVariants.{Obj}
use Rattle.wdf_base.specs.declared.value.Status.TheVariants as status
use Rattle.wdf_base.specs.declared.rank.Rank.{Rank}
use Rattle.wdf_base.specs.declared.rank.Rank.TheVariants as rank
use Rattle.wdf_base.specs.declared.call.Arg.{Arg}
use Rattle.wdf_base.specs.declared.call.Arg.TheVariants.{Val}
use Rattle.wdf_base.specs.declared.call.Call.{Call}
use Rattle.wdf_base.specs.declared.call.CallKind.{CallKind}
use Rattle.wdf_base.specs.declared.call.CallKind.TheVariants as call
use Rattle.wdf_base.specs.declared.call.Callback.{Callback}
use Rattle.wdf_base.specs.declared.event.Event.{Event}
use Rattle.wdf_base.specs.declared.event.Event.TheVariants as event
use Rattle.wdf_base.specs.Callbacks.{row_of}
use Rattle.wdf_base.specs.Same.{same_call_kind}
use Rattle.wdf_model.specs.Tables.{contains, same_id}
use Rattle.wdf_model.specs.Plans.{callback_irql, is_parallel_queue}
use Rattle.wdf_model.specs.parts.Locks.{lock_of_callback}
use Rattle.wdf_model.specs.parts.Queues.{Queues, front, waiting_in}
use Rattle.wdf_model.specs.parts.Queues as queues
use Rattle.wdf_model.specs.State.{State, declared_in, object_in, queue_delivers}
use Rattle.wdf_model.specs.rules.Deeds.{do_deeds}
use Rattle.wdf_model.specs.rules.Calls.{Outcome, outcome, refused, retrieve_front, retrieve_outcome}
use Rattle.wdf_model.specs.rules.Starts.{effect_for, new_frame, next_number, rank_ready_for}
use Rattle.wdf_model.specs.rules.Steps.{after, may}
use Rattle.wdf_model.specs.Runs.{IsRun}
use Rattle.wdf_model.specs.rules.Ready.{IsRunOf, ready, state_after}
use Rattle.wdf_model.proofs.Tests.{both, both_left, both_right, first, itself}
use Rattle.wdf_model.proofs.Runs.{slice_get-take, take-take-below, take_ended, take_next, run_front}
use Rattle.law_machine_base.proofs.Follows.{state_goes_on}
use Rattle.wdf_model.proofs.Counts.{one_or_two}
use Rattle.wdf_model.proofs.Sames.{call_kind_decides}
use Rattle.law_machine_base.proofs.OwnEvents.{IsDid, did_tells}
use Rattle.wdf_laws.specs.declared.sign.Sign.TheVariants as sign
use Rattle.wdf_laws.specs.declared.sign.Taking.{Taking}
use Rattle.wdf_laws.specs.Events.{argument_object, is_handler, pair_of, presented, value_object, where_so}
use Rattle.wdf_laws.specs.Signs.{shows}
use Rattle.wdf_laws.specs.Words.{ever}
use Rattle.wdf_laws.specs.Laws.{all_in_turn, is_in_order, is_in_turn, is_presented_in_turn, law_8, presented_at, presented_in}
use Rattle.law_machine_base.proofs.KeptMoves.{queue_here}
use Rattle.law_machine_lives.proofs.Keeping.{comes}
use Rattle.law_machine_lives.proofs.ReasonsOfCalls.{call_of}
use Rattle.law_trace_requests.proofs.Happened.{ever_next}
use Rattle.law_trace_requests.proofs.FirstParts.{did_after, start_reads}
use Rattle.law_trace_requests.proofs.CancelsOverRuns.{started}
use Rattle.law_trace_requests.proofs.Lines.{all_more, each_in, first_before, first_passes, found_passes}
use Rattle.law_trace_requests.proofs.Entries.{LineSteps}
use Rattle.law_trace_requests.proofs.Orders.{in_order_at_each, next_each, steps_now}

-- ---- a presentation takes the front

pub record Takes {A : Type 0} (S T : State A) (t : Taking) : Type 0 where
  pub front : same_id (front S.queues t.queue) t.request ≡ true
  pub rest : waiting_in T.queues t.queue ≡ drop 1 (waiting_in S.queues t.queue)

taken_from : {A : Type 0} (S T : State A) (q r : ℕ) → same_id (front S.queues q) r ≡ true → T.queues ≡ queues.take S.queues q → Takes S T (record { request = r; queue = q })
taken_from S T q r h e = record { front = h; rest = ap (λ (Q : Queues). waiting_in Q q) e ∙ queue_here S.queues q (drop 1) }

none_taken : {X : Type 0} (b : Bool) (t : Taking) (q : Option ℕ) → pair_of (where_so b None) q ≡ Some t → X
none_taken true t q h = absurd (let z : ⊥ = cc in z)
none_taken false t q h = absurd (let z : ⊥ = cc in z)

handler_starts : {A : Type 0} (plan : Plan) (m : Meaning A) (S : State A) (cpu : Cpu) (c : Callback) (o r : Handle) (t : Taking) (k : Rank) → (row_of c).rank ≡ k → may plan m S (event.Start cpu c o (Some r)) ≡ true
    → pair_of (where_so (is_handler k) (Some r.id.0)) (Some o.id.0) ≡ Some t → Takes S (after plan m S (event.Start cpu c o (Some r))) t
handler_starts {A} plan m S cpu c o r t rank.Handler e h is =
    let ready_ : rank_ready_for plan S rank.Handler c o.id.0 r.id.0 ≡ true = subst (λ (k : Rank). rank_ready_for plan S k c o.id.0 r.id.0 ≡ true) e (started plan m S cpu c o (Some r) h) in
    let front_ : same_id (front S.queues o.id.0) r.id.0 ≡ true = search (both_left, both_right) in
    let same : (after plan m S (event.Start cpu c o (Some r))).queues ≡ queues.take S.queues o.id.0 =
    start_reads (λ (T : State A). T.queues) (λ T L C. refl) plan S (effect_for (row_of c).rank o.id.0 r.id.0) cpu.0 (next_number S) (new_frame plan S c o (Some r)) (callback_irql plan c o.id.0) (lock_of_callback plan c o.id.0 (declared_in plan S o.id.0))
    ∙ ap (λ (k : Rank). (do_deeds plan (effect_for k o.id.0 r.id.0) S).queues) e in
    let it : record { request = r.id.0; queue = o.id.0 } ≡ t = cc in
    subst (Takes S (after plan m S (event.Start cpu c o (Some r)))) it (taken_from S (after plan m S (event.Start cpu c o (Some r))) o.id.0 r.id.0 front_ same)
handler_starts plan m S cpu c o r t _ e h is = absurd (let z : ⊥ = cc in z)

start_takes : {A : Type 0} (plan : Plan) (m : Meaning A) (S : State A) (cpu : Cpu) (c : Callback) (o : Handle) (r : Option Handle) (t : Taking) → may plan m S (event.Start cpu c o r) ≡ true → presented (event.Start cpu c o r) ≡ Some t
    → Takes S (after plan m S (event.Start cpu c o r)) t
start_takes plan m S cpu c o None t h is = none_taken (is_handler (row_of c).rank) t (Some o.id.0) is
start_takes plan m S cpu c o (Some r) t h is = handler_starts plan m S cpu c o r t (row_of c).rank refl h is

-- what a call that takes the front answers
pub record Retrieves {A : Type 0} (plan : Plan) (S : State A) (q : ℕ) (o : Outcome) (t : Taking) : Type 0 where
  pub front : same_id (front S.queues q) t.request ≡ true
  pub queue : q ≡ t.queue
  pub taken : (do_deeds plan o.deeds S).queues ≡ queues.take S.queues q

module _ {A : Type 0} (plan : Plan) (S : State A) (q : ℕ) (t : Taking) where
  front_taken : (x : Option ℕ) → front S.queues q ≡ x → pair_of (value_object (retrieve_front plan S q x).answer) (Some q) ≡ Some t → Retrieves plan S q (retrieve_front plan S q x) t
  front_taken None e is = absurd (let z : ⊥ = cc in z)
  front_taken (Some r) e is =
      let it : record { request = r; queue = q } ≡ t = cc in
      record {
        front = subst (λ (u : Taking). same_id (front S.queues q) u.request ≡ true) it (rw e (itself r));
        queue = ap (λ (u : Taking). u.queue) it;
        taken = refl;
      }

  delivered : (b : Bool) → pair_of (value_object (if b then refused status.WdfPaused else retrieve_front plan S q (front S.queues q)).answer) (Some q) ≡ Some t
      → Retrieves plan S q (if b then refused status.WdfPaused else retrieve_front plan S q (front S.queues q)) t
  delivered true is = absurd (let z : ⊥ = cc in z)
  delivered false is = front_taken (front S.queues q) refl is

  retrieved : (b : Bool) → pair_of (value_object (if b then refused status.InvalidDeviceState else if not (queue_delivers plan S q) then refused status.WdfPaused else retrieve_front plan S q (front S.queues q)).answer) (Some q) ≡ Some t
      → Retrieves plan S q (if b then refused status.InvalidDeviceState else if not (queue_delivers plan S q) then refused status.WdfPaused else retrieve_front plan S q (front S.queues q)) t
  retrieved true is = absurd (let z : ⊥ = cc in z)
  retrieved false is = delivered (not (queue_delivers plan S q)) is

of_argument : (x : Option ℕ) (a : Arg) (t : Taking) → pair_of x (argument_object a) ≡ Some t → argument_object a ≡ Some (object_in a)
of_argument x (Val (Obj h)) t is = refl
of_argument None _ t is = absurd (let z : ⊥ = cc in z)
of_argument (Some r) _ t is = absurd (let z : ⊥ = cc in z)

abbrev RetrieveTakes : {A : Type 0} → Plan → State A → ℕ → ℕ → CallKind → Type 0
RetrieveTakes plan S cpu f k =
    (n : ℕ) (a b x : Arg) (v : Value) (t : Taking) → v ≡ (outcome plan S cpu f (call_of k n a b x)).answer → pair_of (value_object v) (argument_object a) ≡ Some t → Retrieves plan S (object_in a) (outcome plan S cpu f (call_of k n a b x)) t

retrieve_takes : {A : Type 0} (plan : Plan) (S : State A) (cpu f : ℕ) → RetrieveTakes plan S cpu f call.WdfIoQueueRetrieveNextRequest
retrieve_takes plan S cpu f n a b x v t answer is =
    let it : argument_object a ≡ Some (object_in a) = of_argument (value_object v) a t is in
    let here : pair_of (value_object (retrieve_outcome plan S (object_in a)).answer) (Some (object_in a)) ≡ Some t =
    sym (ap (λ (w : Value). pair_of (value_object w) (Some (object_in a))) answer) ∙ sym (ap (pair_of (value_object v)) it) ∙ is in
    retrieved plan S (object_in a) t (is_parallel_queue plan (object_in a)) here

kind_told : (b : Bool) (x y : Option ℕ) (t : Taking) → pair_of (where_so b x) y ≡ Some t → b ≡ true
kind_told true x y t h = refl
kind_told false x y t h = absurd (let z : ⊥ = cc in z)

did_takes : {A : Type 0} (plan : Plan) (m : Meaning A) (S : State A) (cpu : Cpu) (c : Call) (v : Value) (t : Taking) → may plan m S (event.Did cpu c v) ≡ true → presented (event.Did cpu c v) ≡ Some t → Takes S (after plan m S (event.Did cpu c v)) t
did_takes {A} plan m S cpu c v t h is =
    let d : IsDid plan S cpu.0 c v = did_tells plan m S cpu c v h in
    let kind_is : same_call_kind c.kind call.WdfIoQueueRetrieveNextRequest ≡ true = kind_told (same_call_kind c.kind call.WdfIoQueueRetrieveNextRequest) (value_object v) (argument_object c.a) t is in
    let told : pair_of (value_object v) (argument_object c.a) ≡ Some t = sym (ap (λ (b : Bool). pair_of (where_so b (value_object v)) (argument_object c.a)) kind_is) ∙ is in
    let g : Retrieves plan S (object_in c.a) (outcome plan S cpu.0 d.frame c) t =
    subst (RetrieveTakes plan S cpu.0 d.frame) (sym ((call_kind_decides c.kind call.WdfIoQueueRetrieveNextRequest).0 kind_is)) (retrieve_takes plan S cpu.0 d.frame) c.count c.a c.b c.c v t d.answer told in
    let same : (after plan m S (event.Did cpu c v)).queues ≡ queues.take S.queues (object_in c.a) =
    did_after (λ (T : State A). T.queues) (λ T L C. refl) plan S cpu.0 c v d ∙ g.taken in
    record {
      front = subst (λ (q : ℕ). same_id (front S.queues q) t.request ≡ true) g.queue g.front;
      rest = subst (λ (q : ℕ). waiting_in (after plan m S (event.Did cpu c v)).queues q ≡ drop 1 (waiting_in S.queues q)) g.queue (ap (λ (Q : Queues). waiting_in Q (object_in c.a)) same ∙ queue_here S.queues (object_in c.a) (drop 1));
    }

takes : {A : Type 0} (plan : Plan) (m : Meaning A) (S : State A) (e : Event) (t : Taking) → may plan m S e ≡ true → presented e ≡ Some t → Takes S (after plan m S e) t
takes plan m S (event.Start cpu c o r) t h is = start_takes plan m S cpu c o r t h is
takes plan m S (event.Did cpu c v) t h is = did_takes plan m S cpu c v t h is
takes plan m S _ t h is = absurd (let z : ⊥ = cc in z)

-- a tick presents nothing
no_tick : (e : Event) (t : Taking) → presented e ≡ Some t → (time : ℕ) → e ≡ event.Tick time → ⊥
no_tick (event.Did cpu c v) t is n same = let z : ⊥ = cc in z
no_tick _ t is n same = let z : ⊥ = cc in z

-- ---- who waits since an earlier place

drop_next : (xs : List Event) (k j : ℕ) (e : Event) → k ≤ j → slice_get xs j ≡ Some e → drop k (take (suc j) xs) ≡ drop k (take j xs) ++ e ∷ []
drop_next xs zero j e h at = take_next xs j e at
drop_next [] (suc k) zero e h at = absurd (omega arith)
drop_next [] (suc k) (suc j) e h at = absurd (let z : ⊥ = cc in z)
drop_next (x ∷ xs) (suc k) zero e h at = absurd (omega arith)
drop_next (x ∷ xs) (suc k) (suc j) e h at = drop_next xs k j e (omega arith) at

module _ {A : Type 0} (plan : Plan) (m : Meaning A) (run : List Event) (is_run : IsRunOf plan m run) where
  abbrev at_place : ℕ → State A
  at_place n = state_after plan m (take n run)

  steps_at : (j : ℕ) (e : Event) → slice_get run j ≡ Some e → LineSteps e (at_place j).queues (at_place (suc j)).queues
  unfolding IsRun
  steps_at j e at =
      subst (λ es. LineSteps e (at_place j).queues (state_after plan m es).queues) (sym (take_next run j e at))
      (steps_now plan m (take j run) e (is_run j e at).0 (run_front (ready plan m) run j is_run) (is_run j e at).1)

  -- what waits in a queue at a later place waited there at this one, or has entered since
  module _ (k q : ℕ) (T : ℕ → Bool) where
    abbrev since : ℕ → ℕ → Bool
    since j x = T x || ever (sign.Entry x) (drop k (take j run))

    next_since : (j : ℕ) → k ≤ j → list_all (since j) (waiting_in (at_place j).queues q) ≡ true → (found : Option Event) → slice_get run j ≡ found → list_all (since (suc j)) (waiting_in (at_place (suc j)).queues q) ≡ true
    next_since j h held None at = subst (λ es. list_all (λ x. T x || ever (sign.Entry x) (drop k es)) (waiting_in (state_after plan m es).queues q) ≡ true) (sym (take_ended run j at)) held
    next_since j h held (Some e) at =
        all_more (λ x. since j x || shows (sign.Entry x) e) (λ x. since j x || shows (sign.Entry x) e) (since (suc j)) (waiting_in (at_place (suc j)).queues q)
        (λ x a b. more x b) now_ now_
      where
        now_ : list_all (λ x. since j x || shows (sign.Entry x) e) (waiting_in (at_place (suc j)).queues q) ≡ true
        now_ = next_each (since j) e (waiting_in (at_place j).queues q) (waiting_in (at_place (suc j)).queues q) ((steps_at j e at).step q) held

        regroup : (a b c : Bool) → ((a || b) || c) ≡ true → (a || (b || c)) ≡ true
        regroup true b c t = refl
        regroup false b c t = t

        more : (x : ℕ) → (since j x || shows (sign.Entry x) e) ≡ true → since (suc j) x ≡ true
        more x t =
            ap (λ es. T x || ever (sign.Entry x) es) (drop_next run k j e h at) ∙ ap (λ b. T x || b) (ever_next (sign.Entry x) (drop k (take j run)) e)
            ∙ regroup (T x) (ever (sign.Entry x) (drop k (take j run))) (shows (sign.Entry x) e) t

    all_since : list_all T (waiting_in (at_place (suc k)).queues q) ≡ true → (j : ℕ) → suc k ≤ j → list_all (since j) (waiting_in (at_place j).queues q) ≡ true
    all_since begin zero h = absurd (omega arith)
    all_since begin (suc j) h = elim (one_or_two j k) [
      | inl e ↦ subst (λ i. list_all (since (suc i)) (waiting_in (at_place (suc i)).queues q) ≡ true) (sym e)
          (all_more T T (since (suc k)) (waiting_in (at_place (suc k)).queues q) (λ x a b. wider x a) begin begin)
      | inr n ↦ next_since j (omega arith) (all_since begin j (omega arith)) (slice_get run j) refl
    ]
      where
        wider : (x : ℕ) → T x ≡ true → since (suc k) x ≡ true
        wider x a = first (T x) (ever (sign.Entry x) (drop k (take (suc k) run))) a

  -- ---- two presentations

  presents_at : (k : ℕ) (e : Event) (t : Taking) → slice_get run k ≡ Some e → presented e ≡ Some t → Takes (at_place k) (at_place (suc k)) t
  presents_at k e t at is =
      let h : may plan m (at_place k) e ≡ true = comes plan m run k e is_run at (no_tick e t is) in
      let next : at_place (suc k) ≡ after plan m (at_place k) e = ap (state_after plan m) (take_next run k e at) ∙ state_goes_on plan m (take k run) e in
      subst (λ (T : State A). Takes (at_place k) T t) (sym next) (takes plan m (at_place k) e t h is)

  in_turn_by : (n k : ℕ) (e f : Event) (t u : Taking) → k < n → slice_get run k ≡ Some e → presented e ≡ Some u → slice_get run n ≡ Some f → presented f ≡ Some t → u.queue ≡ t.queue
      → ever (sign.Entry t.request) (drop k (take n run)) ≡ false → is_in_order (take k run) u.request t.request ≡ true
  in_turn_by n k e f t u less at is at_n is_n same none =
      let first_ : Takes (at_place k) (at_place (suc k)) u = presents_at k e u at is in
      let last_ : Takes (at_place n) (at_place (suc n)) t = presents_at n f t at_n is_n in
      let q : ℕ = u.queue in
      let X : List ℕ = drop 1 (waiting_in (at_place k).queues q) in
      let begin : list_all (λ x. contains x X) (waiting_in (at_place (suc k)).queues q) ≡ true = subst (λ (xs : List ℕ). list_all (λ x. contains x X) xs ≡ true) (sym first_.rest) (each_in X) in
      let front_ : same_id (front (at_place n).queues q) t.request ≡ true = subst (λ (p : ℕ). same_id (front (at_place n).queues p) t.request ≡ true) (sym same) last_.front in
      let found : (contains t.request X || ever (sign.Entry t.request) (drop k (take n run))) ≡ true =
      first_passes (since k q (λ x. contains x X) n) t.request (waiting_in (at_place n).queues q) front_ (all_since k q (λ x. contains x X) begin n (omega arith)) in
      let there : contains t.request X ≡ true = not_the_other (contains t.request X) (ever (sign.Entry t.request) (drop k (take n run))) found none in
      found_passes (is_in_order (take k run) u.request) t.request X there (first_before (is_in_order (take k run)) u.request (waiting_in (at_place k).queues q) first_.front (in_order_at_each plan m run is_run k q).ordered)
    where
      not_the_other : (a b : Bool) → (a || b) ≡ true → b ≡ false → a ≡ true
      not_the_other true b h n2 = refl
      not_the_other false b h n2 = absurd (let z : ⊥ = cc in z)

  turn_of : (n k : ℕ) (e f : Event) (t u : Taking) → k < n → slice_get run k ≡ Some e → presented e ≡ Some u → slice_get run n ≡ Some f → presented f ≡ Some t
      → is_in_turn (take k run) (drop k (take n run)) t (Some u) ≡ true
  turn_of n k e f t u less at is at_n is_n =
      by_tests (u.queue == t.queue) (ever (sign.Entry u.request) (take k run)) (ever (sign.Entry t.request) (take k run)) (ever (sign.Entry t.request) (drop k (take n run))) (is_in_order (take k run) u.request t.request)
      (λ same none. in_turn_by n k e f t u less at is at_n is_n (eqb-true u.queue t.queue same) none)
    where
      by_tests : (a b c d o : Bool) → (a ≡ true → d ≡ false → o ≡ true) → (not a || not (b && c && not d) || o) ≡ true
      by_tests false b c d o h = refl
      by_tests true false c d o h = refl
      by_tests true true false d o h = refl
      by_tests true true true true o h = refl
      by_tests true true true false o h = h refl refl

  turn_at : (n k : ℕ) (f : Event) (t : Taking) → k < n → slice_get run n ≡ Some f → presented f ≡ Some t → (found : Option Event) → slice_get run k ≡ found → (x : Option Taking) → presented_in found ≡ x
      → is_in_turn (take k run) (drop k (take n run)) t x ≡ true
  turn_at n k f t less at_n is_n found at None is = refl
  turn_at n k f t less at_n is_n None at (Some u) is = absurd (let z : ⊥ = cc in z)
  turn_at n k f t less at_n is_n (Some e) at (Some u) is = turn_of n k e f t u less at is at_n is_n

  turns_to : (n : ℕ) (f : Event) (t : Taking) → slice_get run n ≡ Some f → presented f ≡ Some t → (k : ℕ) → k ≤ n → all_in_turn (take n run) t k ≡ true
  turns_to n f t at_n is_n zero h = refl
  turns_to n f t at_n is_n (suc k) h =
      let read : presented_at (take n run) k ≡ presented_in (slice_get run k) = ap presented_in (slice_get-take run n k (omega arith)) in
      let front_ : take k (take n run) ≡ take k run = take-take-below run n k (omega arith) in
      let turn : is_in_turn (take k run) (drop k (take n run)) t (presented_in (slice_get run k)) ≡ true = turn_at n k f t (omega arith) at_n is_n (slice_get run k) refl (presented_in (slice_get run k)) refl in
      both (all_in_turn (take n run) t k) (is_in_turn (take k (take n run)) (drop k (take n run)) t (presented_at (take n run) k)) (turns_to n f t at_n is_n k (omega arith))
      (ap (λ es. is_in_turn es (drop k (take n run)) t (presented_at (take n run) k)) front_ ∙ ap (is_in_turn (take k run) (drop k (take n run)) t) read ∙ turn)

  law_by : (n : ℕ) (f : Event) → slice_get run n ≡ Some f → (x : Option Taking) → presented f ≡ x → is_presented_in_turn (take n run) x ≡ true
  law_by n f at_n None is = refl
  law_by n f at_n (Some t) is = turns_to n f t at_n is (length (take n run)) (short run n)
    where
      short : (xs : List Event) (i : ℕ) → length (take i xs) ≤ i
      short xs zero = omega arith
      short [] (suc i) = omega arith
      short (x ∷ xs) (suc i) = let h : length (take i xs) ≤ i = short xs i in omega arith

pub law_8_at_each : {A : Type 0} (plan : Plan) (m : Meaning A) (run : List Event) (k : ℕ) (e : Event) → IsRunOf plan m run → slice_get run k ≡ Some e → law_8 (take k run) e ≡ true
law_8_at_each plan m run k e is_run at = law_by plan m run is_run k e at (presented e) refl
