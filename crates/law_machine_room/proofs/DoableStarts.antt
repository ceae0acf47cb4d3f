-- The deeds of starts can be done.
use Rattle.std.proofs.Common.{◌≡◌, ℕ, zero, suc, ◌+◌, ◌==◌, ◌<◌, ◌≤◌, ◌^◌, true, false, List, [], ◌∷◌, length, count_by, IfSome, Option, Some, None, is_some, option_map, slice_get, unwrap_or, refl, ap, arith}
use Rattle.std.specs.List.{list_all}
use Rattle.std.proofs.lemmas.Bool.Decides.{nat_tests}
use Rattle.std.proofs.lemmas.Bool.{eqb-true}
use Rattle.wdf_base.specs.Meaning.{Meaning}
use Rattle.wdf_base.specs.declared.ids.Cpu.{Cpu}
use Rattle.wdf_base.specs.declared.ids.Handle.{Handle}
use Rattle.wdf_base.specs.declared.object.Place.{Place}
use Rattle.wdf_base.specs.declared.object.Place.TheVariants as place
use Rattle.wdf_base.specs.declared.object.LockRef.{LockRef}
use Rattle.wdf_base.specs.declared.call.Callback.{Callback}
use Rattle.wdf_base.specs.declared.rank.Rank.{Rank}
use Rattle.wdf_base.specs.declared.rank.Rank.TheVariants as rank
use Rattle.wdf_base.specs.declared.plan.Plan.{Plan}
use Rattle.wdf_base.specs.declared.declared.ClassInfo.{ClassInfo}
use Rattle.wdf_base.specs.declared.declared.ClassInfo.TheVariants as class
use Rattle.wdf_base.specs.declared.declared.DeferredKind.{DeferredKind}
use Rattle.wdf_base.specs.declared.declared.DeferredKind.TheVariants as deferred
use Rattle.wdf_base.specs.declared.event.Step.{Step}
use Rattle.wdf_base.specs.declared.frame.Frame.{Frame}
use Rattle.wdf_base.specs.Callbacks.{row_of}
use Rattle.wdf_base.specs.Resolved.{class_fits, period_fits}
use Rattle.wdf_base.specs.Same.{same_option, same_step}
use Rattle.wdf_base.specs.Lives.{is_asked, is_cleaned}
use Rattle.wdf_base.specs.Places.{is_done, is_queued_in, is_returning_to, is_sent_to}
use Rattle.wdf_model.specs.declared.entries.Timed.{Timed}
use Rattle.wdf_model.specs.Tables.{first_of_list, flag, same_id}
use Rattle.wdf_model.specs.Plans.{callback_irql, class_period, period_of}
use Rattle.wdf_model.specs.parts.Tree.{class_of, gone, life_of, nearest_device}
use Rattle.wdf_model.specs.parts.Cpus.{nobody_on}
use Rattle.wdf_model.specs.parts.Locks.{is_free_if_any, lock_of_callback}
use Rattle.wdf_model.specs.parts.Requests.{place_of}
use Rattle.wdf_model.specs.parts.Queues.{front, waiting_in}
use Rattle.wdf_model.specs.parts.Control.{no_control, notify_due}
use Rattle.wdf_model.specs.parts.Pnp.{next_step, no_sequence}
use Rattle.wdf_model.specs.parts.Deferred.Timers.{is_reached, timed_of, timer_due}
use Rattle.wdf_model.specs.State.{State, declared_in, is_with_driver}
use Rattle.wdf_model.specs.Ids.{frame_id, irql_of, object_id}
use Rattle.wdf_model.specs.declared.deed.Deed.TheVariants.{Present, PushFrame}
use Rattle.wdf_model.specs.rules.Deeds.{do_deeds}
use Rattle.wdf_model.specs.rules.Starts.{effect, effect_for, is_ready_for, may_start, new_frame, next_number, rank_ready, rank_ready_for, start_deeds, start_effect, step_of, step_ready, take_if_any}
use Rattle.wdf_model.specs.rules.Steps.{is_cpu}
use Rattle.wdf_model.proofs.Tests.{both_left, both_right, second}
use Rattle.wdf_model.proofs.Counts.{equal, front_leaves}
use Rattle.wdf_model.specs.rules.Groups.{declared_end}
use Rattle.wdf_model.specs.rules.Room.{AreDoable, IsRequest, IsThere, MayHold}
use Rattle.law_machine_room.proofs.Doable.{Fine, clock_small, cpu_of_plan, doable_after, held_few, inside, locks_few, next_frame_few, next_frame_fresh, request_here, stack_there}
use Rattle.law_machine_room.proofs.DoableFrames.{same_there}
use Rattle.law_machine_counts.proofs.StepTable.{top_is}
use Rattle.law_machine_counts.proofs.Undone.{held_undone, queued_undone, returning_undone}
use Rattle.law_machine_counts.proofs.Totals.{flagged}

-- ---- places and ids

pub sent_undone : (t : ℕ) (p : Place) → is_sent_to t p ≡ true → is_done p ≡ false
sent_undone t place.Done h = absurd (let z : ⊥ = cc in z)
sent_undone t _ h = refl

step_there : (found : Option Step) (s : Step) → same_option same_step found (Some s) ≡ true → is_some found ≡ true
step_there None s h = h
step_there (Some x) s h = refl

-- ---- periods

period_ticks : (k : DeferredKind) (n : ℕ) → period_fits k n ≡ true → n ≤ 1000000
period_ticks deferred.Timer n h = grind (arith, nat_tests)
period_ticks deferred.Dpc n h = let none_ : n ≡ 0 = eqb-true n 0 h in omega arith
period_ticks deferred.WorkItem n h = let none_ : n ≡ 0 = eqb-true n 0 h in omega arith

class_ticks : (plan : Plan) (c : ClassInfo) → class_fits plan c ≡ true → class_period c ≤ 1000000
class_ticks plan (class.Plain name k) h = omega arith
class_ticks plan (class.Deferred name k parent serialize period) h = period_ticks k period (search (both_left, both_right))

periods : (plan : Plan) (cs : List ClassInfo) → list_all (class_fits plan) cs ≡ true → (c : ℕ) → unwrap_or (option_map class_period (slice_get cs c)) 0 ≤ 1000000
periods plan [] h c = omega arith
periods plan (x ∷ xs) h zero = class_ticks plan x (both_left (class_fits plan x) (list_all (class_fits plan) xs) h)
periods plan (x ∷ xs) h (suc c) = periods plan xs (both_right (class_fits plan x) (list_all (class_fits plan) xs) h) c

timed_later : (t : Option Timed) (clock period : ℕ) → is_reached clock t ≡ true → clock < 200000 → period ≤ 1000000 → IfSome t (λ x. x.tick + period < 2 ^ 64)
timed_later None clock period h few small = tt
timed_later (Some t) clock period h few small = let reached : t.tick ≤ clock = grind (arith, nat_tests) in omega arith

-- ---- an effect leaves the processors and the locks alone

abbrev SameFrames : {A : Type 0} → State A → State A → Type 0
SameFrames S U = (U.cpus ≡ S.cpus) × (U.locks ≡ S.locks)

effect_for_rest : {A : Type 0} (plan : Plan) (S : State A) (k : Rank) (o r : ℕ) → SameFrames S (do_deeds plan (effect_for k o r) S)
effect_for_rest plan S rank.Completion o r = (refl, refl)
effect_for_rest plan S rank.Cancel o r = (refl, refl)
effect_for_rest plan S rank.CanceledOnQueue o r = (refl, refl)
effect_for_rest plan S rank.Stop o r = (refl, refl)
effect_for_rest plan S rank.Resume o r = (refl, refl)
effect_for_rest plan S rank.Handler o r = (refl, refl)
effect_for_rest plan S _ o r = (refl, refl)

effect_rest : {A : Type 0} (plan : Plan) (S : State A) (k : Rank) (cpu : ℕ) (c : Callback) (o : ℕ) → SameFrames S (do_deeds plan (effect plan S k cpu c o) S)
effect_rest plan S rank.Deferred cpu c o = (refl, refl)
effect_rest plan S rank.Timed cpu c o = (refl, refl)
effect_rest plan S rank.QueueState cpu c o = (refl, refl)
effect_rest plan S rank.Sequence cpu c o = (refl, refl)
effect_rest plan S rank.Work cpu c o = (refl, refl)
effect_rest plan S rank.Cleanup cpu c o = (refl, refl)
effect_rest plan S rank.Destroy cpu c o = (refl, refl)
effect_rest plan S _ cpu c o = (refl, refl)

start_effect_rest : {A : Type 0} (plan : Plan) (S : State A) (cpu : ℕ) (c : Callback) (o : ℕ) (r : Option Handle) → SameFrames S (do_deeds plan (start_effect plan S cpu c o r) S)
start_effect_rest plan S cpu c o None = effect_rest plan S (row_of c).rank cpu c o
start_effect_rest plan S cpu c o (Some r) = effect_for_rest plan S (row_of c).rank o r.id.0

module _ {A : Type 0} {plan : Plan} {S : State A} (k : Fine plan S) where
  -- ---- objects and requests

  pub held_request : (r : ℕ) → is_with_driver S r ≡ true → IsRequest S r
  held_request r h = request_here k r (held_undone _ (place_of S.requests r) h)

  pub asked_there : (o : ℕ) → is_asked (life_of S.tree o) ≡ true → IsThere S o
  asked_there o h = inside gone (λ n. is_asked n.life) S.tree.nodes o refl h

  pub cleaned_there : (o : ℕ) → is_cleaned (life_of S.tree o) ≡ true → IsThere S o
  cleaned_there o h = inside gone (λ n. is_cleaned n.life) S.tree.nodes o refl h

  pub waiting_request : (q r : ℕ) → 1 ≤ count_by (λ x. x == r) (waiting_in S.queues q) → IsRequest S r
  waiting_request q r h =
      let line = k.places.queued q r in
      request_here k r (queued_undone q (place_of S.requests r) (flagged (is_queued_in q (place_of S.requests r)) (omega arith)))

  pub may_hold : (q r : ℕ) → q < declared_end plan → IsRequest S r → MayHold S q r
  may_hold q r there request = let size = k.room.sizes.dispatch in record { queue = omega arith; few = held_few k; request = request }

  pub present_doable : (q r : ℕ) → same_id (front S.queues q) r ≡ true → AreDoable plan (Present (object_id q) (object_id r) ∷ []) S
  present_doable q r h =
      let line : q < length S.queues.waiting = inside [] (λ ws. is_some (first_of_list ws)) S.queues.waiting q refl (same_there (front S.queues q) r h) in
      let size = k.room.sizes.waiting in
      let first = front_leaves r r (waiting_in S.queues q) h in
      let one : flag (r == r) ≡ 1 = ap flag (equal r r refl) in
      ((top_is (front S.queues q) r h, may_hold q r (omega arith) (waiting_request q r (omega arith))), tt)

  pub step_device : (d : ℕ) (s : Step) → step_ready S d s ≡ true → d < length S.pnp.devices
  step_device d s h =
      let next : same_option same_step (next_step S.pnp d) (Some s) ≡ true = search (both_left, both_right) in
      inside no_sequence (λ q. is_some (first_of_list q.left)) S.pnp.devices d refl (step_there (next_step S.pnp d) s next)

  -- ---- effects

  effect_for_doable : (x : Rank) (c : Callback) (o r : ℕ) → rank_ready_for plan S x c o r ≡ true → AreDoable plan (effect_for x o r) S
  effect_for_doable rank.Completion c o r h =
      let sent : is_sent_to o (place_of S.requests r) ≡ true = search both_left in
      (request_here k r (sent_undone o (place_of S.requests r) sent), tt)
  effect_for_doable rank.Cancel c o r h =
      let held : is_with_driver S r ≡ true = search (both_left, both_right) in
      (held_request r held, tt)
  effect_for_doable rank.CanceledOnQueue c o r h =
      let there = k.room.names.places r o (second (is_queued_in o (place_of S.requests r)) (is_returning_to o (place_of S.requests r)) h) in
      (may_hold o r there (request_here k r (returning_undone o (place_of S.requests r) h)), tt)
  effect_for_doable rank.Stop c o r h =
      let held : is_with_driver S r ≡ true = search (both_left, both_right) in
      ((held_request r held).room, tt)
  effect_for_doable rank.Resume c o r h =
      let held : is_with_driver S r ≡ true = search (both_left, both_right) in
      ((held_request r held).room, tt)
  effect_for_doable rank.Handler c o r h =
      let first : same_id (front S.queues o) r ≡ true = search (both_left, both_right) in
      present_doable o r first
  effect_for_doable _ c o r h = tt

  effect_doable : (m : Meaning A) (x : Rank) (cpu : Cpu) (c : Callback) (o : ℕ) → is_cpu plan cpu ≡ true → rank_ready plan m S x cpu.0 c o ≡ true
      → AreDoable plan (effect plan S x cpu.0 c o) S
  effect_doable m rank.Deferred cpu c o p h = let here = cpu_of_plan k cpu p in let size = k.room.sizes.dpcs in (omega arith, tt)
  effect_doable m rank.Timed cpu c o p h =
      let due : timer_due S.timers o S.clock ≡ true = both_left (timer_due S.timers o S.clock) (nobody_on S.cpus o) h in
      (timed_later (timed_of S.timers o) S.clock (period_of plan (class_of S.tree o)) due (clock_small k) (periods plan plan.classes k.resolved.classes_fit (class_of S.tree o)), tt)
  effect_doable m rank.QueueState cpu c o p h =
      let due : notify_due S.control o ≡ true = search both_left in
      (inside no_control (λ x. x.due) S.control.controls o refl due, tt)
  effect_doable m rank.Sequence cpu c o p h = (step_device (nearest_device S.tree o) (step_of plan S c o) h, tt)
  effect_doable m rank.Work cpu c o p h = (tt, tt)
  effect_doable m rank.Cleanup cpu c o p h =
      let asked : is_asked (life_of S.tree o) ≡ true = search (both_left, both_right) in
      (asked_there o asked, tt)
  effect_doable m rank.Destroy cpu c o p h =
      let cleaned : is_cleaned (life_of S.tree o) ≡ true = search (both_left, both_right) in
      (cleaned_there o cleaned, tt)
  effect_doable m _ cpu c o p h = tt

  start_effect_doable : (m : Meaning A) (cpu : Cpu) (c : Callback) (o : ℕ) (r : Option Handle) → is_cpu plan cpu ≡ true → is_ready_for plan m S cpu.0 c o r ≡ true
      → AreDoable plan (start_effect plan S cpu.0 c o r) S
  start_effect_doable m cpu c o None p h = effect_doable m (row_of c).rank cpu c o p h
  start_effect_doable m cpu c o (Some r) p h = effect_for_doable (row_of c).rank c o r.id.0 h

  -- ---- the frame and its lock

  takes : (U : State A) (l : Option LockRef) → U.locks ≡ S.locks → is_free_if_any S.locks l ≡ true → AreDoable plan (take_if_any (next_number S) l) U
  takes U None same h = tt
  takes U (Some l) same h = rw same ((h, next_frame_few k, locks_few k), tt)

  begins : (U : State A) (cpu : Cpu) (frame : Frame) (level : ℕ) (l : Option LockRef) → SameFrames S U → is_cpu plan cpu ≡ true → is_free_if_any S.locks l ≡ true
      → AreDoable plan (PushFrame cpu (frame_id (next_number S)) frame (irql_of level) ∷ take_if_any (next_number S) l) U
  begins U cpu frame level l same p h =
      (rw same.0 (stack_there k cpu p, next_frame_few k, next_frame_fresh k), takes _ l same.1 h)

  pub start_doable : (m : Meaning A) (cpu : Cpu) (c : Callback) (o : Handle) (r : Option Handle) → is_cpu plan cpu ≡ true → may_start plan m S cpu.0 c o.id.0 r ≡ true
      → AreDoable plan (start_deeds plan S cpu.0 c o r) S
  start_doable m cpu c o r p h =
      let ready : is_ready_for plan m S cpu.0 c o.id.0 r ≡ true = both_right _ (is_ready_for plan m S cpu.0 c o.id.0 r) h in
      let free : is_free_if_any S.locks (lock_of_callback plan c o.id.0 (declared_in plan S o.id.0)) ≡ true = search (both_left, both_right) in
      doable_after plan (start_effect plan S cpu.0 c o.id.0 r) (PushFrame cpu (frame_id (next_number S)) (new_frame plan S c o r) (irql_of (callback_irql plan c o.id.0)) ∷ take_if_any (next_number S) (lock_of_callback plan c o.id.0 (declared_in plan S o.id.0))) S
      (start_effect_doable m cpu c o.id.0 r p ready)
      (begins (do_deeds plan (start_effect plan S cpu.0 c o.id.0 r) S) cpu (new_frame plan S c o r) (callback_irql plan c o.id.0) (lock_of_callback plan c o.id.0 (declared_in plan S o.id.0)) (start_effect_rest plan S cpu.0 c o.id.0 r) p free)
