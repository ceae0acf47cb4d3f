-- The invariant over the starts of callbacks: what a callback has of its request when it begins.
use Rattle.std.proofs.Common.{◌≡◌, ◌≢◌, ℕ, zero, suc, ◌+◌, ◌==◌, ◌<◌, ◌≤◌, Bool, true, false, ◌&&◌, List, [], ◌∷◌, inl, inr, Option, Some, None, is_none, is_some, length, unwrap_or, option_map, replicate, refl, sym, ap, subst, ◌∙◌, arith}
use Rattle.wdf_base.specs.Meaning.{Meaning}
use Rattle.wdf_base.specs.declared.plan.Plan.{Plan}
use Rattle.wdf_base.specs.declared.ids.Cpu.{Cpu}
use Rattle.wdf_base.specs.declared.ids.Handle.{Handle}
use Rattle.wdf_base.specs.declared.ids.ObjectId.{ObjectId}
use Rattle.wdf_base.specs.declared.value.Value.TheVariants.{Num}
use Rattle.wdf_base.specs.declared.object.Mark.{Mark}
use Rattle.wdf_base.specs.declared.object.Mark.TheVariants as marks
use Rattle.wdf_base.specs.declared.object.LockRef.{LockRef}
use Rattle.wdf_base.specs.declared.object.Place.{Place}
use Rattle.wdf_base.specs.declared.object.Place.TheVariants as place
use Rattle.wdf_base.specs.declared.call.Callback.{Callback}
use Rattle.wdf_base.specs.declared.call.Callback.TheVariants as callback
use Rattle.wdf_base.specs.declared.declared.Declared.{Declared}
use Rattle.wdf_base.specs.declared.event.Event.TheVariants as event
use Rattle.wdf_base.specs.declared.frame.Frame.{Frame}
use Rattle.wdf_base.specs.declared.rank.Rank.{Rank}
use Rattle.wdf_base.specs.declared.rank.Rank.TheVariants as rank
use Rattle.wdf_base.specs.declared.script.Script.{Script}
use Rattle.wdf_base.specs.Callbacks.{row_of}
use Rattle.wdf_base.specs.Plan.{is_script_of}
use Rattle.wdf_base.specs.Same.{same_callback}
use Rattle.wdf_base.specs.SamePlan.{same_declared}
use Rattle.wdf_base.specs.Places.{is_done, is_due, is_marked, is_owned, is_queued_in, is_returning_to, is_sent, is_sent_to}
use Rattle.wdf_model.specs.declared.entries.Request.{Request}
use Rattle.wdf_model.specs.declared.entries.Running.{Running}
use Rattle.wdf_model.specs.Ids.{cpu_of, frame_id, irql_of}
use Rattle.wdf_model.specs.Tables.{flag, same_id}
use Rattle.wdf_model.specs.Plans.{callback_irql, script_on}
use Rattle.wdf_model.specs.parts.Cpus.{Cpus, frame_of, no_frame}
use Rattle.wdf_model.specs.parts.Cpus as cpus
use Rattle.wdf_model.specs.parts.Locks.{is_free_if_any, lock_of_callback}
use Rattle.wdf_model.specs.parts.Queues.{front}
use Rattle.wdf_model.specs.parts.Requests.{Requests, mark_of, moved, no_request, origin_from, origin_of, place_of, request_of, with_mark}
use Rattle.wdf_model.specs.parts.Targets.{is_forgotten}
use Rattle.wdf_model.specs.State.{State, declared_in, declares_in, is_held_from, is_proper, is_with_driver, script_in}
use Rattle.wdf_model.specs.declared.deed.Deed.{Deed}
use Rattle.wdf_model.specs.declared.deed.Deed.TheVariants.{PushFrame}
use Rattle.wdf_model.specs.rules.Deeds.{do_deeds}
use Rattle.wdf_model.specs.rules.Starts.{effect, effect_for, is_ready_for, level_fits, life_fits, may_start, new_frame, next_number, presents, rank_ready, rank_ready_for, start_effect, take_if_any}
use Rattle.wdf_model.specs.rules.Steps.{after, deeds, is_cpu, is_proper_if_any, may}
use Rattle.wdf_model.proofs.Maps.{entry_put_other, entry_put_same}
use Rattle.wdf_model.proofs.Counts.{not_equal}
use Rattle.wdf_model.proofs.Sames.{callback_decides}
use Rattle.wdf_model.proofs.Tests.{both_left, both_right}
use Rattle.law_machine_base.proofs.FitsOfEvents.{event_fits}
use Rattle.law_machine_base.proofs.KeptMoves.{front_queued, within}
use Rattle.law_machine_base.proofs.KeptByDeeds.{owned_undone}
use Rattle.wdf_model.proofs.FrameCounts.{on, pushed}
use Rattle.law_machine_counts.proofs.StepStates.{in_turn}
use Rattle.wdf_lint.specs.declared.state.Abstract.{Abstract}
use Rattle.wdf_lint.specs.declared.state.Hold.{Hold}
use Rattle.wdf_lint.specs.declared.state.Hold.TheVariants as hold
use Rattle.wdf_lint.specs.declared.state.Known.TheVariants as known
use Rattle.wdf_lint.specs.Abstracts.{callback_of, hold_at_start, start}
use Rattle.wdf_lint.specs.Steps.{is_own_or_marked}
use Rattle.wdf_lint.specs.Walks.{IsReached}
use Rattle.law_lint.proofs.Known.{AllKnown}
use Rattle.law_lint.proofs.Frames.{Simulates}
use Rattle.law_lint.proofs.Grips.{Cancelable, LaterAt, Owned, is_armed}
use Rattle.law_free_runs.proofs.FreeStates.{FreeState}
use Rattle.law_lint.proofs.Others.{Places, event_later}
use Rattle.law_lint.proofs.Sane.{AllSane, Sane}
use Rattle.law_lint.proofs.Holdings.{Left, deeds_left, none_both, none_lock, taken_if_any}
use Rattle.law_lint.proofs.Began.{Began, found_by, interrupt_began, queue_began}
use Rattle.law_lint.proofs.Stands.{FrameBegins, FrameStands, Grasps, GripOf, InHand, Stands, begins_stands}
use Rattle.law_lint.proofs.Events.{told}
use Rattle.wdf_base.specs.Resolved.{IsResolved}
use Rattle.wdf_model.specs.Ids.{object_id}
use Rattle.wdf_model.specs.declared.entries.Holding.{Holding}
use Rattle.wdf_model.specs.declared.deed.Deed.TheVariants.{AskStop}
use Rattle.wdf_model.specs.parts.Power.{Power, acknowledged, holding_of}
use Rattle.wdf_model.specs.parts.Power as power
use Rattle.law_machine_counts.proofs.Releases.{holding_here}
use Rattle.wdf_lint.specs.Abstracts.{plan_sends}
use Rattle.wdf_lint.specs.Steps.{is_stop}
use Rattle.law_lint.proofs.Around.{Around}
use Rattle.law_lint.proofs.Calming.{event_calms}
use Rattle.law_lint.proofs.Flags.{AllAsked}
use Rattle.law_lint.proofs.Owning.{From, Guarded, OwnAs, Stopping}
use Rattle.law_lint.proofs.Starting.{begins_with, came_from, held_parts, owned_held, stop_callback, stop_due, unasked}
use Rattle.law_lint.proofs.Unsent.{none_there}
use Rattle.law_machine_counts.proofs.Undone.{held_undone}
use Rattle.law_machine_counts.proofs.StepTable.{top_is}

-- ---- the script of a callback is one of that callback

callback_at : (plan : Plan) (c : Callback) (d : Option Declared) (k : ℕ) → script_on plan c d ≡ Some k → callback_of plan k ≡ c
callback_at plan c None k h = absurd (let z : ⊥ = cc in z)
callback_at plan c (Some d) k h =
    let f = found_by (is_script_of c d) plan.scripts k h in
    let same : f.0.callback ≡ c = (callback_decides f.0.callback c).0 (both_left (same_callback f.0.callback c) (same_declared f.0.owner d) f.2) in
    ap (λ (o : Option Script). unwrap_or (option_map (λ (s : Script). s.callback) o) callback.EvtDestroyCallback) f.1 ∙ same

there_some : (o : Option ℕ) → is_some o ≡ true → o ≡ Some (unwrap_or o 0)
there_some None h = absurd (let z : ⊥ = cc in z)
there_some (Some k) h = refl

all_start : (n : ℕ) → AllKnown (replicate n known.Zero) (replicate n (Num 0))
all_start zero = tt
all_start (suc n) = (refl, all_start n)

-- ---- what a request is where its callback begins

-- it is in no callback's hands
record Loose (q : Request) : Type 0 where
  pub owned : Owned q → ⊥
  pub cancelable : Cancelable q → ⊥

apart_loose : (q : Request) → is_owned q.place ≡ false → Loose q
apart_loose q off = record { owned = λ h. (let is = h.owned in let z : ⊥ = cc in z); cancelable = λ h. (let is = h.owned in let z : ⊥ = cc in z) }

due_armed : (k : Mark) → is_due k ≡ true → (is_armed k ≡ true) × (is_marked k ≡ false)
due_armed marks.Due h = (refl, refl)
due_armed marks.Marked h = absurd (let z : ⊥ = cc in z)
due_armed marks.Taken h = absurd (let z : ⊥ = cc in z)
due_armed marks.Unmarked h = absurd (let z : ⊥ = cc in z)

due_loose : (q : Request) → is_due q.info.mark ≡ true → Loose q
due_loose q d = let is = due_armed q.info.mark d in record { owned = λ h. (let off = h.off in let yes = is.0 in let z : ⊥ = cc in z); cancelable = λ h. (let m = h.marked in let off = is.1 in let z : ⊥ = cc in z) }

unarmed : (q : Request) → Sane q → is_owned q.place ≡ false → is_armed q.info.mark ≡ false
unarmed q s off = by (is_armed q.info.mark) refl
  where
    by : (b : Bool) → is_armed q.info.mark ≡ b → is_armed q.info.mark ≡ false
    by true e = absurd (let own = s.armed e in let z : ⊥ = cc in z)
    by false e = e

-- a request that a callback gets: where it was, and what it is then
record Got (q p : Request) : Type 0 where
  pub undone : is_done q.place ≡ false
  pub loose : Loose q
  pub now : Owned p

queued_got : (q : Request) (o : ℕ) → is_queued_in o q.place ≡ true → Sane q → Got q (moved place.Owned q)
queued_got q o h s = by q.place refl h
  where
    by : (x : Place) → q.place ≡ x → is_queued_in o x ≡ true → Got q (moved place.Owned q)
    by (place.Queued w) e h = record { undone = ap is_done e; loose = apart_loose q (ap is_owned e); now = record { owned = refl; off = unarmed q s (ap is_owned e); came = ap (λ x. is_none (origin_from x place.Owned q.info.origin)) e } }
    by place.Owned e h = absurd (let z : ⊥ = cc in z)
    by (place.Returning w) e h = absurd (let z : ⊥ = cc in z)
    by (place.Closing w) e h = absurd (let z : ⊥ = cc in z)
    by (place.Sent w) e h = absurd (let z : ⊥ = cc in z)
    by place.Done e h = absurd (let z : ⊥ = cc in z)

returning_got : (q : Request) (o : ℕ) → is_returning_to o q.place ≡ true → Sane q → Got q (moved place.Owned q)
returning_got q o h s = by q.place refl h
  where
    by : (x : Place) → q.place ≡ x → is_returning_to o x ≡ true → Got q (moved place.Owned q)
    by (place.Returning w) e h = record { undone = ap is_done e; loose = apart_loose q (ap is_owned e); now = record { owned = refl; off = unarmed q s (ap is_owned e); came = ap (λ x. is_none (origin_from x place.Owned q.info.origin)) e } }
    by place.Owned e h = absurd (let z : ⊥ = cc in z)
    by (place.Queued w) e h = absurd (let z : ⊥ = cc in z)
    by (place.Closing w) e h = absurd (let z : ⊥ = cc in z)
    by (place.Sent w) e h = absurd (let z : ⊥ = cc in z)
    by place.Done e h = absurd (let z : ⊥ = cc in z)

sent_got : (q : Request) (o : ℕ) → is_sent_to o q.place ≡ true → Sane q → Got q (moved place.Owned q)
sent_got q o h s = by q.place refl h
  where
    by : (x : Place) → q.place ≡ x → is_sent_to o x ≡ true → Got q (moved place.Owned q)
    by (place.Sent w) e h = record { undone = ap is_done e; loose = apart_loose q (ap is_owned e); now = record { owned = refl; off = unarmed q s (ap is_owned e); came = ap (λ x. is_none (origin_from x place.Owned q.info.origin)) e ∙ s.sent (ap is_sent e) } }
    by place.Owned e h = absurd (let z : ⊥ = cc in z)
    by (place.Queued w) e h = absurd (let z : ⊥ = cc in z)
    by (place.Closing w) e h = absurd (let z : ⊥ = cc in z)
    by (place.Returning w) e h = absurd (let z : ⊥ = cc in z)
    by place.Done e h = absurd (let z : ⊥ = cc in z)

some_origin : (o : Option ObjectId) (q : ℕ) → same_id (option_map (λ (i : ObjectId). i.0) o) q ≡ true → is_none o ≡ false
some_origin None q h = absurd (let z : ⊥ = cc in z)
some_origin (Some i) q h = refl

cancel_got : (q : Request) (o : ℕ) → is_due q.info.mark ≡ true → same_id (option_map (λ (i : ObjectId). i.0) q.info.origin) o ≡ true → Sane q → Got q (with_mark marks.Taken q)
cancel_got q o d from s =
    let own : is_owned q.place ≡ true = s.armed (due_armed q.info.mark d).0 in
    record { undone = owned_undone q.place own; loose = due_loose q d; now = record { owned = own; off = refl; came = some_origin q.info.origin o from } }

-- ---- a callback and its request

-- what a callback of a rank has of its request, of those that own it from the start
abbrev pub gets : Rank → Bool
gets rank.Completion = true
gets rank.Cancel = true
gets rank.CanceledOnQueue = true
gets rank.Handler = true
gets _ = false

module _ {A : Type 0} (plan : Plan) (m : Meaning A) (S : State A) (places : Places S) (sane : AllSane S.requests) (c : Callback) (o r : ℕ) where
  queued_in : presents plan S c o r ≡ true → is_queued_in o (place_of S.requests r) ≡ true
  queued_in h = front_queued o r places (both_right _ (same_id (front S.queues o) r) (both_left (_ && same_id (front S.queues o) r) _ h))

  -- a rank whose callbacks own their request
  got : (k : Rank) → rank_ready_for plan S k c o r ≡ true → gets k ≡ true → Got (request_of S.requests r) (request_of (do_deeds plan (effect_for k o r) S).requests r)
  got rank.Completion h g = subst (λ (q : Request). Got (request_of S.requests r) q) (sym (entry_put_same no_request S.requests.all r (moved place.Owned (request_of S.requests r))))
      (sent_got (request_of S.requests r) o (both_left (is_sent_to o (place_of S.requests r)) _ h) (sane r))
  got rank.Cancel h g = subst (λ (q : Request). Got (request_of S.requests r) q) (sym (entry_put_same no_request S.requests.all r (with_mark marks.Taken (request_of S.requests r))))
      (cancel_got (request_of S.requests r) o (both_left (is_due (mark_of S.requests r)) (is_held_from S o r) h) (both_left (same_id (origin_of S.requests r) o) (is_with_driver S r) (both_right (is_due (mark_of S.requests r)) (is_held_from S o r) h)) (sane r))
  got rank.CanceledOnQueue h g = subst (λ (q : Request). Got (request_of S.requests r) q) (sym (entry_put_same no_request S.requests.all r (moved place.Owned (request_of S.requests r))))
      (returning_got (request_of S.requests r) o h (sane r))
  got rank.Handler h g = subst (λ (q : Request). Got (request_of S.requests r) q) (sym (entry_put_same no_request S.requests.all r (moved place.Owned (request_of S.requests r))))
      (queued_got (request_of S.requests r) o (queued_in h) (sane r))
  got _ h g = absurd (let z : ⊥ = cc in z)

  held_there : is_held_from S o r ≡ true → is_done (place_of S.requests r) ≡ false
  held_there h = held_undone (is_forgotten S.targets r) (place_of S.requests r) (both_right (same_id (origin_of S.requests r) o) (is_with_driver S r) h)

  -- a callback that is for a request is for one that isn't done
  undone : (k : Rank) → rank_ready_for plan S k c o r ≡ true → is_done (place_of S.requests r) ≡ false
  undone rank.Completion h = (got rank.Completion h refl).undone
  undone rank.Cancel h = (got rank.Cancel h refl).undone
  undone rank.CanceledOnQueue h = (got rank.CanceledOnQueue h refl).undone
  undone rank.Handler h = (got rank.Handler h refl).undone
  undone rank.Stop h = held_there (both_right _ (is_held_from S o r) (both_left (_ && is_held_from S o r) _ (both_left (_ && is_held_from S o r && _) _ h)))
  undone rank.Resume h = held_there (both_right _ (is_held_from S o r) h)
  undone _ h = absurd (let z : ⊥ = cc in z)

-- ---- the callbacks that own their request from the start

owning_rank : (c : Callback) → is_own_or_marked (hold_at_start c) ≡ true → (gets (row_of c).rank ≡ true) × (hold_at_start c ≡ hold.Own)
owning_rank callback.EvtIoRead h = (refl, refl)
owning_rank callback.EvtIoWrite h = (refl, refl)
owning_rank callback.EvtIoDeviceControl h = (refl, refl)
owning_rank callback.EvtIoDefault h = (refl, refl)
owning_rank callback.EvtRequestCancel h = (refl, refl)
owning_rank callback.EvtIoCanceledOnQueue h = (refl, refl)
owning_rank callback.EvtRequestCompletion h = (refl, refl)
owning_rank _ h = absurd (let z : ⊥ = cc in z)

-- a rank whose callbacks get a request starts with one
never_without : {A : Type 0} (plan : Plan) (m : Meaning A) (S : State A) (cpu : ℕ) (c : Callback) (o : ℕ) (k : Rank) → gets k ≡ true → rank_ready plan m S k cpu c o ≡ true → ⊥
never_without plan m S cpu c o rank.Completion g h = let z : ⊥ = cc in z
never_without plan m S cpu c o rank.Cancel g h = let z : ⊥ = cc in z
never_without plan m S cpu c o rank.CanceledOnQueue g h = let z : ⊥ = cc in z
never_without plan m S cpu c o rank.Handler g h = let z : ⊥ = cc in z
never_without plan m S cpu c o _ g h = let z : ⊥ = cc in z

with_request_ : {A : Type 0} (plan : Plan) (m : Meaning A) (S : State A) (cpu : ℕ) (c : Callback) (o : ℕ) (r : Option Handle) → gets (row_of c).rank ≡ true → is_ready_for plan m S cpu c o r ≡ true → (q : Handle) × (r ≡ Some q)
with_request_ plan m S cpu c o None g h = absurd (never_without plan m S cpu c o (row_of c).rank g h)
with_request_ plan m S cpu c o (Some q) g h = (q, refl)

-- ---- the processors and the requests after a start

effect_cpus : {A : Type 0} (plan : Plan) (S : State A) (k : Rank) (cpu : ℕ) (c : Callback) (o : ℕ) → (do_deeds plan (effect plan S k cpu c o) S).cpus ≡ S.cpus
effect_cpus plan S rank.Deferred cpu c o = refl
effect_cpus plan S rank.Timed cpu c o = refl
effect_cpus plan S rank.QueueState cpu c o = refl
effect_cpus plan S rank.Sequence cpu c o = refl
effect_cpus plan S rank.Work cpu c o = refl
effect_cpus plan S rank.Cleanup cpu c o = refl
effect_cpus plan S rank.Destroy cpu c o = refl
effect_cpus plan S _ cpu c o = refl

effect_for_cpus : {A : Type 0} (plan : Plan) (S : State A) (k : Rank) (o r : ℕ) → (do_deeds plan (effect_for k o r) S).cpus ≡ S.cpus
effect_for_cpus plan S rank.Completion o r = refl
effect_for_cpus plan S rank.Cancel o r = refl
effect_for_cpus plan S rank.CanceledOnQueue o r = refl
effect_for_cpus plan S rank.Stop o r = refl
effect_for_cpus plan S rank.Resume o r = refl
effect_for_cpus plan S rank.Handler o r = refl
effect_for_cpus plan S _ o r = refl

start_cpus : {A : Type 0} (plan : Plan) (S : State A) (cpu : ℕ) (c : Callback) (o : ℕ) (r : Option Handle) → (do_deeds plan (start_effect plan S cpu c o r) S).cpus ≡ S.cpus
start_cpus plan S cpu c o None = effect_cpus plan S (row_of c).rank cpu c o
start_cpus plan S cpu c o (Some r) = effect_for_cpus plan S (row_of c).rank o r.id.0

taken_cpus : {A : Type 0} (plan : Plan) (W : State A) (cpu f : ℕ) (frame : Frame) (level : ℕ) (l : Option LockRef) → (do_deeds plan (PushFrame (cpu_of cpu) (frame_id f) frame (irql_of level) ∷ take_if_any f l) W).cpus ≡ cpus.push W.cpus cpu f frame level
taken_cpus plan W cpu f frame level None = refl
taken_cpus plan W cpu f frame level (Some l) = refl

taken_requests : {A : Type 0} (plan : Plan) (W : State A) (cpu f : ℕ) (frame : Frame) (level : ℕ) (l : Option LockRef) → (do_deeds plan (PushFrame (cpu_of cpu) (frame_id f) frame (irql_of level) ∷ take_if_any f l) W).requests ≡ W.requests
taken_requests plan W cpu f frame level None = refl
taken_requests plan W cpu f frame level (Some l) = refl

taken_power : {A : Type 0} (plan : Plan) (W : State A) (cpu f : ℕ) (frame : Frame) (level : ℕ) (l : Option LockRef) → (do_deeds plan (PushFrame (cpu_of cpu) (frame_id f) frame (irql_of level) ∷ take_if_any f l) W).power ≡ W.power
taken_power plan W cpu f frame level None = refl
taken_power plan W cpu f frame level (Some l) = refl

pushed_frames : (C : Cpus) (cpu f : ℕ) (frame : Frame) (level : ℕ) → on C f ≡ 0 → (frame_of (cpus.push C cpu f frame level) f ≡ frame) × ((x : ℕ) → x ≢ f → (on (cpus.push C cpu f frame level) x ≡ on C x) × (frame_of (cpus.push C cpu f frame level) x ≡ frame_of C x))
pushed_frames C cpu f frame level none = (
  ap (λ (r : Running). r.frame) (entry_put_same no_frame C.frames f (record { frame = frame; level = record { 0 = level } })),
  λ x n. (
    let e = pushed (λ y. y == x) C cpu f frame level in let off : flag (f == x) ≡ 0 = ap flag (not_equal f x (λ s. n (sym s))) in omega arith,
    ap (λ (r : Running). r.frame) (entry_put_other no_frame C.frames f x (record { frame = frame; level = record { 0 = level } }) n),
  ),
)

-- ---- the event

-- no frame has the number of the next event
abbrev pub Numbered : {A : Type 0} → State A → Type 0
Numbered S = on S.cpus (S.number + 1) ≡ 0

effect_unlocking : {A : Type 0} (plan : Plan) (S : State A) (k : Rank) (cpu : ℕ) (c : Callback) (o g : ℕ) → none_lock g (effect plan S k cpu c o) ≡ true
effect_unlocking plan S rank.Deferred cpu c o g = refl
effect_unlocking plan S _ cpu c o g = refl

effect_for_unlocking : (k : Rank) (o r g : ℕ) → none_lock g (effect_for k o r) ≡ true
effect_for_unlocking rank.Completion o r g = refl
effect_for_unlocking _ o r g = refl

-- what a start does beside its frame takes no lock, and gives none back
start_unlocking : {A : Type 0} (plan : Plan) (S : State A) (cpu : ℕ) (c : Callback) (o : ℕ) (r : Option Handle) (g : ℕ) → none_lock g (start_effect plan S cpu c o r) ≡ true
start_unlocking plan S cpu c o None g = effect_unlocking plan S (row_of c).rank cpu c o g
start_unlocking plan S cpu c o (Some r) g = effect_for_unlocking (row_of c).rank o r.id.0 g

pub start_stands : {A : Type 0} (plan : Plan) (m : Meaning A) (S : State A) (k : Cpu) (c : Callback) (o : Handle) (r : Option Handle) → may plan m S (event.Start k c o r) ≡ true → Numbered S → FreeState plan S → AllSane S.requests → Around plan S → (IsResolved plan → AllAsked S.power) → Stands plan S
    → Stands plan (after plan m S (event.Start k c o r))
start_stands {A} plan m S k c o r h numbered state sane around asked st =
    told plan m (event.Start k c o r) U
    (begins_stands plan S U f frame b st begins new later (event_calms plan S (event.Start k c o r) st refl refl (event_fits plan m S (event.Start k c o r) h) places) free left)
  where
    places : Places S
    places = state.places

    f : ℕ
    f = next_number S

    frame : Frame
    frame = new_frame plan S c o r

    level : ℕ
    level = callback_irql plan c o.id.0

    l : Option LockRef
    l = lock_of_callback plan c o.id.0 (declared_in plan S o.id.0)

    b : Abstract
    b = start plan frame.script

    es : List Deed
    es = start_effect plan S k.0 c o.id.0 r

    W : State A
    W = do_deeds plan es S

    U : State A
    U = do_deeds plan (deeds plan S (event.Start k c o r)) S

    split : U ≡ do_deeds plan (PushFrame (cpu_of k.0) (frame_id f) frame (irql_of level) ∷ take_if_any f l) W
    split = in_turn plan es (PushFrame (cpu_of k.0) (frame_id f) frame (irql_of level) ∷ take_if_any f l) S

    cpus_ : U.cpus ≡ cpus.push S.cpus k.0 f frame level
    cpus_ = ap (λ (T : State A). T.cpus) split ∙ taken_cpus plan W k.0 f frame level l ∙ ap (λ (C : Cpus). cpus.push C k.0 f frame level) (start_cpus plan S k.0 c o.id.0 r)

    requests_ : U.requests ≡ W.requests
    requests_ = ap (λ (T : State A). T.requests) split ∙ taken_requests plan W k.0 f frame level l

    comes : may_start plan m S k.0 c o.id.0 r ≡ true
    comes = both_right (is_cpu plan k && is_proper plan S o && is_proper_if_any plan S r) (may_start plan m S k.0 c o.id.0 r) h

    ready : is_ready_for plan m S k.0 c o.id.0 r ≡ true
    ready = both_right (declares_in plan S c o.id.0 && life_fits S c o.id.0 && level_fits S k.0 level && is_free_if_any S.locks l) (is_ready_for plan m S k.0 c o.id.0 r) comes

    declares_ : declares_in plan S c o.id.0 ≡ true
    declares_ = both_left (declares_in plan S c o.id.0) (life_fits S c o.id.0) (both_left (declares_in plan S c o.id.0 && life_fits S c o.id.0) (level_fits S k.0 level)
        (both_left (declares_in plan S c o.id.0 && life_fits S c o.id.0 && level_fits S k.0 level) (is_free_if_any S.locks l) (both_left (declares_in plan S c o.id.0 && life_fits S c o.id.0 && level_fits S k.0 level && is_free_if_any S.locks l) (is_ready_for plan m S k.0 c o.id.0 r) comes)))

    is_callback : callback_of plan frame.script ≡ c
    is_callback = callback_at plan c (declared_in plan S o.id.0) frame.script (there_some (script_in plan S c o.id.0) declares_)

    holds : b.hold ≡ hold_at_start c
    holds = ap hold_at_start is_callback

    later : (x : ℕ) → x < length S.requests.all → LaterAt x S.requests U.requests
    later x old = event_later plan S (event.Start k c o r) x refl (event_fits plan m S (event.Start k c o r) h) places old

    pushed_ : (frame_of (cpus.push S.cpus k.0 f frame level) f ≡ frame) × ((x : ℕ) → x ≢ f → (on (cpus.push S.cpus k.0 f frame level) x ≡ on S.cpus x) × (frame_of (cpus.push S.cpus k.0 f frame level) x ≡ frame_of S.cpus x))
    pushed_ = pushed_frames S.cpus k.0 f frame level numbered

    begins : FrameBegins S U f frame
    begins = record {
      new = numbered;
      here = subst (λ (C : Cpus). frame_of C f ≡ frame) (sym cpus_) pushed_.0;
      others = λ x n. subst (λ (C : Cpus). (on C x ≡ on S.cpus x) × (frame_of C x ≡ frame_of S.cpus x)) (sym cpus_) (pushed_.1 x n);
    }

    same_request : {q : Handle} → (frame_of U.cpus f).request ≡ Some q → r ≡ Some q
    same_request has = sym (ap (λ (x : Frame). x.request) begins.here) ∙ has

    -- the request is there, and is what the callback's rank makes of it
    for_it : (q : Handle) → r ≡ Some q → rank_ready_for plan S (row_of c).rank c o.id.0 q.id.0 ≡ true
    for_it q e = subst (λ x. is_ready_for plan m S k.0 c o.id.0 x ≡ true) e ready

    made : (q : Handle) → r ≡ Some q → gets (row_of c).rank ≡ true → Got (request_of S.requests q.id.0) (request_of U.requests q.id.0)
    made q e g =
        subst (λ (R : Requests). Got (request_of S.requests q.id.0) (request_of R q.id.0)) (sym requests_)
        (subst (λ x. Got (request_of S.requests q.id.0) (request_of (do_deeds plan (start_effect plan S k.0 c o.id.0 x) S).requests q.id.0)) (sym e)
        (got plan m S places sane c o.id.0 q.id.0 (row_of c).rank (for_it q e) g))

    grip_at : (h : Hold) → hold_at_start c ≡ h → (q : Handle) → r ≡ Some q → GripOf h (request_of U.requests q.id.0)
    grip_at hold.Own e q is = (made q is (owning_rank c (ap is_own_or_marked e)).0).now
    grip_at hold.Marked e q is = absurd (let w = (owning_rank c (ap is_own_or_marked e)).1 in let z : ⊥ = cc in z)
    grip_at hold.Away e q is = tt
    grip_at hold.Stop e q is = tt

    hand_free : (h : Hold) → hold_at_start c ≡ h → (q : Handle) → r ≡ Some q → InHand h U.requests q.id.0 → Loose (request_of S.requests q.id.0)
    hand_free hold.Own e q is i = (made q is (owning_rank c (ap is_own_or_marked e)).0).loose
    hand_free hold.Marked e q is i = absurd (let w = (owning_rank c (ap is_own_or_marked e)).1 in let z : ⊥ = cc in z)
    hand_free hold.Away e q is i = absurd i
    hand_free hold.Stop e q is i = absurd i

    power_ : U.power ≡ W.power
    power_ = ap (λ (T : State A). T.power) split ∙ taken_power plan W k.0 f frame level l

    -- where nothing sends, what it has comes from its object, a queue
    from_ : plan_sends plan ≡ false → (q : Handle) → r ≡ Some q → InHand b.hold U.requests q.id.0 → From U.requests frame q.id.0
    from_ off q is i =
        let own : is_own_or_marked (hold_at_start c) ≡ true = begins_with (hold_at_start c) U.requests q.id.0 (subst (λ x. InHand x U.requests q.id.0) holds i) in
        let unsent : is_sent (place_of S.requests q.id.0) ≡ false = none_there S places (around.unsent off) q.id.0 in
        let came = came_from plan S places c o.id.0 q.id.0 own (for_it q is) unsent in
        record {
          origin = subst (λ (R : Requests). origin_of R q.id.0 ≡ Some o.id.0) (sym requests_) (subst (λ x. origin_of (do_deeds plan (start_effect plan S k.0 c o.id.0 x) S).requests q.id.0 ≡ Some o.id.0) (sym is) came.0);
          lock = came.1;
        }

    -- an EvtIoStop that may acknowledge begins for a request that the driver owns, and that wasn't asked for yet
    stopping_ : Guarded plan frame.script → is_stop b.hold ≡ true → Stopping U.requests U.power frame b.acknowledged
    stopping_ guard is =
        let calls : c ≡ callback.EvtIoStop = stop_callback c (ap is_stop (sym holds) ∙ is) in
        let due = stop_due plan m S k.0 o.id.0 r (subst (λ x. is_ready_for plan m S k.0 x o.id.0 r ≡ true) calls ready) in
        let q : Handle = due.0 in
        let effect_ : es ≡ AskStop (object_id q.id.0) ∷ [] = ap (λ x. start_effect plan S k.0 x o.id.0 r) calls ∙ ap (start_effect plan S k.0 callback.EvtIoStop o.id.0) due.1 in
        let requests_now : U.requests ≡ S.requests = requests_ ∙ ap (λ ds. (do_deeds plan ds S).requests) effect_ in
        let power_now : U.power ≡ power.stop_asked S.power q.id.0 = power_ ∙ ap (λ ds. (do_deeds plan ds S).power) effect_ in
        let here : holding_of U.power q.id.0 ≡ record (holding_of S.power q.id.0) { stop_asked = true } = ap (λ (P : Power). holding_of P q.id.0) power_now ∙ holding_here S.power q.id.0 (λ y. record y { stop_asked = true }) in
        let unsent : is_sent (place_of S.requests q.id.0) ≡ false = none_there S places (around.unsent guard.sends) q.id.0 in
        let held = held_parts plan S o.id.0 q.id.0 due.2 in
        let fresh : acknowledged S.power q.id.0 ≡ false = unasked (holding_of S.power q.id.0) (asked guard.resolved q.id.0) held.2 in
        record {
          request = q;
          has = due.1;
          calls = calls;
          owned = subst (λ (R : Requests). is_owned (place_of R q.id.0) ≡ true) (sym requests_now) (owned_held (is_forgotten S.targets q.id.0) (place_of S.requests q.id.0) held.1 unsent);
          origin = subst (λ (R : Requests). origin_of R q.id.0 ≡ Some o.id.0) (sym requests_now) (top_is (origin_of S.requests q.id.0) o.id.0 held.0);
          asked = ap (λ (y : Holding). y.stop_asked) here;
          fresh = λ e. ap (λ (y : Holding). y.acknowledged) here ∙ fresh;
        }

    -- its own lock is none that a call took
    left : (g : ℕ) → Left S.locks U.locks g
    left g = deeds_left plan (deeds plan S (event.Start k c o r)) S g
        (none_both g es (PushFrame (cpu_of k.0) (frame_id f) frame (irql_of level) ∷ take_if_any f l) (start_unlocking plan S k.0 c o.id.0 r g) (taken_if_any g f l))

    new : FrameStands plan U f b
    new = record {
      reached = subst (λ (x : Frame). IsReached plan x.script b) (sym begins.here) ([], refl);
      simulates = subst (Simulates b) (sym begins.here) (record { at = refl; known = all_start 16 });
      grips = λ q has.
          let is = same_request has in
          let old : q.id.0 < length S.requests.all = within S.requests q.id.0 (undone plan m S places sane c o.id.0 q.id.0 (row_of c).rank (for_it q is)) in
          (subst (λ x. GripOf x (request_of U.requests q.id.0)) (sym holds) (grip_at (hold_at_start c) refl q is), let long = (later q.id.0 old).long in omega arith);
      has = λ own.
          let w = with_request_ plan m S k.0 c o.id.0 r (owning_rank c (sym (ap is_own_or_marked holds) ∙ own)).0 ready in
          (w.0, ap (λ (x : Frame). x.request) begins.here ∙ w.1);
      waits = λ p e. absurd (let none : (frame_of U.cpus f).pending ≡ None = ap (λ (x : Frame). x.pending) begins.here in let z : ⊥ = cc in z);
      locks = record {
        few = let none = st.off f numbered in let l = left f in let less = l.fewer in omega arith;
        single = λ i. let z : 0 ≤ 1 = omega arith in z;
        plain = λ res. tt;
        interrupts = λ res i is. absurd (let z : ⊥ = cc in z);
      };
      began = subst (Began plan) (sym begins.here) (record {
        callback = is_callback;
        interrupt = λ res is. interrupt_began plan S c o.id.0 frame.script res (there_some (script_in plan S c o.id.0) declares_) is;
        queue = λ is. queue_began plan S c o.id.0 frame.script (there_some (script_in plan S c o.id.0) declares_) is;
      });
      own = subst (λ (x : Frame). OwnAs plan U.requests U.power x b) (sym begins.here) (record { from = from_; stopping = stopping_ });
    }

    not_theirs : (g : ℕ) → 1 ≤ on S.cpus g → (x : ℕ) → Loose (request_of S.requests x) → Grasps S g (st.states g) x → ⊥
    not_theirs g more x loose t =
        let grip = ((st.stands g more).grips t.request t.has).0 in
        by (st.states g).hold (subst (λ y. GripOf (st.states g).hold (request_of S.requests y)) t.same grip) t.in_hand
      where
        by : (q : Hold) → GripOf q (request_of S.requests x) → InHand q S.requests x → ⊥
        by hold.Own g i = loose.owned g
        by hold.Marked (inl w) i = loose.cancelable w
        by hold.Marked (inr w) i = (let off = w.off in let z : ⊥ = cc in z)
        by hold.Away g i = i
        by hold.Stop g i = i

    free : (g x : ℕ) → 1 ≤ on S.cpus g → Grasps U f b x → Grasps S g (st.states g) x → ⊥
    free g x more mine theirs =
        let is = same_request mine.has in
        not_theirs g more x (subst (λ y. Loose (request_of S.requests y)) mine.same (hand_free (hold_at_start c) refl mine.request is (subst (λ y. InHand (hold_at_start c) U.requests y) (sym mine.same) (subst (λ q. InHand q U.requests x) holds mine.in_hand)))) theirs
