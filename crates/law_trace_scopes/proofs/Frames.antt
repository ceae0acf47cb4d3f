-- What events say of frames is what the processors have, and each frame that is there holds its lock: at each place of
-- every run.
use Rattle.std.proofs.Common.{◌≡◌, ℕ, ◌≢◌, zero, suc, ◌+◌, ◌==◌, ◌≤◌, Bool, true, false, not, ◌&&◌, List, [], ◌∷◌, ◌++◌, ◌⊎◌, inl, inr, Option, Some, None, count_by, drop, length, option_map, replicate, slice_get, take, refl, sym, ap, subst, ◌∙◌, arith, length-append}
use Rattle.std.proofs.lemmas.Bool.{cases_Bool, eqb-true}
use Rattle.std.proofs.lemmas.Grind.{fold-append}
use Rattle.wdf_base.specs.Meaning.{Meaning}
use Rattle.wdf_base.specs.declared.ids.Cpu.{Cpu}
use Rattle.wdf_base.specs.declared.ids.FrameId.{FrameId}
use Rattle.wdf_base.specs.declared.ids.Handle.{Handle}
use Rattle.wdf_base.specs.declared.plan.Plan.{Plan}
use Rattle.wdf_base.specs.declared.value.Value.{Value}
use Rattle.wdf_base.specs.declared.object.LockRef.{LockRef}
use Rattle.wdf_base.specs.declared.call.Arg.{Arg}
use Rattle.wdf_base.specs.declared.call.Call.{Call}
use Rattle.wdf_base.specs.declared.call.CallKind.{CallKind}
use Rattle.wdf_base.specs.declared.call.CallKind.TheVariants as call
use Rattle.wdf_base.specs.declared.call.Callback.{Callback}
use Rattle.wdf_base.specs.declared.rank.Rank.{Rank}
use Rattle.wdf_base.specs.declared.rank.Rank.TheVariants as rank
use Rattle.wdf_base.specs.declared.event.Event.{Event}
use Rattle.wdf_base.specs.declared.event.Event.TheVariants as event
use Rattle.wdf_base.specs.declared.event.Fault.TheVariants as fault
use Rattle.wdf_base.specs.declared.frame.Frame.{Frame}
use Rattle.wdf_base.specs.Callbacks.{row_of}
use Rattle.wdf_base.specs.Same.{same_lock}
use Rattle.wdf_base.specs.Calls.{is_release}
use Rattle.wdf_model.specs.declared.entries.Held.{Held}
use Rattle.wdf_model.specs.Tables.{entry, first_of_list, flag, put}
use Rattle.wdf_model.specs.Plans.{callback_irql}
use Rattle.wdf_model.specs.parts.Cpus.{Cpus, frame_of, stack_of, top}
use Rattle.wdf_model.specs.parts.Cpus as cpus
use Rattle.wdf_model.specs.parts.Locks.{Locks, holds_by_call, lock_of_callback, object_lock}
use Rattle.wdf_model.specs.State.{State, declared_in, object_in}
use Rattle.wdf_model.specs.Ids.{cpu_of, frame_id, irql_of}
use Rattle.wdf_model.specs.rules.Calls.{is_met_then, lock_level}
use Rattle.wdf_model.specs.declared.deed.Deed.{Deed}
use Rattle.wdf_model.specs.declared.deed.Deed.TheVariants.{GoOn, Lower, ParkFrame, PopFrame, PushFrame, ReleaseLock, UnparkFrame}
use Rattle.wdf_model.specs.rules.Deeds.{do_deed, do_deeds}
use Rattle.wdf_model.specs.rules.Starts.{end_of_step, new_frame, next_number, release_if_any, start_effect, take_if_any}
use Rattle.wdf_model.specs.rules.Steps.{after, answered, deeds, did_deeds, may}
use Rattle.wdf_model.specs.rules.Ready.{IsRunOf, ready, state_after}
use Rattle.law_machine_base.specs.Fits.{all_fit, fits}
use Rattle.law_machine_base.specs.FactsOfEvents.{IsTick}
use Rattle.wdf_model.proofs.Runs.{along_run}
use Rattle.law_machine_base.proofs.Follows.{follows, state_goes_on}
use Rattle.wdf_model.proofs.Tests.{both, both_left, both_right, not_false}
use Rattle.wdf_model.proofs.Counts.{count_behind, count_cons, count_of_one, equal, not_equal, one_or_two}
use Rattle.wdf_model.proofs.Maps.{entry_put_other, entry_put_same}
use Rattle.law_machine_base.proofs.OwnEvents.{IsEnd, did_tells, end_tells, waiting_tells}
use Rattle.law_machine_base.proofs.FitsOfEvents.{by_its_top, event_fits}
use Rattle.law_machine_counts.proofs.FrameMoves.{FrameKept, pop_on}
use Rattle.law_machine_counts.proofs.StepStates.{fit_before, in_turn}
use Rattle.law_machine_lives.proofs.FramesStay.{Begins, frames_by}
use Rattle.law_machine_lives.proofs.Framing.{Framing, framing_by, lock_stays}
use Rattle.law_machine_lives.proofs.Lists.{Each, each_behind, each_kept, each_still}
use Rattle.wdf_model.proofs.Sames.{lock_itself}
use Rattle.law_machine_lives.proofs.LocksOnce.{Once, once_at_each}
use Rattle.law_machine_lives.proofs.QuietDeeds.{all_quiet, is_quiet_deed, start_effect_none}
use Rattle.law_machine_lives.proofs.Sound.{AllSound, Sound, lock_of_frame}
use Rattle.law_machine_lives.proofs.SoundEvents.{Before, start_effect_sound}
use Rattle.law_machine_lives.proofs.SoundRuns.{KnownAll, all_known, all_sound}
use Rattle.wdf_laws.specs.declared.sign.Begun.{Begun}
use Rattle.wdf_laws.specs.declared.sign.Stacked.{Stacked}
use Rattle.wdf_laws.specs.Frames.{Frames, frames_after, frames_step, is_other, no_frames, pushed, top_of, without_ended, without_top}
use Rattle.law_machine_once.proofs.Numbers.{number_is}
use Rattle.law_trace_once.proofs.Words.{any_weaker, found_counts}
use Rattle.law_machine_deeds.specs.MayDo.{is_end, is_park, is_start, is_unpark, may_do, releasing}
use Rattle.law_machine_deeds.proofs.Passing.{event_passes}
use Rattle.law_machine_lives.proofs.ReasonsOfEvents.{top_on}
use Rattle.law_trace_scopes.proofs.Stacks.{popped_apart, popped_here, pushed_apart, pushed_here, told_stack, told_top}
use Rattle.law_trace_scopes.proofs.Holding.{Goes, Holds, HoldsBut, Kept, deeds_hold, deeds_stacks, goes_cpus, goes_then, is_moving, is_other_hold, is_own_hold, is_special, none_special, not_own, own_holds, release_holds}
use Rattle.law_machine_lives.proofs.Keeping.{at_the_end}
use Rattle.law_machine_counts.proofs.StepsOverRuns.{none_yet}
use Rattle.wdf_model.proofs.FrameCounts.{on}

-- a callback that has begun and not ended is that of a frame that is there
abbrev pub IsBegun : {A : Type 0} → State A → Begun → Type 0
IsBegun S b = (1 ≤ on S.cpus b.frame) × ((frame_of S.cpus b.frame).callback ≡ b.callback) × ((frame_of S.cpus b.frame).object.id.0 ≡ b.object)

-- What events say of frames is what the processors have, and frames hold their locks.
pub record Agrees {A : Type 0} (plan : Plan) (ss : List Stacked) (bs : List Begun) (S : State A) : Type 0 where
  pub stacks : (cpu : ℕ) → told_stack cpu ss ≡ stack_of S.cpus cpu
  pub begun : Each (IsBegun S) bs
  pub holds : Holds plan S

begun_still : {A : Type 0} (S U : State A) → Goes S U → (bs : List Begun) → Each (IsBegun S) bs → Each (IsBegun U) bs
begun_still S U g bs k = each_still (IsBegun S) (IsBegun U)
    (λ b is. let there = g.none b.frame is.0 in let kept = (g.go b.frame there).1 in (there, kept.callback ∙ is.1, ap (λ (h : Handle). h.id.0) kept.object ∙ is.2)) bs k

agrees_still : {A : Type 0} (plan : Plan) (ss : List Stacked) (bs : List Begun) (S U : State A) → U.cpus.stacks ≡ S.cpus.stacks → Goes S U → Holds plan U → Agrees plan ss bs S → Agrees plan ss bs U
agrees_still plan ss bs S U same g h k = record {
  stacks = λ cpu. k.stacks cpu ∙ sym (ap (λ fs. entry [] fs cpu) same);
  begun = begun_still S U g bs k.begun;
  holds = h;
}

-- ---- events by which no frame moves and no lock is given back

unspecial : (e : Event) → is_start e ≡ false → is_end e ≡ false → releasing e ≡ false → (d : Deed) → may_do e d ≡ true → not (is_special d) ≡ true
unspecial e s n r (PushFrame cpu f frame level) h = absurd (let z : ⊥ = cc in z)
unspecial e s n r (PopFrame cpu) h = absurd (let z : ⊥ = cc in z)
unspecial e s n r (ReleaseLock l) h = absurd (let z : ⊥ = cc in z)
unspecial e s n r _ h = refl

unmoving : (e : Event) → is_start e ≡ false → is_end e ≡ false → is_park e ≡ false → is_unpark e ≡ false → (d : Deed) → may_do e d ≡ true → not (is_moving d) ≡ true
unmoving e s n p u (PushFrame cpu f frame level) h = absurd (let z : ⊥ = cc in z)
unmoving e s n p u (PopFrame cpu) h = absurd (let z : ⊥ = cc in z)
unmoving e s n p u (ParkFrame cpu) h = absurd (let z : ⊥ = cc in z)
unmoving e s n p u (UnparkFrame cpu f) h = absurd (let z : ⊥ = cc in z)
unmoving e s n p u _ h = refl

quiet_step : {A : Type 0} (plan : Plan) (m : Meaning A) (ss : List Stacked) (bs : List Begun) (S : State A) (e : Event) → may plan m S e ≡ true → KnownAll plan S → is_start e ≡ false → is_end e ≡ false → is_park e ≡ false → is_unpark e ≡ false → releasing e ≡ false
    → Agrees plan ss bs S → Agrees plan ss bs (after plan m S e)
quiet_step {A} plan m ss bs S e h known s n p u r k =
    let ds : List Deed = deeds plan S e in
    let U : State A = do_deeds plan ds S in
    let kept : Kept plan (λ f. ⊥) S U = deeds_hold plan ds S (λ f. ⊥) (event_fits plan m S e h) (all_sound plan m S e known h) (event_passes (λ d. not (is_special d)) plan S e (unspecial e s n r)) known.framing k.holds in
    let done : Agrees plan ss bs U = agrees_still plan ss bs S U (deeds_stacks plan ds S (event_passes (λ d. not (is_moving d)) plan S e (unmoving e s n p u))) kept.goes kept.holds k in
    record { stacks = done.stacks; begun = done.begun; holds = done.holds }

-- ---- a call gives a lock back

called_other : (l : LockRef) (f g : ℕ) (h : Held) → (same_lock h.lock l && (h.frame.0 == f) && h.by_call) ≡ true → is_other_hold l g h ≡ true
called_other l f g h e =
    let called : h.by_call ≡ true = both_right (same_lock h.lock l && (h.frame.0 == f)) h.by_call e in
    let same : same_lock h.lock l ≡ true = both_left (same_lock h.lock l) (h.frame.0 == f) (both_left (same_lock h.lock l && (h.frame.0 == f)) h.by_call e) in
    both (same_lock h.lock l) (not ((h.frame.0 == g) && not h.by_call)) same (rw called (by (h.frame.0 == g)))
  where
    by : (b : Bool) → not (b && false) ≡ true
    by true = refl
    by false = refl

by_call_other : (L : Locks) (l : LockRef) (f g : ℕ) → holds_by_call L f l ≡ true → 1 ≤ count_by (is_other_hold l g) L.held
by_call_other L l f g h = found_counts (is_other_hold l g) L.held (any_weaker (λ x. same_lock x.lock l && (x.frame.0 == f) && x.by_call) (is_other_hold l g) (called_other l f g) L.held h)

release_step : {A : Type 0} (plan : Plan) (m : Meaning A) (ss : List Stacked) (bs : List Begun) (S : State A) (k : Cpu) (c : Call) (v : Value) → may plan m S (event.Did k c v) ≡ true → KnownAll plan S → Once S.locks → is_release c.kind ≡ true
    → ((f : ℕ) (frame : Frame) → did_deeds plan S k.0 c v f frame ≡ ReleaseLock (object_lock (object_in c.a)) ∷ Lower (frame_id f) (irql_of (lock_level plan S (object_in c.a))) ∷ GoOn (frame_id f) (answered plan frame v) ∷ [])
    → Agrees plan ss bs S → Agrees plan ss bs (after plan m S (event.Did k c v))
release_step {A} plan m ss bs S k c v h known once rel is agrees =
    let e : Event = event.Did k c v in
    let d = did_tells plan m S k c v h in
    let f : ℕ = d.frame in
    let l : LockRef = object_lock (object_in c.a) in
    let next : Frame = answered plan (frame_of S.cpus f) v in
    let rest : List Deed = Lower (frame_id f) (irql_of (lock_level plan S (object_in c.a))) ∷ GoOn (frame_id f) next ∷ [] in
    let ds : List Deed = ReleaseLock l ∷ rest in
    let list : deeds plan S e ≡ ds = by_its_top S k.0 f (did_deeds plan S k.0 c v) d.about.top ∙ is f (frame_of S.cpus f) in
    let fit : all_fit plan ds S ≡ true = subst (λ xs. all_fit plan xs S ≡ true) list (event_fits plan m S e h) in
    let sound : AllSound plan ds S = subst (λ xs. AllSound plan xs S) list (all_sound plan m S e known h) in
    let held : holds_by_call S.locks f l ≡ true = not_false (holds_by_call S.locks f l) (held_by (is_release c.kind) (holds_by_call S.locks f l) rel (d.about.clean fault.LockNotHeld)) in
    let V : State A = do_deed plan (ReleaseLock l) S in
    let free : HoldsBut plan V (λ g. ⊥) = release_holds plan S l (λ g. ⊥) (λ g other more own. not_own S.locks l g once (by_call_other S.locks l f g held) own) agrees.holds in
    let framing : Framing plan V = framing_by plan (ReleaseLock l) S refl tt known.framing in
    let U : State A = do_deeds plan rest V in
    let kept : Kept plan (λ g. ⊥) V U = deeds_hold plan rest V (λ g. ⊥) (both_right (fits plan (ReleaseLock l) S) (all_fit plan rest V) fit) sound.1 refl framing free in
    let goes : Goes S U = goes_then S V U (goes_cpus S V refl) kept.goes in
    let done : Agrees plan ss bs U = agrees_still plan ss bs S U (deeds_stacks plan ds S refl) goes kept.holds agrees in
    let all : Agrees plan ss bs (do_deeds plan (deeds plan S e) S) = subst (λ xs. Agrees plan ss bs (do_deeds plan xs S)) (sym list) done in
    record { stacks = all.stacks; begun = all.begun; holds = all.holds }
  where
    held_by : (a b : Bool) → a ≡ true → (a && not b) ≡ false → not b ≡ false
    held_by true b h k = k
    held_by false b h k = absurd (let z : ⊥ = cc in z)

abbrev DidAgrees : {A : Type 0} → Plan → Meaning A → List Stacked → List Begun → State A → Cpu → CallKind → Type 0
DidAgrees plan m ss bs S k kind_ = (n : ℕ) (a b x : Arg) (v : Value) → may plan m S (event.Did k (record { kind = kind_; count = n; a = a; b = b; c = x }) v) ≡ true → KnownAll plan S → Once S.locks → Agrees plan ss bs S
    → Agrees plan ss bs (after plan m S (event.Did k (record { kind = kind_; count = n; a = a; b = b; c = x }) v))

did_step : {A : Type 0} (plan : Plan) (m : Meaning A) (ss : List Stacked) (bs : List Begun) (S : State A) (k : Cpu) (kind_ : CallKind) → DidAgrees plan m ss bs S k kind_
did_step plan m ss bs S k call.WdfSpinLockRelease = λ n a b x v h known once q. release_step plan m ss bs S k (record { kind = call.WdfSpinLockRelease; count = n; a = a; b = b; c = x }) v h known once refl (λ f frame. refl) q
did_step plan m ss bs S k call.WdfWaitLockRelease = λ n a b x v h known once q. release_step plan m ss bs S k (record { kind = call.WdfWaitLockRelease; count = n; a = a; b = b; c = x }) v h known once refl (λ f frame. refl) q
did_step plan m ss bs S k call.WdfInterruptReleaseLock = λ n a b x v h known once q. release_step plan m ss bs S k (record { kind = call.WdfInterruptReleaseLock; count = n; a = a; b = b; c = x }) v h known once refl (λ f frame. refl) q
did_step plan m ss bs S k _ = λ n a b x v h known once q. quiet_step plan m ss bs S (event.Did k (record { kind = _; count = n; a = a; b = b; c = x }) v) h known refl refl refl refl refl q

-- a release doesn't wait
waits_not : {A : Type 0} (plan : Plan) (S : State A) (k : CallKind) (n : ℕ) (a b x : Arg) → is_met_then plan S (record { kind = k; count = n; a = a; b = b; c = x }) ≡ false → is_release k ≡ false
waits_not plan S call.WdfSpinLockRelease n a b x h = absurd (let z : ⊥ = cc in z)
waits_not plan S call.WdfWaitLockRelease n a b x h = absurd (let z : ⊥ = cc in z)
waits_not plan S call.WdfInterruptReleaseLock n a b x h = absurd (let z : ⊥ = cc in z)
waits_not plan S _ n a b x h = refl

-- ---- stacks that change

-- a stack that is written, beside the others
stacks_by : (told : ℕ → List ℕ) (fss : List (List ℕ)) (cpu : ℕ) (new : List ℕ) → told cpu ≡ new → ((c : ℕ) → (cpu == c) ≡ false → told c ≡ entry [] fss c) → (c : ℕ) → told c ≡ entry [] (put [] fss cpu new) c
stacks_by told fss cpu new here others c = elim (one_or_two c cpu) [
  | inl e ↦ ap told e ∙ here ∙ sym (entry_put_same [] fss cpu new) ∙ sym (ap (entry [] (put [] fss cpu new)) e)
  | inr n ↦ others c (not_equal cpu c (λ e. n (sym e))) ∙ sym (entry_put_other [] fss cpu c new n)
]

pushed_stacks : (ss : List Stacked) (C : Cpus) (cpu f : ℕ) → ((c : ℕ) → told_stack c ss ≡ stack_of C c) → (c : ℕ) → told_stack c (pushed cpu f ss) ≡ entry [] (put [] C.stacks cpu (f ∷ stack_of C cpu)) c
pushed_stacks ss C cpu f k =
    stacks_by (λ c. told_stack c (pushed cpu f ss)) C.stacks cpu (f ∷ stack_of C cpu) (pushed_here cpu f ss ∙ ap (λ fs. f ∷ fs) (k cpu)) (λ c n. pushed_apart cpu c f ss n ∙ k c)

popped_stacks : (ss : List Stacked) (C : Cpus) (cpu : ℕ) → ((c : ℕ) → told_stack c ss ≡ stack_of C c) → (c : ℕ) → told_stack c (without_top cpu ss) ≡ entry [] (put [] C.stacks cpu (drop 1 (stack_of C cpu))) c
popped_stacks ss C cpu k =
    stacks_by (λ c. told_stack c (without_top cpu ss)) C.stacks cpu (drop 1 (stack_of C cpu)) (popped_here cpu ss ∙ ap (λ fs. drop 1 fs) (k cpu)) (λ c n. popped_apart cpu c ss n ∙ k c)

-- ---- a frame leaves its processor, and comes back

park_step : {A : Type 0} (plan : Plan) (m : Meaning A) (ss : List Stacked) (bs : List Begun) (S : State A) (k : Cpu) (f : FrameId) → may plan m S (event.Park k f) ≡ true → KnownAll plan S → Agrees plan ss bs S
    → Agrees plan (without_top k.0 ss) bs (after plan m S (event.Park k f))
park_step {A} plan m ss bs S k f h known q =
    let ds : List Deed = ParkFrame k ∷ [] in
    let U : State A = do_deeds plan ds S in
    let kept : Kept plan (λ g. ⊥) S U = deeds_hold plan ds S (λ g. ⊥) refl (all_sound plan m S (event.Park k f) known h) refl known.framing q.holds in
    record { stacks = popped_stacks ss S.cpus k.0 q.stacks; begun = begun_still S U kept.goes bs q.begun; holds = kept.holds }

unpark_step : {A : Type 0} (plan : Plan) (m : Meaning A) (ss : List Stacked) (bs : List Begun) (S : State A) (k : Cpu) (f : FrameId) → may plan m S (event.Unpark k f) ≡ true → KnownAll plan S → Agrees plan ss bs S
    → Agrees plan (pushed k.0 f.0 ss) bs (after plan m S (event.Unpark k f))
unpark_step {A} plan m ss bs S k f h known q =
    let ds : List Deed = UnparkFrame k f ∷ [] in
    let U : State A = do_deeds plan ds S in
    let kept : Kept plan (λ g. ⊥) S U = deeds_hold plan ds S (λ g. ⊥) refl (all_sound plan m S (event.Unpark k f) known h) refl known.framing q.holds in
    record { stacks = pushed_stacks ss S.cpus k.0 f.0 q.stacks; begun = begun_still S U kept.goes bs q.begun; holds = kept.holds }

-- ---- a callback begins

sound_parts : {A : Type 0} (plan : Plan) (ds es : List Deed) (S : State A) → AllSound plan (ds ++ es) S → AllSound plan ds S × AllSound plan es (do_deeds plan ds S)
sound_parts plan [] es S h = (tt, h)
sound_parts plan (d ∷ ds) es S h = let p = sound_parts plan ds es (do_deed plan d S) h.1 in ((h.0, p.0), p.1)

quiet_unspecial : (d : Deed) → is_quiet_deed d ≡ true → not (is_special d) ≡ true
quiet_unspecial (PushFrame cpu f frame level) h = absurd (let z : ⊥ = cc in z)
quiet_unspecial (PopFrame cpu) h = absurd (let z : ⊥ = cc in z)
quiet_unspecial (ReleaseLock l) h = absurd (let z : ⊥ = cc in z)
quiet_unspecial _ h = refl

all_quiet_unspecial : (ds : List Deed) → all_quiet ds ≡ true → none_special ds ≡ true
all_quiet_unspecial [] h = refl
all_quiet_unspecial (d ∷ ds) h = both (not (is_special d)) (none_special ds) (quiet_unspecial d (both_left (is_quiet_deed d) (all_quiet ds) h)) (all_quiet_unspecial ds (both_right (is_quiet_deed d) (all_quiet ds) h))

-- a frame that begins, and takes its lock
abbrev lock_by : {A : Type 0} → Plan → State A → Frame → Option LockRef
lock_by plan S a = lock_of_callback plan a.callback a.object.id.0 (declared_in plan S a.object.id.0)

taken_holds : {A : Type 0} (plan : Plan) (V : State A) (f : ℕ) (l : Option LockRef) → lock_of_frame plan V f ≡ l → HoldsBut plan V (λ g. g ≡ f) → Holds plan (do_deeds plan (take_if_any f l) V)
taken_holds plan V f None own k g never more l is = elim (one_or_two g f) [
  | inl e ↦ absurd (let same : lock_of_frame plan V f ≡ Some l = subst (λ y. lock_of_frame plan V y ≡ Some l) e is in let z : ⊥ = cc in z)
  | inr n ↦ k g n more l is
]
taken_holds plan V f (Some t) own k g never more l is =
    let all = count_behind (is_own_hold l g) V.locks.held (record { lock = t; frame = record { 0 = f }; by_call = false } ∷ []) in
    let one = count_of_one (is_own_hold l g) (record { lock = t; frame = record { 0 = f }; by_call = false }) in
    elim (one_or_two g f) [
      | inl e ↦
          let at_f : lock_of_frame plan V f ≡ Some l = subst (λ y. lock_of_frame plan V y ≡ Some l) e is in
          let same : t ≡ l = (let s : Some t ≡ Some l = sym own ∙ at_f in let z : t ≡ l = cc in z) in
          let it : is_own_hold l g (record { lock = t; frame = record { 0 = f }; by_call = false }) ≡ true = both (same_lock t l && (f == g)) true (both (same_lock t l) (f == g) (subst (λ x. same_lock t x ≡ true) same (lock_itself t)) (equal f g (sym e))) refl in
          let yes_ : flag (is_own_hold l g (record { lock = t; frame = record { 0 = f }; by_call = false })) ≡ 1 = ap flag it in
          omega arith
      | inr n ↦ let had = k g n more l is in omega arith
    ]

-- a frame begins, and its callback with it
begin_step : {A : Type 0} (plan : Plan) (ss : List Stacked) (bs : List Begun) (S : State A) (cpu f : ℕ) (frame : Frame) (level : ℕ) (l : Option LockRef) → Sound plan (PushFrame (cpu_of cpu) (frame_id f) frame (irql_of level)) S → lock_by plan S frame ≡ l → Agrees plan ss bs S
    → Agrees plan (pushed cpu f ss) (bs ++ record { frame = f; callback = frame.callback; object = frame.object.id.0 } ∷ []) (do_deeds plan (PushFrame (cpu_of cpu) (frame_id f) frame (irql_of level) ∷ take_if_any f l) S)
begin_step {A} plan ss bs S cpu f frame level l s own q =
    let V : State A = do_deed plan (PushFrame (cpu_of cpu) (frame_id f) frame (irql_of level)) S in
    let b : Begins S.cpus V.cpus f frame = frames_by plan (PushFrame (cpu_of cpu) (frame_id f) frame (irql_of level)) S s in
    let but : HoldsBut plan V (λ g. g ≡ f) = λ g n more x is. let o = b.others g n in let same = o.0 in q.holds g (λ z. z) (omega arith) x (sym (ap (lock_by plan S) o.1) ∙ is) in
    let mine : lock_of_frame plan V f ≡ l = ap (lock_by plan S) b.here ∙ own in
    let old : Each (IsBegun V) bs = each_still (IsBegun S) (IsBegun V)
    (λ x is.
    let n : x.frame ≢ f = λ e. (let none : on S.cpus x.frame ≡ 0 = ap (on S.cpus) e ∙ b.new in let there = is.0 in let z : ⊥ = omega arith in z) in
    let o = b.others x.frame n in let same = o.0 in let there = is.0 in
    (omega arith, ap (λ (a : Frame). a.callback) o.1 ∙ is.1, ap (λ (a : Frame). a.object.id.0) o.1 ∙ is.2)) bs q.begun in
    let now_ = b.now in
    let new : Each (IsBegun V) (record { frame = f; callback = frame.callback; object = frame.object.id.0 } ∷ []) =
    ((omega arith, ap (λ (a : Frame). a.callback) b.here, ap (λ (a : Frame). a.object.id.0) b.here), tt) in
    let W : State A = do_deeds plan (take_if_any f l) V in
    let same : W.cpus ≡ V.cpus = takes_none l V in
    record {
      stacks = λ c. pushed_stacks ss S.cpus cpu f q.stacks c ∙ sym (ap (λ (C : Cpus). stack_of C c) same);
      begun = subst (λ (C : Cpus). Each (λ x. (1 ≤ on C x.frame) × ((frame_of C x.frame).callback ≡ x.callback) × ((frame_of C x.frame).object.id.0 ≡ x.object)) (bs ++ record { frame = f; callback = frame.callback; object = frame.object.id.0 } ∷ [])) (sym same)
          (each_behind (IsBegun V) bs (record { frame = f; callback = frame.callback; object = frame.object.id.0 } ∷ []) old new);
      holds = taken_holds plan V f l mine but;
    }
  where
    takes_none : (l : Option LockRef) (V : State A) → (do_deeds plan (take_if_any f l) V).cpus ≡ V.cpus
    takes_none None V = refl
    takes_none (Some t) V = refl

start_step : {A : Type 0} (plan : Plan) (m : Meaning A) (ss : List Stacked) (bs : List Begun) (S : State A) (k : Cpu) (c : Callback) (o : Handle) (r : Option Handle) → may plan m S (event.Start k c o r) ≡ true → KnownAll plan S → Agrees plan ss bs S
    → Agrees plan (pushed k.0 (next_number S) ss) (bs ++ record { frame = next_number S; callback = c; object = o.id.0 } ∷ []) (after plan m S (event.Start k c o r))
start_step {A} plan m ss bs S k c o r h known q =
    let f : ℕ = next_number S in
    let frame : Frame = new_frame plan S c o r in
    let level : ℕ = callback_irql plan c o.id.0 in
    let l : Option LockRef = lock_of_callback plan c o.id.0 (declared_in plan S o.id.0) in
    let E : List Deed = start_effect plan S k.0 c o.id.0 r in
    let R : List Deed = PushFrame k (frame_id f) frame (irql_of level) ∷ take_if_any f l in
    let V : State A = do_deeds plan E S in
    let before : Before plan S V = (start_effect_sound plan S k.0 c o.id.0 r).1 in
    let fit : all_fit plan (E ++ R) S ≡ true = event_fits plan m S (event.Start k c o r) h in
    let sound = sound_parts plan E R S (all_sound plan m S (event.Start k c o r) known h) in
    let kept : Kept plan (λ g. ⊥) S V = deeds_hold plan E S (λ g. ⊥) (fit_before plan E R S fit) sound.0 (all_quiet_unspecial E (start_effect_none plan S k.0 c o.id.0 r)) known.framing q.holds in
    let first_ : Agrees plan ss bs V = agrees_still plan ss bs S V (ap (λ (C : Cpus). C.stacks) before.cpus) kept.goes kept.holds q in
    let own : lock_by plan V frame ≡ l = ap (lock_of_callback plan c o.id.0) (before.declared o.id.0) in
    let done : Agrees plan (pushed k.0 f ss) (bs ++ record { frame = f; callback = c; object = o.id.0 } ∷ []) (do_deeds plan R V) = begin_step plan ss bs V k.0 f frame level l sound.1.0 own first_ in
    let all : Agrees plan (pushed k.0 f ss) (bs ++ record { frame = f; callback = c; object = o.id.0 } ∷ []) (do_deeds plan (E ++ R) S) =
    subst (λ (U : State A). Agrees plan (pushed k.0 f ss) (bs ++ record { frame = f; callback = c; object = o.id.0 } ∷ []) U) (sym (in_turn plan E R S)) done in
    record { stacks = all.stacks; begun = all.begun; holds = all.holds }

-- ---- a callback ends

pub fewer : (p q : Held → Bool) → ((h : Held) → p h ≡ true → q h ≡ true) → (hs : List Held) → count_by p hs ≤ count_by q hs
fewer p q more [] = omega arith
fewer p q more (h ∷ hs) =
    let a = count_cons p h hs in let b = count_cons q h hs in let rest = fewer p q more hs in
    elim (cases_Bool (p h)) [
      | inl e ↦ let one : flag (p h) ≡ 1 = ap flag e in let two : flag (q h) ≡ 1 = ap flag (more h e) in omega arith
      | inr e ↦ let none : flag (p h) ≡ 0 = ap flag e in omega arith
    ]

own_other : (l : LockRef) (f g : ℕ) (h : Held) → g ≢ f → is_own_hold l f h ≡ true → is_other_hold l g h ≡ true
own_other l f g h n e =
    let two : (same_lock h.lock l && (h.frame.0 == f)) ≡ true = both_left (same_lock h.lock l && (h.frame.0 == f)) (not h.by_call) e in
    let same : same_lock h.lock l ≡ true = both_left (same_lock h.lock l) (h.frame.0 == f) two in
    let at : h.frame.0 ≡ f = eqb-true h.frame.0 f (both_right (same_lock h.lock l) (h.frame.0 == f) two) in
    let apart : (h.frame.0 == g) ≡ false = not_equal h.frame.0 g (λ is. n (sym is ∙ at)) in
    both (same_lock h.lock l) (not ((h.frame.0 == g) && not h.by_call)) same (rw apart refl)

given_back : {A : Type 0} (plan : Plan) (S : State A) (f : ℕ) (l : Option LockRef) → lock_of_frame plan S f ≡ l → 1 ≤ on S.cpus f → Once S.locks → Holds plan S → HoldsBut plan (do_deeds plan (release_if_any l) S) (λ g. g ≡ f)
given_back plan S f None own there once k = λ g n more l is. k g (λ z. z) more l is
given_back plan S f (Some l) own there once k =
    release_holds plan S l (λ g. g ≡ f)
    (λ g n more hold.
    let mine : 1 ≤ own_holds S.locks l f = k f (λ z. z) there l own in
    let less = fewer (is_own_hold l f) (is_other_hold l g) (λ h. own_other l f g h n) S.locks.held in
    not_own S.locks l g once (omega arith) hold) k

release_cpus : {A : Type 0} (plan : Plan) (S : State A) (l : Option LockRef) → (do_deeds plan (release_if_any l) S).cpus ≡ S.cpus
release_cpus plan S None = refl
release_cpus plan S (Some l) = refl

same_top : (a b f : ℕ) (o : Option ℕ) → o ≡ Some a → o ≡ Some b → a ≡ b
same_top a b f o h k = let s : Some a ≡ Some b = sym h ∙ k in let z : a ≡ b = cc in z

-- the top frame ends
pop_step : {A : Type 0} (plan : Plan) (ss : List Stacked) (bs : List Begun) (S : State A) (cpu f : ℕ) → top S.cpus cpu ≡ Some f → Sound plan (PopFrame (cpu_of cpu)) S → Framing plan S
    → ((c : ℕ) → told_stack c ss ≡ stack_of S.cpus c) → Each (IsBegun S) bs → HoldsBut plan S (λ g. g ≡ f)
    → Agrees plan (without_top cpu ss) (without_ended (top_of cpu ss) bs) (do_deed plan (PopFrame (cpu_of cpu)) S)
pop_step {A} plan ss bs S cpu f at s framing stacks begun holds =
    let U : State A = do_deed plan (PopFrame (cpu_of cpu)) S in
    let b = frames_by plan (PopFrame (cpu_of cpu)) S s in
    let is : s.0 ≡ f = same_top s.0 f f (top S.cpus cpu) s.1 at in
    let once : on S.cpus f ≤ 1 = subst (λ x. on S.cpus x ≤ 1) is s.2 in
    let less = pop_on S.cpus cpu f at f in
    let one : flag (f == f) ≡ 1 = ap flag (equal f f refl) in
    let none : on U.cpus f ≡ 0 = omega arith in
    record {
      stacks = popped_stacks ss S.cpus cpu stacks;
      begun = ended (top_of cpu ss) (told_top cpu ss ∙ ap first_of_list (stacks cpu) ∙ at) b.0 b.1;
      holds = λ g never more l own.
          let p = b.0 g more in
          let n : g ≢ f = λ e. (let off : on U.cpus g ≡ 0 = ap (on U.cpus) e ∙ none in let z : ⊥ = omega arith in z) in
          holds g n p.0 l (sym (lock_stays plan S U g p.1 (record { there = framing.there g p.0; kind = refl; class = refl })) ∙ own);
    }
  where
    ended : (t : Option Stacked) → option_map (λ (x : Stacked). x.frame) t ≡ Some f → ((x : ℕ) → 1 ≤ on (cpus.pop S.cpus cpu) x → (1 ≤ on S.cpus x) × FrameKept (frame_of S.cpus x) (frame_of (cpus.pop S.cpus cpu) x))
        → ((x : ℕ) → 1 ≤ on S.cpus x → (top S.cpus cpu ≡ Some x → ⊥) → 1 ≤ on (cpus.pop S.cpus cpu) x) → Each (IsBegun (do_deed plan (PopFrame (cpu_of cpu)) S)) (without_ended t bs)
    ended None h go stay = absurd (let z : ⊥ = cc in z)
    ended (Some x) h go stay =
        let is : x.frame ≡ f = cc in
        each_kept (IsBegun S) (IsBegun (do_deed plan (PopFrame (cpu_of cpu)) S)) (is_other x.frame)
        (λ y was other.
        let n : y.frame ≢ f = λ e. (let same : (y.frame == x.frame) ≡ true = equal y.frame x.frame (e ∙ sym is) in let off : not (y.frame == x.frame) ≡ false = ap not same in let z : ⊥ = cc in z) in
        let there : 1 ≤ on (cpus.pop S.cpus cpu) y.frame = stay y.frame was.0 (λ t. n (same_top y.frame f f (top S.cpus cpu) t at)) in
        let kept = (go y.frame there).1 in
        (there, kept.callback ∙ was.1, ap (λ (o : Handle). o.id.0) kept.object ∙ was.2)) bs begun

step_end : {A : Type 0} (plan : Plan) (S T : State A) (ss : List Stacked) (bs : List Begun) (k : Rank) (c : Callback) (o : ℕ) (v : Value) → Agrees plan ss bs T → Agrees plan ss bs (do_deeds plan (end_of_step plan S k c o v) T)
step_end plan S T ss bs rank.Sequence c o v q = record { stacks = q.stacks; begun = q.begun; holds = q.holds }
step_end plan S T ss bs _ c o v q = q

end_step : {A : Type 0} (plan : Plan) (m : Meaning A) (ss : List Stacked) (bs : List Begun) (S : State A) (k : Cpu) (c : Callback) (o : Handle) (v : Value) → may plan m S (event.End k c o v) ≡ true → KnownAll plan S → Once S.locks → Agrees plan ss bs S
    → Agrees plan (without_top k.0 ss) (without_ended (top_of k.0 ss) bs) (after plan m S (event.End k c o v))
end_step {A} plan m ss bs S k c o v h known once q =
    let d : IsEnd plan S k.0 c o v = end_tells plan m S k c o v h in
    let f : ℕ = d.frame in
    let l : Option LockRef = lock_of_callback plan c o.id.0 (declared_in plan S o.id.0) in
    let own : lock_of_frame plan S f ≡ l =
    sym (ap (λ x. lock_of_callback plan x o.id.0 (declared_in plan S o.id.0)) d.callback ∙ ap (λ (x : Handle). lock_of_callback plan (frame_of S.cpus f).callback x.id.0 (declared_in plan S x.id.0)) d.object) in
    let R : List Deed = release_if_any l in
    let E : List Deed = end_of_step plan S (row_of c).rank c o.id.0 v in
    let V : State A = do_deeds plan R S in
    let sound = sound_parts plan R (PopFrame k ∷ E) S (all_sound plan m S (event.End k c o v) known h) in
    let same : V.cpus ≡ S.cpus = release_cpus plan S l in
    let framing : Framing plan V = released l known.framing in
    let top_ : top V.cpus k.0 ≡ Some f = ap (λ (C : Cpus). top C k.0) same ∙ d.about.top in
    let but : HoldsBut plan V (λ g. g ≡ f) = given_back plan S f l own (top_on S.cpus k.0 f d.about.top) once q.holds in
    let begun : Each (IsBegun V) bs = subst (λ (C : Cpus). Each (λ x. (1 ≤ on C x.frame) × ((frame_of C x.frame).callback ≡ x.callback) × ((frame_of C x.frame).object.id.0 ≡ x.object)) bs) (sym same) q.begun in
    let popped : Agrees plan (without_top k.0 ss) (without_ended (top_of k.0 ss) bs) (do_deed plan (PopFrame k) V) =
    pop_step plan ss bs V k.0 f top_ sound.1.0 framing (λ x. q.stacks x ∙ sym (ap (λ (C : Cpus). stack_of C x) same)) begun but in
    let done = step_end plan S (do_deed plan (PopFrame k) V) (without_top k.0 ss) (without_ended (top_of k.0 ss) bs) (row_of c).rank c o.id.0 v popped in
    let all : Agrees plan (without_top k.0 ss) (without_ended (top_of k.0 ss) bs) (do_deeds plan (R ++ PopFrame k ∷ E) S) =
    subst (λ (U : State A). Agrees plan (without_top k.0 ss) (without_ended (top_of k.0 ss) bs) U) (sym (in_turn plan R (PopFrame k ∷ E) S)) done in
    record { stacks = all.stacks; begun = all.begun; holds = all.holds }
  where
    released : (l : Option LockRef) → Framing plan S → Framing plan (do_deeds plan (release_if_any l) S)
    released None framing = framing
    released (Some x) framing = framing_by plan (ReleaseLock x) S refl tt framing

-- ---- all events

-- what a step asks for, and what it gives
abbrev pub Steps : {A : Type 0} → Plan → Meaning A → Frames → State A → Event → Type 0
Steps plan m F S e = Agrees plan (frames_step F e).stacks (frames_step F e).begun (after plan m S e)

pub event_step : {A : Type 0} (plan : Plan) (m : Meaning A) (F : Frames) (S : State A) (e : Event) → may plan m S e ≡ true → KnownAll plan S → Once S.locks → F.number ≡ S.number → Agrees plan F.stacks F.begun S → Steps plan m F S e
event_step plan m F S (event.Start k c o r) h known once n q =
    subst (λ f. Agrees plan (pushed k.0 f F.stacks) (F.begun ++ record { frame = f; callback = c; object = o.id.0 } ∷ []) (after plan m S (event.Start k c o r))) (ap (λ x. x + 1) (sym n))
    (start_step plan m F.stacks F.begun S k c o r h known q)
event_step plan m F S (event.End k c o v) h known once n q = end_step plan m F.stacks F.begun S k c o v h known once q
event_step plan m F S (event.Park k f) h known once n q = park_step plan m F.stacks F.begun S k f h known q
event_step plan m F S (event.Unpark k f) h known once n q = unpark_step plan m F.stacks F.begun S k f h known q
event_step plan m F S (event.Did k c v) h known once n q = did_step plan m F.stacks F.begun S k c.kind c.count c.a c.b c.c v h known once q
event_step plan m F S (event.Waiting k c) h known once n q = quiet_step plan m F.stacks F.begun S (event.Waiting k c) h known refl refl refl refl (waits_not plan S c.kind c.count c.a c.b c.c (waiting_tells plan m S k c h).unmet) q
event_step plan m F S e h known once n q = quiet_step plan m F.stacks F.begun S e h known refl refl refl refl refl q

pub number_step : (F : Frames) (e : Event) → (frames_step F e).number ≡ F.number + 1
number_step F (event.Start cpu c o r) = refl
number_step F _ = refl

-- ---- each place of a run

-- what events say of frames, after some of them
pub record AgreesAfter {A : Type 0} (plan : Plan) (es : List Event) (S : State A) : Type 0 where
  pub number : (frames_after es).number ≡ length es
  pub agrees : Agrees plan (frames_after es).stacks (frames_after es).begun S

pub frames_next : (es : List Event) (e : Event) → frames_after (es ++ e ∷ []) ≡ frames_step (frames_after es) e
unfolding frames_after
frames_next es e = fold-append frames_step no_frames es (e ∷ [])

none_stacked : (n c : ℕ) → entry {T = List ℕ} [] (replicate n []) c ≡ []
none_stacked zero c = refl
none_stacked (suc n) zero = refl
none_stacked (suc n) (suc c) = none_stacked n c

agrees_opens : {A : Type 0} (plan : Plan) (m : Meaning A) → AgreesAfter plan [] (state_after plan m [])
unfolding state_after frames_after
agrees_opens plan m = record {
  number = refl;
  agrees = record {
    stacks = λ cpu. sym (none_stacked plan.cpus cpu);
    begun = tt;
    holds = λ f never more l is. absurd (let none = none_yet plan (λ x. x == f) in let z : ⊥ = omega arith in z);
  };
}

either_agrees : {A : Type 0} (plan : Plan) (m : Meaning A) (F : Frames) (S : State A) (offered : List Event) (e : Event) → (may plan m S e ≡ true) ⊎ IsTick m S offered e → KnownAll plan S → Once S.locks → F.number ≡ S.number → Agrees plan F.stacks F.begun S → Steps plan m F S e
either_agrees plan m F S offered e (inl h) known once n q = event_step plan m F S e h known once n q
either_agrees plan m F S offered e (inr t) known once n q = subst (Steps plan m F S) (sym t.tick) (record { stacks = q.stacks; begun = q.begun; holds = q.holds })

once_now : {A : Type 0} (plan : Plan) (m : Meaning A) (run : List Event) → IsRunOf plan m run → Once (state_after plan m run).locks
once_now {A} plan m run is_run = at_the_end plan m (λ (S : State A). Once S.locks) run (once_at_each plan m run is_run (length run))

goes_on : {A : Type 0} (plan : Plan) (m : Meaning A) (es : List Event) (e : Event) (place : ℕ) → IsRunOf plan m es → AgreesAfter plan es (state_after plan m es) → slice_get (ready plan m es) place ≡ Some e → AgreesAfter plan (es ++ e ∷ []) (state_after plan m (es ++ e ∷ []))
goes_on {A} plan m es e place is_run k at =
    let S : State A = state_after plan m es in
    let F : Frames = frames_after es in
    let n : F.number ≡ S.number = k.number ∙ sym (number_is plan m es is_run) in
    let next : Steps plan m F S e = either_agrees plan m F S (ready plan m es) e (follows plan m es place e at) (all_known plan m es is_run) (once_now plan m es is_run) n k.agrees in
    record {
      number = ap (λ (G : Frames). G.number) (frames_next es e) ∙ number_step F e ∙ ap (λ x. x + 1) k.number ∙ sym (length-append es (e ∷ []));
      agrees = subst (λ (G : Frames). Agrees plan G.stacks G.begun (state_after plan m (es ++ e ∷ []))) (sym (frames_next es e))
          (subst (λ (U : State A). Agrees plan (frames_step F e).stacks (frames_step F e).begun U) (sym (state_goes_on plan m es e)) next);
    }

pub agrees_at_each : {A : Type 0} (plan : Plan) (m : Meaning A) (run : List Event) → IsRunOf plan m run → (n : ℕ) → AgreesAfter plan (take n run) (state_after plan m (take n run))
agrees_at_each plan m run is_run n = along_run (λ es. AgreesAfter plan es (state_after plan m es)) (ready plan m) run (agrees_opens plan m) (λ before e place so_far held at. goes_on plan m before e place so_far held at) is_run n
