-- The deeds of frames that go on, wake, end, leave their processor and come back can be done.
use Rattle.std.proofs.Common.{◌≡◌, ℕ, ◌<◌, Bool, true, false, ◌&&◌, List, [], ◌∷◌, ◌++◌, length, fold, Option, Some, None, is_some, refl, ap, ◌∙◌, arith}
use Rattle.wdf_base.specs.declared.ids.Cpu.{Cpu}
use Rattle.wdf_base.specs.declared.ids.FrameId.{FrameId}
use Rattle.wdf_base.specs.declared.ids.Handle.{Handle}
use Rattle.wdf_base.specs.declared.value.Value.{Value}
use Rattle.wdf_base.specs.declared.object.LockRef.{LockRef}
use Rattle.wdf_base.specs.declared.call.Arg.{Arg}
use Rattle.wdf_base.specs.declared.call.Call.{Call}
use Rattle.wdf_base.specs.declared.call.CallKind.{CallKind}
use Rattle.wdf_base.specs.declared.call.CallKind.TheVariants as call
use Rattle.wdf_base.specs.declared.call.Callback.{Callback}
use Rattle.wdf_base.specs.declared.rank.Rank.{Rank}
use Rattle.wdf_base.specs.declared.rank.Rank.TheVariants as rank
use Rattle.wdf_base.specs.declared.plan.Plan.{Plan}
use Rattle.wdf_base.specs.declared.frame.Frame.{Frame}
use Rattle.wdf_base.specs.Callbacks.{row_of}
use Rattle.wdf_base.specs.Lives.{is_live}
use Rattle.wdf_model.specs.declared.enums.Mode.TheVariants as mode
use Rattle.wdf_model.specs.declared.room.TheConstants.{EVENTS, FRAMES}
use Rattle.wdf_model.specs.Tables.{contains, same_id}
use Rattle.wdf_model.specs.Plans.{managed_queues, queues_of}
use Rattle.wdf_model.specs.parts.Tree.{life_of, subtree}
use Rattle.wdf_model.specs.parts.Cpus.{frame_of, top}
use Rattle.wdf_model.specs.parts.Locks.{lock_of_callback}
use Rattle.wdf_model.specs.parts.Requests as requests
use Rattle.wdf_model.specs.parts.Queues.{waiting_in}
use Rattle.wdf_model.specs.parts.Control as control
use Rattle.wdf_model.specs.State.{State, declared_in, is_with_driver}
use Rattle.wdf_model.specs.Ids.{cpu_of, frame_id}
use Rattle.wdf_model.specs.declared.deed.Deed.{Deed}
use Rattle.wdf_model.specs.declared.deed.Deed.TheVariants.{Arrive, AskDeletion, Requeue, Forward, GiveBack, SendRequest, CompleteRequest, PurgeQueue, CloseReturning, CloseDevice, GoOn, PopFrame, PushFrame, ParkFrame, UnparkFrame}
use Rattle.wdf_model.specs.rules.Deeds.{ask_object, close_queue, close_returning, do_deed, do_deeds, give_up, give_up_if, withdraw}
use Rattle.wdf_model.specs.rules.Calls.{is_met, second_deeds}
use Rattle.wdf_model.specs.rules.Starts.{end_deeds, end_of_step, release_if_any}
use Rattle.wdf_model.specs.rules.Steps.{answered, by_top, is_cpu, may_park, may_unpark, woke_deeds}
use Rattle.wdf_model.proofs.Tests.{both_left, both_right}
use Rattle.law_machine_base.proofs.OwnEvents.{IsEnd, IsWoke}
use Rattle.law_machine_base.proofs.FitsOfEvents.{by_its_top}
use Rattle.law_machine_counts.proofs.StillDeeds.{all_still, is_still_deed, second_none}
use Rattle.wdf_model.specs.rules.Room.{AreDoable}
use Rattle.law_machine_room.proofs.DoableDeclared.{nearest_there}
use Rattle.law_machine_room.proofs.Doable.{Fine, cpu_there, doable_after, locks_few, stack_there, top_few, top_there}
use Rattle.law_machine_counts.proofs.Arrived.{arrived_cpus}

-- ---- still deeds leave the map of frames alone

asks_one : {A : Type 0} (S : State A) (x : ℕ) (b : Bool) → is_live (life_of S.tree x) ≡ b → (ask_object S x).cpus ≡ S.cpus
asks_one S x true e = rw e refl
asks_one S x false e = rw e refl

asks_all : {A : Type 0} (xs : List ℕ) (S : State A) → (fold ask_object S xs).cpus ≡ S.cpus
asks_all [] S = refl
asks_all (x ∷ xs) S = asks_all xs (ask_object S x) ∙ asks_one S x (is_live (life_of S.tree x)) refl

gives_up_by : {A : Type 0} (S : State A) (r : ℕ) (b : Bool) → is_with_driver S r ≡ b → (give_up S r).cpus ≡ S.cpus
gives_up_by S r true e = rw e refl
gives_up_by S r false e = rw e refl

gives_up : {A : Type 0} (S : State A) (r : ℕ) → (give_up S r).cpus ≡ S.cpus
gives_up S r = gives_up_by S r (is_with_driver S r) refl

gives_up_if : {A : Type 0} (S : State A) (forget : Bool) (r : ℕ) → (give_up_if forget S r).cpus ≡ S.cpus
gives_up_if S true r = gives_up S r
gives_up_if S false r = refl

withdraws : {A : Type 0} (plan : Plan) (q : ℕ) (rs : List ℕ) (S : State A) → (fold (withdraw plan q) S rs).cpus ≡ S.cpus
withdraws plan q [] S = refl
withdraws plan q (r ∷ rs) S = withdraws plan q rs (withdraw plan q S r)

returns : {A : Type 0} (qs : List ℕ) (S : State A) → (fold close_returning S qs).cpus ≡ S.cpus
returns [] S = refl
returns (q ∷ qs) S = returns qs (close_returning S q)

closes : {A : Type 0} (qs : List ℕ) (S : State A) → (fold close_queue S qs).cpus ≡ S.cpus
closes [] S = refl
closes (q ∷ qs) S = closes qs (close_queue S q)

still_frames : {A : Type 0} (plan : Plan) (d : Deed) (S : State A) → is_still_deed d ≡ true → (do_deed plan d S).cpus.frames ≡ S.cpus.frames
still_frames plan (Arrive device info p) S h = ap (λ c. c.frames) (arrived_cpus S device.0 info p)
still_frames plan (AskDeletion o) S h = ap (λ c. c.frames) (asks_all (subtree S.tree o.0) S)
still_frames plan (Requeue r q) S h = ap (λ c. c.frames) (gives_up S r.0)
still_frames plan (Forward r q) S h = ap (λ c. c.frames) (gives_up S r.0)
still_frames plan (GiveBack r q) S h = ap (λ c. c.frames) (gives_up S r.0)
still_frames plan (SendRequest r t forget) S h = ap (λ c. c.frames) (gives_up_if S forget r.0)
still_frames plan (CompleteRequest r) S h =
    ap (λ c. c.frames) (asks_all (subtree (give_up S r.0).tree r.0) (record (give_up S r.0) { requests = requests.complete S.requests r.0 }) ∙ gives_up S r.0)
still_frames plan (PurgeQueue q) S h = ap (λ c. c.frames) (withdraws plan q.0 (waiting_in S.queues q.0) (record S { control = control.set_mode S.control q.0 mode.Purged }))
still_frames plan (CloseReturning d) S h = ap (λ c. c.frames) (returns (managed_queues plan d.0) S)
still_frames plan (CloseDevice d) S h = ap (λ c. c.frames) (closes (queues_of plan d.0) (record S { control = control.shut S.control d.0 }))
still_frames plan (PushFrame cpu f frame level) S h = absurd (let z : ⊥ = cc in z)
still_frames plan (GoOn f frame) S h = absurd (let z : ⊥ = cc in z)
still_frames plan (PopFrame cpu) S h = absurd (let z : ⊥ = cc in z)
still_frames plan (ParkFrame cpu) S h = absurd (let z : ⊥ = cc in z)
still_frames plan (UnparkFrame cpu f) S h = absurd (let z : ⊥ = cc in z)
still_frames plan _ S h = refl

pub frames_stay : {A : Type 0} (plan : Plan) (ds : List Deed) (S : State A) → all_still ds ≡ true → (do_deeds plan ds S).cpus.frames ≡ S.cpus.frames
frames_stay plan [] S h = refl
frames_stay plan (d ∷ ds) S h =
    frames_stay plan ds (do_deed plan d S) (both_right (is_still_deed d) (all_still ds) h) ∙ still_frames plan d S (both_left (is_still_deed d) (all_still ds) h)

-- a frame goes on after deeds that leave the frames alone
pub goes_on_after : {A : Type 0} (plan : Plan) (ds : List Deed) (S : State A) (f : ℕ) (frame : Frame) → f < length S.cpus.frames → all_still ds ≡ true
    → AreDoable plan ds S → AreDoable plan (ds ++ GoOn (frame_id f) frame ∷ []) S
goes_on_after plan ds S f frame there still h =
    let same = ap (λ fs. length fs) (frames_stay plan ds S still) in
    doable_after plan ds (GoOn (frame_id f) frame ∷ []) S h (let now : f < length (do_deeds plan ds S).cpus.frames = omega arith in (now, tt))

-- ---- locks

-- the wait for a lock is over
pub second_doable : {A : Type 0} (plan : Plan) (U : State A) (f : ℕ) (k : CallKind) (n : ℕ) (a b x : Arg) → f < FRAMES → length U.locks.held < EVENTS
    → is_met U (record { kind = k; count = n; a = a; b = b; c = x }) ≡ true → AreDoable plan (second_deeds f (record { kind = k; count = n; a = a; b = b; c = x })) U
second_doable plan U f call.WdfSpinLockAcquire n a b x few room h = ((h, few, room), tt)
second_doable plan U f call.WdfWaitLockAcquire n a b x few room h = ((h, few, room), tt)
second_doable plan U f call.WdfInterruptAcquireLock n a b x few room h = ((h, few, room), tt)
second_doable plan U f _ n a b x few room h = tt

pub same_there : (o : Option ℕ) (f : ℕ) → same_id o f ≡ true → is_some o ≡ true
same_there None f h = h
same_there (Some g) f h = refl

module _ {A : Type 0} {plan : Plan} {S : State A} (k : Fine plan S) where
  -- ---- a frame goes on

  moving_by : (next : ℕ → Frame → Frame) (cpu : ℕ) (there : Option ℕ) → top S.cpus cpu ≡ there
      → AreDoable plan (elim there as (λ _. List Deed) [ None ↦ [] | Some f ↦ GoOn (frame_id f) (next f (frame_of S.cpus f)) ∷ [] ]) S
  moving_by next cpu None h = tt
  moving_by next cpu (Some f) h = (top_there k cpu f h, tt)

  pub moving_doable : (next : ℕ → Frame → Frame) (cpu : ℕ) → AreDoable plan (by_top S cpu (λ f frame. GoOn (frame_id f) (next f frame) ∷ [])) S
  moving_doable next cpu = moving_by next cpu (top S.cpus cpu) refl

  pub woke_doable : (cpu : Cpu) (c : Call) (v : Value) → IsWoke S cpu.0 c v → AreDoable plan (by_top S cpu.0 (woke_deeds plan c v)) S
  woke_doable cpu c v w =
      rw (by_its_top S cpu.0 w.frame (woke_deeds plan c v) w.top)
      (goes_on_after plan (second_deeds w.frame c) S w.frame (answered plan (frame_of S.cpus w.frame) v) (top_there k cpu.0 w.frame w.top)
      (second_none w.frame c)
      (second_doable plan S w.frame c.kind c.count c.a c.b c.c (top_few k cpu.0 w.frame w.top) (locks_few k) w.met))

  -- ---- a frame leaves its processor, and comes back

  pub park_doable : (cpu : Cpu) (f : FrameId) → may_park S cpu.0 f.0 ≡ true → AreDoable plan (ParkFrame cpu ∷ []) S
  park_doable cpu f h =
      let top_is : same_id (top S.cpus cpu.0) f.0 ≡ true = search (both_left, both_right) in
      (cpu_there k cpu.0 (same_there (top S.cpus cpu.0) f.0 top_is), tt)

  pub unpark_doable : (cpu : Cpu) (f : FrameId) → (is_cpu plan cpu && may_unpark S cpu.0 f.0) ≡ true → AreDoable plan (UnparkFrame cpu f ∷ []) S
  unpark_doable cpu f h =
      let parked : contains f.0 S.cpus.parked ≡ true = search (both_left, both_right) in
      ((stack_there k cpu (both_left (is_cpu plan cpu) (may_unpark S cpu.0 f.0) h), parked), tt)

  -- ---- a frame ends

  ends_step : (r : Rank) (c : Callback) (o : ℕ) (v : Value) (U : State A) → U.pnp ≡ S.pnp → AreDoable plan (end_of_step plan S r c o v) U
  ends_step rank.Sequence c o v U e = let near = nearest_there k o in let size = k.room.sizes.sequences in (rw e (omega arith), tt)
  ends_step _ c o v U e = tt

  ends_frame : (cpu f : ℕ) (l : Option LockRef) (es : List Deed) → top S.cpus cpu ≡ Some f → ((U : State A) → U.pnp ≡ S.pnp → AreDoable plan es U)
      → AreDoable plan (release_if_any l ++ PopFrame (cpu_of cpu) ∷ es) S
  ends_frame cpu f None es t h = let some_ : is_some (top S.cpus cpu) ≡ true = rw t refl in ((cpu_there k cpu some_, some_), h _ refl)
  ends_frame cpu f (Some l) es t h = let some_ : is_some (top S.cpus cpu) ≡ true = rw t refl in (tt, ((cpu_there k cpu some_, some_), h _ refl))

  pub end_doable : (cpu : Cpu) (c : Callback) (o : Handle) (v : Value) → IsEnd plan S cpu.0 c o v → AreDoable plan (end_deeds plan S cpu.0 c o.id.0 v) S
  end_doable cpu c o v e =
      ends_frame cpu.0 e.frame (lock_of_callback plan c o.id.0 (declared_in plan S o.id.0)) (end_of_step plan S (row_of c).rank c o.id.0 v) e.about.top
      (λ U same. ends_step (row_of c).rank c o.id.0 v U same)
