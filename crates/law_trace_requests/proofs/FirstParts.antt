-- Of what a call does, and of what a start does, the first part alone is about requests and queues.
use Rattle.std.proofs.Common.{◌≡◌, ℕ, List, [], ◌∷◌, ◌++◌, Option, Some, None, refl, ap, ◌∙◌}
use Rattle.wdf_base.specs.declared.plan.Plan.{Plan}
use Rattle.wdf_base.specs.declared.value.Value.{Value}
use Rattle.wdf_base.specs.declared.object.LockRef.{LockRef}
use Rattle.wdf_base.specs.declared.call.Arg.{Arg}
use Rattle.wdf_base.specs.declared.call.Call.{Call}
use Rattle.wdf_base.specs.declared.call.CallKind.{CallKind}
use Rattle.wdf_base.specs.declared.call.CallKind.TheVariants as call
use Rattle.wdf_base.specs.declared.frame.Frame.{Frame}
use Rattle.wdf_model.specs.parts.Cpus.{Cpus, frame_of}
use Rattle.wdf_model.specs.parts.Locks.{Locks}
use Rattle.wdf_model.specs.State.{State}
use Rattle.wdf_model.specs.Ids.{cpu_of, frame_id, irql_of}
use Rattle.wdf_model.specs.declared.deed.Deed.{Deed}
use Rattle.wdf_model.specs.declared.deed.Deed.TheVariants.{GoOn, PushFrame}
use Rattle.wdf_model.specs.rules.Deeds.{do_deed, do_deeds}
use Rattle.wdf_model.specs.rules.Calls.{outcome, second_deeds}
use Rattle.wdf_model.specs.rules.Starts.{take_if_any}
use Rattle.wdf_model.specs.rules.Steps.{answered, by_top, did_deeds, waiting, waiting_deeds, woke_deeds}
use Rattle.law_machine_base.proofs.OwnEvents.{IsDid, IsWaiting, IsWoke}
use Rattle.law_machine_base.proofs.FitsOfEvents.{by_its_top}
use Rattle.law_machine_counts.proofs.StepStates.{in_turn}

-- a reader of no lock and no processor
module _ {A X : Type 0} (reads : State A → X) (apart : (T : State A) (L : Locks) (C : Cpus) → reads (record T { locks = L; cpus = C }) ≡ reads T) (plan : Plan) where
  second_reads : (T : State A) (f : ℕ) (k : CallKind) (n : ℕ) (a b x : Arg) → reads (do_deeds plan (second_deeds f (record { kind = k; count = n; a = a; b = b; c = x })) T) ≡ reads T
  second_reads T f call.WdfSpinLockAcquire n a b x = apart T _ T.cpus
  second_reads T f call.WdfWaitLockAcquire n a b x = apart T _ T.cpus
  second_reads T f call.WdfInterruptAcquireLock n a b x = apart T _ T.cpus
  second_reads T f _ n a b x = refl

  did_reads : (S : State A) (cpu f : ℕ) (c : Call) (v : Value) (frame : Frame) → reads (do_deeds plan (did_deeds plan S cpu c v f frame) S) ≡ reads (do_deeds plan (outcome plan S cpu f c).deeds S)
  did_reads S cpu f c v frame =
      ap reads (in_turn plan ((outcome plan S cpu f c).deeds ++ second_deeds f c) (GoOn (frame_id f) (answered plan frame v) ∷ []) S)
      ∙ apart (do_deeds plan ((outcome plan S cpu f c).deeds ++ second_deeds f c) S) (do_deeds plan ((outcome plan S cpu f c).deeds ++ second_deeds f c) S).locks _
      ∙ ap reads (in_turn plan (outcome plan S cpu f c).deeds (second_deeds f c) S)
      ∙ second_reads (do_deeds plan (outcome plan S cpu f c).deeds S) f c.kind c.count c.a c.b c.c

  taking_reads : (T : State A) (f : ℕ) (l : Option LockRef) → reads (do_deeds plan (take_if_any f l) T) ≡ reads T
  taking_reads T f None = refl
  taking_reads T f (Some l) = apart T _ T.cpus

  pub start_reads : (S : State A) (ds : List Deed) (cpu f : ℕ) (frame : Frame) (level : ℕ) (l : Option LockRef) → reads (do_deeds plan (ds ++ PushFrame (cpu_of cpu) (frame_id f) frame (irql_of level) ∷ take_if_any f l) S) ≡ reads (do_deeds plan ds S)
  start_reads S ds cpu f frame level l =
      ap reads (in_turn plan ds (PushFrame (cpu_of cpu) (frame_id f) frame (irql_of level) ∷ take_if_any f l) S)
      ∙ taking_reads (do_deed plan (PushFrame (cpu_of cpu) (frame_id f) frame (irql_of level)) (do_deeds plan ds S)) f l
      ∙ apart (do_deeds plan ds S) (do_deeds plan ds S).locks _

  waiting_reads : (S : State A) (cpu f : ℕ) (c : Call) (frame : Frame) → reads (do_deeds plan (waiting_deeds plan S cpu c f frame) S) ≡ reads (do_deeds plan (outcome plan S cpu f c).deeds S)
  waiting_reads S cpu f c frame =
      ap reads (in_turn plan (outcome plan S cpu f c).deeds (GoOn (frame_id f) (waiting frame c (outcome plan S cpu f c).answer) ∷ []) S)
      ∙ apart (do_deeds plan (outcome plan S cpu f c).deeds S) (do_deeds plan (outcome plan S cpu f c).deeds S).locks _

  woke_reads : (S : State A) (f : ℕ) (c : Call) (v : Value) (frame : Frame) → reads (do_deeds plan (woke_deeds plan c v f frame) S) ≡ reads S
  woke_reads S f c v frame =
      ap reads (in_turn plan (second_deeds f c) (GoOn (frame_id f) (answered plan frame v) ∷ []) S) ∙ apart (do_deeds plan (second_deeds f c) S) (do_deeds plan (second_deeds f c) S).locks _
      ∙ second_reads S f c.kind c.count c.a c.b c.c

  -- what is read after the event of a call
  pub did_after : (S : State A) (cpu : ℕ) (c : Call) (v : Value) (d : IsDid plan S cpu c v) → reads (do_deeds plan (by_top S cpu (did_deeds plan S cpu c v)) S) ≡ reads (do_deeds plan (outcome plan S cpu d.frame c).deeds S)
  did_after S cpu c v d = ap (λ (ds : List Deed). reads (do_deeds plan ds S)) (by_its_top S cpu d.frame (did_deeds plan S cpu c v) d.about.top) ∙ did_reads S cpu d.frame c v (frame_of S.cpus d.frame)

  pub waiting_after : (S : State A) (cpu : ℕ) (c : Call) (d : IsWaiting plan S cpu c) → reads (do_deeds plan (by_top S cpu (waiting_deeds plan S cpu c)) S) ≡ reads (do_deeds plan (outcome plan S cpu d.frame c).deeds S)
  waiting_after S cpu c d = ap (λ (ds : List Deed). reads (do_deeds plan ds S)) (by_its_top S cpu d.frame (waiting_deeds plan S cpu c) d.about.top) ∙ waiting_reads S cpu d.frame c (frame_of S.cpus d.frame)

  pub woke_after : (S : State A) (cpu : ℕ) (c : Call) (v : Value) (d : IsWoke S cpu c v) → reads (do_deeds plan (by_top S cpu (woke_deeds plan c v)) S) ≡ reads S
  woke_after S cpu c v d = ap (λ (ds : List Deed). reads (do_deeds plan ds S)) (by_its_top S cpu d.frame (woke_deeds plan c v) d.top) ∙ woke_reads S d.frame c v (frame_of S.cpus d.frame)
