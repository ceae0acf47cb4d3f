-- A frame that goes on keeps its callback, its object and its device.
use Rattle.std.proofs.Common.{ℕ, ◌≤◌, List, [], ◌∷◌, Option, Some, None, refl, ◌∙◌}
use Rattle.wdf_base.specs.declared.plan.Plan.{Plan}
use Rattle.wdf_base.specs.declared.value.Value.{Value}
use Rattle.wdf_base.specs.declared.frame.Frame.{Frame}
use Rattle.wdf_base.specs.declared.frame.Change.{Change}
use Rattle.wdf_base.specs.declared.frame.Change.TheVariants as change
use Rattle.wdf_base.specs.declared.frame.Intent.{Intent}
use Rattle.wdf_base.specs.declared.frame.Intent.TheVariants as intent
use Rattle.wdf_base.specs.declared.script.Statement.{Statement}
use Rattle.wdf_model.specs.parts.Cpus.{frame_of}
use Rattle.wdf_model.specs.Ids.{frame_id}
use Rattle.wdf_model.specs.rules.Script.{statement_at}
use Rattle.wdf_model.specs.State.{State}
use Rattle.wdf_model.specs.declared.deed.Deed.{Deed}
use Rattle.wdf_model.specs.declared.deed.Deed.TheVariants.{GoOn}
use Rattle.wdf_model.specs.rules.Deeds.{do_deeds}
use Rattle.wdf_model.specs.rules.Steps.{answered, at_next, changed, goes_on, result_of, stepped, with_answer}
use Rattle.law_machine_counts.proofs.FrameMoves.{FrameKept, kept_same}
use Rattle.law_machine_counts.proofs.StepStates.{StepsIn, deeds_stay, goes}

at_next_kept : (a : Frame) (s : Option Statement) → FrameKept a (at_next a s)
at_next_kept a None = kept_same a a refl
at_next_kept a (Some s) = record { callback = refl; object = refl; device = refl }

pub goes_on_kept : (plan : Plan) (a : Frame) → FrameKept a (goes_on plan a)
goes_on_kept plan a = at_next_kept a (statement_at plan a)

answer_kept : (a : Frame) (into : Option ℕ) (v : Value) → FrameKept a (with_answer a into v)
answer_kept a None v = kept_same a a refl
answer_kept a (Some i) v = record { callback = refl; object = refl; device = refl }

pub answered_kept : (plan : Plan) (a : Frame) (v : Value) → FrameKept a (answered plan a v)
answered_kept plan a v =
    let one : FrameKept a (goes_on plan a) = goes_on_kept plan a in
    let two : FrameKept (goes_on plan a) (with_answer (goes_on plan a) (result_of (statement_at plan a)) v) = answer_kept (goes_on plan a) (result_of (statement_at plan a)) v in
    record { callback = two.callback ∙ one.callback; object = two.object ∙ one.object; device = two.device ∙ one.device }

changed_kept : (a : Frame) (c : Change) → FrameKept a (changed a c)
changed_kept a (change.Assign i v) = record { callback = refl; object = refl; device = refl }
changed_kept a change.Branch = kept_same a a refl
changed_kept a (change.Count depth left) = record { callback = refl; object = refl; device = refl }

pub stepped_kept : (a : Frame) (i : Intent) → FrameKept a (stepped a i)
stepped_kept a (intent.Local c next) = let k : FrameKept a (changed a c) = changed_kept a c in record { callback = k.callback; object = k.object; device = k.device }
stepped_kept a _ = kept_same a a refl

-- the top frame, if any, goes on
pub moves : {A : Type 0} (plan : Plan) (S : State A) (next : Frame → Frame) (N M L : ℕ) (there : Option ℕ) → M ≤ L → ((a : Frame) → FrameKept a (next a)) → StepsIn N M S
    → StepsIn N L (do_deeds plan (elim there as (λ _. List Deed) [ None ↦ [] | Some f ↦ GoOn (frame_id f) (next (frame_of S.cpus f)) ∷ [] ]) S)
moves plan S next N M L None more k h = deeds_stay plan [] S N M L more refl refl h
moves plan S next N M L (Some f) more k h = goes plan S f (next (frame_of S.cpus f)) N M L more (k (frame_of S.cpus f)) h
