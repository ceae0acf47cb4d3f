-- What is done of the top frame is what its processor's event does.
use Rattle.std.proofs.Common.{◌≡◌, ℕ, List, [], Some, None, ap, sym, ◌∙◌}
use Rattle.wdf_base.specs.declared.frame.Frame.{Frame}
use Rattle.wdf_base.specs.declared.plan.Plan.{Plan}
use Rattle.wdf_model.specs.State.{State}
use Rattle.wdf_model.specs.declared.deed.Deed.{Deed}
use Rattle.wdf_model.specs.parts.Cpus.{frame_of, top}
use Rattle.wdf_model.specs.rules.Deeds.{do_deeds}
use Rattle.wdf_model.specs.rules.Steps.{by_top}

pub on_top : {A : Type 0} (plan : Plan) (S U : State A) (cpu f : ℕ) (d : ℕ → Frame → List Deed) → top S.cpus cpu ≡ Some f → U ≡ do_deeds plan (d f (frame_of S.cpus f)) S → U ≡ do_deeds plan (by_top S cpu d) S
on_top plan S U cpu f d is done = done ∙ ap (λ o. do_deeds plan (elim o as (λ _. List Deed) [ None ↦ [] | Some x ↦ d x (frame_of S.cpus x) ]) S) (sym is)
