-- The least law that an event breaks, by what was read of those before.
use Rattle.std.proofs.Common.{◌≡◌, ℕ, List, take, slice_get, Option, Some, sym, ap, ◌∙◌}
use Rattle.wdf_base.specs.declared.plan.Plan.{Plan}
use Rattle.wdf_base.specs.declared.event.Event.{Event}
use Rattle.wdf_laws.specs.First.{broken_by, broken_in, broken_at}
use Rattle.wdf_laws.specs.Frames.{Frames, frames_after}
use Rattle.check_past.specs.Past.{Read, before}

pub broken_here : (plan : Plan) (es : List Event) (k : ℕ) (R : Read) (F : Frames) (e : Event) (r : Option ℕ) → slice_get es k ≡ Some e → R ≡ record { plan = plan; all = es; number = k } → F ≡ frames_after (take k es)
    → r ≡ broken_by R.plan R.all (before R) F e → broken_at plan es k ≡ r
broken_here plan es k R F e r h is_read is_frames is =
    ap (broken_in plan es k) h
    ∙ sym (is ∙ ap (λ (S : Read). broken_by S.plan S.all (before S) F e) is_read ∙ ap (λ (G : Frames). broken_by plan es (take k es) G e) is_frames)
