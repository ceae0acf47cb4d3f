-- The events of a run are of a plan, one event after the other.
use Rattle.std.proofs.Common.{◌∷◌, ◌++◌, List, [], inl, inr, subst}
use Rattle.wdf_base.specs.declared.plan.Plan.{Plan}
use Rattle.wdf_base.specs.declared.event.Event.{Event}
use Rattle.wdf_model.proofs.Runs.{split_last}
use Rattle.wdf_trace.specs.Events.{IsEventOf}
use Rattle.wdf_run_text.specs.Texts.{HasEventsOf}

pub none_among : (plan : Plan) → HasEventsOf plan []
none_among plan = λ event among. let z : ⊥ = cc among.1 in absurd z

pub one_more : (plan : Plan) (run : List Event) (e : Event) → HasEventsOf plan run → IsEventOf plan e → HasEventsOf plan (run ++ e ∷ [])
one_more plan run e valid more = λ event among.
    elim (split_last run e event among.0 among.1) [
      | inl p ↦ valid event (among.0, p.1)
      | inr p ↦ subst (IsEventOf plan) p.1 more
    ]
