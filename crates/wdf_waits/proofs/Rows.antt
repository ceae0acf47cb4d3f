-- The rows of calls whose requests are found by a test of places.
use Rattle.std.proofs.Common.{◌≡◌, ℕ, ◌++◌, refl, ap, ◌∙◌}
use Rattle.wdf_base.specs.declared.plan.Plan.{Plan}
use Rattle.wdf_base.specs.declared.call.Call.{Call}
use Rattle.wdf_base.specs.declared.call.CallKind.TheVariants as call
use Rattle.wdf_base.specs.Places.{is_returning_to, is_sent_to}
use Rattle.wdf_model.specs.State.{State, held_from, object_in}
use Rattle.wdf_model.specs.rules.Waits.{by_request, call_cause, requests_where}

pub purge_row : {A : Type 0} (plan : Plan) (S : State A) (c : Call) (q : ℕ) → c.kind ≡ call.WdfIoQueuePurgeSynchronously → q ≡ object_in c.a
    → by_request plan S (held_from S q ++ requests_where S (is_returning_to q)) ≡ call_cause plan S c
purge_row plan S c q h e = ap (λ o. by_request plan S (held_from S o ++ requests_where S (is_returning_to o))) e ∙ rw h refl

pub target_stop_row : {A : Type 0} (plan : Plan) (S : State A) (c : Call) (t : ℕ) → c.kind ≡ call.WdfIoTargetStop → t ≡ object_in c.a
    → by_request plan S (requests_where S (is_sent_to t)) ≡ call_cause plan S c
target_stop_row plan S c t h e = ap (λ o. by_request plan S (requests_where S (is_sent_to o))) e ∙ rw h refl
