-- No request before the place is due.
use Rattle.std.proofs.Common.{◌≡◌, ℕ, ◌<◌, Some, slice_get, false}
use Rattle.wdf_model.specs.declared.entries.SentRequest.{SentRequest}
use Rattle.wdf_model.specs.agents.LowerTarget.{is_due_sent}
use Rattle.wdf_dev.proofs.lower_target.first_due.Given as goal

abbrev pub invariant-loop-at : goal.invariant-loop-at
invariant-loop-at l = (k : ℕ) (a : SentRequest) → k < l.at → slice_get l.sent k ≡ Some a → is_due_sent l.now a ≡ false
