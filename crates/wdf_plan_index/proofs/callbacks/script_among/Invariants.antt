-- The places that are still to come lead to the script.
use Rattle.wdf_plan_index.proofs.Walking.{Leads}
use Rattle.wdf_plan_index.proofs.callbacks.script_among.Given as goal

abbrev pub invariant-walk : goal.invariant-walk
invariant-walk l = Leads l.plan l.callback l.owner l.script-iterator
