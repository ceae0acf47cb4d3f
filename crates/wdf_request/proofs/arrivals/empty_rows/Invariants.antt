use Rattle.std.proofs.Common.{◌≡◌, ◌+◌, length, vec_capacity, vec_len}
use Rattle.wdf_request.specs.Arrivals.{opening_rows}
use Rattle.wdf_request.proofs.arrivals.empty_rows.Given as goal

abbrev pub invariant-loop-agent : goal.invariant-loop-agent
invariant-loop-agent l = (l.rows.items ≡ opening_rows l.plan l.agent) × (vec_len l.rows ≡ l.agent) × (vec_capacity l.rows ≡ 1 + length l.plan.agents)
