-- The clause is the lemma on being alone.
use Rattle.law_trace_interrupts.proofs.Alone.{alone_at_each}
use Rattle.law_trace_interrupts.proofs.runs_serve_alone.Goals as goal

pub returns : goal.returns
returns g c = alone_at_each
