-- Each law is kept, so all are.
use Rattle.std.proofs.Common.{List}
use Rattle.wdf_base.specs.Meaning.{Meaning}
use Rattle.wdf_base.specs.Resolved.{IsResolved}
use Rattle.wdf_base.specs.declared.plan.Plan.{Plan}
use Rattle.wdf_base.specs.declared.event.Event.{Event}
use Rattle.wdf_model.specs.rules.Ready.{IsRunOf}
use Rattle.law_trace_families.proofs.Drained.{law_1_at_each}
use Rattle.law_trace_families.proofs.Orders.{law_3_at_each, law_9_at_each}
use Rattle.law_trace_scopes.proofs.Scopes.{law_2_at_each}
use Rattle.law_trace_interrupts.proofs.Laws.{law_4_at_each}
use Rattle.law_trace_queues.proofs.Laws.{law_5_at_each}
use Rattle.law_trace_settled.proofs.Laws.{law_6_at_each}
use Rattle.law_trace_requests.proofs.CancelsOverRuns.{law_7_at_each}
use Rattle.law_trace_requests.proofs.Turns.{law_8_at_each}
use Rattle.law_trace_all.specs.Kept.{KeepsLaws}

pub all_kept : {A : Type 0} (plan : Plan) (m : Meaning A) (run : List Event) → IsResolved plan → IsRunOf plan m run → KeepsLaws plan run
all_kept plan m run resolved is_run k e at = record {
  completed = law_1_at_each plan m run k e is_run at;
  scoped = law_2_at_each plan m run k e resolved is_run at;
  cleaned = law_3_at_each plan m run k e is_run at;
  served = law_4_at_each plan m run k e resolved is_run at;
  powered = law_5_at_each plan m run k e resolved is_run at;
  acknowledged = law_6_at_each plan m run k e resolved is_run at;
  cancelled = law_7_at_each plan m run k e is_run at;
  in_turn = law_8_at_each plan m run k e is_run at;
  ended = law_9_at_each plan m run k e is_run at;
}
