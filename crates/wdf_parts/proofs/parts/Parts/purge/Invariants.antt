-- What waits still is withdrawn next; each waits once, and is there.
use Rattle.std.proofs.Common.{◌≡◌, ◌≤◌, ◌<◌, ◌==◌, ℕ, count_by, fold, length}
use Rattle.wdf_model.specs.parts.Queues.{waiting_in}
use Rattle.wdf_model.specs.declared.deed.Deed.TheVariants.{PurgeQueue}
use Rattle.wdf_model.specs.rules.Deeds.{do_deed, withdraw}
use Rattle.wdf_parts.proofs.parts.Parts.purge.Given as goal

abbrev pub invariant-waiting : goal.invariant-waiting
invariant-waiting g l = record {
  rest : fold (withdraw l.plan l.q.0) l.self (waiting_in l.self.queues l.q.0) ≡ do_deed l.plan (PurgeQueue l.q) l.fn.self;
  once : (r : ℕ) → count_by (λ x. x == r) (waiting_in l.self.queues l.q.0) ≤ 1;
  there : (r : ℕ) → 1 ≤ count_by (λ x. x == r) (waiting_in l.self.queues l.q.0) → r < length l.self.requests.all;
}

abbrev pub decreases-waiting : goal.decreases-waiting
decreases-waiting g l = length (waiting_in l.self.queues l.q.0)
