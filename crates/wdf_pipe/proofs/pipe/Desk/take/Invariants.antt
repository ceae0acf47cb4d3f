-- Nothing was taken yet.
use Rattle.std.proofs.Common.{◌≡◌}
use Rattle.crossbeam_queue.specs.Passes.{view, IsPassOf}
use Rattle.wdf_pipe.proofs.pipe.Desk.take.Given as goal

abbrev pub invariant-loop : goal.invariant-loop
invariant-loop g l = IsPassOf l.self.pipe.now l.pass × (view l.pass ≡ view l.initial.pass)
