-- What is written so far is a front of the piece, and nothing failed.
use Rattle.std.proofs.Common.{length, ◌-◌, ◌≡◌, ◌≤◌, [], take}
use Rattle.wdf_io.specs.Outside.{Gains}
use Rattle.wdf_io.proofs.write_all.Given as goal

abbrev pub invariant-loop-done : goal.invariant-loop-done
invariant-loop-done g l = record {
  within : l.done ≤ length l.piece;
  gained : Gains (g.K.Sink.written l.initial.sink) (g.K.Sink.written l.sink) (take l.done l.piece);
  quiet : g.K.Sink.faults l.sink ≡ g.K.Sink.faults l.initial.sink;
  empty : l.piece ≡ [] → l.sink ≡ l.initial.sink;
}

abbrev pub decreases-loop-done : goal.decreases-loop-done
decreases-loop-done g l = length l.piece - l.done
