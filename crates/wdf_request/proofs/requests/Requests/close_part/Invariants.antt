-- The requests with smaller ids are closed.
use Rattle.std.proofs.Common.{◌≡◌, length}
use Rattle.wdf_model.specs.parts.Requests.{closed_at}
use Rattle.wdf_request.specs.Closed.{is_part}
use Rattle.wdf_request.proofs.Closing.{changed_to}
use Rattle.wdf_request.proofs.requests.Requests.close_part.Given as goal

abbrev pub invariant-loop-id : goal.invariant-loop-id
invariant-loop-id l = record {
  size : length l.self.all ≡ length l.fn.self.all;
  done : l.self ≡ record l.fn.self { all = changed_to (closed_at (is_part l.part)) l.id l.fn.self.all };
}
