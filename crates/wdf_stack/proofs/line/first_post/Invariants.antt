-- No request before the place has a post.
use Rattle.wdf_stack.specs.Line.{NoneBefore, has_post}
use Rattle.wdf_stack.proofs.line.first_post.Given as goal

abbrev pub invariant-loop-place : goal.invariant-loop-place
invariant-loop-place l = NoneBefore has_post l.place l.sent
