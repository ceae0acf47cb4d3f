-- The first request that has a post, or the end.
use Rattle.std.proofs.Common.{sym, ◌∙◌}
use Rattle.wdf_stack.specs.Line.{has_post}
use Rattle.wdf_stack.proofs.Finding.{none_before_next, none_in_all}
use Rattle.wdf_stack.proofs.line.first_due.Goals as goal

pub loop-place-preserved : goal.loop-place-preserved
loop-place-preserved c = none_before_next has_post c.args.sent.now c.loop-place.place _ c.loop-place-test.true c.loop-place.invariant (sym c.has_post.ensures ∙ c.if-has_post.false)

pub returns : goal.returns
returns c = none_in_all has_post c.loop-place.place c.args.sent.now c.loop-place-test.false c.loop-place.invariant
