-- The first request that has a post.
use Rattle.std.proofs.Common.{sym, ap, ◌∙◌, is_some}
use Rattle.wdf_model.specs.agents.Connector.{post_of}
use Rattle.wdf_stack.specs.Line.{has_post}
use Rattle.wdf_stack.proofs.Finding.{first_answer, no_answer, none_before_next, none_posts, post_is_there}
use Rattle.wdf_stack.proofs.line.first_post.Goals as goal

pub returns-then-is_some : goal.returns-then-is_some
returns-then-is_some c =
    c.post_of-post.ensures
    ∙ first_answer (post_of c.args.room) c.args.sent.now c.loop-place.place _ c.loop-place-test.true (none_posts c.args.room c.loop-place.place c.args.sent.now c.loop-place.invariant) (ap is_some (sym c.post_of-post.ensures) ∙ sym c.is_some.ensures ∙ c.if-is_some.true)

pub loop-place-preserved : goal.loop-place-preserved
loop-place-preserved c =
    none_before_next has_post c.args.sent.now c.loop-place.place _ c.loop-place-test.true c.loop-place.invariant
    (sym (post_is_there c.args.room _) ∙ ap is_some (sym c.post_of-post.ensures) ∙ sym c.is_some.ensures ∙ c.if-is_some.false)

pub returns : goal.returns
returns c = no_answer (post_of c.args.room) c.args.sent.now c.loop-place.place c.loop-place-test.false (none_posts c.args.room c.loop-place.place c.args.sent.now c.loop-place.invariant)
