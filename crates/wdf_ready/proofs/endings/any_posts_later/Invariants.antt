-- No agent so far has a later post.
use Rattle.std.proofs.Common.{ℕ, ◌≡◌, ◌<◌, false}
use Rattle.wdf_ready.proofs.AnyOf.{has_at}
use Rattle.wdf_ready.proofs.endings.any_posts_later.Given as goal

abbrev pub invariant-loop-agent : goal.invariant-loop-agent
invariant-loop-agent g l = (j : ℕ) → j < l.agent → has_at g.A.Agent.meaning.next l.parts.agents j ≡ false
