-- One line is added.
use Rattle.std.proofs.Common.{arith}
use Rattle.wdf_lint_text.proofs.Left.{line_added}
use Rattle.wdf_lint_text.proofs.push_findings.Goals as goal

pub loop-k-preserved : goal.loop-k-preserved
loop-k-preserved c =
    line_added c.args.findings.now c.loop-k.k c.loop-k.out.items c.push_finding.new.out.items c.args.out.now.items (omega (arith, c.loop-k-test.true, c.len-k-end.ensures)) c.loop-k.invariant (λ f at. c.in_ok-push_finding.ensures f at)
