-- One line more.
use Rattle.std.proofs.Common.{[], ◌∷◌, ◌++◌, ap, sym, ◌∙◌, arith}
use Rattle.wdf_model.specs.rules.Waits.{wait_list}
use Rattle.wdf_core.proofs.Walking.{item_at, one_taken, rest_left, some_left}
use Rattle.wdf_core.proofs.machine.Core.wait_list.Goals as goal

pub next_wait-requires : goal.next_wait-requires
next_wait-requires g c =
    some_left (wait_list c.args.self.now.plan g.A.Agent.meaning c.args.self.now.journal) _ c.loop-line._line c.loop-line.invariant.left (omega (arith, c.wait_len-line-end.ensures))

pub loop-line-preserved : goal.loop-line-preserved
loop-line-preserved g c =
    let all = wait_list c.args.self.now.plan g.A.Agent.meaning c.args.self.now.journal in
    let opens = sym c.loop-line.invariant.left ∙ c.next_wait.ensures in
    record {
      came = c.in_ok-push.ensures.items ∙ ap (λ ws. ws ++ c.next_wait.result.0 ∷ []) c.loop-line.invariant.came
          ∙ sym (one_taken all c.loop-line._line _ (item_at all _ c.loop-line._line _ opens));
      left = rest_left all _ c.loop-line._line _ opens;
    }
