-- As many as are counted for the queue, where it may begin.
use Rattle.std.proofs.Common.{if◌then◌else◌, length, sym, ap, ◌∙◌}
use Rattle.wdf_offers.specs.ForRequests.{counted}
use Rattle.wdf_offers.proofs.Herds.{else_none, herd_is}
use Rattle.wdf_offers.proofs.for_requests.herd_len.Goals as goal
use Rattle.wdf_offers.proofs.for_requests.herd_len.Goals.{else-len-gt0-via-then-len-gt0+else-may_begin, else-len-gt0-via-else-len-gt0}

pub returns-then-may_begin-clause-length : goal.returns-then-may_begin-clause-length
returns-then-may_begin-clause-length g c =
    c.counted_len-len.ensures
    ∙ sym (herd_is c.args.plan.now g.A.Agent.meaning c.args.parts.now c.args.cpu.0 c.args.q.0 c.args.herd c.requires.exact
    ∙ ap (λ b. if b then length (counted c.args.herd c.args.parts.now c.args.q.0) else 0) (sym c.may_begin.ensures ∙ c.if-may_begin.true))

pub returns-else-len-gt0-clause-length : goal.returns-else-len-gt0-clause-length
returns-else-len-gt0-clause-length g c =
    sym (herd_is c.args.plan.now g.A.Agent.meaning c.args.parts.now c.args.cpu.0 c.args.q.0 c.args.herd c.requires.exact
    ∙ elim c.else-len-gt0.branch [
      | else-len-gt0-via-then-len-gt0+else-may_begin w ↦ ap (λ b. if b then length (counted c.args.herd c.args.parts.now c.args.q.0) else 0) (sym w.may_begin.ensures ∙ w.if-may_begin.false)
      | else-len-gt0-via-else-len-gt0 w ↦ else_none _ _ c.counted_len-len.result (sym c.counted_len-len.ensures) w.if-len-gt0.false
    ])
