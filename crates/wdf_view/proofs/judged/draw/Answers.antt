-- A run has no more events than its limit, which has 32 bits.
use Rattle.std.proofs.Common.{ap, arith, length, ◌≡◌, ◌≤◌, ◌<◌, ◌^◌, ◌∙◌}
use Rattle.wdf_view.proofs.judged.draw.Goals as goal

pub html-requires : goal.html-requires
html-requires g c =
    let same : length c.journal.result.now ≡ length c.args.core.now.journal = ap length c.journal.ensures in
    let run : c.journal_len-events.result ≡ length c.args.core.now.journal = c.journal_len-events.ensures.length in
    let within : c.journal_len-events.result ≤ c.args.core.now.plan.limit = c.journal_len-events.ensures.within in
    let limit : c.limit-limit.result ≡ c.args.core.now.plan.limit = c.limit-limit.ensures ∙ ap (λ plan. plan.limit) c.plan.ensures in
    let small : c.limit-limit.result < 2 ^ 32 = c.limit-limit.type_inv in
    omega (arith, same, run, within, limit, small)
