-- The last line of a table more.
use Rattle.std.proofs.Common.{refl, rules, arith}
use Rattle.wdf_sum.proofs.Taking.{end_read}
use Rattle.wdf_sum.proofs.tables.Tables.take_end.Goals as goal

pub returns-in_ok-push_end-in-Some-clause-taken : goal.returns-in_ok-push_end-in-Some-clause-taken
returns-in_ok-push_end-in-Some-clause-taken c = λ lines proper read.
    end_read lines c.args.end c.args.self.now _ read proper refl c.in_ok-push_end-in-Some.ensures refl (omega (arith, c.if-self-end.false, c.requires)) refl (search rules)
