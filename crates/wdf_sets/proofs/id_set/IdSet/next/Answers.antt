-- The first member from the id on is below the end, or none is.
use Rattle.std.proofs.Common.{sym, ◌∙◌, arith}
use Rattle.wdf_sets.proofs.Nexts.{next_is, next_past, none_next}
use Rattle.wdf_sets.proofs.id_set.IdSet.next.Goals as goal

pub returns-then-found-end : goal.returns-then-found-end
returns-then-found-end c = next_is c.args.self.now c.args.from c.args.end c.in-Some.found (sym c.in-Some.is ∙ c.from.ensures) c.if-found-end.true

pub returns-else-found-end : goal.returns-else-found-end
returns-else-found-end c = next_past c.args.self.now c.args.from c.args.end c.in-Some.found (sym c.in-Some.is ∙ c.from.ensures) (omega (arith, c.if-found-end.false))

pub returns-in-None : goal.returns-in-None
returns-in-None c = none_next c.args.self.now c.args.from c.args.end (sym c.in-None.is ∙ c.from.ensures)
