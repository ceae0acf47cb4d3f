use Rattle.std.proofs.Common.{Some, sym, ◌∙◌}
use Rattle.wdf_defer.proofs.DpcLists.{queued_on}
use Rattle.wdf_defer.proofs.dpcs.Dpcs.is_on.Goals as goal

pub returns-in-Some : goal.returns-in-Some
returns-in-Some c =
    let on = queued_on c.self.inside.queued c.args.o.0 c.args.cpu.0 (Some c.in-Some.list) c.owner.ensures.apart (sym c.in-Some.is ∙ c.owner.ensures.list) in
    rw (c.from.ensures, ← c.self.view_is) on
