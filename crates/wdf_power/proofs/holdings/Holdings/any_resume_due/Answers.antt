-- A resume is due where the count isn't 0, or where one is found.
use Rattle.wdf_power.specs.Held.{holdings_in}
use Rattle.wdf_power.proofs.Readers.{due_counted, due_found}
use Rattle.wdf_power.proofs.holdings.Holdings.any_resume_due.Goals as goal

pub returns-then-d-lt-OBJECTS : goal.returns-then-d-lt-OBJECTS
returns-then-d-lt-OBJECTS c =
    let s = c.self.invariant in
    rw (← c.self.view_is, c.of.ensures) (due_counted (holdings_in c.self.inside) c.self.inside.due c.args.d.0 s.due c.if-d-lt-OBJECTS.true)

pub returns-else-d-lt-OBJECTS : goal.returns-else-d-lt-OBJECTS
returns-else-d-lt-OBJECTS c =
    rw (← c.self.view_is, c.some_due.ensures, c.deref.ensures.value, c.deref-else-d-lt-OBJECTS.ensures.value) (due_found (holdings_in c.self.inside) c.args.d.0)
