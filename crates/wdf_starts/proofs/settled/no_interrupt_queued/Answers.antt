-- The test is that of each id.
use Rattle.std.proofs.Common.{rules}
use Rattle.std.proofs.lemmas.Iterator.Consumers.{YieldsList-from_rest}
use Rattle.std.proofs.lemmas.Iterator.Search.{all_from_yields_List}
use Rattle.wdf_starts.proofs.settled.no_interrupt_queued.Goals as goal
use borrow.Author.Tests.{tests}

pub returns : goal.returns
returns g c = all_from_yields_List _ _ _ _ c.all.ensures.ran (YieldsList-from_rest _ c.interrupts_of.ensures) (λ o b f k. search (rules, tests))
