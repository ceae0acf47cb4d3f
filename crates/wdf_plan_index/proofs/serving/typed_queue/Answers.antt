-- The first of the queues that passes the test.
use Rattle.std.proofs.Common.{rules}
use Rattle.std.proofs.lemmas.Iterator.Consumers.{YieldsList-from_rest}
use Rattle.std.proofs.lemmas.Iterator.Search.{find_from_yields_List}
use Rattle.wdf_plan_index.proofs.serving.typed_queue.Goals as goal
use borrow.Author.Tests.{tests}

pub returns : goal.returns
returns c = find_from_yields_List _ _ _ _ c.find.ensures.ran (YieldsList-from_rest _ c.belongings_of.ensures) (λ q b f k. search (rules, tests))
