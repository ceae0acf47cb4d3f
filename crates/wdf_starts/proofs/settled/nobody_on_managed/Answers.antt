-- The test is that of each id that passes the first one.
use Rattle.std.proofs.Common.{rules}
use Rattle.std.proofs.lemmas.Iterator.Consumers.{YieldsList-at, YieldsList-from_filter, YieldsList-from_rest}
use Rattle.std.proofs.lemmas.Iterator.Search.{all_from_yields_List}
use Rattle.wdf_model.specs.Plans.{is_managed, queues_of}
use Rattle.wdf_starts.proofs.settled.nobody_on_managed.Goals as goal
use borrow.Author.Tests.{tests}

pub returns : goal.returns
returns g c =
    all_from_yields_List _ _ _ _ c.all.ensures.ran
    (YieldsList-from_filter _ (is_managed c.args.plan.now) (YieldsList-at c.filter.ensures.source (YieldsList-from_rest (queues_of c.args.plan.now c.args.d.0) c.queues_of.ensures.value)) c.filter.ensures.closure (λ o b f k. search (rules, tests)))
    (λ o b f k. search (rules, tests))
