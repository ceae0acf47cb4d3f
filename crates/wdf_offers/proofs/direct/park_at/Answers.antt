-- The group has one place.
use Rattle.std.proofs.Common.{◌<◌, arith}
use Rattle.wdf_model.specs.declared.enums.Group.TheVariants as group
use Rattle.wdf_offers.specs.Search.{offered_from}
use Rattle.wdf_offers.proofs.Own.{first_alone, none_alone, park_alone, passed_alone}
use Rattle.wdf_offers.proofs.direct.park_at.Goals as goal

pub returns-then-k-eq0 : goal.returns-then-k-eq0
returns-then-k-eq0 g c =
    let is = park_alone c.args.plan.now g.A.Agent.meaning c.args.parts.now c.args.cpu.0 c.park_offered.result c.park_offered.ensures in
    first_alone (offered_from c.args.plan.now g.A.Agent.meaning c.args.parts.now (group.Parks c.args.cpu.0) 0) c.park_offered.result c.args.k c.in-Some.event is c.in-Some.is c.if-k-eq0.true

pub returns-else-k-eq0 : goal.returns-else-k-eq0
returns-else-k-eq0 g c =
    let is = park_alone c.args.plan.now g.A.Agent.meaning c.args.parts.now c.args.cpu.0 c.park_offered.result c.park_offered.ensures in
    let after : 0 < c.args.k = omega (arith, c.if-k-eq0.false) in
    passed_alone (offered_from c.args.plan.now g.A.Agent.meaning c.args.parts.now (group.Parks c.args.cpu.0) 0) c.park_offered.result c.args.k c.in-Some.event is c.in-Some.is after

pub returns-in-None : goal.returns-in-None
returns-in-None g c =
    let is = park_alone c.args.plan.now g.A.Agent.meaning c.args.parts.now c.args.cpu.0 c.park_offered.result c.park_offered.ensures in
    none_alone (offered_from c.args.plan.now g.A.Agent.meaning c.args.parts.now (group.Parks c.args.cpu.0) 0) c.park_offered.result c.args.k is c.in-None.is
