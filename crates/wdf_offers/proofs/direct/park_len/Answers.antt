-- The group has one place.
use Rattle.wdf_model.specs.declared.enums.Group.TheVariants as group
use Rattle.wdf_offers.specs.Search.{offered_from}
use Rattle.wdf_offers.proofs.Own.{one_alone, park_alone, zero_alone}
use Rattle.wdf_offers.proofs.direct.park_len.Goals as goal

pub returns-in-Some-clause-length : goal.returns-in-Some-clause-length
returns-in-Some-clause-length g c =
    one_alone (offered_from c.args.plan.now g.A.Agent.meaning c.args.parts.now (group.Parks c.args.cpu.0) 0) c.park_offered.result _ (park_alone c.args.plan.now g.A.Agent.meaning c.args.parts.now c.args.cpu.0 c.park_offered.result c.park_offered.ensures) c.in-Some.is

pub returns-in-None-clause-length : goal.returns-in-None-clause-length
returns-in-None-clause-length g c =
    zero_alone (offered_from c.args.plan.now g.A.Agent.meaning c.args.parts.now (group.Parks c.args.cpu.0) 0) c.park_offered.result (park_alone c.args.plan.now g.A.Agent.meaning c.args.parts.now c.args.cpu.0 c.park_offered.result c.park_offered.ensures) c.in-None.is
