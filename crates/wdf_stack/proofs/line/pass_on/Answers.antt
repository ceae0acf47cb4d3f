-- One request more is changed; those at other places stay.
use Rattle.std.proofs.Common.{◌∙◌, add-one, refl, arith}
use Rattle.wdf_model.specs.agents.Connector.{passed_on_one}
use Rattle.wdf_dev.proofs.Mapping.{changed_next}
use Rattle.wdf_stack.proofs.Walking.{walk_begins, walk_ends}
use Rattle.wdf_stack.proofs.line.pass_on.Goals as goal

pub loop-k-init : goal.loop-k-init
loop-k-init c = walk_begins (passed_on_one c.args.arrival) c.args.from c.args.to c.args.sent.now c.requires.others

pub loop-k-preserved : goal.loop-k-preserved
loop-k-preserved c =
    rw (c.passed_on_at.ensures, c.loop-k.invariant, add-one, changed_next (passed_on_one c.args.arrival) c.args.sent.now c.loop-k.k _ (omega arith)) refl

pub returns : goal.returns
returns c = c.loop-k.invariant ∙ walk_ends (passed_on_one c.args.arrival) c.args.from c.args.to c.loop-k.k c.args.sent.now c.requires.others c.loop-k-test.false
