use Rattle.wdf_parse.proofs.ProperNames.{formed_if}
use Rattle.wdf_parse.proofs.Uniqueness.{stands_if, none_if}
use Rattle.wdf_parse.proofs.parsing.parse.Goals as goal

pub returns-clause-stands : goal.returns-clause-stands
returns-clause-stands c = stands_if c.args.text.now c.read_text.result c.read_text.ensures.scene

pub returns-clause-formed : goal.returns-clause-formed
returns-clause-formed c =
    formed_if c.args.text.now c.read_text.result (stands_if c.args.text.now c.read_text.result c.read_text.ensures.scene)

pub returns-clause-none : goal.returns-clause-none
returns-clause-none c = none_if c.args.text.now c.read_text.result c.read_text.ensures.refused
