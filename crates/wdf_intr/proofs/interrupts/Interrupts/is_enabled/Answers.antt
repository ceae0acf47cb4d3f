-- The set says it.
use Rattle.std.proofs.Common.{sym, ap, ◌∙◌}
use Rattle.wdf_model.specs.parts.Interrupts.{Interrupts, is_enabled}
use Rattle.wdf_intr.proofs.Writing.{read, member_low}
use Rattle.wdf_intr.proofs.interrupts.Interrupts.is_enabled.Goals as goal

pub returns-clause-value : goal.returns-clause-value
returns-clause-value c = c.contains.ensures ∙ read c.self.inside.set c.self.inside.end c.args.i.0 c.self.invariant ∙ ap (λ (I : Interrupts). is_enabled I c.args.i.0) c.self.view_is

pub returns-clause-there : goal.returns-clause-there
returns-clause-there c = λ there. member_low c.self.inside.set c.self.inside.end c.args.i.0 c.self.invariant (sym c.contains.ensures ∙ there)
