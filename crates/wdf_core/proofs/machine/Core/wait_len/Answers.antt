-- Only a stuck run has lines, and they are those of the state at hand.
use Rattle.std.proofs.Common.{ap, sym, length, ◌∙◌}
use Rattle.wdf_core.proofs.Journal.{no_lines, stuck_lines}
use Rattle.wdf_core.proofs.machine.Core.wait_len.Goals as goal

pub returns-in-Stuck : goal.returns-in-Stuck
returns-in-Stuck g c = rw (← c.self.view_is) (c.wait_lines_len.ensures ∙ ap length (stuck_lines g.A.Agent.meaning c.self.inside.plan c.self.inside.journal.items c.self.inside.parts _ _ c.self.invariant.way (rw (← c.self.view_is) at c.in-Stuck.ensures)))

pub returns-in_default : goal.returns-in_default
returns-in_default g c = rw (← c.self.view_is) (no_lines g.A.Agent.meaning c.self.inside.plan c.self.inside.journal.items c.self.inside.parts _ _ c.self.invariant.way (λ e. c.in_default.not-Stuck ((rw (← c.self.view_is) at c.ending.ensures) ∙ sym e)))
