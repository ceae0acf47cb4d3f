-- The children that the events so far give, after the declared ones.
use Rattle.std.proofs.Common.{◌≡◌, ℕ}
use Rattle.check_past.specs.Maps.{group_at}
use Rattle.check_past.specs.Groups.{children_by}
use Rattle.check_past.proofs.kin.Kin.read_children.Given as goal

abbrev pub invariant-loop-event : goal.invariant-loop-event
invariant-loop-event l = (o : ℕ) → group_at l.children o ≡ children_by l.self.plan l.self.all o l.event-index
