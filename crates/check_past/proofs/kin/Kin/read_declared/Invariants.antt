-- The declared children so far.
use Rattle.std.proofs.Common.{◌≡◌, ℕ}
use Rattle.check_past.specs.Maps.{group_at}
use Rattle.check_past.specs.Groups.{declared_children}
use Rattle.check_past.proofs.kin.Kin.read_declared.Given as goal

abbrev pub invariant-loop-n : goal.invariant-loop-n
invariant-loop-n l = (o : ℕ) → group_at l.children o ≡ declared_children l.self.plan l.self.all o l.n
